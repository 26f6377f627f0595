-- A node that is linked in a fresh one, as the tests do it level by level.
use Rattle.std.proofs.Common.{◌≡◌, ◌≤◌, ℕ, suc, List, [], ◌∷◌, None, true≢false, refl, sym, ap, ◌∙◌, subst, arith}
use Rattle.std.specs.Prelude.{IsSome}
use Rattle.std.specs.FinMap as map
use Rattle.arena_mem.specs.declared.place.Place.{Place}
use Rattle.arena_mem.specs.Places.{Places, Buffers, KeepsRest, KeepsBuffers}
use Rattle.pb_schema.specs.declared.schema.Schema.{Schema}
use Rattle.pb_schema.specs.Builtin.{builtin}
use Rattle.pb_schema.specs.Depth.{depth_of}
use Rattle.pb_schema.specs.Empty.{empty_with}
use Rattle.pb_schema.specs.Fits.{fields_of}
use Rattle.pb_schema.specs.HeldAt.{with_held}
use Rattle.pb_schema.specs.Kinds.{Nested}
use Rattle.pb_schema.specs.Tree.{One, Sub, Shape}
use Rattle.pb_schema.proofs.HeldLaws.{changed_no_deeper}
use Rattle.dyn_message.specs.declared.msg_ref.MsgRef.{MsgRef}
use Rattle.dyn_message.specs.Feet.{Foot, InPlace, Separate, foot_bytes}
use Rattle.dyn_message.specs.Links.{LinksTo}
use Rattle.dyn_message.specs.Stands.{IsSingle, Stands}
use Rattle.dyn_message.proofs.Counting.{not_one}
use Rattle.dyn_message.proofs.Messages.{some_value}
use Rattle.dyn_message.proofs.NodeFields.{node_has}
use Rattle.dyn_message.proofs.SameBytes.{message_same}
use Rattle.dyn_message.proofs.Setting.{growth_keeps}
use Rattle.dyn_message.proofs.There.{message_there}

module _ (schema : Schema) (places : Places) (buffers : Buffers) (msg : MsgRef) (t : Shape) (feet : List Foot) (st : Stands schema places buffers msg t feet) where
  -- a message stays as it is where a memory grows
  pub stays_grown : (places' : Places) (buffers' : Buffers) → KeepsRest places places' → KeepsBuffers buffers buffers' → Stands schema places' buffers' msg t feet
  stays_grown places' buffers' rest kept = record {
    message = message_same schema places places' buffers buffers' msg.type_no msg.place t feet
        (λ foot among.
        let was = some_value (foot_bytes places buffers foot) (message_there schema places buffers msg.type_no msg.place t feet st.message foot among) in
        growth_keeps places places' buffers buffers' [] rest kept foot was.0 refl was.1 ∙ sym was.1)
        st.message;
    once = st.once;
  }

  -- it doesn't stand on a place that wasn't live
  pub apart_from_fresh : (p : Place) → map.get places p ≡ None → Separate feet (InPlace p ∷ [])
  apart_from_fresh p fresh = λ foot among. not_one (InPlace p) foot
      (λ is. true≢false (sym (subst IsSome (ap (foot_bytes places buffers) is ∙ fresh) (message_there schema places buffers msg.type_no msg.place t feet st.message foot among))))

pub links : (schema : Schema) (n k : ℕ) → schema ≡ builtin → n ≡ 1 → k ≡ 1 → LinksTo schema n 6 k
links schema n k is node child = node_has IsSingle (λ type. type ≡ Nested k) schema n 6 is node (record { field = _; found = refl; card = tt; type = ap Nested (sym child) })

-- the node around another one has a level more at most
pub one_deeper : (schema : Schema) (n i : ℕ) (t : Shape) → schema ≡ builtin → n ≡ 1 → depth_of t ≤ i → depth_of (with_held schema n 6 (One (Sub t)) (empty_with [] (fields_of schema 1))) ≤ suc i
one_deeper schema n i t is node few =
    let deep = changed_no_deeper builtin 1 6 (One (Sub t)) (empty_with [] (fields_of builtin 1)) in
    subst (λ s. depth_of (with_held s n 6 (One (Sub t)) (empty_with [] (fields_of s 1))) ≤ suc i) (sym is)
    (subst (λ m. depth_of (with_held builtin m 6 (One (Sub t)) (empty_with [] (fields_of builtin 1))) ≤ suc i) (sym node) (omega (arith, deep, few)))

pub none_deep : (schema : Schema) → schema ≡ builtin → depth_of (empty_with {U = List (List ℕ)} [] (fields_of schema 1)) ≤ 0
none_deep schema is = subst (λ s. depth_of (empty_with {U = List (List ℕ)} [] (fields_of s 1)) ≤ 0) (sym is) (omega arith)
