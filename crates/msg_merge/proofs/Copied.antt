-- A message that was merged into a fresh one.
use Rattle.std.proofs.Common.{◌≡◌, ◌+◌, ◌*◌, inr, ℕ, List, [], ◌∷◌, None, sym, ap, ◌∙◌, subst, arith}
use Rattle.std.specs.Prelude.{IsSome}
use Rattle.arena_mem.specs.Places.{Places, Buffers}
use Rattle.arena_mem.specs.Grows.{Grows}
use Rattle.pb_schema.specs.declared.schema.Schema.{Schema}
use Rattle.pb_schema.specs.Empty.{empty_with}
use Rattle.pb_schema.specs.Fits.{fields_of}
use Rattle.pb_schema.specs.Lawful.{Lawful}
use Rattle.pb_schema.specs.Merge.{shape_merge}
use Rattle.pb_schema.specs.MergeCost.{fresh_cost, merge_cost}
use Rattle.pb_schema.specs.Meter.{Meter}
use Rattle.pb_schema.specs.Tree.{Shape}
use Rattle.dyn_message.specs.declared.msg_ref.MsgRef.{MsgRef}
use Rattle.dyn_message.specs.Changes.{Changes, IsFreshEmpty, NowStands}
use Rattle.dyn_message.specs.Feet.{Foot, InPlace, OldOrFresh, foot_bytes}
use Rattle.dyn_message.specs.Stands.{Stands}
use Rattle.dyn_message.proofs.Changing.{changes_widen, grown}
use Rattle.dyn_message.proofs.Counting.{one_is}
use Rattle.pb_parse.proofs.Memories.{then_stands, then_within}
use Rattle.msg_merge.specs.Across.{inner_units}
use Rattle.msg_merge.specs.Extents.{shape_units}
use Rattle.msg_merge.specs.Merging.{HoldsByCards}
use Rattle.msg_merge.proofs.Counts.{units_joined}
use Rattle.msg_merge.proofs.ListMerged.{inner_of}
use Rattle.msg_merge.proofs.OneMerged.{into_empty}
use Rattle.msg_merge.proofs.Standing.{standing_by_cards}

pub units_inside : (u : Shape) → shape_units u ≡ 1 + inner_units u
units_inside u = units_joined u ∙ inner_of u

abbrev pub blank : Schema → ℕ → Shape
blank schema type_no = empty_with [] (fields_of schema type_no)

module _ (schema : Schema) (p0 p1 : Places) (b0 b1 : Buffers) (type_no : ℕ) (msg : MsgRef) (made : IsFreshEmpty schema p0 p1 b1 type_no msg) where
  -- it stands on its record alone, which is fresh
  pub made_from : OldOrFresh p0 b0 [] (InPlace msg.place ∷ [])
  made_from foot among = inr (subst (λ f. foot_bytes p0 b0 f ≡ None) (sym (one_is (InPlace msg.place) foot among)) made.fresh)

  pub copied : (lawful : Lawful schema) (q p2 : Places) (d b2 : Buffers) (from : MsgRef) (u : Shape) (own : List Foot) → from.type_no ≡ type_no → Stands schema q d from u own → ((foot : Foot) → IsSome (foot_bytes p0 b0 foot) → IsSome (foot_bytes p1 b1 foot))
      → NowStands schema p1 b1 p2 b2 msg (shape_merge schema msg.type_no (blank schema type_no) u) (InPlace msg.place ∷ []) → NowStands schema p0 b0 p2 b2 msg u []
  copied lawful q p2 d b2 from u own same su still now =
      subst (λ s. NowStands schema p0 b0 p2 b2 msg s [])
      (ap (λ n. shape_merge schema n (blank schema type_no) u) made.type ∙ into_empty schema type_no u (subst (λ n. HoldsByCards schema n u) same (standing_by_cards schema q d from u own lawful su)))
      (then_stands schema p0 p1 p2 b0 b1 b2 msg (blank schema type_no) _ [] still (record { now = InPlace msg.place ∷ []; stands = made.stands; from = made_from }) now)

  pub copy_counts : (meter : Meter) (u : Shape) (was mid new : ℕ) → mid ≡ was + meter.size type_no → new ≡ mid + merge_cost meter schema msg.type_no (blank schema type_no) u → new ≡ was + fresh_cost meter schema type_no u
  copy_counts meter u was mid new first later = omega (arith, first, later, ap (λ n. merge_cost meter schema n (blank schema type_no) u) made.type)

module _ {S K : Type 0} (key : S → K) (places : S → Places) (buffers : S → Buffers) (blocks : S → ℕ → ℕ) where
  pub made_changes : (u : Shape) (old new : S) → Grows key places buffers blocks 1 0 old new → Changes key places buffers blocks (4 * shape_units u) (4 * shape_units u) [] old new
  made_changes u old new g = changes_widen key places buffers blocks 1 (4 * shape_units u) 0 (4 * shape_units u) [] [] old new (grown key places buffers blocks 1 0 [] old new g) (omega (arith, units_inside u)) (omega arith) (λ foot among. among)

  pub copy_changes : (u : Shape) (place : Foot) (old mid new : S) → Grows key places buffers blocks 1 0 old mid → OldOrFresh (places old) (buffers old) [] (place ∷ []) → Changes key places buffers blocks (4 * inner_units u) (4 * inner_units u) (place ∷ []) mid new
      → Changes key places buffers blocks (4 * shape_units u) (4 * shape_units u) [] old new
  copy_changes u place old mid new g from c =
      then_within key places buffers blocks 1 (4 * inner_units u) 0 (4 * inner_units u) (4 * shape_units u) (4 * shape_units u) [] (place ∷ []) old mid new (grown key places buffers blocks 1 0 [] old mid g) from c (omega (arith, units_inside u)) (omega (arith, units_inside u))
