-- The elements of a list in bytes: they stand by their front alone, and one more stands behind them.
use Rattle.std.proofs.Common.{◌≡◌, ◌+◌, ◌*◌, ◌≤◌, ℕ, suc, List, [], ◌∷◌, ◌++◌, length, take, drop, refl, sym, ap, ◌∙◌, subst, append_assoc, append-nil, drop-drop, take-take, arith}
use Rattle.std.proofs.lemmas.List.{drop-take}
use Rattle.arena_mem.specs.Places.{Places, Buffers}
use Rattle.pb_schema.specs.declared.schema.Schema.{Schema}
use Rattle.pb_schema.specs.Kinds.{ValueType, slot_of}
use Rattle.pb_schema.specs.Merge.{joined}
use Rattle.pb_schema.specs.Tree.{ValueWith, ValueListWith, NoValues, ValueAnd, values_in_list}
use Rattle.msg_layout.specs.Slots.{array_slot}
use Rattle.dyn_message.specs.Feet.{Foot}
use Rattle.dyn_message.specs.Slots.{part}
use Rattle.dyn_message.specs.Stands.{IsPieceIn, PiecesStand, ValueStands, ValuesStand}

-- FRONTS

-- the front of so many elements, one of them at a time
front_first : (size n : ℕ) (bytes bytes' : List ℕ) → take (suc n * size) bytes' ≡ take (suc n * size) bytes → take size bytes' ≡ take size bytes
front_first size n bytes bytes' same =
    let all : size ≤ suc n * size = omega arith in
    sym (take-take size (suc n * size) bytes' all) ∙ ap (take size) same ∙ take-take size (suc n * size) bytes all

front_later : (size n : ℕ) (bytes bytes' : List ℕ) → take (suc n * size) bytes' ≡ take (suc n * size) bytes → take (n * size) (drop size bytes') ≡ take (n * size) (drop size bytes)
front_later size n bytes bytes' same =
    let all : size + n * size ≡ suc n * size = omega arith in
    sym (drop-take size (n * size) bytes') ∙ ap (λ k. drop size (take k bytes')) all ∙ ap (drop size) same ∙ ap (λ k. drop size (take k bytes)) (sym all) ∙ drop-take size (n * size) bytes

behind_later : (size n : ℕ) (bytes element : List ℕ) → part (suc n * size) size bytes ≡ element → part (n * size) size (drop size bytes) ≡ element
behind_later size n bytes element is = ap (take size) (drop-drop (n * size) size bytes ∙ ap (λ k. drop k bytes) {x = size + n * size} {y = suc n * size} (omega arith)) ∙ is

-- VALUES

pub values_joined : {U : Type 0} (values : ValueListWith U) (value : ValueWith U) → length (values_in_list (joined values (ValueAnd value NoValues))) ≡ length (values_in_list values) + 1
values_joined NoValues value = refl
values_joined (ValueAnd first values) value = omega (arith, values_joined values value)

module _ (schema : Schema) (places : Places) (buffers : Buffers) (type : ValueType) where
  pub values_push : (bytes bytes' element : List ℕ) (values : ValueListWith (List (List ℕ))) (value : ValueWith (List (List ℕ))) (feet own : List Foot)
      → take (length (values_in_list values) * slot_of type) bytes' ≡ take (length (values_in_list values) * slot_of type) bytes
      → part (length (values_in_list values) * slot_of type) (slot_of type) bytes' ≡ element
      → ValuesStand schema places buffers type bytes values feet → ValueStands schema places buffers type element value own
      → ValuesStand schema places buffers type bytes' (joined values (ValueAnd value NoValues)) (feet ++ own)
  values_push bytes bytes' element NoValues value feet own front behind stand new = record {
    own = own;
    rest = [];
    are = ap (λ fs. fs ++ own) stand ∙ sym (append-nil own);
    first = let none : 0 * slot_of type ≡ 0 = omega arith in subst (λ s. ValueStands schema places buffers type s value own) (sym behind ∙ ap (λ k. take (slot_of type) (drop k bytes')) none) new;
    second = refl;
  }
  values_push bytes bytes' element (ValueAnd first values) value feet own front behind stand new = record {
    own = stand.own;
    rest = stand.rest ++ own;
    are = ap (λ fs. fs ++ own) stand.are ∙ append_assoc stand.own stand.rest own;
    first = subst (λ s. ValueStands schema places buffers type s first stand.own) (sym (front_first (slot_of type) (length (values_in_list values)) bytes bytes' front)) stand.first;
    second = values_push (drop (slot_of type) bytes) (drop (slot_of type) bytes') element values value stand.rest own
        (front_later (slot_of type) (length (values_in_list values)) bytes bytes' front) (behind_later (slot_of type) (length (values_in_list values)) bytes' element behind) stand.second new;
  }

-- PIECES

module _ (places : Places) (buffers : Buffers) where
  pub pieces_push : (bytes bytes' element : List ℕ) (pieces : List (List ℕ)) (piece : List ℕ) (feet own : List Foot)
      → take (length pieces * array_slot) bytes' ≡ take (length pieces * array_slot) bytes
      → part (length pieces * array_slot) array_slot bytes' ≡ element
      → PiecesStand places buffers bytes pieces feet → IsPieceIn places buffers element piece own
      → PiecesStand places buffers bytes' (pieces ++ piece ∷ []) (feet ++ own)
  pieces_push bytes bytes' element [] piece feet own front behind stand new = record {
    own = own;
    rest = [];
    are = ap (λ fs. fs ++ own) stand ∙ sym (append-nil own);
    first = subst (λ s. IsPieceIn places buffers s piece own) (sym behind) new;
    second = refl;
  }
  pieces_push bytes bytes' element (first ∷ pieces) piece feet own front behind stand new = record {
    own = stand.own;
    rest = stand.rest ++ own;
    are = ap (λ fs. fs ++ own) stand.are ∙ append_assoc stand.own stand.rest own;
    first = subst (λ s. IsPieceIn places buffers s first stand.own) (sym (front_first array_slot (length pieces) bytes bytes' front)) stand.first;
    second = pieces_push (drop array_slot bytes) (drop array_slot bytes') element pieces piece stand.rest own
        (front_later array_slot (length pieces) bytes bytes' front) (behind_later array_slot (length pieces) bytes' element behind) stand.second new;
  }
