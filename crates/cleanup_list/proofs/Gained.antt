-- Lists that a watch gained in turn.
use Rattle.std.proofs.Common.{ℕ, suc, List, [], ◌∷◌, ◌++◌, length, Option, None, Some, sym, ap, ◌∙◌, arith}
use Rattle.std.specs.Prelude.{IsSome}
use Rattle.std.proofs.lemmas.Bool.{false≢true}
use Rattle.std.proofs.lemmas.List.{length_push, append_assoc, append-nil}
use Rattle.cleanup_list.specs.Told.{Triple, Gains, HasRoom}

-- nothing is gained where nothing was told
pub gains_none : (now : Option (List Triple)) → Gains now now []
gains_none None = tt
gains_none (Some now) = sym (append-nil now)

-- what was gained first, and then the rest
pub gains_both : (before now after : Option (List Triple)) (xs ys : List Triple) → Gains before now xs → Gains now after ys → Gains before after (xs ++ ys)
gains_both before now None xs ys g h = tt
gains_both None None (Some after) xs ys g h = h
gains_both None (Some now) (Some after) xs ys g h = absurd g
gains_both (Some before) None (Some after) xs ys g h = absurd h
gains_both (Some before) (Some now) (Some after) xs ys g h = h ∙ ap (λ zs. zs ++ ys) g ∙ append_assoc before xs ys

-- the room for one triple is used
pub room_used : (before now : Option (List Triple)) (room more : ℕ) (x : Triple) → Gains before now (x ∷ []) → (HasRoom before room 1 → IsSome now) → HasRoom before room (suc more) → HasRoom now room more
room_used None now room more x g tells h = absurd h
room_used (Some before) None room more x g tells h = absurd (false≢true (tells (omega (arith, h))))
room_used (Some before) (Some now) room more x g tells h = omega (arith, h, length_push before x, ap (λ (zs : List Triple). length zs) g)
