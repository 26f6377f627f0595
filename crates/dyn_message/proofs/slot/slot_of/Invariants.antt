use Rattle.std.proofs.Common.{◌≡◌, ◌*◌, ◌<◌, ◌^◌, ℕ, get_or, length, take}
use Rattle.dyn_message.proofs.Words.{words_text}
use Rattle.dyn_message.proofs.slot.slot_of.Given as goal

-- the first words stand in the slot
abbrev pub invariant-loop-i : goal.invariant-loop-i
invariant-loop-i l =
    record {
      count : length l.words ≡ 6;
      fits : (k : ℕ) → get_or l.words k 0 < 2 ^ 32;
      size : length l.slot ≡ 24;
      written : take (4 * l.i) l.slot ≡ words_text (take l.i l.words);
    }
