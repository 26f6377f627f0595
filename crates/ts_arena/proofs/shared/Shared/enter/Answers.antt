use Rattle.std.proofs.Common.{ℕ, sym, subst, ◌∙◌, arith}
use Rattle.serial_arena.proofs.Names.{used_is}
use Rattle.arena_list.specs.Calls.Seats.{view}
use Rattle.arena_list.proofs.Calls.SeatFacts.{mine_tells}
use Rattle.ts_arena.specs.Passes.{HasEntry}
use Rattle.ts_arena.proofs.shared.Shared.enter.Goals as goal

pub invariant_of-result : goal.invariant_of-result
invariant_of-result c = let part = c.take-part.result in let o = c.take-part.ensures in let f = c.slot_for-slot.ensures in let t = c.requires.made.entry in record {
  of_list = o.list;
  own = o.own;
  entry = subst (λ (z : ℕ × ℕ). HasEntry c.args.self.now z.0 z.1) (λ i. ((sym f.slot ∙ (mine_tells (view c.slot_for-slot.new.seat) _ f.own).1) i, (sym f.who ∙ sym o.who) i)) t;
  taken = _;
  out_is = o.out;
  grown = (let same = used_is part o.owned.serial.laid in omega arith);
  keyed = o.owned.keyed;
}
