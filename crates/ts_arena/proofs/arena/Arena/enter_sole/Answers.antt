use Rattle.std.proofs.Common.{refl}
use Rattle.ts_arena.proofs.Whole.{entered_life, entered_policy, entered_places, entered_buffers, entered_blocks}
use Rattle.ts_arena.proofs.arena.Arena.enter_sole.Goals as goal

pub returns : goal.returns
returns c = let a = c.args.self.now in let b = c.own_place.new.self in let e = c.in_ok-at.ensures.entered in (
  (refl, (λ w. refl), tt),
  record {
    unchanged = tt;
    same_arena = refl;
    life = entered_life a b c.args.caller c.in_ok-at.at e;
    policy = entered_policy a b c.args.caller c.in_ok-at.at e;
    refused = tt;
    can = c.in_ok-at.ensures.can;
    entered = e;
    places = entered_places a b c.args.caller c.in_ok-at.at e;
    buffers = entered_buffers a b c.args.caller c.in_ok-at.at e;
    blocks = entered_blocks a b c.args.caller c.in_ok-at.at e;
  },
)
