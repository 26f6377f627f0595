use Rattle.std.proofs.Common.{◌≡◌, ◌+◌, ◌≤◌, ℕ, Some, length, ap, ◌∙◌, arith}
use Rattle.msg_move.proofs.Swapping.{piece_more, front_all}
use Rattle.msg_move.proofs.swap.exchange.Goals as goal

fits : (at n len : ℕ) → at + 8 ≤ len → n ≡ len → at + 8 ≤ n
fits at n len within is = omega (arith, within, is)

pub loop-at-preserved : goal.loop-at-preserved
loop-at-preserved g c =
    let inv = c.loop-at.invariant in
    let was = inv.exchanged in
    let step = c.exchange_piece.ensures in
    let within : c.loop-at.at + 8 ≤ c.args.one.len = omega (arith, c.loop-at-test.true, inv.within, inv.whole, c.requires.whole) in
    record {
      within = within;
      whole = omega (arith, inv.whole);
      exchanged = record {
        key = step.key ∙ was.key;
        first = λ x y is is'.
            step.first _ _ (was.first x y is is') (was.second x y is is')
            ∙ ap Some (piece_more c.loop-at.at x y (fits _ (length x) _ within (c.requires.one_size x is)) (fits _ (length y) _ within (c.requires.two_size y is')));
        second = λ x y is is'.
            step.second _ _ (was.first x y is is') (was.second x y is is')
            ∙ ap Some (piece_more c.loop-at.at y x (fits _ (length y) _ within (c.requires.two_size y is')) (fits _ (length x) _ within (c.requires.one_size x is)));
        others = λ q not_one not_two. step.others q not_one not_two ∙ was.others q not_one not_two;
        still_live = λ q live. step.still_live q (was.still_live q live);
        count = step.count ∙ was.count;
        space = step.space ∙ was.space;
        buffers = step.buffers ∙ was.buffers;
        blocks = λ region. step.blocks region ∙ was.blocks region;
      };
    }

all : (at n len : ℕ) → len ≤ at → n ≡ len → n ≤ at
all at n len done is = omega (arith, done, is)

pub returns : goal.returns
returns g c =
    let was = c.loop-at.invariant.exchanged in
    let done : c.args.one.len ≤ c.loop-at.at = omega (arith, c.loop-at-test.false) in
    record {
      key = was.key;
      first = λ x y is is'. was.first x y is is' ∙ ap Some (front_all c.loop-at.at x y (all _ (length x) _ done (c.requires.one_size x is)) (all _ (length y) _ done (c.requires.two_size y is')));
      second = λ x y is is'. was.second x y is is' ∙ ap Some (front_all c.loop-at.at y x (all _ (length y) _ done (c.requires.two_size y is')) (all _ (length x) _ done (c.requires.one_size x is)));
      others = was.others;
      still_live = was.still_live;
      count = was.count;
      space = was.space;
      buffers = was.buffers;
      blocks = was.blocks;
    }
