use Rattle.std.proofs.Common.{◌≡◌, ◌+◌, ◌++◌, take, ◌%◌, ◌∙◌, subst, arith}
use Rattle.std.proofs.lemmas.List.{length-take-le, length-set, drop-set-lt}
use Rattle.pb_wire.proofs.Groups.{continued, one_group_more, rest_of_more, last_is_small, last_group_put, groups_count}
use Rattle.pb_wire.proofs.write.put_groups.Goals as goal

pub loop-group-preserved : goal.loop-group-preserved
loop-group-preserved c =
    let start = c.args.start in
    let group = c.loop-group.group in
    let room = c.loop-group.room in
    let at = c.loop-group.invariant in
    record {
      groups = one_group_more _ room start group c.args.value c.loop-group.rest (omega (arith, at.room, c.loop-group-test.true)) at.groups at.rest;
      rest = rest_of_more group c.args.value c.loop-group.rest at.rest;
      room = omega (arith, at.room, length-set room (start + group) (c.loop-group.rest % 128 + 128));
      beyond = drop-set-lt (start + 10) room (start + group) (c.loop-group.rest % 128 + 128) (omega (arith, c.loop-group-test.true)) ∙ at.beyond;
    }

pub overflow_cast-room-2 : goal.overflow_cast-room-2
overflow_cast-room-2 c =
    let small = last_is_small c.last_group-last.result c.args.value c.last_group-last.ensures.above in
    omega (arith, small)

pub returns-clause-spelled : goal.returns-clause-spelled
returns-clause-spelled c =
    let last = c.last_group-last.ensures in
    let at = c.loop-group.invariant in
    let all : c.loop-group.group ≡ 10 = omega (arith, c.loop-group-test.false, c.loop-group.auto.group-end) in
    last_group_put _ c.loop-group.room c.args.start c.last_group-last.result c.args.value (length-take-le c.args.start c.args.room.now (omega (arith, c.requires))) at.room
    (subst (λ n. take (c.args.start + n) c.loop-group.room ≡ take c.args.start c.args.room.now ++ continued n c.args.value) all at.groups) last.bound last.below last.above

pub returns-clause-beyond : goal.returns-clause-beyond
returns-clause-beyond c =
    let last = c.last_group-last in
    drop-set-lt (c.args.start + 10) c.loop-group.room (c.args.start + last.result) _ (omega (arith, last.ensures.bound)) ∙ c.loop-group.invariant.beyond

pub returns-clause-count : goal.returns-clause-count
returns-clause-count c =
    let last = c.last_group-last.ensures in
    let count = groups_count c.last_group-last.result c.args.value last.bound last.below last.above in
    omega (arith, count)
