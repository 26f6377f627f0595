use Rattle.std.proofs.Common.{refl, sym, subst}
use Rattle.std.specs.Prelude.{IsSome}
use Rattle.serial_arena.specs.Serial.{places_of, buffers_of}
use Rattle.ts_arena.specs.Sole.{arena_places, arena_buffers}
use Rattle.dyn_message.proofs.Opening.{record_is}
use Rattle.msg_move.proofs.Joining.{not_record, separate_there, stays}
use Rattle.msg_move.proofs.adopted.give_adopted.Goals as goal

pub join-requires-clause-some : goal.join-requires-clause-some
join-requires-clause-some c =
    let s = c.requires.stand in
    (c.args.child.place, subst IsSome (sym (record_is c.args.types.now (places_of c.args.region) (buffers_of c.args.region) c.args.child s.2 s.3 s.5).there) refl)

pub link_alone-requires-clause-stand : goal.link_alone-requires-clause-stand
link_alone-requires-clause-stand c =
    let s = c.requires.stand in
    let schema = c.args.types.now in
    let a = c.args.arena.now in
    let after = c.join.new.arena in
    let joined = c.in-Ok.ensures.joined in (
      s.0,
      s.1,
      s.2,
      s.3,
      stays schema (arena_places a) (arena_places after) (arena_buffers a) (arena_buffers after) c.args.msg s.0 s.1 joined.kept s.4,
      stays schema (places_of c.args.region) (arena_places after) (buffers_of c.args.region) (arena_buffers after) c.args.child s.2 s.3 joined.region_kept s.5,
      separate_there schema a after c.args.region joined c.args.msg c.args.child s.0 s.2 s.1 s.3 s.4 s.5,
    )

pub returns-in-Ok-clause-given : goal.returns-in-Ok-clause-given
returns-in-Ok-clause-given c = λ t feet u own st st'.
    let schema = c.args.types.now in
    let a = c.args.arena.now in
    let after = c.join.new.arena in
    let joined = c.in-Ok.ensures.joined in
    c.link_alone.ensures.linked t feet u own
    (stays schema (arena_places a) (arena_places after) (arena_buffers a) (arena_buffers after) c.args.msg t feet joined.kept st)
    (stays schema (places_of c.args.region) (arena_places after) (buffers_of c.args.region) (arena_buffers after) c.args.child u own joined.region_kept st')
    (separate_there schema a after c.args.region joined c.args.msg c.args.child t u feet own st st')

pub returns-in-Ok-clause-region_kept : goal.returns-in-Ok-clause-region_kept
returns-in-Ok-clause-region_kept c = λ foot was outside is.
    let s = c.requires.stand in
    let joined = c.in-Ok.ensures.joined in
    c.link_alone.ensures.kept foot was (not_record c.args.types.now c.args.arena.now c.join.new.arena c.args.region joined c.args.msg s.0 s.1 s.4 foot was is) (joined.region_kept foot was refl is)
