use Rattle.std.proofs.Common.{◌≡◌, false, subst, inl}
use Rattle.std.specs.Prelude.{MatchOption}
use Rattle.dyn_message.specs.Links.{IsLinkRead, link_set}
use Rattle.dyn_message.proofs.Opening.{has_field, record_is}
use Rattle.dyn_message.proofs.Setting.{write_keeps}
use Rattle.dyn_message.proofs.Linking.{sub_unset, unlink_stands}
use Rattle.dyn_message.proofs.links.unlink_sub.Goals as goal

pub returns-in-Some-clause-unlinked : goal.returns-in-Some-clause-unlinked
returns-in-Some-clause-unlinked g c = λ t feet st.
    let M = g.M.Memory in
    let one = c.entry_in-entry.result in
    let schema = c.args.types.now in
    let places = M.places c.args.mem.now in
    let has = has_field schema c.args.msg.type_no c.args.field one.field c.requires.field c.entry_in-entry.ensures.field in
    let was = record_is schema places (M.buffers c.args.mem.now) c.args.msg t feet st in
    let read = subst (λ o. MatchOption o (link_set one was.bytes ≡ false) (IsLinkRead one was.bytes)) c.in-Some.is (c.child_at.ensures was.bytes was.there) in
    unlink_stands schema c.record_is_there.ensures.lawful places (M.places c.take_away.new.mem) (M.buffers c.args.mem.now) (M.buffers c.take_away.new.mem) c.args.msg c.args.field one c.entry_in-entry.ensures.found c.entry_in-entry.ensures.number has.0 c.ranges.field.fits
    (write_keeps _ _ _ _ c.args.msg.place c.take_away.ensures.others c.take_away.ensures.buffers)
    t feet st was.bytes was.there c.in-Some.child read c.take_away.ensures.here

pub returns-in-None-clause-unlinked : goal.returns-in-None-clause-unlinked
returns-in-None-clause-unlinked g c = λ t feet st.
    let M = g.M.Memory in
    let one = c.entry_in-entry.result in
    let schema = c.args.types.now in
    let places = M.places c.args.mem.now in
    let has = has_field schema c.args.msg.type_no c.args.field one.field c.requires.field c.entry_in-entry.ensures.field in
    let was = record_is schema places (M.buffers c.args.mem.now) c.args.msg t feet st in
    let unset = subst (λ o. MatchOption o (link_set one was.bytes ≡ false) (IsLinkRead one was.bytes)) c.in-None.is (c.child_at.ensures was.bytes was.there) in (
      sub_unset schema c.record_is_there.ensures.lawful places (M.buffers c.args.mem.now) c.args.msg c.args.field one c.entry_in-entry.ensures.found c.entry_in-entry.ensures.number has.0 t feet st was.bytes was.there has.1 unset,
      record { now = feet; stands = st; from = λ foot among. inl among },
    )
