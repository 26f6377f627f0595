use Rattle.std.proofs.Common.{◌≡◌, ◌+◌, ℕ, arith, false, [], ◌∷◌, subst, ap}
use Rattle.std.specs.Prelude.{MatchOption}
use Rattle.pb_schema.specs.Empty.{empty_with}
use Rattle.pb_schema.specs.Fits.{fields_of}
use Rattle.dyn_message.specs.Feet.{InPlace}
use Rattle.arena_mem.specs.Places.{used}
use Rattle.pb_schema.specs.HeldAt.{held_at}
use Rattle.msg_layout.specs.Layout.{layout_of}
use Rattle.dyn_message.specs.Links.{IsLinkRead, link_set, made_bytes}
use Rattle.dyn_message.proofs.Opening.{has_field, record_is}
use Rattle.dyn_message.proofs.Linking.{sub_there, sub_unset, make_existing, make_new, message_type_there, grown_stands, fresh_separate}
use Rattle.dyn_message.proofs.Changing.{grown, changes_join}
use Rattle.dyn_message.proofs.links.make_sub.Goals as goal

same_used : (was more : ℕ) → more ≡ 0 → was ≡ was + more
same_used was more none = omega (arith, none)

more_used : (was mid now size size' more : ℕ) → mid ≡ was + size → now ≡ mid → size' ≡ size → more ≡ size' → now ≡ was + more
more_used was mid now size size' more placed same sizes all = omega (arith, placed, same, sizes, all)

pub create-requires : goal.create-requires
create-requires g c = message_type_there c.args.types.now c.record_is_there.ensures.lawful c.args.msg.type_no c.args.field c.entry_in-entry.result.field c.type_of_messages.result c.entry_in-entry.ensures.field c.type_of_messages.ensures

pub link_sub-requires-clause-stand : goal.link_sub-requires-clause-stand
link_sub-requires-clause-stand g c =
    let M = g.M.Memory in
    let schema = c.args.types.now in
    let m = c.requires.message in
    let child = c.in_ok-child-in-None.child in
    let made = c.in_ok-child-in-None.ensures.made in (
      m.0,
      m.1,
      empty_with [] (fields_of schema c.type_of_messages.result),
      InPlace child.place ∷ [],
      grown_stands schema (M.places c.args.mem.now) (M.places c.create.new.mem) (M.buffers c.args.mem.now) (M.buffers c.create.new.mem) c.args.msg m.0 m.1 c.create.ensures.grows.rest c.create.ensures.grows.buffers m.2,
      made.stands,
      fresh_separate schema (M.places c.args.mem.now) (M.buffers c.args.mem.now) c.args.msg m.0 m.1 child.place made.fresh m.2,
    )

pub returns-in-Some-clause-made : goal.returns-in-Some-clause-made
returns-in-Some-clause-made g c = λ t feet st.
    let M = g.M.Memory in
    let one = c.entry_in-entry.result in
    let schema = c.args.types.now in
    let places = M.places c.args.mem.now in
    let has = has_field schema c.args.msg.type_no c.args.field one.field c.requires.field c.entry_in-entry.ensures.field in
    let was = record_is schema places (M.buffers c.args.mem.now) c.args.msg t feet st in
    let read = subst (λ o. MatchOption o (link_set one was.bytes ≡ false) (IsLinkRead one was.bytes)) c.in-Some.is (c.child_at.ensures was.bytes was.there) in
    make_existing schema c.record_is_there.ensures.lawful places (M.buffers c.args.mem.now) c.args.msg c.args.field one c.entry_in-entry.ensures.found c.entry_in-entry.ensures.number has.0 t feet st c.in-Some.child was.bytes was.there read

pub returns-in_ok-child-in-None-clause-made : goal.returns-in_ok-child-in-None-clause-made
returns-in_ok-child-in-None-clause-made g c = λ t feet st.
    let M = g.M.Memory in
    let one = c.entry_in-entry.result in
    let schema = c.args.types.now in
    let places = M.places c.args.mem.now in
    let child = c.in_ok-child-in-None.child in
    let made = c.in_ok-child-in-None.ensures.made in
    let has = has_field schema c.args.msg.type_no c.args.field one.field c.requires.field c.entry_in-entry.ensures.field in
    let was = record_is schema places (M.buffers c.args.mem.now) c.args.msg t feet st in
    let unset = subst (λ o. MatchOption o (link_set one was.bytes ≡ false) (IsLinkRead one was.bytes)) c.in-None.is (c.child_at.ensures was.bytes was.there) in
    let mid = grown_stands schema places (M.places c.create.new.mem) (M.buffers c.args.mem.now) (M.buffers c.create.new.mem) c.args.msg t feet c.create.ensures.grows.rest c.create.ensures.grows.buffers st in
    make_new schema c.record_is_there.ensures.lawful places (M.buffers c.args.mem.now) c.args.msg c.args.field one c.entry_in-entry.ensures.found c.entry_in-entry.ensures.number has.0 t feet st child
    (M.places c.link_sub.new.mem) (M.buffers c.link_sub.new.mem) c.type_of_messages.result made.type made.fresh
    (sub_unset schema c.record_is_there.ensures.lawful places (M.buffers c.args.mem.now) c.args.msg c.args.field one c.entry_in-entry.ensures.found c.entry_in-entry.ensures.number has.0 t feet st was.bytes was.there has.1 unset)
    (c.link_sub.ensures.linked t feet (empty_with [] (fields_of schema c.type_of_messages.result)) (InPlace child.place ∷ []) mid made.stands
    (fresh_separate schema places (M.buffers c.args.mem.now) c.args.msg t feet child.place made.fresh st))

pub returns-in_ok-child-in-None-clause-changes : goal.returns-in_ok-child-in-None-clause-changes
returns-in_ok-child-in-None-clause-changes g c =
    let M = g.M.Memory in
    changes_join M.key M.places M.buffers M.blocks 1 0 0 0 (InPlace c.args.msg.place ∷ []) c.args.mem.now c.create.new.mem c.link_sub.new.mem
    (grown M.key M.places M.buffers M.blocks 1 0 (InPlace c.args.msg.place ∷ []) c.args.mem.now c.create.new.mem c.create.ensures.grows)
    c.link_sub.ensures.changes

pub returns-in-Some-clause-space : goal.returns-in-Some-clause-space
returns-in-Some-clause-space g c = λ t feet st.
    let M = g.M.Memory in
    let one = c.entry_in-entry.result in
    let schema = c.args.types.now in
    let places = M.places c.args.mem.now in
    let has = has_field schema c.args.msg.type_no c.args.field one.field c.requires.field c.entry_in-entry.ensures.field in
    let was = record_is schema places (M.buffers c.args.mem.now) c.args.msg t feet st in
    let read = subst (λ o. MatchOption o (link_set one was.bytes ≡ false) (IsLinkRead one was.bytes)) c.in-Some.is (c.child_at.ensures was.bytes was.there) in
    let held = (sub_there schema c.record_is_there.ensures.lawful places (M.buffers c.args.mem.now) c.args.msg c.args.field one c.entry_in-entry.ensures.found c.entry_in-entry.ensures.number has.0 t feet st was.bytes was.there c.in-Some.child read).held in
    same_used (used places) (made_bytes (layout_of schema c.in-Some.child.type_no).size (held_at schema c.args.msg.type_no c.args.field t)) (ap (made_bytes (layout_of schema c.in-Some.child.type_no).size) held)

pub returns-in_ok-child-in-None-clause-space : goal.returns-in_ok-child-in-None-clause-space
returns-in_ok-child-in-None-clause-space g c = λ t feet st.
    let M = g.M.Memory in
    let one = c.entry_in-entry.result in
    let schema = c.args.types.now in
    let places = M.places c.args.mem.now in
    let has = has_field schema c.args.msg.type_no c.args.field one.field c.requires.field c.entry_in-entry.ensures.field in
    let was = record_is schema places (M.buffers c.args.mem.now) c.args.msg t feet st in
    let unset = subst (λ o. MatchOption o (link_set one was.bytes ≡ false) (IsLinkRead one was.bytes)) c.in-None.is (c.child_at.ensures was.bytes was.there) in
    let held = sub_unset schema c.record_is_there.ensures.lawful places (M.buffers c.args.mem.now) c.args.msg c.args.field one c.entry_in-entry.ensures.found c.entry_in-entry.ensures.number has.0 t feet st was.bytes was.there has.1 unset in
    let child = c.in_ok-child-in-None.child in
    more_used (used places) (used (M.places c.create.new.mem)) (used (M.places c.link_sub.new.mem)) (layout_of schema c.type_of_messages.result).size (layout_of schema child.type_no).size (made_bytes (layout_of schema child.type_no).size (held_at schema c.args.msg.type_no c.args.field t))
    c.in_ok-child-in-None.ensures.space c.link_sub.ensures.space (ap (λ n. (layout_of schema n).size) c.in_ok-child-in-None.ensures.made.type) (ap (made_bytes (layout_of schema child.type_no).size) held)
