use Rattle.std.proofs.Common.{◌≡◌, sym, subst, ◌∙◌, false}
use Rattle.std.proofs.lemmas.Option.{same_Some}
use Rattle.dyn_message.specs.Links.{IsLinkRead, link_set}
use Rattle.dyn_message.proofs.Linking.{link_is_read, link_told}
use Rattle.dyn_message.proofs.links.child_at.Goals as goal

pub returns-then-is_set : goal.returns-then-is_set
returns-then-is_set g c = λ bytes there.
    let b = c.read-record.result.now in
    subst (λ x. IsLinkRead c.args.entry x (record { place = c.link_at-named.result; type_no = c.type_of_messages.result })) (same_Some b bytes (sym c.read-record.ensures.value ∙ there))
    (record {
      set = sym (link_told c.args.entry b c.link_at-named.result c.requires.size c.link_at-named.ensures) ∙ (sym c.is_set.ensures ∙ c.if-is_set.true);
      place = link_is_read c.args.entry b c.link_at-named.result c.requires.size c.link_at-named.ensures;
      type = c.type_of_messages.ensures;
    })

pub returns-else-is_set : goal.returns-else-is_set
returns-else-is_set g c = λ bytes there.
    let b = c.read-record.result.now in
    subst (λ x. link_set c.args.entry x ≡ false) (same_Some b bytes (sym c.read-record.ensures.value ∙ there))
    (sym (link_told c.args.entry b c.link_at-named.result c.requires.size c.link_at-named.ensures) ∙ (sym c.is_set.ensures ∙ c.if-is_set.false))
