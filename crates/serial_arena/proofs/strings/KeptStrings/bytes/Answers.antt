use Rattle.std.proofs.Common.{◌≡◌, ◌<◌, ℕ, List, [], length, get_or, sym, ap, subst, ◌∙◌, arith}
use Rattle.std.proofs.lemmas.List.{length-map, get_or-map}
use Rattle.std.proofs.lemmas.Option.{get_or_from_slice_get}
use Rattle.serial_arena.specs.declared.kept.KeptBytes.{KeptBytes}
use Rattle.serial_arena.specs.Chunks.{bytes_of, LiesIn}
use Rattle.serial_arena.proofs.Chunks.{lies_at}
use Rattle.serial_arena.proofs.strings.KeptStrings.bytes.Goals as goal
use Rattle.serial_arena.proofs.strings.KeptStrings.bytes.Goals.{After-item}

there : (c : After-item) → c.args.number < length c.self.inside.list
there c = omega (arith, c.requires, ap (λ (strings : List (List ℕ)). length strings) c.self.view_is, length-map c.self.inside.list (bytes_of c.self.inside.own.items c.self.inside.chunks.items))

item_is : (c : After-item) → get_or c.self.inside.list c.args.number c.item.result.now ≡ c.item.result.now
item_is c = get_or_from_slice_get c.self.inside.list c.args.number c.item.result.now c.item.result.now c.item.ensures

pub bytes_in-requires : goal.bytes_in-requires
bytes_in-requires c =
    subst (λ (x : List (List ℕ) × (List (List ℕ) × KeptBytes)). LiesIn x.0 x.1.0 x.1.1)
    (λ i. (sym c.deref.ensures.value i, (sym c.deref-2.ensures.value i, item_is c i)))
    (lies_at c.self.inside.own.items c.self.inside.chunks.items c.self.inside.list c.args.number c.item.result.now c.self.invariant (there c))

pub returns : goal.returns
returns c =
    let before = (goal.at.returns c).After-item in
    c.bytes_in.ensures
    ∙ (λ i. bytes_of (c.deref.ensures.value i) (c.deref-2.ensures.value i) (sym (item_is before) i))
    ∙ sym (get_or-map (bytes_of c.self.inside.own.items c.self.inside.chunks.items) c.self.inside.list c.args.number c.item.result.now [] (there before))
    ∙ ap (λ strings. get_or strings c.args.number []) c.self.view_is
