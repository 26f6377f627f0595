-- How often a field holds a value: what follows from its card alone (proto3 guide, "Specifying Field Labels" and
-- "Oneof"; encoding guide, "Packed Repeated Fields").
use Rattle.std.specs.Prelude.{ℕ, Bool, false, true, ◌==◌}
use Rattle.pb_schema.specs.declared.kind.Card.{Card}
use Rattle.pb_schema.specs.declared.kind.Card.TheVariants as cards

-- the field is a list
abbrev pub is_repeated : Card → Bool
is_repeated (cards.Repeated packed) = true
is_repeated _ = false

-- a list is written as one record where it is packed
abbrev pub is_packed : Card → Bool
is_packed (cards.Repeated packed) = packed
is_packed _ = false

-- the field is a member of the oneof
abbrev pub is_member : ℕ → Card → Bool
is_member oneof (cards.Member other) = oneof == other
is_member oneof _ = false
