-- What a memory was made to hold, by one call and then by another, and by what is counted of a payload before and after.
use Rattle.std.proofs.Common.{◌≡◌, ℕ, ◌+◌, refl, sym, ap, ◌∙◌, arith}
use Rattle.std.specs.FinMap as map
use Rattle.arena_mem.specs.Places.{Places, Buffers, used}
use Rattle.msg_layout.specs.Layout.{layout_of}
use Rattle.pb_schema.specs.declared.schema.Schema.{Schema}
use Rattle.pb_schema.specs.Meter.{Meter, GrowsInParts, array_bytes, cleanups, string_bytes}
use Rattle.pb_schema.proofs.MeterLaws.{placed_in_parts, cleanups_in_parts}
use Rattle.pb_parse.specs.Costs.{Costs, Spends, record_meter}

pub records_grow : (schema : Schema) → GrowsInParts (record_meter schema)
records_grow schema = placed_in_parts (λ type_no. (layout_of schema type_no).size)

module _ (schema : Schema) where
  pub spends_then : (p0 p1 p2 : Places) (b0 b1 b2 : Buffers) (before between after : Meter → ℕ) → Spends schema p0 b0 p1 b1 before between → Spends schema p1 b1 p2 b2 between after → Spends schema p0 b0 p2 b2 before after
  spends_then p0 p1 p2 b0 b1 b2 before between after one two = record { space = omega (arith, one.space, two.space); kept = omega (arith, one.kept, two.kept) }

  -- what it costs is what counts less
  pub spends_by : (p0 p1 : Places) (b0 b1 : Buffers) (cost before after : Meter → ℕ) → Costs schema p0 b0 p1 b1 cost → ((meter : Meter) → GrowsInParts meter → before meter ≡ cost meter + after meter) → Spends schema p0 b0 p1 b1 before after
  spends_by p0 p1 b0 b1 cost before after spent same =
      record { space = omega (arith, spent.space, same (record_meter schema) (records_grow schema)); kept = omega (arith, spent.kept, same cleanups cleanups_in_parts) }

  pub costs_by : (p0 p1 : Places) (b0 b1 : Buffers) (cost other : Meter → ℕ) → Costs schema p0 b0 p1 b1 cost → ((meter : Meter) → GrowsInParts meter → other meter ≡ cost meter) → Costs schema p0 b0 p1 b1 other
  costs_by p0 p1 b0 b1 cost other spent same =
      record { space = omega (arith, spent.space, same (record_meter schema) (records_grow schema)); kept = omega (arith, spent.kept, same cleanups cleanups_in_parts) }

  -- nothing was done
  pub nothing_spent : (p : Places) (b : Buffers) (before after : Meter → ℕ) → ((meter : Meter) → GrowsInParts meter → before meter ≡ after meter) → Spends schema p b p b before after
  nothing_spent p b before after same = record { space = omega (arith, same (record_meter schema) (records_grow schema)); kept = omega (arith, same cleanups cleanups_in_parts) }

  -- no buffer was kept
  pub costs_space : (p0 p1 : Places) (b0 b1 : Buffers) (cost : Meter → ℕ) → used p1 ≡ used p0 + cost (record_meter schema) → b1 ≡ b0 → cost cleanups ≡ 0 → Costs schema p0 b0 p1 b1 cost
  costs_space p0 p1 b0 b1 cost space same none = record { space = omega (arith, space); kept = omega (arith, ap map.len same, none) }

  pub costs_both : (p0 p1 : Places) (b0 b1 : Buffers) (cost : Meter → ℕ) → used p1 ≡ used p0 + cost (record_meter schema) → map.len b1 ≡ map.len b0 + cost cleanups → Costs schema p0 b0 p1 b1 cost
  costs_both p0 p1 b0 b1 cost space kept = record { space = omega (arith, space); kept = omega (arith, kept) }

  pub nothing_placed : (p0 p1 : Places) (b0 b1 : Buffers) → used p1 ≡ used p0 → b1 ≡ b0 → Costs schema p0 b0 p1 b1 (λ meter. 0)
  nothing_placed p0 p1 b0 b1 space same = record { space = omega (arith, space); kept = omega (arith, ap map.len same) }

  -- an array grew, and a text or bytes was put there
  pub array_placed : (p0 p1 : Places) (b0 b1 : Buffers) (size before after : ℕ) → used p1 ≡ used p0 + array_bytes size before after → b1 ≡ b0 → Costs schema p0 b0 p1 b1 (λ meter. meter.growth size before after)
  array_placed p0 p1 b0 b1 size before after space same = record { space = omega (arith, space); kept = omega (arith, ap map.len same) }

  pub string_placed : (p0 p1 : Places) (b0 b1 : Buffers) (long before after : ℕ) → used p1 ≡ used p0 + string_bytes long + array_bytes 24 before after → map.len b1 ≡ map.len b0 + cleanups.bytes long
      → Costs schema p0 b0 p1 b1 (λ meter. meter.growth 24 before after + meter.bytes long)
  string_placed p0 p1 b0 b1 long before after space kept = record { space = omega (arith, space); kept = omega (arith, kept) }

  -- one after the other
  pub costs_add : (p0 p1 p2 : Places) (b0 b1 b2 : Buffers) (one two both : Meter → ℕ) → Costs schema p0 b0 p1 b1 one → Costs schema p1 b1 p2 b2 two → ((meter : Meter) → GrowsInParts meter → both meter ≡ one meter + two meter) → Costs schema p0 b0 p2 b2 both
  costs_add p0 p1 p2 b0 b1 b2 one two both first second sum =
      record { space = omega (arith, first.space, second.space, sum (record_meter schema) (records_grow schema)); kept = omega (arith, first.kept, second.kept, sum cleanups cleanups_in_parts) }
