-- Records: a tag and a payload, one after another (encoding guide, "Message Structure" and "Groups").
use Rattle.std.specs.Prelude.{◌≡◌, ◌-◌, ◌^◌, ◌<◌, ℕ, zero, suc, List, [], ◌∷◌, ◌++◌, length, Option, None, Some}
use Rattle.std.specs.Option.{option_map}
use Rattle.pb_schema.specs.Varint.{Varint, value_bytes, length_bytes}
use Rattle.pb_schema.specs.Tag.{IsTag}
use Rattle.pb_schema.specs.Reads.{value_read}
use Rattle.pb_schema.specs.Form.{Form}
use Rattle.pb_schema.specs.Fits.{no_types}
use Rattle.pb_schema.specs.Walk.{record_left}
pub use Rattle.pb_schema.specs.Record.{Record, record_of}

-- what stands behind the tag: the payload by itself, a length in front of it, or the end of the group behind it
abbrev pub Spells : (List ℕ → Type 0) → ℕ → ℕ → List ℕ → List ℕ → Type 0
Spells AreRecords number zero payload s = (v : ℕ) × Varint payload value_bytes v × (s ≡ payload)
Spells AreRecords number (suc zero) payload s = (length payload ≡ 8) × (s ≡ payload)
Spells AreRecords number (suc (suc zero)) payload s =
    (len : List ℕ) × Varint len length_bytes (length payload) × (length payload < 2 ^ 31) × (s ≡ len ++ payload)
Spells AreRecords number (suc (suc (suc zero))) payload s =
    (end : List ℕ) × AreRecords payload × IsTag end number 4 × (s ≡ payload ++ end)
Spells AreRecords number (suc (suc (suc (suc zero)))) payload s = ⊥
Spells AreRecords number (suc (suc (suc (suc (suc zero))))) payload s = (length payload ≡ 4) × (s ≡ payload)
Spells AreRecords number (suc (suc (suc (suc (suc (suc wire)))))) payload s = ⊥

-- the span is a tag and what stands behind it
abbrev pub IsRecord : (List ℕ → Type 0) → Record → Type 0
IsRecord AreRecords r =
    (tag : List ℕ) × (behind : List ℕ) × IsTag tag r.number r.wire × Spells AreRecords r.number r.wire r.payload behind
    × (r.span ≡ tag ++ behind)

-- the spans of the records, in order, are the bytes
abbrev pub Spans : (List ℕ → Type 0) → List Record → List ℕ → Type 0
Spans AreRecords [] s = s ≡ []
Spans AreRecords (r ∷ rs) s = (rest : List ℕ) × IsRecord AreRecords r × (s ≡ r.span ++ rest) × Spans AreRecords rs rest

-- bytes that are cut into records, with groups in them that are nested fewer levels than this
abbrev pub AreRecords : ℕ → List ℕ → Type 0
AreRecords zero s = ⊥
AreRecords (suc levels) s = (rs : List Record) × Spans (AreRecords levels) rs s

-- the bytes are these records, with groups nested at most so many levels
abbrev pub RecordsWithin : ℕ → List ℕ → List Record → Type 0
RecordsWithin levels s rs = Spans (AreRecords levels) rs s

-- the bytes are these records
abbrev pub Records : List ℕ → List Record → Type 0
Records s rs = (levels : ℕ) × RecordsWithin levels s rs

-- the records behind some bytes that are skipped, by a function that finds the first
abbrev pub records_from : (List ℕ → Option Form) → ℕ → List ℕ → Option (List Record)
records_from first skip [] = Some []
records_from first (suc skip) (b ∷ s) = records_from first skip s
records_from first zero (b ∷ s) =
    elim (first (b ∷ s)) [
      | None ↦ None
      | Some form ↦ option_map (λ rs. record_of form (b ∷ s) ∷ rs) (records_from first (form.size - 1) s)
    ]

-- the records, where groups are nested at most so many levels
abbrev pub records_within : ℕ → List ℕ → Option (List Record)
records_within levels s = records_from (λ s. value_read (record_left no_types levels [] 0 s)) 0 s

-- the records; there aren't more levels than bytes
abbrev pub records_of : List ℕ → Option (List Record)
records_of s = records_within (length s) s
