-- Laws of the front of some bytes: what is read there is a tag, a length or a record exactly where one stands there.
use Rattle.std.proofs.Common.{◌≡◌, ℕ, ◌<◌, ◌≤◌, ◌^◌, List, [], ◌++◌, length, take, drop, Ok, ap, ◌∙◌, subst, length-take-le, take-append-drop}
use Rattle.pb_schema.specs.Varint.{Varint, length_bytes}
use Rattle.pb_schema.specs.Tag.{IsTag}
use Rattle.pb_schema.specs.Reads.{◌>>=◌}
use Rattle.pb_schema.specs.Form.{Form, form_at, read_tag, read_length}
use Rattle.pb_schema.specs.Fits.{no_types}
use Rattle.pb_schema.specs.Walk.{read_held, deeper_left, record_left}
use Rattle.pb_schema.specs.Records.{Record, IsRecord, AreRecords, record_of}
use Rattle.pb_schema.proofs.VarintLaws.{varint_at_found, varint_at_exact}
use Rattle.pb_schema.proofs.Steps.{varint_at_within}
use Rattle.pb_schema.proofs.FormLaws.{TagParts, bind_ok, read_tag_ok, read_tag_of, read_length_ok, read_length_of}
use Rattle.pb_schema.proofs.RecordsFound.{each_found, tag_found, tag_front}
use Rattle.pb_schema.proofs.RecordsFront.{each_front}

pub tag_there : (at : ℕ) (s : List ℕ) (number wire n : ℕ) → read_tag at s ≡ Ok (number, wire, n) → (n ≤ length s) × IsTag (take n s) number wire
tag_there at s number wire n e = read_tag_ok at s (number, wire, n) e λ p. (p.within, tag_found s number wire n p)

pub tag_read : (at : ℕ) (s : List ℕ) (number wire n : ℕ) → (n ≤ length s) × IsTag (take n s) number wire → read_tag at s ≡ Ok (number, wire, n)
tag_read at s number wire n p =
    let parts = tag_front (take n s) (drop n s) number wire p.1 in
    read_tag_of at s number wire n (subst (λ k. TagParts s number wire k) (length-take-le n s p.0) (subst (λ t. TagParts t number wire (length (take n s))) (take-append-drop n s) parts))

pub length_there : (at : ℕ) (s : List ℕ) (len n : ℕ) → read_length at s ≡ Ok (len, n) → (n ≤ length s) × Varint (take n s) length_bytes len × (len < 2 ^ 31)
length_there at s len n e = read_length_ok at s (len, n) e λ p. (p.within, (varint_at_found length_bytes s len n p.varint).1, p.below)

pub length_read : (at : ℕ) (s : List ℕ) (len n : ℕ) → (n ≤ length s) × Varint (take n s) length_bytes len × (len < 2 ^ 31) → read_length at s ≡ Ok (len, n)
length_read at s len n p =
    let found = varint_at_exact length_bytes s len n (p.0, p.1) in
    let size = varint_at_within length_bytes s len n found in
    read_length_of at s len n (record { varint = found; below = p.2; some = size.0; within = size.2 })

pub record_there : (levels at : ℕ) (s : List ℕ) (form : Form) → record_left no_types levels [] at s ≡ Ok form → IsRecord (AreRecords levels) (record_of form s) × (0 < form.size) × (form.size ≤ length s)
record_there levels at s form e =
    bind_ok (form_at at s) (λ form. read_held no_types (deeper_left no_types levels) [] at s form) form e
    λ start was held. let found = each_found levels at s start form was held in (found.is, found.some, found.within)

pub record_read : (levels at : ℕ) (s rest : List ℕ) (r : Record) → IsRecord (AreRecords levels) r → s ≡ r.span ++ rest → (form : Form) × (record_left no_types levels [] at s ≡ Ok form) × (form.size ≡ length r.span) × (record_of form s ≡ r)
record_read levels at s rest r p e =
    let front = each_front levels at s rest r p e in
    (front.whole, ap (λ x. x >>= λ form. read_held no_types (deeper_left no_types levels) [] at s form) front.form_is ∙ front.held, front.size, front.is)
