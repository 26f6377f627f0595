-- How far the texts of messages are written.
use Rattle.std.proofs.Common.{◌≡◌, ◌+◌, ◌-◌, ◌<◌, ◌≤◌, ◌^◌, ℕ, zero, suc, List, [], ◌∷◌, ◌++◌, length, get_or, take, drop, length-append, length-take-le, Option, None, Some, Result, Ok, Err, append-nil, refl, sym, ap, ◌∙◌, subst, arith}
use Rattle.std.specs.Prelude.{OnOk, OnErr}
use Rattle.std.specs.Io.KnownBytes.{Appends, append_known}
use Rattle.std.proofs.lemmas.List.{at_drop_all}
use Rattle.arena_mem.specs.declared.outside.Failed.{Failed}
use Rattle.arena_mem.specs.Outside.{Gathers, TookPart}
use Rattle.arena_mem.specs.Places.{Places, Buffers}
use Rattle.pb_schema.specs.declared.schema.Schema.{Schema}
use Rattle.pb_schema.specs.Payloads.{framed_text, framed_texts}
use Rattle.pb_schema.specs.Text.{framed, text_of}
use Rattle.pb_schema.specs.Tree.{Tree, Shape}
use Rattle.pb_schema.specs.Varint.{varint_of}
use Rattle.dyn_message.specs.declared.msg_ref.MsgRef.{MsgRef}
use Rattle.dyn_message.specs.Feet.{Foot}
use Rattle.dyn_message.specs.Stands.{Stands}
use Rattle.pb_write.specs.Texts.{shape_text}
use Rattle.pb_write.proofs.Writing.{IsWritten, written_none}
use Rattle.pb_write.specs.Writes.{Counts}
use Rattle.arena_run.specs.Lines.{LieWhole, TookLines}
use Rattle.arena_run.specs.Stands.{AllStand, StandShort}

abbrev pub no_message : MsgRef
no_message = record { place = record { region = 0; block = 0; offset = 0; len = 0 }; type_no = 0 }

-- a message stands for a shape whose text is the next to be written behind its length
pub record NextText (schema : Schema) (places : Places) (buffers : Buffers) (type_no : ℕ) (trees : List Tree) (msg : MsgRef) (i : ℕ) : Type 0 where
  pub shape : Shape
  pub own : List Foot
  pub stands : Stands schema places buffers msg shape own
  pub short : length (shape_text schema msg.type_no shape) < 2 ^ 62
  pub rest : framed_texts schema type_no (drop i trees) ≡ framed (shape_text schema msg.type_no shape) ++ framed_texts schema type_no (drop (i + 1) trees)

next_among : (schema : Schema) (places : Places) (buffers : Buffers) (type_no : ℕ) (messages : List MsgRef) (trees : List Tree) (feet : List Foot) (i : ℕ) (d : MsgRef) → i < length messages → AllStand schema places buffers type_no messages trees feet
    → length (framed_texts schema type_no trees) < 2 ^ 62 → NextText schema places buffers type_no trees (get_or messages i d) i
next_among schema places buffers type_no [] trees feet i d within all short = absurd (omega (arith, within))
next_among schema places buffers type_no (msg ∷ messages) [] feet i d within all short = absurd all
next_among schema places buffers type_no (msg ∷ messages) (tree ∷ trees) feet zero d within all short =
    let st = all.first.1 in
    let text = text_of schema type_no tree in
    let text_is : shape_text schema msg.type_no st.shape ≡ text = ap (text_of schema msg.type_no) st.joined ∙ ap (λ n. text_of schema n tree) all.first.0 in
    record {
      shape = st.shape;
      own = all.own;
      stands = st.stands;
      short = subst (λ s. length s < 2 ^ 62) (sym text_is) (omega (arith, short, length-append (framed text) (framed_texts schema type_no trees), length-append (varint_of (length text)) text));
      rest = ap (λ s. framed s ++ framed_texts schema type_no trees) (sym text_is);
    }
next_among schema places buffers type_no (msg ∷ messages) (tree ∷ trees) feet (suc i) d within all short =
    let later = next_among schema places buffers type_no messages trees all.rest i d (omega (arith, within)) all.second (omega (arith, short, length-append (framed_text schema type_no tree) (framed_texts schema type_no trees))) in
    record {
      shape = later.shape;
      own = later.own;
      stands = later.stands;
      short = later.short;
      rest = later.rest ∙ ap (λ k. framed (shape_text schema (get_or messages i d).type_no later.shape) ++ framed_texts schema type_no (drop k (tree ∷ trees))) (next i);
    }
  where
    next : (n : ℕ) → suc (n + 1) ≡ suc n + 1
    next n = omega arith

pub next_text : (schema : Schema) (places : Places) (buffers : Buffers) (type_no : ℕ) (messages : List MsgRef) (trees : List Tree) (i : ℕ) (d : MsgRef) → i < length messages → StandShort schema places buffers type_no messages trees
    → NextText schema places buffers type_no trees (get_or messages i d) i
next_text schema places buffers type_no messages trees i d within all = next_among schema places buffers type_no messages trees all.apart.feet i d within all.apart.stand all.short

pub same_length : (schema : Schema) (places : Places) (buffers : Buffers) (type_no : ℕ) (messages : List MsgRef) (trees : List Tree) (feet : List Foot) → AllStand schema places buffers type_no messages trees feet → length trees ≡ length messages
same_length schema places buffers type_no [] [] feet all = refl
same_length schema places buffers type_no [] (tree ∷ trees) feet all = absurd all
same_length schema places buffers type_no (msg ∷ messages) [] feet all = absurd all
same_length schema places buffers type_no (msg ∷ messages) (tree ∷ trees) feet all = ap suc (same_length schema places buffers type_no messages trees all.rest all.second)

-- behind the last message nothing is left
pub none_left : (schema : Schema) (places : Places) (buffers : Buffers) (type_no : ℕ) (messages : List MsgRef) (trees : List Tree) (i : ℕ) → length messages ≤ i → StandShort schema places buffers type_no messages trees → framed_texts schema type_no (drop i trees) ≡ []
none_left schema places buffers type_no messages trees i past all =
    let same = same_length schema places buffers type_no messages trees all.apart.feet all.apart.stand in
    at_drop_all (framed_texts schema type_no) trees i (omega (arith, past, same))

-- COUNTING

-- the texts of the first trees and those of the rest
texts_parted : (schema : Schema) (type_no : ℕ) (trees : List Tree) (i : ℕ) → length (framed_texts schema type_no trees) ≡ length (framed_texts schema type_no (take i trees)) + length (framed_texts schema type_no (drop i trees))
texts_parted schema type_no trees zero = omega arith
texts_parted schema type_no [] (suc i) = omega arith
texts_parted schema type_no (tree ∷ trees) (suc i) =
    let text = framed_text schema type_no tree in
    omega (arith, length-append text (framed_texts schema type_no trees), length-append text (framed_texts schema type_no (take i trees)), texts_parted schema type_no trees i)

-- so far the texts lie whole, and so many bytes are left
abbrev pub IsCounted : Schema → ℕ → List Tree → ℕ → ℕ → ℕ → Type 0
IsCounted schema type_no trees bytes i left = bytes ≡ length (framed_texts schema type_no (take i trees)) + left

pub count_more : (schema : Schema) (type_no : ℕ) (trees : List Tree) (bytes i left size : ℕ) (text : List ℕ) → framed_texts schema type_no (drop i trees) ≡ text ++ framed_texts schema type_no (drop (i + 1) trees) → size ≡ length text → size ≤ left
    → IsCounted schema type_no trees bytes i left → IsCounted schema type_no trees bytes (i + 1) (left - size)
count_more schema type_no trees bytes i left size text rest is less counted =
    omega (arith, ap length rest, length-append text (framed_texts schema type_no (drop (i + 1) trees)), is, less, counted, texts_parted schema type_no trees i, texts_parted schema type_no trees (i + 1))

pub count_ends : (schema : Schema) (type_no : ℕ) (trees : List Tree) (bytes i left size : ℕ) (text : List ℕ) → framed_texts schema type_no (drop i trees) ≡ text ++ framed_texts schema type_no (drop (i + 1) trees) → size ≡ length text → left < size → i ≤ length trees
    → IsCounted schema type_no trees bytes i left → LieWhole schema type_no trees bytes i
count_ends schema type_no trees bytes i left size text rest is short few counted = record {
  few = few;
  whole = omega (arith, counted);
  next = λ _. omega (arith, ap length rest, length-append text (framed_texts schema type_no (drop (i + 1) trees)), is, short, counted, texts_parted schema type_no trees i, texts_parted schema type_no trees (i + 1));
}

-- all of them lie whole
pub count_all : (schema : Schema) (type_no : ℕ) (trees : List Tree) (bytes i left : ℕ) → i ≡ length trees → IsCounted schema type_no trees bytes i left → LieWhole schema type_no trees bytes i
count_all schema type_no trees bytes i left all counted = record { few = omega (arith, all); whole = omega (arith, counted); next = λ more. absurd (omega (arith, more, all)) }

-- the rooms counted what the sink took of these texts, which is in their count's range
pub took_lines : (schema : Schema) (type_no : ℕ) (trees : List Tree) (was now : Option (List ℕ)) (bytes lines before : ℕ) → length (framed_texts schema type_no trees) < 2 ^ 62 → bytes < 2 ^ 64 → before ≡ 0 → Counts was now before bytes → TookPart was now (framed_texts schema type_no trees)
    → LieWhole schema type_no trees bytes lines → TookLines schema type_no trees was now lines
took_lines schema type_no trees None now bytes lines before short range none counts part whole = whole.few
took_lines schema type_no trees (Some x) None bytes lines before short range none counts part whole = absurd part
took_lines schema type_no trees (Some x) (Some y) bytes lines before short range none counts part whole =
    let all = framed_texts schema type_no trees in
    let taken : length y ≡ length x + part.0 = ap length part.2 ∙ length-append x (take part.0 all) ∙ ap (λ n. length x + n) (length-take-le part.0 all (omega (arith, part.1))) in
    subst (λ n. LieWhole schema type_no trees n lines) (omega (arith, taken, part.1, short, range, none, counts.0, counts.1)) whole

-- AT THE END

pub on_err : (r : Result (Unit {0}) Failed) (P : Type 0) → P → OnErr r P
on_err (Ok v) P p = tt
on_err (Err e) P p = p

-- what was written, from nothing that waited
from_nothing : (a c : Option (List ℕ)) (text : List ℕ) → Appends (append_known a []) c text → Appends a c text
from_nothing None c text given = tt
from_nothing (Some x) None text given = given
from_nothing (Some x) (Some y) text given = given ∙ ap (λ xs. xs ++ text) (append-nil x)

handed_over : (a b c : Option (List ℕ)) (piece text : List ℕ) → Appends a (append_known b piece) text → Appends b c piece → Appends a c text
handed_over None b c piece text given handed = tt
handed_over (Some x) None c piece text given handed = absurd given
handed_over (Some x) (Some y) None piece text given handed = absurd handed
handed_over (Some x) (Some y) (Some z) piece text given handed = handed ∙ given

-- what waits is handed over last
pub handed_last : (a b c : Option (List ℕ)) (piece text : List ℕ) (r : Result (Unit {0}) Failed) → Gathers a [] b piece text → OnOk r (Appends b c piece) → OnOk r (Appends a c text)
handed_last a b c piece text (Ok v) gathers given = handed_over a b c piece text (from_nothing a (append_known b piece) text gathers) given
handed_last a b c piece text (Err e) gathers given = tt

-- at first nothing waits, and all is left
pub none_waits : (a : Option (List ℕ)) (waits whole : List ℕ) → waits ≡ [] → IsWritten a [] a waits whole whole
none_waits a waits whole none = subst (λ xs. IsWritten a [] a xs whole whole) (sym none) (written_none a [] whole)
