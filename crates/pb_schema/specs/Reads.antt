-- What reading bytes gives: a value, or the first fault. A fault has its kind and the byte where it stands, counted
-- from the start of the frame's payload.
use Rattle.std.specs.Prelude.{◌+◌, ℕ, Result, Ok, Err, Option, None, Some}
use Rattle.pb_schema.specs.declared.wire_fault.WireKind.{WireKind}
use Rattle.pb_schema.specs.declared.wire_fault.WireFault.{WireFault}

-- what is wrong, and where
abbrev pub fault : {A : Type 0} → WireKind → ℕ → Result A WireFault
fault kind byte = Err (record { kind = kind; byte = byte })

-- what is read next, unless there is a fault already
infixl 10 ◌>>=◌
abbrev pub ◌>>=◌ : {A B : Type 0} → Result A WireFault → (A → Result B WireFault) → Result B WireFault
(Ok x) >>= f = f x
(Err e) >>= f = Err e

-- the same with what was read changed
abbrev pub read_map : {A B : Type 0} → (A → B) → Result A WireFault → Result B WireFault
read_map f (Ok x) = Ok (f x)
read_map f (Err e) = Err e

-- the value alone, and the fault alone
abbrev pub value_read : {A : Type 0} → Result A WireFault → Option A
value_read (Ok x) = Some x
value_read (Err e) = None

abbrev pub fault_read : {A : Type 0} → Result A WireFault → Option WireFault
fault_read (Ok x) = None
fault_read (Err e) = Some e

-- the fault of bytes that stand so many bytes later
abbrev pub moved : ℕ → WireFault → WireFault
moved n d = record d { byte = n + d.byte }
