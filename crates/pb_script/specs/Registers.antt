-- What the registers of a script hold.
use Rattle.std.specs.Prelude.{◌≡◌, ◌↔◌, List, map, Option, None, Some, IsSome}
use Rattle.serial_arena.specs.Serial.{SerialState}
use Rattle.dyn_message.specs.declared.msg_ref.MsgRef.{MsgRef}
use Rattle.pb_script.specs.declared.home.Home.{Home}
use Rattle.pb_script.specs.declared.home.Home.TheVariants.{A, H}

-- a register: where its message stands, the message where it has one, and the region of a message on the heap
pub record RegisterState : Type 0 where
  pub home : Home
  pub msg : Option MsgRef
  pub region : Option SerialState

-- it has a region exactly where it has a message on the heap
abbrev pub IsRegister : RegisterState → Type 0
IsRegister r = IsSome r.region ↔ ((r.home ≡ H) × IsSome r.msg)

-- it holds a message of arena A
abbrev pub in_a : MsgRef → RegisterState
in_a msg = record { home = A; msg = Some msg; region = None }

-- WHAT `cat` LEAVES: register i holds the message of frame i in arena A, and no register has a region
abbrev pub cat_registers : List MsgRef → List RegisterState
cat_registers messages = map in_a messages
