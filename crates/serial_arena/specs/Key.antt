-- What no call of a memory changes, of a serial arena.
use Rattle.serial_arena.specs.Serial.{SerialState}
use Rattle.serial_arena.specs.declared.arena.SerialKey.{SerialKey}

-- the owner, the life, the region and the policy
abbrev pub key_of : SerialState → SerialKey
key_of s = record { owner = s.owner; life = s.life; region = s.region; policy = s.policy }
