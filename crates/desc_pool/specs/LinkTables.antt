-- A table of the real oneofs of a message.
use Rattle.std.specs.Prelude.{◌≡◌, ◌+◌, ◌≤◌, ℕ, List, length, slice_index}
use Rattle.desc_pool.specs.declared.file.MessageDecl.{MessageDecl}
use Rattle.desc_pool.specs.Linked.{real_below}

-- how many stand in front of each, and at the end how many there are
pub record CountsReal (message : MessageDecl) (before : List ℕ) : Type 0 where
  pub size : length before ≡ message.oneofs + 1
  pub reals : (oneof : ℕ) → oneof ≤ message.oneofs → slice_index before oneof ≡ real_below message oneof
