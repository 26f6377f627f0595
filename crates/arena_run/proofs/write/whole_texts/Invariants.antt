use Rattle.std.proofs.Common.{◌≡◌, ℕ, List}
use Rattle.pb_schema.specs.Tree.{Tree}
use Rattle.arena_run.specs.Stands.{StandShort}
use Rattle.arena_run.proofs.Written.{IsCounted}
use Rattle.arena_run.proofs.write.whole_texts.Given as goal

-- the texts of the messages so far lie whole, and the other bytes are left
abbrev pub invariant-loop-message : goal.invariant-loop-message
invariant-loop-message g l =
    let M = g.M.Memory in
    record {
      counts : l.whole ≡ l.message-index;
      lie : (type_no : ℕ) (trees : List Tree) → StandShort l.types (M.places l.mem) (M.buffers l.mem) type_no l.messages trees → IsCounted l.types type_no trees l.bytes l.message-index l.left;
    }
