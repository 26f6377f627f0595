use Rattle.desc_pool.specs.Files.{files_of}
use Rattle.desc_pool.proofs.Nested.{set_files}
use Rattle.desc_pool.proofs.read.sound_files.Goals as goal

pub returns : goal.returns
returns c =
    set_files files_of c.in_ok-fields.fields.descriptor c.in_ok-fields.fields.depth c.args.bytes.now c.in_ok-files.files c.in_ok-files.ensures c.in_ok-fields.ensures.descriptor c.in_ok-fields.ensures.depth c.requires.sound
