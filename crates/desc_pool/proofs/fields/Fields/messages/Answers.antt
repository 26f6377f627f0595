use Rattle.desc_pool.proofs.Gathering.{found_read, found_subs}
use Rattle.desc_pool.proofs.fields.Fields.messages.Goals as goal

pub returns-clause-records : goal.returns-clause-records
returns-clause-records c =
    found_read c.args.bytes.now c.args.number c.in_ok-found.found.items c.deref.result.now c.args.self.now.records.items _ c.in_ok-found.ensures c.deref.ensures.value c.requires.read.records

pub returns-clause-subs : goal.returns-clause-subs
returns-clause-subs c =
    found_subs c.args.self.now.descriptor c.args.inner c.args.self.now.depth c.args.bytes.now c.args.number c.in_ok-found.found.items c.deref.result.now c.args.self.now.records.items c.in_ok-found.ensures c.deref.ensures.value c.requires.contents c.requires.read.read
