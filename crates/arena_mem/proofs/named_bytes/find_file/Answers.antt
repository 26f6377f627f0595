use Rattle.std.proofs.Common.{◌≡◌, true, false, sym, ap, ◌∙◌, arith}
use Rattle.std.specs.Str.{bytes_eq}
use Rattle.arena_mem.proofs.NamedFiles.{get-named_files_here, get-named_files_next, get-named_files_past}
use Rattle.arena_mem.proofs.named_bytes.find_file.Goals as goal

pub returns-then-eq-clause-found : goal.returns-then-eq-clause-found
returns-then-eq-clause-found c =
    let f = c.index-files-i.result in
    let name_is : c.as_slice.result.now ≡ f.name = c.as_slice.ensures.value ∙ ap (λ x. x.name) c.file.view_is in
    let same : bytes_eq c.args.name.now f.name ≡ true = ap (bytes_eq c.args.name.now) (sym name_is) ∙ sym c.eq.ensures ∙ c.if-eq.true in
    sym c.loop-i.invariant ∙ get-named_files_here c.args.files.now c.loop-i.i f c.args.name.now (omega arith) c.index-files-i.is same

pub loop-i-preserved : goal.loop-i-preserved
loop-i-preserved c =
    let f = c.index-files-i.result in
    let name_is : c.as_slice.result.now ≡ f.name = c.as_slice.ensures.value ∙ ap (λ x. x.name) c.file.view_is in
    let other : bytes_eq c.args.name.now f.name ≡ false = ap (bytes_eq c.args.name.now) (sym name_is) ∙ sym c.eq.ensures ∙ c.if-eq.false in
    sym (get-named_files_next c.args.files.now c.loop-i.i f c.args.name.now (omega arith) c.index-files-i.is other) ∙ c.loop-i.invariant

pub returns-clause-absent : goal.returns-clause-absent
returns-clause-absent c =
    sym c.loop-i.invariant ∙ get-named_files_past c.args.files.now c.loop-i.i c.args.name.now c.loop-i-test.false
