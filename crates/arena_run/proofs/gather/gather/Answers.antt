use Rattle.std.proofs.Common.{◌≡◌, ◌≤◌, ◌^◌, map, length, None, Some, Ok, subst}
use Rattle.std.specs.Prelude.{IfSome}
use Rattle.std.specs.String.{string_bytes}
use Rattle.arena_mem.specs.Outside.{content_of}
use Rattle.pb_schema.specs.Frames.{frames_of}
use Rattle.arena_run.specs.Causes.{EndsByFile, ReadsFile}
use Rattle.arena_run.proofs.CauseLaws.{file_of_none, type_below}
use Rattle.arena_run.proofs.Firsts.{if_err}
use Rattle.arena_run.proofs.gather.gather.Goals as goal

pub returns-in_err-named-clause-by_file : goal.returns-in_err-named-clause-by_file
returns-in_err-named-clause-by_file g c =
    let words = map string_bytes c.args.words.now in
    let F = g.F.Files in
    if_err c.from_residual.result _ (λ fault. EndsByFile F.contents F.faults F.blamed words c.args.files.now c.args.files.now (Some fault)) c.from_residual.ensures.1
    (file_of_none F.contents F.faults F.blamed words c.args.files.now _ c.in_err-named.ensures.by_words c.in_err-named.ensures.kind)

-- all was read
pub returns-in-Ok-read_frames_file-clause-read : goal.returns-in-Ok-read_frames_file-clause-read
returns-in-Ok-read_frames_file-clause-read g c =
    let F = g.F.Files in
    let named = c.in_ok-named.named in
    let set = c.in_ok-types.ensures in
    let file = c.in-Ok-read_frames_file.ensures in
    let asks = c.in_ok-named.ensures.workers in
    let frames = c.in-Ok-read_frames_file.frames in
    record {
      set = named.set.now;
      type_name = named.type_name.now;
      name = named.frames.now;
      cat = c.in_ok-named.ensures.built;
      asks = asks;
      given = set.gives;
      typed = c.in_ok-root.ensures.found;
      between = c.read_types.new.files;
      set_read = set.reads;
      read = subst (λ name. ReadsFile F.contents F.faults F.blamed name c.read_types.new.files c.read_frames_file.new.files None) c.in-Ok.ensures.ok file.reads;
      small = record {
        lawful = set.lawful;
        there = type_below c.in_ok-types.types named.type_name.now c.in_ok-root.root c.in_ok-root.ensures.found;
        fits = file.fits;
        few = file.few;
        some = asks.spelled.low;
        most = asks.spelled.high;
      };
      whole = subst (λ name. IfSome (content_of (F.contents c.read_types.new.files) name) (λ content. (length content ≤ 2 ^ 24) × (frames_of content ≡ Ok frames))) c.in-Ok.ensures.ok file.whole;
    }
