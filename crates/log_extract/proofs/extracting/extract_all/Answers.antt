-- What was extracted, whatever ended it.
use Rattle.std.proofs.Common.{inl, inr, refl, sym, subst, Err}
use Rattle.pcp_model.specs.Archive.{Readable}
use Rattle.pcp_model.specs.Disk.{CrashImage, contents_of}
use Rattle.pcp_outside.specs.Devices.{LeavesOnly}
use Rattle.archive_loading.proofs.Looking.{looks_none, looks_on}
use Rattle.logging_run.specs.declared.fault.RunFault.{RunFault}
use Rattle.log_extract.specs.declared.fault.ExtractFault.TheVariants.{Archive}
use Rattle.log_extract.specs.Extracting.{Extracted, extract_side}
use Rattle.log_extract.specs.Logging.{AreLeft, judged_left}
use Rattle.log_extract.proofs.Opening.{blames_if, quiet_in, ready_so}
use Rattle.log_extract.proofs.Whole.{Finishes, begun_so, ended, nothing_merged, passed_so, unrecovered}
use Rattle.log_extract.proofs.extracting.extract_all.Goals as goal

pub returns-in-Err : goal.returns-in-Err
returns-in-Err g c = record {
  sources = record { first = c.open_source.ensures.looks; second = looks_none g.B.Disk g.met.B.Disk.only_now c.args.second.now };
  came = inl (inl (refl, c.in-Err.ensures.back), refl, inl (refl, refl));
}

pub returns-in-Err-open_source : goal.returns-in-Err-open_source
returns-in-Err-open_source g c = record {
  sources = record { first = c.open_source.ensures.looks; second = c.open_source-2.ensures.looks };
  came = inl (inr (refl, passed_so g.A.Disk c.args.first.now c.in-Ok.ours c.in-Ok.ensures.opens, c.in-Err-open_source.ensures.back), refl, inr (refl, c.in-Ok.ensures.quiet));
}

pub returns-in-Err-begin : goal.returns-in-Err-begin
returns-in-Err-begin g c =
    let p = extract_side g.A.Disk c.args.first.now c.open_source.new.disk g.B.Disk c.args.second.now c.open_source-2.new.disk g.D.Disk c.args.disk.now c.begin.new.disk in
    let e = c.in-Err-begin.ensures in
    let whole = unrecovered p c.args.volume (passed_so g.A.Disk c.args.first.now c.in-Ok.ours c.in-Ok.ensures.opens) (passed_so g.B.Disk c.args.second.now c.in-Ok-open_source.theirs c.in-Ok-open_source.ensures.opens) e.unread
    (record { first = c.in-Ok.ensures.quiet; second = c.in-Ok-open_source.ensures.quiet }) (λ fault first_tells second_tells. nothing_merged p c.in-Ok.ours c.in-Ok-open_source.theirs fault (c.in-Ok.ensures.opens first_tells) (c.in-Ok-open_source.ensures.opens second_tells)) c.in-Err-begin.fault e.unrecovered e.cause in
    record {
      sources = record { first = c.open_source.ensures.looks; second = c.open_source-2.ensures.looks };
      came = inr (subst (λ (f : RunFault). Extracted p c.args.volume (Err (Archive f))) (sym c.begin_fault.ensures) whole);
    }

pub merge_all-merged-requires-clause-first_ready : goal.merge_all-merged-requires-clause-first_ready
merge_all-merged-requires-clause-first_ready g c = ready_so g.A.Disk c.args.first.now c.open_source.new.disk c.in-Ok.ours c.open_source.ensures.looks c.in-Ok.ensures.opens

pub merge_all-merged-requires-clause-second_ready : goal.merge_all-merged-requires-clause-second_ready
merge_all-merged-requires-clause-second_ready g c = ready_so g.B.Disk c.args.second.now c.open_source-2.new.disk c.in-Ok-open_source.theirs c.open_source-2.ensures.looks c.in-Ok-open_source.ensures.opens

pub returns : goal.returns
returns g c =
    let start = c.args.disk.now in
    let merged = c.merge_all-merged in
    let p = extract_side g.A.Disk c.args.first.now merged.new.first_disk g.B.Disk c.args.second.now merged.new.second_disk g.D.Disk start c.finish.new.disk in
    let runs = c.in-Ok-begin.ensures.begun.0 in
    let unread : g.D.Disk.tells → (Readable (contents_of (g.D.Disk.held start)) → ⊥) → LeavesOnly g.D.Disk.moment g.D.Disk.left_since start c.finish.new.disk (CrashImage (g.D.Disk.held start)) =
    λ tells none. let was = (runs.rests.told tells).recovered.was in absurd (none (was.reading, was.was)) in
    let e = c.finish.ensures in
    let f : Finishes g.D.Disk c.args.volume start merged.new.disk c.finish.new.disk merged.new.run c.finish.new.self c.finish.result =
    record { done = λ tells handed rests. e.done tells c.args.volume handed start rests; failed = λ handed rests. e.failed c.args.volume handed start rests; counted = e.counted; kinds = e.kinds; closed = e.closed; quiet = e.quiet } in
    let whole =
    ended p c.args.volume (passed_so g.A.Disk c.args.first.now c.in-Ok.ours c.in-Ok.ensures.opens) (passed_so g.B.Disk c.args.second.now c.in-Ok-open_source.theirs c.in-Ok-open_source.ensures.opens) unread merged.new.disk merged.new.run c.finish.new.self c.finish.result f
    (AreLeft g.A.Disk g.B.Disk c.open_source.new.disk c.open_source-2.new.disk c.in-Ok.ours c.in-Ok-open_source.theirs) (judged_left c.in-Ok.ours c.in-Ok-open_source.theirs)
    (λ first_tells second_tells.
    begun_so p c.open_source.new.disk c.open_source-2.new.disk c.in-Ok.ours c.in-Ok-open_source.theirs c.open_source.ensures.looks c.open_source-2.ensures.looks (c.in-Ok.ensures.opens first_tells) (c.in-Ok-open_source.ensures.opens second_tells) first_tells second_tells)
    merged.result (blames_if g.A.Disk g.B.Disk c.args.first.now c.open_source.new.disk merged.new.first_disk c.args.second.now c.open_source-2.new.disk merged.new.second_disk merged.result c.in-Ok.ensures.quiet c.in-Ok-open_source.ensures.quiet merged.ensures.broken)
    (quiet_in g.A.Disk g.B.Disk c.args.first.now c.open_source.new.disk merged.new.first_disk c.args.second.now c.open_source-2.new.disk merged.new.second_disk merged.result c.in-Ok.ensures.quiet c.in-Ok-open_source.ensures.quiet merged.ensures.quiet merged.ensures.others_quiet)
    (merged.ensures.logs c.args.volume start runs) in
    record {
      sources = record {
        first = looks_on g.A.Disk c.args.first.now c.open_source.new.disk merged.new.first_disk c.open_source.ensures.looks merged.ensures.first_looks;
        second = looks_on g.B.Disk c.args.second.now c.open_source-2.new.disk merged.new.second_disk c.open_source-2.ensures.looks merged.ensures.second_looks;
      };
      came = inr (subst (Extracted p c.args.volume) (sym c.ended_by.ensures) whole);
    }
