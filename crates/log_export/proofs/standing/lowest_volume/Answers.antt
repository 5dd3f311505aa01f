-- The volumes are counted, and one after another looked at.
use Rattle.std.proofs.Common.{◌≡◌, ◌∙◌, length, subst, arith}
use Rattle.pcp_base.specs.declared.file.FileId.TheVariants.{Volume}
use Rattle.pcp_model.specs.Disk.{contents_of}
use Rattle.pcp_outside.specs.Causes.{shown_count}
use Rattle.archive_loading.proofs.Looking.{looked, looks_on}
use Rattle.log_export.proofs.Occupied.{no_byte, one_more_empty}
use Rattle.log_export.proofs.standing.lowest_volume.Goals as goal

pub returns-in_err-count-clause-looks : goal.returns-in_err-count-clause-looks
returns-in_err-count-clause-looks g c = looked g.D.Disk g.met.D.Disk.only_now c.args.disk.now c.volumes.new.self c.volumes.result c.volumes.ensures.cause c.volumes.ensures.held c.volumes.ensures.wrapped c.volumes.ensures.time

pub loop-number-init : goal.loop-number-init
loop-number-init g c = record {
  looks = looked g.D.Disk g.met.D.Disk.only_now c.args.disk.now c.volumes.new.self c.volumes.result c.volumes.ensures.cause c.volumes.ensures.held c.volumes.ensures.wrapped c.volumes.ensures.time;
  quiet = c.in_ok-count.ensures.quiet;
  none = λ tells k lt. absurd (omega (arith, lt));
}

pub returns-in_err-length-clause-looks : goal.returns-in_err-length-clause-looks
returns-in_err-length-clause-looks g c =
    looks_on g.D.Disk c.args.disk.now c.loop-number.disk c.len.new.self c.loop-number.invariant.looks
    (looked g.D.Disk g.met.D.Disk.only_now c.loop-number.disk c.len.new.self c.len.result c.len.ensures.cause c.len.ensures.held c.len.ensures.wrapped c.len.ensures.time)

pub returns-then-length-gt0-clause-looks : goal.returns-then-length-gt0-clause-looks
returns-then-length-gt0-clause-looks g c =
    looks_on g.D.Disk c.args.disk.now c.loop-number.disk c.len.new.self c.loop-number.invariant.looks
    (looked g.D.Disk g.met.D.Disk.only_now c.loop-number.disk c.len.new.self c.len.result c.len.ensures.cause c.len.ensures.held c.len.ensures.wrapped c.len.ensures.time)

pub loop-number-preserved : goal.loop-number-preserved
loop-number-preserved g c = record {
  looks = looks_on g.D.Disk c.args.disk.now c.loop-number.disk c.len.new.self c.loop-number.invariant.looks
      (looked g.D.Disk g.met.D.Disk.only_now c.loop-number.disk c.len.new.self c.len.result c.len.ensures.cause c.len.ensures.held c.len.ensures.wrapped c.len.ensures.time);
  quiet = c.in_ok-length.ensures.quiet ∙ c.loop-number.invariant.quiet;
  none = λ tells.
      one_more_empty (contents_of (g.D.Disk.held c.args.disk.now)) c.loop-number.number (c.loop-number.invariant.none tells)
      (no_byte (contents_of (g.D.Disk.held c.args.disk.now) (Volume c.loop-number.number)) c.in_ok-length.length
      (subst (λ h. c.in_ok-length.length ≡ shown_count (length (contents_of h (Volume c.loop-number.number)))) (c.loop-number.invariant.looks.held tells) (c.in_ok-length.ensures.length tells))
      (λ some. omega (arith, some, c.if-length-gt0.false)));
}
