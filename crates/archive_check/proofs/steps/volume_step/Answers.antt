use Rattle.std.proofs.Common.{◌-◌, ℕ, List, ap, subst, arith}
use Rattle.pcp_base.specs.declared.file.FileId.TheVariants.{Volume}
use Rattle.pcp_model.specs.Disk.{contents_of}
use Rattle.archive_loading.proofs.Looking.{looked}
use Rattle.archive_check.specs.Stamped.{IsHead}
use Rattle.archive_check.proofs.Heads.{few_left, no_head, head_step}
use Rattle.archive_check.proofs.steps.volume_step.Goals.{then-at-end-via-then-at-end, then-at-end-via-else-at-end+then-end-at-lt12}
use Rattle.archive_check.proofs.steps.volume_step.Goals as goal

pub returns-then-at-end-clause-found : goal.returns-then-at-end-clause-found
returns-then-at-end-clause-found g c = λ tells records front p.
    let bytes : List ℕ = contents_of (g.D.Disk.held c.args.disk.now) (Volume c.args.number) in
    few_left bytes records c.args.at front c.args.number p (elim c.then-at-end.branch [
      | then-at-end-via-then-at-end w ↦ omega (arith, w.if-at-end.true, c.requires.end tells)
      | then-at-end-via-else-at-end+then-end-at-lt12 w ↦ omega (arith, w.if-end-at-lt12.true, c.requires.end tells)
    ])

pub returns-in_err-read-clause-looks : goal.returns-in_err-read-clause-looks
returns-in_err-read-clause-looks g c = looked g.D.Disk g.met.D.Disk.only_now c.args.disk.now c.read.new.self c.read.result c.read.ensures.cause c.read.ensures.held c.read.ensures.wrapped c.read.ensures.time

pub returns-in-Some-clause-looks : goal.returns-in-Some-clause-looks
returns-in-Some-clause-looks g c = looked g.D.Disk g.met.D.Disk.only_now c.args.disk.now c.read.new.self c.read.result c.read.ensures.cause c.read.ensures.held c.read.ensures.wrapped c.read.ensures.time

pub returns-in-None-clause-looks : goal.returns-in-None-clause-looks
returns-in-None-clause-looks g c = looked g.D.Disk g.met.D.Disk.only_now c.args.disk.now c.read.new.self c.read.result c.read.ensures.cause c.read.ensures.held c.read.ensures.wrapped c.read.ensures.time

pub returns-in-None-clause-found : goal.returns-in-None-clause-found
returns-in-None-clause-found g c = λ tells records front p.
    let bytes : List ℕ = contents_of (g.D.Disk.held c.args.disk.now) (Volume c.args.number) in
    no_head bytes records c.args.at front c.args.number p c.read.new.buffer (c.args.end - c.args.at) (c.in_ok-read.ensures.bytes tells) (ap (λ n. n - c.args.at) (c.requires.end tells))
    (subst (IsHead c.read.new.buffer (c.args.end - c.args.at)) c.in-None.is c.head_in.ensures)

pub returns-in-Some-clause-found : goal.returns-in-Some-clause-found
returns-in-Some-clause-found g c = λ tells records front p.
    let bytes : List ℕ = contents_of (g.D.Disk.held c.args.disk.now) (Volume c.args.number) in
    head_step bytes records c.args.at front c.args.number p c.read.new.buffer (c.args.end - c.args.at) c.in-Some.head.0 c.in-Some.head.1 (c.in_ok-read.ensures.bytes tells) (ap (λ n. n - c.args.at) (c.requires.end tells))
    (omega (arith, c.if-end-at-lt12.false)) (subst (IsHead c.read.new.buffer (c.args.end - c.args.at)) c.in-Some.is c.head_in.ensures)
