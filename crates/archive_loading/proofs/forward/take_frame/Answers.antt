use Rattle.std.proofs.Common.{subst, arith}
use Rattle.std.specs.Prelude.{IfOk}
use Rattle.pcp_model.specs.Disk.{contents_of}
use Rattle.archive_loading.specs.Standing.{IsTaken}
use Rattle.archive_loading.proofs.Endings.{took_word}
use Rattle.archive_loading.proofs.Looking.{looks_none, looks_on}
use Rattle.archive_loading.proofs.forward.take_frame.Goals as goal

pub returns-then-at-end-clause-looks : goal.returns-then-at-end-clause-looks
returns-then-at-end-clause-looks g c = looks_none g.D.Disk g.met.D.Disk.only_now c.args.disk.now

pub returns-clause-taken : goal.returns-clause-taken
returns-clause-taken g c = λ tells.
    subst (λ h. IfOk c.take_rest.result (IsTaken (contents_of h c.args.file) c.args.at c.take_rest.new.frame.items)) (c.take_bytes.ensures.looks.held tells) (c.take_rest.ensures.taken tells)

pub returns-clause-looks : goal.returns-clause-looks
returns-clause-looks g c = looks_on g.D.Disk c.args.disk.now c.take_bytes.new.disk c.take_rest.new.disk c.take_bytes.ensures.looks c.take_rest.ensures.looks

pub returns-in_err-take_bytes-clause-count : goal.returns-in_err-take_bytes-clause-count
returns-in_err-take_bytes-clause-count g c = λ tells.
    took_word (contents_of (g.D.Disk.held c.args.disk.now) c.args.file) c.args.at (g.D.Disk.taken c.args.disk.now) (g.D.Disk.taken c.take_bytes.new.disk)
    (omega (arith, c.requires.end tells, c.if-at-end.false, c.if-end-at-lt4.false)) (c.take_bytes.ensures.most tells)
