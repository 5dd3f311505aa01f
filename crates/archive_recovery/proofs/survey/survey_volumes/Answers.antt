use Rattle.std.proofs.Common.{subst}
use Rattle.pcp_model.specs.Disk.{contents_of}
use Rattle.archive_recovery.specs.Volumes.{IsVolumesRead}
use Rattle.archive_recovery.proofs.Surveying.{volume_refused, beside_none, all_sighted}
use Rattle.archive_recovery.proofs.survey.survey_volumes.Goals as goal

pub returns-in-Stops-clause-fault : goal.returns-in-Stops-clause-fault
returns-in-Stops-clause-fault g c = λ tells.
    let files = contents_of (g.D.Disk.held c.args.disk.now) in
    volume_refused files c.args.label c.args.meta c.args.tail c.args.tally c.args.index c.args.index_length (c.requires tells) c.in-Stops.number c.in-Stops.at
    (subst (IsVolumesRead files c.args.label c.args.tally c.read_volumes.new.tally) c.in-Stops.is (c.in_ok-number.ensures.read tells))

pub returns-then-not-is_beside-clause-fault : goal.returns-then-not-is_beside-clause-fault
returns-then-not-is_beside-clause-fault g c = λ tells.
    let files = contents_of (g.D.Disk.held c.args.disk.now) in
    let v = subst (IsVolumesRead files c.args.label c.args.tally c.read_volumes.new.tally) c.in-Whole.is (c.in_ok-number.ensures.read tells) in
    let why = c.if-not-is_beside.ensures in
    beside_none files c.args.label c.args.meta c.args.tail c.args.tally c.args.index c.args.index_length (c.requires tells) c.read_volumes.new.tally c.in-Whole.last c.in-Whole.top v why.0 why.1

pub returns-else-not-is_beside-clause-sighted : goal.returns-else-not-is_beside-clause-sighted
returns-else-not-is_beside-clause-sighted g c = λ tells.
    let files = contents_of (g.D.Disk.held c.args.disk.now) in
    let v = subst (IsVolumesRead files c.args.label c.args.tally c.read_volumes.new.tally) c.in-Whole.is (c.in_ok-number.ensures.read tells) in
    all_sighted files c.args.label c.args.meta c.args.tail c.args.tally c.args.index c.args.index_length (c.requires tells) c.read_volumes.new.tally c.in-Whole.last c.in-Whole.top v
    c.index_end.result c.index_end.ensures c.if-not-is_beside.ensures
