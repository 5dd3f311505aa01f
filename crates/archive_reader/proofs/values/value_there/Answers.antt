use Rattle.std.proofs.Common.{ℕ, List, drop, subst}
use Rattle.pcp_base.specs.declared.file.FileId.TheVariants.{Volume}
use Rattle.pcp_model.specs.Disk.{contents_of}
use Rattle.archive_reader.specs.Steps.{IsStood}
use Rattle.archive_reader.proofs.Segmented.{no_step_there, bad_there}
use Rattle.archive_reader.proofs.values.value_there.Goals as goal

pub returns-in-End-clause-found : goal.returns-in-End-clause-found
returns-in-End-clause-found g c = λ tells.
    let files = contents_of (g.D.Disk.held c.args.disk.now) in
    let vs : List (ℕ × ℕ) = drop c.args.place.0 c.args.volumes.now in
    let has = c.requires.stands tells in
    absurd (no_step_there files vs c.args.place.1 has.0 has.1 (subst (IsStood files c.args.volumes.now vs c.args.place.1) c.in-End.is (c.in_ok-stand.ensures.step tells)) has.2)

pub returns-in-Bad-clause-fault : goal.returns-in-Bad-clause-fault
returns-in-Bad-clause-fault g c = λ tells.
    let files = contents_of (g.D.Disk.held c.args.disk.now) in
    let vs : List (ℕ × ℕ) = drop c.args.place.0 c.args.volumes.now in
    let has = c.requires.stands tells in
    absurd (bad_there files vs c.args.place.1 has.0 has.1 (Volume c.in-Bad.number) c.in-Bad.offset (subst (IsStood files c.args.volumes.now vs c.args.place.1) c.in-Bad.is (c.in_ok-stand.ensures.step tells)) has.2)
