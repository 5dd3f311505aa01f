-- What holds of each job and its count holds of all.
use Rattle.std.proofs.Common.{◌≡◌, length, arith}
use Rattle.std.specs.Prelude.{slice_index_or}
use Rattle.log_summary.specs.Jobs.{IsCountedOn}
use Rattle.log_summary.proofs.Rounds.{by_place}
use Rattle.log_summary.proofs.jobs.count_pieces.Goals as goal

pub returns-clause-on : goal.returns-clause-on
returns-clause-on g c =
    let long : length c.in_ok-counted.counted.items ≡ length c.args.jobs.items = omega (arith, c.in_ok-counted.ensures.len) in
    by_place c.args.meta.now c.args.from c.args.to c.args.jobs.items c.in_ok-counted.counted.items long
    (λ i d lt.
    let e = (c.in_ok-counted.ensures.each i d lt).1 in
    let said : IsCountedOn c.args.meta.now c.args.from c.args.to e.job (slice_index_or c.in_ok-counted.counted.items i d) = assumption e.call.met in
    (e.job, e.job_is, said))
