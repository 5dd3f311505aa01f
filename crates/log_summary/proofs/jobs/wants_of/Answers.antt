-- What is wanted of one job more.
use Rattle.std.proofs.Common.{List, [], ◌∷◌, sym, subst}
use Rattle.log_summary.specs.declared.piece.Want.{Want}
use Rattle.std.specs.List.{AllByRecursion}
use Rattle.pcp_model.proofs.Lists.{each-append}
use Rattle.log_summary.specs.Jobs.{IsReadOf, IsWithin}
use Rattle.log_summary.proofs.Rounds.{each_left}
use Rattle.log_summary.proofs.jobs.wants_of.Goals as goal

pub loop-job-preserved : goal.loop-job-preserved
loop-job-preserved c = record {
  left = λ files read. (each_left (IsReadOf files) c.args.jobs.now c.loop-job.job-index c.job-item.result c.loop-job-test.true (c.loop-job.invariant.left files read)).1;
  wants = λ files read.
      let here = each_left (IsReadOf files) c.args.jobs.now c.loop-job.job-index c.job-item.result c.loop-job-test.true (c.loop-job.invariant.left files read) in
      subst (AllByRecursion (IsWithin files)) (sym {A = List Want} c.in_ok-push.ensures.items)
      (each-append (IsWithin files) c.loop-job.wants.items (c.want_of.result ∷ []) (c.loop-job.invariant.wants files read) (c.want_of.ensures files (subst (IsReadOf files) (sym c.job-item.is) here.0), tt));
}
