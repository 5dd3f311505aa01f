-- One job more is read on.
use Rattle.std.proofs.Common.{◌≡◌, List, [], ◌∷◌, ◌++◌, length, refl, sym, ap, ◌∙◌, subst, append_assoc, arith}
use Rattle.std.proofs.lemmas.List.{append-nil, nil_from_length}
use Rattle.std.specs.List.{AllByRecursion}
use Rattle.std.specs.Vec.Iter.{into_iter_items}
use Rattle.pcp_model.specs.Disk.{Files}
use Rattle.log_summary.specs.declared.job.Job.{Job}
use Rattle.log_summary.specs.Jobs.{IsPiece, IsReadOf, AreRead, AreReadOn}
use Rattle.log_summary.proofs.Rounds.{each_behind, each_next}
use Rattle.log_summary.proofs.jobs.with_pieces.Goals as goal

-- jobs in front of others that are read on
more_on : (files : Files) (jobs left done more : List Job) (job read : Job) → more ≡ done ++ read ∷ [] → AreReadOn files (job ∷ []) (read ∷ [])
    → ((ks : List Job) → AreReadOn files (job ∷ left) ks → AreReadOn files jobs (done ++ ks)) → (ks : List Job) → AreReadOn files left ks → AreReadOn files jobs (more ++ ks)
more_on files jobs left done more job read is one was ks on =
    subst (AreReadOn files jobs) (sym (ap (λ (l : List Job). l ++ ks) is ∙ append_assoc done (read ∷ []) ks)) (was (read ∷ ks) (one.0, on))

pub loop-job-init : goal.loop-job-init
loop-job-init c =
    let gives : into_iter_items c.into_iter-job-iterator.result ≡ c.args.jobs.items = c.into_iter-job-iterator.ensures.into_iter_gives.0 in
    record {
      many = omega (arith, c.new-more.ensures.len, ap length gives);
      on = λ files read pieces. (
        subst (AreRead files) (sym gives) read,
        subst (AllByRecursion (IsPiece files)) (sym c.into_iter-left.ensures.rest) pieces,
        λ ks on. subst (λ (l : List Job). AreReadOn files c.args.jobs.items (l ++ ks)) (sym c.new-more.ensures.items) (subst (λ (js : List Job). AreReadOn files js ks) gives on),
      );
    }

pub loop-job-preserved-in_default : goal.loop-job-preserved-in_default
loop-job-preserved-in_default c =
    let left : List Job = into_iter_items c.next.new.self in
    let steps : into_iter_items c.loop-job.job-iterator ≡ c.in-Some.job ∷ left = c.in-Some.ensures.steps.0 in
    record {
      many = omega (arith, c.in_ok-push.ensures.len, ap length steps, c.loop-job.invariant.many);
      on = λ files read pieces.
          let was = c.loop-job.invariant.on files read pieces in
          let all : AreRead files (c.in-Some.job ∷ left) = subst (AreRead files) steps was.0 in (
            all.1,
            each_behind (IsPiece files) c.next-in-loop-job.result (into_iter_items c.next-in-loop-job.new.self) (into_iter_items c.loop-job.left) c.next-in-loop-job.ensures.items was.1,
            more_on files c.args.jobs.items left c.loop-job.more.items c.push.new.jobs.items c.in-Some.job c.in-Some.job c.in_ok-push.ensures.items ((refl, all.0), tt)
                (λ ks on. was.2 ks (subst (λ (js : List Job). AreReadOn files js ks) (sym steps) on)),
          );
    }

pub loop-job-preserved : goal.loop-job-preserved
loop-job-preserved c =
    let left : List Job = into_iter_items c.next.new.self in
    let steps : into_iter_items c.loop-job.job-iterator ≡ c.in-Some.job ∷ left = c.in-Some.ensures.steps.0 in
    record {
      many = omega (arith, c.in_ok-push-2.ensures.len, ap length steps, c.loop-job.invariant.many);
      on = λ files read pieces.
          let was = c.loop-job.invariant.on files read pieces in
          let all : AreRead files (c.in-Some.job ∷ left) = subst (AreRead files) steps was.0 in
          let stands : IsPiece files c.in-Some-next.piece =
          each_next (IsPiece files) c.next-in-loop-job.result c.in-Some-next.piece (into_iter_items c.next-in-loop-job.new.self) (into_iter_items c.loop-job.left) c.in-Some-next.is c.next-in-loop-job.ensures.items was.1 in
          let now_read : IsReadOf files c.in_ok-read.read = c.in_ok-read.ensures.read files all.0 stands in (
            all.1,
            each_behind (IsPiece files) c.next-in-loop-job.result (into_iter_items c.next-in-loop-job.new.self) (into_iter_items c.loop-job.left) c.next-in-loop-job.ensures.items was.1,
            more_on files c.args.jobs.items left c.loop-job.more.items c.push-in-loop-job.new.jobs.items c.in-Some.job c.in_ok-read.read c.in_ok-push-2.ensures.items ((c.in_ok-read.ensures.on, now_read), tt)
                (λ ks on. was.2 ks (subst (λ (js : List Job). AreReadOn files js ks) (sym steps) on)),
          );
    }

pub returns-clause-on : goal.returns-clause-on
returns-clause-on c = λ files read pieces.
    let none : into_iter_items c.loop-job.job-iterator ≡ [] = nil_from_length (into_iter_items c.loop-job.job-iterator) (sym c.loop-job.job-iterator.rest.ok.0 ∙ c.in-None.ensures.steps.0) in
    let was = c.loop-job.invariant.on files read pieces in
    subst (AreReadOn files c.args.jobs.items) (append-nil c.loop-job.more.items) (was.2 [] (subst (λ (js : List Job). AreReadOn files js []) (sym none) tt))
