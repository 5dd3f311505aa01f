-- What is left of the piece, or how the volume ends.
use Rattle.std.proofs.Common.{◌≡◌, ℕ, ◌+◌, ◌-◌, ◌≤◌, ◌||◌, true, false, nat_eq, List, length, take, drop, sym, ap, ◌∙◌, subst}
use Rattle.std.proofs.lemmas.Bool.{leb-true}
use Rattle.pcp_model.specs.Frame.{IsTorn}
use Rattle.log_summary.specs.Volumes.{SoFar, IsBroken}
use Rattle.log_summary.proofs.Pieced.{rest_read, all_read}
use Rattle.log_summary.proofs.Walked.{counted_here, ends_early}
use Rattle.log_summary.proofs.job.counted_to.Goals as goal

pub returns-then-not-is_all-clause-counts : goal.returns-then-not-is_all-clause-counts
returns-then-not-is_all-clause-counts c = λ bytes records from to read so_far torn.
    let at : ℕ = c.args.job.at + c.args.at in
    let offset : c.in-Some.offset ≡ at = c.in-Some.ensures.1 in
    let rest : List ℕ = c.rest_of.result.items in
    record {
      read = record {
        long = read.long;
        is = subst (λ n. rest ≡ take (length rest) (drop n bytes)) (sym offset) (rest_read bytes c.args.job.bytes.items c.args.job.at read.is c.args.at rest c.requires c.rest_of.ensures);
      };
      far = subst (λ n. SoFar bytes records from to n c.args.job.table) (sym offset) so_far;
    }

pub returns-then-ends_well-clause-counts : goal.returns-then-ends_well-clause-counts
returns-then-ends_well-clause-counts c = λ bytes records from to read so_far torn.
    let at : ℕ = c.args.job.at + c.args.at in
    let offset : c.in-Some.offset ≡ at = c.in-Some.ensures.1 in
    let all : c.args.job.end - c.args.job.at ≤ length c.args.job.bytes.items = leb-true _ _ (sym c.is_all.ensures ∙ c.if-not-is_all.false) in
    let ends : IsTorn (drop at bytes) = all_read bytes c.args.job.bytes.items c.args.job.at read.is c.args.at c.requires (subst (λ n. n - c.args.job.at ≤ length c.args.job.bytes.items) read.long all) torn in
    let well : c.args.job.is_last || nat_eq at (length bytes) ≡ true =
    ap (λ n. c.args.job.is_last || nat_eq n (length bytes)) (sym offset) ∙ ap (λ n. c.args.job.is_last || nat_eq c.in-Some.offset n) (sym read.long) ∙ sym c.ends_well.ensures ∙ c.if-ends_well.true in
    record {
      read = record { long = read.long; is = read.is };
      far = counted_here bytes c.args.job.is_last records from to at c.args.job.table so_far ends well;
    }

pub returns-else-ends_well-clause-counts : goal.returns-else-ends_well-clause-counts
returns-else-ends_well-clause-counts c = λ bytes records from to read so_far torn.
    let at : ℕ = c.args.job.at + c.args.at in
    let offset : c.in-Some.offset ≡ at = c.in-Some.ensures.1 in
    let all : c.args.job.end - c.args.job.at ≤ length c.args.job.bytes.items = leb-true _ _ (sym c.is_all.ensures ∙ c.if-not-is_all.false) in
    let ends : IsTorn (drop at bytes) = all_read bytes c.args.job.bytes.items c.args.job.at read.is c.args.at c.requires (subst (λ n. n - c.args.job.at ≤ length c.args.job.bytes.items) read.long all) torn in
    let badly : c.args.job.is_last || nat_eq at (length bytes) ≡ false =
    ap (λ n. c.args.job.is_last || nat_eq n (length bytes)) (sym offset) ∙ ap (λ n. c.args.job.is_last || nat_eq c.in-Some.offset n) (sym read.long) ∙ sym c.ends_well.ensures ∙ c.if-ends_well.false in
    record {
      read = record { long = read.long; is = read.is };
      far = subst (λ n. IsBroken bytes c.args.job.is_last n) (sym offset) (ends_early bytes c.args.job.is_last records from to at c.args.job.table so_far ends badly);
    }
