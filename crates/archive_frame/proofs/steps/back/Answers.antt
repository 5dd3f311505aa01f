use Rattle.std.proofs.Common.{◌≡◌, ◌+◌, ◌-◌, arith, refl, subst, sym}
use Rattle.std.specs.List.{slice_range}
use Rattle.pcp_base.specs.Fields.{number_at}
use Rattle.archive_frame.specs.Steps.{Stands}
use Rattle.archive_frame.proofs.Records.{stands}
use Rattle.archive_frame.proofs.steps.back.Goals as goal

pub returns-clause-found : goal.returns-clause-found
returns-clause-found c =
    let first = c.args.at - c.in_ok-size.size in
    let end : first + c.in_ok-size.size ≡ c.args.at = omega arith in
    let tail : number_at c.args.bytes.now (c.args.at - 4) ≡ c.in_ok-size.size = omega (arith, c.in-Some.ensures.1, c.in_ok-size.ensures.0) in
    let head : number_at c.args.bytes.now first ≡ c.in_ok-size.size = omega (arith, c.in-Some-word_at.ensures.1, c.in_ok-size.ensures.0, c.if-head-tail.false) in (
      subst (λ n. Stands c.args.bytes.now (slice_range c.args.bytes.now (first + 4) (n - 4)) first n) end
          (stands c.args.bytes.now first c.in_ok-size.size (λ i. omega (arith, c.type_inv.bytes i)) c.in_ok-size.ensures.1 (omega arith) head
          (subst (λ n. number_at c.args.bytes.now (n - 4) ≡ c.in_ok-size.size) (sym end) tail)),
      refl,
      omega arith,
    )
