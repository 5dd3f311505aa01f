use Rattle.std.proofs.Common.{◌≡◌, false, sym, ap, subst, ◌∙◌}
use Rattle.std.specs.Ordering.{is_gt}
use Rattle.pcp_base.specs.Time.{microseconds}
use Rattle.archive_meta.specs.Order.{moment_order}
use Rattle.archive_meta.specs.Kept.{listing}
use Rattle.archive_meta.proofs.Entries.{is_last, is_none, nothing_there}
use Rattle.archive_meta.proofs.moments.last_moment.Goals as goal

pub returns-then-found-bound : goal.returns-then-found-bound
returns-then-found-bound c =
    let key = c.in-Some.found.now in
    let range = c.range.ensures.in_range tt in
    let here = range.3 key _ c.in-Some.ensures.steps in
    let is : c.listed-bound.result ≡ listing c.args.indom (microseconds c.args.t) 4294967295 = c.listed-bound.ensures in
    is_last c.args.moments.now c.args.indom (microseconds c.args.t) key (subst (λ b. is_gt (moment_order key b) ≡ false) is here.0.1)
    (λ q low there. range.4 key _ c.in-Some.ensures.steps q (tt, subst (λ b. is_gt (moment_order q b) ≡ false) (sym is) low) there) here.1
    (c.if-found-bound.true ∙ ap (λ b. b.indom) is)

pub returns-else-found-bound : goal.returns-else-found-bound
returns-else-found-bound c =
    let key = c.in-Some.found.now in
    let range = c.range.ensures.in_range tt in
    let here = range.3 key _ c.in-Some.ensures.steps in
    let is : c.listed-bound.result ≡ listing c.args.indom (microseconds c.args.t) 4294967295 = c.listed-bound.ensures in
    is_none c.args.moments.now c.args.indom (microseconds c.args.t) key (subst (λ b. is_gt (moment_order key b) ≡ false) is here.0.1)
    (λ q low there. range.4 key _ c.in-Some.ensures.steps q (tt, subst (λ b. is_gt (moment_order q b) ≡ false) (sym is) low) there)
    (λ same. c.if-found-bound.false (same ∙ sym (ap (λ b. b.indom) is)))

pub returns-in-None : goal.returns-in-None
returns-in-None c =
    let range = c.range.ensures.in_range tt in
    let is : c.listed-bound.result ≡ listing c.args.indom (microseconds c.args.t) 4294967295 = c.listed-bound.ensures in
    nothing_there c.args.moments.now c.args.indom (microseconds c.args.t)
    (λ q low. range.5 c.in-None.ensures.steps.0 q (tt, subst (λ b. is_gt (moment_order q b) ≡ false) (sym is) low))
