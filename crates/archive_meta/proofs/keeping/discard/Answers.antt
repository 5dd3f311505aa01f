use Rattle.std.proofs.Common.{◌≡◌, ◌<◌, ◌∷◌, [], ◌++◌, length, length-append, arith, ap, subst, sym}
use Rattle.archive_meta.specs.Kept.{HasDescriptions, HasMoments}
use Rattle.archive_meta.proofs.keeping.discard.Goals as goal

pub returns-clause-kept : goal.returns-clause-kept
returns-clause-kept c =
    let size : length c.args.records.now ≡ length (c.pop.new.self ++ c.in-Some.one ∷ []) = ap length c.in-Some.ensures.cases in
    let few : length c.args.records.now < 4294967296 = c.requires.few in
    record {
      few = omega (arith, length-append c.pop.new.self (c.in-Some.one ∷ []));
      metrics = c.forget.ensures.metrics c.pop.new.self (sym c.len-at.ensures) (subst (HasDescriptions c.args.descriptions.now) c.in-Some.ensures.cases c.requires.metrics);
      domains = c.forget.ensures.domains c.pop.new.self (sym c.len-at.ensures) (subst (HasMoments c.args.moments.now) c.in-Some.ensures.cases c.requires.domains);
    }
