use Rattle.std.proofs.Common.{◌∷◌, [], ◌++◌, refl, subst}
use Rattle.pcp_model.specs.declared.records.MetaRecord.TheVariants.{Description, Domain, Other}
use Rattle.archive_meta.specs.Kept.{HasDescriptions, HasMoments}
use Rattle.archive_meta.proofs.FirstSeen.{dropped, other_less}
use Rattle.archive_meta.proofs.Entries.{moments_less, moments_other_less}
use Rattle.archive_meta.proofs.adding.forget.Goals as goal

pub returns-in-Description-clause-metrics : goal.returns-in-Description-clause-metrics
returns-in-Description-clause-metrics c = λ records here h. dropped c.args.descriptions.now c.forget_metric.new.descriptions records c.in-Description.desc c.in-Description.field-1 c.args.at here c.forget_metric.ensures
    (subst (λ r. HasDescriptions c.args.descriptions.now (records ++ r ∷ [])) c.in-Description.is h)

pub returns-in-Description-clause-domains : goal.returns-in-Description-clause-domains
returns-in-Description-clause-domains c = λ records here h. moments_other_less c.args.moments.now c.args.moments.now records (Description c.in-Description.desc c.in-Description.field-1) refl (λ i t. refl)
    (subst (λ r. HasMoments c.args.moments.now (records ++ r ∷ [])) c.in-Description.is h)

pub returns-in-Domain-clause-metrics : goal.returns-in-Domain-clause-metrics
returns-in-Domain-clause-metrics c = λ records here h. other_less c.args.descriptions.now c.args.descriptions.now records (Domain c.in-Domain.stamp c.in-Domain.indom c.in-Domain.field-2) refl (λ q. refl) refl
    (subst (λ r. HasDescriptions c.args.descriptions.now (records ++ r ∷ [])) c.in-Domain.is h)

pub returns-in-Domain-clause-domains : goal.returns-in-Domain-clause-domains
returns-in-Domain-clause-domains c = λ records here h. moments_less c.args.moments.now c.forget_moment.new.moments records c.in-Domain.stamp c.in-Domain.indom c.in-Domain.field-2 c.args.at here c.forget_moment.ensures
    (subst (λ r. HasMoments c.args.moments.now (records ++ r ∷ [])) c.in-Domain.is h)

pub returns-in-Other-clause-metrics : goal.returns-in-Other-clause-metrics
returns-in-Other-clause-metrics c = λ records here h. other_less c.args.descriptions.now c.args.descriptions.now records Other refl (λ q. refl) refl
    (subst (λ r. HasDescriptions c.args.descriptions.now (records ++ r ∷ [])) c.in-Other.is h)

pub returns-in-Other-clause-domains : goal.returns-in-Other-clause-domains
returns-in-Other-clause-domains c = λ records here h. moments_other_less c.args.moments.now c.args.moments.now records Other refl (λ i t. refl)
    (subst (λ r. HasMoments c.args.moments.now (records ++ r ∷ [])) c.in-Other.is h)
