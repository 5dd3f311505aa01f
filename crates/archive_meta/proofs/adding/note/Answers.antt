use Rattle.std.proofs.Common.{◌∷◌, [], ◌++◌, refl, sym, subst}
use Rattle.pcp_model.specs.declared.records.MetaRecord.TheVariants.{Description, Domain, Other}
use Rattle.archive_meta.specs.Kept.{HasDescriptions, HasMoments}
use Rattle.archive_meta.proofs.FirstSeen.{noted, other_more}
use Rattle.archive_meta.proofs.Entries.{moments_more, moments_other}
use Rattle.archive_meta.proofs.Outcomes.{on_ok, on_any}
use Rattle.archive_meta.proofs.adding.note.Goals as goal

pub returns-in-Description-clause-metrics : goal.returns-in-Description-clause-metrics
returns-in-Description-clause-metrics c = on_ok c.note_metric.result c.note_metric.ensures.ok
    (λ n records here h. subst (λ r. HasDescriptions c.note_metric.new.descriptions (records ++ r ∷ [])) (sym c.in-Description.is)
    (noted c.args.descriptions.now c.note_metric.new.descriptions records c.in-Description.desc c.in-Description.field-1 c.args.at here n h))

pub returns-in-Description-clause-domains : goal.returns-in-Description-clause-domains
returns-in-Description-clause-domains c = on_any c.note_metric.result
    (λ records here h. subst (λ r. HasMoments c.args.moments.now (records ++ r ∷ [])) (sym c.in-Description.is)
    (moments_other c.args.moments.now c.args.moments.now records (Description c.in-Description.desc c.in-Description.field-1) refl (λ i t. refl) h))

pub returns-in-Domain-clause-metrics : goal.returns-in-Domain-clause-metrics
returns-in-Domain-clause-metrics c = on_any c.note_moment.result
    (λ records here h. subst (λ r. HasDescriptions c.args.descriptions.now (records ++ r ∷ [])) (sym c.in-Domain.is)
    (other_more c.args.descriptions.now c.args.descriptions.now records (Domain c.in-Domain.stamp c.in-Domain.indom c.in-Domain.field-2) refl (λ q. refl) refl h))

pub returns-in-Domain-clause-domains : goal.returns-in-Domain-clause-domains
returns-in-Domain-clause-domains c = on_ok c.note_moment.result c.note_moment.ensures.ok
    (λ n records here h. subst (λ r. HasMoments c.note_moment.new.moments (records ++ r ∷ [])) (sym c.in-Domain.is)
    (moments_more c.args.moments.now c.note_moment.new.moments records c.in-Domain.stamp c.in-Domain.indom c.in-Domain.field-2 c.args.at here n h))

pub returns-in-Other-clause-metrics : goal.returns-in-Other-clause-metrics
returns-in-Other-clause-metrics c = λ records here h. subst (λ r. HasDescriptions c.args.descriptions.now (records ++ r ∷ [])) (sym c.in-Other.is)
    (other_more c.args.descriptions.now c.args.descriptions.now records Other refl (λ q. refl) refl h)

pub returns-in-Other-clause-domains : goal.returns-in-Other-clause-domains
returns-in-Other-clause-domains c = λ records here h. subst (λ r. HasMoments c.args.moments.now (records ++ r ∷ [])) (sym c.in-Other.is)
    (moments_other c.args.moments.now c.args.moments.now records Other refl (λ i t. refl) h)
