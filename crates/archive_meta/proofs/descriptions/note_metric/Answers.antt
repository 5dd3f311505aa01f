use Rattle.std.proofs.Common.{◌≡◌, None, refl, sym, subst, ◌∙◌, nat_eq}
use Rattle.indexmap.specs.IndexMap.{get}
use Rattle.archive_meta.specs.Kept.{NotesMetric}
use Rattle.archive_meta.proofs.FirstSeen.{notes_new, notes_none}
use Rattle.archive_meta.proofs.descriptions.note_metric.Goals as goal

pub returns-in-Some-clause-ok : goal.returns-in-Some-clause-ok
returns-in-Some-clause-ok c = notes_none c.args.descriptions.now c.args.descriptions.now c.args.pmid c.args.at c.in-Some.field-0 (sym c.position_of.ensures ∙ c.in-Some.is) refl

pub returns-in_ok-insert-in-None-clause-ok : goal.returns-in_ok-insert-in-None-clause-ok
returns-in_ok-insert-in-None-clause-ok c = subst (λ p. NotesMetric p c.args.at c.args.descriptions.now c.insert.new.self) c.word.ensures
    (notes_new c.args.descriptions.now c.insert.new.self c.word.result c.args.at (subst (λ p. get nat_eq c.args.descriptions.now p ≡ None) (sym c.word.ensures) (sym c.position_of.ensures ∙ c.in-None.is))
    c.in_ok-insert-in-None.ensures.entries c.in_ok-insert-in-None.ensures.updates.0)
