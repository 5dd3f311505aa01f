use Rattle.std.proofs.Common.{◌≡◌, ◌-◌, true, false, ◌∷◌, [], ◌++◌, take, sym, ap, ◌∙◌, subst}
use Rattle.pcp_model.specs.Records.{AreConsistent}
use Rattle.archive_meta.specs.Woven.{with_other_records, AreMarked}
use Rattle.archive_meta.proofs.Consistent.{consistent_front}
use Rattle.archive_meta.proofs.Woven.{woven_length, IsLess, less_kept, less_other, less_front}
use Rattle.archive_meta.proofs.keeping.pop.Goals as goal

pub returns-in-Some-true-clause-rest : goal.returns-in-Some-true-clause-rest
returns-in-Some-true-clause-rest c =
    let is : c.args.marks.now ≡ c.pop.new.self ++ true ∷ [] = c.in-Some-true.ensures.cases ∙ ap (λ b. c.pop.new.self ++ b ∷ []) c.in-Some-true.field-0-test in
    let less : IsLess (with_other_records c.args.marks.now c.args.records.now) c.pop.new.self c.discard.new.records =
    subst (λ m. IsLess (with_other_records m c.args.records.now) c.pop.new.self c.discard.new.records) (sym is)
    (less_kept c.pop.new.self c.args.records.now c.discard.new.records (subst (λ m. AreMarked m c.args.records.now) is c.requires.marked) c.discard.ensures.rest) in
    less_front (with_other_records c.args.marks.now c.args.records.now) c.pop.new.self c.discard.new.records less
    ∙ ap (λ n. take (n - 1) (with_other_records c.args.marks.now c.args.records.now)) (woven_length c.args.marks.now c.args.records.now c.requires.marked)

pub returns-in-Some-true-clause-state : goal.returns-in-Some-true-clause-state
returns-in-Some-true-clause-state c =
    let is : c.args.marks.now ≡ c.pop.new.self ++ true ∷ [] = c.in-Some-true.ensures.cases ∙ ap (λ b. c.pop.new.self ++ b ∷ []) c.in-Some-true.field-0-test in
    let less : IsLess (with_other_records c.args.marks.now c.args.records.now) c.pop.new.self c.discard.new.records =
    subst (λ m. IsLess (with_other_records m c.args.records.now) c.pop.new.self c.discard.new.records) (sym is)
    (less_kept c.pop.new.self c.args.records.now c.discard.new.records (subst (λ m. AreMarked m c.args.records.now) is c.requires.marked) c.discard.ensures.rest) in
    record {
      kept = c.discard.ensures.kept;
      marked = less.marked;
      consistent = consistent_front (with_other_records c.pop.new.self c.discard.new.records) (less.last ∷ []) (subst AreConsistent less.is c.requires.consistent);
    }

pub returns-in-Some-false-clause-rest : goal.returns-in-Some-false-clause-rest
returns-in-Some-false-clause-rest c =
    let is : c.args.marks.now ≡ c.pop.new.self ++ false ∷ [] = c.in-Some-false.ensures.cases ∙ ap (λ b. c.pop.new.self ++ b ∷ []) c.in-Some-false.field-0-test in
    let less : IsLess (with_other_records c.args.marks.now c.args.records.now) c.pop.new.self c.args.records.now =
    subst (λ m. IsLess (with_other_records m c.args.records.now) c.pop.new.self c.args.records.now) (sym is)
    (less_other c.pop.new.self c.args.records.now (subst (λ m. AreMarked m c.args.records.now) is c.requires.marked)) in
    less_front (with_other_records c.args.marks.now c.args.records.now) c.pop.new.self c.args.records.now less
    ∙ ap (λ n. take (n - 1) (with_other_records c.args.marks.now c.args.records.now)) (woven_length c.args.marks.now c.args.records.now c.requires.marked)

pub returns-in-Some-false-clause-state : goal.returns-in-Some-false-clause-state
returns-in-Some-false-clause-state c =
    let is : c.args.marks.now ≡ c.pop.new.self ++ false ∷ [] = c.in-Some-false.ensures.cases ∙ ap (λ b. c.pop.new.self ++ b ∷ []) c.in-Some-false.field-0-test in
    let less : IsLess (with_other_records c.args.marks.now c.args.records.now) c.pop.new.self c.args.records.now =
    subst (λ m. IsLess (with_other_records m c.args.records.now) c.pop.new.self c.args.records.now) (sym is)
    (less_other c.pop.new.self c.args.records.now (subst (λ m. AreMarked m c.args.records.now) is c.requires.marked)) in
    record {
      kept = c.requires.kept;
      marked = less.marked;
      consistent = consistent_front (with_other_records c.pop.new.self c.args.records.now) (less.last ∷ []) (subst AreConsistent less.is c.requires.consistent);
    }
