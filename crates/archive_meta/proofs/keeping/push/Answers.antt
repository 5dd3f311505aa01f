use Rattle.std.proofs.Common.{true, ◌∷◌, [], ◌++◌, sym, ap, ◌∙◌, subst}
use Rattle.pcp_model.specs.Records.{AreConsistent}
use Rattle.archive_meta.specs.Woven.{with_other_records, AreMarked}
use Rattle.archive_meta.proofs.Woven.{marked_other, woven_other, marked_more, woven_more}
use Rattle.archive_meta.proofs.keeping.push.Goals as goal

pub returns-then-is_other-clause-ok : goal.returns-then-is_other-clause-ok
returns-then-is_other-clause-ok c =
    ap (λ m. with_other_records m c.args.records.now) c.in_ok-push.ensures.ok ∙ woven_other c.args.marks.now c.args.records.now c.requires.state.marked
    ∙ ap (λ r. with_other_records c.args.marks.now c.args.records.now ++ r ∷ []) (sym (c.is_other.ensures.0 c.if-is_other.true))

pub returns-then-is_other-clause-state : goal.returns-then-is_other-clause-state
returns-then-is_other-clause-state c =
    let all =
    ap (λ m. with_other_records m c.args.records.now) c.in_ok-push.ensures.ok ∙ woven_other c.args.marks.now c.args.records.now c.requires.state.marked
    ∙ ap (λ r. with_other_records c.args.marks.now c.args.records.now ++ r ∷ []) (sym (c.is_other.ensures.0 c.if-is_other.true)) in
    record {
      kept = c.requires.state.kept;
      marked = subst (λ m. AreMarked m c.args.records.now) (sym c.in_ok-push.ensures.ok) (marked_other c.args.marks.now c.args.records.now c.requires.state.marked);
      consistent = subst AreConsistent (sym all) c.requires.consistent;
    }

pub returns-in-Ok-clause-ok : goal.returns-in-Ok-clause-ok
returns-in-Ok-clause-ok c =
    ap (λ m. with_other_records m c.keep.new.records) c.in_ok-push-2.ensures.ok ∙ ap (with_other_records (c.args.marks.now ++ true ∷ [])) c.in-Ok.ensures.ok
    ∙ woven_more c.args.marks.now c.args.records.now c.args.one c.requires.state.marked

pub returns-in-Ok-clause-state : goal.returns-in-Ok-clause-state
returns-in-Ok-clause-state c =
    let all =
    ap (λ m. with_other_records m c.keep.new.records) c.in_ok-push-2.ensures.ok ∙ ap (with_other_records (c.args.marks.now ++ true ∷ [])) c.in-Ok.ensures.ok
    ∙ woven_more c.args.marks.now c.args.records.now c.args.one c.requires.state.marked in
    record {
      kept = c.in-Ok.ensures.kept;
      marked = subst (λ m. AreMarked m c.keep.new.records) (sym c.in_ok-push-2.ensures.ok)
          (subst (AreMarked (c.args.marks.now ++ true ∷ [])) (sym c.in-Ok.ensures.ok) (marked_more c.args.marks.now c.args.records.now c.args.one c.requires.state.marked));
      consistent = subst AreConsistent (sym all) c.requires.consistent;
    }
