use Rattle.std.proofs.Common.{◌≡◌, ℕ, ◌++◌, List, None, map, sym, subst, subst₂, ap}
use Rattle.pcp_base.specs.declared.desc.Desc.{Desc}
use Rattle.pcp_base.specs.declared.result.ValueSet.{ValueSet}
use Rattle.std.specs.List.{AllByRecursion}
use Rattle.archive_meta.specs.Facts.{fact_of}
use Rattle.archive_meta.specs.Missing.{values_of_keys, undescribed_metrics, described_by, listed_from, at_positions, framed_records, large_length, IsSpelled, IsLargeOf, AreMade, IsRecordsFault}
use Rattle.archive_meta.proofs.FramedRecords.{both_made, first_large, last_large, match_handed}
use Rattle.archive_meta.proofs.state.MetaState.records_for.Goals as goal

pub returns-in_err-put_facts : goal.returns-in_err-put_facts
returns-in_err-put_facts c =
    let described = c.in_ok-described.described in
    let t = c.args.answer.now.stamp in
    let ds = λ (ps : List ℕ). map described_by (at_positions c.args.facts.now.metrics ps) in
    let ms = λ (ps : List ℕ). map (listed_from t) (at_positions c.args.facts.now.domains ps) in
    let first = subst₂ (λ (m : List (Desc × List ℕ)) (s : List ValueSet). map described_by (at_positions m described) ≡ map described_by (values_of_keys (fact_of m) (undescribed_metrics c.args.self.now s))) c.as_slice.ensures c.as_slice-sets.ensures
    (ap (map described_by) c.in_ok-described.ensures) in
    match_handed c.from_residual-in_err-put_facts.result c.in_err-put_facts.field-0.0 (AreMade c.args.self.now c.args.facts.now c.args.answer.now) (IsRecordsFault c.args.self.now c.args.facts.now c.args.answer.now) c.from_residual-in_err-put_facts.ensures.1
    (first_large c.args.self.now c.args.facts.now c.args.answer.now (ds described) (ms c.in_ok-listed.listed) first c.in_ok-listed.ensures c.in_err-put_facts.field-0.0
    (subst (λ ps. IsLargeOf (ds ps) c.in_err-put_facts.field-0.0) c.as_slice-2.ensures c.in_err-put_facts.ensures.fault))

pub returns-in_err-put_domains : goal.returns-in_err-put_domains
returns-in_err-put_domains c =
    let described = c.in_ok-described.described in
    let t = c.args.answer.now.stamp in
    let ds = λ (ps : List ℕ). map described_by (at_positions c.args.facts.now.metrics ps) in
    let ms = λ (ps : List ℕ). map (listed_from t) (at_positions c.args.facts.now.domains ps) in
    let first = subst₂ (λ (m : List (Desc × List ℕ)) (s : List ValueSet). map described_by (at_positions m described) ≡ map described_by (values_of_keys (fact_of m) (undescribed_metrics c.args.self.now s))) c.as_slice.ensures c.as_slice-sets.ensures
    (ap (map described_by) c.in_ok-described.ensures) in
    match_handed c.from_residual-in_err-put_domains.result c.in_err-put_domains.field-0.0 (AreMade c.args.self.now c.args.facts.now c.args.answer.now) (IsRecordsFault c.args.self.now c.args.facts.now c.args.answer.now) c.from_residual-in_err-put_domains.ensures.1
    (last_large c.args.self.now c.args.facts.now c.args.answer.now (ds described) (ms c.in_ok-listed.listed) first c.in_ok-listed.ensures c.in_err-put_domains.field-0.0
    (subst (λ ps. large_length (ds ps) ≡ None) c.as_slice-2.ensures c.in_ok-put_facts.ensures.fit)
    (subst (λ ps. IsLargeOf (ms ps) c.in_err-put_domains.field-0.0) c.as_slice-3.ensures c.in_err-put_domains.ensures.fault))

pub returns : goal.returns
returns c =
    let described = c.in_ok-described.described in
    let t = c.args.answer.now.stamp in
    let ds = λ (ps : List ℕ). map described_by (at_positions c.args.facts.now.metrics ps) in
    let ms = λ (ps : List ℕ). map (listed_from t) (at_positions c.args.facts.now.domains ps) in
    let first = subst₂ (λ (m : List (Desc × List ℕ)) (s : List ValueSet). map described_by (at_positions m described) ≡ map described_by (values_of_keys (fact_of m) (undescribed_metrics c.args.self.now s))) c.as_slice.ensures c.as_slice-sets.ensures
    (ap (map described_by) c.in_ok-described.ensures) in
    subst (AreMade c.args.self.now c.args.facts.now c.args.answer.now) (sym c.from_vec.ensures)
    (both_made c.args.self.now c.args.facts.now c.args.answer.now (ds described) (ms c.in_ok-listed.listed) first c.in_ok-listed.ensures c.new-out.result.items c.put_facts.new.out.items c.put_domains.new.out.items c.new-out.ensures.items
    (subst (λ ps. c.put_facts.new.out.items ≡ c.new-out.result.items ++ framed_records (ds ps)) c.as_slice-2.ensures c.in_ok-put_facts.ensures.bytes)
    (subst (λ ps. large_length (ds ps) ≡ None) c.as_slice-2.ensures c.in_ok-put_facts.ensures.fit)
    (subst (λ ps. c.put_domains.new.out.items ≡ c.put_facts.new.out.items ++ framed_records (ms ps)) c.as_slice-3.ensures c.in_ok-put_domains.ensures.bytes)
    (subst (λ ps. large_length (ms ps) ≡ None) c.as_slice-3.ensures c.in_ok-put_domains.ensures.fit)
    (subst (λ ps. AllByRecursion IsSpelled (ds ps)) c.as_slice-2.ensures c.in_ok-put_facts.ensures.read)
    (subst (λ ps. AllByRecursion IsSpelled (ms ps)) c.as_slice-3.ensures c.in_ok-put_domains.ensures.read))
