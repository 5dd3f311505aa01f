use Rattle.std.proofs.Common.{◌≡◌, ℕ, List, ◌++◌, map, sym, subst}
use Rattle.std.specs.List.{AllByRecursion}
use Rattle.pcp_model.specs.Described.{HoldsAt}
use Rattle.archive_meta.specs.Facts.{domain_of}
use Rattle.archive_meta.specs.Missing.{shown_domains, domains_of, listed_from, AreMissingDomains, at_positions}
use Rattle.archive_meta.proofs.FramedRecords.{ok_then}
use Rattle.archive_meta.proofs.Lacking.{none_missing}
use Rattle.archive_meta.proofs.state.MetaState.missing_domains.Goals as goal

pub returns-then-hold_all : goal.returns-then-hold_all
returns-then-hold_all c =
    let t = c.args.answer.now.stamp in
    let domains = c.args.facts.now.domains in
    let all = subst (AllByRecursion (λ d. HoldsAt c.args.self.now d.0 t d.1)) c.as_slice.ensures (c.hold_all.ensures c.if-hold_all.true) in
    subst (λ ps. AreMissingDomains c.args.self.now t (domains_of c.args.facts.now c.args.answer.now.sets) (map (listed_from t) (at_positions domains ps))) (sym c.empty.ensures)
    (none_missing c.args.self.now t domains (shown_domains c.args.facts.now.metrics c.args.answer.now.sets ++ map domain_of domains) all)

pub returns : goal.returns
returns c =
    let t = c.args.answer.now.stamp in
    let told = λ (ps : List ℕ). map (listed_from t) (at_positions c.args.facts.now.domains ps) in
    let sets : c.as_slice-2.result.now ≡ c.args.answer.now.sets = c.as_slice-2.ensures in
    let positions = c.in_ok-positions.ensures in
    ok_then c.lacking.result (λ left. AreMissingDomains c.args.self.now t (at_positions c.args.facts.now.domains c.as_slice-3.result.now) (told left))
    (λ left. AreMissingDomains c.args.self.now t (domains_of c.args.facts.now c.args.answer.now.sets) (told left)) c.lacking.ensures
    (λ left m.
    subst (λ s. AreMissingDomains c.args.self.now t (domains_of c.args.facts.now s) (told left)) sets
    (subst (λ ds. AreMissingDomains c.args.self.now t ds (told left)) positions
    (subst (λ ps. AreMissingDomains c.args.self.now t (at_positions c.args.facts.now.domains ps) (told left)) c.as_slice-3.ensures m)))
