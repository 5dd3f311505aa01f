use Rattle.std.proofs.Common.{◌≡◌, ℕ, ◌++◌, List, map, ap, ap₂, ◌∙◌}
use Rattle.archive_meta.specs.Facts.{domain_of, listed_of}
use Rattle.archive_meta.specs.Missing.{values_of_keys, shown_domains, domains_of, position_from, at_positions}
use Rattle.archive_meta.proofs.FramedRecords.{ok_then}
use Rattle.archive_meta.proofs.Positions.{at_taken, found_first}
use Rattle.archive_meta.proofs.missing.domain_positions.Goals as goal

pub returns : goal.returns
returns c =
    let domains = c.args.facts.now.domains in
    let shown = shown_domains c.args.facts.now.metrics c.args.sets.now in
    let made : c.in_ok-table.table ≡ map domain_of domains = c.in_ok-table.ensures ∙ ap (map domain_of) c.as_slice.ensures in
    let table : c.as_slice-3.result.now ≡ map domain_of domains = c.as_slice-3.ensures ∙ made in
    let keys : c.deref.result.now ≡ shown ++ map domain_of domains =
    c.deref.ensures.value ∙ c.in_ok-extend_from_slice.ensures.items
    ∙ ap₂ (λ (a b : List ℕ). a ++ b) (c.into_vec-keys.ensures ∙ c.in_ok-shown.ensures) (c.as_slice-2.ensures ∙ made) in
    ok_then c.take_positions.result (λ positions. positions ≡ values_of_keys (position_from 0 c.as_slice-3.result.now) c.deref.result.now) (λ positions. at_positions domains positions ≡ domains_of c.args.facts.now c.args.sets.now) c.take_positions.ensures
    (λ positions e.
    ap (at_positions domains) (e ∙ ap₂ (λ (t k : List ℕ). values_of_keys (position_from 0 t) k) table keys)
    ∙ at_taken domains (position_from 0 (map domain_of domains)) (listed_of domains) (shown ++ map domain_of domains) (found_first domain_of domains))
