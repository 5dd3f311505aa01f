-- A name that fits takes its place.
use Rattle.std.proofs.Common.{◌≡◌, ℕ, List, map, false, sym, ap, ◌∙◌, subst}
use Rattle.pmns_core.specs.Pairs.{with_pair, least_name, IsInOrder}
use Rattle.pmns_core.specs.Adding.{is_there, is_under, is_above}
use Rattle.pmns_core.specs.Tables.{pairs_of}
use Rattle.pmns_core.proofs.Tables.{pair, fits_in, insert_is_with_pair, pair_put_in_order, least_with_pair}
use Rattle.pmns_core.proofs.table.add_one.Goals as goal

absent : (c : goal.In_ok-insert) → is_there (pairs_of c.args.table.now) c.args.name.now ≡ false
absent c = ap (is_there (pairs_of c.args.table.now)) (sym c.as_slice.ensures.value) ∙ sym c.if-has.ensures

takes_place : (c : goal.In_ok-insert) → pairs_of c.insert.new.self ≡ with_pair (pairs_of c.args.table.now) c.args.name.now c.args.pmid
takes_place c =
    let same : c.in_ok-key.key.items ≡ c.args.name.now = c.in_ok-key.ensures.items ∙ c.as_slice-3.ensures.value in
    ap (map pair) c.in_ok-insert.ensures.entries
    ∙ insert_is_with_pair c.args.table.now.entries c.in_ok-key.key c.args.pmid (ap (is_there (pairs_of c.args.table.now)) same ∙ absent c)
    ∙ ap (λ (name : List ℕ). with_pair (pairs_of c.args.table.now) name c.args.pmid) same

pub returns-clause-adds : goal.returns-clause-adds
returns-clause-adds c =
    let under : is_under (pairs_of c.args.table.now) c.args.name.now ≡ false = ap (is_under (pairs_of c.args.table.now)) (sym c.as_slice-2.ensures.value) ∙ sym c.if-continues_one.ensures in
    let above : is_above (pairs_of c.args.table.now) c.args.name.now ≡ false = ap (is_above (pairs_of c.args.table.now)) (sym c.as_slice-else-continues_one.ensures.value) ∙ sym c.in_ok-is_continued.ensures ∙ c.if-branch.false in
    (fits_in (pairs_of c.args.table.now) c.args.name.now (absent c) under above, takes_place c)

pub returns-clause-order : goal.returns-clause-order
returns-clause-order c = subst IsInOrder (sym (takes_place c)) (pair_put_in_order (pairs_of c.args.table.now) c.args.name.now c.args.pmid c.as_slice.ensures.text (absent c) c.requires)

pub returns-clause-least : goal.returns-clause-least
returns-clause-least c q =
    ap (λ ps. least_name ps q) (takes_place c)
    ∙ least_with_pair (pairs_of c.args.table.now) c.args.name.now c.args.pmid q (absent c) c.requires
