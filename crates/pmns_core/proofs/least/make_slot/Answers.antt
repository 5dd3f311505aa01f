-- A slot without a name changes no name.
use Rattle.std.proofs.Common.{◌≡◌, None, true, sym, ap, ◌∙◌}
use Rattle.std.specs.Option.{option_and_then}
use Rattle.std.specs.Ordering.{nat_cmp, is_eq}
use Rattle.std.specs.BTreeMap.{get}
use Rattle.std.specs.FinMap.{nat_cmp-IsAntisymmetric}
use Rattle.pmns_core.proofs.Bytes.{order_equal}
use Rattle.pmns_core.proofs.Slots.{some_cond, empty_slot, none_there}
use Rattle.pmns_core.proofs.least.make_slot.Goals as goal

pub returns-clause-same : goal.returns-clause-same
returns-clause-same c q =
    let old = c.args.least.now in
    let k = c.args.pmid in
    let absent : get nat_cmp old k ≡ None = none_there (get nat_cmp old k) (sym c.if-contains_key.ensures) in
    let at : is_eq (nat_cmp k q) ≡ true → get nat_cmp old q ≡ None = λ e. ap (get nat_cmp old) (sym (nat_cmp-IsAntisymmetric k q (order_equal (nat_cmp k q) e))) ∙ absent in
    ap (option_and_then (λ name. name)) (c.in_ok-insert.ensures.updates.0 q)
    ∙ empty_slot (is_eq (nat_cmp k q)) (get nat_cmp old q) at

pub returns-clause-keeps : goal.returns-clause-keeps
returns-clause-keeps c q had = rw (c.in_ok-insert.ensures.updates.0 q) (some_cond (is_eq (nat_cmp c.args.pmid q)) None (get nat_cmp c.args.least.now q) had)
