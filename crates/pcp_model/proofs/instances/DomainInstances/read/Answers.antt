use Rattle.std.proofs.Common.{Some, inl, inr, sym, ap, ◌∙◌, subst, arith}
use Rattle.pcp_model.specs.Instances.{listed_in, ListsInstances}
use Rattle.pcp_model.proofs.Listed.{lists, lists_none, no_room}
use Rattle.pcp_model.proofs.instances.DomainInstances.read.Goals as goal
use Rattle.pcp_model.proofs.instances.DomainInstances.read.Goals.{then-count-via-then-count, then-count-via-else-count+then-bytes-count}

pub returns-then-count : goal.returns-then-count
returns-then-count c = elim c.then-count.branch [
  | then-count-via-then-count w ↦ sym (no_room c.args.count c.args.bytes.now (inl (omega arith)))
  | then-count-via-else-count+then-bytes-count w ↦ sym (no_room c.args.count c.args.bytes.now (inr (omega arith)))
]

pub returns-then-not-have_names : goal.returns-then-not-have_names
returns-then-not-have_names c = sym (lists_none c.args.count c.args.bytes.now (omega arith) (omega arith) (sym c.if-not-have_names.ensures))

pub invariant_of-result : goal.invariant_of-result
invariant_of-result c =
    subst (ListsInstances c.args.count) (sym (c.from_vec-bytes.ensures ∙ c.in_ok-from_slice.ensures.items)) (lists c.args.count c.args.bytes.now (omega arith) (omega arith) (sym c.if-not-have_names.ensures))

pub returns : goal.returns
returns c =
    let all : ListsInstances c.args.count c.args.bytes.now = lists c.args.count c.args.bytes.now (omega arith) (omega arith) (sym c.if-not-have_names.ensures) in
    ap (λ bytes. Some (listed_in c.args.count bytes)) (c.from_vec-bytes.ensures ∙ c.in_ok-from_slice.ensures.items) ∙ sym all.all
