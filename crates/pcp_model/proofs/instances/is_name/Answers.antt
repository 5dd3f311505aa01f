use Rattle.std.proofs.Common.{◌≡◌, ◌≤◌, length, Some, None, sym, ◌∙◌, arith}
use Rattle.std.proofs.lemmas.List.{take_rest}
use Rattle.pcp_model.specs.Instances.{name_at}
use Rattle.pcp_model.proofs.Listed.{name_past}
use Rattle.pcp_model.proofs.ZeroBytes.{name_stands, name_again}
use Rattle.pcp_model.proofs.instances.is_name.Goals as goal

pub returns-then-table-from : goal.returns-then-table-from
returns-then-table-from c =
    let past : length c.args.table.now ≤ c.args.offset = omega arith in
    let none : name_at c.args.table.now c.args.offset ≡ None = name_past c.args.table.now c.args.offset past in
    (λ no. absurd cc, λ some. let both : None ≡ Some c.args.name.now = sym none ∙ some in absurd cc)

pub returns : goal.returns
returns c =
    let e = simp (take_rest, c.as_slice.ensures.value) at c.begin_with.ensures in (
      λ begins. name_again c.args.table.now c.args.name.now c.args.offset (record { text = c.as_slice.ensures.text; is = e.0 begins }),
      λ named. e.1 (name_stands c.args.table.now c.args.name.now c.args.offset named).is,
    )
