use Rattle.std.proofs.Common.{◌≡◌, ◌<◌, Some, refl, sym, ◌∙◌, arith, below_more}
use Rattle.std.specs.Prelude.{slice_get}
use Rattle.std.proofs.lemmas.List.{take_rest}
use Rattle.std.proofs.lemmas.Option.{slice_get_read}
use Rattle.pcp_model.proofs.Listed.{listed_when, each_listed}
use Rattle.pcp_model.proofs.instances.are_instances.Goals as goal

pub loop-i-preserved : goal.loop-i-preserved
loop-i-preserved c =
    let lt : c.loop-i.i < c.args.count = c.loop-i-test.true in
    let stands = simp take_rest at c.if-not-is_pair.ensures in
    let there : slice_get c.args.pairs.now c.loop-i.i ≡ Some c.index-pairs-i.result = slice_get_read c.args.pairs.now c.args.count c.loop-i.i c.index-pairs-i.result (sym c.requires.as_many) lt c.index-pairs-i.is in
    below_more _ _ c.loop-i.invariant (stands.0 refl ∙ sym there)

pub returns-then-not-is_pair : goal.returns-then-not-is_pair
returns-then-not-is_pair c =
    let lt : c.loop-i.i < c.args.count = c.loop-i-test.true in
    let stands = simp take_rest at c.if-not-is_pair.ensures in
    let there : slice_get c.args.pairs.now c.loop-i.i ≡ Some c.index-pairs-i.result = slice_get_read c.args.pairs.now c.args.count c.loop-i.i c.index-pairs-i.result (sym c.requires.as_many) lt c.index-pairs-i.is in (
      λ no. absurd cc,
      λ all. stands.1 (each_listed c.args.count c.args.bytes.now c.args.pairs.now c.requires.few c.requires.room all c.loop-i.i lt ∙ there),
    )

pub returns : goal.returns
returns c = (
  λ yes. listed_when c.args.count c.args.bytes.now c.args.pairs.now c.requires.few c.requires.room c.requires.as_many (λ at lt. c.loop-i.invariant at (omega arith)),
  λ all. refl,
)
