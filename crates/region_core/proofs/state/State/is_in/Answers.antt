use Rattle.std.proofs.Common.{rules, ◌≡◌, ◌∙◌, sym, ap, Some, true≢false}
use Rattle.std.specs.Prelude.{slice_get}
use mathlib.Core.Option.{some}
use lib.ListN.{get_elem?}
use denote.Enum.Bare.{same_true, true_same}
use Rattle.region_core.specs.declared.mode.Mode.{Mode}
use Rattle.region_core.specs.contracts.mode.Mode.{the_type}
use Rattle.region_core.proofs.Lists.{at_get, get_at}
use Rattle.region_core.proofs.state.State.is_in.Goals as goal

pub returns-in-Some : goal.returns-in-Some
returns-in-Some c =
    let there : slice_get c.args.self.now.modes c.args.by ≡ Some c.in-Some.found = sym c.mode.ensures ∙ c.in-Some.is in
    let in_found : get_elem? c.args.self.now.modes c.args.by ≡ some c.in-Some.found = at_get c.args.self.now.modes c.args.by c.in-Some.found there in (
      (λ t. let same : c.in-Some.found ≡ c.args.mode = same_true the_type (search rules) _ _ (sym c.eq.ensures ∙ t) in in_found ∙ ap (λ (m : Mode). some m) same),
      (λ e. let same : c.in-Some.found ≡ c.args.mode = cc (get_at c.args.self.now.modes c.args.by c.args.mode e, there) in c.eq.ensures ∙ true_same the_type c.in-Some.found c.args.mode same),
    )

pub returns-in-None : goal.returns-in-None
returns-in-None c = (
  (λ t. absurd (true≢false (sym t))),
  (λ e. let other = get_at c.args.self.now.modes c.args.by c.args.mode e in absurd (cc (other, c.mode.ensures, c.in-None.is))),
)
