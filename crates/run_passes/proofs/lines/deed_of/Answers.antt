use Rattle.std.proofs.Common.{◌≡◌, [], Option, Some, None, MatchOption, inl, inr, subst}
use Rattle.run_script.specs.declared.script.Line.{Line}
use Rattle.script_runs.specs.Steps.{pass_step, in_region}
use Rattle.run_passes.specs.Works.{step_of}
use Rattle.run_passes.specs.NamedItems.{NamesNoItem}
use Rattle.run_passes.proofs.lines.deed_of.Goals as goal

-- where there can't be none, there is one
some_only : {A : Type 0} (found : Option A) (N M : Type 0) (P : A → Type 0) → (N → ⊥) → MatchOption found N P → MatchOption found M P
some_only None N M P never h = absurd (never h)
some_only (Some x) N M P never h = h

pub returns-in-Swap-clause-step : goal.returns-in-Swap-clause-step
returns-in-Swap-clause-step c = λ regions.
    some_only c.item_deed.result (NamesNoItem c.args.line.now) (pass_step c.args.script.now regions c.args.line.now ≡ Some (regions, []))
    (λ found. pass_step c.args.script.now regions c.args.line.now ≡ in_region regions found.0 found.1 (step_of found.2))
    (λ h. elim (c.in-Swap.is) as (λ _. ⊥) [ inl swap ↦ subst (λ (line : Line). NamesNoItem line) swap.5 h | inr add ↦ subst (λ (line : Line). NamesNoItem line) add.5 h ])
    (c.item_deed.ensures.step c.args.script.now regions)
