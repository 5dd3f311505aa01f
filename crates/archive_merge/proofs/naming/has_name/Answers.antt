use Rattle.std.proofs.Common.{◌≡◌, ℤ, true, false, w32, to_z, of_z, rules, sym, ◌∙◌, subst}
use Rattle.std.specs.Prelude.{is_some}
use Rattle.std.specs.List.{slice_get}
use Rattle.std.proofs.lemmas.Int.{to_z-of_z}
use Rattle.archive_merge.specs.Naming.{is_numbered, name_in}
use Rattle.archive_merge.proofs.Lookups.{has_further, has_here}
use Rattle.archive_merge.proofs.naming.has_name.Goals as goal

pub returns-then-is_number_at : goal.returns-then-is_number_at
returns-then-is_number_at c =
    let same : to_z w32 (of_z w32 c.args.instance) ≡ c.args.instance = to_z-of_z w32 c.args.instance (search rules) in
    let there : is_numbered (to_z w32 (of_z w32 c.args.instance)) (slice_get c.args.pairs.now c.loop-at.at) ≡ true = sym c.is_number_at.ensures ∙ c.if-is_number_at.true in
    subst (λ (n : ℤ). true ≡ is_some (name_in n c.args.pairs.now)) same (sym (has_here (to_z w32 (of_z w32 c.args.instance)) c.args.pairs.now c.loop-at.at there) ∙ c.loop-at.invariant)

pub loop-at-preserved : goal.loop-at-preserved
loop-at-preserved c =
    let other : is_numbered (to_z w32 (of_z w32 c.args.instance)) (slice_get c.args.pairs.now c.loop-at.at) ≡ false = sym c.is_number_at.ensures ∙ c.if-is_number_at.false in
    has_further (to_z w32 (of_z w32 c.args.instance)) c.args.pairs.now c.loop-at.at other ∙ c.loop-at.invariant
