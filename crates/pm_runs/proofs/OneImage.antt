-- The script of one image keeps the rules of scripts.
use Rattle.std.proofs.Common.{◌≢◌, ℕ, zero, suc, ◌≤◌, List, [], ◌∷◌, length, refl, subst, arith}
use Rattle.std.proofs.lemmas.Option.{none-some, same_Some}
use Rattle.pcp_base.specs.Names.{IsComponent}
use Rattle.pcp_base.specs.Time.{Moment}
use Rattle.run_script.specs.declared.script.Line.{Line}
use Rattle.run_script.specs.declared.script.Line.TheVariants.{Tick}
use Rattle.run_script.specs.declared.script.RegionRow.{RegionRow}
use Rattle.run_script.specs.Rules.{AtEach, AtPairs, IsPlaced, IsRegion, KeepsRules, Rises, cluster_of}
use Rattle.script_runs.specs.Once.{once_region, once_script}

-- of one item alone
at_one : {A : Type 0} (P : A → Type 0) (x : A) → P x → AtEach P (x ∷ [])
at_one {A} P x p zero y is = subst P (same_Some x y is) p
at_one {A} P x p (suc i) y is = absurd (none-some y is)

no_pairs : {A : Type 0} (R : A → A → Type 0) (x : A) → AtPairs R (x ∷ [])
no_pairs {A} R x i zero y z low here there = absurd (omega (arith, low))
no_pairs {A} R x i (suc j) y z low here there = absurd (none-some z there)

module _ (stamp : Moment) (file words : List ℕ) where
  abbrev images : List (List ℕ × List ℕ)
  images = (once_script stamp file words).images

  abbrev row : RegionRow
  row = once_region file words

  pub once_is_ruled : IsComponent file → length words ≤ 65536 → KeepsRules (once_script stamp file words)
  once_is_ruled named wide = record {
    few = omega arith;
    named = at_one (λ (image : List ℕ × List ℕ). IsComponent image.0) (file, words) named;
    names = no_pairs (λ (a b : List ℕ × List ℕ). a.0 ≢ b.0) (file, words);
    opened = at_one (IsRegion images) row (record { name = named; opens = ((file, words), refl, omega arith); capacity = wide; passes = (omega arith, omega arith) });
    files = no_pairs (λ (a b : RegionRow). a.file ≢ b.file) row;
    clusters = no_pairs (λ (a b : RegionRow). cluster_of images a ≢ cluster_of images b) row;
    placed = at_one (λ (step : ℕ × Line). IsPlaced images (row ∷ []) step.1) (2, Tick stamp) tt;
    rise = no_pairs (λ (a b : ℕ × Line). Rises a.1 b.1) (2, Tick stamp);
  }
