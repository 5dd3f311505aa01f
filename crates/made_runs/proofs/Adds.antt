-- An add of a script that a number makes goes on, and leaves the regions as they were but for one content.
use Rattle.std.proofs.Common.{◌≡◌, ℕ, zero, suc, ℤ, ◌<◌, ◌≤◌, Bool, false, List, [], ◌∷◌, slice_get, Option, Some, None, option_map, refl, sym, ap, ◌∙◌, subst, arith}
use Rattle.std.specs.Prelude.{if◌then◌else◌}
use Rattle.region_core.specs.declared.act.Act.TheVariants.{Add}
use Rattle.run_script.specs.declared.script.Line.{Line}
use Rattle.run_script.specs.declared.script.Line.TheVariants as lines
use Rattle.run_script.specs.declared.script.Script.{Script}
use Rattle.script_runs.specs.Regions.{Doing, ScriptRegion, doing_of, or_idle, with_act}
use Rattle.script_runs.specs.PassSteps as steps
use Rattle.script_runs.specs.PassSteps.{Outcome}
use Rattle.script_runs.specs.Slots.{add_into, low_bits}
use Rattle.mmv_layout.specs.declared.rows.Slot.{Slot}
use Rattle.made_runs.proofs.Images.{IsMade, first_is, image_of, second_is, third_is}
use Rattle.made_runs.proofs.Holding.{HasCounter, has_counter}
use Rattle.made_runs.proofs.Safe.{After, Safe}
use Rattle.made_runs.proofs.Standing.{AllStand, Stands, at_work}

-- each pass is attached
pass_there : (k : ℕ) (doing : List Doing) → k < 4 → doing ≡ at_work → or_idle (slice_get doing k) ≡ Doing.attached
pass_there k doing h e = ap (λ (d : List Doing). or_idle (slice_get d k)) e ∙ here k h
  where
    here : (k : ℕ) → k < 4 → or_idle (slice_get at_work k) ≡ Doing.attached
    here zero h = refl
    here (suc zero) h = refl
    here (suc (suc zero)) h = refl
    here (suc (suc (suc zero))) h = refl
    here (suc (suc (suc (suc k)))) h = absurd (omega arith)

-- an add goes on, and the region still stands so
record AddsOn (cluster : ℕ) (image : List ℕ) (most : ℕ) (r : ScriptRegion) (k item : ℕ) (number : ℤ) : Type 0 where
  later_region : ScriptRegion
  goes : steps.adds r k item None number (doing_of r k) ≡ Some (later_region, [])
  stands : Stands 4 at_work cluster image most later_region

-- the slot of each counter is there, and holds numbers
adds_on : (cluster : ℕ) (image : List ℕ) (most : ℕ) (r : ScriptRegion) (k item : ℕ) (number : ℤ) → IsMade cluster image → Stands 4 at_work cluster image most r → k < 4 → 1 ≤ item → item ≤ 12
    → AddsOn cluster image most r k item number
adds_on cluster image most r k item number made s below low high =
    let has : HasCounter image most r.state.words item = has_counter cluster image most r.state.words item made s.contents low high in
    record {
      later_region = with_act r k (Add has.slot.word (low_bits number));
      goes = ap (steps.adds r k item None number) (pass_there k r.doing below s.doing_is)
          ∙ (ap (λ (slot : Option Slot). steps.stores r k (add_into slot number)) has.found
          ∙ ap (λ (b : Bool). steps.stores r k (if b then Some (Add has.slot.word (low_bits number)) else None)) has.number);
      stands = record { gate_is = s.gate_is; doing_is = s.doing_is; cluster_is = s.cluster_is; contents = has.kept (low_bits number) };
    }

-- so it does in its place
added : (found : Option Outcome) (set_at : ScriptRegion → List ScriptRegion) (P : List ScriptRegion → Type 0) (r : ScriptRegion) → found ≡ Some (r, []) → P (set_at r)
    → After (option_map (λ (outcome : Outcome). (set_at outcome.0, outcome.1)) found) P
added found set_at P r e h = subst (λ (o : Option Outcome). After (option_map (λ (outcome : Outcome). (set_at outcome.0, outcome.1)) o) P) (sym e) h

module _ (script : Script) (most : ℕ) (more : List Line) (Q : List ScriptRegion → Type 0) (next : (rs : List ScriptRegion) → AllStand 4 at_work most rs → Safe script more Q rs) (k item : ℕ) (number : ℤ) (below : k < 4) (low : 1 ≤ item) (high : item ≤ 12) where
  -- an add to any of the regions
  pub add_safe : (at : ℕ) (rs : List ScriptRegion) → at < 3 → AllStand 4 at_work most rs → Safe script (lines.Add at k item None number ∷ more) Q rs
  add_safe zero (a ∷ b ∷ c ∷ []) less h =
      let on : AddsOn 1 (image_of 1 h.0.0) most a k item number = adds_on 1 (image_of 1 h.0.0) most a k item number (first_is h.0.0) h.0.1 below low high in
      (tt, added (steps.adds a k item None number (doing_of a k)) (λ (r : ScriptRegion). r ∷ b ∷ c ∷ []) (Safe script more Q) on.later_region on.goes (next (on.later_region ∷ b ∷ c ∷ []) ((h.0.0, on.stands), h.1, h.2)))
  add_safe (suc zero) (a ∷ b ∷ c ∷ []) less h =
      let on : AddsOn 2 (image_of 2 false) most b k item number = adds_on 2 (image_of 2 false) most b k item number second_is h.1 below low high in
      (tt, added (steps.adds b k item None number (doing_of b k)) (λ (r : ScriptRegion). a ∷ r ∷ c ∷ []) (Safe script more Q) on.later_region on.goes (next (a ∷ on.later_region ∷ c ∷ []) (h.0, on.stands, h.2)))
  add_safe (suc (suc zero)) (a ∷ b ∷ c ∷ []) less h =
      let on : AddsOn 3 (image_of 3 false) most c k item number = adds_on 3 (image_of 3 false) most c k item number third_is h.2 below low high in
      (tt, added (steps.adds c k item None number (doing_of c k)) (λ (r : ScriptRegion). a ∷ b ∷ r ∷ []) (Safe script more Q) on.later_region on.goes (next (a ∷ b ∷ on.later_region ∷ []) (h.0, h.1, on.stands)))
  add_safe (suc (suc (suc at))) (a ∷ b ∷ c ∷ []) less h = absurd (omega arith)
  add_safe at [] less h = absurd h
  add_safe at (a ∷ []) less h = absurd h
  add_safe at (a ∷ b ∷ []) less h = absurd h
  add_safe at (a ∷ b ∷ c ∷ d ∷ rs) less h = absurd h
