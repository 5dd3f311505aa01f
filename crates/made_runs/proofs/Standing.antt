-- The three regions of a script that a number makes, between its lines.
use Rattle.std.proofs.Common.{◌≡◌, ℕ, Bool, false, List, [], ◌∷◌, ◌++◌, refl, sym, subst}
use Rattle.run_script.specs.declared.script.Script.{Script}
use Rattle.run_script.specs.Generated.{attach_lines, detach_lines}
use Rattle.script_runs.specs.Regions.{Doing, ScriptRegion}
use Rattle.made_runs.proofs.Images.{image_of}
use Rattle.made_runs.proofs.Holding.{Contents}
use Rattle.made_runs.proofs.Safe.{AreIdle, Safe}

-- what the four passes do before they attach, and while they are attached
abbrev pub at_rest : List Doing
at_rest = Doing.idle ∷ Doing.idle ∷ Doing.idle ∷ Doing.idle ∷ []

abbrev pub at_work : List Doing
at_work = Doing.attached ∷ Doing.attached ∷ Doing.attached ∷ Doing.attached ∷ []

-- a region with this gate and these passes
abbrev pub region_as : ℕ → List Doing → ScriptRegion → ScriptRegion
region_as gate doing r = record {
  file = r.file;
  cluster = r.cluster;
  state = record { words = r.state.words; gate = gate; modes = r.state.modes };
  doing = doing;
  log = r.log;
}

-- it is so, in its cluster, and holds an image
pub record Stands (gate : ℕ) (doing : List Doing) (cluster : ℕ) (image : List ℕ) (most : ℕ) (r : ScriptRegion) : Type 0 where
  pub gate_is : r.state.gate ≡ gate
  pub doing_is : r.doing ≡ doing
  pub cluster_is : r.cluster ≡ cluster
  pub contents : Contents image most r.state.words

-- the first region holds one of two images
abbrev pub Works : ℕ → List Doing → ℕ → ScriptRegion → Type 0
Works gate doing most r = (late : Bool) × Stands gate doing 1 (image_of 1 late) most r

-- the three regions
abbrev pub AllStand : ℕ → List Doing → ℕ → List ScriptRegion → Type 0
AllStand gate doing most (a ∷ b ∷ c ∷ []) = Works gate doing most a × Stands gate doing 2 (image_of 2 false) most b × Stands gate doing 3 (image_of 3 false) most c
AllStand gate doing most regions = ⊥

-- such a region with both written out is the same
pub stands_as : (gate : ℕ) (doing : List Doing) (r : ScriptRegion) → r.state.gate ≡ gate → r.doing ≡ doing → r ≡ region_as gate doing r
stands_as gate doing r g d = λ i. region_as (g i) (d i) r

-- what holds of such regions holds of them
pub written_out : (gate : ℕ) (doing : List Doing) (P : List ScriptRegion → Type 0) (a b c : ScriptRegion) → a ≡ region_as gate doing a → b ≡ region_as gate doing b → c ≡ region_as gate doing c
    → P (region_as gate doing a ∷ region_as gate doing b ∷ region_as gate doing c ∷ []) → P (a ∷ b ∷ c ∷ [])
written_out gate doing P a b c e f g h = subst P (sym (λ i. e i ∷ f i ∷ g i ∷ [])) h

-- four lines at which nothing is to be served
pub four : {P : Type 0} → P → Unit {0} × (Unit {0} × (Unit {0} × (Unit {0} × P)))
four h = (tt, (tt, (tt, (tt, h))))

module _ (script : Script) where
  -- all passes attach, and detach again
  pub all_attach : (a b c : ScriptRegion) → AllStand 0 at_rest 1 (a ∷ b ∷ c ∷ []) → Safe script (attach_lines 0 ++ (attach_lines 1 ++ attach_lines 2)) (AllStand 4 at_work 1) (a ∷ b ∷ c ∷ [])
  all_attach a b c h =
      written_out 0 at_rest (Safe script (attach_lines 0 ++ (attach_lines 1 ++ attach_lines 2)) (AllStand 4 at_work 1)) a b c
      (stands_as 0 at_rest a h.0.1.gate_is h.0.1.doing_is) (stands_as 0 at_rest b h.1.gate_is h.1.doing_is) (stands_as 0 at_rest c h.2.gate_is h.2.doing_is)
      (four (four (four (
        (h.0.0, record { gate_is = refl; doing_is = refl; cluster_is = h.0.1.cluster_is; contents = h.0.1.contents }),
        record { gate_is = refl; doing_is = refl; cluster_is = h.1.cluster_is; contents = h.1.contents },
        record { gate_is = refl; doing_is = refl; cluster_is = h.2.cluster_is; contents = h.2.contents },
      ))))

  pub all_detach : (most : ℕ) (a b c : ScriptRegion) → AllStand 4 at_work most (a ∷ b ∷ c ∷ []) → Safe script (detach_lines 0 ++ (detach_lines 1 ++ detach_lines 2)) AreIdle (a ∷ b ∷ c ∷ [])
  all_detach most a b c h =
      written_out 4 at_work (Safe script (detach_lines 0 ++ (detach_lines 1 ++ detach_lines 2)) AreIdle) a b c
      (stands_as 4 at_work a h.0.1.gate_is h.0.1.doing_is) (stands_as 4 at_work b h.1.gate_is h.1.doing_is) (stands_as 4 at_work c h.2.gate_is h.2.doing_is)
      (four (four (four refl)))
