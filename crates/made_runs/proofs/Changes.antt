-- A change of the first region's layout goes on, from its passes' detaching to their attaching.
use Rattle.std.proofs.Common.{◌≡◌, ℕ, suc, ◌-◌, ◌^◌, ◌<◌, ◌≤◌, Bool, false, nat_lt, List, [], ◌∷◌, ◌++◌, length, drop, slice_index, slice_set, codes, refl, sym, ap, ◌∙◌, subst, arith}
use Rattle.std.specs.Prelude.{if◌then◌else◌}
use Rattle.std.proofs.lemmas.Bool.{ne_eqb, le-ltb}
use Rattle.region_core.specs.declared.act.Act.{Act}
use Rattle.region_core.specs.declared.act.Act.TheVariants.{Begin, End, Free, Put, Take}
use Rattle.region_core.specs.declared.act.Entry.{Entry}
use Rattle.region_core.specs.State.{g1}
use Rattle.region_rule.specs.Changes.{puts_at}
use Rattle.run_script.specs.declared.script.Line.TheVariants as lines
use Rattle.run_script.specs.declared.script.Script.{Script}
use Rattle.run_script.specs.Generated.{attach_lines, change_lines}
use Rattle.script_runs.specs.Regions.{Doing, ScriptRegion, all_acted, capacity_of, does, with_act, words_at}
use Rattle.script_runs.specs.PassSteps as steps
use Rattle.script_runs.specs.PassSteps.{Outcome}
use Rattle.text_lines.specs.Spelling.{one_number, two_numbers}
use Rattle.made_runs.proofs.Images.{IsMade, first_is, image_of}
use Rattle.made_runs.proofs.Holding.{Contents, changed, later, put_words, rewritten, weaker}
use Rattle.made_runs.proofs.Safe.{Safe}
use Rattle.made_runs.proofs.Standing.{AllStand, at_work, four, region_as, stands_as, written_out}

-- which of the four ways the beginning of a change goes
which : (r : ScriptRegion) (k : ℕ) (image : List ℕ) (moment : ℕ) → Bool → Bool → Bool → Outcome
which r k image moment a b c =
    if a then (r, two_numbers (codes "TooLarge") (length image) (capacity_of r)) else
    if b then (with_act r k Take, one_number (codes "Busy") r.state.gate) else
    if c then (with_act (steps.with_take r k) k Free, one_number (codes "Spent") (g1 r.state)) else
    steps.begin_outcome r k image (steps.new_generation r moment)

-- the last, where the image fits, the gate is free and a generation is left
begins_so : (r : ScriptRegion) (k : ℕ) (image : List ℕ) (moment : ℕ) → length image ≤ capacity_of r → r.state.gate ≡ 0 → g1 r.state < 2 ^ 64 - 1
    → steps.begin_ r k image moment ≡ steps.begin_outcome r k image (steps.new_generation r moment)
unfolding which
begins_so r k image moment room free left =
    λ i. which r k image moment (le-ltb (capacity_of r) (length image) room i) (ap (nat_lt 0) free i) (ne_eqb (g1 r.state) (2 ^ 64 - 1) (λ (e : g1 r.state ≡ 2 ^ 64 - 1). omega arith) i)

-- the entries of these stores behind others
put_log : List Entry → ℕ → ℕ → List ℕ → List Entry
put_log log k w [] = log
put_log log k w (x ∷ xs) = put_log (log ++ record { by = k; act = Put w x } ∷ []) k (suc w) xs

-- a region with these words stored into it
abbrev with_puts : ScriptRegion → ℕ → ℕ → List ℕ → ScriptRegion
with_puts r k w xs = record {
  file = r.file;
  cluster = r.cluster;
  state = record { words = put_words r.state.words w xs; gate = r.state.gate; modes = r.state.modes };
  doing = r.doing;
  log = put_log r.log k w xs;
}

-- so stores act
puts_acted : (r : ScriptRegion) (k w : ℕ) (xs : List ℕ) (acts : List Act) → all_acted r k (puts_at w xs ++ acts) ≡ all_acted (with_puts r k w xs) k acts
unfolding put_words put_log
puts_acted r k w [] acts = refl
puts_acted r k w (x ∷ xs) acts = puts_acted (with_act r k (Put w x)) k (suc w) xs acts

-- the first region with its passes detached
abbrev detached : ScriptRegion → ScriptRegion
detached r = steps.detach (steps.detach (steps.detach (steps.detach (region_as 4 at_work r) 0) 1) 2) 3

-- then with a change begun
abbrev begun : ScriptRegion → List ℕ → ℕ → ScriptRegion
begun r image n = does (with_act (steps.with_take (detached r) 0) 0 (Begin n)) 0 (Doing.changing image n 0)

-- and finished
abbrev finished : ScriptRegion → List ℕ → ℕ → ScriptRegion
finished r image n = does (all_acted (with_puts (with_act (begun r image n) 0 (Put 0 (slice_index image 0))) 0 3 (drop 3 image)) 0 (End n ∷ Free ∷ [])) 0 Doing.idle

-- so a change finishes
finishes_so : (r : ScriptRegion) (image : List ℕ) (n : ℕ) → steps.finish (begun r image n) 0 image n 0 ≡ finished r image n
finishes_so r image n = ap (λ (q : ScriptRegion). does q 0 Doing.idle) (puts_acted (with_act (begun r image n) 0 (Put 0 (slice_index image 0))) 0 3 (drop 3 image) (End n ∷ Free ∷ []))

module _ (script : Script) (image : ℕ) (late : Bool) (is : words_at script.images image ≡ image_of 1 late) (most : ℕ) (small : most < 18446744073709551614) where
  abbrev made_words : List ℕ
  made_words = image_of 1 late

  abbrev others : ScriptRegion → ScriptRegion → List ScriptRegion
  others b c = region_as 4 at_work b ∷ region_as 4 at_work c ∷ []

  -- then the passes attach
  behind : (n : ℕ) (a b c : ScriptRegion) → n ≤ suc most → AllStand 4 at_work most (a ∷ b ∷ c ∷ []) → Safe script (attach_lines 0) (AllStand 4 at_work (suc most)) (finished a made_words n ∷ others b c)
  behind n a b c low h = four (
    (
      late,
      record {
        gate_is = refl;
        doing_is = refl;
        cluster_is = h.0.1.cluster_is;
        contents = weaker made_words n (suc most) (slice_set (rewritten made_words a.state.words n) 2 n) low (changed 1 made_words a.state.words n (first_is late) h.0.1.contents.size h.0.1.contents.fit (omega arith));
      },
    ),
    record { gate_is = refl; doing_is = refl; cluster_is = h.1.cluster_is; contents = later (image_of 2 false) most b.state.words h.1.contents },
    record { gate_is = refl; doing_is = refl; cluster_is = h.2.cluster_is; contents = later (image_of 3 false) most c.state.words h.2.contents },
  )

  -- before, the change finishes
  ends_so : (n : ℕ) (a b c : ScriptRegion) → n ≤ suc most → AllStand 4 at_work most (a ∷ b ∷ c ∷ []) → Safe script (lines.Finish 0 0 ∷ attach_lines 0) (AllStand 4 at_work (suc most)) (begun a made_words n ∷ others b c)
  ends_so n a b c low h =
      (tt, subst (λ (r : ScriptRegion). Safe script (attach_lines 0) (AllStand 4 at_work (suc most)) (r ∷ others b c)) (sym (finishes_so a made_words n)) (behind n a b c low h))

  -- and before, it begins
  begin_goes : (a b c : ScriptRegion) → AllStand 4 at_work most (a ∷ b ∷ c ∷ []) → Safe script (lines.Begin 0 0 image 0 ∷ lines.Finish 0 0 ∷ attach_lines 0) (AllStand 4 at_work (suc most)) (detached a ∷ others b c)
  begin_goes a b c h =
      let held : Contents (image_of 1 h.0.0) most a.state.words = h.0.1.contents in
      let size : length a.state.words ≡ 2048 = held.size in
      let low : slice_index a.state.words 1 ≤ most = held.generation in
      let made : IsMade 1 made_words = first_is late in
      let few : length made_words ≤ 2048 = made.few in
      let is_begun : steps.begin_ (detached a) 0 (words_at script.images image) 0 ≡ steps.begin_outcome (detached a) 0 made_words (steps.new_generation (detached a) 0) =
      ap (λ (w : List ℕ). steps.begin_ (detached a) 0 w 0) is ∙ begins_so (detached a) 0 made_words 0 (omega arith) refl (omega arith) in (
        tt,
        subst (λ (out : Outcome). Safe script (lines.Finish 0 0 ∷ attach_lines 0) (AllStand 4 at_work (suc most)) (out.0 ∷ others b c)) (sym is_begun)
            (ends_so (steps.new_generation (detached a) 0) a b c (omega arith) h),
      )

  -- and before, the passes detach
  pub change_safe : (rs : List ScriptRegion) → AllStand 4 at_work most rs → Safe script (change_lines image) (AllStand 4 at_work (suc most)) rs
  change_safe (a ∷ b ∷ c ∷ []) h =
      written_out 4 at_work (Safe script (change_lines image) (AllStand 4 at_work (suc most))) a b c
      (stands_as 4 at_work a h.0.1.gate_is h.0.1.doing_is) (stands_as 4 at_work b h.1.gate_is h.1.doing_is) (stands_as 4 at_work c h.2.gate_is h.2.doing_is)
      (four (begin_goes a b c h))
  change_safe [] h = absurd h
  change_safe (a ∷ []) h = absurd h
  change_safe (a ∷ b ∷ []) h = absurd h
  change_safe (a ∷ b ∷ c ∷ d ∷ rs) h = absurd h
