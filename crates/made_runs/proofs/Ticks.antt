-- The ticks of a script that a number makes, and the whole script.
use Rattle.std.proofs.Common.{◌≡◌, ℕ, zero, suc, pos, ◌+◌, ◌*◌, ◌<◌, ◌≤◌, ◌==◌, Bool, true, false, List, [], ◌∷◌, ◌++◌, refl, arith}
use Rattle.std.specs.Prelude.{◌/◌, ◌%◌, if◌then◌else◌}
use Rattle.run_script.specs.declared.script.Line.{Line}
use Rattle.run_script.specs.declared.script.Line.TheVariants as lines
use Rattle.run_script.specs.declared.script.Script.{Script}
use Rattle.run_script.specs.Generated.{add_of, all_steps, all_ticks, attach_lines, change_at, change_lines, detach_lines, draw, flush_lines, generated_script, images, next, number_behind, regions, three_adds, tick_at, tick_steps, with_line_numbers}
use Rattle.script_runs.specs.Regions.{ScriptRegion, words_at}
use Rattle.script_runs.specs.Runs.{run_start}
use Rattle.made_runs.specs.Laws.{GeneratedRuns}
use Rattle.made_runs.proofs.Images.{IsMade, first_is, image_of, second_is, third_is}
use Rattle.made_runs.proofs.Holding.{later, opened}
use Rattle.made_runs.proofs.Standing.{AllStand, all_attach, all_detach, at_rest, at_work}
use Rattle.made_runs.proofs.Adds.{add_safe}
use Rattle.made_runs.proofs.Changes.{change_safe}
use Rattle.made_runs.proofs.Names.{all_served}
use Rattle.made_runs.proofs.Safe.{AreIdle, Safe, ends_well, safe_append, safe_weaken}

-- all passes are attached, and no generation is above this one
abbrev AtWork : ℕ → List ScriptRegion → Type 0
AtWork most = AllStand 4 at_work most

-- so it is below any later one
at_work_later : (most : ℕ) (rs : List ScriptRegion) → AtWork most rs → AtWork (suc most) rs
at_work_later most (a ∷ b ∷ c ∷ []) h = (
  (h.0.0, record { gate_is = h.0.1.gate_is; doing_is = h.0.1.doing_is; cluster_is = h.0.1.cluster_is; contents = later (image_of 1 h.0.0) most a.state.words h.0.1.contents }),
  record { gate_is = h.1.gate_is; doing_is = h.1.doing_is; cluster_is = h.1.cluster_is; contents = later (image_of 2 false) most b.state.words h.1.contents },
  record { gate_is = h.2.gate_is; doing_is = h.2.doing_is; cluster_is = h.2.cluster_is; contents = later (image_of 3 false) most c.state.words h.2.contents },
)
at_work_later most [] h = absurd h
at_work_later most (a ∷ []) h = absurd h
at_work_later most (a ∷ b ∷ []) h = absurd h
at_work_later most (a ∷ b ∷ c ∷ d ∷ rs) h = absurd h

module _ (script : Script) (first : words_at script.images 0 ≡ image_of 1 false) (last : words_at script.images 3 ≡ image_of 1 true) where
  change_at_safe : (k most : ℕ) → most < 18446744073709551614 → (rs : List ScriptRegion) → AtWork most rs → Safe script (change_at k) (AtWork (suc most)) rs
  change_at_safe k most small rs h = by_test (k % 256 == 0) (k / 256 % 2 == 1)
    where
      by_test : (is odd : Bool) → Safe script (if is then change_lines (if odd then 3 else 0) else []) (AtWork (suc most)) rs
      by_test true true = change_safe script 3 true last most small rs h
      by_test true false = change_safe script 0 false first most small rs h
      by_test false odd = at_work_later most rs h

  -- each line of a tick goes on
  flush_safe : (k most : ℕ) (rs : List ScriptRegion) → AtWork most rs → Safe script (flush_lines k) (AtWork most) rs
  flush_safe k most rs h = by_test (k % 10 == 0)
    where
      by_test : (is : Bool) → Safe script (if is then lines.Flush ∷ [] else []) (AtWork most) rs
      by_test true = (tt, h)
      by_test false = h

  last_lines : (k most : ℕ) (rs : List ScriptRegion) → AtWork most rs → Safe script (tick_at k ∷ flush_lines k) (AtWork most) rs
  last_lines k most rs h = (all_served most rs h, flush_safe k most rs h)

  drawn_safe : (most : ℕ) (more : List Line) (d : ℕ) → ((rs : List ScriptRegion) → AtWork most rs → Safe script more (AtWork most) rs) → (rs : List ScriptRegion) → AtWork most rs → Safe script (add_of d ∷ more) (AtWork most) rs
  drawn_safe most more d next_goes rs h =
      add_safe script most more (AtWork most) next_goes (d / 3 % 4) (1 + d / 12 % 12) (pos (1 + d / 65536 % 100)) (omega arith) (omega arith) (omega arith) (d % 3) rs (omega arith) h

  adds_safe : (x k most : ℕ) (rs : List ScriptRegion) → AtWork most rs → Safe script (three_adds x ++ (tick_at k ∷ flush_lines k)) (AtWork most) rs
  adds_safe x k most =
      drawn_safe most (add_of (draw (next (next x))) ∷ add_of (draw (next (next (next x)))) ∷ tick_at k ∷ flush_lines k) (draw (next x))
      (drawn_safe most (add_of (draw (next (next (next x)))) ∷ tick_at k ∷ flush_lines k) (draw (next (next x)))
      (drawn_safe most (tick_at k ∷ flush_lines k) (draw (next (next (next x)))) (last_lines k most)))

  -- a tick, with the change before it
  tick_safe : (x k most : ℕ) → most < 18446744073709551614 → (rs : List ScriptRegion) → AtWork most rs → Safe script (tick_steps x k) (AtWork (suc most)) rs
  unfolding tick_steps
  tick_safe x k most small rs h =
      safe_append script (change_at k) (three_adds x ++ (tick_at k ∷ flush_lines k)) (AtWork (suc most)) rs
      (safe_weaken script (change_at k) (AtWork (suc most)) (Safe script (three_adds x ++ (tick_at k ∷ flush_lines k)) (AtWork (suc most))) (adds_safe x k (suc most)) rs (change_at_safe k most small rs h))

  -- all ticks
  ticks_safe : (number n : ℕ) → n ≤ 100000 → (rs : List ScriptRegion) → AtWork 1 rs → Safe script (all_ticks number n) (AtWork (suc n)) rs
  unfolding all_ticks
  ticks_safe number zero few rs h = h
  ticks_safe number (suc n) few rs h =
      safe_append script (all_ticks number n) (tick_steps (number_behind number (3 * n)) (suc n)) (AtWork (suc (suc n))) rs
      (safe_weaken script (all_ticks number n) (AtWork (suc n)) (Safe script (tick_steps (number_behind number (3 * n)) (suc n)) (AtWork (suc (suc n))))
      (tick_safe (number_behind number (3 * n)) (suc n) (suc n) (omega arith)) rs (ticks_safe number n (omega arith) rs h))

  -- the last lines, and the first
  detach_safe : (most : ℕ) (rs : List ScriptRegion) → AtWork most rs → Safe script (detach_lines 0 ++ (detach_lines 1 ++ detach_lines 2)) AreIdle rs
  detach_safe most (a ∷ b ∷ c ∷ []) h = all_detach script most a b c h
  detach_safe most [] h = absurd h
  detach_safe most (a ∷ []) h = absurd h
  detach_safe most (a ∷ b ∷ []) h = absurd h
  detach_safe most (a ∷ b ∷ c ∷ d ∷ rs) h = absurd h

  attach_safe : (rs : List ScriptRegion) → AllStand 0 at_rest 1 rs → Safe script (attach_lines 0 ++ (attach_lines 1 ++ attach_lines 2)) (AtWork 1) rs
  attach_safe (a ∷ b ∷ c ∷ []) h = all_attach script a b c h
  attach_safe [] h = absurd h
  attach_safe (a ∷ []) h = absurd h
  attach_safe (a ∷ b ∷ []) h = absurd h
  attach_safe (a ∷ b ∷ c ∷ d ∷ rs) h = absurd h

  -- all lines
  all_safe : (number ticks : ℕ) → ticks ≤ 100000 → (rs : List ScriptRegion) → AllStand 0 at_rest 1 rs → Safe script (all_steps number ticks) AreIdle rs
  unfolding all_steps
  all_safe number ticks few rs h =
      safe_append script (attach_lines 0 ++ (attach_lines 1 ++ attach_lines 2)) (all_ticks number ticks ++ (detach_lines 0 ++ (detach_lines 1 ++ detach_lines 2))) AreIdle rs
      (safe_weaken script (attach_lines 0 ++ (attach_lines 1 ++ attach_lines 2)) (AtWork 1) (Safe script (all_ticks number ticks ++ (detach_lines 0 ++ (detach_lines 1 ++ detach_lines 2))) AreIdle)
      (λ between g. safe_append script (all_ticks number ticks) (detach_lines 0 ++ (detach_lines 1 ++ detach_lines 2)) AreIdle between
      (safe_weaken script (all_ticks number ticks) (AtWork (suc ticks)) (Safe script (detach_lines 0 ++ (detach_lines 1 ++ detach_lines 2)) AreIdle) (detach_safe (suc ticks)) between (ticks_safe number ticks few between g)))
      rs (attach_safe rs h))

-- how the regions open
opens : (number ticks : ℕ) → AllStand 0 at_rest 1 (run_start (generated_script number ticks)).regions
unfolding generated_script regions images
opens number ticks =
    let one : IsMade 1 (image_of 1 false) = first_is false in
    let two : IsMade 2 (image_of 2 false) = second_is in
    let three : IsMade 3 (image_of 3 false) = third_is in (
      (false, record { gate_is = refl; doing_is = refl; cluster_is = one.served; contents = opened 1 (image_of 1 false) one }),
      record { gate_is = refl; doing_is = refl; cluster_is = two.served; contents = opened 2 (image_of 2 false) two },
      record { gate_is = refl; doing_is = refl; cluster_is = three.served; contents = opened 3 (image_of 3 false) three },
    )

-- the images to which changes lead
first_words : (number ticks : ℕ) → words_at (generated_script number ticks).images 0 ≡ image_of 1 false
unfolding generated_script images
first_words number ticks = refl

last_words : (number ticks : ℕ) → words_at (generated_script number ticks).images 3 ≡ image_of 1 true
unfolding generated_script images
last_words number ticks = refl

-- its lines
steps_are : (number ticks : ℕ) → (generated_script number ticks).steps ≡ with_line_numbers 252 (all_steps number ticks)
unfolding generated_script
steps_are number ticks = refl

-- so it runs to its end
pub generated_runs : GeneratedRuns
generated_runs number ticks count s few ran =
    ends_well (generated_script number ticks) (all_steps number ticks) 252 (steps_are number ticks)
    (all_safe (generated_script number ticks) (first_words number ticks) (last_words number ticks) number ticks few (run_start (generated_script number ticks)).regions (opens number ticks)) count s ran
