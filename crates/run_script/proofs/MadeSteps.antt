-- The steps of a generated script, read one after another.
use Rattle.std.proofs.Common.{◌≡◌, ℕ, zero, suc, pos, ◌+◌, ◌*◌, ◌<◌, ◌≤◌, Bool, true, false, cond, ◌==◌, List, [], ◌∷◌, ◌++◌, length, refl, sym, ap, ◌∙◌, arith, append_assoc, append-nil, length-append, codes, lt-ltb, Option, Some, None, Ok}
use Rattle.std.specs.Prelude.{◌/◌, ◌%◌, if◌then◌else◌}
use Rattle.std.proofs.lemmas.Grind.{flat_map-append}
use Rattle.pcp_base.specs.Time.{Moment, microseconds}
use Rattle.text_lines.specs.Lines.{lines_of}
use Rattle.run_script.specs.declared.lines.StepLine.{StepLine}
use Rattle.run_script.specs.declared.lines.StepLine.TheVariants as steps
use Rattle.run_script.specs.StepLines.{step_line}
use Rattle.run_script.specs.declared.script.Line.{Line}
use Rattle.run_script.specs.declared.script.Line.TheVariants as lines
use Rattle.run_script.specs.declared.said.Said.{Said}
use Rattle.run_script.specs.declared.said.Stage.TheVariants as stages
use Rattle.run_script.specs.Said.{nothing}
use Rattle.run_script.specs.Steps.{attaches, detaches, adds, begins, finishes, is_later, step_of, last_behind, with_line, with_step}
use Rattle.run_script.specs.Reading.{in_steps, with_script_line, with_script_lines, whole, script_of}
use Rattle.run_script.specs.Generated.{images, next, number_behind, draw, add_of, attach_lines, detach_lines, change_lines, change_at, three_adds, flush_lines, tick_at, tick_steps, all_ticks, all_steps, with_line_numbers, generated_script}
use Rattle.run_script.specs.GeneratedText.{with_feed, step_text, steps_text, images_text, front_text, generated_text}
use Rattle.run_script.specs.Laws.{second, GeneratedIsRead, GeneratedIsRuled}
use Rattle.run_script.proofs.Numbered.{numbers_go_on}
use Rattle.run_script.proofs.Passing.{is_line, Passes, line_passes, both_pass}
use Rattle.run_script.proofs.HeadLines.{before_steps, head_passes}
use Rattle.run_script.proofs.StepLines.{place, has_pass, attach_reads, attach_in_line, detach_reads, detach_in_line, add_reads, add_in_line, late_reads, back_reads, finish_reads, change_in_line, tick_reads, tick_in_line, flush_reads, flush_in_line}
use Rattle.run_script.proofs.Ruled.{scripts_are_ruled}

-- what is said behind these steps, the last tick of which had this stamp
abbrev behind : List (ℕ × Line) → Option Moment → Said
behind before last = record before_steps { steps = before; last = last }

-- a step's line is read as that step
record IsSpelt (step : Line) (last : Option Moment) : Type 0 where
  line : is_line (step_text step) ≡ true
  said : StepLine
  reads : step_line (step_text step) ≡ Some said
  means : (before : List (ℕ × Line)) → step_of (behind before last) said ≡ Some step

-- the lines of steps are read as those steps, the last tick being that before
abbrev Reads : List Line → Option Moment → Option Moment → Type 0
Reads made last later = (n : ℕ) (before : List (ℕ × Line))
    → Passes (steps_text made) n (stages.Steps, behind before last) (n + length made) (stages.Steps, behind (before ++ with_line_numbers n made) later)

none_reads : (last : Option Moment) → Reads [] last last
unfolding steps_text with_line_numbers
none_reads last n before rest =
    let here : n ≡ n + 0 = omega arith in
    ap (λ m. with_script_lines (lines_of rest) m (stages.Steps, behind before last)) here
    ∙ ap (λ b. with_script_lines (lines_of rest) (n + 0) (stages.Steps, behind b last)) (sym (append-nil before))

both_read : (a b : List Line) (l m k : Option Moment) → Reads a l m → Reads b m k → Reads (a ++ b) l k
unfolding steps_text
both_read a b l m k f g n before rest =
    let there : (n + length a) + length b ≡ n + length (a ++ b) = omega (arith, length-append a b) in
    ap (λ bytes. with_script_lines (lines_of (bytes ++ rest)) n (stages.Steps, behind before l)) (flat_map-append (λ step. with_feed (step_text step)) a b)
    ∙ both_pass (steps_text a) (steps_text b) n (n + length a) ((n + length a) + length b) (stages.Steps, behind before l) (stages.Steps, behind (before ++ with_line_numbers n a) m)
    (stages.Steps, behind ((before ++ with_line_numbers n a) ++ with_line_numbers (n + length a) b) k) (f n before) (g (n + length a) (before ++ with_line_numbers n a)) rest
    ∙ ap (λ i. with_script_lines (lines_of rest) i (stages.Steps, behind ((before ++ with_line_numbers n a) ++ with_line_numbers (n + length a) b) k)) there
    ∙ ap (λ made. with_script_lines (lines_of rest) (n + length (a ++ b)) (stages.Steps, behind made k))
    (append_assoc before (with_line_numbers n a) (with_line_numbers (n + length a) b) ∙ ap (λ made. before ++ made) (sym (numbers_go_on n a b)))

line_reads : (step : Line) (last : Option Moment) → IsSpelt step last → (n : ℕ) (before : List (ℕ × Line))
    → with_script_line n (stages.Steps, behind before last) (step_text step) ≡ Ok (stages.Steps, behind (before ++ (n, step) ∷ []) (last_behind last step))
unfolding with_script_line with_step
line_reads step last is n before =
    ap (λ o. in_steps (with_step n (behind before last) o)) is.reads
    ∙ ap (λ o. in_steps (with_line n (behind before last) o)) (is.means before)

-- one step, and then others
first_reads : (step : Line) (made : List Line) (last later : Option Moment) → IsSpelt step last → Reads made (last_behind last step) later → Reads (step ∷ made) last later
unfolding steps_text with_line_numbers
first_reads step made last later is f n before rest =
    let there : (n + 1) + length made ≡ n + suc (length made) = omega arith in
    both_pass (with_feed (step_text step)) (steps_text made) n (n + 1) ((n + 1) + length made) (stages.Steps, behind before last) (stages.Steps, behind (before ++ (n, step) ∷ []) (last_behind last step))
    (stages.Steps, behind ((before ++ (n, step) ∷ []) ++ with_line_numbers (n + 1) made) later)
    (line_passes (step_text step) n (stages.Steps, behind before last) (stages.Steps, behind (before ++ (n, step) ∷ []) (last_behind last step)) is.line (line_reads step last is n before))
    (f (n + 1) (before ++ (n, step) ∷ [])) rest
    ∙ ap (λ i. with_script_lines (lines_of rest) i (stages.Steps, behind ((before ++ (n, step) ∷ []) ++ with_line_numbers (n + 1) made) later)) there
    ∙ ap (λ all. with_script_lines (lines_of rest) (n + suc (length made)) (stages.Steps, behind all later)) (append_assoc before ((n, step) ∷ []) (with_line_numbers (n + 1) made))

-- Single steps

module _ (last : Option Moment) where
  module _ (region pass : ℕ) (r : region < 3) (p : pass < 4) where
    attach_spelt : IsSpelt (lines.Attach region pass) last
    unfolding step_of
    attach_spelt = record {
      line = attach_in_line region pass r p;
      said = steps.Attach (place region pass);
      reads = attach_reads region pass r p;
      means = λ before. ap attaches (has_pass region pass r p);
    }

    detach_spelt : IsSpelt (lines.Detach region pass) last
    unfolding step_of
    detach_spelt = record {
      line = detach_in_line region pass r p;
      said = steps.Detach (place region pass);
      reads = detach_reads region pass r p;
      means = λ before. ap detaches (has_pass region pass r p);
    }

    add_spelt : (item n : ℕ) → item < 4294967296 → n < 4294967296 → IsSpelt (lines.Add region pass item None (pos n)) last
    unfolding step_of
    add_spelt item n small few = record {
      line = add_in_line region pass r p item n small few;
      said = steps.Add (place region pass) (record { item = item; instance = None }) (pos n);
      reads = add_reads region pass r p item n small few;
      means = λ before. ap (λ o. adds o (record { item = item; instance = None }) (pos n)) (has_pass region pass r p);
    }

  attached_read : (region : ℕ) → region < 3 → Reads (attach_lines region) last last
  attached_read region r =
      first_reads (lines.Attach region 0) (lines.Attach region 1 ∷ lines.Attach region 2 ∷ lines.Attach region 3 ∷ []) last last (attach_spelt region 0 r (omega arith))
      (first_reads (lines.Attach region 1) (lines.Attach region 2 ∷ lines.Attach region 3 ∷ []) last last (attach_spelt region 1 r (omega arith))
      (first_reads (lines.Attach region 2) (lines.Attach region 3 ∷ []) last last (attach_spelt region 2 r (omega arith))
      (first_reads (lines.Attach region 3) [] last last (attach_spelt region 3 r (omega arith)) (none_reads last))))

  detached_read : (region : ℕ) → region < 3 → Reads (detach_lines region) last last
  detached_read region r =
      first_reads (lines.Detach region 0) (lines.Detach region 1 ∷ lines.Detach region 2 ∷ lines.Detach region 3 ∷ []) last last (detach_spelt region 0 r (omega arith))
      (first_reads (lines.Detach region 1) (lines.Detach region 2 ∷ lines.Detach region 3 ∷ []) last last (detach_spelt region 1 r (omega arith))
      (first_reads (lines.Detach region 2) (lines.Detach region 3 ∷ []) last last (detach_spelt region 2 r (omega arith))
      (first_reads (lines.Detach region 3) [] last last (detach_spelt region 3 r (omega arith)) (none_reads last))))

  late_spelt : IsSpelt (lines.Begin 0 0 3 0) last
  unfolding step_of images
  late_spelt = record {
    line = change_in_line.0;
    said = steps.Begin (place 0 0) (codes "r0late") 0;
    reads = late_reads;
    means = λ before. ap (λ o. begins o (Some 3) 0) (has_pass 0 0 (omega arith) (omega arith));
  }

  back_spelt : IsSpelt (lines.Begin 0 0 0 0) last
  unfolding step_of images
  back_spelt = record {
    line = change_in_line.1;
    said = steps.Begin (place 0 0) (codes "r0") 0;
    reads = back_reads;
    means = λ before. ap (λ o. begins o (Some 0) 0) (has_pass 0 0 (omega arith) (omega arith));
  }

  finish_spelt : IsSpelt (lines.Finish 0 0) last
  unfolding step_of
  finish_spelt = record {
    line = change_in_line.2;
    said = steps.Finish (place 0 0);
    reads = finish_reads;
    means = λ before. ap finishes (has_pass 0 0 (omega arith) (omega arith));
  }

  changed_read : (image : ℕ) → IsSpelt (lines.Begin 0 0 image 0) last → Reads (change_lines image) last last
  changed_read image is =
      both_read (detach_lines 0) (lines.Begin 0 0 image 0 ∷ lines.Finish 0 0 ∷ attach_lines 0) last last last (detached_read 0 (omega arith))
      (first_reads (lines.Begin 0 0 image 0) (lines.Finish 0 0 ∷ attach_lines 0) last last is
      (first_reads (lines.Finish 0 0) (attach_lines 0) last last finish_spelt (attached_read 0 (omega arith))))

  change_reads : (k : ℕ) → Reads (change_at k) last last
  change_reads k = on (k % 256 == 0) (k / 256 % 2 == 1)
    where
      on : (is odd : Bool) → Reads (if is then change_lines (if odd then 3 else 0) else []) last last
      on true true = changed_read 3 late_spelt
      on true false = changed_read 0 back_spelt
      on false odd = none_reads last

  drawn_spelt : (d : ℕ) → IsSpelt (add_of d) last
  drawn_spelt d = add_spelt (d % 3) (d / 3 % 4) (omega arith) (omega arith) (1 + d / 12 % 12) (1 + d / 65536 % 100) (omega arith) (omega arith)

  added_read : (x : ℕ) → Reads (three_adds x) last last
  added_read x =
      first_reads (add_of (draw (next x))) (add_of (draw (next (next x))) ∷ add_of (draw (next (next (next x)))) ∷ []) last last (drawn_spelt (draw (next x)))
      (first_reads (add_of (draw (next (next x)))) (add_of (draw (next (next (next x)))) ∷ []) last last (drawn_spelt (draw (next (next x))))
      (first_reads (add_of (draw (next (next (next x))))) [] last last (drawn_spelt (draw (next (next (next x))))) (none_reads last)))

  flush_spelt : IsSpelt lines.Flush last
  unfolding step_of
  flush_spelt = record { line = flush_in_line; said = steps.Flush; reads = flush_reads; means = λ before. refl }

  flushed_read : (k : ℕ) → Reads (flush_lines k) last last
  flushed_read k = on (k % 10 == 0)
    where
      on : (is : Bool) → Reads (if is then lines.Flush ∷ [] else []) last last
      on true = first_reads lines.Flush [] last last flush_spelt (none_reads last)
      on false = none_reads last

-- Ticks

-- the stamp of the last of so many ticks
last_of : ℕ → Option Moment
last_of zero = None
last_of (suc n) = Some (second (suc n))

tick_later : (n : ℕ) → is_later (last_of n) (second (suc n)) ≡ true
unfolding last_of
tick_later zero = refl
tick_later (suc n) = lt-ltb (microseconds (second (suc n))) (microseconds (second (suc (suc n)))) (omega arith)

tick_spelt : (n : ℕ) → n < 100000 → IsSpelt (tick_at (suc n)) (last_of n)
unfolding step_of
tick_spelt n h = record {
  line = tick_in_line (suc n) (omega arith);
  said = steps.Tick (second (suc n));
  reads = tick_reads (suc n) (omega arith);
  means = λ before. ap (λ b. cond b (Some (lines.Tick (second (suc n)))) None) (tick_later n);
}

tick_read : (x n : ℕ) → n < 100000 → Reads (tick_steps x (suc n)) (last_of n) (last_of (suc n))
unfolding tick_steps last_of
tick_read x n h =
    both_read (change_at (suc n)) (three_adds x ++ (tick_at (suc n) ∷ flush_lines (suc n))) (last_of n) (last_of n) (last_of (suc n)) (change_reads (last_of n) (suc n))
    (both_read (three_adds x) (tick_at (suc n) ∷ flush_lines (suc n)) (last_of n) (last_of n) (last_of (suc n)) (added_read (last_of n) x)
    (first_reads (tick_at (suc n)) (flush_lines (suc n)) (last_of n) (last_of (suc n)) (tick_spelt n h) (flushed_read (last_of (suc n)) (suc n))))

ticks_read : (x n : ℕ) → n ≤ 100000 → Reads (all_ticks x n) None (last_of n)
unfolding all_ticks last_of
ticks_read x zero h = none_reads None
ticks_read x (suc n) h =
    both_read (all_ticks x n) (tick_steps (number_behind x (3 * n)) (suc n)) None (last_of n) (last_of (suc n)) (ticks_read x n (omega arith)) (tick_read (number_behind x (3 * n)) n (omega arith))

all_read : (x n : ℕ) → n ≤ 100000 → Reads (all_steps x n) None (last_of n)
unfolding all_steps
all_read x n h =
    both_read (attach_lines 0 ++ (attach_lines 1 ++ attach_lines 2)) (all_ticks x n ++ (detach_lines 0 ++ (detach_lines 1 ++ detach_lines 2))) None None (last_of n)
    (both_read (attach_lines 0) (attach_lines 1 ++ attach_lines 2) None None None (attached_read None 0 (omega arith))
    (both_read (attach_lines 1) (attach_lines 2) None None None (attached_read None 1 (omega arith)) (attached_read None 2 (omega arith))))
    (both_read (all_ticks x n) (detach_lines 0 ++ (detach_lines 1 ++ detach_lines 2)) None (last_of n) (last_of n) (ticks_read x n h)
    (both_read (detach_lines 0) (detach_lines 1 ++ detach_lines 2) (last_of n) (last_of n) (last_of n) (detached_read (last_of n) 0 (omega arith))
    (both_read (detach_lines 1) (detach_lines 2) (last_of n) (last_of n) (last_of n) (detached_read (last_of n) 1 (omega arith)) (detached_read (last_of n) 2 (omega arith)))))

-- Whole scripts

pub generated_is_read : GeneratedIsRead
unfolding script_of generated_text generated_script lines_of with_script_lines
generated_is_read number ticks h =
    let made = all_steps number ticks in
    let passes : Passes ((images_text ++ front_text) ++ steps_text made) 1 (stages.Head, nothing) (252 + length made) (stages.Steps, behind (with_line_numbers 252 made) (last_of ticks)) =
    both_pass (images_text ++ front_text) (steps_text made) 1 252 (252 + length made) (stages.Head, nothing) (stages.Steps, before_steps) (stages.Steps, behind (with_line_numbers 252 made) (last_of ticks))
    head_passes (all_read number ticks h 252 []) in
    let same : ((images_text ++ front_text) ++ steps_text made) ++ [] ≡ images_text ++ (front_text ++ steps_text made) =
    append-nil ((images_text ++ front_text) ++ steps_text made) ∙ append_assoc images_text front_text (steps_text made) in
    ap (whole (length (lines_of (images_text ++ (front_text ++ steps_text made))) + 1))
    (ap (λ bytes. with_script_lines (lines_of bytes) 1 (stages.Head, nothing)) (sym same) ∙ passes [])

pub generated_is_ruled : GeneratedIsRuled
generated_is_ruled number ticks h = scripts_are_ruled (generated_text number ticks) (generated_script number ticks) (generated_is_read number ticks h)
