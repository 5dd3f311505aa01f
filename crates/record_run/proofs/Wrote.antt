-- No store of a pass finds nothing, and no change is refused: its lines make all their entries.
use Rattle.std.proofs.Common.{◌≡◌, ◌≢◌, inl, inr, ℕ, ◌-◌, ◌^◌, Bool, true, List, [], ◌∷◌, ◌++◌, append_assoc, Option, Some, None, sym, refl, ap, ◌∙◌, subst}
use Rattle.std.specs.List.{list_all}
use mathlib.Core.Logic.{dite}
use native.Mathlib.Decide.{ℕ_discrete}
use Rattle.mmv_layout.specs.Form.{form_of}
use Rattle.region_core.specs.declared.act.Act.{Act}
use Rattle.region_core.specs.declared.act.Act.TheVariants.{Load, Swap, Add, Enter, Leave, Take, Begin, Put, End, Free}
use Rattle.region_core.specs.declared.act.Entry.{Entry}
use Rattle.region_core.specs.declared.mode.Mode.TheVariants.{Attached}
use Rattle.region_core.specs.Journal.{state, own, IsLegal, IsJournal}
use Rattle.region_core.specs.State.{State, after, g1, opening, IsIn, IsStable}
use Rattle.region_core.proofs.Journals.{legal-front, state-append, state-snoc}
use Rattle.region_core.proofs.Runs.{mode_after, mode_own}
use Rattle.region_core.proofs.Sound.{IsSound, inside_shut, sound_opening, sound_run}
use Rattle.region_rule.specs.Steps.{entry}
use Rattle.region_words.specs.Images.{mmv, mmv_laws}
use Rattle.run_script.specs.Recording.{image_words, slot_in, takes_add, takes_swap}
use Rattle.run_script.specs.declared.script.Line.{Line}
use Rattle.run_script.specs.declared.script.Line.TheVariants as lines
use Rattle.script_runs.specs.Slots.{swap_of, add_of}
use Rattle.run_passes.specs.LineEntries.{Writing, Attaches, Stores, StoresLast, BeginsChange, Spends, StepsOn, Finishes, LineMakes, LinesMake}
use Rattle.record_run.specs.Whole.{LineWrites, LinesWrite}
use Rattle.record_run.proofs.Behind.{AreLoads, load_still, first_load, other_loads, own_mine, own_other}
use Rattle.record_run.proofs.Owned.{IsStore, swap_stores, add_stores}
use Rattle.record_run.proofs.Suited.{swap_same, add_same, swap_given, add_given}

-- Modes

attached_loads : (s : State) (k : ℕ) (es : List Entry) → AreLoads (own k es) → IsIn Attached s k → IsIn Attached (state s es) k
attached_loads s k [] loads inside = inside
attached_loads s k (e ∷ es) loads inside = dite (ℕ_discrete e.by k)
    (λ (same : e.by ≡ k).
    let here : AreLoads (e ∷ own k es) = subst AreLoads (own_mine e es k same) loads in
    attached_loads (after s e.by e.act) k es (other_loads e (own k es) here) (subst (λ (t : State). IsIn Attached t k) (sym (load_still s e.by e.act (first_load e (own k es) here))) inside))
    (λ (differ : e.by ≢ k).
    attached_loads (after s e.by e.act) k es (subst AreLoads (own_other e es k differ) loads) (mode_after s e.by k e.act (λ (same : k ≡ e.by). differ (sym same)) ∙ inside))

attached_store : (s : State) (k : ℕ) (act : Act) → IsStore act → IsIn Attached s k → IsIn Attached (after s k act) k
attached_store s k (Load w) h inside = absurd h
attached_store s k (Swap w v) h inside = mode_own s k Attached (Swap w v) inside
attached_store s k (Add w d) h inside = mode_own s k Attached (Add w d) inside
attached_store s k Enter h inside = absurd h
attached_store s k Leave h inside = absurd h
attached_store s k Take h inside = absurd h
attached_store s k (Begin n) h inside = absurd h
attached_store s k (Put w v) h inside = absurd h
attached_store s k (End n) h inside = absurd h
attached_store s k Free h inside = absurd h

attached_last : (k : ℕ) (s : State) (what : List ℕ → Option Act) (es : List Entry) → ((words : List ℕ) (act : Act) → what words ≡ Some act → IsStore act) → StoresLast k s what es → IsIn Attached s k → IsIn Attached (state s es) k
attached_last k s what es stores h inside =
    let there = attached_loads s k h.before h.looks inside in
    subst (λ (l : List Entry). IsIn Attached (state s l) k) (sym h.last)
    (subst (λ (t : State). IsIn Attached t k) (sym (state-snoc s h.before (entry k h.act))) (attached_store (state s h.before) k h.act (stores (state s h.before).words h.act h.is) there))

-- what a line names is in each image that the region may hold
abbrev pub LineSuits : List (List ℕ) → Line → Type 0
LineSuits held (lines.Swap region pass item instance value) = list_all (λ words. takes_swap words (slot_in words item instance) value) held ≡ true
LineSuits held (lines.Add region pass item instance number) = list_all (λ words. takes_add (slot_in words item instance)) held ≡ true
LineSuits held line = Unit {0}

abbrev pub LinesSuit : List (List ℕ) → List Line → Type 0
LinesSuit held [] = Unit {0}
LinesSuit held (line ∷ more) = LineSuits held line × LinesSuit held more

-- an image is among these as far as tests tell
abbrev pub IsHeld : List (List ℕ) → List ℕ → Type 0
IsHeld held image = (test : List ℕ → Bool) → list_all test held ≡ true → test image ≡ true

-- The journal of a region
module _ (images : List (List ℕ × List ℕ)) (held : List (List ℕ)) (words : List ℕ) (passes k : ℕ) (log : List Entry) (journal : IsJournal mmv words passes log)
    (form_at : (pre post : List Entry) → log ≡ pre ++ post → IsStable (state (opening words passes) pre) → (image : List ℕ) × IsHeld held image × (form_of (state (opening words passes) pre).words ≡ form_of image))
    (not_spent : (pre post : List Entry) → log ≡ pre ++ post → g1 (state (opening words passes) pre) ≢ 2 ^ 64 - 1) where
  abbrev start : State
  start = opening words passes

  -- who is inside stores under the form of an image that the region may hold
  inside_form : (pre post : List Entry) → log ≡ pre ++ post → IsIn Attached (state start pre) k → (image : List ℕ) × IsHeld held image × (form_of (state start pre).words ≡ form_of image)
  inside_form pre post is inside =
      let sound : IsSound mmv (state start pre) = sound_run mmv mmv_laws start pre (sound_opening mmv mmv_laws words passes journal.image journal.few) (legal-front mmv start pre post (subst (λ (es : List Entry). IsLegal mmv start es) is journal.legal)) in
      form_at pre post is (sound.shut (inside_shut (state start pre).gate (state start pre).modes k sound.gated inside))

  swap_some : (pre post : List Entry) → log ≡ pre ++ post → IsIn Attached (state start pre) k → (item : ℕ) (instance : _) (value : _) → list_all (λ ws. takes_swap ws (slot_in ws item instance) value) held ≡ true
      → swap_of (state start pre).words item instance value ≡ None → ⊥
  swap_some pre post is inside item instance value suits none =
      let f = inside_form pre post is inside in
      swap_given f.0 item instance value (f.1 (λ ws. takes_swap ws (slot_in ws item instance) value) suits) (sym (swap_same (state start pre).words f.0 f.2 item instance value) ∙ none)

  add_some : (pre post : List Entry) → log ≡ pre ++ post → IsIn Attached (state start pre) k → (item : ℕ) (instance : _) (number : _) → list_all (λ ws. takes_add (slot_in ws item instance)) held ≡ true
      → add_of (state start pre).words item instance number ≡ None → ⊥
  add_some pre post is inside item instance number suits none =
      let f = inside_form pre post is inside in
      add_given f.0 item instance number (f.1 (λ ws. takes_add (slot_in ws item instance)) suits) (sym (add_same (state start pre).words f.0 f.2 item instance number) ∙ none)

  -- where a pass stands
  abbrev Stood : Writing → State → Type 0
  Stood Writing.idle s = Unit {0}
  Stood Writing.attached s = IsIn Attached s k
  Stood (Writing.changing image n at) s = Unit {0}
  Stood Writing.refused s = Unit {0}

  record Wrote (s : State) (w : Writing) (line : Line) (made : List Entry) (next : Writing) : Type 0 where
    writes : LineWrites images k s w line made next
    stood : Stood next (state s made)

  module _ (s : State) (pre made post : List Entry) (s_is : s ≡ state start pre) (is : log ≡ pre ++ (made ++ post)) where
    there : state s made ≡ state start (pre ++ made)
    there = ap (λ (t : State). state t made) s_is ∙ sym (state-append start pre made)

    is_there : log ≡ (pre ++ made) ++ post
    is_there = is ∙ sym (append_assoc pre made post)

    stored : (what : List ℕ → Option Act) → ((pre post : List Entry) → log ≡ pre ++ post → IsIn Attached (state start pre) k → what (state start pre).words ≡ None → ⊥) → Stores k s what made → IsIn Attached s k → StoresLast k s what made
    stored what some (inl h) inside = h
    stored what some (inr h) inside =
        let here = attached_loads s k made h.looks inside in
        absurd (some (pre ++ made) post is_there (subst (λ (t : State). IsIn Attached t k) there here) (sym (ap (λ (t : State). what t.words) there) ∙ h.none))

    begun : (w : Writing) (image moment : ℕ) (region pass : ℕ) (next : Writing) → w ≡ Writing.idle → BeginsChange k s (image_words images image) moment made next → Wrote s w (lines.Begin region pass image moment) made next
    begun w image moment region pass next idle (inl b) = record { writes = (idle, b.0, b.1, b.2); stood = subst (λ (v : Writing). Stood v (state s made)) (sym b.2) tt }
    begun w image moment region pass next idle (inr b) = absurd (spent b.0)
      where
        spent : Spends k s made → ⊥
        spent h =
            let whole : log ≡ (pre ++ h.before) ++ (entry k Free ∷ post) =
            is ∙ (ap (λ (l : List Entry). pre ++ (l ++ post)) h.last ∙ (ap (λ (l : List Entry). pre ++ l) (append_assoc h.before (entry k Free ∷ []) post) ∙ sym (append_assoc pre h.before (entry k Free ∷ post)))) in
            let at : state s h.before ≡ state start (pre ++ h.before) = ap (λ (t : State). state t h.before) s_is ∙ sym (state-append start pre h.before) in
            not_spent (pre ++ h.before) (entry k Free ∷ post) whole (sym (ap (λ (t : State). g1 t) at) ∙ h.spent)

    stepped : (w : Writing) (region pass : ℕ) (next : Writing) → StepsOn k w made next → Wrote s w (lines.Step region pass) made next
    stepped (Writing.changing image n at) region pass next m = record { writes = m; stood = subst (λ (v : Writing). Stood v (state s made)) (sym m.1) tt }
    stepped Writing.refused region pass next m = record { writes = m; stood = subst (λ (v : Writing). Stood v (state s made)) (sym m.1) tt }
    stepped Writing.idle region pass next m = absurd m
    stepped Writing.attached region pass next m = absurd m

    finished : (w : Writing) (region pass : ℕ) (next : Writing) → Finishes k w made next → Wrote s w (lines.Finish region pass) made next
    finished (Writing.changing image n at) region pass next m = record { writes = m; stood = subst (λ (v : Writing). Stood v (state s made)) (sym m.1) tt }
    finished Writing.refused region pass next m = record { writes = m; stood = subst (λ (v : Writing). Stood v (state s made)) (sym m.1) tt }
    finished Writing.idle region pass next m = absurd m
    finished Writing.attached region pass next m = absurd m

    wrote : (w : Writing) (line : Line) (next : Writing) → LineSuits held line → LineMakes images k s w line made next → Stood w s → Wrote s w line made next
    wrote w (lines.Attach region pass) next suits m stood =
        let a : Attaches k s made = m.1 in
        record { writes = m; stood = subst (λ (v : Writing). Stood v (state s made)) (sym m.2) a.inside }
    wrote w (lines.Detach region pass) next suits m stood = record { writes = m; stood = subst (λ (v : Writing). Stood v (state s made)) (sym m.2) tt }
    wrote w (lines.Swap region pass item instance value) next suits m stood =
        let inside : IsIn Attached s k = subst (λ (v : Writing). Stood v s) m.0 stood in
        let last : StoresLast k s (λ ws. swap_of ws item instance value) made = stored (λ ws. swap_of ws item instance value) (λ xs ys so in_it none. swap_some xs ys so in_it item instance value suits none) m.1 inside in
        record {
          writes = (m.0, last, m.2);
          stood = subst (λ (v : Writing). Stood v (state s made)) (sym m.2) (attached_last k s (λ ws. swap_of ws item instance value) made (λ ws act. swap_stores ws item instance value act) last inside);
        }
    wrote w (lines.Add region pass item instance number) next suits m stood =
        let inside : IsIn Attached s k = subst (λ (v : Writing). Stood v s) m.0 stood in
        let last : StoresLast k s (λ ws. add_of ws item instance number) made = stored (λ ws. add_of ws item instance number) (λ xs ys so in_it none. add_some xs ys so in_it item instance number suits none) m.1 inside in
        record {
          writes = (m.0, last, m.2);
          stood = subst (λ (v : Writing). Stood v (state s made)) (sym m.2) (attached_last k s (λ ws. add_of ws item instance number) made (λ ws act. add_stores ws item instance number act) last inside);
        }
    wrote w (lines.Begin region pass image moment) next suits m stood = begun w image moment region pass next m.0 m.1
    wrote w (lines.Step region pass) next suits m stood = stepped w region pass next m
    wrote w (lines.Finish region pass) next suits m stood = finished w region pass next m
    wrote w (lines.Load region pass) next suits m stood = absurd m
    wrote w (lines.Word region pass index) next suits m stood = absurd m
    wrote w (lines.Done region pass) next suits m stood = absurd m
    wrote w (lines.Tick stamp) next suits m stood = absurd m
    wrote w lines.Flush next suits m stood = absurd m

  lines_write : (s : State) (w : Writing) (own_lines : List Line) (pre es post : List Entry) (last : Writing) → s ≡ state start pre → log ≡ pre ++ (es ++ post) → LinesSuit held own_lines → LinesMake images k s w own_lines es last → Stood w s
      → LinesWrite images k s w own_lines es last
  lines_write s w [] pre es post last s_is is suits m stood = m
  lines_write s w (line ∷ more) pre es post last s_is is suits m stood =
      let made : List Entry = m.0 in
      let rest : List Entry = m.1 in
      let here : log ≡ pre ++ (made ++ (rest ++ post)) = is ∙ (ap (λ (l : List Entry). pre ++ (l ++ post)) m.3 ∙ ap (λ (l : List Entry). pre ++ l) (append_assoc made rest post)) in
      let one : Wrote s w line made m.2 = wrote s pre made (rest ++ post) s_is here w line m.2 suits.0 m.4 stood in (
        made,
        rest,
        m.2,
        m.3,
        one.writes,
        lines_write (state s made) m.2 more (pre ++ made) rest post last (ap (λ (t : State). state t made) s_is ∙ sym (state-append start pre made)) (here ∙ sym (append_assoc pre made (rest ++ post))) suits.1 m.5 one.stood,
      )

  -- all its lines
  pub all_write : (own_lines : List Line) (es post : List Entry) → log ≡ es ++ post → LinesSuit held own_lines → LinesMake images k start Writing.idle own_lines es Writing.idle → LinesWrite images k start Writing.idle own_lines es Writing.idle
  all_write own_lines es post is suits m = lines_write start Writing.idle own_lines [] es post Writing.idle refl is suits m tt
