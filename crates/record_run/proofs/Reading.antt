-- A reading whose loads stand where nothing changes any more.
use Rattle.std.proofs.Common.{◌≡◌, ℕ, ◌<◌, ◌≤◌, length, slice_index, Option, Some, None, sym, refl, ap, ◌∙◌, subst, arith}
use Rattle.mmv_layout.specs.declared.rows.Layout.{Layout}
use Rattle.mmv_layout.specs.Rows.{layout_of}
use Rattle.region_core.specs.Journal.{state_at}
use Rattle.region_core.specs.Readings.{IsFoundBetween, HasLayout, IsAgainBetween, Missed}
use Rattle.region_core.specs.State.{State, word, g1, g2, IsStable}
use Rattle.region_rule.specs.declared.view.View.{View}
use Rattle.region_rule.specs.Views.{opening_of}
use Rattle.region_words.specs.Images.{mmv}
use Rattle.fetch_engine.specs.Visits.{ShowsLayout, IsRead}
use Rattle.fetch_engine.proofs.Tries.{misses_are_missed, read_is_shown}
use Rattle.run_passes.specs.Alike.{SayAlike, LayoutsAlike}

module _ (v w : View) (s : State) (still : (p : ℕ) → length v.seen ≤ p → state_at (opening_of v) w.seen p ≡ s) (stable : IsStable s) (image : mmv.IsImage s.words) where
  -- no try of it is refused
  not_missed : Missed (opening_of v) w.seen (length v.seen) v.number → ⊥
  not_missed missed =
      let again : IsAgainBetween (opening_of v) w.seen (length v.seen) v.number missed.0 missed.1 missed.2 missed.3 = missed.4 in
      let since = again.since in
      let order = again.order in
      let first = still missed.2 (omega arith) in
      let last = still missed.3 (omega arith) in
      again.differ (again.first_is ∙ (ap (λ (t : State). g2 t) first ∙ (sym stable ∙ (sym (ap (λ (t : State). g1 t) last) ∙ sym again.last_is))))

  -- and what it shows is what the words say
  shown_still : (layout : Layout) → ShowsLayout v layout w → SayAlike layout (layout_of s.words)
  shown_still layout shows =
      let p = shows.shown.0 in
      let q = shows.shown.1 in
      let between = shows.shown.2 in
      let since : length v.seen ≤ p = between.since in
      let order : p < q = between.order in
      let there : HasLayout mmv (state_at (opening_of v) w.seen p) shows.generation (mmv.form shows.words) = between.stretch p (omega arith) (omega arith) in
      record {
        words = shows.words;
        others = s.words;
        says = shows.says;
        other_says = refl;
        alike = record {
          image = shows.image;
          other_image = image;
          form = sym there.form_is ∙ ap (λ (t : State). mmv.form t.words) (still p since);
          values = λ slot among.
              let c = shows.values slot among in
              let one : IsFoundBetween mmv (opening_of v) w.seen v.number p q (slot.word, slice_index shows.words slot.word) =
              subst (λ (x : ℕ × ℕ). IsFoundBetween mmv (opening_of v) w.seen v.number p q x) c.2 (between.each c.0 (slot.word, slice_index shows.words slot.word) c.1) in
              one.4 ∙ ap (λ (t : State). word t slot.word) (still one.0 (let after = one.1 in omega arith));
        };
      }

  pub read_still : (layout : Option Layout) → IsRead v layout w → LayoutsAlike layout (Some (layout_of s.words))
  read_still None read = absurd (not_missed (misses_are_missed v w read))
  read_still (Some layout) read = shown_still layout (read_is_shown v w layout read)
