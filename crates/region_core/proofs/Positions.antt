-- The laws at positions of a journal.
use Rattle.std.proofs.Common.{◌≡◌, ◌≢◌, ℕ, zero, suc, ◌+◌, ◌-◌, ◌<◌, ◌≤◌, ◌⊎◌, List, ◌∷◌, ◌++◌, length, set, take, drop, length-set, slice_index, slice_get, Some, All, get_or-set_same, get_or-set_other, ext_get_or, take-append-drop, add-zero, sym, refl, ap, ◌∙◌, subst, ⊎_elim, arith}
use lib.Seq.{set-get_or}
use mathlib.Core.Logic.{dite}
use native.Mathlib.Decide.{ℕ_discrete, dec_le}
use mathlib.Core.Option.{some}
use lib.ListN.{get_elem?}
use Rattle.region_core.specs.declared.act.Act.TheVariants.{Load}
use Rattle.region_core.specs.declared.act.Entry.{Entry}
use Rattle.region_core.specs.Shape.{Shaping, IsShape, IsWord, IsLike}
use Rattle.region_core.specs.State.{State, word, g1, g2, opening, after, IsAllowed, IsStable}
use Rattle.region_core.specs.Journal.{state, state_at, IsLegal, IsJournal}
use Rattle.region_core.specs.Readings.{HasLayout, Reading, IsFoundBetween, IsShownBetween, IsAgainBetween}
use Rattle.region_core.specs.Laws.{HasNoBegin}
use Rattle.region_core.proofs.Lists.{take_further, take_next, drop_at, at_get, at_below, at_some, get_or_at}
use Rattle.region_core.proofs.Journals.{state-append, state-snoc, legal-front, legal-back}
use Rattle.region_core.proofs.Sound.{IsSound, sound_run, sound_opening}
use Rattle.region_core.proofs.Stretch.{Rises, IsStill, rises_run, still_run, first_kept}
use Rattle.region_core.proofs.Runs.{wide_run}

-- the first n words are those of the second list
abbrev patched : List ℕ → List ℕ → ℕ → List ℕ
patched words found zero = words
patched words found (suc n) = set (patched words found n) n (slice_index found n)

length-patched : (words found : List ℕ) (n : ℕ) → length (patched words found n) ≡ length words
length-patched words found zero = refl
length-patched words found (suc n) = length-set (patched words found n) n (slice_index found n) ∙ length-patched words found n

patched_past : (words found : List ℕ) (n i : ℕ) → n ≤ i → slice_index (patched words found n) i ≡ slice_index words i
patched_past words found zero i h = refl
patched_past words found (suc n) i h = get_or-set_other (patched words found n) n i (slice_index found n) 0 (λ (e : i ≡ n). omega arith) ∙ patched_past words found n i (omega arith)

patched_here : (words found : List ℕ) (n i : ℕ) → i < n → i < length words → slice_index (patched words found n) i ≡ slice_index found i
patched_here words found zero i h b = absurd (omega arith)
patched_here words found (suc n) i h b =
    let wide = length-patched words found n in
    let before : i ≢ n → slice_index (patched words found n) i ≡ slice_index found i = λ (ne : i ≢ n). patched_here words found n i (omega arith) b in
    dite (ℕ_discrete i n)
    (λ (e : i ≡ n). subst (λ (k : ℕ). slice_index (set (patched words found n) n (slice_index found n)) k ≡ slice_index found k) (sym e) (get_or-set_same (patched words found n) n (slice_index found n) 0 (omega arith)))
    (λ (ne : i ≢ n). get_or-set_other (patched words found n) n i (slice_index found n) 0 ne ∙ before ne)

module _ (S : Shaping) where
  -- each word of the second list is the first one's, or an allowed value
  abbrev pub IsPatch : List ℕ → List ℕ → Type 0
  IsPatch words found = (w : ℕ) → w < length words → (slice_index found w ≡ slice_index words w) ⊎ (IsWord (slice_index found w) × S.Takes (S.form words) w (slice_index found w))

  patched_like : IsShape S → (words found : List ℕ) (n : ℕ) → S.IsImage words → n ≤ length words → IsPatch words found → IsLike S words (patched words found n)
  patched_like laws words found zero image below patch = record { image = image; form = refl }
  patched_like laws words found (suc n) image below patch =
      let front : List ℕ = patched words found n in
      let like : IsLike S words front = patched_like laws words found n image (omega arith) patch in
      ⊎_elim
      (λ (e : slice_index found n ≡ slice_index words n).
      let same : set front n (slice_index found n) ≡ front = ap (λ (v : ℕ). set front n v) (e ∙ sym (patched_past words found n n (omega arith))) ∙ set-get_or front n 0 in
      subst (λ (xs : List ℕ). IsLike S words xs) (sym same) like)
      (λ (d : IsWord (slice_index found n) × S.Takes (S.form words) n (slice_index found n)).
      let next : IsLike S front (set front n (slice_index found n)) = laws.value front n (slice_index found n) like.image d.0 (subst (λ (f : S.Form). S.Takes f n (slice_index found n)) (sym like.form) d.1) in
      record { image = next.image; form = next.form ∙ like.form })
      (patch n (omega arith))

  -- an image whose value words are replaced by allowed values is an image of the same form
  pub patch_like : IsShape S → (words found : List ℕ) → S.IsImage words → length found ≡ length words → IsPatch words found → IsLike S words found
  patch_like laws words found image wide patch =
      let n : ℕ = length words in
      let long = length-patched words found n in
      let same : patched words found n ≡ found = ext_get_or 0 (patched words found n) found (long ∙ sym wide) (λ i below. patched_here words found n i (omega arith) (omega arith)) in
      subst (λ (xs : List ℕ). IsLike S words xs) same (patched_like laws words found n image (omega arith) patch)

-- what a reading found at a position of its list
found_at : (S : Shaping) (start : State) (log : List Entry) (k p q : ℕ) (found : List (ℕ × ℕ)) (i : ℕ) (x : ℕ × ℕ) → All (IsFoundBetween S start log k p q) found → slice_get found i ≡ Some x → IsFoundBetween S start log k p q x
found_at S start log k p q found i x all there =
    let position : get_elem? found i ≡ some x = at_get found i x there in
    subst (λ (y : ℕ × ℕ). IsFoundBetween S start log k p q y) (get_or_at found i x position) (all i x (at_below found i x position))

module _ (S : Shaping) (laws : IsShape S) (words : List ℕ) (passes : ℕ) (log : List Entry) (journal : IsJournal S words passes log) where
  abbrev start : State
  start = opening words passes

  abbrev at : ℕ → State
  at p = state_at start log p

  -- the first p entries are legal
  pub legal_to : (p : ℕ) → IsLegal S start (take p log)
  legal_to p = legal-front S start (take p log) (drop p log) (subst (λ (es : List Entry). IsLegal S start es) (sym (take-append-drop p log)) journal.legal)

  -- the state at each position meets the invariant
  pub sound_at : (p : ℕ) → IsSound S (at p)
  sound_at p = sound_run S laws start (take p log) (sound_opening S laws words passes journal.image journal.few) (legal_to p)

  -- and so does the last one
  pub sound_end : IsSound S (state start log)
  sound_end = sound_run S laws start log (sound_opening S laws words passes journal.image journal.few) journal.legal

  -- the entry at a position is allowed in the state there
  pub allowed_at : (p : ℕ) (e : Entry) → get_elem? log p ≡ some e → IsAllowed S (at p) e.by e.act
  allowed_at p e there =
      let whole : IsLegal S start (take p log ++ drop p log) = subst (λ (es : List Entry). IsLegal S start es) (sym (take-append-drop p log)) journal.legal in
      let rest : IsLegal S (at p) (drop p log) = legal-back S start (take p log) (drop p log) whole in
      let split : IsLegal S (at p) (e ∷ drop (suc p) log) = subst (λ (es : List Entry). IsLegal S (at p) es) (drop_at log p e there) rest in
      split.0

  record Between (p q : ℕ) : Type 0 where
    entries : List Entry
    legal : IsLegal S (at p) entries
    is : at q ≡ state (at p) entries

  between : (p q : ℕ) → p ≤ q → Between p q
  between p q h = let t = take_further p q log h in record {
    entries = t.0;
    legal = legal-back S start (take p log) t.0 (subst (λ (es : List Entry). IsLegal S start es) t.1 (legal_to q));
    is = ap (λ (es : List Entry). state start es) t.1 ∙ state-append start (take p log) t.0;
  }

  -- neither generation falls between two positions
  pub rises_at : (p q : ℕ) → p ≤ q → Rises (at p).words (at q).words
  rises_at p q h = let b = between p q h in subst (λ (s : State). Rises (at p).words s.words) (sym b.is) (rises_run S laws (at p) b.entries (sound_at p) b.legal)

  still_between : (p q : ℕ) → p ≤ q → g2 (at p) ≡ g1 (at q) → IsStill S (at p).words (at q).words
  still_between p q h same = let b = between p q h in subst (λ (s : State). IsStill S (at p).words s.words) (sym b.is) (still_run S laws (at p) b.entries (sound_at p) b.legal (same ∙ ap (λ (s : State). g1 s) b.is))

  -- between two positions where the second generation at the one is the first at the other, the words are still
  pub still_at : (p r q : ℕ) → p ≤ r → r ≤ q → g2 (at p) ≡ g1 (at q) → IsStill S (at p).words (at r).words
  still_at p r q after_p before_q same =
      let o : slice_index (at p).words 2 ≤ slice_index (at p).words 1 = (sound_at p).ordered in
      let front = rises_at p r after_p in
      let back = rises_at r q before_q in
      let f : slice_index (at p).words 1 ≤ slice_index (at r).words 1 = front.first in
      let b : slice_index (at r).words 1 ≤ slice_index (at q).words 1 = back.first in
      let e : slice_index (at p).words 2 ≡ slice_index (at q).words 1 = same in
      let reached : slice_index (at p).words 2 ≡ slice_index (at r).words 1 = omega arith in
      still_between p r after_p reached

  -- and every state between has that generation twice, and one form
  pub layout_at : (p r q : ℕ) → p ≤ r → r ≤ q → g2 (at p) ≡ g1 (at q) → HasLayout S (at r) (g2 (at p)) (S.form (at p).words)
  layout_at p r q after_p before_q same =
      let still = still_at p r q after_p before_q same in
      let o : slice_index (at p).words 2 ≤ slice_index (at p).words 1 = (sound_at p).ordered in
      let whole = rises_at p q (omega arith) in
      let f : slice_index (at p).words 1 ≤ slice_index (at q).words 1 = whole.first in
      let e : slice_index (at p).words 2 ≡ slice_index (at q).words 1 = same in
      let one : slice_index (at r).words 1 ≡ slice_index (at p).words 1 = still.first in
      record { first = omega arith; second = still.second; form_is = still.form_is }

  -- words found in such a stretch, each at a moment of its own, are an image of its form
  pub mixed_at : (p q : ℕ) (found : List ℕ) → p ≤ q → g2 (at p) ≡ g1 (at q) → length found ≡ length words
      → ((w : ℕ) → w < length words → (r : ℕ) × (p ≤ r) × (r ≤ q) × (slice_index found w ≡ word (at r) w)) → IsLike S (at p).words found
  mixed_at p q found h same wide each =
      let still = still_at p p q (omega arith) h same in
      let long : length (at p).words ≡ length words = wide_run start (take p log) in
      patch_like S laws (at p).words found still.image (wide ∙ sym long)
      (λ w below.
      let position = each w (omega arith) in
      let here = still_at p position.0 q position.1 position.2 same in
      subst (λ (v : ℕ). (v ≡ slice_index (at p).words w) ⊎ (IsWord v × S.Takes (S.form (at p).words) w v)) (sym position.3) (here.each w))

  one_form_ahead : (p q generation : ℕ) (form other : S.Form) → p ≤ q → HasLayout S (at p) generation form → HasLayout S (at q) generation other → form ≡ other
  one_form_ahead p q generation form other h first second =
      let still = still_at p q q h (omega arith) (first.second ∙ sym second.first) in
      sym first.form_is ∙ sym still.form_is ∙ second.form_is

  -- two states with one generation twice have one form
  pub one_form : (p q generation : ℕ) (form other : S.Form) → HasLayout S (at p) generation form → HasLayout S (at q) generation other → form ≡ other
  one_form p q generation form other first second = dite (dec_le p q)
      (λ (h : p ≤ q). one_form_ahead p q generation form other h first second)
      (λ (h : ¬ (p ≤ q)). sym (one_form_ahead q p generation other form (omega arith) second first))

  -- the words of a shown reading, if it loaded each, are an image of the form that it shows
  pub shown_image : (from k p q : ℕ) (reading : Reading S) (found : List ℕ) → IsShownBetween S start log from k reading p q → length found ≡ length words
      → ((w : ℕ) → w < length words → (i : ℕ) × (slice_get reading.found i ≡ Some (w, slice_index found w))) → S.IsImage found × (S.form found ≡ reading.form)
  shown_image from k p q reading found shown wide each =
      let first = shown.stretch p (omega arith) (omega (arith, shown.order)) in
      let last = shown.stretch q (omega (arith, shown.order)) (omega arith) in
      let like : IsLike S (at p).words found = mixed_at p q found (omega (arith, shown.order)) (first.second ∙ sym last.first) wide
      (λ w below.
      let position = each w below in
      let load = found_at S start log k p q reading.found position.0 (w, slice_index found w) shown.each position.1 in
      (load.0, omega (arith, load.1), omega (arith, load.2), load.4)) in
      (like.image, like.form ∙ first.form_is)

  step_at : (p : ℕ) (e : Entry) → get_elem? log p ≡ some e → at (suc p) ≡ after (at p) e.by e.act
  step_at p e there = ap (λ (es : List Entry). state start es) (take_next log p e there) ∙ state-snoc start (take p log) e

  -- while no change begins, the first generation stays
  first_from : (p n : ℕ) → p + n ≤ length log → HasNoBegin log p (p + n) → g1 (at (p + n)) ≡ g1 (at p)
  first_from p zero below none = ap (λ (m : ℕ). g1 (at m)) (add-zero p)
  first_from p (suc n) below none =
      let there = at_some log (p + n) (omega arith) in
      let e : Entry = there.0 in
      let next : p + suc n ≡ suc (p + n) = omega arith in
      ap (λ (m : ℕ). g1 (at m)) next ∙ ap (λ (s : State). g1 s) (step_at (p + n) e there.1)
      ∙ first_kept S laws (at (p + n)) e.by e.act (sound_at (p + n)) (allowed_at (p + n) e there.1) (λ m. none (p + n) m e (omega arith) (omega arith) there.1)
      ∙ first_from p n (omega arith) (λ r m x a b. none r m x a (omega arith))

  -- so a reading that began while the generations agreed is not refused
  pub not_again : (from k first last p q : ℕ) → IsStable (at p) → HasNoBegin log p q → IsAgainBetween start log from k first last p q → ⊥
  not_again from k first last p q stable none again =
      let below = at_below log q (record { by = k; act = Load 1 }) again.closes in
      let order = again.order in
      let end : p + (q - p) ≡ q = omega arith in
      let kept : g1 (at q) ≡ g1 (at p) = subst (λ (m : ℕ). g1 (at m) ≡ g1 (at p)) end (first_from p (q - p) (omega arith) (λ r m x a b. none r m x a (omega arith))) in
      again.differ (again.first_is ∙ sym stable ∙ sym kept ∙ sym again.last_is)
