-- What stays as it is while the generations agree, and while one pass is inside or changing.
use Rattle.std.proofs.Common.{◌≡◌, ◌≢◌, ℕ, ◌<◌, ◌≤◌, ◌⊎◌, List, [], ◌∷◌, length, set, length-set, slice_index, get_or-set_same, get_or-set_other, sym, refl, ◌∙◌, subst, inl, inr, ⊎_elim, arith}
use mathlib.Core.Logic.{dite}
use native.Mathlib.Decide.{ℕ_discrete}
use Rattle.region_core.specs.declared.act.Act.{Act}
use Rattle.region_core.specs.declared.act.Act.TheVariants.{Load, Swap, Add, Enter, Leave, Take, Begin, Put, End, Free}
use Rattle.region_core.specs.declared.act.Entry.{Entry}
use Rattle.region_core.specs.Shape.{Shaping, IsShape, IsWord, IsLike}
use Rattle.region_core.specs.State.{State, word, g1, g2, plus, after, IsAllowed}
use Rattle.region_core.specs.Journal.{state, IsLegal}
use Rattle.region_core.specs.Gate.{total, one_if_changing}
use Rattle.region_core.proofs.Sound.{IsSound, sound_after, plus_word, changing_one, inside_shut, not_first, not_second}

-- neither generation falls
pub record Rises (from to : List ℕ) : Type 0 where
  pub first : slice_index from 1 ≤ slice_index to 1
  pub second : slice_index from 2 ≤ slice_index to 2

rises_refl : (words : List ℕ) → Rises words words
rises_refl words = record { first = omega arith; second = omega arith }

rises_trans : {a b c : List ℕ} → Rises a b → Rises b c → Rises a c
rises_trans p q = record { first = omega arith; second = omega arith }

module _ (S : Shaping) where
  -- the second list is an image of the first one's form and generation, and its words are the first one's but for allowed values
  pub record IsStill (from to : List ℕ) : Type 0 where
    pub form_is : S.form to ≡ S.form from
    pub image : S.IsImage to
    pub first : slice_index to 1 ≡ slice_index from 1
    pub second : slice_index to 2 ≡ slice_index from 2
    pub length_is : length to ≡ length from
    pub each : (w : ℕ) → (slice_index to w ≡ slice_index from w) ⊎ (IsWord (slice_index to w) × S.Takes (S.form from) w (slice_index to w))

  pub still_refl : (words : List ℕ) → S.IsImage words → IsStill words words
  still_refl words image = record { form_is = refl; image = image; first = refl; second = refl; length_is = refl; each = λ w. inl refl }

  pub still_trans : (a b c : List ℕ) → IsStill a b → IsStill b c → IsStill a c
  still_trans a b c p q = record {
    form_is = q.form_is ∙ p.form_is;
    image = q.image;
    first = q.first ∙ p.first;
    second = q.second ∙ p.second;
    length_is = q.length_is ∙ p.length_is;
    each = λ w. ⊎_elim
        (λ (e : slice_index c w ≡ slice_index b w). ⊎_elim
        (λ (d : slice_index b w ≡ slice_index a w). inl (e ∙ d))
        (λ (d : IsWord (slice_index b w) × S.Takes (S.form a) w (slice_index b w)). inr (subst (λ (v : ℕ). IsWord v × S.Takes (S.form a) w v) (sym e) d))
        (p.each w))
        (λ (d : IsWord (slice_index c w) × S.Takes (S.form b) w (slice_index c w)). inr (d.0, subst (λ (f : S.Form). S.Takes f w (slice_index c w)) p.form_is d.1))
        (q.each w);
  }

  -- an allowed value in a value word
  pub still_value : IsShape S → (words : List ℕ) (w v : ℕ) → S.IsImage words → w < length words → IsWord v → S.Takes (S.form words) w v → IsStill words (set words w v)
  still_value laws words w v image below fits takes = let like : IsLike S words (set words w v) = laws.value words w v image fits takes in record {
    form_is = like.form;
    image = like.image;
    first = get_or-set_other words w 1 v 0 (not_first S laws words w v image takes);
    second = get_or-set_other words w 2 v 0 (not_second S laws words w v image takes);
    length_is = length-set words w v;
    each = λ u. dite (ℕ_discrete u w)
        (λ (e : u ≡ w). inr (subst (λ (x : ℕ). IsWord (slice_index (set words w v) x) × S.Takes (S.form words) x (slice_index (set words w v) x)) (sym e)
        (subst (λ (y : ℕ). IsWord y × S.Takes (S.form words) w y) (sym (get_or-set_same words w v 0 below)) (fits, takes))))
        (λ (n : u ≢ w). inl (get_or-set_other words w u v 0 n));
  }

  -- an act where the generations agree, and the first one stays: the words are still
  still_act : IsShape S → (s : State) (k : ℕ) (act : Act) → IsSound S s → IsAllowed S s k act → g1 s ≡ g2 s → g1 (after s k act) ≡ g1 s → IsStill s.words (after s k act).words
  still_act laws s k (Load w) sound a stable same = still_refl s.words (sound.image stable)
  still_act laws s k (Swap w v) sound a stable same = still_value laws s.words w v (sound.image stable) a.ready.1 a.ready.2 a.suits
  still_act laws s k (Add w d) sound a stable same = let fits = plus_word (word s w) d in still_value laws s.words w (plus (word s w) d) (sound.image stable) a.ready.1 fits (a.suits (plus (word s w) d) fits)
  still_act laws s k Enter sound a stable same = still_refl s.words (sound.image stable)
  still_act laws s k Leave sound a stable same = still_refl s.words (sound.image stable)
  still_act laws s k Take sound a stable same = still_refl s.words (sound.image stable)
  still_act laws s k (Begin n) sound a stable same =
      let wide : 2 < length s.words = sound.wide in
      let first : slice_index (set s.words 1 n) 1 ≡ n = get_or-set_same s.words 1 n 0 (omega arith) in
      let above : slice_index s.words 1 < n = a.ready.2 in
      let kept : slice_index (set s.words 1 n) 1 ≡ slice_index s.words 1 = same in
      absurd (omega arith)
  still_act laws s k (Put w v) sound a stable same = absurd (a.ready.1 stable)
  still_act laws s k (End n) sound a stable same = absurd (a.ready.2 (sym stable ∙ a.ready.1))
  still_act laws s k Free sound a stable same = still_refl s.words (sound.image stable)

  -- an act while nobody is changing: the words are still
  pub quiet_act : IsShape S → (s : State) (k : ℕ) (act : Act) → IsSound S s → IsAllowed S s k act → total one_if_changing s.modes ≡ 0 → IsStill s.words (after s k act).words
  quiet_act laws s k (Load w) sound a none = still_refl s.words (sound.image (sound.shut none))
  quiet_act laws s k (Swap w v) sound a none = still_value laws s.words w v (sound.image (sound.shut none)) a.ready.1 a.ready.2 a.suits
  quiet_act laws s k (Add w d) sound a none = let fits = plus_word (word s w) d in still_value laws s.words w (plus (word s w) d) (sound.image (sound.shut none)) a.ready.1 fits (a.suits (plus (word s w) d) fits)
  quiet_act laws s k Enter sound a none = still_refl s.words (sound.image (sound.shut none))
  quiet_act laws s k Leave sound a none = still_refl s.words (sound.image (sound.shut none))
  quiet_act laws s k Take sound a none = still_refl s.words (sound.image (sound.shut none))
  quiet_act laws s k (Begin n) sound a none = let one = changing_one s.modes k a.ready.0 in absurd (omega arith)
  quiet_act laws s k (Put w v) sound a none = let one = changing_one s.modes k a.ready.0 in absurd (omega arith)
  quiet_act laws s k (End n) sound a none = let one = changing_one s.modes k a.ready.0 in absurd (omega arith)
  quiet_act laws s k Free sound a none = still_refl s.words (sound.image (sound.shut none))

  -- only `Begin` changes the first generation
  pub first_kept : IsShape S → (s : State) (k : ℕ) (act : Act) → IsSound S s → IsAllowed S s k act → ((n : ℕ) → act ≢ Begin n) → g1 (after s k act) ≡ g1 s
  first_kept laws s k (Load w) sound a none = refl
  first_kept laws s k (Swap w v) sound a none = let still = quiet_act laws s k (Swap w v) sound a (inside_shut s.gate s.modes k sound.gated a.ready.0) in still.first
  first_kept laws s k (Add w d) sound a none = let still = quiet_act laws s k (Add w d) sound a (inside_shut s.gate s.modes k sound.gated a.ready.0) in still.first
  first_kept laws s k Enter sound a none = refl
  first_kept laws s k Leave sound a none = refl
  first_kept laws s k Take sound a none = refl
  first_kept laws s k (Begin n) sound a none = absurd (none n refl)
  first_kept laws s k (Put w v) sound a none = get_or-set_other s.words w 1 v 0 (λ (e : 1 ≡ w). a.ready.2 (sym e))
  first_kept laws s k (End n) sound a none = get_or-set_other s.words 2 1 n 0 (λ (e : 1 ≡ 2). omega arith)
  first_kept laws s k Free sound a none = refl

  rises_still : (from to : List ℕ) → IsStill from to → Rises from to
  rises_still from to still = record { first = omega arith; second = omega arith }

  -- no act lets a generation fall
  pub rises_after : IsShape S → (s : State) (k : ℕ) (act : Act) → IsSound S s → IsAllowed S s k act → Rises s.words (after s k act).words
  rises_after laws s k (Load w) sound a = rises_refl s.words
  rises_after laws s k (Swap w v) sound a = rises_still s.words (set s.words w v) (quiet_act laws s k (Swap w v) sound a (inside_shut s.gate s.modes k sound.gated a.ready.0))
  rises_after laws s k (Add w d) sound a = rises_still s.words (set s.words w (plus (word s w) d)) (quiet_act laws s k (Add w d) sound a (inside_shut s.gate s.modes k sound.gated a.ready.0))
  rises_after laws s k Enter sound a = rises_refl s.words
  rises_after laws s k Leave sound a = rises_refl s.words
  rises_after laws s k Take sound a = rises_refl s.words
  rises_after laws s k (Begin n) sound a =
      let wide : 2 < length s.words = sound.wide in
      let first : slice_index (set s.words 1 n) 1 ≡ n = get_or-set_same s.words 1 n 0 (omega arith) in
      let second : slice_index (set s.words 1 n) 2 ≡ slice_index s.words 2 = get_or-set_other s.words 1 2 n 0 (λ (e : 2 ≡ 1). omega arith) in
      let above : slice_index s.words 1 < n = a.ready.2 in
      record { first = omega arith; second = omega arith }
  rises_after laws s k (Put w v) sound a =
      let first : slice_index (set s.words w v) 1 ≡ slice_index s.words 1 = get_or-set_other s.words w 1 v 0 (λ (e : 1 ≡ w). a.ready.2 (sym e)) in
      let second : slice_index (set s.words w v) 2 ≡ slice_index s.words 2 = get_or-set_other s.words w 2 v 0 (λ (e : 2 ≡ w). a.ready.3 (sym e)) in
      record { first = omega arith; second = omega arith }
  rises_after laws s k (End n) sound a =
      let wide : 2 < length s.words = sound.wide in
      let first : slice_index (set s.words 2 n) 1 ≡ slice_index s.words 1 = get_or-set_other s.words 2 1 n 0 (λ (e : 1 ≡ 2). omega arith) in
      let second : slice_index (set s.words 2 n) 2 ≡ n = get_or-set_same s.words 2 n 0 wide in
      let ordered : slice_index s.words 2 ≤ slice_index s.words 1 = sound.ordered in
      let reached : slice_index s.words 1 ≡ n = a.ready.1 in
      record { first = omega arith; second = omega arith }
  rises_after laws s k Free sound a = rises_refl s.words

  pub rises_run : IsShape S → (s : State) (es : List Entry) → IsSound S s → IsLegal S s es → Rises s.words (state s es).words
  rises_run laws s [] sound l = rises_refl s.words
  rises_run laws s (e ∷ es) sound l = rises_trans (rises_after laws s e.by e.act sound l.0) (rises_run laws (after s e.by e.act) es (sound_after S laws s e.by e.act sound l.0) l.1)

  -- from where the second generation is the last state's first one on, the words are still
  pub still_run : IsShape S → (s : State) (es : List Entry) → IsSound S s → IsLegal S s es → g2 s ≡ g1 (state s es) → IsStill s.words (state s es).words
  still_run laws s [] sound l same = still_refl s.words (sound.image (sym same))
  still_run laws s (e ∷ es) sound l same =
      let t : State = after s e.by e.act in
      let last : State = state t es in
      let sound' = sound_after S laws s e.by e.act sound l.0 in
      let step = rises_after laws s e.by e.act sound l.0 in
      let rest = rises_run laws t es sound' l.1 in
      let o : slice_index s.words 2 ≤ slice_index s.words 1 = sound.ordered in
      let o' : slice_index t.words 2 ≤ slice_index t.words 1 = sound'.ordered in
      let first : slice_index s.words 1 ≤ slice_index t.words 1 = step.first in
      let second : slice_index s.words 2 ≤ slice_index t.words 2 = step.second in
      let further : slice_index t.words 1 ≤ slice_index last.words 1 = rest.first in
      let end : slice_index s.words 2 ≡ slice_index last.words 1 = same in
      let stable : slice_index s.words 1 ≡ slice_index s.words 2 = omega arith in
      let kept : slice_index t.words 1 ≡ slice_index s.words 1 = omega arith in
      let again : slice_index t.words 2 ≡ slice_index last.words 1 = omega arith in
      still_trans s.words t.words last.words (still_act laws s e.by e.act sound l.0 stable kept) (still_run laws t es sound' l.1 again)
