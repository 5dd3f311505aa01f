-- A change of the layout among the entries of others: behind it the words have the form of its image.
use Rattle.std.proofs.Common.{◌≡◌, ◌≢◌, ℕ, zero, suc, ◌+◌, ◌-◌, ◌<◌, ◌≤◌, ◌⊎◌, inl, inr, ⊎_elim, Bool, true, false, cond, eqb, ne_eqb, add-one, List, [], ◌∷◌, ◌++◌, All, length, map, set, drop, slice_index, length-set, length-append, length-drop, get_or-set_same, get_or-set_other, ext_get_or, sym, refl, ap, ◌∙◌, subst, arith}
use Rattle.std.proofs.lemmas.List.{get_or_append_left, get_or-append-add, get_or-drop}
use Rattle.std.proofs.lemmas.List.Elements.{All-nil, All-cons, All-drop}
use mathlib.Core.Logic.{dite}
use native.Mathlib.Decide.{ℕ_discrete, dec_le}
use Rattle.region_core.specs.declared.act.Act.{Act}
use Rattle.region_core.specs.declared.act.Act.TheVariants.{Begin, Put, End, Free}
use Rattle.region_core.specs.declared.act.Entry.{Entry}
use Rattle.region_core.specs.declared.mode.Mode.TheVariants.{Changing}
use Rattle.region_core.specs.Journal.{state, own, IsLegal}
use Rattle.region_core.specs.Shape.{Shaping, IsShape, IsWord, IsLike, with_generation}
use Rattle.region_core.specs.State.{State, word, g1, g2, after, IsAllowed, IsIn, IsStable}
use Rattle.region_core.proofs.Lists.{at_or, drop_at}
use Rattle.region_core.proofs.Runs.{changing_run, mode_own, mode_after}
use Rattle.region_core.proofs.Sound.{IsSound, sound_after}
use Rattle.region_core.proofs.Stretch.{IsStill, still_run, first_kept}
use Rattle.region_rule.specs.Changes.{next_after, left_from, puts_at, puts_left}
use Rattle.region_rule.specs.Steps.{entry}
use Rattle.region_rule.proofs.Places.{all_stored, all_words, apart, next_below, next_least, next_most, puts_next, puts_none, renewed, some_left}
use Rattle.record_run.proofs.Behind.{head_same, own_mine, own_other, tail_same}
use Rattle.record_run.proofs.Summing.{AreWords, words_run}

-- Lists that hold no beginning of a change

abbrev pub is_begin : Act → Bool
is_begin (Begin n) = true
is_begin act = false

abbrev pub NoBegin : List Entry → Type 0
NoBegin [] = Unit {0}
NoBegin (e ∷ es) = (is_begin e.act ≡ false) × NoBegin es

pub not_begin : (act : Act) (n : ℕ) → is_begin act ≡ false → act ≡ Begin n → ⊥
not_begin act n e same = let begins : is_begin act ≡ true = ap is_begin same in cc

-- what is left of a change
abbrev pub change_acts : ℕ → List ℕ → ℕ → List Act
change_acts at image n = puts_left at image ++ (End n ∷ Free ∷ [])

module _ (S : Shaping) (laws : IsShape S) where
  -- while no change begins the first generation stays
  pub first_run : (s : State) (es : List Entry) → IsSound S s → IsLegal S s es → NoBegin es → g1 (state s es) ≡ g1 s
  first_run s [] sound l none = refl
  first_run s (e ∷ es) sound l none =
      first_run (after s e.by e.act) es (sound_after S laws s e.by e.act sound l.0) l.1 none.1
      ∙ first_kept S laws s e.by e.act sound l.0 (λ n. not_begin e.act n none.0)

  -- and from where the generations agree the form stays
  pub calm : (s : State) (es : List Entry) → IsSound S s → IsLegal S s es → NoBegin es → IsStable s → S.form (state s es).words ≡ S.form s.words
  calm s es sound l none stable =
      let still : IsStill S s.words (state s es).words = still_run S laws s es sound l (sym stable ∙ sym (first_run s es sound l none)) in
      still.form_is

  -- a change under way, whose pass stores this word next
  pub record Under (s : State) (k at n : ℕ) (image : List ℕ) : Type 0 where
    pub changing : IsIn Changing s k
    pub first : g1 s ≡ n
    pub second : g2 s ≢ n
    pub is_image : S.IsImage image
    pub room : length image ≤ length s.words
    pub few : length s.words ≤ 65536
    pub words : AreWords s
    pub fits : IsWord n
    pub next_is : (at ≡ 0) ⊎ (3 ≤ at)
    pub most : at ≤ length image
    pub written : (i : ℕ) → i < at → i ≢ 1 → i ≢ 2 → word s i ≡ slice_index image i

  -- others leave it
  under_other : (s t : State) (k at n : ℕ) (image : List ℕ) → t.words ≡ s.words → IsIn Changing t k → Under s k at n image → Under t k at n image
  under_other s t k at n image same there u = record {
    changing = there;
    first = ap (λ (ws : List ℕ). slice_index ws 1) same ∙ u.first;
    second = λ e. u.second (ap (λ (ws : List ℕ). slice_index ws 2) (sym same) ∙ e);
    is_image = u.is_image;
    room = subst (λ (ws : List ℕ). length image ≤ length ws) (sym same) u.room;
    few = subst (λ (ws : List ℕ). length ws ≤ 65536) (sym same) u.few;
    words = subst (λ (ws : List ℕ). (i : ℕ) → IsWord (slice_index ws i)) (sym same) u.words;
    fits = u.fits;
    next_is = u.next_is;
    most = u.most;
    written = λ i below one two. ap (λ (ws : List ℕ). slice_index ws i) same ∙ u.written i below one two;
  }

  -- its next store
  under_put : (s : State) (k at n : ℕ) (image : List ℕ) → IsAllowed S s k (Put at (slice_index image at)) → at < length image → Under s k at n image → Under (after s k (Put at (slice_index image at))) k (next_after at) n image
  under_put s k at n image a below u =
      let x : ℕ = slice_index image at in
      let both = laws.generations image u.is_image in
      let room = u.room in
      let few = u.few in
      let long = length-set s.words at x in
      record {
        changing = mode_own s k Changing (Put at x) u.changing;
        first = get_or-set_other s.words at 1 x 0 (apart at 1 u.next_is (omega arith) (omega arith)) ∙ u.first;
        second = λ e. u.second (sym (get_or-set_other s.words at 2 x 0 (apart at 2 u.next_is (omega arith) (omega arith))) ∙ e);
        is_image = u.is_image;
        room = omega arith;
        few = omega arith;
        words = words_run S s (entry k (Put at x) ∷ []) (a, tt) u.words;
        fits = u.fits;
        next_is = inr (next_least at u.next_is);
        most = next_most at image below both.0;
        written = λ i h one two. ⊎_elim
            (λ (q : i ≡ at). subst (λ (j : ℕ). slice_index (set s.words at x) j ≡ slice_index image j) (sym q) (get_or-set_same s.words at x 0 (omega arith)))
            (λ (q : i < at). get_or-set_other s.words at i x 0 (λ (r : i ≡ at). omega arith) ∙ u.written i q one two)
            (next_below at i h one two);
      }

  -- and its end
  record Whole (t : State) (image : List ℕ) : Type 0 where
    stable : IsStable t
    form : S.form t.words ≡ S.form image

  under_end : (s : State) (k at n : ℕ) (image : List ℕ) → at ≡ length image → Under s k at n image → Whole (after s k (End n)) image
  under_end s k at n image done u =
      let ws : List ℕ = s.words in
      let more : List ℕ = drop (length image) ws in
      let both = laws.generations image u.is_image in
      let room = u.room in
      let few = u.few in
      let rest = length-drop (length image) ws in
      let sum = length-append image more in
      let like : IsLike S image (image ++ more) = laws.longer image more u.is_image (All-drop IsWord (length image) ws (all_words ws u.words)) (omega arith) in
      let renumbered : IsLike S (image ++ more) (with_generation (image ++ more) n) = laws.renumbered (image ++ more) n like.image u.fits in
      let same : with_generation (image ++ more) n ≡ set ws 2 n = renewed image ws n both.0 u.room u.first (λ i below one two. u.written i (subst (λ (m : ℕ). i < m) (sym done) below) one two) in
      record {
        stable = get_or-set_other ws 2 1 n 0 (λ (e : 1 ≡ 2). omega arith) ∙ (u.first ∙ sym (get_or-set_same ws 2 n 0 (omega arith)));
        form = ap (λ (xs : List ℕ). S.form xs) (sym same) ∙ (renumbered.form ∙ like.form);
      }

  -- where the generations agree again, the words have the form of its image
  pub relaid : (s : State) (k at n : ℕ) (image : List ℕ) (mid tail behind : List Entry) → IsSound S s → IsLegal S s mid → Under s k at n image
      → own k (mid ++ tail) ≡ map (λ (act : Act). entry k act) (change_acts at image n) ++ behind → NoBegin mid → IsStable (state s mid) → S.form (state s mid).words ≡ S.form image
  relaid s k at n image [] tail behind sound l u makes none stable = absurd (u.second (sym stable ∙ u.first))
  relaid s k at n image (e ∷ es) tail behind sound l u makes none stable = dite (ℕ_discrete e.by k)
      (λ (same : e.by ≡ k).
      let mine : e ∷ own k (es ++ tail) ≡ map (λ (act : Act). entry k act) (change_acts at image n) ++ behind = sym (own_mine e (es ++ tail) k same) ∙ makes in
      let both = laws.generations image u.is_image in
      dite (ℕ_discrete (left_from at image) 0)
      (λ (no_more : left_from at image ≡ 0).
      let done : at ≡ length image = all_stored at image both.0 u.most no_more in
      let puts : puts_left at image ≡ [] = puts_none at image both.0 done in
      let is : e ≡ entry k (End n) = head_same e (entry k (End n)) (own k (es ++ tail)) (entry k Free ∷ behind) (mine ∙ ap (λ (acts : List Act). map (λ (act : Act). entry k act) (acts ++ (End n ∷ Free ∷ [])) ++ behind) puts) in
      let w : Whole (after s e.by e.act) image = subst (λ (x : Entry). Whole (after s x.by x.act) image) (sym is) (under_end s k at n image done u) in
      calm (after s e.by e.act) es (sound_after S laws s e.by e.act sound l.0) l.1 none.1 w.stable ∙ w.form)
      (λ (more : left_from at image ≢ 0).
      let x : ℕ = slice_index image at in
      let puts : puts_left at image ≡ Put at x ∷ puts_left (next_after at) image = puts_next at image (omega arith) in
      let split : e ∷ own k (es ++ tail) ≡ entry k (Put at x) ∷ (map (λ (act : Act). entry k act) (change_acts (next_after at) image n) ++ behind) =
      mine ∙ ap (λ (acts : List Act). map (λ (act : Act). entry k act) (acts ++ (End n ∷ Free ∷ [])) ++ behind) puts in
      let is : e ≡ entry k (Put at x) = head_same e (entry k (Put at x)) (own k (es ++ tail)) (map (λ (act : Act). entry k act) (change_acts (next_after at) image n) ++ behind) split in
      let rest : own k (es ++ tail) ≡ map (λ (act : Act). entry k act) (change_acts (next_after at) image n) ++ behind = tail_same e (entry k (Put at x)) (own k (es ++ tail)) (map (λ (act : Act). entry k act) (change_acts (next_after at) image n) ++ behind) split in
      let allowed : IsAllowed S s k (Put at x) = subst (λ (y : Entry). IsAllowed S s y.by y.act) is l.0 in
      let next : Under (after s e.by e.act) k (next_after at) n image = subst (λ (y : Entry). Under (after s y.by y.act) k (next_after at) n image) (sym is) (under_put s k at n image allowed (some_left at image both.0 (omega arith)) u) in
      relaid (after s e.by e.act) k (next_after at) n image es tail behind (sound_after S laws s e.by e.act sound l.0) l.1 next rest none.1 stable))
      (λ (differ : e.by ≢ k).
      let not_mine : own k (e ∷ []) ≡ [] = own_other e [] k differ in
      let words : (after s e.by e.act).words ≡ s.words = changing_run S laws s k (e ∷ []) sound (l.0, tt) not_mine u.changing in
      let there : IsIn Changing (after s e.by e.act) k = mode_after s e.by k e.act (λ (same : k ≡ e.by). differ (sym same)) ∙ u.changing in
      relaid (after s e.by e.act) k at n image es tail behind (sound_after S laws s e.by e.act sound l.0) l.1 (under_other s (after s e.by e.act) k at n image words there u)
      (sym (own_other e (es ++ tail) k differ) ∙ makes) none.1 stable)
