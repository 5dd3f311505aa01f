-- What is true while a change is under way, step by step.
use Rattle.std.proofs.Common.{◌≡◌, ◌≢◌, ℕ, ◌<◌, ◌≤◌, Bool, true, false, List, [], ◌∷◌, ◌++◌, All, length, set, drop, slice_index, eqb, length-append, length-drop, get_or-set_same, get_or-set_other, sym, refl, ap, ◌∙◌, subst, inl, inr, ⊎_elim, arith}
use Rattle.std.proofs.lemmas.List.Elements.{All-set, All-drop}
use Rattle.region_core.specs.declared.mode.Mode.{Mode}
use Rattle.region_core.specs.declared.mode.Mode.TheVariants.{Idle, Changing}
use Rattle.region_core.specs.declared.act.Act.{Act}
use Rattle.region_core.specs.declared.act.Act.TheVariants.{Load, Swap, Add, Enter, Leave, Take, Begin, Put, End, Free}
use Rattle.region_core.specs.declared.act.Entry.{Entry}
use Rattle.region_core.specs.Shape.{Shaping, IsShape, IsWord, IsLike, with_generation}
use Rattle.region_core.specs.State.{State, word, g1, g2, plus, after, after_take, IsIn, IsStable, IsAllowed}
use Rattle.region_core.specs.Journal.{state, own, IsLegal, IsJournal}
use Rattle.region_core.specs.Gate.{total, one_if_changing}
use Rattle.region_core.proofs.Journals.{state-append, state-snoc, own-append, legal-front, legal-back}
use Rattle.region_core.proofs.Sound.{IsSound, sound_run, sound_opening, plus_word}
use Rattle.region_core.proofs.Runs.{wide_run, changing_run}
use Rattle.region_rule.specs.declared.view.View.{View}
use Rattle.region_rule.specs.Views.{opening_of, now}
use Rattle.region_rule.specs.Steps.{entry, Extends}
use Rattle.region_rule.specs.Calls.{Learns}
use Rattle.region_rule.specs.Changes.{next_after, UnderWay}
use Rattle.region_rule.proofs.Places.{apart, next_least, next_below, next_most, renewed, word_of}

after_take_words : (s : State) (k : ℕ) (b : Bool) → (after_take s k b).words ≡ s.words
after_take_words s k true = refl
after_take_words s k false = refl

module _ (S : Shaping) where
  -- an act leaves words
  fit_after : (s : State) (k : ℕ) (act : Act) → All IsWord s.words → IsAllowed S s k act → All IsWord (after s k act).words
  fit_after s k (Load w) all a = all
  fit_after s k (Swap w v) all a = All-set IsWord s.words w v a.ready.2 all
  fit_after s k (Add w d) all a = All-set IsWord s.words w (plus (word s w) d) (plus_word (word s w) d) all
  fit_after s k Enter all a = all
  fit_after s k Leave all a = all
  fit_after s k Take all a = subst (λ (ws : List ℕ). All IsWord ws) (sym (after_take_words s k (eqb s.gate 0))) all
  fit_after s k (Begin n) all a = All-set IsWord s.words 1 n a.ready.3 all
  fit_after s k (Put w v) all a = All-set IsWord s.words w v a.ready.5 all
  fit_after s k (End n) all a = All-set IsWord s.words 2 n (subst IsWord a.ready.1 (word_of s.words 1 all)) all
  fit_after s k Free all a = all

  pub fit_run : (s : State) (es : List Entry) → All IsWord s.words → IsLegal S s es → All IsWord (state s es).words
  fit_run s [] all l = all
  fit_run s (e ∷ es) all l = fit_run (after s e.by e.act) es (fit_after s e.by e.act all l.0) l.1

  -- the state after a step of a pass
  pub now_after : (v w : View) (act : Act) (n : ℕ) (e : Extends S v act n w) → now w ≡ after (state (opening_of v) (v.seen ++ e.between)) v.number act
  now_after v w act n e = ap (λ (u : View). now u) e.is ∙ state-snoc (opening_of v) (v.seen ++ e.between) (entry v.number act)

  module _ (laws : IsShape S) where
    legal_before : (v w : View) (act : Act) (n : ℕ) (e : Extends S v act n w) → IsLegal S (opening_of v) (v.seen ++ e.between)
    legal_before v w act n e = legal-front S (opening_of v) (v.seen ++ e.between) (entry v.number act ∷ []) e.journal.legal

    -- the state that a step found meets the invariant
    sound_before : (v w : View) (act : Act) (n : ℕ) (e : Extends S v act n w) → IsSound S (state (opening_of v) (v.seen ++ e.between))
    sound_before v w act n e = sound_run S laws (opening_of v) (v.seen ++ e.between) (sound_opening S laws v.start v.passes e.journal.image e.journal.few) (legal_before v w act n e)

    -- while a pass is changing, its step finds the words that it has seen last
    pub words_before : (v w : View) (act : Act) (n : ℕ) (e : Extends S v act n w) → v.mode ≡ Changing → IsIn v.mode (now v) v.number → (state (opening_of v) (v.seen ++ e.between)).words ≡ (now v).words
    words_before v w act n e mode there =
        let legal = legal_before v w act n e in
        let sound : IsSound S (now v) = sound_run S laws (opening_of v) v.seen (sound_opening S laws v.start v.passes e.journal.image e.journal.few) (legal-front S (opening_of v) v.seen e.between legal) in
        ap (λ (s : State). s.words) (state-append (opening_of v) v.seen e.between)
        ∙ changing_run S laws (now v) v.number e.between sound (legal-back S (opening_of v) v.seen e.between legal) e.others (subst (λ (m : Mode). IsIn m (now v) v.number) mode there)

    -- who took a free gate is changing, and the generations agree
    pub taken : (v u : View) → Extends S v Take 0 u → v.mode ≡ Idle → (u.mode ≡ Changing) × IsStable (now u)
    taken v u e mode =
        let t : State = state (opening_of v) (v.seen ++ e.between) in
        let free : t.gate ≡ 0 = sym e.found in
        let sound = sound_before v u Take 0 e in
        let counts = sound.gated.counts in
        let none : total one_if_changing t.modes ≡ 0 = omega arith in
        let stable : g1 t ≡ g2 t = sound.shut none in
        let words : (now u).words ≡ t.words = ap (λ (s : State). s.words) (now_after v u Take 0 e) ∙ after_take_words t v.number (eqb t.gate 0) in
        (ap (λ (x : View). x.mode) e.is, subst (λ (ws : List ℕ). slice_index ws 1 ≡ slice_index ws 2) (sym words) stable)

    -- a load of the first generation by a pass that is changing
    pub loaded : (u x : View) (old : ℕ) → Extends S u (Load 1) old x → u.mode ≡ Changing → IsIn u.mode (now u) u.number → IsStable (now u) → (x.mode ≡ Changing) × IsStable (now x) × (g1 (now x) ≡ old)
    loaded u x old e mode there stable =
        let before = words_before u x (Load 1) old e mode there in
        let words : (now x).words ≡ (now u).words = ap (λ (s : State). s.words) (now_after u x (Load 1) old e) ∙ before in (
          ap (λ (y : View). y.mode) e.is ∙ mode,
          subst (λ (ws : List ℕ). slice_index ws 1 ≡ slice_index ws 2) (sym words) stable,
          ap (λ (ws : List ℕ). slice_index ws 1) (words ∙ sym before) ∙ sym e.found,
        )

    wide_now : (v : View) → length (now v).words ≡ length v.start
    wide_now v = wide_run (opening_of v) v.seen

    -- a change that has just begun
    pub begun_under : (x w : View) (image : List ℕ) (old n : ℕ) → Extends S x (Begin n) n w → x.mode ≡ Changing → IsIn x.mode (now x) x.number → IsStable (now x) → g1 (now x) ≡ old → old < n → IsWord n
        → S.IsImage image → length image ≤ length x.start → All IsWord x.start → UnderWay S w image 0 n
    begun_under x w image old n e mode there stable is above fits good room fit =
        let before = words_before x w (Begin n) n e mode there in
        let words : (now w).words ≡ set (now x).words 1 n = ap (λ (s : State). s.words) (now_after x w (Begin n) n e) ∙ ap (λ (ws : List ℕ). set ws 1 n) before in
        let sound = sound_before x w (Begin n) n e in
        let wide : 2 < length (now x).words = subst (λ (ws : List ℕ). 2 < length ws) before sound.wide in
        let first : slice_index (set (now x).words 1 n) 1 ≡ n = get_or-set_same (now x).words 1 n 0 (omega arith) in
        let second : slice_index (set (now x).words 1 n) 2 ≡ slice_index (now x).words 2 = get_or-set_other (now x).words 1 2 n 0 (λ (q : 2 ≡ 1). omega arith) in
        let agree : slice_index (now x).words 1 ≡ slice_index (now x).words 2 = stable in
        let old_is : slice_index (now x).words 1 ≡ old = is in
        let same_start : w.start ≡ x.start = ap (λ (y : View). y.start) e.is in
        record {
          changing = ap (λ (y : View). y.mode) e.is ∙ mode;
          there = e.mode;
          had = e.had;
          journal = subst (λ (y : View). IsJournal S y.start y.passes y.seen) (sym e.is) e.journal;
          fit = subst (λ (ws : List ℕ). All IsWord ws) (sym same_start) fit;
          fits = fits;
          is_image = good;
          room = subst (λ (ws : List ℕ). length image ≤ length ws) (sym same_start) room;
          first = ap (λ (ws : List ℕ). slice_index ws 1) words ∙ first;
          second = λ q. let q' : slice_index (set (now x).words 1 n) 2 ≡ n = ap (λ (ws : List ℕ). slice_index ws 2) (sym words) ∙ q in omega arith;
          next_is = inl refl;
          most = omega arith;
          written = λ i h. absurd (omega arith);
        }

    -- the next word was stored
    pub put_under : (v w : View) (image : List ℕ) (next n y : ℕ) → UnderWay S v image next n → Extends S v (Put next (slice_index image next)) y w → next < length image → UnderWay S w image (next_after next) n
    put_under v w image next n y u e below =
        let x : ℕ = slice_index image next in
        let before = words_before v w (Put next x) y e u.changing u.there in
        let words : (now w).words ≡ set (now v).words next x = ap (λ (s : State). s.words) (now_after v w (Put next x) y e) ∙ ap (λ (ws : List ℕ). set ws next x) before in
        let long = wide_now v in
        let room = u.room in
        let there : next < length (now v).words = omega arith in
        let not_first : 1 ≢ next = apart next 1 u.next_is (omega arith) (omega arith) in
        let not_second : 2 ≢ next = apart next 2 u.next_is (omega arith) (omega arith) in
        let first : slice_index (set (now v).words next x) 1 ≡ slice_index (now v).words 1 = get_or-set_other (now v).words next 1 x 0 not_first in
        let second : slice_index (set (now v).words next x) 2 ≡ slice_index (now v).words 2 = get_or-set_other (now v).words next 2 x 0 not_second in
        let same_start : w.start ≡ v.start = ap (λ (z : View). z.start) e.is in
        let both = laws.generations image u.is_image in
        record {
          changing = ap (λ (z : View). z.mode) e.is ∙ u.changing;
          there = e.mode;
          had = e.had;
          journal = subst (λ (z : View). IsJournal S z.start z.passes z.seen) (sym e.is) e.journal;
          fit = subst (λ (ws : List ℕ). All IsWord ws) (sym same_start) u.fit;
          fits = u.fits;
          is_image = u.is_image;
          room = subst (λ (ws : List ℕ). length image ≤ length ws) (sym same_start) u.room;
          first = ap (λ (ws : List ℕ). slice_index ws 1) words ∙ first ∙ u.first;
          second = λ q. u.second (sym second ∙ ap (λ (ws : List ℕ). slice_index ws 2) (sym words) ∙ q);
          next_is = inr (next_least next u.next_is);
          most = next_most next image below both.0;
          written = λ i h one two. ap (λ (ws : List ℕ). slice_index ws i) words ∙ ⊎_elim
              (λ (q : i ≡ next). subst (λ (j : ℕ). slice_index (set (now v).words next x) j ≡ slice_index image j) (sym q) (get_or-set_same (now v).words next x 0 there))
              (λ (q : i < next). get_or-set_other (now v).words next i x 0 (λ (r : i ≡ next). omega arith) ∙ u.written i q one two)
              (next_below next i h one two);
        }

    -- once all words are stored, the second generation makes an image
    pub end_image : (v : View) (image : List ℕ) (n : ℕ) → UnderWay S v image (length image) n → S.IsImage (set (now v).words 2 n)
    end_image v image n u =
        let ws : List ℕ = (now v).words in
        let more : List ℕ = drop (length image) ws in
        let all : All IsWord ws = fit_run (opening_of v) v.seen u.fit u.journal.legal in
        let long = wide_now v in
        let room = u.room in
        let wide = u.journal.wide in
        let rest = length-drop (length image) ws in
        let sum = length-append image more in
        let both = laws.generations image u.is_image in
        let like : IsLike S image (image ++ more) = laws.longer image more u.is_image (All-drop IsWord (length image) ws all) (omega arith) in
        let renumbered : IsLike S (image ++ more) (with_generation (image ++ more) n) = laws.renumbered (image ++ more) n like.image u.fits in
        let same : with_generation (image ++ more) n ≡ set ws 2 n = renewed image ws n both.0 (omega arith) u.first u.written in
        subst (λ (xs : List ℕ). S.IsImage xs) same renumbered.image

    none_added : (xs ys : List Entry) → xs ++ ys ≡ xs → ys ≡ []
    none_added [] ys e = e
    none_added (x ∷ xs) ys e = none_added xs ys (cc)

    -- a change whose pass has learned what a note has seen
    pub informed_under : (v w new : View) (image : List ℕ) (next n : ℕ) → UnderWay S v image next n → Learns S v w new → UnderWay S new image next n
    informed_under v w new image next n u l =
        let mid : List Entry = l.mine.0 in
        let seen : new.seen ≡ v.seen ++ mid = l.mine.1 in
        let number : new.number ≡ v.number = ap (λ (x : View). x.number) l.is in
        let start : new.start ≡ v.start = ap (λ (x : View). x.start) l.is in
        let mode : new.mode ≡ v.mode = ap (λ (x : View). x.mode) l.is in
        let mine : new.own ≡ v.own = ap (λ (x : View). x.own) l.is in
        let open_same : opening_of new ≡ opening_of v = ap (λ (x : View). opening_of x) l.is in
        let had : own v.number (v.seen ++ mid) ≡ own v.number v.seen =
        ap (λ (es : List Entry). own v.number es) (sym seen) ∙ ap (λ (k : ℕ). own k new.seen) (sym number) ∙ l.knows.had ∙ mine ∙ sym u.had in
        let none : own v.number mid ≡ [] = none_added (own v.number v.seen) (own v.number mid) (sym (own-append v.number v.seen mid) ∙ had) in
        let here : now new ≡ state (now v) mid = (λ i. state (open_same i) (seen i)) ∙ state-append (opening_of v) v.seen mid in
        let legal : IsLegal S (now v) mid = legal-back S (opening_of v) v.seen mid (subst (λ (es : List Entry). IsLegal S (opening_of v) es) seen (subst (λ (s : State). IsLegal S s new.seen) open_same l.knows.journal.legal)) in
        let sound : IsSound S (now v) = sound_run S laws (opening_of v) v.seen (sound_opening S laws v.start v.passes u.journal.image u.journal.few) u.journal.legal in
        let words : (now new).words ≡ (now v).words = ap (λ (s : State). s.words) here
        ∙ changing_run S laws (now v) v.number mid sound legal none (subst (λ (m : Mode). IsIn m (now v) v.number) u.changing u.there) in
        record {
          changing = mode ∙ u.changing;
          there = l.knows.mode;
          had = l.knows.had;
          journal = l.knows.journal;
          fit = subst (λ (ws : List ℕ). All IsWord ws) (sym start) u.fit;
          fits = u.fits;
          is_image = u.is_image;
          room = subst (λ (ws : List ℕ). length image ≤ length ws) (sym start) u.room;
          first = ap (λ (ws : List ℕ). slice_index ws 1) words ∙ u.first;
          second = λ q. u.second (ap (λ (ws : List ℕ). slice_index ws 2) (sym words) ∙ q);
          next_is = u.next_is;
          most = u.most;
          written = λ i h one two. ap (λ (ws : List ℕ). slice_index ws i) words ∙ u.written i h one two;
        }

    -- the change has ended, and only its gate is still taken
    pub ended : (v w : View) (image : List ℕ) (next n y : ℕ) → UnderWay S v image next n → Extends S v (End n) y w → (w.mode ≡ Changing) × IsStable (now w)
    ended v w image next n y u e =
        let before = words_before v w (End n) y e u.changing u.there in
        let words : (now w).words ≡ set (now v).words 2 n = ap (λ (s : State). s.words) (now_after v w (End n) y e) ∙ ap (λ (ws : List ℕ). set ws 2 n) before in
        let sound = sound_before v w (End n) y e in
        let wide : 2 < length (now v).words = subst (λ (ws : List ℕ). 2 < length ws) before sound.wide in
        let first : slice_index (set (now v).words 2 n) 1 ≡ n = get_or-set_other (now v).words 2 1 n 0 (λ (q : 1 ≡ 2). omega arith) ∙ u.first in
        let second : slice_index (set (now v).words 2 n) 2 ≡ n = get_or-set_same (now v).words 2 n 0 wide in
        (ap (λ (x : View). x.mode) e.is ∙ u.changing, subst (λ (ws : List ℕ). slice_index ws 1 ≡ slice_index ws 2) (sym words) (first ∙ sym second))

    -- a pass that took a free gate and loaded the first generation
    pub loaded_stable : (v u x : View) (gate old : ℕ) → gate ≡ 0 → Extends S v Take gate u → v.mode ≡ Idle → Extends S u (Load 1) old x → (x.mode ≡ Changing) × IsStable (now x) × (g1 (now x) ≡ old)
    loaded_stable v u x gate old free take idle load =
        let takes : Extends S v Take 0 u = subst (λ (n : ℕ). Extends S v Take n u) free take in
        let t = taken v u takes idle in
        loaded u x old load t.0 takes.mode t.1
