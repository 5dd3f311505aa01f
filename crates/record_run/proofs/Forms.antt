-- The form of a region's words wherever the generations agree, and how high its generations are.
use Rattle.std.proofs.Common.{◌≡◌, ◌≢◌, ◌⊎◌, inl, inr, ⊎_elim, ℕ, zero, suc, ◌+◌, ◌-◌, ◌*◌, ◌^◌, ◌<◌, ◌≤◌, true, false, List, [], ◌∷◌, ◌++◌, append_assoc, length, map, max, set, slice_index, length-set, get_or-set_same, get_or-set_other, sym, refl, ap, ◌∙◌, subst, arith}
use Rattle.std.proofs.lemmas.List.{length-replicate}
use mathlib.Core.Logic.{dite}
use native.Mathlib.Decide.{ℕ_discrete}
use Rattle.region_core.specs.declared.act.Act.{Act}
use Rattle.region_core.specs.declared.act.Act.TheVariants.{Load, Swap, Add, Enter, Leave, Take, Begin, Put, End, Free}
use Rattle.region_core.specs.declared.act.Entry.{Entry}
use Rattle.region_core.specs.declared.mode.Mode.TheVariants.{Idle, Changing}
use Rattle.region_core.specs.Journal.{state, own, IsLegal, IsJournal}
use Rattle.region_core.specs.Shape.{Shaping, IsShape}
use Rattle.region_core.specs.State.{State, g1, g2, after, opening, IsAllowed, IsStable}
use Rattle.region_core.proofs.Journals.{state-append, own-append, legal-front, legal-back}
use Rattle.region_core.proofs.Lists.{at_below}
use Rattle.region_core.proofs.Runs.{count_run, mode_own, wide_run}
use Rattle.region_core.proofs.Sound.{IsSound, sound_after, sound_opening, sound_run}
use Rattle.region_core.proofs.Stretch.{first_kept}
use Rattle.region_rule.specs.Steps.{entry}
use Rattle.script_runs.specs.Journals.{is_load}
use Rattle.record_run.proofs.Behind.{AreLoads, first_load, loads_behind, own_mine, own_other}
use Rattle.record_run.proofs.Owned.{Bounded, begun, Good, BeginsGood, good_at, one_if}
use Rattle.record_run.proofs.Relaid.{NoBegin, is_begin, not_begin, calm, change_acts, Under, relaid}
use Rattle.record_run.proofs.Summing.{AreWords, words_run}

-- The last beginning of a change

begin_of : (act : Act) → (is_begin act ≡ false) ⊎ ((n : ℕ) × (act ≡ Begin n))
begin_of (Load w) = inl refl
begin_of (Swap w v) = inl refl
begin_of (Add w d) = inl refl
begin_of Enter = inl refl
begin_of Leave = inl refl
begin_of Take = inl refl
begin_of (Begin n) = inr (n, refl)
begin_of (Put w v) = inl refl
begin_of (End n) = inl refl
begin_of Free = inl refl

pub record LastBegin (es : List Entry) : Type 0 where
  pub before : List Entry
  pub k : ℕ
  pub n : ℕ
  pub mid : List Entry
  pub is : es ≡ before ++ entry k (Begin n) ∷ mid
  pub none : NoBegin mid

pub last_begin : (es : List Entry) → NoBegin es ⊎ LastBegin es
last_begin [] = inl tt
last_begin (e ∷ es) = ⊎_elim
    (λ (none : NoBegin es). ⊎_elim
    (λ (not : is_begin e.act ≡ false). inl (not, none))
    (λ (begins : (n : ℕ) × (e.act ≡ Begin n)). inr (record { before = []; k = e.by; n = begins.0; mid = es; is = λ i. entry e.by (begins.1 i) ∷ es; none = none }))
    (begin_of e.act))
    (λ (b : LastBegin es). inr (record { before = e ∷ b.before; k = b.k; n = b.n; mid = b.mid; is = ap (λ (l : List Entry). e ∷ l) b.is; none = b.none }))
    (last_begin es)

module _ (S : Shaping) (laws : IsShape S) (P : List ℕ → Type 0) (words : List ℕ) (passes n : ℕ) (log : List Entry) (journal : IsJournal S words passes log) (last : passes ≡ n + 1) (loads : AreLoads (own n log))
    (are_words : AreWords (opening words passes)) (images : (image : List ℕ) → P image → S.IsImage image × (length image ≤ length words)) (good : (k : ℕ) → k < n → Good P k (own k log)) where
  abbrev start : State
  start = opening words passes

  sound_to : (pre post : List Entry) → log ≡ pre ++ post → IsSound S (state start pre)
  sound_to pre post is = sound_run S laws start pre (sound_opening S laws words passes journal.image journal.few) (legal-front S start pre post (subst (λ (es : List Entry). IsLegal S start es) is journal.legal))

  -- who begins a change is no logger
  a_writer : (before : List Entry) (k g : ℕ) (mid : List Entry) → log ≡ before ++ entry k (Begin g) ∷ mid → k < n
  a_writer before k g mid is =
      let legal : IsLegal S (state start before) (entry k (Begin g) ∷ mid) = legal-back S start before (entry k (Begin g) ∷ mid) (subst (λ (es : List Entry). IsLegal S start es) is journal.legal) in
      let below = at_below (state start before).modes k Changing legal.0.ready.0 in
      let many = count_run start before in
      let long = length-replicate passes Idle in
      let differ : k ≢ n = λ same.
      let mine : AreLoads (own n before ++ (entry k (Begin g) ∷ own n mid)) =
      subst AreLoads (ap (λ (es : List Entry). own n es) is ∙ (own-append n before (entry k (Begin g) ∷ mid) ∙ ap (λ (es : List Entry). own n before ++ es) (own_mine (entry k (Begin g)) mid n same))) loads in
      let load : is_load (Begin g) ≡ true = first_load (entry k (Begin g)) (own n mid) (loads_behind (own n before) (entry k (Begin g) ∷ own n mid) mine) in
      absurd (cc) in
      omega arith

  -- it is that of the words at the start, or of an image to which a pass changes it
  abbrev pub HasForm : List ℕ → Type 0
  HasForm ws = (S.form ws ≡ S.form words) ⊎ ((image : List ℕ) × P image × (S.form ws ≡ S.form image))

  -- a change behind which no other begins, once the generations agree again
  pub record Changed (k g : ℕ) (mid post : List Entry) (t : State) : Type 0 where
    pub image : List ℕ
    pub may : P image
    pub form : S.form (state t mid).words ≡ S.form image
    pub behind : List Entry
    pub stores : own k (mid ++ post) ≡ map (λ (act : Act). entry k act) (change_acts 0 image g) ++ behind

  pub changed_at : (before : List Entry) (k g : ℕ) (mid post : List Entry) → log ≡ before ++ entry k (Begin g) ∷ (mid ++ post) → NoBegin mid → IsStable (state (after (state start before) k (Begin g)) mid)
      → Changed k g mid post (after (state start before) k (Begin g))
  changed_at before k g mid post whole none stable =
      let s : State = state start before in
      let legal : IsLegal S s (entry k (Begin g) ∷ (mid ++ post)) = legal-back S start before (entry k (Begin g) ∷ (mid ++ post)) (subst (λ (es : List Entry). IsLegal S start es) whole journal.legal) in
      let writer : k < n = a_writer before k g (mid ++ post) whole in
      let owned : Good P k (own k before ++ (entry k (Begin g) ∷ own k (mid ++ post))) =
      subst (Good P k) (ap (λ (es : List Entry). own k es) whole ∙ (own-append k before (entry k (Begin g) ∷ (mid ++ post)) ∙ ap (λ (es : List Entry). own k before ++ es) (own_mine (entry k (Begin g)) (mid ++ post) k refl))) (good k writer) in
      let begins : BeginsGood P k (entry k (Begin g)) (own k (mid ++ post)) = good_at P k (own k before) (entry k (Begin g)) (own k (mid ++ post)) owned in
      let change = begins g refl in
      let image : List ℕ = change.0 in
      let is_image = images image change.1 in
      let sound : IsSound S s = sound_to before (entry k (Begin g) ∷ (mid ++ post)) whole in
      let wide : 2 < length s.words = sound.wide in
      let allowed : IsAllowed S s k (Begin g) = legal.0 in
      let agree : g1 s ≡ g2 s = allowed.ready.1 in
      let above : g1 s < g = allowed.ready.2 in
      let second : slice_index (set s.words 1 g) 2 ≡ slice_index s.words 2 = get_or-set_other s.words 1 2 g 0 (λ (e : 2 ≡ 1). omega arith) in
      let many = wide_run start before in
      let long = length-set s.words 1 g in
      let room = is_image.1 in
      let few = journal.wide in
      let t : State = after s k (Begin g) in
      let under : Under S laws t k 0 g image = record {
        changing = mode_own s k Changing (Begin g) allowed.ready.0;
        first = get_or-set_same s.words 1 g 0 (omega arith);
        second = λ e. (let same : slice_index s.words 2 ≡ g = sym second ∙ e in omega arith);
        is_image = is_image.0;
        room = omega arith;
        few = omega arith;
        words = words_run S s (entry k (Begin g) ∷ []) (allowed, tt) (words_run S start before (legal-front S start before (entry k (Begin g) ∷ (mid ++ post)) (subst (λ (es : List Entry). IsLegal S start es) whole journal.legal)) are_words);
        fits = allowed.ready.3;
        next_is = inl refl;
        most = omega arith;
        written = λ i below one two. absurd (omega arith);
      } in
      record {
        image = image;
        may = change.1;
        form = relaid S laws t k 0 g image mid post change.2 (sound_after S laws s k (Begin g) sound allowed) (legal-front S t mid post legal.1) under change.3 none stable;
        behind = change.2;
        stores = change.3;
      }

  pub form_at : (pre post : List Entry) → log ≡ pre ++ post → IsStable (state start pre) → HasForm (state start pre).words
  form_at pre post is stable = ⊎_elim
      (λ (none : NoBegin pre).
      let both = laws.generations words journal.image in
      inl (calm S laws start pre (sound_opening S laws words passes journal.image journal.few) (legal-front S start pre post (subst (λ (es : List Entry). IsLegal S start es) is journal.legal)) none both.1))
      (λ (b : LastBegin pre).
      let t : State = after (state start b.before) b.k (Begin b.n) in
      let whole : log ≡ b.before ++ entry b.k (Begin b.n) ∷ (b.mid ++ post) = is ∙ (ap (λ (l : List Entry). l ++ post) b.is ∙ append_assoc b.before (entry b.k (Begin b.n) ∷ b.mid) post) in
      let there : state start pre ≡ state t b.mid = ap (λ (es : List Entry). state start es) b.is ∙ state-append start b.before (entry b.k (Begin b.n) ∷ b.mid) in
      let c : Changed b.k b.n b.mid post t = changed_at b.before b.k b.n b.mid post whole b.none (subst (λ (x : State). IsStable x) there stable) in
      inr (c.image, c.may, ap (λ (x : State). S.form x.words) there ∙ c.form))
      (last_begin pre)

  -- Generations

  abbrev ByWriters : List Entry → Type 0
  ByWriters [] = Unit {0}
  ByWriters (e ∷ es) = ((g : ℕ) → e.act ≡ Begin g → e.by < n) × ByWriters es

  by_writers : (pre post : List Entry) → log ≡ pre ++ post → ByWriters post
  by_writers pre [] is = tt
  by_writers pre (e ∷ es) is = (
    λ g begins. a_writer pre e.by g es (is ∙ (λ i. pre ++ entry e.by (begins i) ∷ es)),
    by_writers (pre ++ e ∷ []) es (is ∙ sym (append_assoc pre (e ∷ []) es)),
  )

  -- each generation is at most 2^63 and the number of changes that have begun
  rise : (s : State) (es : List Entry) (most : ℕ) → IsSound S s → IsLegal S s es → ByWriters es → ((k : ℕ) → k < n → Bounded s k es) → 2 ^ 63 ≤ most → g1 s ≤ most → g1 (state s es) ≤ most + begun es
  rise s [] most sound l by bounded low h = omega arith
  rise s (e ∷ es) most sound l by bounded low h =
      let t : State = after s e.by e.act in
      let sound_then : IsSound S t = sound_after S laws s e.by e.act sound l.0 in
      ⊎_elim
      (λ (not : is_begin e.act ≡ false).
      let kept : g1 t ≡ g1 s = first_kept S laws s e.by e.act sound l.0 (λ g. not_begin e.act g not) in
      let none : one_if (is_begin e.act) ≡ 0 = ap one_if not in
      let rest = rise t es most sound_then l.1 by.1 (λ k below. (bounded k below).1) low (omega arith) in
      omega arith)
      (λ (begins : (g : ℕ) × (e.act ≡ Begin g)).
      let g : ℕ = begins.0 in
      let bound : g ≤ max (2 ^ 63) (g1 s + 1) = (bounded e.by (by.0 g begins.1)).0 refl g begins.1 in
      let smaller : g ≤ most + 1 = under_max g (2 ^ 63) (g1 s + 1) (most + 1) bound (omega arith) (omega arith) in
      let wide : 2 < length s.words = sound.wide in
      let is : g1 t ≡ g = ap (λ (act : Act). g1 (after s e.by act)) begins.1 ∙ get_or-set_same s.words 1 g 0 (omega arith) in
      let one : one_if (is_begin e.act) ≡ 1 = ap (λ (act : Act). one_if (is_begin act)) begins.1 in
      let rest = rise t es (most + 1) sound_then l.1 by.1 (λ k below. (bounded k below).1) (omega arith) (omega arith) in
      omega arith)
      (begin_of e.act)
    where
      under_max : (a b c m : ℕ) → a ≤ max b c → b ≤ m → c ≤ m → a ≤ m
      under_max a b c m h p q = grind (arith)

  bounded_front : (s : State) (k : ℕ) (xs ys : List Entry) → Bounded s k (xs ++ ys) → Bounded s k xs
  bounded_front s k [] ys h = tt
  bounded_front s k (x ∷ xs) ys h = (h.0, bounded_front (after s x.by x.act) k xs ys h.1)

  front_by : (xs ys : List Entry) → ByWriters (xs ++ ys) → ByWriters xs
  front_by [] ys h = tt
  front_by (x ∷ xs) ys h = (h.0, front_by xs ys h.1)

  -- How many changes begin

  abbrev sum_below : ℕ → (ℕ → ℕ) → ℕ
  sum_below zero f = 0
  sum_below (suc m) f = sum_below m f + f m

  sum_more : (m : ℕ) (f g : ℕ → ℕ) → ((k : ℕ) → f k ≤ g k) → sum_below m f ≤ sum_below m g
  sum_more zero f g h = omega arith
  sum_more (suc m) f g h = let rest = sum_more m f g h in let here = h m in omega arith

  sum_one : (m b : ℕ) (f g : ℕ → ℕ) → b < m → ((k : ℕ) → f k ≤ g k) → f b + 1 ≤ g b → sum_below m f + 1 ≤ sum_below m g
  sum_one zero b f g below h one = absurd (omega arith)
  sum_one (suc m) b f g below h one = dite (ℕ_discrete b m)
      (λ (same : b ≡ m). let rest = sum_more m f g h in let here : f m + 1 ≤ g m = subst (λ (k : ℕ). f k + 1 ≤ g k) same one in omega arith)
      (λ (differ : b ≢ m). let rest = sum_one m b f g (omega arith) h one in let here = h m in omega arith)

  sum_most : (m : ℕ) (f : ℕ → ℕ) → ((k : ℕ) → k < m → f k ≤ 2 ^ 54) → sum_below m f ≤ m * 2 ^ 54
  sum_most zero f h = omega arith
  sum_most (suc m) f h = let rest = sum_most m f (λ k below. h k (omega arith)) in let here = h m (omega arith) in omega arith

  own_more : (k : ℕ) (e : Entry) (es : List Entry) → begun (own k es) ≤ begun (own k (e ∷ es))
  own_more k e es = dite (ℕ_discrete e.by k)
      (λ (same : e.by ≡ k). let is : begun (own k (e ∷ es)) ≡ one_if (is_begin e.act) + begun (own k es) = ap begun (own_mine e es k same) in omega arith)
      (λ (differ : e.by ≢ k). let is : begun (own k (e ∷ es)) ≡ begun (own k es) = ap begun (own_other e es k differ) in omega arith)

  spread : (es : List Entry) → ByWriters es → begun es ≤ sum_below n (λ k. begun (own k es))
  spread [] by = omega arith
  spread (e ∷ es) by =
      let rest = spread es by.1 in
      ⊎_elim
      (λ (not : is_begin e.act ≡ false).
      let none : one_if (is_begin e.act) ≡ 0 = ap one_if not in
      let more = sum_more n (λ k. begun (own k es)) (λ k. begun (own k (e ∷ es))) (λ k. own_more k e es) in
      omega arith)
      (λ (begins : (g : ℕ) × (e.act ≡ Begin g)).
      let one : one_if (is_begin e.act) ≡ 1 = ap (λ (act : Act). one_if (is_begin act)) begins.1 in
      let mine : begun (own e.by (e ∷ es)) ≡ one_if (is_begin e.act) + begun (own e.by es) = ap begun (own_mine e es e.by refl) in
      let more = sum_one n e.by (λ k. begun (own k es)) (λ k. begun (own k (e ∷ es))) (by.0 begins.0 begins.1) (λ k. own_more k e es) (omega arith) in
      omega arith)
      (begin_of e.act)

  begun_front : (xs ys : List Entry) → begun xs ≤ begun (xs ++ ys)
  begun_front [] ys = omega arith
  begun_front (x ∷ xs) ys = let rest = begun_front xs ys in omega arith

  -- so none is the highest
  pub not_spent : n ≤ 255 → g1 start < 2 ^ 63 → ((k : ℕ) → k < n → Bounded start k log) → ((k : ℕ) → k < n → begun (own k log) ≤ 2 ^ 54) → (pre post : List Entry) → log ≡ pre ++ post → g1 (state start pre) ≢ 2 ^ 64 - 1
  not_spent few low bounded each pre post is spent =
      let by : ByWriters log = by_writers [] log refl in
      let front : ByWriters pre = front_by pre post (subst ByWriters is by) in
      let high = rise start pre (2 ^ 63) (sound_opening S laws words passes journal.image journal.few) (legal-front S start pre post (subst (λ (es : List Entry). IsLegal S start es) is journal.legal)) front
      (λ k below. bounded_front start k pre post (subst (λ (es : List Entry). Bounded start k es) is (bounded k below))) (omega arith) (omega arith) in
      let some = begun_front pre post in
      let same : begun log ≡ begun (pre ++ post) = ap begun is in
      let all = spread log by in
      let most = sum_most n (λ k. begun (own k log)) each in
      omega arith
