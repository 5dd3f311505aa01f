-- What the lines of a pass say of its own entries: behind each beginning of a change stand the stores of its image and its end, each
-- new generation is the moment or one more, and there are no more of them than lines.
use Rattle.std.proofs.Common.{◌≡◌, ◌≢◌, ◌⊎◌, inl, inr, ℕ, zero, suc, ◌+◌, ◌^◌, ◌<◌, ◌≤◌, ◌==◌, eqb, Bool, true, false, if◌then◌else◌, List, [], ◌∷◌, ◌++◌, append_assoc, drop, length, map, max, slice_index, option_map, Option, Some, None, sym, refl, ap, ◌∙◌, subst, arith}
use Rattle.std.proofs.lemmas.List.{map-append}
use mathlib.Core.Logic.{dite}
use native.Mathlib.Decide.{ℕ_discrete}
use Rattle.region_core.specs.declared.act.Act.{Act}
use Rattle.region_core.specs.declared.act.Act.TheVariants.{Load, Swap, Add, Enter, Leave, Take, Begin, Put, End, Free}
use Rattle.region_core.specs.declared.act.Entry.{Entry}
use Rattle.region_core.specs.Journal.{state, own}
use Rattle.region_core.specs.State.{State, after, g1}
use Rattle.region_core.proofs.Journals.{own-append, own-mine}
use Rattle.region_rule.specs.Changes.{left_from, next_after, puts_at, puts_left}
use Rattle.region_rule.specs.Steps.{entry}
use Rattle.run_script.specs.Recording.{image_words}
use Rattle.run_script.specs.declared.script.Line.{Line}
use Rattle.run_script.specs.declared.script.Line.TheVariants as lines
use Rattle.run_script.specs.declared.lines.Given.{Given as Written}
use Rattle.script_runs.specs.Journals.{is_load}
use Rattle.script_runs.specs.Slots.{swap_of, swap_into, slot_with, value_for, add_of, add_into, holds_number, low_bits}
use Rattle.run_passes.specs.LineEntries.{Writing, Makes, IsBounced, AreBounced, Attaches, takes, Stores, IsBeginMade, Spends, BeginsChange, next_put, next_place, StepsOn, Finishes, LineMakes, LinesMake}
use Rattle.mmv_layout.specs.declared.rows.Slot.{Slot}
use Rattle.region_rule.proofs.Places.{puts_next}
use Rattle.record_run.proofs.Behind.{AreLoads, first_load, other_loads, own_mine, own_other}
use Rattle.record_run.proofs.Relaid.{NoBegin, is_begin, not_begin, change_acts}

-- Entries without a beginning

none_join : (xs ys : List Entry) → NoBegin xs → NoBegin ys → NoBegin (xs ++ ys)
none_join [] ys a b = b
none_join (x ∷ xs) ys a b = (a.0, none_join xs ys a.1 b)

load_begins : (act : Act) → is_load act ≡ true → is_begin act ≡ false
load_begins (Load w) e = refl
load_begins (Swap w v) e = refl
load_begins (Add w d) e = refl
load_begins Enter e = refl
load_begins Leave e = refl
load_begins Take e = refl
load_begins (Begin n) e = absurd (cc)
load_begins (Put w v) e = refl
load_begins (End n) e = refl
load_begins Free e = refl

none_loads : (es : List Entry) → AreLoads es → NoBegin es
none_loads [] h = tt
none_loads (e ∷ es) h = (load_begins e.act (first_load e es h), none_loads es (other_loads e es h))

abbrev NoActs : List Act → Type 0
NoActs [] = Unit {0}
NoActs (act ∷ acts) = (is_begin act ≡ false) × NoActs acts

acts_join : (xs ys : List Act) → NoActs xs → NoActs ys → NoActs (xs ++ ys)
acts_join [] ys a b = b
acts_join (x ∷ xs) ys a b = (a.0, acts_join xs ys a.1 b)

none_acts : (k : ℕ) (acts : List Act) → NoActs acts → NoBegin (map (λ (act : Act). entry k act) acts)
none_acts k [] h = tt
none_acts k (act ∷ acts) h = (h.0, none_acts k acts h.1)

none_makes : (k : ℕ) (acts : List Act) (es : List Entry) → NoActs acts → Makes k acts es → NoBegin (own k es)
none_makes k acts es h makes = subst NoBegin (sym makes) (none_acts k acts h)

none_own : (k : ℕ) (xs ys : List Entry) → NoBegin (own k xs) → NoBegin (own k ys) → NoBegin (own k (xs ++ ys))
none_own k xs ys a b = subst NoBegin (sym (own-append k xs ys)) (none_join (own k xs) (own k ys) a b)

acts_takes : (n : ℕ) → NoActs (takes n)
acts_takes zero = tt
acts_takes (suc n) = acts_join (takes n) (Take ∷ []) (acts_takes n) (refl, tt)

acts_puts : (at : ℕ) (xs : List ℕ) → NoActs (puts_at at xs)
acts_puts at [] = tt
acts_puts at (x ∷ xs) = (refl, acts_puts (suc at) xs)

acts_change : (at : ℕ) (image : List ℕ) (n : ℕ) → NoActs (change_acts at image n)
acts_change at image n = acts_join (puts_left at image) (End n ∷ Free ∷ []) (by_test (at == 0)) (refl, (refl, tt))
  where
    by_test : (b : Bool) → NoActs (if b then Put 0 (slice_index image 0) ∷ puts_at 3 (drop 3 image) else puts_at at (drop at image))
    by_test true = (refl, acts_puts 3 (drop 3 image))
    by_test false = acts_puts at (drop at image)

acts_put : (image : List ℕ) (at : ℕ) → NoActs (next_put image at)
acts_put image at = by_test (left_from at image == 0)
  where
    by_test : (b : Bool) → NoActs (if b then [] else Put at (slice_index image at) ∷ [])
    by_test true = tt
    by_test false = (refl, tt)

none_bounced : (n k : ℕ) (s : State) (es : List Entry) → AreBounced n k s es → NoBegin (own k es)
none_bounced zero k s es h = subst (λ (l : List Entry). NoBegin (own k l)) (sym h) tt
none_bounced (suc n) k s es h =
    let b : IsBounced k (state s h.0) h.1 = h.4 in
    let last : NoBegin (own k h.1) = subst (λ (l : List Entry). NoBegin (own k l)) (sym b.is)
    (none_own k b.entering b.leaving (none_makes k (Enter ∷ []) b.entering (refl, tt) b.enters) (none_makes k (Leave ∷ []) b.leaving (refl, tt) b.leaves)) in
    subst (λ (l : List Entry). NoBegin (own k l)) (sym h.2) (none_own k h.0 h.1 (none_bounced n k s h.0 h.3) last)

none_attaches : (k : ℕ) (s : State) (es : List Entry) → Attaches k s es → NoBegin (own k es)
none_attaches k s es a =
    subst (λ (l : List Entry). NoBegin (own k l)) (sym a.is) (none_own k a.before a.last (none_bounced a.tries k s a.before a.bounced) (none_makes k (Enter ∷ []) a.last (refl, tt) a.enters))

-- a store

abbrev pub IsStore : Act → Type 0
IsStore (Swap w v) = Unit {0}
IsStore (Add w d) = Unit {0}
IsStore act = ⊥

store_begins : (act : Act) → IsStore act → is_begin act ≡ false
store_begins (Load w) h = refl
store_begins (Swap w v) h = refl
store_begins (Add w d) h = refl
store_begins Enter h = refl
store_begins Leave h = refl
store_begins Take h = refl
store_begins (Begin n) h = absurd h
store_begins (Put w v) h = refl
store_begins (End n) h = refl
store_begins Free h = refl

some_same : (a b : Act) → Some a ≡ Some b → a ≡ b
some_same a b e = cc

pub swap_stores : (words : List ℕ) (item : ℕ) (instance : _) (value : Written) (act : Act) → swap_of words item instance value ≡ Some act → IsStore act
swap_stores words item instance value act e = by_slot (slot_with words item instance) e
  where
    by_value : (slot : Slot) (o : Option ℕ) → option_map (Swap slot.word) o ≡ Some act → IsStore act
    by_value slot None e = absurd (cc)
    by_value slot (Some v) e = subst IsStore (some_same (Swap slot.word v) act e) tt

    by_slot : (o : Option Slot) → swap_into words o value ≡ Some act → IsStore act
    by_slot None e = absurd (cc)
    by_slot (Some slot) e = by_value slot (value_for words slot.kind value) e

pub add_stores : (words : List ℕ) (item : ℕ) (instance : _) (number : _) (act : Act) → add_of words item instance number ≡ Some act → IsStore act
add_stores words item instance number act e = by_slot (slot_with words item instance) e
  where
    by_kind : (slot : Slot) (b : Bool) → (if b then Some (Add slot.word (low_bits number)) else None) ≡ Some act → IsStore act
    by_kind slot true e = subst IsStore (some_same (Add slot.word (low_bits number)) act e) tt
    by_kind slot false e = absurd (cc)

    by_slot : (o : Option Slot) → add_into o number ≡ Some act → IsStore act
    by_slot None e = absurd (cc)
    by_slot (Some slot) e = by_kind slot (holds_number slot.kind) e

none_stores : (k : ℕ) (s : State) (what : List ℕ → Option Act) (es : List Entry) → ((words : List ℕ) (act : Act) → what words ≡ Some act → IsStore act) → Stores k s what es → NoBegin (own k es)
none_stores k s what es stores (inl h) =
    subst (λ (l : List Entry). NoBegin (own k l)) (sym h.last)
    (none_own k h.before (entry k h.act ∷ []) (none_loads (own k h.before) h.looks)
    (subst NoBegin (sym (own_mine (entry k h.act) [] k refl)) (store_begins h.act (stores (state s h.before).words h.act h.is), tt)))
none_stores k s what es stores (inr h) = none_loads (own k es) h.looks

-- One line

-- a line that begins a change, under the moment or one more generation
record BeginsLine (k : ℕ) (s : State) (es : List Entry) : Type 0 where
  before : List Entry
  n : ℕ
  last : es ≡ before ++ entry k (Begin n) ∷ []
  none : NoBegin (own k before)
  low : n ≤ max (2 ^ 63) (g1 (state s before) + 1)

-- the moments of changes, and their images
abbrev pub LineFits : (List ℕ → Type 0) → List (List ℕ × List ℕ) → Line → Type 0
LineFits P images (lines.Begin region pass image moment) = P (image_words images image) × (moment < 2 ^ 63)
LineFits P images line = Unit {0}

abbrev pub LinesFit : (List ℕ → Type 0) → List (List ℕ × List ℕ) → List Line → Type 0
LinesFit P images [] = Unit {0}
LinesFit P images (line ∷ more) = LineFits P images line × LinesFit P images more

begins_line : (k : ℕ) (s : State) (moment n : ℕ) (es : List Entry) → moment < 2 ^ 63 → IsBeginMade k s moment n es → BeginsLine k s es
begins_line k s moment n es below b = record {
  before = b.before;
  n = n;
  last = b.last;
  none = none_makes k (takes b.tries ++ (Take ∷ Load 1 ∷ [])) b.before (acts_join (takes b.tries) (Take ∷ Load 1 ∷ []) (acts_takes b.tries) (refl, (refl, tt))) b.makes;
  low = subst (λ (m : ℕ). m ≤ max (2 ^ 63) (g1 (state s b.before) + 1)) (sym b.generation) (smaller moment (g1 (state s b.before) + 1) below);
}
  where
    smaller : (a c : ℕ) → a < 2 ^ 63 → max a c ≤ max (2 ^ 63) c
    smaller a c h = grind (arith)

none_spends : (k : ℕ) (s : State) (es : List Entry) → Spends k s es → NoBegin (own k es)
none_spends k s es h =
    subst (λ (l : List Entry). NoBegin (own k l)) (sym h.last)
    (none_own k h.before (entry k Free ∷ [])
    (none_makes k (takes h.tries ++ (Take ∷ Load 1 ∷ [])) h.before (acts_join (takes h.tries) (Take ∷ Load 1 ∷ []) (acts_takes h.tries) (refl, (refl, tt))) h.makes)
    (subst NoBegin (sym (own_mine (entry k Free) [] k refl)) (refl, tt)))

abbrev LineOwn : ℕ → State → List Entry → Type 0
LineOwn k s es = NoBegin (own k es) ⊎ BeginsLine k s es

line_own : (P : List ℕ → Type 0) (images : List (List ℕ × List ℕ)) (k : ℕ) (s : State) (w : Writing) (line : Line) (es : List Entry) (next : Writing) → LineFits P images line → LineMakes images k s w line es next → LineOwn k s es
line_own P images k s w (lines.Attach r p) es next fits m = inl (none_attaches k s es m.1)
line_own P images k s w (lines.Detach r p) es next fits m = inl (none_makes k (Leave ∷ []) es (refl, tt) m.1)
line_own P images k s w (lines.Swap r p item instance value) es next fits m = inl (none_stores k s (λ words. swap_of words item instance value) es (λ words act. swap_stores words item instance value act) m.1)
line_own P images k s w (lines.Add r p item instance number) es next fits m = inl (none_stores k s (λ words. add_of words item instance number) es (λ words act. add_stores words item instance number act) m.1)
line_own P images k s w (lines.Begin r p image moment) es next fits m = by_way m.1
  where
    by_way : BeginsChange k s (image_words images image) moment es next → LineOwn k s es
    by_way (inl b) = inr (begins_line k s moment b.0 es fits.1 b.1)
    by_way (inr b) = inl (none_spends k s es b.0)
line_own P images k s (Writing.changing image n at) (lines.Step r p) es next fits m = inl (none_makes k (next_put image at) es (acts_put image at) m.0)
line_own P images k s Writing.refused (lines.Step r p) es next fits m = inl (none_makes k [] es tt m.0)
line_own P images k s Writing.idle (lines.Step r p) es next fits m = absurd m
line_own P images k s Writing.attached (lines.Step r p) es next fits m = absurd m
line_own P images k s (Writing.changing image n at) (lines.Finish r p) es next fits m = inl (none_makes k (change_acts at image n) es (acts_change at image n) m.0)
line_own P images k s Writing.refused (lines.Finish r p) es next fits m = inl (none_makes k [] es tt m.0)
line_own P images k s Writing.idle (lines.Finish r p) es next fits m = absurd m
line_own P images k s Writing.attached (lines.Finish r p) es next fits m = absurd m
line_own P images k s w (lines.Load r p) es next fits m = absurd m
line_own P images k s w (lines.Word r p index) es next fits m = absurd m
line_own P images k s w (lines.Done r p) es next fits m = absurd m
line_own P images k s w (lines.Tick stamp) es next fits m = absurd m
line_own P images k s w lines.Flush es next fits m = absurd m

-- How many, and under which generations

abbrev pub one_if : Bool → ℕ
one_if true = 1
one_if false = 0

abbrev pub begun : List Entry → ℕ
begun [] = 0
begun (e ∷ es) = one_if (is_begin e.act) + begun es

begun_join : (xs ys : List Entry) → begun (xs ++ ys) ≡ begun xs + begun ys
begun_join [] ys = omega arith
begun_join (x ∷ xs) ys = let more = begun_join xs ys in omega arith

begun_none : (xs : List Entry) → NoBegin xs → begun xs ≡ 0
begun_none [] h = refl
begun_none (x ∷ xs) h = let more = begun_none xs h.1 in let first : one_if (is_begin x.act) ≡ 0 = ap one_if h.0 in omega arith

begun_own : (k : ℕ) (xs ys : List Entry) → begun (own k (xs ++ ys)) ≡ begun (own k xs) + begun (own k ys)
begun_own k xs ys = ap begun (own-append k xs ys) ∙ begun_join (own k xs) (own k ys)

begun_line : (k : ℕ) (s : State) (es : List Entry) → LineOwn k s es → begun (own k es) ≤ 1
begun_line k s es (inl h) = let none = begun_none (own k es) h in omega arith
begun_line k s es (inr b) =
    let before = begun_none (own k b.before) b.none in
    let last : begun (own k (entry k (Begin b.n) ∷ [])) ≡ 1 = ap begun (own_mine (entry k (Begin b.n)) [] k refl) in
    let both = begun_own k b.before (entry k (Begin b.n) ∷ []) in
    let is : begun (own k es) ≡ begun (own k (b.before ++ entry k (Begin b.n) ∷ [])) = ap (λ (l : List Entry). begun (own k l)) b.last in
    omega arith

pub begun_lines : (P : List ℕ → Type 0) (images : List (List ℕ × List ℕ)) (k : ℕ) (s : State) (w : Writing) (own_lines : List Line) (es : List Entry) (last : Writing) → LinesFit P images own_lines → LinesMake images k s w own_lines es last
    → begun (own k es) ≤ length own_lines
begun_lines P images k s w [] es last fits m = let none : begun (own k es) ≡ 0 = ap (λ (l : List Entry). begun (own k l)) m.0 in omega arith
begun_lines P images k s w (line ∷ more) es last fits m =
    let first = begun_line k s m.0 (line_own P images k s w line m.0 m.2 fits.0 m.4) in
    let rest = begun_lines P images k (state s m.0) m.2 more m.1 last fits.1 m.5 in
    let both = begun_own k m.0 m.1 in
    let is : begun (own k es) ≡ begun (own k (m.0 ++ m.1)) = ap (λ (l : List Entry). begun (own k l)) m.3 in
    omega arith

-- each new generation of the pass is at most 2^63, or one more
abbrev pub Bounded : State → ℕ → List Entry → Type 0
Bounded s k [] = Unit {0}
Bounded s k (e ∷ es) = (e.by ≡ k → (n : ℕ) → e.act ≡ Begin n → n ≤ max (2 ^ 63) (g1 s + 1)) × Bounded (after s e.by e.act) k es

bounded_join : (s : State) (k : ℕ) (xs ys : List Entry) → Bounded s k xs → Bounded (state s xs) k ys → Bounded s k (xs ++ ys)
bounded_join s k [] ys a b = b
bounded_join s k (x ∷ xs) ys a b = (a.0, bounded_join (after s x.by x.act) k xs ys a.1 b)

bounded_none : (s : State) (k : ℕ) (es : List Entry) → NoBegin (own k es) → Bounded s k es
bounded_none s k [] h = tt
bounded_none s k (e ∷ es) h = dite (ℕ_discrete e.by k)
    (λ (same : e.by ≡ k).
    let both : NoBegin (e ∷ own k es) = subst NoBegin (own_mine e es k same) h in
    (λ q n begins. absurd (not_begin e.act n both.0 begins), bounded_none (after s e.by e.act) k es both.1))
    (λ (differ : e.by ≢ k). (λ q n begins. absurd (differ q), bounded_none (after s e.by e.act) k es (subst NoBegin (own_other e es k differ) h)))

bounded_line : (s : State) (k : ℕ) (es : List Entry) → LineOwn k s es → Bounded s k es
bounded_line s k es (inl h) = bounded_none s k es h
bounded_line s k es (inr b) =
    subst (λ (l : List Entry). Bounded s k l) (sym b.last)
    (bounded_join s k b.before (entry k (Begin b.n) ∷ []) (bounded_none s k b.before b.none)
    (λ q n begins. subst (λ (m : ℕ). m ≤ max (2 ^ 63) (g1 (state s b.before) + 1)) (begin_same b.n n begins) b.low, tt))
  where
    begin_same : (a c : ℕ) → Begin a ≡ Begin c → a ≡ c
    begin_same a c e = cc

pub bounded_lines : (P : List ℕ → Type 0) (images : List (List ℕ × List ℕ)) (k : ℕ) (s : State) (w : Writing) (own_lines : List Line) (es : List Entry) (last : Writing) → LinesFit P images own_lines → LinesMake images k s w own_lines es last
    → Bounded s k es
bounded_lines P images k s w [] es last fits m = subst (λ (l : List Entry). Bounded s k l) (sym m.0) tt
bounded_lines P images k s w (line ∷ more) es last fits m =
    subst (λ (l : List Entry). Bounded s k l) (sym m.3)
    (bounded_join s k m.0 m.1 (bounded_line s k m.0 (line_own P images k s w line m.0 m.2 fits.0 m.4)) (bounded_lines P images k (state s m.0) m.2 more m.1 last fits.1 m.5))

pub bounded_more : (s : State) (k : ℕ) (xs ys : List Entry) → Bounded s k xs → own k ys ≡ [] → Bounded s k (xs ++ ys)
bounded_more s k xs ys a none = bounded_join s k xs ys a (bounded_none (state s xs) k ys (subst NoBegin (sym none) tt))

-- What stands behind a beginning

module _ (P : List ℕ → Type 0) (k : ℕ) where
  -- behind the beginning of a change, the stores of an image and the end
  abbrev pub BeginsGood : Entry → List Entry → Type 0
  BeginsGood e es = (n : ℕ) → e.act ≡ Begin n → (image : List ℕ) × P image × (behind : List Entry) × (es ≡ map (λ (act : Act). entry k act) (change_acts 0 image n) ++ behind)

  abbrev pub Good : List Entry → Type 0
  Good [] = Unit {0}
  Good (e ∷ es) = BeginsGood e es × Good es

  good_none : (xs ys : List Entry) → NoBegin xs → Good ys → Good (xs ++ ys)
  good_none [] ys none good = good
  good_none (x ∷ xs) ys none good = (λ n same. absurd (not_begin x.act n none.0 same), good_none xs ys none.1 good)

  pub good_at : (xs : List Entry) (e : Entry) (ys : List Entry) → Good (xs ++ e ∷ ys) → BeginsGood e ys
  good_at [] e ys good = good.0
  good_at (x ∷ xs) e ys good = good_at xs e ys good.1

  abbrev OwnGood : Writing → List Entry → Type 0
  OwnGood Writing.idle es = Good es
  OwnGood Writing.attached es = Good es
  OwnGood (Writing.changing image n at) es = (behind : List Entry) × (es ≡ map (λ (act : Act). entry k act) (change_acts at image n) ++ behind) × Good behind
  OwnGood Writing.refused es = Good es

  good_line : (made rest : List Entry) → NoBegin (own k made) → Good (own k rest) → Good (own k (made ++ rest))
  good_line made rest none good = subst Good (sym (own-append k made rest)) (good_none (own k made) (own k rest) none good)

  step_acts : (image : List ℕ) (n at : ℕ) → next_put image at ++ change_acts (next_place image at) image n ≡ change_acts at image n
  step_acts image n at = by_test (left_from at image == 0) refl
    where
      by_test : (b : Bool) → (left_from at image == 0) ≡ b → (if b then [] else Put at (slice_index image at) ∷ []) ++ change_acts (if b then at else next_after at) image n ≡ change_acts at image n
      by_test true e = refl
      by_test false e = ap (λ (acts : List Act). acts ++ (End n ∷ Free ∷ [])) (sym (puts_next at image (some (left_from at image) e)))
        where
          some : (m : ℕ) → eqb m 0 ≡ false → 0 < m
          some zero e = absurd (cc)
          some (suc m) e = omega arith

  own_step : (image : List ℕ) (n at : ℕ) (made rest behind : List Entry) → Makes k (next_put image at) made → own k rest ≡ map (λ (act : Act). entry k act) (change_acts (next_place image at) image n) ++ behind
      → own k (made ++ rest) ≡ map (λ (act : Act). entry k act) (change_acts at image n) ++ behind
  own_step image n at made rest behind makes is =
      own-append k made rest
      ∙ (ap (λ (l : List Entry). l ++ own k rest) makes
      ∙ (ap (λ (l : List Entry). map (λ (act : Act). entry k act) (next_put image at) ++ l) is
      ∙ (sym (append_assoc (map (λ (act : Act). entry k act) (next_put image at)) (map (λ (act : Act). entry k act) (change_acts (next_place image at) image n)) behind)
      ∙ ap (λ (l : List Entry). l ++ behind) (sym (map-append (λ (act : Act). entry k act) (next_put image at) (change_acts (next_place image at) image n)) ∙ ap (λ (acts : List Act). map (λ (act : Act). entry k act) acts) (step_acts image n at)))))

  good_begins : (s : State) (image : List ℕ) (moment n : ℕ) (made rest : List Entry) → P image → IsBeginMade k s moment n made → OwnGood (Writing.changing image n 0) (own k rest) → Good (own k (made ++ rest))
  good_begins s image moment n made rest is b good =
      let none : NoBegin (own k b.before) = none_makes k (takes b.tries ++ (Take ∷ Load 1 ∷ [])) b.before (acts_join (takes b.tries) (Take ∷ Load 1 ∷ []) (acts_takes b.tries) (refl, (refl, tt))) b.makes in
      let more : Good (own k rest) = subst Good (sym good.1) (good_none (map (λ (act : Act). entry k act) (change_acts 0 image n)) good.0 (none_acts k (change_acts 0 image n) (acts_change 0 image n)) good.2) in
      let here : Good (entry k (Begin n) ∷ own k rest) =
      (λ m same. (image, is, good.0, good.1 ∙ ap (λ (x : ℕ). map (λ (act : Act). entry k act) (change_acts 0 image x) ++ good.0) (begin_same n m same)), more) in
      let whole : own k (made ++ rest) ≡ own k b.before ++ (entry k (Begin n) ∷ own k rest) =
      own-append k made rest ∙ (ap (λ (l : List Entry). own k l ++ own k rest) b.last
      ∙ (ap (λ (l : List Entry). l ++ own k rest) (own-mine k b.before (Begin n)) ∙ append_assoc (own k b.before) (entry k (Begin n) ∷ []) (own k rest))) in
      subst Good (sym whole) (good_none (own k b.before) (entry k (Begin n) ∷ own k rest) none here)
    where
      begin_same : (a c : ℕ) → Begin a ≡ Begin c → a ≡ c
      begin_same a c e = cc

  module _ (images : List (List ℕ × List ℕ)) where
    good_change : (s : State) (w : Writing) (image moment : ℕ) (made : List Entry) (next : Writing) (rest : List Entry) → P (image_words images image) → w ≡ Writing.idle → BeginsChange k s (image_words images image) moment made next
        → OwnGood next (own k rest) → OwnGood w (own k (made ++ rest))
    good_change s w image moment made next rest is idle (inl b) good =
        subst (λ (v : Writing). OwnGood v (own k (made ++ rest))) (sym idle) (good_begins s (image_words images image) moment b.0 made rest is b.1 (subst (λ (v : Writing). OwnGood v (own k rest)) b.2 good))
    good_change s w image moment made next rest is idle (inr b) good =
        subst (λ (v : Writing). OwnGood v (own k (made ++ rest))) (sym idle) (good_line made rest (none_spends k s made b.0) (subst (λ (v : Writing). OwnGood v (own k rest)) b.1 good))

    good_step : (w : Writing) (made : List Entry) (next : Writing) (rest : List Entry) → StepsOn k w made next → OwnGood next (own k rest) → OwnGood w (own k (made ++ rest))
    good_step (Writing.changing image n at) made next rest m good =
        let g : OwnGood (Writing.changing image n (next_place image at)) (own k rest) = subst (λ (v : Writing). OwnGood v (own k rest)) m.1 good in
        (g.0, own_step image n at made rest g.0 m.0 g.1, g.2)
    good_step Writing.refused made next rest m good = good_line made rest (none_makes k [] made tt m.0) (subst (λ (v : Writing). OwnGood v (own k rest)) m.1 good)
    good_step Writing.idle made next rest m good = absurd m
    good_step Writing.attached made next rest m good = absurd m

    good_finish : (w : Writing) (made : List Entry) (next : Writing) (rest : List Entry) → Finishes k w made next → OwnGood next (own k rest) → OwnGood w (own k (made ++ rest))
    good_finish (Writing.changing image n at) made next rest m good =
        (own k rest, own-append k made rest ∙ ap (λ (l : List Entry). l ++ own k rest) m.0, subst (λ (v : Writing). OwnGood v (own k rest)) m.1 good)
    good_finish Writing.refused made next rest m good = good_line made rest (none_makes k [] made tt m.0) (subst (λ (v : Writing). OwnGood v (own k rest)) m.1 good)
    good_finish Writing.idle made next rest m good = absurd m
    good_finish Writing.attached made next rest m good = absurd m

    good_made : (s : State) (w : Writing) (line : Line) (made : List Entry) (next : Writing) (rest : List Entry) → LineFits P images line → LineMakes images k s w line made next → OwnGood next (own k rest) → OwnGood w (own k (made ++ rest))
    good_made s w (lines.Attach r p) made next rest fits m good =
        subst (λ (v : Writing). OwnGood v (own k (made ++ rest))) (sym m.0) (good_line made rest (none_attaches k s made m.1) (subst (λ (v : Writing). OwnGood v (own k rest)) m.2 good))
    good_made s w (lines.Detach r p) made next rest fits m good =
        subst (λ (v : Writing). OwnGood v (own k (made ++ rest))) (sym m.0) (good_line made rest (none_makes k (Leave ∷ []) made (refl, tt) m.1) (subst (λ (v : Writing). OwnGood v (own k rest)) m.2 good))
    good_made s w (lines.Swap r p item instance value) made next rest fits m good =
        subst (λ (v : Writing). OwnGood v (own k (made ++ rest))) (sym m.0)
        (good_line made rest (none_stores k s (λ words. swap_of words item instance value) made (λ words act. swap_stores words item instance value act) m.1) (subst (λ (v : Writing). OwnGood v (own k rest)) m.2 good))
    good_made s w (lines.Add r p item instance number) made next rest fits m good =
        subst (λ (v : Writing). OwnGood v (own k (made ++ rest))) (sym m.0)
        (good_line made rest (none_stores k s (λ words. add_of words item instance number) made (λ words act. add_stores words item instance number act) m.1) (subst (λ (v : Writing). OwnGood v (own k rest)) m.2 good))
    good_made s w (lines.Begin r p image moment) made next rest fits m good = good_change s w image moment made next rest fits.0 m.0 m.1 good
    good_made s w (lines.Step r p) made next rest fits m good = good_step w made next rest m good
    good_made s w (lines.Finish r p) made next rest fits m good = good_finish w made next rest m good
    good_made s w (lines.Load r p) made next rest fits m good = absurd m
    good_made s w (lines.Word r p index) made next rest fits m good = absurd m
    good_made s w (lines.Done r p) made next rest fits m good = absurd m
    good_made s w (lines.Tick stamp) made next rest fits m good = absurd m
    good_made s w lines.Flush made next rest fits m good = absurd m

    -- the own entries of lines that end idle
    pub good_lines : (s : State) (w : Writing) (own_lines : List Line) (es : List Entry) → LinesFit P images own_lines → LinesMake images k s w own_lines es Writing.idle → OwnGood w (own k es)
    good_lines s w [] es fits m = subst (λ (v : Writing). OwnGood v (own k es)) m.1 (subst (λ (l : List Entry). Good (own k l)) (sym m.0) tt)
    good_lines s w (line ∷ more) es fits m =
        subst (λ (l : List Entry). OwnGood w (own k l)) (sym m.3) (good_made s w line m.0 m.2 m.1 fits.0 m.4 (good_lines (state s m.0) m.2 more m.1 fits.1 m.5))
