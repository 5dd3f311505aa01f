-- What a word holds after each act.
use Rattle.std.proofs.Common.{◌≡◌, ◌≢◌, ℕ, zero, suc, ◌+◌, ◌%◌, ◌^◌, ◌<◌, Bool, true, false, if◌then◌else◌, eqb, eqb-true, List, [], ◌∷◌, length, set, slice_index, get_or-set_same, get_or-set_other, sym, refl, ap, ◌∙◌, subst, arith}
use Rattle.std.specs.Prelude.{Some, None, unwrap_or}
use borrow.Author.Tests.{eqb-false}
use Rattle.region_core.specs.declared.act.Act.{Act}
use Rattle.region_core.specs.declared.act.Act.TheVariants.{Load, Swap, Add, Enter, Leave, Take, Begin, Put, End, Free}
use Rattle.region_core.specs.declared.act.Entry.{Entry}
use Rattle.region_core.specs.Journal.{state, IsLegal, IsJournal}
use Rattle.region_core.specs.Shape.{Shaping, IsWord}
use Rattle.region_core.specs.State.{State, word, plus, after, opening, after_take, IsAllowed}
use Rattle.region_core.proofs.Runs.{wide_run}
use Rattle.region_rule.proofs.Places.{all_words, word_of}
use Rattle.region_rule.proofs.Relaying.{fit_run}
use Rattle.record_run.specs.Sums.{stored_by, added_by, stored_last_in, sum_after, added_since, IsSum}

abbrev Same : ℕ → ℕ → Type 0
Same a b = a % 2 ^ 64 ≡ b % 2 ^ 64

-- where no act stores
kept : (x opened sum : ℕ) → Same x (opened + sum) → Same x (opened + (sum + 0))
kept x opened sum h = omega arith

stored : (words : List ℕ) (u w v opened sum : ℕ) → w < length words → Same (slice_index words w) (opened + sum) → (b : Bool) → eqb u w ≡ b
    → Same (slice_index (set words u v) w) (unwrap_or (if b then Some v else None) opened + sum_after (if b then Some v else None) (sum + 0))
stored words u w v opened sum below h true e =
    let same : u ≡ w = eqb-true u w e in
    let is : slice_index (set words u v) w ≡ v = ap (λ (n : ℕ). slice_index (set words n v) w) same ∙ get_or-set_same words w v 0 below in
    omega arith
stored words u w v opened sum below h false e =
    let differ : u ≢ w = eqb-false u w e in
    let is : slice_index (set words u v) w ≡ slice_index words w = get_or-set_other words u w v 0 (λ (same : w ≡ u). differ (sym same)) in
    omega arith

added : (words : List ℕ) (u w d opened sum : ℕ) → w < length words → Same (slice_index words w) (opened + sum) → (b : Bool) → eqb u w ≡ b
    → Same (slice_index (set words u (plus (slice_index words u) d)) w) (opened + (sum + (if b then d else 0)))
added words u w d opened sum below h true e =
    let same : u ≡ w = eqb-true u w e in
    let is : slice_index (set words u (plus (slice_index words u) d)) w ≡ plus (slice_index words w) d =
    ap (λ (n : ℕ). slice_index (set words n (plus (slice_index words n) d)) w) same ∙ get_or-set_same words w (plus (slice_index words w) d) 0 below in
    omega arith
added words u w d opened sum below h false e =
    let differ : u ≢ w = eqb-false u w e in
    let is : slice_index (set words u (plus (slice_index words u) d)) w ≡ slice_index words w = get_or-set_other words u w (plus (slice_index words u) d) 0 (λ (same : w ≡ u). differ (sym same)) in
    omega arith

-- one act
summed_after : (s : State) (k w opened sum : ℕ) (act : Act) → w < length s.words → Same (word s w) (opened + sum)
    → Same (word (after s k act) w) (unwrap_or (stored_by w act) opened + sum_after (stored_by w act) (sum + added_by w act))
summed_after s k w opened sum (Load u) below h = kept (word s w) opened sum h
summed_after s k w opened sum (Swap u v) below h = stored s.words u w v opened sum below h (eqb u w) refl
summed_after s k w opened sum (Add u d) below h = added s.words u w d opened sum below h (eqb u w) refl
summed_after s k w opened sum Enter below h = kept (word s w) opened sum h
summed_after s k w opened sum Leave below h = kept (word s w) opened sum h
summed_after s k w opened sum Take below h = kept (word s w) opened sum h
summed_after s k w opened sum (Begin n) below h = stored s.words 1 w n opened sum below h (eqb 1 w) refl
summed_after s k w opened sum (Put u v) below h = stored s.words u w v opened sum below h (eqb u w) refl
summed_after s k w opened sum (End n) below h = stored s.words 2 w n opened sum below h (eqb 2 w) refl
summed_after s k w opened sum Free below h = kept (word s w) opened sum h

-- all of them
summed : (s : State) (w opened sum : ℕ) (es : List Entry) → w < length s.words → Same (word s w) (opened + sum) → Same (word (state s es) w) (stored_last_in w opened es + added_since w sum es)
summed s w opened sum [] below h = h
summed s w opened sum (e ∷ es) below h =
    let wide = wide_run s (e ∷ []) in
    summed (after s e.by e.act) w (unwrap_or (stored_by w e.act) opened) (sum_after (stored_by w e.act) (sum + added_by w e.act)) es (omega arith) (summed_after s e.by w opened sum e.act below h)

-- Each word stays one of 64 bits

abbrev pub AreWords : State → Type 0
AreWords s = (u : ℕ) → IsWord (word s u)

module _ (S : Shaping) where
  pub words_run : (s : State) (es : List Entry) → IsLegal S s es → AreWords s → AreWords (state s es)
  words_run s es l h u = word_of (state s es).words u (fit_run S s es (all_words s.words h) l)

  pub is_sum : (words : List ℕ) (passes : ℕ) (log : List Entry) (w : ℕ) → IsJournal S words passes log → w < length words → IsSum (opening words passes) log w
  is_sum words passes log w journal below =
      let s : State = opening words passes in
      let modulo : Same (word (state s log) w) (stored_last_in w (word s w) log + added_since w 0 log) = summed s w (word s w) 0 log below (start_same (word s w)) in
      record {
        modulo = modulo;
        exact = λ words_are. small (word (state s log) w) (stored_last_in w (word s w) log + added_since w 0 log) (words_run s log journal.legal words_are w) modulo;
      }
    where
      start_same : (n : ℕ) → Same n (n + 0)
      start_same n = omega arith

      small : (n m : ℕ) → IsWord n → Same n m → n ≡ m % 2 ^ 64
      small n m fits e = omega arith
