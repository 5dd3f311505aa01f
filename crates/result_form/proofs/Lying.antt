-- Where the blocks lie of a payload that was read, and how a walk takes them one by one.
use Rattle.std.proofs.Common.{◌≡◌, ℕ, ℤ, zero, suc, ◌+◌, ◌-◌, ◌*◌, ◌%◌, ◌<◌, ◌≤◌, Bool, true, false, cond, eqb, max, List, ◌∷◌, length, drop, refl, sym, ap, ◌∙◌, subst, arith, inl, inr}
use Rattle.std.specs.Int.{w32}
use Rattle.std.proofs.lemmas.Bool.{eqb-false, ne_eqb}
use Rattle.std.proofs.lemmas.List.{drop-drop}
use Rattle.pcp_base.specs.Fields.{number_at}
use Rattle.pcp_model.specs.Payload.{offset_byte}
use Rattle.result_form.specs.Faults.{IsStatus, HasValues, HasMode, HasBlocks, pairs_end, SetStands, block_begin, LeadsIn, IsWhole, PairsReach, SetReaches, SetsReach}
use Rattle.result_form.specs.Shown.{word_in, is_status, set_size}
use Rattle.result_form.specs.Lying.{BlockLies, PairsLie, SetLies, SetsLie}
use Rattle.result_form.proofs.Again.{low_test, high_test}
use Rattle.result_form.proofs.Reaches.{values_of}
use Rattle.result_form.proofs.ShownWords.{word_whole, word_left}

-- ---- what reading reached lies there

block_lies : (bytes : List ℕ) (end at offset : ℕ) → LeadsIn bytes end at → IsWhole bytes at → offset ≡ number_at bytes (at + 4) → BlockLies bytes end offset
block_lies bytes end at offset leads whole is =
    let begin : offset_byte offset ≡ block_begin bytes at = ap offset_byte is in
    let head : word_in bytes (block_begin bytes at) ≡ number_at bytes (block_begin bytes at) = word_whole bytes (block_begin bytes at) leads.1 in
    subst (BlockLies bytes end) (sym is) (leads.0, subst (λ n. 4 ≤ n % 16777216) (sym head) whole.0, subst (λ n. block_begin bytes at + n % 16777216 ≤ length bytes) (sym head) (omega (arith, whole.1)))

pub pairs_lie : (bytes : List ℕ) (end n at before far : ℕ) → at + 8 * n ≤ length bytes → PairsReach bytes end n at before far → PairsLie bytes end n (drop at bytes)
unfolding PairsLie
pairs_lie bytes end zero at before far room all = tt
pairs_lie bytes end (suc n) at before far room all = (
  block_lies bytes end at (word_in (drop at bytes) 4) all.0 all.1 (word_left bytes at 4 (at + 4) refl (omega arith)),
  subst (PairsLie bytes end n) (sym (drop-drop 8 at bytes)) (pairs_lie bytes end n (at + 8) _ far (omega arith) all.2),
)

module _ (bytes : List ℕ) (at : ℕ) where
  count_is : at + 8 ≤ length bytes → word_in (drop at bytes) 4 ≡ number_at bytes (at + 4)
  count_is h = word_left bytes at 4 (at + 4) refl (omega arith)

  mode_is : at + 12 ≤ length bytes → word_in (drop at bytes) 8 ≡ number_at bytes (at + 8)
  mode_is h = word_left bytes at 8 (at + 8) refl (omega arith)

  size_status : at + 8 ≤ length bytes → IsStatus (number_at bytes (at + 4)) → set_size (drop at bytes) ≡ 8
  unfolding set_size
  size_status h s = ap (λ k. cond (is_status k) 8 (12 + 8 * k)) (count_is h) ∙ ap (λ b. cond b 8 (12 + 8 * number_at bytes (at + 4))) (low_test _ s)

  size_pairs : HasMode bytes at → set_size (drop at bytes) ≡ 12 + 8 * number_at bytes (at + 4)
  unfolding set_size
  size_pairs m =
      let room : at + 12 ≤ length bytes = m.1 in
      ap (λ k. cond (is_status k) 8 (12 + 8 * k)) (count_is (omega arith)) ∙ ap (λ b. cond b 8 (12 + 8 * number_at bytes (at + 4))) (high_test _ m.0.1 m.0.2)

  size_is : (next : ℕ) → SetStands bytes at next → at + set_size (drop at bytes) ≡ next
  size_is next (inl s) = omega (arith, s.0, size_status s.1 s.2)
  size_is next (inr p) = omega (arith, p.0, size_pairs p.1)

  abbrev set_lies : ℕ → ℕ → Type 0
  set_lies end n = is_status n ≡ false → eqb (word_in (drop at bytes) 8) 0 ≡ false → PairsLie bytes end n (drop 12 (drop at bytes))

  status_lies : (end : ℕ) → at + 8 ≤ length bytes → IsStatus (number_at bytes (at + 4)) → SetLies bytes end (drop at bytes)
  unfolding SetLies
  status_lies end h s = λ high. absurd (true_false (sym (ap is_status (count_is h) ∙ low_test _ s) ∙ high))
    where
      true_false : ◌≡◌ {A = Bool} true false → ⊥
      true_false e = absurd cc

  pairs_say : (end before mid : ℕ) → HasMode bytes at → pairs_end bytes at ≤ length bytes → SetReaches bytes end at before mid → SetLies bytes end (drop at bytes)
  unfolding SetLies
  pairs_say end before mid m whole reaches = λ high second. by reaches second
    where
      room : at + 12 ≤ length bytes
      room = m.1

      many : word_in (drop at bytes) 4 ≡ number_at bytes (at + 4)
      many = count_is (omega arith)

      by : SetReaches bytes end at before mid → eqb (word_in (drop at bytes) 8) 0 ≡ false → PairsLie bytes end (word_in (drop at bytes) 4) (drop 12 (drop at bytes))
      by (inl b) second = subst (λ n. PairsLie bytes end n (drop 12 (drop at bytes))) (sym many)
          (subst (PairsLie bytes end (number_at bytes (at + 4))) (sym (drop-drop 12 at bytes)) (pairs_lie bytes end (number_at bytes (at + 4)) (at + 12) before mid whole b.1))
      by (inr none) second =
          let other : number_at bytes (at + 8) ≡ 0 → ⊥ = eqb-false _ 0 (ap (λ k. eqb k 0) (sym (mode_is room)) ∙ second) in
          let low : number_at bytes (at + 8) < 2 = m.2 in
          absurd (none.0 (m.0, omega arith))

  pub set_says : (end before mid next : ℕ) → SetStands bytes at next → SetReaches bytes end at before mid → SetLies bytes end (drop at bytes)
  set_says end before mid next (inl s) reaches = status_lies end s.1 s.2
  set_says end before mid next (inr p) reaches = pairs_say end before mid p.1 p.2 reaches

pub sets_lie : (bytes : List ℕ) (end n at before far : ℕ) → SetsReach bytes end n at before far → SetsLie bytes end n (drop at bytes)
unfolding SetsLie
sets_lie bytes end zero at before far all = tt
sets_lie bytes end (suc n) at before far all =
    let left : drop (set_size (drop at bytes)) (drop at bytes) ≡ drop all.0 bytes = drop-drop (set_size (drop at bytes)) at bytes ∙ ap (λ k. drop k bytes) (size_is bytes at all.0 all.2) in (
      set_says bytes at end before all.1 all.0 all.2 all.3,
      subst (SetsLie bytes end n) (sym left) (sets_lie bytes end n all.0 all.1 far all.4),
    )

-- ---- one by one, as a walk takes them

pub pairs_go_on : (bytes : List ℕ) (end count i : ℕ) (words rest : List ℕ) → i < count → rest ≡ drop 8 words → PairsLie bytes end (count - i) words
    → BlockLies bytes end (word_in words 4) × PairsLie bytes end (count - (i + 1)) rest
unfolding PairsLie
pairs_go_on bytes end count i words rest lt is all =
    let k : count - i ≡ suc (count - (i + 1)) = omega arith in
    let whole : PairsLie bytes end (suc (count - (i + 1))) words = subst (λ n. PairsLie bytes end n words) k all in
    (whole.0, subst (PairsLie bytes end (count - (i + 1))) (sym is) whole.1)

pub sets_go_on : (bytes : List ℕ) (end count i : ℕ) (words rest : List ℕ) → i < count → rest ≡ drop (set_size words) words → SetsLie bytes end (count - i) words
    → SetLies bytes end words × SetsLie bytes end (count - (i + 1)) rest
unfolding SetsLie
sets_go_on bytes end count i words rest lt is all =
    let k : count - i ≡ suc (count - (i + 1)) = omega arith in
    let whole : SetsLie bytes end (suc (count - (i + 1))) words = subst (λ n. SetsLie bytes end n words) k all in
    (whole.0, subst (SetsLie bytes end (count - (i + 1))) (sym is) whole.1)

pub body_lies : (bytes : List ℕ) (end n mode : ℕ) (words pairs : List ℕ) → n ≡ word_in words 4 → is_status n ≡ false → mode ≡ word_in words 8 → (mode ≡ 0 → ⊥) → pairs ≡ drop 12 words → SetLies bytes end words
    → PairsLie bytes end n pairs
unfolding SetLies
body_lies bytes end n mode words pairs many high second other is lies =
    let low : eqb (word_in words 8) 0 ≡ false = ap (λ m. eqb m 0) (sym second) ∙ ne_eqb mode 0 other in
    let all : PairsLie bytes end (word_in words 4) (drop 12 words) = lies (ap is_status (sym many) ∙ high) low in
    subst (PairsLie bytes end n) (sym is) (subst (λ m. PairsLie bytes end m (drop 12 words)) (sym many) all)
