-- What reading comes to, case by case: words, sets, pairs and their blocks.
use Rattle.std.proofs.Common.{◌≡◌, ℕ, ℤ, zero, suc, ◌+◌, ◌-◌, ◌*◌, ◌/◌, ◌%◌, ◌<◌, ◌≤◌, Bool, true, false, cond, ltb, eqb, leb, List, length, Some, None, Result, Ok, Err, refl, ap, ◌∙◌, arith, inl, inr}
use Rattle.std.specs.Prelude.{◌⊎◌, ◌||◌}
use Rattle.std.specs.Int.{w32, cast_signed}
use Rattle.std.proofs.lemmas.Bool.{lt-ltb, le-ltb, ne_eqb}
use Rattle.pcp_base.specs.Fields.{number_at}
use Rattle.pcp_base.specs.Typed.{TypedBytes}
use Rattle.result_form.specs.declared.fault.FormFault.{FormFault}
use Rattle.result_form.specs.declared.fault.FormFault.TheVariants.{Short, Mode, Offset, Block}
use Rattle.result_form.specs.Counts.{Run, Counted}
use Rattle.result_form.specs.Decoding.{◌>>=◌, or_short, word_at, word_below, run_at, counted_at, run_end, end_of, set_end, pair_at, block_of_head, padded_size, block_at, offset_block, offset_pair}
use Rattle.result_form.specs.Faults.{IsStatus, HasValues, HasMode, pairs_end, block_begin, block_end, LeadsIn, IsWhole}
use Rattle.result_form.proofs.Again.{low_test, high_test}

abbrev pub done : {A : Type 0} → A → Result A FormFault
done x = Ok x

abbrev pub failed : (A : Type 0) → FormFault → Result A FormFault
failed A e = Err e

-- ---- words

pub word_stands : (bytes : List ℕ) (at : ℕ) → at + 4 ≤ length bytes → word_at bytes at ≡ Ok (number_at bytes at)
word_stands bytes at h = ap (λ b. or_short at (cond b None (Some (number_at bytes at)))) (le-ltb _ _ h)

pub word_ends : (bytes : List ℕ) (at : ℕ) → length bytes < at + 4 → word_at bytes at ≡ Err (Short at)
word_ends bytes at h = ap (λ b. or_short at (cond b None (Some (number_at bytes at)))) (lt-ltb _ _ h)

pub below_stands : (bytes : List ℕ) (at bound : ℕ) (e : FormFault) → at + 4 ≤ length bytes → number_at bytes at < bound → word_below bytes at bound e ≡ Ok (number_at bytes at)
below_stands bytes at bound e h low =
    ap (λ r. r >>= λ n. cond (ltb n bound) (Ok n) (Err e)) (word_stands bytes at h)
    ∙ ap (λ b. cond b (done (number_at bytes at)) (Err e)) (lt-ltb _ _ low)

pub below_ends : (bytes : List ℕ) (at bound : ℕ) (e : FormFault) → length bytes < at + 4 → word_below bytes at bound e ≡ Err (Short at)
below_ends bytes at bound e h = ap (λ r. r >>= λ n. cond (ltb n bound) (Ok n) (Err e)) (word_ends bytes at h)

pub below_fails : (bytes : List ℕ) (at bound : ℕ) (e : FormFault) → at + 4 ≤ length bytes → bound ≤ number_at bytes at → word_below bytes at bound e ≡ Err e
below_fails bytes at bound e h high =
    ap (λ r. r >>= λ n. cond (ltb n bound) (Ok n) (Err e)) (word_stands bytes at h)
    ∙ ap (λ b. cond b (done (number_at bytes at)) (Err e)) (le-ltb _ _ high)

-- ---- a set's words

module _ (bytes : List ℕ) (at : ℕ) where
  abbrev behind : Result Counted FormFault → Result ℕ FormFault
  behind r = r >>= λ body. end_of bytes (at + 4) body

  pub ends_in_metric : length bytes < at + 4 → set_end bytes at ≡ Err (Short at)
  unfolding set_end
  ends_in_metric h = ap (λ r. r >>= λ pmid. behind (counted_at bytes (at + 4))) (word_ends bytes at h)

  metric_stands : at + 4 ≤ length bytes → set_end bytes at ≡ behind (counted_at bytes (at + 4))
  unfolding set_end
  metric_stands h = ap (λ r. r >>= λ pmid. behind (counted_at bytes (at + 4))) (word_stands bytes at h)

  abbrev counts : Result ℕ FormFault → Result Counted FormFault
  counts r = r >>= λ m. cond (eqb m 0 || leb 2147483648 m) (Ok (Counted.Status (cast_signed w32 m))) (run_at bytes (at + 4 + 4) m)

  pub ends_in_number : at + 4 ≤ length bytes → length bytes < at + 8 → set_end bytes at ≡ Err (Short (at + 4))
  unfolding counted_at
  ends_in_number h g = metric_stands h ∙ ap (λ r. behind (counts r)) (word_ends bytes (at + 4) (omega arith))

  number_stands : at + 8 ≤ length bytes → counted_at bytes (at + 4) ≡ cond (eqb (number_at bytes (at + 4)) 0 || leb 2147483648 (number_at bytes (at + 4))) (Ok (Counted.Status (cast_signed w32 (number_at bytes (at + 4))))) (run_at bytes (at + 4 + 4) (number_at bytes (at + 4)))
  unfolding counted_at
  number_stands h = ap counts (word_stands bytes (at + 4) (omega arith))

  pub counts_status : at + 8 ≤ length bytes → IsStatus (number_at bytes (at + 4)) → counted_at bytes (at + 4) ≡ Ok (Counted.Status (cast_signed w32 (number_at bytes (at + 4))))
  counts_status h s =
      number_stands h
      ∙ ap (λ b. cond b (Ok (Counted.Status (cast_signed w32 (number_at bytes (at + 4))))) (run_at bytes (at + 4 + 4) (number_at bytes (at + 4)))) (low_test (number_at bytes (at + 4)) s)

  pub is_status : at + 8 ≤ length bytes → IsStatus (number_at bytes (at + 4)) → set_end bytes at ≡ Ok (at + 8)
  is_status h s = metric_stands (omega arith) ∙ ap behind (counts_status h s) ∙ ap done (let e : at + 4 + 4 ≡ at + 8 = omega arith in e)

  counts_values : HasValues bytes at → counted_at bytes (at + 4) ≡ run_at bytes (at + 4 + 4) (number_at bytes (at + 4))
  counts_values v =
      number_stands v.0
      ∙ ap (λ b. cond b (Ok (Counted.Status (cast_signed w32 (number_at bytes (at + 4))))) (run_at bytes (at + 4 + 4) (number_at bytes (at + 4)))) (high_test (number_at bytes (at + 4)) v.1 v.2)

  has_values : HasValues bytes at → set_end bytes at ≡ behind (run_at bytes (at + 4 + 4) (number_at bytes (at + 4)))
  has_values v = metric_stands (let h : at + 8 ≤ length bytes = v.0 in omega arith) ∙ ap behind (counts_values v)

  abbrev pub run_made : ℕ → Run
  run_made m = record { from = at + 4 + 4 + 4; count = m }

  abbrev modes : ℕ → Result ℕ FormFault → Result Counted FormFault
  modes m r = r >>= λ mode. cond (eqb mode 0) (Ok (Counted.InPlace (run_made m))) (cond (eqb mode 1) (Ok (Counted.Blocks (run_made m))) (Err (Mode (at + 4 + 4))))

  same_eight : at + 4 + 4 ≡ at + 8
  same_eight = omega arith

  pub ends_in_mode : HasValues bytes at → length bytes < at + 12 → set_end bytes at ≡ Err (Short (at + 8))
  unfolding run_at
  ends_in_mode v h =
      has_values v ∙ ap (λ r. behind (modes (number_at bytes (at + 4)) r)) (word_ends bytes (at + 4 + 4) (omega arith))
      ∙ ap (λ k. failed ℕ (Short k)) same_eight

  mode_read : at + 12 ≤ length bytes → run_at bytes (at + 4 + 4) (number_at bytes (at + 4)) ≡ modes (number_at bytes (at + 4)) (Ok (number_at bytes (at + 8)))
  unfolding run_at
  mode_read h =
      ap (modes (number_at bytes (at + 4))) (word_stands bytes (at + 4 + 4) (omega arith))
      ∙ ap (λ k. modes (number_at bytes (at + 4)) (Ok (number_at bytes k))) same_eight

  pub counts_in_place : HasValues bytes at → at + 12 ≤ length bytes → number_at bytes (at + 8) ≡ 0 → counted_at bytes (at + 4) ≡ Ok (Counted.InPlace (run_made (number_at bytes (at + 4))))
  counts_in_place v h e = counts_values v ∙ mode_read h ∙ ap (λ m. modes (number_at bytes (at + 4)) (Ok m)) e

  pub counts_blocks : HasValues bytes at → at + 12 ≤ length bytes → number_at bytes (at + 8) ≡ 1 → counted_at bytes (at + 4) ≡ Ok (Counted.Blocks (run_made (number_at bytes (at + 4))))
  counts_blocks v h e = counts_values v ∙ mode_read h ∙ ap (λ m. modes (number_at bytes (at + 4)) (Ok m)) e

  mode_stands : HasValues bytes at → at + 12 ≤ length bytes → set_end bytes at ≡ behind (modes (number_at bytes (at + 4)) (Ok (number_at bytes (at + 8))))
  mode_stands v h = has_values v ∙ ap behind (mode_read h)

  pub is_bad_mode : HasValues bytes at → at + 12 ≤ length bytes → 2 ≤ number_at bytes (at + 8) → set_end bytes at ≡ Err (Mode (at + 8))
  is_bad_mode v h bad =
      mode_stands v h
      ∙ ap (λ b. behind (cond b (Ok (Counted.InPlace (run_made (number_at bytes (at + 4))))) (cond (eqb (number_at bytes (at + 8)) 1) (Ok (Counted.Blocks (run_made (number_at bytes (at + 4))))) (Err (Mode (at + 4 + 4)))))) (ne_eqb _ _ (λ (e : number_at bytes (at + 8) ≡ 0). omega arith))
      ∙ ap (λ b. behind (cond b (Ok (Counted.Blocks (run_made (number_at bytes (at + 4))))) (Err (Mode (at + 4 + 4))))) (ne_eqb _ _ (λ (e : number_at bytes (at + 8) ≡ 1). omega arith))
      ∙ ap (λ k. failed ℕ (Mode k)) same_eight

  -- where its pairs end, in place or not
  pairs_follow : HasMode bytes at → set_end bytes at ≡ run_end bytes (run_made (number_at bytes (at + 4)))
  pairs_follow m = mode_stands m.0 m.1 ∙ by (number_at bytes (at + 8)) m.2
    where
      by : (mode : ℕ) → mode < 2 → behind (modes (number_at bytes (at + 4)) (Ok mode)) ≡ run_end bytes (run_made (number_at bytes (at + 4)))
      by zero low = refl
      by (suc zero) low = refl
      by (suc (suc k)) low = absurd (omega arith)

  same_twelve : at + 4 + 4 + 4 ≡ at + 12
  same_twelve = omega arith

  run_by : (from count : ℕ) → from ≡ at + 12 → count ≡ number_at bytes (at + 4) → 0 < count → length bytes < pairs_end bytes at
      → run_end bytes (record { from = from; count = count }) ≡ Err (Short (at + 12 + (length bytes - (at + 12)) / 4 * 4))
  run_by from count e f some h =
      ap (λ b. cond b (failed ℕ (Short (from + (length bytes - from) / 4 * 4))) (Ok (from + 8 * count))) (lt-ltb ((length bytes - from) / 8) count (omega arith))
      ∙ ap (λ k. failed ℕ (Short (k + (length bytes - k) / 4 * 4))) e

  run_whole : (from count : ℕ) → from ≡ at + 12 → count ≡ number_at bytes (at + 4) → pairs_end bytes at ≤ length bytes
      → run_end bytes (record { from = from; count = count }) ≡ Ok (pairs_end bytes at)
  run_whole from count e f h =
      ap (λ b. cond b (Err (Short (from + (length bytes - from) / 4 * 4))) (done (from + 8 * count))) (le-ltb _ _ (let room : count ≤ (length bytes - from) / 8 = omega arith in room))
      ∙ ap done (let same : from + 8 * count ≡ pairs_end bytes at = omega arith in same)

  pub ends_in_pairs : HasMode bytes at → length bytes < pairs_end bytes at → set_end bytes at ≡ Err (Short (at + 12 + (length bytes - (at + 12)) / 4 * 4))
  ends_in_pairs m h = pairs_follow m ∙ run_by (at + 4 + 4 + 4) (number_at bytes (at + 4)) same_twelve refl m.0.1 h

  pub pairs_stand : HasMode bytes at → pairs_end bytes at ≤ length bytes → set_end bytes at ≡ Ok (pairs_end bytes at)
  pairs_stand m h = pairs_follow m ∙ run_whole (at + 4 + 4 + 4) (number_at bytes (at + 4)) same_twelve refl h

-- ---- a pair and its block

module _ (bytes : List ℕ) (end at : ℕ) where
  pub pair_stands : at + 8 ≤ length bytes → pair_at bytes at ≡ Ok (cast_signed w32 (number_at bytes at), number_at bytes (at + 4))
  unfolding pair_at
  pair_stands h =
      ap (λ r. r >>= λ instance. word_at bytes (at + 4) >>= λ value. Ok (cast_signed w32 instance, value)) (word_stands bytes at (omega arith))
      ∙ ap (λ r. r >>= λ value. done (cast_signed w32 (number_at bytes at), value)) (word_stands bytes (at + 4) (omega arith))

  abbrev placed : Result (TypedBytes × ℕ) FormFault → Result ((ℤ × TypedBytes) × ℕ) FormFault
  placed r = r >>= λ found. Ok ((cast_signed w32 (number_at bytes at), found.0), found.1)

  to_block : at + 8 ≤ length bytes → offset_pair bytes end at ≡ placed (offset_block bytes end (at + 4) (number_at bytes (at + 4)))
  unfolding offset_pair
  to_block h = ap (λ r. r >>= λ pair. offset_block bytes end (at + 4) pair.1 >>= λ found. Ok ((pair.0, found.0), found.1)) (pair_stands h)

  either : (a b : Bool) (r : Result (TypedBytes × ℕ) FormFault) (e : FormFault) → (a ≡ true) ⊎ (b ≡ true) → cond (a || b) (Err e) r ≡ Err e
  either true b r e h = refl
  either false true r e h = refl
  either false false r e (inl h) = absurd cc
  either false false r e (inr h) = absurd cc

  neither : (a b : Bool) (r : Result (TypedBytes × ℕ) FormFault) (e : FormFault) → a ≡ false → b ≡ false → cond (a || b) (Err e) r ≡ r
  neither true b r e h g = absurd cc
  neither false true r e h g = absurd cc
  neither false false r e h g = refl

  pub leads_out : at + 8 ≤ length bytes → (block_begin bytes at < end) ⊎ (length bytes < block_begin bytes at + 4) → offset_pair bytes end at ≡ Err (Offset (at + 4))
  unfolding offset_block
  leads_out h out = to_block h ∙ ap placed (either (ltb (block_begin bytes at) end) (ltb (length bytes) (block_begin bytes at + 4)) (block_at bytes (block_begin bytes at)) (Offset (at + 4)) (tests out))
    where
      tests : (block_begin bytes at < end) ⊎ (length bytes < block_begin bytes at + 4) → (ltb (block_begin bytes at) end ≡ true) ⊎ (ltb (length bytes) (block_begin bytes at + 4) ≡ true)
      tests (inl a) = inl (lt-ltb _ _ a)
      tests (inr b) = inr (lt-ltb _ _ b)

  abbrev sized : Result ℕ FormFault → Result (TypedBytes × ℕ) FormFault
  sized r = r >>= λ head. cond (ltb (head % 16777216) 4 || ltb (length bytes) (block_begin bytes at + padded_size head)) (Err (Block (block_begin bytes at))) (Ok (block_of_head bytes (block_begin bytes at) head, block_begin bytes at + padded_size head))

  leads_in : at + 8 ≤ length bytes → LeadsIn bytes end at → offset_pair bytes end at ≡ placed (sized (Ok (number_at bytes (block_begin bytes at))))
  unfolding offset_block block_at
  leads_in h l =
      to_block h
      ∙ ap placed (neither (ltb (block_begin bytes at) end) (ltb (length bytes) (block_begin bytes at + 4)) (block_at bytes (block_begin bytes at)) (Offset (at + 4)) (le-ltb _ _ l.0) (le-ltb _ _ l.1)
      ∙ ap sized (word_stands bytes (block_begin bytes at) l.1))

  pub is_bad_block : at + 8 ≤ length bytes → LeadsIn bytes end at → (number_at bytes (block_begin bytes at) % 16777216 < 4) ⊎ (length bytes < block_end bytes at) → offset_pair bytes end at ≡ Err (Block (block_begin bytes at))
  is_bad_block h l bad =
      leads_in h l
      ∙ ap placed (either (ltb (number_at bytes (block_begin bytes at) % 16777216) 4) (ltb (length bytes) (block_end bytes at)) (Ok (block_of_head bytes (block_begin bytes at) (number_at bytes (block_begin bytes at)), block_end bytes at)) (Block (block_begin bytes at)) (tests bad))
    where
      tests : (number_at bytes (block_begin bytes at) % 16777216 < 4) ⊎ (length bytes < block_end bytes at) → (ltb (number_at bytes (block_begin bytes at) % 16777216) 4 ≡ true) ⊎ (ltb (length bytes) (block_end bytes at) ≡ true)
      tests (inl a) = inl (lt-ltb _ _ a)
      tests (inr b) = inr (lt-ltb _ _ b)

  -- the pair with its block, and where this ends
  abbrev pub pair_found : (ℤ × TypedBytes) × ℕ
  pair_found = ((cast_signed w32 (number_at bytes at), block_of_head bytes (block_begin bytes at) (number_at bytes (block_begin bytes at))), block_end bytes at)

  pub block_stands : at + 8 ≤ length bytes → LeadsIn bytes end at → IsWhole bytes at → offset_pair bytes end at ≡ Ok pair_found
  block_stands h l w =
      leads_in h l
      ∙ ap placed (neither (ltb (number_at bytes (block_begin bytes at) % 16777216) 4) (ltb (length bytes) (block_end bytes at)) (Ok (block_of_head bytes (block_begin bytes at) (number_at bytes (block_begin bytes at)), block_end bytes at)) (Block (block_begin bytes at)) (le-ltb _ _ w.0) (le-ltb _ _ w.1))
