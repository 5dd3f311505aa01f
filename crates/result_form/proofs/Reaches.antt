-- How far a set's words and blocks reach.
use Rattle.std.proofs.Common.{◌≡◌, ℕ, ℤ, suc, ◌+◌, ◌-◌, ◌<◌, ◌≤◌, true, false, eqb, leb, max, List, ◌∷◌, length, Result, Ok, Err, refl, sym, ap, ◌∙◌, subst, arith, inl, inr}
use Rattle.std.specs.Prelude.{◌⊎◌}
use Rattle.std.specs.Result.{IsErrAnd}
use Rattle.std.proofs.lemmas.Bool.{eqb-true, eqb-false, leb-true, leb-false, or_cases}
use Rattle.std.proofs.lemmas.Result.{err_from_is_err_and}
use Rattle.pcp_base.specs.Fields.{number_at}
use Rattle.pcp_base.specs.Typed.{TypedBytes}
use Rattle.pcp_base.specs.declared.result.ValueSet.{ValueSet}
use Rattle.result_form.specs.declared.fault.FormFault.{FormFault}
use Rattle.result_form.specs.Decoding.{◌>>=◌, set_end, sets_end, offset_pair, blocks_from, set_at, sets_from}
use Rattle.result_form.specs.Faults.{IsStatus, HasValues, HasMode, pairs_end}
use Rattle.result_form.proofs.FaultRules.{pairs_stand}
use Rattle.result_form.proofs.FaultRules.{is_status as ends_at_status}
use Rattle.result_form.proofs.Spans.{neither}
use Rattle.result_form.proofs.FaultsFound.{from_pair, from_set, in_blocks, at_status, at_blocks}
use Rattle.result_form.specs.declared.reach.SetSpan.{SetSpan}
use Rattle.result_form.specs.Reaching.{reach_of, IsSpan}
use Rattle.result_form.specs.Shown.{is_status}
use Rattle.result_form.proofs.ShownPairs.{other_fault}
use Rattle.result_form.proofs.ShownSets.{at_place}

-- what was read, where it reached so far
pub reach_ok : {A : Type 0} (r : Result (A × ℕ) FormFault) (n : ℕ) → reach_of r ≡ Ok n → (x : A × ℕ) × (r ≡ Ok x) × (x.1 ≡ n)
reach_ok (Ok x) n e = (x, refl, cc)
reach_ok (Err d) n e = absurd cc

pub reach_err : {A : Type 0} (r : Result (A × ℕ) FormFault) (d : FormFault) → reach_of r ≡ Err d → r ≡ Err d
reach_err (Ok x) d e = absurd cc
reach_err (Err c) d e = cc

no_blocks : (bytes : List ℕ) (end reached from : ℕ) → reach_of (blocks_from bytes end reached 0 from) ≡ Ok reached
unfolding blocks_from
no_blocks bytes end reached from = refl

reach_in : (pmid : ℕ) (r : Result (List (ℤ × TypedBytes) × ℕ) FormFault) → reach_of (in_blocks pmid r) ≡ reach_of r
reach_in pmid (Ok x) = refl
reach_in pmid (Err e) = refl

-- ---- a set

abbrev span : ℕ → ℕ → ℕ → SetSpan
span next from blocks = record { next = next; from = from; blocks = blocks }

pub span_status : (bytes : List ℕ) (at : ℕ) → at + 8 ≤ length bytes → IsStatus (number_at bytes (at + 4)) → IsSpan bytes at (Ok (span (at + 8) (at + 8) 0))
span_status bytes at h s = (ends_at_status bytes at h s, λ end reached. ap reach_of (at_status bytes end at reached h s) ∙ sym (no_blocks bytes end reached (at + 8)))

pub span_place : (bytes : List ℕ) (at next : ℕ) → next ≡ pairs_end bytes at → HasMode bytes at → pairs_end bytes at ≤ length bytes → number_at bytes (at + 8) ≡ 0 → IsSpan bytes at (Ok (span next (at + 12) 0))
span_place bytes at next step m whole e = (
  pairs_stand bytes at m whole ∙ ap (λ n. Ok n) (sym step),
  λ end reached. ap reach_of (at_place bytes end at reached m whole e) ∙ sym (no_blocks bytes end reached (at + 12)),
)

counted_blocks : (bytes : List ℕ) (at next : ℕ) → next ≡ pairs_end bytes at → HasMode bytes at → pairs_end bytes at ≤ length bytes → number_at bytes (at + 8) ≡ 1 → IsSpan bytes at (Ok (span next (at + 12) (number_at bytes (at + 4))))
counted_blocks bytes at next step m whole e = (
  pairs_stand bytes at m whole ∙ ap (λ n. Ok n) (sym step),
  λ end reached.
      ap reach_of (at_blocks bytes end at reached m e) ∙ reach_in (number_at bytes at) (blocks_from bytes end reached (number_at bytes (at + 4)) (at + 12)),
)

pub span_blocks : (bytes : List ℕ) (at next count : ℕ) → count ≡ number_at bytes (at + 4) → next ≡ pairs_end bytes at → HasMode bytes at → pairs_end bytes at ≤ length bytes → number_at bytes (at + 8) ≡ 1 → IsSpan bytes at (Ok (span next (at + 12) count))
span_blocks bytes at next count same step m whole e = subst (λ n. IsSpan bytes at (Ok (span next (at + 12) n))) (sym same) (counted_blocks bytes at next step m whole e)

-- a fault that is handed on
pub span_handed : (bytes : List ℕ) (at : ℕ) (r : Result SetSpan FormFault) (e f : FormFault) → IsErrAnd r (λ y. y ≡ e) → e ≡ f → set_end bytes at ≡ Err f → IsSpan bytes at r
span_handed bytes at r e f was same given =
    let p = err_from_is_err_and r was in
    let fault : f ≡ p.0 = sym same ∙ sym p.2 in
    subst (IsSpan bytes at) (sym p.1) (given ∙ ap (λ y. Err y) fault)

-- a number of values that is a status, or not
pub status_of : (bytes : List ℕ) (at n : ℕ) → n ≡ number_at bytes (at + 4) → is_status n ≡ true → IsStatus (number_at bytes (at + 4))
status_of bytes at n same low = subst IsStatus same (by (or_cases (eqb n 0) (leb 2147483648 n) low))
  where
    by : (eqb n 0 ≡ true) ⊎ (leb 2147483648 n ≡ true) → IsStatus n
    by (inl e) = inl (eqb-true n 0 e)
    by (inr h) = inr (leb-true 2147483648 n h)

pub values_of : (bytes : List ℕ) (at n : ℕ) → at + 4 + 4 ≤ length bytes → n ≡ number_at bytes (at + 4) → is_status n ≡ false → HasValues bytes at
values_of bytes at n room same high =
    let g = neither (eqb n 0) (leb 2147483648 n) high in
    let some : n ≡ 0 → ⊥ = eqb-false n 0 g.0 in
    let few : n < 2147483648 = leb-false 2147483648 n g.1 in
    (omega arith, omega arith, omega arith)

-- ---- one behind the other, as a loop does

same_pairs : (p : ℤ × TypedBytes) (r : Result (List (ℤ × TypedBytes) × ℕ) FormFault) → reach_of (r >>= λ others. Ok (p ∷ others.0, others.1)) ≡ reach_of r
same_pairs p (Ok x) = refl
same_pairs p (Err e) = refl

same_sets : (p : ValueSet) (r : Result (List ValueSet × ℕ) FormFault) → reach_of (r >>= λ others. Ok (p ∷ others.0, others.1)) ≡ reach_of r
same_sets p (Ok x) = refl
same_sets p (Err e) = refl

module _ (bytes : List ℕ) (count i at : ℕ) (lt : i < count) where
  one_more : count - i ≡ suc (count - (i + 1))
  one_more = omega arith

  pub ends_on : (next : ℕ) (total : Result ℕ FormFault) → set_end bytes at ≡ Ok next → sets_end bytes (count - i) at ≡ total → sets_end bytes (count - (i + 1)) next ≡ total
  unfolding sets_end
  ends_on next total h so_far =
      let one : sets_end bytes (count - i) at ≡ sets_end bytes (count - (i + 1)) next = rw (one_more, h) refl in
      sym one ∙ so_far

  pub ends_fail : (e : FormFault) (end : ℕ) → set_end bytes at ≡ Err e → sets_end bytes (count - i) at ≡ Ok end → ⊥
  unfolding sets_end
  ends_fail e end h so_far =
      let one : sets_end bytes (count - i) at ≡ Err e = rw (one_more, h) refl in
      other_fault (sets_end bytes (count - i) at) end e so_far one

  pub pairs_on : (end reached found : ℕ) (total : Result ℕ FormFault) → reach_of (offset_pair bytes end at) ≡ Ok found → reach_of (blocks_from bytes end reached (count - i) at) ≡ total
      → reach_of (blocks_from bytes end (max reached found) (count - (i + 1)) (at + 8)) ≡ total
  unfolding blocks_from
  pairs_on end reached found total h so_far =
      let m : ℕ = count - (i + 1) in
      let x = reach_ok (offset_pair bytes end at) found h in
      let one : reach_of (blocks_from bytes end reached (count - i) at) ≡ reach_of (blocks_from bytes end (max reached x.0.1) m (at + 8)) =
      ap (λ k. reach_of (blocks_from bytes end reached k at)) one_more
      ∙ ap (λ r. reach_of (from_pair bytes end m at reached r)) x.1
      ∙ same_pairs x.0.0 (blocks_from bytes end (max reached x.0.1) m (at + 8)) in
      ap (λ k. reach_of (blocks_from bytes end (max reached k) m (at + 8))) (sym x.2) ∙ sym one ∙ so_far

  pub sets_on : (end reached found next : ℕ) (total : Result ℕ FormFault) → reach_of (set_at bytes end reached at) ≡ Ok found → set_end bytes at ≡ Ok next → reach_of (sets_from bytes end reached (count - i) at) ≡ total
      → reach_of (sets_from bytes end found (count - (i + 1)) next) ≡ total
  unfolding sets_from
  sets_on end reached found next total h g so_far =
      let m : ℕ = count - (i + 1) in
      let x = reach_ok (set_at bytes end reached at) found h in
      let one : reach_of (sets_from bytes end reached (count - i) at) ≡ reach_of (sets_from bytes end x.0.1 m next) =
      ap (λ k. reach_of (sets_from bytes end reached k at)) one_more
      ∙ ap (λ r. reach_of (from_set bytes end m (set_end bytes at) r)) x.1
      ∙ ap (λ ends. reach_of (from_set bytes end m ends (Ok x.0))) g
      ∙ same_sets x.0.0 (sets_from bytes end x.0.1 m next) in
      ap (λ k. reach_of (sets_from bytes end k m next)) (sym x.2) ∙ sym one ∙ so_far
