-- A fault that a payload has is the one that reading comes to; so there is exactly one.
use Rattle.std.proofs.Common.{◌≡◌, ℕ, ℤ, zero, suc, ◌+◌, ◌-◌, ◌*◌, ◌/◌, ◌<◌, ◌≤◌, cond, max, List, [], ◌∷◌, length, Result, Ok, Err, refl, sym, ap, ◌∙◌, subst, arith, inl, inr}
use Rattle.std.specs.Prelude.{◌⊎◌}
use Rattle.std.specs.Int.{w32, cast_signed}
use Rattle.std.proofs.lemmas.Bool.{cases_lt, lt-ltb}
use Rattle.pcp_base.specs.Fields.{number_at}
use Rattle.pcp_base.proofs.Bytes.{IsBytes}
use Rattle.pcp_base.specs.Time.{Moment}
use Rattle.pcp_base.specs.Typed.{TypedBytes}
use Rattle.pcp_base.specs.declared.result.Body.TheVariants as bodies
use Rattle.pcp_base.specs.declared.result.ValueSet.{ValueSet}
use Rattle.pcp_base.specs.declared.result.PmResult.{PmResult}
use Rattle.pcp_model.specs.Payload.{IsPayload}
use Rattle.result_form.specs.declared.fault.FormFault.{FormFault}
use Rattle.result_form.specs.declared.fault.FormFault.TheVariants.{Short, Stamp, Count, Mode, Offset, Block, Trailing}
use Rattle.result_form.specs.Decoding.{◌>>=◌, word_below, stamp_of, set_end, sets_end, offset_pair, blocks_from, set_at, sets_from, payload_result}
use Rattle.result_form.specs.Faults.{HasValues, HasMode, HasBlocks, HasSeconds, HasStamp, HasHead, pairs_end, SetStands, SetsStand, IsPairWord, IsSetFault, IsSetsFault, block_end, IsPairFault, PairsReach, IsPairsFault, SetReaches, SetsReach, IsBlocksFault, IsHeadFault, IsEndFault, IsFault}
use Rattle.result_form.specs.Laws.{FaultsComeOnce}
use Rattle.result_form.proofs.Again.{payload_again}
use Rattle.result_form.proofs.Whole.{payload_takes}
use Rattle.result_form.proofs.FaultRules.{done, failed, below_stands, below_ends, below_fails, ends_in_metric, ends_in_number, ends_in_mode, is_bad_mode, ends_in_pairs, leads_out, is_bad_block, block_stands, pair_found}
use Rattle.result_form.proofs.FaultsFound.{set_ends, from_pair, with_pair, in_blocks, a_set, at_status, at_values, at_blocks, not_blocks, from_set, with_set, last, from_end, from_count, from_stamp, a_moment, stamp_is, sec_fails, usec_fails, decoded_is, Says, decoded_says}

same_ok : {A : Type 0} (x y : A) → done x ≡ done y → x ≡ y
same_ok x y e = cc

same_err : (A : Type 0) (e f : FormFault) → failed A e ≡ failed A f → e ≡ f
same_err A e f h = cc

not_both : {A : Type 0} (x : A) (e : FormFault) → done x ≡ Err e → ⊥
not_both x e h = absurd cc

-- ---- the words of sets

short_by : (bytes : List ℕ) (at offset : ℕ) → length bytes < offset + 4
    → (offset ≡ at) ⊎ (((offset ≡ at + 4) × (at + 4 ≤ length bytes)) ⊎ (((offset ≡ at + 8) × HasValues bytes at) ⊎ IsPairWord bytes at offset)) → set_end bytes at ≡ Err (Short offset)
short_by bytes at offset cut (inl e) = ends_in_metric bytes at (omega arith) ∙ ap (λ k. failed ℕ (Short k)) (sym e)
short_by bytes at offset cut (inr (inl s)) =
    let e : offset ≡ at + 4 = s.0 in
    ends_in_number bytes at s.1 (omega arith) ∙ ap (λ k. failed ℕ (Short k)) (sym e)
short_by bytes at offset cut (inr (inr (inl s))) =
    let e : offset ≡ at + 8 = s.0 in
    ends_in_mode bytes at s.1 (omega arith) ∙ ap (λ k. failed ℕ (Short k)) (sym e)
short_by bytes at offset cut (inr (inr (inr s))) =
    let k : ℕ = s.1 in
    let e : offset ≡ at + 12 + 4 * k = s.2 in
    let few : k < 2 * number_at bytes (at + 4) = s.3 in
    let within : offset ≤ length bytes = s.4 in
    ends_in_pairs bytes at s.0 (omega arith) ∙ ap (λ m. failed ℕ (Short m)) (let same : at + 12 + (length bytes - (at + 12)) / 4 * 4 ≡ offset = omega arith in same)

set_fails : (bytes : List ℕ) (at : ℕ) (e : FormFault) → IsSetFault bytes at e → set_end bytes at ≡ Err e
set_fails bytes at (Short offset) x = short_by bytes at offset x.0 x.1
set_fails bytes at (Mode offset) x = is_bad_mode bytes at x.1 x.2 x.3 ∙ ap (λ k. failed ℕ (Mode k)) (sym x.0)
set_fails bytes at e x = elim x [ ]

sets_fail : (bytes : List ℕ) (n at : ℕ) (e : FormFault) → IsSetsFault bytes n at e → sets_end bytes n at ≡ Err e
unfolding sets_end
sets_fail bytes zero at e x = elim x [ ]
sets_fail bytes (suc n) at e (inl x) = ap (λ r. r >>= λ next. sets_end bytes n next) (set_fails bytes at e x)
sets_fail bytes (suc n) at e (inr x) = ap (λ r. r >>= λ next. sets_end bytes n next) (set_ends bytes at x.0 x.1) ∙ sets_fail bytes n x.0 e x.2

sets_stand : (bytes : List ℕ) (n at end : ℕ) → SetsStand bytes n at end → sets_end bytes n at ≡ Ok end
unfolding sets_end
sets_stand bytes zero at end x = ap done x
sets_stand bytes (suc n) at end x = ap (λ r. r >>= λ next. sets_end bytes n next) (set_ends bytes at x.0 x.1) ∙ sets_stand bytes n x.0 end x.2

-- ---- pairs and their blocks

pair_fails : (bytes : List ℕ) (end at : ℕ) (e : FormFault) → at + 8 ≤ length bytes → IsPairFault bytes end at e → offset_pair bytes end at ≡ Err e
pair_fails bytes end at (Offset offset) room x = leads_out bytes end at room x.1 ∙ ap (λ k. failed ((ℤ × TypedBytes) × ℕ) (Offset k)) (sym x.0)
pair_fails bytes end at (Block begin) room x = is_bad_block bytes end at room x.1 x.2 ∙ ap (λ k. failed ((ℤ × TypedBytes) × ℕ) (Block k)) (sym x.0)
pair_fails bytes end at e room x = elim x [ ]

pairs_fail : (bytes : List ℕ) (end n at before : ℕ) (e : FormFault) → at + 8 * n ≤ length bytes → IsPairsFault bytes end n at e → blocks_from bytes end before n at ≡ Err e
unfolding blocks_from
pairs_fail bytes end zero at before e room x = elim x [ ]
pairs_fail bytes end (suc n) at before e room (inl x) = ap (from_pair bytes end n at before) (pair_fails bytes end at e (omega arith) x)
pairs_fail bytes end (suc n) at before e room (inr x) =
    ap (from_pair bytes end n at before) (block_stands bytes end at (omega arith) x.0 x.1)
    ∙ ap (with_pair (pair_found bytes end at).0) (pairs_fail bytes end n (at + 8) (max before (block_end bytes at)) e (omega arith) x.2)

pairs_reach : (bytes : List ℕ) (end n at before far : ℕ) → at + 8 * n ≤ length bytes → PairsReach bytes end n at before far → (xs : List (ℤ × TypedBytes)) × (blocks_from bytes end before n at ≡ Ok (xs, far))
unfolding blocks_from
pairs_reach bytes end zero at before far room x = ([], ap (λ k. done ([], k)) x)
pairs_reach bytes end (suc n) at before far room x =
    let more = pairs_reach bytes end n (at + 8) (max before (block_end bytes at)) far (omega arith) x.2 in (
      (pair_found bytes end at).0 ∷ more.0,
      ap (from_pair bytes end n at before) (block_stands bytes end at (omega arith) x.0 x.1) ∙ ap (with_pair (pair_found bytes end at).0) more.1,
    )

-- ---- sets and their blocks

pairs_lie : (bytes : List ℕ) (at next : ℕ) → SetStands bytes at next → HasBlocks bytes at → HasMode bytes at × (pairs_end bytes at ≤ length bytes)
pairs_lie bytes at next (inl s) b = elim (not_blocks bytes at s.2 b) [ ]
pairs_lie bytes at next (inr p) b = (p.1, p.2)

set_blocks_fail : (bytes : List ℕ) (end at before next : ℕ) (e : FormFault) → SetStands bytes at next → HasBlocks bytes at → IsPairsFault bytes end (number_at bytes (at + 4)) (at + 12) e → set_at bytes end before at ≡ Err e
set_blocks_fail bytes end at before next e stands b x =
    let lie = pairs_lie bytes at next stands b in
    at_blocks bytes end at before lie.0 b.1 ∙ ap (in_blocks (number_at bytes at)) (pairs_fail bytes end (number_at bytes (at + 4)) (at + 12) before e lie.1 x)

set_reach : (bytes : List ℕ) (end at before mid next : ℕ) → SetStands bytes at next → SetReaches bytes end at before mid → (s : ValueSet) × (set_at bytes end before at ≡ Ok (s, mid))
set_reach bytes end at before mid next stands (inl x) =
    let lie = pairs_lie bytes at next stands x.0 in
    let pairs = pairs_reach bytes end (number_at bytes (at + 4)) (at + 12) before mid lie.1 x.1 in
    (a_set (number_at bytes at) (bodies.Blocks pairs.0), at_blocks bytes end at before lie.0 x.0.1 ∙ ap (in_blocks (number_at bytes at)) pairs.1)
set_reach bytes end at before mid next (inl s) (inr x) =
    (a_set (number_at bytes at) (bodies.Status (cast_signed w32 (number_at bytes (at + 4)))), at_status bytes end at before s.1 s.2 ∙ ap (λ k. done (a_set (number_at bytes at) (bodies.Status (cast_signed w32 (number_at bytes (at + 4)))), k)) x.1)
set_reach bytes end at before mid next (inr p) (inr x) =
    let low : number_at bytes (at + 8) < 2 = p.1.2 in
    elim (cases_lt (number_at bytes (at + 8)) 1) [
      | inl none ↦ let found = at_values bytes end at before p.1 p.2 (omega arith) in (found.0, found.1 ∙ ap (λ k. done (found.0, k)) x.1)
      | inr one ↦ let e : number_at bytes (at + 8) ≡ 1 = omega arith in elim (x.0 (p.1.0, e)) [ ]
    ]

-- a set ends at one offset
one_end : (bytes : List ℕ) (at next other : ℕ) → SetStands bytes at next → SetStands bytes at other → next ≡ other
one_end bytes at next other x y = same_ok next other (sym (set_ends bytes at next x) ∙ set_ends bytes at other y)

reach_fails : (bytes : List ℕ) (end n at before stop : ℕ) (e : FormFault) → SetsStand bytes n at stop → IsBlocksFault bytes end n at before e → sets_from bytes end before n at ≡ Err e
unfolding sets_from
reach_fails bytes end zero at before stop e all x = elim x [ ]
reach_fails bytes end (suc n) at before stop e all (inl x) = ap (from_set bytes end n (set_end bytes at)) (set_blocks_fail bytes end at before all.0 e all.1 x.0 x.1)
reach_fails bytes end (suc n) at before stop e all (inr x) =
    let set = set_reach bytes end at before x.1 x.0 x.2 x.3 in
    let rest : SetsStand bytes n x.0 stop = subst (λ k. SetsStand bytes n k stop) (one_end bytes at all.0 x.0 all.1 x.2) all.2 in
    ap (from_set bytes end n (set_end bytes at)) set.1 ∙ ap (λ ends. from_set bytes end n ends (done (set.0, x.1))) (set_ends bytes at x.0 x.2)
    ∙ ap (with_set set.0) (reach_fails bytes end n x.0 x.1 stop e rest x.4)

reach_ends : (bytes : List ℕ) (end n at before far : ℕ) → SetsReach bytes end n at before far → (xs : List ValueSet) × (sets_from bytes end before n at ≡ Ok (xs, far))
unfolding sets_from
reach_ends bytes end zero at before far x = ([], ap (λ k. done ([], k)) x)
reach_ends bytes end (suc n) at before far x =
    let set = set_reach bytes end at before x.1 x.0 x.2 x.3 in
    let more = reach_ends bytes end n x.0 x.1 far x.4 in (
      set.0 ∷ more.0,
      ap (from_set bytes end n (set_end bytes at)) set.1 ∙ ap (λ ends. from_set bytes end n ends (done (set.0, x.1))) (set_ends bytes at x.0 x.2) ∙ ap (with_set set.0) more.1,
    )

-- ---- the whole payload

by_stamp : (bytes : List ℕ) (r : Result Moment FormFault) (e : FormFault) → stamp_of bytes ≡ r → from_stamp bytes r ≡ Err e → payload_result bytes ≡ Err e
by_stamp bytes r e h g = decoded_is bytes ∙ ap (from_stamp bytes) h ∙ g

abbrev moment_in : List ℕ → Moment
moment_in bytes = a_moment (number_at bytes 0) (number_at bytes 4)

by_count : (bytes : List ℕ) (r : Result ℕ FormFault) (e : FormFault) → 8 ≤ length bytes → number_at bytes 0 < 2147483648 → number_at bytes 4 < 1000000 → word_below bytes 8 2147483648 (Count 8) ≡ r → from_count bytes (moment_in bytes) r ≡ Err e → payload_result bytes ≡ Err e
by_count bytes r e two sec usec h g = by_stamp bytes (Ok (moment_in bytes)) e (stamp_is bytes two sec usec) (ap (from_count bytes (moment_in bytes)) h ∙ g)

abbrev whole : FormFault → Result PmResult FormFault
whole e = Err e

head_fails : (bytes : List ℕ) (e : FormFault) → IsHeadFault bytes e → payload_result bytes ≡ Err e
head_fails bytes (Short at) x = by x.1
  where
    cut : length bytes < at + 4
    cut = x.0

    by : (at ≡ 0) ⊎ (((at ≡ 4) × HasSeconds bytes) ⊎ ((at ≡ 8) × HasStamp bytes)) → payload_result bytes ≡ Err (Short at)
    by (inl e) = by_stamp bytes (Err (Short 0)) (Short 0) (sec_fails bytes (Short 0) (below_ends bytes 0 2147483648 (Stamp 0) (omega (arith, cut)))) refl ∙ ap (λ k. whole (Short k)) (sym e)
    by (inr (inl s)) = by_stamp bytes (Err (Short 4)) (Short 4) (usec_fails bytes (Short 4) s.1.0 s.1.1 (below_ends bytes 4 1000000 (Stamp 4) (omega (arith, cut, s.0)))) refl ∙ ap (λ k. whole (Short k)) (sym s.0)
    by (inr (inr s)) = by_count bytes (Err (Short 8)) (Short 8) s.1.1 s.1.0.1 s.1.2 (below_ends bytes 8 2147483648 (Count 8) (omega (arith, cut, s.0))) refl ∙ ap (λ k. whole (Short k)) (sym s.0)
head_fails bytes (Stamp at) (inl x) = by_stamp bytes (Err (Stamp 0)) (Stamp 0) (sec_fails bytes (Stamp 0) (below_fails bytes 0 2147483648 (Stamp 0) x.1 x.2)) refl ∙ ap (λ k. whole (Stamp k)) (sym x.0)
head_fails bytes (Stamp at) (inr x) = by_stamp bytes (Err (Stamp 4)) (Stamp 4) (usec_fails bytes (Stamp 4) x.1.0 x.1.1 (below_fails bytes 4 1000000 (Stamp 4) x.2 x.3)) refl ∙ ap (λ k. whole (Stamp k)) (sym x.0)
head_fails bytes (Count at) x = by_count bytes (Err (Count 8)) (Count 8) x.1.1 x.1.0.1 x.1.2 (below_fails bytes 8 2147483648 (Count 8) x.2 x.3) refl ∙ ap (λ k. whole (Count k)) (sym x.0)
head_fails bytes e x = elim x [ ]

by_head : (bytes : List ℕ) (e : FormFault) → HasHead bytes → from_end bytes (moment_in bytes) (number_at bytes 8) (sets_end bytes (number_at bytes 8) 12) ≡ Err e → payload_result bytes ≡ Err e
by_head bytes e h g = by_count bytes (Ok (number_at bytes 8)) e h.0.1 h.0.0.1 h.0.2 (below_stands bytes 8 2147483648 (Count 8) h.1 h.2) g

end_fails : (bytes : List ℕ) (end : ℕ) (e : FormFault) → IsEndFault bytes end e → last bytes (moment_in bytes) (sets_from bytes end end (number_at bytes 8) 12) ≡ Err e
end_fails bytes end (Trailing at) x =
    let read = reach_ends bytes end (number_at bytes 8) 12 end at x.0 in
    ap (last bytes (moment_in bytes)) read.1 ∙ ap (λ b. cond b (whole (Trailing at)) (Ok (record { stamp = moment_in bytes; sets = read.0 }))) (lt-ltb _ _ x.1)
end_fails bytes end e x = elim x [ ]

pub fault_is : (bytes : List ℕ) (e : FormFault) → IsFault bytes e → payload_result bytes ≡ Err e
fault_is bytes e (inl x) = head_fails bytes e x
fault_is bytes e (inr (h, inl x)) = by_head bytes e h (ap (from_end bytes (moment_in bytes) (number_at bytes 8)) (sets_fail bytes (number_at bytes 8) 12 e x))
fault_is bytes e (inr (h, inr (end, all, inl x))) =
    by_head bytes e h (ap (from_end bytes (moment_in bytes) (number_at bytes 8)) (sets_stand bytes (number_at bytes 8) 12 end all) ∙ ap (last bytes (moment_in bytes)) (reach_fails bytes end (number_at bytes 8) 12 end end e all x))
fault_is bytes e (inr (h, inr (end, all, inr x))) =
    by_head bytes e h (ap (from_end bytes (moment_in bytes) (number_at bytes 8)) (sets_stand bytes (number_at bytes 8) 12 end all) ∙ end_fails bytes end e x)

-- there is one fault at most
pub one_fault : (bytes : List ℕ) (e f : FormFault) → IsFault bytes e → IsFault bytes f → e ≡ f
one_fault bytes e f x y = same_err PmResult e f (sym (fault_is bytes e x) ∙ fault_is bytes f y)

-- what reading comes to is a payload or a fault
some_by : (bytes : List ℕ) → IsBytes bytes → (read : Result PmResult FormFault) → payload_result bytes ≡ read → Says bytes read → ((r : PmResult) × IsPayload bytes r) ⊎ ((e : FormFault) × IsFault bytes e)
some_by bytes fits (Ok r) h says = inl (r, payload_takes bytes r fits h)
some_by bytes fits (Err e) h says = inr (e, says)

pub once : (bytes : List ℕ) → IsBytes bytes → FaultsComeOnce bytes
once bytes fits = record {
  some = some_by bytes fits (payload_result bytes) refl (decoded_says bytes);
  one = one_fault bytes;
  either = λ r e is fault. not_both r e (sym (payload_again bytes r fits is) ∙ fault_is bytes e fault);
}
