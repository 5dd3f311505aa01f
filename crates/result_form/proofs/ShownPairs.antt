-- The pairs that reading finds are those that are shown.
use Rattle.std.proofs.Common.{◌≡◌, ℕ, ℤ, zero, suc, ◌+◌, ◌*◌, ◌%◌, ◌≤◌, max, List, [], ◌∷◌, length, drop, Result, Ok, Err, refl, sym, ap, ◌∙◌, arith, inl, inr}
use Rattle.std.specs.Int.{w32, cast_signed}
use Rattle.std.proofs.lemmas.Bool.{cases_lt}
use Rattle.std.proofs.lemmas.List.{drop-drop}
use Rattle.pcp_base.specs.Fields.{number_at}
use Rattle.pcp_base.specs.Typed.{TypedBytes}
use Rattle.result_form.specs.declared.fault.FormFault.{FormFault}
use Rattle.result_form.specs.Decoding.{◌>>=◌, block_of_head, values_from, offset_pair, blocks_from}
use Rattle.result_form.specs.Faults.{block_begin, block_end}
use Rattle.result_form.proofs.FaultRules.{done, pair_stands, leads_out, is_bad_block, block_stands, pair_found}
use Rattle.result_form.proofs.Spans.{bind_ok, ok_is}
use Rattle.result_form.specs.Shown.{word_in, shown_values, shown_block, shown_blocks}
use Rattle.result_form.proofs.Walks.{same_next}
use Rattle.result_form.proofs.ShownWords.{word_whole, word_left}

same_pair : {B : Type 0} (i j : ℕ) (v w : B) (ps qs : List (ℤ × B)) → i ≡ j → v ≡ w → ps ≡ qs → (cast_signed w32 i, v) ∷ ps ≡ (cast_signed w32 j, w) ∷ qs
same_pair i j v w ps qs e f g = same_next (cast_signed w32 i) (cast_signed w32 j) v w ps qs (ap (cast_signed w32) e) f g

pub values_are : (bytes : List ℕ) (n at : ℕ) → at + 8 * n ≤ length bytes → values_from bytes n at ≡ Ok (shown_values n (drop at bytes))
unfolding values_from shown_values
values_are bytes zero at room = refl
values_are bytes (suc n) at room =
    let pair : ℤ × ℕ = (cast_signed w32 (number_at bytes at), number_at bytes (at + 4)) in
    let more : values_from bytes n (at + 8) ≡ Ok (shown_values n (drop (at + 8) bytes)) = values_are bytes n (at + 8) (omega arith) in
    let instance : word_in (drop at bytes) 0 ≡ number_at bytes at = word_left bytes at 0 at (omega arith) (omega arith) in
    let value : word_in (drop at bytes) 4 ≡ number_at bytes (at + 4) = word_left bytes at 4 (at + 4) refl (omega arith) in
    let rest : shown_values n (drop 8 (drop at bytes)) ≡ shown_values n (drop (at + 8) bytes) = ap (shown_values n) (drop-drop 8 at bytes) in
    ap (λ r. r >>= λ p. values_from bytes n (at + 8) >>= λ others. Ok (p ∷ others)) (pair_stands bytes 0 at (omega arith))
    ∙ ap (λ r. r >>= λ others. done (pair ∷ others)) more
    ∙ ap done (sym (same_pair (word_in (drop at bytes) 0) (number_at bytes at) (word_in (drop at bytes) 4) (number_at bytes (at + 4)) (shown_values n (drop 8 (drop at bytes))) (shown_values n (drop (at + 8) bytes)) instance value rest))

-- what is read of a pair whose block stands
pub record PairIs (bytes : List ℕ) (end at : ℕ) (x : (ℤ × TypedBytes) × ℕ) : Type 0 where
  pub found : pair_found bytes end at ≡ x
  pub within : block_begin bytes at + 4 ≤ length bytes

pub other_fault : {A : Type 0} (r : Result A FormFault) (x : A) (e : FormFault) → r ≡ Ok x → r ≡ Err e → ⊥
other_fault (Ok y) x e h g = cc
other_fault (Err f) x e h g = cc

pair_is : (bytes : List ℕ) (end at : ℕ) (x : (ℤ × TypedBytes) × ℕ) → at + 8 ≤ length bytes → offset_pair bytes end at ≡ Ok x → PairIs bytes end at x
pair_is bytes end at x room e =
    elim (cases_lt (block_begin bytes at) end) [
      | inl early ↦ absurd (other_fault _ _ _ e (leads_out bytes end at room (inl early)))
      | inr behind ↦
          elim (cases_lt (length bytes) (block_begin bytes at + 4)) [
            | inl out ↦ absurd (other_fault _ _ _ e (leads_out bytes end at room (inr out)))
            | inr inside ↦
                elim (cases_lt (number_at bytes (block_begin bytes at) % 16777216) 4) [
                  | inl short ↦ absurd (other_fault _ _ _ e (is_bad_block bytes end at room (behind, inside) (inl short)))
                  | inr least ↦
                      elim (cases_lt (length bytes) (block_end bytes at)) [
                        | inl cut ↦ absurd (other_fault _ _ _ e (is_bad_block bytes end at room (behind, inside) (inr cut)))
                        | inr whole ↦ record { found = ok_is (pair_found bytes end at) x (sym (block_stands bytes end at room (behind, inside) (least, whole)) ∙ e); within = inside }
                      ]
                ]
          ]
    ]

pub blocks_are : (bytes : List ℕ) (end reached n at : ℕ) (x : List (ℤ × TypedBytes) × ℕ) → at + 8 * n ≤ length bytes → blocks_from bytes end reached n at ≡ Ok x → x.0 ≡ shown_blocks bytes n (drop at bytes)
unfolding blocks_from shown_blocks shown_block
blocks_are bytes end reached zero at x room e = ap (λ y. y.0) (sym (ok_is ([], reached) x e))
blocks_are bytes end reached (suc n) at x room e =
    let a = bind_ok (offset_pair bytes end at) (λ first. blocks_from bytes end (max reached first.1) n (at + 8) >>= λ rest. Ok (first.0 ∷ rest.0, rest.1)) x e in
    let b = bind_ok (blocks_from bytes end (max reached a.0.1) n (at + 8)) (λ rest. Ok (a.0.0 ∷ rest.0, rest.1)) x a.2 in
    let p = pair_is bytes end at a.0 (omega arith) a.1 in
    let more : b.0.0 ≡ shown_blocks bytes n (drop (at + 8) bytes) = blocks_are bytes end (max reached a.0.1) n (at + 8) b.0 (omega arith) b.1 in
    let instance : word_in (drop at bytes) 0 ≡ number_at bytes at = word_left bytes at 0 at (omega arith) (omega arith) in
    let offset : word_in (drop at bytes) 4 ≡ number_at bytes (at + 4) = word_left bytes at 4 (at + 4) refl (omega arith) in
    let head : word_in bytes (block_begin bytes at) ≡ number_at bytes (block_begin bytes at) = word_whole bytes (block_begin bytes at) p.within in
    let block : shown_block bytes (word_in (drop at bytes) 4) ≡ block_of_head bytes (block_begin bytes at) (number_at bytes (block_begin bytes at)) =
    ap (shown_block bytes) offset ∙ ap (block_of_head bytes (block_begin bytes at)) head in
    let rest : shown_blocks bytes n (drop 8 (drop at bytes)) ≡ b.0.0 = ap (shown_blocks bytes n) (drop-drop 8 at bytes) ∙ sym more in
    ap (λ y. y.0) (sym (ok_is (a.0.0 ∷ b.0.0, b.0.1) x b.2))
    ∙ ap (λ y. y.0 ∷ b.0.0) (sym p.found)
    ∙ sym (same_pair (word_in (drop at bytes) 0) (number_at bytes at) (shown_block bytes (word_in (drop at bytes) 4)) (block_of_head bytes (block_begin bytes at) (number_at bytes (block_begin bytes at))) (shown_blocks bytes n (drop 8 (drop at bytes))) b.0.0 instance block rest)
