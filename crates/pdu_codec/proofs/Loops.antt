-- Reading one behind the other, as a loop does.
use Rattle.std.proofs.Common.{◌≡◌, ℕ, suc, ◌-◌, ◌+◌, ◌<◌, List, [], ◌∷◌, ◌++◌, length, drop, get_or, Result, Ok, Err, refl, sym, ap, ◌∙◌, append_assoc, arith}
use Rattle.profile_filter.specs.declared.profile.DomainPart.{DomainPart}
use Rattle.pcp_model.proofs.Payloads.{drop_item}
use Rattle.pdu_codec.specs.declared.fault.PduFault.{PduFault}
use Rattle.pdu_codec.specs.declared.lists.Head.{Head}
use Rattle.pdu_codec.specs.Reading.{◌>>=◌, many, one_part, parts_at}

-- what was read before, and what is still read
abbrev pub with_front : {A : Type 0} → List A → Result (List A × ℕ) PduFault → Result (List A × ℕ) PduFault
with_front front read = read >>= λ x. Ok (front ++ x.0, x.1)

regroup : {A : Type 0} (front : List A) (a : A) (read : Result (List A × ℕ) PduFault) → with_front front (read >>= λ x. Ok (a ∷ x.0, x.1)) ≡ with_front (front ++ a ∷ []) read
regroup front a (Ok x) = ap (λ xs. Ok (xs, x.1)) (simp append_assoc)
regroup front a (Err f) = refl

pub many_on : {A : Type 0} (read : List ℕ → ℕ → Result (A × ℕ) PduFault) (front : List A) (bytes : List ℕ) (count i at : ℕ) (found : A × ℕ) (total : Result (List A × ℕ) PduFault) → i < count → read bytes at ≡ Ok found
    → with_front front (many read bytes (count - i) at) ≡ total → with_front (front ++ found.0 ∷ []) (many read bytes (count - (i + 1)) found.1) ≡ total
unfolding many
many_on read front bytes count i at found total lt h so_far =
    let k : count - i ≡ suc (count - (i + 1)) = omega arith in
    let one : with_front front (many read bytes (count - i) at) ≡ with_front (front ++ found.0 ∷ []) (many read bytes (count - (i + 1)) found.1) = rw (k, h) (regroup front found.0 (many read bytes (count - (i + 1)) found.1)) in
    sym one ∙ so_far

pub parts_on : (front : List DomainPart) (bytes : List ℕ) (heads : List Head) (i at : ℕ) (head : Head) (found : DomainPart × ℕ) (total : Result (List DomainPart × ℕ) PduFault) → i < length heads → head ≡ get_or heads i head
    → one_part bytes head at ≡ Ok found → with_front front (parts_at bytes (drop i heads) at) ≡ total → with_front (front ++ found.0 ∷ []) (parts_at bytes (drop (i + 1) heads) found.1) ≡ total
unfolding parts_at
parts_on front bytes heads i at head found total lt is h so_far =
    let one : with_front front (parts_at bytes (drop i heads) at) ≡ with_front (front ++ found.0 ∷ []) (parts_at bytes (drop (i + 1) heads) found.1) =
    rw (drop_item heads i head lt is, h) (regroup front found.0 (parts_at bytes (drop (i + 1) heads) found.1)) in
    sym one ∙ so_far
