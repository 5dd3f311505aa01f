-- Eight bytes are a number.
use Rattle.std.proofs.Common.{◌≡◌, ℕ, cond, nat_lt, nat_eq, List, length, take, sym, ap, ◌∙◌, arith, Some, None}
use Rattle.std.specs.Int.{w64, from_be_bytes}
use Rattle.std.proofs.lemmas.List.{take_all}
use Rattle.pcp_base.specs.Fields.{be_field}
use Rattle.pm_print.specs.Values.{number_in}

pub eight : (bytes : List ℕ) → length bytes ≡ 8 → be_field w64 0 bytes ≡ number_in bytes
eight bytes e =
    ap (λ n. cond (nat_lt n 8) None (Some (from_be_bytes w64 (take 8 bytes)))) e
    ∙ ap (λ t. Some (from_be_bytes w64 t)) (take_all 8 bytes (omega (arith, e)))
    ∙ sym (ap (λ n. cond (nat_eq n 8) (Some (from_be_bytes w64 bytes)) None) e)

pub not_eight : (bytes : List ℕ) → (length bytes ≡ 8 → ⊥) → number_in bytes ≡ None
not_eight bytes h = grind (arith, h)
