-- Bytes with and without a zero byte.
use Rattle.std.proofs.Common.{◌≡◌, ◌≢◌, ℕ, true, false, List, arith}
use Rattle.std.specs.Prelude.{◌==◌}
use Rattle.std.specs.List.{list_any}
use Rattle.std.proofs.lemmas.Bool.Decides.{nat_tests}
use Rattle.std.proofs.lemmas.List.Folds.{list_any_none, list_any_at}
use Rattle.pcp_base.specs.Texts.{IsText, IsFirstZero}

is_some_byte : (b : ℕ) → b ≢ 0 → b == 0 ≡ false
is_some_byte b h = grind (arith, nat_tests)

is_no_byte : (b : ℕ) → b ≡ 0 → b == 0 ≡ true
is_no_byte b h = grind (arith, nat_tests)

pub no_zero : (bytes : List ℕ) → IsText bytes → list_any (λ c. c == 0) bytes ≡ false
no_zero bytes h = list_any_none (λ c. c == 0) bytes (λ k d m. is_some_byte _ (h k d m))

pub has_zero : (bytes : List ℕ) (at : ℕ) → IsFirstZero bytes at → list_any (λ c. c == 0) bytes ≡ true
has_zero bytes at h = list_any_at (λ c. c == 0) bytes at 0 h.within (is_no_byte _ h.zero)
