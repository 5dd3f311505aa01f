-- The words of bytes, and of what is left of them.
use Rattle.std.proofs.Common.{◌≡◌, ℕ, ◌+◌, ◌≤◌, cond, List, length, take, drop, Some, None, ap, ◌∙◌, arith}
use Rattle.std.specs.Int.{w32, from_be_bytes}
use Rattle.std.proofs.lemmas.Bool.{le-ltb}
use Rattle.std.proofs.lemmas.List.{drop-drop, length-drop}
use Rattle.pcp_base.specs.Fields.{number_at}
use Rattle.result_form.specs.Shown.{or_zero, word_in}

pub word_whole : (bytes : List ℕ) (at : ℕ) → at + 4 ≤ length bytes → word_in bytes at ≡ number_at bytes at
unfolding word_in
word_whole bytes at h = ap (λ b. or_zero (cond b None (Some (number_at bytes at)))) (le-ltb _ _ h)

-- a word behind the front of what is left
pub word_left : (bytes : List ℕ) (at k next : ℕ) → next ≡ at + k → next + 4 ≤ length bytes → word_in (drop at bytes) k ≡ number_at bytes next
word_left bytes at k next step h =
    let room : k + 4 ≤ length (drop at bytes) = omega (arith, length-drop at bytes) in
    let same : at + k ≡ next = omega arith in
    word_whole (drop at bytes) k room ∙ ap (λ t. from_be_bytes w32 (take 4 t)) (drop-drop k at bytes ∙ ap (λ n. drop n bytes) same)
