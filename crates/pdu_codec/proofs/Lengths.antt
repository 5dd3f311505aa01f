-- Lists are no longer than what they take.
use Rattle.std.proofs.Common.{ℕ, ℤ, ◌*◌, ◌≤◌, List, [], ◌∷◌, length, arith}
use Rattle.profile_filter.specs.declared.profile.DomainPart.{DomainPart}
use Rattle.pdu_codec.specs.Spelling.{all_lengths, text_length, pair_length, part_length}

pub few_texts : (xs : List (List ℕ)) → 4 * length xs ≤ all_lengths text_length xs
few_texts [] = omega arith
few_texts (x ∷ xs) = omega (arith, few_texts xs)

pub few_pairs : (xs : List (ℤ × List ℕ)) → 4 * length xs ≤ all_lengths pair_length xs
few_pairs [] = omega arith
few_pairs (x ∷ xs) = omega (arith, few_pairs xs)

pub few_parts : (xs : List DomainPart) → 16 * length xs ≤ all_lengths part_length xs
few_parts [] = omega arith
few_parts (x ∷ xs) = omega (arith, few_parts xs)
