-- The bytes of a block are few.
use Rattle.std.proofs.Common.{◌≡◌, ℕ, ◌+◌, ◌<◌, ◌≤◌, [], ◌∷◌, ◌++◌, List, length, length-append, ap, arith}
use Rattle.mmv_layout.specs.declared.rows.Content.{Content}
use Rattle.mmv_layout.specs.declared.rows.Content.TheVariants.{Number, Choice, Raw}
use Rattle.fetch_answers.specs.Bounds.{FitsContent}
use Rattle.fetch_answers.specs.Values.{bytes_of}

short : (content : Content) → FitsContent content → length (bytes_of content) ≤ 257
short (Number n) fits = omega arith
short (Choice text) fits = let sum : length (text ++ 0 ∷ []) ≡ length text + 1 = length-append text (0 ∷ []) in omega arith
short (Raw n extra) fits = omega arith

-- too many bytes can't be those of a content
pub short_bytes : (content : Content) (bytes : List ℕ) → bytes ≡ bytes_of content → FitsContent content → length bytes < 16777211
short_bytes content bytes is fits = let few : length (bytes_of content) ≤ 257 = short content fits in let same : length bytes ≡ length (bytes_of content) = ap length is in omega arith
