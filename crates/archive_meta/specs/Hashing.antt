-- How words are spread over a table: of a run of 64 each four stand together, and the next four beside them.
use Rattle.std.specs.Prelude.{ℕ, ◌+◌, ◌*◌, ◌/◌, ◌%◌}

-- a word of which one more byte has come, the lowest first
abbrev pub next_word : ℕ → ℕ → ℕ
next_word word b = word / 256 + b * 16777216

abbrev pub spread : ℕ → ℕ
spread word = word / 64 * 86476435957 / 65536 + (word / 4 % 16 + word % 4 * 16777216)
