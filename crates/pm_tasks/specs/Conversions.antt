-- Commands that make their output of their input: what they answer of it.
use Rattle.std.specs.Prelude.{◌≡◌, ℕ, List, Option, Some, None, Result, Ok, Err}
use Rattle.pm_words.specs.declared.refusal.Refusal.{Refusal}
use Rattle.pm_words.specs.Inputs.{Refuses}

-- an input that isn't refused is converted, and one that is is turned away with its refusal; or memory ran out
abbrev pub Converts : (List ℕ → Option Refusal) → (List ℕ → List ℕ) → List ℕ → Result (List ℕ) Refusal → Type 0
Converts refuses make input (Ok text) = (refuses input ≡ None) × (text ≡ make input)
Converts refuses make input (Err e) = Refuses (Some refuses) input e
