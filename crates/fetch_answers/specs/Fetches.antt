-- Why a fetch isn't answered.
use Rattle.std.specs.Prelude.{◌≡◌, ◌<◌, ℕ}
use Rattle.fetch_answers.specs.declared.fetch.FetchFault.{FetchFault}
use Rattle.fetch_answers.specs.declared.fetch.FetchFault.TheVariants.{TooMany, NoMemory}

-- more than 1,024 metrics were asked for, or memory was refused
abbrev pub IsFetchFault : ℕ → FetchFault → Type 0
IsFetchFault asked (TooMany count) = (1024 < asked) × (count ≡ asked)
IsFetchFault asked NoMemory = Unit {0}
