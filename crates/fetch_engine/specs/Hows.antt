-- What a reading of a region showed: the words that are kept then, or nothing where it was missed.
use Rattle.std.specs.Prelude.{ℕ, List, Option, Some, None}
use Rattle.fetch_engine.specs.declared.visits.How.{How}

abbrev pub shown_by : Option How → Option (List ℕ) → Option (List ℕ)
shown_by None kept = None
shown_by (Some how) kept = kept
