-- What is looked for in readable files: the boundaries around an offset, and the first stamp after a moment.
use Rattle.std.specs.Prelude.{◌≡◌, ℕ, List, drop, map, Option}
use Rattle.pcp_base.specs.Time.{Moment}
use Rattle.pcp_base.specs.declared.file.FileId.{FileId}
use Rattle.pcp_base.specs.declared.result.Item.{Item}
use Rattle.pcp_model.specs.Archive.{items_of}
use Rattle.pcp_model.specs.Disk.{Files}
use Rattle.pcp_model.specs.Payload.{stamp_of}
use Rattle.archive_check.specs.Breaches.{AtBoundary, IsBetween, first_after}
use Rattle.archive_check.specs.Stamped.{Holds, all_of}
use Rattle.archive_check.specs.Walked.{HoldItems}

abbrev pub LiesBetween : FileId → List ℕ → ℕ → ℕ × ℕ → Type 0
LiesBetween file bytes offset found = (records : List (List Moment)) → Holds file (drop 132 bytes) records → (AtBoundary bytes offset → ⊥) → IsBetween bytes offset found.0 found.1

abbrev pub IsFirstAfter : FileId → List ℕ → Moment → Option Moment → Type 0
IsFirstAfter file bytes t found = (records : List (List Moment)) → Holds file (drop 132 bytes) records → found ≡ first_after t (all_of records)

abbrev pub IsFirstItemAfter : Files → List (ℕ × ℕ) → Moment → Option Moment → Type 0
IsFirstItemAfter files volumes t found = (cs : List (ℕ × List Item)) → HoldItems files volumes cs → found ≡ first_after t (map stamp_of (items_of cs))
