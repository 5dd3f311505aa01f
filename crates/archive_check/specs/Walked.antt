-- What a pass over files' records leaves.
use Rattle.std.specs.Prelude.{◌≡◌, ℕ, List, [], ◌∷◌, ◌++◌, take, drop, Option, Some, None}
use Rattle.pcp_base.specs.Time.{Moment}
use Rattle.pcp_base.specs.declared.file.FileId.{FileId}
use Rattle.pcp_base.specs.declared.file.FileId.TheVariants.{Volume}
use Rattle.pcp_base.specs.declared.result.Item.{Item}
use Rattle.pcp_model.specs.Disk.{Files}
use Rattle.pcp_model.specs.Payload.{stamp_of}
use Rattle.pcp_model.specs.Sound.{IsBoundary}
use Rattle.archive_check.specs.declared.marks.Mark.{Mark}
use Rattle.archive_check.specs.declared.marks.Mark.TheVariants.{Ahead, Passed}
use Rattle.archive_check.specs.declared.tally.Tally.{Tally}
use Rattle.archive_check.specs.Breaches.{AtBoundary}
use Rattle.archive_check.specs.Marks.{Known, code_of}
use Rattle.archive_check.specs.Stamped.{Holds, all_of}
use Rattle.archive_check.specs.Tallies.{IsTally, latest}

-- An offset is no boundary; or it is one, and this is the latest time of the stamps of records before it, and of other stamps before these.
abbrev pub MarkSays : List ℕ → List Moment → List (List Moment) → ℕ → Option Mark → Type 0
MarkSays bytes before records offset None = ⊥
MarkSays bytes before records offset (Some Ahead) = AtBoundary bytes offset → ⊥
MarkSays bytes before records offset (Some (Passed time)) = (k : ℕ) × IsBoundary bytes offset k × (time ≡ latest (before ++ all_of (take k records)))

-- a file's marks say so, and no others changed
pub record Walked (file : FileId) (bytes : List ℕ) (before records : List (List Moment)) (old new : Known) (t : Tally) : Type 0 where
  pub tally : IsTally (before ++ records) t
  pub marks : (offset : ℕ) → old (code_of file) offset ≡ Some Ahead → MarkSays bytes (all_of before) records offset (new (code_of file) offset)
  pub others : (code offset : ℕ) → (code_of file ≡ code → ⊥) → new code offset ≡ old code offset

abbrev pub IsWalked : FileId → List ℕ → Tally → Known → Known → Tally → Type 0
IsWalked file bytes tally old new t = (before records : List (List Moment)) → Holds file (drop 132 bytes) records → IsTally before tally → Walked file bytes before records old new t

-- ---- all volumes

-- the records of these items
abbrev pub stamped : List Item → List (List Moment)
stamped [] = []
stamped (x ∷ items) = (stamp_of x ∷ []) ∷ stamped items

-- the volumes have these items
abbrev pub HoldItems : Files → List (ℕ × ℕ) → List (ℕ × List Item) → Type 0
HoldItems files [] [] = Unit {0}
HoldItems files (v ∷ vs) (c ∷ cs) = (v.0 ≡ c.0) × Holds (Volume v.0) (drop 132 (files (Volume v.0))) (stamped c.1) × HoldItems files vs cs
HoldItems files [] (c ∷ cs) = ⊥
HoldItems files (v ∷ vs) [] = ⊥

-- one volume behind another was walked
abbrev pub AllWalked : Files → List (List Moment) → List (ℕ × List Item) → Known → Known → Tally → Type 0
AllWalked files before [] old new t = (new ≡ old) × IsTally before t
AllWalked files before (c ∷ cs) old new t =
    (mid : Known) × (u : Tally) × Walked (Volume c.0) (files (Volume c.0)) before (stamped c.1) old mid u × AllWalked files (before ++ stamped c.1) cs mid new t

abbrev pub AreWalked : Files → List (ℕ × ℕ) → Known → Known → Tally → Type 0
AreWalked files volumes old new t = (cs : List (ℕ × List Item)) → HoldItems files volumes cs → AllWalked files [] cs old new t
