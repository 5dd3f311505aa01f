-- The records of a file with their stamps, and places among them.
use Rattle.std.specs.Prelude.{◌≡◌, ◌⊎◌, ℕ, ◌<◌, ◌≤◌, List, [], ◌∷◌, ◌++◌, length, drop, Option, Some, None, option_to_list}
use Rattle.pcp_base.specs.Fields.{number_at}
use Rattle.pcp_base.specs.Time.{Moment}
use Rattle.pcp_base.specs.declared.file.FileId.{FileId}
use Rattle.pcp_base.specs.declared.file.FileId.TheVariants.{Meta, Index, Volume}
use Rattle.pcp_base.specs.declared.result.Item.{Item}
use Rattle.pcp_model.specs.declared.records.MetaRecord.{MetaRecord}
use Rattle.pcp_model.specs.Archive.{AreRead}
use Rattle.pcp_model.specs.Frame.{frames, IsTorn}
use Rattle.pcp_model.specs.Payload.{stamp_of, IsItem}
use Rattle.pcp_model.specs.Records.{IsRecord}
use Rattle.pcp_model.specs.Sound.{IsBoundary}
use Rattle.archive_loading.specs.Stamps.{domain_stamps}

-- the stamps that a record has: of Meta one where it is a domain's, of a volume its item's
abbrev pub Stamps : FileId → List ℕ → List Moment → Type 0
Stamps Meta payload stamps = (r : MetaRecord) × IsRecord payload r × (stamps ≡ domain_stamps (r ∷ []))
Stamps Index payload stamps = ⊥
Stamps (Volume n) payload stamps = (x : Item) × IsItem payload x × (stamps ≡ stamp_of x ∷ [])

-- bytes are a file's framed records, each by its stamps, and then the beginning of one at most
pub record Holds (file : FileId) (rest : List ℕ) (records : List (List Moment)) : Type 0 where
  pub payloads : List (List ℕ)
  pub read : AreRead (Stamps file) payloads records
  pub torn : List ℕ
  pub is_torn : IsTorn torn
  pub stand : rest ≡ frames payloads ++ torn

-- these of the records stand before an offset, and the others behind it
pub record IsAt (file : FileId) (bytes : List ℕ) (records : List (List Moment)) (at : ℕ) (front : List (List Moment)) : Type 0 where
  pub boundary : IsBoundary bytes at (length front)
  pub behind : List (List Moment)
  pub are : records ≡ front ++ behind
  pub rest : Holds file (drop at bytes) behind

-- the next record has this stamp, if any, and is followed by that offset; or there is none
abbrev pub IsStep : FileId → List ℕ → List (List Moment) → List (List Moment) → Option (Option Moment × ℕ) → Type 0
IsStep file bytes records front None = records ≡ front
IsStep file bytes records front (Some step) = IsAt file bytes records step.1 (front ++ option_to_list step.0 ∷ [])

-- a step from an offset, whatever stands before it
abbrev pub Steps : FileId → List ℕ → ℕ → Option (Option Moment × ℕ) → Type 0
Steps file bytes at found = (records front : List (List Moment)) → IsAt file bytes records at front → IsStep file bytes records front found

-- The words with which an item's record begins say its stamp and its length. Or the length is no record's, or more than is left, or they say
-- no moment.
abbrev pub IsHead : List ℕ → ℕ → Option (Moment × ℕ) → Type 0
IsHead front left None = (number_at front 0 < 12) ⊎ (left < number_at front 0) ⊎ (2147483648 ≤ number_at front 4) ⊎ (1000000 ≤ number_at front 8)
IsHead front left (Some head) = (head.0 ≡ record { sec = number_at front 4; usec = number_at front 8 }) × (head.1 ≡ number_at front 0) × (12 ≤ head.1) × (head.1 ≤ left)

-- all stamps of records
abbrev pub all_of : List (List Moment) → List Moment
all_of [] = []
all_of (stamps ∷ records) = stamps ++ all_of records
