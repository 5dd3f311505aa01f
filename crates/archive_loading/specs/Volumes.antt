-- What volumes are, as far as their labels go.
use Rattle.std.specs.Prelude.{◌≡◌, ◌⊎◌, ℕ, pos, ◌<◌, ◌≤◌, Bool, true, false, List, [], length, take, Contains}
use Rattle.pcp_base.specs.declared.file.FileId.TheVariants.{Index, Volume}
use Rattle.pcp_model.specs.Disk.{Files}
use Rattle.pcp_model.specs.LabelFields.{LabelFields}
use Rattle.pcp_model.specs.Labels.{IsLabel, BeginsLabel}
use Rattle.archive_loading.specs.declared.labels.Head.{Head}
use Rattle.archive_loading.specs.declared.labels.Head.TheVariants.{Whole, Part, Stops}
use Rattle.archive_loading.specs.declared.loading.VolumePart.{VolumePart}
use Rattle.archive_loading.specs.declared.loading.VolumePart.TheVariants.{Empty, Headed, Stops as StopsAt}
use Rattle.archive_loading.specs.declared.loading.VolumesPart.{VolumesPart}
use Rattle.archive_loading.specs.declared.loading.VolumesPart.TheVariants.{Headed as AllHeaded, Stops as OneStops}
use Rattle.archive_loading.specs.Loaded.{IsLabelled, AreLabelled, IsReachable, Rises, numbers}
use Rattle.archive_loading.specs.LoadFaults.{LabelStops, VolumeStops, AreLabelledBelow}

abbrev pub IsVolumeHead : List ℕ → LabelFields → ℕ → Head → Type 0
IsVolumeHead bytes l n Whole = IsLabel bytes l (pos n)
IsVolumeHead bytes l n Part = BeginsLabel bytes l (pos n)
IsVolumeHead bytes l n (Stops offset) = LabelStops bytes l (pos n) offset ⊎ ((2147483648 ≤ n) × (offset ≡ 0))

abbrev pub IsVolumePart : Files → LabelFields → ℕ → Bool → VolumePart → Type 0
IsVolumePart files l n is_last Empty = files (Volume n) ≡ []
IsVolumePart files l n is_last (Headed end) = (end ≡ length (files (Volume n))) × (0 < end)
    × (IsLabelled (files (Volume n)) l n ⊎ (BeginsLabel (files (Volume n)) l (pos n) × (is_last ≡ true)))
IsVolumePart files l n is_last (StopsAt offset) = (0 < length (files (Volume n)))
    × (LabelStops (take 132 (files (Volume n))) l (pos n) offset
    ⊎ ((offset ≡ length (files (Volume n))) × BeginsLabel (files (Volume n)) l (pos n) × (is_last ≡ false))
    ⊎ ((2147483648 ≤ n) × (offset ≡ 0)))

-- all volumes, or the first that isn't as it should be
abbrev pub IsVolumesPart : Files → LabelFields → VolumesPart → Type 0
IsVolumesPart files l (AllHeaded volumes) = AreLabelled files l volumes × ((n : ℕ) → (Contains (numbers volumes) n → ⊥) → files (Volume n) ≡ [])
IsVolumesPart files l (OneStops n offset) = AreLabelledBelow files l n × VolumeStops files l n offset

abbrev pub IsReachablePart : VolumesPart → Type 0
IsReachablePart (AllHeaded volumes) = IsReachable volumes
IsReachablePart (OneStops n offset) = Unit {0}

-- by ascending number
abbrev pub AreRising : VolumesPart → Type 0
AreRising (AllHeaded volumes) = Rises volumes
AreRising (OneStops n offset) = Unit {0}

-- only Meta may hold a byte
pub record IsAlone (files : Files) : Type 0 where
  pub index : files Index ≡ []
  pub volumes : (n : ℕ) → files (Volume n) ≡ []
