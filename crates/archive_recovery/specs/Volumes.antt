-- What reading volumes record by record finds.
use Rattle.std.specs.Prelude.{◌≡◌, ◌⊎◌, ℕ, pos, ◌<◌, ◌≤◌, true, false, List, [], ◌∷◌, ◌++◌, length, take, drop, map, Contains, Option, Some, None}
use Rattle.std.specs.List.{AllByRecursion}
use Rattle.pcp_base.specs.declared.file.FileId.TheVariants.{Volume}
use Rattle.pcp_base.specs.declared.result.Item.{Item}
use Rattle.pcp_model.specs.Archive.{AreRead, LabelledFile, AreVolumes, items_of}
use Rattle.pcp_model.specs.Disk.{Files}
use Rattle.pcp_model.specs.Frame.{IsTorn, frames}
use Rattle.pcp_model.specs.LabelFields.{LabelFields}
use Rattle.pcp_model.specs.Labels.{BeginsLabel}
use Rattle.pcp_model.specs.Payload.{IsItem}
use Rattle.pcp_model.specs.Recovered.{IsMended, labelled_volumes}
use Rattle.archive_loading.specs.Standing.{NoItemStands}
use Rattle.archive_loading.specs.LoadFaults.{LabelStops}
use Rattle.archive_recovery.specs.declared.counting.ItemsRead.{ItemsRead}
use Rattle.archive_recovery.specs.declared.counting.ItemsRead.TheVariants.{Whole as WholeItems, Stops as ItemsStop}
use Rattle.archive_recovery.specs.declared.counting.VolumeRead.{VolumeRead}
use Rattle.archive_recovery.specs.declared.counting.VolumeRead.TheVariants.{Empty, Begun, Whole, Stops}
use Rattle.archive_recovery.specs.declared.reading.Earlier.{Earlier}
use Rattle.archive_recovery.specs.declared.reading.Earlier.TheVariants.{Whole as WholeEarlier, Stops as EarlierStop}
use Rattle.archive_recovery.specs.declared.reading.VolumesRead.{VolumesRead}
use Rattle.archive_recovery.specs.declared.reading.VolumesRead.TheVariants.{Whole as AllVolumes, Stops as OneStops}
use Rattle.archive_recovery.specs.declared.reading.Top.{Top}
use Rattle.archive_recovery.specs.declared.mending.Last.{Last}
use Rattle.archive_recovery.specs.declared.stamps.Tally.{Tally}
use Rattle.archive_recovery.specs.Counts.{CountsMore}
use Rattle.archive_recovery.specs.Damage.{IsVolumeEnd}
use Rattle.archive_recovery.specs.RecoverFaults.{AreWholeBelow, VolumeIsRefused}

-- behind a label stand the records of these items, up to a byte
pub record StandUpTo (bytes : List ℕ) (at : ℕ) (items : List Item) : Type 0 where
  pub payloads : List (List ℕ)
  pub read : AreRead IsItem payloads items
  pub is : drop 132 bytes ≡ frames payloads ++ drop at bytes

-- behind them stands at most a record that wasn't written whole
pub record ItemsEnd (bytes : List ℕ) (end : ℕ) (old new : Tally) : Type 0 where
  pub items : List Item
  pub stand : StandUpTo bytes end items
  pub low : 132 ≤ end
  pub within : end ≤ length bytes
  pub torn : IsTorn (drop end bytes)
  pub counted : CountsMore old items new

-- or something else
pub record ItemsBreak (bytes : List ℕ) (at : ℕ) : Type 0 where
  pub items : List Item
  pub stand : StandUpTo bytes at items
  pub low : 132 ≤ at
  pub goes_on : at < length bytes
  pub none : NoItemStands bytes at
  pub not_torn : IsTorn (drop at bytes) → ⊥

abbrev pub IsItemsRead : List ℕ → Tally → Tally → ItemsRead → Type 0
IsItemsRead bytes old new (WholeItems end) = ItemsEnd bytes end old new
IsItemsRead bytes old new (ItemsStop at) = ItemsBreak bytes at

-- a volume of its label and whole records, behind which at most one stands that wasn't written whole
pub record VolumeStands (bytes : List ℕ) (l : LabelFields) (n end size : ℕ) (old new : Tally) : Type 0 where
  pub items : List Item
  pub holds : LabelledFile IsItem bytes l (pos n) items (drop end bytes)
  pub low : 132 ≤ end
  pub within : end ≤ length bytes
  pub is_size : size ≡ length bytes
  pub torn : IsTorn (drop end bytes)
  pub counted : CountsMore old items new

-- of its label and whole records, and then something else
pub record VolumeBreaks (bytes : List ℕ) (l : LabelFields) (n offset : ℕ) : Type 0 where
  pub items : List Item
  pub whole : LabelledFile IsItem (take offset bytes) l (pos n) items []
  pub goes_on : offset < length bytes
  pub none : NoItemStands bytes offset
  pub not_torn : IsTorn (drop offset bytes) → ⊥

-- one volume, whether another follows it or not
abbrev pub IsVolumeRead : List ℕ → LabelFields → ℕ → Tally → Tally → VolumeRead → Type 0
IsVolumeRead bytes l n old new Empty = (bytes ≡ []) × (new ≡ old)
IsVolumeRead bytes l n old new (Begun size) = (size ≡ length bytes) × (0 < size) × BeginsLabel bytes l (pos n) × (new ≡ old)
IsVolumeRead bytes l n old new (Whole end size) = VolumeStands bytes l n end size old new
IsVolumeRead bytes l n old new (Stops offset) =
    ((0 < length bytes) × (LabelStops (take 132 bytes) l (pos n) offset ⊎ ((2147483648 ≤ n) × (offset ≡ 0)))) ⊎ VolumeBreaks bytes l n offset

-- each number is above those before it
abbrev pub Ascend : List (ℕ × List Item) → Type 0
Ascend [] = Unit {0}
Ascend (v ∷ vs) = AllByRecursion (λ (w : ℕ × List Item). v.0 < w.0) vs × Ascend vs

-- the last of these volumes, and where its records end
pub record TopIs (files : Files) (l : LabelFields) (volumes : List (ℕ × List Item)) (top : Top) : Type 0 where
  pub some : top.bare ≡ false
  pub before : List (ℕ × List Item)
  pub items : List Item
  pub are : volumes ≡ before ++ (top.volume, items) ∷ []
  pub left : List ℕ
  pub mended : IsMended IsItem (files (Volume top.volume)) l (pos top.volume) items left
  pub ends : top.length ≡ length left

-- where there is none, the first volume, which has a label alone
abbrev pub IsTopOf : Files → LabelFields → List (ℕ × List Item) → Top → Type 0
IsTopOf files l volumes top = ((volumes ≡ []) × (top.bare ≡ true) × (top.volume ≡ 0) × (top.length ≡ 132)) ⊎ TopIs files l volumes top

-- the volumes below a number are empty, or whole
pub record EarlierStand (files : Files) (l : LabelFields) (n : ℕ) (old new : Tally) (top : Top) : Type 0 where
  pub volumes : List (ℕ × List Item)
  pub each : AllByRecursion (λ (v : ℕ × List Item). LabelledFile IsItem (files (Volume v.0)) l (pos v.0) v.1 []) volumes
  pub ascend : Ascend volumes
  pub below : AllByRecursion (λ (v : ℕ × List Item). v.0 < n) volumes
  pub listed : (k : ℕ) → k < n → (files (Volume k) ≡ []) ⊎ Contains (map (λ (v : ℕ × List Item). v.0) volumes) k
  pub counted : CountsMore old (items_of volumes) new
  pub last : IsTopOf files l volumes top

abbrev pub IsEarlier : Files → LabelFields → ℕ → Tally → Tally → Earlier → Type 0
IsEarlier files l n old new (WholeEarlier top) = EarlierStand files l n old new top
IsEarlier files l n old new (EarlierStop k offset) = AreWholeBelow files l k × VolumeIsRefused files l k offset

-- the last volume that isn't empty, and where its whole records end
pub record LastEnds (files : Files) (l : LabelFields) (volumes : List (ℕ × List Item)) (last : Last) : Type 0 where
  pub before : List (ℕ × List Item)
  pub items : List Item
  pub are : volumes ≡ before ++ (last.number, items) ∷ []
  pub ends : IsVolumeEnd (files (Volume last.number)) l last.number items last.end
  pub size : last.length ≡ length (files (Volume last.number))

abbrev pub IsLastOf : Files → LabelFields → List (ℕ × List Item) → Option Last → Type 0
IsLastOf files l volumes None = volumes ≡ []
IsLastOf files l volumes (Some last) = LastEnds files l volumes last

pub record VolumesStand (files : Files) (l : LabelFields) (old new : Tally) (last : Option Last) (top : Top) : Type 0 where
  pub volumes : List (ℕ × List Item)
  pub are : AreVolumes files l volumes
  pub ascend : Ascend (labelled_volumes files volumes)
  pub others : (n : ℕ) → (Contains (map (λ (v : ℕ × List Item). v.0) volumes) n → ⊥) → files (Volume n) ≡ []
  pub counted : CountsMore old (items_of volumes) new
  pub ends : IsLastOf files l volumes last
  pub top_is : IsTopOf files l (labelled_volumes files volumes) top

-- all volumes, or the first offset that doesn't fit
abbrev pub IsVolumesRead : Files → LabelFields → Tally → Tally → VolumesRead → Type 0
IsVolumesRead files l old new (AllVolumes last top) = VolumesStand files l old new last top
IsVolumesRead files l old new (OneStops n offset) = AreWholeBelow files l n × VolumeIsRefused files l n offset

-- a number that a volume may have
abbrev pub LastIsLow : VolumesRead → Type 0
LastIsLow (AllVolumes None top) = Unit {0}
LastIsLow (AllVolumes (Some last) top) = last.number < 4294967295
LastIsLow (OneStops n offset) = Unit {0}
