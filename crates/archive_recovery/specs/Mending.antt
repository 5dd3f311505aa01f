-- What recovery writes: what stands behind whole records is cut off, and labels that are missing are given.
use Rattle.std.specs.Prelude.{◌≡◌, ◌⊎◌, ℕ, List, take, Bool, true, false, Option, Some, None, unwrap_or}
use Rattle.pcp_base.specs.declared.file.FileId.{FileId}
use Rattle.pcp_base.specs.declared.file.FileId.TheVariants.{Index, Volume}
use Rattle.pcp_model.specs.Disk.{Files, Held, Holdings, CrashImage}
use Rattle.pcp_model.specs.Written.{same_file}
use Rattle.pcp_outside.specs.Devices.{Becomes, cut_to, made_sure, holdings_after_append}
use Rattle.archive_recovery.specs.declared.mending.Last.{Last}

-- files that agree but for one
abbrev pub SameBut : FileId → Files → Files → Type 0
SameBut file a b = (g : FileId) → same_file file g ≡ false → a g ≡ b g

-- a crash of the disk, and one file of it cut or not
pub record MayBeCut (file : FileId) (end : ℕ) (held : Holdings) (image : Files) : Type 0 where
  pub before : Files
  pub left : CrashImage held before
  pub others : SameBut file image before
  pub this : (image file ≡ before file) ⊎ (image file ≡ take end (before file))

-- the index cut behind its whole entries, or its label given, all of it sure
abbrev pub mended_index : Option ℕ → List ℕ → Held → Held
mended_index (Some end) label h = cut_to end h
mended_index None label h = made_sure (cut_to 0 h) label

abbrev pub IsIndexBetween : Option ℕ → List ℕ → List ℕ → List ℕ → Type 0
IsIndexBetween (Some end) label was now = (now ≡ was) ⊎ (now ≡ take end was)
IsIndexBetween None label was now = (now ≡ was) ⊎ ((n : ℕ) × (now ≡ take n label))

-- a crash of the disk, and the index of it as it was, or on its way to that
pub record IndexMayBe (end : Option ℕ) (label : List ℕ) (held : Holdings) (image : Files) : Type 0 where
  pub before : Files
  pub left : CrashImage held before
  pub others : SameBut Index image before
  pub this : IsIndexBetween end label (before Index) (image Index)

-- the last volume cut behind its whole records, or altogether where its label isn't whole
abbrev pub LastIsMended : Option Last → Holdings → Holdings → Type 0
LastIsMended None old new = new ≡ old
LastIsMended (Some last) old new = Becomes (Volume last.number) (cut_to (unwrap_or last.end 0) (old (Volume last.number))) old new

abbrev pub LastMayBe : Option Last → Holdings → Files → Type 0
LastMayBe None held image = CrashImage held image
LastMayBe (Some last) held image = MayBeCut (Volume last.number) (unwrap_or last.end 0) held image

-- the first volume's label given, where no volume has one
abbrev pub FirstIsGiven : Bool → List ℕ → Holdings → Holdings → Type 0
FirstIsGiven true label old new = Becomes (Volume 0) (made_sure (old (Volume 0)) label) old new
FirstIsGiven false label old new = new ≡ old

-- the one and then the other
pub record VolumesAreMended (last : Option Last) (bare : Bool) (label : List ℕ) (old new : Holdings) : Type 0 where
  pub mid : Holdings
  pub first : LastIsMended last old mid
  pub second : FirstIsGiven bare label mid new

-- what a crash leaves meanwhile
abbrev pub VolumesMayBe : Option Last → Bool → List ℕ → Holdings → Files → Type 0
VolumesMayBe last bare label held image =
    LastMayBe last held image ⊎ ((bare ≡ true) × (mid : Holdings) × LastIsMended last held mid × CrashImage (holdings_after_append (Volume 0) label mid) image)
