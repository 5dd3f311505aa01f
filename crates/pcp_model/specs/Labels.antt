-- The label, the first record of each file of an archive (LOGARCHIVE(5)).
use Rattle.std.specs.Prelude.{◌≡◌, ℕ, ℤ, pos, negsuc, ◌<◌, List, ◌∷◌, ◌++◌, length, FitsSigned}
use Rattle.std.specs.Int.{w32}
use Rattle.pcp_base.specs.Texts.{IsText}
use Rattle.pcp_base.specs.Time.{IsMoment}
use Rattle.pcp_base.specs.declared.file.FileId.{FileId}
use Rattle.pcp_base.specs.declared.file.FileId.TheVariants.{Meta, Index, Volume}
use Rattle.pcp_model.specs.Words.{word, signed_word, text_field}
use Rattle.pcp_model.specs.Frame.{frame}
use Rattle.pcp_model.specs.LabelFields.{LabelFields}

-- the number by which a label tells its file: -1 Meta, -2 Index, else the volume's
abbrev pub label_number : FileId → ℤ
label_number Meta = negsuc 0
label_number Index = negsuc 1
label_number (Volume k) = pos k

-- the fields before the two texts; the first says "an archive of version 2"
abbrev pub label_head : LabelFields → ℤ → List ℕ
label_head l number =
    word 1342514690 ++ (word l.pid ++ (word l.start.sec ++ (word l.start.usec ++ signed_word number)))

-- The writer's label: both texts are filled with zeros
unfoldable pub label : LabelFields → ℤ → List ℕ
label l number = frame (label_head l number ++ (text_field 64 l.host ++ text_field 40 l.zone))

-- a text of a field: what follows its first zero byte isn't looked at
pub record HasText (width : ℕ) (field text : List ℕ) : Type 0 where
  pub wide : length field ≡ width
  pub clean : IsText text
  pub ended : (more : List ℕ) × (field ≡ text ++ 0 ∷ more)

-- these bytes are a label that says this
pub record IsLabel (bytes : List ℕ) (l : LabelFields) (number : ℤ) : Type 0 where
  pub number_fits : FitsSigned w32 number
  pub pid : l.pid < 4294967296
  pub start : IsMoment l.start
  pub host : List ℕ
  pub zone : List ℕ
  pub has_host : HasText 64 host l.host
  pub has_zone : HasText 40 zone l.zone
  pub is : bytes ≡ frame (label_head l number ++ (host ++ zone))

-- fewer bytes than a label, as such a label begins
pub record BeginsLabel (bytes : List ℕ) (l : LabelFields) (number : ℤ) : Type 0 where
  pub short : length bytes < 132
  pub more : List ℕ
  pub label : IsLabel (bytes ++ more) l number
