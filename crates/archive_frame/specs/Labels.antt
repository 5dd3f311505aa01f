-- Reading a label (LOGARCHIVE(5)): its fields stand one behind another.
use Rattle.std.specs.Prelude.{◌≡◌, ℕ, ℤ, negsuc, ◌+◌, ◌<◌, ◌≤◌, ◌≤ℤ◌, List, length, take, drop, Result, Ok, Err, FitsSigned}
use Rattle.std.specs.Int.{w32, cast_signed}
use Rattle.pcp_base.specs.Texts.{IsText}
use Rattle.pcp_base.specs.Time.{IsMoment}
use Rattle.pcp_model.specs.Words.{word}
use Rattle.pcp_model.specs.LabelFields.{LabelFields, FitsLabel}
use Rattle.pcp_model.specs.Labels.{HasText, IsLabel}
use Rattle.archive_frame.specs.Misfits.{IsFirstMisfit}
use Rattle.archive_frame.specs.declared.fault.FrameFault.{FrameFault}
use Rattle.archive_frame.specs.declared.fault.FrameFault.TheVariants.{Torn, Size, Lengths, Label, NoMemory}
use Rattle.archive_frame.specs.declared.parts.Wanted.{Wanted}
use Rattle.archive_frame.specs.declared.parts.Wanted.TheVariants.{Any, Meta}
use Rattle.archive_frame.specs.declared.reading.Said.{Said}

-- what a label can say: each number fits its word, and the texts their fields
pub record LabelInRange (l : LabelFields) (number : ℤ) : Type 0 where
  pub pid : l.pid < 4294967296
  pub start : IsMoment l.start
  pub host : IsText l.host
  pub zone : IsText l.zone
  pub fits : FitsLabel l
  pub signed : FitsSigned w32 number

-- the number of a file: -1 Meta, -2 the index, else a volume's
abbrev pub IsFileNumber : ℤ → Type 0
IsFileNumber number = negsuc 1 ≤ℤ number

abbrev pub IsMetaNumber : ℤ → Type 0
IsMetaNumber number = number ≡ negsuc 0

-- the numbers of the labels that are looked for
abbrev pub IsWanted : Wanted → ℤ → Type 0
IsWanted Any number = IsFileNumber number
IsWanted Meta number = IsMetaNumber number

-- a label with such a number
abbrev pub IsLabelOf : (ℤ → Type 0) → List ℕ → Type 0
IsLabelOf Such bytes = (l : LabelFields) × (number : ℤ) × Such number × IsLabel bytes l number

-- some label
abbrev pub IsSomeLabel : List ℕ → Type 0
IsSomeLabel = IsLabelOf IsFileNumber

-- the refusal of bytes that are none of these labels; memory is asked for a label alone
abbrev pub IsLabelFault : (List ℕ → Type 0) → List ℕ → FrameFault → Type 0
IsLabelFault Labels bytes (Torn at) = ⊥
IsLabelFault Labels bytes (Size at found) = ⊥
IsLabelFault Labels bytes (Lengths at head tail) = ⊥
IsLabelFault Labels bytes (Label at) = IsFirstMisfit Labels bytes at
IsLabelFault Labels bytes NoMemory = Labels bytes

-- what a label says was read, unless memory ran out
abbrev pub IsRead : LabelFields → ℤ → Result (LabelFields × ℤ) FrameFault → Type 0
IsRead l number (Ok read) = (read.0 ≡ l) × (read.1 ≡ number)
IsRead l number (Err fault) = fault ≡ NoMemory

-- a word that says at most this
abbrev pub IsUpTo : ℕ → List ℕ → Type 0
IsUpTo most field = (n : ℕ) × (n ≤ most) × (field ≡ word n)

-- the word of such a number
abbrev pub IsNumberField : (ℤ → Type 0) → List ℕ → Type 0
IsNumberField Such field = (n : ℕ) × (n < 4294967296) × Such (cast_signed w32 n) × (field ≡ word n)

-- it stands at byte 20
abbrev pub IsNumberOf : (ℤ → Type 0) → List ℕ → ℕ → Type 0
IsNumberOf Such bytes n = (24 ≤ length bytes) × (n < 4294967296) × Such (cast_signed w32 n) × (take 4 (drop 20 bytes) ≡ word n)

-- a field of fixed width with some text
abbrev pub IsTextField : ℕ → List ℕ → Type 0
IsTextField width field = (text : List ℕ) × HasText width field text

-- the refusal of the field that should stand at a byte
abbrev pub IsFieldFault : (List ℕ → Type 0) → ℕ → List ℕ → ℕ → FrameFault → Type 0
IsFieldFault Field width bytes at (Torn offset) = ⊥
IsFieldFault Field width bytes at (Size offset found) = ⊥
IsFieldFault Field width bytes at (Lengths offset head tail) = ⊥
IsFieldFault Field width bytes at (Label offset) = (k : ℕ) × (offset ≡ at + k) × IsFirstMisfit Field (take width (drop at bytes)) k
IsFieldFault Field width bytes at NoMemory = ⊥

-- the refusal of bytes that are none of these texts
abbrev pub IsMisfit : (List ℕ → Type 0) → List ℕ → FrameFault → Type 0
IsMisfit Texts bytes (Torn at) = ⊥
IsMisfit Texts bytes (Size at found) = ⊥
IsMisfit Texts bytes (Lengths at head tail) = ⊥
IsMisfit Texts bytes (Label at) = IsFirstMisfit Texts bytes at
IsMisfit Texts bytes NoMemory = ⊥

-- the fields of a label that was looked at, whose texts stand in its bytes
abbrev pub fields_said : List ℕ → Said → LabelFields
fields_said bytes s = record { pid = s.pid; start = s.start; host = take s.host (drop 24 bytes); zone = take s.zone (drop 88 bytes) }
