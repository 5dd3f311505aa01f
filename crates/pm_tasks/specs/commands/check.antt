-- `check` writes how many items an archive has that is sound, and turns all other files away.
use Rattle.std.specs.Prelude.{◌≡◌, ℕ, List, None, codes}
use Rattle.text_lines.specs.Spelling.{one_number}
use Rattle.archive_reader.specs.declared.fault.ReaderFault.TheVariants as reading
use Rattle.archive_check.specs.declared.fault.CheckFault.{CheckFault}
use Rattle.archive_check.specs.declared.fault.CheckFault.TheVariants as checking
use Rattle.archive_check.specs.Checks.{HoldsSound, IsCheckFault}
use Rattle.pm_words.specs.declared.refusal.Refusal.{Refusal}
use Rattle.pm_words.specs.declared.refusal.Refusal.TheVariants.{Compressed, NotArchive, UnsoundItems, UnsoundBoundary, UnsoundLate}
use Rattle.pm_tasks.specs.Archives.{looks, nothing_before, takes_any}
use Rattle.pm_words.specs.Meaning.{Meaning}
use Rattle.pm_words.specs.Sides.{Found}

-- the check of the files is refused so
abbrev pub IsRefused : Found → CheckFault → Type 0
IsRefused found fault = IsCheckFault found.wrapped found.files fault

-- a file stands wrapped, this offset fits no archive, or the files are readable and this is where they aren't sound
abbrev pub IsTurnedAway : Found → Refusal → Type 0
IsTurnedAway found (Compressed file) = IsRefused found (checking.Reader (reading.Compressed file))
IsTurnedAway found (NotArchive file at) = IsRefused found (checking.Reader (reading.NotArchive file at))
IsTurnedAway found (UnsoundItems first second) = IsRefused found (checking.Items first second)
IsTurnedAway found (UnsoundBoundary entry file below above) = IsRefused found (checking.Boundary entry file below above)
IsTurnedAway found (UnsoundLate entry stamp) = IsRefused found (checking.Late entry stamp)
IsTurnedAway found _ = ⊥

abbrev pub sound_line : ℕ → List ℕ
sound_line n = one_number (codes "sound") n

-- no file stands wrapped, the files are readable and sound, and they have so many items
abbrev pub IsOutput : Found → List ℕ → Type 0
IsOutput found text = (found.wrapped ≡ None) × (count : ℕ) × HoldsSound found.files count × (text ≡ sound_line count)

abbrev pub check : Meaning
check = looks IsTurnedAway IsOutput nothing_before takes_any
