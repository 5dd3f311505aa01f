-- What holds of what a session keeps.
use Rattle.std.specs.Prelude.{◌≡◌, ℕ, ◌≤◌, List, ◌++◌}
use Rattle.pcp_base.specs.declared.file.FileId.{FileId}
use Rattle.pcp_base.specs.declared.result.Item.{Item}
use Rattle.pcp_model.specs.Archive.{ArchiveReading, Reads, scan}
use Rattle.pcp_model.specs.Disk.{Files, Holdings, CrashImage, contents_of}
use Rattle.pcp_model.specs.Recovered.{Recovers}
use Rattle.archive_recovery.specs.declared.outcome.Archive.{Archive}
use Rattle.archive_recovery.specs.Told.{WasRecovered}
use Rattle.logging_session.specs.declared.place.Place.{Place}
use Rattle.logging_session.specs.declared.place.Place.TheVariants.{Open}
use Rattle.logging_session.specs.Answers.{ComesBackBy}
use Rattle.logging_session.specs.ComingBack.{ComesBack, ComesBackTo, MayBeAfter, start_of}
use Rattle.logging_session.specs.Events.{Event, LeadFrom, items_by}
use Rattle.logging_session.specs.Keeping.{AreWhole, Carried, Keeps, held_in}
use Rattle.logging_session.specs.Written.{Stand, files_of}

-- Whatever a crash leaves of what the disk then holds comes back, with all that is acknowledged.
abbrev pub KeptSessionsSurvive : Type 0
KeptSessionsSurvive = (left : Files) (events : List Event) (s : Carried) (held : Holdings) (image : Files) → Keeps left events s held → CrashImage held image
    → ComesBackBy events left image

-- what is counted as acknowledged
abbrev pub sure_in : Place → ℕ
sure_in (Open b) = b.kept.ends.acknowledged
sure_in place = 0

-- It comes back with as many items as are counted so, those of the start among them.
abbrev pub KeptCountsSurvive : Type 0
KeptCountsSurvive = (left files image : Files) (events : List Event) (s : Carried) (held : Holdings) (r : ArchiveReading) → Keeps left events s held → CrashImage held image → Reads files r → Recovers files r left
    → ComesBack (start_of files r left) (scan r ++ items_by events) (sure_in s.place) image

-- where nothing is held the files on the disk are those to which the events lead
abbrev pub KeptFilesAreLed : Type 0
KeptFilesAreLed = (left : Files) (events : List Event) (s : Carried) (held : Holdings) → Keeps left events s held → held_in s.place ≡ 0
    → (stand : Stand) × LeadFrom s.label s.limit left events stand × ((file : FileId) → contents_of held file ≡ files_of stand file)

-- and recovery changes nothing of them, where it had left what it leaves alone
abbrev pub KeptFilesAreWhole : Type 0
KeptFilesAreWhole = (left : Files) (events : List Event) (s : Carried) (held : Holdings) → Keeps left events s held → AreWhole left → AreWhole (contents_of held)

-- What comes back to the first ones of some items comes back to those of more, with fewer of them at least. So what is acknowledged at one
-- moment stays so while others follow.
abbrev pub FewerComeBack : Type 0
FewerComeBack = (more rest : List Item) (j k : ℕ) (left image : Files) → j ≤ k → ComesBackTo more k left image → ComesBackTo (more ++ rest) j left image

-- What comes back to what recovery left comes back to what stood before it.
abbrev pub RecoveredComeBack : Type 0
RecoveredComeBack = (old mid : Holdings) (archive : Archive) (more : List Item) (k : ℕ) (image : Files) → WasRecovered (contents_of old) (contents_of mid) archive → ComesBackTo more k (contents_of mid) image → MayBeAfter more k old image
