-- What a logger means that retired no volume is given by the files.
use Rattle.std.proofs.Common.{◌≡◌, ℕ, Option, ap, ◌∙◌}
use Rattle.pcp_base.specs.Time.{Moment}
use Rattle.pcp_model.specs.Archive.{ArchiveContents, ArchiveReading, IsArchive}
use Rattle.pcp_model.specs.Disk.{Files}
use Rattle.logger_core.specs.declared.ends.Ends.{Ends}
use Rattle.logger_core.specs.Keeps.{Start}
use Rattle.logger_core.specs.Meant.{AreEnds, Meant}
use Rattle.logger_core.proofs.Greatest.{greatest_found}
use Rattle.logging_session.specs.Keeping.{meant_of}
use Rattle.logging_session.specs.Written.{Written}

abbrev of_parts : Start → Files → ArchiveContents → ℕ → ℕ → Option Moment → Meant
of_parts start files contents acknowledged gone greatest = record { start = start; files = files; contents = contents; acknowledged = acknowledged; gone = gone; greatest = greatest }

pub means_files : (first : Written) (m : Meant) (volume : ℕ) (e : Ends) → m.start ≡ record { files = first.files; reading = ArchiveReading.archive first.contents } → m.gone ≡ 0 → AreEnds m e → IsArchive m.files m.contents
    → m ≡ meant_of first (record { files = m.files; contents = m.contents; volume = volume }) m.acknowledged
means_files first m volume e start none ends is =
    ap (λ (s : Start). of_parts s m.files m.contents m.acknowledged m.gone m.greatest) start
    ∙ ap (λ (n : ℕ). of_parts (record { files = first.files; reading = ArchiveReading.archive first.contents }) m.files m.contents m.acknowledged n m.greatest) none
    ∙ ap (λ (t : Option Moment). of_parts (record { files = first.files; reading = ArchiveReading.archive first.contents }) m.files m.contents m.acknowledged 0 t) (greatest_found m.files m.contents is m.greatest (ends.found none))
