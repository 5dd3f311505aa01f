-- Recovery of what survives.
use Rattle.std.proofs.Common.{◌≡◌, ◌≤◌, ℕ, List, length, sym, ◌∙◌, subst}
use Rattle.std.specs.List.{AllByRecursion}
use Rattle.pcp_base.specs.declared.result.Item.{Item}
use Rattle.pcp_model.specs.declared.records.MetaRecord.{MetaRecord}
use Rattle.pcp_model.specs.Archive.{ArchiveReading, Reads, scan, records_in}
use Rattle.pcp_model.specs.Described.{Described}
use Rattle.pcp_model.specs.Disk.{Files}
use Rattle.pcp_model.specs.Recovered.{Recovers, recovered_reading}
use Rattle.pcp_model.proofs.OneReading.{one_reading}
use Rattle.pcp_model.proofs.Recovered.{recovery_is_kept}
use Rattle.archive_recovery.proofs.KeepsSound.{recovery_keeps_sound}
use Rattle.logger_core.specs.Keeps.{Start, WasDescribed}
use Rattle.logger_core.specs.Laws.{Survives}
use Rattle.logger_core.specs.Recovering.{HoldsFirst}

module _ (s : Start) (all : List Item) (acknowledged : ℕ) (image left : Files) (w : Survives s all acknowledged image) (recovers : Recovers image (ArchiveReading.archive w.new) left) where
  abbrev reading : ArchiveReading
  reading = ArchiveReading.archive w.new

  abbrev found : ArchiveReading
  found = recovered_reading image reading

  kept : Reads left found × (scan found ≡ scan reading) × (records_in found ≡ records_in reading)
  kept = recovery_is_kept image left reading w.is recovers

  recovered_first : HoldsFirst s all acknowledged left found
  recovered_first = record {
    reads = kept.0;
    q = w.q;
    items = kept.1 ∙ w.items;
    enough = subst (λ (xs : List Item). acknowledged ≤ length xs) (sym kept.1) w.enough;
    described = subst (λ (xs : List Item). AllByRecursion (λ x. WasDescribed s x → Described (records_in found) x) xs) (sym kept.1)
        (subst (λ (rs : List MetaRecord). AllByRecursion (λ x. WasDescribed s x → Described rs x) (scan reading)) (sym kept.2) w.described);
    sound = λ was. recovery_keeps_sound image left w.new w.is (w.sound was) (w.labelled was) recovers;
  }

pub survivors_recovered : (s : Start) (all : List Item) (acknowledged : ℕ) (image left : Files) (r : ArchiveReading) → Survives s all acknowledged image → Reads image r → Recovers image r left → HoldsFirst s all acknowledged left (recovered_reading image r)
survivors_recovered s all acknowledged image left r w reads recovers =
    let same : r ≡ ArchiveReading.archive w.new = one_reading image r (ArchiveReading.archive w.new) reads w.is in
    subst (λ (q : ArchiveReading). HoldsFirst s all acknowledged left (recovered_reading image q)) (sym same) (recovered_first s all acknowledged image left w (subst (λ (q : ArchiveReading). Recovers image q left) same recovers))
