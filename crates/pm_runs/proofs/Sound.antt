-- The files that are left are whole, and stay sound.
use Rattle.std.proofs.Common.{ℕ, List, subst}
use Rattle.pcp_base.specs.declared.result.Item.{Item}
use Rattle.pcp_model.specs.Archive.{ArchiveReading, Reads}
use Rattle.pcp_model.specs.Disk.{Files, contents_of}
use Rattle.pcp_model.specs.Recovered.{Recovers, recovered_reading}
use Rattle.pcp_model.specs.Sound.{IsSound}
use Rattle.pcp_model.proofs.OneReading.{one_reading}
use Rattle.pcp_model.proofs.Recovered.{recovery_reads, recovery_stays}
use Rattle.pcp_outside.proofs.Images.{image_now}
use Rattle.pcp_outside.specs.declared.disk.Disk.{Ghosts as DiskGhosts}
use Rattle.logging_session.specs.Crashes.{IsAllAfter}
use Rattle.logging_session.specs.Events.{Event, items_by}
use Rattle.run_archive.specs.Outcomes.{IsFlushed}
use Rattle.pm_words.specs.Sides.{DiskSide}
use Rattle.pm_words.specs.Sound.{LeavesSound, RecoversSound}
use Rattle.pm_runs.specs.commands.recover.{IsMendedSide}

module _ (start after left : Files) (was reading : ArchiveReading) (read_at_start : Reads start was) (recovers : Recovers start was left) (reads : Reads after reading) (whole : Recovers after reading after) where
  stays_sound : (items : List Item) → IsAllAfter items start after → RecoversSound start → IsSound after reading
  stays_sound items all good =
      let back = all was read_at_start left recovers in
      let holds = back.comes after (subst (λ (r : ArchiveReading). Recovers after r after) (one_reading after reading back.reading reads back.reads) whole) in
      subst (λ (r : ArchiveReading). IsSound after r) (one_reading after (recovered_reading after back.reading) reading holds.reads reads) (holds.sound (good was read_at_start left recovers))

module _ {D : Type 0} (d : DiskGhosts D) (limit : ℕ) (events : List Event) (more : List Item) (old new : D) where
  pub run_leaves_sound : (left : Files) (reading : ArchiveReading) → Reads (contents_of (d.held old)) reading → Recovers (contents_of (d.held old)) reading left → IsFlushed d limit events more old new left → LeavesSound (contents_of (d.held old)) (contents_of (d.held new))
  run_leaves_sound left reading was recovers x = record {
    reading = x.whole.0;
    reads = x.whole.1;
    whole = x.whole.2;
    sound = stays_sound (contents_of (d.held old)) (contents_of (d.held new)) left reading x.whole.0 was recovers x.whole.1 x.whole.2 (items_by events) (x.survive (contents_of (d.held new)) (image_now (d.held new)));
  }

pub mended_is_sound : (d : DiskSide) → IsMendedSide d → LeavesSound (contents_of d.held) (contents_of d.after)
mended_is_sound d m = record {
  reading = recovered_reading (contents_of d.held) m.reading;
  reads = recovery_reads (contents_of d.held) (contents_of d.after) m.reading m.was m.recovered;
  whole = recovery_stays (contents_of d.held) (contents_of d.after) m.reading m.was m.recovered;
  sound = λ good. good m.reading m.was (contents_of d.after) m.recovered;
}
