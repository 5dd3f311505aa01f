-- From how a call ends to what its status tells.
use Rattle.std.proofs.Common.{◌≡◌, ◌⊎◌, inl, inr, ℕ, [], Result, Ok, Err}
use Rattle.pcp_outside.specs.Causes.{Rose}
use Rattle.pcp_outside.specs.Sides.{SinkSide}
use Rattle.archive_reader.specs.declared.fault.ReaderFault.TheVariants as reads
use Rattle.log_export.specs.declared.fault.ExportFault.{ExportFault}
use Rattle.log_export.specs.declared.fault.ExportFault.TheVariants as faults
use Rattle.log_export.specs.Exporting.{LeavesQuiet, WasFree}
use Rattle.pm_words.specs.declared.refusal.Refusal.{Refusal}
use Rattle.pm_words.specs.declared.refusal.Refusal.TheVariants.{Usage, NoMemory}
use Rattle.pm_words.specs.declared.words.Call.TheVariants as calls
use Rattle.pm_words.specs.CommandLine.{asked_by}
use Rattle.pm_words.specs.Telling.{TellsAll}
use Rattle.pm_exporting.specs.Ends.{CallSide, Ends, HasRun, IsRefused, IsUnrun, Orders, TellsRun}
use Rattle.pm_exporting.specs.Facts.{EndsDone, FilesCause, StandsCause, WriteFaultCause}

module _ {A D : Type 0} (c : CallSide A D) (k : SinkSide) where
  abbrev pub IsUsage : Type 0
  IsUsage = ((at : ℕ) × (asked_by calls.Export c.words ≡ Err at)) × IsUnrun c.export

  abbrev pub IsAway : Type 0
  IsAway = Orders c.words × (c.export.disk.tells → WasFree c.export) × FilesCause c k × LeavesQuiet c.export

  abbrev pub IsOccupied : Type 0
  IsOccupied = Orders c.words × StandsCause c k × ((c.export.source_is ≡ c.export.source_was) × LeavesQuiet c.export)

  abbrev pub HasFailed : Type 0
  HasFailed = Orders c.words × (Rose (c.export.source.faults c.export.source_was) (c.export.source.faults c.export.source_is) ⊎ Rose (c.export.disk.faults c.export.disk_was) (c.export.disk.faults c.export.disk_is))

  -- memory was refused, the words are bad, it is done, done but not told, the source is turned away, something stands there, or a disk failed
  abbrev pub Seen : ℕ → Type 0
  Seen n = (n ≡ 9) ⊎ (((n ≡ 1) × IsUsage) ⊎ (((n ≡ 0) × EndsDone c k) ⊎ (((n ≡ 4) × WriteFaultCause c k)
      ⊎ (((n ≡ 6) × (away : IsAway) × Unit {0}) ⊎ (((n ≡ 23) × (there : IsOccupied) × Unit {0}) ⊎ ((n ≡ 5) × (rose : HasFailed) × Unit {0}))))))

  refused_seen : (n : ℕ) (e : Refusal) → IsRefused c e → TellsAll k [] (Err e) n → Seen n
  refused_seen n (Usage at) r (inl (is, wrote)) = inr (inl (is, ((at, r.cause), r.unrun)))
  refused_seen n (Usage at) r (inr (is, some, silent)) = inl is
  refused_seen n NoMemory r (inl (is, wrote)) = inl is
  refused_seen n NoMemory r (inr (is, some, silent)) = inl is
  refused_seen n e r told = absurd r.cause

  ran_seen : (n : ℕ) (result : Result ℕ ExportFault) → HasRun c result → TellsRun k result n → Seen n
  ran_seen n (Ok count) r (inl (inl (is, quiet, wrote))) =
      inr (inr (inl (is, record { orders = r.orders; count = count; free = r.exports.1; exported = r.exports.2; wrote = wrote; quiet = r.exports.0; sink_quiet = quiet })))
  ran_seen n (Ok count) r (inl (inr (is, rose, front))) = inr (inr (inr (inl (is, record { count = count; ran = r; rose = rose; front = front }))))
  ran_seen n (Ok count) r (inr (is, untold)) = inl is
  ran_seen n (Err (faults.Stands file)) r (inl (is, wrote)) = inr (inr (inr (inr (inr (inl (is, (r.orders, (file, wrote, r.exports.2), (r.exports.1, r.exports.0)), tt))))))
  ran_seen n (Err (faults.Stands file)) r (inr (is, some, silent)) = inl is
  ran_seen n (Err (faults.Source (reads.Compressed file))) r (inl (is, wrote)) = inr (inr (inr (inr (inl (is, (r.orders, r.exports.1, inl (file, wrote, r.exports.2), r.exports.0), tt)))))
  ran_seen n (Err (faults.Source (reads.Compressed file))) r (inr (is, some, silent)) = inl is
  ran_seen n (Err (faults.Source (reads.NotArchive file at))) r (inl (is, wrote)) = inr (inr (inr (inr (inl (is, (r.orders, r.exports.1, inr (file, at, wrote, r.exports.2), r.exports.0), tt)))))
  ran_seen n (Err (faults.Source (reads.NotArchive file at))) r (inr (is, some, silent)) = inl is
  ran_seen n (Err (faults.Source reads.DiskFault)) r (inl (is, wrote)) = inr (inr (inr (inr (inr (inr (is, (r.orders, inl r.exports.1), tt))))))
  ran_seen n (Err (faults.Source reads.DiskFault)) r (inr (is, some, silent)) = inl is
  ran_seen n (Err (faults.Source reads.NoMemory)) r (inl (is, wrote)) = inl is
  ran_seen n (Err (faults.Source reads.NoMemory)) r (inr (is, some, silent)) = inl is
  ran_seen n (Err faults.DiskFault) r (inl (is, wrote)) = inr (inr (inr (inr (inr (inr (is, (r.orders, inr r.exports), tt))))))
  ran_seen n (Err faults.DiskFault) r (inr (is, some, silent)) = inl is

  pub seen : (n : ℕ) → Ends c k n → Seen n
  seen n (inl e) = refused_seen n e.refusal e.refused e.told
  seen n (inr e) = ran_seen n e.result e.ran e.told
