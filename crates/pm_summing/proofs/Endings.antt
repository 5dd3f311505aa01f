-- From how a call ends to what its status tells.
use Rattle.std.proofs.Common.{◌≡◌, ◌⊎◌, inl, inr, ℕ, List, [], sym, ◌∙◌, Result, Ok, Err}
use Rattle.pcp_outside.specs.Causes.{Rose}
use Rattle.pcp_outside.specs.Sides.{SinkSide}
use Rattle.archive_reader.specs.declared.fault.ReaderFault.{ReaderFault}
use Rattle.archive_reader.specs.declared.fault.ReaderFault.TheVariants as faults
use Rattle.pm_words.specs.declared.refusal.Refusal.{Refusal}
use Rattle.pm_words.specs.declared.refusal.Refusal.TheVariants.{Usage, NoMemory}
use Rattle.pm_words.specs.declared.words.Call.TheVariants as calls
use Rattle.pm_words.specs.declared.words.SummaryWords.{SummaryWords}
use Rattle.pm_words.specs.CommandLine.{asked_by}
use Rattle.pm_words.specs.Telling.{TellsAll}
use Rattle.pm_summing.specs.Ends.{CallSide, Ends, EndsDone, HasRun, IsRefused, Orders, told_of}
use Rattle.pm_summing.specs.Facts.{FilesCause, WriteFaultCause}

module _ {D : Type 0} (c : CallSide D) (k : SinkSide) where
  -- the words are good
  abbrev pub AreAsked : Type 0
  AreAsked = (asked : SummaryWords) × Orders c.words asked

  abbrev pub IsUsage : Type 0
  IsUsage = ((at : ℕ) × (asked_by calls.Summary c.words ≡ Err at)) × (c.disk_is ≡ c.disk_was)

  -- memory was refused, the words are bad, it is done, done but not told, the files are turned away, or the disk failed
  abbrev pub Seen : ℕ → Type 0
  Seen n = (n ≡ 9) ⊎ (((n ≡ 1) × IsUsage) ⊎ (((n ≡ 0) × EndsDone c k) ⊎ (((n ≡ 4) × WriteFaultCause c k)
      ⊎ (((n ≡ 6) × AreAsked × FilesCause c k) ⊎ ((n ≡ 5) × AreAsked × Rose (c.disk.faults c.disk_was) (c.disk.faults c.disk_is))))))

  refused_seen : (n : ℕ) (e : Refusal) → IsRefused c e → TellsAll k [] (Err e) n → Seen n
  refused_seen n (Usage at) r (inl (is, wrote)) = inr (inl (is, ((at, r.cause), r.unrun)))
  refused_seen n (Usage at) r (inr (is, some, silent)) = inl is
  refused_seen n NoMemory r (inl (is, wrote)) = inl is
  refused_seen n NoMemory r (inr (is, some, silent)) = inl is
  refused_seen n e r told = absurd r.cause

  ran_seen : (n : ℕ) (result : Result (List ℕ) ReaderFault) → HasRun c result → TellsAll k [] (told_of result) n → Seen n
  ran_seen n (Ok text) r (inl (is, quiet, wrote)) =
      inr (inr (inl (is, record { asked = r.asked; orders = r.orders; text = text; sums = r.came.1; wrote = wrote; sink_quiet = quiet; disk_quiet = r.came.0 })))
  ran_seen n (Ok text) r (inr (is, rose, front)) = inr (inr (inr (inl (is, record { text = text; ran = r; rose = rose; front = front }))))
  ran_seen n (Err (faults.Compressed file)) r (inl (is, wrote)) = inr (inr (inr (inr (inl (is, (r.asked, r.orders), inl (file, wrote, r.came))))))
  ran_seen n (Err (faults.Compressed file)) r (inr (is, some, silent)) = inl is
  ran_seen n (Err (faults.NotArchive file at)) r (inl (is, wrote)) = inr (inr (inr (inr (inl (is, (r.asked, r.orders), inr (file, at, wrote, r.came))))))
  ran_seen n (Err (faults.NotArchive file at)) r (inr (is, some, silent)) = inl is
  ran_seen n (Err faults.DiskFault) r (inl (is, wrote)) = inr (inr (inr (inr (inr (is, (r.asked, r.orders), r.came)))))
  ran_seen n (Err faults.DiskFault) r (inr (is, some, silent)) = inl is
  ran_seen n (Err faults.NoMemory) r (inl (is, wrote)) = inl is
  ran_seen n (Err faults.NoMemory) r (inr (is, some, silent)) = inl is

  pub seen : (n : ℕ) → Ends c k n → Seen n
  seen n (inl e) = refused_seen n e.refusal e.refused e.told
  seen n (inr e) = ran_seen n e.result e.ran e.told
