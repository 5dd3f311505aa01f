-- All facts of a call that sums an archive up follow from how it ends.
use Rattle.std.proofs.Common.{◌≡◌, ◌⊎◌, inl, inr, ⊎_elim, ℕ, sym, ◌∙◌, arith, Some, None, Ok, Err}
use Rattle.pcp_base.specs.declared.file.FileId.{FileId}
use Rattle.pcp_model.specs.Archive.{Readable}
use Rattle.pcp_outside.specs.Causes.{Rose}
use Rattle.pcp_outside.specs.Sides.{SinkSide}
use Rattle.archive_loading.specs.Looks.{Looks}
use Rattle.pm_words.specs.declared.refusal.Refusal.TheVariants.{Compressed, NotArchive}
use Rattle.pm_words.specs.declared.words.Call.TheVariants as calls
use Rattle.pm_words.specs.declared.words.Command.TheVariants.{Summary}
use Rattle.pm_words.specs.declared.words.SummaryWords.{SummaryWords}
use Rattle.pm_words.specs.CommandLine.{asked_by}
use Rattle.pm_summing.specs.Ends.{CallSide, Ends, EndsDone, Orders, files_of}
use Rattle.pm_summing.specs.Facts.{Facts, FilesCause, IsGoodSummary, IsTold, WriteFaultCause}
use Rattle.pm_summing.specs.Sums.{FitsNone}
use Rattle.pm_summing.proofs.Coming.{fits_all, not_both}
use Rattle.pm_summing.proofs.Endings.{AreAsked, IsUsage, Seen, seen}

module _ {D : Type 0} (c : CallSide D) (k : SinkSide) where
  -- words that are good aren't bad
  asked_well : (at : ℕ) (asked : SummaryWords) → asked_by calls.Summary c.words ≡ Err at → Orders c.words asked → ⊥
  asked_well at asked bad orders = let e : Err at ≡ Ok (Summary asked) = sym bad ∙ orders in cc

  -- ---- each status

  is_usage : (n : ℕ) → n ≡ 1 → Seen c k n → IsUsage c k
  is_usage n one (inl is) = absurd (omega (arith, one, is))
  is_usage n one (inr (inl (is, usage))) = usage
  is_usage n one (inr (inr (inl (is, done)))) = absurd (omega (arith, one, is))
  is_usage n one (inr (inr (inr (inl (is, cause))))) = absurd (omega (arith, one, is))
  is_usage n one (inr (inr (inr (inr (inl (is, asked, cause)))))) = absurd (omega (arith, one, is))
  is_usage n one (inr (inr (inr (inr (inr (is, asked, rose)))))) = absurd (omega (arith, one, is))

  is_done : (n : ℕ) → n ≡ 0 → Seen c k n → EndsDone c k
  is_done n zero (inl is) = absurd (omega (arith, zero, is))
  is_done n zero (inr (inl (is, usage))) = absurd (omega (arith, zero, is))
  is_done n zero (inr (inr (inl (is, done)))) = done
  is_done n zero (inr (inr (inr (inl (is, cause))))) = absurd (omega (arith, zero, is))
  is_done n zero (inr (inr (inr (inr (inl (is, asked, cause)))))) = absurd (omega (arith, zero, is))
  is_done n zero (inr (inr (inr (inr (inr (is, asked, rose)))))) = absurd (omega (arith, zero, is))

  is_unwritten : (n : ℕ) → n ≡ 4 → Seen c k n → WriteFaultCause c k
  is_unwritten n four (inl is) = absurd (omega (arith, four, is))
  is_unwritten n four (inr (inl (is, usage))) = absurd (omega (arith, four, is))
  is_unwritten n four (inr (inr (inl (is, done)))) = absurd (omega (arith, four, is))
  is_unwritten n four (inr (inr (inr (inl (is, cause))))) = cause
  is_unwritten n four (inr (inr (inr (inr (inl (is, asked, cause)))))) = absurd (omega (arith, four, is))
  is_unwritten n four (inr (inr (inr (inr (inr (is, asked, rose)))))) = absurd (omega (arith, four, is))

  is_away : (n : ℕ) → n ≡ 6 → Seen c k n → AreAsked c k × FilesCause c k
  is_away n six (inl is) = absurd (omega (arith, six, is))
  is_away n six (inr (inl (is, usage))) = absurd (omega (arith, six, is))
  is_away n six (inr (inr (inl (is, done)))) = absurd (omega (arith, six, is))
  is_away n six (inr (inr (inr (inl (is, cause))))) = absurd (omega (arith, six, is))
  is_away n six (inr (inr (inr (inr (inl (is, asked, cause)))))) = (asked, cause)
  is_away n six (inr (inr (inr (inr (inr (is, asked, rose)))))) = absurd (omega (arith, six, is))

  has_failed : (n : ℕ) → n ≡ 5 → Seen c k n → Rose (c.disk.faults c.disk_was) (c.disk.faults c.disk_is)
  has_failed n five (inl is) = absurd (omega (arith, five, is))
  has_failed n five (inr (inl (is, usage))) = absurd (omega (arith, five, is))
  has_failed n five (inr (inr (inl (is, done)))) = absurd (omega (arith, five, is))
  has_failed n five (inr (inr (inr (inl (is, cause))))) = absurd (omega (arith, five, is))
  has_failed n five (inr (inr (inr (inr (inl (is, asked, cause)))))) = absurd (omega (arith, five, is))
  has_failed n five (inr (inr (inr (inr (inr (is, asked, rose)))))) = rose

  -- ---- always

  bad_words : (n at : ℕ) → asked_by calls.Summary c.words ≡ Err at → Seen c k n → (n ≡ 1) ⊎ (n ≡ 9)
  bad_words n at bad (inl is) = inr is
  bad_words n at bad (inr (inl (is, usage))) = inl is
  bad_words n at bad (inr (inr (inl (is, done)))) = absurd (asked_well at done.asked bad done.orders)
  bad_words n at bad (inr (inr (inr (inl (is, cause))))) = absurd (asked_well at cause.ran.asked bad cause.ran.orders)
  bad_words n at bad (inr (inr (inr (inr (inl (is, asked, cause)))))) = absurd (asked_well at asked.0 bad asked.1)
  bad_words n at bad (inr (inr (inr (inr (inr (is, asked, rose)))))) = absurd (asked_well at asked.0 bad asked.1)

  -- where the files can't have been summed up
  turned : (n : ℕ) (asked : SummaryWords) → Orders c.words asked → c.disk.tells → ((c.disk.wrapped_file c.disk_was ≡ None) → Readable (files_of c) → ⊥) → Seen c k n → (n ≡ 6) ⊎ ((n ≡ 9) ⊎ (n ≡ 5))
  turned n asked orders tells never (inl is) = inr (inl is)
  turned n asked orders tells never (inr (inl (is, usage))) = absurd (asked_well usage.0.0 asked usage.0.1 orders)
  turned n asked orders tells never (inr (inr (inl (is, done)))) = let s = done.sums tells in absurd (never s.0 (s.1.reading, s.1.reads))
  turned n asked orders tells never (inr (inr (inr (inl (is, cause))))) = let s = cause.ran.came.1 tells in absurd (never s.0 (s.1.reading, s.1.reads))
  turned n asked orders tells never (inr (inr (inr (inr (inl (is, other, cause)))))) = inl is
  turned n asked orders tells never (inr (inr (inr (inr (inr (is, other, rose)))))) = inr (inr is)

  no_cause : IsGoodSummary c k → FilesCause c k → ⊥
  no_cause good cause =
      ⊎_elim (λ (w : (file : FileId) × IsTold k (Compressed file) × (c.disk.tells → c.disk.wrapped_file c.disk_was ≡ Some file)). not_both (c.disk.wrapped_file c.disk_was) w.0 good.unwrapped (w.2 good.tells))
      (λ (w : (file : FileId) × (at : ℕ) × IsTold k (NotArchive file at) × (c.disk.tells → (c.disk.wrapped_file c.disk_was ≡ None) × FitsNone (files_of c) file at)). fits_all (files_of c) w.0 w.1 good.readable (w.3 good.tells).1) cause

  completes : (n : ℕ) → IsGoodSummary c k → Seen c k n → (n ≡ 0) ⊎ (n ≡ 9)
  completes n good (inl is) = inr is
  completes n good (inr (inl (is, usage))) = absurd (asked_well usage.0.0 good.asked usage.0.1 good.orders)
  completes n good (inr (inr (inl (is, done)))) = inl is
  completes n good (inr (inr (inr (inl (is, cause))))) = absurd (good.sink_kept cause.rose)
  completes n good (inr (inr (inr (inr (inl (is, asked, cause)))))) = absurd (no_cause good cause)
  completes n good (inr (inr (inr (inr (inr (is, asked, rose)))))) = absurd (good.disk_kept rose)

  -- ---- all

  quiet : EndsDone c k → (k.faults_after ≡ k.faults) × (c.disk.faults c.disk_is ≡ c.disk.faults c.disk_was)
  quiet done = (done.sink_quiet, done.disk_quiet)

  pub facts : (status : ℕ) → Ends c k status → Looks c.disk c.disk_was c.disk_is → Facts c k status
  facts status e looks = let saw : Seen c k status = seen c k status e in record {
    ends = e;
    done = λ h. is_done status h saw;
    quiet = λ h. quiet (is_done status h saw);
    usage = record { only = λ h. (is_usage status h saw).0; always = λ at bad. bad_words status at bad saw };
    write_fault = λ h. is_unwritten status h saw;
    disk_fault = λ h. has_failed status h saw;
    archive_fault = record {
      only = λ h. is_away status h saw;
      wrapped = λ asked orders tells file is. turned status asked orders tells (λ none readable. not_both (c.disk.wrapped_file c.disk_was) file none is) saw;
      unreadable = λ asked orders tells never. turned status asked orders tells (λ none readable. never readable) saw;
    };
    unrun = λ h. (is_usage status h saw).1;
    aside = looks;
    completes = λ good. completes status good saw;
  }
