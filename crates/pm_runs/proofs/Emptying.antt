-- What a logger that was just opened makes of a disk when it retires volumes.
use Rattle.std.proofs.Common.{◌≡◌, ◌≢◌, inl, inr, ⊎_elim, ℕ, ◌<◌, ◌≤◌, false, true, [], length, length-append, None, refl, sym, ap, ◌∙◌, subst, arith}
use Rattle.std.proofs.Math.Path.{fun_ext}
use Rattle.std.proofs.lemmas.Bool.{cases_lt}
use Rattle.pcp_base.specs.declared.file.FileId.{FileId}
use Rattle.pcp_base.specs.declared.file.FileId.TheVariants.{Volume}
use Rattle.pcp_model.specs.Disk.{CrashImage, Files, contents_of}
use Rattle.pcp_outside.specs.Devices.{LeavesOnly}
use Rattle.pcp_outside.specs.declared.disk.Disk.{Ghosts as DiskGhosts}
use Rattle.pcp_outside.proofs.Crash.{weaker}
use Rattle.archive_loading.proofs.Looking.{OnlyNow, looks_none}
use Rattle.archive_recovery.specs.declared.outcome.Archive.{Archive}
use Rattle.logger_core.specs.declared.fault.LogFault.{LogFault}
use Rattle.logger_core.specs.declared.fault.LogFault.TheVariants as faults
use Rattle.logger_core.specs.Meant.{IsLogger, Kept, Meant}
use Rattle.logger_core.specs.Reopening.{IsReopened, as_found, ends_of}
use Rattle.logger_core.specs.Retiring.{IsRetiring, RetireMayAnswer, without}
use Rattle.logger_core.proofs.AsFound.{same_files}
use Rattle.pm_runs.specs.commands.retire.{EmptyingStops, IsWithoutSome, fault_refusal}
use Rattle.pm_runs.proofs.Emptied.{without_none}

module _ {D : Type 0} (g : DiskGhosts D) (below : ℕ) where
  -- nothing was done
  pub still_emptying : OnlyNow g → (a : D) → g.tells → ((file : FileId) → (g.held a file).rest ≡ []) → LeavesOnly g.moment g.left_since a a (IsWithoutSome below (contents_of (g.held a)))
  still_emptying now a tells sure =
      weaker g.moment g.left_since g.held a a (CrashImage (g.held a)) (IsWithoutSome below (contents_of (g.held a))) ((looks_none g now a).moments tells)
      (λ image crash. record {
        from = 0;
        few = omega arith;
        standing = inl refl;
        is = λ file. same_files (g.held a) sure image crash file ∙ sym (without_none (contents_of (g.held a)) file);
      })

  -- the disk is as it was
  pub kept_emptying : OnlyNow g → (a b : D) → b ≡ a → g.tells → ((file : FileId) → (g.held a file).rest ≡ []) → LeavesOnly g.moment g.left_since a b (IsWithoutSome below (contents_of (g.held a)))
  kept_emptying now a b same tells sure = subst (λ (x : D). LeavesOnly g.moment g.left_since a x (IsWithoutSome below (contents_of (g.held a)))) (sym same) (still_emptying now a tells sure)

  -- the volumes below the current one were retired, or some of the lowest
  module _ {limit : ℕ} (kept : Kept) (a b : D) (sure : (file : FileId) → (g.held a file).rest ≡ []) (opened : IsReopened limit kept (g.held a))
      (moments : (m : Meant) → IsLogger m kept (g.held a) → LeavesOnly g.moment g.left_since a b (IsRetiring m below (g.held a))) where
    abbrev held : Files
    held = contents_of (g.held a)

    headed : 132 ≤ length (held (Volume kept.ends.volume))
    headed =
        let h = g.held a (Volume kept.ends.volume) in
        omega (arith, opened.is.at.stands.headed, length-append h.sure h.rest)

    emptying : below ≤ kept.ends.volume → (image : Files) → IsRetiring (as_found held opened.contents) below (g.held a) image → IsWithoutSome below held image
    emptying allowed image x = record {
      from = x.from;
      few = x.most;
      standing = inr (kept.ends.volume, omega (arith, x.most, allowed), headed);
      is = λ file. x.is file ∙ ap (λ (f : Files). without f x.from file) (fun_ext (same_files (g.held a) sure x.before x.crash));
    }

    retired_so : below ≤ kept.ends.volume → LeavesOnly g.moment g.left_since a b (IsWithoutSome below held)
    retired_so allowed =
        weaker g.moment g.left_since g.held a b (IsRetiring (as_found held opened.contents) below (g.held a)) (IsWithoutSome below held) (moments (as_found held opened.contents) opened.is) (emptying allowed)

    -- or the current one is below the number, and nothing was done
    either_way : OnlyNow g → g.tells → (kept.ends.volume < below → b ≡ a) → LeavesOnly g.moment g.left_since a b (IsWithoutSome below held)
    either_way now tells live =
        ⊎_elim (λ (low : kept.ends.volume < below). kept_emptying now a b (live low) tells sure) (λ (high : below ≤ kept.ends.volume). retired_so high) (cases_lt kept.ends.volume below)

  -- the same of the disk before it was opened
  pub retiring_empties : {limit : ℕ} (kept : Kept) (start a b : D) → a ≡ start → OnlyNow g → g.tells → ((file : FileId) → (g.held start file).rest ≡ []) → IsReopened limit kept (g.held a)
      → ((m : Meant) → IsLogger m kept (g.held a) → LeavesOnly g.moment g.left_since a b (IsRetiring m below (g.held a))) → (kept.ends.volume < below → b ≡ a) → LeavesOnly g.moment g.left_since start b (IsWithoutSome below (contents_of (g.held start)))
  retiring_empties kept start a b same now tells sure opened moments live =
      let sure_now : (file : FileId) → (g.held a file).rest ≡ [] = subst (λ (x : D). (file : FileId) → (g.held x file).rest ≡ []) (sym same) sure in
      subst (λ (x : D). LeavesOnly g.moment g.left_since x b (IsWithoutSome below (contents_of (g.held x)))) same (either_way kept a b sure_now opened moments now tells live)

-- why it didn't
pub retiring_stops : (below : ℕ) (archive : Archive) (old new : Kept) (before after : ℕ) (Same : Type 0) (fault : LogFault) → old.closed ≡ false → old.ends ≡ ends_of archive → archive.label ≢ None → (fault ≢ faults.DiskFault → Same) → RetireMayAnswer old new below before after fault
    → EmptyingStops below archive before after Same (fault_refusal fault)
retiring_stops below archive old new before after Same faults.Closed open_ ends labelled same why = absurd (let both : false ≡ true = sym open_ ∙ why.0 in cc)
retiring_stops below archive old new before after Same (faults.Live volume) open_ ends labelled same why =
    let current : old.ends.volume ≡ archive.volume = ap (λ e. e.volume) ends in
    (inr (labelled, why.2 ∙ current, subst (λ (n : ℕ). n < below) (sym why.2) why.1), same (λ e. cc))
retiring_stops below archive old new before after Same faults.DiskFault open_ ends labelled same why = why.3
retiring_stops below archive old new before after Same _ open_ ends labelled same why = absurd why
