-- What `recover` does: it mends the archive, and tells so or wants memory for that; or it is refused.
use Rattle.std.proofs.Common.{◌≡◌, ◌≢◌, inl, inr, ℕ, true, false, List, [], length, None, Result, Ok, Err, IfOk, IfErr, refl, ap, ◌∙◌}
use Rattle.pcp_base.specs.declared.file.FileId.{FileId}
use Rattle.pcp_model.specs.Archive.{ArchiveReading, scan}
use Rattle.pcp_model.specs.Disk.{CrashImage, Files, Holdings, IsSettled, contents_of}
use Rattle.pcp_model.specs.Recovered.{recovered_reading}
use Rattle.pcp_model.proofs.Recovered.{recovery_keeps}
use Rattle.pcp_outside.specs.Causes.{Rose}
use Rattle.pcp_outside.specs.Devices.{LeavesOnly}
use Rattle.pcp_outside.specs.declared.disk.Disk.{Ghosts as DiskGhosts}
use Rattle.pcp_outside.proofs.Crash.{weaker}
use Rattle.archive_recovery.specs.Halfway.{MayBeHalfway}
use Rattle.archive_recovery.specs.declared.outcome.Archive.{Archive}
use Rattle.archive_recovery.specs.declared.outcome.RecoverFault.{RecoverFault}
use Rattle.archive_recovery.specs.declared.outcome.RecoverFault.TheVariants as faults
use Rattle.archive_recovery.specs.RecoverFaults.{IsRecoverFault}
use Rattle.archive_recovery.specs.Told.{IsToldOf, WasRecovered}
use Rattle.pm_words.specs.declared.refusal.Refusal.{Refusal}
use Rattle.pm_words.specs.declared.refusal.Refusal.TheVariants.{Compressed, NotArchive, NoMemory}
use Rattle.pm_words.specs.Serving.{StopCause, HasServed, IsNever, MayLeave, Meets}
use Rattle.pm_words.specs.Refusals.{recover_refusal}
use Rattle.pm_words.specs.Sides.{DiskSide, Found, IsUnread, Leaves, files_found, disk_side}
use Rattle.pm_runs.specs.commands.recover.{IsMendedSide, items_line, recover, IsTurnedAway}
use Rattle.pm_words.proofs.Serving.{left_alone}
use Rattle.pm_runs.proofs.Coherent.{not_both}

counted : (left : Files) (r : ArchiveReading) (a : Archive) → IsToldOf left r a → a.items ≡ length (scan r)
counted left ArchiveReading.nothing a told = told.no_items
counted left (ArchiveReading.archive c) a told = told.counted

pub all_settled : (held : Holdings) → ((file : FileId) → (held file).rest ≡ []) → IsSettled held
all_settled held sure = record { meta = sure _; index = inr (sure _); volumes = λ k. sure _ }

never_turned : (f : Found) (e : Refusal) → f.wrapped ≡ None → IsNever e → IsTurnedAway f e → ⊥
never_turned f (Compressed file) none never t = not_both f.wrapped file none t
never_turned f (NotArchive file at) none never t = never
never_turned f _ none never t = t

module _ {D : Type 0} (g : DiskGhosts D) (a b : D) (input : List ℕ) (moments : Leaves g a b MayBeHalfway) (unread : g.tells → IsUnread g a → LeavesOnly g.moment g.left_since a b (CrashImage (g.held a))) where
  abbrev side : DiskSide
  side = disk_side g a b

  recover_meets : (answer : Result (List ℕ) Refusal) → IfOk answer (HasServed recover input side) → IfErr answer (λ e. StopCause recover input side e × (◌≡◌ {A = List ℕ} [] [])) → Meets recover input g a b None [] answer
  recover_meets answer done stops = record {
    done = done;
    stops = stops;
    aside = λ no. let both : true ≡ false = no in cc;
    unread = λ none t. unread t none;
    any_moment = λ t. weaker g.moment g.left_since g.held a b (MayBeHalfway (g.held a)) (MayLeave recover input (g.held a)) (moments t) (λ crash may. inr may);
    taken = λ t. tt;
    since = λ t h. tt;
    ran = refl;
    regions = λ runs. let both : false ≡ true = runs in cc;
    unrun = λ runs. let both : false ≡ true = runs in cc;
  }

  -- what was told of the files that are left
  module _ (archive : Archive) (was : g.tells → WasRecovered (contents_of (g.held a)) (contents_of (g.held b)) archive) (sure : g.tells → (file : FileId) → (g.held b file).rest ≡ []) where
    is_mended : g.tells → IsMendedSide side
    is_mended tells = record { reading = (was tells).reading; was = (was tells).was; recovered = (was tells).recovered; sure = sure tells }

    served : (text : List ℕ) → g.faults b ≡ g.faults a → (g.tells → g.wrapped_file a ≡ None) → text ≡ items_line archive.items → HasServed recover input side text
    served text quiet unwrapped is = record {
      good = refl;
      welcome = λ tells e never away. never_turned (files_found side) e (unwrapped tells) never away;
      done = is_mended;
      says = λ tells.
          let w = was tells in (
            w.reading,
            w.was,
            is ∙ ap items_line (counted (contents_of (g.held b)) (recovered_reading (contents_of (g.held a)) w.reading) archive w.told
                ∙ ap length (recovery_keeps (contents_of (g.held a)) (contents_of (g.held b)) w.reading w.was w.recovered)),
          );
      kept = λ tells crash left. tt;
      settled = λ tells before. all_settled (g.held b) (sure tells);
      quiet = quiet;
    }

    pub mended_meets : (text : List ℕ) → g.faults b ≡ g.faults a → (g.tells → g.wrapped_file a ≡ None) → text ≡ items_line archive.items → Meets recover input g a b None [] (Ok text)
    mended_meets text quiet unwrapped is = recover_meets (Ok text) (served text quiet unwrapped is) tt

    -- the line wants memory
    pub unsaid_meets : Meets recover input g a b None [] (Err NoMemory)
    unsaid_meets = recover_meets (Err NoMemory) tt (record { files = inr (inr (refl, is_mended)); settled = λ other tells before. all_settled (g.held b) (sure tells) }, refl)

  -- why it is refused
  stops : (fault : RecoverFault) → (g.tells → IsRecoverFault (g.wrapped_file a) (contents_of (g.held a)) fault) → (g.tells → fault ≢ faults.DiskFault → g.held b ≡ g.held a) → (fault ≡ faults.DiskFault → Rose (g.faults a) (g.faults b))
      → StopCause recover input side (recover_refusal fault)
  stops (faults.Compressed file) why kept rose = ((refl, refl), left_alone recover 6 input side (λ tells. kept tells (λ e. cc)), λ tells. why tells)
  stops (faults.NotArchive file at) why kept rose = ((refl, refl), left_alone recover 6 input side (λ tells. kept tells (λ e. cc)), λ tells. why tells)
  stops faults.DiskFault why kept rose = ((refl, refl), record { files = inr (inl refl); settled = λ other. absurd (other refl) }, rose refl)
  stops faults.NoMemory why kept rose = left_alone recover 9 input side (λ tells. kept tells (λ e. cc))

  pub refused_meets : (fault : RecoverFault) → (g.tells → IsRecoverFault (g.wrapped_file a) (contents_of (g.held a)) fault) → (g.tells → fault ≢ faults.DiskFault → g.held b ≡ g.held a) → (fault ≡ faults.DiskFault → Rose (g.faults a) (g.faults b))
      → Meets recover input g a b None [] (Err (recover_refusal fault))
  refused_meets fault why kept rose = recover_meets (Err (recover_refusal fault)) tt (stops fault why kept rose, refl)
