-- The run of a script over any files.
use Rattle.std.proofs.Common.{◌≡◌, ◌≢◌, inl, ℕ, ◌≤◌, List, [], refl, sym, ap, ◌∙◌, subst, arith}
use Rattle.pcp_model.specs.Disk.{CrashImage, Files, contents_of}
use Rattle.pcp_outside.specs.Causes.{Rose}
use Rattle.pcp_outside.specs.Devices.{LeavesOnly}
use Rattle.pcp_outside.specs.declared.disk.Disk.{Ghosts as DiskGhosts}
use Rattle.region_rule.specs.Seats.{Token}
use Rattle.archive_recovery.specs.declared.outcome.RecoverFault.{RecoverFault}
use Rattle.archive_recovery.specs.declared.outcome.RecoverFault.TheVariants as recovery
use Rattle.archive_recovery.specs.Halfway.{MayBeHalfway}
use Rattle.archive_recovery.specs.RecoverFaults.{IsRecoverFault}
use Rattle.archive_recovery.proofs.Settled.{settled_begins}
use Rattle.fetch_engine.specs.declared.server.Mounted.{Mounted}
use Rattle.logger_core.proofs.Calls.{no_call}
use Rattle.logging_session.specs.Keeping.{Carried}
use Rattle.run_script.specs.declared.script.Script.{Script}
use Rattle.run_passes.specs.Seen.{HaveSeen}
use Rattle.script_runs.specs.declared.ending.Ending.{Ending}
use Rattle.script_runs.specs.Closing.{closed_regions}
use Rattle.script_runs.specs.Regions.{made_regions}
use Rattle.script_runs.specs.Runs.{Halts, RunDoes, run_start, with_end}
use Rattle.script_runs.proofs.Going.{ran_none}
use Rattle.run_archive.specs.declared.replayed.Replayed.{Replayed}
use Rattle.run_archive.specs.Endings.{MayEnd}
use Rattle.run_archive.specs.Outcomes.{IsUnrecovered, ended_by}
use Rattle.run_archive.proofs.Outcomes.{runs_nothing, went_on}
use Rattle.record_run.specs.Replays.{EndsFrom, HasReplayed, IsBegun, IsReplay, ReplaysOver}

-- ---- files that aren't recovered

-- a fault of the disk has raised its count
pub recovery_cause : (before after : ℕ) (fault : RecoverFault) → (fault ≡ recovery.DiskFault → Rose before after) → MayEnd before after (ended_by fault)
recovery_cause before after (recovery.Compressed file) rose = tt
recovery_cause before after (recovery.NotArchive file at) rose = tt
recovery_cause before after recovery.DiskFault rose = rose refl
recovery_cause before after recovery.NoMemory rose = tt

module _ {D : Type 0} (d : DiskGhosts D) (old new : D) where
  pub is_unrecovered : (fault : RecoverFault) → IsRecoverFault (d.wrapped_file old) (contents_of (d.held old)) fault → (fault ≢ recovery.DiskFault → d.held new ≡ d.held old) → LeavesOnly d.moment d.left_since old new (MayBeHalfway (d.held old))
      → IsUnrecovered d old new (ended_by fault)
  is_unrecovered (recovery.Compressed file) why kept half = (why, kept (λ e. cc))
  is_unrecovered (recovery.NotArchive file at) why kept half = (why, kept (λ e. cc))
  is_unrecovered recovery.DiskFault why kept half = half
  is_unrecovered recovery.NoMemory why kept half = kept (λ e. cc)

-- the files weren't looked at
pub unlooked : {D : Type 0} (d : DiskGhosts D) (only_now : (disk : D) (c : Files) → d.left_since disk (d.moment disk) c → CrashImage (d.held disk) c) (disk : D) → LeavesOnly d.moment d.left_since disk disk (MayBeHalfway (d.held disk))
unlooked d only_now disk = no_call d only_now disk (MayBeHalfway (d.held disk)) (λ image crash. λ settled reading reads. settled_begins (d.held disk) reading image settled reads crash)

module _ (script : Script) (server : List Mounted) (seat : List Token) (r : Replayed) (nothing : r.output ≡ []) (none : r.logged ≡ 0) (seen : HaveSeen script (closed_regions (made_regions script)) server seat) (fault : RecoverFault) (is : r.ending ≡ ended_by fault) where
  halts_before : (f : RecoverFault) → Halts script 0 (run_start script) (ended_by f)
  halts_before (recovery.Compressed file) = refl
  halts_before (recovery.NotArchive file at) = refl
  halts_before recovery.DiskFault = tt
  halts_before recovery.NoMemory = tt

  tells_nothing : (f : RecoverFault) → with_end (ended_by f) (run_start script) ≡ []
  tells_nothing (recovery.Compressed file) = refl
  tells_nothing (recovery.NotArchive file at) = refl
  tells_nothing recovery.DiskFault = refl
  tells_nothing recovery.NoMemory = refl

  abbrev ran_nothing : HasReplayed script server seat r
  ran_nothing = record {
    regions = closed_regions (made_regions script);
    ran = record {
      count = 0;
      last = run_start script;
      ran = ran_none script;
      halts = subst (λ (e : Ending). Halts script 0 (run_start script) e) (sym is) (halts_before fault);
      output_is = nothing ∙ sym (ap (λ (e : Ending). with_end e (run_start script)) is ∙ tells_nothing fault);
      further = record { lines = 0; state = run_start script; ran = ran_none script; on = omega arith; same = λ other. (refl, refl); before = inl (refl, refl) };
      closed = refl;
    };
    counted = none;
    seen = seen;
  }

  pub replay_nothing : {D : Type 0} (d : DiskGhosts D) (only_now : (disk : D) (c : Files) → d.left_since disk (d.moment disk) c → CrashImage (d.held disk) c)
      (counts_now : (disk : D) (t : ℕ) (c : Files) → t ≤ d.moment disk → CrashImage (d.held disk) c → d.left_since disk t c) (limit : ℕ) (old new : D)
      → (d.tells → IsUnrecovered d old new (ended_by fault)) → (d.tells → LeavesOnly d.moment d.left_since old new (MayBeHalfway (d.held old))) → IsReplay d script limit server seat old new r
  replay_nothing d only_now counts_now limit old new unrecovered half = record {
    run = ran_nothing;
    told = λ tells. record {
      events = [];
      more = [];
      on = runs_nothing d only_now counts_now limit (◌≡◌ {A = ℕ} 0 0) (λ left. RunDoes limit left ran_nothing.ran [] []) old new r.ending
          (subst (λ (e : Ending). IsUnrecovered d old new e) (sym is) (unrecovered tells)) (half tells) refl;
    };
  }

-- ---- over what recovery left

pub replay_ended : {D : Type 0} (d : DiskGhosts D) (only_now : (disk : D) (c : Files) → d.left_since disk (d.moment disk) c → CrashImage (d.held disk) c)
    (counts_now : (disk : D) (t : ℕ) (c : Files) → t ≤ d.moment disk → CrashImage (d.held disk) c → d.left_since disk t c) (script : Script) (limit : ℕ) (server : List Mounted) (seat : List Token) (s : Carried) (old middle new : D) (r : Replayed)
    → s.limit ≡ limit → (d.tells → IsBegun d old middle s) → (d.tells → LeavesOnly d.moment d.left_since old middle (MayBeHalfway (d.held old))) → ReplaysOver d script server seat s middle new r → IsReplay d script limit server seat old new r
replay_ended d only_now counts_now script limit server seat s old middle new r same begun half over = record {
  run = over.run;
  told = λ tells.
      let left : Files = contents_of (d.held middle) in
      let b : IsBegun d old middle s = begun tells in
      let e : EndsFrom d limit left middle new over.run.ran = subst (λ (n : ℕ). EndsFrom d n left middle new over.run.ran) same (over.told tells left b.keeps) in
      record {
        events = e.events;
        more = e.more;
        on = went_on d only_now counts_now limit (over.run.ran.further.lines ≡ 0) (λ files. RunDoes limit files over.run.ran e.events e.more) old middle b.archive b.unwrapped b.was b.sure (half tells) e.events e.more new r.ending
            e.finished e.did;
      };
}
