-- Which files `check` turns away, and that no other command tells whether an archive is sound.
use Rattle.std.proofs.Common.{◌≡◌, ◌⊎◌, ⊎_elim, ℕ, List, refl, sym, ◌∙◌, subst, Option, Some, None}
use Rattle.pcp_base.specs.Time.{Moment}
use Rattle.pcp_base.specs.declared.file.FileId.{FileId}
use Rattle.pcp_model.specs.Archive.{ArchiveReading, Readable}
use Rattle.pcp_model.specs.Disk.{Files}
use Rattle.pcp_model.specs.Sound.{IsSound, Sound}
use Rattle.pcp_model.proofs.OneReading.{one_reading}
use Rattle.archive_loading.specs.Loaded.{Loaded, IsOver}
use Rattle.archive_loading.specs.LoadFaults.{NotLoaded}
use Rattle.archive_reader.proofs.Finds.{readable_stands}
use Rattle.archive_reader.proofs.Loadable.{loads_readable}
use Rattle.archive_reader.specs.declared.fault.ReaderFault.TheVariants as faults
use Rattle.archive_reader.specs.Values.{IsWholeFault}
use Rattle.archive_check.specs.Checks as checks
use Rattle.archive_check.specs.declared.fault.CheckFault.{CheckFault}
use Rattle.archive_check.specs.declared.fault.CheckFault.TheVariants as checking
use Rattle.archive_check.proofs.Judged.{sound_has_none}
use Rattle.script_runs.specs.declared.ending.Ending.{Ending}
use Rattle.script_runs.specs.declared.ending.Ending.TheVariants as ends
use Rattle.run_script.specs.declared.script.Script.{Script}
use Rattle.pm_words.specs.declared.refusal.Refusal.{Refusal}
use Rattle.pm_words.specs.declared.refusal.Refusal.TheVariants.{Compressed, NotArchive, Nothing, UnsoundItems, UnsoundBoundary, UnsoundLate, Live}
use Rattle.pm_words.specs.declared.words.Command.{Command}
use Rattle.pm_words.specs.declared.words.Command.TheVariants.{Once, Replay, Make, Retire, MmvMake, MmvDump, MmvLift, Dump, Info, Check, Recover, At, Range, Value, Watch, Record, Serve, Pull, Extract, Summary, Export}
use Rattle.pm_words.specs.declared.words.ValueWords.{ValueWords}
use Rattle.pm_words.specs.Refusals.{IsOfSoundness, ending_refusal, status_of}
use Rattle.pm_words.specs.Sides.{Found}
use Rattle.pm_runs.specs.Runners.{Runner}
use Rattle.pm_runs.specs.Scripts as scripts
use Rattle.pm_runs.specs.Scripts.{runs_script}
use Rattle.pm_runs.specs.commands.make.{making}
use Rattle.pm_runs.specs.commands.once.{logging}
use Rattle.pm_runs.specs.commands.recover as recover
use Rattle.pm_runs.specs.commands.replay.{replaying}
use Rattle.pm_runs.specs.commands.retire as retire
use Rattle.pm_tasks.specs.Archives.{IsLoaded, IsNotLoaded}
use Rattle.pm_tasks.specs.commands.at as at
use Rattle.pm_tasks.specs.commands.check as check
use Rattle.pm_tasks.specs.commands.dump as dump
use Rattle.pm_tasks.specs.commands.range as range
use Rattle.pm_tasks.specs.commands.value as value
use Rattle.pm_tasks.proofs.Lookings.{not_judged}
use Rattle.pm_commands.specs.Facts.{IsUnsound}
use Rattle.pm_commands.specs.Meanings.{meaning}

not_both : (w : Option FileId) (file : FileId) → w ≡ None → w ≡ Some file → ⊥
not_both w file none some = let e : None ≡ Some file = sym none ∙ some in cc

-- ---- files that are readable

-- they are read
pub is_read : (files : Files) → Readable files → (file : FileId) (offset : ℕ) → NotLoaded files file offset ⊎ ((r : Loaded) × IsOver files r × IsWholeFault files r.volumes (faults.NotArchive file offset)) → ⊥
is_read files readable file offset why =
    ⊎_elim (λ (n : NotLoaded files file offset). loads_readable files file offset readable n)
    (λ b. let bad = b.2.1 in (readable_stands files readable.0 b.0 readable.1 b.1).good b.2.0 bad.last bad.to file offset bad.leads bad.bad) why

-- where they have a breach they aren't sound
of_breach : (f : Found) (fault : CheckFault) → checks.IsUnsound f.wrapped f.files fault → IsUnsound f
of_breach f fault b = record {
  unwrapped = b.unwrapped;
  readable = (b.reading, b.reads);
  unsound = λ (sound : Sound f.files).
      sound_has_none f.files b.reading fault b.breach
      (subst (λ (r : ArchiveReading). IsSound f.files r) (one_reading f.files sound.0 b.reading sound.1 b.reads) sound.2);
}

pub is_unsound : (f : Found) (e : Refusal) → IsOfSoundness e → check.IsTurnedAway f e → IsUnsound f
is_unsound f (UnsoundItems first second) of t = of_breach f (checking.Items first second) t
is_unsound f (UnsoundBoundary entry file below above) of t = of_breach f (checking.Boundary entry file below above) t
is_unsound f (UnsoundLate entry stamp) of t = of_breach f (checking.Late entry stamp) t
is_unsound f _ of t = absurd of

-- and where they aren't sound that is told
pub unsound_only : (f : Found) → IsUnsound f → (e : Refusal) → check.IsTurnedAway f e → status_of e ≡ 10
unsound_only f u (Compressed file) t = absurd (not_both f.wrapped file u.unwrapped t)
unsound_only f u (NotArchive file offset) t = absurd (is_read f.files u.readable file offset t.1)
unsound_only f u (UnsoundItems first second) t = refl
unsound_only f u (UnsoundBoundary entry file below above) t = refl
unsound_only f u (UnsoundLate entry stamp) t = refl
unsound_only f u _ t = absurd t

pub passes_sound : (f : Found) → f.wrapped ≡ None → Sound f.files → (e : Refusal) → check.IsTurnedAway f e → ⊥
passes_sound f unwrapped sound (Compressed file) t = not_both f.wrapped file unwrapped t
passes_sound f unwrapped sound (NotArchive file offset) t = is_read f.files (sound.0, sound.1) file offset t.1
passes_sound f unwrapped sound (UnsoundItems first second) t = (is_unsound f (UnsoundItems first second) tt t).unsound sound
passes_sound f unwrapped sound (UnsoundBoundary entry file below above) t = (is_unsound f (UnsoundBoundary entry file below above) tt t).unsound sound
passes_sound f unwrapped sound (UnsoundLate entry stamp) t = (is_unsound f (UnsoundLate entry stamp) tt t).unsound sound
passes_sound f unwrapped sound _ t = t

-- ---- the other commands

abbrev IsJudging : Option Refusal → Type 0
IsJudging None = ⊥
IsJudging (Some e) = IsOfSoundness e

no_ending : (ending : Ending) → IsJudging (ending_refusal ending) → ⊥
no_ending ends.Done judges = judges
no_ending _ judges = judges

no_run : (limit : ℕ) (f : Found) (script : Script) (e : Refusal) → IsOfSoundness e → scripts.IsTurnedAway limit f script e → ⊥
no_run limit f script (Compressed file) of t = of
no_run limit f script (NotArchive file offset) of t = of
no_run limit f script e of t = no_ending t.1 (subst IsJudging (sym t.2.1) of)

no_runner : (c : Runner) (input : List ℕ) (f : Found) (e : Refusal) → IsOfSoundness e → (runs_script c).turns_away input f e → ⊥
no_runner c input f e of t = no_run c.limit f t.0 e of t.2

no_recovery : (f : Found) (e : Refusal) → IsOfSoundness e → recover.IsTurnedAway f e → ⊥
no_recovery f (Compressed file) of t = of
no_recovery f (NotArchive file offset) of t = of
no_recovery f _ of t = t

no_retirement : (below : ℕ) (f : Found) (e : Refusal) → IsOfSoundness e → retire.IsTurnedAway below f e → ⊥
no_retirement below f (Compressed file) of t = of
no_retirement below f (NotArchive file offset) of t = of
no_retirement below f (Live volume) of t = of
no_retirement below f _ of t = t

no_dump : (r : Loaded) (f : Found) (e : Refusal) → IsOfSoundness e → dump.BadRecord r f e → ⊥
no_dump r f (NotArchive file offset) of t = of
no_dump r f _ of t = t

no_at : (t : Moment) (r : Loaded) (f : Found) (e : Refusal) → IsOfSoundness e → at.IsStopped t r f e → ⊥
no_at t r f (NotArchive file offset) of why = of
no_at t r f (Nothing stamp) of why = of
no_at t r f _ of why = why

no_range : (from to : Moment) (r : Loaded) (f : Found) (e : Refusal) → IsOfSoundness e → range.IsStopped from to r f e → ⊥
no_range from to r f (NotArchive file offset) of why = of
no_range from to r f _ of why = why

no_value : (asked : ValueWords) (r : Loaded) (f : Found) (e : Refusal) → IsOfSoundness e → value.IsStopped asked r f e → ⊥
no_value asked r f (NotArchive file offset) of why = of
no_value asked r f (Nothing stamp) of why = of
no_value asked r f _ of why = why

-- what turns files away once they were loaded
no_look : (why : Loaded → Found → Refusal → Type 0) (f : Found) (e : Refusal) → IsOfSoundness e → ((r : Loaded) → why r f e → ⊥) → IsNotLoaded f e ⊎ ((r : Loaded) × IsLoaded f r × why r f e) → ⊥
no_look why f e of never t = ⊎_elim (λ (n : IsNotLoaded f e). not_judged f e of n) (λ b. never b.0 b.2) t

pub only_check : (command : Command) (input : List ℕ) (f : Found) (e : Refusal) → IsOfSoundness e → (meaning command).turns_away input f e → command ≡ Check
only_check (Once asked) input f e of t = absurd (no_runner (logging asked) input f e of t)
only_check (Replay volume) input f e of t = absurd (no_runner (replaying volume) input f e of t)
only_check (Make asked) input f e of t = absurd (no_runner (making asked) input f e of t)
only_check (Retire below) input f e of t = absurd (no_retirement below f e of t)
only_check MmvMake input f e of t = absurd t
only_check MmvDump input f e of t = absurd t
only_check MmvLift input f e of t = absurd t
only_check Dump input f e of t = absurd (no_look dump.BadRecord f e of (λ r why. no_dump r f e of why) t)
only_check Info input f e of t = absurd (not_judged f e of t)
only_check Check input f e of t = refl
only_check Recover input f e of t = absurd (no_recovery f e of t)
only_check (At moment) input f e of t = absurd (no_look (at.IsStopped moment) f e of (λ r why. no_at moment r f e of why) t)
only_check (Range from to) input f e of t = absurd (no_look (range.IsStopped from to) f e of (λ r why. no_range from to r f e of why) t)
only_check (Watch from to) input f e of t = absurd (no_look dump.BadRecord f e of (λ r why. no_dump r f e of why) t)
only_check (Value asked) input f e of t = absurd (no_look (value.IsStopped asked) f e of (λ r why. no_value asked r f e of why) t)
only_check (Record asked) input f e of t = absurd t
only_check (Serve count) input f e of t = absurd t
only_check (Pull asked) input f e of t = absurd t
only_check (Extract volume) input f e of t = absurd t
only_check (Summary asked) input f e of t = absurd t
only_check Export input f e of t = absurd t
