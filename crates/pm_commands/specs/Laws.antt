-- Over which files commands are done: no readable archive is turned away by one that reads it whole, none that recovery would leave
-- sound by one that asks by time or by `check`, nor files over which the run of a script comes to its end, unless a file stands wrapped; and that a
-- script runs to one end.
use Rattle.std.specs.Prelude.{◌≡◌, ℕ, ◌≤◌, List, None}
use Rattle.pcp_base.specs.Time.{Moment}
use Rattle.pcp_model.specs.Archive.{ArchiveContents, IsArchive, Readable}
use Rattle.pcp_model.specs.Disk.{Files}
use Rattle.pcp_model.specs.Recovered.{IsRecovered}
use Rattle.pcp_model.specs.Sound.{Sound}
use Rattle.logging_session.specs.Events.{Event}
use Rattle.run_script.specs.declared.script.Script.{Script}
use Rattle.script_runs.specs.declared.ending.Ending.{Ending}
use Rattle.script_runs.specs.declared.ending.Ending.TheVariants as ends
use Rattle.script_runs.specs.Regions.{ScriptRegion}
use Rattle.script_runs.specs.Runs.{RunsTo}
use Rattle.pm_words.specs.declared.refusal.Refusal.{Refusal}
use Rattle.pm_words.specs.declared.refusal.Refusal.TheVariants.{Condition, Limit}
use Rattle.pm_words.specs.declared.words.Command.TheVariants.{Make}
use Rattle.pm_words.specs.declared.words.MakeWords.{MakeWords}
use Rattle.pm_words.specs.CommandLine.{FitsCommand}
use Rattle.run_script.specs.Generated.{generated_script}
use Rattle.script_runs.specs.declared.ending.LimitKind.TheVariants as kinds
use Rattle.pm_words.specs.declared.words.ValueWords.{ValueWords}
use Rattle.pm_words.specs.Refusals.{status_of}
use Rattle.pm_words.specs.Sides.{Found}
use Rattle.pm_runs.specs.Scripts as scripts
use Rattle.pm_runs.specs.Scripts.{IsOne, IsOwn, Leads}
use Rattle.pm_words.specs.Sound.{RecoversSound}
use Rattle.pm_tasks.specs.commands.at as at
use Rattle.pm_tasks.specs.commands.check as check
use Rattle.pm_tasks.specs.commands.dump as dump
use Rattle.pm_tasks.specs.commands.info as info
use Rattle.pm_tasks.specs.commands.range as range
use Rattle.pm_runs.specs.commands.recover as recover
use Rattle.pm_runs.specs.commands.retire as retire
use Rattle.pm_runs.specs.commands.retire.{IsCurrent}
use Rattle.pm_tasks.specs.commands.value as value

pub record IsWelcome (f : Found) : Type 0 where
  pub descriptions : (e : Refusal) → info.IsTurnedAway f e → ⊥
  pub items : (e : Refusal) → dump.IsTurnedAway f e → ⊥
  pub recovery : (e : Refusal) → recover.IsTurnedAway f e → ⊥
  pub values : (asked : ValueWords) (e : Refusal) → value.IsTurnedAway asked f e → status_of e ≡ 11

abbrev pub ReadableIsWelcome : Type 0
ReadableIsWelcome = (f : Found) → Readable f.files → f.wrapped ≡ None → IsWelcome f

-- the last item not after a moment is found, or there is none; the items of a range are found, though there may be none; and the archive
-- is told to be sound
pub record IsWelcomeByTime (f : Found) : Type 0 where
  pub last : (t : Moment) (e : Refusal) → at.IsTurnedAway t f e → status_of e ≡ 11
  pub between : (from to : Moment) (e : Refusal) → range.IsTurnedAway from to f e → ⊥
  pub soundness : (e : Refusal) → check.IsTurnedAway f e → ⊥

-- A readable archive, of which no file stands wrapped and what recovery would leave is sound, is turned away by no command that asks
-- by time, but where `at` finds no item, nor by `check`. Of a sound archive this logger, and each stop of it, leaves such files.
abbrev pub SoundIsWelcome : Type 0
SoundIsWelcome = (f : Found) → Readable f.files → RecoversSound f.files → f.wrapped ≡ None → IsWelcomeByTime f

-- An archive is turned away by no `retire` whose number is at most the current volume that recovery would leave, unless a file stands wrapped.
abbrev pub RetiringIsWelcome : Type 0
RetiringIsWelcome = (f : Found) (c : ArchiveContents) (left : Files) (current below : ℕ) → IsArchive f.files c → IsRecovered f.files c left → IsCurrent left current → below ≤ current → f.wrapped ≡ None → (e : Refusal) → retire.IsTurnedAway below f e → ⊥

-- They are sound before recovery too: so what such a command writes of them is the scan's.
abbrev pub SoundBeforeRecovery : Type 0
SoundBeforeRecovery = (files : Files) → Readable files → RecoversSound files → Sound files

-- a command that runs a script turns no files away over which the run comes to its end
abbrev pub DoneIsWelcome : Type 0
DoneIsWelcome = (f : Found) (script : Script) (limit : ℕ) (output : List ℕ) (events : List Event) (final : Files) → Leads script limit f.files ends.Done output events final → f.wrapped ≡ None → (e : Refusal) → scripts.IsTurnedAway limit f script e → ⊥

-- a script runs over files to one end of its own, with one output, the same events, regions and files
abbrev pub OneEnd : Type 0
OneEnd = (script : Script) (limit : ℕ) (start : Files) (a b : Ending) → IsOwn a → IsOwn b → (o p : List ℕ) (d e : List Event) (r s : List ScriptRegion) (f g : Files) → RunsTo script limit start a o d r f → RunsTo script limit start b p e s g → IsOne a b o p d e r s f g

-- The script that `make` runs is turned away by no files for its lines: no condition fails in it, and no tick asks for too many metrics. So its
-- run comes to its end wherever the archive takes each result.
abbrev pub MadeRunsOn : Type 0
MadeRunsOn = (asked : MakeWords) → FitsCommand (Make asked) → (f : Found) → ((line : ℕ) → scripts.IsTurnedAway asked.volume f (generated_script asked.number asked.ticks) (Condition line) → ⊥)
    × ((number : ℕ) → scripts.IsTurnedAway asked.volume f (generated_script asked.number asked.ticks) (Limit kinds.Sets number) → ⊥)
