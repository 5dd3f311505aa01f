-- What a status says, fact by fact. "Always" yields to want of memory (9) and to a read that failed before (3), which no
-- clause can foresee.
use Rattle.std.specs.Prelude.{◌≡◌, ◌⊎◌, ℕ, ◌≤◌, Bool, List, [], length, true, false, Option, Some, None, IsSome, Result, Ok}
use Rattle.pcp_base.specs.Time.{Moment}
use Rattle.pcp_base.specs.declared.file.FileId.{FileId}
use Rattle.pcp_model.specs.Archive.{Readable}
use Rattle.pcp_model.specs.Disk.{Files, Holdings, CrashImage, IsSettled, contents_of}
use Rattle.pcp_model.specs.Sound.{Sound}
use Rattle.pcp_outside.specs.Causes.{Rose}
use Rattle.pcp_outside.specs.Sides.{SourceSide, SinkSide, source_side, sink_side}
use Rattle.pcp_outside.specs.declared.disk.Disk.{Ghosts as DiskGhosts}
use Rattle.pcp_outside.specs.declared.streams.Sink.{Ghosts as SinkGhosts}
use Rattle.pcp_outside.specs.declared.streams.Source.{Ghosts as SourceGhosts}
use Rattle.run_passes.specs.declared.opening.Opened.{Opened}
use Rattle.pm_words.specs.declared.words.Call.TheVariants as calls
use Rattle.pm_words.specs.declared.words.Command.{Command}
use Rattle.pm_words.specs.declared.words.Command.TheVariants.{Check, Retire}
use Rattle.rule_watch.specs.declared.fault.RuleFault.{RuleFault}
use Rattle.run_script.specs.declared.fault.ScriptFault.{ScriptFault}
use Rattle.script_runs.specs.declared.ending.LimitKind.{LimitKind}
use Rattle.pm_words.specs.declared.refusal.Refusal.{Refusal}
use Rattle.pm_words.specs.declared.refusal.Refusal.TheVariants.{Script, Rules, Condition, Limit, NotLater, Changed, Compressed, Nothing, Live}
use Rattle.pm_words.specs.Asking.{IsInputless, ReadingIsExact, UsageIsExact}
use Rattle.pm_words.specs.Reading.{IsAbove}
use Rattle.pm_words.specs.CommandLine.{asked_by, takes_input}
use Rattle.pm_words.specs.Inputs.{input_limit, refusal_of}
use Rattle.pm_words.specs.Meaning.{Meaning}
use Rattle.pm_words.specs.Refusals.{IsOfRun, rule_status, script_status, status_of}
use Rattle.pm_words.specs.Serving.{HadRecovered}
use Rattle.pm_words.specs.Sides.{DiskSide, Found, disk_side, files_found, IsUnread, Leaves, Untouched}
use Rattle.pm_words.specs.Sound.{LeavesSound}
use Rattle.pm_words.specs.Telling.{TellsAll}
use Rattle.pm_runs.specs.commands.recover.{IsMendedSide}
use Rattle.pm_runs.specs.commands.retire.{IsLiveFound, Went}
use Rattle.pm_commands.specs.Causes.{Asks, fault_of, Finds, IsReader}
use Rattle.pm_commands.specs.Ends.{Ends, EndsDone, MayBeLeft}
use Rattle.pm_commands.specs.Meanings.{meaning}

-- the words ask for this command
abbrev pub IsCommand : List (List ℕ) → Command → Type 0
IsCommand words command = asked_by calls.Offline words ≡ Ok command

-- the words are a command that has nothing to do with the disk
abbrev pub IsAside : List (List ℕ) → Type 0
IsAside words = (command : Command) × IsCommand words command × ((meaning command).uses_disk ≡ false)

-- the command of the words is given a good input, and turns away the files that it finds
pub record TurnsAway (words : List (List ℕ)) (s : SourceSide) (d : DiskSide) (e : Refusal) : Type 0 where
  pub asks : Asks words s
  pub good : fault_of asks ≡ None
  pub uses : (meaning asks.command).uses_disk ≡ true
  pub turned : d.tells → (meaning asks.command).turns_away asks.input (files_found d) e

-- 7 where a command that reads an input is given more than 16 MiB; one byte above the limit is taken, and no further one. Else it
-- comes only where a script has too many regions, a text of rules has too many of these, a tick asks for too many metrics, a record is too
-- long, or a file of the archive is full.
abbrev pub LimitCause : List (List ℕ) → SourceSide → DiskSide → Type 0
LimitCause words s d =
    (IsReader words × IsAbove s)
    ⊎ (((fault : ScriptFault) × (script_status fault.fault ≡ 7) × Finds words s (Script fault))
    ⊎ (((fault : RuleFault) × (rule_status fault.fault ≡ 7) × Finds words s (Rules fault)) ⊎ ((what : LimitKind) × (number : ℕ) × TurnsAway words s d (Limit what number))))

-- what the source gives: all that it has left, within the limit, or nothing to a command that takes no input
abbrev pub GivesInput : Bool → SourceSide → List ℕ → Type 0
GivesInput false s input = input ≡ []
GivesInput true s input = s.tells × (input ≡ s.left) × (length input ≤ input_limit)

-- the words are a command, and this is what the source gives it
pub record IsGiven (words : List (List ℕ)) (s : SourceSide) : Type 0 where
  pub command : Command
  pub words_are : IsCommand words command
  pub input : List ℕ
  pub given : GivesInput (takes_input command) s input

-- why the command refuses what it is given, if so
abbrev pub refused_of : {words : List (List ℕ)} {s : SourceSide} → IsGiven words s → Option Refusal
refused_of a = refusal_of (meaning a.command).reads a.input

-- 2 only where the input isn't what the command reads: no image, no layout text, no script, or no text of rules; or where the condition of a
-- script's line fails in the run. An input that is refused always has its refusal's status: 2, or 7 where a script has too many regions, or a
-- text of rules too many of these.
pub record InputFaultIsExact (words : List (List ℕ)) (s : SourceSide) (d : DiskSide) (status : ℕ) : Type 0 where
  pub only : status ≡ 2 → ((e : Refusal) × (status_of e ≡ 2) × Finds words s e) ⊎ ((line : ℕ) × TurnsAway words s d (Condition line))
  pub always : (a : IsGiven words s) → (e : Refusal) → refused_of a ≡ Some e → (status ≡ status_of e) ⊎ ((status ≡ 9) ⊎ (status ≡ 3))

-- 12 only where a result isn't later than all that the archive has, 13 only where that describes a metric otherwise. Where the run
-- ends before its end, the status is always that of the one reason: 2 where a line's condition fails, 12, 13, or 7 where there is too
-- much of something; a disk that fails comes before.
pub record RunIsExact (words : List (List ℕ)) (s : SourceSide) (d : DiskSide) (status : ℕ) : Type 0 where
  pub not_later : status ≡ 12 → (last : Moment) × TurnsAway words s d (NotLater last)
  pub changed : status ≡ 13 → (pmid : ℕ) × TurnsAway words s d (Changed pmid)
  pub always : (a : IsGiven words s) → refused_of a ≡ None → d.tells → (reason : Refusal) → IsOfRun reason → (meaning a.command).turns_away a.input (files_found d) reason
      → (status ≡ status_of reason) ⊎ ((status ≡ 9) ⊎ ((status ≡ 3) ⊎ (status ≡ 5)))

-- 6 only where the archive is turned away: a file stands wrapped, or an offset fits no archive; always in the first case, unless the
-- disk fails before
pub record ArchiveFaultIsExact (words : List (List ℕ)) (s : SourceSide) (d : DiskSide) (status : ℕ) : Type 0 where
  pub only : status ≡ 6 → (e : Refusal) × (status_of e ≡ 6) × TurnsAway words s d e
  pub always : (a : IsGiven words s) → refused_of a ≡ None → d.tells → (file : FileId) → (meaning a.command).turns_away a.input (files_found d) (Compressed file)
      → (status ≡ 6) ⊎ ((status ≡ 9) ⊎ ((status ≡ 3) ⊎ (status ≡ 5)))

-- 11 exactly where nothing that was asked for is there; a disk that fails comes before
pub record NothingIsThere (words : List (List ℕ)) (s : SourceSide) (d : DiskSide) (status : ℕ) : Type 0 where
  pub only : status ≡ 11 → (stamp : Moment) × TurnsAway words s d (Nothing stamp)
  pub always : (a : IsGiven words s) → refused_of a ≡ None → d.tells → (stamp : Moment) → (meaning a.command).turns_away a.input (files_found d) (Nothing stamp)
      → (status ≡ 11) ⊎ ((status ≡ 9) ⊎ ((status ≡ 3) ⊎ (status ≡ 5)))

-- no file stands wrapped, and the files are readable, but not sound
pub record IsUnsound (f : Found) : Type 0 where
  pub unwrapped : f.wrapped ≡ None
  pub readable : Readable f.files
  pub unsound : Sound f.files → ⊥

-- 10 exactly where the words ask for `check` and the archive that it finds isn't sound, and then the line tells where; a disk that fails
-- comes before
pub record SoundnessIsExact (words : List (List ℕ)) (s : SourceSide) (d : DiskSide) (status : ℕ) : Type 0 where
  pub only : status ≡ 10 → ((e : Refusal) × (status_of e ≡ 10) × TurnsAway words s d e) × (d.tells → IsCommand words Check × IsUnsound (files_found d))
  pub always : IsCommand words Check → d.tells → IsUnsound (files_found d) → (status ≡ 10) ⊎ ((status ≡ 9) ⊎ (status ≡ 5))

-- 14 exactly where the words ask for `retire` with a number above the current volume of the archive that it finds, or where that has no label;
-- then the line tells this volume, or 0, and the files are what recovery leaves of them, each byte sure. A disk that fails comes before.
pub record LiveIsExact (words : List (List ℕ)) (s : SourceSide) (d : DiskSide) (status : ℕ) : Type 0 where
  pub only : status ≡ 14 → (volume : ℕ) × TurnsAway words s d (Live volume) × (d.tells → (below : ℕ) × IsCommand words (Retire below) × IsLiveFound below (files_found d) volume × IsMendedSide d)
  pub always : (below volume : ℕ) → IsCommand words (Retire below) → d.tells → IsLiveFound below (files_found d) volume → (status ≡ 14) ⊎ ((status ≡ 9) ⊎ (status ≡ 5))

-- it was refused, so that it wasn't done
abbrev pub IsRefused : ℕ → Type 0
IsRefused status = (status ≡ 0 → ⊥) × (status ≡ 4 → ⊥)

-- The files hold what they held, or the command was stopped after its first write and leaves what it says of that.
abbrev pub IsUnwritten : List (List ℕ) → SourceSide → DiskSide → ℕ → Type 0
IsUnwritten words s d status = Untouched d ⊎ ((a : Asks words s) × (meaning a.command).begun status a.input d)

-- what a command that uses the disk needs of it: to tell, files that it doesn't turn away but for finding nothing in them, and a
-- count that doesn't rise
pub record IsGoodDisk (m : Meaning) (input : List ℕ) (d : DiskSide) : Type 0 where
  pub tells : d.tells
  pub welcome : (e : Refusal) → m.turns_away input (files_found d) e → status_of e ≡ 11
  pub kept : Rose d.faults d.faults_after → ⊥

-- Good input succeeds: a command, an input that it reads, a good disk where it uses one, and no count that rose.
pub record IsGoodRun (words : List (List ℕ)) (s : SourceSide) (k : SinkSide) (d : DiskSide) : Type 0 where
  pub meets : IsGiven words s
  pub good : refused_of meets ≡ None
  pub disk : (meaning meets.command).uses_disk ≡ true → IsGoodDisk (meaning meets.command) meets.input d
  pub source_kept : Rose s.faults s.faults_after → ⊥
  pub sink_kept : Rose k.faults k.faults_after → ⊥

-- each crash from now on leaves what the command of the words keeps
pub record Keeps (words : List (List ℕ)) (s : SourceSide) (before held : Holdings) : Type 0 where
  pub asks : Asks words s
  pub each : (crash : Files) → CrashImage held crash → (meaning asks.command).keeps asks.input before crash

-- Where the run of a script began, and memory didn't run out, the regions are there on which it was run: the input was good, or the
-- status comes of no stage before the run.
abbrev pub ComesOfRun : ℕ → Type 0
ComesOfRun status = (status ≡ 0) ⊎ ((status ≡ 4) ⊎ ((status ≡ 5) ⊎ ((status ≡ 6) ⊎ ((status ≡ 12) ⊎ (status ≡ 13)))))

pub record OpensRegions (words : List (List ℕ)) (s : SourceSide) (opened : Option Opened) (status : ℕ) : Type 0 where
  pub good : (a : IsGiven words s) → refused_of a ≡ None → (meaning a.command).runs_script ≡ true → IsSome opened ⊎ ((status ≡ 9) ⊎ (status ≡ 3))
  pub ran : (command : Command) → IsCommand words command → (meaning command).runs_script ≡ true → ComesOfRun status → IsSome opened

-- Where the words are a command that writes an archive, the files are whole, and sound where what recovery leaves of those before is so, as
-- where there is no archive.
abbrev pub StaysSound : List (List ℕ) → Holdings → Holdings → Type 0
StaysSound words before after = (command : Command) → IsCommand words command → (meaning command).writes_archive ≡ true → LeavesSound (contents_of before) (contents_of after)

-- All that a call has, with what it found and left of each object outside.
pub record Sides (I O D : Type 0) : Type 1 where
  pub words : List (List ℕ)
  pub sources : SourceGhosts I
  pub input_was : I
  pub input_is : I
  pub sinks : SinkGhosts O
  pub out_was : O
  pub out_is : O
  pub disks : DiskGhosts D
  pub disk_was : D
  pub disk_is : D
  pub opened : Option Opened

abbrev pub sides : {I O D : Type 0} → List (List ℕ) → SourceGhosts I → I → I → SinkGhosts O → O → O → DiskGhosts D → D → D → Option Opened → Sides I O D
sides words sources input_was input_is sinks out_was out_is disks disk_was disk_is opened = record {
  words = words;
  sources = sources;
  input_was = input_was;
  input_is = input_is;
  sinks = sinks;
  out_was = out_was;
  out_is = out_is;
  disks = disks;
  disk_was = disk_was;
  disk_is = disk_is;
  opened = opened;
}

module _ {I O D : Type 0} (c : Sides I O D) where
  abbrev pub source_of : SourceSide
  source_of = source_side c.sources c.input_was c.input_is

  abbrev pub sink_of : SinkSide
  sink_of = sink_side c.sinks c.out_was c.out_is

  abbrev pub disk_of : DiskSide
  disk_of = disk_side c.disks c.disk_was c.disk_is

  -- From the moment on at which recovery answered, the disk went on as the command's meaning says.
  pub record WentOn : Type 0 where
    pub asks : Asks c.words source_of
    pub since : (meaning asks.command).since c.disks asks.input c.disk_was c.disk_is

  -- The regions that are left, and what was run on them, are those of the command's meaning, where it answered what the status and the
  -- output tell. A call that was refused before its command left none.
  pub record LeavesRegions (status : ℕ) : Type 0 where
    pub front : List ℕ
    pub answer : Result (List ℕ) Refusal
    pub told : TellsAll sink_of front answer status
    pub ran : (c.opened ≡ None) ⊎ ((a : Asks c.words source_of) × (meaning a.command).ran c.disks a.input c.disk_was c.disk_is c.opened front answer)

  -- How `retire` left the disk, by the answer that the status and the output tell: where it is done, or the disk failed once recovery had
  -- answered, no volume but the lowest below its number is emptied; where it is live, or wants memory, none is.
  pub record LeavesRetired (below status : ℕ) : Type 0 where
    pub front : List ℕ
    pub answer : Result (List ℕ) Refusal
    pub told : TellsAll sink_of front answer status
    pub went : Went c.disks c.disk_was c.disk_is below answer

  -- All that a call of `offline` says.
  pub record Facts (status : ℕ) : Type 0 where
    -- How it ends, whole: done, done but not told, or refused, with each refusal's cause, what was taken of the input, what the files hold
    -- and which line was written.
    pub ends : Ends c.words source_of sink_of disk_of status
    -- Done: what the command reads was read to its end, the output is exactly what it says, and so are the files.
    pub done : status ≡ 0 → EndsDone c.words source_of sink_of disk_of
    -- Done: no call of the source, of the sink or of the disk failed, not even one that was tried again.
    pub quiet : status ≡ 0 → (c.sources.faults c.input_is ≡ c.sources.faults c.input_was) × (c.sinks.faults c.out_is ≡ c.sinks.faults c.out_was) × (c.disks.faults c.disk_is ≡ c.disks.faults c.disk_was)
    -- Each other status comes for its cause alone.
    pub usage : UsageIsExact calls.Offline c.words status
    pub reading : ReadingIsExact calls.Offline c.words source_of status
    pub input_fault : InputFaultIsExact c.words source_of disk_of status
    pub input_limit : status ≡ 7 → LimitCause c.words source_of disk_of
    pub write_fault : status ≡ 4 → Rose (c.sinks.faults c.out_was) (c.sinks.faults c.out_is)
    pub disk_fault : status ≡ 5 → Rose (c.disks.faults c.disk_was) (c.disks.faults c.disk_is)
    pub run_refused : RunIsExact c.words source_of disk_of status
    pub nothing_there : NothingIsThere c.words source_of disk_of status
    pub soundness : SoundnessIsExact c.words source_of disk_of status
    pub live : LiveIsExact c.words source_of disk_of status
    pub archive_fault : ArchiveFaultIsExact c.words source_of disk_of status
    -- Refused: the files hold what they held, or what the command says of a stop after its first write.
    pub unwritten : IsRefused status → IsUnwritten c.words source_of disk_of status
    -- A command that has nothing to do with the disk leaves it alone, and one without input the source.
    pub aside : IsAside c.words → c.disk_is ≡ c.disk_was
    pub unasked : IsInputless calls.Offline c.words → c.input_is ≡ c.input_was
    -- What the command may have taken of the volumes: one that asks by time the labels, and then what its search takes of the records.
    pub taken : c.disks.tells → (command : Command) → IsCommand c.words command → (meaning command).takes (contents_of (c.disks.held c.disk_was)) (c.disks.taken c.disk_was) (c.disks.taken c.disk_is)
    -- Good input succeeds, or nothing is there.
    pub completes : IsGoodRun c.words source_of sink_of disk_of → (status ≡ 0) ⊎ ((status ≡ 9) ⊎ (status ≡ 11))
    -- A settled disk is settled after every status but 5.
    pub settled : (status ≡ 5 → ⊥) → c.disks.tells → IsSettled (c.disks.held c.disk_was) → IsSettled (c.disks.held c.disk_is)
    -- A crash at any moment leaves what one at the start might have left, or what the command allows over what was there: nothing that was
    -- there is lost, but items of the lowest volumes where `retire` was asked to empty these.
    pub any_moment : Leaves c.disks c.disk_was c.disk_is (MayBeLeft c.words source_of)
    -- Files that are no archive stay as they were.
    pub unread : IsUnread c.disks c.disk_was → Leaves c.disks c.disk_was c.disk_is CrashImage
    -- Once it has ended with 0, each crash leaves what the command keeps, until something else touches the disk.
    pub kept : status ≡ 0 → c.disks.tells → Keeps c.words source_of (c.disks.held c.disk_was) (c.disks.held c.disk_is)
    -- Once a command that writes an archive has ended with 0, recovery of its files changes nothing, and they are sound where what recovery
    -- leaves of those before is so, or there was no archive: then `at` and `range` tell of them what the scan says.
    pub sound : status ≡ 0 → c.disks.tells → StaysSound c.words (c.disks.held c.disk_was) (c.disks.held c.disk_is)
    -- A run over any disk, settled or not: from the moment on at which recovery answered, the disk went by the run's events, and a crash
    -- leaves all items of the start, and some first ones of the run, all that were acknowledged before among them. Where `retire` was asked
    -- for, a crash leaves from then on what recovery left, with some of the lowest volumes empty.
    pub since : c.disks.tells → HadRecovered status → WentOn
    -- And so after each status, over any disk: how far `retire` has come.
    pub retired : c.disks.tells → (below : ℕ) → IsCommand c.words (Retire below) → LeavesRetired below status
    -- The regions that are left are those on which the script's lines were run, and nothing else, as the seat has seen, which has gathered
    -- every pass: no entry can stand behind that. They are the lines of the run that the status tells of: after 0 it came to its end, and
    -- its lines and results are what is told; where it ended before, what is written is exactly its lines up to there and then why: where the
    -- disk failed, those before the first result that was lost, and further ones may have been run on the regions. Where the disk tells, its
    -- files are those of the same run, event by event, after each status.
    -- The regions are there wherever the run began, but for want of memory.
    pub ran : LeavesRegions status
    pub regions : OpensRegions c.words source_of c.opened status
    -- Where a command that runs a script leaves none, its run hadn't begun, and the disk wasn't touched.
    pub unrun : (command : Command) → IsCommand c.words command → (meaning command).runs_script ≡ true → c.opened ≡ None → c.disk_is ≡ c.disk_was
