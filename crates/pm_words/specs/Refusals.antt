-- How a command that is refused ends: its status and its last line.
use Rattle.std.specs.Prelude.{◌≡◌, ◌⊎◌, ℕ, List, [], ◌∷◌, ◌++◌, take, Option, Some, None, codes}
use Rattle.std.specs.Fmt.{decimal, signed_decimal}
use Rattle.pcp_base.specs.declared.file.FileId.{FileId}
use Rattle.pcp_base.specs.declared.file.FileId.TheVariants.{Meta, Index, Volume}
use Rattle.pcp_outside.specs.Causes.{Rose}
use Rattle.archive_check.specs.declared.fault.CheckFault.{CheckFault}
use Rattle.archive_check.specs.declared.fault.CheckFault.TheVariants as checking
use Rattle.archive_reader.specs.declared.fault.ReaderFault.{ReaderFault}
use Rattle.archive_reader.specs.declared.fault.ReaderFault.TheVariants as faults
use Rattle.archive_recovery.specs.declared.outcome.RecoverFault.{RecoverFault}
use Rattle.archive_recovery.specs.declared.outcome.RecoverFault.TheVariants as recovering
use Rattle.logging_run.specs.declared.fault.RunFault.{RunFault}
use Rattle.logging_run.specs.declared.fault.RunFault.TheVariants as running
use Rattle.pm_print.specs.FaultLines.{image_line, text_line}
use Rattle.pm_print.specs.Sets.{pmid_text}
use Rattle.mmv_writer.specs.declared.line_fault.LineFault.TheVariants as lines
use Rattle.rule_watch.specs.declared.fault.RuleLineFault.{RuleLineFault}
use Rattle.rule_watch.specs.declared.fault.RuleLineFault.TheVariants as rule
use Rattle.run_script.specs.declared.fault.ScriptLineFault.{ScriptLineFault}
use Rattle.run_script.specs.declared.fault.ScriptLineFault.TheVariants as script
use Rattle.script_runs.specs.declared.ending.Ending.{Ending}
use Rattle.script_runs.specs.declared.ending.Ending.TheVariants as ends
use Rattle.script_runs.specs.declared.ending.LimitKind.{LimitKind}
use Rattle.script_runs.specs.declared.ending.LimitKind.TheVariants as kinds
use Rattle.pm_words.specs.declared.refusal.PeerFault.{PeerFault}
use Rattle.pm_words.specs.declared.refusal.PeerFault.TheVariants as peers
use Rattle.pm_words.specs.declared.refusal.Refusal.{Refusal}
use Rattle.pm_words.specs.declared.refusal.Refusal.TheVariants.{Usage, ReadFault, InputLimit, Image, Line, Script, Rules, Condition, Limit, NotLater, Changed, Compressed, NotArchive, Nothing, UnsoundItems, UnsoundBoundary, UnsoundLate, Live, DiskFault, ClockEnd, ClockFault, Accept, Peer, Lacks, Clashes, Stands, NoMemory}

-- of a script that has too many regions the limit is told
abbrev pub script_status : ScriptLineFault → ℕ
script_status (script.Line fault) = 2
script_status script.Regions = 7

-- of a text that has too many rules the limit is told
abbrev pub rule_status : RuleLineFault → ℕ
rule_status rule.Grammar = 2
rule_status rule.Condition = 2
rule_status rule.Many = 7

abbrev pub status_of : Refusal → ℕ
status_of (Usage at) = 1
status_of ReadFault = 3
status_of InputLimit = 7
status_of (Image fault) = 2
status_of (Line fault) = 2
status_of (Script fault) = script_status fault.fault
status_of (Rules fault) = rule_status fault.fault
status_of (Condition line) = 2
status_of (Limit what number) = 7
status_of (NotLater last) = 12
status_of (Changed pmid) = 13
status_of (Compressed file) = 6
status_of (NotArchive file at) = 6
status_of (Nothing stamp) = 11
status_of (UnsoundItems first second) = 10
status_of (UnsoundBoundary entry file below above) = 10
status_of (UnsoundLate entry stamp) = 10
status_of (Live volume) = 14
status_of DiskFault = 5
status_of (ClockEnd left) = 8
status_of (ClockFault left) = 20
status_of Accept = 21
status_of (Peer reply why) = 16
status_of (Lacks source pmid) = 18
status_of (Clashes pmid) = 19
status_of (Stands file) = 23
status_of NoMemory = 9

abbrev pub script_line : ℕ → ScriptLineFault → List ℕ
script_line line (script.Line fault) = text_line line fault
script_line line script.Regions = codes "limit regions 65\n"

abbrev pub rule_line : ℕ → RuleLineFault → List ℕ
rule_line line rule.Grammar = text_line line lines.Grammar
rule_line line rule.Condition = text_line line lines.Condition
rule_line line rule.Many = codes "limit rules 65\n"

-- what there is too much of
abbrev pub limit_name : LimitKind → List ℕ
limit_name kinds.Sets = codes "sets"
limit_name kinds.Record = codes "record"
limit_name kinds.Meta = codes "meta"
limit_name kinds.Index = codes "index"
limit_name kinds.Volume = codes "volume"

-- a file's name in a line
abbrev pub file_name : FileId → List ℕ
file_name Meta = codes "meta"
file_name Index = codes "index"
file_name (Volume k) = decimal k

-- why a reply of a peer isn't taken
abbrev pub peer_fault : PeerFault → List ℕ
peer_fault (peers.Ended bytes) = codes "ended " ++ decimal bytes
peer_fault (peers.Length length) = codes "length " ++ decimal length
peer_fault peers.Decode = codes "decode"
peer_fault (peers.Code code) = codes "code " ++ signed_decimal code
peer_fault peers.OtherType = codes "type"
peer_fault peers.Shape = codes "shape"

-- The last line of a refusal. Want of memory has none.
abbrev pub line_of : Refusal → List ℕ
line_of (Usage at) = codes "usage " ++ (decimal at ++ 10 ∷ [])
line_of ReadFault = codes "read fault\n"
line_of InputLimit = codes "limit input 16777217\n"
line_of (Image fault) = image_line fault
line_of (Line fault) = text_line fault.line fault.fault
line_of (Script fault) = script_line fault.line fault.fault
line_of (Rules fault) = rule_line fault.line fault.fault
line_of (Condition line) = text_line line lines.Condition
line_of (Limit what number) = codes "limit " ++ (limit_name what ++ (32 ∷ (decimal number ++ 10 ∷ [])))
line_of (NotLater last) = codes "not later " ++ (decimal last.sec ++ (32 ∷ (decimal last.usec ++ 10 ∷ [])))
line_of (Changed pmid) = codes "changed " ++ (pmid_text pmid ++ 10 ∷ [])
line_of (Compressed file) = codes "compressed " ++ (file_name file ++ 10 ∷ [])
line_of (NotArchive file at) = codes "not archive " ++ (file_name file ++ (32 ∷ (decimal at ++ 10 ∷ [])))
line_of (Nothing stamp) = codes "nothing at " ++ (decimal stamp.sec ++ (32 ∷ (decimal stamp.usec ++ 10 ∷ [])))
line_of (UnsoundItems first second) =
    codes "unsound items " ++ (decimal first.sec ++ (32 ∷ (decimal first.usec ++ (32 ∷ (decimal second.sec ++ (32 ∷ (decimal second.usec ++ 10 ∷ [])))))))
line_of (UnsoundBoundary entry file below above) =
    codes "unsound boundary " ++ (decimal entry ++ (32 ∷ (file_name file ++ (32 ∷ (decimal below ++ (32 ∷ (decimal above ++ 10 ∷ [])))))))
line_of (UnsoundLate entry stamp) = codes "unsound late " ++ (decimal entry ++ (32 ∷ (decimal stamp.sec ++ (32 ∷ (decimal stamp.usec ++ 10 ∷ [])))))
line_of (Live volume) = codes "live " ++ (decimal volume ++ 10 ∷ [])
line_of DiskFault = codes "disk fault\n"
line_of (ClockEnd left) = codes "clock end " ++ (decimal left ++ 10 ∷ [])
line_of (ClockFault left) = codes "clock fault " ++ (decimal left ++ 10 ∷ [])
line_of Accept = codes "accept fault\n"
line_of (Peer reply why) = codes "peer " ++ (decimal reply ++ (32 ∷ (peer_fault why ++ 10 ∷ [])))
line_of (Lacks source pmid) = codes "lacks " ++ (decimal source ++ (32 ∷ (pmid_text pmid ++ 10 ∷ [])))
line_of (Clashes pmid) = codes "clash " ++ (pmid_text pmid ++ 10 ∷ [])
line_of (Stands file) = codes "stands " ++ (file_name file ++ 10 ∷ [])
line_of NoMemory = []

-- its line has a number or a name, so that making it takes memory
abbrev pub IsNumbered : Refusal → Type 0
IsNumbered ReadFault = ⊥
IsNumbered InputLimit = ⊥
IsNumbered DiskFault = ⊥
IsNumbered Accept = ⊥
IsNumbered NoMemory = ⊥
IsNumbered _ = Unit {0}

-- What a call looks at when it is refused: its words, the reading of an input, the input, the files (recovered, read, or run over), the disk
-- as a device, the clock, the doors, the replies of a peer, the merge of two archives, the place where an archive is to come to stand; or
-- memory, at any place.
pub data Stage : Type 0 where
  AtWords : Stage
  AtReading : Stage
  AtInput : Stage
  AtFiles : Stage
  AtDisk : Stage
  AtClock : Stage
  AtDoors : Stage
  AtReplies : Stage
  AtMerge : Stage
  AtTarget : Stage
  AtMemory : Stage

abbrev pub stage_of : Refusal → Stage
stage_of (Usage at) = AtWords
stage_of ReadFault = AtReading
stage_of InputLimit = AtReading
stage_of (Image fault) = AtInput
stage_of (Line fault) = AtInput
stage_of (Script fault) = AtInput
stage_of (Rules fault) = AtInput
stage_of DiskFault = AtDisk
stage_of (ClockEnd left) = AtClock
stage_of (ClockFault left) = AtClock
stage_of Accept = AtDoors
stage_of (Peer reply why) = AtReplies
stage_of (Lacks source pmid) = AtMerge
stage_of (Clashes pmid) = AtMerge
stage_of (Stands file) = AtTarget
stage_of NoMemory = AtMemory
stage_of _ = AtFiles

-- the run over the files ends before its end
abbrev pub IsOfRun : Refusal → Type 0
IsOfRun (Condition line) = Unit {0}
IsOfRun (Limit what number) = Unit {0}
IsOfRun (NotLater last) = Unit {0}
IsOfRun (Changed pmid) = Unit {0}
IsOfRun _ = ⊥

-- the archive was read, and isn't sound
abbrev pub IsOfSoundness : Refusal → Type 0
IsOfSoundness (UnsoundItems first second) = Unit {0}
IsOfSoundness (UnsoundBoundary entry file below above) = Unit {0}
IsOfSoundness (UnsoundLate entry stamp) = Unit {0}
IsOfSoundness _ = ⊥

-- a reader's fault, as a refusal
abbrev pub reader_refusal : ReaderFault → Refusal
reader_refusal (faults.Compressed file) = Compressed file
reader_refusal (faults.NotArchive file at) = NotArchive file at
reader_refusal faults.DiskFault = DiskFault
reader_refusal faults.NoMemory = NoMemory

-- a breach of an archive that was read, or a reader's fault
abbrev pub check_refusal : CheckFault → Refusal
check_refusal (checking.Items first second) = UnsoundItems first second
check_refusal (checking.Boundary entry file below above) = UnsoundBoundary entry file below above
check_refusal (checking.Late entry stamp) = UnsoundLate entry stamp
check_refusal (checking.Reader fault) = reader_refusal fault

-- and a fault of recovery
abbrev pub recover_refusal : RecoverFault → Refusal
recover_refusal (recovering.Compressed file) = Compressed file
recover_refusal (recovering.NotArchive file at) = NotArchive file at
recover_refusal recovering.DiskFault = DiskFault
recover_refusal recovering.NoMemory = NoMemory

-- a file would be too long, or there would be too many volumes
abbrev pub full_refusal : FileId → ℕ → Refusal
full_refusal Meta number = Limit kinds.Meta number
full_refusal Index number = Limit kinds.Index number
full_refusal (Volume k) number = Limit kinds.Volume number

-- why a run's files aren't recovered, or the archive turns an item away
abbrev pub run_refusal : RunFault → Refusal
run_refusal (running.Compressed file) = Compressed file
run_refusal (running.NotArchive file at) = NotArchive file at
run_refusal (running.Large bytes) = Limit kinds.Record bytes
run_refusal (running.NotLater last) = NotLater last
run_refusal (running.Changed pmid) = Changed pmid
run_refusal (running.Full file bytes) = full_refusal file bytes
run_refusal running.NoMemory = NoMemory
run_refusal running.DiskFault = DiskFault

-- and the end of a run, if it is none
abbrev pub ending_refusal : Ending → Option Refusal
ending_refusal ends.Done = None
ending_refusal (ends.Condition line) = Some (Condition line)
ending_refusal ends.DiskFault = Some DiskFault
ending_refusal (ends.NotArchive file at) = Some (NotArchive file at)
ending_refusal (ends.Compressed file) = Some (Compressed file)
ending_refusal (ends.Limit what number) = Some (Limit what number)
ending_refusal (ends.ClockEnd samples) = Some (ClockEnd samples)
ending_refusal (ends.ClockFault samples) = Some (ClockFault samples)
ending_refusal ends.NoMemory = Some NoMemory
ending_refusal (ends.NotLater last) = Some (NotLater last)
ending_refusal (ends.Changed pmid) = Some (Changed pmid)

-- the line is written, or a front of it where the sink failed
abbrev pub Wrote : ℕ → ℕ → List ℕ → List ℕ → List ℕ → Type 0
Wrote faults_before faults_after before after line =
    (after ≡ before ++ line) ⊎ (Rose faults_before faults_after × (n : ℕ) × (after ≡ before ++ take n line))
