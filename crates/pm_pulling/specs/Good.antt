-- What a call needs to be done, and what stands in its way: replies that fit, files that can be read, samples that the archive takes, and no count
-- that rises.
use Rattle.std.specs.Prelude.{◌≡◌, ◌≢◌, ℕ, ◌<◌, List, [], ◌∷◌, ◌++◌, length, get_or, None}
use Rattle.pcp_model.specs.Archive.{Readable}
use Rattle.pcp_model.specs.Disk.{Files, contents_of}
use Rattle.pcp_outside.specs.Causes.{Rose}
use Rattle.pcp_outside.specs.Sides.{SourceSide, SinkSide}
use Rattle.logger_core.specs.declared.fault.LogFault.{LogFault}
use Rattle.logger_core.specs.declared.fault.LogFault.TheVariants as logs
use Rattle.logging_run.specs.Handing.{events_of}
use Rattle.logging_run.specs.Running.{IsTurnedAway}
use Rattle.pmcd_client.specs.declared.faults.ReplyFault.{ReplyFault}
use Rattle.pmcd_client.specs.declared.faults.TalkFault.TheVariants.{Peer}
use Rattle.pmcd_client.specs.Replies.{Standing}
use Rattle.pmcd_client.specs.Talks.{BreaksOff, Sample, Talks}
use Rattle.pm_words.specs.declared.words.PullWords.{PullWords}
use Rattle.pm_pulling.specs.Ends.{CallSide, Orders}
use Rattle.pm_pulling.specs.Pulling.{all_sure, report_of}

-- ---- what bytes hold for whoever asks

-- each number of a source is a byte
abbrev pub AreBytes : List ℕ → Type 0
AreBytes bytes = (i : ℕ) → get_or bytes i 0 < 256

-- a source that had these bytes, of which those are left; and a sink of which nothing is said
abbrev pub source_of : List ℕ → List ℕ → SourceSide
source_of bytes rest = record { tells = Unit {0}; left = bytes; after = rest; faults = 0; faults_after = 0 }

abbrev pub any_sink : SinkSide
any_sink = record { tells = ⊥; written = []; after = []; faults = 0; faults_after = 0 }

-- the bytes begin with the replies of a dialogue about these names, of which these samples come
abbrev pub Offers : List (List ℕ) → List ℕ → List Sample → Type 0
Offers names bytes samples = (rest : List ℕ) × (s : Standing) × Talks names (source_of bytes rest) any_sink samples s

-- behind these samples the reply with this number doesn't fit, for this reason
abbrev pub Misfits : List (List ℕ) → List ℕ → List Sample → ℕ → ReplyFault → Type 0
Misfits names bytes samples number why = (rest : List ℕ) × BreaksOff names (source_of bytes rest) any_sink samples (Peer number why)

-- ---- what else may stand in the way

-- over what recovery leaves of these files the archive takes each of these samples, logged one behind another
abbrev pub TakesEach : ℕ → Files → List Sample → Type 0
TakesEach limit start samples =
    (before : List Sample) (x : Sample) (rest : List Sample) (fault : LogFault) → fault ≢ logs.NoMemory → samples ≡ before ++ x ∷ rest
    → IsTurnedAway limit start (events_of (all_sure before)) (report_of x) fault → ⊥

-- The peer's replies can be told, the files can be read and none stands wrapped, the archive takes these samples, and no count rose.
pub record IsClear {D : Type 0} (c : CallSide D) (k : SinkSide) (asked : PullWords) (samples : List Sample) : Type 0 where
  pub replies : c.pull.reply.tells
  pub bytes : AreBytes c.pull.reply.left
  pub files : c.pull.disk.tells
  pub unwrapped : c.pull.disk.wrapped_file c.pull.disk_was ≡ None
  pub readable : Readable (contents_of (c.pull.disk.held c.pull.disk_was))
  pub takes : TakesEach asked.volume (contents_of (c.pull.disk.held c.pull.disk_was)) samples
  pub reply_kept : Rose c.pull.reply.faults c.pull.reply.faults_after → ⊥
  pub request_kept : Rose c.pull.request.faults c.pull.request.faults_after → ⊥
  pub disk_kept : Rose (c.pull.disk.faults c.pull.disk_was) (c.pull.disk.faults c.pull.disk_is) → ⊥
  pub sink_kept : Rose k.faults k.faults_after → ⊥

-- the words ask for samples, the replies give as many, and nothing stands in the way
pub record IsGoodPull {D : Type 0} (c : CallSide D) (k : SinkSide) : Type 0 where
  pub asked : PullWords
  pub orders : Orders c.words asked
  pub samples : List Sample
  pub many : length samples ≡ asked.samples
  pub offers : Offers asked.names c.pull.reply.left samples
  pub clear : IsClear c k asked samples

-- the replies give fewer, then one doesn't fit, and nothing else stands in the way
pub record IsBadPeer {D : Type 0} (c : CallSide D) (k : SinkSide) : Type 0 where
  pub asked : PullWords
  pub orders : Orders c.words asked
  pub samples : List Sample
  pub few : length samples < asked.samples
  pub number : ℕ
  pub why : ReplyFault
  pub misfits : Misfits asked.names c.pull.reply.left samples number why
  pub clear : IsClear c k asked samples

-- The replies give these samples and then one more, within those that are asked for. The archive takes those and not this one, for this reason, and
-- nothing else stands in the way.
pub record IsUntakenSample {D : Type 0} (c : CallSide D) (k : SinkSide) (fault : LogFault) : Type 0 where
  pub asked : PullWords
  pub orders : Orders c.words asked
  pub before : List Sample
  pub few : length before < asked.samples
  pub x : Sample
  pub offers : Offers asked.names c.pull.reply.left (before ++ x ∷ [])
  pub away : IsTurnedAway asked.volume (contents_of (c.pull.disk.held c.pull.disk_was)) (events_of (all_sure before)) (report_of x) fault
  pub clear : IsClear c k asked before
