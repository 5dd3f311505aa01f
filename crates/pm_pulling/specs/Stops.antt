-- What is told of a call that ended before all its samples were logged.
use Rattle.std.specs.Prelude.{ℕ, Option, Some, None}
use Rattle.logger_core.specs.declared.fault.LogFault.{LogFault}
use Rattle.logger_core.specs.declared.fault.LogFault.TheVariants as logs
use Rattle.pmcd_client.specs.declared.faults.ReplyFault.{ReplyFault}
use Rattle.pmcd_client.specs.declared.faults.ReplyFault.TheVariants as replies
use Rattle.pmcd_client.specs.declared.faults.TalkFault.TheVariants as talks
use Rattle.pm_words.specs.declared.refusal.PeerFault.{PeerFault}
use Rattle.pm_words.specs.declared.refusal.PeerFault.TheVariants as peers
use Rattle.pm_words.specs.declared.refusal.Refusal.{Refusal}
use Rattle.pm_words.specs.declared.refusal.Refusal.TheVariants as refusals
use Rattle.pm_words.specs.Refusals.{run_refusal}
use Rattle.pm_pulling.specs.declared.stop.Stop.{Stop}
use Rattle.pm_pulling.specs.declared.stop.Stop.TheVariants.{Talk, Archive}

-- why a reply doesn't fit
abbrev pub peer_fault : ReplyFault → PeerFault
peer_fault (replies.Ended bytes) = peers.Ended bytes
peer_fault (replies.Length found) = peers.Length found
peer_fault replies.Decode = peers.Decode
peer_fault (replies.Code code) = peers.Code code
peer_fault replies.Type = peers.OtherType
peer_fault replies.Shape = peers.Shape

-- of a request that couldn't be written nothing is told
abbrev pub stop_refusal : Stop → Option Refusal
stop_refusal (Talk talks.NoMemory) = Some refusals.NoMemory
stop_refusal (Talk talks.ReadFault) = Some refusals.ReadFault
stop_refusal (Talk talks.WriteFault) = None
stop_refusal (Talk (talks.Peer reply why)) = Some (refusals.Peer reply (peer_fault why))
stop_refusal (Archive fault) = Some (run_refusal fault)

-- the status where the archive doesn't take a sample: its record or a file would be too long, but for these
abbrev pub away_status : LogFault → ℕ
away_status (logs.NotLater last) = 12
away_status (logs.Changed pmid) = 13
away_status fault = 7
