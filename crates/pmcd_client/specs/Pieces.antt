-- The pieces that a turn is made of.
use Rattle.std.specs.Prelude.{◌≡◌, ◌≢◌, ℕ, ◌+◌, ◌<◌, ◌≤◌, List, [], ◌++◌, length, Result, Ok, Err, Option, Some, None}
use Rattle.pcp_outside.specs.Causes.{Rose}
use Rattle.pcp_outside.specs.Sides.{SourceSide, SinkSide}
use Rattle.pdu_codec.specs.declared.pdu.Pdu.{Pdu}
use Rattle.pdu_codec.specs.declared.pdu.Pdu.TheVariants as pdus
use Rattle.pdu_codec.specs.declared.types.PduType.TheVariants as types
use Rattle.pdu_codec.specs.declared.fault.PduFault.{PduFault}
use Rattle.pdu_codec.specs.declared.fault.PduFault.TheVariants as pdu_faults
use Rattle.pdu_codec.specs.Bodies.{IsPdu}
use Rattle.pdu_codec.specs.Spelling.{all_bytes, pdu_bytes}
use Rattle.pdu_codec.specs.Types.{type_of}
use Rattle.pdu_stream.specs.Streams.{IsBegun, IsBad}
use Rattle.pdu_stream.specs.Streams.{IsPdu as IsWhole}
use Rattle.pmcd_client.specs.declared.faults.ReplyFault.{ReplyFault}
use Rattle.pmcd_client.specs.declared.faults.ReplyFault.TheVariants as whys
use Rattle.pmcd_client.specs.declared.faults.TalkFault.{TalkFault}
use Rattle.pmcd_client.specs.declared.faults.TalkFault.TheVariants as faults
use Rattle.pmcd_client.specs.Bytes.{Took, Wrote, WroteFront, AreFirst, IsFront, IsPart, IsReply, IsMisfit}
use Rattle.pmcd_client.specs.Replies.{Listed}
use Rattle.pmcd_client.specs.Turns.{Turn, Fits, type_due}

abbrev pub Stands : SourceSide → Type 0
Stands i = i.faults_after ≡ i.faults

abbrev pub Fails : SourceSide → Type 0
Fails i = Rose i.faults i.faults_after × (i.faults ≤ i.faults_after)

-- Bytes were read to a goal, or to the input's end before it. Of what a failing source gave nothing is lost.
abbrev pub Fills : SourceSide → ℕ → List ℕ → List ℕ → Type 0
Fills i goal old new = (part : List ℕ) × Took i part × (new ≡ old ++ part) × (length new ≤ goal) × (length new < goal → i.tells → i.after ≡ []) × Stands i

abbrev pub FillsNot : SourceSide → ℕ → List ℕ → List ℕ → TalkFault → Type 0
FillsNot i goal old new faults.NoMemory = (part : List ℕ) × Took i part × (length old + length part ≤ goal) × Stands i
FillsNot i goal old new faults.ReadFault = (part : List ℕ) × Took i part × (new ≡ old ++ part) × (length new < goal) × Fails i
FillsNot i goal old new e = ⊥

-- why no PDU was read
abbrev pub IsUnread : SourceSide → List ℕ → ReplyFault → Type 0
IsUnread i bytes (whys.Ended n) = IsBegun bytes × (n ≡ length bytes) × (i.tells → i.after ≡ [])
IsUnread i bytes (whys.Length found) = (length bytes ≡ 4) × IsBad bytes found
IsUnread i bytes whys.Decode = IsWhole bytes × ((reply : Pdu) → IsPdu bytes reply → ⊥)
IsUnread i bytes why = ⊥

-- what is told where whole bytes weren't decoded
abbrev pub unread_by : ℕ → PduFault → TalkFault
unread_by number pdu_faults.NoMemory = faults.NoMemory
unread_by number e = faults.Peer number whys.Decode

-- why whole bytes are no reply
abbrev pub IsUndecoded : List ℕ → ℕ → TalkFault → Type 0
IsUndecoded bytes number faults.NoMemory = Unit {0}
IsUndecoded bytes number (faults.Peer reply why) = (reply ≡ number) × (why ≡ whys.Decode) × ((p : Pdu) → IsPdu bytes p → ⊥)
IsUndecoded bytes number e = ⊥

-- one PDU was received, and nothing behind it was taken; `number` replies came before
abbrev pub Receives : SourceSide → ℕ → Result Pdu TalkFault → Type 0
Receives i number (Ok reply) = (taken : List ℕ) × Took i taken × IsReply taken reply × Stands i
Receives i number (Err faults.NoMemory) = (taken : List ℕ) × Took i taken × IsPart taken × Stands i
Receives i number (Err faults.ReadFault) = (taken : List ℕ) × Took i taken × IsBegun taken × Fails i
Receives i number (Err faults.WriteFault) = ⊥
Receives i number (Err (faults.Peer reply why)) = (taken : List ℕ) × Took i taken × IsUnread i taken why × (reply ≡ number) × Stands i

-- an error code is told, and else that it's another PDU
abbrev pub IsMisplaced : Pdu → ReplyFault → Type 0
IsMisplaced reply (whys.Code code) = reply ≡ pdus.Error code
IsMisplaced reply whys.Type = type_of reply ≢ types.Error
IsMisplaced reply why = ⊥

-- why a PDU doesn't fit
abbrev pub IsUnfit : Turn → Pdu → ReplyFault → Type 0
IsUnfit turn reply (whys.Code code) = (reply ≡ pdus.Error code) × (Fits turn reply → ⊥)
IsUnfit turn reply whys.Type = (type_of reply ≢ types.Error) × (type_of reply ≢ type_due turn)
IsUnfit turn reply whys.Shape = (type_of reply ≢ types.Error) × (type_of reply ≡ type_due turn) × (Fits turn reply → ⊥)
IsUnfit turn reply why = ⊥

-- what is told of a PDU: it fits, or why it doesn't
abbrev pub IsJudged : Turn → Pdu → Option ReplyFault → Type 0
IsJudged turn reply None = Fits turn reply
IsJudged turn reply (Some why) = IsUnfit turn reply why

-- the reply to a turn was received and fits
abbrev pub Awaits : SourceSide → ℕ → Turn → Result Pdu TalkFault → Type 0
Awaits i number turn (Ok reply) = (taken : List ℕ) × Took i taken × IsReply taken reply × Fits turn reply × Stands i
Awaits i number turn (Err faults.NoMemory) = (taken : List ℕ) × Took i taken × IsPart taken × Stands i
Awaits i number turn (Err faults.ReadFault) = (taken : List ℕ) × Took i taken × IsBegun taken × Fails i
Awaits i number turn (Err faults.WriteFault) = ⊥
Awaits i number turn (Err (faults.Peer reply why)) = (taken : List ℕ) × Took i taken × IsMisfit i turn taken why × (reply ≡ number) × Stands i

-- requests were written
pub record Sends (o : SinkSide) (requests : List Pdu) : Type 0 where
  pub wrote : Wrote o (all_bytes pdu_bytes requests)
  pub stands : o.faults_after ≡ o.faults

-- or the first ones of them where memory was refused, or a front where the sink failed
abbrev pub SendsNot : SinkSide → List Pdu → TalkFault → Type 0
SendsNot o requests faults.NoMemory = WroteFront o [] (AreFirst requests) × (o.faults_after ≡ o.faults)
SendsNot o requests faults.WriteFault = WroteFront o [] (λ front. IsFront front (all_bytes pdu_bytes requests)) × Rose o.faults o.faults_after × (o.faults ≤ o.faults_after)
SendsNot o requests e = ⊥

-- the list of a domain as a reply
abbrev pub list_reply : Listed → Pdu
list_reply listed = pdus.Instance listed.0 listed.1
