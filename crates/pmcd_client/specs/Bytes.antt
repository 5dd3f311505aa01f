-- What is taken and written for the turns of a dialogue, and how it breaks off.
use Rattle.std.specs.Prelude.{◌≡◌, ◌≢◌, ◌⊎◌, ℕ, ◌+◌, ◌≤◌, List, [], ◌∷◌, ◌++◌, take, length}
use Rattle.pcp_outside.specs.Causes.{Rose, shown_count}
use Rattle.pcp_outside.specs.Sides.{SourceSide, SinkSide}
use Rattle.pdu_codec.specs.declared.pdu.Pdu.{Pdu}
use Rattle.pdu_codec.specs.declared.pdu.Pdu.TheVariants as pdus
use Rattle.pdu_codec.specs.declared.types.PduType.TheVariants as types
use Rattle.pdu_codec.specs.Bodies.{IsPdu}
use Rattle.pdu_codec.specs.Spelling.{all_bytes, pdu_bytes}
use Rattle.pdu_codec.specs.Types.{type_of}
use Rattle.pdu_stream.specs.Streams.{IsBegun, IsBad}
use Rattle.pdu_stream.specs.Streams.{IsPdu as IsWhole}
use Rattle.pmcd_client.specs.declared.faults.ReplyFault.{ReplyFault}
use Rattle.pmcd_client.specs.declared.faults.ReplyFault.TheVariants as whys
use Rattle.pmcd_client.specs.declared.faults.TalkFault.{TalkFault}
use Rattle.pmcd_client.specs.declared.faults.TalkFault.TheVariants as faults
use Rattle.pmcd_client.specs.Turns.{Turn, requests_of, type_due, Fits, Answers}

-- these bytes were taken, where the source tells
abbrev pub Took : SourceSide → List ℕ → Type 0
Took i taken = i.tells → i.left ≡ taken ++ i.after

-- these bytes were written, where the sink tells
abbrev pub Wrote : SinkSide → List ℕ → Type 0
Wrote o bytes = o.tells → o.after ≡ o.written ++ bytes

-- no call of an object has failed
pub record NoneFails (i : SourceSide) (o : SinkSide) : Type 0 where
  pub source_stands : i.faults_after ≡ i.faults
  pub sink_stands : o.faults_after ≡ o.faults

-- one has failed, of the source alone
pub record SourceFails (i : SourceSide) (o : SinkSide) : Type 0 where
  pub source_rose : Rose i.faults i.faults_after
  pub source_later : i.faults ≤ i.faults_after
  pub sink_stands : o.faults_after ≡ o.faults

-- one has failed, of the sink alone
pub record SinkFails (i : SourceSide) (o : SinkSide) : Type 0 where
  pub sink_rose : Rose o.faults o.faults_after
  pub sink_later : o.faults ≤ o.faults_after
  pub source_stands : i.faults_after ≡ i.faults

-- ---- requests

-- the bytes of the requests before a reply
abbrev pub turn_bytes : Turn → List ℕ
turn_bytes turn = all_bytes pdu_bytes (requests_of turn)

abbrev pub turns_bytes : List Turn → List ℕ
turns_bytes turns = all_bytes turn_bytes turns

-- ---- replies

-- a whole reply, of at most 65,536 bytes
pub record IsReply (bytes : List ℕ) (reply : Pdu) : Type 0 where
  pub whole : IsWhole bytes
  pub is : IsPdu bytes reply

-- replies one behind another
abbrev pub AreReplies : List ℕ → List Pdu → Type 0
AreReplies bytes [] = bytes ≡ []
AreReplies bytes (reply ∷ replies) = (first : List ℕ) × (more : List ℕ) × (bytes ≡ first ++ more) × IsReply first reply × AreReplies more replies

-- What was taken behind the replies that fit is no reply that fits: the first reason is told. Of one that isn't whole all
-- bytes that were left are taken, and of one whose length no PDU has its first word.
abbrev pub IsMisfit : SourceSide → Turn → List ℕ → ReplyFault → Type 0
IsMisfit i turn bytes (whys.Ended n) = IsBegun bytes × (n ≡ length bytes) × (i.tells → i.after ≡ [])
IsMisfit i turn bytes (whys.Length found) = (length bytes ≡ 4) × IsBad bytes found
IsMisfit i turn bytes whys.Decode = IsWhole bytes × ((reply : Pdu) → IsPdu bytes reply → ⊥)
IsMisfit i turn bytes (whys.Code code) = IsReply bytes (pdus.Error code) × (Fits turn (pdus.Error code) → ⊥)
IsMisfit i turn bytes whys.Type = (reply : Pdu) × IsReply bytes reply × (type_of reply ≢ types.Error) × (type_of reply ≢ type_due turn)
IsMisfit i turn bytes whys.Shape = (reply : Pdu) × IsReply bytes reply × (type_of reply ≢ types.Error) × (type_of reply ≡ type_due turn) × (Fits turn reply → ⊥)

-- ---- how it goes

-- All these turns were taken: each reply fits, and behind the last one nothing was taken nor written.
pub record Passes (i : SourceSide) (o : SinkSide) (turns : List Turn) (replies : List Pdu) : Type 0 where
  pub answered : Answers turns replies []
  pub taken : List ℕ
  pub spelled : AreReplies taken replies
  pub took : Took i taken
  pub wrote : Wrote o (turns_bytes turns)
  pub stand : NoneFails i o

-- some bytes begin others
abbrev pub IsFront : List ℕ → List ℕ → Type 0
IsFront front all = (rest : List ℕ) × (all ≡ front ++ rest)

-- these bytes were written and some front behind them, where the sink tells
abbrev pub WroteFront : SinkSide → List ℕ → (List ℕ → Type 0) → Type 0
WroteFront o bytes IsIt = o.tells → (front : List ℕ) × (o.after ≡ o.written ++ (bytes ++ front)) × IsIt front

-- whole requests, the first ones of these
abbrev pub AreFirst : List Pdu → List ℕ → Type 0
AreFirst requests front = (some more : List Pdu) × (requests ≡ some ++ more) × (front ≡ all_bytes pdu_bytes some)

-- What was written for the turns that are left: all requests of the next one, a front of them where the sink failed, or the
-- first ones whole where memory was refused. Nothing of the reply was taken before all were written.
abbrev pub WritesFor : List ℕ → TalkFault → List Turn → List ℕ → Type 0
WritesFor took e [] front = front ≡ []
WritesFor took faults.NoMemory (turn ∷ later) front = AreFirst (requests_of turn) front × (took ≢ [] → front ≡ turn_bytes turn)
WritesFor took faults.WriteFault (turn ∷ later) front = IsFront front (turn_bytes turn)
WritesFor took faults.ReadFault (turn ∷ later) front = front ≡ turn_bytes turn
WritesFor took (faults.Peer reply why) (turn ∷ later) front = front ≡ turn_bytes turn

-- a whole PDU, or one that is begun (which may be nothing), or a length word
abbrev pub IsPart : List ℕ → Type 0
IsPart bytes = IsWhole bytes ⊎ (IsBegun bytes ⊎ (length bytes ≡ 4))

-- Why a turn wasn't taken, by what was taken of its reply; `number` replies came before. Where memory was refused nothing
-- behind the reply was taken.
abbrev pub BreaksBy : SourceSide → SinkSide → ℕ → List ℕ → Turn → TalkFault → Type 0
BreaksBy i o number took turn faults.NoMemory = IsPart took × NoneFails i o
BreaksBy i o number took turn faults.ReadFault = IsBegun took × SourceFails i o
BreaksBy i o number took turn faults.WriteFault = (took ≡ []) × SinkFails i o
BreaksBy i o number took turn (faults.Peer reply why) = IsMisfit i turn took why × (reply ≡ shown_count number) × NoneFails i o

-- the next turn wasn't taken, or memory was refused behind the last one
abbrev pub EndsBy : SourceSide → SinkSide → ℕ → List ℕ → List Turn → TalkFault → Type 0
EndsBy i o number took [] e = (took ≡ []) × (e ≡ faults.NoMemory) × NoneFails i o
EndsBy i o number took (turn ∷ later) e = BreaksBy i o number took turn e

-- These replies fit the first turns, and then it broke off; `before` replies came before these turns.
pub record Stops (i : SourceSide) (o : SinkSide) (turns : List Turn) (before : ℕ) (replies : List Pdu) (e : TalkFault) : Type 0 where
  pub rest : List Turn
  pub answered : Answers turns replies rest
  pub taken : List ℕ
  pub spelled : AreReplies taken replies
  -- behind those replies
  pub more_taken : List ℕ
  pub took : Took i (taken ++ more_taken)
  pub wrote : WroteFront o (turns_bytes (take (length replies) turns)) (WritesFor more_taken e rest)
  pub ends : EndsBy i o (before + length replies) more_taken rest e
