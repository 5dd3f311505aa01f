-- A whole dialogue: what is asked, what is replied, the items that come of it, and how it breaks off.
use Rattle.std.specs.Prelude.{◌≡◌, ◌⊎◌, ℕ, ◌-◌, List, [], ◌∷◌, ◌++◌, length}
use Rattle.pcp_base.specs.declared.result.PmResult.{PmResult}
use Rattle.archive_meta.specs.declared.facts.Facts.{Facts}
use Rattle.archive_meta.specs.Enough.{AreEnough}
use Rattle.pcp_outside.specs.Causes.{shown_count}
use Rattle.pcp_outside.specs.Sides.{SourceSide, SinkSide}
use Rattle.pdu_codec.specs.declared.pdu.Pdu.{Pdu}
use Rattle.pdu_codec.specs.declared.pdu.Pdu.TheVariants as pdus
use Rattle.pmcd_client.specs.declared.faults.ReplyFault.TheVariants as whys
use Rattle.pmcd_client.specs.declared.faults.TalkFault.{TalkFault}
use Rattle.pmcd_client.specs.declared.faults.TalkFault.TheVariants as faults
use Rattle.pmcd_client.specs.Bytes.{Passes, Stops}
use Rattle.pmcd_client.specs.Items.{sampled}
use Rattle.pmcd_client.specs.Replies.{Standing, opened}
use Rattle.pmcd_client.specs.Turns.{Turn, Answers, opening, sampling}

-- a result, and what describes it
pub record Sample : Type 0 where
  pub result : PmResult
  pub facts : Facts

-- These replies to a sample's requests fit, and every instance shown is listed: the item is their RESULT, with the
-- descriptions and the last lists.
pub record IsSampled (s : Standing) (replies : List Pdu) (item : Sample) (after : Standing) : Type 0 where
  pub answered : Answers (sampling s replies) replies []
  pub lists : List Pdu
  pub first : replies ≡ pdus.Result item.result ∷ lists
  pub becomes : after ≡ sampled s replies
  pub described : item.facts ≡ after.facts
  pub enough : AreEnough item.facts item.result.sets

-- samples one after another
abbrev pub AreSampled : Standing → List Turn → List Pdu → List Sample → Standing → Type 0
AreSampled s turns replies [] after = (turns ≡ []) × (replies ≡ []) × (after ≡ s)
AreSampled s turns replies (item ∷ items) after =
    (first : List Pdu) × (later : List Pdu) × (later_turns : List Turn) × (next : Standing)
    × (replies ≡ first ++ later) × (turns ≡ sampling s first ++ later_turns)
    × IsSampled s first item next × AreSampled next later_turns later items after

-- What a remote logger asks about these names: the turns are a function of the replies, and the items are those of the
-- samples so far.
pub record Asks (names : List (List ℕ)) (turns : List Turn) (replies : List Pdu) (items : List Sample) (s : Standing) : Type 0 where
  pub first : List Pdu
  pub later : List Pdu
  pub later_turns : List Turn
  pub are : replies ≡ first ++ later
  pub asked : turns ≡ opening names first ++ later_turns
  pub answered : Answers (opening names first) first []
  pub samples : AreSampled (opened names first) later_turns later items s

-- A dialogue since its beginning: so it stands, and these items came of it. The bytes taken are its replies and those written
-- its requests, and nothing else.
pub record Talks (names : List (List ℕ)) (i : SourceSide) (o : SinkSide) (items : List Sample) (s : Standing) : Type 0 where
  pub turns : List Turn
  pub replies : List Pdu
  pub asks : Asks names turns replies items s
  pub passes : Passes i o turns replies
  pub count : s.replies ≡ shown_count (length replies)

-- The turns of a sample behind those before, as far as its replies tell.
pub record Continues (names : List (List ℕ)) (turns : List Turn) (replies : List Pdu) (items : List Sample) : Type 0 where
  pub turns_before : List Turn
  pub replies_before : List Pdu
  pub s : Standing
  pub asks : Asks names turns_before replies_before items s
  pub own : List Pdu
  pub are : replies ≡ replies_before ++ own
  pub asked : turns ≡ turns_before ++ sampling s own

-- the turns before the first fetch, or those of a further sample
abbrev pub IsAsking : List (List ℕ) → List Turn → List Pdu → List Sample → Type 0
IsAsking names turns replies items = ((turns ≡ opening names replies) × (items ≡ [])) ⊎ Continues names turns replies items

-- it broke off within a turn, or memory was refused
pub record BreaksWithin (names : List (List ℕ)) (i : SourceSide) (o : SinkSide) (items : List Sample) (e : TalkFault) : Type 0 where
  pub turns : List Turn
  pub replies : List Pdu
  pub asking : IsAsking names turns replies items
  pub stops : Stops i o turns 0 replies e

-- All replies to a sample's requests came, but an instance shown isn't listed: the last of them doesn't fit.
pub record IsUnlisted (names : List (List ℕ)) (i : SourceSide) (o : SinkSide) (items : List Sample) (e : TalkFault) : Type 0 where
  pub turns : List Turn
  pub replies : List Pdu
  pub continues : Continues names turns replies items
  pub passes : Passes i o turns replies
  pub shown : PmResult
  pub lists : List Pdu
  pub first : continues.own ≡ pdus.Result shown ∷ lists
  pub unlisted : AreEnough (sampled continues.s continues.own).facts shown.sets → ⊥
  pub is : e ≡ faults.Peer (shown_count (length replies) - 1) whys.Shape

-- how a dialogue breaks off, over which these items came
abbrev pub BreaksOff : List (List ℕ) → SourceSide → SinkSide → List Sample → TalkFault → Type 0
BreaksOff names i o items e = BreaksWithin names i o items e ⊎ IsUnlisted names i o items e
