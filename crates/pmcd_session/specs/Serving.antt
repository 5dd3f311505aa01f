-- How the whole PDUs of a client are served one after another: what is done with each, by how the session stands, and what
-- of it the next one finds.
use Rattle.std.specs.Prelude.{◌≡◌, ◌⊎◌, ℕ, Bool, true, false, ◌&&◌, nat_lt, nat_le, List, [], ◌∷◌, ◌++◌, length, slice_get, Option, Some, None}
use Rattle.pcp_base.specs.Time.{Moment}
use Rattle.pdu_codec.specs.declared.pdu.Pdu.{Pdu}
use Rattle.pdu_codec.specs.declared.pdu.Pdu.TheVariants as pdus
use Rattle.pdu_codec.specs.Bodies.{IsPdu}
use Rattle.fetch_answers.specs.Answers.{answer_of}
use Rattle.fetch_answers.specs.Readings.{RegionReading}
use Rattle.pmcd_session.specs.declared.halt.Halt.{Halt}
use Rattle.pmcd_session.specs.declared.halt.Halt.TheVariants as halts
use Rattle.pmcd_session.specs.declared.standing.Standing.{Standing}
use Rattle.pmcd_session.specs.Contexts.{may_set, with_profile, profile_or_all}
use Rattle.pmcd_session.specs.Replies.{protocol_error, reply_bytes, reply_over, region_needed}

-- How an agent comes to what it tells: the regions, or those that a number needs, were each read once, or missed.
abbrev pub ReadsBy : Type 0 → Type 1
ReadsBy A = Option ℕ → A → List RegionReading → A → Type 0

-- What was done with a PDU: the moments that were taken, the reply, if there is one, and how the session stands then.
pub record Deed (A : Type 0) : Type 0 where
  pub moments : List Moment
  pub reply : Option Pdu
  pub after : Standing A

-- no reply
abbrev pub IsSilent : {A : Type 0} → Standing A → Deed A → Type 0
IsSilent after d = d ≡ record { moments = []; reply = None; after = after }

-- an error, and nothing is changed
abbrev pub Refuses : {A : Type 0} → Standing A → Deed A → Type 0
Refuses s d = d ≡ record { moments = []; reply = Some protocol_error; after = s }

-- the agent alone may have changed
pub record KeepsRest {A : Type 0} (s after : Standing A) : Type 0 where
  pub met : after.is_met ≡ s.is_met
  pub contexts : after.contexts ≡ s.contexts

-- the reply over a reading of the regions that the request needs
pub record Tells {A : Type 0} (reads : ReadsBy A) (s : Standing A) (request : Pdu) (d : Deed A) : Type 0 where
  pub regions : List RegionReading
  pub read : reads (region_needed request) s.agent regions d.after.agent
  pub moments : d.moments ≡ []
  pub reply : d.reply ≡ Some (reply_over request regions)
  pub rest : KeepsRest s d.after

-- the answer over a reading of all regions, by the context's profile, stamped by the clock's next moment
pub record Fetches {A : Type 0} (reads : ReadsBy A) (s : Standing A) (context : ℕ) (pmids : List ℕ) (d : Deed A) : Type 0 where
  pub regions : List RegionReading
  pub moment : Moment
  pub read : reads None s.agent regions d.after.agent
  pub moments : d.moments ≡ moment ∷ []
  pub reply : d.reply ≡ Some (pdus.Result (answer_of regions (profile_or_all (slice_get s.contexts context)) pmids moment))
  pub rest : KeepsRest s d.after

-- a fetch is in a context, and of at most 1,024 metrics
abbrev pub may_fetch : ℕ → List ℕ → Bool
may_fetch context pmids = nat_lt context 16 && nat_le (length pmids) 1024

abbrev pub Sets : {A : Type 0} → Bool → Standing A → Standing A → Deed A → Type 0
Sets true s after = IsSilent after
Sets false s after = Refuses s

abbrev pub FetchesIf : {A : Type 0} → ReadsBy A → Bool → Standing A → ℕ → List ℕ → Deed A → Type 0
FetchesIf reads true s context pmids = Fetches reads s context pmids
FetchesIf reads false s context pmids = Refuses s

-- of a client that is known
abbrev pub Serves : {A : Type 0} → ReadsBy A → Standing A → Pdu → Deed A → Type 0
Serves reads s pdus.Creds = Refuses s
Serves reads s (pdus.Profile context global parts) = Sets (may_set context parts) s (record s { contexts = with_profile s.contexts context global parts })
Serves reads s (pdus.Fetch context sec usec pmids) = FetchesIf reads (may_fetch context pmids) s context pmids
Serves reads s (pdus.DescReq pmid) = Tells reads s (pdus.DescReq pmid)
Serves reads s (pdus.InstanceReq indom instance) = Tells reads s (pdus.InstanceReq indom instance)
Serves reads s (pdus.PmnsIds status pmids) = Tells reads s (pdus.PmnsIds status pmids)
Serves reads s (pdus.PmnsNames status names) = Tells reads s (pdus.PmnsNames status names)
Serves reads s (pdus.PmnsChild name) = Tells reads s (pdus.PmnsChild name)
Serves reads s (pdus.PmnsTraverse name) = Tells reads s (pdus.PmnsTraverse name)
Serves reads s (pdus.Error code) = Refuses s
Serves reads s (pdus.Result answer) = Refuses s
Serves reads s (pdus.Desc desc) = Refuses s
Serves reads s (pdus.Instance indom pairs) = Refuses s

-- of one that isn't known yet
abbrev pub Meets : {A : Type 0} → Standing A → Pdu → Deed A → Type 0
Meets s pdus.Creds = IsSilent (record s { is_met = true })
Meets s request = Refuses s

-- bytes that are no PDU ask for nothing
abbrev pub Asks : List ℕ → Option Pdu → Type 0
Asks bytes (Some request) = IsPdu bytes request
Asks bytes None = (p : Pdu) → IsPdu bytes p → ⊥

abbrev pub DoesIf : {A : Type 0} → ReadsBy A → Standing A → Bool → Option Pdu → Deed A → Type 0
DoesIf reads s met None = Refuses s
DoesIf reads s false (Some request) = Meets s request
DoesIf reads s true (Some request) = Serves reads s request

-- what is done with a whole PDU
unfoldable pub Does : {A : Type 0} → ReadsBy A → Standing A → List ℕ → Deed A → Type 0
Does reads s pdu d = (asked : Option Pdu) × Asks pdu asked × DoesIf reads s s.is_met asked d

-- the bytes of a reply
abbrev pub written_of : Option Pdu → List ℕ
written_of None = []
written_of (Some reply) = reply_bytes reply

-- What was done with PDUs: the moments that were taken, all bytes that were written, and how the session stands then.
pub record Deeds (A : Type 0) : Type 0 where
  pub moments : List Moment
  pub written : List ℕ
  pub after : Standing A

-- PDUs are served one after another
unfoldable pub DoesAll : {A : Type 0} → ReadsBy A → Standing A → List (List ℕ) → Deeds A → Type 0
DoesAll reads s [] d = d ≡ record { moments = []; written = []; after = s }
DoesAll {A = A} reads s (pdu ∷ rest) d =
    (first : Deed A) × (later : Deeds A) × Does reads s pdu first × DoesAll reads first.after rest later
    × (d ≡ record { moments = first.moments ++ later.moments; written = written_of first.reply ++ later.written; after = later.after })

-- a known client asks for values, in a fetch that isn't refused
abbrev pub needs_moment : Bool → Option Pdu → Bool
needs_moment true (Some (pdus.Fetch context sec usec pmids)) = may_fetch context pmids
needs_moment met asked = false

-- for a PDU the clock is asked
pub record AsksTheClock {A : Type 0} (s : Standing A) (pdu : List ℕ) : Type 0 where
  pub request : Option Pdu
  pub asks : Asks pdu request
  pub needs : needs_moment s.is_met request ≡ true

-- a fetch had its moment, or no moment was taken
abbrev pub Reaches : {A : Type 0} → Standing A → List ℕ → List Moment → Type 0
Reaches s pdu [] = Unit {0}
Reaches s pdu (moment ∷ []) = AsksTheClock s pdu
Reaches s pdu moments = ⊥

-- the agent stayed as it was, or did nothing but load
abbrev pub GoesOn : {A : Type 0} → (A → A → Type 0) → Standing A → Standing A → Type 0
GoesOn loads s after = (after.agent ≡ s.agent) ⊎ loads s.agent after.agent

-- Why a PDU wasn't served: the clock was asked for a fetch and gave no moment, or memory was refused, maybe when a fetch had
-- its moment.
abbrev pub Halts : {A : Type 0} → (A → A → Type 0) → Standing A → List ℕ → List Moment → Standing A → Halt → Type 0
Halts loads s pdu moments after halts.ClockEnd = (moments ≡ []) × AsksTheClock s pdu × (after ≡ s)
Halts loads s pdu moments after halts.ClockFault = (moments ≡ []) × AsksTheClock s pdu × (after ≡ s)
Halts loads s pdu moments after halts.NoMemory = Reaches s pdu moments × GoesOn loads s after
