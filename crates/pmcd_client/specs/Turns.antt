-- The dialogue turn by turn: what a client asks for one reply, which reply fits, and what it asks next. That is a function
-- of the replies so far.
use Rattle.std.specs.Prelude.{◌≡◌, ◌≢◌, ℕ, ℤ, pos, negsuc, List, [], ◌∷◌, ◌++◌, map, length, Option, Some, None, AllPairs}
use Rattle.pcp_base.specs.declared.result.ValueSet.{ValueSet}
use Rattle.pdu_codec.specs.declared.pdu.Pdu.{Pdu}
use Rattle.pdu_codec.specs.declared.pdu.Pdu.TheVariants as pdus
use Rattle.pdu_codec.specs.declared.types.PduType.{PduType}
use Rattle.pdu_codec.specs.declared.types.PduType.TheVariants as types
use Rattle.pmcd_client.specs.Items.{asked_again}
use Rattle.pmcd_client.specs.Replies.{Standing, metrics_named, domains_described, pmids_in, descs_in}

-- a client waits for the greeting, or asks for a reply
abbrev pub Turn : Type 0
Turn = Option Pdu

-- The requests before a reply. The client says that it speaks the protocol before it asks for the names.
abbrev pub requests_of : Turn → List Pdu
requests_of None = []
requests_of (Some (pdus.PmnsNames status names)) = pdus.Creds ∷ pdus.PmnsNames status names ∷ []
requests_of (Some request) = request ∷ []

-- the numbers of instances
abbrev pub numbers : List (ℤ × List ℕ) → List ℤ
numbers pairs = map (λ p. p.0) pairs

-- the metrics of sets
abbrev pub pmids_of : List ValueSet → List ℕ
pmids_of sets = map (λ set. set.pmid) sets

-- A reply fits where it is the greeting, an identifier for each name, that metric's description, that domain's instances
-- with distinct numbers, or a result with one set for each metric in the order asked.
abbrev pub Fits : Turn → Pdu → Type 0
Fits None (pdus.Error code) = code ≡ pos 0
Fits (Some (pdus.PmnsNames status names)) (pdus.PmnsIds found pmids) = (found ≡ pos 0) × (length pmids ≡ length names)
Fits (Some (pdus.DescReq pmid)) (pdus.Desc d) = d.pmid ≡ pmid
Fits (Some (pdus.InstanceReq indom instance)) (pdus.Instance found pairs) = (found ≡ indom) × AllPairs (λ a b. a ≢ b) (numbers pairs)
Fits (Some (pdus.Fetch context sec usec pmids)) (pdus.Result r) = pmids_of r.sets ≡ pmids
Fits turn reply = ⊥

-- the type of the reply that is due
abbrev pub type_due : Turn → PduType
type_due (Some (pdus.PmnsNames status names)) = types.PmnsIds
type_due (Some (pdus.DescReq pmid)) = types.Desc
type_due (Some (pdus.InstanceReq indom instance)) = types.Instance
type_due (Some (pdus.Fetch context sec usec pmids)) = types.Result
type_due turn = types.Error

-- replies fit the first of these turns, and the rest are left
abbrev pub Answers : List Turn → List Pdu → List Turn → Type 0
Answers turns [] rest = rest ≡ turns
Answers (turn ∷ turns) (reply ∷ replies) rest = Fits turn reply × Answers turns replies rest
Answers [] (reply ∷ replies) rest = ⊥

-- ---- which turns there are

abbrev pub desc_turn : ℕ × List ℕ → Turn
desc_turn metric = Some (pdus.DescReq metric.0)

-- all instances of a domain are asked for
abbrev pub list_turn : ℕ → Turn
list_turn indom = Some (pdus.InstanceReq indom (negsuc 0))

-- The turns before the first fetch, as far as the replies tell: the greeting, the names, the descriptions of the different
-- metrics, and the instances of their different domains.
abbrev pub opening : List (List ℕ) → List Pdu → List Turn
opening names replies =
    None ∷ Some (pdus.PmnsNames (pos 0) names)
    ∷ (map desc_turn (metrics_named (pmids_in replies) names) ++ map list_turn (domains_described (descs_in replies)))

-- The turns of a sample, as far as its replies tell: the values, and the instances of domains whose last lists lack one that
-- the result shows.
abbrev pub sampling : Standing → List Pdu → List Turn
sampling s replies = Some (pdus.Fetch 0 0 0 s.pmids) ∷ map list_turn (asked_again s.facts replies)
