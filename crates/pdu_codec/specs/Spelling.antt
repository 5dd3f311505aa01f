-- The one spelling that is written of a PDU: nobody is named as sender, and texts are padded by zeros.
use Rattle.std.specs.Prelude.{ℕ, ℤ, Bool, ◌+◌, ◌*◌, ◌<◌, List, [], ◌∷◌, ◌++◌, length, FitsSigned}
use Rattle.std.specs.Int.{w32}
use Rattle.std.specs.List.{AllByRecursion}
use Rattle.pcp_base.specs.Texts.{IsText}
use Rattle.pcp_base.specs.Results.{Fits}
use Rattle.pcp_base.specs.declared.desc.Desc.{Desc}
use Rattle.pcp_model.specs.Words.{word, signed_word, zeros}
use Rattle.pcp_model.specs.Payload.{filling, payload, payload_length, ResultInRange}
use Rattle.profile_filter.specs.declared.profile.DomainPart.{DomainPart}
use Rattle.pdu_codec.specs.declared.pdu.Pdu.{Pdu}
use Rattle.pdu_codec.specs.declared.pdu.Pdu.TheVariants as pdus
use Rattle.pdu_codec.specs.Types.{code_of_type, type_of}
use Rattle.pdu_codec.specs.Grammar.{state_word}

-- ---- what may stand many times

-- each one's spelling, one behind another
abbrev pub all_bytes : {X : Type 0} → (X → List ℕ) → List X → List ℕ
all_bytes bytes [] = []
all_bytes bytes (x ∷ xs) = bytes x ++ all_bytes bytes xs

abbrev pub all_lengths : {X : Type 0} → (X → ℕ) → List X → ℕ
all_lengths size [] = 0
all_lengths size (x ∷ xs) = size x + all_lengths size xs

abbrev pub text_bytes : List ℕ → List ℕ
text_bytes t = word (length t) ++ (t ++ zeros (filling (length t)))

abbrev pub text_length : List ℕ → ℕ
text_length t = 4 + length t + filling (length t)

abbrev pub pair_bytes : ℤ × List ℕ → List ℕ
pair_bytes p = signed_word p.0 ++ text_bytes p.1

abbrev pub pair_length : ℤ × List ℕ → ℕ
pair_length p = 4 + text_length p.1

abbrev pub head_bytes : DomainPart → List ℕ
head_bytes part = word part.indom ++ (word (state_word part.include) ++ (word (length part.instances) ++ word 0))

abbrev pub instance_bytes : DomainPart → List ℕ
instance_bytes part = all_bytes signed_word part.instances

abbrev pub part_length : DomainPart → ℕ
part_length part = 16 + 4 * length part.instances

-- ---- bodies

abbrev pub desc_bytes : Desc → List ℕ
desc_bytes d = word d.pmid ++ (word d.code ++ (word d.indom ++ (word d.semantics ++ word d.units)))

abbrev pub fetch_bytes : ℕ → ℕ → ℕ → List ℕ → List ℕ
fetch_bytes context sec usec pmids = word context ++ (word sec ++ (word usec ++ (word (length pmids) ++ all_bytes word pmids)))

-- all heads, and then all instances
abbrev pub profile_bytes : ℕ → Bool → List DomainPart → List ℕ
profile_bytes context global parts =
    word context ++ (word (state_word global) ++ (word (length parts) ++ (word 0 ++ (all_bytes head_bytes parts ++ all_bytes instance_bytes parts))))

abbrev pub profile_length : List DomainPart → ℕ
profile_length parts = 16 + all_lengths part_length parts

abbrev pub body_bytes : Pdu → List ℕ
body_bytes (pdus.Error code) = signed_word code
body_bytes (pdus.Result r) = payload r
body_bytes (pdus.Profile context global parts) = profile_bytes context global parts
body_bytes (pdus.Fetch context sec usec pmids) = fetch_bytes context sec usec pmids
body_bytes (pdus.DescReq pmid) = word pmid
body_bytes (pdus.Desc d) = desc_bytes d
body_bytes (pdus.InstanceReq indom instance) = word indom ++ signed_word instance
body_bytes (pdus.Instance indom pairs) = word indom ++ (word (length pairs) ++ all_bytes pair_bytes pairs)
body_bytes pdus.Creds = word 1 ++ word 16908288
body_bytes (pdus.PmnsIds status pmids) = signed_word status ++ (word (length pmids) ++ all_bytes word pmids)
body_bytes (pdus.PmnsNames status names) = signed_word status ++ (word (length names) ++ all_bytes text_bytes names)
body_bytes (pdus.PmnsChild name) = text_bytes name
body_bytes (pdus.PmnsTraverse name) = text_bytes name

abbrev pub body_length : Pdu → ℕ
body_length (pdus.Error code) = 4
body_length (pdus.Result r) = payload_length r
body_length (pdus.Profile context global parts) = profile_length parts
body_length (pdus.Fetch context sec usec pmids) = 16 + 4 * length pmids
body_length (pdus.DescReq pmid) = 4
body_length (pdus.Desc d) = 20
body_length (pdus.InstanceReq indom instance) = 8
body_length (pdus.Instance indom pairs) = 8 + all_lengths pair_length pairs
body_length pdus.Creds = 8
body_length (pdus.PmnsIds status pmids) = 8 + 4 * length pmids
body_length (pdus.PmnsNames status names) = 8 + all_lengths text_length names
body_length (pdus.PmnsChild name) = text_length name
body_length (pdus.PmnsTraverse name) = text_length name

-- how many bytes a PDU has
abbrev pub pdu_length : Pdu → ℕ
pdu_length p = 12 + body_length p

unfoldable pub pdu_bytes : Pdu → List ℕ
pdu_bytes p = word (pdu_length p) ++ (word (code_of_type (type_of p)) ++ (word 0 ++ body_bytes p))

-- ---- which PDUs can be written

abbrev pub IsHead : DomainPart → Type 0
IsHead part = (part.indom < 4294967296) × (length part.instances < 4294967296)

abbrev pub ListsNumbers : DomainPart → Type 0
ListsNumbers part = AllByRecursion (FitsSigned w32) part.instances

-- a text whose length fits a word
abbrev pub IsShort : List ℕ → Type 0
IsShort t = IsText t × (length t < 4294967296)

abbrev pub IsPair : ℤ × List ℕ → Type 0
IsPair p = FitsSigned w32 p.0 × IsShort p.1

abbrev pub IsWord : ℕ → Type 0
IsWord n = n < 4294967296

pub record IsDesc (d : Desc) : Type 0 where
  pub pmid : d.pmid < 4294967296
  pub code : d.code < 4294967296
  pub indom : d.indom < 4294967296
  pub semantics : d.semantics < 4294967296
  pub units : d.units < 4294967296

abbrev pub IsFetch : ℕ → ℕ → ℕ → List ℕ → Type 0
IsFetch context sec usec pmids = (context < 4294967296) × (sec < 4294967296) × (usec < 4294967296) × (length pmids < 4294967296) × AllByRecursion IsWord pmids

abbrev pub IsProfile : ℕ → List DomainPart → Type 0
IsProfile context parts = (context < 4294967296) × (length parts < 4294967296) × AllByRecursion IsHead parts × AllByRecursion ListsNumbers parts

-- each number is in its range, and no text has a zero byte
abbrev pub InRange : Pdu → Type 0
InRange (pdus.Error code) = FitsSigned w32 code
InRange (pdus.Result r) = ResultInRange r
InRange (pdus.Profile context global parts) = IsProfile context parts
InRange (pdus.Fetch context sec usec pmids) = IsFetch context sec usec pmids
InRange (pdus.DescReq pmid) = pmid < 4294967296
InRange (pdus.Desc d) = IsDesc d
InRange (pdus.InstanceReq indom instance) = (indom < 4294967296) × FitsSigned w32 instance
InRange (pdus.Instance indom pairs) = (indom < 4294967296) × (length pairs < 4294967296) × AllByRecursion IsPair pairs
InRange pdus.Creds = Unit {0}
InRange (pdus.PmnsIds status pmids) = FitsSigned w32 status × (length pmids < 4294967296) × AllByRecursion IsWord pmids
InRange (pdus.PmnsNames status names) = FitsSigned w32 status × (length names < 4294967296) × AllByRecursion IsShort names
InRange (pdus.PmnsChild name) = IsShort name
InRange (pdus.PmnsTraverse name) = IsShort name

-- each set of a result can be written
abbrev pub IsWritable : Pdu → Type 0
IsWritable (pdus.Result r) = AllByRecursion Fits r.sets
IsWritable p = Unit {0}
