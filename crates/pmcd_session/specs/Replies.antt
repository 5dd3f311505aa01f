-- What pmcd replies to a request, over what was read of the regions (pmLookupDesc(3), pmGetInDom(3), pmLookupName(3),
-- pmNameID(3), pmGetChildren(3), pmTraversePMNS(3)). The numbers of statuses are this program's own.
use Rattle.std.specs.Prelude.{ℕ, ℤ, pos, negsuc, if◌then◌else◌, nat_lt, List, [], ◌∷◌, map, fold, find, Option, Some, None, option_map, Result, Ok, Err}
use Rattle.std.specs.Ordering.{int_eq}
use Rattle.pcp_base.specs.declared.desc.Desc.{Desc}
use Rattle.pdu_codec.specs.declared.pdu.Pdu.{Pdu}
use Rattle.pdu_codec.specs.declared.pdu.Pdu.TheVariants as pdus
use Rattle.pdu_codec.specs.Spelling.{pdu_bytes, pdu_length}
use Rattle.pmns_core.specs.Pairs.{Pair, pmid_of, least_name}
use Rattle.pmns_core.specs.Below.{below, children_of}
use Rattle.fetch_answers.specs.Asks.{desc_asked, instances_asked}
use Rattle.fetch_answers.specs.Names.{with_region, with_missed}
use Rattle.fetch_answers.specs.Readings.{RegionReading}

-- ---- statuses

abbrev pub no_name : ℤ
no_name = negsuc 12356

abbrev pub no_metric : ℤ
no_metric = negsuc 12357

abbrev pub no_instance : ℤ
no_instance = negsuc 12359

abbrev pub against_protocol : ℤ
against_protocol = negsuc 12365

abbrev pub try_again_error : ℤ
try_again_error = negsuc 12388

abbrev pub protocol_error : Pdu
protocol_error = pdus.Error against_protocol

-- what the server sends first
abbrev pub greeting : Pdu
greeting = pdus.Error (pos 0)

-- a reply of more than 65,536 bytes is an error instead
abbrev pub bounded_reply : Pdu → Pdu
bounded_reply reply = if nat_lt 65536 (pdu_length reply) then protocol_error else reply

abbrev pub reply_bytes : Pdu → List ℕ
reply_bytes reply = pdu_bytes (bounded_reply reply)

-- ---- descriptions and instances

abbrev pub desc_reply : Result Desc ℤ → Pdu
desc_reply (Ok desc) = pdus.Desc desc
desc_reply (Err status) = pdus.Error status

abbrev pub one_instance : ℕ → Option (ℤ × List ℕ) → Pdu
one_instance indom None = pdus.Error no_instance
one_instance indom (Some pair) = pdus.Instance indom (pair ∷ [])

-- all instances, for which -1 asks, or the one of a number
abbrev pub instances_reply : ℕ → ℤ → List (ℤ × List ℕ) → Pdu
instances_reply indom instance pairs =
    if int_eq instance (negsuc 0) then pdus.Instance indom pairs else one_instance indom (find (λ pair. int_eq pair.0 instance) pairs)

abbrev pub instance_reply : ℕ → ℤ → Result (List (ℤ × List ℕ)) ℤ → Pdu
instance_reply indom instance (Ok pairs) = instances_reply indom instance pairs
instance_reply indom instance (Err status) = pdus.Error status

-- ---- names

-- what each item has, if each has it
abbrev pub with_first : {X : Type 0} → Option X → Option (List X) → Option (List X)
with_first None found = None
with_first (Some x) found = option_map (λ xs. x ∷ xs) found

abbrev pub all_of : {A X : Type 0} → (A → Option X) → List A → Option (List X)
all_of get [] = Some []
all_of get (a ∷ rest) = with_first (get a) (all_of get rest)

abbrev pub ids_reply : Option (List ℕ) → Pdu
ids_reply None = pdus.Error no_name
ids_reply (Some pmids) = pdus.PmnsIds (pos 0) pmids

abbrev pub names_reply : ℤ → Option (List (List ℕ)) → Pdu
names_reply status None = pdus.Error status
names_reply status (Some names) = pdus.PmnsNames (pos 0) names

-- the names of pairs, if there is a pair
abbrev pub some_names : List Pair → Option (List (List ℕ))
some_names [] = None
some_names (pair ∷ pairs) = Some (map (λ p. p.0) (pair ∷ pairs))

-- a request for names: the identifier of each name, the least name of each identifier, the components that continue a name,
-- or the names that are a name or continue it
abbrev pub name_reply : List Pair → Pdu → Pdu
name_reply names (pdus.PmnsNames status asked) = ids_reply (all_of (pmid_of names) asked)
name_reply names (pdus.PmnsIds status asked) = names_reply no_metric (all_of (least_name names) asked)
name_reply names (pdus.PmnsChild name) = names_reply no_name (option_map (λ parts. map (λ part. part.0) parts) (children_of names name))
name_reply names (pdus.PmnsTraverse name) = names_reply no_name (some_names (below names name))
name_reply names request = protocol_error

-- while a region is missing, no name is told
abbrev pub unless_missing : List ℕ → Pdu → Pdu
unless_missing [] reply = reply
unless_missing (cluster ∷ missing) reply = pdus.Error try_again_error

-- ---- requests that are replied to over readings of the regions

-- the names of regions, one region after another
abbrev pub names_shown : List RegionReading → List Pair
names_shown regions = fold with_region [] regions

-- the clusters of those that were missed
abbrev pub missing_among : List RegionReading → List ℕ
missing_among regions = fold (λ clusters region. with_missed clusters region.cluster region.layout) [] regions

abbrev pub reply_over : Pdu → List RegionReading → Pdu
reply_over (pdus.DescReq pmid) regions = desc_reply (desc_asked regions pmid)
reply_over (pdus.InstanceReq indom instance) regions = instance_reply indom instance (instances_asked regions indom)
reply_over request regions = unless_missing (missing_among regions) (name_reply (names_shown regions) request)

-- which regions a request needs: that in whose cluster a number lies, or all
abbrev pub region_needed : Pdu → Option ℕ
region_needed (pdus.DescReq pmid) = Some pmid
region_needed (pdus.InstanceReq indom instance) = Some indom
region_needed request = None
