-- One sample: which lists of instances are asked for again, and how a dialogue stands behind it.
use Rattle.std.specs.Prelude.{ℕ, ℤ, ◌+◌, Bool, true, false, not, ◌&&◌, ◌||◌, ◌==◌, List, [], ◌∷◌, map, filter, length, Option, Some, None}
use Rattle.std.specs.List.{list_any, list_all}
use Rattle.std.specs.Ordering.{int_eq}
use Rattle.pcp_base.specs.Ids.{null_indom}
use Rattle.pcp_base.specs.declared.desc.Desc.{Desc}
use Rattle.pcp_base.specs.declared.result.Body.{Body}
use Rattle.pcp_base.specs.declared.result.Body.TheVariants.{InPlace, Blocks, Status}
use Rattle.pcp_base.specs.declared.result.ValueSet.{ValueSet}
use Rattle.archive_meta.specs.declared.facts.Facts.{Facts}
use Rattle.archive_meta.specs.Facts.{fact_of, listed_of}
use Rattle.pcp_outside.specs.Causes.{shown_count}
use Rattle.pdu_codec.specs.declared.pdu.Pdu.{Pdu}
use Rattle.pdu_codec.specs.declared.pdu.Pdu.TheVariants as pdus
use Rattle.pmcd_client.specs.Replies.{Listed, Standing, lists_in}

-- whether a list has an instance
abbrev pub lists_instance : List (ℤ × List ℕ) → ℤ → Bool
lists_instance pairs instance = list_any (λ p. int_eq p.0 instance) pairs

-- whether a list has every instance that a set shows
abbrev pub lists_all : List (ℤ × List ℕ) → Body → Bool
lists_all pairs (InPlace shown) = list_all (λ p. lists_instance pairs p.0) shown
lists_all pairs (Blocks shown) = list_all (λ p. lists_instance pairs p.0) shown
lists_all pairs (Status n) = true

abbrev pub is_described_in : ℕ → Option (Desc × List ℕ) → Bool
is_described_in indom None = false
is_described_in indom (Some fact) = fact.0.indom == indom

-- whether a set is of a metric of a domain
abbrev pub is_of_domain : List (Desc × List ℕ) → ℕ → ValueSet → Bool
is_of_domain metrics indom set = is_described_in indom (fact_of metrics set.pmid)

-- whether sets show an instance of a domain that its list lacks
abbrev pub lacks : List (Desc × List ℕ) → List ValueSet → Listed → Bool
lacks metrics sets listed = list_any (λ set. is_of_domain metrics listed.0 set && not (lists_all listed.1 set.body)) sets

-- the domains whose last lists lack an instance that sets show, in the order of the metrics
abbrev pub lacking : Facts → List ValueSet → List ℕ
lacking facts sets = map (λ listed. listed.0) (filter (lacks facts.metrics sets) facts.domains)

-- the domains that are asked about again, where the first reply to a sample's requests is the result
abbrev pub asked_again : Facts → List Pdu → List ℕ
asked_again facts (pdus.Result r ∷ replies) = lacking facts r.sets
asked_again facts replies = []

abbrev pub or_before : Listed → Option Listed → Listed
or_before listed None = listed
or_before listed (Some new) = new

-- a domain with the list that came now, or else the one before
abbrev pub latest : List Listed → Listed → Listed
latest fresh listed = or_before listed (listed_of fresh listed.0)

-- the facts with the lists that came
abbrev pub renewed : Facts → List Listed → Facts
renewed facts fresh = record { metrics = facts.metrics; domains = map (latest fresh) facts.domains }

-- how a dialogue stands after all replies to a sample's requests
abbrev pub sampled : Standing → List Pdu → Standing
sampled s replies = record { pmids = s.pmids; facts = renewed s.facts (lists_in replies); replies = shown_count (s.replies + length replies) }

abbrev pub lists_shown : Option Listed → Body → Bool
lists_shown None body = false
lists_shown (Some listed) body = lists_all listed.1 body

abbrev pub tells_of : Facts → ValueSet → Option (Desc × List ℕ) → Bool
tells_of facts set None = false
tells_of facts set (Some fact) = fact.0.indom == null_indom || lists_shown (listed_of facts.domains fact.0.indom) set.body

-- whether facts describe the metric of a set, and list its instances
abbrev pub tells : Facts → ValueSet → Bool
tells facts set = tells_of facts set (fact_of facts.metrics set.pmid)
