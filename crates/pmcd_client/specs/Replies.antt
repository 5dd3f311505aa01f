-- What replies tell: of the metrics that names lead to, of their descriptions, and of the instances of their domains.
use Rattle.std.specs.Prelude.{ℕ, ℤ, Bool, ◌||◌, ◌==◌, if◌then◌else◌, List, [], ◌∷◌, ◌++◌, map, length}
use Rattle.std.specs.List.{list_any}
use Rattle.pcp_base.specs.Ids.{null_indom}
use Rattle.pcp_base.specs.declared.desc.Desc.{Desc}
use Rattle.archive_meta.specs.declared.facts.Facts.{Facts}
use Rattle.pcp_outside.specs.Causes.{shown_count}
use Rattle.pdu_codec.specs.declared.pdu.Pdu.{Pdu}
use Rattle.pdu_codec.specs.declared.pdu.Pdu.TheVariants as pdus

-- a domain with its instances, each by number and name
abbrev pub Listed : Type 0
Listed = ℕ × List (ℤ × List ℕ)

-- ---- metrics by name

-- whether a metric is among these
abbrev pub has_metric : List (ℕ × List ℕ) → ℕ → Bool
has_metric seen pmid = list_any (λ e. e.0 == pmid) seen

-- a metric counts where it comes first, with its name there
abbrev pub with_metric : List (ℕ × List ℕ) → ℕ → List ℕ → List (ℕ × List ℕ)
with_metric seen pmid name = if has_metric seen pmid then seen else seen ++ (pmid, name) ∷ []

abbrev pub metrics_behind : List (ℕ × List ℕ) → List ℕ → List (List ℕ) → List (ℕ × List ℕ)
metrics_behind seen (pmid ∷ pmids) (name ∷ names) = metrics_behind (with_metric seen pmid name) pmids names
metrics_behind seen pmids names = seen

-- the different metrics to which names lead, in their order, each with its first name
abbrev pub metrics_named : List ℕ → List (List ℕ) → List (ℕ × List ℕ)
metrics_named pmids names = metrics_behind [] pmids names

-- ---- domains of descriptions

abbrev pub has_domain : List ℕ → ℕ → Bool
has_domain seen indom = list_any (λ d. d == indom) seen

-- a domain counts where it comes first, and the null domain never
abbrev pub with_domain : List ℕ → ℕ → List ℕ
with_domain seen indom = if indom == null_indom || has_domain seen indom then seen else seen ++ indom ∷ []

abbrev pub domains_behind : List ℕ → List Desc → List ℕ
domains_behind seen [] = seen
domains_behind seen (d ∷ descs) = domains_behind (with_domain seen d.indom) descs

-- the different domains of descriptions but the null one, in their order
abbrev pub domains_described : List Desc → List ℕ
domains_described descs = domains_behind [] descs

-- ---- replies

-- the second reply tells the metrics that the names lead to
abbrev pub pmids_in : List Pdu → List ℕ
pmids_in (greeting ∷ pdus.PmnsIds status pmids ∷ replies) = pmids
pmids_in replies = []

abbrev pub descs_of : Pdu → List Desc
descs_of (pdus.Desc d) = d ∷ []
descs_of reply = []

-- all descriptions that came, in order
abbrev pub descs_in : List Pdu → List Desc
descs_in [] = []
descs_in (reply ∷ replies) = descs_of reply ++ descs_in replies

abbrev pub lists_of : Pdu → List Listed
lists_of (pdus.Instance indom pairs) = (indom, pairs) ∷ []
lists_of reply = []

-- all lists of instances that came, in order
abbrev pub lists_in : List Pdu → List Listed
lists_in [] = []
lists_in (reply ∷ replies) = lists_of reply ++ lists_in replies

-- each description with the name of its metric
abbrev pub with_names : List Desc → List (ℕ × List ℕ) → List (Desc × List ℕ)
with_names (d ∷ descs) (metric ∷ metrics) = (d, metric.1) ∷ with_names descs metrics
with_names descs metrics = []

-- How a dialogue stands: the metrics that it asks for, what describes them, and how many replies came.
pub record Standing : Type 0 where
  pub pmids : List ℕ
  pub facts : Facts
  pub replies : ℕ

-- after all replies before the first fetch
abbrev pub opened : List (List ℕ) → List Pdu → Standing
opened names replies =
    let metrics = metrics_named (pmids_in replies) names in
    record {
      pmids = map (λ e. e.0) metrics;
      facts = record { metrics = with_names (descs_in replies) metrics; domains = lists_in replies };
      replies = shown_count (length replies);
    }
