-- A PDU that isn't the one due.
use Rattle.std.proofs.Common.{◌≡◌, ℕ, ℤ, List, refl, Some, None}
use Rattle.std.specs.Prelude.{◌≢◌}
use Rattle.pcp_base.specs.declared.desc.Desc.{Desc}
use Rattle.pcp_base.specs.declared.result.PmResult.{PmResult}
use Rattle.pdu_codec.specs.declared.pdu.Pdu.{Pdu}
use Rattle.pdu_codec.specs.declared.pdu.Pdu.TheVariants as pdus
use Rattle.pdu_codec.specs.declared.types.PduType.TheVariants as types
use Rattle.pdu_codec.specs.Types.{type_of}
use Rattle.pmcd_client.specs.declared.faults.ReplyFault.{ReplyFault}
use Rattle.pmcd_client.specs.declared.faults.ReplyFault.TheVariants as whys
use Rattle.pmcd_client.specs.Pieces.{IsMisplaced, IsUnfit}
use Rattle.pmcd_client.specs.Turns.{Turn, Fits, type_due}

-- it doesn't fit, and has another type
pub record IsOther (turn : Turn) (reply : Pdu) : Type 0 where
  pub unfit : Fits turn reply → ⊥
  pub type_differs : type_of reply ≢ types.Error → type_of reply ≢ type_due turn

pub unfit_other : (turn : Turn) (reply : Pdu) (why : ReplyFault) → IsOther turn reply → IsMisplaced reply why → IsUnfit turn reply why
unfit_other turn reply (whys.Ended n) o m = m
unfit_other turn reply (whys.Length n) o m = m
unfit_other turn reply whys.Decode o m = m
unfit_other turn reply (whys.Code code) o m = (m, o.unfit)
unfit_other turn reply whys.Type o m = (m, o.type_differs m)
unfit_other turn reply whys.Shape o m = absurd m

-- another than identifiers
pub other_metrics : (status : ℤ) (names : List (List ℕ)) (reply : Pdu) → ((found : ℤ) (pmids : List ℕ) → reply ≡ pdus.PmnsIds found pmids → ⊥) → IsOther (Some (pdus.PmnsNames status names)) reply
other_metrics status names (pdus.Error code) n = record { unfit = λ f. f; type_differs = λ _ e. cc }
other_metrics status names (pdus.Result r) n = record { unfit = λ f. f; type_differs = λ _ e. cc }
other_metrics status names (pdus.Profile context global parts) n = record { unfit = λ f. f; type_differs = λ _ e. cc }
other_metrics status names (pdus.Fetch context sec usec pmids) n = record { unfit = λ f. f; type_differs = λ _ e. cc }
other_metrics status names (pdus.DescReq pmid) n = record { unfit = λ f. f; type_differs = λ _ e. cc }
other_metrics status names (pdus.Desc d) n = record { unfit = λ f. f; type_differs = λ _ e. cc }
other_metrics status names (pdus.InstanceReq indom instance) n = record { unfit = λ f. f; type_differs = λ _ e. cc }
other_metrics status names (pdus.Instance indom pairs) n = record { unfit = λ f. f; type_differs = λ _ e. cc }
other_metrics status names pdus.Creds n = record { unfit = λ f. f; type_differs = λ _ e. cc }
other_metrics status names (pdus.PmnsIds found pmids) n = absurd (n found pmids refl)
other_metrics status names (pdus.PmnsNames found others) n = record { unfit = λ f. f; type_differs = λ _ e. cc }
other_metrics status names (pdus.PmnsChild name) n = record { unfit = λ f. f; type_differs = λ _ e. cc }
other_metrics status names (pdus.PmnsTraverse name) n = record { unfit = λ f. f; type_differs = λ _ e. cc }

-- another than a description
pub other_description : (pmid : ℕ) (reply : Pdu) → ((d : Desc) → reply ≡ pdus.Desc d → ⊥) → IsOther (Some (pdus.DescReq pmid)) reply
other_description pmid (pdus.Error code) n = record { unfit = λ f. f; type_differs = λ _ e. cc }
other_description pmid (pdus.Result r) n = record { unfit = λ f. f; type_differs = λ _ e. cc }
other_description pmid (pdus.Profile context global parts) n = record { unfit = λ f. f; type_differs = λ _ e. cc }
other_description pmid (pdus.Fetch context sec usec pmids) n = record { unfit = λ f. f; type_differs = λ _ e. cc }
other_description pmid (pdus.DescReq other) n = record { unfit = λ f. f; type_differs = λ _ e. cc }
other_description pmid (pdus.Desc d) n = absurd (n d refl)
other_description pmid (pdus.InstanceReq indom instance) n = record { unfit = λ f. f; type_differs = λ _ e. cc }
other_description pmid (pdus.Instance indom pairs) n = record { unfit = λ f. f; type_differs = λ _ e. cc }
other_description pmid pdus.Creds n = record { unfit = λ f. f; type_differs = λ _ e. cc }
other_description pmid (pdus.PmnsIds status pmids) n = record { unfit = λ f. f; type_differs = λ _ e. cc }
other_description pmid (pdus.PmnsNames status names) n = record { unfit = λ f. f; type_differs = λ _ e. cc }
other_description pmid (pdus.PmnsChild name) n = record { unfit = λ f. f; type_differs = λ _ e. cc }
other_description pmid (pdus.PmnsTraverse name) n = record { unfit = λ f. f; type_differs = λ _ e. cc }

-- another than instances
pub other_instances : (indom : ℕ) (instance : ℤ) (reply : Pdu) → ((found : ℕ) (pairs : List (ℤ × List ℕ)) → reply ≡ pdus.Instance found pairs → ⊥) → IsOther (Some (pdus.InstanceReq indom instance)) reply
other_instances indom instance (pdus.Error code) n = record { unfit = λ f. f; type_differs = λ _ e. cc }
other_instances indom instance (pdus.Result r) n = record { unfit = λ f. f; type_differs = λ _ e. cc }
other_instances indom instance (pdus.Profile context global parts) n = record { unfit = λ f. f; type_differs = λ _ e. cc }
other_instances indom instance (pdus.Fetch context sec usec pmids) n = record { unfit = λ f. f; type_differs = λ _ e. cc }
other_instances indom instance (pdus.DescReq pmid) n = record { unfit = λ f. f; type_differs = λ _ e. cc }
other_instances indom instance (pdus.Desc d) n = record { unfit = λ f. f; type_differs = λ _ e. cc }
other_instances indom instance (pdus.InstanceReq found other) n = record { unfit = λ f. f; type_differs = λ _ e. cc }
other_instances indom instance (pdus.Instance found pairs) n = absurd (n found pairs refl)
other_instances indom instance pdus.Creds n = record { unfit = λ f. f; type_differs = λ _ e. cc }
other_instances indom instance (pdus.PmnsIds status pmids) n = record { unfit = λ f. f; type_differs = λ _ e. cc }
other_instances indom instance (pdus.PmnsNames status names) n = record { unfit = λ f. f; type_differs = λ _ e. cc }
other_instances indom instance (pdus.PmnsChild name) n = record { unfit = λ f. f; type_differs = λ _ e. cc }
other_instances indom instance (pdus.PmnsTraverse name) n = record { unfit = λ f. f; type_differs = λ _ e. cc }

-- another than a result
pub other_values : (context sec usec : ℕ) (pmids : List ℕ) (reply : Pdu) → ((r : PmResult) → reply ≡ pdus.Result r → ⊥) → IsOther (Some (pdus.Fetch context sec usec pmids)) reply
other_values context sec usec pmids (pdus.Error code) n = record { unfit = λ f. f; type_differs = λ _ e. cc }
other_values context sec usec pmids (pdus.Result r) n = absurd (n r refl)
other_values context sec usec pmids (pdus.Profile c global parts) n = record { unfit = λ f. f; type_differs = λ _ e. cc }
other_values context sec usec pmids (pdus.Fetch c s u ps) n = record { unfit = λ f. f; type_differs = λ _ e. cc }
other_values context sec usec pmids (pdus.DescReq pmid) n = record { unfit = λ f. f; type_differs = λ _ e. cc }
other_values context sec usec pmids (pdus.Desc d) n = record { unfit = λ f. f; type_differs = λ _ e. cc }
other_values context sec usec pmids (pdus.InstanceReq indom instance) n = record { unfit = λ f. f; type_differs = λ _ e. cc }
other_values context sec usec pmids (pdus.Instance indom pairs) n = record { unfit = λ f. f; type_differs = λ _ e. cc }
other_values context sec usec pmids pdus.Creds n = record { unfit = λ f. f; type_differs = λ _ e. cc }
other_values context sec usec pmids (pdus.PmnsIds status ps) n = record { unfit = λ f. f; type_differs = λ _ e. cc }
other_values context sec usec pmids (pdus.PmnsNames status names) n = record { unfit = λ f. f; type_differs = λ _ e. cc }
other_values context sec usec pmids (pdus.PmnsChild name) n = record { unfit = λ f. f; type_differs = λ _ e. cc }
other_values context sec usec pmids (pdus.PmnsTraverse name) n = record { unfit = λ f. f; type_differs = λ _ e. cc }

-- another than a greeting
pub other_greeting : (reply : Pdu) → ((code : ℤ) → reply ≡ pdus.Error code → ⊥) → IsOther None reply
other_greeting (pdus.Error code) n = absurd (n code refl)
other_greeting (pdus.Result r) n = record { unfit = λ f. f; type_differs = λ g. g }
other_greeting (pdus.Profile context global parts) n = record { unfit = λ f. f; type_differs = λ g. g }
other_greeting (pdus.Fetch context sec usec pmids) n = record { unfit = λ f. f; type_differs = λ g. g }
other_greeting (pdus.DescReq pmid) n = record { unfit = λ f. f; type_differs = λ g. g }
other_greeting (pdus.Desc d) n = record { unfit = λ f. f; type_differs = λ g. g }
other_greeting (pdus.InstanceReq indom instance) n = record { unfit = λ f. f; type_differs = λ g. g }
other_greeting (pdus.Instance indom pairs) n = record { unfit = λ f. f; type_differs = λ g. g }
other_greeting pdus.Creds n = record { unfit = λ f. f; type_differs = λ g. g }
other_greeting (pdus.PmnsIds status pmids) n = record { unfit = λ f. f; type_differs = λ g. g }
other_greeting (pdus.PmnsNames status names) n = record { unfit = λ f. f; type_differs = λ g. g }
other_greeting (pdus.PmnsChild name) n = record { unfit = λ f. f; type_differs = λ g. g }
other_greeting (pdus.PmnsTraverse name) n = record { unfit = λ f. f; type_differs = λ g. g }

-- no reply is due to such a request
pub other_request : (request reply : Pdu) → ((status : ℤ) (names : List (List ℕ)) → request ≡ pdus.PmnsNames status names → ⊥) → ((pmid : ℕ) → request ≡ pdus.DescReq pmid → ⊥)
    → ((indom : ℕ) (instance : ℤ) → request ≡ pdus.InstanceReq indom instance → ⊥) → ((context sec usec : ℕ) (pmids : List ℕ) → request ≡ pdus.Fetch context sec usec pmids → ⊥) → IsOther (Some request) reply
other_request (pdus.Error code) reply a b c d = record { unfit = λ f. f; type_differs = λ g. g }
other_request (pdus.Result r) reply a b c d = record { unfit = λ f. f; type_differs = λ g. g }
other_request (pdus.Profile context global parts) reply a b c d = record { unfit = λ f. f; type_differs = λ g. g }
other_request (pdus.Fetch context sec usec pmids) reply a b c d = absurd (d context sec usec pmids refl)
other_request (pdus.DescReq pmid) reply a b c d = absurd (b pmid refl)
other_request (pdus.Desc desc) reply a b c d = record { unfit = λ f. f; type_differs = λ g. g }
other_request (pdus.InstanceReq indom instance) reply a b c d = absurd (c indom instance refl)
other_request (pdus.Instance indom pairs) reply a b c d = record { unfit = λ f. f; type_differs = λ g. g }
other_request pdus.Creds reply a b c d = record { unfit = λ f. f; type_differs = λ g. g }
other_request (pdus.PmnsIds status pmids) reply a b c d = record { unfit = λ f. f; type_differs = λ g. g }
other_request (pdus.PmnsNames status names) reply a b c d = absurd (a status names refl)
other_request (pdus.PmnsChild name) reply a b c d = record { unfit = λ f. f; type_differs = λ g. g }
other_request (pdus.PmnsTraverse name) reply a b c d = record { unfit = λ f. f; type_differs = λ g. g }
