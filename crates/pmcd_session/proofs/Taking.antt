-- A PDU for which a moment was taken is one for which the clock is asked.
use Rattle.std.proofs.Common.{◌≡◌, ℕ, Bool, true, false, List, [], Option, Some, None, refl, sym, ap, ◌∙◌, subst}
use Rattle.pcp_base.specs.Time.{Moment}
use Rattle.pdu_codec.specs.declared.pdu.Pdu.{Pdu}
use Rattle.pdu_codec.specs.declared.pdu.Pdu.TheVariants as pdus
use Rattle.pmcd_session.specs.declared.standing.Standing.{Standing}
use Rattle.pmcd_session.specs.Contexts.{may_set, with_profile}
use Rattle.pmcd_session.specs.Serving.{Asks, Deed, Does, DoesIf, FetchesIf, Meets, Reaches, ReadsBy, Refuses, Serves, Sets, IsSilent, Tells, may_fetch, needs_moment}

no_moment : {A : Type 0} (s : Standing A) (pdu : List ℕ) (moments : List Moment) → moments ≡ [] → Reaches s pdu moments
no_moment s pdu moments e = subst (λ (m : List Moment). Reaches s pdu m) (sym e) tt

refused_takes : {A : Type 0} (s : Standing A) (pdu : List ℕ) (d : Deed A) → Refuses s d → Reaches s pdu d.moments
refused_takes {A = A} s pdu d is = no_moment s pdu d.moments (ap (λ (e : Deed A). e.moments) is)

silent_takes : {A : Type 0} (s after : Standing A) (pdu : List ℕ) (d : Deed A) → IsSilent after d → Reaches s pdu d.moments
silent_takes {A = A} s after pdu d is = no_moment s pdu d.moments (ap (λ (e : Deed A). e.moments) is)

told_takes : {A : Type 0} (reads : ReadsBy A) (s : Standing A) (pdu : List ℕ) (request : Pdu) (d : Deed A) → Tells reads s request d → Reaches s pdu d.moments
told_takes reads s pdu request d told = no_moment s pdu d.moments told.moments

set_takes : {A : Type 0} (b : Bool) (s after : Standing A) (pdu : List ℕ) (d : Deed A) → Sets b s after d → Reaches s pdu d.moments
set_takes true s after pdu d done = silent_takes s after pdu d done
set_takes false s after pdu d done = refused_takes s pdu d done

fetch_takes : {A : Type 0} (reads : ReadsBy A) (b : Bool) (s : Standing A) (pdu : List ℕ) (context sec usec : ℕ) (pmids : List ℕ) (d : Deed A) → s.is_met ≡ true
    → Asks pdu (Some (pdus.Fetch context sec usec pmids)) → may_fetch context pmids ≡ b → FetchesIf reads b s context pmids d → Reaches s pdu d.moments
fetch_takes reads true s pdu context sec usec pmids d met asks may done =
    subst (λ (m : List Moment). Reaches s pdu m) (sym done.moments)
    (record {
      request = Some (pdus.Fetch context sec usec pmids);
      asks = asks;
      needs = ap (λ (b : Bool). needs_moment b (Some (pdus.Fetch context sec usec pmids))) met ∙ may;
    })
fetch_takes reads false s pdu context sec usec pmids d met asks may done = refused_takes s pdu d done

served_takes : {A : Type 0} (reads : ReadsBy A) (s : Standing A) (pdu : List ℕ) (request : Pdu) (d : Deed A) → s.is_met ≡ true → Asks pdu (Some request) → Serves reads s request d → Reaches s pdu d.moments
served_takes reads s pdu pdus.Creds d met asks done = refused_takes s pdu d done
served_takes reads s pdu (pdus.Profile context global parts) d met asks done = set_takes (may_set context parts) s (record s { contexts = with_profile s.contexts context global parts }) pdu d done
served_takes reads s pdu (pdus.Fetch context sec usec pmids) d met asks done = fetch_takes reads (may_fetch context pmids) s pdu context sec usec pmids d met asks refl done
served_takes reads s pdu (pdus.DescReq pmid) d met asks done = told_takes reads s pdu (pdus.DescReq pmid) d done
served_takes reads s pdu (pdus.InstanceReq indom instance) d met asks done = told_takes reads s pdu (pdus.InstanceReq indom instance) d done
served_takes reads s pdu (pdus.PmnsIds status pmids) d met asks done = told_takes reads s pdu (pdus.PmnsIds status pmids) d done
served_takes reads s pdu (pdus.PmnsNames status names) d met asks done = told_takes reads s pdu (pdus.PmnsNames status names) d done
served_takes reads s pdu (pdus.PmnsChild name) d met asks done = told_takes reads s pdu (pdus.PmnsChild name) d done
served_takes reads s pdu (pdus.PmnsTraverse name) d met asks done = told_takes reads s pdu (pdus.PmnsTraverse name) d done
served_takes reads s pdu (pdus.Error code) d met asks done = refused_takes s pdu d done
served_takes reads s pdu (pdus.Result answer) d met asks done = refused_takes s pdu d done
served_takes reads s pdu (pdus.Desc desc) d met asks done = refused_takes s pdu d done
served_takes reads s pdu (pdus.Instance indom pairs) d met asks done = refused_takes s pdu d done

met_takes : {A : Type 0} (s : Standing A) (pdu : List ℕ) (request : Pdu) (d : Deed A) → Meets s request d → Reaches s pdu d.moments
met_takes s pdu pdus.Creds d done = silent_takes s (record s { is_met = true }) pdu d done
met_takes s pdu (pdus.Profile context global parts) d done = refused_takes s pdu d done
met_takes s pdu (pdus.Fetch context sec usec pmids) d done = refused_takes s pdu d done
met_takes s pdu (pdus.DescReq pmid) d done = refused_takes s pdu d done
met_takes s pdu (pdus.InstanceReq indom instance) d done = refused_takes s pdu d done
met_takes s pdu (pdus.PmnsIds status pmids) d done = refused_takes s pdu d done
met_takes s pdu (pdus.PmnsNames status names) d done = refused_takes s pdu d done
met_takes s pdu (pdus.PmnsChild name) d done = refused_takes s pdu d done
met_takes s pdu (pdus.PmnsTraverse name) d done = refused_takes s pdu d done
met_takes s pdu (pdus.Error code) d done = refused_takes s pdu d done
met_takes s pdu (pdus.Result answer) d done = refused_takes s pdu d done
met_takes s pdu (pdus.Desc desc) d done = refused_takes s pdu d done
met_takes s pdu (pdus.Instance indom pairs) d done = refused_takes s pdu d done

does_takes : {A : Type 0} (reads : ReadsBy A) (s : Standing A) (pdu : List ℕ) (met : Bool) (asked : Option Pdu) (d : Deed A) → s.is_met ≡ met → Asks pdu asked → DoesIf reads s met asked d → Reaches s pdu d.moments
does_takes reads s pdu met None d e asks done = refused_takes s pdu d done
does_takes reads s pdu false (Some request) d e asks done = met_takes s pdu request d done
does_takes reads s pdu true (Some request) d e asks done = served_takes reads s pdu request d e asks done

pub takes : {A : Type 0} (reads : ReadsBy A) (s : Standing A) (pdu : List ℕ) (d : Deed A) → Does reads s pdu d → Reaches s pdu d.moments
unfolding Does
takes reads s pdu d h = does_takes reads s pdu s.is_met h.0 d refl h.1 h.2
