-- What is done with requests: the moment of a fetch, and its refusal.
use Rattle.std.proofs.Common.{◌≡◌, ℕ, ℤ, Bool, true, false, List, [], ◌∷◌, Option, Some, None, is_some, refl, sym, ap, ◌∙◌, subst}
use Rattle.std.specs.Prelude.{option_to_list, slice_get}
use Rattle.pcp_base.specs.Time.{Moment}
use Rattle.pcp_base.specs.declared.result.PmResult.{PmResult}
use Rattle.pdu_codec.specs.declared.pdu.Pdu.{Pdu}
use Rattle.pdu_codec.specs.declared.pdu.Pdu.TheVariants as pdus
use Rattle.profile_filter.specs.Kept.{Settings}
use Rattle.fetch_answers.specs.Answers.{answer_of}
use Rattle.fetch_answers.specs.Readings.{RegionReading}
use Rattle.pmcd_session.specs.declared.standing.Standing.{Standing}
use Rattle.pmcd_session.specs.Contexts.{profile_or_all}
use Rattle.pmcd_session.specs.Replies.{protocol_error}
use Rattle.pmcd_session.specs.Serving.{Deed, FetchesIf, KeepsRest, ReadsBy, Serves, Tells, may_fetch, needs_moment}

no_moment : (m : Option Moment) → is_some m ≡ false → [] ≡ option_to_list m
no_moment None e = refl
no_moment (Some t) e = cc

-- what is done without a moment, where none is needed
pub without : {A : Type 0} (P : Deed A → Type 0) (m : Option Moment) (reply : Option Pdu) (after : Standing A) → is_some m ≡ false
    → P (record { moments = []; reply = reply; after = after }) → P (record { moments = option_to_list m; reply = reply; after = after })
without {A = A} P m reply after none done = subst (λ (l : List Moment). P (record { moments = l; reply = reply; after = after })) (no_moment m none) done

-- a fetch that has its moment
pub fetched : {A : Type 0} (reads : ReadsBy A) (s after : Standing A) (context : ℕ) (pmids : List ℕ) (stamp : Moment) (profile : Settings) (answer : PmResult)
    → true ≡ may_fetch context pmids → Some profile ≡ slice_get s.contexts context → KeepsRest s after
    → ((readings : List RegionReading) × reads None s.agent readings after.agent × (answer ≡ answer_of readings profile pmids stamp))
    → FetchesIf reads (may_fetch context pmids) s context pmids (record { moments = stamp ∷ []; reply = Some (pdus.Result answer); after = after })
fetched {A = A} reads s after context pmids stamp profile answer may there rest shown =
    subst (λ (b : Bool). FetchesIf reads b s context pmids (record { moments = stamp ∷ []; reply = Some (pdus.Result answer); after = after })) may
    (record {
      regions = shown.0;
      moment = stamp;
      read = shown.1;
      moments = refl;
      reply = ap (λ r. Some (pdus.Result r)) (shown.2 ∙ ap (λ (o : Option Settings). answer_of shown.0 (profile_or_all o) pmids stamp) there);
      rest = rest;
    })

-- one that has none
pub refused : {A : Type 0} (reads : ReadsBy A) (s : Standing A) (context : ℕ) (pmids : List ℕ) → false ≡ may_fetch context pmids
    → FetchesIf reads (may_fetch context pmids) s context pmids (record { moments = []; reply = Some protocol_error; after = s })
refused {A = A} reads s context pmids may =
    subst (λ (b : Bool). FetchesIf reads b s context pmids (record { moments = []; reply = Some protocol_error; after = s })) may refl

-- what an agent told to a known client, whose request needs no moment
pub told_without : {A : Type 0} (reads : ReadsBy A) (s after : Standing A) (request same : Pdu) (m : Option Moment) (reply : Pdu) → request ≡ same → is_some m ≡ needs_moment true (Some request)
    → ((d : Deed A) → Tells reads s same d → Serves reads s same d) → needs_moment true (Some same) ≡ false
    → Tells reads s same (record { moments = []; reply = Some reply; after = after }) → Serves reads s request (record { moments = option_to_list m; reply = Some reply; after = after })
told_without {A = A} reads s after request same m reply is moment serves needs told =
    let none : is_some m ≡ false = moment ∙ ap (λ (r : Pdu). needs_moment true (Some r)) is ∙ needs in
    subst (λ (r : Pdu). Serves reads s r (record { moments = option_to_list m; reply = Some reply; after = after })) (sym is)
    (without (λ (d : Deed A). Serves reads s same d) m (Some reply) after none (serves (record { moments = []; reply = Some reply; after = after }) told))

-- the same request in other words
pub instance_told : {A : Type 0} (reads : ReadsBy A) (s : Standing A) (indom : ℕ) (seen instance : ℤ) (after : Standing A) (reply : Pdu) → seen ≡ instance
    → Tells reads s (pdus.InstanceReq indom seen) (record { moments = []; reply = Some reply; after = after }) → Tells reads s (pdus.InstanceReq indom instance) (record { moments = []; reply = Some reply; after = after })
instance_told reads s indom seen instance after reply same told = subst (λ (z : ℤ). Tells reads s (pdus.InstanceReq indom z) (record { moments = []; reply = Some reply; after = after })) same told

pub ids_told : {A : Type 0} (reads : ReadsBy A) (s : Standing A) (status : ℤ) (seen names : List (List ℕ)) (after : Standing A) (reply : Pdu) → seen ≡ names
    → Tells reads s (pdus.PmnsNames status seen) (record { moments = []; reply = Some reply; after = after }) → Tells reads s (pdus.PmnsNames status names) (record { moments = []; reply = Some reply; after = after })
ids_told reads s status seen names after reply same told = subst (λ (l : List (List ℕ)). Tells reads s (pdus.PmnsNames status l) (record { moments = []; reply = Some reply; after = after })) same told

pub names_told : {A : Type 0} (reads : ReadsBy A) (s : Standing A) (status : ℤ) (seen pmids : List ℕ) (after : Standing A) (reply : Pdu) → seen ≡ pmids
    → Tells reads s (pdus.PmnsIds status seen) (record { moments = []; reply = Some reply; after = after }) → Tells reads s (pdus.PmnsIds status pmids) (record { moments = []; reply = Some reply; after = after })
names_told reads s status seen pmids after reply same told = subst (λ (l : List ℕ). Tells reads s (pdus.PmnsIds status l) (record { moments = []; reply = Some reply; after = after })) same told
