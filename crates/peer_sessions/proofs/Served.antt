-- What a session that knows its client does with a request, by the request's type.
use Rattle.std.proofs.Common.{◌≡◌, ◌⊎◌, inl, inr, ℕ, ◌≤◌, Bool, true, false, cond, List, [], ◌∷◌, Option, Some, None, refl, sym, ap, ◌∙◌, subst, arith}
use Rattle.std.specs.Prelude.{bytes_eq, nat_lt}
use Rattle.std.proofs.lemmas.Bool.{ltb-false}
use Rattle.pcp_base.specs.declared.result.PmResult.{PmResult}
use Rattle.pcp_model.specs.Words.{word}
use Rattle.pdu_codec.specs.declared.pdu.Pdu.{Pdu}
use Rattle.pdu_codec.specs.declared.pdu.Pdu.TheVariants as pdus
use Rattle.pdu_codec.specs.declared.types.PduType.{PduType}
use Rattle.pdu_codec.specs.declared.types.PduType.TheVariants as types
use Rattle.pdu_codec.specs.Types.{code_of_type, type_of}
use Rattle.pdu_codec.specs.Bodies.{IsPdu}
use Rattle.pdu_codec.specs.Spelling.{pdu_bytes, pdu_length}
use Rattle.pmcd_session.specs.declared.standing.Standing.{Standing}
use Rattle.pmcd_session.specs.Contexts.{new_contexts}
use Rattle.pmcd_session.specs.Replies.{bounded_reply, protocol_error, reply_bytes, reply_over}
use Rattle.pmcd_session.specs.Serving.{Asks, Deed, Does, DoesIf, Fetches, FetchesIf, KeepsRest, Meets, ReadsBy, Refuses, Serves, Tells, may_fetch}
use Rattle.pmcd_session.specs.Sessions.{is_fetch}
use Rattle.peer_sessions.proofs.Spelled.{same_type, type_word}

-- the client is known, and its profiles keep every instance
pub record IsOpen {A : Type 0} (s : Standing A) : Type 0 where
  pub met : s.is_met ≡ true
  pub contexts : s.contexts ≡ new_contexts

pub still_open : {A : Type 0} (s after : Standing A) → IsOpen s → KeepsRest s after → IsOpen after
still_open s after o k = record { met = k.met ∙ o.met; contexts = k.contexts ∙ o.contexts }

-- one reply, and nothing but the agent has changed
pub record Replies {A : Type 0} (s : Standing A) (d : Deed A) : Type 0 where
  pub reply : Pdu
  pub is : d.reply ≡ Some reply
  pub rest : KeepsRest s d.after

pub record RepliesAtOnce {A : Type 0} (s : Standing A) (d : Deed A) : Type 0 where
  pub replies : Replies s d
  pub quiet : d.moments ≡ []

refused : {A : Type 0} (s : Standing A) (d : Deed A) → Refuses s d → RepliesAtOnce s d
refused {A = A} s d is = record {
  replies = record {
    reply = protocol_error;
    is = ap (λ (e : Deed A). e.reply) is;
    rest = record { met = ap (λ (e : Deed A). e.after.is_met) is; contexts = ap (λ (e : Deed A). e.after.contexts) is };
  };
  quiet = ap (λ (e : Deed A). e.moments) is;
}

told : {A : Type 0} (reads : ReadsBy A) (s : Standing A) (request : Pdu) (d : Deed A) → Tells reads s request d → RepliesAtOnce s d
told reads s request d t = record { replies = record { reply = reply_over request t.regions; is = t.reply; rest = t.rest }; quiet = t.moments }

-- ---- descriptions, instances and names

abbrev pub IsQuiet : PduType → Type 0
IsQuiet types.DescReq = Unit {0}
IsQuiet types.InstanceReq = Unit {0}
IsQuiet types.PmnsNames = Unit {0}
IsQuiet kind = ⊥

-- no such request is a fetch
quiet_code : (kind : PduType) → IsQuiet kind → bytes_eq (word (code_of_type kind)) (0 ∷ 0 ∷ 112 ∷ 3 ∷ []) ≡ false
unfolding word
quiet_code types.DescReq q = refl
quiet_code types.InstanceReq q = refl
quiet_code types.PmnsNames q = refl
quiet_code types.Error q = absurd q
quiet_code types.Result q = absurd q
quiet_code types.Profile q = absurd q
quiet_code types.Fetch q = absurd q
quiet_code types.Desc q = absurd q
quiet_code types.Instance q = absurd q
quiet_code types.Creds q = absurd q
quiet_code types.PmnsIds q = absurd q
quiet_code types.PmnsChild q = absurd q
quiet_code types.PmnsTraverse q = absurd q

pub quiet_no_fetch : (p : Pdu) → IsQuiet (type_of p) → is_fetch (pdu_bytes p) ≡ false
quiet_no_fetch p q = ap (λ (t : List ℕ). bytes_eq t (0 ∷ 0 ∷ 112 ∷ 3 ∷ [])) (type_word p) ∙ quiet_code (type_of p) q

quiet_served : {A : Type 0} (reads : ReadsBy A) (s : Standing A) (request : Pdu) (d : Deed A) → IsQuiet (type_of request) → Serves reads s request d → RepliesAtOnce s d
quiet_served reads s (pdus.DescReq pmid) d q done = told reads s (pdus.DescReq pmid) d done
quiet_served reads s (pdus.InstanceReq indom instance) d q done = told reads s (pdus.InstanceReq indom instance) d done
quiet_served reads s (pdus.PmnsNames status names) d q done = told reads s (pdus.PmnsNames status names) d done
quiet_served reads s (pdus.Error code) d q done = absurd q
quiet_served reads s (pdus.Result answer) d q done = absurd q
quiet_served reads s (pdus.Profile context global parts) d q done = absurd q
quiet_served reads s (pdus.Fetch context sec usec pmids) d q done = absurd q
quiet_served reads s (pdus.Desc desc) d q done = absurd q
quiet_served reads s (pdus.Instance indom pairs) d q done = absurd q
quiet_served reads s pdus.Creds d q done = absurd q
quiet_served reads s (pdus.PmnsIds status pmids) d q done = absurd q
quiet_served reads s (pdus.PmnsChild name) d q done = absurd q
quiet_served reads s (pdus.PmnsTraverse name) d q done = absurd q

quiet_asked : {A : Type 0} (reads : ReadsBy A) (s : Standing A) (p : Pdu) (asked : Option Pdu) (d : Deed A) → IsQuiet (type_of p) → Asks (pdu_bytes p) asked → DoesIf reads s true asked d → RepliesAtOnce s d
quiet_asked reads s p None d q asks done = refused s d done
quiet_asked reads s p (Some request) d q asks done = quiet_served reads s request d (subst IsQuiet (same_type p request asks) q) done

known : {A : Type 0} (reads : ReadsBy A) (s : Standing A) (asked : Option Pdu) (d : Deed A) → IsOpen s → DoesIf reads s s.is_met asked d → DoesIf reads s true asked d
known reads s asked d o done = subst (λ (b : Bool). DoesIf reads s b asked d) o.met done

pub quiet_reply : {A : Type 0} (reads : ReadsBy A) (s : Standing A) (p : Pdu) (d : Deed A) → IsQuiet (type_of p) → IsOpen s → Does reads s (pdu_bytes p) d → RepliesAtOnce s d
unfolding Does
quiet_reply reads s p d q o done = quiet_asked reads s p done.0 d q done.1 (known reads s done.0 d o done.2)

-- ---- a fetch

abbrev IsFetch : PduType → Type 0
IsFetch types.Fetch = Unit {0}
IsFetch kind = ⊥

-- it was answered
pub record IsFetched {A : Type 0} (reads : ReadsBy A) (s : Standing A) (pdu : List ℕ) (d : Deed A) : Type 0 where
  pub context : ℕ
  pub sec : ℕ
  pub usec : ℕ
  pub pmids : List ℕ
  pub asks : IsPdu pdu (pdus.Fetch context sec usec pmids)
  pub may : may_fetch context pmids ≡ true
  pub fetches : Fetches reads s context pmids d

-- it was refused
pub record IsRefused {A : Type 0} (s : Standing A) (d : Deed A) : Type 0 where
  pub reply : d.reply ≡ Some protocol_error

refused_so : {A : Type 0} (s : Standing A) (d : Deed A) → Refuses s d → IsRefused s d
refused_so {A = A} s d is = record { reply = ap (λ (e : Deed A). e.reply) is }

fetch_if : {A : Type 0} (reads : ReadsBy A) (s : Standing A) (pdu : List ℕ) (context sec usec : ℕ) (pmids : List ℕ) (d : Deed A) (b : Bool) → may_fetch context pmids ≡ b
    → IsPdu pdu (pdus.Fetch context sec usec pmids) → FetchesIf reads b s context pmids d → IsFetched reads s pdu d ⊎ IsRefused s d
fetch_if reads s pdu context sec usec pmids d true may asks done = inl (record { context = context; sec = sec; usec = usec; pmids = pmids; asks = asks; may = may; fetches = done })
fetch_if reads s pdu context sec usec pmids d false may asks done = inr (refused_so s d done)

fetch_served : {A : Type 0} (reads : ReadsBy A) (s : Standing A) (pdu : List ℕ) (request : Pdu) (d : Deed A) → IsFetch (type_of request) → IsPdu pdu request → Serves reads s request d → IsFetched reads s pdu d ⊎ IsRefused s d
fetch_served reads s pdu (pdus.Fetch context sec usec pmids) d q asks done = fetch_if reads s pdu context sec usec pmids d (may_fetch context pmids) refl asks done
fetch_served reads s pdu (pdus.DescReq pmid) d q asks done = absurd q
fetch_served reads s pdu (pdus.InstanceReq indom instance) d q asks done = absurd q
fetch_served reads s pdu (pdus.PmnsNames status names) d q asks done = absurd q
fetch_served reads s pdu (pdus.Error code) d q asks done = absurd q
fetch_served reads s pdu (pdus.Result answer) d q asks done = absurd q
fetch_served reads s pdu (pdus.Profile context global parts) d q asks done = absurd q
fetch_served reads s pdu (pdus.Desc desc) d q asks done = absurd q
fetch_served reads s pdu (pdus.Instance indom pairs) d q asks done = absurd q
fetch_served reads s pdu pdus.Creds d q asks done = absurd q
fetch_served reads s pdu (pdus.PmnsIds status pmids) d q asks done = absurd q
fetch_served reads s pdu (pdus.PmnsChild name) d q asks done = absurd q
fetch_served reads s pdu (pdus.PmnsTraverse name) d q asks done = absurd q

fetch_asked : {A : Type 0} (reads : ReadsBy A) (s : Standing A) (pmids : List ℕ) (asked : Option Pdu) (d : Deed A) → Asks (pdu_bytes (pdus.Fetch 0 0 0 pmids)) asked → DoesIf reads s true asked d
    → IsFetched reads s (pdu_bytes (pdus.Fetch 0 0 0 pmids)) d ⊎ IsRefused s d
fetch_asked reads s pmids None d asks done = inr (refused_so s d done)
fetch_asked reads s pmids (Some request) d asks done =
    fetch_served reads s (pdu_bytes (pdus.Fetch 0 0 0 pmids)) request d (subst IsFetch (same_type (pdus.Fetch 0 0 0 pmids) request asks) tt) asks done

pub fetch_reply : {A : Type 0} (reads : ReadsBy A) (s : Standing A) (pmids : List ℕ) (d : Deed A) → IsOpen s → Does reads s (pdu_bytes (pdus.Fetch 0 0 0 pmids)) d
    → IsFetched reads s (pdu_bytes (pdus.Fetch 0 0 0 pmids)) d ⊎ IsRefused s d
unfolding Does
fetch_reply reads s pmids d o done = fetch_asked reads s pmids done.0 d done.1 (known reads s done.0 d o done.2)

-- ---- the client says that it speaks the protocol

abbrev IsCreds : PduType → Type 0
IsCreds types.Creds = Unit {0}
IsCreds kind = ⊥

-- it is known from then on
pub record IsMet {A : Type 0} (s : Standing A) (d : Deed A) : Type 0 where
  pub moments : d.moments ≡ []
  pub silent : d.reply ≡ None
  pub met : d.after.is_met ≡ true
  pub contexts : d.after.contexts ≡ s.contexts

creds_code : bytes_eq (word 28684) (0 ∷ 0 ∷ 112 ∷ 3 ∷ []) ≡ false
unfolding word
creds_code = refl

pub creds_no_fetch : is_fetch (pdu_bytes pdus.Creds) ≡ false
creds_no_fetch = ap (λ (t : List ℕ). bytes_eq t (0 ∷ 0 ∷ 112 ∷ 3 ∷ [])) (type_word pdus.Creds) ∙ creds_code

creds_met : {A : Type 0} (s : Standing A) (request : Pdu) (d : Deed A) → IsCreds (type_of request) → Meets s request d → IsMet s d
creds_met {A = A} s pdus.Creds d q is = record {
  moments = ap (λ (e : Deed A). e.moments) is;
  silent = ap (λ (e : Deed A). e.reply) is;
  met = ap (λ (e : Deed A). e.after.is_met) is;
  contexts = ap (λ (e : Deed A). e.after.contexts) is;
}
creds_met s (pdus.Fetch context sec usec pmids) d q is = absurd q
creds_met s (pdus.DescReq pmid) d q is = absurd q
creds_met s (pdus.InstanceReq indom instance) d q is = absurd q
creds_met s (pdus.PmnsNames status names) d q is = absurd q
creds_met s (pdus.Error code) d q is = absurd q
creds_met s (pdus.Result answer) d q is = absurd q
creds_met s (pdus.Profile context global parts) d q is = absurd q
creds_met s (pdus.Desc desc) d q is = absurd q
creds_met s (pdus.Instance indom pairs) d q is = absurd q
creds_met s (pdus.PmnsIds status pmids) d q is = absurd q
creds_met s (pdus.PmnsChild name) d q is = absurd q
creds_met s (pdus.PmnsTraverse name) d q is = absurd q

creds_asked : {A : Type 0} (reads : ReadsBy A) (s : Standing A) (asked : Option Pdu) (d : Deed A) → IsPdu (pdu_bytes pdus.Creds) pdus.Creds → Asks (pdu_bytes pdus.Creds) asked → DoesIf reads s false asked d → IsMet s d
creds_asked reads s None d is asks done = absurd (asks pdus.Creds is)
creds_asked reads s (Some request) d is asks done = creds_met s request d (subst IsCreds (same_type pdus.Creds request asks) tt) done

pub creds_reply : {A : Type 0} (reads : ReadsBy A) (s : Standing A) (d : Deed A) → s.is_met ≡ false → IsPdu (pdu_bytes pdus.Creds) pdus.Creds → Does reads s (pdu_bytes pdus.Creds) d → IsMet s d
unfolding Does
creds_reply reads s d unmet is done = creds_asked reads s done.0 d is done.1 (subst (λ (b : Bool). DoesIf reads s b done.0 d) unmet done.2)

-- ---- how long a reply is

bounded_by : (p : Pdu) (b : Bool) → nat_lt 65536 (pdu_length p) ≡ b → pdu_length (cond b protocol_error p) ≤ 65536
bounded_by p true e = omega arith
bounded_by p false e = ltb-false 65536 (pdu_length p) e

pub small_reply : (p : Pdu) → pdu_length (bounded_reply p) ≤ 65536
small_reply p = bounded_by p (nat_lt 65536 (pdu_length p)) refl

-- a reply that is read as a result is that result's, and short
pub record IsShown (a r : PmResult) : Type 0 where
  pub few : pdu_length (pdus.Result a) ≤ 65536
  pub is : IsPdu (pdu_bytes (pdus.Result a)) (pdus.Result r)

abbrev IsResult : PduType → Type 0
IsResult types.Result = Unit {0}
IsResult kind = ⊥

pub no_refusal : (r : PmResult) → IsPdu (pdu_bytes protocol_error) (pdus.Result r) → ⊥
no_refusal r s = subst IsResult (sym (same_type protocol_error (pdus.Result r) s)) tt

shown_by : (a r : PmResult) (b : Bool) → nat_lt 65536 (pdu_length (pdus.Result a)) ≡ b → IsPdu (pdu_bytes (cond b protocol_error (pdus.Result a))) (pdus.Result r) → IsShown a r
shown_by a r true e s = absurd (no_refusal r s)
shown_by a r false e s = record { few = ltb-false 65536 (pdu_length (pdus.Result a)) e; is = s }

pub shown_result : (a r : PmResult) → IsPdu (reply_bytes (pdus.Result a)) (pdus.Result r) → IsShown a r
shown_result a r s = shown_by a r (nat_lt 65536 (pdu_length (pdus.Result a))) refl s
