-- Samples one behind another, each by the answer to a fetch.
use Rattle.std.proofs.Common.{◌≡◌, ℕ, ◌≤◌, List, [], ◌∷◌, ◌++◌, length, map, refl, sym, ap, ◌∙◌, subst, append_assoc, arith}
use Rattle.std.specs.Prelude.{negsuc}
use Rattle.std.specs.List.{AllByRecursion}
use Rattle.std.proofs.lemmas.List.{append-nil}
use Rattle.pcp_base.specs.Time.{Moment}
use Rattle.pcp_base.specs.declared.result.PmResult.{PmResult}
use Rattle.pdu_codec.specs.declared.pdu.Pdu.{Pdu}
use Rattle.pdu_codec.specs.declared.pdu.Pdu.TheVariants as pdus
use Rattle.pdu_codec.specs.Spelling.{all_bytes, pdu_bytes}
use Rattle.fetch_engine.specs.declared.server.Mounted.{Mounted}
use Rattle.fetch_engine.specs.Servers.{Seated}
use Rattle.pmcd_session.specs.declared.standing.Standing.{Standing}
use Rattle.pmcd_session.specs.Agents.{ReadsRegions}
use Rattle.pmcd_session.specs.Serving.{Deeds}
use Rattle.pmcd_client.specs.Bytes.{AreReplies, IsReply, turn_bytes, turns_bytes}
use Rattle.pmcd_client.specs.Items.{asked_again}
use Rattle.pmcd_client.specs.Replies.{Standing as Dialogue}
use Rattle.pmcd_client.specs.Talks.{AreSampled, Sample}
use Rattle.pmcd_client.specs.Turns.{Answers, Turn, list_turn, pmids_of, sampling}
use Rattle.peer_sessions.specs.Answers.{AnswerEach}
use Rattle.peer_sessions.proofs.Fetching.{fetch_answered}
use Rattle.peer_sessions.proofs.Turns.{IsQuietTurn, Passed, all_passed, none_passed}

-- ---- bytes of lists

pub all_bytes-append : {X : Type 0} (bytes : X → List ℕ) (xs ys : List X) → all_bytes bytes (xs ++ ys) ≡ all_bytes bytes xs ++ all_bytes bytes ys
all_bytes-append bytes [] ys = refl
all_bytes-append bytes (x ∷ xs) ys = ap (λ (t : List ℕ). bytes x ++ t) (all_bytes-append bytes xs ys) ∙ sym (append_assoc (bytes x) (all_bytes bytes xs) (all_bytes bytes ys))

-- replies that were taken in two parts
pub record Parts (taken : List ℕ) (xs ys : List Pdu) : Type 0 where
  pub front : List ℕ
  pub back : List ℕ
  pub cut : taken ≡ front ++ back
  pub first : AreReplies front xs
  pub second : AreReplies back ys

pub parted : (taken : List ℕ) (xs ys : List Pdu) → AreReplies taken (xs ++ ys) → Parts taken xs ys
parted taken [] ys are = record { front = []; back = taken; cut = refl; first = refl; second = are }
parted taken (x ∷ xs) ys are =
    let p = parted are.1 xs ys are.4 in
    record {
      front = are.0 ++ p.front;
      back = p.back;
      cut = are.2 ∙ ap (λ (t : List ℕ). are.0 ++ t) p.cut ∙ sym (append_assoc are.0 p.front p.back);
      first = (are.0, p.front, refl, are.3, p.first);
      second = p.second;
    }

-- ---- turns

pub lists_quiet : (indoms : List ℕ) → AllByRecursion IsQuietTurn (map list_turn indoms)
lists_quiet [] = tt
lists_quiet (indom ∷ indoms) = (record { request = pdus.InstanceReq indom (negsuc 0); quiet = tt; only = refl; few = omega arith }, lists_quiet indoms)

-- the replies to a sample's requests begin with its result
pub record IsCut (s : Dialogue) (result : PmResult) (taken : List ℕ) (lists : List Pdu) : Type 0 where
  pub sets_are : pmids_of result.sets ≡ s.pmids
  pub first : List ℕ
  pub rest : List ℕ
  pub cut : taken ≡ first ++ rest
  pub is : IsReply first (pdus.Result result)
  pub fit : Answers (map list_turn (asked_again s.facts (pdus.Result result ∷ lists))) lists []
  pub replies : AreReplies rest lists

cut_at : (s : Dialogue) (result : PmResult) (taken : List ℕ) (replies lists : List Pdu) → replies ≡ pdus.Result result ∷ lists → Answers (sampling s replies) replies [] → AreReplies taken replies → IsCut s result taken lists
cut_at s result taken replies lists is fit are =
    let f : Answers (sampling s (pdus.Result result ∷ lists)) (pdus.Result result ∷ lists) [] = subst (λ (l : List Pdu). Answers (sampling s l) l []) is fit in
    let r : AreReplies taken (pdus.Result result ∷ lists) = subst (λ (l : List Pdu). AreReplies taken l) is are in
    record { sets_are = f.0; first = r.0; rest = r.1; cut = r.2; is = r.3; fit = f.1; replies = r.4 }

-- the bytes of a sample's requests
sample_bytes : (s : Dialogue) (result : PmResult) (lists : List Pdu) (later : List Turn) (requests : List ℕ)
    → turns_bytes (sampling s (pdus.Result result ∷ lists) ++ later) ++ requests
    ≡ pdu_bytes (pdus.Fetch 0 0 0 s.pmids) ++ (turns_bytes (map list_turn (asked_again s.facts (pdus.Result result ∷ lists))) ++ (turns_bytes later ++ requests))
sample_bytes s result lists later requests =
    let fetch : Pdu = pdus.Fetch 0 0 0 s.pmids in
    let more : List Turn = map list_turn (asked_again s.facts (pdus.Result result ∷ lists)) in
    append_assoc (pdu_bytes fetch ++ []) (turns_bytes (more ++ later)) requests
    ∙ ap (λ (t : List ℕ). t ++ (turns_bytes (more ++ later) ++ requests)) (append-nil (pdu_bytes fetch))
    ∙ ap (λ (t : List ℕ). pdu_bytes fetch ++ (t ++ requests)) (all_bytes-append turn_bytes more later)
    ∙ ap (λ (t : List ℕ). pdu_bytes fetch ++ t) (append_assoc (turns_bytes more) (turns_bytes later) requests)

few_still : (s next : Dialogue) (after : Dialogue) → next ≡ after → after.pmids ≡ s.pmids → length s.pmids ≤ 64 → length next.pmids ≤ 64
few_still s next after is same few = subst (λ (l : List ℕ). length l ≤ 64) (sym (ap (λ (x : Dialogue). x.pmids) is ∙ same)) few

pub each_answered : (rows : List Mounted) (samples : List Sample) (s : Standing Seated) (pdus_left : List (List ℕ)) (d : Deeds Seated) (moments_left extra : List Moment)
    (from : Dialogue) (turns : List Turn) (replies : List Pdu) (after : Dialogue) (taken requests more : List ℕ)
    → length from.pmids ≤ 64 → AreSampled from turns replies samples after → AreReplies taken replies → moments_left ≡ d.moments ++ extra
    → Passed (ReadsRegions rows) s pdus_left d (turns_bytes turns ++ requests) (taken ++ more) → AnswerEach rows s pdus_left moments_left samples
each_answered rows [] s pdus_left d moments_left extra from turns replies after taken requests more few sampled are moments x = tt
each_answered rows (sample ∷ samples) s pdus_left d moments_left extra from turns replies after taken requests more few sampled are moments x =
    let first : List Pdu = sampled.0 in
    let later : List Pdu = sampled.1 in
    let later_turns : List Turn = sampled.2 in
    let next : Dialogue = sampled.3 in
    let one = sampled.6 in
    let result : PmResult = sample.result in
    let p = parted taken first later (subst (λ (l : List Pdu). AreReplies taken l) sampled.4 are) in
    let c = cut_at from result p.front first one.lists one.first one.answered p.first in
    let listing : List ℕ = turns_bytes (map list_turn (asked_again from.facts (pdus.Result result ∷ one.lists))) in
    let rest : List ℕ = turns_bytes later_turns ++ requests in
    let asked : turns_bytes turns ++ requests ≡ pdu_bytes (pdus.Fetch 0 0 0 from.pmids) ++ (listing ++ rest) =
    ap (λ (l : List Turn). turns_bytes l ++ requests) (sampled.5 ∙ ap (λ (l : List Pdu). sampling from l ++ later_turns) one.first) ∙ sample_bytes from result one.lists later_turns requests in
    let told : taken ++ more ≡ c.first ++ (c.rest ++ (p.back ++ more)) =
    ap (λ (t : List ℕ). t ++ more) (p.cut ∙ ap (λ (t : List ℕ). t ++ p.back) c.cut) ∙ append_assoc (c.first ++ c.rest) p.back more ∙ append_assoc c.first c.rest (p.back ++ more) in
    let y = subst (λ (t : List ℕ). Passed (ReadsRegions rows) s pdus_left d (pdu_bytes (pdus.Fetch 0 0 0 from.pmids) ++ (listing ++ rest)) t) told (subst (λ (t : List ℕ). Passed (ReadsRegions rows) s pdus_left d t (taken ++ more)) asked x) in
    let a = fetch_answered rows s pdus_left d from.pmids (listing ++ rest) c.first (c.rest ++ (p.back ++ more)) result moments_left extra few c.sets_are c.is.whole c.is.is moments y in
    let z = none_passed (ReadsRegions rows) a.next.deed.after a.next.behind a.later (listing ++ rest) (c.rest ++ (p.back ++ more)) a.stays a.faces in
    let w = all_passed (ReadsRegions rows) a.next.deed.after a.next.behind a.later (map list_turn (asked_again from.facts (pdus.Result result ∷ one.lists))) one.lists c.rest rest (p.back ++ more) (lists_quiet (asked_again from.facts (pdus.Result result ∷ one.lists))) c.fit c.replies z in (
      a.next,
      each_answered rows samples a.next.deed.after a.next.behind a.later a.next.later extra next later_turns later after p.back requests more
          (few_still from next _ one.becomes refl few) sampled.7 p.second a.moments w,
    )
