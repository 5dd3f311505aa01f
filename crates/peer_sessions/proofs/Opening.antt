-- What is said before the first fetch: the greeting, the names, the descriptions and the instances.
use Rattle.std.proofs.Common.{◌≡◌, ℕ, ◌+◌, ◌*◌, ◌<◌, ◌≤◌, Bool, true, false, cond, List, [], ◌∷◌, ◌++◌, length, map, Option, Some, None, refl, sym, ap, ◌∙◌, subst, append_assoc, arith, length-append}
use Rattle.std.specs.Prelude.{pos, All}
use Rattle.std.specs.List.{AllByRecursion}
use Rattle.std.proofs.lemmas.List.{append-nil, length-map}
use Rattle.pcp_base.specs.Time.{Moment}
use Rattle.pdu_stream.specs.Streams.{bytes_of_pdus}
use Rattle.pdu_stream.specs.Streams.{IsPdu as IsWhole}
use Rattle.pdu_codec.specs.declared.pdu.Pdu.{Pdu}
use Rattle.pdu_codec.specs.declared.pdu.Pdu.TheVariants as pdus
use Rattle.pdu_codec.specs.Bodies.{IsPdu}
use Rattle.pdu_codec.specs.Spelling.{all_lengths, pdu_bytes, pdu_length, text_length}
use Rattle.pdu_codec.proofs.Written.{written}
use Rattle.pmcd_session.specs.declared.standing.Standing.{Standing}
use Rattle.pmcd_session.specs.Replies.{greeting}
use Rattle.pmcd_session.specs.Serving.{Deeds, DoesAll, ReadsBy, written_of}
use Rattle.pmcd_session.specs.Sessions.{session_start}
use Rattle.pmcd_session.proofs.Deeds.{none_done, one_more}
use Rattle.pmcd_client.specs.Bytes.{AreReplies, turns_bytes}
use Rattle.pmcd_client.specs.Replies.{descs_in, domains_described, has_metric, metrics_behind, metrics_named, opened, pmids_in, with_metric}
use Rattle.pmcd_client.specs.Turns.{Answers, Turn, desc_turn, list_turn, opening}
use Rattle.pmcd_client.proofs.Sent.{few_names}
use Rattle.peer_sessions.proofs.Spelled.{same_front}
use Rattle.peer_sessions.proofs.Served.{creds_no_fetch, creds_reply}
use Rattle.peer_sessions.proofs.Turns.{Faces, IsQuietTurn, Passed, all_passed, one_passed, serves_next}
use Rattle.peer_sessions.proofs.Sampling.{lists_quiet}

-- ---- how many metrics names lead to

with_metric-length : (seen : List (ℕ × List ℕ)) (pmid : ℕ) (name : List ℕ) → length (with_metric seen pmid name) ≤ length seen + 1
with_metric-length seen pmid name = by_test (has_metric seen pmid)
  where
    by_test : (b : Bool) → length (cond b seen (seen ++ (pmid, name) ∷ [])) ≤ length seen + 1
    by_test true = omega arith
    by_test false = omega (arith, length-append seen ((pmid, name) ∷ []))

few_metrics : (seen : List (ℕ × List ℕ)) (pmids : List ℕ) (names : List (List ℕ)) → length (metrics_behind seen pmids names) ≤ length seen + length names
few_metrics seen [] names = omega arith
few_metrics seen (p ∷ pmids) [] = omega arith
few_metrics seen (p ∷ pmids) (n ∷ names) =
    let one = with_metric-length seen p n in
    let rest = few_metrics (with_metric seen p n) pmids names in
    omega arith

pub few_pmids : (names : List (List ℕ)) (replies : List Pdu) → length names ≤ 64 → length (opened names replies).pmids ≤ 64
few_pmids names replies few =
    let all = few_metrics [] (pmids_in replies) names in
    let same : length (map (λ (e : ℕ × List ℕ). e.0) (metrics_named (pmids_in replies) names)) ≡ length (metrics_named (pmids_in replies) names) = length-map (metrics_named (pmids_in replies) names) (λ e. e.0) in
    omega arith

-- ---- the turns behind the names

descs_quiet : (metrics : List (ℕ × List ℕ)) (turns : List Turn) → AllByRecursion IsQuietTurn turns → AllByRecursion IsQuietTurn (map desc_turn metrics ++ turns)
descs_quiet [] turns quiet = quiet
descs_quiet (m ∷ metrics) turns quiet = (record { request = pdus.DescReq m.0; quiet = tt; only = refl; few = omega arith }, descs_quiet metrics turns quiet)

abbrev behind_names : List (List ℕ) → List Pdu → List Turn
behind_names names replies = map desc_turn (metrics_named (pmids_in replies) names) ++ map list_turn (domains_described (descs_in replies))

behind_quiet : (names : List (List ℕ)) (replies : List Pdu) → AllByRecursion IsQuietTurn (behind_names names replies)
behind_quiet names replies = descs_quiet (metrics_named (pmids_in replies) names) (map list_turn (domains_described (descs_in replies))) (lists_quiet (domains_described (descs_in replies)))

-- ---- the first PDUs

creds_are : IsPdu (pdu_bytes pdus.Creds) pdus.Creds
creds_are = written pdus.Creds tt (omega arith)

no_replies : (turn : Turn) (turns : List Turn) → [] ≡ turn ∷ turns → ⊥
no_replies turn turns e = absurd cc

-- the client is known behind its first PDU
met : {A : Type 0} (reads : ReadsBy A) (agent : A) (served : List (List ℕ)) (d : Deeds A) (requests first more : List ℕ) → IsWhole first
    → Faces reads (session_start agent) served d (pdu_bytes pdus.Creds ++ requests) (first ++ more) → Passed reads (session_start agent) served d requests (first ++ more)
met {A = A} reads agent served d requests first more whole f =
    let least : 12 ≤ length first = whole.least in
    let start : Standing A = session_start agent in
    let n = serves_next reads start served d pdus.Creds requests first more (omega arith) (omega arith) f in
    let m = creds_reply reads start n.deed refl creds_are n.does in
    record {
      before = pdu_bytes pdus.Creds ∷ [];
      behind = n.behind;
      are = n.are;
      no_fetch = (creds_no_fetch, tt);
      between = n.deed.after;
      written = written_of n.deed.reply;
      does = subst (λ (l : List Moment). DoesAll reads start (pdu_bytes pdus.Creds ∷ []) (record { moments = l; written = written_of n.deed.reply; after = n.deed.after })) m.moments
          (one_more reads start [] (pdu_bytes pdus.Creds) (record { moments = []; written = []; after = start }) n.deed (none_done reads start) n.does);
      stays = record { met = m.met; contexts = m.contexts };
      later = n.later;
      moments = n.moments ∙ ap (λ (l : List Moment). l ++ n.later.moments) m.moments;
      faces = record {
        does = n.does_later;
        whole = n.whole;
        rest = n.rest;
        asked = n.asked;
        unread = n.unread;
        told = ap (λ (o : Option Pdu). written_of o ++ n.later.written) (sym m.silent) ∙ n.told;
      };
    }

-- the bytes of the first requests
opening_bytes : (names : List (List ℕ)) (turns : List Turn) (requests : List ℕ)
    → turns_bytes (None ∷ Some (pdus.PmnsNames (pos 0) names) ∷ turns) ++ requests ≡ pdu_bytes pdus.Creds ++ (pdu_bytes (pdus.PmnsNames (pos 0) names) ++ (turns_bytes turns ++ requests))
opening_bytes names turns requests =
    let creds : List ℕ = pdu_bytes pdus.Creds in
    let asked : List ℕ = pdu_bytes (pdus.PmnsNames (pos 0) names) in
    append_assoc (creds ++ (asked ++ [])) (turns_bytes turns) requests
    ∙ append_assoc creds (asked ++ []) (turns_bytes turns ++ requests)
    ∙ ap (λ (t : List ℕ). creds ++ (t ++ (turns_bytes turns ++ requests))) (append-nil asked)

names_room : (names : List (List ℕ)) → length names ≤ 64 → All (λ (n : List ℕ). length n ≤ 400) names → pdu_length (pdus.PmnsNames (pos 0) names) < 4294967296
names_room names few short =
    let all : all_lengths text_length names ≤ 407 * length names = few_names names short in
    omega arith

module _ {A : Type 0} (reads : ReadsBy A) (agent : A) (names : List (List ℕ)) (few : length names ≤ 64) (short : All (λ (n : List ℕ). length n ≤ 400) names)
    (served : List (List ℕ)) (d : Deeds A) (whole : AllByRecursion IsWhole served) (does : DoesAll reads (session_start agent) served d) (rest requests more unread : List ℕ) where
  -- behind the greeting the client and the session stand so
  greeted : (turns : List Turn) (taken first later : List ℕ) (g : Pdu) → IsWhole first → taken ≡ first ++ later → bytes_of_pdus served ++ rest ≡ turns_bytes (None ∷ turns) ++ requests
      → (taken ++ more) ++ unread ≡ pdu_bytes greeting ++ d.written → Faces reads (session_start agent) served d (turns_bytes (None ∷ turns) ++ requests) (later ++ more)
  greeted turns taken first later g is cut asked told =
      let flat : first ++ ((later ++ more) ++ unread) ≡ pdu_bytes greeting ++ d.written =
      sym (append_assoc first (later ++ more) unread) ∙ ap (λ (t : List ℕ). t ++ unread) (sym (append_assoc first later more) ∙ ap (λ (t : List ℕ). t ++ more) (sym cut)) ∙ told in
      let same = same_front first ((later ++ more) ++ unread) d.written greeting is (omega arith) flat in
      record { does = does; whole = whole; rest = rest; asked = asked; unread = unread; told = sym same.1 }

  pub all_opened : (replies : List Pdu) (taken : List ℕ) → Answers (opening names replies) replies [] → AreReplies taken replies
      → bytes_of_pdus served ++ rest ≡ turns_bytes (opening names replies) ++ requests → (taken ++ more) ++ unread ≡ pdu_bytes greeting ++ d.written
      → Passed reads (session_start agent) served d requests more
  all_opened [] taken fit are asked told = absurd (no_replies None (Some (pdus.PmnsNames (pos 0) names) ∷ behind_names names []) fit)
  all_opened (g ∷ []) taken fit are asked told = absurd (no_replies (Some (pdus.PmnsNames (pos 0) names)) (behind_names names (g ∷ [])) fit.1)
  all_opened (g ∷ r ∷ replies) taken fit are asked told =
      let turns : List Turn = behind_names names (g ∷ r ∷ replies) in
      let naming : Pdu = pdus.PmnsNames (pos 0) names in
      let t1 : List ℕ = are.1 in
      let second = are.4 in
      let first : List ℕ = second.0 in
      let later : List ℕ = second.1 in
      let behind : List ℕ = turns_bytes turns ++ requests in
      let f = greeted (Some naming ∷ turns) taken are.0 t1 g are.3.whole are.2 asked told in
      let cut : t1 ++ more ≡ first ++ (later ++ more) = ap (λ (t : List ℕ). t ++ more) second.2 ∙ append_assoc first later more in
      let f2 = subst (λ (t : List ℕ). Faces reads (session_start agent) served d (pdu_bytes pdus.Creds ++ (pdu_bytes naming ++ behind)) t) cut
      (subst (λ (t : List ℕ). Faces reads (session_start agent) served d t (t1 ++ more)) (opening_bytes names turns requests) f) in
      let x = met reads agent served d (pdu_bytes naming ++ behind) first (later ++ more) second.3.whole f2 in
      let y = one_passed reads (session_start agent) served d naming behind first (later ++ more) tt (names_room names few short) second.3.whole x in
      all_passed reads (session_start agent) served d turns replies later requests more (behind_quiet names (g ∷ r ∷ replies)) fit.1.1 second.4 y
