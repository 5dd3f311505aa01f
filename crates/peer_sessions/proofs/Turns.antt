-- A client's turns beside what a session serves: one PDU for each turn, and its reply.
use Rattle.std.proofs.Common.{false, ◌≡◌, ℕ, ◌<◌, ◌≤◌, List, [], ◌∷◌, ◌++◌, length, Option, Some, refl, sym, ap, ◌∙◌, subst, append_assoc, arith, length-append}
use Rattle.std.specs.List.{AllByRecursion}
use Rattle.std.proofs.lemmas.List.{append-nil}
use Rattle.pcp_base.specs.Time.{Moment}
use Rattle.pdu_stream.specs.Streams.{bytes_of_pdus}
use Rattle.pdu_stream.specs.Streams.{IsPdu as IsWhole}
use Rattle.pdu_codec.specs.declared.pdu.Pdu.{Pdu}
use Rattle.pdu_codec.specs.Types.{type_of}
use Rattle.pdu_codec.specs.Spelling.{all_bytes, pdu_bytes, pdu_length}
use Rattle.pmcd_session.specs.declared.standing.Standing.{Standing}
use Rattle.pmcd_session.specs.Replies.{bounded_reply, reply_bytes}
use Rattle.pmcd_session.specs.Serving.{Deed, Deeds, Does, DoesAll, ReadsBy, written_of}
use Rattle.pmcd_session.specs.Sessions.{is_fetch}
use Rattle.pmcd_session.proofs.Deeds.{none_done, one_more}
use Rattle.pmcd_client.specs.Bytes.{AreReplies, turn_bytes, turns_bytes}
use Rattle.pmcd_client.specs.Turns.{Answers, Turn, requests_of}
use Rattle.peer_sessions.proofs.Spelled.{same_front}
use Rattle.peer_sessions.proofs.Served.{IsOpen, IsQuiet, quiet_no_fetch, quiet_reply, small_reply, still_open}

-- From here on the PDUs that a session serves are those at the front of these requests, and what it writes begins with these
-- replies.
pub record Faces {A : Type 0} (reads : ReadsBy A) (s : Standing A) (pdus : List (List ℕ)) (d : Deeds A) (requests replies : List ℕ) : Type 0 where
  pub does : DoesAll reads s pdus d
  pub whole : AllByRecursion IsWhole pdus
  pub rest : List ℕ
  pub asked : bytes_of_pdus pdus ++ rest ≡ requests
  pub unread : List ℕ
  pub told : d.written ≡ replies ++ unread

-- ---- the next request

-- it was served
pub record ServesNext {A : Type 0} (reads : ReadsBy A) (s : Standing A) (pdus : List (List ℕ)) (d : Deeds A) (p : Pdu) (requests replies : List ℕ) : Type 0 where
  pub behind : List (List ℕ)
  pub are : pdus ≡ pdu_bytes p ∷ behind
  pub deed : Deed A
  pub later : Deeds A
  pub does : Does reads s (pdu_bytes p) deed
  pub does_later : DoesAll reads deed.after behind later
  pub whole : AllByRecursion IsWhole behind
  pub rest : List ℕ
  pub asked : bytes_of_pdus behind ++ rest ≡ requests
  pub moments : d.moments ≡ deed.moments ++ later.moments
  pub unread : List ℕ
  pub told : written_of deed.reply ++ later.written ≡ replies ++ unread

some_written : (first more unread : List ℕ) → 0 < length first → [] ≡ (first ++ more) ++ unread → ⊥
some_written first more unread some e =
    let none : 0 ≡ length ((first ++ more) ++ unread) = ap (λ (t : List ℕ). length t) e in
    omega (arith, length-append (first ++ more) unread, length-append first more)

pub serves_next : {A : Type 0} (reads : ReadsBy A) (s : Standing A) (pdus : List (List ℕ)) (d : Deeds A) (p : Pdu) (requests first more : List ℕ) → pdu_length p < 4294967296 → 0 < length first
    → Faces reads s pdus d (pdu_bytes p ++ requests) (first ++ more) → ServesNext reads s pdus d p requests (first ++ more)
unfolding DoesAll
serves_next {A = A} reads s [] d p requests first more few some f = absurd (some_written first more f.unread some (sym (ap (λ (e : Deeds A). e.written) f.does) ∙ f.told))
serves_next {A = A} reads s (q ∷ qs) d p requests first more few some f =
    let flat : q ++ (bytes_of_pdus qs ++ f.rest) ≡ pdu_bytes p ++ requests = sym (append_assoc q (bytes_of_pdus qs) f.rest) ∙ f.asked in
    let same = same_front q (bytes_of_pdus qs ++ f.rest) requests p f.whole.0 few flat in
    let h = f.does in
    record {
      behind = qs;
      are = ap (λ (t : List ℕ). t ∷ qs) same.0;
      deed = h.0;
      later = h.1;
      does = subst (λ (t : List ℕ). Does reads s t h.0) same.0 h.2;
      does_later = h.3;
      whole = f.whole.1;
      rest = f.rest;
      asked = same.1;
      moments = ap (λ (e : Deeds A). e.moments) h.4;
      unread = f.unread;
      told = sym (ap (λ (e : Deeds A). e.written) h.4) ∙ f.told;
    }

-- and it was replied to: the reply is what was taken first
pub record RepliesNext {A : Type 0} (reads : ReadsBy A) (requests first more : List ℕ) (deed : Deed A) (behind : List (List ℕ)) (later : Deeds A) (reply : Pdu) : Type 0 where
  pub is : first ≡ reply_bytes reply
  pub faces : Faces reads deed.after behind later requests more

pub replied_next : {A : Type 0} (reads : ReadsBy A) (s : Standing A) (pdus : List (List ℕ)) (d : Deeds A) (p : Pdu) (requests first more : List ℕ) (n : ServesNext reads s pdus d p requests (first ++ more)) (reply : Pdu)
    → IsWhole first → n.deed.reply ≡ Some reply → RepliesNext reads requests first more n.deed n.behind n.later reply
replied_next reads s pdus d p requests first more n reply whole is =
    let small : pdu_length (bounded_reply reply) ≤ 65536 = small_reply reply in
    let flat : first ++ (more ++ n.unread) ≡ reply_bytes reply ++ n.later.written =
    sym (append_assoc first more n.unread) ∙ sym n.told ∙ ap (λ (o : Option Pdu). written_of o ++ n.later.written) is in
    let same = same_front first (more ++ n.unread) n.later.written (bounded_reply reply) whole (omega arith) flat in
    record {
      is = same.0;
      faces = record { does = n.does_later; whole = n.whole; rest = n.rest; asked = n.asked; unread = n.unread; told = sym same.1 };
    }

-- ---- turns whose replies take no moment

-- such turns were served, behind the place where a session stood
pub record Passed {A : Type 0} (reads : ReadsBy A) (s : Standing A) (pdus : List (List ℕ)) (d : Deeds A) (requests replies : List ℕ) : Type 0 where
  pub before : List (List ℕ)
  pub behind : List (List ℕ)
  pub are : pdus ≡ before ++ behind
  pub no_fetch : AllByRecursion (λ pdu. is_fetch pdu ≡ false) before
  pub between : Standing A
  pub written : List ℕ
  pub does : DoesAll reads s before (record { moments = []; written = written; after = between })
  pub stays : IsOpen between
  pub later : Deeds A
  pub moments : d.moments ≡ later.moments
  pub faces : Faces reads between behind later requests replies

pub none_passed : {A : Type 0} (reads : ReadsBy A) (s : Standing A) (pdus : List (List ℕ)) (d : Deeds A) (requests replies : List ℕ) → IsOpen s → Faces reads s pdus d requests replies → Passed reads s pdus d requests replies
none_passed reads s pdus d requests replies o f = record {
  before = [];
  behind = pdus;
  are = refl;
  no_fetch = tt;
  between = s;
  written = [];
  does = none_done reads s;
  stays = o;
  later = d;
  moments = refl;
  faces = f;
}

none_more : (before : List (List ℕ)) (pdu : List ℕ) → AllByRecursion (λ p. is_fetch p ≡ false) before → is_fetch pdu ≡ false → AllByRecursion (λ p. is_fetch p ≡ false) (before ++ pdu ∷ [])
none_more [] pdu none other = (other, tt)
none_more (p ∷ before) pdu none other = (none.0, none_more before pdu none.1 other)

-- one PDU more, which took no moment
more_passed : {A : Type 0} (reads : ReadsBy A) (s : Standing A) (pdus : List (List ℕ)) (d : Deeds A) (p : Pdu) (requests more asked told : List ℕ)
    → (x : Passed reads s pdus d asked told) (n : ServesNext reads x.between x.behind x.later p requests told) → is_fetch (pdu_bytes p) ≡ false → n.deed.moments ≡ [] → IsOpen n.deed.after
    → Faces reads n.deed.after n.behind n.later requests more → Passed reads s pdus d requests more
more_passed reads s pdus d p requests more asked told x n other quiet still f = record {
  before = x.before ++ pdu_bytes p ∷ [];
  behind = n.behind;
  are = x.are ∙ ap (λ (l : List (List ℕ)). x.before ++ l) n.are ∙ sym (append_assoc x.before (pdu_bytes p ∷ []) n.behind);
  no_fetch = none_more x.before (pdu_bytes p) x.no_fetch other;
  between = n.deed.after;
  written = x.written ++ written_of n.deed.reply;
  does = subst (λ (m : List Moment). DoesAll reads s (x.before ++ pdu_bytes p ∷ []) (record { moments = m; written = x.written ++ written_of n.deed.reply; after = n.deed.after })) quiet
      (one_more reads s x.before (pdu_bytes p) (record { moments = []; written = x.written; after = x.between }) n.deed x.does n.does);
  stays = still;
  later = n.later;
  moments = x.moments ∙ n.moments ∙ ap (λ (m : List Moment). m ++ n.later.moments) quiet;
  faces = f;
}

-- a turn with one request of this kind
pub record IsQuietTurn (turn : Turn) : Type 0 where
  pub request : Pdu
  pub quiet : IsQuiet (type_of request)
  pub only : requests_of turn ≡ request ∷ []
  pub few : pdu_length request < 4294967296

pub one_passed : {A : Type 0} (reads : ReadsBy A) (s : Standing A) (pdus : List (List ℕ)) (d : Deeds A) (request : Pdu) (requests first more : List ℕ) → IsQuiet (type_of request) → pdu_length request < 4294967296 → IsWhole first
    → Passed reads s pdus d (pdu_bytes request ++ requests) (first ++ more) → Passed reads s pdus d requests more
one_passed reads s pdus d request requests first more quiet few whole x =
    let least : 12 ≤ length first = whole.least in
    let n = serves_next reads x.between x.behind x.later request requests first more few (omega arith) x.faces in
    let r = quiet_reply reads x.between request n.deed quiet x.stays n.does in
    let next = replied_next reads x.between x.behind x.later request requests first more n r.replies.reply whole r.replies.is in
    more_passed reads s pdus d request requests more (pdu_bytes request ++ requests) (first ++ more) x n (quiet_no_fetch request quiet) r.quiet (still_open x.between n.deed.after x.stays r.replies.rest) next.faces

no_turn : (turn : Turn) (turns : List Turn) → [] ≡ turn ∷ turns → ⊥
no_turn turn turns e = absurd cc

pub all_passed : {A : Type 0} (reads : ReadsBy A) (s : Standing A) (pdus : List (List ℕ)) (d : Deeds A) (turns : List Turn) (answers : List Pdu) (taken requests more : List ℕ)
    → AllByRecursion IsQuietTurn turns → Answers turns answers [] → AreReplies taken answers
    → Passed reads s pdus d (turns_bytes turns ++ requests) (taken ++ more) → Passed reads s pdus d requests more
all_passed reads s pdus d [] [] taken requests more quiet fit are x = subst (λ (t : List ℕ). Passed reads s pdus d requests (t ++ more)) are x
all_passed reads s pdus d [] (a ∷ answers) taken requests more quiet fit are x = absurd fit
all_passed reads s pdus d (turn ∷ turns) [] taken requests more quiet fit are x = absurd (no_turn turn turns fit)
all_passed reads s pdus d (turn ∷ turns) (a ∷ answers) taken requests more quiet fit are x =
    let q = quiet.0 in
    let first : List ℕ = are.0 in
    let later : List ℕ = are.1 in
    let behind : List ℕ = turns_bytes turns ++ requests in
    let bytes : turn_bytes turn ≡ pdu_bytes q.request = ap (λ (l : List Pdu). all_bytes pdu_bytes l) q.only ∙ append-nil (pdu_bytes q.request) in
    let asked : turns_bytes (turn ∷ turns) ++ requests ≡ pdu_bytes q.request ++ behind = append_assoc (turn_bytes turn) (turns_bytes turns) requests ∙ ap (λ (t : List ℕ). t ++ behind) bytes in
    let told : taken ++ more ≡ first ++ (later ++ more) = ap (λ (t : List ℕ). t ++ more) are.2 ∙ append_assoc first later more in
    let y = subst (λ (t : List ℕ). Passed reads s pdus d (pdu_bytes q.request ++ behind) t) told (subst (λ (t : List ℕ). Passed reads s pdus d t (taken ++ more)) asked x) in
    let z = one_passed reads s pdus d q.request behind first (later ++ more) q.quiet q.few are.3.whole y in
    all_passed reads s pdus d turns answers later requests more quiet.1 fit.1 are.4 z
