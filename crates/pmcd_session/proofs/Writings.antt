-- What was written, one piece behind another.
use Rattle.std.proofs.Common.{◌≡◌, ℕ, Bool, true, false, ◌==◌, if◌then◌else◌, List, [], ◌∷◌, ◌++◌, Option, Some, None, refl, sym, ap, ◌∙◌, subst, append_assoc}
use Rattle.std.specs.Prelude.{IfErr, Result, Ok, Err}
use Rattle.std.proofs.lemmas.List.{append-nil}
use Rattle.pcp_outside.specs.declared.doors.SessionEnd.{SessionEnd}
use Rattle.pcp_outside.specs.declared.doors.SessionEnd.TheVariants as ends
use Rattle.pcp_base.specs.Time.{Moment}
use Rattle.pdu_codec.specs.declared.pdu.Pdu.{Pdu}
use Rattle.pmcd_session.specs.declared.halt.Halt.{Halt}
use Rattle.pmcd_session.specs.declared.halt.Halt.TheVariants as halts
use Rattle.pmcd_session.specs.declared.standing.Standing.{Standing}
use Rattle.pmcd_session.specs.Going.{end_of_input}
use Rattle.pmcd_session.specs.Pieces.{IsStreamEnd, WritesIn, end_of}
use Rattle.pmcd_session.specs.Replies.{greeting, reply_bytes}
use Rattle.pmcd_session.specs.Serving.{Deed, Deeds, DoesAll, ReadsBy, written_of}
use Rattle.pmcd_session.specs.Sessions.{BreaksOff, Served, WritesBy, bytes_of_replies, session_start}

-- the sink isn't why
abbrev pub IsNoWriteFault : SessionEnd → Type 0
IsNoWriteFault ends.WriteFault = ⊥
IsNoWriteFault end = Unit {0}

pub stream_end_other : (end : SessionEnd) → IsStreamEnd end → IsNoWriteFault end
stream_end_other ends.WriteFault h = h
stream_end_other ends.NoMemory h = tt
stream_end_other ends.Closed h = tt
stream_end_other (ends.Torn n) h = tt
stream_end_other (ends.BadLength found) h = tt
stream_end_other ends.ReadFault h = tt
stream_end_other ends.ClockFault h = tt
stream_end_other ends.ClockEnd h = tt
stream_end_other ends.Spent h = tt

pub halt_other : (halt : Halt) (end : SessionEnd) → end ≡ end_of halt → IsNoWriteFault end
halt_other halt end is = subst IsNoWriteFault (sym is) (by_halt halt)
  where
    by_halt : (k : Halt) → IsNoWriteFault (end_of k)
    by_halt halts.ClockEnd = tt
    by_halt halts.ClockFault = tt
    by_halt halts.NoMemory = tt

pub input_end_other : (pending : ℕ) (end : SessionEnd) → end ≡ end_of_input pending → IsNoWriteFault end
input_end_other pending end is = subst IsNoWriteFault (sym is) (by_test (pending == 0))
  where
    by_test : (b : Bool) → IsNoWriteFault (if b then ends.Closed else ends.Torn pending)
    by_test true = tt
    by_test false = tt

-- all bytes were written
pub all_written : (end : SessionEnd) (before after bytes : List ℕ) → IsNoWriteFault end → after ≡ before ++ bytes → WritesBy end before after bytes
all_written ends.WriteFault before after bytes other e = absurd other
all_written ends.NoMemory before after bytes other e = (bytes, [], e, sym (append-nil bytes))
all_written ends.Closed before after bytes other e = e
all_written (ends.Torn n) before after bytes other e = e
all_written (ends.BadLength found) before after bytes other e = e
all_written ends.ReadFault before after bytes other e = e
all_written ends.ClockFault before after bytes other e = e
all_written ends.ClockEnd before after bytes other e = e
all_written ends.Spent before after bytes other e = e

pub all_in : {T : Type 0} (r : Result T SessionEnd) (before after bytes : List ℕ) → IfErr r IsStreamEnd → after ≡ before ++ bytes → WritesIn r before after bytes
all_in (Ok done) before after bytes h e = e
all_in (Err end) before after bytes h e = all_written end before after bytes (stream_end_other end h) e

-- there was nothing to write
pub none_written : (end : SessionEnd) (written : List ℕ) → IsNoWriteFault end → WritesBy end written written []
none_written end written other = all_written end written written [] other (sym (append-nil written))

-- bytes that are whole replies
abbrev pub AreReplies : List ℕ → Type 0
AreReplies bytes = (replies : List Pdu) × (bytes ≡ bytes_of_replies replies)

joined_replies : (xs ys : List Pdu) → bytes_of_replies (xs ++ ys) ≡ bytes_of_replies xs ++ bytes_of_replies ys
joined_replies [] ys = refl
joined_replies (x ∷ xs) ys = ap (λ (t : List ℕ). reply_bytes x ++ t) (joined_replies xs ys) ∙ sym (append_assoc (reply_bytes x) (bytes_of_replies xs) (bytes_of_replies ys))

-- what is written of PDUs that are served are whole replies
pub replies_of : {A : Type 0} (reads : ReadsBy A) (s : Standing A) (pdus : List (List ℕ)) (d : Deeds A) → DoesAll reads s pdus d → AreReplies d.written
unfolding DoesAll
replies_of {A = A} reads s [] d done = ([], ap (λ (e : Deeds A). e.written) done)
replies_of {A = A} reads s (pdu ∷ rest) d h =
    let first : Deed A = h.0 in
    let later : Deeds A = h.1 in
    let more = replies_of reads first.after rest later h.3 in
    let all : d.written ≡ written_of first.reply ++ later.written = ap (λ (e : Deeds A). e.written) h.4 in
    by_reply first.reply later.written d.written more all
  where
    by_reply : (o : Option Pdu) (said written : List ℕ) → AreReplies said → written ≡ written_of o ++ said → AreReplies written
    by_reply None said written more all = (more.0, all ∙ more.1)
    by_reply (Some p) said written more all = (p ∷ more.0, all ∙ ap (λ (t : List ℕ). reply_bytes p ++ t) more.1)

-- with the greeting before them
pub served_replies : {A : Type 0} (reads : ReadsBy A) (first : A) (taken : List ℕ) (pdus : List (List ℕ)) (rest : List ℕ) (moments : List Moment) (bytes : List ℕ) (s : Standing A) → Served reads first taken pdus rest moments bytes s → AreReplies bytes
served_replies reads first taken pdus rest moments bytes s v =
    let more = replies_of reads (session_start first) pdus (record { moments = moments; written = v.replies; after = s }) v.does in
    (greeting ∷ more.0, v.is ∙ ap (λ (t : List ℕ). reply_bytes greeting ++ t) more.1)

pub exactly : (before between after first more : List ℕ) → between ≡ before ++ first → after ≡ between ++ more → after ≡ before ++ (first ++ more)
exactly before between after first more a b = b ∙ ap (λ (t : List ℕ). t ++ more) a ∙ append_assoc before first more

-- a last reply of which a front was written, behind whole replies
broken_behind : (before between after first more : List ℕ) → AreReplies first → between ≡ before ++ first → BreaksOff between after more → BreaksOff before after (first ++ more)
broken_behind before between after first more r a w =
    let sent : List ℕ = bytes_of_replies r.0 in
    let later : List ℕ = bytes_of_replies w.replies in
    let joined : bytes_of_replies (r.0 ++ w.replies) ≡ sent ++ later = joined_replies r.0 w.replies in
    record {
      replies = r.0 ++ w.replies;
      last = w.last;
      front = w.front;
      unwritten = w.unwritten;
      are =
          ap (λ (t : List ℕ). t ++ more) r.1 ∙ ap (λ (t : List ℕ). sent ++ t) w.are ∙ sym (append_assoc sent later (reply_bytes w.last))
          ∙ ap (λ (t : List ℕ). t ++ reply_bytes w.last) (sym joined);
      wrote =
          exactly before between after first (later ++ w.front) a w.wrote
          ∙ ap (λ (t : List ℕ). before ++ (t ++ (later ++ w.front))) r.1
          ∙ ap (λ (t : List ℕ). before ++ t) (sym (append_assoc sent later w.front))
          ∙ ap (λ (t : List ℕ). before ++ (t ++ w.front)) (sym joined);
      of_last = w.of_last;
    }

-- bytes of which a front was written, behind others
pub written_behind : (end : SessionEnd) (before between after first more : List ℕ) → AreReplies first → between ≡ before ++ first → WritesBy end between after more → WritesBy end before after (first ++ more)
written_behind ends.WriteFault before between after first more r a w = broken_behind before between after first more r a w
written_behind ends.NoMemory before between after first more r a w =
    (first ++ w.0, w.1, exactly before between after first w.0 a w.2, ap (λ (t : List ℕ). first ++ t) w.3 ∙ sym (append_assoc first w.0 w.1))
written_behind ends.Closed before between after first more r a w = exactly before between after first more a w
written_behind (ends.Torn n) before between after first more r a w = exactly before between after first more a w
written_behind (ends.BadLength found) before between after first more r a w = exactly before between after first more a w
written_behind ends.ReadFault before between after first more r a w = exactly before between after first more a w
written_behind ends.ClockFault before between after first more r a w = exactly before between after first more a w
written_behind ends.ClockEnd before between after first more r a w = exactly before between after first more a w
written_behind ends.Spent before between after first more r a w = exactly before between after first more a w

pub in_behind : {T : Type 0} (r : Result T SessionEnd) (before between after first more : List ℕ) → AreReplies first → between ≡ before ++ first → WritesIn r between after more → WritesIn r before after (first ++ more)
in_behind (Ok done) before between after first more r a w = exactly before between after first more a w
in_behind (Err end) before between after first more r a w = written_behind end before between after first more r a w
