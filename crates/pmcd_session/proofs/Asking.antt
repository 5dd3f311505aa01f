-- What is asked and what is done with it, or why it isn't served.
use Rattle.std.proofs.Common.{◌≡◌, ℕ, Bool, List, [], Option, Some, refl, sym, ap, ◌∙◌, subst}
use Rattle.std.specs.Prelude.{IfErr, IsErrOf, IfSome, Result, Ok, Err}
use Rattle.std.proofs.lemmas.List.{append-nil}
use Rattle.pcp_base.specs.Time.{Moment}
use Rattle.pcp_outside.specs.declared.doors.SessionEnd.{SessionEnd}
use Rattle.pcp_outside.specs.declared.doors.SessionEnd.TheVariants as ends
use Rattle.pdu_codec.specs.declared.pdu.Pdu.{Pdu}
use Rattle.pdu_codec.specs.Spelling.{IsWritable}
use Rattle.pmcd_session.specs.declared.halt.Halt.{Halt}
use Rattle.pmcd_session.specs.declared.halt.Halt.TheVariants as halts
use Rattle.pmcd_session.specs.declared.standing.Standing.{Standing}
use Rattle.pmcd_session.specs.Clocking.{HasMomentFor}
use Rattle.pmcd_session.specs.Pieces.{IsDone, IsSendEnd, ServesOne, WritesIn, end_of}
use Rattle.pmcd_session.specs.Replies.{reply_bytes}
use Rattle.pmcd_session.specs.Serving.{Asks, Deed, Does, DoesIf, GoesOn, Halts, ReadsBy, needs_moment, written_of}
use Rattle.pmcd_session.proofs.Taking.{takes}
use Rattle.pmcd_session.proofs.Writable.{reply_writable}

-- the clock gave no moment for a fetch
pub clock_halts : {A : Type 0} (loads : A → A → Type 0) (s : Standing A) (pdu : List ℕ) (asked : Option Pdu) (tells : Type 0) (left : List Moment) (before after : ℕ) (needed : Bool) (halt : Halt) → Asks pdu asked
    → needed ≡ needs_moment s.is_met asked → HasMomentFor tells left before after needed (Err halt) → Halts loads s pdu [] s halt
clock_halts loads s pdu asked tells left before after needed halts.ClockEnd asks is h = (refl, record { request = asked; asks = asks; needs = sym is ∙ h.0 }, refl)
clock_halts loads s pdu asked tells left before after needed halts.ClockFault asks is h = (refl, record { request = asked; asks = asks; needs = sym is ∙ h.0 }, refl)
clock_halts loads s pdu asked tells left before after needed halts.NoMemory asks is h = absurd h

-- what was asked was done
pub does_asked : {A : Type 0} (reads : ReadsBy A) (s : Standing A) (pdu : List ℕ) (asked : Option Pdu) (d : Deed A) → Asks pdu asked → DoesIf reads s s.is_met asked d → Does reads s pdu d
unfolding Does
does_asked reads s pdu asked d asks done = (asked, asks, done)

-- and its reply can be written
writable_if : {A : Type 0} (reads : ReadsBy A) (s : Standing A) (pdu : List ℕ) (d : Deed A) → Does reads s pdu d → IfSome d.reply IsWritable
unfolding Does
writable_if reads s pdu d h = reply_writable reads s s.is_met h.0 d h.2

pub writable : {A : Type 0} (reads : ReadsBy A) (s after : Standing A) (pdu : List ℕ) (moments : List Moment) (o : Option Pdu) (reply : Pdu) → o ≡ Some reply
    → Does reads s pdu (record { moments = moments; reply = o; after = after }) → IsWritable reply
writable {A = A} reads s after pdu moments o reply is does =
    subst (λ (p : Option Pdu). IfSome p IsWritable) is (writable_if reads s pdu (record { moments = moments; reply = o; after = after }) does)

-- why a PDU wasn't served ends the session
pub halt_ends : {A : Type 0} (reads : ReadsBy A) (loads : A → A → Type 0) (s after : Standing A) (pdu : List ℕ) (moments : List Moment) (halt : Halt) (end : SessionEnd) → end ≡ end_of halt
    → Halts loads s pdu moments after halt → ServesOne {T = Unit {0}} reads loads s pdu moments [] after (Err end)
halt_ends {A = A} reads loads s after pdu moments halt end is h = subst (λ (e : SessionEnd). ServesOne {T = Unit {0}} reads loads s pdu moments [] after (Err e)) (sym is) (by_halt halt h)
  where
    by_halt : (k : Halt) → Halts loads s pdu moments after k → ServesOne {T = Unit {0}} reads loads s pdu moments [] after (Err (end_of k))
    by_halt halts.ClockEnd h = (refl, h.0, h.1, h.2)
    by_halt halts.ClockFault h = (refl, h.0, h.1, h.2)
    by_halt halts.NoMemory h = (refl, h.0, h.1)

-- the bytes that were to be written: none where memory was refused for them
abbrev pub bytes_for : Result (Unit {0}) SessionEnd → List ℕ → List ℕ
bytes_for (Ok done) bytes = bytes
bytes_for (Err ends.WriteFault) bytes = bytes
bytes_for (Err end) bytes = []

pub sent_written : (r : Result (Unit {0}) SessionEnd) (before after bytes : List ℕ) → IfErr r IsSendEnd → WritesIn r before after bytes → (IsErrOf r ends.NoMemory → after ≡ before) → WritesIn r before after (bytes_for r bytes)
sent_written (Ok done) before after bytes s w n = w
sent_written (Err ends.WriteFault) before after bytes s w n = w
sent_written (Err ends.NoMemory) before after bytes s w n = ([], [], n refl ∙ sym (append-nil before), refl)
sent_written (Err ends.Closed) before after bytes s w n = absurd s
sent_written (Err (ends.Torn k)) before after bytes s w n = absurd s
sent_written (Err (ends.BadLength k)) before after bytes s w n = absurd s
sent_written (Err ends.ReadFault) before after bytes s w n = absurd s
sent_written (Err ends.ClockFault) before after bytes s w n = absurd s
sent_written (Err ends.ClockEnd) before after bytes s w n = absurd s
sent_written (Err ends.Spent) before after bytes s w n = absurd s

-- a PDU was done, and its reply was written, or the session ended by that
pub sent_serves : {A : Type 0} (reads : ReadsBy A) (loads : A → A → Type 0) (s after : Standing A) (pdu : List ℕ) (moments : List Moment) (o : Option Pdu) (reply : Pdu) (r : Result (Unit {0}) SessionEnd) → o ≡ Some reply
    → Does reads s pdu (record { moments = moments; reply = o; after = after }) → GoesOn loads s after → IfErr r IsSendEnd → ServesOne reads loads s pdu moments (bytes_for r (reply_bytes reply)) after r
sent_serves {A = A} reads loads s after pdu moments o reply r is does on s_end = by_result r s_end
  where
    done : IsDone reads s pdu moments (reply_bytes reply) after
    done = (o, does, ap written_of (sym is))

    by_result : (e : Result (Unit {0}) SessionEnd) → IfErr e IsSendEnd → ServesOne reads loads s pdu moments (bytes_for e (reply_bytes reply)) after e
    by_result (Ok x) h = done
    by_result (Err ends.WriteFault) h = (reply, subst (λ (p : Option Pdu). Does reads s pdu (record { moments = moments; reply = p; after = after })) is does, refl)
    by_result (Err ends.NoMemory) h = (refl, takes reads s pdu (record { moments = moments; reply = o; after = after }) does, on)
    by_result (Err ends.Closed) h = absurd h
    by_result (Err (ends.Torn k)) h = absurd h
    by_result (Err (ends.BadLength k)) h = absurd h
    by_result (Err ends.ReadFault) h = absurd h
    by_result (Err ends.ClockFault) h = absurd h
    by_result (Err ends.ClockEnd) h = absurd h
    by_result (Err ends.Spent) h = absurd h
