-- What a call has written in the end, of what went to the sink before and of how its end is told.
use Rattle.std.proofs.Common.{◌≡◌, inl, inr, ℕ, Bool, true, false, if◌then◌else◌, List, [], ◌++◌, append-nil, length, refl, ap, ◌∙◌, subst, Result, Ok, Err}
use Rattle.pcp_outside.specs.Sides.{SinkSide, sink_side}
use Rattle.pcp_outside.specs.declared.streams.Sink.{Ghosts as SinkGhosts}
use Rattle.pm_words.specs.declared.refusal.Refusal.{Refusal}
use Rattle.pm_words.specs.Refusals.{Wrote, line_of}
use Rattle.pm_words.specs.Streams.{IsSent}
use Rattle.pm_words.specs.Telling.{IsToldBy, TellsAll, TellsEnd}
use Rattle.pm_words.proofs.Sending.{front_taken, sent_on, told_behind, told_no_more}

module _ {O : Type 0} (g : SinkGhosts O) (a b c : O) (front : List ℕ) where
  finished : (text : List ℕ) (failed now : Bool) (status : ℕ) → IsSent (sink_side g a c) (front ++ text) now → status ≡ (if now then 4 else 0) → TellsAll (sink_side g a c) front (Ok text) status
  finished text failed false status sent is = inl (is, sent.quiet refl, sent.given)
  finished text failed true status sent is = inr (is, sent.given.0, λ tells. let m = sent.given.1 tells in (length m.0, m.2 ∙ ap (λ t. g.written a ++ t) (front_taken m.0 (front ++ text) m.1)))

  pub tells_all : (failed : Bool) (result : Result (List ℕ) Refusal) (status : ℕ) → IsSent (sink_side g a b) front failed → TellsEnd (sink_side g b c) failed result status → TellsAll (sink_side g a c) front result status
  tells_all failed (Ok text) status sent (now, sends, is) = finished text failed now status (sent_on g a b c front text failed now sent sends) is
  tells_all true (Err e) status sent (is, later, silent) = inl (
    is,
    λ tells.
        subst (λ t. Wrote (g.faults a) (g.faults c) (g.written a) (g.written c) (t ++ line_of e)) (append-nil front)
        (told_no_more (sink_side g a c) (front ++ []) (line_of e) (sent_on g a b c front [] true true sent (refl, later, silent)) tells),
  )
  tells_all false (Err e) status sent (inl (is, wrote)) = inl (is, λ tells. told_behind g a b c front _ tells sent (wrote tells))
  tells_all false (Err e) status sent (inr (is, some, silent)) = inr (is, some, λ tells. silent tells ∙ sent.given tells)

-- the status tells it
pub told_by : (k : SinkSide) (front : List ℕ) (result : Result (List ℕ) Refusal) (status : ℕ) → TellsAll k front result status → IsToldBy result status
told_by k front (Ok text) status (inl (is, quiet, told)) = inl is
told_by k front (Ok text) status (inr (is, rose, told)) = inr is
told_by k front (Err e) status (inl (is, told)) = inl is
told_by k front (Err e) status (inr (is, some, told)) = inr (is, some)
