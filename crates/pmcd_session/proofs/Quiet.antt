-- No call of an object has failed but the one that ends a session.
use Rattle.std.proofs.Common.{◌≡◌, ◌≢◌, ℕ, Result, Ok, Err, refl, ap, ◌∙◌}
use Rattle.std.specs.Prelude.{IfErr, OnOk}
use Rattle.pcp_outside.specs.declared.doors.SessionEnd.{SessionEnd}
use Rattle.pcp_outside.specs.declared.doors.SessionEnd.TheVariants as ends
use Rattle.pcp_outside.specs.Sides.{SourceSide, SinkSide, ClockSide}
use Rattle.pmcd_session.specs.declared.halt.Halt.{Halt}
use Rattle.pmcd_session.specs.declared.halt.Halt.TheVariants as halts
use Rattle.pmcd_session.specs.Pieces.{end_of, IsQuiet, IsSendEnd}
use Rattle.pmcd_session.specs.Sessions.{AllStand, OthersStand}

-- where no count rose
pub quiet_all : {T : Type 0} (r : Result T SessionEnd) (clock clock_now sink sink_now : ℕ) → clock_now ≡ clock → sink_now ≡ sink → IsQuiet r clock clock_now sink sink_now
quiet_all (Ok done) clock clock_now sink sink_now c s = (c, s)
quiet_all (Err end) clock clock_now sink sink_now c s = (λ other. c, λ other. s)

-- the clock gave no moment
pub halt_quiet : (T : Type 0) (end : SessionEnd) (halt : Halt) (clock clock_now sink : ℕ) → end ≡ end_of halt → (halt ≢ halts.ClockFault → clock_now ≡ clock) → IsQuiet {T = T} (Err end) clock clock_now sink sink
halt_quiet T end halts.ClockEnd clock clock_now sink is still = (λ other. still (λ e. cc), λ other. refl)
halt_quiet T end halts.ClockFault clock clock_now sink is still = (λ other. absurd (other is), λ other. refl)
halt_quiet T end halts.NoMemory clock clock_now sink is still = (λ other. still (λ e. cc), λ other. refl)

-- a reply was written, or not
pub sent_quiet : {T : Type 0} (r : Result T SessionEnd) (clock clock_now sink sink_now : ℕ) → clock_now ≡ clock → OnOk r (sink_now ≡ sink) → IfErr r (λ e. e ≢ ends.WriteFault → sink_now ≡ sink) → IsQuiet r clock clock_now sink sink_now
sent_quiet (Ok done) clock clock_now sink sink_now c quiet still = (c, quiet)
sent_quiet (Err end) clock clock_now sink sink_now c quiet still = (λ other. c, still)

-- one behind another
pub quiet_behind : {T : Type 0} (r : Result T SessionEnd) (clock clock_mid clock_now sink sink_mid sink_now : ℕ) → clock_mid ≡ clock → sink_mid ≡ sink → IsQuiet r clock_mid clock_now sink_mid sink_now → IsQuiet r clock clock_now sink sink_now
quiet_behind (Ok done) clock clock_mid clock_now sink sink_mid sink_now c s more = (more.0 ∙ c, more.1 ∙ s)
quiet_behind (Err end) clock clock_mid clock_now sink sink_mid sink_now c s more = (λ other. more.0 other ∙ c, λ other. more.1 other ∙ s)
