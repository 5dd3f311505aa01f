-- A result that is turned away ends its line, and never as one of too many metrics.
use Rattle.std.proofs.Common.{◌≡◌, ℕ, [], Some, refl, subst}
use Rattle.pcp_base.specs.Time.{Moment}
use Rattle.pcp_base.specs.declared.file.FileId.TheVariants as files
use Rattle.pcp_model.specs.Disk.{Files}
use Rattle.logger_core.specs.declared.fault.LogFault.{LogFault}
use Rattle.logger_core.specs.declared.fault.LogFault.TheVariants as faults
use Rattle.logging_session.specs.Events.{opening}
use Rattle.run_script.specs.declared.script.Line.{Line}
use Rattle.run_script.specs.declared.script.Script.{Script}
use Rattle.script_runs.specs.declared.ending.Ending.{Ending}
use Rattle.script_runs.specs.declared.ending.Ending.TheVariants as ends
use Rattle.script_runs.specs.declared.ending.LimitKind.TheVariants as kinds
use Rattle.script_runs.specs.Archives.{IsTurnedAway, ending_of}
use Rattle.script_runs.specs.Runs.{EndsLine, LineDoes, Shows, TurnsAway, shown}
use Rattle.script_runs.specs.Steps.{RunState}

-- what holds of each ending that a refusal has
pub by_refusal : (P : Ending → Type 0) → ((bytes : ℕ) → P (ends.Limit kinds.Record bytes)) → ((bytes : ℕ) → P (ends.Limit kinds.Meta bytes)) → ((bytes : ℕ) → P (ends.Limit kinds.Index bytes)) → ((bytes : ℕ) → P (ends.Limit kinds.Volume bytes))
    → ((last : Moment) → P (ends.NotLater last)) → ((pmid : ℕ) → P (ends.Changed pmid)) → (fault : LogFault) (ending : Ending) → ending_of fault ≡ Some ending → P ending
by_refusal P large meta index volume later changed (faults.Large bytes) ending is = let e : ends.Limit kinds.Record bytes ≡ ending = cc in subst P e (large bytes)
by_refusal P large meta index volume later changed (faults.NotLater last) ending is = let e : ends.NotLater last ≡ ending = cc in subst P e (later last)
by_refusal P large meta index volume later changed (faults.Changed pmid) ending is = let e : ends.Changed pmid ≡ ending = cc in subst P e (changed pmid)
by_refusal P large meta index volume later changed (faults.Full files.Meta bytes) ending is = let e : ends.Limit kinds.Meta bytes ≡ ending = cc in subst P e (meta bytes)
by_refusal P large meta index volume later changed (faults.Full files.Index bytes) ending is = let e : ends.Limit kinds.Index bytes ≡ ending = cc in subst P e (index bytes)
by_refusal P large meta index volume later changed (faults.Full (files.Volume n) bytes) ending is = let e : ends.Limit kinds.Volume bytes ≡ ending = cc in subst P e (volume bytes)
by_refusal P large meta index volume later changed faults.Closed ending is = absurd cc
by_refusal P large meta index volume later changed (faults.Live number) ending is = absurd cc
by_refusal P large meta index volume later changed faults.NoMemory ending is = absurd cc
by_refusal P large meta index volume later changed faults.DiskFault ending is = absurd cc

module _ (script : Script) (limit : ℕ) (left : Files) (s : RunState) (line : Line) (x : Shows script s line) where
  -- as far as lines tell
  pub turned_ends : (number : ℕ) (ending : Ending) → IsTurnedAway limit left s.events (shown x) ending → EndsLine script s number line ending
  turned_ends number ending away =
      by_refusal (λ (e : Ending). EndsLine script s number line e) (λ bytes. x) (λ bytes. x) (λ bytes. x) (λ bytes. x) (λ last. x) (λ pmid. x) away.fault ending away.ends

  -- and over files
  pub turned_does : (ending : Ending) → IsTurnedAway limit left s.events (shown x) ending → LineDoes script limit left s line ending (opening x.now s.events) []
  turned_does ending away =
      let does = λ (e : Ending). TurnsAway script limit left s line e (opening x.now s.events) [] → LineDoes script limit left s line e (opening x.now s.events) [] in
      by_refusal does (λ bytes t. t) (λ bytes t. t) (λ bytes t. t) (λ bytes t. t) (λ last t. t) (λ pmid t. t) away.fault ending away.ends (x, away, refl, refl)

  -- too many metrics aren't asked for
  pub not_too_many : (number : ℕ) → IsTurnedAway limit left s.events (shown x) (ends.Limit kinds.Sets number) → ⊥
  not_too_many number away =
      let other = λ (e : Ending). e ≡ ends.Limit kinds.Sets number → ⊥ in
      by_refusal other (λ bytes is. absurd cc) (λ bytes is. absurd cc) (λ bytes is. absurd cc) (λ bytes is. absurd cc) (λ last is. absurd cc) (λ pmid is. absurd cc) away.fault (ends.Limit kinds.Sets number) away.ends refl
