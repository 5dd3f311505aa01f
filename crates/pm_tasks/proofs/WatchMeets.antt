-- `watch` with rules that were read meets its meaning; its text goes on behind what was sent.
use Rattle.std.proofs.Common.{◌≡◌, inl, inr, ⊎_elim, ℕ, Bool, List, ap, None, Result, Ok, Err, IfOk, IfErr, OnErr, OnOk}
use Rattle.pcp_base.specs.Time.{Moment}
use Rattle.pcp_outside.specs.declared.disk.Disk.{Ghosts as DiskGhosts}
use Rattle.pcp_outside.specs.Sides.{SinkSide}
use Rattle.archive_loading.specs.Looks.{Looks}
use Rattle.rule_watch.specs.declared.rule.Rule.{Rule}
use Rattle.rule_watch.specs.Reading.{rules_of}
use Rattle.pm_words.specs.declared.refusal.Refusal.{Refusal}
use Rattle.pm_words.specs.Inputs.{rules_refusal}
use Rattle.pm_words.specs.Serving.{MeetsSending}
use Rattle.pm_words.specs.Sides.{disk_side}
use Rattle.pm_tasks.specs.Archives.{TurnedAway, takes_any}
use Rattle.pm_tasks.specs.commands.dump.{IsTurnedAway}
use Rattle.pm_tasks.specs.commands.watch.{HasSaid, HasStopped, IsFrontOutput, IsOutput, refuses, watch}
use Rattle.pm_tasks.proofs.Lookings.{look_done, look_stopped, watch_fits}
use Rattle.pm_tasks.proofs.ReadFirst.{meets_by}

module _ {D : Type 0} (g : DiskGhosts D) (from to : Moment) (input : List ℕ) (rules : List Rule) (read : rules_of input ≡ Ok rules) where
  pub watch_meets : (k : SinkSide) (failed : Bool) (a b : D) (result : Result (List ℕ) Refusal) → Looks g a b → OnOk result (g.faults b ≡ g.faults a) → IfOk result (HasSaid from to rules k failed (disk_side g a b))
      → OnErr result (HasStopped from to rules k failed (disk_side g a b)) → IfErr result (TurnedAway IsTurnedAway (disk_side g a b)) → MeetsSending k failed (watch from to) input g a b None result
  watch_meets k failed a b (Ok text) looked quiet has stopped away = (
    has.front,
    has.sent,
    meets_by refuses IsTurnedAway (IsOutput from to) (IsFrontOutput from to) takes_any g input a b has.front (Ok text) (ap rules_refusal read)
        (look_done IsTurnedAway (IsOutput from to input) (IsFrontOutput from to input) takes_any (watch_fits from to input) g input a b looked (λ tells. tt) has.front text quiet (λ tells. (rules, read, has.whole tells))),
  )
  watch_meets k failed a b (Err e) looked quiet has stopped away = (
    stopped.front,
    stopped.sent,
    meets_by refuses IsTurnedAway (IsOutput from to) (IsFrontOutput from to) takes_any g input a b stopped.front (Err e) (ap rules_refusal read)
        (look_stopped IsTurnedAway (IsOutput from to input) (IsFrontOutput from to input) takes_any (watch_fits from to input) g input a b looked (λ tells. tt) stopped.front e away
        (λ tells. ⊎_elim (λ none. inl none) (λ some. inr (rules, read, some)) (stopped.so_far tells))),
  )
