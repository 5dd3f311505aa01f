-- The old volumes are emptied, and the logger goes on with what is left.
use Rattle.std.proofs.Common.{◌≤◌, ap, arith, refl}
use Rattle.logger_core.specs.Meant.{Kept}
use Rattle.logger_core.specs.Retiring.{IsRetiring, LeavesSome}
use Rattle.logger_core.proofs.Calls.{no_call, run_as}
use Rattle.logger_core.proofs.Emptied.{retires_all, retires_none, retires_some}
use Rattle.logger_core.proofs.logger.Logger.retire.Goals as goal

pub returns-then-self-clause-any_moment : goal.returns-then-self-clause-any_moment
returns-then-self-clause-any_moment g c = λ tells m is.
    let d = g.D.Disk in
    let held = d.held c.args.disk.now in
    no_call d g.met.D.Disk.only_now c.args.disk.now (IsRetiring m c.args.below held) (retires_none m c.args.self.now held is c.args.below)

pub returns-then-below-self-clause-any_moment : goal.returns-then-below-self-clause-any_moment
returns-then-below-self-clause-any_moment g c = λ tells m is.
    let d = g.D.Disk in
    let held = d.held c.args.disk.now in
    no_call d g.met.D.Disk.only_now c.args.disk.now (IsRetiring m c.args.below held) (retires_none m c.args.self.now held is c.args.below)

pub returns-in-Ok-clause-done : goal.returns-in-Ok-clause-done
returns-in-Ok-clause-done g c = λ tells m is.
    let d = g.D.Disk in
    let low : c.args.below ≤ c.args.self.now.ends.volume = omega (arith, c.if-below-self.false, ap (λ (k : Kept). k.ends.volume) c.self.view_is) in
    retires_all m c.args.self.now (d.held c.args.disk.now) is c.args.below c.args.self.now (d.held c.empty_volumes.new.disk) low refl (c.in-Ok.ensures.held tells)

pub returns-in-Ok-clause-any_moment : goal.returns-in-Ok-clause-any_moment
returns-in-Ok-clause-any_moment g c = λ tells m is.
    let d = g.D.Disk in
    let held = d.held c.args.disk.now in
    let low : c.args.below ≤ c.args.self.now.ends.volume = omega (arith, c.if-below-self.false, ap (λ (k : Kept). k.ends.volume) c.self.view_is) in
    run_as d g.met.D.Disk.only_now c.args.disk.now c.empty_volumes.new.disk (IsRetiring m c.args.below held) (LeavesSome c.args.below held) (c.empty_volumes.ensures.any_moment tells) (retires_some m c.args.self.now held is c.args.below low)

pub returns-in-Err-clause-any_moment : goal.returns-in-Err-clause-any_moment
returns-in-Err-clause-any_moment g c = λ tells m is.
    let d = g.D.Disk in
    let held = d.held c.args.disk.now in
    let low : c.args.below ≤ c.args.self.now.ends.volume = omega (arith, c.if-below-self.false, ap (λ (k : Kept). k.ends.volume) c.self.view_is) in
    run_as d g.met.D.Disk.only_now c.args.disk.now c.empty_volumes.new.disk (IsRetiring m c.args.below held) (LeavesSome c.args.below held) (c.empty_volumes.ensures.any_moment tells) (retires_some m c.args.self.now held is c.args.below low)
