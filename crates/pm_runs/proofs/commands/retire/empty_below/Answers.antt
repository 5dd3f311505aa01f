-- A logger of the archive retires the volumes, or why not: there is no label, it isn't opened, or it refuses.
use Rattle.std.proofs.Common.{◌≡◌, sym, ◌∙◌, subst}
use Rattle.std.proofs.lemmas.Option.{none-some}
use Rattle.pm_runs.specs.commands.retire.{EmptyingStops, fault_refusal}
use Rattle.pm_runs.proofs.Emptying.{kept_emptying, retiring_empties, retiring_stops, still_emptying}
use Rattle.pm_runs.proofs.commands.retire.empty_below.Goals as goal

pub returns-then-is_none-clause-any_moment : goal.returns-then-is_none-clause-any_moment
returns-then-is_none-clause-any_moment g c = λ tells left. still_emptying g.D.Disk c.args.below g.met.D.Disk.only_now c.args.disk.now tells left.sure

pub returns-in_default-clause-any_moment : goal.returns-in_default-clause-any_moment
returns-in_default-clause-any_moment g c = λ tells left. kept_emptying g.D.Disk c.args.below g.met.D.Disk.only_now c.args.disk.now c.reopen.new.disk c.reopen.ensures.untouched tells left.sure

pub returns-in-Ok-retire-clause-any_moment : goal.returns-in-Ok-retire-clause-any_moment
returns-in-Ok-retire-clause-any_moment g c = λ tells left.
    retiring_empties g.D.Disk c.args.below c.in-Ok.logger c.args.disk.now c.reopen.new.disk c.retire.new.disk c.reopen.ensures.untouched g.met.D.Disk.only_now tells left.sure (c.in-Ok.ensures.reopened tells left) (c.retire.ensures.any_moment tells)
    (λ low. (c.retire.ensures.live c.in-Ok.ensures.told.4 low).2)

pub returns-clause-any_moment : goal.returns-clause-any_moment
returns-clause-any_moment g c = λ tells left.
    retiring_empties g.D.Disk c.args.below c.in-Ok.logger c.args.disk.now c.reopen.new.disk c.retire.new.disk c.reopen.ensures.untouched g.met.D.Disk.only_now tells left.sure (c.in-Ok.ensures.reopened tells left) (c.retire.ensures.any_moment tells)
    (λ low. (c.retire.ensures.live c.in-Ok.ensures.told.4 low).2)

pub returns-clause-stops : goal.returns-clause-stops
returns-clause-stops g c =
    let before = g.D.Disk.faults in
    let same = c.retire.new.disk ≡ c.args.disk.now in
    let told = c.in-Ok.ensures.told in
    let stops =
    retiring_stops c.args.below c.args.archive c.in-Ok.logger c.retire.new.self (before c.reopen.new.disk) (before c.retire.new.disk) same c.in-Err.fault told.4 told.2 (λ none. none-some c.in-Ok.logger.label (sym none ∙ sym told.0))
    (λ other. c.in-Err.ensures.untouched other ∙ c.reopen.ensures.untouched) c.in-Err.ensures.fault in
    subst (EmptyingStops c.args.below c.args.archive (before c.args.disk.now) (before c.retire.new.disk) same) (sym c.refusal_of.ensures)
    (subst (λ (x : g.row.D.Denot). EmptyingStops c.args.below c.args.archive (before x) (before c.retire.new.disk) same (fault_refusal c.in-Err.fault)) c.reopen.ensures.untouched stops)
