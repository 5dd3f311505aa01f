-- One result more is held, or all is as it was.
use Rattle.std.proofs.Common.{◌≡◌, ◌+◌, false, [], ◌∷◌, ap, sym, arith, subst}
use Rattle.std.specs.Prelude.{OnOk}
use Rattle.logger_core.specs.Grouping.{AreLoggable}
use Rattle.logger_core.specs.Held.{counts_of}
use Rattle.logger_core.specs.Holding.{HeldBack, HoldsMore, IsHolding}
use Rattle.logger_core.proofs.Holds.{holds_counted, holds_more, holds_planned, stays_batch}
use Rattle.logger_core.proofs.batch.Batch.hold.Goals as goal

pub invariant_of-self : goal.invariant_of-self
invariant_of-self c =
    let b : HeldBack = record { kept = c.self.inside.logger; runs = c.self.inside.group.runs; planned = c.self.inside.group.planned } in
    stays_batch c.hold.result b c.hold.new.self c.hold.new.group c.args.answer.now c.args.facts.now c.hold.ensures.reachable c.requires.some c.self.invariant (omega (arith, c.requires.room, ap (λ (x : HeldBack). counts_of x.runs) c.self.view_is)) c.hold.ensures.held c.hold.ensures.still

pub returns-clause-held : goal.returns-clause-held
returns-clause-held c = λ m pending o held p enough.
    let b : HeldBack = record { kept = c.self.inside.logger; runs = c.self.inside.group.runs; planned = c.self.inside.group.planned } in
    let now : HeldBack = record { kept = c.hold.new.self; runs = c.hold.new.group.runs; planned = c.hold.new.group.planned } in
    subst (λ (x : HeldBack). OnOk c.hold.result (HoldsMore m x now pending c.args.answer.now c.args.facts.now o held)) c.self.view_is
    (holds_more c.hold.result b c.hold.new.self c.hold.new.group c.args.answer.now c.args.facts.now c.hold.ensures.reachable c.requires.some c.self.invariant c.hold.ensures.held m pending o held (subst (λ (x : HeldBack). IsHolding m x pending o held) (sym c.self.view_is) p) enough)

pub returns-clause-planned : goal.returns-clause-planned
returns-clause-planned c =
    let b : HeldBack = record { kept = c.self.inside.logger; runs = c.self.inside.group.runs; planned = c.self.inside.group.planned } in
    subst (λ (x : HeldBack). OnOk c.hold.result (AreLoggable x.kept.records x.planned x.kept.limit ((c.args.answer.now, c.args.facts.now) ∷ []) c.hold.new.self.records c.hold.new.group.planned)) c.self.view_is
    (holds_planned c.hold.result b c.hold.new.self c.hold.new.group c.args.answer.now c.args.facts.now c.hold.ensures.reachable c.requires.some c.self.invariant c.hold.ensures.held)

pub returns-clause-counted : goal.returns-clause-counted
returns-clause-counted c =
    let b : HeldBack = record { kept = c.self.inside.logger; runs = c.self.inside.group.runs; planned = c.self.inside.group.planned } in
    subst (λ (x : HeldBack). OnOk c.hold.result ((counts_of c.hold.new.group.runs ≡ counts_of x.runs + 1) × (c.hold.new.self.ends ≡ x.kept.ends) × (c.hold.new.self.label ≡ x.kept.label) × (c.hold.new.self.limit ≡ x.kept.limit) × (c.hold.new.self.closed ≡ false))) c.self.view_is
    (holds_counted c.hold.result b c.hold.new.self c.hold.new.group c.args.answer.now c.args.facts.now c.hold.ensures.reachable c.requires.some c.self.invariant c.hold.ensures.held)
