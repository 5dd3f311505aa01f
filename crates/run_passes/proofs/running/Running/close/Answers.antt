use Rattle.std.proofs.Common.{rules, ◌≡◌, ℕ, length, sym, subst, ◌∙◌, arith}
use Rattle.run_passes.specs.Sweeps.{ClosedAt}
use Rattle.run_passes.specs.Turns.{IsCrewAt}
use Rattle.run_passes.proofs.Finals.{ClosedFrom, last_left, last_closed, all_alone, have_seen, crew_there}
use Rattle.run_passes.proofs.running.Running.close.Goals as goal

pub overflow_cast-len : goal.overflow_cast-len
overflow_cast-len c =
    let l = last_left c.args.server.now c.args.self.crews.items c.loop-crew.crews.items c.pop.new.self.items c.in-Some.crew c.args.seat.now.tokens c.loop-crew.seat.tokens c.loop-crew.invariant.1 c.in-Some.ensures.items in
    let few = l.0.few in
    let many = c.requires.manned.as_many in
    let most = c.requires.manned.in_order.few in
    let is : c.len.result ≡ length c.pop.new.self.items = c.len.ensures ∙ c.pop.new.self.ok.0 in
    record { fits = omega arith }

pub close_crew-requires-clause-crew : goal.close_crew-requires-clause-crew
close_crew-requires-clause-crew c =
    let l = last_left c.args.server.now c.args.self.crews.items c.loop-crew.crews.items c.pop.new.self.items c.in-Some.crew c.args.seat.now.tokens c.loop-crew.seat.tokens c.loop-crew.invariant.1 c.in-Some.ensures.items in
    let is : c.len.result ≡ length c.pop.new.self.items = c.len.ensures ∙ c.pop.new.self.ok.0 in
    subst (λ (n : ℕ). IsCrewAt c.args.server.now n c.in-Some.crew.items c.loop-crew.seat.tokens) (sym is)
    (crew_there c.args.server.now c.args.self (length c.pop.new.self.items) c.loop-crew.crews.items c.in-Some.crew c.args.seat.now.tokens c.loop-crew.seat.tokens c.requires.manned l.0 l.1)

pub loop-crew-preserved : goal.loop-crew-preserved
loop-crew-preserved c =
    let is : c.len.result ≡ length c.pop.new.self.items = c.len.ensures ∙ c.pop.new.self.ok.0 in (
      c.close_crew.ensures.seated,
      last_closed c.args.server.now c.args.self.crews.items c.loop-crew.crews.items c.pop.new.self.items c.in-Some.crew c.args.seat.now.tokens c.loop-crew.seat.tokens c.close_crew.new.seat.tokens c.loop-crew.invariant.1 c.in-Some.ensures.items
          (subst (λ (n : ℕ). ClosedAt c.args.server.now n c.in-Some.crew.items c.loop-crew.seat.tokens c.close_crew.new.seat.tokens) is c.close_crew.ensures.closed),
    )

pub returns-clause-alone : goal.returns-clause-alone
returns-clause-alone c =
    let none : length c.loop-crew.crews.items ≡ 0 = search rules in
    all_alone c.args.server.now c.args.self c.loop-crew.crews.items c.args.seat.now.tokens c.loop-crew.seat.tokens
    (subst (λ (n : ℕ). ClosedFrom c.args.server.now n c.args.self.crews.items c.loop-crew.crews.items c.args.seat.now.tokens c.loop-crew.seat.tokens) none c.loop-crew.invariant.1)

pub returns-clause-seen : goal.returns-clause-seen
returns-clause-seen c = λ script regions follows.
    let none : length c.loop-crew.crews.items ≡ 0 = search rules in
    have_seen c.args.server.now c.args.self c.loop-crew.crews.items c.args.seat.now.tokens c.loop-crew.seat.tokens script regions c.requires.manned c.loop-crew.invariant.0
    (subst (λ (n : ℕ). ClosedFrom c.args.server.now n c.args.self.crews.items c.loop-crew.crews.items c.args.seat.now.tokens c.loop-crew.seat.tokens) none c.loop-crew.invariant.1) follows
