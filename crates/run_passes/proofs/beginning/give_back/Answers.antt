use Rattle.std.proofs.Common.{rules, ◌≡◌, ◌≤◌, ◌+◌, ℕ, List, [], ◌∷◌, ◌++◌, length, length-append, slice_get, refl, sym, ap, ◌∙◌, subst, arith}
use Rattle.std.specs.Global.{Vec}
use Rattle.region_rule.specs.Seats.{Token}
use Rattle.run_passes.specs.Openings.{idle_crew}
use Rattle.run_passes.specs.Sweeps.{GatheredAt}
use Rattle.run_passes.specs.Turns.{IsCrewAt}
use Rattle.run_passes.proofs.Begun.{few_lists, none_behind, waiting_first}
use Rattle.run_passes.proofs.Finals.{get_seam}
use Rattle.run_passes.proofs.Returning.{last_still, sees_itself, sees_still, waiting_still}
use Rattle.run_passes.proofs.beginning.give_back.Goals as goal

pub loop-list-init : goal.loop-list-init
loop-list-init c =
    let made = c.requires.made in (
      made.1.seated 0 c.args.seat.now refl,
      few_lists made.0 c.args.server.now c.args.passes.items c.args.seat.now made.1,
      waiting_first made.0 c.args.server.now c.args.passes.items c.args.seat.now made.1,
      sees_itself c.args.seat.now.tokens,
      none_behind made.0 c.args.server.now c.args.passes.items c.args.seat.now made.1,
    )

pub gather_passes-requires-clause-crew : goal.gather_passes-requires-clause-crew
gather_passes-requires-clause-crew c =
    subst (λ (n : ℕ). IsCrewAt c.args.server.now n (idle_crew c.in-Some.list.items) c.loop-list.seat.tokens) (sym (c.len.ensures ∙ c.pop.new.self.ok.0))
    (c.loop-list.invariant.2 (length c.pop.new.self.items) c.in-Some.list (ap (λ (l : List (Vec Token)). slice_get l (length c.pop.new.self.items)) c.in-Some.ensures.items ∙ get_seam c.pop.new.self.items c.in-Some.list))

pub loop-list-preserved : goal.loop-list-preserved
loop-list-preserved c =
    let server = c.args.server.now in
    let lists : List (Vec Token) = c.loop-list.passes.items in
    let rest : List (Vec Token) = c.pop.new.self.items in
    let seat : List Token = c.loop-list.seat.tokens in
    let later : List Token = c.gather_passes.new.seat.tokens in
    let is : lists ≡ rest ++ c.in-Some.list ∷ [] = c.in-Some.ensures.items in
    let many : length lists ≡ length rest + 1 = ap (λ (l : List (Vec Token)). length l) is ∙ length-append rest (c.in-Some.list ∷ []) in
    let most = c.loop-list.invariant.1 in
    let few : length rest ≤ 64 = omega arith in
    let gathered : GatheredAt server (length rest) 0 (idle_crew c.in-Some.list.items) seat later =
    subst (λ (n : ℕ). GatheredAt server n 0 (idle_crew c.in-Some.list.items) seat later) (c.len.ensures ∙ c.pop.new.self.ok.0) c.gather_passes.ensures.gathered in (
      c.gather_passes.ensures.seated,
      few,
      waiting_still server lists rest c.in-Some.list seat later is gathered c.loop-list.invariant.2,
      sees_still server lists rest c.in-Some.list seat later is gathered c.args.seat.now.tokens c.loop-list.invariant.3,
      last_still server lists rest c.in-Some.list seat later is gathered c.loop-list.invariant.4,
    )

pub returns-clause-last : goal.returns-clause-last
returns-clause-last c = λ j token e.
    let none : length c.loop-list.passes.items ≡ 0 = search rules in
    c.loop-list.invariant.4 j token (omega arith) e
