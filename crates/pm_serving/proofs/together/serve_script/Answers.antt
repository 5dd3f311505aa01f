-- The regions are left as they were opened, but for what the sessions and the writers did.
use Rattle.std.proofs.Common.{◌≡◌, ℕ, List, refl, sym, subst, inr, arith, rules, Option, Some, Result, Ok, Err, IfOk}
use Rattle.std.proofs.lemmas.List.{places, with_items_is}
use Rattle.std.specs.Global.{Vec}
use Rattle.std.specs.List.{AllByRecursion}
use Rattle.std.specs.Vec.{with_items}
use Rattle.pcp_base.specs.declared.memory.NoMemory.{NoMemory as NoRoom}
use Rattle.region_rule.specs.Seats.{Token}
use Rattle.fetch_engine.specs.Servers.{IsSeated, Seated}
use Rattle.pmcd_server.specs.declared.fault.ServeFault.{ServeFault}
use Rattle.pmcd_server.specs.declared.fault.ServeFault.TheVariants.{Accept, NoMemory}
use Rattle.run_script.specs.declared.script.Script.{Script}
use Rattle.run_passes.specs.Written.{HaveWritten}
use Rattle.run_passes.proofs.HandsDealt.{all_from}
use Rattle.run_passes.proofs.Ready.{ready}
use Rattle.pm_serving.specs.declared.served.Served.{Served}
use Rattle.pm_serving.specs.Serving.{DoorsSide, HasAnswered, Leaves, doors_side}
use Rattle.pm_serving.proofs.together.serve_script.Goals as goal

pub beside-answers-requires-clause-ready : goal.beside-answers-requires-clause-ready
beside-answers-requires-clause-ready g c _ _ =
    let opened = c.in_ok-server.field-0 in
    ready c.args.script.now opened.server opened.passes.items opened.seats.items c.requires.rules c.in_ok-server.ensures.made

pub beside-answers-requires-clause-seated : goal.beside-answers-requires-clause-seated
beside-answers-requires-clause-seated g c _ _ =
    let opened = c.in_ok-server.field-0 in
    subst (λ (seats : List Seated). AllByRecursion (λ (s : Seated). IsSeated opened.server s.tokens) seats) (sym c.deref_mut.ensures.value)
    (all_from (λ (s : Seated). IsSeated opened.server s.tokens) opened.seats.items c.in_ok-server.ensures.made.seated)

pub returns-in_err-passes : goal.returns-in_err-passes
returns-in_err-passes g c =
    let d = doors_side g.P.Door c.args.doors.now c.beside-answers.new.doors in
    let opened = c.in_ok-server.field-0 in
    let why : HasAnswered d c.args.count c.args.script.now c.args.served.now (Err NoMemory) = inr (record {
      none = c.requires.fresh;
      opened = opened;
      made = c.in_ok-server.ensures;
      seats = c.beside-answers.new.seats;
      result = c.beside-answers.result.1;
      serves = rw (sym c.deref_mut.ensures.value) c.beside-answers.ensures.served;
    }) in
    search (rules, why)

-- a script was served, unless memory for the sessions was refused
began_so : {P In Out Time : Type 0} (d : DoorsSide P In Out Time) (count : ℕ) (script : Script) (served : Option Served) (answer : Result ℕ ServeFault) → (answer ≡ Err NoMemory → ⊥) → Leaves d count script answer served → HasAnswered d count script served answer
began_so d count script served (Ok n) begun left = left
began_so d count script served (Err Accept) begun left = left
began_so d count script served (Err NoMemory) begun left = absurd (begun refl)

pub returns : goal.returns
returns g c =
    let opened = c.in_ok-server.field-0 in
    let regions : Served = record { server = opened.server; passes = c.in_ok-passes.passes; seats = with_items opened.seats c.beside-answers.new.seats } in
    began_so (doors_side g.P.Door c.args.doors.now c.beside-answers.new.doors) c.args.count c.args.script.now (Some regions) c.beside-answers.result.1 (λ is. grind (arith, is)) (record {
      regions = regions;
      kept = refl;
      serving = record {
        opened = opened;
        made = c.in_ok-server.ensures;
        server = refl;
        written = subst (λ (r : Result (Vec (Vec Token)) NoRoom). IfOk r (λ (done : Vec (Vec Token)). HaveWritten c.args.script.now opened.server opened.passes.items done.items)) c.in_ok-passes.was c.beside-answers.ensures.written;
        serves = rw (with_items_is opened.seats c.beside-answers.new.seats (search (rules, places))) (rw (sym c.deref_mut.ensures.value) c.beside-answers.ensures.served);
        connections = c.beside-answers.ensures.connections;
        reports = c.beside-answers.ensures.reports;
        rose = c.beside-answers.ensures.rose;
        quiet = c.beside-answers.ensures.quiet;
      };
    })
