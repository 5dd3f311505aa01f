use Rattle.std.proofs.Common.{refl}
use Rattle.run_passes.specs.declared.running.Running.{Running}
use Rattle.run_passes.proofs.Begun.{manned_first, follows_first}
use Rattle.run_passes.proofs.Unopened.{unopened}
use Rattle.run_passes.proofs.running.Running.begin.Goals as goal

pub give_back-requires : goal.give_back-requires
give_back-requires c = record { made = (c.args.script.now, c.requires.made) }

pub returns-in_default-clause-refused : goal.returns-in_default-clause-refused
returns-in_default-clause-refused c =
    unopened c.args.script.now c.args.server.now c.args.passes.items c.args.seat.now c.give_back.new.seat.tokens c.requires.made c.give_back.ensures.same c.give_back.ensures.last c.give_back.ensures.seated

pub returns-in_default-rooms_for-clause-refused : goal.returns-in_default-rooms_for-clause-refused
returns-in_default-rooms_for-clause-refused c =
    let back = c.give_back-in_default-rooms_for in
    unopened c.args.script.now c.args.server.now c.args.passes.items c.args.seat.now back.new.seat.tokens c.requires.made back.ensures.same back.ensures.last back.ensures.seated

pub returns-clause-manned : goal.returns-clause-manned
returns-clause-manned c =
    let running : Running = record { clusters = c.in-Ok.clusters; crews = c.fill_all.new.crews } in
    manned_first c.args.script.now c.args.server.now c.args.passes.items c.args.seat.now c.requires.made running (c.in-Ok.ensures c.args.server.now c.requires.made.serves) c.fill_all.ensures

pub returns-clause-follows : goal.returns-clause-follows
returns-clause-follows c =
    let running : Running = record { clusters = c.in-Ok.clusters; crews = c.fill_all.new.crews } in
    follows_first c.args.script.now c.args.server.now c.args.passes.items c.args.seat.now c.requires.made running (c.in-Ok.ensures c.args.server.now c.requires.made.serves) c.fill_all.ensures c.requires.rules

pub returns-clause-seated : goal.returns-clause-seated
returns-clause-seated c = c.requires.made.seated 0 c.args.seat.now refl
