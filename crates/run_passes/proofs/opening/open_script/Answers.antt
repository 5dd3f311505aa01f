-- The regions that were made are served as they stand, and what was dealt is taken by the seats.
use Rattle.std.proofs.Common.{List, sym, ap, ◌∙◌, subst}
use Rattle.fetch_engine.specs.Servers.{server_fault}
use Rattle.fetch_engine.specs.declared.server.Mounted.{Mounted}
use Rattle.run_passes.specs.Makings.{IsDealt, lists_of}
use Rattle.run_passes.proofs.Openings.{all_have_each, rise_rows, is_opened}
use Rattle.run_passes.proofs.OpeningServer.{faultless}
use Rattle.run_passes.proofs.opening.open_script.Goals as goal

pub deal_all-requires : goal.deal_all-requires
deal_all-requires c = all_have_each c.args.script.now c.args.seats c.in_ok-made.made.items c.in_ok-made.ensures

pub serve-server-requires-clause-faultless : goal.serve-server-requires-clause-faultless
serve-server-requires-clause-faultless c =
    ap server_fault c.in_ok-mounted.ensures.regions ∙ faultless c.args.script.now c.args.seats c.in_ok-made.made.items c.requires.rules c.in_ok-made.ensures

pub serve-server-requires-clause-rise : goal.serve-server-requires-clause-rise
serve-server-requires-clause-rise c =
    rise_rows c.args.script.now c.args.seats c.in_ok-made.made.items c.in_ok-mounted.field-0.mounted.items c.in_ok-made.ensures c.in_ok-mounted.ensures.regions

pub returns : goal.returns
returns c =
    let made = c.in_ok-made.made.items in
    let dealt = c.in_ok-mounted.field-0 in
    let hands = lists_of dealt.hands.items in
    is_opened c.args.script.now c.args.seats made (record { server = c.serve-server.result; passes = dealt.passes; seats = c.in_ok-seats.seats }) hands c.requires.rules c.in_ok-made.ensures
    (subst (λ (rows : List Mounted). IsDealt c.args.seats made rows dealt.passes.items hands) (sym c.serve-server.ensures) c.in_ok-mounted.ensures) c.in_ok-seats.ensures
