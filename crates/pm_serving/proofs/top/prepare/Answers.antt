-- What was asked for, or why it isn't served.
use Rattle.std.proofs.Common.{rules, map, string_bytes, Global, Ok}
use Rattle.pcp_outside.specs.Sides.{SourceSide, source_side}
use Rattle.pm_serving.proofs.Ordered.{by_script, orders_by, refused_before}
use Rattle.pm_serving.proofs.top.prepare.Goals as goal

pub returns-in_err-command-clause-orders : goal.returns-in_err-command-clause-orders
returns-in_err-command-clause-orders g c =
    let words = map (string_bytes {Z = Global}) c.args.words.now in
    let s : SourceSide = source_side g.I.Source c.args.input.now c.ask.new.input in
    let why = refused_before words s c.in_err-command.field-0.0 c.in_err-command.ensures.refused in
    search (rules, why)

pub returns-in_err-script-clause-orders : goal.returns-in_err-script-clause-orders
returns-in_err-script-clause-orders g c =
    let words = map (string_bytes {Z = Global}) c.args.words.now in
    let s : SourceSide = source_side g.I.Source c.args.input.now c.ask.new.input in
    let why = by_script words s c.in-Serve.count c.as_slice.result.now
    (λ found says. orders_by words s c.in_ok-command.command c.in-Serve.count c.in_ok-command.bytes c.as_slice.result.now found c.in_ok-command.ensures.asks c.in-Serve.is c.as_slice.ensures says)
    c.in_err-script.field-0.0 c.in_err-script.ensures.answers in
    search (rules, why)

pub returns-clause-orders : goal.returns-clause-orders
returns-clause-orders g c = orders_by _ _ c.in_ok-command.command c.in-Serve.count c.in_ok-command.bytes c.as_slice.result.now (Ok c.in_ok-script.script) c.in_ok-command.ensures.asks c.in-Serve.is c.as_slice.ensures c.in_ok-script.ensures.answers
