-- What was asked for, or why it isn't recorded.
use Rattle.std.proofs.Common.{rules, map, string_bytes, Global, refl}
use Rattle.pcp_outside.specs.Sides.{SourceSide, source_side}
use Rattle.pm_recording.specs.Ends.{Asks}
use Rattle.pm_recording.proofs.Stopping.{asks_by, by_script}
use Rattle.pm_recording.proofs.top.prepare.Goals as goal

pub returns-in_err-script-clause-order : goal.returns-in_err-script-clause-order
returns-in_err-script-clause-order g c =
    let words = map (string_bytes {Z = Global}) c.args.words.now in
    let s : SourceSide = source_side g.I.Source c.args.input.now c.ask.new.input in
    let a : Asks words s = asks_by words s c.in_ok-command.command c.in_ok-command.bytes c.as_slice.result.now c.in-Record.asked c.in_ok-command.ensures.asks c.in-Record.is c.as_slice.ensures in
    let why = by_script words s a c.in_err-script.field-0.0 c.in_err-script.ensures.answers in
    search (rules, why)

pub returns-clause-order : goal.returns-clause-order
returns-clause-order g c =
    let words = map (string_bytes {Z = Global}) c.args.words.now in
    let s : SourceSide = source_side g.I.Source c.args.input.now c.ask.new.input in record {
      asks = asks_by words s c.in_ok-command.command c.in_ok-command.bytes c.as_slice.result.now c.in-Record.asked c.in_ok-command.ensures.asks c.in-Record.is c.as_slice.ensures;
      is_asked = refl;
      good = c.in_ok-script.ensures.answers;
    }
