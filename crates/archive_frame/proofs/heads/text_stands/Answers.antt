use Rattle.std.proofs.Common.{◌+◌, ◌<◌, ◌≤◌, length, arith}
use Rattle.archive_frame.proofs.Chains.{text_stops, zero_stops, end_stops, text_there}
use Rattle.archive_frame.proofs.heads.text_stands.Goals as goal

pub returns-in-Err-clause-stop : goal.returns-in-Err-clause-stop
returns-in-Err-clause-stop c = text_stops c.args.width c.args.text.now c.args.bytes.now c.args.at c.requires.fits c.requires.clean c.in-Err.stop c.in-Err.ensures.stop

pub returns-in-Err-stands-clause-stop : goal.returns-in-Err-stands-clause-stop
returns-in-Err-stands-clause-stop c =
    zero_stops c.args.width c.args.text.now c.args.bytes.now c.args.at c.requires.fits c.requires.clean c.in_default.ensures.there c.in-Err-stands.stop c.in-Err-stands.ensures.stop

pub returns-then-bytes-at-clause-stop : goal.returns-then-bytes-at-clause-stop
returns-then-bytes-at-clause-stop c =
    let short : length c.args.bytes.now < c.args.at + c.args.width = omega (arith, c.if-bytes-at.true, c.requires.within) in
    end_stops c.args.width c.args.text.now c.args.bytes.now c.args.at c.requires.fits c.requires.clean c.in_default.ensures.there c.in_default-stands.ensures.there short

pub returns-clause-there : goal.returns-clause-there
returns-clause-there c =
    let long : c.args.at + c.args.width ≤ length c.args.bytes.now = omega (arith, c.if-bytes-at.false, c.requires.within) in
    text_there c.args.width c.args.text.now c.args.bytes.now c.args.at c.requires.fits c.requires.clean c.in_default.ensures.there c.in_default-stands.ensures.there long
