-- A front that ends before a `.` and is there is what the name continues.
use Rattle.std.proofs.Common.{◌≡◌, ◌<◌, true, false, length, sym, ◌∙◌, arith}
use Rattle.pmns_core.specs.Adding.{is_under}
use Rattle.pmns_core.specs.Tables.{pairs_of}
use Rattle.pmns_core.proofs.Bytes.{no_then}
use Rattle.pmns_core.proofs.Tables.{under_there, there_under}
use Rattle.pmns_core.proofs.table.continues_one.Goals as goal

pub returns-then-has : goal.returns-then-has
returns-then-has c =
    let within : c.loop-at.at < length c.args.name.now = omega arith in
    sym (there_under (pairs_of c.args.table.now) c.args.name.now c.loop-at.at within c.if-byte-eq46.true (sym c.if-has.ensures))

pub returns : goal.returns
returns c =
    let pairs = pairs_of c.args.table.now in
    sym (no_then (is_under pairs c.args.name.now) (λ (h : is_under pairs c.args.name.now ≡ true).
    let u = under_there pairs c.args.name.now h in
    let within : u.0 < c.loop-at.at = omega (arith, u.1) in
    let both : true ≡ false = sym u.3 ∙ c.loop-at.invariant u.0 within u.2 in
    cc both))
