-- It stands where it was tried.
use Rattle.std.proofs.Common.{rules, sym, w32}
use Rattle.std.proofs.lemmas.Int.{to_z-of_z}
use Rattle.pm_print.proofs.Searching.{is_here, same_bits}
use Rattle.pm_print.proofs.instances.tried_place.Goals as goal

pub returns-then-found-number : goal.returns-then-found-number
returns-then-found-number c =
    let number = to_z-of_z w32 c.args.number c.ranges.number in
    let found = to_z-of_z w32 c.in-Some.found (search rules) in
    sym (is_here c.args.listed.now c.args.tried c.in-Some.found c.args.number c.requires c.in-Some.ensures (same_bits c.in-Some.found c.args.number found number c.if-found-number.true))
