-- What stands where the number is found.
use Rattle.std.proofs.Common.{◌≡◌, sym, ap, ◌∙◌, w32, to_z, of_z, Some, None}
use Rattle.std.proofs.lemmas.Int.{to_z-of_z}
use Rattle.pm_print.specs.Sets.{name_in, position_in}
use Rattle.pm_print.proofs.Positions.{found, unnamed}
use Rattle.pm_print.proofs.instances.Instances.name.Goals as goal

pub returns-in-Some-place_of : goal.returns-in-Some-place_of
returns-in-Some-place_of c =
    let number : to_z w32 (of_z w32 c.args.number) ≡ c.args.number = to_z-of_z w32 c.args.number c.ranges.number in
    let place : position_in 0 c.in-Some.listed.now c.args.number ≡ Some c.in-Some-place_of.at = ap (position_in 0 c.in-Some.listed.now) (sym number) ∙ sym c.in-Some-place_of.ensures in
    let listed : c.in-Some.listed.now ≡ c.args.self.now = cc c.self.view_is in
    c.name_at.ensures ∙ found c.in-Some.listed.now c.args.number c.in-Some-place_of.at place ∙ ap (λ pairs. name_in pairs c.args.number) listed

pub returns-in-None : goal.returns-in-None
returns-in-None c =
    let number : to_z w32 (of_z w32 c.args.number) ≡ c.args.number = to_z-of_z w32 c.args.number c.ranges.number in
    let place : position_in 0 c.in-Some.listed.now c.args.number ≡ None = ap (position_in 0 c.in-Some.listed.now) (sym number) ∙ sym c.in-None.ensures in
    let listed : c.in-Some.listed.now ≡ c.args.self.now = cc c.self.view_is in
    sym (unnamed c.in-Some.listed.now c.args.number 0 place) ∙ ap (λ pairs. name_in pairs c.args.number) listed
