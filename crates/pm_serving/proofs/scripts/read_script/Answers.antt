-- A script that is read keeps the rules, and where no line of it is unserved all its regions have room.
use Rattle.std.proofs.Common.{◌≡◌, ℕ, sym, ap, ◌∙◌, Option, None}
use Rattle.run_script.specs.Recording.{refused_line}
use Rattle.run_script.proofs.Ruled.{scripts_are_ruled}
use Rattle.pm_serving.specs.Scripts.{earlier, unserved_line}
use Rattle.pm_serving.proofs.Room.{roomy}
use Rattle.pm_serving.proofs.scripts.read_script.Goals as goal

pub refused_line-requires : goal.refused_line-requires
refused_line-requires c = record { rules = scripts_are_ruled c.args.input.now c.in-Ok.script c.in-Ok.ensures }

pub returns-clause-rules : goal.returns-clause-rules
returns-clause-rules c = scripts_are_ruled c.args.input.now c.in-Ok.script c.in-Ok.ensures

pub returns-clause-room : goal.returns-clause-room
returns-clause-room c =
    let script = c.in-Ok.script in
    let none : unserved_line script ≡ None =
    ap (λ (line : Option ℕ). earlier line (refused_line script)) (sym c.crowded_line.ensures) ∙ ap (λ (line : Option ℕ). earlier c.crowded_line.result line) (sym c.refused_line.ensures) ∙ sym c.earlier.ensures ∙ c.in_default.is in
    roomy script none
