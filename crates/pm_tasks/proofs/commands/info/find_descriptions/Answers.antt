use Rattle.std.proofs.Common.{rules, ap, ◌∙◌}
use Rattle.pm_print.specs.Infos.{info_text}
use Rattle.pm_tasks.specs.commands.info.{IsTurnedAway}
use Rattle.pm_tasks.proofs.Asking.{not_loaded, is_loaded}
use Rattle.pm_tasks.proofs.commands.info.find_descriptions.Goals as goal

pub returns-in_err-reader-clause-turned : goal.returns-in_err-reader-clause-turned
returns-in_err-reader-clause-turned g c =
    let away = not_loaded g.D.Disk IsTurnedAway (λ f e n. n) c.args.disk.now c.load.new.disk c.in_err-reader.field-0.0 c.in_err-reader.ensures.fault c.in_err-reader.ensures.cause in
    search (rules, away)

pub returns-clause-said : goal.returns-clause-said
returns-clause-said g c = λ tells.
    (c.in_ok-reader.reader, is_loaded g.D.Disk c.args.disk.now c.load.new.disk c.load.new.disk c.in_ok-reader.reader tells c.in_ok-reader.ensures.loaded c.in_ok-reader.ensures.unwrapped, c.in_ok-text.ensures ∙ ap info_text c.meta.ensures)
