use Rattle.pm_print.proofs.Days.{is_day_of}
use Rattle.pm_print.proofs.stamps.day_of.Goals as goal

pub returns : goal.returns
returns c =
    is_day_of c.args.number c.date_of-date.result c.requires c.date_of-date.ensures c.unsigned_abs.result c.unsigned_abs-2.result c.unsigned_abs-3.result
    c.year.result c.month.result c.day.result c.unsigned_abs.ensures.value c.unsigned_abs-2.ensures.value c.unsigned_abs-3.ensures.value c.year.ensures c.month.ensures c.day.ensures
