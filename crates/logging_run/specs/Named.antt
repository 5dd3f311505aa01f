-- The label of the archive that a run makes (pmlogger(1), LOGARCHIVE(5)).
use Rattle.std.specs.Prelude.{codes}
use Rattle.pcp_model.specs.LabelFields.{LabelFields}

-- but for its moment, which is that of the first result
abbrev pub run_label : LabelFields
run_label = record { pid = 1; start = record { sec = 0; usec = 0 }; host = codes "localhost"; zone = codes "UTC" }
