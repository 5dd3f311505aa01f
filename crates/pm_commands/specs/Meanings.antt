-- The meaning of each command. Where a new one goes: its variant and its words in pm_words, its meaning here, its body in `serve`.
use Rattle.std.specs.Prelude.{Bool, true, [], None}
use Rattle.pm_words.specs.declared.words.Command.{Command}
use Rattle.pm_words.specs.declared.words.Command.TheVariants.{Once, Replay, Make, Retire, MmvMake, MmvDump, MmvLift, Dump, Info, Check, Recover, At, Range, Value, Watch, Record, Serve, Pull, Extract, Summary, Export}
use Rattle.pm_words.specs.Meaning.{Meaning, converts}
use Rattle.pm_tasks.specs.commands.at.{at}
use Rattle.pm_tasks.specs.commands.check.{check}
use Rattle.pm_tasks.specs.commands.dump.{dump}
use Rattle.pm_tasks.specs.commands.info.{info}
use Rattle.pm_runs.specs.commands.make.{make}
use Rattle.pm_tasks.specs.commands.mmv_dump.{mmv_dump}
use Rattle.pm_tasks.specs.commands.mmv_lift.{mmv_lift}
use Rattle.pm_tasks.specs.commands.mmv_make.{mmv_make}
use Rattle.pm_runs.specs.commands.once.{once}
use Rattle.pm_runs.specs.commands.recover.{recover}
use Rattle.pm_tasks.specs.commands.range.{range}
use Rattle.pm_runs.specs.commands.replay.{replay}
use Rattle.pm_runs.specs.commands.retire.{retire}
use Rattle.pm_tasks.specs.commands.value.{value}
use Rattle.pm_tasks.specs.commands.watch.{watch}

-- a command of another call, for which this one is never asked
abbrev pub other : Meaning
other = converts (λ input. None) (λ input. [])

abbrev pub meaning : Command → Meaning
meaning (Once asked) = once asked
meaning (Replay volume) = replay volume
meaning (Make asked) = make asked
meaning (Retire below) = retire below
meaning MmvMake = mmv_make
meaning MmvDump = mmv_dump
meaning MmvLift = mmv_lift
meaning Dump = dump
meaning Info = info
meaning Check = check
meaning Recover = recover
meaning (At t) = at t
meaning (Range from to) = range from to
meaning (Value asked) = value asked
meaning (Watch from to) = watch from to
meaning (Record asked) = other
meaning (Serve count) = other
meaning (Pull asked) = other
meaning (Extract volume) = other
meaning (Summary asked) = other
meaning Export = other

-- whether a command writes an archive; `record`, `pull`, `extract` and `export` do, whose meanings are their calls'
abbrev pub writes_archive : Command → Bool
writes_archive (Record asked) = true
writes_archive (Pull asked) = true
writes_archive (Extract volume) = true
writes_archive Export = true
writes_archive command = (meaning command).writes_archive
