-- The laws of each command's meaning.
use Rattle.std.proofs.Common.{None, []}
use Rattle.pm_words.specs.declared.words.Command.{Command}
use Rattle.pm_words.specs.declared.words.Command.TheVariants.{Once, Replay, Make, Retire, MmvMake, MmvDump, MmvLift, Dump, Info, Check, Recover, At, Range, Value, Watch, Record, Serve, Pull, Extract, Summary, Export}
use Rattle.pm_words.proofs.Coherent.{IsCoherent, converts_coherent}
use Rattle.pm_tasks.proofs.Coherent.{at_coherent, check_coherent, dump_coherent, info_coherent, mmv_dump_coherent, mmv_lift_coherent, mmv_make_coherent, range_coherent, value_coherent, watch_coherent}
use Rattle.pm_runs.proofs.Coherent.{recover_coherent, runs_coherent}
use Rattle.pm_runs.proofs.Retired.{retire_coherent}
use Rattle.pm_runs.specs.commands.make.{making}
use Rattle.pm_runs.specs.commands.once.{logging}
use Rattle.pm_runs.specs.commands.replay.{replaying}
use Rattle.pm_commands.specs.Meanings.{meaning}

pub coherent : (command : Command) → IsCoherent (meaning command)
coherent (Once asked) = runs_coherent (logging asked)
coherent (Replay volume) = runs_coherent (replaying volume)
coherent (Make asked) = runs_coherent (making asked)
coherent (Retire below) = retire_coherent below
coherent MmvMake = mmv_make_coherent
coherent MmvDump = mmv_dump_coherent
coherent MmvLift = mmv_lift_coherent
coherent Dump = dump_coherent
coherent Info = info_coherent
coherent Check = check_coherent
coherent Recover = recover_coherent
coherent (At t) = at_coherent t
coherent (Range from to) = range_coherent from to
coherent (Value asked) = value_coherent asked
coherent (Watch from to) = watch_coherent from to
coherent (Record asked) = converts_coherent (λ input. None) (λ input. [])
coherent (Serve count) = converts_coherent (λ input. None) (λ input. [])
coherent (Pull asked) = converts_coherent (λ input. None) (λ input. [])
coherent (Extract volume) = converts_coherent (λ input. None) (λ input. [])
coherent (Summary asked) = converts_coherent (λ input. None) (λ input. [])
coherent Export = converts_coherent (λ input. None) (λ input. [])
