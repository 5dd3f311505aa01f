-- The meanings of the commands are coherent.
use Rattle.std.proofs.Common.{ℕ, List}
use Rattle.pcp_base.specs.Time.{Moment}
use Rattle.pm_words.specs.declared.words.ValueWords.{ValueWords}
use Rattle.pm_words.proofs.Coherent.{IsCoherent, converts_coherent}
use Rattle.pm_tasks.specs.Archives.{looks, nothing_before, takes_any}
use Rattle.pm_tasks.specs.Takes.{TookAt, TookRange}
use Rattle.pm_tasks.specs.commands.at as at
use Rattle.pm_tasks.specs.commands.check as check
use Rattle.pm_tasks.specs.commands.dump as dump
use Rattle.pm_tasks.specs.commands.info as info
use Rattle.pm_tasks.specs.commands.mmv_dump as mmv_dump
use Rattle.pm_tasks.specs.commands.mmv_lift as mmv_lift
use Rattle.pm_tasks.specs.commands.mmv_make as mmv_make
use Rattle.pm_tasks.specs.commands.range as range
use Rattle.pm_tasks.specs.commands.value as value
use Rattle.pm_tasks.specs.commands.watch as watch
use Rattle.pm_tasks.proofs.Lookings.{check_fits, info_fits, dump_fits, at_fits, range_fits, value_fits, watch_fits, look_coherent, neither, quiet_coherent}
use Rattle.pm_tasks.proofs.Taken.{took_none}
use Rattle.pm_tasks.proofs.ReadFirst.{coherent_by}
use Rattle.pm_tasks.proofs.Nothing.{at_nothing, at_said, value_nothing, value_said}

pub info_coherent : IsCoherent info.info
info_coherent = quiet_coherent info.IsTurnedAway info.IsOutput nothing_before takes_any info_fits (λ files n. tt) (λ f stamp n. n)

pub check_coherent : IsCoherent check.check
check_coherent = quiet_coherent check.IsTurnedAway check.IsOutput nothing_before takes_any check_fits (λ files n. tt) (λ f stamp n. n)

pub dump_coherent : IsCoherent dump.dump
dump_coherent = quiet_coherent dump.IsTurnedAway dump.IsOutput dump.IsFrontOutput takes_any dump_fits (λ files n. tt) (λ f stamp n. neither (λ (a : ⊥). a) (λ b. b.2) n)

pub range_coherent : (from to : Moment) → IsCoherent (range.range from to)
range_coherent from to = quiet_coherent (range.IsTurnedAway from to) (range.IsOutput from to) nothing_before (TookRange from to) (range_fits from to) (λ files n. took_none files n) (λ f stamp n. neither (λ (a : ⊥). a) (λ b. b.2) n)

pub at_coherent : (t : Moment) → IsCoherent (at.at t)
at_coherent t = look_coherent (at.IsTurnedAway t) (at.IsOutput t) nothing_before (TookAt t) (at_fits t) (λ files n. took_none files n) (at_nothing t) (at_said t)

pub value_coherent : (asked : ValueWords) → IsCoherent (value.value asked)
value_coherent asked = look_coherent (value.IsTurnedAway asked) (value.IsOutput asked) nothing_before takes_any (value_fits asked) (λ files n. tt) (value_nothing asked) (value_said asked)

-- a watch of each input
watching : (from to : Moment) (input : List ℕ) → IsCoherent (looks dump.IsTurnedAway (watch.IsOutput from to input) (watch.IsFrontOutput from to input) takes_any)
watching from to input = quiet_coherent dump.IsTurnedAway (watch.IsOutput from to input) (watch.IsFrontOutput from to input) takes_any (watch_fits from to input) (λ files n. tt) (λ f stamp n. neither (λ (a : ⊥). a) (λ b. b.2) n)

pub watch_coherent : (from to : Moment) → IsCoherent (watch.watch from to)
watch_coherent from to = coherent_by watch.refuses dump.IsTurnedAway (watch.IsOutput from to) (watch.IsFrontOutput from to) takes_any (watching from to)

pub mmv_make_coherent : IsCoherent mmv_make.mmv_make
mmv_make_coherent = converts_coherent mmv_make.refuses mmv_make.makes

pub mmv_dump_coherent : IsCoherent mmv_dump.mmv_dump
mmv_dump_coherent = converts_coherent mmv_dump.refuses mmv_dump.makes

pub mmv_lift_coherent : IsCoherent mmv_lift.mmv_lift
mmv_lift_coherent = converts_coherent mmv_lift.refuses mmv_lift.makes
