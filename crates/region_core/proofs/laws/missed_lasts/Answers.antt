use Rattle.region_core.proofs.Lasting.{times_longer}
use Rattle.region_core.proofs.laws.missed_lasts.Goals as goal

pub returns : goal.returns
returns c start log more earlier from k h missed = times_longer start log more 3 earlier from k h missed
