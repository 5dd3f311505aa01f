use Rattle.region_core.proofs.Lasting.{again_longer}
use Rattle.region_core.proofs.laws.again_lasts.Goals as goal

pub returns : goal.returns
returns c start log more earlier from k first last h a = (a.0, a.1, again_longer start log more earlier from k first last a.0 a.1 h a.2)
