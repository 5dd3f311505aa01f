use Rattle.region_rule.proofs.Gathered.{reads_last}
use Rattle.region_rule.proofs.laws.last_reads_all.Goals as goal

pub returns : goal.returns
returns g c v w first last found r gathered = reads_last g.S.Shape.shaping v w first last found r gathered
