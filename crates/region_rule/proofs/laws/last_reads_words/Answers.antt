use Rattle.region_rule.proofs.Gathered.{reads_words}
use Rattle.region_rule.proofs.laws.last_reads_words.Goals as goal

pub returns : goal.returns
returns g c v w first last words r gathered wide = reads_words g.S.Shape.shaping v w first last words r gathered wide
