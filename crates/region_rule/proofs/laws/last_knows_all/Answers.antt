use Rattle.region_core.proofs.Journals.{legal-back}
use Rattle.region_rule.specs.Views.{opening_of}
use Rattle.region_rule.proofs.Lawful.{nobody}
use Rattle.region_rule.proofs.laws.last_knows_all.Goals as goal

pub returns : goal.returns
returns g c v rest journal mine none last = nobody g.S.Shape.shaping v rest (legal-back g.S.Shape.shaping (opening_of v) v.seen rest journal.legal) mine none last
