use Rattle.archive_meta.proofs.Entries.{last_holds, none_holds}
use Rattle.archive_meta.proofs.keeping.domain_at.Goals as goal

pub returns-in-Some : goal.returns-in-Some
returns-in-Some c = last_holds c.args.records.now c.args.moments.now c.args.indom c.args.t c.requires.moments c.requires.few c.in-Some.at _ c.in-Some.ensures c.pairs_at.ensures

pub returns-in-None : goal.returns-in-None
returns-in-None c = none_holds c.args.records.now c.args.moments.now c.args.indom c.args.t c.requires.moments c.requires.few c.in-None.ensures
