use Rattle.result_form.proofs.FaultsOnce.{once}
use Rattle.result_form.proofs.laws.faults_come_once.Goals as goal

pub returns : goal.returns
returns c = once
