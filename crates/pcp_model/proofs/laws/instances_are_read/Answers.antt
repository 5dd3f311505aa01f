use Rattle.pcp_model.proofs.InstancesRead.{instances_take, instances_again, are_bytes}
use Rattle.pcp_model.proofs.laws.instances_are_read.Goals as goal

pub returns : goal.returns
returns c = λ count bytes pairs fits few. (instances_take count bytes pairs (are_bytes bytes fits), instances_again count bytes pairs few)
