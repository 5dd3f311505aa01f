use Rattle.std.proofs.Common.{refl}
use Rattle.pcp_model.specs.Records.{entries}
use Rattle.temporal_index.proofs.Whole.{index_again}
use Rattle.temporal_index.proofs.laws.written_index_is_read.Goals as goal

pub returns : goal.returns
returns c = λ es fit. index_again (entries es) es (record { fit = fit; is = refl })
