use Rattle.temporal_index.proofs.Once.{stops_once, stops_or_is}
use Rattle.temporal_index.proofs.laws.index_stops_once.Goals as goal

pub returns : goal.returns
returns c = λ bytes. record { one = stops_once bytes; either = stops_or_is bytes }
