use Rattle.fetch_engine.proofs.Hits.{hits_load_values}
use Rattle.fetch_engine.proofs.laws.hits_load_values.Goals as goal

pub returns : goal.returns
returns c = hits_load_values
