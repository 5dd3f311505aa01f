-- Loads of all passes, one behind another.
use Rattle.std.proofs.Common.{List, [], ◌∷◌}
use Rattle.region_rule.specs.Seats.{Token}
use Rattle.fetch_engine.specs.Visits.{AreLoaded}
use Rattle.fetch_engine.proofs.Tries.{loaded_trans, unloaded}

pub all_loaded : (olds mids news : List Token) → AreLoaded olds mids → AreLoaded mids news → AreLoaded olds news
all_loaded [] [] [] first second = tt
all_loaded [] [] (n ∷ ns) first second = absurd second
all_loaded [] (m ∷ ms) news first second = absurd first
all_loaded (o ∷ os) [] news first second = absurd first
all_loaded (o ∷ os) (m ∷ ms) [] first second = absurd second
all_loaded (o ∷ os) (m ∷ ms) (n ∷ ns) first second = (loaded_trans o m n first.0 second.0, all_loaded os ms ns first.1 second.1)

pub not_loaded : (tokens : List Token) → AreLoaded tokens tokens
not_loaded [] = tt
not_loaded (t ∷ ts) = (unloaded t, not_loaded ts)
