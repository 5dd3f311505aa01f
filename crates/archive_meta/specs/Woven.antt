-- All records of Meta out of those that are kept: marks say which of them these are, and the rest are of other kinds.
use Rattle.std.specs.Prelude.{Bool, true, false, List, [], ◌∷◌}
use Rattle.pcp_model.specs.declared.records.MetaRecord.{MetaRecord}
use Rattle.pcp_model.specs.declared.records.MetaRecord.TheVariants.{Other}

abbrev pub with_other_records : List Bool → List MetaRecord → List MetaRecord
with_other_records [] records = []
with_other_records (false ∷ marks) records = Other ∷ with_other_records marks records
with_other_records (true ∷ marks) [] = []
with_other_records (true ∷ marks) (r ∷ records) = r ∷ with_other_records marks records

-- each record that is kept has its mark
abbrev pub AreMarked : List Bool → List MetaRecord → Type 0
AreMarked [] [] = Unit {0}
AreMarked [] (r ∷ records) = ⊥
AreMarked (false ∷ marks) records = AreMarked marks records
AreMarked (true ∷ marks) [] = ⊥
AreMarked (true ∷ marks) (r ∷ records) = AreMarked marks records
