-- What the whole index is.
use Rattle.std.specs.Prelude.{ℕ, List, []}
use Rattle.pcp_model.specs.Archive.{IsIndex}
use Rattle.pcp_model.specs.LabelFields.{LabelFields}
use Rattle.archive_loading.specs.declared.parts.IndexPart.{IndexPart}
use Rattle.archive_loading.specs.declared.parts.IndexPart.TheVariants.{Whole as WholeIndex, Stops as IndexStopsAt}
use Rattle.archive_loading.specs.Loaded.{contents_with}
use Rattle.archive_loading.specs.LoadFaults.{IndexStops}

abbrev pub IsIndexPart : LabelFields → List ℕ → IndexPart → Type 0
IsIndexPart l bytes (WholeIndex entries) = IsIndex bytes (contents_with l [] entries [])
IsIndexPart l bytes (IndexStopsAt offset) = IndexStops bytes l offset
