use Rattle.std.proofs.Common.{negsuc, inl, take, subst, arith}
use Rattle.std.proofs.lemmas.List.{length-take}
use Rattle.pcp_model.specs.Labels.{IsLabel, BeginsLabel}
use Rattle.archive_loading.specs.LoadFaults.{LabelStops}
use Rattle.archive_loading.proofs.PartsRead.{label_long, part_of, index_begun}
use Rattle.archive_loading.proofs.parts.index_part.Goals as goal

pub with_entries-requires-clause-label : goal.with_entries-requires-clause-label
with_entries-requires-clause-label c = subst (λ t. IsLabel t c.args.label.now (negsuc 1)) c.first_bytes-head.ensures.bytes c.in-Whole.ensures

pub with_entries-requires-clause-long : goal.with_entries-requires-clause-long
with_entries-requires-clause-long c =
    let label : IsLabel (take 132 c.args.bytes.now) c.args.label.now (negsuc 1) = subst (λ t. IsLabel t c.args.label.now (negsuc 1)) c.first_bytes-head.ensures.bytes c.in-Whole.ensures in
    omega (arith, label_long (take 132 c.args.bytes.now) c.args.label.now (negsuc 1) label, length-take 132 c.args.bytes.now)

pub returns-in-Stops : goal.returns-in-Stops
returns-in-Stops c = inl (subst (λ t. LabelStops t c.args.label.now (negsuc 1) c.in-Stops.at) c.first_bytes-head.ensures.bytes c.in-Stops.ensures)

pub returns-in_ok-no_entries-in-Part : goal.returns-in_ok-no_entries-in-Part
returns-in_ok-no_entries-in-Part c =
    index_begun c.args.bytes.now c.args.label.now c.in_ok-no_entries-in-Part.field-0 c.in_ok-no_entries-in-Part.ensures
    (part_of c.args.bytes.now c.args.label.now (negsuc 1) (subst (λ t. BeginsLabel t c.args.label.now (negsuc 1)) c.first_bytes-head.ensures.bytes c.in-Part.ensures))
