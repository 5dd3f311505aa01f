-- The order in which the records of domains are kept: by domain, by moment, by position.
use Rattle.std.specs.declared.cmp.Ordering.{Ordering}
use Rattle.std.specs.Ordering.{nat_cmp, ordering_then}
use Rattle.archive_meta.specs.declared.moments.Listing.{Listing}

abbrev pub moment_order : Listing → Listing → Ordering
moment_order a b = ordering_then (ordering_then (nat_cmp a.indom b.indom) (nat_cmp a.from b.from)) (nat_cmp a.at b.at)
