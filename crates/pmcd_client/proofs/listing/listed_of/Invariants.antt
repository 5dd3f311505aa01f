use Rattle.std.proofs.Common.{◌≡◌, drop}
use Rattle.archive_meta.specs.Facts.{listed_of}
use Rattle.pmcd_client.proofs.listing.listed_of.Given as goal

abbrev pub invariant-loop-listed : goal.invariant-loop-listed
invariant-loop-listed l = listed_of (drop l.listed-index l.domains) l.indom ≡ listed_of l.domains l.indom
