-- The components so far and those of the names from the place on are all of them; and each time fewer names are left.
use Rattle.std.proofs.Common.{◌≡◌, fold, length}
use Rattle.pmns_core.specs.Below.{with_child, children}
use Rattle.pmns_core.specs.Tables.{pairs_of, parts_of, AreTextParts}
use Rattle.pmns_core.proofs.Tables.{from_front}
use Rattle.pmns_core.proofs.Ranges.{taken}
use Rattle.pmns_core.proofs.below.parts_below.Given as goal

abbrev pub invariant-loop-key : goal.invariant-loop-key
invariant-loop-key l =
    AreTextParts (parts_of l.parts)
    × (fold (with_child l.front.items) (parts_of l.parts) (taken l.front.items (from_front l.at.items l.table.entries)) ≡ children (pairs_of l.table) l.front.items)

abbrev pub decreases-loop-key : goal.decreases-loop-key
decreases-loop-key l = length (from_front l.at.items l.table.entries)
