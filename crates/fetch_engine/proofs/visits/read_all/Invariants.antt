-- So many regions were read; the passes of the others are as they were, and each keeps what was read last.
use Rattle.std.proofs.Common.{◌≡◌, length, map, take}
use Rattle.std.specs.Prelude.{IfSome}
use Rattle.fetch_engine.specs.Kept.{AreKept, AreNamesOf, kept_in}
use Rattle.fetch_answers.specs.Readings.{reading_of}
use Rattle.fetch_engine.proofs.Visited.{HasRead}
use Rattle.fetch_engine.proofs.visits.read_all.Given as goal

abbrev pub invariant-loop-at : goal.invariant-loop-at
invariant-loop-at l = record {
  read : HasRead l.at l.rows l.initial.passes.items l.passes.items (kept_in l.initial.known.items l.initial.spares.items) (kept_in l.known.items l.spares.items) (map reading_of (take l.at l.known.items));
  kept : AreKept l.passes.items (kept_in l.known.items l.spares.items);
  many : length l.spares.items ≡ length l.known.items;
  named : IfSome l.still (AreNamesOf l.known.items);
}
