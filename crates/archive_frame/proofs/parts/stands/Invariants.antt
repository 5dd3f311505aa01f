-- What was looked at is as wanted.
use Rattle.std.proofs.Common.{◌≡◌, ◌≤◌, length, take}
use Rattle.archive_frame.proofs.parts.stands.Given as goal

abbrev pub invariant-loop-i : goal.invariant-loop-i
invariant-loop-i l = record { within : l.i ≤ length l.rest; same : take l.i l.rest ≡ take l.i l.wanted }
