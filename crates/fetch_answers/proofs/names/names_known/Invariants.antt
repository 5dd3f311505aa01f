-- The regions so far.
use Rattle.std.proofs.Common.{◌≡◌, take}
use Rattle.fetch_answers.specs.Names.{names_of, missed_of}
use Rattle.fetch_answers.proofs.names.names_known.Given as goal

abbrev pub invariant-loop-region : goal.invariant-loop-region
invariant-loop-region l = record {
  names : l.named.names ≡ names_of (take l.region-index l.regions);
  missing : l.named.missing ≡ missed_of (take l.region-index l.regions);
}
