-- The domains so far and those that are left are all.
use Rattle.std.proofs.Common.{◌≡◌, ◌++◌, map}
use Rattle.fetch_answers.specs.Answers.{domains_in}
use Rattle.fetch_answers.specs.Readings.{reading_of}
use Rattle.fetch_answers.proofs.facts.domains_in.Given as goal

abbrev pub invariant-loop-indom : goal.invariant-loop-indom
invariant-loop-indom l = l.domains ++ domains_in (map reading_of l.regions) l.indom-iterator ≡ domains_in (map reading_of l.regions) l.indoms.keys
