-- What a call found of each object outside, and left of it.
use Rattle.std.specs.Prelude.{ℕ, List}
use Rattle.pcp_base.specs.Time.{Moment}
use Rattle.pcp_outside.specs.declared.streams.Source.{Ghosts as SourceGhosts}
use Rattle.pcp_outside.specs.declared.streams.Sink.{Ghosts as SinkGhosts}
use Rattle.pcp_outside.specs.declared.clocks.Clock.{Ghosts as ClockGhosts}

-- of a source: the bytes left before and after, where it tells them; and its count of faults
pub record SourceSide : Type 1 where
  pub tells : Type 0
  pub left : List ℕ
  pub after : List ℕ
  pub faults : ℕ
  pub faults_after : ℕ

abbrev pub source_side : {I : Type 0} → SourceGhosts I → I → I → SourceSide
source_side g old new = record { tells = g.tells; left = g.left old; after = g.left new; faults = g.faults old; faults_after = g.faults new }

-- of a sink: the bytes written before and after
pub record SinkSide : Type 1 where
  pub tells : Type 0
  pub written : List ℕ
  pub after : List ℕ
  pub faults : ℕ
  pub faults_after : ℕ

abbrev pub sink_side : {O : Type 0} → SinkGhosts O → O → O → SinkSide
sink_side g old new = record { tells = g.tells; written = g.written old; after = g.written new; faults = g.faults old; faults_after = g.faults new }

-- of a clock: the moments left before and after
pub record ClockSide : Type 1 where
  pub tells : Type 0
  pub left : List Moment
  pub after : List Moment
  pub faults : ℕ
  pub faults_after : ℕ

abbrev pub clock_side : {C : Type 0} → ClockGhosts C → C → C → ClockSide
clock_side g old new = record { tells = g.tells; left = g.left old; after = g.left new; faults = g.faults old; faults_after = g.faults new }
