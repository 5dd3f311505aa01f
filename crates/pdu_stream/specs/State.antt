-- What is kept of a stream: how it goes on, and the bytes that were not given.
use Rattle.std.specs.Prelude.{ℕ, List}
use Rattle.pdu_stream.specs.declared.phase.Phase.{Phase}
use Rattle.pdu_stream.specs.declared.phase.Phase.TheVariants.{Open, Bad, Lost}
use Rattle.pdu_stream.specs.Streams.{IsBegun}

pub record State : Type 0 where
  pub phase : Phase
  pub rest : List ℕ

-- a stream that may go on was given up to the beginning of a PDU
abbrev pub IsKept : Phase → List ℕ → Type 0
IsKept Open rest = IsBegun rest
IsKept (Bad found) rest = Unit {0}
IsKept Lost rest = Unit {0}
