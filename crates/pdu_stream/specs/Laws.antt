-- Of any stream.
use Rattle.std.specs.Prelude.{◌≡◌, ℕ, List, Option}
use Rattle.pdu_stream.specs.Streams.{Splits, IsStop}

-- where no further PDU stands whole behind those that a stream was split into, they are all that can be had of it
abbrev pub StreamSplitsOneWay : Type 0
StreamSplitsOneWay = (stream : List ℕ) (pdus others : List (List ℕ)) (rest left : List ℕ) (bad worse : Option ℕ)
    → Splits stream pdus rest → IsStop rest bad → Splits stream others left → IsStop left worse → (pdus ≡ others) × (rest ≡ left) × (bad ≡ worse)
