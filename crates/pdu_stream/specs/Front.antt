-- What stands at the front of bytes, and how far whole PDUs go on from there.
use Rattle.std.specs.Prelude.{◌≡◌, ℕ, ◌≤◌, List, length, take, drop}
use Rattle.std.specs.List.{AllByRecursion}
use Rattle.pdu_stream.specs.declared.front.Front.{Front}
use Rattle.pdu_stream.specs.declared.front.Front.TheVariants.{Whole, Begun, Bad}
use Rattle.pdu_stream.specs.declared.splitting.Parts.{Parts}
use Rattle.pdu_stream.specs.Streams.{length_word, IsPdu, IsBegun, IsBad, IsStop, bytes_of_pdus}

abbrev pub IsFront : List ℕ → Front → Type 0
IsFront bytes (Whole size) = (12 ≤ size) × (size ≤ 65536) × (size ≤ length bytes) × (length_word bytes ≡ size)
IsFront bytes Begun = IsBegun bytes
IsFront bytes (Bad found) = IsBad bytes found

-- bytes up to an offset are whole PDUs
pub record IsCut (bytes : List ℕ) (pdus : List (List ℕ)) (at : ℕ) : Type 0 where
  pub within : at ≤ length bytes
  pub front : take at bytes ≡ bytes_of_pdus pdus
  pub whole : AllByRecursion IsPdu pdus

-- and behind them none stands whole
abbrev pub IsSplit : List ℕ → Parts → Type 0
IsSplit bytes s = IsCut bytes s.pdus s.at × IsStop (drop s.at bytes) s.bad
