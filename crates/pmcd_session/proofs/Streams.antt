-- What pieces of a stream bring, and how it goes on behind them.
use Rattle.std.proofs.Common.{◌≡◌, ℕ, ◌+◌, ◌<◌, List, [], ◌++◌, length, Some, None, refl, sym, ap, ◌∙◌, subst, arith}
use Rattle.std.specs.Prelude.{Ok}
use Rattle.std.proofs.lemmas.List.{append-nil, length-append}
use Rattle.pdu_stream.specs.State.{State}
use Rattle.pdu_stream.specs.Streams.{Splits, IsBegun, IsBad}
use Rattle.pdu_stream.specs.Reading.{GivesSome, HasComeTo, HasRead}
use Rattle.pdu_stream.specs.declared.phase.Phase.{Phase}
use Rattle.pdu_stream.specs.declared.phase.Phase.TheVariants.{Open, Bad, Lost}
use Rattle.pdu_stream.proofs.OneWay.{same}
use Rattle.pmcd_session.specs.Going.{Brings}

-- a length word that no PDU has stands behind the PDUs
pub bad_behind : (stream : List ℕ) (given : List (List ℕ)) (new : State) (found : ℕ) → new.phase ≡ Bad found → HasRead stream given new → (rest : List ℕ) × Splits stream given rest × IsBad rest found
bad_behind stream given new found is h = subst (λ (p : Phase). HasComeTo stream given p new.rest) is h

-- of what was read, the PDUs stand in front
pub splits_at : (stream : List ℕ) (given : List (List ℕ)) (p : Phase) (kept : List ℕ) → HasComeTo stream given p kept → (rest : List ℕ) × Splits stream given rest
splits_at stream given Open kept h = (kept, h.0)
splits_at stream given (Bad found) kept h = (h.0, h.1)
splits_at stream given Lost kept h = absurd h

unended : (stream : List ℕ) (given : List (List ℕ)) (rest : List ℕ) → Splits (stream ++ []) given rest → Splits stream given rest
unended stream given rest s = subst (λ (t : List ℕ). Splits t given rest) (append-nil stream) s

-- a piece without a byte brings nothing to a stream that is open
open_at : (stream : List ℕ) (given pdus : List (List ℕ)) (rest : List ℕ) (p : Phase) (kept : List ℕ) → Splits stream given rest → IsBegun rest
    → HasComeTo (stream ++ []) (given ++ pdus) p kept → GivesSome p pdus → (p ≡ Open) × Splits stream given kept × IsBegun kept
open_at stream given pdus rest Open kept s begun h some =
    let t : Splits stream (given ++ pdus) kept = unended stream (given ++ pdus) kept h.0 in
    let one = same given (given ++ pdus) rest kept None None s.whole t.whole begun h.1 (sym s.is ∙ t.is) in
    (refl, subst (λ (r : List ℕ). Splits stream given r) one.1 s, h.1)
open_at stream given pdus rest (Bad found) kept s begun h some =
    let t : Splits stream (given ++ pdus) h.0 = unended stream (given ++ pdus) h.0 h.1 in
    let one = same given (given ++ pdus) rest h.0 None (Some found) s.whole t.whole begun h.2 (sym s.is ∙ t.is) in
    let none : length given ≡ length given + length pdus = ap (λ (l : List (List ℕ)). length l) one.0 ∙ length-append given pdus in
    let more : 0 < length pdus = some in
    absurd (omega arith)
open_at stream given pdus rest Lost kept s begun h some = absurd h

was_open : (stream : List ℕ) (given : List (List ℕ)) (old : State) → old.phase ≡ Open → HasRead stream given old → Splits stream given old.rest × IsBegun old.rest
was_open stream given old is h = subst (λ (p : Phase). HasComeTo stream given p old.rest) is h

pub stays_open : (stream : List ℕ) (given pdus : List (List ℕ)) (old new : State) → HasRead stream given old → Brings (stream ++ []) given old new (Ok pdus)
    → (new.phase ≡ Open) × Splits stream given new.rest × IsBegun new.rest
stays_open stream given pdus old new h b =
    let s = was_open stream given old b.0 h in
    open_at stream given pdus old.rest new.phase new.rest s.0 s.1 b.1 b.2
