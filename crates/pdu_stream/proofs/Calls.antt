-- What is taken of a buffer is what a call answers.
use Rattle.std.proofs.Common.{◌≡◌, true, false, zero, suc, ℕ, ◌<◌, List, [], ◌∷◌, ◌++◌, length, Ok, Err, Some, None, refl, sym, ap, ◌∙◌, subst, arith}
use Rattle.std.specs.Prelude.{Bool, ◌==◌, if◌then◌else◌, Option, Result}
use Rattle.std.proofs.lemmas.Bool.{eqb-true, eqb-false}
use Rattle.pdu_stream.specs.declared.phase.Phase.{Phase}
use Rattle.pdu_stream.specs.declared.phase.Phase.TheVariants.{Open, Bad, Lost}
use Rattle.pdu_stream.specs.declared.fault.StreamFault.{StreamFault}
use Rattle.pdu_stream.specs.declared.fault.StreamFault.TheVariants as faults
use Rattle.pdu_stream.specs.declared.splitting.Parts.{Parts}
use Rattle.pdu_stream.specs.Streams.{IsBad, IsStop, Splits, bytes_of_pdus}
use Rattle.pdu_stream.specs.State.{State, IsKept}
use Rattle.pdu_stream.specs.Reading.{HasComeTo, HasRead, IsTaken, phase_after, answer_for, Reads, Answers}
use Rattle.pdu_stream.proofs.Pieces.{longer, bad_longer, further}

-- ---- what is taken of a buffer, and what is answered then

none_of : (pdus : List (List ℕ)) → length pdus ≡ 0 → pdus ≡ []
none_of [] e = refl
none_of (pdu ∷ pdus) e = absurd (omega arith)

some_of : (n : ℕ) → (n ≡ 0 → ⊥) → 0 < n
some_of zero h = absurd (h refl)
some_of (suc n) h = omega arith

reads_bad : (bytes rest : List ℕ) (pdus : List (List ℕ)) (found : ℕ) (b : Bool) → (length pdus == 0) ≡ b → Splits bytes pdus rest → IsBad rest found
    → Reads bytes (Bad found) rest (if b then Err (faults.BadLength found) else Ok pdus)
reads_bad bytes rest pdus found true test s bad = (refl, subst (λ t. IsBad t found) (sym (s.is ∙ ap (λ ps. bytes_of_pdus ps ++ rest) (none_of pdus (eqb-true (length pdus) 0 test)))) bad)
reads_bad bytes rest pdus found false test s bad = ((rest, s, bad), some_of (length pdus) (eqb-false (length pdus) 0 test))

reads_for : (bytes rest : List ℕ) (pdus : List (List ℕ)) (bad : Option ℕ) → Splits bytes pdus rest → IsStop rest bad
    → Reads bytes (phase_after bad) rest (answer_for pdus bad)
reads_for bytes rest pdus None s stop = ((s, stop), tt)
reads_for bytes rest pdus (Some found) s stop = reads_bad bytes rest pdus found (length pdus == 0) refl s stop

kept_for : (rest : List ℕ) (bad : Option ℕ) → IsStop rest bad → IsKept (phase_after bad) rest
kept_for rest None stop = stop
kept_for rest (Some found) stop = tt

pub reads : (bytes rest : List ℕ) (parts : Parts) (p : Phase) (r : Result (List (List ℕ)) StreamFault) → IsTaken bytes rest parts
    → p ≡ phase_after parts.bad → r ≡ answer_for parts.pdus parts.bad → Reads bytes p rest r
reads bytes rest parts p r t phase answer =
    subst (λ q. Reads bytes q rest r) (sym phase) (subst (λ x. Reads bytes (phase_after parts.bad) rest x) (sym answer) (reads_for bytes rest parts.pdus parts.bad t.0 t.1))

pub keeps : (bytes rest : List ℕ) (parts : Parts) (p : Phase) → IsTaken bytes rest parts → p ≡ phase_after parts.bad → IsKept p rest
keeps bytes rest parts p t phase = subst (λ q. IsKept q rest) (sym phase) (kept_for rest parts.bad t.1)

-- what a piece gives behind all that came before it
pub answers : (stream : List ℕ) (given : List (List ℕ)) (piece : List ℕ) (old new : State) (r : Result (List (List ℕ)) StreamFault) → old.phase ≡ Open
    → Reads (old.rest ++ piece) new.phase new.rest r → HasRead stream given old → Answers stream given piece old new r
answers stream given piece old new (Ok pdus) e reads h =
    let s = subst (λ p. HasComeTo stream given p old.rest) e h in
    (e, further stream old.rest piece given pdus new.phase new.rest s.0 reads.0, reads.1)
answers stream given piece old new (Err (faults.BadLength found)) e reads h =
    let s = subst (λ p. HasComeTo stream given p old.rest) e h in
    (reads.0, subst (λ p. HasComeTo (stream ++ piece) given p new.rest) (sym reads.0) (old.rest ++ piece, longer stream old.rest piece given s.0, reads.1))
answers stream given piece old new (Err faults.Lost) e reads h = reads
answers stream given piece old new (Err faults.NoMemory) e reads h = (e, reads)

-- a length word that no PDU has stays where it is
pub bad_answers : (stream : List ℕ) (given : List (List ℕ)) (piece : List ℕ) (old : State) (found : ℕ) → old.phase ≡ Bad found
    → HasRead stream given old → Answers stream given piece old old (Err (faults.BadLength found))
bad_answers stream given piece old found e h =
    let s = subst (λ p. HasComeTo stream given p old.rest) e h in
    (e, subst (λ p. HasComeTo (stream ++ piece) given p old.rest) (sym e) (s.0 ++ piece, longer stream s.0 piece given s.1, bad_longer s.0 piece found s.2))

pub lost_answers : (stream : List ℕ) (given : List (List ℕ)) (piece : List ℕ) (old : State) → old.phase ≡ Lost
    → HasRead stream given old → Answers stream given piece old old (Err faults.Lost)
lost_answers stream given piece old e h = subst (λ p. HasComeTo stream given p old.rest) e h

-- ---- the same, of the two fields that are kept

pub answers_from : (stream : List ℕ) (given : List (List ℕ)) (piece : List ℕ) (old : State) (phase : Phase) (rest : List ℕ) (new : State) (r : Result (List (List ℕ)) StreamFault)
    → record { phase = phase; rest = rest } ≡ old → phase ≡ Open → Reads (rest ++ piece) new.phase new.rest r → HasRead stream given old → Answers stream given piece old new r
answers_from stream given piece old phase rest new r view e reads =
    let s : State = record { phase = phase; rest = rest } in
    subst (λ o. HasRead stream given o → Answers stream given piece o new r) view (answers stream given piece s new r e reads)

pub bad_from : (stream : List ℕ) (given : List (List ℕ)) (piece : List ℕ) (old : State) (phase : Phase) (rest : List ℕ) (found : ℕ)
    → record { phase = phase; rest = rest } ≡ old → phase ≡ Bad found → HasRead stream given old → Answers stream given piece old old (Err (faults.BadLength found))
bad_from stream given piece old phase rest found view e =
    let s : State = record { phase = phase; rest = rest } in
    subst (λ o. HasRead stream given o → Answers stream given piece o o (Err (faults.BadLength found))) view (bad_answers stream given piece s found e)

pub lost_from : (stream : List ℕ) (given : List (List ℕ)) (piece : List ℕ) (old : State) (phase : Phase) (rest : List ℕ)
    → record { phase = phase; rest = rest } ≡ old → phase ≡ Lost → HasRead stream given old → Answers stream given piece old old (Err faults.Lost)
lost_from stream given piece old phase rest view e =
    let s : State = record { phase = phase; rest = rest } in
    subst (λ o. HasRead stream given o → Answers stream given piece o o (Err faults.Lost)) view (lost_answers stream given piece s e)
