-- What goes out: requests, and how long they are.
use Rattle.std.proofs.Common.{◌≡◌, ℕ, ◌*◌, ◌≤◌, List, [], ◌∷◌, ◌++◌, length, take, drop, sym, ◌∙◌, arith, All}
use Rattle.std.specs.Prelude.{Ok, Err, Result, MatchResult}
use Rattle.std.proofs.lemmas.List.{take-append-drop}
use Rattle.std.proofs.lemmas.List.Elements.{All-head, All-tail}
use Rattle.pcp_outside.specs.Sides.{SourceSide, SinkSide}
use Rattle.pcp_model.specs.Payload.{filling}
use Rattle.pdu_codec.specs.declared.pdu.Pdu.{Pdu}
use Rattle.pdu_codec.specs.Spelling.{all_lengths, text_length}
use Rattle.pmcd_client.specs.declared.faults.TalkFault.{TalkFault}
use Rattle.pmcd_client.specs.Bytes.{WroteFront, IsFront, Passes, Stops}
use Rattle.pmcd_client.specs.Pieces.{Awaits, Sends}
use Rattle.pmcd_client.specs.Turns.{Turn, requests_of}
use Rattle.pmcd_client.proofs.One.{passes_one, stops_sent}

-- the first bytes of a piece are a front of it
pub front_of_piece : (o : SinkSide) (bytes piece : List ℕ) → piece ≡ bytes → (o.tells → (n : ℕ) × (o.after ≡ o.written ++ take n piece)) → WroteFront o [] (λ front. IsFront front bytes)
front_of_piece o bytes piece is put = λ tells. (take (put tells).0 piece, (put tells).1, (drop (put tells).0 piece, sym is ∙ sym (take-append-drop (put tells).0 piece)))

-- the requests were written, and so it went
pub asked_so : (i : SourceSide) (o : SinkSide) (n : ℕ) (turn : Turn) (r : Result Pdu TalkFault) → n ≤ 18446744073709551615 → Sends o (requests_of turn) → Awaits i n turn r
    → MatchResult r (λ pdu. Passes i o (turn ∷ []) (pdu ∷ [])) (λ e. Stops i o (turn ∷ []) n [] e)
asked_so i o n turn (Ok pdu) few s w = passes_one i o n turn pdu s w
asked_so i o n turn (Err e) few s w = stops_sent i o n turn e few s w

small_filling : (n : ℕ) → filling n ≤ 3
small_filling n = omega arith

-- names of at most 400 bytes
pub few_names : (names : List (List ℕ)) → All (λ n. length n ≤ 400) names → all_lengths text_length names ≤ 407 * length names
few_names [] h = omega arith
few_names (n ∷ names) h =
    let here : length n ≤ 400 = All-head (λ m. length m ≤ 400) n names h in
    let rest = few_names names (All-tail (λ m. length m ≤ 400) n names h) in
    let some = small_filling (length n) in
    omega arith
