-- PDUs that are served one after another, up to one by which a session ends.
use Rattle.std.proofs.Common.{◌≡◌, ℕ, zero, suc, ◌+◌, ◌<◌, List, [], ◌∷◌, ◌++◌, length, take, drop, get_or, refl, sym, ap, ◌∙◌, subst, arith}
use Rattle.std.specs.Prelude.{Err}
use Rattle.std.proofs.lemmas.List.{take_more}
use Rattle.pcp_base.specs.Time.{Moment}
use Rattle.pcp_outside.specs.declared.doors.SessionEnd.{SessionEnd}
use Rattle.pmcd_session.specs.declared.standing.Standing.{Standing}
use Rattle.pmcd_session.specs.Pieces.{IsDone, ServesOne, StopsWithin}
use Rattle.pmcd_session.specs.Serving.{DoesAll, ReadsBy}
use Rattle.pmcd_session.proofs.Deeds.{one_more}

-- one more was served
pub one_served : {A : Type 0} (reads : ReadsBy A) (s between after : Standing A) (pdus : List (List ℕ)) (k : ℕ) (pdu item : List ℕ) (moments later : List Moment) (bytes said : List ℕ)
    → k < length pdus → item ≡ get_or pdus k item → pdu ≡ item
    → DoesAll reads s (take k pdus) (record { moments = moments; written = bytes; after = between }) → IsDone reads between pdu later said after
    → DoesAll reads s (take (k + 1) pdus) (record { moments = moments ++ later; written = bytes ++ said; after = after })
one_served {A = A} reads s between after pdus k pdu item moments later bytes said below is same does done =
    let more : take (k + 1) pdus ≡ take k pdus ++ pdu ∷ [] = take_more pdus k item below ∙ ap (λ (x : List ℕ). take k pdus ++ x ∷ []) (sym is ∙ sym same) in
    subst (λ (x : List (List ℕ)). DoesAll reads s x (record { moments = moments ++ later; written = bytes ++ said; after = after })) (sym more)
    (subst (λ (x : List ℕ). DoesAll reads s (take k pdus ++ pdu ∷ []) (record { moments = moments ++ later; written = bytes ++ x; after = after })) (sym done.2)
    (one_more reads s (take k pdus) pdu (record { moments = moments; written = bytes; after = between }) (record { moments = later; reply = done.0; after = after }) does done.1))

cut_at : {X : Type 0} (xs : List X) (k : ℕ) (x d : X) → k < length xs → x ≡ get_or xs k d → xs ≡ take k xs ++ x ∷ drop (suc k) xs
cut_at [] k x d below is = absurd (omega arith)
cut_at (y ∷ ys) zero x d below is = ap (λ h. h ∷ ys) (sym is)
cut_at (y ∷ ys) (suc k) x d below is = ap (λ t. y ∷ t) (cut_at ys k x d (omega arith) is)

-- the session ended by the next one
pub stops_at : {A : Type 0} (reads : ReadsBy A) (loads : A → A → Type 0) (s between after : Standing A) (pdus : List (List ℕ)) (k : ℕ) (pdu item : List ℕ) (moments later : List Moment) (bytes said : List ℕ) (end : SessionEnd)
    → k < length pdus → item ≡ get_or pdus k item → pdu ≡ item
    → DoesAll reads s (take k pdus) (record { moments = moments; written = bytes; after = between }) → ServesOne {T = Unit {0}} reads loads between pdu later said after (Err end)
    → StopsWithin reads loads s pdus (moments ++ later) (bytes ++ said) after end
stops_at reads loads s between after pdus k pdu item moments later bytes said end below is same does stops = record {
  served = take k pdus;
  pdu = pdu;
  behind = drop (suc k) pdus;
  are = cut_at pdus k pdu item below (same ∙ is);
  earlier = moments;
  last = later;
  all_moments = refl;
  replies = bytes;
  reply = said;
  all_bytes = refl;
  between = between;
  does = does;
  stops = stops;
}
