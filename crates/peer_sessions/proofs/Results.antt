-- A result that was written as a reply is read as it was, with any stamp that two words can tell.
use Rattle.std.proofs.Common.{◌≡◌, ℕ, ◌+◌, ◌<◌, ◌≤◌, List, [], ◌++◌, length, drop, sym, ap, ◌∙◌, subst, append_assoc, arith}
use Rattle.std.proofs.lemmas.List.{take-append-drop}
use Rattle.pcp_base.specs.Time.{Moment, IsMoment}
use Rattle.pcp_base.specs.declared.result.PmResult.{PmResult}
use Rattle.pcp_base.specs.declared.result.ValueSet.{ValueSet}
use Rattle.pcp_model.specs.Words.{word, length-word}
use Rattle.pcp_model.specs.Payload.{IsPayload, ResultInRange, blocks_bytes, blocks_of, head_length, offsets_from, payload, payload_length, set_words, sets_length}
use Rattle.pcp_model.proofs.OneItem.{one_payload}
use Rattle.pcp_model.proofs.Spelled.{is_payload}
use Rattle.pcp_model.proofs.Unique.{both, both_words}
use Rattle.pdu_codec.specs.declared.pdu.Pdu.TheVariants as pdus
use Rattle.pdu_codec.specs.Bodies.{IsPdu}
use Rattle.pdu_codec.specs.Spelling.{pdu_bytes}
use Rattle.peer_sessions.proofs.Spelled.{body_is}

-- a result's sets with another stamp
abbrev pub stamped : Moment → List ValueSet → PmResult
stamped t sets = record { stamp = t; sets = sets }

-- what stands behind the stamp
abbrev behind : List ValueSet → List ℕ
behind sets = (word (length sets) ++ set_words (offsets_from (12 + sets_length sets) (blocks_of sets)) sets) ++ blocks_bytes (blocks_of sets)

opened : (a b : List ℕ) (x y : List ℕ) → (a ++ (b ++ x)) ++ y ≡ a ++ (b ++ (x ++ y))
opened a b x y = append_assoc a (b ++ x) y ∙ ap (λ (t : List ℕ). a ++ t) (append_assoc b x y)

payload_is : (a : PmResult) → payload a ≡ word a.stamp.sec ++ (word a.stamp.usec ++ behind a.sets)
unfolding payload
payload_is a = opened (word a.stamp.sec) (word a.stamp.usec) (word (length a.sets) ++ set_words (offsets_from (12 + sets_length a.sets) (blocks_of a.sets)) a.sets) (blocks_bytes (blocks_of a.sets))

-- the words of the stamp that is read
pub record StampWords (a r : PmResult) : Type 0 where
  pub sec : word a.stamp.sec ≡ word r.stamp.sec
  pub usec : word a.stamp.usec ≡ word r.stamp.usec

stamp_words : (a r : PmResult) → IsPayload (payload a) r → StampWords a r
stamp_words a r p =
    let sets : List ℕ = word (length r.sets) ++ set_words p.offsets r.sets in
    let rest : List ℕ = drop (head_length r) (payload a) in
    let flat : word a.stamp.sec ++ (word a.stamp.usec ++ behind a.sets) ≡ word r.stamp.sec ++ (word r.stamp.usec ++ (sets ++ rest)) =
    sym (payload_is a) ∙ sym (take-append-drop (head_length r) (payload a)) ∙ ap (λ (t : List ℕ). t ++ rest) p.head ∙ opened (word r.stamp.sec) (word r.stamp.usec) sets rest in
    let one = both (word a.stamp.sec) (word r.stamp.sec) (word a.stamp.usec ++ behind a.sets) (word r.stamp.usec ++ (sets ++ rest)) (length-word a.stamp.sec ∙ sym (length-word r.stamp.sec)) flat in
    let two = both (word a.stamp.usec) (word r.stamp.usec) (behind a.sets) (sets ++ rest) (length-word a.stamp.usec ∙ sym (length-word r.stamp.usec)) one.1 in
    record { sec = one.0; usec = two.0 }

same_payload : (a r : PmResult) → StampWords a r → payload a ≡ payload (stamped r.stamp a.sets)
same_payload a r w =
    payload_is a ∙ ap (λ (t : List ℕ). t ++ (word a.stamp.usec ++ behind a.sets)) w.sec ∙ ap (λ (t : List ℕ). word r.stamp.sec ++ (t ++ behind a.sets)) w.usec ∙ sym (payload_is (stamped r.stamp a.sets))

one_number : (m n : ℕ) → m < 2147483648 → n < 2147483648 → word m ≡ word n → m ≡ n
one_number m n a b e = (both_words m n [] [] (omega arith) (omega arith) (ap (λ (t : List ℕ). t ++ []) e)).0

one_moment : (a b : Moment) → a.sec ≡ b.sec → a.usec ≡ b.usec → a ≡ b
one_moment a b s u = ap (λ (n : ℕ). let m : Moment = record { sec = n; usec = a.usec } in m) s ∙ ap (λ (n : ℕ). let m : Moment = record { sec = b.sec; usec = n } in m) u

same_stamp : (a r : PmResult) → StampWords a r → IsMoment r.stamp → IsMoment a.stamp → r.stamp ≡ a.stamp
same_stamp a r w fits moment =
    let s : a.stamp.sec < 2147483648 = moment.sec in
    let t : r.stamp.sec < 2147483648 = fits.sec in
    let u : a.stamp.usec < 1000000 = moment.usec in
    let v : r.stamp.usec < 1000000 = fits.usec in
    one_moment r.stamp a.stamp (one_number r.stamp.sec a.stamp.sec t s (sym w.sec)) (one_number r.stamp.usec a.stamp.usec (omega arith) (omega arith) (sym w.usec))

pub result_of : (r s : PmResult) → pdus.Result r ≡ pdus.Result s → r ≡ s
result_of r s e = cc

-- the payload of the reply
pub payload_read : (a r : PmResult) → IsPdu (pdu_bytes (pdus.Result a)) (pdus.Result r) → IsPayload (payload a) r
payload_read a r s =
    let b = body_is (pdus.Result a) (pdus.Result r) s in
    subst (λ (x : PmResult). IsPayload (payload a) x) (sym (result_of r b.answer b.is)) b.payload

-- what is read of a result that was written
pub record ReadBack (a r : PmResult) : Type 0 where
  pub is : r ≡ stamped r.stamp a.sets
  pub stamp : IsMoment a.stamp → r.stamp ≡ a.stamp

pub read_back : (a r : PmResult) → IsPdu (pdu_bytes (pdus.Result a)) (pdus.Result r) → payload_length a ≤ 65536 → (IsMoment r.stamp → ResultInRange (stamped r.stamp a.sets)) → ReadBack a r
read_back a r s few range =
    let p : IsPayload (payload a) r = payload_read a r s in
    let w : StampWords a r = stamp_words a r p in
    let fits : IsMoment r.stamp = p.range.moment in
    let q : IsPayload (payload (stamped r.stamp a.sets)) (stamped r.stamp a.sets) = is_payload (stamped r.stamp a.sets) (range fits) (omega arith) in
    record {
      is = one_payload (payload a) r (stamped r.stamp a.sets) p (subst (λ (t : List ℕ). IsPayload t (stamped r.stamp a.sets)) (sym (same_payload a r w)) q);
      stamp = same_stamp a r w fits;
    }
