-- What is read of the whole payload is what it spells.
use Rattle.std.proofs.Common.{◌≡◌, ℕ, ◌+◌, ◌<◌, ◌≤◌, cond, ltb, List, [], ◌∷◌, ◌++◌, length, take, drop, Result, Ok, Err, refl, sym, ap, ◌∙◌, subst, arith}
use Rattle.std.specs.Prelude.{IfOk}
use Rattle.std.proofs.lemmas.Bool.{ltb-true, ltb-false}
use Rattle.std.proofs.lemmas.List.{take_at}
use Rattle.pcp_base.proofs.Bytes.{IsBytes}
use Rattle.pcp_base.specs.Time.{Moment, IsMoment}
use Rattle.pcp_base.specs.Typed.{TypedBytes}
use Rattle.pcp_base.specs.declared.result.ValueSet.{ValueSet}
use Rattle.pcp_base.specs.declared.result.PmResult.{PmResult}
use Rattle.pcp_model.specs.Words.{word}
use Rattle.pcp_model.specs.Payload.{offset_byte, block_length, blocks_of, set_words, sets_length, head_length, result_head, reach, BlocksStand, IsPayload}
use Rattle.result_form.specs.declared.fault.FormFault.{FormFault}
use Rattle.result_form.specs.declared.fault.FormFault.TheVariants.{Stamp, Count, Trailing}
use Rattle.result_form.specs.Decoding.{◌>>=◌, Gives, word_at, word_below, stamp_of, sets_end, sets_from, payload_result}
use Rattle.result_form.proofs.Spans.{bind_ok, guard_ok, only_ok, ok_is, Spans, joined, word_takes}
use Rattle.result_form.proofs.SetsRead.{sets_takes, sets_grow}

below_ok : (bytes : List ℕ) (at bound n : ℕ) (fault : FormFault) → word_below bytes at bound fault ≡ Ok n → (word_at bytes at ≡ Ok n) × (n < bound)
below_ok bytes at bound n fault e =
    let a = bind_ok (word_at bytes at) (λ m. cond (ltb m bound) (Ok m) (Err fault)) n e in
    let g = only_ok (ltb a.0 bound) fault a.0 n a.2 in
    (a.1 ∙ ap Ok g.1, subst (λ m. m < bound) g.1 (ltb-true a.0 bound g.0))

record StampRead (bytes : List ℕ) (t : Moment) : Type 0 where
  sec : Spans bytes 0 (word t.sec) 4
  usec : Spans bytes 4 (word t.usec) 8
  moment : IsMoment t

stamp_takes : (bytes : List ℕ) (t : Moment) → IsBytes bytes → stamp_of bytes ≡ Ok t → StampRead bytes t
unfolding stamp_of
stamp_takes bytes t fits e =
    let a = bind_ok (word_below bytes 0 2147483648 (Stamp 0)) (λ sec. word_below bytes 4 1000000 (Stamp 4) >>= λ usec. Ok (record { sec = sec; usec = usec })) t e in
    let b = bind_ok (word_below bytes 4 1000000 (Stamp 4)) (λ usec. Ok (record { sec = a.0; usec = usec })) t a.2 in
    let one = below_ok bytes 0 2147483648 a.0 (Stamp 0) a.1 in
    let two = below_ok bytes 4 1000000 b.0 (Stamp 4) b.1 in
    let made : Moment = record { sec = a.0; usec = b.0 } in
    let first = word_takes bytes 0 4 a.0 fits refl one.0 in
    let second = word_takes bytes 4 8 b.0 fits refl two.0 in
    subst (StampRead bytes) (ok_is made t b.2) (record { sec = first.0; usec = second.0; moment = record { sec = one.1; usec = two.1 } })

pub least_reach : (end : ℕ) (offsets : List ℕ) (blocks : List TypedBytes) → end ≤ reach end offsets blocks
least_reach end [] blocks = omega arith
least_reach end (offset ∷ offsets) [] = omega arith
least_reach end (offset ∷ offsets) (b ∷ blocks) = omega (arith, least_reach end offsets blocks)

reach_within : (bytes : List ℕ) (end : ℕ) (offsets : List ℕ) (blocks : List TypedBytes) → end ≤ length bytes → BlocksStand bytes end offsets blocks → reach end offsets blocks ≤ length bytes
reach_within bytes end [] blocks h stand = omega arith
reach_within bytes end (offset ∷ offsets) [] h stand = absurd (stand tt)
reach_within bytes end (offset ∷ offsets) (b ∷ blocks) h stand =
    let within : offset_byte offset + block_length b ≤ length bytes = stand.0.within in
    omega (arith, within, reach_within bytes end offsets blocks h stand.1)

front_of : (bytes text : List ℕ) (n : ℕ) → Spans bytes 0 text n → take n bytes ≡ text
front_of bytes text n s = ap (take n) s.cut ∙ take_at text (drop n bytes) n (let e : length text ≡ n = omega (arith, s.size) in e)

pub payload_takes : (bytes : List ℕ) (r : PmResult) → IsBytes bytes → payload_result bytes ≡ Ok r → IsPayload bytes r
unfolding payload_result
payload_takes bytes r fits e =
    let a = bind_ok (stamp_of bytes)
    (λ stamp. word_below bytes 8 2147483648 (Count 8) >>= λ count. sets_end bytes count 12 >>= λ end. sets_from bytes end end count 12
    >>= λ read. cond (ltb read.1 (length bytes)) (Err (Trailing read.1)) (Ok (record { stamp = stamp; sets = read.0 }))) r e in
    let b = bind_ok (word_below bytes 8 2147483648 (Count 8))
    (λ count. sets_end bytes count 12 >>= λ end. sets_from bytes end end count 12
    >>= λ read. cond (ltb read.1 (length bytes)) (Err (Trailing read.1)) (Ok (record { stamp = a.0; sets = read.0 }))) r a.2 in
    let c = bind_ok (sets_end bytes b.0 12) (λ end. sets_from bytes end end b.0 12 >>= λ read. cond (ltb read.1 (length bytes)) (Err (Trailing read.1)) (Ok (record { stamp = a.0; sets = read.0 }))) r b.2 in
    let d = bind_ok (sets_from bytes c.0 c.0 b.0 12) (λ read. cond (ltb read.1 (length bytes)) (Err (Trailing read.1)) (Ok (record { stamp = a.0; sets = read.0 }))) r c.2 in
    let sets : List ValueSet = d.0.0 in
    let made : PmResult = record { stamp = a.0; sets = sets } in
    let g = guard_ok (ltb d.0.1 (length bytes)) (Trailing d.0.1) made r d.2 in
    let stamp = stamp_takes bytes a.0 fits a.1 in
    let many = below_ok bytes 8 2147483648 b.0 (Count 8) b.1 in
    let number = word_takes bytes 8 12 b.0 fits refl many.0 in
    let grown : 12 ≤ c.0 = sets_grow bytes b.0 12 c.0 fits c.1 in
    let q = sets_takes bytes c.0 c.0 b.0 12 d.0 fits (omega arith) number.0.within d.1 in
    let end : c.0 ≡ head_length made = ok_is c.0 (12 + sets_length sets) (sym c.1 ∙ q.ends) in
    let words : List ℕ = set_words q.offsets sets in
    let counted : Spans bytes 8 (word (length sets)) 12 = subst (λ n. Spans bytes 8 (word n) 12) (sym q.count) number.0 in
    let head : Spans bytes 0 (result_head q.offsets made) (head_length made) =
    joined bytes 0 4 (head_length made) (word a.0.sec) (word a.0.usec ++ (word (length sets) ++ words)) stamp.sec
    (joined bytes 4 8 (head_length made) (word a.0.usec) (word (length sets) ++ words) stamp.usec (joined bytes 8 12 (head_length made) (word (length sets)) words counted q.spans)) in
    let ended : length bytes ≤ d.0.1 = ltb-false _ _ g.0 in
    let inside : reach c.0 q.offsets (blocks_of sets) ≤ length bytes = reach_within bytes c.0 q.offsets (blocks_of sets) (let h : c.0 ≤ length bytes = omega (arith, q.spans.within, end) in h) q.stand in
    let whole : length bytes ≡ reach c.0 q.offsets (blocks_of sets) = omega (arith, q.whole, q.grows, least_reach c.0 q.offsets (blocks_of sets)) in
    subst (IsPayload bytes) g.1
    (record {
      range = record { moment = stamp.moment; few = subst (λ n. n < 2147483648) (sym q.count) many.1; sets = q.fits };
      offsets = q.offsets;
      head = front_of bytes (result_head q.offsets made) (head_length made) head;
      blocks = subst (λ n. BlocksStand bytes n q.offsets (blocks_of sets)) end q.stand;
      whole = subst (λ n. length bytes ≡ reach n q.offsets (blocks_of sets)) end whole;
    })

pub is_found : (bytes : List ℕ) (result : Result PmResult FormFault) → IsBytes bytes → Gives result (payload_result bytes) → IfOk result (λ r. IsPayload bytes r)
is_found bytes (Ok r) fits given = payload_takes bytes r fits given
is_found bytes (Err e) fits given = tt
