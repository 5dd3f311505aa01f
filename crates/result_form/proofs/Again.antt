-- What stands in the payload is read, and so is the whole of it.
use Rattle.std.proofs.Common.{◌≡◌, ℕ, ℤ, ◌+◌, ◌-◌, ◌*◌, ◌/◌, ◌<◌, ◌≤◌, Bool, true, false, cond, ltb, leb, eqb, max, List, [], ◌∷◌, ◌++◌, length, drop, Ok, Err, refl, sym, ap, ◌∙◌, append_assoc, arith, inl, inr}
use Rattle.std.specs.Prelude.{◌⊎◌, FitsSigned, ◌||◌, ◌≤ℤ◌, pos}
use Rattle.std.specs.Int.{w32, cast_signed, cast_unsigned}
use Rattle.std.specs.List.{AllByRecursion}
use Rattle.std.proofs.lemmas.Bool.{le-ltb, lt-ltb, eq-eqb, ne_eqb, le-leb, lt-leb}
use Rattle.std.proofs.lemmas.List.{take-append-drop, length-append, length-drop}
use Rattle.pcp_base.proofs.Bytes.{IsBytes}
use Rattle.pcp_base.specs.Time.{Moment, IsMoment}
use Rattle.pcp_base.specs.Typed.{TypedBytes}
use Rattle.pcp_base.specs.Results.{HasContent}
use Rattle.pcp_base.specs.declared.result.Body.{Body}
use Rattle.pcp_base.specs.declared.result.Body.TheVariants as bodies
use Rattle.pcp_base.specs.declared.result.ValueSet.{ValueSet}
use Rattle.pcp_base.specs.declared.result.PmResult.{PmResult}
use Rattle.pcp_model.specs.Words.{word, signed_word}
use Rattle.pcp_model.specs.Payload.{blocks_in, blocks_of, value_pairs, offset_pairs, body_words, set_words, body_length, sets_length, head_length, result_head, reach, BlocksStand, BodyInRange, SetInRange, IsPayload}
use Rattle.result_form.specs.declared.fault.FormFault.{FormFault}
use Rattle.result_form.specs.declared.fault.FormFault.TheVariants.{Short, Stamp, Count, Mode, Trailing}
use Rattle.result_form.specs.Counts.{Run, Counted}
use Rattle.result_form.specs.Decoding.{◌>>=◌, word_at, word_below, stamp_of, run_at, counted_at, run_end, end_of, set_end, sets_end, body_of, set_at, sets_from, payload_result}
use Rattle.result_form.proofs.Spans.{word_again, behind_word, unsigned_fits, signed_back, word_of_signed, status_word}
use Rattle.result_form.proofs.Pairs.{values_again, blocks_again}
use Rattle.result_form.proofs.Whole.{least_reach}

holds : {A : Type 0} (b : Bool) (x y : A) → b ≡ true → cond b x y ≡ x
holds true x y e = refl
holds false x y e = absurd cc

fails : {A : Type 0} (b : Bool) (x y : A) → b ≡ false → cond b x y ≡ y
fails true x y e = absurd cc
fails false x y e = refl

either_holds : (a b : Bool) → (a ≡ true) ⊎ (b ≡ true) → (a || b) ≡ true
either_holds true b e = refl
either_holds false b (inl e) = absurd cc
either_holds false b (inr e) = e

neither_holds : (a b : Bool) → a ≡ false → b ≡ false → (a || b) ≡ false
neither_holds true b e f = absurd cc
neither_holds false b e f = f

pub low_test : (n : ℕ) → (n ≡ 0) ⊎ (2147483648 ≤ n) → (eqb n 0 || leb 2147483648 n) ≡ true
low_test n (inl e) = either_holds (eqb n 0) (leb 2147483648 n) (inl (eq-eqb n 0 e))
low_test n (inr h) = either_holds (eqb n 0) (leb 2147483648 n) (inr (le-leb 2147483648 n h))

pub high_test : (n : ℕ) → 0 < n → n < 2147483648 → (eqb n 0 || leb 2147483648 n) ≡ false
high_test n some few = neither_holds (eqb n 0) (leb 2147483648 n) (ne_eqb n 0 (λ (e : n ≡ 0). omega arith)) (lt-leb 2147483648 n few)

three : (x y z rest : List ℕ) → (x ++ (y ++ z)) ++ rest ≡ x ++ (y ++ (z ++ rest))
three x y z rest = append_assoc x (y ++ z) rest ∙ ap (λ t. x ++ t) (append_assoc y z rest)

-- ---- what a set counts

status_again : (bytes : List ℕ) (at : ℕ) (z : ℤ) (rest : List ℕ) → FitsSigned w32 z → z ≤ℤ pos 0 → drop at bytes ≡ signed_word z ++ rest → (counted_at bytes at ≡ Ok (Counted.Status z)) × (drop (at + 4) bytes ≡ rest)
unfolding counted_at
status_again bytes at z rest fits low e =
    let n : ℕ = cast_unsigned w32 z in
    let cut : drop at bytes ≡ word n ++ rest = e ∙ ap (λ t. t ++ rest) (word_of_signed z) in
    let read : word_at bytes at ≡ Ok n = word_again bytes at n rest (unsigned_fits z fits) cut in (
      ap (λ r. r >>= λ m. cond (eqb m 0 || leb 2147483648 m) (Ok (Counted.Status (cast_signed w32 m))) (run_at bytes (at + 4) m)) read
          ∙ holds (eqb n 0 || leb 2147483648 n) (Ok (Counted.Status (cast_signed w32 n))) (run_at bytes (at + 4) n) (low_test n (status_word z fits low))
          ∙ ap (λ s. Ok (Counted.Status s)) (signed_back z fits),
      behind_word bytes at (at + 4) n rest refl cut,
    )

count_again : (bytes : List ℕ) (at n : ℕ) (rest : List ℕ) → 0 < n → n < 2147483648 → drop at bytes ≡ word n ++ rest → counted_at bytes at ≡ run_at bytes (at + 4) n
unfolding counted_at
count_again bytes at n rest some few e =
    ap (λ r. r >>= λ m. cond (eqb m 0 || leb 2147483648 m) (Ok (Counted.Status (cast_signed w32 m))) (run_at bytes (at + 4) m)) (word_again bytes at n rest (omega arith) e)
    ∙ fails (eqb n 0 || leb 2147483648 n) (Ok (Counted.Status (cast_signed w32 n))) (run_at bytes (at + 4) n) (high_test n some few)

abbrev run_made : ℕ → ℕ → Run
run_made from n = record { from = from; count = n }

abbrev run_of : ℕ → ℕ → Run
run_of at n = run_made (at + 8) n

values_run : (bytes : List ℕ) (at n : ℕ) (rest : List ℕ) → drop (at + 4) bytes ≡ word 0 ++ rest → run_at bytes (at + 4) n ≡ Ok (Counted.InPlace (run_of at n))
unfolding run_at
values_run bytes at n rest e =
    ap (λ r. r >>= λ mode. cond (eqb mode 0) (Ok (Counted.InPlace (run_made (at + 4 + 4) n))) (cond (eqb mode 1) (Ok (Counted.Blocks (run_made (at + 4 + 4) n))) (Err (Mode (at + 4))))) (word_again bytes (at + 4) 0 rest (omega arith) e)
    ∙ ap (λ f. Ok (Counted.InPlace (run_made f n))) (let h : at + 4 + 4 ≡ at + 8 = omega arith in h)

blocks_run : (bytes : List ℕ) (at n : ℕ) (rest : List ℕ) → drop (at + 4) bytes ≡ word 1 ++ rest → run_at bytes (at + 4) n ≡ Ok (Counted.Blocks (run_of at n))
unfolding run_at
blocks_run bytes at n rest e =
    ap (λ r. r >>= λ mode. cond (eqb mode 0) (Ok (Counted.InPlace (run_made (at + 4 + 4) n))) (cond (eqb mode 1) (Ok (Counted.Blocks (run_made (at + 4 + 4) n))) (Err (Mode (at + 4))))) (word_again bytes (at + 4) 1 rest (omega arith) e)
    ∙ ap (λ f. Ok (Counted.Blocks (run_made f n))) (let h : at + 4 + 4 ≡ at + 8 = omega arith in h)

run_ends : (bytes : List ℕ) (at n : ℕ) → at + 8 + 8 * n ≤ length bytes → run_end bytes (run_of at n) ≡ Ok (at + (8 + 8 * n))
run_ends bytes at n room =
    fails (ltb ((length bytes - (at + 8)) / 8) n) (Err (Short (at + 8 + (length bytes - (at + 8)) / 4 * 4))) (Ok (at + 8 + 8 * n)) (le-ltb _ _ (omega arith))
    ∙ ap (λ m. Ok m) (let h : at + 8 + 8 * n ≡ at + (8 + 8 * n) = omega arith in h)

-- ---- what a set holds

record BodyAgain (bytes : List ℕ) (end reached at : ℕ) (body : Body) (offsets : List ℕ) (more : List TypedBytes) (rest : List ℕ) : Type 0 where
  what : Counted
  counts : counted_at bytes at ≡ Ok what
  furthest : ℕ
  read : body_of bytes end reached what ≡ Ok (body, furthest)
  ends : end_of bytes at what ≡ Ok (at + body_length body)
  stand : BlocksStand bytes end (drop (length (blocks_in body)) offsets) more
  behind : drop (at + body_length body) bytes ≡ rest
  room : at + body_length body ≤ length bytes
  grows : reached ≤ furthest
  whole : max reached (reach end offsets (blocks_in body ++ more)) ≡ max furthest (reach end (drop (length (blocks_in body)) offsets) more)

-- a text that stands behind a byte of the payload has room
text_room : (bytes : List ℕ) (at : ℕ) (text rest : List ℕ) → at ≤ length bytes → drop at bytes ≡ text ++ rest → at + length text ≤ length bytes
text_room bytes at text rest h e = omega (arith, ap length e, length-drop at bytes, length-append text rest)

word_room : (bytes : List ℕ) (at n : ℕ) (rest : List ℕ) → at ≤ length bytes → drop at bytes ≡ word n ++ rest → at + 4 ≤ length bytes
unfolding word
word_room bytes at n rest h e = text_room bytes at (word n) rest h e

body_again : (bytes : List ℕ) (end reached at : ℕ) (body : Body) (offsets : List ℕ) (more : List TypedBytes) (rest : List ℕ) → IsBytes bytes → HasContent body → BodyInRange body → BlocksStand bytes end offsets (blocks_in body ++ more) → at ≤ length bytes
    → drop at bytes ≡ body_words offsets body ++ rest → BodyAgain bytes end reached at body offsets more rest
unfolding body_of
body_again bytes end reached at (bodies.Status z) offsets more rest fits content range stand within e =
    let s = status_again bytes at z rest range content e in
    record {
      what = Counted.Status z;
      counts = s.0;
      furthest = reached;
      read = refl;
      ends = refl;
      stand = stand;
      behind = s.1;
      room = word_room bytes at (cast_unsigned w32 z) rest within (e ∙ ap (λ t. t ++ rest) (word_of_signed z));
      grows = omega arith;
      whole = refl;
    }
body_again bytes end reached at (bodies.InPlace pairs) offsets more rest fits content range stand within e =
    let n : ℕ = length pairs in
    let cut : drop at bytes ≡ word n ++ (word 0 ++ (value_pairs pairs ++ rest)) = e ∙ three (word n) (word 0) (value_pairs pairs) rest in
    let cut2 : drop (at + 4) bytes ≡ word 0 ++ (value_pairs pairs ++ rest) = behind_word bytes at (at + 4) n (word 0 ++ (value_pairs pairs ++ rest)) refl cut in
    let cut3 : drop (at + 8) bytes ≡ value_pairs pairs ++ rest = behind_word bytes (at + 4) (at + 8) 0 (value_pairs pairs ++ rest) (omega arith) cut2 in
    let room1 : at + 4 ≤ length bytes = word_room bytes at n (word 0 ++ (value_pairs pairs ++ rest)) within cut in
    let room2 : at + 4 + 4 ≤ length bytes = word_room bytes (at + 4) 0 (value_pairs pairs ++ rest) room1 cut2 in
    let q = values_again bytes (at + 8) pairs rest range.1 (omega arith) cut3 in
    record {
      what = Counted.InPlace (run_of at n);
      counts = count_again bytes at n (word 0 ++ (value_pairs pairs ++ rest)) content range.0 cut ∙ values_run bytes at n (value_pairs pairs ++ rest) cut2;
      furthest = reached;
      read = ap (λ r. r >>= λ ps. Ok (bodies.InPlace ps, reached)) q.0;
      ends = run_ends bytes at n q.2;
      stand = stand;
      behind = ap (λ k. drop k bytes) (let h : at + (8 + 8 * n) ≡ at + 8 + 8 * n = omega arith in h) ∙ q.1;
      room = omega (arith, q.2);
      grows = omega arith;
      whole = refl;
    }
body_again bytes end reached at (bodies.Blocks pairs) offsets more rest fits content range stand within e =
    let n : ℕ = length pairs in
    let text : List ℕ = offset_pairs offsets pairs in
    let cut : drop at bytes ≡ word n ++ (word 1 ++ (text ++ rest)) = e ∙ three (word n) (word 1) text rest in
    let cut2 : drop (at + 4) bytes ≡ word 1 ++ (text ++ rest) = behind_word bytes at (at + 4) n (word 1 ++ (text ++ rest)) refl cut in
    let cut3 : drop (at + 8) bytes ≡ text ++ rest = behind_word bytes (at + 4) (at + 8) 1 (text ++ rest) (omega arith) cut2 in
    let room1 : at + 4 ≤ length bytes = word_room bytes at n (word 1 ++ (text ++ rest)) within cut in
    let room2 : at + 4 + 4 ≤ length bytes = word_room bytes (at + 4) 1 (text ++ rest) room1 cut2 in
    let q = blocks_again bytes end reached (at + 8) pairs offsets more rest fits range.1 stand (omega arith) cut3 in
    record {
      what = Counted.Blocks (run_of at n);
      counts = count_again bytes at n (word 1 ++ (text ++ rest)) content range.0 cut ∙ blocks_run bytes at n (text ++ rest) cut2;
      furthest = q.end;
      read = ap (λ r. r >>= λ ps. Ok (bodies.Blocks ps.0, ps.1)) q.read;
      ends = run_ends bytes at n q.room;
      stand = q.stand;
      behind = ap (λ k. drop k bytes) (let h : at + (8 + 8 * n) ≡ at + 8 + 8 * n = omega arith in h) ∙ q.behind;
      room = omega (arith, q.room);
      grows = q.grows;
      whole = q.whole;
    }

whole_set : (bytes : List ℕ) (end reached at : ℕ) (set : ValueSet) (c : Counted) (furthest : ℕ) → word_at bytes at ≡ Ok set.pmid → counted_at bytes (at + 4) ≡ Ok c → body_of bytes end reached c ≡ Ok (set.body, furthest)
    → set_at bytes end reached at ≡ Ok (set, furthest)
unfolding set_at
whole_set bytes end reached at set c furthest e f g =
    ap (λ r. r >>= λ pmid. counted_at bytes (at + 4) >>= λ body. body_of bytes end reached body >>= λ content. Ok (record { pmid = pmid; body = content.0 }, content.1)) e
    ∙ ap (λ r. r >>= λ body. body_of bytes end reached body >>= λ content. Ok (record { pmid = set.pmid; body = content.0 }, content.1)) f
    ∙ ap (λ r. r >>= λ content. Ok (record { pmid = set.pmid; body = content.0 }, content.1)) g

whole_end : (bytes : List ℕ) (at next pmid : ℕ) (c : Counted) → word_at bytes at ≡ Ok pmid → counted_at bytes (at + 4) ≡ Ok c → end_of bytes (at + 4) c ≡ Ok next → set_end bytes at ≡ Ok next
unfolding set_end
whole_end bytes at next pmid c e f g =
    ap (λ r. r >>= λ p. counted_at bytes (at + 4) >>= λ body. end_of bytes (at + 4) body) e ∙ ap (λ r. r >>= λ body. end_of bytes (at + 4) body) f ∙ g

record SetsAgain (bytes : List ℕ) (end reached at : ℕ) (sets : List ValueSet) (offsets : List ℕ) : Type 0 where
  furthest : ℕ
  read : sets_from bytes end reached (length sets) at ≡ Ok (sets, furthest)
  ends : sets_end bytes (length sets) at ≡ Ok (at + sets_length sets)
  grows : reached ≤ furthest
  whole : max reached (reach end offsets (blocks_of sets)) ≡ max furthest end

sets_again : (bytes : List ℕ) (end reached at : ℕ) (sets : List ValueSet) (offsets rest : List ℕ) → IsBytes bytes → AllByRecursion SetInRange sets → BlocksStand bytes end offsets (blocks_of sets) → at ≤ length bytes → drop at bytes ≡ set_words offsets sets ++ rest
    → SetsAgain bytes end reached at sets offsets
unfolding sets_from sets_end
sets_again bytes end reached at [] [] rest fits range stand within e = record {
  furthest = reached;
  read = refl;
  ends = ap (λ n. Ok n) (let h : at ≡ at + 0 = omega arith in h);
  grows = omega arith;
  whole = refl;
}
sets_again bytes end reached at [] (offset ∷ offsets) rest fits range stand within e = absurd (stand tt)
sets_again bytes end reached at (set ∷ sets) offsets rest fits range stand within e =
    let later : List ℕ = drop (length (blocks_in set.body)) offsets in
    let words : List ℕ = body_words offsets set.body in
    let tail : List ℕ = set_words later sets ++ rest in
    let cut : drop at bytes ≡ word set.pmid ++ (words ++ tail) = e ∙ three (word set.pmid) words (set_words later sets) rest in
    let cut2 : drop (at + 4) bytes ≡ words ++ tail = behind_word bytes at (at + 4) set.pmid (words ++ tail) refl cut in
    let first : word_at bytes at ≡ Ok set.pmid = word_again bytes at set.pmid (words ++ tail) range.0.0 cut in
    let b = body_again bytes end reached (at + 4) set.body offsets (blocks_of sets) tail fits range.0.1 range.0.2 stand (word_room bytes at set.pmid (words ++ tail) within cut) cut2 in
    let next : ℕ = at + 4 + body_length set.body in
    let q = sets_again bytes end b.furthest next sets later rest fits range.1 b.stand b.room b.behind in
    let one : set_at bytes end reached at ≡ Ok (set, b.furthest) = whole_set bytes end reached at set b.what b.furthest first b.counts b.read in
    let stop : set_end bytes at ≡ Ok next = whole_end bytes at next set.pmid b.what first b.counts b.ends in
    record {
      furthest = q.furthest;
      read = ap (λ r. r >>= λ s. set_end bytes at >>= λ n. sets_from bytes end s.1 (length sets) n >>= λ others. Ok (s.0 ∷ others.0, others.1)) one
          ∙ ap (λ r. r >>= λ n. sets_from bytes end b.furthest (length sets) n >>= λ others. Ok (set ∷ others.0, others.1)) stop
          ∙ ap (λ r. r >>= λ others. Ok (set ∷ others.0, others.1)) q.read;
      ends = ap (λ r. r >>= λ n. sets_end bytes (length sets) n) stop ∙ q.ends ∙ ap (λ n. Ok n) (let h : next + sets_length sets ≡ at + sets_length (set ∷ sets) = omega arith in h);
      grows = omega (arith, b.grows, q.grows);
      whole = b.whole ∙ q.whole;
    }

-- ---- the whole

below_again : (bytes : List ℕ) (at bound n : ℕ) (fault : FormFault) → word_at bytes at ≡ Ok n → n < bound → word_below bytes at bound fault ≡ Ok n
below_again bytes at bound n fault e lt =
    ap (λ r. r >>= λ m. cond (ltb m bound) (Ok m) (Err fault)) e ∙ holds (ltb n bound) (Ok n) (Err fault) (lt-ltb n bound lt)

stamp_again : (bytes : List ℕ) (t : Moment) → IsMoment t → word_at bytes 0 ≡ Ok t.sec → word_at bytes 4 ≡ Ok t.usec → stamp_of bytes ≡ Ok t
unfolding stamp_of
stamp_again bytes t moment sec usec =
    ap (λ r. r >>= λ s. word_below bytes 4 1000000 (Stamp 4) >>= λ u. Ok (record { sec = s; usec = u })) (below_again bytes 0 2147483648 t.sec (Stamp 0) sec moment.sec)
    ∙ ap (λ r. r >>= λ u. Ok (record { sec = t.sec; usec = u })) (below_again bytes 4 1000000 t.usec (Stamp 4) usec moment.usec)

pub payload_again : (bytes : List ℕ) (r : PmResult) → IsBytes bytes → IsPayload bytes r → payload_result bytes ≡ Ok r
unfolding payload_result
payload_again bytes r fits p =
    let size : ℕ = head_length r in
    let words : List ℕ = set_words p.offsets r.sets in
    let rest : List ℕ = drop size bytes in
    let count : ℕ = length r.sets in
    let least : size ≤ reach size p.offsets (blocks_of r.sets) = least_reach size p.offsets (blocks_of r.sets) in
    let all : bytes ≡ result_head p.offsets r ++ rest = sym (take-append-drop size bytes) ∙ ap (λ t. t ++ rest) p.head in
    let cut : drop 0 bytes ≡ word r.stamp.sec ++ ((word r.stamp.usec ++ (word count ++ words)) ++ rest) = all ∙ append_assoc (word r.stamp.sec) (word r.stamp.usec ++ (word count ++ words)) rest in
    let cut2 : drop 4 bytes ≡ word r.stamp.usec ++ (word count ++ (words ++ rest)) = behind_word bytes 0 4 r.stamp.sec ((word r.stamp.usec ++ (word count ++ words)) ++ rest) refl cut ∙ three (word r.stamp.usec) (word count) words rest in
    let cut3 : drop 8 bytes ≡ word count ++ (words ++ rest) = behind_word bytes 4 8 r.stamp.usec (word count ++ (words ++ rest)) refl cut2 in
    let cut4 : drop 12 bytes ≡ words ++ rest = behind_word bytes 8 12 count (words ++ rest) refl cut3 in
    let few : count < 2147483648 = p.range.few in
    let sec : r.stamp.sec < 2147483648 = p.range.moment.sec in
    let usec : r.stamp.usec < 1000000 = p.range.moment.usec in
    let stamp : stamp_of bytes ≡ Ok r.stamp =
    stamp_again bytes r.stamp p.range.moment (word_again bytes 0 r.stamp.sec ((word r.stamp.usec ++ (word count ++ words)) ++ rest) (omega arith) cut) (word_again bytes 4 r.stamp.usec (word count ++ (words ++ rest)) (omega arith) cut2) in
    let many : word_below bytes 8 2147483648 (Count 8) ≡ Ok count = below_again bytes 8 2147483648 count (Count 8) (word_again bytes 8 count (words ++ rest) (omega arith) cut3) few in
    let q = sets_again bytes size size 12 r.sets p.offsets rest fits p.range.sets p.blocks (omega (arith, p.whole)) cut4 in
    let reached : length bytes ≤ q.furthest = omega (arith, p.whole, q.whole, q.grows) in
    ap (λ x. x >>= λ stamp. word_below bytes 8 2147483648 (Count 8) >>= λ count. sets_end bytes count 12 >>= λ end. sets_from bytes end end count 12
    >>= λ read. cond (ltb read.1 (length bytes)) (Err (Trailing read.1)) (Ok (record { stamp = stamp; sets = read.0 }))) stamp
    ∙ ap (λ x. x >>= λ count. sets_end bytes count 12 >>= λ end. sets_from bytes end end count 12
    >>= λ read. cond (ltb read.1 (length bytes)) (Err (Trailing read.1)) (Ok (record { stamp = r.stamp; sets = read.0 }))) many
    ∙ ap (λ x. x >>= λ end. sets_from bytes end end count 12 >>= λ read. cond (ltb read.1 (length bytes)) (Err (Trailing read.1)) (Ok (record { stamp = r.stamp; sets = read.0 }))) q.ends
    ∙ ap (λ x. x >>= λ read. cond (ltb read.1 (length bytes)) (Err (Trailing read.1)) (Ok (record { stamp = r.stamp; sets = read.0 }))) q.read
    ∙ fails (ltb q.furthest (length bytes)) (Err (Trailing q.furthest)) (Ok r) (le-ltb _ _ reached)
