-- The payload of a result or of a mark is read as one item.
use Rattle.std.proofs.Common.{◌≡◌, ◌⊎◌, ⊎_elim, ℕ, ℤ, ◌+◌, ◌/◌, ◌%◌, ◌<◌, ◌≤◌, List, [], ◌∷◌, ◌++◌, length, take, drop, refl, sym, ap, ◌∙◌, subst, append_assoc, arith}
use Rattle.std.specs.Prelude.{FitsSigned, ◌≤ℤ◌, pos}
use Rattle.std.specs.Int.{w32, cast_unsigned}
use Rattle.std.specs.List.{AllByRecursion}
use Rattle.std.proofs.lemmas.Int.{ints}
use Rattle.std.proofs.lemmas.List.{take-append-drop, append-nil}
use Rattle.pcp_base.specs.Time.{Moment, IsMoment}
use Rattle.pcp_base.specs.Typed.{TypedBytes}
use Rattle.pcp_base.specs.Results.{HasContent}
use Rattle.pcp_base.specs.declared.result.Body.{Body}
use Rattle.pcp_base.specs.declared.result.Body.TheVariants.{InPlace, Blocks, Status}
use Rattle.pcp_base.specs.declared.result.ValueSet.{ValueSet}
use Rattle.pcp_base.specs.declared.result.PmResult.{PmResult}
use Rattle.pcp_base.specs.declared.result.Item.TheVariants.{Sample, Mark}
use Rattle.pcp_model.specs.Words.{word, signed_word}
use Rattle.pcp_model.specs.Payload.{three_bytes, block_head, pair_blocks, blocks_in, blocks_of, value_pairs, offset_pairs, offset_byte, body_words, set_words, head_length, BlockStands, BlocksStand, BodyInRange, SetInRange, IsPayload, IsItem}
use Rattle.pcp_model.proofs.Unique.{both, both_words, both_signed, word_of_signed, unsigned_low, IsReadOnce}

three : (x y z rest : List ℕ) → (x ++ (y ++ z)) ++ rest ≡ x ++ (y ++ (z ++ rest))
three x y z rest = append_assoc x (y ++ z) rest ∙ ap (λ t. x ++ t) (append_assoc y z rest)

-- ---- values in place

both_pairs : (ps qs : List (ℤ × ℕ)) (x y : List ℕ) → AllByRecursion (λ (p : ℤ × ℕ). FitsSigned w32 p.0 × (p.1 < 4294967296)) ps → AllByRecursion (λ (p : ℤ × ℕ). FitsSigned w32 p.0 × (p.1 < 4294967296)) qs
    → length ps ≡ length qs → value_pairs ps ++ x ≡ value_pairs qs ++ y → (ps ≡ qs) × (x ≡ y)
both_pairs [] [] x y fit low long is = (refl, is)
both_pairs [] (q ∷ qs) x y fit low long is = absurd (omega arith)
both_pairs (p ∷ ps) [] x y fit low long is = absurd (omega arith)
both_pairs (p ∷ ps) (q ∷ qs) x y fit low long is =
    let instance : (p.0 ≡ q.0) × (word p.1 ++ (value_pairs ps ++ x) ≡ word q.1 ++ (value_pairs qs ++ y)) =
    both_signed p.0 q.0 (word p.1 ++ (value_pairs ps ++ x)) (word q.1 ++ (value_pairs qs ++ y)) fit.0.0 low.0.0 (sym (three (signed_word p.0) (word p.1) (value_pairs ps) x) ∙ is ∙ three (signed_word q.0) (word q.1) (value_pairs qs) y) in
    let value : (p.1 ≡ q.1) × (value_pairs ps ++ x ≡ value_pairs qs ++ y) = both_words p.1 q.1 (value_pairs ps ++ x) (value_pairs qs ++ y) fit.0.1 low.0.1 instance.1 in
    let more : (ps ≡ qs) × (x ≡ y) = both_pairs ps qs x y fit.1 low.1 (omega arith) value.1 in
    let one : p ≡ q = ap (λ n. (n, p.1)) instance.0 ∙ ap (λ n. (q.0, n)) value.0 in
    (ap (λ v. v ∷ ps) one ∙ ap (λ vs. q ∷ vs) more.0, more.1)

-- ---- blocks

same_length : (m n : ℕ) → m ≤ 16777211 → n ≤ 16777211 → three_bytes (4 + m) ≡ three_bytes (4 + n) → m ≡ n
same_length m n few low is =
    let high : (4 + m) / 65536 % 256 ≡ (4 + n) / 65536 % 256 = cc in
    let middle : (4 + m) / 256 % 256 ≡ (4 + n) / 256 % 256 = cc in
    let least : (4 + m) % 256 ≡ (4 + n) % 256 = cc in
    omega arith

-- a block's front is told from any bytes behind it
block_front : (from : List ℕ) (b : TypedBytes) → take (4 + length b.bytes) from ≡ block_head b ++ b.bytes → from ≡ block_head b ++ (b.bytes ++ drop (4 + length b.bytes) from)
block_front from b is =
    sym (take-append-drop (4 + length b.bytes) from) ∙ ap (λ t. t ++ drop (4 + length b.bytes) from) is ∙ append_assoc (block_head b) b.bytes (drop (4 + length b.bytes) from)

same_block : (a b : TypedBytes) (x y : List ℕ) → length a.bytes ≤ 16777211 → length b.bytes ≤ 16777211 → block_head a ++ (a.bytes ++ x) ≡ block_head b ++ (b.bytes ++ y) → a ≡ b
same_block a b x y few low is =
    let heads : (block_head a ≡ block_head b) × (a.bytes ++ x ≡ b.bytes ++ y) = both (block_head a) (block_head b) (a.bytes ++ x) (b.bytes ++ y) refl is in
    let code : a.code ≡ b.code = let first : a.code ∷ three_bytes (4 + length a.bytes) ≡ b.code ∷ three_bytes (4 + length b.bytes) = heads.0 in cc in
    let sizes : three_bytes (4 + length a.bytes) ≡ three_bytes (4 + length b.bytes) = ap (drop 1) heads.0 in
    let content : a.bytes ≡ b.bytes = (both a.bytes b.bytes x y (same_length (length a.bytes) (length b.bytes) few low sizes) heads.1).0 in
    ap (λ n. record { code = n; bytes = a.bytes }) code ∙ ap (λ t. record { code = b.code; bytes = t }) content

-- one block stands at an offset
one_block : (bytes : List ℕ) (end last offset : ℕ) (a b : TypedBytes) → length a.bytes ≤ 16777211 → length b.bytes ≤ 16777211 → BlockStands bytes end offset a → BlockStands bytes last offset b → a ≡ b
one_block bytes end last offset a b few low p q =
    same_block a b (drop (4 + length a.bytes) (drop (offset_byte offset) bytes)) (drop (4 + length b.bytes) (drop (offset_byte offset) bytes)) few low
    (sym (block_front (drop (offset_byte offset) bytes) a p.is) ∙ block_front (drop (offset_byte offset) bytes) b q.is)

-- behind the blocks of one set stand those of the next
later_stand : (bytes : List ℕ) (end : ℕ) (offsets : List ℕ) (first more : List TypedBytes) → BlocksStand bytes end offsets (first ++ more) → BlocksStand bytes end (drop (length first) offsets) more
later_stand bytes end offsets [] more stand = stand
later_stand bytes end [] (b ∷ first) more stand = absurd (stand tt)
later_stand bytes end (offset ∷ offsets) (b ∷ first) more stand = later_stand bytes end offsets first more stand.1

both_blocks : (bytes : List ℕ) (end last : ℕ) (at to : List ℕ) (ps qs : List (ℤ × TypedBytes)) (more others : List TypedBytes) (x y : List ℕ)
    → AllByRecursion (λ (p : ℤ × TypedBytes). FitsSigned w32 p.0 × (length p.1.bytes ≤ 16777211)) ps → AllByRecursion (λ (p : ℤ × TypedBytes). FitsSigned w32 p.0 × (length p.1.bytes ≤ 16777211)) qs
    → BlocksStand bytes end at (pair_blocks ps ++ more) → BlocksStand bytes last to (pair_blocks qs ++ others) → length ps ≡ length qs → offset_pairs at ps ++ x ≡ offset_pairs to qs ++ y → (ps ≡ qs) × (x ≡ y)
both_blocks bytes end last [] [] [] [] more others x y fit low p q long is = (refl, is)
both_blocks bytes end last [] (t ∷ to) [] [] more others x y fit low p q long is = (refl, is)
both_blocks bytes end last (a ∷ at) [] [] [] more others x y fit low p q long is = (refl, is)
both_blocks bytes end last (a ∷ at) (t ∷ to) [] [] more others x y fit low p q long is = (refl, is)
both_blocks bytes end last at to [] (s ∷ qs) more others x y fit low p q long is = absurd (omega arith)
both_blocks bytes end last at to (r ∷ ps) [] more others x y fit low p q long is = absurd (omega arith)
both_blocks bytes end last [] to (r ∷ ps) (s ∷ qs) more others x y fit low p q long is = absurd (p tt)
both_blocks bytes end last (a ∷ at) [] (r ∷ ps) (s ∷ qs) more others x y fit low p q long is = absurd (q tt)
both_blocks bytes end last (a ∷ at) (t ∷ to) (r ∷ ps) (s ∷ qs) more others x y fit low p q long is =
    let instance : (r.0 ≡ s.0) × (word a ++ (offset_pairs at ps ++ x) ≡ word t ++ (offset_pairs to qs ++ y)) =
    both_signed r.0 s.0 (word a ++ (offset_pairs at ps ++ x)) (word t ++ (offset_pairs to qs ++ y)) fit.0.0 low.0.0 (sym (three (signed_word r.0) (word a) (offset_pairs at ps) x) ∙ is ∙ three (signed_word s.0) (word t) (offset_pairs to qs) y) in
    let offset : (a ≡ t) × (offset_pairs at ps ++ x ≡ offset_pairs to qs ++ y) = both_words a t (offset_pairs at ps ++ x) (offset_pairs to qs ++ y) p.0.word_fits q.0.word_fits instance.1 in
    let next : (ps ≡ qs) × (x ≡ y) = both_blocks bytes end last at to ps qs more others x y fit.1 low.1 p.1 q.1 (omega arith) offset.1 in
    let block : r.1 ≡ s.1 = one_block bytes end last a r.1 s.1 fit.0.1 low.0.1 p.0 (subst (λ n. BlockStands bytes last n s.1) (sym offset.0) q.0) in
    let one : r ≡ s = ap (λ n. (n, r.1)) instance.0 ∙ ap (λ b. (s.0, b)) block in
    (ap (λ v. v ∷ ps) one ∙ ap (λ vs. s ∷ vs) next.0, next.1)

-- ---- what a set holds

status_unsigned : (z : ℤ) → FitsSigned w32 z → z ≤ℤ pos 0 → (cast_unsigned w32 z ≡ 0) ⊎ (2147483648 ≤ cast_unsigned w32 z)
status_unsigned z fits low = grind (arith, ints)

-- a count of values isn't a status
no_status : (n : ℕ) (z : ℤ) (x y : List ℕ) → 0 < n → n < 2147483648 → FitsSigned w32 z → z ≤ℤ pos 0 → word n ++ x ≡ signed_word z ++ y → ⊥
no_status n z x y some few fits low is =
    let same : (n ≡ cast_unsigned w32 z) × (x ≡ y) = both_words n (cast_unsigned w32 z) x y (omega arith) (unsigned_low z fits) (is ∙ ap (λ t. t ++ y) (word_of_signed z)) in
    let same_number : n ≡ cast_unsigned w32 z = same.0 in
    ⊎_elim (λ (zero : cast_unsigned w32 z ≡ 0). omega arith) (λ (high : 2147483648 ≤ cast_unsigned w32 z). omega arith) (status_unsigned z fits low)

-- how many and in which way: the count and the mode
both_heads : (m n mode other : ℕ) (s t x y : List ℕ) → m < 2147483648 → n < 2147483648 → mode ≤ 1 → other ≤ 1 → (word m ++ (word mode ++ s)) ++ x ≡ (word n ++ (word other ++ t)) ++ y → (m ≡ n) × (mode ≡ other) × (s ++ x ≡ t ++ y)
both_heads m n mode other s t x y few low one two is =
    let count : (m ≡ n) × (word mode ++ (s ++ x) ≡ word other ++ (t ++ y)) =
    both_words m n (word mode ++ (s ++ x)) (word other ++ (t ++ y)) (omega arith) (omega arith) (sym (three (word m) (word mode) s x) ∙ is ∙ three (word n) (word other) t y) in
    let modes : (mode ≡ other) × (s ++ x ≡ t ++ y) = both_words mode other (s ++ x) (t ++ y) (omega arith) (omega arith) count.1 in
    (count.0, modes.0, modes.1)

module _ (bytes : List ℕ) (end last : ℕ) (at to : List ℕ) (more others : List TypedBytes) (x y : List ℕ) where
  both_bodies : (a b : Body) → HasContent a → HasContent b → BodyInRange a → BodyInRange b → BlocksStand bytes end at (blocks_in a ++ more) → BlocksStand bytes last to (blocks_in b ++ others)
      → body_words at a ++ x ≡ body_words to b ++ y → (a ≡ b) × (x ≡ y)
  both_bodies (InPlace ps) (InPlace qs) some any fit low p q is =
      let heads : (length ps ≡ length qs) × (◌≡◌ {A = ℕ} 0 0) × (value_pairs ps ++ x ≡ value_pairs qs ++ y) = both_heads (length ps) (length qs) 0 0 (value_pairs ps) (value_pairs qs) x y fit.0 low.0 (omega arith) (omega arith) is in
      let pairs : (ps ≡ qs) × (x ≡ y) = both_pairs ps qs x y fit.1 low.1 heads.0 heads.2 in
      (ap InPlace pairs.0, pairs.1)
  both_bodies (InPlace ps) (Blocks qs) some any fit low p q is =
      let heads : (length ps ≡ length qs) × (◌≡◌ {A = ℕ} 0 1) × (value_pairs ps ++ x ≡ offset_pairs to qs ++ y) = both_heads (length ps) (length qs) 0 1 (value_pairs ps) (offset_pairs to qs) x y fit.0 low.0 (omega arith) (omega arith) is in
      absurd (omega (arith, heads.1))
  both_bodies (InPlace ps) (Status n) some any fit low p q is = absurd (no_status (length ps) n ((word 0 ++ value_pairs ps) ++ x) y some fit.0 low any (sym (append_assoc (word (length ps)) (word 0 ++ value_pairs ps) x) ∙ is))
  both_bodies (Blocks ps) (InPlace qs) some any fit low p q is =
      let heads : (length ps ≡ length qs) × (◌≡◌ {A = ℕ} 1 0) × (offset_pairs at ps ++ x ≡ value_pairs qs ++ y) = both_heads (length ps) (length qs) 1 0 (offset_pairs at ps) (value_pairs qs) x y fit.0 low.0 (omega arith) (omega arith) is in
      absurd (omega (arith, heads.1))
  both_bodies (Blocks ps) (Blocks qs) some any fit low p q is =
      let heads : (length ps ≡ length qs) × (◌≡◌ {A = ℕ} 1 1) × (offset_pairs at ps ++ x ≡ offset_pairs to qs ++ y) = both_heads (length ps) (length qs) 1 1 (offset_pairs at ps) (offset_pairs to qs) x y fit.0 low.0 (omega arith) (omega arith) is in
      let pairs : (ps ≡ qs) × (x ≡ y) = both_blocks bytes end last at to ps qs more others x y fit.1 low.1 p q heads.0 heads.2 in
      (ap Blocks pairs.0, pairs.1)
  both_bodies (Blocks ps) (Status n) some any fit low p q is = absurd (no_status (length ps) n ((word 1 ++ offset_pairs at ps) ++ x) y some fit.0 low any (sym (append_assoc (word (length ps)) (word 1 ++ offset_pairs at ps) x) ∙ is))
  both_bodies (Status m) (InPlace qs) some any fit low p q is = absurd (no_status (length qs) m ((word 0 ++ value_pairs qs) ++ y) x any low.0 fit some (sym (append_assoc (word (length qs)) (word 0 ++ value_pairs qs) y) ∙ sym is))
  both_bodies (Status m) (Blocks qs) some any fit low p q is = absurd (no_status (length qs) m ((word 1 ++ offset_pairs to qs) ++ y) x any low.0 fit some (sym (append_assoc (word (length qs)) (word 1 ++ offset_pairs to qs) y) ∙ sym is))
  both_bodies (Status m) (Status n) some any fit low p q is =
      let same : (m ≡ n) × (x ≡ y) = both_signed m n x y fit low is in
      (ap Status same.0, same.1)

both_sets : (bytes : List ℕ) (end last : ℕ) (at to : List ℕ) (ss ts : List ValueSet) (x y : List ℕ) → AllByRecursion SetInRange ss → AllByRecursion SetInRange ts
    → BlocksStand bytes end at (blocks_of ss) → BlocksStand bytes last to (blocks_of ts) → length ss ≡ length ts → set_words at ss ++ x ≡ set_words to ts ++ y → ss ≡ ts
both_sets bytes end last at to [] [] x y fit low p q long is = refl
both_sets bytes end last at to [] (t ∷ ts) x y fit low p q long is = absurd (omega arith)
both_sets bytes end last at to (s ∷ ss) [] x y fit low p q long is = absurd (omega arith)
both_sets bytes end last at to (s ∷ ss) (t ∷ ts) x y fit low p q long is =
    let later : List ℕ = drop (length (blocks_in s.body)) at in
    let behind : List ℕ = drop (length (blocks_in t.body)) to in
    let pmid : (s.pmid ≡ t.pmid) × (body_words at s.body ++ (set_words later ss ++ x) ≡ body_words to t.body ++ (set_words behind ts ++ y)) =
    both_words s.pmid t.pmid (body_words at s.body ++ (set_words later ss ++ x)) (body_words to t.body ++ (set_words behind ts ++ y)) fit.0.0 low.0.0
    (sym (three (word s.pmid) (body_words at s.body) (set_words later ss) x) ∙ is ∙ three (word t.pmid) (body_words to t.body) (set_words behind ts) y) in
    let body : (s.body ≡ t.body) × (set_words later ss ++ x ≡ set_words behind ts ++ y) =
    both_bodies bytes end last at to (blocks_of ss) (blocks_of ts) (set_words later ss ++ x) (set_words behind ts ++ y) s.body t.body fit.0.1 low.0.1 fit.0.2 low.0.2 p q pmid.1 in
    let more : ss ≡ ts =
    both_sets bytes end last later behind ss ts x y fit.1 low.1 (later_stand bytes end at (blocks_in s.body) (blocks_of ss) p) (later_stand bytes last to (blocks_in t.body) (blocks_of ts) q) (omega arith) body.1 in
    let one : s ≡ t = ap (λ n. record { pmid = n; body = s.body }) pmid.0 ∙ ap (λ b. record { pmid = t.pmid; body = b }) body.0 in
    ap (λ v. v ∷ ss) one ∙ ap (λ vs. t ∷ vs) more

-- ---- the whole

same_moment : (s t : Moment) → s.sec ≡ t.sec → s.usec ≡ t.usec → s ≡ t
same_moment s t sec usec = ap (λ n. record { sec = n; usec = s.usec }) sec ∙ ap (λ n. record { sec = t.sec; usec = n }) usec

-- three words in front: seconds, microseconds and a count
both_fronts : (s t : Moment) (m n : ℕ) (x y : List ℕ) → IsMoment s → IsMoment t → m < 2147483648 → n < 2147483648
    → word s.sec ++ (word s.usec ++ (word m ++ x)) ≡ word t.sec ++ (word t.usec ++ (word n ++ y)) → (s ≡ t) × (m ≡ n) × (x ≡ y)
both_fronts s t m n x y p q few low is =
    let sec : (s.sec ≡ t.sec) × (word s.usec ++ (word m ++ x) ≡ word t.usec ++ (word n ++ y)) =
    both_words s.sec t.sec (word s.usec ++ (word m ++ x)) (word t.usec ++ (word n ++ y)) (omega (arith, p.sec)) (omega (arith, q.sec)) is in
    let usec : (s.usec ≡ t.usec) × (word m ++ x ≡ word n ++ y) = both_words s.usec t.usec (word m ++ x) (word n ++ y) (omega (arith, p.usec)) (omega (arith, q.usec)) sec.1 in
    let count : (m ≡ n) × (x ≡ y) = both_words m n x y (omega arith) (omega arith) usec.1 in
    (same_moment s t sec.0 usec.0, count.0, count.1)

-- where a payload's sets begin
payload_front : (bytes : List ℕ) (r : PmResult) (p : IsPayload bytes r) → bytes ≡ word r.stamp.sec ++ (word r.stamp.usec ++ (word (length r.sets) ++ (set_words p.offsets r.sets ++ drop (head_length r) bytes)))
payload_front bytes r p =
    let rest : List ℕ = drop (head_length r) bytes in
    sym (take-append-drop (head_length r) bytes) ∙ ap (λ t. t ++ rest) p.head ∙ three (word r.stamp.sec) (word r.stamp.usec) (word (length r.sets) ++ set_words p.offsets r.sets) rest
    ∙ ap (λ t. word r.stamp.sec ++ (word r.stamp.usec ++ t)) (append_assoc (word (length r.sets)) (set_words p.offsets r.sets) rest)

pub one_payload : (bytes : List ℕ) (r s : PmResult) → IsPayload bytes r → IsPayload bytes s → r ≡ s
one_payload bytes r s p q =
    let x : List ℕ = drop (head_length r) bytes in
    let y : List ℕ = drop (head_length s) bytes in
    let fronts : (r.stamp ≡ s.stamp) × (length r.sets ≡ length s.sets) × (set_words p.offsets r.sets ++ x ≡ set_words q.offsets s.sets ++ y) =
    both_fronts r.stamp s.stamp (length r.sets) (length s.sets) (set_words p.offsets r.sets ++ x) (set_words q.offsets s.sets ++ y) p.range.moment q.range.moment p.range.few q.range.few
    (sym (payload_front bytes r p) ∙ payload_front bytes s q) in
    let sets : r.sets ≡ s.sets = both_sets bytes (head_length r) (head_length s) p.offsets q.offsets r.sets s.sets x y p.range.sets q.range.sets p.blocks q.blocks fronts.1 fronts.2 in
    ap (λ t. record { stamp = t; sets = r.sets }) fronts.0 ∙ ap (λ l. record { stamp = s.stamp; sets = l }) sets

mark_front : (t : Moment) → word t.sec ++ (word t.usec ++ word 0) ≡ word t.sec ++ (word t.usec ++ (word 0 ++ []))
mark_front t = ap (λ z. word t.sec ++ (word t.usec ++ z)) (sym (append-nil (word 0)))

-- a result has sets, a mark has none
no_mark : (bytes : List ℕ) (r : PmResult) (t : Moment) → IsItem bytes (Sample r) → IsItem bytes (Mark t) → ⊥
no_mark bytes r t p q =
    let sample : IsPayload bytes r = p.1 in
    let fronts : (r.stamp ≡ t) × (length r.sets ≡ 0) × (set_words sample.offsets r.sets ++ drop (head_length r) bytes ≡ []) =
    both_fronts r.stamp t (length r.sets) 0 (set_words sample.offsets r.sets ++ drop (head_length r) bytes) [] sample.range.moment q.0 sample.range.few (omega arith)
    (sym (payload_front bytes r sample) ∙ q.1 ∙ mark_front t) in
    let some : 0 < length r.sets = p.0 in
    let none : length r.sets ≡ 0 = fronts.1 in
    omega arith

pub one_item : IsReadOnce IsItem
one_item bytes (Sample r) (Sample s) fits p q = ap Sample (one_payload bytes r s p.1 q.1)
one_item bytes (Sample r) (Mark t) fits p q = absurd (no_mark bytes r t p q)
one_item bytes (Mark t) (Sample r) fits p q = absurd (no_mark bytes r t q p)
one_item bytes (Mark s) (Mark t) fits p q =
    ap Mark (both_fronts s t 0 0 [] [] p.0 q.0 (omega arith) (omega arith) (sym (mark_front s) ∙ sym p.1 ∙ q.1 ∙ mark_front t)).0
