-- Pairs and blocks: what is read stands so, and what stands so is read.
use Rattle.std.proofs.Common.{◌≡◌, ℕ, ℤ, zero, suc, ◌+◌, ◌-◌, ◌*◌, ◌/◌, ◌%◌, ◌<◌, ◌≤◌, Bool, true, false, cond, ltb, max, List, [], ◌∷◌, ◌++◌, length, get_or, take, drop, Result, Ok, Err, refl, sym, ap, ◌∙◌, subst, append_assoc, arith}
use Rattle.std.specs.Prelude.{FitsSigned, ◌||◌}
use Rattle.std.specs.Int.{w32, to_be_bytes}
use Rattle.std.specs.List.{AllByRecursion}
use Rattle.std.proofs.Math.Seq.{take-append-add}
use Rattle.std.proofs.lemmas.Bool.{ltb-false, le-ltb}
use Rattle.std.proofs.lemmas.List.{take_at, take-append-drop, length-append, length-take, length-drop}
use Rattle.std.proofs.lemmas.Nat.{be_bytes_4}
use Rattle.pcp_base.proofs.Bytes.{IsBytes, IsBytes-drop}
use Rattle.pcp_base.specs.Typed.{TypedBytes}
use Rattle.pcp_model.specs.Words.{word, signed_word, length-word, length-signed_word}
use Rattle.pcp_model.specs.Payload.{three_bytes, block_head, block_length, offset_byte, pair_blocks, value_pairs, offset_pairs, reach, BlockStands, BlocksStand}
use Rattle.result_form.specs.declared.fault.FormFault.{FormFault}
use Rattle.result_form.specs.declared.fault.FormFault.TheVariants.{Offset, Block}
use Rattle.result_form.specs.Decoding.{◌>>=◌, word_at, pair_at, values_from, block_of_head, padded_size, block_at, offset_block, offset_pair, blocks_from}
use Rattle.result_form.proofs.Spans.{bind_ok, guard_ok, ok_is, neither, Spans, nothing, joined, word_takes, word_again, behind_word, pair_takes, pair_again}

pub moved : (bytes : List ℕ) (at : ℕ) (text : List ℕ) (next other : ℕ) → next ≡ other → Spans bytes at text next → Spans bytes at text other
moved bytes at text next other e s = subst (λ n. Spans bytes at text n) e s

-- a test that did not fail, and what came behind it
passed : {A : Type 0} (b : Bool) (d : FormFault) (r : Result A FormFault) (y : A) → cond b (Err d) r ≡ Ok y → (b ≡ false) × (r ≡ Ok y)
passed true d r y e = absurd cc
passed false d r y e = (refl, e)

passes : {A : Type 0} (a b : Bool) (d : FormFault) (r : Result A FormFault) → a ≡ false → b ≡ false → cond (a || b) (Err d) r ≡ r
passes true b d r e f = absurd cc
passes false true d r e f = absurd cc
passes false false d r e f = refl

-- ---- values in place

pub record ValuesRead (bytes : List ℕ) (n at : ℕ) (pairs : List (ℤ × ℕ)) : Type 0 where
  pub spans : Spans bytes at (value_pairs pairs) (at + 8 * n)
  pub count : length pairs ≡ n
  pub fits : AllByRecursion (λ p. FitsSigned w32 p.0 × (p.1 < 4294967296)) pairs

pub values_takes : (bytes : List ℕ) (n at : ℕ) (pairs : List (ℤ × ℕ)) → IsBytes bytes → at ≤ length bytes → values_from bytes n at ≡ Ok pairs → ValuesRead bytes n at pairs
unfolding values_from
values_takes bytes zero at pairs fits within e =
    subst (ValuesRead bytes 0 at) (ok_is [] pairs e) (record { spans = nothing bytes at (at + 8 * 0) (omega arith) within; count = refl; fits = tt })
values_takes bytes (suc n) at pairs fits within e =
    let a = bind_ok (pair_at bytes at) (λ pair. values_from bytes n (at + 8) >>= λ others. Ok (pair ∷ others)) pairs e in
    let b = bind_ok (values_from bytes n (at + 8)) (λ others. Ok (a.0 ∷ others)) pairs a.2 in
    let p = pair_takes bytes at a.0 fits a.1 in
    let q = values_takes bytes n (at + 8) b.0 fits p.second.within b.1 in
    let next : ℕ = at + 8 + 8 * n in
    let whole : Spans bytes at (value_pairs (a.0 ∷ b.0)) next =
    joined bytes at (at + 4) next (signed_word a.0.0) (word a.0.1 ++ value_pairs b.0) p.first (joined bytes (at + 4) (at + 8) next (word a.0.1) (value_pairs b.0) p.second q.spans) in
    subst (ValuesRead bytes (suc n) at) (ok_is (a.0 ∷ b.0) pairs b.2)
    (record { spans = moved bytes at (value_pairs (a.0 ∷ b.0)) next (at + 8 * suc n) (omega arith) whole; count = ap suc q.count; fits = ((p.signed, p.fits), q.fits) })

regrouped : (x y z rest : List ℕ) → (x ++ (y ++ z)) ++ rest ≡ x ++ (y ++ (z ++ rest))
regrouped x y z rest = append_assoc x (y ++ z) rest ∙ ap (λ t. x ++ t) (append_assoc y z rest)

-- pairs that stand in the payload end in it
pair_room : (bytes : List ℕ) (at : ℕ) (z : ℤ) (n : ℕ) (rest : List ℕ) → drop at bytes ≡ signed_word z ++ (word n ++ rest) → at + 8 ≤ length bytes
pair_room bytes at z n rest e =
    omega (arith, ap length e, length-drop at bytes, length-append (signed_word z) (word n ++ rest), length-append (word n) rest, length-signed_word z, length-word n)

pub values_again : (bytes : List ℕ) (at : ℕ) (pairs : List (ℤ × ℕ)) (rest : List ℕ) → AllByRecursion (λ p. FitsSigned w32 p.0 × (p.1 < 4294967296)) pairs → at ≤ length bytes → drop at bytes ≡ value_pairs pairs ++ rest
    → (values_from bytes (length pairs) at ≡ Ok pairs) × (drop (at + 8 * length pairs) bytes ≡ rest) × (at + 8 * length pairs ≤ length bytes)
unfolding values_from
values_again bytes at [] rest fits within e = (refl, ap (λ k. drop k bytes) (let n : at + 8 * 0 ≡ at = omega arith in n) ∙ e, omega arith)
values_again bytes at (p ∷ pairs) rest fits within e =
    let cut : drop at bytes ≡ signed_word p.0 ++ (word p.1 ++ (value_pairs pairs ++ rest)) = e ∙ regrouped (signed_word p.0) (word p.1) (value_pairs pairs) rest in
    let one = pair_again bytes at p (value_pairs pairs ++ rest) fits.0.0 fits.0.1 cut in
    let more = values_again bytes (at + 8) pairs rest fits.1 (pair_room bytes at p.0 p.1 (value_pairs pairs ++ rest) cut) one.1 in
    (rw (one.0, more.0) refl, ap (λ k. drop k bytes) (let n : at + 8 * suc (length pairs) ≡ at + 8 + 8 * length pairs = omega arith in n) ∙ more.1, omega (arith, more.2))

-- ---- blocks

head_cells : (code size : ℕ) → code < 256 → (i : ℕ) → get_or (code ∷ three_bytes size) i 0 < 256
head_cells code size h zero = h
head_cells code size h (suc zero) = omega arith
head_cells code size h (suc (suc zero)) = omega arith
head_cells code size h (suc (suc (suc zero))) = omega arith
head_cells code size h (suc (suc (suc (suc i)))) = omega arith

-- a block's first word
head_word : (head code size : ℕ) → head ≡ code * 16777216 + size → code < 256 → size < 16777216 → word head ≡ code ∷ three_bytes size
unfolding word
head_word head code size e h k = be_bytes_4 (code ∷ three_bytes size) head refl (head_cells code size h) (omega arith)

take_behind : (n k : ℕ) (rest : List ℕ) → take (4 + k) (word n ++ rest) ≡ word n ++ take k rest
unfolding word
take_behind n k rest = take-append-add (to_be_bytes w32 n) rest k

record BlockRead (bytes : List ℕ) (at : ℕ) (x : TypedBytes × ℕ) : Type 0 where
  is : take (4 + length x.0.bytes) (drop at bytes) ≡ block_head x.0 ++ x.0.bytes
  within : at + block_length x.0 ≤ length bytes
  ends : x.1 ≡ at + block_length x.0
  small : length x.0.bytes ≤ 16777211

block_takes : (bytes : List ℕ) (at : ℕ) (x : TypedBytes × ℕ) → IsBytes bytes → block_at bytes at ≡ Ok x → BlockRead bytes at x
unfolding block_at
block_takes bytes at x fits e =
    let a = bind_ok (word_at bytes at) (λ head. cond (ltb (head % 16777216) 4 || ltb (length bytes) (at + padded_size head)) (Err (Block at)) (Ok (block_of_head bytes at head, at + padded_size head))) x e in
    let head : ℕ = a.0 in
    let k : ℕ = head % 16777216 - 4 in
    let w = word_takes bytes at (at + 4) head fits refl a.1 in
    let g = guard_ok (ltb (head % 16777216) 4 || ltb (length bytes) (at + padded_size head)) (Block at) (block_of_head bytes at head, at + padded_size head) x a.2 in
    let n = neither (ltb (head % 16777216) 4) (ltb (length bytes) (at + padded_size head)) g.0 in
    let least : 4 ≤ head % 16777216 = ltb-false _ _ n.0 in
    let room : at + padded_size head ≤ length bytes = ltb-false _ _ n.1 in
    let kept : List ℕ = take k (drop (at + 4) bytes) in
    let long : length kept ≡ k = omega (arith, length-take k (drop (at + 4) bytes), length-drop (at + 4) bytes) in
    let first : word head ≡ (head / 16777216) ∷ three_bytes (head % 16777216) = head_word head (head / 16777216) (head % 16777216) (omega arith) (omega (arith, w.1)) (omega arith) in
    let size : head % 16777216 ≡ 4 + length kept = omega arith in
    subst (BlockRead bytes at) g.1
    (record {
      is = ap (λ m. take (4 + m) (drop at bytes)) long ∙ ap (take (4 + k)) w.0.cut ∙ take_behind head k (drop (at + 4) bytes)
          ∙ ap (λ t. t ++ kept) (first ∙ ap (λ m. (head / 16777216) ∷ three_bytes m) size);
      within = omega arith;
      ends = omega arith;
      small = omega arith;
    })

abbrev block_of : ℕ → List ℕ → TypedBytes
block_of code bytes = record { code = code; bytes = bytes }

same_block : (c d : ℕ) (x y : List ℕ) → c ≡ d → x ≡ y → block_of c x ≡ block_of d y
same_block c d x y e f = cc

block_again : (bytes : List ℕ) (at : ℕ) (b : TypedBytes) → IsBytes bytes → take (4 + length b.bytes) (drop at bytes) ≡ block_head b ++ b.bytes → at + block_length b ≤ length bytes → length b.bytes ≤ 16777211
    → block_at bytes at ≡ Ok (b, at + block_length b)
unfolding block_at
block_again bytes at b fits is within small =
    let n : ℕ = length b.bytes in
    let behind : List ℕ = drop (4 + n) (drop at bytes) in
    let all : drop at bytes ≡ block_head b ++ (b.bytes ++ behind) = sym (take-append-drop (4 + n) (drop at bytes)) ∙ ap (λ t. t ++ behind) is ∙ append_assoc (block_head b) b.bytes behind in
    let code : b.code < 256 = subst (λ t. get_or t 0 0 < 256) all (IsBytes-drop at bytes fits 0) in
    let head : ℕ = b.code * 16777216 + (4 + n) in
    let first : word head ≡ block_head b = head_word head b.code (4 + n) refl code (omega arith) in
    let cut : drop at bytes ≡ word head ++ (b.bytes ++ behind) = all ∙ ap (λ t. t ++ (b.bytes ++ behind)) (sym first) in
    let read : word_at bytes at ≡ Ok head = word_again bytes at head (b.bytes ++ behind) (omega arith) cut in
    let low : head % 16777216 ≡ 4 + n = omega arith in
    let high : head / 16777216 ≡ b.code = omega arith in
    let kept : take (head % 16777216 - 4) (drop (at + 4) bytes) ≡ b.bytes = ap (λ m. take (m - 4) (drop (at + 4) bytes)) low ∙ ap (λ t. take (4 + n - 4) t) (behind_word bytes at (at + 4) head (b.bytes ++ behind) refl cut) ∙ take_at b.bytes behind (4 + n - 4) (omega arith) in
    let end : at + padded_size head ≡ at + block_length b = omega arith in
    let made : block_of_head bytes at head ≡ b = same_block (head / 16777216) b.code (take (head % 16777216 - 4) (drop (at + 4) bytes)) b.bytes high kept in
    let least : ltb (head % 16777216) 4 ≡ false = le-ltb _ _ (omega arith) in
    let room : ltb (length bytes) (at + padded_size head) ≡ false = le-ltb _ _ (omega arith) in
    ap (λ r. r >>= λ h. cond (ltb (h % 16777216) 4 || ltb (length bytes) (at + padded_size h)) (Err (Block at)) (Ok (block_of_head bytes at h, at + padded_size h))) read
    ∙ passes (ltb (head % 16777216) 4) (ltb (length bytes) (at + padded_size head)) (Block at) (Ok (block_of_head bytes at head, at + padded_size head)) least room
    ∙ ap (λ t. Ok (t, at + padded_size head)) made ∙ ap (λ m. Ok (b, m)) end

pub record OffsetRead (bytes : List ℕ) (sets_end at : ℕ) (x : (ℤ × TypedBytes) × ℕ) : Type 0 where
  pub offset : ℕ
  pub first : Spans bytes at (signed_word x.0.0) (at + 4)
  pub second : Spans bytes (at + 4) (word offset) (at + 8)
  pub signed : FitsSigned w32 x.0.0
  pub stands : BlockStands bytes sets_end offset x.0.1
  pub small : length x.0.1.bytes ≤ 16777211
  pub ends : x.1 ≡ offset_byte offset + block_length x.0.1

offset_takes : (bytes : List ℕ) (sets_end at : ℕ) (x : (ℤ × TypedBytes) × ℕ) → IsBytes bytes → 0 < sets_end → offset_pair bytes sets_end at ≡ Ok x → OffsetRead bytes sets_end at x
unfolding offset_pair offset_block
offset_takes bytes sets_end at x fits some e =
    let a = bind_ok (pair_at bytes at) (λ pair. offset_block bytes sets_end (at + 4) pair.1 >>= λ found. Ok ((pair.0, found.0), found.1)) x e in
    let b = bind_ok (offset_block bytes sets_end (at + 4) a.0.1) (λ found. Ok ((a.0.0, found.0), found.1)) x a.2 in
    let offset : ℕ = a.0.1 in
    let p = pair_takes bytes at a.0 fits a.1 in
    let g = passed (ltb (offset_byte offset) sets_end || ltb (length bytes) (offset_byte offset + 4)) (Offset (at + 4)) (block_at bytes (offset_byte offset)) b.0 b.1 in
    let n = neither (ltb (offset_byte offset) sets_end) (ltb (length bytes) (offset_byte offset + 4)) g.0 in
    let behind : sets_end ≤ offset_byte offset = ltb-false _ _ n.0 in
    let q = block_takes bytes (offset_byte offset) b.0 fits g.1 in
    subst (OffsetRead bytes sets_end at) (ok_is ((a.0.0, b.0.0), b.0.1) x b.2)
    (record {
      offset = offset;
      first = p.first;
      second = p.second;
      signed = p.signed;
      stands = record { word_fits = p.fits; behind = (omega arith, behind); within = q.within; is = q.is };
      small = q.small;
      ends = q.ends;
    })

offset_again : (bytes : List ℕ) (sets_end at offset : ℕ) (b : TypedBytes) → IsBytes bytes → BlockStands bytes sets_end offset b → length b.bytes ≤ 16777211 → offset_block bytes sets_end at offset ≡ Ok (b, offset_byte offset + block_length b)
unfolding offset_block
offset_again bytes sets_end at offset b fits stands small =
    let within : offset_byte offset + block_length b ≤ length bytes = stands.within in
    passes (ltb (offset_byte offset) sets_end) (ltb (length bytes) (offset_byte offset + 4)) (Offset at) (block_at bytes (offset_byte offset)) (le-ltb _ _ stands.behind.1) (le-ltb _ _ (omega arith))
    ∙ block_again bytes (offset_byte offset) b fits stands.is within small

-- no pair takes an offset
no_pairs : (offsets : List ℕ) → offset_pairs offsets [] ≡ []
no_pairs [] = refl
no_pairs (offset ∷ offsets) = refl

-- Pairs and their blocks, and behind them further blocks at further offsets.
pub record BlocksRead (bytes : List ℕ) (sets_end reached n at : ℕ) (x : List (ℤ × TypedBytes) × ℕ) (others : List ℕ) (more : List TypedBytes) : Type 0 where
  pub offsets : List ℕ
  pub spans : Spans bytes at (offset_pairs offsets x.0) (at + 8 * n)
  pub count : length x.0 ≡ n
  pub fits : AllByRecursion (λ p. FitsSigned w32 p.0 × (length p.1.bytes ≤ 16777211)) x.0
  pub stand : BlocksStand bytes sets_end offsets (pair_blocks x.0 ++ more)
  pub behind : drop (length (pair_blocks x.0)) offsets ≡ others
  pub grows : reached ≤ x.1
  pub whole : max reached (reach sets_end offsets (pair_blocks x.0 ++ more)) ≡ max x.1 (reach sets_end others more)

pub blocks_takes : (bytes : List ℕ) (sets_end reached n at : ℕ) (x : List (ℤ × TypedBytes) × ℕ) (others : List ℕ) (more : List TypedBytes) → IsBytes bytes → 0 < sets_end → at ≤ length bytes → BlocksStand bytes sets_end others more
    → blocks_from bytes sets_end reached n at ≡ Ok x → BlocksRead bytes sets_end reached n at x others more
unfolding blocks_from
blocks_takes bytes sets_end reached zero at x others more fits some within stand e =
    subst (λ y. BlocksRead bytes sets_end reached 0 at y others more) (ok_is ([], reached) x e)
    (record {
      offsets = others;
      spans = subst (λ t. Spans bytes at t (at + 8 * 0)) (sym (no_pairs others)) (nothing bytes at (at + 8 * 0) (omega arith) within);
      count = refl;
      fits = tt;
      stand = stand;
      behind = refl;
      grows = omega arith;
      whole = refl;
    })
blocks_takes bytes sets_end reached (suc n) at x others more fits some within stand e =
    let a = bind_ok (offset_pair bytes sets_end at) (λ first. blocks_from bytes sets_end (max reached first.1) n (at + 8) >>= λ rest. Ok (first.0 ∷ rest.0, rest.1)) x e in
    let b = bind_ok (blocks_from bytes sets_end (max reached a.0.1) n (at + 8)) (λ rest. Ok (a.0.0 ∷ rest.0, rest.1)) x a.2 in
    let p = offset_takes bytes sets_end at a.0 fits some a.1 in
    let q = blocks_takes bytes sets_end (max reached a.0.1) n (at + 8) b.0 others more fits some p.second.within stand b.1 in
    let next : ℕ = at + 8 + 8 * n in
    let text : List ℕ = offset_pairs q.offsets b.0.0 in
    let whole : Spans bytes at (signed_word a.0.0.0 ++ (word p.offset ++ text)) next = joined bytes at (at + 4) next (signed_word a.0.0.0) (word p.offset ++ text) p.first (joined bytes (at + 4) (at + 8) next (word p.offset) text p.second q.spans) in
    subst (λ y. BlocksRead bytes sets_end reached (suc n) at y others more) (ok_is (a.0.0 ∷ b.0.0, b.0.1) x b.2)
    (record {
      offsets = p.offset ∷ q.offsets;
      spans = moved bytes at (signed_word a.0.0.0 ++ (word p.offset ++ text)) next (at + 8 * suc n) (omega arith) whole;
      count = ap suc q.count;
      fits = ((p.signed, p.small), q.fits);
      stand = (p.stands, q.stand);
      behind = q.behind;
      grows = omega (arith, q.grows);
      whole = omega (arith, q.whole, p.ends);
    })

pub record BlocksAgain (bytes : List ℕ) (sets_end reached at : ℕ) (pairs : List (ℤ × TypedBytes)) (offsets : List ℕ) (more : List TypedBytes) (rest : List ℕ) : Type 0 where
  pub end : ℕ
  pub read : blocks_from bytes sets_end reached (length pairs) at ≡ Ok (pairs, end)
  pub stand : BlocksStand bytes sets_end (drop (length (pair_blocks pairs)) offsets) more
  pub behind : drop (at + 8 * length pairs) bytes ≡ rest
  pub room : at + 8 * length pairs ≤ length bytes
  pub grows : reached ≤ end
  pub whole : max reached (reach sets_end offsets (pair_blocks pairs ++ more)) ≡ max end (reach sets_end (drop (length (pair_blocks pairs)) offsets) more)

pub blocks_again : (bytes : List ℕ) (sets_end reached at : ℕ) (pairs : List (ℤ × TypedBytes)) (offsets : List ℕ) (more : List TypedBytes) (rest : List ℕ) → IsBytes bytes → AllByRecursion (λ p. FitsSigned w32 p.0 × (length p.1.bytes ≤ 16777211)) pairs
    → BlocksStand bytes sets_end offsets (pair_blocks pairs ++ more) → at ≤ length bytes → drop at bytes ≡ offset_pairs offsets pairs ++ rest → BlocksAgain bytes sets_end reached at pairs offsets more rest
unfolding blocks_from offset_pair
blocks_again bytes sets_end reached at [] offsets more rest fits in_range stand within e = record {
  end = reached;
  read = refl;
  stand = stand;
  behind = ap (λ k. drop k bytes) (let n : at + 8 * 0 ≡ at = omega arith in n) ∙ e ∙ ap (λ t. t ++ rest) (no_pairs offsets);
  room = omega arith;
  grows = omega arith;
  whole = refl;
}
blocks_again bytes sets_end reached at (p ∷ pairs) [] more rest fits in_range stand within e = absurd (stand tt)
blocks_again bytes sets_end reached at (p ∷ pairs) (offset ∷ offsets) more rest fits in_range stand within e =
    let text : List ℕ = offset_pairs offsets pairs in
    let cut : drop at bytes ≡ signed_word p.0 ++ (word offset ++ (text ++ rest)) = e ∙ regrouped (signed_word p.0) (word offset) text rest in
    let one = pair_again bytes at (p.0, offset) (text ++ rest) in_range.0.0 stand.0.word_fits cut in
    let found : offset_block bytes sets_end (at + 4) offset ≡ Ok (p.1, offset_byte offset + block_length p.1) = offset_again bytes sets_end (at + 4) offset p.1 fits stand.0 in_range.0.1 in
    let q = blocks_again bytes sets_end (max reached (offset_byte offset + block_length p.1)) (at + 8) pairs offsets more rest fits in_range.1 stand.1 (pair_room bytes at p.0 offset (text ++ rest) cut) one.1 in
    record {
      end = q.end;
      read = rw (one.0, found, q.read) refl;
      stand = q.stand;
      behind = ap (λ k. drop k bytes) (let n : at + 8 * suc (length pairs) ≡ at + 8 + 8 * length pairs = omega arith in n) ∙ q.behind;
      room = omega (arith, q.room);
      grows = omega (arith, q.grows);
      whole = omega (arith, q.whole);
    }
