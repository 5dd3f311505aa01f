-- A walk over bytes that begin as a payload does: it goes with the payload, or is behind the bytes that are the same.
use Rattle.std.proofs.Common.{◌≡◌, ℕ, ℤ, ◌+◌, ◌*◌, ◌/◌, ◌%◌, ◌<◌, ◌≤◌, Bool, true, false, cond, ltb, max, List, [], ◌∷◌, ◌++◌, length, get_or, take, drop, Some, None, refl, sym, ap, ◌∙◌, subst, append_assoc, arith, inl, inr}
use Rattle.std.specs.Prelude.{◌⊎◌, min, FitsSigned}
use Rattle.std.specs.Int.{w32, cast_unsigned}
use Rattle.std.specs.List.{AllByRecursion}
use Rattle.std.proofs.lemmas.Bool.{cases_lt, ltb-true, ltb-false}
use Rattle.std.proofs.lemmas.List.{get_or-drop, get_or-take}
use Rattle.pcp_base.specs.Fields.{number_at}
use Rattle.pcp_base.specs.Typed.{TypedBytes}
use Rattle.pcp_model.specs.Words.{word, signed_word}
use Rattle.pcp_model.specs.Payload.{block_head, block_length, pair_blocks, offset_pairs, offset_byte, BlockStands, BlocksStand, reach}
use Rattle.result_form.specs.Decoding.{padded_size}
use Rattle.result_form.proofs.Spans.{behind_word, unsigned_fits, word_of_signed}
use Rattle.pdu_codec.specs.declared.misfit.Blocks.{Blocks}
use Rattle.pdu_codec.specs.ResultMisfit.{◌>>=◌, word_between, any_word, after_lead, led_by, offset_at, offsets_from}
use Rattle.pdu_codec.proofs.ResultWords.{Fate, and_on, also, Agrees, WordAt, stands, word_goes}
use Rattle.pdu_codec.proofs.ResultPast.{led_made, led_past, offsets_past}

-- What is known of the blocks so far, where these blocks of the payload are left: its sets end at or before the limit, no
-- length that is the same is too small, and of the same bytes none lies behind all blocks.
pub record Blocked (bytes : List ℕ) (n end : ℕ) (b : Blocks) (offsets : List ℕ) (blocks : List TypedBytes) : Type 0 where
  pub limit : (end ≤ b.limit) ⊎ (b.limit ≡ 68719476736)
  pub stop : n ≤ b.stop
  pub far : (b.is_open ≡ true) ⊎ ((b.stop < length bytes) ⊎ (n ≤ max b.reach (reach end offsets blocks)))

limited : (end limit begin : ℕ) → (end ≤ limit) ⊎ (limit ≡ 68719476736) → end ≤ begin → begin ≤ 17179869168 → (end ≤ min limit begin) ⊎ (min limit begin ≡ 68719476736)
limited end limit begin (inl h) behind low = inl (omega arith)
limited end limit begin (inr h) behind low = inl (omega arith)

-- a word of the bytes, byte by byte
pub four : (xs : List ℕ) (p : ℕ) → number_at xs p ≡ get_or xs p 0 * 16777216 + get_or xs (p + 1) 0 * 65536 + get_or xs (p + 2) 0 * 256 + get_or xs (p + 3) 0
four xs p =
    let a : get_or (take 4 (drop p xs)) 0 0 ≡ get_or xs (p + 0) 0 = get_or-take 4 (drop p xs) 0 0 (omega arith) ∙ get_or-drop p xs 0 0 in
    let b : get_or (take 4 (drop p xs)) 1 0 ≡ get_or xs (p + 1) 0 = get_or-take 4 (drop p xs) 1 0 (omega arith) ∙ get_or-drop p xs 1 0 in
    let c : get_or (take 4 (drop p xs)) 2 0 ≡ get_or xs (p + 2) 0 = get_or-take 4 (drop p xs) 2 0 (omega arith) ∙ get_or-drop p xs 2 0 in
    let d : get_or (take 4 (drop p xs)) 3 0 ≡ get_or xs (p + 3) 0 = get_or-take 4 (drop p xs) 3 0 (omega arith) ∙ get_or-drop p xs 3 0 in
    let here : get_or xs (p + 0) 0 ≡ get_or xs p 0 = ap (λ i. get_or xs i 0) (let h : p + 0 ≡ p = omega arith in h) in
    omega (arith, a, b, c, d, here)

sized : (m v x y z size : ℕ) → m ≡ v * 16777216 + x * 65536 + y * 256 + z → x ≡ size / 65536 % 256 → y ≡ size / 256 % 256 → z ≡ size % 256 → size < 16777216 → m % 16777216 ≡ size
sized m v x y z size is b c d low = omega arith

module _ (bytes t : List ℕ) (n : ℕ) (a : Agrees bytes t n) where
  -- the length in the head of a block
  head_size : (end offset : ℕ) (block : TypedBytes) → BlockStands t end offset block → length block.bytes ≤ 16777211 → offset_byte offset + 4 ≤ n → number_at bytes (offset_byte offset) % 16777216 ≡ 4 + length block.bytes
  head_size end offset block s few in_it =
      let p : ℕ = offset_byte offset in
      let size : ℕ = 4 + length block.bytes in
      let here : List ℕ = drop p t in
      let text : List ℕ = block_head block ++ block.bytes in
      let b : get_or bytes (p + 1) 0 ≡ size / 65536 % 256 = a.same (p + 1) (omega arith) ∙ sym (get_or-drop p t 1 0) ∙ sym (get_or-take size here 1 0 (omega arith)) ∙ ap (λ x. get_or x 1 0) s.is in
      let c : get_or bytes (p + 2) 0 ≡ size / 256 % 256 = a.same (p + 2) (omega arith) ∙ sym (get_or-drop p t 2 0) ∙ sym (get_or-take size here 2 0 (omega arith)) ∙ ap (λ x. get_or x 2 0) s.is in
      let d : get_or bytes (p + 3) 0 ≡ size % 256 = a.same (p + 3) (omega arith) ∙ sym (get_or-drop p t 3 0) ∙ sym (get_or-take size here 3 0 (omega arith)) ∙ ap (λ x. get_or x 3 0) s.is in
      sized (number_at bytes p) (get_or bytes p 0) (get_or bytes (p + 1) 0) (get_or bytes (p + 2) 0) (get_or bytes (p + 3) 0) size (four bytes p) b c d (omega arith)

  led_some : (end offset head : ℕ) (block : TypedBytes) (b : Blocks) (offsets : List ℕ) (blocks : List TypedBytes) (small : Bool) → BlockStands t end offset block → (offset_byte offset + 4 ≤ n → head % 16777216 ≡ 4 + length block.bytes)
      → offset_byte offset + 4 ≤ length bytes → (small ≡ true → head % 16777216 < 4) → (small ≡ false → 4 ≤ head % 16777216) → Blocked bytes n end b (offset ∷ offsets) (block ∷ blocks)
      → Blocked bytes n end (cond small (led_made b (offset_byte offset) (min b.stop (offset_byte offset + 3)) b.reach) (led_made b (offset_byte offset) b.stop (max b.reach (offset_byte offset + padded_size head)))) offsets blocks
  led_some end offset head block b offsets blocks true s size room low high h =
      let begin : ℕ = offset_byte offset in
      let behind : end ≤ begin = s.behind.1 in
      let fits : offset < 4294967296 = s.word_fits in
      let stop : n ≤ b.stop = h.stop in
      let short : head % 16777216 < 4 = low refl in
      let late : n ≤ begin + 3 = elim (cases_lt n (begin + 4)) [ inl lt ↦ omega arith | inr le ↦ let same : head % 16777216 ≡ 4 + length block.bytes = size le in absurd (omega arith) ] in
      record { limit = limited end b.limit begin h.limit behind (omega arith); stop = omega arith; far = inr (inl (omega arith)) }
  led_some end offset head block b offsets blocks false s size room low high h =
      let begin : ℕ = offset_byte offset in
      let behind : end ≤ begin = s.behind.1 in
      let fits : offset < 4294967296 = s.word_fits in
      let long : 4 ≤ head % 16777216 = high refl in
      let left : ℕ = reach end offsets blocks in
      let ends : (n ≤ begin + padded_size head) ⊎ (begin + block_length block ≡ begin + padded_size head) =
      elim (cases_lt n (begin + 4)) [ inl lt ↦ inl (omega arith) | inr le ↦ let same : head % 16777216 ≡ 4 + length block.bytes = size le in inr (omega arith) ] in
      record {
        limit = limited end b.limit begin h.limit behind (omega arith);
        stop = h.stop;
        far = elim h.far [
          | inl e ↦ inl e
          | inr (inl e) ↦ inr (inl e)
          | inr (inr e) ↦ inr (inr (further begin left b.reach (block_length block) (padded_size head) e ends))
        ];
      }
    where
      further : (begin left r k m : ℕ) → n ≤ max r (max (begin + k) left) → (n ≤ begin + m) ⊎ (begin + k ≡ begin + m) → n ≤ max (max r (begin + m)) left
      further begin left r k m e (inl f) = omega arith
      further begin left r k m e (inr f) = omega arith

  led_here : (end offset : ℕ) (block : TypedBytes) (b : Blocks) (offsets : List ℕ) (blocks : List TypedBytes) → BlockStands t end offset block → length block.bytes ≤ 16777211 → Blocked bytes n end b (offset ∷ offsets) (block ∷ blocks) → Blocked bytes n end (led_by bytes b offset) offsets blocks
  led_here end offset block b offsets blocks s few h = led_on (ltb (length bytes) (offset_byte offset + 4)) refl
    where
      led_on : (short : Bool) → ltb (length bytes) (offset_byte offset + 4) ≡ short → Blocked bytes n end (after_lead bytes b (offset_byte offset) (cond short None (Some (number_at bytes (offset_byte offset))))) offsets blocks
      led_on true e = let behind : end ≤ offset_byte offset = s.behind.1 in let fits : offset < 4294967296 = s.word_fits in record { limit = limited end b.limit (offset_byte offset) h.limit behind (omega arith); stop = h.stop; far = inl refl }
      led_on false e = led_some end offset (number_at bytes (offset_byte offset)) block b offsets blocks (ltb (number_at bytes (offset_byte offset) % 16777216) 4) s (head_size end offset block s few) (ltb-false (length bytes) (offset_byte offset + 4) e) (ltb-true _ _) (ltb-false _ _) h

  -- the walk over pairs goes with these, or is past
  abbrev pub BlocksOn : ℕ → ℕ → List ℕ → List TypedBytes → Blocks → Type 0
  BlocksOn end last offsets blocks c = (Blocked bytes n end c offsets blocks) ⊎ ((n ≤ last) × (n ≤ c.stop))

  pub offsets_here : (end least last at : ℕ) (b : Blocks) (pairs : List (ℤ × TypedBytes)) (offsets : List ℕ) (more : List TypedBytes) (rest : List ℕ) → least ≤ end → last ≤ least → at + 8 * length pairs ≡ last
      → AllByRecursion (λ p. FitsSigned w32 p.0 × (length p.1.bytes ≤ 16777211)) pairs → BlocksStand t end offsets (pair_blocks pairs ++ more) → drop at t ≡ offset_pairs offsets pairs ++ rest
      → Blocked bytes n end b offsets (pair_blocks pairs ++ more) → Fate n (BlocksOn end last (drop (length (pair_blocks pairs)) offsets) more) (offsets_from bytes least b (length pairs) at)
  unfolding offsets_from offset_at
  offsets_here end least last at b [] offsets more rest low under is range stand cut h = inl h
  offsets_here end least last at b (p ∷ pairs) [] more rest low under is range stand cut h = absurd (stand tt)
  offsets_here end least last at b (p ∷ pairs) (offset ∷ offsets) more rest low under is range stand cut h =
      let text : List ℕ = offset_pairs offsets pairs in
      let one : BlockStands t end offset p.1 = stand.0 in
      let number : ℕ = cast_unsigned w32 p.0 in
      let cut1 : drop at t ≡ word number ++ (word offset ++ (text ++ rest)) =
      cut ∙ append_assoc (signed_word p.0) (word offset ++ text) rest ∙ ap (λ x. signed_word p.0 ++ x) (append_assoc (word offset) text rest) ∙ ap (λ x. x ++ (word offset ++ (text ++ rest))) (word_of_signed p.0) in
      let cut2 : drop (at + 4) t ≡ word offset ++ (text ++ rest) = behind_word t at (at + 4) number (word offset ++ (text ++ rest)) refl cut1 in
      let cut3 : drop (at + 8) t ≡ text ++ rest = behind_word t (at + 4) (at + 8) offset (text ++ rest) (omega arith) cut2 in
      let fits : offset < 4294967296 = one.word_fits in
      let three : 3 ≤ offset = one.behind.0 in
      let behind : end ≤ offset_byte offset = one.behind.1 in
      let first : WordAt t at number = stands t (word offset ++ (text ++ rest)) at number (unsigned_fits p.0 range.0.0) cut1 in
      let second : WordAt t (at + 4) offset = stands t (text ++ rest) (at + 4) offset fits cut2 in
      and_on n (λ x. (3 + least / 4 ≤ x) × ((x ≡ offset) ⊎ (n ≤ at + 4 + 4))) (BlocksOn end last (drop (length (pair_blocks pairs)) offsets) more) (any_word bytes at >>= λ instance. word_between bytes (at + 4) (3 + least / 4) 4294967295) _
      (and_on n (λ x. (0 ≤ x) × ((x ≡ number) ⊎ (n ≤ at + 4))) (λ x. (3 + least / 4 ≤ x) × ((x ≡ offset) ⊎ (n ≤ at + 4 + 4))) (any_word bytes at) _ (word_goes bytes t n a at 0 4294967295 number first (omega arith) (omega (arith, first.low)))
      (λ x q. word_goes bytes t n a (at + 4) (3 + least / 4) 4294967295 offset second (omega arith) (omega arith)))
      (λ x q. elim q.1 [
        | inl e ↦ let led = led_here end offset p.1 b offsets (pair_blocks pairs ++ more) one range.0.1 h in
            subst (λ o. Fate n (BlocksOn end last (drop (length (pair_blocks pairs)) offsets) more) (offsets_from bytes least (led_by bytes b o) (length pairs) (at + 8))) (sym e)
            (offsets_here end least last (at + 8) (led_by bytes b offset) pairs offsets more rest low under (omega arith) range.1 stand.1 cut3 led)
        | inr e ↦ let big : 3 + least / 4 ≤ x = q.0 in
            also n (λ (c : Blocks). n ≤ c.stop) (BlocksOn end last (drop (length (pair_blocks pairs)) offsets) more) (offsets_from bytes least (led_by bytes b x) (length pairs) (at + 8))
            (offsets_past bytes n a.within least (led_by bytes b x) (length pairs) (at + 8) (omega arith) (omega arith) (led_past bytes n a.within b x h.stop (omega arith)))
            (λ c g. inr (omega arith, g))
      ])
