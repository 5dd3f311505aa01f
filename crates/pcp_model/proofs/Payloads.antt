-- Blocks and sets, one behind another.
use Rattle.std.proofs.Common.{◌≡◌, ℕ, ℤ, ◌+◌, ◌<◌, List, [], ◌∷◌, ◌++◌, length, drop, get_or, refl, sym, ap, ◌∙◌, append_assoc, arith, ◌≤◌}
use Rattle.std.proofs.lemmas.List.{drop_more}
use Rattle.pcp_base.specs.Typed.{TypedBytes}
use Rattle.pcp_base.specs.declared.result.Body.{Body}
use Rattle.pcp_base.specs.declared.result.Body.TheVariants.{InPlace, Blocks, Status}
use Rattle.pcp_base.specs.declared.result.ValueSet.{ValueSet}
use Rattle.pcp_model.specs.Words.{word}
use Rattle.pcp_model.specs.Payload.{block, block_length, blocks_length, blocks_bytes, blocks_in, blocks_of, pair_blocks, offsets_from, offset_pairs, body_words, set_words, body_length, sets_length}

-- what is left of a list begins with the item at the index
pub drop_item : {A : Type 0} (xs : List A) (i : ℕ) (x : A) → i < length xs → x ≡ get_or xs i x → drop i xs ≡ x ∷ drop (i + 1) xs
drop_item xs i x h e = drop_more xs i x h ∙ ap (λ y. y ∷ drop (i + 1) xs) (sym e)

pub blocks_length-append : (bs cs : List TypedBytes) → blocks_length (bs ++ cs) ≡ blocks_length bs + blocks_length cs
blocks_length-append [] cs = omega arith
blocks_length-append (b ∷ bs) cs = omega (arith, blocks_length-append bs cs)

pub blocks_bytes-append : (bs cs : List TypedBytes) → blocks_bytes (bs ++ cs) ≡ blocks_bytes bs ++ blocks_bytes cs
blocks_bytes-append [] cs = refl
blocks_bytes-append (b ∷ bs) cs = ap (λ r. block b ++ r) (blocks_bytes-append bs cs) ∙ sym (append_assoc (block b) (blocks_bytes bs) (blocks_bytes cs))

-- the offsets behind those of the first blocks
pub offsets_behind : (at : ℕ) (bs cs : List TypedBytes) → drop (length bs) (offsets_from at (bs ++ cs)) ≡ offsets_from (at + blocks_length bs) cs
offsets_behind at [] cs = ap (λ n. offsets_from n cs) (let e : at ≡ at + 0 = omega arith in e)
offsets_behind at (b ∷ bs) cs = offsets_behind (at + block_length b) bs cs ∙ ap (λ n. offsets_from n cs) (let e : at + block_length b + blocks_length bs ≡ at + (block_length b + blocks_length bs) = omega arith in e)

-- the pairs take no further offsets
pub offset_pairs-more : (at : ℕ) (pairs : List (ℤ × TypedBytes)) (cs : List TypedBytes) → offset_pairs (offsets_from at (pair_blocks pairs ++ cs)) pairs ≡ offset_pairs (offsets_from at (pair_blocks pairs)) pairs
offset_pairs-more at [] [] = refl
offset_pairs-more at [] (c ∷ cs) = refl
offset_pairs-more at (p ∷ pairs) cs = simp (offset_pairs-more (at + block_length p.1) pairs cs)

pub body_words-more : (at : ℕ) (body : Body) (cs : List TypedBytes) → body_words (offsets_from at (blocks_in body ++ cs)) body ≡ body_words (offsets_from at (blocks_in body)) body
body_words-more at (InPlace pairs) cs = refl
body_words-more at (Blocks pairs) cs = simp (offset_pairs-more at pairs cs)
body_words-more at (Status n) cs = refl

-- the words of a first set, and then those of the others
pub set_words-cons : (at : ℕ) (set : ValueSet) (sets : List ValueSet) → set_words (offsets_from at (blocks_of (set ∷ sets))) (set ∷ sets) ≡ word set.pmid ++ (body_words (offsets_from at (blocks_in set.body)) set.body ++ set_words (offsets_from (at + blocks_length (blocks_in set.body)) (blocks_of sets)) sets)
set_words-cons at set sets = simp (body_words-more at set.body (blocks_of sets), offsets_behind at (blocks_in set.body) (blocks_of sets))

-- one set's blocks more: what is written and what is left still make the whole
pub blocks_next : (sets : List ValueSet) (i : ℕ) (set : ValueSet) (out next whole : List ℕ) → i < length sets → set ≡ get_or sets i set
    → next ≡ out ++ blocks_bytes (blocks_in set.body) → out ++ blocks_bytes (blocks_of (drop i sets)) ≡ whole → next ++ blocks_bytes (blocks_of (drop (i + 1) sets)) ≡ whole
blocks_next sets i set out next whole h e n w =
    let rest : List TypedBytes = blocks_of (drop (i + 1) sets) in
    ap (λ r. r ++ blocks_bytes rest) n ∙ append_assoc out (blocks_bytes (blocks_in set.body)) (blocks_bytes rest)
    ∙ ap (λ r. out ++ r) (sym (ap (λ r. blocks_bytes (blocks_of r)) (drop_item sets i set h e) ∙ blocks_bytes-append (blocks_in set.body) rest)) ∙ w

pub blocks_length_next : (sets : List ValueSet) (i : ℕ) (set : ValueSet) → i < length sets → set ≡ get_or sets i set
    → blocks_length (blocks_of (drop i sets)) ≡ blocks_length (blocks_in set.body) + blocks_length (blocks_of (drop (i + 1) sets))
blocks_length_next sets i set h e =
    ap (λ r. blocks_length (blocks_of r)) (drop_item sets i set h e) ∙ blocks_length-append (blocks_in set.body) (blocks_of (drop (i + 1) sets))

pub sets_length_next : (sets : List ValueSet) (i : ℕ) (set : ValueSet) → i < length sets → set ≡ get_or sets i set
    → sets_length (drop i sets) ≡ 4 + body_length set.body + sets_length (drop (i + 1) sets)
sets_length_next sets i set h e = ap sets_length (drop_item sets i set h e)

-- one set's words more
pub sets_next : (sets : List ValueSet) (i : ℕ) (set : ValueSet) (at : ℕ) (out first next whole : List ℕ) → i < length sets → set ≡ get_or sets i set
    → first ≡ out ++ word set.pmid → next ≡ first ++ body_words (offsets_from at (blocks_in set.body)) set.body
    → out ++ set_words (offsets_from at (blocks_of (drop i sets))) (drop i sets) ≡ whole
    → next ++ set_words (offsets_from (at + blocks_length (blocks_in set.body)) (blocks_of (drop (i + 1) sets))) (drop (i + 1) sets) ≡ whole
sets_next sets i set at out first next whole h e f n w =
    let tail : List ℕ = set_words (offsets_from (at + blocks_length (blocks_in set.body)) (blocks_of (drop (i + 1) sets))) (drop (i + 1) sets) in
    let body : List ℕ = body_words (offsets_from at (blocks_in set.body)) set.body in
    ap (λ r. r ++ tail) (n ∙ ap (λ r. r ++ body) f) ∙ append_assoc (out ++ word set.pmid) body tail ∙ append_assoc out (word set.pmid) (body ++ tail)
    ∙ ap (λ r. out ++ r) (sym (ap (λ r. set_words (offsets_from at (blocks_of r)) r) (drop_item sets i set h e) ∙ set_words-cons at set (drop (i + 1) sets))) ∙ w

-- a body has four bytes at least, so there are no more sets than bytes
body_least : (body : Body) → 4 ≤ body_length body
body_least (InPlace pairs) = omega arith
body_least (Blocks pairs) = omega arith
body_least (Status n) = omega arith

pub sets_few : (sets : List ValueSet) → length sets ≤ sets_length sets
sets_few [] = omega arith
sets_few (set ∷ sets) = omega (arith, body_least set.body, sets_few sets)
