-- What the writer spells is what a reader takes.
use Rattle.std.proofs.Common.{◌≡◌, ℕ, ℤ, ◌+◌, ◌*◌, ◌/◌, ◌%◌, ◌<◌, ◌≤◌, List, [], ◌∷◌, ◌++◌, length, take, drop, max, refl, sym, ap, ◌∙◌, subst, append_assoc, arith, length-append}
use Rattle.std.proofs.Math.ListN.{length-replicate}
use Rattle.std.proofs.lemmas.List.{take_at, drop_at}
use Rattle.std.specs.Prelude.{FitsSigned}
use Rattle.std.specs.Int.{w32}
use Rattle.std.specs.List.{AllByRecursion}
use Rattle.pcp_base.specs.Texts.{IsText}
use Rattle.pcp_base.specs.Time.{Moment, IsMoment}
use Rattle.pcp_base.specs.Typed.{TypedBytes}
use Rattle.pcp_base.specs.declared.desc.Desc.{Desc}
use Rattle.pcp_base.specs.declared.result.Body.{Body}
use Rattle.pcp_base.specs.declared.result.Body.TheVariants.{InPlace, Blocks, Status}
use Rattle.pcp_base.specs.declared.result.ValueSet.{ValueSet}
use Rattle.pcp_base.specs.declared.result.PmResult.{PmResult}
use Rattle.pcp_base.specs.declared.result.Item.TheVariants.{Sample, Mark}
use Rattle.pcp_model.specs.declared.records.MetaRecord.TheVariants.{Description, Domain}
use Rattle.pcp_model.specs.Words.{word, signed_word, length-word, length-signed_word, zeros}
use Rattle.pcp_model.specs.Payload.{filling, block, block_head, block_length, blocks_length, blocks_bytes, blocks_in, blocks_of, pair_blocks, offsets_from, offset_pairs, offset_byte, value_pairs, body_words, set_words, body_length, sets_length, head_length, payload_length, result_head, payload, reach, BlockStands, BlocksStand, ResultInRange, IsPayload, IsItem}
use Rattle.pcp_model.specs.Records.{description, DescriptionInRange, IsRecord, counted_name, counted_names, names_length, domain, domain_head, instance_words, word_bytes, name_table, name_offsets, NameStands, NamesStand}
use Rattle.pcp_model.proofs.Payloads.{set_words-cons}

pub is_description : (d : Desc) (names : List (List ℕ)) → DescriptionInRange d names → IsRecord (description d names) (Description d names)
is_description d names range = (range, refl)

length-counted_names : (names : List (List ℕ)) → length (counted_names names) ≡ names_length names
length-counted_names [] = refl
length-counted_names (name ∷ names) =
    omega (arith, length-append (counted_name name) (counted_names names), length-append (word (length name)) name, length-word (length name), length-counted_names names)

-- how many bytes a description has
pub length-description : (d : Desc) (names : List (List ℕ)) → length (description d names) ≡ 28 + names_length names
unfolding description
length-description d names =
    let after : List ℕ = word (length names) ++ counted_names names in
    omega (
      arith,
      length-append (word 1) (word d.pmid ++ (word d.code ++ (word d.indom ++ (word d.semantics ++ (word d.units ++ after))))),
      length-append (word d.pmid) (word d.code ++ (word d.indom ++ (word d.semantics ++ (word d.units ++ after)))),
      length-append (word d.code) (word d.indom ++ (word d.semantics ++ (word d.units ++ after))),
      length-append (word d.indom) (word d.semantics ++ (word d.units ++ after)),
      length-append (word d.semantics) (word d.units ++ after),
      length-append (word d.units) after,
      length-append (word (length names)) (counted_names names),
      length-counted_names names,
      length-word 1,
      length-word d.pmid,
      length-word d.code,
      length-word d.indom,
      length-word d.semantics,
      length-word d.units,
      length-word (length names),
    )

length-value_pairs : (pairs : List (ℤ × ℕ)) → length (value_pairs pairs) ≡ 8 * length pairs
length-value_pairs [] = refl
length-value_pairs (p ∷ pairs) =
    omega (arith, length-append (signed_word p.0) (word p.1 ++ value_pairs pairs), length-append (word p.1) (value_pairs pairs), length-signed_word p.0, length-word p.1, length-value_pairs pairs)

length-offset_pairs : (at : ℕ) (pairs : List (ℤ × TypedBytes)) → length (offset_pairs (offsets_from at (pair_blocks pairs)) pairs) ≡ 8 * length pairs
length-offset_pairs at [] = refl
length-offset_pairs at (p ∷ pairs) =
    let more : List ℕ = offset_pairs (offsets_from (at + block_length p.1) (pair_blocks pairs)) pairs in
    omega (arith, length-append (signed_word p.0) (word (3 + at / 4) ++ more), length-append (word (3 + at / 4)) more, length-signed_word p.0, length-word (3 + at / 4), length-offset_pairs (at + block_length p.1) pairs)

length-body_words : (at : ℕ) (body : Body) → length (body_words (offsets_from at (blocks_in body)) body) ≡ body_length body
length-body_words at (InPlace pairs) =
    omega (arith, length-append (word (length pairs)) (word 0 ++ value_pairs pairs), length-append (word 0) (value_pairs pairs), length-word (length pairs), length-word 0, length-value_pairs pairs)
length-body_words at (Blocks pairs) =
    let more : List ℕ = offset_pairs (offsets_from at (pair_blocks pairs)) pairs in
    omega (arith, length-append (word (length pairs)) (word 1 ++ more), length-append (word 1) more, length-word (length pairs), length-word 1, length-offset_pairs at pairs)
length-body_words at (Status n) = length-signed_word n

length-set_words : (at : ℕ) (sets : List ValueSet) → length (set_words (offsets_from at (blocks_of sets)) sets) ≡ sets_length sets
length-set_words at [] = refl
length-set_words at (set ∷ sets) =
    let body : List ℕ = body_words (offsets_from at (blocks_in set.body)) set.body in
    let next : ℕ = at + blocks_length (blocks_in set.body) in
    let more : List ℕ = set_words (offsets_from next (blocks_of sets)) sets in
    ap length (set_words-cons at set sets)
    ∙ (let e : length (word set.pmid ++ (body ++ more)) ≡ 4 + body_length set.body + sets_length sets =
    omega (arith, length-append (word set.pmid) (body ++ more), length-append body more, length-word set.pmid, length-body_words at set.body, length-set_words next sets) in e)

length-result_head : (at : ℕ) (r : PmResult) → length (result_head (offsets_from at (blocks_of r.sets)) r) ≡ head_length r
length-result_head at r =
    let more : List ℕ = set_words (offsets_from at (blocks_of r.sets)) r.sets in
    omega (
      arith,
      length-append (word r.stamp.sec) (word r.stamp.usec ++ (word (length r.sets) ++ more)),
      length-append (word r.stamp.usec) (word (length r.sets) ++ more),
      length-append (word (length r.sets)) more,
      length-word r.stamp.sec,
      length-word r.stamp.usec,
      length-word (length r.sets),
      length-set_words at r.sets,
    )

length-block : (b : TypedBytes) → length (block b) ≡ block_length b
length-block b =
    omega (arith, length-append (block_head b) (b.bytes ++ zeros (filling (length b.bytes))), length-append b.bytes (zeros (filling (length b.bytes))), length-replicate {A = ℕ} (filling (length b.bytes)) 0)

length-blocks_bytes : (blocks : List TypedBytes) → length (blocks_bytes blocks) ≡ blocks_length blocks
length-blocks_bytes [] = refl
length-blocks_bytes (b ∷ blocks) = omega (arith, length-append (block b) (blocks_bytes blocks), length-block b, length-blocks_bytes blocks)

-- how many bytes the payload has
pub length-payload : (r : PmResult) → length (payload r) ≡ payload_length r
unfolding payload
length-payload r =
    omega (arith, length-append (result_head (offsets_from (head_length r) (blocks_of r.sets)) r) (blocks_bytes (blocks_of r.sets)), length-result_head (head_length r) r, length-blocks_bytes (blocks_of r.sets))

-- blocks and sets take whole words
block_words : (b : TypedBytes) → block_length b % 4 ≡ 0
block_words b = omega arith

body_word_count : (body : Body) → body_length body % 4 ≡ 0
body_word_count (InPlace pairs) = omega arith
body_word_count (Blocks pairs) = omega arith
body_word_count (Status n) = refl

sets_words : (sets : List ValueSet) → sets_length sets % 4 ≡ 0
sets_words [] = refl
sets_words (set ∷ sets) = omega (arith, body_word_count set.body, sets_words sets)

offset_of : (at : ℕ) → at % 4 ≡ 0 → offset_byte (3 + at / 4) ≡ at
offset_of at h = omega arith

block_text : (b : TypedBytes) (rest : List ℕ) → block b ++ rest ≡ (block_head b ++ b.bytes) ++ (zeros (filling (length b.bytes)) ++ rest)
block_text b rest =
    let fill : List ℕ = zeros (filling (length b.bytes)) in
    ap (λ t. t ++ rest) (sym (append_assoc (block_head b) b.bytes fill)) ∙ append_assoc (block_head b ++ b.bytes) fill rest

stands : (bytes front rest : List ℕ) (sets_end : ℕ) (b : TypedBytes) → bytes ≡ front ++ (block b ++ rest) → length front % 4 ≡ 0 → sets_end ≤ length front → length bytes < 4294967296
    → BlockStands bytes sets_end (3 + length front / 4) b
stands bytes front rest sets_end b is quarter behind few =
    let offset : offset_byte (3 + length front / 4) ≡ length front = offset_of (length front) quarter in
    let size : length bytes ≡ length front + (block_length b + length rest) =
    ap length is ∙ length-append front (block b ++ rest) ∙ ap (λ n. length front + n) (length-append (block b) rest ∙ ap (λ n. n + length rest) (length-block b)) in
    record {
      word_fits = omega arith;
      behind = (omega arith, omega arith);
      within = omega arith;
      is = ap (λ n. take (4 + length b.bytes) (drop n bytes)) offset ∙ ap (λ t. take (4 + length b.bytes) (drop (length front) t)) is
          ∙ ap (take (4 + length b.bytes)) (drop_at front (block b ++ rest) (length front) refl ∙ block_text b rest)
          ∙ take_at (block_head b ++ b.bytes) (zeros (filling (length b.bytes)) ++ rest) (4 + length b.bytes) (omega arith);
    }

-- blocks stand one behind another
all_stand : (bytes front : List ℕ) (sets_end : ℕ) (blocks : List TypedBytes) → bytes ≡ front ++ blocks_bytes blocks → length front % 4 ≡ 0 → sets_end ≤ length front → length bytes < 4294967296
    → BlocksStand bytes sets_end (offsets_from (length front) blocks) blocks
all_stand bytes front sets_end [] is quarter behind few = tt
all_stand bytes front sets_end (b ∷ blocks) is quarter behind few =
    let longer : length (front ++ block b) ≡ length front + block_length b = length-append front (block b) ∙ ap (λ n. length front + n) (length-block b) in
    let whole : block_length b % 4 ≡ 0 = block_words b in (
      stands bytes front (blocks_bytes blocks) sets_end b is quarter behind few,
      subst (λ n. BlocksStand bytes sets_end (offsets_from n blocks) blocks) longer
          (all_stand bytes (front ++ block b) sets_end blocks (is ∙ sym (append_assoc front (block b) (blocks_bytes blocks))) (omega arith) (omega arith) few),
    )

-- they reach as far as they are long
least_reach : (end : ℕ) (offsets : List ℕ) (blocks : List TypedBytes) → end ≤ reach end offsets blocks
least_reach end [] blocks = omega arith
least_reach end (offset ∷ offsets) [] = omega arith
least_reach end (offset ∷ offsets) (b ∷ blocks) = omega (arith, least_reach end offsets blocks)

all_reach : (end at : ℕ) (blocks : List TypedBytes) → end ≤ at → at % 4 ≡ 0 → max at (reach end (offsets_from at blocks) blocks) ≡ at + blocks_length blocks
all_reach end at [] h quarter = omega arith
all_reach end at (b ∷ blocks) h quarter =
    let offset : offset_byte (3 + at / 4) ≡ at = offset_of at quarter in
    let whole : block_length b % 4 ≡ 0 = block_words b in
    let more : max (at + block_length b) (reach end (offsets_from (at + block_length b) blocks) blocks) ≡ at + block_length b + blocks_length blocks =
    all_reach end (at + block_length b) blocks (omega arith) (omega arith) in
    omega arith

-- the writer's payload is a payload
pub is_payload : (r : PmResult) → ResultInRange r → payload_length r < 4294967296 → IsPayload (payload r) r
unfolding payload
is_payload r range few =
    let blocks : List TypedBytes = blocks_of r.sets in
    let head : List ℕ = result_head (offsets_from (head_length r) (blocks_of r.sets)) r in
    let long : length (result_head (offsets_from (head_length r) (blocks_of r.sets)) r) ≡ head_length r = length-result_head (head_length r) r in
    let quarter : head_length r % 4 ≡ 0 = let sets : sets_length r.sets % 4 ≡ 0 = sets_words r.sets in omega arith in
    let size : length (payload r) ≡ payload_length r = length-payload r in
    let reached : max (head_length r) (reach (head_length r) (offsets_from (head_length r) (blocks_of r.sets)) (blocks_of r.sets)) ≡ head_length r + blocks_length (blocks_of r.sets) =
    all_reach (head_length r) (head_length r) (blocks_of r.sets) (omega arith) quarter in
    let least : head_length r ≤ reach (head_length r) (offsets_from (head_length r) (blocks_of r.sets)) (blocks_of r.sets) =
    least_reach (head_length r) (offsets_from (head_length r) (blocks_of r.sets)) (blocks_of r.sets) in
    record {
      range = range;
      offsets = offsets_from (head_length r) (blocks_of r.sets);
      head = take_at head (blocks_bytes (blocks_of r.sets)) (head_length r) long;
      blocks = subst (λ n. BlocksStand (payload r) (head_length r) (offsets_from n (blocks_of r.sets)) (blocks_of r.sets)) long
          (all_stand (payload r) head (head_length r) (blocks_of r.sets) refl (subst (λ n. n % 4 ≡ 0) (sym long) quarter) (omega arith) (omega arith));
      whole = omega arith;
    }

pub is_sample : (r : PmResult) → ResultInRange r → payload_length r < 4294967296 → 0 < length r.sets → IsItem (payload r) (Sample r)
is_sample r range few some = (some, is_payload r range few)

pub is_mark : (t : Moment) → IsMoment t → IsItem (word t.sec ++ (word t.usec ++ word 0)) (Mark t)
is_mark t moment = (moment, refl)

-- a domain's names stand one behind another in its table
name_stands : (table front rest name : List ℕ) → table ≡ front ++ (name ++ 0 ∷ rest) → IsText name → NameStands table (length front) name
name_stands table front rest name is text = record {
  text = text;
  is = ap (λ t. take (length name + 1) (drop (length front) t)) is
      ∙ ap (take (length name + 1)) (drop_at front (name ++ 0 ∷ rest) (length front) refl ∙ sym (append_assoc name (0 ∷ []) rest))
      ∙ take_at (name ++ 0 ∷ []) rest (length name + 1) (length-append name (0 ∷ []));
}

names_stand : (table front : List ℕ) (pairs : List (ℤ × List ℕ)) → table ≡ front ++ name_table pairs → AllByRecursion (λ (p : ℤ × List ℕ). IsText p.1) pairs → NamesStand table (name_offsets (length front) pairs) pairs
names_stand table front [] is texts = tt
names_stand table front (p ∷ pairs) is texts =
    let longer : length (front ++ (p.1 ++ 0 ∷ [])) ≡ length front + length p.1 + 1 = omega (arith, length-append front (p.1 ++ 0 ∷ []), length-append p.1 (0 ∷ [])) in
    let next : table ≡ (front ++ (p.1 ++ 0 ∷ [])) ++ name_table pairs =
    is ∙ ap (λ t. front ++ t) (sym (append_assoc p.1 (0 ∷ []) (name_table pairs))) ∙ sym (append_assoc front (p.1 ++ 0 ∷ []) (name_table pairs)) in (
      name_stands table front (name_table pairs) p.1 is texts.0,
      subst (λ n. NamesStand table (name_offsets n pairs) pairs) longer (names_stand table (front ++ (p.1 ++ 0 ∷ [])) pairs next texts.1),
    )

-- the writer's domain is a domain
pub is_domain : (t : Moment) (indom : ℕ) (pairs : List (ℤ × List ℕ)) → IsMoment t → indom < 4294967296 → length pairs < 2147483648
    → AllByRecursion (λ (p : ℤ × List ℕ). FitsSigned w32 p.0) pairs → AllByRecursion (λ (p : ℤ × List ℕ). IsText p.1) pairs → IsRecord (domain t indom pairs) (Domain t indom pairs)
unfolding domain
is_domain t indom pairs moment fits few numbers texts = record {
  moment = moment;
  indom_fits = fits;
  few = few;
  numbers = numbers;
  offsets = name_offsets 0 pairs;
  table = name_table pairs;
  names = names_stand (name_table pairs) [] pairs refl texts;
  is = refl;
}

length-instance_words : (pairs : List (ℤ × List ℕ)) → length (instance_words pairs) ≡ 4 * length pairs
length-instance_words [] = refl
length-instance_words (p ∷ pairs) = omega (arith, length-append (signed_word p.0) (instance_words pairs), length-signed_word p.0, length-instance_words pairs)

length-offset_words : (at : ℕ) (pairs : List (ℤ × List ℕ)) → length (word_bytes (name_offsets at pairs)) ≡ 4 * length pairs
length-offset_words at [] = refl
length-offset_words at (p ∷ pairs) =
    let next : ℕ = at + length p.1 + 1 in
    omega (arith, length-append (word at) (word_bytes (name_offsets next pairs)), length-word at, length-offset_words next pairs)

-- how many bytes it has
pub length-domain : (t : Moment) (indom : ℕ) (pairs : List (ℤ × List ℕ)) → length (domain t indom pairs) ≡ 20 + 8 * length pairs + length (name_table pairs)
unfolding domain
length-domain t indom pairs =
    let offsets : List ℕ = word_bytes (name_offsets 0 pairs) in
    let after : List ℕ = word (length pairs) ++ (instance_words pairs ++ offsets) in
    omega (
      arith,
      length-append (domain_head t indom pairs (name_offsets 0 pairs)) (name_table pairs),
      length-append (word 2) (word t.sec ++ (word t.usec ++ (word indom ++ after))),
      length-append (word t.sec) (word t.usec ++ (word indom ++ after)),
      length-append (word t.usec) (word indom ++ after),
      length-append (word indom) after,
      length-append (word (length pairs)) (instance_words pairs ++ offsets),
      length-append (instance_words pairs) offsets,
      length-instance_words pairs,
      length-offset_words 0 pairs,
      length-word 2,
      length-word t.sec,
      length-word t.usec,
      length-word indom,
      length-word (length pairs),
    )
