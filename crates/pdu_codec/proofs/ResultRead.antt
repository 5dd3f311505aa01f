-- What is read of a payload, by its words: a pair with its block, a set, so many sets, and the whole.
use Rattle.std.proofs.Common.{◌≡◌, ℕ, ℤ, zero, suc, ◌+◌, ◌*◌, ◌%◌, ◌<◌, ◌≤◌, cond, max, List, [], ◌∷◌, length, get_or, Ok, Err, refl, sym, ap, ◌∙◌, subst, arith, inl, inr}
use Rattle.std.specs.Int.{w32, cast_signed}
use Rattle.std.proofs.lemmas.Bool.{le-ltb}
use Rattle.pcp_base.specs.Fields.{number_at}
use Rattle.pcp_base.specs.Time.{Moment}
use Rattle.pcp_base.specs.Typed.{TypedBytes}
use Rattle.pcp_base.specs.declared.result.Body.TheVariants as bodies
use Rattle.pcp_base.specs.declared.result.ValueSet.{ValueSet}
use Rattle.pcp_base.specs.declared.result.PmResult.{PmResult}
use Rattle.pcp_base.proofs.Bytes.{IsBytes}
use Rattle.pcp_model.specs.Payload.{offset_byte, IsPayload}
use Rattle.result_form.specs.declared.fault.FormFault.TheVariants.{Count, Trailing}
use Rattle.result_form.specs.Decoding.{◌>>=◌, padded_size, offset_pair, blocks_from, set_end, sets_end, set_at, sets_from, payload_result}
use Rattle.result_form.specs.Faults.{IsStatus, HasMode, pairs_end, SetStands, block_begin, block_end, LeadsIn, IsWhole}
use Rattle.result_form.proofs.Whole.{payload_takes}
use Rattle.result_form.proofs.FaultRules.{done, below_stands, block_stands, pair_found}
use Rattle.result_form.proofs.FaultsFound.{from_pair, with_pair, set_ends, a_set, at_status, at_values, at_blocks, in_blocks, from_set, with_set, last, from_end, from_count, from_stamp, a_moment, stamp_is, decoded_is}
use Rattle.pdu_codec.proofs.ResultHere.{four}
use Rattle.pdu_codec.proofs.ResultFills.{word_of}

-- bytes with no end begin so
abbrev pub Spells : List ℕ → (ℕ → ℕ) → Type 0
Spells t g = (i : ℕ) → i < length t → get_or t i 0 ≡ g i

pub number_is : (t : List ℕ) (g : ℕ → ℕ) (p : ℕ) → Spells t g → p + 4 ≤ length t → number_at t p ≡ word_of g p
number_is t g p s room =
    let a : get_or t p 0 ≡ g p = s p (omega arith) in
    let b : get_or t (p + 1) 0 ≡ g (p + 1) = s (p + 1) (omega arith) in
    let c : get_or t (p + 2) 0 ≡ g (p + 2) = s (p + 2) (omega arith) in
    let d : get_or t (p + 3) 0 ≡ g (p + 3) = s (p + 3) (omega arith) in
    omega (arith, four t p)

-- ---- a pair and its block

abbrev pub BlocksRead : List ℕ → ℕ → ℕ → ℕ → ℕ → ℕ → Type 0
BlocksRead t end before n at far = (pairs : List (ℤ × TypedBytes)) × (blocks_from t end before n at ≡ Ok (pairs, far))

-- where the block ends to which an offset leads
abbrev pub block_stop : (ℕ → ℕ) → ℕ → ℕ
block_stop g offset = offset_byte offset + padded_size (word_of g (offset_byte offset))

pub pair_read : (t : List ℕ) (g : ℕ → ℕ) (end before n at offset far : ℕ) → Spells t g → at + 8 ≤ length t → offset ≡ word_of g (at + 4) → end ≤ offset_byte offset → 4 ≤ word_of g (offset_byte offset) % 16777216 → block_stop g offset ≤ length t
    → BlocksRead t end (max before (block_stop g offset)) n (at + 8) far → BlocksRead t end before (suc n) at far
unfolding blocks_from
pair_read t g end before n at offset far s room is behind high fits more =
    let p : ℕ = offset_byte offset in
    let inside : p + 4 ≤ length t = omega arith in
    let begin : block_begin t at ≡ p = ap offset_byte (number_is t g (at + 4) s (omega arith) ∙ sym is) in
    let head : number_at t p ≡ word_of g p = number_is t g p s inside in
    let stop : block_end t at ≡ block_stop g offset = ap (λ x. x + padded_size (number_at t x)) begin ∙ ap (λ m. p + padded_size m) head in
    let leads : LeadsIn t end at = (subst (λ x. end ≤ x) (sym begin) behind, subst (λ x. x + 4 ≤ length t) (sym begin) inside) in
    let whole : IsWhole t at = (subst (λ m. 4 ≤ m % 16777216) (sym (ap (number_at t) begin ∙ head)) high, subst (λ x. x ≤ length t) (sym stop) fits) in
    let found : offset_pair t end at ≡ Ok (pair_found t end at) = block_stands t end at room leads whole in
    let others : blocks_from t end (max before (block_end t at)) n (at + 8) ≡ Ok (more.0, far) = ap (λ x. blocks_from t end (max before x) n (at + 8)) stop ∙ more.1 in
    ((pair_found t end at).0 ∷ more.0, ap (from_pair t end n at before) found ∙ ap (with_pair (pair_found t end at).0) others)

-- ---- a set

-- its words stand, and it is read with its blocks
abbrev pub SetRead : List ℕ → ℕ → ℕ → ℕ → ℕ → ℕ → Type 0
SetRead t end before at next far = SetStands t at next × ((set : ValueSet) × (set_at t end before at ≡ Ok (set, far)))

pub status_read : (t : List ℕ) (g : ℕ → ℕ) (end before at : ℕ) → Spells t g → at + 8 ≤ length t → IsStatus (word_of g (at + 4)) → SetRead t end before at (at + 8) before
status_read t g end before at s room status =
    let is : IsStatus (number_at t (at + 4)) = subst IsStatus (sym (number_is t g (at + 4) s (omega arith))) status in
    (inl (refl, room, is), (a_set (number_at t at) (bodies.Status (cast_signed w32 (number_at t (at + 4)))), at_status t end at before room is))

-- the number of its values and their mode stand, with all pairs
has_mode : (t : List ℕ) (g : ℕ → ℕ) (at n mode : ℕ) → Spells t g → at + 12 + 8 * n ≤ length t → word_of g (at + 4) ≡ n → 0 < n → n < 2147483648 → word_of g (at + 8) ≡ mode → mode < 2
    → (number_at t (at + 4) ≡ n) × (number_at t (at + 8) ≡ mode) × HasMode t at × (at + 12 + 8 * n ≡ pairs_end t at) × (pairs_end t at ≤ length t)
has_mode t g at n mode s room is some few mode_is low =
    let a : number_at t (at + 4) ≡ n = number_is t g (at + 4) s (omega arith) ∙ is in
    let b : number_at t (at + 8) ≡ mode = number_is t g (at + 8) s (omega arith) ∙ mode_is in
    (a, b, ((omega arith, omega arith, omega arith), omega arith, omega arith), omega arith, omega arith)

pub place_read : (t : List ℕ) (g : ℕ → ℕ) (end before at n : ℕ) → Spells t g → at + 12 + 8 * n ≤ length t → word_of g (at + 4) ≡ n → 0 < n → n < 2147483648 → word_of g (at + 8) ≡ 0 → SetRead t end before at (at + 12 + 8 * n) before
place_read t g end before at n s room is some few mode =
    let m = has_mode t g at n 0 s room is some few mode (omega arith) in
    (inr (m.3, m.2, m.4), at_values t end at before m.2 m.4 m.1)

pub led_read : (t : List ℕ) (g : ℕ → ℕ) (end before at n far : ℕ) → Spells t g → at + 12 + 8 * n ≤ length t → word_of g (at + 4) ≡ n → 0 < n → n < 2147483648 → word_of g (at + 8) ≡ 1 → BlocksRead t end before n (at + 12) far
    → SetRead t end before at (at + 12 + 8 * n) far
led_read t g end before at n far s room is some few mode blocks =
    let m = has_mode t g at n 1 s room is some few mode (omega arith) in (
      inr (m.3, m.2, m.4),
      (a_set (number_at t at) (bodies.Blocks blocks.0), at_blocks t end at before m.2 m.1 ∙ ap (in_blocks (number_at t at)) (ap (λ k. blocks_from t end before k (at + 12)) m.0 ∙ blocks.1)),
    )

-- ---- so many sets

abbrev pub SetsRead : List ℕ → ℕ → ℕ → ℕ → ℕ → ℕ → ℕ → Type 0
SetsRead t end before n at stop far = (sets_end t n at ≡ Ok stop) × ((sets : List ValueSet) × (sets_from t end before n at ≡ Ok (sets, far)))

pub no_sets : (t : List ℕ) (end before at : ℕ) → SetsRead t end before 0 at at before
unfolding sets_end sets_from
no_sets t end before at = (refl, ([], refl))

pub sets_on : (t : List ℕ) (end before n at next stop mid far : ℕ) → SetRead t end before at next mid → SetsRead t end mid n next stop far → SetsRead t end before (suc n) at stop far
unfolding sets_end sets_from
sets_on t end before n at next stop mid far one more =
    let ends : set_end t at ≡ Ok next = set_ends t at next one.0 in
    let set : ValueSet = one.1.0 in (
      ap (λ r. r >>= λ m. sets_end t n m) ends ∙ more.0,
      (set ∷ more.1.0, ap (from_set t end n (set_end t at)) one.1.1 ∙ ap (λ r. from_set t end n r (done (set, mid))) ends ∙ ap (with_set set) more.1.1),
    )

-- sets of zeros
pub zero_sets : (t : List ℕ) (g : ℕ → ℕ) (end before n at stop : ℕ) → Spells t g → ((i : ℕ) → at ≤ i → i < stop → g i ≡ 0) → stop ≡ at + 8 * n → stop ≤ length t → SetsRead t end before n at stop before
zero_sets t g end before zero at stop s zeros is room = subst (λ m. SetsRead t end before 0 at m before) (let e : at ≡ stop = omega arith in e) (no_sets t end before at)
zero_sets t g end before (suc n) at stop s zeros is room =
    let a : g (at + 4) ≡ 0 = zeros (at + 4) (omega arith) (omega arith) in
    let b : g (at + 4 + 1) ≡ 0 = zeros (at + 4 + 1) (omega arith) (omega arith) in
    let c : g (at + 4 + 2) ≡ 0 = zeros (at + 4 + 2) (omega arith) (omega arith) in
    let d : g (at + 4 + 3) ≡ 0 = zeros (at + 4 + 3) (omega arith) (omega arith) in
    let none : word_of g (at + 4) ≡ 0 = omega arith in
    sets_on t end before n at (at + 8) stop before before (status_read t g end before at s (omega arith) (inl none)) (zero_sets t g end before n (at + 8) stop s (λ i le lt. zeros i (omega arith) lt) (omega arith) room)

-- ---- the whole

pub whole_read : (t : List ℕ) (g : ℕ → ℕ) (end far : ℕ) → IsBytes t → Spells t g → 12 ≤ length t → word_of g 0 < 2147483648 → word_of g 4 < 1000000 → word_of g 8 < 2147483648 → SetsRead t end end (word_of g 8) 12 end far → length t ≤ far
    → (r : PmResult) × IsPayload t r
whole_read t g end far fits s room sec usec few sets ends =
    let a : number_at t 0 ≡ word_of g 0 = number_is t g 0 s (omega arith) in
    let b : number_at t 4 ≡ word_of g 4 = number_is t g 4 s (omega arith) in
    let c : number_at t 8 ≡ word_of g 8 = number_is t g 8 s (omega arith) in
    let stamp : Moment = a_moment (number_at t 0) (number_at t 4) in
    let all : SetsRead t end end (number_at t 8) 12 end far = subst (λ n. SetsRead t end end n 12 end far) (sym c) sets in
    let r : PmResult = record { stamp = stamp; sets = all.1.0 } in
    let read : payload_result t ≡ Ok r =
    decoded_is t ∙ ap (from_stamp t) (stamp_is t (omega arith) (omega arith) (omega arith)) ∙ ap (from_count t stamp) (below_stands t 8 2147483648 (Count 8) room (omega arith)) ∙ ap (from_end t stamp (number_at t 8)) all.0
    ∙ ap (last t stamp) all.1.1 ∙ ap (λ x. cond x (Err (Trailing far)) (done r)) (le-ltb far (length t) ends) in
    (r, payload_takes t r fits read)
