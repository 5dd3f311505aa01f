-- Pairs whose words are offsets: from bytes that go on as these do up to where they stop, the blocks of all pairs are read.
use Rattle.std.proofs.Common.{◌≡◌, ℕ, zero, suc, ◌+◌, ◌*◌, ◌/◌, ◌%◌, ◌<◌, ◌≤◌, Bool, true, false, cond, ltb, max, List, [], length, get_or, Option, Some, None, refl, sym, ap, ◌∙◌, subst, arith, inl, inr}
use Rattle.std.specs.Prelude.{◌⊎◌, min}
use Rattle.std.specs.Int.{w32}
use Rattle.std.proofs.lemmas.Bool.{cases_lt, le-ltb, ltb-false}
use Rattle.pcp_base.specs.Fields.{be_field, number_at}
use Rattle.pcp_base.proofs.Bytes.{IsBytes}
use Rattle.pcp_model.specs.Payload.{offset_byte}
use Rattle.result_form.specs.Decoding.{padded_size, blocks_from}
use Rattle.pdu_codec.specs.declared.misfit.Blocks.{Blocks}
use Rattle.pdu_codec.specs.ResultMisfit.{word_between, any_word, led_to, after_lead, led_by, offset_at, offsets_from}
use Rattle.pdu_codec.proofs.ResultHere.{four}
use Rattle.pdu_codec.proofs.ResultPast.{led_made, led_past}
use Rattle.pdu_codec.proofs.ResultFills.{Ends, ends_on, ends_or, word_of, filled, kept, put, word_put, WordIs, WordStops, word_ends}
use Rattle.pdu_codec.proofs.ResultRead.{Spells, BlocksRead, block_stop, pair_read}

-- Bytes with no end go on from these up to a byte: the heads behind the sets' end that are not whole before it are of blocks.
pub record GoesOn (bytes : List ℕ) (k end : ℕ) (g : ℕ → ℕ) : Type 0 where
  pub within : k ≤ length bytes
  pub same : (i : ℕ) → i < k → g i ≡ get_or bytes i 0
  pub heads : (p : ℕ) → end ≤ p → p % 4 ≡ 0 → k < p + 4 → 4 ≤ word_of g p % 16777216

pub word_same : (bytes : List ℕ) (k : ℕ) (g : ℕ → ℕ) (p : ℕ) → ((i : ℕ) → i < k → g i ≡ get_or bytes i 0) → p + 4 ≤ k → word_of g p ≡ number_at bytes p
word_same bytes k g p same room =
    let a : g p ≡ get_or bytes p 0 = same p (omega arith) in
    let b : g (p + 1) ≡ get_or bytes (p + 1) 0 = same (p + 1) (omega arith) in
    let c : g (p + 2) ≡ get_or bytes (p + 2) 0 = same (p + 2) (omega arith) in
    let d : g (p + 3) ≡ get_or bytes (p + 3) 0 = same (p + 3) (omega arith) in
    omega (arith, four bytes p)

pub as_filled : (bytes : List ℕ) (k c : ℕ) (g : ℕ → ℕ) (p : ℕ) → ((i : ℕ) → i < k → g i ≡ get_or bytes i 0) → ((i : ℕ) → k ≤ i → i < p + 4 → g i ≡ c) → word_of (filled bytes k c) p ≡ word_of g p
as_filled bytes k c g p same rest =
    let a : filled bytes k c p ≡ g p = by p (omega arith) in
    let b : filled bytes k c (p + 1) ≡ g (p + 1) = by (p + 1) (omega arith) in
    let x : filled bytes k c (p + 2) ≡ g (p + 2) = by (p + 2) (omega arith) in
    let y : filled bytes k c (p + 3) ≡ g (p + 3) = by (p + 3) (omega arith) in
    omega arith
  where
    by : (i : ℕ) → i < p + 4 → filled bytes k c i ≡ g i
    by i low = elim (cases_lt i k) [
      | inl lt ↦ kept bytes k c i lt ∙ sym (same i lt)
      | inr le ↦ put bytes k c i le ∙ sym (rest i le low)
    ]

-- ---- what is known of the blocks

-- All blocks so far reach to the byte; or each stands, and this is how far.
abbrev pub Covers : List ℕ → ℕ → Blocks → ℕ → Type 0
Covers bytes k b far = (k ≤ far) ⊎ ((length bytes ≤ b.stop) × (b.is_open ≡ false) × (b.reach ≤ far))

record Falls (b c : Blocks) (begin : ℕ) : Type 0 where
  limit : c.limit ≡ min b.limit begin
  stop : c.stop ≤ b.stop

made_falls : (b : Blocks) (begin reach : ℕ) (small : Bool) → Falls b (cond small (led_made b begin (min b.stop (begin + 3)) b.reach) (led_made b begin b.stop reach)) begin
made_falls b begin reach true = record { limit = refl; stop = omega arith }
made_falls b begin reach false = record { limit = refl; stop = omega arith }

lead_falls : (bytes : List ℕ) (b : Blocks) (begin : ℕ) (o : Option ℕ) → Falls b (after_lead bytes b begin o) begin
lead_falls bytes b begin None = record { limit = refl; stop = omega arith }
lead_falls bytes b begin (Some head) = made_falls b begin (max b.reach (begin + padded_size head)) (ltb (head % 16777216) 4)

led_falls : (bytes : List ℕ) (b : Blocks) (offset : ℕ) → Falls b (led_by bytes b offset) (offset_byte offset)
led_falls bytes b offset = lead_falls bytes b (offset_byte offset) (be_field w32 (offset_byte offset) bytes)

-- a block whose head stands before the byte has the length that is read there
made_covers : (bytes : List ℕ) (k begin head before : ℕ) (b : Blocks) (small : Bool) → ltb (head % 16777216) 4 ≡ small → begin + 4 ≤ k
    → k ≤ (cond small (led_made b begin (min b.stop (begin + 3)) b.reach) (led_made b begin b.stop (max b.reach (begin + padded_size head)))).stop → Covers bytes k b before
    → (4 ≤ head % 16777216) × Covers bytes k (cond small (led_made b begin (min b.stop (begin + 3)) b.reach) (led_made b begin b.stop (max b.reach (begin + padded_size head)))) (max before (begin + padded_size head))
made_covers bytes k begin head before b true e room stop h = absurd (omega arith)
made_covers bytes k begin head before b false e room stop (inl h) = (ltb-false (head % 16777216) 4 e, inl (omega arith))
made_covers bytes k begin head before b false e room stop (inr h) = let far : b.reach ≤ before = h.2 in (ltb-false (head % 16777216) 4 e, inr (h.0, h.1, omega arith))

pub led_covers : (bytes : List ℕ) (k end : ℕ) (g : ℕ → ℕ) (b : Blocks) (offset before : ℕ) → GoesOn bytes k end g → end ≤ offset_byte offset → k ≤ (led_by bytes b offset).stop → Covers bytes k b before
    → (4 ≤ word_of g (offset_byte offset) % 16777216) × Covers bytes k (led_by bytes b offset) (max before (block_stop g offset))
led_covers bytes k end g b offset before on behind stop h =
    let p : ℕ = offset_byte offset in
    elim (cases_lt k (p + 4)) [
      | inl lt ↦ let high : 4 ≤ word_of g p % 16777216 = on.heads p behind (omega arith) lt in (high, inl (omega arith))
      | inr le ↦ let within : k ≤ length bytes = on.within in
          let led : led_by bytes b offset ≡ led_to bytes b p (number_at bytes p) = ap (λ c. after_lead bytes b p (cond c None (Some (number_at bytes p)))) (le-ltb (length bytes) (p + 4) (omega arith)) in
          subst (λ (c : Blocks). (4 ≤ word_of g p % 16777216) × Covers bytes k c (max before (block_stop g offset))) (sym led)
          (subst (λ m. (4 ≤ m % 16777216) × Covers bytes k (led_to bytes b p (number_at bytes p)) (max before (p + padded_size m))) (sym (word_same bytes k g p on.same le))
          (made_covers bytes k p (number_at bytes p) before b (ltb (number_at bytes p % 16777216) 4) refl le (subst (λ (c : Blocks). k ≤ c.stop) led stop) h))
    ]

-- ---- the word of a pair

record PairIs (bytes : List ℕ) (least at w : ℕ) : Type 0 where
  is : w ≡ number_at bytes (at + 4)
  low : 3 + least / 4 ≤ w
  room : at + 8 ≤ length bytes

record PairStops (bytes : List ℕ) (least at k : ℕ) : Type 0 where
  from : at ≤ k
  before : k < at + 8
  within : k ≤ length bytes
  low : 3 + least / 4 ≤ word_of (filled bytes k 255) (at + 4)

pair_ends : (bytes : List ℕ) (least at : ℕ) → IsBytes bytes → at ≤ length bytes → least ≤ 17179869168 → Ends (PairIs bytes least at) (PairStops bytes least at) (offset_at bytes least at)
unfolding offset_at
pair_ends bytes least at fits within low =
    ends_on (WordIs bytes at 0 4294967295) (PairIs bytes least at) (WordStops bytes at 0 4294967295) (PairStops bytes least at) (any_word bytes at) _ (word_ends bytes at 0 4294967295 fits within (omega arith) (omega arith))
    (λ k s. let before : k < at + 4 = s.before in let word : word_of (filled bytes k 255) (at + 4) ≡ 4294967295 = word_put bytes k 255 (at + 4) (omega arith) in
    record { from = s.from; before = omega arith; within = s.within; low = omega arith })
    (λ x p. ends_or (WordIs bytes (at + 4) (3 + least / 4) 4294967295) (PairIs bytes least at) (WordStops bytes (at + 4) (3 + least / 4) 4294967295) (PairStops bytes least at) (word_between bytes (at + 4) (3 + least / 4) 4294967295)
    (word_ends bytes (at + 4) (3 + least / 4) 4294967295 fits p.room (omega arith) (omega arith))
    (λ k s. record { from = omega (arith, s.from); before = omega (arith, s.before); within = s.within; low = s.low refl })
    (λ w q. record { is = q.is; low = q.low; room = omega (arith, q.room) }))

-- ---- all pairs of a set

-- the offsets of so many pairs lead behind the sets' end
abbrev pub AreBehind : (ℕ → ℕ) → ℕ → ℕ → ℕ → Type 0
AreBehind g end zero at = Unit {0}
AreBehind g end (suc n) at = (3 + end / 4 ≤ word_of g (at + 4)) × AreBehind g end n (at + 8)

all_behind : (bytes : List ℕ) (k end : ℕ) (g : ℕ → ℕ) (n at : ℕ) → end ≤ 17179869168 → ((i : ℕ) → i < k → g i ≡ get_or bytes i 0) → ((i : ℕ) → k ≤ i → i < at + 8 * n → g i ≡ 255) → k ≤ at → AreBehind g end n at
all_behind bytes k end g zero at low same full h = tt
all_behind bytes k end g (suc n) at low same full h =
    let word : word_of g (at + 4) ≡ 4294967295 = sym (as_filled bytes k 255 g (at + 4) same (λ i le lt. full i le (omega arith))) ∙ word_put bytes k 255 (at + 4) (omega arith) in
    (omega arith, all_behind bytes k end g n (at + 8) low same (λ i le lt. full i le (omega arith)) (omega arith))

-- so their blocks are read
pub behind_read : (bytes : List ℕ) (k end : ℕ) (g : ℕ → ℕ) (before n at : ℕ) → GoesOn bytes k end g → end % 4 ≡ 0 → k ≤ end → AreBehind g end n at
    → (far : ℕ) × (before ≤ far) × ((t : List ℕ) → Spells t g → far ≤ length t → at + 8 * n ≤ length t → BlocksRead t end before n at far)
unfolding blocks_from
behind_read bytes k end g before zero at on whole past all = (before, omega arith, λ t s long room. ([], refl))
behind_read bytes k end g before (suc n) at on whole past all =
    let offset : ℕ = word_of g (at + 4) in
    let low : 3 + end / 4 ≤ offset = all.0 in
    let behind : end ≤ offset_byte offset = omega arith in
    let high : 4 ≤ word_of g (offset_byte offset) % 16777216 = on.heads (offset_byte offset) behind (omega arith) (omega arith) in
    let more = behind_read bytes k end g (max before (block_stop g offset)) n (at + 8) on whole past all.1 in
    let grows : max before (block_stop g offset) ≤ more.0 = more.1 in (
      more.0,
      omega arith,
      λ t s long room. pair_read t g end before n at offset more.0 s (omega arith) refl behind high (omega arith) (more.2 t s long (omega arith)),
    )

-- Pairs stand, and this is known of their blocks; from bytes that go on so the blocks are read.
pub record LedWell (bytes : List ℕ) (least n at : ℕ) (b c : Blocks) : Type 0 where
  pub room : at + 8 * n ≤ length bytes
  pub limit : c.limit ≤ b.limit
  pub above : least % 4 ≡ 0 → least ≤ b.limit → least ≤ c.limit
  pub stop : c.stop ≤ b.stop
  pub kept : (k : ℕ) → k ≤ length bytes → k ≤ b.stop → k ≤ c.limit → k ≤ c.stop
  pub reads : (g : ℕ → ℕ) (k end before : ℕ) → GoesOn bytes k end g → at + 8 * n ≤ k → end ≤ c.limit → k ≤ c.stop → Covers bytes k b before
      → (far : ℕ) × Covers bytes k c far × (before ≤ far) × ((t : List ℕ) → Spells t g → far ≤ length t → at + 8 * n ≤ length t → BlocksRead t end before n at far)

-- Pairs stop here; where all that follows in them are the highest bytes, their offsets lead behind.
pub record LedStops (bytes : List ℕ) (least n at k : ℕ) : Type 0 where
  pub from : at ≤ k
  pub before : k < at + 8 * n
  pub within : k ≤ length bytes
  pub behind : (g : ℕ → ℕ) → ((i : ℕ) → i < k → g i ≡ get_or bytes i 0) → ((i : ℕ) → k ≤ i → i < at + 8 * n → g i ≡ 255) → AreBehind g least n at

pub offsets_end : (bytes : List ℕ) (least : ℕ) → IsBytes bytes → least ≤ 17179869168 → (n at : ℕ) (b : Blocks) → at ≤ length bytes → Ends (LedWell bytes least n at b) (LedStops bytes least n at) (offsets_from bytes least b n at)
unfolding offsets_from blocks_from
offsets_end bytes least fits low zero at b within = record {
  room = omega arith;
  limit = omega arith;
  above = λ whole h. h;
  stop = omega arith;
  kept = λ k long h g. h;
  reads = λ g k end before on past behind stop h. (before, h, omega arith, λ t s long room. ([], refl));
}
offsets_end bytes least fits low (suc n) at b within =
    ends_on (PairIs bytes least at) (LedWell bytes least (suc n) at b) (PairStops bytes least at) (LedStops bytes least (suc n) at) (offset_at bytes least at) _ (pair_ends bytes least at fits within low)
    (λ k s. let before : k < at + 8 = s.before in record {
      from = s.from;
      before = omega arith;
      within = s.within;
      behind = λ g same full. (
        subst (λ w. 3 + least / 4 ≤ w) (as_filled bytes k 255 g (at + 4) same (λ i le lt. full i le (omega arith))) s.low,
        all_behind bytes k least g n (at + 8) low same (λ i le lt. full i le (omega arith)) (omega arith),
      );
    })
    (λ w p. let c : Blocks = led_by bytes b w in
    let f = led_falls bytes b w in
    let limit : c.limit ≡ min b.limit (offset_byte w) = f.limit in
    let stop : c.stop ≤ b.stop = f.stop in
    ends_or (LedWell bytes least n (at + 8) c) (LedWell bytes least (suc n) at b) (LedStops bytes least n (at + 8)) (LedStops bytes least (suc n) at) (offsets_from bytes least c n (at + 8)) (offsets_end bytes least fits low n (at + 8) c p.room)
    (λ k s. record {
      from = omega (arith, s.from);
      before = omega (arith, s.before);
      within = s.within;
      behind = λ g same full. (
        subst (λ v. 3 + least / 4 ≤ v) (p.is ∙ sym (word_same bytes k g (at + 4) same (omega (arith, s.from)))) p.low,
        s.behind g same (λ i le lt. full i le (omega arith)),
      );
    })
    (λ d l. let near : d.limit ≤ c.limit = l.limit in record {
      room = omega (arith, l.room);
      limit = omega arith;
      above = λ whole h. l.above whole (let least_is : 3 + least / 4 ≤ w = p.low in omega arith);
      stop = omega (arith, l.stop);
      kept = λ k long h g. l.kept k long (led_past bytes k long b w h (omega arith)) g;
      reads = λ g k end before on past behind last h.
          let is : w ≡ word_of g (at + 4) = p.is ∙ sym (word_same bytes k g (at + 4) on.same (omega arith)) in
          let led = led_covers bytes k end g b w before on (omega arith) (omega (arith, l.stop)) h in
          let more = l.reads g k end (max before (block_stop g w)) on (omega arith) behind last led.1 in
          let grows : max before (block_stop g w) ≤ more.0 = more.2 in
          (more.0, more.1, omega arith, λ t s long room. pair_read t g end before n at w more.0 s (omega arith) is (omega arith) led.0 (omega arith) (more.3 t s long (omega arith)));
    }))
