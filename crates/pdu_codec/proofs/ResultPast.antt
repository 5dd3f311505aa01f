-- A walk that is behind the bytes that are known stays there.
use Rattle.std.proofs.Common.{◌≡◌, ℕ, zero, suc, ◌+◌, ◌*◌, ◌/◌, ◌%◌, ◌≤◌, Bool, true, false, cond, ltb, leb, eqb, max, List, length, get_or, Option, Some, None, Result, refl, arith}
use Rattle.std.specs.Prelude.{min, ◌||◌, ◌&&◌}
use Rattle.std.specs.Int.{w32}
use Rattle.pcp_base.specs.Fields.{be_field}
use Rattle.pcp_model.specs.Payload.{offset_byte}
use Rattle.result_form.specs.Decoding.{padded_size}
use Rattle.pdu_codec.specs.declared.misfit.Blocks.{Blocks}
use Rattle.pdu_codec.specs.declared.misfit.Sets.{Sets}
use Rattle.pdu_codec.specs.ResultMisfit.{◌>>=◌, word_between, any_word, most_values, least_end, count_word, after_lead, led_by, offset_at, offsets_from, pairs_at, most_mode, values_at, set_at, sets_at}
use Rattle.pdu_codec.proofs.ResultWords.{Fate, and_on, word_past}

-- the next set begins behind the known bytes, and no length among them is too small
pub record Past (n : ℕ) (s : Sets) : Type 0 where
  pub at : n ≤ s.at
  pub stop : n ≤ s.blocks.stop

pub either : {X : Type 0} (n : ℕ) (P : X → Type 0) (b : Bool) (x y : Result X ℕ) → (b ≡ true → Fate n P x) → (b ≡ false → Fate n P y) → Fate n P (cond b x y)
either n P true x y f g = f refl
either n P false x y f g = g refl

-- what is known with one more block
abbrev pub led_made : Blocks → ℕ → ℕ → ℕ → Blocks
led_made b begin stop reach = record { limit = min b.limit begin; stop = stop; reach = reach; is_open = b.is_open }

led_stop : (bytes : List ℕ) (n begin head : ℕ) (b : Blocks) (small : Bool) → n ≤ b.stop → n ≤ begin + 3
    → n ≤ (cond small (led_made b begin (min b.stop (begin + 3)) b.reach) (led_made b begin b.stop (max b.reach (begin + padded_size head)))).stop
led_stop bytes n begin head b true h g = omega arith
led_stop bytes n begin head b false h g = h

module _ (bytes : List ℕ) (n : ℕ) (within : n ≤ length bytes) where
  lead_past : (b : Blocks) (begin : ℕ) (o : Option ℕ) → n ≤ b.stop → n ≤ begin + 3 → n ≤ (after_lead bytes b begin o).stop
  lead_past b begin None h g = h
  lead_past b begin (Some head) h g = led_stop bytes n begin head b (ltb (head % 16777216) 4) h g

  pub led_past : (b : Blocks) (offset : ℕ) → n ≤ b.stop → n ≤ offset_byte offset + 3 → n ≤ (led_by bytes b offset).stop
  led_past b offset h g = lead_past b (offset_byte offset) (be_field w32 (offset_byte offset) bytes) h g

  pub offsets_past : (end : ℕ) (b : Blocks) (k at : ℕ) → n ≤ end → n ≤ at → n ≤ b.stop → Fate n (λ (c : Blocks). n ≤ c.stop) (offsets_from bytes end b k at)
  unfolding offsets_from offset_at
  offsets_past end b zero at far here stop = stop
  offsets_past end b (suc k) at far here stop =
      and_on n (λ x. 3 + end / 4 ≤ x) (λ (c : Blocks). n ≤ c.stop) (any_word bytes at >>= λ instance. word_between bytes (at + 4) (3 + end / 4) 4294967295) _
      (and_on n (λ x. 0 ≤ x) (λ x. 3 + end / 4 ≤ x) (any_word bytes at) _ (word_past bytes n at 0 4294967295 within here) (λ x h. word_past bytes n (at + 4) (3 + end / 4) 4294967295 within (omega arith)))
      (λ offset h. offsets_past end (led_by bytes b offset) k (at + 8) far (omega arith) (led_past b offset stop (omega arith)))

  pub pairs_past : (at others : ℕ) (b : Blocks) (count mode : ℕ) → n ≤ at + 12 → n ≤ b.stop → Fate n (Past n) (pairs_at bytes at others b count mode)
  unfolding pairs_at
  pairs_past at others b count mode here stop =
      either n (Past n) (eqb mode 0) _ _
      (λ e. either n (Past n) (ltb (length bytes) (at + 12 + 8 * count)) _ _ (λ f. within) (λ f. record { at = omega arith; stop = stop }))
      (λ e. and_on n (λ (c : Blocks). n ≤ c.stop) (Past n) (offsets_from bytes (least_end at others count) b count (at + 12)) _ (offsets_past (least_end at others count) b count (at + 12) (omega arith) here stop) (λ c h. record { at = omega arith; stop = h }))

  pub values_past : (at others : ℕ) (b : Blocks) (count : ℕ) → n ≤ at + 8 → n ≤ b.stop → Fate n (Past n) (values_at bytes at others b count)
  unfolding values_at
  values_past at others b count here stop =
      either n (Past n) (eqb count 0 || leb 2147483648 count) _ _
      (λ e. record { at = here; stop = stop })
      (λ e. and_on n (λ x. 0 ≤ x) (Past n) (word_between bytes (at + 8) 0 (most_mode (least_end at others count))) _ (word_past bytes n (at + 8) 0 (most_mode (least_end at others count)) within here) (λ mode h. pairs_past at others b count mode (omega arith) stop))

  count_past : (at others limit : ℕ) → n ≤ at + 4 → Fate n (λ x. 0 ≤ x) (count_word bytes at others limit)
  count_past at others limit here =
      either n (λ x. 0 ≤ x) (ltb (at + 4) (length bytes) && leb 128 (get_or bytes (at + 4) 0)) _ _
      (λ e. word_past bytes n (at + 4) 0 4294967295 within here)
      (λ e. word_past bytes n (at + 4) 0 (most_values at others limit) within here)

  pub set_past : (others : ℕ) (s : Sets) → Past n s → Fate n (Past n) (set_at bytes others s)
  unfolding set_at
  set_past others s p =
      let here : n ≤ s.at = p.at in
      and_on n (λ x. 0 ≤ x) (Past n) (any_word bytes s.at) _ (word_past bytes n s.at 0 4294967295 within here) (λ pmid h.
      and_on n (λ x. 0 ≤ x) (Past n) (count_word bytes s.at others s.blocks.limit) _ (count_past s.at others s.blocks.limit (omega arith)) (λ count g.
      values_past s.at others s.blocks count (omega arith) p.stop))

  pub sets_past : (count : ℕ) (s : Sets) → Past n s → Fate n (Past n) (sets_at bytes count s)
  unfolding sets_at
  sets_past zero s p = p
  sets_past (suc others) s p = and_on n (Past n) (Past n) (set_at bytes others s) _ (set_past others s p) (λ next q. sets_past others next q)
