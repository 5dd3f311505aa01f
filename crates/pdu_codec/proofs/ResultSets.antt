-- The sets of bytes, one behind another: from bytes that go on as these do up to where they stop, all sets are read.
use Rattle.std.proofs.Common.{◌≡◌, ℕ, zero, suc, ◌+◌, ◌*◌, ◌%◌, ◌<◌, ◌≤◌, Bool, true, false, cond, ltb, leb, eqb, List, length, Ok, Err, refl, sym, ◌∙◌, subst, arith, inl, inr}
use Rattle.std.specs.Prelude.{◌⊎◌, ◌||◌}
use Rattle.std.proofs.lemmas.Bool.{cases_lt, ltb-true, ltb-false, eqb-true, eqb-false, leb-true, leb-false, or_cases}
use Rattle.pcp_base.specs.Fields.{number_at}
use Rattle.pcp_base.proofs.Bytes.{IsBytes}
use Rattle.result_form.specs.Faults.{IsStatus}
use Rattle.result_form.proofs.Spans.{neither}
use Rattle.pdu_codec.specs.declared.misfit.Blocks.{Blocks}
use Rattle.pdu_codec.specs.declared.misfit.Sets.{Sets}
use Rattle.pdu_codec.specs.ResultMisfit.{◌>>=◌, word_between, any_word, most_values, least_end, count_word, offsets_from, pairs_at, most_mode, values_at, set_at, sets_at}
use Rattle.pdu_codec.proofs.ResultFills.{Ends, ends_on, ends_or, word_of, filled, kept, put, word_put, WordIs, WordStops, word_ends, CountIs, CountStops, count_ends}
use Rattle.pdu_codec.proofs.ResultRead.{Spells, SetRead, status_read, place_read, led_read, SetsRead, no_sets, sets_on, zero_sets}
use Rattle.pdu_codec.proofs.ResultBlocks.{GoesOn, word_same, as_filled, Covers, AreBehind, behind_read, LedWell, LedStops, offsets_end}

-- a word that stands before the byte
pub same_word : (bytes : List ℕ) (k p : ℕ) → p + 4 ≤ k → word_of (filled bytes k 0) p ≡ number_at bytes p
same_word bytes k p h = word_same bytes k (filled bytes k 0) p (λ i lt. kept bytes k 0 i lt) h

-- ---- a set

-- A set stands, and so many others follow it.
record SetWell (bytes : List ℕ) (others at : ℕ) (b : Blocks) (next : Sets) : Type 0 where
  within : next.at ≤ length bytes
  grows : at + 8 ≤ next.at
  aligned : next.at % 4 ≡ 0
  ends : next.at + 8 * others ≤ next.blocks.limit
  limit : next.blocks.limit ≤ b.limit
  stop : next.blocks.stop ≤ b.stop
  kept : (k : ℕ) → k ≤ length bytes → k ≤ b.stop → k ≤ next.blocks.limit → k ≤ next.blocks.stop
  reads : (g : ℕ → ℕ) (k end before : ℕ) → GoesOn bytes k end g → next.at ≤ k → end ≤ next.blocks.limit → k ≤ next.blocks.stop → Covers bytes k b before
      → (far : ℕ) × Covers bytes k next.blocks far × (before ≤ far) × ((t : List ℕ) → Spells t g → far ≤ length t → next.at ≤ length t → SetRead t end before at next.at far)

-- A set stops here: up to one byte it goes on with the highest bytes, and up to its end with zeros.
record SetStops (bytes : List ℕ) (others at : ℕ) (b : Blocks) (k : ℕ) : Type 0 where
  from : at ≤ k
  within : k ≤ length bytes
  full : ℕ
  next : ℕ
  past : k ≤ next
  low : full ≤ next
  aligned : next % 4 ≡ 0
  ends : next + 8 * others ≤ b.limit
  reads : (g : ℕ → ℕ) (end before : ℕ) → GoesOn bytes k end g → end ≡ next + 8 * others → end % 4 ≡ 0 → ((i : ℕ) → k ≤ i → i < full → g i ≡ 255) → ((i : ℕ) → k ≤ i → full ≤ i → i < end → g i ≡ 0)
      → (far : ℕ) × (before ≤ far) × ((t : List ℕ) → Spells t g → far ≤ length t → next ≤ length t → SetRead t end before at next far)

mode_cases : (e m : ℕ) → m ≤ most_mode e → (m ≡ 0) ⊎ ((m ≡ 1) × (e ≤ 17179869168))
mode_cases e m h = by (ltb 17179869168 e) refl h
  where
    by : (b : Bool) → ltb 17179869168 e ≡ b → m ≤ cond b 0 1 → (m ≡ 0) ⊎ ((m ≡ 1) × (e ≤ 17179869168))
    by true f low = inl (omega arith)
    by false f low =
        elim (cases_lt m 1) [
          | inl none ↦ inl (omega arith)
          | inr one ↦ inr (omega arith, ltb-false 17179869168 e f)
        ]

mode_low : (e : ℕ) → most_mode e ≤ 1
mode_low e = by (ltb 17179869168 e)
  where
    by : (b : Bool) → cond b 0 1 ≤ 1
    by true = omega arith
    by false = omega arith

module _ (bytes : List ℕ) (fits : IsBytes bytes) (others at : ℕ) (b : Blocks) (whole : at % 4 ≡ 0) (room : at + 8 + 8 * others ≤ b.limit) where
  stops_status : (k : ℕ) → at ≤ k → k ≤ at + 8 → k ≤ length bytes → IsStatus (word_of (filled bytes k 0) (at + 4)) → SetStops bytes others at b k
  stops_status k from past within status = record {
    from = from;
    within = within;
    full = 0;
    next = at + 8;
    past = past;
    low = omega arith;
    aligned = omega arith;
    ends = room;
    reads = λ g end before on is aligned full zeros. (
      before,
      omega arith,
      λ t s long inside. status_read t g end before at s inside (subst IsStatus (as_filled bytes k 0 g (at + 4) on.same (λ i le lt. zeros i le (omega arith) (omega arith))) status),
    );
  }

  stops_place : (k n : ℕ) → at ≤ k → k ≤ at + 12 + 8 * n → k ≤ length bytes → word_of (filled bytes k 0) (at + 4) ≡ n → 0 < n → n ≤ most_values at others b.limit → word_of (filled bytes k 0) (at + 8) ≡ 0 → SetStops bytes others at b k
  stops_place k n from past within is some few mode = record {
    from = from;
    within = within;
    full = 0;
    next = at + 12 + 8 * n;
    past = past;
    low = omega arith;
    aligned = omega arith;
    ends = omega arith;
    reads = λ g end before on end_is aligned full zeros. (
      before,
      omega arith,
      λ t s long inside. place_read t g end before at n s inside (sym (as_filled bytes k 0 g (at + 4) on.same (λ i le lt. zeros i le (omega arith) (omega arith))) ∙ is) some (omega arith)
          (sym (as_filled bytes k 0 g (at + 8) on.same (λ i le lt. zeros i le (omega arith) (omega arith))) ∙ mode),
    );
  }

  stops_count : (k : ℕ) → CountStops bytes at others b.limit k → SetStops bytes others at b k
  stops_count k c =
      let from : at + 4 ≤ k = c.from in
      let before : k < at + 8 = c.before in
      elim c.kind [
        | inr high ↦ stops_status k (omega arith) (omega arith) c.within (inr high)
        | inl few ↦
            elim (cases_lt 0 (word_of (filled bytes k 0) (at + 4))) [
              | inl some ↦ stops_place k (word_of (filled bytes k 0) (at + 4)) (omega arith) (omega arith) c.within refl some few (word_put bytes k 0 (at + 8) (omega arith))
              | inr none ↦ stops_status k (omega arith) (omega arith) c.within (inl (omega arith))
            ]
      ]

  -- no block is known of
  well_still : (next : ℕ) → next ≤ length bytes → at + 8 ≤ next → next % 4 ≡ 0 → next + 8 * others ≤ b.limit
      → ((g : ℕ → ℕ) (k end before : ℕ) → GoesOn bytes k end g → next ≤ k → (t : List ℕ) → Spells t g → next ≤ length t → SetRead t end before at next before) → SetWell bytes others at b (record { at = next; blocks = b })
  well_still next within grows aligned ends reads = record {
    within = within;
    grows = grows;
    aligned = aligned;
    ends = ends;
    limit = omega arith;
    stop = omega arith;
    kept = λ k long h g. h;
    reads = λ g k end before on past behind stop h. (before, h, omega arith, λ t s long inside. reads g k end before on past t s inside);
  }

  -- a set whose number of values stands, by its mode
  place_goes : (n : ℕ) → n ≡ number_at bytes (at + 4) → 0 < n → n ≤ most_values at others b.limit → at + 12 ≤ length bytes → number_at bytes (at + 8) ≡ 0 → Ends (SetWell bytes others at b) (SetStops bytes others at b) (pairs_at bytes at others b n 0)
  unfolding pairs_at
  place_goes n number some few inside mode = by (ltb (length bytes) (at + 12 + 8 * n)) refl
    where
      by : (c : Bool) → ltb (length bytes) (at + 12 + 8 * n) ≡ c → Ends (SetWell bytes others at b) (SetStops bytes others at b) (cond c (Err (length bytes)) (Ok (record { at = at + 12 + 8 * n; blocks = b })))
      by true e =
          let short : length bytes < at + 12 + 8 * n = ltb-true (length bytes) (at + 12 + 8 * n) e in
          stops_place (length bytes) n (omega arith) (omega arith) (omega arith) (same_word bytes (length bytes) (at + 4) (omega arith) ∙ sym number) some few (same_word bytes (length bytes) (at + 8) (omega arith) ∙ mode)
      by false e =
          let long : at + 12 + 8 * n ≤ length bytes = ltb-false (length bytes) (at + 12 + 8 * n) e in
          well_still (at + 12 + 8 * n) long (omega arith) (omega arith) (omega arith)
          (λ g k end before on past t s room. place_read t g end before at n s room (word_same bytes k g (at + 4) on.same (omega arith) ∙ sym number) some (omega arith) (word_same bytes k g (at + 8) on.same (omega arith) ∙ mode))

  led_goes : (n : ℕ) → n ≡ number_at bytes (at + 4) → 0 < n → n ≤ most_values at others b.limit → at + 12 ≤ length bytes → number_at bytes (at + 8) ≡ 1 → least_end at others n ≤ 17179869168
      → Ends (SetWell bytes others at b) (SetStops bytes others at b) (pairs_at bytes at others b n 1)
  unfolding pairs_at
  led_goes n number some few inside mode near =
      let least : ℕ = least_end at others n in
      ends_on (LedWell bytes least n (at + 12) b) (SetWell bytes others at b) (LedStops bytes least n (at + 12)) (SetStops bytes others at b) (offsets_from bytes least b n (at + 12)) _ (offsets_end bytes least fits near n (at + 12) b inside)
      (λ k l. let from : at + 12 ≤ k = l.from in let before : k < at + 12 + 8 * n = l.before in record {
        from = omega arith;
        within = l.within;
        full = at + 12 + 8 * n;
        next = at + 12 + 8 * n;
        past = omega arith;
        low = omega arith;
        aligned = omega arith;
        ends = omega arith;
        reads = λ g end before on is aligned full zeros.
            let all = behind_read bytes k end g before n (at + 12) on aligned (omega arith) (subst (λ e. AreBehind g e n (at + 12)) (sym is) (l.behind g on.same full)) in (
              all.0,
              all.1,
              λ t s long room. led_read t g end before at n all.0 s room (word_same bytes k g (at + 4) on.same (omega arith) ∙ sym number) some (omega arith) (word_same bytes k g (at + 8) on.same (omega arith) ∙ mode) (all.2 t s long room),
            );
      })
      (λ c l. record {
        within = l.room;
        grows = omega arith;
        aligned = omega arith;
        ends = let above : least ≤ c.limit = l.above (omega arith) (omega arith) in omega arith;
        limit = l.limit;
        stop = l.stop;
        kept = l.kept;
        reads = λ g k end before on past behind stop h.
            let all = l.reads g k end before on past behind stop h in (
              all.0,
              all.1,
              all.2,
              λ t s long room. led_read t g end before at n all.0 s room (word_same bytes k g (at + 4) on.same (omega arith) ∙ sym number) some (omega arith) (word_same bytes k g (at + 8) on.same (omega arith) ∙ mode) (all.3 t s long room),
            );
      })

  mode_goes : (n : ℕ) → n ≡ number_at bytes (at + 4) → 0 < n → n ≤ most_values at others b.limit → at + 8 ≤ length bytes
      → Ends (SetWell bytes others at b) (SetStops bytes others at b) (word_between bytes (at + 8) 0 (most_mode (least_end at others n)) >>= λ mode. pairs_at bytes at others b n mode)
  mode_goes n number some few inside =
      let most : ℕ = most_mode (least_end at others n) in
      let one : most ≤ 1 = mode_low (least_end at others n) in
      ends_on (WordIs bytes (at + 8) 0 most) (SetWell bytes others at b) (WordStops bytes (at + 8) 0 most) (SetStops bytes others at b) (word_between bytes (at + 8) 0 most) _ (word_ends bytes (at + 8) 0 most fits inside (omega arith) (omega arith))
      (λ k w. let from : at + 8 ≤ k = w.from in let before : k < at + 8 + 4 = w.before in let high : word_of (filled bytes k 0) (at + 8) ≤ most = w.high in let low : filled bytes k 0 (at + 8 + 3) ≡ 0 = put bytes k 0 (at + 8 + 3) (omega arith) in
      stops_place k n (omega arith) (omega arith) w.within (same_word bytes k (at + 4) (omega arith) ∙ sym number) some few (omega arith))
      (λ mode w. let room_is : at + 8 + 4 ≤ length bytes = w.room in elim (mode_cases (least_end at others n) mode w.high) [
        | inl zero_is ↦ subst (λ m. Ends (SetWell bytes others at b) (SetStops bytes others at b) (pairs_at bytes at others b n m)) (sym zero_is) (place_goes n number some few (omega arith) (sym w.is ∙ zero_is))
        | inr one_is ↦ subst (λ m. Ends (SetWell bytes others at b) (SetStops bytes others at b) (pairs_at bytes at others b n m)) (sym one_is.0) (led_goes n number some few (omega arith) (sym w.is ∙ one_is.0) one_is.1)
      ])

  values_go : (n : ℕ) → CountIs bytes at others b.limit n → Ends (SetWell bytes others at b) (SetStops bytes others at b) (values_at bytes at others b n)
  unfolding values_at
  values_go n c = by (eqb n 0 || leb 2147483648 n) refl
    where
      status : (eqb n 0 || leb 2147483648 n) ≡ true → IsStatus n
      status e = elim (or_cases (eqb n 0) (leb 2147483648 n) e) [ inl f ↦ inl (eqb-true n 0 f) | inr f ↦ inr (leb-true 2147483648 n f) ]

      by : (d : Bool) → (eqb n 0 || leb 2147483648 n) ≡ d
          → Ends (SetWell bytes others at b) (SetStops bytes others at b) (cond d (Ok (record { at = at + 8; blocks = b })) (word_between bytes (at + 8) 0 (most_mode (least_end at others n)) >>= λ mode. pairs_at bytes at others b n mode))
      by true e =
          well_still (at + 8) c.room (omega arith) (omega arith) room
          (λ g k end before on past t s inside. status_read t g end before at s inside (subst IsStatus (c.is ∙ sym (word_same bytes k g (at + 4) on.same (omega arith))) (status e)))
      by false e =
          let f = neither (eqb n 0) (leb 2147483648 n) e in
          let other : n ≡ 0 → ⊥ = eqb-false n 0 f.0 in
          let low : n < 2147483648 = leb-false 2147483648 n f.1 in
          elim c.kind [
            | inl few ↦ mode_goes n c.is (omega arith) few c.room
            | inr high ↦ absurd (omega arith)
          ]

set_goes : (bytes : List ℕ) (others : ℕ) (s : Sets) → IsBytes bytes → s.at ≤ length bytes → s.at % 4 ≡ 0 → s.at + 8 + 8 * others ≤ s.blocks.limit → Ends (SetWell bytes others s.at s.blocks) (SetStops bytes others s.at s.blocks) (set_at bytes others s)
unfolding set_at
set_goes bytes others s fits within whole room =
    let Well : Sets → Type 0 = SetWell bytes others s.at s.blocks in
    let Stops : ℕ → Type 0 = SetStops bytes others s.at s.blocks in
    ends_on (WordIs bytes s.at 0 4294967295) Well (WordStops bytes s.at 0 4294967295) Stops (any_word bytes s.at) _ (word_ends bytes s.at 0 4294967295 fits within (omega arith) (omega arith))
    (λ k w. let before : k < s.at + 4 = w.before in stops_status bytes fits others s.at s.blocks whole room k w.from (omega arith) w.within (inl (word_put bytes k 0 (s.at + 4) (omega arith))))
    (λ pmid p. ends_on (CountIs bytes s.at others s.blocks.limit) Well (CountStops bytes s.at others s.blocks.limit) Stops (count_word bytes s.at others s.blocks.limit) _ (count_ends bytes s.at others s.blocks.limit fits p.room)
    (λ k c. stops_count bytes fits others s.at s.blocks whole room k c)
    (λ n c. values_go bytes fits others s.at s.blocks whole room n c))

-- ---- so many sets

-- All sets stand.
pub record SetsWell (bytes : List ℕ) (n at : ℕ) (b : Blocks) (after : Sets) : Type 0 where
  pub within : after.at ≤ length bytes
  pub grows : at ≤ after.at
  pub aligned : after.at % 4 ≡ 0
  pub ends : after.at ≤ after.blocks.limit
  pub limit : after.blocks.limit ≤ b.limit
  pub stop : after.blocks.stop ≤ b.stop
  pub kept : (k : ℕ) → k ≤ length bytes → k ≤ b.stop → k ≤ after.blocks.limit → k ≤ after.blocks.stop
  pub reads : (g : ℕ → ℕ) (k end before : ℕ) → GoesOn bytes k end g → after.at ≤ k → end ≤ after.blocks.limit → k ≤ after.blocks.stop → Covers bytes k b before
      → (far : ℕ) × Covers bytes k after.blocks far × (before ≤ far) × ((t : List ℕ) → Spells t g → far ≤ length t → after.at ≤ length t → SetsRead t end before n at after.at far)

-- One of them stops here: up to one byte it goes on with the highest bytes, and up to the end of all sets with zeros.
pub record SetsStop (bytes : List ℕ) (n at : ℕ) (b : Blocks) (k : ℕ) : Type 0 where
  pub from : at ≤ k
  pub within : k ≤ length bytes
  pub full : ℕ
  pub end : ℕ
  pub past : k ≤ end
  pub low : full ≤ end
  pub aligned : end % 4 ≡ 0
  pub ends : end ≤ b.limit
  pub reads : (g : ℕ → ℕ) (before : ℕ) → GoesOn bytes k end g → ((i : ℕ) → k ≤ i → i < full → g i ≡ 255) → ((i : ℕ) → k ≤ i → full ≤ i → i < end → g i ≡ 0) → k ≤ b.stop → k ≤ before
      → (far : ℕ) × (before ≤ far) × ((t : List ℕ) → Spells t g → far ≤ length t → end ≤ length t → SetsRead t end before n at end far)

pub sets_go : (bytes : List ℕ) → IsBytes bytes → (n : ℕ) (s : Sets) → s.at ≤ length bytes → s.at % 4 ≡ 0 → s.at + 8 * n ≤ s.blocks.limit → Ends (SetsWell bytes n s.at s.blocks) (SetsStop bytes n s.at s.blocks) (sets_at bytes n s)
unfolding sets_at
sets_go bytes fits zero s within whole room = record {
  within = within;
  grows = omega arith;
  aligned = whole;
  ends = omega arith;
  limit = omega arith;
  stop = omega arith;
  kept = λ k long h g. h;
  reads = λ g k end before on past behind stop h. (before, h, omega arith, λ t s_is long inside. no_sets t end before s.at);
}
sets_go bytes fits (suc others) s within whole room =
    ends_on (SetWell bytes others s.at s.blocks) (SetsWell bytes (suc others) s.at s.blocks) (SetStops bytes others s.at s.blocks) (SetsStop bytes (suc others) s.at s.blocks) (set_at bytes others s) _ (set_goes bytes others s fits within whole (omega arith))
    (λ k w. let past : k ≤ w.next = w.past in let low : w.full ≤ w.next = w.low in let aligned : w.next % 4 ≡ 0 = w.aligned in record {
      from = w.from;
      within = w.within;
      full = w.full;
      end = w.next + 8 * others;
      past = omega arith;
      low = omega arith;
      aligned = omega arith;
      ends = w.ends;
      reads = λ g before on full zeros stop reached.
          let end : ℕ = w.next + 8 * others in
          let one = w.reads g end before on refl (omega arith) full zeros in (
            one.0,
            one.1,
            λ t spells long inside. sets_on t end before others s.at w.next end one.0 one.0 (one.2 t spells long (omega arith)) (zero_sets t g end one.0 others w.next end spells (λ i le lt. zeros i (omega arith) (omega arith) lt) refl inside),
          );
    })
    (λ next w. let grows : s.at + 8 ≤ next.at = w.grows in let lower : next.blocks.limit ≤ s.blocks.limit = w.limit in let earlier : next.blocks.stop ≤ s.blocks.stop = w.stop in
    ends_or (SetsWell bytes others next.at next.blocks) (SetsWell bytes (suc others) s.at s.blocks) (SetsStop bytes others next.at next.blocks) (SetsStop bytes (suc others) s.at s.blocks) (sets_at bytes others next)
    (sets_go bytes fits others next w.within w.aligned w.ends)
    (λ k w2. record {
      from = omega (arith, w2.from);
      within = w2.within;
      full = w2.full;
      end = w2.end;
      past = w2.past;
      low = w2.low;
      aligned = w2.aligned;
      ends = omega (arith, w2.ends);
      reads = λ g before on full zeros stop reached.
          let last : k ≤ next.blocks.stop = w.kept k w2.within stop (omega (arith, w2.past, w2.ends)) in
          let one = w.reads g k w2.end before on (omega (arith, w2.from)) w2.ends last (inl reached) in
          let first : before ≤ one.0 = one.2 in
          let more = w2.reads g one.0 on full zeros last (omega arith) in
          let second : one.0 ≤ more.0 = more.1 in (
            more.0,
            omega arith,
            λ t spells long inside. sets_on t w2.end before others s.at next.at w2.end one.0 more.0 (one.3 t spells (omega arith) (omega (arith, w2.from, w2.past))) (more.2 t spells long inside),
          );
    })
    (λ after w2. let lowest : after.blocks.limit ≤ next.blocks.limit = w2.limit in let earliest : after.blocks.stop ≤ next.blocks.stop = w2.stop in let behind : next.at ≤ after.at = w2.grows in record {
      within = w2.within;
      grows = omega arith;
      aligned = w2.aligned;
      ends = w2.ends;
      limit = omega arith;
      stop = omega arith;
      kept = λ k long h g. w2.kept k long (w.kept k long h (omega arith)) g;
      reads = λ g k end before on past limit last h.
          let one = w.reads g k end before on (omega arith) (omega arith) (omega arith) h in
          let first : before ≤ one.0 = one.2 in
          let more = w2.reads g k end one.0 on past limit last one.1 in
          let second : one.0 ≤ more.0 = more.2 in (
            more.0,
            more.1,
            omega arith,
            λ t spells long inside. sets_on t end before others s.at next.at after.at one.0 more.0 (one.3 t spells (omega arith) (omega arith)) (more.3 t spells long inside),
          );
    }))
