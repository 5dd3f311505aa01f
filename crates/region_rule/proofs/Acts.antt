-- Where each kind of act is allowed, by what its pass has seen alone, and the table's step that it is.
use Rattle.std.proofs.Common.{◌≡◌, ◌≢◌, ℕ, suc, ◌+◌, ◌-◌, ◌%◌, ◌^◌, ◌<◌, ◌≤◌, ◌⊎◌, Bool, true, false, List, ◌∷◌, length, slice_index, slice_set, eqb, add-one, mod-eq_of_lt, sym, refl, ap, ◌∙◌, subst, inl, inr, ⊎_elim, arith}
use Rattle.std.proofs.Math.Nat.{add-mod_right}
use lib.Seq.{set-get_or}
use prog.Atomic.{either}
use Rattle.atomic_table.specs.Seated.{TableId}
use Rattle.atomic_table.specs.Table.{State as Table, Me, Allows}
use Rattle.atomic_table.specs.declared.shared.Seat.{Seat}
use Rattle.region_core.specs.declared.mode.Mode.{Mode}
use Rattle.region_core.specs.declared.mode.Mode.TheVariants.{Idle, Attached, Bounced, Changing}
use Rattle.region_core.specs.declared.act.Act.{Act}
use Rattle.region_core.specs.declared.act.Act.TheVariants.{Load, Swap, Add, Enter, Leave, Take, Begin, Put, End, Free}
use Rattle.region_core.specs.declared.act.Entry.{Entry}
use Rattle.region_core.specs.Shape.{Shaping, IsShape, IsWord}
use Rattle.region_core.specs.State.{State, g1, g2, after_take, IsIn, IsStable}
use Rattle.region_core.specs.Journal.{state}
use Rattle.region_core.proofs.Lists.{at_below}
use Rattle.region_core.proofs.Gates.{gate_room}
use Rattle.region_core.proofs.Stretch.{IsStill}
use Rattle.region_core.proofs.Runs.{gate_inside, gate_bounced, gate_changing, wide_run, inside_run, changing_run}
use Rattle.region_rule.specs.declared.view.View.{View}
use Rattle.region_rule.specs.declared.view.Role.TheVariants.{Numbered}
use Rattle.region_rule.specs.Views.{table_words, opening_of, now, IsOneJournal}
use Rattle.region_rule.specs.Seats.{MadeRegion, IsSeatOf}
use Rattle.region_rule.specs.Steps.{Extends}
use Rattle.region_rule.proofs.Keeps.{Ahead, Fitting, Steady, allows}

-- a region has as many words as at its making
wide_ahead : (v : View) (rest : List Entry) → length (state (now v) rest).words ≡ length v.start
wide_ahead v rest = wide_run (now v) rest ∙ wide_run (opening_of v) v.seen

taken_words : (t : State) (k : ℕ) (b : Bool) → either b (2 ^ 63) t.gate ∷ t.words ≡ table_words (after_take t k b)
taken_words t k true = refl
taken_words t k false = refl

module _ (S : Shaping) (laws : IsShape S) where
  -- the step on an image word
  pub at_word : (words : List ℕ) (passes : ℕ) (v : View) (c : List (ℕ × Unit {0})) (act : ℕ → Act) (w : ℕ) (f tell : ℕ → ℕ) (slots id : ℕ) → v.start ≡ words → v.passes ≡ passes → v.role ≡ Numbered
      → Steady S v (Fitting S v (act w) (suc w) f tell)
      → Allows (λ (s : Table (Unit {0}) View). IsOneJournal S words passes s.words s.views) slots id (v, c) (w + 1) f (λ n me. Extends S v (act ((w + 1) - 1)) (tell n) me.0 × (me.1 ≡ c))
  at_word words passes v c act w f tell slots id start count is steady =
      let back : w ≡ (w + 1) - 1 = omega arith in
      subst (λ (ws : List ℕ). Allows (λ (s : Table (Unit {0}) View). IsOneJournal S ws passes s.words s.views) slots id (v, c) (w + 1) f (λ n me. Extends S v (act ((w + 1) - 1)) (tell n) me.0 × (me.1 ≡ c))) start
      (subst (λ (p : ℕ). Allows (λ (s : Table (Unit {0}) View). IsOneJournal S v.start p s.words s.views) slots id (v, c) (w + 1) f (λ n me. Extends S v (act ((w + 1) - 1)) (tell n) me.0 × (me.1 ≡ c))) count
      (subst (λ (u : ℕ). Allows (λ (s : Table (Unit {0}) View). IsOneJournal S v.start v.passes s.words s.views) slots id (v, c) (w + 1) f (λ n me. Extends S v (act u) (tell n) me.0 × (me.1 ≡ c))) back
      (subst (λ (i : ℕ). Allows (λ (s : Table (Unit {0}) View). IsOneJournal S v.start v.passes s.words s.views) slots id (v, c) i f (λ n me. Extends S v (act w) (tell n) me.0 × (me.1 ≡ c))) (sym (add-one w))
      (allows S laws v c (act w) (suc w) f tell slots id is steady))))

  -- the step on a word that has its number in the table
  pub at_cell : (words : List ℕ) (passes : ℕ) (v : View) (c : List (ℕ × Unit {0})) (act : Act) (i : ℕ) (f tell : ℕ → ℕ) (slots id : ℕ) → v.start ≡ words → v.passes ≡ passes → v.role ≡ Numbered
      → Steady S v (Fitting S v act i f tell)
      → Allows (λ (s : Table (Unit {0}) View). IsOneJournal S words passes s.words s.views) slots id (v, c) i f (λ n me. Extends S v act (tell n) me.0 × (me.1 ≡ c))
  at_cell words passes v c act i f tell slots id start count is steady =
      subst (λ (ws : List ℕ). Allows (λ (s : Table (Unit {0}) View). IsOneJournal S ws passes s.words s.views) slots id (v, c) i f (λ n me. Extends S v act (tell n) me.0 × (me.1 ≡ c))) start
      (subst (λ (p : ℕ). Allows (λ (s : Table (Unit {0}) View). IsOneJournal S v.start p s.words s.views) slots id (v, c) i f (λ n me. Extends S v act (tell n) me.0 × (me.1 ≡ c))) count
      (allows S laws v c act i f tell slots id is steady))

  -- a seat of a region steps on the region's table, as the table keeps it
  module _ (table : TableId) (words : List ℕ) (passes capacity : ℕ) (region : MadeRegion) (seat : Seat (Unit {0}) View) (same : record { table = table; words = words; passes = passes } ≡ region)
      (here : IsSeatOf region seat) (counted : table.words ≡ length words + 1) (full : length words ≡ capacity) (some_of : 2 < capacity) where
    abbrev pub Steps : (i : ℕ) (f : ℕ → ℕ) (leads : ℕ → Me (Unit {0}) View → Type 0) → Type 0
    Steps i f leads =
        (seat.table_id ≡ table) × (i < table.words) × Allows (λ (s : Table (Unit {0}) View). IsOneJournal S words passes s.words s.views) table.slots seat.id seat.me i f leads

    is_table : seat.table_id ≡ table
    is_table = ap (λ (r : MadeRegion). r.table) (here.is ∙ sym same)

    is_start : seat.me.0.start ≡ words
    is_start = ap (λ (r : MadeRegion). r.words) (here.is ∙ sym same)

    is_count : seat.me.0.passes ≡ passes
    is_count = ap (λ (r : MadeRegion). r.passes) (here.is ∙ sym same)

    -- on a word that has its number in the table
    pub on_cell : (act : Act) (i : ℕ) (f tell : ℕ → ℕ) → i < 4 → Steady S seat.me.0 (Fitting S seat.me.0 act i f tell) → Steps i f (λ n me. Extends S seat.me.0 act (tell n) me.0 × (me.1 ≡ seat.me.1))
    on_cell act i f tell few steady =
        (is_table, omega (arith, few, counted, full, some_of), at_cell words passes seat.me.0 seat.me.1 act i f tell table.slots seat.id is_start is_count here.named steady)

    -- on an image word
    on_kept : (act : ℕ → Act) (w : ℕ) (f tell : ℕ → ℕ) → w < length words → (w < length seat.me.0.start → Steady S seat.me.0 (Fitting S seat.me.0 (act w) (suc w) f tell))
        → Steps (w + 1) f (λ n me. Extends S seat.me.0 (act ((w + 1) - 1)) (tell n) me.0 × (me.1 ≡ seat.me.1))
    on_kept act w f tell below steady = (
      is_table,
      omega (arith, below, counted),
      at_word words passes seat.me.0 seat.me.1 act w f tell table.slots seat.id is_start is_count here.named
          (steady (subst (λ (ws : List ℕ). w < length ws) (sym is_start) below)),
    )

    pub on_word : (act : ℕ → Act) (w : ℕ) (f tell : ℕ → ℕ) → w < length region.words → (w < length seat.me.0.start → Steady S seat.me.0 (Fitting S seat.me.0 (act w) (suc w) f tell))
        → Steps (w + 1) f (λ n me. Extends S seat.me.0 (act ((w + 1) - 1)) (tell n) me.0 × (me.1 ≡ seat.me.1))
    on_word act w f tell below steady = on_kept act w f tell (subst (λ (r : MadeRegion). w < length r.words) (sym same) below) steady

    -- on one of the first three image words
    pub on_first : (act : ℕ → Act) (w : ℕ) (f tell : ℕ → ℕ) → w < 3 → (w < length seat.me.0.start → Steady S seat.me.0 (Fitting S seat.me.0 (act w) (suc w) f tell))
        → Steps (w + 1) f (λ n me. Extends S seat.me.0 (act ((w + 1) - 1)) (tell n) me.0 × (me.1 ≡ seat.me.1))
    on_first act w f tell few steady = on_kept act w f tell (omega (arith, few, full, some_of)) steady

  -- the pass's mode wherever the journal went on
  in_mode : (v : View) (m : Mode) (rest : List Entry) → v.mode ≡ m → Ahead S v rest → IsIn m (state (now v) rest) v.number
  in_mode v m rest e a = subst (λ (x : Mode). IsIn x (state (now v) rest) v.number) e a.mode

  in_mode_now : (v : View) (m : Mode) (rest : List Entry) → v.mode ≡ m → Ahead S v rest → IsIn m (now v) v.number
  in_mode_now v m rest e a = subst (λ (x : Mode). IsIn x (now v) v.number) e a.mode_now

  -- while a pass is inside, the form is that of what it has seen
  pub form_inside : (v : View) (rest : List Entry) → v.mode ≡ Attached → Ahead S v rest → S.form (state (now v) rest).words ≡ S.form (now v).words
  form_inside v rest e a = let still : IsStill S (now v).words (state (now v) rest).words = inside_run S laws (now v) v.number rest a.sound_now a.legal a.none (in_mode_now v Attached rest e a) in still.form_is

  -- while a pass is changing, the words are those of what it has seen
  pub words_changing : (v : View) (rest : List Entry) → v.mode ≡ Changing → Ahead S v rest → (state (now v) rest).words ≡ (now v).words
  words_changing v rest e a = changing_run S laws (now v) v.number rest a.sound_now a.legal a.none (in_mode_now v Changing rest e a)

  pub loads : (v : View) (w : ℕ) → w < length v.start → Steady S v (Fitting S v (Load w) (suc w) (λ n. n) (λ n. n))
  loads v w below rest a =
      let t : State = state (now v) rest in
      let wide = wide_ahead v rest in
      let there = at_below t.modes v.number v.mode a.mode in
      record {
        allowed = record { ready = (there, omega arith); suits = tt };
        moves = ap (λ (ws : List ℕ). t.gate ∷ ws) (set-get_or t.words w 0);
        tells = refl;
      }

  pub swaps : (v : View) (w x : ℕ) → v.mode ≡ Attached → w < length v.start → IsWord x → S.Takes (S.form (now v).words) w x → Steady S v (Fitting S v (Swap w x) (suc w) (λ _. x) (λ n. n))
  swaps v w x mode below fits takes rest a =
      let wide = wide_ahead v rest in
      record {
        allowed = record { ready = (in_mode v Attached rest mode a, omega arith, fits); suits = subst (λ (f : S.Form). S.Takes f w x) (sym (form_inside v rest mode a)) takes };
        moves = refl;
        tells = refl;
      }

  pub adds : (v : View) (w d : ℕ) → v.mode ≡ Attached → w < length v.start → IsWord d → ((x : ℕ) → IsWord x → S.Takes (S.form (now v).words) w x)
      → Steady S v (Fitting S v (Add w d) (suc w) (λ n. (n + d) % 2 ^ 64) (λ n. n))
  adds v w d mode below fits takes rest a =
      let wide = wide_ahead v rest in
      record {
        allowed = record { ready = (in_mode v Attached rest mode a, omega arith, fits); suits = λ x f. subst (λ (g : S.Form). S.Takes g w x) (sym (form_inside v rest mode a)) (takes x f) };
        moves = refl;
        tells = refl;
      }

  pub enters : (v : View) → v.mode ≡ Idle → Steady S v (Fitting S v Enter 0 (λ n. (n + 1) % 2 ^ 64) (λ n. n))
  enters v mode rest a =
      let t : State = state (now v) rest in
      let room : t.gate + 1 < 2 ^ 64 = gate_room t.gate t.modes a.sound.gated in
      record {
        allowed = record { ready = in_mode v Idle rest mode a; suits = tt };
        moves = ap (λ (n : ℕ). n ∷ t.words) (mod-eq_of_lt room);
        tells = refl;
      }

  -- taking k away from a word that has as much
  less : (n k : ℕ) → k ≤ n → n < 2 ^ 64 → (n + (2 ^ 64 - k)) % 2 ^ 64 ≡ n - k
  less n k some small =
      let whole : n + (2 ^ 64 - k) ≡ (n - k) + 2 ^ 64 = omega arith in
      let fits : n - k < 2 ^ 64 = omega arith in
      ap (λ (m : ℕ). m % 2 ^ 64) whole ∙ add-mod_right (n - k) (2 ^ 64) ∙ mod-eq_of_lt fits

  pub leaves : (v : View) → (v.mode ≡ Attached) ⊎ (v.mode ≡ Bounced) → Steady S v (Fitting S v Leave 0 (λ n. (n + (2 ^ 64 - 1)) % 2 ^ 64) (λ n. n))
  leaves v mode rest a =
      let t : State = state (now v) rest in
      let room = gate_room t.gate t.modes a.sound.gated in
      let here : IsIn Attached t v.number ⊎ IsIn Bounced t v.number =
      ⊎_elim (λ (e : v.mode ≡ Attached). inl (in_mode v Attached rest e a)) (λ (e : v.mode ≡ Bounced). inr (in_mode v Bounced rest e a)) mode in
      let some : 1 ≤ t.gate = ⊎_elim (λ (e : IsIn Attached t v.number). (gate_inside t.gate t.modes v.number a.sound.gated e).0) (λ (e : IsIn Bounced t v.number). gate_bounced t.gate t.modes v.number a.sound.gated e) here in
      record {
        allowed = record { ready = here; suits = tt };
        moves = ap (λ (n : ℕ). n ∷ t.words) (less t.gate 1 some (omega arith));
        tells = refl;
      }

  pub takes : (v : View) → v.mode ≡ Idle → Steady S v (Fitting S v Take 0 (λ n. either (eqb n 0) (2 ^ 63) n) (λ n. n))
  takes v mode rest a =
      let t : State = state (now v) rest in
      record {
        allowed = record { ready = in_mode v Idle rest mode a; suits = tt };
        moves = taken_words t v.number (eqb t.gate 0);
        tells = refl;
      }

  pub frees : (v : View) → v.mode ≡ Changing → IsStable (now v) → Steady S v (Fitting S v Free 0 (λ n. (n + (2 ^ 64 - 2 ^ 63)) % 2 ^ 64) (λ n. n))
  frees v mode stable rest a =
      let t : State = state (now v) rest in
      let here = in_mode v Changing rest mode a in
      let room = gate_room t.gate t.modes a.sound.gated in
      let some : 2 ^ 63 ≤ t.gate = gate_changing t.gate t.modes v.number a.sound.gated here in
      let same : t.words ≡ (now v).words = words_changing v rest mode a in
      record {
        allowed = record { ready = (here, subst (λ (ws : List ℕ). slice_index ws 1 ≡ slice_index ws 2) (sym same) stable); suits = tt };
        moves = ap (λ (n : ℕ). n ∷ t.words) (less t.gate (2 ^ 63) some (omega arith));
        tells = refl;
      }

  pub begins : (v : View) (n : ℕ) → v.mode ≡ Changing → IsStable (now v) → g1 (now v) < n → IsWord n → Steady S v (Fitting S v (Begin n) 2 (λ _. n) (λ _. n))
  begins v n mode stable above fits rest a =
      let same : (state (now v) rest).words ≡ (now v).words = words_changing v rest mode a in
      record {
        allowed = record {
          ready = (in_mode v Changing rest mode a, subst (λ (ws : List ℕ). slice_index ws 1 ≡ slice_index ws 2) (sym same) stable, subst (λ (ws : List ℕ). slice_index ws 1 < n) (sym same) above, fits);
          suits = tt;
        };
        moves = refl;
        tells = refl;
      }

  pub puts : (v : View) (w x : ℕ) → v.mode ≡ Changing → g1 (now v) ≢ g2 (now v) → w ≢ 1 → w ≢ 2 → w < length v.start → IsWord x → Steady S v (Fitting S v (Put w x) (suc w) (λ _. x) (λ _. x))
  puts v w x mode differ not_first not_second below fits rest a =
      let wide = wide_ahead v rest in
      let same : (state (now v) rest).words ≡ (now v).words = words_changing v rest mode a in
      record {
        allowed = record {
          ready = (in_mode v Changing rest mode a, subst (λ (ws : List ℕ). slice_index ws 1 ≢ slice_index ws 2) (sym same) differ, not_first, not_second, omega arith, fits);
          suits = tt;
        };
        moves = refl;
        tells = refl;
      }

  pub ends : (v : View) (n : ℕ) → v.mode ≡ Changing → g1 (now v) ≡ n → g2 (now v) ≢ n → S.IsImage (slice_set (now v).words 2 n) → Steady S v (Fitting S v (End n) 3 (λ _. n) (λ _. n))
  ends v n mode first second image rest a =
      let same : (state (now v) rest).words ≡ (now v).words = words_changing v rest mode a in
      record {
        allowed = record {
          ready = (in_mode v Changing rest mode a, subst (λ (ws : List ℕ). slice_index ws 1 ≡ n) (sym same) first, subst (λ (ws : List ℕ). slice_index ws 2 ≢ n) (sym same) second);
          suits = subst (λ (ws : List ℕ). S.IsImage (slice_set ws 2 n)) (sym same) image;
        };
        moves = refl;
        tells = refl;
      }
