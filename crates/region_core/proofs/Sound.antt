-- The invariant of a legal journal's states, from which every law comes.
use Rattle.std.proofs.Common.{◌≡◌, ◌≢◌, ℕ, ◌+◌, ◌-◌, ◌^◌, ◌<◌, ◌≤◌, Bool, true, false, List, [], ◌∷◌, length, set, eqb, ltb, length-set, slice_index, get_or-set_same, get_or-set_other, mod-lt, sym, refl, ◌∙◌, subst, ⊎_elim, lit<, arith}
use mathlib.Core.Option.{some}
use lib.ListN.{get_elem?}
use Rattle.region_core.specs.declared.mode.Mode.{Mode}
use Rattle.region_core.specs.declared.mode.Mode.TheVariants.{Idle, Attached, Bounced, Changing}
use Rattle.region_core.specs.declared.act.Act.{Act}
use Rattle.region_core.specs.declared.act.Act.TheVariants.{Load, Swap, Add, Enter, Leave, Take, Begin, Put, End, Free}
use Rattle.region_core.specs.declared.act.Entry.{Entry}
use Rattle.region_core.specs.Shape.{Shaping, IsShape, IsWord, IsLike}
use Rattle.region_core.specs.State.{State, word, g1, g2, plus, after, entry_mode, after_take, with_word, opening, IsIn, IsOpen, IsAllowed}
use Rattle.region_core.specs.Journal.{state, IsLegal}
use Rattle.region_core.specs.Gate.{total, one_if_inside, one_if_changing, IsGated}
use Rattle.region_core.proofs.Totals.{total-set, le_total}
use Rattle.region_core.proofs.Gates.{gated_after, gated_opening}

-- a sum modulo 2^64 is a word
pub plus_word : (n d : ℕ) → IsWord (plus n d)
plus_word n d = mod-lt (n + d) (lit< tt)

-- a pass that is changing is counted
pub changing_one : (ms : List Mode) (k : ℕ) → get_elem? ms k ≡ some Changing → 1 ≤ total one_if_changing ms
changing_one ms k e = le_total one_if_changing ms k Changing e

-- where a pass is inside, none is changing
pub inside_shut : (gate : ℕ) (ms : List Mode) (k : ℕ) → IsGated gate ms → get_elem? ms k ≡ some Attached → total one_if_changing ms ≡ 0
inside_shut gate ms k g e = let one = le_total one_if_inside ms k Attached e in ⊎_elim (λ (z : total one_if_changing ms ≡ 0). z) (λ (z : total one_if_inside ms ≡ 0). absurd (omega arith)) g.apart

-- a mode that is replaced by another leaves nobody changing only where nobody was
none_before : (ms : List Mode) (k : ℕ) (m n : Mode) → get_elem? ms k ≡ some m → one_if_changing m ≡ 0 → total one_if_changing (set ms k n) ≡ 0 → total one_if_changing ms ≡ 0
none_before ms k m n e z h = let c = total-set one_if_changing ms k m n e in omega arith

module _ (S : Shaping) where
  pub record IsSound (s : State) : Type 0 where
    pub gated : IsGated s.gate s.modes
    pub wide : 2 < length s.words
    pub ordered : g2 s ≤ g1 s
    pub image : g1 s ≡ g2 s → S.IsImage s.words
    pub shut : total one_if_changing s.modes ≡ 0 → g1 s ≡ g2 s

  -- a value word is neither of the two generations
  pub not_first : IsShape S → (words : List ℕ) (w v : ℕ) → S.IsImage words → S.Takes (S.form words) w v → 1 ≢ w
  not_first laws words w v image takes e = (laws.fixed words v image).0 (subst (λ (u : ℕ). S.Takes (S.form words) u v) (sym e) takes)

  pub not_second : IsShape S → (words : List ℕ) (w v : ℕ) → S.IsImage words → S.Takes (S.form words) w v → 2 ≢ w
  not_second laws words w v image takes e = (laws.fixed words v image).1 (subst (λ (u : ℕ). S.Takes (S.form words) u v) (sym e) takes)

  -- another value in a value word keeps the invariant
  valued : IsShape S → (s : State) (w v : ℕ) → IsSound s → g1 s ≡ g2 s → IsWord v → S.Takes (S.form s.words) w v → IsSound (with_word s w v)
  valued laws s w v sound stable fits takes =
      let image : S.IsImage s.words = sound.image stable in
      let first : slice_index (set s.words w v) 1 ≡ slice_index s.words 1 = get_or-set_other s.words w 1 v 0 (not_first laws s.words w v image takes) in
      let second : slice_index (set s.words w v) 2 ≡ slice_index s.words 2 = get_or-set_other s.words w 2 v 0 (not_second laws s.words w v image takes) in
      let like : IsLike S s.words (set s.words w v) = laws.value s.words w v image fits takes in
      let same : length (set s.words w v) ≡ length s.words = length-set s.words w v in
      let wide : 2 < length s.words = sound.wide in
      let both : slice_index s.words 1 ≡ slice_index s.words 2 = stable in
      record { gated = sound.gated; wide = omega arith; ordered = omega arith; image = λ _. like.image; shut = λ _. first ∙ both ∙ sym second }

  -- other modes and another gate keep it, where the generations agree or somebody is changing
  remoded : (s : State) (gate : ℕ) (modes : List Mode) → IsSound s → IsGated gate modes → (total one_if_changing modes ≡ 0 → g1 s ≡ g2 s) → IsSound (record { words = s.words; gate = gate; modes = modes })
  remoded s gate modes sound gated shut = record { gated = gated; wide = sound.wide; ordered = sound.ordered; image = sound.image; shut = shut }

  takes_sound : (s : State) (k : ℕ) (b : Bool) → IsSound s → IsGated (after_take s k b).gate (after_take s k b).modes → IsIn Idle s k → IsSound (after_take s k b)
  takes_sound s k true sound gated e = remoded s (2 ^ 63) (set s.modes k Changing) sound gated (λ h. let c = total-set one_if_changing s.modes k Idle Changing e in absurd (omega arith))
  takes_sound s k false sound gated e = remoded s s.gate s.modes sound gated sound.shut

  begun : (s : State) (k n : ℕ) → IsSound s → IsOpen s k (Begin n) → IsSound (with_word s 1 n)
  begun s k n sound o =
      let wide : 2 < length s.words = sound.wide in
      let first : slice_index (set s.words 1 n) 1 ≡ n = get_or-set_same s.words 1 n 0 (omega arith) in
      let second : slice_index (set s.words 1 n) 2 ≡ slice_index s.words 2 = get_or-set_other s.words 1 2 n 0 (λ (e : 2 ≡ 1). omega arith) in
      let same : length (set s.words 1 n) ≡ length s.words = length-set s.words 1 n in
      let stable : slice_index s.words 1 ≡ slice_index s.words 2 = o.1 in
      let above : slice_index s.words 1 < n = o.2 in
      let one : 1 ≤ total one_if_changing s.modes = changing_one s.modes k o.0 in
      record { gated = sound.gated; wide = omega arith; ordered = omega arith; image = λ e. absurd (omega arith); shut = λ e. absurd (omega arith) }

  put : (s : State) (k w v : ℕ) → IsSound s → IsOpen s k (Put w v) → IsSound (with_word s w v)
  put s k w v sound o =
      let wide : 2 < length s.words = sound.wide in
      let first : slice_index (set s.words w v) 1 ≡ slice_index s.words 1 = get_or-set_other s.words w 1 v 0 (λ (e : 1 ≡ w). o.2 (sym e)) in
      let second : slice_index (set s.words w v) 2 ≡ slice_index s.words 2 = get_or-set_other s.words w 2 v 0 (λ (e : 2 ≡ w). o.3 (sym e)) in
      let same : length (set s.words w v) ≡ length s.words = length-set s.words w v in
      let ordered : slice_index s.words 2 ≤ slice_index s.words 1 = sound.ordered in
      let one : 1 ≤ total one_if_changing s.modes = changing_one s.modes k o.0 in
      record { gated = sound.gated; wide = omega arith; ordered = omega arith; image = λ e. absurd (o.1 (sym first ∙ e ∙ second)); shut = λ e. absurd (omega arith) }

  ended : (s : State) (k n : ℕ) → IsSound s → IsOpen s k (End n) → S.IsImage (set s.words 2 n) → IsSound (with_word s 2 n)
  ended s k n sound o image =
      let wide : 2 < length s.words = sound.wide in
      let first : slice_index (set s.words 2 n) 1 ≡ slice_index s.words 1 = get_or-set_other s.words 2 1 n 0 (λ (e : 1 ≡ 2). omega arith) in
      let second : slice_index (set s.words 2 n) 2 ≡ n = get_or-set_same s.words 2 n 0 wide in
      let same : length (set s.words 2 n) ≡ length s.words = length-set s.words 2 n in
      let reached : slice_index s.words 1 ≡ n = o.1 in
      record { gated = sound.gated; wide = omega arith; ordered = omega arith; image = λ _. image; shut = λ _. first ∙ reached ∙ sym second }

  -- where a pass is inside, the generations agree
  pub inside_stable : (s : State) (k : ℕ) → IsSound s → IsIn Attached s k → g1 s ≡ g2 s
  inside_stable s k sound e = sound.shut (inside_shut s.gate s.modes k sound.gated e)

  sound_act : IsShape S → (s : State) (k : ℕ) (act : Act) → IsSound s → IsAllowed S s k act → IsGated (after s k act).gate (after s k act).modes → IsSound (after s k act)
  sound_act laws s k (Load w) sound a g = sound
  sound_act laws s k (Swap w v) sound a g = valued laws s w v sound (inside_stable s k sound a.ready.0) a.ready.2 a.suits
  sound_act laws s k (Add w d) sound a g = let fits = plus_word (word s w) d in valued laws s w (plus (word s w) d) sound (inside_stable s k sound a.ready.0) fits (a.suits (plus (word s w) d) fits)
  sound_act laws s k Enter sound a g = remoded s (s.gate + 1) (set s.modes k (entry_mode (ltb s.gate (2 ^ 63)))) sound g (λ h. sound.shut (none_before s.modes k Idle (entry_mode (ltb s.gate (2 ^ 63))) a.ready refl h))
  sound_act laws s k Leave sound a g = remoded s (s.gate - 1) (set s.modes k Idle) sound g
      (λ h. sound.shut (⊎_elim (λ (e : IsIn Attached s k). none_before s.modes k Attached Idle e refl h) (λ (e : IsIn Bounced s k). none_before s.modes k Bounced Idle e refl h) a.ready))
  sound_act laws s k Take sound a g = takes_sound s k (eqb s.gate 0) sound g a.ready
  sound_act laws s k (Begin n) sound a g = begun s k n sound a.ready
  sound_act laws s k (Put w v) sound a g = put s k w v sound a.ready
  sound_act laws s k (End n) sound a g = ended s k n sound a.ready a.suits
  sound_act laws s k Free sound a g = remoded s (s.gate - 2 ^ 63) (set s.modes k Idle) sound g (λ _. a.ready.1)

  -- every allowed act keeps the invariant
  pub sound_after : IsShape S → (s : State) (k : ℕ) (act : Act) → IsSound s → IsAllowed S s k act → IsSound (after s k act)
  sound_after laws s k act sound a = sound_act laws s k act sound a (gated_after s k act sound.gated a.ready)

  -- and so does every legal list
  pub sound_run : IsShape S → (s : State) (es : List Entry) → IsSound s → IsLegal S s es → IsSound (state s es)
  sound_run laws s [] sound l = sound
  sound_run laws s (e ∷ es) sound l = sound_run laws (after s e.by e.act) es (sound_after laws s e.by e.act sound l.0) l.1

  -- a new region of an image meets it
  pub sound_opening : IsShape S → (words : List ℕ) (passes : ℕ) → S.IsImage words → passes < 2 ^ 32 → IsSound (opening words passes)
  sound_opening laws words passes image few =
      let both = laws.generations words image in
      let same : slice_index words 1 ≡ slice_index words 2 = both.1 in
      record { gated = gated_opening words passes few; wide = both.0; ordered = omega arith; image = λ _. image; shut = λ _. same }
