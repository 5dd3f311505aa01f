-- What a pass may count on while only others act: its mode, and still words.
use Rattle.std.proofs.Common.{◌≡◌, ◌≢◌, ℕ, ◌^◌, ◌<◌, ◌≤◌, ◌⊎◌, Bool, true, false, cond, List, [], ◌∷◌, length, eqb, ltb, length-set, sym, refl, ap, ◌∙◌, inl, inr, ⊎_elim, ne_eqb, true≢false, arith}
use borrow.Author.Tests.{eqb-false}
use mathlib.Core.Option.{some}
use mathlib.Core.Logic.{dite}
use native.Mathlib.Decide.{ℕ_discrete}
use lib.ListN.{get_elem?}
use Rattle.std.specs.Prelude.{IsSome}
use Rattle.region_core.specs.declared.mode.Mode.{Mode}
use Rattle.region_core.specs.declared.mode.Mode.TheVariants.{Idle, Attached, Bounced, Changing}
use Rattle.region_core.specs.declared.act.Act.{Act}
use Rattle.region_core.specs.declared.act.Act.TheVariants.{Load, Swap, Add, Enter, Leave, Take, Begin, Put, End, Free}
use Rattle.region_core.specs.declared.act.Entry.{Entry}
use Rattle.region_core.specs.Shape.{Shaping, IsShape}
use Rattle.region_core.specs.State.{State, plus, word, after, next_mode, after_take, entry_mode, IsIn, IsOpen, IsAllowed}
use Rattle.region_core.specs.Journal.{state, own, own_then, IsLegal}
use Rattle.region_core.specs.Events.{event_by}
use Rattle.region_core.specs.Gate.{one_if_inside, one_if_bounced, one_if_changing, IsGated}
use Rattle.region_core.proofs.Lists.{at_below, set_here, set_else}
use Rattle.region_core.proofs.Totals.{le_total, two_le_total}
use Rattle.region_core.proofs.Gates.{at_most}
use Rattle.region_core.proofs.Sound.{IsSound, sound_after, changing_one, inside_shut}
use Rattle.region_core.proofs.Stretch.{IsStill, still_refl, still_trans, quiet_act}

-- who is inside is counted, and the gate isn't taken
pub gate_inside : (gate : ℕ) (ms : List Mode) (k : ℕ) → IsGated gate ms → get_elem? ms k ≡ some Attached → (1 ≤ gate) × (gate < 2 ^ 63)
gate_inside gate ms k g e = let one = le_total one_if_inside ms k Attached e in let none = inside_shut gate ms k g e in let h = at_most ms in (omega arith, omega arith)

-- who was bounced is counted
pub gate_bounced : (gate : ℕ) (ms : List Mode) (k : ℕ) → IsGated gate ms → get_elem? ms k ≡ some Bounced → 1 ≤ gate
gate_bounced gate ms k g e = let one = le_total one_if_bounced ms k Bounced e in omega arith

-- who is changing has taken the gate
pub gate_changing : (gate : ℕ) (ms : List Mode) (k : ℕ) → IsGated gate ms → get_elem? ms k ≡ some Changing → 2 ^ 63 ≤ gate
gate_changing gate ms k g e = let one = changing_one ms k e in omega arith

-- two passes are not changing at once
pub one_changes : (gate : ℕ) (ms : List Mode) (j k : ℕ) → IsGated gate ms → get_elem? ms j ≡ some Changing → get_elem? ms k ≡ some Changing → j ≡ k
one_changes gate ms j k g d e = dite (ℕ_discrete j k) (λ (same : j ≡ k). same) (λ (n : j ≢ k). let two = two_le_total one_if_changing ms j k Changing Changing n d e in absurd (omega arith))

-- nobody is inside while a pass is changing
pub none_inside : (gate : ℕ) (ms : List Mode) (j k : ℕ) → IsGated gate ms → get_elem? ms j ≡ some Attached → get_elem? ms k ≡ some Changing → ⊥
none_inside gate ms j k g d e = let none = inside_shut gate ms j g d in let one = changing_one ms k e in omega arith

-- while a pass is changing, each other one is idle or bounced
pub idle_or_bounced : (gate : ℕ) (ms : List Mode) (j k : ℕ) (m : Mode) → IsGated gate ms → get_elem? ms k ≡ some Changing → j ≢ k → get_elem? ms j ≡ some m → (m ≡ Idle) ⊎ (m ≡ Bounced)
idle_or_bounced gate ms j k Idle g e n d = inl refl
idle_or_bounced gate ms j k Attached g e n d = absurd (none_inside gate ms j k g d e)
idle_or_bounced gate ms j k Bounced g e n d = inr refl
idle_or_bounced gate ms j k Changing g e n d = absurd (n (one_changes gate ms j k g d e))

-- a pass that has no entry of its own at the head of a list has none there
own_none : (b : Bool) (e : Entry) (es : List Entry) → own_then b e es ≡ [] → (b ≡ false) × (es ≡ [])
own_none true e es h = absurd (cc)
own_none false e es h = (refl, h)

pub other_first : (k : ℕ) (e : Entry) (es : List Entry) → own k (e ∷ es) ≡ [] → k ≢ e.by
other_first k e es h = let n = own_none (eqb e.by k) e (own k es) h in λ (same : k ≡ e.by). eqb-false e.by k n.0 (sym same)

pub others_rest : (k : ℕ) (e : Entry) (es : List Entry) → own k (e ∷ es) ≡ [] → own k es ≡ []
others_rest k e es h = let n = own_none (eqb e.by k) e (own k es) h in n.1

taken_mode : (s : State) (j k : ℕ) (b : Bool) → k ≢ j → get_elem? (after_take s j b).modes k ≡ get_elem? s.modes k
taken_mode s j k true n = set_else s.modes j k Changing n
taken_mode s j k false n = refl

-- another pass's act leaves a pass's mode
pub mode_after : (s : State) (j k : ℕ) (act : Act) → k ≢ j → get_elem? (after s j act).modes k ≡ get_elem? s.modes k
mode_after s j k (Load w) n = refl
mode_after s j k (Swap w v) n = refl
mode_after s j k (Add w d) n = refl
mode_after s j k Enter n = set_else s.modes j k (entry_mode (ltb s.gate (2 ^ 63))) n
mode_after s j k Leave n = set_else s.modes j k Idle n
mode_after s j k Take n = taken_mode s j k (eqb s.gate 0) n
mode_after s j k (Begin m) n = refl
mode_after s j k (Put w v) n = refl
mode_after s j k (End m) n = refl
mode_after s j k Free n = set_else s.modes j k Idle n

-- a pass's mode while only others act
pub mode_run : (s : State) (k : ℕ) (m : Mode) (es : List Entry) → own k es ≡ [] → IsIn m s k → IsIn m (state s es) k
mode_run s k m [] o e = e
mode_run s k m (x ∷ xs) o e = mode_run (after s x.by x.act) k m xs (others_rest k x xs o) (mode_after s x.by k x.act (other_first k x xs o) ∙ e)

taken_own : (s : State) (k : ℕ) (m : Mode) (b : Bool) → IsIn m s k → IsIn (cond b Changing m) (after_take s k b) k
taken_own s k m true e = set_here s.modes k Changing (at_below s.modes k m e)
taken_own s k m false e = e

-- a pass's mode after its own act
pub mode_own : (s : State) (k : ℕ) (m : Mode) (act : Act) → IsIn m s k → IsIn (next_mode s.gate m act) (after s k act) k
mode_own s k m (Load w) e = e
mode_own s k m (Swap w v) e = e
mode_own s k m (Add w d) e = e
mode_own s k m Enter e = set_here s.modes k (entry_mode (ltb s.gate (2 ^ 63))) (at_below s.modes k m e)
mode_own s k m Leave e = set_here s.modes k Idle (at_below s.modes k m e)
mode_own s k m Take e = taken_own s k m (eqb s.gate 0) e
mode_own s k m (Begin n) e = e
mode_own s k m (Put w v) e = e
mode_own s k m (End n) e = e
mode_own s k m Free e = set_here s.modes k Idle (at_below s.modes k m e)

taken_count : (s : State) (j : ℕ) (b : Bool) → length (after_take s j b).modes ≡ length s.modes
taken_count s j true = length-set s.modes j Changing
taken_count s j false = refl

count_after : (s : State) (j : ℕ) (act : Act) → length (after s j act).modes ≡ length s.modes
count_after s j (Load w) = refl
count_after s j (Swap w v) = refl
count_after s j (Add w d) = refl
count_after s j Enter = length-set s.modes j (entry_mode (ltb s.gate (2 ^ 63)))
count_after s j Leave = length-set s.modes j Idle
count_after s j Take = taken_count s j (eqb s.gate 0)
count_after s j (Begin m) = refl
count_after s j (Put w v) = refl
count_after s j (End m) = refl
count_after s j Free = length-set s.modes j Idle

-- a region has as many passes as at its making
pub count_run : (s : State) (es : List Entry) → length (state s es).modes ≡ length s.modes
count_run s [] = refl
count_run s (e ∷ es) = count_run (after s e.by e.act) es ∙ count_after s e.by e.act

wide_after : (s : State) (j : ℕ) (act : Act) → length (after s j act).words ≡ length s.words
wide_after s j (Load w) = refl
wide_after s j (Swap w v) = length-set s.words w v
wide_after s j (Add w d) = length-set s.words w (plus (word s w) d)
wide_after s j Enter = refl
wide_after s j Leave = refl
wide_after s j Take = refl
wide_after s j (Begin n) = length-set s.words 1 n
wide_after s j (Put w v) = length-set s.words w v
wide_after s j (End n) = length-set s.words 2 n
wide_after s j Free = refl

-- and as many words
pub wide_run : (s : State) (es : List Entry) → length (state s es).words ≡ length s.words
wide_run s [] = refl
wide_run s (e ∷ es) = wide_run (after s e.by e.act) es ∙ wide_after s e.by e.act

module _ (S : Shaping) where
  -- while a pass is inside, others leave the words still
  pub inside_run : IsShape S → (s : State) (k : ℕ) (es : List Entry) → IsSound S s → IsLegal S s es → own k es ≡ [] → IsIn Attached s k → IsStill S s.words (state s es).words
  inside_run laws s k [] sound l o e = still_refl S s.words (sound.image (sound.shut (inside_shut s.gate s.modes k sound.gated e)))
  inside_run laws s k (x ∷ xs) sound l o e =
      let t : State = after s x.by x.act in
      still_trans S s.words t.words (state t xs).words (quiet_act S laws s x.by x.act sound l.0 (inside_shut s.gate s.modes k sound.gated e))
      (inside_run laws t k xs (sound_after S laws s x.by x.act sound l.0) l.1 (others_rest k x xs o) (mode_after s x.by k x.act (other_first k x xs o) ∙ e))

  -- an act of another pass while a pass is changing stores no word
  pub words_after : (s : State) (j k : ℕ) (act : Act) → IsSound S s → IsAllowed S s j act → k ≢ j → IsIn Changing s k → (after s j act).words ≡ s.words
  words_after s j k (Load w) sound a n e = refl
  words_after s j k (Swap w v) sound a n e = absurd (none_inside s.gate s.modes j k sound.gated a.ready.0 e)
  words_after s j k (Add w d) sound a n e = absurd (none_inside s.gate s.modes j k sound.gated a.ready.0 e)
  words_after s j k Enter sound a n e = refl
  words_after s j k Leave sound a n e = refl
  words_after s j k Take sound a n e = refl
  words_after s j k (Begin m) sound a n e = absurd (n (one_changes s.gate s.modes k j sound.gated e a.ready.0))
  words_after s j k (Put w v) sound a n e = absurd (n (one_changes s.gate s.modes k j sound.gated e a.ready.0))
  words_after s j k (End m) sound a n e = absurd (n (one_changes s.gate s.modes k j sound.gated e a.ready.0))
  words_after s j k Free sound a n e = refl

  -- while a pass is changing, others leave the words as they are
  pub changing_run : IsShape S → (s : State) (k : ℕ) (es : List Entry) → IsSound S s → IsLegal S s es → own k es ≡ [] → IsIn Changing s k → (state s es).words ≡ s.words
  changing_run laws s k [] sound l o e = refl
  changing_run laws s k (x ∷ xs) sound l o e =
      let t : State = after s x.by x.act in
      changing_run laws t k xs (sound_after S laws s x.by x.act sound l.0) l.1 (others_rest k x xs o) (mode_after s x.by k x.act (other_first k x xs o) ∙ e)
      ∙ words_after s x.by k x.act sound l.0 (other_first k x xs o) e

  -- while a pass is changing, an event is its own
  pub alone_changes : (s : State) (j k : ℕ) (act : Act) → IsSound S s → IsAllowed S s j act → IsIn Changing s k → IsSome (event_by j act) → j ≡ k
  alone_changes s j k (Load w) sound a e event = absurd (true≢false (sym event))
  alone_changes s j k (Swap w v) sound a e event = absurd (none_inside s.gate s.modes j k sound.gated a.ready.0 e)
  alone_changes s j k (Add w d) sound a e event = absurd (none_inside s.gate s.modes j k sound.gated a.ready.0 e)
  alone_changes s j k Enter sound a e event = absurd (true≢false (sym event))
  alone_changes s j k Leave sound a e event = absurd (true≢false (sym event))
  alone_changes s j k Take sound a e event = absurd (true≢false (sym event))
  alone_changes s j k (Begin m) sound a e event = one_changes s.gate s.modes j k sound.gated a.ready.0 e
  alone_changes s j k (Put w v) sound a e event = one_changes s.gate s.modes j k sound.gated a.ready.0 e
  alone_changes s j k (End m) sound a e event = one_changes s.gate s.modes j k sound.gated a.ready.0 e
  alone_changes s j k Free sound a e event = absurd (true≢false (sym event))

  -- while a pass is inside, no change begins
  pub no_begin : (s : State) (j k n : ℕ) → IsSound S s → IsAllowed S s j (Begin n) → IsIn Attached s k → ⊥
  no_begin s j k n sound a e = none_inside s.gate s.modes k j sound.gated e a.ready.0

  passes_only : (s : State) (j : ℕ) (act : Act) → IsOpen s j act → j < length s.modes
  passes_only s j (Load w) o = o.0
  passes_only s j (Swap w v) o = at_below s.modes j Attached o.0
  passes_only s j (Add w d) o = at_below s.modes j Attached o.0
  passes_only s j Enter o = at_below s.modes j Idle o
  passes_only s j Leave o = ⊎_elim (λ (e : IsIn Attached s j). at_below s.modes j Attached e) (λ (e : IsIn Bounced s j). at_below s.modes j Bounced e) o
  passes_only s j Take o = at_below s.modes j Idle o
  passes_only s j (Begin n) o = at_below s.modes j Changing o.0
  passes_only s j (Put w v) o = at_below s.modes j Changing o.0
  passes_only s j (End n) o = at_below s.modes j Changing o.0
  passes_only s j Free o = at_below s.modes j Changing o.0

  own_skip : (k : ℕ) (e : Entry) (es : List Entry) → e.by ≢ k → own k (e ∷ es) ≡ own k es
  own_skip k e es n = ap (λ (b : Bool). own_then b e (own k es)) (ne_eqb e.by k n)

  -- a number that is no pass's has no entry
  pub none_past : (s : State) (k : ℕ) (es : List Entry) → IsLegal S s es → length s.modes ≤ k → own k es ≡ []
  none_past s k [] l h = refl
  none_past s k (e ∷ es) l h =
      let below = passes_only s e.by e.act l.0.ready in
      let same = count_after s e.by e.act in
      own_skip k e es (λ (p : e.by ≡ k). omega arith) ∙ none_past (after s e.by e.act) k es l.1 (omega arith)
