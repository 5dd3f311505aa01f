-- What the gate counts stays true over every act.
use Rattle.std.proofs.Common.{◌≡◌, ℕ, zero, suc, ◌+◌, ◌-◌, ◌^◌, ◌<◌, ◌≤◌, ◌⊎◌, Bool, true, false, List, [], ◌∷◌, length, set, eqb, ltb, ltb-true, eqb-true, length-set, refl, inl, inr, ⊎_elim, arith}
use Rattle.std.proofs.lemmas.List.{length-replicate}
use mathlib.Core.Option.{some}
use lib.ListN.{get_elem?}
use Rattle.region_core.specs.declared.mode.Mode.{Mode}
use Rattle.region_core.specs.declared.mode.Mode.TheVariants.{Idle, Attached, Bounced, Changing}
use Rattle.region_core.specs.declared.act.Act.{Act}
use Rattle.region_core.specs.declared.act.Act.TheVariants.{Load, Swap, Add, Enter, Leave, Take, Begin, Put, End, Free}
use Rattle.region_core.specs.State.{State, after, entry_mode, after_take, opening, IsIn, IsOpen}
use Rattle.region_core.specs.Gate.{total, one_if_inside, one_if_bounced, one_if_changing, IsGated}
use Rattle.region_core.proofs.Totals.{total-set, le_total, total-copies}

-- one pass of mode m has mode n now, and the three counts moved with it
record Counts (ms ns : List Mode) (m n : Mode) : Type 0 where
  inside_is : total one_if_inside ns + one_if_inside m ≡ total one_if_inside ms + one_if_inside n
  bounced_is : total one_if_bounced ns + one_if_bounced m ≡ total one_if_bounced ms + one_if_bounced n
  changing_is : total one_if_changing ns + one_if_changing m ≡ total one_if_changing ms + one_if_changing n
  inside_has : one_if_inside m ≤ total one_if_inside ms
  bounced_has : one_if_bounced m ≤ total one_if_bounced ms
  changing_has : one_if_changing m ≤ total one_if_changing ms
  length_is : length ns ≡ length ms

counts_after : (ms : List Mode) (k : ℕ) (m n : Mode) → get_elem? ms k ≡ some m → Counts ms (set ms k n) m n
counts_after ms k m n e = record {
  inside_is = total-set one_if_inside ms k m n e;
  bounced_is = total-set one_if_bounced ms k m n e;
  changing_is = total-set one_if_changing ms k m n e;
  inside_has = le_total one_if_inside ms k m e;
  bounced_has = le_total one_if_bounced ms k m e;
  changing_has = le_total one_if_changing ms k m e;
  length_is = length-set ms k n;
}

-- who enters below 2^63 is inside, and nobody is changing then
pub enters : (gate : ℕ) (ms : List Mode) (k : ℕ) (b : Bool) → ltb gate (2 ^ 63) ≡ b → IsGated gate ms → get_elem? ms k ≡ some Idle → IsGated (gate + 1) (set ms k (entry_mode b))
enters gate ms k true lt g e = let c = counts_after ms k Idle Attached e in let small : gate < 2 ^ 63 = ltb-true gate (2 ^ 63) lt in
    record { few = omega arith; counts = omega arith; single = omega arith; apart = inl (omega arith) }
enters gate ms k false lt g e = let c = counts_after ms k Idle Bounced e in
    record { few = omega arith; counts = omega arith; single = omega arith; apart = ⊎_elim (λ (z : total one_if_changing ms ≡ 0). inl (omega arith)) (λ (z : total one_if_inside ms ≡ 0). inr (omega arith)) g.apart }

leaves : (gate : ℕ) (ms : List Mode) (k : ℕ) → IsGated gate ms → (get_elem? ms k ≡ some Attached) ⊎ (get_elem? ms k ≡ some Bounced) → IsGated (gate - 1) (set ms k Idle)
leaves gate ms k g = ⊎_elim from_inside from_bounced
  where
    from_inside : get_elem? ms k ≡ some Attached → IsGated (gate - 1) (set ms k Idle)
    from_inside e = let c = counts_after ms k Attached Idle e in
        record { few = omega arith; counts = omega arith; single = omega arith; apart = ⊎_elim (λ (z : total one_if_changing ms ≡ 0). inl (omega arith)) (λ (z : total one_if_inside ms ≡ 0). inr (omega arith)) g.apart }

    from_bounced : get_elem? ms k ≡ some Bounced → IsGated (gate - 1) (set ms k Idle)
    from_bounced e = let c = counts_after ms k Bounced Idle e in
        record { few = omega arith; counts = omega arith; single = omega arith; apart = ⊎_elim (λ (z : total one_if_changing ms ≡ 0). inl (omega arith)) (λ (z : total one_if_inside ms ≡ 0). inr (omega arith)) g.apart }

pub takes : (s : State) (k : ℕ) (b : Bool) → eqb s.gate 0 ≡ b → IsGated s.gate s.modes → IsIn Idle s k → IsGated (after_take s k b).gate (after_take s k b).modes
takes s k true zero_gate g e = let c = counts_after s.modes k Idle Changing e in let none : s.gate ≡ 0 = eqb-true s.gate 0 zero_gate in
    record { few = omega arith; counts = omega arith; single = omega arith; apart = inr (omega arith) }
takes s k false zero_gate g e = g

pub frees : (gate : ℕ) (ms : List Mode) (k : ℕ) → IsGated gate ms → get_elem? ms k ≡ some Changing → IsGated (gate - 2 ^ 63) (set ms k Idle)
frees gate ms k g e = let c = counts_after ms k Changing Idle e in
    record { few = omega arith; counts = omega arith; single = omega arith; apart = inl (omega arith) }

-- every act that is open keeps what the gate counts
pub gated_after : (s : State) (k : ℕ) (act : Act) → IsGated s.gate s.modes → IsOpen s k act → IsGated (after s k act).gate (after s k act).modes
gated_after s k (Load w) g o = g
gated_after s k (Swap w v) g o = g
gated_after s k (Add w d) g o = g
gated_after s k Enter g o = enters s.gate s.modes k (ltb s.gate (2 ^ 63)) refl g o
gated_after s k Leave g o = leaves s.gate s.modes k g o
gated_after s k Take g o = takes s k (eqb s.gate 0) refl g o
gated_after s k (Begin n) g o = g
gated_after s k (Put w v) g o = g
gated_after s k (End n) g o = g
gated_after s k Free g o = frees s.gate s.modes k g o.0

-- nobody is at the gate of a new region
pub gated_opening : (words : List ℕ) (passes : ℕ) → passes < 2 ^ 32 → IsGated (opening words passes).gate (opening words passes).modes
gated_opening words passes h = let i = total-copies one_if_inside passes Idle refl in let b = total-copies one_if_bounced passes Idle refl in let c = total-copies one_if_changing passes Idle refl in
    let l = length-replicate passes Idle in
    record { few = omega arith; counts = omega arith; single = omega arith; apart = inl c }

-- the passes in the three modes are no more than there are passes
pub at_most : (ms : List Mode) → total one_if_inside ms + total one_if_bounced ms + total one_if_changing ms ≤ length ms
at_most [] = omega arith
at_most (m ∷ ms) = let h = at_most ms in let one = one_mode m in omega arith
  where
    one_mode : (m : Mode) → one_if_inside m + one_if_bounced m + one_if_changing m ≤ 1
    one_mode Idle = omega arith
    one_mode Attached = omega arith
    one_mode Bounced = omega arith
    one_mode Changing = omega arith

-- one more at the gate is no overflow of a word
pub gate_room : (gate : ℕ) (ms : List Mode) → IsGated gate ms → gate + 1 < 2 ^ 64
gate_room gate ms g = let h = at_most ms in omega arith

-- where no pass is changing, the sum of those changing is 0
pub none_changing : (ms : List Mode) → ((k : ℕ) → get_elem? ms k ≡ some Changing → ⊥) → total one_if_changing ms ≡ 0
none_changing [] h = refl
none_changing (Idle ∷ ms) h = let none = none_changing ms (λ k. h (suc k)) in omega arith
none_changing (Attached ∷ ms) h = let none = none_changing ms (λ k. h (suc k)) in omega arith
none_changing (Bounced ∷ ms) h = let none = none_changing ms (λ k. h (suc k)) in omega arith
none_changing (Changing ∷ ms) h = absurd (h zero refl)
