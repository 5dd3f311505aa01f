-- The last of some events, which logged results that are held.
use Rattle.std.proofs.Common.{◌≡◌, ℕ, ◌+◌, List, [], ◌∷◌, ◌++◌, length, sym, ◌∙◌, subst, append_assoc, append-nil, arith}
use Rattle.std.proofs.lemmas.List.{same_from_push}
use Rattle.pcp_model.specs.Disk.{Files}
use Rattle.pcp_outside.specs.declared.disk.Disk.{Ghosts as DiskGhosts}
use Rattle.pcp_outside.specs.Devices.{LeavesOnly}
use Rattle.logging_session.specs.ComingBack.{ComesBackTo}
use Rattle.logging_session.specs.Course.{WereHeld}
use Rattle.logging_session.specs.Events.{Event, items_by, logged_all}
use Rattle.logging_session.specs.Written.{Report}

-- where none is held the others are all
all_front : (events front : List Event) (held : List Report) → events ≡ front ++ logged_all held → length held ≡ 0 → events ≡ front
all_front events front [] is none = is ∙ append-nil front
all_front events front (r ∷ held) is none = absurd (omega (arith, none))

-- where one event comes behind, and results are held, it is the last of them
one_held : (events : List Event) (e : Event) (front : List Event) (r : Report) (held : List Report) → events ++ e ∷ [] ≡ front ++ logged_all (r ∷ held) → (others : List Report) × (events ≡ front ++ logged_all others) × (length others ≡ length held)
one_held events e front r [] is = ([], (same_from_push events front e (Event.logged r) is).0 ∙ sym (append-nil front), omega arith)
one_held events e front r (q ∷ held) is =
    let more = one_held events e (front ++ Event.logged r ∷ []) q held (is ∙ sym (append_assoc front (Event.logged r ∷ []) (logged_all (q ∷ held)))) in
    (r ∷ more.0, more.1 ∙ append_assoc front (Event.logged r ∷ []) (logged_all more.0), omega (arith, more.2))

module _ {D : Type 0} (d : DiskGhosts D) (left : Files) (events : List Event) where
  pub none_held : (n : ℕ) (start disk : D) → n ≡ 0 → LeavesOnly d.moment d.left_since start disk (ComesBackTo (items_by events) 0 left) → WereHeld d left events n start disk
  none_held n start disk none run front held is many = subst (λ (es : List Event). LeavesOnly d.moment d.left_since start disk (ComesBackTo (items_by es) 0 left)) (all_front events front held is (many ∙ none)) run

  pub held_behind : (e : Event) (n : ℕ) (start disk : D) → WereHeld d left events n start disk → WereHeld d left (events ++ e ∷ []) (n + 1) start disk
  held_behind e n start disk w front [] is many = absurd (omega (arith, many))
  held_behind e n start disk w front (r ∷ held) is many = let others = one_held events e front r held is in w front others.0 others.1 (omega (arith, others.2, many))
