-- Passes dealt to writers, and given back: each region gets its own again, in the order of their numbers.
use Rattle.std.proofs.Common.{◌≡◌, ℕ, zero, suc, ◌<◌, ◌≤◌, List, [], ◌∷◌, ◌++◌, length, replicate, slice_get, Option, Some, None, append-nil, append_assoc, sym, refl, ap, ◌∙◌, subst, arith}
use Rattle.std.specs.Global.{Vec}
use Rattle.std.specs.List.{AllByRecursion}
use Rattle.std.proofs.lemmas.Option.{slice_get_within}
use Rattle.region_core.specs.declared.mode.Mode.TheVariants.{Idle}
use Rattle.region_rule.specs.Seats.{Token}
use Rattle.fetch_engine.specs.declared.server.Mounted.{Mounted}
use Rattle.run_script.specs.declared.script.Script.{Script}
use Rattle.run_passes.specs.Workers.{IsPassOf}
use Rattle.run_script.specs.Recording.{lines_of}
use Rattle.run_passes.specs.Dealing.{AreDealt, AreEmptied, HaveRoomFor, all_back, cell, cells, column, lists_of, with_back}
use Rattle.run_passes.specs.Hands.{HasWritten, IsHand, IsSameHand, KnownHand, WritesLines}
use Rattle.run_passes.specs.Written.{AreReady, AreSame, AreWritten, HaveWritten}
use Rattle.run_passes.proofs.Handed.{from_mapped, get_at, get_mapped, long_map}
use Rattle.run_passes.proofs.WriterPlaces.{the_same}
use Rattle.run_passes.proofs.Returned.{back_at, long_back}

-- Writers of what was dealt

pub all_from : {A : Type 0} (P : A → Type 0) (xs : List A) → ((k : ℕ) (x : A) → slice_get xs k ≡ Some x → P x) → AllByRecursion P xs
all_from P [] h = tt
all_from P (x ∷ xs) h = (h 0 x refl, all_from P xs (λ k y e. h (suc k) y e))

pub all_at : {A : Type 0} (P : A → Type 0) (xs : List A) → AllByRecursion P xs → (k : ℕ) (x : A) → slice_get xs k ≡ Some x → P x
all_at P [] h k x e = absurd (cc)
all_at P (y ∷ ys) h zero x e = let same : y ≡ x = cc in subst P same h.0
all_at P (y ∷ ys) h (suc k) x e = all_at P ys h.1 k x e

some_inside : {A : Type 0} (x y : Option A) → Some x ≡ Some y → x ≡ y
some_inside x y e = cc

pub same_long : (old new : List KnownHand) → AreSame old new → length new ≡ length old
same_long [] [] s = refl
same_long [] (n ∷ ns) s = absurd s
same_long (o ∷ os) [] s = absurd s
same_long (o ∷ os) (n ∷ ns) s = ap suc (same_long os ns s.1)

pub nothing_left : {A : Type 0} (xs : List A) → length xs ≡ 0 → xs ≡ []
nothing_left [] e = refl
nothing_left (x ∷ xs) e = absurd (omega arith)

module _ (script : Script) (server : List Mounted) (lists : List (Vec Token)) (ready : AreReady script server lists) where
  column_at : (k j : ℕ) (list : Vec Token) → slice_get lists j ≡ Some list → slice_get (column k lists) j ≡ Some (slice_get list.items k)
  column_at k j list e = get_mapped (λ (l : Vec Token). slice_get l.items k) lists j list e

  pub is_hand : (hands : List KnownHand) → AreDealt lists hands → (k : ℕ) (hand : KnownHand) → slice_get hands k ≡ Some hand → IsHand script server hand
  is_hand hands dealt k hand e =
      let number : hand.number ≡ k = (dealt.each k hand e).0 in
      let passes : hand.passes ≡ column k lists = (dealt.each k hand e).1 in
      record {
        as_many = ap (λ (l : List (Option Token)). length l) passes ∙ (long_map (λ (l : Vec Token). slice_get l.items k) lists ∙ ready.lists);
        each = λ j mounted pass f g.
            let from = from_mapped (λ (l : Vec Token). slice_get l.items k) lists j (Some pass) (ap (λ (l : List (Option Token)). slice_get l j) (sym passes) ∙ g) in
            subst (λ (n : ℕ). IsPassOf mounted.region n Idle pass) (sym number) (ready.each j k mounted from.0 pass f from.1 from.2);
        present = λ i j at below.
            let within = slice_get_within server j at.mounted at.there in
            let many = ready.lists in
            let list = get_at lists j (omega arith) in
            let long = ready.many i j at list.0 list.1 in
            let pass = get_at list.0.items k (omega arith) in
            (pass.0, ap (λ (l : List (Option Token)). slice_get l j) passes ∙ (column_at k j list.0 list.1 ∙ ap (λ (o : Option Token). Some o) pass.1));
      }

  -- Giving back

  backs_at : (hands : List KnownHand) (base : List (List Token)) (j : ℕ) (b : List Token) → slice_get base j ≡ Some b → slice_get (all_back base hands) j ≡ Some (b ++ cells j hands)
  backs_at [] base j b e = e ∙ ap (λ (l : List Token). Some l) (sym (append-nil b))
  backs_at (hand ∷ hands) base j b e =
      backs_at hands (with_back base hand.passes) j (b ++ cell (slice_get hand.passes j)) (back_at base hand.passes j b e)
      ∙ ap (λ (l : List Token). Some l) (append_assoc b (cell (slice_get hand.passes j)) (cells j hands))

  long_backs : (hands : List KnownHand) (base : List (List Token)) → length (all_back base hands) ≡ length base
  long_backs [] base = refl
  long_backs (hand ∷ hands) base = long_backs hands (with_back base hand.passes) ∙ long_back base hand.passes

  abbrev the_nil : List Token
  the_nil = []

  long_nothing : (n : ℕ) → length (replicate n the_nil) ≡ n
  long_nothing zero = refl
  long_nothing (suc n) = ap suc (long_nothing n)

  -- what lies in a cell: a pass where there was one
  abbrev LiesIn : Option Token → Option (Option Token) → Type 0
  LiesIn None found = found ≡ Some None
  LiesIn (Some before) found = (after : Token) × (found ≡ Some (Some after))

  abbrev Lie : ℕ → List Token → List KnownHand → Type 0
  Lie j list hands = (k : ℕ) (hand : KnownHand) → slice_get hands k ≡ Some hand → LiesIn (slice_get list k) (slice_get hand.passes j)

  cells_long : (j : ℕ) (list : List Token) (hands : List KnownHand) → length list ≤ length hands → Lie j list hands → length (cells j hands) ≡ length list
  cells_long j [] [] h lie = refl
  cells_long j (x ∷ xs) [] h lie = absurd (omega arith)
  cells_long j [] (hand ∷ hands) h lie =
      let none = lie 0 hand refl in
      ap (λ (o : Option (Option Token)). length (cell o ++ cells j hands)) none ∙ cells_long j [] hands (omega arith) (λ k n e. lie (suc k) n e)
  cells_long j (x ∷ xs) (hand ∷ hands) h lie =
      let one = lie 0 hand refl in
      ap (λ (o : Option (Option Token)). length (cell o ++ cells j hands)) one.1 ∙ ap suc (cells_long j xs hands (omega arith) (λ k n e. lie (suc k) n e))

  cells_at : (j : ℕ) (list : List Token) (hands : List KnownHand) (k : ℕ) (before after : Token) → Lie j list hands → slice_get list k ≡ Some before → slice_get (cells j hands) k ≡ Some after
      → (hand : KnownHand) × (slice_get hands k ≡ Some hand) × (slice_get hand.passes j ≡ Some (Some after))
  cells_at j list [] k before after lie e f = absurd (cc)
  cells_at j [] (hand ∷ hands) k before after lie e f = absurd (cc)
  cells_at j (x ∷ xs) (hand ∷ hands) zero before after lie e f =
      let one = lie 0 hand refl in
      let found : Some one.0 ≡ Some after = ap (λ (o : Option (Option Token)). slice_get (cell o ++ cells j hands) 0) (sym one.1) ∙ f in
      (hand, refl, one.1 ∙ ap (λ (o : Option Token). Some o) found)
  cells_at j (x ∷ xs) (hand ∷ hands) (suc k) before after lie e f =
      let one = lie 0 hand refl in
      let found : slice_get (cells j hands) k ≡ Some after = ap (λ (o : Option (Option Token)). slice_get (cell o ++ cells j hands) (suc k)) (sym one.1) ∙ f in
      cells_at j xs hands k before after (λ n h g. lie (suc n) h g) e found

  -- the same writers, before and after
  same_at : (old new : List KnownHand) → AreSame old new → (k : ℕ) (after : KnownHand) → slice_get new k ≡ Some after → (before : KnownHand) × (slice_get old k ≡ Some before) × IsSameHand before after
  same_at [] [] s k after e = absurd (cc)
  same_at [] (n ∷ ns) s k after e = absurd s
  same_at (o ∷ os) [] s k after e = absurd s
  same_at (o ∷ os) (n ∷ ns) s zero after e = let same : n ≡ after = cc in (o, refl, subst (λ (h : KnownHand). IsSameHand o h) same s.0)
  same_at (o ∷ os) (n ∷ ns) s (suc k) after e = same_at os ns s.1 k after e

  written_at : (old new : List KnownHand) → AreWritten script server old new → (k : ℕ) (before after : KnownHand) → slice_get old k ≡ Some before → slice_get new k ≡ Some after → HasWritten script server before after
  written_at [] [] s k before after e f = absurd (cc)
  written_at [] (n ∷ ns) s k before after e f = absurd s
  written_at (o ∷ os) [] s k before after e f = absurd s
  written_at (o ∷ os) (n ∷ ns) s zero before after e f =
      let a : o ≡ before = cc in let b : n ≡ after = cc in
      subst (λ (h : KnownHand). HasWritten script server h after) a (subst (λ (h : KnownHand). HasWritten script server o h) b s.0)
  written_at (o ∷ os) (n ∷ ns) s (suc k) before after e f = written_at os ns s.1 k before after e f

  module _ (old new : List KnownHand) (dealt : AreDealt lists old) (hands : AllByRecursion (IsHand script server) new) (same : AreSame old new) where
    hand_old : (k : ℕ) (after : KnownHand) → slice_get new k ≡ Some after → (before : KnownHand) × (slice_get old k ≡ Some before) × IsSameHand before after
    hand_old k after e = same_at old new same k after e

    lies_by : (k j : ℕ) (hand before : KnownHand) → IsSameHand before hand → (o : Option Token) → slice_get before.passes j ≡ Some o → LiesIn o (slice_get hand.passes j)
    lies_by k j hand before s None found = s.absent j found
    lies_by k j hand before s (Some pass) found = s.present j pass found

    dealt_at : (k j : ℕ) (list : Vec Token) (before : KnownHand) → slice_get lists j ≡ Some list → slice_get old k ≡ Some before → slice_get before.passes j ≡ Some (slice_get list.items k)
    dealt_at k j list before e f = ap (λ (l : List (Option Token)). slice_get l j) (dealt.each k before f).1 ∙ column_at k j list e

    lie : (j : ℕ) (list : Vec Token) → slice_get lists j ≡ Some list → Lie j list.items new
    lie j list e k hand f = let before = hand_old k hand f in lies_by k j hand before.0 before.2 (slice_get list.items k) (dealt_at k j list before.0 e before.1)

    nothing_at : (n j : ℕ) → j < n → slice_get (replicate n (the_nil)) j ≡ Some the_nil
    nothing_at zero j h = absurd (omega arith)
    nothing_at (suc n) zero h = refl
    nothing_at (suc n) (suc j) h = nothing_at n j (omega arith)

    -- as many passes come back to a list as it had
    cells_are : (j : ℕ) (list : Vec Token) → slice_get lists j ≡ Some list → length (cells j new) ≡ length list.items
    cells_are j list e =
        let few = dealt.enough j list e in
        let long = same_long old new same in
        cells_long j list.items new (omega arith) (lie j list e)

    -- the lists from which passes were dealt have room for them
    pub room_for : (left : List (Vec Token)) → AreEmptied lists left → HaveRoomFor left new
    room_for left emptied = record {
      few = λ k hand e.
          let many = (all_at (IsHand script server) new hands k hand e).as_many in
          let lists_many = ready.lists in
          let as_many = emptied.as_many in
          omega arith;
      room = λ j list e.
          let within = slice_get_within left j list e in
          let as_many = emptied.as_many in
          let was = get_at lists j (omega arith) in
          let none = emptied.each j was.0 list was.1 e in
          let all = cells_are j was.0 was.1 in
          let empty = none.0 in
          let fits = none.1 in
          omega arith;
    }

    module _ (back : List (Vec Token)) (is_back : lists_of back ≡ all_back (replicate (length lists) []) new) where
      back_is : (j : ℕ) (list : Vec Token) (given : Vec Token) → slice_get lists j ≡ Some list → slice_get back j ≡ Some given → given.items ≡ cells j new
      back_is j list given e f =
          let within = slice_get_within lists j list e in
          let all : slice_get (lists_of back) j ≡ Some (cells j new) = ap (λ (l : List (List Token)). slice_get l j) is_back ∙ backs_at new (replicate (length lists) []) j [] (nothing_at (length lists) j within) in
          the_same (lists_of back) j j given.items (cells j new) (get_mapped (λ (l : Vec Token). l.items) back j given f) all refl

      back_long : length back ≡ length lists
      back_long = sym (long_map (λ (l : Vec Token). l.items) back) ∙ (ap (λ (l : List (List Token)). length l) is_back ∙ (long_backs new (replicate (length lists) []) ∙ long_nothing (length lists)))

      list_there : (j : ℕ) (given : Vec Token) → slice_get back j ≡ Some given → (list : Vec Token) × (slice_get lists j ≡ Some list)
      list_there j given f = let within = slice_get_within back j given f in let long = back_long in get_at lists j (omega arith)

      as_long : (j : ℕ) (list given : Vec Token) → slice_get lists j ≡ Some list → slice_get back j ≡ Some given → length given.items ≡ length list.items
      as_long j list given e f =
          ap (λ (l : List Token). length l) (back_is j list given e f) ∙ cells_are j list e

      -- where a pass lies that was given back
      from_hand : (j k : ℕ) (list given : Vec Token) (after : Token) → slice_get lists j ≡ Some list → slice_get back j ≡ Some given → slice_get given.items k ≡ Some after
          → (hand : KnownHand) × (slice_get new k ≡ Some hand) × (slice_get hand.passes j ≡ Some (Some after))
      from_hand j k list given after e f g =
          let within = slice_get_within given.items k after g in
          let long = as_long j list given e f in
          let before = get_at list.items k (omega arith) in
          cells_at j list.items new k before.0 after (lie j list e) before.1 (ap (λ (l : List Token). slice_get l k) (sym (back_is j list given e f)) ∙ g)

      pub ready_again : AreReady script server back
      ready_again = record {
        lists = back_long ∙ ready.lists;
        few = λ j given f. let list = list_there j given f in let long = as_long j list.0 given list.1 f in let few = ready.few j list.0 list.1 in omega arith;
        many = λ i j at given f. let list = list_there j given f in as_long j list.0 given list.1 f ∙ ready.many i j at list.0 list.1;
        each = λ j k mounted given pass e f g.
            let list = list_there j given f in
            let from = from_hand j k list.0 given pass list.1 f g in
            let before = hand_old k from.0 from.1 in
            let number : from.0.number ≡ k = before.2.number ∙ (dealt.each k before.0 before.1).0 in
            subst (λ (n : ℕ). IsPassOf mounted.region n Idle pass) number ((all_at (IsHand script server) new hands k from.0 from.1).each j mounted pass e from.2);
      }

      pub have_written : AreWritten script server old new → HaveWritten script server lists back
      have_written written = record {
        ready = ready_again;
        each = λ i j k at was done before after e f g h.
            let from = from_hand j k was done after e f h in
            let first = hand_old k from.0 from.1 in
            let number : first.0.number ≡ k = (dealt.each k first.0 first.1).0 in
            let there : slice_get first.0.passes j ≡ Some (Some before) = dealt_at k j was first.0 e first.1 ∙ ap (λ (o : Option Token). Some o) g in
            let within = slice_get_within was.items k before g in
            let many = ready.many i j at was e in
            let below : first.0.number < at.row.passes = omega arith in
            subst (λ (n : ℕ). WritesLines script.images (lines_of i n script.steps) before after) number
            (written_at old new written k first.0 from.0 first.1 from.1 i j at before after below there from.2);
      }

-- lists without passes
pub none_of : (old new : List (Vec Token)) → AreEmptied old new → lists_of new ≡ replicate (length old) []
none_of old new e = by_length new (length old) e.as_many (λ j list there. let within = slice_get_within new j list there in let many = e.as_many in let was = get_at old j (omega arith) in (e.each j was.0 list was.1 there).0)
  where
    by_length : (xs : List (Vec Token)) (n : ℕ) → length xs ≡ n → ((j : ℕ) (list : Vec Token) → slice_get xs j ≡ Some list → length list.items ≡ 0) → lists_of xs ≡ replicate n []
    by_length [] zero long none = refl
    by_length [] (suc n) long none = absurd (omega arith)
    by_length (x ∷ xs) zero long none = absurd (omega arith)
    by_length (x ∷ xs) (suc n) long none =
        ap (λ (l : List Token). l ∷ lists_of xs) (nothing_left x.items (none 0 x refl)) ∙ ap (λ (l : List (List Token)). [] ∷ l) (by_length xs n (omega arith) (λ j list there. none (suc j) list there))
