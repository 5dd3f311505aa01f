-- Passes laid behind those of their lists, which have room for them.
use Rattle.std.proofs.Common.{◌≡◌, ◌≢◌, ⊎_elim, ℕ, zero, suc, ◌+◌, ◌<◌, ◌≤◌, List, [], ◌∷◌, ◌++◌, append-nil, length, length-append, slice_get, slice_set, vec_capacity, Option, Some, sym, refl, ap, ◌∙◌, subst, arith}
use Rattle.std.specs.Global.{Vec}
use Rattle.std.proofs.lemmas.List.Sums.{fold-append}
use Rattle.std.proofs.lemmas.Option.{slice_get_within}
use Rattle.region_rule.specs.Seats.{Token}
use Rattle.run_passes.proofs.Crewing.{get_set_same, get_set_other, map_set, same_or_other}
use Rattle.run_passes.specs.Dealing.{AreLaidBack, HaveRoom, HaveRoomFor, all_back, cell, cells, lists_of, some_of, with_back}
use Rattle.run_passes.specs.Hands.{KnownHand}
use Rattle.run_passes.proofs.Handed.{get_at, get_mapped, long_map}
use Rattle.run_passes.proofs.Laying.{get_seam}
use Rattle.run_passes.proofs.WriterPlaces.{the_same}

back_none : (base : List (List Token)) → with_back base [] ≡ base
back_none [] = refl
back_none (x ∷ xs) = ap (λ (l : List (List Token)). x ∷ l) (back_none xs)

pub long_back : (base : List (List Token)) (passes : List (Option Token)) → length (with_back base passes) ≡ length base
long_back [] passes = refl
long_back (x ∷ xs) [] = ap suc (long_back xs [])
long_back (x ∷ xs) (p ∷ ps) = ap suc (long_back xs ps)

pub back_at : (base : List (List Token)) (passes : List (Option Token)) (j : ℕ) (b : List Token) → slice_get base j ≡ Some b → slice_get (with_back base passes) j ≡ Some (b ++ cell (slice_get passes j))
back_at [] passes j b e = absurd (cc)
back_at (x ∷ xs) [] zero b e = let same : x ≡ b = cc in ap (λ (l : List Token). Some l) (same ∙ sym (append-nil b))
back_at (x ∷ xs) [] (suc j) b e = back_at xs [] j b e
back_at (x ∷ xs) (p ∷ ps) zero b e = let same : x ≡ b = cc in ap (λ (l : List Token). Some (l ++ some_of p)) same
back_at (x ∷ xs) (p ∷ ps) (suc j) b e = back_at xs ps j b e

-- behind the passes so far a list is as it was
back_past : (base : List (List Token)) (ys : List (Option Token)) → slice_get (with_back base ys) (length ys) ≡ slice_get base (length ys)
back_past [] ys = refl
back_past (x ∷ xs) [] = refl
back_past (x ∷ xs) (y ∷ ys) = back_past xs ys

back_next : (base : List (List Token)) (ys : List (Option Token)) (p : Option Token) (b : List Token) → slice_get (with_back base ys) (length ys) ≡ Some b → with_back base (ys ++ p ∷ []) ≡ slice_set (with_back base ys) (length ys) (b ++ some_of p)
back_next [] ys p b e = absurd (cc)
back_next (x ∷ xs) [] p b e = let same : x ≡ b = cc in ap (λ (l : List Token). (l ++ some_of p) ∷ with_back xs []) same
back_next (x ∷ xs) (y ∷ ys) p b e = ap (λ (l : List (List Token)). (x ++ some_of y) ∷ l) (back_next xs ys p b e)

-- One writer's passes

pub laid_none : (lists : List (Vec Token)) → AreLaidBack lists [] lists
laid_none lists = record { lists_are = sym (back_none (lists_of lists)); room = λ j was done e f. ap (λ (l : Vec Token). vec_capacity l) (sym (the_same lists j j was done e f refl)) }

pub long_laid : (lists new : List (Vec Token)) (ys : List (Option Token)) → AreLaidBack lists ys new → length new ≡ length lists
long_laid lists new ys h =
    sym (long_map (λ (l : Vec Token). l.items) new) ∙ (ap (λ (l : List (List Token)). length l) h.lists_are ∙ (long_back (lists_of lists) ys ∙ long_map (λ (l : Vec Token). l.items) lists))

module _ (lists mid : List (Vec Token)) (ys : List (Option Token)) (h : AreLaidBack lists ys mid) (list : Vec Token) (there : slice_get mid (length ys) ≡ Some list) where
  there_now : slice_get (with_back (lists_of lists) ys) (length ys) ≡ Some list.items
  there_now = ap (λ (l : List (List Token)). slice_get l (length ys)) (sym h.lists_are) ∙ get_mapped (λ (l : Vec Token). l.items) mid (length ys) list there

  pub room_next : (passes rest : List (Option Token)) (pass : Option Token) → HaveRoom lists passes → passes ≡ ys ++ pass ∷ rest → (own : Token) → pass ≡ Some own → length list.items < vec_capacity list
  room_next passes rest pass room is own e =
      let long = long_laid lists mid ys h in
      let within = slice_get_within mid (length ys) list there in
      let was = get_at lists (length ys) (omega arith) in
      let items : was.0.items ≡ list.items = the_same (lists_of lists) (length ys) (length ys) was.0.items list.items (get_mapped (λ (l : Vec Token). l.items) lists (length ys) was.0 was.1) (sym (back_past (lists_of lists) ys) ∙ there_now) refl in
      let here : slice_get passes (length ys) ≡ Some (Some own) = ap (λ (l : List (Option Token)). slice_get l (length ys)) is ∙ (get_seam ys pass rest ∙ ap (λ (o : Option Token). Some o) e) in
      let below = room (length ys) was.0 own was.1 here in
      let same : length was.0.items ≡ length list.items = ap (λ (l : List Token). length l) items in
      let as_large : vec_capacity list ≡ vec_capacity was.0 = h.room (length ys) was.0 list was.1 there in
      omega arith

  pub laid_next : (pass : Option Token) (done : Vec Token) (new : List (Vec Token)) (more : List (Option Token)) → done.items ≡ list.items ++ some_of pass → vec_capacity done ≡ vec_capacity list → new ≡ slice_set mid (length ys) done → more ≡ ys ++ pass ∷ [] → AreLaidBack lists more new
  laid_next pass done new more items as_large new_is more_is = record {
    lists_are =
        ap (λ (l : List (Vec Token)). lists_of l) new_is
        ∙ (map_set (λ (l : Vec Token). l.items) mid (length ys) done
        ∙ (ap (λ (l : List (List Token)). slice_set l (length ys) done.items) h.lists_are
        ∙ (ap (λ (l : List Token). slice_set (with_back (lists_of lists) ys) (length ys) l) items
        ∙ (sym (back_next (lists_of lists) ys pass list.items there_now) ∙ ap (λ (l : List (Option Token)). with_back (lists_of lists) l) (sym more_is)))));
    room = λ j was found e f. ⊎_elim
        (λ (same : j ≡ length ys).
        let here : slice_get new (length ys) ≡ Some done = ap (λ (l : List (Vec Token)). slice_get l (length ys)) new_is ∙ get_set_same mid (length ys) done (slice_get_within mid (length ys) list there) in
        let found_is : done ≡ found = the_same new (length ys) j done found here f (sym same) in
        subst (λ (v : Vec Token). vec_capacity v ≡ vec_capacity was) found_is (as_large ∙ h.room j was list e (ap (λ (n : ℕ). slice_get mid n) same ∙ there)))
        (λ (differ : j ≢ length ys). h.room j was found e (sym (ap (λ (l : List (Vec Token)). slice_get l j) new_is ∙ get_set_other mid (length ys) j done differ) ∙ f))
        (same_or_other j (length ys));
  }

-- there is a list for the next place
pub list_there : (lists mid : List (Vec Token)) (ys passes rest : List (Option Token)) (pass : Option Token) → AreLaidBack lists ys mid → length passes ≤ length lists → passes ≡ ys ++ pass ∷ rest → length ys < length mid
list_there lists mid ys passes rest pass h few is =
    let long = long_laid lists mid ys h in
    let all : length passes ≡ length ys + suc (length rest) = ap (λ (l : List (Option Token)). length l) is ∙ length-append ys (pass ∷ rest) in
    omega arith

-- One writer after another

pub room_first : (lists : List (Vec Token)) (hand : KnownHand) (hands : List KnownHand) → HaveRoomFor lists (hand ∷ hands) → (length hand.passes ≤ length lists) × HaveRoom lists hand.passes
room_first lists hand hands h = (
  h.few 0 hand refl,
  λ j list pass e f.
      let room = h.room j list e in
      let both : length (cell (slice_get hand.passes j) ++ cells j hands) ≡ length (cell (slice_get hand.passes j)) + length (cells j hands) = length-append (cell (slice_get hand.passes j)) (cells j hands) in
      let one : length (cell (slice_get hand.passes j)) ≡ 1 = ap (λ (o : Option (Option Token)). length (cell o)) f in
      omega arith,
)

pub room_rest : (lists later : List (Vec Token)) (hand : KnownHand) (hands : List KnownHand) → HaveRoomFor lists (hand ∷ hands) → AreLaidBack lists hand.passes later → HaveRoomFor later hands
room_rest lists later hand hands h laid =
    let long = long_laid lists later hand.passes laid in
    record {
      few = λ k other e. let few = h.few (suc k) other e in omega arith;
      room = λ j list e.
          let within = slice_get_within later j list e in
          let was = get_at lists j (omega arith) in
          let room = h.room j was.0 was.1 in
          let both : length (cell (slice_get hand.passes j) ++ cells j hands) ≡ length (cell (slice_get hand.passes j)) + length (cells j hands) = length-append (cell (slice_get hand.passes j)) (cells j hands) in
          let items : list.items ≡ was.0.items ++ cell (slice_get hand.passes j) =
          the_same (lists_of later) j j list.items (was.0.items ++ cell (slice_get hand.passes j)) (get_mapped (λ (l : Vec Token). l.items) later j list e)
          (ap (λ (l : List (List Token)). slice_get l j) laid.lists_are ∙ back_at (lists_of lists) hand.passes j was.0.items (get_mapped (λ (l : Vec Token). l.items) lists j was.0 was.1)) refl in
          let grown : length list.items ≡ length was.0.items + length (cell (slice_get hand.passes j)) = ap (λ (l : List Token). length l) items ∙ length-append was.0.items (cell (slice_get hand.passes j)) in
          let as_large : vec_capacity list ≡ vec_capacity was.0 = laid.room j was.0 list was.1 e in
          omega arith;
    }

pub back_more : (base : List (List Token)) (hands : List KnownHand) (hand : KnownHand) → all_back base (hands ++ hand ∷ []) ≡ with_back (all_back base hands) hand.passes
back_more base hands hand = fold-append (λ (l : List (List Token)) (h : KnownHand). with_back l h.passes) base hands (hand ∷ [])
