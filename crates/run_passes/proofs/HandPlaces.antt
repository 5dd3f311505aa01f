-- Passes put into the places of writers: those of one list, from its end on, and one list after another.
use Rattle.std.proofs.Common.{◌≡◌, ◌≢◌, ⊎_elim, ℕ, zero, suc, ◌+◌, ◌-◌, ◌<◌, ◌≤◌, List, [], ◌∷◌, ◌++◌, append-nil, append_assoc, length, length-append, length-set, replicate, slice_get, slice_set, take, vec_capacity, Option, Some, None, sym, refl, ap, ◌∙◌, subst, arith}
use Rattle.std.specs.Global.{Vec}
use Rattle.std.proofs.lemmas.List.{length-take-le}
use Rattle.std.proofs.lemmas.Option.{slice_get_within}
use Rattle.region_rule.specs.Seats.{Token}
use Rattle.run_passes.proofs.Crewing.{get_set_same, get_set_other, same_or_other}
use Rattle.run_passes.specs.Dealing.{AreDealt, AreEmptied, HavePlaces, IsDealt, column, placed}
use Rattle.run_passes.specs.Hands.{KnownHand}
use Rattle.run_passes.proofs.Handed.{get_at, long_map, take_all}
use Rattle.run_passes.proofs.Laying.{get_seam, map_next, replicate_long, set_seam}
use Rattle.run_passes.proofs.WriterPlaces.{the_same}

none_past : {A : Type 0} (xs : List A) (k : ℕ) → length xs ≤ k → slice_get xs k ≡ None
none_past [] k h = refl
none_past (x ∷ xs) zero h = absurd (omega arith)
none_past (x ∷ xs) (suc k) h = none_past xs k (omega arith)

-- One list

-- the first passes of a list are left, and the others are in their places
pub record Dealing (at : ℕ) (list left : List Token) (old new : List KnownHand) : Type 0 where
  pub rest : List Token
  pub is : list ≡ left ++ rest
  pub as_many : length new ≡ length old
  pub waits : (k : ℕ) → k < length left → slice_get new k ≡ slice_get old k
  pub each : (k : ℕ) (was done : KnownHand) → length left ≤ k → slice_get old k ≡ Some was → slice_get new k ≡ Some done → (done.number ≡ was.number) × (done.passes ≡ placed at (slice_get list k) was.passes)

pub none_dealt : (at : ℕ) (list : List Token) (hands : List KnownHand) → Dealing at list list hands hands
none_dealt at list hands = record {
  rest = [];
  is = sym (append-nil list);
  as_many = refl;
  waits = λ k below. refl;
  each = λ k was done far e f.
      let same : was ≡ done = the_same hands k k was done e f refl in (
        ap (λ (h : KnownHand). h.number) (sym same),
        ap (λ (h : KnownHand). h.passes) (sym same) ∙ ap (λ (o : Option Token). placed at o was.passes) (sym (none_past list k far)),
      );
}

module _ (at : ℕ) (list left rest : List Token) (pass : Token) (old mid : List KnownHand) (d : Dealing at list left old mid) (is : left ≡ rest ++ pass ∷ []) where
  long_left : length left ≡ length rest + 1
  long_left = ap (λ (l : List Token). length l) is ∙ length-append rest (pass ∷ [])

  all_is : list ≡ rest ++ (pass ∷ d.rest)
  all_is = d.is ∙ (ap (λ (l : List Token). l ++ d.rest) is ∙ append_assoc rest (pass ∷ []) d.rest)

  -- the writer of the last one that is left
  pub writer_there : length list ≤ length old → length rest < length mid
  writer_there enough =
      let all : length list ≡ length left + length d.rest = ap (λ (l : List Token). length l) d.is ∙ length-append left d.rest in
      let long = long_left in
      let many = d.as_many in
      omega arith

  pub place_there : ((k : ℕ) (hand : KnownHand) → slice_get old k ≡ Some hand → at < length hand.passes) → (was : KnownHand) → slice_get mid (length rest) ≡ Some was → at < length was.passes
  place_there places was there = let long = long_left in places (length rest) was (sym (d.waits (length rest) (omega arith)) ∙ there)

  pub dealt_more : (was done : KnownHand) (new : List KnownHand) → slice_get mid (length rest) ≡ Some was → done.number ≡ was.number → done.passes ≡ slice_set was.passes at (Some pass) → new ≡ slice_set mid (length rest) done → Dealing at list rest old new
  dealt_more was done new there number passes new_is =
      let long = long_left in
      let other : (k : ℕ) → k ≢ length rest → slice_get new k ≡ slice_get mid k = λ k differ. ap (λ (l : List KnownHand). slice_get l k) new_is ∙ get_set_other mid (length rest) k done differ in
      record {
        rest = pass ∷ d.rest;
        is = all_is;
        as_many = ap (λ (l : List KnownHand). length l) new_is ∙ (length-set mid (length rest) done ∙ d.as_many);
        waits = λ k below. other k (λ same. absurd (omega arith)) ∙ d.waits k (omega arith);
        each = λ k w x far e f. ⊎_elim
            (λ (same : k ≡ length rest).
            let was_is : was ≡ w = the_same old (length rest) k was w (sym (d.waits (length rest) (omega arith)) ∙ there) e (sym same) in
            let here : slice_get new (length rest) ≡ Some done = ap (λ (l : List KnownHand). slice_get l (length rest)) new_is ∙ get_set_same mid (length rest) done (slice_get_within mid (length rest) was there) in
            let done_is : done ≡ x = the_same new (length rest) k done x here f (sym same) in
            let pass_is : slice_get list k ≡ Some pass = ap (λ (n : ℕ). slice_get list n) same ∙ (ap (λ (l : List Token). slice_get l (length rest)) all_is ∙ get_seam rest pass d.rest) in
            subst (λ (h : KnownHand). (x.number ≡ h.number) × (x.passes ≡ placed at (slice_get list k) h.passes)) was_is
            (subst (λ (h : KnownHand). (h.number ≡ was.number) × (h.passes ≡ placed at (slice_get list k) was.passes)) done_is
            (number, passes ∙ ap (λ (o : Option Token). placed at o was.passes) (sym pass_is))))
            (λ (differ : k ≢ length rest). d.each k w x (omega arith) e (sym (other k differ) ∙ f))
            (same_or_other k (length rest));
      }

pub all_dealt : (at : ℕ) (list left : List Token) (old new : List KnownHand) → Dealing at list left old new → length left ≡ 0 → IsDealt at list old new
all_dealt at list left old new d none = record { as_many = d.as_many; each = λ k was done e f. d.each k was done (omega arith) e f }

-- One list after another

abbrev pub no_places : ℕ → List (Option Token)
no_places n = replicate n None

-- what a writer has of the first regions, and its places for the others
abbrev pub column_to : ℕ → ℕ → List (Vec Token) → List (Option Token)
column_to n k lists = column k (take n lists) ++ no_places (length lists - n)

pub record DealtTo (n : ℕ) (lists left : List (Vec Token)) (hands : List KnownHand) : Type 0 where
  pub as_many : length left ≡ length lists
  pub rest : (j : ℕ) → n ≤ j → slice_get left j ≡ slice_get lists j
  pub emptied : (j : ℕ) (was empty : Vec Token) → j < n → slice_get lists j ≡ Some was → slice_get left j ≡ Some empty → (length empty.items ≡ 0) × (length was.items ≤ vec_capacity empty)
  pub enough : (j : ℕ) (list : Vec Token) → slice_get lists j ≡ Some list → length list.items ≤ length hands
  pub each : (k : ℕ) (hand : KnownHand) → slice_get hands k ≡ Some hand → (hand.number ≡ k) × (hand.passes ≡ column_to n k lists)

take_none : {A : Type 0} (xs : List A) → take 0 xs ≡ []
take_none [] = refl
take_none (x ∷ xs) = refl

pub no_list_dealt : (lists : List (Vec Token)) (hands : List KnownHand) → HavePlaces lists hands → DealtTo 0 lists lists hands
no_list_dealt lists hands h = record {
  as_many = refl;
  rest = λ j far. refl;
  emptied = λ j was empty below e f. absurd (omega arith);
  enough = h.enough;
  each = λ k hand e.
      let long : length lists ≡ length lists - 0 = omega arith in (
        (h.each k hand e).0,
        (h.each k hand e).1 ∙ (ap (λ (n : ℕ). no_places n) long ∙ ap (λ (l : List (Vec Token)). column k l ++ no_places (length lists - 0)) (sym (take_none lists))),
      );
}

module _ (n : ℕ) (lists left : List (Vec Token)) (hands : List KnownHand) (d : DealtTo n lists left hands) (below : n < length lists) where
  first_long : (k : ℕ) → length (column k (take n lists)) ≡ n
  first_long k = long_map (λ (l : Vec Token). slice_get l.items k) (take n lists) ∙ length-take-le n lists (omega arith)

  one_more_place : no_places (length lists - n) ≡ None ∷ no_places (length lists - (n + 1))
  one_more_place = let long : length lists - n ≡ suc (length lists - (n + 1)) = omega arith in ap (λ (m : ℕ). no_places m) long

  pub places_next : (k : ℕ) (hand : KnownHand) → slice_get hands k ≡ Some hand → n < length hand.passes
  places_next k hand e =
      let first = first_long k in
      let rest : length (no_places (length lists - n)) ≡ length lists - n = replicate_long {A = Option Token} (length lists - n) None in
      let both : length hand.passes ≡ length (column k (take n lists)) + length (no_places (length lists - n)) =
      ap (λ (l : List (Option Token)). length l) (d.each k hand e).1 ∙ length-append (column k (take n lists)) (no_places (length lists - n)) in
      omega arith

  column_next : (k : ℕ) (list : Vec Token) → slice_get lists n ≡ Some list → (o : Option Token) → slice_get list.items k ≡ o → placed n o (column_to n k lists) ≡ column_to (n + 1) k lists
  column_next k list there o is =
      let first : List (Option Token) = column k (take n lists) in
      let more : List (Option Token) = no_places (length lists - (n + 1)) in
      let next : column k (take (n + 1) lists) ≡ first ++ o ∷ [] = map_next (λ (l : Vec Token). slice_get l.items k) lists n list there ∙ ap (λ (x : Option Token). first ++ x ∷ []) is in
      let was : column_to n k lists ≡ first ++ None ∷ more = ap (λ (l : List (Option Token)). first ++ l) one_more_place in
      ap (λ (l : List (Option Token)). placed n o l) was ∙ (put first more (first_long k) o ∙ (sym (append_assoc first (o ∷ []) more) ∙ ap (λ (l : List (Option Token)). l ++ more) (sym next)))
    where
      put : (first more : List (Option Token)) → length first ≡ n → (o : Option Token) → placed n o (first ++ None ∷ more) ≡ first ++ o ∷ more
      put first more long None = refl
      put first more long (Some pass) = set_seam first None (Some pass) more n long

  pub dealt_next : (list empty : Vec Token) (later : List (Vec Token)) (new : List KnownHand) → slice_get left n ≡ Some list → IsDealt n list.items hands new → length empty.items ≡ 0 → length list.items ≤ vec_capacity empty → later ≡ slice_set left n empty → DealtTo (n + 1) lists later new
  dealt_next list empty later new there dealt none room later_is =
      let list_is : slice_get lists n ≡ Some list = sym (d.rest n (omega arith)) ∙ there in
      let other : (j : ℕ) → j ≢ n → slice_get later j ≡ slice_get left j = λ j differ. ap (λ (l : List (Vec Token)). slice_get l j) later_is ∙ get_set_other left n j empty differ in
      let here : slice_get later n ≡ Some empty = ap (λ (l : List (Vec Token)). slice_get l n) later_is ∙ get_set_same left n empty (slice_get_within left n list there) in
      let many = dealt.as_many in
      record {
        as_many = ap (λ (l : List (Vec Token)). length l) later_is ∙ (length-set left n empty ∙ d.as_many);
        rest = λ j far. other j (λ same. absurd (omega arith)) ∙ d.rest j (omega arith);
        emptied = λ j was found low e f. ⊎_elim
            (λ (same : j ≡ n).
            let was_is : list ≡ was = the_same lists n j list was list_is e (sym same) in
            let found_is : empty ≡ found = the_same later n j empty found here f (sym same) in
            subst (λ (v : Vec Token). (length found.items ≡ 0) × (length v.items ≤ vec_capacity found)) was_is (subst (λ (v : Vec Token). (length v.items ≡ 0) × (length list.items ≤ vec_capacity v)) found_is (none, room)))
            (λ (differ : j ≢ n). d.emptied j was found (omega arith) e (sym (other j differ) ∙ f))
            (same_or_other j n);
        enough = λ j own e. let few = d.enough j own e in omega arith;
        each = λ k hand e.
            let within = slice_get_within new k hand e in
            let was = get_at hands k (omega arith) in
            let one = dealt.each k was.0 hand was.1 e in
            let so_far = d.each k was.0 was.1 in
            (one.0 ∙ so_far.0, one.1 ∙ (ap (λ (l : List (Option Token)). placed n (slice_get list.items k) l) so_far.1 ∙ column_next k list list_is (slice_get list.items k) refl));
      }

pub every_list_dealt : (n : ℕ) (lists left : List (Vec Token)) (hands : List KnownHand) → DealtTo n lists left hands → length lists ≤ n → AreDealt lists hands × AreEmptied lists left
every_list_dealt n lists left hands d end = (
  record {
    enough = d.enough;
    each = λ k hand e.
        let none : length lists - n ≡ 0 = omega arith in (
          (d.each k hand e).0,
          (d.each k hand e).1
              ∙ (ap (λ (m : ℕ). column k (take n lists) ++ no_places m) none
              ∙ (append-nil (column k (take n lists)) ∙ ap (λ (l : List (Vec Token)). column k l) (take_all lists n end))),
        );
  },
  record {
    as_many = d.as_many;
    each = λ j was empty e f. let within = slice_get_within lists j was e in d.emptied j was empty (omega arith) e f;
  },
)
