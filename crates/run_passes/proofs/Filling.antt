-- Crews are given room for their passes, and are filled.
use Rattle.std.proofs.Common.{◌≡◌, ◌≢◌, ℕ, zero, suc, ◌+◌, ◌<◌, ◌≤◌, List, [], ◌∷◌, ◌++◌, append_assoc, append-nil, length, length-append, length-set, slice_get, slice_set, vec_capacity, Some, ⊎_elim, refl, sym, ap, ◌∙◌, subst, arith}
use Rattle.std.specs.Global.{Vec}
use Rattle.std.proofs.lemmas.Option.{slice_get_within}
use Rattle.region_rule.specs.Seats.{Token}
use Rattle.run_passes.specs.declared.worker.Worker.{Worker}
use Rattle.run_passes.specs.Openings.{AreBare, AreCrews, HaveRoomsFor, idle_crew}
use Rattle.run_passes.proofs.Crewing.{get_set_other, get_set_same, same_or_other}
use Rattle.run_passes.proofs.Finals.{get_front, get_seam}
use Rattle.run_passes.proofs.Seated.{the_one}

-- Rooms

pub bare_last : (rooms rest : List (Vec Worker)) (room : Vec Worker) → AreBare rooms → rooms ≡ rest ++ room ∷ [] → room.items ≡ []
bare_last rooms rest room bare is = bare (length rest) room (ap (λ (l : List (Vec Worker)). slice_get l (length rest)) is ∙ get_seam rest room)

pub bare_rest : (rooms rest : List (Vec Worker)) (room : Vec Worker) → AreBare rooms → rooms ≡ rest ++ room ∷ [] → AreBare rest
bare_rest rooms rest room bare is j other e =
    bare j other (ap (λ (l : List (Vec Worker)). slice_get l j) is ∙ (get_front rest (room ∷ []) j (slice_get_within rest j other e) ∙ e))

pub bare_rooms : (passes : List (Vec Token)) (rooms : List (Vec Worker)) → HaveRoomsFor passes rooms → AreBare rooms
bare_rooms passes rooms h j room e =
    let many = h.as_many in
    let within = slice_get_within rooms j room e in
    let own = get_there passes j (omega arith) in
    (h.each j own.0 room own.1 e).0
  where
    get_there : {A : Type 0} (xs : List A) (i : ℕ) → i < length xs → (x : A) × (slice_get xs i ≡ Some x)
    get_there [] i h = absurd (omega arith)
    get_there (x ∷ xs) zero h = (x, refl)
    get_there (x ∷ xs) (suc i) h = get_there xs i (omega arith)

pub no_rooms : HaveRoomsFor [] []
no_rooms = record { as_many = refl; each = λ j own room e f. absurd (cc) }

-- room for one list more
pub one_room_more : (passes more : List (Vec Token)) (rooms later : List (Vec Worker)) (own : Vec Token) (room : Vec Worker) → HaveRoomsFor passes rooms → more ≡ passes ++ own ∷ [] → later ≡ rooms ++ room ∷ []
    → room.items ≡ [] → length own.items ≤ vec_capacity room → HaveRoomsFor more later
one_room_more passes more rooms later own room h more_is later_is bare fits =
    let many = h.as_many in
    let long : length more ≡ length passes + 1 = ap (λ (l : List (Vec Token)). length l) more_is ∙ length-append passes (own ∷ []) in
    let wide : length later ≡ length rooms + 1 = ap (λ (l : List (Vec Worker)). length l) later_is ∙ length-append rooms (room ∷ []) in
    record {
      as_many = omega arith;
      each = λ j list found e f. ⊎_elim
          (λ (here : j ≡ length passes).
          let there : j ≡ length rooms = omega arith in
          let list_is : own ≡ list = the_one more j own list (ap (λ (l : List (Vec Token)). slice_get l j) more_is ∙ (ap (λ (n : ℕ). slice_get (passes ++ own ∷ []) n) here ∙ get_seam passes own)) e in
          let found_is : room ≡ found = the_one later j room found (ap (λ (l : List (Vec Worker)). slice_get l j) later_is ∙ (ap (λ (n : ℕ). slice_get (rooms ++ room ∷ []) n) there ∙ get_seam rooms room)) f in
          subst (λ (x : Vec Token). (found.items ≡ []) × (length x.items ≤ vec_capacity found)) list_is
          (subst (λ (x : Vec Worker). (x.items ≡ []) × (length own.items ≤ vec_capacity x)) found_is (bare, fits)))
          (λ (other : j ≢ length passes).
          let within = slice_get_within more j list e in
          h.each j list found
          (sym (get_front passes (own ∷ []) j (omega arith)) ∙ (ap (λ (l : List (Vec Token)). slice_get l j) (sym more_is) ∙ e))
          (sym (get_front rooms (room ∷ []) j (omega arith)) ∙ (ap (λ (l : List (Vec Worker)). slice_get l j) (sym later_is) ∙ f)))
          (same_or_other j (length passes));
    }

-- Filling

-- the first lists are left, and have their rooms; the crews behind are filled
pub record Filling (passes left : List (Vec Token)) (crews : List (Vec Worker)) : Type 0 where
  pub rest : List (Vec Token)
  pub is : passes ≡ left ++ rest
  pub as_many : length crews ≡ length passes
  pub waits : (j : ℕ) (own : Vec Token) (room : Vec Worker) → slice_get left j ≡ Some own → slice_get crews j ≡ Some room → (room.items ≡ []) × (length own.items ≤ vec_capacity room)
  pub filled : (j : ℕ) (own : Vec Token) (crew : Vec Worker) → length left ≤ j → slice_get passes j ≡ Some own → slice_get crews j ≡ Some crew → crew.items ≡ idle_crew own.items

pub none_filled : (passes : List (Vec Token)) (rooms : List (Vec Worker)) → HaveRoomsFor passes rooms → Filling passes passes rooms
none_filled passes rooms h = record {
  rest = [];
  is = simp append-nil;
  as_many = h.as_many;
  waits = h.each;
  filled = λ j own crew far e f. let within = slice_get_within passes j own e in absurd (omega arith);
}

-- the last of the lists that are left has its place, and the room for it
pub place_last : (passes left rest : List (Vec Token)) (list : Vec Token) (crews : List (Vec Worker)) → Filling passes left crews → left ≡ rest ++ list ∷ [] → length rest < length crews
place_last passes left rest list crews f is =
    let many = f.as_many in
    let all : length passes ≡ length left + length f.rest = ap (λ (l : List (Vec Token)). length l) f.is ∙ length-append left f.rest in
    let long : length left ≡ length rest + 1 = ap (λ (l : List (Vec Token)). length l) is ∙ length-append rest (list ∷ []) in
    omega arith

pub room_last : (passes left rest : List (Vec Token)) (list : Vec Token) (crews : List (Vec Worker)) (room : Vec Worker) → Filling passes left crews → left ≡ rest ++ list ∷ [] → slice_get crews (length rest) ≡ Some room → (room.items ≡ []) × (length list.items ≤ vec_capacity room)
room_last passes left rest list crews room f is there =
    f.waits (length rest) list room (ap (λ (l : List (Vec Token)). slice_get l (length rest)) is ∙ get_seam rest list) there

pub filled_more : (passes left rest : List (Vec Token)) (list : Vec Token) (crews later : List (Vec Worker)) (crew : Vec Worker) → Filling passes left crews → left ≡ rest ++ list ∷ [] → later ≡ slice_set crews (length rest) crew → crew.items ≡ idle_crew list.items → Filling passes rest later
filled_more passes left rest list crews later crew f is later_is crew_is =
    let place = place_last passes left rest list crews f is in
    let here : slice_get later (length rest) ≡ Some crew = ap (λ (l : List (Vec Worker)). slice_get l (length rest)) later_is ∙ get_set_same crews (length rest) crew place in
    let else_where : (j : ℕ) → j ≢ length rest → slice_get later j ≡ slice_get crews j = λ j other. ap (λ (l : List (Vec Worker)). slice_get l j) later_is ∙ get_set_other crews (length rest) j crew other in
    let all : passes ≡ rest ++ (list ∷ f.rest) = f.is ∙ (ap (λ (l : List (Vec Token)). l ++ f.rest) is ∙ simp append_assoc) in
    let long : length left ≡ length rest + 1 = ap (λ (l : List (Vec Token)). length l) is ∙ length-append rest (list ∷ []) in
    record {
      rest = list ∷ f.rest;
      is = all;
      as_many = ap (λ (l : List (Vec Worker)). length l) later_is ∙ (length-set crews (length rest) crew ∙ f.as_many);
      waits = λ j own room e g.
          let within = slice_get_within rest j own e in
          f.waits j own room (ap (λ (l : List (Vec Token)). slice_get l j) is ∙ (get_front rest (list ∷ []) j within ∙ e)) (sym (else_where j (λ same. absurd (omega arith))) ∙ g);
      filled = λ j own found far e g. ⊎_elim
          (λ (same : j ≡ length rest).
          let found_is : crew ≡ found = the_one later (length rest) crew found here (ap (λ (n : ℕ). slice_get later n) (sym same) ∙ g) in
          let own_is : list ≡ own = the_one passes (length rest) list own (ap (λ (l : List (Vec Token)). slice_get l (length rest)) all ∙ get_middle rest) (ap (λ (n : ℕ). slice_get passes n) (sym same) ∙ e) in
          ap (λ (x : Vec Worker). x.items) (sym found_is) ∙ (crew_is ∙ ap (λ (x : Vec Token). idle_crew x.items) own_is))
          (λ (other : j ≢ length rest). f.filled j own found (omega arith) e (sym (else_where j other) ∙ g))
          (same_or_other j (length rest));
    }
  where
    get_middle : (xs : List (Vec Token)) → slice_get (xs ++ (list ∷ f.rest)) (length xs) ≡ Some list
    get_middle [] = refl
    get_middle (x ∷ xs) = get_middle xs

pub all_filled : (passes left : List (Vec Token)) (crews : List (Vec Worker)) → Filling passes left crews → length left ≡ 0 → AreCrews passes crews
all_filled passes left crews f none = record { as_many = f.as_many; each = λ j own crew e g. f.filled j own crew (omega arith) e g }
