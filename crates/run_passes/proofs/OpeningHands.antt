-- Dealing a pass of one region more to each seat.
use Rattle.std.proofs.Common.{◌≡◌, ℕ, zero, suc, ◌<◌, List, [], ◌∷◌, ◌++◌, length, map, replicate, Option, Some, None, ◌⊎◌, inl, inr, ⊎_elim, append_assoc, sym, refl, ap, ◌∙◌, subst, arith}
use Rattle.std.specs.Global.{Vec}
use Rattle.std.specs.Prelude.{All, slice_get}
use Rattle.std.proofs.lemmas.List.{length-map, length-replicate, map_push}
use Rattle.std.proofs.lemmas.List.Elements.{All-nil, All-cons, All-head, All-tail}
use Rattle.region_rule.specs.Seats.{Token}
use Rattle.fetch_engine.specs.Servers.{IsSeated, regions_of, regions_in}
use Rattle.fetch_engine.specs.declared.server.Mounted.{Mounted}
use Rattle.run_passes.specs.declared.opening.making.Made.{Made}
use Rattle.run_passes.specs.Makings.{HasEach, one_more, lists_of, IsDealt}

same_some : {A : Type 0} (x y : A) → Some x ≡ Some y → x ≡ y
same_some x y h = cc

not_none : {A : Type 0} (x : A) → None ≡ Some x → ⊥
not_none x h = cc

-- what stands at a position of a list with one item more
at_last : {A : Type 0} (xs : List A) (y : A) (j : ℕ) → length xs ≡ j → slice_get (xs ++ y ∷ []) j ≡ Some y
at_last [] y zero h = refl
at_last [] y (suc j) h = absurd (omega arith)
at_last (x ∷ xs) y zero h = absurd (omega arith)
at_last (x ∷ xs) y (suc j) h = at_last xs y j (omega arith)

at_front : {A : Type 0} (xs : List A) (y : A) (j : ℕ) → j < length xs → slice_get (xs ++ y ∷ []) j ≡ slice_get xs j
at_front [] y j h = absurd (omega arith)
at_front (x ∷ xs) y zero h = refl
at_front (x ∷ xs) y (suc j) h = at_front xs y j (omega arith)

at_snoc : {A : Type 0} (xs : List A) (y z : A) (j : ℕ) → slice_get (xs ++ y ∷ []) j ≡ Some z → ((j < length xs) × (slice_get xs j ≡ Some z)) ⊎ ((length xs ≡ j) × (y ≡ z))
at_snoc [] y z zero h = inr (refl, same_some y z h)
at_snoc [] y z (suc j) h = absurd (not_none z h)
at_snoc {A} (x ∷ xs) y z zero h = inl (omega arith, h)
at_snoc {A} (x ∷ xs) y z (suc j) h =
    ⊎_elim
    (λ (w : (j < length xs) × (slice_get xs j ≡ Some z)). let less = w.0 in inl (omega arith, w.1))
    (λ (w : (length xs ≡ j) × (y ≡ z)). let same = w.0 in inr (omega arith, w.1))
    (at_snoc xs y z j h)

-- ---- one pass more

as_many_more : (hands : List (List Token)) (passes : List Token) → length hands ≡ length passes → length (one_more hands passes) ≡ length hands
as_many_more [] passes h = refl
as_many_more (hand ∷ hands) [] h = absurd (omega arith)
as_many_more (hand ∷ hands) (pass ∷ passes) h = let more = as_many_more hands passes (omega arith) in omega arith

seated_more : (rows : List Mounted) (m : Mounted) (hands : List (List Token)) (passes : List Token) (n : ℕ) → regions_of passes ≡ replicate n m.region
    → All (IsSeated rows) hands → All (IsSeated (rows ++ m ∷ [])) (one_more hands passes)
seated_more rows m [] passes n same all = All-nil (IsSeated (rows ++ m ∷ []))
seated_more rows m (hand ∷ hands) [] n same all = All-nil (IsSeated (rows ++ m ∷ []))
seated_more rows m (hand ∷ hands) (pass ∷ passes) zero same all = absurd (let some : pass.region ∷ regions_of passes ≡ [] = same in cc)
seated_more rows m (hand ∷ hands) (pass ∷ passes) (suc n) same all =
    let both : pass.region ∷ regions_of passes ≡ m.region ∷ replicate n m.region = same in
    let here : pass.region ≡ m.region = cc in
    let rest : regions_of passes ≡ replicate n m.region = cc in
    let front : regions_of hand ≡ regions_in rows = All-head (IsSeated rows) hand hands all in
    All-cons (IsSeated (rows ++ m ∷ [])) (hand ++ pass ∷ []) (one_more hands passes)
    (map_push (λ (token : Token). token.region) hand pass ∙ (λ i. front i ++ here i ∷ []) ∙ sym (map_push (λ (row : Mounted). row.region) rows m))
    (seated_more rows m hands passes n rest (All-tail (IsSeated rows) hand hands all))

abbrev pub at_each : ℕ → List (List Token) → List (Option Token)
at_each j hands = map (λ (hand : List Token). slice_get hand j) hands

long : (rows : List Mounted) (hand : List Token) → IsSeated rows hand → length hand ≡ length rows
long rows hand seated =
    let tokens : length (regions_of hand) ≡ length hand = length-map hand (λ (token : Token). token.region) in
    let regions : length (regions_in rows) ≡ length rows = length-map rows (λ (row : Mounted). row.region) in
    let same : length (regions_of hand) ≡ length (regions_in rows) = ap length seated in
    omega arith

-- those of the regions before stay
stays_at : (rows : List Mounted) (j : ℕ) → j < length rows → (hands : List (List Token)) (passes : List Token) → length hands ≡ length passes → All (IsSeated rows) hands
    → at_each j (one_more hands passes) ≡ at_each j hands
stays_at rows j below [] passes h all = refl
stays_at rows j below (hand ∷ hands) [] h all = absurd (omega arith)
stays_at rows j below (hand ∷ hands) (pass ∷ passes) h all =
    let wide = long rows hand (All-head (IsSeated rows) hand hands all) in
    let here : slice_get (hand ++ pass ∷ []) j ≡ slice_get hand j = at_front hand pass j (omega arith) in
    let rest = stays_at rows j below hands passes (omega arith) (All-tail (IsSeated rows) hand hands all) in
    λ i. here i ∷ rest i

-- and each seat's pass of the region that comes is behind them
comes_at : (rows : List Mounted) (j : ℕ) → length rows ≡ j → (hands : List (List Token)) (passes : List Token) → length hands ≡ length passes → All (IsSeated rows) hands
    → map Some passes ≡ at_each j (one_more hands passes)
comes_at rows j last [] [] h all = refl
comes_at rows j last [] (pass ∷ passes) h all = absurd (omega arith)
comes_at rows j last (hand ∷ hands) [] h all = absurd (omega arith)
comes_at rows j last (hand ∷ hands) (pass ∷ passes) h all =
    let wide = long rows hand (All-head (IsSeated rows) hand hands all) in
    let here : slice_get (hand ++ pass ∷ []) j ≡ Some pass = at_last hand pass j (omega arith) in
    let rest = comes_at rows j last hands passes (omega arith) (All-tail (IsSeated rows) hand hands all) in
    λ i. sym here i ∷ rest i

none_seated : (n : ℕ) → All (IsSeated []) (replicate n [])
none_seated zero = All-nil (IsSeated [])
none_seated (suc n) = All-cons (IsSeated []) [] (replicate n []) refl (none_seated n)

-- before the first region no seat has a pass
pub none_dealt : (seats : ℕ) (hands : List (List Token)) → hands ≡ replicate seats [] → IsDealt seats [] [] [] hands
none_dealt seats hands none = record {
  regions = refl;
  own = refl;
  as_many = ap length none ∙ length-replicate seats [];
  seated = subst (λ (hs : List (List Token)). All (IsSeated []) hs) (sym none) (none_seated seats);
  each = λ j m h. absurd (not_none m h);
}

-- then each has one more
pub one_dealt : (seats : ℕ) (made : List Made) (mounted : List Mounted) (passes : List (Vec Token)) (hands dealt : List (List Token)) (m : Made)
    → IsDealt seats made mounted passes hands → HasEach seats m → dealt ≡ one_more hands m.seated.items
    → IsDealt seats (made ++ m ∷ []) (mounted ++ m.mounted ∷ []) (passes ++ m.own ∷ []) dealt
one_dealt seats made mounted passes hands dealt m before has is =
    let tokens : length (regions_of m.seated.items) ≡ length m.seated.items = length-map m.seated.items (λ (token : Token). token.region) in
    let count : length (regions_of m.seated.items) ≡ seats = ap length has ∙ length-replicate seats m.mounted.region in
    let hands_are = before.as_many in
    let even : length hands ≡ length m.seated.items = omega arith in
    let rows : length mounted ≡ length made = ap length before.regions ∙ length-map made (λ (m : Made). m.mounted) in
    let more = as_many_more hands m.seated.items even in
    let size : length dealt ≡ length (one_more hands m.seated.items) = ap length is in
    record {
      regions = ap (λ (rs : List Mounted). rs ++ m.mounted ∷ []) before.regions ∙ sym (map_push (λ (m : Made). m.mounted) made m);
      own = ap (λ (ps : List (Vec Token)). ps ++ m.own ∷ []) before.own ∙ sym (map_push (λ (m : Made). m.own) made m);
      as_many = omega arith;
      seated = subst (λ (hs : List (List Token)). All (IsSeated (mounted ++ m.mounted ∷ [])) hs) (sym is) (seated_more mounted m.mounted hands m.seated.items seats has before.seated);
      each = λ j n h.
          subst (λ (hs : List (List Token)). map Some n.seated.items ≡ at_each j hs) (sym is)
          (⊎_elim
          (λ (w : (j < length made) × (slice_get made j ≡ Some n)). let less = w.0 in before.each j n w.1 ∙ sym (stays_at mounted j (omega arith) hands m.seated.items even before.seated))
          (λ (w : (length made ≡ j) × (m ≡ n)). let last = w.0 in
          subst (λ (n : Made). map Some n.seated.items ≡ at_each j (one_more hands m.seated.items)) w.1 (comes_at mounted j (omega arith) hands m.seated.items even before.seated))
          (at_snoc made m n j h));
    }

-- the same, where the new lists are known by what they are
pub region_dealt : (seats : ℕ) (made : List Made) (mounted rows : List Mounted) (passes own : List (Vec Token)) (hands dealt : List (List Token)) (m : Made)
    → IsDealt seats made mounted passes hands → HasEach seats m → rows ≡ mounted ++ m.mounted ∷ [] → own ≡ passes ++ m.own ∷ [] → dealt ≡ one_more hands m.seated.items
    → IsDealt seats (made ++ m ∷ []) rows own dealt
region_dealt seats made mounted rows passes own hands dealt m before has rows_are own_are is =
    subst (λ (rs : List Mounted). IsDealt seats (made ++ m ∷ []) rs own dealt) (sym rows_are)
    (subst (λ (ps : List (Vec Token)). IsDealt seats (made ++ m ∷ []) (mounted ++ m.mounted ∷ []) ps dealt) (sym own_are) (one_dealt seats made mounted passes hands dealt m before has is))

-- as many hands as passes
pub even : (seats : ℕ) (hands : List (Vec Token)) (m : Made) → length (lists_of hands) ≡ seats → HasEach seats m → length hands ≡ length m.seated.items
even seats hands m count has =
    let tokens : length (regions_of m.seated.items) ≡ length m.seated.items = length-map m.seated.items (λ (token : Token). token.region) in
    let each : length (regions_of m.seated.items) ≡ seats = ap length has ∙ length-replicate seats m.mounted.region in
    let lists : length (lists_of hands) ≡ length hands = length-map hands (λ (hand : Vec Token). hand.items) in
    omega arith

-- what holds of all items holds of the one that comes next
next_one : {A : Type 0} (P : A → Type 0) (before : List A) (x : A) (rest : List A) → All P (before ++ x ∷ rest) → P x
next_one P [] x rest all = All-head P x rest all
next_one P (y ∷ before) x rest all = next_one P before x rest (All-tail P y (before ++ x ∷ rest) all)

pub holds_next : {A : Type 0} (P : A → Type 0) (items before left : List A) (x : A) (rest : List A) → items ≡ before ++ left → left ≡ x ∷ rest → All P items → P x
holds_next {A} P items before left x rest e f all = next_one P before x rest (subst (λ (xs : List A). All P xs) (e ∙ ap (λ (xs : List A). before ++ xs) f) all)

next_list : (P : List Token → Type 0) (before : List (Vec Token)) (x : Vec Token) (rest : List (Vec Token)) → All P (lists_of (before ++ x ∷ rest)) → P x.items
next_list P [] x rest all = All-head P x.items (lists_of rest) all
next_list P (y ∷ before) x rest all = next_list P before x rest (All-tail P y.items (lists_of (before ++ x ∷ rest)) all)

pub holds_next_list : (P : List Token → Type 0) (items before left : List (Vec Token)) (x : Vec Token) (rest : List (Vec Token)) → items ≡ before ++ left → left ≡ x ∷ rest → All P (lists_of items) → P x.items
holds_next_list P items before left x rest e f all = next_list P before x rest (subst (λ (xs : List (Vec Token)). All P (lists_of xs)) (e ∙ ap (λ (xs : List (Vec Token)). before ++ xs) f) all)

-- one item more of an iterator's
pub yields_more : {A : Type 0} (items before left : List A) (x : A) (rest : List A) → items ≡ before ++ left → left ≡ x ∷ rest → items ≡ (before ++ x ∷ []) ++ rest
yields_more {A} items before left x rest e f = e ∙ ap (λ (xs : List A). before ++ xs) f ∙ sym (append_assoc before (x ∷ []) rest)
