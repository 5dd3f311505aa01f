-- The regions of a script as a server: it can't refuse them, and in ascending cluster they stand as it has them.
use Rattle.std.proofs.Common.{◌≡◌, ℕ, zero, suc, ◌+◌, ◌<◌, ◌≤◌, Bool, true, false, not, cond, ◌||◌, nat_eq, List, [], ◌∷◌, ◌++◌, length, map, take, get_or, All, Decides, Option, Some, None, ◌⊎◌, inl, inr, ⊎_elim, bytes_eq, append_assoc, sym, refl, ap, ◌∙◌, subst, arith}
use Rattle.std.specs.Prelude.{nat_lt, slice_get, slice_index_or, Contains, IsPermutation}
use Rattle.std.specs.List.{AllZip, IsDistinct, AllByRecursion, list_any, list_all}
use Rattle.std.specs.List.Sorted.{IsNonDecreasingBy}
use Rattle.std.specs.Option.{option_map}
use Rattle.std.proofs.lemmas.Bool.{le-ltb, and_from}
use Rattle.std.proofs.lemmas.Bool.Decides.{same_from_decides, Decides-eqb}
use Rattle.std.proofs.lemmas.List.{length-map, map_push, take_more}
use Rattle.std.proofs.lemmas.List.Elements.{All-nil, All-cons, All-head, All-tail}
use Rattle.std.proofs.lemmas.List.Sorted.{All-permutation, Contains-permutation, IsPermutation-refl, IsPermutation-sym, length_permutation}
use Rattle.std.proofs.lemmas.Map.Keys.{IsDistinct-head, IsDistinct-tail, IsDistinct-from_apart, IsDistinct-IsPermutation}
use Rattle.std.proofs.lemmas.Option.{slice_get-get_or}
use Rattle.std.proofs.lemmas.Slice.Eq.{bytes_eq-Decides}
use Rattle.pcp_base.specs.Names.{is_letter, is_name_byte, IsComponent, spells_component}
use Rattle.mmv_layout.specs.Contents.{cluster_in}
use Rattle.fetch_engine.specs.Servers.{has_cluster, has_wrong_cluster, has_file, has_wrong_file, wrong_cluster, wrong_file, fault_of_file, fault_of_cluster, server_fault, RowsAscendFrom, IsServer, IsServerOf}
use Rattle.fetch_engine.specs.declared.server.Mounted.{Mounted}
use Rattle.fetch_engine.specs.declared.server.ServerFault.TheVariants.{TooMany}
use Rattle.fetch_engine.proofs.Served.{is_served}
use Rattle.run_script.specs.declared.script.RegionRow.{RegionRow}
use Rattle.run_script.specs.declared.script.Script.{Script}
use Rattle.run_script.specs.Rules as rules
use Rattle.run_script.specs.Rules.{KeepsRules, IsRegion}
use Rattle.script_runs.specs.Regions.{words_or_none}
use Rattle.run_passes.specs.declared.opening.making.Made.{Made}
use Rattle.run_passes.specs.Makings.{IsMadeFor, AreMadeInOrder}

-- ---- lists item by item

pub zip_left : {A B : Type 0} (R : A → B → Type 0) (xs : List A) (ys : List B) → AllZip R xs ys → (i : ℕ) (x : A) → slice_get xs i ≡ Some x → (y : B) × (slice_get ys i ≡ Some y) × R x y
zip_left R [] [] h i x e = absurd (let none : None ≡ Some x = e in cc)
zip_left R [] (y ∷ ys) h i x e = absurd h
zip_left R (a ∷ xs) [] h i x e = absurd h
zip_left R (a ∷ xs) (b ∷ ys) h zero x e = let same : a ≡ x = cc in (b, refl, subst (λ z. R z b) same h.0)
zip_left R (a ∷ xs) (b ∷ ys) h (suc i) x e = zip_left R xs ys h.1 i x e

pub zip_right : {A B : Type 0} (R : A → B → Type 0) (xs : List A) (ys : List B) → AllZip R xs ys → (i : ℕ) (y : B) → slice_get ys i ≡ Some y → (x : A) × (slice_get xs i ≡ Some x) × R x y
zip_right R [] [] h i y e = absurd (let none : None ≡ Some y = e in cc)
zip_right R [] (b ∷ ys) h i y e = absurd h
zip_right R (a ∷ xs) [] h i y e = absurd h
zip_right R (a ∷ xs) (b ∷ ys) h zero y e = let same : b ≡ y = cc in (a, refl, subst (λ z. R a z) same h.0)
zip_right R (a ∷ xs) (b ∷ ys) h (suc i) y e = zip_right R xs ys h.1 i y e

pub all_right : {A B : Type 0} (R : A → B → Type 0) (Q : B → Type 0) (xs : List A) (ys : List B) → AllZip R xs ys → ((i : ℕ) (x : A) (y : B) → slice_get xs i ≡ Some x → R x y → Q y) → All Q ys
all_right R Q [] [] h f = All-nil Q
all_right R Q [] (b ∷ ys) h f = absurd h
all_right R Q (a ∷ xs) [] h f = absurd h
all_right R Q (a ∷ xs) (b ∷ ys) h f = All-cons Q b ys (f 0 a b refl h.0) (all_right R Q xs ys h.1 (λ i x y e r. f (suc i) x y e r))

zip_length : {A B : Type 0} (R : A → B → Type 0) (xs : List A) (ys : List B) → AllZip R xs ys → length xs ≡ length ys
zip_length R [] [] h = refl
zip_length R [] (b ∷ ys) h = absurd h
zip_length R (a ∷ xs) [] h = absurd h
zip_length R (a ∷ xs) (b ∷ ys) h = let rest = zip_length R xs ys h.1 in omega arith

zip_snoc : {A B : Type 0} (R : A → B → Type 0) (xs : List A) (ys : List B) (x : A) (y : B) → AllZip R xs ys → R x y → AllZip R (xs ++ x ∷ []) (ys ++ y ∷ [])
zip_snoc R [] [] x y h r = (r, tt)
zip_snoc R [] (b ∷ ys) x y h r = absurd h
zip_snoc R (a ∷ xs) [] x y h r = absurd h
zip_snoc R (a ∷ xs) (b ∷ ys) x y h r = (h.0, zip_snoc R xs ys x y h.1 r)

-- one item more of the first list
pub zip_more : {A B : Type 0} (R : A → B → Type 0) (xs rows : List A) (ys zs : List B) (i : ℕ) (x : A) (y : B) → rows ≡ xs → i < length rows → x ≡ get_or rows i x → AllZip R (take i xs) ys → zs ≡ ys ++ y ∷ [] → R x y
    → AllZip R (take (i + 1) xs) zs
zip_more {A} {B} R xs rows ys zs i x y same below is h more r =
    let within : i < length xs = let count : length rows ≡ length xs = ap length same in omega arith in
    let here : take (i + 1) xs ≡ take i xs ++ x ∷ [] = take_more xs i x within ∙ ap (λ (z : A). take i xs ++ z ∷ []) (sym (is ∙ ap (λ (zs : List A). get_or zs i x) same)) in
    subst (λ (zs : List B). AllZip R (take (i + 1) xs) zs) (sym more) (subst (λ (front : List A). AllZip R front (ys ++ y ∷ [])) (sym here) (zip_snoc R (take i xs) ys x y h r))

-- ---- keys that stand once

abbrev pub mounted_of : List Made → List Mounted
mounted_of made = map (λ (m : Made). m.mounted) made

abbrev same_cluster : Made → Made → Bool
same_cluster a b = nat_eq a.mounted.cluster b.mounted.cluster

abbrev same_file : Made → Made → Bool
same_file a b = bytes_eq a.mounted.file b.mounted.file

cluster_decides : (a b : Made) → Decides (same_cluster a b) (a.mounted.cluster ≡ b.mounted.cluster)
cluster_decides a b = Decides-eqb a.mounted.cluster b.mounted.cluster

file_decides : (a b : Made) → Decides (same_file a b) (a.mounted.file ≡ b.mounted.file)
file_decides a b = bytes_eq-Decides a.mounted.file b.mounted.file

differ : {P : Type 0} (r : Bool) → Decides r P → (P → ⊥) → r ≡ false
differ true d not_so = absurd (not_so (d.0 refl))
differ false d not_so = refl

or_none : (a b : Bool) → a ≡ false → b ≡ false → (a || b) ≡ false
or_none true b e f = absurd (let wrong : true ≡ false = e in cc)
or_none false b e f = f

at_middle : (P : Made → Type 0) (before : List Made) (m : Made) (rows : List Made) → AllByRecursion P (before ++ m ∷ rows) → P m
at_middle P [] m rows h = h.0
at_middle P (x ∷ before) m rows h = at_middle P before m rows h.1

module _ {K : Type 0} (key : Made → K) (e : Made → Made → Bool) (decides : (a b : Made) → Decides (e a b) (key a ≡ key b)) where
  flips : (a b : Made) → e a b ≡ e b a
  flips a b = same_from_decides (e a b) (e b a) (decides a b) ((λ h. sym ((decides b a).0 h)), λ h. (decides b a).1 (sym h))

  once : (given made : List Made) → IsPermutation given made → ((i j : ℕ) (a b : Made) → i < j → slice_get given i ≡ Some a → slice_get given j ≡ Some b → key a ≡ key b → ⊥) → IsDistinct e made
  once given made same apart =
      IsDistinct-IsPermutation e flips given made same
      (IsDistinct-from_apart e given
      (λ i j d less below. differ (e (get_or given i d) (get_or given j d)) (decides (get_or given i d) (get_or given j d))
      (apart i j (get_or given i d) (get_or given j d) less (slice_get-get_or given i d (omega arith)) (slice_get-get_or given j d below))))

  none_before : (m : Made) (test : Mounted → Bool) → ((a : Made) → e a m ≡ false → test a.mounted ≡ false) → (before rows : List Made) → IsDistinct e (before ++ m ∷ rows) → list_any test (mounted_of before) ≡ false
  none_before m test is [] rows h = refl
  none_before m test is (a ∷ before) rows h =
      or_none (test a.mounted) (list_any test (mounted_of before)) (is a (at_middle (λ b. e a b ≡ false) before m rows (IsDistinct-head e a (before ++ m ∷ rows) h)))
      (none_before m test is before rows (IsDistinct-tail e a (before ++ m ∷ rows) h))

  further : (before : List Made) (m : Made) (rows : List Made) → IsDistinct e (before ++ m ∷ rows) → IsDistinct e ((before ++ m ∷ []) ++ rows)
  further before m rows h = subst (λ (ms : List Made). IsDistinct e ms) (sym (append_assoc before (m ∷ []) rows)) h

no_wrong_cluster : (before rows : List Made) → IsDistinct same_cluster (before ++ rows) → All (λ (m : Made). m.mounted.cluster ≤ 4095) rows → wrong_cluster (mounted_of before) (mounted_of rows) ≡ None
no_wrong_cluster before [] h low = refl
no_wrong_cluster before (m ∷ rows) h low =
    let small : m.mounted.cluster ≤ 4095 = All-head (λ (m : Made). m.mounted.cluster ≤ 4095) m rows low in
    let none : has_cluster (mounted_of before) m.mounted.cluster ≡ false =
    none_before (λ (m : Made). m.mounted.cluster) same_cluster cluster_decides m (λ (row : Mounted). nat_eq row.cluster m.mounted.cluster) (λ a q. q) before rows h in
    let right : has_wrong_cluster (mounted_of before) m.mounted ≡ false = or_none (nat_lt 4095 m.mounted.cluster) (has_cluster (mounted_of before) m.mounted.cluster) (le-ltb 4095 m.mounted.cluster small) none in
    ap (λ (b : Bool). cond b (Some m.mounted.cluster) (wrong_cluster (mounted_of before ++ m.mounted ∷ []) (mounted_of rows))) right
    ∙ ap (λ (bs : List Mounted). wrong_cluster bs (mounted_of rows)) (sym (map_push (λ (m : Made). m.mounted) before m))
    ∙ no_wrong_cluster (before ++ m ∷ []) rows (further (λ (m : Made). m.mounted.cluster) same_cluster cluster_decides before m rows h) (All-tail (λ (m : Made). m.mounted.cluster ≤ 4095) m rows low)

no_wrong_file : (before rows : List Made) → IsDistinct same_file (before ++ rows) → All (λ (m : Made). spells_component m.mounted.file ≡ true) rows → wrong_file (mounted_of before) (mounted_of rows) ≡ None
no_wrong_file before [] h named = refl
no_wrong_file before (m ∷ rows) h named =
    let spelled : spells_component m.mounted.file ≡ true = All-head (λ (m : Made). spells_component m.mounted.file ≡ true) m rows named in
    let none : has_file (mounted_of before) m.mounted.file ≡ false =
    none_before (λ (m : Made). m.mounted.file) same_file file_decides m (λ (row : Mounted). bytes_eq row.file m.mounted.file) (λ a q. q) before rows h in
    let right : has_wrong_file (mounted_of before) m.mounted ≡ false = or_none (not (spells_component m.mounted.file)) (has_file (mounted_of before) m.mounted.file) (ap not spelled) none in
    ap (λ (b : Bool). cond b (Some (length (mounted_of before))) (wrong_file (mounted_of before ++ m.mounted ∷ []) (mounted_of rows))) right
    ∙ ap (λ (bs : List Mounted). wrong_file bs (mounted_of rows)) (sym (map_push (λ (m : Made). m.mounted) before m))
    ∙ no_wrong_file (before ++ m ∷ []) rows (further (λ (m : Made). m.mounted.file) same_file file_decides before m rows h) (All-tail (λ (m : Made). spells_component m.mounted.file ≡ true) m rows named)

no_fault : (rows : List Mounted) → length rows ≤ 64 → wrong_cluster [] rows ≡ None → wrong_file [] rows ≡ None → server_fault rows ≡ None
no_fault rows few clusters files =
    ap (λ (b : Bool). cond b (Some (TooMany (length rows))) (fault_of_cluster (fault_of_file (wrong_file [] rows)) (wrong_cluster [] rows))) (le-ltb 64 (length rows) few)
    ∙ ap (λ (o : Option ℕ). fault_of_cluster (fault_of_file (wrong_file [] rows)) o) clusters
    ∙ ap (λ (o : Option ℕ). fault_of_cluster (fault_of_file o) None) files

-- ---- the rules of a script

is_component : (bytes : List ℕ) → IsComponent bytes → spells_component bytes ≡ true
is_component [] h = absurd h
is_component (b ∷ bs) h = and_from (is_letter b) (list_all is_name_byte bs) h.0 h.1

cluster_found : (o : Option (List ℕ × List ℕ)) (image : List ℕ × List ℕ) (cluster : ℕ) → o ≡ Some image → cluster ≡ cluster_in (words_or_none o) → option_map (λ (image : List ℕ × List ℕ). cluster_in image.1) o ≡ Some cluster
cluster_found None image cluster e h = absurd (cc)
cluster_found (Some found) image cluster e h = ap Some (sym h)

module _ (script : Script) (seats : ℕ) (ruled : KeepsRules script) where
  cluster_is : (i : ℕ) (row : RegionRow) (m : Made) → slice_get script.regions i ≡ Some row → IsMadeFor script seats row m → rules.cluster_of script.images row ≡ Some m.mounted.cluster
  cluster_is i row m there made =
      let opens = (ruled.opened i row there).opens in
      cluster_found (slice_get script.images row.image) opens.0 m.mounted.cluster opens.1 made.serves.cluster

  module _ (given : List Made) (each : AllZip (IsMadeFor script seats) script.regions given) where
    clusters_apart : (i j : ℕ) (a b : Made) → i < j → slice_get given i ≡ Some a → slice_get given j ≡ Some b → a.mounted.cluster ≡ b.mounted.cluster → ⊥
    clusters_apart i j a b less at_a at_b same =
        let (x, there_x, made_x) = zip_right (IsMadeFor script seats) script.regions given each i a at_a in
        let (y, there_y, made_y) = zip_right (IsMadeFor script seats) script.regions given each j b at_b in
        ruled.clusters i j x y less there_x there_y (cluster_is i x a there_x made_x ∙ ap Some same ∙ sym (cluster_is j y b there_y made_y))

    files_apart : (i j : ℕ) (a b : Made) → i < j → slice_get given i ≡ Some a → slice_get given j ≡ Some b → a.mounted.file ≡ b.mounted.file → ⊥
    files_apart i j a b less at_a at_b same =
        let (x, there_x, made_x) = zip_right (IsMadeFor script seats) script.regions given each i a at_a in
        let (y, there_y, made_y) = zip_right (IsMadeFor script seats) script.regions given each j b at_b in
        ruled.files i j x y less there_x there_y (sym made_x.serves.file ∙ same ∙ made_y.serves.file)

    all_low : All (λ (m : Made). m.mounted.cluster ≤ 4095) given
    all_low = all_right (IsMadeFor script seats) (λ (m : Made). m.mounted.cluster ≤ 4095) script.regions given each (λ i x m there made. made.low)

    all_named : All (λ (m : Made). spells_component m.mounted.file ≡ true) given
    all_named = all_right (IsMadeFor script seats) (λ (m : Made). spells_component m.mounted.file ≡ true) script.regions given each
        (λ i x m there made. ap spells_component made.serves.file ∙ is_component x.file (ruled.opened i x there).name)

pub as_many_made : (script : Script) (seats : ℕ) (made : List Made) → AreMadeInOrder script seats made → length made ≡ length script.regions
as_many_made script seats made all = length_permutation all.given made all.same ∙ sym (zip_length (IsMadeFor script seats) script.regions all.given all.each)

-- a server can't refuse the regions of a script
pub faultless : (script : Script) (seats : ℕ) (made : List Made) → KeepsRules script → AreMadeInOrder script seats made → server_fault (mounted_of made) ≡ None
faultless script seats made ruled all =
    let count = as_many_made script seats made all in
    let rows : length (mounted_of made) ≡ length made = length-map made (λ (m : Made). m.mounted) in
    let few = ruled.few in
    no_fault (mounted_of made) (omega arith)
    (no_wrong_cluster [] made
    (once (λ (m : Made). m.mounted.cluster) same_cluster cluster_decides all.given made all.same (clusters_apart script seats ruled all.given all.each))
    (All-permutation (λ (m : Made). m.mounted.cluster ≤ 4095) all.given made all.same (all_low script seats ruled all.given all.each)))
    (no_wrong_file [] made
    (once (λ (m : Made). m.mounted.file) same_file file_decides all.given made all.same (files_apart script seats ruled all.given all.each))
    (All-permutation (λ (m : Made). spells_component m.mounted.file ≡ true) all.given made all.same (all_named script seats ruled all.given all.each)))

-- ---- one order

in_front : (y : Mounted) (ys : List Mounted) (z : Mounted) (k : ℕ) → k < length (y ∷ ys) → slice_index_or (y ∷ ys) k z ≡ z → (y ≡ z) ⊎ Contains ys z
in_front y ys z zero below e = inl e
in_front y ys z (suc k) below e = inr (k, omega arith, e)

above : (least : ℕ) (rows : List Mounted) (z : Mounted) (k : ℕ) → RowsAscendFrom least rows → k < length rows → slice_index_or rows k z ≡ z → least ≤ z.cluster
above least [] z k rise below e = absurd (omega arith)
above least (row ∷ rows) z zero rise below e = subst (λ (r : Mounted). least ≤ r.cluster) e rise.0
above least (row ∷ rows) z (suc k) rise below e =
    let first : least ≤ row.cluster = rise.0 in
    let later : row.cluster + 1 ≤ z.cluster = above (row.cluster + 1) rows z k rise.1 (omega arith) e in
    omega arith

-- lists of the same regions in strictly ascending cluster are one
one_order : (least : ℕ) (xs ys : List Mounted) → RowsAscendFrom least xs → RowsAscendFrom least ys → ((z : Mounted) → Contains xs z → Contains ys z) → ((z : Mounted) → Contains ys z → Contains xs z) → xs ≡ ys
one_order least [] [] rise_x rise_y to from = refl
one_order least [] (y ∷ ys) rise_x rise_y to from = absurd (let below = (from y (0, omega arith, refl)).1 in omega arith)
one_order least (x ∷ xs) [] rise_x rise_y to from = absurd (let below = (to x (0, omega arith, refl)).1 in omega arith)
one_order least (x ∷ xs) (y ∷ ys) rise_x rise_y to from =
    let at_x = to x (0, omega arith, refl) in
    let at_y = from y (0, omega arith, refl) in
    let same : x ≡ y =
    ⊎_elim (λ (e : y ≡ x). sym e)
    (λ (in_ys : Contains ys x). ⊎_elim (λ (e : x ≡ y). e)
    (λ (in_xs : Contains xs y). absurd (
    let up : y.cluster + 1 ≤ x.cluster = above (y.cluster + 1) ys x in_ys.0 rise_y.1 in_ys.1 in_ys.2 in
    let down : x.cluster + 1 ≤ y.cluster = above (x.cluster + 1) xs y in_xs.0 rise_x.1 in_xs.1 in_xs.2 in
    omega arith))
    (in_front x xs y at_y.0 at_y.1 at_y.2))
    (in_front y ys x at_x.0 at_x.1 at_x.2) in
    let rise : RowsAscendFrom (x.cluster + 1) ys = subst (λ (r : Mounted). RowsAscendFrom (r.cluster + 1) ys) (sym same) rise_y.1 in
    let rest : xs ≡ ys = one_order (x.cluster + 1) xs ys rise_x.1 rise
    (λ z in_xs. let at_z = to z (suc in_xs.0, (let less = in_xs.1 in omega arith), in_xs.2) in
    ⊎_elim (λ (e : y ≡ z). absurd (let high : x.cluster + 1 ≤ z.cluster = above (x.cluster + 1) xs z in_xs.0 rise_x.1 in_xs.1 in_xs.2 in
    let here : x.cluster ≡ z.cluster = ap (λ (r : Mounted). r.cluster) (same ∙ e) in omega arith))
    (λ (in_ys : Contains ys z). in_ys) (in_front y ys z at_z.0 at_z.1 at_z.2))
    (λ z in_ys. let at_z = from z (suc in_ys.0, (let less = in_ys.1 in omega arith), in_ys.2) in
    ⊎_elim (λ (e : x ≡ z). absurd (let high : y.cluster + 1 ≤ z.cluster = above (y.cluster + 1) ys z in_ys.0 rise_y.1 in_ys.1 in_ys.2 in
    let here : y.cluster ≡ z.cluster = ap (λ (r : Mounted). r.cluster) (sym same ∙ e) in omega arith))
    (λ (in_xs : Contains xs z). in_xs) (in_front x xs z at_z.0 at_z.1 at_z.2)) in
    λ i. same i ∷ rest i

-- so a server leaves regions in ascending cluster as they stand
pub same_order : (given rows : List Mounted) → IsNonDecreasingBy (λ (row : Mounted). row.cluster) given → IsServerOf given rows → rows ≡ given
same_order given rows rise server =
    one_order 0 rows given server.server.ascend (is_served given given server.faultless (IsPermutation-refl given) rise).server.ascend
    (λ z in_rows. Contains-permutation rows given z (IsPermutation-sym given rows server.same) in_rows)
    (λ z in_given. Contains-permutation given rows z server.same in_given)

pub in_order : (rows : List Mounted) → server_fault rows ≡ None → IsNonDecreasingBy (λ (row : Mounted). row.cluster) rows → IsServer rows
in_order rows none rise = (is_served rows rows none (IsPermutation-refl rows) rise).server
