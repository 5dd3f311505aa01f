-- Regions that were read one after another, each by its own pass.
use Rattle.std.proofs.Common.{◌≡◌, ℕ, zero, suc, ◌+◌, ◌<◌, ◌≤◌, List, [], ◌∷◌, ◌++◌, length, take, drop, get_or, set, map, add-zero, sym, refl, ap, ap₂, ◌∙◌, subst, arith}
use Rattle.std.proofs.lemmas.List.{map-append, take_more, take_more_set, take_all, length-set, drop-set-lt, get_or-drop, get_or-set_same}
use Rattle.std.specs.Prelude.{Option, None, Some, option_map, position}
use Rattle.std.proofs.lemmas.Option.{slice_get_read}
use Rattle.std.proofs.lemmas.List.Elements.{All-append, All-nil, All-cons}
use Rattle.std.proofs.lemmas.List.Folds.{fold-map}
use Rattle.pcp_base.specs.Time.{Moment}
use Rattle.pcp_base.specs.declared.result.PmResult.{PmResult}
use Rattle.pmns_core.specs.Pairs.{Pair}
use Rattle.profile_filter.specs.Kept.{Settings}
use Rattle.archive_meta.specs.declared.facts.Facts.{Facts}
use Rattle.mmv_layout.specs.Rows.{layout_of}
use Rattle.region_rule.specs.Seats.{Token}
use Rattle.fetch_answers.specs.Answers.{answer_of, facts_of}
use Rattle.fetch_answers.specs.Names.{names_of, missed_of, with_region, with_missed}
use Rattle.fetch_answers.specs.Readings.{RegionReading, reading_of}
use Rattle.fetch_engine.specs.Kept.{HasNamesOf, ReadAtKeeping, alone, kept_in, kept_of, known_at}
use Rattle.fetch_engine.specs.Servers.{IsSeated, Seated, regions_of}
use Rattle.fetch_engine.specs.Tries.{ReadsKeeping}
use Rattle.fetch_engine.specs.Visits.{IsReadBy, Visit, IsVisit, AreRead, AreReadKeeping, IsLoaded, AreLoaded, AreNamed, AreNamedBy, IsAnswered, IsFetched, IsReadIf, IsReadFor, IsReadAtKeeping, IsReadForKeeping, IsReadIfKeeping, lies_in}
use Rattle.fetch_engine.specs.declared.server.Mounted.{Mounted}
use Rattle.fetch_answers.specs.declared.names.Named.{Named}
use Rattle.fetch_answers.specs.declared.shot.Shot.{Shot}
use Rattle.fetch_engine.proofs.Holding.{kept_set, kept_there, long_kept}
use Rattle.fetch_engine.proofs.SeatPasses.{is_there, is_here}
use Rattle.fetch_engine.proofs.Tries.{unloaded, loaded_trans}

-- Loads of all passes

pub none_loaded : (tokens : List Token) → AreLoaded tokens tokens
none_loaded [] = tt
none_loaded (t ∷ ts) = (unloaded t, none_loaded ts)

-- the pass at a place has done more loads
pub loaded_at : (olds news : List Token) (i : ℕ) (d t : Token) → AreLoaded olds news → i < length news → IsLoaded (get_or news i d) t → AreLoaded olds (set news i t)
loaded_at [] [] i d t h below more = absurd (omega arith)
loaded_at [] (n ∷ ns) i d t h below more = absurd h
loaded_at (o ∷ os) [] i d t h below more = absurd h
loaded_at (o ∷ os) (n ∷ ns) zero d t h below more = (loaded_trans o n t h.0 more, h.1)
loaded_at (o ∷ os) (n ∷ ns) (suc i) d t h below more = (h.0, loaded_at os ns i d t h.1 (omega arith) more)

regions_same : (olds news : List Token) → AreLoaded olds news → regions_of news ≡ regions_of olds
regions_same [] [] h = refl
regions_same [] (n ∷ ns) h = absurd h
regions_same (o ∷ os) [] h = absurd h
regions_same (o ∷ os) (n ∷ ns) h = ap₂ (λ r rs. r ∷ rs) h.0.region (regions_same os ns h.1)

pub still_seated : (rows : List Mounted) (olds news : List Token) → IsSeated rows olds → AreLoaded olds news → IsSeated rows news
still_seated rows olds news seated h = regions_same olds news h ∙ seated

-- Visits

abbrev pub seat : List Token → List (Option (List ℕ)) → Seated
seat tokens kept = record { tokens = tokens; kept = kept; named = None }

-- with the names that are kept, which readings don't speak of
abbrev pub naming : List Token → List (Option (List ℕ)) → Option Named → Seated
naming tokens kept named = record { tokens = tokens; kept = kept; named = named }

pub named_so : (rows : List Mounted) (olds : List Token) (kolds : List (Option (List ℕ))) (readings : List RegionReading) (news : List Token) (knews : List (Option (List ℕ))) (was is : Option Named)
    → AreReadKeeping rows (seat olds kolds) readings (seat news knews) → AreReadKeeping rows (naming olds kolds was) readings (naming news knews is)
named_so rows olds kolds readings news knews was is a = record { read = a.read; kept_are = a.kept_are; keeps_are = a.keeps_are }

none_read : AreReadKeeping [] (seat [] []) [] (seat [] [])
none_read = record { read = record { visits = []; each = All-nil IsVisit; rows_are = refl; old_are = refl; readings_are = refl; new_are = refl }; kept_are = refl; keeps_are = refl }

pub one_more : (rows : List Mounted) (olds : List Token) (kolds : List (Option (List ℕ))) (readings : List RegionReading) (news : List Token) (knews : List (Option (List ℕ))) (visit : Visit)
    → AreReadKeeping rows (seat olds kolds) readings (seat news knews) → IsVisit visit
    → AreReadKeeping (rows ++ visit.row ∷ []) (seat (olds ++ visit.before ∷ []) (kolds ++ visit.kept ∷ [])) (readings ++ visit.reading ∷ []) (seat (news ++ visit.after ∷ []) (knews ++ visit.keeps ∷ []))
one_more rows olds kolds readings news knews visit a v = record {
  read = record {
    visits = a.read.visits ++ visit ∷ [];
    each = All-append IsVisit a.read.visits (visit ∷ []) a.read.each (All-cons IsVisit visit [] v (All-nil IsVisit));
    rows_are = map-append (λ (w : Visit). w.row) a.read.visits (visit ∷ []) ∙ ap (λ (xs : List Mounted). xs ++ visit.row ∷ []) a.read.rows_are;
    old_are = map-append (λ (w : Visit). w.before) a.read.visits (visit ∷ []) ∙ ap (λ (xs : List Token). xs ++ visit.before ∷ []) a.read.old_are;
    readings_are = map-append (λ (w : Visit). w.reading) a.read.visits (visit ∷ []) ∙ ap (λ (xs : List RegionReading). xs ++ visit.reading ∷ []) a.read.readings_are;
    new_are = map-append (λ (w : Visit). w.after) a.read.visits (visit ∷ []) ∙ ap (λ (xs : List Token). xs ++ visit.after ∷ []) a.read.new_are;
  };
  kept_are = map-append (λ (w : Visit). w.kept) a.read.visits (visit ∷ []) ∙ ap (λ (xs : List (Option (List ℕ))). xs ++ visit.kept ∷ []) a.kept_are;
  keeps_are = map-append (λ (w : Visit). w.keeps) a.read.visits (visit ∷ []) ∙ ap (λ (xs : List (Option (List ℕ))). xs ++ visit.keeps ∷ []) a.keeps_are;
}

-- and other names may be kept then
pub named_anew : (rows : List Mounted) (old : Seated) (readings : List RegionReading) (tokens : List Token) (kept : List (Option (List ℕ))) (was is : Option Named)
    → AreReadKeeping rows old readings (naming tokens kept was) → AreReadKeeping rows old readings (naming tokens kept is)
named_anew rows old readings tokens kept was is a = record { read = a.read; kept_are = a.kept_are; keeps_are = a.keeps_are }

-- the regions before a place were read, and the passes from there on are as they were, with what is kept
pub record HasRead (i : ℕ) (rows : List Mounted) (olds news : List Token) (kolds knews : List (Option (List ℕ))) (readings : List RegionReading) : Type 0 where
  pub read : AreReadKeeping (take i rows) (seat (take i olds) (take i kolds)) readings (seat (take i news) (take i knews))
  pub rest : drop i news ≡ drop i olds
  pub kept_rest : drop i knews ≡ drop i kolds
  pub many : length news ≡ length olds
  pub kept_many : length knews ≡ length kolds
  pub loaded : AreLoaded olds news

pub nothing_yet : (rows : List Mounted) (tokens : List Token) (kept : List (Option (List ℕ))) → HasRead 0 rows tokens tokens kept kept []
nothing_yet rows tokens kept = record { read = none_read; rest = refl; kept_rest = refl; many = refl; kept_many = refl; loaded = none_loaded tokens }

-- the pass at the place is of the region there
pub many_there : (i : ℕ) (rows : List Mounted) (olds news : List Token) (kolds knews : List (Option (List ℕ))) (readings : List RegionReading) → IsSeated rows olds → HasRead i rows olds news kolds knews readings → length news ≡ length rows
many_there i rows olds news kolds knews readings seated h = is_there rows news (still_seated rows olds news seated h.loaded)

pub one_there : (i : ℕ) (rows : List Mounted) (olds news : List Token) (kolds knews : List (Option (List ℕ))) (readings : List RegionReading) (d : Token) (e : Mounted) → IsSeated rows olds
    → HasRead i rows olds news kolds knews readings → i < length rows → (get_or news i d).region ≡ (get_or rows i e).region
one_there i rows olds news kolds knews readings d e seated h below = is_here rows news i d e (still_seated rows olds news seated h.loaded) below

next_same : {X : Type 0} (i : ℕ) (olds news : List X) (d : X) → drop i news ≡ drop i olds → get_or news i d ≡ get_or olds i d
next_same {X = X} i olds news d h =
    ap (λ (k : ℕ). get_or news k d) (sym (add-zero i)) ∙ sym (get_or-drop i news 0 d) ∙ ap (λ (xs : List X). get_or xs 0 d) h ∙ get_or-drop i olds 0 d ∙ ap (λ (k : ℕ). get_or olds k d) (add-zero i)

one_dropped : {X : Type 0} (i : ℕ) (xs : List X) → drop (suc i) xs ≡ drop 1 (drop i xs)
one_dropped zero xs = refl
one_dropped (suc i) [] = refl
one_dropped (suc i) (x ∷ xs) = one_dropped i xs

rest_same : {X : Type 0} (i : ℕ) (olds news : List X) → drop i news ≡ drop i olds → drop (suc i) news ≡ drop (suc i) olds
rest_same {X = X} i olds news h = one_dropped i news ∙ ap (λ (xs : List X). drop 1 xs) h ∙ sym (one_dropped i olds)

-- what the pass at the place has read, and what is kept of its region then
one_more_read : (i : ℕ) (rows : List Mounted) (olds news : List Token) (kolds knews : List (Option (List ℕ))) (shots : List Shot) (shot : Shot) (d : Token) (e : Mounted) (t : Token) (was is : Option (List ℕ))
    → HasRead i rows olds news kolds knews (map reading_of shots) → i < length rows → i < length news → i < length knews
    → shot.file ≡ (get_or rows i e).file → shot.cluster ≡ (get_or rows i e).cluster
    → IsReadBy (get_or news i d) (option_map layout_of shot.image) t
    → ReadsKeeping (get_or knews i was) (get_or news i d).view (option_map layout_of shot.image) is t.view
    → HasRead (i + 1) rows olds (set news i t) kolds (set knews i is) (map reading_of (shots ++ shot ∷ []))
one_more_read i rows olds news kolds knews shots shot d e t was is h row_there token_there kept_here file cluster read keeping =
    let visit : Visit = record { row = get_or rows i e; before = get_or news i d; kept = get_or knews i was; reading = reading_of shot; after = t; keeps = is } in
    let one : IsVisit visit = record { file = file; cluster = cluster; read = read; keeping = keeping } in
    let more = one_more (take i rows) (take i olds) (take i kolds) (map reading_of shots) (take i news) (take i knews) visit h.read one in
    let many = h.many in
    let kept_many = h.kept_many in
    let rows_are : take (i + 1) rows ≡ take i rows ++ get_or rows i e ∷ [] = take_more rows i e row_there in
    let olds_are : take (i + 1) olds ≡ take i olds ++ get_or news i d ∷ [] = take_more olds i d (omega arith) ∙ ap (λ (x : Token). take i olds ++ x ∷ []) (sym (next_same i olds news d h.rest)) in
    let kolds_are : take (i + 1) kolds ≡ take i kolds ++ get_or knews i was ∷ [] =
    take_more kolds i was (omega arith) ∙ ap (λ (x : Option (List ℕ)). take i kolds ++ x ∷ []) (sym (next_same i kolds knews was h.kept_rest)) in
    let readings_are : map reading_of (shots ++ shot ∷ []) ≡ map reading_of shots ++ reading_of shot ∷ [] = map-append reading_of shots (shot ∷ []) in
    let news_are : take (i + 1) (set news i t) ≡ take i news ++ t ∷ [] = take_more_set news i t token_there in
    let knews_are : take (i + 1) (set knews i is) ≡ take i knews ++ is ∷ [] = take_more_set knews i is kept_here in
    let next : suc i ≡ i + 1 = omega arith in
    record {
      read =
          subst (λ (xs : List Mounted). AreReadKeeping xs (seat (take (i + 1) olds) (take (i + 1) kolds)) (map reading_of (shots ++ shot ∷ [])) (seat (take (i + 1) (set news i t)) (take (i + 1) (set knews i is)))) (sym rows_are)
          (subst (λ (xs : List Token). AreReadKeeping (take i rows ++ get_or rows i e ∷ []) (seat xs (take (i + 1) kolds)) (map reading_of (shots ++ shot ∷ [])) (seat (take (i + 1) (set news i t)) (take (i + 1) (set knews i is)))) (sym olds_are)
          (subst (λ (ks : List (Option (List ℕ))). AreReadKeeping (take i rows ++ get_or rows i e ∷ []) (seat (take i olds ++ get_or news i d ∷ []) ks) (map reading_of (shots ++ shot ∷ [])) (seat (take (i + 1) (set news i t)) (take (i + 1) (set knews i is)))) (sym kolds_are)
          (subst (λ (xs : List RegionReading). AreReadKeeping (take i rows ++ get_or rows i e ∷ []) (seat (take i olds ++ get_or news i d ∷ []) (take i kolds ++ get_or knews i was ∷ [])) xs (seat (take (i + 1) (set news i t)) (take (i + 1) (set knews i is)))) (sym readings_are)
          (subst (λ (xs : List Token). AreReadKeeping (take i rows ++ get_or rows i e ∷ []) (seat (take i olds ++ get_or news i d ∷ []) (take i kolds ++ get_or knews i was ∷ [])) (map reading_of shots ++ reading_of shot ∷ []) (seat xs (take (i + 1) (set knews i is)))) (sym news_are)
          (subst (λ (ks : List (Option (List ℕ))). AreReadKeeping (take i rows ++ get_or rows i e ∷ []) (seat (take i olds ++ get_or news i d ∷ []) (take i kolds ++ get_or knews i was ∷ [])) (map reading_of shots ++ reading_of shot ∷ []) (seat (take i news ++ t ∷ []) ks)) (sym knews_are) more)))));
      rest = subst (λ (k : ℕ). drop k (set news i t) ≡ drop k olds) next (drop-set-lt (suc i) news i t (omega arith) ∙ rest_same i olds news h.rest);
      kept_rest = subst (λ (k : ℕ). drop k (set knews i is) ≡ drop k kolds) next (drop-set-lt (suc i) knews i is (omega arith) ∙ rest_same i kolds knews h.kept_rest);
      many = length-set news i t ∙ many;
      kept_many = length-set knews i is ∙ kept_many;
      loaded = loaded_at olds news i d t h.loaded token_there read.loaded;
    }

-- what was read of the next region is put in its place
pub next_read : (i : ℕ) (rows : List Mounted) (olds news : List Token) (kolds : List (Option (List ℕ))) (shots : List Shot) (spares : List (Option (List ℕ))) (was shot : Shot) (spare_was spare : Option (List ℕ))
    (before : Token) (row : Mounted) (after : Token)
    → HasRead i rows olds news kolds (kept_in shots spares) (map reading_of (take i shots)) → IsSeated rows olds → i < length rows → i < length shots → length spares ≡ length shots
    → before ≡ get_or news i before → row ≡ get_or rows i row → was ≡ get_or shots i was → spare_was ≡ get_or spares i spare_was
    → shot.file ≡ row.file → shot.cluster ≡ row.cluster → IsReadBy before (option_map layout_of shot.image) after
    → ReadsKeeping (kept_of was.image spare_was) before.view (option_map layout_of shot.image) (kept_of shot.image spare) after.view
    → HasRead (i + 1) rows olds (set news i after) kolds (kept_in (set shots i shot) (set spares i spare)) (map reading_of (take (i + 1) (set shots i shot)))
next_read i rows olds news kolds shots spares was shot spare_was spare before row after h seated below there long before_is row_is was_is spare_is file cluster read keeping =
    let many = many_there i rows olds news kolds (kept_in shots spares) (map reading_of (take i shots)) seated h in
    let wide = long_kept shots spares long in
    let kept_is : kept_of was.image spare_was ≡ get_or (kept_in shots spares) i None =
    ap (λ (x : Shot). kept_of x.image spare_was) was_is ∙ ap (λ (p : Option (List ℕ)). kept_of (get_or shots i was).image p) spare_is ∙ sym (kept_there shots spares i was spare_was None long there) in
    let read_here : IsReadBy (get_or news i before) (option_map layout_of shot.image) after = subst (λ (t : Token). IsReadBy t (option_map layout_of shot.image) after) before_is read in
    let keeping_here : ReadsKeeping (get_or (kept_in shots spares) i None) (get_or news i before).view (option_map layout_of shot.image) (kept_of shot.image spare) after.view =
    subst (λ (t : Token). ReadsKeeping (get_or (kept_in shots spares) i None) t.view (option_map layout_of shot.image) (kept_of shot.image spare) after.view) before_is
    (subst (λ (k : Option (List ℕ)). ReadsKeeping k before.view (option_map layout_of shot.image) (kept_of shot.image spare) after.view) kept_is keeping) in
    let next = one_more_read i rows olds news kolds (kept_in shots spares) (take i shots) shot before row after None (kept_of shot.image spare) h below (omega arith) (omega arith)
    (file ∙ ap (λ (r : Mounted). r.file) row_is) (cluster ∙ ap (λ (r : Mounted). r.cluster) row_is) read_here keeping_here in
    subst (λ (ks : List (Option (List ℕ))). HasRead (i + 1) rows olds (set news i after) kolds ks (map reading_of (take (i + 1) (set shots i shot)))) (sym (kept_set shots spares i shot spare long))
    (subst (λ (xs : List Shot). HasRead (i + 1) rows olds (set news i after) kolds (set (kept_in shots spares) i (kept_of shot.image spare)) (map reading_of xs)) (sym (take_more_set shots i shot there)) next)

-- all were read
pub all_shots_read : (rows : List Mounted) (olds news : List Token) (kolds : List (Option (List ℕ))) (shots : List Shot) (spares : List (Option (List ℕ))) (was is : Option Named) → length olds ≡ length rows → length kolds ≡ length rows → length shots ≡ length rows
    → HasRead (length rows) rows olds news kolds (kept_in shots spares) (map reading_of (take (length rows) shots)) → AreReadKeeping rows (naming olds kolds was) (map reading_of shots) (naming news (kept_in shots spares) is)
all_shots_read rows olds news kolds shots spares was is many kmany wide h =
    let n : ℕ = length rows in
    let same = h.many in
    let ksame = h.kept_many in
    let knews : List (Option (List ℕ)) = kept_in shots spares in
    named_so rows olds kolds (map reading_of shots) news knews was is
    (subst (λ (xs : List Mounted). AreReadKeeping xs (seat olds kolds) (map reading_of shots) (seat news knews)) (take_all n rows (omega arith))
    (subst (λ (xs : List Token). AreReadKeeping (take n rows) (seat xs kolds) (map reading_of shots) (seat news knews)) (take_all n olds (omega arith))
    (subst (λ (ks : List (Option (List ℕ))). AreReadKeeping (take n rows) (seat (take n olds) ks) (map reading_of shots) (seat news knews)) (take_all n kolds (omega arith))
    (subst (λ (xs : List Shot). AreReadKeeping (take n rows) (seat (take n olds) (take n kolds)) (map reading_of xs) (seat news knews)) (take_all n shots (omega arith))
    (subst (λ (xs : List Token). AreReadKeeping (take n rows) (seat (take n olds) (take n kolds)) (map reading_of (take n shots)) (seat xs knews)) (take_all n news (omega arith))
    (subst (λ (ks : List (Option (List ℕ))). AreReadKeeping (take n rows) (seat (take n olds) (take n kolds)) (map reading_of (take n shots)) (seat (take n news) ks)) (take_all n knews (omega arith)) h.read))))))

-- Answers

pub is_fetched : (rows : List Mounted) (olds : List Token) (profile : Settings) (pmids : List ℕ) (stamp : Moment) (result : PmResult) (facts : Facts) (news : List Token) (shots : List Shot)
    → length pmids ≤ 1024 → AreRead rows olds (map reading_of shots) news → result ≡ answer_of (map reading_of shots) profile pmids stamp → facts ≡ facts_of (map reading_of shots) result.sets
    → IsFetched rows olds profile pmids stamp result facts news
is_fetched rows olds profile pmids stamp result facts news shots few read answer facts_are =
    record { few = few; readings = map reading_of shots; read = read; result_is = answer; facts_are = facts_are }

pub is_answered : (rows : List Mounted) (olds : List Token) (profile : Settings) (pmids : List ℕ) (stamp : Moment) (result : PmResult) (news : List Token) (shots : List Shot)
    → length pmids ≤ 1024 → AreRead rows olds (map reading_of shots) news → result ≡ answer_of (map reading_of shots) profile pmids stamp
    → IsAnswered rows olds profile pmids stamp result news
is_answered rows olds profile pmids stamp result news shots few read answer = record { few = few; readings = map reading_of shots; read = read; result_is = answer }

pub are_named : (rows : List Mounted) (olds : List Token) (names : List Pair) (missing : List ℕ) (news : List Token) (shots : List Shot)
    → AreRead rows olds (map reading_of shots) news → names ≡ names_of shots → missing ≡ missed_of shots → AreNamed rows olds names missing news
are_named rows olds names missing news shots read names_are missing_are = record {
  readings = map reading_of shots;
  read = read;
  names_are = names_are ∙ sym (fold-map with_region reading_of [] shots);
  missing_are = missing_are ∙ sym (fold-map (λ clusters (reading : RegionReading). with_missed clusters reading.cluster reading.layout) reading_of [] shots);
}

-- and so are those that are kept
pub are_named_by : (rows : List Mounted) (olds : List Token) (named : Option Named) (news : List Token) (shots : List Shot) → AreRead rows olds (map reading_of shots) news → HasNamesOf shots named → AreNamedBy rows olds named news
are_named_by rows olds None news shots read h = absurd h
are_named_by rows olds (Some named) news shots read h = are_named rows olds named.names named.missing news shots read h.names h.missing

-- One region alone

pub none_for : (word : ℕ) (rows : List Mounted) (tokens : List Token) (kept : List (Option (List ℕ))) (named : Option Named) (known : List Shot) → position (lies_in word) rows ≡ None
    → IsReadForKeeping word rows (naming tokens kept named) (map reading_of (known_at known None)) (naming tokens kept named)
none_for word rows tokens kept named known nowhere =
    subst (λ (p : Option ℕ). IsReadIfKeeping rows (naming tokens kept named) p [] (naming tokens kept named)) (sym nowhere) (refl, refl)

pub read_there : (rows : List Mounted) (olds : List Token) (known : List Shot) (spares : List (Option (List ℕ))) (at : ℕ) (was shot : Shot) (spare_was spare : Option (List ℕ)) (before : Token) (row : Mounted) (after : Token) (named_was named_is : Option Named)
    → at < length rows → at < length olds → at < length known → length spares ≡ length known
    → before ≡ get_or olds at before → row ≡ get_or rows at row → was ≡ get_or known at was → spare_was ≡ get_or spares at spare_was
    → shot.file ≡ row.file → shot.cluster ≡ row.cluster → IsReadBy before (option_map layout_of shot.image) after
    → ReadsKeeping (kept_of was.image spare_was) before.view (option_map layout_of shot.image) (kept_of shot.image spare) after.view
    → ReadAtKeeping rows (naming olds (kept_in known spares) named_was) at (set known at shot) (naming (set olds at after) (kept_in (set known at shot) (set spares at spare)) named_is)
read_there rows olds known spares at was shot spare_was spare before row after named_was named_is row_there token_there known_there long before_is row_is was_is spare_is file cluster read keeping =
    let wide = long_kept known spares long in
    let long_known = length-set known at shot in
    let kept_is : kept_of was.image spare_was ≡ get_or (kept_in known spares) at (kept_of was.image spare_was) =
    ap (λ (x : Shot). kept_of x.image spare_was) was_is ∙ ap (λ (p : Option (List ℕ)). kept_of (get_or known at was).image p) spare_is
    ∙ sym (kept_there known spares at was spare_was (kept_of was.image spare_was) long known_there) in (
      shot,
      slice_get_read (set known at shot) (length (set known at shot)) at shot refl (omega arith) (sym (get_or-set_same known at shot shot known_there)),
      record {
        read = record {
          visit = record { row = row; before = before; kept = kept_of was.image spare_was; reading = reading_of shot; after = after; keeps = kept_of shot.image spare };
          is = record { file = file; cluster = cluster; read = read; keeping = keeping };
          row_is = slice_get_read rows (length rows) at row refl row_there row_is;
          old_is = slice_get_read olds (length olds) at before refl token_there before_is;
          readings_are = refl;
          new_are = refl;
        };
        kept_is = slice_get_read (kept_in known spares) (length (kept_in known spares)) at (kept_of was.image spare_was) refl (omega arith) kept_is;
        keeps_are = kept_set known spares at shot spare long;
      },
    )

pub one_for : (word : ℕ) (rows : List Mounted) (old : Seated) (known : List Shot) (new : Seated) (at : ℕ) → position (lies_in word) rows ≡ Some at → ReadAtKeeping rows old at known new
    → IsReadForKeeping word rows old (map reading_of (known_at known (Some at))) new
one_for word rows old known new at here (shot, there, read) =
    subst (λ (p : Option ℕ). IsReadIfKeeping rows old p (map reading_of (known_at known (Some at))) new) (sym here)
    (subst (λ (found : Option Shot). IsReadAtKeeping rows old at (map reading_of (alone found)) new) (sym there) read)

-- without what is kept
pub read_for_alone : (word : ℕ) (rows : List Mounted) (old : Seated) (readings : List RegionReading) (new : Seated) → IsReadForKeeping word rows old readings new → IsReadFor word rows old.tokens readings new.tokens
read_for_alone word rows old readings new h = if_alone (position (lies_in word) rows) h
  where
    if_alone : (o : Option ℕ) → IsReadIfKeeping rows old o readings new → IsReadIf rows old.tokens o readings new.tokens
    if_alone None h = (h.0, ap (λ (s : Seated). s.tokens) h.1)
    if_alone (Some at) h = h.read

pub loaded_for : (olds : List Token) (at : ℕ) (before after : Token) → at < length olds → before ≡ get_or olds at before → IsLoaded before after → AreLoaded olds (set olds at after)
loaded_for olds at before after below is loaded = loaded_at olds olds at before after (none_loaded olds) below (subst (λ (t : Token). IsLoaded t after) is loaded)
