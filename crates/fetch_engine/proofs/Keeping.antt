-- What a pass keeps of its region serves as long as the generation stands.
use Rattle.std.proofs.Common.{◌≡◌, ◌≢◌, ◌⊎◌, inl, inr, ⊎_elim, ℕ, zero, suc, ◌+◌, ◌<◌, ◌≤◌, List, [], ◌∷◌, ◌++◌, length, set, take, drop, get_or, get_or-set_same, get_or-set_other, length-set, slice_index, Contains, Some, length-append, sym, refl, ap, ◌∙◌, subst, arith}
use Rattle.std.specs.List.{zip}
use Rattle.std.proofs.lemmas.List.{get_or-map, length-map, take_all, take-append-le}
use Rattle.std.proofs.lemmas.List.Sums.{fold_more}
use Rattle.std.proofs.lemmas.Slice.Zip.{get_or-zip}
use mathlib.Core.Logic.{dite}
use native.Mathlib.Decide.{ℕ_discrete}
use Rattle.mmv_layout.specs.declared.rows.Slot.{Slot}
use Rattle.mmv_layout.specs.Form.{slots_of, Form, form_of}
use Rattle.mmv_layout.specs.Rows.{layout_of}
use Rattle.region_core.specs.declared.act.Act.TheVariants.{Load}
use Rattle.region_core.specs.declared.act.Entry.{Entry}
use Rattle.region_core.specs.Shape.{IsLike}
use Rattle.region_core.specs.State.{State, word, g1, g2}
use Rattle.region_core.specs.Journal.{state_at, IsJournal}
use Rattle.region_core.specs.Readings.{Reading, IsFoundBetween, IsShownBetween}
use Rattle.region_core.proofs.Lasting.{state_longer, loads_below}
use Rattle.region_core.proofs.Positions.{mixed_at, layout_at}
use Rattle.region_rule.specs.declared.view.View.{View}
use Rattle.region_rule.specs.Views.{opening_of}
use Rattle.region_rule.specs.Steps.{Extends}
use Rattle.region_rule.specs.Reads.{WholeReading, ReadsImage, ReadsAgain, ReadsChosen, ReadsChosenAgain, ShowsIn, numbered_from}
use Rattle.region_rule.proofs.Showing.{Follows, numbered_or, length-numbered}
use Rattle.region_words.specs.Images.{mmv, mmv_laws}
use Rattle.region_words.proofs.Inside.{slots_inside, slots_below}
use Rattle.fetch_answers.specs.Numbers.{value_words}
use Rattle.fetch_engine.specs.Kept.{IsKept}
use Rattle.fetch_engine.specs.Tries.{LoadsImage, RefusesBy, ShowsBy, with_values}
use Rattle.fetch_engine.specs.Visits.{ShowsLayout, ShowsAtOnce, IsRefused}
use Rattle.fetch_engine.proofs.Tries.{again_since, one_load, opening_same, shown_since, shows_image, whole_loads, loads_follow}

-- Words that were written

length-written : (words : List ℕ) (pairs : List (ℕ × ℕ)) → length (with_values words pairs) ≡ length words
length-written words [] = refl
length-written words (x ∷ xs) = length-written (set words x.0 x.1) xs ∙ length-set words x.0 x.1

front_among : {X : Type 0} (x : X) (xs : List X) → Contains (x ∷ xs) x
front_among x xs = (0, omega arith, refl)

later_among : {X : Type 0} (x y : X) (xs : List X) → Contains xs y → Contains (x ∷ xs) y
later_among x y xs c = (suc c.0, omega (arith, c.1), c.2)

-- each word is as it was, or was written last as it is
written_either : (words : List ℕ) (pairs : List (ℕ × ℕ)) (w : ℕ) → w < length words → (slice_index (with_values words pairs) w ≡ slice_index words w) ⊎ Contains pairs (w, slice_index (with_values words pairs) w)
written_either words [] w below = inl refl
written_either words (x ∷ xs) w below =
    let next : List ℕ = set words x.0 x.1 in
    let long : length next ≡ length words = length-set words x.0 x.1 in
    ⊎_elim
    (λ (same : slice_index (with_values next xs) w ≡ slice_index next w).
    dite (ℕ_discrete w x.0)
    (λ (here : w ≡ x.0).
    let value : slice_index (with_values next xs) w ≡ x.1 = same ∙ ap (λ (k : ℕ). slice_index next k) here ∙ get_or-set_same words x.0 x.1 0 (subst (λ (k : ℕ). k < length words) here below) in
    let pair : x ≡ (w, slice_index (with_values next xs) w) = λ j. (sym here j, sym value j) in
    inr (subst (λ (y : ℕ × ℕ). Contains (x ∷ xs) y) pair (front_among x xs)))
    (λ (other : w ≢ x.0). inl (same ∙ get_or-set_other words x.0 w x.1 0 other)))
    (λ (among : Contains xs (w, slice_index (with_values next xs) w)). inr (later_among x (w, slice_index (with_values next xs) w) xs among))
    (written_either next xs w (omega arith))

-- a word that is written is among what was written, as it is in the end
written_there : (words : List ℕ) (pairs : List (ℕ × ℕ)) (k : ℕ) (d : ℕ × ℕ) → k < length pairs → (get_or pairs k d).0 < length words
    → Contains pairs ((get_or pairs k d).0, slice_index (with_values words pairs) (get_or pairs k d).0)
written_there words [] k d there below = absurd (omega arith)
written_there words (x ∷ xs) zero d there below =
    let next : List ℕ = set words x.0 x.1 in
    let long : length next ≡ length words = length-set words x.0 x.1 in
    ⊎_elim
    (λ (same : slice_index (with_values next xs) x.0 ≡ slice_index next x.0).
    let value : slice_index (with_values next xs) x.0 ≡ x.1 = same ∙ get_or-set_same words x.0 x.1 0 below in
    let pair : x ≡ (x.0, slice_index (with_values next xs) x.0) = λ j. (x.0, sym value j) in
    subst (λ (y : ℕ × ℕ). Contains (x ∷ xs) y) pair (front_among x xs))
    (λ (among : Contains xs (x.0, slice_index (with_values next xs) x.0)). later_among x (x.0, slice_index (with_values next xs) x.0) xs among)
    (written_either next xs x.0 (omega arith))
written_there words (x ∷ xs) (suc k) d there below =
    let next : List ℕ = set words x.0 x.1 in
    let long : length next ≡ length words = length-set words x.0 x.1 in
    let y : ℕ × ℕ = get_or xs k d in
    later_among x (y.0, slice_index (with_values next xs) y.0) xs (written_there next xs k d (omega arith) (omega arith))

zip_long : (xs ys : List ℕ) → length ys ≡ length xs → length (zip xs ys) ≡ length xs
zip_long [] [] same = refl
zip_long [] (y ∷ ys) same = absurd (omega arith)
zip_long (x ∷ xs) [] same = absurd (omega arith)
zip_long (x ∷ xs) (y ∷ ys) same = let rest : length (zip xs ys) ≡ length xs = zip_long xs ys (omega arith) in omega arith

-- one value more
pub written_step : (old words new indexes values : List ℕ) (k index value : ℕ) → words ≡ with_values old (take k (zip indexes values)) → k < length indexes → length values ≡ length indexes
    → index ≡ get_or indexes k index → value ≡ get_or values k value → new ≡ set words index value → new ≡ with_values old (take (k + 1) (zip indexes values))
written_step old words new indexes values k index value so_far below long i v done =
    let wide : length (zip indexes values) ≡ length indexes = zip_long indexes values long in
    let pair : get_or (zip indexes values) k (index, value) ≡ (index, value) = get_or-zip indexes values k (index, value) (omega arith) (omega arith) ∙ (λ j. (sym i j, sym v j)) in
    done ∙ ap (λ (ws : List ℕ). set ws index value) so_far ∙ ap (λ (x : ℕ × ℕ). set (with_values old (take k (zip indexes values))) x.0 x.1) (sym pair)
    ∙ sym (fold_more (λ (ws : List ℕ) (x : ℕ × ℕ). set ws x.0 x.1) old (zip indexes values) k (index, value) (omega arith))

pub written_all : (old words indexes values : List ℕ) (k : ℕ) → k ≡ length indexes → length values ≡ length indexes → words ≡ with_values old (take k (zip indexes values)) → words ≡ with_values old (zip indexes values)
written_all old words indexes values k is long done =
    let wide : length (zip indexes values) ≡ length indexes = zip_long indexes values long in
    done ∙ ap (λ (xs : List (ℕ × ℕ)). with_values old xs) (take_all k (zip indexes values) (omega arith))

-- a list in which others stand
pub refilled : (n : ℕ) (out items : List ℕ) → n ≡ length out → take n (out ++ drop (length out) items) ≡ out
refilled n out items long = take-append-le n out (drop (length out) items) (omega arith) ∙ take_all n out (omega arith)

pub wrote : (words fresh indexes others values more : List ℕ) → fresh ≡ with_values words (zip indexes values) → indexes ≡ others → values ≡ more → fresh ≡ with_values words (zip others more)
wrote words fresh indexes others values more done i v = done ∙ ap (λ (xs : List ℕ). with_values words (zip xs values)) i ∙ ap (λ (xs : List ℕ). with_values words (zip others xs)) v

-- Journals

-- a state that stands in what was seen is the same in what is seen later
state_later : (v w : View) (r : ℕ) → Follows v w → r ≤ length v.seen → state_at (opening_of v) v.seen r ≡ state_at (opening_of w) w.seen r
state_later v w r f below =
    sym (state_longer (opening_of v) v.seen f.seen.0 r below) ∙ ap (λ (es : List Entry). state_at (opening_of v) es r) (sym f.seen.1)
    ∙ ap (λ (s : State). state_at s w.seen r) (sym (opening_same v w f))

seen_later : (v w : View) → Follows v w → length v.seen ≤ length w.seen
seen_later v w f = let wide : length w.seen ≡ length v.seen + length f.seen.0 = ap length f.seen.1 ∙ length-append v.seen f.seen.0 in omega arith

-- what is kept stays so
pub kept_later : (v w : View) (words : List ℕ) → Follows v w → IsKept v words → IsKept w words
kept_later v w words f k =
    let long = seen_later v w f in
    let before = k.before in
    record {
      whole = k.whole ∙ ap (λ (xs : List ℕ). length xs) (sym f.start);
      at = k.at;
      before = omega arith;
      generation = k.generation ∙ ap (λ (s : State). g2 s) (state_later v w k.at f (omega arith));
      each = λ i below.
          let e = k.each i below in
          let low = e.1 in
          let high = e.2 in
          (e.0, low, omega arith, e.3 ∙ ap (λ (s : State). word s i) (state_later v w e.0 f (omega arith)));
    }

-- what a load of an image's word found
image_found : (v w : View) (words : List ℕ) (p q : ℕ) (form : Form) (generation : ℕ)
    → IsShownBetween mmv (opening_of v) w.seen (length v.seen) v.number (record { generation = generation; form = form; found = numbered_from 0 words }) p q
    → (i : ℕ) → i < length words → IsFoundBetween mmv (opening_of v) w.seen v.number p q (i, slice_index words i)
image_found v w words p q form generation s i below =
    let long = length-numbered 0 words in
    let same : 0 + i ≡ i = omega arith in
    subst (λ (x : ℕ × ℕ). IsFoundBetween mmv (opening_of v) w.seen v.number p q x) (numbered_or 0 words i (0, 0) below ∙ ap (λ (k : ℕ). (k, slice_index words i)) same) (s.each i (0, 0) (omega arith))

-- the generation of an image that was read stands in it
pub image_generation : (v w : View) (words : List ℕ) (r : ReadsImage mmv v words w) → slice_index words 1 ≡ r.generation
image_generation v w words r =
    let p = r.shown.0 in
    let q = r.shown.1 in
    let s = r.shown.2 in
    let wide = mmv_laws.generations words r.image in
    let high = wide.0 in
    let found = image_found v w words p q (mmv.form words) r.generation s 1 (omega arith) in
    let low = found.1 in
    let end = found.2 in
    let here = s.stretch found.0 (omega arith) (omega arith) in
    found.4 ∙ here.first

-- an image that was read is kept
pub image_kept : (v w : View) (words : List ℕ) → Follows v w → ReadsImage mmv v words w → IsKept w words
image_kept v w words f r =
    let p = r.shown.0 in
    let q = r.shown.1 in
    let s = r.shown.2 in
    let order = s.order in
    let below_p = loads_below w.seen v.number p 2 s.opens in
    let below_q = loads_below w.seen v.number q 1 s.closes in
    let same : opening_of v ≡ opening_of w = sym (opening_same v w f) in
    let here = s.stretch p (omega arith) (omega arith) in
    record {
      whole = r.whole ∙ ap (λ (xs : List ℕ). length xs) (sym f.start);
      at = p;
      before = below_p;
      generation = image_generation v w words r ∙ sym here.second ∙ ap (λ (t : State). g2 (state_at t w.seen p)) same;
      each = λ i below.
          let found = image_found v w words p q (mmv.form words) r.generation s i below in
          let low = found.1 in
          let high = found.2 in
          (found.0, omega arith, omega arith, found.4 ∙ ap (λ (t : State). word (state_at t w.seen found.0) i) same);
    }

-- Kept words with values that were read again

pub record IsRefreshed (v w : View) (words fresh : List ℕ) : Type 0 where
  pub image : mmv.IsImage fresh
  pub form : form_of fresh ≡ form_of words
  pub generation : slice_index fresh 1 ≡ slice_index words 1
  pub kept : IsKept w fresh
  pub shows : ShowsAtOnce v (layout_of fresh) w

journal_of : (v w : View) (n : ℕ) → Extends mmv v (Load 1) n w → IsJournal mmv w.start w.passes w.seen
journal_of v w n e = subst (λ (x : View). IsJournal mmv x.start x.passes x.seen) (sym e.is) e.journal

-- each slot's word is among the words that were read, with what was read of it last
slot_read : (words values fresh : List ℕ) → mmv.IsImage words → length values ≡ length (value_words words) → fresh ≡ with_values words (zip (value_words words) values)
    → (slot : Slot) → Contains (slots_of words) slot → Contains (zip (value_words words) values) (slot.word, slice_index fresh slot.word)
slot_read words values fresh image long is slot among =
    let k = among.0 in
    let there = among.1 in
    let slots : List Slot = slots_of words in
    let many : length (value_words words) ≡ length slots = length-map slots (λ (s : Slot). s.word) in
    let wide : length (zip (value_words words) values) ≡ length (value_words words) = zip_long (value_words words) values long in
    let pair : get_or (zip (value_words words) values) k (0, 0) ≡ (get_or (value_words words) k 0, get_or values k 0) = get_or-zip (value_words words) values k (0, 0) (omega arith) (omega arith) in
    let at : get_or (value_words words) k 0 ≡ slot.word = get_or-map (λ (s : Slot). s.word) slots k slot 0 there ∙ ap (λ (s : Slot). s.word) among.2 in
    let front : (get_or (zip (value_words words) values) k (0, 0)).0 ≡ slot.word = ap (λ (x : ℕ × ℕ). x.0) pair ∙ at in
    let below : slot.word < length words = subst (λ (s : Slot). s.word < length words) among.2 (slots_below words image k slot there) in
    let found = written_there words (zip (value_words words) values) k (0, 0) (omega arith) (subst (λ (n : ℕ). n < length words) (sym front) below) in
    subst (λ (ws : List ℕ). Contains (zip (value_words words) values) (slot.word, slice_index ws slot.word)) (sym is)
    (subst (λ (n : ℕ). Contains (zip (value_words words) values) (n, slice_index (with_values words (zip (value_words words) values)) n)) front found)

record Mixed (v w : View) (words fresh : List ℕ) (form : Form) : Type 0 where
  image : mmv.IsImage fresh
  form_is : form_of fresh ≡ form_of words
  shown_form : form ≡ form_of fresh
  generation : slice_index fresh 1 ≡ slice_index words 1
  kept : IsKept w fresh

-- kept words with values of a later reading of their generation are an image of their form
mixes : (v w : View) (words fresh : List ℕ) (found : List (ℕ × ℕ)) (form : Form) → Follows v w → IsJournal mmv w.start w.passes w.seen → IsKept v words → mmv.IsImage words → length fresh ≡ length words
    → ShowsIn mmv v (record { generation = slice_index words 1; form = form; found = found }) w
    → ((i : ℕ) → i < length words → (slice_index fresh i ≡ slice_index words i) ⊎ Contains found (i, slice_index fresh i))
    → Mixed v w words fresh form
mixes v w words fresh found form f journal k image long shown either =
    let reading : Reading mmv = record { generation = slice_index words 1; form = form; found = found } in
    let p = shown.0 in
    let q = shown.1 in
    let s : IsShownBetween mmv (opening_of w) w.seen (length v.seen) v.number reading p q =
    subst (λ (t : State). IsShownBetween mmv t w.seen (length v.seen) v.number reading p q) (sym (opening_same v w f)) shown.2 in
    let since = s.since in
    let order = s.order in
    let before = k.before in
    let below_q = loads_below w.seen v.number q 1 s.closes in
    let whole : length words ≡ length w.start = k.whole ∙ ap (λ (xs : List ℕ). length xs) (sym f.start) in
    let first : slice_index words 1 ≡ g2 (state_at (opening_of w) w.seen k.at) = k.generation ∙ ap (λ (t : State). g2 t) (state_later v w k.at f (omega arith)) in
    let last = s.stretch q (omega arith) (omega arith) in
    let here = s.stretch p (omega arith) (omega arith) in
    let same : g2 (state_at (opening_of w) w.seen k.at) ≡ g1 (state_at (opening_of w) w.seen q) = sym first ∙ sym last.first in
    let old : (i : ℕ) → i < length words → (r : ℕ) × (k.at ≤ r) × (r < p) × (slice_index words i ≡ word (state_at (opening_of w) w.seen r) i) = λ i below.
    let e = k.each i below in
    let high = e.2 in
    (e.0, e.1, omega arith, e.3 ∙ ap (λ (t : State). word t i) (state_later v w e.0 f (omega arith))) in
    let new : (i : ℕ) → i < length words → (r : ℕ) × (k.at ≤ r) × (r < q) × (slice_index fresh i ≡ word (state_at (opening_of w) w.seen r) i) = λ i below.
    ⊎_elim
    (λ (stays : slice_index fresh i ≡ slice_index words i).
    let e = old i below in
    let high = e.2 in
    (e.0, e.1, omega arith, stays ∙ e.3))
    (λ (among : Contains found (i, slice_index fresh i)).
    let e : IsFoundBetween mmv (opening_of w) w.seen v.number p q (i, slice_index fresh i) =
    subst (λ (x : ℕ × ℕ). IsFoundBetween mmv (opening_of w) w.seen v.number p q x) among.2 (s.each among.0 (i, slice_index fresh i) among.1) in
    let low = e.1 in
    (e.0, omega arith, e.2, e.4))
    (either i below) in
    let like : IsLike mmv (state_at (opening_of w) w.seen k.at).words fresh =
    mixed_at mmv mmv_laws w.start w.passes w.seen journal k.at q fresh (omega arith) same (long ∙ whole)
    (λ i below. let e = new i (omega arith) in let high = e.2 in (e.0, e.1, omega arith, e.3)) in
    let was : IsLike mmv (state_at (opening_of w) w.seen k.at).words words =
    mixed_at mmv mmv_laws w.start w.passes w.seen journal k.at q words (omega arith) same whole
    (λ i below. let e = old i (omega arith) in let high = e.2 in (e.0, e.1, omega arith, e.3)) in
    let stretch = layout_at mmv mmv_laws w.start w.passes w.seen journal k.at p q (omega arith) (omega arith) same in
    let wide = mmv_laws.generations words image in
    let two = wide.0 in
    let one : slice_index fresh 1 ≡ slice_index words 1 =
    (let e = new 1 (omega arith) in
    let high = e.2 in
    let middle = layout_at mmv mmv_laws w.start w.passes w.seen journal k.at e.0 q e.1 (omega arith) same in
    e.3 ∙ middle.first ∙ sym first) in
    record {
      image = like.image;
      form_is = like.form ∙ sym was.form;
      shown_form = sym here.form_is ∙ stretch.form_is ∙ sym like.form;
      generation = one;
      kept = record {
        whole = long ∙ whole;
        at = k.at;
        before = omega arith;
        generation = one ∙ first;
        each = λ i below. let e = new i (omega arith) in let high = e.2 in (e.0, e.1, omega arith, e.3);
      };
    }

pub refreshes : (v w : View) (words values fresh : List ℕ) → IsKept v words → mmv.IsImage words → length values ≡ length (value_words words) → fresh ≡ with_values words (zip (value_words words) values)
    → ReadsChosen mmv v (slice_index words 1) (value_words words) values w → IsRefreshed v w words fresh
refreshes v w words values fresh k image long is r =
    let pairs : List (ℕ × ℕ) = zip (value_words words) values in
    let f : Follows v w = loads_follow v w (whole_loads v w (slice_index words 1) (slice_index words 1) pairs r.loads) in
    let journal : IsJournal mmv w.start w.passes w.seen = journal_of r.loads.ended w (slice_index words 1) r.loads.closes in
    let wide : length fresh ≡ length words = ap (λ (xs : List ℕ). length xs) is ∙ length-written words pairs in
    let either : (i : ℕ) → i < length words → (slice_index fresh i ≡ slice_index words i) ⊎ Contains pairs (i, slice_index fresh i) = λ i below.
    subst (λ (ws : List ℕ). (slice_index ws i ≡ slice_index words i) ⊎ Contains pairs (i, slice_index ws i)) (sym is) (written_either words pairs i below) in
    let m = mixes v w words fresh pairs r.form f journal k image wide r.shown either in
    let slots : slots_of fresh ≡ slots_of words = slots_inside fresh (form_of words) m.form_is ∙ sym (slots_inside words (form_of words) refl) in
    record {
      image = m.image;
      form = m.form_is;
      generation = m.generation;
      kept = m.kept;
      shows = record {
        begun = v;
        lone = inl refl;
        generation = slice_index words 1;
        found = pairs;
        loads = r.loads;
        shows = record {
          words = fresh;
          image = m.image;
          says = refl;
          generation = slice_index words 1;
          found = pairs;
          shown = subst (λ (form : Form). ShowsIn mmv v (record { generation = slice_index words 1; form = form; found = pairs }) w) m.shown_form r.shown;
          values = λ slot among. slot_read words values fresh image long is slot (subst (λ (xs : List Slot). Contains xs slot) slots among);
        };
      };
    }

-- A load of another generation, and all words behind it

-- they show the image
anew_shows : (v u w : View) (n : ℕ) (words : List ℕ) → Extends mmv v (Load 2) n u → ReadsImage mmv u words w → ShowsAtOnce v (layout_of words) w
anew_shows v u w n words e r =
    let there : ShowsLayout u (layout_of words) w = (shows_image u w words r).shows in
    let f : Follows v u = loads_follow v u (one_load v u n e) in
    record {
      begun = u;
      lone = inr (n, e);
      generation = r.generation;
      found = numbered_from 0 words;
      loads = r.loads;
      shows = record {
        words = there.words;
        image = there.image;
        says = there.says;
        generation = there.generation;
        found = there.found;
        shown = shown_since v u w (record { generation = there.generation; form = mmv.form there.words; found = there.found }) f there.shown;
        values = there.values;
      };
    }

pub image_loads : (v w : View) (words : List ℕ) (r : ReadsImage mmv v words w) → LoadsImage v r.generation r.generation words w
image_loads v w words r = record { whole = r.whole; loads = r.loads }

pub anew_told : (kept : List ℕ) (v u w : View) (n : ℕ) (words : List ℕ) → n ≢ slice_index kept 1 → Extends mmv v (Load 2) n u → ReadsImage mmv u words w
    → ShowsAtOnce v (layout_of words) w × ShowsBy (Some kept) v words w
anew_told kept v u w n words other e r = (
  anew_shows v u w n words e r,
  record { generation = r.generation; tried = inr (record { found = n; other = other; begun = u; lone = e; image = image_loads u w words r }) },
)

-- or were refused
pub anew_refused : (kept : List ℕ) (v u w : View) (n first last : ℕ) → n ≢ slice_index kept 1 → Extends mmv v (Load 2) n u → ReadsAgain mmv u first last w → IsRefused v w × RefusesBy (Some kept) v w
anew_refused kept v u w n first last other e r =
    let f : Follows v u = loads_follow v u (one_load v u n e) in (
      record {
        begun = u;
        lone = inr (n, e);
        first = first;
        last = last;
        found = numbered_from 0 r.words;
        loads = r.loads;
        differ = r.differ;
        again = again_since v u w first last f r.again;
      },
      record {
        first = first;
        last = last;
        words = r.words;
        differ = r.differ;
        tried = inr (record { found = n; other = other; begun = u; lone = e; image = record { whole = r.whole; loads = r.loads } });
      },
    )

-- value words that were read again, and refused
pub chosen_again : (v w : View) (known first last : ℕ) (indexes : List ℕ) → ReadsChosenAgain mmv v known indexes first last w → IsRefused v w
chosen_again v w known first last indexes r = record {
  begun = v;
  lone = inl refl;
  first = first;
  last = last;
  found = zip indexes r.values;
  loads = r.loads;
  differ = r.differ;
  again = r.again;
}

pub chosen_refused : (v w : View) (words : List ℕ) (known first last : ℕ) (indexes : List ℕ) → known ≡ slice_index words 1 → indexes ≡ value_words words → ReadsChosenAgain mmv v known indexes first last w
    → IsRefused v w × RefusesBy (Some words) v w
chosen_refused v w words known first last indexes one is r = (
  chosen_again v w known first last indexes r,
  record {
    first = first;
    last = last;
    words = with_values words (zip (value_words words) r.values);
    differ = r.differ;
    tried = inl
        (record {
          values = r.values;
          long = r.whole ∙ ap (λ (xs : List ℕ). length xs) is;
          first_is = r.first_is ∙ one;
          loads = subst (λ (xs : List ℕ). WholeReading mmv v first (zip xs r.values) last w) is r.loads;
          words_are = refl;
        });
  },
)

-- value words that were read again, and shown
pub chosen_shown : (v w : View) (words values fresh : List ℕ) → length values ≡ length (value_words words) → fresh ≡ with_values words (zip (value_words words) values)
    → ReadsChosen mmv v (slice_index words 1) (value_words words) values w → ShowsBy (Some words) v fresh w
chosen_shown v w words values fresh long is r =
    record { generation = slice_index words 1; tried = inl (record { values = values; long = long; first_is = refl; loads = r.loads; words_are = is }) }
