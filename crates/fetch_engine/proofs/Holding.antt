-- What passes keep of their regions, through loads and notes.
use Rattle.std.proofs.Common.{◌≡◌, ◌≢◌, ℕ, zero, suc, ◌<◌, List, [], ◌∷◌, length, map, set, get_or, get_or-set_same, get_or-set_other, length-set, slice_index, All, Option, Some, None, sym, refl, ap, ◌∙◌, subst, arith}
use Rattle.std.specs.Prelude.{IfSome}
use mathlib.Core.Logic.{dite}
use native.Mathlib.Decide.{ℕ_discrete}
use Rattle.std.specs.List.{zip}
use Rattle.mmv_layout.specs.declared.rows.Layout.{Layout}
use Rattle.mmv_layout.specs.declared.rows.Slot.{Slot}
use Rattle.mmv_layout.specs.Form.{slots_of, form_of}
use Rattle.mmv_layout.specs.Rows.{layout_of}
use Rattle.region_core.specs.declared.mode.Mode.TheVariants.{Idle}
use Rattle.region_rule.specs.declared.fault.ReadFault.{ReadFault}
use Rattle.region_rule.specs.declared.fault.ReadFault.TheVariants.{Again as Crossed, NoMemory}
use Rattle.region_rule.specs.declared.fault.ValueFault.{ValueFault}
use Rattle.region_rule.specs.declared.fault.ValueFault.TheVariants.{Newer, Again}
use Rattle.region_rule.specs.declared.view.View.{View}
use Rattle.region_rule.specs.Calls.{Learns, Gathers}
use Rattle.region_rule.specs.Reads.{ReadsImage, ReadsAgain, ReadsNot, StaysIdle, ReadsChosen, ReadsChosenNot, numbered_from}
use Rattle.region_rule.specs.Seats.{Token, MadeRegion, IsSame}
use Rattle.region_rule.proofs.Showing.{Follows}
use Rattle.region_words.specs.Images.{mmv}
use Rattle.region_words.proofs.Inside.{slots_below}
use Rattle.fetch_answers.specs.Numbers.{value_words}
use Rattle.fetch_engine.specs.Kept.{IsKeptBy, AreKept, AreUnknown, HaveOneForm, ReadsAgainBy, ShowsTold, TryFails, TryStays, ValuesFail, WholeFails, kept_in, kept_of}
use Rattle.fetch_engine.specs.Servers.{none_kept}
use Rattle.fetch_engine.specs.Tries.{ReadsKeeping, RefusesBy, with_values}
use Rattle.fetch_engine.specs.Visits.{IsLoaded, IsRefused}
use Rattle.fetch_engine.specs.declared.server.Mounted.{Mounted}
use Rattle.fetch_answers.specs.declared.shot.Shot.{Shot}
use Rattle.fetch_engine.proofs.Keeping.{anew_refused, anew_told, chosen_refused, chosen_shown, image_kept, image_loads, kept_later, refreshes}
use Rattle.fetch_engine.proofs.Staying.{one_form}
use Rattle.fetch_engine.proofs.Tries.{whole_loads, loads_follow, loaded_trans, no_loads, one_load, refused_once, refuses, same_trans, shown_once, shows_image, unloaded}

-- One pass

pub kept_on : (a b : Token) (words : List ℕ) → b.region ≡ a.region → Follows a.view b.view → IsKeptBy a words → IsKeptBy b words
kept_on a b words region f k = record {
  start = f.start ∙ k.start ∙ ap (λ (r : MadeRegion). r.words) (sym region);
  kept = kept_later a.view b.view words f k.kept;
}

some_on : (o : Option (List ℕ)) (a b : Token) → b.region ≡ a.region → Follows a.view b.view → IfSome o (IsKeptBy a) → IfSome o (IsKeptBy b)
some_on None a b region f k = tt
some_on (Some words) a b region f k = kept_on a b words region f k

pub learned : (v w new : View) → Learns mmv v w new → Follows v new
learned v w new l = record { number = ap (λ (x : View). x.number) l.is; start = ap (λ (x : View). x.start) l.is; passes = ap (λ (x : View). x.passes) l.is; seen = l.mine }

pub gathered : (v w new : View) → Gathers mmv v w new → Follows v new
gathered v w new g = record { number = ap (λ (x : View). x.number) g.is; start = ap (λ (x : View). x.start) g.is; passes = ap (λ (x : View). x.passes) g.is; seen = g.mine }

-- a reading of all words is loads alone, and is kept
pub whole_kept : (old new : Token) (words : List ℕ) → ReadsImage mmv old.view words new.view → IsSame Idle Idle old new → IsKeptBy new words
whole_kept old new words r s = record {
  start = s.after.start_is;
  kept = image_kept old.view new.view words (loads_follow old.view new.view (whole_loads old.view new.view r.generation r.generation (numbered_from 0 words) r.loads)) r;
}

pub whole_loaded : (old new : Token) (words : List ℕ) → ReadsImage mmv old.view words new.view → IsSame Idle Idle old new → IsLoaded old new
whole_loaded old new words r s = record { region = s.region; loads = whole_loads old.view new.view r.generation r.generation (numbered_from 0 words) r.loads }

pub again_loaded : (old new : Token) (first last : ℕ) → ReadsAgain mmv old.view first last new.view → IsSame Idle Idle old new → IsLoaded old new
again_loaded old new first last r s = record { region = s.region; loads = whole_loads old.view new.view first last (numbered_from 0 r.words) r.loads }

-- Value words alone

all_mapped : (slots : List Slot) (n : ℕ) → All (λ (slot : Slot). slot.word < n) slots → All (λ (i : ℕ). i < n) (map (λ (slot : Slot). slot.word) slots)
all_mapped [] n h k d below = absurd (omega arith)
all_mapped (s ∷ ss) n h zero d below = h 0 s (omega arith)
all_mapped (s ∷ ss) n h (suc k) d below = all_mapped ss n (λ j e b. h (suc j) e (omega arith)) k d (omega arith)

-- they are words of the region
pub indexes_below : (token : Token) (region : MadeRegion) (words indexes : List ℕ) → token.region ≡ region → IsKeptBy token words → mmv.IsImage words → indexes ≡ value_words words
    → All (λ (i : ℕ). i < length region.words) indexes
indexes_below token region words indexes here k image is =
    let wide : length words ≡ length region.words = k.kept.whole ∙ ap (λ (xs : List ℕ). length xs) (k.start ∙ ap (λ (r : MadeRegion). r.words) here) in
    subst (λ (n : ℕ). All (λ (i : ℕ). i < n) indexes) wide
    (subst (λ (is : List ℕ). All (λ (i : ℕ). i < length words) is) (sym is) (all_mapped (slots_of words) (length words) (slots_below words image)))

-- and of the words
pub indexes_inside : (words indexes : List ℕ) → mmv.IsImage words → indexes ≡ value_words words → All (λ (i : ℕ). i < length words) indexes
indexes_inside words indexes image is = subst (λ (is : List ℕ). All (λ (i : ℕ). i < length words) is) (sym is) (all_mapped (slots_of words) (length words) (slots_below words image))

pub record IsFresh (old new : Token) (words fresh : List ℕ) : Type 0 where
  pub image : mmv.IsImage fresh
  pub form : form_of fresh ≡ form_of words
  pub generation : slice_index fresh 1 ≡ slice_index words 1
  pub kept : IsKeptBy new fresh
  pub reads : ReadsAgainBy words old.view fresh new.view

pub freshened : (old new : Token) (words indexes values fresh : List ℕ) (generation : ℕ) → IsKeptBy old words → mmv.IsImage words → indexes ≡ value_words words → generation ≡ slice_index words 1
    → length values ≡ length indexes → fresh ≡ with_values words (zip indexes values) → ReadsChosen mmv old.view generation indexes values new.view → IsSame Idle Idle old new → IsFresh old new words fresh
freshened old new words indexes values fresh generation k image is one long done r s =
    let reads : ReadsChosen mmv old.view (slice_index words 1) (value_words words) values new.view =
    subst (λ (n : ℕ). ReadsChosen mmv old.view n (value_words words) values new.view) one (subst (λ (xs : List ℕ). ReadsChosen mmv old.view generation xs values new.view) is r) in
    let wide : length values ≡ length (value_words words) = long ∙ ap (λ (xs : List ℕ). length xs) is in
    let wrote : fresh ≡ with_values words (zip (value_words words) values) = done ∙ ap (λ (xs : List ℕ). with_values words (zip xs values)) is in
    let f = refreshes old.view new.view words values fresh k.kept image wide wrote reads in
    record {
      image = f.image;
      form = f.form;
      generation = f.generation;
      kept = record { start = s.after.start_is; kept = f.kept };
      reads = record { shows = f.shows; keeping = chosen_shown old.view new.view words values fresh wide wrote reads; form = one_form words fresh image f.image f.form };
    }

pub values_fail : (old new : Token) (words : List ℕ) (generation : ℕ) (indexes : List ℕ) (fault : ValueFault) → generation ≡ slice_index words 1 → indexes ≡ value_words words → ReadsChosenNot mmv old.view generation indexes new.view fault
    → ValuesFail words old.view new.view fault
values_fail old new words generation indexes (Newer found) one is r = (λ same. r.0 (same ∙ sym one), r.1)
values_fail old new words generation indexes (Again first last) one is r = chosen_refused old.view new.view words generation first last indexes one is r

fail_follows : (old new : Token) (generation : ℕ) (indexes : List ℕ) (fault : ValueFault) → ReadsChosenNot mmv old.view generation indexes new.view fault → Follows old.view new.view
fail_follows old new generation indexes (Newer found) r = loads_follow old.view new.view (one_load old.view new.view found r.1)
fail_follows old new generation indexes (Again first last) r = loads_follow old.view new.view (whole_loads old.view new.view first last (zip indexes r.values) r.loads)

pub fail_kept : (old new : Token) (words : List ℕ) (generation : ℕ) (indexes : List ℕ) (fault : ValueFault) → IsKeptBy old words → ReadsChosenNot mmv old.view generation indexes new.view fault → IsSame Idle Idle old new
    → IsKeptBy new words
fail_kept old new words generation indexes fault k r s = kept_on old new words s.region (fail_follows old new generation indexes fault r) k

-- a try is loads alone
pub again_loaded_on : (old new : Token) (words fresh : List ℕ) → ReadsAgainBy words old.view fresh new.view → IsSame Idle Idle old new → IsLoaded old new
again_loaded_on old new words fresh r s = record { region = s.region; loads = shown_once old.view new.view (layout_of fresh) r.shows }

pub refused_loaded : (old new : Token) → IsRefused old.view new.view → IsSame Idle Idle old new → IsLoaded old new
refused_loaded old new r s = record { region = s.region; loads = refused_once old.view new.view r }

pub again_unloaded : (old new : Token) (words : List ℕ) (first last : ℕ) → ValuesFail words old.view new.view (Again first last) → IsSame Idle Idle old new → IsLoaded old new
again_unloaded old new words first last r s = refused_loaded old new r.0 s

pub anew_loaded : (old mid new : Token) (words : List ℕ) (found : ℕ) → ValuesFail words old.view mid.view (Newer found) → IsSame Idle Idle old mid → IsLoaded mid new → IsLoaded old new
anew_loaded old mid new words found e s l = loaded_trans old mid new (record { region = s.region; loads = one_load old.view mid.view found e.1 }) l

-- Tries

pub whole_fails : (v w : View) (fault : ReadFault) → ReadsNot mmv v w fault → WholeFails v w fault
whole_fails v w (Crossed first last) r = r
whole_fails v w NoMemory r = tt

pub not_loaded : (old new : Token) (fault : ReadFault) → ReadsNot mmv old.view new.view fault → StaysIdle old new fault → IsLoaded old new
not_loaded old new (Crossed first last) r s = again_loaded old new first last r s
not_loaded old new NoMemory r s = subst (λ (t : Token). IsLoaded old t) (sym s) (unloaded old)

pub not_stays : (old new : Token) (fault : ReadFault) → StaysIdle old new fault → TryStays old new fault
not_stays old new (Crossed first last) s = s
not_stays old new NoMemory s = tt

-- where nothing is kept
pub whole_told : (kept : Option (List ℕ)) (v w : View) (words : List ℕ) → kept ≡ None → ReadsImage mmv v words w → ShowsTold kept v (Some words) w
whole_told kept v w words none r = subst (λ (o : Option (List ℕ)). ShowsTold o v (Some words) w) (sym none) (shows_image v w words r, record { generation = r.generation; tried = image_loads v w words r })

pub whole_refused : (kept still : Option (List ℕ)) (v w : View) (fault : ReadFault) → kept ≡ None → still ≡ None → WholeFails v w fault → TryFails kept v still w fault
whole_refused kept still v w (Crossed first last) none same r = (
  refuses v w first last r,
  subst (λ (o : Option (List ℕ)). RefusesBy o v w) (sym none) (record { first = first; last = last; words = r.words; differ = r.differ; tried = record { whole = r.whole; loads = r.loads } }),
  same ∙ sym none,
)
whole_refused kept still v w NoMemory none same r = tt

-- where words are kept
pub again_told : (kept : Option (List ℕ)) (words fresh : List ℕ) (v w : View) → kept ≡ Some words → ReadsAgainBy words v fresh w → ShowsTold kept v (Some fresh) w
again_told kept words fresh v w is r = subst (λ (o : Option (List ℕ)). ShowsTold o v (Some fresh) w) (sym is) (r.shows, r.keeping)

pub again_form : (kept : Option (List ℕ)) (words fresh : List ℕ) (v w : View) → kept ≡ Some words → ReadsAgainBy words v fresh w → HaveOneForm kept (Some fresh)
again_form kept words fresh v w is r = subst (λ (o : Option (List ℕ)). HaveOneForm o (Some fresh)) (sym is) r.form

pub again_refused : (kept still : Option (List ℕ)) (words : List ℕ) (v w : View) (first last : ℕ) → kept ≡ Some words → still ≡ Some words → ValuesFail words v w (Again first last) → TryFails kept v still w (Crossed first last)
again_refused kept still words v w first last is same r = (r.0, subst (λ (o : Option (List ℕ)). RefusesBy o v w) (sym is) r.1, same ∙ sym is)

-- where another generation was found
pub anew_shown : (kept : Option (List ℕ)) (words fresh : List ℕ) (v u w : View) (n : ℕ) → kept ≡ Some words → ValuesFail words v u (Newer n) → ReadsImage mmv u fresh w → ShowsTold kept v (Some fresh) w
anew_shown kept words fresh v u w n is e r = subst (λ (o : Option (List ℕ)). ShowsTold o v (Some fresh) w) (sym is) (anew_told words v u w n fresh e.0 e.1 r)

pub anew_fails : (kept still : Option (List ℕ)) (words : List ℕ) (v u w : View) (n : ℕ) (fault : ReadFault) → kept ≡ Some words → still ≡ Some words → ValuesFail words v u (Newer n) → WholeFails u w fault → TryFails kept v still w fault
anew_fails kept still words v u w n (Crossed first last) is same e r =
    let refused = anew_refused words v u w n first last e.0 e.1 r in
    (refused.0, subst (λ (o : Option (List ℕ)). RefusesBy o v w) (sym is) refused.1, same ∙ sym is)
anew_fails kept still words v u w n NoMemory is same e r = tt

pub stays_on : (a b c : Token) (fault : ReadFault) → IsSame Idle Idle a b → TryStays b c fault → TryStays a c fault
stays_on a b c (Crossed first last) f g = same_trans a b c f g
stays_on a b c NoMemory f g = tt

-- what is kept is kept through loads
pub kept_loaded : (a b : Token) (words : List ℕ) → IsLoaded a b → IsKeptBy a words → IsKeptBy b words
kept_loaded a b words l k = kept_on a b words l.region (loads_follow a.view b.view l.loads) k

-- what is put aside is nothing, and what was read is known
pub kept_alone : (o : Option (List ℕ)) → kept_of o None ≡ o
kept_alone None = refl
kept_alone (Some words) = refl

pub alone_keeps : (before after : Option (List ℕ)) (spare : Option (List ℕ)) (v w : View) (layout : Option Layout) → spare ≡ None → ReadsKeeping before v layout after w → ReadsKeeping before v layout (kept_of after spare) w
alone_keeps before after spare v w layout none r =
    subst (λ (p : Option (List ℕ)). ReadsKeeping before v layout (kept_of after p) w) (sym none) (subst (λ (o : Option (List ℕ)). ReadsKeeping before v layout o w) (sym (kept_alone after)) r)

pub alone_kept : (after spare : Option (List ℕ)) (token : Token) → spare ≡ None → IfSome after (IsKeptBy token) → IfSome (kept_of after spare) (IsKeptBy token)
alone_kept after spare token none k =
    subst (λ (p : Option (List ℕ)). IfSome (kept_of after p) (IsKeptBy token)) (sym none) (subst (λ (o : Option (List ℕ)). IfSome o (IsKeptBy token)) (sym (kept_alone after)) k)

-- Many passes

-- the pass at a place has gone on
pub kept_with : (tokens : List Token) (kept : List (Option (List ℕ))) (i : ℕ) (d t : Token) → AreKept tokens kept → i < length tokens → t.region ≡ (get_or tokens i d).region → Follows (get_or tokens i d).view t.view
    → AreKept (set tokens i t) kept
kept_with tokens kept i d t k below region f =
    let long = length-set tokens i t in
    record {
      many = k.many ∙ sym long;
      each = λ j e s there. dite (ℕ_discrete j i)
          (λ (here : j ≡ i). subst (λ (x : Token). IfSome (get_or kept j s) (IsKeptBy x)) (sym (ap (λ (n : ℕ). get_or (set tokens i t) n e) here ∙ get_or-set_same tokens i t e below))
          (some_on (get_or kept j s) (get_or tokens i d) t region f (subst (λ (n : ℕ). IfSome (get_or kept j s) (IsKeptBy (get_or tokens n d))) here (k.each j d s (omega arith)))))
          (λ (other : j ≢ i). subst (λ (x : Token). IfSome (get_or kept j s) (IsKeptBy x)) (sym (get_or-set_other tokens i j t e other)) (k.each j e s (omega arith)));
    }

-- or is the same one still
pub kept_same : (tokens : List Token) (kept : List (Option (List ℕ))) (i : ℕ) (d t : Token) → AreKept tokens kept → i < length tokens → t ≡ get_or tokens i d → AreKept (set tokens i t) kept
kept_same tokens kept i d t k below same =
    kept_with tokens kept i d t k below (ap (λ (x : Token). x.region) same) (subst (λ (x : Token). Follows (get_or tokens i d).view x.view) (sym same) (loads_follow (get_or tokens i d).view (get_or tokens i d).view (no_loads (get_or tokens i d).view)))

-- the pass at a place has told a note, learned one, or gathered another pass
pub kept_noted : (tokens : List Token) (kept : List (Option (List ℕ))) (i : ℕ) (d t : Token) → AreKept tokens kept → i < length tokens → d ≡ get_or tokens i d → t ≡ d → AreKept (set tokens i t) kept
kept_noted tokens kept i d t k below is same = kept_same tokens kept i d t k below (same ∙ is)

pub kept_learned : (tokens : List Token) (kept : List (Option (List ℕ))) (i : ℕ) (d t : Token) (w : View) → AreKept tokens kept → i < length tokens → d ≡ get_or tokens i d → IsSame Idle Idle d t → Learns mmv d.view w t.view
    → AreKept (set tokens i t) kept
kept_learned tokens kept i d t w k below is s l =
    kept_with tokens kept i d t k below (s.region ∙ ap (λ (x : Token). x.region) is) (subst (λ (x : Token). Follows x.view t.view) is (learned d.view w t.view l))

pub kept_gathered : (tokens : List Token) (kept : List (Option (List ℕ))) (i : ℕ) (d t : Token) (w : View) → AreKept tokens kept → i < length tokens → d ≡ get_or tokens i d → IsSame Idle Idle d t → Gathers mmv d.view w t.view
    → AreKept (set tokens i t) kept
kept_gathered tokens kept i d t w k below is s g =
    kept_with tokens kept i d t k below (s.region ∙ ap (λ (x : Token). x.region) is) (subst (λ (x : Token). Follows x.view t.view) is (gathered d.view w t.view g))

-- and something else is kept there
pub kept_at : (tokens : List Token) (kept : List (Option (List ℕ))) (i : ℕ) (t : Token) (one : Option (List ℕ)) → AreKept tokens kept → i < length tokens → IfSome one (IsKeptBy t) → AreKept (set tokens i t) (set kept i one)
kept_at tokens kept i t one k below it =
    let long = length-set tokens i t in
    let wide = length-set kept i one in
    let many = k.many in
    record {
      many = wide ∙ many ∙ sym long;
      each = λ j e s there. dite (ℕ_discrete j i)
          (λ (here : j ≡ i).
          subst (λ (x : Token). IfSome (get_or (set kept i one) j s) (IsKeptBy x)) (sym (ap (λ (n : ℕ). get_or (set tokens i t) n e) here ∙ get_or-set_same tokens i t e below))
          (subst (λ (x : Option (List ℕ)). IfSome x (IsKeptBy t)) (sym (ap (λ (n : ℕ). get_or (set kept i one) n s) here ∙ get_or-set_same kept i one s (omega arith))) it))
          (λ (other : j ≢ i).
          subst (λ (x : Token). IfSome (get_or (set kept i one) j s) (IsKeptBy x)) (sym (get_or-set_other tokens i j t e other))
          (subst (λ (x : Option (List ℕ)). IfSome x (IsKeptBy (get_or tokens j e))) (sym (get_or-set_other kept i j one s other)) (k.each j e s (omega arith))));
    }

-- What is kept, by what is known and by what is put aside

pub long_kept : (shots : List Shot) (spares : List (Option (List ℕ))) → length spares ≡ length shots → length (kept_in shots spares) ≡ length shots
long_kept [] spares long = refl
long_kept (s ∷ ss) [] long = absurd (omega arith)
long_kept (s ∷ ss) (p ∷ ps) long = let rest : length (kept_in ss ps) ≡ length ss = long_kept ss ps (omega arith) in omega arith

pub kept_there : (shots : List Shot) (spares : List (Option (List ℕ))) (i : ℕ) (s : Shot) (p e : Option (List ℕ)) → length spares ≡ length shots → i < length shots
    → get_or (kept_in shots spares) i e ≡ kept_of (get_or shots i s).image (get_or spares i p)
kept_there [] spares i s p e long below = absurd (omega arith)
kept_there (x ∷ xs) [] i s p e long below = absurd (omega arith)
kept_there (x ∷ xs) (y ∷ ys) zero s p e long below = refl
kept_there (x ∷ xs) (y ∷ ys) (suc i) s p e long below = kept_there xs ys i s p e (omega arith) (omega arith)

pub kept_set : (shots : List Shot) (spares : List (Option (List ℕ))) (i : ℕ) (s : Shot) (p : Option (List ℕ)) → length spares ≡ length shots
    → kept_in (set shots i s) (set spares i p) ≡ set (kept_in shots spares) i (kept_of s.image p)
kept_set [] spares i s p long = refl
kept_set (x ∷ xs) [] i s p long = absurd (omega arith)
kept_set (x ∷ xs) (y ∷ ys) zero s p long = refl
kept_set (x ∷ xs) (y ∷ ys) (suc i) s p long = ap (λ (ks : List (Option (List ℕ))). kept_of x.image y ∷ ks) (kept_set xs ys i s p (omega arith))

-- what the pass at a place keeps
pub known_at : (tokens : List Token) (shots : List Shot) (spares : List (Option (List ℕ))) (i : ℕ) (d : Token) (s : Shot) (p : Option (List ℕ)) → AreKept tokens (kept_in shots spares) → length spares ≡ length shots → i < length tokens
    → d ≡ get_or tokens i d → s ≡ get_or shots i s → p ≡ get_or spares i p → IfSome (kept_of s.image p) (IsKeptBy d)
known_at tokens shots spares i d s p k long below token shot spare =
    let wide = long_kept shots spares long in
    let many = k.many in
    let is : get_or (kept_in shots spares) i None ≡ kept_of s.image p =
    kept_there shots spares i s p None long (omega arith) ∙ sym (ap (λ (x : Shot). kept_of x.image (get_or spares i p)) shot) ∙ sym (ap (λ (x : Option (List ℕ)). kept_of s.image x) spare) in
    subst (λ (t : Token). IfSome (kept_of s.image p) (IsKeptBy t)) (sym token) (subst (λ (o : Option (List ℕ)). IfSome o (IsKeptBy (get_or tokens i d))) is (k.each i d None below))

pub known_set : (tokens : List Token) (shots : List Shot) (spares : List (Option (List ℕ))) (i : ℕ) (t : Token) (s : Shot) (p : Option (List ℕ)) → AreKept tokens (kept_in shots spares) → length spares ≡ length shots → i < length tokens
    → IfSome (kept_of s.image p) (IsKeptBy t) → AreKept (set tokens i t) (kept_in (set shots i s) (set spares i p))
known_set tokens shots spares i t s p k long below one =
    subst (λ (ks : List (Option (List ℕ))). AreKept (set tokens i t) ks) (sym (kept_set shots spares i s p long)) (kept_at tokens (kept_in shots spares) i t (kept_of s.image p) k below one)

pub long_set : (shots : List Shot) (spares : List (Option (List ℕ))) (i : ℕ) (s : Shot) (p : Option (List ℕ)) → length spares ≡ length shots → length (set spares i p) ≡ length (set shots i s)
long_set shots spares i s p long = length-set spares i p ∙ long ∙ sym (length-set shots i s)

-- nothing is kept where nothing is known
nothing_known : (rows : List Mounted) (shots : List Shot) (spares : List (Option (List ℕ))) → length shots ≡ length rows → All (λ (shot : Shot). shot.image ≡ None) shots → spares ≡ none_kept rows → kept_in shots spares ≡ none_kept rows
nothing_known rows shots spares many none is = ap (λ (ps : List (Option (List ℕ))). kept_in shots ps) is ∙ all_none rows shots many none
  where
    all_none : (rs : List Mounted) (ss : List Shot) → length ss ≡ length rs → All (λ (shot : Shot). shot.image ≡ None) ss → kept_in ss (none_kept rs) ≡ none_kept rs
    all_none [] [] long each = refl
    all_none [] (s ∷ ss) long each = absurd (omega arith)
    all_none (r ∷ rs) [] long each = absurd (omega arith)
    all_none (r ∷ rs) (s ∷ ss) long each =
        ap (λ (o : Option (List ℕ)). kept_of o None ∷ kept_in ss (none_kept rs)) (each 0 s (omega arith))
        ∙ ap (λ (ks : List (Option (List ℕ))). None ∷ ks) (all_none rs ss (omega arith) (λ k d below. each (suc k) d (omega arith)))

pub unknown_none : (rows : List Mounted) (shots : List Shot) (spares : List (Option (List ℕ))) → AreUnknown (length rows) shots → spares ≡ none_kept rows → kept_in shots spares ≡ none_kept rows
unknown_none rows shots spares u is = nothing_known rows shots spares u.many u.none is

long_none : (rows : List Mounted) → length (none_kept rows) ≡ length rows
long_none [] = refl
long_none (r ∷ rs) = let rest = long_none rs in omega arith

none_there : (rows : List Mounted) (i : ℕ) (e : Option (List ℕ)) → i < length rows → get_or (none_kept rows) i e ≡ None
none_there [] i e below = absurd (omega arith)
none_there (r ∷ rs) zero e below = refl
none_there (r ∷ rs) (suc i) e below = none_there rs i e (omega arith)

pub unknown_kept : (rows : List Mounted) (tokens : List Token) (shots : List Shot) (spares : List (Option (List ℕ))) → AreUnknown (length rows) shots → spares ≡ none_kept rows → length tokens ≡ length rows
    → AreKept tokens (kept_in shots spares) × (length spares ≡ length shots)
unknown_kept rows tokens shots spares u is many =
    let wide = long_none rows in (
      subst (λ (ks : List (Option (List ℕ))). AreKept tokens ks) (sym (unknown_none rows shots spares u is))
          (record { many = wide ∙ sym many; each = λ i d e below. subst (λ (o : Option (List ℕ)). IfSome o (IsKeptBy (get_or tokens i d))) (sym (none_there rows i e (omega arith))) tt }),
      ap (λ (ps : List (Option (List ℕ))). length ps) is ∙ wide ∙ sym u.many,
    )
