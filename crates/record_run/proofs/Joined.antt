-- One pass more is ended, and one list of passes more.
use Rattle.std.proofs.Common.{◌≡◌, ◌≢◌, ℕ, suc, ◌+◌, ◌<◌, ◌≤◌, List, [], ◌∷◌, ◌++◌, All, append_assoc, get_or, length, length-append, length-set, slice_get, slice_set, take, Some, sym, refl, ap, ◌∙◌, subst, arith}
use Rattle.std.specs.Global.{Vec}
use Rattle.std.proofs.lemmas.List.{length-take-le, take_all}
use Rattle.std.proofs.lemmas.Option.{slice_get_within}
use mathlib.Core.Logic.{dite}
use native.Mathlib.Decide.{dec_le}
use Rattle.region_rule.specs.declared.view.View.{View}
use Rattle.region_rule.specs.Calls.{Gathers}
use Rattle.region_rule.specs.Seats.{Token}
use Rattle.region_words.specs.Images.{mmv}
use Rattle.fetch_engine.specs.Servers.{ChangesAt, IsRegionAt, IsSeated}
use Rattle.fetch_engine.specs.declared.server.Mounted.{Mounted}
use Rattle.run_passes.proofs.Calling.{set_there}
use Rattle.run_passes.proofs.Begun.{as_many_seated, get_there}
use Rattle.run_passes.proofs.Crewing.{get_set_other, get_set_same}
use Rattle.run_passes.proofs.Finals.{get_front, get_seam}
use Rattle.run_passes.proofs.Seated.{now_at, set_set, the_one}
use Rattle.run_passes.proofs.Handed.{take_next}
use Rattle.record_run.specs.Gathered.{AreHere, AreUsedUp, GathersAll, HasGathered, HaveGathered}

-- Passes of one region

-- these passes were ended at this position, and the others stay
pub record GathersAt (at : ℕ) (old : List Token) (passes : List Token) (new : List Token) : Type 0 where
  pub before : Token
  pub after : Token
  pub was : slice_get old at ≡ Some before
  pub is : new ≡ slice_set old at after
  pub has : HasGathered passes before after

pub gathers_none : (at : ℕ) (old : List Token) → at < length old → GathersAt at old [] old
gathers_none at old below =
    let here = get_there old at below in
    record { before = here.0; after = here.0; was = here.1; is = sym (set_there old at here.0 here.1); has = record { gathers = refl; region = refl } }

gathers_last : (v u w : View) (passes : List Token) (pass : Token) → GathersAll v passes u → Gathers mmv u pass.view w → GathersAll v (passes ++ pass ∷ []) w
gathers_last v u w [] pass g h = (w, subst (λ (x : View). Gathers mmv x pass.view w) g h, refl)
gathers_last v u w (p ∷ passes) pass g h = (g.0, g.1, gathers_last g.0 u w passes pass g.2 h)

pub gathers_more : (at : ℕ) (old mid new passes more : List Token) (pass : Token) → GathersAt at old passes mid → ChangesAt at mid new (λ before after. Gathers mmv before.view pass.view after.view) → more ≡ passes ++ pass ∷ [] → GathersAt at old more new
gathers_more at old mid new passes more pass g changes is =
    let same : g.after ≡ changes.before = the_one mid at g.after changes.before (now_at old mid at g.before g.after g.was g.is) changes.was in
    record {
      before = g.before;
      after = changes.after;
      was = g.was;
      is = changes.is ∙ (ap (λ (l : List Token). slice_set l at changes.after) g.is ∙ set_set old at g.after changes.after);
      has = record {
        gathers = subst (λ (l : List Token). GathersAll g.before.view l changes.after.view) (sym is)
            (gathers_last g.before.view g.after.view changes.after.view passes pass g.has.gathers (subst (λ (t : Token). Gathers mmv t.view pass.view changes.after.view) (sym same) changes.changed));
        region = changes.stays.region ∙ (ap (λ (t : Token). t.region) (sym same) ∙ g.has.region);
      };
    }

-- what holds of all holds of one in their midst
pub one_of_all : {A : Type 0} (P : A → Type 0) (all front back : List A) (x : A) → All P all → all ≡ front ++ x ∷ back → P x
one_of_all {A} P all front back x h is =
    subst P (sym (at_seam front)) (subst (λ (l : List A). All P l) is h (length front) x (within front))
  where
    at_seam : (front : List A) → x ≡ get_or (front ++ x ∷ back) (length front) x
    at_seam [] = refl
    at_seam (y ∷ ys) = at_seam ys

    within : (front : List A) → length front < length (front ++ x ∷ back)
    within [] = omega arith
    within (y ∷ ys) = let h = within ys in omega arith

-- Lists of passes

-- the lists so far were ended, in ascending cluster, and the passes of the other regions stay
pub record GathersFirst (lists : List (Vec Token)) (old new : List Token) : Type 0 where
  pub have : HaveGathered lists old new
  pub rest : (j : ℕ) → length lists ≤ j → slice_get new j ≡ slice_get old j

pub gathers_no_list : (old : List Token) → GathersFirst [] old old
gathers_no_list old = record { have = record { as_many = refl; each = λ j list before after e. absurd (cc) }; rest = λ j h. refl }

pub gathers_one_list : (old mid new : List Token) (lists more : List (Vec Token)) (list : Vec Token) (at : ℕ) → GathersFirst lists old mid → at ≡ length lists → more ≡ lists ++ list ∷ []
    → (before : Token) × (after : Token) × (slice_get mid at ≡ Some before) × (new ≡ slice_set mid at after) × HasGathered list.items before after → GathersFirst more old new
gathers_one_list old mid new lists more list at g at_is is h =
    let after : Token = h.1 in
    let long : length more ≡ length lists + 1 = ap (λ (l : List (Vec Token)). length l) is ∙ length-append lists (list ∷ []) in
    let other : (j : ℕ) → j ≢ at → slice_get new j ≡ slice_get mid j = λ j differ. ap (λ (l : List Token). slice_get l j) h.3 ∙ get_set_other mid at j after differ in
    record {
      have = record {
        as_many = ap (λ (l : List Token). length l) h.3 ∙ (length-set mid at after ∙ g.have.as_many);
        each = λ j found before last e f k.
            let within = slice_get_within more j found e in
            dite (dec_le (suc j) (length lists))
            (λ (below : suc j ≤ length lists).
            let differ : j ≢ at = λ same. absurd (omega arith) in
            g.have.each j found before last (sym (get_front lists (list ∷ []) j (omega arith)) ∙ (ap (λ (l : List (Vec Token)). slice_get l j) (sym is) ∙ e)) f (sym (other j differ) ∙ k))
            (λ not_below.
            let same : j ≡ at = omega arith in
            let found_is : list ≡ found = the_one more j list found (ap (λ (l : List (Vec Token)). slice_get l j) is ∙ (ap (λ (n : ℕ). slice_get (lists ++ list ∷ []) n) (same ∙ at_is) ∙ get_seam lists list)) e in
            let kept : slice_get mid j ≡ slice_get old j = g.rest j (omega arith) in
            let before_is : h.0 ≡ before = the_one mid at h.0 before h.2 (ap (λ (n : ℕ). slice_get mid n) (sym same) ∙ (kept ∙ f)) in
            let last_is : after ≡ last = the_one new at after last (now_at mid new at h.0 after h.2 h.3) (ap (λ (n : ℕ). slice_get new n) (sym same) ∙ k) in
            subst (λ (l : Vec Token). HasGathered l.items before last) found_is
            (subst (λ (t : Token). HasGathered list.items t last) before_is (subst (λ (t : Token). HasGathered list.items h.0 t) last_is h.4)));
      };
      rest = λ j far. other j (λ same. absurd (omega arith)) ∙ g.rest j (omega arith);
    }

-- a position of a server is one of its seat
pub within_seated : (server : List Mounted) (tokens : List Token) (at : ℕ) → IsSeated server tokens → at < length server → at < length tokens
within_seated server tokens at seated below = let same = as_many_seated server tokens seated in omega arith

pub still_all : {A : Type 0} (all front left rest : List A) (x : A) → all ≡ front ++ left → left ≡ x ∷ rest → all ≡ (front ++ x ∷ []) ++ rest
still_all all front left rest x is next = is ∙ (ap (λ (l : List _). front ++ l) next ∙ sym (append_assoc front (x ∷ []) rest))

-- The lists below a position were ended, and have no pass any more; the others are as they were.
pub record GathersUpTo (at : ℕ) (lists left : List (Vec Token)) (old new : List Token) : Type 0 where
  pub as_many : length left ≡ length lists
  pub rest : (j : ℕ) → at ≤ j → slice_get left j ≡ slice_get lists j
  pub used : (j : ℕ) (list : Vec Token) → j < at → slice_get left j ≡ Some list → list.items ≡ []
  pub so_far : GathersFirst (take at lists) old new

pub up_to_none : (lists : List (Vec Token)) (old : List Token) → GathersUpTo 0 lists lists old old
up_to_none lists old = record { as_many = refl; rest = λ j h. refl; used = λ j list below is. absurd (omega arith); so_far = gathers_no_list old }

pub up_to_next : (at : ℕ) (lists left after : List (Vec Token)) (list none : Vec Token) (old mid new : List Token) → GathersUpTo at lists left old mid → slice_get left at ≡ Some list → at < length lists → none.items ≡ [] → after ≡ slice_set left at none
    → (before : Token) × (last : Token) × (slice_get mid at ≡ Some before) × (new ≡ slice_set mid at last) × HasGathered list.items before last → GathersUpTo (at + 1) lists after old new
up_to_next at lists left after list none old mid new g there within empty is h =
    let other : (j : ℕ) → j ≢ at → slice_get after j ≡ slice_get left j = λ j differ. ap (λ (l : List (Vec Token)). slice_get l j) is ∙ get_set_other left at j none differ in
    let here : slice_get after at ≡ Some none = ap (λ (l : List (Vec Token)). slice_get l at) is ∙ get_set_same left at none (slice_get_within left at list there) in
    record {
      as_many = ap (λ (l : List (Vec Token)). length l) is ∙ (length-set left at none ∙ g.as_many);
      rest = λ j far. other j (λ same. absurd (omega arith)) ∙ g.rest j (omega arith);
      used = λ j found below e.
          dite (dec_le (suc j) at)
          (λ (before : suc j ≤ at). g.used j found before (sym (other j (λ same. absurd (omega arith))) ∙ e))
          (λ not_before.
          let same : j ≡ at = omega arith in
          let found_is : none ≡ found = the_one after at none found here (ap (λ (n : ℕ). slice_get after n) (sym same) ∙ e) in
          ap (λ (l : Vec Token). l.items) (sym found_is) ∙ empty);
      so_far = gathers_one_list old mid new (take at lists) (take (at + 1) lists) list at g.so_far (sym (length-take-le at lists (omega (arith, within)))) (take_next lists at list (sym (g.rest at (omega arith)) ∙ there)) h;
    }

-- all were ended
pub up_to_all : (server : List Mounted) (at : ℕ) (lists left : List (Vec Token)) (old new : List Token) → length lists ≤ at → length lists ≡ length server → GathersUpTo at lists left old new → HaveGathered lists old new × AreUsedUp server left
up_to_all server at lists left old new long many g = (
  subst (λ (l : List (Vec Token)). HaveGathered l old new) (take_all at lists long) g.so_far.have,
  (g.as_many ∙ many, λ j list e. g.used j list (let within = slice_get_within left j list e in let same = g.as_many in omega arith) e),
)

-- the passes of the next list are of the region there
pub next_here : (server : List Mounted) (lists left : List (Vec Token)) (at : ℕ) (list : Vec Token) → AreHere server lists → slice_get left at ≡ slice_get lists at → slice_get left at ≡ Some list → All (λ (pass : Token). IsRegionAt server at pass.region) list.items
next_here server lists left at list here same there = here at list (sym same ∙ there)
