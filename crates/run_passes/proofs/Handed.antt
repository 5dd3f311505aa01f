-- A writer's passes taken up, its lines run one after another, and the passes laid down.
use Rattle.std.proofs.Common.{◌≡◌, ◌⊎◌, inl, inr, ⊎_elim, ℕ, zero, suc, ◌+◌, ◌<◌, ◌≤◌, List, [], ◌∷◌, ◌++◌, length, map, take, slice_get, Option, Some, None, Result, Ok, Err, sym, refl, ap, ◌∙◌, subst, arith}
use Rattle.std.specs.Prelude.{OnOk}
use Rattle.std.proofs.lemmas.Option.{slice_get_within}
use Rattle.region_core.specs.declared.mode.Mode.TheVariants.{Idle}
use Rattle.region_rule.specs.declared.view.View.{View}
use Rattle.region_rule.specs.Seats.{MadeRegion, Token}
use Rattle.region_rule.specs.Views.{now}
use Rattle.fetch_engine.specs.declared.server.Mounted.{Mounted}
use Rattle.run_script.specs.Rules.{IsPlaced}
use Rattle.run_script.specs.declared.script.Line.{Line}
use Rattle.run_script.specs.declared.script.Script.{Script}
use Rattle.run_passes.specs.Workers.{IsPassOf}
use Rattle.run_passes.specs.declared.writer.Writer.{Writer}
use Rattle.run_passes.specs.declared.writer.Writer.TheVariants as writers
use Rattle.run_script.specs.Recording.{Stage, lines_of, may_come, place_of, refused_line, stage_behind}
use Rattle.run_passes.specs.LineEntries.{Writing, LinesMake}
use Rattle.run_passes.specs.Writers.{Grew, IsWriter, RunsLines, stage_of, view_of, writing_of}
use Rattle.run_passes.specs.Hands.{AreIdle, AreLaidDown, ArePresent, AreWriters, Comes, HasWritten, HaveRun, IsHand, IsSameHand, KnownHand, LaidDown, LaysDown, StayAway, writer_of}
use Rattle.run_passes.proofs.Lined.{all_end, at_place, comes_there, lines_of_join, may_stand, names_pass, rests_idle, runs_join, runs_none, stage_run}
use Rattle.run_passes.proofs.WriterPlaces.{the_same}

pub get_at : {A : Type 0} (xs : List A) (i : ℕ) → i < length xs → (x : A) × (slice_get xs i ≡ Some x)
get_at [] i h = absurd (omega arith)
get_at (x ∷ xs) zero h = (x, refl)
get_at (x ∷ xs) (suc i) h = get_at xs i (omega arith)

pub get_mapped : {A B : Type 0} (f : A → B) (xs : List A) (i : ℕ) (x : A) → slice_get xs i ≡ Some x → slice_get (map f xs) i ≡ Some (f x)
get_mapped f [] i x e = absurd (cc)
get_mapped f (y ∷ ys) zero x e = let same : y ≡ x = cc in ap (λ z. Some (f z)) same
get_mapped f (y ∷ ys) (suc i) x e = get_mapped f ys i x e

pub from_mapped : {A B : Type 0} (f : A → B) (xs : List A) (i : ℕ) (y : B) → slice_get (map f xs) i ≡ Some y → (x : A) × (slice_get xs i ≡ Some x) × (f x ≡ y)
from_mapped f [] i y e = absurd (cc)
from_mapped f (x ∷ xs) zero y e = (x, refl, cc)
from_mapped f (x ∷ xs) (suc i) y e = from_mapped f xs i y e

pub long_map : {A B : Type 0} (f : A → B) (xs : List A) → length (map f xs) ≡ length xs
long_map f [] = refl
long_map f (x ∷ xs) = ap suc (long_map f xs)

pub take_more : {A : Type 0} (xs : List A) (n : ℕ) (x : A) → slice_get xs n ≡ Some x → take (suc n) xs ≡ take n xs ++ x ∷ []
take_more [] n x e = absurd (cc)
take_more (y ∷ ys) zero x e = let same : y ≡ x = cc in ap (λ z. z ∷ []) same
take_more {A} (y ∷ ys) (suc n) x e = ap (λ (l : List A). y ∷ l) (take_more ys n x e)

pub take_next : {A : Type 0} (xs : List A) (n : ℕ) (x : A) → slice_get xs n ≡ Some x → take (n + 1) xs ≡ take n xs ++ x ∷ []
take_next xs n x e = let same : suc n ≡ n + 1 = omega arith in subst (λ (m : ℕ). take m xs ≡ take n xs ++ x ∷ []) same (take_more xs n x e)

pub take_all : {A : Type 0} (xs : List A) (n : ℕ) → length xs ≤ n → take n xs ≡ xs
take_all [] zero h = refl
take_all [] (suc n) h = refl
take_all (x ∷ xs) zero h = absurd (omega arith)
take_all {A} (x ∷ xs) (suc n) h = ap (λ (l : List A). x ∷ l) (take_all xs n (omega arith))

-- Steps one behind another

module _ (script : Script) (server : List Mounted) (number : ℕ) where
  pub run_none : (list : List Writer) → HaveRun script server number [] list list
  run_none list i j a was done below e f = subst (λ (w : Writer). RunsLines script.images [] was w) (the_same list j j was done e f refl) (runs_none script.images was)

  pub run_more : (xs ys : List (ℕ × Line)) (a b c : List Writer) → length b ≡ length server → HaveRun script server number xs a b → HaveRun script server number ys b c → HaveRun script server number (xs ++ ys) a c
  run_more xs ys a b c long first second i j at was done below e f =
      let there = slice_get_within server j at.mounted at.there in
      let middle = get_at b j (omega arith) in
      subst (λ (l : List Line). RunsLines script.images l was done) (sym (lines_of_join i number xs ys))
      (runs_join script.images (lines_of i number xs) (lines_of i number ys) was middle.0 done (first i j at was middle.0 below e middle.1) (second i j at middle.0 done below middle.1 f))

  -- the next line may come
  pub comes_next : (n : ℕ) (step : ℕ × Line) (start list : List Writer) → refused_line script ≡ None → slice_get script.steps n ≡ Some step → IsPlaced script.images script.regions step.1 → length start ≡ length server → AreIdle start
      → HaveRun script server number (take n script.steps) start list → Comes script server number step.1 list
  comes_next n step start list taken there placed long idle run i j at writer here is =
      let in_server = slice_get_within server j at.mounted at.there in
      let first = get_at start j (omega arith) in
      let named = at_place i number (place_of step.1) here in
      let pass = names_pass script.images script.regions step.1 i number placed named in
      let row = the_same script.regions i i pass.0 at.row pass.1 at.is refl in
      let below : number < at.row.passes = subst (λ r. number < r.passes) row pass.2 in
      let runs = run i j at first.0 writer below first.1 is in
      let stage : stage_of (writing_of writer) ≡ stage_behind Stage.idle (lines_of i number (take n script.steps)) =
      stage_run script.images (lines_of i number (take n script.steps)) first.0 writer runs ∙ ap (λ (w : Writing). stage_behind (stage_of w) (lines_of i number (take n script.steps))) (idle j first.0 first.1) in
      ap (λ (t : Stage). may_come t step.1) stage ∙ comes_there (take n script.steps) step.1 i number (may_stand script n step taken there).comes here

pub away_none : (list : List Writer) → StayAway list list
away_none list j was done e f = let same : was ≡ done = the_same list j j was done e f refl in ((λ (gone : was ≡ writers.Away). sym same ∙ gone), (λ (gone : done ≡ writers.Away). same ∙ gone))

pub away_more : (a b c : List Writer) → length b ≡ length a → StayAway a b → StayAway b c → StayAway a c
away_more a b c long f g j was done e h =
    let within = slice_get_within a j was e in
    let m = get_at b j (omega arith) in
    let first = f j was m.0 e m.1 in
    let second = g j m.0 done m.1 h in
    ((λ (gone : was ≡ writers.Away). second.0 (first.0 gone)), (λ (gone : done ≡ writers.Away). first.1 (second.1 gone)))

-- Taking up

module _ (script : Script) (server : List Mounted) (hand : KnownHand) (is : IsHand script server hand) where
  up : List Writer
  up = map writer_of hand.passes

  up_writer : (j : ℕ) (mounted : Mounted) (pass : Option Token) → slice_get server j ≡ Some mounted → slice_get hand.passes j ≡ Some pass → (writer_of pass ≡ writers.Away) ⊎ IsWriter mounted.region hand.number (writer_of pass)
  up_writer j mounted None e f = inl refl
  up_writer j mounted (Some pass) e f = inr (is.each j mounted pass e f)

  pub up_writers : AreWriters server hand.number (map writer_of hand.passes)
  up_writers = record {
    as_many = long_map writer_of hand.passes ∙ is.as_many;
    each = λ j mounted writer e f.
        let from = from_mapped writer_of hand.passes j writer f in
        subst (λ (w : Writer). (w ≡ writers.Away) ⊎ IsWriter mounted.region hand.number w) from.2 (up_writer j mounted from.0 e from.1);
  }

  pub up_present : ArePresent script server hand.number (map writer_of hand.passes)
  up_present i j at writer below f =
      let pass = is.present i j at below in
      let same : writers.Idle pass.0 ≡ writer = the_same (map writer_of hand.passes) j j (writers.Idle pass.0) writer (get_mapped writer_of hand.passes j (Some pass.0) pass.1) f refl in
      subst (λ (w : Writer). IsWriter at.mounted.region hand.number w) same (is.each j at.mounted pass.0 at.there pass.1)

  idle_up : (pass : Option Token) → writing_of (writer_of pass) ≡ Writing.idle
  idle_up None = refl
  idle_up (Some pass) = refl

  pub up_idle : AreIdle (map writer_of hand.passes)
  up_idle j writer f = let from = from_mapped writer_of hand.passes j writer f in subst (λ (w : Writer). writing_of w ≡ Writing.idle) from.2 (idle_up from.0)

  -- Laying down

  module _ (list : List Writer) (passes : List (Option Token)) (writers_are : AreWriters server hand.number list) (present : ArePresent script server hand.number list) (away : StayAway (map writer_of hand.passes) list)
      (long : length passes ≡ length server) (laid : AreLaidDown server hand.number list passes) where
    later : KnownHand
    later = record { number = hand.number; passes = passes }

    abbrev IsIdleOne : Writer → Type 0
    IsIdleOne (writers.Idle p) = Unit {0}
    IsIdleOne (writers.Inside p) = ⊥
    IsIdleOne (writers.Changing p) = ⊥
    IsIdleOne (writers.Refused p) = ⊥
    IsIdleOne writers.Away = ⊥

    idle_not_away : (p : Token) → writers.Idle p ≡ writers.Away → ⊥
    idle_not_away p e = subst IsIdleOne e tt

    -- what lies at a position
    lies_at : (j : ℕ) (mounted : Mounted) → slice_get server j ≡ Some mounted → (writer : Writer) × (slice_get list j ≡ Some writer) × (pass : Option Token) × (slice_get passes j ≡ Some pass) × LaidDown mounted.region hand.number writer pass
    lies_at j mounted e =
        let within = slice_get_within server j mounted e in
        let many = writers_are.as_many in
        let w = get_at list j (omega arith) in
        let l = laid j mounted w.0 e w.1 in
        (w.0, w.1, l.0, l.1, l.2)

    some_laid : (region : MadeRegion) (writer : Writer) (pass : Option Token) → IsWriter region hand.number writer → LaidDown region hand.number writer pass → LaysDown region hand.number writer pass
    some_laid region (writers.Idle p) pass w l = l
    some_laid region (writers.Inside p) pass w l = l
    some_laid region (writers.Changing p) pass w l = l
    some_laid region (writers.Refused p) pass w l = l
    some_laid region writers.Away pass w l = absurd w

    the_pass : (region : MadeRegion) (writer : Writer) (pass : Token) → LaysDown region hand.number writer (Some pass) → IsPassOf region hand.number Idle pass
    the_pass region writer pass l = let same : l.pass ≡ pass = let e = l.is in cc in subst (λ (t : Token). IsPassOf region hand.number Idle t) same l.idle

    laid_pass : (region : MadeRegion) (writer : Writer) (pass : Token) → LaidDown region hand.number writer (Some pass) → IsPassOf region hand.number Idle pass
    laid_pass region (writers.Idle p) pass l = the_pass region (writers.Idle p) pass l
    laid_pass region (writers.Inside p) pass l = the_pass region (writers.Inside p) pass l
    laid_pass region (writers.Changing p) pass l = the_pass region (writers.Changing p) pass l
    laid_pass region (writers.Refused p) pass l = the_pass region (writers.Refused p) pass l
    laid_pass region writers.Away pass l = absurd (cc)

    pub is_hand : IsHand script server (record { number = hand.number; passes = passes })
    is_hand = record {
      as_many = long;
      each = λ j mounted pass e f.
          let l = lies_at j mounted e in
          let same : l.2 ≡ Some pass = the_same passes j j l.2 (Some pass) l.3 f refl in
          laid_pass mounted.region l.0 pass (subst (λ (p : Option Token). LaidDown mounted.region hand.number l.0 p) same l.4);
      present = λ i j at below.
          let l = lies_at j at.mounted at.there in
          let p = some_laid at.mounted.region l.0 l.2 (present i j at l.0 below l.1) l.4 in
          (p.pass, l.3 ∙ ap (λ (o : Option Token). Some o) p.is);
    }

    -- the passes have made the entries of their lines, where all were run
    pub has_written : refused_line script ≡ None → HaveRun script server hand.number script.steps (map writer_of hand.passes) list → HasWritten script server hand (record { number = hand.number; passes = passes })
    has_written taken run i j at was done below e f =
        let l = lies_at j at.mounted at.there in
        let start : slice_get (map writer_of hand.passes) j ≡ Some (writers.Idle was) = get_mapped writer_of hand.passes j (Some was) e in
        let runs : RunsLines script.images (lines_of i hand.number script.steps) (writers.Idle was) l.0 = run i j at (writers.Idle was) l.0 below start l.1 in
        let idle : writing_of l.0 ≡ Writing.idle =
        rests_idle (writing_of l.0) (stage_run script.images (lines_of i hand.number script.steps) (writers.Idle was) l.0 runs ∙ all_end script i hand.number taken) in
        let same : l.2 ≡ Some done = the_same passes j j l.2 (Some done) l.3 f refl in
        let down : LaysDown at.mounted.region hand.number l.0 (Some done) =
        subst (λ (p : Option Token). LaysDown at.mounted.region hand.number l.0 p) same (some_laid at.mounted.region l.0 l.2 (present i j at l.0 below l.1) l.4) in
        let pass_is : down.pass ≡ done = let e = down.is in cc in
        let seen : done.view ≡ view_of l.0 = ap (λ (t : Token). t.view) (sym pass_is) ∙ down.same idle in
        record {
          more = runs.more;
          grew = subst (λ (v : View). Grew was.view runs.more v) (sym seen) runs.grew;
          makes = subst (λ (w : Writing). LinesMake script.images was.view.number (now was.view) Writing.idle (lines_of i hand.number script.steps) runs.more w) idle runs.makes;
        }

    pub same_hand : IsSameHand hand (record { number = hand.number; passes = passes })
    same_hand = record {
      number = refl;
      as_many = long ∙ sym is.as_many;
      absent = λ j e.
          let many = is.as_many in
          let within = slice_get_within hand.passes j None e in
          let m = get_at server j (omega arith) in
          let l = lies_at j m.0 m.1 in
          let is_away : l.0 ≡ writers.Away = (away j writers.Away l.0 (get_mapped writer_of hand.passes j None e) l.1).0 refl in
          l.3 ∙ ap (λ (o : Option Token). Some o) (subst (λ (w : Writer). LaidDown m.0.region hand.number w l.2) is_away l.4);
      present = λ j before e.
          let many = is.as_many in
          let within = slice_get_within hand.passes j (Some before) e in
          let m = get_at server j (omega arith) in
          let l = lies_at j m.0 m.1 in
          let start : slice_get (map writer_of hand.passes) j ≡ Some (writers.Idle before) = get_mapped writer_of hand.passes j (Some before) e in
          ⊎_elim
          (λ (gone : l.0 ≡ writers.Away). absurd (idle_not_away before ((away j (writers.Idle before) l.0 start l.1).1 gone)))
          (λ (w : IsWriter m.0.region hand.number l.0). let p = some_laid m.0.region l.0 l.2 w l.4 in (p.pass, l.3 ∙ ap (λ (o : Option Token). Some o) p.is))
          (writers_are.each j m.0 l.0 m.1 l.1);
    }

-- what was taken up can run its steps
pub record UpSo (script : Script) (server : List Mounted) (hand : KnownHand) (ups : List Writer) : Type 0 where
  pub writers : AreWriters server hand.number ups
  pub present : ArePresent script server hand.number ups
  pub idle : AreIdle ups

pub up_so : (script : Script) (server : List Mounted) (hand : KnownHand) (ups : List Writer) → IsHand script server hand → ups ≡ map writer_of hand.passes → UpSo script server hand ups
up_so script server hand ups is e =
    subst (λ (l : List Writer). UpSo script server hand l) (sym e) (record { writers = up_writers script server hand is; present = up_present script server hand is; idle = up_idle script server hand is })

-- and what was laid down is a hand again
pub record DownSo (script : Script) (server : List Mounted) (hand : KnownHand) (ups list : List Writer) (later : KnownHand) : Type 0 where
  pub hand_is : IsHand script server later
  pub same : IsSameHand hand later
  pub written : refused_line script ≡ None → HaveRun script server hand.number script.steps ups list → HasWritten script server hand later

pub down_so : (script : Script) (server : List Mounted) (hand : KnownHand) (ups list : List Writer) (passes : List (Option Token)) → IsHand script server hand → ups ≡ map writer_of hand.passes → AreWriters server hand.number list → ArePresent script server hand.number list
    → StayAway ups list → length passes ≡ length server → AreLaidDown server hand.number list passes → DownSo script server hand ups list (record { number = hand.number; passes = passes })
down_so script server hand ups list passes is e writers_are present away long laid =
    let later : KnownHand = record { number = hand.number; passes = passes } in
    let away_up : StayAway (map writer_of hand.passes) list = subst (λ (l : List Writer). StayAway l list) e away in
    subst (λ (l : List Writer). DownSo script server hand l list later) (sym e)
    (record {
      hand_is = is_hand script server hand is list passes writers_are present away_up long laid;
      same = same_hand script server hand is list passes writers_are present away_up long laid;
      written = λ taken run. has_written script server hand is list passes writers_are present away_up long laid taken run;
    })

pub same_as : (hand : KnownHand) → IsSameHand hand hand
same_as hand = record { number = refl; as_many = refl; absent = λ j e. e; present = λ j before e. (before, e) }

pub on_ok : {A E P Q : Type 0} (r : Result A E) → OnOk r P → (P → Q) → OnOk r Q
on_ok (Ok done) p f = f p
on_ok (Err e) p f = tt
