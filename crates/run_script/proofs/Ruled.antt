-- Line after line, what is said keeps the rules.
use Rattle.std.proofs.Common.{◌≡◌, ◌≢◌, ℕ, ℤ, ◌+◌, ◌<◌, ◌≤◌, Bool, true, false, cond, ◌==◌, List, [], ◌∷◌, ◌++◌, length, Option, Some, None, is_some, Result, Ok, Err, sym, subst, ap, ◌∙◌, refl, arith, length-append, bytes_eq}
use Rattle.std.specs.Prelude.{◌&&◌, not, if◌then◌else◌, nat_le, nat_lt, min, slice_get, codes}
use Rattle.std.specs.Option.{option_map}
use Rattle.std.specs.List.{list_all, position, position_or_len}
use Rattle.std.proofs.lemmas.Bool.{eq-eqb}
use Rattle.std.proofs.lemmas.Slice.Eq.{bytes_eq-Decides}
use Rattle.pcp_base.specs.Names.{is_letter, is_name_byte, IsComponent, spells_component}
use Rattle.pcp_base.specs.Time.{Moment, microseconds}
use Rattle.mmv_layout.specs.Contents.{cluster_in}
use Rattle.mmv_layout.specs.declared.rows.Layout.{Layout}
use Rattle.mmv_writer.specs.Spelling.{image_words}
use Rattle.mmv_writer.proofs.Firsts.{position_some}
use Rattle.mmv_writer.specs.declared.line_fault.LineFault.{LineFault}
use Rattle.mmv_writer.specs.declared.line_fault.LineFault.TheVariants.{Condition, Build}
use Rattle.mmv_writer.specs.declared.fault.BuildFault.TheVariants.{TooLarge}
use Rattle.mmv_writer.specs.Reading.{with_head, with_said}
use Rattle.text_lines.specs.LayoutLines.{line_of}
use Rattle.text_lines.specs.Lines.{lines_of, without_feed}
use Rattle.run_script.specs.declared.lines.Place.{Place}
use Rattle.run_script.specs.declared.lines.Slot.{Slot}
use Rattle.run_script.specs.declared.lines.Given.{Given}
use Rattle.run_script.specs.declared.lines.StepLine.{StepLine}
use Rattle.run_script.specs.declared.lines.StepLine.TheVariants as steps
use Rattle.run_script.specs.declared.lines.HeadLine.{HeadLine}
use Rattle.run_script.specs.declared.lines.HeadLine.TheVariants as heads
use Rattle.run_script.specs.HeadLines.{head_line}
use Rattle.run_script.specs.StepLines.{step_line}
use Rattle.run_script.specs.declared.fault.ScriptLineFault.{ScriptLineFault}
use Rattle.run_script.specs.declared.fault.ScriptLineFault.TheVariants as faults
use Rattle.run_script.specs.declared.fault.ScriptFault.{ScriptFault}
use Rattle.run_script.specs.declared.script.RegionRow.{RegionRow}
use Rattle.run_script.specs.declared.script.Line.{Line}
use Rattle.run_script.specs.declared.script.Line.TheVariants as lines
use Rattle.run_script.specs.declared.script.Script.{Script}
use Rattle.run_script.specs.declared.said.Said.{Said}
use Rattle.run_script.specs.declared.said.Stage.{Stage}
use Rattle.run_script.specs.declared.said.Stage.TheVariants as stages
use Rattle.run_script.specs.Said.{nothing}
use Rattle.run_script.specs.Names.{image_named}
use Rattle.run_script.specs.Heads.{has_file, is_of, has_cluster, fits_image, may_open, with_row, opens, opened_on, region_at, statement_of, with_group}
use Rattle.run_script.specs.Steps.{pass_below, pass_at, pass_of, attaches, detaches, swaps, adds, begins, steps_on, finishes, loads, reads, ends, is_later, step_of, last_behind, with_line, with_step}
use Rattle.run_script.specs.Reading.{Point, in_head, in_steps, may_name, with_head_line, in_image, with_image, with_image_line, with_script_line, with_full_line, and_then, with_script_lines, ended_at, whole, script_of}
use Rattle.run_script.specs.Rules.{AtEach, cluster_of, IsRegion, HasPass, IsPlaced, IsBefore, Rises, AreRuled, KeepsRules}
use Rattle.log_schedule.specs.declared.config.Group.{Group}
use Rattle.run_script.specs.Laws.{ScriptsAreRuled}
use Rattle.run_script.proofs.Growing.{same_some, both, not_true, le_of, lt_of, less_of, get_more, each_snoc, pairs_snoc, each_weaker, none_passes}

-- there was a tick, and this stamp isn't after it
abbrev NotAfter : Option Moment → Moment → Type 0
NotAfter None s = ⊥
NotAfter (Some t) s = microseconds s ≤ microseconds t

abbrev AtMost : Option Moment → Line → Type 0
AtMost last (lines.Tick s) = NotAfter last s
AtMost last line = Unit {0}

-- an image may be added under this name
abbrev IsNew : List ℕ → List (List ℕ × List ℕ) → Type 0
IsNew name images = IsComponent name × (image_named images name ≡ None)

abbrev Waits : Stage → List (List ℕ × List ℕ) → Type 0
Waits stages.Head images = Unit {0}
Waits (stages.Opening name) images = IsNew name images
Waits (stages.Image name draft) images = IsNew name images
Waits stages.Steps images = Unit {0}

abbrev SaidRuled : Said → Type 0
SaidRuled said = AreRuled said.images said.regions said.steps

record IsFine (said : Said) : Type 0 where
  ruled : SaidRuled said
  last : AtEach (λ step. AtMost said.last step.1) said.steps

-- what is said at a point keeps the rules, or it is a fault
abbrev FinePoint : Point → Type 0
FinePoint p = IsFine p.1 × Waits p.0 p.1.images

abbrev Fine : {E : Type 0} → Result Point E → Type 0
Fine (Ok p) = FinePoint p
Fine (Err fault) = Unit {0}

abbrev FineSaid : Result Said ScriptLineFault → Type 0
FineSaid (Ok said) = IsFine said
FineSaid (Err fault) = Unit {0}

-- a choice of two
chosen : {A : Type 0} (P : A → Type 0) (b : Bool) (x y : A) → (b ≡ true → P x) → (b ≡ false → P y) → P (if b then x else y)
chosen P true x y f g = f refl
chosen P false x y f g = g refl

-- ---- names

spelled : (bytes : List ℕ) → spells_component bytes ≡ true → IsComponent bytes
spelled [] h = cc h
spelled (b ∷ bs) h = both (is_letter b) (list_all is_name_byte bs) h

not_some : {A : Type 0} (o : Option A) → is_some o ≡ false → o ≡ None
not_some None h = refl
not_some (Some a) h = cc h

unlike : (xs ys : List ℕ) → bytes_eq xs ys ≡ false → xs ≢ ys
unlike xs ys h e = let same : bytes_eq xs ys ≡ true = (bytes_eq-Decides xs ys).1 e in cc

-- ---- images

module _ (images : List (List ℕ × List ℕ)) (image : List ℕ × List ℕ) where
  region_stays : (row : RegionRow) → IsRegion images row → IsRegion (images ++ image ∷ []) row
  region_stays row r = record {
    name = r.name;
    opens = (r.opens.0, get_more images (image ∷ []) row.image r.opens.0 r.opens.1, r.opens.2);
    capacity = r.capacity;
    passes = r.passes;
  }

  cluster_stays : (row : RegionRow) → IsRegion images row → cluster_of (images ++ image ∷ []) row ≡ cluster_of images row
  cluster_stays row r =
      ap (λ o. option_map (λ (i : List ℕ × List ℕ). cluster_in i.1) o) (get_more images (image ∷ []) row.image r.opens.0 r.opens.1 ∙ sym r.opens.1)

  placed_stays : (rows : List RegionRow) (line : Line) → IsPlaced images rows line → IsPlaced (images ++ image ∷ []) rows line
  placed_stays rows (lines.Begin region pass at moment) is = (is.0, let before : at < length images = is.1 in omega (arith, length-append images (image ∷ [])))
  placed_stays rows (lines.Attach region pass) is = is
  placed_stays rows (lines.Detach region pass) is = is
  placed_stays rows (lines.Swap region pass item instance value) is = is
  placed_stays rows (lines.Add region pass item instance number) is = is
  placed_stays rows (lines.Step region pass) is = is
  placed_stays rows (lines.Finish region pass) is = is
  placed_stays rows (lines.Load region pass) is = is
  placed_stays rows (lines.Word region pass index) is = is
  placed_stays rows (lines.Done region pass) is = is
  placed_stays rows (lines.Tick stamp) is = tt
  placed_stays rows lines.Flush is = tt

image_added : (said : Said) (name words : List ℕ) → IsFine said → IsNew name said.images → IsFine (record said { images = said.images ++ (name, words) ∷ [] })
image_added said name words f new = record {
  ruled = record {
    few = f.ruled.few;
    named = each_snoc (λ image. IsComponent image.0) said.images (name, words) f.ruled.named new.0;
    names = pairs_snoc (λ a b. a.0 ≢ b.0) said.images (name, words) f.ruled.names
        (λ i a h. unlike a.0 name (none_passes (λ image. bytes_eq image.0 name) said.images (sym (position_some (λ image. bytes_eq image.0 name) said.images) ∙ ap is_some new.1) i a h));
    opened = each_weaker (IsRegion said.images) (IsRegion (said.images ++ (name, words) ∷ [])) said.regions (region_stays said.images (name, words)) f.ruled.opened;
    files = f.ruled.files;
    clusters = λ i j a b less h k e. f.ruled.clusters i j a b less h k
        (sym (cluster_stays said.images (name, words) a (f.ruled.opened i a h)) ∙ e ∙ cluster_stays said.images (name, words) b (f.ruled.opened j b k));
    placed = λ i step h. placed_stays said.images (name, words) said.regions step.1 (f.ruled.placed i step h);
    rise = f.ruled.rise;
  };
  last = f.last;
}

-- ---- regions

module _ (rows : List RegionRow) (row : RegionRow) where
  pass_stays : (region pass : ℕ) → HasPass rows region pass → HasPass (rows ++ row ∷ []) region pass
  pass_stays region pass h = (h.0, get_more rows (row ∷ []) region h.0 h.1, h.2)

  line_stays : (images : List (List ℕ × List ℕ)) (line : Line) → IsPlaced images rows line → IsPlaced images (rows ++ row ∷ []) line
  line_stays images (lines.Attach region pass) is = pass_stays region pass is
  line_stays images (lines.Detach region pass) is = pass_stays region pass is
  line_stays images (lines.Swap region pass item instance value) is = pass_stays region pass is
  line_stays images (lines.Add region pass item instance number) is = pass_stays region pass is
  line_stays images (lines.Begin region pass at moment) is = (pass_stays region pass is.0, is.1)
  line_stays images (lines.Step region pass) is = pass_stays region pass is
  line_stays images (lines.Finish region pass) is = pass_stays region pass is
  line_stays images (lines.Load region pass) is = pass_stays region pass is
  line_stays images (lines.Word region pass index) is = pass_stays region pass is
  line_stays images (lines.Done region pass) is = pass_stays region pass is
  line_stays images (lines.Tick stamp) is = tt
  line_stays images lines.Flush is = tt

-- an image of another cluster, or none
other_cluster : (cluster : ℕ) (o : Option (List ℕ × List ℕ)) → is_of cluster o ≡ false → option_map (λ image. cluster_in image.1) o ≢ Some cluster
other_cluster cluster None h e = cc e
other_cluster cluster (Some image) h e =
    let same : cluster_in image.1 == cluster ≡ true = eq-eqb (cluster_in image.1) cluster (same_some (cluster_in image.1) cluster e) in cc

module _ (said : Said) (f : IsFine said) (file : List ℕ) (at capacity passes number : ℕ) where
  abbrev row : RegionRow
  row = record { file = file; image = at; capacity = capacity; passes = passes; line = number }

  row_added : (image : List ℕ × List ℕ) → length said.regions < 64 → slice_get said.images at ≡ Some image → may_open said file image.1 capacity passes ≡ true → IsFine (with_row said row)
  row_added image few there may =
      let (first, apart) = both ((spells_component file && not (has_file said.regions file)) && fits_image image.1 capacity passes) (not (has_cluster said.images said.regions (cluster_in image.1))) may in
      let (called, fits) = both (spells_component file && not (has_file said.regions file)) (fits_image image.1 capacity passes) first in
      let (component, new) = both (spells_component file) (not (has_file said.regions file)) called in
      let (sized, numbered) = both (nat_le (length image.1) capacity && nat_le capacity 65536) (nat_le 1 passes && nat_le passes 255) fits in
      let (room, bound) = both (nat_le (length image.1) capacity) (nat_le capacity 65536) sized in
      let (some, most) = both (nat_le 1 passes) (nat_le passes 255) numbered in
      let cluster : cluster_of said.images row ≡ Some (cluster_in image.1) = ap (λ o. option_map (λ (i : List ℕ × List ℕ). cluster_in i.1) o) there in
      record {
        ruled = record {
          few = omega (arith, few, length-append said.regions (row ∷ []));
          named = f.ruled.named;
          names = f.ruled.names;
          opened = each_snoc (IsRegion said.images) said.regions row f.ruled.opened (record {
            name = spelled file component;
            opens = (image, there, le_of (length image.1) capacity room);
            capacity = le_of capacity 65536 bound;
            passes = (le_of 1 passes some, le_of passes 255 most);
          });
          files = pairs_snoc (λ a b. a.file ≢ b.file) said.regions row f.ruled.files
              (λ i a h. unlike a.file file (none_passes (λ r. bytes_eq r.file file) said.regions (not_true (has_file said.regions file) new) i a h));
          clusters = pairs_snoc (λ a b. cluster_of said.images a ≢ cluster_of said.images b) said.regions row f.ruled.clusters
              (λ i a h e. other_cluster (cluster_in image.1) (slice_get said.images a.image)
              (none_passes (λ r. is_of (cluster_in image.1) (slice_get said.images r.image)) said.regions (not_true (has_cluster said.images said.regions (cluster_in image.1)) apart) i a h)
              (e ∙ cluster));
          placed = λ i step h. line_stays said.regions row said.images step.1 (f.ruled.placed i step h);
          rise = f.ruled.rise;
        };
        last = f.last;
      }

  opens_fine : (o : Option (List ℕ × List ℕ)) → length said.regions < 64 → slice_get said.images at ≡ o → FineSaid (opens o at number said file capacity passes)
  opens_fine None few there = tt
  opens_fine (Some image) few there =
      chosen FineSaid (may_open said file image.1 capacity passes) (Ok (with_row said row)) (Err (faults.Line Condition)) (λ may. row_added image few there may) (λ no. tt)

region_fine : (said : Said) → IsFine said → (place : Option ℕ) (number : ℕ) (file : List ℕ) (capacity passes : ℕ) → FineSaid (region_at place number said file capacity passes)
unfolding region_at
region_fine said f place number file capacity passes =
    chosen FineSaid (nat_le 64 (length said.regions)) (Err faults.Regions) (opened_on place number said file capacity passes) (λ full. tt) (λ more. at_place place (less_of 64 (length said.regions) more))
  where
    at_place : (p : Option ℕ) → length said.regions < 64 → FineSaid (opened_on p number said file capacity passes)
    at_place None few = tt
    at_place (Some at) few = opens_fine said f file at capacity passes number (slice_get said.images at) few refl

-- ---- steps

abbrev IsPass : List RegionRow → Option (ℕ × ℕ) → Type 0
IsPass rows None = Unit {0}
IsPass rows (Some p) = HasPass rows p.0 p.1

pass_there : (rows : List RegionRow) (place : Place) → IsPass rows (pass_of rows place)
pass_there rows place = at_place (position (λ row. bytes_eq row.file place.file) rows)
  where
    below : (at : ℕ) (o : Option RegionRow) → slice_get rows at ≡ o → IsPass rows (pass_below at o place.pass)
    below at None e = tt
    below at (Some row) e = chosen (IsPass rows) (nat_lt place.pass row.passes) (Some (at, place.pass)) None (λ less. (row, e, lt_of place.pass row.passes less)) (λ no. tt)

    at_place : (o : Option ℕ) → IsPass rows (pass_at rows o place.pass)
    at_place None = tt
    at_place (Some at) = below at (slice_get rows at) refl

-- a line that is placed, and a tick later than the last
abbrev IsGood : Said → Line → Type 0
IsGood said (lines.Tick stamp) = is_later said.last stamp ≡ true
IsGood said line = IsPlaced said.images said.regions line

abbrev GoodLine : Said → Option Line → Type 0
GoodLine said None = Unit {0}
GoodLine said (Some line) = IsGood said line

abbrev called : List ℕ → List ℕ × List ℕ → Bool
called name image = bytes_eq image.0 name

module _ (said : Said) where
  attach_good : (o : Option (ℕ × ℕ)) → IsPass said.regions o → GoodLine said (attaches o)
  attach_good None is = tt
  attach_good (Some p) is = is

  detach_good : (o : Option (ℕ × ℕ)) → IsPass said.regions o → GoodLine said (detaches o)
  detach_good None is = tt
  detach_good (Some p) is = is

  swap_good : (o : Option (ℕ × ℕ)) (slot : Slot) (given : Given) → IsPass said.regions o → GoodLine said (swaps o slot given)
  swap_good None slot given is = tt
  swap_good (Some p) slot given is = is

  add_good : (o : Option (ℕ × ℕ)) (slot : Slot) (number : ℤ) → IsPass said.regions o → GoodLine said (adds o slot number)
  add_good None slot number is = tt
  add_good (Some p) slot number is = is

  begin_good : (o : Option (ℕ × ℕ)) (image : Option ℕ) (moment : ℕ) → IsPass said.regions o → ((at : ℕ) → image ≡ Some at → at < length said.images) → GoodLine said (begins o image moment)
  begin_good None image moment is within = tt
  begin_good (Some p) None moment is within = tt
  begin_good (Some p) (Some at) moment is within = (is, within at refl)

  step_good : (o : Option (ℕ × ℕ)) → IsPass said.regions o → GoodLine said (steps_on o)
  step_good None is = tt
  step_good (Some p) is = is

  finish_good : (o : Option (ℕ × ℕ)) → IsPass said.regions o → GoodLine said (finishes o)
  finish_good None is = tt
  finish_good (Some p) is = is

  load_good : (o : Option (ℕ × ℕ)) → IsPass said.regions o → GoodLine said (loads o)
  load_good None is = tt
  load_good (Some p) is = is

  read_good : (o : Option (ℕ × ℕ)) (index : ℕ) → IsPass said.regions o → GoodLine said (reads o index)
  read_good None index is = tt
  read_good (Some p) index is = is

  end_good : (o : Option (ℕ × ℕ)) → IsPass said.regions o → GoodLine said (ends o)
  end_good None is = tt
  end_good (Some p) is = is

  image_within : (name : List ℕ) (at : ℕ) → image_named said.images name ≡ Some at → at < length said.images
  image_within name at h = by (nat_lt (position_or_len (called name) said.images) (length said.images)) refl h
    where
      by : (b : Bool) → nat_lt (position_or_len (called name) said.images) (length said.images) ≡ b → cond b (Some (position_or_len (called name) said.images)) None ≡ Some at → at < length said.images
      by true e h = subst (λ n. n < length said.images) (same_some (position_or_len (called name) said.images) at h) (lt_of (position_or_len (called name) said.images) (length said.images) e)
      by false e h = cc h

  line_good : (step : StepLine) → GoodLine said (step_of said step)
  unfolding step_of
  line_good (steps.Attach place) = attach_good (pass_of said.regions place) (pass_there said.regions place)
  line_good (steps.Detach place) = detach_good (pass_of said.regions place) (pass_there said.regions place)
  line_good (steps.Swap place slot given) = swap_good (pass_of said.regions place) slot given (pass_there said.regions place)
  line_good (steps.Add place slot number) = add_good (pass_of said.regions place) slot number (pass_there said.regions place)
  line_good (steps.Begin place image moment) = begin_good (pass_of said.regions place) (image_named said.images image) moment (pass_there said.regions place) (image_within image)
  line_good (steps.Step place) = step_good (pass_of said.regions place) (pass_there said.regions place)
  line_good (steps.Finish place) = finish_good (pass_of said.regions place) (pass_there said.regions place)
  line_good (steps.Load place) = load_good (pass_of said.regions place) (pass_there said.regions place)
  line_good (steps.Word place index) = read_good (pass_of said.regions place) index (pass_there said.regions place)
  line_good (steps.Done place) = end_good (pass_of said.regions place) (pass_there said.regions place)
  line_good (steps.Tick stamp) = chosen (GoodLine said) (is_later said.last stamp) (Some (lines.Tick stamp)) None (λ later. later) (λ no. tt)
  line_good steps.Flush = tt

-- earlier ticks are before a later one
before_tick : (last : Option Moment) (stamp : Moment) (line : Line) → is_later last stamp ≡ true → AtMost last line → IsBefore line stamp
before_tick None stamp (lines.Tick s) later most = absurd most
before_tick (Some last) stamp (lines.Tick s) later most =
    let after : microseconds last < microseconds stamp = lt_of (microseconds last) (microseconds stamp) later in
    let before : microseconds s ≤ microseconds last = most in
    let less : microseconds s < microseconds stamp = omega arith in
    less
before_tick last stamp line later most = tt

before_most : (stamp : Moment) (line : Line) → IsBefore line stamp → AtMost (Some stamp) line
before_most stamp (lines.Tick s) before =
    let less : microseconds s < microseconds stamp = before in
    let most : microseconds s ≤ microseconds stamp = omega arith in
    most
before_most stamp line before = tt

step_added : (said : Said) → IsFine said → (number : ℕ) (line : Line) → IsGood said line → IsFine (record said { steps = said.steps ++ (number, line) ∷ []; last = last_behind said.last line })
step_added said f number (lines.Tick stamp) good = record {
  ruled = record {
    few = f.ruled.few;
    named = f.ruled.named;
    names = f.ruled.names;
    opened = f.ruled.opened;
    files = f.ruled.files;
    clusters = f.ruled.clusters;
    placed = each_snoc (λ step. IsPlaced said.images said.regions step.1) said.steps (number, lines.Tick stamp) f.ruled.placed tt;
    rise = pairs_snoc (λ a b. Rises a.1 b.1) said.steps (number, lines.Tick stamp) f.ruled.rise (λ i step h. before_tick said.last stamp step.1 good (f.last i step h));
  };
  last = each_snoc (λ step. AtMost (Some stamp) step.1) said.steps (number, lines.Tick stamp)
      (λ i step h. before_most stamp step.1 (before_tick said.last stamp step.1 good (f.last i step h))) (let same : microseconds stamp ≤ microseconds stamp = omega arith in same);
}
step_added said f number line good = record {
  ruled = record {
    few = f.ruled.few;
    named = f.ruled.named;
    names = f.ruled.names;
    opened = f.ruled.opened;
    files = f.ruled.files;
    clusters = f.ruled.clusters;
    placed = each_snoc (λ step. IsPlaced said.images said.regions step.1) said.steps (number, line) f.ruled.placed good;
    rise = pairs_snoc (λ a b. Rises a.1 b.1) said.steps (number, line) f.ruled.rise (λ i step h. tt);
  };
  last = each_snoc (λ step. AtMost said.last step.1) said.steps (number, line) f.last tt;
}

added_line : (said : Said) → IsFine said → (number : ℕ) (o : Option Line) → GoodLine said o → FineSaid (with_line number said o)
added_line said f number None good = tt
added_line said f number (Some line) good = step_added said f number line good

step_fine : (said : Said) → IsFine said → (number : ℕ) (o : Option StepLine) → FineSaid (with_step number said o)
unfolding with_step
step_fine said f number None = tt
step_fine said f number (Some step) = added_line said f number (step_of said step) (line_good said step)

-- ---- lines

group_fine : (said : Said) → IsFine said → (o : Option Group) → FineSaid (with_group said o)
group_fine said f None = tt
group_fine said f (Some group) = record { ruled = f.ruled; last = f.last }

headed : (r : Result Said ScriptLineFault) → FineSaid r → Fine (in_head r)
headed (Ok said) f = (f, tt)
headed (Err fault) f = tt

stepped : (r : Result Said ScriptLineFault) → FineSaid r → Fine (in_steps r)
stepped (Ok said) f = (f, tt)
stepped (Err fault) f = tt

new_name : (said : Said) (name : List ℕ) → may_name said name ≡ true → IsNew name said.images
new_name said name h =
    let (component, new) = both (spells_component name) (not (is_some (image_named said.images name))) h in
    (spelled name component, not_some (image_named said.images name) (not_true (is_some (image_named said.images name)) new))

head_fine : (said : Said) → IsFine said → (number : ℕ) (line : List ℕ) (o : Option HeadLine) → Fine (with_head_line number said line o)
unfolding with_head_line
head_fine said f number line None = tt
head_fine said f number line (Some (heads.Image name)) =
    chosen Fine (may_name said name) (Ok (stages.Opening name, said)) (Err (faults.Line Condition)) (λ may. (f, new_name said name may)) (λ no. tt)
head_fine said f number line (Some (heads.Region file image capacity passes)) =
    headed (region_at (image_named said.images image) number said file capacity passes) (region_fine said f (image_named said.images image) number file capacity passes)
head_fine said f number line (Some heads.Log) = headed (with_group said (statement_of line)) (group_fine said f (statement_of line))
head_fine said f number line (Some heads.Start) = (f, tt)

inside : (name : List ℕ) (said : Said) → IsFine said → IsNew name said.images → (r : Result Layout LineFault) → Fine (in_image name said r)
inside name said f new (Ok draft) = (f, new)
inside name said f new (Err fault) = tt

whole_image : (name : List ℕ) (said : Said) → IsFine said → IsNew name said.images → (words : List ℕ) → Fine (with_image name said words)
unfolding with_image
whole_image name said f new words =
    chosen Fine (nat_le (length words) 65536) (Ok (stages.Head, record said { images = said.images ++ (name, words) ∷ [] }))
    (Err (faults.Line (Build (TooLarge (min (length words) 18446744073709551615))))) (λ fits. (image_added said name words f new, tt)) (λ no. tt)

image_line_fine : (name : List ℕ) (draft : Layout) (said : Said) → IsFine said → IsNew name said.images → (line : List ℕ) → Fine (with_image_line name draft said line)
unfolding with_image_line
image_line_fine name draft said f new line =
    chosen Fine (bytes_eq line (codes "end")) (with_image name said (image_words draft)) (in_image name said (with_said draft (line_of line)))
    (λ end. whole_image name said f new (image_words draft)) (λ more. inside name said f new (with_said draft (line_of line)))

line_fine : (number : ℕ) (stage : Stage) (said : Said) → FinePoint (stage, said) → (line : List ℕ) → Fine (with_script_line number (stage, said) line)
unfolding with_script_line
line_fine number stages.Head said f line = head_fine said f.0 number line (head_line line)
line_fine number (stages.Opening name) said f line = inside name said f.0 f.1 (with_head (line_of line))
line_fine number (stages.Image name draft) said f line = image_line_fine name draft said f.0 f.1 line
line_fine number stages.Steps said f line = stepped (with_step number said (step_line line)) (step_fine said f.0 number (step_line line))

full_line_fine : (number : ℕ) (p : Point) → FinePoint p → (o : Option (List ℕ)) → Fine (with_full_line number p o)
full_line_fine number (stage, said) f None = tt
full_line_fine number (stage, said) f (Some line) = line_fine number stage said f line

lines_fine : (all : List (List ℕ)) (number : ℕ) (p : Point) → FinePoint p → Fine (with_script_lines all number p)
unfolding with_script_lines
lines_fine [] number p f = f
lines_fine (line ∷ all) number p f = on (with_full_line number p (without_feed line)) (full_line_fine number p f (without_feed line)) (λ later g. lines_fine all (number + 1) later g)
  where
    on : (r : Result Point ScriptLineFault) → Fine r → ((later : Point) → FinePoint later → Fine (with_script_lines all (number + 1) later))
        → Fine (and_then r number (λ later. with_script_lines all (number + 1) later))
    on (Ok later) g again = again later g
    on (Err fault) g again = tt

abbrev RuledScript : {E : Type 0} → Result Script E → Type 0
RuledScript (Ok script) = KeepsRules script
RuledScript (Err fault) = Unit {0}

ended_fine : (after : ℕ) (p : Point) → FinePoint p → RuledScript (ended_at after p)
ended_fine after (stages.Head, said) f = tt
ended_fine after (stages.Opening name, said) f = tt
ended_fine after (stages.Image name draft, said) f = tt
ended_fine after (stages.Steps, said) f = f.0.ruled

whole_fine : (after : ℕ) (r : Result Point ScriptFault) → Fine r → RuledScript (whole after r)
whole_fine after (Ok p) f = ended_fine after p f
whole_fine after (Err fault) f = tt

nothing_fine : FinePoint (stages.Head, nothing)
nothing_fine = (
  record {
    ruled = record {
      few = omega arith;
      named = λ i x h. cc h;
      names = λ i j x y less h k. cc h;
      opened = λ i x h. cc h;
      files = λ i j x y less h k. cc h;
      clusters = λ i j x y less h k. cc h;
      placed = λ i x h. cc h;
      rise = λ i j x y less h k. cc h;
    };
    last = λ i x h. cc h;
  },
  tt,
)

script_ruled : (bytes : List ℕ) → RuledScript (script_of bytes)
unfolding script_of
script_ruled bytes = whole_fine (length (lines_of bytes) + 1) (with_script_lines (lines_of bytes) 1 (stages.Head, nothing)) (lines_fine (lines_of bytes) 1 (stages.Head, nothing) nothing_fine)

pub scripts_are_ruled : ScriptsAreRuled
scripts_are_ruled bytes script h = subst RuledScript h (script_ruled bytes)
