-- The logger's pass reads a region. Where nobody else acts, it sees its own loads alone, which leave the region and are no entries of
-- the fold's; and what it reads is what the region is.
use Rattle.std.proofs.Common.{◌≡◌, ◌≢◌, inl, inr, ℕ, zero, suc, ◌+◌, ◌-◌, ◌<◌, ◌≤◌, Bool, true, false, ◌||◌, ◌==◌, eq-eqb, ne_eqb, List, [], ◌∷◌, ◌++◌, append_assoc, append-nil, length, take, map, slice_index, slice_get, Option, Some, None, option_map, if◌then◌else◌, sym, refl, ap, ◌∙◌, subst, arith}
use Rattle.std.proofs.Math.Seq.{take-append-add}
use Rattle.std.proofs.lemmas.List.{map-append}
use Rattle.mmv_layout.specs.declared.rows.Layout.{Layout}
use Rattle.mmv_layout.specs.Rows.{layout_of}
use Rattle.region_core.specs.declared.act.Act.TheVariants.{Load}
use Rattle.region_core.specs.declared.act.Entry.{Entry}
use Rattle.region_core.specs.declared.mode.Mode.TheVariants.{Idle}
use Rattle.region_core.specs.Journal.{state, state_at}
use Rattle.region_core.specs.Readings.{IsFoundBetween, HasLayout}
use Rattle.region_core.specs.State.{State, word, g1, g2, opening}
use Rattle.region_core.proofs.Journals.{state-append}
use Rattle.region_core.proofs.Sound.{IsSound}
use Rattle.region_core.proofs.Positions.{sound_end}
use Rattle.region_rule.specs.declared.view.View.{View}
use Rattle.region_rule.specs.Views.{opening_of, now}
use Rattle.region_rule.specs.Reads.{Reads, WholeReading}
use Rattle.region_rule.specs.Seats.{MadeRegion, Token}
use Rattle.region_rule.specs.Steps.{entry, Extends}
use Rattle.region_words.specs.Calls.{Loads}
use Rattle.region_words.specs.Images.{mmv, mmv_laws}
use Rattle.fetch_engine.specs.Visits.{ShowsLayout, ShowsAtOnce, AreRefused, IsLone, IsRead, IsLoaded}
use Rattle.script_runs.specs.Groups.{shot_of}
use Rattle.script_runs.specs.Journals.{is_attached, is_look, without_looks}
use Rattle.script_runs.specs.Regions.{ScriptRegion}
use Rattle.run_passes.specs.Workers.{IsPassOf}
use Rattle.run_passes.specs.Works.{Grows, Quiet, seen_log}
use Rattle.run_passes.proofs.Quiet.{Left, left_by, with_look, grows_refl, grows_trans, grows_step, quiet_first, quiet_last}
use Rattle.run_passes.proofs.Slotted.{loads_grow}
use Rattle.run_passes.specs.Alike.{SayAlike, LayoutsAlike}

-- A pass that loads stays as it is

pub record Stays (v w : View) : Type 0 where
  pub number : w.number ≡ v.number
  pub start : w.start ≡ v.start
  pub passes : w.passes ≡ v.passes
  pub mode : w.mode ≡ v.mode

reads_stay : (v w : View) (found : List (ℕ × ℕ)) → Reads mmv v found w → Stays v w
reads_stay v w [] h = record { number = ap (λ (x : View). x.number) h; start = ap (λ (x : View). x.start) h; passes = ap (λ (x : View). x.passes) h; mode = ap (λ (x : View). x.mode) h }
reads_stay v w (x ∷ xs) h =
    let rest : Stays h.0 w = reads_stay h.0 w xs h.2 in
    let is = h.1.is in
    record {
      number = rest.number ∙ ap (λ (u : View). u.number) is;
      start = rest.start ∙ ap (λ (u : View). u.start) is;
      passes = rest.passes ∙ ap (λ (u : View). u.passes) is;
      mode = rest.mode ∙ ap (λ (u : View). u.mode) is;
    }

pub pass_still : (region : MadeRegion) (k : ℕ) (old new : Token) → IsLoaded old new → IsPassOf region k Idle old → IsPassOf region k Idle new
pass_still region k old new l p =
    let s : Stays old.view new.view = reads_stay old.view new.view l.loads.0 l.loads.1 in
    record {
      region_is = l.region ∙ p.region_is;
      number_is = s.number ∙ p.number_is;
      in_mode = record {
        mode_is = s.mode ∙ p.in_mode.mode_is;
        start_is = s.start ∙ (p.in_mode.start_is ∙ ap (λ (r : MadeRegion). r.words) (sym l.region));
        passes_are = s.passes ∙ (p.in_mode.passes_are ∙ ap (λ (r : MadeRegion). r.passes) (sym l.region));
      };
    }

-- Loads of the logger's pass

abbrev pub loads_by : ℕ → List (ℕ × ℕ) → List Entry
loads_by k found = map (λ (x : ℕ × ℕ). entry k (Load x.0)) found

-- a view saw nothing more but these
pub record Looked (logger : ℕ) (v w : View) : Type 0 where
  pub found : List (ℕ × ℕ)
  pub seen : w.seen ≡ v.seen ++ loads_by logger found
  pub number : w.number ≡ logger
  pub start : opening_of w ≡ opening_of v
  pub state : now w ≡ now v
  pub log : seen_log logger w ≡ seen_log logger v

looked_none : (logger : ℕ) (v w : View) → v.number ≡ logger → w ≡ v → Looked logger v w
looked_none logger v w number e = record {
  found = [];
  seen = ap (λ (x : View). x.seen) e ∙ sym (append-nil v.seen);
  number = ap (λ (x : View). x.number) e ∙ number;
  start = ap (λ (x : View). opening_of x) e;
  state = ap (λ (x : View). now x) e;
  log = ap (λ (x : View). seen_log logger x) e;
}

looked_more : (logger : ℕ) (v u w : View) → Looked logger v u → Looked logger u w → Looked logger v w
looked_more logger v u w a b = record {
  found = a.found ++ b.found;
  seen = b.seen
      ∙ (ap (λ (es : List Entry). es ++ loads_by logger b.found) a.seen
      ∙ (append_assoc v.seen (loads_by logger a.found) (loads_by logger b.found) ∙ ap (λ (es : List Entry). v.seen ++ es) (sym (map-append (λ (x : ℕ × ℕ). entry logger (Load x.0)) a.found b.found))));
  number = b.number;
  start = b.start ∙ a.start;
  state = b.state ∙ a.state;
  log = b.log ∙ a.log;
}

look_by : (s : State) (logger i : ℕ) → is_look s logger (entry logger (Load i)) ≡ true
look_by s logger i = ap (λ (b : Bool). b || is_attached (slice_get s.modes logger)) (eq-eqb logger logger refl)

-- one load, and what it found
looked_one : (logger : ℕ) (v w : View) (i n : ℕ) → v.number ≡ logger → Extends mmv v (Load i) n w → Quiet v w → Looked logger v w × (n ≡ word (now v) i)
looked_one logger v w i n number e q =
    let l : Left v w (Load i) n = left_by v w (Load i) n e q in
    let seen : w.seen ≡ v.seen ++ entry logger (Load i) ∷ [] = l.seen ∙ ap (λ (k : ℕ). v.seen ++ entry k (Load i) ∷ []) number in (
      record {
        found = (i, n) ∷ [];
        seen = seen;
        number = l.number ∙ number;
        start = l.start;
        state = l.state;
        log = ap (λ (s : State). without_looks s logger w.seen) l.start
            ∙ (ap (λ (es : List Entry). without_looks (opening_of v) logger es) seen ∙ with_look (opening_of v) logger v.seen (entry logger (Load i)) (look_by (now v) logger i));
      },
      l.found,
    )

reads_look : (logger : ℕ) (v w : View) (found : List (ℕ × ℕ)) → v.number ≡ logger → Reads mmv v found w → Quiet v w → Looked logger v w
reads_look logger v w [] number h q = looked_none logger v w number h
reads_look logger v w (x ∷ xs) number h q =
    let first : Grows v h.0 = grows_step v h.0 (Load x.0) x.1 h.1 in
    let last : Grows h.0 w = loads_grow h.0 w (xs, h.2) in
    let one = looked_one logger v h.0 x.0 x.1 number h.1 (quiet_first v h.0 w first last q) in
    looked_more logger v h.0 w one.0 (reads_look logger h.0 w xs one.0.number h.2 (quiet_last v h.0 w first last q))

pub loads_look : (logger : ℕ) (v w : View) → v.number ≡ logger → Loads v w → Quiet v w → Looked logger v w
loads_look logger v w number l q = reads_look logger v w l.0 number l.1 q

-- the state at each position from there on is that at the beginning
load_keeps : (logger : ℕ) (s : State) (found : List (ℕ × ℕ)) (n : ℕ) → state s (take n (loads_by logger found)) ≡ s
load_keeps logger s found zero = refl
load_keeps logger s [] (suc n) = refl
load_keeps logger s (x ∷ xs) (suc n) = load_keeps logger s xs n

state_then : (logger : ℕ) (v w : View) (p : ℕ) → Looked logger v w → length v.seen ≤ p → state_at (opening_of v) w.seen p ≡ now v
state_then logger v w p l h =
    let is : length v.seen + (p - length v.seen) ≡ p = omega arith in
    ap (λ (n : ℕ). state (opening_of v) (take n w.seen)) (sym is)
    ∙ (ap (λ (es : List Entry). state (opening_of v) (take (length v.seen + (p - length v.seen)) es)) l.seen
    ∙ (ap (λ (es : List Entry). state (opening_of v) es) (take-append-add v.seen (loads_by logger l.found) (p - length v.seen))
    ∙ (state-append (opening_of v) v.seen (take (p - length v.seen) (loads_by logger l.found)) ∙ load_keeps logger (now v) l.found (p - length v.seen))))

-- Whole readings

whole_grows : (v w : View) (first last : ℕ) (found : List (ℕ × ℕ)) → WholeReading mmv v first found last w → Grows v w
whole_grows v w first last found r =
    grows_trans v r.begun w (grows_step v r.begun (Load 2) first r.opens) (grows_trans r.begun r.ended w (loads_grow r.begun r.ended (found, r.each)) (grows_step r.ended w (Load 1) last r.closes))

-- it finds both generations
pub record Finds (logger : ℕ) (v w : View) (first last : ℕ) : Type 0 where
  pub looked : Looked logger v w
  pub first_is : first ≡ g2 (now v)
  pub last_is : last ≡ g1 (now v)

whole_finds : (logger : ℕ) (v w : View) (first last : ℕ) (found : List (ℕ × ℕ)) → v.number ≡ logger → WholeReading mmv v first found last w → Quiet v w → Finds logger v w first last
whole_finds logger v w first last found number r q =
    let a : Grows v r.begun = grows_step v r.begun (Load 2) first r.opens in
    let b : Grows r.begun r.ended = loads_grow r.begun r.ended (found, r.each) in
    let c : Grows r.ended w = grows_step r.ended w (Load 1) last r.closes in
    let rest : Quiet r.begun w = quiet_last v r.begun w a (grows_trans r.begun r.ended w b c) q in
    let one = looked_one logger v r.begun 2 first number r.opens (quiet_first v r.begun w a (grows_trans r.begun r.ended w b c) q) in
    let two : Looked logger r.begun r.ended = reads_look logger r.begun r.ended found one.0.number r.each (quiet_first r.begun r.ended w b c rest) in
    let three = looked_one logger r.ended w 1 last two.number r.closes (quiet_last r.begun r.ended w b c rest) in
    let to_end : Looked logger v r.ended = looked_more logger v r.begun r.ended one.0 two in
    record {
      looked = looked_more logger v r.ended w to_end three.0;
      first_is = one.1;
      last_is = three.1 ∙ ap (λ (s : State). g1 s) to_end.state;
    }

-- A load of generation 2 alone, or nothing

lone_grows : (v u : View) → IsLone v u → Grows v u
lone_grows v u (inl same) = subst (λ (x : View). Grows v x) (sym same) (grows_refl v)
lone_grows v u (inr (n, e)) = grows_step v u (Load 2) n e

lone_look : (logger : ℕ) (v u : View) → v.number ≡ logger → IsLone v u → Quiet v u → Looked logger v u
lone_look logger v u number (inl same) q = looked_none logger v u number same
lone_look logger v u number (inr (n, e)) q = (looked_one logger v u 2 n number e q).0

-- and a whole reading behind it
tried_grows : (v u w : View) (first last : ℕ) (found : List (ℕ × ℕ)) → IsLone v u → WholeReading mmv u first found last w → Grows v w
tried_grows v u w first last found lone r = grows_trans v u w (lone_grows v u lone) (whole_grows u w first last found r)

tried_finds : (logger : ℕ) (v u w : View) (first last : ℕ) (found : List (ℕ × ℕ)) → v.number ≡ logger → IsLone v u → WholeReading mmv u first found last w → Quiet v w → Finds logger v w first last
tried_finds logger v u w first last found number lone r q =
    let a : Grows v u = lone_grows v u lone in
    let b : Grows u w = whole_grows u w first last found r in
    let before : Looked logger v u = lone_look logger v u number lone (quiet_first v u w a b q) in
    let f : Finds logger u w first last = whole_finds logger u w first last found before.number r (quiet_last v u w a b q) in
    record {
      looked = looked_more logger v u w before f.looked;
      first_is = f.first_is ∙ ap (λ (s : State). g2 s) before.state;
      last_is = f.last_is ∙ ap (λ (s : State). g1 s) before.state;
    }

-- Tries that were refused

refused_grow : (tries : ℕ) (v w : View) → AreRefused tries v w → Grows v w
refused_grow zero v w h = subst (λ (x : View). Grows v x) (sym h) (grows_refl v)
refused_grow (suc tries) v w h = grows_trans v h.0 w (tried_grows v h.1.begun h.0 h.1.first h.1.last h.1.found h.1.lone h.1.loads) (refused_grow tries h.0 w h.2)

refused_look : (logger tries : ℕ) (v w : View) → v.number ≡ logger → AreRefused tries v w → Quiet v w → Looked logger v w
refused_look logger zero v w number h q = looked_none logger v w number h
refused_look logger (suc tries) v w number h q =
    let first : Grows v h.0 = tried_grows v h.1.begun h.0 h.1.first h.1.last h.1.found h.1.lone h.1.loads in
    let last : Grows h.0 w = refused_grow tries h.0 w h.2 in
    let one : Finds logger v h.0 h.1.first h.1.last = tried_finds logger v h.1.begun h.0 h.1.first h.1.last h.1.found number h.1.lone h.1.loads (quiet_first v h.0 w first last q) in
    looked_more logger v h.0 w one.looked (refused_look logger tries h.0 w one.looked.number h.2 (quiet_last v h.0 w first last q))

-- where a try was refused, the generations differ
refused_differ : (logger tries : ℕ) (v w : View) → v.number ≡ logger → AreRefused (suc tries) v w → Quiet v w → g1 (now v) ≢ g2 (now v)
refused_differ logger tries v w number h q same =
    let first : Grows v h.0 = tried_grows v h.1.begun h.0 h.1.first h.1.last h.1.found h.1.lone h.1.loads in
    let last : Grows h.0 w = refused_grow tries h.0 w h.2 in
    let one : Finds logger v h.0 h.1.first h.1.last = tried_finds logger v h.1.begun h.0 h.1.first h.1.last h.1.found number h.1.lone h.1.loads (quiet_first v h.0 w first last q) in
    h.1.differ (one.first_is ∙ (sym same ∙ sym one.last_is))

-- What was read

-- the words that a whole reading left are an image, where the generations agree
image_left : (v w : View) (act_found : ℕ) → Extends mmv v (Load 1) act_found w → g1 (now w) ≡ g2 (now w) → mmv.IsImage (now w).words
image_left v w n e same =
    let sound : IsSound mmv (state (opening v.start v.passes) ((v.seen ++ e.between) ++ entry v.number (Load 1) ∷ [])) =
    sound_end mmv mmv_laws v.start v.passes ((v.seen ++ e.between) ++ entry v.number (Load 1) ∷ []) e.journal in
    let here : IsSound mmv (now w) = subst (λ (x : View). IsSound mmv (now x)) (sym e.is) sound in
    here.image same

shown_alike : (logger : ℕ) (u w : View) (layout : Layout) → u.number ≡ logger → ShowsAtOnce u layout w → Quiet u w → (g1 (now u) ≡ g2 (now u)) × SayAlike layout (layout_of (now u).words)
shown_alike logger u w layout number s q =
    let f : Finds logger u w s.generation s.generation = tried_finds logger u s.begun w s.generation s.generation s.found number s.lone s.loads q in
    let same : g1 (now u) ≡ g2 (now u) = sym f.last_is ∙ f.first_is in
    let stands : now w ≡ now u = f.looked.state in
    let image : mmv.IsImage (now w).words = image_left s.loads.ended w s.generation s.loads.closes (subst (λ (x : State). g1 x ≡ g2 x) (sym stands) same) in
    let shows : ShowsLayout u layout w = s.shows in
    let p = shows.shown.0 in
    let q_at = shows.shown.1 in
    let between = shows.shown.2 in
    let since : length u.seen ≤ p = between.since in
    let order : p < q_at = between.order in
    let there : HasLayout mmv (state_at (opening_of u) w.seen p) shows.generation (mmv.form shows.words) = between.stretch p (omega arith) (omega arith) in (
      same,
      record {
        words = shows.words;
        others = (now u).words;
        says = shows.says;
        other_says = refl;
        alike = record {
          image = shows.image;
          other_image = subst (λ (x : State). mmv.IsImage x.words) stands image;
          form = sym there.form_is ∙ ap (λ (x : State). mmv.form x.words) (state_then logger u w p f.looked since);
          values = λ slot among.
              let c = shows.values slot among in
              let one : IsFoundBetween mmv (opening_of u) w.seen u.number p q_at (slot.word, slice_index shows.words slot.word) =
              subst (λ (x : ℕ × ℕ). IsFoundBetween mmv (opening_of u) w.seen u.number p q_at x) c.2 (between.each c.0 (slot.word, slice_index shows.words slot.word) c.1) in
              one.4 ∙ ap (λ (x : State). word x slot.word) (state_then logger u w one.0 f.looked (let after = one.1 in omega arith));
        };
      },
    )

-- a reading of a region where nobody else acts is like what the region shows
pub read_alike : (logger : ℕ) (v w : View) (layout : Option Layout) (r : ScriptRegion) → v.number ≡ logger → r.state ≡ now v → IsRead v layout w → Quiet v w → LayoutsAlike layout (option_map layout_of (shot_of r).image)
read_alike logger v w None r number stands h q =
    let differ : g1 (now v) ≢ g2 (now v) = refused_differ logger 2 v w number h q in
    let test : (g1 r.state == g2 r.state) ≡ false = ne_eqb (g1 r.state) (g2 r.state) (λ e. differ (subst (λ (s : State). g1 s ≡ g2 s) stands e)) in
    subst (λ (b : Bool). LayoutsAlike None (option_map layout_of (if b then Some r.state.words else None))) (sym test) tt
read_alike logger v w (Some layout) r number stands h q =
    let u : View = h.2 in
    let first : Grows v u = refused_grow h.0 v u h.3 in
    let last : Grows u w = tried_grows u h.4.begun w h.4.generation h.4.generation h.4.found h.4.lone h.4.loads in
    let before : Looked logger v u = refused_look logger h.0 v u number h.3 (quiet_first v u w first last q) in
    let shown = shown_alike logger u w layout before.number h.4 (quiet_last v u w first last q) in
    let here : r.state ≡ now u = stands ∙ sym before.state in
    let test : (g1 r.state == g2 r.state) ≡ true = eq-eqb (g1 r.state) (g2 r.state) (subst (λ (s : State). g1 s ≡ g2 s) (sym here) shown.0) in
    subst (λ (b : Bool). LayoutsAlike (Some layout) (option_map layout_of (if b then Some r.state.words else None))) (sym test)
    (subst (λ (s : State). SayAlike layout (layout_of s.words)) (sym here) shown.1)
