-- What tries of reading a region tell of its journal.
use Rattle.std.proofs.Common.{◌≡◌, ◌⊎◌, inl, inr, ℕ, zero, suc, ◌+◌, ◌<◌, ◌≤◌, List, [], ◌∷◌, ◌++◌, length, slice_index, Contains, Option, Some, None, append-nil, length-append, sym, refl, ap, ◌∙◌, subst, arith}
use Rattle.mmv_layout.specs.declared.rows.Layout.{Layout}
use Rattle.mmv_layout.specs.declared.rows.Slot.{Slot}
use Rattle.mmv_layout.specs.Form.{slots_of}
use Rattle.mmv_layout.specs.Rows.{layout_of}
use Rattle.region_core.specs.declared.mode.Mode.TheVariants.{Idle}
use Rattle.region_core.specs.declared.act.Entry.{Entry}
use Rattle.region_core.specs.State.{State, opening}
use Rattle.region_core.specs.Readings.{Reading, IsAgainTimes, IsAgain, IsAgainBetween, Shown}
use Rattle.region_core.proofs.Lasting.{again_longer, loads_below, shown_longer, times_longer}
use Rattle.region_rule.specs.declared.view.View.{View}
use Rattle.region_rule.specs.Views.{opening_of}
use Rattle.region_rule.specs.declared.fault.ReadFault.{ReadFault}
use Rattle.region_rule.specs.declared.fault.ReadFault.TheVariants.{Again}
use Rattle.region_rule.specs.Reads.{Reads, WholeReading, ReadsImage, ReadsAgain, ShowsIn, RefusedIn, numbered_from}
use Rattle.region_rule.specs.Seats.{Token, IsSame}
use Rattle.region_rule.proofs.Showing.{Follows, follows_reads, reads_more, numbered_or, length-numbered}
use Rattle.region_words.specs.Calls.{Loads}
use Rattle.region_words.specs.Images.{mmv}
use Rattle.region_words.proofs.Inside.{slots_below}
use Rattle.std.specs.Prelude.{option_map}
use Rattle.region_core.specs.declared.act.Act.TheVariants.{Load}
use Rattle.region_rule.specs.Steps.{Extends}
use Rattle.fetch_engine.specs.Hows.{shown_by}
use Rattle.fetch_engine.specs.declared.visits.How.{How}
use Rattle.fetch_engine.specs.Kept.{ShowsTold, TryFails, TryStays}
use Rattle.fetch_engine.specs.Tries.{AreRefusedBy, ReadsKeeping, RefusesBy, ShowsBy}
use Rattle.fetch_engine.specs.Visits.{ShowsLayout, ShowsAtOnce, IsLone, IsRefused, AreRefused, IsLoaded, IsReadBy, MissesAreMissed, ReadIsShown}

-- Loads

pub reads_join : (u v w : View) (xs ys : List (ℕ × ℕ)) → Reads mmv u xs v → Reads mmv v ys w → Reads mmv u (xs ++ ys) w
reads_join u v w [] ys r s = subst (λ (x : View). Reads mmv x ys w) r s
reads_join u v w (x ∷ xs) ys r s = (r.0, r.1, reads_join r.0 v w xs ys r.2 s)

pub no_loads : (v : View) → Loads v v
no_loads v = ([], refl)

pub loads_trans : (u v w : View) → Loads u v → Loads v w → Loads u w
loads_trans u v w f g = (f.0 ++ g.0, reads_join u v w f.0 g.0 f.1 g.1)

pub whole_loads : (v w : View) (first last : ℕ) (found : List (ℕ × ℕ)) → WholeReading mmv v first found last w → Loads v w
whole_loads v w first last found r = ((2, first) ∷ found ++ (1, last) ∷ [], reads_more mmv v r.ended w ((2, first) ∷ found) 1 last (r.begun, r.opens, r.each) r.closes)

pub loads_follow : (v w : View) → Loads v w → Follows v w
loads_follow v w l = follows_reads mmv v w l.0 l.1

pub one_load : (v u : View) (n : ℕ) → Extends mmv v (Load 2) n u → Loads v u
one_load v u n e = ((2, n) ∷ [], (u, e, refl))

lone_loads : (v u : View) → IsLone v u → Loads v u
lone_loads v u (inl same) = subst (λ (x : View). Loads v x) (sym same) (no_loads v)
lone_loads v u (inr (n, e)) = one_load v u n e

pub refused_once : (v w : View) → IsRefused v w → Loads v w
refused_once v w r = loads_trans v r.begun w (lone_loads v r.begun r.lone) (whole_loads r.begun w r.first r.last r.found r.loads)

pub shown_once : (v w : View) (layout : Layout) → ShowsAtOnce v layout w → Loads v w
shown_once v w layout s = loads_trans v s.begun w (lone_loads v s.begun s.lone) (whole_loads s.begun w s.generation s.generation s.found s.loads)

refused_loads : (n : ℕ) (v w : View) → AreRefused n v w → Loads v w
refused_loads zero v w h = ([], h)
refused_loads (suc n) v w h = loads_trans v h.0 w (refused_once v h.0 h.1) (refused_loads n h.0 w h.2)

-- one more try
pub refused_by_more : (kept : Option (List ℕ)) (n : ℕ) (v u w : View) → AreRefusedBy kept n v u → RefusesBy kept u w → AreRefusedBy kept (suc n) v w
refused_by_more kept zero v u w h r = (w, subst (λ (x : View). RefusesBy kept x w) h r, refl)
refused_by_more kept (suc n) v u w h r = (h.0, h.1, refused_by_more kept n h.0 u w h.2 r)

pub refused_more : (n : ℕ) (v u w : View) → AreRefused n v u → IsRefused u w → AreRefused (suc n) v w
refused_more zero v u w h r = (w, subst (λ (x : View). IsRefused x w) h r, refl)
refused_more (suc n) v u w h r = (h.0, h.1, refused_more n h.0 u w h.2 r)

-- Journals

-- what is told of a later view is told of an earlier one of the same pass
pub opening_same : (v u : View) → Follows v u → opening_of u ≡ opening_of v
opening_same v u f = λ j. opening (f.start j) (f.passes j)

longer_seen : (v u : View) → Follows v u → length v.seen ≤ length u.seen
longer_seen v u f =
    let wide : length u.seen ≡ length v.seen + length f.seen.0 = ap length f.seen.1 ∙ length-append v.seen f.seen.0 in
    omega arith

again_times : (n : ℕ) (v w : View) → AreRefused n v w → IsAgainTimes (opening_of v) w.seen n (length v.seen) v.number
again_times zero v w h = tt
again_times (suc n) v w h =
    let u : View = h.0 in
    let again : IsAgain (opening_of v) u.seen (length v.seen) v.number h.1.first h.1.last = h.1.again in
    let p = again.0 in
    let q = again.1 in
    let before : Follows v u = loads_follow v u (refused_once v u h.1) in
    let behind : Follows u w = loads_follow u w (refused_loads n u w h.2) in
    let more = behind.seen.0 in
    let here : IsAgainBetween (opening_of v) (u.seen ++ more) (length v.seen) v.number h.1.first h.1.last p q =
    again_longer (opening_of v) u.seen more (length v.seen) (length v.seen) v.number h.1.first h.1.last p q (omega arith) again.2 in
    let below : q < length u.seen = loads_below u.seen v.number q 1 again.2.closes in
    let rest : IsAgainTimes (opening_of v) w.seen n (length u.seen) v.number =
    subst (λ (s : State). IsAgainTimes s w.seen n (length u.seen) v.number) (opening_same v u before)
    (subst (λ (k : ℕ). IsAgainTimes (opening_of u) w.seen n (length u.seen) k) before.number (again_times n u w h.2)) in
    let later : IsAgainTimes (opening_of v) (w.seen ++ []) n (q + 1) v.number = times_longer (opening_of v) w.seen [] n (q + 1) (length u.seen) v.number (omega arith) rest in (
      h.1.first,
      h.1.last,
      p,
      q,
      subst (λ (es : List Entry). IsAgainBetween (opening_of v) es (length v.seen) v.number h.1.first h.1.last p q) (sym behind.seen.1) here,
      subst (λ (es : List Entry). IsAgainTimes (opening_of v) es n (q + 1) v.number) (append-nil w.seen) later,
    )

pub misses_are_missed : MissesAreMissed
misses_are_missed v w h = again_times 3 v w h

-- what is shown since a later position is shown since an earlier one
pub shown_since : (v u w : View) (reading : Reading mmv) → Follows v u → ShowsIn mmv u reading w → ShowsIn mmv v reading w
shown_since v u w reading f s =
    let moved : Shown mmv (opening_of v) w.seen (length u.seen) v.number reading =
    subst (λ (t : State). Shown mmv t w.seen (length u.seen) v.number reading) (opening_same v u f)
    (subst (λ (k : ℕ). Shown mmv (opening_of u) w.seen (length u.seen) k reading) f.number s) in
    let long : Shown mmv (opening_of v) (w.seen ++ []) (length v.seen) v.number reading =
    (moved.0, moved.1, shown_longer mmv (opening_of v) w.seen [] (length v.seen) (length u.seen) v.number moved.0 moved.1 reading (longer_seen v u f) moved.2) in
    subst (λ (es : List Entry). Shown mmv (opening_of v) es (length v.seen) v.number reading) (append-nil w.seen) long

pub read_is_shown : ReadIsShown
read_is_shown v w layout h =
    let u : View = h.2 in
    let f : Follows v u = loads_follow v u (refused_loads h.0 v u h.3) in
    let shows : ShowsLayout u layout w = h.4.shows in
    record {
      words = shows.words;
      image = shows.image;
      says = shows.says;
      generation = shows.generation;
      found = shows.found;
      shown = shown_since v u w (record { generation = shows.generation; form = mmv.form shows.words; found = shows.found }) f shows.shown;
      values = shows.values;
    }

-- and what is refused since then is refused since an earlier one
pub again_since : (v u w : View) (first last : ℕ) → Follows v u → RefusedIn u first last w → RefusedIn v first last w
again_since v u w first last f r =
    let moved : IsAgain (opening_of v) w.seen (length u.seen) v.number first last =
    subst (λ (t : State). IsAgain t w.seen (length u.seen) v.number first last) (opening_same v u f)
    (subst (λ (k : ℕ). IsAgain (opening_of u) w.seen (length u.seen) k first last) f.number r) in
    let long : IsAgain (opening_of v) (w.seen ++ []) (length v.seen) v.number first last =
    (moved.0, moved.1, again_longer (opening_of v) w.seen [] (length v.seen) (length u.seen) v.number first last moved.0 moved.1 (longer_seen v u f) moved.2) in
    subst (λ (es : List Entry). IsAgain (opening_of v) es (length v.seen) v.number first last) (append-nil w.seen) long

-- One try

-- each word of an image that was read was found
word_found : (words : List ℕ) (word : ℕ) → word < length words → Contains (numbered_from 0 words) (word, slice_index words word)
word_found words word below =
    let long = length-numbered 0 words in
    let same : 0 + word ≡ word = omega arith in
    (word, omega arith, numbered_or 0 words word (word, slice_index words word) below ∙ ap (λ (k : ℕ). (k, slice_index words word)) same)

slot_found : (words : List ℕ) → mmv.IsImage words → (slot : Slot) → Contains (slots_of words) slot → Contains (numbered_from 0 words) (slot.word, slice_index words slot.word)
slot_found words image slot there =
    word_found words slot.word (subst (λ (s : Slot). s.word < length words) there.2 (slots_below words image there.0 slot there.1))

pub shows_image : (v w : View) (words : List ℕ) → ReadsImage mmv v words w → ShowsAtOnce v (layout_of words) w
shows_image v w words r = record {
  begun = v;
  lone = inl refl;
  generation = r.generation;
  found = numbered_from 0 words;
  loads = r.loads;
  shows = record {
    words = words;
    image = r.image;
    says = refl;
    generation = r.generation;
    found = numbered_from 0 words;
    shown = r.shown;
    values = slot_found words r.image;
  };
}

pub refuses : (v w : View) (first last : ℕ) → ReadsAgain mmv v first last w → IsRefused v w
refuses v w first last r = record {
  begun = v;
  lone = inl refl;
  first = first;
  last = last;
  found = numbered_from 0 r.words;
  loads = r.loads;
  differ = r.differ;
  again = r.again;
}

-- Passes

pub same_trans : (a b c : Token) → IsSame Idle Idle a b → IsSame Idle Idle b c → IsSame Idle Idle a c
same_trans a b c f g = record { region = g.region ∙ f.region; number = g.number ∙ f.number; before = f.before; after = g.after }

pub unloaded : (a : Token) → IsLoaded a a
unloaded a = record { region = refl; loads = no_loads a.view }

pub loaded_trans : (a b c : Token) → IsLoaded a b → IsLoaded b c → IsLoaded a c
loaded_trans a b c f g = record { region = g.region ∙ f.region; loads = loads_trans a.view b.view c.view f.loads g.loads }

-- the pass has done nothing yet, or it is the same one still
abbrev pub HasTried : ℕ → Token → Token → Type 0
HasTried n a b = ((n ≡ 0) × (b ≡ a)) ⊎ IsSame Idle Idle a b

pub tried_more : (n : ℕ) (a b c : Token) → HasTried n a b → IsSame Idle Idle b c → IsSame Idle Idle a c
tried_more n a b c (inl (none, same)) g = subst (λ (t : Token). IsSame Idle Idle t c) same g
tried_more n a b c (inr f) g = same_trans a b c f g

-- what holds after so many tries by what is kept, each refused
pub record HasFailed (kept : Option (List ℕ)) (n : ℕ) (a b : Token) : Type 0 where
  pub tried : HasTried n a b
  pub refused : AreRefused n a.view b.view
  pub keeping : AreRefusedBy kept n a.view b.view
  pub loaded : IsLoaded a b

pub none_failed : (kept : Option (List ℕ)) (a : Token) → HasFailed kept 0 a a
none_failed kept a = record { tried = inl (refl, refl); refused = refl; keeping = refl; loaded = unloaded a }

-- one more try
fails_try : (kept : Option (List ℕ)) (n : ℕ) (a b c : Token) → HasFailed kept n a b → IsRefused b.view c.view → RefusesBy kept b.view c.view → IsSame Idle Idle b c → HasFailed kept (n + 1) a c
fails_try kept n a b c f refused exact s =
    let loads : IsLoaded b c = record { region = s.region; loads = refused_once b.view c.view refused } in
    let next : suc n ≡ n + 1 = omega arith in
    let more : AreRefused (suc n) a.view c.view = refused_more n a.view b.view c.view f.refused refused in
    let by : AreRefusedBy kept (suc n) a.view c.view = refused_by_more kept n a.view b.view c.view f.keeping exact in
    record {
      tried = inr (tried_more n a b c f.tried s);
      refused = subst (λ (k : ℕ). AreRefused k a.view c.view) next more;
      keeping = subst (λ (k : ℕ). AreRefusedBy kept k a.view c.view) next by;
      loaded = loaded_trans a b c f.loaded loads;
    }

pub fails_by : (kept old still : Option (List ℕ)) (n : ℕ) (a b c : Token) (fault : ReadFault) (first last : ℕ) → HasFailed kept n a b → old ≡ kept → TryFails old b.view still c.view fault → TryStays b c fault → fault ≡ Again first last
    → HasFailed kept (n + 1) a c × (still ≡ kept)
fails_by kept old still n a b c fault first last f same r s is =
    let fails : TryFails old b.view still c.view (Again first last) = subst (λ (x : ReadFault). TryFails old b.view still c.view x) is r in (
      fails_try kept n a b c f fails.0 (subst (λ (o : Option (List ℕ)). RefusesBy o b.view c.view) same fails.1) (subst (λ (x : ReadFault). TryStays b c x) is s),
      fails.2 ∙ same,
    )

-- a try that showed an image behind them
pub shows_told : (kept old after : Option (List ℕ)) (n : ℕ) (a b c : Token) (how : How) → n < 3 → HasFailed kept n a b → ShowsTold old b.view after c.view → IsSame Idle Idle b c
    → IsReadBy a (option_map layout_of (shown_by (Some how) after)) c
shows_told kept old None n a b c how few f shows s = absurd shows
shows_told kept old (Some words) n a b c how few f shows s = record {
  read = (n, few, b.view, f.refused, shows.0);
  stays = tried_more n a b c f.tried s;
  loaded = loaded_trans a b c f.loaded (record { region = s.region; loads = shown_once b.view c.view (layout_of words) shows.0 });
}

pub shows_kept : (kept old after : Option (List ℕ)) (n : ℕ) (a b c : Token) (how : How) → n < 3 → HasFailed kept n a b → old ≡ kept → ShowsTold old b.view after c.view
    → ReadsKeeping kept a.view (option_map layout_of (shown_by (Some how) after)) after c.view
shows_kept kept old None n a b c how few f same shows = absurd shows
shows_kept kept old (Some words) n a b c how few f same shows =
    (n, few, b.view, f.keeping, words, subst (λ (o : Option (List ℕ)). ShowsBy o b.view words c.view) same shows.1, refl, refl)

pub gives_up : (kept : Option (List ℕ)) (a b : Token) → HasFailed kept 3 a b → IsReadBy a None b
gives_up kept a b f = record { read = f.refused; stays = tried_thrice f.tried; loaded = f.loaded }
  where
    tried_thrice : HasTried 3 a b → IsSame Idle Idle a b
    tried_thrice (inl (none, same)) = absurd (omega arith)
    tried_thrice (inr g) = g

pub keeps_on : (kept still : Option (List ℕ)) (a b : Token) → HasFailed kept 3 a b → still ≡ kept → ReadsKeeping kept a.view None still b.view
keeps_on kept still a b f same = (f.keeping, same)
