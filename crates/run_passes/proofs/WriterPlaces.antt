-- Where the regions of a script are served, and what a line that is run at one position leaves at all.
use Rattle.std.proofs.Common.{◌≡◌, ◌≢◌, inr, ⊎_elim, ℕ, ◌+◌, ◌-◌, ◌<◌, ◌≤◌, ◌^◌, Bool, true, false, ◌&&◌, eqb, eq-eqb, ne_eqb, leb-true, nat_lt, List, [], ◌∷◌, length, length-append, length-set, replicate, slice_get, if◌then◌else◌, Option, Some, sym, refl, ap, ◌∙◌, subst, arith}
use Rattle.std.proofs.lemmas.List.{length-replicate}
use Rattle.std.proofs.lemmas.Option.{slice_get_within}
use Rattle.region_core.specs.State.{with_zeros}
use Rattle.region_rule.specs.Seats.{MadeRegion}
use Rattle.fetch_engine.specs.declared.server.Mounted.{Mounted}
use Rattle.run_script.specs.Rules.{KeepsRules, IsPlaced}
use Rattle.run_script.specs.declared.script.RegionRow.{RegionRow}
use Rattle.run_script.specs.declared.script.Line.{Line}
use Rattle.run_script.specs.declared.script.Line.TheVariants as lines
use Rattle.run_script.specs.declared.script.Script.{Script}
use Rattle.script_runs.specs.Regions.{words_at, words_or_none}
use Rattle.run_passes.specs.Crews.{cluster_of, Serves, ServesScript}
use Rattle.run_passes.proofs.Crewing.{get_set_same, get_set_other, same_or_other}
use Rattle.run_passes.proofs.Placing.{one_place, one_row}
use Rattle.run_passes.specs.declared.writer.Writer.{Writer}
use Rattle.run_passes.specs.declared.writer.Writer.TheVariants as writers
use Rattle.run_script.specs.Recording.{place_of, is_at, suits, fits_in, image_words}
use Rattle.run_passes.specs.Writers.{HasRoom, IsWriter, RunsLine, RunsLines, StaysWriter}
use Rattle.run_passes.specs.Hands.{ActsAt, ArePresent, AreWriters, Comes, HaveRun, IsReadyAt, IsServedAt, StayAway}
use Rattle.run_passes.proofs.Lined.{both_true, names_pass, region_in, runs_none, runs_one}

pub the_same : {A : Type 0} (xs : List A) (j i : ℕ) (x y : A) → slice_get xs j ≡ Some x → slice_get xs i ≡ Some y → j ≡ i → x ≡ y
the_same xs j i x y e f same = let g : Some x ≡ Some y = sym e ∙ (ap (λ (n : ℕ). slice_get xs n) same ∙ f) in cc

module _ (script : Script) (server : List Mounted) (seats : ℕ) (keeps : KeepsRules script) (serves : ServesScript script seats server) where
  -- one region, one position; and the other way round
  pub one_at : (i j n : ℕ) → IsServedAt script server i j → IsServedAt script server i n → j ≡ n
  one_at i j n a b =
      let rows : a.row ≡ b.row = the_same script.regions i i a.row b.row a.is b.is refl in
      one_place 0 server j n a.mounted b.mounted serves.in_order.ascend a.there b.there (a.cluster ∙ (ap (λ (row : RegionRow). cluster_of script row) rows ∙ sym b.cluster))

  pub one_from : (i h j : ℕ) → IsServedAt script server i j → IsServedAt script server h j → i ≡ h
  one_from i h j a b =
      let same : a.mounted ≡ b.mounted = the_same server j j a.mounted b.mounted a.there b.there refl in
      one_row script i h a.row b.row keeps a.is b.is (sym a.cluster ∙ (ap (λ (m : Mounted). m.cluster) same ∙ b.cluster))

  -- a region was made on its image
  pub made_at : (i j : ℕ) (a : IsServedAt script server i j) → Serves script seats a.row a.mounted
  made_at i j a =
      let found = serves.each i a.row a.is in
      let same : found.0 ≡ j = one_place 0 server found.0 j found.1 a.mounted serves.in_order.ascend found.2 a.there (found.3.cluster ∙ sym a.cluster) in
      subst (λ (m : Mounted). Serves script seats a.row m) (the_same server found.0 j found.1 a.mounted found.2 a.there same) found.3

  abbrev zeros : ℕ → List ℕ
  zeros n = replicate n 0

  zeros_long : (words : List ℕ) (capacity : ℕ) → length words ≤ capacity → length (with_zeros words capacity) ≡ capacity
  zeros_long words capacity h =
      let n : ℕ = capacity - length words in
      let long : length (zeros n) ≡ n = length-replicate n 0 in
      let both : length (with_zeros words capacity) ≡ length words + length (zeros n) = length-append words (zeros n) in
      both ∙ (ap (λ (m : ℕ). length words + m) long ∙ (omega arith))

  -- with as many words as its row says
  pub capacity_at : (i j : ℕ) (a : IsServedAt script server i j) → length a.mounted.region.words ≡ a.row.capacity
  capacity_at i j a =
      let opens = (keeps.opened i a.row a.is).opens in
      let words : words_at script.images a.row.image ≡ opens.0.1 = ap words_or_none opens.1 in
      let fits : length (words_at script.images a.row.image) ≤ a.row.capacity = subst (λ (ws : List ℕ). length ws ≤ a.row.capacity) (sym words) opens.2 in
      ap (λ (ws : List ℕ). length ws) (made_at i j a).words ∙ zeros_long (words_at script.images a.row.image) a.row.capacity fits

  -- a change that a line begins has room
  room_in : (row : RegionRow) (line : Line) (i k : ℕ) → slice_get script.regions i ≡ Some row → place_of line ≡ Some (i, k) → suits script line ≡ true → HasRoom script.images line row.capacity
  room_in row (lines.Begin r p image moment) i k is e s =
      let first : r ≡ i = ap region_in e in
      let both = both_true (fits_in (length (image_words script.images image)) (slice_get script.regions r)) (nat_lt moment (2 ^ 63)) s in
      let there : slice_get script.regions r ≡ Some row = ap (λ (n : ℕ). slice_get script.regions n) first ∙ is in
      leb-true (length (image_words script.images image)) row.capacity (sym (ap (λ (o : Option RegionRow). fits_in (length (image_words script.images image)) o) there) ∙ both.0)
  room_in row (lines.Attach r p) i k is e s = tt
  room_in row (lines.Detach r p) i k is e s = tt
  room_in row (lines.Swap r p item instance value) i k is e s = tt
  room_in row (lines.Add r p item instance number) i k is e s = tt
  room_in row (lines.Step r p) i k is e s = tt
  room_in row (lines.Finish r p) i k is e s = tt
  room_in row (lines.Load r p) i k is e s = tt
  room_in row (lines.Word r p index) i k is e s = tt
  room_in row (lines.Done r p) i k is e s = tt
  room_in row (lines.Tick stamp) i k is e s = tt
  room_in row lines.Flush i k is e s = tt

  -- A line of a writer, at the position of its region

  module _ (number i at : ℕ) (place : IsServedAt script server i at) (line : Line) (named : place_of line ≡ Some (i, number)) (old : List Writer) (writers_are : AreWriters server number old) (present : ArePresent script server number old) where
    there_now : is_at i number (place_of line) ≡ true
    there_now = ap (λ (o : Option (ℕ × ℕ)). is_at i number o) named ∙ (ap (λ (b : Bool). b && eqb number number) (eq-eqb i i refl) ∙ eq-eqb number number refl)

    has_pass : IsPlaced script.images script.regions line → number < place.row.passes
    has_pass placed =
        let h = names_pass script.images script.regions line i number placed named in
        let same : h.0 ≡ place.row = the_same script.regions i i h.0 place.row h.1 place.is refl in
        subst (λ (r : RegionRow). number < r.passes) same h.2

    pub ready_at : IsPlaced script.images script.regions line → suits script line ≡ true → Comes script server number line old → IsReadyAt script server at line old
    ready_at placed suit comes mounted writer there is =
        let same : place.mounted ≡ mounted = the_same server at at place.mounted mounted place.there there refl in
        let room : HasRoom script.images line (length place.mounted.region.words) = subst (λ (n : ℕ). HasRoom script.images line n) (sym (capacity_at i at place)) (room_in place.row line i number place.is named suit) in (
          (number, subst (λ (m : Mounted). IsWriter m.region number writer) same (present i at place writer (has_pass placed) is)),
          comes i at place writer there_now is,
          subst (λ (m : Mounted). HasRoom script.images line (length m.region.words)) same room,
        )

    module _ (new : List Writer) (How : MadeRegion → Writer → Writer → Type 0) (acts : ActsAt server at old new How) (stays : (region : MadeRegion) (was done : Writer) → How region was done → StaysWriter region was done) (placed : IsPlaced script.images script.regions line) where
      within : at < length old
      within = slice_get_within old at acts.was acts.before

      now_at : slice_get new at ≡ Some acts.done
      now_at = ap (λ (l : List Writer). slice_get l at) acts.is ∙ get_set_same old at acts.done within

      now_else : (j : ℕ) → j ≢ at → slice_get new j ≡ slice_get old j
      now_else j n = ap (λ (l : List Writer). slice_get l j) acts.is ∙ get_set_other old at j acts.done n

      mounted_is : place.mounted ≡ acts.mounted
      mounted_is = the_same server at at place.mounted acts.mounted place.there acts.there refl

      was_writer : IsWriter acts.mounted.region number acts.was
      was_writer = subst (λ (m : Mounted). IsWriter m.region number acts.was) mounted_is (present i at place acts.was (has_pass placed) acts.before)

      done_writer : IsWriter acts.mounted.region number acts.done
      done_writer = stays acts.mounted.region acts.was acts.done acts.how number was_writer

      done_as : (j : ℕ) (mounted : Mounted) (writer : Writer) → j ≡ at → slice_get server j ≡ Some mounted → slice_get new j ≡ Some writer → IsWriter mounted.region number writer
      done_as j mounted writer same e f =
          let m : acts.mounted ≡ mounted = the_same server at j acts.mounted mounted acts.there e (sym same) in
          let w : acts.done ≡ writer = the_same new at j acts.done writer now_at f (sym same) in
          subst (λ (x : Mounted). IsWriter x.region number writer) m (subst (λ (x : Writer). IsWriter acts.mounted.region number x) w done_writer)

      pub writers_then : AreWriters server number new
      writers_then = record {
        as_many = ap (λ (l : List Writer). length l) acts.is ∙ (length-set old at acts.done ∙ writers_are.as_many);
        each = λ j mounted writer e f. ⊎_elim
            (λ (same : j ≡ at). inr (done_as j mounted writer same e f))
            (λ (n : j ≢ at). writers_are.each j mounted writer e (sym (now_else j n) ∙ f))
            (same_or_other j at);
      }

      pub present_then : ArePresent script server number new
      present_then h j a writer below f = ⊎_elim
          (λ (same : j ≡ at). done_as j a.mounted writer same a.there f)
          (λ (n : j ≢ at). present h j a writer below (sym (now_else j n) ∙ f))
          (same_or_other j at)

      not_away : (writer : Writer) → IsWriter acts.mounted.region number writer → writer ≡ writers.Away → ⊥
      not_away writer w e = subst (λ (x : Writer). IsWriter acts.mounted.region number x) e w

      pub away_then : StayAway old new
      away_then j was done e f = ⊎_elim
          (λ (same : j ≡ at).
          let w : acts.was ≡ was = the_same old at j acts.was was acts.before e (sym same) in
          let d : acts.done ≡ done = the_same new at j acts.done done now_at f (sym same) in
          ((λ (gone : was ≡ writers.Away). absurd (not_away acts.was was_writer (w ∙ gone))), (λ (gone : done ≡ writers.Away). absurd (not_away acts.done done_writer (d ∙ gone)))))
          (λ (n : j ≢ at).
          let same_one : was ≡ done = the_same old j j was done e (sym (now_else j n) ∙ f) refl in
          ((λ (gone : was ≡ writers.Away). sym same_one ∙ gone), (λ (gone : done ≡ writers.Away). same_one ∙ gone)))
          (same_or_other j at)

      -- where memory sufficed, each pass has run its own lines of this one
      pub run_then : ((region : MadeRegion) (was done : Writer) → How region was done → RunsLine region script.images line was done) → HaveRun script server number ((0, line) ∷ []) old new
      run_then runs h j a was done below e f = ⊎_elim
          (λ (same : h ≡ i).
          let here : j ≡ at = one_at i j at (subst (λ (x : ℕ). IsServedAt script server x j) same a) place in
          let w : acts.was ≡ was = the_same old at j acts.was was acts.before e (sym here) in
          let d : acts.done ≡ done = the_same new at j acts.done done now_at f (sym here) in
          let one : RunsLines script.images (line ∷ []) acts.was acts.done = runs_one acts.mounted.region script.images line acts.was acts.done (runs acts.mounted.region acts.was acts.done acts.how) in
          let is_here : is_at h number (place_of line) ≡ true = ap (λ (x : ℕ). is_at x number (place_of line)) same ∙ there_now in
          subst (λ (b : Bool). RunsLines script.images (if b then line ∷ [] else []) was done) (sym is_here)
          (subst (λ (x : Writer). RunsLines script.images (line ∷ []) x done) w (subst (λ (x : Writer). RunsLines script.images (line ∷ []) acts.was x) d one)))
          (λ (other : h ≢ i).
          let apart : j ≢ at = λ same. other (one_from h i at (subst (λ (x : ℕ). IsServedAt script server h x) same a) place) in
          let same_one : was ≡ done = the_same old j j was done e (sym (now_else j apart) ∙ f) refl in
          let elsewhere : is_at h number (place_of line) ≡ false = ap (λ (o : Option (ℕ × ℕ)). is_at h number o) named ∙ ap (λ (b : Bool). b && eqb number number) (ne_eqb i h (λ e. other (sym e))) in
          subst (λ (b : Bool). RunsLines script.images (if b then line ∷ [] else []) was done) (sym elsewhere)
          (subst (λ (x : Writer). RunsLines script.images [] was x) same_one (runs_none script.images was)))
          (same_or_other h i)

-- a line of another writer
pub run_not : (script : Script) (server : List Mounted) (number i k : ℕ) (line : Line) (list : List Writer) → place_of line ≡ Some (i, k) → k ≢ number → HaveRun script server number ((0, line) ∷ []) list list
run_not script server number i k line list named other h j a was done below e f =
    let same_one : was ≡ done = the_same list j j was done e f refl in
    let elsewhere : is_at h number (place_of line) ≡ false = ap (λ (o : Option (ℕ × ℕ)). is_at h number o) named ∙ by_first (eqb i h) in
    subst (λ (b : Bool). RunsLines script.images (if b then line ∷ [] else []) was done) (sym elsewhere)
    (subst (λ (x : Writer). RunsLines script.images [] was x) same_one (runs_none script.images was))
  where
    by_first : (b : Bool) → (b && eqb k number) ≡ false
    by_first true = ne_eqb k number other
    by_first false = refl
