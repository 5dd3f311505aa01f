-- The journals that a seat's passes have seen behind the writers: each is legal, and has just what the writers made of their lines, and
-- loads of the seat's pass.
use Rattle.std.proofs.Common.{◌≡◌, ◌≢◌, ℕ, zero, suc, ◌+◌, ◌-◌, ◌<◌, List, [], ◌∷◌, ◌++◌, All, length, map, replicate, slice_get, Some, ⊎_elim, sym, refl, ap, ◌∙◌, subst, arith}
use Rattle.std.specs.Global.{Vec}
use Rattle.std.proofs.lemmas.Option.{get_or_from_slice_get, slice_get_within}
use Rattle.region_core.specs.declared.act.Entry.{Entry}
use Rattle.region_core.specs.declared.mode.Mode.{Mode}
use Rattle.region_core.specs.declared.mode.Mode.TheVariants.{Idle}
use Rattle.region_core.specs.Journal.{own, state, IsJournal}
use Rattle.region_core.specs.Shape.{IsWord}
use Rattle.region_core.specs.State.{IsIn, State, opening, with_zeros}
use Rattle.region_rule.specs.declared.view.View.{View}
use Rattle.region_rule.specs.Seats.{MadeRegion, Token}
use Rattle.region_rule.specs.Views.{count, now, opening_of}
use Rattle.region_words.specs.Images.{mmv, mmv_laws}
use Rattle.fetch_engine.specs.Servers.{IsSeated, Seated}
use Rattle.fetch_engine.specs.Visits.{AreLoaded, IsLoaded}
use Rattle.fetch_engine.specs.declared.server.Mounted.{Mounted}
use Rattle.run_script.specs.Rules.{KeepsRules}
use Rattle.run_script.specs.declared.script.Script.{Script}
use Rattle.script_runs.specs.Regions.{words_at, words_or_none}
use Rattle.run_passes.specs.Crews.{Serves}
use Rattle.run_passes.specs.Lasts.{AreLast}
use Rattle.run_passes.specs.Openings.{AreMade}
use Rattle.run_passes.proofs.Begun.{as_many_seated, get_there}
use Rattle.run_passes.proofs.Crewing.{same_or_other}
use Rattle.run_passes.proofs.Seated.{the_one}
use Rattle.run_passes.proofs.Starting.{fresh_at, last_fresh, own_fresh}
use Rattle.run_passes.specs.Hands.{IsServedAt, WritesLines}
use Rattle.run_script.specs.Recording.{lines_of}
use Rattle.run_passes.specs.Written.{HaveWritten}
use Rattle.run_passes.proofs.Handed.{get_mapped}
use Rattle.run_passes.proofs.WriterPlaces.{capacity_at, made_at}
use Rattle.run_passes.proofs.Ready.{as_many_made, row_at}
use Rattle.record_run.specs.Beside.{AtJournals, IsLegal, LoggerLoads, SeesOn, StandsBehind, WritersRan}
use Rattle.record_run.specs.Gathered.{HaveGathered}
use Rattle.record_run.specs.Pictured.{AreImages}
use Rattle.record_run.proofs.Further.{AreLoads, Ended, Looked, Stood, counted, ended, legal_then, loads_then, looked, mode_then, number_then, passes_is, stands_then, start_is, stood}

-- Images, with zeros behind them

at_item : {A : Type 0} (P : A → Type 0) (xs : List A) (i : ℕ) (x : A) → All P xs → slice_get xs i ≡ Some x → P x
at_item {A} P xs i x all e = subst P (get_or_from_slice_get xs i x x e) (all i x (slice_get_within xs i x e))

zeros_fit : (n : ℕ) → All IsWord (replicate n 0)
zeros_fit zero k d h = absurd (omega arith)
zeros_fit (suc n) zero d h = omega arith
zeros_fit (suc n) (suc k) d h = zeros_fit n k d (omega arith)

-- Loads

as_many_loaded : (olds news : List Token) → AreLoaded olds news → length news ≡ length olds
as_many_loaded [] [] h = refl
as_many_loaded [] (new ∷ news) h = absurd h
as_many_loaded (old ∷ olds) [] h = absurd h
as_many_loaded (old ∷ olds) (new ∷ news) h = ap suc (as_many_loaded olds news h.1)

loaded_both : (olds news : List Token) (j : ℕ) (old new : Token) → AreLoaded olds news → slice_get olds j ≡ Some old → slice_get news j ≡ Some new → IsLoaded old new
loaded_both [] news j old new h e f = absurd (cc)
loaded_both (x ∷ olds) [] j old new h e f = absurd h
loaded_both (x ∷ olds) (y ∷ news) zero old new h e f =
    let a : x ≡ old = cc in
    let b : y ≡ new = cc in
    subst (λ (t : Token). IsLoaded t new) a (subst (λ (t : Token). IsLoaded x t) b h.0)
loaded_both (x ∷ olds) (y ∷ news) (suc j) old new h e f = loaded_both olds news j old new h.1 e f

looked_both : (olds news : List Token) (j : ℕ) (old new : Token) → AreLoaded olds news → slice_get olds j ≡ Some old → slice_get news j ≡ Some new → Looked old.view new.view
looked_both olds news j old new h e f = let loads = (loaded_both olds news j old new h e f).loads in looked old.view new.view loads.0 loads.1

-- The seat's passes

module _ (script : Script) (server : List Mounted) (passes : List (Vec Token)) (first : Seated) (keeps : KeepsRules script) (made : AreMade script server passes (first ∷ [])) where
  as_many_first : length first.tokens ≡ length server
  as_many_first = as_many_seated server first.tokens (made.seated 0 first refl)

  -- the seat's pass of a region was the last one, and had seen nothing
  first_fresh : (i j : ℕ) (at : IsServedAt script server i j) (token : Token) → slice_get first.tokens j ≡ Some token → token ≡ fresh_at at.mounted.region at.row.passes
  first_fresh i j at token e =
      let lists = made.lists in
      let within = slice_get_within server j at.mounted at.there in
      let list = get_there passes j (omega arith) in
      last_fresh first j at.mounted list.0.items token (made.each j at.mounted list.0 at.there list.1) e
      ∙ ap (λ (n : ℕ). fresh_at at.mounted.region n) (as_many_made script server passes (first ∷ []) keeps made i j at list.0 list.1)

  module _ (final : List Token) (loaded : AreLoaded first.tokens final) where
    looked_first : (i j : ℕ) (at : IsServedAt script server i j) (last : Token) → slice_get final j ≡ Some last → Looked (fresh_at at.mounted.region at.row.passes).view last.view
    looked_first i j at last e =
        let long = as_many_loaded first.tokens final loaded in
        let within = slice_get_within final j last e in
        let before = get_there first.tokens j (omega arith) in
        subst (λ (t : Token). Looked t.view last.view) (first_fresh i j at before.0 before.1) (looked_both first.tokens final j before.0 last loaded before.1 e)

    -- passes that have loaded, and done nothing else
    loaded_first : AtJournals IsLegal script server first.tokens → AtJournals IsLegal script server final × AtJournals LoggerLoads script server final
    loaded_first begun = (
      λ i j at last e.
          let long = as_many_loaded first.tokens final loaded in
          let within = slice_get_within final j last e in
          let before = get_there first.tokens j (omega arith) in
          let a = looked_first i j at last e in
          let fresh = subst (λ (t : Token). IsLegal script server i j at t.view.seen) (first_fresh i j at before.0 before.1) (begun i j at before.0 before.1) in
          subst (λ (n : ℕ). IsJournal mmv at.mounted.region.words n last.view.seen) a.passes (subst (λ (ws : List ℕ). IsJournal mmv ws last.view.passes last.view.seen) a.start (a.legal fresh)),
      λ i j at last e.
          let a = looked_first i j at last e in
          let all : own at.row.passes last.view.seen ≡ a.made = ap (λ (l : List Entry). own at.row.passes l) a.seen ∙ a.made_are in
          subst (λ (l : List Entry). AreLoads l) (sym all) a.looks,
    )

  -- a region is made on an image of its script
  image_at : (i j : ℕ) (at : IsServedAt script server i j) → AreImages script → mmv.IsImage at.mounted.region.words
  image_at i j at images =
      let serves : Serves script 1 at.row at.mounted = made_at script server 1 keeps made.serves i j at in
      let ruled = keeps.opened i at.row at.is in
      let opens = ruled.opens in
      let words_are : words_at script.images at.row.image ≡ opens.0.1 = ap words_or_none opens.1 in
      let image : mmv.IsImage (words_at script.images at.row.image) =
      subst (λ (ws : List ℕ). mmv.IsImage ws) (sym words_are) (at_item (λ (image : List ℕ × List ℕ). mmv.IsImage image.1) script.images at.row.image opens.0 images opens.1) in
      let long = capacity_at script server 1 keeps made.serves i j at in
      let capacity = ruled.capacity in
      let same : length (with_zeros (words_at script.images at.row.image) at.row.capacity) ≡ length at.mounted.region.words = ap (λ (ws : List ℕ). length ws) (sym serves.words) in
      subst (λ (ws : List ℕ). mmv.IsImage ws) (sym serves.words)
      (mmv_laws.longer (words_at script.images at.row.image) (replicate (at.row.capacity - length (words_at script.images at.row.image)) 0) image (zeros_fit (at.row.capacity - length (words_at script.images at.row.image))) (omega arith)).image

  -- what has seen nothing is legal
  first_legal : AreImages script → AtJournals IsLegal script server first.tokens
  first_legal images i j at token e =
      let passes_are = (made_at script server 1 keeps made.serves i j at).passes in
      let ruled = keeps.opened i at.row at.is in
      let few = ruled.passes.1 in
      let capacity = ruled.capacity in
      let long = capacity_at script server 1 keeps made.serves i j at in
      subst (λ (t : Token). IsLegal script server i j at t.view.seen) (sym (first_fresh i j at token e))
      (record { image = image_at i j at images; wide = omega arith; few = omega arith; legal = tt })

  -- where the writers were refused memory the seat's passes have loaded, and nothing else
  pub unwritten : AreImages script → (final : List Token) → AreLoaded first.tokens final → AtJournals IsLegal script server final × AtJournals LoggerLoads script server final
  unwritten images final loaded = loaded_first final loaded (first_legal images)

  module _ (done : List (Vec Token)) (waiting gathered final : List Token) (written : HaveWritten script server passes done) (loaded : AreLoaded first.tokens waiting) (gathers : HaveGathered done waiting gathered) (later : AreLoaded gathered final) where
    as_many_waiting : length waiting ≡ length server
    as_many_waiting = as_many_loaded first.tokens waiting loaded ∙ as_many_first

    -- what a region's passes made, and the seat's pass of it
    record Course (i j : ℕ) (at : IsServedAt script server i j) (last : Token) : Type 0 where
      was : Vec Token
      was_is : slice_get passes j ≡ Some was
      ran : Vec Token
      ran_is : slice_get done j ≡ Some ran
      before : Token
      after : Token
      after_is : slice_get gathered j ≡ Some after
      looked_before : Looked (fresh_at at.mounted.region at.row.passes).view before.view
      ended_then : Ended before.view ran.items after.view
      looked_after : Looked after.view last.view
      some_of : 0 < length ran.items

    course : (i j : ℕ) (at : IsServedAt script server i j) (last : Token) → slice_get final j ≡ Some last → Course i j at last
    course i j at last e =
        let lists = made.lists in
        let ran_lists = written.ready.lists in
        let many = as_many_waiting in
        let gathered_many = gathers.as_many in
        let final_many = as_many_loaded gathered final later in
        let within = slice_get_within server j at.mounted at.there in
        let was = get_there passes j (omega arith) in
        let ran = get_there done j (omega arith) in
        let before = get_there waiting j (omega arith) in
        let after = get_there gathered j (omega arith) in
        let has = gathers.each j ran.0 before.0 after.0 ran.1 before.1 after.1 in
        let ran_many = written.ready.many i j at ran.0 ran.1 in
        let some_passes = (keeps.opened i at.row at.is).passes.0 in
        record {
          was = was.0;
          was_is = was.1;
          ran = ran.0;
          ran_is = ran.1;
          before = before.0;
          after = after.0;
          after_is = after.1;
          looked_before = looked_first waiting loaded i j at before.0 before.1;
          ended_then = ended before.0.view after.0.view ran.0.items has.gathers;
          looked_after = looked_both gathered final j after.0 last later after.1 e;
          some_of = omega arith;
        }

    -- one of the script's passes
    record Wrote (i j k : ℕ) (at : IsServedAt script server i j) (last : Token) (c : Course i j at last) : Type 0 where
      pass : Token
      lines : WritesLines script.images (lines_of i k script.steps) (fresh_at at.mounted.region k) pass
      behind : Stood (fresh_at at.mounted.region at.row.passes).view c.before.view c.after.view last.view c.ran.items refl refl c.looked_before c.ended_then c.looked_after c.some_of k lines.more

    wrote : (i j k : ℕ) (at : IsServedAt script server i j) (last : Token) (c : Course i j at last) → k < at.row.passes → Wrote i j k at last c
    wrote i j k at last c below =
        let was_many = as_many_made script server passes (first ∷ []) keeps made i j at c.was c.was_is in
        let ran_many = written.ready.many i j at c.ran c.ran_is in
        let old = get_there c.was.items k (omega arith) in
        let new = get_there c.ran.items k (omega arith) in
        let fresh : old.0 ≡ fresh_at at.mounted.region k = own_fresh (first ∷ []) j at.mounted c.was.items (made.each j at.mounted c.was at.there c.was_is) k old.0 old.1 in
        let made_lines : WritesLines script.images (lines_of i k script.steps) (fresh_at at.mounted.region k) new.0 =
        subst (λ (t : Token). WritesLines script.images (lines_of i k script.steps) t new.0) fresh (written.each i j k at c.was c.ran old.0 new.0 c.was_is c.ran_is old.1 new.1) in
        record {
          pass = new.0;
          lines = made_lines;
          behind = stood (fresh_at at.mounted.region at.row.passes).view c.before.view c.after.view last.view c.ran.items refl refl c.looked_before c.ended_then c.looked_after c.some_of
              k k new.0 made_lines.more (λ e. absurd (omega arith)) new.1 made_lines.grew.number made_lines.grew.seen made_lines.grew.made;
        }

    legal_behind : AtJournals IsLegal script server final
    legal_behind i j at last e =
        let c = course i j at last e in
        legal_then (fresh_at at.mounted.region at.row.passes).view c.before.view c.after.view last.view c.ran.items refl refl c.looked_before c.ended_then c.looked_after c.some_of

    writers_behind : AtJournals WritersRan script server final
    writers_behind i j at last e =
        let c = course i j at last e in
        record {
          each = λ k below. let w = wrote i j k at last c below in record { made = w.lines.more; rest = w.behind.rest; is = w.behind.is; makes = w.lines.makes; none = w.behind.finished };
          idle = λ k below. (wrote i j k at last c below).behind.idle;
        }

    loads_behind : AtJournals LoggerLoads script server final
    loads_behind i j at last e =
        let c = course i j at last e in
        loads_then (fresh_at at.mounted.region at.row.passes).view c.before.view c.after.view last.view c.ran.items refl refl c.looked_before c.ended_then c.looked_after c.some_of

    -- the seat's pass of a region is its last one
    pub all_last : IsSeated server final → AreLast final
    all_last seated j last e =
        let long = as_many_seated server final seated in
        let within = slice_get_within final j last e in
        let row = row_at script server 1 keeps made.serves j (omega arith) in
        let i : ℕ = row.0 in
        let at : IsServedAt script server i j = row.1 in
        let c = course i j at last e in
        let first : View = (fresh_at at.mounted.region at.row.passes).view in
        let region : last.region ≡ at.mounted.region = the_one (map (λ (m : Mounted). m.region) server) j last.region at.mounted.region
        (subst (λ (l : List MadeRegion). slice_get l j ≡ Some last.region) seated (get_mapped (λ (t : Token). t.region) final j last e)) (get_mapped (λ (m : Mounted). m.region) server j at.mounted at.there) in
        let start : last.view.start ≡ at.mounted.region.words = start_is first c.before.view c.after.view last.view c.ran.items refl refl c.looked_before c.ended_then c.looked_after c.some_of in
        let passes : last.view.passes ≡ at.mounted.region.passes = passes_is first c.before.view c.after.view last.view c.ran.items refl refl c.looked_before c.ended_then c.looked_after c.some_of in
        let number : last.view.number ≡ at.row.passes = number_then first c.before.view c.after.view last.view c.ran.items refl refl c.looked_before c.ended_then c.looked_after c.some_of in
        let mode : last.view.mode ≡ Idle = mode_then first c.before.view c.after.view last.view c.ran.items refl refl c.looked_before c.ended_then c.looked_after c.some_of in
        let stands : IsIn last.view.mode (now last.view) last.view.number = stands_then first c.before.view c.after.view last.view c.ran.items refl refl c.looked_before c.ended_then c.looked_after c.some_of in
        let many : at.mounted.region.passes ≡ at.row.passes + 1 = (made_at script server 1 keeps made.serves i j at).passes in
        let from : opening_of last.view ≡ opening at.mounted.region.words at.mounted.region.passes = λ i. opening (start i) (passes i) in
        let all : last.region.passes ≡ at.mounted.region.passes = ap (λ (r : MadeRegion). r.passes) region in
        record {
          in_mode = record { mode_is = mode; start_is = start ∙ ap (λ (r : MadeRegion). r.words) (sym region); passes_are = passes ∙ sym all };
          last = λ k below other.
              let ran_many = written.ready.many i j at c.ran c.ran_is in
              let new = get_there c.ran.items k (omega arith) in
              let its : new.0.view.number ≡ k = (written.ready.each j k at.mounted c.ran new.0 at.there c.ran_is new.1).number_is in
              subst (λ (n : ℕ). 0 < count n last.view.kept) its (counted first c.before.view c.after.view last.view c.ran.items refl refl c.looked_before c.ended_then c.looked_after c.some_of k new.0 new.1);
          journal = subst (λ (r : MadeRegion). IsJournal mmv r.words r.passes last.view.seen) (sym region) (legal_behind i j at last e);
          idle = λ k below. subst (λ (r : MadeRegion). IsIn Idle (state (opening r.words r.passes) last.view.seen) k) (sym region) (⊎_elim
              (λ (same : k ≡ at.row.passes).
              subst (λ (s : State). IsIn Idle (state s last.view.seen) k) from
              (subst (λ (n : ℕ). IsIn Idle (now last.view) n) (number ∙ sym same) (subst (λ (m : Mode). IsIn m (now last.view) last.view.number) mode stands)))
              (λ (other : k ≢ at.row.passes). (writers_behind i j at last e).idle k (omega arith))
              (same_or_other k at.row.passes));
        }

    sees_on : SeesOn waiting gathered
    sees_on = (
      gathers.as_many,
      λ j before after e f.
          let lists = written.ready.lists in
          let many = as_many_waiting in
          let within = slice_get_within waiting j before e in
          let ran = get_there done j (omega arith) in
          let r = ended before.view after.view ran.0.items (gathers.each j ran.0 before after ran.1 e f).gathers in
          (r.more, r.seen),
    )

    stands_behind : StandsBehind script server gathered final
    stands_behind i j at before last e f =
        let c = course i j at last f in
        subst (λ (t : Token). (rest : List Entry) × (last.view.seen ≡ t.view.seen ++ rest) × ((k : ℕ) → k < at.row.passes → own k rest ≡ [])) (the_one gathered j c.after before c.after_is e)
        (c.looked_after.more, c.looked_after.seen, λ k below. (wrote i j k at last c below).behind.quiet)

    pub journals : AtJournals IsLegal script server final × AtJournals WritersRan script server final × AtJournals LoggerLoads script server final × SeesOn waiting gathered × StandsBehind script server gathered final
    journals = (legal_behind, writers_behind, loads_behind, sees_on, stands_behind)
