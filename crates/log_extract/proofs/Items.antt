-- The items of what is left of two sources, logged one behind another.
use Rattle.std.proofs.Common.{◌≡◌, ◌⊎◌, inl, inr, ℕ, List, [], ◌∷◌, ◌++◌, length, take, drop, refl, sym, ap, ◌∙◌, subst, Option, Some, None, Ok, Err}
use Rattle.std.proofs.lemmas.List.{take-append-drop}
use Rattle.pcp_base.specs.Time.{Moment}
use Rattle.pcp_base.specs.declared.result.PmResult.{PmResult}
use Rattle.pcp_base.specs.declared.result.ValueSet.{ValueSet}
use Rattle.pcp_model.specs.declared.records.MetaRecord.{MetaRecord}
use Rattle.pcp_model.specs.Disk.{Holdings, contents_of}
use Rattle.pcp_outside.specs.declared.disk.Disk.{Ghosts as DiskGhosts}
use Rattle.archive_loading.specs.Loaded.{Loaded}
use Rattle.archive_loading.specs.Looks.{Looks}
use Rattle.archive_meta.specs.declared.facts.Facts.{Facts}
use Rattle.archive_meta.specs.Enough.{AreEnough}
use Rattle.archive_merge.specs.declared.fault.MergeFault.{MergeFault}
use Rattle.archive_merge.specs.declared.fault.MergeFault.TheVariants.{NoMemory}
use Rattle.archive_merge.specs.Facts.{facts_between, misfit_between}
use Rattle.archive_merge.specs.Merging.{at_each, merged_result, sets_at, sets_of_both, sets_of_first, sets_of_second}
use Rattle.archive_merge.specs.Order.{NoneBefore, after}
use Rattle.archive_merge.proofs.Enough.{enough}
use Rattle.archive_merge.proofs.Steps.{after_rises}
use Rattle.logging_session.specs.Keeping.{Carried}
use Rattle.logging_session.specs.Written.{Report}
use Rattle.logging_run.specs.Handing.{Handed, each_held}
use Rattle.logging_run.specs.Running.{Runs}
use Rattle.logging_run.proofs.Events.{held_grows}
use Rattle.log_extract.specs.declared.cursor.Cursor.{Cursor}
use Rattle.log_extract.specs.declared.fault.ExtractFault.{ExtractFault}
use Rattle.log_extract.specs.declared.fault.ExtractFault.TheVariants.{Archive, Merge, Source}
use Rattle.log_extract.specs.Cursors.{AreParted, Leaves, TakesBoth, earliest, next_stamp}
use Rattle.log_extract.specs.Judging.{Judged, all_fit, judge, judge_parts, judged_by}
use Rattle.log_extract.specs.Logging.{AreLeft, HasLogged, IsMisfit, IsOfSource, LogsAll, LogsNext, judged_left}
use Rattle.log_extract.proofs.Steps.{Comes, comes_first, none_comes}
use Rattle.log_extract.proofs.Stamps.{head_of}

-- ---- one item

module _ (first second : List MetaRecord) (answer : PmResult) (count : ℕ) where
  abbrev ours : List ValueSet
  ours = take count answer.sets

  abbrev theirs : List ValueSet
  theirs = drop count answer.sets

  abbrev Misfit : Option MergeFault
  Misfit = misfit_between first second answer.stamp ours theirs

  -- the facts tell enough
  pub told_enough : (facts : Facts) → AreParted answer.sets count → Misfit ≡ None → facts ≡ facts_between first second answer.stamp ours theirs → AreEnough facts answer.sets
  told_enough facts parted none is =
      subst (λ (f : Facts). AreEnough f answer.sets) (sym is)
      (subst (AreEnough (facts_between first second answer.stamp ours theirs)) (take-append-drop count answer.sets) (enough first second answer.stamp ours theirs none parted.new))

  -- what is logged is what was judged
  pub fits_so : (facts : Facts) → Misfit ≡ None → facts ≡ facts_between first second answer.stamp ours theirs → judge_parts first second answer.stamp answer.sets count ≡ Judged.fits (record { result = answer; facts = facts })
  fits_so facts none is =
      ap (judged_by (record { result = answer; facts = facts_between first second answer.stamp ours theirs })) none
      ∙ ap (λ (f : Facts). Judged.fits (record { result = answer; facts = f })) (sym is)

  pub misfit_so : (fault : MergeFault) → (fault ≡ NoMemory) ⊎ (Misfit ≡ Some fault) → (fault ≡ NoMemory) ⊎ (judge_parts first second answer.stamp answer.sets count ≡ Judged.misfit fault)
  misfit_so fault (inl none) = inl none
  misfit_so fault (inr is) = inr (ap (judged_by (record { result = answer; facts = facts_between first second answer.stamp ours theirs })) is)

module _ {D : Type 0} (d : DiskGhosts D) (limit : ℕ) (run : Carried) (start disk : D) where
  pub logged_next : (reports : List Report) (r : Report) → Runs d limit (each_held reports ++ Handed.held r ∷ []) run start disk → HasLogged d limit run start disk (reports ++ r ∷ [])
  logged_next reports r runs = subst (λ (hs : List Handed). Runs d limit hs run start disk) (sym (held_grows reports r)) runs

-- ---- what is judged of a stamp

judged_so : (first second : List MetaRecord) (t : Moment) (xs ys sets : List ValueSet) (count : ℕ) → count ≡ length (sets_of_first xs) → sets ≡ sets_of_both xs ys → take count sets ≡ sets_of_first xs
    → judge_parts first second t sets count ≡ judge first second t xs ys
judged_so first second t xs ys sets count many is front =
    let behind : drop count sets ≡ sets_of_second xs ys = ap (λ (n : ℕ). drop n sets) many ∙ ap (drop (length (sets_of_first xs))) is in
    ap (λ (l : List ValueSet). judged_by (record { result = record { stamp = t; sets = l }; facts = facts_between first second t (take count sets) (drop count sets) }) (misfit_between first second t (take count sets) (drop count sets))) is
    ∙ ap (λ (l : List ValueSet). judged_by (record { result = merged_result t xs ys; facts = facts_between first second t l (drop count sets) }) (misfit_between first second t l (drop count sets))) front
    ∙ ap (λ (l : List ValueSet). judged_by (record { result = merged_result t xs ys; facts = facts_between first second t (sets_of_first xs) l }) (misfit_between first second t (sets_of_first xs) l)) behind

-- ---- items so far

fit_more : (reports : List Report) (r : Report) (rest : List Judged) → all_fit reports ++ Judged.fits r ∷ rest ≡ all_fit (reports ++ r ∷ []) ++ rest
fit_more [] r rest = refl
fit_more (x ∷ reports) r rest = ap (λ (l : List Judged). Judged.fits x ∷ l) (fit_more reports r rest)

module _ {A B D : Type 0} (a : DiskGhosts A) (b : DiskGhosts B) (d : DiskGhosts D) (first_was : A) (second_was : B) (ours_was theirs_was : Cursor) where
  abbrev Left : List PmResult → List PmResult → Type 0
  Left = AreLeft a b first_was second_was ours_was theirs_was

  abbrev comes : List PmResult → List PmResult → List Judged
  comes = judged_left ours_was theirs_was

  -- the results that are left now, of those that were
  pub record LeftSoFar (first_is : A) (second_is : B) (ours theirs : Cursor) (reports : List Report) (xs ys : List PmResult) : Type 0 where
    pub us : List PmResult
    pub vs : List PmResult
    pub left : AreLeft a b first_is second_is ours theirs us vs
    pub begin : judged_left ours_was theirs_was xs ys ≡ all_fit reports ++ judged_left ours theirs us vs

  pub record MergedSoFar (limit : ℕ) (start : D) (first_is : A) (second_is : B) (ours theirs : Cursor) (run : Carried) (disk : D) : Type 0 where
    pub reports : List Report
    pub logged : HasLogged d limit run start disk reports
    pub told : (xs ys : List PmResult) → AreLeft a b first_was second_was ours_was theirs_was xs ys → LeftSoFar first_is second_is ours theirs reports xs ys

  -- over any start of the run, whatever limit it has
  abbrev pub SoFar : Carried → D → A → B → Cursor → Cursor → Carried → D → Type 0
  SoFar run_was disk_was first_is second_is ours theirs run disk = (limit : ℕ) (start : D) → Runs d limit [] run_was start disk_was → MergedSoFar limit start first_is second_is ours theirs run disk

  -- none is merged yet
  pub none_merged : (limit : ℕ) (start : D) (run : Carried) (disk : D) → Runs d limit [] run start disk → MergedSoFar limit start first_was second_was ours_was theirs_was run disk
  none_merged limit start run disk runs = record { reports = []; logged = runs; told = λ xs ys left. record { us = xs; vs = ys; left = left; begin = refl } }

  module _ (limit : ℕ) (start : D) (first_is : A) (second_is : B) (ours theirs : Cursor) (run : Carried) (disk : D) (far : MergedSoFar limit start first_is second_is ours theirs run disk) where
    abbrev Far : List PmResult → List PmResult → Type 0
    Far = LeftSoFar first_is second_is ours theirs far.reports

    -- nothing is left
    pub all_merged : earliest (next_stamp ours.next) (next_stamp theirs.next) ≡ None → LogsAll d limit run start disk Left comes (Ok tt)
    all_merged none = (
      far.reports,
      far.logged,
      λ xs ys told.
          let l : Far xs ys = far.told xs ys told in
          let ends = none_comes ours.next theirs.next l.us l.vs (head_of (contents_of (a.held first_is)) ours l.us l.left.first_left) (head_of (contents_of (b.held second_is)) theirs l.vs l.left.second_left) none in
          l.begin ∙ ap (λ (js : List Judged). all_fit far.reports ++ js) (ap (λ (us : List PmResult). judged_left ours theirs us l.vs) ends.0 ∙ ap (λ (vs : List PmResult). judged_left ours theirs [] vs) ends.1),
    )

    -- it stopped before the next item
    pub stopped_here : (fault : ExtractFault) → IsOfSource fault → LogsAll d limit run start disk Left comes (Err fault)
    stopped_here (Source number fault) is = (far.reports, far.logged, λ xs ys told. let l : Far xs ys = far.told xs ys told in (judged_left ours theirs l.us l.vs, l.begin))
    stopped_here (Merge fault) is = absurd is
    stopped_here (Archive fault) is = absurd is

    pub wanting_here : LogsAll d limit run start disk Left comes (Err (Merge NoMemory))
    wanting_here = (far.reports, far.logged, λ xs ys told. let l : Far xs ys = far.told xs ys told in (judged_left ours theirs l.us l.vs, l.begin, inl refl))

    -- ---- the item of the earliest stamp

    module _ (t : Moment) (is_earliest : earliest (next_stamp ours.next) (next_stamp theirs.next) ≡ Some t) (first_now : A) (second_now : B) (mine others : Cursor)
        (first_looks : Looks a first_is first_now) (second_looks : Looks b second_is second_now) (mine_same : mine.reader ≡ ours.reader) (others_same : others.reader ≡ theirs.reader)
        (sets : List ValueSet) (count : ℕ)
        (takes : (us vs : List PmResult) → AreLeft a b first_is second_is ours theirs us vs → NoneBefore t us → NoneBefore t vs → TakesBoth (contents_of (a.held first_is)) (contents_of (b.held second_is)) t us vs sets count mine others) where
      abbrev pub Item : Judged
      Item = judge_parts mine.reader.records others.reader.records t sets count

      abbrev Rest : {xs ys : List PmResult} → Far xs ys → List Judged
      Rest l = judged_left mine others (after t l.us) (after t l.vs)

      record Next (xs ys : List PmResult) (l : LeftSoFar first_is second_is ours theirs far.reports xs ys) : Type 0 where
        left : AreLeft a b first_now second_now mine others (after t l.us) (after t l.vs)
        begin : judged_left ours_was theirs_was xs ys ≡ all_fit far.reports ++ Item ∷ judged_left mine others (after t l.us) (after t l.vs)

      next : (xs ys : List PmResult) (l : LeftSoFar first_is second_is ours theirs far.reports xs ys) → Next xs ys l
      next xs ys l =
          let come : Comes (judge ours.reader.records theirs.reader.records) t l.us l.vs =
          comes_first (judge ours.reader.records theirs.reader.records) ours.next theirs.next l.us l.vs t (head_of (contents_of (a.held first_is)) ours l.us l.left.first_left) (head_of (contents_of (b.held second_is)) theirs l.vs l.left.second_left)
          l.left.first_rises l.left.second_rises is_earliest in
          let took : TakesBoth (contents_of (a.held first_is)) (contents_of (b.held second_is)) t l.us l.vs sets count mine others = takes l.us l.vs l.left come.first_low come.second_low in
          let one : Item ≡ judge ours.reader.records theirs.reader.records t (sets_at t l.us) (sets_at t l.vs) =
          ap (λ (r : Loaded). judge_parts r.records others.reader.records t sets count) mine_same ∙ ap (λ (r : Loaded). judge_parts ours.reader.records r.records t sets count) others_same
          ∙ judged_so ours.reader.records theirs.reader.records t (sets_at t l.us) (sets_at t l.vs) sets count took.count_is took.taken took.front in
          let more : judged_left ours theirs (after t l.us) (after t l.vs) ≡ judged_left mine others (after t l.us) (after t l.vs) =
          ap (λ (r : Loaded). at_each (judge r.records theirs.reader.records) (after t l.us) (after t l.vs)) (sym mine_same)
          ∙ ap (λ (r : Loaded). at_each (judge mine.reader.records r.records) (after t l.us) (after t l.vs)) (sym others_same) in
          record {
            left = record {
              first_tells = l.left.first_tells;
              second_tells = l.left.second_tells;
              first_left = subst (λ (h : Holdings). Leaves (contents_of h) mine (after t l.us)) (sym (first_looks.held l.left.first_tells)) took.first_left;
              second_left = subst (λ (h : Holdings). Leaves (contents_of h) others (after t l.vs)) (sym (second_looks.held l.left.second_tells)) took.second_left;
              first_rises = after_rises t l.us l.left.first_rises;
              second_rises = after_rises t l.vs l.left.second_rises;
            };
            begin =
                l.begin ∙ ap (λ (js : List Judged). all_fit far.reports ++ js) (come.step ∙ ap (λ (j : Judged). j ∷ judged_left ours theirs (after t l.us) (after t l.vs)) (sym one) ∙ ap (λ (js : List Judged). Item ∷ js) more);
          }

      -- one more is merged
      pub one_merged : (now : Carried) (disk_now : D) → LogsNext d limit now start disk_now far.reports Item (Ok tt) → MergedSoFar limit start first_now second_now mine others now disk_now
      one_merged now disk_now (r, fits, logged) = record {
        reports = far.reports ++ r ∷ [];
        logged = logged;
        told = λ xs ys told.
            let l : Far xs ys = far.told xs ys told in
            let n : Next xs ys l = next xs ys l in
            record {
              us = after t l.us;
              vs = after t l.vs;
              left = n.left;
              begin = n.begin ∙ ap (λ (j : Judged). all_fit far.reports ++ j ∷ Rest l) fits ∙ fit_more far.reports r (Rest l);
            };
      }

      refused_so : (fault : MergeFault) (rest : List Judged) → (fault ≡ NoMemory) ⊎ (Item ≡ Judged.misfit fault) → IsMisfit fault (Item ∷ rest)
      refused_so fault rest (inl none) = inl none
      refused_so fault rest (inr is) = inr (rest, ap (λ (j : Judged). j ∷ rest) is)

      -- or it isn't
      pub stopped_at : (now : Carried) (disk_now : D) (fault : ExtractFault) → LogsNext d limit now start disk_now far.reports Item (Err fault) → LogsAll d limit now start disk_now Left comes (Err fault)
      stopped_at now disk_now (Source number fault) stops = absurd stops
      stopped_at now disk_now (Merge fault) (why, logged) = (
        far.reports,
        logged,
        λ xs ys told.
            let l : Far xs ys = far.told xs ys told in
            let n : Next xs ys l = next xs ys l in
            (Item ∷ Rest l, n.begin, refused_so fault (Rest l) why),
      )
      stopped_at now disk_now (Archive fault) (r, fits, stops) = (
        far.reports,
        r,
        stops,
        λ xs ys told.
            let l : Far xs ys = far.told xs ys told in
            let n : Next xs ys l = next xs ys l in
            (Item ∷ Rest l, n.begin, (Rest l, ap (λ (j : Judged). j ∷ Rest l) fits)),
      )
