-- A pass over a file's records, step by step, and over volumes.
use Rattle.std.proofs.Common.{zero, suc, ◌≡◌, ⊎_elim, ℕ, ◌<◌, ◌≤◌, Bool, true, false, nat_eq, List, [], ◌∷◌, ◌++◌, length, get_or, take, drop, refl, sym, ap, ◌∙◌, subst, append_assoc, arith, length-append, Option, Some, None}
use Rattle.std.specs.List.{AllByRecursion}
use Rattle.std.proofs.lemmas.Bool.{eqb-true, eqb-false, cases_lt}
use Rattle.std.proofs.lemmas.List.{append-nil, take_at}
use Rattle.pcp_base.specs.Time.{Moment}
use Rattle.pcp_base.specs.declared.file.FileId.{FileId}
use Rattle.pcp_base.specs.declared.file.FileId.TheVariants.{Volume}
use Rattle.pcp_base.specs.declared.result.Item.{Item}
use Rattle.pcp_model.specs.Disk.{Files}
use Rattle.pcp_model.specs.Sound.{IsBoundary}
use Rattle.archive_loading.specs.Loaded.{IsMeasured}
use Rattle.archive_check.specs.declared.marks.Mark.{Mark}
use Rattle.archive_check.specs.declared.marks.Mark.TheVariants.{Ahead, Passed}
use Rattle.archive_check.specs.declared.tally.Tally.{Tally}
use Rattle.archive_check.specs.Marks.{Known, code_of, Passes}
use Rattle.archive_check.specs.Stamped.{Holds, IsAt, all_of}
use Rattle.archive_check.specs.Tallies.{IsTally, latest}
use Rattle.archive_check.specs.Walked.{MarkSays, Walked, stamped, HoldItems, AllWalked}
use Rattle.archive_check.proofs.Placed.{other_code, other_offset}
use Rattle.archive_check.proofs.Places.{order, counted, begins}
use Rattle.archive_check.proofs.Tallied.{all_append}

-- an offset that isn't passed is no boundary before here
abbrev pub MarkedTo : List ℕ → List Moment → List (List Moment) → ℕ → ℕ → Option Mark → Type 0
MarkedTo bytes before records at offset None = ⊥
MarkedTo bytes before records at offset (Some Ahead) = (k : ℕ) → IsBoundary bytes offset k → at ≤ offset
MarkedTo bytes before records at offset (Some (Passed time)) = (k : ℕ) × IsBoundary bytes offset k × (time ≡ latest (before ++ all_of (take k records)))

pub record WalkedTo (file : FileId) (bytes : List ℕ) (before records : List (List Moment)) (at : ℕ) (old new : Known) (t : Tally) : Type 0 where
  pub front : List (List Moment)
  pub place : IsAt file bytes records at front
  pub tally : IsTally (before ++ front) t
  pub marks : (offset : ℕ) → old (code_of file) offset ≡ Some Ahead → MarkedTo bytes (all_of before) records at offset (new (code_of file) offset)
  pub others : (code offset : ℕ) → (code_of file ≡ code → ⊥) → new code offset ≡ old code offset

-- so far as the loop has come, whatever the file's records are
abbrev pub WalkSoFar : FileId → List ℕ → Tally → ℕ → Known → Known → Tally → Type 0
WalkSoFar file bytes first at old new t = (before records : List (List Moment)) → Holds file (drop 132 bytes) records → IsTally before first → WalkedTo file bytes before records at old new t

pub walk_begins : (file : FileId) (bytes : List ℕ) (first : Tally) (known : Known) → WalkSoFar file bytes first 132 known known first
walk_begins file bytes first known before records holds is = record {
  front = [];
  place = begins file bytes records holds;
  tally = subst (λ l. IsTally l first) (sym (append-nil before)) is;
  marks = λ offset ahead. subst (MarkedTo bytes (all_of before) records 132 offset) (sym ahead) (λ k b. omega (arith, b.is));
  others = λ code offset apart. refl;
}

module _ (file : FileId) (bytes : List ℕ) (before records : List (List Moment)) (at : ℕ) (old now new : Known) (t : Tally) (w : WalkedTo file bytes before records at old now t) (p : Passes (code_of file) at t.time now new) where
  abbrev code : ℕ
  code = code_of file

  front_is : take (length w.front) records ≡ w.front
  front_is = ap (take (length w.front)) w.place.are ∙ take_at w.front w.place.behind (length w.front) refl

  time_here : t.time ≡ latest (all_of before ++ all_of (take (length w.front) records))
  time_here = w.tally.time_is ∙ ap latest (all_append before w.front) ∙ ap (λ l. latest (all_of before ++ all_of l)) (sym front_is)

  passed : (offset : ℕ) → at ≡ offset → (x : Option Mark) → now code offset ≡ x → MarkedTo bytes (all_of before) records at offset x → new code offset ≡ Some (Passed t.time)
  passed offset same None e f = absurd f
  passed offset same (Some m) e f = subst (λ n. new code n ≡ Some (Passed t.time)) same (p.here m (ap (now code) same ∙ e))

  stays : (next offset : ℕ) → (at ≡ offset → ⊥) → ((k : ℕ) → IsBoundary bytes offset k → at < offset → next ≤ offset) → (x : Option Mark) → MarkedTo bytes (all_of before) records at offset x → MarkedTo bytes (all_of before) records next offset x
  stays next offset apart far None f = f
  stays next offset apart far (Some Ahead) f = λ k b. far k b (⊎_elim (λ (lt : at < offset). lt) (λ (le : offset ≤ at). absurd (apart (let low : at ≤ offset = f k b in omega (arith, le, low)))) (cases_lt at offset))
  stays next offset apart far (Some (Passed time)) f = f

  -- where no boundary stands between this place and the next
  passed_on : (next offset : ℕ) → ((k : ℕ) → IsBoundary bytes offset k → at < offset → next ≤ offset) → old code offset ≡ Some Ahead → MarkedTo bytes (all_of before) records next offset (new code offset)
  passed_on next offset far ahead = go (nat_eq at offset) refl
    where
      go : (b : Bool) → nat_eq at offset ≡ b → MarkedTo bytes (all_of before) records next offset (new code offset)
      go true e =
          let same : at ≡ offset = eqb-true at offset e in
          subst (MarkedTo bytes (all_of before) records next offset) (sym (passed offset same (now code offset) refl (w.marks offset ahead)))
          (length w.front, subst (λ n. IsBoundary bytes n (length w.front)) same w.place.boundary, time_here)
      go false e =
          let apart : at ≡ offset → ⊥ = eqb-false at offset e in
          subst (MarkedTo bytes (all_of before) records next offset) (sym (p.others code offset (other_offset code code at offset apart))) (stays next offset apart far (now code offset) (w.marks offset ahead))

  others_on : (other offset : ℕ) → (code ≡ other → ⊥) → new other offset ≡ old other offset
  others_on other offset apart = p.others other offset (other_code code other at offset apart) ∙ w.others other offset apart

  pub walk_on : (next : ℕ) (stamps : List Moment) (u : Tally) → IsAt file bytes records next (w.front ++ stamps ∷ []) → IsTally ((before ++ w.front) ++ stamps ∷ []) u → WalkedTo file bytes before records next old new u
  walk_on next stamps u place tally = record {
    front = w.front ++ stamps ∷ [];
    place = place;
    tally = subst (λ l. IsTally l u) (append_assoc before w.front (stamps ∷ [])) tally;
    marks = λ offset ahead. passed_on next offset (λ k b lt. ⊎_elim (λ (low : offset < next). absurd (
        let more : length w.front < k = order bytes at offset (length w.front) k w.place.boundary b lt in
        let less : k < length (w.front ++ stamps ∷ []) = order bytes offset next k (length (w.front ++ stamps ∷ [])) b place.boundary low in
        omega (arith, more, less, length-append w.front (stamps ∷ [])))) (λ (le : next ≤ offset). le) (cases_lt offset next)) ahead;
    others = others_on;
  }

  says : (offset : ℕ) (x : Option Mark) → MarkedTo bytes (all_of before) records (suc offset) offset x → MarkSays bytes (all_of before) records offset x
  says offset None f = f
  says offset (Some Ahead) f = λ (k, b). let le : suc offset ≤ offset = f k b in omega (arith, le)
  says offset (Some (Passed time)) f = f

  pub walk_ends : Holds file (drop 132 bytes) records → records ≡ w.front → Walked file bytes before records old new t
  walk_ends holds all = record {
    tally = subst (λ l. IsTally (before ++ l) t) (sym all) w.tally;
    marks = λ offset ahead. says offset (new code offset) (passed_on (suc offset) offset (λ k b lt. absurd (
        let more : length w.front < k = order bytes at offset (length w.front) k w.place.boundary b lt in
        omega (arith, more, counted file bytes records offset k holds b, ap length all))) ahead);
    others = others_on;
  }

-- ---- volumes
-- each volume has the length that is kept
pub measured_at : (files : Files) (vs : List (ℕ × ℕ)) (i : ℕ) (d : ℕ × ℕ) → i < length vs → AllByRecursion (IsMeasured files) vs → (get_or vs i d).1 ≡ length (files (Volume (get_or vs i d).0))
measured_at files [] i d lt all = absurd (omega (arith, lt))
measured_at files (v ∷ vs) zero d lt all = all.0
measured_at files (v ∷ vs) (suc i) d lt all = measured_at files vs i d (omega (arith, lt)) all.1

-- as far as volumes were walked, what follows them makes the whole
pub record VolumesTo (files : Files) (vs : List (ℕ × ℕ)) (cs : List (ℕ × List Item)) (old now : Known) (t : Tally) : Type 0 where
  pub before : List (List Moment)
  pub rest : List (ℕ × List Item)
  pub hold : HoldItems files vs rest
  pub tally : IsTally before t
  pub back : (new : Known) (u : Tally) → AllWalked files before rest now new u → AllWalked files [] cs old new u

abbrev pub VolumesSoFar : Files → List (ℕ × ℕ) → List (ℕ × ℕ) → Known → Known → Tally → Type 0
VolumesSoFar files all vs old now t = (cs : List (ℕ × List Item)) → HoldItems files all cs → VolumesTo files vs cs old now t

pub volumes_begin : (files : Files) (vs : List (ℕ × ℕ)) (known : Known) (t : Tally) → IsTally [] t → VolumesSoFar files vs vs known known t
volumes_begin files vs known t none cs hold = record { before = []; rest = cs; hold = hold; tally = none; back = λ new u w. w }

pub volumes_on : (files : Files) (all : List (ℕ × ℕ)) (v : ℕ × ℕ) (vs : List (ℕ × ℕ)) (old now new : Known) (t u : Tally) → VolumesSoFar files all (v ∷ vs) old now t
    → ((before records : List (List Moment)) → Holds (Volume v.0) (drop 132 (files (Volume v.0))) records → IsTally before t → Walked (Volume v.0) (files (Volume v.0)) before records now new u) → VolumesSoFar files all vs old new u
volumes_on files all v vs old now new t u so_far walked cs hold =
    let s : VolumesTo files (v ∷ vs) cs old now t = so_far cs hold in
    go s.rest s.hold s.before s.tally s.back
  where
    go : (rest : List (ℕ × List Item)) → HoldItems files (v ∷ vs) rest → (before : List (List Moment)) → IsTally before t → ((k : Known) (x : Tally) → AllWalked files before rest now k x → AllWalked files [] cs old k x) → VolumesTo files vs cs old new u
    go [] hold before tally back = absurd hold
    go (c ∷ rest) hold before tally back =
        let w : Walked (Volume v.0) (files (Volume v.0)) before (stamped c.1) now new u = walked before (stamped c.1) hold.1 tally in
        record {
          before = before ++ stamped c.1;
          rest = rest;
          hold = hold.2;
          tally = w.tally;
          back = λ k x more. back k x (new, u, subst (λ n. Walked (Volume n) (files (Volume n)) before (stamped c.1) now new u) hold.0 w, more);
        }

pub volumes_end : (files : Files) (all vs : List (ℕ × ℕ)) (old new : Known) (t : Tally) → vs ≡ [] → VolumesSoFar files all vs old new t → (cs : List (ℕ × List Item)) → HoldItems files all cs → AllWalked files [] cs old new t
volumes_end files all vs old new t none so_far cs hold =
    let s : VolumesTo files vs cs old new t = so_far cs hold in
    go s.rest (subst (λ l. HoldItems files l s.rest) none s.hold) s.before s.tally s.back
  where
    go : (rest : List (ℕ × List Item)) → HoldItems files [] rest → (before : List (List Moment)) → IsTally before t → ((k : Known) (x : Tally) → AllWalked files before rest new k x → AllWalked files [] cs old k x) → AllWalked files [] cs old new t
    go [] hold before tally back = back new t (refl, tally)
    go (c ∷ rest) hold before tally back = absurd hold
