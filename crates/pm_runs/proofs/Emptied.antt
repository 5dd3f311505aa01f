-- Files of which the lowest volumes are empty: what they are read as, and that recovery leaves them sound.
use Rattle.std.proofs.Common.{zero, suc, ◌≡◌, ◌⊎◌, inl, inr, ⊎_elim, ℕ, ◌<◌, ◌≤◌, pos, negsuc, Bool, true, false, if◌then◌else◌, List, [], ◌∷◌, ◌++◌, append-nil, length, map, refl, sym, ap, ◌∙◌, subst, arith, eqb-true, eq-eqb}
use Rattle.std.specs.Prelude.{Contains, nat_eq, nat_lt, slice_index_or}
use Rattle.std.specs.List.{AllByRecursion}
use Rattle.std.proofs.Math.Path.{fun_ext}
use Rattle.std.proofs.lemmas.Bool.{le-ltb, ltb-true}
use Rattle.pcp_base.specs.declared.file.FileId.{FileId}
use Rattle.pcp_base.specs.declared.file.FileId.TheVariants.{Meta, Index, Volume}
use Rattle.pcp_base.specs.declared.result.Item.{Item}
use Rattle.pcp_model.specs.Archive.{ArchiveContents, ArchiveReading, AreVolumes, IsArchive, Reads, items_of, records_in, scan}
use Rattle.pcp_model.specs.Disk.{Files}
use Rattle.pcp_model.specs.LabelFields.{LabelFields}
use Rattle.pcp_model.specs.Labels.{label}
use Rattle.pcp_model.specs.Payload.{IsItem}
use Rattle.pcp_model.specs.Recovered.{AreMended, IsMended, IsRecovered, Recovers, labelled_volumes, or_first_volume, recovered_contents, recovered_reading}
use Rattle.pcp_model.specs.Sound.{IsSound}
use Rattle.pcp_model.proofs.Lengths.{length-label}
use Rattle.pcp_model.proofs.OneReading.{one_reading}
use Rattle.pcp_model.proofs.Recovered.{no_item, recovered_is, recovered_stays, recovery_keeps, recovery_keeps_records, recovery_reads, recovery_stays, spelled_of}
use Rattle.pcp_model.proofs.Sound.{labelled_long}
use Rattle.archive_recovery.specs.Halfway.{HalfwayFrom}
use Rattle.archive_recovery.specs.Laws.{IsReadOn}
use Rattle.archive_recovery.proofs.Again.{reads_on, recovers_sound}
use Rattle.logger_core.specs.Retiring.{contents_without, volumes_from, without}
use Rattle.logger_core.proofs.WithoutRecovered.{is_recovered as retired_is_recovered}
use Rattle.logger_core.proofs.WithoutSound.{is_read as retired_is_read}
use Rattle.logging_session.proofs.ComeBack.{same_left}
use Rattle.pm_words.specs.Sound.{RecoversSound}
use Rattle.pm_runs.specs.commands.retire.{IsPartlyRetired, Standing, scan_from}

-- ---- no volume is below 0

not_below : (n : ℕ) → nat_lt n 0 ≡ false
not_below n = le-ltb n 0 (omega arith)

pub without_none : (files : Files) (file : FileId) → without files 0 file ≡ files file
without_none files Meta = refl
without_none files Index = refl
without_none files (Volume n) = ap (λ (b : Bool). if b then [] else files (Volume n)) (not_below n)

all_from : (vs : List (ℕ × List Item)) → volumes_from 0 vs ≡ vs
all_from [] = refl
all_from (v ∷ vs) = ap (λ (b : Bool). if b then volumes_from 0 vs else v ∷ volumes_from 0 vs) (not_below v.0) ∙ ap (λ (ws : List (ℕ × List Item)). v ∷ ws) (all_from vs)

pub scan_all : (r : ArchiveReading) → scan_from 0 r ≡ scan r
scan_all ArchiveReading.nothing = refl
scan_all (ArchiveReading.archive c) = ap items_of (all_from c.volumes)

-- ---- recovery leaves the items of the others

-- one volume more on both sides
one_more : (from : ℕ) (v : ℕ × List Item) (vs ws : List (ℕ × List Item)) → items_of (volumes_from from vs) ≡ items_of (volumes_from from ws) → items_of (volumes_from from (v ∷ vs)) ≡ items_of (volumes_from from (v ∷ ws))
one_more from v vs ws same = by (nat_lt v.0 from)
  where
    by : (b : Bool) → items_of (if b then volumes_from from vs else v ∷ volumes_from from vs) ≡ items_of (if b then volumes_from from ws else v ∷ volumes_from from ws)
    by true = same
    by false = ap (λ (xs : List Item). v.1 ++ xs) same

-- a volume without an item
none_more : (from : ℕ) (v : ℕ × List Item) → v.1 ≡ [] → [] ≡ items_of (volumes_from from (v ∷ []))
none_more from v none = by (nat_lt v.0 from)
  where
    by : (b : Bool) → [] ≡ items_of (if b then [] else v ∷ [])
    by true = refl
    by false = sym (append-nil v.1 ∙ none)

kept_items : (files : Files) (l : LabelFields) (from : ℕ) (vs : List (ℕ × List Item)) → AreVolumes files l vs → items_of (volumes_from from (labelled_volumes files vs)) ≡ items_of (volumes_from from vs)
kept_items files l from [] are = refl
kept_items files l from (v ∷ []) are = by (nat_lt (length (files (Volume v.0))) 132) (λ e. ltb-true (length (files (Volume v.0))) 132 e)
  where
    by : (b : Bool) → (b ≡ true → length (files (Volume v.0)) < 132) → items_of (volumes_from from (if b then [] else v ∷ [])) ≡ items_of (volumes_from from (v ∷ []))
    by true short = none_more from v (no_item (files (Volume v.0)) l v.0 v.1 are (short refl))
    by false short = refl
kept_items files l from (v ∷ w ∷ vs) are = one_more from v (labelled_volumes files (w ∷ vs)) (w ∷ vs) (kept_items files l from (w ∷ vs) are.2)

first_items : (from : ℕ) (vs : List (ℕ × List Item)) → items_of (volumes_from from (or_first_volume vs)) ≡ items_of (volumes_from from vs)
first_items from [] = sym (none_more from (0, []) refl)
first_items from (v ∷ vs) = refl

-- ---- a volume that recovery leaves has its label

abbrev numbers : List (ℕ × List Item) → List ℕ
numbers vs = map (λ v. v.0) vs

-- what holds of each volume's number holds of this one, or it is no volume's
at_or_none : (P : ℕ → Type 0) (n : ℕ) (vs : List (ℕ × List Item)) → AllByRecursion (λ (v : ℕ × List Item). P v.0) vs → P n ⊎ (Contains (numbers vs) n → ⊥)
at_or_none P n [] all = inr (λ has. omega (arith, has.1))
at_or_none P n (v ∷ vs) all = by (nat_eq v.0 n) refl (at_or_none P n vs all.1)
  where
    skip : (nat_eq v.0 n ≡ false) → (Contains (numbers vs) n → ⊥) → (k : ℕ) → k < length (numbers (v ∷ vs)) → slice_index_or (numbers (v ∷ vs)) k n ≡ n → ⊥
    skip other none zero h is = let e : nat_eq v.0 n ≡ true = eq-eqb v.0 n is in let both : true ≡ false = sym e ∙ other in cc
    skip other none (suc k) h is = none (k, omega (arith, h), is)

    by : (b : Bool) → nat_eq v.0 n ≡ b → P n ⊎ (Contains (numbers vs) n → ⊥) → P n ⊎ (Contains (numbers (v ∷ vs)) n → ⊥)
    by true same others = inl (subst P (eqb-true v.0 n same) all.0)
    by false other others = ⊎_elim (λ (p : P n). inl p) (λ (none : Contains (numbers vs) n → ⊥). inr (λ has. skip other none has.0 has.1 has.2)) others

module _ (files left : Files) (c : ArchiveContents) (is : IsArchive files c) (r : IsRecovered files c left) where
  abbrev Long : ℕ → Type 0
  Long n = 132 ≤ length (left (Volume n))

  each_long : (vs : List (ℕ × List Item)) → AllByRecursion (λ (w : ℕ × List Item). IsMended IsItem (files (Volume w.0)) c.label (pos w.0) w.1 (left (Volume w.0))) vs → AllByRecursion (λ (w : ℕ × List Item). Long w.0) vs
  each_long [] all = tt
  each_long (w ∷ ws) all = (labelled_long IsItem (left (Volume w.0)) c.label (pos w.0) w.1 [] all.0.whole, each_long ws all.1)

  all_long : (vs : List (ℕ × List Item)) → AreMended files c.label left vs → AllByRecursion (λ (w : ℕ × List Item). Long w.0) (or_first_volume vs)
  all_long [] mended = (omega (arith, ap length mended, length-label c.label (pos 0) (spelled_of is.meta.holds.head c.label (negsuc 0) is.meta.holds.label).fits), tt)
  all_long (v ∷ vs) mended = each_long (v ∷ vs) mended

  pub filled_is_long : (n : ℕ) → 0 < length (left (Volume n)) → 132 ≤ length (left (Volume n))
  filled_is_long n some =
      ⊎_elim (λ (long : Long n). long) (λ (none : Contains (numbers (or_first_volume (labelled_volumes files c.volumes))) n → ⊥). absurd (omega (arith, some, ap length (r.others n none))))
      (at_or_none Long n (or_first_volume (labelled_volumes files c.volumes)) (all_long (labelled_volumes files c.volumes) r.volumes))

-- ---- the lowest volumes of what recovery leaves are empty

-- What is left is read so, and recovery changes nothing of it.
pub record IsEmptied (files : Files) (r : ArchiveReading) (left : Files) (from : ℕ) (image : Files) : Type 0 where
  pub new : ArchiveReading
  pub reads : Reads image new
  pub whole : Recovers image new image
  pub items : scan new ≡ scan_from from r
  pub records : records_in new ≡ records_in r
  pub sound : IsSound left (recovered_reading files r) → IsSound image new

empty_without : (left : Files) (from : ℕ) → ((file : FileId) → left file ≡ []) → (file : FileId) → without left from file ≡ []
empty_without left from none Meta = none Meta
empty_without left from none Index = none Index
empty_without left from none (Volume n) = by (nat_lt n from)
  where
    by : (b : Bool) → (if b then [] else left (Volume n)) ≡ []
    by true = refl
    by false = none (Volume n)

module _ (files left : Files) where
  -- none of them
  left_whole : (r : ArchiveReading) → Reads files r → Recovers files r left → IsEmptied files r left 0 left
  left_whole r reads recovers = record {
    new = recovered_reading files r;
    reads = recovery_reads files left r reads recovers;
    whole = recovery_stays files left r reads recovers;
    items = recovery_keeps files left r reads recovers ∙ sym (scan_all r);
    records = recovery_keeps_records files r;
    sound = λ sound. sound;
  }

  nothing_left : (from : ℕ) → Recovers files ArchiveReading.nothing left → IsEmptied files ArchiveReading.nothing left from (without left from)
  nothing_left from none =
      let empty = empty_without left from none in record {
        new = ArchiveReading.nothing;
        reads = record { meta = inl (empty Meta); index = empty Index; volumes = λ n. empty (Volume n) };
        whole = empty;
        items = refl;
        records = refl;
        sound = λ sound. tt;
      }

  others_left : (c : ArchiveContents) (from n : ℕ) → IsArchive files c → IsRecovered files c left → from ≤ n → 132 ≤ length (left (Volume n)) → IsEmptied files (ArchiveReading.archive c) left from (without left from)
  others_left c from n is r low long =
      let left_is : IsArchive left (recovered_contents files c) = recovered_is files left c is r in
      let reads = retired_is_read left (recovered_contents files c) from n left_is low long in
      let recovers = retired_is_recovered left left (recovered_contents files c) from n left_is low long (recovered_stays files left c is r) in record {
        new = ArchiveReading.archive (contents_without (recovered_contents files c) from);
        reads = reads.0;
        whole = recovers.0;
        items = first_items from (labelled_volumes files c.volumes) ∙ kept_items files c.label from c.volumes is.volumes;
        records = refl;
        sound = reads.1;
      }

  emptied_without : (r : ArchiveReading) (from : ℕ) → Reads files r → Recovers files r left → Standing left from → IsEmptied files r left from (without left from)
  emptied_without r from reads recovers (inl none) =
      let same : left ≡ without left 0 = fun_ext (λ file. sym (without_none left file)) in
      subst (λ (k : ℕ). IsEmptied files r left k (without left k)) (sym none) (subst (λ (f : Files). IsEmptied files r left 0 f) same (left_whole r reads recovers))
  emptied_without ArchiveReading.nothing from reads recovers (inr standing) = nothing_left from recovers
  emptied_without (ArchiveReading.archive c) from reads recovers (inr (n, low, long)) = others_left c from n reads recovers low long

  pub emptied_is : (r : ArchiveReading) (from : ℕ) (image : Files) → Reads files r → Recovers files r left → Standing left from → ((file : FileId) → image file ≡ without left from file) → IsEmptied files r left from image
  emptied_is r from image reads recovers standing is =
      subst (λ (f : Files). IsEmptied files r left from f) (sym (fun_ext is)) (emptied_without r from reads recovers standing)

-- ---- what recovery leaves of it is sound

pub whole_sound : (image : Files) (new : ArchiveReading) → Reads image new → Recovers image new image → IsSound image new → RecoversSound image
whole_sound image new reads whole sound = λ reading also left recovers.
    let same : new ≡ reading = one_reading image new reading reads also in
    let here : image ≡ left = same_left image image left reading (subst (λ (r : ArchiveReading). Recovers image r image) same whole) recovers in
    let again : new ≡ recovered_reading image reading =
    one_reading image new (recovered_reading image new) reads (recovery_reads image image new reads whole) ∙ ap (recovered_reading image) same in
    subst (λ (f : Files). IsSound f (recovered_reading image reading)) here (subst (IsSound image) again sound)

-- ---- what a crash leaves

module _ (below : ℕ) (files left : Files) (r : ArchiveReading) (reads : Reads files r) (recovers : Recovers files r left) where
  -- recovery is on its way
  pub halfway_partly : (image : Files) → HalfwayFrom files r image → IsPartlyRetired below files r left image
  halfway_partly image halfway =
      let on : IsReadOn image r = reads_on files image r reads halfway in record {
        from = 0;
        most = omega arith;
        standing = inl refl;
        before = image;
        halfway = halfway;
        is = λ file. sym (without_none image file);
        new = on.new;
        reads = on.is;
        items = on.items ∙ sym (scan_all r);
        records = on.records;
        sound = λ sound reading also again more. recovers_sound files image left again r reading reads halfway also recovers more sound;
      }

  -- or it has answered
  pub emptied_partly : HalfwayFrom files r left → (from : ℕ) (image : Files) → from ≤ below → Standing left from → ((file : FileId) → image file ≡ without left from file) → IsPartlyRetired below files r left image
  emptied_partly halfway from image most standing is =
      let e : IsEmptied files r left from image = emptied_is files left r from image reads recovers standing is in record {
        from = from;
        most = most;
        standing = standing;
        before = left;
        halfway = halfway;
        is = is;
        new = e.new;
        reads = e.reads;
        items = e.items;
        records = e.records;
        sound = λ sound. whole_sound image e.new e.reads e.whole (e.sound sound);
      }
