-- Recovery of what is left without old volumes.
use Rattle.std.proofs.Common.{◌≡◌, ◌≢◌, inl, inr, ⊎_elim, ℕ, ◌<◌, ◌≤◌, pos, Bool, true, false, List, [], ◌∷◌, length, map, nat_lt, refl, sym, ap, ◌∙◌, subst}
use Rattle.std.specs.Prelude.{Contains, if◌then◌else◌}
use Rattle.std.specs.List.{AllByRecursion}
use Rattle.std.proofs.lemmas.Bool.{cases_lt}
use Rattle.pcp_base.specs.declared.file.FileId.TheVariants.{Index, Volume}
use Rattle.pcp_base.specs.declared.result.Item.{Item}
use Rattle.pcp_model.specs.Archive.{ArchiveContents, AreVolumes, IsArchive}
use Rattle.pcp_model.specs.Disk.{Files}
use Rattle.pcp_model.specs.LabelFields.{LabelFields}
use Rattle.pcp_model.specs.Payload.{IsItem}
use Rattle.pcp_model.specs.Recovered.{AreMended, IsMended, IsMendedIndex, IsRecovered, labelled_volumes, or_first_volume, recovered_contents}
use Rattle.pcp_model.proofs.Recovered.{each_left}
use Rattle.archive_recovery.proofs.Volumes.{none_long}
use Rattle.logger_core.specs.Retiring.{RetiredIsRecovered, contents_without, volumes_from, without}
use Rattle.logger_core.proofs.Without.{AreFrom, all_from, each_from, first_gone, from_high, gone, kept_number, left as stays_as, rises, still_archive, still_long}

-- ---- which volumes have their label

module _ (files : Files) (l : LabelFields) (j : ℕ) where
  abbrev rest : Files
  rest = without files j

  abbrev with_label : Files → (ℕ × List Item) → List (ℕ × List Item)
  with_label gs v = if nat_lt (length (gs (Volume v.0))) 132 then [] else v ∷ []

  labelled_still : (vs : List (ℕ × List Item)) → AreFrom j vs → labelled_volumes rest vs ≡ labelled_volumes files vs
  labelled_still [] all = refl
  labelled_still (v ∷ []) all = ap (λ (t : List ℕ). if nat_lt (length t) 132 then [] else v ∷ []) (stays_as files j v.0 all.0)
  labelled_still (v ∷ w ∷ vs) all = ap (λ ws. v ∷ ws) (labelled_still (w ∷ vs) all.1)

  one_gone : (v : ℕ × List Item) → v.0 < j → (b : Bool) → volumes_from j (if b then [] else v ∷ []) ≡ []
  one_gone v low true = refl
  one_gone v low false = first_gone j v [] low

  labelled_from : (vs : List (ℕ × List Item)) → AreVolumes files l vs → labelled_volumes rest (volumes_from j vs) ≡ volumes_from j (labelled_volumes files vs)
  labelled_from [] are = refl
  labelled_from (v ∷ []) are = ⊎_elim
      (λ (low : v.0 < j). ap (labelled_volumes rest) (first_gone j v [] low) ∙ sym (one_gone v low (nat_lt (length (files (Volume v.0))) 132)))
      (λ (high : j ≤ v.0). ap (labelled_volumes rest) (all_from j (v ∷ []) (high, tt)) ∙ labelled_still (v ∷ []) (high, tt)
      ∙ sym (all_from j (labelled_volumes files (v ∷ [])) (each_left files (λ (w : ℕ × List Item). j ≤ w.0) (v ∷ []) (high, tt)))) (cases_lt v.0 j)
  labelled_from (v ∷ w ∷ vs) are = ⊎_elim
      (λ (low : v.0 < j). ap (labelled_volumes rest) (first_gone j v (w ∷ vs) low) ∙ labelled_from (w ∷ vs) are.2 ∙ sym (first_gone j v (labelled_volumes files (w ∷ vs)) low))
      (λ (high : j ≤ v.0).
      let all : AreFrom j (v ∷ w ∷ vs) = rises files l j v (w ∷ vs) are high in
      ap (labelled_volumes rest) (all_from j (v ∷ w ∷ vs) all) ∙ labelled_still (v ∷ w ∷ vs) all
      ∙ sym (all_from j (labelled_volumes files (v ∷ w ∷ vs)) (each_left files (λ (x : ℕ × List Item). j ≤ x.0) (v ∷ w ∷ vs) all))) (cases_lt v.0 j)

-- where one is left there is no first one to be given
no_first : (vs : List (ℕ × List Item)) → vs ≢ [] → or_first_volume vs ≡ vs
no_first [] some = absurd (some refl)
no_first (v ∷ vs) some = refl

-- ---- mended volumes

each_both : {X : Type 0} (P Q R : X → Type 0) → ((x : X) → P x → Q x → R x) → (xs : List X) → AllByRecursion P xs → AllByRecursion Q xs → AllByRecursion R xs
each_both P Q R f [] ps qs = tt
each_both P Q R f (x ∷ xs) ps qs = (f x ps.0 qs.0, each_both P Q R f xs ps.1 qs.1)

abbrev Mended : Files → LabelFields → Files → (ℕ × List Item) → Type 0
Mended gs l left v = IsMended IsItem (gs (Volume v.0)) l (pos v.0) v.1 (left (Volume v.0))

each_mended : (gs : Files) (l : LabelFields) (left : Files) (vs : List (ℕ × List Item)) → AreMended gs l left vs → AllByRecursion (Mended gs l left) vs
each_mended gs l left [] mended = tt
each_mended gs l left (v ∷ vs) mended = mended

all_mended : (gs : Files) (l : LabelFields) (left : Files) (vs : List (ℕ × List Item)) → vs ≢ [] → AllByRecursion (Mended gs l left) vs → AreMended gs l left vs
all_mended gs l left [] some each = absurd (some refl)
all_mended gs l left (v ∷ vs) some each = each

module _ (files left : Files) (c : ArchiveContents) (j n : ℕ) (is : IsArchive files c) (high : j ≤ n) (long : 132 ≤ length (files (Volume n))) (r : IsRecovered files c left) where
  abbrev d : ArchiveContents
  d = contents_without c j

  abbrev were : List (ℕ × List Item)
  were = labelled_volumes files c.volumes

  abbrev now : List (ℕ × List Item)
  now = labelled_volumes (without files j) d.volumes

  now_is : now ≡ volumes_from j were
  now_is = labelled_from files c.label j c.volumes is.volumes

  some_now : now ≢ []
  some_now none = none_long (without files j) d.volumes (still_archive files c j n is high long).others none n (still_long files c j n is high long)

  some_were : were ≢ []
  some_were none = some_now (now_is ∙ ap (volumes_from j) none)

  mended_still : (v : ℕ × List Item) → Mended files c.label left v → j ≤ v.0 → Mended (without files j) c.label (without left j) v
  mended_still v m stays =
      subst (λ t. IsMended IsItem t c.label (pos v.0) v.1 (without left j (Volume v.0))) (sym (stays_as files j v.0 stays))
      (subst (λ t. IsMended IsItem (files (Volume v.0)) c.label (pos v.0) v.1 t) (sym (stays_as left j v.0 stays)) m)

  volumes_mended : AreMended (without files j) c.label (without left j) now
  volumes_mended = all_mended (without files j) c.label (without left j) now some_now (subst (AllByRecursion (Mended (without files j) c.label (without left j))) (sym now_is)
      (each_both (Mended files c.label left) (λ (v : ℕ × List Item). j ≤ v.0) (Mended (without files j) c.label (without left j)) mended_still (volumes_from j were)
      (each_from (Mended files c.label left) j were (each_mended files c.label left were r.volumes)) (from_high j were)))

  abbrev numbers : List (ℕ × List Item) → List ℕ
  numbers vs = map (λ (v : ℕ × List Item). v.0) vs

  others_empty : (k : ℕ) → (Contains (numbers (or_first_volume now)) k → ⊥) → without left j (Volume k) ≡ []
  others_empty k other = ⊎_elim
      (λ (low : k < j). gone left j k low)
      (λ (stays : j ≤ k). stays_as left j k stays ∙ r.others k (λ has.
      other (subst (λ vs. Contains (numbers vs) k) (sym (no_first now some_now ∙ now_is)) (kept_number j were k (subst (λ vs. Contains (numbers vs) k) (no_first were some_were) has) stays))))
      (cases_lt k j)

  index_still : IsMendedIndex (files Index) c (left Index) → IsMendedIndex (files Index) d (left Index)
  index_still (inl short) = inl short
  index_still (inr whole) = inr (record { head = whole.0.head; label = whole.0.label; fit = whole.0.fit; rest = whole.0.rest; short = whole.0.short; is = whole.0.is }, whole.1)

  still_recovered : IsRecovered (without files j) d (without left j)
  still_recovered = record { meta = r.meta; index = index_still r.index; volumes = volumes_mended; others = others_empty }

  same_contents : recovered_contents (without files j) d ≡ contents_without (recovered_contents files c) j
  same_contents = ap (λ vs. record { label = c.label; records = c.records; entries = c.entries; volumes = vs }) (no_first now some_now ∙ now_is ∙ ap (volumes_from j) (sym (no_first were some_were)))

pub is_recovered : RetiredIsRecovered
is_recovered files left c below n is high long r = (still_recovered files left c below n is high long r, same_contents files left c below n is high long r)
