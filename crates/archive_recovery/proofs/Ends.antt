-- The volumes of an archive whose last one is mended, and whose first one gets its label where none has one.
use Rattle.std.proofs.Common.{zero, suc, ◌≡◌, ◌≢◌, ℕ, ◌<◌, ◌≤◌, pos, true, false, List, [], ◌∷◌, ◌++◌, length, map, sym, ap, ◌∙◌, subst, arith, length-append}
use Rattle.std.specs.Prelude.{Contains, slice_index_or}
use Rattle.std.specs.List.{AllByRecursion}
use Rattle.std.proofs.lemmas.Bool.{ne_eqb}
use Rattle.std.proofs.lemmas.List.{append-nil}
use Rattle.pcp_base.specs.declared.file.FileId.TheVariants.{Volume}
use Rattle.pcp_base.specs.declared.result.Item.{Item}
use Rattle.pcp_model.specs.Archive.{ArchiveContents, LabelledFile, AreVolumes, IsArchive}
use Rattle.pcp_model.specs.Disk.{Files}
use Rattle.pcp_model.specs.Payload.{IsItem}
use Rattle.pcp_model.specs.Recovered.{IsMended, labelled_volumes}
use Rattle.pcp_model.specs.Written.{same_file}
use Rattle.pcp_model.proofs.Added.{last_listed}
use Rattle.pcp_model.proofs.Lists.{each-append}
use Rattle.pcp_model.proofs.Recovered.{labelled_all, nothing_torn}
use Rattle.pcp_model.proofs.Sound.{labelled_long}
use Rattle.archive_recovery.specs.Damage.{HasEnd, IsBare}
use Rattle.archive_recovery.specs.declared.mending.Last.{Last}
use Rattle.archive_recovery.proofs.Volumes.{before_long, labelled_short}

abbrev numbers : List (ℕ × List Item) → List ℕ
numbers vs = map (λ v. v.0) vs

-- another volume is another file
pub other_volume : (n k : ℕ) → k ≢ n → same_file (Volume n) (Volume k) ≡ false
other_volume n k other = ne_eqb n k (λ e. other (sym e))

module _ (files : Files) (c : ArchiveContents) (is : IsArchive files c) (l : Last) (has : HasEnd files c l) where
  listed : AreVolumes files c.label (has.before ++ (l.number, has.items) ∷ [])
  listed = subst (AreVolumes files c.label) has.are is.volumes

  -- a volume that isn't listed is another one
  pub unlisted : (n : ℕ) → (Contains (numbers c.volumes) n → ⊥) → n ≢ l.number
  unlisted n none e = none (subst (Contains (numbers c.volumes)) (sym e) (subst (λ (vs : List (ℕ × List Item)). Contains (numbers vs) l.number) (sym has.are) (last_listed has.before l.number has.items)))

  -- ---- its label is whole

  module _ (end : ℕ) (left : List ℕ) (mended : IsMended IsItem (files (Volume l.number)) c.label (pos l.number) has.items left) where
    last_long : 132 ≤ length (files (Volume l.number))
    last_long = omega (arith, ap length mended.is, length-append left mended.torn, labelled_long IsItem left c.label (pos l.number) has.items [] mended.whole)

    pub all_labelled : labelled_volumes files c.volumes ≡ c.volumes
    all_labelled = labelled_all files c.volumes (subst (AllByRecursion (λ (v : ℕ × List Item). 132 ≤ length (files (Volume v.0)))) (sym has.are)
        (each-append (λ (v : ℕ × List Item). 132 ≤ length (files (Volume v.0))) has.before ((l.number, has.items) ∷ []) (before_long files c.label l.number has.items has.before listed) (last_long, tt)))

    some_listed : c.volumes ≡ [] → ⊥
    some_listed none = omega (arith, ap length (sym has.are ∙ none), length-append has.before ((l.number, has.items) ∷ []))

    pub not_bare : IsBare files c true → ⊥
    not_bare none = some_listed (sym all_labelled ∙ none)

  -- ---- its label isn't

  pub labelled_before : length (files (Volume l.number)) < 132 → labelled_volumes files c.volumes ≡ has.before
  labelled_before short = ap (labelled_volumes files) has.are ∙ labelled_short files l.number has.items has.before short

  -- the others hold nothing, where no volume has its label
  pub others_empty : length (files (Volume l.number)) < 132 → IsBare files c true → (n : ℕ) → n ≢ l.number → files (Volume n) ≡ []
  others_empty short bare n other =
      let alone : c.volumes ≡ (l.number, has.items) ∷ [] = has.are ∙ ap (λ vs. vs ++ (l.number, has.items) ∷ []) (sym (labelled_before short) ∙ bare) in
      is.others n (λ h. one_only n (subst (λ (vs : List (ℕ × List Item)). Contains (numbers vs) n) alone h).0 (subst (λ (vs : List (ℕ × List Item)). Contains (numbers vs) n) alone h).1 (subst (λ (vs : List (ℕ × List Item)). Contains (numbers vs) n) alone h).2 other)
    where
      one_only : (n k : ℕ) → k < 1 → slice_index_or (l.number ∷ []) k n ≡ n → (n ≢ l.number) → ⊥
      one_only n zero h e other = other (sym e)
      one_only n (suc k) h e other = omega arith

  -- the volumes before it are whole
  pub before_whole : (left : Files) → ((n : ℕ) → n < l.number → left (Volume n) ≡ files (Volume n)) → AllByRecursion (λ (v : ℕ × List Item). IsMended IsItem (files (Volume v.0)) c.label (pos v.0) v.1 (left (Volume v.0))) has.before
  before_whole left same = walk has.before listed
    where
      whole : (v : ℕ × List Item) → LabelledFile IsItem (files (Volume v.0)) c.label (pos v.0) v.1 [] → left (Volume v.0) ≡ files (Volume v.0) → IsMended IsItem (files (Volume v.0)) c.label (pos v.0) v.1 (left (Volume v.0))
      whole v holds e = record { torn = []; is_torn = nothing_torn; is = sym e ∙ sym (append-nil (left (Volume v.0))); whole = subst (λ t. LabelledFile IsItem t c.label (pos v.0) v.1 []) (sym e) holds }

      below : (v : ℕ × List Item) (vs : List (ℕ × List Item)) → AreVolumes files c.label (v ∷ vs ++ (l.number, has.items) ∷ []) → v.0 < l.number
      below v [] are = are.1
      below v (w ∷ vs) are = omega (arith, are.1, below w vs are.2)

      walk : (vs : List (ℕ × List Item)) → AreVolumes files c.label (vs ++ (l.number, has.items) ∷ []) → AllByRecursion (λ (v : ℕ × List Item). IsMended IsItem (files (Volume v.0)) c.label (pos v.0) v.1 (left (Volume v.0))) vs
      walk [] are = tt
      walk (v ∷ []) are = (whole v are.0 (same v.0 (below v [] are)), tt)
      walk (v ∷ w ∷ vs) are = (whole v are.0 (same v.0 (below v (w ∷ vs) are)), walk (w ∷ vs) are.2)
