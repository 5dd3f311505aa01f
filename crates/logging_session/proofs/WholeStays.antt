-- Recovery changes nothing of an archive that is whole.
use Rattle.std.proofs.Common.{◌≡◌, inr, ℕ, ◌≤◌, pos, negsuc, List, [], ◌∷◌, ◌++◌, length, map, refl, sym, ap, ◌∙◌, subst, append-nil}
use Rattle.std.specs.Prelude.{Contains}
use Rattle.std.specs.List.{AllByRecursion}
use Rattle.pcp_base.specs.declared.file.FileId.TheVariants.{Meta, Index, Volume}
use Rattle.pcp_base.specs.declared.result.Item.{Item}
use Rattle.pcp_model.specs.Archive.{ArchiveContents, AreVolumes, HasEntries, IsArchive, LabelledFile}
use Rattle.pcp_model.specs.Disk.{Files}
use Rattle.pcp_model.specs.LabelFields.{LabelFields}
use Rattle.pcp_model.specs.Laws.{EndsWhole}
use Rattle.pcp_model.specs.Payload.{IsItem}
use Rattle.pcp_model.specs.Records.{IsRecord, entries}
use Rattle.pcp_model.specs.Recovered.{AreMended, IsMended, IsRecovered, labelled_volumes, or_first_volume}
use Rattle.pcp_model.proofs.Lists.{each-map}
use Rattle.pcp_model.proofs.Recovered.{labelled_all, nothing_torn}
use Rattle.pcp_model.proofs.Sound.{labelled_long}

abbrev Volumes : Type 0
Volumes = List (ℕ × List Item)

-- one behind others is some
not_none : (before : Volumes) (last : ℕ × List Item) → ◌≡◌ {A = Volumes} [] (before ++ last ∷ []) → ⊥
not_none [] last e = cc
not_none (b ∷ before) last e = cc

alone : (before : Volumes) (last v : ℕ × List Item) → v ∷ [] ≡ before ++ last ∷ [] → v ≡ last
alone [] last v e = cc
alone (b ∷ before) last v e = let none : [] ≡ before ++ last ∷ [] = cc in absurd (not_none before last none)

behind_first : (P : Volumes → Type 0) (v w : ℕ × List Item) (vs before : Volumes) (last : ℕ × List Item) → v ∷ w ∷ vs ≡ before ++ last ∷ [] → ((rest : Volumes) → w ∷ vs ≡ rest ++ last ∷ [] → P (w ∷ vs)) → P (w ∷ vs)
behind_first P v w vs [] last e go = absurd (let no : w ∷ vs ≡ [] = cc in let none : ◌≡◌ {A = Volumes} [] (w ∷ vs) = sym no in cc)
behind_first P v w vs (b ∷ before) last e go = go before cc

same_first : (vs before : Volumes) (last : ℕ × List Item) → vs ≡ before ++ last ∷ [] → or_first_volume vs ≡ vs
same_first [] before last e = absurd (not_none before last e)
same_first (v ∷ vs) before last e = refl

module _ (files : Files) (l : LabelFields) (last : ℕ × List Item) where
  abbrev IsWhole : (ℕ × List Item) → Type 0
  IsWhole v = LabelledFile IsItem (files (Volume v.0)) l (pos v.0) v.1 []

  abbrev StaysMended : (ℕ × List Item) → Type 0
  StaysMended v = IsMended IsItem (files (Volume v.0)) l (pos v.0) v.1 (files (Volume v.0))

  each_whole : (vs before : Volumes) → vs ≡ before ++ last ∷ [] → AreVolumes files l vs → IsWhole last → AllByRecursion IsWhole vs
  each_whole [] before e are whole = tt
  each_whole (v ∷ []) before e are whole = (subst IsWhole (sym (alone before last v e)) whole, tt)
  each_whole (v ∷ w ∷ vs) before e are whole = (are.0, behind_first (AllByRecursion IsWhole) v w vs before last e (λ rest same. each_whole (w ∷ vs) rest same are.2 whole))

  each_long : (vs : Volumes) → AllByRecursion IsWhole vs → AllByRecursion (λ (v : ℕ × List Item). 132 ≤ length (files (Volume v.0))) vs
  each_long vs all = each-map IsWhole (λ (v : ℕ × List Item). 132 ≤ length (files (Volume v.0))) (λ v whole. labelled_long IsItem (files (Volume v.0)) l (pos v.0) v.1 [] whole) vs all

  stays : (v : ℕ × List Item) → IsWhole v → StaysMended v
  stays v whole = record { torn = []; is_torn = nothing_torn; is = sym (append-nil (files (Volume v.0))); whole = whole }

  all_mended : (vs before : Volumes) → vs ≡ before ++ last ∷ [] → AllByRecursion IsWhole vs → AreMended files l files vs
  all_mended [] before e all = absurd (not_none before last e)
  all_mended (v ∷ vs) before e all = each-map IsWhole StaysMended stays (v ∷ vs) all

pub whole_stays : (files : Files) (c : ArchiveContents) (number : ℕ) → IsArchive files c → EndsWhole files c number → (has : HasEntries (files Index) c) → has.rest ≡ [] → LabelledFile IsRecord (files Meta) c.label (negsuc 0) c.records [] → IsRecovered files c files
whole_stays files c number is last has none meta =
    let end : ℕ × List Item = (number, last.items) in
    let all = each_whole files c.label end c.volumes last.before last.are is.volumes last.whole in
    let labelled : labelled_volumes files c.volumes ≡ c.volumes = labelled_all files c.volumes (each_long files c.label end c.volumes all) in
    let same : or_first_volume (labelled_volumes files c.volumes) ≡ c.volumes = ap or_first_volume labelled ∙ same_first c.volumes last.before end last.are in
    record {
      meta = record { torn = []; is_torn = nothing_torn; is = sym (append-nil (files Meta)); whole = meta };
      index = inr (has, has.is ∙ ap (λ (rest : List ℕ). has.head ++ (entries c.entries ++ rest)) none ∙ ap (λ (t : List ℕ). has.head ++ t) (append-nil (entries c.entries)));
      volumes = subst (AreMended files c.label files) (sym labelled) (all_mended files c.label end c.volumes last.before last.are all);
      others = λ n other. is.others n (λ h. other (subst (λ (vs : Volumes). Contains (map (λ (v : ℕ × List Item). v.0) vs) n) (sym same) h));
    }
