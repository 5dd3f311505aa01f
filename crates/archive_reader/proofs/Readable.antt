-- Records that stand from the first place on, up to an end, are all items of an archive.
use Rattle.std.proofs.Common.{◌≡◌, inl, inr, ⊎_elim, ℕ, pos, ◌<◌, Bool, true, false, List, [], ◌∷◌, ◌++◌, length, drop, map, refl, sym, ap, ◌∙◌, subst, append_assoc, arith, eqb-true, eq-eqb, Option, Some, None}
use Rattle.std.specs.Prelude.{Contains, nat_eq}
use Rattle.std.specs.List.{AllByRecursion}
use Rattle.std.proofs.lemmas.List.{drop_all}
use Rattle.pcp_base.specs.declared.file.FileId.TheVariants.{Meta, Index, Volume}
use Rattle.pcp_base.specs.declared.result.Item.{Item}
use Rattle.pcp_model.specs.declared.records.MetaRecord.{MetaRecord}
use Rattle.pcp_model.specs.declared.records.Entry.{Entry}
use Rattle.pcp_model.specs.Archive.{ArchiveReading, LabelledFile, IsMeta, IsIndex, IsLastVolume, AreVolumes, items_of}
use Rattle.pcp_model.specs.Disk.{Files}
use Rattle.pcp_model.specs.Frame.{IsTorn}
use Rattle.pcp_model.specs.LabelFields.{LabelFields}
use Rattle.pcp_model.specs.Payload.{IsItem}
use Rattle.archive_loading.specs.Standing.{ItemStands}
use Rattle.archive_reader.specs.Laws.{IsReadAs}
use Rattle.archive_loading.specs.Loaded.{Loaded, IsOver, contents_with, IsLabelled, IsHeaded, Rises, IsLabelledArchive, IsKeptOf, numbers}
use Rattle.archive_reader.specs.Walks.{next_offset, StandsNext, EndsThere, IsEnd, Leads, AllFrom}
use Rattle.archive_loading.proofs.Passed.{Passed, none_passed, one_passed, file_of, none_read}
use Rattle.archive_reader.proofs.Ends.{behind_end, nothing_stands}
use Rattle.archive_reader.proofs.Stepping.{next_here}

module _ (files : Files) (l : LabelFields) where
  last_of_all : (v : ℕ × ℕ) (at : ℕ) (xs : List Item) → IsHeaded files l v → Passed (files (Volume v.0)) at xs → IsTorn (drop at (files (Volume v.0))) → IsLastVolume (files (Volume v.0)) l v.0 xs
  last_of_all v at xs headed p torn = ⊎_elim (λ label. inr (drop at (files (Volume v.0)), torn, file_of files l v.0 at xs label p))
      (λ part. inl (omega (arith, headed.0, headed.1), none_read files l v.0 at xs part.0.short p, part.0)) headed.2

  -- a volume before the last has its label
  label_of : (v w : ℕ × ℕ) → IsHeaded files l v → v.0 < w.0 → IsHeaded files l w → IsLabelled (files (Volume v.0)) l v.0
  label_of v w headed lt next = ⊎_elim (λ label. label) (λ part. absurd (omega (arith, next.0, next.1, ap length (part.1 w.0 lt)))) headed.2

  pub record Built (vs : List (ℕ × ℕ)) (xs items : List Item) : Type 0 where
    pub volumes : List (ℕ × List Item)
    pub are : AreVolumes files l volumes
    pub same : map (λ (v : ℕ × List Item). v.0) volumes ≡ numbers vs
    pub all : items_of volumes ≡ xs ++ items

  put : (n : ℕ) (xs : List Item) (w : ℕ × ℕ) (ws : List (ℕ × ℕ)) (volumes : List (ℕ × List Item)) → LabelledFile IsItem (files (Volume n)) l (pos n) xs [] → n < w.0 → AreVolumes files l volumes
      → map (λ (v : ℕ × List Item). v.0) volumes ≡ numbers (w ∷ ws) → AreVolumes files l ((n, xs) ∷ volumes)
  put n xs w ws [] file lt are same = absurd (omega (arith, ap length same))
  put n xs w ws (u ∷ us) file lt are same = (file, subst (λ k. n < k) (sym (first u us same)) lt, are)
    where
      first : (u : ℕ × List Item) (us : List (ℕ × List Item)) → map (λ (v : ℕ × List Item). v.0) (u ∷ us) ≡ numbers (w ∷ ws) → u.0 ≡ w.0
      first u us same = cc

  in_last : (v : ℕ × ℕ) (items : List Item) (at : ℕ) (xs : List Item) (last : List (ℕ × ℕ)) (to : ℕ) → IsHeaded files l v → Passed (files (Volume v.0)) at xs
      → Leads files (v ∷ []) at items last to → IsEnd files last to → Built (v ∷ []) xs items
  in_last v [] at xs last to headed p leads ends =
      let torn : IsTorn (drop at (files (Volume v.0))) = subst (λ o. IsEnd files (v ∷ []) o) leads.1 (subst (λ vs. IsEnd files vs to) leads.0 ends) in
      record { volumes = (v.0, xs) ∷ []; are = last_of_all v at xs headed p torn; same = refl; all = refl }
  in_last v (x ∷ items) at xs last to headed p (us, next, step, more) ends =
      let here : ItemStands (files (Volume v.0)) at next x = subst (λ ws. StandsNext files ws at x next) step.volumes step.stands in
      let b : Built (v ∷ []) (xs ++ x ∷ []) items = in_last v items next (xs ++ x ∷ []) last to headed (one_passed (files (Volume v.0)) at next xs x p here) (subst (λ ws. Leads files ws next items last to) step.volumes more) ends in
      record { volumes = b.volumes; are = b.are; same = b.same; all = b.all ∙ append_assoc xs (x ∷ []) items }

  at_end : (v w : ℕ × ℕ) (ws : List (ℕ × ℕ)) (then_ : (items : List Item) → AllFrom files (w ∷ ws) 132 items → Built (w ∷ ws) [] items) (items : List Item) (at : ℕ) (xs : List Item)
      → IsHeaded files l v → v.0 < w.0 → IsHeaded files l w → Passed (files (Volume v.0)) at xs → at ≡ v.1 → AllFrom files (w ∷ ws) 132 items → Built (v ∷ w ∷ ws) xs items
  at_end v w ws then_ items at xs headed lt next_headed p end a =
      let b : Built (w ∷ ws) [] items = then_ items a in
      let nothing : drop at (files (Volume v.0)) ≡ [] = drop_all at (files (Volume v.0)) (omega (arith, end, headed.0)) in
      let file : LabelledFile IsItem (files (Volume v.0)) l (pos v.0) xs [] = subst (LabelledFile IsItem (files (Volume v.0)) l (pos v.0) xs) nothing (file_of files l v.0 at xs (label_of v w headed lt next_headed) p) in
      record { volumes = (v.0, xs) ∷ b.volumes; are = put v.0 xs w ws b.volumes file lt b.are b.same; same = ap (λ ns. v.0 ∷ ns) b.same; all = ap (λ more. xs ++ more) b.all }

  not_both : (b : Bool) → b ≡ true → b ≡ false → ⊥
  not_both b one other = let both : true ≡ false = sym one ∙ other in cc

  in_volume : (items : List Item) (b : Bool) (v w : ℕ × ℕ) (ws : List (ℕ × ℕ)) (then_ : (items : List Item) → AllFrom files (w ∷ ws) 132 items → Built (w ∷ ws) [] items) (at : ℕ) (xs : List Item) (last : List (ℕ × ℕ)) (to : ℕ)
      → IsHeaded files l v → v.0 < w.0 → IsHeaded files l w → Passed (files (Volume v.0)) at xs → Leads files (v ∷ w ∷ ws) at items last to → IsEnd files last to → nat_eq at v.1 ≡ b → Built (v ∷ w ∷ ws) xs items
  in_volume [] true v w ws then_ at xs last to headed lt next_headed p leads ends e =
      let end : at ≡ v.1 = eqb-true at v.1 e in at_end v w ws then_ [] at xs headed lt next_headed p end (behind_end files v w ws [] at last to end leads ends)
  in_volume (x ∷ items) true v w ws then_ at xs last to headed lt next_headed p leads ends e =
      let end : at ≡ v.1 = eqb-true at v.1 e in at_end v w ws then_ (x ∷ items) at xs headed lt next_headed p end (behind_end files v w ws (x ∷ items) at last to end leads ends)
  in_volume [] false v w ws then_ at xs last to headed lt next_headed p leads ends e =
      let here = next_here v w ws at (λ same. not_both (nat_eq at v.1) (eq-eqb at v.1 same) e) in
      let there : IsEnd files (v ∷ w ∷ ws) at = subst (λ o. IsEnd files (v ∷ w ∷ ws) o) leads.1 (subst (λ vs. IsEnd files vs to) leads.0 ends) in
      absurd (subst (λ vs. EndsThere files vs (next_offset (v ∷ w ∷ ws) at)) here.0 there)
  in_volume (x ∷ items) false v w ws then_ at xs last to headed lt next_headed p (us, next, step, more) ends e =
      let here = next_here v w ws at (λ same. not_both (nat_eq at v.1) (eq-eqb at v.1 same) e) in
      let whole : us ≡ v ∷ w ∷ ws = step.volumes ∙ here.0 in
      let stands : ItemStands (files (Volume v.0)) at next x = subst (λ o. StandsNext files (v ∷ w ∷ ws) o x next) here.1 (subst (λ vs. StandsNext files vs (next_offset (v ∷ w ∷ ws) at) x next) whole step.stands) in
      let b : Built (v ∷ w ∷ ws) (xs ++ x ∷ []) items = in_volume items (nat_eq next v.1) v w ws then_ next (xs ++ x ∷ []) last to headed lt next_headed (one_passed (files (Volume v.0)) at next xs x p stands)
      (subst (λ vs. Leads files vs next items last to) whole more) ends refl in
      record { volumes = b.volumes; are = b.are; same = b.same; all = b.all ∙ append_assoc xs (x ∷ []) items }

  pub built : (v : ℕ × ℕ) (vs : List (ℕ × ℕ)) → AllByRecursion (IsHeaded files l) (v ∷ vs) → Rises (v ∷ vs) → (items : List Item) → AllFrom files (v ∷ vs) 132 items → Built (v ∷ vs) [] items
  built v [] each rises items a = in_last v items 132 [] a.last a.to each.0 (none_passed (files (Volume v.0))) a.leads a.ends
  built v (w ∷ ws) each rises items a =
      in_volume items (nat_eq 132 v.1) v w ws (built w ws each.1 rises.1) 132 [] a.last a.to each.0 rises.0.0 each.1.0 (none_passed (files (Volume v.0))) a.leads a.ends refl

meta_kept : (bytes : List ℕ) (l : LabelFields) (records : List MetaRecord) (entries : List Entry) (volumes : List (ℕ × List Item)) → IsMeta bytes (contents_with l records [] []) → IsMeta bytes (contents_with l records entries volumes)
meta_kept bytes l records entries volumes m = record { torn = m.torn; is_torn = m.is_torn; holds = m.holds; consistent = m.consistent }

index_kept : (bytes : List ℕ) (l : LabelFields) (records : List MetaRecord) (entries : List Entry) (volumes : List (ℕ × List Item)) → IsIndex bytes (contents_with l [] entries []) → IsIndex bytes (contents_with l records entries volumes)
index_kept bytes l records entries volumes (inl none) = inl none
index_kept bytes l records entries volumes (inr has) = inr (record { head = has.head; label = has.label; fit = has.fit; rest = has.rest; short = has.short; is = has.is })

with_volumes : (files : Files) (l : LabelFields) (records : List MetaRecord) (entries : List Entry) (vs : List (ℕ × ℕ)) (items : List Item) → IsLabelledArchive files l records entries vs → Built files l vs [] items → IsReadAs files records items
with_volumes files l records entries vs items kept b = record {
  reading = ArchiveReading.archive (contents_with l records entries b.volumes);
  is = record {
    meta = meta_kept (files Meta) l records entries b.volumes kept.meta;
    index = index_kept (files Index) l records entries b.volumes kept.index;
    volumes = b.are;
    others = λ n other. kept.others n (λ told. other (subst (λ ns. Contains ns n) (sym b.same) told));
    labelled = kept.beside;
  };
  scan_is = b.all;
  records_are = refl;
}

pub is_read : (files : Files) (label : Option LabelFields) (records : List MetaRecord) (entries : List Entry) (vs : List (ℕ × ℕ)) (items : List Item) → IsKeptOf files label records entries vs → AllFrom files vs 132 items → IsReadAs files records items
is_read files None records entries vs items kept a =
    let none : items ≡ [] = let b : AllFrom files [] 132 items = subst (λ ws. AllFrom files ws 132 items) kept.3 a in nothing_stands files items 132 b.last b.to b.leads in
    record { reading = ArchiveReading.nothing; is = kept.0; scan_is = sym none; records_are = sym kept.1 }
is_read files (Some l) records entries [] items kept a =
    let none : items ≡ [] = nothing_stands files items 132 a.last a.to a.leads in
    with_volumes files l records entries [] items kept (record { volumes = []; are = tt; same = refl; all = sym none })
is_read files (Some l) records entries (v ∷ vs) items kept a = with_volumes files l records entries (v ∷ vs) items kept (built files l v vs kept.labelled.0 kept.labelled.1 items a)

pub standing_is_read : (files : Files) (r : Loaded) (items : List Item) → IsOver files r → AllFrom files r.volumes 132 items → IsReadAs files r.records items
standing_is_read files r items over a = is_read files r.label r.records r.entries r.volumes items over a
