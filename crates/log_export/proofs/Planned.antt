-- What is planned of an archive that was walked is its export.
use Rattle.std.proofs.Common.{zero, suc, ◌≡◌, ◌≢◌, inl, inr, ⊎_elim, ℕ, pos, negsuc, ◌<◌, ◌≤◌, Bool, true, false, List, [], ◌∷◌, ◌++◌, length, take, drop, map, refl, sym, ap, ◌∙◌, subst, arith, Option, Some, None, eq-eqb}
use Rattle.std.specs.Prelude.{◌&&◌, Contains, IfSome, IsTrue, if◌then◌else◌, is_some, nat_lt, ◌==◌, unwrap_or}
use Rattle.std.specs.List.{AllByRecursion, list_all}
use Rattle.std.proofs.lemmas.Bool.{cases_lt, lt-ltb, le-ltb, ltb-true, ne_eqb}
use Rattle.std.proofs.lemmas.List.{length-append, length-map, length-take, length-take-le, nil_from_length, take_all, take_at, take-append-drop}
use Rattle.pcp_base.specs.declared.file.FileId.TheVariants.{Meta, Index, Volume}
use Rattle.pcp_base.specs.declared.result.Item.{Item}
use Rattle.pcp_model.specs.declared.records.Entry.{Entry}
use Rattle.pcp_model.specs.declared.records.MetaRecord.{MetaRecord}
use Rattle.pcp_model.specs.Archive.{ArchiveContents, LabelledFile, HasEntries, IsMeta, IsIndex, IsLastVolume, AreVolumes, IsArchive, items_of}
use Rattle.pcp_model.specs.Disk.{Files}
use Rattle.pcp_model.specs.Frame.{IsTorn}
use Rattle.pcp_model.specs.LabelFields.{LabelFields}
use Rattle.pcp_model.specs.Labels.{label}
use Rattle.pcp_model.specs.Payload.{IsItem}
use Rattle.pcp_model.specs.Records.{IsRecord, entries}
use Rattle.pcp_model.specs.Recovered.{AreMended, IsMended, IsMendedIndex, IsRecovered, labelled_volumes, or_first_volume}
use Rattle.pcp_model.proofs.Cuts.{SpelledLabel, length_of_label}
use Rattle.pcp_model.proofs.CutArchive.{none_appended}
use Rattle.pcp_model.proofs.Lengths.{length-label}
use Rattle.pcp_model.proofs.Lists.{each-append}
use Rattle.pcp_model.proofs.OneItem.{one_item}
use Rattle.pcp_model.proofs.OneRecord.{one_record}
use Rattle.pcp_model.proofs.Recovered.{spelled_of}
use Rattle.pcp_model.proofs.Unique.{one_file, SameFile}
use Rattle.archive_loading.specs.declared.metadata.MetaEnd.{MetaEnd}
use Rattle.archive_loading.specs.Loaded.{contents_with, IsHeaded, IsKeptOf, IsLabelled, IsLabelledArchive, numbers}
use Rattle.archive_loading.specs.Metadata.{HasEnd}
use Rattle.archive_loading.proofs.Passed.{file_of}
use Rattle.archive_reader.specs.Walks.{Leads, StandsNext, next_offset, volumes_from}
use Rattle.archive_reader.proofs.Founds.{IsOf, is_of}
use Rattle.archive_reader.proofs.Readable.{Built, built}
use Rattle.archive_recovery.specs.declared.mending.Last.{Last}
use Rattle.archive_recovery.specs.Damage.{HasEnd as LastEnd}
use Rattle.archive_recovery.proofs.Ends.{all_labelled, before_whole, labelled_before, unlisted}
use Rattle.archive_recovery.proofs.LastVolume.{this_or_other}
use Rattle.archive_recovery.proofs.OneVolume.{file_up_to}
use Rattle.archive_recovery.proofs.Parts.{can_mend}
use Rattle.archive_recovery.proofs.Surveying.{meta_mended, meta_within}
use Rattle.archive_recovery.proofs.Volumes.{some_mended}
use Rattle.log_export.specs.declared.planning.Plan.{Plan}
use Rattle.log_export.specs.declared.walking.Walk.{Walk}
use Rattle.log_export.specs.Exported.{IsExported, first_number, kept_entries, start_entry, with_first}
use Rattle.log_export.specs.Planning.{AreCountable, HasArchive, IsMetaEnd, IsPlanOf, first_of, index_label, index_text, is_bare, last_of, left_of, planned, planned_volume, up_to_last}
use Rattle.log_export.specs.Reading.{Walked}
use Rattle.log_export.proofs.Halting.{Halts, halts}

-- ---- the archive

meta_with : (bytes : List ℕ) (l : LabelFields) (records : List MetaRecord) (es : List Entry) (vs : List (ℕ × List Item)) → IsMeta bytes (contents_with l records [] []) → IsMeta bytes (contents_with l records es vs)
meta_with bytes l records es vs m = record { torn = m.torn; is_torn = m.is_torn; holds = m.holds; consistent = m.consistent }

index_with : (bytes : List ℕ) (l : LabelFields) (records : List MetaRecord) (es : List Entry) (vs : List (ℕ × List Item)) → IsIndex bytes (contents_with l [] es []) → IsIndex bytes (contents_with l records es vs)
index_with bytes l records es vs (inl none) = inl none
index_with bytes l records es vs (inr has) = inr (record { head = has.head; label = has.label; fit = has.fit; rest = has.rest; short = has.short; is = has.is })

-- the last of some volumes
last_one : (files : Files) (l : LabelFields) (before : List (ℕ × List Item)) (x : ℕ × List Item) → AreVolumes files l (before ++ x ∷ []) → IsLastVolume (files (Volume x.0)) l x.0 x.1
last_one files l [] x are = are
last_one files l (v ∷ []) x are = are.2
last_one files l (v ∷ w ∷ vs) x are = last_one files l (w ∷ vs) x are.2

record Split (cs : List (ℕ × List Item)) (before : List (ℕ × ℕ)) (v : ℕ × ℕ) : Type 0 where
  pub front : List (ℕ × List Item)
  pub items : List Item
  pub are : cs ≡ front ++ (v.0, items) ∷ []
  pub many : length front ≡ length before

split : (cs : List (ℕ × List Item)) (before : List (ℕ × ℕ)) (v : ℕ × ℕ) → map (λ (c : ℕ × List Item). c.0) cs ≡ numbers (before ++ v ∷ []) → Split cs before v
split [] [] v e = absurd (omega (arith, ap length e))
split [] (w ∷ before) v e = absurd (omega (arith, ap length e))
split (c ∷ []) [] v e = record { front = []; items = c.1; are = ap (λ n. (n, c.1) ∷ []) (first e); many = refl }
  where
    first : map (λ (c : ℕ × List Item). c.0) (c ∷ []) ≡ numbers (v ∷ []) → c.0 ≡ v.0
    first e = cc
split (c ∷ []) (w ∷ before) v e = absurd (omega (arith, ap length e, length-append before (v ∷ []), length-map (before ++ v ∷ []) (λ (x : ℕ × ℕ). x.0)))
split (c ∷ d ∷ cs) [] v e = absurd (omega (arith, ap length e))
split (c ∷ d ∷ cs) (w ∷ before) v e =
    let s : Split (d ∷ cs) before v = split (d ∷ cs) before v (others e) in
    record { front = c ∷ s.front; items = s.items; are = ap (λ xs. c ∷ xs) s.are; many = ap (λ n. suc n) s.many }
  where
    others : map (λ (c : ℕ × List Item). c.0) (c ∷ d ∷ cs) ≡ numbers (w ∷ before ++ v ∷ []) → map (λ (c : ℕ × List Item). c.0) (d ∷ cs) ≡ numbers (before ++ v ∷ [])
    others e = cc

last_of_all : (end : ℕ) (before : List (ℕ × ℕ)) (v : ℕ × ℕ) → last_of end (before ++ v ∷ []) ≡ Some record { number = v.0; end = if nat_lt v.1 132 then None else Some end; length = v.1 }
last_of_all end [] v = refl
last_of_all end (w ∷ []) v = refl
last_of_all end (w ∷ x ∷ before) v = last_of_all end (x ∷ before) v

bare_many : (w : ℕ × ℕ) (before : List (ℕ × ℕ)) (v : ℕ × ℕ) → is_bare (w ∷ before ++ v ∷ []) ≡ false
bare_many w [] v = refl
bare_many w (x ∷ before) v = refl

each_last : (P : ℕ × ℕ → Type 0) (before : List (ℕ × ℕ)) (v : ℕ × ℕ) → AllByRecursion P (before ++ v ∷ []) → P v
each_last P [] v all = all.0
each_last P (w ∷ before) v all = each_last P before v all.1

module _ (files : Files) (l : LabelFields) (records : List MetaRecord) (es : List Entry) (vs : List (ℕ × ℕ)) (kept : IsLabelledArchive files l records es vs) where
  -- its volumes with their items
  pub record Filled (count : ℕ) : Type 0 where
    pub volumes : List (ℕ × List Item)
    pub are : AreVolumes files l volumes
    pub same : map (λ (c : ℕ × List Item). c.0) volumes ≡ numbers vs
    pub counted : count ≡ length (items_of volumes)

  module _ (count : ℕ) (f : Filled count) where
    abbrev pub contents : ArchiveContents
    contents = contents_with l records es f.volumes

    pub is_archive : IsArchive files contents
    is_archive = record {
      meta = meta_with (files Meta) l records es f.volumes kept.meta;
      index = index_with (files Index) l records es f.volumes kept.index;
      volumes = f.are;
      others = λ n other. kept.others n (λ told. other (subst (λ ns. Contains ns n) (sym f.same) told));
      labelled = kept.beside;
    }

    abbrev labelled : List (ℕ × List Item)
    labelled = labelled_volumes files f.volumes

    spelled : SpelledLabel l
    spelled = spelled_of kept.meta.holds.head l (negsuc 0) kept.meta.holds.label

    -- ---- the volumes

    -- the volumes of a plan are those that recovery leaves, and the first of them is known
    pub record FitVolumes (end : ℕ) (out : ℕ → List ℕ) : Type 0 where
      pub left : (other : Files) → ((n : ℕ) → other (Volume n) ≡ out n) → AreMended files l other labelled
      pub others : (n : ℕ) → (Contains (map (λ (c : ℕ × List Item). c.0) (or_first_volume labelled)) n → ⊥) → out n ≡ []
      pub first : first_of (is_bare vs) vs ≡ first_number labelled
      pub within : IfSome (last_of end vs) (λ (x : Last). IfSome x.end (λ at. at ≤ length (files (Volume x.number))))

    given_of : Bool → Option (List ℕ)
    given_of bare = if bare then Some (label l (pos 0)) else None

    zero_alone : (n : ℕ) → (Contains (0 ∷ []) n → ⊥) → (last : Option Last) → planned_volume files (Some (label l (pos 0))) last n ≡ []
    zero_alone zero none last = absurd (none (0, omega arith, refl))
    zero_alone (suc n) none last = ap (λ (b : Bool). if b then label l (pos 0) else []) (ne_eqb (suc n) 0 (λ e. omega (arith, e)))

    -- no volume has its label
    bare_volumes : (end : ℕ) → labelled ≡ [] → is_bare vs ≡ true → IfSome (last_of end vs) (λ (x : Last). IfSome x.end (λ at. at ≤ length (files (Volume x.number)))) → FitVolumes end (planned_volume files (if is_bare vs then Some (label l (pos 0)) else None) (last_of end vs))
    bare_volumes end none bare within =
        subst (λ (b : Bool). FitVolumes end (planned_volume files (if b then Some (label l (pos 0)) else None) (last_of end vs))) (sym bare) (record {
          left = λ other same. subst (AreMended files l other) (sym none) (same 0);
          others = λ n absent. zero_alone n (λ has. absent (subst (λ (xs : List (ℕ × List Item)). Contains (map (λ (c : ℕ × List Item). c.0) (or_first_volume xs)) n) (sym none) has)) (last_of end vs);
          first = ap (λ (b : Bool). first_of b vs) bare ∙ sym (ap first_number none);
          within = within;
        })

    -- the number of the first volume, where it has its label
    heads : (cs : List (ℕ × List Item)) (ws : List (ℕ × ℕ)) → map (λ (c : ℕ × List Item). c.0) cs ≡ numbers ws → first_of false ws ≡ first_number cs
    heads [] [] e = refl
    heads [] (w ∷ ws) e = absurd (omega (arith, ap length e))
    heads (c ∷ cs) [] e = absurd (omega (arith, ap length e))
    heads (c ∷ cs) (w ∷ ws) e = first e
      where
        first : map (λ (x : ℕ × List Item). x.0) (c ∷ cs) ≡ numbers (w ∷ ws) → w.0 ≡ c.0
        first e = cc

    first_kept : (front : List (ℕ × List Item)) (x : ℕ × List Item) → (front ≡ [] → ⊥) → first_number (front ++ x ∷ []) ≡ first_number front
    first_kept [] x some = absurd (some refl)
    first_kept (c ∷ front) x some = refl

    same_first : (front : List (ℕ × List Item)) (x : ℕ × List Item) → or_first_volume (front ++ x ∷ []) ≡ front ++ x ∷ []
    same_first [] x = refl
    same_first (c ∷ front) x = refl

    are_before : (other : Files) (cs : List (ℕ × List Item)) → (cs ≡ [] → ⊥) → AllByRecursion (λ (c : ℕ × List Item). IsMended IsItem (files (Volume c.0)) l (pos c.0) c.1 (other (Volume c.0))) cs → AreMended files l other cs
    are_before other [] some all = absurd (some refl)
    are_before other (c ∷ cs) some all = all

    first_same : (cs : List (ℕ × List Item)) → (cs ≡ [] → ⊥) → or_first_volume cs ≡ cs
    first_same [] some = absurd (some refl)
    first_same (c ∷ cs) some = refl

    up_low : (x : Last) (n : ℕ) → n < x.number → up_to_last files (Some x) n ≡ files (Volume n)
    up_low x n lt = ap (λ (b : Bool). if b then files (Volume n) else if n == x.number then take (unwrap_or x.end 0) (files (Volume n)) else []) (lt-ltb n x.number lt)

    up_this : (x : Last) → up_to_last files (Some x) x.number ≡ take (unwrap_or x.end 0) (files (Volume x.number))
    up_this x =
        ap (λ (b : Bool). if b then files (Volume x.number) else if x.number == x.number then take (unwrap_or x.end 0) (files (Volume x.number)) else []) (le-ltb x.number x.number (omega arith))
        ∙ ap (λ (b : Bool). if b then take (unwrap_or x.end 0) (files (Volume x.number)) else []) (eq-eqb x.number x.number refl)

    up_high : (x : Last) (n : ℕ) → x.number < n → up_to_last files (Some x) n ≡ []
    up_high x n lt =
        ap (λ (b : Bool). if b then files (Volume n) else if n == x.number then take (unwrap_or x.end 0) (files (Volume n)) else []) (le-ltb n x.number (omega (arith, lt)))
        ∙ ap (λ (b : Bool). if b then take (unwrap_or x.end 0) (files (Volume n)) else []) (ne_eqb n x.number (λ e. omega (arith, lt, e)))

    -- a volume that isn't listed is left out
    up_none : (x : Last) (n : ℕ) → n ≢ x.number → files (Volume n) ≡ [] → up_to_last files (Some x) n ≡ []
    up_none x n other none = ⊎_elim (λ (lt : n < x.number). up_low x n lt ∙ none) (λ (ge : x.number ≤ n). ⊎_elim (λ (gt : x.number < n). up_high x n gt) (λ (le : n ≤ x.number). absurd (other (omega (arith, ge, le)))) (cases_lt x.number n)) (cases_lt n x.number)

    module _ (end : ℕ) (h : Halts files vs end) where
      headed : IsHeaded files l h.v
      headed = each_last (IsHeaded files l) h.before h.v (subst (AllByRecursion (IsHeaded files l)) h.all_are kept.labelled.0)

      abbrev s : Split f.volumes h.before h.v
      s = split f.volumes h.before h.v (f.same ∙ ap numbers h.all_are)

      last_is : last_of end vs ≡ Some record { number = h.v.0; end = if nat_lt h.v.1 132 then None else Some end; length = h.v.1 }
      last_is = ap (last_of end) h.all_are ∙ last_of_all end h.before h.v

      not_bare_many : (h.before ≡ [] → ⊥) → is_bare vs ≡ false
      not_bare_many some = ap is_bare h.all_are ∙ by h.before some
        where
          by : (before : List (ℕ × ℕ)) → (before ≡ [] → ⊥) → is_bare (before ++ h.v ∷ []) ≡ false
          by [] some = absurd (some refl)
          by (w ∷ before) some = bare_many w before h.v

      -- ---- the last one's label isn't whole

      module _ (short : h.v.1 < 132) where
        abbrev short_last : Last
        short_last = record { number = h.v.0; end = None; length = h.v.1 }

        short_bytes : length (files (Volume h.v.0)) < 132
        short_bytes = omega (arith, short, headed.0)

        abbrev short_end : LastEnd files contents short_last
        short_end = record { before = s.front; items = s.items; are = s.are; is = short_bytes }

        front_labelled : labelled ≡ s.front
        front_labelled = labelled_before files contents is_archive short_last short_end short_bytes

        short_is : last_of end vs ≡ Some short_last
        short_is = last_is ∙ ap (λ (b : Bool). Some record { number = h.v.0; end = if b then None else Some end; length = h.v.1 }) (lt-ltb h.v.1 132 short)

        none_within : IfSome (last_of end vs) (λ (x : Last). IfSome x.end (λ at. at ≤ length (files (Volume x.number))))
        none_within = subst (λ (o : Option Last). IfSome o (λ (x : Last). IfSome x.end (λ at. at ≤ length (files (Volume x.number))))) (sym short_is) tt

        alone : s.front ≡ [] → FitVolumes end (planned_volume files (if is_bare vs then Some (label l (pos 0)) else None) (last_of end vs))
        alone none =
            let no_other : h.before ≡ [] = nil_from_length h.before (omega (arith, s.many, ap length none)) in
            bare_volumes end (front_labelled ∙ none) (ap is_bare (h.all_are ∙ ap (λ b. b ++ h.v ∷ []) no_other) ∙ lt-ltb h.v.1 132 short) none_within

        behind_others : (s.front ≡ [] → ⊥) → FitVolumes end (planned_volume files (if is_bare vs then Some (label l (pos 0)) else None) (last_of end vs))
        behind_others some =
            let many : h.before ≡ [] → ⊥ = λ none. some (nil_from_length s.front (omega (arith, s.many, ap length none))) in
            let bare : is_bare vs ≡ false = not_bare_many many in
            subst (λ (b : Bool). FitVolumes end (planned_volume files (if b then Some (label l (pos 0)) else None) (last_of end vs))) (sym bare)
            (subst (λ (o : Option Last). FitVolumes end (up_to_last files o)) (sym short_is) (record {
              left = λ other same. subst (AreMended files l other) (sym front_labelled)
                  (are_before other s.front some (before_whole files contents is_archive short_last short_end other (λ n low. same n ∙ up_low short_last n low)));
              others = λ n none.
                  let absent : Contains (map (λ (c : ℕ × List Item). c.0) s.front) n → ⊥ = λ has. none (subst (λ (xs : List (ℕ × List Item)). Contains (map (λ (c : ℕ × List Item). c.0) xs) n) (sym (ap or_first_volume front_labelled ∙ first_same s.front some)) has) in
                  ⊎_elim (λ (e : h.v.0 ≡ n). subst (λ (m : ℕ). up_to_last files (Some short_last) m ≡ []) e (up_this short_last))
                  (λ (other : n ≢ h.v.0). up_none short_last n other (is_archive.others n (λ has. let there : Contains (map (λ (c : ℕ × List Item). c.0) (s.front ++ (h.v.0, s.items) ∷ [])) n = subst (λ (xs : List (ℕ × List Item)). Contains (map (λ (c : ℕ × List Item). c.0) xs) n) s.are has in
                  none_appended n h.v.0 s.items s.front other absent there.0 there.1 there.2))) (this_or_other n h.v.0);
              first = ap (λ (b : Bool). first_of b vs) bare ∙ heads f.volumes vs f.same ∙ ap first_number s.are ∙ first_kept s.front (h.v.0, s.items) some ∙ sym (ap first_number front_labelled);
              within = none_within;
            }))

        by_front : (front : List (ℕ × List Item)) → s.front ≡ front → FitVolumes end (planned_volume files (if is_bare vs then Some (label l (pos 0)) else None) (last_of end vs))
        by_front [] is = alone is
        by_front (c ∷ front) is = behind_others (λ none. omega (arith, ap length (sym is ∙ none)))

      -- ---- it is

      module _ (long : 132 ≤ h.v.1) where
        abbrev long_last : Last
        long_last = record { number = h.v.0; end = Some end; length = h.v.1 }

        bytes_long : 132 ≤ length (files (Volume h.v.0))
        bytes_long = omega (arith, long, headed.0)

        end_within : end ≤ length (files (Volume h.v.0))
        end_within = ⊎_elim (λ (first : end ≡ 132). omega (arith, first, bytes_long)) (λ (le : end ≤ length (files (Volume h.v.0))). le) h.low

        has_label : IsLabelled (files (Volume h.v.0)) l h.v.0
        has_label = ⊎_elim (λ label. label) (λ part. absurd (omega (arith, part.0.short, bytes_long))) headed.2

        whole_file : LabelledFile IsItem (files (Volume h.v.0)) l (pos h.v.0) h.items (drop end (files (Volume h.v.0)))
        whole_file = file_of files l h.v.0 end h.items has_label h.passed

        same_items : s.items ≡ h.items
        same_items = ⊎_elim (λ part. absurd (omega (arith, part.2.short, bytes_long)))
            (λ (t : (torn : List ℕ) × IsTorn torn × LabelledFile IsItem (files (Volume h.v.0)) l (pos h.v.0) s.items torn).
            (one_file IsItem one_item (files (Volume h.v.0)) l l (pos h.v.0) (pos h.v.0) s.items h.items t.0 (drop end (files (Volume h.v.0))) t.2 whole_file t.1 h.torn).values)
            (last_one files l s.front (h.v.0, s.items) (subst (AreVolumes files l) s.are f.are))

        mended : IsMended IsItem (files (Volume h.v.0)) l (pos h.v.0) s.items (take end (files (Volume h.v.0)))
        mended = subst (λ xs. IsMended IsItem (files (Volume h.v.0)) l (pos h.v.0) xs (take end (files (Volume h.v.0)))) (sym same_items) (record {
          torn = drop end (files (Volume h.v.0));
          is_torn = h.torn;
          is = sym (take-append-drop end (files (Volume h.v.0)));
          whole = file_up_to files l h.v.0 end h.items end_within whole_file;
        })

        abbrev long_end : LastEnd files contents long_last
        long_end = record { before = s.front; items = s.items; are = s.are; is = (take end (files (Volume h.v.0)), mended, (let e : length (take end (files (Volume h.v.0))) ≡ end = length-take-le end (files (Volume h.v.0)) end_within in sym e)) }

        all_are_labelled : labelled ≡ f.volumes
        all_are_labelled = all_labelled files contents is_archive long_last long_end end (take end (files (Volume h.v.0))) mended

        long_is : last_of end vs ≡ Some long_last
        long_is = last_is ∙ ap (λ (b : Bool). Some record { number = h.v.0; end = if b then None else Some end; length = h.v.1 }) (le-ltb h.v.1 132 long)

        not_bare : (before : List (ℕ × ℕ)) → vs ≡ before ++ h.v ∷ [] → is_bare vs ≡ false
        not_bare [] is = ap is_bare is ∙ le-ltb h.v.1 132 long
        not_bare (w ∷ before) is = ap is_bare is ∙ bare_many w before h.v

        up_to_whole : FitVolumes end (planned_volume files (if is_bare vs then Some (label l (pos 0)) else None) (last_of end vs))
        up_to_whole =
            let bare : is_bare vs ≡ false = not_bare h.before h.all_are in
            subst (λ (b : Bool). FitVolumes end (planned_volume files (if b then Some (label l (pos 0)) else None) (last_of end vs))) (sym bare)
            (subst (λ (o : Option Last). FitVolumes end (up_to_last files o)) (sym long_is) (record {
              left = λ other same.
                  let this : IsMended IsItem (files (Volume h.v.0)) l (pos h.v.0) s.items (other (Volume h.v.0)) = subst (IsMended IsItem (files (Volume h.v.0)) l (pos h.v.0) s.items) (sym (same h.v.0 ∙ up_this long_last)) mended in
                  subst (AreMended files l other) (sym (all_are_labelled ∙ s.are))
                  (some_mended files files other l files s.front (h.v.0, s.items) (each-append (λ (c : ℕ × List Item). IsMended IsItem (files (Volume c.0)) l (pos c.0) c.1 (other (Volume c.0))) s.front ((h.v.0, s.items) ∷ [])
                  (before_whole files contents is_archive long_last long_end other (λ n low. same n ∙ up_low long_last n low)) (this, tt)));
              others = λ n none.
                  let absent : Contains (map (λ (c : ℕ × List Item). c.0) f.volumes) n → ⊥ = λ has. none (subst (λ (xs : List (ℕ × List Item)). Contains (map (λ (c : ℕ × List Item). c.0) xs) n) (sym (ap or_first_volume (all_are_labelled ∙ s.are) ∙ same_first s.front (h.v.0, s.items) ∙ sym s.are)) has) in
                  up_none long_last n (unlisted files contents is_archive long_last long_end n absent) (is_archive.others n absent);
              first = ap (λ (b : Bool). first_of b vs) bare ∙ heads f.volumes vs f.same ∙ sym (ap first_number all_are_labelled);
              within = subst (λ (o : Option Last). IfSome o (λ (x : Last). IfSome x.end (λ at. at ≤ length (files (Volume x.number))))) (sym long_is) end_within;
            }))

      pub some_volumes : FitVolumes end (planned_volume files (if is_bare vs then Some (label l (pos 0)) else None) (last_of end vs))
      some_volumes = ⊎_elim (λ (short : h.v.1 < 132). by_front short s.front refl) (λ (long : 132 ≤ h.v.1). up_to_whole long) (cases_lt h.v.1 132)

    no_volumes : (end : ℕ) → vs ≡ [] → FitVolumes end (planned_volume files (if is_bare vs then Some (label l (pos 0)) else None) (last_of end vs))
    no_volumes end none =
        let no_contents : f.volumes ≡ [] = nil_from_length f.volumes (omega (arith, ap length (f.same ∙ ap numbers none), length-map f.volumes (λ (c : ℕ × List Item). c.0))) in
        bare_volumes end (ap (labelled_volumes files) no_contents) (ap is_bare none) (subst (λ (ws : List (ℕ × ℕ)). IfSome (last_of end ws) (λ (x : Last). IfSome x.end (λ at. at ≤ length (files (Volume x.number))))) (sym none) tt)

    -- ---- the index

    -- the volumes with their label
    left_numbers : (cs : List (ℕ × List Item)) (ws : List (ℕ × ℕ)) → map (λ (c : ℕ × List Item). c.0) cs ≡ numbers ws → AllByRecursion (IsHeaded files l) ws → map (λ (c : ℕ × List Item). c.0) (labelled_volumes files cs) ≡ numbers (left_of ws)
    left_numbers [] [] e all = refl
    left_numbers [] (w ∷ ws) e all = absurd (omega (arith, ap length e))
    left_numbers (c ∷ cs) [] e all = absurd (omega (arith, ap length e))
    left_numbers (c ∷ []) (w ∷ []) e all = ap (λ (b : Bool). map (λ (x : ℕ × List Item). x.0) (if b then [] else c ∷ [])) same_length ∙ by (nat_lt w.1 132)
      where
        same : c.0 ≡ w.0
        same = cc

        same_length : nat_lt (length (files (Volume c.0))) 132 ≡ nat_lt w.1 132
        same_length = ap (λ n. nat_lt n 132) (ap (λ n. length (files (Volume n))) same ∙ sym all.0.0)

        by : (b : Bool) → map (λ (x : ℕ × List Item). x.0) (if b then [] else c ∷ []) ≡ numbers (if b then [] else w ∷ [])
        by true = refl
        by false = ap (λ n. n ∷ []) same
    left_numbers (c ∷ []) (w ∷ x ∷ ws) e all = absurd (omega (arith, ap length e))
    left_numbers (c ∷ d ∷ cs) (w ∷ []) e all = absurd (omega (arith, ap length e))
    left_numbers (c ∷ d ∷ cs) (w ∷ x ∷ ws) e all = ap (λ n. n ∷ map (λ (y : ℕ × List Item). y.0) (labelled_volumes files (d ∷ cs))) (first e) ∙ ap (λ ns. w.0 ∷ ns) (left_numbers (d ∷ cs) (x ∷ ws) (others e) all.1)
      where
        first : map (λ (y : ℕ × List Item). y.0) (c ∷ d ∷ cs) ≡ numbers (w ∷ x ∷ ws) → c.0 ≡ w.0
        first e = cc

        others : map (λ (y : ℕ × List Item). y.0) (c ∷ d ∷ cs) ≡ numbers (w ∷ x ∷ ws) → map (λ (y : ℕ × List Item). y.0) (d ∷ cs) ≡ numbers (x ∷ ws)
        others e = cc

    label_kept : (t : List ℕ) → IsMendedIndex (files Index) contents t → index_label (files Index) l ≡ take 132 t
    label_kept t (inl given) =
        let long : length (label l (negsuc 1)) ≡ 132 = length-label l (negsuc 1) spelled.fits in
        ap (λ (b : Bool). if b then label l (negsuc 1) else take 132 (files Index)) (lt-ltb (length (files Index)) 132 given.0)
        ∙ sym (ap (take 132) given.1 ∙ take_all 132 (label l (negsuc 1)) (omega (arith, long)))
    label_kept t (inr mended) =
        let has : HasEntries (files Index) contents = mended.0 in
        let head : length has.head ≡ 132 = length_of_label has.head l (negsuc 1) has.label in
        let long : 132 ≤ length (files Index) = omega (arith, ap length has.is, length-append has.head (entries es ++ has.rest), head) in
        ap (λ (b : Bool). if b then label l (negsuc 1) else take 132 (files Index)) (le-ltb (length (files Index)) 132 long)
        ∙ ap (take 132) has.is ∙ take_at has.head (entries es ++ has.rest) 132 head
        ∙ sym (ap (take 132) mended.1 ∙ take_at has.head (entries es) 132 head)

    -- ---- all

    module _ (end : ℕ) (fit : FitVolumes end (planned_volume files (if is_bare vs then Some (label l (pos 0)) else None) (last_of end vs))) (p : Plan) (e : MetaEnd) (m : HasEnd (files Meta) l records e) (meta_is : p.meta ≡ e.end)
        (index_is : p.index ≡ index_text (files Index) es l vs) (last_known : p.last ≡ last_of end vs) (given_known : p.given ≡ (if is_bare vs then Some (label l (pos 0)) else None)) (items_known : p.items ≡ count) (countable : AreCountable files) where
      abbrev can : (t : List ℕ) × IsMendedIndex (files Index) contents t
      can = can_mend (files Index) contents is_archive.index

      abbrev left_files : Files
      left_files Meta = take p.meta (files Meta)
      left_files Index = can.0
      left_files (Volume n) = planned_volume files p.given p.last n

      volume_known : (n : ℕ) → planned_volume files p.given p.last n ≡ planned_volume files (if is_bare vs then Some (label l (pos 0)) else None) (last_of end vs) n
      volume_known n = ap (λ (g : Option (List ℕ)). planned_volume files g p.last n) given_known ∙ ap (λ (o : Option Last). planned_volume files (if is_bare vs then Some (label l (pos 0)) else None) o n) last_known

      recovered : IsRecovered files contents left_files
      recovered = record {
        meta = subst (λ n. IsMended IsRecord (files Meta) l (negsuc 0) records (take n (files Meta))) (sym meta_is) (meta_mended (files Meta) l records e.end e.last m.has_label m.all);
        index = can.1;
        volumes = fit.left left_files volume_known;
        others = λ n none. volume_known n ∙ fit.others n none;
      }

      exported : IsExported files contents (planned files p)
      exported = record {
        left = left_files;
        recovered = recovered;
        meta = refl;
        index = index_is ∙ ap (λ t. t ++ entries (first_entries (first_of (is_bare vs) vs) (numbers (left_of vs)))) (label_kept can.0 can.1) ∙ ap (λ n. take 132 can.0 ++ entries (first_entries n (numbers (left_of vs)))) fit.first
            ∙ ap (λ ns. take 132 can.0 ++ entries (first_entries (first_number labelled) ns)) (sym (left_numbers f.volumes vs f.same kept.labelled.0));
        volumes = λ n. refl;
      }
        where
          first_entries : ℕ → List ℕ → List Entry
          first_entries n ns = with_first (start_entry l n) (kept_entries ns es)

      pub plan_is : IsPlanOf files p
      plan_is = record {
        contents = contents;
        is = is_archive;
        exported = exported;
        counted = items_known ∙ f.counted;
        fits = record {
          meta = let within : e.end ≡ length (take e.end (files Meta)) = meta_within (files Meta) l records e.end e.last m.has_label m.all in omega (arith, meta_is, within, length-take e.end (files Meta));
          last = subst (λ (o : Option Last). IfSome o (λ (x : Last). IfSome x.end (λ at. at ≤ length (files (Volume x.number))))) (sym last_known) fit.within;
          countable = countable;
        };
      }

-- ---- how many bytes the volumes have

both : (x y : Bool) → (x && y) ≡ true → (x ≡ true) × (y ≡ true)
both true y h = (refl, h)
both false y h = (cc, cc)

abbrev are_told : List (ℕ × ℕ) → Bool
are_told vs = list_all (λ v. nat_lt v.1 18446744073709551615) vs

each_told : (files : Files) (l : LabelFields) (n : ℕ) (vs : List (ℕ × ℕ)) → are_told vs ≡ true → AllByRecursion (IsHeaded files l) vs → IsOf n vs → length (files (Volume n)) < 18446744073709551615
each_told files l n [] told all there = absurd there
each_told files l n (v ∷ vs) told all (inl same) =
    let less : v.1 < 18446744073709551615 = ltb-true v.1 18446744073709551615 (both (nat_lt v.1 18446744073709551615) (are_told vs) told).0 in
    subst (λ (m : ℕ). length (files (Volume m)) < 18446744073709551615) same (omega (arith, all.0.0, less))
each_told files l n (v ∷ vs) told all (inr there) = each_told files l n vs (both (nat_lt v.1 18446744073709551615) (are_told vs) told).1 all.1 there

all_told : (files : Files) (l : LabelFields) (vs : List (ℕ × ℕ)) → are_told vs ≡ true → AllByRecursion (IsHeaded files l) vs → ((n : ℕ) → (Contains (numbers vs) n → ⊥) → files (Volume n) ≡ []) → AreCountable files
all_told files l vs told all others =
    λ n. ⊎_elim (λ (there : IsOf n vs). each_told files l n vs told all there) (λ (none : Contains (numbers vs) n → ⊥). omega (arith, ap length (others n none))) (is_of n vs)

-- ---- of a walk

nothing_stands : (files : Files) (items : List Item) (last : List (ℕ × ℕ)) (to : ℕ) → Leads files [] 132 items last to → items ≡ []
nothing_stands files [] last to leads = refl
nothing_stands files (x ∷ items) last to (us, next, step, more) = absurd (subst (λ ws. StandsNext files ws 132 x next) step.volumes step.stands)

filled : (files : Files) (l : LabelFields) (records : List MetaRecord) (es : List Entry) (vs : List (ℕ × ℕ)) (kept : IsLabelledArchive files l records es vs) (w : Walk) → Walked files vs w → Filled files l records es vs kept w.items
filled files l records es [] kept w walked = record {
  volumes = [];
  are = tt;
  same = refl;
  counted = walked.counted ∙ ap length (nothing_stands files walked.items (volumes_from w.end.volume []) w.end.offset walked.leads);
}
filled files l records es (v ∷ vs) kept w walked =
    let b : Built files l (v ∷ vs) [] walked.items =
    built files l v vs kept.labelled.0 kept.labelled.1 walked.items (record { last = volumes_from w.end.volume (v ∷ vs); to = w.end.offset; leads = walked.leads; ends = walked.ends }) in
    record { volumes = b.volumes; are = b.are; same = b.same; counted = walked.counted ∙ sym (ap length b.all) }

abbrev end_of : List (ℕ × ℕ) → Walk → ℕ
end_of vs w = next_offset (volumes_from w.end.volume vs) w.end.offset

fit_volumes : (files : Files) (l : LabelFields) (records : List MetaRecord) (es : List Entry) (vs : List (ℕ × ℕ)) (kept : IsLabelledArchive files l records es vs) (w : Walk) → Walked files vs w → (f : Filled files l records es vs kept w.items)
    → FitVolumes files l records es vs kept w.items f (end_of vs w) (planned_volume files (if is_bare vs then Some (label l (pos 0)) else None) (last_of (end_of vs w) vs))
fit_volumes files l records es [] kept w walked f = no_volumes files l records es [] kept w.items f (end_of [] w) refl
fit_volumes files l records es (v ∷ vs) kept w walked f =
    some_volumes files l records es (v ∷ vs) kept w.items f (end_of (v ∷ vs) w) (halts files (v ∷ vs) v vs refl walked.items (volumes_from w.end.volume (v ∷ vs)) w.end.offset walked.leads walked.ends)

module _ (files : Files) (records : List MetaRecord) (es : List Entry) (vs : List (ℕ × ℕ)) (w : Walk) (walked : Walked files vs w) where
  -- the files are an archive
  pub archive_of : (label_kept : Option LabelFields) → IsKeptOf files label_kept records es vs → IsTrue (is_some label_kept) → HasArchive files
  archive_of None kept some = let both : false ≡ true = some in cc
  archive_of (Some l) kept some = let f : Filled files l records es vs kept w.items = filled files l records es vs kept w walked in (contents files l records es vs kept w.items f, is_archive files l records es vs kept w.items f)

  pub planned_is : (label_kept : Option LabelFields) → IsKeptOf files label_kept records es vs → IsTrue (is_some label_kept) → (found : LabelFields × ℕ) → IsMetaEnd (files Meta) found → (p : Plan) → p.meta ≡ found.1 → p.index ≡ index_text (files Index) es found.0 vs
      → p.last ≡ last_of (end_of vs w) vs → p.given ≡ (if is_bare vs then Some (label found.0 (pos 0)) else None) → p.items ≡ w.items → are_told vs ≡ true → IsPlanOf files p
  planned_is None kept some found m p meta index last given items told = let both : false ≡ true = some in cc
  planned_is (Some l) kept some (l2, end) (records2, e, is, has, end_is) p meta index last given items told =
      let same : SameFile l l2 (negsuc 0) (negsuc 0) records records2 kept.meta.torn is.torn =
      one_file IsRecord one_record (files Meta) l l2 (negsuc 0) (negsuc 0) records records2 kept.meta.torn is.torn kept.meta.holds is.holds kept.meta.is_torn is.is_torn in
      let f : Filled files l records es vs kept w.items = filled files l records es vs kept w walked in
      plan_is files l records es vs kept w.items f (end_of vs w) (fit_volumes files l records es vs kept w walked f) p e
      (subst (λ (x : LabelFields). HasEnd (files Meta) x records e) (sym same.label) (subst (λ rs. HasEnd (files Meta) l2 rs e) (sym same.values) has)) (meta ∙ end_is)
      (subst (λ (x : LabelFields). p.index ≡ index_text (files Index) es x vs) (sym same.label) index) last
      (subst (λ (x : LabelFields). p.given ≡ (if is_bare vs then Some (label x (pos 0)) else None)) (sym same.label) given) items (all_told files l vs told kept.labelled.0 kept.others)
