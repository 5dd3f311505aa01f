-- What files are read as when one piece is added behind one of them.
use Rattle.std.proofs.Common.{zero, suc, ◌≡◌, ◌≢◌, ◌⊎◌, inl, inr, ℕ, ◌<◌, ◌≤◌, pos, negsuc, List, [], ◌∷◌, ◌++◌, length, map, refl, sym, ap, ◌∙◌, subst, append_assoc, arith, length-append, Bool, true, false}
use Rattle.std.specs.Prelude.{Contains, slice_index_or, if◌then◌else◌}
use Rattle.std.specs.List.{AllByRecursion}
use Rattle.std.proofs.lemmas.Bool.{eq-eqb, ne_eqb}
use Rattle.std.proofs.lemmas.List.{append-nil}
use Rattle.pcp_base.specs.declared.file.FileId.{FileId}
use Rattle.pcp_base.specs.declared.file.FileId.TheVariants.{Meta, Index, Volume}
use Rattle.pcp_base.specs.declared.result.Item.{Item}
use Rattle.pcp_model.specs.declared.records.Entry.{Entry}
use Rattle.pcp_model.specs.declared.records.MetaRecord.{MetaRecord}
use Rattle.pcp_model.specs.Archive.{ArchiveContents, AreRead, LabelledFile, IsMeta, HasEntries, IsIndex, IsLastVolume, AreVolumes, IsArchive, items_of}
use Rattle.pcp_model.specs.Disk.{Files}
use Rattle.pcp_model.specs.Frame.{IsFrameable, IsTorn, frame, frames}
use Rattle.pcp_model.specs.LabelFields.{LabelFields}
use Rattle.pcp_model.specs.Labels.{IsLabel}
use Rattle.pcp_model.specs.Laws.{GrowsTo, EndsWhole}
use Rattle.pcp_model.specs.Payload.{IsItem}
use Rattle.pcp_model.specs.Records.{IsRecord, AreConsistent, FitsEntry, entry, entries}
use Rattle.pcp_model.specs.Written.{same_file, with_added}
use Rattle.pcp_model.proofs.Cuts.{added_record, frames-append, read-append}
use Rattle.pcp_model.proofs.Lists.{each-append, each-all, each-map}

-- ---- what the other files hold

pub added_this : (n : ℕ) (bytes : List ℕ) (files : Files) → with_added (Volume n) bytes files (Volume n) ≡ files (Volume n) ++ bytes
added_this n bytes files = ap (λ (b : Bool). if b then files (Volume n) ++ bytes else files (Volume n)) (eq-eqb n n refl)

pub added_other : (n k : ℕ) (bytes : List ℕ) (files : Files) → k ≢ n → with_added (Volume n) bytes files (Volume k) ≡ files (Volume k)
added_other n k bytes files other = ap (λ (b : Bool). if b then files (Volume k) ++ bytes else files (Volume k)) (ne_eqb n k (λ (e : n ≡ k). other (sym e)))

longer_by : (b : Bool) (old bytes : List ℕ) → length old ≤ length (if b then old ++ bytes else old)
longer_by true old bytes = omega (arith, length-append old bytes)
longer_by false old bytes = omega arith

added_longer : (file : FileId) (bytes : List ℕ) (files : Files) (g : FileId) → length (files g) ≤ length (with_added file bytes files g)
added_longer file bytes files g = longer_by (same_file file g) (files g) bytes

still_labelled : (file : FileId) (bytes : List ℕ) (files : Files) (es : List Entry) → (es ≡ []) ⊎ ((n : ℕ) × (132 ≤ length (files (Volume n)))) → (es ≡ []) ⊎ ((n : ℕ) × (132 ≤ length (with_added file bytes files (Volume n))))
still_labelled file bytes files es (inl none) = inl none
still_labelled file bytes files es (inr some) = inr (some.0, omega (arith, some.1, added_longer file bytes files (Volume some.0)))

-- Meta and the index say the same beside other volumes
meta_kept : (bytes : List ℕ) (c d : ArchiveContents) → IsMeta bytes c → d.label ≡ c.label → d.records ≡ c.records → IsMeta bytes d
meta_kept bytes c d is label records = record {
  torn = is.torn;
  is_torn = is.is_torn;
  holds = subst (λ l. LabelledFile IsRecord bytes l (negsuc 0) d.records is.torn) (sym label) (subst (λ rs. LabelledFile IsRecord bytes c.label (negsuc 0) rs is.torn) (sym records) is.holds);
  consistent = subst AreConsistent (sym records) is.consistent;
}

entries_kept : (bytes : List ℕ) (l : LabelFields) (records others : List MetaRecord) (es : List Entry) (volumes more : List (ℕ × List Item)) → IsIndex bytes (record { label = l; records = records; entries = es; volumes = volumes })
    → IsIndex bytes (record { label = l; records = others; entries = es; volumes = more })
entries_kept bytes l records others es volumes more (inl begins) = inl begins
entries_kept bytes l records others es volumes more (inr has) = inr (record { head = has.head; label = has.label; fit = has.fit; rest = has.rest; short = has.short; is = has.is })

-- ---- volumes

abbrev numbers : List (ℕ × List Item) → List ℕ
numbers vs = map (λ v. v.0) vs

volumes_same : (files gs : Files) (l : LabelFields) (vs : List (ℕ × List Item)) → AllByRecursion (λ (v : ℕ × List Item). gs (Volume v.0) ≡ files (Volume v.0)) vs → AreVolumes files l vs → AreVolumes gs l vs
volumes_same files gs l [] same are = tt
volumes_same files gs l (v ∷ []) same are = subst (λ t. IsLastVolume t l v.0 v.1) (sym same.0) are
volumes_same files gs l (v ∷ w ∷ vs) same are = (subst (λ t. LabelledFile IsItem t l (pos v.0) v.1 []) (sym same.0) are.0, are.1, volumes_same files gs l (w ∷ vs) same.1 are.2)

module _ (files gs : Files) (l : LabelFields) (number : ℕ) (items : List Item) where
  pub before_last : (before : List (ℕ × List Item)) → AreVolumes files l (before ++ (number, items) ∷ []) → AllByRecursion (λ (v : ℕ × List Item). v.0 < number) before
  before_last [] are = tt
  before_last (v ∷ []) are = (are.1, tt)
  before_last (v ∷ w ∷ vs) are =
      let rest : AllByRecursion (λ (v : ℕ × List Item). v.0 < number) (w ∷ vs) = before_last (w ∷ vs) are.2 in
      (omega (arith, are.1, rest.0), rest)

  -- the last volume holds other items now
  pub last_replaced : (before : List (ℕ × List Item)) (more : List Item) → AreVolumes files l (before ++ (number, items) ∷ []) → ((n : ℕ) → n < number → gs (Volume n) ≡ files (Volume n)) → IsLastVolume (gs (Volume number)) l number more
      → AreVolumes gs l (before ++ (number, more) ∷ [])
  last_replaced [] more are same new = new
  last_replaced (v ∷ []) more are same new = (subst (λ t. LabelledFile IsItem t l (pos v.0) v.1 []) (sym (same v.0 are.1)) are.0, are.1, new)
  last_replaced (v ∷ w ∷ vs) more are same new =
      let below : v.0 < number = (before_last (v ∷ w ∷ vs) are).0 in
      (subst (λ t. LabelledFile IsItem t l (pos v.0) v.1 []) (sym (same v.0 below)) are.0, are.1, last_replaced (w ∷ vs) more are.2 same new)

  -- one more stands behind it
  next_listed : (next : ℕ) (before : List (ℕ × List Item)) → AreVolumes files l (before ++ (number, items) ∷ []) → LabelledFile IsItem (files (Volume number)) l (pos number) items [] → number < next
      → ((n : ℕ) → n < next → gs (Volume n) ≡ files (Volume n)) → IsLastVolume (gs (Volume next)) l next [] → AreVolumes gs l ((before ++ (number, items) ∷ []) ++ (next, []) ∷ [])
  next_listed next [] are whole above same new = (subst (λ t. LabelledFile IsItem t l (pos number) items []) (sym (same number above)) whole, above, new)
  next_listed next (v ∷ []) are whole above same new =
      let low : v.0 < number = are.1 in
      (subst (λ t. LabelledFile IsItem t l (pos v.0) v.1 []) (sym (same v.0 (omega arith))) are.0, are.1, next_listed next [] are.2 whole above same new)
  next_listed next (v ∷ w ∷ vs) are whole above same new =
      let low : v.0 < number = (before_last (v ∷ w ∷ vs) are).0 in
      (subst (λ t. LabelledFile IsItem t l (pos v.0) v.1 []) (sym (same v.0 (omega arith))) are.0, are.1, next_listed next (w ∷ vs) are.2 whole above same new)

-- which numbers are listed
pub numbers_same : (before : List (ℕ × List Item)) (number : ℕ) (items more : List Item) → numbers (before ++ (number, items) ∷ []) ≡ numbers (before ++ (number, more) ∷ [])
numbers_same [] number items more = refl
numbers_same (v ∷ before) number items more = ap (λ ns. v.0 ∷ ns) (numbers_same before number items more)

pub last_listed : (before : List (ℕ × List Item)) (number : ℕ) (items : List Item) → Contains (numbers (before ++ (number, items) ∷ [])) number
last_listed [] number items = (0, omega arith, refl)
last_listed (v ∷ before) number items =
    let c : Contains (numbers (before ++ (number, items) ∷ [])) number = last_listed before number items in
    (suc c.0, omega (arith, c.1), c.2)

pub first_listed : (n : ℕ) (vs ws : List (ℕ × List Item)) (k : ℕ) → k < length (numbers vs) → slice_index_or (numbers vs) k n ≡ n → Contains (numbers (vs ++ ws)) n
first_listed n [] ws k h is = absurd (omega arith)
first_listed n (v ∷ vs) ws zero h is = (0, omega arith, is)
first_listed n (v ∷ vs) ws (suc k) h is =
    let c : Contains (numbers (vs ++ ws)) n = first_listed n vs ws k (omega arith) is in
    (suc c.0, omega (arith, c.1), c.2)

pub above_listed : (n : ℕ) (vs : List (ℕ × List Item)) → AllByRecursion (λ (v : ℕ × List Item). v.0 < n) vs → (k : ℕ) → k < length (numbers vs) → slice_index_or (numbers vs) k n ≡ n → ⊥
above_listed n [] all k h is = omega arith
above_listed n (v ∷ vs) all zero h is = let e : v.0 ≡ n = is in omega (arith, all.0)
above_listed n (v ∷ vs) all (suc k) h is = above_listed n vs all.1 k (omega arith) is

pub items_of-append : (vs ws : List (ℕ × List Item)) → items_of (vs ++ ws) ≡ items_of vs ++ items_of ws
items_of-append [] ws = refl
items_of-append (v ∷ vs) ws = ap (λ t. v.1 ++ t) (items_of-append vs ws) ∙ sym (append_assoc v.1 (items_of vs) (items_of ws))

pub items_behind : (before : List (ℕ × List Item)) (number : ℕ) (items more : List Item) → items_of (before ++ (number, items ++ more) ∷ []) ≡ items_of (before ++ (number, items) ∷ []) ++ more
items_behind [] number items more = append-nil (items ++ more) ∙ ap (λ t. t ++ more) (sym (append-nil items))
items_behind (v ∷ before) number items more = ap (λ t. v.1 ++ t) (items_behind before number items more) ∙ sym (append_assoc v.1 (items_of (before ++ (number, items) ∷ [])) more)

pub no_torn_end : IsTorn []
no_torn_end = inl (omega arith)

-- ---- an item

abbrev pub with_volumes : ArchiveContents → List (ℕ × List Item) → ArchiveContents
with_volumes c volumes = record { label = c.label; records = c.records; entries = c.entries; volumes = volumes }

module _ (files : Files) (c : ArchiveContents) (number : ℕ) (payload : List ℕ) (x : Item) (is : IsArchive files c) (ends : EndsWhole files c number) (fits : IsFrameable payload) (read : IsItem payload x) where
  abbrev pub with_item : Files
  with_item = with_added (Volume number) (frame payload) files

  pub item_whole : LabelledFile IsItem (with_item (Volume number)) c.label (pos number) (ends.items ++ x ∷ []) []
  item_whole = subst (λ t. LabelledFile IsItem t c.label (pos number) (ends.items ++ x ∷ []) []) (sym (added_this number (frame payload) files)) (added_record IsItem (files (Volume number)) c.label (pos number) ends.items payload x ends.whole fits read)

  item_volumes : AreVolumes with_item c.label (ends.before ++ (number, ends.items ++ x ∷ []) ∷ [])
  item_volumes =
      let listed : AreVolumes files c.label (ends.before ++ (number, ends.items) ∷ []) = subst (AreVolumes files c.label) ends.are is.volumes in
      last_replaced files with_item c.label number ends.items ends.before (ends.items ++ x ∷ []) listed (λ n low. added_other number n (frame payload) files (λ e. omega arith)) (inr ([], no_torn_end, item_whole))

  item_others : (n : ℕ) → (Contains (numbers (ends.before ++ (number, ends.items ++ x ∷ []) ∷ [])) n → ⊥) → with_item (Volume n) ≡ []
  item_others n none =
      let other : n ≢ number = λ e. none (subst (Contains (numbers (ends.before ++ (number, ends.items ++ x ∷ []) ∷ []))) (sym e) (last_listed ends.before number (ends.items ++ x ∷ []))) in
      let same : numbers c.volumes ≡ numbers (ends.before ++ (number, ends.items ++ x ∷ []) ∷ []) = ap numbers ends.are ∙ numbers_same ends.before number ends.items (ends.items ++ x ∷ []) in
      added_other number n (frame payload) files other ∙ is.others n (λ has. none (subst (λ (ns : List ℕ). Contains ns n) same has))

  pub item_is : IsArchive with_item (with_volumes c (ends.before ++ (number, ends.items ++ x ∷ []) ∷ []))
  item_is = record {
    meta = meta_kept (files Meta) c (with_volumes c (ends.before ++ (number, ends.items ++ x ∷ []) ∷ [])) is.meta refl refl;
    index = entries_kept (files Index) c.label c.records c.records c.entries c.volumes (ends.before ++ (number, ends.items ++ x ∷ []) ∷ []) is.index;
    volumes = item_volumes;
    others = item_others;
    labelled = still_labelled (Volume number) (frame payload) files c.entries is.labelled;
  }

  pub item_added : GrowsTo with_item c [] [] (x ∷ [])
  item_added = record {
    new = with_volumes c (ends.before ++ (number, ends.items ++ x ∷ []) ∷ []);
    is = item_is;
    longer = record {
      label = refl;
      records = sym (append-nil c.records);
      entries = sym (append-nil c.entries);
      items = items_behind ends.before number ends.items (x ∷ []) ∙ ap (λ vs. items_of vs ++ x ∷ []) (sym ends.are);
    };
  }

-- ---- records of Meta

module _ (files : Files) (c : ArchiveContents) (payloads : List (List ℕ)) (more : List MetaRecord) (is : IsArchive files c) (whole : LabelledFile IsRecord (files Meta) c.label (negsuc 0) c.records []) (read : AreRead IsRecord payloads more)
    (agree : AreConsistent (c.records ++ more)) where
  abbrev pub with_records : Files
  with_records = with_added Meta (frames payloads) files

  abbrev pub more_records : ArchiveContents
  more_records = record { label = c.label; records = c.records ++ more; entries = c.entries; volumes = c.volumes }

  pub records_text : with_records Meta ≡ whole.head ++ (frames (whole.payloads ++ payloads) ++ [])
  records_text =
      ap (λ t. t ++ frames payloads) (whole.is ∙ ap (λ t. whole.head ++ t) (append-nil (frames whole.payloads))) ∙ append_assoc whole.head (frames whole.payloads) (frames payloads)
      ∙ ap (λ t. whole.head ++ t) (sym (append-nil (frames (whole.payloads ++ payloads)) ∙ frames-append whole.payloads payloads))

  pub records_are : IsArchive with_records more_records
  records_are = record {
    meta = record {
      torn = [];
      is_torn = no_torn_end;
      holds = record {
        head = whole.head;
        label = whole.label;
        payloads = whole.payloads ++ payloads;
        read = read-append IsRecord whole.payloads payloads c.records more whole.read read;
        is = records_text;
      };
      consistent = agree;
    };
    index = entries_kept (files Index) c.label c.records (c.records ++ more) c.entries c.volumes c.volumes is.index;
    volumes = volumes_same files with_records c.label c.volumes (each-all (λ (v : ℕ × List Item). with_records (Volume v.0) ≡ files (Volume v.0)) (λ v. refl) c.volumes) is.volumes;
    others = is.others;
    labelled = still_labelled Meta (frames payloads) files c.entries is.labelled;
  }

  pub records_added : GrowsTo with_records c more [] []
  records_added = record {
    new = more_records;
    is = records_are;
    longer = record { label = refl; records = refl; entries = sym (append-nil c.entries); items = sym (append-nil (items_of c.volumes)) };
  }

-- ---- an entry

entries-append : (es fs : List Entry) → entries (es ++ fs) ≡ entries es ++ entries fs
entries-append [] fs = refl
entries-append (e ∷ es) fs = ap (λ t. entry e ++ t) (entries-append es fs) ∙ sym (append_assoc (entry e) (entries es) (entries fs))

module _ (files : Files) (c : ArchiveContents) (e : Entry) (is : IsArchive files c) (index : HasEntries (files Index) c) (whole : index.rest ≡ []) (n : ℕ) (label : 132 ≤ length (files (Volume n))) (fits : FitsEntry e) where
  abbrev pub with_entry : Files
  with_entry = with_added Index (entry e) files

  abbrev pub more_entries : ArchiveContents
  more_entries = record { label = c.label; records = c.records; entries = c.entries ++ e ∷ []; volumes = c.volumes }

  pub entry_text : with_entry Index ≡ index.head ++ (entries (c.entries ++ e ∷ []) ++ [])
  entry_text =
      ap (λ t. t ++ entry e) (index.is ∙ ap (λ t. index.head ++ t) (ap (λ t. entries c.entries ++ t) whole ∙ append-nil (entries c.entries))) ∙ append_assoc index.head (entries c.entries) (entry e)
      ∙ ap (λ t. index.head ++ t) (sym (append-nil (entries (c.entries ++ e ∷ [])) ∙ entries-append c.entries (e ∷ []) ∙ ap (λ t. entries c.entries ++ t) (append-nil (entry e))))

  pub entry_is : IsArchive with_entry more_entries
  entry_is = record {
    meta = meta_kept (files Meta) c more_entries is.meta refl refl;
    index = inr (record {
      head = index.head;
      label = index.label;
      fit = each-append FitsEntry c.entries (e ∷ []) index.fit (fits, tt);
      rest = [];
      short = omega arith;
      is = entry_text;
    });
    volumes = volumes_same files with_entry c.label c.volumes (each-all (λ (v : ℕ × List Item). with_entry (Volume v.0) ≡ files (Volume v.0)) (λ v. refl) c.volumes) is.volumes;
    others = is.others;
    labelled = inr (n, label);
  }

  pub entry_added : GrowsTo with_entry c [] (e ∷ []) []
  entry_added = record {
    new = more_entries;
    is = entry_is;
    longer = record { label = refl; records = sym (append-nil c.records); entries = refl; items = sym (append-nil (items_of c.volumes)) };
  }

-- ---- a volume

module _ (files : Files) (c : ArchiveContents) (number next : ℕ) (head : List ℕ) (is : IsArchive files c) (ends : EndsWhole files c number) (above : number < next) (label : IsLabel head c.label (pos next)) where
  abbrev pub with_volume : Files
  with_volume = with_added (Volume next) head files

  listed : AreVolumes files c.label (ends.before ++ (number, ends.items) ∷ [])
  listed = subst (AreVolumes files c.label) ends.are is.volumes

  pub all_below : AllByRecursion (λ (v : ℕ × List Item). v.0 < next) c.volumes
  all_below =
      let before : AllByRecursion (λ (v : ℕ × List Item). v.0 < number) ends.before = before_last files files c.label number ends.items ends.before listed in
      subst (AllByRecursion (λ (v : ℕ × List Item). v.0 < next)) (sym ends.are)
      (each-append (λ (v : ℕ × List Item). v.0 < next) ends.before ((number, ends.items) ∷ [])
      (each-map (λ (v : ℕ × List Item). v.0 < number) (λ (v : ℕ × List Item). v.0 < next) (λ v low. omega arith) ends.before before) (above, tt))

  pub was_empty : files (Volume next) ≡ []
  was_empty = is.others next (λ has. above_listed next c.volumes all_below has.0 has.1 has.2)

  pub volume_text : with_volume (Volume next) ≡ head
  volume_text = added_this next head files ∙ ap (λ t. t ++ head) was_empty

  last_volume : IsLastVolume (with_volume (Volume next)) c.label next []
  last_volume = inr ([], no_torn_end, subst (λ t. LabelledFile IsItem t c.label (pos next) [] []) (sym volume_text) (record { head = head; label = label; payloads = []; read = tt; is = sym (append-nil head) }))

  next_volumes : AreVolumes with_volume c.label (c.volumes ++ (next, []) ∷ [])
  next_volumes = subst (λ vs. AreVolumes with_volume c.label (vs ++ (next, []) ∷ [])) (sym ends.are)
      (next_listed files with_volume c.label number ends.items next ends.before listed ends.whole above (λ n low. added_other next n head files (λ same. omega arith)) last_volume)

  next_others : (n : ℕ) → (Contains (numbers (c.volumes ++ (next, []) ∷ [])) n → ⊥) → with_volume (Volume n) ≡ []
  next_others n none =
      let other : n ≢ next = λ same. none (subst (Contains (numbers (c.volumes ++ (next, []) ∷ []))) (sym same) (last_listed c.volumes next [])) in
      added_other next n head files other ∙ is.others n (λ has. none (first_listed n c.volumes ((next, []) ∷ []) has.0 has.1 has.2))

  pub volume_is : IsArchive with_volume (with_volumes c (c.volumes ++ (next, []) ∷ []))
  volume_is = record {
    meta = meta_kept (files Meta) c (with_volumes c (c.volumes ++ (next, []) ∷ [])) is.meta refl refl;
    index = entries_kept (files Index) c.label c.records c.records c.entries c.volumes (c.volumes ++ (next, []) ∷ []) is.index;
    volumes = next_volumes;
    others = next_others;
    labelled = still_labelled (Volume next) head files c.entries is.labelled;
  }

  pub volume_added : GrowsTo with_volume c [] [] []
  volume_added = record {
    new = with_volumes c (c.volumes ++ (next, []) ∷ []);
    is = volume_is;
    longer = record { label = refl; records = sym (append-nil c.records); entries = sym (append-nil c.entries); items = items_of-append c.volumes ((next, []) ∷ []) };
  }
