-- The logger means longer files: one item more, or records of Meta.
use Rattle.std.proofs.Common.{◌≡◌, inl, inr, ⊎_elim, ℕ, ◌+◌, ◌-◌, ◌<◌, ◌≤◌, negsuc, List, [], ◌∷◌, ◌++◌, length, take, refl, sym, ap, ◌∙◌, subst, append_assoc, arith, length-append, pos}
use Rattle.std.specs.List.{AllByRecursion}
use Rattle.std.proofs.lemmas.Bool.{cases_lt}
use Rattle.std.proofs.lemmas.List.{append-nil, take-append-le, take_all}
use Rattle.std.proofs.Math.Seq.{take-append-add}
use Rattle.pcp_base.specs.declared.file.FileId.TheVariants.{Meta, Volume, Index}
use Rattle.pcp_base.specs.declared.result.Item.{Item}
use Rattle.pcp_model.specs.Labels.{IsLabel}
use Rattle.pcp_model.specs.Payload.{IsItem}
use Rattle.pcp_model.specs.declared.records.Entry.{Entry}
use Rattle.pcp_model.specs.declared.records.MetaRecord.{MetaRecord}
use Rattle.pcp_model.specs.Archive.{ArchiveContents, LabelledFile, items_of, HasEntries}
use Rattle.pcp_model.specs.Described.{Described}
use Rattle.pcp_model.specs.Disk.{Files, Held, Holdings, bytes_of}
use Rattle.pcp_model.specs.Frame.{frame, frames}
use Rattle.pcp_model.specs.Records.{IsRecord, FitsEntry, entry, entries}
use Rattle.pcp_model.specs.Sound.{IsSoundEntry, NoDomainAfter, PointsWell}
use Rattle.pcp_model.specs.Written.{with_added}
use Rattle.pcp_model.proofs.Added.{added_this, added_other, item_is, records_are, records_text, entry_is, entry_text}
use Rattle.pcp_model.proofs.Boundaries.{boundary_of_file, boundary_stays}
use Rattle.pcp_model.proofs.Cuts.{as_many, read-append}
use Rattle.pcp_model.proofs.Lists.{each-append, each-map}
use Rattle.pcp_model.proofs.Recovered.{nothing_torn}
use Rattle.pcp_model.proofs.Sound.{labelled_long, entry_at_ends}
use Rattle.logger_core.specs.Keeps.{Start, WasDescribed, AreSure, Keeps, end_of, is_sure, WasSound, PointsSurely}
use Rattle.logger_core.specs.Laws.{Announces, IsItemToCome, AreRecordsToCome, IsEntryToCome}
use Rattle.logger_core.proofs.Items.{had_bytes, more_items, longer_volume, items_more, sound_with_item}

-- records that end before others begin
end_stays : (i : ℕ) (payloads more : List (List ℕ)) → i ≤ length payloads → end_of i (payloads ++ more) ≡ end_of i payloads
end_stays i payloads more few = ap (λ ps. 132 + length (frames ps)) (take-append-le i payloads more few)

-- the index is the same beside other records and volumes
pub still_indexed : (bytes : List ℕ) (c d : ArchiveContents) → d.label ≡ c.label → d.entries ≡ c.entries → (has : HasEntries bytes c) × (has.rest ≡ []) → (has : HasEntries bytes d) × (has.rest ≡ [])
still_indexed bytes c d same_label same (has, whole) = (
  record {
    head = has.head;
    label = subst (λ l. IsLabel has.head l (negsuc 1)) (sym same_label) has.label;
    fit = subst (AllByRecursion FitsEntry) (sym same) has.fit;
    rest = has.rest;
    short = has.short;
    is = has.is ∙ ap (λ es. has.head ++ (entries es ++ has.rest)) (sym same);
  },
  whole,
)

-- ---- an item

module _ (s : Start) (files : Files) (c : ArchiveContents) (number known acknowledged : ℕ) (held : Holdings) (payload : List ℕ) (x : Item) (k : Keeps s files c number known acknowledged held) (come : IsItemToCome s c known payload x) where
  abbrev with_it : ArchiveContents
  with_it = more_items files c number payload x k.is k.last come.fits come.read

  still_sure : AreSure (length (items_of k.last.before)) k.last.whole.payloads (length (held (Volume number)).sure) acknowledged → AreSure (length (items_of k.last.before)) (k.last.whole.payloads ++ payload ∷ []) (length (held (Volume number)).sure) acknowledged
  still_sure (inl few) = inl few
  still_sure (inr some) = inr (some.0, omega (arith, some.1, length-append k.last.whole.payloads (payload ∷ [])), omega (arith, some.2, end_stays some.0 k.last.whole.payloads (payload ∷ []) some.1), some.3)

  still_pointed : (e : Entry) → PointsSurely files held number e → PointsSurely (with_added (Volume number) (frame payload) files) held number e
  still_pointed e p = record { meta = λ some. p.meta (had_bytes files c number payload x k.is k.last come.fits come.read e.volume some); offset = p.offset; below = p.below }

  pub item_announced : Announces s (with_added (Volume number) (frame payload) files) c number known acknowledged held [] [] (x ∷ [])
  item_announced = record {
    new = with_it;
    longer = record { label = refl; records = sym (append-nil c.records); entries = sym (append-nil c.entries); items = items_more files c number payload x k.is k.last come.fits come.read };
    keeps = record {
      is = item_is files c number payload x k.is k.last come.fits come.read;
      last = record { before = k.last.before; items = k.last.items ++ x ∷ []; are = refl; whole = longer_volume files c number payload x k.is k.last come.fits come.read };
      indexed = still_indexed (files Index) c with_it refl refl k.indexed;
      whole = k.whole;
      meta = k.meta;
      index = k.index;
      volume = record { more = k.volume.more ++ frame payload; is = sym (append_assoc (bytes_of (held (Volume number))) k.volume.more (frame payload)) ∙ ap (λ t. t ++ frame payload) k.volume.is ∙ sym (added_this number (frame payload) files) };
      others = λ n other. k.others n other ∙ ap is_sure (sym (added_other number n (frame payload) files other));
      few = k.few;
      sure = k.sure;
      described = λ n le. subst (AllByRecursion (λ y. WasDescribed s y → Described (take n c.records) y)) (sym (items_more files c number payload x k.is k.last come.fits come.read))
          (each-append (λ y. WasDescribed s y → Described (take n c.records) y) (items_of c.volumes) (x ∷ []) (k.described n le) (come.described n le, tt));
      sound = λ was. sound_with_item files c number payload x k.is k.last come.fits come.read (come.by was) (k.sound was);
      labelled = k.labelled;
      points = λ was. each-map (PointsSurely files held number) (PointsSurely (with_added (Volume number) (frame payload) files) held number) still_pointed c.entries (k.points was);
      items = still_sure k.items;
      earlier = k.earlier;
    };
  }

-- ---- records of Meta

module _ (s : Start) (files : Files) (c : ArchiveContents) (number acknowledged : ℕ) (held : Holdings) (payloads : List (List ℕ)) (more : List MetaRecord) (k : Keeps s files c number (length c.records) acknowledged held) (come : AreRecordsToCome s c payloads more) where
  abbrev with_them : ArchiveContents
  with_them = record { label = c.label; records = c.records ++ more; entries = c.entries; volumes = c.volumes }

  -- those that are left of Meta with them describe what was described
  described_on : (n : ℕ) → length c.records ≤ n → AllByRecursion (λ x. Described c.records x → Described (take n (c.records ++ more)) x) (items_of c.volumes)
  described_on n le =
      let e : take n (c.records ++ more) ≡ c.records ++ take (n - length c.records) more = ap (λ (m : ℕ). take m (c.records ++ more)) (let q : n ≡ length c.records + (n - length c.records) = omega arith in q) ∙ take-append-add c.records more (n - length c.records) in
      subst (λ rs. AllByRecursion (λ x. Described c.records x → Described rs x) (items_of c.volumes)) (sym e) (⊎_elim
      (λ (few : n - length c.records < length more). come.described (n - length c.records) (omega arith))
      (λ (all : length more ≤ n - length c.records). subst (λ rs. AllByRecursion (λ x. Described c.records x → Described (c.records ++ rs) x) (items_of c.volumes)) (take_all (length more) more (omega arith) ∙ sym (take_all (n - length c.records) more all)) (come.described (length more) (omega arith)))
      (cases_lt (n - length c.records) (length more)))

  still_described : (n : ℕ) → length c.records ≤ n → (xs : List Item) → AllByRecursion (λ x. WasDescribed s x → Described (take (length c.records) c.records) x) xs → AllByRecursion (λ x. Described c.records x → Described (take n (c.records ++ more)) x) xs
      → AllByRecursion (λ x. WasDescribed s x → Described (take n (c.records ++ more)) x) xs
  still_described n le [] was on = tt
  still_described n le (x ∷ xs) was on = (
    (λ w. on.0 (subst (λ rs. Described rs x) (take_all (length c.records) c.records (omega arith)) (was.0 w))),
    still_described n le xs was.1 on.1,
  )

  -- an entry says the same of the records before its offset
  still_points_well : (e : Entry) → PointsWell files c e → PointsWell (with_added Meta (frames payloads) files) with_them e
  still_points_well e p =
      let few : p.records ≤ length c.records = (boundary_of_file IsRecord (files Meta) c.label (negsuc 0) c.records [] e.meta p.records k.whole nothing_torn p.meta).0 in
      record {
        records = p.records;
        meta = boundary_stays (files Meta) (frames payloads) e.meta p.records p.meta;
        domains = subst (NoDomainAfter e.stamp) (sym (take-append-le p.records c.records more few)) p.domains;
        items = p.items;
        volume = p.volume;
        before = p.before;
        earlier = p.earlier;
      }

  still_sound_entry : (e : Entry) → IsSoundEntry files c e → IsSoundEntry (with_added Meta (frames payloads) files) with_them e
  still_sound_entry e sound = record { not_above = sound.not_above; points = λ some. still_points_well e (sound.points some) }

  abbrev longer_meta : LabelledFile IsRecord (with_added Meta (frames payloads) files Meta) c.label (negsuc 0) (c.records ++ more) []
  longer_meta = record {
    head = k.whole.head;
    label = k.whole.label;
    payloads = k.whole.payloads ++ payloads;
    read = read-append IsRecord k.whole.payloads payloads c.records more k.whole.read come.read;
    is = records_text files c payloads more k.is k.whole come.read come.agree;
  }

  pub records_announced : Announces s (with_added Meta (frames payloads) files) c number (length c.records) acknowledged held more [] []
  records_announced = record {
    new = with_them;
    longer = record { label = refl; records = refl; entries = sym (append-nil c.entries); items = sym (append-nil (items_of c.volumes)) };
    keeps = record {
      is = records_are files c payloads more k.is k.whole come.read come.agree;
      last = record { before = k.last.before; items = k.last.items; are = k.last.are; whole = k.last.whole };
      indexed = still_indexed (files Index) c with_them refl refl k.indexed;
      whole = longer_meta;
      meta = record { more = k.meta.more ++ frames payloads; is = sym (append_assoc (bytes_of (held Meta)) k.meta.more (frames payloads)) ∙ ap (λ t. t ++ frames payloads) k.meta.is };
      index = k.index;
      volume = k.volume;
      others = k.others;
      few = omega (arith, length-append c.records more);
      sure = omega (arith, k.sure, end_stays (length c.records) k.whole.payloads payloads (omega (arith, as_many IsRecord k.whole.payloads c.records k.whole.read)));
      described = λ n le. still_described n le (items_of c.volumes) (k.described (length c.records) (omega arith)) (described_on n le);
      sound = λ was. ((k.sound was).0, each-map (IsSoundEntry files c) (IsSoundEntry (with_added Meta (frames payloads) files) with_them) still_sound_entry c.entries (k.sound was).1);
      labelled = k.labelled;
      points = λ was. each-map (PointsSurely files held number) (PointsSurely (with_added Meta (frames payloads) files) held number) (λ e p. record { meta = p.meta; offset = p.offset; below = p.below }) c.entries (k.points was);
      items = k.items;
      earlier = k.earlier;
    };
  }

-- ---- an entry

module _ (s : Start) (files : Files) (c : ArchiveContents) (number known acknowledged : ℕ) (held : Holdings) (e : Entry) (k : Keeps s files c number known acknowledged held) (come : IsEntryToCome s files c number held e) where
  abbrev with_entry_too : ArchiveContents
  with_entry_too = record { label = c.label; records = c.records; entries = c.entries ++ e ∷ []; volumes = c.volumes }

  volume_long : 132 ≤ length (files (Volume number))
  volume_long = labelled_long IsItem (files (Volume number)) c.label (pos number) k.last.items [] k.last.whole

  same_point : (f : Entry) → PointsWell files c f → PointsWell (with_added Index (entry e) files) with_entry_too f
  same_point f p = record { records = p.records; meta = p.meta; domains = p.domains; items = p.items; volume = p.volume; before = p.before; earlier = p.earlier }

  same_entry : (f : Entry) → IsSoundEntry files c f → IsSoundEntry (with_added Index (entry e) files) with_entry_too f
  same_entry f sound = record { not_above = sound.not_above; points = λ some. same_point f (sound.points some) }

  new_entry : WasSound s → IsSoundEntry files c e
  new_entry was = entry_at_ends files c e c.label (negsuc 0) (pos number) k.last.items k.whole (subst (λ (n : ℕ). LabelledFile IsItem (files (Volume n)) c.label (pos number) k.last.items []) (sym come.volume) k.last.whole)
      come.at_meta (come.at_volume ∙ ap (λ (n : ℕ). length (files (Volume n))) (sym come.volume)) (come.domains was) (come.items was)

  points_surely : PointsSurely (with_added Index (entry e) files) held number e
  points_surely = record {
    meta = λ some. omega (arith, come.at_meta, ap (λ (h : Held). length h.sure) come.meta_sure);
    offset = λ same. omega (arith, come.at_volume, ap (λ (h : Held). length h.sure) come.volume_sure);
    below = (number, omega (arith, volume_long, ap (λ (h : Held). length h.sure) come.volume_sure), omega (arith, come.volume));
  }

  entry_indexed : (has : HasEntries (with_added Index (entry e) files Index) with_entry_too) × (has.rest ≡ [])
  entry_indexed = (
    record {
      head = k.indexed.0.head;
      label = k.indexed.0.label;
      fit = each-append FitsEntry c.entries (e ∷ []) k.indexed.0.fit (come.fits, tt);
      rest = [];
      short = omega arith;
      is = entry_text files c e k.is k.indexed.0 k.indexed.1 number volume_long come.fits;
    },
    refl,
  )

  pub entry_announced : Announces s (with_added Index (entry e) files) c number known acknowledged held [] (e ∷ []) []
  entry_announced = record {
    new = with_entry_too;
    longer = record { label = refl; records = sym (append-nil c.records); entries = refl; items = sym (append-nil (items_of c.volumes)) };
    keeps = record {
      is = entry_is files c e k.is k.indexed.0 k.indexed.1 number volume_long come.fits;
      last = record { before = k.last.before; items = k.last.items; are = k.last.are; whole = k.last.whole };
      indexed = entry_indexed;
      whole = k.whole;
      meta = k.meta;
      index = record { more = k.index.more ++ entry e; is = sym (append_assoc (bytes_of (held Index)) k.index.more (entry e)) ∙ ap (λ t. t ++ entry e) k.index.is };
      volume = k.volume;
      others = k.others;
      few = k.few;
      sure = k.sure;
      described = k.described;
      sound = λ was. (
        (k.sound was).0,
        each-append (IsSoundEntry (with_added Index (entry e) files) with_entry_too) c.entries (e ∷ [])
            (each-map (IsSoundEntry files c) (IsSoundEntry (with_added Index (entry e) files) with_entry_too) same_entry c.entries (k.sound was).1) (same_entry e (new_entry was), tt),
      );
      labelled = inr (number, omega (arith, volume_long, ap (λ (h : Held). length h.sure) come.volume_sure));
      points = λ was. each-append (PointsSurely (with_added Index (entry e) files) held number) c.entries (e ∷ [])
          (each-map (PointsSurely files held number) (PointsSurely (with_added Index (entry e) files) held number) (λ f p. record { meta = p.meta; offset = p.offset; below = p.below }) c.entries (k.points was)) (points_surely, tt);
      items = k.items;
      earlier = k.earlier;
    };
  }
