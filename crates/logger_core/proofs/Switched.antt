-- The logger goes on in another volume.
use Rattle.std.proofs.Common.{◌≡◌, ◌≢◌, ◌⊎◌, inl, inr, ⊎_elim, ℕ, ◌+◌, ◌<◌, ◌≤◌, pos, List, [], ◌∷◌, ◌++◌, length, take, refl, sym, ap, ◌∙◌, subst, arith, length-append}
use Rattle.std.specs.List.{AllByRecursion}
use Rattle.std.proofs.Math.Seq.{take-nil}
use Rattle.std.proofs.lemmas.Bool.{cases_lt}
use Rattle.std.proofs.lemmas.List.{append-nil}
use Rattle.pcp_base.specs.declared.file.FileId.TheVariants.{Index, Volume}
use Rattle.pcp_base.specs.declared.result.Item.{Item}
use Rattle.pcp_model.specs.declared.records.Entry.{Entry}
use Rattle.pcp_model.specs.Archive.{ArchiveContents, LabelledFile, items_of}
use Rattle.pcp_model.specs.Described.{Described}
use Rattle.pcp_model.specs.Disk.{Files, Held, Holdings, bytes_of}
use Rattle.pcp_model.specs.Payload.{IsItem}
use Rattle.pcp_model.specs.Sound.{IsBoundary, IsSoundEntry, NeverFalls, NoItemAfter, PointsWell}
use Rattle.pcp_model.specs.Written.{with_added}
use Rattle.pcp_model.proofs.Added.{added_other, items_of-append, volume_is, volume_text, was_empty}
use Rattle.pcp_model.proofs.Cuts.{as_many}
use Rattle.pcp_model.proofs.Lists.{each-append, each-map}
use Rattle.logger_core.specs.Keeps.{Start, WasDescribed, PointsSurely, AreSure, Keeps, is_sure}
use Rattle.logger_core.specs.Laws.{Announces, IsVolumeToCome}
use Rattle.logger_core.proofs.Announced.{still_indexed}
use Rattle.logger_core.proofs.Items.{above_empty}
use Rattle.logger_core.proofs.Survival.{this_or_other}

module _ (s : Start) (files : Files) (c : ArchiveContents) (number next known acknowledged : ℕ) (held : Holdings) (head : List ℕ) (k : Keeps s files c number known acknowledged held) (come : IsVolumeToCome files c number next acknowledged held head) where
  abbrev added : Files
  added = with_added (Volume next) head files

  abbrev with_it : ArchiveContents
  with_it = record { label = c.label; records = c.records; entries = c.entries; volumes = c.volumes ++ (next, []) ∷ [] }

  items_same : items_of with_it.volumes ≡ items_of c.volumes
  items_same = items_of-append c.volumes ((next, []) ∷ []) ∙ append-nil (items_of c.volumes)

  next_empty : files (Volume next) ≡ []
  next_empty = was_empty files c number next head k.is k.last come.above come.label

  -- every volume that holds something is the last one or below
  not_above : (n : ℕ) → 0 < length (files (Volume n)) → n ≤ number
  not_above n some = ⊎_elim (λ (low : number < n). absurd (omega (arith, some, ap length (above_empty files c number k.is k.last n low)))) (λ (le : n ≤ number). le) (cases_lt number n)

  -- another volume is as it was
  same_volume : (n : ℕ) → n ≢ next → added (Volume n) ≡ files (Volume n)
  same_volume n other = added_other next n head files other

  below_next : (n : ℕ) → n ≤ number → added (Volume n) ≡ files (Volume n)
  below_next n le = same_volume n (λ e. omega (arith, come.above))

  still_points_well : (e : Entry) → e.volume ≤ number → PointsWell files c e → PointsWell added with_it e
  still_points_well e le p = record {
    records = p.records;
    meta = p.meta;
    domains = p.domains;
    items = p.items;
    volume = subst (λ t. IsBoundary t e.offset p.items) (sym (below_next e.volume le)) p.volume;
    before = each-append (λ (v : ℕ × List Item). v.0 ≡ e.volume → NoItemAfter e.stamp (take p.items v.1)) c.volumes ((next, []) ∷ []) p.before ((λ same. subst (NoItemAfter e.stamp) (sym (take-nil p.items)) tt), tt);
    earlier = each-append (λ (v : ℕ × List Item). v.0 < e.volume → NoItemAfter e.stamp v.1) c.volumes ((next, []) ∷ []) p.earlier ((λ low. tt), tt);
  }

  still_sound_entry : (e : Entry) → IsSoundEntry files c e → IsSoundEntry added with_it e
  still_sound_entry e sound =
      let top : sound.not_above.0 ≤ number = not_above sound.not_above.0 sound.not_above.1 in
      let le : e.volume ≤ number = omega (arith, top, sound.not_above.2) in
      record {
        not_above = (sound.not_above.0, subst (λ t. 0 < length t) (sym (below_next sound.not_above.0 top)) sound.not_above.1, sound.not_above.2);
        points = λ some. still_points_well e le (sound.points (subst (λ t. 0 < length t) (below_next e.volume le) some));
      }

  -- no entry is of the new volume
  still_points : (e : Entry) → PointsSurely files held number e → PointsSurely added held next e
  still_points e p = record {
    meta = λ some. p.meta (⊎_elim (λ (same : next ≡ e.volume). absurd (no_entry (sym same) (cases_lt number p.below.0))) (λ (other : next ≢ e.volume). subst (λ t. 0 < length t) (same_volume e.volume (λ x. other (sym x))) some) (this_or_other next e.volume));
    offset = λ same. absurd (no_entry same (cases_lt number p.below.0));
    below = p.below;
  }
    where
      no_entry : e.volume ≡ next → (number < p.below.0) ⊎ (p.below.0 ≤ number) → ⊥
      no_entry same (inl high) =
          let none : held (Volume p.below.0) ≡ is_sure (files (Volume p.below.0)) = k.others p.below.0 (λ e. omega arith) in
          omega (arith, p.below.1, ap (λ (h : Held). length h.sure) none, ap length (above_empty files c number k.is k.last p.below.0 high))
      no_entry same (inr le) = omega (arith, p.below.2, come.above)

  all_acknowledged : AreSure (length (items_of k.last.before)) k.last.whole.payloads (length (held (Volume number)).sure) acknowledged → acknowledged ≤ length (items_of c.volumes)
  all_acknowledged sure = by sure
    where
      count : length (items_of c.volumes) ≡ length (items_of k.last.before) + length k.last.items
      count = ap (λ vs. length (items_of vs)) k.last.are ∙ ap length (items_of-append k.last.before ((number, k.last.items) ∷ [])) ∙ length-append (items_of k.last.before) (k.last.items ++ [])
          ∙ ap (λ t. length (items_of k.last.before) + length t) (append-nil k.last.items)

      by : AreSure (length (items_of k.last.before)) k.last.whole.payloads (length (held (Volume number)).sure) acknowledged → acknowledged ≤ length (items_of c.volumes)
      by (inl few) = omega (arith, count)
      by (inr some) = omega (arith, some.1, some.3, count, as_many IsItem k.last.whole.payloads k.last.items k.last.whole.read)

  label_whole : LabelledFile IsItem (added (Volume next)) c.label (pos next) [] []
  label_whole = record { head = head; label = come.label; payloads = []; read = tt; is = volume_text files c number next head k.is k.last come.above come.label ∙ sym (append-nil head) }

  held_next : held (Volume next) ≡ is_sure []
  held_next = k.others next (λ e. omega (arith, come.above)) ∙ ap is_sure next_empty

  others_sure : (n : ℕ) → n ≢ next → held (Volume n) ≡ is_sure (added (Volume n))
  others_sure n other = ⊎_elim
      (λ (e : number ≡ n). subst (λ (m : ℕ). held (Volume m) ≡ is_sure (files (Volume m))) e come.volume_sure)
      (λ (away : number ≢ n). k.others n (λ e. away (sym e))) (this_or_other number n) ∙ ap is_sure (sym (same_volume n other))

  pub volume_announced : Announces s added c next known acknowledged held [] [] []
  volume_announced = record {
    new = with_it;
    longer = record { label = refl; records = sym (append-nil c.records); entries = sym (append-nil c.entries); items = items_same ∙ sym (append-nil (items_of c.volumes)) };
    keeps = record {
      is = volume_is files c number next head k.is k.last come.above come.label;
      last = record { before = c.volumes; items = []; are = refl; whole = label_whole };
      indexed = still_indexed (files Index) c with_it refl refl k.indexed;
      whole = k.whole;
      meta = k.meta;
      index = k.index;
      volume = record { more = head; is = ap (λ (h : Held). bytes_of h ++ head) held_next ∙ sym (volume_text files c number next head k.is k.last come.above come.label) };
      others = others_sure;
      few = k.few;
      sure = k.sure;
      described = λ n le. subst (AllByRecursion (λ y. WasDescribed s y → Described (take n c.records) y)) (sym items_same) (k.described n le);
      sound = λ was. (subst NeverFalls (sym items_same) (k.sound was).0, each-map (IsSoundEntry files c) (IsSoundEntry added with_it) still_sound_entry c.entries (k.sound was).1);
      labelled = k.labelled;
      points = λ was. each-map (PointsSurely files held number) (PointsSurely added held next) still_points c.entries (k.points was);
      items = inl (all_acknowledged k.items);
      earlier = come.all;
    };
  }
