-- One volume, record by record.
use Rattle.std.proofs.Common.{◌≡◌, inl, inr, ⊎_elim, ℕ, pos, ◌<◌, ◌≤◌, true, false, List, [], ◌∷◌, ◌++◌, length, take, drop, refl, sym, ap, ◌∙◌, arith, append_assoc}
use Rattle.std.proofs.lemmas.List.{append-nil, length-append, length-drop, length-take, take-append-drop, take_at}
use Rattle.pcp_base.specs.declared.file.FileId.TheVariants.{Volume}
use Rattle.pcp_base.specs.declared.result.Item.{Item}
use Rattle.pcp_model.specs.Archive.{LabelledFile}
use Rattle.pcp_model.specs.Disk.{Files}
use Rattle.pcp_model.specs.Frame.{IsTorn, frames}
use Rattle.pcp_model.specs.LabelFields.{LabelFields}
use Rattle.pcp_model.specs.Labels.{BeginsLabel}
use Rattle.pcp_model.specs.Payload.{IsItem}
use Rattle.archive_loading.specs.Standing.{ItemStands, NoItemStands}
use Rattle.archive_loading.specs.declared.loading.VolumePart.TheVariants.{Headed, Stops as StopsAt}
use Rattle.archive_loading.specs.Loaded.{IsLabelled}
use Rattle.archive_loading.specs.Volumes.{IsVolumePart}
use Rattle.archive_loading.proofs.Passed.{Passed, one_passed}
use Rattle.archive_loading.proofs.PartsRead.{label_long}
use Rattle.archive_recovery.specs.declared.counting.VolumeRead.TheVariants.{Stops}
use Rattle.archive_recovery.specs.declared.stamps.Tally.{Tally}
use Rattle.archive_recovery.specs.Counts.{CountsMore}
use Rattle.archive_recovery.specs.Volumes.{StandUpTo, ItemsEnd, ItemsBreak, VolumeStands, VolumeBreaks, IsVolumeRead}
use Rattle.archive_recovery.proofs.Latest.{counted_none, counted_on}

one_stood : (bytes : List ℕ) (at next : ℕ) (xs : List Item) (x : Item) → StandUpTo bytes at xs → ItemStands bytes at next x → StandUpTo bytes next (xs ++ x ∷ [])
one_stood bytes at next xs x s stands =
    let p : Passed bytes next (xs ++ x ∷ []) = one_passed bytes at next xs x (record { payloads = s.payloads; read = s.read; is = s.is }) stands in
    record { payloads = p.payloads; read = p.read; is = p.is }

-- ---- the records so far

pub record ItemsSoFar (bytes : List ℕ) (at : ℕ) (old new : Tally) : Type 0 where
  pub items : List Item
  pub stand : StandUpTo bytes at items
  pub counted : CountsMore old items new

pub no_item_yet : (bytes : List ℕ) (t : Tally) → ItemsSoFar bytes 132 t t
no_item_yet bytes t = record { items = []; stand = record { payloads = []; read = tt; is = refl }; counted = counted_none t }

pub one_item_more : (bytes : List ℕ) (at next : ℕ) (x : Item) (old mid new : Tally) → ItemsSoFar bytes at old mid → ItemStands bytes at next x → CountsMore mid (x ∷ []) new → ItemsSoFar bytes next old new
one_item_more bytes at next x old mid new s stands c = record {
  items = s.items ++ x ∷ [];
  stand = one_stood bytes at next s.items x s.stand stands;
  counted = counted_on old mid new s.items (x ∷ []) s.counted c;
}

pub items_end : (bytes : List ℕ) (at end : ℕ) (old new : Tally) → end ≡ length bytes → 132 ≤ at → at ≤ end → ItemsSoFar bytes at old new → IsTorn (drop at bytes) → ItemsEnd bytes at old new
items_end bytes at end old new size low within s torn = record { items = s.items; stand = s.stand; low = low; within = omega (arith, size, within); torn = torn; counted = s.counted }

pub at_the_end : (bytes : List ℕ) (at end : ℕ) → end ≡ length bytes → end ≤ at → IsTorn (drop at bytes)
at_the_end bytes at end size past = inl (omega (arith, size, past, length-drop at bytes))

pub items_break : (bytes : List ℕ) (at end : ℕ) (old new : Tally) → end ≡ length bytes → 132 ≤ at → at < end → ItemsSoFar bytes at old new → NoItemStands bytes at → (IsTorn (drop at bytes) → ⊥) → ItemsBreak bytes at
items_break bytes at end old new size low within s none not_torn = record { items = s.items; stand = s.stand; low = low; goes_on = omega (arith, size, within); none = none; not_torn = not_torn }

-- ---- with the label

module _ (files : Files) (l : LabelFields) (n : ℕ) where
  long_label : IsLabelled (files (Volume n)) l n → 132 ≤ length (files (Volume n))
  long_label label = omega (arith, label_long (take 132 (files (Volume n))) l (pos n) label, length-take 132 (files (Volume n)))

  pub begun_here : (end : ℕ) → end < 132 → IsVolumePart files l n true (Headed end) → BeginsLabel (files (Volume n)) l (pos n)
  begun_here end short part = ⊎_elim (λ (label : IsLabelled (files (Volume n)) l n). absurd (omega (arith, short, part.0, long_label label))) (λ (b : BeginsLabel (files (Volume n)) l (pos n) × (true ≡ true)). b.0) part.2

  pub label_here : (end : ℕ) → 132 ≤ end → IsVolumePart files l n true (Headed end) → IsLabelled (files (Volume n)) l n
  label_here end long part = ⊎_elim (λ (label : IsLabelled (files (Volume n)) l n). label) (λ (b : BeginsLabel (files (Volume n)) l (pos n) × (true ≡ true)). absurd (omega (arith, b.0.short, long, part.0))) part.2

  pub file_from : (at : ℕ) (items : List Item) → IsLabelled (files (Volume n)) l n → StandUpTo (files (Volume n)) at items → LabelledFile IsItem (files (Volume n)) l (pos n) items (drop at (files (Volume n)))
  file_from at items label s = record {
    head = take 132 (files (Volume n));
    label = label;
    payloads = s.payloads;
    read = s.read;
    is = sym (take-append-drop 132 (files (Volume n))) ∙ ap (λ t. take 132 (files (Volume n)) ++ t) s.is;
  }

  pub file_up_to : (at : ℕ) (items : List Item) → at ≤ length (files (Volume n)) → (h : LabelledFile IsItem (files (Volume n)) l (pos n) items (drop at (files (Volume n)))) → LabelledFile IsItem (take at (files (Volume n))) l (pos n) items []
  file_up_to at items within h =
      let text : files (Volume n) ≡ (h.head ++ frames h.payloads) ++ drop at (files (Volume n)) = h.is ∙ sym (append_assoc h.head (frames h.payloads) (drop at (files (Volume n)))) in
      let size : length (h.head ++ frames h.payloads) ≡ at =
      omega (arith, within, ap length text, length-append (h.head ++ frames h.payloads) (drop at (files (Volume n))), length-drop at (files (Volume n))) in
      record {
        head = h.head;
        label = h.label;
        payloads = h.payloads;
        read = h.read;
        is = ap (take at) text ∙ take_at (h.head ++ frames h.payloads) (drop at (files (Volume n))) at size ∙ ap (λ t. h.head ++ t) (sym (append-nil (frames h.payloads)));
      }

  pub volume_stands : (end size : ℕ) (old new : Tally) → size ≡ length (files (Volume n)) → IsLabelled (files (Volume n)) l n → ItemsEnd (files (Volume n)) end old new → VolumeStands (files (Volume n)) l n end size old new
  volume_stands end size old new is label e = record {
    items = e.items;
    holds = file_from end e.items label e.stand;
    low = e.low;
    within = e.within;
    is_size = is;
    torn = e.torn;
    counted = e.counted;
  }

  pub volume_breaks : (at : ℕ) → IsLabelled (files (Volume n)) l n → ItemsBreak (files (Volume n)) at → VolumeBreaks (files (Volume n)) l n at
  volume_breaks at label b = record {
    items = b.items;
    whole = file_up_to at b.items (omega (arith, b.goes_on)) (file_from at b.items label b.stand);
    goes_on = b.goes_on;
    none = b.none;
    not_torn = b.not_torn;
  }

  pub label_stops : (offset : ℕ) (old new : Tally) → IsVolumePart files l n true (StopsAt offset) → IsVolumeRead (files (Volume n)) l n old new (Stops offset)
  label_stops offset old new (some, inl label) = inl (some, inl label)
  label_stops offset old new (some, inr (inl part)) = absurd (let both : true ≡ false = part.2 in cc)
  label_stops offset old new (some, inr (inr high)) = inl (some, inr high)
