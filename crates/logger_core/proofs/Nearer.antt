-- What a logger keeps is kept while its files come nearer to what they are meant to hold.
use Rattle.std.proofs.Common.{◌≡◌, ◌≢◌, inl, inr, ⊎_elim, ℕ, ◌+◌, ◌≤◌, true, false, List, [], ◌∷◌, ◌++◌, length, refl, sym, ap, ◌∙◌, subst, arith, length-append, ◌⊎◌}
use Rattle.std.proofs.lemmas.Bool.{ne_eqb}
use Rattle.std.proofs.lemmas.List.{append-nil, take_all}
use Rattle.pcp_base.specs.declared.file.FileId.{FileId}
use Rattle.pcp_base.specs.declared.file.FileId.TheVariants.{Meta, Index, Volume}
use Rattle.pcp_model.specs.declared.records.Entry.{Entry}
use Rattle.pcp_model.specs.Archive.{ArchiveContents, items_of}
use Rattle.pcp_model.specs.Disk.{Files, Held, Holdings}
use Rattle.pcp_model.specs.Frame.{frames}
use Rattle.pcp_model.specs.Payload.{IsItem}
use Rattle.pcp_model.specs.Records.{IsRecord}
use Rattle.pcp_model.specs.Written.{same_file}
use Rattle.pcp_model.proofs.Added.{items_of-append}
use Rattle.pcp_model.proofs.Cuts.{as_many, length_of_label}
use Rattle.pcp_model.proofs.Lists.{each-map}
use Rattle.pcp_outside.specs.Devices.{Becomes}
use Rattle.pcp_outside.proofs.Images.{same_or_other, same_file_is}
use Rattle.logger_core.specs.Keeps.{Start, IsPart, PointsSurely, AreSure, Keeps, end_of, is_sure}
use Rattle.logger_core.specs.Laws.{IsWritten, IsNearer}

-- ---- more bytes, or more of them sure

pub more_sure : (earlier : ℕ) (payloads : List (List ℕ)) (old new acknowledged : ℕ) → old ≤ new → AreSure earlier payloads old acknowledged → AreSure earlier payloads new acknowledged
more_sure earlier payloads old new acknowledged le (inl few) = inl few
more_sure earlier payloads old new acknowledged le (inr some) = inr (some.0, some.1, omega (arith, some.2), some.3)

module _ (s : Start) (files : Files) (c : ArchiveContents) (number known acknowledged : ℕ) (old new : Holdings) (file : FileId) (h : Held) (k : Keeps s files c number known acknowledged old) (written : IsWritten number file) (change : Becomes file h old new)
    (nearer : IsNearer (old file) h (files file)) where
  grows : (g : FileId) → length (old g).sure ≤ length (new g).sure
  grows g = ⊎_elim
      (λ (e : same_file file g ≡ true). subst (λ (f : FileId). length (old f).sure ≤ length (new f).sure) (same_file_is file g e) (omega (arith, nearer.sure, ap (λ (x : Held). length x.sure) change.this)))
      (λ (e : same_file file g ≡ false). omega (arith, ap (λ (x : Held). length x.sure) (change.others g e))) (same_or_other file g)

  still_part : (g : FileId) → IsPart (old g) (files g) → IsPart (new g) (files g)
  still_part g part = ⊎_elim
      (λ (e : same_file file g ≡ true). subst (λ (f : FileId). IsPart (new f) (files f)) (same_file_is file g e) (subst (λ (x : Held). IsPart x (files file)) (sym change.this) nearer.part))
      (λ (e : same_file file g ≡ false). subst (λ (x : Held). IsPart x (files g)) (sym (change.others g e)) part) (same_or_other file g)

  elsewhere : (n : ℕ) → n ≢ number → (f : FileId) → IsWritten number f → same_file f (Volume n) ≡ false
  elsewhere n other Meta w = refl
  elsewhere n other Index w = refl
  elsewhere n other (Volume m) w = ne_eqb m n (λ e. other (sym e ∙ w))

  still_points : (e : Entry) → PointsSurely files old number e → PointsSurely files new number e
  still_points e p = record {
    meta = λ some. omega (arith, p.meta some, grows Meta);
    offset = λ same. omega (arith, p.offset same, grows (Volume number));
    below = (p.below.0, omega (arith, p.below.1, grows (Volume p.below.0)), p.below.2);
  }

  still_labelled : (c.entries ≡ []) ⊎ ((n : ℕ) × (132 ≤ length (old (Volume n)).sure)) → (c.entries ≡ []) ⊎ ((n : ℕ) × (132 ≤ length (new (Volume n)).sure))
  still_labelled (inl none) = inl none
  still_labelled (inr some) = inr (some.0, omega (arith, some.1, grows (Volume some.0)))

  pub still_kept : Keeps s files c number known acknowledged new
  still_kept = record {
    is = k.is;
    last = k.last;
    indexed = k.indexed;
    whole = k.whole;
    meta = still_part Meta k.meta;
    index = still_part Index k.index;
    volume = still_part (Volume number) k.volume;
    others = λ n other. change.others (Volume n) (elsewhere n other file written) ∙ k.others n other;
    few = k.few;
    sure = omega (arith, k.sure, grows Meta);
    described = k.described;
    sound = k.sound;
    labelled = still_labelled k.labelled;
    points = λ was. each-map (PointsSurely files old number) (PointsSurely files new number) still_points c.entries (k.points was);
    items = more_sure (length (items_of k.last.before)) k.last.whole.payloads (length (old (Volume number)).sure) (length (new (Volume number)).sure) acknowledged (grows (Volume number)) k.items;
    earlier = k.earlier;
  }

-- ---- all is sure

all_end : (payloads : List (List ℕ)) → end_of (length payloads) payloads ≡ 132 + length (frames payloads)
all_end payloads = ap (λ ps. 132 + length (frames ps)) (take_all (length payloads) payloads (omega arith))

module _ (s : Start) (files : Files) (c : ArchiveContents) (number known acknowledged : ℕ) (held : Holdings) (k : Keeps s files c number known acknowledged held) where
  pub all_acknowledged : held (Volume number) ≡ is_sure (files (Volume number)) → Keeps s files c number known (length (items_of c.volumes)) held
  all_acknowledged sure =
      let w = k.last.whole in
      let size : length (files (Volume number)) ≡ length w.head + length (frames w.payloads ++ []) = ap length w.is ∙ length-append w.head (frames w.payloads ++ []) in
      let behind : length (frames w.payloads ++ []) ≡ length (frames w.payloads) = ap length (append-nil (frames w.payloads)) in
      let head : length w.head ≡ 132 = length_of_label w.head c.label _ w.label in
      let count : length (items_of c.volumes) ≡ length (items_of k.last.before) + length k.last.items =
      ap (λ vs. length (items_of vs)) k.last.are ∙ ap length (items_of-append k.last.before ((number, k.last.items) ∷ [])) ∙ length-append (items_of k.last.before) (k.last.items ++ [])
      ∙ ap (λ t. length (items_of k.last.before) + length t) (append-nil k.last.items) in
      record {
        is = k.is;
        last = k.last;
        indexed = k.indexed;
        whole = k.whole;
        meta = k.meta;
        index = k.index;
        volume = k.volume;
        others = k.others;
        few = k.few;
        sure = k.sure;
        described = k.described;
        sound = k.sound;
        labelled = k.labelled;
        points = k.points;
        items = inr (length w.payloads, omega arith, omega (arith, all_end w.payloads, ap (λ (x : Held). length x.sure) sure), omega (arith, count, as_many IsItem w.payloads k.last.items w.read));
        earlier = omega (arith, count);
      }

  pub all_known : held Meta ≡ is_sure (files Meta) → Keeps s files c number (length c.records) acknowledged held
  all_known sure =
      let w = k.whole in
      let size : length (files Meta) ≡ length w.head + length (frames w.payloads ++ []) = ap length w.is ∙ length-append w.head (frames w.payloads ++ []) in
      let behind : length (frames w.payloads ++ []) ≡ length (frames w.payloads) = ap length (append-nil (frames w.payloads)) in
      let head : length w.head ≡ 132 = length_of_label w.head c.label _ w.label in
      let many : length w.payloads ≡ length c.records = as_many IsRecord w.payloads c.records w.read in
      let end : end_of (length c.records) w.payloads ≡ 132 + length (frames w.payloads) = ap (λ (n : ℕ). end_of n w.payloads) (sym many) ∙ all_end w.payloads in
      record {
        is = k.is;
        last = k.last;
        indexed = k.indexed;
        whole = k.whole;
        meta = k.meta;
        index = k.index;
        volume = k.volume;
        others = k.others;
        few = omega arith;
        sure = omega (arith, end, ap (λ (x : Held). length x.sure) sure);
        described = λ n le. k.described n (omega (arith, k.few));
        sound = k.sound;
        labelled = k.labelled;
        points = k.points;
        items = k.items;
        earlier = k.earlier;
      }
