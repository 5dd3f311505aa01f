-- What stands between two calls of the disk, and what an append or a sync makes of it.
use Rattle.std.proofs.Common.{◌≡◌, ⊎_elim, ℕ, ◌≤◌, min, true, false, List, [], ◌++◌, length, refl, sym, ap, ◌∙◌, subst, arith, length-append, cond}
use Rattle.std.proofs.lemmas.List.{append-nil, length-take, take-append-le, take_min}
use Rattle.pcp_base.specs.declared.file.FileId.{FileId}
use Rattle.pcp_base.specs.declared.file.FileId.TheVariants.{Meta, Index, Volume}
use Rattle.pcp_base.specs.declared.result.Item.{Item}
use Rattle.pcp_model.specs.Archive.{ArchiveContents, items_of}
use Rattle.pcp_model.specs.Disk.{Files, Held, Holdings, CrashImage, bytes_of, contents_of}
use Rattle.pcp_model.specs.Written.{same_file}
use Rattle.pcp_outside.specs.Devices.{Becomes, held_after_append, held_after_sync, made_sure, holdings_after_append}
use Rattle.pcp_outside.proofs.Images.{same_or_other, same_file_is, same_file-refl, bytes-appended, bytes-made_sure, image_now}
use Rattle.logger_core.specs.declared.ends.Ends.{Ends}
use Rattle.logger_core.specs.Keeps.{Start, Keeps, is_sure}
use Rattle.logger_core.specs.Laws.{Survives, IsWritten, IsNearer}
use Rattle.logger_core.specs.Meant.{Meant, Stands, IsAt, SurvivesOf, items_in}
use Rattle.logger_core.specs.Going.{all_acknowledged, IsVolumeSure}
use Rattle.logger_core.proofs.Nearer.{still_kept, all_acknowledged as acknowledged_now}
use Rattle.logger_core.proofs.Survival.{survives}

pub sure_from : (h : Held) (whole : List ℕ) → h.rest ≡ [] → bytes_of h ≡ whole → h ≡ is_sure whole
sure_from h whole none is =
    ap (λ r. record { sure = h.sure; rest = r }) none ∙ ap (λ t. is_sure t) (sym (append-nil h.sure) ∙ ap (λ r. h.sure ++ r) (sym none) ∙ is)

pub grown_is : (file : FileId) (bytes : List ℕ) (held : Holdings) → Becomes file (held_after_append (held file) bytes) held (holdings_after_append file bytes held)
grown_is file bytes held = record {
  this = ap (λ b. cond b (held_after_append (held file) bytes) (held file)) (same_file-refl file);
  others = λ g other. ap (λ b. cond b (held_after_append (held file) bytes) (held g)) other;
}

-- ---- survivors of more items, or of fewer acknowledged ones

pub survives_with : (s : Start) (xs more : List Item) (a b : ℕ) (image : Files) → Survives s xs a image → b ≤ a → Survives s (xs ++ more) b image
survives_with s xs more a b image w le = record {
  new = w.new;
  is = w.is;
  q = min w.q (length xs);
  items = w.items ∙ sym (take_min w.q xs) ∙ sym (take-append-le (min w.q (length xs)) xs more (omega arith));
  enough = omega (arith, w.enough, le);
  described = w.described;
  sound = w.sound;
  labelled = w.labelled;
}

pub survives_same : (s : Start) (xs ys : List Item) (a b : ℕ) (image : Files) → xs ≡ ys → Survives s xs a image → b ≤ a → Survives s ys b image
survives_same s xs ys a b image same w le = subst (λ t. Survives s t b image) (append-nil xs ∙ same) (survives_with s xs [] a b image w le)

-- ---- a file of which more is meant

module _ (s : Start) (old files : Files) (c : ArchiveContents) (number known acknowledged : ℕ) (held : Holdings) (file : FileId) (bytes : List ℕ) (keeps : Keeps s files c number known acknowledged held) (writes : IsWritten number file)
    (is_written : (g : FileId) → bytes_of (held g) ≡ old g) (this : files file ≡ old file ++ bytes) where
  appended_bytes : bytes_of (held_after_append (held file) bytes) ≡ files file
  appended_bytes = bytes-appended (held file) bytes ∙ ap (λ t. t ++ bytes) (is_written file) ∙ sym this

  sure_bytes : bytes_of (made_sure (held file) bytes) ≡ files file
  sure_bytes = bytes-made_sure (held file) bytes ∙ ap (λ t. t ++ bytes) (is_written file) ∙ sym this

  nearer : IsNearer (held file) (held_after_append (held file) bytes) (files file)
  nearer = record { part = record { more = []; is = append-nil (bytes_of (held_after_append (held file) bytes)) ∙ appended_bytes }; sure = omega arith }

  nearer_sure : IsNearer (held file) (made_sure (held file) bytes) (files file)
  nearer_sure = record {
    part = record { more = []; is = append-nil (bytes_of (made_sure (held file) bytes)) ∙ sure_bytes };
    sure = omega (arith, length-append (held file).sure (held file).rest, length-append (bytes_of (held file)) bytes);
  }

  -- a crash while it is appended
  pub grown_survives : (image : Files) → CrashImage (holdings_after_append file bytes held) image → Survives s (items_of c.volumes) acknowledged image
  grown_survives image crash =
      survives s files c number known acknowledged (holdings_after_append file bytes held) image (still_kept s files c number known acknowledged held (holdings_after_append file bytes held) file (held_after_append (held file) bytes) keeps writes (grown_is file bytes held) nearer) crash

  -- it is appended, and perhaps sure
  pub appended_keeps : (new : Holdings) → Becomes file (held_after_append (held file) bytes) held new → Keeps s files c number known acknowledged new
  appended_keeps new change = still_kept s files c number known acknowledged held new file (held_after_append (held file) bytes) keeps writes change nearer

  pub sure_keeps : (new : Holdings) → Becomes file (made_sure (held file) bytes) held new → Keeps s files c number known acknowledged new
  sure_keeps new change = still_kept s files c number known acknowledged held new file (made_sure (held file) bytes) keeps writes change nearer_sure

  module _ (others : (g : FileId) → same_file file g ≡ false → files g ≡ old g) (h : Held) (new : Holdings) (change : Becomes file h held new) (whole : bytes_of h ≡ files file) where
    pub written_now : (g : FileId) → bytes_of (new g) ≡ files g
    written_now g = ⊎_elim
        (λ (e : same_file file g ≡ true). subst (λ (f : FileId). bytes_of (new f) ≡ files f) (same_file_is file g e) (ap bytes_of change.this ∙ whole))
        (λ (e : same_file file g ≡ false). ap bytes_of (change.others g e) ∙ is_written g ∙ sym (others g e)) (same_or_other file g)

  pub appended_written : ((g : FileId) → same_file file g ≡ false → files g ≡ old g) → (new : Holdings) → Becomes file (held_after_append (held file) bytes) held new → (g : FileId) → bytes_of (new g) ≡ files g
  appended_written others new change = written_now others (held_after_append (held file) bytes) new change appended_bytes

  pub sure_written : ((g : FileId) → same_file file g ≡ false → files g ≡ old g) → (new : Holdings) → Becomes file (made_sure (held file) bytes) held new → (g : FileId) → bytes_of (new g) ≡ files g
  sure_written others new change = written_now others (made_sure (held file) bytes) new change sure_bytes

-- ---- between two calls

module _ (m : Meant) (number : ℕ) (held : Holdings) (at : Stands m number held) where
  pub image_survives : (image : Files) → CrashImage held image → SurvivesOf m image
  image_survives image crash = survives m.start m.files m.contents number (length m.contents.records) m.acknowledged held image at.keeps crash

  pub meta_is_sure : held Meta ≡ is_sure (m.files Meta)
  meta_is_sure = sure_from (held Meta) (m.files Meta) at.sure (at.written Meta)

  pub volume_is_sure : IsVolumeSure number held → held (Volume number) ≡ is_sure (m.files (Volume number))
  volume_is_sure sure = sure_from (held (Volume number)) (m.files (Volume number)) sure (at.written (Volume number))

  pub few_acknowledged : m.acknowledged ≤ length (items_in m)
  few_acknowledged =
      let w : SurvivesOf m (contents_of held) = image_survives (contents_of held) (image_now held) in
      omega (arith, w.enough, ap length w.items, length-take w.q (items_in m))

  -- where all were acknowledged, at least those are
  pub fewer_acknowledged : (image : Files) → SurvivesOf (all_acknowledged m) image → SurvivesOf m image
  fewer_acknowledged image w = survives_same m.start (items_in m) (items_in m) (length (items_in m)) m.acknowledged image refl w few_acknowledged

  -- the volume was made sure
  module _ (new : Holdings) (change : Becomes (Volume number) (held_after_sync (held (Volume number))) held new) where
    now_is : new (Volume number) ≡ is_sure (m.files (Volume number))
    now_is = change.this ∙ ap (λ t. is_sure t) (at.written (Volume number))

    still_written : (g : FileId) → bytes_of (new g) ≡ m.files g
    still_written g = ⊎_elim
        (λ (same : same_file (Volume number) g ≡ true). subst (λ (f : FileId). bytes_of (new f) ≡ m.files f) (same_file_is (Volume number) g same) (ap bytes_of now_is ∙ append-nil (m.files (Volume number))))
        (λ (other : same_file (Volume number) g ≡ false). ap bytes_of (change.others g other) ∙ at.written g) (same_or_other (Volume number) g)

    sure_grows : length (held (Volume number)).sure ≤ length (held_after_sync (held (Volume number))).sure
    sure_grows = omega (arith, length-append (held (Volume number)).sure (held (Volume number)).rest)

    synced_keeps : Keeps m.start m.files m.contents number (length m.contents.records) m.acknowledged new
    synced_keeps = still_kept m.start m.files m.contents number (length m.contents.records) m.acknowledged held new (Volume number) (held_after_sync (held (Volume number))) at.keeps refl change
        record { part = record { more = []; is = append-nil (bytes_of (held_after_sync (held (Volume number)))) ∙ append-nil (bytes_of (held (Volume number))) ∙ at.written (Volume number) }; sure = sure_grows }

    pub synced_stands : Stands (all_acknowledged m) number new
    synced_stands = record {
      keeps = acknowledged_now m.start m.files m.contents number (length m.contents.records) m.acknowledged new synced_keeps now_is;
      written = still_written;
      sure = ap (λ (h : Held). h.rest) (change.others Meta refl) ∙ at.sure;
      indexed = omega (arith, at.indexed, ap (λ (h : Held). length h.sure) (change.others Index refl));
      headed = omega (arith, at.headed, sure_grows, ap (λ (h : Held). length h.sure) change.this);
    }

pub synced_at : (m : Meant) (e : Ends) (held new : Holdings) → IsAt m e held → Becomes (Volume e.volume) (held_after_sync (held (Volume e.volume))) held new
    → IsAt (all_acknowledged m) (record { meta = e.meta; index = e.index; volume = e.volume; length = e.length; greatest = e.greatest; entry = e.entry; logged = e.logged; acknowledged = e.logged }) new
synced_at m e held new at change = record {
  stands = synced_stands m e.volume held at.stands new change;
  ends = record {
    meta = at.ends.meta;
    index = at.ends.index;
    length_is = at.ends.length_is;
    greatest = at.ends.greatest;
    moment = at.ends.moment;
    above = at.ends.above;
    found = at.ends.found;
    entry = at.ends.entry;
    logged = at.ends.logged;
    acknowledged_is = at.ends.logged;
  };
}
