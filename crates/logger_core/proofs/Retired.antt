-- A logger keeps what is left without old volumes, on a disk that holds nothing of them.
use Rattle.std.proofs.Common.{◌≡◌, ◌≢◌, inl, inr, ⊎_elim, ℕ, ◌+◌, ◌-◌, ◌<◌, ◌≤◌, pos, List, [], ◌∷◌, ◌++◌, length, take, Option, None, Some, refl, sym, ap, ◌∙◌, subst, arith, nat_lt}
use Rattle.std.specs.Prelude.{Bool, Contains, if◌then◌else◌}
use Rattle.std.specs.List.{AllByRecursion}
use Rattle.std.proofs.lemmas.Bool.{cases_lt, le-ltb, lt-ltb}
use Rattle.std.proofs.lemmas.List.{append-nil, nil_from_length}
use Rattle.std.proofs.Math.Seq.{take-nil}
use Rattle.pcp_base.specs.Time.{Moment}
use Rattle.pcp_base.specs.declared.file.FileId.{FileId}
use Rattle.pcp_base.specs.declared.file.FileId.TheVariants.{Meta, Index, Volume}
use Rattle.pcp_base.specs.declared.result.Item.{Item}
use Rattle.pcp_model.specs.declared.records.Entry.{Entry}
use Rattle.pcp_model.specs.Archive.{ArchiveContents, items_of}
use Rattle.pcp_model.specs.Described.{Described}
use Rattle.pcp_model.specs.Disk.{CrashImage, Files, Held, Holdings, bytes_of, nothing_held}
use Rattle.pcp_model.specs.Laws.{EndsWhole}
use Rattle.pcp_model.specs.Payload.{IsItem}
use Rattle.pcp_model.specs.Sound.{IsItemBy, NoItemAfter}
use Rattle.pcp_model.proofs.Lists.{each-map, each-split}
use Rattle.pcp_model.proofs.Sound.{labelled_long}
use Rattle.pcp_outside.specs.Devices.{Survives as Lasts}
use Rattle.pcp_outside.proofs.Images.{survives_now}
use Rattle.logger_core.specs.declared.ends.Ends.{Ends}
use Rattle.logger_core.specs.Keeps.{AreSure, Keeps, PointsSurely, Start, WasDescribed, is_sure}
use Rattle.logger_core.specs.Meant.{AreEnds, IsLogger, Kept, Meant, Stands, items_in}
use Rattle.logger_core.specs.Retiring.{IsRetiring, contents_without, count_below, held_without, retired, volumes_below, volumes_from, without}
use Rattle.logger_core.specs.Steps.{IsAbove, IsStampIn}
use Rattle.logger_core.proofs.Announced.{still_indexed}
use Rattle.logger_core.proofs.Greatest.{greatest_same}
use Rattle.logger_core.proofs.Items.{above_empty}
use Rattle.logger_core.proofs.Rests.{image_survives}
use Rattle.logger_core.proofs.Whole.{next_contains}
use Rattle.logger_core.proofs.Without.{below_append, counts, from_append, gone, items_split, left, not_gone, one_from, still_archive}
use Rattle.logger_core.proofs.WithoutSound.{still_sound}

-- ---- what the disk holds

pub held_gone : (held : Holdings) (j n : ℕ) → n < j → held_without held j (Volume n) ≡ nothing_held
held_gone held j n low = ap (λ (b : Bool). if b then nothing_held else held (Volume n)) (lt-ltb n j low)

pub held_left : (held : Holdings) (j n : ℕ) → j ≤ n → held_without held j (Volume n) ≡ held (Volume n)
held_left held j n high = ap (λ (b : Bool). if b then nothing_held else held (Volume n)) (le-ltb n j high)

-- a crash leaves of it what it would have left before, without the old volumes
abbrev pub before_it : Holdings → ℕ → Files → Files
before_it held j image Meta = image Meta
before_it held j image Index = image Index
before_it held j image (Volume n) = if nat_lt n j then bytes_of (held (Volume n)) else image (Volume n)

module _ (held : Holdings) (j : ℕ) (image : Files) (crash : CrashImage (held_without held j) image) where
  image_gone : (n : ℕ) → n < j → image (Volume n) ≡ []
  image_gone n low =
      let nothing : Lasts nothing_held (image (Volume n)) = subst (λ (h : Held). Lasts h (image (Volume n))) (held_gone held j n low) (crash (Volume n)) in
      nothing.1 ∙ take-nil nothing.0

  pub was_image : CrashImage held (before_it held j image)
  was_image Meta = crash Meta
  was_image Index = crash Index
  was_image (Volume n) = ⊎_elim
      (λ (low : n < j). subst (λ (b : Bool). Lasts (held (Volume n)) (if b then bytes_of (held (Volume n)) else image (Volume n))) (sym (lt-ltb n j low)) (survives_now (held (Volume n))))
      (λ (high : j ≤ n). subst (λ (b : Bool). Lasts (held (Volume n)) (if b then bytes_of (held (Volume n)) else image (Volume n))) (sym (le-ltb n j high))
      (subst (λ (h : Held). Lasts h (image (Volume n))) (held_left held j n high) (crash (Volume n)))) (cases_lt n j)

  pub image_is : (file : FileId) → image file ≡ without (before_it held j image) j file
  image_is Meta = refl
  image_is Index = refl
  image_is (Volume n) = ⊎_elim
      (λ (low : n < j). image_gone n low ∙ sym (gone (before_it held j image) j n low))
      (λ (high : j ≤ n). sym (left (before_it held j image) j n high ∙ ap (λ (b : Bool). if b then bytes_of (held (Volume n)) else image (Volume n)) (le-ltb n j high))) (cases_lt n j)

-- ---- what is kept

still_sure : (earlier less gone_ : ℕ) (payloads : List (List ℕ)) (sure acknowledged : ℕ) → earlier ≡ gone_ + less → AreSure earlier payloads sure acknowledged → AreSure less payloads sure (acknowledged - gone_)
still_sure earlier less gone_ payloads sure acknowledged is (inl few) = inl (omega (arith, is, few))
still_sure earlier less gone_ payloads sure acknowledged is (inr some) = inr (some.0, some.1, some.2, omega (arith, is, some.3))

module _ (s : Start) (files : Files) (c : ArchiveContents) (number known acknowledged : ℕ) (held : Holdings) (k : Keeps s files c number known acknowledged held) (j : ℕ) (low : j ≤ number) (headed : 132 ≤ length (held (Volume number)).sure) where
  abbrev d : ArchiveContents
  d = contents_without c j

  abbrev before : List (ℕ × List Item)
  before = k.last.before

  volume_long : 132 ≤ length (files (Volume number))
  volume_long = labelled_long IsItem (files (Volume number)) c.label (pos number) k.last.items [] k.last.whole

  abbrev last_now : EndsWhole (without files j) d number
  last_now = record {
    before = volumes_from j before;
    items = k.last.items;
    are = ap (volumes_from j) k.last.are ∙ from_append j before ((number, k.last.items) ∷ []) ∙ ap (λ vs. volumes_from j before ++ vs) (one_from j (number, k.last.items) low).0;
    whole = record { head = k.last.whole.head; label = k.last.whole.label; payloads = k.last.whole.payloads; read = k.last.whole.read; is = left files j number low ∙ k.last.whole.is };
  }

  -- so many items are gone, all of earlier volumes
  pub gone_is : count_below j c ≡ length (items_of (volumes_below j before))
  gone_is = ap (λ vs. length (items_of (volumes_below j vs))) k.last.are ∙ ap (λ vs. length (items_of vs)) (below_append j before ((number, k.last.items) ∷ []) ∙ ap (λ vs. volumes_below j before ++ vs) (one_from j (number, k.last.items) low).1 ∙ append-nil (volumes_below j before))

  pub split : length (items_of before) ≡ count_below j c + length (items_of (volumes_from j before))
  split = omega (arith, counts j before, gone_is)

  pub gone_few : count_below j c ≤ acknowledged
  gone_few = omega (arith, split, k.earlier)

  same_held : held_without held j (Volume number) ≡ held (Volume number)
  same_held = held_left held j number low

  others_now : (n : ℕ) → n ≢ number → held_without held j (Volume n) ≡ is_sure (without files j (Volume n))
  others_now n other = ⊎_elim
      (λ (lower : n < j). held_gone held j n lower ∙ sym (ap is_sure (gone files j n lower)))
      (λ (stays : j ≤ n). held_left held j n stays ∙ k.others n other ∙ sym (ap is_sure (left files j n stays))) (cases_lt n j)

  items_are : items_of c.volumes ≡ items_of (volumes_below j c.volumes) ++ items_of d.volumes
  items_are = items_split files c.label j c.volumes k.is.volumes

  described_now : (n : ℕ) → known ≤ n → AllByRecursion (λ x. WasDescribed s x → Described (take n c.records) x) (items_of d.volumes)
  described_now n le = (each-split (λ x. WasDescribed s x → Described (take n c.records) x) (items_of (volumes_below j c.volumes)) (items_of d.volumes)
      (subst (AllByRecursion (λ x. WasDescribed s x → Described (take n c.records) x)) items_are (k.described n le))).1

  top : (n : ℕ) → 0 < length (files (Volume n)) → n ≤ number
  top n some = ⊎_elim (λ (high : number < n). absurd (omega (arith, some, ap length (above_empty files c number k.is k.last n high)))) (λ (le : n ≤ number). le) (cases_lt number n)

  held_long : (n : ℕ) → 132 ≤ length (held (Volume n)).sure → n ≢ number → 0 < length (files (Volume n))
  held_long n long other = omega (arith, long, ap (λ (h : Held). length h.sure) (k.others n other))

  below_number : (n : ℕ) → 132 ≤ length (held (Volume n)).sure → n ≤ number
  below_number n long = ⊎_elim (λ (high : number < n). top n (held_long n long (λ same. omega (arith, same, high)))) (λ (le : n ≤ number). le) (cases_lt number n)

  still_headed : 132 ≤ length (held_without held j (Volume number)).sure
  still_headed = omega (arith, headed, ap (λ (h : Held). length h.sure) same_held)

  still_points : (e : Entry) → PointsSurely files held number e → PointsSurely (without files j) (held_without held j) number e
  still_points e p = record {
    meta = λ some. let stays : j ≤ e.volume = not_gone files j e.volume some in p.meta (omega (arith, some, ap length (left files j e.volume stays)));
    offset = λ same. omega (arith, p.offset same, ap (λ (h : Held). length h.sure) same_held);
    below = (number, still_headed, omega (arith, p.below.2, below_number p.below.0 p.below.1));
  }

  pub keeps_without : Keeps s (without files j) d number known (acknowledged - count_below j c) (held_without held j)
  keeps_without = record {
    is = still_archive files c j number k.is low volume_long;
    last = last_now;
    indexed = still_indexed (files Index) c d refl refl k.indexed;
    whole = k.whole;
    meta = k.meta;
    index = k.index;
    volume = record { more = k.volume.more; is = ap (λ (h : Held). bytes_of h ++ k.volume.more) same_held ∙ k.volume.is ∙ sym (left files j number low) };
    others = others_now;
    few = k.few;
    sure = k.sure;
    described = described_now;
    sound = λ was. still_sound files c j number k.is low volume_long (k.sound was);
    labelled = inr (number, still_headed);
    points = λ was. each-map (PointsSurely files held number) (PointsSurely (without files j) (held_without held j) number) still_points c.entries (k.points was);
    items = subst (λ (n : ℕ). AreSure (length (items_of (volumes_from j before))) k.last.whole.payloads n (acknowledged - count_below j c)) (sym (ap (λ (h : Held). length h.sure) same_held))
        (still_sure (length (items_of before)) (length (items_of (volumes_from j before))) (count_below j c) k.last.whole.payloads (length (held (Volume number)).sure) acknowledged split k.items);
    earlier = omega (arith, split, k.earlier);
  }

-- ---- what stands

module _ (m : Meant) (number : ℕ) (held : Holdings) (at : Stands m number held) (j : ℕ) (low : j ≤ number) where
  written_now : (file : FileId) → bytes_of (held_without held j file) ≡ without m.files j file
  written_now Meta = at.written Meta
  written_now Index = at.written Index
  written_now (Volume n) = ⊎_elim
      (λ (lower : n < j). ap bytes_of (held_gone held j n lower) ∙ sym (gone m.files j n lower))
      (λ (stays : j ≤ n). ap bytes_of (held_left held j n stays) ∙ at.written (Volume n) ∙ sym (left m.files j n stays)) (cases_lt n j)

  pub stands_without : Stands (retired m j) number (held_without held j)
  stands_without = record {
    keeps = keeps_without m.start m.files m.contents number (length m.contents.records) m.acknowledged held at.keeps j low at.headed;
    written = written_now;
    sure = at.sure;
    indexed = at.indexed;
    headed = omega (arith, at.headed, ap (λ (h : Held). length h.sure) (held_left held j number low));
  }

  -- what a crash leaves of it
  pub leaves_without : (below : ℕ) → j ≤ below → (image : Files) → CrashImage (held_without held j) image → IsRetiring m below held image
  leaves_without below most image crash = record {
    from = j;
    most = most;
    before = before_it held j image;
    crash = was_image held j image crash;
    is = image_is held j image crash;
    survives = image_survives (retired m j) number (held_without held j) stands_without image crash;
  }

  items_are_left : items_in m ≡ items_of (volumes_below j m.contents.volumes) ++ items_in (retired m j)
  items_are_left = items_split m.files m.contents.label j m.contents.volumes at.keeps.is.volumes

  many : length (items_in m) ≡ count_below j m.contents + length (items_in (retired m j))
  many = counts j m.contents.volumes

  few : count_below j m.contents ≤ m.acknowledged
  few = gone_few m.start m.files m.contents number (length m.contents.records) m.acknowledged held at.keeps j low at.headed

  -- an item that is left stood before
  behind : (xs ys : List Item) (x : Item) → Contains ys x → Contains (xs ++ ys) x
  behind [] ys x has = has
  behind (y ∷ xs) ys x has = next_contains y (xs ++ ys) x (behind xs ys x has)

  stamp_stood : (t : Moment) → IsStampIn (contents_without m.contents j) t → IsStampIn m.contents t
  stamp_stood t (inl (x, has, same)) = inl (x, subst (λ xs. Contains xs x) (sym items_are_left) (behind (items_of (volumes_below j m.contents.volumes)) (items_in (retired m j)) x has), same)
  stamp_stood t (inr (inl domain)) = inr (inl domain)
  stamp_stood t (inr (inr entry)) = inr (inr entry)

  still_above : (g : Option Moment) → IsAbove m.contents g → IsAbove (contents_without m.contents j) g
  still_above None none = λ t stamp. none t (stamp_stood t stamp)
  still_above (Some t) is = ((each-split (IsItemBy t) (items_of (volumes_below j m.contents.volumes)) (items_in (retired m j)) (subst (NoItemAfter t) items_are_left is.0)).1, is.1, is.2)

  -- where no item is gone all are left
  none_gone : m.gone + count_below j m.contents ≡ 0 → items_in (retired m j) ≡ items_in m
  none_gone none = sym (items_are_left ∙ ap (λ xs. xs ++ items_in (retired m j)) (nil_from_length (items_of (volumes_below j m.contents.volumes)) (omega (arith, none))))

  module _ (e : Ends) (here : e.volume ≡ number) (ends : AreEnds m e) where
    pub ends_without : AreEnds (retired m j) e
    ends_without = record {
      meta = ends.meta;
      index = ends.index;
      length_is = ends.length_is ∙ ap length (sym (left m.files j e.volume (omega (arith, low, here))));
      greatest = ends.greatest;
      moment = ends.moment;
      above = still_above m.greatest ends.above;
      found = λ none. greatest_same m.contents (contents_without m.contents j) (none_gone none) refl refl m.greatest (ends.found (omega (arith, none)));
      entry = ends.entry;
      logged = omega (arith, ends.logged, many);
      acknowledged_is = omega (arith, ends.acknowledged_is, few);
    }

pub logger_without : (m : Meant) (l : Kept) (held : Holdings) (j : ℕ) → IsLogger m l held → j ≤ l.ends.volume → IsLogger (retired m j) l (held_without held j)
logger_without m l held j is low = record {
  at = record { stands = stands_without m l.ends.volume held is.at.stands j low; ends = ends_without m l.ends.volume held is.at.stands j low l.ends refl is.at.ends };
  label_is = is.label_is;
  records_are = is.records_are;
}
