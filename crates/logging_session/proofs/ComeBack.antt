-- Whatever a crash leaves of a session comes back with its items.
use Rattle.std.proofs.Common.{◌≡◌, inl, inr, ℕ, ◌+◌, ◌≤◌, List, [], ◌∷◌, ◌++◌, length, take, drop, zero, suc, sym, ap, ap₂, ◌∙◌, subst, arith}
use Rattle.std.specs.Prelude.{Contains}
use Rattle.std.specs.List.{AllByRecursion}
use Rattle.std.proofs.Math.Path.{fun_ext}
use Rattle.std.proofs.Math.Seq.{take-append_seam}
use Rattle.std.proofs.lemmas.List.{drop_all}
use Rattle.pcp_base.specs.declared.file.FileId.TheVariants.{Meta, Index, Volume}
use Rattle.pcp_base.specs.declared.result.Item.{Item}
use Rattle.pcp_model.specs.declared.records.MetaRecord.{MetaRecord}
use Rattle.pcp_model.specs.Archive.{ArchiveContents, ArchiveReading, Reads, IsArchive, items_of, scan, records_in}
use Rattle.pcp_model.specs.Described.{Described}
use Rattle.pcp_model.specs.Disk.{Files, IsEmpty}
use Rattle.pcp_model.specs.LabelFields.{LabelFields}
use Rattle.pcp_model.specs.Recovered.{Recovers, recovered_reading}
use Rattle.pcp_model.specs.Sound.{IsSound}
use Rattle.pcp_model.proofs.Lists.{each-first, each-map}
use Rattle.pcp_model.proofs.OneReading.{one_reading}
use Rattle.pcp_model.proofs.OneRecovery.{one_recovery}
use Rattle.pcp_model.proofs.Recovered.{recovery_is_kept, recovery_stays}
use Rattle.archive_recovery.specs.Halfway.{HalfwayFrom}
use Rattle.archive_recovery.specs.Laws.{AreLabelled, IsReadOn, entries_in}
use Rattle.archive_recovery.proofs.Again.{reads_on, recovers_sound}
use Rattle.archive_recovery.proofs.KeepsSound.{recovery_keeps_sound}
use Rattle.logger_core.specs.Created.{HasNoItem, no_items}
use Rattle.logger_core.specs.Keeps.{Start, WasSound, WasDescribed}
use Rattle.logger_core.specs.Laws.{Survives}
use Rattle.logger_core.specs.Recovering.{HoldsFirst}
use Rattle.logger_core.specs.Reopening.{as_found}
use Rattle.logger_core.proofs.Recovered.{survivors_recovered}
use Rattle.logger_core.proofs.Whole.{each_contained}
use Rattle.logging_session.specs.Written.{OpensFound}
use Rattle.logging_session.specs.Keeping.{AreApart}
use Rattle.logging_session.specs.ComingBack.{ComesBack, start_of}

-- what holds of each item of a list holds of one that it contains
pub at_of : {X : Type 0} (P : X → Type 0) (xs : List X) (x : X) → AllByRecursion P xs → Contains xs x → P x
at_of P [] x all has = absurd (omega (arith, has.1))
at_of P (y ∷ ys) x all (zero, low, is) = subst P is all.0
at_of P (y ∷ ys) x all (suc k, low, is) = at_of P ys x all.1 (k, omega (arith, low), is)

-- what recovery leaves is one thing, as a whole
pub same_left : (files a b : Files) (r : ArchiveReading) → Recovers files r a → Recovers files r b → a ≡ b
same_left files a b r in_a in_b = fun_ext (one_recovery files a b r in_a in_b)

-- with the same items and records, what was described is
described_still : (s : Start) (xs : List Item) (rs : List MetaRecord) → xs ≡ scan s.reading → rs ≡ records_in s.reading → AllByRecursion (λ x. WasDescribed s x → Described rs x) xs
described_still s xs rs same_items same_records =
    each-map (λ (x : Item). Contains xs x) (λ (x : Item). WasDescribed s x → Described rs x)
    (λ x has was. subst (λ (l : List MetaRecord). Described l x) (sym same_records) (was (subst (λ (l : List Item). Contains l x) same_items has))) xs (each_contained xs)

pub fewer : (s : Start) (all : List Item) (a b : ℕ) (image : Files) → b ≤ a → ComesBack s all a image → ComesBack s all b image
fewer s all a b image le h = record {
  reading = h.reading;
  reads = h.reads;
  comes = λ again recovers.
      let f : HoldsFirst s all a again (recovered_reading image h.reading) = h.comes again recovers in
      record { reads = f.reads; q = f.q; items = f.items; enough = omega (arith, f.enough, le); described = f.described; sound = f.sound };
  new = h.new;
}

-- no item stands behind those that there were
none_behind : (rs : List MetaRecord) (n : ℕ) (xs : List Item) → length xs ≤ n → AllByRecursion (Described rs) (drop n xs)
none_behind rs n xs le = subst (λ (ys : List Item). AllByRecursion (Described rs) ys) (sym (drop_all n xs le)) tt

-- ---- on the way of recovery

module _ (files left : Files) (r : ArchiveReading) (more : List Item) (reads : Reads files r) (recovered : Recovers files r left) where
  abbrev found : ArchiveReading
  found = recovered_reading files r

  kept : Reads left found × (scan found ≡ scan r) × (records_in found ≡ records_in r)
  kept = recovery_is_kept files left r reads recovered

  pub halfway_comes : (image : Files) → HalfwayFrom files r image → ComesBack (start_of files r left) (scan r ++ more) (length (scan r)) image
  halfway_comes image half =
      let on : IsReadOn image r = reads_on files image r reads half in
      record {
        reading = on.new;
        reads = on.is;
        comes = λ again recovers.
            let now : Reads again (recovered_reading image on.new) × (scan (recovered_reading image on.new) ≡ scan on.new) × (records_in (recovered_reading image on.new) ≡ records_in on.new) = recovery_is_kept image again on.new on.is recovers in
            let same : scan (recovered_reading image on.new) ≡ scan r = now.1 ∙ on.items in
            record {
              reads = now.0;
              q = length (scan r);
              items = same ∙ sym (take-append_seam (scan r) more);
              enough = omega (arith, ap length same);
              described = described_still (start_of files r left) (scan (recovered_reading image on.new)) (records_in (recovered_reading image on.new)) (same ∙ sym kept.1) (now.2 ∙ on.records ∙ sym kept.2);
              sound = λ was. recovers_sound files image left again r on.new reads half on.is recovered recovers was;
            };
        new = none_behind (records_in on.new) (length (scan found)) (scan on.new) (omega (arith, ap length on.items, ap length kept.1));
      }

  -- what recovery left
  here : HoldsFirst (start_of files r left) (scan r ++ more) (length (scan r)) left (recovered_reading left found)
  here =
      let now : Reads left (recovered_reading left found) × (scan (recovered_reading left found) ≡ scan found) × (records_in (recovered_reading left found) ≡ records_in found) = recovery_is_kept left left found kept.0 (recovery_stays files left r reads recovered) in
      record {
        reads = now.0;
        q = length (scan r);
        items = now.1 ∙ kept.1 ∙ sym (take-append_seam (scan r) more);
        enough = omega (arith, ap length (now.1 ∙ kept.1));
        described = described_still (start_of files r left) (scan (recovered_reading left found)) (records_in (recovered_reading left found)) now.1 now.2;
        sound = λ was. subst (λ (q : ArchiveReading). IsSound left q) (one_reading left found (recovered_reading left found) kept.0 now.0) was;
      }

  pub left_comes : ComesBack (start_of files r left) (scan r ++ more) (length (scan r)) left
  left_comes = record {
    reading = found;
    reads = kept.0;
    comes = λ again recovers. subst (λ (f : Files). HoldsFirst (start_of files r left) (scan r ++ more) (length (scan r)) f (recovered_reading left found))
        (same_left left left again found (recovery_stays files left r reads recovered) recovers) here;
    new = none_behind (records_in found) (length (scan found)) (scan found) (omega arith);
  }

-- ---- survivors of what a logger keeps

survivor : (s : Start) (all : List Item) (a : ℕ) (image : Files) (w : Survives s all a image) → AllByRecursion (Described w.new.records) (drop (length (scan s.reading)) (items_of w.new.volumes)) → ComesBack s all a image
survivor s all a image w new = record {
  reading = ArchiveReading.archive w.new;
  reads = w.is;
  comes = λ again recovers. survivors_recovered s all a image again (ArchiveReading.archive w.new) w w.is recovers;
  new = new;
}

-- a new item that survives wasn't there, so it is described
each-drop : {X : Type 0} (P : X → Type 0) (n : ℕ) (xs : List X) → AllByRecursion P xs → AllByRecursion P (drop n xs)
each-drop P zero xs all = all
each-drop P (suc n) [] all = tt
each-drop P (suc n) (x ∷ xs) all = each-drop P n xs all.1

each-both : {X : Type 0} (P Q R : X → Type 0) → ((x : X) → P x → Q x → R x) → (xs : List X) → AllByRecursion P xs → AllByRecursion Q xs → AllByRecursion R xs
each-both P Q R f [] p q = tt
each-both P Q R f (x ∷ xs) p q = (f x p.0 q.0, each-both P Q R f xs p.1 q.1)

-- what stands behind the items that there were is of the new ones
behind_each : (P : Item → Type 0) (xs items : List Item) (q : ℕ) → AllByRecursion P items → AllByRecursion P (drop (length xs) (take q (xs ++ items)))
behind_each P [] items q all = each-first P q items all
behind_each P (z ∷ xs) items zero all = tt
behind_each P (z ∷ xs) items (suc q) all = behind_each P xs items q all

pub each_new : (s : Start) (items : List Item) (a : ℕ) (image : Files) (w : Survives s (scan s.reading ++ items) a image) → AreApart (scan s.reading) items → AllByRecursion (Described w.new.records) (drop (length (scan s.reading)) (items_of w.new.volumes))
each_new s items a image w apart =
    each-both (λ (y : Item). Contains (scan s.reading) y → ⊥) (λ (y : Item). WasDescribed s y → Described w.new.records y) (Described w.new.records)
    (λ y other told. told (λ has. absurd (other has))) (drop (length (scan s.reading)) (items_of w.new.volumes))
    (subst (λ (zs : List Item). AllByRecursion (λ y. Contains (scan s.reading) y → ⊥) (drop (length (scan s.reading)) zs)) (sym w.items) (behind_each (λ y. Contains (scan s.reading) y → ⊥) (scan s.reading) items w.q apart))
    (each-drop (λ (y : Item). WasDescribed s y → Described w.new.records y) (length (scan s.reading)) (items_of w.new.volumes) w.described)

-- what was sound and described in one archive was so in the other
record IsStill (s t : Start) : Type 0 where
  pub as_many : length (scan t.reading) ≡ length (scan s.reading)
  pub sound : WasSound s → WasSound t
  pub described : (x : Item) → WasDescribed s x → WasDescribed t x

moved : (s t : Start) (all : List Item) (a : ℕ) (image : Files) → IsStill s t → ComesBack t all a image → ComesBack s all a image
moved s t all a image still h = record {
  reading = h.reading;
  reads = h.reads;
  comes = λ again recovers.
      let f : HoldsFirst t all a again (recovered_reading image h.reading) = h.comes again recovers in
      record {
        reads = f.reads;
        q = f.q;
        items = f.items;
        enough = f.enough;
        described = each-map (λ (x : Item). WasDescribed t x → Described (records_in (recovered_reading image h.reading)) x) (λ (x : Item). WasDescribed s x → Described (records_in (recovered_reading image h.reading)) x)
            (λ x told was. told (still.described x was)) (scan (recovered_reading image h.reading)) f.described;
        sound = λ was. f.sound (still.sound was);
      };
  new = subst (λ (n : ℕ). AllByRecursion (Described (records_in h.reading)) (drop n (scan h.reading))) still.as_many h.new;
}

-- ---- an archive that was opened

sound_again : (image again : Files) (r : ArchiveReading) → Reads image r → IsSound image r → AreLabelled image (entries_in r) → Recovers image r again → IsSound again (recovered_reading image r)
sound_again image again ArchiveReading.nothing reads sound labelled recovers = tt
sound_again image again (ArchiveReading.archive c) reads sound labelled recovers = recovery_keeps_sound image again c reads sound labelled recovers

module _ (left files : Files) (r : ArchiveReading) (reads : Reads files r) (recovered : Recovers files r left) where
  abbrev was : ArchiveReading
  was = recovered_reading files r

  has : Reads left was × (scan was ≡ scan r) × (records_in was ≡ records_in r)
  has = recovery_is_kept files left r reads recovered

  nothing_read : IsEmpty left → was ≡ ArchiveReading.nothing
  nothing_read empty = one_reading left was ArchiveReading.nothing has.0 (record { meta = inl (empty Meta); index = empty Index; volumes = λ n. empty (Volume n) })

  no_item : IsEmpty left → scan r ≡ []
  no_item empty = sym has.1 ∙ ap (λ (q : ArchiveReading). scan q) (nothing_read empty)

  pub no_item_comes : IsEmpty left → (more : List Item) (image : Files) → HasNoItem image → ComesBack (start_of files r left) (scan r ++ more) (length (scan r) + 0) image
  no_item_comes empty more image h = record {
    reading = h.reading;
    reads = h.reads;
    comes = λ again recovers.
        let now : Reads again (recovered_reading image h.reading) × (scan (recovered_reading image h.reading) ≡ scan h.reading) × (records_in (recovered_reading image h.reading) ≡ records_in h.reading) = recovery_is_kept image again h.reading h.reads recovers in
        let none : scan (recovered_reading image h.reading) ≡ [] = now.1 ∙ h.none in
        record {
          reads = now.0;
          q = 0;
          items = none;
          enough = omega (arith, ap length (no_item empty));
          described = subst (λ (xs : List Item). AllByRecursion (λ x. WasDescribed (start_of files r left) x → Described (records_in (recovered_reading image h.reading)) x) xs) (sym none) tt;
          sound = λ so. sound_again image again h.reading h.reads h.sound h.labelled recovers;
        };
    new = none_behind (records_in h.reading) (length (scan was)) (scan h.reading) (omega (arith, ap length h.none));
  }

  module _ (l : LabelFields) (opened : Files) (c : ArchiveContents) where
    of_new : IsEmpty left → c ≡ no_items l → (items_of c.volumes ≡ scan r) × IsStill (start_of files r left) (as_found opened c).start
    of_new empty is = (
      ap (λ (d : ArchiveContents). items_of d.volumes) is ∙ sym (no_item empty),
      record {
        as_many = ap (λ (d : ArchiveContents). length (items_of d.volumes)) is ∙ sym (ap length (has.1 ∙ no_item empty));
        sound = λ so. subst (λ (d : ArchiveContents). IsSound opened (ArchiveReading.archive d)) (sym is) (tt, tt);
        described = λ x so contained. absurd (let none : Contains {X = Item} [] x = subst (λ (d : ArchiveContents). Contains (items_of d.volumes) x) is contained in omega (arith, none.1));
      },
    )

    of_old : opened ≡ left → IsArchive left c → (items_of c.volumes ≡ scan r) × IsStill (start_of files r left) (as_found opened c).start
    of_old same is =
        let one : ArchiveReading.archive c ≡ was = one_reading left (ArchiveReading.archive c) was is has.0 in
        let e : start_of files r left ≡ (as_found opened c).start = ap₂ (λ (f : Files) (q : ArchiveReading). record { files = f; reading = q }) (sym same) (sym one) in (
          ap (λ (q : ArchiveReading). scan q) one ∙ has.1,
          record {
            as_many = ap (λ (q : ArchiveReading). length (scan q)) one;
            sound = λ so. subst WasSound e so;
            described = λ x so. subst (λ (u : Start). WasDescribed u x) e so;
          },
        )

    of_opened : OpensFound l left opened c → (items_of c.volumes ≡ scan r) × IsStill (start_of files r left) (as_found opened c).start
    of_opened (inl new) = of_new new.0 new.2
    of_opened (inr old) = of_old old.0 old.1

    pub opened_items : OpensFound l left opened c → items_of c.volumes ≡ scan r
    opened_items opens = (of_opened opens).0

    pub opened_comes : OpensFound l left opened c → (more : List Item) (k : ℕ) (image : Files) (w : Survives (as_found opened c).start (items_of c.volumes ++ more) (length (items_of c.volumes) + k) image)
        → AllByRecursion (Described w.new.records) (drop (length (items_of c.volumes)) (items_of w.new.volumes)) → ComesBack (start_of files r left) (scan r ++ more) (length (scan r) + k) image
    opened_comes opens more k image w new =
        moved (start_of files r left) (as_found opened c).start (scan r ++ more) (length (scan r) + k) image (of_opened opens).1
        (subst (λ (xs : List Item). ComesBack (as_found opened c).start (xs ++ more) (length xs + k) image) (of_opened opens).0 (survivor (as_found opened c).start (items_of c.volumes ++ more) (length (items_of c.volumes) + k) image w new))
