-- A source is opened, or turned back; and what breaks its reading off later.
use Rattle.std.proofs.Common.{◌≡◌, ℕ, List, inl, inr, refl, sym, ap, ◌∙◌, subst, Option, None, Result, Ok, Err, IfErr, OnOk}
use Rattle.pcp_base.specs.declared.file.FileId.{FileId}
use Rattle.pcp_base.specs.declared.result.Item.{Item}
use Rattle.pcp_model.specs.Archive.{Reads, records_in, scan}
use Rattle.pcp_model.specs.Disk.{Files, Holdings, contents_of}
use Rattle.pcp_outside.specs.Causes.{Rose}
use Rattle.pcp_outside.specs.declared.disk.Disk.{Ghosts as DiskGhosts}
use Rattle.archive_check.specs.declared.fault.CheckFault.{CheckFault}
use Rattle.archive_check.specs.declared.fault.CheckFault.TheVariants.{Boundary, Items, Late, Reader}
use Rattle.archive_check.specs.Checks.{HoldsSound, IsUnreadable}
use Rattle.archive_loading.specs.Loaded.{IsOver, Loaded}
use Rattle.archive_loading.specs.Looks.{Looks}
use Rattle.archive_merge.specs.Merging.{samples_of}
use Rattle.archive_reader.specs.declared.fault.ReaderFault.{ReaderFault}
use Rattle.archive_reader.specs.declared.fault.ReaderFault.TheVariants.{Compressed, NotArchive, DiskFault, NoMemory}
use Rattle.archive_reader.specs.LoadFaults.{IsLoadFault}
use Rattle.archive_reader.specs.Sounds.{ReadableStands, StandsAs}
use Rattle.archive_reader.specs.Walks.{AllFrom}
use Rattle.log_extract.specs.declared.cursor.Cursor.{Cursor}
use Rattle.log_extract.specs.declared.fault.ExtractFault.{ExtractFault}
use Rattle.log_extract.specs.declared.fault.ExtractFault.TheVariants.{Archive, Merge, Source as Unread}
use Rattle.log_extract.specs.Cursors.{IsReady, Leaves, OpensSource}
use Rattle.log_extract.specs.Logging.{AreQuiet, BlamesSources, IsOfItem, QuietBut}
use Rattle.log_extract.specs.Sources.{IsBroken, IsBrokenOff, IsLack, IsTurnedBack}

module _ {D : Type 0} (d : DiskGhosts D) where
  -- of a later part of a call
  pub broken_on : (was mid is : D) (fault : ReaderFault) → d.faults mid ≡ d.faults was → IsBroken d mid is fault → IsBroken d was is fault
  broken_on was mid is fault same b = record { why = b.why; blamed = λ e. subst (λ (n : ℕ). Rose n (d.faults is)) same (b.blamed e) }

  pub wanting : (was is : D) → IsBroken d was is NoMemory
  wanting was is = record { why = λ tells. tt; blamed = λ (e : NoMemory ≡ DiskFault). absurd (cc) }

  broken_off_on : (was mid is : D) (fault : CheckFault) → d.faults mid ≡ d.faults was → IsBrokenOff d mid is fault → IsBrokenOff d was is fault
  broken_off_on was mid is (Items first second) same b = b
  broken_off_on was mid is (Boundary at file below above) same b = b
  broken_off_on was mid is (Late at stamp) same b = b
  broken_off_on was mid is (Reader fault) same b = broken_on was mid is fault same b

  -- an opened source is ready
  pub ready_so : (was is : D) (cursor : Cursor) → Looks d was is → (d.tells → OpensSource d was cursor) → IsReady d is cursor
  ready_so was is cursor looks opens tells =
      let o : OpensSource d was cursor = opens tells in
      (samples_of o.source.items, subst (λ (h : Holdings). Leaves (contents_of h) cursor (samples_of o.source.items)) (sym (looks.held tells)) o.leaves)

  -- ---- sources that are turned back

  unloaded : (wrapped : Option FileId) (files : Files) (fault : ReaderFault) → IsLoadFault wrapped files fault → IsUnreadable wrapped files fault
  unloaded wrapped files (Compressed file) why = why
  unloaded wrapped files (NotArchive file at) why = (why.0, inl why.1)
  unloaded wrapped files DiskFault why = tt
  unloaded wrapped files NoMemory why = tt

  lacking : (wrapped : Option FileId) (files : Files) (fault : ReaderFault) → IsLack fault → IsUnreadable wrapped files fault
  lacking wrapped files (Compressed file) why = absurd why
  lacking wrapped files (NotArchive file at) why = absurd why
  lacking wrapped files DiskFault why = tt
  lacking wrapped files NoMemory why = tt

  reader_fault : (fault : ReaderFault) → Reader fault ≡ Reader DiskFault → fault ≡ DiskFault
  reader_fault fault e = cc

  -- it isn't loaded, once it was checked
  pub not_loaded : (was mid is : D) (fault : ReaderFault) → Looks d was mid → d.faults mid ≡ d.faults was → (d.tells → IsLoadFault (d.wrapped_file mid) (contents_of (d.held mid)) fault) → (fault ≡ DiskFault → Rose (d.faults mid) (d.faults is))
      → IsTurnedBack d was is (Reader fault)
  not_loaded was mid is fault looks same why rose = record {
    why = λ tells.
        subst (λ (w : Option FileId). IsUnreadable w (contents_of (d.held was)) fault) (looks.wrapped tells)
        (subst (λ (h : Holdings). IsUnreadable (d.wrapped_file mid) (contents_of h) fault) (looks.held tells) (unloaded (d.wrapped_file mid) (contents_of (d.held mid)) fault (why tells)));
    blamed = λ e. subst (λ (n : ℕ). Rose n (d.faults is)) same (rose (reader_fault fault e));
  }

  -- or its first result isn't read
  pub not_begun : (was mid is : D) (fault : ReaderFault) → d.faults mid ≡ d.faults was → IsBroken d mid is fault → IsTurnedBack d was is (Reader fault)
  not_begun was mid is fault same b = record {
    why = λ tells. lacking (d.wrapped_file was) (contents_of (d.held was)) fault (b.why tells);
    blamed = λ e. subst (λ (n : ℕ). Rose n (d.faults is)) same (b.blamed (reader_fault fault e));
  }

  -- ---- sources that are opened

  module _ (was mid : D) (loaded : Loaded) (count : ℕ) (stands : ReadableStands) (looks : Looks d was mid) (tells : d.tells) (sound : HoldsSound (contents_of (d.held was)) count)
      (over : IsOver (contents_of (d.held mid)) loaded) where
    stand : StandsAs (contents_of (d.held mid)) sound.reading loaded
    stand = stands (contents_of (d.held mid)) sound.reading loaded (subst (λ (h : Holdings). Reads (contents_of h) sound.reading) (sym (looks.held tells)) sound.reads) over

    pub ready : (items : List Item) × AllFrom (contents_of (d.held mid)) loaded.volumes 132 items
    ready = (scan sound.reading, stand.all)

    pub opened : (later : D) (cursor : Cursor) → Looks d mid later → d.wrapped_file was ≡ None → cursor.reader ≡ loaded
        → ((items : List Item) → AllFrom (contents_of (d.held later)) loaded.volumes 132 items → Leaves (contents_of (d.held later)) cursor (samples_of items)) → OpensSource d was cursor
    opened later cursor since unwrapped same leaves = record {
      source = record { records = records_in sound.reading; items = scan sound.reading };
      is = record { unwrapped = unwrapped; reading = sound.reading; reads = sound.reads; sound = sound.sound; records_are = refl; items_are = refl };
      leaves =
          subst (λ (h : Holdings). Leaves (contents_of h) cursor (samples_of (scan sound.reading))) (since.held tells ∙ looks.held tells)
          (leaves (scan sound.reading) (subst (λ (h : Holdings). AllFrom (contents_of h) loaded.volumes 132 (scan sound.reading)) (sym (since.held tells)) stand.all));
      records = ap (λ (r : Loaded). r.records) same ∙ stand.records_are;
    }

module _ {A B : Type 0} (a : DiskGhosts A) (b : DiskGhosts B) where
  -- of a later part of a call
  pub blames_from : (first_was first_mid first_is : A) (second_was second_mid second_is : B) (e : ExtractFault) → a.faults first_mid ≡ a.faults first_was → b.faults second_mid ≡ b.faults second_was
      → BlamesSources a b first_mid first_is second_mid second_is e → BlamesSources a b first_was first_is second_was second_is e
  blames_from first_was first_mid first_is second_was second_mid second_is (Unread number fault) one two (inl blames) = inl (blames.0, broken_off_on a first_was first_mid first_is fault one blames.1)
  blames_from first_was first_mid first_is second_was second_mid second_is (Unread number fault) one two (inr blames) = inr (blames.0, broken_off_on b second_was second_mid second_is fault two blames.1)
  blames_from first_was first_mid first_is second_was second_mid second_is (Merge fault) one two blames = tt
  blames_from first_was first_mid first_is second_was second_mid second_is (Archive fault) one two blames = tt

  pub blames_none : (first_was first_is : A) (second_was second_is : B) (e : ExtractFault) → IsOfItem e → BlamesSources a b first_was first_is second_was second_is e
  blames_none first_was first_is second_was second_is (Unread number fault) item = absurd item
  blames_none first_was first_is second_was second_is (Merge fault) item = tt
  blames_none first_was first_is second_was second_is (Archive fault) item = tt

  pub blames_if : (first_was first_mid first_is : A) (second_was second_mid second_is : B) (result : Result (Unit {0}) ExtractFault) → a.faults first_mid ≡ a.faults first_was → b.faults second_mid ≡ b.faults second_was
      → IfErr result (BlamesSources a b first_mid first_is second_mid second_is) → IfErr result (BlamesSources a b first_was first_is second_was second_is)
  blames_if first_was first_mid first_is second_was second_mid second_is (Ok done) one two blames = tt
  blames_if first_was first_mid first_is second_was second_mid second_is (Err e) one two blames = blames_from first_was first_mid first_is second_was second_mid second_is e one two blames

  -- ---- calls that failed

  abbrev pub QuietIn : A → A → B → B → Result (Unit {0}) ExtractFault → Type 0
  QuietIn first_was first_is second_was second_is (Ok done) = AreQuiet a b first_was first_is second_was second_is
  QuietIn first_was first_is second_was second_is (Err e) = QuietBut a b first_was first_is second_was second_is e

  pub quiet_on : (first_was first_mid first_is : A) (second_was second_mid second_is : B) → a.faults first_mid ≡ a.faults first_was → b.faults second_mid ≡ b.faults second_was
      → AreQuiet a b first_mid first_is second_mid second_is → AreQuiet a b first_was first_is second_was second_is
  quiet_on first_was first_mid first_is second_was second_mid second_is one two q = record { first = q.first ∙ one; second = q.second ∙ two }

  pub quiet_from : (first_was first_mid first_is : A) (second_was second_mid second_is : B) (e : ExtractFault) → a.faults first_mid ≡ a.faults first_was → b.faults second_mid ≡ b.faults second_was
      → QuietBut a b first_mid first_is second_mid second_is e → QuietBut a b first_was first_is second_was second_is e
  quiet_from first_was first_mid first_is second_was second_mid second_is (Unread number fault) one two (inl q) = inl (q.0, q.1 ∙ two)
  quiet_from first_was first_mid first_is second_was second_mid second_is (Unread number fault) one two (inr q) = inr (q.0, q.1 ∙ one)
  quiet_from first_was first_mid first_is second_was second_mid second_is (Merge fault) one two q = quiet_on first_was first_mid first_is second_was second_mid second_is one two q
  quiet_from first_was first_mid first_is second_was second_mid second_is (Archive fault) one two q = quiet_on first_was first_mid first_is second_was second_mid second_is one two q

  pub quiet_of_item : (first_was first_is : A) (second_was second_is : B) (e : ExtractFault) → IsOfItem e → AreQuiet a b first_was first_is second_was second_is → QuietBut a b first_was first_is second_was second_is e
  quiet_of_item first_was first_is second_was second_is (Unread number fault) item q = absurd item
  quiet_of_item first_was first_is second_was second_is (Merge fault) item q = q
  quiet_of_item first_was first_is second_was second_is (Archive fault) item q = q

  pub quiet_in : (first_was first_mid first_is : A) (second_was second_mid second_is : B) (result : Result (Unit {0}) ExtractFault) → a.faults first_mid ≡ a.faults first_was → b.faults second_mid ≡ b.faults second_was
      → OnOk result (AreQuiet a b first_mid first_is second_mid second_is) → IfErr result (QuietBut a b first_mid first_is second_mid second_is) → QuietIn first_was first_is second_was second_is result
  quiet_in first_was first_mid first_is second_was second_mid second_is (Ok done) one two q others = quiet_on first_was first_mid first_is second_was second_mid second_is one two q
  quiet_in first_was first_mid first_is second_was second_mid second_is (Err e) one two q others = quiet_from first_was first_mid first_is second_was second_mid second_is e one two others
