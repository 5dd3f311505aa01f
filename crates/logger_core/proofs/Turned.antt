-- A flush and a switch, as wholes.
use Rattle.std.proofs.Common.{◌≡◌, ℕ, ◌+◌, Bool, nat_lt, ◌<◌, ◌≤◌, true, false, [], ◌++◌, length, Option, None, Some, refl, sym, ap, ◌∙◌, subst, append_assoc, arith}
use Rattle.std.specs.Prelude.{option_to_list, pos, Result, Ok, Err, IfOk}
use Rattle.pcp_model.specs.Labels.{label}
use Rattle.std.proofs.lemmas.List.{append-nil}
use Rattle.pcp_base.specs.Time.{Moment}
use Rattle.pcp_base.specs.declared.file.FileId.{FileId}
use Rattle.pcp_base.specs.declared.file.FileId.TheVariants.{Meta, Index, Volume}
use Rattle.pcp_model.specs.declared.records.Entry.{Entry}
use Rattle.pcp_model.specs.Disk.{Files, Holdings}
use Rattle.pcp_model.specs.LabelFields.{LabelFields}
use Rattle.logger_core.specs.declared.ends.Ends.{Ends}
use Rattle.logger_core.specs.LogSteps.{base_files, entries_put, switch_entry, with_new_volume}
use Rattle.logger_core.specs.Meant.{Meant, AreEnds, IsAt, SurvivesOf, items_in, stood_in}
use Rattle.logger_core.specs.Going.{HasRoomIfAny, LeadsToEnds, LeadIfAny, IsVolumeSure, GrowsBy, GrownTo, FlushIsDone, all_acknowledged}
use Rattle.logger_core.specs.Planning.{due_at, has_stood, switch_at}
use Rattle.logger_core.specs.Runs.{IsReady}
use Rattle.logger_core.specs.Steps.{due, due_in, up_to, last_entry, with_entry}
use Rattle.logger_core.proofs.Dues.{Due, due_is, fitting_is, lead_if_any, room_if_any, some_capped, some_of}
use Rattle.logger_core.specs.Keeps.{Start}
use Rattle.logger_core.specs.Laws.{Survives}
use Rattle.logger_core.proofs.Pointwise.{added_same, entry_same}
use Rattle.logger_core.proofs.Rests.{few_acknowledged, survives_same}

-- ---- the entry of a flush

pub due_room : (e : Ends) → HasRoomIfAny e (due_at e)
due_room e = room_if_any e (due_at e) (λ x is.
    let d : Due e.greatest e.index e.volume e.meta e.length x = due_is e.greatest (has_stood e) e.entry e.index e.volume e.meta e.length x is in
    record { index = d.room; meta = omega (arith, d.meta_small, ap (λ (y : Entry). y.meta) d.is); offset = omega (arith, d.offset_small, ap (λ (y : Entry). y.offset) d.is) })

-- an entry up to the ends, stamped with the greatest stamp, leads there
leads : (m : Meant) (e : Ends) (held : Holdings) (t : Moment) (x : Entry) → IsAt m e held → IsVolumeSure e.volume held → e.greatest ≡ Some t → x ≡ up_to t e.volume e.meta e.length → LeadsToEnds m e held x
leads m e held t x at sure stamped is =
    subst (LeadsToEnds m e held) (sym is) record { volume = refl; at_meta = refl; at_volume = refl; volume_sure = sure; stamped = sym at.ends.greatest ∙ stamped }

pub due_leads : (m : Meant) (e : Ends) (held : Holdings) → IsAt m e held → IsVolumeSure e.volume held → LeadIfAny m e held (due_at e)
due_leads m e held at sure = lead_if_any m e held (due_at e) (λ x is.
    let d : Due e.greatest e.index e.volume e.meta e.length x = due_is e.greatest (has_stood e) e.entry e.index e.volume e.meta e.length x is in
    leads m e held d.t x at sure d.stamped d.is)

-- an item stood by the numbers where one did by what is meant
pub stood_same : (m : Meant) (e : Ends) → AreEnds m e → has_stood e ≡ stood_in m
stood_same m e ends = ap (nat_lt 0) ends.logged ∙ some_capped (m.gone + length (items_in m)) ∙ some_of m.gone (length (items_in m))

-- what is due by the numbers is due by the files
pub due_same : (m : Meant) (e : Ends) → AreEnds m e → due_at e ≡ due_in m.files m.contents e.volume m.greatest (stood_in m)
due_same m e ends =
    ap (λ (g : Option Moment). due g (has_stood e) e.entry e.index e.volume e.meta e.length) ends.greatest
    ∙ ap (λ (b : Bool). due m.greatest b e.entry e.index e.volume e.meta e.length) (stood_same m e ends)
    ∙ ap (λ (o : Option Entry). due m.greatest (stood_in m) o e.index e.volume e.meta e.length) ends.entry
    ∙ ap (λ (n : ℕ). due m.greatest (stood_in m) (last_entry m.contents.entries) n e.volume e.meta e.length) ends.index
    ∙ ap (λ (n : ℕ). due m.greatest (stood_in m) (last_entry m.contents.entries) (length (m.files Index)) e.volume n e.length) ends.meta
    ∙ ap (λ (n : ℕ). due m.greatest (stood_in m) (last_entry m.contents.entries) (length (m.files Index)) e.volume (length (m.files Meta)) n) ends.length_is

module _ (m : Meant) (e synced now : Ends) (held new : Holdings) (at : IsAt m e held) (same : synced.volume ≡ e.volume) (put_same : now.greatest ≡ synced.greatest) (ends : AreEnds (all_acknowledged m) synced)
    (g : GrownTo (all_acknowledged m) [] (option_to_list (due_at synced)) [] (with_entry (due_at synced) m.files) now new) where
  due_is_same : due_at synced ≡ due_in m.files m.contents e.volume m.greatest (stood_in m)
  due_is_same = due_same (all_acknowledged m) synced ends ∙ ap (λ (n : ℕ). due_in m.files m.contents n m.greatest (stood_in m)) same

  pub flushed : FlushIsDone m e now new
  flushed = record {
    new = g.0.new;
    started = g.0.started;
    gone_is = g.0.gone_is;
    greatest_is = sym g.1.greatest ∙ put_same ∙ ends.greatest;
    files_are = λ file. g.0.files_are file ∙ ap (λ o. with_entry o m.files file) due_is_same;
    label_same = g.0.longer.label;
    records_same = g.0.longer.records ∙ append-nil m.contents.records;
    entries_are = g.0.longer.entries ∙ ap (λ (o : Option Entry). m.contents.entries ++ option_to_list o) due_is_same;
    items_same = g.0.longer.items ∙ append-nil (items_in m);
    all = g.0.acknowledged_is;
    at = record { stands = g.0.stands; ends = g.1 };
  }

-- all that stands is acknowledged then
pub all_flushed : (m : Meant) (e after : Ends) (held : Holdings) → (f : FlushIsDone m e after held) → f.new.acknowledged ≡ length (items_in f.new)
all_flushed m e after held f = f.all ∙ ap length (sym f.items_same)

-- ---- the entry of a switch

-- it has room, where there is one
switch_due : (g : Option Moment) (size next meta : ℕ) (x : Entry) → switch_entry g size next meta ≡ Some x → (t : Moment) × (g ≡ Some t) × (x ≡ up_to t next meta 132) × (size + 20 < 2147483648) × (meta < 2147483648)
switch_due None size next meta x is = absurd cc
switch_due (Some t) size next meta x is = let f = fitting_is size (up_to t next meta 132) x is in (t, refl, f.0, f.1, f.2)

pub switch_room : (e : Ends) → HasRoomIfAny e (switch_entry e.greatest e.index e.volume e.meta)
switch_room e = room_if_any e (switch_entry e.greatest e.index e.volume e.meta) (λ x is.
    let d = switch_due e.greatest e.index e.volume e.meta x is in
    record { index = d.3; meta = omega (arith, d.4, ap (λ (y : Entry). y.meta) d.2); offset = omega (arith, ap (λ (y : Entry). y.offset) d.2) })

pub switch_leads : (m : Meant) (e : Ends) (held : Holdings) → IsAt m e held → IsVolumeSure e.volume held → e.length ≡ 132 → LeadIfAny m e held (switch_entry e.greatest e.index e.volume e.meta)
switch_leads m e held at sure size = lead_if_any m e held (switch_entry e.greatest e.index e.volume e.meta) (λ x is.
    let d = switch_due e.greatest e.index e.volume e.meta x is in
    leads m e held d.0 x at sure d.1 (d.2 ∙ ap (λ (n : ℕ). up_to d.0 e.volume e.meta n) (sym size)))

-- ---- a switch

module _ (m : Meant) (l : LabelFields) (e flush : Ends) (mid : Holdings) (same_label : m.contents.label ≡ l) (f : FlushIsDone m e flush mid) (numbers : flush.volume ≡ e.volume) where
  abbrev flushed_files : Files
  flushed_files = with_entry (due_in m.files m.contents e.volume m.greatest (stood_in m)) m.files

  pub opened_files : (file : FileId) → with_new_volume l (flush.volume + 1) f.new.files file ≡ with_new_volume m.contents.label (e.volume + 1) flushed_files file
  opened_files file =
      ap (λ (n : ℕ). with_new_volume l (n + 1) f.new.files file) numbers ∙ ap (λ x. with_new_volume x (e.volume + 1) f.new.files file) (sym same_label)
      ∙ added_same (Volume (e.volume + 1)) (label m.contents.label (pos (e.volume + 1))) f.new.files flushed_files f.files_are file

  module _ (open_ : Ends) (held : Holdings) (o : GrownTo f.new [] [] [] (with_new_volume l (flush.volume + 1) f.new.files) open_ held) (open_number : open_.volume ≡ flush.volume + 1) (open_greatest : open_.greatest ≡ flush.greatest) where
    number_is : open_.volume ≡ e.volume + 1
    number_is = open_number ∙ ap (λ (n : ℕ). n + 1) numbers

    greatest_is : open_.greatest ≡ m.greatest
    greatest_is = open_greatest ∙ f.at.ends.greatest ∙ f.greatest_is

    opened_are : (file : FileId) → o.0.new.files file ≡ with_new_volume m.contents.label (e.volume + 1) flushed_files file
    opened_are file = o.0.files_are file ∙ opened_files file

    index_is : open_.index ≡ length (flushed_files Index)
    index_is = o.1.index ∙ ap length (opened_are Index)

    meta_is : open_.meta ≡ length (flushed_files Meta)
    meta_is = o.1.meta ∙ ap length (opened_are Meta)

    entry_is : switch_entry open_.greatest open_.index open_.volume open_.meta ≡ switch_entry m.greatest (length (flushed_files Index)) (e.volume + 1) (length (flushed_files Meta))
    entry_is =
        ap (λ (t : Option Moment). switch_entry t open_.index open_.volume open_.meta) greatest_is
        ∙ ap (λ (n : ℕ). switch_entry m.greatest n open_.volume open_.meta) index_is
        ∙ ap (λ (n : ℕ). switch_entry m.greatest (length (flushed_files Index)) n open_.meta) number_is
        ∙ ap (λ (n : ℕ). switch_entry m.greatest (length (flushed_files Index)) (e.volume + 1) n) meta_is

    pub switched_base : (file : FileId) → with_entry (switch_entry open_.greatest open_.index open_.volume open_.meta) o.0.new.files file ≡ base_files true m.files m.contents e.volume m.greatest (stood_in m) file
    switched_base file =
        ap (λ x. with_entry x o.0.new.files file) entry_is
        ∙ entry_same (switch_entry m.greatest (length (flushed_files Index)) (e.volume + 1) (length (flushed_files Meta))) o.0.new.files (with_new_volume m.contents.label (e.volume + 1) flushed_files) opened_are file

    module _ (now : Ends) (new : Holdings) (now_number : now.volume ≡ open_.volume) (now_greatest : now.greatest ≡ open_.greatest) (few : m.acknowledged ≤ length (items_in m))
        (g : GrownTo o.0.new [] (option_to_list (switch_entry open_.greatest open_.index open_.volume open_.meta)) [] (with_entry (switch_entry open_.greatest open_.index open_.volume open_.meta) o.0.new.files) now new) where
      switched_entries : g.0.new.contents.entries ≡ m.contents.entries ++ entries_put true m.files m.contents e.volume m.greatest (stood_in m)
      switched_entries =
          g.0.longer.entries ∙ ap (λ x. o.0.new.contents.entries ++ option_to_list x) entry_is
          ∙ ap (λ es. es ++ option_to_list (switch_entry m.greatest (length (flushed_files Index)) (e.volume + 1) (length (flushed_files Meta)))) (o.0.longer.entries ∙ append-nil f.new.contents.entries ∙ f.entries_are)
          ∙ append_assoc m.contents.entries (option_to_list (due_in m.files m.contents e.volume m.greatest (stood_in m))) (option_to_list (switch_entry m.greatest (length (flushed_files Index)) (e.volume + 1) (length (flushed_files Meta))))

      pub switched_ready : IsReady m e now true new
      switched_ready = record {
        new = g.0.new;
        started = g.0.started ∙ o.0.started ∙ f.started;
        gone_is = g.0.gone_is ∙ o.0.gone_is ∙ f.gone_is;
        greatest_is = sym g.1.greatest ∙ now_greatest ∙ greatest_is;
        label_same = g.0.longer.label ∙ o.0.longer.label ∙ f.label_same;
        records_same = g.0.longer.records ∙ append-nil o.0.new.contents.records ∙ o.0.longer.records ∙ append-nil f.new.contents.records ∙ f.records_same;
        entries_are = switched_entries;
        items_same = g.0.longer.items ∙ append-nil (items_in o.0.new) ∙ o.0.longer.items ∙ append-nil (items_in f.new) ∙ f.items_same;
        still = omega (arith, few, g.0.acknowledged_is, o.0.acknowledged_is, f.all);
        acknowledged_is = g.0.acknowledged_is ∙ o.0.acknowledged_is ∙ f.all;
        files_are = λ file. g.0.files_are file ∙ switched_base file;
        number = now_number ∙ number_is;
        at = record { stands = g.0.stands; ends = g.1 };
      }

pub ready_already : (m : Meant) (e : Ends) (held : Holdings) → IsAt m e held → IsReady m e e false held
ready_already m e held at = record { new = m; started = refl; gone_is = refl; greatest_is = refl; label_same = refl; records_same = refl; entries_are = sym (append-nil m.contents.entries); items_same = refl; still = omega arith; acknowledged_is = refl; files_are = λ file. refl; number = refl; at = at }

-- ---- the same with what was found due

pub ok_map : {T E : Type 0} (r : Result T E) (P Q : T → Type 0) → IfOk r P → ((x : T) → P x → Q x) → IfOk r Q
ok_map (Ok x) P Q was f = f x was
ok_map (Err e) P Q was f = tt

pub found_room : (e : Ends) (o : Option Entry) → o ≡ due_at e → HasRoomIfAny e o
found_room e o is = subst (HasRoomIfAny e) (sym is) (due_room e)

pub found_leads : (m : Meant) (e : Ends) (held : Holdings) (o : Option Entry) → o ≡ due_at e → IsAt m e held → IsVolumeSure e.volume held → LeadIfAny m e held o
found_leads m e held o is at sure = subst (LeadIfAny m e held) (sym is) (due_leads m e held at sure)

pub flush_ok : {E : Type 0} (m : Meant) (e synced : Ends) (held new : Holdings) (o : Option Entry) (result : Result Ends E) → o ≡ due_at synced → IsAt m e held → synced.volume ≡ e.volume → AreEnds (all_acknowledged m) synced
    → IfOk result (λ now. (now.volume ≡ synced.volume) × (now.greatest ≡ synced.greatest) × (now.meta ≡ synced.meta) × (now.length ≡ synced.length)) → IfOk result (λ now. GrownTo (all_acknowledged m) [] (option_to_list o) [] (with_entry o m.files) now new)
    → IfOk result (λ now. FlushIsDone m e now new)
flush_ok m e synced held new o (Ok now) is at same ends kept g =
    flushed m e synced now held new at same kept.1 ends (subst (λ (p : Option Entry). GrownTo (all_acknowledged m) [] (option_to_list p) [] (with_entry p m.files) now new) is g)
flush_ok m e synced held new o (Err x) is at same ends kept g = tt

-- nothing was put
pub none_put : (m : Meant) (e : Ends) (held : Holdings) → IsAt m e held → GrownTo m [] [] [] m.files e held
none_put m e held at = (
  record {
    new = m;
    started = refl;
    acknowledged_is = refl;
    gone_is = refl;
    longer = record { label = refl; records = sym (append-nil m.contents.records); entries = sym (append-nil m.contents.entries); items = sym (append-nil (items_in m)) };
    files_are = λ file. refl;
    stands = at.stands;
  },
  at.ends,
)

-- ---- what survives of a later archive survives of the first

later_survives : (m n : Meant) → n.start ≡ m.start → items_in n ≡ items_in m → m.acknowledged ≤ n.acknowledged → (image : Files) → SurvivesOf n image → SurvivesOf m image
later_survives m n started items le image w = subst (λ (s : Start). Survives s (items_in m) m.acknowledged image) started (survives_same n.start (items_in n) (items_in m) n.acknowledged m.acknowledged image items w le)

pub flushed_survives : (m : Meant) (e after : Ends) (held new : Holdings) → IsAt m e held → (f : FlushIsDone m e after new) → (image : Files) → SurvivesOf f.new image → SurvivesOf m image
flushed_survives m e after held new at f image w = later_survives m f.new f.started f.items_same (omega (arith, few_acknowledged m e.volume held at.stands, f.all)) image w

pub grown_survives : (m : Meant) (files : Files) (number : ℕ) (held : Holdings) (g : GrowsBy m [] [] [] files number held) → (image : Files) → SurvivesOf g.new image → SurvivesOf m image
grown_survives m files number held g image w = later_survives m g.new g.started (g.longer.items ∙ append-nil (items_in m)) (omega (arith, g.acknowledged_is)) image w

pub switch_found_room : (e : Ends) (o : Option Entry) → o ≡ switch_at e → HasRoomIfAny e o
switch_found_room e o is = subst (HasRoomIfAny e) (sym is) (switch_room e)

pub switch_found_leads : (m : Meant) (e : Ends) (held : Holdings) (o : Option Entry) → o ≡ switch_at e → IsAt m e held → IsVolumeSure e.volume held → e.length ≡ 132 → LeadIfAny m e held o
switch_found_leads m e held o is at sure size = subst (LeadIfAny m e held) (sym is) (switch_leads m e held at sure size)

pub switch_ok : {E : Type 0} (m : Meant) (l : LabelFields) (e flush open_ : Ends) (held mid mid2 new : Holdings) (found : Option Entry) (result : Result Ends E) → IsAt m e held → m.contents.label ≡ l → (f : FlushIsDone m e flush mid) → (o : GrownTo f.new [] [] [] (with_new_volume l (flush.volume + 1) f.new.files) open_ mid2)
    → flush.volume ≡ e.volume → open_.volume ≡ flush.volume + 1 → open_.greatest ≡ flush.greatest → found ≡ switch_at open_
    → IfOk result (λ now. GrownTo o.0.new [] (option_to_list found) [] (with_entry found o.0.new.files) now new) → IfOk result (λ now. (now.volume ≡ open_.volume) × (now.greatest ≡ open_.greatest) × (now.meta ≡ open_.meta) × (now.length ≡ open_.length)) → IfOk result (λ now. IsReady m e now true new)
switch_ok m l e flush open_ held mid mid2 new found (Ok now) at same f o numbers number stamp is g kept =
    switched_ready m l e flush mid same f numbers open_ mid2 o number stamp now new kept.0 kept.1 (few_acknowledged m e.volume held at.stands)
    (subst (λ (p : Option Entry). GrownTo o.0.new [] (option_to_list p) [] (with_entry p o.0.new.files) now new) is g)
switch_ok m l e flush open_ held mid mid2 new found (Err x) at same f o numbers number stamp is g kept = tt
