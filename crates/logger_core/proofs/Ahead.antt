-- What a run leaves, on a disk that is only thought of: each step of its writing is made there, and none fails.
use Rattle.std.proofs.Common.{◌≡◌, ℕ, pos, negsuc, ◌+◌, ◌<◌, Bool, true, false, List, [], ◌∷◌, Option, None, Some, refl, sym, ap, ◌∙◌, subst, arith, cond}
use Rattle.std.specs.Prelude.{IfSome, option_to_list}
use Rattle.pcp_base.specs.Time.{Moment, IsMoment}
use Rattle.pcp_base.specs.declared.file.FileId.{FileId}
use Rattle.pcp_base.specs.declared.file.FileId.TheVariants.{Meta, Index, Volume}
use Rattle.pcp_model.specs.declared.records.Entry.{Entry}
use Rattle.pcp_model.specs.declared.records.MetaRecord.{MetaRecord}
use Rattle.pcp_model.specs.Disk.{Held, Holdings}
use Rattle.pcp_model.specs.LabelFields.{LabelFields}
use Rattle.pcp_model.specs.Labels.{label}
use Rattle.pcp_model.specs.Records.{FitsEntry, entry}
use Rattle.pcp_model.specs.Written.{with_added}
use Rattle.archive_frame.specs.Labels.{LabelInRange}
use Rattle.pcp_outside.specs.Causes.{shown_count}
use Rattle.pcp_outside.specs.Devices.{Becomes, held_after_append, held_after_sync, made_sure, with_file}
use Rattle.pcp_outside.proofs.Images.{same_file-refl}
use Rattle.logger_core.specs.declared.ends.Ends.{Ends}
use Rattle.logger_core.specs.declared.groups.Run.{Run}
use Rattle.logger_core.specs.Going.{FlushIsDone, GrownTo, GrowsBy, HasRoomIfAny, IsVolumeSure, LeadIfAny, all_acknowledged, all_counted}
use Rattle.logger_core.specs.Grouping.{Told, AreAllEnough, samples_of}
use Rattle.logger_core.specs.Held.{IsRunOf, MayRun, RunWritten, after_run}
use Rattle.logger_core.specs.LogSteps.{switch_entry, with_new_volume, with_run}
use Rattle.logger_core.specs.Meant.{Meant, IsAt}
use Rattle.logger_core.specs.Planning.{due_at, flushed_ends, has_stood, opened_ends, ready_ends, switch_at, switched_ends, with_put}
use Rattle.logger_core.specs.Runs.{AreItemsToCome, IsReady}
use Rattle.logger_core.specs.Steps.{up_to, with_entry}
use Rattle.logger_core.proofs.Dues.{Due, due_is, fitting_is}
use Rattle.logger_core.proofs.EntryPut.{entry_appended}
use Rattle.logger_core.proofs.ItemsPut.{items_grown}
use Rattle.logger_core.proofs.Opened.{label_grown, volume_now}
use Rattle.logger_core.proofs.Planned.{put_volume}
use Rattle.logger_core.proofs.RecordsPut.{records_grown}
use Rattle.logger_core.proofs.Rests.{few_acknowledged, synced_at}
use Rattle.logger_core.proofs.RunPut.{items_come, run_ends, run_grown}
use Rattle.logger_core.proofs.RunsWritten.{first_many, may_run, run_written}
use Rattle.logger_core.proofs.Timely.{label_in_range}
use Rattle.logger_core.proofs.Turned.{all_flushed, due_leads, due_room, flushed, none_put, ready_already, switch_leads, switch_room, switched_ready}

-- a file of it becomes this
pub set_is : (file : FileId) (h : Held) (held : Holdings) → Becomes file h held (with_file file h held)
set_is file h held = record {
  this = ap (λ b. cond b h (held file)) (same_file-refl file);
  others = λ g other. ap (λ b. cond b h (held g)) other;
}

put_greatest : (o : Option Entry) (e : Ends) → (with_put o e).greatest ≡ e.greatest
put_greatest None e = refl
put_greatest (Some x) e = refl

-- the greatest stamp is a moment
greatest_moment : (m : Meant) (e : Ends) (held : Holdings) (t : Moment) → IsAt m e held → e.greatest ≡ Some t → IsMoment t
greatest_moment m e held t at is = subst (λ (o : Option Moment). IfSome o IsMoment) (sym at.ends.greatest ∙ is) at.ends.moment

-- an entry is put, if there is one
put_ahead : (m : Meant) (e : Ends) (held : Holdings) (o : Option Entry) → IsAt m e held → LeadIfAny m e held o → e.volume < 2147483648 → HasRoomIfAny e o → ((x : Entry) → o ≡ Some x → IsMoment x.stamp)
    → (new : Holdings) × GrownTo m [] (option_to_list o) [] (with_entry o m.files) (with_put o e) new × ((n : ℕ) → IsVolumeSure n held → IsVolumeSure n new)
put_ahead m e held None at lead low room moment = (held, none_put m e held at, λ n sure. sure)
put_ahead m e held (Some x) at lead low room moment =
    let fits : FitsEntry x = record { moment = moment x refl; volume = omega (arith, lead.volume, low); meta = room.meta; offset = room.offset } in
    let change : Becomes Index (held_after_append (held Index) (entry x)) held (with_file Index (held_after_append (held Index) (entry x)) held) = set_is Index (held_after_append (held Index) (entry x)) held in (
      with_file Index (held_after_append (held Index) (entry x)) held,
      entry_appended m e held x at fits lead (entry x) (with_file Index (held_after_append (held Index) (entry x)) held) refl change,
      λ n sure. ap (λ (h : Held). h.rest) (change.others (Volume n) refl) ∙ sure,
    )

-- ---- a switch

module _ (m : Meant) (e : Ends) (held : Holdings) (at : IsAt m e held) (low : e.volume < 2147483648) where
  abbrev synced : Holdings
  synced = with_file (Volume e.volume) (held_after_sync (held (Volume e.volume))) held

  synced_is : Becomes (Volume e.volume) (held_after_sync (held (Volume e.volume))) held synced
  synced_is = set_is (Volume e.volume) (held_after_sync (held (Volume e.volume))) held

  now_at : IsAt (all_acknowledged m) (all_counted e) synced
  now_at = synced_at m e held synced at synced_is

  now_sure : IsVolumeSure e.volume synced
  now_sure = ap (λ (h : Held). h.rest) synced_is.this

  due_moment : (x : Entry) → due_at (all_counted e) ≡ Some x → IsMoment x.stamp
  due_moment x is =
      let d : Due e.greatest e.index e.volume e.meta e.length x = due_is e.greatest (has_stood e) e.entry e.index e.volume e.meta e.length x is in
      subst IsMoment (ap (λ (y : Entry). y.stamp) (sym d.is)) (greatest_moment m e held d.t at d.stamped)

  put : (new : Holdings) × GrownTo (all_acknowledged m) [] (option_to_list (due_at (all_counted e))) [] (with_entry (due_at (all_counted e)) m.files) (flushed_ends e) new × ((n : ℕ) → IsVolumeSure n synced → IsVolumeSure n new)
  put = put_ahead (all_acknowledged m) (all_counted e) synced (due_at (all_counted e)) now_at (due_leads (all_acknowledged m) (all_counted e) synced now_at now_sure) low (due_room (all_counted e)) due_moment

  flush_ahead : (new : Holdings) × FlushIsDone m e (flushed_ends e) new × IsVolumeSure e.volume new
  flush_ahead = (put.0, flushed m e (all_counted e) (flushed_ends e) held put.0 at refl (put_greatest (due_at (all_counted e)) (all_counted e)) now_at.ends put.1, put.2 e.volume now_sure)

  module _ (next_low : e.volume + 1 < 2147483648) where
    abbrev fl : Ends
    fl = flushed_ends e

    abbrev mid : Holdings
    mid = flush_ahead.0

    f : FlushIsDone m e fl mid
    f = flush_ahead.1

    same_volume : fl.volume ≡ e.volume
    same_volume = put_volume (due_at (all_counted e)) (all_counted e)

    sure : IsVolumeSure fl.volume mid
    sure = subst (λ (n : ℕ). IsVolumeSure n mid) (sym same_volume) flush_ahead.2

    abbrev l : LabelFields
    l = m.contents.label

    range : LabelInRange l (pos (fl.volume + 1))
    range = label_in_range at.stands.keeps.whole.head l (negsuc 0) (fl.volume + 1) at.stands.keeps.whole.label (omega (arith, same_volume, next_low))

    abbrev with_label : Holdings
    with_label = with_file (Volume (fl.volume + 1)) (made_sure (mid (Volume (fl.volume + 1))) (label l (pos (fl.volume + 1)))) mid

    label_is : Becomes (Volume (fl.volume + 1)) (made_sure (mid (Volume (fl.volume + 1))) (label l (pos (fl.volume + 1)))) mid with_label
    label_is = set_is (Volume (fl.volume + 1)) (made_sure (mid (Volume (fl.volume + 1))) (label l (pos (fl.volume + 1)))) mid

    opened : GrownTo f.new [] [] [] (with_new_volume l (fl.volume + 1) f.new.files) (opened_ends fl) with_label
    opened = label_grown f.new fl mid l (label l (pos (fl.volume + 1))) f.at sure (all_flushed m e fl mid f) f.label_same refl range with_label label_is

    opened_sure : IsVolumeSure (fl.volume + 1) with_label
    opened_sure = volume_now f.new fl mid l (label l (pos (fl.volume + 1))) f.at sure (all_flushed m e fl mid f) f.label_same refl range with_label label_is

    abbrev op : Ends
    op = opened_ends fl

    opened_at : IsAt opened.0.new op with_label
    opened_at = record { stands = opened.0.stands; ends = opened.1 }

    stamp_of_switch : (g : Option Moment) (size next meta : ℕ) (x : Entry) → switch_entry g size next meta ≡ Some x → (t : Moment) × (g ≡ Some t) × (x.stamp ≡ t)
    stamp_of_switch None size next meta x is = absurd cc
    stamp_of_switch (Some t) size next meta x is = (t, refl, ap (λ (y : Entry). y.stamp) (fitting_is size (up_to t next meta 132) x is).0)

    switch_moment : (x : Entry) → switch_at op ≡ Some x → IsMoment x.stamp
    switch_moment x is =
        let s : (t : Moment) × (op.greatest ≡ Some t) × (x.stamp ≡ t) = stamp_of_switch op.greatest op.index op.volume op.meta x is in
        subst IsMoment (sym s.2) (greatest_moment opened.0.new op with_label s.0 opened_at s.1)

    led : (new : Holdings) × GrownTo opened.0.new [] (option_to_list (switch_at op)) [] (with_entry (switch_at op) opened.0.new.files) (switched_ends e) new × ((n : ℕ) → IsVolumeSure n with_label → IsVolumeSure n new)
    led = put_ahead opened.0.new op with_label (switch_at op) opened_at (switch_leads opened.0.new op with_label opened_at opened_sure refl) (omega (arith, same_volume, next_low)) (switch_room op) switch_moment

    switch_ahead : (new : Holdings) × IsReady m e (switched_ends e) true new
    switch_ahead = (
      led.0,
      switched_ready m l e fl mid refl f same_volume op with_label opened refl refl (switched_ends e) led.0 (put_volume (switch_at op) op) (put_greatest (switch_at op) op) (few_acknowledged m e.volume held at.stands) led.1,
    )

pub ready_ahead : (m : Meant) (e : Ends) (held : Holdings) (b : Bool) → IsAt m e held → e.volume < 2147483648 → (b ≡ true → e.volume + 1 < 2147483648) → (new : Holdings) × IsReady m e (ready_ends b e) b new
ready_ahead m e held false at low next = (held, ready_already m e held at)
ready_ahead m e held true at low next = switch_ahead m e held at low (next refl)

-- ---- a run

module _ (m : Meant) (e : Ends) (held : Holdings) (limit : ℕ) (run : Run) (group : List Told) (now : List MetaRecord) (after : Ends) (at : IsAt m e held) (low : e.volume < 2147483648) (r : IsRunOf m.contents.records e limit run group now after) (enough : AreAllEnough group) where
  abbrev start : Ends
  start = ready_ends run.crossing e

  abbrev ready_part : (new : Holdings) × IsReady m e start run.crossing new
  ready_part = ready_ahead m e held run.crossing at low r.bounded.next

  abbrev begun : Holdings
  begun = ready_part.0

  abbrev ready : IsReady m e start run.crossing begun
  ready = ready_part.1

  abbrev may : MayRun m ready.new e.volume start.volume limit run group now
  may = may_run m e start held begun limit run group now after at r enough refl ready

  abbrev with_records : Holdings
  with_records = with_file Meta (made_sure (begun Meta) run.records) begun

  abbrev first : GrowsBy ready.new may.records [] [] (with_added Meta run.records ready.new.files) start.volume with_records
  first = records_grown ready.new start.volume begun may.come.meta_payloads may.records run.records ready.at.stands may.come.meta_is may.come.come with_records (set_is Meta (made_sure (begun Meta) run.records) begun)

  come : AreItemsToCome first.new may.come.payloads (samples_of group)
  come = items_come ready.new start begun with_records may.records (samples_of group) run.records run.items ready.at may.come first

  abbrev with_items : Holdings
  with_items = with_file (Volume start.volume) (held_after_append (with_records (Volume start.volume)) run.items) with_records

  abbrev second : GrowsBy first.new [] [] (samples_of group) (with_added (Volume start.volume) run.items first.new.files) start.volume with_items
  second = items_grown first.new start.volume with_records may.come.payloads (samples_of group) run.items first.stands may.come.items_are come with_items (set_is (Volume start.volume) (held_after_append (with_records (Volume start.volume)) run.items) with_records)

  grown : GrownTo ready.new may.records [] (samples_of group) (with_run start.volume run.records run.items ready.new.files) (after_run e run) with_items
  grown = (
    run_grown ready.new start begun with_records may.records (samples_of group) run.records run.items ready.at may.come first with_items second run.stamp,
    run_ends ready.new start begun with_records may.records (samples_of group) run.records run.items ready.at may.come first with_items second run.stamp run.count (shown_count (start.logged + run.count)) may.last (first_many group r.count_is) refl,
  )

  pub run_ahead : (new : Holdings) × RunWritten m e after limit (run ∷ []) group now new
  run_ahead = (with_items, subst (λ (x : Ends). RunWritten m e x limit (run ∷ []) group now with_items) (sym r.after_is) (run_written m e start held begun limit run group now after at r enough refl ready (after_run e run) with_items refl refl grown))
