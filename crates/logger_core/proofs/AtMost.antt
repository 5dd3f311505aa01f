-- No more stands on the disk than what was to be written.
use Rattle.std.proofs.Common.{◌≡◌, ⊎_elim, ℕ, Bool, true, false, List, [], ◌++◌, length, take, drop, Option, Some, None, refl, sym, ap, ◌∙◌, subst, append_assoc, cond}
use Rattle.std.specs.Prelude.{Result, Ok, Err, pos}
use Rattle.std.proofs.lemmas.List.{append-nil, take-append-drop}
use Rattle.pcp_base.specs.Time.{Moment}
use Rattle.pcp_base.specs.declared.file.FileId.{FileId}
use Rattle.pcp_base.specs.declared.file.FileId.TheVariants.{Meta, Index, Volume}
use Rattle.pcp_model.specs.declared.records.Entry.{Entry}
use Rattle.pcp_model.specs.Disk.{Files, Held, Holdings, bytes_of}
use Rattle.pcp_model.specs.LabelFields.{LabelFields}
use Rattle.pcp_model.specs.Labels.{label}
use Rattle.pcp_model.specs.Records.{entry}
use Rattle.pcp_model.specs.Written.{same_file, with_added}
use Rattle.pcp_outside.specs.Devices.{Appends, AppendsSure, Becomes, Syncs, held_after_append, held_after_sync, made_sure}
use Rattle.pcp_outside.proofs.Images.{same_or_other, same_file_is, same_file-refl, bytes-appended, bytes-made_sure, bytes-synced}
use Rattle.logger_core.specs.Going.{AreHeld, HoldsNoMore}
use Rattle.logger_core.specs.LogSteps.{switch_entry, with_new_volume, with_next, with_run}
use Rattle.logger_core.specs.Steps.{with_entry}
use Rattle.logger_core.proofs.Pointwise.{other_added}

-- ---- longer files

abbrev pub AreLonger : Files → Files → Type 0
AreLonger f h = (file : FileId) → (more : List ℕ) × (h file ≡ f file ++ more)

pub most_same : (files : Files) (held : Holdings) → AreHeld files held → HoldsNoMore files held
most_same files held are file = ([], sym (are file) ∙ sym (append-nil (bytes_of (held file))))

pub most_longer : (f h : Files) (held : Holdings) → AreLonger f h → HoldsNoMore f held → HoldsNoMore h held
most_longer f h held longer most file =
    ((most file).0 ++ (longer file).0, (longer file).1 ∙ ap (λ t. t ++ (longer file).0) (most file).1 ∙ append_assoc (bytes_of (held file)) (most file).0 (longer file).0)

pub most_as : (f h : Files) (held : Holdings) → ((file : FileId) → f file ≡ h file) → HoldsNoMore f held → HoldsNoMore h held
most_as f h held same most file = ((most file).0, sym (same file) ∙ (most file).1)

pub longer_then : (f h k : Files) → AreLonger f h → AreLonger h k → AreLonger f k
longer_then f h k first second file =
    ((first file).0 ++ (second file).0, (second file).1 ∙ ap (λ t. t ++ (second file).0) (first file).1 ∙ append_assoc (f file) (first file).0 (second file).0)

longer_or_same : (b : Bool) (t bytes : List ℕ) → (more : List ℕ) × (cond b (t ++ bytes) t ≡ t ++ more)
longer_or_same true t bytes = (bytes, refl)
longer_or_same false t bytes = ([], sym (append-nil t))

pub added_longer : (file : FileId) (bytes : List ℕ) (f : Files) → AreLonger f (with_added file bytes f)
added_longer file bytes f g = longer_or_same (same_file file g) (f g) bytes

pub entry_longer : (o : Option Entry) (f : Files) → AreLonger f (with_entry o f)
entry_longer None f g = ([], sym (append-nil (f g)))
entry_longer (Some x) f g = added_longer Index (entry x) f g

pub next_longer : (l : LabelFields) (next : ℕ) (greatest : Option Moment) (f : Files) → AreLonger f (with_next l next greatest f)
next_longer l next greatest f =
    longer_then f (with_new_volume l next f) (with_next l next greatest f) (added_longer (Volume next) (label l (pos next)) f)
    (entry_longer (switch_entry greatest (length (f Index)) next (length (f Meta))) (with_new_volume l next f))

pub run_longer : (number : ℕ) (records items : List ℕ) (f : Files) → AreLonger f (with_run number records items f)
run_longer number records items f = longer_then f (with_added Meta records f) (with_run number records items f) (added_longer Meta records f) (added_longer (Volume number) items (with_added Meta records f))

-- ---- the calls of a disk

this_added : (file : FileId) (bytes : List ℕ) (f : Files) → with_added file bytes f file ≡ f file ++ bytes
this_added file bytes f = ap (λ b. cond b (f file ++ bytes) (f file)) (same_file-refl file)

module _ (files : Files) (old new : Holdings) (are : AreHeld files old) (file : FileId) where
  most_put : (h : Held) (bytes part more : List ℕ) → Becomes file h old new → bytes_of h ≡ bytes_of (old file) ++ part → part ++ more ≡ bytes → HoldsNoMore (with_added file bytes files) new
  most_put h bytes part more change is parts g = ⊎_elim
      (λ (same : same_file file g ≡ true). subst (λ (f : FileId). (rest : List ℕ) × (with_added file bytes files f ≡ bytes_of (new f) ++ rest)) (same_file_is file g same) (
        more,
        this_added file bytes files ∙ ap (λ t. files file ++ t) (sym parts) ∙ sym (append_assoc (files file) part more) ∙ ap (λ t. (t ++ part) ++ more) (sym (are file)) ∙ ap (λ t. t ++ more) (sym is) ∙ ap (λ (x : Held). bytes_of x ++ more) (sym change.this),
      ))
      (λ (other : same_file file g ≡ false).
      ([], other_added file bytes files g other ∙ sym (are g) ∙ ap bytes_of (sym (change.others g other)) ∙ sym (append-nil (bytes_of (new g)))))
      (same_or_other file g)

  pub most_appended : {T E : Type 0} (bytes : List ℕ) (result : Result T E) → Appends file bytes old new result → HoldsNoMore (with_added file bytes files) new
  most_appended bytes (Ok v) change = most_put (held_after_append (old file) bytes) bytes bytes [] change (bytes-appended (old file) bytes) (append-nil bytes)
  most_appended bytes (Err e) change = most_put (held_after_append (old file) (take change.0 bytes)) bytes (take change.0 bytes) (drop change.0 bytes) change.1 (bytes-appended (old file) (take change.0 bytes)) (take-append-drop change.0 bytes)

  pub most_append_synced : {T E : Type 0} (bytes : List ℕ) (result : Result T E) → AppendsSure file bytes old new result → HoldsNoMore (with_added file bytes files) new
  most_append_synced bytes (Ok v) change = most_put (made_sure (old file) bytes) bytes bytes [] change (bytes-made_sure (old file) bytes) (append-nil bytes)
  most_append_synced bytes (Err e) change = ⊎_elim
      (λ (rest : Becomes file (held_after_append (old file) (take change.0 bytes)) old new).
      most_put (held_after_append (old file) (take change.0 bytes)) bytes (take change.0 bytes) (drop change.0 bytes) rest (bytes-appended (old file) (take change.0 bytes)) (take-append-drop change.0 bytes))
      (λ (sure : Becomes file (made_sure (old file) (take change.0 bytes)) old new).
      most_put (made_sure (old file) (take change.0 bytes)) bytes (take change.0 bytes) (drop change.0 bytes) sure (bytes-made_sure (old file) (take change.0 bytes)) (take-append-drop change.0 bytes))
      change.1

  synced_held : Becomes file (held_after_sync (old file)) old new → AreHeld files new
  synced_held change g = ⊎_elim
      (λ (same : same_file file g ≡ true). subst (λ (f : FileId). bytes_of (new f) ≡ files f) (same_file_is file g same) (ap bytes_of change.this ∙ bytes-synced (old file) ∙ are file))
      (λ (other : same_file file g ≡ false). ap bytes_of (change.others g other) ∙ are g) (same_or_other file g)

  pub most_synced : {T E : Type 0} (result : Result T E) → Syncs file old new result → HoldsNoMore files new
  most_synced (Ok v) change = most_same files new (synced_held change)
  most_synced (Err e) change = ⊎_elim (λ (same : new ≡ old). subst (HoldsNoMore files) (sym same) (most_same files old are)) (λ (synced : Becomes file (held_after_sync (old file)) old new). most_same files new (synced_held synced)) change
