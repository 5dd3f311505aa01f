-- Results that are logged one behind another lead to one archive.
use Rattle.std.proofs.Common.{zero, suc, ◌≡◌, ℕ, ◌+◌, Bool, List, [], ◌∷◌, ◌++◌, length, take, Option, refl, sym, ap, ap₂, ◌∙◌, subst}
use Rattle.std.specs.Prelude.{if◌then◌else◌, nat_lt, ◌||◌}
use Rattle.std.proofs.Math.Path.{fun_ext}
use Rattle.pcp_base.specs.Time.{Moment}
use Rattle.pcp_base.specs.declared.file.FileId.{FileId}
use Rattle.pcp_base.specs.declared.file.FileId.TheVariants.{Meta, Index, Volume}
use Rattle.pcp_base.specs.declared.result.Item.{Item}
use Rattle.pcp_base.specs.declared.result.Item.TheVariants.{Sample}
use Rattle.pcp_base.specs.declared.result.PmResult.{PmResult}
use Rattle.pcp_model.specs.declared.records.Entry.{Entry}
use Rattle.pcp_model.specs.declared.records.MetaRecord.{MetaRecord}
use Rattle.pcp_model.specs.Archive.{IsArchive, items_of}
use Rattle.pcp_model.specs.Disk.{Files}
use Rattle.pcp_model.specs.Frame.{frame}
use Rattle.pcp_model.specs.LabelFields.{LabelFields}
use Rattle.pcp_model.specs.Payload.{payload, payload_length}
use Rattle.archive_meta.specs.declared.facts.Facts.{Facts}
use Rattle.archive_meta.specs.Missing.{AreMissing, framed_records}
use Rattle.logger_core.specs.Grouping.{LogsAll, LogsOne}
use Rattle.logger_core.specs.LogSteps.{base_number, crosses, switch_entries, with_next, with_run}
use Rattle.logger_core.specs.Meant.{Meant, items_in, stood_in}
use Rattle.logger_core.specs.Steps.{due, greatest_in, has_item, last_entry, with_entry}
use Rattle.logging_session.specs.Events.{Lead, logged_all}
use Rattle.logging_session.specs.Keeping.{LogsEach, meant_of, told_of}
use Rattle.logging_session.specs.Written.{Report, Stand, Written}
use Rattle.logging_session.proofs.OneReason.{one_missing}

-- a logger means what this archive holds
pub record MeansSame (m : Meant) (number : ℕ) (w : Written) : Type 0 where
  pub files : m.files ≡ w.files
  pub volume : number ≡ w.volume
  pub label : m.contents.label ≡ w.contents.label
  pub records : m.contents.records ≡ w.contents.records
  pub entries : m.contents.entries ≡ w.contents.entries
  pub items : items_in m ≡ items_of w.contents.volumes
  pub gone : m.gone ≡ 0
  pub greatest : m.greatest ≡ greatest_in w.contents

-- what a result is logged by
record Step : Type 0 where
  pub files : Files
  pub label : LabelFields
  pub entries : List Entry
  pub stood : Bool
  pub number : ℕ
  pub crossing : Bool
  pub greatest : Option Moment
  pub missing : List MetaRecord

abbrev step_of : Meant → ℕ → Bool → List MetaRecord → Step
step_of m number crossing missing = record {
  files = m.files;
  label = m.contents.label;
  entries = m.contents.entries;
  stood = stood_in m;
  number = number;
  crossing = crossing;
  greatest = m.greatest;
  missing = missing;
}

abbrev due_of : Step → Option Entry
due_of s = due s.greatest s.stood (last_entry s.entries) (length (s.files Index)) s.number (length (s.files Meta)) (length (s.files (Volume s.number)))

abbrev files_after : PmResult → Step → Files
files_after answer s =
    with_run (base_number s.crossing s.number) (framed_records s.missing) (frame (payload answer)) (if s.crossing then with_next s.label (s.number + 1) s.greatest (with_entry (due_of s) s.files) else s.files)

abbrev entries_after : Step → List Entry
entries_after s = s.entries ++ (if s.crossing then switch_entries (due_of s) s.greatest (length (with_entry (due_of s) s.files Index)) (s.number + 1) (length (with_entry (due_of s) s.files Meta)) else [])

-- ---- one result

module _ (limit : ℕ) (answer : PmResult) (facts : Facts) (first w v : Written) (sure now : ℕ) (m n : Meant) (number next : ℕ) (same : MeansSame m number w) (is : IsArchive w.files w.contents) (x : LogsOne m number limit answer facts n next) (y : LogsOne (meant_of first w sure) w.volume limit answer facts (meant_of first v now) v.volume) where
  stood : stood_in m ≡ has_item w.contents
  stood = ap₂ (λ (n : ℕ) (xs : List Item). nat_lt 0 n || nat_lt 0 (length xs)) same.gone same.items

  missing : x.step.missing ≡ y.step.missing
  missing = one_missing w.contents.records facts answer x.step.missing y.step.missing (subst (λ (rs : List MetaRecord). AreMissing rs facts answer x.step.missing) same.records x.step.needed) y.step.needed

  crossing : x.step.crossing ≡ y.step.crossing
  crossing = x.step.crosses_is ∙ ap₂ (λ (f : Files) (k : ℕ). crosses limit (length (f (Volume k))) (payload_length answer + 8)) same.files same.volume ∙ sym y.step.crosses_is

  abbrev by : Files → LabelFields → List Entry → Bool → ℕ → Bool → Option Moment → List MetaRecord → Step
  by f l es stood k b t rs = record { files = f; label = l; entries = es; stood = stood; number = k; crossing = b; greatest = t; missing = rs }

  one_step : step_of m number x.step.crossing x.step.missing ≡ step_of (meant_of first w sure) w.volume y.step.crossing y.step.missing
  one_step =
      ap (λ (f : Files). by f m.contents.label m.contents.entries (stood_in m) number x.step.crossing m.greatest x.step.missing) same.files
      ∙ ap (λ (l : LabelFields). by w.files l m.contents.entries (stood_in m) number x.step.crossing m.greatest x.step.missing) same.label
      ∙ ap (λ (es : List Entry). by w.files w.contents.label es (stood_in m) number x.step.crossing m.greatest x.step.missing) same.entries
      ∙ ap (λ (b : Bool). by w.files w.contents.label w.contents.entries b number x.step.crossing m.greatest x.step.missing) stood
      ∙ ap (λ (k : ℕ). by w.files w.contents.label w.contents.entries (has_item w.contents) k x.step.crossing m.greatest x.step.missing) same.volume
      ∙ ap (λ (b : Bool). by w.files w.contents.label w.contents.entries (has_item w.contents) w.volume b m.greatest x.step.missing) crossing
      ∙ ap (λ (t : Option Moment). by w.files w.contents.label w.contents.entries (has_item w.contents) w.volume y.step.crossing t x.step.missing) same.greatest
      ∙ ap (λ (rs : List MetaRecord). by w.files w.contents.label w.contents.entries (has_item w.contents) w.volume y.step.crossing (greatest_in w.contents) rs) missing

  pub means_next : MeansSame n next v
  means_next = record {
    files = fun_ext (λ (file : FileId). x.step.is file ∙ ap (λ (s : Step). files_after answer s file) one_step ∙ sym (y.step.is file));
    volume = x.next_is ∙ ap (λ (s : Step). base_number s.crossing s.number) one_step ∙ sym y.next_is;
    label = x.longer.label ∙ same.label ∙ sym y.longer.label;
    records = x.longer.records ∙ ap₂ (λ (rs ms : List MetaRecord). rs ++ ms) same.records missing ∙ sym y.longer.records;
    entries = x.longer.entries ∙ ap entries_after one_step ∙ sym y.longer.entries;
    items = x.longer.items ∙ ap (λ (xs : List Item). xs ++ Sample answer ∷ []) same.items ∙ sym y.longer.items;
    gone = x.gone_is ∙ same.gone;
    greatest = x.greatest_is ∙ sym y.greatest_is;
  }

-- ---- the first ones of some results

pub leads_first : (l : LabelFields) (limit : ℕ) (first last : Written) (all k : ℕ) (reports : List Report) (w : Written) (sure : ℕ) (m n : Meant) (number next : ℕ) → MeansSame m number w → IsArchive w.files w.contents → LogsEach limit first w sure reports last all
    → LogsAll m number limit (take k (told_of reports)) n next → (v : Written) × Lead l limit (Stand.opened w) (logged_all (take k reports)) (Stand.opened v) × (n.files ≡ v.files)
leads_first l limit first last all zero reports w sure m n number next same is each logs = (w, refl, ap (λ (x : Meant). x.files) logs.0 ∙ same.files)
leads_first l limit first last all (suc k) [] w sure m n number next same is each logs = (w, refl, ap (λ (x : Meant). x.files) logs.0 ∙ same.files)
leads_first l limit first last all (suc k) (r ∷ reports) w sure m n number next same is each logs =
    let on : MeansSame logs.0 logs.1 each.0 = means_next limit r.result r.facts first w each.0 sure each.1 m logs.0 number logs.1 same is logs.2 each.3 in
    let rest = leads_first l limit first last all k reports each.0 each.1 logs.0 n logs.1 next on each.2.is each.4 logs.3 in
    (rest.0, (Stand.opened each.0, (each.0, each.2, refl), rest.1), rest.2)
