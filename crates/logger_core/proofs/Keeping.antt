-- A logger keeps what a call left.
use Rattle.std.proofs.Common.{◌≡◌, ◌<◌, List, length, sym, ap, ◌∙◌, subst}
use Rattle.std.specs.Prelude.{IfErr, Result}
use Rattle.std.specs.Result.{IsErrAnd}
use Rattle.std.proofs.lemmas.Result.{err_from_is_err_and}
use Rattle.logger_core.specs.declared.fault.LogFault.{LogFault}
use Rattle.pcp_base.specs.declared.result.PmResult.{PmResult}
use Rattle.pcp_model.specs.declared.records.MetaRecord.{MetaRecord}
use Rattle.pcp_model.specs.Disk.{Holdings}
use Rattle.archive_meta.specs.declared.facts.Facts.{Facts}
use Rattle.archive_meta.specs.Enough.{AreEnough}
use Rattle.archive_meta.specs.Records.{Adds}
use Rattle.logger_core.specs.declared.ends.Ends.{Ends}
use Rattle.logger_core.specs.declared.preparing.Made.{Made}
use Rattle.logger_core.specs.Going.{FlushIsDone, IsFlushed, all_acknowledged}
use Rattle.logger_core.specs.Logging.{IsLogged, IsMadeOf, IsPrepared}
use Rattle.logger_core.specs.Meant.{Meant, Kept, IsAt, IsLogger}
use Rattle.logger_core.specs.Writing.{IsBounded, ItemWritten, MayBeWritten}

pub is_flushed : (m : Meant) (old : Kept) (after : Ends) (held new : Holdings) → IsLogger m old held → FlushIsDone m old.ends after new
    → IsFlushed m old (record { label = old.label; records = old.records; ends = after; limit = old.limit; closed = old.closed }) new
is_flushed m old after held new l f = record {
  new = f.new;
  started = f.started;
  gone_is = f.gone_is;
  greatest_is = f.greatest_is;
  step = record { is = f.files_are };
  entries_are = f.entries_are;
  items_same = f.items_same;
  all = f.all;
  is = record { at = f.at; label_is = f.label_same ∙ l.label_is; records_are = f.records_same ∙ l.records_are };
}

pub is_logged : (m : Meant) (old : Kept) (now : Ends) (records : List MetaRecord) (answer : PmResult) (facts : Facts) (held new : Holdings) → IsLogger m old held → ItemWritten m old.ends now old.limit answer facts records new
    → IsLogged m old (record { label = old.label; records = records; ends = now; limit = old.limit; closed = old.closed }) answer facts new
is_logged m old now records answer facts held new l w = record {
  new = w.new;
  started = w.started;
  gone_is = w.gone_is;
  greatest_is = w.greatest_is;
  step = w.step;
  said = w.said;
  items_are = w.items_are;
  still = w.still;
  acknowledged_is = w.acknowledged_is;
  is = record { at = w.at; label_is = w.label_same ∙ l.label_is; records_are = w.records_are };
}

-- what was prepared may be written
pub may_write : (m : Meant) (old now : Kept) (answer : PmResult) (facts : Facts) (made : Made) (held : Holdings) → IsLogger m old held → IsPrepared old now answer facts made → 0 < length answer.sets → AreEnough facts answer.sets → MayBeWritten m old.ends old.limit answer facts now.records made
may_write m old now answer facts made held l p some enough = record {
  is = subst (λ rs. IsMadeOf rs old.ends old.limit answer facts made) (sym l.records_are) p.is;
  some = some;
  enough = enough;
  added = subst (λ rs. Adds rs made.records now.records) (sym l.records_are) p.added;
}

pub flushed_for : (m : Meant) (old inside : Kept) → inside ≡ old → (after : Ends) (held new : Holdings) → IsLogger m old held → (IsAt m inside.ends held → FlushIsDone m inside.ends after new)
    → IsFlushed m old (record { label = inside.label; records = inside.records; ends = after; limit = inside.limit; closed = inside.closed }) new
flushed_for m old inside is after held new l f =
    let k : IsLogger m inside held = subst (λ (x : Kept). IsLogger m x held) (sym is) l in
    subst (λ (x : Kept). IsFlushed m x (record { label = inside.label; records = inside.records; ends = after; limit = inside.limit; closed = inside.closed }) new) is (is_flushed m inside after held new k (f k.at))

-- the volume was made sure: the logger keeps the same archive
pub synced_for : (m : Meant) (old inside : Kept) → inside ≡ old → (after : Ends) (held new : Holdings) → IsLogger m old held → (IsAt m inside.ends held → IsAt (all_acknowledged m) after new)
    → IsLogger (all_acknowledged m) (record { label = inside.label; records = inside.records; ends = after; limit = inside.limit; closed = inside.closed }) new
synced_for m old inside is after held new l f =
    let k : IsLogger m inside held = subst (λ (x : Kept). IsLogger m x held) (sym is) l in
    record { at = f k.at; label_is = k.label_is; records_are = k.records_are }

-- what was prepared, as the logger then is
module _ (m : Meant) (old now inside : Kept) (answer : PmResult) (facts : Facts) (made : Made) (held : Holdings) (l : IsLogger m old held) (p : IsPrepared old now answer facts made) (is : inside ≡ now) where
  abbrev with_records : Kept
  with_records = record { label = old.label; records = now.records; ends = old.ends; limit = old.limit; closed = old.closed }

  q : inside ≡ with_records
  q = is ∙ p.same

  pub prepared_at : IsAt m inside.ends held
  prepared_at = subst (λ (k : Kept). IsAt m k.ends held) (sym q) l.at

  pub prepared_label : m.contents.label ≡ inside.label
  prepared_label = l.label_is ∙ ap (λ (k : Kept). k.label) (sym q)

  pub prepared_may : 0 < length answer.sets → AreEnough facts answer.sets → MayBeWritten m inside.ends old.limit answer facts now.records made
  prepared_may some enough = subst (λ (k : Kept). MayBeWritten m k.ends old.limit answer facts now.records made) (sym q) (may_write m old now answer facts made held l p some enough)

  pub logged_for : (after : Ends) (new : Holdings) → ItemWritten m inside.ends after old.limit answer facts now.records new
      → IsLogged m old (record { label = inside.label; records = inside.records; ends = after; limit = inside.limit; closed = inside.closed }) answer facts new
  logged_for after new i =
      subst (λ (k : Kept). IsLogged m old (record { label = k.label; records = k.records; ends = after; limit = k.limit; closed = k.closed }) answer facts new) (sym q)
      (is_logged m old after now.records answer facts held new l (subst (λ (k : Kept). ItemWritten m k.ends after old.limit answer facts now.records new) q i))

-- the bytes have their place in the logger that was prepared
pub bounded_for : (old now inside : Kept) (answer : PmResult) (facts : Facts) (made : Made) → IsPrepared old now answer facts made → inside ≡ now → IsBounded old.ends made → IsBounded inside.ends made
bounded_for old now inside answer facts made p is b = subst (λ (k : Kept). IsBounded k.ends made) (sym (is ∙ p.same)) b

-- a refusal that is handed on
pub handed_on : {T : Type 0} (r : Result T LogFault) (e : LogFault) (P : LogFault → Type 0) → IsErrAnd r (λ y. y ≡ e) → P e → IfErr r P
handed_on r e P was h = let p = err_from_is_err_and r was in subst (λ x. IfErr x P) (sym p.1) (subst P (sym p.2) h)
