-- The archive that a session goes on with.
use Rattle.std.proofs.Common.{◌≡◌, inl, inr, Bool, true, false, ℕ, ◌+◌, List, ◌++◌, length, Option, None, Some, refl, sym, ap, ◌∙◌, subst, arith}
use Rattle.std.specs.Prelude.{is_some, not}
use Rattle.std.proofs.Math.Path.{fun_ext}
use Rattle.std.proofs.lemmas.Option.{none-some}
use Rattle.pcp_base.specs.declared.result.Item.{Item}
use Rattle.pcp_model.specs.Archive.{ArchiveReading, IsArchive, scan}
use Rattle.pcp_model.specs.Disk.{Files, Held, Holdings, IsEmpty, contents_of}
use Rattle.pcp_model.specs.LabelFields.{LabelFields}
use Rattle.pcp_model.specs.Recovered.{Recovers, recovered_reading}
use Rattle.pcp_model.specs.Written.{created_files}
use Rattle.archive_recovery.specs.declared.outcome.Archive.{Archive}
use Rattle.archive_recovery.specs.Told.{IsToldOf}
use Rattle.logger_core.specs.Created.{HasNoItem, IsCreated, no_items}
use Rattle.logger_core.specs.Meant.{Kept}
use Rattle.logger_core.specs.Reopening.{IsLeft, IsReopened, SameFiles}
use Rattle.logging_session.specs.ComingBack.{ComesBack, ComesBackTo, start_of}
use Rattle.logging_session.specs.Opening.{IsOpened}
use Rattle.logging_session.proofs.ComeBack.{fewer, left_comes, no_item_comes}

pub none_is : {T : Type 0} (o : Option T) (b : Bool) → is_some o ≡ not b → b ≡ true → o ≡ None
none_is None b is h = refl
none_is (Some x) b is h = absurd (let no : true ≡ false = is ∙ ap not h in cc)

-- without a label nothing is left
nothing_told : (files left : Files) (r : ArchiveReading) (archive : Archive) → archive.label ≡ None → Recovers files r left → IsToldOf left (recovered_reading files r) archive → IsEmpty left
nothing_told files left ArchiveReading.nothing archive none recovered told = recovered
nothing_told files left (ArchiveReading.archive c) archive none recovered told = absurd (none-some c.label (sym none ∙ told.says))

pub nothing_left : (archive : Archive) (held : Holdings) → archive.label ≡ None → IsLeft archive held → IsEmpty (contents_of held)
nothing_left archive held none left = nothing_told left.files (contents_of held) left.recovered.reading archive none left.recovered.recovered left.recovered.told

pub created_opens : (l : LabelFields) (limit : ℕ) (archive : Archive) (old new : Holdings) (kept : Kept) → archive.label ≡ None → IsLeft archive old → IsCreated l limit kept new → IsOpened l (contents_of old) kept new
created_opens l limit archive old new kept none left c = record {
  files = created_files l;
  contents = no_items l;
  opens = inl (nothing_left archive old none left, refl, refl);
  is = c.is;
  sure = λ file. ap (λ (h : Held). h.rest) (c.labels file);
}

pub reopened_opens : (l : LabelFields) (limit : ℕ) (archive : Archive) (old new : Holdings) (kept : Kept) → new ≡ old → IsLeft archive old → IsReopened limit kept new → IsOpened l (contents_of old) kept new
reopened_opens l limit archive old new kept same left r = record {
  files = contents_of new;
  contents = r.contents;
  opens = inr (ap (λ (h : Holdings). contents_of h) same, subst (λ (h : Holdings). IsArchive (contents_of h) r.contents) same r.is.at.stands.keeps.is);
  is = r.is;
  sure = λ file. ap (λ (h : Holdings). (h file).rest) same ∙ left.sure file;
}

-- what a crash leaves meanwhile
pub creating_comes : (archive : Archive) (held : Holdings) → archive.label ≡ None → IsLeft archive held → (more : List Item) (image : Files) → HasNoItem image → ComesBackTo more 0 (contents_of held) image
creating_comes archive held none left more image h = λ files r reads recovered. no_item_comes (contents_of held) files r reads recovered (nothing_left archive held none left) more image h

pub standing_comes : (held : Holdings) (more : List Item) (image : Files) → SameFiles held image → ComesBackTo more 0 (contents_of held) image
standing_comes held more image same = λ files r reads recovered.
    let left : Files = contents_of held in
    let at : image ≡ left = fun_ext same in
    fewer (start_of files r left) (scan r ++ more) (length (scan r)) (length (scan r) + 0) image (omega arith)
    (subst (λ (f : Files). ComesBack (start_of files r left) (scan r ++ more) (length (scan r)) f) (sym at) (left_comes files left r more reads recovered))
