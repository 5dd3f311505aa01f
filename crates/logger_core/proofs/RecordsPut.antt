-- Records were put behind Meta.
use Rattle.std.proofs.Common.{◌≡◌, ℕ, List, [], ◌∷◌, ◌++◌, length, refl, sym, ap, ◌∙◌, subst, arith, length-append}
use Rattle.std.proofs.lemmas.List.{append-nil}
use Rattle.pcp_base.specs.declared.file.FileId.TheVariants.{Meta, Index, Volume}
use Rattle.pcp_model.specs.declared.records.MetaRecord.{MetaRecord}
use Rattle.pcp_model.specs.Archive.{AreRead, items_of}
use Rattle.pcp_model.specs.Disk.{Files, Held, Holdings, CrashImage}
use Rattle.pcp_model.specs.Frame.{frame, frames}
use Rattle.pcp_model.specs.Records.{IsRecord}
use Rattle.pcp_model.specs.Written.{with_added}
use Rattle.pcp_model.proofs.Lengths.{length-frame}
use Rattle.std.specs.Prelude.{Result, Ok, Err, OnOk}
use Rattle.pcp_outside.specs.Devices.{AppendsSure, Becomes, made_sure, holdings_after_append}
use Rattle.logger_core.specs.Keeps.{Keeps, is_sure}
use Rattle.logger_core.specs.Laws.{Announces, AreRecordsToCome}
use Rattle.logger_core.specs.Meant.{Meant, Stands, SurvivesOf, items_in}
use Rattle.logger_core.specs.Going.{GrowsBy}
use Rattle.logger_core.proofs.Announced.{records_announced}
use Rattle.logger_core.proofs.Nearer.{all_known}
use Rattle.logger_core.proofs.Pointwise.{added_none, other_added}
use Rattle.logger_core.proofs.Rests.{grown_survives, sure_keeps, sure_written, survives_same}

no_payload : (payloads : List (List ℕ)) → frames payloads ≡ [] → payloads ≡ []
no_payload [] none = refl
no_payload (p ∷ ps) none = absurd (omega (arith, ap length none, length-append (frame p) (frames ps), length-frame p))

nothing_read : (payloads : List (List ℕ)) (records : List MetaRecord) → payloads ≡ [] → AreRead IsRecord payloads records → records ≡ []
nothing_read payloads [] none read = refl
nothing_read payloads (r ∷ rs) none read = absurd (subst (λ ps. AreRead IsRecord ps (r ∷ rs)) none read tt)

-- no bytes are no records
pub none_grown : (m : Meant) (number : ℕ) (held : Holdings) (payloads : List (List ℕ)) (records : List MetaRecord) (bytes : List ℕ) → Stands m number held → bytes ≡ frames payloads → bytes ≡ [] → AreRead IsRecord payloads records
    → GrowsBy m records [] [] (with_added Meta bytes m.files) number held
none_grown m number held payloads records bytes at is none read =
    subst (λ rs. GrowsBy m rs [] [] (with_added Meta bytes m.files) number held) (sym (nothing_read payloads records (no_payload payloads (sym is ∙ none)) read))
    record {
      new = m;
      started = refl;
      acknowledged_is = refl;
      gone_is = refl;
      longer = record { label = refl; records = sym (append-nil m.contents.records); entries = sym (append-nil m.contents.entries); items = sym (append-nil (items_in m)) };
      files_are = λ file. sym (ap (λ t. with_added Meta t m.files file) none ∙ added_none Meta m.files file);
      stands = at;
    }

module _ (m : Meant) (number : ℕ) (held : Holdings) (payloads : List (List ℕ)) (records : List MetaRecord) (bytes : List ℕ) (at : Stands m number held) (is : bytes ≡ frames payloads) (come : AreRecordsToCome m.start m.contents payloads records) where
  abbrev files : Files
  files = with_added Meta (frames payloads) m.files

  said : Announces m.start files m.contents number (length m.contents.records) m.acknowledged held records [] []
  said = records_announced m.start m.files m.contents number m.acknowledged held payloads records at.keeps come

  same_items : items_of said.new.volumes ≡ items_in m
  same_items = said.longer.items ∙ append-nil (items_in m)

  pub records_survive : (image : Files) → CrashImage (holdings_after_append Meta bytes held) image → SurvivesOf m image
  records_survive image crash =
      survives_same m.start (items_of said.new.volumes) (items_in m) m.acknowledged m.acknowledged image same_items
      (grown_survives m.start m.files files said.new number (length m.contents.records) m.acknowledged held Meta (frames payloads) said.keeps tt at.written refl image
      (subst (λ t. CrashImage (holdings_after_append Meta t held) image) is crash)) (omega arith)

  module _ (new : Holdings) (change : Becomes Meta (made_sure (held Meta) bytes) held new) where
    change_is : Becomes Meta (made_sure (held Meta) (frames payloads)) held new
    change_is = subst (λ t. Becomes Meta (made_sure (held Meta) t) held new) is change

    kept : Keeps m.start files said.new number (length m.contents.records) m.acknowledged new
    kept = sure_keeps m.start m.files files said.new number (length m.contents.records) m.acknowledged held Meta (frames payloads) said.keeps tt at.written refl new change_is

    meta_now : new Meta ≡ is_sure (files Meta)
    meta_now = change_is.this ∙ ap (λ t. is_sure (t ++ frames payloads)) (at.written Meta)

    pub records_grown : GrowsBy m records [] [] (with_added Meta bytes m.files) number new
    records_grown = record {
      new = record { start = m.start; files = files; contents = said.new; acknowledged = m.acknowledged; gone = m.gone; greatest = m.greatest };
      started = refl;
      acknowledged_is = refl;
      gone_is = refl;
      longer = said.longer;
      files_are = λ file. ap (λ t. with_added Meta t m.files file) (sym is);
      stands = record {
        keeps = all_known m.start files said.new number (length m.contents.records) m.acknowledged new kept meta_now;
        written = sure_written m.start m.files files said.new number (length m.contents.records) m.acknowledged held Meta (frames payloads) said.keeps tt at.written refl (λ g other. other_added Meta (frames payloads) m.files g other) new change_is;
        sure = ap (λ (h : Held). h.rest) meta_now;
        indexed = omega (arith, at.indexed, ap (λ (h : Held). length h.sure) (change_is.others Index refl));
        headed = omega (arith, at.headed, ap (λ (h : Held). length h.sure) (change_is.others (Volume number) refl));
      };
    }

  pub records_after : {E : Type 0} (new : Holdings) (result : Result (Unit {0}) E) → AppendsSure Meta bytes held new result → OnOk result (GrowsBy m records [] [] (with_added Meta bytes m.files) number new)
  records_after new (Ok v) change = records_grown new change
  records_after new (Err e) change = tt
