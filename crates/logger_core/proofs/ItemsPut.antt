-- Records of items were put behind the volume that is written.
use Rattle.std.proofs.Common.{◌≡◌, ℕ, false, List, [], ◌∷◌, ◌++◌, length, refl, sym, ap, ◌∙◌, subst, append_assoc, arith}
use Rattle.std.specs.List.{AllByRecursion}
use Rattle.std.proofs.lemmas.List.{append-nil, take_all}
use Rattle.pcp_base.specs.declared.file.FileId.{FileId}
use Rattle.pcp_base.specs.declared.file.FileId.TheVariants.{Meta, Index, Volume}
use Rattle.pcp_base.specs.declared.result.Item.{Item}
use Rattle.pcp_model.specs.Archive.{ArchiveContents, AreRead, items_of}
use Rattle.pcp_model.specs.Described.{Described}
use Rattle.pcp_model.specs.Disk.{Files, Held, Holdings, CrashImage}
use Rattle.pcp_model.specs.Frame.{frame, frames}
use Rattle.pcp_model.specs.Laws.{IsLonger}
use Rattle.pcp_model.specs.Payload.{IsItem}
use Rattle.pcp_model.specs.Written.{same_file, with_added}
use Rattle.pcp_model.proofs.Added.{added_this}
use Rattle.std.specs.Prelude.{Result, Ok, Err, OnOk}
use Rattle.pcp_outside.specs.Devices.{Appends, Becomes, held_after_append, holdings_after_append}
use Rattle.logger_core.specs.Keeps.{Start, Keeps}
use Rattle.logger_core.specs.Laws.{Announces}
use Rattle.logger_core.specs.Meant.{Meant, Stands, items_in}
use Rattle.logger_core.specs.Going.{GrowsBy}
use Rattle.logger_core.specs.Runs.{Rise, AreItemsToCome, SurvivesWith}
use Rattle.logger_core.proofs.Announced.{item_announced}
use Rattle.logger_core.proofs.Pointwise.{added_none, added_twice, other_added}
use Rattle.logger_core.proofs.Rests.{grown_survives, appended_keeps, appended_written, survives_same}

-- these items are meant behind those that were
record Said (s : Start) (old : Files) (c : ArchiveContents) (number acknowledged : ℕ) (held : Holdings) (payloads : List (List ℕ)) (items : List Item) : Type 0 where
  pub files : Files
  pub same : (g : FileId) → files g ≡ with_added (Volume number) (frames payloads) old g
  pub new : ArchiveContents
  pub longer : IsLonger c new [] [] items
  pub keeps : Keeps s files new number (length new.records) acknowledged held

say : (s : Start) (old : Files) (c : ArchiveContents) (number acknowledged : ℕ) (held : Holdings) (payloads : List (List ℕ)) (items : List Item) → Keeps s old c number (length c.records) acknowledged held → AreRead IsItem payloads items
    → AllByRecursion (Described c.records) items → Rise (items_of c.volumes) items → Said s old c number acknowledged held payloads items
say s old c number acknowledged held [] [] k read described rise = record {
  files = old;
  same = λ g. sym (added_none (Volume number) old g);
  new = c;
  longer = record { label = refl; records = sym (append-nil c.records); entries = sym (append-nil c.entries); items = sym (append-nil (items_of c.volumes)) };
  keeps = k;
}
say s old c number acknowledged held [] (x ∷ xs) k read described rise = absurd (read tt)
say s old c number acknowledged held (p ∷ ps) [] k read described rise = absurd (read tt)
say s old c number acknowledged held (p ∷ ps) (x ∷ xs) k read described rise =
    let one : Announces s (with_added (Volume number) (frame p) old) c number (length c.records) acknowledged held [] [] (x ∷ []) =
    item_announced s old c number (length c.records) acknowledged held p x k
    record { fits = read.0; read = read.1; described = λ n le was. subst (λ rs. Described rs x) (sym (take_all n c.records le)) described.0; by = λ was. rise.0 } in
    let same_records : one.new.records ≡ c.records = one.longer.records ∙ append-nil c.records in
    let rest : Said s (with_added (Volume number) (frame p) old) one.new number acknowledged held ps xs =
    say s (with_added (Volume number) (frame p) old) one.new number acknowledged held ps xs
    (subst (λ rs. Keeps s (with_added (Volume number) (frame p) old) one.new number (length rs) acknowledged held) (sym same_records) one.keeps) read.2
    (subst (λ rs. AllByRecursion (Described rs) xs) (sym same_records) described.1) (subst (λ ys. Rise ys xs) (sym one.longer.items) rise.1) in
    record {
      files = rest.files;
      same = λ g. rest.same g ∙ added_twice (Volume number) (frame p) (frames ps) old g;
      new = rest.new;
      longer = record {
        label = rest.longer.label ∙ one.longer.label;
        records = rest.longer.records ∙ ap (λ rs. rs ++ []) same_records;
        entries = rest.longer.entries ∙ ap (λ es. es ++ []) (one.longer.entries ∙ append-nil c.entries);
        items = rest.longer.items ∙ ap (λ ys. ys ++ xs) one.longer.items ∙ append_assoc (items_of c.volumes) (x ∷ []) xs;
      };
      keeps = rest.keeps;
    }

module _ (m : Meant) (number : ℕ) (held : Holdings) (payloads : List (List ℕ)) (items : List Item) (bytes : List ℕ) (at : Stands m number held) (is : bytes ≡ frames payloads) (come : AreItemsToCome m payloads items) where
  said : Said m.start m.files m.contents number m.acknowledged held payloads items
  said = say m.start m.files m.contents number m.acknowledged held payloads items at.keeps come.read come.described come.rise

  this : said.files (Volume number) ≡ m.files (Volume number) ++ frames payloads
  this = said.same (Volume number) ∙ added_this number (frames payloads) m.files

  others : (g : FileId) → same_file (Volume number) g ≡ false → said.files g ≡ m.files g
  others g other = said.same g ∙ other_added (Volume number) (frames payloads) m.files g other

  pub items_survive : (image : Files) → CrashImage (holdings_after_append (Volume number) bytes held) image → SurvivesWith m items image
  items_survive image crash =
      survives_same m.start (items_of said.new.volumes) (items_in m ++ items) m.acknowledged m.acknowledged image said.longer.items
      (grown_survives m.start m.files said.files said.new number (length said.new.records) m.acknowledged held (Volume number) (frames payloads) said.keeps refl at.written this image
      (subst (λ t. CrashImage (holdings_after_append (Volume number) t held) image) is crash)) (omega arith)

  module _ (new : Holdings) (change : Becomes (Volume number) (held_after_append (held (Volume number)) bytes) held new) where
    change_is : Becomes (Volume number) (held_after_append (held (Volume number)) (frames payloads)) held new
    change_is = subst (λ t. Becomes (Volume number) (held_after_append (held (Volume number)) t) held new) is change

    pub items_grown : GrowsBy m [] [] items (with_added (Volume number) bytes m.files) number new
    items_grown = record {
      new = record { start = m.start; files = said.files; contents = said.new; acknowledged = m.acknowledged; gone = m.gone; greatest = m.greatest };
      started = refl;
      acknowledged_is = refl;
      gone_is = refl;
      longer = said.longer;
      files_are = λ file. said.same file ∙ ap (λ t. with_added (Volume number) t m.files file) (sym is);
      stands = record {
        keeps = appended_keeps m.start m.files said.files said.new number (length said.new.records) m.acknowledged held (Volume number) (frames payloads) said.keeps refl at.written this new change_is;
        written = appended_written m.start m.files said.files said.new number (length said.new.records) m.acknowledged held (Volume number) (frames payloads) said.keeps refl at.written this others new change_is;
        sure = ap (λ (h : Held). h.rest) (change.others Meta refl) ∙ at.sure;
        indexed = omega (arith, at.indexed, ap (λ (h : Held). length h.sure) (change.others Index refl));
        headed = omega (arith, at.headed, ap (λ (h : Held). length h.sure) change.this);
      };
    }

  pub items_after : {E : Type 0} (new : Holdings) (result : Result (Unit {0}) E) → Appends (Volume number) bytes held new result → OnOk result (GrowsBy m [] [] items (with_added (Volume number) bytes m.files) number new)
  items_after new (Ok v) change = items_grown new change
  items_after new (Err e) change = tt
