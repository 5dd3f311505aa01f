-- The next volume got its label.
use Rattle.std.proofs.Common.{◌≡◌, ℕ, pos, ◌+◌, ◌<◌, List, [], ◌++◌, length, refl, sym, ap, ◌∙◌, subst, arith, length-append}
use Rattle.std.specs.Int.{w32, cast_signed}
use Rattle.std.proofs.lemmas.Int.{to_z_pos}
use Rattle.std.proofs.lemmas.List.{append-nil}
use Rattle.pcp_base.specs.declared.file.FileId.TheVariants.{Meta, Index, Volume}
use Rattle.pcp_model.specs.Archive.{items_of}
use Rattle.pcp_model.specs.Disk.{Files, Held, Holdings, CrashImage, bytes_of}
use Rattle.pcp_model.specs.Labels.{label, IsLabel}
use Rattle.pcp_model.specs.LabelFields.{LabelFields}
use Rattle.pcp_model.specs.Written.{with_added}
use Rattle.pcp_model.proofs.Added.{added_this, was_empty}
use Rattle.pcp_model.proofs.Cuts.{is_label}
use Rattle.pcp_model.proofs.Lengths.{length-label}
use Rattle.pcp_outside.specs.Causes.{shown_count}
use Rattle.pcp_outside.specs.Devices.{Becomes, made_sure, holdings_after_append}
use Rattle.archive_frame.specs.Labels.{LabelInRange}
use Rattle.logger_core.specs.declared.ends.Ends.{Ends}
use Rattle.logger_core.specs.Keeps.{Keeps}
use Rattle.logger_core.specs.Laws.{Announces, IsVolumeToCome}
use Rattle.logger_core.specs.LogSteps.{with_new_volume}
use Rattle.logger_core.specs.Meant.{Meant, IsAt, SurvivesOf, items_in}
use Rattle.logger_core.specs.Going.{IsVolumeSure, GrownTo}
use Rattle.logger_core.specs.Steps.{last_entry}
use Rattle.logger_core.proofs.Greatest.{above_same, greatest_same}
use Rattle.logger_core.proofs.NoItems.{spelled}
use Rattle.logger_core.proofs.Pointwise.{other_added}
use Rattle.logger_core.proofs.Rests.{grown_survives, sure_keeps, sure_written, survives_same, volume_is_sure}
use Rattle.logger_core.proofs.Switched.{volume_announced}

module _ (m : Meant) (e : Ends) (held : Holdings) (l : LabelFields) (bytes : List ℕ) (at : IsAt m e held) (sure : IsVolumeSure e.volume held) (all : m.acknowledged ≡ length (items_in m)) (same_label : m.contents.label ≡ l) (is : bytes ≡ label l (pos (e.volume + 1))) (range : LabelInRange l (pos (e.volume + 1))) where
  abbrev next : ℕ
  next = e.volume + 1

  abbrev head : List ℕ
  head = label l (pos next)

  abbrev files : Files
  files = with_added (Volume next) head m.files

  label_is : IsLabel head m.contents.label (pos next)
  label_is = subst (λ x. IsLabel head x (pos next)) (sym same_label) (is_label l (pos next) (spelled l (pos next) range) range.signed)

  come : IsVolumeToCome m.files m.contents e.volume next m.acknowledged held head
  come = record { above = omega arith; label = label_is; volume_sure = volume_is_sure m e.volume held at.stands sure; all = omega (arith, all) }

  said : Announces m.start files m.contents next (length m.contents.records) m.acknowledged held [] [] []
  said = volume_announced m.start m.files m.contents e.volume next (length m.contents.records) m.acknowledged held head at.stands.keeps come

  same_items : items_of said.new.volumes ≡ items_in m
  same_items = said.longer.items ∙ append-nil (items_in m)

  same_records : said.new.records ≡ m.contents.records
  same_records = said.longer.records ∙ append-nil m.contents.records

  same_entries : said.new.entries ≡ m.contents.entries
  same_entries = said.longer.entries ∙ append-nil m.contents.entries

  this : files (Volume next) ≡ m.files (Volume next) ++ head
  this = added_this next head m.files

  empty : m.files (Volume next) ≡ []
  empty = was_empty m.files m.contents e.volume next head at.stands.keeps.is at.stands.keeps.last come.above label_is

  pub label_survives : (image : Files) → CrashImage (holdings_after_append (Volume next) bytes held) image → SurvivesOf m image
  label_survives image crash =
      survives_same m.start (items_of said.new.volumes) (items_in m) m.acknowledged m.acknowledged image same_items
      (grown_survives m.start m.files files said.new next (length m.contents.records) m.acknowledged held (Volume next) head said.keeps refl at.stands.written this image
      (subst (λ t. CrashImage (holdings_after_append (Volume next) t held) image) is crash)) (omega arith)

  module _ (new : Holdings) (change : Becomes (Volume next) (made_sure (held (Volume next)) bytes) held new) where
    change_is : Becomes (Volume next) (made_sure (held (Volume next)) head) held new
    change_is = subst (λ t. Becomes (Volume next) (made_sure (held (Volume next)) t) held new) is change

    kept : Keeps m.start files said.new next (length m.contents.records) m.acknowledged new
    kept = sure_keeps m.start m.files files said.new next (length m.contents.records) m.acknowledged held (Volume next) head said.keeps refl at.stands.written this new change_is

    pub volume_now : IsVolumeSure next new
    volume_now = ap (λ (h : Held). h.rest) change_is.this

    pub label_grown : GrownTo m [] [] [] (with_new_volume l next m.files) (record { meta = e.meta; index = e.index; volume = e.volume + 1; length = 132; greatest = e.greatest; entry = e.entry; logged = e.logged; acknowledged = e.acknowledged }) new
    label_grown = (
      record {
        new = record { start = m.start; files = files; contents = said.new; acknowledged = m.acknowledged; gone = m.gone; greatest = m.greatest };
        started = refl;
        acknowledged_is = refl;
        gone_is = refl;
        longer = said.longer;
        files_are = λ file. refl;
        stands = record {
          keeps = subst (λ rs. Keeps m.start files said.new next (length rs) m.acknowledged new) (sym same_records) kept;
          written = sure_written m.start m.files files said.new next (length m.contents.records) m.acknowledged held (Volume next) head said.keeps refl at.stands.written this (λ g other. other_added (Volume next) head m.files g other) new change_is;
          sure = ap (λ (h : Held). h.rest) (change_is.others Meta refl) ∙ at.stands.sure;
          indexed = omega (arith, at.stands.indexed, ap (λ (h : Held). length h.sure) (change_is.others Index refl));
          headed = omega (arith, ap (λ (h : Held). length h.sure) change_is.this, length-append (bytes_of (held (Volume next))) head, length-label l (pos next) range.fits);
        };
      },
      record {
        meta = at.ends.meta;
        index = at.ends.index;
        length_is = sym (ap length (this ∙ ap (λ t. t ++ head) empty) ∙ length-label l (pos next) range.fits);
        greatest = at.ends.greatest;
        moment = at.ends.moment;
        above = above_same m.contents said.new same_items same_records same_entries m.greatest at.ends.above;
        found = λ none. greatest_same m.contents said.new same_items same_records same_entries m.greatest (at.ends.found none);
        entry = at.ends.entry ∙ ap last_entry (sym same_entries);
        logged = at.ends.logged ∙ ap (λ xs. shown_count (m.gone + length xs)) (sym same_items);
        acknowledged_is = at.ends.acknowledged_is;
      },
    )

-- the number of a volume, as code has it
pub label_number_is : (l : LabelFields) (n : ℕ) → n < 2147483648 → label l (cast_signed w32 n) ≡ label l (pos n)
label_number_is l n low = ap (λ z. label l z) (to_z_pos w32 n (omega (arith, low)))

pub range_number_is : (l : LabelFields) (n : ℕ) → n < 2147483648 → LabelInRange l (cast_signed w32 n) → LabelInRange l (pos n)
range_number_is l n low range = subst (λ z. LabelInRange l z) (to_z_pos w32 n (omega (arith, low))) range
