-- An entry was put behind the index.
use Rattle.std.proofs.Common.{◌≡◌, inr, ℕ, ◌+◌, ◌<◌, false, List, [], ◌∷◌, ◌++◌, length, Some, refl, sym, ap, ◌∙◌, subst, arith, length-append}
use Rattle.std.proofs.lemmas.List.{append-nil}
use Rattle.pcp_base.specs.declared.file.FileId.{FileId}
use Rattle.pcp_base.specs.declared.file.FileId.TheVariants.{Meta, Index, Volume}
use Rattle.pcp_model.specs.declared.records.Entry.{Entry}
use Rattle.pcp_model.specs.Archive.{items_of}
use Rattle.pcp_model.specs.Disk.{Files, Held, Holdings, CrashImage}
use Rattle.pcp_model.specs.Records.{FitsEntry, entry}
use Rattle.pcp_model.specs.Sound.{NoItemAfter, NoDomainAfter}
use Rattle.pcp_model.specs.Written.{same_file, with_added}
use Rattle.pcp_model.proofs.Cuts.{length-entry}
use Rattle.pcp_outside.specs.Causes.{shown_count}
use Rattle.pcp_outside.specs.Devices.{Becomes, held_after_append, holdings_after_append}
use Rattle.std.specs.Prelude.{cond, Contains}
use Rattle.pcp_model.proofs.Lists.{each-append}
use Rattle.logger_core.specs.declared.ends.Ends.{Ends}
use Rattle.logger_core.specs.Keeps.{Keeps}
use Rattle.logger_core.specs.Laws.{Announces, IsEntryToCome}
use Rattle.logger_core.specs.Meant.{Meant, Stands, IsAt, SurvivesOf, items_in}
use Rattle.logger_core.specs.Going.{AreSmall, GrownTo, HasRoom, LeadsToEnds}
use Rattle.logger_core.specs.Steps.{IsAbove, IsEntryBy, IsGreatest, NoEntryAfter, last_entry, with_entry}
use Rattle.logger_core.proofs.Announced.{entry_announced}
use Rattle.logger_core.proofs.Dues.{last_of_added}
use Rattle.logger_core.proofs.Whole.{contains_last}
use Rattle.logger_core.proofs.Rests.{grown_survives, appended_keeps, appended_written, survives_same, meta_is_sure, volume_is_sure}

module _ (m : Meant) (e : Ends) (held : Holdings) (x : Entry) (at : IsAt m e held) (fits : FitsEntry x) (leads : LeadsToEnds m e held x) where
  above : IsAbove m.contents (Some x.stamp)
  above = subst (IsAbove m.contents) leads.stamped at.ends.above

  come : IsEntryToCome m.start m.files m.contents e.volume held x
  come = record {
    fits = fits;
    volume = leads.volume;
    at_meta = leads.at_meta ∙ at.ends.meta;
    at_volume = leads.at_volume ∙ at.ends.length_is;
    meta_sure = meta_is_sure m e.volume held at.stands;
    volume_sure = volume_is_sure m e.volume held at.stands leads.volume_sure;
    domains = λ was. above.1;
    items = λ was. above.0;
  }

  said : Announces m.start (with_added Index (entry x) m.files) m.contents e.volume (length m.contents.records) m.acknowledged held [] (x ∷ []) []
  said = entry_announced m.start m.files m.contents e.volume (length m.contents.records) m.acknowledged held x at.stands.keeps come

  same_items : items_of said.new.volumes ≡ items_in m
  same_items = said.longer.items ∙ append-nil (items_in m)

  same_records : said.new.records ≡ m.contents.records
  same_records = said.longer.records ∙ append-nil m.contents.records

  other_files : (g : FileId) → same_file Index g ≡ false → with_added Index (entry x) m.files g ≡ m.files g
  other_files g other = ap (λ b. cond b (m.files g ++ entry x) (m.files g)) other

  pub entry_survives : (bytes : List ℕ) → bytes ≡ entry x → (image : Files) → CrashImage (holdings_after_append Index bytes held) image → SurvivesOf m image
  entry_survives bytes is image crash =
      survives_same m.start (items_of said.new.volumes) (items_in m) m.acknowledged m.acknowledged image same_items
      (grown_survives m.start m.files (with_added Index (entry x) m.files) said.new e.volume (length m.contents.records) m.acknowledged held Index (entry x) said.keeps tt at.stands.written refl image
      (subst (λ t. CrashImage (holdings_after_append Index t held) image) is crash)) (omega arith)

  module _ (new : Holdings) (change : Becomes Index (held_after_append (held Index) (entry x)) held new) where
    abbrev now : Ends
    now = record { meta = e.meta; index = e.index + 20; volume = e.volume; length = e.length; greatest = e.greatest; entry = Some x; logged = e.logged; acknowledged = e.acknowledged }

    abbrev meant : Meant
    meant = record { start = m.start; files = with_added Index (entry x) m.files; contents = said.new; acknowledged = m.acknowledged; gone = m.gone; greatest = m.greatest }

    kept : Keeps m.start (with_added Index (entry x) m.files) said.new e.volume (length m.contents.records) m.acknowledged new
    kept = appended_keeps m.start m.files (with_added Index (entry x) m.files) said.new e.volume (length m.contents.records) m.acknowledged held Index (entry x) said.keeps tt at.stands.written refl new change

    stands_now : Stands meant e.volume new
    stands_now = record {
      keeps = subst (λ rs. Keeps m.start (with_added Index (entry x) m.files) said.new e.volume (length rs) m.acknowledged new) (sym same_records) kept;
      written = appended_written m.start m.files (with_added Index (entry x) m.files) said.new e.volume (length m.contents.records) m.acknowledged held Index (entry x) said.keeps tt at.stands.written refl other_files new change;
      sure = ap (λ (h : Held). h.rest) (change.others Meta refl) ∙ at.stands.sure;
      indexed = omega (arith, at.stands.indexed, ap (λ (h : Held). length h.sure) change.this);
      headed = omega (arith, at.stands.headed, ap (λ (h : Held). length h.sure) (change.others (Volume e.volume) refl));
    }

    no_entry : NoEntryAfter x.stamp said.new.entries
    no_entry = subst (NoEntryAfter x.stamp) (sym said.longer.entries) (each-append (IsEntryBy x.stamp) m.contents.entries (x ∷ []) above.2 (omega arith, tt))

    above_now : IsAbove said.new (Some x.stamp)
    above_now = (subst (NoItemAfter x.stamp) (sym same_items) above.0, subst (NoDomainAfter x.stamp) (sym same_records) above.1, no_entry)

    there : Contains said.new.entries x
    there = subst (λ es. Contains es x) (sym said.longer.entries) (contains_last m.contents.entries x)

    found_now : IsGreatest said.new (Some x.stamp)
    found_now = (inr (inr (x, there, refl)), above_now.0, above_now.1, above_now.2)

    pub entry_grown : GrownTo m [] (x ∷ []) [] (with_entry (Some x) m.files) now new
    entry_grown = (
      record { new = meant; started = refl; acknowledged_is = refl; gone_is = refl; longer = said.longer; files_are = λ file. refl; stands = stands_now },
      record {
        meta = at.ends.meta;
        index = omega (arith, at.ends.index, length-append (m.files Index) (entry x), length-entry x);
        length_is = at.ends.length_is;
        greatest = at.ends.greatest;
        moment = at.ends.moment;
        above = subst (IsAbove said.new) (sym leads.stamped) above_now;
        found = λ none. subst (IsGreatest said.new) (sym leads.stamped) found_now;
        entry = sym (ap last_entry said.longer.entries ∙ last_of_added m.contents.entries x);
        logged = at.ends.logged ∙ ap (λ xs. shown_count (m.gone + length xs)) (sym same_items);
        acknowledged_is = at.ends.acknowledged_is;
      },
    )

  pub entry_appended : (bytes : List ℕ) (new : Holdings) → bytes ≡ entry x → Becomes Index (held_after_append (held Index) bytes) held new
      → GrownTo m [] (x ∷ []) [] (with_entry (Some x) m.files) (record { meta = e.meta; index = e.index + 20; volume = e.volume; length = e.length; greatest = e.greatest; entry = Some x; logged = e.logged; acknowledged = e.acknowledged }) new
  entry_appended bytes new is change = entry_grown new (subst (λ t. Becomes Index (held_after_append (held Index) t) held new) is change)

pub entry_fits : (m : Meant) (e : Ends) (held : Holdings) (x : Entry) → LeadsToEnds m e held x → AreSmall e → HasRoom e x → (x.volume < 2147483648 → x.meta < 2147483648 → x.offset < 2147483648 → FitsEntry x) → FitsEntry x
entry_fits m e held x leads small room range = range (omega (arith, leads.volume, small.volume)) room.meta room.offset
