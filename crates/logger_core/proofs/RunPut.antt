-- A run of items was written: what is kept in numbers is so.
use Rattle.std.proofs.Common.{◌≡◌, inl, ℕ, ◌+◌, List, [], ◌∷◌, ◌++◌, length, Some, refl, sym, ap, ◌∙◌, subst, append_assoc, arith, length-append}
use Rattle.std.specs.Prelude.{Contains}
use Rattle.std.specs.List.{AllByRecursion}
use Rattle.std.proofs.lemmas.List.{append-nil}
use Rattle.pcp_base.specs.Time.{Moment}
use Rattle.pcp_base.specs.declared.file.FileId.TheVariants.{Meta, Index, Volume}
use Rattle.pcp_base.specs.declared.result.Item.{Item}
use Rattle.pcp_model.specs.declared.records.MetaRecord.{MetaRecord}
use Rattle.pcp_model.specs.Described.{Described}
use Rattle.pcp_model.specs.Disk.{Files, Holdings}
use Rattle.logger_core.specs.Keeps.{Start}
use Rattle.logger_core.specs.Laws.{Survives}
use Rattle.logger_core.proofs.Rests.{survives_same}
use Rattle.pcp_model.specs.Sound.{NoItemAfter, NoDomainAfter}
use Rattle.pcp_model.specs.Written.{with_added}
use Rattle.pcp_model.proofs.Added.{added_this}
use Rattle.pcp_outside.specs.Causes.{shown_count}
use Rattle.logger_core.specs.declared.ends.Ends.{Ends}
use Rattle.logger_core.specs.LogSteps.{with_run}
use Rattle.logger_core.specs.Meant.{Meant, AreEnds, IsAt, items_in}
use Rattle.logger_core.specs.Going.{GrowsBy}
use Rattle.logger_core.specs.Runs.{Rise, AreItemsToCome, IsRunToCome, IsLastStamp, SurvivesWith}
use Rattle.logger_core.specs.Steps.{NoEntryAfter, last_entry}
use Rattle.logger_core.proofs.Pointwise.{added_same}
use Rattle.logger_core.proofs.Whole.{contains_last}

module _ (m : Meant) (e : Ends) (held mid : Holdings) (records : List MetaRecord) (items : List Item) (meta_bytes item_bytes : List ℕ) (at : IsAt m e held) (run : IsRunToCome m records items meta_bytes item_bytes)
    (g : GrowsBy m records [] [] (with_added Meta meta_bytes m.files) e.volume mid) where
  same_items : items_in g.new ≡ items_in m
  same_items = g.longer.items ∙ append-nil (items_in m)

  pub items_come : AreItemsToCome g.new run.payloads items
  items_come = record {
    read = run.read;
    described = subst (λ rs. AllByRecursion (Described rs) items) (sym g.longer.records) run.described;
    rise = subst (λ xs. Rise xs items) (sym same_items) run.rise;
  }

  module _ (new : Holdings) (h : GrowsBy g.new [] [] items (with_added (Volume e.volume) item_bytes g.new.files) e.volume new) where
    pub all_records : h.new.contents.records ≡ m.contents.records ++ records
    all_records = h.longer.records ∙ append-nil g.new.contents.records ∙ g.longer.records

    pub all_items : items_in h.new ≡ items_in m ++ items
    all_items = h.longer.items ∙ ap (λ xs. xs ++ items) same_items

    -- the last item's stamp is then the greatest
    abbrev pub run_grown : Moment → GrowsBy m records [] items (with_run e.volume meta_bytes item_bytes m.files) e.volume new
    run_grown t = record {
      new = record { start = h.new.start; files = h.new.files; contents = h.new.contents; acknowledged = h.new.acknowledged; gone = h.new.gone; greatest = Some t };
      started = h.started ∙ g.started;
      acknowledged_is = h.acknowledged_is ∙ g.acknowledged_is;
      gone_is = h.gone_is ∙ g.gone_is;
      longer = record {
        label = h.longer.label ∙ g.longer.label;
        records = all_records;
        entries = h.longer.entries ∙ append-nil g.new.contents.entries ∙ g.longer.entries;
        items = all_items;
      };
      files_are = λ file. h.files_are file ∙ added_same (Volume e.volume) item_bytes g.new.files (with_added Meta meta_bytes m.files) g.files_are file;
      stands = record { keeps = h.stands.keeps; written = h.stands.written; sure = h.stands.sure; indexed = h.stands.indexed; headed = h.stands.headed };
    }

    same_entries : h.new.contents.entries ≡ m.contents.entries
    same_entries = h.longer.entries ∙ append-nil g.new.contents.entries ∙ g.longer.entries ∙ append-nil m.contents.entries

    meta_file : h.new.files Meta ≡ m.files Meta ++ meta_bytes
    meta_file = h.files_are Meta ∙ g.files_are Meta

    index_file : h.new.files Index ≡ m.files Index
    index_file = h.files_are Index ∙ g.files_are Index

    volume_file : h.new.files (Volume e.volume) ≡ m.files (Volume e.volume) ++ item_bytes
    volume_file = h.files_are (Volume e.volume) ∙ added_this e.volume item_bytes g.new.files ∙ ap (λ t. t ++ item_bytes) (g.files_are (Volume e.volume))

    module _ (t : Moment) (count logged : ℕ) (last : IsLastStamp m records items t) (many : length items ≡ count) (logged_is : logged ≡ shown_count (e.logged + count)) where
      no_item : NoItemAfter t (items_in h.new)
      no_item = subst (NoItemAfter t) (sym all_items) last.before

      no_domain : NoDomainAfter t h.new.contents.records
      no_domain = subst (NoDomainAfter t) (sym all_records) last.domains

      no_entry : NoEntryAfter t h.new.contents.entries
      no_entry = subst (NoEntryAfter t) (sym same_entries) last.entries

      there : Contains (items_in h.new) last.last
      there = subst (λ xs. Contains xs last.last) (sym (all_items ∙ ap (λ xs. items_in m ++ xs) last.are ∙ sym (append_assoc (items_in m) last.first (last.last ∷ [])))) (contains_last (items_in m ++ last.first) last.last)

      pub run_ends : AreEnds (run_grown t).new (record { meta = e.meta + length meta_bytes; index = e.index; volume = e.volume; length = e.length + length item_bytes; greatest = Some t; entry = e.entry; logged = logged; acknowledged = e.acknowledged })
      run_ends = record {
        meta = omega (arith, at.ends.meta, ap length meta_file, length-append (m.files Meta) meta_bytes);
        index = at.ends.index ∙ ap length (sym index_file);
        length_is = omega (arith, at.ends.length_is, ap length volume_file, length-append (m.files (Volume e.volume)) item_bytes);
        greatest = refl;
        moment = last.moment;
        above = (no_item, no_domain, no_entry);
        found = λ none. (inl (last.last, there, last.stamped), no_item, no_domain, no_entry);
        entry = at.ends.entry ∙ ap last_entry (sym same_entries);
        logged = omega (arith, logged_is, at.ends.logged, ap length all_items, length-append (items_in m) items, h.gone_is, g.gone_is);
        acknowledged_is = omega (arith, at.ends.acknowledged_is, h.acknowledged_is, g.acknowledged_is, h.gone_is, g.gone_is);
      }

  -- what survives of the longer archive survives of the first
  pub grown_survives_with : (image : Files) → SurvivesWith g.new items image → SurvivesWith m items image
  grown_survives_with image w =
      subst (λ (s : Start). Survives s (items_in m ++ items) m.acknowledged image) g.started
      (survives_same g.new.start (items_in g.new ++ items) (items_in m ++ items) g.new.acknowledged m.acknowledged image (ap (λ xs. xs ++ items) same_items) w (omega (arith, g.acknowledged_is)))
