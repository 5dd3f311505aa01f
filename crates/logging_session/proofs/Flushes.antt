-- A flush leaves Meta's records and the volumes as they are.
use Rattle.std.proofs.Common.{◌≡◌, false, inl, inr, ℕ, negsuc, List, [], ◌∷◌, ◌++◌, length, Option, None, Some, refl, sym, ap, ◌∙◌, subst, arith, append-nil, length-append}
use Rattle.std.specs.Prelude.{option_to_list}
use Rattle.std.proofs.Math.Path.{fun_ext}
use Rattle.pcp_base.specs.declared.file.FileId.{FileId}
use Rattle.pcp_base.specs.declared.file.FileId.TheVariants.{Meta, Index, Volume}
use Rattle.pcp_base.specs.declared.result.Item.{Item}
use Rattle.pcp_model.specs.declared.records.Entry.{Entry}
use Rattle.pcp_model.specs.Archive.{ArchiveContents, ArchiveReading, AreVolumes, IsArchive, items_of}
use Rattle.pcp_model.specs.Disk.{Files, Holdings}
use Rattle.pcp_model.specs.LabelFields.{LabelFields}
use Rattle.pcp_model.specs.Labels.{BeginsLabel}
use Rattle.pcp_model.specs.Laws.{EndsWhole}
use Rattle.pcp_model.proofs.OneReading.{one_reading}
use Rattle.logger_core.specs.declared.ends.Ends.{Ends}
use Rattle.logger_core.specs.Going.{IsFlushed, IsVolumeSure, all_acknowledged, counting_all}
use Rattle.logger_core.specs.Holding.{HeldBack, IsHolding, written_back}
use Rattle.logger_core.specs.Meant.{Kept, IsLogger, Meant}
use Rattle.logger_core.specs.Steps.{FlushStep, due_in, greatest_in, has_item, with_entry}
use Rattle.logger_core.proofs.Holds.{holds_nothing}
use Rattle.logging_session.specs.Events.{Event, LeadFrom, items_by}
use Rattle.logging_session.specs.Keeping.{AreApart, IsGoing, meant_of}
use Rattle.logging_session.specs.Written.{Flushes, Stand, Written}
use Rattle.logging_session.proofs.Events.{items_more, lead_more, sure_flushed, sure_synced}
use Rattle.logging_session.proofs.Logged.{is_settled}
use Rattle.logging_session.proofs.Meanings.{means_files}
use Rattle.logging_session.proofs.OneReason.{last_number}

-- files without their index, and what they are read as
abbrev no_index : Files → Files
no_index files Meta = files Meta
no_index files Index = []
no_index files (Volume n) = files (Volume n)

abbrev no_entries : ArchiveContents → ArchiveContents
no_entries c = record { label = c.label; records = c.records; entries = []; volumes = c.volumes }

same_volumes : (files : Files) (l : LabelFields) (vs : List (ℕ × List Item)) → AreVolumes files l vs → AreVolumes (no_index files) l vs
same_volumes files l [] are = tt
same_volumes files l (v ∷ []) are = are
same_volumes files l (v ∷ w ∷ vs) are = (are.0, are.1, same_volumes files l (w ∷ vs) are.2)

begins_empty : (files : Files) (c : ArchiveContents) → IsArchive files c → BeginsLabel [] c.label (negsuc 1)
begins_empty files c is = elim is.index [
  | inl none ↦ record { short = omega arith; more = files Index ++ none.1.more; label = none.1.label }
  | inr has ↦ record { short = omega arith; more = has.head; label = has.label }
]

without_index : (files : Files) (c : ArchiveContents) → IsArchive files c → IsArchive (no_index files) (no_entries c)
without_index files c is = record {
  meta = record { torn = is.meta.torn; is_torn = is.meta.is_torn; holds = is.meta.holds; consistent = is.meta.consistent };
  index = inl (refl, begins_empty files c is);
  volumes = same_volumes files c.label c.volumes is.volumes;
  others = λ n other. is.others n other;
  labelled = inl refl;
}

-- what a flush leaves of each file but the index
others_stay : (o : Option Entry) (files : Files) → no_index (with_entry o files) ≡ no_index files
others_stay None files = refl
others_stay (Some e) files = fun_ext (λ (g : FileId). at e files g)
  where
    at : (e : Entry) (files : Files) (g : FileId) → no_index (with_entry (Some e) files) g ≡ no_index files g
    at e files Meta = refl
    at e files Index = refl
    at e files (Volume n) = refl

contents_stay : (files new : Files) (c d : ArchiveContents) (o : Option Entry) → IsArchive files c → IsArchive new d → ((file : FileId) → new file ≡ with_entry o files file) → no_entries d ≡ no_entries c
contents_stay files new c d o is now step =
    let same : no_index new ≡ no_index files = ap no_index (fun_ext step) ∙ others_stay o files in
    let one : ArchiveReading.archive (no_entries d) ≡ ArchiveReading.archive (no_entries c) =
    one_reading (no_index files) (ArchiveReading.archive (no_entries d)) (ArchiveReading.archive (no_entries c)) (subst (λ (f : Files). IsArchive f (no_entries d)) same (without_index new d now)) (without_index files c is) in cc

-- ---- what is flushed goes on

module _ {name : LabelFields} (left : Files) (limit : ℕ) (events : List Event) (w : Written) (b now : HeldBack) (old held : Holdings) (g : IsGoing name left limit events w b old) (lead : LeadFrom name limit left events (Stand.opened w)) (limit_same : now.kept.limit ≡ b.kept.limit) (open_ : now.kept.closed ≡ false) (none : now.runs ≡ []) (planned : now.planned ≡ now.kept.ends)
    (sure : IsVolumeSure now.kept.ends.volume held) where
  abbrev o : Meant
  o = meant_of g.first w g.later

  pub flush_goes : IsFlushed o (written_back b).kept now.kept held → (new : Written) × Flushes w new × IsGoing name left limit (events ++ Event.flushed ∷ []) new now held
  flush_goes f =
      let same : no_entries f.new.contents ≡ no_entries w.contents = contents_stay w.files f.new.files w.contents f.new.contents _ g.is.stands.keeps.is f.is.at.stands.keeps.is f.step.is in
      let volumes : f.new.contents.volumes ≡ w.contents.volumes = ap (λ (c : ArchiveContents). c.volumes) same in
      let last : EndsWhole f.new.files f.new.contents now.kept.ends.volume = f.is.at.stands.keeps.last in
      let was : EndsWhole w.files w.contents b.planned.volume = g.is.stands.keeps.last in
      let number : now.kept.ends.volume ≡ w.volume = last_number last.before was.before now.kept.ends.volume b.planned.volume last.items was.items (sym last.are ∙ volumes ∙ was.are) ∙ g.volume in
      let new : Written = record { files = f.new.files; contents = f.new.contents; volume = w.volume } in
      let items : items_by (events ++ Event.flushed ∷ []) ≡ items_by events = items_more events Event.flushed ∙ append-nil (items_by events) in
      let flushes : Flushes w new = record {
        step = subst (λ (n : ℕ). FlushStep w.files w.contents n (greatest_in w.contents) (has_item w.contents) f.new.files) g.volume f.step;
        is = f.is.at.stands.keeps.is;
        records = ap (λ (c : ArchiveContents). c.records) same;
        entries = f.entries_are ∙ ap (λ (n : ℕ). w.contents.entries ++ option_to_list (due_in w.files w.contents n (greatest_in w.contents) (has_item w.contents))) g.volume;
        items = f.items_same;
        volume = refl;
        last = subst (λ (n : ℕ). EndsWhole f.new.files f.new.contents n) number last;
      } in (
        new,
        flushes,
        record {
          label = g.label;
          first = g.first;
          opens = g.opens;
          written = new;
          acknowledged = f.new.acknowledged;
          pending = [];
          later = f.new.acknowledged;
          is = subst (λ (n : Meant). IsHolding n now [] n held) (means_files g.first f.new w.volume now.kept.ends f.started f.gone_is f.is.at.ends f.is.at.stands.keeps.is) (holds_nothing f.new now held f.is none planned);
          volume = ap (λ (e : Ends). e.volume) planned ∙ number;
          open_ = open_;
          limit_is = limit_same ∙ g.limit_is;
          items_are = f.items_same ∙ g.items_are ∙ ap (λ (xs : List Item). items_of g.first.contents.volumes ++ xs) (sym items);
          apart = subst (λ (xs : List Item). AreApart (items_of g.first.contents.volumes) xs) (sym items) g.apart;
          enough = omega (arith, f.all, ap length g.items_are, length-append (items_of g.first.contents.volumes) (items_by events), sure_flushed events);
          front = events ++ Event.flushed ∷ [];
          behind = sym (append-nil (events ++ Event.flushed ∷ []));
          led = lead_more name limit (Stand.found left) events (Stand.opened w) Event.flushed (Stand.opened new) lead (new, flushes, refl);
          last = flushes.last;
          each = (refl, refl);
          settled = λ nothing. is_settled f.new now.kept.ends.volume held f.is.at.stands sure;
        },
      )

  -- ---- what is synced goes on

  pub sync_goes : (l : IsLogger (all_acknowledged o) now.kept held) → now.kept ≡ counting_all (written_back b).kept → IsGoing name left limit (events ++ Event.synced ∷ []) w now held
  sync_goes l same =
      let items : items_by (events ++ Event.synced ∷ []) ≡ items_by events = items_more events Event.synced ∙ append-nil (items_by events) in
      record {
        label = g.label;
        first = g.first;
        opens = g.opens;
        written = w;
        acknowledged = length (items_of w.contents.volumes);
        pending = [];
        later = length (items_of w.contents.volumes);
        is = holds_nothing (all_acknowledged o) now held l none planned;
        volume = ap (λ (e : Ends). e.volume) planned ∙ ap (λ (k : Kept). k.ends.volume) same ∙ g.volume;
        open_ = open_;
        limit_is = limit_same ∙ g.limit_is;
        items_are = g.items_are ∙ ap (λ (xs : List Item). items_of g.first.contents.volumes ++ xs) (sym items);
        apart = subst (λ (xs : List Item). AreApart (items_of g.first.contents.volumes) xs) (sym items) g.apart;
        enough = omega (arith, ap length g.items_are, length-append (items_of g.first.contents.volumes) (items_by events), sure_synced events);
        front = events ++ Event.synced ∷ [];
        behind = sym (append-nil (events ++ Event.synced ∷ []));
        led = lead_more name limit (Stand.found left) events (Stand.opened w) Event.synced (Stand.opened w) lead refl;
        last = subst (λ (n : ℕ). EndsWhole w.files w.contents n) g.volume g.is.stands.keeps.last;
        each = (refl, refl);
        settled = λ nothing. is_settled (all_acknowledged o) now.kept.ends.volume held l.at.stands sure;
      }
