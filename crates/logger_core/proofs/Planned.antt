-- The numbers of what is planned are those of the files.
use Rattle.std.proofs.Common.{◌≡◌, inl, ℕ, ◌+◌, ◌<◌, ◌≤◌, Bool, true, false, List, [], ◌∷◌, ◌++◌, length, Option, None, Some, refl, sym, ap, ◌∙◌, subst, append_assoc, arith, length-append}
use Rattle.std.specs.Prelude.{Contains, IfSome}
use Rattle.std.proofs.lemmas.List.{append-nil}
use Rattle.pcp_base.specs.Time.{Moment, IsMoment}
use Rattle.pcp_base.specs.declared.file.FileId.TheVariants.{Meta, Index, Volume}
use Rattle.pcp_base.specs.declared.result.Item.{Item}
use Rattle.pcp_model.specs.declared.records.Entry.{Entry}
use Rattle.pcp_model.specs.declared.records.MetaRecord.{MetaRecord}
use Rattle.pcp_model.specs.Disk.{Files, Holdings}
use Rattle.pcp_model.specs.Sound.{NoItemAfter, NoDomainAfter}
use Rattle.pcp_model.specs.Written.{with_added}
use Rattle.pcp_model.proofs.Added.{added_this, items_of-append}
use Rattle.pcp_outside.specs.Causes.{shown_count}
use Rattle.logger_core.specs.declared.ends.Ends.{Ends}
use Rattle.logger_core.specs.declared.preparing.Made.{Made}
use Rattle.logger_core.specs.Going.{AreSmall, GrowsBy, all_counted}
use Rattle.logger_core.specs.Held.{Grown, IsBase, IsRunBounded, run_of}
use Rattle.logger_core.specs.LogSteps.{base_number, with_run}
use Rattle.logger_core.specs.Meant.{Meant, AreEnds, items_in}
use Rattle.logger_core.specs.Planning.{due_at, switch_at, with_put, flushed_ends, opened_ends, ready_ends, ran_ends}
use Rattle.logger_core.specs.Runs.{IsLastStamp, IsReady}
use Rattle.logger_core.specs.Steps.{IsAbove, IsGreatest, NoEntryAfter, last_entry}
use Rattle.logger_core.specs.Writing.{IsBounded}
use Rattle.logger_core.proofs.Whole.{contains_last}

-- ---- what an entry changes

pub put_meta : (o : Option Entry) (e : Ends) → (with_put o e).meta ≡ e.meta
put_meta None e = refl
put_meta (Some x) e = refl

pub put_volume : (o : Option Entry) (e : Ends) → (with_put o e).volume ≡ e.volume
put_volume None e = refl
put_volume (Some x) e = refl

pub put_length : (o : Option Entry) (e : Ends) → (with_put o e).length ≡ e.length
put_length None e = refl
put_length (Some x) e = refl

pub put_index : (o : Option Entry) (e : Ends) → (with_put o e).index ≤ e.index + 20
put_index None e = omega arith
put_index (Some x) e = omega arith

-- ---- before a run

pub ready_meta : (b : Bool) (e : Ends) → (ready_ends b e).meta ≡ e.meta
ready_meta false e = refl
ready_meta true e = put_meta (switch_at (opened_ends (flushed_ends e))) (opened_ends (flushed_ends e)) ∙ put_meta (due_at (all_counted e)) (all_counted e)

pub ready_index : (b : Bool) (e : Ends) → (ready_ends b e).index ≤ e.index + 40
ready_index false e = omega arith
ready_index true e = omega (arith, put_index (switch_at (opened_ends (flushed_ends e))) (opened_ends (flushed_ends e)), put_index (due_at (all_counted e)) (all_counted e))

pub ready_volume : (b : Bool) (e : Ends) → (ready_ends b e).volume ≡ base_number b e.volume
ready_volume false e = refl
ready_volume true e = put_volume (switch_at (opened_ends (flushed_ends e))) (opened_ends (flushed_ends e)) ∙ ap (λ (n : ℕ). n + 1) (put_volume (due_at (all_counted e)) (all_counted e))

pub ready_next : (b : Bool) (e : Ends) → AreSmall e → (b ≡ true → e.volume + 1 < 2147483648) → (ready_ends b e).volume < 2147483648
ready_next false e small next = small.volume
ready_next true e small next = let low : e.volume + 1 < 2147483648 = next refl in omega (arith, low, ready_volume true e)

pub ready_room : (b : Bool) (e : Ends) (item : ℕ) → item < 4294967296 → (b ≡ false → e.length + item < 9223372036854775808) → (ready_ends b e).length + item < 9223372036854775808
ready_room false e item few room = room refl
ready_room true e item few room = omega (arith, few, put_length (switch_at (opened_ends (flushed_ends e))) (opened_ends (flushed_ends e)))

-- ---- a run

pub run_small : (e : Ends) (b : Bool) (records items count : ℕ) (t : Moment) → AreSmall e → (b ≡ true → e.volume + 1 < 2147483648) → e.meta + records < 9223372036854775808 → e.index + 40 ≤ 2147483647 → (ready_ends b e).length + items < 9223372036854775808
    → AreSmall (ran_ends records items count t (ready_ends b e))
run_small e b records items count t small next meta index room = record {
  volume = ready_next b e small next;
  meta = omega (arith, meta, ready_meta b e);
  index = omega (arith, index, ready_index b e);
  length_small = room;
}

pub run_bounded : (e : Ends) (made : Made) (t : Moment) → IsBounded e made → IsRunBounded e (run_of made t)
run_bounded e made t b = record { some = omega arith; next = b.next; meta = b.meta; room = ready_room made.crossing e (length made.item) b.item b.room }

shown_twice : (a b c : ℕ) → shown_count (shown_count (a + b) + c) ≡ shown_count (a + (b + c))
shown_twice a b c = omega arith

-- two runs in one volume are one
pub ran_twice : (a b c d k n : ℕ) (u t : Moment) (s : Ends) → ran_ends b d n t (ran_ends a c k u s) ≡ ran_ends (a + b) (c + d) (k + n) t s
ran_twice a b c d k n u t s =
    let meta : (s.meta + a) + b ≡ s.meta + (a + b) = omega arith in
    let size : (s.length + c) + d ≡ s.length + (c + d) = omega arith in
    ap (λ (x : ℕ). record { meta = x; index = s.index; volume = s.volume; length = (s.length + c) + d; greatest = Some t; entry = s.entry; logged = shown_count (shown_count (s.logged + k) + n); acknowledged = s.acknowledged }) meta
    ∙ ap (λ (x : ℕ). record { meta = s.meta + (a + b); index = s.index; volume = s.volume; length = x; greatest = Some t; entry = s.entry; logged = shown_count (shown_count (s.logged + k) + n); acknowledged = s.acknowledged }) size
    ∙ ap (λ (x : ℕ). record { meta = s.meta + (a + b); index = s.index; volume = s.volume; length = s.length + (c + d); greatest = Some t; entry = s.entry; logged = x; acknowledged = s.acknowledged }) (shown_twice s.logged k n)

-- ---- what is meant behind a run

module _ (n : Meant) (s : Ends) (records : List MetaRecord) (items : List Item) (meta_bytes item_bytes : List ℕ) (t : Moment) (count : ℕ) (o : Meant) (ends : AreEnds n s) (last : IsLastStamp n records items t) (many : length items ≡ count)
    (g : Grown n records items t (with_run s.volume meta_bytes item_bytes n.files) o) where
  meta_file : o.files Meta ≡ n.files Meta ++ meta_bytes
  meta_file = g.files_are Meta

  index_file : o.files Index ≡ n.files Index
  index_file = g.files_are Index

  volume_file : o.files (Volume s.volume) ≡ n.files (Volume s.volume) ++ item_bytes
  volume_file = g.files_are (Volume s.volume) ∙ added_this s.volume item_bytes (with_added Meta meta_bytes n.files)

  no_item : NoItemAfter t (items_in o)
  no_item = subst (NoItemAfter t) (sym g.longer.items) last.before

  no_domain : NoDomainAfter t o.contents.records
  no_domain = subst (NoDomainAfter t) (sym g.longer.records) last.domains

  same_entries : o.contents.entries ≡ n.contents.entries
  same_entries = g.longer.entries ∙ append-nil n.contents.entries

  no_entry : NoEntryAfter t o.contents.entries
  no_entry = subst (NoEntryAfter t) (sym same_entries) last.entries

  there : Contains (items_in o) last.last
  there = subst (λ xs. Contains xs last.last) (sym (g.longer.items ∙ ap (λ xs. items_in n ++ xs) last.are ∙ sym (append_assoc (items_in n) last.first (last.last ∷ [])))) (contains_last (items_in n ++ last.first) last.last)

  pub grown_ends : AreEnds o (ran_ends (length meta_bytes) (length item_bytes) count t s)
  grown_ends = record {
    meta = omega (arith, ends.meta, ap length meta_file, length-append (n.files Meta) meta_bytes);
    index = ends.index ∙ ap length (sym index_file);
    length_is = omega (arith, ends.length_is, ap length volume_file, length-append (n.files (Volume s.volume)) item_bytes);
    greatest = sym g.greatest_is;
    moment = subst (λ (x : Option Moment). IfSome x IsMoment) (sym g.greatest_is) last.moment;
    above = subst (IsAbove o.contents) (sym g.greatest_is) (no_item, no_domain, no_entry);
    found = λ none. subst (IsGreatest o.contents) (sym g.greatest_is) (inl (last.last, there, last.stamped), no_item, no_domain, no_entry);
    entry = ends.entry ∙ ap last_entry (sym same_entries);
    logged = omega (arith, ends.logged, ap length g.longer.items, length-append (items_in n) items, g.gone_is);
    acknowledged_is = omega (arith, ends.acknowledged_is, g.acknowledged_is, g.gone_is);
  }

-- what is meant then, before any byte of it is written
abbrev pub behind : Meant → List MetaRecord → List Item → Moment → ℕ → List ℕ → List ℕ → Meant
behind n records items t number meta_bytes item_bytes = record {
  start = n.start;
  files = with_run number meta_bytes item_bytes n.files;
  contents = record { label = n.contents.label; records = n.contents.records ++ records; entries = n.contents.entries; volumes = n.contents.volumes ++ (number, items) ∷ [] };
  acknowledged = n.acknowledged;
  gone = n.gone;
  greatest = Some t;
}

pub behind_grown : (n : Meant) (records : List MetaRecord) (items : List Item) (t : Moment) (number : ℕ) (meta_bytes item_bytes : List ℕ) → Grown n records items t (with_run number meta_bytes item_bytes n.files) (behind n records items t number meta_bytes item_bytes)
behind_grown n records items t number meta_bytes item_bytes = record {
  started = refl;
  acknowledged_is = refl;
  gone_is = refl;
  greatest_is = refl;
  longer = record { label = refl; records = refl; entries = sym (append-nil n.contents.entries); items = items_of-append n.contents.volumes ((number, items) ∷ []) ∙ ap (λ xs. items_in n ++ xs) (append-nil items) };
  files_are = λ file. refl;
}

pub grown_of : (n : Meant) (records : List MetaRecord) (items : List Item) (t : Moment) (files : Files) (number : ℕ) (held : Holdings) → (g : GrowsBy n records [] items files number held) → g.new.greatest ≡ Some t → Grown n records items t files g.new
grown_of n records items t files number held g stamped = record { started = g.started; acknowledged_is = g.acknowledged_is; gone_is = g.gone_is; greatest_is = stamped; longer = g.longer; files_are = g.files_are }

pub base_of : (m : Meant) (e after : Ends) (crossing : Bool) (held : Holdings) → (r : IsReady m e after crossing held) → IsBase m e crossing r.new
base_of m e after crossing held r = record {
  started = r.started;
  gone_is = r.gone_is;
  greatest_is = r.greatest_is;
  label_same = r.label_same;
  records_same = r.records_same;
  entries_are = r.entries_are;
  items_same = r.items_same;
  still = r.still;
  acknowledged_is = r.acknowledged_is;
  files_are = r.files_are;
}

pub base_already : (m : Meant) (e : Ends) → IsBase m e false m
base_already m e = record { started = refl; gone_is = refl; greatest_is = refl; label_same = refl; records_same = refl; entries_are = sym (append-nil m.contents.entries); items_same = refl; still = omega arith; acknowledged_is = refl; files_are = λ file. refl }
