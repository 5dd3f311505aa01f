-- Small facts of what is planned.
use Rattle.std.proofs.Common.{Bor, zero, suc, ◌≡◌, ◌≢◌, inl, inr, ℕ, ◌+◌, ◌-◌, ◌<◌, ◌≤◌, Bool, true, false, List, [], ◌∷◌, ◌++◌, length, take, drop, eq-eqb, refl, sym, ap, ◌∙◌, subst, append_assoc, arith, Option, Some, None}
use Rattle.std.specs.Option.{option_copied}
use Rattle.std.specs.Prelude.{IfSome, is_some, not, ◌==◌, if◌then◌else◌, nat_lt, slice_get, slice_index_or, unwrap_or}
use Rattle.std.specs.List.{AllByRecursion}
use Rattle.std.proofs.lemmas.Bool.{le-ltb, lt-ltb, ne_eqb}
use Rattle.std.proofs.lemmas.List.{drop_all, drop_more}
use Rattle.std.proofs.lemmas.Option.{get_or_from_slice_get, slice_get_within}
use Rattle.pcp_base.specs.declared.file.FileId.TheVariants.{Meta, Volume}
use Rattle.pcp_model.specs.declared.records.Entry.{Entry}
use Rattle.pcp_base.specs.declared.file.FileId.{FileId}
use Rattle.pcp_model.specs.Archive.{ArchiveReading, IsStoppedCreation}
use Rattle.pcp_model.specs.Disk.{Files}
use Rattle.pcp_model.specs.LabelFields.{LabelFields}
use Rattle.pcp_model.specs.Records.{IsRecord, entries, entry}
use Rattle.pcp_model.proofs.Sound.{labelled_long}
use Rattle.archive_loading.specs.Loaded.{IsKeptOf, IsOver, Loaded}
use Rattle.archive_loading.specs.Metadata.{IsMetaPart}
use Rattle.archive_loading.specs.declared.metadata.MetaPart.TheVariants.{Begun, Stops}
use Rattle.archive_reader.specs.declared.fault.ReaderFault.{ReaderFault}
use Rattle.archive_reader.specs.declared.fault.ReaderFault.TheVariants.{Compressed, DiskFault, NoMemory, NotArchive}
use Rattle.archive_reader.proofs.Loadable.{loads_readable}
use Rattle.archive_recovery.specs.declared.mending.Last.{Last}
use Rattle.log_export.specs.Exported.{is_one_of, kept_entries, same_entry, with_first}
use Rattle.log_export.specs.Planning.{HasArchive, begins_with, last_of, left_of, up_to_last}
use Rattle.log_export.specs.Reading.{IsReadFault, IsWant}

-- ---- the last volume

behind : (v : ℕ × ℕ) (vs : List (ℕ × ℕ)) → length (v ∷ vs) - 1 ≡ length vs
behind v vs = omega arith

abbrev pub last_from : ℕ → ℕ × ℕ → Option Last
last_from end v = Some record { number = v.0; end = if nat_lt v.1 132 then None else Some end; length = v.1 }

pub last_at : (end : ℕ) (v : ℕ × ℕ) (vs : List (ℕ × ℕ)) → last_from end (slice_index_or (v ∷ vs) (length vs) (0, 0)) ≡ last_of end (v ∷ vs)
last_at end v [] = refl
last_at end v (w ∷ vs) = last_at end w vs

pub last_is : (end : ℕ) (vs : List (ℕ × ℕ)) → 0 < length vs → last_from end (slice_index_or vs (length vs - 1) (0, 0)) ≡ last_of end vs
last_is end [] some = absurd (omega (arith, some))
last_is end (v ∷ vs) some = ap (λ n. last_from end (slice_index_or (v ∷ vs) n (0, 0))) (behind v vs) ∙ last_at end v vs

-- ---- entries

pub drop_get : (es : List Entry) (at : ℕ) (e : Entry) → slice_get es at ≡ Some e → drop at es ≡ e ∷ drop (at + 1) es
drop_get es at e h = drop_more es at e (slice_get_within es at e h) ∙ ap (λ y. y ∷ drop (at + 1) es) (get_or_from_slice_get es at e e h)

-- one that is passed over, and one that isn't
pub passes : (ns : List ℕ) (es : List Entry) (at : ℕ) (e : Entry) → slice_get es at ≡ Some e → is_one_of ns e.volume ≡ false → kept_entries ns (drop at es) ≡ kept_entries ns (drop (at + 1) es)
passes ns es at e h out = ap (kept_entries ns) (drop_get es at e h) ∙ ap (λ (b : Bool). if b then e ∷ kept_entries ns (drop (at + 1) es) else kept_entries ns (drop (at + 1) es)) out

pub keeps : (ns : List ℕ) (es : List Entry) (at : ℕ) (e : Entry) → slice_get es at ≡ Some e → is_one_of ns e.volume ≡ true → kept_entries ns (drop at es) ≡ e ∷ kept_entries ns (drop (at + 1) es)
keeps ns es at e h listed = ap (kept_entries ns) (drop_get es at e h) ∙ ap (λ (b : Bool). if b then e ∷ kept_entries ns (drop (at + 1) es) else kept_entries ns (drop (at + 1) es)) listed

pub none_there : (es : List Entry) (at : ℕ) → at < length es → slice_get es at ≡ None → ⊥
none_there [] at lt h = omega (arith, lt)
none_there (e ∷ es) zero lt h = let both : Some e ≡ None = h in cc
none_there (e ∷ es) (suc at) lt h = none_there es at (omega (arith, lt)) h

pub all_passed : (ns : List ℕ) (es : List Entry) (at : ℕ) → length es ≤ at → kept_entries ns (drop at es) ≡ []
all_passed ns es at past = ap (kept_entries ns) (drop_all at es past)

-- the bytes of one more
pub put_more : (ns : List ℕ) (es : List Entry) (at : ℕ) (e : Entry) (was before now : List ℕ) → slice_get es at ≡ Some e → now ≡ before ++ (if is_one_of ns e.volume then entry e else []) → before ++ entries (kept_entries ns (drop at es)) ≡ was ++ entries (kept_entries ns es)
    → now ++ entries (kept_entries ns (drop (at + 1) es)) ≡ was ++ entries (kept_entries ns es)
put_more ns es at e was before now h is so_far =
    ap (λ t. t ++ entries (kept_entries ns (drop (at + 1) es))) is
    ∙ append_assoc before (if is_one_of ns e.volume then entry e else []) (entries (kept_entries ns (drop (at + 1) es)))
    ∙ ap (λ t. before ++ t) (by (is_one_of ns e.volume) ∙ sym (ap (λ es. entries (kept_entries ns es)) (drop_get es at e h)))
    ∙ so_far
  where
    by : (b : Bool) → (if b then entry e else []) ++ entries (kept_entries ns (drop (at + 1) es)) ≡ entries (if b then e ∷ kept_entries ns (drop (at + 1) es) else kept_entries ns (drop (at + 1) es))
    by true = refl
    by false = refl

-- ---- volumes

pub one_here : (ms : List ℕ) (m n : ℕ) → m ≡ n → is_one_of (m ∷ ms) n ≡ true
one_here ms m n e = ap (λ (b : Bool). if b then true else is_one_of ms n) (eq-eqb m n e)

pub one_behind : (ms : List ℕ) (m n : ℕ) → m ≢ n → is_one_of (m ∷ ms) n ≡ is_one_of ms n
one_behind ms m n other = ap (λ (b : Bool). if b then true else is_one_of ms n) (ne_eqb m n other)

pub left_short : (v : ℕ × ℕ) (vs : List (ℕ × ℕ)) → (slice_index_or (v ∷ vs) (length vs) (0, 0)).1 < 132 → take (length vs) (v ∷ vs) ≡ left_of (v ∷ vs)
left_short v [] short = sym (ap (λ (b : Bool). if b then [] else v ∷ []) (lt-ltb v.1 132 short))
left_short v (w ∷ vs) short = ap (λ xs. v ∷ xs) (left_short w vs short)

pub left_long : (v : ℕ × ℕ) (vs : List (ℕ × ℕ)) → 132 ≤ (slice_index_or (v ∷ vs) (length vs) (0, 0)).1 → v ∷ vs ≡ left_of (v ∷ vs)
left_long v [] long = sym (ap (λ (b : Bool). if b then [] else v ∷ []) (le-ltb v.1 132 long))
left_long v (w ∷ vs) long = ap (λ xs. v ∷ xs) (left_long w vs long)

pub short_left : (vs : List (ℕ × ℕ)) → 0 < length vs → (slice_index_or vs (length vs - 1) (0, 0)).1 < 132 → take (length vs - 1) vs ≡ left_of vs
short_left [] some short = absurd (omega (arith, some))
short_left (v ∷ vs) some short = ap (λ n. take n (v ∷ vs)) (behind v vs) ∙ left_short v vs (subst (λ n. (slice_index_or (v ∷ vs) n (0, 0)).1 < 132) (behind v vs) short)

pub long_left : (vs : List (ℕ × ℕ)) → 0 < length vs → 132 ≤ (slice_index_or vs (length vs - 1) (0, 0)).1 → vs ≡ left_of vs
long_left [] some long = absurd (omega (arith, some))
long_left (v ∷ vs) some long = left_long v vs (subst (λ n. 132 ≤ (slice_index_or (v ∷ vs) n (0, 0)).1) (behind v vs) long)

pub begins_some : (start : Entry) (kept : List Entry) (found : Entry) → slice_get kept 0 ≡ Some found → same_entry start found ≡ begins_with start kept
begins_some start [] found h = let both : None ≡ Some found = h in cc
begins_some start (e ∷ kept) found h = ap (same_entry start) (same h)
  where
    same : Some e ≡ Some found → found ≡ e
    same h = cc

pub begins_none : (start : Entry) (kept : List Entry) → slice_get kept 0 ≡ None → false ≡ begins_with start kept
begins_none start [] h = refl
begins_none start (e ∷ kept) h = let both : Some e ≡ None = h in cc

-- the first entry and the others
pub first_put : (start : Entry) (kept : List Entry) → (if begins_with start kept then [] else entry start) ++ entries kept ≡ entries (with_first start kept)
first_put start [] = refl
first_put start (e ∷ kept) = by (same_entry start e)
  where
    by : (b : Bool) → (if b then [] else entry start) ++ entries (e ∷ kept) ≡ entries (if b then e ∷ kept else start ∷ e ∷ kept)
    by true = refl
    by false = refl

-- ---- Meta of an archive

pub never_begun : (files : Files) (size : ℕ) → HasArchive files → IsMetaPart (files Meta) (Begun size) → ⊥
never_begun files size (c, is) begun = omega (arith, begun.2.short, labelled_long IsRecord (files Meta) c.label _ c.records is.meta.torn is.meta.holds)

pub never_stops : (files : Files) (at : ℕ) → HasArchive files → IsMetaPart (files Meta) (Stops at) → ⊥
never_stops files at (c, is) (inl label) = loads_readable files Meta at (ArchiveReading.archive c, is) (inl label)
never_stops files at (c, is) (inr records) = loads_readable files Meta at (ArchiveReading.archive c, is) (inr (inr records))

abbrev pub last_with : ℕ × ℕ → Option ℕ → Option Last
last_with v end = Some record { number = v.0; end = end; length = v.1 }

-- a number of one of some volumes is one that a volume may have
pub low_last : (end : ℕ) (vs : List (ℕ × ℕ)) → AllByRecursion (λ (v : ℕ × ℕ). v.0 < 4294967295) vs → IfSome (last_of end vs) (λ (l : Last). l.number < 4294967295)
low_last end [] all = tt
low_last end (v ∷ []) all = all.0
low_last end (v ∷ w ∷ vs) all = low_last end (w ∷ vs) all.1

-- ---- the volumes that are written

pub below_last : (files : Files) (l : Last) (n : ℕ) → n < l.number → up_to_last files (Some l) n ≡ files (Volume n)
below_last files l n lt = ap (λ (b : Bool). if b then files (Volume n) else if n == l.number then take (unwrap_or l.end 0) (files (Volume n)) else []) (lt-ltb n l.number lt)

pub at_last : (files : Files) (l : Last) → up_to_last files (Some l) l.number ≡ take (unwrap_or l.end 0) (files (Volume l.number))
at_last files l =
    ap (λ (b : Bool). if b then files (Volume l.number) else if l.number == l.number then take (unwrap_or l.end 0) (files (Volume l.number)) else []) (le-ltb l.number l.number (omega arith))
    ∙ ap (λ (b : Bool). if b then take (unwrap_or l.end 0) (files (Volume l.number)) else []) (eq-eqb l.number l.number refl)

pub above_last : (files : Files) (l : Last) (n : ℕ) → l.number < n → up_to_last files (Some l) n ≡ []
above_last files l n lt =
    ap (λ (b : Bool). if b then files (Volume n) else if n == l.number then take (unwrap_or l.end 0) (files (Volume n)) else []) (le-ltb n l.number (omega (arith, lt)))
    ∙ ap (λ (b : Bool). if b then take (unwrap_or l.end 0) (files (Volume n)) else []) (ne_eqb n l.number (λ e. omega (arith, lt, e)))

pub given_alone : (given : List ℕ) (n : ℕ) → 1 ≤ n → (if n == 0 then given else []) ≡ []
given_alone given n some = ap (λ (b : Bool). if b then given else []) (ne_eqb n 0 (λ e. omega (arith, some, e)))

pub none_of : {X : Type 0} (o : Option X) → ((x : X) → o ≡ Some x → ⊥) → o ≡ None
none_of None never = refl
none_of (Some x) never = absurd (never x refl)

pub copied_none : {T : Type 0} (o : Option (Bor T)) (b : Bool) → is_some o ≡ not b → b ≡ true → option_copied o ≡ None
copied_none None b said none = refl
copied_none (Some x) true said none = let both : true ≡ false = said in cc
copied_none (Some x) false said none = let both : false ≡ true = none in cc

-- ---- what was loaded

pub stopped_of : (files : Files) (r : Loaded) → IsOver files r → r.label ≡ None → IsStoppedCreation files
stopped_of files r over none = (subst (λ (o : Option LabelFields). IsKeptOf files o r.records r.entries r.volumes) none over).0

pub want_fault : (wrapped : Option FileId) (files : Files) (e : ReaderFault) → IsWant e → IsReadFault wrapped files e
want_fault wrapped files (Compressed file) want = absurd want
want_fault wrapped files (NotArchive file at) want = absurd want
want_fault wrapped files DiskFault want = tt
want_fault wrapped files NoMemory want = tt
