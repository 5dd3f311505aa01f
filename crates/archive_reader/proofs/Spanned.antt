-- The records so far of a segment, and what was kept of their items.
use Rattle.std.proofs.Common.{◌≡◌, inl, inr, ℕ, ◌+◌, ◌-◌, ◌≤◌, Bool, true, false, ◌||◌, List, [], ◌∷◌, ◌++◌, drop, refl, sym, ap, ◌∙◌, subst, arith, Option, Some, None, Result}
use Rattle.std.proofs.lemmas.Bool.{lt-ltb, le-ltb, ltb-false}
use Rattle.std.proofs.lemmas.List.{append-nil}
use Rattle.std.specs.List.{AllByRecursion}
use Rattle.std.specs.Prelude.{if◌then◌else◌, IfErr}
use Rattle.std.specs.Result.{IsErrAnd}
use Rattle.std.proofs.lemmas.Result.{err_from_is_err_and}
use Rattle.pcp_base.specs.Time.{Moment, microseconds}
use Rattle.pcp_base.specs.declared.file.FileId.{FileId}
use Rattle.pcp_base.specs.declared.file.FileId.TheVariants.{Volume}
use Rattle.pcp_base.specs.declared.result.Item.{Item}
use Rattle.pcp_model.proofs.Lists.{each-append}
use Rattle.pcp_model.specs.declared.records.Entry.{Entry}
use Rattle.pcp_model.specs.Disk.{Files}
use Rattle.pcp_model.specs.Payload.{stamp_of}
use Rattle.pcp_model.specs.Sound.{IsItemBy, NoItemAfter}
use Rattle.temporal_index.specs.Seeking.{IsLast, Before, NotBefore, NotAfter, IsAfter}
use Rattle.archive_frame.proofs.Records.{Ends, stood}
use Rattle.archive_loading.specs.Standing.{ItemStands}
use Rattle.archive_loading.specs.Taking.{IsPart, Took}
use Rattle.archive_reader.specs.declared.fault.ReaderFault.{ReaderFault}
use Rattle.archive_reader.specs.declared.fault.ReaderFault.TheVariants.{Compressed, NotArchive, DiskFault, NoMemory}
use Rattle.archive_reader.specs.declared.segments.Ahead.TheVariants.{End as AheadEnd}
use Rattle.archive_reader.specs.Asked.{last_entry, is_entry_before, is_entry_by, HasSegment, IsSegmentFault, IsRangeOn, kept_from}
use Rattle.archive_reader.specs.Lasts.{IsLastOn}
use Rattle.archive_reader.specs.Searches.{or_else, last_of, between, is_before, is_after}
use Rattle.archive_reader.specs.Steps.{IsAhead, IsAheadFault}
use Rattle.archive_reader.specs.Takes.{TookThere, TookNext, Spans, TakesSegment}
use Rattle.archive_reader.specs.Walks.{next_volumes, next_offset, StandsNext, StepsOver, IsEnd, IsBad, Leads, AllFrom, StopsAt}

-- a fault that is handed on
pub handed_on : {T : Type 0} (r : Result T ReaderFault) (e : ReaderFault) (P : ReaderFault → Type 0) → IsErrAnd r (λ y. y ≡ e) → P e → IfErr r P
handed_on r e P was h = let p = err_from_is_err_and r was in subst (λ x. IfErr x P) (sym p.1) (subst P (sym p.2) h)

-- ---- records one behind another, and their bytes

pub spans_lead : (files : Files) (xs : List Item) (vs : List (ℕ × ℕ)) (at : ℕ) (ws : List (ℕ × ℕ)) (to size : ℕ) → Spans files vs at xs ws to size → Leads files vs at xs ws to
spans_lead files [] vs at ws to size s = (s.0, s.1)
spans_lead files (x ∷ xs) vs at ws to size (us, next, more, step, rest, sum) = (us, next, step, spans_lead files xs us next ws to more rest)

-- one record more
pub spans_on : (files : Files) (xs : List Item) (vs : List (ℕ × ℕ)) (at : ℕ) (ws : List (ℕ × ℕ)) (to size : ℕ) (x : Item) (us : List (ℕ × ℕ)) (next gain : ℕ) → Spans files vs at xs ws to size → StepsOver files ws to x us next
    → next ≡ next_offset ws to + gain → Spans files vs at (xs ++ x ∷ []) us next (size + gain)
spans_on files [] vs at ws to size x us next gain s step grows =
    let same : next_offset ws to ≡ next_offset vs at = ap (λ l. next_offset l to) s.0 ∙ ap (next_offset vs) s.1 in
    (us, next, 0, subst (λ o. StepsOver files vs o x us next) s.1 (subst (λ l. StepsOver files l to x us next) s.0 step), (refl, refl, refl), omega (arith, grows, same, s.2))
spans_on files (y ∷ xs) vs at ws to size x us next gain (ms, m, more, first, rest, sum) step grows =
    (ms, m, more + gain, first, spans_on files xs ms m ws to more x us next gain rest step grows, omega (arith, sum))

stands_gain : (files : Files) (us : List (ℕ × ℕ)) (at : ℕ) (x : Item) (to : ℕ) → StandsNext files us at x to → at + 12 ≤ to
stands_gain files [] at x to s = absurd s
stands_gain files (u ∷ us) at x to s =
    let e : Ends (files (Volume u.0)) s.payload at to = stood (files (Volume u.0)) s.payload at to s.stands in omega (arith, e.size, e.sized.0)

step_gain : (files : Files) (vs : List (ℕ × ℕ)) (at : ℕ) (x : Item) (us : List (ℕ × ℕ)) (next : ℕ) → StepsOver files vs at x us next → next_offset vs at + 12 ≤ next
step_gain files vs at x us next step = stands_gain files us (next_offset vs at) x next step.stands

took_item : (bytes : List ℕ) (at next : ℕ) (x : Item) (before after : ℕ) → ItemStands bytes at next x → Took bytes at before after → after + at ≤ before + next
took_item bytes at next x before after s t = go t.part
  where
    go : IsPart bytes at t.count → after + at ≤ before + next
    go (inl none) = let e : Ends bytes s.payload at next = stood bytes s.payload at next s.stands in omega (arith, e.size, none, t.most)
    go (inr (fits, inl word)) = let e : Ends bytes s.payload at next = stood bytes s.payload at next s.stands in omega (arith, e.size, word, t.most)
    go (inr (fits, inr (sized, says))) = let e : Ends bytes s.payload at next = stood bytes s.payload at next s.stands in omega (arith, e.size, e.head, says, t.most)

took_there : (files : Files) (us : List (ℕ × ℕ)) (at : ℕ) (x : Item) (next before after : ℕ) → StandsNext files us at x next → TookThere files us at before after → after + at ≤ before + next
took_there files [] at x next before after s t = absurd s
took_there files (u ∷ us) at x next before after s t = took_item (files (Volume u.0)) at next x before after s t

-- of a record over which a step went no more was taken than it has
pub took_step : (files : Files) (vs : List (ℕ × ℕ)) (at : ℕ) (x : Item) (us : List (ℕ × ℕ)) (next before after : ℕ) → StepsOver files vs at x us next → TookNext files vs at before after → after + next_offset vs at ≤ before + next
took_step files vs at x us next before after step t =
    took_there files us (next_offset vs at) x next before after step.stands (subst (λ l. TookThere files l (next_offset vs at) before after) (sym step.volumes) t)

took_later : (files : Files) (vs : List (ℕ × ℕ)) (at mid before after : ℕ) → mid ≤ before → TookThere files vs at mid after → TookThere files vs at before after
took_later files [] at mid before after le t = omega (arith, le, t)
took_later files (v ∷ vs) at mid before after le t = record { count = t.count; part = t.part; most = omega (arith, le, t.most) }

took_nothing : (files : Files) (vs : List (ℕ × ℕ)) (at before after : ℕ) → after ≤ before → TookThere files vs at before after
took_nothing files [] at before after le = le
took_nothing files (v ∷ vs) at before after le = record { count = 0; part = inl refl; most = omega (arith, le) }

-- ---- what is kept of items

pub between-append : (from to : Moment) (xs ys : List Item) → between from to (xs ++ ys) ≡ between from to xs ++ between from to ys
between-append from to [] ys = refl
between-append from to (x ∷ xs) ys = go (is_before from x || is_after to x) (between-append from to xs ys)
  where
    go : (b : Bool) → between from to (xs ++ ys) ≡ between from to xs ++ between from to ys
        → (if b then between from to (xs ++ ys) else x ∷ between from to (xs ++ ys)) ≡ (if b then between from to xs else x ∷ between from to xs) ++ between from to ys
    go true more = more
    go false more = ap (λ l. x ∷ l) more

one_kept : (from to : Moment) (xs : List Item) (x : Item) → is_after to x ≡ false → between from to (xs ++ x ∷ []) ≡ kept_from from (between from to xs) x
one_kept from to xs x by = between-append from to xs (x ∷ []) ∙ ap (λ b. between from to xs ++ (if is_before from x || b then [] else x ∷ [])) by ∙ go (is_before from x)
  where
    go : (b : Bool) → between from to xs ++ (if b || false then [] else x ∷ []) ≡ (if b then between from to xs else between from to xs ++ x ∷ [])
    go true = append-nil (between from to xs)
    go false = refl

one_last : (xs : List Item) (x : Item) → last_of (xs ++ x ∷ []) ≡ Some x
one_last [] x = refl
one_last (y ∷ xs) x = ap (λ o. or_else o (Some y)) (one_last xs x)

one_by : (t : Moment) (xs : List Item) (x : Item) → is_after t x ≡ false → NoItemAfter t xs → NoItemAfter t (xs ++ x ∷ [])
one_by t xs x by all =
    let low : microseconds (stamp_of x) ≤ microseconds t = ltb-false (microseconds t) (microseconds (stamp_of x)) by in each-append (IsItemBy t) xs (x ∷ []) all (low, tt)

abbrev pub RangeSoFar : Moment → Moment → List Item → List Item → Type 0
RangeSoFar from to found items = NoItemAfter to items × (found ≡ between from to items)

pub range_more : (from to : Moment) (found : List Item) (x : Item) (more : List Item) → is_after to x ≡ false → more ≡ kept_from from found x → (items : List Item) → RangeSoFar from to found items → RangeSoFar from to more (items ++ x ∷ [])
range_more from to found x more by is items (all, same) = (one_by to items x by all, is ∙ ap (λ l. kept_from from l x) same ∙ sym (one_kept from to items x by))

abbrev pub LastSoFar : Moment → Option Item → List Item → Type 0
LastSoFar t found items = NoItemAfter t items × (found ≡ last_of items)

pub last_more : (t : Moment) (found : Option Item) (x last : Item) → last ≡ x → is_after t x ≡ false → (items : List Item) → LastSoFar t found items → LastSoFar t (Some last) (items ++ x ∷ [])
last_more t found x last is by items (all, same) = (one_by t items x by all, ap Some is ∙ sym (one_last items x))

-- nothing is kept
abbrev pub Passed : List Item → Type 0
Passed items = Unit {0}

-- ---- so far

pub record SoFar (files : Files) (volumes : List (ℕ × ℕ)) (first start : ℕ) (Kept : List Item → Type 0) (index at before now : ℕ) : Type 0 where
  pub items : List Item
  pub size : ℕ
  pub spans : Spans files (drop first volumes) start items (drop index volumes) at size
  pub kept : Kept items
  pub took : now ≤ before + size

module _ (files : Files) (volumes : List (ℕ × ℕ)) (first start before : ℕ) where
  pub nothing_yet : (Kept : List Item → Type 0) → Kept [] → SoFar files volumes first start Kept first start before before
  nothing_yet Kept none = record { items = []; size = 0; spans = (refl, refl, refl); kept = none; took = omega arith }

  pub goes_on : (Kept More : List Item → Type 0) (index at now after : ℕ) (x : Item) (behind next : ℕ) → SoFar files volumes first start Kept index at before now → StepsOver files (drop index volumes) at x (drop behind volumes) next
      → TookNext files (drop index volumes) at now after → ((items : List Item) → Kept items → More (items ++ x ∷ [])) → SoFar files volumes first start More behind next before after
  goes_on Kept More index at now after x behind next s step t more =
      let off : ℕ = next_offset (drop index volumes) at in
      let gain : off + 12 ≤ next = step_gain files (drop index volumes) at x (drop behind volumes) next step in
      record {
        items = s.items ++ x ∷ [];
        size = s.size + (next - off);
        spans = spans_on files s.items (drop first volumes) start (drop index volumes) at s.size x (drop behind volumes) next (next - off) s.spans step (omega (arith, gain));
        kept = more s.items s.kept;
        took = omega (arith, s.took, gain, took_step files (drop index volumes) at x (drop behind volumes) next now after step t);
      }

  its_leads : (Kept : List Item → Type 0) (index at now : ℕ) (s : SoFar files volumes first start Kept index at before now) → Leads files (drop first volumes) start s.items (drop index volumes) at
  its_leads Kept index at now s = spans_lead files s.items (drop first volumes) start (drop index volumes) at s.size s.spans

  pub segment_here : (Kept : List Item → Type 0) (index at now : ℕ) (s : SoFar files volumes first start Kept index at before now) (t : Moment) → NoItemAfter t s.items → IsAhead files volumes index at t AheadEnd → HasSegment files (drop first volumes) start t s.items
  segment_here Kept index at now s t by end = record { last = drop index volumes; to = at; leads = its_leads Kept index at now s; by = by; stops = end }

  pub stops_here : (Kept : List Item → Type 0) (index at now : ℕ) (s : SoFar files volumes first start Kept index at before now) (t : Moment) → NoItemAfter t s.items → (e : ReaderFault) → IsAheadFault files (drop index volumes) at e → IsSegmentFault files (drop first volumes) start t e
  stops_here Kept index at now s t by (Compressed file) f = f
  stops_here Kept index at now s t by (NotArchive file offset) f = record { items = s.items; last = drop index volumes; to = at; leads = its_leads Kept index at now s; by = by; bad = f }
  stops_here Kept index at now s t by DiskFault f = tt
  stops_here Kept index at now s t by NoMemory f = tt

  pub takes_next : (Kept : List Item → Type 0) (index at now : ℕ) (s : SoFar files volumes first start Kept index at before now) (t : Moment) (after : ℕ) → NoItemAfter t s.items → TookNext files (drop index volumes) at now after → TakesSegment files (drop first volumes) start t before after
  takes_next Kept index at now s t after by past = record {
    items = s.items;
    last = drop index volumes;
    to = at;
    size = s.size;
    spans = s.spans;
    by = by;
    past = took_later files (next_volumes (drop index volumes) at) (next_offset (drop index volumes) at) now (before + s.size) after s.took past;
  }

  pub takes_here : (Kept : List Item → Type 0) (index at now : ℕ) (s : SoFar files volumes first start Kept index at before now) (t : Moment) → NoItemAfter t s.items → TakesSegment files (drop first volumes) start t before now
  takes_here Kept index at now s t by = record {
    items = s.items;
    last = drop index volumes;
    to = at;
    size = s.size;
    spans = s.spans;
    by = by;
    past = took_nothing files (next_volumes (drop index volumes) at) (next_offset (drop index volumes) at) (before + s.size) now s.took;
  }

  pub all_here : (Kept : List Item → Type 0) (index at now : ℕ) (s : SoFar files volumes first start Kept index at before now) → IsEnd files (drop index volumes) at → AllFrom files (drop first volumes) start s.items
  all_here Kept index at now s end = record { last = drop index volumes; to = at; leads = its_leads Kept index at now s; ends = end }

  pub bad_here : (Kept : List Item → Type 0) (index at now : ℕ) (s : SoFar files volumes first start Kept index at before now) (file : FileId) (offset : ℕ) → IsBad files (drop index volumes) at file offset → StopsAt files (drop first volumes) start s.items file offset
  bad_here Kept index at now s file offset bad = record { last = drop index volumes; to = at; leads = its_leads Kept index at now s; bad = bad }

  pub range_here : (from to : Moment) (found : List Item) (index at now : ℕ) → SoFar files volumes first start (RangeSoFar from to found) index at before now → IsAhead files volumes index at to AheadEnd
      → IsRangeOn files (drop first volumes) start from to found
  range_here from to found index at now s end = record { items = s.items; segment = segment_here (RangeSoFar from to found) index at now s to s.kept.0 end; is = s.kept.1 }

  pub last_here : (t : Moment) (found : Option Item) (index at now : ℕ) → SoFar files volumes first start (LastSoFar t found) index at before now → IsAhead files volumes index at t AheadEnd
      → IsLastOn files (drop first volumes) start t found
  last_here t found index at now s end = record { items = s.items; segment = segment_here (LastSoFar t found) index at now s t s.kept.0 end; is = s.kept.1 }

-- ---- the entry

or_none : {A : Type 0} (o : Option A) → or_else o None ≡ o
or_none None = refl
or_none (Some x) = refl

pub no_entry : (t : Moment) (es : List Entry) → AllByRecursion (NotBefore t) es → last_entry (is_entry_before t) es ≡ None
no_entry t [] all = refl
no_entry t (e ∷ es) all = ap (λ o. or_else o (if is_entry_before t e then Some e else None)) (no_entry t es all.1)
    ∙ ap (λ b. if b then Some e else None) (le-ltb (microseconds e.stamp) (microseconds t) all.0)

in_front : (t : Moment) (front rest : List Entry) (e : Entry) → last_entry (is_entry_before t) rest ≡ Some e → last_entry (is_entry_before t) (front ++ rest) ≡ Some e
in_front t [] rest e is = is
in_front t (f ∷ front) rest e is = ap (λ o. or_else o (if is_entry_before t f then Some f else None)) (in_front t front rest e is)

pub last_is : (t : Moment) (es : List Entry) (found : ℕ × Entry) → IsLast (Before t) (NotBefore t) es found → last_entry (is_entry_before t) es ≡ Some found.1
last_is t es found l =
    let one : last_entry (is_entry_before t) (found.1 ∷ l.behind) ≡ Some found.1 =
    ap (λ o. or_else o (if is_entry_before t found.1 then Some found.1 else None)) (no_entry t l.behind l.others)
    ∙ ap (λ b. if b then Some found.1 else None) (lt-ltb (microseconds found.1.stamp) (microseconds t) l.such) in
    ap (last_entry (is_entry_before t)) l.is ∙ in_front t l.front (found.1 ∷ l.behind) found.1 one

pub no_entry_by : (t : Moment) (es : List Entry) → AllByRecursion (IsAfter t) es → last_entry (is_entry_by t) es ≡ None
no_entry_by t [] all = refl
no_entry_by t (e ∷ es) all = ap (λ o. or_else o (if is_entry_by t e then Some e else None)) (no_entry_by t es all.1)
    ∙ ap (λ (b : Bool). if (if b then false else true) then Some e else None) (lt-ltb (microseconds t) (microseconds e.stamp) all.0)

front_by : (t : Moment) (front rest : List Entry) (e : Entry) → last_entry (is_entry_by t) rest ≡ Some e → last_entry (is_entry_by t) (front ++ rest) ≡ Some e
front_by t [] rest e is = is
front_by t (f ∷ front) rest e is = ap (λ o. or_else o (if is_entry_by t f then Some f else None)) (front_by t front rest e is)

pub last_by : (t : Moment) (es : List Entry) (found : ℕ × Entry) → IsLast (NotAfter t) (IsAfter t) es found → last_entry (is_entry_by t) es ≡ Some found.1
last_by t es found l =
    let one : last_entry (is_entry_by t) (found.1 ∷ l.behind) ≡ Some found.1 =
    ap (λ o. or_else o (if is_entry_by t found.1 then Some found.1 else None)) (no_entry_by t l.behind l.others)
    ∙ ap (λ (b : Bool). if (if b then false else true) then Some found.1 else None) (le-ltb (microseconds t) (microseconds found.1.stamp) l.such) in
    ap (last_entry (is_entry_by t)) l.is ∙ front_by t l.front (found.1 ∷ l.behind) found.1 one
