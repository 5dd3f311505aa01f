-- A search answers one thing: from one place one walk goes on, up to where it halts.
use Rattle.std.proofs.Common.{◌≡◌, ◌⊎◌, inl, inr, ℕ, ◌<◌, List, [], ◌∷◌, refl, sym, ap, ◌∙◌, subst, arith, Option, Some, None}
use Rattle.std.specs.List.{AllByRecursion}
use Rattle.pcp_base.specs.Time.{Moment, microseconds}
use Rattle.pcp_base.specs.declared.file.FileId.{FileId}
use Rattle.pcp_base.specs.declared.file.FileId.TheVariants.{Volume}
use Rattle.pcp_base.specs.declared.result.Item.{Item}
use Rattle.pcp_model.specs.Disk.{Files}
use Rattle.pcp_model.specs.Payload.{stamp_of}
use Rattle.pcp_model.specs.Sound.{IsItemBy}
use Rattle.archive_frame.specs.Steps.{Stands}
use Rattle.archive_frame.proofs.Records.{Ends, stood}
use Rattle.archive_loading.specs.Loaded.{Loaded}
use Rattle.archive_reader.specs.declared.beginning.Begin.{Begin}
use Rattle.archive_reader.specs.declared.beginning.Begin.TheVariants.{At, Outside}
use Rattle.archive_reader.specs.declared.fault.ReaderFault.TheVariants.{NotArchive}
use Rattle.archive_reader.specs.Asked.{HasSegment, SegmentStops, IsRangeFrom, IsRangeFault, IsAtFrom, IsAtFault, IsAtOnFault, IsLastOr, IsBackAt, BackStops, back_end, unless_after, at_begin, range_begin}
use Rattle.archive_reader.specs.Once.{AnswersOnce}
use Rattle.archive_reader.specs.Searches.{last_of, between}
use Rattle.archive_reader.specs.Walks.{volumes_from, next_volumes, next_offset, StepsOver, IsEnd, IsBadThere, IsBad, Leads}
use Rattle.archive_reader.proofs.Segmented.{SameNext, same_step, no_step, not_bad, end_there, moved, same_end, no_other_end}

-- ---- one walk

-- two walks that end at one place
pub record SameWalk (items all : List Item) (last end : List (ℕ × ℕ)) (to behind : ℕ) : Type 0 where
  pub items_are : items ≡ all
  pub volumes_are : last ≡ end
  pub offset_is : to ≡ behind

module _ (files : Files) (Passes : Item → Type 0) where
  -- no record of an item that a walk passes over stands there
  abbrev pub Halts : List (ℕ × ℕ) → ℕ → Type 0
  Halts vs at = (x : Item) (us : List (ℕ × ℕ)) (next : ℕ) → StepsOver files vs at x us next → Passes x → ⊥

  halts_here : (vs last : List (ℕ × ℕ)) (at to : ℕ) → (last ≡ vs) × (to ≡ at) → Halts last to → Halts vs at
  halts_here vs last at to here halts = subst (λ o. Halts vs o) here.1 (subst (λ l. Halts l to) here.0 halts)

  pub one_walk : (items all : List Item) (vs : List (ℕ × ℕ)) (at : ℕ) (last : List (ℕ × ℕ)) (to : ℕ) (end : List (ℕ × ℕ)) (behind : ℕ)
      → Leads files vs at items last to → AllByRecursion Passes items → Halts last to → Leads files vs at all end behind → AllByRecursion Passes all → Halts end behind → SameWalk items all last end to behind
  one_walk [] [] vs at last to end behind here by halts there also stops = record { items_are = refl; volumes_are = here.0 ∙ sym there.0; offset_is = here.1 ∙ sym there.1 }
  one_walk [] (y ∷ all) vs at last to end behind here by halts (ws, other, over, rest) also stops = absurd (halts_here vs last at to here halts y ws other over also.0)
  one_walk (x ∷ items) [] vs at last to end behind (us, next, step, more) by halts there also stops = absurd (halts_here vs end at behind there stops x us next step by.0)
  one_walk (x ∷ items) (y ∷ all) vs at last to end behind (us, next, step, more) by halts (ws, other, over, rest) also stops =
      let same : SameNext x y next other = same_step files vs at x y us ws next other step over in
      let on : SameWalk items all last end to behind = one_walk items all us next last to end behind more by.1 halts (moved files vs us ws at next other x y all end behind step over rest) also.1 stops in
      record { items_are = ap (λ z. z ∷ items) same.item ∙ ap (λ l. y ∷ l) on.items_are; volumes_are = on.volumes_are; offset_is = on.offset_is }

-- two places are the same
abbrev pub SamePlace : FileId → FileId → ℕ → ℕ → Type 0
SamePlace file other offset elsewhere = (file ≡ other) × (offset ≡ elsewhere)

bad_once : (files : Files) (us : List (ℕ × ℕ)) (at : ℕ) (file other : FileId) (offset elsewhere : ℕ) → IsBadThere files us at file offset → IsBadThere files us at other elsewhere → SamePlace file other offset elsewhere
bad_once files [] at file other offset elsewhere bad worse = absurd bad
bad_once files (u ∷ us) at file other offset elsewhere bad worse = (bad.0 ∙ sym worse.0, bad.1 ∙ sym worse.1)

pub same_bad : (files : Files) (vs ws : List (ℕ × ℕ)) (at to : ℕ) (file other : FileId) (offset elsewhere : ℕ) → vs ≡ ws → at ≡ to → IsBad files vs at file offset → IsBad files ws to other elsewhere → SamePlace file other offset elsewhere
same_bad files vs ws at to file other offset elsewhere volumes same_offset bad worse =
    bad_once files (next_volumes vs at) (next_offset vs at) file other offset elsewhere bad (subst (λ o. IsBad files vs o other elsewhere) (sym same_offset) (subst (λ l. IsBad files l to other elsewhere) (sym volumes) worse))

-- ---- a segment

module _ (files : Files) (vs : List (ℕ × ℕ)) (at : ℕ) (t : Moment) where
  abbrev Stops : List (ℕ × ℕ) → ℕ → Type 0
  Stops last to = IsEnd files last to ⊎ ((x : Item) × (us : List (ℕ × ℕ)) × (next : ℕ) × StepsOver files last to x us next × (microseconds t < microseconds (stamp_of x)))

  stops_halt : (last : List (ℕ × ℕ)) (to : ℕ) → Stops last to → Halts files (IsItemBy t) last to
  stops_halt last to (inl end) y ws other over by = no_step files last to y ws other end over
  stops_halt last to (inr (x, us, next, step, after)) y ws other over by =
      let same : SameNext x y next other = same_step files last to x y us ws next other step over in
      let later : microseconds t < microseconds (stamp_of y) = subst (λ z. microseconds t < microseconds (stamp_of z)) same.item after in
      omega (arith, later, by)

  bad_halts : (last : List (ℕ × ℕ)) (to : ℕ) (file : FileId) (offset : ℕ) → IsBad files last to file offset → Halts files (IsItemBy t) last to
  bad_halts last to file offset bad y ws other over by = not_bad files last to y ws other file offset bad over

  pub segment_once : (items all : List Item) → HasSegment files vs at t items → HasSegment files vs at t all → items ≡ all
  segment_once items all s o =
      (one_walk files (IsItemBy t) items all vs at s.last s.to o.last o.to s.leads s.by (stops_halt s.last s.to s.stops) o.leads o.by (stops_halt o.last o.to o.stops)).items_are

  pub stop_once : (file other : FileId) (offset elsewhere : ℕ) → SegmentStops files vs at t file offset → SegmentStops files vs at t other elsewhere → SamePlace file other offset elsewhere
  stop_once file other offset elsewhere s o =
      let same : SameWalk s.items o.items s.last o.last s.to o.to =
      one_walk files (IsItemBy t) s.items o.items vs at s.last s.to o.last o.to s.leads s.by (bad_halts s.last s.to file offset s.bad) o.leads o.by (bad_halts o.last o.to other elsewhere o.bad) in
      same_bad files s.last o.last s.to o.to file other offset elsewhere same.volumes_are same.offset_is s.bad o.bad

  not_both : (last : List (ℕ × ℕ)) (to : ℕ) (file : FileId) (offset : ℕ) → Stops last to → IsBad files last to file offset → ⊥
  not_both last to file offset (inl end) bad = end_there files (next_volumes last to) (next_offset last to) file offset bad end
  not_both last to file offset (inr (x, us, next, step, after)) bad = not_bad files last to x us next file offset bad step

  pub segment_apart : (items : List Item) (file : FileId) (offset : ℕ) → HasSegment files vs at t items → SegmentStops files vs at t file offset → ⊥
  segment_apart items file offset s o =
      let same : SameWalk items o.items s.last o.last s.to o.to =
      one_walk files (IsItemBy t) items o.items vs at s.last s.to o.last o.to s.leads s.by (stops_halt s.last s.to s.stops) o.leads o.by (bad_halts o.last o.to file offset o.bad) in
      not_both s.last s.to file offset s.stops (subst (λ k. IsBad files s.last k file offset) (sym same.offset_is) (subst (λ l. IsBad files l o.to file offset) (sym same.volumes_are) o.bad))

-- ---- the record before a place

back_once : (files : Files) (back : Option (ℕ × ℕ)) (t : Moment) (x y : Option Item) → IsBackAt files back t x → IsBackAt files back t y → x ≡ y
back_once files None t x y one other = one ∙ sym other
back_once files (Some v) t x y (a, ends, found) (b, also, told) = found ∙ ap (unless_after t) (same_end (files (Volume v.0)) v.1 a b ends also) ∙ sym told

last_once : (files : Files) (back : Option (ℕ × ℕ)) (t : Moment) (o x y : Option Item) → IsLastOr files back t o x → IsLastOr files back t o y → x ≡ y
last_once files back t (Some z) x y one other = one ∙ sym other
last_once files back t None x y one other = back_once files back t x y one other

one_first : (bytes p q : List ℕ) (first other at : ℕ) → Stands bytes p first at → Stands bytes q other at → first ≡ other
one_first bytes p q first other at s t =
    let e : Ends bytes p first at = stood bytes p first at s in
    let f : Ends bytes q other at = stood bytes q other at t in
    omega (arith, e.size, f.size, e.tail, f.tail)

back_stops_once : (files : Files) (back : Option (ℕ × ℕ)) (file other : FileId) (offset elsewhere : ℕ) → BackStops files back file offset → BackStops files back other elsewhere → SamePlace file other offset elsewhere
back_stops_once files None file other offset elsewhere one also = absurd one
back_stops_once files (Some v) file other offset elsewhere (same, inl (here, none)) (like, inl (there, also)) = (same ∙ sym like, here ∙ sym there)
back_stops_once files (Some v) file other offset elsewhere (same, inl (here, none)) (like, inr o) = absurd (none o.payload elsewhere o.behind o.stands)
back_stops_once files (Some v) file other offset elsewhere (same, inr o) (like, inl (there, none)) = absurd (none o.payload offset o.behind o.stands)
back_stops_once files (Some v) file other offset elsewhere (same, inr o) (like, inr p) =
    (same ∙ sym like, one_first (files (Volume v.0)) o.payload p.payload offset elsewhere v.1 o.stands p.stands)

back_apart : (files : Files) (back : Option (ℕ × ℕ)) (t : Moment) (x : Option Item) (file : FileId) (offset : ℕ) → IsBackAt files back t x → BackStops files back file offset → ⊥
back_apart files None t x file offset found stops = stops
back_apart files (Some v) t x file offset (y, ends, found) (same, inl (here, none)) = none ends.stands.payload ends.first ends.behind ends.stands.stands
back_apart files (Some v) t x file offset (y, ends, found) (same, inr other) = no_other_end (files (Volume v.0)) offset v.1 y ends other

-- ---- the searches

module _ (files : Files) (volumes : List (ℕ × ℕ)) where
  at_found : (t : Moment) (begin : Begin) (x y : Option Item) → IsAtFrom files volumes t begin x → IsAtFrom files volumes t begin y → x ≡ y
  at_found t (At n start) x y one other =
      let back : Option (ℕ × ℕ) = back_end volumes n start in
      let same : one.items ≡ other.items = segment_once files (volumes_from n volumes) start t one.items other.items one.segment other.segment in
      last_once files back t (last_of one.items) x y one.is (subst (λ xs. IsLastOr files back t (last_of xs) y) (sym same) other.is)
  at_found t (Outside n start) x y one other = absurd one

  at_on_stops : (vs : List (ℕ × ℕ)) (at : ℕ) (back : Option (ℕ × ℕ)) (t : Moment) (file other : FileId) (offset elsewhere : ℕ)
      → IsAtOnFault files vs at back t (NotArchive file offset) → IsAtOnFault files vs at back t (NotArchive other elsewhere) → SamePlace file other offset elsewhere
  at_on_stops vs at back t file other offset elsewhere (inl one) (inl also) = stop_once files vs at t file other offset elsewhere one also
  at_on_stops vs at back t file other offset elsewhere (inl one) (inr (none, also)) = absurd (segment_apart files vs at t [] file offset none one)
  at_on_stops vs at back t file other offset elsewhere (inr (none, one)) (inl also) = absurd (segment_apart files vs at t [] other elsewhere none also)
  at_on_stops vs at back t file other offset elsewhere (inr (none, one)) (inr (nothing, also)) = back_stops_once files back file other offset elsewhere one also

  at_stops : (t : Moment) (begin : Begin) (file other : FileId) (offset elsewhere : ℕ) → IsAtFault files volumes t begin (NotArchive file offset) → IsAtFault files volumes t begin (NotArchive other elsewhere)
      → SamePlace file other offset elsewhere
  at_stops t (At n start) file other offset elsewhere one also = at_on_stops (volumes_from n volumes) start (back_end volumes n start) t file other offset elsewhere one also
  at_stops t (Outside n start) file other offset elsewhere one also = (one.0 ∙ sym also.0, one.1 ∙ sym also.1)

  at_apart : (t : Moment) (begin : Begin) (x : Option Item) (file : FileId) (offset : ℕ) → IsAtFrom files volumes t begin x → IsAtFault files volumes t begin (NotArchive file offset) → ⊥
  at_apart t (At n start) x file offset one (inl stops) = segment_apart files (volumes_from n volumes) start t one.items file offset one.segment stops
  at_apart t (At n start) x file offset one (inr (none, stops)) =
      let back : Option (ℕ × ℕ) = back_end volumes n start in
      let empty : one.items ≡ [] = segment_once files (volumes_from n volumes) start t one.items [] one.segment none in
      back_apart files back t x file offset (subst (λ xs. IsLastOr files back t (last_of xs) x) empty one.is) stops
  at_apart t (Outside n start) x file offset one stops = one

  range_once : (from to : Moment) (begin : Begin) (xs ys : List Item) → IsRangeFrom files volumes from to begin xs → IsRangeFrom files volumes from to begin ys → xs ≡ ys
  range_once from to (At n start) xs ys one other =
      one.is ∙ ap (between from to) (segment_once files (volumes_from n volumes) start to one.items other.items one.segment other.segment) ∙ sym other.is
  range_once from to (Outside n start) xs ys one other = absurd one

  range_stops : (to : Moment) (begin : Begin) (file other : FileId) (offset elsewhere : ℕ) → IsRangeFault files volumes to begin (NotArchive file offset) → IsRangeFault files volumes to begin (NotArchive other elsewhere)
      → SamePlace file other offset elsewhere
  range_stops to (At n start) file other offset elsewhere one also = stop_once files (volumes_from n volumes) start to file other offset elsewhere one also
  range_stops to (Outside n start) file other offset elsewhere one also = (one.0 ∙ sym also.0, one.1 ∙ sym also.1)

  range_apart : (from to : Moment) (begin : Begin) (xs : List Item) (file : FileId) (offset : ℕ) → IsRangeFrom files volumes from to begin xs → IsRangeFault files volumes to begin (NotArchive file offset) → ⊥
  range_apart from to (At n start) xs file offset one stops = segment_apart files (volumes_from n volumes) start to one.items file offset one.segment stops
  range_apart from to (Outside n start) xs file offset one stops = one

-- ---- the laws

pub at_answers_once : (files : Files) (r : Loaded) (t : Moment) → AnswersOnce (IsAtFrom files r.volumes t (at_begin r t)) (λ file offset. IsAtFault files r.volumes t (at_begin r t) (NotArchive file offset))
at_answers_once files r t = record {
  found = λ x y. at_found files r.volumes t (at_begin r t) x y;
  stops = λ file other offset elsewhere. at_stops files r.volumes t (at_begin r t) file other offset elsewhere;
  apart = λ x file offset. at_apart files r.volumes t (at_begin r t) x file offset;
}

pub range_answers_once : (files : Files) (r : Loaded) (from to : Moment)
    → AnswersOnce (IsRangeFrom files r.volumes from to (range_begin r from)) (λ file offset. IsRangeFault files r.volumes to (range_begin r from) (NotArchive file offset))
range_answers_once files r from to = record {
  found = λ xs ys. range_once files r.volumes from to (range_begin r from) xs ys;
  stops = λ file other offset elsewhere. range_stops files r.volumes to (range_begin r from) file other offset elsewhere;
  apart = λ xs file offset. range_apart files r.volumes from to (range_begin r from) xs file offset;
}
