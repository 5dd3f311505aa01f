-- Records stand in one way: a segment is that of the items that stand from its place on, and where items stand no bytes are bad.
use Rattle.std.proofs.Common.{◌≡◌, ◌⊎◌, inl, inr, ℕ, ◌+◌, ◌-◌, ◌<◌, ◌≤◌, Bool, List, [], ◌∷◌, refl, sym, ap, ◌∙◌, subst, arith}
use Rattle.std.proofs.lemmas.Bool.{lt-ltb, le-ltb}
use Rattle.std.specs.List.{slice_range}
use Rattle.std.specs.Prelude.{if◌then◌else◌}
use Rattle.pcp_base.specs.Time.{Moment, microseconds}
use Rattle.pcp_base.specs.declared.file.FileId.{FileId}
use Rattle.pcp_base.specs.declared.file.FileId.TheVariants.{Volume}
use Rattle.pcp_base.specs.declared.result.Item.{Item}
use Rattle.pcp_model.proofs.OneItem.{one_item}
use Rattle.pcp_model.specs.Disk.{Files}
use Rattle.pcp_model.specs.Payload.{stamp_of, IsItem}
use Rattle.pcp_model.specs.Sound.{NoItemAfter}
use Rattle.archive_frame.specs.Steps.{Stands}
use Rattle.archive_frame.proofs.Records.{Ends, stood}
use Rattle.archive_loading.specs.Ending.{ItemEnds, OtherEnds}
use Rattle.archive_loading.specs.Standing.{ItemStands}
use Rattle.archive_reader.specs.Asked.{HasSegment, SegmentStops}
use Rattle.archive_reader.specs.Searches.{segment}
use Rattle.archive_reader.specs.Walks.{next_volumes, next_offset, StandsNext, StepsOver, EndsThere, IsEnd, IsBadThere, IsBad, Leads, AllFrom}
use Rattle.archive_reader.proofs.Stepping.{torn_no_item}

-- ---- one record

pub record SameNext (x y : Item) (next other : ℕ) : Type 0 where
  pub item : x ≡ y
  pub behind : next ≡ other

same_item : (bytes : List ℕ) (at next other : ℕ) (x y : Item) → ItemStands bytes at next x → ItemStands bytes at other y → SameNext x y next other
same_item bytes at next other x y s t =
    let e : Ends bytes s.payload at next = stood bytes s.payload at next s.stands in
    let f : Ends bytes t.payload at other = stood bytes t.payload at other t.stands in
    let behind : next ≡ other = omega (arith, e.size, f.size, e.head, f.head) in
    let payload : s.payload ≡ t.payload = sym e.payload_is ∙ ap (λ n. slice_range bytes (at + 4) (n - 4)) behind ∙ f.payload_is in
    record { item = one_item s.payload x y s.stands.fits s.reads (subst (λ p. IsItem p y) (sym payload) t.reads); behind = behind }

pub same_there : (files : Files) (us : List (ℕ × ℕ)) (at next other : ℕ) (x y : Item) → StandsNext files us at x next → StandsNext files us at y other → SameNext x y next other
same_there files [] at next other x y s t = absurd s
same_there files (u ∷ us) at next other x y s t = same_item (files (Volume u.0)) at next other x y s t

-- over which two steps go
pub same_step : (files : Files) (vs : List (ℕ × ℕ)) (at : ℕ) (x y : Item) (us ws : List (ℕ × ℕ)) (next other : ℕ) → StepsOver files vs at x us next → StepsOver files vs at y ws other → SameNext x y next other
same_step files vs at x y us ws next other s t =
    same_there files (next_volumes vs at) (next_offset vs at) next other x y (subst (λ l. StandsNext files l (next_offset vs at) x next) s.volumes s.stands) (subst (λ l. StandsNext files l (next_offset vs at) y other) t.volumes t.stands)

pub no_step_there : (files : Files) (us : List (ℕ × ℕ)) (at : ℕ) (x : Item) (next : ℕ) → EndsThere files us at → StandsNext files us at x next → ⊥
no_step_there files [] at x next end s = s
no_step_there files (u ∷ []) at x next end s = torn_no_item (files (Volume u.0)) at end next x s
no_step_there files (u ∷ w ∷ us) at x next end s = end

pub no_step : (files : Files) (vs : List (ℕ × ℕ)) (at : ℕ) (x : Item) (us : List (ℕ × ℕ)) (next : ℕ) → IsEnd files vs at → StepsOver files vs at x us next → ⊥
no_step files vs at x us next end s = no_step_there files (next_volumes vs at) (next_offset vs at) x next end (subst (λ l. StandsNext files l (next_offset vs at) x next) s.volumes s.stands)

pub bad_there : (files : Files) (us : List (ℕ × ℕ)) (at : ℕ) (x : Item) (next : ℕ) (file : FileId) (offset : ℕ) → IsBadThere files us at file offset → StandsNext files us at x next → ⊥
bad_there files [] at x next file offset bad s = bad
bad_there files (u ∷ us) at x next file offset bad s = bad.2 next x s

pub not_bad : (files : Files) (vs : List (ℕ × ℕ)) (at : ℕ) (x : Item) (us : List (ℕ × ℕ)) (next : ℕ) (file : FileId) (offset : ℕ) → IsBad files vs at file offset → StepsOver files vs at x us next → ⊥
not_bad files vs at x us next file offset bad s = bad_there files (next_volumes vs at) (next_offset vs at) x next file offset bad (subst (λ l. StandsNext files l (next_offset vs at) x next) s.volumes s.stands)

pub end_there : (files : Files) (us : List (ℕ × ℕ)) (at : ℕ) (file : FileId) (offset : ℕ) → IsBadThere files us at file offset → EndsThere files us at → ⊥
end_there files [] at file offset bad end = bad
end_there files (u ∷ us) at file offset bad end = bad.3 end

-- ---- from one place on

-- two walks go one way
module _ (files : Files) where
  pub moved : (vs us ws : List (ℕ × ℕ)) (at next other : ℕ) (x y : Item) (items : List Item) (last : List (ℕ × ℕ)) (to : ℕ) → StepsOver files vs at x us next → StepsOver files vs at y ws other → Leads files ws other items last to → Leads files us next items last to
  moved vs us ws at next other x y items last to s t more =
      let same : SameNext x y next other = same_step files vs at x y us ws next other s t in
      subst (λ n. Leads files us n items last to) (sym same.behind) (subst (λ l. Leads files l other items last to) (t.volumes ∙ sym s.volumes) more)

  -- where the items of all lead, no bytes are bad on the way
  pub never_bad : (items all : List Item) (vs : List (ℕ × ℕ)) (at : ℕ) (last : List (ℕ × ℕ)) (to : ℕ) (end : List (ℕ × ℕ)) (behind : ℕ) (file : FileId) (offset : ℕ)
      → Leads files vs at items last to → IsBad files last to file offset → Leads files vs at all end behind → IsEnd files end behind → ⊥
  never_bad [] [] vs at last to end behind file offset here bad whole ends =
      let bad_here : IsBad files vs at file offset = subst (λ o. IsBad files vs o file offset) here.1 (subst (λ l. IsBad files l to file offset) here.0 bad) in
      let end_here : IsEnd files vs at = subst (λ o. IsEnd files vs o) whole.1 (subst (λ l. IsEnd files l behind) whole.0 ends) in
      end_there files (next_volumes vs at) (next_offset vs at) file offset bad_here end_here
  never_bad [] (y ∷ all) vs at last to end behind file offset here bad (ws, other, step, more) ends =
      let bad_here : IsBad files vs at file offset = subst (λ o. IsBad files vs o file offset) here.1 (subst (λ l. IsBad files l to file offset) here.0 bad) in
      not_bad files vs at y ws other file offset bad_here step
  never_bad (x ∷ items) [] vs at last to end behind file offset (us, next, step, more) bad whole ends =
      let end_here : IsEnd files vs at = subst (λ o. IsEnd files vs o) whole.1 (subst (λ l. IsEnd files l behind) whole.0 ends) in no_step files vs at x us next end_here step
  never_bad (x ∷ items) (y ∷ all) vs at last to end behind file offset (us, next, step, more) bad (ws, other, over, rest) ends =
      never_bad items all us next last to end behind file offset more bad (moved vs us ws at next other x y all end behind step over rest) ends

  abbrev Stops : Moment → List (ℕ × ℕ) → ℕ → Type 0
  Stops t last to = IsEnd files last to ⊎ ((x : Item) × (us : List (ℕ × ℕ)) × (next : ℕ) × StepsOver files last to x us next × (microseconds t < microseconds (stamp_of x)))

  stops_before : (t : Moment) (vs : List (ℕ × ℕ)) (at : ℕ) (y : Item) (ws : List (ℕ × ℕ)) (other : ℕ) (all : List Item) → Stops t vs at → StepsOver files vs at y ws other → [] ≡ segment t (y ∷ all)
  stops_before t vs at y ws other all (inl end) over = absurd (no_step files vs at y ws other end over)
  stops_before t vs at y ws other all (inr (x, us, next, step, after)) over =
      let same : SameNext x y next other = same_step files vs at x y us ws next other step over in
      let later : microseconds t < microseconds (stamp_of y) = subst (λ z. microseconds t < microseconds (stamp_of z)) same.item after in
      sym (ap (λ (b : Bool). if b then [] else y ∷ segment t all) (lt-ltb (microseconds t) (microseconds (stamp_of y)) later))

  pub one_segment : (t : Moment) (items all : List Item) (vs : List (ℕ × ℕ)) (at : ℕ) (last : List (ℕ × ℕ)) (to : ℕ) (end : List (ℕ × ℕ)) (behind : ℕ)
      → Leads files vs at items last to → NoItemAfter t items → Stops t last to → Leads files vs at all end behind → IsEnd files end behind → items ≡ segment t all
  one_segment t [] [] vs at last to end behind here by stops whole ends = refl
  one_segment t [] (y ∷ all) vs at last to end behind here by stops (ws, other, over, rest) ends =
      stops_before t vs at y ws other all (subst (λ o. Stops t vs o) here.1 (subst (λ l. Stops t l to) here.0 stops)) over
  one_segment t (x ∷ items) [] vs at last to end behind (us, next, step, more) by stops whole ends =
      let end_here : IsEnd files vs at = subst (λ o. IsEnd files vs o) whole.1 (subst (λ l. IsEnd files l behind) whole.0 ends) in absurd (no_step files vs at x us next end_here step)
  one_segment t (x ∷ items) (y ∷ all) vs at last to end behind (us, next, step, more) by stops (ws, other, over, rest) ends =
      let same : SameNext x y next other = same_step files vs at x y us ws next other step over in
      let others : items ≡ segment t all = one_segment t items all us next last to end behind more by.1 stops (moved vs us ws at next other x y all end behind step over rest) ends in
      ap (λ z. z ∷ items) same.item ∙ ap (λ l. y ∷ l) others
      ∙ sym (ap (λ (b : Bool). if b then [] else y ∷ segment t all) (le-ltb (microseconds t) (microseconds (stamp_of y)) (subst (λ z. microseconds (stamp_of z) ≤ microseconds t) same.item by.0)))

  -- and the items of all are one list
  pub one_all : (items all : List Item) (vs : List (ℕ × ℕ)) (at : ℕ) (last : List (ℕ × ℕ)) (to : ℕ) (end : List (ℕ × ℕ)) (behind : ℕ)
      → Leads files vs at items last to → IsEnd files last to → Leads files vs at all end behind → IsEnd files end behind → items ≡ all
  one_all [] [] vs at last to end behind here stops whole ends = refl
  one_all [] (y ∷ all) vs at last to end behind here stops (ws, other, over, rest) ends =
      absurd (no_step files vs at y ws other (subst (λ o. IsEnd files vs o) here.1 (subst (λ l. IsEnd files l to) here.0 stops)) over)
  one_all (x ∷ items) [] vs at last to end behind (us, next, step, more) stops whole ends =
      absurd (no_step files vs at x us next (subst (λ o. IsEnd files vs o) whole.1 (subst (λ l. IsEnd files l behind) whole.0 ends)) step)
  one_all (x ∷ items) (y ∷ all) vs at last to end behind (us, next, step, more) stops (ws, other, over, rest) ends =
      let same : SameNext x y next other = same_step files vs at x y us ws next other step over in
      ap (λ z. z ∷ items) same.item ∙ ap (λ l. y ∷ l) (one_all items all us next last to end behind more stops (moved vs us ws at next other x y all end behind step over rest) ends)

  pub segment_is : (t : Moment) (items all : List Item) (vs : List (ℕ × ℕ)) (at : ℕ) → HasSegment files vs at t items → AllFrom files vs at all → items ≡ segment t all
  segment_is t items all vs at s a = one_segment t items all vs at s.last s.to a.last a.to s.leads s.by s.stops a.leads a.ends

  pub segment_whole : (t : Moment) (all : List Item) (vs : List (ℕ × ℕ)) (at : ℕ) (file : FileId) (offset : ℕ) → SegmentStops files vs at t file offset → AllFrom files vs at all → ⊥
  segment_whole t all vs at file offset s a = never_bad s.items all vs at s.last s.to a.last a.to file offset s.leads s.bad a.leads a.ends

-- ---- one record that ends

pub same_first : (bytes p q : List ℕ) (first other at : ℕ) → Stands bytes p first at → Stands bytes q other at → p ≡ q
same_first bytes p q first other at s t =
    let e : Ends bytes p first at = stood bytes p first at s in
    let f : Ends bytes q other at = stood bytes q other at t in
    let here : first ≡ other = omega (arith, e.size, f.size, e.tail, f.tail) in
    sym e.payload_is ∙ ap (λ n. slice_range bytes (n + 4) (at - 4)) here ∙ f.payload_is

pub same_end : (bytes : List ℕ) (at : ℕ) (x y : Item) → ItemEnds bytes at x → ItemEnds bytes at y → x ≡ y
same_end bytes at x y s t =
    let payload : s.stands.payload ≡ t.stands.payload = same_first bytes s.stands.payload t.stands.payload s.first t.first at s.stands.stands t.stands.stands in
    one_item s.stands.payload x y s.stands.stands.fits s.stands.reads (subst (λ p. IsItem p y) (sym payload) t.stands.reads)

pub no_other_end : (bytes : List ℕ) (offset at : ℕ) (x : Item) → ItemEnds bytes at x → OtherEnds bytes offset at → ⊥
no_other_end bytes offset at x s o = o.none x (subst (λ p. IsItem p x) (same_first bytes s.stands.payload o.payload s.first offset at s.stands.stands o.stands) s.stands.reads)
