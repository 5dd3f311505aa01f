-- The last item of a volume not after a moment in which a metric has values, and of volumes from the last one down.
use Rattle.std.proofs.Common.{◌≡◌, inl, inr, ℕ, ◌+◌, Bool, true, false, List, [], ◌∷◌, ◌++◌, length, take, drop, refl, sym, ap, ◌∙◌, subst, take-append-drop, arith, Option, Some, None, Result, Ok, Err}
use Rattle.std.proofs.lemmas.List.{drop_all}
use Rattle.std.specs.Prelude.{if◌then◌else◌, IfOk}
use Rattle.pcp_base.specs.Time.{Moment}
use Rattle.pcp_base.specs.declared.file.FileId.{FileId}
use Rattle.pcp_base.specs.declared.result.Item.{Item}
use Rattle.pcp_base.specs.declared.result.ValueSet.{ValueSet}
use Rattle.pcp_model.specs.Disk.{Files}
use Rattle.archive_reader.specs.declared.fault.ReaderFault.{ReaderFault}
use Rattle.archive_reader.specs.declared.fault.ReaderFault.TheVariants.{Compressed, NotArchive, DiskFault, NoMemory}
use Rattle.archive_reader.specs.Searches.{or_else, is_after}
use Rattle.archive_reader.specs.Values.{value_in, value_by, value_at, is_there, later_hit, IsLastHit, HasLastHit, IsPassFault, IsHitAt, IsValueAt, IsValueFault, HasItem, ShowsAt, IsLack}
use Rattle.archive_reader.specs.Walks.{StandsNext, StepsOver, IsBad, Leads, AllFrom, EndsInFirst, IsFirst, StopsInFirst}
use Rattle.archive_reader.proofs.Downward.{value_over, value_before}
use Rattle.archive_reader.proofs.Ends.{no_volume, one_more, joined}
use Rattle.archive_reader.proofs.Segmented.{SameNext, same_there}

-- ---- within a volume

-- the records so far of a volume, and the last hit among their items
pub record Passing (files : Files) (vs : List (ℕ × ℕ)) (pmid : ℕ) (t : Moment) (found : Option ℕ) (at : ℕ) : Type 0 where
  pub items : List Item
  pub leads : Leads files vs 132 items vs at
  pub hit : IsLastHit files vs pmid t items found

pub none_passing : (files : Files) (vs : List (ℕ × ℕ)) (pmid : ℕ) (t : Moment) → Passing files vs pmid t None 132
none_passing files vs pmid t = record { items = []; leads = (refl, refl); hit = refl }

module _ (files : Files) (vs : List (ℕ × ℕ)) (pmid : ℕ) (t : Moment) where
  one_value : (items : List Item) (x : Item) → value_at pmid t (items ++ x ∷ []) ≡ or_else (value_by pmid t x) (value_at pmid t items)
  one_value items x = value_over pmid t items (x ∷ [])

  more_values : (found : Option ℕ) (items : List Item) (x : Item) → value_by pmid t x ≡ None → IsLastHit files vs pmid t items found → IsLastHit files vs pmid t (items ++ x ∷ []) found
  more_values None items x none same = value_before pmid t items (x ∷ []) none ∙ same
  more_values (Some at) items x none ((y, next, stands, shown), some) =
      let same : value_at pmid t (items ++ x ∷ []) ≡ value_at pmid t items = value_before pmid t items (x ∷ []) none in
      ((y, next, stands, same ∙ shown), λ nothing. some (sym same ∙ nothing))

  -- an item that isn't after the moment shows what it has
  by_value : (x : Item) (v : Moment × ValueSet) → value_by pmid t x ≡ Some v → value_in pmid x ≡ Some v
  by_value x v is = go (is_after t x) is
    where
      go : (b : Bool) → (if b then None else value_in pmid x) ≡ Some v → value_in pmid x ≡ Some v
      go true e = absurd (let e' : None ≡ Some v = e in cc)
      go false e = e

  new_hit : (items : List Item) (x : Item) (at next : ℕ) (v : Moment × ValueSet) → value_by pmid t x ≡ Some v → StandsNext files vs at x next → IsLastHit files vs pmid t (items ++ x ∷ []) (Some at)
  new_hit items x at next v is stands =
      let same : value_at pmid t (items ++ x ∷ []) ≡ Some v = one_value items x ∙ ap (λ o. or_else o (value_at pmid t items)) is in
      ((x, next, stands, same ∙ sym (by_value x v is)), λ nothing. let e : Some v ≡ None = sym same ∙ nothing in cc)

  pub passes_on : (found : Option ℕ) (at next : ℕ) (x : Item) (more : Option ℕ) → more ≡ later_hit pmid t found x at → Passing files vs pmid t found at → StandsNext files vs at x next → StepsOver files vs at x vs next → Passing files vs pmid t more next
  passes_on found at next x more is p stands step = record {
    items = p.items ++ x ∷ [];
    leads = one_more files p.items vs 132 vs at x vs next p.leads step;
    hit = subst (IsLastHit files vs pmid t (p.items ++ x ∷ [])) (sym is) (go (value_by pmid t x) refl);
  }
    where
      go : (o : Option (Moment × ValueSet)) → value_by pmid t x ≡ o → IsLastHit files vs pmid t (p.items ++ x ∷ []) (later_hit pmid t found x at)
      go None none = subst (λ (o : Option (Moment × ValueSet)). IsLastHit files vs pmid t (p.items ++ x ∷ []) (if is_there o then Some at else found)) (sym none) (more_values found p.items x none p.hit)
      go (Some v) some = subst (λ (o : Option (Moment × ValueSet)). IsLastHit files vs pmid t (p.items ++ x ∷ []) (if is_there o then Some at else found)) (sym some) (new_hit p.items x at next v some stands)

  pub passes_end : (found : Option ℕ) (at : ℕ) → Passing files vs pmid t found at → EndsInFirst files vs at → HasLastHit files vs pmid t found
  passes_end found at p end = record { items = p.items; to = at; leads = p.leads; ends = end; hit = p.hit }

  pub passes_bad : (found : Option ℕ) (at : ℕ) (file : FileId) (offset : ℕ) → Passing files vs pmid t found at → IsFirst vs file → IsBad files vs at file offset → StopsInFirst files vs file offset
  passes_bad found at file offset p first bad = record { items = p.items; stops = record { last = vs; to = at; leads = p.leads; bad = bad }; first = first }

-- ---- from the last volume down

-- the records of these volumes are items' that don't show it
pub record ShowsNone (files : Files) (vs : List (ℕ × ℕ)) (pmid : ℕ) (t : Moment) : Type 0 where
  pub items : List Item
  pub all : AllFrom files vs 132 items
  pub none : value_at pmid t items ≡ None

module _ (files : Files) (volumes : List (ℕ × ℕ)) (pmid : ℕ) (t : Moment) where
  pub none_above : ShowsNone files (drop (length volumes) volumes) pmid t
  none_above = subst (λ vs. ShowsNone files vs pmid t) (sym (drop_all (length volumes) volumes (omega arith))) (record { items = []; all = no_volume files; none = refl })

  module _ (index : ℕ) (v : ℕ × ℕ) (here : drop index volumes ≡ v ∷ drop (index + 1) volumes) (above : ShowsNone files (drop (index + 1) volumes) pmid t) where
    both : (found : Option ℕ) (h : HasLastHit files (drop index volumes) pmid t found) → AllFrom files (drop index volumes) 132 (h.items ++ above.items)
    both found h = go (drop index volumes) here h.leads h.ends
      where
        go : (vs : List (ℕ × ℕ)) → vs ≡ v ∷ drop (index + 1) volumes → Leads files vs 132 h.items vs h.to → EndsInFirst files vs h.to → AllFrom files vs 132 (h.items ++ above.items)
        go vs is leads ends =
            subst (λ l. AllFrom files l 132 (h.items ++ above.items)) (sym is)
            (joined files v (drop (index + 1) volumes) h.items above.items h.to (subst (λ l. Leads files l 132 h.items l h.to) is leads) (subst (λ l. EndsInFirst files l h.to) is ends) above.all)

    pub none_here : HasLastHit files (drop index volumes) pmid t None → ShowsNone files (drop index volumes) pmid t
    none_here h = record { items = h.items ++ above.items; all = both None h; none = value_before pmid t h.items above.items above.none ∙ h.hit }

    pub hit_here : (at : ℕ) → HasLastHit files (drop index volumes) pmid t (Some at) → IsHitAt files volumes pmid t (Some (index, at))
    hit_here at h = (
      value_at pmid t h.items,
      h.hit.0,
      record {
        before = take index volumes;
        rest = drop index volumes;
        are = sym (take-append-drop index volumes);
        items = h.items ++ above.items;
        all = both (Some at) h;
        is = sym (value_before pmid t h.items above.items above.none);
        enough = inr h.hit.1;
      },
    )

    pub stops_here : (e : ReaderFault) → IsPassFault files (drop index volumes) e → IsValueFault files volumes pmid t e
    stops_here (Compressed file) f = f
    stops_here (NotArchive file offset) f = record {
      before = take index volumes;
      volume = v;
      behind = drop (index + 1) volumes;
      are = sym (take-append-drop index volumes) ∙ ap (λ l. take index volumes ++ l) here;
      items = above.items;
      all = above.all;
      none = above.none;
      stops = subst (λ vs. IsPassFault files vs (NotArchive file offset)) here f;
    }
    stops_here DiskFault f = tt
    stops_here NoMemory f = tt

  pub none_at_all : ShowsNone files volumes pmid t → IsValueAt files volumes pmid t None
  none_at_all s = record { before = []; rest = volumes; are = refl; items = s.items; all = s.all; is = sym s.none; enough = inl refl }

  -- ---- the record of the hit, read again

  pub shows_one : (vs : List (ℕ × ℕ)) (at : ℕ) (one other : Option (Moment × ValueSet)) → ShowsAt files vs at pmid one → ShowsAt files vs at pmid other → one ≡ other
  shows_one vs at one other (x, next, stands, is) (y, behind, also, shown) = let same : SameNext x y next behind = same_there files vs at next behind x y stands also in is ∙ ap (value_in pmid) same.item ∙ sym shown

  pub hit_item : (place : ℕ × ℕ) → IsHitAt files volumes pmid t (Some place) → HasItem files (drop place.0 volumes) place.1
  hit_item place (shown, (x, next, stands, is), found) = (x, next, stands)

  pub hit_value : {E : Type 0} (place : ℕ × ℕ) (result : Result (Option (Moment × ValueSet)) E) → IsHitAt files volumes pmid t (Some place) → IfOk result (ShowsAt files (drop place.0 volumes) place.1 pmid) → IfOk result (IsValueAt files volumes pmid t)
  hit_value place (Ok value) (shown, shows, found) again = subst (IsValueAt files volumes pmid t) (shows_one (drop place.0 volumes) place.1 shown value shows again) found
  hit_value place (Err e) h again = tt

  pub lack_value : (e : ReaderFault) → IsLack e → IsValueFault files volumes pmid t e
  lack_value (Compressed file) f = f
  lack_value (NotArchive file offset) f = absurd f
  lack_value DiskFault f = tt
  lack_value NoMemory f = tt
