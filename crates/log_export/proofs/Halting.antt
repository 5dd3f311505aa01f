-- Where a walk over all records halts: in the last volume, behind its whole records.
use Rattle.std.proofs.Common.{◌≡◌, ◌⊎◌, inl, inr, ℕ, ◌≤◌, Bool, true, false, List, [], ◌∷◌, ◌++◌, length, drop, refl, sym, ◌∙◌, subst, append_assoc, eqb-true, eq-eqb}
use Rattle.std.specs.Prelude.{nat_eq}
use Rattle.pcp_base.specs.declared.file.FileId.TheVariants.{Volume}
use Rattle.pcp_base.specs.declared.result.Item.{Item}
use Rattle.pcp_model.specs.Disk.{Files}
use Rattle.pcp_model.specs.Frame.{IsTorn}
use Rattle.archive_frame.proofs.Records.{Ends, stood}
use Rattle.archive_loading.specs.Standing.{ItemStands}
use Rattle.archive_loading.proofs.Passed.{Passed, none_passed, one_passed}
use Rattle.archive_reader.specs.Walks.{EndsThere, IsEnd, Leads, StandsNext, StepsOver, next_offset, next_volumes}
use Rattle.archive_reader.proofs.Stepping.{next_here, next_over}

module _ (files : Files) (all : List (ℕ × ℕ)) where
  -- a place in one of all volumes, behind records of it
  pub record Here (us : List (ℕ × ℕ)) (at : ℕ) : Type 0 where
    pub before : List (ℕ × ℕ)
    pub v : ℕ × ℕ
    pub more : List (ℕ × ℕ)
    pub are : us ≡ v ∷ more
    pub all_are : all ≡ before ++ v ∷ more
    pub items : List Item
    pub passed : Passed (files (Volume v.0)) at items
    pub low : (at ≡ 132) ⊎ (at ≤ length (files (Volume v.0)))

  not_both : (b : Bool) → b ≡ true → b ≡ false → ⊥
  not_both b one other = let both : true ≡ false = sym one ∙ other in cc

  over_or_here : (v w : ℕ × ℕ) (vs : List (ℕ × ℕ)) (at : ℕ) (before : List (ℕ × ℕ)) (items : List Item) → all ≡ before ++ v ∷ w ∷ vs → Passed (files (Volume v.0)) at items → (at ≡ 132) ⊎ (at ≤ length (files (Volume v.0)))
      → Here (next_volumes (w ∷ vs) 132) (next_offset (w ∷ vs) 132) → (b : Bool) → nat_eq at v.1 ≡ b → Here (next_volumes (v ∷ w ∷ vs) at) (next_offset (v ∷ w ∷ vs) at)
  over_or_here v w vs at before items is p low behind true e =
      let over = next_over v w vs at (eqb-true at v.1 e) in
      subst (λ us. Here us (next_offset (v ∷ w ∷ vs) at)) (sym over.0) (subst (λ o. Here (next_volumes (w ∷ vs) 132) o) (sym over.1) behind)
  over_or_here v w vs at before items is p low behind false e =
      let here = next_here v w vs at (λ same. not_both (nat_eq at v.1) (eq-eqb at v.1 same) e) in
      record {
        before = before;
        v = v;
        more = w ∷ vs;
        are = here.0;
        all_are = is;
        items = items;
        passed = subst (λ o. Passed (files (Volume v.0)) o items) (sym here.1) p;
        low = subst (λ o. (o ≡ 132) ⊎ (o ≤ length (files (Volume v.0)))) (sym here.1) low;
      }

  -- over the ends of volumes
  moves : (v : ℕ × ℕ) (vs : List (ℕ × ℕ)) (at : ℕ) (before : List (ℕ × ℕ)) (items : List Item) → all ≡ before ++ v ∷ vs → Passed (files (Volume v.0)) at items → (at ≡ 132) ⊎ (at ≤ length (files (Volume v.0))) → Here (next_volumes (v ∷ vs) at) (next_offset (v ∷ vs) at)
  moves v [] at before items is p low = record { before = before; v = v; more = []; are = refl; all_are = is; items = items; passed = p; low = low }
  moves v (w ∷ vs) at before items is p low =
      over_or_here v w vs at before items is p low (moves w vs 132 (before ++ v ∷ []) [] (is ∙ sym (append_assoc before (v ∷ []) (w ∷ vs))) (none_passed (files (Volume w.0))) (inl refl)) (nat_eq at v.1) refl

  next_place : (us : List (ℕ × ℕ)) (at : ℕ) → Here us at → Here (next_volumes us at) (next_offset us at)
  next_place us at h = subst (λ vs. Here (next_volumes vs at) (next_offset vs at)) (sym h.are) (moves h.v h.more at h.before h.items h.all_are h.passed h.low)

  steps_on : (us ws : List (ℕ × ℕ)) (at next : ℕ) (x : Item) → Here us at → StepsOver files us at x ws next → Here ws next
  steps_on us ws at next x h step =
      let k : Here ws (next_offset us at) = subst (λ vs. Here vs (next_offset us at)) (sym step.volumes) (next_place us at h) in
      let stands : ItemStands (files (Volume k.v.0)) (next_offset us at) next x = subst (λ vs. StandsNext files vs (next_offset us at) x next) k.are step.stands in
      let ends : Ends (files (Volume k.v.0)) stands.payload (next_offset us at) next = stood (files (Volume k.v.0)) stands.payload (next_offset us at) next stands.stands in
      record {
        before = k.before;
        v = k.v;
        more = k.more;
        are = k.are;
        all_are = k.all_are;
        items = k.items ++ x ∷ [];
        passed = one_passed (files (Volume k.v.0)) (next_offset us at) next k.items x k.passed stands;
        low = inr ends.within;
      }

  leads_to : (items : List Item) (us last : List (ℕ × ℕ)) (at to : ℕ) → Here us at → Leads files us at items last to → Here last to
  leads_to [] us last at to h l = subst (λ vs. Here vs to) (sym l.0) (subst (λ o. Here us o) (sym l.1) h)
  leads_to (x ∷ items) us last at to h (ws, next, step, more) = leads_to items ws last next to (steps_on us ws at next x h step) more

  -- the last volume, and where its whole records end
  pub record Halts (end : ℕ) : Type 0 where
    pub before : List (ℕ × ℕ)
    pub v : ℕ × ℕ
    pub all_are : all ≡ before ++ v ∷ []
    pub items : List Item
    pub passed : Passed (files (Volume v.0)) end items
    pub low : (end ≡ 132) ⊎ (end ≤ length (files (Volume v.0)))
    pub torn : IsTorn (drop end (files (Volume v.0)))

  halts_here : (v : ℕ × ℕ) (more before : List (ℕ × ℕ)) (at : ℕ) (items : List Item) → all ≡ before ++ v ∷ more → Passed (files (Volume v.0)) at items → (at ≡ 132) ⊎ (at ≤ length (files (Volume v.0))) → EndsThere files (v ∷ more) at → Halts at
  halts_here v [] before at items is p low ends = record { before = before; v = v; all_are = is; items = items; passed = p; low = low; torn = ends }
  halts_here v (w ∷ vs) before at items is p low ends = absurd ends

  pub halts : (v : ℕ × ℕ) (vs : List (ℕ × ℕ)) → all ≡ v ∷ vs → (items : List Item) (last : List (ℕ × ℕ)) (to : ℕ) → Leads files all 132 items last to → IsEnd files last to → Halts (next_offset last to)
  halts v vs is items last to leads ends =
      let first : Here all 132 = record { before = []; v = v; more = vs; are = is; all_are = is; items = []; passed = none_passed (files (Volume v.0)); low = inl refl } in
      let k : Here (next_volumes last to) (next_offset last to) = next_place last to (leads_to items all last 132 to first leads) in
      halts_here k.v k.more k.before (next_offset last to) k.items k.all_are k.passed k.low (subst (λ us. EndsThere files us (next_offset last to)) k.are ends)
