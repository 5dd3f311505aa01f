-- Records over the end of a volume: behind it stand those of the next ones.
use Rattle.std.proofs.Common.{◌≡◌, ℕ, Bool, true, false, List, [], ◌∷◌, ◌++◌, refl, sym, ap, ◌∙◌, subst, append_assoc, append-nil, eqb-true, eq-eqb}
use Rattle.std.specs.Prelude.{nat_eq}
use Rattle.pcp_base.specs.declared.result.Item.{Item}
use Rattle.pcp_model.specs.Disk.{Files}
use Rattle.archive_reader.specs.Walks.{next_volumes, next_offset, StandsNext, StepsOver, EndsThere, IsEnd, Leads, AllFrom, EndsInFirst}
use Rattle.archive_reader.proofs.Stepping.{next_over, next_here}

module _ (files : Files) where
  -- nothing leads on from there
  end_here : (vs last : List (ℕ × ℕ)) (at to : ℕ) → (last ≡ vs) × (to ≡ at) → IsEnd files last to → IsEnd files vs at
  end_here vs last at to here ends = subst (λ o. IsEnd files vs o) here.1 (subst (λ l. IsEnd files l to) here.0 ends)

  pub behind_end : (v w : ℕ × ℕ) (ws : List (ℕ × ℕ)) (items : List Item) (at : ℕ) (last : List (ℕ × ℕ)) (to : ℕ) → at ≡ v.1 → Leads files (v ∷ w ∷ ws) at items last to → IsEnd files last to → AllFrom files (w ∷ ws) 132 items
  behind_end v w ws [] at last to is leads ends =
      let over = next_over v w ws at is in
      let there : IsEnd files (v ∷ w ∷ ws) at = end_here (v ∷ w ∷ ws) last at to leads ends in
      record {
        last = w ∷ ws;
        to = 132;
        leads = (refl, refl);
        ends = subst (λ o. EndsThere files (next_volumes (w ∷ ws) 132) o) over.1 (subst (λ vs. EndsThere files vs (next_offset (v ∷ w ∷ ws) at)) over.0 there);
      }
  behind_end v w ws (x ∷ items) at last to is (us, next, step, more) ends =
      let over = next_over v w ws at is in
      let over_step : StepsOver files (w ∷ ws) 132 x us next = record { volumes = step.volumes ∙ over.0; stands = subst (λ o. StandsNext files us o x next) over.1 step.stands } in
      record { last = last; to = to; leads = (us, next, over_step, more); ends = ends }

  over_end : (v w : ℕ × ℕ) (ws : List (ℕ × ℕ)) (items : List Item) (at : ℕ) (last : List (ℕ × ℕ)) (to : ℕ) → at ≡ v.1 → Leads files (w ∷ ws) 132 items last to → IsEnd files last to → AllFrom files (v ∷ w ∷ ws) at items
  over_end v w ws [] at last to is leads ends =
      let over = next_over v w ws at is in
      let there : IsEnd files (w ∷ ws) 132 = end_here (w ∷ ws) last 132 to leads ends in
      record {
        last = v ∷ w ∷ ws;
        to = at;
        leads = (refl, refl);
        ends = subst (λ vs. EndsThere files vs (next_offset (v ∷ w ∷ ws) at)) (sym over.0) (subst (λ o. EndsThere files (next_volumes (w ∷ ws) 132) o) (sym over.1) there);
      }
  over_end v w ws (x ∷ items) at last to is (us, next, step, more) ends =
      let over = next_over v w ws at is in
      let over_step : StepsOver files (v ∷ w ∷ ws) at x us next = record { volumes = step.volumes ∙ sym over.0; stands = subst (λ o. StandsNext files us o x next) (sym over.1) step.stands } in
      record { last = last; to = to; leads = (us, next, over_step, more); ends = ends }

  -- no record stands where there is no volume
  pub nothing_stands : (items : List Item) (at : ℕ) (last : List (ℕ × ℕ)) (to : ℕ) → Leads files [] at items last to → items ≡ []
  nothing_stands [] at last to leads = refl
  nothing_stands (x ∷ items) at last to (us, next, step, more) = absurd (subst (λ ws. StandsNext files ws at x next) step.volumes step.stands)

  pub no_volume : AllFrom files [] 132 []
  no_volume = record { last = []; to = 132; leads = (refl, refl); ends = tt }

  -- ---- records one behind another

  pub one_more : (xs : List Item) (vs : List (ℕ × ℕ)) (at : ℕ) (ws : List (ℕ × ℕ)) (to : ℕ) (x : Item) (us : List (ℕ × ℕ)) (next : ℕ) → Leads files vs at xs ws to → StepsOver files ws to x us next → Leads files vs at (xs ++ x ∷ []) us next
  one_more [] vs at ws to x us next here step = (us, next, subst (λ o. StepsOver files vs o x us next) here.1 (subst (λ l. StepsOver files l to x us next) here.0 step), (refl, refl))
  one_more (y ∷ xs) vs at ws to x us next (ms, m, first, rest) step = (ms, m, first, one_more xs ms m ws to x us next rest step)

  all_behind : (xs items : List Item) (vs : List (ℕ × ℕ)) (at : ℕ) (ws : List (ℕ × ℕ)) (to : ℕ) → Leads files vs at xs ws to → AllFrom files ws to items → AllFrom files vs at (xs ++ items)
  all_behind [] items vs at ws to here a = subst (λ o. AllFrom files vs o items) here.1 (subst (λ l. AllFrom files l to items) here.0 a)
  all_behind (x ∷ xs) items vs at ws to (us, next, step, more) a =
      let b : AllFrom files us next (xs ++ items) = all_behind xs items us next ws to more a in
      record { last = b.last; to = b.to; leads = (us, next, step, b.leads); ends = b.ends }

  first_ends : (v : ℕ × ℕ) (vs : List (ℕ × ℕ)) (at : ℕ) (items : List Item) → EndsInFirst files (v ∷ vs) at → AllFrom files vs 132 items → AllFrom files (v ∷ vs) at items
  first_ends v [] at items end a = subst (AllFrom files (v ∷ []) at) (sym (nothing_stands items 132 a.last a.to a.leads)) (record { last = v ∷ []; to = at; leads = (refl, refl); ends = end })
  first_ends v (w ∷ ws) at items end a = over_end v w ws items at a.last a.to end a.leads a.ends

  -- a volume's records, and those of the volumes behind it
  pub joined : (v : ℕ × ℕ) (vs : List (ℕ × ℕ)) (own items : List Item) (to : ℕ) → Leads files (v ∷ vs) 132 own (v ∷ vs) to → EndsInFirst files (v ∷ vs) to → AllFrom files vs 132 items → AllFrom files (v ∷ vs) 132 (own ++ items)
  joined v vs own items to leads end a = all_behind own items (v ∷ vs) 132 (v ∷ vs) to leads (first_ends v vs to items end a)

  -- ---- the last of some volumes

  -- the last items are those of their records
  pub record HasRest (rest : List (ℕ × ℕ)) (items : List Item) : Type 0 where
    pub front : List Item
    pub back : List Item
    pub is : items ≡ front ++ back
    pub all : AllFrom files rest 132 back

  not_both : (b : Bool) → b ≡ true → b ≡ false → ⊥
  not_both b one other = let both : true ≡ false = sym one ∙ other in cc

  in_first : (items : List Item) (b : Bool) (v w : ℕ × ℕ) (ws : List (ℕ × ℕ)) (at : ℕ) (last : List (ℕ × ℕ)) (to : ℕ) → nat_eq at v.1 ≡ b → Leads files (v ∷ w ∷ ws) at items last to → IsEnd files last to → HasRest (w ∷ ws) items
  in_first items true v w ws at last to e leads ends = record { front = []; back = items; is = refl; all = behind_end v w ws items at last to (eqb-true at v.1 e) leads ends }
  in_first [] false v w ws at last to e leads ends =
      let here = next_here v w ws at (λ same. not_both (nat_eq at v.1) (eq-eqb at v.1 same) e) in
      absurd (subst (λ vs. EndsThere files vs (next_offset (v ∷ w ∷ ws) at)) here.0 (end_here (v ∷ w ∷ ws) last at to leads ends))
  in_first (x ∷ items) false v w ws at last to e (us, next, step, more) ends =
      let here = next_here v w ws at (λ same. not_both (nat_eq at v.1) (eq-eqb at v.1 same) e) in
      let r : HasRest (w ∷ ws) items = in_first items (nat_eq next v.1) v w ws next last to refl (subst (λ vs. Leads files vs next items last to) (step.volumes ∙ here.0) more) ends in
      record { front = x ∷ r.front; back = r.back; is = ap (λ l. x ∷ l) r.is; all = r.all }

  pub rest_of : (mid rest : List (ℕ × ℕ)) (items : List Item) → AllFrom files (mid ++ rest) 132 items → HasRest rest items
  rest_of mid [] items a = record { front = items; back = []; is = sym (append-nil items); all = no_volume }
  rest_of [] (w ∷ ws) items a = record { front = []; back = items; is = refl; all = a }
  rest_of (m ∷ []) (w ∷ ws) items a = in_first items (nat_eq 132 m.1) m w ws 132 a.last a.to refl a.leads a.ends
  rest_of (m ∷ n ∷ mid) (w ∷ ws) items a =
      let first : HasRest (n ∷ mid ++ w ∷ ws) items = in_first items (nat_eq 132 m.1) m n (mid ++ w ∷ ws) 132 a.last a.to refl a.leads a.ends in
      let r : HasRest (w ∷ ws) first.back = rest_of (n ∷ mid) (w ∷ ws) first.back first.all in
      record { front = first.front ++ r.front; back = r.back; is = first.is ∙ ap (λ l. first.front ++ l) r.is ∙ sym (append_assoc first.front r.front r.back); all = r.all }
