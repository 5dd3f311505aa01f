-- Records of one volume, and what stands in the volumes behind it.
use Rattle.std.proofs.Common.{◌≡◌, ◌≢◌, ℕ, List, [], ◌∷◌, ◌++◌, length, refl, sym, ◌∙◌, subst, append_assoc, arith}
use Rattle.std.proofs.lemmas.List.{append-nil}
use Rattle.pcp_base.specs.declared.file.FileId.{FileId}
use Rattle.pcp_base.specs.declared.file.FileId.TheVariants.{Volume}
use Rattle.pcp_base.specs.declared.result.Item.{Item}
use Rattle.pcp_model.specs.Disk.{Files}
use Rattle.archive_loading.specs.Standing.{ItemStands}
use Rattle.archive_reader.specs.Walks.{next_volumes, next_offset, StandsNext, StepsOver, EndsThere, IsBadThere, Leads, AllFrom, StopsAt}
use Rattle.archive_reader.proofs.Stepping.{next_here, next_over}
use Rattle.log_summary.specs.Jobs.{is_empty}
use Rattle.log_summary.specs.Summaries.{GoOn}
use Rattle.log_summary.specs.Volumes.{StandUpTo, EndsAt, BreaksAt}
use Rattle.log_summary.proofs.Walked.{item_fits}

module _ (files : Files) where
  -- ---- the records of one volume

  step_in : (v : ℕ × ℕ) (vs : List (ℕ × ℕ)) (at next : ℕ) (x : Item) → v.1 ≡ length (files (Volume v.0)) → ItemStands (files (Volume v.0)) at next x → StepsOver files (v ∷ vs) at x (v ∷ vs) next
  step_in v [] at next x long s = record { volumes = refl; stands = s }
  step_in v (w ∷ vs) at next x long s =
      let fits = item_fits (files (Volume v.0)) at next x s in
      let apart : at ≢ v.1 = λ same. omega (arith, same, long, fits.0, fits.1) in
      let here = next_here v w vs at apart in
      record {
        volumes = sym here.0;
        stands = subst (λ o. StandsNext files (v ∷ w ∷ vs) o x next) (sym here.1) s;
      }

  leads_in : (v : ℕ × ℕ) (vs : List (ℕ × ℕ)) (at : ℕ) (items : List Item) (end : ℕ) → v.1 ≡ length (files (Volume v.0)) → StandUpTo (files (Volume v.0)) at items end → Leads files (v ∷ vs) at items (v ∷ vs) end
  leads_in v vs at [] end long is = (refl, is)
  leads_in v vs at (x ∷ items) end long (next, s, more) = (v ∷ vs, next, step_in v vs at next x long s, leads_in v vs next items end long more)

  leads_on : (vs : List (ℕ × ℕ)) (at : ℕ) (items : List Item) (us : List (ℕ × ℕ)) (mid : ℕ) (others : List Item) (ws : List (ℕ × ℕ)) (to : ℕ) → Leads files vs at items us mid → Leads files us mid others ws to → Leads files vs at (items ++ others) ws to
  leads_on vs at [] us mid others ws to (same, is) more = subst (λ n. Leads files vs n others ws to) is (subst (λ l. Leads files l mid others ws to) same more)
  leads_on vs at (x ∷ items) us mid others ws to (ls, next, step, rest) more = (ls, next, step, leads_on ls next items us mid others ws to rest more)

  -- ---- over the end of a volume

  -- from the end of a volume the next step is that from the records of the next one on
  crossed : (v w : ℕ × ℕ) (vs : List (ℕ × ℕ)) (at : ℕ) (y : Item) (us : List (ℕ × ℕ)) (next : ℕ) → at ≡ v.1 → StepsOver files (w ∷ vs) 132 y us next → StepsOver files (v ∷ w ∷ vs) at y us next
  crossed v w vs at y us next is step =
      let over = next_over v w vs at is in
      record {
        volumes = step.volumes ∙ sym over.0;
        stands = subst (λ o. StandsNext files us o y next) (sym over.1) step.stands;
      }

  cross_all : (v w : ℕ × ℕ) (vs : List (ℕ × ℕ)) (at : ℕ) (others : List Item) → at ≡ v.1 → AllFrom files (w ∷ vs) 132 others → AllFrom files (v ∷ w ∷ vs) at others
  cross_all v w vs at [] is a =
      let over = next_over v w vs at is in
      let volumes : next_volumes a.last a.to ≡ next_volumes (v ∷ w ∷ vs) at = (λ i. next_volumes (a.leads.0 i) (a.leads.1 i)) ∙ sym over.0 in
      let offset : next_offset a.last a.to ≡ next_offset (v ∷ w ∷ vs) at = (λ i. next_offset (a.leads.0 i) (a.leads.1 i)) ∙ sym over.1 in
      record {
        last = v ∷ w ∷ vs;
        to = at;
        leads = (refl, refl);
        ends = subst (EndsThere files (next_volumes (v ∷ w ∷ vs) at)) offset (subst (λ l. EndsThere files l (next_offset a.last a.to)) volumes a.ends);
      }
  cross_all v w vs at (y ∷ others) is a = record {
    last = a.last;
    to = a.to;
    leads = (a.leads.0, a.leads.1, crossed v w vs at y a.leads.0 a.leads.1 is a.leads.2, a.leads.3);
    ends = a.ends;
  }

  cross_stop : (v w : ℕ × ℕ) (vs : List (ℕ × ℕ)) (at : ℕ) (others : List Item) (file : FileId) (offset : ℕ) → at ≡ v.1 → StopsAt files (w ∷ vs) 132 others file offset → StopsAt files (v ∷ w ∷ vs) at others file offset
  cross_stop v w vs at [] file offset is a =
      let over = next_over v w vs at is in
      let volumes : next_volumes a.last a.to ≡ next_volumes (v ∷ w ∷ vs) at = (λ i. next_volumes (a.leads.0 i) (a.leads.1 i)) ∙ sym over.0 in
      let place : next_offset a.last a.to ≡ next_offset (v ∷ w ∷ vs) at = (λ i. next_offset (a.leads.0 i) (a.leads.1 i)) ∙ sym over.1 in
      record {
        last = v ∷ w ∷ vs;
        to = at;
        leads = (refl, refl);
        bad = subst (λ o. IsBadThere files (next_volumes (v ∷ w ∷ vs) at) o file offset) place (subst (λ l. IsBadThere files l (next_offset a.last a.to) file offset) volumes a.bad);
      }
  cross_stop v w vs at (y ∷ others) file offset is a = record {
    last = a.last;
    to = a.to;
    leads = (a.leads.0, a.leads.1, crossed v w vs at y a.leads.0 a.leads.1 is a.leads.2, a.leads.3);
    bad = a.bad;
  }

  -- nothing stands behind the last volume
  no_step : (at : ℕ) (y : Item) (us : List (ℕ × ℕ)) (next : ℕ) → StepsOver files [] at y us next → ⊥
  no_step at y us next step = subst (λ l. StandsNext files l at y next) step.volumes step.stands

  no_stop : (others : List Item) (file : FileId) (offset : ℕ) → StopsAt files [] 132 others file offset → ⊥
  no_stop [] file offset a =
      let volumes : next_volumes a.last a.to ≡ [] = λ i. next_volumes (a.leads.0 i) (a.leads.1 i) in
      subst (λ l. IsBadThere files l (next_offset a.last a.to) file offset) volumes a.bad
  no_stop (y ∷ others) file offset a = no_step 132 y a.leads.0 a.leads.1 a.leads.2

  -- ---- one volume more

  pub goes_past : (volumes : List (ℕ × ℕ)) (v : ℕ × ℕ) (vs : List (ℕ × ℕ)) (items others : List Item) (end : ℕ) → v.1 ≡ length (files (Volume v.0)) → StandUpTo (files (Volume v.0)) 132 others end → EndsAt (files (Volume v.0)) (is_empty vs) end
      → GoOn files volumes (v ∷ vs) items → GoOn files volumes vs (items ++ others)
  goes_past volumes v [] items others end long stand ends g =
      let whole : AllFrom files (v ∷ []) 132 others = record { last = v ∷ []; to = end; leads = leads_in v [] 132 others end long stand; ends = ends.torn } in
      record {
        all = λ ys a. last_all ys a (g.all others whole);
        stop = λ ys file offset a. absurd (no_stop ys file offset a);
      }
    where
      last_all : (ys : List Item) → AllFrom files [] 132 ys → AllFrom files volumes 132 (items ++ others) → AllFrom files volumes 132 ((items ++ others) ++ ys)
      last_all [] a all = subst (AllFrom files volumes 132) (sym (append-nil (items ++ others))) all
      last_all (y ∷ ys) a all = absurd (no_step 132 y a.leads.0 a.leads.1 a.leads.2)
  goes_past volumes v (w ∷ vs) items others end long stand ends g =
      let is : end ≡ v.1 = ends.whole refl ∙ sym long in
      let leads : Leads files (v ∷ w ∷ vs) 132 others (v ∷ w ∷ vs) end = leads_in v (w ∷ vs) 132 others end long stand in
      record {
        all = λ ys a.
            let b : AllFrom files (v ∷ w ∷ vs) end ys = cross_all v w vs end ys is a in
            subst (AllFrom files volumes 132) (sym (append_assoc items others ys))
            (g.all (others ++ ys) (record { last = b.last; to = b.to; leads = leads_on (v ∷ w ∷ vs) 132 others (v ∷ w ∷ vs) end ys b.last b.to leads b.leads; ends = b.ends }));
        stop = λ ys file offset a.
            let b : StopsAt files (v ∷ w ∷ vs) end ys file offset = cross_stop v w vs end ys file offset is a in
            subst (λ l. StopsAt files volumes 132 l file offset) (sym (append_assoc items others ys))
            (g.stop (others ++ ys) file offset (record { last = b.last; to = b.to; leads = leads_on (v ∷ w ∷ vs) 132 others (v ∷ w ∷ vs) end ys b.last b.to leads b.leads; bad = b.bad }));
      }

  bad_in : (v : ℕ × ℕ) (vs : List (ℕ × ℕ)) (at : ℕ) → v.1 ≡ length (files (Volume v.0)) → BreaksAt (files (Volume v.0)) (is_empty vs) at → IsBadThere files (next_volumes (v ∷ vs) at) (next_offset (v ∷ vs) at) (Volume v.0) at
  bad_in v [] at long b = (refl, refl, b.none, λ torn. b.torn refl torn)
  bad_in v (w ∷ vs) at long b =
      let here = next_here v w vs at (λ same. b.ends refl (same ∙ long)) in
      subst (λ o. IsBadThere files (next_volumes (v ∷ w ∷ vs) at) o (Volume v.0) at) (sym here.1)
      (subst (λ l. IsBadThere files l at (Volume v.0) at) (sym here.0) (refl, refl, b.none, λ e. e))

  pub stops_in : (v : ℕ × ℕ) (vs : List (ℕ × ℕ)) (others : List Item) (at : ℕ) → v.1 ≡ length (files (Volume v.0)) → StandUpTo (files (Volume v.0)) 132 others at → BreaksAt (files (Volume v.0)) (is_empty vs) at → StopsAt files (v ∷ vs) 132 others (Volume v.0) at
  stops_in v vs others at long stand b = record { last = v ∷ vs; to = at; leads = leads_in v vs 132 others at long stand; bad = bad_in v vs at long b }

  pub goes_first : (volumes : List (ℕ × ℕ)) → GoOn files volumes volumes []
  goes_first volumes = record { all = λ ys a. a; stop = λ ys file offset a. a }

  pub all_past : (volumes : List (ℕ × ℕ)) (items : List Item) → GoOn files volumes [] items → AllFrom files volumes 132 items
  all_past volumes items g =
      subst (AllFrom files volumes 132) (append-nil items) (g.all [] (record { last = []; to = 132; leads = (refl, refl); ends = tt }))
