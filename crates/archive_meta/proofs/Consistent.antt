-- Records with one more, of which no two describe one metric in two ways.
use Rattle.std.proofs.Common.{◌≡◌, ℕ, Bool, true, false, cond, List, [], ◌∷◌, ◌++◌, Some, None, refl, sym, ◌∙◌, subst}
use Rattle.std.specs.Prelude.{◌↔◌, IsTrue, ℤ}
use Rattle.std.specs.List.{AllByRecursion}
use Rattle.std.proofs.lemmas.Bool.{eqb-true, eqb-false}
use Rattle.pcp_base.specs.Time.{Moment}
use Rattle.pcp_base.specs.declared.desc.Desc.{Desc}
use Rattle.pcp_model.specs.declared.records.MetaRecord.{MetaRecord}
use Rattle.pcp_model.specs.declared.records.MetaRecord.TheVariants.{Description, Domain, Other}
use Rattle.pcp_model.specs.Records.{Agrees, AgreesWithAll, AreConsistent}
use Rattle.archive_meta.specs.Said.{describes, description_of}

-- an earlier record agrees with a later one
abbrev pub agree : MetaRecord → MetaRecord → Type 0
agree (Description d names) x = Agrees d names x
agree (Domain t indom pairs) x = Unit {0}
agree Other x = Unit {0}

all_push : {X : Type 0} (P : X → Type 0) (xs : List X) (x : X) → AllByRecursion P xs → P x → AllByRecursion P (xs ++ x ∷ [])
all_push P [] x a p = (p, tt)
all_push P (y ∷ xs) x a p = (a.0, all_push P xs x a.1 p)

all_parts : {X : Type 0} (P : X → Type 0) (xs : List X) (x : X) → AllByRecursion P (xs ++ x ∷ []) → AllByRecursion P xs × P x
all_parts P [] x a = (tt, a.0)
all_parts P (y ∷ xs) x a = let more = all_parts P xs x a.1 in ((a.0, more.0), more.1)

all_front : {X : Type 0} (P : X → Type 0) (xs ys : List X) → AllByRecursion P (xs ++ ys) → AllByRecursion P xs
all_front P [] ys a = tt
all_front P (x ∷ xs) ys a = (a.0, all_front P xs ys a.1)

with_push : (r : MetaRecord) (xs : List MetaRecord) (x : MetaRecord) → AgreesWithAll r xs → agree r x → AgreesWithAll r (xs ++ x ∷ [])
with_push (Description d names) xs x a g = all_push (Agrees d names) xs x a g
with_push (Domain t indom pairs) xs x a g = tt
with_push Other xs x a g = tt

with_parts : (r : MetaRecord) (xs : List MetaRecord) (x : MetaRecord) → AgreesWithAll r (xs ++ x ∷ []) → AgreesWithAll r xs × agree r x
with_parts (Description d names) xs x a = all_parts (Agrees d names) xs x a
with_parts (Domain t indom pairs) xs x a = (tt, tt)
with_parts Other xs x a = (tt, tt)

with_front : (r : MetaRecord) (xs ys : List MetaRecord) → AgreesWithAll r (xs ++ ys) → AgreesWithAll r xs
with_front (Description d names) xs ys a = all_front (Agrees d names) xs ys a
with_front (Domain t indom pairs) xs ys a = tt
with_front Other xs ys a = tt

with_none : (r : MetaRecord) → AgreesWithAll r []
with_none (Description d names) = tt
with_none (Domain t indom pairs) = tt
with_none Other = tt

-- a record more
consistent_push : (xs : List MetaRecord) (x : MetaRecord) → AreConsistent xs → AllByRecursion (λ r. agree r x) xs → AreConsistent (xs ++ x ∷ [])
consistent_push [] x c a = (with_none x, tt)
consistent_push (r ∷ xs) x c a = (with_push r xs x c.0 a.0, consistent_push xs x c.1 a.1)

consistent_parts : (xs : List MetaRecord) (x : MetaRecord) → AreConsistent (xs ++ x ∷ []) → AllByRecursion (λ r. agree r x) xs
consistent_parts [] x c = tt
consistent_parts (r ∷ xs) x c = ((with_parts r xs x c.0).1, consistent_parts xs x c.1)

-- and fewer
pub consistent_front : (xs ys : List MetaRecord) → AreConsistent (xs ++ ys) → AreConsistent xs
consistent_front [] ys c = tt
consistent_front (r ∷ xs) ys c = (with_front r xs ys c.0, consistent_front xs ys c.1)

-- ---- a description more

module _ (d : Desc) (names : List (List ℕ)) where
  turned : (r : MetaRecord) → Agrees d names r → agree r (Description d names)
  turned (Description e others) g = λ same. let back = g (sym same) in (sym back.0, sym back.1)
  turned (Domain t indom pairs) g = tt
  turned Other g = tt

  all_turned : (xs : List MetaRecord) → AllByRecursion (Agrees d names) xs → AllByRecursion (λ r. agree r (Description d names)) xs
  all_turned [] a = tt
  all_turned (r ∷ xs) a = (turned r a.0, all_turned xs a.1)

  of_another : (r : MetaRecord) → describes d.pmid r ≡ false → agree r (Description d names)
  of_another (Description e others) other = λ same. absurd (eqb-false d.pmid e.pmid other (sym same))
  of_another (Domain t indom pairs) other = tt
  of_another Other other = tt

  first_agrees : (xs : List MetaRecord) (first : MetaRecord) → AreConsistent xs → description_of d.pmid xs ≡ Some first → first ≡ Description d names → AllByRecursion (λ r. agree r (Description d names)) xs
  first_agrees [] first c found is = tt
  first_agrees (r ∷ xs) first c found is = by (describes d.pmid r) refl found (λ f. first_agrees xs first c.1 f is)
    where
      by : (b : Bool) → describes d.pmid r ≡ b → cond b (Some r) (description_of d.pmid xs) ≡ Some first → (description_of d.pmid xs ≡ Some first → AllByRecursion (λ x. agree x (Description d names)) xs)
          → agree r (Description d names) × AllByRecursion (λ x. agree x (Description d names)) xs
      by true e f more =
          let same : Description d names ≡ r = sym (let h : r ≡ first = cc in h ∙ is) in
          (subst (λ x. agree x (Description d names)) same (λ _. (refl, refl)), all_turned xs (subst (λ x. AgreesWithAll x xs) (sym same) c.0))
      by false e f more = (of_another r e, more f)

  none_agrees : (xs : List MetaRecord) → description_of d.pmid xs ≡ None → AllByRecursion (λ r. agree r (Description d names)) xs
  none_agrees [] none = tt
  none_agrees (r ∷ xs) none = by (describes d.pmid r) refl none (none_agrees xs)
    where
      by : (b : Bool) → describes d.pmid r ≡ b → cond b (Some r) (description_of d.pmid xs) ≡ None → (description_of d.pmid xs ≡ None → AllByRecursion (λ x. agree x (Description d names)) xs)
          → agree r (Description d names) × AllByRecursion (λ x. agree x (Description d names)) xs
      by true e f more = absurd cc
      by false e f more = (of_another r e, more f)

  is_same : (r : MetaRecord) → describes d.pmid r ≡ true → agree r (Description d names) → r ≡ Description d names
  is_same (Description e others) yes_ g = let both = g (sym (eqb-true d.pmid e.pmid yes_)) in (let a : e ≡ d = both.0 in let b : others ≡ names = both.1 in cc)
  is_same (Domain t indom pairs) yes_ g = absurd cc
  is_same Other yes_ g = absurd cc

  first_same : (xs : List MetaRecord) (first : MetaRecord) → description_of d.pmid xs ≡ Some first → AllByRecursion (λ r. agree r (Description d names)) xs → first ≡ Description d names
  first_same [] first found a = absurd cc
  first_same (r ∷ xs) first found a = by (describes d.pmid r) refl found (λ f. first_same xs first f a.1)
    where
      by : (b : Bool) → describes d.pmid r ≡ b → cond b (Some r) (description_of d.pmid xs) ≡ Some first → (description_of d.pmid xs ≡ Some first → first ≡ Description d names) → first ≡ Description d names
      by true e f more = sym (let h : r ≡ first = cc in h) ∙ is_same r e a.0
      by false e f more = more f

  pub agrees_first : (xs : List MetaRecord) (first : MetaRecord) (b : Bool) → AreConsistent xs → description_of d.pmid xs ≡ Some first → IsTrue b ↔ (first ≡ Description d names) → IsTrue b ↔ AreConsistent (xs ++ Description d names ∷ [])
  agrees_first xs first b c found tells = (
    λ h. consistent_push xs (Description d names) c (first_agrees xs first c found (tells.0 h)),
    λ h. tells.1 (first_same xs first found (consistent_parts xs (Description d names) h)),
  )

  pub agrees_none : (xs : List MetaRecord) → AreConsistent xs → description_of d.pmid xs ≡ None → IsTrue true ↔ AreConsistent (xs ++ Description d names ∷ [])
  agrees_none xs c none = (λ _. consistent_push xs (Description d names) c (none_agrees xs none), λ _. refl)

-- ---- another record more

each_domain : (xs : List MetaRecord) (t : Moment) (indom : ℕ) (pairs : List (ℤ × List ℕ)) → AllByRecursion (λ r. agree r (Domain t indom pairs)) xs
each_domain [] t indom pairs = tt
each_domain (Description d names ∷ xs) t indom pairs = (tt, each_domain xs t indom pairs)
each_domain (Domain u i ps ∷ xs) t indom pairs = (tt, each_domain xs t indom pairs)
each_domain (Other ∷ xs) t indom pairs = (tt, each_domain xs t indom pairs)

each_other : (xs : List MetaRecord) → AllByRecursion (λ r. agree r Other) xs
each_other [] = tt
each_other (Description d names ∷ xs) = (tt, each_other xs)
each_other (Domain u i ps ∷ xs) = (tt, each_other xs)
each_other (Other ∷ xs) = (tt, each_other xs)

pub agrees_domain : (xs : List MetaRecord) (t : Moment) (indom : ℕ) (pairs : List (ℤ × List ℕ)) → AreConsistent xs → IsTrue true ↔ AreConsistent (xs ++ Domain t indom pairs ∷ [])
agrees_domain xs t indom pairs c = (λ _. consistent_push xs (Domain t indom pairs) c (each_domain xs t indom pairs), λ _. refl)

pub agrees_other : (xs : List MetaRecord) → AreConsistent xs → IsTrue true ↔ AreConsistent (xs ++ Other ∷ [])
agrees_other xs c = (λ _. consistent_push xs Other c (each_other xs), λ _. refl)
