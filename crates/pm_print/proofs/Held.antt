-- What holds of a domain is what the definition of holding finds.
use Rattle.std.proofs.Common.{◌≡◌, ◌⊎◌, inl, inr, ℕ, ◌<◌, ◌≤◌, Bool, true, false, ◌&&◌, cond, nat_eq, nat_lt, nat_le, List, [], ◌∷◌, ◌++◌, refl, sym, ap, ◌∙◌, subst, arith, Option, Some, None}
use Rattle.std.proofs.lemmas.Bool.{eqb-true, eqb-false, leb-true, leb-false, ltb-true, ltb-false}
use Rattle.pcp_base.specs.Time.{Moment, microseconds}
use Rattle.pcp_model.specs.declared.records.MetaRecord.{MetaRecord}
use Rattle.pcp_model.specs.declared.records.MetaRecord.TheVariants.{Description, Domain, Other}
use Rattle.pcp_model.specs.Described.{EachStamp, HoldsAt}
use Rattle.pm_print.specs.Holding.{Pairs, candidate, later_of, holding, pairs_or_none}

-- what is found is stamped so, or nothing is found
abbrev IsFoundWith : (ℕ → Type 0) → Option (ℕ × Pairs) → Type 0
IsFoundWith P None = Unit {0}
IsFoundWith P (Some a) = P a.0

found_later : (P : ℕ → Type 0) (a b : Option (ℕ × Pairs)) → IsFoundWith P a → IsFoundWith P b → IsFoundWith P (later_of a b)
found_later P None None p q = tt
found_later P (Some a) None p q = p
found_later P None (Some b) p q = q
found_later P (Some a) (Some b) p q = by (nat_lt b.0 a.0)
  where
    by : (c : Bool) → IsFoundWith P (cond c (Some a) (Some b))
    by true = p
    by false = q

nothing_first : (x : Option (ℕ × Pairs)) → later_of None x ≡ x
nothing_first None = refl
nothing_first (Some b) = refl

first_stays : (a : ℕ × Pairs) (x : Option (ℕ × Pairs)) → IsFoundWith (λ k. k < a.0) x → later_of (Some a) x ≡ Some a
first_stays a None h = refl
first_stays a (Some b) h = by (nat_lt b.0 a.0) refl
  where
    by : (c : Bool) → nat_lt b.0 a.0 ≡ c → cond c (Some a) (Some b) ≡ Some a
    by true e = refl
    by false e = absurd (omega (arith, ltb-false b.0 a.0 e, h))

second_comes : (x : Option (ℕ × Pairs)) (b : ℕ × Pairs) → IsFoundWith (λ k. k ≤ b.0) x → later_of x (Some b) ≡ Some b
second_comes None b h = refl
second_comes (Some a) b h = by (nat_lt b.0 a.0) refl
  where
    by : (c : Bool) → nat_lt b.0 a.0 ≡ c → cond c (Some a) (Some b) ≡ Some b
    by true e = absurd (omega (arith, ltb-true b.0 a.0 e, h))
    by false e = refl

module _ (indom : ℕ) (t : Moment) where
  -- a record of the domain not after t is a candidate, and any other one isn't
  dated : (s : Moment) (i : ℕ) (pairs : Pairs) → i ≡ indom → microseconds s ≤ microseconds t → candidate indom t (Domain s i pairs) ≡ Some (microseconds s, pairs)
  dated s i pairs e h = by (nat_eq i indom) refl (nat_le (microseconds s) (microseconds t)) refl
    where
      by : (c : Bool) → nat_eq i indom ≡ c → (d : Bool) → nat_le (microseconds s) (microseconds t) ≡ d → cond {A = Option (ℕ × Pairs)} (c && d) (Some (microseconds s, pairs)) None ≡ Some (microseconds s, pairs)
      by true f true g = refl
      by true f false g = absurd (omega (arith, leb-false (microseconds s) (microseconds t) g, h))
      by false f d g = absurd (eqb-false i indom f e)

  -- whether it is one
  is_dated : (s : Moment) (i : ℕ) (pairs : Pairs) → ((i ≡ indom) × (microseconds s ≤ microseconds t)) ⊎ ((candidate indom t (Domain s i pairs) ≡ None) × (i ≡ indom → microseconds s ≤ microseconds t → ⊥))
  is_dated s i pairs = by (nat_eq i indom) refl (nat_le (microseconds s) (microseconds t)) refl
    where
      by : (c : Bool) → nat_eq i indom ≡ c → (d : Bool) → nat_le (microseconds s) (microseconds t) ≡ d → ((i ≡ indom) × (microseconds s ≤ microseconds t)) ⊎ ((cond {A = Option (ℕ × Pairs)} (c && d) (Some (microseconds s, pairs)) None ≡ None) × (i ≡ indom → microseconds s ≤ microseconds t → ⊥))
      by true f true g = inl (eqb-true i indom f, leb-true (microseconds s) (microseconds t) g)
      by true f false g = inr (refl, λ e h. omega (arith, leb-false (microseconds s) (microseconds t) g, h))
      by false f d g = inr (refl, λ e h. absurd (eqb-false i indom f e))

  weaker : (P Q : Moment → Type 0) → ((s : Moment) → P s → Q s) → (records : List MetaRecord) → EachStamp indom P records → EachStamp indom Q records
  weaker P Q f [] h = tt
  weaker P Q f (Description d names ∷ records) h = weaker P Q f records h
  weaker P Q f (Domain s i pairs ∷ records) h = (λ e. f s (h.0 e), weaker P Q f records h.1)
  weaker P Q f (Other ∷ records) h = weaker P Q f records h

  joined : (P : Moment → Type 0) (before behind : List MetaRecord) (s : Moment) (pairs : Pairs) → EachStamp indom P before → P s → EachStamp indom P behind → EachStamp indom P (before ++ Domain s indom pairs ∷ behind)
  joined P [] behind s pairs h p k = (λ e. p, k)
  joined P (Description d names ∷ before) behind s pairs h p k = joined P before behind s pairs h p k
  joined P (Domain u i others ∷ before) behind s pairs h p k = (h.0, joined P before behind s pairs h.1 p k)
  joined P (Other ∷ before) behind s pairs h p k = joined P before behind s pairs h p k

  -- each candidate is stamped so
  one_with : (P : ℕ → Type 0) (s : Moment) (i : ℕ) (pairs : Pairs) → (i ≡ indom → microseconds s ≤ microseconds t → P (microseconds s)) → IsFoundWith P (candidate indom t (Domain s i pairs))
  one_with P s i pairs h = by (is_dated s i pairs)
    where
      by : ((i ≡ indom) × (microseconds s ≤ microseconds t)) ⊎ ((candidate indom t (Domain s i pairs) ≡ None) × (i ≡ indom → microseconds s ≤ microseconds t → ⊥)) → IsFoundWith P (candidate indom t (Domain s i pairs))
      by (inl is) = subst (IsFoundWith P) (sym (dated s i pairs is.0 is.1)) (h is.0 is.1)
      by (inr not) = subst (IsFoundWith P) (sym not.0) tt

  found_with : (P : ℕ → Type 0) (records : List MetaRecord) → EachStamp indom (λ s. microseconds s ≤ microseconds t → P (microseconds s)) records → IsFoundWith P (holding records indom t)
  found_with P [] h = tt
  found_with P (Description d names ∷ records) h = found_later P None (holding records indom t) tt (found_with P records h)
  found_with P (Domain s i pairs ∷ records) h = found_later P (candidate indom t (Domain s i pairs)) (holding records indom t) (one_with P s i pairs h.0) (found_with P records h.1)
  found_with P (Other ∷ records) h = found_later P None (holding records indom t) tt (found_with P records h)

  -- what holds is found
  found_in : (before behind : List MetaRecord) (s : Moment) (pairs : Pairs) → microseconds s ≤ microseconds t
      → EachStamp indom (λ u. microseconds u ≤ microseconds t → microseconds u ≤ microseconds s) before → EachStamp indom (λ u. microseconds u ≤ microseconds t → microseconds u < microseconds s) behind
      → holding (before ++ Domain s indom pairs ∷ behind) indom t ≡ Some (microseconds s, pairs)
  found_in [] behind s pairs h g l =
      ap (λ x. later_of x (holding behind indom t)) (dated s indom pairs refl h)
      ∙ first_stays (microseconds s, pairs) (holding behind indom t) (found_with (λ k. k < microseconds s) behind l)
  found_in (Description d names ∷ before) behind s pairs h g l =
      ap (later_of None) (found_in before behind s pairs h g l)
  found_in (Domain u i others ∷ before) behind s pairs h g l =
      ap (later_of (candidate indom t (Domain u i others))) (found_in before behind s pairs h g.1 l)
      ∙ second_comes (candidate indom t (Domain u i others)) (microseconds s, pairs) (one_with (λ k. k ≤ microseconds s) u i others g.0)
  found_in (Other ∷ before) behind s pairs h g l =
      ap (later_of None) (found_in before behind s pairs h g l)

  pub held_is_found : (records : List MetaRecord) (pairs : Pairs) → HoldsAt records indom t pairs → pairs_or_none (holding records indom t) ≡ pairs
  held_is_found records pairs h =
      ap (λ (rs : List MetaRecord). pairs_or_none (holding rs indom t)) h.is ∙ ap pairs_or_none (found_in h.before h.behind h.stamp pairs h.not_after h.greatest h.last)

  -- what is found holds; where nothing is found, no record of the domain is early enough
  abbrev Finds : List MetaRecord → Option (ℕ × Pairs) → Type 0
  Finds records None = EachStamp indom (λ s. microseconds s ≤ microseconds t → ⊥) records
  Finds records (Some a) = (h : HoldsAt records indom t a.1) × (microseconds h.stamp ≡ a.0)

  -- a record that says nothing of the domain up to t changes nothing
  abbrev IsPassed : MetaRecord → Type 1
  IsPassed r = (P : Moment → Type 0) (records : List MetaRecord) → EachStamp indom (λ s. microseconds s ≤ microseconds t → P s) records → EachStamp indom (λ s. microseconds s ≤ microseconds t → P s) (r ∷ records)

  passed : (r : MetaRecord) (records : List MetaRecord) (x : Option (ℕ × Pairs)) → IsPassed r → Finds records x → Finds (r ∷ records) x
  passed r records None pass h = pass (λ s. ⊥) records h
  passed r records (Some a) pass (h, same) = (
    record {
      stamp = h.stamp;
      not_after = h.not_after;
      before = r ∷ h.before;
      behind = h.behind;
      is = ap (λ (rs : List MetaRecord). r ∷ rs) h.is;
      greatest = pass (λ s. microseconds s ≤ microseconds h.stamp) h.before h.greatest;
      last = h.last;
    },
    same,
  )

  -- a record that is a candidate, before what is found of the rest
  taken : (s : Moment) (pairs : Pairs) (records : List MetaRecord) (x : Option (ℕ × Pairs)) → microseconds s ≤ microseconds t → Finds records x → Finds (Domain s indom pairs ∷ records) (later_of (Some (microseconds s, pairs)) x)
  taken s pairs records None h none = (
    record { stamp = s; not_after = h; before = []; behind = records; is = refl; greatest = tt; last = weaker (λ u. microseconds u ≤ microseconds t → ⊥) (λ u. microseconds u ≤ microseconds t → microseconds u < microseconds s) (λ u f early. absurd (f early)) records none },
    refl,
  )
  taken s pairs records (Some b) h (found, same) = by (nat_lt b.0 (microseconds s)) refl
    where
      by : (c : Bool) → nat_lt b.0 (microseconds s) ≡ c → Finds (Domain s indom pairs ∷ records) (cond c (Some (microseconds s, pairs)) (Some b))
      by false e = (
        record {
          stamp = found.stamp;
          not_after = found.not_after;
          before = Domain s indom pairs ∷ found.before;
          behind = found.behind;
          is = ap (λ (rs : List MetaRecord). Domain s indom pairs ∷ rs) found.is;
          greatest = (λ _ early. omega (arith, ltb-false b.0 (microseconds s) e, same), found.greatest);
          last = found.last;
        },
        same,
      )
      by true e =
          let below : microseconds found.stamp < microseconds s = omega (arith, ltb-true b.0 (microseconds s) e, same) in
          let earlier : EachStamp indom (λ u. microseconds u ≤ microseconds t → microseconds u < microseconds s) found.before =
          weaker (λ u. microseconds u ≤ microseconds t → microseconds u ≤ microseconds found.stamp) (λ u. microseconds u ≤ microseconds t → microseconds u < microseconds s) (λ u f early. omega (arith, f early, below)) found.before found.greatest in
          let later : EachStamp indom (λ u. microseconds u ≤ microseconds t → microseconds u < microseconds s) found.behind =
          weaker (λ u. microseconds u ≤ microseconds t → microseconds u < microseconds found.stamp) (λ u. microseconds u ≤ microseconds t → microseconds u < microseconds s) (λ u f early. omega (arith, f early, below)) found.behind found.last in
          let all : EachStamp indom (λ u. microseconds u ≤ microseconds t → microseconds u < microseconds s) records =
          subst (EachStamp indom (λ u. microseconds u ≤ microseconds t → microseconds u < microseconds s)) (sym found.is) (joined (λ u. microseconds u ≤ microseconds t → microseconds u < microseconds s) found.before found.behind found.stamp b.1 earlier (λ early. below) later) in
          (record { stamp = s; not_after = h; before = []; behind = records; is = refl; greatest = tt; last = all }, refl)

  finds : (records : List MetaRecord) → Finds records (holding records indom t)
  finds [] = tt
  finds (Description d names ∷ records) =
      subst (Finds (Description d names ∷ records)) (sym (nothing_first (holding records indom t))) (passed (Description d names) records (holding records indom t) (λ P rs h. h) (finds records))
  finds (Other ∷ records) =
      subst (Finds (Other ∷ records)) (sym (nothing_first (holding records indom t))) (passed Other records (holding records indom t) (λ P rs h. h) (finds records))
  finds (Domain s i pairs ∷ records) = by (is_dated s i pairs) (finds records)
    where
      by : ((i ≡ indom) × (microseconds s ≤ microseconds t)) ⊎ ((candidate indom t (Domain s i pairs) ≡ None) × (i ≡ indom → microseconds s ≤ microseconds t → ⊥)) → Finds records (holding records indom t) → Finds (Domain s i pairs ∷ records) (later_of (candidate indom t (Domain s i pairs)) (holding records indom t))
      by (inl is) rest =
          subst (λ x. Finds (Domain s i pairs ∷ records) (later_of x (holding records indom t))) (sym (dated s i pairs is.0 is.1))
          (subst (λ j. Finds (Domain s j pairs ∷ records) (later_of (Some (microseconds s, pairs)) (holding records indom t))) (sym is.0) (taken s pairs records (holding records indom t) is.1 rest))
      by (inr not) rest =
          subst (λ x. Finds (Domain s i pairs ∷ records) (later_of x (holding records indom t))) (sym not.0)
          (subst (Finds (Domain s i pairs ∷ records)) (sym (nothing_first (holding records indom t))) (passed (Domain s i pairs) records (holding records indom t) (λ P rs h. (λ e early. absurd (not.1 e early), h)) rest))

  pub nothing_held : (records : List MetaRecord) → ((pairs : Pairs) → HoldsAt records indom t pairs → ⊥) → pairs_or_none (holding records indom t) ≡ []
  nothing_held records none = by (holding records indom t) (finds records)
    where
      by : (x : Option (ℕ × Pairs)) → Finds records x → pairs_or_none x ≡ []
      by None f = refl
      by (Some a) f = absurd (none a.1 f.0)
