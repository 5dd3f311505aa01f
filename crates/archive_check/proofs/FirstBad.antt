-- All entries are good, or one is the first bad one.
use Rattle.std.proofs.Common.{suc, ◌≡◌, ◌⊎◌, inl, inr, ⊎_elim, ℕ, List, [], ◌∷◌, ◌++◌, length, refl, sym, ap, ◌∙◌, subst, arith}
use Rattle.std.specs.List.{AllByRecursion}
use Rattle.pcp_model.specs.declared.records.Entry.{Entry}
use Rattle.archive_check.specs.Breaches.{IsFirstBad}

further : (Good Bad : Entry → Type 0) (e : Entry) (entries : List Entry) (at : ℕ) → Good e → IsFirstBad entries Good Bad at → IsFirstBad (e ∷ entries) Good Bad (suc at)
further Good Bad e entries at good b = record {
  front = e ∷ b.front;
  e = b.e;
  behind = b.behind;
  are = ap (λ l. e ∷ l) b.are;
  at_is = ap suc b.at_is;
  good = (good, b.good);
  bad = b.bad;
}

-- each entry is good, or bad in some way, where each is such
module _ {X : Type 0} (Such Good : Entry → Type 0) (Bad : X → Entry → Type 0) (judge : (e : Entry) → Such e → Good e ⊎ ((x : X) × Bad x e)) where
  abbrev pub BadOrNone : List Entry → Type 0
  BadOrNone entries = AllByRecursion Good entries ⊎ ((at : ℕ) × (x : X) × IsFirstBad entries Good (Bad x) at)

  behind_good : (e : Entry) (entries : List Entry) → Good e → BadOrNone entries → BadOrNone (e ∷ entries)
  behind_good e entries good (inl all) = inl (good, all)
  behind_good e entries good (inr (at, x, b)) = inr (suc at, x, further Good (Bad x) e entries at good b)

  here : (e : Entry) (entries : List Entry) (x : X) → Bad x e → BadOrNone (e ∷ entries)
  here e entries x bad = inr (
    0,
    x,
    record {
      front = [];
      e = e;
      behind = entries;
      are = refl;
      at_is = refl;
      good = tt;
      bad = bad;
    },
  )

  pub bad_or_none : (entries : List Entry) → AllByRecursion Such entries → BadOrNone entries
  bad_or_none [] such = inl tt
  bad_or_none (e ∷ entries) such = ⊎_elim (λ (good : Good e). behind_good e entries good (bad_or_none entries such.1)) (λ b. here e entries b.0 b.1) (judge e such.0)

module _ (Good : Entry → Type 0) where
  bad_is_not_good : (front : List Entry) (e : Entry) (behind : List Entry) → AllByRecursion Good (front ++ e ∷ behind) → Good e
  bad_is_not_good [] e behind all = all.0
  bad_is_not_good (f ∷ front) e behind all = bad_is_not_good front e behind all.1

  -- the first bad entry isn't good
  pub not_all_good : (Bad : Entry → Type 0) (entries : List Entry) (at : ℕ) → ((e : Entry) → Good e → Bad e → ⊥) → IsFirstBad entries Good Bad at → AllByRecursion Good entries → ⊥
  not_all_good Bad entries at apart b all = apart b.e (bad_is_not_good b.front b.e b.behind (subst (AllByRecursion Good) b.are all)) b.bad

  same_front : (f g : List Entry) (d e : Entry) (ds es : List Entry) → f ++ d ∷ ds ≡ g ++ e ∷ es → AllByRecursion Good f → AllByRecursion Good g → (Good d → ⊥) → (Good e → ⊥) → (length f ≡ length g) × (d ≡ e)
  same_front [] [] d e ds es is a b p q = (refl, let same : d ≡ e = cc in same)
  same_front [] (g ∷ gs) d e ds es is a b p q = let same : g ≡ d = cc in absurd (p (subst Good same b.0))
  same_front (f ∷ fs) [] d e ds es is a b p q = let same : f ≡ e = cc in absurd (q (subst Good same a.0))
  same_front (f ∷ fs) (g ∷ gs) d e ds es is a b p q =
      let rest : fs ++ d ∷ ds ≡ gs ++ e ∷ es = cc in
      let more : (length fs ≡ length gs) × (d ≡ e) = same_front fs gs d e ds es rest a.1 b.1 p q in (omega (arith, more.0), more.1)

  -- it is one
  pub one_bad : (Bad Other : Entry → Type 0) (entries : List Entry) (m n : ℕ) → ((e : Entry) → Good e → Bad e → ⊥) → ((e : Entry) → Good e → Other e → ⊥) → IsFirstBad entries Good Bad m → IsFirstBad entries Good Other n
      → (m ≡ n) × ((e : Entry) × Bad e × Other e)
  one_bad Bad Other entries m n apart also a b =
      let same : (length a.front ≡ length b.front) × (a.e ≡ b.e) = same_front a.front b.front a.e b.e a.behind b.behind (sym a.are ∙ b.are) a.good b.good (λ good. apart a.e good a.bad) (λ good. also b.e good b.bad) in
      (a.at_is ∙ same.0 ∙ sym b.at_is, (b.e, subst Bad same.1 a.bad, b.bad))
