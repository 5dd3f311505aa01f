-- A walk over the bytes finds a name exactly where they are components joined by `.`.
use Rattle.std.proofs.Common.{◌≡◌, ℕ, ◌<◌, Bool, true, false, cond, ◌&&◌, List, [], ◌∷◌, ◌++◌, length, IsTrue, ap, sym, ◌∙◌, refl, arith, eqb, subst, append-nil, ◌↔◌}
use Rattle.std.proofs.lemmas.Bool.{eqb-true}
use Rattle.std.specs.List.{join_with_byte, list_all}
use Rattle.pcp_base.specs.Names.{is_letter, is_name_byte, IsComponent, AreComponents, IsName, spells}

-- what a walk over one component answers, at its start or within it
abbrev pub walk_one : Bool → List ℕ → Bool
walk_one true [] = false
walk_one false [] = true
walk_one true (b ∷ bs) = is_letter b && walk_one false bs
walk_one false (b ∷ bs) = is_name_byte b && walk_one false bs

-- the end of a component, and further ones
pub Rest : List ℕ → Type 0
Rest bs = (rest : List ℕ) × (parts : List (List ℕ)) × (list_all is_name_byte rest ≡ true) × AreComponents parts × (bs ≡ join_with_byte 46 (rest ∷ parts))

abbrev pub Spelt : Bool → List ℕ → Type 0
Spelt true bs = IsName bs
Spelt false bs = Rest bs

both_left : (a b : Bool) → (a && b) ≡ true → a ≡ true
both_left true b h = refl
both_left false b h = cc

both_right : (a b : Bool) → (a && b) ≡ true → b ≡ true
both_right true b h = h
both_right false b h = cc

both : (a b : Bool) → a ≡ true → b ≡ true → (a && b) ≡ true
both true b h k = k
both false b h k = cc

join_front : (b : ℕ) (rest : List ℕ) (parts : List (List ℕ)) → join_with_byte 46 ((b ∷ rest) ∷ parts) ≡ b ∷ join_with_byte 46 (rest ∷ parts)
join_front b rest [] = refl
join_front b rest (p ∷ ps) = refl

join_dot : (parts : List (List ℕ)) → 0 < length parts → join_with_byte 46 ([] ∷ parts) ≡ 46 ∷ join_with_byte 46 parts
join_dot [] h = absurd (omega (arith, h))
join_dot (p ∷ ps) h = refl

-- a name byte before the rest of a component
name_byte_before : (b : ℕ) (bs : List ℕ) → is_name_byte b ≡ true → Rest bs → Rest (b ∷ bs)
unfolding Rest
name_byte_before b bs h (rest, parts, names, components, joined) =
    (b ∷ rest, parts, both _ _ h names, components, ap (λ t. b ∷ t) joined ∙ sym (join_front b rest parts))

letter_before : (b : ℕ) (bs : List ℕ) → is_letter b ≡ true → Rest bs → IsName (b ∷ bs)
unfolding Rest
letter_before b bs h (rest, parts, names, components, joined) =
    ((b ∷ rest) ∷ parts, omega arith, ((h, names), components), ap (λ t. b ∷ t) joined ∙ sym (join_front b rest parts))

dot_before : (b : ℕ) (bs : List ℕ) → b ≡ 46 → IsName bs → Rest (b ∷ bs)
unfolding Rest
dot_before b bs h (parts, some, components, joined) =
    ([], parts, refl, components, ap (λ n. n ∷ bs) h ∙ ap (λ t. 46 ∷ t) joined ∙ sym (join_dot parts some))

within : (t : Bool) (b : ℕ) (bs : List ℕ) → eqb b 46 ≡ t → (IsName bs → b ≡ 46 → Rest (b ∷ bs)) → (is_name_byte b ≡ true → spells false bs ≡ true → Rest (b ∷ bs)) → (spells true bs ≡ true → IsName bs) → cond t (spells true bs) (is_name_byte b && spells false bs) ≡ true → Rest (b ∷ bs)
within true b bs e dot byte name h = dot (name h) (eqb-true b 46 e)
within false b bs e dot byte name h = byte (both_left _ _ h) (both_right _ _ h)

-- what the walk accepts is spelt so
pub spelt : (start : Bool) (bs : List ℕ) → spells start bs ≡ true → Spelt start bs
unfolding Rest
spelt true [] h = cc
spelt false [] h = ([], [], refl, tt, refl)
spelt true (b ∷ bs) h = letter_before b bs (both_left _ _ h) (spelt false bs (both_right _ _ h))
spelt false (b ∷ bs) h =
    within (eqb b 46) b bs refl (λ name dot. dot_before b bs dot name) (λ n w. name_byte_before b bs n (spelt false bs w)) (spelt true bs) h

no_dot : (b : ℕ) (t : Bool) → eqb b 46 ≡ t → is_name_byte b ≡ true → t ≡ false
no_dot b false e h = refl
no_dot b true e h = let at_dot : is_name_byte 46 ≡ true = subst (λ n. is_name_byte n ≡ true) (eqb-true b 46 e) h in cc

-- name bytes end no component
spells-append : (bs tail : List ℕ) → list_all is_name_byte bs ≡ true → spells false (bs ++ tail) ≡ spells false tail
spells-append [] tail h = refl
spells-append (b ∷ bs) tail h =
    ap (λ t. cond t (spells true (bs ++ tail)) (is_name_byte b && spells false (bs ++ tail))) (no_dot b (eqb b 46) refl (both_left _ _ h))
    ∙ ap (λ t. t && spells false (bs ++ tail)) (both_left _ _ h) ∙ spells-append bs tail (both_right _ _ h)

spells-component : (part tail : List ℕ) → IsComponent part → spells true (part ++ tail) ≡ spells false tail
spells-component [] tail h = absurd h
spells-component (b ∷ bs) tail (letter, names) =
    ap (λ t. t && spells false (bs ++ tail)) (letter) ∙ spells-append bs tail names

spells-join : (parts : List (List ℕ)) → 0 < length parts → AreComponents parts → spells true (join_with_byte 46 parts) ≡ true
spells-join [] h c = absurd (omega (arith, h))
spells-join (p ∷ []) h (c, _) = ap (spells true) (sym (append-nil p)) ∙ spells-component p [] c
spells-join (p ∷ q ∷ ps) h (c, cs) = spells-component p (46 ∷ join_with_byte 46 (q ∷ ps)) c ∙ spells-join (q ∷ ps) (omega arith) cs

pub walks : (bs : List ℕ) (r : Bool) → r ≡ spells true bs → IsTrue r ↔ IsName bs
walks bs r e = (λ h. spelt true bs (sym e ∙ h), λ (parts, some, components, joined). (e ∙ ap (spells true) joined ∙ spells-join parts some components))

walk_one-all : (bs : List ℕ) → walk_one false bs ≡ list_all is_name_byte bs
walk_one-all [] = refl
walk_one-all (b ∷ bs) = ap (λ t. is_name_byte b && t) (walk_one-all bs)

component_is : (bs : List ℕ) → (walk_one true bs ≡ true → IsComponent bs) × (IsComponent bs → walk_one true bs ≡ true)
component_is [] = (λ h. cc, λ h. absurd h)
component_is (b ∷ bs) = (
  λ h. (both_left _ _ h, sym (walk_one-all bs) ∙ both_right _ _ h),
  λ (letter, names). both _ _ (letter) (walk_one-all bs ∙ names),
)

pub walks_one : (bs : List ℕ) (r : Bool) → r ≡ walk_one true bs → IsTrue r ↔ IsComponent bs
walks_one bs r e = let both_ways = component_is bs in (λ h. both_ways.0 (sym e ∙ h), λ c. (e ∙ both_ways.1 c))
