-- Tables of parts by domain, and sets of listed instances, as they grow.
use Rattle.std.proofs.Common.{◌≡◌, ℕ, ℤ, Bool, true, false, not, ◌||◌, List, [], ◌∷◌, ◌++◌, ◌+◌, ◌<◌, length, take, get_or, Option, Some, None, is_some, ap, sym, ◌∙◌, refl, cond, if◌then◌else◌, nat_eq}
use Rattle.std.specs.List.{find, list_any}
use Rattle.std.specs.Option.{option_or}
use Rattle.std.specs.Cmp.{unsigned_ties}
use Rattle.std.specs.Ordering.{nat_cmp, int_cmp, int_eq, is_eq}
use Rattle.std.specs.BTreeMap.{BTreeMap, get}
use Rattle.std.specs.BTreeSet.{BTreeSet, contains}
use Rattle.std.proofs.lemmas.Bool.{eqb-true}
use Rattle.std.proofs.lemmas.List.{take_more}
use Rattle.std.proofs.lemmas.List.Folds.{find-append, list_any_more}
use Rattle.profile_filter.specs.declared.profile.DomainPart.{DomainPart}
use Rattle.profile_filter.specs.Kept.{Settings, keeps}
use Rattle.profile_filter.specs.Lists.{HasListed, HasParts, Decides, kept_but}

pub gone : {X : Type 0} (found : Option X) → is_some found ≡ false → found ≡ None
gone None h = refl
gone (Some x) h = cc

none_is : {X : Type 0} (o : Option X) → option_or o None ≡ o
none_is (Some x) = refl
none_is None = refl

some_stays : {X : Type 0} (o : Option X) (x : X) → is_some o ≡ true → o ≡ option_or o (Some x)
some_stays (Some y) x h = refl
some_stays None x h = cc

-- a part whose domain was there changes nothing
pub old_stays : (table : BTreeMap ℕ DomainPart) (part : DomainPart) (indom : ℕ) → is_some (get nat_cmp table part.indom) ≡ true
    → get nat_cmp table indom ≡ option_or (get nat_cmp table indom) (cond (nat_eq part.indom indom) (Some part) None)
old_stays table part indom there = here (nat_eq part.indom indom) refl
  where
    here : (b : Bool) → nat_eq part.indom indom ≡ b → get nat_cmp table indom ≡ option_or (get nat_cmp table indom) (cond b (Some part) None)
    here true e = some_stays (get nat_cmp table indom) part (ap (λ k. is_some (get nat_cmp table k)) (sym (eqb-true part.indom indom e)) ∙ there)
    here false e = sym (none_is (get nat_cmp table indom))

-- and one whose domain wasn't is found by it
pub new_found : (old new : BTreeMap ℕ DomainPart) (part made : DomainPart) (indom : ℕ) → get nat_cmp old part.indom ≡ None → made ≡ part
    → ((q : ℕ) → get nat_cmp new q ≡ cond (is_eq (nat_cmp part.indom q)) (Some made) (get nat_cmp old q))
    → get nat_cmp new indom ≡ option_or (get nat_cmp old indom) (cond (nat_eq part.indom indom) (Some part) None)
new_found old new part made indom none same after =
    after indom ∙ ap (λ (p : DomainPart). cond (is_eq (nat_cmp part.indom indom)) (Some p) (get nat_cmp old indom)) same
    ∙ ap (λ b. cond b (Some part) (get nat_cmp old indom)) (sym (unsigned_ties part.indom indom)) ∙ here (nat_eq part.indom indom) refl
  where
    here : (b : Bool) → nat_eq part.indom indom ≡ b → cond b (Some part) (get nat_cmp old indom) ≡ option_or (get nat_cmp old indom) (cond b (Some part) None)
    here true e = ap (λ o. option_or o (Some part)) (sym (ap (get nat_cmp old) (sym (eqb-true part.indom indom e)) ∙ none))
    here false e = sym (none_is (get nat_cmp old indom))

-- the next of many parts
pub parts_step : (old new : BTreeMap ℕ DomainPart) (parts : List DomainPart) (k : ℕ) (part d : DomainPart) → k < length parts → part ≡ get_or parts k d → HasParts old (take k parts)
    → ((indom : ℕ) → get nat_cmp new indom ≡ option_or (get nat_cmp old indom) (cond (nat_eq part.indom indom) (Some part) None)) → HasParts new (take (k + 1) parts)
parts_step old new parts k part d below is has keeps indom =
    keeps indom ∙ ap (λ o. option_or o (cond (nat_eq part.indom indom) (Some part) None)) (has indom)
    ∙ sym (find-append (λ (p : DomainPart). nat_eq p.indom indom) (take k parts) (part ∷ []))
    ∙ ap (λ (s : DomainPart). find (λ (p : DomainPart). nat_eq p.indom indom) (take k parts ++ s ∷ [])) is
    ∙ ap (find (λ (p : DomainPart). nat_eq p.indom indom)) (sym (take_more parts k d below))

or_other : (b c : Bool) → cond b true c ≡ (c || b)
or_other true true = refl
or_other true false = refl
or_other false true = refl
or_other false false = refl

-- the next of many instances
pub listed_step : (old new : BTreeSet ℤ) (instances : List ℤ) (k : ℕ) (one d : ℤ) → k < length instances → one ≡ get_or instances k d → HasListed old (take k instances)
    → ((q : ℤ) → contains int_cmp new q ≡ cond (is_eq (int_cmp one q)) true (contains int_cmp old q)) → HasListed new (take (k + 1) instances)
listed_step old new instances k one d below is has after instance =
    after instance ∙ ap (λ (c : Bool). cond (int_eq one instance) true c) (has instance)
    ∙ or_other (int_eq one instance) (list_any (λ i. int_eq i instance) (take k instances))
    ∙ ap (λ (i : ℤ). list_any (λ j. int_eq j instance) (take k instances) || int_eq i instance) is
    ∙ sym (list_any_more (λ i. int_eq i instance) instances k d below)

-- an instance in the set has the other answer, and one that isn't there the same
pub keeps_listed : (base : Bool) (listed : Option (BTreeSet ℤ)) (set : BTreeSet ℤ) (t : Bool) (s : Settings) (indom : Option ℕ) (instance : ℤ) → Decides base listed s indom → listed ≡ Some set → t ≡ contains int_cmp set instance
    → (if t then not base else base) ≡ keeps s indom instance
keeps_listed base listed set t s indom instance decides is has = ap (λ (b : Bool). if b then not base else base) has ∙ ap (λ (o : Option (BTreeSet ℤ)). kept_but base o instance) (sym is) ∙ decides instance
