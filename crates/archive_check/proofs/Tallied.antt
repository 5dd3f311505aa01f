-- Stamps, one after another.
use Rattle.std.proofs.Common.{◌≡◌, ℕ, ◌+◌, ◌≤◌, Bool, true, false, List, [], ◌∷◌, ◌++◌, length, refl, sym, ap, ◌∙◌, subst, append_assoc, arith, length-append, Option, Some, None, ltb-true}
use Rattle.std.specs.Prelude.{max, min, nat_lt, if◌then◌else◌}
use Rattle.std.proofs.lemmas.Bool.{ltb-false}
use Rattle.std.proofs.lemmas.List.{append-nil}
use Rattle.pcp_base.specs.Time.{Moment, microseconds}
use Rattle.pcp_outside.specs.Causes.{shown_count}
use Rattle.archive_check.specs.declared.tally.Tally.{Tally}
use Rattle.archive_check.specs.Stamped.{all_of}
use Rattle.archive_check.specs.Tallies.{Climbs, FallSays, FallsBy, time_with, latest, IsTally}

pub all_append : (xs ys : List (List Moment)) → all_of (xs ++ ys) ≡ all_of xs ++ all_of ys
all_append [] ys = refl
all_append (x ∷ xs) ys = ap (λ l. x ++ l) (all_append xs ys) ∙ sym (append_assoc x (all_of xs) (all_of ys))

pub all_push : (xs : List (List Moment)) (x : List Moment) → all_of (xs ++ x ∷ []) ≡ all_of xs ++ x
all_push xs x = all_append xs (x ∷ []) ∙ ap (λ l. all_of xs ++ l) (append-nil x)

latest_push : (moments : List Moment) (s : Moment) → latest (moments ++ s ∷ []) ≡ max (latest moments) (microseconds s)
latest_push [] s = omega arith
latest_push (m ∷ moments) s = let more : latest (moments ++ s ∷ []) ≡ max (latest moments) (microseconds s) = latest_push moments s in omega (arith, more)

time_on : (time : ℕ) (s : Moment) → time_with time s ≡ max time (microseconds s)
time_on time s = go (nat_lt time (microseconds s)) refl
  where
    go : (b : Bool) → nat_lt time (microseconds s) ≡ b → (if b then microseconds s else time) ≡ max time (microseconds s)
    go true e = omega (arith, ltb-true time (microseconds s) e)
    go false e = omega (arith, ltb-false time (microseconds s) e)

climbs_push : (front : List Moment) (t s : Moment) → Climbs (front ++ t ∷ []) → microseconds t ≤ microseconds s → Climbs ((front ++ t ∷ []) ++ s ∷ [])
climbs_push [] t s c le = (le, tt)
climbs_push (a ∷ []) t s c le = (c.0, (le, tt))
climbs_push (a ∷ b ∷ front) t s c le = (c.0, climbs_push (b ∷ front) t s c.1 le)

-- one stamp more
says_more : (moments : List Moment) (last : Option Moment) (fall found : Option (Moment × Moment)) (s : Moment) → FallSays moments last fall → FallsBy fall last s found → FallSays (moments ++ s ∷ []) (Some s) found
says_more moments last (Some f) found s says is =
    subst (FallSays (moments ++ s ∷ []) (Some s)) (sym is) (record { front = says.front; behind = says.behind ++ s ∷ []; are = ap (λ l. l ++ s ∷ []) says.are ∙ append_assoc says.front (f.0 ∷ f.1 ∷ says.behind) (s ∷ []); good = says.good; falls = says.falls })
says_more moments None None None s says is = (subst (λ l. Climbs (l ++ s ∷ [])) (sym says.1) tt, (moments, refl))
says_more moments None None (Some f) s says is = absurd (let both : None ≡ Some f.0 = is.0 in cc)
says_more moments (Some t) None None s says is =
    (subst (λ l. Climbs (l ++ s ∷ [])) (sym says.1.1) (climbs_push says.1.0 t s (subst Climbs says.1.1 says.0) (is t refl)), (moments, refl))
says_more moments (Some t) None (Some f) s says is =
    let first : t ≡ f.0 = (let both : Some t ≡ Some f.0 = is.0 in cc) in
    record {
      front = says.1.0;
      behind = [];
      are = ap (λ l. l ++ s ∷ []) (says.1.1 ∙ ap (λ m. says.1.0 ++ m ∷ []) first) ∙ append_assoc says.1.0 (f.0 ∷ []) (s ∷ []) ∙ ap (λ m. says.1.0 ++ f.0 ∷ m ∷ []) (sym is.1);
      good = subst Climbs (says.1.1 ∙ ap (λ m. says.1.0 ++ m ∷ []) first) says.0;
      falls = is.2;
    }

counted_on : (n count next : ℕ) → count ≡ shown_count n → next ≡ min (count + 1) 18446744073709551615 → next ≡ shown_count (n + 1)
counted_on n count next is on = omega (arith, is, on)

module _ (records : List (List Moment)) (t u : Tally) (is : IsTally records t) (count : u.count ≡ min (t.count + 1) 18446744073709551615) where
  size : (v : List Moment) → u.count ≡ shown_count (length (records ++ v ∷ []))
  size v = counted_on (length records) t.count u.count is.count_is count ∙ ap shown_count (sym (length-append records (v ∷ [])))

  pub one_stamped : (s : Moment) → u.time ≡ time_with t.time s → u.last ≡ Some s → FallsBy t.fall t.last s u.fall → IsTally (records ++ (s ∷ []) ∷ []) u
  one_stamped s time last fall = record {
    count_is = size (s ∷ []);
    time_is = time ∙ time_on t.time s ∙ ap (λ n. max n (microseconds s)) is.time_is ∙ sym (latest_push (all_of records) s) ∙ ap latest (sym (all_push records (s ∷ [])));
    fall_is = subst (λ l. FallSays l u.last u.fall) (sym (all_push records (s ∷ []))) (subst (λ o. FallSays (all_of records ++ s ∷ []) o u.fall) (sym last) (says_more (all_of records) t.last t.fall u.fall s is.fall_is fall));
  }

  pub one_unstamped : u.time ≡ t.time → u.last ≡ t.last → u.fall ≡ t.fall → IsTally (records ++ [] ∷ []) u
  one_unstamped time last fall =
      let same : all_of (records ++ [] ∷ []) ≡ all_of records = all_push records [] ∙ append-nil (all_of records) in
      record {
        count_is = size [];
        time_is = time ∙ is.time_is ∙ ap latest (sym same);
        fall_is = subst (λ l. FallSays l u.last u.fall) (sym same) (subst (λ o. FallSays (all_of records) o u.fall) (sym last) (subst (λ f. FallSays (all_of records) t.last f) (sym fall) is.fall_is));
      }
