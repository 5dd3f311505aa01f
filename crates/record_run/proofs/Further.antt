-- What loads add to what a pass has seen, and what a pass knows that has ended others.
use Rattle.std.proofs.Common.{◌≡◌, ◌≢◌, ℕ, zero, suc, ◌<◌, ◌⊎◌, Bool, true, eqb, eq-eqb, List, [], ◌∷◌, ◌++◌, All, append_assoc, append-nil, length, slice_get, Some, inl, inr, ⊎_elim, sym, refl, ap, ◌∙◌, subst, arith}
use Rattle.std.proofs.lemmas.List.{append_cancel_left}
use Rattle.std.proofs.lemmas.List.Elements.{All-append}
use Rattle.region_core.specs.declared.act.Act.TheVariants.{Load}
use Rattle.region_core.specs.declared.act.Entry.{Entry}
use Rattle.region_core.specs.declared.mode.Mode.TheVariants.{Idle}
use Rattle.region_core.specs.Journal.{state, own, IsJournal}
use Rattle.region_core.specs.State.{State, opening, IsIn}
use Rattle.region_core.proofs.Journals.{state-append, own-append, own-mine, own-others}
use Rattle.region_core.proofs.Runs.{mode_run}
use Rattle.region_rule.specs.declared.view.View.{View}
use Rattle.region_rule.specs.Calls.{Gathers}
use Rattle.region_rule.specs.Reads.{Reads}
use Rattle.region_rule.specs.Seats.{Token}
use Rattle.region_rule.specs.Steps.{Extends, entry}
use Rattle.region_rule.specs.Tokens.{AreIdle, HasLists, Knows}
use Rattle.region_rule.specs.Views.{HasNone, IsFront, count, now, one_if, opening_of}
use Rattle.region_words.specs.Images.{mmv}
use Rattle.script_runs.specs.Journals.{is_load}
use Rattle.record_run.specs.Gathered.{GathersAll}

-- Lists that are kept

-- these are the entries that are kept of this number
abbrev pub IsKept : List (ℕ × List Entry) → ℕ → List Entry → Type 0
IsKept [] k es = ⊥
IsKept (x ∷ xs) k es = ((x.0 ≡ k) × (x.1 ≡ es)) ⊎ IsKept xs k es

kept_behind : (xs ys : List (ℕ × List Entry)) (k : ℕ) (es : List Entry) → IsKept ys k es → IsKept (xs ++ ys) k es
kept_behind [] ys k es h = h
kept_behind (x ∷ xs) ys k es h = inr (kept_behind xs ys k es h)

-- they are all that was seen of it
own_kept : (seen : List Entry) (kept : List (ℕ × List Entry)) (k : ℕ) (es : List Entry) → HasLists seen kept → IsKept kept k es → own k seen ≡ es
own_kept seen [] k es h i = absurd i
own_kept seen (x ∷ xs) k es h i = ⊎_elim
    (λ (e : (x.0 ≡ k) × (x.1 ≡ es)). ap (λ (n : ℕ). own n seen) (sym e.0) ∙ (h.0 ∙ e.1))
    (λ (r : IsKept xs k es). own_kept seen xs k es h.1 r)
    i

none_kept : (more : List Entry) (kept : List (ℕ × List Entry)) (k : ℕ) (es : List Entry) → HasNone more kept → IsKept kept k es → own k more ≡ []
none_kept more [] k es h i = absurd i
none_kept more (x ∷ xs) k es h i = ⊎_elim
    (λ (e : (x.0 ≡ k) × (x.1 ≡ es)). ap (λ (n : ℕ). own n more) (sym e.0) ∙ h.0)
    (λ (r : IsKept xs k es). none_kept more xs k es h.1 r)
    i

idle_kept : (s : State) (kept : List (ℕ × List Entry)) (k : ℕ) (es : List Entry) → AreIdle s kept → IsKept kept k es → IsIn Idle s k
idle_kept s [] k es h i = absurd i
idle_kept s (x ∷ xs) k es h i = ⊎_elim
    (λ (e : (x.0 ≡ k) × (x.1 ≡ es)). subst (λ (n : ℕ). IsIn Idle s n) e.0 h.0)
    (λ (r : IsKept xs k es). idle_kept s xs k es h.1 r)
    i

count_kept : (kept : List (ℕ × List Entry)) (k : ℕ) (es : List Entry) → IsKept kept k es → 0 < count k kept
count_kept [] k es i = absurd i
count_kept (x ∷ xs) k es i = ⊎_elim
    (λ (e : (x.0 ≡ k) × (x.1 ≡ es)). let here : one_if (eqb x.0 k) ≡ 1 = ap (λ (b : Bool). one_if b) (eq-eqb x.0 k e.0) in omega arith)
    (λ (r : IsKept xs k es). let rest : 0 < count k xs = count_kept xs k es r in omega arith)
    i

-- Loads

abbrev pub AreLoads : List Entry → Type 0
AreLoads entries = All (λ (e : Entry). is_load e.act ≡ true) entries

-- what a view has seen is a legal journal
abbrev pub IsLawful : View → Type 0
IsLawful v = IsJournal mmv v.start v.passes v.seen

-- it has loaded since, and nothing else, and none of those that it had ended did anything
pub record Looked (v w : View) : Type 0 where
  pub more : List Entry
  pub seen : w.seen ≡ v.seen ++ more
  pub made : List Entry
  pub own_is : w.own ≡ v.own ++ made
  pub made_are : own v.number more ≡ made
  pub looks : AreLoads made
  pub number : w.number ≡ v.number
  pub start : w.start ≡ v.start
  pub passes : w.passes ≡ v.passes
  pub kept : w.kept ≡ v.kept
  pub mode : w.mode ≡ v.mode
  pub stands : IsIn v.mode (now v) v.number → IsIn w.mode (now w) w.number
  pub others : (k : ℕ) (es : List Entry) → k ≢ v.number → IsKept v.kept k es → own k more ≡ []
  pub legal : IsLawful v → IsLawful w

no_loads : AreLoads []
no_loads k d h = absurd (omega arith)

one_load : (e : Entry) → is_load e.act ≡ true → AreLoads (e ∷ [])
one_load e is zero d h = is
one_load e is (suc k) d h = absurd (omega arith)

looked_still : (v : View) → Looked v v
looked_still v = record {
  more = [];
  seen = sym (append-nil v.seen);
  made = [];
  own_is = sym (append-nil v.own);
  made_are = refl;
  looks = no_loads;
  number = refl;
  start = refl;
  passes = refl;
  kept = refl;
  mode = refl;
  stands = λ h. h;
  others = λ k es n i. refl;
  legal = λ h. h;
}

looked_once : (v w : View) (i n : ℕ) → Extends mmv v (Load i) n w → Looked v w
looked_once v w i n e = record {
  more = e.between ++ entry v.number (Load i) ∷ [];
  seen = ap (λ (x : View). x.seen) e.is ∙ append_assoc v.seen e.between (entry v.number (Load i) ∷ []);
  made = entry v.number (Load i) ∷ [];
  own_is = ap (λ (x : View). x.own) e.is;
  made_are = own-mine v.number e.between (Load i) ∙ ap (λ (es : List Entry). es ++ entry v.number (Load i) ∷ []) e.others;
  looks = one_load (entry v.number (Load i)) refl;
  number = ap (λ (x : View). x.number) e.is;
  start = ap (λ (x : View). x.start) e.is;
  passes = ap (λ (x : View). x.passes) e.is;
  kept = ap (λ (x : View). x.kept) e.is;
  mode = ap (λ (x : View). x.mode) e.is;
  stands = λ h. e.mode;
  others = λ k es differ is. own-others v.number k e.between (Load i) (λ same. differ (sym same)) ∙ none_kept e.between v.kept k es e.gathered is;
  legal = λ h. subst (λ (x : View). IsLawful x) (sym e.is) e.journal;
}

looked_on : (v u w : View) → Looked v u → Looked u w → Looked v w
looked_on v u w a b = record {
  more = a.more ++ b.more;
  seen = b.seen ∙ (ap (λ (l : List Entry). l ++ b.more) a.seen ∙ append_assoc v.seen a.more b.more);
  made = a.made ++ b.made;
  own_is = b.own_is ∙ (ap (λ (l : List Entry). l ++ b.made) a.own_is ∙ append_assoc v.own a.made b.made);
  made_are =
      let later : own v.number b.more ≡ b.made = ap (λ (n : ℕ). own n b.more) (sym a.number) ∙ b.made_are in
      own-append v.number a.more b.more ∙ (λ i. a.made_are i ++ later i);
  looks = All-append (λ (e : Entry). is_load e.act ≡ true) a.made b.made a.looks b.looks;
  number = b.number ∙ a.number;
  start = b.start ∙ a.start;
  passes = b.passes ∙ a.passes;
  kept = b.kept ∙ a.kept;
  mode = b.mode ∙ a.mode;
  stands = λ h. b.stands (a.stands h);
  others = λ k es differ is.
      let first : own k a.more ≡ [] = a.others k es differ is in
      let second : own k b.more ≡ [] = b.others k es (λ same. differ (same ∙ a.number)) (subst (λ (l : List (ℕ × List Entry)). IsKept l k es) (sym a.kept) is) in
      own-append k a.more b.more ∙ (λ i. first i ++ second i);
  legal = λ h. b.legal (a.legal h);
}

pub looked : (v w : View) (found : List (ℕ × ℕ)) → Reads mmv v found w → Looked v w
looked v w [] r = subst (λ (x : View). Looked v x) (sym r) (looked_still v)
looked v w (x ∷ xs) r = looked_on v r.0 w (looked_once v r.0 x.0 x.1 r.1) (looked r.0 w xs r.2)

-- Passes that were ended

-- a pass has ended these, and keeps the entries of each, beside those it had kept
pub record Ended (v : View) (passes : List Token) (w : View) : Type 0 where
  pub more : List Entry
  pub seen : w.seen ≡ v.seen ++ more
  pub own_is : w.own ≡ v.own
  pub number : w.number ≡ v.number
  pub start : w.start ≡ v.start
  pub passes_are : w.passes ≡ v.passes
  pub mode : w.mode ≡ v.mode
  pub kept : (k : ℕ) (es : List Entry) → IsKept v.kept k es → IsKept w.kept k es
  pub each : (n : ℕ) (pass : Token) → slice_get passes n ≡ Some pass → IsFront pass.view.seen w.seen × IsKept w.kept pass.view.number pass.view.own
  pub knows : 0 < length passes → Knows mmv w

knows_then : (u w : View) (passes : List Token) → Knows mmv u → GathersAll u passes w → Knows mmv w
knows_then u w [] k g = subst (λ (x : View). Knows mmv x) (sym g) k
knows_then u w (pass ∷ passes) k g = knows_then g.0 w passes g.1.knows g.2

pub ended : (v w : View) (passes : List Token) → GathersAll v passes w → Ended v passes w
ended v w [] g = subst (λ (x : View). Ended v [] x) (sym g) (record {
  more = [];
  seen = sym (append-nil v.seen);
  own_is = refl;
  number = refl;
  start = refl;
  passes_are = refl;
  mode = refl;
  kept = λ k es i. i;
  each = λ n pass e. absurd (cc);
  knows = λ h. absurd (omega arith);
})
ended v w (pass ∷ passes) g = one_more v g.0 w pass passes g.1 (ended g.0 w passes g.2) (knows_then g.0 w passes g.1.knows g.2)
  where
    front_on : (front seen later : List Entry) → IsFront front seen → IsFront seen later → IsFront front later
    front_on front seen later a b = (a.0 ++ b.0, b.1 ∙ (ap (λ (l : List Entry). l ++ b.0) a.1 ∙ append_assoc front a.0 b.0))

    one_more : (v u w : View) (pass : Token) (passes : List Token) → Gathers mmv v pass.view u → Ended u passes w → Knows mmv w → Ended v (pass ∷ passes) w
    one_more v u w pass passes g r k = record {
      more = g.mine.0 ++ r.more;
      seen = r.seen ∙ (ap (λ (l : List Entry). l ++ r.more) g.mine.1 ∙ append_assoc v.seen g.mine.0 r.more);
      own_is = r.own_is ∙ ap (λ (x : View). x.own) g.is;
      number = r.number ∙ ap (λ (x : View). x.number) g.is;
      start = r.start ∙ ap (λ (x : View). x.start) g.is;
      passes_are = r.passes_are ∙ ap (λ (x : View). x.passes) g.is;
      mode = r.mode ∙ ap (λ (x : View). x.mode) g.is;
      kept = λ k es i. r.kept k es (subst (λ (x : View). IsKept x.kept k es) (sym g.is) (inr (kept_behind pass.view.kept v.kept k es i)));
      each = each;
      knows = λ h. k;
    }
      where
        here : IsFront pass.view.seen w.seen × IsKept w.kept pass.view.number pass.view.own
        here = (front_on pass.view.seen u.seen w.seen g.theirs (r.more, r.seen), r.kept pass.view.number pass.view.own (subst (λ (x : View). IsKept x.kept pass.view.number pass.view.own) (sym g.is) (inl (refl, refl))))

        each : (n : ℕ) (p : Token) → slice_get (pass ∷ passes) n ≡ Some p → IsFront p.view.seen w.seen × IsKept w.kept p.view.number p.view.own
        each zero p e = let same : pass ≡ p = cc in subst (λ (t : Token). IsFront t.view.seen w.seen × IsKept w.kept t.view.number t.view.own) same here
        each (suc n) p e = r.each n p e

-- One region

-- A pass that had seen nothing loads, ends other passes, and loads: it ends with a legal journal, in which it only loads, and each
-- of the others made what it made before it was ended, and is idle
module _ (first waiting gathered final : View) (passes : List Token) (none : first.seen ≡ []) (nor : first.own ≡ [])
    (a : Looked first waiting) (b : Ended waiting passes gathered) (c : Looked gathered final) (some : 0 < length passes) where
  pub start_is : final.start ≡ first.start
  start_is = c.start ∙ (b.start ∙ a.start)

  pub passes_is : final.passes ≡ first.passes
  passes_is = c.passes ∙ (b.passes_are ∙ a.passes)

  pub legal_then : IsJournal mmv first.start first.passes final.seen
  legal_then = subst (λ (n : ℕ). IsJournal mmv first.start n final.seen) passes_is (subst (λ (ws : List ℕ). IsJournal mmv ws final.passes final.seen) start_is (c.legal (b.knows some).journal))

  pub loads_then : AreLoads (own first.number final.seen)
  loads_then =
      let number : gathered.number ≡ first.number = b.number ∙ a.number in
      let before : own first.number gathered.seen ≡ a.made =
      ap (λ (n : ℕ). own n gathered.seen) (sym number) ∙ ((b.knows some).had ∙ (b.own_is ∙ (a.own_is ∙ ap (λ (l : List Entry). l ++ a.made) nor))) in
      let after : own first.number c.more ≡ c.made = ap (λ (n : ℕ). own n c.more) (sym number) ∙ c.made_are in
      let all : own first.number final.seen ≡ a.made ++ c.made =
      ap (λ (l : List Entry). own first.number l) c.seen ∙ (own-append first.number gathered.seen c.more ∙ (λ i. before i ++ after i)) in
      subst (λ (l : List Entry). AreLoads l) (sym all) (All-append (λ (e : Entry). is_load e.act ≡ true) a.made c.made a.looks c.looks)

  pub number_then : final.number ≡ first.number
  number_then = c.number ∙ (b.number ∙ a.number)

  -- its own mode
  pub mode_then : final.mode ≡ first.mode
  mode_then = c.mode ∙ (b.mode ∙ a.mode)

  pub stands_then : IsIn final.mode (now final) final.number
  stands_then = c.stands (b.knows some).mode

  -- it keeps the number of each that it ended
  pub counted : (n : ℕ) (pass : Token) → slice_get passes n ≡ Some pass → 0 < count pass.view.number final.kept
  counted n pass there =
      let found = b.each n pass there in
      subst (λ (l : List (ℕ × List Entry)). 0 < count pass.view.number l) (sym c.kept) (count_kept gathered.kept pass.view.number pass.view.own found.1)

  -- one of the others
  pub record Stood (k : ℕ) (more : List Entry) : Type 0 where
    pub rest : List Entry
    pub is : final.seen ≡ more ++ rest
    pub finished : own k rest ≡ []
    pub quiet : own k c.more ≡ []
    pub idle : IsIn Idle (state (opening first.start first.passes) final.seen) k

  pub stood : (k n : ℕ) (pass : Token) (more : List Entry) → k ≢ first.number → slice_get passes n ≡ Some pass → pass.view.number ≡ k → pass.view.seen ≡ more → pass.view.own ≡ own k more → Stood k more
  stood k n pass more differ there number seen made =
      let known : Knows mmv gathered = b.knows some in
      let found = b.each n pass there in
      let kept : IsKept gathered.kept k (own k more) = subst (λ (l : List Entry). IsKept gathered.kept k l) made (subst (λ (m : ℕ). IsKept gathered.kept m pass.view.own) number found.1) in
      let front : gathered.seen ≡ more ++ found.0.0 = found.0.1 ∙ ap (λ (l : List Entry). l ++ found.0.0) seen in
      let all : own k more ++ own k found.0.0 ≡ own k more ++ [] =
      sym (own-append k more found.0.0) ∙ (ap (λ (l : List Entry). own k l) (sym front) ∙ (own_kept gathered.seen gathered.kept k (own k more) known.lists kept ∙ sym (append-nil (own k more)))) in
      let between : own k found.0.0 ≡ [] = append_cancel_left (own k more) (own k found.0.0) [] all in
      let quiet : own k c.more ≡ [] = c.others k (own k more) (λ e. differ (e ∙ (b.number ∙ a.number))) kept in
      let from : opening_of gathered ≡ opening first.start first.passes = λ i. opening ((b.start ∙ a.start) i) ((b.passes_are ∙ a.passes) i) in
      let then_state : state (now gathered) c.more ≡ state (opening first.start first.passes) final.seen =
      sym (state-append (opening_of gathered) gathered.seen c.more) ∙ (λ i. state (from i) (sym c.seen i)) in
      record {
        rest = found.0.0 ++ c.more;
        is = c.seen ∙ (ap (λ (l : List Entry). l ++ c.more) front ∙ append_assoc more found.0.0 c.more);
        finished = own-append k found.0.0 c.more ∙ (λ i. between i ++ quiet i);
        quiet = quiet;
        idle = subst (λ (s : State). IsIn Idle s k) then_state (mode_run (now gathered) k Idle c.more quiet (idle_kept (now gathered) gathered.kept k (own k more) known.idle kept));
      }
