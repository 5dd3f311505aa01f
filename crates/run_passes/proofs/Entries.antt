-- What views grow by: the entries of others, and those of their own acts.
use Rattle.std.proofs.Common.{◌≡◌, ℕ, true, List, [], ◌∷◌, ◌++◌, All, map, append-nil, append_assoc, sym, refl, ap, ◌∙◌, subst}
use Rattle.std.proofs.lemmas.List.Elements.{All-nil, All-cons, All-append}
use Rattle.region_core.specs.declared.act.Act.{Act}
use Rattle.region_core.specs.declared.act.Act.TheVariants.{Load}
use Rattle.region_core.specs.declared.act.Entry.{Entry}
use Rattle.region_core.specs.State.{State, opening}
use Rattle.region_core.specs.Journal.{state, own}
use Rattle.region_core.proofs.Journals.{state-append, own-append, own-mine}
use Rattle.region_rule.specs.declared.view.View.{View}
use Rattle.region_rule.specs.Views.{opening_of, now}
use Rattle.region_rule.specs.Steps.{entry, Extends}
use Rattle.region_rule.specs.Changes.{Acts}
use Rattle.region_rule.specs.Reads.{Reads}
use Rattle.region_words.specs.Calls.{Loads}
use Rattle.region_words.specs.Images.{mmv}
use Rattle.script_runs.specs.Journals.{is_load}
use Rattle.run_passes.specs.LineEntries.{Looks, Makes}
use Rattle.run_passes.specs.Writers.{Grew}

pub grew_refl : (v : View) → Grew v [] v
grew_refl v = record { seen = sym (append-nil v.seen); made = sym (append-nil v.own); number = refl; start = refl; passes = refl }

pub grew_trans : (v u w : View) (xs ys : List Entry) → Grew v xs u → Grew u ys w → Grew v (xs ++ ys) w
grew_trans v u w xs ys a b = record {
  seen = b.seen ∙ (ap (λ (l : List Entry). l ++ ys) a.seen ∙ append_assoc v.seen xs ys);
  made =
      b.made
      ∙ (ap (λ (k : ℕ). u.own ++ own k ys) a.number
      ∙ (ap (λ (l : List Entry). l ++ own v.number ys) a.made
      ∙ (append_assoc v.own (own v.number xs) (own v.number ys) ∙ ap (λ (l : List Entry). v.own ++ l) (sym (own-append v.number xs ys)))));
  number = b.number ∙ a.number;
  start = b.start ∙ a.start;
  passes = b.passes ∙ a.passes;
}

-- where a view has grown, it is in the state after those entries
pub now_grown : (v w : View) (more : List Entry) → Grew v more w → now w ≡ state (now v) more
now_grown v w more g =
    ap (λ (l : List Entry). state (opening_of w) l) g.seen
    ∙ (ap (λ (s : State). state s (v.seen ++ more)) start ∙ state-append (opening_of v) v.seen more)
  where
    start : opening_of w ≡ opening_of v
    start = λ i. opening (g.start i) (g.passes i)

-- the entries of one call: those of others, and then its own
abbrev pub entries_of : (v w : View) (act : Act) (n : ℕ) → Extends mmv v act n w → List Entry
entries_of v w act n e = e.between ++ entry v.number act ∷ []

own_of : (v w : View) (act : Act) (n : ℕ) (e : Extends mmv v act n w) → own v.number (entries_of v w act n e) ≡ entry v.number act ∷ []
own_of v w act n e = own-mine v.number e.between act ∙ ap (λ (l : List Entry). l ++ entry v.number act ∷ []) e.others

pub grew_step : (v w : View) (act : Act) (n : ℕ) (e : Extends mmv v act n w) → Grew v (entries_of v w act n e) w
grew_step v w act n e = record {
  seen = ap (λ (x : View). x.seen) e.is ∙ append_assoc v.seen e.between (entry v.number act ∷ []);
  made = ap (λ (x : View). x.own) e.is ∙ ap (λ (l : List Entry). v.own ++ l) (sym (own_of v w act n e));
  number = ap (λ (x : View). x.number) e.is;
  start = ap (λ (x : View). x.start) e.is;
  passes = ap (λ (x : View). x.passes) e.is;
}

pub makes_step : (v w : View) (act : Act) (n : ℕ) (e : Extends mmv v act n w) → Makes v.number (act ∷ []) (entries_of v w act n e)
makes_step v w act n e = own_of v w act n e

-- Own acts of two stretches

map_both : (k : ℕ) (xs ys : List Act) → map (λ act. entry k act) (xs ++ ys) ≡ map (λ act. entry k act) xs ++ map (λ act. entry k act) ys
map_both k [] ys = refl
map_both k (x ∷ xs) ys = ap (λ (l : List Entry). entry k x ∷ l) (map_both k xs ys)

pub makes_both : (k : ℕ) (xs ys : List Act) (es fs : List Entry) → Makes k xs es → Makes k ys fs → Makes k (xs ++ ys) (es ++ fs)
makes_both k xs ys es fs a b =
    own-append k es fs ∙ (ap (λ (l : List Entry). l ++ own k fs) a ∙ (ap (λ (l : List Entry). map (λ act. entry k act) xs ++ l) b ∙ sym (map_both k xs ys)))

pub makes_by : (j k : ℕ) (xs : List Act) (es : List Entry) → j ≡ k → Makes j xs es → Makes k xs es
makes_by j k xs es same m = subst (λ (n : ℕ). Makes n xs es) same m

pub looks_both : (k : ℕ) (es fs : List Entry) → Looks k es → Looks k fs → Looks k (es ++ fs)
looks_both k es fs a b = subst (λ (l : List Entry). All (λ (e : Entry). is_load e.act ≡ true) l) (sym (own-append k es fs)) (All-append (λ (e : Entry). is_load e.act ≡ true) (own k es) (own k fs) a b)

-- Several acts of one pass, one after another

pub record Acted (v : View) (acts : List Act) (w : View) : Type 0 where
  pub more : List Entry
  pub grew : Grew v more w
  pub makes : Makes v.number acts more

pub acted_none : (v : View) → Acted v [] v
acted_none v = record { more = []; grew = grew_refl v; makes = refl }

pub acted_one : (v w : View) (act : Act) (n : ℕ) → Extends mmv v act n w → Acted v (act ∷ []) w
acted_one v w act n e = record { more = entries_of v w act n e; grew = grew_step v w act n e; makes = makes_step v w act n e }

pub acted_both : (v u w : View) (xs ys : List Act) → Acted v xs u → Acted u ys w → Acted v (xs ++ ys) w
acted_both v u w xs ys a b = record {
  more = a.more ++ b.more;
  grew = grew_trans v u w a.more b.more a.grew b.grew;
  makes = makes_both v.number xs ys a.more b.more a.makes (makes_by u.number v.number ys b.more a.grew.number b.makes);
}

pub acted_all : (v w : View) (acts : List Act) → Acts mmv v acts w → Acted v acts w
acted_all v w [] a = subst (λ (x : View). Acted v [] x) (sym a) (acted_none v)
acted_all v w (act ∷ acts) a = acted_both v a.1 w (act ∷ []) acts (acted_one v a.1 act a.0 a.2) (acted_all a.1 w acts a.3)

-- Loads

pub record Looked (v w : View) : Type 0 where
  pub more : List Entry
  pub grew : Grew v more w
  pub looks : Looks v.number more

looked_none : (v : View) → Looked v v
looked_none v = record { more = []; grew = grew_refl v; looks = All-nil (λ (e : Entry). is_load e.act ≡ true) }

looked_one : (v w : View) (i n : ℕ) → Extends mmv v (Load i) n w → Looked v w
looked_one v w i n e = record {
  more = entries_of v w (Load i) n e;
  grew = grew_step v w (Load i) n e;
  looks = subst (λ (l : List Entry). All (λ (x : Entry). is_load x.act ≡ true) l) (sym (own_of v w (Load i) n e)) (All-cons (λ (x : Entry). is_load x.act ≡ true) (entry v.number (Load i)) [] refl (All-nil (λ (x : Entry). is_load x.act ≡ true)));
}

looked_both : (v u w : View) → Looked v u → Looked u w → Looked v w
looked_both v u w a b = record {
  more = a.more ++ b.more;
  grew = grew_trans v u w a.more b.more a.grew b.grew;
  looks = looks_both v.number a.more b.more a.looks (subst (λ (n : ℕ). Looks n b.more) a.grew.number b.looks);
}

reads_looked : (v w : View) (found : List (ℕ × ℕ)) → Reads mmv v found w → Looked v w
reads_looked v w [] r = subst (λ (x : View). Looked v x) (sym r) (looked_none v)
reads_looked v w (x ∷ xs) r = looked_both v r.0 w (looked_one v r.0 x.0 x.1 r.1) (reads_looked r.0 w xs r.2)

pub loads_looked : (v w : View) → Loads v w → Looked v w
loads_looked v w l = reads_looked v w l.0 l.1
