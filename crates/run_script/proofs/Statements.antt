-- A line that is one statement of the configuration.
use Rattle.std.proofs.Common.{◌≡◌, ℕ, nat_eq, true, false, List, [], ◌∷◌, ◌++◌, length, Option, Some, None, ap, sym, subst, ◌∙◌, refl, arith, length-append}
use Rattle.std.proofs.lemmas.Bool.{eqb-true}
use Rattle.log_schedule.specs.declared.config.Group.{Group}
use Rattle.log_schedule.specs.declared.stage.Stage.TheVariants as scans
use Rattle.log_schedule.specs.Configuration.{IsConfiguration, IsFault}
use Rattle.log_schedule.specs.Scanning.{State, run, at_start}
use Rattle.log_schedule.proofs.Accepts.{taken}
use Rattle.log_schedule.proofs.Verdicts.{is_read, fault_refuses}
use Rattle.run_script.specs.Heads.{single, group_of_scan, statement_of}
use Rattle.run_script.specs.Laws.{StatementsAreTold}

pub one_alone : (groups rest : List Group) (last : Group) → nat_eq (length groups) 1 ≡ true → groups ≡ rest ++ last ∷ [] → single groups ≡ Some last
one_alone groups [] last h e = ap single e
one_alone groups (group ∷ []) last h e = let two : length groups ≡ 2 = ap length e in let one : length groups ≡ 1 = eqb-true (length groups) 1 h in absurd (omega arith)
one_alone groups (group ∷ other ∷ rest) last h e =
    let one : length groups ≡ 1 = eqb-true (length groups) 1 h in absurd (omega (arith, one, ap length e, length-append (group ∷ other ∷ rest) (last ∷ [])))

pub not_one : (groups : List Group) → nat_eq (length groups) 1 ≡ false → single groups ≡ None
not_one [] h = refl
not_one (group ∷ []) h = cc h
not_one (group ∷ other ∷ groups) h = refl

-- a configuration's groups are those that the scan finds
pub told_group : (line : List ℕ) (groups : List Group) → IsConfiguration line groups → single groups ≡ statement_of line
unfolding statement_of
told_group line groups is =
    let t = taken groups line at_start.1 refl is in
    ap single (sym t.2) ∙ ap group_of_scan (sym t.1)

-- what the scan leads to, if it leads between statements
by_scan : (line : List ℕ) (found : Option State) (group : Group) → run at_start line ≡ found → group_of_scan found ≡ Some group → (groups : List Group) × IsConfiguration line groups × (single groups ≡ Some group)
by_scan line (Some (scans.Between, f)) group e h = (f.groups, is_read line f e, h)
by_scan line _ group e h = cc

-- bytes with a fault are no statement
pub no_group : (line : List ℕ) (at : ℕ) → IsFault line at → None ≡ statement_of line
unfolding statement_of
no_group line at fault = here (group_of_scan (run at_start line)) refl
  where
    here : (o : Option Group) → group_of_scan (run at_start line) ≡ o → None ≡ o
    here None e = refl
    here (Some group) e = let found = by_scan line (run at_start line) group refl e in absurd (fault_refuses line at fault found.0 found.1)

alone : (groups : List Group) (group : Group) → single groups ≡ Some group → groups ≡ group ∷ []
alone [] group h = cc
alone (one ∷ []) group h = cc
alone (one ∷ other ∷ groups) group h = cc

pub statements_are_told : StatementsAreTold
unfolding statement_of
statements_are_told line group = (there, λ is. sym (told_group line (group ∷ []) is))
  where
    there : statement_of line ≡ Some group → IsConfiguration line (group ∷ [])
    there h = let found = by_scan line (run at_start line) group refl h in subst (IsConfiguration line) (alone found.0 group found.2) found.1
