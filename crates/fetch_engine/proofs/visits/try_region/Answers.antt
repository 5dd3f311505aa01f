-- Where nothing is kept, where the value words were read again, and where another generation was found.
use Rattle.std.proofs.Common.{rules, ◌≡◌, ℕ, List, None, Some, Result, Err, ap, subst, sym}
use Rattle.std.specs.Prelude.{IfErr, MatchResult}
use Rattle.region_rule.specs.declared.fault.ReadFault.{ReadFault}
use Rattle.region_rule.specs.declared.fault.ValueFault.{ValueFault}
use Rattle.region_rule.specs.declared.fault.ValueFault.TheVariants.{Newer, Again}
use Rattle.fetch_engine.specs.Kept.{ShowsTold, TryFails, ValuesFail}
use Rattle.fetch_engine.specs.declared.visits.How.{How}
use Rattle.fetch_engine.proofs.Holding.{again_unloaded, anew_fails, anew_loaded, anew_shown, kept_loaded, whole_told}
use Rattle.fetch_engine.proofs.visits.try_region.Goals as goal

pub returns-in_default-clause-reads : goal.returns-in_default-clause-reads
returns-in_default-clause-reads c =
    let none : c.args.kept.now ≡ None = search rules in
    whole_told c.args.kept.now c.args.pass.now.view c.read_whole.new.pass.view c.in_ok-read_whole.field-0 none c.in_ok-read_whole.ensures.reads

pub returns-in_err-read_whole-in-Err-Newer-clause-reads : goal.returns-in_err-read_whole-in-Err-Newer-clause-reads
returns-in_err-read_whole-in-Err-Newer-clause-reads c =
    let kept : c.args.kept.now ≡ Some c.in-Some.told = search rules in
    let again : c.read_again-again.result ≡ Err (Newer c.in-Err-Newer._found) = search rules in
    let is : c.from_residual-in_err-read_whole-in-Err-Newer.result ≡ Err c.in_err-read_whole-in-Err-Newer.field-0.0 = search rules in
    let v = c.args.pass.now.view in
    let w = c.read_whole-in-Err-Newer.new.pass.view in
    let still = Some c.read_again-again.new.told in
    let same : c.read_again-again.new.told ≡ c.in-Some.told = subst (λ (r : Result (Unit {0}) ValueFault). IfErr r (λ _. c.read_again-again.new.told ≡ c.in-Some.told)) again c.read_again-again.ensures.same in
    let fails : ValuesFail c.in-Some.told v c.read_again-again.new.pass.view (Newer c.in-Err-Newer._found) =
    subst (λ (r : Result (Unit {0}) ValueFault). IfErr r (ValuesFail c.in-Some.told v c.read_again-again.new.pass.view)) again c.read_again-again.ensures.fails in
    subst (λ (r : Result How ReadFault). MatchResult r (λ _. ShowsTold c.args.kept.now v still w) (TryFails c.args.kept.now v still w)) (sym is)
    (anew_fails c.args.kept.now still c.in-Some.told v c.read_again-again.new.pass.view w c.in-Err-Newer._found c.in_err-read_whole-in-Err-Newer.field-0.0 kept (ap (λ (ws : List ℕ). Some ws) same) fails
    c.in_err-read_whole-in-Err-Newer.ensures.reads)

pub returns-in_err-read_whole-in-Err-Newer-clause-kept : goal.returns-in_err-read_whole-in-Err-Newer-clause-kept
returns-in_err-read_whole-in-Err-Newer-clause-kept c =
    kept_loaded c.read_again-again.new.pass c.read_whole-in-Err-Newer.new.pass c.read_again-again.new.told c.in_err-read_whole-in-Err-Newer.ensures.loads c.read_again-again.ensures.kept

pub returns-in_err-read_whole-in-Err-Newer-clause-loads : goal.returns-in_err-read_whole-in-Err-Newer-clause-loads
returns-in_err-read_whole-in-Err-Newer-clause-loads c =
    let again : c.read_again-again.result ≡ Err (Newer c.in-Err-Newer._found) = search rules in
    let fails : ValuesFail c.in-Some.told c.args.pass.now.view c.read_again-again.new.pass.view (Newer c.in-Err-Newer._found) =
    subst (λ (r : Result (Unit {0}) ValueFault). IfErr r (ValuesFail c.in-Some.told c.args.pass.now.view c.read_again-again.new.pass.view)) again c.read_again-again.ensures.fails in
    anew_loaded c.args.pass.now c.read_again-again.new.pass c.read_whole-in-Err-Newer.new.pass c.in-Some.told c.in-Err-Newer._found fails c.read_again-again.ensures.stays c.in_err-read_whole-in-Err-Newer.ensures.loads

pub returns-in-Err-Again-clause-loads : goal.returns-in-Err-Again-clause-loads
returns-in-Err-Again-clause-loads c =
    let again : c.read_again-again.result ≡ Err (Again c.in-Err-Again.first c.in-Err-Again.last) = search rules in
    let fails : ValuesFail c.in-Some.told c.args.pass.now.view c.read_again-again.new.pass.view (Again c.in-Err-Again.first c.in-Err-Again.last) =
    subst (λ (r : Result (Unit {0}) ValueFault). IfErr r (ValuesFail c.in-Some.told c.args.pass.now.view c.read_again-again.new.pass.view)) again c.read_again-again.ensures.fails in
    again_unloaded c.args.pass.now c.read_again-again.new.pass c.in-Some.told c.in-Err-Again.first c.in-Err-Again.last fails c.read_again-again.ensures.stays

pub returns-in_ok-read_whole-in-Err-Newer-clause-reads : goal.returns-in_ok-read_whole-in-Err-Newer-clause-reads
returns-in_ok-read_whole-in-Err-Newer-clause-reads c =
    let kept : c.args.kept.now ≡ Some c.in-Some.told = search rules in
    let again : c.read_again-again.result ≡ Err (Newer c.in-Err-Newer._found) = search rules in
    let fails : ValuesFail c.in-Some.told c.args.pass.now.view c.read_again-again.new.pass.view (Newer c.in-Err-Newer._found) =
    subst (λ (r : Result (Unit {0}) ValueFault). IfErr r (ValuesFail c.in-Some.told c.args.pass.now.view c.read_again-again.new.pass.view)) again c.read_again-again.ensures.fails in
    anew_shown c.args.kept.now c.in-Some.told c.in_ok-read_whole-in-Err-Newer.field-0 c.args.pass.now.view c.read_again-again.new.pass.view c.read_whole-in-Err-Newer.new.pass.view c.in-Err-Newer._found kept fails
    c.in_ok-read_whole-in-Err-Newer.ensures.reads

pub returns-in_ok-read_whole-in-Err-Newer-clause-loads : goal.returns-in_ok-read_whole-in-Err-Newer-clause-loads
returns-in_ok-read_whole-in-Err-Newer-clause-loads c =
    let again : c.read_again-again.result ≡ Err (Newer c.in-Err-Newer._found) = search rules in
    let fails : ValuesFail c.in-Some.told c.args.pass.now.view c.read_again-again.new.pass.view (Newer c.in-Err-Newer._found) =
    subst (λ (r : Result (Unit {0}) ValueFault). IfErr r (ValuesFail c.in-Some.told c.args.pass.now.view c.read_again-again.new.pass.view)) again c.read_again-again.ensures.fails in
    anew_loaded c.args.pass.now c.read_again-again.new.pass c.read_whole-in-Err-Newer.new.pass c.in-Some.told c.in-Err-Newer._found fails c.read_again-again.ensures.stays c.in_ok-read_whole-in-Err-Newer.ensures.loads
