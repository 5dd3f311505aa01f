-- One more value has its window.
use Rattle.std.proofs.Common.{ℕ, ℤ, pos, ◌<◌, take, length, get_or, FitsSigned, ◌∙◌, subst, arith, rules}
use Rattle.std.specs.Prelude.{IsSome}
use Rattle.std.specs.Int.{w32}
use Rattle.std.specs.Ordering.{int_cmp}
use Rattle.std.specs.BTreeMap.{get}
use Rattle.std.proofs.lemmas.Int.{to_z-of_z}
use Rattle.std.proofs.lemmas.List.{take_all}
use Rattle.std.proofs.lemmas.List.Elements.{All-more}
use Rattle.rule_watch.specs.Groups.{Group}
use Rattle.rule_watch.specs.Watched.{HasWindows, Windows}
use Rattle.rule_watch.proofs.InstanceWindows.{still_has}
use Rattle.rule_watch.proofs.streams.make_windows.Goals as goal

pub loop-value-preserved : goal.loop-value-preserved
loop-value-preserved c =
    let values : Group = c.args.values.now in
    let i : ℕ = c.loop-value.value-index in
    let v : ℤ × ℤ = get_or values i (pos 0, pos 0) in
    let below : i < length values = omega arith in
    let fits : FitsSigned w32 v.0 = search rules in
    let made : Windows = c.make_window.new.windows in
    let there : IsSome (get int_cmp made v.0) = subst (λ n. IsSome (get int_cmp made n)) (to_z-of_z w32 v.0 fits) c.in_ok-make_window.ensures.window in
    record {
      serve = c.in_ok-make_window.ensures.serve;
      same = λ q. c.in_ok-make_window.ensures.same q ∙ c.loop-value.invariant.same q;
      windows = All-more (λ (x : ℤ × ℤ). IsSome (get int_cmp made x.0)) values i (pos 0, pos 0) below
          (still_has c.loop-value.windows made c.in_ok-make_window.ensures.keeps (take i values) c.loop-value.invariant.windows) there;
    }

pub returns-clause-windows : goal.returns-clause-windows
returns-clause-windows c = subst (HasWindows c.loop-value.windows) (take_all c.loop-value.value-index c.args.values.now (omega arith)) c.loop-value.invariant.windows
