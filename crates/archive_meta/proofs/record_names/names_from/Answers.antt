use Rattle.std.proofs.Common.{◌≡◌, length, sym, ◌∙◌, ap, arith}
use Rattle.std.proofs.lemmas.List.{length-drop, take_rest}
use Rattle.archive_meta.proofs.Loops.{names_on, no_name, names_end, names_go_on}
use Rattle.archive_meta.proofs.record_names.names_from.Goals as goal

pub loop-preserved : goal.loop-preserved
loop-preserved c = record {
  all = rw (c.in_ok-push-in-Some.ensures.ok, c.as_slice.ensures.value)
      (names_on c.loop.names c.args.bytes.now c.args.count c.loop.counter c.loop.at c.in-Some.name _ c.loop-test.true (simp take_rest at (sym c.in_ok-name.ensures.name ∙ c.in-Some.is)) c.loop.invariant.all);
  within = let size : length c.as_slice.result.now ≡ length c.in-Some.name = ap length c.as_slice.ensures.value in
      omega (arith, simp take_rest at (rw c.in-Some.is at c.in_ok-name.ensures.within), length-drop c.loop.at c.args.bytes.now);
}

pub returns-in-None : goal.returns-in-None
returns-in-None c = sym (no_name c.loop.names _ c.args.count c.loop.counter _ c.loop-test.true (simp take_rest at (sym c.in_ok-name.ensures.name ∙ c.in-None.is)) c.loop.invariant.all)

pub returns-then-at-bytes : goal.returns-then-at-bytes
returns-then-at-bytes c = sym (names_go_on c.loop.names c.args.bytes.now _ c.loop.at _ (omega arith) c.if-at-bytes.true c.loop.invariant.all)

pub returns : goal.returns
returns c = sym (names_end c.loop.names c.args.bytes.now _ c.loop.at _ (omega arith) c.if-at-bytes.false c.loop.invariant.all)
