-- The first pair that doesn't fit is told, and the others before it go again.
use Rattle.std.proofs.Common.{◌≡◌, ℕ, ◌+◌, ◌<◌, suc, length, take, drop, List, [], ◌∷◌, ◌++◌, arith, sym, ap, ◌∙◌, drop-cons, take-append-drop, add-one, fold}
use Rattle.std.proofs.lemmas.List.Sums.{fold-append}
use Rattle.std.proofs.Math.Seq.{take-suc}
use Rattle.pmns_core.specs.Pairs.{Pair, least_name, least_with}
use Rattle.pmns_core.specs.Tables.{pairs_of}
use Rattle.pmns_core.proofs.Tables.{refused, one_more}
use Rattle.pmns_core.proofs.table.add_all.Goals as goal

pub returns-in-Err-clause-adds : goal.returns-in-Err-clause-adds
returns-in-Err-clause-adds c =
    let pairs = c.args.pairs.now in
    let at : ℕ = c.loop-done.done in
    let p : Pair = c.index-pairs-done.result in
    let within : at < length pairs = omega arith in
    let split : pairs ≡ take at pairs ++ p ∷ drop (suc at) pairs =
    sym (take-append-drop at pairs) ∙ ap (λ (ps : List Pair). take at pairs ++ ps) (drop-cons pairs at p within) ∙ ap (λ (q : Pair). take at pairs ++ q ∷ drop (suc at) pairs) (sym c.index-pairs-done.is) in
    refused c.in-Err.fault (take at pairs) (drop (suc at) pairs) pairs p (pairs_of c.args.table.now) (pairs_of c.loop-done.table) (pairs_of c.add_one.new.table) (pairs_of c.take_back.new.table)
    split c.loop-done.invariant.so_far c.in-Err.ensures.adds c.take_back.ensures

pub loop-done-preserved : goal.loop-done-preserved
loop-done-preserved c =
    let pairs = c.args.pairs.now in
    let at : ℕ = c.loop-done.done in
    let p : Pair = c.index-pairs-done.result in
    let within : at < length pairs = omega arith in
    let split : take (at + 1) pairs ≡ take at pairs ++ p ∷ [] = rw add-one (take-suc pairs at p within) ∙ ap (λ (q : Pair). take at pairs ++ q ∷ []) (sym c.index-pairs-done.is) in
    record {
      order = c.add_one.ensures.order;
      so_far = one_more (take at pairs) (take (at + 1) pairs) p (pairs_of c.args.table.now) (pairs_of c.loop-done.table) (pairs_of c.add_one.new.table) split c.loop-done.invariant.so_far c.in_default.ensures.adds;
      least = λ q. c.in_default.ensures.least q ∙ ap (λ o. least_with q o p) (c.loop-done.invariant.least q)
          ∙ sym (ap (fold (least_with q) (least_name (pairs_of c.args.table.now) q)) split ∙ fold-append (least_with q) (least_name (pairs_of c.args.table.now) q) (take at pairs) (p ∷ []));
    }
