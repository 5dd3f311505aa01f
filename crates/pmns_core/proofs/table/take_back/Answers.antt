-- What was added last is taken out.
use Rattle.std.proofs.Common.{◌≡◌, ℕ, ◌-◌, ◌<◌, suc, length, take, get_or, List, [], ◌∷◌, ◌++◌, map, Ok, arith, sym, ap, ◌∙◌}
use Rattle.std.proofs.Math.Seq.{take-suc}
use Rattle.pmns_core.specs.Pairs.{Pair, pairs_without}
use Rattle.pmns_core.specs.Adding.{after_adding}
use Rattle.pmns_core.specs.Tables.{pairs_of}
use Rattle.pmns_core.proofs.Tables.{pair, remove_shown, without_placed, added_last, fitted_absent}
use Rattle.pmns_core.proofs.table.take_back.Goals as goal

pub loop-left-preserved : goal.loop-left-preserved
loop-left-preserved c =
    let pairs = c.args.pairs.now in
    let at : ℕ = c.loop-left.left - 1 in
    let within : at < length pairs = omega (arith, c.loop-left.invariant.within) in
    let next : suc at ≡ c.loop-left.left = omega arith in
    let p : Pair = get_or pairs at c.index-pairs-left.result in
    record {
      within = omega (arith, c.loop-left.invariant.within);
      left = λ (before : List Pair) (e : after_adding pairs before ≡ Ok (pairs_of c.args.table.now)).
          let front : take c.loop-left.left pairs ≡ take at pairs ++ p ∷ [] = ap (λ n. take n pairs) (sym next) ∙ take-suc pairs at c.index-pairs-left.result within in
          let r = added_last (take at pairs) p before (pairs_of c.loop-left.table) (ap (λ (ps : List Pair). after_adding ps before) (sym front) ∙ c.loop-left.invariant.left before e) in
          let gone : pairs_of c.remove.new.self ≡ pairs_without (pairs_of c.loop-left.table) p.0 =
          ap (map pair) c.remove.ensures.entries ∙ remove_shown c.loop-left.table.entries c.as_slice.result.now ∙ ap (pairs_without (pairs_of c.loop-left.table)) c.as_slice.ensures.value in
          let back : pairs_without (pairs_of c.loop-left.table) p.0 ≡ r.middle = ap (λ (ps : List Pair). pairs_without ps p.0) r.last ∙ without_placed r.middle p.0 p.1 (fitted_absent r.middle p.0 r.fitted) in
          r.first ∙ ap (λ (ps : List Pair). Ok ps) (sym (gone ∙ back));
    }
