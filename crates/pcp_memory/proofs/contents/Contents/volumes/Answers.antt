use Rattle.std.proofs.Common.{◌≡◌, ◌<◌, ◌≤◌, max, [], length, Some, ⊎_elim, sym, ◌∙◌, ap, arith}
use Rattle.std.specs.BTreeMap.{get}
use Rattle.std.specs.Ordering.{nat_cmp}
use Rattle.std.specs.Map.Iter.{deref_pair}
use Rattle.std.proofs.lemmas.Bool.{cases_lt}
use Rattle.std.proofs.lemmas.Bool.Decides.{nat_tests}
use Rattle.std.proofs.lemmas.Map.Views.{All-turn}
use Rattle.pcp_memory.specs.Volumes.{bytes_found}
use Rattle.pcp_memory.proofs.VolumeCounts.{Entry, used, volumes_last, volumes_past}
use Rattle.pcp_memory.proofs.contents.Contents.volumes.Goals as goal

pub overflow_add-number : goal.overflow_add-number
overflow_add-number c =
    let volumes = c.args.self.now.volumes in
    let number = c.in-Some.number.now in
    let bytes = c.in-Some.bytes.now in
    let gives = c.into_iter-number-iterator.ensures.into_iter_gives in
    let found : get nat_cmp volumes number ≡ Some bytes = All-turn deref_pair (λ (e : Entry). get nat_cmp volumes e.0 ≡ Some e.1) _ _ _ _ _ _ _ gives.6 gives.0 c.loop-number.yielded_by c.in-Some.is c.next.ensures.steps in
    let small : number < 4294967295 = ⊎_elim (λ (lt : number < 4294967295). lt) (λ (le : 4294967295 ≤ number). absurd (
    let none : bytes.items ≡ [] = sym (ap bytes_found found) ∙ c.args.self.now.numbered number le in
    let empty : length bytes.items ≡ 0 = ap length none in
    grind (arith, nat_tests))) (cases_lt number 4294967295) in
    omega arith

pub returns-clause-last : goal.returns-clause-last
returns-clause-last c = λ k is none.
    let left = c.in-None.ensures.steps.0 in
    let most : max c.loop-number.most 0 ≡ used c.args.self.now.volumes.entries = ap (λ (es : _). max c.loop-number.most (used es)) (sym left) ∙ c.loop-number.invariant in
    volumes_last c.args.self.now.volumes c.into_iter-number-iterator.ensures.into_iter_gives.5 k (omega arith) none

pub returns-clause-past : goal.returns-clause-past
returns-clause-past c = λ k le.
    let left = c.in-None.ensures.steps.0 in
    let most : max c.loop-number.most 0 ≡ used c.args.self.now.volumes.entries = ap (λ (es : _). max c.loop-number.most (used es)) (sym left) ∙ c.loop-number.invariant in
    volumes_past c.args.self.now.volumes k (omega arith)
