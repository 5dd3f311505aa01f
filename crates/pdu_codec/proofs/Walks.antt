-- Walking one step further, as a loop does.
use Rattle.std.proofs.Common.{◌≡◌, ℕ, suc, ◌+◌, ◌-◌, ◌<◌, List, Result, Ok, refl, sym, ap, ◌∙◌, arith}
use Rattle.pdu_codec.specs.declared.misfit.Blocks.{Blocks}
use Rattle.pdu_codec.specs.declared.misfit.Sets.{Sets}
use Rattle.pdu_codec.specs.ResultMisfit.{led_by, offset_at, offsets_from, set_at, sets_at}

pub offsets_on : (bytes : List ℕ) (end count i at offset : ℕ) (b : Blocks) (total : Result Blocks ℕ) → i < count → offset_at bytes end at ≡ Ok offset
    → offsets_from bytes end b (count - i) at ≡ total → offsets_from bytes end (led_by bytes b offset) (count - (i + 1)) (at + 8) ≡ total
unfolding offsets_from
offsets_on bytes end count i at offset b total lt h so_far =
    let k : count - i ≡ suc (count - (i + 1)) = omega arith in
    let one : offsets_from bytes end b (count - i) at ≡ offsets_from bytes end (led_by bytes b offset) (count - (i + 1)) (at + 8) = rw (k, h) refl in
    sym one ∙ so_far

pub sets_on : (bytes : List ℕ) (count i : ℕ) (s next : Sets) (total : Result Sets ℕ) → i < count → set_at bytes (count - 1 - i) s ≡ Ok next → sets_at bytes (count - i) s ≡ total → sets_at bytes (count - (i + 1)) next ≡ total
unfolding sets_at
sets_on bytes count i s next total lt h so_far =
    let k : count - i ≡ suc (count - 1 - i) = omega arith in
    let same : count - 1 - i ≡ count - (i + 1) = omega arith in
    let one : sets_at bytes (count - i) s ≡ sets_at bytes (count - 1 - i) next = rw (k, h) refl in
    ap (λ n. sets_at bytes n next) (sym same) ∙ sym one ∙ so_far
