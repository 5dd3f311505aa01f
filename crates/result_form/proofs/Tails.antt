-- A place behind the sets, counted from their end.
use Rattle.std.proofs.Common.{◌≡◌, ℕ, ◌+◌, ◌-◌, ◌≤◌, List, length, drop, ap, ◌∙◌, arith}
use Rattle.std.proofs.lemmas.List.{drop-drop, length-drop}

pub drop_behind : (tail bytes : List ℕ) (end at : ℕ) → tail ≡ drop end bytes → end ≤ at → drop (at + 4 - end) tail ≡ drop (at + 4) bytes
drop_behind tail bytes end at is behind = ap (drop (at + 4 - end)) is ∙ drop-drop (at + 4 - end) end bytes ∙ ap (λ n. drop n bytes) (omega arith)

pub length_behind : (tail bytes : List ℕ) (end : ℕ) → tail ≡ drop end bytes → length tail ≡ length bytes - end
length_behind tail bytes end is = ap length is ∙ length-drop end bytes
