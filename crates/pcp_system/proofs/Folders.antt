-- What reading a folder to its end gives.
use Rattle.std.proofs.Common.{◌≡◌, ℕ, ◌<◌, List, [], ◌++◌, take, length, Result, Ok, IfSome, sym, ap, ◌∙◌, subst, append-nil}
use Rattle.std.specs.declared.option.Option.{Option}
use Rattle.std.specs.Io.KnownBytes.{Consumes, ReadConsumes}
use Rattle.std.proofs.KnownBytes.{Consumes-trans, Consumes-all}

-- after a read that gives nothing, what was gathered is all that the folder told
pub all_told : {E : Type 0} (first before after : Option (List ℕ)) (names piece : List ℕ) (answer : Result ℕ E) (count : ℕ)
    → Consumes first before names → ReadConsumes before after answer piece → answer ≡ Ok count → count ≡ 0 → 0 < length piece
    → IfSome first (λ told. names ≡ told)
all_told {E = E} first before after names piece answer count gathered read is none room =
    let last : ReadConsumes {E = E} before after (Ok count) piece = subst (λ r. ReadConsumes {E = E} before after r piece) is read in
    let same : names ++ take count piece ≡ names = ap (λ n. names ++ take n piece) none ∙ append-nil names in
    Consumes-all first after (names ++ take count piece) [] names
    (Consumes-trans first before after names (take count piece) gathered last.0)
    (last.1 none room)
    (sym same)
