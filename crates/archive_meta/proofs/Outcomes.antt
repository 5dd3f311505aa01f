-- What an outcome says, handed on.
use Rattle.std.proofs.Common.{Result, Ok, Err}
use Rattle.std.specs.Prelude.{OnOk}

pub on_ok : {E P Q : Type 0} (r : Result (Unit {0}) E) → OnOk r P → (P → Q) → OnOk r Q
on_ok (Ok done) p f = f p
on_ok (Err e) p f = tt

pub on_any : {E Q : Type 0} (r : Result (Unit {0}) E) → Q → OnOk r Q
on_any (Ok done) q = q
on_any (Err e) q = tt
