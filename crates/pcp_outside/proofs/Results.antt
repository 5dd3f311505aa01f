-- What holds of a result.
use Rattle.std.specs.Prelude.{Result, Ok, Err, OnOk}

pub on_ok : {T E : Type 0} (r : Result T E) (A B : Type 0) → (A → B) → OnOk r A → OnOk r B
on_ok (Ok v) A B f a = f a
on_ok (Err e) A B f a = a
