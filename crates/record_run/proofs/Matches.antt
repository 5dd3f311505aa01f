-- What holds of an answer.
use Rattle.std.proofs.Common.{◌≡◌, Result, Ok, Err, sym, subst}
use Rattle.std.specs.Result.{IfErr, IsErrAnd, MatchResult, OnErr, OnOk}
use Rattle.std.proofs.lemmas.Result.{err_from_is_err_and}

pub every_ok : {T E : Type 0} (r : Result T E) (P : Type 0) → P → OnOk r P
every_ok (Ok x) P p = p
every_ok (Err e) P p = tt

pub every_err : {T E : Type 0} (r : Result T E) (Q : E → Type 0) → ((e : E) → Q e) → IfErr r Q
every_err (Ok x) Q q = tt
every_err (Err e) Q q = q e

pub on_err : {T E : Type 0} (r : Result T E) (P : Type 0) → P → OnErr r P
on_err (Ok x) P p = tt
on_err (Err e) P p = p

pub both_ok : {T E : Type 0} (r : Result T E) {P Q R : Type 0} → OnOk r P → OnOk r Q → (P → Q → R) → OnOk r R
both_ok (Ok x) p q both = both p q
both_ok (Err e) p q both = tt

pub all_err : {T E : Type 0} (r : Result T E) (P : Type 0) (Q R S : E → Type 0) → OnErr r P → IfErr r Q → IfErr r R → ((e : E) → P → Q e → R e → S e) → IfErr r S
all_err (Ok x) P Q R S p q s all = tt
all_err (Err e) P Q R S p q s all = all e p q s

pub ok_of : {T E : Type 0} (r : Result T E) (P : T → Type 0) (Q : E → Type 0) (R : Type 0) → MatchResult r P Q → ((x : T) → P x → R) → OnOk r R
ok_of (Ok x) P Q R m p = p x m
ok_of (Err e) P Q R m p = tt

pub err_of : {T E : Type 0} (r : Result T E) (P : T → Type 0) (Q S : E → Type 0) → MatchResult r P Q → ((e : E) → Q e → S e) → IfErr r S
err_of (Ok x) P Q S m q = tt
err_of (Err e) P Q S m q = q e m

-- an error that is handed on
pub err_handed : {T E : Type 0} (r : Result T E) (e : E) (P : E → Type 0) → IsErrAnd r (λ y. y ≡ e) → P e → IfErr r P
err_handed r e P was h = let p = err_from_is_err_and r was in subst (λ x. IfErr x P) (sym p.1) (subst P (sym p.2) h)
