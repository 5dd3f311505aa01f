-- No fault of a payload is want of memory.
use Rattle.std.proofs.Common.{◌≡◌, ℕ, zero, suc, List, Result, Err, sym, subst, inl, inr}
use Rattle.std.specs.Prelude.{◌≢◌, IfErr}
use Rattle.std.specs.Result.{IsErrAnd}
use Rattle.std.proofs.lemmas.Result.{err_from_is_err_and}
use Rattle.pcp_base.proofs.Bytes.{IsBytes}
use Rattle.pcp_base.specs.declared.result.PmResult.{PmResult}
use Rattle.pcp_model.specs.Payload.{IsPayload}
use Rattle.result_form.specs.declared.fault.FormFault.{FormFault}
use Rattle.result_form.specs.declared.fault.FormFault.TheVariants.{NoMemory}
use Rattle.result_form.specs.Decoding.{payload_result}
use Rattle.result_form.specs.Faults.{IsSetsFault, IsPairsFault, IsBlocksFault, IsFault}
use Rattle.result_form.proofs.Again.{payload_again}
use Rattle.result_form.proofs.FaultsFound.{Says, decoded_says}
use Rattle.result_form.proofs.ShownPairs.{other_fault}

no_word : (bytes : List ℕ) (n at : ℕ) → IsSetsFault bytes n at NoMemory → ⊥
no_word bytes zero at h = h
no_word bytes (suc n) at (inl h) = h
no_word bytes (suc n) at (inr h) = no_word bytes n h.0 h.2

no_pair : (bytes : List ℕ) (end n at : ℕ) → IsPairsFault bytes end n at NoMemory → ⊥
no_pair bytes end zero at h = h
no_pair bytes end (suc n) at (inl h) = h
no_pair bytes end (suc n) at (inr h) = no_pair bytes end n _ h.2

no_block : (bytes : List ℕ) (end n at before : ℕ) → IsBlocksFault bytes end n at before NoMemory → ⊥
no_block bytes end zero at before h = h
no_block bytes end (suc n) at before (inl h) = no_pair bytes end _ _ h.1
no_block bytes end (suc n) at before (inr h) = no_block bytes end n h.0 h.1 h.4

no_fault : (bytes : List ℕ) → IsFault bytes NoMemory → ⊥
no_fault bytes (inl h) = h
no_fault bytes (inr (head, inl h)) = no_word bytes _ _ h
no_fault bytes (inr (head, inr (end, stand, inl h))) = no_block bytes end _ _ _ h
no_fault bytes (inr (head, inr (end, stand, inr h))) = h

pub never_memory : (bytes : List ℕ) (e : FormFault) → payload_result bytes ≡ Err e → e ≢ NoMemory
never_memory bytes e given none =
    let fault : IsFault bytes e = subst (Says bytes) given (decoded_says bytes) in
    no_fault bytes (subst (IsFault bytes) none fault)

-- a fault that is handed on
pub err_handed : {T : Type 0} (r : Result T FormFault) (e : FormFault) (P : FormFault → Type 0) → IsErrAnd r (λ y. y ≡ e) → P e → IfErr r P
err_handed r e P was h = let p = err_from_is_err_and r was in subst (λ x. IfErr x P) (sym p.1) (subst P (sym p.2) h)

-- what has a fault is no payload
pub not_read : (bytes : List ℕ) (e : FormFault) (r : PmResult) → IsBytes bytes → IsPayload bytes r → payload_result bytes ≡ Err e → ⊥
not_read bytes e r fits is given = other_fault (payload_result bytes) r e (payload_again bytes r fits is) given
