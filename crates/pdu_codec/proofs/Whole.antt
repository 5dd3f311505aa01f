-- A whole body: read to its end, or where it stops.
use Rattle.std.proofs.Common.{◌≡◌, ℕ, ◌+◌, ◌-◌, ◌<◌, ◌≤◌, Bool, true, false, cond, ltb, List, [], ◌++◌, length, drop, Result, Ok, Err, refl, sym, ap, ◌∙◌, subst, arith, inl, inr}
use Rattle.std.specs.Prelude.{◌⊎◌}
use Rattle.std.proofs.lemmas.Bool.{ltb-true, ltb-false, le-ltb}
use Rattle.std.proofs.lemmas.List.{append-nil, drop_all, length-drop}
use Rattle.pcp_base.proofs.Bytes.{IsBytes, IsBytes-drop}
use Rattle.archive_frame.specs.Misfits.{IsFirstMisfit}
use Rattle.pcp_base.specs.declared.result.PmResult.{PmResult}
use Rattle.pcp_model.specs.Payload.{IsPayload}
use Rattle.result_form.specs.declared.fault.FormFault.{FormFault}
use Rattle.result_form.specs.declared.fault.FormFault.TheVariants as forms
use Rattle.result_form.specs.Decoding.{payload_result as payload_read, Gives as FormGives}
use Rattle.result_form.proofs.Again.{payload_again}
use Rattle.result_form.proofs.Whole.{payload_takes}
use Rattle.pdu_codec.specs.declared.fault.PduFault.{PduFault}
use Rattle.pdu_codec.specs.declared.fault.PduFault.TheVariants.{Body, NoMemory}
use Rattle.pdu_codec.specs.declared.pdu.Pdu.{Pdu}
use Rattle.pdu_codec.specs.declared.pdu.Pdu.TheVariants as pdus
use Rattle.pdu_codec.specs.declared.types.PduType.{PduType}
use Rattle.pdu_codec.specs.declared.types.PduType.TheVariants as types
use Rattle.pdu_codec.specs.Bodies.{body_of}
use Rattle.pdu_codec.specs.Decoding.{fault_of, result_read, result_at, body_at, whole_body}
use Rattle.pdu_codec.specs.Faults.{SomeBody}
use Rattle.pdu_codec.specs.Reading.{◌>>=◌}
use Rattle.pdu_codec.specs.ResultMisfit.{result_misfit}
use Rattle.pdu_codec.proofs.Misfits.{Some, stopped, exceeded}
use Rattle.pdu_codec.proofs.ResultEnds.{results_begin}
use Rattle.pdu_codec.proofs.ResultStops.{results_stop}
use Rattle.pdu_codec.proofs.Readers.{Reads, free_of, bind_ok, bind_err, at_once, later, done, failed, ok_is, err_is, not_both}
use Rattle.pdu_codec.proofs.BodyReaders.{error_reads, profile_reads, fetch_reads, desc_req_reads, desc_reads, instance_req_reads, instance_reads, creds_reads, ids_reads, names_reads, child_reads, traverse_reads}

-- a body is read whole exactly where it stands
pub record Answers (G : List ℕ → Pdu → Type 0) (Stop : List ℕ → ℕ → Type 0) (read : List ℕ → ℕ → Result (Pdu × ℕ) PduFault) (bytes : List ℕ) (at : ℕ) : Type 0 where
  pub ok : (p : Pdu) → (read bytes at >>= whole_body bytes) ≡ Ok p → G (drop at bytes) p
  pub again : (p : Pdu) → G (drop at bytes) p → (read bytes at >>= whole_body bytes) ≡ Ok p
  pub err : (e : PduFault) → (read bytes at >>= whole_body bytes) ≡ Err e → (k : ℕ) × (e ≡ Body (at + k)) × Stop (drop at bytes) k

end_ok : (b : Bool) (next : ℕ) (p q : Pdu) → cond b (failed Pdu (Body next)) (Ok p) ≡ Ok q → (b ≡ false) × (p ≡ q)
end_ok true next p q e = absurd (not_both q (Body next) (sym e))
end_ok false next p q e = (refl, ok_is p q e)

end_err : (b : Bool) (next : ℕ) (p : Pdu) (f : PduFault) → cond b (failed Pdu (Body next)) (Ok p) ≡ Err f → (b ≡ true) × (f ≡ Body next)
end_err true next p f e = (refl, sym (err_is Pdu (Body next) f e))
end_err false next p f e = absurd (not_both p f e)

ends_here : (bytes : List ℕ) (next : ℕ) (p : Pdu) → length bytes ≤ next → whole_body bytes (p, next) ≡ Ok p
ends_here bytes next p h = ap (λ b. cond b (failed Pdu (Body next)) (Ok p)) (le-ltb next (length bytes) h)

pub whole : (G : List ℕ → Pdu → Type 0) (read : List ℕ → ℕ → Result (Pdu × ℕ) PduFault) → Reads G read → (bytes : List ℕ) (at : ℕ) → IsBytes bytes → at ≤ length bytes → Answers G (IsFirstMisfit (Some G)) read bytes at
whole G read is bytes at fits h = record {
  ok = λ p e.
      let a = bind_ok (read bytes at) (whole_body bytes) p e in
      let t = is.takes bytes at a.0.1 a.0.0 fits h a.1 in
      let g = end_ok (ltb a.0.1 (length bytes)) a.0.1 a.0.0 p a.2 in
      let none : drop a.0.1 bytes ≡ [] = drop_all a.0.1 bytes (ltb-false a.0.1 (length bytes) g.0) in
      let all : t.text ≡ drop at bytes = sym (t.spans.cut ∙ ap (λ x. t.text ++ x) none ∙ append-nil t.text) in
      subst (G (drop at bytes)) g.1 (subst (λ x. G x a.0.0) all t.fits);
  again = λ p g.
      let room : length (drop at bytes) ≡ length bytes - at = length-drop at bytes in
      let read_all = is.again bytes at (drop at bytes) [] p h (sym (append-nil (drop at bytes))) g in
      ap (λ r. r >>= whole_body bytes) read_all ∙ ends_here bytes (at + length (drop at bytes)) p (omega arith);
  err = λ e f.
      elim (bind_err (read bytes at) (whole_body bytes) e f) [
        | at_once a ↦ let s = is.stops bytes at e fits h a in (s.k, s.is, stopped G (drop at bytes) s.k s.stops)
        | later p a b ↦ let t = is.takes bytes at p.1 p.0 fits h a in
            let g = end_err (ltb p.1 (length bytes)) p.1 p.0 e b in
            let more : p.1 < length bytes = ltb-true p.1 (length bytes) g.0 in
            let room : length (drop at bytes) ≡ length bytes - at = length-drop at bytes in (
              length t.text,
              g.1 ∙ ap Body t.spans.size,
              exceeded G (drop at bytes) t.text (drop p.1 bytes) p.0 (free_of G read is) t.spans.cut t.fits (omega (arith, t.spans.size)),
            )
      ];
}

-- ---- the payload of a result

data PayloadRead (t : List ℕ) : Type 0 where
  is_payload : (r : PmResult) → payload_read t ≡ Ok r → PayloadRead t
  is_none : (e : FormFault) → payload_read t ≡ Err e → PayloadRead t

by_result : (t : List ℕ) (x : Result PmResult FormFault) → payload_read t ≡ x → PayloadRead t
by_result t (Ok r) e = is_payload r e
by_result t (Err f) e = is_none f e

payload_cases : (t : List ℕ) → PayloadRead t
payload_cases t = by_result t (payload_read t) refl

abbrev pub payload_is : PmResult → Result PmResult FormFault
payload_is r = Ok r

abbrev pub payload_failed : FormFault → Result PmResult FormFault
payload_failed e = Err e

no_result : (r : PmResult) (f : FormFault) → payload_is r ≡ Err f → ⊥
no_result r f e = absurd cc

pub result_ok : (bytes : List ℕ) (at : ℕ) (r : PmResult) → IsBytes bytes → IsPayload (drop at bytes) r → result_at bytes at ≡ Ok (pdus.Result r, length bytes)
unfolding result_at
result_ok bytes at r fits is = ap (result_read bytes at) (payload_again (drop at bytes) r (IsBytes-drop at bytes fits) is)

pub result_err : (bytes : List ℕ) (at : ℕ) → IsBytes bytes → ((r : PmResult) → IsPayload (drop at bytes) r → ⊥) → result_at bytes at ≡ Err (Body (at + result_misfit (drop at bytes)))
unfolding result_at
result_err bytes at fits none =
    elim (payload_cases (drop at bytes)) [
      | is_payload r e ↦ absurd (none r (payload_takes (drop at bytes) r (IsBytes-drop at bytes fits) e))
      | is_none f e ↦ ap (result_read bytes at) e
    ]

-- what the reader of payloads refuses, as a fault of the PDU
pub result_stops : (bytes : List ℕ) (at : ℕ) (e : FormFault) → IsBytes bytes → ((r : PmResult) → IsPayload (drop at bytes) r → FormGives (payload_failed e) (payload_is r))
    → (fault_of (drop at bytes) at e ≡ NoMemory) ⊎ (result_at bytes at ≡ Err (fault_of (drop at bytes) at e))
result_stops bytes at forms.NoMemory fits only = inl refl
result_stops bytes at e fits only = inr
    (result_err bytes at fits (λ r is. elim (only r is) [
      | inl h ↦ absurd cc
      | inr h ↦ no_result r e h
    ]))

-- the same of bytes that are those from an offset on
pub answer_stands : (bytes payload : List ℕ) (at : ℕ) (r : PmResult) → payload ≡ drop at bytes → IsBytes bytes → IsPayload payload r → result_at bytes at ≡ Ok (pdus.Result r, length bytes)
answer_stands bytes payload at r same fits is = result_ok bytes at r fits (subst (λ t. IsPayload t r) same is)

pub answer_stops : (bytes payload : List ℕ) (at : ℕ) (e : FormFault) → payload ≡ drop at bytes → IsBytes bytes → ((r : PmResult) → IsPayload payload r → FormGives (payload_failed e) (payload_is r))
    → (fault_of payload at e ≡ NoMemory) ⊎ (result_at bytes at ≡ Err (fault_of payload at e))
answer_stops bytes payload at e same fits only =
    subst (λ t. ((r : PmResult) → IsPayload t r → FormGives (payload_failed e) (payload_is r)) → (fault_of t at e ≡ NoMemory) ⊎ (result_at bytes at ≡ Err (fault_of t at e))) (sym same) (result_stops bytes at e fits) only

data ResultRead (bytes : List ℕ) (at : ℕ) : Type 0 where
  stands : (r : PmResult) → IsPayload (drop at bytes) r → result_at bytes at ≡ Ok (pdus.Result r, length bytes) → ResultRead bytes at
  fails : ((r : PmResult) → IsPayload (drop at bytes) r → ⊥) → result_at bytes at ≡ Err (Body (at + result_misfit (drop at bytes))) → ResultRead bytes at

result_cases : (bytes : List ℕ) (at : ℕ) → IsBytes bytes → ResultRead bytes at
result_cases bytes at fits =
    elim (payload_cases (drop at bytes)) [
      | is_payload r e ↦ let is = payload_takes (drop at bytes) r (IsBytes-drop at bytes fits) e in stands r is (result_ok bytes at r fits is)
      | is_none f e ↦ let none = λ (r : PmResult) (is : IsPayload (drop at bytes) r). no_result r f (sym (payload_again (drop at bytes) r (IsBytes-drop at bytes fits) is) ∙ e) in
          fails none (result_err bytes at fits none)
    ]

pub result_answers : (bytes : List ℕ) (at : ℕ) → IsBytes bytes → length bytes < 4294967296 → Answers (body_of types.Result) (IsFirstMisfit (SomeBody types.Result)) result_at bytes at
result_answers bytes at fits few = record {
  ok = λ p e.
      elim (result_cases bytes at fits) [
        | stands r is f ↦ let same : pdus.Result r ≡ p = ok_is (pdus.Result r) p (sym (ap (λ x. x >>= whole_body bytes) f ∙ ends_here bytes (length bytes) (pdus.Result r) (omega arith)) ∙ e) in
            record { answer = r; is = sym same; payload = is }
        | fails none f ↦ absurd (not_both p (Body (at + result_misfit (drop at bytes))) (sym e ∙ ap (λ x. x >>= whole_body bytes) f))
      ];
  again = λ p b. ap (λ x. x >>= whole_body bytes) (result_ok bytes at b.answer fits b.payload) ∙ ends_here bytes (length bytes) (pdus.Result b.answer) (omega arith) ∙ ap done (sym b.is);
  err = λ e h.
      elim (result_cases bytes at fits) [
        | stands r is f ↦ absurd (not_both (pdus.Result r) e (sym (ap (λ x. x >>= whole_body bytes) f ∙ ends_here bytes (length bytes) (pdus.Result r) (omega arith)) ∙ h))
        | fails none f ↦ (
          result_misfit (drop at bytes),
          err_is Pdu e (Body (at + result_misfit (drop at bytes))) (sym h ∙ ap (λ x. x >>= whole_body bytes) f),
          record {
            none = λ b. none b.1.answer b.1.payload;
            within = omega arith;
            begins = results_begin (drop at bytes) (IsBytes-drop at bytes fits);
            longest = λ n h b. results_stop (drop at bytes) n (omega (arith, length-drop at bytes)) h b;
          },
        )
      ];
}

-- ---- all types

pub answers : (kind : PduType) (bytes : List ℕ) (at : ℕ) → IsBytes bytes → at ≤ length bytes → length bytes < 4294967296 → Answers (body_of kind) (IsFirstMisfit (SomeBody kind)) (body_at kind) bytes at
answers types.Error bytes at fits h few = whole (body_of types.Error) (body_at types.Error) error_reads bytes at fits h
answers types.Result bytes at fits h few = result_answers bytes at fits few
answers types.Profile bytes at fits h few = whole (body_of types.Profile) (body_at types.Profile) profile_reads bytes at fits h
answers types.Fetch bytes at fits h few = whole (body_of types.Fetch) (body_at types.Fetch) fetch_reads bytes at fits h
answers types.DescReq bytes at fits h few = whole (body_of types.DescReq) (body_at types.DescReq) desc_req_reads bytes at fits h
answers types.Desc bytes at fits h few = whole (body_of types.Desc) (body_at types.Desc) desc_reads bytes at fits h
answers types.InstanceReq bytes at fits h few = whole (body_of types.InstanceReq) (body_at types.InstanceReq) instance_req_reads bytes at fits h
answers types.Instance bytes at fits h few = whole (body_of types.Instance) (body_at types.Instance) instance_reads bytes at fits h
answers types.Creds bytes at fits h few = whole (body_of types.Creds) (body_at types.Creds) creds_reads bytes at fits h
answers types.PmnsIds bytes at fits h few = whole (body_of types.PmnsIds) (body_at types.PmnsIds) ids_reads bytes at fits h
answers types.PmnsNames bytes at fits h few = whole (body_of types.PmnsNames) (body_at types.PmnsNames) names_reads bytes at fits h
answers types.PmnsChild bytes at fits h few = whole (body_of types.PmnsChild) (body_at types.PmnsChild) child_reads bytes at fits h
answers types.PmnsTraverse bytes at fits h few = whole (body_of types.PmnsTraverse) (body_at types.PmnsTraverse) traverse_reads bytes at fits h
