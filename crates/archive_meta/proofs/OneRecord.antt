-- A payload is one record, and one record is framed at a byte.
use Rattle.std.proofs.Common.{◌≡◌, ℕ, ◌+◌, ◌-◌, ◌<◌, ◌≤◌, List, length, Option, Some, None, Result, Ok, Err, refl, sym, ap, ◌∙◌, subst, arith}
use Rattle.std.specs.List.{slice_range}
use Rattle.pcp_model.specs.declared.records.MetaRecord.{MetaRecord}
use Rattle.pcp_model.specs.Frame.{IsFrameable}
use Rattle.pcp_model.specs.Records.{IsRecord}
use Rattle.archive_frame.specs.declared.fault.FrameFault.{FrameFault}
use Rattle.archive_frame.specs.declared.steps.Step.{Step}
use Rattle.archive_frame.specs.declared.steps.Step.TheVariants.{End, Payload}
use Rattle.archive_frame.specs.Steps.{Stands}
use Rattle.archive_frame.proofs.Records.{Ends, stood}
use Rattle.archive_meta.specs.declared.fault.MetaFault.{MetaFault}
use Rattle.archive_meta.specs.Decoding.{record_in}
use Rattle.archive_meta.specs.Framed.{RecordStands, NoRecordStands}
use Rattle.archive_meta.proofs.RecordsRead.{all_only}

-- a payload is one record
pub one_record : (payload : List ℕ) (r s : MetaRecord) → IsFrameable payload → IsRecord payload r → IsRecord payload s → r ≡ s
one_record payload r s fits one two =
    let few : length payload < 4294967296 = (let h : length payload ≤ 16777208 = fits.most in omega arith) in
    let a : record_in payload ≡ Some r = all_only {E = MetaFault} payload (Ok (record_in payload)) r few one refl in
    let b : record_in payload ≡ Some s = all_only {E = MetaFault} payload (Ok (record_in payload)) s few two refl in
    let same : Some r ≡ Some s = sym a ∙ b in
    cc

-- what lies between a record's length words
pub record Between (bytes : List ℕ) (at next : ℕ) : Type 0 where
  pub later : at + 8 ≤ next
  pub within : next ≤ length bytes

pub between : (bytes : List ℕ) (at next : ℕ) (r : MetaRecord) → RecordStands bytes at next r → Between bytes at next
between bytes at next r s =
    let e : Ends bytes s.payload at next = stood bytes s.payload at next s.stands in
    record { later = omega (arith, e.size); within = e.within }

-- one record stands at a byte
pub one_stands : (bytes : List ℕ) (at n m : ℕ) (r s : MetaRecord) → RecordStands bytes at n r → RecordStands bytes at m s → r ≡ s
one_stands bytes at n m r s a b =
    let e : Ends bytes a.payload at n = stood bytes a.payload at n a.stands in
    let f : Ends bytes b.payload at m = stood bytes b.payload at m b.stands in
    let size : length a.payload + 8 ≡ length b.payload + 8 = sym e.head ∙ f.head in
    let there : n - 4 ≡ m - 4 = omega (arith, e.size, f.size) in
    let same : a.payload ≡ b.payload = sym e.payload_is ∙ ap (slice_range bytes (at + 4)) there ∙ f.payload_is in
    one_record b.payload r s b.stands.fits (subst (λ p. IsRecord p r) same a.reads) b.reads

-- ---- one record that was looked at

module _ (bytes : List ℕ) (at : ℕ) (result : Result Step FrameFault) (only : (payload : List ℕ) (next : ℕ) → Stands bytes payload at next → result ≡ Ok (Payload (at + 4) (at + 4 + length payload) next)) where
  pub no_step : ((from to next : ℕ) → result ≡ Ok (Payload from to next) → ⊥) → NoRecordStands bytes at
  no_step none next r s = none (at + 4) (at + 4 + length s.payload) next (only s.payload next s.stands)

  pub not_read : (from to next : ℕ) → result ≡ Ok (Payload from to next) → ((r : MetaRecord) → IsRecord (slice_range bytes from to) r → ⊥) → NoRecordStands bytes at
  not_read from to next is none other r s =
      let e : Ends bytes s.payload at other = stood bytes s.payload at other s.stands in
      let same : Ok (Payload from to next) ≡ Ok (Payload (at + 4) (at + 4 + length s.payload) other) = sym is ∙ only s.payload other s.stands in
      let first : from ≡ at + 4 = cc in
      let last : to ≡ at + 4 + length s.payload = cc in
      let behind : at + 4 + length s.payload ≡ other - 4 = omega (arith, e.size) in
      none r (subst (λ p. IsRecord p r) (sym (ap (λ n. slice_range bytes n to) first ∙ ap (slice_range bytes (at + 4)) (last ∙ behind) ∙ e.payload_is)) s.reads)

  pub no_end : (s : Step) → result ≡ Ok s → s ≡ End → NoRecordStands bytes at
  no_end s is end = no_step (λ from to next h. let both : Ok End ≡ Ok (Payload from to next) = sym (is ∙ ap Ok end) ∙ h in cc)

  pub no_answer : (e : FrameFault) → result ≡ Err e → NoRecordStands bytes at
  no_answer e is = no_step (λ from to next h. let both : Err e ≡ Ok (Payload from to next) = sym is ∙ h in cc)

-- where no record was read, none is one
pub none_read : (found : Option MetaRecord) (r : MetaRecord) → found ≡ None → found ≡ Some r → ⊥
none_read found r none some = let both : None ≡ Some r = sym none ∙ some in cc
