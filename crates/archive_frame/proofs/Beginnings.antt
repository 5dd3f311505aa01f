-- A label that has to stand first, and its beginning.
use Rattle.std.proofs.Common.{◌≡◌, ◌≢◌, false, true, inl, inr, ◌⊎◌, ℕ, ℤ, ◌<◌, ◌≤◌, List, [], ◌∷◌, ◌++◌, length, take, Result, Ok, Err, refl, sym, ap, ◌∙◌, subst, arith, length-append}
use Rattle.std.specs.Prelude.{negsuc, Option, Some, None, IfOk, IfErr}
use Rattle.std.proofs.lemmas.Bool.{cases_lt, eqb-true, eq-eqb}
use Rattle.std.proofs.lemmas.List.{take_all, append-nil}
use Rattle.pcp_model.specs.LabelFields.{LabelFields}
use Rattle.pcp_model.specs.Labels.{IsLabel, BeginsLabel}
use Rattle.pcp_model.proofs.Cuts.{length_of_label}
use Rattle.pcp_model.proofs.Unique.{one_label}
use Rattle.archive_frame.specs.declared.fault.FrameFault.{FrameFault}
use Rattle.archive_frame.specs.declared.fault.FrameFault.TheVariants.{Torn, Size, Lengths, Label, NoMemory}
use Rattle.archive_frame.specs.declared.heads.Head.{Head}
use Rattle.archive_frame.specs.declared.heads.Head.TheVariants.{Whole, Part}
use Rattle.archive_frame.specs.Heads.{IsHead, IsHeadFault, IsMetaLabel, IsMetaHead, IsMetaHeadFault, ends_early}
use Rattle.archive_frame.specs.Labels.{IsLabelOf, IsMetaNumber, IsLabelFault}
use Rattle.archive_frame.specs.Misfits.{IsFirstMisfit}
use Rattle.archive_frame.proofs.Misfits.{same_misfit}

false_is_not_true : false ≡ true → ⊥
false_is_not_true e = cc e

-- ---- one label

module _ (l : LabelFields) (number : ℤ) (bytes : List ℕ) where
  abbrev This : List ℕ → Type 0
  This t = IsLabel t l number

  -- bytes that end too early
  pub begins : IsFirstMisfit This bytes (length bytes) → BeginsLabel bytes l number
  begins m =
      let more : List ℕ = m.begins.0 in
      let all : take (length bytes) bytes ≡ bytes = take_all (length bytes) bytes (omega arith) in
      let whole : IsLabel (bytes ++ more) l number = subst (λ t. IsLabel (t ++ more) l number) all m.begins.1 in
      let long : length (bytes ++ more) ≡ 132 = length_of_label (bytes ++ more) l number whole in
      let few : length bytes ≤ 132 = omega (arith, length-append bytes more) in
      elim (cases_lt (length bytes) 132) [
        | inl lt ↦ record { short = lt; more = more; label = whole }
        | inr le ↦ let none : more ≡ [] = nothing more (omega (arith, length-append bytes more)) in
            absurd (m.none (subst (λ t. IsLabel t l number) (ap (λ t. bytes ++ t) none ∙ append-nil bytes) whole))
      ]
    where
      nothing : (t : List ℕ) → length t ≡ 0 → t ≡ []
      nothing [] e = refl
      nothing (x ∷ t) e = absurd (omega arith)

  -- such a label begins so, to the end
  pub goes_on : BeginsLabel bytes l number → (k : ℕ) → k < length bytes → IsFirstMisfit This bytes k → ⊥
  goes_on b k few m =
      let all : take (length bytes) bytes ≡ bytes = take_all (length bytes) bytes (omega arith) in
      let h : length bytes ≤ k = m.longest (length bytes) (omega arith) (b.more, subst (λ t. IsLabel (t ++ b.more) l number) (sym all) b.label) in
      omega arith

  pub whole_is_long : IsLabel bytes l number → BeginsLabel bytes l number → ⊥
  whole_is_long is b = let long : length bytes ≡ 132 = length_of_label bytes l number is in let short : length bytes < 132 = b.short in omega arith

  pub whole_only : (result : Result Head FrameFault) → IfOk result (IsHead l number bytes) → IfErr result (IsHeadFault l number bytes) → IsLabel bytes l number → result ≡ Ok Whole
  whole_only (Ok Whole) found fault is = refl
  whole_only (Ok Part) found fault is = absurd (whole_is_long is found)
  whole_only (Err (Torn at)) found fault is = absurd fault
  whole_only (Err (Size at n)) found fault is = absurd fault
  whole_only (Err (Lengths at head tail)) found fault is = absurd fault
  whole_only (Err (Label at)) found fault is = absurd (fault.2.none is)
  whole_only (Err NoMemory) found fault is = absurd fault

  pub part_only : (result : Result Head FrameFault) → IfOk result (IsHead l number bytes) → IfErr result (IsHeadFault l number bytes) → BeginsLabel bytes l number → result ≡ Ok Part
  part_only (Ok Whole) found fault b = absurd (whole_is_long found b)
  part_only (Ok Part) found fault b = refl
  part_only (Err (Torn at)) found fault b = absurd fault
  part_only (Err (Size at n)) found fault b = absurd fault
  part_only (Err (Lengths at head tail)) found fault b = absurd fault
  part_only (Err (Label at)) found fault b = absurd (goes_on b fault.0 fault.1 fault.2)
  part_only (Err NoMemory) found fault b = absurd fault

-- ---- a label of Meta

pub to_meta : (t : List ℕ) → IsLabelOf IsMetaNumber t → IsMetaLabel t
to_meta t h = (h.0, subst (IsLabel t h.0) h.2 h.3)

pub from_meta : (t : List ℕ) → IsMetaLabel t → IsLabelOf IsMetaNumber t
from_meta t h = (h.0, negsuc 0, refl, h.1)

module _ (bytes : List ℕ) where
  pub some_begins : IsFirstMisfit IsMetaLabel bytes (length bytes) → (l : LabelFields) × BeginsLabel bytes l (negsuc 0)
  some_begins m =
      let l : LabelFields = m.begins.1.0 in (
        l,
        begins l (negsuc 0) bytes record {
          none = λ is. m.none (l, is);
          within = m.within;
          begins = (m.begins.0, m.begins.1.1);
          longest = λ n h b. h;
        },
      )

  some_goes_on : (l : LabelFields) → BeginsLabel bytes l (negsuc 0) → (k : ℕ) → k < length bytes → IsFirstMisfit IsMetaLabel bytes k → ⊥
  some_goes_on l b k few m =
      let all : take (length bytes) bytes ≡ bytes = take_all (length bytes) bytes (omega arith) in
      let h : length bytes ≤ k = m.longest (length bytes) (omega arith) (b.more, (l, subst (λ t. IsLabel (t ++ b.more) l (negsuc 0)) (sym all) b.label)) in
      omega arith

  pub meta_whole : (result : Result (Option LabelFields) FrameFault) → IfOk result (IsMetaHead bytes) → IfErr result (IsMetaHeadFault bytes)
      → (l : LabelFields) → IsLabel bytes l (negsuc 0) → (result ≡ Ok (Some l)) ⊎ (result ≡ Err NoMemory)
  meta_whole (Ok (Some m)) found fault l is = inl (ap (λ x. Ok (Some x)) (one_label bytes m l (negsuc 0) (negsuc 0) found is).0)
  meta_whole (Ok None) found fault l is = absurd (let long : length bytes ≡ 132 = length_of_label bytes l (negsuc 0) is in let short : length bytes < 132 = found.1.short in omega arith)
  meta_whole (Err (Torn at)) found fault l is = absurd fault
  meta_whole (Err (Size at n)) found fault l is = absurd fault
  meta_whole (Err (Lengths at head tail)) found fault l is = absurd fault
  meta_whole (Err (Label at)) found fault l is = absurd (fault.1.none (l, is))
  meta_whole (Err NoMemory) found fault l is = inr refl

  pub meta_part : (result : Result (Option LabelFields) FrameFault) → IfOk result (IsMetaHead bytes) → IfErr result (IsMetaHeadFault bytes)
      → (l : LabelFields) → BeginsLabel bytes l (negsuc 0) → result ≡ Ok None
  meta_part (Ok (Some m)) found fault l b = absurd (let long : length bytes ≡ 132 = length_of_label bytes m (negsuc 0) found in let short : length bytes < 132 = b.short in omega arith)
  meta_part (Ok None) found fault l b = refl
  meta_part (Err (Torn at)) found fault l b = absurd fault
  meta_part (Err (Size at n)) found fault l b = absurd fault
  meta_part (Err (Lengths at head tail)) found fault l b = absurd fault
  meta_part (Err (Label at)) found fault l b = absurd (some_goes_on l b at fault.0 fault.1)
  meta_part (Err NoMemory) found fault l b = absurd (let long : length bytes ≡ 132 = length_of_label bytes fault.0 (negsuc 0) fault.1 in let short : length bytes < 132 = b.short in omega arith)

  -- the refusal of a label of Meta
  pub early_found : (fault : FrameFault) → IsLabelFault (IsLabelOf IsMetaNumber) bytes fault → ends_early (length bytes) fault ≡ true → (l : LabelFields) × BeginsLabel bytes l (negsuc 0)
  early_found (Torn at) h e = absurd h
  early_found (Size at n) h e = absurd h
  early_found (Lengths at head tail) h e = absurd h
  early_found (Label at) h e =
      let here : at ≡ length bytes = eqb-true at (length bytes) e in
      some_begins (subst (IsFirstMisfit IsMetaLabel bytes) here (same_misfit (IsLabelOf IsMetaNumber) IsMetaLabel bytes at to_meta from_meta h))
  early_found NoMemory h e = absurd (false_is_not_true e)

  pub late_fault : (fault : FrameFault) → IsLabelFault (IsLabelOf IsMetaNumber) bytes fault → ends_early (length bytes) fault ≡ false → IsMetaHeadFault bytes fault
  late_fault (Torn at) h e = h
  late_fault (Size at n) h e = h
  late_fault (Lengths at head tail) h e = h
  late_fault (Label at) h e =
      let within : at ≤ length bytes = h.within in
      let other : at ≢ length bytes = λ is. false_is_not_true (sym e ∙ eq-eqb at (length bytes) is) in
      (omega arith, same_misfit (IsLabelOf IsMetaNumber) IsMetaLabel bytes at to_meta from_meta h)
  late_fault NoMemory h e = to_meta bytes h
