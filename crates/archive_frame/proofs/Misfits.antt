-- The first misfit of fields that stand one behind another.
use Rattle.std.proofs.Common.{◌≡◌, inl, inr, ℕ, ◌+◌, ◌-◌, ◌<◌, ◌≤◌, List, [], ◌++◌, length, take, drop, sym, ap, ◌∙◌, subst, append_assoc, arith}
use Rattle.std.proofs.lemmas.Bool.{cases_lt}
use Rattle.std.proofs.lemmas.List.{take_at, drop_at, drop-drop, drop-take, take_all, take-take, take-append-le, drop-append-le, length-take, length-drop, length-take-le, append-nil}
use Rattle.std.proofs.Math.Seq.{take-append-add}
use Rattle.archive_frame.specs.declared.fault.FrameFault.{FrameFault}
use Rattle.archive_frame.specs.declared.fault.FrameFault.TheVariants.{Torn, Size, Lengths, Label, NoMemory}
use Rattle.archive_frame.specs.Misfits.{BeginsOne, IsFirstMisfit}
use Rattle.archive_frame.specs.Labels.{IsFieldFault, IsMisfit}

-- a field of this width, and what follows it
abbrev pub Then : (List ℕ → Type 0) → ℕ → (List ℕ → Type 0) → List ℕ → Type 0
Then Field width Rest text = Field (take width text) × Rest (drop width text)

abbrev pub HasWidth : (List ℕ → Type 0) → ℕ → Type 0
HasWidth Field width = (text : List ℕ) → Field text → length text ≡ width

-- a field and what follows it
pub then_is : (Field : List ℕ → Type 0) (width : ℕ) (Rest : List ℕ → Type 0) (field rest text : List ℕ) → Field field → length field ≡ width → Rest rest → text ≡ field ++ rest → Then Field width Rest text
then_is Field width Rest field rest text one long two is = (
  subst Field (sym (ap (take width) is ∙ take_at field rest width long)) one,
  subst Rest (sym (ap (drop width) is ∙ drop_at field rest width long)) two,
)

-- bytes whose longest beginning stops before the width are no field
pub none_so_long : (Field : List ℕ → Type 0) (width : ℕ) (bytes : List ℕ) (at : ℕ) → HasWidth Field width → at < width → ((n : ℕ) → n ≤ length bytes → BeginsOne Field (take n bytes) → n ≤ at) → Field bytes → ⊥
none_so_long Field width bytes at wide short longest field =
    let long : length bytes ≡ width = wide bytes field in
    let whole : bytes ≡ take (length bytes) bytes ++ [] = sym (append-nil (take (length bytes) bytes) ∙ take_all (length bytes) bytes (omega arith)) in
    let h : length bytes ≤ at = longest (length bytes) (omega arith) ([], subst Field whole field) in
    omega arith

-- the first misfit of the first field
first_longest : (Field : List ℕ → Type 0) (width : ℕ) (Rest : List ℕ → Type 0) (bytes : List ℕ) (at : ℕ) → IsFirstMisfit Field (take width bytes) at
    → (n : ℕ) → n ≤ length bytes → BeginsOne (Then Field width Rest) (take n bytes) → n ≤ at
first_longest Field width Rest bytes at m n h b =
    elim (cases_lt width n) [
      | inl lt ↦ absurd
          (m.none
          (subst Field
          (let long : width ≤ length (take n bytes) = omega (arith, length-take n bytes) in
          let low : width ≤ n = omega arith in take-append-le width (take n bytes) b.0 long ∙ take-take width n bytes low)
          b.1.0))
      | inr le ↦ let long : length (take n bytes) ≡ n = length-take-le n bytes h in
          let front : take width (take n bytes ++ b.0) ≡ take n (take width bytes) ++ take (width - n) b.0 =
          ap (λ k. take k (take n bytes ++ b.0)) (let e : width ≡ length (take n bytes) + (width - n) = omega arith in e) ∙ take-append-add (take n bytes) b.0 (width - n)
          ∙ ap (λ t. t ++ take (width - n) b.0) (sym (take-take n width bytes le)) in
          m.longest n (omega (arith, length-take width bytes)) (take (width - n) b.0, subst Field front b.1.0)
    ]

pub first_misfit : (Field : List ℕ → Type 0) (width : ℕ) (Rest : List ℕ → Type 0) (bytes : List ℕ) (at : ℕ) → HasWidth Field width → (rest : List ℕ) × Rest rest
    → IsFirstMisfit Field (take width bytes) at → IsFirstMisfit (Then Field width Rest) bytes at
first_misfit Field width Rest bytes at wide some m =
    let within : at ≤ length (take width bytes) = m.within in
    let low : at ≤ width = omega (arith, length-take width bytes) in
    let more : List ℕ = m.begins.0 in
    let field : List ℕ = take at bytes ++ more in
    let one : Field field = subst (λ t. Field (t ++ more)) (take-take at width bytes low) m.begins.1 in
    record {
      none = λ both. m.none both.0;
      within = omega (arith, length-take width bytes);
      begins = (more ++ some.0, then_is Field width Rest field some.0 (take at bytes ++ (more ++ some.0)) one (wide field one) some.1 (sym (append_assoc (take at bytes) more some.0)));
      longest = first_longest Field width Rest bytes at m;
    }

-- the first misfit behind a field that fits
later_longest : (Field : List ℕ → Type 0) (width : ℕ) (Rest : List ℕ → Type 0) (bytes : List ℕ) (at : ℕ) → width ≤ length bytes → IsFirstMisfit Rest (drop width bytes) at
    → (n : ℕ) → n ≤ length bytes → BeginsOne (Then Field width Rest) (take n bytes) → n ≤ width + at
later_longest Field width Rest bytes at long m n h b =
    elim (cases_lt n width) [
      | inl lt ↦ omega arith
      | inr le ↦ let split : n ≡ width + (n - width) = omega arith in
          let enough : width ≤ length (take n bytes) = omega (arith, length-take n bytes) in
          let behind : drop width (take n bytes ++ b.0) ≡ take (n - width) (drop width bytes) ++ b.0 =
          drop-append-le width (take n bytes) b.0 enough ∙ ap (λ k. drop width (take k bytes) ++ b.0) split ∙ ap (λ t. t ++ b.0) (drop-take width (n - width) bytes) in
          let few : n - width ≤ at = m.longest (n - width) (omega (arith, length-drop width bytes)) (b.0, subst Rest behind b.1.1) in
          omega arith
    ]

pub later_misfit : (Field : List ℕ → Type 0) (width : ℕ) (Rest : List ℕ → Type 0) (bytes : List ℕ) (at : ℕ) → width ≤ length bytes → Field (take width bytes)
    → IsFirstMisfit Rest (drop width bytes) at → IsFirstMisfit (Then Field width Rest) bytes (width + at)
later_misfit Field width Rest bytes at long fits m =
    let within : at ≤ length (drop width bytes) = m.within in
    let more : List ℕ = m.begins.0 in
    let front : List ℕ = take (width + at) bytes in
    let enough : width ≤ length front = omega (arith, length-take (width + at) bytes) in
    let low : width ≤ width + at = omega arith in
    record {
      none = λ both. m.none both.1;
      within = omega (arith, length-drop width bytes);
      begins = (
        more,
        (
          subst Field (sym (take-append-le width front more enough ∙ take-take width (width + at) bytes low)) fits,
          subst Rest (sym (drop-append-le width front more enough ∙ ap (λ t. t ++ more) (drop-take width at bytes))) m.begins.1,
        ),
      );
      longest = later_longest Field width Rest bytes at long m;
    }

-- the same texts have the same misfits
pub same_misfit : (Texts Others : List ℕ → Type 0) (bytes : List ℕ) (at : ℕ) → ((t : List ℕ) → Texts t → Others t) → ((t : List ℕ) → Others t → Texts t) → IsFirstMisfit Texts bytes at → IsFirstMisfit Others bytes at
same_misfit Texts Others bytes at to from m = record {
  none = λ h. m.none (from bytes h);
  within = m.within;
  begins = (m.begins.0, to (take at bytes ++ m.begins.0) m.begins.1);
  longest = λ n h b. m.longest n h (b.0, from (take n bytes ++ b.0) b.1);
}

-- The fields before a byte fit: a misfit of what follows it is one of the whole.
abbrev pub Passed : (List ℕ → Type 0) → List ℕ → (List ℕ → Type 0) → ℕ → Type 0
Passed Whole bytes Rest at = (k : ℕ) → IsFirstMisfit Rest (drop at bytes) k → IsFirstMisfit Whole bytes (at + k)

pub pass : (Whole : List ℕ → Type 0) (bytes : List ℕ) (Field : List ℕ → Type 0) (width : ℕ) (Rest : List ℕ → Type 0) (at : ℕ) → at + width ≤ length bytes → Field (take width (drop at bytes))
    → Passed Whole bytes (Then Field width Rest) at → Passed Whole bytes Rest (at + width)
pass Whole bytes Field width Rest at long fits passed k m =
    subst (IsFirstMisfit Whole bytes) (let e : at + (width + k) ≡ at + width + k = omega arith in e)
    (passed (width + k) (later_misfit Field width Rest (drop at bytes) k (omega (arith, length-drop at bytes)) fits (subst (λ t. IsFirstMisfit Rest t k) (sym (drop-drop width at bytes)) m)))

-- the refusal of a field is that of the whole
pub stop : (Whole : List ℕ → Type 0) (bytes : List ℕ) (Field : List ℕ → Type 0) (width : ℕ) (Rest : List ℕ → Type 0) (at : ℕ) → HasWidth Field width → (rest : List ℕ) × Rest rest
    → Passed Whole bytes (Then Field width Rest) at → (fault : FrameFault) → IsFieldFault Field width bytes at fault → IsMisfit Whole bytes fault
stop Whole bytes Field width Rest at wide some passed (Torn offset) h = h
stop Whole bytes Field width Rest at wide some passed (Size offset found) h = h
stop Whole bytes Field width Rest at wide some passed (Lengths offset head tail) h = h
stop Whole bytes Field width Rest at wide some passed (Label offset) h =
    subst (IsFirstMisfit Whole bytes) (sym h.1) (passed h.0 (first_misfit Field width Rest (drop at bytes) h.0 wide some h.2))
stop Whole bytes Field width Rest at wide some passed NoMemory h = h
