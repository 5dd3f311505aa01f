-- Labels, field by field.
use Rattle.std.proofs.Common.{◌≡◌, ◌≢◌, ℕ, ℤ, ◌+◌, ◌<◌, ◌≤◌, List, [], ◌∷◌, ◌++◌, length, take, drop, refl, sym, ap, ◌∙◌, subst, append_assoc, arith}
use Rattle.std.specs.Prelude.{FitsSigned}
use Rattle.std.specs.Int.{w32, cast_signed, cast_unsigned}
use Rattle.std.proofs.lemmas.Int.{ints, of_z-to_z, to_z-of_z}
use Rattle.std.proofs.lemmas.List.{take-append-drop, drop-drop, drop_all, length-append, length-take, length-replicate, append-nil}
use Rattle.std.proofs.lemmas.List.Elements.{All-nil}
use Rattle.pcp_model.specs.Words.{word, signed_word, length-word, zeros}
use Rattle.pcp_model.specs.Frame.{frame}
use Rattle.pcp_model.specs.LabelFields.{LabelFields}
use Rattle.pcp_model.specs.Labels.{label_head, HasText, IsLabel}
use Rattle.archive_frame.specs.Misfits.{IsFirstMisfit}
use Rattle.archive_frame.specs.Labels.{IsLabelOf, IsNumberField, IsUpTo, IsTextField}
use Rattle.archive_frame.proofs.Misfits.{Then, then_is, same_misfit, Passed}
use Rattle.pcp_model.proofs.Lengths.{length-label_head}
use Rattle.archive_frame.proofs.Filling.{word_of_signed}

-- ---- what stands from each field on

abbrev pub front_bytes : List ℕ
front_bytes = 0 ∷ 0 ∷ 0 ∷ 132 ∷ 80 ∷ 5 ∷ 38 ∷ 2 ∷ []

abbrev pub back_bytes : List ℕ
back_bytes = 0 ∷ 0 ∷ 0 ∷ 132 ∷ []

abbrev pub FromEnd : List ℕ → Type 0
FromEnd t = t ≡ []

abbrev pub FromBack : List ℕ → Type 0
FromBack = Then (λ t. t ≡ back_bytes) 4 FromEnd

abbrev pub FromZone : List ℕ → Type 0
FromZone = Then (IsTextField 40) 40 FromBack

abbrev pub FromHost : List ℕ → Type 0
FromHost = Then (IsTextField 64) 64 FromZone

module _ (Such : ℤ → Type 0) where
  abbrev pub FromNumber : List ℕ → Type 0
  FromNumber = Then (IsNumberField Such) 4 FromHost

  abbrev pub FromUsec : List ℕ → Type 0
  FromUsec = Then (IsUpTo 999999) 4 FromNumber

  abbrev pub FromSec : List ℕ → Type 0
  FromSec = Then (IsUpTo 2147483647) 4 FromUsec

  abbrev pub FromPid : List ℕ → Type 0
  FromPid = Then (IsUpTo 4294967295) 4 FromSec

  abbrev pub FromFront : List ℕ → Type 0
  FromFront = Then (λ t. t ≡ front_bytes) 8 FromPid

front_is : word 132 ++ word 1342514690 ≡ front_bytes
unfolding word
front_is = refl

back_is : word 132 ≡ back_bytes
unfolding word
back_is = refl

-- a label's bytes with nothing grouped but its front
abbrev pub flat : ℕ → ℕ → ℕ → ℕ → List ℕ → List ℕ → List ℕ
flat pid sec usec number host zone = front_bytes ++ (word pid ++ (word sec ++ (word usec ++ (word number ++ (host ++ (zone ++ back_bytes))))))

framed : (l : LabelFields) (number : ℤ) (host zone : List ℕ) → length host ≡ 64 → length zone ≡ 40
    → frame (label_head l number ++ (host ++ zone)) ≡ flat l.pid l.start.sec l.start.usec (cast_unsigned w32 number) host zone
unfolding frame
framed l number host zone h z =
    let payload : List ℕ = label_head l number ++ (host ++ zone) in
    let long : length payload + 8 ≡ 132 = omega (arith, length-append (label_head l number) (host ++ zone), length-append host zone, length-label_head l number) in
    let words : List ℕ = word l.pid ++ (word l.start.sec ++ (word l.start.usec ++ signed_word number)) in
    let grouped : word 132 ++ (((word 1342514690 ++ words) ++ (host ++ zone)) ++ word 132) ≡ (word 132 ++ word 1342514690) ++ (word l.pid ++ (word l.start.sec ++ (word l.start.usec ++ (signed_word number ++ (host ++ (zone ++ word 132)))))) =
    simp append_assoc in
    ap (λ n. word n ++ (payload ++ word n)) long ∙ grouped
    ∙ ap (λ t. t ++ (word l.pid ++ (word l.start.sec ++ (word l.start.usec ++ (signed_word number ++ (host ++ (zone ++ word 132))))))) front_is
    ∙ ap (λ t. front_bytes ++ (word l.pid ++ (word l.start.sec ++ (word l.start.usec ++ (t ++ (host ++ (zone ++ word 132))))))) (sym (word_of_signed number))
    ∙ ap (λ t. front_bytes ++ (word l.pid ++ (word l.start.sec ++ (word l.start.usec ++ (word (cast_unsigned w32 number) ++ (host ++ (zone ++ t))))))) back_is

unsigned_fits : (z : ℤ) → FitsSigned w32 z → cast_unsigned w32 z ≤ 4294967295
unsigned_fits z fits = omega (arith, ints)

-- a label has these fields
pub has_fields : (Such : ℤ → Type 0) (t : List ℕ) → IsLabelOf Such t → FromFront Such t
has_fields Such t s =
    let l : LabelFields = s.0 in
    let is : IsLabel t l s.1 = s.3 in
    let back : cast_signed w32 (cast_unsigned w32 s.1) ≡ s.1 = to_z-of_z w32 s.1 is.number_fits in
    let such : Such (cast_signed w32 (cast_unsigned w32 s.1)) = subst Such (sym back) s.2 in
    let n : ℕ = cast_unsigned w32 s.1 in
    let pid : l.pid < 4294967296 = is.pid in
    let sec : l.start.sec < 2147483648 = is.start.sec in
    let usec : l.start.usec < 1000000 = is.start.usec in
    let t7 : List ℕ = is.zone ++ back_bytes in
    let t6 : List ℕ = is.host ++ t7 in
    let t5 : List ℕ = word n ++ t6 in
    let t4 : List ℕ = word l.start.usec ++ t5 in
    let t3 : List ℕ = word l.start.sec ++ t4 in
    let t2 : List ℕ = word l.pid ++ t3 in
    let e8 : FromBack back_bytes = then_is (λ x. x ≡ back_bytes) 4 FromEnd back_bytes [] back_bytes refl refl refl refl in
    let e7 : FromZone t7 = then_is (IsTextField 40) 40 FromBack is.zone back_bytes t7 (l.zone, is.has_zone) is.has_zone.wide e8 refl in
    let e6 : FromHost t6 = then_is (IsTextField 64) 64 FromZone is.host t7 t6 (l.host, is.has_host) is.has_host.wide e7 refl in
    let low : n ≤ 4294967295 = unsigned_fits s.1 is.number_fits in
    let e5 : FromNumber Such t5 = then_is (IsNumberField Such) 4 FromHost (word n) t6 t5 (n, omega arith, such, refl) (length-word n) e6 refl in
    let e4 : FromUsec Such t4 = then_is (IsUpTo 999999) 4 (FromNumber Such) (word l.start.usec) t5 t4 (l.start.usec, omega arith, refl) (length-word l.start.usec) e5 refl in
    let e3 : FromSec Such t3 = then_is (IsUpTo 2147483647) 4 (FromUsec Such) (word l.start.sec) t4 t3 (l.start.sec, omega arith, refl) (length-word l.start.sec) e4 refl in
    let e2 : FromPid Such t2 = then_is (IsUpTo 4294967295) 4 (FromSec Such) (word l.pid) t3 t2 (l.pid, omega arith, refl) (length-word l.pid) e3 refl in
    then_is (λ x. x ≡ front_bytes) 8 (FromPid Such) front_bytes t2 t refl refl e2 (is.is ∙ framed l s.1 is.host is.zone is.has_host.wide is.has_zone.wide)

-- and fields make a label
signed_fits : (n : ℕ) → n ≤ 4294967295 → FitsSigned w32 (cast_signed w32 n)
signed_fits n le = omega (arith, ints)

pub is_label : (t : List ℕ) (pid sec usec number : ℕ) (host zone host_text zone_text : List ℕ) → pid ≤ 4294967295 → sec ≤ 2147483647 → usec ≤ 999999 → number ≤ 4294967295
    → HasText 64 host host_text → HasText 40 zone zone_text → t ≡ flat pid sec usec number host zone
    → IsLabel t (record { pid = pid; start = record { sec = sec; usec = usec }; host = host_text; zone = zone_text }) (cast_signed w32 number)
is_label t pid sec usec number host zone host_text zone_text p s u n h z is =
    let l : LabelFields = record { pid = pid; start = record { sec = sec; usec = usec }; host = host_text; zone = zone_text } in
    let low : number < 4294967296 = omega arith in
    record {
      number_fits = signed_fits number n;
      pid = omega arith;
      start = record { sec = omega arith; usec = omega arith };
      host = host;
      zone = zone;
      has_host = h;
      has_zone = z;
      is = is ∙ ap (λ x. flat pid sec usec x host zone) (sym (of_z-to_z w32 number low)) ∙ sym (framed l (cast_signed w32 number) host zone h.wide z.wide);
    }

split : (width : ℕ) (t field rest : List ℕ) → take width t ≡ field → drop width t ≡ rest → t ≡ field ++ rest
split width t field rest one two = sym (take-append-drop width t) ∙ ap (λ x. x ++ drop width t) one ∙ ap (λ x. field ++ x) two

pub from_fields : (Such : ℤ → Type 0) (t : List ℕ) → FromFront Such t → IsLabelOf Such t
from_fields Such t h =
    let pid = h.1.0 in
    let sec = h.1.1.0 in
    let usec = h.1.1.1.0 in
    let number = h.1.1.1.1.0 in
    let host = h.1.1.1.1.1.0 in
    let zone = h.1.1.1.1.1.1.0 in
    let t1 : List ℕ = drop 8 t in
    let t2 : List ℕ = drop 4 t1 in
    let t3 : List ℕ = drop 4 t2 in
    let t4 : List ℕ = drop 4 t3 in
    let t5 : List ℕ = drop 4 t4 in
    let t6 : List ℕ = drop 64 t5 in
    let t7 : List ℕ = drop 40 t6 in
    let back = h.1.1.1.1.1.1.1 in
    let s7 : t7 ≡ back_bytes = split 4 t7 back_bytes [] back.0 back.1 in
    let s6 : t6 ≡ take 40 t6 ++ back_bytes = split 40 t6 (take 40 t6) back_bytes refl s7 in
    let s5 = split 64 t5 (take 64 t5) (take 40 t6 ++ back_bytes) refl s6 in
    let s4 = split 4 t4 (word number.0) (take 64 t5 ++ (take 40 t6 ++ back_bytes)) number.3 s5 in
    let low : number.0 < 4294967296 = number.1 in
    let s3 = split 4 t3 (word usec.0) (word number.0 ++ (take 64 t5 ++ (take 40 t6 ++ back_bytes))) usec.2 s4 in
    let s2 = split 4 t2 (word sec.0) (word usec.0 ++ (word number.0 ++ (take 64 t5 ++ (take 40 t6 ++ back_bytes)))) sec.2 s3 in
    let s1 = split 4 t1 (word pid.0) (word sec.0 ++ (word usec.0 ++ (word number.0 ++ (take 64 t5 ++ (take 40 t6 ++ back_bytes))))) pid.2 s2 in
    let s0 = split 8 t front_bytes (word pid.0 ++ (word sec.0 ++ (word usec.0 ++ (word number.0 ++ (take 64 t5 ++ (take 40 t6 ++ back_bytes)))))) h.0 s1 in (
      record { pid = pid.0; start = record { sec = sec.0; usec = usec.0 }; host = host.0; zone = zone.0 },
      cast_signed w32 number.0,
      number.2,
      is_label t pid.0 sec.0 usec.0 number.0 (take 64 t5) (take 40 t6) host.0 zone.0 pid.1 sec.1 usec.1 (omega arith) host.1 zone.1 s0,
    )

-- ---- what can follow

no_text : (width : ℕ) → IsTextField (width + 1) (0 ∷ zeros width)
no_text width = ([], record { wide = omega (arith, length-replicate {A = ℕ} width 0); clean = All-nil (λ b. b ≢ 0); ended = (zeros width, refl) })

pub some_end : (t : List ℕ) × FromEnd t
some_end = ([], refl)

pub some_back : (t : List ℕ) × FromBack t
some_back = (back_bytes, then_is (λ x. x ≡ back_bytes) 4 FromEnd back_bytes [] back_bytes refl refl refl refl)

pub some_zone : (t : List ℕ) × FromZone t
some_zone = ((0 ∷ zeros 39) ++ some_back.0, then_is (IsTextField 40) 40 FromBack (0 ∷ zeros 39) some_back.0 ((0 ∷ zeros 39) ++ some_back.0) (no_text 39) refl some_back.1 refl)

pub some_host : (t : List ℕ) × FromHost t
some_host = ((0 ∷ zeros 63) ++ some_zone.0, then_is (IsTextField 64) 64 FromZone (0 ∷ zeros 63) some_zone.0 ((0 ∷ zeros 63) ++ some_zone.0) (no_text 63) refl some_zone.1 refl)

some_word : (most : ℕ) (Rest : List ℕ → Type 0) → (t : List ℕ) × Rest t → (t : List ℕ) × Then (IsUpTo most) 4 Rest t
some_word most Rest some = (word 0 ++ some.0, then_is (IsUpTo most) 4 Rest (word 0) some.0 (word 0 ++ some.0) (0, omega arith, refl) (length-word 0) some.1 refl)

module _ (Such : ℤ → Type 0) (one : (n : ℕ) × (n < 4294967296) × Such (cast_signed w32 n)) where
  pub some_number : (t : List ℕ) × FromNumber Such t
  some_number = (
    word one.0 ++ some_host.0,
    then_is (IsNumberField Such) 4 FromHost (word one.0) some_host.0 (word one.0 ++ some_host.0) (one.0, one.1, one.2, refl) (length-word one.0) some_host.1 refl,
  )

  pub some_usec : (t : List ℕ) × FromUsec Such t
  some_usec = some_word 999999 (FromNumber Such) some_number

  pub some_sec : (t : List ℕ) × FromSec Such t
  some_sec = some_word 2147483647 (FromUsec Such) some_usec

  pub some_pid : (t : List ℕ) × FromPid Such t
  some_pid = some_word 4294967295 (FromSec Such) some_sec

-- ---- the fields that fit, one after another

pub at_front : (Such : ℤ → Type 0) (bytes : List ℕ) → Passed (IsLabelOf Such) bytes (FromFront Such) 0
at_front Such bytes k m =
    subst (IsFirstMisfit (IsLabelOf Such) bytes) (let e : k ≡ 0 + k = omega arith in e) (same_misfit (FromFront Such) (IsLabelOf Such) bytes k (from_fields Such) (has_fields Such) m)

-- nothing follows a label
pub end_misfit : (bytes : List ℕ) → 0 < length bytes → IsFirstMisfit FromEnd bytes 0
end_misfit bytes some = record {
  none = λ e. let none : length bytes ≡ 0 = ap length e in omega arith;
  within = omega arith;
  begins = ([], refl);
  longest = λ n h b. let none : length (take n bytes ++ b.0) ≡ 0 = ap length b.1 in omega (arith, length-append (take n bytes) b.0, length-take n bytes);
}

-- ---- a label whose fields all fit

goes_on : (bytes field : List ℕ) (at width next : ℕ) → take width (drop at bytes) ≡ field → next ≡ at + width → drop at bytes ≡ field ++ drop next bytes
goes_on bytes field at width next is step = split width (drop at bytes) field (drop next bytes) is (drop-drop width at bytes ∙ ap (λ n. drop n bytes) (sym step))

pub all_fit : (bytes : List ℕ) (pid sec usec number : ℕ) (host_text zone_text : List ℕ) → length bytes ≡ 132 → pid ≤ 4294967295 → sec ≤ 2147483647 → usec ≤ 999999 → number ≤ 4294967295
    → take 8 bytes ≡ front_bytes → take 4 (drop 8 bytes) ≡ word pid → take 4 (drop 12 bytes) ≡ word sec → take 4 (drop 16 bytes) ≡ word usec → take 4 (drop 20 bytes) ≡ word number
    → HasText 64 (take 64 (drop 24 bytes)) host_text → HasText 40 (take 40 (drop 88 bytes)) zone_text → take 4 (drop 128 bytes) ≡ back_bytes
    → IsLabel bytes (record { pid = pid; start = record { sec = sec; usec = usec }; host = host_text; zone = zone_text }) (cast_signed w32 number)
all_fit bytes pid sec usec number host_text zone_text long p s u n e1 e2 e3 e4 e5 h z e8 =
    let s8 : drop 128 bytes ≡ back_bytes = goes_on bytes back_bytes 128 4 132 e8 refl ∙ ap (λ t. back_bytes ++ t) (drop_all 132 bytes (omega arith)) ∙ append-nil back_bytes in
    let s7 = goes_on bytes (take 40 (drop 88 bytes)) 88 40 128 refl refl ∙ ap (λ t. take 40 (drop 88 bytes) ++ t) s8 in
    let s6 = goes_on bytes (take 64 (drop 24 bytes)) 24 64 88 refl refl ∙ ap (λ t. take 64 (drop 24 bytes) ++ t) s7 in
    let s5 = goes_on bytes (word number) 20 4 24 e5 refl ∙ ap (λ t. word number ++ t) s6 in
    let s4 = goes_on bytes (word usec) 16 4 20 e4 refl ∙ ap (λ t. word usec ++ t) s5 in
    let s3 = goes_on bytes (word sec) 12 4 16 e3 refl ∙ ap (λ t. word sec ++ t) s4 in
    let s2 = goes_on bytes (word pid) 8 4 12 e2 refl ∙ ap (λ t. word pid ++ t) s3 in
    is_label bytes pid sec usec number (take 64 (drop 24 bytes)) (take 40 (drop 88 bytes)) host_text zone_text p s u n h z (goes_on bytes front_bytes 0 8 8 e1 refl ∙ ap (λ t. front_bytes ++ t) s2)
