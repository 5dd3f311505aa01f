-- A label's fields that fit, looked at one after another.
use Rattle.std.proofs.Common.{◌≡◌, ℕ, ℤ, ◌+◌, ◌<◌, ◌≤◌, List, length, take, drop, sym, subst, arith}
use Rattle.std.specs.Int.{w32, cast_signed}
use Rattle.pcp_base.specs.Time.{Moment}
use Rattle.pcp_model.specs.Words.{word}
use Rattle.pcp_model.specs.Labels.{HasText, IsLabel}
use Rattle.archive_frame.specs.Labels.{IsLabelOf, IsNumberField, IsNumberOf, IsUpTo, IsTextField}
use Rattle.archive_frame.proofs.Misfits.{Passed, pass}
use Rattle.archive_frame.proofs.Labels.{front_bytes, back_bytes, FromEnd, FromBack, FromZone, FromHost, FromNumber, FromUsec, FromSec, FromPid, at_front, all_fit}

-- what is known of a field that was looked at
abbrev pub IsThere : List ℕ → List ℕ → ℕ → Type 0
IsThere bytes wanted at = (at + length wanted ≤ length bytes) × (take (length wanted) (drop at bytes) ≡ wanted)

abbrev pub IsWord : List ℕ → ℕ → ℕ → ℕ → Type 0
IsWord bytes most at n = (at + 4 ≤ length bytes) × (n ≤ most) × (take 4 (drop at bytes) ≡ word n)

abbrev pub IsText : List ℕ → ℕ → ℕ → ℕ → Type 0
IsText bytes width at n = (at + width ≤ length bytes) × (n < width) × HasText width (take width (drop at bytes)) (take n (drop at bytes))

module _ (Such : ℤ → Type 0) (bytes : List ℕ) where
  pub to_pid : IsThere bytes front_bytes 0 → Passed (IsLabelOf Such) bytes (FromPid Such) 8
  to_pid f = pass (IsLabelOf Such) bytes (λ t. t ≡ front_bytes) 8 (FromPid Such) 0 f.0 f.1 (at_front Such bytes)

  pub to_sec : (pid : ℕ) → IsThere bytes front_bytes 0 → IsWord bytes 4294967295 8 pid → Passed (IsLabelOf Such) bytes (FromSec Such) 12
  to_sec pid f p = pass (IsLabelOf Such) bytes (IsUpTo 4294967295) 4 (FromSec Such) 8 p.0 (pid, p.1, p.2) (to_pid f)

  pub to_usec : (pid sec : ℕ) → IsThere bytes front_bytes 0 → IsWord bytes 4294967295 8 pid → IsWord bytes 2147483647 12 sec → Passed (IsLabelOf Such) bytes (FromUsec Such) 16
  to_usec pid sec f p s = pass (IsLabelOf Such) bytes (IsUpTo 2147483647) 4 (FromUsec Such) 12 s.0 (sec, s.1, s.2) (to_sec pid f p)

  pub to_number : (pid sec usec : ℕ) → IsThere bytes front_bytes 0 → IsWord bytes 4294967295 8 pid → IsWord bytes 2147483647 12 sec → IsWord bytes 999999 16 usec → Passed (IsLabelOf Such) bytes (FromNumber Such) 20
  to_number pid sec usec f p s u = pass (IsLabelOf Such) bytes (IsUpTo 999999) 4 (FromNumber Such) 16 u.0 (usec, u.1, u.2) (to_usec pid sec f p s)

  pub to_host : (pid sec usec number : ℕ) → IsThere bytes front_bytes 0 → IsWord bytes 4294967295 8 pid → IsWord bytes 2147483647 12 sec → IsWord bytes 999999 16 usec → IsNumberOf Such bytes number → Passed (IsLabelOf Such) bytes FromHost 24
  to_host pid sec usec number f p s u n = pass (IsLabelOf Such) bytes (IsNumberField Such) 4 FromHost 20 n.0 (number, n.1, n.2, n.3) (to_number pid sec usec f p s u)

  pub to_zone : (pid sec usec number host : ℕ) → IsThere bytes front_bytes 0 → IsWord bytes 4294967295 8 pid → IsWord bytes 2147483647 12 sec → IsWord bytes 999999 16 usec → IsNumberOf Such bytes number → IsText bytes 64 24 host → Passed (IsLabelOf Such) bytes FromZone 88
  to_zone pid sec usec number host f p s u n h = pass (IsLabelOf Such) bytes (IsTextField 64) 64 FromZone 24 h.0 (take host (drop 24 bytes), h.2) (to_host pid sec usec number f p s u n)

  pub to_back : (pid sec usec number host zone : ℕ) → IsThere bytes front_bytes 0 → IsWord bytes 4294967295 8 pid → IsWord bytes 2147483647 12 sec → IsWord bytes 999999 16 usec → IsNumberOf Such bytes number → IsText bytes 64 24 host → IsText bytes 40 88 zone → Passed (IsLabelOf Such) bytes FromBack 128
  to_back pid sec usec number host zone f p s u n h z = pass (IsLabelOf Such) bytes (IsTextField 40) 40 FromBack 88 z.0 (take zone (drop 88 bytes), z.2) (to_zone pid sec usec number host f p s u n h)

  pub to_end : (pid sec usec number host zone : ℕ) → IsThere bytes front_bytes 0 → IsWord bytes 4294967295 8 pid → IsWord bytes 2147483647 12 sec → IsWord bytes 999999 16 usec → IsNumberOf Such bytes number → IsText bytes 64 24 host → IsText bytes 40 88 zone → IsThere bytes back_bytes 128 → Passed (IsLabelOf Such) bytes FromEnd 132
  to_end pid sec usec number host zone f p s u n h z b = pass (IsLabelOf Such) bytes (λ t. t ≡ back_bytes) 4 FromEnd 128 b.0 b.1 (to_back pid sec usec number host zone f p s u n h z)

  -- all fields fit, and nothing follows them
  pub label_said : (pid sec usec number host zone : ℕ) (start : Moment) (signed : ℤ) → IsThere bytes front_bytes 0 → IsWord bytes 4294967295 8 pid → IsWord bytes 2147483647 12 sec → IsWord bytes 999999 16 usec
      → IsNumberOf Such bytes number → IsText bytes 64 24 host → IsText bytes 40 88 zone → IsThere bytes back_bytes 128 → length bytes ≤ 132 → start ≡ record { sec = sec; usec = usec } → signed ≡ cast_signed w32 number
      → IsLabel bytes (record { pid = pid; start = start; host = take host (drop 24 bytes); zone = take zone (drop 88 bytes) }) signed
  label_said pid sec usec number host zone start signed f p s u n h z b end at is =
      let low : number < 4294967296 = n.1 in
      let few : number ≤ 4294967295 = omega arith in
      let long : length bytes ≡ 132 = let there : 132 ≤ length bytes = b.0 in omega arith in
      subst (IsLabel bytes (record { pid = pid; start = start; host = take host (drop 24 bytes); zone = take zone (drop 88 bytes) })) (sym is)
      (subst (λ t. IsLabel bytes (record { pid = pid; start = t; host = take host (drop 24 bytes); zone = take zone (drop 88 bytes) }) (cast_signed w32 number)) (sym at)
      (all_fit bytes pid sec usec number (take host (drop 24 bytes)) (take zone (drop 88 bytes)) long p.1 s.1 u.1 few f.1 p.2 s.2 u.2 n.3 h.2 z.2 b.1))
