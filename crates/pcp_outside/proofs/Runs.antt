-- Loops over streams.
use Rattle.std.proofs.Common.{◌≡◌, ℕ, ◌+◌, ◌-◌, ◌≤◌, List}
use Rattle.std.proofs.Common.{◌++◌, length, take, drop, sym, ap, ◌∙◌, append_assoc, arith, length-drop}
use Rattle.std.proofs.lemmas.List.{take_all}
use Rattle.std.proofs.Math.Seq.{take-add, drop-append_seam}

-- the first bytes of a piece are written
pub record IsWritten (tells : Type 0) (done : ℕ) (piece before now : List ℕ) (faults_before faults_now : ℕ) : Type 0 where
  pub within : done ≤ length piece
  pub so_far : tells → now ≡ before ++ take done piece
  pub quiet : faults_now ≡ faults_before

-- what a source held is what was taken, and what it has left
pub record IsTaken (tells : Type 0) (limit : ℕ) (bytes before now : List ℕ) (faults_before faults_now : ℕ) : Type 0 where
  pub within : length bytes ≤ limit + 1
  pub so_far : tells → before ≡ bytes ++ now
  pub quiet : faults_now ≡ faults_before

-- one more front of what is left of the piece
pub writes_on : (before mid now piece : List ℕ) (done n : ℕ) → mid ≡ before ++ take done piece → now ≡ mid ++ take n (take (length piece - done) (drop done piece)) → now ≡ before ++ take (done + n) piece
writes_on before mid now piece done n so_far put =
    let whole : take (length piece - done) (drop done piece) ≡ drop done piece = take_all (length piece - done) (drop done piece) (omega (arith, length-drop done piece)) in
    put
    ∙ ap (λ (l : List ℕ). mid ++ take n l) whole
    ∙ ap (λ (l : List ℕ). l ++ take n (drop done piece)) so_far
    ∙ append_assoc before (take done piece) (take n (drop done piece))
    ∙ ap (λ (l : List ℕ). before ++ l) (sym (take-add done n piece))

-- what a source has left behind the bytes that were taken
pub left_behind : (before bytes after : List ℕ) → before ≡ bytes ++ after → after ≡ drop (length bytes) before
left_behind before bytes after is = sym (ap (drop (length bytes)) is ∙ drop-append_seam bytes after)
