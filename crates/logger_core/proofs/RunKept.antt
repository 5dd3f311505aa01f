-- What was made of a result is put behind the runs.
use Rattle.std.proofs.Common.{◌≡◌, ℕ, Bool, true, false, List, [], ◌∷◌, ◌++◌, length, take, sym, ap, ◌∙◌, append_assoc, arith}
use Rattle.std.specs.Prelude.{if◌then◌else◌}
use Rattle.std.proofs.Math.Seq.{take-append_seam}
use Rattle.std.proofs.lemmas.List.{take_all}
use Rattle.pcp_base.specs.Time.{Moment}
use Rattle.logger_core.specs.declared.groups.Run.{Run}
use Rattle.logger_core.specs.declared.preparing.Made.{Made}
use Rattle.logger_core.specs.Held.{run_of, joined_run, with_made}
use Rattle.logger_core.proofs.HeldRuns.{with_made_last}

front_again : (b : Bool) (bytes more : List ℕ) → take (length bytes) (if b then bytes ++ more else bytes) ≡ bytes
front_again true bytes more = take-append_seam bytes more
front_again false bytes more = take_all (length bytes) bytes (omega arith)

-- bytes that may have grown, cut back to what they were
pub back_again : (cut grown bytes more : List ℕ) (b : Bool) (count : ℕ) → cut ≡ take count grown → count ≡ length bytes → grown ≡ (if b then bytes ++ more else bytes) → cut ≡ bytes
back_again cut grown bytes more b count is counted grown_is = is ∙ ap (λ (n : ℕ). take n grown) counted ∙ ap (take (length bytes)) grown_is ∙ front_again b bytes more

pub put_begins : (old rest mid new : List Run) (last run : Run) (made : Made) (t : Moment) → old ≡ rest ++ last ∷ [] → made.crossing ≡ true → mid ≡ rest ++ last ∷ [] → run ≡ run_of made t → new ≡ mid ++ run ∷ [] → new ≡ with_made old made t
put_begins old rest mid new last run made t cases crosses_is pushed this is =
    is
    ∙ ap (λ x. mid ++ x ∷ []) this
    ∙ ap (λ rs. rs ++ run_of made t ∷ []) pushed
    ∙ append_assoc rest (last ∷ []) (run_of made t ∷ [])
    ∙ ap (λ (b : Bool). rest ++ (if b then last ∷ run_of made t ∷ [] else joined_run last made t ∷ [])) (sym crosses_is)
    ∙ sym (with_made_last rest last made t)
    ∙ ap (λ rs. with_made rs made t) (sym cases)

pub put_joins : (old rest new : List Run) (last run : Run) (grown : Bool) (made : Made) (t : Moment) → old ≡ rest ++ last ∷ [] → made.crossing ≡ false → run ≡ (if grown then joined_run last made t else last) → grown ≡ true → new ≡ rest ++ run ∷ [] → new ≡ with_made old made t
put_joins old rest new last run grown made t cases stays this has is =
    is
    ∙ ap (λ x. rest ++ x ∷ []) (this ∙ ap (λ (b : Bool). if b then joined_run last made t else last) has)
    ∙ ap (λ (b : Bool). rest ++ (if b then last ∷ run_of made t ∷ [] else joined_run last made t ∷ [])) (sym stays)
    ∙ sym (with_made_last rest last made t)
    ∙ ap (λ rs. with_made rs made t) (sym cases)
