-- Record boundaries of a file: they stay where bytes are added or cut behind them, and are those of the file's records.
use Rattle.std.proofs.Common.{◌≡◌, ⊎_elim, ℕ, ℤ, ◌+◌, ◌-◌, ◌<◌, ◌≤◌, List, [], ◌∷◌, ◌++◌, length, take, drop, refl, sym, ap, ◌∙◌, subst, append_assoc, arith, length-append}
use Rattle.std.specs.List.{AllByRecursion}
use Rattle.std.proofs.lemmas.Bool.{cases_lt}
use Rattle.std.proofs.lemmas.List.{drop_at, drop_all, drop-append-le, drop-take}
use Rattle.std.proofs.Math.Seq.{take-append-add}
use Rattle.pcp_model.specs.Archive.{LabelledFile}
use Rattle.pcp_model.specs.Frame.{frame, frames, IsFrameable, IsTorn}
use Rattle.pcp_model.specs.LabelFields.{LabelFields}
use Rattle.pcp_model.specs.Sound.{IsBoundary}
use Rattle.pcp_model.proofs.Lengths.{length-frame}
use Rattle.pcp_model.proofs.Cuts.{length_of_label, frameable, as_many}
use Rattle.pcp_model.proofs.Unique.{both_frames, torn_has_none}

-- framed records in front of others are the first of them
pub front_lists : (a b : List (List ℕ)) (x t : List ℕ) → AllByRecursion IsFrameable a → AllByRecursion IsFrameable b → IsTorn t → frames a ++ x ≡ frames b ++ t → (a ≡ take (length a) b) × (length a ≤ length b)
front_lists [] b x t one two torn e = (refl, omega arith)
front_lists (p ∷ a) [] x t one two torn e = absurd (torn_has_none p (frames a ++ x) one.0 (subst IsTorn (sym e ∙ append_assoc (frame p) (frames a) x) torn))
front_lists (p ∷ a) (q ∷ b) x t one two torn e =
    let first : (p ≡ q) × (frames a ++ x ≡ frames b ++ t) =
    both_frames p q (frames a ++ x) (frames b ++ t) one.0 two.0 (sym (append_assoc (frame p) (frames a) x) ∙ e ∙ append_assoc (frame q) (frames b) t) in
    let more : (a ≡ take (length a) b) × (length a ≤ length b) = front_lists a b x t one.1 two.1 torn first.1 in
    (ap (λ v. v ∷ a) first.0 ∙ ap (λ vs. q ∷ vs) more.0, omega (arith, more.1))

-- framed records of one length in front of bytes are the same
pub same_lists : (a b : List (List ℕ)) (x y : List ℕ) → AllByRecursion IsFrameable a → AllByRecursion IsFrameable b → length (frames a) ≡ length (frames b) → frames a ++ x ≡ frames b ++ y → a ≡ b
same_lists [] [] x y one two long e = refl
same_lists [] (q ∷ b) x y one two long e = absurd (omega (arith, length-append (frame q) (frames b), length-frame q))
same_lists (p ∷ a) [] x y one two long e = absurd (omega (arith, length-append (frame p) (frames a), length-frame p))
same_lists (p ∷ a) (q ∷ b) x y one two long e =
    let first : (p ≡ q) × (frames a ++ x ≡ frames b ++ y) =
    both_frames p q (frames a ++ x) (frames b ++ y) one.0 two.0 (sym (append_assoc (frame p) (frames a) x) ∙ e ∙ append_assoc (frame q) (frames b) y) in
    let sizes : length (frame p) ≡ length (frame q) = ap (λ t. length (frame t)) first.0 in
    ap (λ v. v ∷ a) first.0 ∙ ap (λ vs. q ∷ vs) (same_lists a b x y one.1 two.1 (omega (arith, length-append (frame p) (frames a), length-append (frame q) (frames b))) first.1)

-- a boundary has one number of records before it
pub one_boundary : (bytes : List ℕ) (offset m n : ℕ) → IsBoundary bytes offset m → IsBoundary bytes offset n → m ≡ n
one_boundary bytes offset m n p q =
    sym p.many ∙ ap length (same_lists p.payloads q.payloads p.behind q.behind p.fit q.fit (omega (arith, p.is, q.is)) (sym p.stand ∙ q.stand)) ∙ q.many

-- and is one of the file's own records
pub boundary_of_file : {X : Type 0} (R : List ℕ → X → Type 0) (bytes : List ℕ) (l : LabelFields) (number : ℤ) (values : List X) (torn : List ℕ) (offset count : ℕ) → (h : LabelledFile R bytes l number values torn) → IsTorn torn
    → IsBoundary bytes offset count → (count ≤ length values) × (offset ≡ 132 + length (frames (take count h.payloads)))
boundary_of_file R bytes l number values torn offset count h is_torn b =
    let behind : frames b.payloads ++ b.behind ≡ frames h.payloads ++ torn = sym b.stand ∙ ap (drop 132) h.is ∙ drop_at h.head (frames h.payloads ++ torn) 132 (length_of_label h.head l number h.label) in
    let front : (b.payloads ≡ take (length b.payloads) h.payloads) × (length b.payloads ≤ length h.payloads) = front_lists b.payloads h.payloads b.behind torn b.fit (frameable R h.payloads values h.read) is_torn behind in
    let many : length h.payloads ≡ length values = as_many R h.payloads values h.read in
    (omega (arith, b.many, front.1), b.is ∙ ap (λ ps. 132 + length (frames ps)) (front.0 ∙ ap (λ k. take k h.payloads) b.many))

none_before : (payloads : List (List ℕ)) (behind : List ℕ) → frames payloads ++ behind ≡ [] → payloads ≡ []
none_before [] behind e = refl
none_before (p ∷ payloads) behind e =
    let size : length (frames (p ∷ payloads) ++ behind) ≡ 0 = ap length e in
    absurd (omega (arith, length-append (frames (p ∷ payloads)) behind, length-append (frame p) (frames payloads), length-frame p))

-- bytes behind a file leave its boundaries
pub boundary_stays : (bytes more : List ℕ) (offset count : ℕ) → IsBoundary bytes offset count → IsBoundary (bytes ++ more) offset count
boundary_stays bytes more offset count b =
    ⊎_elim (λ (short : length bytes < 132).
    let none : b.payloads ≡ [] = none_before b.payloads b.behind (sym b.stand ∙ drop_all 132 bytes (omega arith)) in
    record {
      payloads = b.payloads;
      many = b.many;
      fit = b.fit;
      behind = drop 132 (bytes ++ more);
      stand = ap (λ ps. frames ps ++ drop 132 (bytes ++ more)) (sym none);
      is = b.is;
    })
    (λ (long : 132 ≤ length bytes). record {
      payloads = b.payloads;
      many = b.many;
      fit = b.fit;
      behind = b.behind ++ more;
      stand = drop-append-le 132 bytes more long ∙ ap (λ t. t ++ more) b.stand ∙ append_assoc (frames b.payloads) b.behind more;
      is = b.is;
    }) (cases_lt (length bytes) 132)

-- and so does a cut that isn't before them
pub boundary_survives : (bytes : List ℕ) (n offset count : ℕ) → offset ≤ n → IsBoundary bytes offset count → IsBoundary (take n bytes) offset count
boundary_survives bytes n offset count le b =
    let size : length (frames b.payloads) ≤ n - 132 = omega (arith, b.is) in
    record {
      payloads = b.payloads;
      many = b.many;
      fit = b.fit;
      behind = take (n - 132 - length (frames b.payloads)) b.behind;
      stand = ap (λ k. drop 132 (take k bytes)) (let e : n ≡ 132 + (n - 132) = omega (arith, b.is) in e) ∙ drop-take 132 (n - 132) bytes ∙ ap (take (n - 132)) b.stand ∙ ap (λ m. take m (frames b.payloads ++ b.behind)) (let e : n - 132 ≡ length (frames b.payloads) + (n - 132 - length (frames b.payloads)) = omega arith in e)
          ∙ take-append-add (frames b.payloads) b.behind (n - 132 - length (frames b.payloads));
      is = b.is;
    }
