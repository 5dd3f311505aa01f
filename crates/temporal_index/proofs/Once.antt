-- Bytes are entries, or have one first fault.
use Rattle.std.proofs.Common.{◌≡◌, ℕ, ◌<◌, List, [], ◌∷◌, ◌++◌, length, drop, refl, sym, ap, ◌∙◌, append_assoc, arith}
use Rattle.std.specs.List.{AllByRecursion}
use Rattle.std.proofs.lemmas.List.{drop_at, length-append, append-nil}
use Rattle.pcp_model.specs.declared.records.Entry.{Entry}
use Rattle.pcp_model.specs.Records.{entry, entries, FitsEntry}
use Rattle.pcp_model.proofs.Cuts.{length-entry}
use Rattle.temporal_index.specs.Entries.{AreEntries, IsFirstFault}

-- no fitting entry stands in front of these bytes
abbrev None : List ℕ → Type 0
None rest = (e : Entry) (more : List ℕ) → FitsEntry e → rest ≡ entry e ++ more → ⊥

-- behind two first entries
others : (e f : Entry) (x y : List ℕ) → entry e ++ x ≡ entry f ++ y → x ≡ y
others e f x y is = sym (drop_at (entry e) x 20 (length-entry e)) ∙ ap (drop 20) is ∙ drop_at (entry f) y 20 (length-entry f)

-- behind entries that were taken apart
later : (e f : Entry) (es fs : List Entry) (x y : List ℕ) → entries (e ∷ es) ++ x ≡ entries (f ∷ fs) ++ y → entries es ++ x ≡ entries fs ++ y
later e f es fs x y is = others e f (entries es ++ x) (entries fs ++ y) (sym (append_assoc (entry e) (entries es) x) ∙ is ∙ append_assoc (entry f) (entries fs) y)

one_offset : (es fs : List Entry) (x y : List ℕ) → AllByRecursion FitsEntry es → AllByRecursion FitsEntry fs → None x → None y → entries es ++ x ≡ entries fs ++ y → length (entries es) ≡ length (entries fs)
one_offset [] [] x y p q n m is = refl
one_offset [] (f ∷ fs) x y p q n m is = absurd (n f (entries fs ++ y) q.0 (is ∙ append_assoc (entry f) (entries fs) y))
one_offset (e ∷ es) [] x y p q n m is = absurd (m e (entries es ++ x) p.0 (sym is ∙ append_assoc (entry e) (entries es) x))
one_offset (e ∷ es) (f ∷ fs) x y p q n m is =
    omega (arith, length-append (entry e) (entries es), length-append (entry f) (entries fs), length-entry e, length-entry f, one_offset es fs x y p.1 q.1 n m (later e f es fs x y is))

never_both : (es fs : List Entry) (x : List ℕ) → AllByRecursion FitsEntry fs → 0 < length x → None x → entries es ++ x ≡ entries fs ++ [] → ⊥
never_both [] [] x q long n is = let none : length x ≡ 0 = ap length is in omega arith
never_both [] (f ∷ fs) x q long n is = n f (entries fs ++ []) q.0 (is ∙ append_assoc (entry f) (entries fs) [])
never_both (e ∷ es) [] x q long n is =
    let none : length (entries (e ∷ es) ++ x) ≡ 0 = ap length is in
    omega (arith, length-append (entry e ++ entries es) x)
never_both (e ∷ es) (f ∷ fs) x q long n is = never_both es fs x q.1 long n (later e f es fs x [] is)

pub stops_once : (bytes : List ℕ) (i j : ℕ) → IsFirstFault bytes i → IsFirstFault bytes j → i ≡ j
stops_once bytes i j p q = p.offset ∙ one_offset p.front q.front p.rest q.rest p.fit q.fit p.none q.none (sym p.is ∙ q.is) ∙ sym q.offset

pub stops_or_is : (bytes : List ℕ) (i : ℕ) (es : List Entry) → IsFirstFault bytes i → AreEntries bytes es → ⊥
stops_or_is bytes i es p are = never_both p.front es p.rest are.fit p.goes_on p.none (sym p.is ∙ are.is ∙ sym (append-nil (entries es)))
