-- What is read of the bytes is what they are.
use Rattle.std.proofs.Common.{◌≡◌, ℕ, zero, suc, ◌+◌, ◌*◌, ◌≤◌, List, [], ◌∷◌, ◌++◌, length, drop, Option, Some, None, Result, Ok, Err, refl, sym, ap, ◌∙◌, subst, append_assoc, arith, inl, inr, ◌⊎◌}
use Rattle.std.specs.Prelude.{IfOk, IfErr}
use Rattle.std.specs.List.{AllByRecursion}
use Rattle.std.proofs.lemmas.List.{drop_all, drop_at, drop-drop, length-drop, length-append, append-nil}
use Rattle.pcp_base.proofs.Bytes.{IsBytes}
use Rattle.pcp_model.specs.declared.records.Entry.{Entry}
use Rattle.pcp_model.specs.Records.{entry, entries, FitsEntry}
use Rattle.pcp_model.proofs.Cuts.{length-entry}
use Rattle.temporal_index.specs.declared.fault.IndexFault.{IndexFault}
use Rattle.temporal_index.specs.declared.fault.IndexFault.TheVariants.{Entry as NoEntry, NoMemory}
use Rattle.temporal_index.specs.Entries.{entry_at, entry_then_others, entries_from, entries_begun_in, index_of, Gives, AreEntries, IsFirstFault, IsIndexFault}
use Rattle.temporal_index.proofs.Fields.{Taken, entry_takes, entry_again}

abbrev read : List Entry → Result (List Entry) ℕ
read es = Ok es

abbrev stopped : ℕ → Result (List Entry) ℕ
stopped at = Err at

ok_is : (x y : List Entry) → read x ≡ read y → x ≡ y
ok_is x y e = cc

err_is : (x y : ℕ) → stopped x ≡ stopped y → x ≡ y
err_is x y e = cc

followed_ok : (at : ℕ) (o : Option Entry) (others : Result (List Entry) ℕ) (es : List Entry) → entry_then_others at o others ≡ Ok es
    → (e : Entry) × (xs : List Entry) × (o ≡ Some e) × (others ≡ Ok xs) × (e ∷ xs ≡ es)
followed_ok at None others es is = absurd cc
followed_ok at (Some e) (Ok xs) es is = (e, xs, refl, refl, ok_is (e ∷ xs) es is)
followed_ok at (Some e) (Err offset) es is = absurd cc

followed_err : (at : ℕ) (o : Option Entry) (others : Result (List Entry) ℕ) (offset : ℕ) → entry_then_others at o others ≡ Err offset
    → ((o ≡ None) × (at ≡ offset)) ⊎ ((e : Entry) × (o ≡ Some e) × (others ≡ Err offset))
followed_err at None others offset is = inl (refl, err_is at offset is)
followed_err at (Some e) (Ok xs) offset is = absurd cc
followed_err at (Some e) (Err other) offset is = inr (e, refl, is)

-- entries that were read stand there, one behind another
from_takes : (n : ℕ) (bytes : List ℕ) (at : ℕ) (es : List Entry) → IsBytes bytes → entries_from n bytes at ≡ Ok es → AllByRecursion FitsEntry es × (drop at bytes ≡ entries es ++ drop (at + 20 * n) bytes)
unfolding entries_from
from_takes zero bytes at es fits is =
    let none : [] ≡ es = ok_is [] es is in
    subst (λ xs. AllByRecursion FitsEntry xs × (drop at bytes ≡ entries xs ++ drop (at + 20 * 0) bytes)) none (tt, ap (λ k. drop k bytes) (let k : at ≡ at + 20 * 0 = omega arith in k))
from_takes (suc n) bytes at es fits is =
    let f = followed_ok at (entry_at bytes at) (entries_from n bytes (at + 20)) es is in
    let here = entry_takes bytes at f.0 fits f.2 in
    let others = from_takes n bytes (at + 20) f.1 fits f.3 in
    subst (λ xs. AllByRecursion FitsEntry xs × (drop at bytes ≡ entries xs ++ drop (at + 20 * suc n) bytes)) f.4
    ((here.fits, others.0), here.cut ∙ ap (λ t. entry f.0 ++ t) (others.1 ∙ ap (λ k. entries f.1 ++ drop k bytes) (let k : at + 20 + 20 * n ≡ at + 20 * suc n = omega arith in k)) ∙ sym (append_assoc (entry f.0) (entries f.1) (drop (at + 20 * suc n) bytes)))

-- Entries stand up to an offset where none is read.
record Stopped (n : ℕ) (bytes : List ℕ) (at offset : ℕ) : Type 0 where
  front : List Entry
  fit : AllByRecursion FitsEntry front
  is : drop at bytes ≡ entries front ++ drop offset bytes
  size : offset ≡ at + length (entries front)
  within : offset + 20 ≤ at + 20 * n
  none : entry_at bytes offset ≡ None

stops_here : (n : ℕ) (bytes : List ℕ) (at offset : ℕ) → entry_at bytes at ≡ None → at ≡ offset → Stopped (suc n) bytes at offset
stops_here n bytes at offset none same = record {
  front = [];
  fit = tt;
  is = ap (λ k. drop k bytes) same;
  size = omega arith;
  within = omega arith;
  none = subst (λ k. entry_at bytes k ≡ None) same none;
}

stops_later : (n : ℕ) (bytes : List ℕ) (at offset : ℕ) (e : Entry) → Taken bytes at e → Stopped n bytes (at + 20) offset → Stopped (suc n) bytes at offset
stops_later n bytes at offset e here s =
    let size : offset ≡ at + 20 + length (entries s.front) = s.size in
    let within : offset + 20 ≤ at + 20 + 20 * n = s.within in
    record {
      front = e ∷ s.front;
      fit = (here.fits, s.fit);
      is = here.cut ∙ ap (λ t. entry e ++ t) s.is ∙ sym (append_assoc (entry e) (entries s.front) (drop offset bytes));
      size = omega (arith, length-append (entry e) (entries s.front), length-entry e);
      within = omega arith;
      none = s.none;
    }

from_stops : (n : ℕ) (bytes : List ℕ) (at offset : ℕ) → IsBytes bytes → entries_from n bytes at ≡ Err offset → Stopped n bytes at offset
unfolding entries_from
from_stops zero bytes at offset fits is = absurd cc
from_stops (suc n) bytes at offset fits is =
    elim (followed_err at (entry_at bytes at) (entries_from n bytes (at + 20)) offset is) [
      | inl here ↦ stops_here n bytes at offset here.0 here.1
      | inr later ↦ stops_later n bytes at offset later.0 (entry_takes bytes at later.0 fits later.1) (from_stops n bytes (at + 20) offset fits later.2)
    ]

next_entry : (bytes : List ℕ) (at : ℕ) (e : Entry) (rest : List ℕ) → drop at bytes ≡ entry e ++ rest → drop (at + 20) bytes ≡ rest
next_entry bytes at e rest is = sym (drop-drop 20 at bytes) ∙ ap (drop 20) is ∙ drop_at (entry e) rest 20 (length-entry e)

-- entries that stand there are read
from_again : (es : List Entry) (bytes : List ℕ) (at : ℕ) (rest : List ℕ) → AllByRecursion FitsEntry es → drop at bytes ≡ entries es ++ rest → entries_from (length es) bytes at ≡ Ok es
unfolding entries_from
from_again [] bytes at rest fit is = refl
from_again (e ∷ es) bytes at rest fit is =
    let first : drop at bytes ≡ entry e ++ (entries es ++ rest) = is ∙ append_assoc (entry e) (entries es) rest in
    let behind : drop (at + 20) bytes ≡ entries es ++ rest = next_entry bytes at e (entries es ++ rest) first in
    let here : entry_at bytes at ≡ Some e = entry_again bytes at e (entries es ++ rest) fit.0 first in
    rw (here, from_again es bytes (at + 20) rest fit.1 behind) refl

pub length-entries : (es : List Entry) → length (entries es) ≡ 20 * length es
length-entries [] = refl
length-entries (e ∷ es) = omega (arith, length-append (entry e) (entries es), length-entry e, length-entries es)

-- what is read is what the bytes are
pub index_takes : (bytes : List ℕ) (es : List Entry) → IsBytes bytes → index_of bytes ≡ Ok es → AreEntries bytes es
unfolding index_of
index_takes bytes es fits is =
    let f = from_takes (entries_begun_in (length bytes)) bytes 0 es fits is in
    let past : length bytes ≤ 0 + 20 * entries_begun_in (length bytes) = omega arith in
    record { fit = f.0; is = f.1 ∙ ap (λ t. entries es ++ t) (drop_all (0 + 20 * entries_begun_in (length bytes)) bytes past) ∙ append-nil (entries es) }

-- what the bytes are is read
pub index_again : (bytes : List ℕ) (es : List Entry) → AreEntries bytes es → index_of bytes ≡ Ok es
unfolding index_of
index_again bytes es are =
    let size : length bytes ≡ 20 * length es = ap length are.is ∙ length-entries es in
    let many : entries_begun_in (length bytes) ≡ length es = omega arith in
    ap (λ n. entries_from n bytes 0) many ∙ from_again es bytes 0 [] are.fit (are.is ∙ sym (append-nil (entries es)))

-- where nothing is read is the first fault
pub index_stops : (bytes : List ℕ) (offset : ℕ) → IsBytes bytes → index_of bytes ≡ Err offset → IsFirstFault bytes offset
unfolding index_of
index_stops bytes offset fits is =
    let s = from_stops (entries_begun_in (length bytes)) bytes 0 offset fits is in
    let within : offset + 20 ≤ 0 + 20 * entries_begun_in (length bytes) = s.within in
    record {
      front = s.front;
      rest = drop offset bytes;
      is = s.is;
      fit = s.fit;
      offset = let size : offset ≡ 0 + length (entries s.front) = s.size in omega arith;
      goes_on = omega (arith, length-drop offset bytes);
      none = λ e more fit there. absurd (let one : None ≡ Some e = sym s.none ∙ entry_again bytes offset e more fit there in cc);
    }

-- the clauses of a reader that gives what reading gives
pub is_found : (bytes : List ℕ) (result : Result (List Entry) IndexFault) → IsBytes bytes → Gives result (index_of bytes) → IfOk result (AreEntries bytes)
is_found bytes (Ok es) fits given = index_takes bytes es fits given
is_found bytes (Err fault) fits given = tt

pub is_fault : (bytes : List ℕ) (result : Result (List Entry) IndexFault) → IsBytes bytes → Gives result (index_of bytes) → IfErr result (IsIndexFault bytes)
is_fault bytes (Ok es) fits given = tt
is_fault bytes (Err (NoEntry at)) fits given = index_stops bytes at fits given
is_fault bytes (Err NoMemory) fits given = tt

pub is_only : (bytes : List ℕ) (result : Result (List Entry) IndexFault) → Gives result (index_of bytes) → (es : List Entry) → AreEntries bytes es → Gives result (Ok es)
is_only bytes result given es are = subst (Gives result) (index_again bytes es are) given
