-- Rows of words and of tokens that loops make, and what closing a region gives.
use Rattle.std.proofs.Common.{◌≡◌, ◌≢◌, ℕ, zero, suc, ◌+◌, ◌<◌, List, [], ◌∷◌, ◌++◌, length, set, slice_index, get_or-set_same, get_or-set_other, ext_get_or, add-zero, add-one, sym, refl, ap, ◌∙◌, subst, arith}
use mathlib.Core.Option.{some}
use mathlib.Core.Logic.{dite}
use native.Mathlib.Decide.{ℕ_discrete}
use lib.ListN.{get_elem?}
use Rattle.atomic_table.specs.declared.shared.Seat.{Seat}
use Rattle.region_core.specs.declared.act.Entry.{Entry}
use Rattle.region_core.specs.Shape.{Shaping}
use Rattle.region_core.specs.State.{State, opening}
use Rattle.region_core.specs.Journal.{state, IsJournal}
use Rattle.region_core.proofs.Lists.{get_or_at}
use Rattle.region_core.proofs.Runs.{wide_run}
use Rattle.region_rule.specs.declared.view.View.{View}
use Rattle.region_rule.specs.declared.view.Role.TheVariants.{Numbered}
use Rattle.region_rule.specs.Views.{table_words, opening_of, Owns, IsOneJournal, fresh_view}
use Rattle.region_rule.specs.Seats.{MadeRegion, Token, token_of}
use Rattle.region_rule.specs.Calls.{fresh_from, Closes}
use Rattle.region_rule.proofs.Keeps.{numbered, none_kept}

-- what stands at a position is what an index finds
index_at : (l : List ℕ) (i n : ℕ) → get_elem? l i ≡ some n → slice_index l i ≡ n
index_at [] i n e = absurd (cc)
index_at (x ∷ xs) zero n e = get_or_at (x ∷ xs) zero n e
index_at (x ∷ xs) (suc i) n e = index_at xs i n e

-- the first words are those behind the gate
pub copied : (cells words : List ℕ) (i n : ℕ) → ((k : ℕ) → k < i → slice_index words k ≡ slice_index cells (k + 1)) → i < length words → get_elem? cells (i + 1) ≡ some n
    → (k : ℕ) → k < i + 1 → slice_index (set words i n) k ≡ slice_index cells (k + 1)
copied cells words i n before below there k h = dite (ℕ_discrete k i)
    (λ (e : k ≡ i). subst (λ (j : ℕ). slice_index (set words i n) j ≡ slice_index cells (j + 1)) (sym e) (get_or-set_same words i n 0 below ∙ sym (index_at cells (i + 1) n there)))
    (λ (ne : k ≢ i). get_or-set_other words i k n 0 ne ∙ before k (omega arith))

-- and all of them
pub whole : (cells words : List ℕ) → length cells ≡ length words + 1 → ((k : ℕ) → k < length words → slice_index words k ≡ slice_index cells (k + 1)) → cells ≡ slice_index cells 0 ∷ words
whole cells words wide each = ext_get_or 0 cells (slice_index cells 0 ∷ words) (omega arith) same
  where
    same : (i : ℕ) → i < length cells → slice_index cells i ≡ slice_index (slice_index cells 0 ∷ words) i
    same zero h = refl
    same (suc i) h = ap (λ (j : ℕ). slice_index cells j) (sym (add-one i)) ∙ sym (each i (omega arith))

-- one more fresh pass
pub fresh_more : (region : MadeRegion) (k n m : ℕ) → m ≡ k + n → fresh_from region k n ++ record { region = region; view = fresh_view region.words region.passes m [] } ∷ [] ≡ fresh_from region k (suc n)
fresh_more region k zero m e = ap (λ (j : ℕ). record { region = region; view = fresh_view region.words region.passes j [] } ∷ []) (e ∙ add-zero k)
fresh_more region k (suc n) m e = ap (λ (ts : List Token). record { region = region; view = fresh_view region.words region.passes k [] } ∷ ts) (fresh_more region (suc k) n m (omega arith))

pub fresh_token : (seat : Seat (Unit {0}) View) (region : MadeRegion) (k : ℕ) → seat.table_id ≡ region.table → seat.me ≡ (fresh_view region.words region.passes k [], []) → token_of seat ≡ record { region = region; view = fresh_view region.words region.passes k [] }
fresh_token seat region k e m = λ i. record { region = record { table = e i; words = (m i).0.start; passes = (m i).0.passes }; view = (m i).0 }

-- the words at a region's end, and what its closing pass may say of them
pub closes : (S : Shaping) (words : List ℕ) (passes : ℕ) (cells : List ℕ) (views : List View) (id gate : ℕ) (v : View) (image : List ℕ) → IsOneJournal S words passes cells views → get_elem? views id ≡ some v → v.role ≡ Numbered
    → v.start ≡ words → v.passes ≡ passes → cells ≡ gate ∷ image → Closes S v image
closes S words passes cells views id gate v image kept at is start count are =
    let own_rest = numbered words passes kept.log v is (kept.fits id v at) in
    let o : Owns words passes kept.log own_rest.0 v = own_rest.1 in
    let last : State = state (opening_of v) (v.seen ++ own_rest.0) in
    let here : IsJournal S v.start v.passes (v.seen ++ own_rest.0) =
    subst (λ (p : ℕ). IsJournal S v.start p (v.seen ++ own_rest.0)) (sym count)
    (subst (λ (ws : List ℕ). IsJournal S ws passes (v.seen ++ own_rest.0)) (sym start) (subst (λ (es : List Entry). IsJournal S words passes es) o.sees.is kept.journal)) in
    let same : state (opening words passes) kept.log ≡ last = (λ i. state (opening (sym start i) (sym count i)) kept.log) ∙ ap (λ (es : List Entry). state (opening_of v) es) o.sees.is in
    let found : gate ∷ image ≡ table_words last = sym are ∙ kept.is ∙ ap (λ (s : State). table_words s) same in
    let words_are : image ≡ last.words = cc in
    record { rest = own_rest.0; journal = here; is = words_are; whole = ap (λ (ws : List ℕ). length ws) words_are ∙ wide_run (opening_of v) (v.seen ++ own_rest.0); others = o.none; gathered_none = none_kept (opening words passes) v.seen own_rest.0 v.kept o.kept }
