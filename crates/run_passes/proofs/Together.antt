-- Writers beside each other: what each made, all made.
use Rattle.std.proofs.Common.{◌≡◌, ℕ, zero, suc, Bool, true, false, ◌&&◌, List, [], ◌∷◌, ◌++◌, length, replicate, take, Result, Ok, Err, sym, refl, ap, ◌∙◌, subst, arith}
use Rattle.std.specs.Prelude.{OnOk, is_ok}
use Rattle.std.specs.Bool.{OnTrue}
use Rattle.std.specs.Global.{Vec}
use Rattle.std.specs.List.{AllByRecursion}
use Rattle.region_rule.specs.Seats.{Token}
use Rattle.fetch_engine.specs.declared.server.Mounted.{Mounted}
use Rattle.run_script.specs.declared.script.Script.{Script}
use Rattle.run_passes.specs.Dealing.{AreDealt, AreEmptied, all_back, lists_of}
use Rattle.run_passes.specs.Hands.{IsHand, KnownHand}
use Rattle.run_passes.specs.Written.{AreReady, AreSame, AreWritten, HaveComeBack, HaveWritten}
use Rattle.run_passes.proofs.HandsDealt.{all_from, have_written, is_hand, none_of, nothing_left, ready_again}

pub same_refl : (hands : List KnownHand) → AreSame hands hands
same_refl [] = tt
same_refl (hand ∷ hands) = (record { number = refl; as_many = refl; absent = λ j e. e; present = λ j before e. (before, e) }, same_refl hands)

pub written_none : (script : Script) (server : List Mounted) (hands : List KnownHand) → length hands ≡ 0 → AreWritten script server hands hands
written_none script server hands e = subst (λ (l : List KnownHand). AreWritten script server l l) (sym (nothing_left hands e)) tt

-- a call that answers whether memory sufficed
pub where_ok : {A E : Type 0} (P : Type 0) (r : Result A E) (b : Bool) → b ≡ is_ok r → OnOk r P → OnTrue b P
where_ok P (Ok x) true e p = p
where_ok P (Err f) true e p = absurd (cc)
where_ok P r false e p = tt

pub both_well : (P Q R : Type 0) (a b : Bool) → (P → Q → R) → OnTrue a P → OnTrue b Q → OnTrue (a && b) R
both_well P Q R true true f p q = f p q
both_well P Q R true false f p q = tt
both_well P Q R false b f p q = tt

pub all_hands : (script : Script) (server : List Mounted) (lists : List (Vec Token)) (hands : List KnownHand) → AreReady script server lists → AreDealt lists hands → AllByRecursion (IsHand script server) hands
all_hands script server lists hands ready dealt = all_from (IsHand script server) hands (λ k hand e. is_hand script server lists ready hands dealt k hand e)

-- what is given back, and that each wrote its lines where memory sufficed
pub record GivenBack (script : Script) (server : List Mounted) (lists : List (Vec Token)) (back : List (Vec Token)) (old new : List KnownHand) : Type 0 where
  pub come : HaveComeBack script server lists back
  pub written : AreWritten script server old new → HaveWritten script server lists back

pub given_back : (script : Script) (server : List Mounted) (lists left back : List (Vec Token)) (old new : List KnownHand) → AreReady script server lists → AreDealt lists old → AreEmptied lists left → AllByRecursion (IsHand script server) new → AreSame old new
    → lists_of back ≡ all_back (lists_of left) new → GivenBack script server lists back old new
given_back script server lists left back old new ready dealt emptied hands same is =
    let is_back : lists_of back ≡ all_back (replicate (length lists) []) new = is ∙ ap (λ (l : List (List Token)). all_back l new) (none_of lists left emptied) in
    record {
      come = record { ready = ready_again script server lists ready old new dealt hands same back is_back };
      written = λ written. have_written script server lists ready old new dealt hands same back is_back written;
    }

pub on_true : {P Q : Type 0} (b : Bool) → (P → Q) → OnTrue b P → OnTrue b Q
on_true true f p = f p
on_true false f p = tt

-- hands that were lent as a slice
take_whole : {A : Type 0} (xs ys : List A) (n : ℕ) → length xs ≡ n → take n (xs ++ ys) ≡ xs
take_whole [] ys zero e = refl
take_whole [] ys (suc n) e = absurd (omega arith)
take_whole (x ∷ xs) ys zero e = absurd (omega arith)
take_whole {A} (x ∷ xs) ys (suc n) e = ap (λ (l : List A). x ∷ l) (take_whole xs ys n (omega arith))

pub lent_whole : (hands rest : List KnownHand) (n : ℕ) → length hands ≡ n → take n (hands ++ rest) ≡ hands
lent_whole hands rest n long = take_whole hands rest n long
