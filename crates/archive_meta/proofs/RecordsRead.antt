-- What is read of a record is what it says, and what it says is read.
use Rattle.std.proofs.Common.{◌≡◌, ◌≢◌, ℕ, ◌<◌, ◌≤◌, Bool, true, false, cond, eqb, ltb, List, ◌++◌, length, take, drop, Option, Some, None, refl, sym, ap, ◌∙◌, subst, append_assoc, arith}
use Rattle.std.specs.Prelude.{IfSome, MatchOption, IfOk, Result, Ok, Err}
use Rattle.std.specs.Int.{w32, from_be_bytes}
use Rattle.std.proofs.lemmas.Bool.{eqb-true, eqb-false, ne_eqb, ltb-false, le-ltb}
use Rattle.pcp_base.proofs.Bytes.{IsBytes}
use Rattle.pcp_base.specs.Fields.{be_field}
use Rattle.pcp_base.specs.Time.{Moment}
use Rattle.pcp_model.specs.Words.{word}
use Rattle.pcp_model.specs.declared.records.MetaRecord.{MetaRecord}
use Rattle.pcp_model.specs.declared.records.MetaRecord.TheVariants.{Description, Domain, Other}
use Rattle.pcp_model.specs.Records.{IsRecord, description, domain_head, word_bytes, instance_words}
use Rattle.pcp_model.specs.Instances.{◌>>=◌}
use Rattle.archive_meta.specs.Decoding.{description_in, domain_in, record_in, stamp_in, stamped_in}
use Rattle.archive_meta.specs.Stamped.{IsStamped}
use Rattle.pcp_model.proofs.ZeroBytes.{bind_some, some_is, past, only}
use Rattle.pcp_model.proofs.Fields.{WordStands, field_takes, field_again, behind_word}
use Rattle.archive_meta.proofs.DescriptionsRead.{description_takes, description_again}
use Rattle.archive_meta.proofs.DomainsRead.{StampRead, stamp_takes, stamp_again, domain_takes, domain_again}

abbrev by_first : List ℕ → ℕ → Option MetaRecord
by_first bytes first =
    cond (eqb first 1) (description_in bytes >>= λ d. Some (Description d.0 d.1)) (cond (eqb first 2) (domain_in bytes >>= λ d. Some (Domain d.0 d.1 d.2)) (Some Other))

first_is : (bytes : List ℕ) (n : ℕ) → be_field w32 0 bytes ≡ Some n → (4 ≤ length bytes) × (from_be_bytes w32 (take 4 bytes) ≡ n)
first_is bytes n e =
    let g = past (ltb (length bytes) 4) (Some (from_be_bytes w32 (take 4 bytes))) n e in (ltb-false _ _ g.0, some_is _ _ g.1)

other_takes : (bytes : List ℕ) (n : ℕ) (r : MetaRecord) → be_field w32 0 bytes ≡ Some n → n ≢ 1 → n ≢ 2 → Some Other ≡ Some r → IsRecord bytes r
other_takes bytes n r e one two x =
    let f = first_is bytes n e in
    subst (IsRecord bytes) (some_is Other r x) (f.0, λ h. one (sym f.1 ∙ h), λ h. two (sym f.1 ∙ h))

domain_read : (bytes : List ℕ) (n : ℕ) (r : MetaRecord) → IsBytes bytes → be_field w32 0 bytes ≡ Some n → n ≡ 2 → (domain_in bytes >>= λ d. Some (Domain d.0 d.1 d.2)) ≡ Some r → IsRecord bytes r
domain_read bytes n r fits e two x =
    let d = bind_some (domain_in bytes) (λ d. Some (Domain d.0 d.1 d.2)) r x in
    subst (IsRecord bytes) (some_is _ _ d.2) (domain_takes bytes d.0.0 d.0.1 d.0.2 fits (field_takes bytes 0 4 2 fits refl (subst (λ k. be_field w32 0 bytes ≡ Some k) two e)) d.1)

description_read : (bytes : List ℕ) (n : ℕ) (r : MetaRecord) → IsBytes bytes → be_field w32 0 bytes ≡ Some n → n ≡ 1 → (description_in bytes >>= λ d. Some (Description d.0 d.1)) ≡ Some r → IsRecord bytes r
description_read bytes n r fits e one x =
    let d = bind_some (description_in bytes) (λ d. Some (Description d.0 d.1)) r x in
    subst (IsRecord bytes) (some_is _ _ d.2) (description_takes bytes d.0.0 d.0.1 fits (field_takes bytes 0 4 1 fits refl (subst (λ k. be_field w32 0 bytes ≡ Some k) one e)) d.1)

second : (bytes : List ℕ) (n : ℕ) (r : MetaRecord) (b : Bool) → eqb n 2 ≡ b → IsBytes bytes → be_field w32 0 bytes ≡ Some n → n ≢ 1 → cond b (domain_in bytes >>= λ d. Some (Domain d.0 d.1 d.2)) (Some Other) ≡ Some r → IsRecord bytes r
second bytes n r true is fits e one x = domain_read bytes n r fits e (eqb-true n 2 is) x
second bytes n r false is fits e one x = other_takes bytes n r e one (eqb-false n 2 is) x

first : (bytes : List ℕ) (n : ℕ) (r : MetaRecord) (b : Bool) → eqb n 1 ≡ b → IsBytes bytes → be_field w32 0 bytes ≡ Some n
    → cond b (description_in bytes >>= λ d. Some (Description d.0 d.1)) (cond (eqb n 2) (domain_in bytes >>= λ d. Some (Domain d.0 d.1 d.2)) (Some Other)) ≡ Some r → IsRecord bytes r
first bytes n r true is fits e x = description_read bytes n r fits e (eqb-true n 1 is) x
first bytes n r false is fits e x = second bytes n r (eqb n 2) refl fits e (eqb-false n 1 is) x

record_takes : (bytes : List ℕ) (r : MetaRecord) → IsBytes bytes → record_in bytes ≡ Some r → IsRecord bytes r
unfolding record_in
record_takes bytes r fits x =
    let a = bind_some (be_field w32 0 bytes) (by_first bytes) r x in first bytes a.0 r (eqb a.0 1) refl fits a.1 a.2

record_again : (bytes : List ℕ) (r : MetaRecord) → length bytes < 4294967296 → IsRecord bytes r → record_in bytes ≡ Some r
unfolding record_in description
record_again bytes (Description d names) few is =
    ap (λ o. o >>= by_first bytes) (field_again bytes 0 1 _ (omega arith) is.1) ∙ ap (λ o. o >>= λ y. Some (Description y.0 y.1)) (description_again bytes d names is.0 is.1)
record_again bytes (Domain t indom pairs) few is =
    let rest : List ℕ = word t.sec ++ (word t.usec ++ (word indom ++ (word (length pairs) ++ (instance_words pairs ++ (word_bytes is.offsets ++ is.table))))) in
    let cut : drop 0 bytes ≡ word 2 ++ rest = is.is ∙ (let e : domain_head t indom pairs is.offsets ++ is.table ≡ word 2 ++ rest = simp append_assoc in e) in
    ap (λ o. o >>= by_first bytes) (field_again bytes 0 2 rest (omega arith) cut) ∙ ap (λ o. o >>= λ y. Some (Domain y.0 y.1 y.2)) (domain_again bytes t indom pairs few is)
record_again bytes Other few is =
    let n : ℕ = from_be_bytes w32 (take 4 bytes) in
    let read : be_field w32 0 bytes ≡ Some n = ap (λ b. cond b None (Some n)) (le-ltb (length bytes) 4 is.0) in
    ap (λ o. o >>= by_first bytes) read ∙ ap (λ b. cond b (description_in bytes >>= λ d. Some (Description d.0 d.1)) (cond (eqb n 2) (domain_in bytes >>= λ d. Some (Domain d.0 d.1 d.2)) (Some Other))) (ne_eqb n 1 is.1)
    ∙ ap (λ b. cond b (domain_in bytes >>= λ d. Some (Domain d.0 d.1 d.2)) (Some Other)) (ne_eqb n 2 is.2)

found_is : (bytes : List ℕ) (found : Option MetaRecord) → IsBytes bytes → found ≡ record_in bytes → IfSome found (IsRecord bytes)
found_is bytes (Some r) fits e = record_takes bytes r fits (sym e)
found_is bytes None fits e = tt

only_is : (bytes : List ℕ) (found : Option MetaRecord) (r : MetaRecord) → length bytes < 4294967296 → IsRecord bytes r → found ≡ record_in bytes → found ≡ Some r
only_is bytes found r few is e = e ∙ record_again bytes r few is

pub all_found : {E : Type 0} (bytes : List ℕ) (result : Result (Option MetaRecord) E) → IsBytes bytes → IfOk result (λ found. found ≡ record_in bytes) → IfOk result (λ found. IfSome found (IsRecord bytes))
all_found bytes (Ok found) fits e = found_is bytes found fits e
all_found bytes (Err f) fits e = tt

pub all_only : {E : Type 0} (bytes : List ℕ) (result : Result (Option MetaRecord) E) (r : MetaRecord) → length bytes < 4294967296 → IsRecord bytes r → IfOk result (λ found. found ≡ record_in bytes) → IfOk result (λ found. found ≡ Some r)
all_only bytes (Ok found) r few is e = only_is bytes found r few is e
all_only bytes (Err f) r few is e = tt

-- ---- the stamp alone

stamped_takes : (bytes : List ℕ) (t : Moment) → IsBytes bytes → stamped_in bytes ≡ Some t → IsStamped bytes t
unfolding stamped_in
stamped_takes bytes t fits x =
    let a = bind_some (be_field w32 0 bytes) (λ n. cond (eqb n 2) (stamp_in bytes) None) t x in
    let g = only (eqb a.0 2) (stamp_in bytes) t a.2 in
    let w : WordStands bytes 0 4 2 = field_takes bytes 0 4 2 fits refl (subst (λ k. be_field w32 0 bytes ≡ Some k) (eqb-true a.0 2 g.0) a.1) in
    let s : StampRead bytes t = stamp_takes bytes t fits g.1 in
    record { moment = s.moment; rest = drop 12 bytes; is = w.is ∙ ap (λ y. word 2 ++ y) (s.sec.is ∙ ap (λ y. word t.sec ++ y) s.usec.is) }

stamped_again : (bytes : List ℕ) (t : Moment) → IsStamped bytes t → stamped_in bytes ≡ Some t
unfolding stamped_in
stamped_again bytes t s =
    ap (λ o. o >>= λ n. cond (eqb n 2) (stamp_in bytes) None) (field_again bytes 0 2 _ (omega arith) s.is)
    ∙ stamp_again bytes t s.rest s.moment (behind_word bytes 0 4 2 _ refl s.is)

pub stamped_is : (bytes : List ℕ) (found : Option Moment) → IsBytes bytes → found ≡ stamped_in bytes → MatchOption found ((t : Moment) → IsStamped bytes t → ⊥) (IsStamped bytes)
stamped_is bytes (Some t) fits e = stamped_takes bytes t fits (sym e)
stamped_is bytes None fits e = λ t s. let both : None ≡ Some t = e ∙ stamped_again bytes t s in absurd cc
