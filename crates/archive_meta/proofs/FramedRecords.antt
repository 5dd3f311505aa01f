-- Records framed one behind another, and the first that is too long.
use Rattle.std.proofs.Common.{◌≡◌, ℕ, ℤ, ◌+◌, ◌≤◌, Bool, true, false, cond, ltb, List, [], ◌∷◌, ◌++◌, length, map, drop, Some, None, Result, Ok, Err, refl, sym, ap, ◌∙◌, subst, append_assoc, arith}
use Rattle.std.specs.Prelude.{option_to_list, slice_get, IfOk, IfErr, MatchResult}
use Rattle.std.specs.List.{AllByRecursion}
use Rattle.std.specs.Result.{IsErrAnd}
use Rattle.std.proofs.lemmas.Bool.{lt-ltb, le-ltb}
use Rattle.std.proofs.lemmas.List.{drop_all}
use Rattle.std.proofs.lemmas.Result.{err_from_is_err_and}
use Rattle.pcp_base.specs.Time.{Moment}
use Rattle.pcp_base.specs.declared.desc.Desc.{Desc}
use Rattle.pcp_base.specs.declared.result.PmResult.{PmResult}
use Rattle.pcp_model.specs.declared.records.MetaRecord.{MetaRecord}
use Rattle.pcp_model.specs.declared.records.MetaRecord.TheVariants.{Description, Domain, Other}
use Rattle.pcp_model.specs.Frame.{frame}
use Rattle.pcp_model.specs.Records.{description, domain, DescriptionInRange, IsDomain}
use Rattle.pcp_model.specs.Words.{word}
use Rattle.pcp_model.proofs.Lengths.{length-frame}
use Rattle.pcp_model.proofs.Spelled.{length-description, length-domain}
use Rattle.archive_meta.specs.Records.{AreRecords}
use Rattle.archive_meta.specs.declared.facts.Facts.{Facts}
use Rattle.archive_meta.specs.declared.facts.RecordsFault.{RecordsFault}
use Rattle.archive_meta.specs.declared.facts.RecordsFault.TheVariants.{Large, NoMemory}
use Rattle.archive_meta.specs.Missing.{IsSpelled, missing_descriptions, domains_of, AreMissingDomains, AreMissing, framed_record, framed_records, large_length, IsLarge, IsLargeOf, AreMade, IsRecordsFault, at_positions}

-- a payload between its length words
pub framed_out : (old payload a b c : List ℕ) (n : ℕ) → n ≡ length payload + 8 → a ≡ old ++ word n → b ≡ a ++ payload → c ≡ b ++ word n → c ≡ old ++ frame payload
unfolding frame
framed_out old payload a b c n size first mid last =
    last ∙ ap (λ l. l ++ word n) (mid ∙ ap (λ l. l ++ payload) first ∙ append_assoc old (word n) payload)
    ∙ append_assoc old (word n ++ payload) (word n) ∙ ap (λ l. old ++ l) (append_assoc (word n) payload (word n))
    ∙ ap (λ m. old ++ (word m ++ (payload ++ word m))) size

framed_append : (xs ys : List MetaRecord) → framed_records (xs ++ ys) ≡ framed_records xs ++ framed_records ys
framed_append [] ys = refl
framed_append (x ∷ xs) ys = ap (λ l. framed_record x ++ l) (framed_append xs ys) ∙ sym (append_assoc (framed_record x) (framed_records xs) (framed_records ys))

large_none : (xs ys : List MetaRecord) → large_length xs ≡ None → large_length (xs ++ ys) ≡ large_length ys
large_none [] ys e = refl
large_none (x ∷ xs) ys e = by (ltb 16777216 (length (framed_record x))) e (large_none xs ys)
  where
    by : (b : Bool) → cond b (Some (length (framed_record x))) (large_length xs) ≡ None → (large_length xs ≡ None → large_length (xs ++ ys) ≡ large_length ys)
        → cond b (Some (length (framed_record x))) (large_length (xs ++ ys)) ≡ large_length ys
    by true f more = absurd cc
    by false f more = more f

large_some : (xs ys : List MetaRecord) (n : ℕ) → large_length xs ≡ Some n → large_length (xs ++ ys) ≡ Some n
large_some [] ys n e = absurd cc
large_some (x ∷ xs) ys n e = by (ltb 16777216 (length (framed_record x))) e (large_some xs ys n)
  where
    by : (b : Bool) → cond b (Some (length (framed_record x))) (large_length xs) ≡ Some n → (large_length xs ≡ Some n → large_length (xs ++ ys) ≡ Some n)
        → cond b (Some (length (framed_record x))) (large_length (xs ++ ys)) ≡ Some n
    by true f more = f
    by false f more = more f

-- spelled records are read
pub spelled_read : (rs : List MetaRecord) → AllByRecursion IsSpelled rs → AreRecords (framed_records rs) rs
spelled_read [] h = record { payloads = []; read = tt; is = refl }
spelled_read (Description d names ∷ rs) h =
    let more : AreRecords (framed_records rs) rs = spelled_read rs h.1 in
    record { payloads = description d names ∷ more.payloads; read = (h.0.0, h.0.1, more.read); is = ap (λ t. frame (description d names) ++ t) more.is }
spelled_read (Domain t indom pairs ∷ rs) h =
    let more : AreRecords (framed_records rs) rs = spelled_read rs h.1 in
    record { payloads = domain t indom pairs ∷ more.payloads; read = (h.0.0, h.0.1, more.read); is = ap (λ l. frame (domain t indom pairs) ++ l) more.is }
spelled_read (Other ∷ rs) h = absurd h.0

both_spelled : (xs ys : List MetaRecord) → AllByRecursion IsSpelled xs → AllByRecursion IsSpelled ys → AllByRecursion IsSpelled (xs ++ ys)
both_spelled [] ys p q = q
both_spelled (x ∷ xs) ys p q = (p.0, both_spelled xs ys p.1 q)

-- the two spellings
pub description_spelled : (d : Desc) (name : List ℕ) → length (frame (description d (name ∷ []))) ≤ 16777216 → DescriptionInRange d (name ∷ []) → IsSpelled (Description d (name ∷ []))
description_spelled d name fits range =
    let p : List ℕ = description d (name ∷ []) in
    let long : length p ≡ 28 + (4 + length name + 0) = length-description d (name ∷ []) in
    (record { least = omega arith; most = omega (arith, length-frame p) }, (range, refl))

pub domain_spelled : (t : Moment) (indom : ℕ) (pairs : List (ℤ × List ℕ)) → length (frame (domain t indom pairs)) ≤ 16777216 → IsDomain (domain t indom pairs) t indom pairs → IsSpelled (Domain t indom pairs)
domain_spelled t indom pairs fits range =
    let p : List ℕ = domain t indom pairs in
    (record { least = omega (arith, length-domain t indom pairs); most = omega (arith, length-frame p) }, range)

-- ---- one record more is put

pub record IsPut (out total : List ℕ) (rest all : List MetaRecord) : Type 0 where
  pub whole : out ++ framed_records rest ≡ total
  pub large : large_length rest ≡ large_length all

module _ {V : Type 0} (told : V → MetaRecord) (vs : List V) (positions : List ℕ) (i position : ℕ) (next_is : drop i positions ≡ position ∷ drop (i + 1) positions) where
  abbrev later : List MetaRecord
  later = map told (at_positions vs (drop (i + 1) positions))

  abbrev now_and_later : List MetaRecord
  now_and_later = map told (at_positions vs (drop i positions))

  some_first : (v : V) → Some v ≡ slice_get vs position → now_and_later ≡ told v ∷ later
  some_first v e =
      ap (λ ps. map told (at_positions vs ps)) next_is ∙ ap (λ o. map told (option_to_list o ++ at_positions vs (drop (i + 1) positions))) (sym e)

  none_first : None ≡ slice_get vs position → now_and_later ≡ later
  none_first e =
      ap (λ ps. map told (at_positions vs ps)) next_is ∙ ap (λ o. map told (option_to_list o ++ at_positions vs (drop (i + 1) positions))) (sym e)

  pub put_some : (v : V) (out next whole : List ℕ) (all : List MetaRecord) → Some v ≡ slice_get vs position → next ≡ out ++ framed_record (told v) → length (framed_record (told v)) ≤ 16777216
      → out ++ framed_records now_and_later ≡ whole → large_length now_and_later ≡ large_length all → IsPut next whole later all
  put_some v out next whole all e is fits w l = record {
    whole = ap (λ x. x ++ framed_records later) is ∙ append_assoc out (framed_record (told v)) (framed_records later) ∙ ap (λ rs. out ++ framed_records rs) (sym (some_first v e)) ∙ w;
    large =
        ap (λ b. cond b (Some (length (framed_record (told v)))) (large_length later)) (sym (le-ltb 16777216 (length (framed_record (told v))) fits))
        ∙ ap large_length (sym (some_first v e)) ∙ l;
  }

  pub put_none : (out next whole : List ℕ) (all : List MetaRecord) → None ≡ slice_get vs position → next ≡ out → out ++ framed_records now_and_later ≡ whole → large_length now_and_later ≡ large_length all → IsPut next whole later all
  put_none out next whole all e is w l = record {
    whole = ap (λ x. x ++ framed_records later) is ∙ ap (λ rs. out ++ framed_records rs) (sym (none_first e)) ∙ w;
    large = ap large_length (sym (none_first e)) ∙ l;
  }

  pub read_some : (v : V) (all : List MetaRecord) → Some v ≡ slice_get vs position → IsSpelled (told v) → (AllByRecursion IsSpelled now_and_later → AllByRecursion IsSpelled all) → AllByRecursion IsSpelled later → AllByRecursion IsSpelled all
  read_some v all e here on more = on (subst (AllByRecursion IsSpelled) (sym (some_first v e)) (here, more))

  pub read_none : (all : List MetaRecord) → None ≡ slice_get vs position → (AllByRecursion IsSpelled now_and_later → AllByRecursion IsSpelled all) → AllByRecursion IsSpelled later → AllByRecursion IsSpelled all
  read_none all e on more = on (subst (AllByRecursion IsSpelled) (sym (none_first e)) more)

  pub put_large : (v : V) (all : List MetaRecord) (e : RecordsFault) → Some v ≡ slice_get vs position → large_length now_and_later ≡ large_length all → IsLarge (length (framed_record (told v))) e → IsLargeOf all e
  put_large v all (Large bytes) here l large = (
    length (framed_record (told v)),
    sym l ∙ ap large_length (some_first v here) ∙ ap (λ b. cond b (Some (length (framed_record (told v)))) (large_length later)) (lt-ltb 16777216 (length (framed_record (told v))) large.0),
    large.1,
  )
  put_large v all NoMemory here l large = tt

-- nothing is left
pub read_all : {V : Type 0} (told : V → MetaRecord) (vs : List V) (positions : List ℕ) (i : ℕ) (all : List MetaRecord) → length positions ≤ i
    → (AllByRecursion IsSpelled (map told (at_positions vs (drop i positions))) → AllByRecursion IsSpelled all) → AllByRecursion IsSpelled all
read_all told vs positions i all past on = on (subst (λ ps. AllByRecursion IsSpelled (map told (at_positions vs ps))) (sym (drop_all i positions past)) tt)

-- ---- all that is missing

module _ (records : List MetaRecord) (facts : Facts) (answer : PmResult) (ds ms : List MetaRecord) (first : ds ≡ missing_descriptions records facts.metrics answer.sets)
    (last : AreMissingDomains records answer.stamp (domains_of facts answer.sets) ms) where
  both_missing : AreMissing records facts answer (ds ++ ms)
  both_missing = record { domains = ms; lacking = last; is = ap (λ l. l ++ ms) first }

  pub both_made : (empty mid out : List ℕ) → empty ≡ [] → mid ≡ empty ++ framed_records ds → large_length ds ≡ None → out ≡ mid ++ framed_records ms → large_length ms ≡ None
      → AllByRecursion IsSpelled ds → AllByRecursion IsSpelled ms → AreMade records facts answer out
  both_made empty mid out none one fit two fits read reads =
      let same : out ≡ framed_records (ds ++ ms) = two ∙ ap (λ l. l ++ framed_records ms) (one ∙ ap (λ l. l ++ framed_records ds) none) ∙ sym (framed_append ds ms) in
      record {
        missing = ds ++ ms;
        needed = both_missing;
        fit = large_none ds ms fit ∙ fits;
        is = same;
        read = subst (λ b. AreRecords b (ds ++ ms)) (sym same) (spelled_read (ds ++ ms) (both_spelled ds ms read reads));
      }

  pub first_large : (e : RecordsFault) → IsLargeOf ds e → IsRecordsFault records facts answer e
  first_large (Large bytes) large = (ds ++ ms, both_missing, (large.0, large_some ds ms large.0 large.1, large.2))
  first_large NoMemory large = tt

  pub last_large : (e : RecordsFault) → large_length ds ≡ None → IsLargeOf ms e → IsRecordsFault records facts answer e
  last_large (Large bytes) fit large = (ds ++ ms, both_missing, (large.0, large_none ds ms fit ∙ large.1, large.2))
  last_large NoMemory fit large = tt

-- ---- what an outcome says, handed on

pub err_handed : {T E : Type 0} (r : Result T E) (e : E) (P : E → Type 0) → IsErrAnd r (λ y. y ≡ e) → P e → IfErr r P
err_handed r e P was h = let p = err_from_is_err_and r was in subst (λ x. IfErr x P) (sym p.1) (subst P (sym p.2) h)

pub match_handed : {T E : Type 0} (r : Result T E) (e : E) (P : T → Type 0) (Q : E → Type 0) → IsErrAnd r (λ y. y ≡ e) → Q e → MatchResult r P Q
match_handed r e P Q was h = let p = err_from_is_err_and r was in subst (λ x. MatchResult x P Q) (sym p.1) (subst Q (sym p.2) h)

pub ok_then : {T E : Type 0} (r : Result T E) (P Q : T → Type 0) → IfOk r P → ((x : T) → P x → Q x) → IfOk r Q
ok_then (Ok x) P Q h f = f x h
ok_then (Err e) P Q h f = tt
