-- An input of whole PDUs, with a moment for each fetch, is answered to its end.
use Rattle.std.proofs.Common.{◌≡◌, ◌⊎◌, inl, inr, ℕ, suc, ◌+◌, ◌<◌, ◌≤◌, Bool, true, false, List, [], ◌∷◌, ◌++◌, length, take, drop, Option, Some, None, refl, sym, ap, ◌∙◌, subst, append_assoc, cond, arith}
use Rattle.std.specs.Prelude.{bytes_eq, filter}
use Rattle.std.specs.Int.{w32, from_be_bytes}
use Rattle.std.specs.List.{AllByRecursion}
use Rattle.std.proofs.lemmas.List.{append-nil, length-append, take-append-le, take_at, drop_at}
use Rattle.pcp_base.specs.Time.{Moment}
use Rattle.pcp_model.specs.Words.{word}
use Rattle.pcp_outside.specs.declared.doors.SessionEnd.{SessionEnd}
use Rattle.pcp_outside.specs.declared.doors.SessionEnd.TheVariants as ends
use Rattle.pdu_codec.specs.declared.pdu.Pdu.{Pdu}
use Rattle.pdu_codec.specs.declared.pdu.Pdu.TheVariants as pdus
use Rattle.pdu_codec.specs.Bodies.{IsPdu as IsPduOf}
use Rattle.pdu_stream.specs.Streams.{length_word, IsPdu, IsBegun, IsBad, IsStop, Splits, bytes_of_pdus}
use Rattle.pdu_stream.proofs.OneWay.{same}
use Rattle.pdu_stream.proofs.Pieces.{behind, longer, bad_longer}
use Rattle.pmcd_session.specs.declared.standing.Standing.{Standing}
use Rattle.pmcd_session.specs.Serving.{AsksTheClock, Asks, Deed, Deeds, DoesAll, Reaches, ReadsBy, needs_moment}
use Rattle.pmcd_session.specs.Sessions.{Completes, Ends, History, IsCaused, Runs, session_start, is_fetch, most_taken}
use Rattle.pcp_outside.specs.Sides.{SourceSide, SinkSide, ClockSide}
use Rattle.pmcd_session.proofs.Taking.{takes}

-- ---- a PDU for which the clock is asked has the type of a fetch

typed : (pdu : List ℕ) (context sec usec : ℕ) (pmids : List ℕ) → IsPduOf pdu (pdus.Fetch context sec usec pmids) → is_fetch pdu ≡ true
unfolding word
typed pdu context sec usec pmids p =
    let rest : List ℕ = word p.from ++ p.body in
    let first : drop 4 pdu ≡ word 28675 ++ rest = ap (drop 4) p.is ∙ drop_at (word (12 + length p.body)) (word 28675 ++ rest) 4 refl in
    let type : take 4 (drop 4 pdu) ≡ word 28675 = ap (take 4) first ∙ take_at (word 28675) rest 4 refl in
    ap (λ (t : List ℕ). bytes_eq t (0 ∷ 0 ∷ 112 ∷ 3 ∷ [])) type

typed_if : (pdu : List ℕ) (met : Bool) (request : Option Pdu) → Asks pdu request → needs_moment met request ≡ true → is_fetch pdu ≡ true
typed_if pdu true (Some (pdus.Fetch context sec usec pmids)) asks needs = typed pdu context sec usec pmids asks
typed_if pdu false request asks needs = absurd (never needs)
  where
    never : false ≡ true → ⊥
    never e = cc
typed_if pdu true None asks needs = cc
typed_if pdu true (Some pdus.Creds) asks needs = cc
typed_if pdu true (Some (pdus.Profile context global parts)) asks needs = cc
typed_if pdu true (Some (pdus.DescReq pmid)) asks needs = cc
typed_if pdu true (Some (pdus.InstanceReq indom instance)) asks needs = cc
typed_if pdu true (Some (pdus.PmnsIds status pmids)) asks needs = cc
typed_if pdu true (Some (pdus.PmnsNames status names)) asks needs = cc
typed_if pdu true (Some (pdus.PmnsChild name)) asks needs = cc
typed_if pdu true (Some (pdus.PmnsTraverse name)) asks needs = cc
typed_if pdu true (Some (pdus.Error code)) asks needs = cc
typed_if pdu true (Some (pdus.Result answer)) asks needs = cc
typed_if pdu true (Some (pdus.Desc desc)) asks needs = cc
typed_if pdu true (Some (pdus.Instance indom pairs)) asks needs = cc

asks_is_fetch : {A : Type 0} (s : Standing A) (pdu : List ℕ) → AsksTheClock s pdu → is_fetch pdu ≡ true
asks_is_fetch s pdu a = typed_if pdu s.is_met a.request a.asks a.needs

-- ---- at most one moment is taken for each fetch

abbrev fetches : List (List ℕ) → ℕ
fetches pdus = length (filter is_fetch pdus)

one_counted : (pdu : List ℕ) (rest : List (List ℕ)) → is_fetch pdu ≡ true → fetches (pdu ∷ rest) ≡ suc (fetches rest)
one_counted pdu rest is = ap (λ (b : Bool). length (cond b (pdu ∷ filter is_fetch rest) (filter is_fetch rest))) is

not_fewer : (pdu : List ℕ) (rest : List (List ℕ)) → fetches rest ≤ fetches (pdu ∷ rest)
not_fewer pdu rest = by_test (is_fetch pdu)
  where
    by_test : (b : Bool) → length (filter is_fetch rest) ≤ length (cond b (pdu ∷ filter is_fetch rest) (filter is_fetch rest))
    by_test true = omega arith
    by_test false = omega arith

counted_both : (xs ys : List (List ℕ)) → fetches (xs ++ ys) ≡ fetches xs + fetches ys
counted_both [] ys = omega arith
counted_both (x ∷ xs) ys = by_test (is_fetch x) (counted_both xs ys)
  where
    by_test : (b : Bool) → length (filter is_fetch (xs ++ ys)) ≡ length (filter is_fetch xs) + length (filter is_fetch ys)
        → length (cond b (x ∷ filter is_fetch (xs ++ ys)) (filter is_fetch (xs ++ ys))) ≡ length (cond b (x ∷ filter is_fetch xs) (filter is_fetch xs)) + length (filter is_fetch ys)
    by_test true e = omega (arith, e)
    by_test false e = e

one_taken : {A : Type 0} (s : Standing A) (pdu : List ℕ) (moments : List Moment) (rest : List (List ℕ)) → Reaches s pdu moments → length moments + fetches rest ≤ fetches (pdu ∷ rest)
one_taken s pdu [] rest r = omega (arith, not_fewer pdu rest)
one_taken s pdu (moment ∷ []) rest r =
    let one : fetches (pdu ∷ rest) ≡ suc (fetches rest) = one_counted pdu rest (asks_is_fetch s pdu r) in
    omega (arith, one)
one_taken s pdu (moment ∷ (next ∷ more)) rest r = absurd r

all_taken : {A : Type 0} (reads : ReadsBy A) (s : Standing A) (pdus : List (List ℕ)) (d : Deeds A) → DoesAll reads s pdus d → length d.moments ≤ fetches pdus
unfolding DoesAll
all_taken {A = A} reads s [] d done =
    let none : length d.moments ≡ 0 = ap (λ (e : Deeds A). length e.moments) done in
    omega (arith, none)
all_taken {A = A} reads s (pdu ∷ rest) d h =
    let first : Deed A = h.0 in
    let later : Deeds A = h.1 in
    let both : length d.moments ≡ length first.moments + length later.moments = ap (λ (e : Deeds A). length e.moments) h.4 ∙ length-append first.moments later.moments in
    let one : length first.moments + fetches rest ≤ fetches (pdu ∷ rest) = one_taken s pdu first.moments rest (takes reads s pdu first h.2) in
    let more : length later.moments ≤ fetches rest = all_taken reads first.after rest later h.3 in
    omega (arith, both, one, more)

-- ---- PDUs at the front of a stream of whole PDUs are the first of it

pdu_first : (pdu more : List ℕ) → IsPdu pdu → length_word (pdu ++ more) ≡ length pdu
pdu_first pdu more p =
    let least : 12 ≤ length pdu = p.least in
    let four : 4 ≤ length pdu = omega arith in
    ap (from_be_bytes w32) (take-append-le 4 pdu more four) ∙ p.says

are_first : (xs ys : List (List ℕ)) (rest : List ℕ) → AllByRecursion IsPdu xs → AllByRecursion IsPdu ys → bytes_of_pdus xs ++ rest ≡ bytes_of_pdus ys → (more : List (List ℕ)) × (ys ≡ xs ++ more)
are_first [] ys rest a b e = (ys, refl)
are_first (x ∷ xs) [] rest a b e =
    let least : 12 ≤ length x = a.0.least in
    let none : length (x ++ (bytes_of_pdus xs ++ rest)) ≡ 0 = ap length (sym (append_assoc x (bytes_of_pdus xs) rest) ∙ e) in
    absurd (omega (arith, none, length-append x (bytes_of_pdus xs ++ rest)))
are_first (x ∷ xs) (y ∷ ys) rest a b e =
    let both : x ++ (bytes_of_pdus xs ++ rest) ≡ y ++ bytes_of_pdus ys = sym (append_assoc x (bytes_of_pdus xs) rest) ∙ e in
    let long : length x ≡ length y = sym (pdu_first x (bytes_of_pdus xs ++ rest) a.0) ∙ ap length_word both ∙ pdu_first y (bytes_of_pdus ys) b.0 in
    let front : x ≡ y = sym (take_at x (bytes_of_pdus xs ++ rest) (length y) long) ∙ ap (take (length y)) both ∙ take_at y (bytes_of_pdus ys) (length y) refl in
    let tail : bytes_of_pdus xs ++ rest ≡ bytes_of_pdus ys = sym (drop_at x (bytes_of_pdus xs ++ rest) (length y) long) ∙ ap (drop (length y)) both ∙ drop_at y (bytes_of_pdus ys) (length y) refl in
    let r = are_first xs ys rest a.1 b.1 tail in
    (r.0, ap (λ (p : List ℕ). p ∷ ys) (sym front) ∙ ap (λ (l : List (List ℕ)). x ∷ l) r.1)

-- ---- no other end

-- what was taken is all of the input, or a front of it
empty_begun : IsBegun []
empty_begun = inl (omega arith)

-- behind whole PDUs nothing stands
none_behind : (stream : List ℕ) (all xs : List (List ℕ)) (rest : List ℕ) (bad : Option ℕ) → Splits stream all [] → Splits stream xs rest → IsStop rest bad → rest ≡ []
none_behind stream all xs rest bad whole s stop = (same xs all rest [] bad None s.whole whole.whole stop empty_begun (sym s.is ∙ whole.is)).1

-- at a fetch without a moment there are more fetches than moments
too_few : {A : Type 0} (reads : ReadsBy A) (first : A) (input after taken : List ℕ) (left moments : List Moment) (all xs : List (List ℕ)) (fetch rest beyond replies : List ℕ) (s : Standing A)
    → Splits input all [] → fetches all ≤ length left → input ≡ taken ++ after → left ≡ moments → Splits taken xs rest → Splits rest (fetch ∷ []) beyond
    → DoesAll reads (session_start first) xs (record { moments = moments; written = replies; after = s }) → AsksTheClock s fetch → ⊥
too_few reads first input after taken left moments all xs fetch rest beyond replies s whole enough is same_moments split next does asks =
    let further : Splits (taken ++ after) (xs ++ fetch ∷ []) (beyond ++ after) = behind taken rest after (beyond ++ after) xs (fetch ∷ []) split (longer rest beyond after (fetch ∷ []) next) in
    let fronts = are_first (xs ++ fetch ∷ []) all (beyond ++ after) further.whole whole.whole (sym further.is ∙ sym is ∙ whole.is ∙ append-nil (bytes_of_pdus all)) in
    let count : fetches all ≡ (fetches xs + fetches (fetch ∷ [])) + fetches fronts.0 = ap fetches fronts.1 ∙ counted_both (xs ++ fetch ∷ []) fronts.0 ∙ ap (λ (n : ℕ). n + fetches fronts.0) (counted_both xs (fetch ∷ [])) in
    let one : fetches (fetch ∷ []) ≡ suc (fetches []) = one_counted fetch [] (asks_is_fetch s fetch asks) in
    let taken_all : length moments ≤ fetches xs = all_taken reads (session_start first) xs (record { moments = moments; written = replies; after = s }) does in
    let many : length left ≡ length moments = ap (λ (l : List Moment). length l) same_moments in
    omega (arith, enough, count, one, taken_all, many)

-- an input of which nothing is left was taken whole
all_of_it : (input taken after : List ℕ) → input ≡ taken ++ after → after ≡ [] → taken ≡ input
all_of_it input taken after is none = sym (append-nil taken) ∙ ap (λ (t : List ℕ). taken ++ t) (sym none) ∙ sym is

pub completes : {A : Type 0} (reads : ReadsBy A) (loads : A → A → Type 0) (first last : A) (source : SourceSide) (sink : SinkSide) (clock : ClockSide) (end : SessionEnd)
    → Runs reads loads first last source sink clock end → IsCaused source sink clock end → Completes source sink clock end
completes reads loads first last source sink clock end runs caused tells told input well = by_end end runs.ends caused
  where
    h : History
    h = runs.history

    enough : fetches input.pdus ≤ length clock.left
    enough = input.enough

    by_end : (e : SessionEnd) → Ends reads loads first h last e → IsCaused source sink clock e → (e ≡ ends.Closed) ⊎ (e ≡ ends.NoMemory)
    by_end ends.Closed o k = inl refl
    by_end ends.NoMemory o k = inr refl
    by_end (ends.Torn n) o k =
        let whole : Splits h.taken input.pdus [] = subst (λ (t : List ℕ). Splits t input.pdus []) (sym (all_of_it source.left h.taken source.after (runs.took tells) (k tells))) input.whole in
        let none : o.0 ≡ [] = none_behind h.taken input.pdus o.1.pdus o.0 None whole o.1.served.stream o.2 in
        let zero_long : length o.0 ≡ 0 = ap (λ (t : List ℕ). length t) none in
        absurd (omega (arith, zero_long, o.3, o.4))
    by_end (ends.BadLength found) o k =
        let whole : Splits (h.taken ++ source.after) input.pdus [] = subst (λ (t : List ℕ). Splits t input.pdus []) (runs.took tells) input.whole in
        let bad : IsBad (o.0 ++ source.after) found = bad_longer o.0 source.after found o.2 in
        let none : o.0 ++ source.after ≡ [] = none_behind (h.taken ++ source.after) input.pdus o.1.pdus (o.0 ++ source.after) (Some found) whole (longer h.taken o.0 source.after o.1.pdus o.1.served.stream) bad in
        let zero_long : length (o.0 ++ source.after) ≡ 0 = ap (λ (t : List ℕ). length t) none in
        let four : 4 ≤ length (o.0 ++ source.after) = bad.0 in
        absurd (omega (arith, zero_long, four))
    by_end ends.ReadFault o k = absurd (well.source_well k)
    by_end ends.WriteFault o k = absurd (well.sink_well k)
    by_end ends.ClockFault o k = absurd (well.clock_well k)
    by_end ends.ClockEnd o k =
        absurd (too_few reads first source.left source.after h.taken clock.left h.moments input.pdus o.pdus o.fetch o.rest o.beyond o.served.replies o.s
        input.whole enough (runs.took tells) (runs.asked told ∙ ap (λ (m : List Moment). h.moments ++ m) (k told) ∙ append-nil h.moments) o.served.stream o.next o.served.does o.asks)
    by_end ends.Spent o k =
        let long : length source.left ≡ length h.taken + length source.after = ap (λ (t : List ℕ). length t) (runs.took tells) ∙ length-append h.taken source.after in
        let most : length h.taken ≡ most_taken = o.3 in
        let few : length source.left < most_taken = input.few in
        absurd (omega (arith, long, most, few))
