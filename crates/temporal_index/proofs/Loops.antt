-- What was read before and what is still read make all; and what was passed by from the end on.
use Rattle.std.proofs.Common.{◌≡◌, ℕ, suc, ◌+◌, ◌-◌, ◌<◌, ◌≤◌, List, [], ◌∷◌, ◌++◌, length, drop, take, get_or, Option, Some, None, Result, Ok, Err, refl, sym, ap, ◌∙◌, subst, append_assoc, arith}
use Rattle.std.specs.Prelude.{MatchOption}
use Rattle.std.specs.List.{AllByRecursion}
use Rattle.std.proofs.lemmas.List.{append-nil, drop_more, take-append-drop, length-take-le}
use Rattle.pcp_base.specs.Time.{microseconds}
use Rattle.pcp_model.specs.declared.records.Entry.{Entry}
use Rattle.temporal_index.specs.Entries.{entry_at, entry_then_others, entries_from, entries_begun_in, index_of}
use Rattle.temporal_index.specs.Seeking.{IsLast}

abbrev pub ahead : List Entry → Result (List Entry) ℕ → Result (List Entry) ℕ
ahead front (Ok es) = Ok (front ++ es)
ahead front (Err at) = Err at

ahead_none : (r : Result (List Entry) ℕ) → ahead [] r ≡ r
ahead_none (Ok es) = refl
ahead_none (Err at) = refl

ahead_more : (front : List Entry) (e : Entry) (at : ℕ) (r : Result (List Entry) ℕ) → ahead front (entry_then_others at (Some e) r) ≡ ahead (front ++ e ∷ []) r
ahead_more front e at (Ok es) = ap Ok (simp append_assoc)
ahead_more front e at (Err offset) = refl

pub starts : (bytes : List ℕ) → ahead [] (entries_from (entries_begun_in (length bytes - 0)) bytes 0) ≡ index_of bytes
unfolding index_of
starts bytes =
    ap (λ n. ahead [] (entries_from (entries_begun_in n) bytes 0)) (let all : length bytes - 0 ≡ length bytes = omega arith in all) ∙ ahead_none (entries_from (entries_begun_in (length bytes)) bytes 0)

-- one entry more
pub goes_on : (bytes : List ℕ) (front : List Entry) (at : ℕ) (e : Entry) (all : Result (List Entry) ℕ) → at + 20 ≤ length bytes → entry_at bytes at ≡ Some e
    → ahead front (entries_from (entries_begun_in (length bytes - at)) bytes at) ≡ all → ahead (front ++ e ∷ []) (entries_from (entries_begun_in (length bytes - (at + 20))) bytes (at + 20)) ≡ all
unfolding entries_from
goes_on bytes front at e all within here so_far =
    let k : entries_begun_in (length bytes - at) ≡ suc (entries_begun_in (length bytes - (at + 20))) = omega arith in
    let one : ahead front (entries_from (entries_begun_in (length bytes - at)) bytes at) ≡ ahead (front ++ e ∷ []) (entries_from (entries_begun_in (length bytes - (at + 20))) bytes (at + 20)) =
    rw (k, here) (ahead_more front e at (entries_from (entries_begun_in (length bytes - (at + 20))) bytes (at + 20))) in
    sym one ∙ so_far

-- no entry there
pub stops : (bytes : List ℕ) (front : List Entry) (at : ℕ) (all : Result (List Entry) ℕ) → at < length bytes → entry_at bytes at ≡ None
    → ahead front (entries_from (entries_begun_in (length bytes - at)) bytes at) ≡ all → all ≡ Err at
unfolding entries_from
stops bytes front at all within none so_far =
    let k : entries_begun_in (length bytes - at) ≡ suc (entries_begun_in (length bytes - at) - 1) = omega arith in
    let one : ahead front (entries_from (entries_begun_in (length bytes - at)) bytes at) ≡ Err at = rw (k, none) refl in
    sym so_far ∙ one

-- no byte is left
pub ends : (bytes : List ℕ) (front : List Entry) (at : ℕ) (all : Result (List Entry) ℕ) → length bytes ≤ at
    → ahead front (entries_from (entries_begun_in (length bytes - at)) bytes at) ≡ all → all ≡ Ok front
unfolding entries_from
ends bytes front at all past so_far =
    let k : entries_begun_in (length bytes - at) ≡ 0 = omega arith in
    let one : ahead front (entries_from (entries_begun_in (length bytes - at)) bytes at) ≡ Ok front = rw k (ap Ok (append-nil front)) in
    sym so_far ∙ one

-- the entry in front of those passed by
pub last_is : (Such Other : Entry → Type 0) (es : List Entry) (at : ℕ) (e : Entry) → at < length es → e ≡ get_or es at e → Such e → AllByRecursion Other (drop (at + 1) es) → IsLast Such Other es (at, e)
last_is Such Other es at e within here such others = record {
  front = take at es;
  behind = drop (at + 1) es;
  is = sym (take-append-drop at es) ∙ ap (λ t. take at es ++ t) (drop_more es at e within ∙ ap (λ x. x ∷ drop (at + 1) es) (sym here));
  position = sym (length-take-le at es (omega arith));
  such = such;
  others = others;
}

-- is passed by too
pub passed : (Other : Entry → Type 0) (es : List Entry) (at : ℕ) (e : Entry) → at < length es → e ≡ get_or es at e → Other e → AllByRecursion Other (drop (at + 1) es) → AllByRecursion Other (drop at es)
passed Other es at e within here other others =
    subst (AllByRecursion Other) (sym (drop_more es at e within ∙ ap (λ x. x ∷ drop (at + 1) es) (sym here))) (other, others)

-- weaker facts of the entry and of those behind it
each : (P Q : Entry → Type 0) → ((e : Entry) → P e → Q e) → (es : List Entry) → AllByRecursion P es → AllByRecursion Q es
each P Q f [] all = tt
each P Q f (e ∷ es) all = (f e all.0, each P Q f es all.1)

last_weaker : (P Q R S : Entry → Type 0) → ((e : Entry) → P e → Q e) → ((e : Entry) → R e → S e) → (es : List Entry) (found : ℕ × Entry) → IsLast P R es found → IsLast Q S es found
last_weaker P Q R S f g es found l = record { front = l.front; behind = l.behind; is = l.is; position = l.position; such = f found.1 l.such; others = each R S g l.behind l.others }

-- what was found of those before a time
pub found_last : (Such Other : Entry → Type 0) (given es : List Entry) (time : ℕ) (result : Option (ℕ × Entry)) → ((e : Entry) → microseconds e.stamp < time → Such e) → ((e : Entry) → time ≤ microseconds e.stamp → Other e) → given ≡ es
    → MatchOption result (AllByRecursion (λ e. time ≤ microseconds e.stamp) given) (IsLast (λ e. microseconds e.stamp < time) (λ e. time ≤ microseconds e.stamp) given)
    → MatchOption result (AllByRecursion Other es) (IsLast Such Other es)
found_last Such Other given es time (Some found) f g same last =
    subst (λ xs. IsLast Such Other xs found) same (last_weaker (λ e. microseconds e.stamp < time) Such (λ e. time ≤ microseconds e.stamp) Other f g given found last)
found_last Such Other given es time None f g same all = subst (AllByRecursion Other) same (each (λ e. time ≤ microseconds e.stamp) Other g given all)
