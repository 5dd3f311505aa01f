-- What reading comes to is what the payload has: all stands, or this is its fault.
use Rattle.std.proofs.Common.{◌≡◌, ℕ, ℤ, zero, suc, ◌+◌, ◌-◌, ◌*◌, ◌/◌, ◌%◌, ◌<◌, ◌≤◌, cond, ltb, max, List, [], ◌∷◌, length, Result, Ok, Err, refl, sym, ap, ◌∙◌, subst, arith, inl, inr}
use Rattle.std.specs.Prelude.{IfErr}
use Rattle.std.specs.Int.{w32, cast_signed}
use Rattle.std.proofs.lemmas.Bool.{cases_lt, lt-ltb, le-ltb}
use Rattle.pcp_base.specs.Fields.{number_at}
use Rattle.pcp_base.specs.Time.{Moment}
use Rattle.pcp_base.specs.Typed.{TypedBytes}
use Rattle.pcp_base.specs.declared.result.Body.{Body}
use Rattle.pcp_base.specs.declared.result.Body.TheVariants as bodies
use Rattle.pcp_base.specs.declared.result.ValueSet.{ValueSet}
use Rattle.pcp_base.specs.declared.result.PmResult.{PmResult}
use Rattle.result_form.specs.declared.fault.FormFault.{FormFault}
use Rattle.result_form.specs.declared.fault.FormFault.TheVariants.{Short, Stamp, Count, Mode, Offset, Block, Trailing, NoMemory}
use Rattle.result_form.specs.Counts.{Counted}
use Rattle.result_form.specs.Decoding.{◌>>=◌, Gives, word_below, stamp_of, counted_at, set_end, sets_end, values_from, offset_pair, blocks_from, body_of, set_at, sets_from, payload_result}
use Rattle.result_form.specs.Faults.{IsStatus, HasValues, HasMode, HasBlocks, HasHead, pairs_end, SetStands, SetsStand, IsSetFault, IsSetsFault, block_begin, block_end, LeadsIn, IsWhole, PairsReach, IsPairsFault, SetReaches, SetsReach, IsBlocksFault, IsFault, IsFormFault}
use Rattle.result_form.proofs.FaultRules.{done, word_stands, below_stands, below_ends, below_fails, ends_in_metric, ends_in_number, is_status, ends_in_mode, is_bad_mode, ends_in_pairs, pairs_stand, counts_status, counts_in_place, counts_blocks, pair_stands, leads_out, is_bad_block, block_stands, pair_found, run_made}

-- ---- the words of sets

abbrev SetSays : List ℕ → ℕ → Result ℕ FormFault → Type 0
SetSays bytes at (Ok next) = SetStands bytes at next
SetSays bytes at (Err e) = IsSetFault bytes at e

told : (bytes : List ℕ) (at : ℕ) (r : Result ℕ FormFault) → set_end bytes at ≡ r → SetSays bytes at r → SetSays bytes at (set_end bytes at)
told bytes at r e x = subst (SetSays bytes at) (sym e) x

pairs_say : (bytes : List ℕ) (at : ℕ) → HasMode bytes at → SetSays bytes at (set_end bytes at)
pairs_say bytes at m =
    let room : at + 12 ≤ length bytes = m.1 in
    elim (cases_lt (length bytes) (pairs_end bytes at)) [
      | inl cut ↦ told bytes at (Err (Short (at + 12 + (length bytes - (at + 12)) / 4 * 4))) (ends_in_pairs bytes at m cut)
          (omega arith, inr (inr (inr (m, (length bytes - (at + 12)) / 4, omega arith, omega arith, omega arith))))
      | inr whole ↦ told bytes at (Ok (pairs_end bytes at)) (pairs_stand bytes at m whole) (inr (refl, m, whole))
    ]

mode_says : (bytes : List ℕ) (at : ℕ) → HasValues bytes at → SetSays bytes at (set_end bytes at)
mode_says bytes at v =
    let room : at + 8 ≤ length bytes = v.0 in
    elim (cases_lt (length bytes) (at + 12)) [
      | inl cut ↦ told bytes at (Err (Short (at + 8))) (ends_in_mode bytes at v cut) (omega arith, inr (inr (inl (refl, v))))
      | inr three ↦
          elim (cases_lt (number_at bytes (at + 8)) 2) [
            | inl low ↦ pairs_say bytes at (v, three, low)
            | inr bad ↦ told bytes at (Err (Mode (at + 8))) (is_bad_mode bytes at v three bad) (refl, v, three, bad)
          ]
    ]

number_says : (bytes : List ℕ) (at : ℕ) → at + 8 ≤ length bytes → SetSays bytes at (set_end bytes at)
number_says bytes at two =
    elim (cases_lt 0 (number_at bytes (at + 4))) [
      | inl some ↦
          elim (cases_lt (number_at bytes (at + 4)) 2147483648) [
            | inl few ↦ mode_says bytes at (two, some, few)
            | inr many ↦ told bytes at (Ok (at + 8)) (is_status bytes at two (inr many)) (inl (refl, two, inr many))
          ]
      | inr none ↦ let zero_ : number_at bytes (at + 4) ≡ 0 = omega arith in told bytes at (Ok (at + 8)) (is_status bytes at two (inl zero_)) (inl (refl, two, inl zero_))
    ]

pub set_says : (bytes : List ℕ) (at : ℕ) → SetSays bytes at (set_end bytes at)
set_says bytes at =
    elim (cases_lt (length bytes) (at + 4)) [
      | inl cut ↦ told bytes at (Err (Short at)) (ends_in_metric bytes at cut) (cut, inl refl)
      | inr one ↦
          elim (cases_lt (length bytes) (at + 8)) [
            | inl cut ↦ told bytes at (Err (Short (at + 4))) (ends_in_number bytes at one cut) (omega arith, inr (inl (refl, one)))
            | inr two ↦ number_says bytes at two
          ]
    ]

abbrev SetsSay : List ℕ → ℕ → ℕ → Result ℕ FormFault → Type 0
SetsSay bytes n at (Ok end) = SetsStand bytes n at end
SetsSay bytes n at (Err e) = IsSetsFault bytes n at e

sets_on : (bytes : List ℕ) (n at next : ℕ) (r : Result ℕ FormFault) → SetStands bytes at next → SetsSay bytes n next r → SetsSay bytes (suc n) at r
sets_on bytes n at next (Ok end) x y = (next, x, y)
sets_on bytes n at next (Err e) x y = inr (next, x, y)

sets_by : (bytes : List ℕ) (n at : ℕ) (r : Result ℕ FormFault) → SetSays bytes at r → ((next : ℕ) → SetsSay bytes n next (sets_end bytes n next)) → SetsSay bytes (suc n) at (r >>= λ next. sets_end bytes n next)
sets_by bytes n at (Err e) x more = inl x
sets_by bytes n at (Ok next) x more = sets_on bytes n at next (sets_end bytes n next) x (more next)

pub sets_say : (bytes : List ℕ) (n at : ℕ) → SetsSay bytes n at (sets_end bytes n at)
unfolding sets_end
sets_say bytes zero at = refl
sets_say bytes (suc n) at = sets_by bytes n at (set_end bytes at) (set_says bytes at) (λ next. sets_say bytes n next)

-- ---- pairs and their blocks

abbrev PairsSay : List ℕ → ℕ → ℕ → ℕ → ℕ → Result (List (ℤ × TypedBytes) × ℕ) FormFault → Type 0
PairsSay bytes end n at before (Ok x) = PairsReach bytes end n at before x.1
PairsSay bytes end n at before (Err e) = IsPairsFault bytes end n at e

abbrev pub with_pair : (ℤ × TypedBytes) → Result (List (ℤ × TypedBytes) × ℕ) FormFault → Result (List (ℤ × TypedBytes) × ℕ) FormFault
with_pair p r = r >>= λ others. Ok (p ∷ others.0, others.1)

pairs_on : (bytes : List ℕ) (end n at before : ℕ) (p : ℤ × TypedBytes) (r : Result (List (ℤ × TypedBytes) × ℕ) FormFault) → LeadsIn bytes end at → IsWhole bytes at
    → PairsSay bytes end n (at + 8) (max before (block_end bytes at)) r → PairsSay bytes end (suc n) at before (with_pair p r)
pairs_on bytes end n at before p (Ok x) l w y = (l, w, y)
pairs_on bytes end n at before p (Err e) l w y = inr (l, w, y)

abbrev pub from_pair : List ℕ → ℕ → ℕ → ℕ → ℕ → Result ((ℤ × TypedBytes) × ℕ) FormFault → Result (List (ℤ × TypedBytes) × ℕ) FormFault
from_pair bytes end n at before r = r >>= λ first. blocks_from bytes end (max before first.1) n (at + 8) >>= λ others. Ok (first.0 ∷ others.0, others.1)

module _ (bytes : List ℕ) (end n at before : ℕ) (room : at + 8 ≤ length bytes) (more : PairsSay bytes end n (at + 8) (max before (block_end bytes at)) (blocks_from bytes end (max before (block_end bytes at)) n (at + 8))) where
  pair_by : (r : Result ((ℤ × TypedBytes) × ℕ) FormFault) → offset_pair bytes end at ≡ r → PairsSay bytes end (suc n) at before (from_pair bytes end n at before r) → PairsSay bytes end (suc n) at before (from_pair bytes end n at before (offset_pair bytes end at))
  pair_by r e x = subst (λ s. PairsSay bytes end (suc n) at before (from_pair bytes end n at before s)) (sym e) x

  block_says : LeadsIn bytes end at → PairsSay bytes end (suc n) at before (from_pair bytes end n at before (offset_pair bytes end at))
  block_says l =
      elim (cases_lt (number_at bytes (block_begin bytes at) % 16777216) 4) [
        | inl short ↦ pair_by (Err (Block (block_begin bytes at))) (is_bad_block bytes end at room l (inl short)) (inl (refl, l, inl short))
        | inr least ↦
            elim (cases_lt (length bytes) (block_end bytes at)) [
              | inl cut ↦ pair_by (Err (Block (block_begin bytes at))) (is_bad_block bytes end at room l (inr cut)) (inl (refl, l, inr cut))
              | inr whole ↦ pair_by (Ok (pair_found bytes end at)) (block_stands bytes end at room l (least, whole))
                  (pairs_on bytes end n at before (pair_found bytes end at).0 (blocks_from bytes end (max before (block_end bytes at)) n (at + 8)) l (least, whole) more)
            ]
      ]

  pair_says : PairsSay bytes end (suc n) at before (from_pair bytes end n at before (offset_pair bytes end at))
  pair_says =
      elim (cases_lt (block_begin bytes at) end) [
        | inl early ↦ pair_by (Err (Offset (at + 4))) (leads_out bytes end at room (inl early)) (inl (refl, inl early))
        | inr behind ↦
            elim (cases_lt (length bytes) (block_begin bytes at + 4)) [
              | inl out ↦ pair_by (Err (Offset (at + 4))) (leads_out bytes end at room (inr out)) (inl (refl, inr out))
              | inr inside ↦ block_says (behind, inside)
            ]
      ]

pub blocks_say : (bytes : List ℕ) (end n at before : ℕ) → at + 8 * n ≤ length bytes → PairsSay bytes end n at before (blocks_from bytes end before n at)
unfolding blocks_from
blocks_say bytes end zero at before room = refl
blocks_say bytes end (suc n) at before room = pair_says bytes end n at before (omega arith) (blocks_say bytes end n (at + 8) (max before (block_end bytes at)) (omega arith))

pub values_stand : (bytes : List ℕ) (n at : ℕ) → at + 8 * n ≤ length bytes → (xs : List (ℤ × ℕ)) × (values_from bytes n at ≡ Ok xs)
unfolding values_from
values_stand bytes zero at room = ([], refl)
values_stand bytes (suc n) at room =
    let more = values_stand bytes n (at + 8) (omega arith) in
    let pair : ℤ × ℕ = (cast_signed w32 (number_at bytes at), number_at bytes (at + 4)) in (
      pair ∷ more.0,
      ap (λ r. r >>= λ p. values_from bytes n (at + 8) >>= λ others. Ok (p ∷ others)) (pair_stands bytes 0 at (omega arith))
          ∙ ap (λ r. r >>= λ others. done (pair ∷ others)) more.1,
    )

-- ---- sets and their blocks

abbrev SetSaysBlocks : List ℕ → ℕ → ℕ → ℕ → Result (ValueSet × ℕ) FormFault → Type 0
SetSaysBlocks bytes end at before (Ok x) = SetReaches bytes end at before x.1
SetSaysBlocks bytes end at before (Err e) = HasBlocks bytes at × IsPairsFault bytes end (number_at bytes (at + 4)) (at + 12) e

abbrev pub a_set : ℕ → Body → ValueSet
a_set pmid body = record { pmid = pmid; body = body }

abbrev pub from_counted : List ℕ → ℕ → ℕ → ℕ → Result Counted FormFault → Result (ValueSet × ℕ) FormFault
from_counted bytes end before pmid r = r >>= λ body. body_of bytes end before body >>= λ content. Ok (a_set pmid content.0, content.1)

set_from : (bytes : List ℕ) (end at before : ℕ) (c : Counted) → at + 4 ≤ length bytes → counted_at bytes (at + 4) ≡ Ok c → set_at bytes end before at ≡ from_counted bytes end before (number_at bytes at) (Ok c)
unfolding set_at
set_from bytes end at before c h e =
    ap (λ r. r >>= λ pmid. from_counted bytes end before pmid (counted_at bytes (at + 4))) (word_stands bytes at h)
    ∙ ap (λ r. from_counted bytes end before (number_at bytes at) r) e

set_told : (bytes : List ℕ) (end at before : ℕ) (r : Result (ValueSet × ℕ) FormFault) → set_at bytes end before at ≡ r → SetSaysBlocks bytes end at before r → SetSaysBlocks bytes end at before (set_at bytes end before at)
set_told bytes end at before r e x = subst (SetSaysBlocks bytes end at before) (sym e) x

abbrev with_body : ℕ → Result (Body × ℕ) FormFault → Result (ValueSet × ℕ) FormFault
with_body pmid r = r >>= λ content. Ok (a_set pmid content.0, content.1)

abbrev in_place : ℕ → List (ℤ × ℕ) → Result (Body × ℕ) FormFault
in_place before pairs = Ok (bodies.InPlace pairs, before)

abbrev in_their_blocks : List (ℤ × TypedBytes) × ℕ → Result (Body × ℕ) FormFault
in_their_blocks pairs = Ok (bodies.Blocks pairs.0, pairs.1)

pub at_status : (bytes : List ℕ) (end at before : ℕ) → at + 8 ≤ length bytes → IsStatus (number_at bytes (at + 4))
    → set_at bytes end before at ≡ Ok (a_set (number_at bytes at) (bodies.Status (cast_signed w32 (number_at bytes (at + 4)))), before)
unfolding body_of
at_status bytes end at before h s = set_from bytes end at before (Counted.Status (cast_signed w32 (number_at bytes (at + 4)))) (omega arith) (counts_status bytes at h s)

pub at_values : (bytes : List ℕ) (end at before : ℕ) → HasMode bytes at → pairs_end bytes at ≤ length bytes → number_at bytes (at + 8) ≡ 0
    → (s : ValueSet) × (set_at bytes end before at ≡ Ok (s, before))
unfolding body_of
at_values bytes end at before m whole e =
    let room : at + 12 ≤ length bytes = m.1 in
    let values = values_stand bytes (number_at bytes (at + 4)) (at + 4 + 4 + 4) (omega arith) in (
      a_set (number_at bytes at) (bodies.InPlace values.0),
      set_from bytes end at before (Counted.InPlace (run_made bytes at (number_at bytes (at + 4)))) (omega arith) (counts_in_place bytes at m.0 m.1 e)
          ∙ ap (λ (r : Result (List (ℤ × ℕ)) FormFault). with_body (number_at bytes at) (r >>= in_place before)) values.1,
    )

abbrev pub in_blocks : ℕ → Result (List (ℤ × TypedBytes) × ℕ) FormFault → Result (ValueSet × ℕ) FormFault
in_blocks pmid r = with_body pmid (r >>= in_their_blocks)

pub at_blocks : (bytes : List ℕ) (end at before : ℕ) → HasMode bytes at → number_at bytes (at + 8) ≡ 1
    → set_at bytes end before at ≡ in_blocks (number_at bytes at) (blocks_from bytes end before (number_at bytes (at + 4)) (at + 12))
unfolding body_of
at_blocks bytes end at before m e =
    let room : at + 12 ≤ length bytes = m.1 in
    let from : at + 4 + 4 + 4 ≡ at + 12 = omega arith in
    set_from bytes end at before (Counted.Blocks (run_made bytes at (number_at bytes (at + 4)))) (omega arith) (counts_blocks bytes at m.0 m.1 e)
    ∙ ap (λ k. in_blocks (number_at bytes at) (blocks_from bytes end before (number_at bytes (at + 4)) k)) from

pub not_blocks : (bytes : List ℕ) (at : ℕ) → IsStatus (number_at bytes (at + 4)) → HasBlocks bytes at → ⊥
not_blocks bytes at (inl e) b = let some : 0 < number_at bytes (at + 4) = b.0.1 in omega arith
not_blocks bytes at (inr h) b = let few : number_at bytes (at + 4) < 2147483648 = b.0.2 in omega arith

wrapped : (bytes : List ℕ) (end at before pmid : ℕ) (r : Result (List (ℤ × TypedBytes) × ℕ) FormFault) → HasBlocks bytes at → PairsSay bytes end (number_at bytes (at + 4)) (at + 12) before r → SetSaysBlocks bytes end at before (in_blocks pmid r)
wrapped bytes end at before pmid (Ok x) b says = inl (b, says)
wrapped bytes end at before pmid (Err e) b says = (b, says)

status_reaches : (bytes : List ℕ) (end at before : ℕ) → at + 8 ≤ length bytes → IsStatus (number_at bytes (at + 4)) → SetSaysBlocks bytes end at before (set_at bytes end before at)
status_reaches bytes end at before h s =
    set_told bytes end at before (Ok (a_set (number_at bytes at) (bodies.Status (cast_signed w32 (number_at bytes (at + 4)))), before)) (at_status bytes end at before h s) (inr (not_blocks bytes at s, refl))

in_place_reaches : (bytes : List ℕ) (end at before : ℕ) → HasMode bytes at → pairs_end bytes at ≤ length bytes → number_at bytes (at + 8) ≡ 0 → SetSaysBlocks bytes end at before (set_at bytes end before at)
in_place_reaches bytes end at before m whole e =
    let found = at_values bytes end at before m whole e in
    set_told bytes end at before (Ok (found.0, before)) found.1 (inr ((λ b. let one : number_at bytes (at + 8) ≡ 1 = b.1 in omega arith), refl))

blocks_reach : (bytes : List ℕ) (end at before : ℕ) → HasMode bytes at → pairs_end bytes at ≤ length bytes → number_at bytes (at + 8) ≡ 1 → SetSaysBlocks bytes end at before (set_at bytes end before at)
blocks_reach bytes end at before m whole e =
    set_told bytes end at before (in_blocks (number_at bytes at) (blocks_from bytes end before (number_at bytes (at + 4)) (at + 12))) (at_blocks bytes end at before m e)
    (wrapped bytes end at before (number_at bytes at) (blocks_from bytes end before (number_at bytes (at + 4)) (at + 12)) (m.0, e) (blocks_say bytes end (number_at bytes (at + 4)) (at + 12) before whole))

pub set_reaches : (bytes : List ℕ) (end at before next : ℕ) → SetStands bytes at next → SetSaysBlocks bytes end at before (set_at bytes end before at)
set_reaches bytes end at before next (inl s) = status_reaches bytes end at before s.1 s.2
set_reaches bytes end at before next (inr p) =
    let low : number_at bytes (at + 8) < 2 = p.1.2 in
    elim (cases_lt (number_at bytes (at + 8)) 1) [
      | inl none ↦ in_place_reaches bytes end at before p.1 p.2 (omega arith)
      | inr one ↦ blocks_reach bytes end at before p.1 p.2 (omega arith)
    ]

-- where the words of a set end
pub set_ends : (bytes : List ℕ) (at next : ℕ) → SetStands bytes at next → set_end bytes at ≡ Ok next
set_ends bytes at next (inl s) = is_status bytes at s.1 s.2 ∙ ap done (sym s.0)
set_ends bytes at next (inr p) = pairs_stand bytes at p.1 p.2 ∙ ap done (sym p.0)

abbrev ReachSays : List ℕ → ℕ → ℕ → ℕ → ℕ → Result (List ValueSet × ℕ) FormFault → Type 0
ReachSays bytes end n at before (Ok x) = SetsReach bytes end n at before x.1
ReachSays bytes end n at before (Err e) = IsBlocksFault bytes end n at before e

abbrev pub with_set : ValueSet → Result (List ValueSet × ℕ) FormFault → Result (List ValueSet × ℕ) FormFault
with_set s r = r >>= λ others. Ok (s ∷ others.0, others.1)

reach_on : (bytes : List ℕ) (end n at before next mid : ℕ) (s : ValueSet) (r : Result (List ValueSet × ℕ) FormFault) → SetStands bytes at next → SetReaches bytes end at before mid → ReachSays bytes end n next mid r
    → ReachSays bytes end (suc n) at before (with_set s r)
reach_on bytes end n at before next mid s (Ok x) stands reaches says = (next, mid, stands, reaches, says)
reach_on bytes end n at before next mid s (Err e) stands reaches says = inr (next, mid, stands, reaches, says)

abbrev pub from_set : List ℕ → ℕ → ℕ → Result ℕ FormFault → Result (ValueSet × ℕ) FormFault → Result (List ValueSet × ℕ) FormFault
from_set bytes end n ends r = r >>= λ first. ends >>= λ next. sets_from bytes end first.1 n next >>= λ others. Ok (first.0 ∷ others.0, others.1)

reach_by : (bytes : List ℕ) (end n at before next : ℕ) (r : Result (ValueSet × ℕ) FormFault) → SetStands bytes at next → SetSaysBlocks bytes end at before r
    → ((mid : ℕ) → ReachSays bytes end n next mid (sets_from bytes end mid n next)) → ReachSays bytes end (suc n) at before (from_set bytes end n (Ok next) r)
reach_by bytes end n at before next (Err e) stands says more = inl says
reach_by bytes end n at before next (Ok x) stands says more = reach_on bytes end n at before next x.1 x.0 (sets_from bytes end x.1 n next) stands says (more x.1)

pub reach_says : (bytes : List ℕ) (end n at before stop : ℕ) → SetsStand bytes n at stop → ReachSays bytes end n at before (sets_from bytes end before n at)
unfolding sets_from
reach_says bytes end zero at before stop all = refl
reach_says bytes end (suc n) at before stop all =
    subst (λ ends. ReachSays bytes end (suc n) at before (from_set bytes end n ends (set_at bytes end before at))) (sym (set_ends bytes at all.0 all.1))
    (reach_by bytes end n at before all.0 (set_at bytes end before at) all.1 (set_reaches bytes end at before all.0 all.1) (λ mid. reach_says bytes end n all.0 mid stop all.2))

-- ---- the whole payload

abbrev pub Says : List ℕ → Result PmResult FormFault → Type 0
Says bytes (Ok r) = Unit {0}
Says bytes (Err e) = IsFault bytes e

abbrev pub a_moment : ℕ → ℕ → Moment
a_moment sec usec = record { sec = sec; usec = usec }

abbrev pub last : List ℕ → Moment → Result (List ValueSet × ℕ) FormFault → Result PmResult FormFault
last bytes stamp r = r >>= λ read. cond (ltb read.1 (length bytes)) (Err (Trailing read.1)) (Ok (record { stamp = stamp; sets = read.0 }))

abbrev pub from_end : List ℕ → Moment → ℕ → Result ℕ FormFault → Result PmResult FormFault
from_end bytes stamp count r = r >>= λ end. last bytes stamp (sets_from bytes end end count 12)

abbrev pub from_count : List ℕ → Moment → Result ℕ FormFault → Result PmResult FormFault
from_count bytes stamp r = r >>= λ count. from_end bytes stamp count (sets_end bytes count 12)

abbrev pub from_stamp : List ℕ → Result Moment FormFault → Result PmResult FormFault
from_stamp bytes r = r >>= λ stamp. from_count bytes stamp (word_below bytes 8 2147483648 (Count 8))

module _ (bytes : List ℕ) (head : HasHead bytes) (stamp : Moment) where
  end_says : (end : ℕ) → SetsStand bytes (number_at bytes 8) 12 end → (r : Result (List ValueSet × ℕ) FormFault) → ReachSays bytes end (number_at bytes 8) 12 end r → Says bytes (last bytes stamp r)
  end_says end all (Err e) says = inr (head, inr (end, all, inl says))
  end_says end all (Ok x) says =
      elim (cases_lt x.1 (length bytes)) [
        | inl more ↦ subst (λ b. Says bytes (cond b (Err (Trailing x.1)) (Ok (record { stamp = stamp; sets = x.0 })))) (sym (lt-ltb _ _ more)) (inr (head, inr (end, all, inr (says, more))))
        | inr none ↦ subst (λ b. Says bytes (cond b (Err (Trailing x.1)) (Ok (record { stamp = stamp; sets = x.0 })))) (sym (le-ltb _ _ none)) tt
      ]

  ends_say : (r : Result ℕ FormFault) → SetsSay bytes (number_at bytes 8) 12 r → Says bytes (from_end bytes stamp (number_at bytes 8) r)
  ends_say (Err e) says = inr (head, inl says)
  ends_say (Ok end) says = end_says end says (sets_from bytes end end (number_at bytes 8) 12) (reach_says bytes end (number_at bytes 8) 12 end end says)

  head_says : Says bytes (from_count bytes stamp (Ok (number_at bytes 8)))
  head_says = ends_say (sets_end bytes (number_at bytes 8) 12) (sets_say bytes (number_at bytes 8) 12)

pub stamp_is : (bytes : List ℕ) → 8 ≤ length bytes → number_at bytes 0 < 2147483648 → number_at bytes 4 < 1000000 → stamp_of bytes ≡ Ok (a_moment (number_at bytes 0) (number_at bytes 4))
unfolding stamp_of
stamp_is bytes h sec usec =
    ap (λ r. r >>= λ s. word_below bytes 4 1000000 (Stamp 4) >>= λ u. Ok (a_moment s u)) (below_stands bytes 0 2147483648 (Stamp 0) (omega arith) sec)
    ∙ ap (λ r. r >>= λ u. done (a_moment (number_at bytes 0) u)) (below_stands bytes 4 1000000 (Stamp 4) h usec)

pub sec_fails : (bytes : List ℕ) (e : FormFault) → word_below bytes 0 2147483648 (Stamp 0) ≡ Err e → stamp_of bytes ≡ Err e
unfolding stamp_of
sec_fails bytes e h = ap (λ r. r >>= λ s. word_below bytes 4 1000000 (Stamp 4) >>= λ u. Ok (a_moment s u)) h

pub usec_fails : (bytes : List ℕ) (e : FormFault) → 4 ≤ length bytes → number_at bytes 0 < 2147483648 → word_below bytes 4 1000000 (Stamp 4) ≡ Err e → stamp_of bytes ≡ Err e
unfolding stamp_of
usec_fails bytes e h sec f =
    ap (λ r. r >>= λ s. word_below bytes 4 1000000 (Stamp 4) >>= λ u. Ok (a_moment s u)) (below_stands bytes 0 2147483648 (Stamp 0) h sec)
    ∙ ap (λ r. r >>= λ u. Ok (a_moment (number_at bytes 0) u)) f

pub decoded_is : (bytes : List ℕ) → payload_result bytes ≡ from_stamp bytes (stamp_of bytes)
unfolding payload_result
decoded_is bytes = refl

by_stamp : (bytes : List ℕ) (r : Result Moment FormFault) → stamp_of bytes ≡ r → Says bytes (from_stamp bytes r) → Says bytes (payload_result bytes)
by_stamp bytes r e x = subst (Says bytes) (sym (decoded_is bytes ∙ ap (from_stamp bytes) e)) x

by_count : (bytes : List ℕ) (stamp : Moment) (r : Result ℕ FormFault) → word_below bytes 8 2147483648 (Count 8) ≡ r → Says bytes (from_count bytes stamp r) → Says bytes (from_stamp bytes (Ok stamp))
by_count bytes stamp r e x = subst (λ s. Says bytes (from_count bytes stamp s)) (sym e) x

count_says : (bytes : List ℕ) → 8 ≤ length bytes → number_at bytes 0 < 2147483648 → number_at bytes 4 < 1000000 → Says bytes (from_stamp bytes (Ok (a_moment (number_at bytes 0) (number_at bytes 4))))
count_says bytes two sec usec =
    let stamp : Moment = a_moment (number_at bytes 0) (number_at bytes 4) in
    elim (cases_lt (length bytes) 12) [
      | inl cut ↦ by_count bytes stamp (Err (Short 8)) (below_ends bytes 8 2147483648 (Count 8) cut) (inl (cut, inr (inr (refl, ((omega arith, sec), two, usec)))))
      | inr three ↦
          elim (cases_lt (number_at bytes 8) 2147483648) [
            | inl few ↦ by_count bytes stamp (Ok (number_at bytes 8)) (below_stands bytes 8 2147483648 (Count 8) three few) (head_says bytes (((omega arith, sec), two, usec), three, few) stamp)
            | inr many ↦ by_count bytes stamp (Err (Count 8)) (below_fails bytes 8 2147483648 (Count 8) three many) (inl (refl, ((omega arith, sec), two, usec), three, many))
          ]
    ]

usec_says : (bytes : List ℕ) → 4 ≤ length bytes → number_at bytes 0 < 2147483648 → Says bytes (payload_result bytes)
usec_says bytes one sec =
    elim (cases_lt (length bytes) 8) [
      | inl cut ↦ by_stamp bytes (Err (Short 4)) (usec_fails bytes (Short 4) one sec (below_ends bytes 4 1000000 (Stamp 4) cut)) (inl (cut, inr (inl (refl, (one, sec)))))
      | inr two ↦
          elim (cases_lt (number_at bytes 4) 1000000) [
            | inl few ↦ by_stamp bytes (Ok (a_moment (number_at bytes 0) (number_at bytes 4))) (stamp_is bytes two sec few) (count_says bytes two sec few)
            | inr many ↦ by_stamp bytes (Err (Stamp 4)) (usec_fails bytes (Stamp 4) one sec (below_fails bytes 4 1000000 (Stamp 4) two many)) (inl (inr (refl, (one, sec), two, many)))
          ]
    ]

pub decoded_says : (bytes : List ℕ) → Says bytes (payload_result bytes)
decoded_says bytes =
    elim (cases_lt (length bytes) 4) [
      | inl cut ↦ by_stamp bytes (Err (Short 0)) (sec_fails bytes (Short 0) (below_ends bytes 0 2147483648 (Stamp 0) cut)) (inl (cut, inl refl))
      | inr one ↦
          elim (cases_lt (number_at bytes 0) 2147483648) [
            | inl few ↦ usec_says bytes one few
            | inr many ↦ by_stamp bytes (Err (Stamp 0)) (sec_fails bytes (Stamp 0) (below_fails bytes 0 2147483648 (Stamp 0) one many)) (inl (inl (refl, one, many)))
          ]
    ]

fault_of : (bytes : List ℕ) (e : FormFault) → IsFault bytes e → IsFormFault bytes e
fault_of bytes NoMemory x = tt
fault_of bytes e x = x

pub is_fault : (bytes : List ℕ) (result : Result PmResult FormFault) → Gives result (payload_result bytes) → IfErr result (IsFormFault bytes)
is_fault bytes (Ok r) given = tt
is_fault bytes (Err e) (inl none) = subst (IsFormFault bytes) (sym none) tt
is_fault bytes (Err e) (inr given) = fault_of bytes e (subst (Says bytes) given (decoded_says bytes))
