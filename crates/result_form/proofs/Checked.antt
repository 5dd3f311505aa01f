-- What the checks of the whole payload come to.
use Rattle.std.proofs.Common.{◌≡◌, ℕ, ◌<◌, ◌≤◌, cond, ltb, List, length, drop, Result, Ok, Err, ap, ◌∙◌, arith}
use Rattle.std.proofs.lemmas.Bool.{lt-ltb, le-ltb}
use Rattle.pcp_base.specs.Time.{Moment}
use Rattle.pcp_base.specs.declared.result.ValueSet.{ValueSet}
use Rattle.pcp_base.specs.declared.result.PmResult.{PmResult}
use Rattle.result_form.specs.declared.fault.FormFault.{FormFault}
use Rattle.result_form.specs.declared.fault.FormFault.TheVariants.{Count, Trailing}
use Rattle.result_form.specs.Decoding.{◌>>=◌, word_below, stamp_of, sets_end, sets_from, payload_result}
use Rattle.result_form.specs.Faults.{SetsStand, SetsReach}
use Rattle.result_form.proofs.FaultsFound.{sets_say, reach_says}
use Rattle.result_form.specs.Shown.{shown_sets, shown_result}
use Rattle.result_form.specs.Lying.{SetsLie}
use Rattle.result_form.proofs.Lying.{sets_lie}
use Rattle.result_form.specs.Reaching.{reach_of, IsRead}
use Rattle.result_form.proofs.ShownSets.{sets_are}
use Rattle.result_form.proofs.Reaches.{reach_ok, reach_err}

abbrev failed : FormFault → Result PmResult FormFault
failed e = Err e

abbrev last : List ℕ → Moment → Result (List ValueSet × ℕ) FormFault → Result PmResult FormFault
last bytes stamp r = r >>= λ read. cond (ltb read.1 (length bytes)) (Err (Trailing read.1)) (Ok (record { stamp = stamp; sets = read.0 }))

abbrev from_end : List ℕ → Moment → ℕ → Result ℕ FormFault → Result PmResult FormFault
from_end bytes stamp count r = r >>= λ end. last bytes stamp (sets_from bytes end end count 12)

abbrev from_count : List ℕ → Moment → Result ℕ FormFault → Result PmResult FormFault
from_count bytes stamp r = r >>= λ count. from_end bytes stamp count (sets_end bytes count 12)

abbrev from_stamp : List ℕ → Result Moment FormFault → Result PmResult FormFault
from_stamp bytes r = r >>= λ stamp. from_count bytes stamp (word_below bytes 8 2147483648 (Count 8))

pub stamp_fails : (bytes : List ℕ) (e : FormFault) → stamp_of bytes ≡ Err e → payload_result bytes ≡ Err e
unfolding payload_result
stamp_fails bytes e h = ap (from_stamp bytes) h

module _ (bytes : List ℕ) (stamp : Moment) (h : stamp_of bytes ≡ Ok stamp) where
  stamp_read : payload_result bytes ≡ from_count bytes stamp (word_below bytes 8 2147483648 (Count 8))
  unfolding payload_result
  stamp_read = ap (from_stamp bytes) h

  pub count_fails : (e : FormFault) → word_below bytes 8 2147483648 (Count 8) ≡ Err e → payload_result bytes ≡ Err e
  count_fails e g = stamp_read ∙ ap (from_count bytes stamp) g

  module _ (count : ℕ) (g : word_below bytes 8 2147483648 (Count 8) ≡ Ok count) where
    count_read : payload_result bytes ≡ from_end bytes stamp count (sets_end bytes count 12)
    count_read = stamp_read ∙ ap (from_count bytes stamp) g

    pub end_fails : (e : FormFault) → sets_end bytes count 12 ≡ Err e → payload_result bytes ≡ Err e
    end_fails e f = count_read ∙ ap (from_end bytes stamp count) f

    module _ (end : ℕ) (f : sets_end bytes count 12 ≡ Ok end) where
      end_read : payload_result bytes ≡ last bytes stamp (sets_from bytes end end count 12)
      end_read = count_read ∙ ap (from_end bytes stamp count) f

      pub reach_fails : (e : FormFault) → reach_of (sets_from bytes end end count 12) ≡ Err e → payload_result bytes ≡ Err e
      reach_fails e r = end_read ∙ ap (last bytes stamp) (reach_err (sets_from bytes end end count 12) e r)

      module _ (reach : ℕ) (r : reach_of (sets_from bytes end end count 12) ≡ Ok reach) where
        pub goes_on : reach < length bytes → payload_result bytes ≡ Err (Trailing reach)
        goes_on lt =
            let x = reach_ok (sets_from bytes end end count 12) reach r in
            end_read ∙ ap (last bytes stamp) x.1
            ∙ ap (λ b. cond b (failed (Trailing x.0.1)) (Ok (record { stamp = stamp; sets = x.0.0 }))) (lt-ltb x.0.1 (length bytes) (omega (arith, x.2)))
            ∙ ap (λ n. failed (Trailing n)) x.2

        is_shown : length bytes ≤ reach → payload_result bytes ≡ Ok (shown_result bytes stamp count)
        is_shown le =
            let x = reach_ok (sets_from bytes end end count 12) reach r in
            let stand : SetsStand bytes count 12 end = rw f at (sets_say bytes count 12) in
            let sets : x.0.0 ≡ shown_sets bytes count (drop 12 bytes) = sets_are bytes end end count 12 end x.0 stand x.1 in
            end_read ∙ ap (last bytes stamp) x.1
            ∙ ap (λ b. cond b (failed (Trailing x.0.1)) (Ok (record { stamp = stamp; sets = x.0.0 }))) (le-ltb x.0.1 (length bytes) (omega (arith, x.2)))
            ∙ ap (λ t. Ok (record { stamp = stamp; sets = t })) sets

        pub is_whole : length bytes ≤ reach → IsRead bytes stamp count end
        is_whole le = (is_shown le, lie)
          where
            lie : SetsLie bytes end count (drop 12 bytes)
            lie =
                let x = reach_ok (sets_from bytes end end count 12) reach r in
                let stand : SetsStand bytes count 12 end = rw f at (sets_say bytes count 12) in
                let far : SetsReach bytes end count 12 end x.0.1 = rw x.1 at (reach_says bytes end count 12 end end stand) in
                sets_lie bytes end count 12 end x.0.1 far
