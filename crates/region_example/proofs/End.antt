-- A pass that has ended the only other one shows all that both did.
use Rattle.std.proofs.Common.{◌≡◌, ◌≢◌, ℕ, ◌+◌, ◌<◌, ◌==◌, List, ◌++◌, sym, ◌∙◌, ap, subst, arith}
use Rattle.region_core.specs.Journal.{state, own, IsJournal}
use Rattle.region_rule.specs.declared.view.View.{View}
use Rattle.region_rule.specs.Views.{count, one_if, opening_of}
use Rattle.region_rule.specs.Tokens.{HasLists, IsLast, after_gathering}
use Rattle.region_rule.specs.Calls.{Gathers}
use Rattle.region_rule.specs.Reads.{ReadsImage}
use Rattle.region_rule.proofs.Gathered.{reads_words}
use Rattle.region_words.specs.Images.{mmv}
use Rattle.region_example.specs.Counts.{ShowsAll}

one_more : (more : ℕ) → 0 < one_if (1 == 1) + more
one_more more = omega arith

-- it has gathered every other one
last_of_two : (v w : View) → v.passes ≡ 2 → v.number ≡ 0 → w.number ≡ 1 → IsLast (after_gathering v w)
last_of_two v w two first second k below other =
    let few : k < v.passes = below in
    let another : k ≢ v.number = other in
    let is : k ≡ 1 = omega arith in
    subst (λ (n : ℕ). 0 < one_if (n == k) + count k (w.kept ++ v.kept)) (sym second) (subst (λ (j : ℕ). 0 < one_if (1 == j) + count k (w.kept ++ v.kept)) (sym is) (one_more (count k (w.kept ++ v.kept))))

pub shows_all : (v w all after : View) (words : List ℕ) → v.passes ≡ 2 → v.number ≡ 0 → w.number ≡ 1 → Gathers mmv v w all → ReadsImage mmv all words after → ShowsAll v w words
shows_all v w all after words two first second g r =
    let last : IsLast all = subst (λ (x : View). IsLast x) (sym g.is) (last_of_two v w two first second) in
    let lists : HasLists all.seen (after_gathering v w).kept = subst (λ (x : View). HasLists all.seen x.kept) g.is g.knows.lists in
    record {
      log = all.seen;
      journal = subst (λ (x : View). IsJournal mmv x.start x.passes all.seen) g.is g.knows.journal;
      first = ap (λ (x : View). own x.number all.seen) (sym g.is) ∙ g.knows.had ∙ ap (λ (x : View). x.own) g.is;
      second = lists.0;
      words_are = reads_words mmv all after r.generation r.generation words r.loads last r.whole ∙ ap (λ (x : View). (state (opening_of x) all.seen).words) g.is;
    }
