-- The first name that isn't before the front tells whether one begins with it.
use Rattle.std.proofs.Common.{ℕ, List, sym, ap, ◌∙◌}
use Rattle.std.specs.Prelude.{nat_eq}
use Rattle.std.specs.List.{list_any, starts_with}
use Rattle.pmns_core.specs.Pairs.{Pair}
use Rattle.pmns_core.specs.Tables.{pairs_of}
use Rattle.pmns_core.proofs.Tables.{front_seen, head_begins}
use Rattle.pmns_core.proofs.table.is_continued.Goals as goal

pub returns-in-Some : goal.returns-in-Some
returns-in-Some c =
    let front = c.in_ok-front.front.items in
    c.starts_with.ensures.value
    ∙ ap (λ (bs : List ℕ). starts_with nat_eq bs c.as_slice-in-Some.result.now) c.as_slice.ensures.value
    ∙ ap (λ (bs : List ℕ). starts_with nat_eq c.in-Some.key.now.items bs) c.as_slice-in-Some.ensures.value
    ∙ ap (head_begins front) (sym c.in-Some.ensures.steps)
    ∙ ap (head_begins front) (c.range.ensures.between tt)
    ∙ sym (front_seen front c.args.table.now.entries c.requires)
    ∙ ap (λ (bs : List ℕ). list_any (λ (p : Pair). starts_with nat_eq p.0 bs) (pairs_of c.args.table.now)) c.in_ok-front.ensures

pub returns : goal.returns
returns c =
    let front = c.in_ok-front.front.items in
    ap (head_begins front) (sym c.in-None.ensures.steps.0)
    ∙ ap (head_begins front) (c.range.ensures.between tt)
    ∙ sym (front_seen front c.args.table.now.entries c.requires)
    ∙ ap (λ (bs : List ℕ). list_any (λ (p : Pair). starts_with nat_eq p.0 bs) (pairs_of c.args.table.now)) c.in_ok-front.ensures
