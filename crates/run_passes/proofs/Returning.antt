-- The seat gathers passes that do nothing: those that are left stay as they were, and the seat has seen nothing new.
use Rattle.std.proofs.Common.{◌≡◌, ◌≢◌, ℕ, ◌+◌, ◌≤◌, List, [], ◌∷◌, ◌++◌, length, length-append, slice_get, Some, ⊎_elim, sym, ap, ◌∙◌, subst, arith}
use Rattle.std.specs.Global.{Vec}
use Rattle.std.proofs.lemmas.Option.{slice_get_within}
use Rattle.region_rule.specs.Seats.{Token}
use Rattle.fetch_engine.specs.declared.server.Mounted.{Mounted}
use Rattle.run_passes.specs.Lasts.{IsLastPass}
use Rattle.run_passes.specs.Openings.{AreWaiting, SeesTheSame, idle_crew}
use Rattle.run_passes.specs.Sweeps.{GatheredAt}
use Rattle.run_passes.specs.Turns.{IsCrewAt}
use Rattle.run_passes.proofs.Crewing.{get_set_other, same_or_other}
use Rattle.run_passes.proofs.Finals.{get_front}
use Rattle.run_passes.proofs.Lasting.{last_pass}
use Rattle.run_passes.proofs.Seated.{the_one, now_at}

pub sees_itself : (seat : List Token) → SeesTheSame seat seat
sees_itself seat j before after e f =
    let same : after ≡ before = the_one seat j after before f e in
    (ap (λ (t : Token). t.region) same, ap (λ (t : Token). t.view.seen) same)

-- the passes from one position on have gathered all others
abbrev pub AreLastFrom : ℕ → List Token → Type 0
AreLastFrom n seat = (j : ℕ) (token : Token) → n ≤ j → slice_get seat j ≡ Some token → IsLastPass token

module _ (server : List Mounted) (lists rest : List (Vec Token)) (list : Vec Token) (seat later : List Token) (is : lists ≡ rest ++ list ∷ []) (gathered : GatheredAt server (length rest) 0 (idle_crew list.items) seat later) where
  else_where : (j : ℕ) → j ≢ length rest → slice_get later j ≡ slice_get seat j
  else_where j other = ap (λ (l : List Token). slice_get l j) gathered.is ∙ get_set_other seat (length rest) j gathered.after other

  pub waiting_still : AreWaiting server lists seat → AreWaiting server rest later
  waiting_still waiting j own there =
      let within = slice_get_within rest j own there in
      let before : IsCrewAt server j (idle_crew own.items) seat = waiting j own (ap (λ (l : List (Vec Token)). slice_get l j) is ∙ (get_front rest (list ∷ []) j within ∙ there)) in
      record {
        region = before.region;
        placed = before.placed;
        logger = before.logger;
        there = else_where j (λ same. absurd (omega arith)) ∙ before.there;
        is_crew = before.is_crew;
      }

  pub last_still : AreLastFrom (length lists) seat → AreLastFrom (length rest) later
  last_still last j token far e = ⊎_elim
      (λ (here : j ≡ length rest).
      let now : slice_get later j ≡ Some gathered.after = ap (λ (i : ℕ). slice_get later i) here ∙ now_at seat later (length rest) gathered.before gathered.after gathered.was gathered.is in
      subst (λ (t : Token). IsLastPass t) (the_one later j gathered.after token now e) (last_pass gathered.region (idle_crew list.items) gathered.before gathered.after gathered.is_crew gathered.gathered))
      (λ (other : j ≢ length rest).
      let many : length lists ≡ length rest + 1 = ap (λ (l : List (Vec Token)). length l) is ∙ length-append rest (list ∷ []) in
      last j token (omega arith) (sym (else_where j other) ∙ e))
      (same_or_other j (length rest))

  pub sees_still : (start : List Token) → SeesTheSame start seat → SeesTheSame start later
  sees_still start same j before after e f = ⊎_elim
      (λ (here : j ≡ length rest).
      let was : slice_get seat j ≡ Some gathered.before = ap (λ (i : ℕ). slice_get seat i) here ∙ gathered.was in
      let kept = same j before gathered.before e was in
      let now : slice_get later j ≡ Some gathered.after = ap (λ (i : ℕ). slice_get later i) here ∙ now_at seat later (length rest) gathered.before gathered.after gathered.was gathered.is in
      let after_is : after ≡ gathered.after = the_one later j after gathered.after f now in
      let region : gathered.after.region ≡ gathered.before.region = gathered.gathered.last.region_is ∙ sym gathered.is_crew.last.region_is in (
        ap (λ (t : Token). t.region) after_is ∙ (region ∙ kept.0),
        ap (λ (t : Token). t.view.seen) after_is ∙ (gathered.gathered.seen ∙ kept.1),
      ))
      (λ (other : j ≢ length rest). same j before after e (sym (else_where j other) ∙ f))
      (same_or_other j (length rest))
