use Rattle.std.proofs.Common.{◌≡◌, ◌+◌, ◌<◌, ◌≤◌, ℕ, List, [], ◌∷◌, ◌-◌, All, length, replicate, length-append, sym, ap, ◌∙◌, subst, arith}
use Rattle.std.proofs.lemmas.List.{length-replicate, get_or_default}
use Rattle.std.proofs.lemmas.List.Elements.{All-append, All-replicate}
use Rattle.region_core.specs.State.{with_zeros}
use Rattle.region_core.specs.Shape.{IsLike, IsWord}
use Rattle.region_rule.specs.Openings.{Told}
use Rattle.region_rule.specs.Views.{IsOneJournal, first_view}
use Rattle.region_rule.proofs.Tokens.{starts}
use Rattle.region_rule.proofs.region.Region.open.Goals as goal

pub of_words-requires : goal.of_words-requires
of_words-requires g c =
    let S = g.S.Shape.shaping in
    let told = c.in_ok-opening.opening in
    let padded : told.words ≡ with_zeros c.args.image.now c.args.capacity = c.in_ok-opening.ensures.0 in
    let like : IsLike S c.args.image.now (with_zeros c.args.image.now c.args.capacity) = c.padding_keeps_the_form.ensures c.args.image.now c.args.capacity c.requires.image c.requires.fits.0 c.requires.fits.1 in
    let fits = c.requires.fits.0 in
    let zeros : List ℕ = replicate (c.args.capacity - length c.args.image.now) 0 in
    let both : length (with_zeros c.args.image.now c.args.capacity) ≡ length c.args.image.now + length zeros = length-append c.args.image.now zeros in
    let rest : length zeros ≡ c.args.capacity - length c.args.image.now = length-replicate (c.args.capacity - length c.args.image.now) 0 in
    let wide : length (with_zeros c.args.image.now c.args.capacity) ≡ c.args.capacity = omega arith in
    subst (λ (n : ℕ). IsOneJournal S told.words n c.cells.result.now (first_view told.words n ∷ [])) (sym c.in_ok-opening.ensures.1)
    (subst (λ (xs : List ℕ). IsOneJournal S told.words c.args.passes xs (first_view told.words c.args.passes ∷ [])) (sym c.cells.ensures)
    (starts S told.words c.args.passes (subst (λ (ws : List ℕ). S.IsImage ws) (sym padded) like.image) (subst (λ (n : ℕ). n ≤ 65536) (sym (ap (λ (ws : List ℕ). length ws) padded ∙ wide)) c.requires.fits.1) (omega (arith, c.requires.passes.1)) c.requires.passes.0))

pub invariant_of-result : goal.invariant_of-result
invariant_of-result g c =
    let told = c.in_ok-opening.opening in
    let e = c.in_ok-table.ensures in
    let image : List ℕ = c.args.image.now in
    let zeros : List ℕ = replicate (c.args.capacity - length image) 0 in
    let whole : List ℕ = with_zeros image c.args.capacity in
    let key = c.in_ok-table.table.shared.key in
    let same : key.words ≡ told.words = ap (λ (t : Told). t.words) e.5 in
    let words : key.words ≡ whole = same ∙ c.in_ok-opening.ensures.0 in
    let fits : length image ≤ c.args.capacity = c.requires.fits.0 in
    let both : length whole ≡ length image + length zeros = length-append image zeros in
    let rest : length zeros ≡ c.args.capacity - length image = length-replicate (c.args.capacity - length image) 0 in
    let long : length key.words ≡ length whole = ap (λ (ws : List ℕ). length ws) words in
    let told_long : length key.words ≡ length told.words = ap (λ (ws : List ℕ). length ws) same in
    let cells : length c.cells.result.now ≡ length told.words + 1 = ap (λ (ws : List ℕ). length ws) c.cells.ensures ∙ omega arith in
    let count = e.0 in
    let least : 2 < length image = (g.S.Shape.laws.generations image c.requires.image).0 in
    let given : All IsWord image = λ (k d : ℕ) (h : k < length image). omega (arith, c.type_inv.image k, get_or_default image k d 0 h) in
    let each : All IsWord whole = All-append IsWord image zeros given (All-replicate IsWord (c.args.capacity - length image) 0 (omega arith)) in (
      omega arith,
      omega arith,
      omega arith,
      e.1,
      subst (λ (ws : List ℕ). All IsWord ws) (sym words) each,
    )
