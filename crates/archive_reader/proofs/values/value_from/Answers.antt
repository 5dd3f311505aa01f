use Rattle.std.proofs.Common.{ℕ, List, drop, subst}
use Rattle.std.specs.Prelude.{IfOk}
use Rattle.pcp_model.specs.Disk.{contents_of}
use Rattle.archive_reader.specs.Values.{IsHitAt, ShowsAt}
use Rattle.archive_reader.proofs.Valued.{hit_value}
use Rattle.archive_reader.proofs.values.value_from.Goals as goal

pub returns-in-Some-clause-found : goal.returns-in-Some-clause-found
returns-in-Some-clause-found g c = λ tells.
    let files = contents_of (g.D.Disk.held c.args.disk.now) in
    let volumes : List (ℕ × ℕ) = c.args.volumes.now in
    let place : ℕ × ℕ = c.in-Some.place in
    let hit = subst (IsHitAt files volumes c.args.pmid c.args.t) c.in-Some.is (c.in_ok-place.ensures.found tells) in
    let again = subst (λ h. IfOk c.value_there.result (ShowsAt (contents_of h) (drop place.0 volumes) place.1 c.args.pmid)) (c.last_hit.ensures.looks.held tells) (c.value_there.ensures.found tells) in
    hit_value files volumes c.args.pmid c.args.t place c.value_there.result hit again
