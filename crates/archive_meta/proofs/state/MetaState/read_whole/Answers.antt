use Rattle.std.proofs.Common.{◌≡◌, take, inr, subst}
use Rattle.archive_meta.specs.Records.{Adds}
use Rattle.archive_meta.proofs.Torn.{has_front, one_front, front_none}
use Rattle.archive_meta.proofs.Frames.{no_room}
use Rattle.archive_meta.proofs.state.MetaState.read_whole.Goals as goal

pub returns-clause-found : goal.returns-clause-found
returns-clause-found c =
    let ok = c.in_ok-end.ensures.ok in
    (has_front c.args.bytes.now c.add_front.new.self c.in_ok-end.end ok.0 (subst (λ b. Adds b (take c.in_ok-end.end c.args.bytes.now) c.add_front.new.self) c.in_ok-meta.ensures ok.1) ok.2).read

pub returns-clause-consistent : goal.returns-clause-consistent
returns-clause-consistent c = let ok = c.in_ok-end.ensures.ok in ok.1.consistent

pub returns-clause-end : goal.returns-clause-end
returns-clause-end c = let ok = c.in_ok-end.ensures.ok in record { within = ok.0; end = inr ok.2 }

pub returns-clause-only : goal.returns-clause-only
returns-clause-only c = λ records end h.
    let ok = c.in_ok-end.ensures.ok in
    let mine = has_front c.args.bytes.now c.add_front.new.self c.in_ok-end.end ok.0 (subst (λ b. Adds b (take c.in_ok-end.end c.args.bytes.now) c.add_front.new.self) c.in_ok-meta.ensures ok.1) ok.2 in
    let same = one_front c.args.bytes.now c.add_front.new.self records c.in_ok-end.end end mine h in
    (same.records, same.end)

pub returns-in_err-end-clause-only : goal.returns-in_err-end-clause-only
returns-in_err-end-clause-only c = λ records end h.
    front_none (λ r all. (r.0 ≡ all) × (r.1 ≡ end)) c.in_ok-meta.meta c.args.bytes.now records end c.from_residual-in_err-end.result c.in_err-end.field-0.0 c.in_ok-meta.ensures c.from_residual-in_err-end.ensures.1 c.in_err-end.ensures.fault h

pub returns-in_err-meta-clause-only : goal.returns-in_err-meta-clause-only
returns-in_err-meta-clause-only c = λ records end h. no_room (λ r all. (r.0 ≡ all) × (r.1 ≡ end)) records c.from_residual.result c.from_residual.ensures.1
