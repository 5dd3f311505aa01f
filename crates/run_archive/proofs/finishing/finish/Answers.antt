-- What was logged is flushed, and told.
use Rattle.std.proofs.Common.{◌≡◌, ◌-◌, ℕ, List, length, min, ap, ◌∙◌, arith}
use Rattle.logging_session.specs.Keeping.{Carried, lost_in}
use Rattle.script_runs.specs.declared.ending.Ending.{Ending}
use Rattle.run_archive.specs.Endings.{before_lost, told_behind}
use Rattle.run_archive.proofs.Flushes.{failing_told, finish_may, told_failing, told_is}
use Rattle.run_archive.proofs.finishing.finish.Goals as goal

pub returns-clause-flushed : goal.returns-clause-flushed
returns-clause-flushed g c = λ goes tells left events start keeps.
    let h = c.flush_last-ending.ensures.flushed (λ is. goes (failing_told c.flush_last-ending.result c.tell-ending.result (λ other. (c.tell-ending.ensures.others other).0) is)) tells left events start keeps in
    (c.flush_last-ending.new.session, h.0, c.flush_last-ending.ensures.same.0, h.1, h.2, h.3)

pub returns-clause-fails : goal.returns-clause-fails
returns-clause-fails g c = λ other is tells left events start keeps.
    c.flush_last-ending.ensures.fails other (told_failing c.flush_last-ending.result c.tell-ending.result (λ o. (c.tell-ending.ensures.others o).0) c.tell-ending.ensures.told is) tells left events start keeps

pub returns-clause-quiet : goal.returns-clause-quiet
returns-clause-quiet g c = λ goes. c.flush_last-ending.ensures.quiet (λ is. goes (failing_told c.flush_last-ending.result c.tell-ending.result (λ other. (c.tell-ending.ensures.others other).0) is))

pub returns-clause-told : goal.returns-clause-told
returns-clause-told g c =
    let marks = c.args.marks.now in
    let was : Carried = c.args.session in
    let now : Carried = c.flush_last-ending.new.session in
    let flushed = c.flush_last-ending.result in
    let last : Ending = c.tell-ending.result in
    let lost : ℕ = c.min-lost.result in
    let least : lost ≡ min (length marks) c.lost.result = c.min-lost.ensures in
    let logged : c.logged.result ≡ was.logged = c.logged.ensures.value ∙ c.flush_last-ending.ensures.same.1 in (
      lost,
      omega (arith, least),
      omega (arith, least, c.lost.ensures.few, c.flush_last-ending.ensures.same.1),
      (λ goes.
          let none : lost_in now.place ≡ 0 = c.flush_last-ending.ensures.unlost (λ is. goes (failing_told flushed last (λ other. (c.tell-ending.ensures.others other).0) is)) in
          omega (arith, least, c.lost.ensures.value, none)),
      ap (λ (n : ℕ). n - lost) logged,
      c.from_vec.ensures ∙ told_is last c.cut_lines.new.out.items c.tell-ending.new.out.items (c.logged.result - lost) flushed c.tell-ending.ensures.others c.tell-ending.ensures.told
          ∙ ap (λ (output : List ℕ). told_behind last output (c.logged.result - lost)) c.cut_lines.ensures
          ∙ ap (λ (n : ℕ). told_behind last (before_lost marks lost c.args.out.items) (n - lost)) logged,
    )

pub returns-clause-cause : goal.returns-clause-cause
returns-clause-cause g c = λ before earlier may.
    let d = g.D.Disk in
    finish_may before (d.faults c.args.disk.now) (d.faults c.flush_last-ending.new.disk) c.args.ending c.flush_last-ending.result c.tell-ending.result earlier c.flush_last-ending.ensures.later c.flush_last-ending.ensures.ends
    c.flush_last-ending.ensures.cause (λ other. (c.tell-ending.ensures.others other).0) c.tell-ending.ensures.told may
