-- What is kept shows one more row, or what it showed.
use Rattle.std.proofs.Common.{sym, ◌∙◌, subst, arith}
use Rattle.rule_watch.specs.Groups.{AreGroups, Grouped}
use Rattle.rule_watch.specs.Watched.{AreWatched}
use Rattle.rule_watch.proofs.GroupSteps.{places_as, rows_as}
use Rattle.rule_watch.proofs.Watching.{answers, on_err, still_rules, still_shows, still_watched, taken_rules, watched_all}
use Rattle.rule_watch.proofs.watch.push_row.Goals as goal

pub returns-in_err-take-clause-watched : goal.returns-in_err-take-clause-watched
returns-in_err-take-clause-watched c = subst (λ names. AreWatched names c.args.rules.now) (sym c.take.ensures.names) c.requires.rules

pub returns-in_err-prepare_rules-clause-watched : goal.returns-in_err-prepare_rules-clause-watched
returns-in_err-prepare_rules-clause-watched c =
    still_watched c.args.rules.now c.prepare_rules.new.rules (omega arith) c.prepare_rules.ensures.stays c.take.new.self.names
    (subst (λ names. AreWatched names c.args.rules.now) (sym c.take.ensures.names) c.requires.rules)

pub returns-in_err-prepare_rules-clause-rules : goal.returns-in_err-prepare_rules-clause-rules
returns-in_err-prepare_rules-clause-rules c = still_rules c.args.rules.now c.prepare_rules.new.rules (omega arith) c.prepare_rules.ensures.stays

pub returns-in_err-prepare_rules-clause-err : goal.returns-in_err-prepare_rules-clause-err
returns-in_err-prepare_rules-clause-err c =
    on_err c.from_residual-in_err-prepare_rules.result (still_shows c.args.rules.now c.prepare_rules.new.rules (omega arith) c.prepare_rules.ensures.stays)

pub returns-clause-watched : goal.returns-clause-watched
returns-clause-watched c =
    let old = c.args.rules.now in
    let mid = c.prepare_rules.new.rules in
    let new = c.take_rows.new.rules in
    let g : Grouped = c.take.new.self in
    let are : AreWatched g.names old = subst (λ names. AreWatched names old) (sym c.take.ensures.names) c.requires.rules in
    let by : AreGroups g.names c.args.row.now g.groups = subst (λ names. AreGroups names c.args.row.now g.groups) (sym c.take.ensures.names) c.in_ok-take.ensures.groups in
    let known = (still_watched old mid (omega arith) c.prepare_rules.ensures.stays g.names are).known in
    watched_all c.args.row.now old mid new (omega arith) (omega arith) c.prepare_rules.ensures.stays (rows_as g.names c.args.row.now g.groups by mid new known c.take_rows.ensures) g.names are

pub returns-clause-rules : goal.returns-clause-rules
returns-clause-rules c =
    let old = c.args.rules.now in
    let mid = c.prepare_rules.new.rules in
    let new = c.take_rows.new.rules in
    let g : Grouped = c.take.new.self in
    let are : AreWatched g.names old = subst (λ names. AreWatched names old) (sym c.take.ensures.names) c.requires.rules in
    let by : AreGroups g.names c.args.row.now g.groups = subst (λ names. AreGroups names c.args.row.now g.groups) (sym c.take.ensures.names) c.in_ok-take.ensures.groups in
    let known = (still_watched old mid (omega arith) c.prepare_rules.ensures.stays g.names are).known in
    taken_rules c.args.row.now old mid new (omega arith) (omega arith) c.prepare_rules.ensures.stays (rows_as g.names c.args.row.now g.groups by mid new known c.take_rows.ensures)

pub returns-clause-ok : goal.returns-clause-ok
returns-clause-ok c =
    let old = c.args.rules.now in
    let mid = c.prepare_rules.new.rules in
    let new = c.take_rows.new.rules in
    let g : Grouped = c.take.new.self in
    let are : AreWatched g.names old = subst (λ names. AreWatched names old) (sym c.take.ensures.names) c.requires.rules in
    let by : AreGroups g.names c.args.row.now g.groups = subst (λ names. AreGroups names c.args.row.now g.groups) (sym c.take.ensures.names) c.in_ok-take.ensures.groups in
    let known = (still_watched old mid (omega arith) c.prepare_rules.ensures.stays g.names are).known in
    let takes = rows_as g.names c.args.row.now g.groups by mid new known c.take_rows.ensures in
    let watched = watched_all c.args.row.now old mid new (omega arith) (omega arith) c.prepare_rules.ensures.stays takes g.names are in
    answers c.args.row.now old mid new (omega arith) (omega arith) c.prepare_rules.ensures.stays takes c.put_numbers.new.numbers.items
    (c.put_numbers.ensures ∙ places_as g.names c.args.row.now g.groups by new watched.known)
