-- The item that a search answers, or that there is none.
use Rattle.std.proofs.Common.{rules, inl, inr, refl, ap, subst, ◌∙◌, Some, None}
use Rattle.pcp_base.specs.Time.{Moment}
use Rattle.pcp_model.specs.Disk.{Holdings, contents_of}
use Rattle.archive_loading.proofs.Looking.{looks_on}
use Rattle.archive_loading.specs.Loaded.{Loaded, IsOver}
use Rattle.archive_reader.specs.Asked.{at_begin, IsAtFrom}
use Rattle.pm_print.specs.Items.{item_text}
use Rattle.pm_words.specs.Refusals.{reader_refusal}
use Rattle.pm_words.specs.Sides.{disk_side}
use Rattle.pm_tasks.specs.Archives.{TurnedAway}
use Rattle.pm_tasks.specs.commands.at.{IsTurnedAway, IsStopped}
use Rattle.pm_tasks.proofs.Asking.{not_loaded, is_loaded, asked_turned, still_over}
use Rattle.archive_reader.specs.Takes.{TakesAt}
use Rattle.pm_tasks.proofs.Taken.{took_labels, took_at}
use Rattle.pm_tasks.proofs.Timed.{at_stops, at_scan}
use Rattle.pm_tasks.proofs.commands.at.find_item.Goals as goal

pub returns-in_err-reader-clause-turned : goal.returns-in_err-reader-clause-turned
returns-in_err-reader-clause-turned g c =
    let away = not_loaded g.D.Disk (IsTurnedAway c.args.t) (λ f e n. inl n) c.args.disk.now c.load.new.disk c.in_err-reader.field-0.0 c.in_err-reader.ensures.fault c.in_err-reader.ensures.cause in
    search (rules, away)

pub at-requires : goal.at-requires
at-requires g c = λ tells. still_over g.D.Disk (λ files. IsOver files c.in_ok-reader.reader) c.args.disk.now c.load.new.disk c.load.ensures.looks c.in_ok-reader.ensures.loaded tells

pub returns-in_err-found-clause-turned : goal.returns-in_err-found-clause-turned
returns-in_err-found-clause-turned g c =
    let r : Loaded = c.in_ok-reader.reader in
    let away : TurnedAway (IsTurnedAway c.args.t) (disk_side g.D.Disk c.args.disk.now c.at.new.disk) (reader_refusal c.in_err-found.field-0.0) =
    asked_turned g.D.Disk (IsStopped c.args.t) r c.args.disk.now c.load.new.disk c.at.new.disk c.load.ensures.looks (λ tells. is_loaded g.D.Disk c.args.disk.now c.load.new.disk c.at.new.disk r tells c.in_ok-reader.ensures.loaded c.in_ok-reader.ensures.unwrapped)
    (reader_refusal c.in_err-found.field-0.0) (at_stops g.D.Disk r c.load.new.disk c.at.new.disk c.args.t c.in_err-found.field-0.0 c.in_err-found.ensures.fault c.in_err-found.ensures.cause) in
    search (rules, away)

pub returns-in_err-found-clause-looks : goal.returns-in_err-found-clause-looks
returns-in_err-found-clause-looks g c = looks_on g.D.Disk c.args.disk.now c.load.new.disk c.at.new.disk c.load.ensures.looks c.at.ensures.looks

pub returns-in_err-text-in-Some-clause-looks : goal.returns-in_err-text-in-Some-clause-looks
returns-in_err-text-in-Some-clause-looks g c = looks_on g.D.Disk c.args.disk.now c.load.new.disk c.at.new.disk c.load.ensures.looks c.at.ensures.looks

pub returns-in-Some-clause-looks : goal.returns-in-Some-clause-looks
returns-in-Some-clause-looks g c = looks_on g.D.Disk c.args.disk.now c.load.new.disk c.at.new.disk c.load.ensures.looks c.at.ensures.looks

pub returns-clause-looks : goal.returns-clause-looks
returns-clause-looks g c = looks_on g.D.Disk c.args.disk.now c.load.new.disk c.at.new.disk c.load.ensures.looks c.at.ensures.looks

pub returns-in-Some-clause-said : goal.returns-in-Some-clause-said
returns-in-Some-clause-said g c = λ tells.
    let r : Loaded = c.in_ok-reader.reader in
    let t : Moment = c.args.t in
    let found = subst (λ (h : Holdings). IsAtFrom (contents_of h) r.volumes t (at_begin r t) c.in_ok-found.found) (c.load.ensures.looks.held tells) (c.in_ok-found.ensures.found tells) in
    let is = subst (IsAtFrom (contents_of (g.D.Disk.held c.args.disk.now)) r.volumes t (at_begin r t)) c.in-Some.is found in (
      r,
      is_loaded g.D.Disk c.args.disk.now c.load.new.disk c.at.new.disk r tells c.in_ok-reader.ensures.loaded c.in_ok-reader.ensures.unwrapped,
      c.in-Some.item,
      is,
      at_scan t (record { files = contents_of (g.D.Disk.held c.args.disk.now); wrapped = g.D.Disk.wrapped_file c.args.disk.now }) r (Some c.in-Some.item) (c.in_ok-reader.ensures.loaded tells) is,
      c.in_ok-text-in-Some.ensures ∙ ap (λ records. item_text records c.in-Some.item) (c.meta.ensures ∙ ap (λ (s : Loaded). s.records) c.at.ensures.same),
    )

pub returns-clause-turned : goal.returns-clause-turned
returns-clause-turned g c = λ tells.
    let r : Loaded = c.in_ok-reader.reader in
    let t : Moment = c.args.t in
    let found = subst (λ (h : Holdings). IsAtFrom (contents_of h) r.volumes t (at_begin r t) c.in_ok-found.found) (c.load.ensures.looks.held tells) (c.in_ok-found.ensures.found tells) in
    let is = subst (IsAtFrom (contents_of (g.D.Disk.held c.args.disk.now)) r.volumes t (at_begin r t)) c.in-None.is found in
    inr (
      r,
      is_loaded g.D.Disk c.args.disk.now c.load.new.disk c.at.new.disk r tells c.in_ok-reader.ensures.loaded c.in_ok-reader.ensures.unwrapped,
      (refl, is, at_scan t (record { files = contents_of (g.D.Disk.held c.args.disk.now); wrapped = g.D.Disk.wrapped_file c.args.disk.now }) r None (c.in_ok-reader.ensures.loaded tells) is),
    )

pub returns-in_err-reader-clause-taken : goal.returns-in_err-reader-clause-taken
returns-in_err-reader-clause-taken g c = took_labels g.D.Disk c.args.disk.now c.load.new.disk c.load.new.disk (λ r. TakesAt (contents_of (g.D.Disk.held c.args.disk.now)) r.volumes c.args.t (at_begin r c.args.t)) c.load.ensures.taken

pub returns-in_err-found-clause-taken : goal.returns-in_err-found-clause-taken
returns-in_err-found-clause-taken g c = took_at g.D.Disk c.args.disk.now c.load.new.disk c.at.new.disk c.args.t c.in_ok-reader.reader c.load.ensures.looks c.in_ok-reader.ensures.loaded c.load.ensures.taken c.at.ensures.taken

pub returns-in_err-text-in-Some-clause-taken : goal.returns-in_err-text-in-Some-clause-taken
returns-in_err-text-in-Some-clause-taken g c = took_at g.D.Disk c.args.disk.now c.load.new.disk c.at.new.disk c.args.t c.in_ok-reader.reader c.load.ensures.looks c.in_ok-reader.ensures.loaded c.load.ensures.taken c.at.ensures.taken

pub returns-in-Some-clause-taken : goal.returns-in-Some-clause-taken
returns-in-Some-clause-taken g c = took_at g.D.Disk c.args.disk.now c.load.new.disk c.at.new.disk c.args.t c.in_ok-reader.reader c.load.ensures.looks c.in_ok-reader.ensures.loaded c.load.ensures.taken c.at.ensures.taken

pub returns-clause-taken : goal.returns-clause-taken
returns-clause-taken g c = took_at g.D.Disk c.args.disk.now c.load.new.disk c.at.new.disk c.args.t c.in_ok-reader.reader c.load.ensures.looks c.in_ok-reader.ensures.loaded c.load.ensures.taken c.at.ensures.taken
