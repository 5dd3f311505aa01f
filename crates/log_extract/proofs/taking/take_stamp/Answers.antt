-- Result after result of the stamp is taken.
use Rattle.std.proofs.Common.{List, [], ◌∷◌, ◌++◌, ◌∙◌, refl, sym, ap, subst, rules}
use Rattle.std.proofs.lemmas.List.Sums.{fold-append}
use Rattle.pcp_base.specs.declared.result.ValueSet.{ValueSet}
use Rattle.pcp_model.specs.Disk.{Files, Holdings, contents_of}
use Rattle.archive_loading.proofs.Looking.{looks_none, looks_on}
use Rattle.archive_merge.specs.Merging.{with_set, with_sets}
use Rattle.archive_reader.specs.declared.fault.ReaderFault.TheVariants.{NoMemory}
use Rattle.log_extract.specs.Cursors.{Leaves}
use Rattle.log_extract.specs.Sources.{IsBroken}
use Rattle.log_extract.proofs.Opening.{broken_on, wanting}
use Rattle.log_extract.proofs.Stamps.{taken_all, taken_on}
use Rattle.log_extract.proofs.taking.take_stamp.Goals as goal

pub loop-init : goal.loop-init
loop-init g c = record {
  same = refl;
  grown = ([], refl);
  ready = c.requires.ready;
  far = λ tells results leaves low rises. record { rest = results; leaves = leaves; low = low; rises = rises; taken = refl; left = refl };
  looks = looks_none g.D.Disk g.met.D.Disk.only_now c.args.disk.now;
  quiet = refl;
}

pub returns-then-not-is_due-clause-takes : goal.returns-then-not-is_due-clause-takes
returns-then-not-is_due-clause-takes g c = λ tells results leaves low rises.
    taken_all (contents_of (g.D.Disk.held c.args.disk.now)) c.args.t results c.args.sets c.loop.all c.loop.cursor (c.loop.invariant.far tells results leaves low rises) (sym c.is_due.ensures ∙ c.if-not-is_due.true)

pub returns-in_err-more-clause-broken : goal.returns-in_err-more-clause-broken
returns-in_err-more-clause-broken g c =
    let why : IsBroken g.D.Disk c.args.disk.now c.advance.new.disk c.in_err-more.field-0.0 = broken_on g.D.Disk c.args.disk.now c.loop.disk c.advance.new.disk c.in_err-more.field-0.0 c.loop.invariant.quiet c.in_err-more.ensures.broken in
    search (rules, why)

pub returns-in_err-more-clause-looks : goal.returns-in_err-more-clause-looks
returns-in_err-more-clause-looks g c = looks_on g.D.Disk c.args.disk.now c.loop.disk c.advance.new.disk c.loop.invariant.looks c.advance.ensures.looks

pub loop-preserved : goal.loop-preserved
loop-preserved g c =
    let files : Files = contents_of (g.D.Disk.held c.args.disk.now) in
    record {
      same = c.advance.ensures.same ∙ c.loop.invariant.same;
      grown = (
        c.loop.invariant.grown.0 ++ c.in_ok-more.more,
        c.in_ok-all.ensures ∙ ap (λ (l : List ValueSet). with_sets l c.in_ok-more.more) c.loop.invariant.grown.1 ∙ sym (fold-append with_set c.args.sets c.loop.invariant.grown.0 c.in_ok-more.more),
      );
      ready = c.in_ok-more.ensures.ready;
      far = λ tells results leaves low rises.
          taken_on files c.args.t results c.args.sets c.loop.all c.in_ok-all.all c.loop.cursor c.advance.new.self c.in_ok-more.more (c.loop.invariant.far tells results leaves low rises) (sym c.is_due.ensures ∙ c.if-not-is_due.false)
          (λ r rs at.
          let on = c.in_ok-more.ensures.leaves tells r rs (subst (λ (h : Holdings). Leaves (contents_of h) c.loop.cursor (r ∷ rs)) (sym (c.loop.invariant.looks.held tells)) at) in
          (on.0, subst (λ (h : Holdings). Leaves (contents_of h) c.advance.new.self rs) (c.loop.invariant.looks.held tells) on.1))
          c.in_ok-all.ensures;
      looks = looks_on g.D.Disk c.args.disk.now c.loop.disk c.advance.new.disk c.loop.invariant.looks c.advance.ensures.looks;
      quiet = c.in_ok-more.ensures.quiet ∙ c.loop.invariant.quiet;
    }

pub returns-in_err-all-clause-broken : goal.returns-in_err-all-clause-broken
returns-in_err-all-clause-broken g c =
    let why : IsBroken g.D.Disk c.args.disk.now c.advance.new.disk NoMemory = wanting g.D.Disk c.args.disk.now c.advance.new.disk in
    search (rules, why)

pub returns-in_err-all-clause-looks : goal.returns-in_err-all-clause-looks
returns-in_err-all-clause-looks g c = looks_on g.D.Disk c.args.disk.now c.loop.disk c.advance.new.disk c.loop.invariant.looks c.advance.ensures.looks

pub returns-clause-broken : goal.returns-clause-broken
returns-clause-broken g c = wanting g.D.Disk c.args.disk.now c.loop.disk
