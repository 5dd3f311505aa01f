-- The next record is a result's, or a mark's that is passed over, or there is none.
use Rattle.std.proofs.Common.{◌≡◌, ℕ, List, ◌∙◌, refl, sym, subst, rules, Some}
use Rattle.pcp_base.specs.declared.result.Item.{Item}
use Rattle.pcp_base.specs.declared.result.Item.TheVariants.{Sample}
use Rattle.pcp_base.specs.declared.result.PmResult.{PmResult}
use Rattle.pcp_model.specs.Disk.{Files, Holdings, contents_of}
use Rattle.pcp_outside.specs.Causes.{Rose}
use Rattle.archive_loading.specs.Loaded.{IsOver}
use Rattle.archive_loading.proofs.Looking.{looks_none, looks_on}
use Rattle.archive_reader.specs.Nexts.{IsNext, IsNextFault}
use Rattle.log_extract.specs.Sources.{IsBroken}
use Rattle.log_extract.proofs.Opening.{wanting}
use Rattle.log_extract.proofs.Reading.{lack_follows, mark_follows, none_follows, sample_follows}
use Rattle.log_extract.proofs.cursor.next_sample.Goals as goal

pub loop-init : goal.loop-init
loop-init g c = record {
  far = λ tells items stand. record { rest = items; stand = stand; same = refl };
  looks = looks_none g.D.Disk g.met.D.Disk.only_now c.args.disk.now;
  quiet = refl;
}

pub view_at-requires : goal.view_at-requires
view_at-requires g c = λ tells. subst (λ (h : Holdings). IsOver (contents_of h) c.args.reader.now) (sym (c.loop.invariant.looks.held tells)) (c.requires.over tells)

pub returns-in_err-view_at-clause-broken : goal.returns-in_err-view_at-clause-broken
returns-in_err-view_at-clause-broken g c =
    let files : Files = contents_of (g.D.Disk.held c.args.disk.now) in
    let vs : List (ℕ × ℕ) = c.args.reader.now.volumes in
    let e = c.in_err-view_at.field-0.0 in
    let why : IsBroken g.D.Disk c.args.disk.now c.view_at.new.disk e = record {
      why = λ tells.
          let (items, stand) = c.requires.ready tells in
          lack_follows files vs c.loop.at items e (c.loop.invariant.far tells items stand)
          (subst (λ (h : Holdings). IsNextFault (contents_of h) vs c.loop.at e) (c.loop.invariant.looks.held tells) (c.in_err-view_at.ensures.fault tells));
      blamed = λ is. subst (λ (n : ℕ). Rose n (g.D.Disk.faults c.view_at.new.disk)) c.loop.invariant.quiet (c.in_err-view_at.ensures.cause is);
    } in
    search (rules, why)

pub returns-in_err-view_at-clause-looks : goal.returns-in_err-view_at-clause-looks
returns-in_err-view_at-clause-looks g c = looks_on g.D.Disk c.args.disk.now c.loop.disk c.view_at.new.disk c.loop.invariant.looks c.view_at.ensures.looks

pub returns-in_err-result-in-Some-clause-looks : goal.returns-in_err-result-in-Some-clause-looks
returns-in_err-result-in-Some-clause-looks g c = looks_on g.D.Disk c.args.disk.now c.loop.disk c.view_at.new.disk c.loop.invariant.looks c.view_at.ensures.looks

pub returns-in-None-clause-found : goal.returns-in-None-clause-found
returns-in-None-clause-found g c = λ tells items stand.
    let files : Files = contents_of (g.D.Disk.held c.args.disk.now) in
    let vs : List (ℕ × ℕ) = c.args.reader.now.volumes in
    let found = subst (λ (h : Holdings). IsNext (contents_of h) vs c.loop.at c.in_ok-view_at.field-0) (c.loop.invariant.looks.held tells) (c.in_ok-view_at.ensures.found tells) in
    none_follows files vs c.loop.at items (c.loop.invariant.far tells items stand) (subst (IsNext files vs c.loop.at) c.in-None.is found)

pub returns-in-None-clause-looks : goal.returns-in-None-clause-looks
returns-in-None-clause-looks g c = looks_on g.D.Disk c.args.disk.now c.loop.disk c.view_at.new.disk c.loop.invariant.looks c.view_at.ensures.looks

pub returns-in-Sample-clause-found : goal.returns-in-Sample-clause-found
returns-in-Sample-clause-found g c = λ tells items stand.
    let files : Files = contents_of (g.D.Disk.held c.args.disk.now) in
    let vs : List (ℕ × ℕ) = c.args.reader.now.volumes in
    let found = subst (λ (h : Holdings). IsNext (contents_of h) vs c.loop.at c.in_ok-view_at.field-0) (c.loop.invariant.looks.held tells) (c.in_ok-view_at.ensures.found tells) in
    let one = subst (λ (x : Item). IsNext files vs c.loop.at (Some (x, c.in-Some.behind))) (sym c.in_ok-result-in-Some.ensures ∙ c.in-Sample.is) (subst (IsNext files vs c.loop.at) c.in-Some.is found) in
    sample_follows files vs c.loop.at items c.in-Sample.result c.in-Some.behind (c.loop.invariant.far tells items stand) one

pub returns-in-Sample-clause-looks : goal.returns-in-Sample-clause-looks
returns-in-Sample-clause-looks g c = looks_on g.D.Disk c.args.disk.now c.loop.disk c.view_at.new.disk c.loop.invariant.looks c.view_at.ensures.looks

pub loop-preserved : goal.loop-preserved
loop-preserved g c = record {
  far = λ tells items stand.
      let files : Files = contents_of (g.D.Disk.held c.args.disk.now) in
      let vs : List (ℕ × ℕ) = c.args.reader.now.volumes in
      let found = subst (λ (h : Holdings). IsNext (contents_of h) vs c.loop.at c.in_ok-view_at.field-0) (c.loop.invariant.looks.held tells) (c.in_ok-view_at.ensures.found tells) in
      mark_follows files vs c.loop.at items c.in-Some.item c.in-Some.behind (λ (r : PmResult) (e : c.in-Some.item ≡ Sample r). let mark = c.in-Mark.is in let made = c.in_ok-result-in-Some.ensures in absurd (cc)) (c.loop.invariant.far tells items stand) (subst (IsNext files vs c.loop.at) c.in-Some.is found);
  looks = looks_on g.D.Disk c.args.disk.now c.loop.disk c.view_at.new.disk c.loop.invariant.looks c.view_at.ensures.looks;
  quiet = c.in_ok-view_at.ensures.quiet ∙ c.loop.invariant.quiet;
}

pub returns-clause-broken : goal.returns-clause-broken
returns-clause-broken g c = wanting g.D.Disk c.args.disk.now c.loop.disk
