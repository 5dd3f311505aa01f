-- The first result is found, or there is none.
use Rattle.std.proofs.Common.{ℕ, List, refl, subst, Some, None}
use Rattle.pcp_model.specs.Disk.{Files, contents_of}
use Rattle.log_extract.specs.Cursors.{IsNextSample}
use Rattle.log_extract.proofs.Stamps.{stands_now, start_stands}
use Rattle.log_extract.proofs.cursor.Cursor.at_first.Goals as goal

pub next_sample-requires-clause-ready : goal.next_sample-requires-clause-ready
next_sample-requires-clause-ready g c = λ tells.
    let (items, all) = c.requires.ready tells in
    (items, start_stands (contents_of (g.D.Disk.held c.args.disk.now)) c.args.reader.volumes c.start-start.result items c.start-start.ensures.volume c.start-start.ensures.offset all)

pub returns-in-Some-clause-leaves : goal.returns-in-Some-clause-leaves
returns-in-Some-clause-leaves g c = λ tells items all.
    let files : Files = contents_of (g.D.Disk.held c.args.disk.now) in
    let vs : List (ℕ × ℕ) = c.args.reader.volumes in
    let found = c.in_ok-next.ensures.found tells items (start_stands files vs c.start-start.result items c.start-start.ensures.volume c.start-start.ensures.offset all) in
    stands_now files c.args.reader _ items (Some (c.in-Some.next, c.in-Some.place)) (c.requires.over tells) refl (refl, refl) (subst (IsNextSample files vs items) c.in-Some.is found)

pub returns-in-None-clause-leaves : goal.returns-in-None-clause-leaves
returns-in-None-clause-leaves g c = λ tells items all.
    let files : Files = contents_of (g.D.Disk.held c.args.disk.now) in
    let vs : List (ℕ × ℕ) = c.args.reader.volumes in
    let found = c.in_ok-next.ensures.found tells items (start_stands files vs c.start-start.result items c.start-start.ensures.volume c.start-start.ensures.offset all) in
    stands_now files c.args.reader _ items None (c.requires.over tells) refl refl (subst (IsNextSample files vs items) c.in-None.is found)
