-- The result behind is found, or there is none.
use Rattle.std.proofs.Common.{◌≡◌, ℕ, List, ◌∷◌, refl, sym, subst, Some, None}
use Rattle.pcp_model.specs.Disk.{Files, Holdings, contents_of}
use Rattle.archive_loading.proofs.Looking.{looks_none}
use Rattle.log_extract.specs.declared.cursor.Cursor.{Cursor}
use Rattle.log_extract.specs.Cursors.{IsNextSample, Leaves}
use Rattle.log_extract.proofs.Opening.{wanting}
use Rattle.log_extract.proofs.Stamps.{GoesOn, HasNext, goes_on, goes_to, has_next}
use Rattle.log_extract.proofs.cursor.Cursor.advance.Goals as goal

pub returns-in_default-clause-broken : goal.returns-in_default-clause-broken
returns-in_default-clause-broken g c = wanting g.D.Disk c.args.disk.now c.args.disk.now

pub returns-in_default-clause-looks : goal.returns-in_default-clause-looks
returns-in_default-clause-looks g c = looks_none g.D.Disk g.met.D.Disk.only_now c.args.disk.now

pub next_sample-requires-clause-over : goal.next_sample-requires-clause-over
next_sample-requires-clause-over g c = λ tells. (c.requires.ready tells).1.over

pub next_sample-requires-clause-ready : goal.next_sample-requires-clause-ready
next_sample-requires-clause-ready g c = λ tells.
    let (results, leaves) = c.requires.ready tells in
    let is : c.args.self.now.next ≡ Some c.in-Some.result = cc (c.take.ensures.value, c.in-Some.is) in
    let h : HasNext (contents_of (g.D.Disk.held c.args.disk.now)) c.args.self.now c.in-Some.result results = has_next (contents_of (g.D.Disk.held c.args.disk.now)) c.args.self.now c.in-Some.result results is leaves in
    (h.items, h.stand)

pub returns-in-Some-2-clause-leaves : goal.returns-in-Some-2-clause-leaves
returns-in-Some-2-clause-leaves g c = λ tells r results leaves.
    let files : Files = contents_of (g.D.Disk.held c.args.disk.now) in
    let vs : List (ℕ × ℕ) = c.args.self.now.reader.volumes in
    let is : c.args.self.now.next ≡ Some c.in-Some.result = cc (c.take.ensures.value, c.in-Some.is) in
    let now : Cursor = record { reader = c.args.self.now.reader; place = c.in-Some-2.place; next = Some c.in-Some-2.next; frame = c.next_sample.new.frame } in
    goes_to files c.in-Some.result r results now
    (goes_on files c.args.self.now now c.in-Some.result (r ∷ results) (Some (c.in-Some-2.next, c.in-Some-2.place)) refl (refl, refl) is leaves
    (λ items stand. subst (IsNextSample files vs items) c.in-Some-2.is (c.in_ok-next.ensures.found tells items stand)))

pub returns-in-Some-2-clause-ready : goal.returns-in-Some-2-clause-ready
returns-in-Some-2-clause-ready g c = λ tells.
    let files : Files = contents_of (g.D.Disk.held c.args.disk.now) in
    let vs : List (ℕ × ℕ) = c.args.self.now.reader.volumes in
    let (results, leaves) = c.requires.ready tells in
    let is : c.args.self.now.next ≡ Some c.in-Some.result = cc (c.take.ensures.value, c.in-Some.is) in
    let now : Cursor = record { reader = c.args.self.now.reader; place = c.in-Some-2.place; next = Some c.in-Some-2.next; frame = c.next_sample.new.frame } in
    let on : GoesOn files c.in-Some.result results now =
    goes_on files c.args.self.now now c.in-Some.result results (Some (c.in-Some-2.next, c.in-Some-2.place)) refl (refl, refl) is leaves
    (λ items stand. subst (IsNextSample files vs items) c.in-Some-2.is (c.in_ok-next.ensures.found tells items stand)) in
    (on.rest, subst (λ (h : Holdings). Leaves (contents_of h) now on.rest) (sym (c.next_sample.ensures.looks.held tells)) on.leaves)

pub returns-in-None-clause-leaves : goal.returns-in-None-clause-leaves
returns-in-None-clause-leaves g c = λ tells r results leaves.
    let files : Files = contents_of (g.D.Disk.held c.args.disk.now) in
    let vs : List (ℕ × ℕ) = c.args.self.now.reader.volumes in
    let is : c.args.self.now.next ≡ Some c.in-Some.result = cc (c.take.ensures.value, c.in-Some.is) in
    let none : c.take.new.self ≡ None = cc (c.take.ensures.after) in
    let now : Cursor = record { reader = c.args.self.now.reader; place = c.args.self.now.place; next = c.take.new.self; frame = c.next_sample.new.frame } in
    goes_to files c.in-Some.result r results now
    (goes_on files c.args.self.now now c.in-Some.result (r ∷ results) None refl none is leaves
    (λ items stand. subst (IsNextSample files vs items) c.in-None.is (c.in_ok-next.ensures.found tells items stand)))

pub returns-in-None-clause-ready : goal.returns-in-None-clause-ready
returns-in-None-clause-ready g c = λ tells.
    let files : Files = contents_of (g.D.Disk.held c.args.disk.now) in
    let vs : List (ℕ × ℕ) = c.args.self.now.reader.volumes in
    let (results, leaves) = c.requires.ready tells in
    let is : c.args.self.now.next ≡ Some c.in-Some.result = cc (c.take.ensures.value, c.in-Some.is) in
    let none : c.take.new.self ≡ None = cc (c.take.ensures.after) in
    let now : Cursor = record { reader = c.args.self.now.reader; place = c.args.self.now.place; next = c.take.new.self; frame = c.next_sample.new.frame } in
    let on : GoesOn files c.in-Some.result results now =
    goes_on files c.args.self.now now c.in-Some.result results None refl none is leaves
    (λ items stand. subst (IsNextSample files vs items) c.in-None.is (c.in_ok-next.ensures.found tells items stand)) in
    (on.rest, subst (λ (h : Holdings). Leaves (contents_of h) now on.rest) (sym (c.next_sample.ensures.looks.held tells)) on.leaves)
