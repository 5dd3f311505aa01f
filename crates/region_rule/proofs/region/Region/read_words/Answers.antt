use Rattle.std.proofs.Common.{◌≡◌, ℕ, List, length, sym, ap, ◌∙◌, subst, arith}
use Rattle.region_rule.specs.Seats.{MadeRegion, Token}
use Rattle.region_rule.specs.Reads.{WholeReading, numbered_from, ReadsImage, ReadsAgain}
use Rattle.region_rule.proofs.Showing.{disagrees, reads_image}
use Rattle.region_rule.proofs.region.Region.read_words.Goals as goal

pub returns-then-first-last-clause-reads : goal.returns-then-first-last-clause-reads
returns-then-first-last-clause-reads g c =
    let S = g.S.Shape.shaping in
    let v = c.pass.inside.seat.me.0 in
    let w = c.load_first-last.new.seat.me.0 in
    let words : List ℕ = c.load_all.new.words.items in
    let made = c.in_ok-words.ensures in
    let start : v.start ≡ c.self.inside.table.shared.key.words = ap (λ (t : Token). t.region.words) c.pass.view_is ∙ ap (λ (p : MadeRegion). p.words) c.requires.here ∙ sym (ap (λ (p : MadeRegion). p.words) c.self.view_is) in
    let many : length words ≡ c.self.inside.capacity = omega (arith, c.load_all.ensures.wide, made.len) in
    let whole : length words ≡ length v.start = many ∙ sym c.self.invariant.1 ∙ sym (ap length start) in
    let loads : WholeReading S v c.load_second-first.result (numbered_from 0 words) c.load_first-last.result w = record {
      begun = c.load_second-first.new.seat.me.0;
      opens = c.load_second-first.ensures.tells.0;
      ended = c.load_all.new.seat.me.0;
      each = c.load_all.ensures.reads;
      closes = c.load_first-last.ensures.tells.0;
    } in
    subst (λ (t : Token). ReadsAgain S t.view c.load_second-first.result c.load_first-last.result w) c.pass.view_is
    (record { words = words; whole = whole; loads = loads; differ = c.if-first-last.true; again = disagrees S v w c.load_second-first.result c.load_first-last.result (numbered_from 0 words) loads c.if-first-last.true })

pub returns-clause-reads : goal.returns-clause-reads
returns-clause-reads g c =
    let S = g.S.Shape.shaping in
    let v = c.pass.inside.seat.me.0 in
    let w = c.load_first-last.new.seat.me.0 in
    let words : List ℕ = c.load_all.new.words.items in
    let made = c.in_ok-words.ensures in
    let start : v.start ≡ c.self.inside.table.shared.key.words = ap (λ (t : Token). t.region.words) c.pass.view_is ∙ ap (λ (p : MadeRegion). p.words) c.requires.here ∙ sym (ap (λ (p : MadeRegion). p.words) c.self.view_is) in
    let many : length words ≡ c.self.inside.capacity = omega (arith, c.load_all.ensures.wide, made.len) in
    let whole : length words ≡ length v.start = many ∙ sym c.self.invariant.1 ∙ sym (ap length start) in
    let loads : WholeReading S v c.load_second-first.result (numbered_from 0 words) c.load_first-last.result w = record {
      begun = c.load_second-first.new.seat.me.0;
      opens = c.load_second-first.ensures.tells.0;
      ended = c.load_all.new.seat.me.0;
      each = c.load_all.ensures.reads;
      closes = c.load_first-last.ensures.tells.0;
    } in
    subst (λ (t : Token). ReadsImage S t.view words w) c.pass.view_is
    (reads_image S g.S.Shape.laws v w c.load_second-first.result c.load_first-last.result words loads c.if-first-last.false whole)
