use Rattle.std.proofs.Common.{◌≡◌, ℕ, List, sym, refl, ◌∙◌, subst}
use Rattle.std.specs.List.{zip}
use Rattle.region_rule.specs.Seats.{Token}
use Rattle.region_rule.specs.Reads.{WholeReading, ReadsChosen, ReadsChosenAgain}
use Rattle.region_rule.proofs.Showing.{agrees, disagrees}
use Rattle.region_rule.proofs.region.Region.read_chosen.Goals as goal

pub returns-then-last-first-clause-reads : goal.returns-then-last-first-clause-reads
returns-then-last-first-clause-reads g c =
    let S = g.S.Shape.shaping in
    let v = c.pass.inside.seat.me.0 in
    let w = c.load_first-last.new.seat.me.0 in
    let first = c.load_second-first.result in
    let last = c.load_first-last.result in
    let out : List ℕ = c.load_each.new.out in
    let loads : WholeReading S v first (zip c.args.indexes.now out) last w = record {
      begun = c.load_second-first.new.seat.me.0;
      opens = c.load_second-first.ensures.tells.0;
      ended = c.load_each.new.seat.me.0;
      each = c.load_each.ensures.reads;
      closes = c.load_first-last.ensures.tells.0;
    } in
    let differ : first ≡ last → ⊥ = λ e. c.if-last-first.true (sym e) in
    subst (λ (t : Token). ReadsChosenAgain S t.view c.args.known c.args.indexes.now first last w) c.pass.view_is
    (record { values = out; whole = c.load_each.ensures.long ∙ c.requires.long; loads = loads; first_is = c.if-first-known.false; differ = differ; again = disagrees S v w first last (zip c.args.indexes.now out) loads differ })

pub returns-clause-reads : goal.returns-clause-reads
returns-clause-reads g c =
    let S = g.S.Shape.shaping in
    let v = c.pass.inside.seat.me.0 in
    let w = c.load_first-last.new.seat.me.0 in
    let first = c.load_second-first.result in
    let last = c.load_first-last.result in
    let out : List ℕ = c.load_each.new.out in
    let loads : WholeReading S v first (zip c.args.indexes.now out) last w = record {
      begun = c.load_second-first.new.seat.me.0;
      opens = c.load_second-first.ensures.tells.0;
      ended = c.load_each.new.seat.me.0;
      each = c.load_each.ensures.reads;
      closes = c.load_first-last.ensures.tells.0;
    } in
    let same : last ≡ first = c.if-last-first.false in
    let known : first ≡ c.args.known = c.if-first-known.false in
    let whole : WholeReading S v first (zip c.args.indexes.now out) first w = subst (λ (n : ℕ). WholeReading S v first (zip c.args.indexes.now out) n w) same loads in
    let here : WholeReading S v c.args.known (zip c.args.indexes.now out) c.args.known w = subst (λ (n : ℕ). WholeReading S v n (zip c.args.indexes.now out) n w) known whole in
    let shows = agrees S g.S.Shape.laws v w c.args.known c.args.known (zip c.args.indexes.now out) here refl in
    subst (λ (t : Token). ReadsChosen S t.view c.args.known c.args.indexes.now out w) c.pass.view_is
    (record { loads = here; form = shows.0; shown = shows.1 })
