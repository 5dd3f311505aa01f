use Rattle.std.proofs.Common.{◌≡◌, ◌<◌, ◌+◌, ℕ, List, [], map, length, sym, refl, ap, ◌∙◌, subst}
use Rattle.std.specs.List.{sum_by}
use Rattle.pmcd_server.specs.Places.{Drawer}
use Rattle.fetch_engine.specs.Servers.{Seated}
use Rattle.pmcd_server.specs.Works.{Work}
use Rattle.pmcd_server.specs.Crews.{AllSame, SomeRose, places_of}
use Rattle.pmcd_server.proofs.Finishing.{all_same, how_many, some_rose, connections, reports, served_some, served_all}
use Rattle.pmcd_server.proofs.serving.serve.Goals as goal
use Rattle.pmcd_server.proofs.serving.serve.Goals.{Else-not-is_well}
use Rattle.pmcd_server.specs.Draws.{AreBelow}

pub returns-then-not-is_well-clause-served : goal.returns-then-not-is_well-clause-served
returns-then-not-is_well-clause-served g c =
    let w = c.if-not-is_well.ensures.works in
    let start : c.in_ok-places.drawer.drawn ≡ [] = ap (λ (x : Drawer). x.drawn) c.in_ok-places.ensures in
    let m = served_some c.args.server.now g.P.Door c.args.count w.0 w.1 c.in_ok-places.drawer c.run-is_well.new.drawer start w.3 c.close.ensures w.2.each in
    (w.0, w.2, w.4, m.0, m.1, m.2, m.3)

pub returns-then-not-is_well-clause-accept : goal.returns-then-not-is_well-clause-accept
returns-then-not-is_well-clause-accept g c is =
    let w = c.if-not-is_well.ensures.works in
    let rose = some_rose c.args.server.now g.P.Door c.args.count w.0 w.2.each w.4 in
    subst (λ (l : List g.row.P.Denot). SomeRose g.P.Door l c.run-is_well.new.doors) (sym w.2.at)
    (subst (λ (l : List g.row.P.Denot). SomeRose g.P.Door (map (λ (x : Work g.row.P.Denot). x.door) w.0) l) (sym w.2.leave) rose)

-- all places were drawn
all_places : (g : _) (c : Else-not-is_well g) → AreBelow (places_of c.if-not-is_well.ensures.works.0) c.args.count
all_places g c =
    let w = c.if-not-is_well.ensures.works in
    let start : c.in_ok-places.drawer.drawn ≡ [] = ap (λ (x : Drawer). x.drawn) c.in_ok-places.ensures in
    let some : 0 < length (map (λ (x : Work g.row.P.Denot). x.seat) w.0) = subst (λ (l : List Seated). 0 < length l) w.2.begin c.requires.some in
    served_all c.args.server.now g.P.Door c.args.count w.0 w.1 c.in_ok-places.drawer c.run-is_well.new.drawer start w.3 c.close.ensures w.2.each w.4 some

pub returns-clause-served : goal.returns-clause-served
returns-clause-served g c =
    let w = c.if-not-is_well.ensures.works in
    (refl, w.0, w.2, w.4, all_places g c)

pub returns-clause-connections : goal.returns-clause-connections
returns-clause-connections g c tells =
    let w = c.if-not-is_well.ensures.works in
    let left : g.row.P.Denot → ℕ = λ (x : g.row.P.Denot). length (g.P.Door.left x) in
    let many : length (places_of w.0) ≡ c.args.count = how_many (places_of w.0) c.args.count (all_places g c) in
    let all = connections c.args.server.now g.P.Door c.args.count tells w.0 w.2.each w.4 in
    ap (λ (l : List g.row.P.Denot). sum_by left l) w.2.at ∙ all ∙ ap (λ (n : ℕ). sum_by left (map (λ (x : Work g.row.P.Denot). x.door_after) w.0) + n) many
    ∙ ap (λ (l : List g.row.P.Denot). sum_by left l + c.args.count) (sym w.2.leave)

pub returns-clause-reports : goal.returns-clause-reports
returns-clause-reports g c tells =
    let w = c.if-not-is_well.ensures.works in
    let told : g.row.P.Denot → ℕ = λ (x : g.row.P.Denot). length (g.P.Door.reports x) in
    let many : length (places_of w.0) ≡ c.args.count = how_many (places_of w.0) c.args.count (all_places g c) in
    let all = reports c.args.server.now g.P.Door c.args.count tells w.0 w.2.each w.4 in
    ap (λ (l : List g.row.P.Denot). sum_by told l) w.2.leave ∙ all ∙ ap (λ (n : ℕ). sum_by told (map (λ (x : Work g.row.P.Denot). x.door) w.0) + n) many
    ∙ ap (λ (l : List g.row.P.Denot). sum_by told l + c.args.count) (sym w.2.at)

pub returns-clause-quiet : goal.returns-clause-quiet
returns-clause-quiet g c =
    let w = c.if-not-is_well.ensures.works in
    let same = all_same c.args.server.now g.P.Door c.args.count w.0 w.2.each w.4 in
    subst (λ (l : List g.row.P.Denot). AllSame g.P.Door l c.run-is_well.new.doors) (sym w.2.at)
    (subst (λ (l : List g.row.P.Denot). AllSame g.P.Door (map (λ (x : Work g.row.P.Denot). x.door) w.0) l) (sym w.2.leave) same)
