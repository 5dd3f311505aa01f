-- What the writers hand back is the seat's to end.
use Rattle.std.proofs.Common.{◌≡◌, ◌<◌, List, get_or, length, Some, sym, subst, arith}
use Rattle.std.specs.Prelude.{slice_get}
use Rattle.std.specs.Global.{Vec}
use Rattle.std.proofs.lemmas.Option.{slice_get-get_or, slice_get_within}
use Rattle.region_core.specs.declared.mode.Mode.TheVariants.{Idle}
use Rattle.region_rule.specs.Seats.{MadeRegion, Token}
use Rattle.fetch_engine.specs.declared.server.Mounted.{Mounted}
use Rattle.fetch_engine.specs.Servers.{IsRegionAt}
use Rattle.run_script.specs.declared.script.Script.{Script}
use Rattle.run_passes.specs.Workers.{IsPassOf}
use Rattle.run_passes.specs.Written.{AreReady}
use Rattle.run_passes.proofs.Handed.{get_at, get_mapped}
use Rattle.record_run.specs.Gathered.{AreHere}

pub all_here : (script : Script) (server : List Mounted) (done : List (Vec Token)) → AreReady script server done → AreHere server done
all_here script server done ready = λ j list is k d below.
    let within : j < length server = omega (arith, slice_get_within done j list is, ready.lists) in
    let there : (mounted : Mounted) × (slice_get server j ≡ Some mounted) = get_at server j within in
    let pass : Token = get_or list.items k d in
    let h : IsPassOf there.0.region k Idle pass = ready.each j k there.0 list pass there.1 is (slice_get-get_or list.items k d below) in
    subst (λ (region : MadeRegion). IsRegionAt server j region) (sym h.region_is) (get_mapped (λ (row : Mounted). row.region) server j there.0 there.1)
