-- The calls of a disk in memory that are planned to fail.
use Rattle.std.specs.Prelude.{ℕ, ◌+◌, ◌==◌, ◌&&◌, List, Bool, true, false, Option, find, option_map}
use Rattle.pcp_outside.specs.Causes.{shown_count}
use Rattle.pcp_memory.specs.declared.plans.Call.{Call}
use Rattle.pcp_memory.specs.declared.plans.Call.TheVariants.{Len, Volumes, Wrapped, Read, Append, Sync, Cut}
use Rattle.pcp_memory.specs.declared.plans.Fault.{Fault}
use Rattle.pcp_memory.specs.declared.plans.Counts.{Counts}

abbrev pub same_call : Call → Call → Bool
same_call Len Len = true
same_call Volumes Volumes = true
same_call Wrapped Wrapped = true
same_call Read Read = true
same_call Append Append = true
same_call Sync Sync = true
same_call Cut Cut = true
same_call _ _ = false

-- how many calls of a kind were asked for
abbrev pub count_of : Counts → Call → ℕ
count_of c Len = c.lens
count_of c Volumes = c.volumes
count_of c Wrapped = c.wrapped
count_of c Read = c.reads
count_of c Append = c.appends
count_of c Sync = c.syncs
count_of c Cut = c.cuts

-- one call more
abbrev pub counted : Call → Counts → Counts
counted Len c = record c { lens = shown_count (c.lens + 1) }
counted Volumes c = record c { volumes = shown_count (c.volumes + 1) }
counted Wrapped c = record c { wrapped = shown_count (c.wrapped + 1) }
counted Read c = record c { reads = shown_count (c.reads + 1) }
counted Append c = record c { appends = shown_count (c.appends + 1) }
counted Sync c = record c { syncs = shown_count (c.syncs + 1) }
counted Cut c = record c { cuts = shown_count (c.cuts + 1) }

abbrev pub none_counted : Counts
none_counted = record { lens = 0; volumes = 0; wrapped = 0; reads = 0; appends = 0; syncs = 0; cuts = 0 }

-- whether a fault is of the nth call of a kind
abbrev pub is_fault : Call → ℕ → Fault → Bool
is_fault call nth f = same_call f.call call && f.nth == nth

-- What is kept of the nth call of a kind, where it is planned to fail; the first of two faults of one call counts.
abbrev pub planned : List Fault → Call → ℕ → Option ℕ
planned plan call nth = option_map (λ (f : Fault). f.kept) (find (is_fault call nth) plan)
