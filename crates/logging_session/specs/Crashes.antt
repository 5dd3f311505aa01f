-- What a crash leaves after a run.
use Rattle.std.specs.Prelude.{◌≡◌, ◌+◌, ◌≤◌, List, ◌++◌, length}
use Rattle.pcp_base.specs.declared.result.Item.{Item}
use Rattle.pcp_model.specs.Archive.{ArchiveReading, Reads, scan}
use Rattle.pcp_model.specs.Disk.{Files}
use Rattle.pcp_model.specs.Recovered.{Recovers}
use Rattle.logging_session.specs.ComingBack.{ComesBack, start_of}
use Rattle.logging_session.specs.Events.{Event, acknowledged_by, items_by}

-- of a run over these files, which logged these items: all items of the start and of the run
abbrev pub IsAllAfter : List Item → Files → Files → Type 0
IsAllAfter more start image =
    (r : ArchiveReading) → Reads start r → (left : Files) → Recovers start r left → ComesBack (start_of start r left) (scan r ++ more) (length (scan r ++ more)) image

-- Behind each of these events all results that were logged by then are acknowledged, but perhaps the last one: so a crash from then on loses
-- at most that one of them.
abbrev pub LosesAtMostOne : List Event → Type 0
LosesAtMostOne events = (front rest : List Event) → events ≡ front ++ rest → length (items_by front) ≤ acknowledged_by front + 1
