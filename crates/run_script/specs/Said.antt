-- What the lines of a script say so far.
use Rattle.std.specs.Prelude.{[], None}
use Rattle.run_script.specs.declared.said.Said.{Said}

-- no line was read
abbrev pub nothing : Said
nothing = record { images = []; regions = []; groups = []; steps = []; last = None }
