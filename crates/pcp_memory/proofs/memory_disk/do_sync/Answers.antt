use Rattle.std.proofs.Common.{sym, ◌∙◌, refl}
use Rattle.pcp_memory.specs.Record.{held_after}
use Rattle.pcp_memory.specs.declared.memory_disk.DiskChange.TheVariants.{Sync}
use Rattle.pcp_outside.proofs.Images.{bytes-synced}
use Rattle.pcp_memory.proofs.Moments.{kept_push}
use Rattle.pcp_memory.proofs.memory_disk.do_sync.Goals as goal

pub returns-clause-kept : goal.returns-clause-kept
returns-clause-kept c =
    let calls = c.args.calls.now in
    let file = c.args.file in
    kept_push calls c.push.new.self (Sync file) c.args.contents.now c.args.contents.now c.requires.kept c.in_ok-push.ensures.ok record {
      this = c.requires.kept file ∙ sym (bytes-synced (held_after calls file));
      others = λ g other. refl;
    }
