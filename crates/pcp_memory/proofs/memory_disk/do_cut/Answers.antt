use Rattle.std.proofs.Common.{take, sym, ◌∙◌, ap}
use Rattle.pcp_memory.specs.Record.{held_after}
use Rattle.pcp_memory.specs.declared.memory_disk.DiskChange.TheVariants.{Cut}
use Rattle.pcp_outside.proofs.Images.{bytes-cut_to}
use Rattle.pcp_memory.proofs.Moments.{kept_push}
use Rattle.pcp_memory.proofs.memory_disk.do_cut.Goals as goal

pub returns-clause-kept : goal.returns-clause-kept
returns-clause-kept c =
    let calls = c.args.calls.now in
    let file = c.args.file in
    kept_push calls c.push.new.self (Cut file c.args.len) c.args.contents.now c.truncate.new.self c.requires.kept c.in_ok-push.ensures.ok record {
      this = c.truncate.ensures.this ∙ ap (take c.args.len) (c.requires.kept file) ∙ sym (bytes-cut_to c.args.len (held_after calls file));
      others = c.truncate.ensures.others;
    }
