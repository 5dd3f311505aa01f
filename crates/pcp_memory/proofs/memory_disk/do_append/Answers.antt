use Rattle.std.proofs.Common.{◌≡◌, ◌++◌, ◌∷◌, [], List, ℕ, rules, sym, ◌∙◌, ap}
use Rattle.pcp_memory.specs.Record.{held_after}
use Rattle.pcp_memory.specs.declared.memory_disk.DiskChange.TheVariants.{Append}
use Rattle.pcp_outside.proofs.Images.{bytes-appended}
use Rattle.pcp_memory.proofs.Moments.{kept_push}
use Rattle.pcp_memory.proofs.memory_disk.do_append.Goals as goal

pub returns-in-Ok-clause-kept : goal.returns-in-Ok-clause-kept
returns-in-Ok-clause-kept c =
    let calls = c.args.calls.now in
    let file = c.args.file in
    let bytes = c.args.bytes.now in
    let noted : c.push.new.self ≡ calls ++ Append file bytes ∷ [] = search rules in
    kept_push calls c.push.new.self (Append file bytes) c.args.contents.now c.extend.new.self c.requires.kept noted record {
      this = c.in-Ok.ensures.ok.this ∙ ap (λ (l : List ℕ). l ++ bytes) (c.requires.kept file) ∙ sym (bytes-appended (held_after calls file) bytes);
      others = c.in-Ok.ensures.ok.others;
    }
