-- Where a line feed stands, and where none does.
use Rattle.std.proofs.Common.{refl}
use Rattle.text_lines.proofs.Feeds.{unended, split}
use Rattle.text_lines.proofs.lines.split_line.Goals as goal

pub returns-in_default : goal.returns-in_default
returns-in_default c = unended c.args.bytes.now c.in_default.ensures

pub returns-in-len1-up : goal.returns-in-len1-up
returns-in-len1-up c =
    split c.args.bytes.now c.split_at.result.0.now c.split_at.result.1.now _ c.in-Some.at c.in-Some.ensures.0.high c.in-Some.ensures.1 c.in-Some.ensures.0.before c.split_at.ensures.front c.split_at.ensures.back refl
