-- One serial more is in the set.
use Rattle.std.proofs.Common.{◌∙◌, ap, sym, arith}
use Rattle.std.specs.List.{list_any}
use Rattle.std.specs.Ordering.{nat_cmp}
use Rattle.std.specs.BTreeMap.{is_at}
use Rattle.std.proofs.lemmas.Grind.{common_steps}
use Rattle.std.proofs.lemmas.Bool.Decides.{nat_tests}
use Rattle.mmv_layout.specs.Below.{some_below}
use Rattle.mmv_layout.specs.Entries.{has_serial, is_indom_serial}
use Rattle.mmv_layout.proofs.Below.{some_none, some_more}
use Rattle.mmv_layout.proofs.indoms.indom_serials.Goals as goal

pub loop-i-init : goal.loop-i-init
loop-i-init c = λ serial. ap (λ keys. list_any (is_at (nat_cmp serial)) keys) c.new-serials.ensures.empty ∙ sym (some_none (has_serial c.args.words.now serial))

pub loop-i-preserved : goal.loop-i-preserved
unfolding has_serial
loop-i-preserved c = λ serial. grind (arith, nat_tests, common_steps, c.loop-i.invariant serial, some_more c.loop-i.i (has_serial c.args.words.now serial))

pub returns : goal.returns
unfolding is_indom_serial
returns c = λ serial. c.loop-i.invariant serial ∙ ap (λ n. some_below n (has_serial c.args.words.now serial)) (omega arith)
