use Rattle.std.proofs.Common.{sym, ◌∙◌}
use Rattle.std.proofs.lemmas.Bool.{lt-ltb, le-ltb}
use Rattle.std.proofs.lemmas.List.{take_rest}
use Rattle.pcp_model.proofs.Listed.{name_follows, no_name_follows, no_more_names}
use Rattle.pcp_model.proofs.instances.have_names.Goals as goal

pub loop-i-preserved : goal.loop-i-preserved
loop-i-preserved c =
    sym (name_follows c.args.count c.args.bytes.now c.loop-i.i c.in-Some.offset c.requires c.loop-i-test.true (simp take_rest at (sym c.be32.ensures ∙ c.in-Some.is))
    (simp take_rest at (c.names_end-end.ensures c.in-Some.offset) ∙ lt-ltb c.in-Some.offset c.names_end-end.result c.if-offset-end.false)) ∙ c.loop-i.invariant

pub returns-then-offset-end : goal.returns-then-offset-end
returns-then-offset-end c =
    sym (no_name_follows c.args.count c.args.bytes.now c.loop-i.i c.in-Some.offset c.requires c.loop-i-test.true (simp take_rest at (sym c.be32.ensures ∙ c.in-Some.is))
    (simp take_rest at (c.names_end-end.ensures c.in-Some.offset) ∙ le-ltb c.in-Some.offset c.names_end-end.result c.if-offset-end.true)) ∙ c.loop-i.invariant

pub returns : goal.returns
returns c = sym (no_more_names c.args.count c.args.bytes.now c.loop-i.i c.loop-i-test.false) ∙ c.loop-i.invariant
