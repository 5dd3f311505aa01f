-- The group at the number has one value more.
use Rattle.rule_watch.proofs.GroupValues.{group_put}
use Rattle.rule_watch.proofs.groups.put_value.Goals as goal

pub returns : goal.returns
returns c = group_put c.args.groups.now c.args.number c.index-groups-number.result c.push.new.self c.args.value c.requires c.in_ok-push.ensures.items
