-- The words in front of the first other one, or all.
use Rattle.std.proofs.Common.{string_bytes, ap, ◌∙◌, length, Option, Global}
use Rattle.std.specs.Option.{unwrap_or}
use Rattle.pm_words.specs.CommandLine.{is_asked_name}
use Rattle.pm_words.proofs.AskedNames.{front_is}
use Rattle.pm_words.proofs.names.names_in_front.Goals as goal

pub returns-clause-front : goal.returns-clause-front
returns-clause-front c =
    c.unwrap_or.ensures
    ∙ (ap (λ (found : Option _). unwrap_or found (length c.args.words.now)) c.first_other.ensures.value
    ∙ front_is is_asked_name (string_bytes {Z = Global}) c.args.words.now)
