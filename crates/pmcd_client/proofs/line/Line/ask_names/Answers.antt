use Rattle.std.proofs.Common.{ℕ, ◌+◌, ◌≤◌, List, sym, subst, arith}
use Rattle.pdu_codec.specs.Spelling.{all_lengths, text_length}
use Rattle.pmcd_client.proofs.Sent.{few_names}
use Rattle.pmcd_client.proofs.line.Line.ask_names.Goals as goal

pub ask-requires-clause-room : goal.ask-requires-clause-room
ask-requires-clause-room g c =
    let long = few_names c.args.names.now c.requires.short in
    let few = c.requires.few in
    subst (λ (ns : List (List ℕ)). 12 + (8 + all_lengths text_length ns) ≤ 65536) (sym c.in_ok-copies.ensures) (omega arith)
