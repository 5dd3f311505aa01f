-- The piece stands behind what was read.
use Rattle.std.proofs.Common.{List, ℕ, ◌++◌, ap, ◌∙◌}
use Rattle.log_summary.proofs.Pieced.{piece_read}
use Rattle.log_summary.proofs.job.with_piece.Goals as goal

pub returns-clause-read : goal.returns-clause-read
returns-clause-read c = λ files read stands.
    let follows = c.follows.ensures c.if-not-follows.false in
    record {
      long = read.long;
      is = piece_read files c.args.job c.args.piece c.extend_from_slice.new.self.items read stands follows.0 follows.1
          (c.in_ok-extend_from_slice.ensures.items ∙ ap (λ (l : List ℕ). c.args.job.bytes.items ++ l) c.as_slice.ensures.value);
    }
