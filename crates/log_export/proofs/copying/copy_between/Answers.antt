-- A piece more.
use Rattle.std.proofs.Common.{rules, ◌≡◌, ℕ, ◌+◌, ◌≤◌, List, length, take, refl, sym, ap, ◌∙◌, subst, arith}
use Rattle.std.proofs.lemmas.List.{length-take-le}
use Rattle.pcp_model.specs.Disk.{contents_of}
use Rattle.pcp_outside.specs.Devices.{Becomes, held_after_append}
use Rattle.archive_loading.proofs.Looking.{looks_none, looks_on}
use Rattle.log_export.specs.Copying.{piece_of}
use Rattle.log_export.proofs.Pieces.{becomes_none, copied_more, nothing_yet, piece_begins, runs_more}
use Rattle.log_export.proofs.copying.copy_between.Goals as goal

pub loop-at-init : goal.loop-at-init
loop-at-init g c =
    let bytes : List ℕ = contents_of (g.A.Disk.held c.args.source.now) c.args.file in
    record {
      low = omega arith;
      high = c.requires.order;
      room = refl;
      looks = looks_none g.A.Disk g.met.A.Disk.only_now c.args.source.now;
      source_quiet = refl;
      disk_quiet = refl;
      copied = λ source tells.
          subst (λ (b : List ℕ). Becomes c.args.file (held_after_append (g.D.Disk.held c.args.disk.now c.args.file) b) (g.D.Disk.held c.args.disk.now) (g.D.Disk.held c.args.disk.now)) (sym (piece_begins c.args.from c.args.to bytes))
          (becomes_none c.args.file (g.D.Disk.held c.args.disk.now));
      moments = λ source tells. nothing_yet g.D.Disk g.met.D.Disk.only_now c.args.disk.now c.args.file (piece_of c.args.from c.args.to bytes);
    }

pub returns-in_err-copy_piece-clause-any_moment : goal.returns-in_err-copy_piece-clause-any_moment
returns-in_err-copy_piece-clause-any_moment g c = λ source tells.
    let bytes : List ℕ = contents_of (g.A.Disk.held c.args.source.now) c.args.file in
    let count : ℕ = c.piece_length-count.result in
    let many : length (take count c.loop-at.buffer) ≡ count = length-take-le count c.loop-at.buffer c.piece_length-count.ensures.fits in
    let high : c.loop-at.at + count ≤ c.args.to = omega (arith, c.piece_length-count.ensures.within, c.loop-at-test.true) in
    runs_more g.D.Disk c.args.disk.now c.loop-at.disk c.copy_piece.new.disk c.args.file c.args.from c.loop-at.at count c.args.to (length (take count c.loop-at.buffer)) bytes (contents_of (g.A.Disk.held c.loop-at.source) c.args.file)
    c.loop-at.invariant.low high many (ap (λ h. contents_of h c.args.file) (c.loop-at.invariant.looks.held source)) (c.loop-at.invariant.copied source tells) (c.loop-at.invariant.moments source tells) (c.copy_piece.ensures.any_moment source tells)

pub loop-at-preserved : goal.loop-at-preserved
loop-at-preserved g c =
    let bytes : List ℕ = contents_of (g.A.Disk.held c.args.source.now) c.args.file in
    let count : ℕ = c.piece_length-count.result in
    let many : length (take count c.loop-at.buffer) ≡ count = length-take-le count c.loop-at.buffer c.piece_length-count.ensures.fits in
    let high : c.loop-at.at + count ≤ c.args.to = omega (arith, c.piece_length-count.ensures.within, c.loop-at-test.true) in
    record {
      low = omega (arith, c.loop-at.invariant.low);
      high = high;
      room = search rules;
      looks = looks_on g.A.Disk c.args.source.now c.loop-at.source c.copy_piece.new.source c.loop-at.invariant.looks c.copy_piece.ensures.looks;
      source_quiet = c.in_ok-copy_piece.ensures.source_quiet ∙ c.loop-at.invariant.source_quiet;
      disk_quiet = c.in_ok-copy_piece.ensures.disk_quiet ∙ c.loop-at.invariant.disk_quiet;
      copied = λ source tells.
          copied_more c.args.file c.args.from c.loop-at.at count c.args.to (length (take count c.loop-at.buffer)) bytes (contents_of (g.A.Disk.held c.loop-at.source) c.args.file) (g.D.Disk.held c.args.disk.now) (g.D.Disk.held c.loop-at.disk) (g.D.Disk.held c.copy_piece.new.disk)
          c.loop-at.invariant.low high many (ap (λ h. contents_of h c.args.file) (c.loop-at.invariant.looks.held source)) (c.loop-at.invariant.copied source tells) (c.in_ok-copy_piece.ensures.copied source tells);
      moments = λ source tells.
          runs_more g.D.Disk c.args.disk.now c.loop-at.disk c.copy_piece.new.disk c.args.file c.args.from c.loop-at.at count c.args.to (length (take count c.loop-at.buffer)) bytes (contents_of (g.A.Disk.held c.loop-at.source) c.args.file)
          c.loop-at.invariant.low high many (ap (λ h. contents_of h c.args.file) (c.loop-at.invariant.looks.held source)) (c.loop-at.invariant.copied source tells) (c.loop-at.invariant.moments source tells) (c.copy_piece.ensures.any_moment source tells);
    }
