-- One piece more.
use Rattle.std.proofs.Common.{List, [], ◌∷◌, refl, sym, ◌∙◌, subst}
use Rattle.std.proofs.Math.ListN.{get_or}
use Rattle.std.specs.List.{AllByRecursion}
use Rattle.pcp_model.proofs.Lists.{each-append}
use Rattle.pcp_model.specs.Disk.{Files, contents_of}
use Rattle.archive_loading.proofs.Looking.{looks_none, looks_on}
use Rattle.log_summary.specs.declared.piece.Piece.{Piece}
use Rattle.log_summary.specs.declared.piece.Want.{Want}
use Rattle.log_summary.specs.Jobs.{IsPiece, IsWithin}
use Rattle.log_summary.proofs.Rounds.{each_left}
use Rattle.log_summary.proofs.piece.read_pieces.Goals as goal

abbrev none : Want
none = record { number = 0; at = 0; count = 0 }

pub loop-want-init : goal.loop-want-init
loop-want-init g c = record {
  looks = looks_none g.D.Disk g.met.D.Disk.only_now c.args.disk.now;
  quiet = refl;
  left = c.requires;
  pieces = λ tells. subst (AllByRecursion (IsPiece (contents_of (g.D.Disk.held c.args.disk.now)))) (sym c.new-pieces.ensures.items) tt;
}

pub loop-want-preserved : goal.loop-want-preserved
loop-want-preserved g c = record {
  looks = looks_on g.D.Disk c.args.disk.now c.loop-want.disk c.read_piece.new.disk c.loop-want.invariant.looks c.read_piece.ensures.looks;
  quiet = c.in_ok-piece.ensures.quiet ∙ c.loop-want.invariant.quiet;
  left = λ tells. (each_left (IsWithin (contents_of (g.D.Disk.held c.args.disk.now))) c.args.wants.now c.loop-want.want-index none c.loop-want-test.true (c.loop-want.invariant.left tells)).1;
  pieces = λ tells.
      let files : Files = contents_of (g.D.Disk.held c.args.disk.now) in
      let piece : Piece = c.in_ok-piece.piece in
      let stands : IsPiece files piece = subst (λ h. IsPiece (contents_of h) piece) (c.loop-want.invariant.looks.held tells) (c.in_ok-piece.ensures.piece tells) in
      subst (AllByRecursion (IsPiece files)) (sym {A = List Piece} c.in_ok-push.ensures) (each-append (IsPiece files) c.loop-want.pieces.items (piece ∷ []) (c.loop-want.invariant.pieces tells) (stands, tt));
}

pub read_piece-requires : goal.read_piece-requires
read_piece-requires g c = λ tells.
    let files : Files = contents_of (g.D.Disk.held c.args.disk.now) in
    subst (λ h. IsWithin (contents_of h) (get_or c.args.wants.now c.loop-want.want-index none)) (sym (c.loop-want.invariant.looks.held tells))
    (each_left (IsWithin files) c.args.wants.now c.loop-want.want-index none c.loop-want-test.true (c.loop-want.invariant.left tells)).0

pub returns-in_err-piece-clause-looks : goal.returns-in_err-piece-clause-looks
returns-in_err-piece-clause-looks g c = looks_on g.D.Disk c.args.disk.now c.loop-want.disk c.read_piece.new.disk c.loop-want.invariant.looks c.read_piece.ensures.looks

pub returns-in_err-push-clause-looks : goal.returns-in_err-push-clause-looks
returns-in_err-push-clause-looks g c = looks_on g.D.Disk c.args.disk.now c.loop-want.disk c.read_piece.new.disk c.loop-want.invariant.looks c.read_piece.ensures.looks
