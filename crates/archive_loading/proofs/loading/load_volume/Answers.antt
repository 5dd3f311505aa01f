use Rattle.std.proofs.Common.{◌≡◌, ◌⊎◌, inl, inr, ⊎_elim, ℕ, ◌<◌, ◌≤◌, List, pos, subst, ◌∙◌, take, arith}
use Rattle.archive_loading.specs.LoadFaults.{LabelStops}
use Rattle.pcp_base.specs.declared.file.FileId.TheVariants.{Volume}
use Rattle.pcp_model.specs.Disk.{contents_of}
use Rattle.pcp_model.specs.Labels.{BeginsLabel}
use Rattle.archive_loading.proofs.PartsRead.{part_of, above_none}
use Rattle.archive_loading.proofs.loading.load_volume.Goals as goal

pub returns-then-is_last-clause-volume : goal.returns-then-is_last-clause-volume
returns-then-is_last-clause-volume g c = λ tells.
    let bytes : List ℕ = contents_of (g.D.Disk.held c.args.disk.now) (Volume c.args.number) in
    let front = c.in_ok-bytes.ensures.front tells in
    let part : BeginsLabel bytes c.args.label.now (pos c.args.number) =
    part_of bytes c.args.label.now (pos c.args.number) (subst (λ t. BeginsLabel t c.args.label.now (pos c.args.number)) (c.as_slice.ensures ∙ front.0) c.in-Part.ensures) in
    (front.1, above_none c.in_ok-bytes.end c.if-end-eq0.false, inr (part, c.if-is_last.true))

pub returns-clause-volume : goal.returns-clause-volume
returns-clause-volume g c = λ tells.
    let bytes : List ℕ = contents_of (g.D.Disk.held c.args.disk.now) (Volume c.args.number) in
    let front = c.in_ok-bytes.ensures.front tells in
    let part : BeginsLabel bytes c.args.label.now (pos c.args.number) =
    part_of bytes c.args.label.now (pos c.args.number) (subst (λ t. BeginsLabel t c.args.label.now (pos c.args.number)) (c.as_slice.ensures ∙ front.0) c.in-Part.ensures) in
    let some : 0 < c.in_ok-bytes.end = above_none c.in_ok-bytes.end c.if-end-eq0.false in
    (omega (arith, some, front.1), inr (inl (front.1, part, c.if-is_last.false)))

pub returns-in-Stops-clause-volume : goal.returns-in-Stops-clause-volume
returns-in-Stops-clause-volume g c = λ tells.
    let bytes : List ℕ = contents_of (g.D.Disk.held c.args.disk.now) (Volume c.args.number) in
    let front = c.in_ok-bytes.ensures.front tells in
    let some : 0 < c.in_ok-bytes.end = above_none c.in_ok-bytes.end c.if-end-eq0.false in
    let why : LabelStops (take 132 bytes) c.args.label.now (pos c.args.number) c.in-Stops.at ⊎ ((2147483648 ≤ c.args.number) × (c.in-Stops.at ≡ 0)) =
    ⊎_elim (λ label. inl (subst (λ t. LabelStops t c.args.label.now (pos c.args.number) c.in-Stops.at) (c.as_slice.ensures ∙ front.0) label)) (λ high. inr high) c.in-Stops.ensures in
    (omega (arith, some, front.1), ⊎_elim (λ label. inl label) (λ high. inr (inr high)) why)
