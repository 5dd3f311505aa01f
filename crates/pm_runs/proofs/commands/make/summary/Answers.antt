use Rattle.std.proofs.Common.{◌≡◌, inl, inr, ℕ, ◌≤◌, zero, suc, List, [], ◌∷◌, length, refl, ap, ◌∙◌, arith}
use Rattle.pcp_base.specs.declared.file.FileId.TheVariants.{Meta, Volume}
use Rattle.pcp_model.specs.Disk.{Holdings, contents_of}
use Rattle.pcp_outside.specs.Causes.{shown_count}
use Rattle.pcp_outside.specs.Devices.{IsVolumes}
use Rattle.archive_loading.proofs.Looking.{looked, looks_on}
use Rattle.script_runs.specs.Summaries.{HasVolumes}
use Rattle.pm_runs.specs.commands.make.{counted_text}
use Rattle.pm_runs.proofs.commands.make.summary.Goals as goal

filled : (bytes : List ℕ) → (bytes ≡ [] → ⊥) → 1 ≤ length bytes
filled [] some = absurd (some refl)
filled (b ∷ bs) some = omega arith

has_volumes : (held : Holdings) (n : ℕ) → IsVolumes held n → HasVolumes (contents_of held) n
has_volumes held zero is = record { above = λ k low. is.past k low; last = inl refl }
has_volumes held (suc k) is = record { above = λ j low. is.past j low; last = inr (k, omega arith, filled (contents_of held (Volume k)) (is.last k (omega arith))) }

pub returns-in_default-clause-looks : goal.returns-in_default-clause-looks
returns-in_default-clause-looks g c = looked g.D.Disk g.met.D.Disk.only_now c.args.disk.now c.volumes.new.self c.volumes.result c.volumes.ensures.cause c.volumes.ensures.held c.volumes.ensures.wrapped c.volumes.ensures.time

pub returns-in_default-len-clause-looks : goal.returns-in_default-len-clause-looks
returns-in_default-len-clause-looks g c =
    looks_on g.D.Disk c.args.disk.now c.volumes.new.self c.len.new.self
    (looked g.D.Disk g.met.D.Disk.only_now c.args.disk.now c.volumes.new.self c.volumes.result c.volumes.ensures.cause c.volumes.ensures.held c.volumes.ensures.wrapped c.volumes.ensures.time)
    (looked g.D.Disk g.met.D.Disk.only_now c.volumes.new.self c.len.new.self c.len.result c.len.ensures.cause c.len.ensures.held c.len.ensures.wrapped c.len.ensures.time)

pub returns-in_err-text-clause-looks : goal.returns-in_err-text-clause-looks
returns-in_err-text-clause-looks g c =
    looks_on g.D.Disk c.args.disk.now c.volumes.new.self c.len.new.self
    (looked g.D.Disk g.met.D.Disk.only_now c.args.disk.now c.volumes.new.self c.volumes.result c.volumes.ensures.cause c.volumes.ensures.held c.volumes.ensures.wrapped c.volumes.ensures.time)
    (looked g.D.Disk g.met.D.Disk.only_now c.volumes.new.self c.len.new.self c.len.result c.len.ensures.cause c.len.ensures.held c.len.ensures.wrapped c.len.ensures.time)

pub returns-clause-looks : goal.returns-clause-looks
returns-clause-looks g c =
    looks_on g.D.Disk c.args.disk.now c.volumes.new.self c.len.new.self
    (looked g.D.Disk g.met.D.Disk.only_now c.args.disk.now c.volumes.new.self c.volumes.result c.volumes.ensures.cause c.volumes.ensures.held c.volumes.ensures.wrapped c.volumes.ensures.time)
    (looked g.D.Disk g.met.D.Disk.only_now c.volumes.new.self c.len.new.self c.len.result c.len.ensures.cause c.len.ensures.held c.len.ensures.wrapped c.len.ensures.time)

pub returns-clause-counted : goal.returns-clause-counted
returns-clause-counted g c = λ tells. (
  c.in-Ok.volumes,
  has_volumes (g.D.Disk.held c.args.disk.now) c.in-Ok.volumes (c.in-Ok.ensures.count tells),
  c.in_ok-text.ensures ∙ ap (λ (n : ℕ). counted_text c.args.items c.in-Ok.volumes n c.args.adds c.args.total) (c.in-Ok-len.ensures.length tells ∙ ap (λ (h : Holdings). shown_count (length (contents_of h Meta))) (c.volumes.ensures.held tells)),
)
