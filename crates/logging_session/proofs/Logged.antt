-- What may be logged stands nowhere in the archive yet, and where its volume is sure all is settled.
use Rattle.std.proofs.Common.{◌≡◌, ◌≢◌, inl, ⊎_elim, ℕ, ◌≤◌, Bool, true, false, [], Option, None, Some, refl, sym, ap, ◌∙◌, subst, arith}
use Rattle.std.specs.Prelude.{Contains}
use Rattle.pcp_base.specs.Time.{Moment, microseconds}
use Rattle.pcp_base.specs.declared.file.FileId.TheVariants.{Volume}
use Rattle.pcp_base.specs.declared.result.Item.{Item}
use Rattle.pcp_model.specs.Archive.{ArchiveContents, items_of}
use Rattle.pcp_model.specs.Disk.{Held, Holdings, IsSettled}
use Rattle.pcp_model.specs.Payload.{stamp_of}
use Rattle.pcp_model.specs.Sound.{IsItemBy}
use Rattle.logger_core.specs.Going.{IsVolumeSure}
use Rattle.logger_core.specs.Logging.{IsLater}
use Rattle.logger_core.specs.Meant.{Meant, Stands}
use Rattle.logger_core.specs.Steps.{IsAbove}
use Rattle.logger_core.proofs.Survival.{this_or_other}
use Rattle.logging_session.proofs.ComeBack.{at_of}

-- what may be logged is later than all that is there
pub has_stamp : (c : ArchiveContents) (o : Option Moment) (x : Item) → IsAbove c o → IsLater o (stamp_of x) → Contains (items_of c.volumes) x → ⊥
has_stamp c None x none later has = none (stamp_of x) (inl (x, has, refl))
has_stamp c (Some t) x is later has = let by : microseconds (stamp_of x) ≤ microseconds t = at_of (IsItemBy t) (items_of c.volumes) x is.0 has in omega (arith, by, later)

pub not_closed : {A : Type 0} (b : Bool) → b ≡ true → b ≡ false → A
not_closed b closed open_ = absurd (let no : true ≡ false = sym closed ∙ open_ in cc)

-- all is settled
pub is_settled : (m : Meant) (number : ℕ) (held : Holdings) → Stands m number held → IsVolumeSure number held → IsSettled held
is_settled m number held at sure = record {
  meta = at.sure;
  index = inl at.indexed;
  volumes = λ k. ⊎_elim (λ (same : k ≡ number). subst (λ (n : ℕ). (held (Volume n)).rest ≡ []) (sym same) sure)
      (λ (other : k ≢ number). ap (λ (h : Held). h.rest) (at.keeps.others k other)) (this_or_other k number);
}
