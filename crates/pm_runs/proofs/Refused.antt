-- Files that can be read are not turned away by recovery.
use Rattle.std.proofs.Common.{◌≡◌, sym, ◌∙◌, Some, None}
use Rattle.pcp_model.specs.Archive.{Readable}
use Rattle.pm_words.specs.declared.refusal.Refusal.{Refusal}
use Rattle.pm_words.specs.declared.refusal.Refusal.TheVariants.{Compressed, NotArchive}
use Rattle.pm_words.specs.Sides.{Found}
use Rattle.pm_words.proofs.Unreadable.{refused_is_none}
use Rattle.pm_runs.specs.commands.recover.{IsTurnedAway}

pub takes_readable : (f : Found) → f.wrapped ≡ None → Readable f.files → (e : Refusal) → IsTurnedAway f e → ⊥
takes_readable f unwrapped readable (Compressed file) t = let other : None ≡ Some file = sym unwrapped ∙ t in cc
takes_readable f unwrapped readable (NotArchive file offset) t = refused_is_none f.files file offset readable t.1
takes_readable f unwrapped readable _ t = t
