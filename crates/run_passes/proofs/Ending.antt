-- A pass at other work goes on.
use Rattle.std.proofs.Common.{◌≡◌, refl}
use Rattle.region_rule.specs.Calls.{Opened}
use Rattle.region_rule.specs.Changes.{Relaying}
use Rattle.region_rule.specs.Seats.{Token}
use Rattle.run_passes.specs.declared.deed.Deed.TheVariants as deeds
use Rattle.run_passes.specs.declared.worker.Worker.{Worker}
use Rattle.run_passes.specs.declared.worker.Worker.TheVariants as workers
use Rattle.run_passes.specs.Workers.{doing_of}
use Rattle.run_passes.specs.Works.{ended_doing}

pub detach_kept : (w : Worker) → ((x : Token) → w ≡ workers.Inside x → ⊥) → doing_of w ≡ ended_doing deeds.Detach (doing_of w)
detach_kept (workers.Idle pass) other = refl
detach_kept (workers.Inside stint) other = absurd (other stint refl)
detach_kept (workers.Changing change) other = refl
detach_kept (workers.Reading reading) other = refl
detach_kept workers.Away other = refl

pub done_kept : (w : Worker) → ((x : Opened) → w ≡ workers.Reading x → ⊥) → doing_of w ≡ ended_doing deeds.Done (doing_of w)
done_kept (workers.Idle pass) other = refl
done_kept (workers.Inside stint) other = refl
done_kept (workers.Changing change) other = refl
done_kept (workers.Reading reading) other = absurd (other reading refl)
done_kept workers.Away other = refl

pub finish_kept : (w : Worker) → ((x : Relaying) → w ≡ workers.Changing x → ⊥) → doing_of w ≡ ended_doing deeds.Finish (doing_of w)
finish_kept (workers.Idle pass) other = refl
finish_kept (workers.Inside stint) other = refl
finish_kept (workers.Changing change) other = absurd (other change refl)
finish_kept (workers.Reading reading) other = refl
finish_kept workers.Away other = refl
