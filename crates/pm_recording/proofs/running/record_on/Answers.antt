-- The regions that are left are those that were opened, and what was recorded was recorded on them.
use Rattle.std.proofs.Common.{◌≡◌, List, [], ◌∷◌, length, Some, refl, arith}
use Rattle.std.specs.Prelude.{slice_get}
use Rattle.pm_recording.proofs.running.record_on.Goals as goal

first : {X : Type 0} → (xs : List X) → length xs ≡ 1 → (x : X) × (slice_get xs 0 ≡ Some x)
first [] one = absurd (omega (arith, one))
first (x ∷ xs) one = (x, refl)

pub returns-clause-recorded : goal.returns-clause-recorded
returns-clause-recorded g c =
    let e = c.record_script-recorded.ensures in
    let opened = c.in_ok-regions.regions in
    let left = c.record_script-recorded.new.opened in
    let before = first opened.seats.items c.in_ok-regions.ensures.seats_are in
    let after = first left.seats.items e.seats in record {
      left = left;
      kept = refl;
      was = record {
        opened = opened;
        made = c.in_ok-regions.ensures;
        server = e.server;
        seats = e.seats;
        first = before.0;
        first_is = before.1;
        last = after.0;
        last_is = after.1;
        seated = e.seated after.0 after.1;
        recording = e.records before.0 after.0 before.1 after.1;
        writers = e.writers after.0 after.1;
        cause = e.cause;
        quiet = e.quiet;
        unread = λ none tells. e.unread tells none;
      };
      images = c.images_are.ensures.images;
      of_words = c.images_are.ensures.of_words;
    }
