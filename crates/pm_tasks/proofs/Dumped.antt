-- A dump's text goes on with each item.
use Rattle.std.proofs.Common.{◌≡◌, inl, inr, ℕ, Bool, true, false, List, [], ◌∷◌, ◌++◌, refl, sym, ap, ◌∙◌, subst, append_assoc, append-nil}
use Rattle.pcp_base.specs.declared.result.Item.{Item}
use Rattle.pcp_model.specs.declared.records.MetaRecord.{MetaRecord}
use Rattle.pcp_model.specs.Disk.{Files, Holdings, contents_of}
use Rattle.pcp_outside.specs.Causes.{Rose}
use Rattle.pcp_outside.specs.declared.disk.Disk.{Ghosts as DiskGhosts}
use Rattle.archive_loading.specs.Looks.{Looks}
use Rattle.archive_reader.specs.declared.fault.ReaderFault.{ReaderFault}
use Rattle.archive_reader.specs.declared.fault.ReaderFault.TheVariants as faults
use Rattle.archive_loading.specs.Loaded.{Loaded}
use Rattle.archive_reader.specs.Nexts.{IsNextFault}
use Rattle.archive_reader.proofs.Readable.{standing_is_read}
use Rattle.archive_reader.specs.Walks.{volumes_from, Leads, StepsOver}
use Rattle.archive_reader.specs.declared.places.Place.{Place}
use Rattle.pm_print.specs.Items.{item_text, items_text}
use Rattle.pm_words.specs.declared.refusal.Refusal.{Refusal}
use Rattle.pm_words.specs.declared.refusal.Refusal.TheVariants.{NotArchive}
use Rattle.pm_tasks.specs.Archives.{IsLoaded, TurnedAway}
use Rattle.pm_words.specs.Refusals.{reader_refusal}
use Rattle.pcp_outside.specs.declared.streams.Sink.{Ghosts as SinkGhosts}
use Rattle.pcp_outside.specs.Sides.{SinkSide, sink_side}
use Rattle.pm_words.specs.Sides.{DiskSide, Found, disk_side, files_found}
use Rattle.pm_words.specs.Streams.{IsFront, IsSent, Turns}
use Rattle.pm_tasks.specs.commands.dump.{label_line, HasItems, BeginsWith, HasNext, BadNext, HasPut, HasPutSome, HasSaid, HasStopped, BadRecord}
use Rattle.pm_tasks.proofs.Asking.{turned_on}
use Rattle.pm_words.proofs.Sending.{unsent, sent_on}

more_text : (records : List MetaRecord) (items : List Item) (x : Item) → items_text records (items ++ x ∷ []) ≡ items_text records items ++ item_text records x
more_text records [] x = append-nil (item_text records x)
more_text records (y ∷ items) x = ap (λ t. item_text records y ++ t) (more_text records items x) ∙ sym (append_assoc (item_text records y) (items_text records items) (item_text records x))

pub leads_on : (files : Files) (vs : List (ℕ × ℕ)) (at : ℕ) (items : List Item) (ws : List (ℕ × ℕ)) (to : ℕ) (x : Item) (us : List (ℕ × ℕ)) (next : ℕ) → Leads files vs at items ws to → StepsOver files ws to x us next → Leads files vs at (items ++ x ∷ []) us next
leads_on files vs at [] ws to x us next here step =
    (us, next, subst (λ (v : List (ℕ × ℕ)). StepsOver files v at x us next) here.0 (subst (λ n. StepsOver files ws n x us next) here.1 step), (refl, refl))
leads_on files vs at (y ∷ items) ws to x us next (vs_next, n, first, more) step = (vs_next, n, first, leads_on files vs_next n items ws to x us next more step)

-- so far these items were read, and behind what was there this is their text
pub record IsSoFar (files : Files) (r : Loaded) (p : Place) (before text : List ℕ) : Type 0 where
  pub items : List Item
  pub leads : Leads files r.volumes 132 items (volumes_from p.volume r.volumes) p.offset
  pub is : text ≡ before ++ items_text r.records items

pub begins : (files : Files) (r : Loaded) (p : Place) (text : List ℕ) → volumes_from p.volume r.volumes ≡ r.volumes → p.offset ≡ 132 → IsSoFar files r p text text
begins files r p text from label = record { items = []; leads = (from, label); is = sym (append-nil text) }

goes_on : (files : Files) (r : Loaded) (p q : Place) (before text more : List ℕ) → IsSoFar files r p before text → HasNext files r p q text more true → IsSoFar files r q before more
goes_on files r p q before text more so (x, step, is) =
    record {
      items = so.items ++ x ∷ [];
      leads = leads_on files r.volumes 132 so.items (volumes_from p.volume r.volumes) p.offset x (volumes_from q.volume r.volumes) q.offset so.leads step;
      is = is ∙ ap (λ t. t ++ item_text r.records x) so.is ∙ append_assoc before (items_text r.records so.items) (item_text r.records x) ∙ ap (λ t. before ++ t) (sym (more_text r.records so.items x));
    }

ends : (files : Files) (r : Loaded) (p q : Place) (before text more : List ℕ) → IsSoFar files r p before text → HasNext files r p q text more false
    → (items : List Item) × HasItems files r items × (more ≡ before ++ items_text r.records items)
ends files r p q before text more so (end, is) = (so.items, record { last = volumes_from p.volume r.volumes; to = p.offset; leads = so.leads; ends = end }, is ∙ so.is)

-- a step puts its text behind what was sent too
behind : (files : Files) (r : Loaded) (p q : Place) (front waits after : List ℕ) (more : Bool) → HasNext files r p q waits after more → HasNext files r p q (front ++ waits) (front ++ after) more
behind files r p q front waits after true (x, step, is) = (x, step, ap (λ t. front ++ t) is ∙ sym (append_assoc front waits (item_text r.records x)))
behind files r p q front waits after false (end, is) = (end, ap (λ t. front ++ t) is)

-- So far these items were read; a front of their text was sent, and the rest waits.
pub record Going (tells : Type 0) (files : Files) (r : Loaded) (p : Place) (before : List ℕ) (k : SinkSide) (failed : Bool) (waits : List ℕ) : Type 0 where
  pub front : List ℕ
  pub sent : IsSent k front failed
  pub so : tells → IsSoFar files r p before (front ++ waits)

module _ {O : Type 0} (g : SinkGhosts O) (tells : Type 0) (files : Files) (r : Loaded) (before : List ℕ) where
  pub starts : (p : Place) (a : O) (failed : Bool) → failed ≡ false → volumes_from p.volume r.volumes ≡ r.volumes → p.offset ≡ 132 → Going tells files r p before (sink_side g a a) failed before
  starts p a failed fresh from label = record { front = []; sent = unsent g a failed fresh; so = λ yes. begins files r p before from label }

  -- one item more
  pub goes_further : (p q : Place) (a b c : O) (failed now : Bool) (waits after left : List ℕ) → Going tells files r p before (sink_side g a b) failed waits → (tells → HasNext files r p q waits after true)
      → Turns (sink_side g b c) failed now after left → Going tells files r q before (sink_side g a c) now left
  goes_further p q a b c failed now waits after left was next turns = record {
    front = was.front ++ turns.piece;
    sent = sent_on g a b c was.front turns.piece failed now was.sent turns.sends;
    so = λ yes.
        subst (IsSoFar files r q before) (ap (λ t. was.front ++ t) turns.whole ∙ sym (append_assoc was.front turns.piece left))
        (goes_on files r p q before (was.front ++ waits) (was.front ++ after) (was.so yes) (behind files r p q was.front waits after true (next yes)));
  }

  -- to the end
  pub ends_here : (p q : Place) (k : SinkSide) (failed : Bool) (waits after : List ℕ) → Going tells files r p before k failed waits → (tells → HasNext files r p q waits after false) → HasPut tells files r before k failed after
  ends_here p q k failed waits after was next = record {
    front = was.front;
    sent = was.sent;
    all = λ yes. ends files r p q before (was.front ++ waits) (was.front ++ after) (was.so yes) (behind files r p q was.front waits after false (next yes));
  }

  -- or stopped before
  pub stops_here : (p : Place) (k : SinkSide) (failed : Bool) (waits : List ℕ) → Going tells files r p before k failed waits → HasPutSome tells files r before k failed
  stops_here p k failed waits was = record {
    front = was.front;
    sent = was.sent;
    some = λ yes. let s : IsSoFar files r p before (was.front ++ waits) = was.so yes in (s.items, (volumes_from p.volume r.volumes, p.offset, s.leads), (waits, sym s.is));
  }

bad_record : (r : Loaded) (p : Place) (f : Found) (before text : List ℕ) → IsSoFar f.files r p before text → (e : Refusal) → BadNext r p f e → BadRecord r f e
bad_record r p f before text so (NotArchive file at) bad = (so.items, record { last = volumes_from p.volume r.volumes; to = p.offset; leads = so.leads; bad = bad })
bad_record r p f before text so _ bad = absurd bad

-- nothing was sent yet
pub stopped_at_once : {O : Type 0} (g : SinkGhosts O) (a : O) (failed : Bool) (d : DiskSide) → failed ≡ false → HasStopped (sink_side g a a) failed d
stopped_at_once g a failed d fresh = record { front = []; sent = unsent g a failed fresh; so_far = λ tells. inl refl }

module _ {D : Type 0} (g : DiskGhosts D) where
  -- the next record is no item's
  pub no_next : (r : Loaded) (p : Place) (a b : D) (fault : ReaderFault) → (g.tells → IsNextFault (contents_of (g.held a)) r.volumes p fault) → (fault ≡ faults.DiskFault → Rose (g.faults a) (g.faults b))
      → TurnedAway (BadNext r p) (disk_side g a b) (reader_refusal fault)
  no_next r p a b (faults.Compressed file) why rose = λ tells. absurd (why tells)
  no_next r p a b (faults.NotArchive file at) why rose = λ tells. why tells
  no_next r p a b faults.DiskFault why rose = rose refl
  no_next r p a b faults.NoMemory why rose = tt

  -- after some items
  pub no_record : (r : Loaded) (p : Place) (before text : List ℕ) (a b c : D) → Looks g a b → (g.tells → IsSoFar (contents_of (g.held a)) r p before text)
      → (e : Refusal) → TurnedAway (BadNext r p) (disk_side g b c) e → TurnedAway (BadRecord r) (disk_side g a c) e
  no_record r p before text a b c first so = turned_on g (BadNext r p) (BadRecord r) a b c first (λ tells e bad. bad_record r p (files_found (disk_side g a c)) before text (so tells) e bad)

  -- a step over the files as they were
  pub stepped : (a b : D) → Looks g a b → g.tells → (r : Loaded) (p q : Place) (before after : List ℕ) (more want : Bool) → more ≡ want
      → HasNext (contents_of (g.held b)) r p q before after more → HasNext (contents_of (g.held a)) r p q before after want
  stepped a b first tells r p q before after more want is next =
      subst (λ (h : Holdings). HasNext (contents_of h) r p q before after want) (first.held tells) (subst (λ (m : Bool). HasNext (contents_of (g.held b)) r p q before after m) is next)

  -- the whole text: a front was sent, and the rest waits
  pub said_whole : (a b c : D) → Looks g a b → (r : Loaded) (k : SinkSide) (failed : Bool) (before waits answer : List ℕ) → before ≡ label_line r.label → answer ≡ waits → (g.tells → IsLoaded (files_found (disk_side g a c)) r)
      → HasPut g.tells (contents_of (g.held b)) r before k failed waits → HasSaid k failed (disk_side g a c) answer
  said_whole a b c first r k failed before waits answer head is loaded put = record {
    front = put.front;
    sent = put.sent;
    whole = λ tells.
        let all = subst (λ (h : Holdings). (items : List Item) × HasItems (contents_of h) r items × (put.front ++ waits ≡ before ++ items_text r.records items)) (first.held tells) (put.all tells) in
        (r, loaded tells, all.0, all.1, standing_is_read (contents_of (g.held a)) r all.0 (loaded tells).over all.1, ap (λ t. put.front ++ t) is ∙ all.2 ∙ ap (λ t. t ++ items_text r.records all.0) head);
  }

  -- or a front of it
  pub said_some : (a b c : D) → Looks g a b → (r : Loaded) (k : SinkSide) (failed : Bool) (before : List ℕ) → before ≡ label_line r.label → (g.tells → IsLoaded (files_found (disk_side g a c)) r)
      → HasPutSome g.tells (contents_of (g.held b)) r before k failed → HasStopped k failed (disk_side g a c)
  said_some a b c first r k failed before head loaded put = record {
    front = put.front;
    sent = put.sent;
    so_far = λ tells.
        let some = subst (λ (h : Holdings). (items : List Item) × BeginsWith (contents_of h) r items × IsFront put.front (before ++ items_text r.records items)) (first.held tells) (put.some tells) in
        inr (r, loaded tells, some.0, some.1, subst (λ t. IsFront put.front (t ++ items_text r.records some.0)) head some.2);
  }
