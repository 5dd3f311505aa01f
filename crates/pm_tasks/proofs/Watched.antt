-- A watch of an archive goes on with each item.
use Rattle.std.proofs.Common.{◌≡◌, inl, inr, ℕ, Bool, true, false, List, [], ◌∷◌, ◌++◌, append_assoc, refl, sym, ap, ◌∙◌, subst, Some, Result, Ok, Err, IfErr}
use Rattle.std.specs.Prelude.{codes}
use Rattle.std.specs.Result.{IsErrAnd}
use Rattle.pcp_base.specs.Time.{Moment}
use Rattle.pcp_base.specs.declared.result.Item.{Item}
use Rattle.pcp_model.specs.Disk.{Files, Holdings, contents_of}
use Rattle.pcp_outside.specs.declared.disk.Disk.{Ghosts as DiskGhosts}
use Rattle.pcp_outside.specs.declared.streams.Sink.{Ghosts as SinkGhosts}
use Rattle.pcp_outside.specs.Sides.{SinkSide, sink_side}
use Rattle.archive_loading.specs.Looks.{Looks}
use Rattle.archive_loading.specs.Loaded.{Loaded}
use Rattle.archive_reader.proofs.Readable.{standing_is_read}
use Rattle.archive_reader.specs.Searches.{between}
use Rattle.archive_reader.specs.Walks.{volumes_from, Leads}
use Rattle.archive_reader.specs.declared.places.Place.{Place}
use Rattle.text_lines.specs.Spelling.{one_number}
use Rattle.rule_watch.specs.declared.rule.Rule.{Rule}
use Rattle.rule_watch.specs.declared.fault.ReadRulesError.{ReadRulesError}
use Rattle.rule_watch.specs.declared.fault.ReadRulesError.TheVariants as unread
use Rattle.rule_watch.specs.Reading.{Answers, rules_of as read_rules}
use Rattle.rule_watch.specs.Shown.{KeptRule, Shows, rules_of}
use Rattle.pm_words.specs.declared.refusal.Refusal.{Refusal}
use Rattle.pm_words.specs.declared.refusal.Refusal.TheVariants.{NotArchive}
use Rattle.pm_words.specs.Inputs.{Refuses, rules_refusal}
use Rattle.pm_words.specs.Sides.{DiskSide, Found, disk_side, files_found}
use Rattle.pm_words.specs.Streams.{IsSent, Turns}
use Rattle.pm_words.proofs.Sending.{sent_on, unsent}
use Rattle.pm_tasks.specs.declared.commands.watch.Told.{Told}
use Rattle.pm_tasks.specs.Archives.{IsLoaded, TurnedAway}
use Rattle.pm_tasks.specs.Telling.{AreTold, TellsAll, samples_of}
use Rattle.pm_tasks.specs.commands.dump.{BadNext, BadRecord, HasItems}
use Rattle.pm_tasks.specs.commands.watch.{BeginsTelling, HasSaid, HasSentAll, HasSentSome, HasStopped, WatchesNext, refusal_of, refuses}
use Rattle.pm_tasks.proofs.Asking.{turned_on}
use Rattle.pm_tasks.proofs.Dumped.{leads_on}
use Rattle.pm_tasks.proofs.Firings.{Watching, items_begin, items_end, items_on, items_sent, told_so_far}

-- so far these items were read, and watched; a front of the lines was sent
pub record Walking (files : Files) (r : Loaded) (rules : List Rule) (from to : Moment) (p : Place) (watch : List KeptRule) (front : List ℕ) (told : Told) : Type 0 where
  pub items : List Item
  pub leads : Leads files r.volumes 132 items (volumes_from p.volume r.volumes) p.offset
  pub watching : Watching r.records rules from to items watch front told

module _ (files : Files) (r : Loaded) (rules : List Rule) (from to : Moment) where
  walk_begins : (p : Place) (watch : List KeptRule) (told : Told) → volumes_from p.volume r.volumes ≡ r.volumes → p.offset ≡ 132 → Shows watch [] → rules_of watch ≡ rules → told.text.items ≡ [] → told.count ≡ 0
      → Walking files r rules from to p watch [] told
  walk_begins p watch told first label shows are text count = record { items = []; leads = (first, label); watching = items_begin r.records rules from to watch told shows are text count }

  walk_on : (p q : Place) (old new : List KeptRule) (front : List ℕ) (before after : Told) → Walking files r rules from to p old front before → WatchesNext files r p q from to old new before after true
      → Walking files r rules from to q new front after
  walk_on p q old new front before after w (x, step, tells) = record {
    items = w.items ++ x ∷ [];
    leads = leads_on files r.volumes 132 w.items (volumes_from p.volume r.volumes) p.offset x (volumes_from q.volume r.volumes) q.offset w.leads step;
    watching = items_on r.records rules from to w.items x old new front before after tells w.watching;
  }

  walk_sent : (p : Place) (watch : List KeptRule) (front piece : List ℕ) (told left : Told) → told.text.items ≡ piece ++ left.text.items → left.count ≡ told.count → Walking files r rules from to p watch front told
      → Walking files r rules from to p watch (front ++ piece) left
  walk_sent p watch front piece told left whole same w = record { items = w.items; leads = w.leads; watching = items_sent r.records rules from to w.items watch front piece told left whole same w.watching }

  walk_ends : (p q : Place) (old new : List KeptRule) (front : List ℕ) (before after : Told) → Walking files r rules from to p old front before → WatchesNext files r p q from to old new before after false
      → (items : List Item) × HasItems files r items × TellsAll r.records rules (between from to items) front after
  walk_ends p q old new front before after w (end, same, alike) = (
    w.items,
    record { last = volumes_from p.volume r.volumes; to = p.offset; leads = w.leads; ends = end },
    items_end r.records rules from to w.items old front after (subst (Watching r.records rules from to w.items old front) (sym alike) w.watching),
  )

  walk_some : (p : Place) (watch : List KeptRule) (front : List ℕ) (told : Told) → Walking files r rules from to p watch front told → BeginsTelling from to rules files r front
  walk_some p watch front told w = (
    w.items,
    (volumes_from p.volume r.volumes, p.offset, w.leads),
    w.watching.so_far,
    told_so_far r.records rules from to w.items watch front told w.watching,
    (told.text.items, sym w.watching.text),
  )

-- So far items were read and watched; a front of the lines was sent, and the rest waits.
pub record Going (tells : Type 0) (files : Files) (r : Loaded) (rules : List Rule) (from to : Moment) (p : Place) (watch : List KeptRule) (k : SinkSide) (failed : Bool) (told : Told) : Type 0 where
  pub front : List ℕ
  pub sent : IsSent k front failed
  pub walking : tells → Walking files r rules from to p watch front told

module _ {O : Type 0} (g : SinkGhosts O) (tells : Type 0) (files : Files) (r : Loaded) (rules : List Rule) (from to : Moment) where
  pub going_begins : (p : Place) (watch : List KeptRule) (told : Told) (a : O) (failed : Bool) → failed ≡ false → volumes_from p.volume r.volumes ≡ r.volumes → p.offset ≡ 132 → Shows watch [] → rules_of watch ≡ rules → told.text.items ≡ []
      → told.count ≡ 0 → Going tells files r rules from to p watch (sink_side g a a) failed told
  going_begins p watch told a failed fresh first label shows are text count = record {
    front = [];
    sent = unsent g a failed fresh;
    walking = λ yes. walk_begins files r rules from to p watch told first label shows are text count;
  }

  -- one item more, and a page that was full was sent
  pub going_on : (p q : Place) (old new : List KeptRule) (a b c : O) (failed now : Bool) (before after left : Told) → Going tells files r rules from to p old (sink_side g a b) failed before
      → (tells → WatchesNext files r p q from to old new before after true) → Turns (sink_side g b c) failed now after.text.items left.text.items → left.count ≡ after.count
      → Going tells files r rules from to q new (sink_side g a c) now left
  going_on p q old new a b c failed now before after left was next turns same = record {
    front = was.front ++ turns.piece;
    sent = sent_on g a b c was.front turns.piece failed now was.sent turns.sends;
    walking = λ yes. walk_sent files r rules from to q new was.front turns.piece after left turns.whole same (walk_on files r rules from to p q old new was.front before after (was.walking yes) (next yes));
  }

  -- to the end
  pub going_ends : (p q : Place) (old new : List KeptRule) (k : SinkSide) (failed : Bool) (before after : Told) → Going tells files r rules from to p old k failed before
      → (tells → WatchesNext files r p q from to old new before after false) → HasSentAll tells files r rules from to k failed after
  going_ends p q old new k failed before after was next = record {
    front = was.front;
    sent = was.sent;
    all = λ yes. walk_ends files r rules from to p q old new was.front before after (was.walking yes) (next yes);
  }

  -- or stopped before
  pub going_stops : (p : Place) (watch : List KeptRule) (k : SinkSide) (failed : Bool) (told : Told) → Going tells files r rules from to p watch k failed told → HasSentSome tells files r rules from to k failed
  going_stops p watch k failed told was = record { front = was.front; sent = was.sent; some = λ yes. walk_some files r rules from to p watch was.front told (was.walking yes) }

bad_after : (r : Loaded) (p : Place) (f : Found) (items : List Item) → Leads f.files r.volumes 132 items (volumes_from p.volume r.volumes) p.offset → (e : Refusal) → BadNext r p f e → BadRecord r f e
bad_after r p f items leads (NotArchive file at) bad = (items, record { last = volumes_from p.volume r.volumes; to = p.offset; leads = leads; bad = bad })
bad_after r p f items leads _ bad = absurd bad

all_begins : (files : Files) (r : Loaded) (rules : List Rule) (from to : Moment) (front : List ℕ) (told : Told) → (items : List Item) × HasItems files r items × TellsAll r.records rules (between from to items) front told
    → BeginsTelling from to rules files r front
all_begins files r rules from to front told (items, has, all) = (items, (has.last, has.to, has.leads), all.told, all.are, (told.text.items, sym all.text))

module _ {D : Type 0} (g : DiskGhosts D) where
  -- a step over the files as they were
  pub step_here : (a b : D) → Looks g a b → g.tells → (r s : Loaded) → s ≡ r → (p q : Place) (from to : Moment) (old new : List KeptRule) (before after : Told) (more want : Bool) → more ≡ want
      → WatchesNext (contents_of (g.held b)) s p q from to old new before after more → WatchesNext (contents_of (g.held a)) r p q from to old new before after want
  step_here a b first tells r s same p q from to old new before after more want is next =
      subst (λ (h : Holdings). WatchesNext (contents_of h) r p q from to old new before after want) (first.held tells)
      (subst (λ (l : Loaded). WatchesNext (contents_of (g.held b)) l p q from to old new before after want) same (subst (λ (m : Bool). WatchesNext (contents_of (g.held b)) s p q from to old new before after m) is next))

  -- after some items the next record is no item's
  pub walk_stops : (r : Loaded) (rules : List Rule) (from to : Moment) (p : Place) (watch : List KeptRule) (front : List ℕ) (told : Told) (a b c : D) → Looks g a b
      → (g.tells → Walking (contents_of (g.held a)) r rules from to p watch front told) → (e : Refusal) → TurnedAway (BadNext r p) (disk_side g b c) e → TurnedAway (BadRecord r) (disk_side g a c) e
  walk_stops r rules from to p watch front told a b c first so =
      turned_on g (BadNext r p) (BadRecord r) a b c first (λ tells e bad. let w : Walking (contents_of (g.held a)) r rules from to p watch front told = so tells in bad_after r p (files_found (disk_side g a c)) w.items w.leads e bad)

  -- the whole text: a front was sent, and the rest waits
  pub said_whole : (a b c : D) → Looks g a b → (r : Loaded) (rules kept : List Rule) → kept ≡ rules → (from to : Moment) (k : SinkSide) (failed : Bool) (told : Told) (waits : List ℕ) → (g.tells → IsLoaded (files_found (disk_side g a c)) r)
      → HasSentAll g.tells (contents_of (g.held b)) r kept from to k failed told → waits ≡ told.text.items ++ one_number (codes "fired") told.count → HasSaid from to rules k failed (disk_side g a c) waits
  said_whole a b c first r rules kept same from to k failed told waits loaded sent is = record {
    front = sent.front;
    sent = sent.sent;
    whole = λ tells.
        let w = subst (λ (h : Holdings). (items : List Item) × HasItems (contents_of h) r items × TellsAll r.records kept (between from to items) sent.front told) (first.held tells) (sent.all tells) in
        let t = w.2 in (
          r,
          loaded tells,
          w.0,
          w.1,
          standing_is_read (contents_of (g.held a)) r w.0 (loaded tells).over w.1,
          (
            t.told,
            subst (λ (rs : List Rule). AreTold rs [] (samples_of r.records (between from to w.0)) t.told) same t.are,
            ap (λ (x : List ℕ). sent.front ++ x) is ∙ sym (append_assoc sent.front told.text.items (one_number (codes "fired") told.count)) ∙ (λ j. t.text j ++ one_number (codes "fired") (t.count j)),
          ),
        );
  }

  -- or a front of it
  pub said_some : (a b c : D) → Looks g a b → (r : Loaded) (rules kept : List Rule) → kept ≡ rules → (from to : Moment) (k : SinkSide) (failed : Bool) → (g.tells → IsLoaded (files_found (disk_side g a c)) r)
      → HasSentSome g.tells (contents_of (g.held b)) r kept from to k failed → HasStopped from to rules k failed (disk_side g a c)
  said_some a b c first r rules kept same from to k failed loaded sent = record {
    front = sent.front;
    sent = sent.sent;
    so_far = λ tells.
        inr (r, loaded tells, subst (λ (rs : List Rule). BeginsTelling from to rs (contents_of (g.held a)) r sent.front) same (subst (λ (h : Holdings). BeginsTelling from to kept (contents_of h) r sent.front) (first.held tells) (sent.some tells)));
  }

  -- or all its lines so far, where the last one wasn't made
  pub said_all : (a b c : D) → Looks g a b → (r : Loaded) (rules kept : List Rule) → kept ≡ rules → (from to : Moment) (k : SinkSide) (failed : Bool) (told : Told) → (g.tells → IsLoaded (files_found (disk_side g a c)) r)
      → HasSentAll g.tells (contents_of (g.held b)) r kept from to k failed told → HasStopped from to rules k failed (disk_side g a c)
  said_all a b c first r rules kept same from to k failed told loaded sent =
      said_some a b c first r rules kept same from to k failed loaded (record { front = sent.front; sent = sent.sent; some = λ tells. all_begins (contents_of (g.held b)) r kept from to sent.front told (sent.all tells) })

-- what is so of a refusal is so of the one that a `?` makes of it
pub refused_from : {T : Type 0} (r : Result T Refusal) (e : Refusal) (P : Refusal → Type 0) → IsErrAnd r (λ x. x ≡ e) → P e → IfErr r P
refused_from (Ok x) e P same p = tt
refused_from (Err x) e P same p = subst P (sym same) p

-- nothing was sent yet
pub stopped_at_once : {O : Type 0} (g : SinkGhosts O) (a : O) (failed : Bool) (from to : Moment) (rules : List Rule) (d : DiskSide) → failed ≡ false → HasStopped from to rules (sink_side g a a) failed d
stopped_at_once g a failed from to rules d fresh = record { front = []; sent = unsent g a failed fresh; so_far = λ tells. inl refl }

-- an input that isn't read is refused so
pub refused_so : (input : List ℕ) (e : ReadRulesError) → Answers (read_rules input) (Err e) → Refuses (Some refuses) input (refusal_of e)
refused_so input (unread.Fault fault) is = ap rules_refusal is
refused_so input unread.NoMemory is = tt
