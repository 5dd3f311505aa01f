-- How a disk goes on with a session: of one event more, and of each call.
use Rattle.std.proofs.Common.{◌≡◌, ◌≢◌, ◌⊎◌, ⊎_elim, inl, inr, ℕ, ◌+◌, ◌≤◌, List, [], ◌∷◌, ◌++◌, length, Result, Ok, Err, refl, sym, ap, ◌∙◌, subst, arith, append-nil}
use Rattle.std.specs.Prelude.{IfErr, MatchResult, OnOk}
use Rattle.pcp_base.specs.Time.{Moment}
use Rattle.pcp_base.specs.declared.result.Item.{Item}
use Rattle.pcp_model.specs.Disk.{CrashImage, Files, Holdings}
use Rattle.pcp_model.specs.LabelFields.{LabelFields}
use Rattle.pcp_outside.specs.declared.disk.Disk.{Ghosts as DiskGhosts}
use Rattle.pcp_outside.specs.Devices.{LeavesOnly}
use Rattle.pcp_outside.proofs.Crash.{joined, weaker}
use Rattle.logger_core.specs.declared.fault.LogFault.{LogFault}
use Rattle.logger_core.specs.declared.fault.LogFault.TheVariants.{Closed, Live, Large, NotLater, Changed, Full, NoMemory, DiskFault}
use Rattle.logger_core.proofs.Calls.{no_call}
use Rattle.logging_session.specs.declared.place.Place.{Place}
use Rattle.logging_session.specs.declared.place.Place.TheVariants.{Found, Open, Lost, Failed}
use Rattle.logging_session.specs.Answers.{ComesBackBy, FlushMayAnswer, OpenMayAnswer, TakeFails, TakeMayAnswer}
use Rattle.logging_session.specs.ComingBack.{ComesBackTo}
use Rattle.logging_session.specs.Course.{HasKept, HasNotClosed, HasNotFlushed, HasNotLogged, HasPassed, HasTurnedAway, WentBy, WereHeld}
use Rattle.logging_session.specs.Events.{EndsLogged, Event, acknowledged_by, behind, items_by, opening, sure_after}
use Rattle.logging_session.specs.Keeping.{Carried, HasFailed, HasFound, HasLogger, HasLost, IsClosed, IsFailed, IsFound, IsOpen, IsPlace, Keeps, held_in}
use Rattle.logging_session.specs.Written.{Refuses, Report, Stand, Written}
use Rattle.logging_session.proofs.Events.{items_more}
use Rattle.logging_session.proofs.Going.{comes_fewer, comes_more}
use Rattle.logging_session.proofs.HeldEvents.{held_behind, none_held}
use Rattle.logging_session.proofs.Logging.{opened_leads}
use Rattle.logging_session.proofs.Placed.{neither}
use Rattle.logging_session.proofs.Sessions.{kept_comes, kept_files, kept_holds_none}

-- ---- the first ones of some events

pub none_front : (front rest : List Event) → [] ≡ front ++ rest → front ≡ []
none_front [] rest is = refl
none_front (x ∷ front) rest is = cc

head_same : (x y : Event) (xs ys : List Event) → x ∷ xs ≡ y ∷ ys → x ≡ y
head_same x y xs ys is = cc

tail_same : (x y : Event) (xs ys : List Event) → x ∷ xs ≡ y ∷ ys → xs ≡ ys
tail_same x y xs ys is = cc

-- they are the first ones of these events
abbrev pub IsFront : List Event → List Event → Type 0
IsFront front events = (rest : List Event) × (events ≡ front ++ rest)

-- where one more comes behind, the first ones are those of before, or all
pub front_more : (events : List Event) (e : Event) (front rest : List Event) → events ++ e ∷ [] ≡ front ++ rest → IsFront front events ⊎ (front ≡ events ++ e ∷ [])
front_more [] e [] rest is = inl ([], refl)
front_more [] e (x ∷ front) rest is =
    inr (ap (λ (y : Event). y ∷ front) (sym (head_same e x [] (front ++ rest) is)) ∙ ap (λ (ys : List Event). e ∷ ys) (none_front front rest (tail_same e x [] (front ++ rest) is)))
front_more (y ∷ events) e [] rest is = inl (y ∷ events, refl)
front_more (y ∷ events) e (x ∷ front) rest is =
    let same : y ≡ x = head_same y x (events ++ e ∷ []) (front ++ rest) is in
    ⊎_elim (λ (h : IsFront front events). inl (h.0, ap (λ (ys : List Event). y ∷ ys) h.1 ∙ ap (λ (z : Event). z ∷ (front ++ h.0)) same))
    (λ (all : front ≡ events ++ e ∷ []). inr (ap (λ (z : Event). z ∷ front) (sym same) ∙ ap (λ (ys : List Event). y ∷ ys) all))
    (front_more events e front rest (tail_same y x (events ++ e ∷ []) (front ++ rest) is))

-- what is acknowledged stays so
sure_grows : (events : List Event) (all sure : ℕ) → sure ≤ all → sure ≤ sure_after all sure events
sure_grows [] all sure le = omega arith
sure_grows (Event.opened t ∷ events) all sure le = sure_grows events all sure le
sure_grows (Event.logged r ∷ events) all sure le = sure_grows events (all + 1) sure (omega (arith, le))
sure_grows (Event.flushed ∷ events) all sure le = omega (arith, le, sure_grows events all all (omega arith))
sure_grows (Event.synced ∷ events) all sure le = omega (arith, le, sure_grows events all all (omega arith))

sure_front : (front rest : List Event) (all sure : ℕ) → sure ≤ all → sure_after all sure front ≤ sure_after all sure (front ++ rest)
sure_front [] rest all sure le = sure_grows rest all sure le
sure_front (Event.opened t ∷ front) rest all sure le = sure_front front rest all sure le
sure_front (Event.logged r ∷ front) rest all sure le = sure_front front rest (all + 1) sure (omega (arith, le))
sure_front (Event.flushed ∷ front) rest all sure le = sure_front front rest all all (omega arith)
sure_front (Event.synced ∷ front) rest all sure le = sure_front front rest all all (omega arith)

-- ---- the last of some events

-- behind others an event is the last as it is alone
last_of : (f : Event) (events : List Event) (e : Event) → EndsLogged (f ∷ events ++ e ∷ []) → EndsLogged (e ∷ [])
last_of (Event.opened t) [] e ends = ends
last_of (Event.logged r) [] e ends = ends
last_of Event.flushed [] e ends = ends
last_of Event.synced [] e ends = ends
last_of (Event.opened t) (x ∷ events) e ends = last_of x events e ends
last_of (Event.logged r) (x ∷ events) e ends = last_of x events e ends
last_of Event.flushed (x ∷ events) e ends = last_of x events e ends
last_of Event.synced (x ∷ events) e ends = last_of x events e ends

ends_with : (events : List Event) (e : Event) → EndsLogged (events ++ e ∷ []) → EndsLogged (e ∷ [])
ends_with [] e ends = ends
ends_with (f ∷ events) e ends = last_of f events e ends

-- a result that was logged is the last
logged_behind : (f : Event) (events : List Event) (r : Report) → EndsLogged (f ∷ events ++ Event.logged r ∷ [])
logged_behind (Event.opened t) [] r = tt
logged_behind (Event.logged q) [] r = tt
logged_behind Event.flushed [] r = tt
logged_behind Event.synced [] r = tt
logged_behind (Event.opened t) (x ∷ events) r = logged_behind x events r
logged_behind (Event.logged q) (x ∷ events) r = logged_behind x events r
logged_behind Event.flushed (x ∷ events) r = logged_behind x events r
logged_behind Event.synced (x ∷ events) r = logged_behind x events r

logged_last : (events : List Event) (r : Report) → EndsLogged (events ++ Event.logged r ∷ [])
logged_last [] r = tt
logged_last (f ∷ events) r = logged_behind f events r

-- the first ones of some events, as many as end in no logged result: they acknowledge as many
record HasSettled (events : List Event) : Type 0 where
  pub front : List Event
  pub rest : List Event
  pub is : events ≡ front ++ rest
  pub other : EndsLogged front → ⊥
  pub sure : (all sure : ℕ) → sure_after all sure front ≡ sure_after all sure events

none_settled : (r : Report) (events front : List Event) → front ≡ [] → ((all sure : ℕ) → sure_after all sure front ≡ sure_after all sure events) → HasSettled (Event.logged r ∷ events)
none_settled r events front none same = record {
  front = [];
  rest = Event.logged r ∷ events;
  is = refl;
  other = λ h. h;
  sure = λ all sure. sym (ap (λ (es : List Event). sure_after (all + 1) sure es) none) ∙ same (all + 1) sure;
}

settled_behind : (e : Event) (events front rest : List Event) → events ≡ front ++ rest → (EndsLogged front → ⊥) → ((all sure : ℕ) → sure_after all sure front ≡ sure_after all sure events) → HasSettled (e ∷ events)
settled_behind (Event.logged r) events [] rest is other same = none_settled r events [] refl same
settled_behind (Event.opened t) events [] rest is other same = record { front = Event.opened t ∷ []; rest = rest; is = ap (λ (es : List Event). Event.opened t ∷ es) is; other = λ h. h; sure = λ all sure. same all sure }
settled_behind Event.flushed events [] rest is other same = record { front = Event.flushed ∷ []; rest = rest; is = ap (λ (es : List Event). Event.flushed ∷ es) is; other = λ h. h; sure = λ all sure. same all all }
settled_behind Event.synced events [] rest is other same = record { front = Event.synced ∷ []; rest = rest; is = ap (λ (es : List Event). Event.synced ∷ es) is; other = λ h. h; sure = λ all sure. same all all }
settled_behind (Event.logged r) events (x ∷ front) rest is other same = record { front = Event.logged r ∷ x ∷ front; rest = rest; is = ap (λ (es : List Event). Event.logged r ∷ es) is; other = other; sure = λ all sure. same (all + 1) sure }
settled_behind (Event.opened t) events (x ∷ front) rest is other same = record { front = Event.opened t ∷ x ∷ front; rest = rest; is = ap (λ (es : List Event). Event.opened t ∷ es) is; other = other; sure = λ all sure. same all sure }
settled_behind Event.flushed events (x ∷ front) rest is other same = record { front = Event.flushed ∷ x ∷ front; rest = rest; is = ap (λ (es : List Event). Event.flushed ∷ es) is; other = other; sure = λ all sure. same all all }
settled_behind Event.synced events (x ∷ front) rest is other same = record { front = Event.synced ∷ x ∷ front; rest = rest; is = ap (λ (es : List Event). Event.synced ∷ es) is; other = other; sure = λ all sure. same all all }

has_settled : (events : List Event) → HasSettled events
has_settled [] = record { front = []; rest = []; is = refl; other = λ h. h; sure = λ all sure. refl }
has_settled (e ∷ events) = let h : HasSettled events = has_settled events in settled_behind e events h.front h.rest h.is h.other h.sure

pub front_sure : (events front rest : List Event) → events ≡ front ++ rest → acknowledged_by front ≤ acknowledged_by events
front_sure events front rest is = subst (λ (es : List Event). acknowledged_by front ≤ acknowledged_by es) (sym is) (sure_front front rest 0 0 (omega arith))

-- ---- a closed session that is kept

module _ (l : LabelFields) (left : Files) (limit : ℕ) (events : List Event) (held : Holdings) where
  place_failed : {A : Type 0} (stand : Stand) (lost : ℕ) → IsPlace l left limit events stand (Failed lost) held → A
  place_failed (Stand.found files) lost is = absurd is
  place_failed (Stand.opened w) lost is = absurd is

  place_lost : (stand : Stand) → IsPlace l left limit events stand Lost held → events ≡ []
  place_lost (Stand.found files) is = is.none
  place_lost (Stand.opened w) is = absurd is

  place_closed : (stand : Stand) (place : Place) → IsPlace l left limit events stand place held → HasLost place ⊎ HasFailed place → events ≡ []
  place_closed stand (Found archive) is closed = neither closed
  place_closed stand (Open b) is closed = neither closed
  place_closed stand Lost is closed = place_lost stand is
  place_closed stand (Failed lost) is closed = place_failed stand lost is

  place_not_failed : {A : Type 0} (stand : Stand) (place : Place) → IsPlace l left limit events stand place held → HasFailed place → A
  place_not_failed stand (Found archive) is failed = absurd failed
  place_not_failed stand (Open b) is failed = absurd failed
  place_not_failed stand Lost is failed = absurd failed
  place_not_failed stand (Failed lost) is failed = place_failed stand lost is

  none_behind : {A : Type 0} (e : Event) (es : List Event) → events ≡ e ∷ es → events ≡ [] → A
  none_behind e es some none = absurd (let no : [] ≡ e ∷ es = sym none ∙ some in cc)

  place_some : (e : Event) (es : List Event) → events ≡ e ∷ es → (stand : Stand) (place : Place) → IsPlace l left limit events stand place held → HasLogger place
  place_some e es some stand (Open b) is = tt
  place_some e es some (Stand.found files) (Found archive) is = none_behind e es some is.1.none
  place_some e es some (Stand.found files) Lost is = none_behind e es some is.none
  place_some e es some (Stand.found files) (Failed lost) is = absurd is
  place_some e es some (Stand.opened w) (Found archive) is = absurd is
  place_some e es some (Stand.opened w) Lost is = absurd is
  place_some e es some (Stand.opened w) (Failed lost) is = absurd is

  place_found : (stand : Stand) (place : Place) → IsPlace l left limit events stand place held → HasFound place → events ≡ []
  place_found (Stand.found files) (Found archive) is found = is.1.none
  place_found (Stand.opened w) (Found archive) is found = absurd is
  place_found stand (Open b) is found = absurd found
  place_found stand Lost is found = absurd found
  place_found stand (Failed lost) is found = absurd found

-- before it is open nothing was done in it
pub found_none : (left : Files) (events : List Event) (s : Carried) (held : Holdings) → Keeps left events s held → IsFound s → events ≡ []
found_none left events s held k found = place_found s.label left s.limit events held k.stand s.place k.place found

-- a session that is closed holds nothing
closed_holds : (place : Place) → HasLost place ⊎ HasFailed place → held_in place ≡ 0
closed_holds (Found archive) closed = refl
closed_holds (Open b) closed = neither closed
closed_holds Lost closed = refl
closed_holds (Failed lost) closed = refl

kept_is_open : (left : Files) (e : Event) (events : List Event) (s : Carried) (held : Holdings) → Keeps left (e ∷ events) s held → IsOpen s
kept_is_open left e events s held k = place_some s.label left s.limit (e ∷ events) held e events refl k.stand s.place k.place

module _ (left : Files) (events : List Event) (s : Carried) (held : Holdings) (k : Keeps left events s held) where
  -- nothing was done in it
  closed_none : IsClosed s → events ≡ []
  closed_none closed = place_closed s.label left s.limit events held k.stand s.place k.place closed

  -- and the disk didn't fail
  pub kept_not_failed : {A : Type 0} → IsFailed s → A
  kept_not_failed failed = place_not_failed s.label left s.limit events held k.stand s.place k.place failed

-- ---- over any disk

module _ {D : Type 0} (d : DiskGhosts D) (left : Files) where
  abbrev Leaves : D → D → (Files → Type 0) → Type 0
  Leaves old new P = LeavesOnly d.moment d.left_since old new P

  -- what was passed was so while more items come on their way, and all acknowledged ones stay
  passed_on : (l : LabelFields) (limit : ℕ) (events front rest : List Event) (items more : List Item) (start old new : D) → events ≡ front ++ rest → HasPassed d l limit left front items start old
      → Leaves old new (ComesBackTo (items ++ more) (acknowledged_by events) left) → HasPassed d l limit left front (items ++ more) start new
  passed_on l limit events front rest items more start old new is p run = record {
    at = p.at;
    before = p.before;
    files = p.files;
    since = joined d.moment d.left_since d.held p.at old new (ComesBackTo (items ++ more) (acknowledged_by front) left)
        (weaker d.moment d.left_since d.held p.at old (ComesBackTo items (acknowledged_by front) left) (ComesBackTo (items ++ more) (acknowledged_by front) left) p.since
        (λ image comes. comes_more items more (acknowledged_by front) left image comes))
        (weaker d.moment d.left_since d.held old new (ComesBackTo (items ++ more) (acknowledged_by events) left) (ComesBackTo (items ++ more) (acknowledged_by front) left) run
        (λ image comes. comes_fewer (items ++ more) (acknowledged_by events) (acknowledged_by front) left image (front_sure events front rest is) comes));
  }

  module _ (l : LabelFields) (limit : ℕ) (events : List Event) (start old new : D) (w : WentBy d l limit left events [] start old) where
    -- no item was on its way
    went_at : (front rest : List Event) → events ≡ front ++ rest → (EndsLogged front → ⊥) → HasPassed d l limit left front (items_by events) start old
    went_at front rest is other = subst (λ (items : List Item). HasPassed d l limit left front items start old) (append-nil (items_by events)) (w front rest is other)

    went_before : Leaves start old (ComesBackTo (items_by events) 0 left)
    went_before =
        let p : HasPassed d l limit left [] (items_by events) start old = went_at [] events refl (λ h. h) in
        joined d.moment d.left_since d.held start p.at old (ComesBackTo (items_by events) 0 left)
        (weaker d.moment d.left_since d.held start p.at (ComesBackTo [] 0 left) (ComesBackTo (items_by events) 0 left) p.before (λ image comes. comes_more [] (items_by events) 0 left image comes)) p.since

    -- no event more
    pub went_still : Leaves old new (ComesBackBy events left) → WentBy d l limit left events [] start new
    went_still run = λ front rest is other.
        passed_on l limit events front rest (items_by events) [] start old new is (went_at front rest is other) (subst (λ (items : List Item). Leaves old new (ComesBackTo items (acknowledged_by events) left)) (sym (append-nil (items_by events))) run)

    -- one event more
    pub goes_on : (e : Event) → Leaves old new (ComesBackTo (items_by events ++ items_by (e ∷ [])) (acknowledged_by events) left)
        → ((EndsLogged (events ++ e ∷ []) → ⊥) → HasPassed d l limit left (events ++ e ∷ []) (items_by (events ++ e ∷ []) ++ []) start new) → WentBy d l limit left (events ++ e ∷ []) [] start new
    goes_on e run now = λ front rest is other. ⊎_elim
        (λ (h : IsFront front events). subst (λ (items : List Item). HasPassed d l limit left front items start new) (sym (items_more events e) ∙ sym (append-nil (items_by (events ++ e ∷ []))))
        (passed_on l limit events front h.0 (items_by events) (items_by (e ∷ [])) start old new h.1 (went_at front h.0 h.1 other) run))
        (λ (all : front ≡ events ++ e ∷ []). subst (λ (es : List Event). HasPassed d l limit left es (items_by (events ++ e ∷ []) ++ []) start new) (sym all) (now (λ ends. other (subst EndsLogged (sym all) ends))))
        (front_more events e front rest is)

  -- before the archive was opened it was so too
  pub went_unopened : (l : LabelFields) (limit : ℕ) (stamp : Moment) (events : List Event) (more : List Item) (start disk : D) → WentBy d l limit left (opening stamp events) more start disk → WentBy d l limit left events more start disk
  went_unopened l limit stamp [] more start disk w = λ front rest is other.
      subst (λ (es : List Event). HasPassed d l limit left es ([] ++ more) start disk) (sym (none_front front rest is)) (w [] (Event.opened stamp ∷ []) refl (λ h. h))
  went_unopened l limit stamp (e ∷ events) more start disk w = w

  went_as : (s t : Carried) (events : List Event) (start disk : D) → t.label ≡ s.label → t.limit ≡ s.limit → WentBy d s.label s.limit left events [] start disk → WentBy d t.label t.limit left events [] start disk
  went_as s t events start disk label limit w =
      subst (λ (l : LabelFields). WentBy d l t.limit left events [] start disk) (sym label) (subst (λ (n : ℕ). WentBy d s.label n left events [] start disk) (sym limit) w)

  module _ (only_now : (disk : D) (c : Files) → d.left_since disk (d.moment disk) c → CrashImage (d.held disk) c) where
    -- what is kept stands so now, where nothing is held
    pub stands_now : (events : List Event) (s : Carried) (start disk : D) → Keeps left events s (d.held disk) → held_in s.place ≡ 0 → Leaves start disk (ComesBackTo (items_by events) 0 left) → HasPassed d s.label s.limit left events (items_by events ++ []) start disk
    stands_now events s start disk k none before = record {
      at = disk;
      before = before;
      files = record { stand = k.stand; lead = k.lead; are = kept_files left events s (d.held disk) k none };
      since = subst (λ (items : List Item). Leaves disk disk (ComesBackTo items (acknowledged_by events) left)) (sym (append-nil (items_by events)))
          (no_call d only_now disk (ComesBackBy events left) (kept_comes left events s (d.held disk) k));
    }

    pub begins : (s : Carried) (disk : D) → Keeps left [] s (d.held disk) → HasKept d left [] disk s disk
    begins s disk k = record {
      keeps = k;
      went = λ front rest is other. subst (λ (es : List Event). HasPassed d s.label s.limit left es ([] ++ []) disk disk) (sym (none_front front rest is))
          (stands_now [] s disk disk k (kept_holds_none left [] s (d.held disk) k refl) (no_call d only_now disk (ComesBackTo [] 0 left) (kept_comes left [] s (d.held disk) k)));
      held = none_held d left [] (held_in s.place) disk disk (kept_holds_none left [] s (d.held disk) k refl) (no_call d only_now disk (ComesBackTo [] 0 left) (kept_comes left [] s (d.held disk) k));
    }

    -- nothing was done
    kept_same : (events : List Event) (start old new : D) (s t : Carried) → t ≡ s → new ≡ old → HasKept d left events start s old → HasKept d left events start t new
    kept_same events start old new s t same still h = subst (λ (c : Carried). HasKept d left events start c new) (sym same) (subst (λ (disk : D). HasKept d left events start s disk) (sym still) h)

    -- ---- a call that keeps the session

    module _ (start old new : D) (s t : Carried) (label : t.label ≡ s.label) (limit : t.limit ≡ s.limit) where
      -- where nothing is held any more
      pub kept_still : (events : List Event) → HasKept d left events start s old → Leaves old new (ComesBackBy events left) → Keeps left events t (d.held new) → held_in t.place ≡ 0 → HasKept d left events start t new
      kept_still events h run k none = record {
        keeps = k;
        went = went_as s t events start new label limit (went_still s.label s.limit events start old new h.went run);
        held = none_held d left events (held_in t.place) start new none (joined d.moment d.left_since d.held start old new (ComesBackTo (items_by events) 0 left) (went_before s.label s.limit events start old new h.went)
            (weaker d.moment d.left_since d.held old new (ComesBackBy events left) (ComesBackTo (items_by events) 0 left) run (λ image comes. comes_fewer (items_by events) (acknowledged_by events) 0 left image (omega arith) comes)));
      }

      pub kept_more : (events : List Event) (e : Event) → HasKept d left events start s old → Leaves old new (ComesBackTo (items_by events ++ items_by (e ∷ [])) (acknowledged_by events) left)
          → Keeps left (events ++ e ∷ []) t (d.held new) → ((EndsLogged (events ++ e ∷ []) → ⊥) → held_in t.place ≡ 0)
          → (Leaves start new (ComesBackTo (items_by (events ++ e ∷ [])) 0 left) → WereHeld d left (events ++ e ∷ []) (held_in t.place) start new) → HasKept d left (events ++ e ∷ []) start t new
      kept_more events e h run k none back =
          let w : WentBy d t.label t.limit left events [] start old = went_as s t events start old label limit h.went in
          let all : List Item = items_by events ++ items_by (e ∷ []) in
          let before : Leaves start new (ComesBackTo all 0 left) = joined d.moment d.left_since d.held start old new (ComesBackTo all 0 left)
          (weaker d.moment d.left_since d.held start old (ComesBackTo (items_by events) 0 left) (ComesBackTo all 0 left) (went_before t.label t.limit events start old new w)
          (λ image comes. comes_more (items_by events) (items_by (e ∷ [])) 0 left image comes))
          (weaker d.moment d.left_since d.held old new (ComesBackTo all (acknowledged_by events) left) (ComesBackTo all 0 left) run (λ image comes. comes_fewer all (acknowledged_by events) 0 left image (omega arith) comes)) in
          let whole : Leaves start new (ComesBackTo (items_by (events ++ e ∷ [])) 0 left) = subst (λ (items : List Item). Leaves start new (ComesBackTo items 0 left)) (sym (items_more events e)) before in
          record {
            keeps = k;
            held = back whole;
            went = goes_on t.label t.limit events start old new w e run
                (λ other. stands_now (events ++ e ∷ []) t start new k (none other) whole);
          }

      pub kept_opened : (stamp : Moment) (events : List Event) → HasKept d left events start s old → Leaves old new (ComesBackBy events left) → Keeps left (opening stamp events) t (d.held new) → (IsOpen s → (t ≡ s) × (new ≡ old)) → HasKept d left (opening stamp events) start t new
      kept_opened stamp [] h run k stays =
          let none : held_in t.place ≡ 0 = kept_holds_none left (Event.opened stamp ∷ []) t (d.held new) k refl in
          kept_more [] (Event.opened stamp) h run k (λ other. none) (λ whole. none_held d left (Event.opened stamp ∷ []) (held_in t.place) start new none whole)
      kept_opened stamp (e ∷ events) h run k stays = let still = stays (kept_is_open left e events s (d.held old) h.keeps) in kept_same (e ∷ events) start old new s t still.0 still.1 h

      pub kept_behind : (e : Event) → items_by (e ∷ []) ≡ [] → (events : List Event) → HasKept d left events start s old → Leaves old new (ComesBackBy events left) → Keeps left (behind events e) t (d.held new) → held_in t.place ≡ 0 → HasKept d left (behind events e) start t new
      kept_behind e none [] h run k nothing = kept_still [] h run k nothing
      kept_behind e none (x ∷ events) h run k nothing =
          let same : items_by (x ∷ events) ≡ items_by (x ∷ events) ++ items_by (e ∷ []) = sym (ap (λ (items : List Item). items_by (x ∷ events) ++ items) none ∙ append-nil (items_by (x ∷ events))) in
          kept_more (x ∷ events) e h (subst (λ (items : List Item). Leaves old new (ComesBackTo items (acknowledged_by (x ∷ events)) left)) same run) k (λ other. nothing) (λ whole. none_held d left (x ∷ events ++ e ∷ []) (held_in t.place) start new nothing whole)

    -- ---- a write, a flush, a sync and the close

    module _ (start old new : D) (s t : Carried) (label : t.label ≡ s.label) (limit : t.limit ≡ s.limit) (events : List Event) (h : HasKept d left events start s old) (run : Leaves old new (ComesBackBy events left)) where
      not_flushed : (before after : ℕ) (e : LogFault) → FlushMayAnswer s t before after e → (IsClosed s → new ≡ old) → HasNotFlushed d left events start s t new e
      not_flushed before after Closed may still = (may.0, kept_same events start old new s t may.1 (still may.0) h)
      not_flushed before after (Live volume) may still = absurd may
      not_flushed before after (Large bytes) may still = absurd may
      not_flushed before after (NotLater last) may still = absurd may
      not_flushed before after (Changed pmid) may still = absurd may
      not_flushed before after (Full file bytes) may still = absurd may
      not_flushed before after NoMemory may still = absurd may
      not_flushed before after DiskFault may still = went_still s.label s.limit events start old new h.went run

      pub flush_went : {T : Type 0} (e : Event) → items_by (e ∷ []) ≡ [] → (result : Result T LogFault) (before after : ℕ) → OnOk result (Keeps left (behind events e) t (d.held new)) → OnOk result (held_in t.place ≡ 0) → IfErr result (FlushMayAnswer s t before after)
          → (IsClosed s → (result ≡ Err Closed) × (t ≡ s) × (new ≡ old)) → MatchResult result (λ _. HasKept d left (behind events e) start t new) (HasNotFlushed d left events start s t new)
      flush_went e none (Ok v) before after done nothing may closed = kept_behind start old new s t label limit e none events h run done nothing
      flush_went e none (Err fault) before after done nothing may closed = not_flushed before after fault may (λ was. (closed was).2)

    -- where something was logged the session isn't closed
    pub not_closed_by : (events : List Event) (start old new : D) (s t : Carried) → HasKept d left events start s old → (length (items_by events) ≡ 0 → ⊥) → (e : LogFault) → HasNotFlushed d left events start s t new e → HasNotClosed d left events start s new e
    not_closed_by events start old new s t h some Closed fails = absurd (some (ap (λ (es : List Event). length (items_by es)) (closed_none left events s (d.held old) h.keeps fails.0)))
    not_closed_by events start old new s t h some (Live volume) fails = absurd fails
    not_closed_by events start old new s t h some (Large bytes) fails = absurd fails
    not_closed_by events start old new s t h some (NotLater last) fails = absurd fails
    not_closed_by events start old new s t h some (Changed pmid) fails = absurd fails
    not_closed_by events start old new s t h some (Full file bytes) fails = absurd fails
    not_closed_by events start old new s t h some NoMemory fails = absurd fails
    not_closed_by events start old new s t h some DiskFault fails = (refl, fails)

    -- ---- `log`: the archive isn't opened

    pub not_opened : (start old new : D) (s t : Carried) → t.label ≡ s.label → t.limit ≡ s.limit → (events : List Event) (r : Report) → HasKept d left events start s old → Leaves old new (ComesBackBy events left)
        → (before after : ℕ) (e : LogFault) → OpenMayAnswer s t before after e → (e ≢ DiskFault → Keeps left events t (d.held new)) → HasNotLogged d left events r start s t new e
    not_opened start old new s t label limit events r h run before after Closed may keeps =
        let k : Keeps left events t (d.held new) = keeps (λ e. cc) in
        let none : items_by events ≡ [] = ap items_by (closed_none left events s (d.held old) h.keeps may.0) in
        (may.0, kept_still start old new s t label limit events h run k (kept_holds_none left events t (d.held new) k none))
    not_opened start old new s t label limit events r h run before after (Live volume) may keeps = absurd may
    not_opened start old new s t label limit events r h run before after (Large bytes) may keeps = absurd may
    not_opened start old new s t label limit events r h run before after (NotLater last) may keeps = absurd may
    not_opened start old new s t label limit events r h run before after (Changed pmid) may keeps = absurd may
    not_opened start old new s t label limit events r h run before after (Full file bytes) may keeps = absurd may
    not_opened start old new s t label limit events r h run before after NoMemory may keeps = inl (kept_still start old new s t label limit events h run (keeps (λ e. cc)) (closed_holds t.place (inl may.1)))
    not_opened start old new s t label limit events r h run before after DiskFault may keeps = went_still s.label s.limit events start old new h.went run

    -- ---- `log`: and then it is handed the result

    module _ (events : List Event) (r : Report) (start mid : D) (old middle new : Carried) (k : Keeps left (opening r.result.stamp events) middle (d.held mid)) (open_ : IsOpen middle) (label : middle.label ≡ old.label) (limit : middle.limit ≡ old.limit)
        (went : WentBy d middle.label middle.limit left (opening r.result.stamp events) [] start mid) (back : WereHeld d left (opening r.result.stamp events) (held_in middle.place) start mid) where
      abbrev opened : List Event
      opened = opening r.result.stamp events

      abbrev kept : HasKept d left opened start middle mid
      kept = record { keeps = k; went = went; held = back }

      -- nothing changed
      still_kept : new ≡ middle → HasKept d left opened start new mid
      still_kept same = subst (λ (c : Carried). HasKept d left opened start c mid) (sym same) kept

      turned_away : (e : LogFault) → new ≡ middle → (w : Written) × (k.stand ≡ Stand.opened w) × Refuses middle.limit r w e → HasTurnedAway d left events r start old new mid e
      turned_away e same t = record {
        kept = still_kept same;
        w = t.0;
        lead = opened_leads left events r middle new (d.held mid) k open_ old label limit t.0 t.1;
        refuses = subst (λ (n : ℕ). Refuses n r t.0 e) limit t.2;
      }

      not_taken : (e : LogFault) → TakeMayAnswer r middle new e → TakeFails k.stand middle.limit r e → HasNotLogged d left events r start old new mid e
      not_taken Closed may fails = absurd may
      not_taken (Live volume) may fails = absurd may
      not_taken (Large bytes) may fails = turned_away (Large bytes) may.0 fails
      not_taken (NotLater t) may fails = turned_away (NotLater t) may.0 fails
      not_taken (Changed pmid) may fails = turned_away (Changed pmid) may.0 fails
      not_taken (Full file bytes) may fails = turned_away (Full file bytes) may.0 fails
      not_taken NoMemory may fails = inr (still_kept may)
      not_taken DiskFault may fails = absurd may

      -- it is held, and nothing is written
      taken : new.label ≡ middle.label → new.limit ≡ middle.limit → Keeps left (opened ++ Event.logged r ∷ []) new (d.held mid) → held_in new.place ≡ held_in middle.place + 1 → HasKept d left (opened ++ Event.logged r ∷ []) start new mid
      taken name most done more = kept_more start mid mid middle new name most opened (Event.logged r) kept
          (no_call d only_now mid (ComesBackTo (items_by opened ++ items_by (Event.logged r ∷ [])) (acknowledged_by opened) left)
          (λ image crash. comes_more (items_by opened) (items_by (Event.logged r ∷ [])) (acknowledged_by opened) left image (kept_comes left opened middle (d.held mid) k image crash)))
          done (λ other. absurd (other (logged_last opened r)))
          (λ whole front held is many. held_behind d left opened (Event.logged r) (held_in middle.place) start mid back front held is (many ∙ more))

      pub take_went : {T : Type 0} (result : Result T LogFault) → new.label ≡ middle.label → new.limit ≡ middle.limit → OnOk result (Keeps left (opened ++ Event.logged r ∷ []) new (d.held mid)) → OnOk result (held_in new.place ≡ held_in middle.place + 1) → IfErr result (TakeMayAnswer r middle new) → IfErr result (TakeFails k.stand middle.limit r)
          → MatchResult result (λ _. HasKept d left (opened ++ Event.logged r ∷ []) start new mid) (HasNotLogged d left events r start old new mid)
      take_went (Ok v) name most done more may fails = taken name most done more
      take_went (Err e) name most done more may fails = not_taken e may fails

  -- ---- what a crash leaves

  -- at any moment since then
  pub survives_since : (l : LabelFields) (limit : ℕ) (events : List Event) (more : List Item) (old new : D) → WentBy d l limit left events more old new → Leaves old new (ComesBackTo (items_by events ++ more) 0 left)
  survives_since l limit events more old new w =
      let p : HasPassed d l limit left [] (items_by events ++ more) old new = w [] events refl (λ h. h) in
      joined d.moment d.left_since d.held old p.at new (ComesBackTo (items_by events ++ more) 0 left)
      (weaker d.moment d.left_since d.held old p.at (ComesBackTo [] 0 left) (ComesBackTo (items_by events ++ more) 0 left) p.before (λ image comes. comes_more [] (items_by events ++ more) 0 left image comes)) p.since

  -- Whatever a crash leaves of what the disk holds comes back, also where it failed.
  pub survives_now : (counts_now : (disk : D) (t : ℕ) (c : Files) → t ≤ d.moment disk → CrashImage (d.held disk) c → d.left_since disk t c) → (l : LabelFields) (limit : ℕ) (events : List Event) (more : List Item) (old new : D)
      → WentBy d l limit left events more old new → (image : Files) → CrashImage (d.held new) image → ComesBackTo (items_by events ++ more) (acknowledged_by events) left image
  survives_now counts_now l limit events more old new w image crash =
      let h : HasSettled events = has_settled events in
      let p : HasPassed d l limit left h.front (items_by events ++ more) old new = w h.front h.rest h.is h.other in
      comes_fewer (items_by events ++ more) (acknowledged_by h.front) (acknowledged_by events) left image (omega (arith, h.sure 0 0)) (p.since.each image (counts_now new (d.moment p.at) image p.since.later crash))
