-- Sessions one after another: the first, none, and more.
use Rattle.std.proofs.Common.{◌≡◌, ◌≢◌, ℕ, Bool, true, false, ◌+◌, ◌-◌, ◌<◌, ◌≤◌, List, [], ◌∷◌, ◌++◌, length, map, Result, Ok, Err, OnOk, OnErr, IsErr, sym, refl, ap, ◌∙◌, subst, arith}
use Rattle.std.specs.List.{AllByRecursion}
use Rattle.std.proofs.lemmas.List.{length-append, append-nil, append_assoc, map-append}
use Rattle.fetch_engine.specs.declared.server.Mounted.{Mounted}
use Rattle.pcp_outside.specs.Causes.{Rose, HasCause}
use Rattle.pcp_outside.specs.declared.failed.Failed.{Failed}
use Rattle.pcp_outside.specs.Doors.{Connection, Report, GivesConnection}
use Rattle.pcp_outside.specs.declared.doors.Door.{Ghosts}
use Rattle.fetch_engine.specs.Servers.{Seated}
use Rattle.pmcd_server.specs.Turns.{Turn, IsSession, Follow}
use Rattle.pmcd_server.specs.Works.{Failure, Nowhere, AtNext, AtEnded, HasStopped, AreReported, Serves, Answers, WorksOn, Drew, GoesOn}
use Rattle.pmcd_server.specs.Places.{Drawer}

all_on : {X : Type 0} (Q : X → Type 0) (xs ys : List X) → AllByRecursion Q xs → AllByRecursion Q ys → AllByRecursion Q (xs ++ ys)
all_on Q [] ys a b = b
all_on Q (x ∷ xs) ys a b = (a.0, all_on Q xs ys a.1 b)

abbrev connection_of : Turn → Connection
connection_of t = t.connection

abbrev report_of : Turn → Report
report_of t = t.report

-- a failure is somewhere
abbrev is_nowhere : Failure → Type 0
is_nowhere Nowhere = Unit {0}
is_nowhere AtNext = ⊥
is_nowhere AtEnded = ⊥

module _ {P In Out Time : Type 0} (rows : List Mounted) (d : Ghosts P In Out Time) where
  -- the door gave no connection
  pub gave_none : (seat : Seated) (door door_after : P) → Rose (d.faults door) (d.faults door_after) → (d.tells → d.left door_after ≡ d.left door) → (d.tells → d.given door_after ≡ d.given door)
      → (d.tells → d.reports door_after ≡ d.reports door) → Serves rows d 1 seat door [] AtNext seat door_after
  gave_none seat door door_after rose left given reports = record {
    follow = refl;
    stopped = (refl, rose);
    left = λ tells. sym (left tells);
    given = λ tells. given tells ∙ sym (append-nil (d.given door));
    reports = λ tells. reports tells ∙ sym (append-nil (d.reports door));
  }

  pub none_served : {T E : Type 0} (result : Result T E) → IsErr result → (seat : Seated) (door door_after : P) → Rose (d.faults door) (d.faults door_after) → (d.tells → d.left door_after ≡ d.left door) → (d.tells → d.given door_after ≡ d.given door)
      → (d.tells → d.reports door_after ≡ d.reports door) → (turns : List Turn) × (failure : Failure) × Serves rows d 1 seat door turns failure seat door_after × Answers failure result
  none_served (Ok x) err seat door door_after rose left given reports = absurd (grind arith)
  none_served (Err e) err seat door door_after rose left given reports = ([], AtNext, gave_none seat door door_after rose left given reports, (λ p. subst is_nowhere (sym p) tt))

  -- a session was served, and its objects were handed back
  pub served_one : {T E : Type 0} (result : Result T E) (t : Turn) (seat seat_after : Seated) (door between door_after : P)
      → IsSession rows d.tells t seat seat_after
      → (d.tells → GivesConnection t.connection (d.left door) (d.left between) (d.given door) (d.given between))
      → (d.tells → d.reports between ≡ d.reports door)
      → d.faults between ≡ d.faults door
      → (d.tells → OnOk result (d.reports door_after ≡ d.reports between ++ t.report ∷ []))
      → (d.tells → OnErr result (d.reports door_after ≡ d.reports between))
      → (d.tells → d.left door_after ≡ d.left between)
      → (d.tells → d.given door_after ≡ d.given between)
      → OnOk result (d.faults door_after ≡ d.faults between)
      → HasCause (d.faults between) (d.faults door_after) result
      → (turns : List Turn) × (failure : Failure) × Serves rows d 1 seat door turns failure seat_after door_after × Answers failure result
  served_one (Ok u) t seat seat_after door between door_after runs gives kept same reported unreported left given quiet cause = (
    t ∷ [],
    Nowhere,
    record {
      follow = (seat_after, runs, refl);
      stopped = (refl, quiet ∙ same);
      left = λ tells. (gives tells).first ∙ ap (λ (cs : List Connection). t.connection ∷ cs) (sym (left tells));
      given = λ tells. given tells ∙ (gives tells).given;
      reports = λ tells. reported tells ∙ ap (λ (rs : List Report). rs ++ t.report ∷ []) (kept tells);
    },
    refl,
  )
  served_one (Err e) t seat seat_after door between door_after runs gives kept same reported unreported left given quiet cause = (
    t ∷ [],
    AtEnded,
    record {
      follow = (seat_after, runs, refl);
      stopped = (refl, subst (λ (n : ℕ). Rose n (d.faults door_after)) same (cause.failed refl));
      left = λ tells. (gives tells).first ∙ ap (λ (cs : List Connection). t.connection ∷ cs) (sym (left tells));
      given = λ tells. given tells ∙ (gives tells).given;
      reports = λ tells. ([], t.report, refl, unreported tells ∙ kept tells ∙ sym (append-nil (d.reports door)));
    },
    (λ e. subst is_nowhere (sym e) tt),
  )

  -- sessions that follow one another
  follow_on : (first between last : Seated) (ts us : List Turn) → Follow rows d.tells first ts between → Follow rows d.tells between us last → Follow rows d.tells first (ts ++ us) last
  follow_on first between last [] us a b = subst (λ (x : Seated). Follow rows d.tells x us last) (sym a) b
  follow_on first between last (t ∷ ts) us a b = (a.0, a.1, follow_on a.0 between last ts us a.2 b)

  stopped_on : (failure : Failure) (m n j k before between after : ℕ) → HasStopped Nowhere m j before between → HasStopped failure n k between after → HasStopped failure (m + n) (j + k) before after
  stopped_on Nowhere m n j k before between after a b = (omega (arith, a, b), omega (arith, a, b))
  stopped_on AtNext m n j k before between after a b = (omega (arith, a, b), subst (λ (x : ℕ). Rose x after) a.1 b.1)
  stopped_on AtEnded m n j k before between after a b = (omega (arith, a, b), subst (λ (x : ℕ). Rose x after) a.1 b.1)

  reported_on : (failure : Failure) (before between after rs qs : List Report) → between ≡ before ++ rs → AreReported failure between after qs → AreReported failure before after (rs ++ qs)
  reported_on Nowhere before between after rs qs a b = b ∙ ap (λ (l : List Report). l ++ qs) a ∙ append_assoc before rs qs
  reported_on AtNext before between after rs qs a b = b ∙ ap (λ (l : List Report). l ++ qs) a ∙ append_assoc before rs qs
  reported_on AtEnded before between after rs qs a b = (
    rs ++ b.0,
    b.1,
    ap (λ (l : List Report). rs ++ l) b.2 ∙ sym (append_assoc rs b.0 (b.1 ∷ [])),
    b.3 ∙ ap (λ (l : List Report). l ++ b.0) a ∙ append_assoc before rs b.0,
  )

  pub serves_on : (m n : ℕ) (seat between last : Seated) (door middle door_after : P) (ts us : List Turn) (failure : Failure)
      → Serves rows d m seat door ts Nowhere between middle → Serves rows d n between middle us failure last door_after
      → Serves rows d (m + n) seat door (ts ++ us) failure last door_after
  serves_on m n seat between last door middle door_after ts us failure a b = record {
    follow = follow_on seat between last ts us a.follow b.follow;
    stopped = subst (λ (k : ℕ). HasStopped failure (m + n) k (d.faults door) (d.faults door_after)) (sym (length-append ts us))
        (stopped_on failure m n (length ts) (length us) (d.faults door) (d.faults middle) (d.faults door_after) a.stopped b.stopped);
    left = λ tells.
        let later = d.left door_after in
        a.left tells ∙ ap (λ (l : List Connection). map connection_of ts ++ l) (b.left tells) ∙ sym (append_assoc (map connection_of ts) (map connection_of us) later)
        ∙ ap (λ (l : List Connection). l ++ later) (sym (map-append connection_of ts us));
    given = λ tells.
        let earlier = d.given door in
        b.given tells ∙ ap (λ (l : List Connection). l ++ map connection_of us) (a.given tells) ∙ append_assoc earlier (map connection_of ts) (map connection_of us)
        ∙ ap (λ (l : List Connection). earlier ++ l) (sym (map-append connection_of ts us));
    reports = λ tells.
        let all = reported_on failure (d.reports door) (d.reports middle) (d.reports door_after) (map report_of ts) (map report_of us) (a.reports tells) (b.reports tells) in
        subst (λ (l : List Report). AreReported failure (d.reports door) (d.reports door_after) l) (sym (map-append report_of ts us)) all;
  }

  -- none at all
  pub serves_none : (seat : Seated) (door : P) → Serves rows d 0 seat door [] Nowhere seat door
  serves_none seat door = record {
    follow = refl;
    stopped = (refl, refl);
    left = λ tells. refl;
    given = λ tells. sym (append-nil (d.given door));
    reports = λ tells. sym (append-nil (d.reports door));
  }

  -- and the places for which they were served
  pub worked_on : (count : ℕ) (seat between last : Seated) (door middle door_after : P) (ms ns : List ℕ) (ts us : List Turn) (failure : Failure)
      → WorksOn rows d count seat door ms ts Nowhere between middle → WorksOn rows d count between middle ns us failure last door_after
      → WorksOn rows d count seat door (ms ++ ns) (ts ++ us) failure last door_after
  worked_on count seat between last door middle door_after ms ns ts us failure a b = (
    all_on (λ (p : ℕ). p < count) ms ns a.0 b.0,
    subst (λ (k : ℕ). Serves rows d k seat door (ts ++ us) failure last door_after) (sym (length-append ms ns))
        (serves_on (length ms) (length ns) seat between last door middle door_after ts us failure a.1 b.1),
  )

  pub worked_none : (count : ℕ) (seat : Seated) (door : P) → WorksOn rows d count seat door [] [] Nowhere seat door
  worked_none count seat door = (tt, serves_none seat door)

-- a number below all places was drawn
pub one_drawn : (count n : ℕ) (a b : Drawer) → b ≡ record { word = a.word; left = a.left - 1; drawn = a.drawn ++ n ∷ [] } → 0 < a.left → Drew count (n ∷ []) [] a b
one_drawn count n a b is some_left =
    let left : b.left ≡ a.left - 1 = ap (λ (d : Drawer). d.left) is in
    let drawn : b.drawn ≡ a.drawn ++ n ∷ [] = ap (λ (d : Drawer). d.drawn) is in
    let many : length b.drawn ≡ length a.drawn + 1 = ap (λ (l : List ℕ). length l) drawn ∙ length-append a.drawn (n ∷ []) in
    record { word = ap (λ (d : Drawer). d.word) is; room = omega arith; drawn = drawn; far = tt }

-- or one beyond them
pub beyond_drawn : (count n : ℕ) (a b : Drawer) → b ≡ record { word = a.word; left = a.left - 1; drawn = a.drawn ++ n ∷ [] } → 0 < a.left → count ≤ n → Drew count [] (n ∷ []) a b
beyond_drawn count n a b is some_left far =
    let left : b.left ≡ a.left - 1 = ap (λ (d : Drawer). d.left) is in
    let drawn : b.drawn ≡ a.drawn ++ n ∷ [] = ap (λ (d : Drawer). d.drawn) is in
    let many : length b.drawn ≡ length a.drawn + 1 = ap (λ (l : List ℕ). length l) drawn ∙ length-append a.drawn (n ∷ []) in
    record { word = ap (λ (d : Drawer). d.word) is; room = omega arith; drawn = drawn; far = (far, tt) }

pub none_drawn : (count : ℕ) (a : Drawer) → Drew count [] [] a a
none_drawn count a = record { word = refl; room = refl; drawn = sym (append-nil a.drawn); far = tt }

-- more were drawn
pub drew_on : (count : ℕ) (ms ns beyond : List ℕ) (a b c : Drawer) → Drew count ms [] a b → Drew count ns beyond b c → Drew count (ms ++ ns) beyond a c
drew_on count ms ns beyond a b c first more = record {
  word = more.word ∙ first.word;
  room = more.room ∙ first.room;
  drawn = more.drawn ∙ ap (λ (l : List ℕ). l ++ (ns ++ beyond)) (first.drawn ∙ ap (λ (l : List ℕ). a.drawn ++ l) (append-nil ms))
      ∙ append_assoc a.drawn ms (ns ++ beyond) ∙ ap (λ (l : List ℕ). a.drawn ++ l) (sym (append_assoc ms ns beyond));
  far = more.far;
}

-- a call that failed
pub stops_by_error : (places beyond : List ℕ) (failure : Failure) (result : Result Bool Failed) → IsErr result → failure ≢ Nowhere → GoesOn places beyond failure result
stops_by_error places beyond failure (Ok true) err somewhere = absurd (grind arith)
stops_by_error places beyond failure (Ok false) err somewhere = absurd (grind arith)
stops_by_error places beyond failure (Err e) err somewhere = somewhere

pub answers_error : {T E : Type 0} (failure : Failure) (result : Result T E) → IsErr result → failure ≢ Nowhere → Answers failure result
answers_error failure (Ok x) err somewhere = absurd (grind arith)
answers_error failure (Err e) err somewhere = somewhere

-- a call that answered whether there was a place
pub found_none : (places beyond : List ℕ) (failure : Failure) (answer : Bool) → answer ≡ false → GoesOn places beyond failure (Ok answer) → (failure ≡ Nowhere) × (0 < length beyond)
found_none places beyond failure true is goes = absurd (grind arith)
found_none places beyond failure false is goes = goes

pub found_one : (places beyond : List ℕ) (failure : Failure) (answer : Bool) → answer ≡ true → GoesOn places beyond failure (Ok answer) → (failure ≡ Nowhere) × (length places ≡ 1) × (beyond ≡ [])
found_one places beyond failure true is goes = goes
found_one places beyond failure false is goes = absurd (grind arith)
