-- What the calls of a change make, against the steps of the fold.
use Rattle.std.proofs.Common.{◌≡◌, ◌≢◌, ℕ, ◌+◌, ◌-◌, ◌<◌, ◌≤◌, ◌^◌, ◌==◌, zero, suc, Bool, true, false, ◌&&◌, ◌||◌, List, [], ◌∷◌, ◌++◌, length, drop, max, slice_index, slice_get, slice_set, Option, Some, None, if◌then◌else◌, nat_lt, codes, eqb, eqb-true, eq-eqb, ne_eqb, sym, refl, ap, ◌∙◌, subst, arith}
use Rattle.std.proofs.lemmas.Bool.{lt-ltb}
use Rattle.region_core.specs.declared.act.Act.{Act}
use Rattle.region_core.specs.declared.act.Act.TheVariants.{Load, Take, Begin, Put, End, Free}
use Rattle.region_core.specs.declared.mode.Mode.{Mode}
use Rattle.region_core.specs.declared.mode.Mode.TheVariants.{Idle, Changing}
use Rattle.region_core.specs.State.{State, word, g1, IsIn}
use Rattle.region_rule.specs.declared.fault.ChangeFault.{ChangeFault}
use Rattle.region_rule.specs.declared.fault.ChangeFault.TheVariants as faults
use Rattle.region_rule.specs.declared.view.View.{View}
use Rattle.region_rule.specs.Views.{now}
use Rattle.region_rule.specs.Changes.{Relaying, next_after, left_from, left_of, puts_at, puts_left, Acts, Starts, Fails, Stores, last_acts}
use Rattle.region_rule.specs.Steps.{entry, Extends}
use Rattle.region_rule.specs.Seats.{MadeRegion, Token, IsSame}
use Rattle.region_words.specs.Images.{mmv}
use Rattle.script_runs.specs.Journals.{is_load, is_attached, is_look}
use Rattle.script_runs.specs.PassSteps as steps
use Rattle.text_lines.specs.Spelling.{one_number, two_numbers}
use Rattle.script_runs.specs.PassSteps.{Outcome, new_generation}
use Rattle.script_runs.specs.Regions.{Doing, ScriptRegion, capacity_of, with_act, all_acted, does}
use Rattle.run_passes.specs.declared.said.Said.TheVariants as said
use Rattle.run_passes.specs.declared.worker.Worker.{Worker}
use Rattle.run_passes.specs.declared.worker.Worker.TheVariants as workers
use Rattle.run_passes.specs.Workers.{IsPassOf, IsWorker, view_of}
use Rattle.run_passes.specs.Works.{Step, Grows, Quiet, region_seen, region_by, IsAtWork, Works, Rests, fault_said}
use Rattle.run_passes.proofs.Quiet.{Left, left_by, no_look, grows_refl, grows_trans, grows_step, quiet_first, quiet_last}
use Rattle.run_passes.proofs.Calling.{set_there, stays_by, no_step, not_less, moved, acts, capacity_seen}

-- a step that begins a change
abbrev pub begins_with : List ℕ → ℕ → Step
begins_with image moment = λ r k doing. steps.begins r k image moment doing

pub no_begin : (region : MadeRegion) (image : List ℕ) (moment : ℕ) (w : Worker) → ((x : Token) → w ≡ workers.Idle x → ⊥) → (k : ℕ) × IsWorker region k w → Works region (begins_with image moment) w w None
no_begin region image moment (workers.Idle pass) other here = absurd (other pass refl)
no_begin region image moment (workers.Inside stint) other here = no_step region (begins_with image moment) (workers.Inside stint) (λ r k. refl)
no_begin region image moment (workers.Changing change) other here = no_step region (begins_with image moment) (workers.Changing change) (λ r k. refl)
no_begin region image moment (workers.Reading reading) other here = no_step region (begins_with image moment) (workers.Reading reading) (λ r k. refl)
no_begin region image moment workers.Away other here = absurd here.1

pub no_change : (region : MadeRegion) (w : Worker) → ((x : Relaying) → w ≡ workers.Changing x → ⊥) → Works region steps.steps_on w w None
no_change region (workers.Idle pass) other = no_step region steps.steps_on (workers.Idle pass) (λ r k. refl)
no_change region (workers.Inside stint) other = no_step region steps.steps_on (workers.Inside stint) (λ r k. refl)
no_change region (workers.Changing change) other = absurd (other change refl)
no_change region (workers.Reading reading) other = no_step region steps.steps_on (workers.Reading reading) (λ r k. refl)
no_change region workers.Away other = no_step region steps.steps_on workers.Away (λ r k. refl)

pub no_finish : (region : MadeRegion) (w : Worker) → ((x : Relaying) → w ≡ workers.Changing x → ⊥) → Works region steps.finishes w w None
no_finish region (workers.Idle pass) other = no_step region steps.finishes (workers.Idle pass) (λ r k. refl)
no_finish region (workers.Inside stint) other = no_step region steps.finishes (workers.Inside stint) (λ r k. refl)
no_finish region (workers.Changing change) other = absurd (other change refl)
no_finish region (workers.Reading reading) other = no_step region steps.finishes (workers.Reading reading) (λ r k. refl)
no_finish region workers.Away other = no_step region steps.finishes workers.Away (λ r k. refl)

pub rests : (region : MadeRegion) (w : Worker) → Rests region w w
rests region w = record { stays = λ k h. h; grows = grows_refl (view_of w); same = λ logger k r at q. stays_by region logger k w r at }

-- Beginning

-- which of the four ways it goes
abbrev ways : (r : ScriptRegion) (k : ℕ) (image : List ℕ) (moment : ℕ) → Bool → Bool → Bool → Outcome
ways r k image moment a b c =
    if a then (r, two_numbers (codes "TooLarge") (length image) (capacity_of r)) else
    if b then (with_act r k Take, one_number (codes "Busy") r.state.gate) else
    if c then (with_act (steps.with_take r k) k Free, one_number (codes "Spent") (g1 r.state)) else
    steps.begin_outcome r k image (new_generation r moment)

goes : (r : ScriptRegion) (k : ℕ) (image : List ℕ) (moment : ℕ) (a b c : Bool) → nat_lt (capacity_of r) (length image) ≡ a → nat_lt 0 r.state.gate ≡ b → (g1 r.state == 2 ^ 64 - 1) ≡ c
    → steps.begin_ r k image moment ≡ ways r k image moment a b c
goes r k image moment a b c e f g = λ i. ways r k image moment (e i) (f i) (g i)

-- the gate was free, and was taken; then the first generation was loaded
record TakenSo (r : ScriptRegion) (logger k : ℕ) (v taken loaded : View) (old : ℕ) : Type 0 where
  free : nat_lt 0 (now v).gate ≡ false
  old_is : old ≡ g1 (now v)
  seen : steps.with_take (region_seen r logger v r.doing) k ≡ region_seen r logger loaded r.doing
  number : loaded.number ≡ k

taken_so : (r : ScriptRegion) (logger k : ℕ) (v taken loaded : View) (old : ℕ) → k ≢ logger → v.number ≡ k → Extends mmv v Take 0 taken → Extends mmv taken (Load 1) old loaded → Quiet v loaded → TakenSo r logger k v taken loaded old
taken_so r logger k v taken loaded old other number take load q =
    let a : Grows v taken = grows_step v taken Take 0 take in
    let b : Grows taken loaded = grows_step taken loaded (Load 1) old load in
    let l : Left v taken Take 0 = left_by v taken Take 0 take (quiet_first v taken loaded a b q) in
    let m : Left taken loaded (Load 1) old = left_by taken loaded (Load 1) old load (quiet_last v taken loaded a b q) in
    let there : IsIn taken.mode (now taken) k = subst (λ (j : ℕ). IsIn taken.mode (now taken) j) number l.there in
    let changing : IsIn Changing (now taken) k = subst (λ (mode : Mode). IsIn mode (now taken) k) l.mode there in
    let look : is_look (now taken) logger (entry k (Load 1)) ≡ false = no_look (now taken) logger k 1 Changing other changing refl in
    let first : with_act (region_seen r logger v r.doing) k Take ≡ region_seen r logger taken r.doing = acts r logger k v taken Take 0 r.doing number l refl in
    let second : with_act (region_seen r logger taken r.doing) k (Load 1) ≡ region_seen r logger loaded r.doing = acts r logger k taken loaded (Load 1) old r.doing (l.number ∙ number) m look in
    record {
      free = ap (λ (n : ℕ). nat_lt 0 n) (sym l.found);
      old_is = m.found ∙ ap (λ (s : State). word s 1) l.state;
      seen = ap (λ (x : ScriptRegion). with_act x k (Load 1)) first ∙ second;
      number = m.number ∙ (l.number ∙ number);
    }

-- an image that fits
fits : (region : MadeRegion) (k : ℕ) (pass : Token) (image : List ℕ) → IsPassOf region k Idle pass → length image ≤ length region.words → nat_lt (length (now pass.view).words) (length image) ≡ false
fits region k pass image p room = not_less (length (now pass.view).words) (length image) (subst (λ (n : ℕ). length image ≤ n) (sym (capacity_seen region k Idle pass p)) room)

pub begun : (region : MadeRegion) (pass : Token) (image : List ℕ) (moment : ℕ) (change : Relaying) (n : ℕ) → n ≡ change.generation → Starts mmv pass.view (length region.words) image moment change → IsSame Idle Changing pass change.token
    → Works region (begins_with image moment) (workers.Idle pass) (workers.Changing change) (Some (said.Begun n))
begun region pass image moment change n told s same = record {
  stays = λ k p. moved region k Idle Changing pass change.token same p;
  grows = grows_trans pass.view s.loaded change.token.view before last;
  does = λ logger k r at q. does_it logger k r at q;
}
  where
    before : Grows pass.view s.loaded
    before = grows_trans pass.view s.taken s.loaded (grows_step pass.view s.taken Take 0 s.takes) (grows_step s.taken s.loaded (Load 1) s.old s.loads)

    last : Grows s.loaded change.token.view
    last = grows_step s.loaded change.token.view (Begin change.generation) change.generation s.begins

    does_it : (logger k : ℕ) (r : ScriptRegion) → IsAtWork region logger k (workers.Idle pass) r → Quiet pass.view change.token.view
        → steps.begins r k image moment Doing.idle ≡ Some (region_by r logger k (workers.Changing change), one_number (codes "begun") n)
    does_it logger k r at q =
        let v : View = pass.view in
        let w : View = change.token.view in
        let x : ScriptRegion = region_seen r logger v r.doing in
        let t : TakenSo r logger k v s.taken s.loaded s.old = taken_so r logger k v s.taken s.loaded s.old at.other at.is_worker.number_is s.takes s.loads (quiet_first v s.loaded w before last q) in
        let l : Left s.loaded w (Begin change.generation) change.generation = left_by s.loaded w (Begin change.generation) change.generation s.begins (quiet_last v s.loaded w before last q) in
        let act : with_act (region_seen r logger s.loaded r.doing) k (Begin change.generation) ≡ region_seen r logger w r.doing = acts r logger k s.loaded w (Begin change.generation) change.generation r.doing t.number l refl in
        let spent : (g1 (now v) == 2 ^ 64 - 1) ≡ false = ne_eqb (g1 (now v)) (2 ^ 64 - 1) (λ e. let o : s.old ≡ 2 ^ 64 - 1 = t.old_is ∙ e in let lt = s.not_spent in absurd (omega arith)) in
        let generation : new_generation x moment ≡ change.generation = ap (λ (m : ℕ). max moment (m + 1)) (sym t.old_is) ∙ sym s.generation in
        subst (λ (y : ScriptRegion). steps.begins y k image moment Doing.idle ≡ Some (region_by y logger k (workers.Changing change), one_number (codes "begun") n)) (sym at.is)
        (ap (λ (o : Outcome). Some o)
        (goes x k image moment false false false (fits region k pass image at.is_worker s.room) t.free spent
        ∙ (ap (λ (m : ℕ). steps.begin_outcome x k image m) generation
        ∙ (ap (λ (y : ScriptRegion). (does (with_act y k (Begin change.generation)) k (Doing.changing image change.generation 0), one_number (codes "begun") change.generation)) t.seen
        ∙ (ap (λ (y : ScriptRegion). (does y k (Doing.changing image change.generation 0), one_number (codes "begun") change.generation)) act
        ∙ (ap (λ (i : List ℕ). (does (region_seen r logger w r.doing) k (Doing.changing i change.generation 0), one_number (codes "begun") change.generation)) (sym s.image_is)
        ∙ (ap (λ (m : ℕ). (does (region_seen r logger w r.doing) k (Doing.changing change.image change.generation m), one_number (codes "begun") change.generation)) (sym s.first_word)
        ∙ ap (λ (m : ℕ). (region_by r logger k (workers.Changing change), one_number (codes "begun") m)) (sym told))))))))

-- Refused beginnings

-- the pass stays idle, as it was seen
idle_again : (region : MadeRegion) (r : ScriptRegion) (logger k : ℕ) (pass : Token) (w : View) (text : List ℕ) → IsAtWork region logger k (workers.Idle pass) r
    → ◌≡◌ {A = Option Outcome} (Some (region_seen r logger w r.doing, text)) (Some (region_seen r logger w (slice_set r.doing k Doing.idle), text))
idle_again region r logger k pass w text at = ap (λ (d : List Doing). Some (region_seen r logger w d, text)) (sym (set_there r.doing k Doing.idle at.doing))

too_large : (region : MadeRegion) (pass other : Token) (image : List ℕ) (moment need room : ℕ) → length region.words < length image → need ≡ length image → room ≡ length region.words → other.view ≡ pass.view → IsSame Idle Idle pass other
    → Works region (begins_with image moment) (workers.Idle pass) (workers.Idle other) (Some (said.TooLarge need room))
too_large region pass other image moment need room less need_is room_is view same = record {
  stays = λ k p. moved region k Idle Idle pass other same p;
  grows = subst (λ (w : View). Grows pass.view w) (sym view) (grows_refl pass.view);
  does = λ logger k r at q. does_it logger k r at;
}
  where
    does_it : (logger k : ℕ) (r : ScriptRegion) → IsAtWork region logger k (workers.Idle pass) r
        → steps.begins r k image moment Doing.idle ≡ Some (region_by r logger k (workers.Idle other), two_numbers (codes "TooLarge") need room)
    does_it logger k r at =
        let v : View = pass.view in
        let x : ScriptRegion = region_seen r logger v r.doing in
        let wide : length (now v).words ≡ length region.words = capacity_seen region k Idle pass at.is_worker in
        let large : nat_lt (length (now v).words) (length image) ≡ true = lt-ltb (length (now v).words) (length image) (subst (λ (n : ℕ). n < length image) (sym wide) less) in
        subst (λ (y : ScriptRegion). steps.begins y k image moment Doing.idle ≡ Some (region_by y logger k (workers.Idle other), two_numbers (codes "TooLarge") need room)) (sym at.is)
        (ap (λ (o : Outcome). Some o) (goes x k image moment true (nat_lt 0 (now v).gate) (g1 (now v) == 2 ^ 64 - 1) large refl refl)
        ∙ (ap (λ (n : ℕ). Some (x, two_numbers (codes "TooLarge") n (length (now v).words))) (sym need_is)
        ∙ (ap (λ (n : ℕ). Some (x, two_numbers (codes "TooLarge") need n)) (wide ∙ sym room_is)
        ∙ (ap (λ (w : View). Some (region_seen r logger w r.doing, two_numbers (codes "TooLarge") need room)) (sym view)
        ∙ idle_again region r logger k pass other.view (two_numbers (codes "TooLarge") need room) at))))

busy : (region : MadeRegion) (pass other : Token) (image : List ℕ) (moment gate : ℕ) → length image ≤ length region.words → gate ≢ 0 → Extends mmv pass.view Take gate other.view → IsSame Idle Idle pass other
    → Works region (begins_with image moment) (workers.Idle pass) (workers.Idle other) (Some (said.Busy gate))
busy region pass other image moment gate room held e same = record {
  stays = λ k p. moved region k Idle Idle pass other same p;
  grows = grows_step pass.view other.view Take gate e;
  does = λ logger k r at q. does_it logger k r at q;
}
  where
    does_it : (logger k : ℕ) (r : ScriptRegion) → IsAtWork region logger k (workers.Idle pass) r → Quiet pass.view other.view
        → steps.begins r k image moment Doing.idle ≡ Some (region_by r logger k (workers.Idle other), one_number (codes "Busy") gate)
    does_it logger k r at q =
        let v : View = pass.view in
        let x : ScriptRegion = region_seen r logger v r.doing in
        let l : Left v other.view Take gate = left_by v other.view Take gate e q in
        let act : with_act x k Take ≡ region_seen r logger other.view r.doing = acts r logger k v other.view Take gate r.doing at.is_worker.number_is l refl in
        let some : 0 < gate = omega arith in
        let shut : nat_lt 0 (now v).gate ≡ true = lt-ltb 0 (now v).gate (subst (λ (n : ℕ). 0 < n) l.found some) in
        subst (λ (y : ScriptRegion). steps.begins y k image moment Doing.idle ≡ Some (region_by y logger k (workers.Idle other), one_number (codes "Busy") gate)) (sym at.is)
        (ap (λ (o : Outcome). Some o) (goes x k image moment false true (g1 (now v) == 2 ^ 64 - 1) (fits region k pass image at.is_worker room) shut refl)
        ∙ (ap (λ (y : ScriptRegion). Some (y, one_number (codes "Busy") (now v).gate)) act
        ∙ (ap (λ (n : ℕ). Some (region_seen r logger other.view r.doing, one_number (codes "Busy") n)) (sym l.found)
        ∙ idle_again region r logger k pass other.view (one_number (codes "Busy") gate) at)))

spent : (region : MadeRegion) (pass other : Token) (image : List ℕ) (moment generation : ℕ) (taken loaded : View) (gate : ℕ) → length image ≤ length region.words → generation ≡ 2 ^ 64 - 1
    → Extends mmv pass.view Take 0 taken → Extends mmv taken (Load 1) generation loaded → Extends mmv loaded Free gate other.view → IsSame Idle Idle pass other
    → Works region (begins_with image moment) (workers.Idle pass) (workers.Idle other) (Some (said.Spent generation))
spent region pass other image moment generation taken loaded gate room greatest take load free same = record {
  stays = λ k p. moved region k Idle Idle pass other same p;
  grows = grows_trans pass.view loaded other.view before last;
  does = λ logger k r at q. does_it logger k r at q;
}
  where
    before : Grows pass.view loaded
    before = grows_trans pass.view taken loaded (grows_step pass.view taken Take 0 take) (grows_step taken loaded (Load 1) generation load)

    last : Grows loaded other.view
    last = grows_step loaded other.view Free gate free

    does_it : (logger k : ℕ) (r : ScriptRegion) → IsAtWork region logger k (workers.Idle pass) r → Quiet pass.view other.view
        → steps.begins r k image moment Doing.idle ≡ Some (region_by r logger k (workers.Idle other), one_number (codes "Spent") generation)
    does_it logger k r at q =
        let v : View = pass.view in
        let x : ScriptRegion = region_seen r logger v r.doing in
        let t : TakenSo r logger k v taken loaded generation = taken_so r logger k v taken loaded generation at.other at.is_worker.number_is take load (quiet_first v loaded other.view before last q) in
        let l : Left loaded other.view Free gate = left_by loaded other.view Free gate free (quiet_last v loaded other.view before last q) in
        let act : with_act (region_seen r logger loaded r.doing) k Free ≡ region_seen r logger other.view r.doing = acts r logger k loaded other.view Free gate r.doing t.number l refl in
        let none : (g1 (now v) == 2 ^ 64 - 1) ≡ true = eq-eqb (g1 (now v)) (2 ^ 64 - 1) (sym t.old_is ∙ greatest) in
        subst (λ (y : ScriptRegion). steps.begins y k image moment Doing.idle ≡ Some (region_by y logger k (workers.Idle other), one_number (codes "Spent") generation)) (sym at.is)
        (ap (λ (o : Outcome). Some o) (goes x k image moment false false true (fits region k pass image at.is_worker room) t.free none)
        ∙ (ap (λ (y : ScriptRegion). Some (with_act y k Free, one_number (codes "Spent") (g1 (now v)))) t.seen
        ∙ (ap (λ (y : ScriptRegion). Some (y, one_number (codes "Spent") (g1 (now v)))) act
        ∙ (ap (λ (n : ℕ). Some (region_seen r logger other.view r.doing, one_number (codes "Spent") n)) (sym t.old_is)
        ∙ idle_again region r logger k pass other.view (one_number (codes "Spent") generation) at))))

pub refused : (region : MadeRegion) (pass other : Token) (image : List ℕ) (moment : ℕ) (fault : ChangeFault) → Fails mmv pass.view (length region.words) image other.view fault → IsSame Idle Idle pass other
    → Works region (begins_with image moment) (workers.Idle pass) (workers.Idle other) (Some (fault_said fault))
refused region pass other image moment (faults.TooLarge need room) f same = too_large region pass other image moment need room f.0 f.1 f.2 f.3 same
refused region pass other image moment (faults.Busy gate) f same = busy region pass other image moment gate f.0 f.1 f.2 same
refused region pass other image moment (faults.Spent generation) f same = spent region pass other image moment generation f.2.0 f.2.1 f.2.2 f.0 f.1 f.2.3 f.2.4 f.2.5 same

-- Going on

stored : (region : MadeRegion) (old new : Relaying) → 0 < left_of old → Stores mmv old new → IsSame Changing Changing old.token new.token → Works region steps.steps_on (workers.Changing old) (workers.Changing new) (Some said.Nothing)
stored region old new some s same = record {
  stays = λ k p. moved region k Changing Changing old.token new.token same p;
  grows = grows_step old.token.view new.token.view (Put old.next (slice_index old.image old.next)) (slice_index old.image old.next) (s.puts some);
  does = λ logger k r at q. does_it logger k r at q;
}
  where
    does_it : (logger k : ℕ) (r : ScriptRegion) → IsAtWork region logger k (workers.Changing old) r → Quiet old.token.view new.token.view
        → steps.steps_on r k (Doing.changing old.image old.generation old.next) ≡ Some (region_by r logger k (workers.Changing new), [])
    does_it logger k r at q =
        let v : View = old.token.view in
        let w : View = new.token.view in
        let x : ScriptRegion = region_seen r logger v r.doing in
        let put : Act = Put old.next (slice_index old.image old.next) in
        let l : Left v w put (slice_index old.image old.next) = left_by v w put (slice_index old.image old.next) (s.puts some) q in
        let act : with_act x k put ≡ region_seen r logger w r.doing = acts r logger k v w put (slice_index old.image old.next) r.doing at.is_worker.number_is l refl in
        let left : (left_from old.next old.image == 0) ≡ false = ne_eqb (left_from old.next old.image) 0 (λ e. absurd (omega arith)) in
        subst (λ (y : ScriptRegion). steps.steps_on y k (Doing.changing old.image old.generation old.next) ≡ Some (region_by y logger k (workers.Changing new), [])) (sym at.is)
        (ap (λ (b : Bool). Some (if b then x else does (with_act x k put) k (Doing.changing old.image old.generation (next_after old.next)), [])) left
        ∙ (ap (λ (y : ScriptRegion). Some (does y k (Doing.changing old.image old.generation (next_after old.next)), [])) act
        ∙ (ap (λ (i : List ℕ). Some (does (region_seen r logger w r.doing) k (Doing.changing i old.generation (next_after old.next)), [])) (sym s.image)
        ∙ (ap (λ (n : ℕ). Some (does (region_seen r logger w r.doing) k (Doing.changing new.image n (next_after old.next)), [])) (sym s.generation)
        ∙ ap (λ (n : ℕ). Some (does (region_seen r logger w r.doing) k (Doing.changing new.image new.generation n), [])) (sym (s.next some))))))

none_stored : (region : MadeRegion) (old : Relaying) → left_of old ≡ 0 → Works region steps.steps_on (workers.Changing old) (workers.Changing old) (Some said.Nothing)
none_stored region old none = record { stays = λ k h. h; grows = grows_refl old.token.view; does = λ logger k r at q. does_it logger k r at }
  where
    does_it : (logger k : ℕ) (r : ScriptRegion) → IsAtWork region logger k (workers.Changing old) r
        → steps.steps_on r k (Doing.changing old.image old.generation old.next) ≡ Some (region_by r logger k (workers.Changing old), [])
    does_it logger k r at =
        ap (λ (b : Bool). Some (if b then r else does (with_act r k (Put old.next (slice_index old.image old.next))) k (Doing.changing old.image old.generation (next_after old.next)), [])) (eq-eqb (left_from old.next old.image) 0 none)
        ∙ ap (λ (y : ScriptRegion). Some (y, [])) (stays_by region logger k (workers.Changing old) r at)

pub stepped : (region : MadeRegion) (old new : Relaying) → Stores mmv old new → IsSame Changing Changing old.token new.token → Works region steps.steps_on (workers.Changing old) (workers.Changing new) (Some said.Nothing)
stepped region old new s same = by_test (eqb (left_of old) 0) refl
  where
    by_test : (b : Bool) → eqb (left_of old) 0 ≡ b → Works region steps.steps_on (workers.Changing old) (workers.Changing new) (Some said.Nothing)
    by_test true e =
        let none : left_of old ≡ 0 = eqb-true (left_of old) 0 e in
        subst (λ (x : Relaying). Works region steps.steps_on (workers.Changing old) (workers.Changing x) (Some said.Nothing)) (sym (s.none_left none)) (none_stored region old none)
    by_test false e = stored region old new (more (left_of old) e) s same
      where
        more : (n : ℕ) → eqb n 0 ≡ false → 0 < n
        more zero f = absurd (cc)
        more (suc n) f = omega arith

-- Finishing

-- acts that are no loads
abbrev NoLoads : List Act → Type 0
NoLoads [] = Unit {0}
NoLoads (act ∷ acts) = (is_load act ≡ false) × NoLoads acts

pub all_grow : (v w : View) (acts : List Act) → Acts mmv v acts w → Grows v w
all_grow v w [] a = subst (λ (x : View). Grows v x) (sym a) (grows_refl v)
all_grow v w (act ∷ acts) a = grows_trans v a.1 w (grows_step v a.1 act a.0 a.2) (all_grow a.1 w acts a.3)

all_did : (r : ScriptRegion) (logger k : ℕ) (v w : View) (all : List Act) (doing : List Doing) → v.number ≡ k → NoLoads all → Acts mmv v all w → Quiet v w
    → all_acted (region_seen r logger v doing) k all ≡ region_seen r logger w doing
all_did r logger k v w [] doing number none a q = ap (λ (x : View). region_seen r logger x doing) (sym a)
all_did r logger k v w (act ∷ more) doing number none a q =
    let first : Grows v a.1 = grows_step v a.1 act a.0 a.2 in
    let last : Grows a.1 w = all_grow a.1 w more a.3 in
    let l : Left v a.1 act a.0 = left_by v a.1 act a.0 a.2 (quiet_first v a.1 w first last q) in
    let look : is_look (now v) logger (entry k act) ≡ false = ap (λ (b : Bool). b && (k == logger || is_attached (slice_get (now v).modes k))) none.0 in
    ap (λ (x : ScriptRegion). all_acted x k more) (acts r logger k v a.1 act a.0 doing number l look)
    ∙ all_did r logger k a.1 w more doing (l.number ∙ number) none.1 a.3 (quiet_last v a.1 w first last q)

no_loads_at : (w : ℕ) (xs : List ℕ) (more : List Act) → NoLoads more → NoLoads (puts_at w xs ++ more)
no_loads_at w [] more h = h
no_loads_at w (x ∷ xs) more h = (refl, no_loads_at (suc w) xs more h)

no_loads : (next n : ℕ) (image : List ℕ) → NoLoads (puts_left next image ++ (End n ∷ Free ∷ []))
no_loads next n image = by_test (eqb next 0)
  where
    by_test : (b : Bool) → NoLoads ((if b then Put 0 (slice_index image 0) ∷ puts_at 3 (drop 3 image) else puts_at next (drop next image)) ++ (End n ∷ Free ∷ []))
    by_test true = (refl, no_loads_at 3 (drop 3 image) (End n ∷ Free ∷ []) (refl, (refl, tt)))
    by_test false = no_loads_at next (drop next image) (End n ∷ Free ∷ []) (refl, (refl, tt))

pub finished : (region : MadeRegion) (change : Relaying) (pass : Token) → Acts mmv change.token.view (last_acts change) pass.view → IsSame Changing Idle change.token pass
    → Works region steps.finishes (workers.Changing change) (workers.Idle pass) (Some said.Nothing)
finished region change pass a same = record {
  stays = λ k p. moved region k Changing Idle change.token pass same p;
  grows = all_grow change.token.view pass.view (last_acts change) a;
  does = λ logger k r at q. does_it logger k r at q;
}
  where
    does_it : (logger k : ℕ) (r : ScriptRegion) → IsAtWork region logger k (workers.Changing change) r → Quiet change.token.view pass.view
        → steps.finishes r k (Doing.changing change.image change.generation change.next) ≡ Some (region_by r logger k (workers.Idle pass), [])
    does_it logger k r at q =
        subst (λ (y : ScriptRegion). steps.finishes y k (Doing.changing change.image change.generation change.next) ≡ Some (region_by y logger k (workers.Idle pass), [])) (sym at.is)
        (ap (λ (x : ScriptRegion). Some (does x k Doing.idle, []))
        (all_did r logger k change.token.view pass.view (last_acts change) r.doing at.is_worker.number_is (no_loads change.next change.generation change.image) a q))
