-- What each call of a writer makes.
use Rattle.std.proofs.Common.{◌≡◌, inl, inr, ℕ, zero, suc, ◌+◌, ◌<◌, ◌≤◌, ◌^◌, ◌-◌, nat_lt, Bool, true, false, List, [], ◌∷◌, ◌++◌, length, map, max, slice_index, if◌then◌else◌, eqb, eqb-true, le-ltb, append-nil, append_assoc, sym, refl, ap, ◌∙◌, subst, arith}
use Rattle.region_core.specs.declared.act.Act.{Act}
use Rattle.region_core.specs.declared.act.Act.TheVariants.{Load, Enter, Leave, Take, Begin, Put, Free}
use Rattle.region_core.specs.declared.act.Entry.{Entry}
use Rattle.region_core.specs.declared.mode.Mode.{Mode}
use Rattle.region_core.specs.declared.mode.Mode.TheVariants.{Idle, Attached, Bounced, Changing}
use Rattle.region_core.specs.State.{State, word, g1, entry_mode, IsIn}
use Rattle.region_core.specs.Journal.{state, own}
use Rattle.region_core.proofs.Journals.{state-append, own-append}
use Rattle.region_rule.specs.declared.fault.ChangeFault.{ChangeFault}
use Rattle.region_rule.specs.declared.fault.ChangeFault.TheVariants as faults
use Rattle.region_rule.specs.declared.view.View.{View}
use Rattle.region_rule.specs.Views.{opening_of, now}
use Rattle.region_rule.specs.Steps.{entry, Extends}
use Rattle.region_rule.specs.Seats.{MadeRegion, Token, IsSame}
use Rattle.region_rule.specs.Calls.{Bounces, Detaches}
use Rattle.region_rule.specs.Changes.{Relaying, next_after, left_of, Acts, Stores as Puts, last_acts}
use Rattle.region_rule.specs.Waits.{BouncesTimes, AttachesAtLast, BusyTimes, StartsAtLast, FailsAtLast}
use Rattle.region_rule.proofs.Relaying.{now_after, words_before}
use Rattle.region_words.specs.Images.{mmv, mmv_laws}
use Rattle.run_passes.specs.Workers.{IsPassOf}
use Rattle.run_passes.proofs.Calling.{moved}
use Rattle.run_passes.specs.declared.writer.Writer.{Writer}
use Rattle.run_passes.specs.declared.writer.Writer.TheVariants as writers
use Rattle.run_passes.specs.LineEntries.{Writing, Makes, AreBounced, IsBounced, takes, Attaches, BeginsChange, StepsOn, Finishes}
use Rattle.run_passes.specs.Writers.{Did, Grew, writing_of}
use Rattle.run_passes.proofs.Entries.{Acted, acted_none, acted_one, acted_both, acted_all, entries_of, grew_refl, grew_step, grew_trans, makes_by, now_grown}

-- what a pass did that was taken up, and put back, it did in its place
pub did_in_place : (region : MadeRegion) (P : Writing → ℕ → State → List Entry → Writing → Type 0) (was taken done new : Writer) → taken ≡ was → new ≡ done → Did region (P (writing_of taken)) taken done → Did region (P (writing_of was)) was new
did_in_place region P was taken done new e f did =
    subst (λ (w : Writer). Did region (P (writing_of was)) was w) (sym f) (subst (λ (w : Writer). Did region (P (writing_of w)) w done) e did)

-- Attaching

-- each of these was refused
pub record BouncedSo (tries : ℕ) (v w : View) : Type 0 where
  pub more : List Entry
  pub grew : Grew v more w
  pub bounced : AreBounced tries v.number (now v) more

-- who finds the change bit is bounced
bounced_mode : (gate : ℕ) → 2 ^ 63 ≤ gate → entry_mode (nat_lt gate (2 ^ 63)) ≡ Bounced
bounced_mode gate shut = ap (λ (b : Bool). entry_mode b) (le-ltb gate (2 ^ 63) shut)

bounced_once : (u w : View) (gate : ℕ) → Bounces mmv u gate w → (more : List Entry) × Grew u more w × IsBounced u.number (now u) more
bounced_once u w gate t =
    let middle : View = t.middle in
    let entered : Acted u (Enter ∷ []) middle = acted_one u middle Enter gate t.enters in
    let left : Acted middle (Leave ∷ []) w = acted_one middle w Leave t.left t.leaves in
    let mode : middle.mode ≡ Bounced = ap (λ (x : View). x.mode) t.enters.is ∙ bounced_mode gate t.shut in
    let there : IsIn Bounced (now middle) u.number = subst (λ (k : ℕ). IsIn Bounced (now middle) k) entered.grew.number (subst (λ (m : Mode). IsIn m (now middle) middle.number) mode t.enters.mode) in (
      entered.more ++ left.more,
      grew_trans u middle w entered.more left.more entered.grew left.grew,
      record {
        entering = entered.more;
        leaving = left.more;
        is = refl;
        enters = entered.makes;
        outside = subst (λ (s : State). IsIn Bounced s u.number) (now_grown u middle entered.more entered.grew) there;
        leaves = makes_by middle.number u.number (Leave ∷ []) left.more entered.grew.number left.makes;
      },
    )

bounced_times : (n : ℕ) (v w : View) → BouncesTimes mmv n v w → BouncedSo n v w
bounced_times zero v w b = subst (λ (x : View). BouncedSo zero v x) (sym b) (record { more = []; grew = grew_refl v; bounced = refl })
bounced_times (suc n) v w b =
    let u : View = b.0 in
    let first : BouncedSo n v u = bounced_times n v u b.2 in
    let last = bounced_once u w b.1 b.3 in
    let at_state : IsBounced u.number (state (now v) first.more) last.0 = subst (λ (s : State). IsBounced u.number s last.0) (now_grown v u first.more first.grew) last.2 in
    record {
      more = first.more ++ last.0;
      grew = grew_trans v u w first.more last.0 first.grew last.1;
      bounced = (first.more, last.0, refl, first.bounced, subst (λ (k : ℕ). IsBounced k (state (now v) first.more) last.0) first.grew.number at_state);
    }

pub attached_did : (region : MadeRegion) (pass stint : Token) → AttachesAtLast mmv pass.view stint.view → IsSame Idle Attached pass stint
    → Did region (λ k s entries next. (Writing.idle ≡ Writing.idle) × Attaches k s entries × (next ≡ Writing.attached)) (writers.Idle pass) (writers.Inside stint)
attached_did region pass stint a same =
    let v : View = pass.view in
    let w : View = stint.view in
    let first : BouncedSo a.tries v a.before = bounced_times a.tries v a.before a.bounces in
    let e : Extends mmv a.before Enter a.attaches.gate w = a.attaches.enters in
    let entered : Acted a.before (Enter ∷ []) w = acted_one a.before w Enter a.attaches.gate e in
    let grew : Grew v (first.more ++ entered.more) w = grew_trans v a.before w first.more entered.more first.grew entered.grew in
    let there : IsIn Attached (now w) w.number = subst (λ (m : Mode). IsIn m (now w) w.number) same.after.mode_is e.mode in
    record {
      stays = λ k p. let q = moved region k Idle Attached pass stint same p in (q, subst (λ (j : ℕ). IsIn Attached (now w) j) q.number_is there);
      more = first.more ++ entered.more;
      grew = grew;
      is = (
        refl,
        record {
          tries = a.tries;
          before = first.more;
          last = entered.more;
          is = refl;
          bounced = first.bounced;
          enters = makes_by a.before.number v.number (Enter ∷ []) entered.more first.grew.number entered.makes;
          inside = subst (λ (s : State). IsIn Attached s v.number) (now_grown v w (first.more ++ entered.more) grew) (subst (λ (j : ℕ). IsIn Attached (now w) j) grew.number there);
        },
        refl,
      );
    }

pub detached_did : (region : MadeRegion) (stint pass : Token) → Detaches mmv stint.view pass.view → IsSame Attached Idle stint pass
    → Did region (λ k s entries next. (Writing.attached ≡ Writing.attached) × Makes k (Leave ∷ []) entries × (next ≡ Writing.idle)) (writers.Inside stint) (writers.Idle pass)
detached_did region stint pass d same =
    let acted : Acted stint.view (Leave ∷ []) pass.view = acted_one stint.view pass.view Leave d.0 d.1 in
    record { stays = λ k p. moved region k Attached Idle stint pass same p.0; more = acted.more; grew = acted.grew; is = (refl, acted.makes, refl) }

-- Beginning a change

busy_times : (n : ℕ) (v w : View) → BusyTimes mmv n v w → Acted v (takes n) w
busy_times zero v w b = subst (λ (x : View). Acted v [] x) (sym b) (acted_none v)
busy_times (suc n) v w b = acted_both v b.0 w (takes n) (Take ∷ []) (busy_times n v b.0 b.2) (acted_one b.0 w Take b.1 b.4)

-- after so many takes in vain the gate was taken, and the first generation was loaded
pub record TakenSo (v loaded : View) (tries old : ℕ) : Type 0 where
  pub acted : Acted v (takes tries ++ (Take ∷ Load 1 ∷ [])) loaded
  pub mode : loaded.mode ≡ Changing
  pub there : IsIn loaded.mode (now loaded) loaded.number
  pub found : old ≡ g1 (now loaded)

taken_so : (v before taken loaded : View) (tries old : ℕ) → BusyTimes mmv tries v before → Extends mmv before Take 0 taken → Extends mmv taken (Load 1) old loaded → TakenSo v loaded tries old
taken_so v before taken loaded tries old busy take load = record {
  acted = acted_both v before loaded (takes tries) (Take ∷ Load 1 ∷ []) (busy_times tries v before busy)
      (acted_both before taken loaded (Take ∷ []) (Load 1 ∷ []) (acted_one before taken Take 0 take) (acted_one taken loaded (Load 1) old load));
  mode = ap (λ (x : View). x.mode) load.is ∙ ap (λ (x : View). x.mode) take.is;
  there = load.mode;
  found = load.found ∙ ap (λ (s : State). word s 1) (sym (now_after mmv taken loaded (Load 1) old load));
}

-- what a step of the changing pass finds first is what it had seen
found_still : (v loaded w : View) (tries old n : ℕ) (act : Act) (t : TakenSo v loaded tries old) (e : Extends mmv loaded act n w) → old ≡ g1 (state (now v) (t.acted.more ++ e.between))
found_still v loaded w tries old n act t e =
    let words : (state (opening_of loaded) (loaded.seen ++ e.between)).words ≡ (now loaded).words = words_before mmv mmv_laws loaded w act n e t.mode t.there in
    let state_is : state (now v) (t.acted.more ++ e.between) ≡ state (opening_of loaded) (loaded.seen ++ e.between) =
    state-append (now v) t.acted.more e.between ∙ (ap (λ (s : State). state s e.between) (sym (now_grown v loaded t.acted.more t.acted.grew)) ∙ sym (state-append (opening_of loaded) loaded.seen e.between)) in
    t.found ∙ (sym (ap (λ (ws : List ℕ). slice_index ws 1) words) ∙ sym (ap (λ (s : State). g1 s) state_is))

-- the entries of the step behind those before it
last_one : (v loaded w : View) (tries old n : ℕ) (act : Act) (t : TakenSo v loaded tries old) (e : Extends mmv loaded act n w)
    → t.acted.more ++ entries_of loaded w act n e ≡ (t.acted.more ++ e.between) ++ entry v.number act ∷ []
last_one v loaded w tries old n act t e =
    sym (append_assoc t.acted.more e.between (entry loaded.number act ∷ [])) ∙ ap (λ (k : ℕ). (t.acted.more ++ e.between) ++ entry k act ∷ []) t.acted.grew.number

-- and what is made before it
made_before : (v loaded w : View) (tries old n : ℕ) (act : Act) (t : TakenSo v loaded tries old) (e : Extends mmv loaded act n w)
    → Makes v.number (takes tries ++ (Take ∷ Load 1 ∷ [])) (t.acted.more ++ e.between)
made_before v loaded w tries old n act t e =
    own-append v.number t.acted.more e.between
    ∙ (ap (λ (l : List Entry). own v.number t.acted.more ++ l) (subst (λ (k : ℕ). own k e.between ≡ []) t.acted.grew.number e.others) ∙ (append-nil (own v.number t.acted.more) ∙ t.acted.makes))

pub begun_did : (region : MadeRegion) (pass : Token) (image : List ℕ) (moment : ℕ) (change : Relaying) → StartsAtLast mmv pass.view (length region.words) image moment change → IsSame Idle Changing pass change.token
    → Did region (λ k s entries next. (Writing.idle ≡ Writing.idle) × BeginsChange k s image moment entries next) (writers.Idle pass) (writers.Changing change)
begun_did region pass image moment change a same =
    let v : View = pass.view in
    let w : View = change.token.view in
    let n : ℕ = change.generation in
    let s = a.starts in
    let t : TakenSo v s.loaded a.tries s.old = taken_so v a.before s.taken s.loaded a.tries s.old a.busy s.takes s.loads in
    let e : Extends mmv s.loaded (Begin n) n w = s.begins in
    let still = found_still v s.loaded w a.tries s.old n (Begin n) t e in
    record {
      stays = λ k p. moved region k Idle Changing pass change.token same p;
      more = t.acted.more ++ entries_of s.loaded w (Begin n) n e;
      grew = grew_trans v s.loaded w t.acted.more (entries_of s.loaded w (Begin n) n e) t.acted.grew (grew_step s.loaded w (Begin n) n e);
      is = (
        refl,
        inl (
          n,
          record {
            tries = a.tries;
            before = t.acted.more ++ e.between;
            makes = made_before v s.loaded w a.tries s.old n (Begin n) t e;
            generation = s.generation ∙ ap (λ (g : ℕ). max moment (g + 1)) still;
            last = last_one v s.loaded w a.tries s.old n (Begin n) t e;
          },
          ap (λ (i : List ℕ). Writing.changing i n change.next) s.image_is ∙ ap (λ (m : ℕ). Writing.changing image n m) s.first_word,
        ),
      );
    }

spent_did : (region : MadeRegion) (pass other : Token) (image : List ℕ) (moment tries generation : ℕ) (before taken loaded : View) (gate : ℕ) → BusyTimes mmv tries pass.view before → generation ≡ 2 ^ 64 - 1
    → Extends mmv before Take 0 taken → Extends mmv taken (Load 1) generation loaded → Extends mmv loaded Free gate other.view → IsSame Idle Idle pass other
    → Did region (λ k s entries next. (Writing.idle ≡ Writing.idle) × BeginsChange k s image moment entries next) (writers.Idle pass) (writers.Refused other)
spent_did region pass other image moment tries generation before taken loaded gate busy spent take load e same =
    let v : View = pass.view in
    let w : View = other.view in
    let t : TakenSo v loaded tries generation = taken_so v before taken loaded tries generation busy take load in
    record {
      stays = λ k p. moved region k Idle Idle pass other same p;
      more = t.acted.more ++ entries_of loaded w Free gate e;
      grew = grew_trans v loaded w t.acted.more (entries_of loaded w Free gate e) t.acted.grew (grew_step loaded w Free gate e);
      is = (
        refl,
        inr (
          record {
            tries = tries;
            before = t.acted.more ++ e.between;
            makes = made_before v loaded w tries generation gate Free t e;
            spent = sym (found_still v loaded w tries generation gate Free t e) ∙ spent;
            last = last_one v loaded w tries generation gate Free t e;
          },
          refl,
        ),
      );
    }

pub refused_did : (region : MadeRegion) (pass other : Token) (image : List ℕ) (moment : ℕ) (fault : ChangeFault) → length image ≤ length region.words → FailsAtLast mmv pass.view (length region.words) image other.view fault
    → IsSame Idle Idle pass other → Did region (λ k s entries next. (Writing.idle ≡ Writing.idle) × BeginsChange k s image moment entries next) (writers.Idle pass) (writers.Refused other)
refused_did region pass other image moment (faults.TooLarge need room) fits f same = let large = f.fails.0 in absurd (omega arith)
refused_did region pass other image moment (faults.Busy gate) fits f same = absurd f.another
refused_did region pass other image moment (faults.Spent generation) fits f same =
    let p = f.fails.2 in
    spent_did region pass other image moment f.tries generation f.before p.0 p.1 p.2 f.busy f.fails.1 p.3 p.4 p.5 same

-- of a copy of the image
pub refused_by : (region : MadeRegion) (pass other : Token) (image copy : List ℕ) (moment : ℕ) (fault : ChangeFault) → copy ≡ image → length image ≤ length region.words → FailsAtLast mmv pass.view (length region.words) copy other.view fault
    → IsSame Idle Idle pass other → Did region (λ k s entries next. (Writing.idle ≡ Writing.idle) × BeginsChange k s image moment entries next) (writers.Idle pass) (writers.Refused other)
refused_by region pass other image copy moment fault e fits fails same =
    refused_did region pass other image moment fault fits (subst (λ (i : List ℕ). FailsAtLast mmv pass.view (length region.words) i other.view fault) e fails) same

-- Going on with a change

not_zero : (n : ℕ) → eqb n 0 ≡ false → 0 < n
not_zero zero e = absurd (cc)
not_zero (suc n) e = omega arith

pub stepped_did : (region : MadeRegion) (old new : Relaying) → Puts mmv old new → IsSame Changing Changing old.token new.token
    → Did region (λ k s entries next. StepsOn k (Writing.changing old.image old.generation old.next) entries next) (writers.Changing old) (writers.Changing new)
stepped_did region old new s same = by_left (eqb (left_of old) 0) refl
  where
    v : View
    v = old.token.view

    w : View
    w = new.token.view

    stays : (k : ℕ) → IsPassOf region k Changing old.token → IsPassOf region k Changing new.token
    stays k p = moved region k Changing Changing old.token new.token same p

    writing : (at : ℕ) → new.next ≡ at → Writing.changing new.image new.generation new.next ≡ Writing.changing old.image old.generation at
    writing at e i = Writing.changing (s.image i) (s.generation i) (e i)

    by_left : (b : Bool) → eqb (left_of old) 0 ≡ b → Did region (λ k s entries next. StepsOn k (Writing.changing old.image old.generation old.next) entries next) (writers.Changing old) (writers.Changing new)
    by_left true none =
        let same_change : new ≡ old = s.none_left (eqb-true (left_of old) 0 none) in record {
          stays = stays;
          more = [];
          grew = subst (λ (c : Relaying). Grew v [] c.token.view) (sym same_change) (grew_refl v);
          is = (
            ap (λ (b : Bool). map (λ act. entry v.number act) (if b then [] else Put old.next (slice_index old.image old.next) ∷ [])) (sym none),
            writing old.next (ap (λ (c : Relaying). c.next) same_change) ∙ ap (λ (b : Bool). Writing.changing old.image old.generation (if b then old.next else next_after old.next)) (sym none),
          );
        }
    by_left false some_left =
        let more : 0 < left_of old = not_zero (left_of old) some_left in
        let e = s.puts more in
        let act : Act = Put old.next (slice_index old.image old.next) in
        let acted : Acted v (act ∷ []) w = acted_one v w act (slice_index old.image old.next) e in record {
          stays = stays;
          more = acted.more;
          grew = acted.grew;
          is = (
            acted.makes ∙ ap (λ (b : Bool). map (λ a. entry v.number a) (if b then [] else act ∷ [])) (sym some_left),
            writing (next_after old.next) (s.next more) ∙ ap (λ (b : Bool). Writing.changing old.image old.generation (if b then old.next else next_after old.next)) (sym some_left),
          );
        }

pub finished_did : (region : MadeRegion) (change : Relaying) (pass : Token) → Acts mmv change.token.view (last_acts change) pass.view → IsSame Changing Idle change.token pass
    → Did region (λ k s entries next. Finishes k (Writing.changing change.image change.generation change.next) entries next) (writers.Changing change) (writers.Idle pass)
finished_did region change pass a same =
    let acted : Acted change.token.view (last_acts change) pass.view = acted_all change.token.view pass.view (last_acts change) a in
    record { stays = λ k p. moved region k Changing Idle change.token pass same p; more = acted.more; grew = acted.grew; is = (acted.makes, refl) }

-- a change that was refused goes on without an entry
pub refused_steps : (region : MadeRegion) (pass : Token) → Did region (λ k s entries next. StepsOn k Writing.refused entries next) (writers.Refused pass) (writers.Refused pass)
refused_steps region pass = record { stays = λ k p. p; more = []; grew = grew_refl pass.view; is = (refl, refl) }

pub refused_ends : (region : MadeRegion) (pass : Token) → Did region (λ k s entries next. Finishes k Writing.refused entries next) (writers.Refused pass) (writers.Idle pass)
refused_ends region pass = record { stays = λ k p. p; more = []; grew = grew_refl pass.view; is = (refl, refl) }
