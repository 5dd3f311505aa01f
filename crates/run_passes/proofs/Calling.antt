-- What the calls of attached and of reading passes make, against the steps of the fold.
use Rattle.std.proofs.Common.{◌≡◌, ◌≢◌, ℕ, ◌<◌, ◌≤◌, ◌^◌, zero, suc, Bool, true, false, List, [], ◌∷◌, length, slice_get, slice_set, Some, None, if◌then◌else◌, nat_lt, codes, eqb, eqb-true, eq-eqb, sym, refl, ap, ◌∙◌, subst, arith}
use Rattle.std.proofs.lemmas.Bool.{ltb-true, lt-ltb}
use Rattle.region_core.specs.declared.act.Act.TheVariants.{Load, Enter, Leave}
use Rattle.region_core.specs.declared.mode.Mode.{Mode}
use Rattle.region_core.specs.declared.mode.Mode.TheVariants.{Idle, Attached}
use Rattle.region_core.specs.State.{word, g1, g2, IsIn}
use Rattle.region_core.proofs.Runs.{wide_run}
use Rattle.region_rule.specs.declared.view.View.{View}
use Rattle.region_rule.specs.Views.{opening_of, now}
use Rattle.region_rule.specs.Steps.{entry, Extends}
use Rattle.region_rule.specs.Seats.{MadeRegion, Token, IsSame}
use Rattle.region_rule.specs.Calls.{Opened, Attaches, Bounces, Detaches}
use Rattle.region_words.specs.Images.{mmv}
use Rattle.script_runs.specs.Journals.{is_look}
use Rattle.script_runs.specs.PassSteps as steps
use Rattle.text_lines.specs.Spelling.{one_number, two_numbers}
use Rattle.script_runs.specs.Regions.{Doing, ScriptRegion, capacity_of, with_act, does}
use Rattle.run_passes.specs.declared.said.Said.{Said}
use Rattle.run_passes.specs.declared.said.Said.TheVariants as said
use Rattle.run_passes.specs.declared.worker.Worker.{Worker}
use Rattle.run_passes.specs.declared.worker.Worker.TheVariants as workers
use Rattle.run_passes.specs.Workers.{IsPassOf, IsWorker, view_of, doing_of}
use Rattle.run_passes.specs.Works.{Step, Grows, Quiet, region_seen, region_by, IsAtWork, Works, line_of}
use Rattle.run_passes.proofs.Quiet.{Left, left_by, did, no_look, grows_refl, grows_trans, grows_step, quiet_first, quiet_last}

-- A pass that does nothing

pub set_there : {A : Type 0} (xs : List A) (k : ℕ) (x : A) → slice_get xs k ≡ Some x → slice_set xs k x ≡ xs
set_there [] k x e = refl
set_there (y ∷ ys) zero x e = let same : y ≡ x = cc in ap (λ (z : _). z ∷ ys) (sym same)
set_there (y ∷ ys) (suc k) x e = ap (λ (zs : List _). y ∷ zs) (set_there ys k x e)

pub stays_by : (region : MadeRegion) (logger k : ℕ) (w : Worker) (r : ScriptRegion) → IsAtWork region logger k w r → r ≡ region_by r logger k w
stays_by region logger k w r at = at.is ∙ ap (λ (d : List Doing). region_seen r logger (view_of w) d) (sym (set_there r.doing k (doing_of w) at.doing))

pub no_step : (region : MadeRegion) (step : Step) (w : Worker) → ((r : ScriptRegion) (k : ℕ) → step r k (doing_of w) ≡ None) → Works region step w w None
no_step region step w none = record { stays = λ k h. h; grows = grows_refl (view_of w); does = λ logger k r at q. (none r k, stays_by region logger k w r at) }

pub no_attach : (region : MadeRegion) (w : Worker) → ((x : Token) → w ≡ workers.Idle x → ⊥) → (k : ℕ) × IsWorker region k w → Works region steps.attaches w w None
no_attach region (workers.Idle pass) other here = absurd (other pass refl)
no_attach region (workers.Inside stint) other here = no_step region steps.attaches (workers.Inside stint) (λ r k. refl)
no_attach region (workers.Changing change) other here = no_step region steps.attaches (workers.Changing change) (λ r k. refl)
no_attach region (workers.Reading reading) other here = no_step region steps.attaches (workers.Reading reading) (λ r k. refl)
no_attach region workers.Away other here = absurd here.1

pub no_load : (region : MadeRegion) (w : Worker) → ((x : Token) → w ≡ workers.Idle x → ⊥) → (k : ℕ) × IsWorker region k w → Works region steps.loads w w None
no_load region (workers.Idle pass) other here = absurd (other pass refl)
no_load region (workers.Inside stint) other here = no_step region steps.loads (workers.Inside stint) (λ r k. refl)
no_load region (workers.Changing change) other here = no_step region steps.loads (workers.Changing change) (λ r k. refl)
no_load region (workers.Reading reading) other here = no_step region steps.loads (workers.Reading reading) (λ r k. refl)
no_load region workers.Away other here = absurd here.1

pub no_detach : (region : MadeRegion) (w : Worker) → ((x : Token) → w ≡ workers.Inside x → ⊥) → Works region steps.detaches w w None
no_detach region (workers.Idle pass) other = no_step region steps.detaches (workers.Idle pass) (λ r k. refl)
no_detach region (workers.Inside stint) other = absurd (other stint refl)
no_detach region (workers.Changing change) other = no_step region steps.detaches (workers.Changing change) (λ r k. refl)
no_detach region (workers.Reading reading) other = no_step region steps.detaches (workers.Reading reading) (λ r k. refl)
no_detach region workers.Away other = no_step region steps.detaches workers.Away (λ r k. refl)

pub no_word : (region : MadeRegion) (index : ℕ) (w : Worker) → ((x : Opened) → w ≡ workers.Reading x → ⊥) → Works region (λ r k doing. steps.reads r k index doing) w w None
no_word region index (workers.Idle pass) other = no_step region (λ r k doing. steps.reads r k index doing) (workers.Idle pass) (λ r k. refl)
no_word region index (workers.Inside stint) other = no_step region (λ r k doing. steps.reads r k index doing) (workers.Inside stint) (λ r k. refl)
no_word region index (workers.Changing change) other = no_step region (λ r k doing. steps.reads r k index doing) (workers.Changing change) (λ r k. refl)
no_word region index (workers.Reading reading) other = absurd (other reading refl)
no_word region index workers.Away other = no_step region (λ r k doing. steps.reads r k index doing) workers.Away (λ r k. refl)

pub no_end : (region : MadeRegion) (w : Worker) → ((x : Opened) → w ≡ workers.Reading x → ⊥) → Works region steps.ends w w None
no_end region (workers.Idle pass) other = no_step region steps.ends (workers.Idle pass) (λ r k. refl)
no_end region (workers.Inside stint) other = no_step region steps.ends (workers.Inside stint) (λ r k. refl)
no_end region (workers.Changing change) other = no_step region steps.ends (workers.Changing change) (λ r k. refl)
no_end region (workers.Reading reading) other = absurd (other reading refl)
no_end region workers.Away other = no_step region steps.ends workers.Away (λ r k. refl)

pub not_less : (n m : ℕ) → m ≤ n → nat_lt n m ≡ false
not_less n m h = by_test (nat_lt n m) refl
  where
    by_test : (t : Bool) → nat_lt n m ≡ t → t ≡ false
    by_test true e = let less : n < m = ltb-true n m e in absurd (omega arith)
    by_test false e = refl

-- Calls

pub moved : (region : MadeRegion) (k : ℕ) (was stays : Mode) (old new : Token) → IsSame was stays old new → IsPassOf region k was old → IsPassOf region k stays new
moved region k was stays old new same p = record { region_is = same.region ∙ p.region_is; number_is = same.number ∙ p.number_is; in_mode = same.after }

-- the pass of a number acts
pub acts : (r : ScriptRegion) (logger k : ℕ) (v w : View) (act : _) (n : ℕ) (doing : List Doing) → v.number ≡ k → Left v w act n → is_look (now v) logger (entry k act) ≡ false
    → with_act (region_seen r logger v doing) k act ≡ region_seen r logger w doing
acts r logger k v w act n doing e l look =
    let look_by : is_look (now v) logger (entry v.number act) ≡ false = subst (λ (j : ℕ). is_look (now v) logger (entry j act) ≡ false) (sym e) look in
    subst (λ (j : ℕ). with_act (region_seen r logger v doing) j act ≡ region_seen r logger w doing) e (did r logger v w act n doing l look_by)

pub attached : (region : MadeRegion) (pass stint : Token) → Attaches mmv pass.view stint.view → IsSame Idle Attached pass stint → Works region steps.attaches (workers.Idle pass) (workers.Inside stint) (Some said.Attached)
attached region pass stint a same = record {
  stays = λ k p. moved region k Idle Attached pass stint same p;
  grows = grows_step pass.view stint.view Enter a.gate a.enters;
  does = λ logger k r at q. does_it logger k r at q;
}
  where
    does_it : (logger k : ℕ) (r : ScriptRegion) → IsAtWork region logger k (workers.Idle pass) r → Quiet pass.view stint.view → steps.attaches r k Doing.idle ≡ Some (region_by r logger k (workers.Inside stint), codes "attached\n")
    does_it logger k r at q =
        let v : View = pass.view in
        let s : ScriptRegion = region_seen r logger v r.doing in
        let l : Left v stint.view Enter a.gate = left_by v stint.view Enter a.gate a.enters q in
        let act : with_act s k Enter ≡ region_seen r logger stint.view r.doing = acts r logger k v stint.view Enter a.gate r.doing at.is_worker.number_is l refl in
        let free : nat_lt (now v).gate (2 ^ 63) ≡ true = lt-ltb (now v).gate (2 ^ 63) (subst (λ (n : ℕ). n < 2 ^ 63) l.found a.free) in
        subst (λ (x : ScriptRegion). steps.attaches x k Doing.idle ≡ Some (region_by x logger k (workers.Inside stint), codes "attached\n")) (sym at.is)
        (ap (λ (b : Bool). Some (if b then (does (with_act s k Enter) k Doing.attached, codes "attached\n") else (with_act (with_act s k Enter) k Leave, one_number (codes "Changing") (now v).gate))) free
        ∙ ap (λ (x : ScriptRegion). Some (does x k Doing.attached, codes "attached\n")) act)

pub bounced : (region : MadeRegion) (pass other : Token) (gate : ℕ) → Bounces mmv pass.view gate other.view → IsSame Idle Idle pass other → Works region steps.attaches (workers.Idle pass) (workers.Idle other) (Some (said.Bounced gate))
bounced region pass other gate b same = record {
  stays = λ k p. moved region k Idle Idle pass other same p;
  grows = grows_trans pass.view b.middle other.view first last;
  does = λ logger k r at q. does_it logger k r at q;
}
  where
    first : Grows pass.view b.middle
    first = grows_step pass.view b.middle Enter gate b.enters

    last : Grows b.middle other.view
    last = grows_step b.middle other.view Leave b.left b.leaves

    does_it : (logger k : ℕ) (r : ScriptRegion) → IsAtWork region logger k (workers.Idle pass) r → Quiet pass.view other.view → steps.attaches r k Doing.idle ≡ Some (region_by r logger k (workers.Idle other), one_number (codes "Changing") gate)
    does_it logger k r at q =
        let v : View = pass.view in
        let s : ScriptRegion = region_seen r logger v r.doing in
        let l : Left v b.middle Enter gate = left_by v b.middle Enter gate b.enters (quiet_first v b.middle other.view first last q) in
        let m : Left b.middle other.view Leave b.left = left_by b.middle other.view Leave b.left b.leaves (quiet_last v b.middle other.view first last q) in
        let entered : with_act s k Enter ≡ region_seen r logger b.middle r.doing = acts r logger k v b.middle Enter gate r.doing at.is_worker.number_is l refl in
        let left : with_act (region_seen r logger b.middle r.doing) k Leave ≡ region_seen r logger other.view r.doing = acts r logger k b.middle other.view Leave b.left r.doing (l.number ∙ at.is_worker.number_is) m refl in
        let shut : nat_lt (now v).gate (2 ^ 63) ≡ false = not_less (now v).gate (2 ^ 63) (subst (λ (n : ℕ). 2 ^ 63 ≤ n) l.found b.shut) in
        let same_doing : r.doing ≡ slice_set r.doing k Doing.idle = sym (set_there r.doing k Doing.idle at.doing) in
        subst (λ (x : ScriptRegion). steps.attaches x k Doing.idle ≡ Some (region_by x logger k (workers.Idle other), one_number (codes "Changing") gate)) (sym at.is)
        (ap (λ (t : Bool). Some (if t then (does (with_act s k Enter) k Doing.attached, codes "attached\n") else (with_act (with_act s k Enter) k Leave, one_number (codes "Changing") (now v).gate))) shut
        ∙ (ap (λ (x : ScriptRegion). Some (with_act x k Leave, one_number (codes "Changing") (now v).gate)) entered
        ∙ (ap (λ (x : ScriptRegion). Some (x, one_number (codes "Changing") (now v).gate)) left
        ∙ (ap (λ (d : List Doing). Some (region_seen r logger other.view d, one_number (codes "Changing") (now v).gate)) same_doing
        ∙ ap (λ (n : ℕ). Some (region_seen r logger other.view (slice_set r.doing k Doing.idle), one_number (codes "Changing") n)) (sym l.found)))))

pub detached : (region : MadeRegion) (stint pass : Token) → Detaches mmv stint.view pass.view → IsSame Attached Idle stint pass → Works region steps.detaches (workers.Inside stint) (workers.Idle pass) (Some said.Nothing)
detached region stint pass d same = record {
  stays = λ k p. moved region k Attached Idle stint pass same p;
  grows = grows_step stint.view pass.view Leave d.0 d.1;
  does = λ logger k r at q. does_it logger k r at q;
}
  where
    does_it : (logger k : ℕ) (r : ScriptRegion) → IsAtWork region logger k (workers.Inside stint) r → Quiet stint.view pass.view → steps.detaches r k Doing.attached ≡ Some (region_by r logger k (workers.Idle pass), [])
    does_it logger k r at q =
        let l : Left stint.view pass.view Leave d.0 = left_by stint.view pass.view Leave d.0 d.1 q in
        subst (λ (x : ScriptRegion). steps.detaches x k Doing.attached ≡ Some (region_by x logger k (workers.Idle pass), [])) (sym at.is)
        (ap (λ (x : ScriptRegion). Some (does x k Doing.idle, [])) (acts r logger k stint.view pass.view Leave d.0 r.doing at.is_worker.number_is l refl))

-- a load by an idle pass is no look
idle_load : (region : MadeRegion) (logger k i : ℕ) (w : Worker) (token : Token) (r : ScriptRegion) → IsAtWork region logger k w r → view_of w ≡ token.view → IsPassOf region k Idle token
    → is_look (now token.view) logger (entry k (Load i)) ≡ false
idle_load region logger k i w token r at e p =
    let there : IsIn token.view.mode (now token.view) k = subst (λ (v : View). IsIn v.mode (now v) k) e at.there in
    no_look (now token.view) logger k i Idle at.other (subst (λ (m : Mode). IsIn m (now token.view) k) p.in_mode.mode_is there) refl

pub loaded : (region : MadeRegion) (pass : Token) (reading : Opened) → Extends mmv pass.view (Load 2) reading.first reading.token.view → IsSame Idle Idle pass reading.token
    → Works region steps.loads (workers.Idle pass) (workers.Reading reading) (Some said.Nothing)
loaded region pass reading e same = record {
  stays = λ k p. moved region k Idle Idle pass reading.token same p;
  grows = grows_step pass.view reading.token.view (Load 2) reading.first e;
  does = λ logger k r at q. does_it logger k r at q;
}
  where
    does_it : (logger k : ℕ) (r : ScriptRegion) → IsAtWork region logger k (workers.Idle pass) r → Quiet pass.view reading.token.view → steps.loads r k Doing.idle ≡ Some (region_by r logger k (workers.Reading reading), [])
    does_it logger k r at q =
        let l : Left pass.view reading.token.view (Load 2) reading.first = left_by pass.view reading.token.view (Load 2) reading.first e q in
        let look = idle_load region logger k 2 (workers.Idle pass) pass r at refl at.is_worker in
        subst (λ (x : ScriptRegion). steps.loads x k Doing.idle ≡ Some (region_by x logger k (workers.Reading reading), [])) (sym at.is)
        (ap (λ (x : ScriptRegion). Some (does x k (Doing.reading (g2 (now pass.view))), [])) (acts r logger k pass.view reading.token.view (Load 2) reading.first r.doing at.is_worker.number_is l look)
        ∙ ap (λ (n : ℕ). Some (does (region_seen r logger reading.token.view r.doing) k (Doing.reading n), [])) (sym l.found))

-- how many words a region has, as a pass sees it
pub capacity_seen : (region : MadeRegion) (k : ℕ) (mode : Mode) (token : Token) → IsPassOf region k mode token → length (now token.view).words ≡ length region.words
capacity_seen region k mode token p =
    wide_run (opening_of token.view) token.view.seen ∙ (ap (λ (ws : List ℕ). length ws) p.in_mode.start_is ∙ ap (λ (m : MadeRegion). length m.words) p.region_is)

pub read_on : (region : MadeRegion) (old new : Opened) (index n : ℕ) → index < length region.words → Extends mmv old.token.view (Load index) n new.token.view → new.first ≡ old.first → IsSame Idle Idle old.token new.token
    → Works region (λ r k doing. steps.reads r k index doing) (workers.Reading old) (workers.Reading new) (Some (said.Word n))
read_on region old new index n below e first same = record {
  stays = λ k p. moved region k Idle Idle old.token new.token same p;
  grows = grows_step old.token.view new.token.view (Load index) n e;
  does = λ logger k r at q. does_it logger k r at q;
}
  where
    does_it : (logger k : ℕ) (r : ScriptRegion) → IsAtWork region logger k (workers.Reading old) r → Quiet old.token.view new.token.view
        → steps.reads r k index (Doing.reading old.first) ≡ Some (region_by r logger k (workers.Reading new), one_number (codes "word") n)
    does_it logger k r at q =
        let v : View = old.token.view in
        let s : ScriptRegion = region_seen r logger v r.doing in
        let l : Left v new.token.view (Load index) n = left_by v new.token.view (Load index) n e q in
        let look = idle_load region logger k index (workers.Reading old) old.token r at refl at.is_worker in
        let wide : length (now v).words ≡ length region.words = capacity_seen region k Idle old.token at.is_worker in
        let there : nat_lt index (length (now v).words) ≡ true = lt-ltb index (length (now v).words) (subst (λ (m : ℕ). index < m) (sym wide) below) in
        let same_doing : r.doing ≡ slice_set r.doing k (Doing.reading new.first) = sym (set_there r.doing k (Doing.reading new.first) (at.doing ∙ ap (λ (m : ℕ). Some (Doing.reading m)) (sym first))) in
        subst (λ (x : ScriptRegion). steps.reads x k index (Doing.reading old.first) ≡ Some (region_by x logger k (workers.Reading new), one_number (codes "word") n)) (sym at.is)
        (ap (λ (b : Bool). if b then Some (with_act s k (Load index), one_number (codes "word") (word (now v) index)) else None) there
        ∙ (ap (λ (x : ScriptRegion). Some (x, one_number (codes "word") (word (now v) index))) (acts r logger k v new.token.view (Load index) n r.doing at.is_worker.number_is l look)
        ∙ (ap (λ (d : List Doing). Some (region_seen r logger new.token.view d, one_number (codes "word") (word (now v) index))) same_doing
        ∙ ap (λ (m : ℕ). Some (region_seen r logger new.token.view (slice_set r.doing k (Doing.reading new.first)), one_number (codes "word") m)) (sym l.found))))

-- past the last word nothing is read
pub read_past : (region : MadeRegion) (reading : Opened) (index : ℕ) → length region.words ≤ index → Works region (λ r k doing. steps.reads r k index doing) (workers.Reading reading) (workers.Reading reading) None
read_past region reading index past = record {
  stays = λ k h. h;
  grows = grows_refl reading.token.view;
  does = λ logger k r at q. (none logger k r at, stays_by region logger k (workers.Reading reading) r at);
}
  where
    none : (logger k : ℕ) (r : ScriptRegion) → IsAtWork region logger k (workers.Reading reading) r → steps.reads r k index (Doing.reading reading.first) ≡ None
    none logger k r at =
        let v : View = reading.token.view in
        let wide : length (now v).words ≡ length region.words = capacity_seen region k Idle reading.token at.is_worker in
        let is : capacity_of r ≡ length region.words = ap (λ (x : ScriptRegion). capacity_of x) at.is ∙ wide in
        let test : nat_lt index (capacity_of r) ≡ false = not_less index (capacity_of r) (subst (λ (m : ℕ). m ≤ index) (sym is) past) in
        ap (λ (b : Bool). if b then Some (with_act r k (Load index), one_number (codes "word") (word r.state index)) else None) test

-- what the end of a reading says
abbrev pub SaysSo : ℕ → ℕ → Said → Type 0
SaysSo first last line = line_of line ≡ steps.end_line first last

pub says_stable : (first last n : ℕ) → n ≡ first → last ≡ first → SaysSo first last (said.Stable n)
says_stable first last n e f =
    ap (λ (m : ℕ). one_number (codes "stable") m) e
    ∙ sym (ap (λ (m : ℕ). steps.end_line first m) f ∙ ap (λ (b : Bool). if b then one_number (codes "stable") first else two_numbers (codes "Again") first first) (eq-eqb first first refl))

pub says_again : (first last n m : ℕ) → n ≡ first → m ≡ last → first ≢ last → SaysSo first last (said.Again n m)
says_again first last n m e f differ =
    (ap (λ (x : ℕ). two_numbers (codes "Again") x m) e ∙ ap (λ (x : ℕ). two_numbers (codes "Again") first x) f) ∙ sym (by_test (eqb first last) refl)
  where
    by_test : (b : Bool) → eqb first last ≡ b → (if b then one_number (codes "stable") first else two_numbers (codes "Again") first last) ≡ two_numbers (codes "Again") first last
    by_test true t = absurd (differ (eqb-true first last t))
    by_test false t = refl

pub ended : (region : MadeRegion) (reading : Opened) (pass : Token) (last : ℕ) (line : Said) → Extends mmv reading.token.view (Load 1) last pass.view → IsSame Idle Idle reading.token pass → SaysSo reading.first last line
    → Works region steps.ends (workers.Reading reading) (workers.Idle pass) (Some line)
ended region reading pass last line e same says = record {
  stays = λ k p. moved region k Idle Idle reading.token pass same p;
  grows = grows_step reading.token.view pass.view (Load 1) last e;
  does = λ logger k r at q. does_it logger k r at q;
}
  where
    does_it : (logger k : ℕ) (r : ScriptRegion) → IsAtWork region logger k (workers.Reading reading) r → Quiet reading.token.view pass.view
        → steps.ends r k (Doing.reading reading.first) ≡ Some (region_by r logger k (workers.Idle pass), line_of line)
    does_it logger k r at q =
        let v : View = reading.token.view in
        let l : Left v pass.view (Load 1) last = left_by v pass.view (Load 1) last e q in
        let look = idle_load region logger k 1 (workers.Reading reading) reading.token r at refl at.is_worker in
        subst (λ (x : ScriptRegion). steps.ends x k (Doing.reading reading.first) ≡ Some (region_by x logger k (workers.Idle pass), line_of line)) (sym at.is)
        (ap (λ (x : ScriptRegion). Some (does x k Doing.idle, steps.end_line reading.first (g1 (now v)))) (acts r logger k v pass.view (Load 1) last r.doing at.is_worker.number_is l look)
        ∙ (ap (λ (m : ℕ). Some (region_by r logger k (workers.Idle pass), steps.end_line reading.first m)) (sym l.found)
        ∙ ap (λ (text : List ℕ). Some (region_by r logger k (workers.Idle pass), text)) (sym says)))
