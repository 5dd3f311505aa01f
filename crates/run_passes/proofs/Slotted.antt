-- What an attached pass stores, against the steps of the fold: it looks at the layout first, and looks leave the region.
use Rattle.std.proofs.Common.{◌≡◌, ◌⊎◌, ℕ, ℤ, zero, suc, Bool, true, false, ◌&&◌, ◌||◌, List, [], ◌∷◌, ◌++◌, find, Contains, bytes_eq, option_map, slice_get, Option, Some, None, Result, Ok, Err, MatchResult, IfOk, unwrap_or, negsuc, if◌then◌else◌, eqb, ⊎_elim, sym, refl, ap, ◌∙◌, subst, arith}
use Rattle.std.specs.List.{zip}
use Rattle.pcp_base.specs.declared.memory.NoMemory.{NoMemory}
use Rattle.pcp_base.specs.declared.kind.Kind.{Kind}
use Rattle.pcp_base.specs.declared.kind.Kind.TheVariants as kinds
use Rattle.mmv_layout.specs.declared.rows.Slot.{Slot}
use Rattle.mmv_layout.specs.Form.{Form, form_of, is_slot_of, slots_of, texts_of}
use Rattle.region_core.specs.declared.act.Act.{Act}
use Rattle.region_core.specs.declared.act.Act.TheVariants.{Load, Swap, Add}
use Rattle.region_core.specs.declared.mode.Mode.{Mode}
use Rattle.region_core.specs.declared.mode.Mode.TheVariants.{Attached}
use Rattle.region_core.specs.Shape.{IsWord}
use Rattle.region_core.specs.State.{State, IsIn}
use Rattle.region_core.proofs.Lists.{get_at}
use Rattle.region_rule.specs.declared.view.View.{View}
use Rattle.region_rule.specs.Views.{now}
use Rattle.region_rule.specs.Calls.{TakesValue, TakesAll}
use Rattle.region_rule.specs.Reads.{Reads}
use Rattle.region_rule.specs.Steps.{entry, Extends}
use Rattle.region_rule.specs.Seats.{MadeRegion, Token, IsSame}
use Rattle.region_words.specs.Calls.{form_seen, Loads, IsNumber}
use Rattle.region_words.specs.Images.{mmv}
use Rattle.region_words.proofs.Inside.{numbers_take, slots_take, texts_inside}
use Rattle.run_script.specs.declared.lines.Given.{Given}
use Rattle.run_script.specs.declared.lines.Given.TheVariants as given
use Rattle.script_runs.specs.Journals.{is_load, is_attached, is_look}
use Rattle.script_runs.specs.PassSteps as steps
use Rattle.script_runs.specs.Regions.{Doing, ScriptRegion, with_act}
use Rattle.script_runs.specs.Slots.{number_for, holds_number, low_bits, value_for, swap_into, swap_of, add_of, add_into}
use Rattle.run_passes.specs.declared.said.Said.{Said}
use Rattle.run_passes.specs.declared.said.Said.TheVariants as said
use Rattle.run_passes.specs.declared.worker.Worker.{Worker}
use Rattle.run_passes.specs.declared.worker.Worker.TheVariants as workers
use Rattle.run_passes.specs.Storing.{texts_seen, slot_seen, text_among, value_among, swap_among, swap_seen, add_seen, StoresOrLoads, said_of}
use Rattle.run_passes.specs.Workers.{IsPassOf}
use Rattle.run_passes.specs.Works.{Step, Grows, Quiet, region_seen, region_by, IsAtWork, Works, Rests}
use Rattle.run_passes.proofs.Quiet.{Left, left_by, looked, grows_refl, grows_trans, grows_step, quiet_first, quiet_last}
use Rattle.run_passes.proofs.Calling.{set_there, no_step, moved, acts}
use Rattle.run_passes.proofs.Staying.{found_there, zipped}

zip_front : {A B : Type 0} (xs : List A) (ys : List B) (x : A × B) → Contains (zip xs ys) x → Contains xs x.0
zip_front [] ys x c = absurd (omega arith)
zip_front (a ∷ xs) [] x c = absurd (omega arith)
zip_front (a ∷ xs) (b ∷ ys) x (zero, h, e) = (0, omega arith, ap (λ (p : _). p.0) e)
zip_front (a ∷ xs) (b ∷ ys) x (suc k, h, e) = let rest = zip_front xs ys x (k, omega arith, e) in (suc rest.0, omega arith, rest.2)

-- a text that was found has an offset of the layout
text_there : (v : View) (text : List ℕ) (x : ℕ) → text_among (texts_seen v) text ≡ Some x → Contains (form_seen v).offsets x
text_there v text x e = by_find (find (λ (found : ℕ × List ℕ). bytes_eq found.1 text) (texts_seen v)) refl e
  where
    by_find : (o : Option (ℕ × List ℕ)) → find (λ (found : ℕ × List ℕ). bytes_eq found.1 text) (texts_seen v) ≡ o → option_map (λ (found : ℕ × List ℕ). found.0) o ≡ Some x → Contains (form_seen v).offsets x
    by_find None f g = absurd (cc)
    by_find (Some found) f g =
        let same : found.0 ≡ x = cc in
        subst (λ (n : ℕ). Contains (form_seen v).offsets n) same (zip_front (form_seen v).offsets (form_seen v).strings found (found_there (λ (found : ℕ × List ℕ). bytes_eq found.1 text) (texts_seen v) found f))

-- the kinds whose words hold numbers
number_kind : (kind : Kind) (n : ℤ) (x : ℕ) → number_for kind n ≡ Some x → IsNumber kind
number_kind kinds.I32 n x e = tt
number_kind kinds.U32 n x e = tt
number_kind kinds.I64 n x e = tt
number_kind kinds.U64 n x e = tt
number_kind kinds.Float n x e = absurd (cc)
number_kind kinds.Double n x e = absurd (cc)
number_kind kinds.Text n x e = absurd (cc)
number_kind kinds.Elapsed n x e = absurd (cc)

pub holding_kind : (kind : Kind) → holds_number kind ≡ true → IsNumber kind
holding_kind kinds.I32 e = tt
holding_kind kinds.U32 e = tt
holding_kind kinds.I64 e = tt
holding_kind kinds.U64 e = tt
holding_kind kinds.Float e = absurd (cc)
holding_kind kinds.Double e = absurd (cc)
holding_kind kinds.Text e = absurd (cc)
holding_kind kinds.Elapsed e = absurd (cc)

-- a value that was made for a slot may be put there
taken_by : (v : View) (slot : Slot) (kind : Kind) (value : Given) (x : ℕ) → Contains (form_seen v).slots slot → slot.kind ≡ kind → value_among (texts_seen v) kind value ≡ Some x → IsWord x → TakesValue mmv v slot.word x
taken_by v slot kind (given.Number n) x among e f fits = numbers_take v slot among (subst IsNumber (sym e) (number_kind kind n x f)) x fits
taken_by v slot kinds.Text (given.Choice text) x among e f fits = slots_take v slot x among (text_there v text x f)
taken_by v slot kinds.I32 (given.Choice text) x among e f fits = absurd (cc)
taken_by v slot kinds.U32 (given.Choice text) x among e f fits = absurd (cc)
taken_by v slot kinds.I64 (given.Choice text) x among e f fits = absurd (cc)
taken_by v slot kinds.U64 (given.Choice text) x among e f fits = absurd (cc)
taken_by v slot kinds.Float (given.Choice text) x among e f fits = absurd (cc)
taken_by v slot kinds.Double (given.Choice text) x among e f fits = absurd (cc)
taken_by v slot kinds.Elapsed (given.Choice text) x among e f fits = absurd (cc)

-- where the form stays
texts_same : (v w : View) → form_seen w ≡ form_seen v → texts_seen w ≡ texts_seen v
texts_same v w e = ap (λ (f : Form). zip f.offsets f.strings) e

pub swap_taken : (v w : View) (item : ℕ) (instance : Option ℤ) (slot : Slot) (value : Given) (x : ℕ) → form_seen w ≡ form_seen v → slot_seen v item instance ≡ Some slot → value_among (texts_seen v) slot.kind value ≡ Some x → IsWord x
    → TakesValue mmv w slot.word x
swap_taken v w item instance slot value x same found f fits =
    let among : Contains (form_seen v).slots slot = found_there (is_slot_of item (unwrap_or instance (negsuc 0))) (form_seen v).slots slot found in
    taken_by w slot slot.kind value x (subst (λ (g : Form). Contains g.slots slot) (sym same) among) refl (ap (λ (ts : List (ℕ × List ℕ)). value_among ts slot.kind value) (texts_same v w same) ∙ f) fits

pub add_taken : (v w : View) (item : ℕ) (instance : Option ℤ) (slot : Slot) → form_seen w ≡ form_seen v → slot_seen v item instance ≡ Some slot → holds_number slot.kind ≡ true → TakesAll mmv w slot.word
add_taken v w item instance slot same found holds =
    let among : Contains (form_seen v).slots slot = found_there (is_slot_of item (unwrap_or instance (negsuc 0))) (form_seen v).slots slot found in
    numbers_take w slot (subst (λ (g : Form). Contains g.slots slot) (sym same) among) (holding_kind slot.kind holds)

-- What the fold says of the words that were seen

texts_are : (words : List ℕ) → texts_of words ≡ zip (form_of words).offsets (form_of words).strings
texts_are words = let said = texts_inside words (form_of words) refl in zipped (texts_of words) (form_of words).offsets (form_of words).strings said.0 said.1

slots_are : (words : List ℕ) → slots_of words ≡ (form_of words).slots
unfolding form_of
slots_are words = refl

value_same : (words : List ℕ) (texts : List (ℕ × List ℕ)) (kind : Kind) (value : Given) → texts_of words ≡ texts → value_for words kind value ≡ value_among texts kind value
value_same words texts kind (given.Number n) e = refl
value_same words texts kinds.Text (given.Choice text) e = ap (λ (ts : List (ℕ × List ℕ)). text_among ts text) e
value_same words texts kinds.I32 (given.Choice text) e = refl
value_same words texts kinds.U32 (given.Choice text) e = refl
value_same words texts kinds.I64 (given.Choice text) e = refl
value_same words texts kinds.U64 (given.Choice text) e = refl
value_same words texts kinds.Float (given.Choice text) e = refl
value_same words texts kinds.Double (given.Choice text) e = refl
value_same words texts kinds.Elapsed (given.Choice text) e = refl

into_same : (words : List ℕ) (texts : List (ℕ × List ℕ)) (slot : Option Slot) (value : Given) → texts_of words ≡ texts → swap_into words slot value ≡ swap_among texts slot value
into_same words texts None value e = refl
into_same words texts (Some slot) value e = ap (λ (o : Option ℕ). option_map (Swap slot.word) o) (value_same words texts slot.kind value e)

pub swap_same : (v : View) (item : ℕ) (instance : Option ℤ) (value : Given) → swap_of (now v).words item instance value ≡ swap_seen v item instance value
swap_same v item instance value =
    ap (λ (slots : List Slot). swap_into (now v).words (find (is_slot_of item (unwrap_or instance (negsuc 0))) slots) value) (slots_are (now v).words)
    ∙ into_same (now v).words (texts_seen v) (slot_seen v item instance) value (texts_are (now v).words)

pub add_same : (v : View) (item : ℕ) (instance : Option ℤ) (number : ℤ) → add_of (now v).words item instance number ≡ add_seen v item instance number
add_same v item instance number = ap (λ (slots : List Slot). add_into (find (is_slot_of item (unwrap_or instance (negsuc 0))) slots) number) (slots_are (now v).words)

-- an act that is a store
abbrev pub IsStore : Option Act → Type 0
IsStore None = Unit {0}
IsStore (Some act) = is_load act ≡ false

pub swap_stores : (texts : List (ℕ × List ℕ)) (slot : Option Slot) (value : Given) → IsStore (swap_among texts slot value)
swap_stores texts None value = tt
swap_stores texts (Some slot) value = by_value (value_among texts slot.kind value)
  where
    by_value : (o : Option ℕ) → IsStore (option_map (Swap slot.word) o)
    by_value None = tt
    by_value (Some n) = refl

pub add_stores : (slot : Option Slot) (number : ℤ) → IsStore (add_into slot number)
add_stores None number = tt
add_stores (Some slot) number = by_test (holds_number slot.kind)
  where
    by_test : (b : Bool) → IsStore (if b then Some (Add slot.word (low_bits number)) else None)
    by_test true = refl
    by_test false = tt

-- Looking

reads_grow : (v w : View) (found : List (ℕ × ℕ)) → Reads mmv v found w → Grows v w
reads_grow v w [] r = subst (λ (x : View). Grows v x) (sym r) (grows_refl v)
reads_grow v w (x ∷ xs) r = grows_trans v r.0 w (grows_step v r.0 (Load x.0) x.1 r.1) (reads_grow r.0 w xs r.2)

pub loads_grow : (v w : View) → Loads v w → Grows v w
loads_grow v w l = reads_grow v w l.0 l.1

-- what looks leave of an attached pass
record LooksLeave (r : ScriptRegion) (logger k : ℕ) (v w : View) (doing : List Doing) : Type 0 where
  seen : region_seen r logger w doing ≡ region_seen r logger v doing
  number : w.number ≡ k
  mode : w.mode ≡ Attached
  there : IsIn Attached (now w) k

or_true : (b : Bool) → (b || true) ≡ true
or_true true = refl
or_true false = refl

is_look_inside : (s : State) (logger k i : ℕ) → IsIn Attached s k → is_look s logger (entry k (Load i)) ≡ true
is_look_inside s logger k i there =
    ap (λ (o : Option Mode). eqb k logger || is_attached o) (get_at s.modes k Attached there) ∙ or_true (eqb k logger)

reads_leave : (r : ScriptRegion) (logger k : ℕ) (v w : View) (found : List (ℕ × ℕ)) (doing : List Doing) → v.number ≡ k → v.mode ≡ Attached → IsIn Attached (now v) k → Reads mmv v found w → Quiet v w → LooksLeave r logger k v w doing
reads_leave r logger k v w [] doing number mode there reads q =
    subst (λ (x : View). LooksLeave r logger k v x doing) (sym reads) (record { seen = refl; number = number; mode = mode; there = there })
reads_leave r logger k v w (x ∷ xs) doing number mode there reads q =
    let u : View = reads.0 in
    let first : Grows v u = grows_step v u (Load x.0) x.1 reads.1 in
    let last : Grows u w = reads_grow u w xs reads.2 in
    let l : Left v u (Load x.0) x.1 = left_by v u (Load x.0) x.1 reads.1 (quiet_first v u w first last q) in
    let look : is_look (now v) logger (entry v.number (Load x.0)) ≡ true = subst (λ (j : ℕ). is_look (now v) logger (entry j (Load x.0)) ≡ true) (sym number) (is_look_inside (now v) logger k x.0 there) in
    let mode_then : u.mode ≡ Attached = l.mode ∙ mode in
    let there_then : IsIn Attached (now u) k = subst (λ (j : ℕ). IsIn Attached (now u) j) number (subst (λ (m : Mode). IsIn m (now u) v.number) mode_then l.there) in
    let rest : LooksLeave r logger k u w doing = reads_leave r logger k u w xs doing (l.number ∙ number) mode_then there_then reads.2 (quiet_last v u w first last q) in
    record { seen = rest.seen ∙ looked r logger v u x.0 x.1 doing l look; number = rest.number; mode = rest.mode; there = rest.there }

-- so a region whose pass looked stays
leaves_by : (region : MadeRegion) (logger k : ℕ) (old : Token) (w : View) (r : ScriptRegion) → IsAtWork region logger k (workers.Inside old) r → Loads old.view w → Quiet old.view w → LooksLeave r logger k old.view w r.doing
leaves_by region logger k old w r at loads q =
    let mode : old.view.mode ≡ Attached = at.is_worker.in_mode.mode_is in
    reads_leave r logger k old.view w loads.0 r.doing at.is_worker.number_is mode (subst (λ (m : Mode). IsIn m (now old.view) k) mode at.there) loads.1 q

still_there : (region : MadeRegion) (logger k : ℕ) (old new : Token) (r : ScriptRegion) → IsAtWork region logger k (workers.Inside old) r → Loads old.view new.view → Quiet old.view new.view → r ≡ region_by r logger k (workers.Inside new)
still_there region logger k old new r at loads q =
    let l : LooksLeave r logger k old.view new.view r.doing = leaves_by region logger k old new.view r at loads q in
    at.is ∙ (sym l.seen ∙ ap (λ (d : List Doing). region_seen r logger new.view d) (sym (set_there r.doing k Doing.attached at.doing)))

moved_or_not : (region : MadeRegion) (k : ℕ) (old new : Token) → (new ≡ old) ⊎ IsSame Attached Attached old new → IsPassOf region k Attached old → IsPassOf region k Attached new
moved_or_not region k old new stays p = ⊎_elim (λ (e : new ≡ old). subst (λ (t : Token). IsPassOf region k Attached t) (sym e) p) (λ (s : IsSame Attached Attached old new). moved region k Attached Attached old new s p) stays

pub looked_only : (region : MadeRegion) (old new : Token) → Loads old.view new.view → (new ≡ old) ⊎ IsSame Attached Attached old new → Rests region (workers.Inside old) (workers.Inside new)
looked_only region old new loads stays = record {
  stays = λ k p. moved_or_not region k old new stays p;
  grows = loads_grow old.view new.view loads;
  same = λ logger k r at q. still_there region logger k old new r at loads q;
}

-- a step that stores this
abbrev pub StoresSo : Step → View → Option Act → Type 0
StoresSo step v act = (r : ScriptRegion) (k : ℕ) → r.state ≡ now v → step r k Doing.attached ≡ steps.stores r k act

abbrev pub line_if : Bool → Option Said
line_if true = Some said.Nothing
line_if false = None

pub stored_works : (region : MadeRegion) (step : Step) (old new : Token) (act : Option Act) (answer : Bool) → StoresSo step old.view act → IsStore act → StoresOrLoads act old.view new.view answer → (new ≡ old) ⊎ IsSame Attached Attached old new
    → Works region step (workers.Inside old) (workers.Inside new) (line_if answer)
stored_works region step old new None false so is_store loads stays = record {
  stays = λ k p. moved_or_not region k old new stays p;
  grows = loads_grow old.view new.view loads;
  does = λ logger k r at q. (so r k (ap (λ (x : ScriptRegion). x.state) at.is), still_there region logger k old new r at loads q);
}
stored_works region step old new None true so is_store none stays = absurd none
stored_works region step old new (Some act) false so is_store none stays = absurd none
stored_works region step old new (Some act) true so is_store s stays = record {
  stays = λ k p. moved_or_not region k old new stays p;
  grows = grows_trans old.view s.middle new.view before last;
  does = λ logger k r at q. does_it logger k r at q;
}
  where
    before : Grows old.view s.middle
    before = loads_grow old.view s.middle s.looks

    last : Grows s.middle new.view
    last = grows_step s.middle new.view act s.n s.acts

    does_it : (logger k : ℕ) (r : ScriptRegion) → IsAtWork region logger k (workers.Inside old) r → Quiet old.view new.view → step r k Doing.attached ≡ Some (region_by r logger k (workers.Inside new), [])
    does_it logger k r at q =
        let l : LooksLeave r logger k old.view s.middle r.doing = leaves_by region logger k old s.middle r at s.looks (quiet_first old.view s.middle new.view before last q) in
        let m : Left s.middle new.view act s.n = left_by s.middle new.view act s.n s.acts (quiet_last old.view s.middle new.view before last q) in
        let look : is_look (now s.middle) logger (entry k act) ≡ false = ap (λ (b : Bool). b && (eqb k logger || is_attached (slice_get (now s.middle).modes k))) is_store in
        so r k (ap (λ (x : ScriptRegion). x.state) at.is)
        ∙ (ap (λ (x : ScriptRegion). Some (with_act x k act, [])) (at.is ∙ sym l.seen)
        ∙ (ap (λ (x : ScriptRegion). Some (x, [])) (acts r logger k s.middle new.view act s.n r.doing l.number m look)
        ∙ ap (λ (d : List Doing). Some (region_seen r logger new.view d, [])) (sym (set_there r.doing k Doing.attached at.doing))))

pub swaps_so : (v : View) (item : ℕ) (instance : Option ℤ) (value : Given) → StoresSo (λ r k doing. steps.swaps r k item instance value doing) v (swap_seen v item instance value)
swaps_so v item instance value r k e = ap (λ (o : Option Act). steps.stores r k o) (ap (λ (s : State). swap_of s.words item instance value) e ∙ swap_same v item instance value)

pub adds_so : (v : View) (item : ℕ) (instance : Option ℤ) (number : ℤ) → StoresSo (λ r k doing. steps.adds r k item instance number doing) v (add_seen v item instance number)
adds_so v item instance number r k e = ap (λ (o : Option Act). steps.stores r k o) (ap (λ (s : State). add_of s.words item instance number) e ∙ add_same v item instance number)

-- a pass that isn't attached stores nothing
pub no_swap : (region : MadeRegion) (item : ℕ) (instance : Option ℤ) (value : Given) (w : Worker) → ((x : Token) → w ≡ workers.Inside x → ⊥) → Works region (λ r k doing. steps.swaps r k item instance value doing) w w None
no_swap region item instance value (workers.Idle pass) other = no_step region (λ r k doing. steps.swaps r k item instance value doing) (workers.Idle pass) (λ r k. refl)
no_swap region item instance value (workers.Inside stint) other = absurd (other stint refl)
no_swap region item instance value (workers.Changing change) other = no_step region (λ r k doing. steps.swaps r k item instance value doing) (workers.Changing change) (λ r k. refl)
no_swap region item instance value (workers.Reading reading) other = no_step region (λ r k doing. steps.swaps r k item instance value doing) (workers.Reading reading) (λ r k. refl)
no_swap region item instance value workers.Away other = no_step region (λ r k doing. steps.swaps r k item instance value doing) workers.Away (λ r k. refl)

pub no_add : (region : MadeRegion) (item : ℕ) (instance : Option ℤ) (number : ℤ) (w : Worker) → ((x : Token) → w ≡ workers.Inside x → ⊥) → Works region (λ r k doing. steps.adds r k item instance number doing) w w None
no_add region item instance number (workers.Idle pass) other = no_step region (λ r k doing. steps.adds r k item instance number doing) (workers.Idle pass) (λ r k. refl)
no_add region item instance number (workers.Inside stint) other = absurd (other stint refl)
no_add region item instance number (workers.Changing change) other = no_step region (λ r k doing. steps.adds r k item instance number doing) (workers.Changing change) (λ r k. refl)
no_add region item instance number (workers.Reading reading) other = no_step region (λ r k doing. steps.adds r k item instance number doing) (workers.Reading reading) (λ r k. refl)
no_add region item instance number workers.Away other = no_step region (λ r k doing. steps.adds r k item instance number doing) workers.Away (λ r k. refl)

-- What the functions found

pub text_value : (texts : List (ℕ × List ℕ)) (kind : Kind) (value : Given) (text : List ℕ) (answer : Result (Option ℕ) NoMemory) → kind ≡ kinds.Text → value ≡ given.Choice text
    → IfOk answer (λ found. found ≡ text_among texts text) → IfOk answer (λ found. found ≡ value_among texts kind value)
text_value texts kind value text (Ok found) is_text is_choice e = e ∙ (λ i. value_among texts (sym is_text i) (sym is_choice i))
text_value texts kind value text (Err fault) is_text is_choice e = tt

pub slot_still : (v w : View) (item : ℕ) (instance : Option ℤ) (slot : Option Slot) → form_seen w ≡ form_seen v → slot_seen v item instance ≡ slot → slot_seen w item instance ≡ slot
slot_still v w item instance slot same e = ap (λ (form : Form). find (is_slot_of item (unwrap_or instance (negsuc 0))) form.slots) same ∙ e

pub loads_both : (v u w : View) → Loads v u → Loads u w → Loads v w
loads_both v u w a b = (a.0 ++ b.0, all v a.0 a.1)
  where
    all : (v : View) (found : List (ℕ × ℕ)) → Reads mmv v found u → Reads mmv v (found ++ b.0) w
    all v [] r = subst (λ (x : View). Reads mmv x b.0 w) r b.1
    all v (x ∷ xs) r = (r.0, r.1, all r.0 xs r.2)

pub swap_not : (v u w : View) (item : ℕ) (instance : Option ℤ) (slot : Slot) (value : Given) → slot_seen v item instance ≡ Some slot → form_seen u ≡ form_seen v → None ≡ value_among (texts_seen u) slot.kind value → Loads v u → Loads u w
    → StoresOrLoads (swap_seen v item instance value) v w false
swap_not v u w item instance slot value found same none a b =
    let act : swap_seen v item instance value ≡ None =
    ap (λ (o : Option Slot). swap_among (texts_seen v) o value) found
    ∙ ap (λ (o : Option ℕ). option_map (Swap slot.word) o) (ap (λ (ts : List (ℕ × List ℕ)). value_among ts slot.kind value) (sym (texts_same v u same)) ∙ sym none) in
    subst (λ (o : Option Act). StoresOrLoads o v w false) (sym act) (loads_both v u w a b)

pub swap_done : (v u m w : View) (item : ℕ) (instance : Option ℤ) (slot : Slot) (value : Given) (x n : ℕ) → slot_seen v item instance ≡ Some slot → form_seen u ≡ form_seen v → Some x ≡ value_among (texts_seen u) slot.kind value → Loads v u → Loads u m
    → Extends mmv m (Swap slot.word x) n w → StoresOrLoads (swap_seen v item instance value) v w true
swap_done v u m w item instance slot value x n found same some a b e =
    let act : swap_seen v item instance value ≡ Some (Swap slot.word x) =
    ap (λ (o : Option Slot). swap_among (texts_seen v) o value) found
    ∙ ap (λ (o : Option ℕ). option_map (Swap slot.word) o) (ap (λ (ts : List (ℕ × List ℕ)). value_among ts slot.kind value) (sym (texts_same v u same)) ∙ sym some) in
    subst (λ (o : Option Act). StoresOrLoads o v w true) (sym act) (record { middle = m; looks = loads_both v u m a b; n = n; acts = e })

pub stored_answer : (region : MadeRegion) (step : Step) (old new : Token) (act : Option Act) (stored : Result Bool NoMemory) (answer : Result (Option Said) NoMemory) → answer ≡ said_of stored → StoresSo step old.view act → IsStore act
    → MatchResult stored (StoresOrLoads act old.view new.view) (λ _. Loads old.view new.view) → (new ≡ old) ⊎ IsSame Attached Attached old new
    → MatchResult answer (λ line. Works region step (workers.Inside old) (workers.Inside new) line) (λ _. Rests region (workers.Inside old) (workers.Inside new))
stored_answer region step old new act stored answer e so is_store did stays =
    subst (λ (a : Result (Option Said) NoMemory). MatchResult a (λ line. Works region step (workers.Inside old) (workers.Inside new) line) (λ _. Rests region (workers.Inside old) (workers.Inside new))) (sym e) (by_case stored did)
  where
    by_case : (stored : Result Bool NoMemory) → MatchResult stored (StoresOrLoads act old.view new.view) (λ _. Loads old.view new.view)
        → MatchResult (said_of stored) (λ line. Works region step (workers.Inside old) (workers.Inside new) line) (λ _. Rests region (workers.Inside old) (workers.Inside new))
    by_case (Ok true) d = stored_works region step old new act true so is_store d stays
    by_case (Ok false) d = stored_works region step old new act false so is_store d stays
    by_case (Err fault) d = looked_only region old new d stays
