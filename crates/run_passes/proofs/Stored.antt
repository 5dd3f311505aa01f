-- What a swap or an add of an attached pass makes: it looks at the layout, and stores what the words say in the state in which its
-- store stands.
use Rattle.std.proofs.Common.{◌≡◌, ◌⊎◌, inl, inr, ℕ, ℤ, negsuc, Bool, true, false, List, [], ◌∷◌, ◌++◌, All, find, unwrap_or, Option, Some, None, Result, Ok, Err, append_assoc, sym, refl, ap, ◌∙◌, subst}
use Rattle.std.specs.List.{zip}
use Rattle.std.specs.Prelude.{MatchResult}
use Rattle.std.proofs.lemmas.List.Elements.{All-nil}
use Rattle.pcp_base.specs.declared.memory.NoMemory.{NoMemory}
use Rattle.mmv_layout.specs.Form.{Form, is_slot_of}
use Rattle.region_core.specs.declared.act.Act.{Act}
use Rattle.region_core.specs.declared.act.Act.TheVariants.{Load}
use Rattle.region_core.specs.declared.act.Entry.{Entry}
use Rattle.region_core.specs.declared.mode.Mode.{Mode}
use Rattle.region_core.specs.declared.mode.Mode.TheVariants.{Attached}
use Rattle.region_core.specs.State.{State, IsIn}
use Rattle.region_core.specs.Journal.{state, own, IsJournal}
use Rattle.region_core.proofs.Journals.{state-append, legal-front}
use Rattle.region_rule.specs.declared.view.View.{View}
use Rattle.region_rule.specs.Views.{opening_of, now}
use Rattle.region_rule.specs.Steps.{entry, Extends}
use Rattle.region_rule.specs.Seats.{MadeRegion, Token, IsSame}
use Rattle.region_rule.specs.Reads.{Reads}
use Rattle.region_rule.proofs.Lawful.{stays_inside, steps_inside}
use Rattle.region_words.specs.Calls.{form_seen, Loads}
use Rattle.region_words.specs.Images.{mmv, mmv_laws}
use Rattle.run_script.specs.declared.lines.Given.{Given}
use Rattle.script_runs.specs.Journals.{is_load}
use Rattle.script_runs.specs.Slots.{swap_of, add_of, add_into}
use Rattle.run_passes.specs.Storing.{StoresOrLoads, LooksThenActs, swap_among, swap_seen, add_seen}
use Rattle.run_passes.specs.Workers.{IsPassOf}
use Rattle.run_passes.proofs.Slotted.{swap_same, add_same}
use Rattle.run_passes.proofs.Calling.{moved}
use Rattle.run_passes.specs.declared.writer.Writer.TheVariants as writers
use Rattle.run_passes.specs.LineEntries.{Writing, Looks, Stores}
use Rattle.run_passes.specs.Writers.{Did, Grew, IsInside, StaysWriter, answer_of}
use Rattle.run_passes.proofs.Entries.{Looked, loads_looked, looks_both, grew_step, grew_trans, now_grown}

-- what words say, as a view sees it; it follows the form alone
pub record Tells (what : List ℕ → Option Act) (seen : View → Option Act) : Type 0 where
  pub same : (v : View) → what (now v).words ≡ seen v
  pub by_form : (v w : View) → form_seen w ≡ form_seen v → seen w ≡ seen v

pub tells_swap : (item : ℕ) (instance : Option ℤ) (value : Given) → Tells (λ words. swap_of words item instance value) (λ v. swap_seen v item instance value)
tells_swap item instance value = record {
  same = λ v. swap_same v item instance value;
  by_form = λ v w e. ap (λ (f : Form). swap_among (zip f.offsets f.strings) (find (is_slot_of item (unwrap_or instance (negsuc 0))) f.slots) value) e;
}

pub tells_add : (item : ℕ) (instance : Option ℤ) (number : ℤ) → Tells (λ words. add_of words item instance number) (λ v. add_seen v item instance number)
tells_add item instance number = record {
  same = λ v. add_same v item instance number;
  by_form = λ v w e. ap (λ (f : Form). add_into (find (is_slot_of item (unwrap_or instance (negsuc 0))) f.slots) number) e;
}

-- Looks of an attached pass leave it attached, and the form as it was seen

pub record StillInside (v w : View) : Type 0 where
  pub form : form_seen w ≡ form_seen v
  pub mode : w.mode ≡ Attached
  pub there : IsIn w.mode (now w) w.number

reads_still : (v w : View) (found : List (ℕ × ℕ)) → v.mode ≡ Attached → IsIn v.mode (now v) v.number → Reads mmv v found w → StillInside v w
reads_still v w [] mode there r = subst (λ (x : View). StillInside v x) (sym r) (record { form = refl; mode = mode; there = there })
reads_still v w (x ∷ xs) mode there r =
    let u : View = r.0 in
    let e : Extends mmv v (Load x.0) x.1 u = r.1 in
    let first : form_seen u ≡ form_seen v = steps_inside mmv mmv_laws v u (Load x.0) x.1 e mode there in
    let rest : StillInside u w = reads_still u w xs (ap (λ (y : View). y.mode) e.is ∙ mode) e.mode r.2 in
    record { form = rest.form ∙ first; mode = rest.mode; there = rest.there }

pub loads_still : (v w : View) → v.mode ≡ Attached → IsIn v.mode (now v) v.number → Loads v w → StillInside v w
loads_still v w mode there l = reads_still v w l.0 mode there l.1

-- What was stored

pub record StoredSo (v w : View) (what : List ℕ → Option Act) : Type 0 where
  pub more : List Entry
  pub grew : Grew v more w
  pub stores : Stores v.number (now v) what more
  pub there : IsIn w.mode (now w) w.number

looks_none : (k : ℕ) (es : List Entry) → own k es ≡ [] → Looks k es
looks_none k es e = subst (λ (l : List Entry). All (λ (x : Entry). is_load x.act ≡ true) l) (sym e) (All-nil (λ (x : Entry). is_load x.act ≡ true))

module _ (v w : View) (what : List ℕ → Option Act) (seen : View → Option Act) (tells : Tells what seen) (mode : v.mode ≡ Attached) (there : IsIn v.mode (now v) v.number) where
  stored_act : (act : Act) → seen v ≡ Some act → LooksThenActs v act w → StoredSo v w what
  stored_act act is l =
      let middle : View = l.middle in
      let e : Extends mmv middle act l.n w = l.acts in
      let looked : Looked v middle = loads_looked v middle l.looks in
      let still : StillInside v middle = loads_still v middle mode there l.looks in
      let number : middle.number ≡ v.number = looked.grew.number in
      let before : List Entry = looked.more ++ e.between in
      let others : own v.number e.between ≡ [] = subst (λ (k : ℕ). own k e.between ≡ []) number e.others in
      let later : View = record middle { seen = middle.seen ++ e.between } in
      let journal : IsJournal mmv middle.start middle.passes (middle.seen ++ e.between) =
      record { image = e.journal.image; wide = e.journal.wide; few = e.journal.few; legal = legal-front mmv (opening_of middle) (middle.seen ++ e.between) (entry middle.number act ∷ []) e.journal.legal } in
      let form : form_seen later ≡ form_seen v = stays_inside mmv mmv_laws middle e.between journal e.others still.mode still.there ∙ still.form in
      let state_is : state (now v) before ≡ now later =
      state-append (now v) looked.more e.between ∙ (ap (λ (s : State). state s e.between) (sym (now_grown v middle looked.more looked.grew)) ∙ sym (state-append (opening_of middle) middle.seen e.between)) in
      record {
        more = looked.more ++ (e.between ++ entry middle.number act ∷ []);
        grew = grew_trans v middle w looked.more (e.between ++ entry middle.number act ∷ []) looked.grew (grew_step middle w act l.n e);
        stores = inl (record {
          before = before;
          looks = looks_both v.number looked.more e.between looked.looks (looks_none v.number e.between others);
          act = act;
          is = ap (λ (s : State). what s.words) state_is ∙ (tells.same later ∙ (tells.by_form v later form ∙ is));
          last = sym (append_assoc looked.more e.between (entry middle.number act ∷ [])) ∙ ap (λ (k : ℕ). before ++ entry k act ∷ []) number;
        });
        there = e.mode;
      }

  stored_none : seen v ≡ None → Loads v w → StoredSo v w what
  stored_none is l =
      let looked : Looked v w = loads_looked v w l in
      let still : StillInside v w = loads_still v w mode there l in
      record {
        more = looked.more;
        grew = looked.grew;
        stores = inr (record { looks = looked.looks; none = ap (λ (s : State). what s.words) (sym (now_grown v w looked.more looked.grew)) ∙ (tells.same w ∙ (tells.by_form v w still.form ∙ is)) });
        there = still.there;
      }

  pub stored_so : (o : Option Act) (b : Bool) → seen v ≡ o → StoresOrLoads o v w b → StoredSo v w what
  stored_so (Some act) true is s = stored_act act is s
  stored_so (Some act) false is s = absurd s
  stored_so None true is s = absurd s
  stored_so None false is s = stored_none is s

-- An attached pass stays one

pub moved_or_not : (region : MadeRegion) (k : ℕ) (old new : Token) → (new ≡ old) ⊎ IsSame Attached Attached old new → IsPassOf region k Attached old → IsPassOf region k Attached new
moved_or_not region k old new (inl e) p = subst (λ (t : Token). IsPassOf region k Attached t) (sym e) p
moved_or_not region k old new (inr s) p = moved region k Attached Attached old new s p

there_for : (k : ℕ) (region : MadeRegion) (stint : Token) → IsPassOf region k Attached stint → IsIn stint.view.mode (now stint.view) stint.view.number → IsIn Attached (now stint.view) k
there_for k region stint p there =
    subst (λ (j : ℕ). IsIn Attached (now stint.view) j) p.number_is (subst (λ (m : Mode). IsIn m (now stint.view) stint.view.number) p.in_mode.mode_is there)

there_of : (k : ℕ) (region : MadeRegion) (stint : Token) → IsInside region k stint → IsIn stint.view.mode (now stint.view) stint.view.number
there_of k region stint p =
    subst (λ (j : ℕ). IsIn stint.view.mode (now stint.view) j) (sym p.0.number_is) (subst (λ (m : Mode). IsIn m (now stint.view) k) (sym p.0.in_mode.mode_is) p.1)

-- what a store makes of a writer
pub stored_did : (region : MadeRegion) (old new : Token) (what : List ℕ → Option Act) (seen : View → Option Act) (o : Option Act) (b : Bool) → Tells what seen → seen old.view ≡ o → (k : ℕ) × IsInside region k old
    → StoresOrLoads o old.view new.view b → (new ≡ old) ⊎ IsSame Attached Attached old new
    → Did region (λ k s entries next. (Writing.attached ≡ Writing.attached) × Stores k s what entries × (next ≡ Writing.attached)) (writers.Inside old) (writers.Inside new)
stored_did region old new what seen o b tells is here stored stays =
    let so : StoredSo old.view new.view what = stored_so old.view new.view what seen tells here.1.0.in_mode.mode_is (there_of here.0 region old here.1) o b is stored in
    record {
      stays = λ k p. let q = moved_or_not region k old new stays p.0 in (q, there_for k region new q so.there);
      more = so.more;
      grew = so.grew;
      is = (refl, so.stores, refl);
    }

-- where memory was refused it only looked
pub looked_stays : (region : MadeRegion) (old new : Token) → Loads old.view new.view → (new ≡ old) ⊎ IsSame Attached Attached old new → StaysWriter region (writers.Inside old) (writers.Inside new)
looked_stays region old new loads stays k p =
    let still : StillInside old.view new.view = loads_still old.view new.view p.0.in_mode.mode_is (there_of k region old p) loads in
    let q = moved_or_not region k old new stays p.0 in
    (q, there_for k region new q still.there)

pub stored_answer : (region : MadeRegion) (old new : Token) (what : List ℕ → Option Act) (seen : View → Option Act) (stored : Result Bool NoMemory) (answer : Result (Unit {0}) NoMemory) → answer ≡ answer_of stored → Tells what seen → (k : ℕ) × IsInside region k old
    → MatchResult stored (StoresOrLoads (seen old.view) old.view new.view) (λ _. Loads old.view new.view) → (new ≡ old) ⊎ IsSame Attached Attached old new
    → MatchResult answer (λ _. Did region (λ k s entries next. (Writing.attached ≡ Writing.attached) × Stores k s what entries × (next ≡ Writing.attached)) (writers.Inside old) (writers.Inside new)) (λ _. StaysWriter region (writers.Inside old) (writers.Inside new))
stored_answer region old new what seen stored answer e tells here done stays =
    subst (λ (a : Result (Unit {0}) NoMemory). MatchResult a (λ _. Did region (λ k s entries next. (Writing.attached ≡ Writing.attached) × Stores k s what entries × (next ≡ Writing.attached)) (writers.Inside old) (writers.Inside new)) (λ _. StaysWriter region (writers.Inside old) (writers.Inside new))) (sym e) (by_answer stored done)
  where
    by_answer : (r : Result Bool NoMemory) → MatchResult r (StoresOrLoads (seen old.view) old.view new.view) (λ _. Loads old.view new.view)
        → MatchResult (answer_of r) (λ _. Did region (λ k s entries next. (Writing.attached ≡ Writing.attached) × Stores k s what entries × (next ≡ Writing.attached)) (writers.Inside old) (writers.Inside new)) (λ _. StaysWriter region (writers.Inside old) (writers.Inside new))
    by_answer (Ok b) d = stored_did region old new what seen (seen old.view) b tells refl here d stays
    by_answer (Err x) d = looked_stays region old new d stays
