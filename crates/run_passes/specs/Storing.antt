-- What an attached pass finds of the layout that it has seen, and stores.
use Rattle.std.specs.Prelude.{◌≡◌, ◌⊎◌, ℕ, ℤ, negsuc, Bool, true, false, List, find, bytes_eq, option_map, Option, Some, None, Result, Ok, Err, unwrap_or}
use Rattle.std.specs.List.{zip}
use Rattle.pcp_base.specs.declared.memory.NoMemory.{NoMemory}
use Rattle.pcp_base.specs.declared.kind.Kind.{Kind}
use Rattle.pcp_base.specs.declared.kind.Kind.TheVariants as kinds
use Rattle.mmv_layout.specs.declared.rows.Slot.{Slot}
use Rattle.mmv_layout.specs.Form.{is_slot_of}
use Rattle.region_core.specs.declared.act.Act.{Act}
use Rattle.region_core.specs.declared.act.Act.TheVariants.{Swap}
use Rattle.region_rule.specs.declared.view.View.{View}
use Rattle.region_core.specs.declared.mode.Mode.TheVariants.{Attached}
use Rattle.region_rule.specs.Seats.{Token, IsSame}
use Rattle.region_rule.specs.Steps.{Extends}
use Rattle.region_words.specs.Calls.{form_seen, Loads}
use Rattle.region_words.specs.Images.{mmv}
use Rattle.run_script.specs.declared.lines.Given.{Given}
use Rattle.run_script.specs.declared.lines.Given.TheVariants as given
use Rattle.script_runs.specs.Slots.{number_for, add_into}
use Rattle.run_passes.specs.declared.said.Said.{Said}
use Rattle.run_passes.specs.declared.said.Said.TheVariants as said

-- the strings of what a pass has seen, with their offsets
abbrev pub texts_seen : View → List (ℕ × List ℕ)
texts_seen v = zip (form_seen v).offsets (form_seen v).strings

-- the slot of an item and an instance among those that it has seen
abbrev pub slot_seen : View → ℕ → Option ℤ → Option Slot
slot_seen v item instance = find (is_slot_of item (unwrap_or instance (negsuc 0))) (form_seen v).slots

-- the offset of the first string with a text
abbrev pub text_among : List (ℕ × List ℕ) → List ℕ → Option ℕ
text_among texts text = option_map (λ found. found.0) (find (λ found. bytes_eq found.1 text) texts)

abbrev pub text_or_none : Kind → List (ℕ × List ℕ) → List ℕ → Option ℕ
text_or_none kinds.Text texts text = text_among texts text
text_or_none _ texts text = None

-- what a slot of this kind is given
abbrev pub value_among : List (ℕ × List ℕ) → Kind → Given → Option ℕ
value_among texts kind (given.Number n) = number_for kind n
value_among texts kind (given.Choice text) = text_or_none kind texts text

abbrev pub swap_among : List (ℕ × List ℕ) → Option Slot → Given → Option Act
swap_among texts None value = None
swap_among texts (Some slot) value = option_map (Swap slot.word) (value_among texts slot.kind value)

-- the swap, and the add, by what a pass has seen
abbrev pub swap_seen : View → ℕ → Option ℤ → Given → Option Act
swap_seen v item instance value = swap_among (texts_seen v) (slot_seen v item instance) value

abbrev pub add_seen : View → ℕ → Option ℤ → ℤ → Option Act
add_seen v item instance number = add_into (slot_seen v item instance) number

-- the pass did nothing but look
pub record Looks (old new : Token) : Type 0 where
  pub loads : Loads old.view new.view
  pub form : form_seen new.view ≡ form_seen old.view
  pub stays : (new ≡ old) ⊎ IsSame Attached Attached old new

-- the pass looked, and then it stored where there is something to store
pub record LooksThenActs (v : View) (act : Act) (w : View) : Type 0 where
  pub middle : View
  pub looks : Loads v middle
  pub n : ℕ
  pub acts : Extends mmv middle act n w

abbrev pub StoresOrLoads : Option Act → View → View → Bool → Type 0
StoresOrLoads (Some act) v w true = LooksThenActs v act w
StoresOrLoads None v w false = Loads v w
StoresOrLoads _ v w _ = ⊥

-- what a store says
abbrev pub said_of : Result Bool NoMemory → Result (Option Said) NoMemory
said_of (Ok true) = Ok (Some said.Nothing)
said_of (Ok false) = Ok None
said_of (Err fault) = Err fault
