-- The value words and strings of words whose form is known.
use Rattle.std.proofs.Common.{◌≡◌, ℕ, zero, suc, ◌<◌, List, [], ◌∷◌, Result, Ok, Err, IfOk, Some, All, Contains, map, length, get_or, slice_get, sym, refl, ap, ◌∙◌, subst, arith}
use Rattle.std.proofs.lemmas.List.Elements.{All-nil, All-cons}
use Rattle.std.proofs.lemmas.Option.{slice_get_within, get_or_from_slice_get}
use Rattle.pcp_base.specs.declared.kind.Kind.{Kind}
use Rattle.pcp_base.specs.declared.kind.Kind.TheVariants as kinds
use Rattle.pcp_base.specs.declared.memory.NoMemory.{NoMemory}
use Rattle.mmv_layout.specs.Images.{IsImage}
use Rattle.mmv_layout.specs.declared.rows.Slot.{Slot}
use Rattle.mmv_layout.specs.Form.{slots_of, texts_of, Form, form_of}
use Rattle.mmv_layout.specs.ShapeLaws.{TakesAs}
use Rattle.mmv_layout.proofs.FormSays.{texts_said}
use Rattle.mmv_layout.proofs.SlotFacts.{slot_lies}
use Rattle.region_rule.specs.declared.view.View.{View}
use Rattle.region_rule.specs.Views.{fresh_view}
use Rattle.region_rule.specs.Seats.{MadeRegion, Token}
use Rattle.region_rule.specs.Calls.{fresh_from, Opens, TakesValue, TakesAll}
use Rattle.region_words.specs.Images.{mmv}
use Rattle.region_words.specs.Calls.{form_seen, IsNumber, NumbersTakeAll, SlotsTakeOffsets, WordsTellTheForm}

-- the value words are the form's
pub slots_inside : (words : List ℕ) (form : Form) → form_of words ≡ form → slots_of words ≡ form.slots
unfolding form_of
slots_inside words form e = ap (λ (f : Form). f.slots) e

-- and the strings with their offsets
pub texts_inside : (words : List ℕ) (form : Form) → form_of words ≡ form → (map (λ text. text.0) (texts_of words) ≡ form.offsets) × (map (λ text. text.1) (texts_of words) ≡ form.strings)
texts_inside words form e = let said = texts_said words in (said.0 ∙ ap (λ (f : Form). f.offsets) e, said.1 ∙ ap (λ (f : Form). f.strings) e)

-- and so of an answer
pub texts_told : (answer : Result (List (ℕ × List ℕ)) NoMemory) (words : List ℕ) (form : Form) → form_of words ≡ form → IfOk answer (λ texts. texts ≡ texts_of words)
    → IfOk answer (λ texts. (map (λ text. text.0) texts ≡ form.offsets) × (map (λ text. text.1) texts ≡ form.strings))
texts_told (Ok texts) words form e told =
    subst (λ (ts : List (ℕ × List ℕ)). (map (λ text. text.0) ts ≡ form.offsets) × (map (λ text. text.1) ts ≡ form.strings)) (sym told) (texts_inside words form e)
texts_told (Err fault) words form e told = tt

there : (slots : List Slot) (k : ℕ) (d e : Slot) → k < length slots → get_or slots k e ≡ get_or slots k d
there [] k d e h = absurd (omega arith)
there (x ∷ xs) zero d e h = refl
there (x ∷ xs) (suc k) d e h = there xs k d e (omega arith)

-- each value word is one of the words
pub slots_below : (words : List ℕ) → IsImage words → All (λ (slot : Slot). slot.word < length words) (slots_of words)
slots_below words image k d h = let lies = slot_lies words (get_or (slots_of words) k d) image (k, h, there (slots_of words) k d (get_or (slots_of words) k d) h) in lies.1

takes_any : (kind : Kind) (offsets : List ℕ) (value : ℕ) → IsNumber kind → TakesAs kind offsets value
takes_any kinds.I32 offsets value n = tt
takes_any kinds.U32 offsets value n = tt
takes_any kinds.I64 offsets value n = tt
takes_any kinds.U64 offsets value n = tt
takes_any kinds.Float offsets value n = absurd n
takes_any kinds.Double offsets value n = absurd n
takes_any kinds.Text offsets value n = absurd n
takes_any kinds.Elapsed offsets value n = absurd n

takes_offset : (kind : Kind) (offsets : List ℕ) (value : ℕ) → Contains offsets value → TakesAs kind offsets value
takes_offset kinds.I32 offsets value n = tt
takes_offset kinds.U32 offsets value n = tt
takes_offset kinds.I64 offsets value n = tt
takes_offset kinds.U64 offsets value n = tt
takes_offset kinds.Float offsets value n = tt
takes_offset kinds.Double offsets value n = tt
takes_offset kinds.Text offsets value n = n
takes_offset kinds.Elapsed offsets value n = tt

-- the value word of a number takes every value
pub numbers_take : NumbersTakeAll
numbers_take v slot among number x fits = record { slot = slot; among = among; stands = refl; takes = takes_any slot.kind (form_seen v).offsets x number }

-- and each value word the offset of a string
pub slots_take : SlotsTakeOffsets
slots_take v slot offset among string = record { slot = slot; among = among; stands = refl; takes = takes_offset slot.kind (form_seen v).offsets offset string }

-- words that were loaded inside tell the form of what was seen
pub words_tell : WordsTellTheForm
words_tell v w words reads = let texts = texts_inside words (form_seen w) reads.form in (slots_inside words (form_seen w) reads.form, texts.0)

-- the slot that was looked up is one of the form's, and takes what its kind lets it
found : {X : Type 0} (xs : List X) (k : ℕ) (x : X) → slice_get xs k ≡ Some x → Contains xs x
found xs k x e = (k, slice_get_within xs k x e, get_or_from_slice_get xs k x x e)

pub number_taken : (v : View) (slots : List Slot) (k : ℕ) (slot : Slot) → slots ≡ (form_seen v).slots → slice_get slots k ≡ Some slot → IsNumber slot.kind → TakesAll mmv v slot.word
number_taken v slots k slot e there number = numbers_take v slot (subst (λ (xs : List Slot). Contains xs slot) e (found slots k slot there)) number

pub text_taken : (v : View) (slots : List Slot) (k : ℕ) (slot : Slot) (offsets : List ℕ) (i offset : ℕ) → slots ≡ (form_seen v).slots → slice_get slots k ≡ Some slot → offsets ≡ (form_seen v).offsets → slice_get offsets i ≡ Some offset
    → TakesValue mmv v slot.word offset
text_taken v slots k slot offsets i offset e there told text =
    slots_take v slot offset (subst (λ (xs : List Slot). Contains xs slot) e (found slots k slot there)) (subst (λ (xs : List ℕ). Contains xs offset) told (found offsets i offset text))

-- each pass of a new region is its own
fresh_here : (region : MadeRegion) (k n : ℕ) → All (λ (t : Token). t.region ≡ region) (fresh_from region k n)
fresh_here region k zero = All-nil (λ (t : Token). t.region ≡ region)
fresh_here region k (suc n) = All-cons (λ (t : Token). t.region ≡ region) (record { region = region; view = fresh_view region.words region.passes k [] }) (fresh_from region (suc k) n) refl (fresh_here region (suc k) n)

pub opens_here : (image : List ℕ) (capacity passes : ℕ) (region : MadeRegion) (tokens : List Token) → Opens image capacity passes region tokens → All (λ (t : Token). t.region ≡ region) tokens
opens_here image capacity passes region tokens opens = subst (λ (ts : List Token). All (λ (t : Token). t.region ≡ region) ts) (sym opens.tokens_are) (fresh_here region 0 passes)
