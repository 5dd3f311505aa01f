-- What the steps of a pass add.
use Rattle.std.proofs.Common.{◌≡◌, ℕ, zero, suc, ◌==◌, Bool, true, false, if◌then◌else◌, List, [], ◌∷◌, ◌++◌, ◌≤◌, length, map, take, drop, flat_map, slice_index, get_or, ◌<◌, ◌+◌, Bor, Result, Ok, Err, IfOk, Option, None, Some, find, ap, refl, sym, ◌∙◌, subst, arith}
use Rattle.std.specs.List.{filter_map}
use Rattle.std.proofs.Math.Seq.{take-suc}
use Rattle.std.proofs.lemmas.Grind.{flat_map-append}
use Rattle.std.proofs.lemmas.List.{append-nil, map-append, take_all}
use Rattle.std.proofs.lemmas.List.Elements.{filter_map-append}
use Rattle.mmv_layout.specs.declared.rows.Slot.{Slot}
use Rattle.mmv_layout.specs.Form.{is_slot_of}
use Rattle.region_core.specs.declared.act.Act.{Act}
use Rattle.region_core.specs.declared.act.Act.TheVariants.{Load, Add, Enter, Leave, Take, Begin, Put, End, Free}
use Rattle.region_core.specs.declared.act.Entry.{Entry}
use Rattle.region_rule.specs.declared.view.View.{View}
use Rattle.region_rule.specs.Steps.{entry, Extends}
use Rattle.region_rule.specs.Seats.{Token}
use Rattle.region_rule.specs.Changes.{Acts, Relaying, last_acts, puts_at}
use Rattle.region_rule.specs.Reads.{Reads, ReadsImage, numbered_from}
use Rattle.region_rule.specs.Calls.{Detaches}
use Rattle.region_rule.specs.Waits.{BouncesTimes, AttachesAtLast, BusyTimes, StartsAtLast}
use Rattle.region_words.specs.Calls.{Loads, form_seen}
use Rattle.region_words.specs.Images.{mmv}
use Rattle.region_example.specs.declared.level.Level.{Level}
use Rattle.region_example.specs.Levels.{instance_of}
use Rattle.region_example.specs.Counts.{added, add_by, adds_of, amounts, amounts_of, back, front, word_in, word_of, Counts, CountsHalves, HasCounted}

abbrev adds_in : List Entry → List (ℕ × ℕ)
adds_in es = filter_map (λ (e : Entry). add_by e.act) es

-- a step adds what its act does
step : (v w : View) (act : Act) (n : ℕ) → Extends mmv v act n w → added w ≡ added v ++ adds_in (entry v.number act ∷ [])
step v w act n e = ap (λ (x : View). added x) e.is ∙ filter_map-append (λ (e : Entry). add_by e.act) v.own (entry v.number act ∷ [])

quiet : (v w : View) (act : Act) (n : ℕ) → add_by act ≡ None → Extends mmv v act n w → added w ≡ added v
quiet v w act n none e =
    let nothing : adds_in (entry v.number act ∷ []) ≡ [] = cc in
    step v w act n e ∙ ap (λ (more : List (ℕ × ℕ)). added v ++ more) nothing ∙ append-nil (added v)

-- an add goes to the word of the slot that was found
pub add_to : (v w : View) (slots seen : List Slot) (slot : Slot) (item amount n : ℕ) (level : Level) → Extends mmv v (Add slot.word amount) n w
    → Some slot ≡ find (is_slot_of item (instance_of level)) seen → seen ≡ slots → added w ≡ added v ++ (word_of slots item level, amount) ∷ []
add_to v w slots seen slot item amount n level e found given =
    let there : Some slot ≡ find (is_slot_of item (instance_of level)) slots = cc in
    step v w (Add slot.word amount) n e ∙ ap (λ (o : Option Slot). added v ++ (word_in o, amount) ∷ []) there

-- loads add nothing
pub reads_none : (v w : View) (found : List (ℕ × ℕ)) → Reads mmv v found w → added w ≡ added v
reads_none v w [] r = ap (λ (x : View). added x) r
reads_none v w (x ∷ xs) r = reads_none r.0 w xs r.2 ∙ quiet v r.0 (Load x.0) x.1 refl r.1

pub loads_none : (v w : View) → Loads v w → added w ≡ added v
loads_none v w l = reads_none v w l.0 l.1

-- neither does going inside
bounces_none : (tries : ℕ) (v w : View) → BouncesTimes mmv tries v w → added w ≡ added v
bounces_none zero v w b = ap (λ (x : View). added x) b
bounces_none (suc tries) v w b =
    quiet b.3.middle w Leave b.3.left refl b.3.leaves ∙ quiet b.0 b.3.middle Enter b.1 refl b.3.enters ∙ bounces_none tries v b.0 b.2

pub attaches_none : (v w : View) → AttachesAtLast mmv v w → added w ≡ added v
attaches_none v w a = quiet a.before w Enter a.attaches.gate refl a.attaches.enters ∙ bounces_none a.tries v a.before a.bounces

-- A pass that went inside, loaded, added what the lines add, and left, counted them
pub counts_all : (lines : List (Bor (List ℕ))) (v begun ready inside w : View) (i : ℕ) → AttachesAtLast mmv v begun → Loads begun ready → form_seen inside ≡ form_seen ready
    → added inside ≡ added ready ++ flat_map (adds_of (form_seen ready).slots) (take i lines) → length lines ≤ i → Detaches mmv inside w → Counts lines v w
counts_all lines v begun ready inside w i a l form adds end d =
    let all : take i lines ≡ lines = take_all i lines end in
    let before : added ready ≡ added v = loads_none begun ready l ∙ attaches_none v begun a in
    record {
      inside = inside;
      adds = adds ∙ (λ k. before k ++ flat_map (adds_of (sym form k).slots) (all k));
      leaves = d;
    }

-- neither does reading an image
pub image_none : (v w : View) (words : List ℕ) → ReadsImage mmv v words w → added w ≡ added v
image_none v w words r =
    quiet r.loads.ended w (Load 1) r.generation refl r.loads.closes ∙ reads_none r.loads.begun r.loads.ended (numbered_from 0 words) r.loads.each
    ∙ quiet v r.loads.begun (Load 2) r.generation refl r.loads.opens

-- nor a change of the layout
busy_none : (tries : ℕ) (v w : View) → BusyTimes mmv tries v w → added w ≡ added v
busy_none zero v w b = ap (λ (x : View). added x) b
busy_none (suc tries) v w b = quiet b.0 w Take b.1 refl b.4 ∙ busy_none tries v b.0 b.2

abbrev IsSilent : List Act → Type 0
IsSilent [] = Unit {0}
IsSilent (act ∷ acts) = (add_by act ≡ None) × IsSilent acts

acts_none : (v w : View) (acts : List Act) → IsSilent acts → Acts mmv v acts w → added w ≡ added v
acts_none v w [] silent a = ap (λ (x : View). added x) a
acts_none v w (act ∷ acts) silent a = acts_none a.1 w acts silent.1 a.3 ∙ quiet v a.1 act a.0 silent.0 a.2

puts_silent : (w : ℕ) (words : List ℕ) (acts : List Act) → IsSilent acts → IsSilent (puts_at w words ++ acts)
puts_silent w [] acts silent = silent
puts_silent w (x ∷ xs) acts silent = (refl, puts_silent (suc w) xs acts silent)

left_silent : (b : Bool) (next : ℕ) (image : List ℕ) (acts : List Act) → IsSilent acts
    → IsSilent ((if b then Put 0 (slice_index image 0) ∷ puts_at 3 (drop 3 image) else puts_at next (drop next image)) ++ acts)
left_silent true next image acts silent = (refl, puts_silent 3 (drop 3 image) acts silent)
left_silent false next image acts silent = puts_silent next (drop next image) acts silent

pub change_none : (v w : View) (capacity moment : ℕ) (image : List ℕ) (change : Relaying) → StartsAtLast mmv v capacity image moment change
    → Acts mmv change.token.view (last_acts change) w → added w ≡ added v
change_none v w capacity moment image change s a =
    acts_none change.token.view w (last_acts change) (left_silent (change.next == 0) change.next change.image (End change.generation ∷ Free ∷ []) (refl, (refl, tt))) a
    ∙ quiet s.starts.loaded change.token.view (Begin change.generation) change.generation refl s.starts.begins
    ∙ quiet s.starts.taken s.starts.loaded (Load 1) s.starts.old refl s.starts.loads
    ∙ quiet s.before s.starts.taken Take 0 refl s.starts.takes ∙ busy_none s.tries v s.before s.busy

-- what lines add has their amounts, whatever the layout
amounts_are : (slots : List Slot) (lines : List (Bor (List ℕ))) → map (λ (a : ℕ × ℕ). a.1) (flat_map (adds_of slots) lines) ≡ amounts_of lines
amounts_are slots [] = refl
amounts_are slots (line ∷ lines) = ap (λ (more : List ℕ). 1 ∷ length line.now ∷ more) (amounts_are slots lines)

pub counts_amounts : (lines : List (Bor (List ℕ))) (v w : View) → Counts lines v w → amounts w ≡ amounts v ++ amounts_of lines
counts_amounts lines v w c =
    let slots : List Slot = (form_seen c.inside).slots in
    ap (λ (adds : List (ℕ × ℕ)). map (λ (a : ℕ × ℕ). a.1) adds) (quiet c.inside w Leave c.leaves.0 refl c.leaves.1 ∙ c.adds)
    ∙ map-append (λ (a : ℕ × ℕ). a.1) (added v) (flat_map (adds_of slots) lines)
    ∙ ap (λ (more : List ℕ). amounts v ++ more) (amounts_are slots lines)

-- so two passes that counted the halves added their amounts
pub counts_halves : {E : Type 0} (answer : Result (Token × Token) E) (lines : List (Bor (List ℕ))) (old begun : Token × Token) → added begun.0.view ≡ added old.0.view → added begun.1.view ≡ added old.1.view
    → IfOk answer (λ after. Counts (front lines) begun.0.view after.0.view × Counts (back lines) begun.1.view after.1.view) → IfOk answer (CountsHalves lines old)
counts_halves (Ok after) lines old begun first second c = (
  counts_amounts (front lines) begun.0.view after.0.view c.0 ∙ ap (λ (adds : List (ℕ × ℕ)). map (λ (a : ℕ × ℕ). a.1) adds ++ amounts_of (front lines)) first,
  counts_amounts (back lines) begun.1.view after.1.view c.1 ∙ ap (λ (adds : List (ℕ × ℕ)). map (λ (a : ℕ × ℕ). a.1) adds ++ amounts_of (back lines)) second,
)
counts_halves (Err fault) lines old begun first second c = tt

one_batch : (f : Bor (List (Bor (List ℕ))) → List ℕ) (batches : List (Bor (List (Bor (List ℕ))))) (i : ℕ) (batch : Bor (List (Bor (List ℕ)))) → i < length batches
    → flat_map f (take i batches) ++ f (get_or batches i batch) ≡ flat_map f (take (suc i) batches)
one_batch f batches i batch below =
    sym (ap (λ (bs : List (Bor (List (Bor (List ℕ))))). flat_map f bs) (take-suc batches i batch below) ∙ flat_map-append f (take i batches) (get_or batches i batch ∷ [])
    ∙ ap (λ (more : List ℕ). flat_map f (take i batches) ++ more) (append-nil (f (get_or batches i batch))))

-- and one more batch is counted, also where the first pass then reads
pub counted_more : (batches : List (Bor (List (Bor (List ℕ))))) (i : ℕ) (d : Bor (List (Bor (List ℕ)))) (old new : Token × Token) (read : View) (image : List ℕ)
    → HasCounted (take i batches) old.0.view old.1.view → i < length batches → CountsHalves (get_or batches i d).now old new → ReadsImage mmv new.0.view image read
    → HasCounted (take (i + 1) batches) read new.1.view
counted_more batches i d old new read image before below c r =
    let first = λ (b : Bor (List (Bor (List ℕ)))). amounts_of (front b.now) in
    let second = λ (b : Bor (List (Bor (List ℕ)))). amounts_of (back b.now) in
    let next : suc i ≡ i + 1 = omega arith in
    subst (λ (j : ℕ). HasCounted (take j batches) read new.1.view) next (
      ap (λ (adds : List (ℕ × ℕ)). map (λ (a : ℕ × ℕ). a.1) adds) (image_none new.0.view read image r) ∙ c.0 ∙ ap (λ (more : List ℕ). more ++ first (get_or batches i d)) before.0 ∙ one_batch first batches i d below,
      c.1 ∙ ap (λ (more : List ℕ). more ++ second (get_or batches i d)) before.1 ∙ one_batch second batches i d below,
    )
