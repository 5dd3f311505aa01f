-- The numbers of a region at the end of a recording.
use Rattle.std.proofs.Common.{◌≡◌, ◌≢◌, ⊎_elim, ℕ, ◌+◌, ◌<◌, List, [], ◌∷◌, ◌++◌, append_assoc, append-nil, length, slice_get, slice_index, Contains, Some, None, sym, refl, ap, ◌∙◌, subst, arith}
use Rattle.pcp_base.specs.Time.{Moment}
use Rattle.pcp_base.specs.declared.kind.Kind.{Kind}
use Rattle.pcp_base.specs.declared.kind.Kind.TheVariants as kinds
use Rattle.mmv_layout.specs.declared.rows.Content.TheVariants.{Number}
use Rattle.mmv_layout.specs.declared.rows.Slot.{Slot}
use Rattle.mmv_layout.specs.Form.{form_of, slots_of}
use Rattle.mmv_layout.specs.Rows.{layout_of}
use Rattle.mmv_layout.specs.ShapeLaws.{Takes, TakesAs, content_of_kind}
use Rattle.mmv_layout.proofs.FormSays.{slot_holds}
use Rattle.region_core.specs.declared.act.Act.TheVariants.{Begin}
use Rattle.region_core.specs.declared.act.Entry.{Entry}
use Rattle.region_core.specs.Journal.{state, own}
use Rattle.region_core.specs.State.{State, after, IsStable}
use Rattle.region_core.proofs.Journals.{state-append}
use Rattle.region_core.proofs.Runs.{wide_run}
use Rattle.region_rule.specs.Seats.{Token}
use Rattle.region_rule.specs.Steps.{entry}
use Rattle.region_words.specs.Calls.{IsNumber}
use Rattle.region_words.specs.Images.{mmv, mmv_laws}
use Rattle.region_words.proofs.Inside.{slots_below}
use Rattle.fetch_answers.specs.declared.fetch.Fetched.{Fetched}
use Rattle.fetch_engine.specs.declared.server.Mounted.{Mounted}
use Rattle.run_script.specs.Recording.{refused_line}
use Rattle.run_script.specs.Rules.{KeepsRules}
use Rattle.run_script.specs.declared.script.Script.{Script}
use Rattle.run_passes.specs.Crews.{ServesScript}
use Rattle.script_runs.specs.declared.ending.Ending.TheVariants as ends
use Rattle.run_passes.specs.Hands.{IsServedAt}
use Rattle.run_passes.proofs.WriterPlaces.{made_at}
use Rattle.record_run.specs.Beside.{Beside, WritersRan, start_of}
use Rattle.record_run.specs.Pictured.{AreImages, AreOfWords}
use Rattle.record_run.specs.Closing.{closing_words}
use Rattle.record_run.specs.Counters.{WordsAreSums, IsCounted, CountersAreSums}
use Rattle.record_run.specs.Sums.{IsSum, IsStored}
use Rattle.record_run.proofs.Behind.{image_end, stable_end}
use Rattle.record_run.proofs.Brought.{change_stores, stored_behind}
use Rattle.record_run.proofs.Forms.{Changed, LastBegin, changed_at, last_begin}
use Rattle.record_run.proofs.Relaid.{NoBegin}
use Rattle.record_run.proofs.Suited.{slots_same}
use Rattle.record_run.proofs.Summing.{is_sum}
use Rattle.record_run.proofs.Unlost.{P, good, held_images, ran, words_start}

pub words_are_sums : WordsAreSums
words_are_sums script server first final ending moments results b i j at token there w below =
    is_sum mmv at.mounted.region.words at.mounted.region.passes token.view.seen w (b.legal i j at token there) below

number_held : (words : List ℕ) (kind : Kind) (n : ℕ) → IsNumber kind → content_of_kind words kind n ≡ Number n
number_held words kinds.I32 n h = refl
number_held words kinds.U32 n h = refl
number_held words kinds.I64 n h = refl
number_held words kinds.U64 n h = refl
number_held words kinds.Float n h = absurd h
number_held words kinds.Double n h = absurd h
number_held words kinds.Text n h = absurd h
number_held words kinds.Elapsed n h = absurd h

-- the word of a number is none of the generations
number_takes : (kind : Kind) (offsets : List ℕ) (v : ℕ) → IsNumber kind → TakesAs kind offsets v
number_takes kinds.I32 offsets v h = tt
number_takes kinds.U32 offsets v h = tt
number_takes kinds.I64 offsets v h = tt
number_takes kinds.U64 offsets v h = tt
number_takes kinds.Float offsets v h = absurd h
number_takes kinds.Double offsets v h = absurd h
number_takes kinds.Text offsets v h = absurd h
number_takes kinds.Elapsed offsets v h = absurd h

takes_zero : (image : List ℕ) (slot : Slot) → Contains (slots_of image) slot → IsNumber slot.kind → Takes (form_of image) slot.word 0
unfolding form_of
takes_zero image slot among number = record { slot = slot; among = among; stands = refl; takes = number_takes slot.kind (form_of image).offsets 0 number }

not_generation : (image : List ℕ) (slot : Slot) → mmv.IsImage image → Contains (slots_of image) slot → IsNumber slot.kind → (slot.word ≢ 1) × (slot.word ≢ 2)
not_generation image slot good among number =
    let none = mmv_laws.fixed image 0 good in (
      λ one. none.0 (subst (λ (w : ℕ). Takes (form_of image) w 0) one (takes_zero image slot among number)),
      λ two. none.1 (subst (λ (w : ℕ). Takes (form_of image) w 0) two (takes_zero image slot among number)),
    )

module _ (script : Script) (server : List Mounted) (first final : List Token) (moments : List Moment) (results : List Fetched) (keeps : KeepsRules script) (refused : refused_line script ≡ None) (images : AreImages script) (words : AreOfWords script)
    (serves : ServesScript script 1 server) (b : Beside script server first final ends.Done moments results) (i j : ℕ) (at : IsServedAt script server i j) (token : Token) (there : slice_get final j ≡ Some token) where
  abbrev log : List Entry
  log = token.view.seen

  abbrev closed : List ℕ
  closed = closing_words at.mounted token

  ended : WritersRan script server i j at log
  ended = ran script server first final ends.Done moments results keeps refused images words serves b b.writers i j at token there

  passes_are : at.mounted.region.passes ≡ at.row.passes + 1
  passes_are = (made_at script server 1 keeps serves i j at).passes

  stable : IsStable (state (start_of at.mounted) log)
  stable = stable_end mmv mmv_laws at.mounted.region.words at.mounted.region.passes at.row.passes log [] log (sym (append-nil log)) (b.legal i j at token there) passes_are (b.loads i j at token there) (λ k below. refl) ended.idle

  image : mmv.IsImage closed
  image = image_end mmv mmv_laws at.mounted.region.words at.mounted.region.passes at.row.passes log [] log (sym (append-nil log)) (b.legal i j at token there) passes_are (b.loads i j at token there) (λ k below. refl) ended.idle

  abbrev May : List ℕ → Type 0
  May = P script server first final ends.Done moments results keeps refused images words serves b b.writers i j at token there

  -- a number of the last layout was stored by the last change
  last_stored : (slot : Slot) → Contains (slots_of closed) slot → IsNumber slot.kind → (k n : ℕ) (before mid : List Entry) → log ≡ before ++ entry k (Begin n) ∷ mid → NoBegin mid → IsStored slot.word mid
  last_stored slot among number k n before mid is none =
      let t : State = after (state (start_of at.mounted) before) k (Begin n) in
      let whole : log ≡ before ++ entry k (Begin n) ∷ (mid ++ []) = is ∙ ap (λ (es : List Entry). before ++ entry k (Begin n) ∷ es) (sym (append-nil mid)) in
      let end : state (start_of at.mounted) log ≡ state t mid = ap (λ (es : List Entry). state (start_of at.mounted) es) is ∙ state-append (start_of at.mounted) before (entry k (Begin n) ∷ mid) in
      let c : Changed mmv mmv_laws May at.mounted.region.words at.mounted.region.passes at.row.passes log (b.legal i j at token there) passes_are (b.loads i j at token there)
      (words_start script server first final ends.Done moments results keeps refused images words serves b b.writers i j at token there)
      (held_images script server first final ends.Done moments results keeps refused images words serves b b.writers i j at token there)
      (good script server first final ends.Done moments results keeps refused images words serves b b.writers i j at token there) k n mid [] t =
      changed_at mmv mmv_laws May at.mounted.region.words at.mounted.region.passes at.row.passes log (b.legal i j at token there) passes_are (b.loads i j at token there)
      (words_start script server first final ends.Done moments results keeps refused images words serves b b.writers i j at token there)
      (held_images script server first final ends.Done moments results keeps refused images words serves b b.writers i j at token there)
      (good script server first final ends.Done moments results keeps refused images words serves b b.writers i j at token there) before k n mid [] whole none (subst IsStable end stable) in
      let form : form_of closed ≡ form_of c.image = ap (λ (s : State). form_of s.words) end ∙ c.form in
      let there_too : Contains (slots_of c.image) slot = subst (λ (slots : List Slot). Contains slots slot) (slots_same closed c.image form) among in
      let below : slot.word < length c.image = subst (λ (s : Slot). s.word < length c.image) there_too.2 (slots_below c.image c.may.0 there_too.0 slot there_too.1) in
      let apart = not_generation c.image slot c.may.0 there_too number in
      change_stores slot.word k n c.image mid c.behind (ap (λ (es : List Entry). own k es) (sym (append-nil mid)) ∙ c.stores) below apart.0 apart.1

  behind_each : (slot : Slot) → Contains (slots_of closed) slot → IsNumber slot.kind → (k n : ℕ) (before behind : List Entry) → log ≡ before ++ entry k (Begin n) ∷ behind → IsStored slot.word behind
  behind_each slot among number k n before behind is = ⊎_elim
      (λ (none : NoBegin behind). last_stored slot among number k n before behind is none)
      (λ (l : LastBegin behind).
      let whole : log ≡ (before ++ entry k (Begin n) ∷ l.before) ++ entry l.k (Begin l.n) ∷ l.mid =
      is ∙ (ap (λ (es : List Entry). before ++ entry k (Begin n) ∷ es) l.is ∙ sym (append_assoc before (entry k (Begin n) ∷ l.before) (entry l.k (Begin l.n) ∷ l.mid))) in
      let mid : IsStored slot.word l.mid = last_stored slot among number l.k l.n (before ++ entry k (Begin n) ∷ l.before) l.mid whole l.none in
      let one : IsStored slot.word ((entry l.k (Begin l.n) ∷ []) ++ l.mid) = stored_behind slot.word (entry l.k (Begin l.n) ∷ []) l.mid mid in
      subst (λ (es : List Entry). IsStored slot.word es) (sym l.is) (stored_behind slot.word l.before (entry l.k (Begin l.n) ∷ l.mid) one))
      (last_begin behind)

  counted : (slot : Slot) → Contains (slots_of closed) slot → IsNumber slot.kind → IsCounted at.mounted token slot
  unfolding layout_of
  counted slot among number =
      let below : slot.word < length closed = subst (λ (s : Slot). s.word < length closed) among.2 (slots_below closed image among.0 slot among.1) in
      let wide = wide_run (start_of at.mounted) log in
      let sum : IsSum (start_of at.mounted) log slot.word = is_sum mmv at.mounted.region.words at.mounted.region.passes log slot.word (b.legal i j at token there) (omega arith) in
      let (row, row_there, item, instance, content) = slot_holds closed slot image among in
      record {
        row = row;
        among = row_there;
        item = item;
        instance = instance;
        value = slice_index closed slot.word;
        content = content ∙ number_held closed slot.kind (slice_index closed slot.word) number;
        sum = sum.exact (words_start script server first final ends.Done moments results keeps refused images words serves b b.writers i j at token there);
        last = behind_each slot among number;
      }

pub counters_are_sums : CountersAreSums
counters_are_sums script server first final moments results keeps refused images words serves b i j at token there slot among number =
    counted script server first final moments results keeps refused images words serves b i j at token there slot among number
