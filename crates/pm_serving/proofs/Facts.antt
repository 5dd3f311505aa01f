-- What the end of a call says of each status.
use Rattle.std.proofs.Common.{◌≡◌, ◌⊎◌, inl, inr, ℕ, List, [], ◌++◌, refl, sym, ap, ◌∙◌, subst, arith, Result, Ok, Err}
use Rattle.run_script.specs.declared.fault.ScriptFault.{ScriptFault}
use Rattle.pm_words.specs.declared.words.Call.TheVariants as calls
use Rattle.pm_words.specs.declared.refusal.Refusal.{Refusal}
use Rattle.pm_words.specs.declared.refusal.Refusal.TheVariants.{Usage, ReadFault, InputLimit, Script as Scripted, Accept, NoMemory}
use Rattle.pm_words.specs.Refusals.{IsNumbered, script_status, status_of}
use Rattle.pm_words.specs.Telling.{IsToldBy, TellsAll}
use Rattle.pm_words.proofs.Asked.{Came, IsOfBody, apart, never_four, reading_is_exact, refused_by, script_apart, usage_is_exact, write_fault}
use Rattle.pm_words.proofs.Telling.{told_by}
use Rattle.pm_serving.specs.Ends.{AllServed, CameTo, DoorFailed, Ends, Finds, Ran, Sides}
use Rattle.pm_serving.specs.Facts.{Facts, IsDone, IsGoodRun, LimitCause, Meets}
use Rattle.pm_serving.specs.Scripts.{script_served}
use Rattle.pm_serving.specs.Serving.{IsUnserved, WereCut}
use Rattle.pm_serving.proofs.Ordered.{asks_of, says_one}

of_body : (e f : Refusal) → ◌≡◌ {A = Result (List ℕ) Refusal} (Err e) (Err f) → IsOfBody e → IsOfBody f
of_body e f is body = let same : e ≡ f = cc in subst IsOfBody same body

-- a status of a refusal, or of its line that memory was refused for
told_as : (F : ℕ → Type 0) (e : Refusal) (status : ℕ) → IsToldBy (Err e) status → F (status_of e) → F 9 → F status
told_as F e status (inl is) here nine = subst F (sym is) here
told_as F e status (inr (is, some)) here nine = subst F (sym is) nine

module _ {P In Out Time : Type 0} (c : Sides P In Out Time) where
  abbrev Comes : Result (List ℕ) Refusal → Type 0
  Comes result = CameTo c.words c.source c.doors c.served result

  -- as what is the same of all calls has it
  came_so : (result : Result (List ℕ) Refusal) → Comes result → Came calls.Serve c.words c.source result
  came_so (Ok line) came = inl (asks_of c.words c.source came.0.count (Ok came.0.script) came.0.orders, λ e is. absurd (cc))
  came_so (Err (Scripted fault)) came = inl (asks_of c.words c.source came.0.0 (Err fault) came.0.1, λ f is. of_body (Scripted fault) f is tt)
  came_so (Err Accept) came = inl (asks_of c.words c.source came.count (Ok came.script) came.orders, λ f is. of_body Accept f is tt)
  came_so (Err NoMemory) came = inr (NoMemory, refl, came.0)
  came_so (Err e) came = inr (e, refl, came.0)

  -- What a refusal is by its status.

  fault_of : (e : Refusal) → Comes (Err e) → status_of e ≡ 2 → (fault : ScriptFault) × (script_status fault.fault ≡ 2) × Finds c.words c.source fault
  fault_of (Scripted fault) came h = (fault, h, came.0)
  fault_of e came h = absurd (first_of (omega (arith, h), assumption came))

  limit_of : (e : Refusal) → Comes (Err e) → status_of e ≡ 7 → LimitCause c.words c.source
  limit_of (Scripted fault) came h = inr (fault, h, came.0)
  limit_of InputLimit came h = inl came.0
  limit_of e came h = absurd (first_of (omega (arith, h), assumption came))

  failed_of : (e : Refusal) → Comes (Err e) → status_of e ≡ 21 → Ran c.words c.source (DoorFailed c.doors c.served)
  failed_of Accept came h = came
  failed_of (Scripted fault) came h = absurd (script_apart 21 (λ k. omega (arith, k)) (λ k. omega (arith, k)) fault.fault h)
  failed_of e came h = absurd (first_of (omega (arith, h), assumption came))

  never_zero : (e : Refusal) → Comes (Err e) → status_of e ≡ 0 → ⊥
  never_zero (Scripted fault) came h = script_apart 0 (λ k. omega (arith, k)) (λ k. omega (arith, k)) fault.fault h
  never_zero e came h = first_of (omega (arith, h), assumption came)

  unserved : (e : Refusal) (n : ℕ) → Comes (Err e) → n ≡ status_of e → (n ≡ 21 → ⊥) → IsUnserved c.doors c.served ⊎ ((n ≡ 9) × Ran c.words c.source (WereCut c.doors c.served))
  unserved Accept n came is other = absurd (other is)
  unserved NoMemory n (why, inl none) is other = inl none
  unserved NoMemory n (why, inr cut) is other = inr (is, cut)
  unserved e n came is other = inl came.1

  -- a refusal whose line takes memory comes before a session
  numbered : (e : Refusal) → IsNumbered e → Comes (Err e) → IsUnserved c.doors c.served
  numbered Accept some came = absurd some
  numbered NoMemory some came = absurd some
  numbered e some came = came.1

  bad_script : (e : Refusal) → Comes (Err e) → Meets c.words c.source → (fault : ScriptFault) → script_served c.source.left ≡ Err fault
      → (status_of e ≡ script_status fault.fault) ⊎ ((status_of e ≡ 9) ⊎ (status_of e ≡ 3))
  bad_script (Usage at) came m fault bad = absurd (apart calls.Serve c.words c.source at came.0.0 m.asked.0 m.asked.1)
  bad_script ReadFault came m fault bad = inr (inr refl)
  bad_script InputLimit came m fault bad = let above = came.0.1 m.tells in let within = m.within in absurd (omega (arith, above.0, within))
  bad_script (Scripted other) came m fault bad =
      let is = says_one c.words c.source came.0.0 (Err other) came.0.1 m.tells (Err fault) bad in
      let same : other ≡ fault = cc in inl (ap (λ (x : ScriptFault). script_status x.fault) same)
  bad_script Accept came m fault bad = let is = says_one c.words c.source came.count (Ok came.script) came.orders m.tells (Err fault) bad in absurd (cc)
  bad_script NoMemory came m fault bad = inr (inl refl)
  bad_script e came m fault bad = absurd came.0

  good_run : (e : Refusal) → Comes (Err e) → IsGoodRun c → (status_of e ≡ 0) ⊎ (status_of e ≡ 9)
  good_run (Usage at) came run = absurd (apart calls.Serve c.words c.source at came.0.0 run.meets.asked.0 run.meets.asked.1)
  good_run ReadFault came run = absurd (run.source_kept came.0.1.0)
  good_run InputLimit came run = let above = came.0.1 run.meets.tells in let within = run.meets.within in absurd (omega (arith, above.0, within))
  good_run (Scripted fault) came run = let is = says_one c.words c.source came.0.0 (Err fault) came.0.1 run.meets.tells (Ok run.script) run.good in absurd (cc)
  good_run Accept came run = absurd (run.doors_kept (came.leaves.serving.rose refl))
  good_run NoMemory came run = inr refl
  good_run e came run = absurd came.0

  -- What a status is, done or refused.

  done_so : (result : Result (List ℕ) Refusal) (status : ℕ) → Comes result → TellsAll c.sink [] result status → status ≡ 0 → IsDone c
  done_so (Ok line) status came (inl (is, quiet, wrote)) h = record { ran = came.0; wrote = λ tells. wrote tells ∙ ap (λ (text : List ℕ). c.sink.written ++ text) came.1; quiet = quiet }
  done_so (Ok line) status came (inr (is, rose, wrote)) h = absurd (omega (arith, is, h))
  done_so (Err e) status came (inl (is, wrote)) h = absurd (never_zero e came (sym is ∙ h))
  done_so (Err e) status came (inr (is, some, wrote)) h = absurd (omega (arith, is, h))

  untold_so : (result : Result (List ℕ) Refusal) (status : ℕ) → Comes result → IsToldBy result status → status ≡ 4 → Ran c.words c.source (AllServed c.doors c.served)
  untold_so (Ok line) status came told h = came.0
  untold_so (Err e) status came (inl is) h = absurd (never_four e (sym is ∙ h))
  untold_so (Err e) status came (inr (is, some)) h = absurd (omega (arith, is, h))

  unserved_so : (result : Result (List ℕ) Refusal) (status : ℕ) → Comes result → IsToldBy result status → (status ≡ 0 → ⊥) → (status ≡ 4 → ⊥) → (status ≡ 21 → ⊥)
      → IsUnserved c.doors c.served ⊎ ((status ≡ 9) × Ran c.words c.source (WereCut c.doors c.served))
  unserved_so (Ok line) status came (inl is) zero four other = absurd (zero is)
  unserved_so (Ok line) status came (inr is) zero four other = absurd (four is)
  unserved_so (Err e) status came (inl is) zero four other = unserved e status came is other
  unserved_so (Err e) status came (inr (is, some)) zero four other = inl (numbered e some came)

  bad_so : (result : Result (List ℕ) Refusal) (status : ℕ) → Comes result → IsToldBy result status → Meets c.words c.source → (fault : ScriptFault) → script_served c.source.left ≡ Err fault
      → (status ≡ script_status fault.fault) ⊎ ((status ≡ 9) ⊎ (status ≡ 3))
  bad_so (Ok line) status came told m fault bad = let is = says_one c.words c.source came.0.count (Ok came.0.script) came.0.orders m.tells (Err fault) bad in absurd (cc)
  bad_so (Err e) status came told m fault bad = told_as (λ n. (n ≡ script_status fault.fault) ⊎ ((n ≡ 9) ⊎ (n ≡ 3))) e status told (bad_script e came m fault bad) (inr (inl refl))

  good_so : (result : Result (List ℕ) Refusal) (status : ℕ) → Comes result → TellsAll c.sink [] result status → IsGoodRun c → (status ≡ 0) ⊎ (status ≡ 9)
  good_so (Ok line) status came (inl (is, quiet, wrote)) run = inl is
  good_so (Ok line) status came (inr (is, rose, wrote)) run = absurd (run.sink_kept rose)
  good_so (Err e) status came tells run = told_as (λ n. (n ≡ 0) ⊎ (n ≡ 9)) e status (told_by c.sink [] (Err e) status tells) (good_run e came run) (inr refl)

  -- a status that only a refusal has
  by_refusal : {F : Type 0} (n : ℕ) → ((e : Refusal) → Comes (Err e) → status_of e ≡ n → F) → (n ≡ 0 → ⊥) → (n ≡ 4 → ⊥) → (n ≡ 9 → ⊥)
      → (result : Result (List ℕ) Refusal) (status : ℕ) → Comes result → IsToldBy result status → status ≡ n → F
  by_refusal n so zero four nine result status came told h =
      let found = refused_by calls.Serve c.words c.source result status n told h zero four nine in
      so found.0 (subst (λ (r : Result (List ℕ) Refusal). Comes r) found.1 came) found.2

  pub facts_of : (status : ℕ) → Ends c status → Facts c status
  facts_of status (result, came, tells) =
      let told = told_by c.sink [] result status tells in
      let so = came_so result came in
      let failed = by_refusal 21 failed_of (λ k. omega (arith, k)) (λ k. omega (arith, k)) (λ k. omega (arith, k)) result status came told in record {
        ends = (result, came, tells);
        done = done_so result status came tells;
        quiet = λ h. let done = done_so result status came tells h in (done.ran.orders.read.quiet, done.quiet, done.ran.leaves.serving.quiet);
        usage = usage_is_exact calls.Serve c.words c.source result status told so;
        script_fault = record {
          only = by_refusal 2 fault_of (λ k. omega (arith, k)) (λ k. omega (arith, k)) (λ k. omega (arith, k)) result status came told;
          always = bad_so result status came told;
        };
        reading = reading_is_exact calls.Serve c.words c.source result status told so;
        limit = by_refusal 7 limit_of (λ k. omega (arith, k)) (λ k. omega (arith, k)) (λ k. omega (arith, k)) result status came told;
        write_fault = write_fault c.sink [] result status tells;
        accept_fault = λ h. (failed h).leaves.serving.rose refl;
        served = record {
          done = λ h. (done_so result status came tells h).ran;
          untold = untold_so result status came told;
          accept = failed;
          otherwise = unserved_so result status came told;
        };
        completes = good_so result status came tells;
      }
