-- Status 10 comes exactly where `check` finds an archive that isn't sound.
use Rattle.std.proofs.Common.{◌≡◌, ◌⊎◌, inl, inr, ℕ, true, false, List, [], refl, sym, ◌∙◌, subst, arith}
use Rattle.pcp_outside.specs.Sides.{SourceSide, SinkSide}
use Rattle.pm_words.specs.declared.words.Command.{Command}
use Rattle.pm_words.specs.declared.words.Command.TheVariants.{Check}
use Rattle.pm_words.specs.declared.refusal.Refusal.{Refusal}
use Rattle.pm_words.specs.declared.refusal.Refusal.TheVariants.{ReadFault, Script, Rules, UnsoundItems, UnsoundBoundary, UnsoundLate}
use Rattle.pm_words.specs.CommandLine.{takes_input}
use Rattle.pm_words.specs.Refusals.{AtFiles, IsOfSoundness, status_of}
use Rattle.pm_words.specs.Sides.{DiskSide, files_found}
use Rattle.pm_words.proofs.Asked.{rules_apart, script_apart}
use Rattle.pm_tasks.specs.commands.check as check
use Rattle.pm_commands.specs.Causes.{Asks, Cause, CauseAt, IsReader}
use Rattle.pm_commands.specs.Ends.{Ends, HasRun}
use Rattle.pm_commands.specs.Facts.{IsCommand, IsGiven, IsUnsound, SoundnessIsExact, TurnsAway}
use Rattle.pm_commands.specs.Meanings.{meaning}
use Rattle.pm_commands.proofs.Checked.{is_unsound, only_check, unsound_only}
use Rattle.pm_commands.proofs.Facts.{by_end, one, turned_away, turned_found}

module _ (words : List (List ℕ)) (s : SourceSide) (k : SinkSide) (d : DiskSide) where
  abbrev Only : Type 0
  Only = ((e : Refusal) × (status_of e ≡ 10) × TurnsAway words s d e) × (d.tells → IsCommand words Check × IsUnsound (files_found d))

  -- with `check`, over an archive that isn't sound
  told : (e : Refusal) → IsOfSoundness e → status_of e ≡ 10 → CauseAt AtFiles words s d e → Only
  told e of is c = (
    (e, is, turned_away words s k d e c),
    λ tells.
        let same : c.0.command ≡ Check = only_check c.0.command c.0.input (files_found d) e of (c.1.2 tells) in
        let turned : check.IsTurnedAway (files_found d) e = subst (λ (x : Command). (meaning x).turns_away c.0.input (files_found d) e) same (c.1.2 tells) in
        (subst (IsCommand words) same c.0.words_are, is_unsound (files_found d) e of turned),
  )

  ten_only : (e : Refusal) → Cause words s d e → status_of e ≡ 10 → Only
  ten_only (UnsoundItems first second) c h = told (UnsoundItems first second) tt refl c
  ten_only (UnsoundBoundary entry file below above) c h = told (UnsoundBoundary entry file below above) tt refl c
  ten_only (UnsoundLate entry stamp) c h = told (UnsoundLate entry stamp) tt refl c
  ten_only (Script fault) c h = absurd (script_apart 10 (λ k. omega (arith, k)) (λ k. omega (arith, k)) fault.fault h)
  ten_only (Rules fault) c h = absurd (rules_apart 10 (λ k. omega (arith, k)) (λ k. omega (arith, k)) fault.fault h)
  ten_only _ c h = absurd (omega (arith, h))

  -- no such archive is passed
  not_passed : (text : List ℕ) → HasRun words s d text → IsCommand words Check → d.tells → IsUnsound (files_found d) → ⊥
  not_passed text run is tells u =
      let same : run.asks.command ≡ Check = one words s k d run.asks.command Check run.asks.words_are is in
      let says : (meaning Check).says run.asks.input d text = subst (λ (x : Command). (meaning x).says run.asks.input d text) same run.served.says in
      let sound = (says tells).2 in
      u.unsound (sound.reading, sound.reads, sound.sound)

  -- a command that reads no input has none that fails
  not_reader : (command : Command) → takes_input command ≡ false → IsReader words → IsCommand words command → ⊥
  not_reader command none (other, asked, takes) is =
      let same : other ≡ command = one words s k d other command asked is in
      let e : false ≡ true = sym none ∙ subst (λ (x : Command). takes_input x ≡ true) same takes in cc

  of_three : (e : Refusal) → Cause words s d e → status_of e ≡ 3 → IsReader words
  of_three ReadFault c h = c.0.0
  of_three (Script fault) c h = absurd (script_apart 3 (λ n. omega (arith, n)) (λ n. omega (arith, n)) fault.fault h)
  of_three (Rules fault) c h = absurd (rules_apart 3 (λ n. omega (arith, n)) (λ n. omega (arith, n)) fault.fault h)
  of_three _ c h = absurd (omega (arith, h))

  pub without_three : (command : Command) → takes_input command ≡ false → (n : ℕ) (e : Refusal) → Cause words s d e → IsCommand words command → (status_of e ≡ n) ⊎ ((status_of e ≡ 9) ⊎ ((status_of e ≡ 3) ⊎ (status_of e ≡ 5)))
      → (status_of e ≡ n) ⊎ ((status_of e ≡ 9) ⊎ (status_of e ≡ 5))
  without_three command none n e c is (inl that) = inl that
  without_three command none n e c is (inr (inl nine)) = inr (inl nine)
  without_three command none n e c is (inr (inr (inl three))) = absurd (not_reader command none (of_three e c three) is)
  without_three command none n e c is (inr (inr (inr five))) = inr (inr five)

  -- and each is told, unless memory ran out or the disk failed
  found : (e : Refusal) → Cause words s d e → IsCommand words Check → d.tells → IsUnsound (files_found d) → (status_of e ≡ 10) ⊎ ((status_of e ≡ 9) ⊎ (status_of e ≡ 5))
  found e c is tells u =
      let asked : IsGiven words s = record { command = Check; words_are = is; input = []; given = refl } in
      without_three Check refl 10 e c is (turned_found words s k d 10 asked refl
      (λ (a : Asks words s) (x : Refusal) turned.
      unsound_only (files_found d) u x (subst (λ (y : Command). (meaning y).turns_away a.input (files_found d) x) (one words s k d a.command Check a.words_are is) (turned tells))) e c)

  pub soundness_is_exact : (status : ℕ) → Ends words s k d status → SoundnessIsExact words s d status
  soundness_is_exact status ends = record {
    only = by_end words s k d status (λ n. n ≡ 10 → Only) ends (λ done h. absurd (omega (arith, h))) (λ untold h. absurd (omega (arith, h))) ten_only;
    always = by_end words s k d status (λ n. IsCommand words Check → d.tells → IsUnsound (files_found d) → (n ≡ 10) ⊎ ((n ≡ 9) ⊎ (n ≡ 5))) ends
        (λ done is tells u. absurd (not_passed done.text done.run is tells u)) (λ untold is tells u. absurd (not_passed untold.text untold.run is tells u)) found;
  }
