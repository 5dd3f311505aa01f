-- What can't be read or isn't sound is told.
use Rattle.std.proofs.Common.{◌≡◌, ◌⊎◌, inl, inr, ⊎_elim, ℕ, refl, sym, ap, ◌∙◌, subst, Result, Ok, Err}
use Rattle.pcp_model.specs.Disk.{contents_of}
use Rattle.pcp_outside.specs.Sides.{SinkSide}
use Rattle.archive_check.specs.declared.fault.CheckFault.{CheckFault}
use Rattle.archive_check.specs.declared.fault.CheckFault.TheVariants as checks
use Rattle.archive_reader.specs.declared.fault.ReaderFault.TheVariants as reads
use Rattle.logging_run.specs.declared.fault.RunFault.TheVariants as runs
use Rattle.logging_run.specs.Closing.{Close}
use Rattle.log_extract.specs.declared.fault.ExtractFault.{ExtractFault}
use Rattle.log_extract.specs.declared.fault.ExtractFault.TheVariants.{Archive, Merge, Source as Unread}
use Rattle.log_extract.specs.Extracting.{Extracted, IsPassed, IsRefused as IsTurnedBackBy, IsUnread as IsUnpassed}
use Rattle.log_extract.specs.Sources.{IsTurnedBack}
use Rattle.pm_words.specs.declared.refusal.Refusal.TheVariants.{Usage, NoMemory}
use Rattle.pm_words.specs.declared.words.Command.TheVariants.{Extract}
use Rattle.pm_words.specs.Refusals.{check_refusal, status_of}
use Rattle.pm_extracting.specs.Ends.{CallSide, HasRun, Orders}
use Rattle.pm_extracting.specs.Facts.{ArchiveFaultIsExact, ComesTo, IsOfFiles, SoundnessIsExact}
use Rattle.pm_extracting.specs.Good.{IsBarred, IsSoundSource}
use Rattle.pm_extracting.specs.Refusals.{fault_refusal}
use Rattle.pm_extracting.proofs.Endings.{Early, Seen, Told}
use Rattle.pm_extracting.proofs.Facts.{turned_away, unsound}
use Rattle.pm_extracting.proofs.Sources.{HasBreach, IsLacking, barred_back, no_breach, not_barred, passes_sound, sound_open, unsound_back, unsound_status}
use Rattle.pm_extracting.proofs.Standing.{flushed_so}

-- the status of a fault, unless memory for its line was refused
pub by_told : (k : SinkSide) (fault : ExtractFault) (n : ℕ) → Told k (Err fault) n → (status_of (fault_refusal fault) ≡ n) ⊎ (n ≡ 9)
by_told k fault n (inl h) = inl h
by_told k fault n (inr (inl (h, other))) = inr h
by_told k fault n (inr (inr (h, done, rose))) = let e : Err fault ≡ Ok done.0 = done.1 in absurd (cc)

lack_status : (fault : CheckFault) → IsLacking fault → (status_of (check_refusal fault) ≡ 9) ⊎ (status_of (check_refusal fault) ≡ 5)
lack_status (checks.Reader reads.DiskFault) lacks = inr refl
lack_status (checks.Reader reads.NoMemory) lacks = inl refl
lack_status fault lacks = absurd lacks

files_status : (fault : CheckFault) → IsOfFiles fault → status_of (check_refusal fault) ≡ 6
files_status (checks.Reader (reads.Compressed file)) of = refl
files_status (checks.Reader (reads.NotArchive file at)) of = refl
files_status (checks.Reader reads.NoMemory) of = absurd of
files_status fault of = absurd of

module _ {A B D : Type 0} (c : CallSide A B D) (k : SinkSide) where
  -- ---- how a call ends whose words ask for an extract

  order_of : (a b : ℕ) → Orders c.words a → Orders c.words b → a ≡ b
  order_of a b is also = let e : Ok (Extract a) ≡ Ok (Extract b) = sym is ∙ also in cc

  early_nine : (n volume : ℕ) → Orders c.words volume → Early c k n → n ≡ 9
  early_nine n volume orders (Usage at, refused, told) = let e = sym refused.cause ∙ orders in absurd (cc)
  early_nine n volume orders (NoMemory, refused, inl h) = h
  early_nine n volume orders (NoMemory, refused, inr (h, some)) = h
  early_nine n volume orders (e, refused, told) = absurd refused.cause

  module _ (G : Type 0) (n volume : ℕ) (orders : Orders c.words volume) (nine : n ≡ 9 → G)
      (first : (fault : CheckFault) → HasRun c (Err (Unread 1 fault)) → IsTurnedBack c.extract.first c.extract.first_was c.extract.first_is fault → Told k (Err (Unread 1 fault)) n → G)
      (second : (fault : CheckFault) → HasRun c (Err (Unread 2 fault)) → IsPassed c.extract.first c.extract.first_was → IsTurnedBack c.extract.second c.extract.second_was c.extract.second_is fault → Told k (Err (Unread 2 fault)) n → G)
      (both : (result : Result ℕ ExtractFault) → Told k result n → Extracted c.extract volume result → G) where
    by_back : (number : ℕ) (fault : CheckFault) → HasRun c (Err (Unread number fault)) → Told k (Err (Unread number fault)) n → IsUnpassed c.extract number fault → G
    by_back number fault ran told (inl (one, back)) = first fault (subst (λ (m : ℕ). HasRun c (Err (Unread m fault))) one ran) back (subst (λ (m : ℕ). Told k (Err (Unread m fault)) n) one told)
    by_back number fault ran told (inr (two, passed, back)) = second fault (subst (λ (m : ℕ). HasRun c (Err (Unread m fault))) two ran) passed back (subst (λ (m : ℕ). Told k (Err (Unread m fault)) n) two told)

    by_refused : (result : Result ℕ ExtractFault) → HasRun c result → Told k result n → IsTurnedBackBy c.extract result → G
    by_refused (Err (Unread number fault)) ran told back = by_back number fault ran told back.0
    by_refused (Ok count) ran told back = absurd back
    by_refused (Err (Merge fault)) ran told back = absurd back
    by_refused (Err (Archive fault)) ran told back = absurd back

    by_came : (result : Result ℕ ExtractFault) (ran : HasRun c result) → Told k result n → IsTurnedBackBy c.extract result ⊎ Extracted c.extract ran.volume result → G
    by_came result ran told (inl back) = by_refused result ran told back
    by_came result ran told (inr e) = both result told (subst (λ (v : ℕ). Extracted c.extract v result) (order_of ran.volume volume ran.orders orders) e)

    pub by_source : Seen c k n → G
    by_source (inl early) = nine (early_nine n volume orders early)
    by_source (inr (result, ran, told)) = by_came result ran told ran.extracts.came

  -- ---- what is told of a source

  comes_back : (number : ℕ) (fault : CheckFault) (n : ℕ) → IsOfFiles fault ⊎ IsLacking fault → Told k (Err (Unread number fault)) n → ComesTo 6 n
  comes_back number fault n why told = by_status why (by_told k (Unread number fault) n told) where
    by_status : IsOfFiles fault ⊎ IsLacking fault → (status_of (check_refusal fault) ≡ n) ⊎ (n ≡ 9) → ComesTo 6 n
    by_status (inl of) (inl h) = inl (sym h ∙ files_status fault of)
    by_status (inr lacks) (inl h) = inr (⊎_elim (λ (is : status_of (check_refusal fault) ≡ 9). inl (sym h ∙ is)) (λ (is : status_of (check_refusal fault) ≡ 5). inr (sym h ∙ is)) (lack_status fault lacks))
    by_status any (inr h) = inr (inl h)

  abbrev ToldBreach : ℕ → CheckFault → ℕ → Type 0
  ToldBreach number fault n = ((n ≡ 10) × HasRun c (Err (Unread number fault))) ⊎ ((n ≡ 9) ⊎ (n ≡ 5))

  breach_back : (number : ℕ) (fault other : CheckFault) (n : ℕ) → status_of (check_refusal fault) ≡ 10 → (other ≡ fault) ⊎ IsLacking other → HasRun c (Err (Unread number other)) → Told k (Err (Unread number other)) n → ToldBreach number fault n
  breach_back number fault other n ten why ran told = by_status why (by_told k (Unread number other) n told) where
    by_status : (other ≡ fault) ⊎ IsLacking other → (status_of (check_refusal other) ≡ n) ⊎ (n ≡ 9) → ToldBreach number fault n
    by_status (inl is) (inl h) = inl (sym h ∙ ap (λ (f : CheckFault). status_of (check_refusal f)) is ∙ ten, subst (λ (f : CheckFault). HasRun c (Err (Unread number f))) is ran)
    by_status (inr lacks) (inl h) = inr (⊎_elim (λ (is : status_of (check_refusal other) ≡ 9). inl (sym h ∙ is)) (λ (is : status_of (check_refusal other) ≡ 5). inr (sym h ∙ is)) (lack_status other lacks))
    by_status any (inr h) = inr (inl h)

  -- ---- archives that can't be read

  first_barred : (n : ℕ) → Seen c k n → (volume : ℕ) → Orders c.words volume → c.extract.first.tells → IsBarred c.extract.first c.extract.first_was → ComesTo 6 n
  first_barred n saw volume orders tells barred =
      by_source (ComesTo 6 n) n volume orders (λ nine. inr (inl nine))
      (λ fault ran back told. comes_back 1 fault n (barred_back c.extract.first c.extract.first_was barred fault (back.why tells)) told)
      (λ fault ran passed back told. let s = passed tells in absurd (sound_open c.extract.first c.extract.first_was s.0 s.1 barred))
      (λ result told e. let s = e.first_passed tells in absurd (sound_open c.extract.first c.extract.first_was s.0 s.1 barred)) saw

  second_barred : (n : ℕ) → Seen c k n → (volume : ℕ) → Orders c.words volume → IsSoundSource c.extract.first c.extract.first_was → c.extract.second.tells → IsBarred c.extract.second c.extract.second_was → ComesTo 6 n
  second_barred n saw volume orders sound tells barred =
      by_source (ComesTo 6 n) n volume orders (λ nine. inr (inl nine))
      (λ fault ran back told. comes_back 1 fault n (inr (passes_sound c.extract.first c.extract.first_was sound.1 sound.2 fault (back.why sound.0))) told)
      (λ fault ran passed back told. comes_back 2 fault n (barred_back c.extract.second c.extract.second_was barred fault (back.why tells)) told)
      (λ result told e. let s = e.second_passed tells in absurd (sound_open c.extract.second c.extract.second_was s.0 s.1 barred)) saw

  module _ (n volume : ℕ) (tells : c.extract.disk.tells) (barred : IsBarred c.extract.disk c.extract.disk_was) where
    -- an output that is barred isn't recovered
    never : (result : Result ℕ ExtractFault) (e : Extracted c.extract volume result) → e.close ≡ Close.flushed → ⊥
    never result e closed = let has = (flushed_so c.extract volume result e closed tells).recovered in not_barred c.extract.disk c.extract.disk_was barred has.unwrapped (has.was.reading, has.was.was)

    output_told : (result : Result ℕ ExtractFault) → Told k result n → Extracted c.extract volume result → ComesTo 6 n
    output_told (Ok count) told e = absurd (never (Ok count) e e.why.1.1.closed)
    output_told (Err (Unread number fault)) told e = absurd (never (Err (Unread number fault)) e e.why.1.1.closed)
    output_told (Err (Merge fault)) told e = absurd (never (Err (Merge fault)) e e.why.1.closed)
    output_told (Err (Archive (runs.Large bytes))) told e = absurd (never (Err (Archive (runs.Large bytes))) e e.why.flushed.closed)
    output_told (Err (Archive (runs.NotLater last))) told e = absurd (never (Err (Archive (runs.NotLater last))) e e.why.flushed.closed)
    output_told (Err (Archive (runs.Changed pmid))) told e = absurd (never (Err (Archive (runs.Changed pmid))) e e.why.flushed.closed)
    output_told (Err (Archive (runs.Full file bytes))) told e = absurd (never (Err (Archive (runs.Full file bytes))) e e.why.flushed.closed)
    output_told (Err (Archive (runs.Compressed file))) told e = ⊎_elim (λ (h : 6 ≡ n). inl (sym h)) (λ (h : n ≡ 9). inr (inl h)) (by_told k (Archive (runs.Compressed file)) n told)
    output_told (Err (Archive (runs.NotArchive file at))) told e = ⊎_elim (λ (h : 6 ≡ n). inl (sym h)) (λ (h : n ≡ 9). inr (inl h)) (by_told k (Archive (runs.NotArchive file at)) n told)
    output_told (Err (Archive runs.NoMemory)) told e = ⊎_elim (λ (h : 9 ≡ n). inr (inl (sym h))) (λ (h : n ≡ 9). inr (inl h)) (by_told k (Archive runs.NoMemory) n told)
    output_told (Err (Archive runs.DiskFault)) told e = ⊎_elim (λ (h : 5 ≡ n). inr (inr (sym h))) (λ (h : n ≡ 9). inr (inl h)) (by_told k (Archive runs.DiskFault) n told)

  output_barred : (n : ℕ) → Seen c k n → (volume : ℕ) → Orders c.words volume → IsSoundSource c.extract.first c.extract.first_was → IsSoundSource c.extract.second c.extract.second_was → c.extract.disk.tells
      → IsBarred c.extract.disk c.extract.disk_was → ComesTo 6 n
  output_barred n saw volume orders one two tells barred =
      by_source (ComesTo 6 n) n volume orders (λ nine. inr (inl nine))
      (λ fault ran back told. comes_back 1 fault n (inr (passes_sound c.extract.first c.extract.first_was one.1 one.2 fault (back.why one.0))) told)
      (λ fault ran passed back told. comes_back 2 fault n (inr (passes_sound c.extract.second c.extract.second_was two.1 two.2 fault (back.why two.0))) told)
      (output_told n volume tells barred) saw

  pub archive_fault_is_exact : (n : ℕ) → Seen c k n → ArchiveFaultIsExact c n
  archive_fault_is_exact n saw = record {
    only = λ is. turned_away c k n is saw;
    first = first_barred n saw;
    second = second_barred n saw;
    output = output_barred n saw;
  }

  -- ---- archives that aren't sound

  first_unsound : (n : ℕ) → Seen c k n → (volume : ℕ) → Orders c.words volume → c.extract.first.tells → (fault : CheckFault) → HasBreach c.extract.first c.extract.first_was fault → ToldBreach 1 fault n
  first_unsound n saw volume orders tells fault u =
      let w = c.extract.first.wrapped_file c.extract.first_was in
      let files = contents_of (c.extract.first.held c.extract.first_was) in
      by_source (ToldBreach 1 fault n) n volume orders (λ nine. inr (inl nine))
      (λ other ran back told. breach_back 1 fault other n (unsound_status w files fault u) (unsound_back w files fault u other (back.why tells)) ran told)
      (λ other ran passed back told. let s = passed tells in absurd (no_breach c.extract.first c.extract.first_was s.0 s.1 fault u))
      (λ result told e. let s = e.first_passed tells in absurd (no_breach c.extract.first c.extract.first_was s.0 s.1 fault u)) saw

  lack_breach : (number other_number : ℕ) (fault other : CheckFault) (n : ℕ) → IsLacking other → Told k (Err (Unread other_number other)) n → ToldBreach number fault n
  lack_breach number other_number fault other n lacks told = by_status (by_told k (Unread other_number other) n told) where
    by_status : (status_of (check_refusal other) ≡ n) ⊎ (n ≡ 9) → ToldBreach number fault n
    by_status (inl h) = inr (⊎_elim (λ (is : status_of (check_refusal other) ≡ 9). inl (sym h ∙ is)) (λ (is : status_of (check_refusal other) ≡ 5). inr (sym h ∙ is)) (lack_status other lacks))
    by_status (inr h) = inr (inl h)

  second_unsound : (n : ℕ) → Seen c k n → (volume : ℕ) → Orders c.words volume → IsSoundSource c.extract.first c.extract.first_was → c.extract.second.tells → (fault : CheckFault) → HasBreach c.extract.second c.extract.second_was fault
      → ToldBreach 2 fault n
  second_unsound n saw volume orders sound tells fault u =
      let w = c.extract.second.wrapped_file c.extract.second_was in
      let files = contents_of (c.extract.second.held c.extract.second_was) in
      by_source (ToldBreach 2 fault n) n volume orders (λ nine. inr (inl nine))
      (λ other ran back told. lack_breach 2 1 fault other n (passes_sound c.extract.first c.extract.first_was sound.1 sound.2 other (back.why sound.0)) told)
      (λ other ran passed back told. breach_back 2 fault other n (unsound_status w files fault u) (unsound_back w files fault u other (back.why tells)) ran told)
      (λ result told e. let s = e.second_passed tells in absurd (no_breach c.extract.second c.extract.second_was s.0 s.1 fault u)) saw

  pub soundness_is_exact : (n : ℕ) → Seen c k n → SoundnessIsExact c n
  soundness_is_exact n saw = record {
    only = λ is. (unsound c k n is saw).0;
    first = first_unsound n saw;
    second = second_unsound n saw;
  }
