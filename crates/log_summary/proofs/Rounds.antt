-- Jobs, what they come to, and the volumes so far.
use Rattle.std.proofs.Common.{zero, suc, ◌≡◌, ◌⊎◌, inl, inr, ℕ, ◌+◌, ◌<◌, ◌≤◌, Bool, true, false, nat_eq, List, [], ◌∷◌, ◌++◌, length, drop, refl, sym, ap, ◌∙◌, subst, take, arith, Option, Some, None}
use Rattle.std.specs.Prelude.{option_to_list, slice_index_or}
use Rattle.std.proofs.lemmas.Bool.{eqb-true, eqb-false}
use Rattle.std.proofs.Math.ListN.{get_or}
use Rattle.std.proofs.lemmas.List.{drop_more, length-drop}
use Rattle.std.specs.List.{AllByRecursion}
use Rattle.archive_loading.specs.Loaded.{IsMeasured}
use Rattle.pcp_base.specs.Time.{Moment}
use Rattle.pcp_base.specs.declared.file.FileId.{FileId}
use Rattle.pcp_base.specs.declared.file.FileId.TheVariants.{Volume}
use Rattle.pcp_base.specs.declared.result.Item.{Item}
use Rattle.pcp_model.specs.declared.records.MetaRecord.{MetaRecord}
use Rattle.pcp_model.specs.Disk.{Files}
use Rattle.archive_reader.specs.Values.{IsWholeFault}
use Rattle.archive_reader.specs.Walks.{StopsAt}
use Rattle.archive_reader.specs.declared.fault.ReaderFault.{ReaderFault}
use Rattle.archive_reader.specs.declared.fault.ReaderFault.TheVariants.{NotArchive, DiskFault, NoMemory}
use Rattle.log_summary.specs.declared.job.Job.{Job}
use Rattle.log_summary.specs.declared.job.Progress.{Progress}
use Rattle.log_summary.specs.declared.piece.Piece.{Piece}
use Rattle.log_summary.specs.declared.job.Progress.TheVariants.{Done, Broken}
use Rattle.log_summary.specs.Jobs.{is_empty, Counts, IsAsFar, IsRead, IsReadOn, IsReadOf, IsNewJob, IsPiece, IsCountedOn, IsJob, AreJobs, AreNext, AreRead, AreReadOn, AreCountedOn, LeadOn, MergesAll, StopsWith}
use Rattle.log_summary.specs.Summaries.{GoOn, IsSoFar, IsTableOf}
use Rattle.log_summary.specs.Tables.{Rows, merged, table_of}
use Rattle.log_summary.specs.Values.{values_of}
use Rattle.log_summary.specs.Volumes.{table_between, IsCounted, IsBroken}
use Rattle.archive_reader.specs.Searches.{between}
use Rattle.log_summary.proofs.Placing.{goes_past, stops_in, all_past}
use Rattle.log_summary.proofs.Tabled.{tables_merge}
use Rattle.log_summary.proofs.Walked.{both_between}

module _ (files : Files) (records : List MetaRecord) (from to : Moment) where
  -- a job more
  pub one_job : (n : ℕ) (vs : List (ℕ × ℕ)) (js : List Job) (left : List (ℕ × ℕ)) (w : ℕ × ℕ) (rest : List (ℕ × ℕ)) (j : Job)
      → AreJobs files records from to n vs js left → left ≡ w ∷ rest → IsJob files records from to (n + length js) w rest j → AreJobs files records from to n vs (js ++ j ∷ []) rest
  one_job n [] [] left w rest j is next job = absurd cc
  one_job n (v ∷ vs) [] left w rest j is next job =
      let first : w ≡ v = cc in
      let others : rest ≡ vs = cc in
      (subst (λ l. IsJob files records from to n v l j) others (subst (λ u. IsJob files records from to n u rest j) first (subst (λ k. IsJob files records from to k w rest j) (omega arith) job)), others)
  one_job n [] (k ∷ js) left w rest j are next job = absurd are
  one_job n (v ∷ vs) (k ∷ js) left w rest j are next job =
      (are.0, one_job (n + 1) vs js left w rest j are.1 next (subst (λ m. IsJob files records from to m w rest j) (omega arith) job))

  -- a job of which nothing is read or counted
  pub new_counts : (worker : ℕ) (v : ℕ × ℕ) (is_last : Bool) (j : Job) → v.1 ≡ length (files (Volume v.0)) → IsNewJob worker v is_last j → Counts (files (Volume v.0)) records from to j
  new_counts worker v is_last j long (none, is) = record {
    read = record {
      long = ap (λ (k : Job). k.end) is ∙ long;
      is = none ∙ sym (ap (λ (l : List ℕ). take (length l) (drop j.at (files (Volume v.0)))) none);
    };
    far = subst (λ (k : Job). IsAsFar (files (Volume v.0)) records from to k k.progress) (sym is) (record { items = []; stand = refl; is = refl });
  }

  pub new_job_is : (worker : ℕ) (v : ℕ × ℕ) (behind : List (ℕ × ℕ)) (is_last : Bool) (j : Job) → v.1 ≡ length (files (Volume v.0)) → is_last ≡ is_empty behind → IsNewJob worker v is_last j → IsJob files records from to worker v behind j
  new_job_is worker v behind is_last j long last new = record {
    worker_is = ap (λ (k : Job). k.worker) new.1;
    number = ap (λ (k : Job). k.number) new.1;
    long = long;
    last = ap (λ (k : Job). k.is_last) new.1 ∙ last;
    counts = new_counts worker v is_last j long new;
  }

  -- what was read of jobs stands in the files
  pub jobs_read : (n : ℕ) (vs : List (ℕ × ℕ)) (js : List Job) (rest : List (ℕ × ℕ)) → AreJobs files records from to n vs js rest → AreRead files js
  jobs_read n vs [] rest are = tt
  jobs_read n [] (j ∷ js) rest are = absurd are
  jobs_read n (v ∷ vs) (j ∷ js) rest are = (subst (λ m. IsRead (files (Volume m)) j) (sym are.0.number) are.0.counts.read, jobs_read (n + 1) vs js rest are.1)

  -- more is read of each
  read_on : (worker : ℕ) (v : ℕ × ℕ) (behind : List (ℕ × ℕ)) (j k : Job) → IsReadOn j k → IsReadOf files k → IsJob files records from to worker v behind j → IsJob files records from to worker v behind k
  read_on worker v behind j k on read job = record {
    worker_is = ap (λ (i : Job). i.worker) on ∙ job.worker_is;
    number = ap (λ (i : Job). i.number) on ∙ job.number;
    long = job.long;
    last = ap (λ (i : Job). i.is_last) on ∙ job.last;
    counts = record {
      read = subst (λ m. IsRead (files (Volume m)) k) (ap (λ (i : Job). i.number) on ∙ job.number) read;
      far = subst (λ (i : Job). IsAsFar (files (Volume v.0)) records from to i i.progress) (sym on) job.counts.far;
    };
  }

  pub jobs_read_on : (n : ℕ) (vs : List (ℕ × ℕ)) (js ks : List Job) (rest : List (ℕ × ℕ)) → AreReadOn files js ks → AreJobs files records from to n vs js rest → AreJobs files records from to n vs ks rest
  jobs_read_on n vs [] [] rest on are = are
  jobs_read_on n vs [] (k ∷ ks) rest on are = absurd (on tt)
  jobs_read_on n vs (j ∷ js) [] rest on are = absurd (on tt)
  jobs_read_on n [] (j ∷ js) (k ∷ ks) rest on are = absurd are
  jobs_read_on n (v ∷ vs) (j ∷ js) (k ∷ ks) rest on are = (read_on n v vs j k on.0.0 on.0.1 are.0, jobs_read_on (n + 1) vs js ks rest on.1 are.1)

  -- more is counted of each
  counted_on : (worker : ℕ) (v : ℕ × ℕ) (behind : List (ℕ × ℕ)) (j k : Job) → IsCountedOn records from to j k → IsJob files records from to worker v behind j → IsJob files records from to worker v behind k
  counted_on worker v behind j k on job = record {
    worker_is = on.same.worker_is ∙ job.worker_is;
    number = on.same.number ∙ job.number;
    long = job.long;
    last = on.same.last ∙ job.last;
    counts = on.counts (files (Volume v.0)) job.counts;
  }

  pub jobs_counted_on : (n : ℕ) (vs : List (ℕ × ℕ)) (js ks : List Job) (rest : List (ℕ × ℕ)) → AreCountedOn records from to js ks → AreJobs files records from to n vs js rest → AreJobs files records from to n vs ks rest
  jobs_counted_on n vs [] [] rest on are = are
  jobs_counted_on n vs [] (k ∷ ks) rest on are = absurd (on tt)
  jobs_counted_on n vs (j ∷ js) [] rest on are = absurd (on tt)
  jobs_counted_on n [] (j ∷ js) (k ∷ ks) rest on are = absurd are
  jobs_counted_on n (v ∷ vs) (j ∷ js) (k ∷ ks) rest on are = (counted_on n v vs j k on.0 are.0, jobs_counted_on (n + 1) vs js ks rest on.1 are.1)

module _ (files : Files) (records : List MetaRecord) (from to : Moment) where
  -- jobs that are counted, and then read on
  pub lead_counted_read : (js ks ls : List Job) (pieces : List Piece) → AreCountedOn records from to js ks → (AreRead files ks → AllByRecursion (IsPiece files) pieces → AreReadOn files ks ls)
      → AllByRecursion (IsPiece files) pieces → LeadOn files records from to js ls
  lead_counted_read js ks ls pieces counted on stand = λ n vs rest are.
      let so_far : AreJobs files records from to n vs ks rest = jobs_counted_on files records from to n vs js ks rest counted are in
      jobs_read_on files records from to n vs ks ls rest (on (jobs_read files records from to n vs ks rest so_far) stand) so_far

  pub lead_counted : (js ks : List Job) → AreCountedOn records from to js ks → LeadOn files records from to js ks
  lead_counted js ks counted = λ n vs rest are. jobs_counted_on files records from to n vs js ks rest counted are

  pub lead_read : (js ks : List Job) → AreReadOn files js ks → LeadOn files records from to js ks
  lead_read js ks on = λ n vs rest are. jobs_read_on files records from to n vs js ks rest on are

  pub next_read : (volumes : List (ℕ × ℕ)) (index : ℕ) (js : List Job) → AreNext files records from to volumes index js → AreRead files js
  next_read volumes index js are = jobs_read files records from to 0 (drop index volumes) js (drop (index + length js) volumes) are

  -- the same volumes, further on
  pub next_lead : (volumes : List (ℕ × ℕ)) (index : ℕ) (js ks : List Job) → length ks ≡ length js → LeadOn files records from to js ks
      → AreNext files records from to volumes index js → AreNext files records from to volumes index ks
  next_lead volumes index js ks long lead are =
      subst (λ n. AreJobs files records from to 0 (drop index volumes) ks (drop (index + n) volumes)) (sym long) (lead 0 (drop index volumes) (drop (index + length js) volumes) are)

pub none_behind : (vs : List (ℕ × ℕ)) (at : ℕ) → at ≤ length vs → nat_eq at (length vs) ≡ is_empty (drop at vs)
none_behind vs at le = by (nat_eq at (length vs)) refl (drop at vs) refl
  where
    by : (b : Bool) → nat_eq at (length vs) ≡ b → (ds : List (ℕ × ℕ)) → drop at vs ≡ ds → b ≡ is_empty ds
    by true e [] d = refl
    by true e (x ∷ ds) d = absurd (omega (arith, eqb-true at (length vs) e, length-drop at vs, ap length d))
    by false e [] d = absurd (eqb-false at (length vs) e (omega (arith, length-drop at vs, ap length d, le)))
    by false e (x ∷ ds) d = refl

-- what holds of each that is left holds of the next, and of those behind it
pub each_left : {X : Type 0} (P : X → Type 0) (xs : List X) (i : ℕ) (d : X) → i < length xs → AllByRecursion P (drop i xs) → P (get_or xs i d) × AllByRecursion P (drop (i + 1) xs)
each_left P xs i d lt all = subst (AllByRecursion P) (drop_more xs i d lt) all

-- what holds of all that come holds of those behind the next, and of the next
pub each_behind : {X : Type 0} (P : X → Type 0) (o : Option X) (xs ys : List X) → ys ≡ option_to_list o ++ xs → AllByRecursion P ys → AllByRecursion P xs
each_behind P None xs ys is all = subst (AllByRecursion P) is all
each_behind P (Some x) xs ys is all = let all_of : AllByRecursion P (x ∷ xs) = subst (AllByRecursion P) is all in all_of.1

pub each_next : {X : Type 0} (P : X → Type 0) (o : Option X) (x : X) (xs ys : List X) → o ≡ Some x → ys ≡ option_to_list o ++ xs → AllByRecursion P ys → P x
each_next {X = X} P o x xs ys some is all =
    let all_of : AllByRecursion P (x ∷ xs) = subst (AllByRecursion P) (is ∙ ap (λ (p : Option X). option_to_list p ++ xs) some) all in
    all_of.0

-- a volume is as long as its file
pub measured_at : (files : Files) (vs : List (ℕ × ℕ)) (i : ℕ) → AllByRecursion (IsMeasured files) vs → i < length vs → IsMeasured files (slice_index_or vs i (0, 0))
measured_at files [] i all lt = absurd (omega (arith, lt))
measured_at files (v ∷ vs) zero all lt = all.0
measured_at files (v ∷ vs) (suc i) all lt = measured_at files vs i all.1 (omega (arith, lt))

-- what holds of each two by their place holds one after another
pub by_place : (records : List MetaRecord) (from to : Moment) (js ks : List Job) → length ks ≡ length js
    → ((i : ℕ) (d : Job) → i < length js → (j : Job) × ((e : Job) → slice_index_or js i e ≡ j) × IsCountedOn records from to j (slice_index_or ks i d)) → AreCountedOn records from to js ks
by_place records from to [] [] long each = tt
by_place records from to [] (k ∷ ks) long each = absurd (omega (arith, long))
by_place records from to (j ∷ js) [] long each = absurd (omega (arith, long))
by_place records from to (j ∷ js) (k ∷ ks) long each =
    let first = each 0 k (omega arith) in (
      subst (λ i. IsCountedOn records from to i k) (sym (first.1 j)) first.2,
      by_place records from to js ks (omega (arith, long)) (λ i d lt. each (suc i) d (omega (arith, lt))),
    )

-- no fault of a job is the disk's
pub no_disk_fault : (js : List Job) (e : ReaderFault) → StopsWith js e → e ≡ DiskFault → ⊥
no_disk_fault [] e stops is = stops
no_disk_fault (j ∷ js) e (inl (at, broken, fault)) is = absurd cc
no_disk_fault (j ∷ js) e (inr (done, stops)) is = no_disk_fault js e stops is

module _ (files : Files) (volumes : List (ℕ × ℕ)) (records : List MetaRecord) (from to : Moment) where
  -- one volume's table behind those so far
  merged_more : (items others : List Item) (rows table : Rows) → rows ≡ table_between records from to items → table ≡ table_between records from to others → merged rows table ≡ table_between records from to (items ++ others)
  merged_more items others rows table was is =
      (λ i. merged (was i) (is i))
      ∙ sym (tables_merge (values_of records (between from to items)) (values_of records (between from to others)))
      ∙ ap table_of (sym (both_between records from to items others))

  far_by : (n : ℕ) (v : ℕ × ℕ) (behind : List (ℕ × ℕ)) (j : Job) (p : Progress) → IsJob files records from to n v behind j → j.progress ≡ p → IsAsFar (files (Volume v.0)) records from to j p
  far_by n v behind j p job is = subst (IsAsFar (files (Volume v.0)) records from to j) is job.counts.far

  one_more : (n : ℕ) (v : ℕ × ℕ) (vs : List (ℕ × ℕ)) (j : Job) (rows : Rows) → IsJob files records from to n v vs j → j.progress ≡ Done → IsSoFar files volumes records from to (v ∷ vs) rows → IsSoFar files volumes records from to vs (merged rows j.table)
  one_more n v vs j rows job done s =
      let d : IsCounted (files (Volume v.0)) (is_empty vs) records from to j.table = subst (λ b. IsCounted (files (Volume v.0)) b records from to j.table) job.last (far_by n v vs j Done job done) in
      record {
        items = s.items ++ d.items;
        goes = goes_past files volumes v vs s.items d.items d.end job.long d.stand d.ends s.goes;
        is = merged_more s.items d.items rows j.table s.is d.is;
      }

  pub all_merged : (n : ℕ) (vs : List (ℕ × ℕ)) (js : List Job) (rest : List (ℕ × ℕ)) (rows others : Rows) → AreJobs files records from to n vs js rest → MergesAll rows js others
      → IsSoFar files volumes records from to vs rows → IsSoFar files volumes records from to rest others
  all_merged n vs [] rest rows others are merges s = subst (λ l. IsSoFar files volumes records from to l others) (sym are) (subst (IsSoFar files volumes records from to vs) (sym merges) s)
  all_merged n [] (j ∷ js) rest rows others are merges s = absurd are
  all_merged n (v ∷ vs) (j ∷ js) rest rows others are merges s =
      all_merged (n + 1) vs js rest (merged rows j.table) others are.1 merges.1 (one_more n v vs j rows are.0 merges.0 s)

  stopped_in : (n : ℕ) (v : ℕ × ℕ) (vs : List (ℕ × ℕ)) (j : Job) (at : ℕ) → IsJob files records from to n v vs j → j.progress ≡ Broken at → (items : List Item) → GoOn files volumes (v ∷ vs) items → IsWholeFault files volumes (NotArchive (Volume j.number) at)
  stopped_in n v vs j at job is items g =
      let b : IsBroken (files (Volume v.0)) (is_empty vs) at = subst (λ c. IsBroken (files (Volume v.0)) c at) job.last (far_by n v vs j (Broken at) job is) in
      let named : Volume v.0 ≡ Volume j.number = ap Volume (sym job.number) in
      (items ++ b.items, g.stop b.items (Volume j.number) at (subst (λ (f : FileId). StopsAt files (v ∷ vs) 132 b.items f at) named (stops_in files v vs b.items at job.long b.stand b.breaks)))

  pub all_stopped : (n : ℕ) (vs : List (ℕ × ℕ)) (js : List Job) (rest : List (ℕ × ℕ)) (rows : Rows) (e : ReaderFault) → AreJobs files records from to n vs js rest → StopsWith js e
      → IsSoFar files volumes records from to vs rows → IsWholeFault files volumes e
  all_stopped n vs [] rest rows e are stops s = absurd stops
  all_stopped n [] (j ∷ js) rest rows e are stops s = absurd are
  all_stopped n (v ∷ vs) (j ∷ js) rest rows e are (inl (at, broken, fault)) s =
      subst (IsWholeFault files volumes) (sym fault) (stopped_in n v vs j at are.0 broken s.items s.goes)
  all_stopped n (v ∷ vs) (j ∷ js) rest rows e are (inr (done, stops)) s = all_stopped (n + 1) vs js rest (merged rows j.table) e are.1 stops (one_more n v vs j rows are.0 done s)

  pub summed_all : (vs : List (ℕ × ℕ)) (rows : Rows) → vs ≡ [] → IsSoFar files volumes records from to vs rows → IsTableOf files volumes records from to rows
  summed_all vs rows none s = record { items = s.items; all = all_past files volumes s.items (subst (λ l. GoOn files volumes l s.items) none s.goes); is = s.is }

-- a fault of the disk or of memory is one at any files
pub lack_fault : (files : Files) (volumes : List (ℕ × ℕ)) (e : ReaderFault) → (e ≡ DiskFault) ⊎ (e ≡ NoMemory) → IsWholeFault files volumes e
lack_fault files volumes e (inl is) = subst (IsWholeFault files volumes) (sym is) tt
lack_fault files volumes e (inr is) = subst (IsWholeFault files volumes) (sym is) tt

pub refused_is_no_disk : (e : ReaderFault) → e ≡ NoMemory → e ≡ DiskFault → ⊥
refused_is_no_disk e is other = cc
