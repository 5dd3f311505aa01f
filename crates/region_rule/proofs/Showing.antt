-- Where the loads of a reading stand in what its pass has seen, and what they show.
use Rattle.std.proofs.Common.{◌≡◌, ◌≢◌, ℕ, zero, suc, ◌+◌, ◌<◌, ◌≤◌, List, [], ◌∷◌, ◌++◌, All, length, take, slice_index, length-append, append_assoc, append-nil, add-zero, sym, refl, ap, ◌∙◌, subst, arith}
use Rattle.std.proofs.Math.Seq.{take-append_seam}
use Rattle.std.proofs.lemmas.List.{take-append-le}
use Rattle.std.proofs.Common.{◌⊎◌, inl, inr, ⊎_elim, get_or}
use Rattle.std.specs.Prelude.{slice_get, Some}
use Rattle.region_core.specs.declared.act.Act.{Act}
use Rattle.region_core.specs.declared.act.Act.TheVariants.{Load}
use Rattle.region_core.specs.declared.act.Entry.{Entry}
use Rattle.region_core.specs.declared.mode.Mode.{Mode}
use Rattle.region_core.specs.declared.mode.Mode.TheVariants.{Attached}
use Rattle.region_core.specs.Shape.{Shaping, IsShape, IsWord, IsLike}
use Rattle.region_core.specs.State.{State, word, g1, g2, opening, IsIn}
use Rattle.region_core.specs.Journal.{state, state_at, IsJournal}
use Rattle.region_core.specs.Readings.{LoadsAt, Reading, IsFoundBetween, HasLayout}
use Rattle.region_core.proofs.Lists.{at_longer, at_seam}
use Rattle.region_core.proofs.Journals.{state-append, legal-front, legal-back}
use Rattle.region_core.proofs.Sound.{IsSound, sound_run, sound_opening}
use Rattle.region_core.proofs.Stretch.{IsStill, still_refl, still_trans}
use Rattle.region_core.proofs.Runs.{inside_run, wide_run}
use Rattle.region_core.proofs.Positions.{layout_at, shown_image, patch_like}
use Rattle.region_core.specs.Journal.{own, IsLegal}
use Rattle.region_rule.specs.declared.view.View.{View}
use Rattle.region_rule.specs.Views.{opening_of, now, IsFront}
use Rattle.region_rule.specs.Steps.{entry, Extends}
use Rattle.region_rule.specs.Reads.{Reads, numbered_from, WholeReading, ShowsIn, RefusedIn, ReadsImage, ReadsInside}
use Rattle.region_rule.proofs.Relaying.{now_after}

-- a load of word i by pass k stands in the log, at a position from here on, and found n
pub record Spot (start : State) (log : List Entry) (k from i n : ℕ) : Type 0 where
  pub at : ℕ
  pub since : from ≤ at
  pub before : at < length log
  pub loads : LoadsAt log k at i
  pub found : n ≡ word (state_at start log at) i

-- it stands in a longer log too
spot_longer : (start : State) (log more : List Entry) (k from i n : ℕ) → Spot start log k from i n → Spot start (log ++ more) k from i n
spot_longer start log more k from i n s =
    let wide = length-append log more in
    let below = s.before in
    let same : take s.at (log ++ more) ≡ take s.at log = take-append-le s.at log more (omega arith) in
    record {
      at = s.at;
      since = s.since;
      before = omega arith;
      loads = at_longer log more s.at (entry k (Load i)) s.loads;
      found = s.found ∙ ap (λ (es : List Entry). word (state start es) i) (sym same);
    }

-- a view goes on from another one of the same pass
pub record Follows (v w : View) : Type 0 where
  pub number : w.number ≡ v.number
  pub start : w.start ≡ v.start
  pub passes : w.passes ≡ v.passes
  pub seen : IsFront v.seen w.seen

pub follows_trans : (u v w : View) → Follows u v → Follows v w → Follows u w
follows_trans u v w f h = record {
  number = h.number ∙ f.number;
  start = h.start ∙ f.start;
  passes = h.passes ∙ f.passes;
  seen = (f.seen.0 ++ h.seen.0, h.seen.1 ∙ ap (λ (es : List Entry). es ++ h.seen.0) f.seen.1 ∙ append_assoc u.seen f.seen.0 h.seen.0);
}

module _ (S : Shaping) where
  pub follows_step : (v w : View) (act : Act) (n : ℕ) → Extends S v act n w → Follows v w
  follows_step v w act n e = record {
    number = ap (λ (x : View). x.number) e.is;
    start = ap (λ (x : View). x.start) e.is;
    passes = ap (λ (x : View). x.passes) e.is;
    seen = (e.between ++ entry v.number act ∷ [], ap (λ (x : View). x.seen) e.is ∙ append_assoc v.seen e.between (entry v.number act ∷ []));
  }

  -- the position of one load
  pub spot_step : (v w : View) (i n : ℕ) → Extends S v (Load i) n w → Spot (opening_of v) w.seen v.number (length v.seen) i n
  spot_step v w i n e =
      let front : List Entry = v.seen ++ e.between in
      let wide = length-append v.seen e.between in
      let log : List Entry = front ++ entry v.number (Load i) ∷ [] in
      let long = length-append front (entry v.number (Load i) ∷ []) in
      let here : Spot (opening_of v) log v.number (length v.seen) i n = record {
        at = length front;
        since = omega arith;
        before = omega arith;
        loads = at_seam front [] (entry v.number (Load i));
        found = e.found ∙ ap (λ (es : List Entry). word (state (opening_of v) es) i) (sym (take-append_seam front (entry v.number (Load i) ∷ [])));
      } in
      subst (λ (x : View). Spot (opening_of v) x.seen v.number (length v.seen) i n) (sym e.is) here

  pub follows_reads : (v w : View) (found : List (ℕ × ℕ)) → Reads S v found w → Follows v w
  follows_reads v w [] r = record {
    number = ap (λ (x : View). x.number) r;
    start = ap (λ (x : View). x.start) r;
    passes = ap (λ (x : View). x.passes) r;
    seen = ([], ap (λ (x : View). x.seen) r ∙ sym (append-nil v.seen));
  }
  follows_reads v w (x ∷ xs) r = follows_trans v r.0 w (follows_step v r.0 (Load x.0) x.1 r.1) (follows_reads r.0 w xs r.2)

  -- one more load
  pub reads_more : (v u w : View) (found : List (ℕ × ℕ)) (i n : ℕ) → Reads S v found u → Extends S u (Load i) n w → Reads S v (found ++ (i, n) ∷ []) w
  reads_more v u w [] i n r e = (w, subst (λ (x : View). Extends S x (Load i) n w) r e, refl)
  reads_more v u w (x ∷ xs) i n r e = (r.0, r.1, reads_more r.0 u w xs i n r.2 e)

-- the same position, told of the first view
pub spot_since : (u v : View) (log : List Entry) (i n : ℕ) → Follows u v → Spot (opening_of v) log v.number (length v.seen) i n → Spot (opening_of u) log u.number (length u.seen) i n
spot_since u v log i n f s =
    let wide : length v.seen ≡ length u.seen + length f.seen.0 = ap length f.seen.1 ∙ length-append u.seen f.seen.0 in
    let since = s.since in
    record {
      at = s.at;
      since = omega arith;
      before = s.before;
      loads = subst (λ (k : ℕ). LoadsAt log k s.at i) f.number s.loads;
      found = s.found ∙ (λ j. word (state_at (opening (f.start j) (f.passes j)) log s.at) i);
    }

-- the words by rising index, read by index
numbered_at : (first : ℕ) (xs : List ℕ) (i : ℕ) → i < length xs → slice_get (numbered_from first xs) i ≡ Some (first + i, slice_index xs i)
numbered_at first [] i h = absurd (omega arith)
numbered_at first (x ∷ xs) zero h = ap (λ (k : ℕ). Some (k, x)) (sym (add-zero first))
numbered_at first (x ∷ xs) (suc i) h = numbered_at (suc first) xs i (omega arith) ∙ ap (λ (k : ℕ). Some (k, slice_index xs i)) (omega arith)

pub numbered_or : (first : ℕ) (xs : List ℕ) (i : ℕ) (d : ℕ × ℕ) → i < length xs → get_or (numbered_from first xs) i d ≡ (first + i, slice_index xs i)
numbered_or first [] i d h = absurd (omega arith)
numbered_or first (x ∷ xs) zero d h = ap (λ (k : ℕ). (k, x)) (sym (add-zero first))
numbered_or first (x ∷ xs) (suc i) d h = numbered_or (suc first) xs i d (omega arith) ∙ ap (λ (k : ℕ). (k, slice_index xs i)) (omega arith)

pub length-numbered : (first : ℕ) (xs : List ℕ) → length (numbered_from first xs) ≡ length xs
length-numbered first [] = refl
length-numbered first (x ∷ xs) = let h = length-numbered (suc first) xs in omega arith

-- one more word at the end
pub numbered_more : (first : ℕ) (xs : List ℕ) (x : ℕ) → numbered_from first (xs ++ x ∷ []) ≡ numbered_from first xs ++ (first + length xs, x) ∷ []
numbered_more first [] x = ap (λ (k : ℕ). (k, x) ∷ []) (sym (add-zero first))
numbered_more first (y ∷ ys) x = ap (λ (r : List (ℕ × ℕ)). (first, y) ∷ r)
    (numbered_more (suc first) ys x ∙ ap (λ (k : ℕ). numbered_from (suc first) ys ++ (k, x) ∷ []) (omega arith))

module _ (S : Shaping) where
  -- each load of a row has its position
  each_found : (v w : View) (found : List (ℕ × ℕ)) → Reads S v found w → All (λ (x : ℕ × ℕ). Spot (opening_of v) w.seen v.number (length v.seen) x.0 x.1) found
  each_found v w [] r k d h = absurd (omega arith)
  each_found v w (x ∷ xs) r zero d h =
      let f = follows_reads S r.0 w xs r.2 in
      subst (λ (es : List Entry). Spot (opening_of v) es v.number (length v.seen) x.0 x.1) (sym f.seen.1)
      (spot_longer (opening_of v) r.0.seen f.seen.0 v.number (length v.seen) x.0 x.1 (spot_step S v r.0 x.0 x.1 r.1))
  each_found v w (x ∷ xs) r (suc k) d h =
      let below : k < length xs = omega arith in
      let y : ℕ × ℕ = get_or xs k d in
      spot_since v r.0 w.seen y.0 y.1 (follows_step S v r.0 (Load x.0) x.1 r.1) (each_found r.0 w xs r.2 k d below)

  record Placed (v w : View) (first : ℕ) (found : List (ℕ × ℕ)) (last : ℕ) : Type 0 where
    p : ℕ
    q : ℕ
    since : length v.seen ≤ p
    order : p < q
    opens : LoadsAt w.seen v.number p 2
    closes : LoadsAt w.seen v.number q 1
    first_is : first ≡ g2 (state_at (opening_of v) w.seen p)
    last_is : last ≡ g1 (state_at (opening_of v) w.seen q)
    each : All (IsFoundBetween S (opening_of v) w.seen v.number p q) found
    journal : IsJournal S v.start v.passes w.seen
    follows : Follows v w

  -- where all loads of a whole reading stand
  placed : (v w : View) (first last : ℕ) (found : List (ℕ × ℕ)) → WholeReading S v first found last w → Placed v w first found last
  unfolding spot_step spot_longer spot_since
  placed v w first last found r =
      let a : View = r.begun in
      let b : View = r.ended in
      let fa : Follows v a = follows_step S v a (Load 2) first r.opens in
      let fb : Follows a b = follows_reads S a b found r.each in
      let fw : Follows b w = follows_step S b w (Load 1) last r.closes in
      let vb : Follows v b = follows_trans v a b fa fb in
      let aw : Follows a w = follows_trans a b w fb fw in
      let opens : Spot (opening_of v) a.seen v.number (length v.seen) 2 first = spot_step S v a 2 first r.opens in
      let opens' : Spot (opening_of v) w.seen v.number (length v.seen) 2 first = subst (λ (es : List Entry). Spot (opening_of v) es v.number (length v.seen) 2 first) (sym aw.seen.1) (spot_longer (opening_of v) a.seen aw.seen.0 v.number (length v.seen) 2 first opens) in
      let closes : Spot (opening_of b) w.seen b.number (length b.seen) 1 last = spot_step S b w 1 last r.closes in
      let closes' : Spot (opening_of v) w.seen v.number (length v.seen) 1 last = spot_since v b w.seen 1 last vb closes in
      let long : length b.seen ≡ length a.seen + length fb.seen.0 = ap length fb.seen.1 ∙ length-append a.seen fb.seen.0 in
      let before = opens.before in
      let behind = closes.since in
      record {
        p = opens.at;
        q = closes.at;
        since = opens.since;
        order = omega arith;
        opens = opens'.loads;
        closes = closes'.loads;
        first_is = opens'.found;
        last_is = closes'.found;
        each = λ k d h.
            let x : ℕ × ℕ = get_or found k d in
            let s : Spot (opening_of a) b.seen a.number (length a.seen) x.0 x.1 = each_found a b found r.each k d h in
            let s' : Spot (opening_of v) w.seen v.number (length v.seen) x.0 x.1 = spot_since v a w.seen x.0 x.1 fa
            (subst (λ (es : List Entry). Spot (opening_of a) es a.number (length a.seen) x.0 x.1) (sym fw.seen.1) (spot_longer (opening_of a) b.seen fw.seen.0 a.number (length a.seen) x.0 x.1 s)) in
            let low = s.since in
            let high = s.before in
            (s.at, omega arith, omega arith, s'.loads, s'.found);
        journal = subst (λ (n : ℕ). IsJournal S v.start n w.seen) vb.passes (subst (λ (ws : List ℕ). IsJournal S ws b.passes w.seen) vb.start
            (subst (λ (es : List Entry). IsJournal S b.start b.passes es) (sym (ap (λ (x : View). x.seen) r.closes.is)) r.closes.journal));
        follows = follows_trans v b w vb fw;
      }

  -- a whole reading that found two numbers was refused
  pub disagrees : (v w : View) (first last : ℕ) (found : List (ℕ × ℕ)) → WholeReading S v first found last w → first ≢ last → RefusedIn v first last w
  disagrees v w first last found r differ =
      let t = placed v w first last found r in
      (t.p, t.q, record { since = t.since; order = t.order; opens = t.opens; closes = t.closes; first_is = t.first_is; last_is = t.last_is; differ = differ })

  module _ (laws : IsShape S) where
    -- one that found one number is shown
    pub agrees : (v w : View) (first last : ℕ) (found : List (ℕ × ℕ)) → WholeReading S v first found last w → first ≡ last → (form : S.Form) × ShowsIn S v (record { generation = first; form = form; found = found }) w
    agrees v w first last found r same =
        let t = placed v w first last found r in
        let e : g2 (state_at (opening_of v) w.seen t.p) ≡ g1 (state_at (opening_of v) w.seen t.q) = sym t.first_is ∙ same ∙ t.last_is in
        let form : S.Form = S.form (state_at (opening_of v) w.seen t.p).words in (
          form,
          (
            t.p,
            t.q,
            record {
              since = t.since;
              order = t.order;
              opens = t.opens;
              closes = t.closes;
              each = t.each;
              stretch = λ k after before. subst (λ (n : ℕ). HasLayout S (state_at (opening_of v) w.seen k) n form) (sym t.first_is) (layout_at S laws v.start v.passes w.seen t.journal t.p k t.q after before e);
            },
          ),
        )

    -- and where it read every word, they are an image
    pub reads_image : (v w : View) (first last : ℕ) (words : List ℕ) → WholeReading S v first (numbered_from 0 words) last w → first ≡ last → length words ≡ length v.start → ReadsImage S v words w
    reads_image v w first last words r same wide =
        let found : List (ℕ × ℕ) = numbered_from 0 words in
        let t = placed v w first last found r in
        let shows = agrees v w first last found r same in
        let shown = shows.1 in
        let reading : Reading S = record { generation = first; form = shows.0; found = found } in
        let whole = shown_image S laws v.start v.passes w.seen t.journal (length v.seen) v.number shown.0 shown.1 reading words shown.2 wide
        (λ i h. (i, numbered_at 0 words i (omega arith) ∙ ap (λ (k : ℕ). Some (k, slice_index words i)) (omega arith))) in
        record {
          generation = first;
          whole = wide;
          loads = subst (λ (n : ℕ). WholeReading S v first found n w) (sym same) r;
          shown = subst (λ (f : S.Form). ShowsIn S v (record { generation = first; form = f; found = found }) w) (sym whole.1) shown;
          image = whole.0;
        }

    -- one step of a pass that is inside
    record Stays (v u : View) (i n : ℕ) : Type 0 where
      still : IsStill S (now v).words (now u).words
      found : n ≡ slice_index (now u).words i
      mode : u.mode ≡ Attached
      there : IsIn u.mode (now u) u.number

    sound_of : (v : View) → IsJournal S v.start v.passes v.seen → IsSound S (now v)
    sound_of v j = sound_run S laws (opening_of v) v.seen (sound_opening S laws v.start v.passes j.image j.few) j.legal

    stays : (v u : View) (i n : ℕ) → Extends S v (Load i) n u → v.mode ≡ Attached → IsIn v.mode (now v) v.number → Stays v u i n
    stays v u i n e mode there =
        let t : State = state (opening_of v) (v.seen ++ e.between) in
        let legal : IsLegal S (opening_of v) (v.seen ++ e.between) = legal-front S (opening_of v) (v.seen ++ e.between) (entry v.number (Load i) ∷ []) e.journal.legal in
        let sound : IsSound S (now v) = sound_run S laws (opening_of v) v.seen (sound_opening S laws v.start v.passes e.journal.image e.journal.few) (legal-front S (opening_of v) v.seen e.between legal) in
        let still : IsStill S (now v).words (state (now v) e.between).words = inside_run S laws (now v) v.number e.between sound (legal-back S (opening_of v) v.seen e.between legal) e.others
        (subst (λ (m : Mode). IsIn m (now v) v.number) mode there) in
        let same : now u ≡ t = now_after S v u (Load i) n e in
        record {
          still = subst (λ (s : State). IsStill S (now v).words s.words) (sym (same ∙ state-append (opening_of v) v.seen e.between)) still;
          found = e.found ∙ ap (λ (s : State). slice_index s.words i) (sym same);
          mode = ap (λ (x : View). x.mode) e.is ∙ mode;
          there = e.mode;
        }

    -- the word was what the first words have, or takes this value
    abbrev Fits : List ℕ → ℕ × ℕ → Type 0
    Fits words x = (x.1 ≡ slice_index words x.0) ⊎ (IsWord x.1 × S.Takes (S.form words) x.0 x.1)

    fits_before : (ws us : List ℕ) (x : ℕ × ℕ) → IsStill S ws us → Fits us x → Fits ws x
    fits_before ws us x still = ⊎_elim
        (λ (e : x.1 ≡ slice_index us x.0). ⊎_elim
        (λ (d : slice_index us x.0 ≡ slice_index ws x.0). inl (e ∙ d))
        (λ (d : IsWord (slice_index us x.0) × S.Takes (S.form ws) x.0 (slice_index us x.0)). inr (subst (λ (n : ℕ). IsWord n × S.Takes (S.form ws) x.0 n) (sym e) d))
        (still.each x.0))
        (λ (d : IsWord x.1 × S.Takes (S.form us) x.0 x.1). inr (d.0, subst (λ (f : S.Form). S.Takes f x.0 x.1) still.form_is d.1))

    inside_still : (v w : View) (found : List (ℕ × ℕ)) → Reads S v found w → v.mode ≡ Attached → IsIn v.mode (now v) v.number → S.IsImage (now v).words → IsStill S (now v).words (now w).words
    inside_still v w [] r mode there image = subst (λ (x : View). IsStill S (now v).words (now x).words) (sym r) (still_refl S (now v).words image)
    inside_still v w (x ∷ xs) r mode there image =
        let s : Stays v r.0 x.0 x.1 = stays v r.0 x.0 x.1 r.1 mode there in
        still_trans S (now v).words (now r.0).words (now w).words s.still (inside_still r.0 w xs r.2 s.mode s.there s.still.image)

    inside_each : (v w : View) (found : List (ℕ × ℕ)) → Reads S v found w → v.mode ≡ Attached → IsIn v.mode (now v) v.number → All (Fits (now v).words) found
    inside_each v w [] r mode there k d h = absurd (omega arith)
    inside_each v w (x ∷ xs) r mode there zero d h =
        let s : Stays v r.0 x.0 x.1 = stays v r.0 x.0 x.1 r.1 mode there in
        fits_before (now v).words (now r.0).words x s.still (inl s.found)
    inside_each v w (x ∷ xs) r mode there (suc k) d h =
        let s : Stays v r.0 x.0 x.1 = stays v r.0 x.0 x.1 r.1 mode there in
        fits_before (now v).words (now r.0).words (get_or xs k d) s.still (inside_each r.0 w xs r.2 s.mode s.there k d (omega arith))

    journal_of : (v w : View) (words : List ℕ) → Reads S v (numbered_from 0 words) w → 0 < length words → IsJournal S v.start v.passes v.seen
    journal_of v w [] r h = absurd (omega arith)
    journal_of v w (x ∷ xs) r h =
        let e = r.1 in
        let j = e.journal in
        record {
          image = j.image;
          wide = j.wide;
          few = j.few;
          legal = legal-front S (opening_of v) v.seen e.between (legal-front S (opening_of v) (v.seen ++ e.between) (entry v.number (Load 0) ∷ []) j.legal);
        }

    -- every word read while the pass is inside: an image of the form that stands
    pub reads_inside : (v w : View) (words : List ℕ) → Reads S v (numbered_from 0 words) w → v.mode ≡ Attached → IsIn v.mode (now v) v.number → 0 < length words → length words ≡ length v.start → ReadsInside S v words w
    reads_inside v w words r mode there some_of wide =
        let journal : IsJournal S v.start v.passes v.seen = journal_of v w words r some_of in
        let here : IsStill S (now v).words (now v).words = inside_run S laws (now v) v.number [] (sound_of v journal) tt refl (subst (λ (m : Mode). IsIn m (now v) v.number) mode there) in
        let still : IsStill S (now v).words (now w).words = inside_still v w (numbered_from 0 words) r mode there here.image in
        let long : length (now v).words ≡ length v.start = wide_run (opening_of v) v.seen in
        let count = length-numbered 0 words in
        let like : IsLike S (now v).words words = patch_like S laws (now v).words words here.image (wide ∙ sym long)
        (λ i h. subst (λ (x : ℕ × ℕ). Fits (now v).words x) (numbered_or 0 words i (0, 0) (omega arith) ∙ ap (λ (k : ℕ). (k, slice_index words i)) (omega arith))
        (inside_each v w (numbered_from 0 words) r mode there i (0, 0) (omega arith))) in
        record { whole = wide; loads = r; image = like.image; form = like.form ∙ sym still.form_is; same = still.form_is }

-- a pass's mode is told after each load
pub reads_there : (S : Shaping) (v w : View) (found : List (ℕ × ℕ)) → Reads S v found w → IsIn v.mode (now v) v.number → IsIn w.mode (now w) w.number
reads_there S v w [] r there = subst (λ (x : View). IsIn x.mode (now x) x.number) (sym r) there
reads_there S v w (x ∷ xs) r there = let e = r.1 in reads_there S r.0 w xs r.2 e.mode

-- and so are its own entries
pub reads_had : (S : Shaping) (v w : View) (found : List (ℕ × ℕ)) → Reads S v found w → own v.number v.seen ≡ v.own → own w.number w.seen ≡ w.own
reads_had S v w [] r had = subst (λ (x : View). own x.number x.seen ≡ x.own) (sym r) had
reads_had S v w (x ∷ xs) r had = let e = r.1 in reads_had S r.0 w xs r.2 e.had
