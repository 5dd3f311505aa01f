-- Texts that go to a sink in pieces, and how a call ends that wrote so.
use Rattle.std.proofs.Common.{◌≡◌, inl, inr, ℕ, ◌+◌, ◌≤◌, Bool, true, false, List, [], ◌++◌, length, take, drop, refl, sym, ap, ◌∙◌, subst, arith, append_assoc, append-nil}
use Rattle.std.proofs.lemmas.List.{take-append-drop}
use Rattle.std.proofs.Math.Seq.{take-append_seam, take-append-add}
use Rattle.pcp_outside.specs.Causes.{Rose}
use Rattle.pcp_outside.specs.declared.streams.Sink.{Ghosts as SinkGhosts}
use Rattle.pm_words.specs.Refusals.{Wrote}
use Rattle.pcp_outside.specs.Sides.{SinkSide, sink_side}
use Rattle.pm_words.specs.Streams.{IsFront, IsSent, Sends}

-- a count that rose, counted from before, or up to a later moment
pub rose_later : (a b c : ℕ) → a ≤ b → Rose b c → Rose a c
rose_later a b c low (inl more) = inl (omega (arith, low, more))
rose_later a b c low (inr full) = inr full

rose_kept : (a b c : ℕ) → Rose a b → b ≤ c → Rose a c
rose_kept a b c (inl more) low = inl (omega (arith, low, more))
rose_kept a b c (inr full) low = inr (omega (arith, low, full))

-- a sink that failed isn't well
pub not_well : {A : Type 0} → true ≡ false → A
not_well well = let e : true ≡ false = well in cc

-- what begins a text begins a longer one
pub longer_text : (some text more : List ℕ) → IsFront some text → IsFront some (text ++ more)
longer_text some text more (rest, is) = (rest ++ more, ap (λ t. t ++ more) is ∙ append_assoc some rest more)

behind_text : (text some piece : List ℕ) → IsFront some piece → IsFront (text ++ some) (text ++ piece)
behind_text text some piece (rest, is) = (rest, ap (λ t. text ++ t) is ∙ sym (append_assoc text some rest))

pub taken_front : (n : ℕ) (text : List ℕ) → IsFront (take n text) text
taken_front n text = (drop n text, sym (take-append-drop n text))

pub front_taken : (some text : List ℕ) → IsFront some text → some ≡ take (length some) text
front_taken some text (rest, is) = sym (take-append_seam some rest) ∙ ap (take (length some)) (sym is)

module _ {O : Type 0} (g : SinkGhosts O) where
  -- nothing was sent
  pub unsent : (a : O) (failed : Bool) → failed ≡ false → IsSent (sink_side g a a) [] failed
  unsent a failed fresh = subst (IsSent (sink_side g a a) []) (sym fresh) (record { later = omega arith; quiet = λ well. refl; given = λ tells. sym (append-nil (g.written a)) })

  pub unmoved : (a : O) (failed : Bool) → Sends (sink_side g a a) failed [] failed
  unmoved a false = record { later = omega arith; quiet = λ well. refl; given = λ tells. sym (append-nil (g.written a)) }
  unmoved a true = (refl, omega arith, λ tells. refl)

  -- one piece behind another
  pub sent_on : (a b c : O) (text piece : List ℕ) (failed now : Bool) → IsSent (sink_side g a b) text failed → Sends (sink_side g b c) failed piece now → IsSent (sink_side g a c) (text ++ piece) now
  sent_on a b c text piece false false first more = record {
    later = omega (arith, first.later, more.later);
    quiet = λ well. more.quiet refl ∙ first.quiet refl;
    given = λ tells. more.given tells ∙ ap (λ t. t ++ piece) (first.given tells) ∙ append_assoc (g.written a) text piece;
  }
  sent_on a b c text piece false true first more = record {
    later = omega (arith, first.later, more.later);
    quiet = λ well. not_well well;
    given = (
      rose_later (g.faults a) (g.faults b) (g.faults c) first.later more.given.0,
      λ tells.
          let m = more.given.1 tells in
          (text ++ m.0, behind_text text m.0 piece m.1, m.2 ∙ ap (λ t. t ++ m.0) (first.given tells) ∙ append_assoc (g.written a) text m.0),
    );
  }
  sent_on a b c text piece true false first more = let e : false ≡ true = more.0 in cc
  sent_on a b c text piece true true first more = record {
    later = omega (arith, first.later, more.1);
    quiet = λ well. not_well well;
    given = (
      rose_kept (g.faults a) (g.faults b) (g.faults c) first.given.0 more.1,
      λ tells.
          let m = first.given.1 tells in
          (m.0, longer_text m.0 text piece m.1, more.2 tells ∙ m.2),
    );
  }

  -- a line behind what was sent
  pub told_behind : (a b c : O) (text line : List ℕ) → g.tells → IsSent (sink_side g a b) text false → Wrote (g.faults b) (g.faults c) (g.written b) (g.written c) line
      → Wrote (g.faults a) (g.faults c) (g.written a) (g.written c) (text ++ line)
  told_behind a b c text line tells first (inl all) = inl (all ∙ ap (λ t. t ++ line) (first.given tells) ∙ append_assoc (g.written a) text line)
  told_behind a b c text line tells first (inr (rose, n, front)) = inr (
    rose_later (g.faults a) (g.faults b) (g.faults c) first.later rose,
    length text + n,
    front ∙ ap (λ t. t ++ take n line) (first.given tells) ∙ append_assoc (g.written a) text (take n line) ∙ ap (λ t. g.written a ++ t) (sym (take-append-add text line n)),
  )

-- a line that isn't written, since the sink had failed before
pub told_no_more : (k : SinkSide) (text line : List ℕ) → IsSent k text true → k.tells → Wrote k.faults k.faults_after k.written k.after (text ++ line)
told_no_more k text line sent tells =
    let m = sent.given.1 tells in
    inr (sent.given.0, length m.0, m.2 ∙ ap (λ t. k.written ++ t) (front_taken m.0 (text ++ line) (longer_text m.0 text line m.1)))
