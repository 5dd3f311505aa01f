use Rattle.std.proofs.Common.{◌≡◌, ◌-◌, ℕ, ◌+◌, List, length, take, drop, refl, sym, ap, ◌∙◌, subst, arith}
use Rattle.pcp_base.specs.Fields.{number_at}
use Rattle.pcp_model.specs.Disk.{contents_of}
use Rattle.archive_frame.specs.Steps.{IsSize}
use Rattle.archive_loading.proofs.Frames.{no_frame, not_torn, taken_whole, sized_by}
use Rattle.archive_loading.proofs.forward.take_rest.Goals as goal

pub returns-in-Wrong-clause-taken : goal.returns-in-Wrong-clause-taken
returns-in-Wrong-clause-taken g c = λ tells.
    let bytes : List ℕ = contents_of (g.D.Disk.held c.args.disk.now) c.args.file in
    let first : List ℕ = c.args.frame.now.items in
    let there = c.requires.there tells in
    let word : c.word_of.result ≡ number_at first 0 = c.word_of.ensures ∙ ap (λ l. number_at l 0) c.deref.ensures.value in
    let wrong : IsSize (number_at first 0) → ⊥ = λ s. c.in-Wrong.ensures (subst IsSize (sym word) s) in
    (no_frame bytes first c.args.at there.1 wrong, not_torn bytes first c.args.at there.1 (omega (arith, there.0, c.requires.left)) wrong)

pub returns-in_ok-take_bytes-in-Whole-clause-taken : goal.returns-in_ok-take_bytes-in-Whole-clause-taken
returns-in_ok-take_bytes-in-Whole-clause-taken g c = λ tells.
    let bytes : List ℕ = contents_of (g.D.Disk.held c.args.disk.now) c.args.file in
    let first : List ℕ = c.args.frame.now.items in
    let size : ℕ = c.in-Whole.size in
    let there = c.requires.there tells in
    let word : c.word_of.result ≡ number_at first 0 = c.word_of.ensures ∙ ap (λ l. number_at l 0) c.deref.ensures.value in
    taken_whole bytes first (take (size - 4) (drop (c.args.at + 4) bytes)) c.take_bytes.new.out.items c.args.at size there.1 c.requires.word refl
    (c.in_ok-take_bytes-in-Whole.ensures.bytes tells) (c.in-Whole.ensures.0 ∙ word) (subst IsSize word c.in-Whole.ensures.1)
    (omega (arith, c.in-Whole.ensures.0, c.in-Whole.ensures.2, there.0))

pub returns-in_ok-take_bytes-in-Whole-clause-within : goal.returns-in_ok-take_bytes-in-Whole-clause-within
returns-in_ok-take_bytes-in-Whole-clause-within g c =
    let first : List ℕ = c.args.frame.now.items in
    let size : ℕ = c.in-Whole.size in
    let made = c.in_ok-take_bytes-in-Whole.ensures in
    let word : c.word_of.result ≡ number_at first 0 = c.word_of.ensures ∙ ap (λ l. number_at l 0) c.deref.ensures.value in
    let long : length c.take_bytes.new.out.items ≡ length first + (size - 4) = made.length in
    let sized : IsSize (number_at first 0) = subst IsSize word c.in-Whole.ensures.1 in (
      sized_by first c.take_bytes.new.out.items size c.requires.word made.front long (c.in-Whole.ensures.0 ∙ word) sized,
      omega (arith, long, c.requires.word, c.requires.left, c.in-Whole.ensures.0, c.in-Whole.ensures.2, word, sized.0),
    )
