-- One key more.
use Rattle.std.proofs.Common.{◌≡◌, ◌++◌, ◌+◌, ◌∷◌, [], ap, sym, ◌∙◌, length, arith, rules}
use Rattle.mmv_layout.specs.Keys.{key_at, keys_before, ends_before}
use Rattle.mmv_layout.proofs.KeyLists.{keys_more, ends_more}
use Rattle.mmv_layout.proofs.keys.keys_of.Goals as goal

pub loop-i-preserved : goal.loop-i-preserved
loop-i-preserved c =
    let made : c.push_key.new.keys.items ≡ keys_before c.args.words.now c.args.key (c.loop-i.i + 1) = c.in_ok-push_key.ensures ∙ ap (λ l. l ++ key_at c.args.words.now c.args.key c.loop-i.i) c.loop-i.invariant.keys ∙ sym (keys_more c.args.words.now c.args.key c.loop-i.i) in
    let long : c.len.result ≡ length c.push_key.new.keys.items = search rules in
    record {
      keys = made;
      ends = c.in_ok-push.ensures.items ∙ ap (λ l. l ++ c.len.result ∷ []) c.loop-i.invariant.ends ∙ ap (λ n. ends_before c.args.words.now c.args.key c.loop-i.i ++ n ∷ []) (long ∙ ap length made) ∙ sym (ends_more c.args.words.now c.args.key c.loop-i.i);
    }

pub returns-clause-numbers : goal.returns-clause-numbers
returns-clause-numbers c = c.loop-i.invariant.keys ∙ ap (λ n. keys_before c.args.words.now c.args.key n) (omega arith)

pub returns-clause-ends : goal.returns-clause-ends
returns-clause-ends c = c.loop-i.invariant.ends ∙ ap (λ n. ends_before c.args.words.now c.args.key n) (omega arith)
