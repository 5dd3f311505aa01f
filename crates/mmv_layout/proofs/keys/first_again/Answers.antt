-- What is added is new, and then it was seen.
use Rattle.std.proofs.Common.{rules, ◌≡◌, ℕ, ◌∙◌, ◌<◌, ◌≤◌, sym, subst, ap, arith, bytes_eq, length, get_or, ◌&&◌, ◌+◌, Bor, List}
use Rattle.std.specs.Vec.{vec_len}
use Rattle.std.specs.List.{list_any}
use Rattle.mmv_layout.specs.Keys.{key_at, keys_before, is_new_key}
use Rattle.mmv_layout.proofs.Below.{all_none, all_more, some_none}
use Rattle.mmv_layout.proofs.Seen.{added_new, seen_more}
use Rattle.mmv_layout.proofs.KeyLists.{keys_none, ends_count, end_read, keys_length, keys_within, key_stands}
use Rattle.mmv_layout.proofs.keys.first_again.Goals as goal

pub loop-i-init : goal.loop-i-init
loop-i-init c = record {
  new = all_none _;
  seen = λ q. ap (λ ks. list_any (λ k. bytes_eq q k.now) ks) c.new-seen.ensures.empty ∙ sym (some_none _);
  begins = sym (ap length (keys_none c.args.words.now c.args.key));
}

pub index-end-requires : goal.index-end-requires
index-end-requires c =
    let long : vec_len c.in_ok-keys.keys.ends ≡ length c.in_ok-keys.keys.ends.items = search rules in
    let count : vec_len c.in_ok-keys.keys.ends ≡ c.args.count = long ∙ ap length c.in_ok-keys.ensures.ends ∙ ends_count c.args.words.now c.args.key c.args.count in
    let below : c.loop-i.i < c.args.count = omega arith in
    subst (λ n. c.loop-i.i < n) (sym count) below

pub between-part-requires-clause-order : goal.between-part-requires-clause-order
between-part-requires-clause-order c =
    let read : c.index-end.result.now ≡ get_or c.in_ok-keys.keys.ends.items c.loop-i.i c.index-end.result.now = search rules in
    let end : c.index-end.result.now ≡ length (keys_before c.args.words.now c.args.key (c.loop-i.i + 1)) = end_read c.args.words.now c.args.key c.args.count c.loop-i.i c.index-end.result.now c.in_ok-keys.keys.ends.items (omega arith) c.in_ok-keys.ensures.ends read in
    let long : length (keys_before c.args.words.now c.args.key (c.loop-i.i + 1)) ≡ length (keys_before c.args.words.now c.args.key c.loop-i.i) + length (key_at c.args.words.now c.args.key c.loop-i.i) = keys_length c.args.words.now c.args.key c.loop-i.i in
    let start : c.loop-i.start ≡ length (keys_before c.args.words.now c.args.key c.loop-i.i) = c.loop-i.invariant.begins in
    omega arith

pub between-part-requires-clause-within : goal.between-part-requires-clause-within
between-part-requires-clause-within c =
    let read : c.index-end.result.now ≡ get_or c.in_ok-keys.keys.ends.items c.loop-i.i c.index-end.result.now = search rules in
    let end : c.index-end.result.now ≡ length (keys_before c.args.words.now c.args.key (c.loop-i.i + 1)) = end_read c.args.words.now c.args.key c.args.count c.loop-i.i c.index-end.result.now c.in_ok-keys.keys.ends.items (omega arith) c.in_ok-keys.ensures.ends read in
    let all : length c.as_slice.result.now ≡ length (keys_before c.args.words.now c.args.key c.args.count) = ap length (c.as_slice.ensures.value ∙ c.in_ok-keys.ensures.numbers) in
    let within : length (keys_before c.args.words.now c.args.key (c.loop-i.i + 1)) ≤ length (keys_before c.args.words.now c.args.key c.args.count) = keys_within c.args.words.now c.args.key c.args.count (c.loop-i.i + 1) (omega arith) in
    omega arith

pub returns-then-not-is_new : goal.returns-then-not-is_new
returns-then-not-is_new c =
    let read : c.index-end.result.now ≡ get_or c.in_ok-keys.keys.ends.items c.loop-i.i c.index-end.result.now = search rules in
    let end : c.index-end.result.now ≡ length (keys_before c.args.words.now c.args.key (c.loop-i.i + 1)) = end_read c.args.words.now c.args.key c.args.count c.loop-i.i c.index-end.result.now c.in_ok-keys.keys.ends.items (omega arith) c.in_ok-keys.ensures.ends read in
    let is : c.between-part.result.now ≡ key_at c.args.words.now c.args.key c.loop-i.i =
    c.between-part.ensures ∙ key_stands c.args.words.now c.args.key c.args.count c.loop-i.i c.loop-i.start c.index-end.result.now c.as_slice.result.now (omega arith) (c.as_slice.ensures.value ∙ c.in_ok-keys.ensures.numbers) c.loop-i.invariant.begins end in
    record {
      within = omega arith;
      before = c.loop-i.invariant.new;
      here = λ below.
          sym (c.in_ok-is_new.ensures.added ∙ added_new (λ (k : Bor (List ℕ)). k.now) c.args.words.now c.args.key c.loop-i.i c.between-part.result c.loop-i.seen.keys is c.loop-i.invariant.seen)
          ∙ c.if-not-is_new.true;
    }

pub loop-i-preserved : goal.loop-i-preserved
loop-i-preserved c =
    let read : c.index-end.result.now ≡ get_or c.in_ok-keys.keys.ends.items c.loop-i.i c.index-end.result.now = search rules in
    let end : c.index-end.result.now ≡ length (keys_before c.args.words.now c.args.key (c.loop-i.i + 1)) = end_read c.args.words.now c.args.key c.args.count c.loop-i.i c.index-end.result.now c.in_ok-keys.keys.ends.items (omega arith) c.in_ok-keys.ensures.ends read in
    let is : c.between-part.result.now ≡ key_at c.args.words.now c.args.key c.loop-i.i =
    c.between-part.ensures ∙ key_stands c.args.words.now c.args.key c.args.count c.loop-i.i c.loop-i.start c.index-end.result.now c.as_slice.result.now (omega arith) (c.as_slice.ensures.value ∙ c.in_ok-keys.ensures.numbers) c.loop-i.invariant.begins end in
    record {
      new =
          all_more c.loop-i.i (is_new_key c.args.words.now c.args.key)
          ∙ ap (λ b. b && is_new_key c.args.words.now c.args.key c.loop-i.i) c.loop-i.invariant.new
          ∙ sym (c.in_ok-is_new.ensures.added ∙ added_new (λ (k : Bor (List ℕ)). k.now) c.args.words.now c.args.key c.loop-i.i c.between-part.result c.loop-i.seen.keys is c.loop-i.invariant.seen)
          ∙ c.if-not-is_new.false;
      seen = λ q.
          ap (λ ks. list_any (λ k. bytes_eq q k.now) ks) c.in_ok-is_new.ensures.keys
          ∙ seen_more (λ (k : Bor (List ℕ)). k.now) c.args.words.now c.args.key c.loop-i.i c.between-part.result c.loop-i.seen.keys is c.loop-i.invariant.seen q;
      begins = end;
    }
