use Rattle.std.proofs.Common.{◌≡◌, ℕ, ℤ, negsuc, Bool, true, false, List, Option, refl, sym, ap, ◌∙◌, cond, to_z, of_z, w32}
use Rattle.std.specs.Prelude.{find, IfOk, Result, Ok, Err}
use Rattle.std.specs.Option.{option_copied}
use Rattle.std.specs.Ordering.{int_eq}
use Rattle.std.proofs.lemmas.Bool.Decides.{Decides-int_eq}
use Rattle.std.proofs.lemmas.Int.{to_z-of_z}
use Rattle.pcp_base.specs.declared.memory.NoMemory.{NoMemory as Refusal}
use Rattle.pdu_codec.specs.declared.pdu.Pdu.{Pdu}
use Rattle.pdu_codec.specs.declared.pdu.Pdu.TheVariants as pdus
use Rattle.pmcd_session.specs.Replies.{instances_reply, one_instance}
use Rattle.pmcd_session.proofs.replies.instances_reply.Goals as goal

is_other : (x y : ℤ) → (x ≡ y → ⊥) → int_eq x y ≡ false
is_other x y h = by_test (int_eq x y) refl
  where
    by_test : (b : Bool) → int_eq x y ≡ b → int_eq x y ≡ false
    by_test true e = absurd (h ((Decides-int_eq x y).0 e))
    by_test false e = e

-- one instance is asked for
one_chosen : (indom : ℕ) (instance seen : ℤ) (pairs given : List (ℤ × List ℕ)) (found : Option (ℤ × List ℕ)) (r : Result Pdu Refusal) → int_eq instance (negsuc 0) ≡ false → seen ≡ instance → given ≡ pairs
    → found ≡ find (λ (pair : ℤ × List ℕ). int_eq pair.0 seen) given → IfOk r (λ reply. reply ≡ one_instance indom found) → IfOk r (λ reply. reply ≡ instances_reply indom instance pairs)
one_chosen indom instance seen pairs given found (Ok reply) other same all is h =
    h ∙ ap (one_instance indom) (is ∙ ap (λ (z : ℤ). find (λ (pair : ℤ × List ℕ). int_eq pair.0 z) given) same ∙ ap (λ (ps : List (ℤ × List ℕ)). find (λ (pair : ℤ × List ℕ). int_eq pair.0 instance) ps) all)
    ∙ ap (λ (b : Bool). cond b (pdus.Instance indom pairs) (one_instance indom (find (λ (pair : ℤ × List ℕ). int_eq pair.0 instance) pairs))) (sym other)
one_chosen indom instance seen pairs given found (Err refused) other same all is h = tt

pub returns : goal.returns
returns c =
    let same : to_z w32 (of_z w32 c.args.instance) ≡ c.args.instance = to_z-of_z w32 c.args.instance c.ranges.instance in
    one_chosen c.args.indom c.args.instance (to_z w32 (of_z w32 c.args.instance)) c.args.pairs c.as_slice.result.now (option_copied c.pair_with.result) c.one_instance.result
    (is_other c.args.instance (negsuc 0) (λ e. c.if-instance-eqminus1.false (ap (of_z w32) e))) same c.as_slice.ensures c.pair_with.ensures c.one_instance.ensures
