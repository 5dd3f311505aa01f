-- A metric's words that are written are read again.
use Rattle.std.proofs.Common.{◌≡◌, ◌≢◌, ℕ, ◌<◌, ◌==◌, cond, false, List, [], ◌∷◌, ◌++◌, slice_index_or, codes, refl, ap, ◌∙◌, arith, ne_eqb, Some, None, All}
use Rattle.std.specs.List.{list_any}
use Rattle.std.proofs.lemmas.List.Folds.{list_any_none}
use Rattle.std.proofs.lemmas.List.Elements.{All-weaker}
use Rattle.pcp_base.specs.declared.kind.Kind.{Kind}
use Rattle.pcp_base.specs.declared.kind.Kind.TheVariants as kinds
use Rattle.pcp_base.specs.declared.kind.Semantics.{Semantics}
use Rattle.pcp_base.specs.declared.kind.Semantics.TheVariants as meanings
use Rattle.text_lines.specs.Laws.{EndsWord, IsLineByte}
use Rattle.text_lines.specs.Words.{take_as, name_of}
use Rattle.text_lines.proofs.LineBytes.{plain_bytes}
use Rattle.text_lines.proofs.Splitting.{plain_word, take_as_of}
use Rattle.text_lines.specs.LayoutLaws.{IsNameByte, IsLineName}
use Rattle.text_lines.specs.LayoutSpelling.{kind_part, semantics_part}
use Rattle.text_lines.specs.LayoutWords.{kind_of, other_kind_of, semantics_of}

pub kind_is_read : (kind : Kind) (more : List ℕ) → EndsWord more → take_as kind_of (kind_part kind ++ more) ≡ Some (kind, more)
unfolding kind_of other_kind_of
kind_is_read kinds.I32 more e = take_as_of kind_of (codes "i32") more kinds.I32 (plain_word (codes "i32") refl) e refl
kind_is_read kinds.U32 more e = take_as_of kind_of (codes "u32") more kinds.U32 (plain_word (codes "u32") refl) e refl
kind_is_read kinds.I64 more e = take_as_of kind_of (codes "i64") more kinds.I64 (plain_word (codes "i64") refl) e refl
kind_is_read kinds.U64 more e = take_as_of kind_of (codes "u64") more kinds.U64 (plain_word (codes "u64") refl) e refl
kind_is_read kinds.Float more e = take_as_of kind_of (codes "float") more kinds.Float (plain_word (codes "float") refl) e refl
kind_is_read kinds.Double more e = take_as_of kind_of (codes "double") more kinds.Double (plain_word (codes "double") refl) e refl
kind_is_read kinds.Text more e = take_as_of kind_of (codes "string") more kinds.Text (plain_word (codes "string") refl) e refl
kind_is_read kinds.Elapsed more e = take_as_of kind_of (codes "elapsed") more kinds.Elapsed (plain_word (codes "elapsed") refl) e refl

pub kind_in_line : (kind : Kind) → All IsLineByte (kind_part kind)
kind_in_line kinds.I32 = plain_bytes (codes " i32") refl
kind_in_line kinds.U32 = plain_bytes (codes " u32") refl
kind_in_line kinds.I64 = plain_bytes (codes " i64") refl
kind_in_line kinds.U64 = plain_bytes (codes " u64") refl
kind_in_line kinds.Float = plain_bytes (codes " float") refl
kind_in_line kinds.Double = plain_bytes (codes " double") refl
kind_in_line kinds.Text = plain_bytes (codes " string") refl
kind_in_line kinds.Elapsed = plain_bytes (codes " elapsed") refl

pub semantics_is_read : (semantics : Semantics) (more : List ℕ) → EndsWord more → take_as semantics_of (semantics_part semantics ++ more) ≡ Some (semantics, more)
unfolding semantics_of
semantics_is_read meanings.Counter more e = take_as_of semantics_of (codes "counter") more meanings.Counter (plain_word (codes "counter") refl) e refl
semantics_is_read meanings.Instant more e = take_as_of semantics_of (codes "instant") more meanings.Instant (plain_word (codes "instant") refl) e refl
semantics_is_read meanings.Discrete more e = take_as_of semantics_of (codes "discrete") more meanings.Discrete (plain_word (codes "discrete") refl) e refl

pub semantics_in_line : (semantics : Semantics) → All IsLineByte (semantics_part semantics)
semantics_in_line meanings.Counter = plain_bytes (codes " counter") refl
semantics_in_line meanings.Instant = plain_bytes (codes " instant") refl
semantics_in_line meanings.Discrete = plain_bytes (codes " discrete") refl

-- behind a kind and behind semantics, a word ends
pub kind_ends : (kind : Kind) (more : List ℕ) → EndsWord (kind_part kind ++ more)
kind_ends kinds.I32 more = refl
kind_ends kinds.U32 more = refl
kind_ends kinds.I64 more = refl
kind_ends kinds.U64 more = refl
kind_ends kinds.Float more = refl
kind_ends kinds.Double more = refl
kind_ends kinds.Text more = refl
kind_ends kinds.Elapsed more = refl

pub semantics_ends : (semantics : Semantics) (more : List ℕ) → EndsWord (semantics_part semantics ++ more)
semantics_ends meanings.Counter more = refl
semantics_ends meanings.Instant more = refl
semantics_ends meanings.Discrete more = refl

no_zero_byte : (name : List ℕ) → All IsNameByte name → list_any (λ c. c == 0) name ≡ false
no_zero_byte name h = list_any_none (λ c. c == 0) name (λ k d m. let byte : IsNameByte (slice_index_or name k d) = h k d m in ne_eqb (slice_index_or name k d) 0 (λ e. let p : 0 < slice_index_or name k d = byte.0.0 in omega arith))

name_of_name : (name : List ℕ) → IsLineName name → name_of name ≡ Some name
unfolding name_of
name_of_name [] h = absurd (let p : 0 < 0 = h.some in omega arith)
name_of_name (b ∷ bs) h =
    ap (λ q. cond q None (cond (list_any (λ c. c == 0) (b ∷ bs)) None (Some (b ∷ bs)))) (ne_eqb b 34 h.unquoted)
    ∙ ap (λ q. cond q None (Some (b ∷ bs))) (no_zero_byte (b ∷ bs) h.bytes)

pub name_is_read : (name more : List ℕ) → IsLineName name → EndsWord more → take_as name_of (32 ∷ (name ++ more)) ≡ Some (name, more)
name_is_read name more h e = take_as_of name_of name more name (All-weaker IsNameByte (λ b. b ≢ 32) (λ b p. p.2) name h.bytes) e (name_of_name name h)

pub name_in_line : (name : List ℕ) → IsLineName name → All IsLineByte name
name_in_line name h = All-weaker IsNameByte IsLineByte (λ b p. (p.0.1, p.1)) name h.bytes
