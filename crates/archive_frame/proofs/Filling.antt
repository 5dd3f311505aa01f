-- A label that is written piece after piece over zeros.
use Rattle.std.proofs.Common.{◌≡◌, ℕ, ℤ, ◌+◌, ◌-◌, ◌≤◌, List, [], ◌++◌, length, drop, refl, sym, ap, ◌∙◌, append_assoc, arith}
use Rattle.std.specs.Int.{w32, cast_unsigned}
use Rattle.std.proofs.lemmas.List.{take_at, drop_at, drop-drop, drop-replicate, length-append, append-nil, replicate-append-replicate}
use Rattle.pcp_model.specs.Words.{word, signed_word, length-word, zeros, text_field}
use Rattle.pcp_model.specs.Frame.{frame}
use Rattle.pcp_model.specs.LabelFields.{LabelFields, FitsLabel}
use Rattle.pcp_model.specs.Labels.{label, label_head}
use Rattle.pcp_model.proofs.Lengths.{length-label_head, length-padded}
use Rattle.archive_frame.specs.Overwritten.{over}

pub word_of_signed : (z : ℤ) → word (cast_unsigned w32 z) ≡ signed_word z
unfolding word signed_word
word_of_signed z = refl

-- one more piece
next : (front text : List ℕ) (at room left : ℕ) → length front ≡ at → room ≡ length text + left → over (front ++ zeros room) at text ≡ (front ++ text) ++ zeros left
next front text at room left here fits =
    let behind : drop (at + length text) (front ++ zeros room) ≡ zeros left =
    sym (drop-drop (length text) at (front ++ zeros room)) ∙ ap (drop (length text)) (drop_at front (zeros room) at here)
    ∙ drop-replicate (length text) room 0 ∙ ap zeros (let e : room - length text ≡ left = omega arith in e) in
    ap (λ t. t ++ (text ++ drop (at + length text) (front ++ zeros room))) (take_at front (zeros room) at here)
    ∙ ap (λ t. front ++ (text ++ t)) behind ∙ sym (append_assoc front text (zeros left))

-- a text that is filled up
pad : (front text : List ℕ) (width room left : ℕ) → length text ≤ width → room ≡ width - length text + left → (front ++ text) ++ zeros room ≡ (front ++ text_field width text) ++ zeros left
pad front text width room left short fits =
    ap (λ n. (front ++ text) ++ zeros n) fits ∙ ap (λ t. (front ++ text) ++ t) (sym (replicate-append-replicate (width - length text) left 0))
    ∙ sym (append_assoc (front ++ text) (zeros (width - length text)) (zeros left)) ∙ ap (λ t. t ++ zeros left) (append_assoc front text (zeros (width - length text)))

head_is : (l : LabelFields) (number : ℤ) → (((word 1342514690 ++ word l.pid) ++ word l.start.sec) ++ word l.start.usec) ++ signed_word number ≡ label_head l number
head_is l number = simp append_assoc

label_is : (l : LabelFields) (number : ℤ) → FitsLabel l → ((((word 132 ++ label_head l number) ++ text_field 64 l.host) ++ text_field 40 l.zone) ++ word 132) ≡ label l number
unfolding label frame
label_is l number fits =
    let payload : List ℕ = label_head l number ++ (text_field 64 l.host ++ text_field 40 l.zone) in
    let host : length l.host ≤ 63 = fits.host in
    let zone : length l.zone ≤ 39 = fits.zone in
    let long : length payload + 8 ≡ 132 =
    omega (
      arith,
      length-append (label_head l number) (text_field 64 l.host ++ text_field 40 l.zone),
      length-append (text_field 64 l.host) (text_field 40 l.zone),
      length-label_head l number,
      length-padded 64 l.host (omega arith),
      length-padded 40 l.zone (omega arith),
    ) in
    let flat : (((word 132 ++ label_head l number) ++ text_field 64 l.host) ++ text_field 40 l.zone) ++ word 132 ≡ word 132 ++ (payload ++ word 132) =
    ap (λ t. t ++ word 132) (append_assoc (word 132 ++ label_head l number) (text_field 64 l.host) (text_field 40 l.zone) ∙ append_assoc (word 132) (label_head l number) (text_field 64 l.host ++ text_field 40 l.zone)) ∙ append_assoc (word 132) payload (word 132) in
    flat ∙ ap (λ n. word n ++ (payload ++ word n)) (sym long)

abbrev with_words : LabelFields → ℤ → List ℕ → List ℕ
with_words l number out = over (over (over (over (over (over out 0 (word 132)) 4 (word 1342514690)) 8 (word l.pid)) 12 (word l.start.sec)) 16 (word l.start.usec)) 20 (word (cast_unsigned w32 number))

words_written : (l : LabelFields) (number : ℤ) → with_words l number (zeros 132) ≡ (word 132 ++ label_head l number) ++ zeros 108
words_written l number =
    let f1 : List ℕ = word 132 in
    let f2 : List ℕ = f1 ++ word 1342514690 in
    let f3 : List ℕ = f2 ++ word l.pid in
    let f4 : List ℕ = f3 ++ word l.start.sec in
    let f5 : List ℕ = f4 ++ word l.start.usec in
    let n1 : length f1 ≡ 4 = length-word 132 in
    let n2 : length f2 ≡ 8 = omega (arith, length-append f1 (word 1342514690), length-word 1342514690) in
    let n3 : length f3 ≡ 12 = omega (arith, length-append f2 (word l.pid), length-word l.pid) in
    let n4 : length f4 ≡ 16 = omega (arith, length-append f3 (word l.start.sec), length-word l.start.sec) in
    let n5 : length f5 ≡ 20 = omega (arith, length-append f4 (word l.start.usec), length-word l.start.usec) in
    let s1 = next [] (word 132) 0 132 128 refl (omega (arith, length-word 132)) in
    let s2 = ap (λ t. over t 4 (word 1342514690)) s1 ∙ next f1 (word 1342514690) 4 128 124 n1 (omega (arith, length-word 1342514690)) in
    let s3 = ap (λ t. over t 8 (word l.pid)) s2 ∙ next f2 (word l.pid) 8 124 120 n2 (omega (arith, length-word l.pid)) in
    let s4 = ap (λ t. over t 12 (word l.start.sec)) s3 ∙ next f3 (word l.start.sec) 12 120 116 n3 (omega (arith, length-word l.start.sec)) in
    let s5 = ap (λ t. over t 16 (word l.start.usec)) s4 ∙ next f4 (word l.start.usec) 16 116 112 n4 (omega (arith, length-word l.start.usec)) in
    ap (λ t. over t 20 (word (cast_unsigned w32 number))) s5 ∙ next f5 (word (cast_unsigned w32 number)) 20 112 108 n5 (omega (arith, length-word (cast_unsigned w32 number)))
    ∙ ap (λ t. (f5 ++ t) ++ zeros 108) (word_of_signed number)
    ∙ ap (λ t. t ++ zeros 108) (let flat : f5 ++ signed_word number ≡ word 132 ++ ((((word 1342514690 ++ word l.pid) ++ word l.start.sec) ++ word l.start.usec) ++ signed_word number) = simp append_assoc in flat ∙ ap (λ t. word 132 ++ t) (head_is l number))

-- the label
pub written : (l : LabelFields) (number : ℤ) → FitsLabel l → over (over (over (with_words l number (zeros 132)) 24 l.host) 88 l.zone) 128 (word 132) ≡ label l number
written l number fits =
    let host : length l.host ≤ 63 = fits.host in
    let zone : length l.zone ≤ 39 = fits.zone in
    let f6 : List ℕ = word 132 ++ label_head l number in
    let f7 : List ℕ = f6 ++ text_field 64 l.host in
    let f8 : List ℕ = f7 ++ text_field 40 l.zone in
    let n6 : length f6 ≡ 24 = omega (arith, length-append (word 132) (label_head l number), length-word 132, length-label_head l number) in
    let n7 : length f7 ≡ 88 = omega (arith, length-append f6 (text_field 64 l.host), length-padded 64 l.host (omega arith)) in
    let n8 : length f8 ≡ 128 = omega (arith, length-append f7 (text_field 40 l.zone), length-padded 40 l.zone (omega arith)) in
    let s7 = ap (λ t. over t 24 l.host) (words_written l number) ∙ next f6 l.host 24 108 (108 - length l.host) n6 (omega arith) ∙ pad f6 l.host 64 (108 - length l.host) 44 (omega arith) (omega arith) in
    let s8 = ap (λ t. over t 88 l.zone) s7 ∙ next f7 l.zone 88 44 (44 - length l.zone) n7 (omega arith) ∙ pad f7 l.zone 40 (44 - length l.zone) 4 (omega arith) (omega arith) in
    ap (λ t. over t 128 (word 132)) s8 ∙ next f8 (word 132) 128 4 0 n8 (omega (arith, length-word 132)) ∙ append-nil (f8 ++ word 132) ∙ label_is l number fits

-- the label, where each piece is known by an equation
pub label_written : (l : LabelFields) (number : ℤ) (o1 o2 o3 o4 o5 o6 o7 o8 o9 : List ℕ) (pid sec usec signed : ℕ) (host zone : List ℕ) → FitsLabel l
    → pid ≡ l.pid → sec ≡ l.start.sec → usec ≡ l.start.usec → signed ≡ cast_unsigned w32 number → host ≡ l.host → zone ≡ l.zone
    → o1 ≡ over (zeros 132) 0 (word 132) → o2 ≡ over o1 4 (word 1342514690) → o3 ≡ over o2 8 (word pid) → o4 ≡ over o3 12 (word sec) → o5 ≡ over o4 16 (word usec) → o6 ≡ over o5 20 (word signed)
    → o7 ≡ over o6 24 host → o8 ≡ over o7 88 zone → o9 ≡ over o8 128 (word 132) → o9 ≡ label l number
label_written l number o1 o2 o3 o4 o5 o6 o7 o8 o9 pid sec usec signed host zone fits p s u z h n e1 e2 e3 e4 e5 e6 e7 e8 e9 =
    e9 ∙ ap (λ t. over t 128 (word 132))
    (e8 ∙ ap (λ x. over o7 88 x) n ∙ ap (λ t. over t 88 l.zone)
    (e7 ∙ ap (λ x. over o6 24 x) h ∙ ap (λ t. over t 24 l.host)
    (e6 ∙ ap (λ x. over o5 20 (word x)) z ∙ ap (λ t. over t 20 (word (cast_unsigned w32 number)))
    (e5 ∙ ap (λ x. over o4 16 (word x)) u ∙ ap (λ t. over t 16 (word l.start.usec))
    (e4 ∙ ap (λ x. over o3 12 (word x)) s ∙ ap (λ t. over t 12 (word l.start.sec))
    (e3 ∙ ap (λ x. over o2 8 (word x)) p ∙ ap (λ t. over t 8 (word l.pid)) (e2 ∙ ap (λ t. over t 4 (word 1342514690)) e1)))))))
    ∙ written l number fits
