-- What stands at the front of bytes is one word, one text, one frame, one label, one entry.
use Rattle.std.proofs.Common.{◌≡◌, ◌≢◌, inl, inr, ℕ, ℤ, ◌+◌, ◌<◌, ◌≤◌, List, [], ◌∷◌, ◌++◌, length, take, drop, refl, sym, ap, ◌∙◌, subst, append_assoc, arith, length-append}
use Rattle.std.specs.Prelude.{FitsSigned}
use Rattle.std.specs.Int.{w32, cast_unsigned, cast_signed, from_be_bytes}
use Rattle.std.specs.List.{AllByRecursion}
use Rattle.std.proofs.lemmas.Int.{ints, to_z-of_z}
use Rattle.std.proofs.lemmas.List.{take_at, drop_at, take-append-le, append-nil}
use Rattle.std.proofs.lemmas.List.Elements.{All-head, All-tail}
use Rattle.pcp_base.specs.Texts.{IsText}
use Rattle.pcp_model.specs.declared.records.Entry.{Entry}
use Rattle.pcp_model.specs.Archive.{AreRead, LabelledFile}
use Rattle.pcp_model.specs.Words.{word, signed_word, length-word}
use Rattle.pcp_model.specs.Frame.{frame, frames, IsFrameable, IsTorn}
use Rattle.pcp_model.specs.LabelFields.{LabelFields}
use Rattle.pcp_model.specs.Labels.{label_head, IsLabel}
use Rattle.pcp_model.specs.Records.{entry, entries, FitsEntry}
use Rattle.pcp_model.proofs.Lengths.{length-frame, length-label_head}
use Rattle.pcp_model.proofs.Cuts.{number_of_word, front_of_frame, length_of_label, length-entry, frameable}

-- texts of one length in front
pub both : (a b x y : List ℕ) → length a ≡ length b → a ++ x ≡ b ++ y → (a ≡ b) × (x ≡ y)
both a b x y long e = (
  sym (take_at a x (length b) long) ∙ ap (take (length b)) e ∙ take_at b y (length b) refl,
  sym (drop_at a x (length b) long) ∙ ap (drop (length b)) e ∙ drop_at b y (length b) refl,
)

pub both_words : (m n : ℕ) (x y : List ℕ) → m < 4294967296 → n < 4294967296 → word m ++ x ≡ word n ++ y → (m ≡ n) × (x ≡ y)
both_words m n x y one two e =
    let p : (word m ≡ word n) × (x ≡ y) = both (word m) (word n) x y (length-word m ∙ sym (length-word n)) e in
    (sym (number_of_word m one) ∙ ap (from_be_bytes w32) p.0 ∙ number_of_word n two, p.1)

pub word_of_signed : (z : ℤ) → signed_word z ≡ word (cast_unsigned w32 z)
unfolding word signed_word
word_of_signed z = refl

pub unsigned_low : (z : ℤ) → FitsSigned w32 z → cast_unsigned w32 z < 4294967296
unsigned_low z fits = omega (arith, ints)

pub both_signed : (m n : ℤ) (x y : List ℕ) → FitsSigned w32 m → FitsSigned w32 n → signed_word m ++ x ≡ signed_word n ++ y → (m ≡ n) × (x ≡ y)
both_signed m n x y one two e =
    let flat : word (cast_unsigned w32 m) ++ x ≡ word (cast_unsigned w32 n) ++ y = ap (λ t. t ++ x) (sym (word_of_signed m)) ∙ e ∙ ap (λ t. t ++ y) (word_of_signed n) in
    let p : (cast_unsigned w32 m ≡ cast_unsigned w32 n) × (x ≡ y) = both_words (cast_unsigned w32 m) (cast_unsigned w32 n) x y (unsigned_low m one) (unsigned_low n two) flat in
    (sym (to_z-of_z w32 m one) ∙ ap (cast_signed w32) p.0 ∙ to_z-of_z w32 n two, p.1)

-- no text with its zero byte begins another
pub one_text : (a b x y : List ℕ) → IsText a → IsText b → a ++ 0 ∷ x ≡ b ++ 0 ∷ y → a ≡ b
one_text [] [] x y p q e = refl
one_text [] (c ∷ b) x y p q e = absurd (All-head (λ n. n ≢ 0) c b q (sym (let h : 0 ≡ c = cc in h)))
one_text (c ∷ a) [] x y p q e = absurd (All-head (λ n. n ≢ 0) c a p (let h : c ≡ 0 = cc in h))
one_text (c ∷ a) (d ∷ b) x y p q e =
    let first : c ≡ d = cc in
    let others : a ++ 0 ∷ x ≡ b ++ 0 ∷ y = cc in
    let rest : a ≡ b = one_text a b x y (All-tail (λ n. n ≢ 0) c a p) (All-tail (λ n. n ≢ 0) d b q) others in
    ap (λ n. n ∷ a) first ∙ ap (λ t. d ∷ t) rest

-- no framed record begins another
pub both_frames : (a b x y : List ℕ) → IsFrameable a → IsFrameable b → frame a ++ x ≡ frame b ++ y → (a ≡ b) × (x ≡ y)
unfolding frame
both_frames a b x y one two e =
    let m : ℕ = length a + 8 in
    let n : ℕ = length b + 8 in
    let few : length a ≤ 16777208 = one.most in
    let low : length b ≤ 16777208 = two.most in
    let flat : word m ++ ((a ++ word m) ++ x) ≡ word n ++ ((b ++ word n) ++ y) =
    sym (append_assoc (word m) (a ++ word m) x) ∙ e ∙ append_assoc (word n) (b ++ word n) y in
    let sizes = both_words m n ((a ++ word m) ++ x) ((b ++ word n) ++ y) (omega arith) (omega arith) flat in
    let size : m ≡ n = sizes.0 in
    let long : length a ≡ length b = omega arith in
    let payloads = both a b (word m ++ x) (word n ++ y) long (sym (append_assoc a (word m) x) ∙ sizes.1 ∙ append_assoc b (word n) y) in
    (payloads.0, (both_words m n x y (omega arith) (omega arith) payloads.1).1)

-- a torn end has no whole frame in front
pub torn_has_none : (payload rest : List ℕ) → IsFrameable payload → IsTorn (frame payload ++ rest) → ⊥
torn_has_none payload rest fits (inl few) =
    let size : length (frame payload ++ rest) ≡ length (frame payload) + length rest = length-append (frame payload) rest in
    omega (arith, length-frame payload)
torn_has_none payload rest fits (inr torn) =
    let size : length (frame payload ++ rest) ≡ length (frame payload) + length rest = length-append (frame payload) rest in
    let most : length payload ≤ 16777208 = fits.most in
    let says : from_be_bytes w32 (take 4 (frame payload ++ rest)) ≡ length payload + 8 =
    ap (from_be_bytes w32) (take-append-le 4 (frame payload) rest (omega (arith, length-frame payload)) ∙ front_of_frame payload) ∙ number_of_word (length payload + 8) (omega arith) in
    let short : length (frame payload ++ rest) < from_be_bytes w32 (take 4 (frame payload ++ rest)) = torn.2 in
    omega (arith, length-frame payload)

-- bytes are framed records and a torn end in one way
pub both_lists : (a b : List (List ℕ)) (s t : List ℕ) → AllByRecursion IsFrameable a → AllByRecursion IsFrameable b → IsTorn s → IsTorn t → frames a ++ s ≡ frames b ++ t → (a ≡ b) × (s ≡ t)
both_lists [] [] s t one two torn cut e = (refl, e)
both_lists [] (q ∷ b) s t one two torn cut e = absurd (torn_has_none q (frames b ++ t) two.0 (subst IsTorn (e ∙ append_assoc (frame q) (frames b) t) torn))
both_lists (p ∷ a) [] s t one two torn cut e = absurd (torn_has_none p (frames a ++ s) one.0 (subst IsTorn (sym e ∙ append_assoc (frame p) (frames a) s) cut))
both_lists (p ∷ a) (q ∷ b) s t one two torn cut e =
    let first : (p ≡ q) × (frames a ++ s ≡ frames b ++ t) =
    both_frames p q (frames a ++ s) (frames b ++ t) one.0 two.0 (sym (append_assoc (frame p) (frames a) s) ∙ e ∙ append_assoc (frame q) (frames b) t) in
    let others : (a ≡ b) × (s ≡ t) = both_lists a b s t one.1 two.1 torn cut first.1 in
    (ap (λ x. x ∷ a) first.0 ∙ ap (λ xs. q ∷ xs) others.0, others.1)

-- a payload that can be framed is read as one value
abbrev pub IsReadOnce : {X : Type 0} → (List ℕ → X → Type 0) → Type 0
IsReadOnce {X} R = (payload : List ℕ) (x y : X) → IsFrameable payload → R payload x → R payload y → x ≡ y

pub both_values : {X : Type 0} (R : List ℕ → X → Type 0) → IsReadOnce R → (payloads : List (List ℕ)) (xs ys : List X) → AreRead R payloads xs → AreRead R payloads ys → xs ≡ ys
both_values R one [] [] [] p q = refl
both_values R one [] [] (y ∷ ys) p q = absurd (q tt)
both_values R one [] (x ∷ xs) ys p q = absurd (p tt)
both_values R one (a ∷ payloads) [] ys p q = absurd (p tt)
both_values R one (a ∷ payloads) (x ∷ xs) [] p q = absurd (q tt)
both_values R one (a ∷ payloads) (x ∷ xs) (y ∷ ys) p q =
    ap (λ v. v ∷ xs) (one a x y p.0 p.1 q.1) ∙ ap (λ vs. y ∷ vs) (both_values R one payloads xs ys p.2 q.2)

same_fields : (l m : LabelFields) → l.pid ≡ m.pid → l.start.sec ≡ m.start.sec → l.start.usec ≡ m.start.usec → l.host ≡ m.host → l.zone ≡ m.zone → l ≡ m
same_fields l m p s u h z =
    let start : l.start ≡ m.start = ap (λ n. record { sec = n; usec = l.start.usec }) s ∙ ap (λ n. record { sec = m.start.sec; usec = n }) u in
    ap (λ x. record { pid = x; start = l.start; host = l.host; zone = l.zone }) p
    ∙ ap (λ x. record { pid = m.pid; start = x; host = l.host; zone = l.zone }) start
    ∙ ap (λ x. record { pid = m.pid; start = m.start; host = x; zone = l.zone }) h
    ∙ ap (λ x. record { pid = m.pid; start = m.start; host = m.host; zone = x }) z

label_long : (bytes : List ℕ) (l : LabelFields) (number : ℤ) (is : IsLabel bytes l number) → length (label_head l number ++ (is.host ++ is.zone)) ≡ 124
label_long bytes l number is =
    let host : length is.host ≡ 64 = is.has_host.wide in
    let zone : length is.zone ≡ 40 = is.has_zone.wide in
    omega (arith, length-append (label_head l number) (is.host ++ is.zone), length-append is.host is.zone, length-label_head l number)

-- a label says one thing
pub one_label : (bytes : List ℕ) (l m : LabelFields) (n k : ℤ) → IsLabel bytes l n → IsLabel bytes m k → (l ≡ m) × (n ≡ k)
one_label bytes l m n k a b =
    let p : List ℕ = label_head l n ++ (a.host ++ a.zone) in
    let q : List ℕ = label_head m k ++ (b.host ++ b.zone) in
    let pn : length p ≡ 124 = label_long bytes l n a in
    let qn : length q ≡ 124 = label_long bytes m k b in
    let fp : IsFrameable p = record { least = omega arith; most = omega arith } in
    let fq : IsFrameable q = record { least = omega arith; most = omega arith } in
    let payload : p ≡ q = (both_frames p q [] [] fp fq (append-nil (frame p) ∙ sym a.is ∙ b.is ∙ sym (append-nil (frame q)))).0 in
    let parts = both (label_head l n) (label_head m k) (a.host ++ a.zone) (b.host ++ b.zone) (length-label_head l n ∙ sym (length-label_head m k)) payload in
    let texts = both a.host b.host a.zone b.zone (a.has_host.wide ∙ sym b.has_host.wide) parts.1 in
    let lsec : l.start.sec < 2147483648 = a.start.sec in
    let msec : m.start.sec < 2147483648 = b.start.sec in
    let lusec : l.start.usec < 1000000 = a.start.usec in
    let musec : m.start.usec < 1000000 = b.start.usec in
    let w1 = both_words 1342514690 1342514690 (word l.pid ++ (word l.start.sec ++ (word l.start.usec ++ signed_word n))) (word m.pid ++ (word m.start.sec ++ (word m.start.usec ++ signed_word k))) (omega arith) (omega arith) parts.0 in
    let w2 = both_words l.pid m.pid (word l.start.sec ++ (word l.start.usec ++ signed_word n)) (word m.start.sec ++ (word m.start.usec ++ signed_word k)) a.pid b.pid w1.1 in
    let w3 = both_words l.start.sec m.start.sec (word l.start.usec ++ signed_word n) (word m.start.usec ++ signed_word k) (omega arith) (omega arith) w2.1 in
    let w4 = both_words l.start.usec m.start.usec (signed_word n) (signed_word k) (omega arith) (omega arith) w3.1 in
    let w5 = both_signed n k [] [] a.number_fits b.number_fits (ap (λ t. t ++ []) w4.1) in
    let host : l.host ≡ m.host = one_text l.host m.host a.has_host.ended.0 b.has_host.ended.0 a.has_host.clean b.has_host.clean (sym a.has_host.ended.1 ∙ texts.0 ∙ b.has_host.ended.1) in
    let zone : l.zone ≡ m.zone = one_text l.zone m.zone a.has_zone.ended.0 b.has_zone.ended.0 a.has_zone.clean b.has_zone.clean (sym a.has_zone.ended.1 ∙ texts.1 ∙ b.has_zone.ended.1) in
    (same_fields l m w2.0 w3.0 w4.0 host zone, w5.0)

-- a file is a label, framed values and a torn end in one way
pub record SameFile {X : Type 0} (l m : LabelFields) (n k : ℤ) (xs ys : List X) (s t : List ℕ) : Type 0 where
  pub label : l ≡ m
  pub number : n ≡ k
  pub values : xs ≡ ys
  pub rest : s ≡ t

pub one_file : {X : Type 0} (R : List ℕ → X → Type 0) → IsReadOnce R → (bytes : List ℕ) (l m : LabelFields) (n k : ℤ) (xs ys : List X) (s t : List ℕ)
    → LabelledFile R bytes l n xs s → LabelledFile R bytes m k ys t → IsTorn s → IsTorn t → SameFile l m n k xs ys s t
one_file R one bytes l m n k xs ys s t p q torn cut =
    let heads : (p.head ≡ q.head) × (frames p.payloads ++ s ≡ frames q.payloads ++ t) =
    both p.head q.head (frames p.payloads ++ s) (frames q.payloads ++ t) (length_of_label p.head l n p.label ∙ sym (length_of_label q.head m k q.label)) (sym p.is ∙ q.is) in
    let says : (l ≡ m) × (n ≡ k) = one_label p.head l m n k p.label (subst (λ h. IsLabel h m k) (sym heads.0) q.label) in
    let lists : (p.payloads ≡ q.payloads) × (s ≡ t) = both_lists p.payloads q.payloads s t (frameable R p.payloads xs p.read) (frameable R q.payloads ys q.read) torn cut heads.1 in
    record {
      label = says.0;
      number = says.1;
      values = both_values R one p.payloads xs ys p.read (subst (λ ps. AreRead R ps ys) (sym lists.0) q.read);
      rest = lists.1;
    }

same_entry : (e f : Entry) → e.stamp.sec ≡ f.stamp.sec → e.stamp.usec ≡ f.stamp.usec → e.volume ≡ f.volume → e.meta ≡ f.meta → e.offset ≡ f.offset → e ≡ f
same_entry e f s u v m o =
    let stamp : e.stamp ≡ f.stamp = ap (λ n. record { sec = n; usec = e.stamp.usec }) s ∙ ap (λ n. record { sec = f.stamp.sec; usec = n }) u in
    ap (λ x. record { stamp = x; volume = e.volume; meta = e.meta; offset = e.offset }) stamp
    ∙ ap (λ x. record { stamp = f.stamp; volume = x; meta = e.meta; offset = e.offset }) v
    ∙ ap (λ x. record { stamp = f.stamp; volume = f.volume; meta = x; offset = e.offset }) m
    ∙ ap (λ x. record { stamp = f.stamp; volume = f.volume; meta = f.meta; offset = x }) o

entry_flat : (e : Entry) (x : List ℕ) → entry e ++ x ≡ word e.stamp.sec ++ (word e.stamp.usec ++ (word e.volume ++ (word e.meta ++ (word e.offset ++ x))))
unfolding entry
entry_flat e x = simp append_assoc

pub both_entries : (e f : Entry) (x y : List ℕ) → FitsEntry e → FitsEntry f → entry e ++ x ≡ entry f ++ y → (e ≡ f) × (x ≡ y)
both_entries e f x y p q is =
    let s : (e.stamp.sec ≡ f.stamp.sec) × (word e.stamp.usec ++ (word e.volume ++ (word e.meta ++ (word e.offset ++ x))) ≡ word f.stamp.usec ++ (word f.volume ++ (word f.meta ++ (word f.offset ++ y)))) =
    both_words e.stamp.sec f.stamp.sec (word e.stamp.usec ++ (word e.volume ++ (word e.meta ++ (word e.offset ++ x)))) (word f.stamp.usec ++ (word f.volume ++ (word f.meta ++ (word f.offset ++ y))))
    (omega (arith, p.moment.sec)) (omega (arith, q.moment.sec)) (sym (entry_flat e x) ∙ is ∙ entry_flat f y) in
    let u : (e.stamp.usec ≡ f.stamp.usec) × (word e.volume ++ (word e.meta ++ (word e.offset ++ x)) ≡ word f.volume ++ (word f.meta ++ (word f.offset ++ y))) =
    both_words e.stamp.usec f.stamp.usec (word e.volume ++ (word e.meta ++ (word e.offset ++ x))) (word f.volume ++ (word f.meta ++ (word f.offset ++ y))) (omega (arith, p.moment.usec)) (omega (arith, q.moment.usec)) s.1 in
    let v : (e.volume ≡ f.volume) × (word e.meta ++ (word e.offset ++ x) ≡ word f.meta ++ (word f.offset ++ y)) =
    both_words e.volume f.volume (word e.meta ++ (word e.offset ++ x)) (word f.meta ++ (word f.offset ++ y)) (omega (arith, p.volume)) (omega (arith, q.volume)) u.1 in
    let m : (e.meta ≡ f.meta) × (word e.offset ++ x ≡ word f.offset ++ y) = both_words e.meta f.meta (word e.offset ++ x) (word f.offset ++ y) (omega (arith, p.meta)) (omega (arith, q.meta)) v.1 in
    let o : (e.offset ≡ f.offset) × (x ≡ y) = both_words e.offset f.offset x y (omega (arith, p.offset)) (omega (arith, q.offset)) m.1 in
    (same_entry e f s.0 u.0 v.0 m.0 o.0, o.1)

-- bytes are entries and fewer bytes than one more in one way
entry_is_longer : (e : Entry) (es : List Entry) (rest s : List ℕ) → length s < 20 → s ≡ entries (e ∷ es) ++ rest → ⊥
entry_is_longer e es rest s few is =
    let size : length s ≡ length (entries (e ∷ es) ++ rest) = ap length is in
    omega (arith, length-append (entry e ++ entries es) rest, length-append (entry e) (entries es), length-entry e)

pub one_index : (es fs : List Entry) (s t : List ℕ) → AllByRecursion FitsEntry es → AllByRecursion FitsEntry fs → length s < 20 → length t < 20 → entries es ++ s ≡ entries fs ++ t → (es ≡ fs) × (s ≡ t)
one_index [] [] s t p q few low is = (refl, is)
one_index [] (f ∷ fs) s t p q few low is = absurd (entry_is_longer f fs t s few is)
one_index (e ∷ es) [] s t p q few low is = absurd (entry_is_longer e es s t low (sym is))
one_index (e ∷ es) (f ∷ fs) s t p q few low is =
    let first : (e ≡ f) × (entries es ++ s ≡ entries fs ++ t) =
    both_entries e f (entries es ++ s) (entries fs ++ t) p.0 q.0 (sym (append_assoc (entry e) (entries es) s) ∙ is ∙ append_assoc (entry f) (entries fs) t) in
    let others : (es ≡ fs) × (s ≡ t) = one_index es fs s t p.1 q.1 few low first.1 in
    (ap (λ x. x ∷ es) first.0 ∙ ap (λ xs. f ∷ xs) others.0, others.1)
