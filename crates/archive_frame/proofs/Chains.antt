-- The fields of a label one behind another, and the first misfit among them.
use Rattle.std.proofs.Common.{◌≡◌, ℕ, ℤ, ◌+◌, ◌-◌, ◌<◌, ◌≤◌, List, [], ◌∷◌, ◌++◌, length, take, drop, refl, sym, ap, ◌∙◌, subst, append_assoc, arith}
use Rattle.std.specs.Prelude.{Result, Ok, Err, OnOk, IfOk, IfErr}
use Rattle.std.proofs.lemmas.List.{take_at, take-append-drop, take-take, drop-drop, drop-take, drop_all, length-append, length-take, length-drop, length-replicate}
use Rattle.pcp_base.specs.Texts.{IsText}
use Rattle.pcp_model.specs.Words.{word, length-word, zeros, text_field}
use Rattle.pcp_model.specs.Frame.{frame}
use Rattle.pcp_model.specs.LabelFields.{LabelFields, FitsLabel}
use Rattle.pcp_model.specs.Labels.{label, label_head, HasText, IsLabel}
use Rattle.pcp_model.proofs.Lengths.{length-label_head, length-padded}
use Rattle.archive_frame.specs.Labels.{LabelInRange}
use Rattle.archive_frame.specs.Misfits.{IsFirstMisfit}
use Rattle.archive_frame.proofs.Fields.{wanted_wide}
use Rattle.archive_frame.proofs.Labels.{back_bytes, FromEnd, FromBack, some_end, some_back}
use Rattle.archive_frame.proofs.Misfits.{HasWidth, Then, then_is, first_misfit, same_misfit, Passed, pass}
use Rattle.archive_frame.specs.Heads.{FieldStands, StopsIn}

-- the misfit of a field that begins where those before it fit
pub stop_at : (Whole : List ℕ → Type 0) (f : List ℕ) (Field : List ℕ → Type 0) (width : ℕ) (Rest : List ℕ → Type 0) (at : ℕ) → HasWidth Field width → (rest : List ℕ) × Rest rest
    → Passed Whole f (Then Field width Rest) at → (k : ℕ) → IsFirstMisfit Field (take width (drop at f)) k → IsFirstMisfit Whole f (at + k)
stop_at Whole f Field width Rest at wide some passed k m = passed k (first_misfit Field width Rest (drop at f) k wide some m)

-- a field between two others, cut out of the bytes
pub cut_out : (at n width size : ℕ) (bytes : List ℕ) → n + size ≤ width → take size (drop n (take width (drop at bytes))) ≡ take size (drop (at + n) bytes)
cut_out at n width size bytes fits =
    let split : width ≡ n + (width - n) = omega arith in
    ap (λ w. take size (drop n (take w (drop at bytes)))) split ∙ ap (take size) (drop-take n (width - n) (drop at bytes))
    ∙ take-take size (width - n) (drop n (drop at bytes)) (omega arith) ∙ ap (take size) (drop-drop n at bytes)

-- ---- a text in its field

-- bytes of any value
abbrev pub Filler : ℕ → List ℕ → Type 0
Filler n t = length t ≡ n

abbrev pub FromZero : ℕ → List ℕ → Type 0
FromZero left = Then (λ t. t ≡ 0 ∷ []) 1 (Filler left)

abbrev pub Parts : ℕ → List ℕ → List ℕ → Type 0
Parts width text = Then (λ t. t ≡ text) (length text) (FromZero (width - length text - 1))

some_filler : (n : ℕ) → (t : List ℕ) × Filler n t
some_filler n = (zeros n, length-replicate {A = ℕ} n 0)

some_zero : (n : ℕ) → (t : List ℕ) × FromZero n t
some_zero n = (0 ∷ zeros n, then_is (λ t. t ≡ 0 ∷ []) 1 (Filler n) (0 ∷ []) (zeros n) (0 ∷ zeros n) refl refl (length-replicate {A = ℕ} n 0) refl)

parts_of : (width : ℕ) (text t : List ℕ) → HasText width t text → Parts width text t
parts_of width text t h =
    let more : List ℕ = h.ended.0 in
    let is : t ≡ text ++ 0 ∷ more = h.ended.1 in
    let long : length t ≡ width = h.wide in
    let left : length more ≡ width - length text - 1 = omega (arith, ap length is, length-append text (0 ∷ more)) in
    then_is (λ x. x ≡ text) (length text) (FromZero (width - length text - 1)) text (0 ∷ more) t refl refl
    (then_is (λ x. x ≡ 0 ∷ []) 1 (Filler (width - length text - 1)) (0 ∷ []) more (0 ∷ more) refl refl left refl) is

text_of : (width : ℕ) (text t : List ℕ) → length text < width → IsText text → Parts width text t → HasText width t text
text_of width text t fits clean h =
    let more : List ℕ = drop 1 (drop (length text) t) in
    let behind : drop (length text) t ≡ 0 ∷ more = sym (take-append-drop 1 (drop (length text) t)) ∙ ap (λ x. x ++ more) h.1.0 in
    let is : t ≡ text ++ 0 ∷ more = sym (take-append-drop (length text) t) ∙ ap (λ x. x ++ drop (length text) t) h.0 ∙ ap (λ x. text ++ x) behind in
    let left : length more ≡ width - length text - 1 = h.1.1 in
    record { wide = omega (arith, ap length is, length-append text (0 ∷ more), left); clean = clean; ended = (more, is) }

-- too few bytes behind the zero byte
filler_misfit : (n : ℕ) (f : List ℕ) → length f < n → IsFirstMisfit (Filler n) f (length f)
filler_misfit n f short = record {
  none = λ e. omega (arith, e);
  within = omega arith;
  begins = (zeros (n - length f), omega (arith, length-append (take (length f) f) (zeros (n - length f)), length-take (length f) f, length-replicate {A = ℕ} (n - length f) 0));
  longest = λ n h b. h;
}

module _ (width : ℕ) (text bytes : List ℕ) (at : ℕ) (fits : length text < width) (clean : IsText text) where
  abbrev Whole : List ℕ → Type 0
  Whole t = HasText width t text

  abbrev field : List ℕ
  field = take width (drop at bytes)

  at_text : Passed Whole field (Parts width text) 0
  at_text k m = subst (IsFirstMisfit Whole field) (let e : k ≡ 0 + k = omega arith in e)
      (same_misfit (Parts width text) Whole field k (λ t. text_of width text t fits clean) (λ t. parts_of width text t) m)

  pub text_stops : (offset : ℕ) → StopsIn (λ t. t ≡ text) (length text) bytes at offset → StopsIn Whole width bytes at offset
  text_stops offset s = (
    s.0,
    s.1,
    subst (IsFirstMisfit Whole field) (let e : 0 + s.0 ≡ s.0 = omega arith in e)
        (stop_at Whole field (λ t. t ≡ text) (length text) (FromZero (width - length text - 1)) 0 (wanted_wide text) (some_zero (width - length text - 1)) at_text s.0
        (subst (λ f. IsFirstMisfit (λ t. t ≡ text) f s.0) (sym (take-take (length text) width (drop at bytes) (omega arith))) s.2)),
  )

  long_field : (n : ℕ) → n ≤ width → at + n ≤ length bytes → n ≤ length field
  long_field n low here = omega (arith, length-take width (drop at bytes), length-drop at bytes)

  to_zero : FieldStands (λ t. t ≡ text) (length text) bytes at → Passed Whole field (FromZero (width - length text - 1)) (length text)
  to_zero there =
      let long : length text ≤ length field = long_field (length text) (omega arith) there.0 in
      subst (Passed Whole field (FromZero (width - length text - 1))) (let e : 0 + length text ≡ length text = omega arith in e)
      (pass Whole field (λ t. t ≡ text) (length text) (FromZero (width - length text - 1)) 0 (let low : 0 + length text ≤ length field = omega arith in low)
      (take-take (length text) width (drop at bytes) (omega arith) ∙ there.1) at_text)

  pub zero_stops : FieldStands (λ t. t ≡ text) (length text) bytes at → (offset : ℕ) → StopsIn (λ t. t ≡ 0 ∷ []) 1 bytes (at + length text) offset → StopsIn Whole width bytes at offset
  zero_stops there offset s = (
    length text + s.0,
    omega (arith, s.1),
    stop_at Whole field (λ t. t ≡ 0 ∷ []) 1 (Filler (width - length text - 1)) (length text) (wanted_wide (0 ∷ [])) (some_filler (width - length text - 1)) (to_zero there) s.0
        (subst (λ f. IsFirstMisfit (λ t. t ≡ 0 ∷ []) f s.0) (sym (cut_out at (length text) width 1 bytes (omega arith))) s.2),
  )

  pub end_stops : FieldStands (λ t. t ≡ text) (length text) bytes at → FieldStands (λ t. t ≡ 0 ∷ []) 1 bytes (at + length text) → length bytes < at + width → StopsIn Whole width bytes at (length bytes)
  end_stops there zero short =
      let n : ℕ = length text in
      let here : n + 1 ≤ length field = long_field (n + 1) (omega arith) (omega (arith, zero.0)) in
      let size : length field ≡ length bytes - at = omega (arith, length-take width (drop at bytes), length-drop at bytes) in
      let filler : List ℕ = drop (n + 1) field in
      let few : length filler < width - n - 1 = omega (arith, length-drop (n + 1) field, size) in
      let to_filler : Passed Whole field (Filler (width - n - 1)) (n + 1) =
      pass Whole field (λ t. t ≡ 0 ∷ []) 1 (Filler (width - n - 1)) n here (cut_out at n width 1 bytes (omega arith) ∙ zero.1) (to_zero there) in
      let found : IsFirstMisfit Whole field (n + 1 + length filler) = to_filler (length filler) (filler_misfit (width - n - 1) filler few) in
      let all : n + 1 + length filler ≡ length field = omega (arith, length-drop (n + 1) field) in (length field, omega (arith, size), subst (IsFirstMisfit Whole field) all found)

  pub text_there : FieldStands (λ t. t ≡ text) (length text) bytes at → FieldStands (λ t. t ≡ 0 ∷ []) 1 bytes (at + length text) → at + width ≤ length bytes → FieldStands Whole width bytes at
  text_there there zero long =
      let n : ℕ = length text in
      let size : length field ≡ width = omega (arith, length-take width (drop at bytes), length-drop at bytes) in (
        long,
        text_of width text field fits clean (
          take-take n width (drop at bytes) (omega arith) ∙ there.1,
          (cut_out at n width 1 bytes (omega arith) ∙ zero.1, omega (arith, length-drop 1 (drop n field), length-drop n field, size)),
        ),
      )

-- ---- the whole label

-- what stands before the texts
abbrev pub head_bytes : LabelFields → ℤ → List ℕ
head_bytes l number = word 132 ++ label_head l number

pub length-head : (l : LabelFields) (number : ℤ) → length (head_bytes l number) ≡ 24
length-head l number = omega (arith, length-append (word 132) (label_head l number), length-word 132, length-label_head l number)

back_is : word 132 ≡ back_bytes
unfolding word
back_is = refl

framed : (l : LabelFields) (number : ℤ) (host zone : List ℕ) → length host ≡ 64 → length zone ≡ 40
    → frame (label_head l number ++ (host ++ zone)) ≡ head_bytes l number ++ (host ++ (zone ++ back_bytes))
unfolding frame
framed l number host zone h z =
    let head : List ℕ = label_head l number in
    let payload : List ℕ = head ++ (host ++ zone) in
    let long : length payload + 8 ≡ 132 = omega (arith, length-append head (host ++ zone), length-append host zone, length-label_head l number) in
    let grouped : word 132 ++ ((head ++ (host ++ zone)) ++ word 132) ≡ (word 132 ++ head) ++ (host ++ (zone ++ word 132)) = simp append_assoc in
    ap (λ n. word n ++ (payload ++ word n)) long ∙ grouped ∙ ap (λ t. (word 132 ++ head) ++ (host ++ (zone ++ t))) back_is

-- the writer's label begins so
pub front_of_label : (l : LabelFields) (number : ℤ) → FitsLabel l → take 24 (label l number) ≡ head_bytes l number
unfolding label
front_of_label l number fits =
    let host : length l.host ≤ 63 = fits.host in
    let zone : length l.zone ≤ 39 = fits.zone in
    ap (take 24) (framed l number (text_field 64 l.host) (text_field 40 l.zone) (length-padded 64 l.host (omega arith)) (length-padded 40 l.zone (omega arith)))
    ∙ take_at (head_bytes l number) (text_field 64 l.host ++ (text_field 40 l.zone ++ back_bytes)) 24 (length-head l number)

text_wide : (width : ℕ) (text : List ℕ) → HasWidth (λ t. HasText width t text) width
text_wide width text t h = h.wide

split : (width : ℕ) (t field rest : List ℕ) → take width t ≡ field → drop width t ≡ rest → t ≡ field ++ rest
split width t field rest one two = sym (take-append-drop width t) ∙ ap (λ x. x ++ drop width t) one ∙ ap (λ x. field ++ x) two

module _ (l : LabelFields) (number : ℤ) (range : LabelInRange l number) where
  abbrev pub Zone : List ℕ → Type 0
  Zone = Then (λ t. HasText 40 t l.zone) 40 FromBack

  abbrev pub Host : List ℕ → Type 0
  Host = Then (λ t. HasText 64 t l.host) 64 Zone

  abbrev pub Head : List ℕ → Type 0
  Head = Then (λ t. t ≡ head_bytes l number) 24 Host

  abbrev pub This : List ℕ → Type 0
  This t = IsLabel t l number

  host_short : length l.host < 64
  host_short = let h : length l.host ≤ 63 = range.fits.host in omega arith

  zone_short : length l.zone < 40
  zone_short = let h : length l.zone ≤ 39 = range.fits.zone in omega arith

  some_text : (width : ℕ) (text : List ℕ) → length text < width → IsText text → (t : List ℕ) × HasText width t text
  some_text width text fits clean = (
    text ++ 0 ∷ zeros (width - length text - 1),
    record {
      wide = omega (arith, length-append text (0 ∷ zeros (width - length text - 1)), length-replicate {A = ℕ} (width - length text - 1) 0);
      clean = clean;
      ended = (zeros (width - length text - 1), refl);
    },
  )

  pub some_zone : (t : List ℕ) × Zone t
  some_zone =
      let z = some_text 40 l.zone zone_short range.zone in
      (z.0 ++ some_back.0, then_is (λ t. HasText 40 t l.zone) 40 FromBack z.0 some_back.0 (z.0 ++ some_back.0) z.1 z.1.wide some_back.1 refl)

  pub some_host : (t : List ℕ) × Host t
  some_host =
      let h = some_text 64 l.host host_short range.host in
      (h.0 ++ some_zone.0, then_is (λ t. HasText 64 t l.host) 64 Zone h.0 some_zone.0 (h.0 ++ some_zone.0) h.1 h.1.wide some_zone.1 refl)

  has_fields : (t : List ℕ) → This t → Head t
  has_fields t is =
      let e8 : FromBack back_bytes = then_is (λ x. x ≡ back_bytes) 4 FromEnd back_bytes [] back_bytes refl refl refl refl in
      let e7 : Zone (is.zone ++ back_bytes) = then_is (λ x. HasText 40 x l.zone) 40 FromBack is.zone back_bytes (is.zone ++ back_bytes) is.has_zone is.has_zone.wide e8 refl in
      let e6 : Host (is.host ++ (is.zone ++ back_bytes)) =
      then_is (λ x. HasText 64 x l.host) 64 Zone is.host (is.zone ++ back_bytes) (is.host ++ (is.zone ++ back_bytes)) is.has_host is.has_host.wide e7 refl in
      then_is (λ x. x ≡ head_bytes l number) 24 Host (head_bytes l number) (is.host ++ (is.zone ++ back_bytes)) t refl (length-head l number) e6
      (is.is ∙ framed l number is.host is.zone is.has_host.wide is.has_zone.wide)

  from_fields : (t : List ℕ) → Head t → This t
  from_fields t h =
      let t1 : List ℕ = drop 24 t in
      let t2 : List ℕ = drop 64 t1 in
      let t3 : List ℕ = drop 40 t2 in
      let back = h.1.1.1 in
      let s3 : t3 ≡ back_bytes = split 4 t3 back_bytes [] back.0 back.1 in
      let s2 : t2 ≡ take 40 t2 ++ back_bytes = split 40 t2 (take 40 t2) back_bytes refl s3 in
      let s1 : t1 ≡ take 64 t1 ++ (take 40 t2 ++ back_bytes) = split 64 t1 (take 64 t1) (take 40 t2 ++ back_bytes) refl s2 in
      let s0 : t ≡ head_bytes l number ++ (take 64 t1 ++ (take 40 t2 ++ back_bytes)) = split 24 t (head_bytes l number) (take 64 t1 ++ (take 40 t2 ++ back_bytes)) h.0 s1 in
      record {
        number_fits = range.signed;
        pid = range.pid;
        start = range.start;
        host = take 64 t1;
        zone = take 40 t2;
        has_host = h.1.0;
        has_zone = h.1.1.0;
        is = s0 ∙ sym (framed l number (take 64 t1) (take 40 t2) h.1.0.wide h.1.1.0.wide);
      }

  module _ (bytes : List ℕ) (few : length bytes ≤ 132) where
    at_head : Passed This bytes Head 0
    at_head k m = subst (IsFirstMisfit This bytes) (let e : k ≡ 0 + k = omega arith in e) (same_misfit Head This bytes k from_fields has_fields m)

    abbrev pub HeadThere : Type 0
    HeadThere = FieldStands (λ t. t ≡ head_bytes l number) 24 bytes 0

    abbrev pub HostThere : Type 0
    HostThere = FieldStands (λ t. HasText 64 t l.host) 64 bytes 24

    abbrev pub ZoneThere : Type 0
    ZoneThere = FieldStands (λ t. HasText 40 t l.zone) 40 bytes 88

    abbrev pub BackThere : Type 0
    BackThere = FieldStands (λ t. t ≡ back_bytes) 4 bytes 128

    to_host : HeadThere → Passed This bytes Host 24
    to_host h = pass This bytes (λ t. t ≡ head_bytes l number) 24 Host 0 h.0 h.1 at_head

    to_zone : HeadThere → HostThere → Passed This bytes Zone 88
    to_zone h o = pass This bytes (λ t. HasText 64 t l.host) 64 Zone 24 o.0 o.1 (to_host h)

    to_back : HeadThere → HostThere → ZoneThere → Passed This bytes FromBack 128
    to_back h o z = pass This bytes (λ t. HasText 40 t l.zone) 40 FromBack 88 z.0 z.1 (to_zone h o)

    pub head_stops : (offset : ℕ) → StopsIn (λ t. t ≡ head_bytes l number) 24 bytes 0 offset → IsFirstMisfit This bytes offset
    head_stops offset s =
        let wide : HasWidth (λ t. t ≡ head_bytes l number) 24 = λ t e. ap length e ∙ length-head l number in
        subst (IsFirstMisfit This bytes) (sym s.1) (stop_at This bytes (λ t. t ≡ head_bytes l number) 24 Host 0 wide some_host at_head s.0 s.2)

    pub host_stops : HeadThere → (offset : ℕ) → StopsIn (λ t. HasText 64 t l.host) 64 bytes 24 offset → IsFirstMisfit This bytes offset
    host_stops h offset s =
        subst (IsFirstMisfit This bytes) (sym s.1) (stop_at This bytes (λ t. HasText 64 t l.host) 64 Zone 24 (text_wide 64 l.host) some_zone (to_host h) s.0 s.2)

    pub zone_stops : HeadThere → HostThere → (offset : ℕ) → StopsIn (λ t. HasText 40 t l.zone) 40 bytes 88 offset → IsFirstMisfit This bytes offset
    zone_stops h o offset s =
        subst (IsFirstMisfit This bytes) (sym s.1) (stop_at This bytes (λ t. HasText 40 t l.zone) 40 FromBack 88 (text_wide 40 l.zone) some_back (to_zone h o) s.0 s.2)

    pub back_stops : HeadThere → HostThere → ZoneThere → (offset : ℕ) → StopsIn (λ t. t ≡ back_bytes) 4 bytes 128 offset → IsFirstMisfit This bytes offset
    back_stops h o z offset s =
        subst (IsFirstMisfit This bytes) (sym s.1) (stop_at This bytes (λ t. t ≡ back_bytes) 4 FromEnd 128 (wanted_wide back_bytes) some_end (to_back h o z) s.0 s.2)

    pub label_there : HeadThere → HostThere → ZoneThere → BackThere → This bytes
    label_there h o z b =
        let none : drop 4 (drop 128 bytes) ≡ [] = drop-drop 4 128 bytes ∙ drop_all 132 bytes few in
        let zone : take 40 (drop 64 (drop 24 bytes)) ≡ take 40 (drop 88 bytes) = ap (take 40) (drop-drop 64 24 bytes) in
        let back : drop 40 (drop 64 (drop 24 bytes)) ≡ drop 128 bytes = ap (drop 40) (drop-drop 64 24 bytes) ∙ drop-drop 40 88 bytes in
        from_fields bytes (h.1, (o.1, (subst (λ t. HasText 40 t l.zone) (sym zone) z.1, subst FromBack (sym back) (b.1, none))))

    -- the head as the writer's label has it
    long_head : (w : List ℕ) → w ≡ take 24 (label l number) → length w ≡ 24
    long_head w e = ap length (e ∙ front_of_label l number range.fits) ∙ length-head l number

    pub head_there : (w : List ℕ) → w ≡ take 24 (label l number) → FieldStands (λ t. t ≡ w) (length w) bytes 0 → HeadThere
    head_there w e s =
        subst (λ (x : List ℕ). FieldStands (λ t. t ≡ x) 24 bytes 0) (e ∙ front_of_label l number range.fits)
        (subst (λ (k : ℕ). FieldStands (λ t. t ≡ w) k bytes 0) (long_head w e) s)

    pub written_head_stops : (w : List ℕ) → w ≡ take 24 (label l number) → (offset : ℕ) → StopsIn (λ t. t ≡ w) (length w) bytes 0 offset → IsFirstMisfit This bytes offset
    written_head_stops w e offset s = head_stops offset
        (subst (λ (x : List ℕ). StopsIn (λ t. t ≡ x) 24 bytes 0 offset) (e ∙ front_of_label l number range.fits)
        (subst (λ (k : ℕ). StopsIn (λ t. t ≡ w) k bytes 0 offset) (long_head w e) s))

-- ---- answers that are handed on

pub on_ok : {T E : Type 0} (r : Result T E) (P Q : Type 0) → OnOk r P → (P → Q) → OnOk r Q
on_ok (Ok v) P Q h f = f h
on_ok (Err e) P Q h f = tt

pub if_err : {T E : Type 0} (r : Result T E) (P Q : E → Type 0) → IfErr r P → ((e : E) → P e → Q e) → IfErr r Q
if_err (Ok v) P Q h f = tt
if_err (Err e) P Q h f = f e h

pub if_ok : {T E : Type 0} (r : Result T E) (P Q : T → Type 0) → IfOk r P → ((v : T) → P v → Q v) → IfOk r Q
if_ok (Ok v) P Q h f = f v h
if_ok (Err e) P Q h f = tt
