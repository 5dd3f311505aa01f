-- What is asked next is a function of the replies so far: of two dialogues with the same replies one goes on as the other.
use Rattle.std.proofs.Common.{◌≡◌, ◌⊎◌, inl, inr, ⊎_elim, ℕ, ◌<◌, List, [], ◌∷◌, ◌++◌, length, map, refl, sym, ap, ◌∙◌, subst, arith, append_assoc, append-nil, Some}
use Rattle.pcp_base.specs.declared.desc.Desc.{Desc}
use Rattle.pcp_base.specs.declared.result.PmResult.{PmResult}
use Rattle.archive_meta.specs.declared.facts.Facts.{Facts}
use Rattle.pdu_codec.specs.declared.pdu.Pdu.{Pdu}
use Rattle.pdu_codec.specs.declared.pdu.Pdu.TheVariants as pdus
use Rattle.pmcd_client.specs.Items.{asked_again, sampled}
use Rattle.pmcd_client.specs.Replies.{Standing, descs_in, descs_of, domains_described, metrics_named, pmids_in}
use Rattle.pmcd_client.specs.Talks.{AreSampled, IsSampled, Sample}
use Rattle.pmcd_client.specs.Turns.{Answers, Fits, Turn, desc_turn, list_turn, opening, sampling}

-- ---- turns

-- behind the first replies these turns are due, and so the others go on
abbrev pub GoesOn : List Turn → List Pdu → Type 0
GoesOn [] [] = Unit {0}
GoesOn [] (z ∷ zs) = ⊥
GoesOn (t ∷ ts) [] = Unit {0}
GoesOn (t ∷ ts) (z ∷ zs) = Fits t z

goes_on : (ts : List Turn) (more : List Pdu) (rest : List Turn) → Answers ts more rest → GoesOn ts more
goes_on [] [] rest a = tt
goes_on [] (z ∷ zs) rest a = a
goes_on (t ∷ ts) [] rest a = tt
goes_on (t ∷ ts) (z ∷ zs) rest a = a.0

-- of the same turns, longer replies answer what the shorter ones leave
pub later : (ts : List Turn) (xs more : List Pdu) (ra rb : List Turn) → Answers ts (xs ++ more) ra → Answers ts xs rb → Answers rb more ra
later ts [] more ra rb a b = subst (λ (us : List Turn). Answers us more ra) (sym b) a
later [] (x ∷ xs) more ra rb a b = absurd b
later (t ∷ ts) (x ∷ xs) more ra rb a b = later ts xs more ra rb a.1 b.1

pub one_rest : (ts : List Turn) (xs : List Pdu) (ra rb : List Turn) → Answers ts xs ra → Answers ts xs rb → ra ≡ rb
one_rest ts [] ra rb a b = a ∙ sym b
one_rest [] (x ∷ xs) ra rb a b = absurd a
one_rest (t ∷ ts) (x ∷ xs) ra rb a b = one_rest ts xs ra rb a.1 b.1

-- with more turns behind
pub wider : (ts us : List Turn) (xs : List Pdu) (rest : List Turn) → Answers ts xs rest → Answers (ts ++ us) xs (rest ++ us)
wider ts us [] rest a = ap (λ (vs : List Turn). vs ++ us) a
wider [] us (x ∷ xs) rest a = absurd a
wider (t ∷ ts) us (x ∷ xs) rest a = (a.0, wider ts us xs rest a.1)

-- Replies to some turns and others behind them: they end among the first ones, or all those are answered and the others go on.
pub record Cut (ts us : List Turn) (xs : List Pdu) (rest : List Turn) : Type 0 where
  pub front : List Pdu
  pub back : List Pdu
  pub are : xs ≡ front ++ back
  pub first : Answers ts front []
  pub second : Answers us back rest

abbrev Within : List Turn → List Turn → List Pdu → List Turn → Type 0
Within ts us xs rest = (t : Turn) × (vs : List Turn) × Answers ts xs (t ∷ vs) × (rest ≡ (t ∷ vs) ++ us)

cut : (ts us : List Turn) (xs : List Pdu) (rest : List Turn) → Answers (ts ++ us) xs rest → Within ts us xs rest ⊎ Cut ts us xs rest
cut [] us xs rest a = inr (record { front = []; back = xs; are = refl; first = refl; second = a })
cut (t ∷ ts) us [] rest a = inl (t, ts, refl, a)
cut (t ∷ ts) us (x ∷ xs) rest a =
    ⊎_elim (λ (w : Within ts us xs rest). inl (w.0, w.1, (a.0, w.2), w.3))
    (λ (c : Cut ts us xs rest). inr (record { front = x ∷ c.front; back = c.back; are = ap (λ (ys : List Pdu). x ∷ ys) c.are; first = (a.0, c.first); second = c.second }))
    (cut ts us xs rest a.1)

-- ---- the turns of a sample

again_same : (facts : Facts) (x : Pdu) (xs ys : List Pdu) → asked_again facts (x ∷ xs) ≡ asked_again facts (x ∷ ys)
again_same facts (pdus.Result r) xs ys = refl
again_same facts x xs ys = refl

pub next_sampling : (s : Standing) (xs more : List Pdu) (ra rb : List Turn) → Answers (sampling s (xs ++ more)) (xs ++ more) ra → Answers (sampling s xs) xs rb → GoesOn rb more
next_sampling s [] [] ra rb a b = goes_on rb [] rb refl
next_sampling s [] (z ∷ zs) ra rb a b = subst (λ (us : List Turn). GoesOn us (z ∷ zs)) (sym b) a.0
next_sampling s (x ∷ xs) more ra rb a b =
    let same : sampling s (x ∷ (xs ++ more)) ≡ sampling s (x ∷ xs) = ap (λ (ds : List ℕ). Some (pdus.Fetch 0 0 0 s.pmids) ∷ map list_turn ds) (again_same s.facts x (xs ++ more) xs) in
    goes_on rb more ra (later (sampling s (x ∷ xs)) (x ∷ xs) more ra rb (subst (λ (us : List Turn). Answers us (x ∷ (xs ++ more)) ra) same a) b)

-- ---- the turns before the first sample

pmids_same : (x y : Pdu) (xs ys : List Pdu) → pmids_in (x ∷ y ∷ xs) ≡ pmids_in (x ∷ y ∷ ys)
pmids_same x (pdus.PmnsIds status pmids) xs ys = refl
pmids_same x y xs ys = refl

descs-append : (xs ys : List Pdu) → descs_in (xs ++ ys) ≡ descs_in xs ++ descs_in ys
descs-append [] ys = refl
descs-append (x ∷ xs) ys = ap (λ (ds : List Desc). descs_of x ++ ds) (descs-append xs ys) ∙ sym (append_assoc (descs_of x) (descs_in xs) (descs_in ys))

no_desc : (indom : ℕ) (x : Pdu) → Fits (list_turn indom) x → descs_of x ≡ []
no_desc indom (pdus.Instance found pairs) fits = refl
no_desc indom (pdus.Desc d) fits = absurd fits
no_desc indom x fits = refl

-- lists of instances describe no metric
no_descs : (indoms : List ℕ) (xs : List Pdu) (rest : List Turn) → Answers (map list_turn indoms) xs rest → descs_in xs ≡ []
no_descs indoms [] rest a = refl
no_descs [] (x ∷ xs) rest a = absurd a
no_descs (i ∷ indoms) (x ∷ xs) rest a = ap (λ (ds : List Desc). ds ++ descs_in xs) (no_desc i x a.0) ∙ no_descs indoms xs rest a.1

module _ (x y : Pdu) (ts : List Turn) where
  abbrev lists : List Pdu → List Turn
  lists xs = map list_turn (domains_described (descs_in (x ∷ y ∷ xs)))

  -- what the descriptions tell, with lists behind them
  descs_with : (front back : List Pdu) → descs_in back ≡ [] → descs_in (x ∷ y ∷ (front ++ back)) ≡ descs_in (x ∷ y ∷ front)
  descs_with front back none = ap (λ (ds : List Desc). descs_of x ++ (descs_of y ++ ds)) (descs-append front back ∙ ap (λ (ds : List Desc). descs_in front ++ ds) none ∙ append-nil (descs_in front))

  next_behind : (xs more : List Pdu) (ra rb : List Turn) → Answers (ts ++ lists (xs ++ more)) (xs ++ more) ra → Answers (ts ++ lists xs) xs rb → GoesOn rb more
  next_behind xs more ra rb a b = ⊎_elim within beyond (cut ts (lists xs) xs rb b) where
    within : Within ts (lists xs) xs rb → GoesOn rb more
    within (t, vs, first, is) =
        let rest = later (ts ++ lists (xs ++ more)) xs more ra ((t ∷ vs) ++ lists (xs ++ more)) a (wider ts (lists (xs ++ more)) xs (t ∷ vs) first) in
        subst (λ (us : List Turn). GoesOn us more) (sym is) (next_first t vs (lists (xs ++ more)) (lists xs) more rest)
      where
        next_first : (t : Turn) (vs us ws : List Turn) (more : List Pdu) → Answers ((t ∷ vs) ++ us) more ra → GoesOn ((t ∷ vs) ++ ws) more
        next_first t vs us ws [] rest = tt
        next_first t vs us ws (z ∷ zs) rest = rest.0

    beyond : Cut ts (lists xs) xs rb → GoesOn rb more
    beyond c =
        let whole : xs ++ more ≡ c.front ++ (c.back ++ more) = ap (λ (zs : List Pdu). zs ++ more) c.are ∙ append_assoc c.front c.back more in
        let behind : Answers (lists (xs ++ more)) (c.back ++ more) ra =
        later (ts ++ lists (xs ++ more)) c.front (c.back ++ more) ra (lists (xs ++ more)) (subst (λ (zs : List Pdu). Answers (ts ++ lists (xs ++ more)) zs ra) whole a) (wider ts (lists (xs ++ more)) c.front [] c.first) in
        let long : descs_in (x ∷ y ∷ (xs ++ more)) ≡ descs_in (x ∷ y ∷ c.front) =
        ap (λ (zs : List Pdu). descs_in (x ∷ y ∷ zs)) whole ∙ descs_with c.front (c.back ++ more) (no_descs (domains_described (descs_in (x ∷ y ∷ (xs ++ more)))) (c.back ++ more) ra behind) in
        let short : descs_in (x ∷ y ∷ xs) ≡ descs_in (x ∷ y ∷ c.front) =
        ap (λ (zs : List Pdu). descs_in (x ∷ y ∷ zs)) c.are ∙ descs_with c.front c.back (no_descs (domains_described (descs_in (x ∷ y ∷ xs))) c.back rb c.second) in
        let same : lists (xs ++ more) ≡ lists xs = ap (λ (ds : List Desc). map list_turn (domains_described ds)) (long ∙ sym short) in
        goes_on rb more ra (later (lists xs) c.back more ra rb (subst (λ (us : List Turn). Answers us (c.back ++ more) ra) same behind) c.second)

pub next_opening : (names : List (List ℕ)) (xs more : List Pdu) (ra rb : List Turn) → Answers (opening names (xs ++ more)) (xs ++ more) ra → Answers (opening names xs) xs rb → GoesOn rb more
next_opening names [] [] ra rb a b = goes_on rb [] rb refl
next_opening names [] (z ∷ zs) ra rb a b = subst (λ (us : List Turn). GoesOn us (z ∷ zs)) (sym b) a.0
next_opening names (x ∷ []) [] ra rb a b = goes_on rb [] rb refl
next_opening names (x ∷ []) (z ∷ zs) ra rb a b = subst (λ (us : List Turn). GoesOn us (z ∷ zs)) (sym b.1) a.1.0
next_opening names (x ∷ y ∷ xs) more ra rb a b =
    let same : pmids_in (x ∷ y ∷ (xs ++ more)) ≡ pmids_in (x ∷ y ∷ xs) = pmids_same x y (xs ++ more) xs in
    next_behind x y (map desc_turn (metrics_named (pmids_in (x ∷ y ∷ xs)) names)) xs more ra rb
    (subst (λ (pmids : List ℕ). Answers (map desc_turn (metrics_named pmids names) ++ lists x y (map desc_turn (metrics_named (pmids_in (x ∷ y ∷ xs)) names)) (xs ++ more)) (xs ++ more) ra) same a.1.1) b.1.1

-- ---- replies that begin the same

-- one begins the other
abbrev pub Compare : List Pdu → List Pdu → Type 0
Compare xs ys = ((more : List Pdu) × (ys ≡ xs ++ more)) ⊎ ((more : List Pdu) × (xs ≡ ys ++ more))

head_is : (x y : Pdu) (xs ys : List Pdu) → x ∷ xs ≡ y ∷ ys → x ≡ y
head_is x y xs ys is = cc

tail_is : (x y : Pdu) (xs ys : List Pdu) → x ∷ xs ≡ y ∷ ys → xs ≡ ys
tail_is x y xs ys is = cc

-- two fronts of the same replies
pub fronts : (xs ys us vs : List Pdu) → xs ++ us ≡ ys ++ vs → Compare xs ys
fronts [] ys us vs is = inl (ys, refl)
fronts (x ∷ xs) [] us vs is = inr (x ∷ xs, refl)
fronts (x ∷ xs) (y ∷ ys) us vs is = ⊎_elim longer shorter (fronts xs ys us vs (tail_is x y (xs ++ us) (ys ++ vs) is)) where
  first : x ≡ y
  first = head_is x y (xs ++ us) (ys ++ vs) is

  longer : (more : List Pdu) × (ys ≡ xs ++ more) → Compare (x ∷ xs) (y ∷ ys)
  longer (more, are) = inl (more, ap (λ (z : Pdu). z ∷ ys) (sym first) ∙ ap (λ (zs : List Pdu). x ∷ zs) are)

  shorter : (more : List Pdu) × (xs ≡ ys ++ more) → Compare (x ∷ xs) (y ∷ ys)
  shorter (more, are) = inr (more, ap (λ (z : Pdu). z ∷ xs) first ∙ ap (λ (zs : List Pdu). y ∷ zs) are)

pub cancel : (xs us vs : List Pdu) → xs ++ us ≡ xs ++ vs → us ≡ vs
cancel [] us vs is = is
cancel (x ∷ xs) us vs is = cancel xs us vs (tail_is x x (xs ++ us) (xs ++ vs) is)

none_more : (more : List Pdu) → GoesOn [] more → more ≡ []
none_more [] goes = refl
none_more (z ∷ zs) goes = absurd goes

-- Turns that are a function of replies: what is due behind the shorter ones is what the longer ones go on with.
abbrev pub IsCausal : (List Pdu → List Turn) → Type 0
IsCausal f = (xs more : List Pdu) (ra rb : List Turn) → Answers (f (xs ++ more)) (xs ++ more) ra → Answers (f xs) xs rb → GoesOn rb more

module _ (f : List Pdu → List Turn) (causal : IsCausal f) where
  -- two whole answers are one
  whole_longer : (xs ys more : List Pdu) → ys ≡ xs ++ more → Answers (f xs) xs [] → Answers (f ys) ys [] → ys ≡ xs
  whole_longer xs ys more are a b = are ∙ ap (λ (zs : List Pdu). xs ++ zs) (none_more more (causal xs more [] [] (subst (λ (zs : List Pdu). Answers (f zs) zs []) are b) a)) ∙ append-nil xs

  pub one_whole : (xs ys : List Pdu) → Compare xs ys → Answers (f xs) xs [] → Answers (f ys) ys [] → xs ≡ ys
  one_whole xs ys (inl (more, are)) a b = sym (whole_longer xs ys more are a b)
  one_whole xs ys (inr (more, are)) a b = whole_longer ys xs more are b a

  -- Beside a whole answer, replies that answer all their turns are the same ones, and others are begun by it no further than the next turn.
  abbrev pub Meets : List Pdu → List Pdu → List Turn → Type 0
  Meets xs ys [] = xs ≡ ys
  Meets xs ys (t ∷ ts) = (z : Pdu) × (zs : List Pdu) × (xs ≡ ys ++ z ∷ zs) × Fits t z

  met_by : (xs ys more : List Pdu) (rest : List Turn) → xs ≡ ys ++ more → Answers (f xs) xs [] → Answers (f ys) ys rest → GoesOn rest more → Meets xs ys rest
  met_by xs ys [] [] are a b goes = are ∙ append-nil ys
  met_by xs ys (z ∷ zs) [] are a b goes = absurd goes
  met_by xs ys [] (t ∷ ts) are a b goes =
      let same : xs ≡ ys = are ∙ append-nil ys in
      let e : [] ≡ t ∷ ts = one_rest (f ys) ys [] (t ∷ ts) (subst (λ (zs : List Pdu). Answers (f zs) zs []) same a) b in absurd (cc)
  met_by xs ys (z ∷ zs) (t ∷ ts) are a b goes = (z, zs, are, goes)

  pub meets : (xs ys : List Pdu) (rest : List Turn) → Compare xs ys → Answers (f xs) xs [] → Answers (f ys) ys rest → Meets xs ys rest
  meets xs ys rest (inr (more, are)) a b = met_by xs ys more rest are a b (causal ys more [] rest (subst (λ (zs : List Pdu). Answers (f zs) zs []) are a) b)
  meets xs ys rest (inl (more, are)) a b =
      let none = none_more more (causal xs more rest [] (subst (λ (zs : List Pdu). Answers (f zs) zs rest) are b) a) in
      let same : ys ≡ xs = are ∙ ap (λ (zs : List Pdu). xs ++ zs) none ∙ append-nil xs in
      met_by xs ys [] rest (sym same ∙ sym (append-nil ys)) a b (goes_on rest [] rest refl)

-- ---- samples

pub result_is : (p q : PmResult) (us vs : List Pdu) → pdus.Result p ∷ us ≡ pdus.Result q ∷ vs → p ≡ q
result_is p q us vs is = cc

abbrev made_of : PmResult → Facts → Sample
made_of result facts = record { result = result; facts = facts }

sample_is : (x y : Sample) → x.result ≡ y.result → x.facts ≡ y.facts → x ≡ y
sample_is x y results facts = ap (λ (r : PmResult). made_of r x.facts) results ∙ ap (λ (f : Facts). made_of y.result f) facts

-- the same replies show the same sample, and the dialogue stands the same behind it
same_sample : (s : Standing) (xs ys : List Pdu) (x y : Sample) (a b : Standing) → xs ≡ ys → IsSampled s xs x a → IsSampled s ys y b → (x ≡ y) × (a ≡ b)
same_sample s xs ys x y a b same p q =
    let after : a ≡ b = p.becomes ∙ ap (sampled s) same ∙ sym q.becomes in
    let results : x.result ≡ y.result = result_is x.result y.result p.lists q.lists (sym p.first ∙ same ∙ q.first) in
    (sample_is x y results (p.described ∙ ap (λ (z : Standing). z.facts) after ∙ sym q.described), after)

no_sample : (s : Standing) (xs more : List Pdu) (x : Sample) (a : Standing) → IsSampled s xs x a → xs ++ more ≡ [] → ⊥
no_sample s xs more x a p none = let e : pdus.Result x.result ∷ (p.lists ++ more) ≡ [] = ap (λ (zs : List Pdu). zs ++ more) (sym p.first) ∙ none in cc

-- samples of a front of these replies stand in front of those of all
pub front_samples : (s : Standing) (ts us : List Turn) (xs ys more : List Pdu) (ms bs : List Sample) (a b : Standing) → ys ≡ xs ++ more → AreSampled s ts xs ms a → AreSampled s us ys bs b → (extra : List Sample) × (bs ≡ ms ++ extra)
front_samples s ts us xs ys more [] bs a b are p q = (bs, refl)
front_samples s ts us xs ys more (x ∷ ms) [] a b are p q =
    let (first, rest, rest_turns, next, is, asked, shown, others) = p in
    absurd (no_sample s first (rest ++ more) x next shown (sym (append_assoc first rest more) ∙ ap (λ (zs : List Pdu). zs ++ more) (sym is) ∙ sym are ∙ q.1))
front_samples s ts us xs ys more (x ∷ ms) (y ∷ bs) a b are p q =
    let (first, rest, rest_turns, next, is, asked, shown, others) = p in
    let (front, behind, behind_turns, after, also, wanted, told, further) = q in
    let whole : front ++ behind ≡ first ++ (rest ++ more) = sym also ∙ are ∙ ap (λ (zs : List Pdu). zs ++ more) is ∙ append_assoc first rest more in
    let same : first ≡ front = one_whole (sampling s) (next_sampling s) first front (fronts first front (rest ++ more) behind (sym whole)) shown.answered told.answered in
    let one = same_sample s first front x y next after same shown told in
    let tail : behind ≡ rest ++ more = cancel front behind (rest ++ more) (whole ∙ ap (λ (zs : List Pdu). zs ++ (rest ++ more)) same) in
    let found = front_samples after rest_turns behind_turns rest behind more ms bs a b tail (subst (λ (z : Standing). AreSampled z rest_turns rest ms a) one.1 others) further in
    (found.0, ap (λ (z : Sample). z ∷ bs) (sym one.0) ∙ ap (λ (zs : List Sample). x ∷ zs) found.1)

-- ---- a sample that isn't there

-- What the replies go on with behind a dialogue: where it awaits a reply, one that fits; and where all came, the sample that they show.
abbrev pub Further : List Pdu → List Pdu → List Pdu → Standing → List Turn → Type 0
Further xs front own s [] = (x : Sample) × (next : Standing) × IsSampled s own x next
Further xs front own s (t ∷ ts) = (z : Pdu) × (zs : List Pdu) × (xs ≡ (front ++ own) ++ z ∷ zs) × Fits t z

compare_first : (first rest front own : List Pdu) → Compare (first ++ rest) (front ++ own) → (us : List Pdu) × (vs : List Pdu) × (first ++ us ≡ front ++ vs)
compare_first first rest front own (inl (more, are)) = (rest ++ more, own, sym (append_assoc first rest more) ∙ sym are)
compare_first first rest front own (inr (more, are)) = (rest, own ++ more, are ∙ append_assoc front own more)

pub compare_rest : (front rest behind : List Pdu) → Compare (front ++ rest) (front ++ behind) → Compare rest behind
compare_rest front rest behind (inl (more, are)) = inl (more, cancel front behind (rest ++ more) (are ∙ append_assoc front rest more))
compare_rest front rest behind (inr (more, are)) = inr (more, cancel front rest (behind ++ more) (are ∙ append_assoc front behind more))

further_first : (s b : Standing) (first rest xs ys own : List Pdu) (x : Sample) (next : Standing) (us : List Turn) → xs ≡ first ++ rest → ys ≡ [] → b ≡ s → IsSampled s first x next → Meets (sampling s) (next_sampling s) first own us → Further xs ys own b us
further_first s b first rest xs ys own x next [] is none same shown met = (x, next, subst (λ (z : Standing). IsSampled z own x next) (sym same) (subst (λ (zs : List Pdu). IsSampled s zs x next) met shown))
further_first s b first rest xs ys own x next (t ∷ ts) is none same shown (z, zs, are, fits) =
    (z, zs ++ rest, is ∙ ap (λ (ws : List Pdu). ws ++ rest) are ∙ append_assoc own (z ∷ zs) rest ∙ ap (λ (ws : List Pdu). (ws ++ own) ++ z ∷ (zs ++ rest)) (sym none), fits)

pub further_rest : (first rest behind xs ys own : List Pdu) (b : Standing) (us : List Turn) → xs ≡ first ++ rest → ys ≡ first ++ behind → Further rest behind own b us → Further xs ys own b us
further_rest first rest behind xs ys own b [] is also found = found
further_rest first rest behind xs ys own b (t ∷ ts) is also (z, zs, are, fits) =
    (z, zs, is ∙ ap (λ (ws : List Pdu). first ++ ws) are ∙ sym (append_assoc first (behind ++ own) (z ∷ zs)) ∙ ap (λ (ws : List Pdu). ws ++ z ∷ zs) (sym (append_assoc first behind own) ∙ ap (λ (ws : List Pdu). ws ++ own) (sym also)), fits)

pub further : (s : Standing) (ts us : List Turn) (xs ys own : List Pdu) (ms bs : List Sample) (a b : Standing) (rest : List Turn) → Compare xs (ys ++ own) → AreSampled s ts xs ms a → AreSampled s us ys bs b → Answers (sampling b own) own rest → length bs < length ms
    → Further xs ys own b rest
further s ts us xs ys own [] bs a b rest both p q answers few = absurd (omega (arith, few))
further s ts us xs ys own (x ∷ ms) [] a b rest both p q answers few =
    let (first, others, rest_turns, next, is, asked, shown, more) = p in
    let same : b ≡ s = q.2 in
    let side : Compare (first ++ others) ([] ++ own) = subst (λ (ws : List Pdu). Compare ws ([] ++ own)) is (subst (λ (ws : List Pdu). Compare xs (ws ++ own)) q.1 both) in
    further_first s b first others xs ys own x next rest is q.1 same shown
    (meets (sampling s) (next_sampling s) first own rest (fronts_own first own others side) shown.answered (subst (λ (z : Standing). Answers (sampling z own) own rest) same answers))
  where
    fronts_own : (first own others : List Pdu) → Compare (first ++ others) own → Compare first own
    fronts_own first own others (inl (more, are)) = inl (others ++ more, are ∙ append_assoc first others more)
    fronts_own first own others (inr (more, are)) = fronts first own others more are
further s ts us xs ys own (x ∷ ms) (y ∷ bs) a b rest both p q answers few =
    let (first, others, rest_turns, next, is, asked, shown, more) = p in
    let (front, behind, behind_turns, after, also, wanted, told, further_on) = q in
    let side : Compare (first ++ others) (front ++ (behind ++ own)) = subst (λ (ws : List Pdu). Compare ws (front ++ (behind ++ own))) is (subst (λ (ws : List Pdu). Compare xs ws) (ap (λ (ws : List Pdu). ws ++ own) also ∙ append_assoc front behind own) both) in
    let (u, v, equal) = compare_first first others front (behind ++ own) side in
    let same : first ≡ front = one_whole (sampling s) (next_sampling s) first front (fronts first front u v equal) shown.answered told.answered in
    let one = same_sample s first front x y next after same shown told in
    let tail : Compare others (behind ++ own) = compare_rest front others (behind ++ own) (subst (λ (ws : List Pdu). Compare (ws ++ others) (front ++ (behind ++ own))) same side) in
    further_rest front others behind xs ys own b rest (is ∙ ap (λ (ws : List Pdu). ws ++ others) same) also
    (further after rest_turns behind_turns others behind own ms bs a b rest tail (subst (λ (z : Standing). AreSampled z rest_turns others ms a) one.1 more) further_on answers (omega (arith, few)))
