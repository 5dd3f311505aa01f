-- Over the same bytes there is one dialogue: what fits in one doesn't misfit in another.
use Rattle.std.proofs.Common.{◌≡◌, ◌⊎◌, inl, inr, ⊎_elim, ℕ, zero, suc, ◌+◌, ◌<◌, ◌≤◌, List, [], ◌∷◌, ◌++◌, length, take, refl, sym, ap, ◌∙◌, subst, arith, append_assoc, append-nil, length-append, Some, None}
use Rattle.std.specs.Int.{w32, from_be_bytes}
use Rattle.std.proofs.lemmas.List.{take-append-le, take_at}
use Rattle.pcp_outside.specs.Sides.{SourceSide, SinkSide}
use Rattle.pcp_base.specs.declared.result.PmResult.{PmResult}
use Rattle.archive_meta.specs.declared.facts.Facts.{Facts}
use Rattle.archive_meta.specs.Enough.{AreEnough}
use Rattle.pdu_codec.specs.declared.pdu.Pdu.{Pdu}
use Rattle.pdu_codec.specs.declared.pdu.Pdu.TheVariants as pdus
use Rattle.pdu_codec.specs.Bodies.{IsPdu}
use Rattle.pdu_codec.specs.Types.{type_of}
use Rattle.pdu_codec.proofs.Once.{one_beginning}
use Rattle.pdu_stream.specs.Streams.{IsBad, IsBegun, length_word}
use Rattle.pdu_stream.specs.Streams.{IsPdu as IsWhole}
use Rattle.pmcd_client.specs.declared.faults.ReplyFault.{ReplyFault}
use Rattle.pmcd_client.specs.declared.faults.ReplyFault.TheVariants as whys
use Rattle.pmcd_client.specs.declared.faults.TalkFault.{TalkFault}
use Rattle.pmcd_client.specs.declared.faults.TalkFault.TheVariants as talks
use Rattle.pmcd_client.specs.Bytes.{AreReplies, EndsBy, IsMisfit, IsReply}
use Rattle.pmcd_client.specs.Replies.{Standing, opened}
use Rattle.pmcd_client.specs.Talks.{AreSampled, Asks, BreaksOff, Continues, IsAsking, IsSampled, IsUnlisted, Sample, Talks}
use Rattle.pmcd_client.specs.Turns.{Answers, Fits, Turn, opening, sampling, type_due}
use Rattle.pm_pulling.specs.Good.{AreBytes}
use Rattle.pm_pulling.proofs.Courses.{Compare, Further, cancel, compare_rest, front_samples, fronts, further, further_rest, later, meets, next_opening, one_whole, result_is, wider}

-- ---- bytes

front_bytes : (a x : List ℕ) → AreBytes (a ++ x) → AreBytes a
front_bytes [] x all i = omega arith
front_bytes (c ∷ a) x all zero = all zero
front_bytes (c ∷ a) x all (suc i) = front_bytes a x (λ (j : ℕ). all (suc j)) i

rest_bytes : (a x : List ℕ) → AreBytes (a ++ x) → AreBytes x
rest_bytes [] x all = all
rest_bytes (c ∷ a) x all = rest_bytes a x (λ (j : ℕ). all (suc j))

cancel_bytes : (a x y : List ℕ) → a ++ x ≡ a ++ y → x ≡ y
cancel_bytes [] x y is = is
cancel_bytes (c ∷ a) x y is = cancel_bytes a x y (tail_of c (a ++ x) (a ++ y) is) where
  tail_of : (c : ℕ) (xs ys : List ℕ) → c ∷ xs ≡ c ∷ ys → xs ≡ ys
  tail_of c xs ys is = cc

-- Two lists of replies over the same bytes: one begins the other, and behind it the bytes go on with what it lacks.
pub record Longer (xs ys : List Pdu) (u v : List ℕ) : Type 0 where
  pub more : List Pdu
  pub bytes : List ℕ
  pub are : ys ≡ xs ++ more
  pub spelled : AreReplies bytes more
  pub is : u ≡ bytes ++ v

compare_bytes : (a b u v : List ℕ) (xs ys : List Pdu) → AreBytes (a ++ u) → AreReplies a xs → AreReplies b ys → a ++ u ≡ b ++ v → Longer xs ys u v ⊎ Longer ys xs v u
compare_bytes a b u v [] ys all p q is = inl (record { more = ys; bytes = b; are = refl; spelled = q; is = ap (λ (z : List ℕ). z ++ u) (sym p) ∙ is })
compare_bytes a b u v (x ∷ xs) [] all p q is = inr (record { more = x ∷ xs; bytes = a; are = refl; spelled = p; is = ap (λ (z : List ℕ). z ++ v) (sym q) ∙ sym is })
compare_bytes a b u v (x ∷ xs) (y ∷ ys) all (f, m, cut, first, others) (g, n, also, front, behind) is =
    let left : a ++ u ≡ f ++ (m ++ u) = ap (λ (z : List ℕ). z ++ u) cut ∙ append_assoc f m u in
    let right : b ++ v ≡ g ++ (n ++ v) = ap (λ (z : List ℕ). z ++ v) also ∙ append_assoc g n v in
    let all_left : AreBytes (f ++ (m ++ u)) = subst AreBytes left all in
    let one = one_beginning f g (m ++ u) (n ++ v) x y (front_bytes f (m ++ u) all_left) first.is front.is (sym left ∙ is ∙ right) in
    let rest : m ++ u ≡ n ++ v = cancel_bytes g (m ++ u) (n ++ v) (ap (λ (z : List ℕ). z ++ (m ++ u)) (sym one.0) ∙ sym left ∙ is ∙ right) in
    ⊎_elim (λ (l : Longer xs ys u v). inl (record { more = l.more; bytes = l.bytes; are = ap (λ (z : Pdu). z ∷ ys) (sym one.1) ∙ ap (λ (zs : List Pdu). x ∷ zs) l.are; spelled = l.spelled; is = l.is }))
    (λ (l : Longer ys xs v u). inr (record { more = l.more; bytes = l.bytes; are = ap (λ (z : Pdu). z ∷ xs) one.1 ∙ ap (λ (zs : List Pdu). y ∷ zs) l.are; spelled = l.spelled; is = l.is }))
    (compare_bytes m n u v xs ys (rest_bytes f (m ++ u) all_left) others behind rest)

pub compared : (xs ys : List Pdu) (u v : List ℕ) → Longer xs ys u v ⊎ Longer ys xs v u → Compare xs ys
compared xs ys u v (inl l) = inl (l.more, l.are)
compared xs ys u v (inr l) = inr (l.more, l.are)

-- ---- a reply that fits is no misfit

whole_first : (f m : List ℕ) → IsWhole f → length_word (f ++ m) ≡ length f
whole_first f m w = let least = w.least in ap (from_be_bytes w32) (take-append-le 4 f m (omega (arith, least))) ∙ w.says

whole_one : (f g m n : List ℕ) → IsWhole f → IsWhole g → f ++ m ≡ g ++ n → f ≡ g
whole_one f g m n p q is =
    let long : length f ≡ length g = sym (whole_first f m p) ∙ ap length_word is ∙ whole_first g n q in
    sym (take_at f m (length f) refl) ∙ ap (take (length f)) is ∙ take_at g n (length f) (sym long)

not_begun : (f m bytes : List ℕ) → IsWhole f → bytes ≡ f ++ m → IsBegun bytes → ⊥
not_begun f m bytes w is (inl short) = let least = w.least in let long = ap length is ∙ length-append f m in omega (arith, least, long, short)
not_begun f m bytes w is (inr (low, high, less)) =
    let says : length_word bytes ≡ length f = ap length_word is ∙ whole_first f m w in
    let long = ap length is ∙ length-append f m in omega (arith, says, long, less)

not_bad : (f m bytes after : List ℕ) (found : ℕ) → IsWhole f → bytes ++ after ≡ f ++ m → length bytes ≡ 4 → IsBad bytes found → ⊥
not_bad f m bytes after found w is four (some, says, out) =
    let word : length_word (bytes ++ after) ≡ length_word bytes = ap (from_be_bytes w32) (take-append-le 4 bytes after (omega (arith, four))) in
    let same : found ≡ length f = sym says ∙ sym word ∙ ap length_word is ∙ whole_first f m w in
    let least = w.least in let most = w.most in
    ⊎_elim (λ (low : found < 12). omega (arith, same, least, low)) (λ (high : 65536 < found). omega (arith, same, most, high)) out

fits_type : (t : Turn) (z : Pdu) → Fits t z → type_of z ≡ type_due t
fits_type None (pdus.Error code) fits = refl
fits_type (Some (pdus.PmnsNames status names)) (pdus.PmnsIds found pmids) fits = refl
fits_type (Some (pdus.DescReq pmid)) (pdus.Desc d) fits = refl
fits_type (Some (pdus.InstanceReq indom instance)) (pdus.Instance found pairs) fits = refl
fits_type (Some (pdus.Fetch context sec usec pmids)) (pdus.Result r) fits = refl
fits_type t z fits = absurd fits

module _ (i : SourceSide) (tells : i.tells) (t : Turn) (bytes f m : List ℕ) (z : Pdu) (all : AreBytes f) (reply : IsReply f z) (fits : Fits t z) (is : bytes ++ i.after ≡ f ++ m) where
  same_reply : (p : Pdu) → IsReply bytes p → z ≡ p
  same_reply p other = (one_beginning f bytes m i.after z p all reply.is other.is (sym is)).1

  pub no_misfit : (why : ReplyFault) → IsMisfit i t bytes why → ⊥
  no_misfit (whys.Ended n) (begun, many, none) = not_begun f m bytes reply.whole (sym (append-nil bytes) ∙ ap (λ (a : List ℕ). bytes ++ a) (sym (none tells)) ∙ is) begun
  no_misfit (whys.Length found) (four, bad) = not_bad f m bytes i.after found reply.whole is four bad
  no_misfit whys.Decode (whole, none) = none z (subst (λ (b : List ℕ). IsPdu b z) (whole_one f bytes m i.after reply.whole whole (sym is)) reply.is)
  no_misfit (whys.Code code) (other, unfit) = unfit (subst (Fits t) (same_reply (pdus.Error code) other) fits)
  no_misfit whys.Type (p, other, no_error, another) = another (ap type_of (sym (same_reply p other)) ∙ fits_type t z fits)
  no_misfit whys.Shape (p, other, no_error, due, unfit) = unfit (subst (Fits t) (same_reply p other) fits)

-- ---- dialogues

answers_both : (ts us rest : List Turn) (xs ys : List Pdu) → Answers ts xs [] → Answers us ys rest → Answers (ts ++ us) (xs ++ ys) rest
answers_both [] us rest [] ys p q = q
answers_both (t ∷ ts) us rest [] ys p q = let e : [] ≡ t ∷ ts = p in absurd (cc)
answers_both [] us rest (x ∷ xs) ys p q = absurd p
answers_both (t ∷ ts) us rest (x ∷ xs) ys p q = (p.0, answers_both ts us rest xs ys p.1 q)

samples_answer : (s : Standing) (ts : List Turn) (xs : List Pdu) (items : List Sample) (a : Standing) → AreSampled s ts xs items a → Answers ts xs []
samples_answer s ts xs [] a (none, no_replies, same) = subst (λ (ys : List Pdu). Answers ts ys []) (sym no_replies) (sym none)
samples_answer s ts xs (x ∷ items) a (first, rest, rest_turns, next, are, asked, shown, others) =
    subst (λ (ys : List Pdu). Answers ts ys []) (sym are) (subst (λ (us : List Turn). Answers us (first ++ rest) []) (sym asked) (answers_both (sampling s first) rest_turns [] first rest shown.answered (samples_answer next rest_turns rest items a others)))

module _ (names : List (List ℕ)) where
  asks_answer : (ts : List Turn) (xs : List Pdu) (items : List Sample) (s : Standing) → Asks names ts xs items s → Answers ts xs []
  asks_answer ts xs items s a =
      subst (λ (ys : List Pdu). Answers ts ys []) (sym a.are) (subst (λ (us : List Turn). Answers us (a.first ++ a.later) []) (sym a.asked)
      (answers_both (opening names a.first) a.later_turns [] a.first a.later a.answered (samples_answer (opened names a.first) a.later_turns a.later items s a.samples)))

  -- the replies before the first samples are the same
  one_opening : (ts us : List Turn) (xs ys : List Pdu) (ms bs : List Sample) (a b : Standing) → (p : Asks names ts xs ms a) (q : Asks names us ys bs b) (u v : List Pdu) → xs ++ u ≡ ys ++ v → p.first ≡ q.first
  one_opening ts us xs ys ms bs a b p q u v is =
      let same : p.first ++ (p.later ++ u) ≡ q.first ++ (q.later ++ v) =
      sym (append_assoc p.first p.later u) ∙ ap (λ (zs : List Pdu). zs ++ u) (sym p.are) ∙ is ∙ ap (λ (zs : List Pdu). zs ++ v) q.are ∙ append_assoc q.first q.later v in
      one_whole (opening names) (next_opening names) p.first q.first (fronts p.first q.first (p.later ++ u) (q.later ++ v) same) p.answered q.answered

  -- samples of a front of some replies stand in front of those of all
  pub front_items : (ts us : List Turn) (xs ys more : List Pdu) (ms bs : List Sample) (a b : Standing) → Asks names ts xs ms a → Asks names us ys bs b → ys ≡ xs ++ more → (extra : List Sample) × (bs ≡ ms ++ extra)
  front_items ts us xs ys more ms bs a b p q are =
      let same = one_opening ts us xs ys ms bs a b p q more [] (sym are ∙ sym (append-nil ys)) in
      let tail : q.later ≡ p.later ++ more = cancel q.first q.later (p.later ++ more) (sym q.are ∙ are ∙ ap (λ (zs : List Pdu). zs ++ more) (p.are ∙ ap (λ (zs : List Pdu). zs ++ p.later) same) ∙ append_assoc q.first p.later more) in
      front_samples (opened names q.first) p.later_turns q.later_turns p.later q.later more ms bs a b tail (subst (λ (zs : List Pdu). AreSampled (opened names zs) p.later_turns p.later ms a) same p.samples) q.samples

  -- a front of a front is one
  shorter : (xs before own : List Pdu) → Compare xs (before ++ own) → Compare xs before
  shorter xs before own (inl (more, are)) = fronts xs before more own (sym are)
  shorter xs before own (inr (more, are)) = fronts xs before [] (own ++ more) (append-nil xs ∙ are ∙ append_assoc before own more)

  module _ (ts : List Turn) (xs : List Pdu) (ms : List Sample) (a : Standing) (p : Asks names ts xs ms a) where
    -- The turns of a further sample: with more samples the replies go on behind them as they are due.
    further_of : (us : List Turn) (ys : List Pdu) (bs : List Sample) (c : Continues names us ys bs) (rest : List Turn) → Compare xs ys → Answers us ys rest → length bs < length ms → Further xs c.replies_before c.own c.s rest
    further_of us ys bs c rest both answers few =
        let q = c.asks in
        let side : Compare xs (c.replies_before ++ c.own) = subst (Compare xs) c.are both in
        let before : Compare xs c.replies_before = shorter xs c.replies_before c.own side in
        let same : p.first ≡ q.first = opening_of c.turns_before c.replies_before bs c.s q before in
        let due : Answers (sampling c.s c.own) c.own rest =
        later (c.turns_before ++ sampling c.s c.own) c.replies_before c.own rest (sampling c.s c.own) (subst (λ (zs : List Pdu). Answers (c.turns_before ++ sampling c.s c.own) zs rest) c.are (subst (λ (vs : List Turn). Answers vs ys rest) c.asked answers))
        (wider c.turns_before (sampling c.s c.own) c.replies_before [] (asks_answer c.turns_before c.replies_before bs c.s q)) in
        let tail : Compare p.later (q.later ++ c.own) =
        compare_rest q.first p.later (q.later ++ c.own) (subst (λ (zs : List Pdu). Compare (zs ++ p.later) (q.first ++ (q.later ++ c.own))) same
        (subst (λ (zs : List Pdu). Compare zs (q.first ++ (q.later ++ c.own))) p.are (subst (Compare xs) (ap (λ (zs : List Pdu). zs ++ c.own) q.are ∙ append_assoc q.first q.later c.own) side))) in
        further_rest q.first p.later q.later xs c.replies_before c.own c.s rest (p.are ∙ ap (λ (zs : List Pdu). zs ++ p.later) same) q.are
        (further (opened names q.first) p.later_turns q.later_turns p.later q.later c.own ms bs a c.s rest tail (subst (λ (zs : List Pdu). AreSampled (opened names zs) p.later_turns p.later ms a) same p.samples) q.samples due few)
      where
        opening_of : (us : List Turn) (ys : List Pdu) (bs : List Sample) (b : Standing) (q : Asks names us ys bs b) → Compare xs ys → p.first ≡ q.first
        opening_of us ys bs b q (inl (more, are)) = one_opening ts us xs ys ms bs a b p q more [] (sym are ∙ sym (append-nil ys))
        opening_of us ys bs b q (inr (more, are)) = one_opening ts us xs ys ms bs a b p q [] more (append-nil xs ∙ are)

    -- a reply is due there that fits
    pub due_reply : (us : List Turn) (ys : List Pdu) (bs : List Sample) (t : Turn) (vs : List Turn) → IsAsking names us ys bs → Compare xs ys → Answers us ys (t ∷ vs) → length bs < length ms → (z : Pdu) × (zs : List Pdu) × (xs ≡ ys ++ z ∷ zs) × Fits t z
    due_reply us ys bs t vs (inl (is, none)) both answers few =
        let met = meets (opening names) (next_opening names) p.first ys (t ∷ vs) (first_of p.first p.later p.are both) p.answered (subst (λ (ws : List Turn). Answers ws ys (t ∷ vs)) is answers) in
        (met.0, met.1 ++ p.later, p.are ∙ ap (λ (zs : List Pdu). zs ++ p.later) met.2 ∙ append_assoc ys (met.0 ∷ met.1) p.later, met.3)
      where
        first_of : (first rest : List Pdu) → xs ≡ first ++ rest → Compare xs ys → Compare first ys
        first_of first rest are (inl (more, is)) = inl (rest ++ more, is ∙ ap (λ (zs : List Pdu). zs ++ more) are ∙ append_assoc first rest more)
        first_of first rest are (inr (more, is)) = fronts first ys rest more (sym are ∙ is)
    due_reply us ys bs t vs (inr c) both answers few =
        let found = further_of us ys bs c (t ∷ vs) both answers few in
        (found.0, found.1, found.2 ∙ ap (λ (zs : List Pdu). zs ++ found.0 ∷ found.1) (sym c.are), found.3)

    -- and where all came, their sample is listed whole
    pub listed : (us : List Turn) (ys : List Pdu) (bs : List Sample) (c : Continues names us ys bs) → Compare xs ys → Answers us ys [] → length bs < length ms → (x : Sample) × (next : Standing) × IsSampled c.s c.own x next
    listed us ys bs c both answers few = further_of us ys bs c [] both answers few

  -- ---- over the same bytes

  module _ (i j : SourceSide) (o k : SinkSide) (listens : i.tells) (hears : j.tells) (same : i.left ≡ j.left) (all : AreBytes i.left) where
    -- what two dialogues took
    both_took : (a b : List ℕ) (xs ys : List Pdu) → AreReplies a xs → AreReplies b ys → (u v : List ℕ) → i.left ≡ a ++ u → j.left ≡ b ++ v → Longer xs ys u v ⊎ Longer ys xs v u
    both_took a b xs ys p q u v is also = compare_bytes a b u v xs ys (subst AreBytes is all) p q (sym is ∙ same ∙ also)

    -- the samples of one stand in front of those of the other
    pub one_front : (ms bs : List Sample) (a b : Standing) → Talks names i o ms a → Talks names j k bs b → ((extra : List Sample) × (bs ≡ ms ++ extra)) ⊎ ((extra : List Sample) × (ms ≡ bs ++ extra))
    one_front ms bs a b p q = by_replies (both_took p.passes.taken q.passes.taken p.replies q.replies p.passes.spelled q.passes.spelled i.after j.after (p.passes.took listens) (q.passes.took hears)) where
      by_replies : Longer p.replies q.replies i.after j.after ⊎ Longer q.replies p.replies j.after i.after → ((extra : List Sample) × (bs ≡ ms ++ extra)) ⊎ ((extra : List Sample) × (ms ≡ bs ++ extra))
      by_replies (inl l) = inl (front_items p.turns q.turns p.replies q.replies l.more ms bs a b p.asks q.asks l.are)
      by_replies (inr l) = inr (front_items q.turns p.turns q.replies p.replies l.more bs ms b a q.asks p.asks l.are)

    abbrev Bad : ℕ → ReplyFault → TalkFault
    Bad number why = talks.Peer number why

    misfit_at : (ms bs : List Sample) (a : Standing) (number n : ℕ) (why : ReplyFault) (p : Talks names i o ms a) (us rest : List Turn) (ys : List Pdu) (taken took : List ℕ) → IsAsking names us ys bs → Answers us ys rest → AreReplies taken ys
        → j.left ≡ (taken ++ took) ++ j.after → EndsBy j k n took rest (Bad number why) → length bs < length ms → ⊥
    misfit_at ms bs a number n why p us [] ys taken took asking answers spelled is ends few = let e : Bad number why ≡ talks.NoMemory = ends.1 in cc
    misfit_at ms bs a number n why p us (t ∷ ts) ys taken took asking answers spelled is ends few =
        by_replies (both_took p.passes.taken taken p.replies ys p.passes.spelled spelled i.after (took ++ j.after) (p.passes.took listens) (is ∙ append_assoc taken took j.after))
      where
        misfit : (z : Pdu) (zs : List Pdu) (bytes : List ℕ) → AreReplies bytes (z ∷ zs) → took ++ j.after ≡ bytes ++ i.after → Fits t z → ⊥
        misfit z zs bytes (f, m, cut, first, others) goes fits =
            let whole : took ++ j.after ≡ f ++ (m ++ i.after) = goes ∙ ap (λ (b : List ℕ). b ++ i.after) cut ∙ append_assoc f m i.after in
            let mine : AreBytes (taken ++ (took ++ j.after)) = subst AreBytes (same ∙ is ∙ append_assoc taken took j.after) all in
            let here : AreBytes f = front_bytes f (m ++ i.after) (subst AreBytes whole (rest_bytes taken (took ++ j.after) mine)) in
            no_misfit j hears t took f (m ++ i.after) z here first fits whole why ends.0

        more_is : (ys more : List Pdu) (z : Pdu) (zs : List Pdu) → ys ++ more ≡ ys ++ z ∷ zs → more ≡ z ∷ zs
        more_is ys more z zs is = cancel ys more (z ∷ zs) is

        none_left : (ys more : List Pdu) (z : Pdu) (zs : List Pdu) → ys ≡ (ys ++ z ∷ zs) ++ more → ⊥
        none_left ys more z zs is = let long = ap length is ∙ length-append (ys ++ z ∷ zs) more ∙ ap (λ (n : ℕ). n + length more) (length-append ys (z ∷ zs)) in omega (arith, long)

        by_replies : Longer p.replies ys i.after (took ++ j.after) ⊎ Longer ys p.replies (took ++ j.after) i.after → ⊥
        by_replies (inl l) =
            let due = due_reply p.turns p.replies ms a p.asks us ys bs t ts asking (inl (l.more, l.are)) answers few in
            none_left ys l.more due.0 due.1 (l.are ∙ ap (λ (zs : List Pdu). zs ++ l.more) due.2)
        by_replies (inr l) =
            let due = due_reply p.turns p.replies ms a p.asks us ys bs t ts asking (inr (l.more, l.are)) answers few in
            misfit due.0 due.1 l.bytes (subst (AreReplies l.bytes) (more_is ys l.more due.0 due.1 (sym l.are ∙ due.2)) l.spelled) l.is due.3

    unlisted_at : (ms bs : List Sample) (a : Standing) (e : TalkFault) → Talks names i o ms a → IsUnlisted names j k bs e → length bs < length ms → ⊥
    unlisted_at ms bs a e p u few =
        let took = both_took p.passes.taken u.passes.taken p.replies u.replies p.passes.spelled u.passes.spelled i.after j.after (p.passes.took listens) (u.passes.took hears) in
        let (x, next, shown) = listed p.turns p.replies ms a p.asks u.turns u.replies bs u.continues (compared p.replies u.replies i.after j.after took) u.passes.answered few in
        let results : x.result ≡ u.shown = result_is x.result u.shown shown.lists u.lists (sym shown.first ∙ u.first) in
        u.unlisted (subst (λ (f : Facts). AreEnough f u.shown.sets) (shown.described ∙ ap (λ (z : Standing). z.facts) shown.becomes) (subst (λ (r : PmResult). AreEnough x.facts r.sets) results shown.enough))

    -- one that shows more samples isn't broken off by its peer
    pub not_broken : (ms bs : List Sample) (a : Standing) (number : ℕ) (why : ReplyFault) → Talks names i o ms a → BreaksOff names j k bs (Bad number why) → length bs < length ms → ⊥
    not_broken ms bs a number why p (inl b) few =
        misfit_at ms bs a number (0 + length b.replies) why p b.turns b.stops.rest b.replies b.stops.taken b.stops.more_taken b.asking b.stops.answered b.stops.spelled (b.stops.took hears) b.stops.ends few
    not_broken ms bs a number why p (inr u) few = unlisted_at ms bs a (Bad number why) p u few

    -- of one that broke off the samples that it shows are those of the other
    pub front_broken : (ms bs : List Sample) (a : Standing) (number : ℕ) (why : ReplyFault) → Talks names i o ms a → BreaksOff names j k bs (Bad number why) → length ms ≤ length bs → (extra : List Sample) × (bs ≡ ms ++ extra)
    front_broken ms bs a number why p b few = by_break b where
      none_as : (ms bs : List Sample) → bs ≡ [] → length ms ≤ length bs → (extra : List Sample) × (bs ≡ ms ++ extra)
      none_as [] bs none few = (bs, refl)
      none_as (x ∷ ms) bs none few = let long = ap length none in absurd (omega (arith, few, long))

      of_more : (us : List Turn) (ys : List Pdu) (c : Continues names us ys bs) → Compare p.replies ys → (extra : List Sample) × (bs ≡ ms ++ extra)
      of_more us ys c both = by_side (shorter p.replies c.replies_before c.own (subst (Compare p.replies) c.are both)) where
        same_long : (ms bs extra : List Sample) → ms ≡ bs ++ extra → length ms ≤ length bs → (more : List Sample) × (bs ≡ ms ++ more)
        same_long ms bs [] are few = ([], sym (append-nil bs) ∙ sym are ∙ sym (append-nil ms))
        same_long ms bs (x ∷ extra) are few = let long = ap length are ∙ length-append bs (x ∷ extra) in absurd (omega (arith, few, long))

        by_side : Compare p.replies c.replies_before → (extra : List Sample) × (bs ≡ ms ++ extra)
        by_side (inl (more, are)) = front_items p.turns c.turns_before p.replies c.replies_before more ms bs a c.s p.asks c.asks are
        by_side (inr (more, are)) = let found = front_items c.turns_before p.turns c.replies_before p.replies more bs ms c.s a c.asks p.asks are in same_long ms bs found.0 found.1 few

      by_asking : (us : List Turn) (ys : List Pdu) → IsAsking names us ys bs → Compare p.replies ys → (extra : List Sample) × (bs ≡ ms ++ extra)
      by_asking us ys (inl (is, none)) both = none_as ms bs none few
      by_asking us ys (inr c) both = of_more us ys c both

      by_break : BreaksOff names j k bs (Bad number why) → (extra : List Sample) × (bs ≡ ms ++ extra)
      by_break (inl b) =
          by_asking b.turns b.replies b.asking
          (compared p.replies b.replies i.after (b.stops.more_taken ++ j.after) (both_took p.passes.taken b.stops.taken p.replies b.replies p.passes.spelled b.stops.spelled i.after (b.stops.more_taken ++ j.after) (p.passes.took listens) (b.stops.took hears ∙ append_assoc b.stops.taken b.stops.more_taken j.after)))
      by_break (inr u) = of_more u.turns u.replies u.continues (compared p.replies u.replies i.after j.after (both_took p.passes.taken u.passes.taken p.replies u.replies p.passes.spelled u.passes.spelled i.after j.after (p.passes.took listens) (u.passes.took hears)))
