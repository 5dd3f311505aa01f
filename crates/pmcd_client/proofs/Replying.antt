-- A reply is read: its first word, and then the rest.
use Rattle.std.proofs.Common.{◌≡◌, ℕ, ◌+◌, ◌<◌, ◌≤◌, List, [], ◌++◌, length, refl, sym, ap, ◌∙◌, subst, append_assoc, arith, length-append, ◌⊎◌, ⊎_elim, inl, inr, Bool, true, false, cond, nat_lt, Some, None}
use Rattle.std.proofs.lemmas.Bool.{ltb-false}
use Rattle.std.proofs.Math.Nat.{eq-or-lt_of_le}
use Rattle.pcp_base.specs.Fields.{be_field}
use Rattle.std.specs.Prelude.{Ok, Err, Result, MatchResult}
use Rattle.std.specs.Int.{w32, from_be_bytes}
use Rattle.std.proofs.lemmas.List.{take-append-le}
use Rattle.pcp_outside.specs.Sides.{SourceSide, source_side}
use Rattle.pcp_outside.specs.Causes.{Rose}
use Rattle.pcp_outside.specs.declared.streams.Source.{Ghosts as SourceGhosts}
use Rattle.pdu_codec.specs.declared.pdu.Pdu.{Pdu}
use Rattle.pdu_codec.specs.declared.fault.PduFault.{PduFault}
use Rattle.pdu_codec.specs.declared.fault.PduFault.TheVariants as pdu_faults
use Rattle.pdu_codec.specs.Bodies.{IsPdu}
use Rattle.pdu_codec.specs.Reading.{Gives}
use Rattle.pdu_stream.specs.Streams.{IsBegun, length_word}
use Rattle.pdu_stream.specs.Streams.{IsPdu as IsWhole}
use Rattle.pmcd_client.specs.declared.faults.ReplyFault.{ReplyFault}
use Rattle.pmcd_client.specs.declared.faults.ReplyFault.TheVariants as whys
use Rattle.pmcd_client.specs.declared.faults.TalkFault.{TalkFault}
use Rattle.pmcd_client.specs.declared.faults.TalkFault.TheVariants as faults
use Rattle.pmcd_client.specs.Bytes.{Took, IsPart, IsReply}
use Rattle.pmcd_client.specs.Pieces.{Fills, FillsNot, Receives, IsUndecoded, unread_by, IsUnfit, Awaits}
use Rattle.pmcd_client.specs.Turns.{Turn, Fits}

-- the first word of more bytes
word_on : (w more : List ℕ) → 4 ≤ length w → length_word (w ++ more) ≡ length_word w
word_on w more long = ap (from_be_bytes w32) (take-append-le 4 w more long)

-- no more than a length word
word_part : (part : List ℕ) → length part ≤ 4 → IsPart part
word_part part few = inr (⊎_elim (λ (all : length part ≡ 4). inr all) (λ (short : length part < 4). inl (inl short)) (eq-or-lt_of_le few))

-- the first word was read: four bytes
pub record HasWord {I : Type 0} (g : SourceGhosts I) (a b : I) (w : List ℕ) : Type 0 where
  pub took : Took (source_side g a b) w
  pub stands : g.faults b ≡ g.faults a
  pub long : length w ≡ 4

module _ {I : Type 0} (g : SourceGhosts I) (a b : I) (n : ℕ) where
  -- the input ended in the first word
  pub ended_first : (w : List ℕ) → Fills (source_side g a b) 4 [] w → length w < 4 → Receives (source_side g a b) n (Err (faults.Peer n (whys.Ended (length w))))
  ended_first w f short = (w, subst (λ (l : List ℕ). Took (source_side g a b) l) (sym f.2) f.1, (inl short, refl, f.4 short), refl, f.5)

  pub word_came : (old w : List ℕ) → old ≡ [] → Fills (source_side g a b) 4 old w → 4 ≤ length w → HasWord g a b w
  word_came old w none f long = record { took = subst (λ (l : List ℕ). Took (source_side g a b) l) (sym (f.2 ∙ ap (λ (l : List ℕ). l ++ f.0) none)) f.1; stands = f.5; long = let few = f.3 in omega arith }

  -- it wasn't read
  pub unread_first : (w : List ℕ) (e : TalkFault) → FillsNot (source_side g a b) 4 [] w e → Receives (source_side g a b) n (Err e)
  unread_first w faults.NoMemory f = (f.0, f.1, word_part f.0 (let few = f.2 in omega arith), f.3)
  unread_first w faults.ReadFault f = (w, subst (λ (l : List ℕ). Took (source_side g a b) l) (sym f.2) f.1, inl f.3, f.4)
  unread_first w faults.WriteFault f = absurd f
  unread_first w (faults.Peer reply why) f = absurd f

  -- no PDU has the length that it says
  pub bad_length : (w : List ℕ) (found : ℕ) → HasWord g a b w → length_word w ≡ found → (found < 12) ⊎ (65536 < found) → Receives (source_side g a b) n (Err (faults.Peer n (whys.Length found)))
  bad_length w found h is bad = (w, h.took, (h.long, (let l = h.long in omega arith, is, bad)), refl, h.stands)

module _ {I : Type 0} (g : SourceGhosts I) (a b c : I) (n : ℕ) (w bytes : List ℕ) (goal : ℕ) (h : HasWord g a b w) (says : length_word w ≡ goal) (least : 12 ≤ goal) (most : goal ≤ 65536) where
  long : 4 ≤ length w
  long = let l = h.long in omega arith

  -- all that was taken stands in the buffer
  took_both : (part : List ℕ) → Took (source_side g b c) part → bytes ≡ w ++ part → Took (source_side g a c) bytes
  took_both part p is = λ tells. h.took tells ∙ ap (λ (l : List ℕ). w ++ l) (p tells) ∙ sym (append_assoc w part (g.left c)) ∙ ap (λ (l : List ℕ). l ++ g.left c) (sym is)

  word_says : (part : List ℕ) → bytes ≡ w ++ part → length_word bytes ≡ goal
  word_says part is = ap length_word is ∙ word_on w part long ∙ says

  begun : (part : List ℕ) → bytes ≡ w ++ part → length bytes < goal → IsBegun bytes
  begun part is short = let s = word_says part is in inr (omega arith, omega arith, omega arith)

  -- no more than the PDU that the word begins
  rest_part : (part : List ℕ) → length w + length part ≤ goal → IsPart (w ++ part)
  rest_part part few =
      let s : length_word (w ++ part) ≡ goal = word_on w part long ∙ says in
      let l : length (w ++ part) ≡ length w + length part = length-append w part in
      let within : length (w ++ part) ≤ goal = omega arith in
      ⊎_elim (λ (all : length (w ++ part) ≡ goal). inl (record { least = omega arith; most = omega arith; says = s ∙ sym all }))
      (λ (short : length (w ++ part) < goal). inr (inl (inr (omega arith, omega arith, omega arith)))) (eq-or-lt_of_le within)

  -- the rest wasn't read
  pub unread_rest : (e : TalkFault) → FillsNot (source_side g b c) goal w bytes e → Receives (source_side g a c) n (Err e)
  unread_rest faults.NoMemory f = (
    w ++ f.0,
    (λ tells. h.took tells ∙ ap (λ (l : List ℕ). w ++ l) (f.1 tells) ∙ sym (append_assoc w f.0 (g.left c))),
    rest_part f.0 f.2,
    f.3 ∙ h.stands,
  )
  unread_rest faults.ReadFault f = (
    bytes,
    took_both f.0 f.1 f.2,
    begun f.0 f.2 f.3,
    (subst (λ (k : ℕ). Rose k (g.faults c)) h.stands f.4.0, subst (λ (k : ℕ). k ≤ g.faults c) h.stands f.4.1),
  )
  unread_rest faults.WriteFault f = absurd f
  unread_rest (faults.Peer reply why) f = absurd f

  -- the input ended in the rest
  pub ended_rest : Fills (source_side g b c) goal w bytes → length bytes < goal → Receives (source_side g a c) n (Err (faults.Peer n (whys.Ended (length bytes))))
  ended_rest f short = (bytes, took_both f.0 f.1 f.2, (begun f.0 f.2 short, refl, f.4 short), refl, f.5 ∙ h.stands)

  whole : (part : List ℕ) → bytes ≡ w ++ part → length bytes ≡ goal → IsWhole bytes
  whole part is all = record { least = omega arith; most = omega arith; says = word_says part is ∙ sym all }

  -- a whole PDU
  pub received : (p : Pdu) → Fills (source_side g b c) goal w bytes → goal ≤ length bytes → IsPdu bytes p → Receives (source_side g a c) n (Ok p)
  received p f all is =
      (bytes, took_both f.0 f.1 f.2, record { whole = whole f.0 f.2 (let few = f.3 in omega arith); is = is }, f.5 ∙ h.stands)

  -- or bytes that are none
  pub undecoded : (e : TalkFault) → Fills (source_side g b c) goal w bytes → goal ≤ length bytes → IsUndecoded bytes n e → Receives (source_side g a c) n (Err e)
  undecoded faults.NoMemory f all u = (bytes, took_both f.0 f.1 f.2, inl (whole f.0 f.2 (let few = f.3 in omega arith)), f.5 ∙ h.stands)
  undecoded (faults.Peer reply whys.Decode) f all u = (bytes, took_both f.0 f.1 f.2, (whole f.0 f.2 (let few = f.3 in omega arith), u.2), u.0, f.5 ∙ h.stands)
  undecoded (faults.Peer reply (whys.Ended k)) f all u = absurd (let same : whys.Ended k ≡ whys.Decode = u.1 in cc)
  undecoded (faults.Peer reply (whys.Length k)) f all u = absurd (let same : whys.Length k ≡ whys.Decode = u.1 in cc)
  undecoded (faults.Peer reply (whys.Code k)) f all u = absurd (let same : whys.Code k ≡ whys.Decode = u.1 in cc)
  undecoded (faults.Peer reply whys.Type) f all u = absurd (let same : whys.Type ≡ whys.Decode = u.1 in cc)
  undecoded (faults.Peer reply whys.Shape) f all u = absurd (let same : whys.Shape ≡ whys.Decode = u.1 in cc)
  undecoded faults.ReadFault f all u = absurd u
  undecoded faults.WriteFault f all u = absurd u

  -- what whole bytes are, as they were decoded
  pub read_so : (seen : List ℕ) (r : Result Pdu TalkFault) → seen ≡ bytes → Fills (source_side g b c) goal w bytes → goal ≤ length bytes → MatchResult r (IsPdu seen) (IsUndecoded seen n) → Receives (source_side g a c) n r
  read_so seen (Ok p) same f all is = received p f all (subst (λ (l : List ℕ). IsPdu l p) same is)
  read_so seen (Err e) same f all is = undecoded e f all (subst (λ (l : List ℕ). IsUndecoded l n e) same is)

-- what the first word says
pub word_read : (bytes : List ℕ) (n : ℕ) → Some n ≡ be_field w32 0 bytes → (4 ≤ length bytes) × (length_word bytes ≡ n)
word_read bytes n is = go (nat_lt (length bytes) 4) refl is
  where
    go : (b : Bool) → nat_lt (length bytes) 4 ≡ b → Some n ≡ cond b None (Some (length_word bytes)) → (4 ≤ length bytes) × (length_word bytes ≡ n)
    go true e h = absurd (let none : Some n ≡ None = h in cc)
    go false e h = (ltb-false (length bytes) 4 e, (let same : n ≡ length_word bytes = cc in sym same))

module _ (i : SourceSide) (n : ℕ) (turn : Turn) where
  pub awaits_unread : (e : TalkFault) → Receives i n (Err e) → Awaits i n turn (Err e)
  awaits_unread faults.NoMemory r = r
  awaits_unread faults.ReadFault r = r
  awaits_unread faults.WriteFault r = r
  awaits_unread (faults.Peer reply (whys.Ended k)) r = r
  awaits_unread (faults.Peer reply (whys.Length k)) r = r
  awaits_unread (faults.Peer reply whys.Decode) r = r
  awaits_unread (faults.Peer reply (whys.Code k)) r = absurd r.2
  awaits_unread (faults.Peer reply whys.Type) r = absurd r.2
  awaits_unread (faults.Peer reply whys.Shape) r = absurd r.2

  pub awaits_fitting : (p : Pdu) → Receives i n (Ok p) → Fits turn p → Awaits i n turn (Ok p)
  awaits_fitting p r fits = (r.0, r.1, r.2, fits, r.3)

  pub awaits_unfit : (p : Pdu) (why : ReplyFault) → Receives i n (Ok p) → IsUnfit turn p why → Awaits i n turn (Err (faults.Peer n why))
  awaits_unfit p (whys.Ended k) r u = absurd u
  awaits_unfit p (whys.Length k) r u = absurd u
  awaits_unfit p whys.Decode r u = absurd u
  awaits_unfit p (whys.Code code) r u = (r.0, r.1, (subst (λ (q : Pdu). IsReply r.0 q) u.0 r.2, subst (λ (q : Pdu). Fits turn q → ⊥) u.0 u.1), refl, r.3)
  awaits_unfit p whys.Type r u = (r.0, r.1, (p, r.2, u.0, u.1), refl, r.3)
  awaits_unfit p whys.Shape r u = (r.0, r.1, (p, r.2, u.0, u.1, u.2), refl, r.3)

-- bytes that weren't decoded are no reply
pub undecoded_by : (bytes : List ℕ) (n : ℕ) (e : PduFault) → ((p : Pdu) → IsPdu bytes p → Gives (Err e) (Ok p)) → IsUndecoded bytes n (unread_by n e)
undecoded_by bytes n pdu_faults.NoMemory only = tt
undecoded_by bytes n (pdu_faults.Length f) only = (refl, refl, λ p is. ⊎_elim (λ (k : pdu_faults.Length f ≡ pdu_faults.NoMemory). cc) (λ (k : ◌≡◌ {A = Result Pdu PduFault} (Ok p) (Err (pdu_faults.Length f))). cc) (only p is))
undecoded_by bytes n (pdu_faults.Unknown f) only = (refl, refl, λ p is. ⊎_elim (λ (k : pdu_faults.Unknown f ≡ pdu_faults.NoMemory). cc) (λ (k : ◌≡◌ {A = Result Pdu PduFault} (Ok p) (Err (pdu_faults.Unknown f))). cc) (only p is))
undecoded_by bytes n (pdu_faults.Body f) only = (refl, refl, λ p is. ⊎_elim (λ (k : pdu_faults.Body f ≡ pdu_faults.NoMemory). cc) (λ (k : ◌≡◌ {A = Result Pdu PduFault} (Ok p) (Err (pdu_faults.Body f))). cc) (only p is))
