-- PDUs that are served one after another.
use Rattle.std.proofs.Common.{ℕ, List, [], ◌∷◌, ◌++◌, refl, sym, ap, ◌∙◌, subst, append_assoc}
use Rattle.std.proofs.lemmas.List.{append-nil}
use Rattle.pcp_base.specs.Time.{Moment}
use Rattle.pmcd_session.specs.declared.standing.Standing.{Standing}
use Rattle.pmcd_session.specs.Serving.{Deed, Deeds, Does, DoesAll, ReadsBy, written_of}

-- nothing yet
pub none_done : {A : Type 0} (reads : ReadsBy A) (s : Standing A) → DoesAll reads s [] (record { moments = []; written = []; after = s })
unfolding DoesAll
none_done reads s = refl

abbrev deeds : {A : Type 0} → List Moment → List ℕ → Standing A → Deeds A
deeds moments written after = record { moments = moments; written = written; after = after }

-- one PDU more, behind those that were served
pub one_more : {A : Type 0} (reads : ReadsBy A) (s : Standing A) (pdus : List (List ℕ)) (pdu : List ℕ) (d : Deeds A) (e : Deed A) → DoesAll reads s pdus d → Does reads d.after pdu e
    → DoesAll reads s (pdus ++ pdu ∷ []) (record { moments = d.moments ++ e.moments; written = d.written ++ written_of e.reply; after = e.after })
unfolding DoesAll
one_more {A = A} reads s [] pdu d e done does =
    let first : Does reads s pdu e = subst (λ (x : Deeds A). Does reads x.after pdu e) done does in (
      e,
      deeds [] [] e.after,
      first,
      refl,
      ap (λ (x : Deeds A). deeds (x.moments ++ e.moments) (x.written ++ written_of e.reply) e.after) done
          ∙ ap (λ (m : List Moment). deeds m (written_of e.reply) e.after) (sym (append-nil e.moments))
          ∙ ap (λ (w : List ℕ). deeds (e.moments ++ []) w e.after) (sym (append-nil (written_of e.reply))),
    )
one_more {A = A} reads s (p ∷ ps) pdu d e h does =
    let first : Deed A = h.0 in
    let later : Deeds A = h.1 in
    let next : Does reads later.after pdu e = subst (λ (x : Deeds A). Does reads x.after pdu e) h.4 does in (
      first,
      deeds (later.moments ++ e.moments) (later.written ++ written_of e.reply) e.after,
      h.2,
      one_more reads first.after ps pdu later e h.3 next,
      ap (λ (x : Deeds A). deeds (x.moments ++ e.moments) (x.written ++ written_of e.reply) e.after) h.4
          ∙ ap (λ (m : List Moment). deeds m ((written_of first.reply ++ later.written) ++ written_of e.reply) e.after) (append_assoc first.moments later.moments e.moments)
          ∙ ap (λ (w : List ℕ). deeds (first.moments ++ (later.moments ++ e.moments)) w e.after) (append_assoc (written_of first.reply) later.written (written_of e.reply)),
    )
