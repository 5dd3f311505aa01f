-- PDUs that are served in two parts are served together.
use Rattle.std.proofs.Common.{ℕ, List, [], ◌∷◌, ◌++◌, sym, ap, ◌∙◌, subst, append_assoc}
use Rattle.pcp_base.specs.Time.{Moment}
use Rattle.pmcd_session.specs.declared.standing.Standing.{Standing}
use Rattle.pmcd_session.specs.Serving.{Deed, Deeds, DoesAll, ReadsBy, written_of}

abbrev deeds : {A : Type 0} → List Moment → List ℕ → Standing A → Deeds A
deeds moments written after = record { moments = moments; written = written; after = after }

abbrev both : {A : Type 0} → Deeds A → Deeds A → Deeds A
both d e = deeds (d.moments ++ e.moments) (d.written ++ e.written) e.after

joins : {A : Type 0} (reads : ReadsBy A) (s : Standing A) (pdus more : List (List ℕ)) (d e : Deeds A) → DoesAll reads s pdus d → DoesAll reads d.after more e → DoesAll reads s (pdus ++ more) (both d e)
unfolding DoesAll
joins {A = A} reads s [] more d e done later =
    let from : DoesAll reads s more e = subst (λ (x : Deeds A). DoesAll reads x.after more e) done later in
    subst (λ (x : Deeds A). DoesAll reads s more (both x e)) (sym done) from
joins {A = A} reads s (p ∷ ps) more d e h later =
    let first : Deed A = h.0 in
    let rest : Deeds A = h.1 in
    let next : DoesAll reads rest.after more e = subst (λ (x : Deeds A). DoesAll reads x.after more e) h.4 later in (
      first,
      both rest e,
      h.2,
      joins reads first.after ps more rest e h.3 next,
      ap (λ (x : Deeds A). both x e) h.4
          ∙ ap (λ (m : List Moment). deeds m ((written_of first.reply ++ rest.written) ++ e.written) e.after) (append_assoc first.moments rest.moments e.moments)
          ∙ ap (λ (w : List ℕ). deeds (first.moments ++ (rest.moments ++ e.moments)) w e.after) (append_assoc (written_of first.reply) rest.written e.written),
    )

pub joined_deeds : {A : Type 0} (reads : ReadsBy A) (s between after : Standing A) (pdus more : List (List ℕ)) (moments later : List Moment) (written said : List ℕ)
    → DoesAll reads s pdus (record { moments = moments; written = written; after = between }) → DoesAll reads between more (record { moments = later; written = said; after = after })
    → DoesAll reads s (pdus ++ more) (record { moments = moments ++ later; written = written ++ said; after = after })
joined_deeds reads s between after pdus more moments later written said done next =
    joins reads s pdus more (deeds moments written between) (deeds later said after) done next
