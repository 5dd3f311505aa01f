-- What an agent told is what a request is replied.
use Rattle.std.proofs.Common.{◌≡◌, ◌≢◌, ◌==◌, true, false, ℕ, suc, ℤ, length, arith, List, [], ◌∷◌, Option, Some, None, Result, refl, sym, ap, ◌∙◌, subst}
use Rattle.std.proofs.lemmas.Bool.{eqb-true, eqb-false}
use Rattle.pcp_base.specs.declared.desc.Desc.{Desc}
use Rattle.pdu_codec.specs.declared.pdu.Pdu.{Pdu}
use Rattle.pdu_codec.specs.declared.pdu.Pdu.TheVariants as pdus
use Rattle.pmns_core.specs.Pairs.{Pair}
use Rattle.fetch_answers.specs.Asks.{desc_asked, instances_asked}
use Rattle.fetch_answers.specs.Readings.{RegionReading}
use Rattle.fetch_answers.specs.declared.names.Named.{Named}
use Rattle.pmcd_session.specs.Agents.{named_by}
use Rattle.pmcd_session.specs.declared.standing.Standing.{Standing}
use Rattle.pmcd_session.specs.Replies.{try_again_error, desc_reply, instance_reply, missing_among, name_reply, names_shown, region_needed, reply_over, unless_missing}
use Rattle.pmcd_session.specs.Serving.{KeepsRest, ReadsBy, Tells}
use Rattle.pmcd_session.specs.Telling.{ShowsNames}

pub desc_tells : {A : Type 0} (reads : ReadsBy A) (s after : Standing A) (pmid : ℕ) (told : Result Desc ℤ) (reply : Pdu) → KeepsRest s after
    → ((readings : List RegionReading) × reads (Some pmid) s.agent readings after.agent × (told ≡ desc_asked readings pmid))
    → reply ≡ desc_reply told → Tells reads s (pdus.DescReq pmid) (record { moments = []; reply = Some reply; after = after })
desc_tells reads s after pmid told reply rest shown is = record {
  regions = shown.0;
  read = shown.1;
  moments = refl;
  reply = ap (λ p. Some p) (is ∙ ap desc_reply shown.2);
  rest = rest;
}

pub instances_tell : {A : Type 0} (reads : ReadsBy A) (s after : Standing A) (indom : ℕ) (instance : ℤ) (told : Result (List (ℤ × List ℕ)) ℤ) (reply : Pdu) → KeepsRest s after
    → ((readings : List RegionReading) × reads (Some indom) s.agent readings after.agent × (told ≡ instances_asked readings indom))
    → reply ≡ instance_reply indom instance told → Tells reads s (pdus.InstanceReq indom instance) (record { moments = []; reply = Some reply; after = after })
instances_tell reads s after indom instance told reply rest shown is = record {
  regions = shown.0;
  read = shown.1;
  moments = refl;
  reply = ap (λ p. Some p) (is ∙ ap (instance_reply indom instance) shown.2);
  rest = rest;
}

-- the reply over the names, or while a region is missing
over_names : Option (List Pair) → Pdu → Pdu
over_names (Some names) request = name_reply names request
over_names None request = pdus.Error try_again_error

missed : (clusters : List ℕ) (reply : Pdu) → clusters ≢ [] → unless_missing clusters reply ≡ pdus.Error try_again_error
missed [] reply some = absurd (some refl)
missed (cluster ∷ clusters) reply some = refl

names_found : (regions : List RegionReading) (names : Option (List Pair)) (request : Pdu) → ShowsNames regions names
    → over_names names request ≡ unless_missing (missing_among regions) (name_reply (names_shown regions) request)
unfolding over_names
names_found regions (Some names) request shown =
    ap (λ n. name_reply n request) shown.1 ∙ ap (λ clusters. unless_missing clusters (name_reply (names_shown regions) request)) (sym shown.0)
names_found regions None request shown = sym (missed (missing_among regions) (name_reply (names_shown regions) request) shown)

-- a request for names
names_tell : {A : Type 0} (reads : ReadsBy A) (s after : Standing A) (request : Pdu) (names : Option (List Pair)) (reply : Pdu) → KeepsRest s after
    → ((readings : List RegionReading) × reads None s.agent readings after.agent × ShowsNames readings names)
    → region_needed request ≡ None → ((regions : List RegionReading) → reply_over request regions ≡ unless_missing (missing_among regions) (name_reply (names_shown regions) request))
    → reply ≡ over_names names request → Tells reads s request (record { moments = []; reply = Some reply; after = after })
names_tell {A = A} reads s after request names reply rest shown all over is = record {
  regions = shown.0;
  read = subst (λ (n : Option ℕ). reads n s.agent shown.0 after.agent) (sym all) shown.1;
  moments = refl;
  reply = ap (λ p. Some p) (is ∙ names_found shown.0 names request shown.2 ∙ sym (over shown.0));
  rest = rest;
}

-- where names are told
pub some_tell : {A : Type 0} (reads : ReadsBy A) (s after : Standing A) (request : Pdu) (held : Option Named) (names : List Pair) (reply : Pdu) → KeepsRest s after
    → ((readings : List RegionReading) × reads None s.agent readings after.agent × (held ≡ Some (named_by readings)))
    → ((readings : List RegionReading) → held ≡ Some (named_by readings) → ShowsNames readings (Some names))
    → region_needed request ≡ None → ((regions : List RegionReading) → reply_over request regions ≡ unless_missing (missing_among regions) (name_reply (names_shown regions) request))
    → reply ≡ name_reply names request → Tells reads s request (record { moments = []; reply = Some reply; after = after })
unfolding over_names
some_tell reads s after request held names reply rest read shown all over is = names_tell reads s after request (Some names) reply rest (read.0, read.1, shown read.0 read.2) all over is

-- and while a region is missing
pub none_tell : {A : Type 0} (reads : ReadsBy A) (s after : Standing A) (request : Pdu) (held : Option Named) → KeepsRest s after
    → ((readings : List RegionReading) × reads None s.agent readings after.agent × (held ≡ Some (named_by readings)))
    → ((readings : List RegionReading) → held ≡ Some (named_by readings) → ShowsNames readings None)
    → region_needed request ≡ None → ((regions : List RegionReading) → reply_over request regions ≡ unless_missing (missing_among regions) (name_reply (names_shown regions) request))
    → Tells reads s request (record { moments = []; reply = Some (pdus.Error try_again_error); after = after })
unfolding over_names
none_tell reads s after request held rest read shown all over = names_tell reads s after request None (pdus.Error try_again_error) rest (read.0, read.1, shown read.0 read.2) all over refl

-- whether there is one
pub is_empty_list : {X : Type 0} (xs : List X) → (length xs == 0) ≡ true → xs ≡ []
is_empty_list [] e = refl
is_empty_list (x ∷ xs) e = absurd (none_longer (length xs) (eqb-true (length (x ∷ xs)) 0 e))
  where
    none_longer : (n : ℕ) → suc n ≡ 0 → ⊥
    none_longer n h = omega arith

pub is_longer_list : {X : Type 0} (xs : List X) → (length xs == 0) ≡ false → xs ≢ []
is_longer_list {X = X} xs e h = eqb-false (length xs) 0 e (ap (λ (l : List X). length l) h)
