-- How many items are acknowledged once a result is logged, and which volume is written then.
use Rattle.std.proofs.Common.{◌≡◌, ℕ, ◌+◌, Bool, true, false, [], ◌∷◌, length, Option, None, Some, refl, sym, ap, ◌∙◌, subst}
use Rattle.pcp_base.specs.Time.{Moment}
use Rattle.pcp_base.specs.declared.result.PmResult.{PmResult}
use Rattle.pcp_model.specs.declared.records.Entry.{Entry}
use Rattle.pcp_model.specs.Disk.{Files, Holdings}
use Rattle.pcp_model.specs.LabelFields.{LabelFields}
use Rattle.pcp_model.specs.Payload.{payload_length}
use Rattle.pcp_outside.specs.Causes.{shown_count}
use Rattle.archive_meta.specs.declared.facts.Facts.{Facts}
use Rattle.archive_meta.specs.Missing.{framed_records}
use Rattle.logger_core.specs.declared.ends.Ends.{Ends}
use Rattle.logger_core.specs.Going.{all_counted}
use Rattle.logger_core.specs.Grouping.{AreLoggable}
use Rattle.logger_core.specs.Holding.{HeldBack}
use Rattle.logger_core.specs.LogSteps.{crosses}
use Rattle.logger_core.specs.Meant.{Kept}
use Rattle.logger_core.specs.Planning.{due_at, flushed_ends, opened_ends, planned_ends, switch_at, switched_ends, with_put}
use Rattle.logging_session.specs.declared.place.Place.{Place}
use Rattle.logging_session.specs.declared.place.Place.TheVariants.{Found, Open, Lost, Failed}
use Rattle.logging_session.specs.Answers.{CountsAll, CountsBy, CountsOn}
use Rattle.logging_session.specs.Keeping.{HasFound, HasLogger}
use Rattle.logging_session.specs.Opening.{IsOpened}
use Rattle.logging_session.specs.Written.{Report}

-- an entry that is put changes only the index
put_volume : (o : Option Entry) (e : Ends) → (with_put o e).volume ≡ e.volume
put_volume None e = refl
put_volume (Some x) e = refl

put_acknowledged : (o : Option Entry) (e : Ends) → (with_put o e).acknowledged ≡ e.acknowledged
put_acknowledged None e = refl
put_acknowledged (Some x) e = refl

put_logged : (o : Option Entry) (e : Ends) → (with_put o e).logged ≡ e.logged
put_logged None e = refl
put_logged (Some x) e = refl

-- a switch goes to the next volume, and acknowledges all
switched_counts : (e : Ends) → ((switched_ends e).volume ≡ e.volume + 1) × ((switched_ends e).acknowledged ≡ e.logged) × ((switched_ends e).logged ≡ e.logged)
switched_counts e =
    let opened : Ends = opened_ends (flushed_ends e) in (
      put_volume (switch_at opened) opened ∙ ap (λ (n : ℕ). n + 1) (put_volume (due_at (all_counted e)) (all_counted e)),
      put_acknowledged (switch_at opened) opened ∙ put_acknowledged (due_at (all_counted e)) (all_counted e),
      put_logged (switch_at opened) opened ∙ put_logged (due_at (all_counted e)) (all_counted e),
    )

planned_counts : (crossing : Bool) (records item : ℕ) (t : Moment) (e : Ends) → CountsBy crossing e (planned_ends crossing records item t e)
planned_counts true records item t e = let c = switched_counts e in (c.0, c.1, ap (λ (n : ℕ). shown_count (n + 1)) c.2)
planned_counts false records item t e = (refl, refl, refl)

-- so the numbers go on with a result that is held
pub counts_by : (b now : HeldBack) (answer : PmResult) (facts : Facts) → AreLoggable b.kept.records b.planned b.kept.limit ((answer, facts) ∷ []) now.kept.records now.planned → CountsBy (crosses b.kept.limit b.planned.length (payload_length answer + 8)) b.planned now.planned
counts_by b now answer facts all =
    let crossing : Bool = crosses b.kept.limit b.planned.length (payload_length answer + 8) in
    subst (λ (e : Ends). CountsBy crossing b.planned e) (sym all.1.1) (planned_counts crossing (length (framed_records all.0.missing)) (payload_length answer + 8) answer.stamp b.planned)

-- of an archive that was just opened all is acknowledged
pub opened_counts : (l : LabelFields) (left : Files) (kept : Kept) (held : Holdings) → IsOpened l left kept held → kept.ends.acknowledged ≡ kept.ends.logged
opened_counts l left kept held o = o.is.at.ends.acknowledged_is ∙ sym o.is.at.ends.logged

-- so with one result more all others are
one_more : (b : Bool) (old new : Ends) → old.acknowledged ≡ old.logged → CountsBy b old new → new.logged ≡ shown_count (new.acknowledged + 1)
one_more true old new all counts = counts.2 ∙ ap (λ (n : ℕ). shown_count (n + 1)) (sym counts.1)
one_more false old new all counts = counts.2 ∙ ap (λ (n : ℕ). shown_count (n + 1)) (sym (counts.1 ∙ all))

-- a session that is open when it takes the result counts on from where it stood
pub counted_from : (p q now : Place) (r : Report) → (HasLogger p → q ≡ p) → HasLogger q → (HasFound p → CountsAll q) → CountsOn r q now → CountsOn r p now
counted_from (Open b) q now r same open_ all counts = subst (λ (t : Place). CountsOn r t now) (same tt) counts
counted_from (Found archive) (Open b) (Open new) r same open_ all counts =
    let then_ = all tt in one_more (crosses b.kept.limit b.planned.length (payload_length r.result + 8)) b.planned new.planned (ap (λ (e : Ends). e.acknowledged) then_.0 ∙ then_.1 ∙ sym (ap (λ (e : Ends). e.logged) then_.0)) counts
counted_from (Found archive) (Open b) (Found other) r same open_ all counts = tt
counted_from (Found archive) (Open b) Lost r same open_ all counts = tt
counted_from (Found archive) (Open b) (Failed lost) r same open_ all counts = tt
counted_from (Found archive) (Found other) now r same open_ all counts = absurd open_
counted_from (Found archive) Lost now r same open_ all counts = absurd open_
counted_from (Found archive) (Failed lost) now r same open_ all counts = absurd open_
counted_from Lost q now r same open_ all counts = tt
counted_from (Failed lost) q now r same open_ all counts = tt
