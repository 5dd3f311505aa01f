-- Each refusal by itself is the refusal of the whole, where what is looked at before it passed.
use Rattle.std.proofs.Common.{◌≡◌, ◌⊎◌, inl, inr, ⊎_elim, ℕ, ◌+◌, ◌<◌, ◌≤◌, Bool, true, false, ◌&&◌, nat_lt, List, length, refl, sym, ◌∙◌, subst, arith}
use Rattle.std.proofs.lemmas.Bool.{ltb-false}
use Rattle.pcp_base.specs.declared.result.PmResult.{PmResult}
use Rattle.pcp_model.specs.declared.records.MetaRecord.{MetaRecord}
use Rattle.pcp_model.specs.Payload.{payload_length}
use Rattle.archive_meta.specs.declared.facts.Facts.{Facts}
use Rattle.archive_meta.specs.Facts.{FitSets}
use Rattle.archive_meta.specs.Missing.{AreMade, framed_records}
use Rattle.logger_core.specs.declared.ends.Ends.{Ends}
use Rattle.logger_core.specs.declared.fault.LogFault.{LogFault}
use Rattle.logger_core.specs.declared.fault.LogFault.TheVariants.{Closed, Live, Large, NotLater, Changed, Full, NoMemory, DiskFault}
use Rattle.logger_core.specs.declared.preparing.Made.{Made}
use Rattle.logger_core.specs.Going.{AreSmall}
use Rattle.logger_core.specs.Logging.{IsLater, IsRefused, IsMadeOf, IsLoggable, IsFull, HasPlace, PrepareMayAnswer, LogMayAnswer}
use Rattle.logger_core.specs.Meant.{Kept}
use Rattle.logger_core.specs.Preparing.{IsLengthFault, IsMetadataFault, IsStampFault, IsChangeFault, IsRoomFault}
use Rattle.logger_core.specs.Writing.{IsBounded}

module _ (records : List MetaRecord) (ends : Ends) (limit : ℕ) (answer : PmResult) (facts : Facts) where
  pub by_length : (e : LogFault) → IsLengthFault answer e → IsRefused records ends limit answer facts e
  by_length Closed h = absurd h
  by_length (Live volume) h = absurd h
  by_length (Large bytes) h = inl h
  by_length (NotLater last) h = absurd h
  by_length (Changed pmid) h = absurd h
  by_length (Full file bytes) h = absurd h
  by_length NoMemory h = absurd h
  by_length DiskFault h = absurd h

  module _ (few : payload_length answer ≤ 16777208) where
    pub by_metadata : (e : LogFault) → IsMetadataFault records answer facts e → IsRefused records ends limit answer facts e
    by_metadata Closed h = absurd h
    by_metadata (Live volume) h = absurd h
    by_metadata (Large bytes) h = inr (few, h)
    by_metadata (NotLater last) h = absurd h
    by_metadata (Changed pmid) h = absurd h
    by_metadata (Full file bytes) h = absurd h
    by_metadata NoMemory h = tt
    by_metadata DiskFault h = absurd h

    module _ (bytes : List ℕ) (made : AreMade records facts answer bytes) where
      pub by_stamp : (e : LogFault) → IsStampFault ends.greatest answer.stamp e → IsRefused records ends limit answer facts e
      by_stamp Closed h = absurd h
      by_stamp (Live volume) h = absurd h
      by_stamp (Large n) h = absurd h
      by_stamp (NotLater last) h = (few, (made.missing, made.needed, made.fit), h.0, h.1)
      by_stamp (Changed pmid) h = absurd h
      by_stamp (Full file n) h = absurd h
      by_stamp NoMemory h = absurd h
      by_stamp DiskFault h = absurd h

      module _ (later : IsLater ends.greatest answer.stamp) where
        pub by_change : (e : LogFault) → IsChangeFault records answer facts e → IsRefused records ends limit answer facts e
        by_change Closed h = absurd h
        by_change (Live volume) h = absurd h
        by_change (Large n) h = absurd h
        by_change (NotLater last) h = absurd h
        by_change (Changed pmid) h = (few, (made.missing, made.needed, made.fit), later, h)
        by_change (Full file n) h = absurd h
        by_change NoMemory h = absurd h
        by_change DiskFault h = absurd h

        pub by_room : FitSets records facts.metrics answer.sets → (size : ℕ) → size ≡ payload_length answer + 8 → (e : LogFault) → IsRoomFault ends limit (length bytes) size e → IsRefused records ends limit answer facts e
        by_room fit size is Closed h = absurd h
        by_room fit size is (Live volume) h = absurd h
        by_room fit size is (Large n) h = absurd h
        by_room fit size is (NotLater last) h = absurd h
        by_room fit size is (Changed pmid) h = absurd h
        by_room fit size is (Full file n) h = (
          few,
          later,
          fit,
          (made.missing, made.needed, made.fit, subst (λ (k : ℕ). IsFull ends limit (length (framed_records made.missing)) k file n) is (subst (λ (bs : List ℕ). IsFull ends limit (length bs) size file n) made.is h)),
        )
        by_room fit size is NoMemory h = absurd h
        by_room fit size is DiskFault h = absurd h

  -- nothing can go wrong with the bytes
  by_and : (a b : Bool) → (a && b) ≡ false → (a ≡ false) ⊎ (b ≡ false)
  by_and true b h = inr h
  by_and false b h = inl refl

  pub bounded : (made : Made) → AreSmall ends → limit ≤ 1073741824 → IsMadeOf records ends limit answer facts made → IsBounded ends made
  bounded made small limited is = record {
    next = λ crossing. let low : ends.volume + 1 < 10000 = is.place.volume (sym is.crossing_is ∙ crossing) in omega (arith, low);
    meta = omega (arith, is.place.meta);
    item = omega (arith, is.item_length, is.framed);
    room = λ stays. ⊎_elim
        (λ (short : nat_lt 132 ends.length ≡ false). let low : ends.length ≤ 132 = ltb-false 132 ends.length short in omega (arith, low, is.item_length, is.framed))
        (λ (within : nat_lt limit (ends.length + (payload_length answer + 8)) ≡ false). let low : ends.length + (payload_length answer + 8) ≤ limit = ltb-false limit (ends.length + (payload_length answer + 8)) within in omega (arith, low, is.item_length, limited))
        (by_and (nat_lt 132 ends.length) (nat_lt limit (ends.length + (payload_length answer + 8))) (sym is.crossing_is ∙ stays));
  }

  abbrev pub loggable : (made : Made) → IsMadeOf records ends limit answer facts made → IsLoggable records ends limit answer facts
  loggable made is = record {
    framed = is.framed;
    later = is.later;
    fit = is.fit;
    missing = is.metadata.missing;
    needed = is.metadata.needed;
    fits = is.metadata.fit;
    place = subst (λ (bs : List ℕ). HasPlace ends limit (length bs) (payload_length answer + 8)) is.metadata.is is.place;
  }

pub prepare_refused : (old : Kept) (answer : PmResult) (facts : Facts) → old.closed ≡ false → (e : LogFault) → IsRefused old.records old.ends old.limit answer facts e → PrepareMayAnswer old old answer facts e
prepare_refused old answer facts open_ Closed h = absurd h
prepare_refused old answer facts open_ (Live volume) h = absurd h
prepare_refused old answer facts open_ (Large bytes) h = (open_, refl, h)
prepare_refused old answer facts open_ (NotLater last) h = (open_, refl, h)
prepare_refused old answer facts open_ (Changed pmid) h = (open_, refl, h)
prepare_refused old answer facts open_ (Full file bytes) h = (open_, refl, h)
prepare_refused old answer facts open_ NoMemory h = (open_, refl)
prepare_refused old answer facts open_ DiskFault h = absurd h

pub log_refused : (old new : Kept) (answer : PmResult) (facts : Facts) (before after : ℕ) (e : LogFault) → PrepareMayAnswer old new answer facts e → LogMayAnswer old new answer facts before after e
log_refused old new answer facts before after Closed h = h
log_refused old new answer facts before after (Live volume) h = absurd h
log_refused old new answer facts before after (Large bytes) h = h
log_refused old new answer facts before after (NotLater last) h = h
log_refused old new answer facts before after (Changed pmid) h = h
log_refused old new answer facts before after (Full file bytes) h = h
log_refused old new answer facts before after NoMemory h = h
log_refused old new answer facts before after DiskFault h = absurd h
