-- The stamps of an archive are moments, its label fits every volume, and files are read as one archive.
use Rattle.std.proofs.Common.{zero, suc, ◌≡◌, inl, inr, ℕ, ℤ, ◌<◌, pos, List, [], ◌∷◌, length, sym, ap, subst, arith, length-append}
use Rattle.std.specs.Prelude.{Contains}
use Rattle.std.specs.Int.{w32}
use Rattle.std.specs.List.{AllByRecursion}
use Rattle.std.proofs.lemmas.Int.{fits_signed_from_abs}
use Rattle.pcp_base.specs.Time.{Moment, IsMoment}
use Rattle.pcp_base.specs.declared.file.FileId.TheVariants.{Index, Volume}
use Rattle.pcp_base.specs.declared.result.Item.{Item}
use Rattle.pcp_base.specs.declared.result.Item.TheVariants.{Sample, Mark}
use Rattle.pcp_model.specs.declared.records.MetaRecord.{MetaRecord}
use Rattle.pcp_model.specs.declared.records.MetaRecord.TheVariants.{Description, Domain, Other}
use Rattle.pcp_model.specs.Archive.{ArchiveContents, ArchiveReading, AreRead, AreVolumes, IsArchive, IsIndex, IsLastVolume, items_of}
use Rattle.pcp_model.specs.Disk.{Files}
use Rattle.pcp_model.specs.LabelFields.{LabelFields}
use Rattle.pcp_model.specs.Labels.{IsLabel}
use Rattle.pcp_model.specs.Payload.{IsItem, stamp_of}
use Rattle.pcp_model.specs.Records.{IsRecord, FitsEntry}
use Rattle.pcp_model.proofs.Lists.{each-append}
use Rattle.pcp_model.proofs.OneReading.{one_reading}
use Rattle.archive_frame.specs.Labels.{LabelInRange}
use Rattle.logger_core.specs.Steps.{IsStampIn}

-- what holds of all holds of one of them
pub at_of : {X : Type 0} (P : X → Type 0) (xs : List X) (x : X) → AllByRecursion P xs → Contains xs x → P x
at_of P [] x all has = absurd (omega (arith, has.1))
at_of P (y ∷ ys) x all (zero, low, is) = subst P is all.0
at_of P (y ∷ ys) x all (suc k, low, is) = at_of P ys x all.1 (k, omega (arith, low), is)

abbrev IsTimely : Item → Type 0
IsTimely x = IsMoment (stamp_of x)

abbrev IsTimelyRecord : MetaRecord → Type 0
IsTimelyRecord (Description d names) = Unit {0}
IsTimelyRecord (Domain t indom pairs) = IsMoment t
IsTimelyRecord Other = Unit {0}

item_timely : (bytes : List ℕ) (x : Item) → IsItem bytes x → IsTimely x
item_timely bytes (Sample r) is = is.1.range.moment
item_timely bytes (Mark t) is = is.0

record_timely : (bytes : List ℕ) (r : MetaRecord) → IsRecord bytes r → IsTimelyRecord r
record_timely bytes (Description d names) is = tt
record_timely bytes (Domain t indom pairs) is = is.moment
record_timely bytes Other is = tt

each_read : {X : Type 0} (R : List ℕ → X → Type 0) (P : X → Type 0) → ((bytes : List ℕ) (x : X) → R bytes x → P x) → (payloads : List (List ℕ)) (xs : List X) → AreRead R payloads xs → AllByRecursion P xs
each_read R P f [] [] are = tt
each_read R P f [] (x ∷ xs) are = absurd (are tt)
each_read R P f (p ∷ ps) [] are = tt
each_read R P f (p ∷ ps) (x ∷ xs) are = (f p x are.1, each_read R P f ps xs are.2)

last_timely : (bytes : List ℕ) (l : LabelFields) (n : ℕ) (items : List Item) → IsLastVolume bytes l n items → AllByRecursion IsTimely items
last_timely bytes l n items (inl (some, none, begins)) = subst (λ (xs : List Item). AllByRecursion IsTimely xs) (sym none) tt
last_timely bytes l n items (inr (torn, is_torn, h)) = each_read IsItem IsTimely item_timely h.payloads items h.read

all_timely : (files : Files) (l : LabelFields) (vs : List (ℕ × List Item)) → AreVolumes files l vs → AllByRecursion IsTimely (items_of vs)
all_timely files l [] are = tt
all_timely files l (v ∷ []) are = each-append IsTimely v.1 [] (last_timely (files (Volume v.0)) l v.0 v.1 are) tt
all_timely files l (v ∷ w ∷ vs) are = each-append IsTimely v.1 (items_of (w ∷ vs)) (each_read IsItem IsTimely item_timely are.0.payloads v.1 are.0.read) (all_timely files l (w ∷ vs) are.2)

entries_fit : (bytes : List ℕ) (c : ArchiveContents) → IsIndex bytes c → AllByRecursion FitsEntry c.entries
entries_fit bytes c (inl none) = subst (AllByRecursion FitsEntry) (sym none.0) tt
entries_fit bytes c (inr has) = has.fit

pub archive_timely : (files : Files) (c : ArchiveContents) → IsArchive files c → (t : Moment) → IsStampIn c t → IsMoment t
archive_timely files c is t (inl (x, has, same)) = subst IsMoment same (at_of IsTimely (items_of c.volumes) x (all_timely files c.label c.volumes is.volumes) has)
archive_timely files c is t (inr (inl (indom, pairs, has))) =
    at_of IsTimelyRecord c.records (Domain t indom pairs) (each_read IsRecord IsTimelyRecord record_timely is.meta.holds.payloads c.records is.meta.holds.read) has
archive_timely files c is t (inr (inr (e, has, same))) = subst IsMoment same (at_of FitsEntry c.entries e (entries_fit (files Index) c is.index) has).moment

pub one_contents : (files : Files) (c d : ArchiveContents) → IsArchive files c → IsArchive files d → c ≡ d
one_contents files c d x y = let same : ArchiveReading.archive c ≡ ArchiveReading.archive d = one_reading files (ArchiveReading.archive c) (ArchiveReading.archive d) x y in cc

-- what a label says fits that of a volume
pub label_in_range : (bytes : List ℕ) (l : LabelFields) (number : ℤ) (next : ℕ) → IsLabel bytes l number → next < 2147483648 → LabelInRange l (pos next)
label_in_range bytes l number next is low = record {
  pid = is.pid;
  start = is.start;
  host = is.has_host.clean;
  zone = is.has_zone.clean;
  fits = record {
    host = omega (arith, is.has_host.wide, ap length is.has_host.ended.1, length-append l.host (0 ∷ is.has_host.ended.0));
    zone = omega (arith, is.has_zone.wide, ap length is.has_zone.ended.1, length-append l.zone (0 ∷ is.has_zone.ended.0));
  };
  signed = fits_signed_from_abs w32 (pos next) (omega (arith, low));
}
