-- What a logger keeps it would keep were all its files on the disk, wholly sure.
use Rattle.std.proofs.Common.{◌≡◌, ◌⊎◌, inl, inr, ℕ, ◌≤◌, [], length, refl, ap, ◌∙◌, arith, length-append}
use Rattle.std.proofs.lemmas.List.{append-nil}
use Rattle.pcp_base.specs.declared.file.FileId.{FileId}
use Rattle.pcp_base.specs.declared.file.FileId.TheVariants.{Meta, Index, Volume}
use Rattle.pcp_model.specs.declared.records.Entry.{Entry}
use Rattle.pcp_model.specs.Archive.{items_of}
use Rattle.pcp_model.specs.Disk.{Holdings, bytes_of}
use Rattle.pcp_model.proofs.Lists.{each-map}
use Rattle.logger_core.specs.declared.ends.Ends.{Ends}
use Rattle.logger_core.specs.Holding.{all_sure}
use Rattle.logger_core.specs.Keeps.{IsPart, Keeps, PointsSurely}
use Rattle.logger_core.specs.Meant.{Meant, IsAt, Stands}
use Rattle.logger_core.proofs.Nearer.{more_sure}

module _ (m : Meant) (number : ℕ) (held : Holdings) (at : Stands m number held) where
  abbrev sure : Holdings
  sure = all_sure m.files

  grows : (g : FileId) → length (held g).sure ≤ length (sure g).sure
  grows g = omega (arith, ap length (at.written g), length-append (held g).sure (held g).rest)

  part : (g : FileId) → IsPart (sure g) (m.files g)
  part g = record { more = []; is = append-nil (bytes_of (sure g)) ∙ append-nil (m.files g) }

  still_points : (e : Entry) → PointsSurely m.files held number e → PointsSurely m.files sure number e
  still_points e p = record {
    meta = λ some. omega (arith, p.meta some, grows Meta);
    offset = λ same. omega (arith, p.offset same, grows (Volume number));
    below = (p.below.0, omega (arith, p.below.1, grows (Volume p.below.0)), p.below.2);
  }

  still_labelled : (m.contents.entries ≡ []) ⊎ ((n : ℕ) × (132 ≤ length (held (Volume n)).sure)) → (m.contents.entries ≡ []) ⊎ ((n : ℕ) × (132 ≤ length (sure (Volume n)).sure))
  still_labelled (inl none) = inl none
  still_labelled (inr some) = inr (some.0, omega (arith, some.1, grows (Volume some.0)))

  sure_keeps : Keeps m.start m.files m.contents number (length m.contents.records) m.acknowledged sure
  sure_keeps = let k = at.keeps in record {
    is = k.is;
    last = k.last;
    indexed = k.indexed;
    whole = k.whole;
    meta = part Meta;
    index = part Index;
    volume = part (Volume number);
    others = λ n other. refl;
    few = k.few;
    sure = omega (arith, k.sure, grows Meta);
    described = k.described;
    sound = k.sound;
    labelled = still_labelled k.labelled;
    points = λ was. each-map (PointsSurely m.files held number) (PointsSurely m.files sure number) still_points m.contents.entries (k.points was);
    items = more_sure (length (items_of k.last.before)) k.last.whole.payloads (length (held (Volume number)).sure) (length (sure (Volume number)).sure) m.acknowledged (grows (Volume number)) k.items;
    earlier = k.earlier;
  }

  pub sure_stands : Stands m number sure
  sure_stands = record { keeps = sure_keeps; written = λ g. append-nil (m.files g); sure = refl; indexed = omega (arith, at.indexed, grows Index); headed = omega (arith, at.headed, grows (Volume number)) }

pub sure_at : (m : Meant) (e : Ends) (held : Holdings) → IsAt m e held → IsAt m e (all_sure m.files)
sure_at m e held at = record { stands = sure_stands m e.volume held at.stands; ends = at.ends }
