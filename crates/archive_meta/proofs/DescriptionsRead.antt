-- What is read of a description is what it spells, and what it spells is read.
use Rattle.std.proofs.Common.{zero, suc, ◌≡◌, ℕ, ◌+◌, ◌<◌, false, cond, ltb, List, [], ◌∷◌, ◌++◌, length, take, drop, Option, Some, None, refl, sym, ap, ◌∙◌, subst, append_assoc, arith}
use Rattle.std.specs.Int.{w32}
use Rattle.std.specs.List.{AllByRecursion}
use Rattle.std.proofs.lemmas.Bool.{ltb-false, le-ltb}
use Rattle.std.proofs.lemmas.List.{take_at, drop_at, drop-drop, take-append-drop, length-append, length-take-le}
use Rattle.pcp_base.proofs.Bytes.{IsBytes, IsBytes-drop}
use Rattle.pcp_base.specs.Fields.{be_field}
use Rattle.pcp_base.specs.Texts.{IsText}
use Rattle.pcp_base.specs.declared.desc.Desc.{Desc}
use Rattle.pcp_model.specs.Words.{word}
use Rattle.pcp_model.specs.Records.{counted_name, counted_names, description, DescriptionInRange}
use Rattle.pcp_model.specs.Instances.{◌>>=◌, text_of}
use Rattle.archive_meta.specs.Decoding.{first_name, names_from, desc_in, description_in}
use Rattle.pcp_model.proofs.ZeroBytes.{bind_some, some_is, past, text_is, text_clean}
use Rattle.pcp_model.proofs.Fields.{WordStands, field_takes, field_again, behind_word}

pub record NameRead (bytes name : List ℕ) : Type 0 where
  pub is : bytes ≡ counted_name name ++ drop (4 + length name) bytes
  pub text : IsText name
  pub fits : length name < 4294967296

pub name_takes : (bytes name : List ℕ) → IsBytes bytes → first_name bytes ≡ Some name → NameRead bytes name
unfolding first_name
name_takes bytes name fits e =
    let a = bind_some (be_field w32 0 bytes) (λ size. cond (ltb (length (drop 4 bytes)) size) None (text_of (take size (drop 4 bytes)))) name e in
    let g = past (ltb (length (drop 4 bytes)) a.0) (text_of (take a.0 (drop 4 bytes))) name a.2 in
    let t = text_is (take a.0 (drop 4 bytes)) name g.1 in
    let w : WordStands bytes 0 4 a.0 = field_takes bytes 0 4 a.0 fits refl a.1 in
    let long : length name ≡ a.0 = ap length (sym t.0) ∙ length-take-le a.0 (drop 4 bytes) (ltb-false _ _ g.0) in
    let low : a.0 < 4294967296 = w.fits in
    let behind : drop a.0 (drop 4 bytes) ≡ drop (4 + length name) bytes = drop-drop a.0 4 bytes ∙ ap (λ n. drop (4 + n) bytes) (sym long) in
    let rest : drop 4 bytes ≡ name ++ drop (4 + length name) bytes = sym (take-append-drop a.0 (drop 4 bytes)) ∙ ap (λ x. x ++ drop a.0 (drop 4 bytes)) t.0 ∙ ap (λ x. name ++ x) behind in
    record {
      is = w.is ∙ ap (λ n. word n ++ drop 4 bytes) (sym long) ∙ ap (λ x. word (length name) ++ x) rest ∙ sym (append_assoc (word (length name)) name (drop (4 + length name) bytes));
      text = t.1;
      fits = omega arith;
    }

pub name_again : (bytes name rest : List ℕ) → IsText name → length name < 4294967296 → bytes ≡ counted_name name ++ rest → (first_name bytes ≡ Some name) × (drop (4 + length name) bytes ≡ rest)
unfolding first_name
name_again bytes name rest clean few e =
    let n : ℕ = length name in
    let cut : drop 0 bytes ≡ word n ++ (name ++ rest) = e ∙ append_assoc (word n) name rest in
    let read : be_field w32 0 bytes ≡ Some n = field_again bytes 0 n (name ++ rest) few cut in
    let behind : drop 4 bytes ≡ name ++ rest = behind_word bytes 0 4 n (name ++ rest) refl cut in
    let room : ltb (length (drop 4 bytes)) n ≡ false = le-ltb _ _ (omega (arith, ap length behind, length-append name rest)) in
    let front : take n (drop 4 bytes) ≡ name = ap (take n) behind ∙ take_at name rest n refl in (
      ap (λ o. o >>= λ size. cond (ltb (length (drop 4 bytes)) size) None (text_of (take size (drop 4 bytes)))) read
          ∙ ap (λ b. cond b None (text_of (take n (drop 4 bytes)))) room ∙ ap text_of front ∙ text_clean name clean,
      sym (drop-drop n 4 bytes) ∙ ap (drop n) behind ∙ drop_at name rest n refl,
    )

pub record NamesRead (bytes : List ℕ) (n : ℕ) (names : List (List ℕ)) : Type 0 where
  pub is : bytes ≡ counted_names names
  pub count : length names ≡ n
  pub texts : AllByRecursion (λ (name : List ℕ). IsText name × (length name < 4294967296)) names

pub names_takes : (n : ℕ) (bytes : List ℕ) (names : List (List ℕ)) → IsBytes bytes → names_from n bytes ≡ Some names → NamesRead bytes n names
unfolding names_from
names_takes zero [] names fits e = subst (NamesRead [] 0) (some_is [] names e) (record { is = refl; count = refl; texts = tt })
names_takes zero (b ∷ bytes) names fits e = absurd cc
names_takes (suc n) bytes names fits e =
    let a = bind_some (first_name bytes) (λ name. names_from n (drop (4 + length name) bytes) >>= λ others. Some (name ∷ others)) names e in
    let b = bind_some (names_from n (drop (4 + length a.0) bytes)) (λ others. Some (a.0 ∷ others)) names a.2 in
    let one : NameRead bytes a.0 = name_takes bytes a.0 fits a.1 in
    let more : NamesRead (drop (4 + length a.0) bytes) n b.0 = names_takes n (drop (4 + length a.0) bytes) b.0 (IsBytes-drop (4 + length a.0) bytes fits) b.1 in
    subst (NamesRead bytes (suc n)) (some_is (a.0 ∷ b.0) names b.2)
    (record {
      is = one.is ∙ ap (λ x. counted_name a.0 ++ x) more.is;
      count = ap suc more.count;
      texts = ((one.text, one.fits), more.texts);
    })

pub names_again : (bytes : List ℕ) (names : List (List ℕ)) → AllByRecursion (λ (name : List ℕ). IsText name × (length name < 4294967296)) names → bytes ≡ counted_names names → names_from (length names) bytes ≡ Some names
unfolding names_from
names_again bytes [] texts e = subst (λ x. names_from 0 x ≡ Some []) (sym e) refl
names_again bytes (name ∷ names) texts e =
    let one = name_again bytes name (counted_names names) texts.0.0 texts.0.1 e in
    let more : names_from (length names) (drop (4 + length name) bytes) ≡ Some names = names_again (drop (4 + length name) bytes) names texts.1 one.1 in
    rw (one.0, more) refl

-- ---- the whole of it

pub record DescRead (bytes : List ℕ) (d : Desc) : Type 0 where
  pub pmid : WordStands bytes 4 8 d.pmid
  pub code : WordStands bytes 8 12 d.code
  pub indom : WordStands bytes 12 16 d.indom
  pub semantics : WordStands bytes 16 20 d.semantics
  pub units : WordStands bytes 20 24 d.units

abbrev made : ℕ → ℕ → ℕ → ℕ → ℕ → Desc
made pmid code indom semantics units = record { pmid = pmid; code = code; indom = indom; semantics = semantics; units = units }

desc_takes : (bytes : List ℕ) (d : Desc) → IsBytes bytes → desc_in bytes ≡ Some d → DescRead bytes d
unfolding desc_in
desc_takes bytes d fits x =
    let a = bind_some (be_field w32 4 bytes)
    (λ p. be_field w32 8 bytes >>= λ q. be_field w32 12 bytes >>= λ r. be_field w32 16 bytes >>= λ s. be_field w32 20 bytes >>= λ t. Some (made p q r s t)) d x in
    let b = bind_some (be_field w32 8 bytes) (λ q. be_field w32 12 bytes >>= λ r. be_field w32 16 bytes >>= λ s. be_field w32 20 bytes >>= λ t. Some (made a.0 q r s t)) d a.2 in
    let c = bind_some (be_field w32 12 bytes) (λ r. be_field w32 16 bytes >>= λ s. be_field w32 20 bytes >>= λ t. Some (made a.0 b.0 r s t)) d b.2 in
    let e = bind_some (be_field w32 16 bytes) (λ s. be_field w32 20 bytes >>= λ t. Some (made a.0 b.0 c.0 s t)) d c.2 in
    let f = bind_some (be_field w32 20 bytes) (λ t. Some (made a.0 b.0 c.0 e.0 t)) d e.2 in
    subst (DescRead bytes) {x = made a.0 b.0 c.0 e.0 f.0} (some_is (made a.0 b.0 c.0 e.0 f.0) d f.2)
    (record {
      pmid = field_takes bytes 4 8 a.0 fits refl a.1;
      code = field_takes bytes 8 12 b.0 fits refl b.1;
      indom = field_takes bytes 12 16 c.0 fits refl c.1;
      semantics = field_takes bytes 16 20 e.0 fits refl e.1;
      units = field_takes bytes 20 24 f.0 fits refl f.1;
    })

pub description_takes : (bytes : List ℕ) (d : Desc) (names : List (List ℕ)) → IsBytes bytes → WordStands bytes 0 4 1 → description_in bytes ≡ Some (d, names) → DescriptionInRange d names × (bytes ≡ description d names)
unfolding description_in description
description_takes bytes d names fits first x =
    let a = bind_some (desc_in bytes) (λ y. be_field w32 24 bytes >>= λ n. names_from n (drop 28 bytes) >>= λ ns. Some (y, ns)) (d, names) x in
    let b = bind_some (be_field w32 24 bytes) (λ n. names_from n (drop 28 bytes) >>= λ ns. Some (a.0, ns)) (d, names) a.2 in
    let c = bind_some (names_from b.0 (drop 28 bytes)) (λ ns. Some (a.0, ns)) (d, names) b.2 in
    let both : (a.0, c.0) ≡ (d, names) = some_is (a.0, c.0) (d, names) c.2 in
    let s : DescRead bytes a.0 = desc_takes bytes a.0 fits a.1 in
    let n : WordStands bytes 24 28 b.0 = field_takes bytes 24 28 b.0 fits refl b.1 in
    let r : NamesRead (drop 28 bytes) b.0 c.0 = names_takes b.0 (drop 28 bytes) c.0 (IsBytes-drop 28 bytes fits) c.1 in
    let counted : drop 24 bytes ≡ word (length c.0) ++ counted_names c.0 = n.is ∙ ap (λ m. word m ++ drop 28 bytes) (sym r.count) ∙ ap (λ y. word (length c.0) ++ y) r.is in
    subst (λ (p : Desc × List (List ℕ)). DescriptionInRange p.0 p.1 × (bytes ≡ description p.0 p.1)) both (
      record {
        pmid = s.pmid.fits;
        code = s.code.fits;
        indom = s.indom.fits;
        semantics = s.semantics.fits;
        units = s.units.fits;
        few = subst (λ m. m < 4294967296) (sym r.count) n.fits;
        texts = r.texts;
      },
      first.is ∙ ap (λ y. word 1 ++ y) (s.pmid.is ∙ ap (λ y. word a.0.pmid ++ y) (s.code.is ∙ ap (λ y. word a.0.code ++ y) (s.indom.is ∙ ap (λ y. word a.0.indom ++ y)
          (s.semantics.is ∙ ap (λ y. word a.0.semantics ++ y) (s.units.is ∙ ap (λ y. word a.0.units ++ y) counted))))),
    )

pub description_again : (bytes : List ℕ) (d : Desc) (names : List (List ℕ)) → DescriptionInRange d names → bytes ≡ description d names → description_in bytes ≡ Some (d, names)
unfolding description_in desc_in description
description_again bytes d names range e0 =
    let e1 : drop 4 bytes ≡ _ = behind_word bytes 0 4 1 _ refl e0 in
    let e2 : drop 8 bytes ≡ _ = behind_word bytes 4 8 d.pmid _ refl e1 in
    let e3 : drop 12 bytes ≡ _ = behind_word bytes 8 12 d.code _ refl e2 in
    let e4 : drop 16 bytes ≡ _ = behind_word bytes 12 16 d.indom _ refl e3 in
    let e5 : drop 20 bytes ≡ _ = behind_word bytes 16 20 d.semantics _ refl e4 in
    let e6 : drop 24 bytes ≡ _ = behind_word bytes 20 24 d.units _ refl e5 in
    let e7 : drop 28 bytes ≡ counted_names names = behind_word bytes 24 28 (length names) _ refl e6 in
    rw (
      field_again bytes 4 d.pmid _ range.pmid e1,
      field_again bytes 8 d.code _ range.code e2,
      field_again bytes 12 d.indom _ range.indom e3,
      field_again bytes 16 d.semantics _ range.semantics e4,
      field_again bytes 20 d.units _ range.units e5,
      field_again bytes 24 (length names) _ range.few e6,
      names_again (drop 28 bytes) names range.texts e7,
    ) refl

-- the parts one after another
pub described : (bytes : List ℕ) (d : Desc) (n : ℕ) (names : Option (List (List ℕ))) → desc_in bytes ≡ Some d → be_field w32 24 bytes ≡ Some n → names_from n (drop 28 bytes) ≡ names → description_in bytes ≡ (names >>= λ ns. Some (d, ns))
unfolding description_in
described bytes d n names desc count rest =
    ap (λ o. o >>= λ x. be_field w32 24 bytes >>= λ m. names_from m (drop 28 bytes) >>= λ ns. Some (x, ns)) desc
    ∙ ap (λ o. o >>= λ m. names_from m (drop 28 bytes) >>= λ ns. Some (d, ns)) count ∙ ap (λ o. o >>= λ ns. Some (d, ns)) rest
