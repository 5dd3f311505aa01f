-- Two runs in one volume, one behind the other, are one run.
use Rattle.std.proofs.Common.{◌≡◌, ⊎_elim, ℕ, ◌+◌, ◌-◌, ◌<◌, ◌≤◌, List, [], ◌∷◌, ◌++◌, length, take, sym, ap, ◌∙◌, subst, append_assoc, arith, length-append}
use Rattle.std.specs.List.{AllByRecursion}
use Rattle.std.proofs.Math.Seq.{take-append-add}
use Rattle.std.proofs.lemmas.Bool.{cases_lt}
use Rattle.std.proofs.lemmas.List.{append-nil, take-append-le, take_all}
use Rattle.pcp_base.specs.Time.{Moment}
use Rattle.pcp_base.specs.declared.result.Item.{Item}
use Rattle.pcp_model.specs.declared.records.MetaRecord.{MetaRecord}
use Rattle.pcp_model.specs.Described.{Described}
use Rattle.pcp_model.specs.Frame.{frames}
use Rattle.pcp_model.specs.Payload.{IsItem}
use Rattle.pcp_model.specs.Records.{IsRecord, AreConsistent}
use Rattle.pcp_model.specs.Sound.{NoItemAfter, NoDomainAfter}
use Rattle.pcp_model.proofs.Cuts.{frames-append, read-append}
use Rattle.pcp_model.proofs.Lists.{each-append, each-map, each-split}
use Rattle.logger_core.specs.Meant.{Meant, items_in}
use Rattle.logger_core.specs.Runs.{Rise, IsRunToCome, IsLastStamp}
use Rattle.logger_core.specs.Steps.{NoEntryAfter}

each-then : {X : Type 0} (P Q R : X → Type 0) → ((x : X) → P x → Q x → R x) → (xs : List X) → AllByRecursion P xs → AllByRecursion Q xs → AllByRecursion R xs
each-then P Q R f [] ps qs = tt
each-then P Q R f (x ∷ xs) ps qs = (f x ps.0 qs.0, each-then P Q R f xs ps.1 qs.1)

rise-append : (before xs ys : List Item) → Rise before xs → Rise (before ++ xs) ys → Rise before (xs ++ ys)
rise-append before [] ys first second = subst (λ zs. Rise zs ys) (append-nil before) second
rise-append before (x ∷ xs) ys first second = (first.0, rise-append (before ++ x ∷ []) xs ys first.1 (subst (λ zs. Rise zs ys) (sym (append_assoc before (x ∷ []) xs)) second))

module _ (n v : Meant) (records more : List MetaRecord) (items others : List Item) (records_are : v.contents.records ≡ n.contents.records ++ records) (items_are : items_in v ≡ items_in n ++ items) where
  module _ (meta_bytes more_meta item_bytes more_items : List ℕ) (first : IsRunToCome n records items meta_bytes item_bytes) (second : IsRunToCome v more others more_meta more_items) where
    behind_is : (k : ℕ) → v.contents.records ++ take k more ≡ n.contents.records ++ (records ++ take k more)
    behind_is k = ap (λ rs. rs ++ take k more) records_are ∙ append_assoc n.contents.records records (take k more)

    -- what was described by the records of the first run stays so
    stays : (k : ℕ) → k ≤ length more → AllByRecursion (λ x. Described (n.contents.records ++ records) x → Described (n.contents.records ++ (records ++ take k more)) x) (items_in n ++ items)
    stays k le = subst (AllByRecursion (λ x. Described (n.contents.records ++ records) x → Described (n.contents.records ++ (records ++ take k more)) x)) items_are
        (each-map (λ x. Described v.contents.records x → Described (v.contents.records ++ take k more) x) (λ x. Described (n.contents.records ++ records) x → Described (n.contents.records ++ (records ++ take k more)) x)
        (λ x f d. subst (λ rs. Described rs x) (behind_is k) (f (subst (λ rs. Described rs x) (sym records_are) d))) (items_in v) (second.come.described k le))

    all_first : AllByRecursion (λ x. Described n.contents.records x → Described (n.contents.records ++ records) x) (items_in n)
    all_first = subst (λ rs. AllByRecursion (λ x. Described n.contents.records x → Described (n.contents.records ++ rs) x) (items_in n)) (take_all (length records) records (omega arith)) (first.come.described (length records) (omega arith))

    past : (k j : ℕ) → k ≡ length records + j → j ≤ length more → AllByRecursion (λ x. Described n.contents.records x → Described (n.contents.records ++ take k (records ++ more)) x) (items_in n)
    past k j is le =
        subst (λ rs. AllByRecursion (λ x. Described n.contents.records x → Described (n.contents.records ++ rs) x) (items_in n)) (sym (ap (λ (i : ℕ). take i (records ++ more)) is ∙ take-append-add records more j))
        (each-then (λ x. Described n.contents.records x → Described (n.contents.records ++ records) x) (λ x. Described (n.contents.records ++ records) x → Described (n.contents.records ++ (records ++ take j more)) x)
        (λ x. Described n.contents.records x → Described (n.contents.records ++ (records ++ take j more)) x) (λ x f g d. g (f d)) (items_in n) all_first
        (each-split (λ x. Described (n.contents.records ++ records) x → Described (n.contents.records ++ (records ++ take j more)) x) (items_in n) items (stays j le)).0)

    described_so_far : (k : ℕ) → k ≤ length (records ++ more) → AllByRecursion (λ x. Described n.contents.records x → Described (n.contents.records ++ take k (records ++ more)) x) (items_in n)
    described_so_far k le = ⊎_elim
        (λ (high : length records < k). past k (k - length records) (omega arith) (omega (arith, length-append records more)))
        (λ (low : k ≤ length records). subst (λ rs. AllByRecursion (λ x. Described n.contents.records x → Described (n.contents.records ++ rs) x) (items_in n)) (sym (take-append-le k records more low)) (first.come.described k low))
        (cases_lt (length records) k)

    whole : (k : ℕ) → n.contents.records ++ (records ++ take (length more) more) ≡ n.contents.records ++ (records ++ more)
    whole k = ap (λ rs. n.contents.records ++ (records ++ rs)) (take_all (length more) more (omega arith))

    first_described : AllByRecursion (Described (n.contents.records ++ (records ++ more))) items
    first_described = each-then (Described (n.contents.records ++ records)) (λ x. Described (n.contents.records ++ records) x → Described (n.contents.records ++ (records ++ take (length more) more)) x) (Described (n.contents.records ++ (records ++ more)))
        (λ x d f. subst (λ rs. Described rs x) (whole 0) (f d)) items first.described
        (each-split (λ x. Described (n.contents.records ++ records) x → Described (n.contents.records ++ (records ++ take (length more) more)) x) (items_in n) items (stays (length more) (omega arith))).1

    all_behind : v.contents.records ++ more ≡ n.contents.records ++ (records ++ more)
    all_behind = ap (λ rs. rs ++ more) records_are ∙ append_assoc n.contents.records records more

    pub run_joined : IsRunToCome n (records ++ more) (items ++ others) (meta_bytes ++ more_meta) (item_bytes ++ more_items)
    run_joined = record {
      meta_payloads = first.meta_payloads ++ second.meta_payloads;
      meta_is = ap (λ t. t ++ more_meta) first.meta_is ∙ ap (λ t. frames first.meta_payloads ++ t) second.meta_is ∙ sym (frames-append first.meta_payloads second.meta_payloads);
      come = record {
        read = read-append IsRecord first.meta_payloads second.meta_payloads records more first.come.read second.come.read;
        agree = subst AreConsistent all_behind second.come.agree;
        described = described_so_far;
      };
      payloads = first.payloads ++ second.payloads;
      items_are = ap (λ t. t ++ more_items) first.items_are ∙ ap (λ t. frames first.payloads ++ t) second.items_are ∙ sym (frames-append first.payloads second.payloads);
      read = read-append IsItem first.payloads second.payloads items others first.read second.read;
      described = each-append (Described (n.contents.records ++ (records ++ more))) items others first_described (subst (λ rs. AllByRecursion (Described rs) others) all_behind second.described);
      rise = rise-append (items_in n) items others first.rise (subst (λ xs. Rise xs others) items_are second.rise);
    }

  pub last_joined : (t : Moment) → v.contents.entries ≡ n.contents.entries → IsLastStamp v more others t → IsLastStamp n (records ++ more) (items ++ others) t
  last_joined t entries_are last = record {
    first = items ++ last.first;
    last = last.last;
    are = ap (λ xs. items ++ xs) last.are ∙ sym (append_assoc items last.first (last.last ∷ []));
    stamped = last.stamped;
    moment = last.moment;
    before = subst (NoItemAfter t) (ap (λ xs. xs ++ others) items_are ∙ append_assoc (items_in n) items others) last.before;
    domains = subst (NoDomainAfter t) (ap (λ rs. rs ++ more) records_are ∙ append_assoc n.contents.records records more) last.domains;
    entries = subst (NoEntryAfter t) entries_are last.entries;
  }
