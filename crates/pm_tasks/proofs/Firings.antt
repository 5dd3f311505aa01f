-- What rules tell of samples, one after another.
use Rattle.std.proofs.Common.{◌≡◌, ℕ, ◌+◌, ◌<◌, ◌≤◌, Bool, true, false, if◌then◌else◌, List, [], ◌∷◌, ◌++◌, length, drop, get_or, refl, sym, ap, ◌∙◌, subst, arith, append_assoc, append-nil, length-append, Option, Some, None, Result, Ok, Err, OnOk}
use Rattle.std.proofs.lemmas.List.{drop_all}
use Rattle.pcp_base.specs.Time.{Moment}
use Rattle.pcp_base.specs.declared.result.Item.{Item}
use Rattle.pcp_base.specs.declared.result.Item.TheVariants.{Sample, Mark}
use Rattle.pcp_model.specs.declared.records.MetaRecord.{MetaRecord}
use Rattle.archive_reader.specs.Searches.{between}
use Rattle.rule_watch.specs.declared.rule.Rule.{Rule}
use Rattle.rule_watch.specs.Holding.{Tells}
use Rattle.rule_watch.specs.Rows.{Row}
use Rattle.rule_watch.specs.Shown.{KeptRule, Shows, rules_of}
use Rattle.pm_tasks.specs.declared.commands.watch.Told.{Told}
use Rattle.pm_tasks.specs.Rows.{row_of}
use Rattle.pm_tasks.specs.Telling.{AreTold, Firing, TellsAll, TellsBetween, TellsItem, TellsMore, TellsUnless, firing_line, firing_lines, firings_of, is_outside, label_of, samples_of, with_firing}
use Rattle.pm_tasks.proofs.Entries.{next_item}

-- what is so on success
pub on_ok : {T E : Type 0} (P Q : Type 0) (result : Result T E) → (P → Q) → OnOk result P → OnOk result Q
on_ok P Q (Ok x) f p = f p
on_ok P Q (Err e) f p = tt

lines_more : (t : Moment) (o : Option (List ℕ)) (rest : List Firing) → firing_lines (with_firing t o rest) ≡ firing_lines (with_firing t o []) ++ firing_lines rest
lines_more t None rest = refl
lines_more t (Some label) rest = ap (λ (x : List ℕ). x ++ firing_lines rest) (sym (append-nil (firing_line (t, label))))

length_more : (t : Moment) (o : Option (List ℕ)) (rest : List Firing) → length (with_firing t o rest) ≡ length (with_firing t o []) + length rest
length_more t None rest = omega arith
length_more t (Some label) rest = omega arith

lines_append : (xs ys : List Firing) → firing_lines (xs ++ ys) ≡ firing_lines xs ++ firing_lines ys
lines_append [] ys = refl
lines_append (x ∷ xs) ys = ap (λ (t : List ℕ). firing_line x ++ t) (lines_append xs ys) ∙ sym (append_assoc (firing_line x) (firing_lines xs) (firing_lines ys))

-- nothing more
pub tells_none : (told : Told) → TellsMore [] told told
tells_none told = record { text = sym (append-nil told.text.items); count = omega arith }

-- the rules of the numbers so far are told, and those left are to come
pub record TellingOn (t : Moment) (rules : List Rule) (all left : List ℕ) (before now : Told) : Type 0 where
  pub text : now.text.items ++ firing_lines (firings_of t rules left) ≡ before.text.items ++ firing_lines (firings_of t rules all)
  pub count : now.count + length (firings_of t rules left) ≡ before.count + length (firings_of t rules all)

module _ (t : Moment) (rules : List Rule) (all : List ℕ) (before : Told) where
  pub numbers_begin : TellingOn t rules all (drop 0 all) before before
  numbers_begin = record { text = refl; count = refl }

  numbers_next : (n : ℕ) (left : List ℕ) (now next : Told) → TellsMore (with_firing t (label_of rules n) []) now next → TellingOn t rules all (n ∷ left) before now → TellingOn t rules all left before next
  numbers_next n left now next m g =
      let rest : List Firing = firings_of t rules left in
      let here : List Firing = with_firing t (label_of rules n) [] in
      record {
        text = ap (λ (x : List ℕ). x ++ firing_lines rest) m.text ∙ append_assoc now.text.items (firing_lines here) (firing_lines rest)
            ∙ ap (λ (x : List ℕ). now.text.items ++ x) (sym (lines_more t (label_of rules n) rest)) ∙ g.text;
        count = omega (arith, m.count, length_more t (label_of rules n) rest, g.count);
      }

  pub numbers_on : (at n : ℕ) (now next : Told) → at < length all → n ≡ get_or all at n → TellsMore (with_firing t (label_of rules n) []) now next → TellingOn t rules all (drop at all) before now
      → TellingOn t rules all (drop (at + 1) all) before next
  numbers_on at n now next below here m g = numbers_next n (drop (at + 1) all) now next m (subst (λ (left : List ℕ). TellingOn t rules all left before now) (next_item all at n below here) g)

  pub numbers_end : (at : ℕ) (now : Told) → length all ≤ at → TellingOn t rules all (drop at all) before now → TellsMore (firings_of t rules all) before now
  numbers_end at now past g =
      let done : TellingOn t rules all [] before now = subst (λ (left : List ℕ). TellingOn t rules all left before now) (drop_all at all past) g in
      record { text = sym (append-nil now.text.items) ∙ done.text; count = omega (arith, done.count) }

-- of these items the rules that hold at the samples between the moments are told, over the rows of these; a front of the lines was sent
pub record Watching (records : List MetaRecord) (rules : List Rule) (from to : Moment) (items : List Item) (watch : List KeptRule) (front : List ℕ) (told : Told) : Type 0 where
  pub rows : List Row
  pub so_far : List Firing
  pub shows : Shows watch rows
  pub rules_are : rules_of watch ≡ rules
  pub text : front ++ told.text.items ≡ firing_lines so_far
  pub count : told.count ≡ length so_far
  pub goes : (left : List Item) (others : List Firing) → AreTold rules rows (samples_of records (between from to left)) others → AreTold rules [] (samples_of records (between from to (items ++ left))) (so_far ++ others)

module _ (records : List MetaRecord) (rules : List Rule) (from to : Moment) where
  pub items_begin : (watch : List KeptRule) (told : Told) → Shows watch [] → rules_of watch ≡ rules → told.text.items ≡ [] → told.count ≡ 0 → Watching records rules from to [] watch [] told
  items_begin watch told shows rules_are text count = record {
    rows = [];
    so_far = [];
    shows = shows;
    rules_are = rules_are;
    text = text;
    count = count;
    goes = λ left others are. are;
  }

  abbrev After : List Item → List Firing → Type 0
  After items told = AreTold rules [] (samples_of records (between from to items)) told

  -- an item in front of those left
  in_front : (items : List Item) (x : Item) (left : List Item) (told : List Firing) → After (items ++ (x ∷ left)) told → After ((items ++ x ∷ []) ++ left) told
  in_front items x left told are = subst (λ (xs : List Item). After xs told) (sym (append_assoc items (x ∷ []) left)) are

  outside_first : (x : Item) (left : List Item) (b : Bool) → is_outside from to x ≡ b → between from to (x ∷ left) ≡ (if b then between from to left else x ∷ between from to left)
  outside_first x left b is = ap (λ c. if c then between from to left else x ∷ between from to left) is

  -- nothing is told
  still : (items : List Item) (x : Item) (old new : List KeptRule) (front : List ℕ) (before after : Told) → new ≡ old → after ≡ before → ((left : List Item) → samples_of records (between from to (x ∷ left)) ≡ samples_of records (between from to left))
      → Watching records rules from to items old front before → Watching records rules from to (items ++ x ∷ []) new front after
  still items x old new front before after same alike silent g = record {
    rows = g.rows;
    so_far = g.so_far;
    shows = subst (λ (w : List KeptRule). Shows w g.rows) (sym same) g.shows;
    rules_are = ap rules_of same ∙ g.rules_are;
    text = ap (λ (d : Told). front ++ d.text.items) alike ∙ g.text;
    count = ap (λ (d : Told). d.count) alike ∙ g.count;
    goes = λ left others are. in_front items x left (g.so_far ++ others) (g.goes (x ∷ left) others (subst (λ (samples : List (Moment × Row)). AreTold rules g.rows samples others) (sym (silent left)) are));
  }

  -- an item between the moments is told
  told_next : (items : List Item) (x : Item) (old new : List KeptRule) (front : List ℕ) (before after : Told) → is_outside from to x ≡ false → TellsItem records x old new before after
      → Watching records rules from to items old front before → Watching records rules from to (items ++ x ∷ []) new front after
  told_next items (Sample r) old new front before after inside m g =
      let row : Row = row_of records r.sets in
      let more : List Firing = firings_of r.stamp rules m.numbers in
      let a = m.answers g.rows g.shows in
      let tells : Tells rules (g.rows ++ row ∷ []) m.numbers = subst (λ (rs : List Rule). Tells rs (g.rows ++ row ∷ []) m.numbers) g.rules_are a.1 in
      let told : TellsMore more before after = subst (λ (rs : List Rule). TellsMore (firings_of r.stamp rs m.numbers) before after) g.rules_are m.more in
      record {
        rows = g.rows ++ row ∷ [];
        so_far = g.so_far ++ more;
        shows = a.0;
        rules_are = m.rules ∙ g.rules_are;
        text = ap (λ (t : List ℕ). front ++ t) told.text ∙ sym (append_assoc front before.text.items (firing_lines more)) ∙ ap (λ (t : List ℕ). t ++ firing_lines more) g.text ∙ sym (lines_append g.so_far more);
        count = omega (arith, told.count, g.count, length-append g.so_far more);
        goes = λ left others are.
            subst (After ((items ++ Sample r ∷ []) ++ left)) (sym (append_assoc g.so_far more others))
            (in_front items (Sample r) left (g.so_far ++ (more ++ others))
            (g.goes (Sample r ∷ left) (more ++ others)
            (subst (λ (xs : List Item). AreTold rules g.rows (samples_of records xs) (more ++ others)) (sym (outside_first (Sample r) left false inside)) (m.numbers, others, tells, are, refl))));
      }
  told_next items (Mark t) old new front before after inside m g = still items (Mark t) old new front before after m.0 m.1 (λ left. ap (samples_of records) (outside_first (Mark t) left false inside)) g

  by_place : (b : Bool) (items : List Item) (x : Item) (old new : List KeptRule) (front : List ℕ) (before after : Told) → is_outside from to x ≡ b → TellsUnless b records x old new before after
      → Watching records rules from to items old front before → Watching records rules from to (items ++ x ∷ []) new front after
  by_place true items x old new front before after outside m g = still items x old new front before after m.0 m.1 (λ left. ap (samples_of records) (outside_first x left true outside)) g
  by_place false items x old new front before after inside m g = told_next items x old new front before after inside m g

  pub items_on : (items : List Item) (x : Item) (old new : List KeptRule) (front : List ℕ) (before after : Told) → TellsBetween records from to x old new before after → Watching records rules from to items old front before
      → Watching records rules from to (items ++ x ∷ []) new front after
  items_on items x old new front before after m g = by_place (is_outside from to x) items x old new front before after refl m g

  -- a further front of the lines is sent
  pub items_sent : (items : List Item) (watch : List KeptRule) (front piece : List ℕ) (told left : Told) → told.text.items ≡ piece ++ left.text.items → left.count ≡ told.count
      → Watching records rules from to items watch front told → Watching records rules from to items watch (front ++ piece) left
  items_sent items watch front piece told left whole same g = record {
    rows = g.rows;
    so_far = g.so_far;
    shows = g.shows;
    rules_are = g.rules_are;
    text = append_assoc front piece left.text.items ∙ ap (λ (t : List ℕ). front ++ t) (sym whole) ∙ g.text;
    count = same ∙ g.count;
    goes = g.goes;
  }

  -- what was told so far
  pub told_so_far : (items : List Item) (watch : List KeptRule) (front : List ℕ) (told : Told) (g : Watching records rules from to items watch front told) → AreTold rules [] (samples_of records (between from to items)) g.so_far
  told_so_far items watch front told g =
      subst (λ (xs : List Item). After xs g.so_far) (append-nil items) (subst (After (items ++ [])) (append-nil g.so_far) (g.goes [] [] refl))

  pub items_end : (items : List Item) (watch : List KeptRule) (front : List ℕ) (told : Told) → Watching records rules from to items watch front told → TellsAll records rules (between from to items) front told
  items_end items watch front told g = record {
    told = g.so_far;
    are = told_so_far items watch front told g;
    text = g.text;
    count = g.count;
  }
