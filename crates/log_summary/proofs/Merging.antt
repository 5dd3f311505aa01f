-- Rows put one behind another, and tables: in which parts rows are put doesn't matter.
use Rattle.std.proofs.Common.{◌≡◌, Bool, true, false, cond, List, [], ◌∷◌, Option, Some, None, refl, sym, ap, ◌∙◌, subst, fold, is_some, true≢false}
use Rattle.std.specs.Map.{lookup}
use Rattle.indexmap.specs.IndexMap.{insert_entry}

module _ {K T : Type 0} (eq : K → K → Bool) (exact : (x y : K) → eq x y ≡ true → x ≡ y) (own : (x : K) → eq x x ≡ true)
    (join : T → T → T) (assoc : (a b c : T) → join (join a b) c ≡ join a (join b c)) where
  abbrev onto : Option T → T → T
  onto None b = b
  onto (Some a) b = join a b

  abbrev puts : List (K × T) → K × T → List (K × T)
  puts rows row = insert_entry eq rows row.0 (onto (lookup (eq row.0) rows) row.1)

  -- what `puts` leaves of a first row
  abbrev after_first : Bool → K × T → List (K × T) → K × T → List (K × T)
  after_first b f rows e =
      cond b ((f.0, onto (cond b (Some f.1) (lookup (eq e.0) rows)) e.1) ∷ rows) (f ∷ insert_entry eq rows e.0 (onto (cond b (Some f.1) (lookup (eq e.0) rows)) e.1))

  puts_here : (f e : K × T) (rows : List (K × T)) → eq e.0 f.0 ≡ true → puts (f ∷ rows) e ≡ (f.0, join f.1 e.1) ∷ rows
  puts_here f e rows h = ap (λ b. after_first b f rows e) h

  puts_on : (f e : K × T) (rows : List (K × T)) → eq e.0 f.0 ≡ false → puts (f ∷ rows) e ≡ f ∷ puts rows e
  puts_on f e rows h = ap (λ b. after_first b f rows e) h

  -- keys that are one, or not
  along : (x y z : K) → eq x y ≡ true → eq x z ≡ eq y z
  along x y z h = ap (λ w. eq w z) (exact x y h)

  flipped : (x y : K) → eq x y ≡ false → eq y x ≡ false
  flipped x y h = by (eq y x) refl
    where
      by : (b : Bool) → eq y x ≡ b → b ≡ false
      by true e = absurd (true≢false (sym (own x) ∙ ap (λ w. eq x w) (sym (exact y x e)) ∙ h))
      by false e = refl

  -- a key that is another's is not a third's
  apart : (x y z : K) → eq x y ≡ false → eq x z ≡ true → eq y z ≡ false
  apart x y z h e = flipped z y (sym (along x z y e) ∙ h)

  found_next : (k : K) (f : K × T) (rows : List (K × T)) → eq k f.0 ≡ false → lookup (eq k) (f ∷ rows) ≡ lookup (eq k) rows
  found_next k f rows h = ap (λ b. cond b (Some f.1) (lookup (eq k) rows)) h

  -- what is found after a row is put
  pub found_after : (k : K) (s : List (K × T)) (e : K × T) → lookup (eq k) (puts s e) ≡ cond (eq k e.0) (Some (onto (lookup (eq k) s) e.1)) (lookup (eq k) s)
  found_after k [] e = refl
  found_after k (f ∷ s) e = by (eq e.0 f.0) refl (eq k f.0) refl (found_after k s e)
    where
      here : eq k f.0 ≡ true → (d : Bool) → eq k e.0 ≡ d → eq e.0 f.0 ≡ d → cond d (Some (join f.1 e.1)) (Some f.1) ≡ cond (eq k e.0) (Some (onto (cond (eq k f.0) (Some f.1) (lookup (eq k) s)) e.1)) (cond (eq k f.0) (Some f.1) (lookup (eq k) s))
      here h d p q = ap (λ b. cond b (Some (join f.1 e.1)) (Some f.1)) (sym p) ∙ ap (λ b. cond (eq k e.0) (Some (onto (cond b (Some f.1) (lookup (eq k) s)) e.1)) (cond b (Some f.1) (lookup (eq k) s))) (sym h)

      by : (b : Bool) → eq e.0 f.0 ≡ b → (c : Bool) → eq k f.0 ≡ c → lookup (eq k) (puts s e) ≡ cond (eq k e.0) (Some (onto (lookup (eq k) s) e.1)) (lookup (eq k) s)
          → lookup (eq k) (puts (f ∷ s) e) ≡ cond (eq k e.0) (Some (onto (lookup (eq k) (f ∷ s)) e.1)) (lookup (eq k) (f ∷ s))
      by true p true q rest =
          ap (lookup (eq k)) (puts_here f e s p) ∙ ap (λ b. cond b (Some (join f.1 e.1)) (lookup (eq k) s)) q
          ∙ here q true (ap (eq k) (exact e.0 f.0 p) ∙ q) p
      by true p false q rest =
          ap (lookup (eq k)) (puts_here f e s p) ∙ found_next k (f.0, join f.1 e.1) s q
          ∙ sym (found_next k f s q) ∙ ap (λ b. cond b (Some (onto (lookup (eq k) (f ∷ s)) e.1)) (lookup (eq k) (f ∷ s))) (sym (ap (eq k) (exact e.0 f.0 p) ∙ q))
      by false p true q rest =
          ap (lookup (eq k)) (puts_on f e s p) ∙ ap (λ b. cond b (Some f.1) (lookup (eq k) (puts s e))) q
          ∙ here q false (ap (λ w. eq w e.0) (exact k f.0 q) ∙ flipped e.0 f.0 p) p
      by false p false q rest =
          ap (lookup (eq k)) (puts_on f e s p) ∙ found_next k f (puts s e) q ∙ rest
          ∙ ap (λ o. cond (eq k e.0) (Some (onto o e.1)) o) (sym (found_next k f s q))

  there : (s : List (K × T)) (e : K × T) → is_some (lookup (eq e.0) (puts s e)) ≡ true
  there s e = ap is_some (found_after e.0 s e ∙ ap (λ b. cond b (Some (onto (lookup (eq e.0) s) e.1)) (lookup (eq e.0) s)) (own e.0))

  kept : (k : K) (s : List (K × T)) (e : K × T) → is_some (lookup (eq k) s) ≡ true → is_some (lookup (eq k) (puts s e)) ≡ true
  kept k s e h = ap is_some (found_after k s e) ∙ by (eq k e.0)
    where
      by : (b : Bool) → is_some (cond b (Some (onto (lookup (eq k) s) e.1)) (lookup (eq k) s)) ≡ true
      by true = refl
      by false = h

  none_after : (k : K) (s : List (K × T)) (e : K × T) → lookup (eq k) s ≡ None → eq k e.0 ≡ false → lookup (eq k) (puts s e) ≡ None
  none_after k s e none h = found_after k s e ∙ ap (λ b. cond b (Some (onto (lookup (eq k) s) e.1)) (lookup (eq k) s)) h ∙ none

  -- a row behind another of its key
  twice : (s : List (K × T)) (f e : K × T) → eq e.0 f.0 ≡ true → puts (puts s f) e ≡ puts s (f.0, join f.1 e.1)
  twice [] f e h = puts_here f e [] h
  twice (g ∷ s) f e h = by (eq f.0 g.0) refl (twice s f e h)
    where
      by : (b : Bool) → eq f.0 g.0 ≡ b → puts (puts s f) e ≡ puts s (f.0, join f.1 e.1) → puts (puts (g ∷ s) f) e ≡ puts (g ∷ s) (f.0, join f.1 e.1)
      by true p rest =
          ap (λ l. puts l e) (puts_here g f s p) ∙ puts_here (g.0, join g.1 f.1) e s (along e.0 f.0 g.0 h ∙ p)
          ∙ ap (λ t. (g.0, t) ∷ s) (assoc g.1 f.1 e.1) ∙ sym (puts_here g (f.0, join f.1 e.1) s p)
      by false p rest =
          ap (λ l. puts l e) (puts_on g f s p) ∙ puts_on g e (puts s f) (along e.0 f.0 g.0 h ∙ p)
          ∙ ap (λ l. g ∷ l) rest ∙ sym (puts_on g (f.0, join f.1 e.1) s p)

  -- rows of two keys change places, where the later one's key is there
  commute : (s : List (K × T)) (g e : K × T) → eq e.0 g.0 ≡ false → is_some (lookup (eq e.0) s) ≡ true → puts (puts s g) e ≡ puts (puts s e) g
  commute [] g e h is = absurd (true≢false (sym is))
  commute (f ∷ s) g e h is = by (eq e.0 f.0) refl (eq g.0 f.0) refl (λ p. commute s g e h (sym (ap is_some (found_next e.0 f s p)) ∙ is))
    where
      by : (b : Bool) → eq e.0 f.0 ≡ b → (c : Bool) → eq g.0 f.0 ≡ c → (eq e.0 f.0 ≡ false → puts (puts s g) e ≡ puts (puts s e) g) → puts (puts (f ∷ s) g) e ≡ puts (puts (f ∷ s) e) g
      by true p true q rest = absurd (true≢false (sym q ∙ apart e.0 g.0 f.0 h p))
      by true p false q rest =
          ap (λ l. puts l e) (puts_on f g s q) ∙ puts_here f e (puts s g) p
          ∙ sym (puts_on (f.0, join f.1 e.1) g s q) ∙ ap (λ l. puts l g) (sym (puts_here f e s p))
      by false p true q rest =
          ap (λ l. puts l e) (puts_here f g s q) ∙ puts_on (f.0, join f.1 g.1) e s p
          ∙ sym (puts_here f g (puts s e) q) ∙ ap (λ l. puts l g) (sym (puts_on f e s p))
      by false p false q rest =
          ap (λ l. puts l e) (puts_on f g s q) ∙ puts_on f e (puts s g) p ∙ ap (λ l. f ∷ l) (rest p)
          ∙ sym (puts_on f g (puts s e) q) ∙ ap (λ l. puts l g) (sym (puts_on f e s p))

  -- a row goes past rows of other keys
  past : (us s : List (K × T)) (e : K × T) → lookup (eq e.0) us ≡ None → is_some (lookup (eq e.0) s) ≡ true → puts (fold puts s us) e ≡ fold puts (puts s e) us
  past [] s e none is = refl
  past (g ∷ us) s e none is = by (eq e.0 g.0) refl (λ p. past us (puts s g) e (sym (found_next e.0 g us p) ∙ none) (kept e.0 s g is))
    where
      by : (b : Bool) → eq e.0 g.0 ≡ b → (eq e.0 g.0 ≡ false → puts (fold puts (puts s g) us) e ≡ fold puts (puts (puts s g) e) us) → puts (fold puts (puts s g) us) e ≡ fold puts (puts (puts s e) g) us
      by true p rest = absurd (true≢false (sym (ap is_some (ap (λ b. cond b (Some g.1) (lookup (eq e.0) us)) p)) ∙ ap is_some none))
      by false p rest = rest p ∙ ap (λ l. fold puts l us) (commute s g e p is)

  -- no two rows have one key
  abbrev pub Differ : List (K × T) → Type 0
  Differ [] = Unit {0}
  Differ (f ∷ rows) = (lookup (eq f.0) rows ≡ None) × Differ rows

  pub differ_after : (u : List (K × T)) (e : K × T) → Differ u → Differ (puts u e)
  differ_after [] e d = (refl, tt)
  differ_after (f ∷ u) e d = by (eq e.0 f.0) refl (differ_after u e d.1)
    where
      by : (b : Bool) → eq e.0 f.0 ≡ b → Differ (puts u e) → Differ (puts (f ∷ u) e)
      by true p rest = subst Differ (sym (puts_here f e u p)) (d.0, d.1)
      by false p rest = subst Differ (sym (puts_on f e u p)) (none_after f.0 u e d.0 (flipped e.0 f.0 p), rest)

  -- a row more of the later table
  one_more : (u : List (K × T)) → Differ u → (t : List (K × T)) (e : K × T) → fold puts t (puts u e) ≡ puts (fold puts t u) e
  one_more [] d t e = refl
  one_more (f ∷ u) d t e = by (eq e.0 f.0) refl (one_more u d.1 (puts t f) e)
    where
      by : (b : Bool) → eq e.0 f.0 ≡ b → fold puts (puts t f) (puts u e) ≡ puts (fold puts (puts t f) u) e → fold puts t (puts (f ∷ u) e) ≡ puts (fold puts (puts t f) u) e
      by true p rest =
          ap (fold puts t) (puts_here f e u p) ∙ ap (λ l. fold puts l u) (sym (twice t f e p))
          ∙ sym (past u (puts t f) e (ap (λ k. lookup (eq k) u) (exact e.0 f.0 p) ∙ d.0) (ap (λ k. is_some (lookup (eq k) (puts t f))) (exact e.0 f.0 p) ∙ there t f))
      by false p rest = ap (fold puts t) (puts_on f e u p) ∙ rest

  -- rows put into a table that is put behind another, or behind both
  pub all_more : (ys u : List (K × T)) → Differ u → (t : List (K × T)) → fold puts t (fold puts u ys) ≡ fold puts (fold puts t u) ys
  all_more [] u d t = refl
  all_more (y ∷ ys) u d t = all_more ys (puts u y) (differ_after u y d) t ∙ ap (λ l. fold puts l ys) (one_more u d t y)
