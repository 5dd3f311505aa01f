-- What may follow at each place of a configuration, as the grammar has it; and each step that the reader
-- makes goes back: what may follow after a byte, with that byte before it may follow where it stood.
use Rattle.std.proofs.Common.{◌≡◌, ℕ, ◌+◌, ◌-◌, ◌*◌, ◌≤◌, Bool, IsTrue, ◌⊎◌, inl, inr, List, [], ◌∷◌, ◌++◌, Option, Some, None, refl, sym, ap, ◌∙◌, subst, append_assoc, codes}
use Rattle.std.proofs.lemmas.List.{append-nil}
use Rattle.std.specs.List.{AllByRecursion}
use Rattle.pcp_base.specs.Names.{is_letter, is_name_byte, IsComponent, IsName}
use Rattle.log_schedule.proofs.Named.{with_points, all_pass, named, parted}
use Rattle.log_schedule.specs.Configuration.{is_digit, Each, is_blank, is_between, number_from, IsUnit, IsEvery, IsInterval, MoreNames, IsConfiguration}
use Rattle.log_schedule.specs.declared.config.Group.{Group}

-- the end of a statement, and the statements after it
pub record Done (groups : List Group) (interval : Option ℕ) (names : List (List ℕ)) (bytes : List ℕ) (out : List Group) : Type 0 where
  pub blanks : List ℕ
  pub rest : List ℕ
  pub more : List Group
  pub spelled : bytes ≡ blanks ++ 125 ∷ rest
  pub are_blanks : Each is_blank blanks
  pub whole : IsConfiguration rest more
  pub gives : out ≡ groups ++ record { interval = interval; names = names } ∷ more

-- after a whole name
pub record Closes (groups : List Group) (interval : Option ℕ) (names : List (List ℕ)) (bytes : List ℕ) (out : List Group) : Type 0 where
  pub text : List ℕ
  pub rest : List ℕ
  pub further : List (List ℕ)
  pub spelled : bytes ≡ text ++ rest
  pub are_names : MoreNames text further
  pub done : Done groups interval (names ++ further) rest out

-- the next name, with bytes of a kind before it
pub record NextName (test : ℕ → Bool) (groups : List Group) (interval : Option ℕ) (names : List (List ℕ)) (bytes : List ℕ) (out : List Group) : Type 0 where
  pub between : List ℕ
  pub name : List ℕ
  pub rest : List ℕ
  pub spelled : bytes ≡ between ++ (name ++ rest)
  pub each : Each test between
  pub is_name : IsName name
  pub closes : Closes groups interval (names ++ name ∷ []) rest out

-- after a letter, a digit or `_` of a name
pub record InName (groups : List Group) (interval : Option ℕ) (names : List (List ℕ)) (name : List ℕ) (bytes : List ℕ) (out : List Group) : Type 0 where
  pub tail : List ℕ
  pub parts : List (List ℕ)
  pub rest : List ℕ
  pub spelled : bytes ≡ tail ++ (with_points parts ++ rest)
  pub each : Each is_name_byte tail
  pub components : AllByRecursion IsComponent parts
  pub closes : Closes groups interval (names ++ (name ++ (tail ++ with_points parts)) ∷ []) rest out

-- after a `.` of a name
pub record InDot (groups : List Group) (interval : Option ℕ) (names : List (List ℕ)) (name : List ℕ) (bytes : List ℕ) (out : List Group) : Type 0 where
  pub part : List ℕ
  pub rest : List ℕ
  pub spelled : bytes ≡ part ++ rest
  pub is_name : IsName part
  pub closes : Closes groups interval (names ++ (name ++ part) ∷ []) rest out

-- after a name and a blank
abbrev pub After : List Group → Option ℕ → List (List ℕ) → List ℕ → List Group → Type 0
After groups interval names bytes out = Done groups interval names bytes out ⊎ NextName is_between groups interval names bytes out

-- after an interval
pub record Brace (groups : List Group) (interval : Option ℕ) (names : List (List ℕ)) (bytes : List ℕ) (out : List Group) : Type 0 where
  pub blanks : List ℕ
  pub rest : List ℕ
  pub spelled : bytes ≡ blanks ++ 123 ∷ rest
  pub are_blanks : Each is_blank blanks
  pub first : NextName is_blank groups interval names rest out

-- after a number and a blank
pub record UnitRest (groups : List Group) (names : List (List ℕ)) (n : ℕ) (bytes : List ℕ) (out : List Group) : Type 0 where
  pub blanks : List ℕ
  pub word : List ℕ
  pub each : ℕ
  pub rest : List ℕ
  pub spelled : bytes ≡ blanks ++ (word ++ rest)
  pub are_blanks : Each is_blank blanks
  pub is_unit : IsUnit word each
  pub brace : Brace groups (Some (n * each)) names rest out

-- after the m of a unit
pub record MinuteRest (groups : List Group) (names : List (List ℕ)) (n : ℕ) (bytes : List ℕ) (out : List Group) : Type 0 where
  pub word : List ℕ
  pub each : ℕ
  pub rest : List ℕ
  pub spelled : 109 ∷ bytes ≡ word ++ rest
  pub is_unit : IsUnit word each
  pub brace : Brace groups (Some (n * each)) names rest out

-- in a number
pub record NumberRest (groups : List Group) (names : List (List ℕ)) (n : ℕ) (bytes : List ℕ) (out : List Group) : Type 0 where
  pub digits : List ℕ
  pub b : ℕ
  pub rest : List ℕ
  pub spelled : bytes ≡ digits ++ b ∷ rest
  pub each : Each is_digit digits
  pub blank : IsTrue (is_blank b)
  pub range : number_from n digits ≤ 1000000000
  pub unit : UnitRest groups names (number_from n digits) rest out

-- before a number
pub record FirstDigit (groups : List Group) (names : List (List ℕ)) (bytes : List ℕ) (out : List Group) : Type 0 where
  pub blanks : List ℕ
  pub d : ℕ
  pub rest : List ℕ
  pub spelled : bytes ≡ blanks ++ d ∷ rest
  pub are_blanks : Each is_blank blanks
  pub low : 49 ≤ d
  pub high : d ≤ 57
  pub number : NumberRest groups names (d - 48) rest out

-- before an interval
pub record IntervalRest (groups : List Group) (names : List (List ℕ)) (bytes : List ℕ) (out : List Group) : Type 0 where
  pub blanks : List ℕ
  pub text : List ℕ
  pub interval : Option ℕ
  pub rest : List ℕ
  pub spelled : bytes ≡ blanks ++ (text ++ rest)
  pub are_blanks : Each is_blank blanks
  pub is_interval : IsInterval text interval
  pub brace : Brace groups interval names rest out

-- a blank, and then what the language has
pub record Gap (language : List ℕ → Type 0) (bytes : List ℕ) : Type 0 where
  pub b : ℕ
  pub rest : List ℕ
  pub spelled : bytes ≡ b ∷ rest
  pub blank : IsTrue (is_blank b)
  pub goes : language rest

-- a word with blanks before it, and then what the language has
pub record Spaced (word : List ℕ) (language : List ℕ → Type 0) (bytes : List ℕ) : Type 0 where
  pub blanks : List ℕ
  pub rest : List ℕ
  pub spelled : bytes ≡ blanks ++ (word ++ rest)
  pub are_blanks : Each is_blank blanks
  pub goes : language rest

-- the rest of a word, and then what the language has
pub record Goes (left : List ℕ) (language : List ℕ → Type 0) (bytes : List ℕ) : Type 0 where
  pub rest : List ℕ
  pub spelled : bytes ≡ left ++ rest
  pub goes : language rest

-- between statements
pub record Ends (groups : List Group) (bytes : List ℕ) (out : List Group) : Type 0 where
  pub more : List Group
  pub whole : IsConfiguration bytes more
  pub gives : out ≡ groups ++ more

-- a blank may stand before what stands between statements
pub blank_before : (b : ℕ) → IsTrue (is_blank b) → (bytes : List ℕ) (groups : List Group) → IsConfiguration bytes groups → IsConfiguration (b ∷ bytes) groups
blank_before b blank bytes [] whole = (blank, whole)
blank_before b blank bytes (g ∷ groups) (blanks, statement, rest, spelled, are_blanks, is, whole) =
    (b ∷ blanks, statement, rest, ap (λ bs. b ∷ bs) spelled, (blank, are_blanks), is, whole)

pub blank_is_between : (b : ℕ) → IsTrue (is_blank b) → IsTrue (is_between b)
blank_is_between b blank = rw blank refl

module _ (groups : List Group) (interval : Option ℕ) (names : List (List ℕ)) (out : List Group) where
  pub done_blank : (b : ℕ) (bytes : List ℕ) → IsTrue (is_blank b) → Done groups interval names bytes out → Done groups interval names (b ∷ bytes) out
  done_blank b bytes blank d = record {
    blanks = b ∷ d.blanks;
    rest = d.rest;
    more = d.more;
    spelled = ap (λ bs. b ∷ bs) d.spelled;
    are_blanks = (blank, d.are_blanks);
    whole = d.whole;
    gives = d.gives;
  }

  pub next_cons : (test : ℕ → Bool) (b : ℕ) (bytes : List ℕ) → IsTrue (test b) → NextName test groups interval names bytes out → NextName test groups interval names (b ∷ bytes) out
  next_cons test b bytes passes n = record {
    between = b ∷ n.between;
    name = n.name;
    rest = n.rest;
    spelled = ap (λ bs. b ∷ bs) n.spelled;
    each = (passes, n.each);
    is_name = n.is_name;
    closes = n.closes;
  }

  -- a name's first letter
  pub next_letter : (test : ℕ → Bool) (b : ℕ) (bytes : List ℕ) → IsTrue (is_letter b) → InName groups interval names (b ∷ []) bytes out → NextName test groups interval names (b ∷ bytes) out
  next_letter test b bytes letter n = record {
    between = [];
    name = b ∷ (n.tail ++ with_points n.parts);
    rest = n.rest;
    spelled = ap (λ bs. b ∷ bs) (n.spelled ∙ sym (append_assoc n.tail (with_points n.parts) n.rest));
    each = tt;
    is_name = named (b ∷ (n.tail ++ with_points n.parts)) record { first = b ∷ n.tail; more = n.parts; spelled = refl; component = (letter, all_pass n.tail n.each); components = n.components };
    closes = n.closes;
  }

  -- the closing brace
  pub done_brace : (bytes : List ℕ) → Ends (groups ++ record { interval = interval; names = names } ∷ []) bytes out → Done groups interval names (125 ∷ bytes) out
  done_brace bytes e = record {
    blanks = [];
    rest = bytes;
    more = e.more;
    spelled = refl;
    are_blanks = tt;
    whole = e.whole;
    gives = e.gives ∙ append_assoc groups (record { interval = interval; names = names } ∷ []) e.more;
  }

  pub closes_done : (bytes : List ℕ) → Done groups interval names bytes out → Closes groups interval names bytes out
  closes_done bytes d = record {
    text = [];
    rest = bytes;
    further = [];
    spelled = refl;
    are_names = refl;
    done = subst (λ (ns : List (List ℕ)). Done groups interval ns bytes out) (sym (append-nil names)) d;
  }

  -- a byte that may stand between names, and the next name
  pub closes_next : (b : ℕ) (bytes : List ℕ) → IsTrue (is_between b) → NextName is_between groups interval names bytes out → Closes groups interval names (b ∷ bytes) out
  closes_next b bytes between n =
      let c = n.closes in
      record {
        text = b ∷ (n.between ++ (n.name ++ c.text));
        rest = c.rest;
        further = n.name ∷ c.further;
        spelled = ap (λ bs. b ∷ bs) (n.spelled ∙ ap (λ bs. n.between ++ (n.name ++ bs)) c.spelled ∙ sym (append_assoc n.between (n.name ++ c.text) c.rest ∙ ap (λ bs. n.between ++ bs) (append_assoc n.name c.text c.rest)));
        are_names = (b, n.between, c.text, refl, between, n.each, n.is_name, c.are_names);
        done = subst (λ (ns : List (List ℕ)). Done groups interval ns c.rest out) (append_assoc names (n.name ∷ []) c.further) c.done;
      }

  pub closes_blank : (b : ℕ) (bytes : List ℕ) → IsTrue (is_blank b) → After groups interval names bytes out → Closes groups interval names (b ∷ bytes) out
  closes_blank b bytes blank (inl d) = closes_done (b ∷ bytes) (done_blank b bytes blank d)
  closes_blank b bytes blank (inr n) = closes_next b bytes (blank_is_between b blank) n

module _ (groups : List Group) (interval : Option ℕ) (names : List (List ℕ)) (name : List ℕ) (out : List Group) where
  -- one more letter, digit or `_`
  pub name_byte_before : (b : ℕ) (bytes : List ℕ) → IsTrue (is_name_byte b) → InName groups interval names (name ++ b ∷ []) bytes out → InName groups interval names name (b ∷ bytes) out
  name_byte_before b bytes passes n = record {
    tail = b ∷ n.tail;
    parts = n.parts;
    rest = n.rest;
    spelled = ap (λ bs. b ∷ bs) n.spelled;
    each = (passes, n.each);
    components = n.components;
    closes = subst (λ (whole : List ℕ). Closes groups interval (names ++ whole ∷ []) n.rest out) (append_assoc name (b ∷ []) (n.tail ++ with_points n.parts)) n.closes;
  }

  pub dot_before : (bytes : List ℕ) → InDot groups interval names (name ++ 46 ∷ []) bytes out → InName groups interval names name (46 ∷ bytes) out
  dot_before bytes n =
      let is = parted n.part n.is_name in
      let dots : 46 ∷ n.part ≡ with_points (is.first ∷ is.more) = ap (λ bs. 46 ∷ bs) is.spelled in
      record {
        tail = [];
        parts = is.first ∷ is.more;
        rest = n.rest;
        spelled = ap (λ bs. 46 ∷ bs) n.spelled ∙ ap (λ bs. bs ++ n.rest) dots;
        each = tt;
        components = (is.component, is.components);
        closes = subst (λ (whole : List ℕ). Closes groups interval (names ++ whole ∷ []) n.rest out) (append_assoc name (46 ∷ []) n.part ∙ ap (λ bs. name ++ bs) dots) n.closes;
      }

  pub part_before : (b : ℕ) (bytes : List ℕ) → IsTrue (is_letter b) → InName groups interval names (name ++ b ∷ []) bytes out → InDot groups interval names name (b ∷ bytes) out
  part_before b bytes letter n = record {
    part = b ∷ (n.tail ++ with_points n.parts);
    rest = n.rest;
    spelled = ap (λ bs. b ∷ bs) (n.spelled ∙ sym (append_assoc n.tail (with_points n.parts) n.rest));
    is_name = named (b ∷ (n.tail ++ with_points n.parts)) record { first = b ∷ n.tail; more = n.parts; spelled = refl; component = (letter, all_pass n.tail n.each); components = n.components };
    closes = subst (λ (whole : List ℕ). Closes groups interval (names ++ whole ∷ []) n.rest out) (append_assoc name (b ∷ []) (n.tail ++ with_points n.parts)) n.closes;
  }

  -- the end of a name
  pub name_ends : (bytes : List ℕ) → Closes groups interval (names ++ name ∷ []) bytes out → InName groups interval names name bytes out
  name_ends bytes c = record {
    tail = [];
    parts = [];
    rest = bytes;
    spelled = refl;
    each = tt;
    components = tt;
    closes = subst (λ (whole : List ℕ). Closes groups interval (names ++ whole ∷ []) bytes out) (sym (append-nil name)) c;
  }

module _ (groups : List Group) (names : List (List ℕ)) (out : List Group) where
  pub brace_blank : (interval : Option ℕ) (b : ℕ) (bytes : List ℕ) → IsTrue (is_blank b) → Brace groups interval names bytes out → Brace groups interval names (b ∷ bytes) out
  brace_blank interval b bytes blank r = record { blanks = b ∷ r.blanks; rest = r.rest; spelled = ap (λ bs. b ∷ bs) r.spelled; are_blanks = (blank, r.are_blanks); first = r.first }

  pub brace_open : (interval : Option ℕ) (bytes : List ℕ) → NextName is_blank groups interval names bytes out → Brace groups interval names (123 ∷ bytes) out
  brace_open interval bytes n = record { blanks = []; rest = bytes; spelled = refl; are_blanks = tt; first = n }

  pub unit_blank : (n b : ℕ) (bytes : List ℕ) → IsTrue (is_blank b) → UnitRest groups names n bytes out → UnitRest groups names n (b ∷ bytes) out
  unit_blank n b bytes blank r = record { blanks = b ∷ r.blanks; word = r.word; each = r.each; rest = r.rest; spelled = ap (λ bs. b ∷ bs) r.spelled; are_blanks = (blank, r.are_blanks); is_unit = r.is_unit; brace = r.brace }

  -- a unit's first byte, before the rest of its word
  pub unit_word : (n : ℕ) (word left : List ℕ) (each b : ℕ) (bytes : List ℕ) → word ≡ b ∷ left → IsUnit word each → Goes left (λ rest. Brace groups (Some (n * each)) names rest out) bytes → UnitRest groups names n (b ∷ bytes) out
  unit_word n word left each b bytes is is_unit g = record {
    blanks = [];
    word = word;
    each = each;
    rest = g.rest;
    spelled = ap (λ bs. b ∷ bs) g.spelled ∙ ap (λ bs. bs ++ g.rest) (sym is);
    are_blanks = tt;
    is_unit = is_unit;
    brace = g.goes;
  }

  pub minute_word : (n : ℕ) (word left : List ℕ) (each b : ℕ) (bytes : List ℕ) → word ≡ 109 ∷ b ∷ left → IsUnit word each → Goes left (λ rest. Brace groups (Some (n * each)) names rest out) bytes → MinuteRest groups names n (b ∷ bytes) out
  minute_word n word left each b bytes is is_unit g = record {
    word = word;
    each = each;
    rest = g.rest;
    spelled = ap (λ bs. 109 ∷ b ∷ bs) g.spelled ∙ ap (λ bs. bs ++ g.rest) (sym is);
    is_unit = is_unit;
    brace = g.goes;
  }

  pub unit_minute : (n : ℕ) (bytes : List ℕ) → MinuteRest groups names n bytes out → UnitRest groups names n (109 ∷ bytes) out
  unit_minute n bytes r = record { blanks = []; word = r.word; each = r.each; rest = r.rest; spelled = r.spelled; are_blanks = tt; is_unit = r.is_unit; brace = r.brace }

  pub number_ends : (n b : ℕ) (bytes : List ℕ) → n ≤ 1000000000 → IsTrue (is_blank b) → UnitRest groups names n bytes out → NumberRest groups names n (b ∷ bytes) out
  number_ends n b bytes range blank r = record { digits = []; b = b; rest = bytes; spelled = refl; each = tt; blank = blank; range = range; unit = r }

  pub digit_before : (n b : ℕ) (bytes : List ℕ) → IsTrue (is_digit b) → NumberRest groups names (n * 10 + (b - 48)) bytes out → NumberRest groups names n (b ∷ bytes) out
  digit_before n b bytes digit r = record { digits = b ∷ r.digits; b = r.b; rest = r.rest; spelled = ap (λ bs. b ∷ bs) r.spelled; each = (digit, r.each); blank = r.blank; range = r.range; unit = r.unit }

  pub first_blank : (b : ℕ) (bytes : List ℕ) → IsTrue (is_blank b) → FirstDigit groups names bytes out → FirstDigit groups names (b ∷ bytes) out
  first_blank b bytes blank r = record { blanks = b ∷ r.blanks; d = r.d; rest = r.rest; spelled = ap (λ bs. b ∷ bs) r.spelled; are_blanks = (blank, r.are_blanks); low = r.low; high = r.high; number = r.number }

  pub first_digit : (d : ℕ) (bytes : List ℕ) → 49 ≤ d → d ≤ 57 → NumberRest groups names (d - 48) bytes out → FirstDigit groups names (d ∷ bytes) out
  first_digit d bytes low high r = record { blanks = []; d = d; rest = bytes; spelled = refl; are_blanks = tt; low = low; high = high; number = r }

  -- a number and a unit, with what stands before them, are an interval
  pub timed : (every bytes : List ℕ) (d : ℕ) → IsEvery every → 49 ≤ d → d ≤ 57 → NumberRest groups names (d - 48) bytes out → IntervalRest groups names (every ++ d ∷ bytes) out
  timed every bytes d is_every low high r =
      let u = r.unit in
      let gap = r.b ∷ u.blanks in
      let text = every ++ ((d ∷ r.digits) ++ (gap ++ u.word)) in
      record {
        blanks = [];
        text = text;
        interval = Some (number_from (d - 48) r.digits * u.each);
        rest = u.rest;
        spelled =
            ap (λ bs. every ++ d ∷ bs) (r.spelled ∙ ap (λ bs. r.digits ++ r.b ∷ bs) u.spelled)
            ∙ sym (append_assoc every ((d ∷ r.digits) ++ (gap ++ u.word)) u.rest
            ∙ ap (λ bs. every ++ d ∷ bs) (append_assoc r.digits (gap ++ u.word) u.rest ∙ ap (λ bs. r.digits ++ r.b ∷ bs) (append_assoc u.blanks u.word u.rest)));
        are_blanks = tt;
        is_interval = record {
          every = every;
          digits = d ∷ r.digits;
          gap = gap;
          word = u.word;
          number = number_from (d - 48) r.digits;
          each = u.each;
          spelled = refl;
          may_repeat = is_every;
          is_number = (low, high, r.each, refl);
          in_range = r.range;
          is_gap = (r.blank, u.are_blanks);
          is_unit = u.is_unit;
          product = refl;
        };
        brace = u.brace;
      }

  pub interval_blank : (b : ℕ) (bytes : List ℕ) → IsTrue (is_blank b) → IntervalRest groups names bytes out → IntervalRest groups names (b ∷ bytes) out
  interval_blank b bytes blank r = record { blanks = b ∷ r.blanks; text = r.text; interval = r.interval; rest = r.rest; spelled = ap (λ bs. b ∷ bs) r.spelled; are_blanks = (blank, r.are_blanks); is_interval = r.is_interval; brace = r.brace }

  -- `once`
  pub interval_once : (left : List ℕ) (b : ℕ) (bytes : List ℕ) → codes "once" ≡ b ∷ left → Goes left (λ rest. Brace groups None names rest out) bytes → IntervalRest groups names (b ∷ bytes) out
  interval_once left b bytes is g = record {
    blanks = [];
    text = b ∷ left;
    interval = None;
    rest = g.rest;
    spelled = ap (λ bs. b ∷ bs) g.spelled;
    are_blanks = tt;
    is_interval = sym is;
    brace = g.goes;
  }

  -- `every`
  pub interval_every : (left : List ℕ) (b : ℕ) (bytes : List ℕ) → codes "every" ≡ b ∷ left → Goes left (Gap (λ rest. FirstDigit groups names rest out)) bytes → IntervalRest groups names (b ∷ bytes) out
  interval_every left b bytes is g =
      let gap = g.goes in
      let first = gap.goes in
      let every = (b ∷ left) ++ gap.b ∷ first.blanks in
      let is_every : IsEvery every = inr (gap.b ∷ first.blanks, ap (λ bs. bs ++ gap.b ∷ first.blanks) (sym is), (gap.blank, first.are_blanks)) in
      let whole : b ∷ bytes ≡ every ++ first.d ∷ first.rest = ap (λ bs. b ∷ bs) (g.spelled ∙ ap (λ bs. left ++ bs) (gap.spelled ∙ ap (λ bs. gap.b ∷ bs) first.spelled)) ∙ sym (append_assoc (b ∷ left) (gap.b ∷ first.blanks) (first.d ∷ first.rest)) in
      subst (λ (bs : List ℕ). IntervalRest groups names bs out) (sym whole) (timed every first.rest first.d is_every first.low first.high first.number)

  -- what comes after `on`, after `mandatory`, after `log`
  abbrev pub AfterOn : List ℕ → Type 0
  AfterOn = Gap (λ rest. IntervalRest groups names rest out)

  abbrev pub AfterMandatory : List ℕ → Type 0
  AfterMandatory = Gap (Spaced (codes "on") AfterOn)

  abbrev pub AfterLog : List ℕ → Type 0
  AfterLog = Gap (Spaced (codes "mandatory") AfterMandatory)

  pub spaced_blank : (word : List ℕ) (language : List ℕ → Type 0) (b : ℕ) (bytes : List ℕ) → IsTrue (is_blank b) → Spaced word language bytes → Spaced word language (b ∷ bytes)
  spaced_blank word language b bytes blank r = record { blanks = b ∷ r.blanks; rest = r.rest; spelled = ap (λ bs. b ∷ bs) r.spelled; are_blanks = (blank, r.are_blanks); goes = r.goes }

  pub spaced_word : (word left : List ℕ) (language : List ℕ → Type 0) (b : ℕ) (bytes : List ℕ) → word ≡ b ∷ left → Goes left language bytes → Spaced word language (b ∷ bytes)
  spaced_word word left language b bytes is g = record { blanks = []; rest = g.rest; spelled = ap (λ bs. b ∷ bs) g.spelled ∙ ap (λ bs. bs ++ g.rest) (sym is); are_blanks = tt; goes = g.goes }

-- a statement's parts before what follows it
flat : (log g m h on k i x y n t z rest : List ℕ) →
    (log ++ (g ++ (m ++ (h ++ (on ++ (k ++ (i ++ (x ++ 123 ∷ (y ++ ((n ++ t) ++ (z ++ 125 ∷ []))))))))))) ++ rest
    ≡ log ++ (g ++ (m ++ (h ++ (on ++ (k ++ (i ++ (x ++ 123 ∷ (y ++ (n ++ (t ++ (z ++ 125 ∷ rest)))))))))))
flat log g m h on k i x y n t z rest = simp append_assoc

-- a whole statement, and the statements after it
pub statement : (groups : List Group) (out : List Group) (bytes : List ℕ) → AfterLog groups [] out bytes → Ends groups (codes "log" ++ bytes) out
statement groups out bytes a =
    let m = a.goes in
    let b = m.goes in
    let o = b.goes in
    let c = o.goes in
    let i = c.goes in
    let br = i.brace in
    let n = br.first in
    let cl = n.closes in
    let d = cl.done in
    let gap_1 = a.b ∷ m.blanks in
    let gap_2 = b.b ∷ o.blanks in
    let gap_3 = c.b ∷ i.blanks in
    let names = n.name ++ cl.text in
    let last : List ℕ = d.blanks ++ 125 ∷ [] in
    let s : List ℕ = codes "log" ++ (gap_1 ++ (codes "mandatory" ++ (gap_2 ++ (codes "on" ++ (gap_3
    ++ (i.text ++ (br.blanks ++ (123 ∷ (n.between ++ (names ++ last)))))))))) in
    let group : Group = record { interval = i.interval; names = n.name ∷ cl.further } in
    let tail_3 : cl.rest ≡ d.blanks ++ 125 ∷ d.rest = d.spelled in
    let tail_2 : n.rest ≡ cl.text ++ (d.blanks ++ 125 ∷ d.rest) = cl.spelled ∙ ap (λ bs. cl.text ++ bs) tail_3 in
    let tail_1 : i.rest ≡ br.blanks ++ 123 ∷ (n.between ++ (n.name ++ (cl.text ++ (d.blanks ++ 125 ∷ d.rest)))) =
    br.spelled ∙ ap (λ bs. br.blanks ++ 123 ∷ bs) (n.spelled ∙ ap (λ bs. n.between ++ (n.name ++ bs)) tail_2) in
    let tail_on : o.rest ≡ gap_3 ++ (i.text ++ i.rest) = c.spelled ∙ ap (λ bs. c.b ∷ bs) i.spelled in
    let tail_mandatory : m.rest ≡ gap_2 ++ (codes "on" ++ o.rest) = b.spelled ∙ ap (λ bs. b.b ∷ bs) o.spelled in
    let tail_log : bytes ≡ gap_1 ++ (codes "mandatory" ++ m.rest) = a.spelled ∙ ap (λ bs. a.b ∷ bs) m.spelled in
    let whole : codes "log" ++ bytes ≡ s ++ d.rest =
    ap (λ bs. codes "log" ++ bs) (tail_log ∙ ap (λ bs. gap_1 ++ (codes "mandatory" ++ bs)) (tail_mandatory
    ∙ ap (λ bs. gap_2 ++ (codes "on" ++ bs)) (tail_on ∙ ap (λ bs. gap_3 ++ (i.text ++ bs)) tail_1)))
    ∙ sym (flat (codes "log") gap_1 (codes "mandatory") gap_2 (codes "on") gap_3 i.text br.blanks n.between n.name cl.text d.blanks d.rest) in
    record {
      more = group ∷ d.more;
      whole = (
        [],
        s,
        d.rest,
        whole,
        tt,
        record {
          gap_1 = gap_1;
          gap_2 = gap_2;
          gap_3 = gap_3;
          interval = i.text;
          blanks_1 = br.blanks;
          blanks_2 = n.between;
          names = names;
          blanks_3 = d.blanks;
          spelled = refl;
          gaps = ((a.blank, m.are_blanks), (b.blank, o.are_blanks), (c.blank, i.are_blanks));
          blanks = (br.are_blanks, n.each, d.are_blanks);
          is_interval = i.is_interval;
          are_names = (cl.text, refl, n.is_name, cl.are_names);
        },
        d.whole,
      );
      gives = d.gives;
    }
