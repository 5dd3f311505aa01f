-- What lies below a name (pmTraversePMNS(3), pmGetChildren(3)).
use Rattle.std.specs.Prelude.{ℕ, Bool, ◌||◌, if◌then◌else◌, nat_eq, List, [], ◌∷◌, ◌++◌, length, take, drop, filter, fold, position, unwrap_or, is_none, Option, Some, None, option_map, option_to_list}
use Rattle.std.specs.List.{starts_with}
use Rattle.std.specs.BTreeMap.{insert_entry}
use Rattle.pmns_core.specs.Order.{byte_order, is_same, continues}
use Rattle.pmns_core.specs.Pairs.{Pair, pmid_of}
use Rattle.pmns_core.specs.Adding.{is_there, is_above}

-- the pairs whose names begin with a front
abbrev pub pairs_with_front : List Pair → List ℕ → List Pair
pairs_with_front pairs front = filter (λ p. starts_with nat_eq p.0 front) pairs

-- the pair of a name, if the name is there
abbrev pub pair_of_name : List Pair → List ℕ → List Pair
pair_of_name pairs name = option_to_list (option_map (λ pmid. (name, pmid)) (pmid_of pairs name))

-- the pairs whose names are the name or continue it
abbrev pub below : List Pair → List ℕ → List Pair
below pairs name = filter (λ p. is_same name p.0 || continues p.0 name) pairs

-- the byte `.`
abbrev pub is_point : ℕ → Bool
is_point b = nat_eq b 46

-- a name's next component: up to the next `.`, or all
abbrev pub component : List ℕ → List ℕ
component rest = take (unwrap_or (position is_point rest) (length rest)) rest

-- whether a name ends with its next component
abbrev pub is_leaf : List ℕ → Bool
is_leaf rest = is_none (position is_point rest)

-- the least bytes behind all names with this component after a front: `/` is the byte behind `.`, and behind a leaf stands a zero byte
abbrev pub behind : List ℕ → List ℕ → List ℕ
behind front rest = front ++ (component rest ++ (if is_leaf rest then 0 else 47) ∷ [])

-- components with the one after a name's front, in byte order and each once
abbrev pub with_child : List ℕ → List (List ℕ × Bool) → Pair → List (List ℕ × Bool)
with_child front list p = insert_entry byte_order list (component (drop (length front) p.0)) (is_leaf (drop (length front) p.0))

-- the next components of the names that continue a name, true for a leaf
abbrev pub children : List Pair → List ℕ → List (List ℕ × Bool)
children pairs front = fold (with_child front) [] (pairs_with_front pairs front)

-- the next components below a name; none where no name is the name or continues it
abbrev pub children_of : List Pair → List ℕ → Option (List (List ℕ × Bool))
children_of pairs name = if is_there pairs name || is_above pairs name then Some (children pairs (name ++ 46 ∷ [])) else None
