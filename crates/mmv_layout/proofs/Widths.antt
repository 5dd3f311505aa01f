-- Name fields and entries of either version: they are whole words, and entries lie one behind another.
use Rattle.std.proofs.Common.{◌≡◌, ℕ, ◌+◌, ◌*◌, ◌<◌, ◌≤◌, Bool, true, false, arith, cond, nat_eq}
use Rattle.std.proofs.Math.Nat.{mul-le-mul_left}
use Rattle.mmv_layout.specs.Sizes.{name_width, name_room, string_size}

pub width_least : (version : ℕ) → 8 ≤ name_width version
unfolding name_width
width_least version = here (nat_eq version 1)
  where
    here : (t : Bool) → 8 ≤ cond t 64 8
    here true = omega arith
    here false = omega arith

pub width_most : (version : ℕ) → name_width version ≤ 64
unfolding name_width
width_most version = here (nat_eq version 1)
  where
    here : (t : Bool) → cond t 64 8 ≤ 64
    here true = omega arith
    here false = omega arith

pub room_least : (version : ℕ) → 1 ≤ name_room version
unfolding name_room
room_least version = here (nat_eq version 1)
  where
    here : (t : Bool) → 1 ≤ cond t 64 string_size
    here true = omega arith
    here false = omega arith

more : (size k : ℕ) → size * (k + 1) ≡ size * k + size
more size k = omega arith

-- an entry ends before so many entries end
pub entry_ends : (size i n : ℕ) → i < n → size * i + size ≤ size * n
entry_ends size i n below =
    let next : size * (i + 1) ≤ size * n = mul-le-mul_left size (omega arith) in
    let whole : size * (i + 1) ≡ size * i + size = more size i in omega arith

-- an offset in an entry lies before the end of so many entries
pub entry_inside : (size i n o : ℕ) → i < n → o < size → size * i + o < size * n
entry_inside size i n o below small =
    let ends : size * i + size ≤ size * n = entry_ends size i n below in omega arith
