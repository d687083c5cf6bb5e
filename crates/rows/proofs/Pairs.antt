-- Pairs that stand flat in a list, read from the front. Assumes nothing.
use mathlib.Core.Path.{◌≡◌}
use mathlib.Core.List.{List, [], ◌∷◌, ◌++◌}
use Prim.Native.Nat.{ℕ, suc, ◌+◌, ◌<◌}
use native.Mathlib.Numerals.{add-one}
use native.Mathlib.Omega.{arith}
use lib.ListN.{length, get_or, drop}
use lib.Seq.{drop-cons}

-- the pair at i, and what is after it
pub pair_next : {A : Type 0} (l : List A) (d : A) (i : ℕ) → i + 1 < length l → drop i l ≡ get_or l i d ∷ get_or l (i + 1) d ∷ drop (i + 2) l
pair_next l d i h =
    let two : i + 2 ≡ suc (suc i) = omega arith in
    let first : i < length l = omega arith in
    let second : suc i < length l = omega arith in
    rw (two, add-one, drop-cons l i d, drop-cons l (suc i) d)

-- one turn of a loop that reads two entries at a time: p stands first in what was left, and next is left
pub pair_turn : {A : Type 0} (p left next : List A) (d : A) → left ≡ p ++ next → length p ≡ 2 → left ≡ get_or p 0 d ∷ get_or p 1 d ∷ next
pair_turn [] left next d e h = absurd (omega arith)
pair_turn (x ∷ []) left next d e h = absurd (omega arith)
pair_turn (x ∷ y ∷ []) left next d e h = e
pair_turn (x ∷ y ∷ z ∷ p) left next d e h = absurd (omega arith)
