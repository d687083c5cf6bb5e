-- A slice that is filled from its start, entry by entry. Assumes nothing.
use mathlib.Core.Path.{◌≡◌, ◌∙◌}
use mathlib.Core.List.{List, [], ◌∷◌, ◌++◌}
use Prim.Native.Nat.{ℕ, suc, ◌+◌, ◌≤◌}
use native.Mathlib.Nat.{add-zero, add-suc, suc-add}
use native.Mathlib.Omega.{arith}
use lib.ListN.{length, set, take, drop, length-append, length-drop}
use lib.Seq.{sets, take_at}

module _ {A : Type 0} where
  -- the length stays
  pub length_stored : (p l : List A) → length p ≤ length l → length (p ++ drop (length p) l) ≡ length l
  length_stored p l h = length-append p (drop (length p) l) ∙ rw length-drop (omega arith)

  -- what was stored, and what stands behind it
  pub take_stored : (p l : List A) (n : ℕ) → length p ≡ n → take n (p ++ drop n l) ≡ p
  take_stored p l n h = take_at p (drop n l) n h

  -- a run of stores, in two parts
  pub sets_append : (l : List A) (p : ℕ) (xs ys : List A) → sets l p (xs ++ ys) ≡ sets (sets l p xs) (p + length xs) ys
  sets_append l p [] ys = rw add-zero
  sets_append l p (x ∷ xs) ys = sets_append (set l p x) (suc p) xs ys ∙ rw (suc-add, add-suc)
