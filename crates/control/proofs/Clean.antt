-- Nothing is refused: no test of the list holds. Assumes nothing.
use mathlib.Core.Path.{◌≡◌, refl}
use mathlib.Core.Bool.{Bool, true, false}
use mathlib.Core.List.{List, [], ◌∷◌, ◌++◌}
use Prim.Native.Nat.{ℕ, zero, suc}
use native.Mathlib.Omega.{arith}
use lib.Dec.{T}
use Rattle.scope.specs.Refusals.{Test, test, first_of}

-- every number of the list is above 0
abbrev pub Numbered : List Test → Bool
Numbered [] = true
Numbered (test t zero ∷ ts) = false
Numbered (test t (suc k) ∷ ts) = Numbered ts

-- no test of the list holds
abbrev pub Passed : List Test → Type 0
Passed [] = Unit
Passed (test t k ∷ ts) = (t ≡ false) × Passed ts

pub passed : (l : List Test) → T (Numbered l) → first_of l ≡ 0 → Passed l
passed [] h e = tt
passed (test true zero ∷ ts) h e = absurd h
passed (test true (suc k) ∷ ts) h e = absurd (omega arith)
passed (test false zero ∷ ts) h e = absurd h
passed (test false (suc k) ∷ ts) h e = (refl, passed ts h e)

-- ---- "The lowest number that applies": from the answers to the first tests

-- the first tests of ts have the answers bs
abbrev pub Answered : List Test → List Bool → Type 0
Answered ts [] = Unit {0}
Answered [] (b ∷ bs) = Unit {0}
Answered (test t k ∷ ts) (b ∷ bs) = (t ≡ b) × Answered ts bs

-- the number of the first yes; without one, that of the tests left
abbrev pub heard : List Test → List Bool → ℕ
heard ts [] = first_of ts
heard [] (b ∷ bs) = 0
heard (test t k ∷ ts) (true ∷ bs) = k
heard (test t k ∷ ts) (false ∷ bs) = heard ts bs

pub answers : (ts : List Test) (bs : List Bool) → Answered ts bs → heard ts bs ≡ first_of ts
answers ts [] h = refl
answers [] (b ∷ bs) h = refl
answers (test t k ∷ ts) (true ∷ bs) h = rw h.0
answers (test t k ∷ ts) (false ∷ bs) h = rw h.0 (answers ts bs h.1)

-- of two lists, the first where it gives a number, else the second
pub stops : (xs ys : List Test) → (first_of xs ≡ 0 → ⊥) → first_of xs ≡ first_of (xs ++ ys)
stops [] ys h = absurd (h refl)
stops (test true k ∷ xs) ys h = refl
stops (test false k ∷ xs) ys h = stops xs ys h

pub passes : (xs ys : List Test) → T (Numbered xs) → first_of xs ≡ 0 → first_of (xs ++ ys) ≡ first_of ys
passes [] ys h e = refl
passes (test true zero ∷ xs) ys h e = absurd h
passes (test true (suc k) ∷ xs) ys h e = absurd (omega arith)
passes (test false zero ∷ xs) ys h e = absurd h
passes (test false (suc k) ∷ xs) ys h e = passes xs ys h e

-- where neither gives a number
pub both_pass : (xs ys : List Test) → T (Numbered xs) → first_of (xs ++ ys) ≡ 0 → (first_of xs ≡ 0) × (first_of ys ≡ 0)
both_pass [] ys h e = (refl, e)
both_pass (test true zero ∷ xs) ys h e = absurd h
both_pass (test true (suc k) ∷ xs) ys h e = absurd (omega arith)
both_pass (test false zero ∷ xs) ys h e = absurd h
both_pass (test false (suc k) ∷ xs) ys h e = both_pass xs ys h e
