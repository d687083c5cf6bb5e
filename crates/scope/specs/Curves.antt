-- Curves, the pick and the guesses.
use Rattle.std.specs.Prelude.{Bool, false, cond, ◌||◌, List, [], ◌∷◌, ◌++◌, ℕ, zero, suc, ◌+◌, ◌-◌, ◌*◌, ◌/◌, ltb, eqb, Float, length, get_or}
use Rattle.std.proofs.Math.Option.{Option, none, some}
use Rattle.scope.specs.Floats.{◌⊕◌, ◌⊖◌, +0, lowest}
use Rattle.scope.specs.Lists.{at, select}
use Rattle.scope.specs.Asked.{Shortest}
use Rattle.scope.specs.Candidates.{candidates}
use Rattle.scope.specs.Origin.{direct}
use Rattle.scope.specs.Grid.{Record, best, trials}

-- ---- "g[0] = 0, g[i+1] = (l0[i]-l1[i]) + g[i], then add the left-to-right sum of l1 from 0 to each"
unfoldable pub raised : List Float → List Float → ℕ → Float
raised l0 l1 zero = +0
raised l0 l1 (suc i) = (at l0 i ⊖ at l1 i) ⊕ raised l0 l1 i

-- the sum of the first k values, left to right from 0
unfoldable pub total_of : List Float → ℕ → Float
total_of l zero = +0
total_of l (suc k) = total_of l k ⊕ at l k

-- the first k entries of the curve
unfoldable pub curve : List Float → List Float → ℕ → List Float
curve l0 l1 zero = []
curve l0 l1 (suc k) = curve l0 l1 k ++ ((raised l0 l1 k ⊕ total_of l1 (length l1)) ∷ [])

-- ---- "Pick: start from the guess and minus infinity; over the candidates x, g[x-start] strictly greater wins."
unfoldable pub picked : Shortest → List ℕ → ℕ → ℕ → ℕ → List Float → Record
picked s forbidden start stop guess g =
    best (record { start = start; stop = stop; split = guess; gain = lowest; origin = direct }) (trials (λ a e x. at g (x - a)) s forbidden start stop)

-- ---- Guesses

abbrev pub is_member : ℕ → List ℕ → Bool
is_member x [] = false
is_member x (y ∷ ys) = eqb x y || is_member x ys

-- "(3a+b)/4, (a+b)/2, (a+3b)/4 of start a, stop b"
abbrev pub quarters : ℕ → ℕ → List ℕ
quarters a b = (3 * a + b) / 4 ∷ (a + b) / 2 ∷ (a + 3 * b) / 4 ∷ []

-- "candidates number c/4, c/2, 3c/4 of c (from 0)"
abbrev pub quarters_of : List ℕ → List ℕ
quarters_of cs = let c = length cs in get_or cs (c / 4) 0 ∷ get_or cs (c / 2) 0 ∷ get_or cs (3 * c / 4) 0 ∷ []

-- "each only if above the last kept"
abbrev pub above_last : ℕ → List ℕ → List ℕ
above_last last [] = []
above_last last (x ∷ xs) = cond (ltb last x) (x ∷ above_last x xs) (above_last last xs)

abbrev pub rising : List ℕ → List ℕ
rising [] = []
rising (x ∷ xs) = x ∷ above_last x xs

-- "keeping candidates"; "with a forbidden list, even an empty one (given or not is an input of its own), .."
unfoldable pub guesses : Shortest → Option (List ℕ) → ℕ → ℕ → List ℕ
guesses s none start stop = select (λ x. is_member x (candidates s [] start stop)) (quarters start stop)
guesses s (some forbidden) start stop = rising (quarters_of (candidates s forbidden start stop))
