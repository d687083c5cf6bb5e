-- What a line's fields come to is what the definitions read in the line. Assumes nothing.
use Rattle.std.proofs.Common.{◌≡◌, ℕ, suc, ◌+◌, ◌≤◌, Bool, true, false, not, ltb, leb, List, [], ◌∷◌, length, ℤ, sym, refl, ap, ◌∙◌, subst, arith, ltb-false, ltb-true, le-ltb, lt-ltb, le-leb, leb-false, leb-true}
use Rattle.std.specs.List.{fold}
use mathlib.Core.Option.{Option, none, some}
use lib.Ieee.{Float, of_int, binary64}
use borrow.Author.Tests.{lt-leb}
use Rattle.scope.specs.Refusals.{outside}
use Rattle.scope.specs.Text.{number, cell, cons_some, cells_of, threshold}
use Rattle.scope.specs.Program.{Line, cfg_line, no_line, row_line, malformed, cfg_of, no_of, row_of, cfg_fields, no_fields, by_word, is_reading}
use Rattle.scope.proofs.Never.{never}
use Rattle.token.specs.Walk.{word_more}
use Rattle.token.specs.declared.Word.{Word}
use Rattle.token.specs.declared.Word.TheVariants.{Empty, C, Cf, Cfg, N, No, R, Ro, Row, Other}
use Rattle.token.proofs.Tested.{either}
use Rattle.token.proofs.Words.{pick, walked_word}
use Rattle.line.specs.Walk.{with_cfg, with_pair, with_cell, place_of, number_at, number_end, bits_end, cell_end, stored_cell, stored_pair}
use Rattle.line.specs.declared.Number.{Number}
use Rattle.line.specs.declared.Number.TheVariants.{D, M, A, B}
use Rattle.line.specs.declared.Place.{Place}
use Rattle.line.specs.declared.Place.TheVariants.{Threshold, Cells, Malformed}
use Rattle.line.specs.declared.Given.{Given}
use Rattle.line.proofs.Heads.{Head, head, head_on, field}

-- the cells of a row, after k others of its line
abbrev pub row_on : List ℤ → ℕ → Given → List Float → List ℕ → Head
row_on [] k g a q = head (Cells k) g a q
row_on (z ∷ zs) k g a q = row_on zs (k + 1) (with_cell g (not (is_reading z))) (stored_cell g.cells (of_int binary64 z) a) q

-- where a line may end
abbrev pub is_end : Place → Bool
is_end Place.Word = false
is_end (Place.Number x) = false
is_end Threshold = false
is_end Place.Row = false
is_end (Cells k) = true
is_end Place.Cfg = true
is_end Place.No = true
is_end Malformed = false

abbrev pub Lost : Head → Type 0
Lost h = is_end h.place ≡ false

-- a line that began at g, a and q ends at h, and reads so
abbrev pub Ends : Given → List Float → List ℕ → Head → Line → Type 0
Ends g a q h (cfg_line n d m t) = h ≡ head Place.Cfg (with_cfg g n d m t) a q
Ends g a q h (no_line x y) = h ≡ head Place.No (with_pair g) a (stored_pair g.pairs x y q)
Ends g a q h (row_line cs) = h ≡ row_on cs 0 g a q
Ends g a q h malformed = Lost h

-- malformed once, malformed to the end
gone : (fs : List (List ℕ)) (g : Given) (a : List Float) (q : List ℕ) → Lost (fold field (head Malformed g a q) fs)
gone [] g a q = refl
gone (f ∷ fs) g a q = gone fs g a q

-- a number, or a threshold, and then fields that lose the line whatever it is
module _ (g : Given) (a : List Float) (q : List ℕ) (fs : List (List ℕ)) where
  on_number : (x : Number) → ((v : ℕ) → Lost (fold field (head_on (head (Place.Number x) g a q) (number_at x g v)) fs)) → (o : Option ℕ) → Lost (fold field (head_on (head (Place.Number x) g a q) (number_end x g o)) fs)
  on_number x h none = gone fs g a q
  on_number x h (some v) = h v

  on_bits : ((t : ℕ) → Lost (fold field (head Place.Cfg (with_cfg g g.n g.d g.m t) a q) fs)) → (o : Option ℕ) → Lost (fold field (head_on (head Threshold g a q) (bits_end g o)) fs)
  on_bits h none = gone fs g a q
  on_bits h (some t) = h t

module _ (g : Given) (a : List Float) (q : List ℕ) where
  -- ---- `cfg` and four fields
  abbrev with_n : ℕ → Given
  with_n n = with_cfg g n g.d g.m g.threshold

  abbrev with_d : ℕ → ℕ → Given
  with_d n d = with_cfg g n d g.m g.threshold

  abbrev with_m : ℕ → ℕ → ℕ → Given
  with_m n d m = with_cfg g n d m g.threshold

  cfg_4 : (n d m : ℕ) (o : Option ℕ) → Ends g a q (head_on (head Threshold (with_m n d m) a q) (bits_end (with_m n d m) o)) (cfg_of (some n) (some d) (some m) o)
  cfg_4 n d m none = refl
  cfg_4 n d m (some t) = refl

  cfg_3 : (n d : ℕ) (o : Option ℕ) (t : List ℕ) → Ends g a q (fold field (head_on (head (Place.Number M) (with_d n d) a q) (number_end M (with_d n d) o)) (t ∷ [])) (cfg_of (some n) (some d) o (threshold t))
  cfg_3 n d none t = refl
  cfg_3 n d (some m) t = cfg_4 n d m (threshold t)

  cfg_2 : (n : ℕ) (o : Option ℕ) (m t : List ℕ) → Ends g a q (fold field (head_on (head (Place.Number D) (with_n n) a q) (number_end D (with_n n) o)) (m ∷ t ∷ [])) (cfg_of (some n) o (number m) (threshold t))
  cfg_2 n none m t = refl
  cfg_2 n (some d) m t = cfg_3 n d (number m) t

  cfg_1 : (o : Option ℕ) (d m t : List ℕ) → Ends g a q (fold field (head_on (head (Place.Number Number.N) g a q) (number_end Number.N g o)) (d ∷ m ∷ t ∷ [])) (cfg_of o (number d) (number m) (threshold t))
  cfg_1 none d m t = refl
  cfg_1 (some n) d m t = cfg_2 n (number d) m t

  cfg_law : (fs : List (List ℕ)) → Ends g a q (fold field (head (Place.Number Number.N) g a q) fs) (cfg_fields fs)
  cfg_law [] = refl
  cfg_law (n ∷ []) = on_number g a q [] Number.N (λ v. refl) (number n)
  cfg_law (n ∷ d ∷ []) = on_number g a q (d ∷ []) Number.N (λ v. on_number (with_n v) a q [] D (λ w. refl) (number d)) (number n)
  cfg_law (n ∷ d ∷ m ∷ []) =
      on_number g a q (d ∷ m ∷ []) Number.N (λ v. on_number (with_n v) a q (m ∷ []) D (λ w. on_number (with_d v w) a q [] M (λ x. refl) (number m)) (number d)) (number n)
  cfg_law (n ∷ d ∷ m ∷ t ∷ []) = cfg_1 (number n) d m t
  cfg_law (n ∷ d ∷ m ∷ t ∷ f ∷ fs) =
      on_number g a q (d ∷ m ∷ t ∷ f ∷ fs) Number.N (λ v. on_number (with_n v) a q (m ∷ t ∷ f ∷ fs) D (λ w. on_number (with_d v w) a q (t ∷ f ∷ fs) M (λ x. on_bits (with_m v w x) a q (f ∷ fs) (λ b. gone fs (with_cfg g v w x b) a q) (threshold t)) (number m)) (number d)) (number n)

  -- ---- `no` and two fields
  no_2 : (x : ℕ) (o : Option ℕ) → Ends g a q (head_on (head (Place.Number (B x)) g a q) (number_end (B x) g o)) (no_of (some x) o)
  no_2 x none = refl
  no_2 x (some y) = refl

  no_1 : (o : Option ℕ) (y : List ℕ) → Ends g a q (fold field (head_on (head (Place.Number A) g a q) (number_end A g o)) (y ∷ [])) (no_of o (number y))
  no_1 none y = refl
  no_1 (some x) y = no_2 x (number y)

  no_law : (fs : List (List ℕ)) → Ends g a q (fold field (head (Place.Number A) g a q) fs) (no_fields fs)
  no_law [] = refl
  no_law (x ∷ []) = on_number g a q [] A (λ v. refl) (number x)
  no_law (x ∷ y ∷ []) = no_1 (number x) y
  no_law (x ∷ y ∷ f ∷ fs) =
      on_number g a q (y ∷ f ∷ fs) A (λ v. on_number g a q (f ∷ fs) (B v) (λ w. gone fs (with_pair g) a (stored_pair g.pairs v w q)) (number y)) (number x)

-- ---- `row` and 1 to 64 cells: all are cells, and there are not too many
abbrev Rows : Head → ℕ → Given → List Float → List ℕ → Option (List ℤ) → Bool → Type 0
Rows h k g a q none few = Lost h
Rows h k g a q (some cs) false = Lost h
Rows h k g a q (some cs) true = h ≡ row_on cs k g a q

module _ (h : Head) (k : ℕ) (g : Given) (a : List Float) (q : List ℕ) where
  rows_lost : Lost h → (o : Option (List ℤ)) → Rows h k g a q o false
  rows_lost l none = l
  rows_lost l (some cs) = l

  rows_more : (z : ℤ) (o : Option (List ℤ)) (few : Bool) → Rows h (k + 1) (with_cell g (not (is_reading z))) (stored_cell g.cells (of_int binary64 z) a) q o few → Rows h k g a q (cons_some (some z) o) few
  rows_more z none few r = r
  rows_more z (some cs) false r = r
  rows_more z (some cs) true r = r

row_next : (f : List ℕ) (fs : List (List ℕ)) (k : ℕ) (g : Given) (a : List Float) (q : List ℕ) (o : Option ℤ)
    → ((g' : Given) (a' : List Float) → Rows (fold field (head (Cells (k + 1)) g' a' q) fs) (k + 1) g' a' q (cells_of fs) (leb ((k + 1) + length fs) 64))
    → Rows (fold field (head_on (head (Cells k) g a q) (cell_end k g o)) fs) k g a q (cons_some o (cells_of fs)) (leb ((k + 1) + length fs) 64)
row_next f fs k g a q none ih = gone fs g a q
row_next f fs k g a q (some z) ih =
    rows_more _ k g a q z (cells_of fs) (leb ((k + 1) + length fs) 64) (ih (with_cell g (not (is_reading z))) (stored_cell g.cells (of_int binary64 z) a))

rows : (fs : List (List ℕ)) (k : ℕ) (g : Given) (a : List Float) (q : List ℕ) → k ≤ 64 → Rows (fold field (head (Cells k) g a q) fs) k g a q (cells_of fs) (leb (k + length fs) 64)
unfolding cells_of
rows [] k g a q h = rw (le-leb (k + 0) 64 (omega arith)) refl
rows (f ∷ fs) k g a q h =
    let e : k + suc (length fs) ≡ (k + 1) + length fs = omega arith in
    either (ltb k 64)
    (λ t. rw (t, e) (row_next f fs k g a q (cell f) (λ g' a'. rows fs (k + 1) g' a' q (omega (arith, ltb-true k 64 t)))))
    (λ t. rw (t, lt-leb (k + suc (length fs)) 64 (omega (arith, ltb-false k 64 t))) (rows_lost _ k g a q (gone fs g a q) (cons_some (cell f) (cells_of fs))))

-- as many cells as fields
cons_length : (o : Option ℤ) (os : Option (List ℤ)) (n : ℕ) → ((cs : List ℤ) → os ≡ some cs → length cs ≡ n) → (cs : List ℤ) → cons_some o os ≡ some cs → length cs ≡ suc n
cons_length none os n h cs e = never (cc)
cons_length (some c) none n h cs e = never (cc)
cons_length (some c) (some ds) n h cs e = let z : c ∷ ds ≡ cs = cc in sym (ap length z) ∙ ap suc (h ds refl)

cells_length : (fs : List (List ℕ)) (cs : List ℤ) → cells_of fs ≡ some cs → length cs ≡ length fs
unfolding cells_of
cells_length [] cs e = let z : [] ≡ cs = cc in sym (ap length z)
cells_length (f ∷ fs) cs e = cons_length (cell f) (cells_of fs) (length fs) (cells_length fs) cs e

outside_row : (m n : ℕ) → m ≡ suc n → outside 64 m ≡ ltb 64 (suc n)
unfolding outside
outside_row m n e = rw (e, le-ltb (suc n) 1 (omega arith))

rows_end : (h : Head) (g : Given) (a : List Float) (q : List ℕ) (n : ℕ) (o : Option (List ℤ)) → ((cs : List ℤ) → o ≡ some cs → length cs ≡ suc n) → Rows h 0 g a q o (leb (suc n) 64) → Ends g a q h (row_of o)
rows_end h g a q n none len r = r
rows_end h g a q n (some cs) len r =
    let e = outside_row (length cs) n (len cs refl) in
    either (leb (suc n) 64)
    (λ t. rw (e, le-ltb 64 (suc n) (leb-true (suc n) 64 t)) (rw t at r))
    (λ t. rw (e, lt-ltb 64 (suc n) (leb-false (suc n) 64 t)) (rw t at r))

module _ (g : Given) (a : List Float) (q : List ℕ) where
  row_law : (fs : List (List ℕ)) → Ends g a q (fold field (head Place.Row g a q) fs) (row_of (cells_of fs))
  unfolding cells_of outside
  row_law [] = refl
  row_law (f ∷ fs) =
      let e : 0 + suc (length fs) ≡ suc (length fs) = omega arith in
      rows_end _ g a q (length fs) (cells_of (f ∷ fs)) (cells_length (f ∷ fs)) (rw e at (rows (f ∷ fs) 0 g a q (omega arith)))

  -- ---- by the word
  by_word_lem : (fs : List (List ℕ)) (w : Word) → Ends g a q (fold field (head (place_of w) g a q) fs) (pick w (cfg_fields fs) (no_fields fs) (row_of (cells_of fs)) malformed)
  by_word_lem fs Empty = gone fs g a q
  by_word_lem fs C = gone fs g a q
  by_word_lem fs Cf = gone fs g a q
  by_word_lem fs Cfg = cfg_law g a q fs
  by_word_lem fs N = gone fs g a q
  by_word_lem fs No = no_law g a q fs
  by_word_lem fs R = gone fs g a q
  by_word_lem fs Ro = gone fs g a q
  by_word_lem fs Row = row_law fs
  by_word_lem fs Other = gone fs g a q

  pub line_ends : (fs : List (List ℕ)) → Ends g a q (fold field (head Place.Word g a q) fs) (by_word fs)
  line_ends [] = refl
  line_ends (w ∷ fs) =
      subst (Ends g a q (fold field (head Place.Word g a q) (w ∷ fs))) (walked_word (cfg_fields fs) (no_fields fs) (row_of (cells_of fs)) malformed w) (by_word_lem fs (fold word_more Empty w))

-- a row ends after its cells
pub row_place : (cs : List ℤ) (k : ℕ) (g : Given) (a : List Float) (q : List ℕ) → (row_on cs k g a q).place ≡ Cells (k + length cs)
row_place [] k g a q = let e : k ≡ k + 0 = omega arith in ap Cells e
row_place (z ∷ cs) k g a q =
    let e : (k + 1) + length cs ≡ k + suc (length cs) = omega arith in
    row_place cs (k + 1) (with_cell g (not (is_reading z))) (stored_cell g.cells (of_int binary64 z) a) q ∙ ap Cells e
