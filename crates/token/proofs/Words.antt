-- What the walk makes of a word's bytes. Assumes nothing.
use mathlib.Core.Path.{◌≡◌, refl, ◌∙◌, ap}
use mathlib.Core.Bool.{cond}
use mathlib.Core.List.{List, [], ◌∷◌}
use Rattle.std.specs.List.{fold}
use Prim.Native.Nat.{ℕ}
use lib.Dec.{eqb}
use borrow.Author.Tests.{eqb-true}
use Rattle.scope.specs.Text.{bytes, same}
use Rattle.token.specs.Walk.{word_more, awaited}
use Rattle.token.specs.declared.Word.{Word}
use Rattle.token.specs.declared.Word.TheVariants.{Empty, C, Cf, Cfg, N, No, R, Ro, Row, Other}
use Rattle.token.proofs.Tested.{either}

-- by the word: x for `cfg`, y for `no`, z for `row`, u for anything else
abbrev pub pick : {A : Type 0} → Word → A → A → A → A → A
pick Empty x y z u = u
pick C x y z u = u
pick Cf x y z u = u
pick Cfg x y z u = x
pick N x y z u = u
pick No x y z u = y
pick R x y z u = u
pick Ro x y z u = u
pick Row x y z u = z
pick Other x y z u = u

module _ {A : Type 0} (x y z u : A) where
  abbrev picked : Word → List ℕ → A
  picked w f = pick (fold word_more w f) x y z u

  dead : (f : List ℕ) → picked Other f ≡ u
  dead [] = refl
  dead (b ∷ f) = dead f

  -- from w on, the bytes cs and no more lead to v
  Ends : Word → List ℕ → A → Type 0
  Ends w cs v = (f : List ℕ) → picked w f ≡ cond (same f cs) v u

  whole : (w : Word) → ((b : ℕ) → word_more w b ≡ Other) → Ends w [] (pick w x y z u)
  unfolding Ends same
  whole w s [] = refl
  whole w s (b ∷ f) = ap (λ (n : Word). picked n f) (s b) ∙ dead f

  one : (w next : Word) (c : ℕ) (cs : List ℕ) (v : A) → pick w x y z u ≡ u → ((b : ℕ) → word_more w b ≡ awaited b c next) → Ends next cs v → Ends w (c ∷ cs) v
  unfolding Ends same
  one w next c cs v e s h [] = e
  one w next c cs v e s h (b ∷ f) =
      ap (λ (n : Word). picked n f) (s b) ∙ either (eqb b c) (λ t. rw t (h f)) (λ t. rw t (dead f))

  of_cfg : Ends C (102 ∷ 103 ∷ []) x
  of_cfg = one C Cf 102 (103 ∷ []) x refl (λ b. refl) (one Cf Cfg 103 [] x refl (λ b. refl) (whole Cfg (λ b. refl)))

  of_no : Ends N (111 ∷ []) y
  of_no = one N No 111 [] y refl (λ b. refl) (whole No (λ b. refl))

  of_row : Ends R (111 ∷ 119 ∷ []) z
  of_row = one R Ro 111 (119 ∷ []) z refl (λ b. refl) (one Ro Row 119 [] z refl (λ b. refl) (whole Row (λ b. refl)))

  -- a whole field as a word
  pub walked_word : (f : List ℕ) → picked Empty f ≡ cond (same f (bytes "cfg")) x (cond (same f (bytes "no")) y (cond (same f (bytes "row")) z u))
  unfolding Ends same bytes
  walked_word [] = refl
  walked_word (b ∷ f) =
      either (eqb b 99) (λ e. rw (eqb-true b 99 e) (of_cfg f))
      (λ c. either (eqb b 110) (λ e. rw (eqb-true b 110 e) (of_no f))
      (λ n. either (eqb b 114) (λ e. rw (eqb-true b 114 e) (of_row f))
      (λ r. rw (c, n, r) (dead f))))
