-- Texts put on a page one after another. Assumes nothing.
use mathlib.Core.Path.{◌≡◌, refl, ◌∙◌}
use mathlib.Core.List.{List, [], ◌∷◌, ◌++◌, append_assoc}
use Prim.Native.Nat.{ℕ, ◌+◌, ◌≤◌}
use native.Mathlib.Omega.{arith}
use borrow.Rule.Slice.PartMut.{put_mid}
use lib.ListN.{length}
use lib.Seq.{sets, sets-eq, drop-drop}
use Rattle.report.specs.Written.{Put}
use Rattle.report.specs.declared.Page.{Page}
use Rattle.report.proofs.Texts.{written_then}

-- a text that is copied to where it is to stand
pub copied : (before text : List ℕ) (at k : ℕ) → k ≡ length text → at + k ≤ length before → put_mid at k before text ≡ sets before at text
copied before text at k e h = rw (e, sets-eq text before at (omega arith), append_assoc, drop-drop)

-- one text after another
pub put_then : {a b c : Page} {xs ys : List ℕ} → Put a xs b → Put b ys c → Put a (xs ++ ys) c
put_then p q = record { same_slice = q.same_slice ∙ p.same_slice; long = q.long ∙ p.long; written = written_then p.written q.written }

-- a field and its tab, before the rest of a line
pub field_then : {a b c : Page} (f : List ℕ) {rest : List ℕ} → Put a (f ++ (9 ∷ [])) b → Put b rest c → Put a (f ++ (9 ∷ rest)) c
field_then f p q = rw append_assoc at (put_then p q)

-- nothing
pub put_none : {a : Page} → Put a [] a
put_none = record { same_slice = refl; long = refl; written = record { end_is = omega arith; after_is = refl } }
