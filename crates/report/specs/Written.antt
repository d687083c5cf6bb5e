-- A text, written into a slice, and into a page.
use Rattle.std.specs.Prelude.{◌≡◌, List, ℕ, ◌+◌, ◌≤◌, length}
use Rattle.std.proofs.lemmas.List.Edits.{sets}
use Rattle.report.specs.declared.Page.{Page}

-- A slice that held `before` holds `after`: the text stands from `at` on, up to `end`, and the rest is as it was.
pub record Written (before : List ℕ) (at : ℕ) (text after : List ℕ) (end : ℕ) : Type 0 where
  pub end_is : end ≡ at + length text
  pub after_is : after ≡ sets before at text

-- so many bytes fit behind what is written of the page
abbrev pub RoomFor : ℕ → Page → Type 0
RoomFor k page = page.at + k ≤ length page.out.now

-- The text is what the page's slice has next.
pub record Put (before : Page) (text : List ℕ) (after : Page) : Type 0 where
  pub same_slice : after.out.ghost_name ≡ before.out.ghost_name
  pub long : length after.out.now ≡ length before.out.now
  pub written : Written before.out.now before.at text after.out.now after.at
