-- What the walk makes of a line's bytes. Assumes nothing.
use mathlib.Core.Path.{◌≡◌, refl, ◌∙◌, ap}
use mathlib.Core.Bool.{false, cond}
use mathlib.Core.List.{List, [], ◌∷◌}
use Rattle.std.specs.List.{fold}
use Rattle.std.specs.Prelude.{ℕ, Ok, Err}
use lib.Dec.{leb, eqb}
use Rattle.scope.specs.Text.{parts}
use Rattle.token.specs.Walk.{fresh, token_more}
use Rattle.token.specs.declared.Token.{Token}
use Rattle.token.proofs.Tested.{either}
use Rattle.token.proofs.Parts.{walk, part, walk_parts}
use Rattle.line.specs.Walk.{up_to, Reads, reads, ended}
use Rattle.line.specs.declared.Event.TheVariants.{Nothing}
use Rattle.line.proofs.Heads.{Head, head_on, field, token_reads}
use Rattle.deck.specs.Walk.{State, bad_line, in_line, after_line, turned, line_end, tabbed, byte_more, Run, run, onto, read_of}
use Rattle.deck.specs.declared.Phase.{Phase}
use Rattle.deck.specs.declared.Moved.{Moved}

-- ---- in a field
record Within : Type 0 where
  top : Head
  token : Token

abbrev within : Head → Token → Within
within h t = record { top = h; token = t }

abbrev byte : Within → ℕ → Within
byte y b = within y.top (token_more y.token b)

abbrev tab : Within → Within
tab y = within (head_on y.top (ended y.top.place y.top.given (reads y.token))) fresh

byte_walk : (f : List ℕ) (y : Within) → fold byte y f ≡ within y.top (fold token_more y.token f)
byte_walk [] y = refl
byte_walk (b ∷ f) y = byte_walk f (byte y b)

field_done_lem : (h : Head) (f : List ℕ) → part 9 byte tab (within h fresh) f ≡ within (field h f) fresh
field_done_lem h f =
    ap tab (byte_walk f (within h fresh)) ∙ ap (λ (r : Reads). within (head_on h (ended h.place h.given r)) fresh) (token_reads f)

fields_done : (fs : List (List ℕ)) (h : Head) → fold (part 9 byte tab) (within h fresh) fs ≡ within (fold field h fs) fresh
fields_done [] h = refl
fields_done (f ∷ fs) h = ap (λ (y : Within). fold (part 9 byte tab) y fs) (field_done_lem h f) ∙ fields_done fs (field h f)

-- ---- a line: bytes that are no LF, and then an LF
abbrev pub more : State → ℕ → Moved
more (Ok o) b = cond (eqb b 9) (tabbed o) (byte_more o b)
more (Err bad) b = record { state = Err bad; event = Nothing }

abbrev pub end : State → Moved
end (Ok o) = line_end o
end (Err bad) = record { state = Err bad; event = Nothing }

abbrev pub more_run : Run → ℕ → Run
more_run x b = onto x (more x.state b)

abbrev pub end_run : Run → Run
end_run x = onto x (end x.state)

-- bytes of a line, counted up to 1,024
abbrev pub up : ℕ → ℕ → ℕ
up at b = up_to 1024 at

abbrev as_run : Phase → ℕ → ℕ → Within → Run
as_run ph k at y = run (Ok (in_line ph k at y.top.place y.top.given y.token)) y.top.cells y.top.forbidden

more_one : (ph : Phase) (k at : ℕ) (y : Within) (b : ℕ) → more_run (as_run ph k at y) b ≡ as_run ph k (up_to 1024 at) (walk 9 byte tab y b)
more_one ph k at y b = either (eqb b 9) (λ e. rw e) (λ e. rw e)

more_walk : (bs : List ℕ) (ph : Phase) (k at : ℕ) (y : Within) → fold more_run (as_run ph k at y) bs ≡ as_run ph k (fold up at bs) (fold (walk 9 byte tab) y bs)
more_walk [] ph k at y = refl
more_walk (b ∷ bs) ph k at y = ap (λ (x : Run). fold more_run x bs) (more_one ph k at y b) ∙ more_walk bs ph k (up_to 1024 at) (walk 9 byte tab y b)

-- after the LF
abbrev pub judged_run : Phase → ℕ → ℕ → Head → Run
judged_run ph k at h = run (cond (leb 1024 at) (Err (bad_line k)) (turned k h.given (after_line ph h.place))) h.cells h.forbidden

module _ (ph : Phase) (k : ℕ) (h : Head) (l : List ℕ) where
  abbrev pub begun : Run
  begun = run (Ok (in_line ph k 0 h.place h.given fresh)) h.cells h.forbidden

  pub line_done : end_run (fold more_run begun l) ≡ judged_run ph k (fold up 0 l) (fold field h (parts 9 l))
  line_done =
      ap end_run (more_walk l ph k 0 (within h fresh))
      ∙ ap (λ (y : Within). judged_run ph k (fold up 0 l) y.top) (walk_parts 9 byte tab l (within h fresh) ∙ fields_done (parts 9 l) h)

  -- in a line that is begun the input can't end
  pub line_left : eqb (fold up 0 l) 0 ≡ false → read_of (fold more_run begun l).state ≡ Err (bad_line k)
  line_left e = ap (λ (x : Run). read_of x.state) (more_walk l ph k 0 (within h fresh)) ∙ rw e
