-- The state after the whole input says what the definitions say of it. Assumes nothing.
use mathlib.Core.Path.{◌≡◌, refl, sym, ◌∙◌, ap, subst}
use mathlib.Core.Logic.{inl, inr}
use mathlib.Core.Bool.{false, cond, not, true≢false}
use mathlib.Core.List.{List, [], ◌∷◌}
use Rattle.std.specs.List.{fold}
use Rattle.std.specs.Prelude.{Result, Ok, Err, Some, None}
use Prim.Native.Nat.{ℕ, ◌+◌, ◌-◌, ◌^◌, ◌≤◌, ◌<◌, min}
use native.Mathlib.Omega.{arith}
use lib.Dec.{ltb, leb, eqb}
use lib.IntN.{ℤ}
use lib.Ieee.{Float, of_int, binary64}
use lib.ListN.{length}
use borrow.Author.Tests.{ne_eqb, lt-ltb, le-leb, lt-leb, ltb-true, ltb-false, leb-true, leb-false}
use Rattle.scope.specs.Text.{parts}
use Rattle.scope.specs.Program.{Line, cfg_line, no_line, row_line, malformed, by_word, read_line, Deck, Reading, begun, barring, feeding, bad, deck_of, with_pair as deckWithPair, with_cells, next, ended, read_lines, read_input, is_reading}
use Rattle.token.proofs.Tested.{either, cond_same}
use Rattle.token.proofs.Parts.{walk, leftover, walk_leftover, fold_same, some_parts, parts_length}
use Rattle.line.specs.Walk.{nothing, with_cfg, with_pair, with_cell, stored_cell, stored_pair}
use Rattle.line.specs.Kept.{Kept}
use Rattle.deck.specs.Walk.{State, bad_line, ready, start, after_line, after_row, next_line, turned, step, step_run, Run, run, onto, fed, at_phase, read_of}
use Rattle.deck.specs.Meaning.{Says, after, Right}
use Rattle.line.specs.declared.Place.{Place}
use Rattle.line.specs.declared.Given.{Given}
use Rattle.deck.specs.declared.Phase.{Phase}
use Rattle.deck.specs.declared.Phase.TheVariants.{Begun, Barring, Feeding}
use Rattle.deck.specs.declared.BadLine.{BadLine}
use Rattle.line.proofs.Heads.{Head, head, field}
use Rattle.line.proofs.Lines.{is_end, Ends, row_on, line_ends, row_place}
use Rattle.line.proofs.Held.{kept_start, kept_cfg, kept_pair, kept_cells}
use Rattle.deck.proofs.Fields.{more, end, more_run, end_run, up, judged_run, line_done, line_left}

-- ---- the bytes of a line, counted up to 1,024
full : (bs : List ℕ) → fold up 1024 bs ≡ 1024
full [] = refl
full (b ∷ bs) = full bs

short : (bs : List ℕ) (a : ℕ) → a + length bs ≤ 1023 → fold up a bs ≡ a + length bs
short [] a h = omega arith
short (b ∷ bs) a h = ap (λ (x : ℕ). fold up x bs) (rw (lt-ltb a 1024 (omega arith))) ∙ short bs (a + 1) (omega arith) ∙ omega arith

long : (bs : List ℕ) (a : ℕ) → a ≤ 1024 → 1023 < a + length bs → fold up a bs ≡ 1024
long [] a h k = omega arith
long (b ∷ bs) a h k =
    either (ltb a 1024)
    (λ l. ap (λ (x : ℕ). fold up x bs) (rw l) ∙ long bs (a + 1) (omega (arith, ltb-true a 1024 l)) (omega arith))
    (λ l. let e : a ≡ 1024 = omega (arith, ltb-false a 1024 l) in rw e (full bs))

counted : (l : List ℕ) → leb 1024 (fold up 0 l) ≡ leb 1024 (length l)
counted l =
    either (leb 1024 (length l))
    (λ t. rw (t, long l 0 (omega arith) (omega (arith, leb-true 1024 (length l) t))))
    (λ t.
    let w : length l < 1024 = leb-false 1024 (length l) t in
    let e : 0 + length l ≡ length l = omega arith in
    rw (t, short l 0 (omega arith), e) t)

some_byte : (b : ℕ) (bs : List ℕ) → eqb (fold up 0 (b ∷ bs)) 0 ≡ false
some_byte b bs =
    either (leb (length (b ∷ bs)) 1023)
    (λ t. ne_eqb (fold up 0 (b ∷ bs)) 0 (λ (e : fold up 0 (b ∷ bs) ≡ 0). omega (arith, short (b ∷ bs) 0 (omega (arith, leb-true (length (b ∷ bs)) 1023 t)))))
    (λ t. ne_eqb (fold up 0 (b ∷ bs)) 0 (λ (e : fold up 0 (b ∷ bs) ≡ 0). omega (arith, long (b ∷ bs) 0 (omega arith) (omega (arith, leb-false (length (b ∷ bs)) 1023 t)))))

-- ---- a step is a byte of a line or its LF
step_parts : (s : State) (b : ℕ) → step s b ≡ cond (eqb b 10) (end s) (more s b)
step_parts (Ok o) b = refl
step_parts (Err k) b = sym (cond_same (eqb b 10) (end (Err k)))

stepped : (x : Run) (b : ℕ) → step_run x b ≡ walk 10 more_run end_run x b
stepped x b = ap (onto x) (step_parts x.state b) ∙ either (eqb b 10) (λ t. rw t) (λ t. rw t)

-- ---- between two lines
abbrev reading : Phase → Deck → Reading
reading Begun e = begun
reading Barring e = barring e
reading Feeding e = feeding e

-- before `cfg` there are no pairs and no cells
abbrev Blank : Phase → Deck → Type 0
Blank Begun e = (e.forbidden ≡ []) × (e.cells ≡ [])
Blank Barring e = Unit {0}
Blank Feeding e = Unit {0}

lost_after : (ph : Phase) (p : Place) → is_end p ≡ false → after_line ph p ≡ None
lost_after ph Place.Word e = refl
lost_after ph (Place.Number x) e = refl
lost_after ph Place.Threshold e = refl
lost_after ph Place.Row e = refl
lost_after ph (Place.Cells k) e = absurd (true≢false e)
lost_after ph Place.Cfg e = absurd (true≢false e)
lost_after ph Place.No e = absurd (true≢false e)
lost_after ph Place.Malformed e = refl

-- the values of `cfg`
abbrev Same : Given → Deck → Type 0
Same g e = (g.n ≡ e.n) × (g.d ≡ e.d) × (g.m ≡ e.m) × (g.threshold ≡ e.threshold)

row_same : (cs : List ℤ) (k : ℕ) (g : Given) (a : List Float) (q : List ℕ) (e : Deck) → Same g e → Same (row_on cs k g a q).given e
row_same [] k g a q e s = s
row_same (z ∷ cs) k g a q e s = row_same cs (k + 1) (with_cell g (not (is_reading z))) (stored_cell g.cells (of_int binary64 z) a) q e s

-- past a malformed line
bad_run : (l : List ℕ) (x : Run) (j : BadLine) → x.state ≡ Err j → (fold more_run x l).state ≡ Err j
bad_run [] x j p = p
bad_run (b ∷ l) x j p = bad_run l (more_run x b) j (ap (λ (t : State). (more t b).state) p)

module _ (cells₀ : List Float) (forbidden₀ : List ℕ) where
  -- line k is next, and r is what the lines so far give
  data Rep (x : Run) (k : ℕ) (r : Reading) : Type 0 where
    good : (ph : Phase) (g : Given) (e : Deck) → x.state ≡ Ok (ready ph k g) → Same g e → Kept cells₀ forbidden₀ g x.cells x.forbidden e.forbidden e.cells → Blank ph e → r ≡ reading ph e → Rep x k r
    gone : (j : BadLine) → x.state ≡ Err j → r ≡ bad j.0 → Rep x k r

  abbrev SaysOf : Run → Reading → Type 0
  SaysOf x r = Says cells₀ forbidden₀ (read_of x.state) x.cells x.forbidden r

  module _ (room : 2048 ≤ length cells₀) (room₂ : 128 ≤ length forbidden₀) (k : ℕ) (small : k < 18446744073709551615) where
    abbrev on_line : Phase → Head → Run
    on_line ph h = run (turned k h.given (after_line ph h.place)) h.cells h.forbidden

    next_line_lem : (ph : Phase) (g : Given) → next_line k g ph ≡ Ok (ready ph (k + 1) g)
    next_line_lem ph g = let e : min (k + 1) 18446744073709551615 ≡ k + 1 = omega arith in rw e

    module _ (g : Given) (e : Deck) (a : List Float) (q : List ℕ) (s : Same g e) (c : Kept cells₀ forbidden₀ g a q e.forbidden e.cells) where
      rep_cfg : (n d m t : ℕ) → Blank Begun e → Rep (on_line Begun (head Place.Cfg (with_cfg g n d m t) a q)) (k + 1) (barring (deck_of n d m t))
      rep_cfg n d m t b =
          good Barring (with_cfg g n d m t) (deck_of n d m t) (next_line_lem Barring (with_cfg g n d m t)) (refl, refl, refl, refl)
          (kept_cfg cells₀ forbidden₀ g a q [] [] (rw (b.0, b.1) at c) n d m t) tt refl

      rep_no : (x y : ℕ) → Rep (on_line Barring (head Place.No (with_pair g) a (stored_pair g.pairs x y q))) (k + 1) (barring (deckWithPair e x y))
      rep_no x y =
          good Barring (with_pair g) (deckWithPair e x y) (next_line_lem Barring (with_pair g)) s (kept_pair cells₀ forbidden₀ g a q e.forbidden e.cells c room₂ x y) tt refl

      rep_row : (ph : Phase) (cs : List ℤ) → after_row ph ≡ Some Feeding → Rep (on_line ph (row_on cs 0 g a q)) (k + 1) (feeding (with_cells e cs))
      rep_row ph cs f =
          let h = row_on cs 0 g a q in
          good Feeding h.given (with_cells e cs) (ap (turned k h.given) (ap (after_line ph) (row_place cs 0 g a q) ∙ f) ∙ next_line_lem Feeding h.given) (row_same cs 0 g a q e s)
          (kept_cells cells₀ forbidden₀ room cs 0 g a q e.forbidden e.cells c) tt refl

      rep_line : (l : Line) (ph : Phase) (h : Head) → Blank ph e → Ends g a q h l → Rep (on_line ph h) (k + 1) (next k (reading ph e) l)
      rep_line (cfg_line n d m t) Begun h b w = rw w (rep_cfg n d m t b)
      rep_line (cfg_line n d m t) Barring h b w = rw w (gone (bad_line k) refl refl)
      rep_line (cfg_line n d m t) Feeding h b w = rw w (gone (bad_line k) refl refl)
      rep_line (no_line x y) Begun h b w = rw w (gone (bad_line k) refl refl)
      rep_line (no_line x y) Barring h b w = rw w (rep_no x y)
      rep_line (no_line x y) Feeding h b w = rw w (gone (bad_line k) refl refl)
      rep_line (row_line cs) Begun h b w = rw w (gone (bad_line k) (ap (turned k (row_on cs 0 g a q).given) (ap (after_line Begun) (row_place cs 0 g a q))) refl)
      rep_line (row_line cs) Barring h b w = rw w (rep_row Barring cs refl)
      rep_line (row_line cs) Feeding h b w = rw w (rep_row Feeding cs refl)
      rep_line malformed Begun h b w = gone (bad_line k) (ap (turned k h.given) (lost_after Begun h.place w)) refl
      rep_line malformed Barring h b w = gone (bad_line k) (ap (turned k h.given) (lost_after Barring h.place w)) refl
      rep_line malformed Feeding h b w = gone (bad_line k) (ap (turned k h.given) (lost_after Feeding h.place w)) refl

    bad_next : (ph : Phase) (e : Deck) → next k (reading ph e) malformed ≡ bad k
    bad_next Begun e = refl
    bad_next Barring e = refl
    bad_next Feeding e = refl

    -- a whole line
    rep_judged : (ph : Phase) (g : Given) (e : Deck) (a : List Float) (q : List ℕ) (l : List ℕ) → Same g e → Kept cells₀ forbidden₀ g a q e.forbidden e.cells → Blank ph e → Rep (judged_run ph k (fold up 0 l) (fold field (head Place.Word g a q) (parts 9 l))) (k + 1) (next k (reading ph e) (read_line l))
    unfolding read_line
    rep_judged ph g e a q l s c b =
        either (leb 1024 (length l))
        (λ t. rw (counted l, t, lt-leb (length l + 1) 1024 (omega (arith, leb-true 1024 (length l) t))) (gone (bad_line k) refl (bad_next ph e)))
        (λ t. rw (counted l, t, le-leb (length l + 1) 1024 (omega (arith, leb-false 1024 (length l) t))) (rep_line g e a q s c (by_word (parts 9 l)) ph _ b (line_ends g a q (parts 9 l))))

    rep_next : (x : Run) (r : Reading) (l : List ℕ) → Rep x k r → Rep (end_run (fold more_run x l)) (k + 1) (next k r (read_line l))
    rep_next x r l (good ph g e p s c b z) =
        let w = ap (λ (t : State). end_run (fold more_run (run t x.cells x.forbidden) l)) p ∙ line_done ph k (head Place.Word g x.cells x.forbidden) l in
        rw (z, w) (rep_judged ph g e x.cells x.forbidden l s c b)
    rep_next x r l (gone j p z) = rw z (gone j (ap (λ (t : State). (end t).state) (bad_run l x j p)) refl)

    told : (ph : Phase) (g : Given) (e : Deck) (a : List Float) (q : List ℕ) → Same g e → Kept cells₀ forbidden₀ g a q e.forbidden e.cells → Says cells₀ forbidden₀ (at_phase ph k g) a q (ended k (reading ph e) [])
    told Begun g e a q s c = refl
    told Barring g e a q s c = record { deck = e; is_read = inl refl; n_is = s.0; d_is = s.1; m_is = s.2; threshold_is = s.3; kept = c }
    told Feeding g e a q s c = record { deck = e; is_read = inr refl; n_is = s.0; d_is = s.1; m_is = s.2; threshold_is = s.3; kept = c }

    bad_end : (ph : Phase) (e : Deck) (b : ℕ) (bs : List ℕ) → ended k (reading ph e) (b ∷ bs) ≡ bad k
    bad_end Begun e b bs = refl
    bad_end Barring e b bs = refl
    bad_end Feeding e b bs = refl

    -- what follows the last LF
    rep_last : (l : List ℕ) (x : Run) (r : Reading) → Rep x k r → SaysOf (fold more_run x l) (ended k r l)
    rep_last [] x r (good ph g e p s c b z) = rw (p, z) (told ph g e x.cells x.forbidden s c)
    rep_last (y ∷ ys) x r (good ph g e p s c b z) =
        let w = ap (λ (t : State). read_of (fold more_run (run t x.cells x.forbidden) (y ∷ ys)).state) p ∙ line_left ph k (head Place.Word g x.cells x.forbidden) (y ∷ ys) (some_byte y ys) in
        rw (w, z) (bad_end ph e y ys)
    rep_last l x r (gone j p z) = rw (bad_run l x j p, z) refl

  module _ (room : 2048 ≤ length cells₀) (room₂ : 128 ≤ length forbidden₀) where
    rep_lines : (ps : List (List ℕ)) (x : Run) (k : ℕ) (r : Reading) → 0 < length ps → k + length ps < 2 ^ 64 → Rep x k r → SaysOf (leftover 10 more_run end_run x ps) (read_lines ps k r)
    unfolding read_lines
    rep_lines [] x k r p h v = absurd (omega arith)
    rep_lines (l ∷ []) x k r p h v = rep_last room room₂ k (omega arith) l x r v
    rep_lines (l ∷ m ∷ ps) x k r p h v =
        rep_lines (m ∷ ps) (end_run (fold more_run x l)) (k + 1) (next k r (read_line l)) (omega arith) (omega arith) (rep_next room room₂ k (omega arith) x r l v)

    rep_start : Rep (run start cells₀ forbidden₀) 1 begun
    rep_start = good Begun nothing (deck_of 0 0 0 0) refl (refl, refl, refl, refl) (kept_start cells₀ forbidden₀) (refl, refl) refl

    -- THE LAW: what is fed says what the definitions say
    fed_says : (input : List ℕ) → length input < 2 ^ 64 - 2 → SaysOf (after input cells₀ forbidden₀) (read_input input)
    unfolding fed read_input
    fed_says input h =
        let w = some_parts 10 input in
        rw (fold_same step_run (walk 10 more_run end_run) stepped input (run start cells₀ forbidden₀), walk_leftover 10 more_run end_run input (run start cells₀ forbidden₀))
        (rep_lines (parts 10 input) (run start cells₀ forbidden₀) 1 begun (rw w.is (omega arith)) (omega (arith, parts_length 10 input)) rep_start)

-- what `finish` answers is right
pub answer_right : {s : State} {r : Result Given BadLine} → r ≡ read_of s → Right s r
answer_right p input cells₀ forbidden₀ h room room₂ e =
    let x = after input cells₀ forbidden₀ in
    subst (λ (a : Result Given BadLine). Says cells₀ forbidden₀ a x.cells x.forbidden (read_input input)) (sym (p ∙ ap read_of e)) (fed_says cells₀ forbidden₀ room room₂ input h)
