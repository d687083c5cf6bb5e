-- What is kept of a deck as its pairs and cells come. Assumes nothing.
use Rattle.std.proofs.Common.{◌≡◌, ℕ, ◌+◌, ◌*◌, ◌<◌, ◌≤◌, min, Bool, true, false, not, ◌&&◌, ◌||◌, ltb, leb, List, [], ◌∷◌, ◌++◌, map, length, take, set, ℤ, sym, refl, ap, ◌∙◌, subst, append_assoc, append-nil, arith, length-append, take_all, ltb-false, ltb-true, le-leb, leb-false, leb-true}
use mathlib.Core.Bool.{and-true, and_assoc}
use lib.Ieee.{Float, of_int, binary64}
use lib.ListN.{length-map}
use lib.Seq.{take-append-le}
use borrow.Author.Tests.{lt-leb}
use Rattle.scope.proofs.Lists.{store_more}
use Rattle.scope.specs.Lists.{every, holding}
use Rattle.scope.specs.Program.{is_reading}
use Rattle.token.proofs.Tested.{either}
use Rattle.line.specs.Walk.{up_to, nothing, with_cfg, with_pair, with_cell, stored_cell, stored_pair}
use Rattle.line.specs.Kept.{Kept}
use Rattle.line.specs.declared.Given.{Given}
use Rattle.line.proofs.Lines.{row_on}

-- ---- one more, counted up to a top
up_min : (top n k : ℕ) → k ≡ min n top → up_to top k ≡ min (n + 1) top
up_min top n k e = either (ltb k top) (λ t. rw t (omega (arith, ltb-true k top t))) (λ t. rw t (omega (arith, ltb-false k top t)))

-- ---- one more, in a slice that holds the first m
module _ {A : Type 0} (m : ℕ) (xs l : List A) where
  abbrev held : List A → List A
  held ys = holding (take m ys) l

  held_set : (x : A) → m ≤ length l → length xs < m → set (held xs) (length xs) x ≡ held (xs ++ (x ∷ []))
  held_set x h k =
      let long : length (xs ++ (x ∷ [])) ≡ length xs + 1 = length-append xs (x ∷ []) in
      rw (take_all m xs (omega arith), take_all m (xs ++ (x ∷ [])) (omega arith), long) (store_more xs l (length xs) x refl (omega arith))

  held_full : (ys : List A) → m ≤ length xs → held xs ≡ held (xs ++ ys)
  held_full ys h = rw (take-append-le m xs ys h)

-- ---- the last cell of a list
every_last : {A : Type 0} (p : A → Bool) (xs : List A) (x : A) → every p (xs ++ (x ∷ [])) ≡ (every p xs && p x)
unfolding every
every_last p [] x = and-true (p x)
every_last p (y ∷ xs) x = ap (λ (t : Bool). p y && t) (every_last p xs x) ∙ sym (and_assoc (p y) (every p xs) (p x))

map_last : {A B : Type 0} (f : A → B) (xs : List A) (x : A) → map f (xs ++ (x ∷ [])) ≡ map f xs ++ (f x ∷ [])
map_last f [] x = refl
map_last f (y ∷ xs) x = ap (λ (l : List _). f y ∷ l) (map_last f xs x)

not_both : (s t : Bool) → (not s || not t) ≡ not (s && t)
not_both true t = refl
not_both false t = refl

module _ (cells₀ : List Float) (forbidden₀ : List ℕ) where
  abbrev K : Given → List Float → List ℕ → List ℕ → List ℤ → Type 0
  K = Kept cells₀ forbidden₀

  pub kept_start : K nothing cells₀ forbidden₀ [] []
  unfolding every
  kept_start = record { count = 0; flat = refl; pairs_counted = refl; cells_counted = refl; wide_is = refl; cells_held = refl; forbidden_held = refl }

  module _ (g : Given) (a : List Float) (q ps : List ℕ) (zs : List ℤ) (h : K g a q ps zs) where
    pub kept_cfg : (n d m t : ℕ) → K (with_cfg g n d m t) a q ps zs
    kept_cfg n d m t =
        record {
          count = h.count;
          flat = h.flat;
          pairs_counted = h.pairs_counted;
          cells_counted = h.cells_counted;
          wide_is = h.wide_is;
          cells_held = h.cells_held;
          forbidden_held = h.forbidden_held;
        }

    module _ (room : 2048 ≤ length cells₀) (z : ℤ) where
      abbrev x : Float
      x = of_int binary64 z

      abbrev xs : List Float
      xs = map (of_int binary64) zs

      long : length xs ≡ length zs
      long = length-map zs (of_int binary64)

      cell_kept : stored_cell g.cells x a ≡ holding (take 2048 (xs ++ (x ∷ []))) cells₀
      cell_kept =
          either (leb 2048 (length zs))
          (λ t.
          let w : 2048 ≤ length zs = leb-true 2048 (length zs) t in
          rw (le-leb 2048 g.cells (omega (arith, h.cells_counted))) (h.cells_held ∙ held_full 2048 xs cells₀ (x ∷ []) (omega (arith, long))))
          (λ t.
          let w : length zs < 2048 = leb-false 2048 (length zs) t in
          let e : g.cells ≡ length xs = omega (arith, h.cells_counted, long) in
          rw (lt-leb 2048 g.cells (omega (arith, h.cells_counted)), e, h.cells_held) (held_set 2048 xs cells₀ x room (omega (arith, long))))

      kept_cell : K (with_cell g (not (is_reading z))) (stored_cell g.cells x a) q ps (zs ++ (z ∷ []))
      kept_cell =
          record {
            count = h.count;
            flat = h.flat;
            pairs_counted = h.pairs_counted;
            cells_counted = up_min 2049 (length zs) g.cells h.cells_counted ∙ ap (λ (n : ℕ). min n 2049) (sym (length-append zs (z ∷ [])));
            wide_is = ap (λ (t : Bool). t || not (is_reading z)) h.wide_is ∙ not_both (every is_reading zs) (is_reading z) ∙ ap not (sym (every_last is_reading zs z));
            cells_held = cell_kept ∙ ap (λ (l : List Float). holding (take 2048 l) cells₀) (sym (map_last (of_int binary64) zs z));
            forbidden_held = h.forbidden_held;
          }

    module _ (room : 128 ≤ length forbidden₀) (x y : ℕ) where
      pair_kept : stored_pair g.pairs x y q ≡ holding (take 128 (ps ++ (x ∷ y ∷ []))) forbidden₀
      pair_kept =
          either (leb 64 h.count)
          (λ t.
          let w : 64 ≤ h.count = leb-true 64 h.count t in
          rw (le-leb 64 g.pairs (omega (arith, h.pairs_counted))) (h.forbidden_held ∙ held_full 128 ps forbidden₀ (x ∷ y ∷ []) (omega (arith, h.flat))))
          (λ t.
          let w : h.count < 64 = leb-false 64 h.count t in
          let e : 2 * g.pairs ≡ length ps = omega (arith, h.pairs_counted, h.flat) in
          let long : length (ps ++ (x ∷ [])) ≡ length ps + 1 = length-append ps (x ∷ []) in
          rw (lt-leb 64 g.pairs (omega (arith, h.pairs_counted)), e, h.forbidden_held, held_set 128 ps forbidden₀ x room (omega (arith, h.flat)), ← long)
          (held_set 128 (ps ++ (x ∷ [])) forbidden₀ y room (omega (arith, h.flat)) ∙ ap (λ (l : List ℕ). holding (take 128 l) forbidden₀) (append_assoc ps (x ∷ []) (y ∷ []))))

      pub kept_pair : K (with_pair g) a (stored_pair g.pairs x y q) (ps ++ (x ∷ y ∷ [])) zs
      kept_pair =
          record {
            count = h.count + 1;
            flat = length-append ps (x ∷ y ∷ []) ∙ omega (arith, h.flat);
            pairs_counted = up_min 65 h.count g.pairs h.pairs_counted;
            cells_counted = h.cells_counted;
            wide_is = h.wide_is;
            cells_held = h.cells_held;
            forbidden_held = pair_kept;
          }

  -- a row
  pub kept_cells : 2048 ≤ length cells₀ → (cs : List ℤ) (k : ℕ) (g : Given) (a : List Float) (q ps : List ℕ) (zs : List ℤ) → K g a q ps zs → K (row_on cs k g a q).given (row_on cs k g a q).cells (row_on cs k g a q).forbidden ps (zs ++ cs)
  kept_cells room [] k g a q ps zs h = rw (append-nil zs) h
  kept_cells room (z ∷ cs) k g a q ps zs h =
      subst (λ (l : List ℤ). K (row_on (z ∷ cs) k g a q).given (row_on (z ∷ cs) k g a q).cells (row_on (z ∷ cs) k g a q).forbidden ps l) (append_assoc zs (z ∷ []) cs)
      (kept_cells room cs (k + 1) (with_cell g (not (is_reading z))) (stored_cell g.cells (of_int binary64 z) a) q ps (zs ++ (z ∷ [])) (kept_cell g a q ps zs h room z))
