-- The lots of a reader that tells its bytes: each is the next of them, and after the last there are no more. Assumes nothing.
use Rattle.std.proofs.Common.{◌≡◌, Option, None, Some, Result, Ok, Err, IfSome, List, ◌++◌, ℕ, ◌+◌, ◌-◌, ◌^◌, ◌≤◌, Float, length, take, drop, refl, sym, ◌∙◌, ap, subst, length-take-le, take_all, drop_at, le_refl}
use Rattle.std.proofs.lemmas.Slice.{take-put_mid_below}
use lib.Seq.{take-add, take-append-le}
use borrow.Rule.Slice.PartMut.{put_mid, post_of}
use Rattle.std.specs.Io.KnownBytes.{Consumes, IsAtEnd}
use Rattle.std.proofs.KnownBytes.{Consumes-nil, Consumes-trans, Consumes-whole}
use Rattle.line.specs.declared.Given.{Given}
use Rattle.deck.specs.declared.BadLine.{BadLine}
use Rattle.deck.specs.Walk.{State, run}
use Rattle.deck.specs.Meaning.{Right, after}
use Rattle.reading.specs.Known.{FedOf, BegunOf, RestOf, RestedOf, TakenOf}
use Rattle.reading.specs.declared.Unreadable.{Unreadable}
use Rattle.reading.proofs.Lots.{begun_none, begun_more, begun_rest, says_longer}

-- ---- the buffer
-- a read puts its bytes behind those that stand there
pub behind : (n k : ℕ) (kept part : List ℕ) → n ≤ length kept → k ≤ length part → take n kept ++ take k part ≡ take (n + k) (put_mid n (length kept - n) kept part)
behind n k kept part within fits =
    let new = put_mid n (length kept - n) kept part in
    let after = post_of n (length kept - n) kept in
    let front : take n new ≡ take n kept = take-put_mid_below _ _ _ _ _ (le_refl _) within in
    let back : take k (drop n new) ≡ take k part = ap (take k) (drop_at (take n kept) (part ++ after) n (length-take-le n kept within)) ∙ take-append-le k part after fits in
    ap (λ (l : List ℕ). l ++ take k part) (sym front) ∙ ap (λ (l : List ℕ). take n new ++ l) (sym back) ∙ sym (take-add n k new)

-- ---- lots, from a state on
module _ {a : Option (List ℕ)} {s₀ : State} {cells₀ : List Float} {forbidden₀ : List ℕ} where
  pub begun_none_of : BegunOf a a s₀ cells₀ forbidden₀ s₀ cells₀ forbidden₀ 0
  begun_none_of = record { begun = begun_none; took = Consumes-nil a }

  module _ {b : Option (List ℕ)} {s : State} {cells : List Float} {forbidden : List ℕ} {turns : ℕ} (g : BegunOf a b s₀ cells₀ forbidden₀ s cells forbidden turns) where
    pub begun_more_of : {c : Option (List ℕ)} {t : State} {cells' : List Float} {forbidden' : List ℕ} → FedOf b c s cells forbidden t cells' forbidden'
        → BegunOf a c s₀ cells₀ forbidden₀ t cells' forbidden' (turns + 1)
    begun_more_of f = record { begun = begun_more g.begun f.lot; took = Consumes-trans _ _ _ _ _ g.took f.took }

    pub begun_rest_of : (r : Result Given BadLine) {cells' : List Float} {forbidden' : List ℕ} → turns ≤ 2 ^ 47 → IsAtEnd b → Right s r → cells' ≡ cells → forbidden' ≡ forbidden
        → IfSome a (λ xs. RestOf xs s₀ cells₀ forbidden₀ cells' forbidden' r)
    begun_rest_of r {cells' = cells'} {forbidden' = forbidden'} most end right c f =
        Consumes-whole _ _ _ (λ xs. RestOf xs s₀ cells₀ forbidden₀ cells' forbidden' r) g.took end (record { rest = begun_rest g.begun most right c f; all = refl })

-- ---- the whole input: s is the state after the first n bytes that stand in the buffer
module _ (kept : List ℕ) (cells₀ : List Float) (forbidden₀ : List ℕ) (short : length kept ≤ 65536) (n : ℕ) (few : n ≤ length kept) (s : State) (cells : List Float) (forbidden : List ℕ)
    (is : run s cells forbidden ≡ after (take n kept) cells₀ forbidden₀) where
  -- it went on
  pub taken_rested : (a b : Option (List ℕ)) → length kept ≤ n → Consumes a b (take n kept) → (cells' : List Float) (forbidden' : List ℕ) (r : Result (Result Given BadLine) Unreadable)
      → IfSome b (λ ys. RestedOf ys s cells forbidden cells' forbidden' r) → IfSome a (λ xs. TakenOf xs cells₀ forbidden₀ cells' forbidden' r)
  taken_rested None b full took cells' forbidden' r rest = tt
  taken_rested (Some xs) None full took cells' forbidden' r rest = absurd took
  taken_rested (Some xs) (Some ys) full took cells' forbidden' (Ok read) rest =
      let e : kept ++ rest.rest.bytes ≡ xs = ap (λ (l : List ℕ). kept ++ l) rest.all ∙ ap (λ (l : List ℕ). l ++ ys) (sym (take_all n kept full)) ∙ sym took in
      subst (λ (l : List ℕ). TakenOf l cells₀ forbidden₀ cells' forbidden' (Ok read)) e (says_longer kept cells₀ forbidden₀ short n few s cells forbidden is full rest.rest)
  taken_rested (Some xs) (Some ys) full took cells' forbidden' (Err e) rest = tt
