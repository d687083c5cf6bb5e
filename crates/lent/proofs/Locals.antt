-- A function's locals, as a table: for each what it holds, if anything, or that it is lent. It says nothing of any crate.
--     Slot             a local is empty, is full of a value, or is away: lent, and nothing is owned of it
--     Places ls, env   where the locals lie, and the environment that this makes
--     cells ls at vs   what is owned of them: of each its cell, or room for it, unless it is away, and that it may be freed. A table that is shorter than the locals leaves the others empty
--     type_at, place_at, slot_at, held_at     of local i: its type, its place, its slot, what it holds.        free_at     its type, unless it is away.        sets, holding     the table once its slot is s, once it holds v
--     result_of         what local 0 holds, if no local is away
--     takes-cell, gives-cell     local i's cell is taken out of the table, and put there. Δ is what stands before the locals
--     allocates, enters, frees_all     the locals are allocated, the arguments stored, and the locals freed, whatever they hold
-- Assumes `Logic`.
use mathlib.Core.Path.{◌≡◌, sym, ap, subst}
use Prim.Native.Nat.{ℕ, zero, suc}
use mathlib.Core.Option.{Option, none, some}
use mathlib.Core.List.{List, [], ◌∷◌, ◌++◌}
use seplogic.Ra.Ura.{Ura}
use base.Fraction.{full_share}
use lib.Dec.{T}
use lib.ListN.{get_or}
use native.Mathlib.Omega.{arith}
use mir.Syntax.{Ty, Local, local, Home, Body}
use mir.Val.{Val, WT, has_ty}
use base.Logic.{SProp, ent, sep, emp, id⊢, via, comm∗, mono_r, snd∗, emp∗}
use base.Fml.{Fml, ftrue, fat, froom, fdies}
use prog.Wp.{Heap, Env, Calls, Loops, pass, release, no_local}
use types.Logic.{Logic}
use types.Kit.{Item, mean, ⋆, pop, push, ++⊢, ⊢++, nth, del, put, pull, fill, Goal, prop, runs, allocs, params', frees, at_ret, Seq, ‵, raw, ◌⊛◌, ◌$◌, ◌∵◌, !, qed, by, move, drop, use1, use2, split, join, frame, assume, done, check}
use types.Run.{alloc1, alloc0}

abbrev pub Places : List Local → Type 0
Places [] = Unit {0}
Places (local τ h ∷ ls) = ℕ × Places ls

abbrev pub env : (ls : List Local) → Places ls → List (Ty × ℕ)
env [] pl = []
env (local τ h ∷ ls) pl = (τ, pl.0) ∷ env ls pl.1

-- ---- the table
abbrev pub type_at : List Local → ℕ → Option Ty
type_at [] i = none
type_at (local τ h ∷ ls) zero = some τ
type_at (local τ h ∷ ls) (suc i) = type_at ls i

abbrev pub place_at : (ls : List Local) → Places ls → ℕ → ℕ
place_at [] pl i = zero
place_at (local τ h ∷ ls) pl zero = pl.0
place_at (local τ h ∷ ls) pl (suc i) = place_at ls pl.1 i

pub data Slot : Type 0 where
  empty : Slot
  full : Val → Slot
  away : Slot

abbrev inside : Slot → Option Val
inside empty = none
inside (full v) = some v
inside away = none

abbrev pub unless_away : {X : Type 0} → Slot → Option X → Option X
unless_away empty x = x
unless_away (full v) x = x
unless_away away x = none

abbrev pub slot_at : List Slot → ℕ → Slot
slot_at [] i = empty
slot_at (s ∷ vs) zero = s
slot_at (s ∷ vs) (suc i) = slot_at vs i

abbrev pub held_at : List Slot → ℕ → Option Val
held_at vs i = inside (slot_at vs i)

abbrev pub free_at : List Local → List Slot → ℕ → Option Ty
free_at ls vs i = unless_away (slot_at vs i) (type_at ls i)

abbrev pub sets : ℕ → Slot → List Slot → List Slot
sets zero s [] = s ∷ []
sets zero s (h ∷ vs) = s ∷ vs
sets (suc i) s [] = empty ∷ sets i s []
sets (suc i) s (h ∷ vs) = h ∷ sets i s vs

abbrev pub holding : ℕ → Val → List Slot → List Slot
holding i v = sets i (full v)

abbrev pub fulls : List Val → List Slot
fulls [] = []
fulls (v ∷ vs) = full v ∷ fulls vs

abbrev if_home : {X : Type 0} → List Slot → Option X → Option X
if_home [] x = x
if_home (s ∷ vs) x = unless_away s (if_home vs x)

abbrev pub result_of : List Slot → Option Val
result_of vs = if_home vs (held_at vs zero)

-- no local is away
abbrev pub AllHome : List Slot → Type 0
AllHome [] = Unit {0}
AllHome (empty ∷ vs) = AllHome vs
AllHome (full v ∷ vs) = AllHome vs
AllHome (away ∷ vs) = ⊥

-- each value is of its local's type
abbrev pub Typed : List Local → List Val → Type 0
Typed ls [] = Unit {0}
Typed [] (v ∷ vs) = ⊥
Typed (local τ h ∷ ls) (v ∷ vs) = (T (has_ty τ v) × WT v) × Typed ls vs

abbrev next : List Slot → List Slot
next [] = []
next (s ∷ vs) = vs

-- ---- what is found is one thing, and not nothing
pub some_one : {X : Type 0} {x y : X} → some x ≡ some y → x ≡ y
some_one e = cc

pub none_some : {X : Type 0} {x : X} → ◌≡◌ {A = Option X} none (some x) → ⊥
none_some e = let z : ◌≡◌ {A = ℕ} 0 1 = cc in omega arith

-- what a look into the table says
pub full_slot : (s : Slot) {v : Val} → inside s ≡ some v → s ≡ full v
full_slot empty e = absurd (none_some e)
full_slot (full u) e = ap full cc
full_slot away e = absurd (none_some e)

pub free_type : {X : Type 0} (s : Slot) (x : Option X) {y : X} → unless_away s x ≡ some y → x ≡ some y
free_type empty x e = e
free_type (full v) x e = e
free_type away x e = absurd (none_some e)

pub home : {X : Type 0} (vs : List Slot) (x : Option X) {y : X} → if_home vs x ≡ some y → AllHome vs × (x ≡ some y)
home [] x e = (tt, e)
home (empty ∷ vs) x e = home vs x e
home (full v ∷ vs) x e = home vs x e
home (away ∷ vs) x e = absurd (none_some e)

abbrev pub cell : Ty → ℕ → Slot → Fml
cell τ b empty = froom τ b zero
cell τ b (full v) = fat full_share τ b zero v
cell τ b away = ftrue

module _ {M : Type 1} (𝓤 : Ura M) where
  abbrev pub cells : (ls : List Local) → Places ls → List Slot → List (Item 𝓤)
  cells [] pl vs = []
  cells (local τ h ∷ ls) pl vs = ‵ (cell τ pl.0 (slot_at vs zero)) ∷ ‵ (fdies τ pl.0) ∷ cells ls pl.1 (next vs)

-- local i's type and place, in the environment
pub env_at : {M : Type 1} (𝓤 : Ura M) (H : Heap 𝓤) (ls : List Local) (pl : Places ls) (i : ℕ) {τ : Ty} → type_at ls i ≡ some τ → get_or (env ls pl) i (no_local 𝓤 H) ≡ (τ, place_at ls pl i)
env_at 𝓤 H [] pl i e = absurd (none_some e)
env_at 𝓤 H (local σ h ∷ ls) pl zero {τ} e = λ k. (some_one e k, pl.0)
env_at 𝓤 H (local σ h ∷ ls) pl (suc i) e = env_at 𝓤 H ls pl.1 i e

module _ {M : Type 1} {𝓤 : Ura M} (𝓛 : Logic 𝓤) where
  -- where local i's cell stands in a context, behind Δ
  abbrev pub pos : List (Item 𝓤) → ℕ → ℕ
  pos [] zero = zero
  pos [] (suc i) = suc (suc (pos [] i))
  pos (d ∷ Δ) i = suc (pos Δ i)

  pub nth_cell : (Δ : List (Item 𝓤)) (ls : List Local) (pl : Places ls) (vs : List Slot) (i : ℕ) {τ : Ty} → type_at ls i ≡ some τ
      → nth 𝓛 (pos Δ i) (Δ ++ cells 𝓤 ls pl vs) ≡ ‵ (cell τ (place_at ls pl i) (slot_at vs i))
  nth_cell (d ∷ Δ) ls pl vs i e = nth_cell Δ ls pl vs i e
  nth_cell [] [] pl vs i e = absurd (none_some e)
  nth_cell [] (local σ h ∷ ls) pl vs zero e = ap (λ (τ : Ty). ‵ (cell τ pl.0 (slot_at vs zero))) (some_one e)
  nth_cell [] (local σ h ∷ ls) pl [] (suc i) e = nth_cell [] ls pl.1 [] i e
  nth_cell [] (local σ h ∷ ls) pl (v ∷ vs) (suc i) e = nth_cell [] ls pl.1 vs i e

  pub put_cell : (Δ : List (Item 𝓤)) (ls : List Local) (pl : Places ls) (vs : List Slot) (i : ℕ) (s : Slot) {τ : Ty} → type_at ls i ≡ some τ
      → put 𝓛 (pos Δ i) (‵ (cell τ (place_at ls pl i) s)) (Δ ++ cells 𝓤 ls pl vs) ≡ Δ ++ cells 𝓤 ls pl (sets i s vs)
  put_cell (d ∷ Δ) ls pl vs i s e = ap (λ (Γ : List (Item 𝓤)). d ∷ Γ) (put_cell Δ ls pl vs i s e)
  put_cell [] [] pl vs i s e = absurd (none_some e)
  put_cell [] (local σ h ∷ ls) pl [] zero s e = ap (λ (τ : Ty). ‵ (cell τ pl.0 s) ∷ ‵ (fdies σ pl.0) ∷ cells 𝓤 ls pl.1 []) (sym (some_one e))
  put_cell [] (local σ h ∷ ls) pl (w ∷ vs) zero s e = ap (λ (τ : Ty). ‵ (cell τ pl.0 s) ∷ ‵ (fdies σ pl.0) ∷ cells 𝓤 ls pl.1 vs) (sym (some_one e))
  put_cell [] (local σ h ∷ ls) pl [] (suc i) s e = ap (λ (Γ : List (Item 𝓤)). ‵ (froom σ pl.0 zero) ∷ ‵ (fdies σ pl.0) ∷ Γ) (put_cell [] ls pl.1 [] i s e)
  put_cell [] (local σ h ∷ ls) pl (w ∷ vs) (suc i) s e = ap (λ (Γ : List (Item 𝓤)). ‵ (cell σ pl.0 w) ∷ ‵ (fdies σ pl.0) ∷ Γ) (put_cell [] ls pl.1 vs i s e)

module _ {M : Type 1} {𝓤 : Ura M} (𝓛 : Logic 𝓤) where
  -- two entries before Δ and not behind it
  open 𝓛 use {H}

  shift : (Δ Γ : List (Item 𝓤)) (i j : Item 𝓤) → ent 𝓤 (⋆ 𝓛 (Δ ++ (i ∷ j ∷ Γ))) (⋆ 𝓛 (i ∷ j ∷ (Δ ++ Γ)))
  shift Δ Γ i j =
      via 𝓤 _ (⊢++ 𝓛 Δ (i ∷ j ∷ Γ)) ∵ qed 𝓛 (raw (⋆ 𝓛 Δ) ∷ i ∷ raw (⋆ 𝓛 (j ∷ Γ)) ∷ []) ∵ move ! (1 ∷ []) $ frame ! $ move ! (1 ∷ []) $
      use1 𝓛 (j ⊛ raw (⋆ 𝓛 Γ)) (pop 𝓛 j Γ) $ split ! $ move ! (0 ∷ 2 ∷ 1 ∷ []) $ move ! (1 ∷ 2 ∷ []) $ use2 𝓛 (raw (⋆ 𝓛 (Δ ++ Γ))) (++⊢ 𝓛 Δ Γ) $ move ! (1 ∷ 0 ∷ []) $ by ! (push 𝓛 j (Δ ++ Γ))

  module _ {K : Type 0} where
    pub allocates : (ls : List Local) (Γ : List (Item 𝓤)) {Kt : Env 𝓤 H → Goal 𝓤 H} → K → ((pl : Places ls) → Seq K 𝓛 (cells 𝓤 ls pl [] ++ Γ) (Kt (env ls pl))) → Seq K 𝓛 Γ (allocs ls Kt)
    allocates [] Γ t k = alloc0 t $ k tt
    allocates (local τ h ∷ ls) Γ t k = alloc1 t (λ b. allocates ls (‵ (froom τ b zero) ∷ ‵ (fdies τ b) ∷ Γ) t (λ pl. by t (via 𝓤 _ (shift (cells 𝓤 ls pl []) Γ (‵ (froom τ b zero)) (‵ (fdies τ b))) (k (b, pl)).prf)))

  -- a local, and the others after it: it is put before them, and taken from there
  module _ (τ : Ty) (b : ℕ) (h : Slot) (Γ : List (Item 𝓤)) (R : SProp 𝓤) where
    abbrev Whole : SProp 𝓤
    Whole = sep 𝓤 (⋆ 𝓛 (‵ (cell τ b h) ∷ ‵ (fdies τ b) ∷ Γ)) R

    abbrev Local_and : SProp 𝓤
    Local_and = sep 𝓤 (mean 𝓛 (‵ (cell τ b h))) (sep 𝓤 (mean 𝓛 (‵ (fdies τ b))) R)

    put_in : ent 𝓤 (sep 𝓤 (⋆ 𝓛 Γ) Local_and) Whole
    put_in =
        qed 𝓛 (raw (⋆ 𝓛 Γ) ∷ ‵ (cell τ b h) ∷ ‵ (fdies τ b) ∷ raw R ∷ []) ∵ move ! (2 ∷ 0 ∷ []) $ use2 𝓛 (raw (⋆ 𝓛 (‵ (fdies τ b) ∷ Γ))) (push 𝓛 (‵ (fdies τ b)) Γ) $ move ! (1 ∷ 0 ∷ []) $
        use2 𝓛 (raw (⋆ 𝓛 (‵ (cell τ b h) ∷ ‵ (fdies τ b) ∷ Γ))) (id⊢ 𝓤 _) $ done !

    taken_out : ent 𝓤 Whole (sep 𝓤 (⋆ 𝓛 Γ) Local_and)
    taken_out =
        qed 𝓛 ((‵ (cell τ b h) ⊛ raw (⋆ 𝓛 (‵ (fdies τ b) ∷ Γ))) ∷ raw R ∷ []) ∵ split ! $ move ! (1 ∷ []) $ use1 𝓛 (‵ (fdies τ b) ⊛ raw (⋆ 𝓛 Γ)) (pop 𝓛 (‵ (fdies τ b)) Γ) $ split ! $ move ! (1 ∷ 2 ∷ 0 ∷ []) $ done !

  passes_in : (ls : List Local) (pl : Places ls) (vs : List Val) → Typed ls vs → (R P : SProp 𝓤) → ent 𝓤 (sep 𝓤 (⋆ 𝓛 (cells 𝓤 ls pl (fulls vs))) R) P → ent 𝓤 (sep 𝓤 (⋆ 𝓛 (cells 𝓤 ls pl [])) R) (pass 𝓤 H (env ls pl) vs P)
  passes_in ls pl [] typed R P k = k
  passes_in [] pl (v ∷ vs) typed R P k = absurd typed
  passes_in (local τ h ∷ ls) pl (v ∷ vs) typed R P k =
      via 𝓤 _ (taken_out τ pl.0 empty (cells 𝓤 ls pl.1 []) R) ∵ qed 𝓛 (raw (⋆ 𝓛 (cells 𝓤 ls pl.1 [])) ∷ ‵ (froom τ pl.0 zero) ∷ ‵ (fdies τ pl.0) ∷ raw R ∷ []) ∵
      check ! typed.0 $ move ! (1 ∷ []) $ frame ! $ assume ! (‵ (fat full_share τ pl.0 zero v)) $ move ! (1 ∷ 0 ∷ []) $
      by ! (passes_in ls pl.1 vs typed.1 (Local_and τ pl.0 (full v) (cells 𝓤 ls pl.1 (fulls vs)) R) P (via 𝓤 _ (put_in τ pl.0 (full v) (cells 𝓤 ls pl.1 (fulls vs)) R) k))

  frees_in : (ls : List Local) (pl : Places ls) (vs : List Slot) → AllHome vs → (R P : SProp 𝓤) → ent 𝓤 R P → ent 𝓤 (sep 𝓤 (⋆ 𝓛 (cells 𝓤 ls pl vs)) R) (release 𝓤 H (env ls pl) P)
  frees_in [] pl vs at R P k = qed 𝓛 (raw (emp 𝓤) ∷ raw R ∷ []) ∵ drop ! $ by ! k
  frees_in (local τ h ∷ ls) pl vs at R P k =
      via 𝓤 _ (taken_out τ pl.0 (slot_at vs zero) (cells 𝓤 ls pl.1 (next vs)) R) ∵ qed 𝓛 (raw (⋆ 𝓛 (cells 𝓤 ls pl.1 (next vs))) ∷ ‵ (cell τ pl.0 (slot_at vs zero)) ∷ ‵ (fdies τ pl.0) ∷ raw R ∷ []) ∵
      move ! (1 ∷ []) $ use1 𝓛 (‵ (froom τ pl.0 zero)) (room vs at) $ move ! (0 ∷ 2 ∷ []) $ join ! $ frame ! $ by ! (frees_in ls pl.1 (next vs) (others vs at) R P k)
    where
      room : (vs : List Slot) → AllHome vs → ent 𝓤 (mean 𝓛 (‵ (cell τ pl.0 (slot_at vs zero)))) (H.room τ pl.0 zero)
      room [] at = id⊢ 𝓤 _
      room (empty ∷ vs) at = id⊢ 𝓤 _
      room (full v ∷ vs) at = 𝓛.laws.at_room τ pl.0 zero v
      room (away ∷ vs) at = absurd at

      others : (vs : List Slot) → AllHome vs → AllHome (next vs)
      others [] at = tt
      others (empty ∷ vs) at = at
      others (full v ∷ vs) at = at
      others (away ∷ vs) at = absurd at

  module _ {K : Type 0} (Δ : List (Item 𝓤)) where
    -- the locals are allocated, and the arguments stored in those after the first
    pub enters : {τ : Ty} {h : Home} {ls : List Local} {vs : List Val} {b : Body} {C : Calls 𝓤 H} {Λ : Loops 𝓤 H} {Kf : Val → SProp 𝓤} → K → Typed ls vs
        → ((pl : Places (local τ h ∷ ls)) → Seq K 𝓛 (Δ ++ cells 𝓤 (local τ h ∷ ls) pl (empty ∷ fulls vs)) (runs C Λ (env (local τ h ∷ ls) pl) b (at_ret (env (local τ h ∷ ls) pl) Kf)))
        → Seq K 𝓛 Δ (allocs (local τ h ∷ ls) (λ E. params' E vs (runs C Λ E b (at_ret E Kf))))
    enters {τ} {h} {ls} {vs} t typed k = allocates (local τ h ∷ ls) Δ t (λ pl.
        let D : SProp 𝓤 = ⋆ 𝓛 Δ in
        let C' = cells 𝓤 ls pl.1 (fulls vs) in
        by t
        (via 𝓤 _ (⊢++ 𝓛 (cells 𝓤 (local τ h ∷ ls) pl []) Δ)
        (via 𝓤 _ (taken_out τ pl.0 empty (cells 𝓤 ls pl.1 []) D)
        (passes_in ls pl.1 vs typed (Local_and τ pl.0 empty C' D) _
        (via 𝓤 _ (put_in τ pl.0 empty C' D) (via 𝓤 _ (comm∗ 𝓤 (⋆ 𝓛 (cells 𝓤 (local τ h ∷ ls) pl (empty ∷ fulls vs))) D) (via 𝓤 _ (++⊢ 𝓛 Δ (cells 𝓤 (local τ h ∷ ls) pl (empty ∷ fulls vs))) (k pl).prf)))))))

    pub frees_all : (ls : List Local) (pl : Places ls) (vs : List Slot) → AllHome vs → {P : SProp 𝓤} → K → Seq K 𝓛 Δ (prop P) → Seq K 𝓛 (Δ ++ cells 𝓤 ls pl vs) (frees (env ls pl) (prop P))
    frees_all ls pl vs at {P} t s = by t (via 𝓤 _ (⊢++ 𝓛 Δ (cells 𝓤 ls pl vs)) (via 𝓤 _ (comm∗ 𝓤 (⋆ 𝓛 Δ) (⋆ 𝓛 (cells 𝓤 ls pl vs))) (frees_in ls pl vs at (⋆ 𝓛 Δ) P s.prf)))

  module _ (Δ : List (Item 𝓤)) where
    -- local i's cell out of the table, and into it
    pub takes_cell : (ls : List Local) (pl : Places ls) (vs : List Slot) (i : ℕ) {τ : Ty} → type_at ls i ≡ some τ
        → ent 𝓤 (⋆ 𝓛 (Δ ++ cells 𝓤 ls pl vs)) (sep 𝓤 (mean 𝓛 (‵ (cell τ (place_at ls pl i) (slot_at vs i)))) (⋆ 𝓛 (Δ ++ cells 𝓤 ls pl (sets i away vs))))
    takes_cell ls pl vs i {τ} e =
        let n = pos 𝓛 Δ i in
        let Γ = Δ ++ cells 𝓤 ls pl vs in
        let c = cell τ (place_at ls pl i) (slot_at vs i) in
        via 𝓤 _ (subst (λ (j : Item 𝓤). ent 𝓤 (⋆ 𝓛 Γ) (sep 𝓤 (mean 𝓛 j) (⋆ 𝓛 (del 𝓛 n Γ)))) (nth_cell 𝓛 Δ ls pl vs i e) (pull 𝓛 n Γ))
        (mono_r 𝓤 (mean 𝓛 (‵ c)) (via 𝓤 _ (emp∗ 𝓤 (⋆ 𝓛 (del 𝓛 n Γ)))
        (subst (λ (Γ' : List (Item 𝓤)). ent 𝓤 (sep 𝓤 (emp 𝓤) (⋆ 𝓛 (del 𝓛 n Γ))) (⋆ 𝓛 Γ')) (put_cell 𝓛 Δ ls pl vs i away e) (fill 𝓛 n (‵ ftrue) Γ))))

    pub gives_cell : (ls : List Local) (pl : Places ls) (vs : List Slot) (i : ℕ) (s : Slot) {τ : Ty} → type_at ls i ≡ some τ
        → ent 𝓤 (sep 𝓤 (mean 𝓛 (‵ (cell τ (place_at ls pl i) s))) (⋆ 𝓛 (Δ ++ cells 𝓤 ls pl vs))) (⋆ 𝓛 (Δ ++ cells 𝓤 ls pl (sets i s vs)))
    gives_cell ls pl vs i s {τ} e =
        let n = pos 𝓛 Δ i in
        let Γ = Δ ++ cells 𝓤 ls pl vs in
        let c = cell τ (place_at ls pl i) s in
        via 𝓤 _ (mono_r 𝓤 (mean 𝓛 (‵ c)) (via 𝓤 _ (pull 𝓛 n Γ) (snd∗ 𝓤 (mean 𝓛 (nth 𝓛 n Γ)) (⋆ 𝓛 (del 𝓛 n Γ)))))
        (subst (λ (Γ' : List (Item 𝓤)). ent 𝓤 (sep 𝓤 (mean 𝓛 (‵ c)) (⋆ 𝓛 (del 𝓛 n Γ))) (⋆ 𝓛 Γ')) (put_cell 𝓛 Δ ls pl vs i s e) (fill 𝓛 n (‵ c) Γ))
