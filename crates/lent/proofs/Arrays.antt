-- A local array of plain data, as steps of a walk (`Walk.antt`): filled, lent whole as a `&mut [T]`, and back. It says nothing of any crate.
--     fills            _k = [x; n]: local k holds an array
--     address          _k = &mut _i. A count beside it makes it the slice as which local i is to be lent (`builds`)
--     lends-array p    local i, an array, is lent: what is kept stands first, and past the first p entries of what is held the slice and its token. The local is away
--     array_back p     there they stand, at whatever list: local i holds it again
-- An array is known by its list and its machine value, and both are variables: no rule computes what has n entries. Assumes `Logic`.
use mathlib.Core.Path.{◌≡◌, refl, sym, subst}
use Prim.Native.Nat.{ℕ, zero, suc}
use mathlib.Core.Option.{some}
use mathlib.Core.List.{List, [], ◌∷◌, ◌++◌}
use seplogic.Ra.Ura.{Ura}
use base.Fraction.{full_share}
use lib.ListN.{length, replicate, length-replicate}
use mir.Syntax.{Mutability, Lifetime, erased, Ty, ty_ref, ty_array, place, Opd as Operand, addr_of, repeat, Body, seq, assign, Local}
use mir.Val.{Val, vptr}
use base.Logic.{SProp, ent, sep, via}
use base.Fml.{GName, Fml, fsep, fat, flft, flent}
use prog.Wp.{Calls, Loops}
use types.Logic.{Logic, sem}
use types.Kit.{Item, mean, ⋆, runs, Seq, ‵, raw, ◌⊛◌, some as one_of_lem, given, later, ◌$◌, ◌∵◌, !, qed, by, move, drop, use1, use3, rewrite, split, pick, learn, fsplit, fjoin, fpick, fpack, await, updating, now as at_once, show, check, done}
use types.Run.{stop, addr, assigns}
use types.Part.{rep}
use types.Tokens.{lft_new, lft_end}
use types.SemTy.{cells as row_of, Arr}
use types.Share.{arr_parts}
use denote.Shadow.{shadow}
use denote.Laws.{Is, shows}
use denote.Steps.{facts, owned}
use denote.Memory.{cell_at, part_at, part_of, lone, mem, shares}
use denote.Slice.{Room}
use denote.Lend.{Held, lends_slice, slice_back}
use denote.Index.{row, whole_out, whole_in}
use denote.Array.{Array, array_val, each, Array-Lawful, Array-Makes}
use denote.ArrayMemory.{Single, Array-apart, Array-whole}
use Rattle.lent.proofs.Data.{Datum, Fit}
use Rattle.lent.proofs.Relend.{Lent}
use Rattle.lent.proofs.Held.{Unique, last_is, slice, says_list}
use Rattle.lent.proofs.Locals.{Slot, full, away, Places, env, type_at, place_at, slot_at, held_at, free_at, sets, holding, full_slot, cell, cells, takes_cell, gives_cell}
use Rattle.lent.proofs.Walk.{operand, finds, finds_free, reads, writes_at, then, Walk}
use Rattle.lent.proofs.Calls.{upto, past}
use Rattle.lent.proofs.Between.{rest, parted, Between, in_kept, out_kept}

-- the list l is an array of n, with the machine value a
abbrev pub IsArray : (D : Datum) → ℕ → List D.row.Denot → Val → Type 0
IsArray D n l a = Is (Array D.row n) l (a ∷ [])

-- one value n times is one
repeated : (D : Datum) (n : ℕ) (x : D.row.Denot) → Fit D x → IsArray D n (replicate n x) (array_val (replicate n (D.mach x)))
repeated D n x is = (replicate n (D.mach x), ((refl, length-replicate n x), go n))
  where
    go : (n : ℕ) → shadow (each D.row.Denot D.row.own_val (replicate n x) (replicate n (D.mach x)))
    go zero = tt
    go (suc n) = (is, go n)

-- the slice as which an array of n at the block b is lent, for the lifetime ν
abbrev pub whole : {X : Type 0} → ℕ → ℕ → ℕ → GName → List X → Unique X
whole n b ν γ l = record { κ = ν ∷ []; q = full_share; γ = γ; b = b; o = zero; m = n; list = l }

-- ---- in memory
module _ {M : Type 1} {𝓤 : Ura M} (𝓛 : Logic 𝓤) (D : Datum) (n b : ℕ) where
  open 𝓛 use {H, A}

  abbrev X : Type 0
  X = D.row.Denot

  abbrev pub Cell : Val → Fml
  Cell a = fat full_share (ty_array (lone D.row.mir) n) b zero a

  -- what is kept while it is lent
  abbrev pub Kept : ℕ → GName → Fml
  Kept ν γ = flent (ν ∷ []) (Held D.row n b zero γ)

  -- what is held once it is lent
  abbrev pub its_slice : ℕ → GName → List X → Item 𝓤
  its_slice ν γ l = ‵ (slice 𝓛 D.row (whole n b ν γ l))

  abbrev pub its_token : ℕ → Item 𝓤
  its_token ν = ‵ (flft (ν ∷ []) full_share)

  laid : Single D.row.mir → (l : List X) (a : Val) → IsArray D n l a → ent 𝓤 (sem 𝓛 (Cell a)) (sem 𝓛 (row_of (mem D.row) l b zero))
  unfolding part_of
  laid one l a is =
      let R = D.row in
      qed 𝓛 (‵ (Cell a) ∷ []) ∵ use1 𝓛 (‵ (cell_at full_share (Array R n).mir (a ∷ []) b zero)) (𝓛.laws.at_raw full_share (ty_array (lone R.mir) n) b zero a) $
      owned ! (Array R n) (Is (Array R n)) (Array-Makes 𝓛 R (D.makes 𝓛) n) l (a ∷ []) is $ move ! (1 ∷ 0 ∷ []) $ fjoin ! $
      fpack ! (List Val) (λ vs. fsep (cell_at full_share (Array R n).mir vs b zero) ((Array R n).own_val l vs)) (a ∷ []) $
      use1 𝓛 (‵ ((arr_parts (shares R) n).part full_share l b zero)) (Array-apart 𝓛 R full_share one n l b zero) $ fsplit ! $ drop ! $ use1 𝓛 (‵ (row_of (mem R) l b zero)) (whole_in 𝓛 R l b zero) $ done !

  abbrev Again : List X → Item 𝓤
  Again l = one_of_lem (λ (a : Val). given (IsArray D n l a) (‵ (Cell a)))

  gathered : (l : List X) → ent 𝓤 (sem 𝓛 ((Arr (mem D.row) n).own_at l b zero)) (mean 𝓛 (Again l))
  unfolding part_of
  gathered l =
      let R = D.row in
      qed 𝓛 (‵ ((Arr (mem R) n).own_at l b zero) ∷ []) ∵ fsplit ! $ move ! (1 ∷ []) $ use1 𝓛 (‵ (row R full_share l b zero)) (whole_out 𝓛 R l b zero) $ move ! (1 ∷ 0 ∷ []) $ fjoin ! $
      use1 𝓛 (‵ (part_at (Array R n) full_share l b zero)) (Array-whole 𝓛 R full_share n l b zero) $ fpick ! (λ vs. fsplit ! $ move ! (1 ∷ []) $ facts ! (Array R n) (Is (Array R n)) (shows 𝓛 (Array R n)) l vs (λ is.
      rewrite ! 0 (λ (us : List Val). ‵ (cell_at full_share (Array R n).mir us b zero)) is.1.0.0 refl $ use1 𝓛 (‵ (Cell (array_val is.0))) (𝓛.laws.raw_at full_share (ty_array (lone R.mir) n) b zero _) $
      show ! (λ (a : Val). mean 𝓛 (given (IsArray D n l a) (‵ (Cell a)))) (array_val is.0) $ check ! (subst (Is (Array R n) l) is.1.0.0 is) $ done !))

  -- what a loan gives: the slice, and what is kept
  abbrev Loan : ℕ → List X → Item 𝓤
  Loan ν l = one_of_lem (λ (γ : GName). ‵ (slice 𝓛 D.row (whole n b ν γ l)) ⊛ ‵ (Kept ν γ))

  lent : Single D.row.mir → Room D.row n → (l : List X) (a : Val) → IsArray D n l a → (ν : ℕ) → ent 𝓤 (sem 𝓛 (Cell a)) (H.⇛ (mean 𝓛 (Loan ν l)))
  lent one room l a is ν =
      let R = D.row in
      let e : length l ≡ n = is.1.0.1 in
      qed 𝓛 (‵ (Cell a) ∷ []) ∵ updating ! $ use1 𝓛 (‵ (row_of (mem R) l b zero)) (laid one l a is) $
      use1 𝓛 (later (one_of_lem (λ (γ : GName). ‵ (Lent R erased (ν ∷ []) b zero γ (length l) l) ⊛ ‵ (flent (ν ∷ []) (Held R (length l) b zero γ))))) (lends_slice 𝓛 R erased (ν ∷ []) l b zero (subst (Room R) (sym e) room)) $ await ! tt $ pick ! (λ γ. split ! $
      rewrite ! 0 (λ (m : ℕ). ‵ (Lent R erased (ν ∷ []) b zero γ m l)) e refl $ rewrite ! 1 (λ (m : ℕ). ‵ (flent (ν ∷ []) (Held R m b zero γ))) e refl $
      at_once ! $ show ! (λ (γ : GName). mean 𝓛 (‵ (slice 𝓛 R (whole n b ν γ l)) ⊛ ‵ (Kept ν γ))) γ $ done !)

  back : (ν : ℕ) (γ : GName) (l : List X) → ent 𝓤 (sep 𝓤 (A.lft (ν ∷ []) full_share) (sep 𝓤 (sem 𝓛 (Kept ν γ)) (sem 𝓛 (slice 𝓛 D.row (whole n b ν γ l))))) (H.⇛ (mean 𝓛 (Again l)))
  back ν γ l =
      let R = D.row in
      let s = whole n b ν γ l in
      qed 𝓛 (‵ (flft (ν ∷ []) full_share) ∷ ‵ (Kept ν γ) ∷ ‵ (slice 𝓛 R s) ∷ []) ∵ updating ! $ lft_end ! tt $ move ! (2 ∷ []) $ use1 𝓛 (‵ (last_is R (ν ∷ []) b zero γ l l)) (says_list 𝓛 R s l refl) $ fsplit ! $ move ! (1 ∷ []) $ drop ! $ fsplit ! $ move ! (2 ∷ 3 ∷ 0 ∷ []) $
      use3 𝓛 (later (‵ ((Arr (mem R) n).own_at l b zero))) (slice_back 𝓛 R (ν ∷ []) γ l n b zero) $ await ! tt $ use1 𝓛 (Again l) (gathered l) $ at_once ! $ move ! (1 ∷ []) $ drop ! $ done !

-- ---- in a walk
module _ {M : Type 1} {𝓤 : Ura M} {𝓛 : Logic 𝓤} {K : Type 0} {C : Calls 𝓤 𝓛.H} {Λ : Loops 𝓤 𝓛.H} {ls : List Local} {pl : Places ls} {Kf : Val → SProp 𝓤} {Δ : List (Item 𝓤)} {vs : List Slot} {ks : List Body} where
  open 𝓛 use {H}

  pub fills : K → (D : Datum) {k n : ℕ} {x : Operand} {d : D.row.Denot} {b : Body} → operand ls vs x ≡ some (D.mach d) → Fit D d → free_at ls vs k ≡ some (ty_array (lone D.row.mir) n)
      → ((l : List D.row.Denot) (a : Val) → IsArray D n l a → Walk K 𝓛 C Λ ls pl Kf Δ (holding k a vs) ks b) → Walk K 𝓛 C Λ ls pl Kf Δ vs ks (seq (assign (place k []) (repeat x n)) b)
  fills t D {k} {n} {x} {d} e fit f w =
      let l = replicate n d in
      let a = array_val (replicate n (D.mach d)) in
      let is : IsArray D n l a = repeated D n d fit in
      record { run = assigns t (rep t n (reads t 𝓛 ls pl Δ vs x (D.mach d) e)) (finds_free t 𝓛 ls pl Δ vs k f) (writes_at t 𝓛 ls pl Δ vs k a f ((Array-Lawful 𝓛 D.row (D.lawful 𝓛) n).typed l (a ∷ []) is).0) $ (w l a is).run }

  pub address : K → {i k : ℕ} {ρ σ : Ty} {κ : Lifetime} {μ : Mutability} {b : Body} → type_at ls i ≡ some ρ → free_at ls vs k ≡ some (ty_ref κ μ σ) → Walk K 𝓛 C Λ ls pl Kf Δ (holding k (vptr (place_at ls pl i) zero) vs) ks b
      → Walk K 𝓛 C Λ ls pl Kf Δ vs ks (seq (assign (place k []) (addr_of (place i []))) b)
  address t {i} {k} e f w = record { run = assigns t (addr t (finds t 𝓛 ls pl Δ vs i e (stop t))) (finds_free t 𝓛 ls pl Δ vs k f) (writes_at t 𝓛 ls pl Δ vs k (vptr (place_at ls pl i) zero) f (tt, tt)) $ w.run }

  pub lends_array : K → (D : Datum) (p i : ℕ) (l : List D.row.Denot) {n : ℕ} {a : Val} {c : Body} → type_at ls i ≡ some (ty_array (lone D.row.mir) n) → held_at vs i ≡ some a → IsArray D n l a → Single D.row.mir → Room D.row n
      → ((ν : ℕ) (γ : GName) → Walk K 𝓛 C Λ ls pl Kf (‵ (Kept 𝓛 D n (place_at ls pl i) ν γ) ∷ Between (upto p Δ) (past p [] Δ) (its_slice 𝓛 D n (place_at ls pl i) ν γ l) (its_token 𝓛 D n (place_at ls pl i) ν)) (sets i away vs) ks c) → Walk K 𝓛 C Λ ls pl Kf Δ vs ks c
  lends_array t D p i l {n} {a} {c} e h is one room w =
      let b = place_at ls pl i in
      let τ = ty_array (lone D.row.mir) n in
      let Cs = cells 𝓤 ls pl (sets i away vs) in
      let go : Seq K 𝓛 (‵ (cell τ b (slot_at vs i)) ∷ raw (⋆ 𝓛 (Δ ++ Cs)) ∷ []) (runs C Λ (env ls pl) c (then 𝓤 H C Λ (env ls pl) Kf ks)) =
      rewrite t 0 (λ (s : Slot). ‵ (cell τ b s)) (full_slot (slot_at vs i) h) refl $ lft_new t tt (λ ν. move t (1 ∷ []) $ use1 𝓛 (later (Loan 𝓛 D n b ν l)) (lent 𝓛 D n b one room l a is ν) $ await t tt $ pick t (λ γ. split t $
      -- [the slice; what is kept; the token; the rest]
      move t (3 ∷ []) $ rewrite t 0 (λ (Γ : List (Item 𝓤)). raw (⋆ 𝓛 (Γ ++ Cs))) (parted p Δ) refl $ move t (2 ∷ 1 ∷ 3 ∷ 0 ∷ []) $ in_kept t (upto p Δ) (past p [] Δ) Cs $ (w ν γ).run)) in
      record { run = by t (via 𝓤 _ (takes_cell 𝓛 Δ ls pl vs i e) go.prf) }

  pub array_back : K → (D : Datum) (p i : ℕ) (l : List D.row.Denot) {n ν : ℕ} {γ : GName} {c : Body} → type_at ls i ≡ some (ty_array (lone D.row.mir) n)
      → Δ ≡ ‵ (Kept 𝓛 D n (place_at ls pl i) ν γ) ∷ Between (upto p (rest Δ)) (past (suc (suc p)) [] (rest Δ)) (its_slice 𝓛 D n (place_at ls pl i) ν γ l) (its_token 𝓛 D n (place_at ls pl i) ν)
      → ((a : Val) → IsArray D n l a → Walk K 𝓛 C Λ ls pl Kf (upto p (rest Δ) ++ past (suc (suc p)) [] (rest Δ)) (holding i a vs) ks c) → Walk K 𝓛 C Λ ls pl Kf Δ vs ks c
  array_back t D p i l {n} {ν} {γ} {c} e has w =
      let b = place_at ls pl i in
      let X = upto p (rest Δ) in
      let Z = past (suc (suc p)) [] (rest Δ) in
      let Cs = cells 𝓤 ls pl vs in
      record {
        run = subst (λ (Γ : List (Item 𝓤)). Seq K 𝓛 (Γ ++ Cs) (runs C Λ (env ls pl) c (then 𝓤 H C Λ (env ls pl) Kf ks))) (sym has) (out_kept t X Z Cs $
            -- [what is kept; the slice; the token; the rest]
            move t (2 ∷ 0 ∷ 1 ∷ []) $ use3 𝓛 (later (Again 𝓛 D n b l)) (back 𝓛 D n b ν γ l) $ await t tt $ pick t (λ a. learn t (λ is. by t (via 𝓤 _ (gives_cell 𝓛 (X ++ Z) ls pl vs i (full a) e) (w a is).run.prf))));
      }
