-- What a function has of its parameters, and what of it a call is handed and hands back. It says nothing of any crate.
-- A parameter is a `&mut [T]` (`unique`), a `&[T]` with the laws of a `&` to a T, by which it is had twice (`shared`), or plain data with its machine value (`plain`). Each slice is at a lifetime of its own, numbered in the parameters' order.
--     Args ks          what is passed.        value, values     its machine values.        Goods     what is known of it
--     holds ks xs      what is owned of it: for each slice the slice, and the token of its lifetime
--     Names ks         the lifetime, the share of its token and the ghost name at which each `&mut [T]` stands: the holder's own (`own`), or new ones for a call (`fresh`)
--     entry            what a function's types own at entry, at such names.        opens     from it to `holds`.        spends     at exit, from `holds` of what is changed to the tokens and what says the last lists
--     lends            holds  ⊢ ⇛ ∃ new names. entry ∗ kept
--     Lasts, lasts     the last lists, and what says them.        changed     what was passed, at the last lists.        Long     they are as long
--     returns          the tokens ∗ lasts ∗ kept  ⊢ ⇛ ⌜Long⌝ ∗ holds of what is changed
-- Assumes `Logic`.
use mathlib.Core.Path.{◌≡◌, refl, sym, ap}
use Prim.Native.Nat.{ℕ, zero, suc}
use mathlib.Core.List.{List, [], ◌∷◌, ◌++◌}
use native.Mathlib.Omega.{arith}
use lib.ListN.{length}
use seplogic.Ra.Ura.{Ura}
use base.Fraction.{full_share}
use mir.Syntax.{named, erased}
use mir.Val.{Val}
use base.Logic.{SProp, ent, sep, ex, emp}
use base.Fml.{Lft, Share, GName, Fml, ftrue, fsep, feq, fbor, flft, fres}
use types.Logic.{Logic, sem}
use contract.Lifetimes.{Lfts, Shares, toks}
use contract.Monad.{fact, fact_i, top}
use types.Kit.{Item, mean, ⋆, pop, push, ‵, raw, ◌⊛◌, some, later, ◌$◌, ◌∵◌, !, qed, by, move, keep, drop, use0, use1, use3, split, join, pick, fsplit, fjoin, feq_l, feq_i, rewrite, frame, await, updating, now as at_once, show, done}
use types.Tokens.{lft_new, lft_end}
use denote.RattleType.{RattleType, RowLaws, Denots, Valss, flat, owns}
use denote.Exit.{yes, Exit, unchanged, leaves, Last, left}
use denote.Bor.{Bor}
use denote.Laws.{Is, Ises, Are, Spells, valss as spell-all, Tellss, Lawfuls}
use denote.Steps.{heard, nothing}
use denote.Slice.{shr_slice_vals, mut_slice_vals, mut_slice_Tells, shr_slice_Tells, mut_slice_Lawful, shr_slice_Lawful, slice_val, MutSlice, ShrSlice, Room, finally, heres, coded_holeys, res-finally, shr_slice_copy}
use denote.Lend.{Held as Borrowed}
use Rattle.lent.proofs.Data.{Datum}
use Rattle.lent.proofs.Again.{LentAgain}
use Rattle.lent.proofs.Relend.{Lent, lends_on, comes_on}

pub data Kind : Type 2 where
  unique : RattleType → Kind
  shared : (R : RattleType) → RowLaws R → Kind
  plain : Datum → Kind

-- a `&mut [T]`: its lifetime, the token's share, its ghost name, its pointer, its count, and its list
pub record Unique (X : Type 0) : Type 0 where
  pub κ : Lft
  pub q : Share
  pub γ : GName
  pub b : ℕ
  pub o : ℕ
  pub m : ℕ
  pub list : List X

pub record Shared (X : Type 0) : Type 0 where
  pub κ : Lft
  pub q : Share
  pub x : Bor (List X)

abbrev pub Arg : Kind → Type 0
Arg (unique R) = Unique R.Denot
Arg (shared R L) = Shared R.Denot
Arg (plain D) = D.row.Denot

abbrev pub Args : List Kind → Type 0
Args [] = Unit {0}
Args (k ∷ ks) = Arg k × Args ks

abbrev pub value : (k : Kind) → Arg k → Val
value (unique R) a = slice_val (a.b, a.o) a.m
value (shared R L) a = slice_val a.x.ref_ptr (length a.x.now)
value (plain D) a = D.mach a

abbrev pub values : (ks : List Kind) → Args ks → List Val
values [] xs = []
values (k ∷ ks) xs = value k xs.0 ∷ values ks xs.1

-- ---- a signature of these parameters, at its lifetimes
abbrev pub lives : List Kind → ℕ
lives [] = zero
lives (unique R ∷ ks) = suc (lives ks)
lives (shared R L ∷ ks) = suc (lives ks)
lives (plain D ∷ ks) = lives ks

abbrev pub rows : ℕ → (ks : List Kind) → Lfts (lives ks) → List RattleType
rows j [] κs = []
rows j (unique R ∷ ks) κs = MutSlice (named j) κs.0 R ∷ rows (suc j) ks κs.1
rows j (shared R L ∷ ks) κs = ShrSlice (named j) κs.0 R ∷ rows (suc j) ks κs.1
rows j (plain D ∷ ks) κs = D.row ∷ rows j ks κs

abbrev pub Names : List Kind → Type 0
Names [] = Unit {0}
Names (unique R ∷ ks) = Lft × (Share × (GName × Names ks))
Names (shared R L ∷ ks) = Names ks
Names (plain D ∷ ks) = Names ks

abbrev pub own : (ks : List Kind) → Args ks → Names ks
own [] xs = tt
own (unique R ∷ ks) xs = (xs.0.κ, (xs.0.q, (xs.0.γ, own ks xs.1)))
own (shared R L ∷ ks) xs = own ks xs.1
own (plain D ∷ ks) xs = own ks xs.1

-- a lifetime's atom and a name for each `&mut [T]`
abbrev pub Fresh : List Kind → Type 0
Fresh [] = Unit {0}
Fresh (unique R ∷ ks) = ℕ × (GName × Fresh ks)
Fresh (shared R L ∷ ks) = Fresh ks
Fresh (plain D ∷ ks) = Fresh ks

abbrev pub fresh : (ks : List Kind) → Fresh ks → Names ks
fresh [] fr = tt
fresh (unique R ∷ ks) fr = (fr.0 ∷ [], (full_share, (fr.1.0, fresh ks fr.1.1)))
fresh (shared R L ∷ ks) fr = fresh ks fr
fresh (plain D ∷ ks) fr = fresh ks fr

abbrev pub lfts : (ks : List Kind) → Args ks → Names ks → Lfts (lives ks)
lfts [] xs ns = tt
lfts (unique R ∷ ks) xs ns = (ns.0, lfts ks xs.1 ns.1.1.1)
lfts (shared R L ∷ ks) xs ns = (xs.0.κ, lfts ks xs.1 ns)
lfts (plain D ∷ ks) xs ns = lfts ks xs.1 ns

abbrev pub shares : (ks : List Kind) → Args ks → Names ks → Shares (lives ks)
shares [] xs ns = tt
shares (unique R ∷ ks) xs ns = (ns.1.0, shares ks xs.1 ns.1.1.1)
shares (shared R L ∷ ks) xs ns = (xs.0.q, shares ks xs.1 ns)
shares (plain D ∷ ks) xs ns = shares ks xs.1 ns

abbrev pub denots : (j : ℕ) (ks : List Kind) (xs : Args ks) (ns : Names ks) → Denots (rows j ks (lfts ks xs ns))
denots j [] xs ns = tt
denots j (unique R ∷ ks) xs ns = (record { ref_ptr = (xs.0.b, xs.0.o); ghost_name = ns.1.1.0; now = xs.0.list }, denots (suc j) ks xs.1 ns.1.1.1)
denots j (shared R L ∷ ks) xs ns = (xs.0.x, denots (suc j) ks xs.1 ns)
denots j (plain D ∷ ks) xs ns = (xs.0, denots j ks xs.1 ns)

abbrev pub valss : (j : ℕ) (ks : List Kind) (xs : Args ks) (ns : Names ks) → Valss (rows j ks (lfts ks xs ns))
valss j [] xs ns = tt
valss j (unique R ∷ ks) xs ns = (value (unique R) xs.0 ∷ [], valss (suc j) ks xs.1 ns.1.1.1)
valss j (shared R L ∷ ks) xs ns = (value (shared R L) xs.0 ∷ [], valss (suc j) ks xs.1 ns)
valss j (plain D ∷ ks) xs ns = (D.mach xs.0 ∷ [], valss j ks xs.1 ns)

-- ---- what a function is given, and the machine values that it can only have
abbrev pub given : (j : ℕ) (ks : List Kind) (κs : Lfts (lives ks)) → Shares (lives ks) → Denots (rows j ks κs) → Args ks
given j [] κs qs a = tt
given j (unique R ∷ ks) κs qs a =
    (record { κ = κs.0; q = qs.0; γ = a.0.ghost_name; b = a.0.ref_ptr.0; o = a.0.ref_ptr.1; m = length a.0.now; list = a.0.now }, given (suc j) ks κs.1 qs.1 a.1)
given j (shared R L ∷ ks) κs qs a = (record { κ = κs.0; q = qs.0; x = a.0 }, given (suc j) ks κs.1 qs.1 a.1)
given j (plain D ∷ ks) κs qs a = (a.0, given j ks κs qs a.1)

abbrev pub spellings : (j : ℕ) (ks : List Kind) (κs : Lfts (lives ks)) → Spells (rows j ks κs)
spellings j [] κs = tt
spellings j (unique R ∷ ks) κs = (mut_slice_vals, spellings (suc j) ks κs.1)
spellings j (shared R L ∷ ks) κs = (shr_slice_vals, spellings (suc j) ks κs.1)
spellings j (plain D ∷ ks) κs = ((λ x. D.mach x ∷ []), spellings j ks κs)

abbrev pub spelled : (j : ℕ) (ks : List Kind) (κs : Lfts (lives ks)) → Denots (rows j ks κs) → Valss (rows j ks κs)
spelled j ks κs a = spell-all (rows j ks κs) (spellings j ks κs) a

pub told : (j : ℕ) (ks : List Kind) (κs : Lfts (lives ks)) → Tellss (rows j ks κs) (Ises (rows j ks κs)) (spellings j ks κs)
told j [] κs = tt
told j (unique R ∷ ks) κs = (mut_slice_Tells (named j) κs.0 R, told (suc j) ks κs.1)
told j (shared R L ∷ ks) κs = (shr_slice_Tells (named j) κs.0 R, told (suc j) ks κs.1)
told j (plain D ∷ ks) κs = (D.tells, told j ks κs)

pub flat_values : (j : ℕ) (ks : List Kind) (κs : Lfts (lives ks)) (qs : Shares (lives ks)) (a : Denots (rows j ks κs)) → flat (rows j ks κs) (spelled j ks κs a) ≡ values ks (given j ks κs qs a)
flat_values j [] κs qs a = refl
flat_values j (unique R ∷ ks) κs qs a = ap (λ (l : List Val). mut_slice_vals a.0 ++ l) (flat_values (suc j) ks κs.1 qs.1 a.1)
flat_values j (shared R L ∷ ks) κs qs a = ap (λ (l : List Val). shr_slice_vals a.0 ++ l) (flat_values (suc j) ks κs.1 qs.1 a.1)
flat_values j (plain D ∷ ks) κs qs a = ap (λ (l : List Val). D.mach a.0 ∷ l) (flat_values j ks κs qs a.1)

-- ---- the last lists
abbrev pub Lasts : (ks : List Kind) → Args ks → Type 0
Lasts [] xs = Unit {0}
Lasts (unique R ∷ ks) xs = List R.Denot × Lasts ks xs.1
Lasts (shared R L ∷ ks) xs = Unit {0} × Lasts ks xs.1
Lasts (plain D ∷ ks) xs = Last (D.row.exit yes) xs.0 × Lasts ks xs.1

-- the list under the name γ ends as l, which is as long as it was, and its borrow is handed back, closed
abbrev pub last_is : (R : RattleType) → Lft → ℕ → ℕ → GName → List R.Denot → List R.Denot → Fml
last_is R κ b o γ was l = fsep (fsep (finally R γ l) (feq ℕ (length l) (length was))) (fbor κ (Borrowed R (length was) b o γ))

abbrev pub lasts : (ks : List Kind) (xs : Args ks) → Names ks → Lasts ks xs → Fml
lasts [] xs ns ws = ftrue
lasts (unique R ∷ ks) xs ns ws = fsep (last_is R ns.0 xs.0.b xs.0.o ns.1.1.0 xs.0.list ws.0) (lasts ks xs.1 ns.1.1.1 ws.1)
lasts (shared R L ∷ ks) xs ns ws = fsep ftrue (lasts ks xs.1 ns ws.1)
lasts (plain D ∷ ks) xs ns ws = fsep (left (D.row.exit yes) xs.0 ws.0) (lasts ks xs.1 ns ws.1)

abbrev pub at_list : {X : Type 0} → Unique X → List X → Unique X
at_list a l = record { κ = a.κ; q = a.q; γ = a.γ; b = a.b; o = a.o; m = a.m; list = l }

abbrev pub changed : (ks : List Kind) (xs : Args ks) → Lasts ks xs → Args ks
changed [] xs ws = tt
changed (unique R ∷ ks) xs ws = (at_list xs.0 ws.0, changed ks xs.1 ws.1)
changed (shared R L ∷ ks) xs ws = (xs.0, changed ks xs.1 ws.1)
changed (plain D ∷ ks) xs ws = (xs.0, changed ks xs.1 ws.1)

abbrev pub Long : (ks : List Kind) (xs : Args ks) → Lasts ks xs → Type 0
Long [] xs ws = Unit {0}
Long (unique R ∷ ks) xs ws = (length ws.0 ≡ length xs.0.list) × Long ks xs.1 ws.1
Long (shared R L ∷ ks) xs ws = Long ks xs.1 ws.1
Long (plain D ∷ ks) xs ws = Long ks xs.1 ws.1

-- nothing is said of plain data
silent : {X : Type 0} (e : Exit X) → e ≡ unchanged → (x : X) (w : Last e x) → left e x w ≡ ftrue
silent unchanged h x w = refl
silent (leaves L l S s r) h x w = absurd (let z : ◌≡◌ {A = ℕ} 0 1 = cc in omega arith)

-- ---- what a function asks of what is passed, and says of the result and the last lists
pub record Deal : Type 2 where
  pub ks : List Kind
  pub res : Datum
  pub asks : Args ks → Type 0
  pub says : (xs : Args ks) → res.row.Denot → Lasts ks xs → Type 0

-- what its triple binds outside, at the names ns
abbrev pub Outside : List Kind → Type 0
Outside ks = (κs : Lfts (lives ks)) × Shares (lives ks) × Unit {0} × (a : Denots (rows 0 ks κs)) × Valss (rows 0 ks κs)

abbrev pub outside : (ks : List Kind) (xs : Args ks) → Names ks → Outside ks
outside ks xs ns = (lfts ks xs ns, shares ks xs ns, tt, denots 0 ks xs ns, valss 0 ks xs ns)

-- for a call, at new names
abbrev pub anew : (D : Deal) (xs : Args D.ks) → Fresh D.ks → Outside D.ks × Unit {0}
anew D xs fr = (outside D.ks xs (fresh D.ks fr), tt)

-- what is passed, of it
abbrev pub handed : (ks : List Kind) → Outside ks → Args ks
handed ks y = given 0 ks y.0 y.1 y.3

-- ---- what is known of what is passed: a slice has room, and its count is its length; plain data fits its type
abbrev pub GoodShared : (R : RattleType) → Shared R.Denot → Type 0
GoodShared R a = Room R (length a.x.now)

abbrev pub Good : (k : Kind) → Arg k → Type 0
Good (unique R) a = (length a.list ≡ a.m) × Room R a.m
Good (shared R L) a = GoodShared R a
Good (plain D) a = Is D.row a (D.mach a ∷ [])

abbrev pub Goods : (ks : List Kind) → Args ks → Type 0
Goods [] xs = Unit {0}
Goods (k ∷ ks) xs = Good k xs.0 × Goods ks xs.1

pub all_good : (j : ℕ) (ks : List Kind) (κs : Lfts (lives ks)) (qs : Shares (lives ks)) (a : Denots (rows j ks κs)) → Are (rows j ks κs) (Ises (rows j ks κs)) a (spelled j ks κs a) → Goods ks (given j ks κs qs a)
all_good j [] κs qs a are = tt
all_good j (unique R ∷ ks) κs qs a are = ((refl, are.0.0.1), all_good (suc j) ks κs.1 qs.1 a.1 are.1)
all_good j (shared R L ∷ ks) κs qs a are = (are.0.0.1, all_good (suc j) ks κs.1 qs.1 a.1 are.1)
all_good j (plain D ∷ ks) κs qs a are = (are.0, all_good j ks κs qs a.1 are.1)

module _ {M : Type 1} {𝓤 : Ura M} (𝓛 : Logic 𝓤) where
  open 𝓛 use {H}

  pub all_lawful : (j : ℕ) (ks : List Kind) (κs : Lfts (lives ks)) → Lawfuls 𝓛 (rows j ks κs)
  all_lawful j [] κs = tt
  all_lawful j (unique R ∷ ks) κs = (mut_slice_Lawful 𝓛 (named j) κs.0 R, all_lawful (suc j) ks κs.1)
  all_lawful j (shared R L ∷ ks) κs = (shr_slice_Lawful 𝓛 (named j) κs.0 R, all_lawful (suc j) ks κs.1)
  all_lawful j (plain D ∷ ks) κs = (D.lawful 𝓛, all_lawful j ks κs)

  -- ---- what is owned
  abbrev pub slice : (R : RattleType) → Unique R.Denot → Fml
  slice R a = Lent R erased a.κ a.b a.o a.γ a.m a.list

  abbrev pub common : (R : RattleType) → Shared R.Denot → Fml
  common R a = (ShrSlice erased a.κ R).own_val a.x (slice_val a.x.ref_ptr (length a.x.now) ∷ [])

  abbrev pub token : Lft → Share → Item 𝓤
  token κ q = ‵ (flft κ q)

  abbrev pub holds : (ks : List Kind) → Args ks → List (Item 𝓤)
  holds [] xs = []
  holds (unique R ∷ ks) xs = ‵ (slice R xs.0) ∷ token xs.0.κ xs.0.q ∷ holds ks xs.1
  holds (shared R L ∷ ks) xs = ‵ (common R xs.0) ∷ token xs.0.κ xs.0.q ∷ holds ks xs.1
  holds (plain D ∷ ks) xs = holds ks xs.1

  -- what is kept of a `&mut [T]` that is lent for the lifetime ν under the name δ
  abbrev again : (R : RattleType) → Unique R.Denot → ℕ → GName → Item 𝓤
  again R a ν δ = ‵ (LentAgain R a.κ (ν ∷ []) a.q a.γ a.b a.o δ a.list)

  abbrev pub kept : (ks : List Kind) → Args ks → Fresh ks → List (Item 𝓤)
  kept [] xs fr = []
  kept (unique R ∷ ks) xs fr = again R xs.0 fr.0 fr.1.0 ∷ kept ks xs.1 fr.1.1
  kept (shared R L ∷ ks) xs fr = ‵ (common R xs.0) ∷ kept ks xs.1 fr
  kept (plain D ∷ ks) xs fr = kept ks xs.1 fr

  abbrev pub tokens : (ks : List Kind) (xs : Args ks) → Names ks → SProp 𝓤
  tokens ks xs ns = toks 𝓛 (lives ks) (lfts ks xs ns) (shares ks xs ns)

  abbrev pub owned : (j : ℕ) (ks : List Kind) (xs : Args ks) → Names ks → Fml
  owned j ks xs ns = owns (rows j ks (lfts ks xs ns)) (denots j ks xs ns) (valss j ks xs ns)

  abbrev pub entry : (j : ℕ) (ks : List Kind) (xs : Args ks) → Names ks → Item 𝓤
  entry j ks xs ns = raw (tokens ks xs ns) ⊛ ‵ (owned j ks xs ns)

  abbrev pub ready : (j : ℕ) (ks : List Kind) (xs : Args ks) → Fresh ks → Item 𝓤
  ready j ks xs fr = entry j ks xs (fresh ks fr) ⊛ raw (⋆ 𝓛 (kept ks xs fr))

  module _ where
    -- a slice P and its token t, before the rest: T and O are the other tokens and what else is owned
    in_one : (P t O : Fml) (T : SProp 𝓤) (Γ : List (Item 𝓤)) → ent 𝓤 (sep 𝓤 T (sem 𝓛 O)) (⋆ 𝓛 Γ) → ent 𝓤 (sep 𝓤 (sep 𝓤 (sem 𝓛 t) T) (sem 𝓛 (fsep P O))) (⋆ 𝓛 (‵ P ∷ ‵ t ∷ Γ))
    in_one P t O T Γ h =
        qed 𝓛 ((‵ t ⊛ raw T) ∷ ‵ (fsep P O) ∷ []) ∵ split ! $ move ! (2 ∷ []) $ fsplit ! $ frame ! $ move ! (2 ∷ 0 ∷ []) $ join ! $ use1 𝓛 (raw (⋆ 𝓛 Γ)) h $ move ! (1 ∷ 0 ∷ []) $ by ! (push 𝓛 (‵ t) Γ)

    pub opens : (j : ℕ) (ks : List Kind) (κs : Lfts (lives ks)) (qs : Shares (lives ks)) (a : Denots (rows j ks κs)) → ent 𝓤 (sep 𝓤 (toks 𝓛 (lives ks) κs qs) (sem 𝓛 (owns (rows j ks κs) a (spelled j ks κs a)))) (⋆ 𝓛 (holds ks (given j ks κs qs a)))
    opens j [] κs qs a = qed 𝓛 (‵ ftrue ∷ ‵ ftrue ∷ []) ∵ keep ! (0 ∷ []) $ done !
    opens j (unique R ∷ ks) κs qs a =
        in_one (slice R (given j (unique R ∷ ks) κs qs a).0) (flft κs.0 qs.0) (owns (rows (suc j) ks κs.1) a.1 (spelled (suc j) ks κs.1 a.1)) (toks 𝓛 (lives ks) κs.1 qs.1) (holds ks (given (suc j) ks κs.1 qs.1 a.1)) (opens (suc j) ks κs.1 qs.1 a.1)
    opens j (shared R L ∷ ks) κs qs a =
        in_one (common R (given j (shared R L ∷ ks) κs qs a).0) (flft κs.0 qs.0) (owns (rows (suc j) ks κs.1) a.1 (spelled (suc j) ks κs.1 a.1)) (toks 𝓛 (lives ks) κs.1 qs.1) (holds ks (given (suc j) ks κs.1 qs.1 a.1)) (opens (suc j) ks κs.1 qs.1 a.1)
    opens j (plain D ∷ ks) κs qs a =
        qed 𝓛 (raw (toks 𝓛 (lives ks) κs qs) ∷ ‵ (owns (rows j (plain D ∷ ks) κs) a (spelled j (plain D ∷ ks) κs a)) ∷ []) ∵ move ! (1 ∷ []) $ fsplit ! $ drop ! $ move ! (1 ∷ 0 ∷ []) $ by ! (opens j ks κs qs a.1)

    -- at a function's exit: what is held gives its tokens back, and says the last lists
    abbrev pub spent : (ks : List Kind) (xs : Args ks) → Lasts ks xs → Item 𝓤
    spent ks xs ws = raw (tokens ks xs (own ks xs)) ⊛ ‵ (lasts ks xs (own ks xs) ws)

    pub says_list : (R : RattleType) (a : Unique R.Denot) (l : List R.Denot) → length l ≡ length a.list → ent 𝓤 (sem 𝓛 (slice R (at_list a l))) (sem 𝓛 (last_is R a.κ a.b a.o a.γ a.list l))
    says_list R a l long =
        qed 𝓛 (‵ (slice R (at_list a l)) ∷ []) ∵ fsplit ! $ drop ! $ fsplit ! $ use1 𝓛 (‵ (fres a.γ ((coded_holeys R).code (heres R l)))) (𝓛.names.obs-res a.γ _) $
        use1 𝓛 (‵ (finally R a.γ l)) (res-finally 𝓛 erased a.κ R a.γ l) $ rewrite ! 1 (λ (n : ℕ). ‵ (fbor a.κ (Borrowed R n a.b a.o a.γ))) long refl $ feq_i ! ℕ (length l) (length a.list) long $ move ! (1 ∷ 0 ∷ []) $ fjoin ! $ fjoin ! $ done !

    -- P and its token t before the rest: Q is said of P, and T and O are the other tokens and what else is said
    spend_one : (P Q t O : Fml) (T : SProp 𝓤) (Γ : List (Item 𝓤)) → ent 𝓤 (sem 𝓛 P) (sem 𝓛 Q) → ent 𝓤 (⋆ 𝓛 Γ) (sep 𝓤 T (sem 𝓛 O))
        → ent 𝓤 (⋆ 𝓛 (‵ P ∷ ‵ t ∷ Γ)) (sep 𝓤 (sep 𝓤 (sem 𝓛 t) T) (sem 𝓛 (fsep Q O)))
    spend_one P Q t O T Γ g h =
        qed 𝓛 (‵ P ∷ raw (⋆ 𝓛 (‵ t ∷ Γ)) ∷ []) ∵ use1 𝓛 (‵ Q) g $ move ! (1 ∷ []) $ use1 𝓛 (‵ t ⊛ raw (⋆ 𝓛 Γ)) (pop 𝓛 (‵ t) Γ) $ split ! $ move ! (1 ∷ []) $ use1 𝓛 (raw T ⊛ ‵ O) h $ split ! $ move ! (2 ∷ 0 ∷ []) $ join ! $ frame ! $
        move ! (1 ∷ 0 ∷ []) $ fjoin ! $ done !

    pub spends : (ks : List Kind) (xs : Args ks) (ws : Lasts ks xs) → Long ks xs ws → ent 𝓤 (⋆ 𝓛 (holds ks (changed ks xs ws))) (mean 𝓛 (spent ks xs ws))
    spends [] xs ws long = qed 𝓛 [] ∵ nothing ! $ nothing ! $ done !
    spends (unique R ∷ ks) xs ws long =
        spend_one (slice R (at_list xs.0 ws.0)) (last_is R xs.0.κ xs.0.b xs.0.o xs.0.γ xs.0.list ws.0) (flft xs.0.κ xs.0.q) (lasts ks xs.1 (own ks xs.1) ws.1) (tokens ks xs.1 (own ks xs.1)) (holds ks (changed ks xs.1 ws.1)) (says_list R xs.0 ws.0 long.0) (spends ks xs.1 ws.1 long.1)
    spends (shared R L ∷ ks) xs ws long =
        spend_one (common R xs.0) ftrue (flft xs.0.κ xs.0.q) (lasts ks xs.1 (own ks xs.1) ws.1) (tokens ks xs.1 (own ks xs.1)) (holds ks (changed ks xs.1 ws.1)) (top 𝓤 _) (spends ks xs.1 ws.1 long)
    spends (plain D ∷ ks) xs ws long =
        qed 𝓛 (raw (⋆ 𝓛 (holds ks (changed ks xs.1 ws.1))) ∷ []) ∵ use1 𝓛 (spent ks xs.1 ws.1) (spends ks xs.1 ws.1 long) $ split ! $ frame ! $ nothing ! $
        rewrite ! 0 (λ (P : Fml). ‵ P) (sym (silent (D.row.exit yes) D.still xs.0 ws.0)) refl $ fjoin ! $ done !

    -- ---- to a call and back
    pub lends : (j : ℕ) (ks : List Kind) (xs : Args ks) → Goods ks xs → ent 𝓤 (⋆ 𝓛 (holds ks xs)) (H.⇛ (ex 𝓤 (λ (fr : Fresh ks). mean 𝓛 (ready j ks xs fr))))
    lends j [] xs good = qed 𝓛 [] ∵ updating ! $ at_once ! $ show ! (λ (fr : Fresh []). mean 𝓛 (ready j [] xs fr)) tt $ nothing ! $ nothing ! $ join ! $ nothing ! $ move ! (1 ∷ 0 ∷ []) $ done !
    lends j (unique R ∷ ks) xs good =
        let a = xs.0 in
        qed 𝓛 (‵ (slice R a) ∷ raw (⋆ 𝓛 (token a.κ a.q ∷ holds ks xs.1)) ∷ []) ∵ updating ! $ lft_new ! tt (λ ν. move ! (2 ∷ []) $
        use1 𝓛 (token a.κ a.q ⊛ raw (⋆ 𝓛 (holds ks xs.1))) (pop 𝓛 (token a.κ a.q) (holds ks xs.1)) $ split ! $ move ! (3 ∷ 0 ∷ []) $
        lends_on ! tt R erased erased a.κ ν a.q a.γ a.b a.o a.m a.list good.0.0 (λ δ. move ! (2 ∷ []) $
        use1 𝓛 (later (some (ready (suc j) ks xs.1))) (lends (suc j) ks xs.1 good.1) $ await ! tt $ pick ! (λ fr. at_once ! $
        show ! (λ (fr : Fresh (unique R ∷ ks)). mean 𝓛 (ready j (unique R ∷ ks) xs fr)) (ν, (δ, fr)) $ split ! $ split ! $
        -- [the tokens; what is owned; what is kept; the slice; what is kept of it; its token]
        move ! (5 ∷ 0 ∷ []) $ join ! $ move ! (3 ∷ 1 ∷ []) $ fjoin ! $ move ! (1 ∷ 0 ∷ []) $ join ! $ frame ! $ move ! (1 ∷ 0 ∷ []) $ by ! (push 𝓛 (again R a ν δ) (kept ks xs.1 fr)))))
    lends j (shared R L ∷ ks) xs good =
        let a = xs.0 in
        qed 𝓛 (‵ (common R a) ∷ raw (⋆ 𝓛 (token a.κ a.q ∷ holds ks xs.1)) ∷ []) ∵ updating ! $ use1 𝓛 (‵ (common R a) ⊛ ‵ (common R a)) ((shr_slice_copy 𝓛 erased a.κ R L).twice a.x _) $ split ! $ move ! (2 ∷ []) $
        use1 𝓛 (token a.κ a.q ⊛ raw (⋆ 𝓛 (holds ks xs.1))) (pop 𝓛 (token a.κ a.q) (holds ks xs.1)) $ split ! $ move ! (1 ∷ []) $
        use1 𝓛 (later (some (ready (suc j) ks xs.1))) (lends (suc j) ks xs.1 good.1) $ await ! tt $ pick ! (λ fr. at_once ! $
        show ! (λ (fr : Fresh (shared R L ∷ ks)). mean 𝓛 (ready j (shared R L ∷ ks) xs fr)) fr $ split ! $ split ! $
        -- [the tokens; what is owned; what is kept; its token; the slice; its copy]
        move ! (3 ∷ 0 ∷ []) $ join ! $ move ! (3 ∷ 1 ∷ []) $ fjoin ! $ move ! (1 ∷ 0 ∷ []) $ join ! $ frame ! $ move ! (1 ∷ 0 ∷ []) $ by ! (push 𝓛 (‵ (common R a)) (kept ks xs.1 fr)))
    lends j (plain D ∷ ks) xs good =
        qed 𝓛 (raw (⋆ 𝓛 (holds ks xs.1)) ∷ []) ∵ updating ! $ use1 𝓛 (later (some (ready j ks xs.1))) (lends j ks xs.1 good.1) $ await ! tt $ pick ! (λ fr. at_once ! $
        show ! (λ (fr : Fresh (plain D ∷ ks)). mean 𝓛 (ready j (plain D ∷ ks) xs fr)) fr $ split ! $ split ! $ use0 𝓛 (‵ (D.row.own_val xs.0 (D.mach xs.0 ∷ []))) (D.makes 𝓛 xs.0 _ good.0) $
        move ! (0 ∷ 2 ∷ []) $ fjoin ! $ move ! (1 ∷ 0 ∷ []) $ join ! $ frame ! $ done !)

    -- what is held again, at the last lists
    abbrev pub back : (ks : List Kind) (xs : Args ks) → Lasts ks xs → Item 𝓤
    back ks xs ws = raw (fact 𝓤 (Long ks xs ws)) ⊛ raw (⋆ 𝓛 (holds ks (changed ks xs ws)))

    pub returns : (ks : List Kind) (xs : Args ks) → Goods ks xs → (fr : Fresh ks) (ws : Lasts ks xs)
        → ent 𝓤 (sep 𝓤 (tokens ks xs (fresh ks fr)) (sep 𝓤 (sem 𝓛 (lasts ks xs (fresh ks fr) ws)) (⋆ 𝓛 (kept ks xs fr)))) (H.⇛ (mean 𝓛 (back ks xs ws)))
    returns [] xs good fr ws = qed 𝓛 (‵ ftrue ∷ ‵ ftrue ∷ ‵ ftrue ∷ []) ∵ updating ! $ at_once ! $ use0 𝓛 (raw (fact 𝓤 (Unit {0}))) (fact_i 𝓤 (Unit {0}) (emp 𝓤) tt) $ keep ! (0 ∷ 1 ∷ []) $ done !
    returns (unique R ∷ ks) xs good fr ws =
        let a = xs.0 in
        qed 𝓛 ((‵ (flft (fr.0 ∷ []) full_share) ⊛ raw (tokens ks xs.1 (fresh ks fr.1.1))) ∷ ‵ (lasts (unique R ∷ ks) xs (fresh (unique R ∷ ks) fr) ws) ∷ raw (⋆ 𝓛 (kept (unique R ∷ ks) xs fr)) ∷ []) ∵ updating ! $ move ! (2 ∷ []) $
        use1 𝓛 (again R a fr.0 fr.1.0 ⊛ raw (⋆ 𝓛 (kept ks xs.1 fr.1.1))) (pop 𝓛 (again R a fr.0 fr.1.0) (kept ks xs.1 fr.1.1)) $ split ! $
        move ! (3 ∷ []) $ fsplit ! $ fsplit ! $ move ! (1 ∷ []) $ drop ! $ fsplit ! $ move ! (1 ∷ []) $ feq_l ! (λ len. move ! (4 ∷ []) $ split ! $ lft_end ! tt $ move ! (0 ∷ 4 ∷ 2 ∷ []) $
        comes_on ! tt R erased a.κ fr.0 a.q a.γ a.b a.o a.m a.list good.0.0 good.0.1 fr.1.0 ws.0 len $
        -- [the slice; its token; the other tokens; what says the other lists; what else is kept]
        move ! (2 ∷ 3 ∷ 4 ∷ []) $ use3 𝓛 (later (back ks xs.1 ws.1)) (returns ks xs.1 good.1 fr.1.1 ws.1) $ await ! tt $ split ! $
        heard ! (Long ks xs.1 ws.1) (λ long. at_once ! $ use0 𝓛 (raw (fact 𝓤 (Long (unique R ∷ ks) xs ws))) (fact_i 𝓤 (Long (unique R ∷ ks) xs ws) (emp 𝓤) (len, long)) $ frame ! $
        move ! (1 ∷ 2 ∷ 0 ∷ []) $ frame ! $ by ! (push 𝓛 (token a.κ a.q) (holds ks (changed ks xs.1 ws.1)))))
    returns (shared R L ∷ ks) xs good fr ws =
        let a = xs.0 in
        qed 𝓛 ((token a.κ a.q ⊛ raw (tokens ks xs.1 (fresh ks fr))) ∷ ‵ (lasts (shared R L ∷ ks) xs (fresh ks fr) ws) ∷ raw (⋆ 𝓛 (kept (shared R L ∷ ks) xs fr)) ∷ []) ∵ updating ! $ move ! (2 ∷ []) $
        use1 𝓛 (‵ (common R a) ⊛ raw (⋆ 𝓛 (kept ks xs.1 fr))) (pop 𝓛 (‵ (common R a)) (kept ks xs.1 fr)) $ split ! $ move ! (3 ∷ []) $ fsplit ! $ drop ! $ move ! (3 ∷ []) $ split ! $
        -- [its token; the other tokens; what says the lists; the slice; what else is kept]
        move ! (1 ∷ 2 ∷ 4 ∷ []) $ use3 𝓛 (later (back ks xs.1 ws.1)) (returns ks xs.1 good.1 fr ws.1) $ await ! tt $ split ! $
        at_once ! $ frame ! $ move ! (2 ∷ 1 ∷ 0 ∷ []) $ frame ! $ by ! (push 𝓛 (token a.κ a.q) (holds ks (changed ks xs.1 ws.1)))
    returns (plain D ∷ ks) xs good fr ws =
        qed 𝓛 (raw (tokens ks xs.1 (fresh ks fr)) ∷ ‵ (lasts (plain D ∷ ks) xs (fresh ks fr) ws) ∷ raw (⋆ 𝓛 (kept ks xs.1 fr)) ∷ []) ∵
        move ! (1 ∷ []) $ fsplit ! $ drop ! $ move ! (1 ∷ 0 ∷ []) $ by ! (returns ks xs.1 good.1 fr ws.1)
