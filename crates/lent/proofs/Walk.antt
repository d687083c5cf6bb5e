-- A walk of a function's code, over the table of its locals (`Locals.antt`): each rule names only what the code does not say. It says nothing of any crate.
--     Walk … Δ vs b    the code b runs from what is held, Δ, and the locals, which hold vs
--     copies           _k = _i, or a field of it.        binds     _k = a field of the enum that _i holds.        reborrows     _k = &mut *_i.0; _(k+1) = (_k, _i.1), a slice lent on
--     points           _k = &*_i.0, a slice's pointer
--     builds           _k = a struct or a variant, of operands
--     cases            a `match` on the enum that _i holds.        copies-last, builds-last     as the last statement of an arm: the code after it runs
--     updates          what is held is updated, or stands in another order: no code runs
--     returning        the function returns what _0 holds, and its locals are freed
-- What is stored is of its local's type since what is read is of its own: no rule asks for it. Each `refl` is a look into the table. Assumes `Logic`.
use mathlib.Core.Path.{◌≡◌, refl, sym, ◌∙◌, ap, subst}
use Prim.Native.Nat.{ℕ, zero, suc, ◌+◌, ◌^◌}
use mathlib.Core.Bool.{Bool, true, false, cond}
use mathlib.Core.Option.{Option, none, some}
use mathlib.Core.List.{List, [], ◌∷◌, ◌++◌}
use seplogic.Ra.Ura.{Ura}
use base.Fraction.{full_share}
use lib.Dec.{T, ltb, ltb→lt}
use mir.Syntax.{Mutability, Lifetime, w64, Ty, ty_int, ty_bool, ty_float, ty_ptr, ty_ref, ty_array, ty_unit, ty_struct, ty_enum, ty_named, ty_param, ty_const, ty_array_p, Sym, Tys, Tyss, Step as PStep, deref, field, variant, place, Opd as Operand, copy, int, int_neg, int_big, float, opd_true, opd_false, opd_unit, ptr_const, size_of, align_of, num_of, fn_addr, vtable, rv_opd, addr_of, aggregate, Body, skip, seq, assign, block, loop, cond as condᴮ, switch, exit, return, call, unreachable, call_v, lend_static, Arms, arm, default, no_default, Local}
use mir.Val.{Val, Vals, Fits, vunit, vbool, vint, vfloat, vptr, vstruct, vcode, of_list, WT, has_ty, has_key, bits}
use mir.Fields.{get_v}
use base.Logic.{SProp, ent, sep, ex, id⊢, via, mono_l, comm∗, ex∗, guard, guard_i}
use base.Fml.{Share, fat}
use prog.Memory.{field_at, field_of, variant_at, with_tag}
use prog.Wp.{Out, returns as returnsᴼ, after_seq, branch, Wp, WpArms, at_return, Heap, Env, Calls, Loops, Spot}
use types.Logic.{Logic}
use types.Kit.{Item, mean, ⋆, nth, del, put, unpull, Post, any_q, at_ret, post, Goal, runs, Seq, ‵, raw, some as one_of_lem, later, ◌$◌, by, cut, pick, await}
use types.Run.{first as first', returns_within, assigns_last, exec, switches_on, Reads, Writes, Walks, Finds, Opd, Opds, init, store, stop, hop, fld, from, load, lit, true_lit, false_lit, unit_lit, no_more, and_then, of_opd, addr, assigns}
use types.Part.{Part, Rest, whole, sub, look_in, taken, given_back, agg}
use types.Match.{live, vrt, in_variant, look_tag}
use denote.Slice.{slice_ty, slice_val}
use Rattle.lent.proofs.Locals.{Places, env, Slot, empty, full, away, unless_away, type_at, place_at, slot_at, held_at, free_at, holding, result_of, full_slot, free_type, home, cell, cells, env_at, pos, nth_cell, put_cell, frees_all, some_one, none_some}

-- ---- a field of a value: its type, its offset, and its value
abbrev fields_of : Val → Option Vals
fields_of vunit = none
fields_of (vbool b) = none
fields_of (vint w n) = none
fields_of (vfloat f x) = none
fields_of (vptr b o) = none
fields_of (vstruct vs) = some vs
fields_of (vcode ι) = none

abbrev into : Option (Ty × ℕ) → Option Vals → ℕ → (Ty → ℕ → Val → Option (Ty × (ℕ × Val))) → Option (Ty × (ℕ × Val))
into none us k go = none
into (some f) none k go = none
into (some f) (some us) k go = go f.0 f.1 (get_v us k)

abbrev pub follow : List PStep → Ty → ℕ → Val → Option (Ty × (ℕ × Val))
follow [] τ o v = some (τ, (o, v))
follow (deref σ ∷ st) τ o v = none
follow (variant k ∷ st) τ o v = none
follow (field k ∷ st) τ o v = into (field_of τ k) (fields_of v) k (λ σ d u. follow st σ (o + d) u)

-- what an operand is, over a table
abbrev of_local : Option Ty → Option Val → List PStep → Option (Ty × (ℕ × Val))
of_local none v st = none
of_local (some τ) none st = none
of_local (some τ) (some v) st = follow st τ zero v

abbrev pub value_at : List Local → List Slot → ℕ → List PStep → Option (Ty × (ℕ × Val))
value_at ls vs i st = of_local (type_at ls i) (held_at vs i) st

pub local_value : (ls : List Local) (vs : List Slot) (i : ℕ) (st : List PStep) {τ : Ty} {v : Val} → type_at ls i ≡ some τ → held_at vs i ≡ some v → value_at ls vs i st ≡ follow st τ zero v
local_value ls vs i st e h = λ j. of_local (e j) (h j) st

pub held_now : (k : ℕ) (v : Val) (vs : List Slot) → held_at (holding k v vs) k ≡ some v
held_now zero v [] = refl
held_now zero v (h ∷ vs) = refl
held_now (suc k) v [] = held_now k v []
held_now (suc k) v (h ∷ vs) = held_now k v vs

abbrev third : Option (Ty × (ℕ × Val)) → Option Val
third none = none
third (some x) = some x.1.1

abbrev pub operand : List Local → List Slot → Operand → Option Val
operand ls vs (copy (place i st)) = third (value_at ls vs i st)
operand ls vs (int w n) = cond (ltb n (2 ^ bits w)) (some (vint w n)) none
operand ls vs (int_neg w n) = none
operand ls vs (int_big w n) = cond (ltb n (2 ^ bits w)) (some (vint w n)) none
operand ls vs (float f n) = none
operand ls vs opd_true = some (vbool true)
operand ls vs opd_false = some (vbool false)
operand ls vs opd_unit = some vunit
operand ls vs (ptr_const n) = none
operand ls vs (size_of τ) = none
operand ls vs (align_of τ) = none
operand ls vs (num_of w τ) = none
operand ls vs (fn_addr f σ) = none
operand ls vs (vtable τ ss) = none

abbrev more : Option Val → Option (List Val) → Option (List Val)
more none us = none
more (some v) none = none
more (some v) (some us) = some (v ∷ us)

abbrev pub operands : List Local → List Slot → List Operand → Option (List Val)
operands ls vs [] = some []
operands ls vs (x ∷ xs) = more (operand ls vs x) (operands ls vs xs)

-- ---- what a field that is found says
record Within (τ : Ty) (v : Val) (k : ℕ) (go : Ty → ℕ → Val → Option (Ty × (ℕ × Val))) (x : Ty × (ℕ × Val)) : Type 0 where
  ν : Sym
  τs : Tys
  us : Vals
  σ : Ty
  d : ℕ
  is_struct : τ ≡ ty_struct ν τs
  is_value : v ≡ vstruct us
  is_field : field_at zero τs k ≡ some (σ, d)
  is_found : go σ d (get_v us k) ≡ some x

module _ (k : ℕ) (go : Ty → ℕ → Val → Option (Ty × (ℕ × Val))) (x : Ty × (ℕ × Val)) where
  no_fields : (f : Option (Ty × ℕ)) → into f none k go ≡ some x → ⊥
  no_fields none e = none_some e
  no_fields (some f) e = none_some e

  within_struct : (ν : Sym) (τs : Tys) (v : Val) → into (field_at zero τs k) (fields_of v) k go ≡ some x → Within (ty_struct ν τs) v k go x
  within_struct ν τs vunit e = absurd (no_fields (field_at zero τs k) e)
  within_struct ν τs (vcode ι) e = absurd (no_fields (field_at zero τs k) e)
  within_struct ν τs (vbool b) e = absurd (no_fields (field_at zero τs k) e)
  within_struct ν τs (vint w n) e = absurd (no_fields (field_at zero τs k) e)
  within_struct ν τs (vfloat f y) e = absurd (no_fields (field_at zero τs k) e)
  within_struct ν τs (vptr b o) e = absurd (no_fields (field_at zero τs k) e)
  within_struct ν τs (vstruct us) e = at (field_at zero τs k) refl e
    where
      at : (f : Option (Ty × ℕ)) → field_at zero τs k ≡ f → into f (some us) k go ≡ some x → Within (ty_struct ν τs) (vstruct us) k go x
      at none h e = absurd (none_some e)
      at (some f) h e = record { ν = ν; τs = τs; us = us; σ = f.0; d = f.1; is_struct = refl; is_value = refl; is_field = h; is_found = e }

  within : (τ : Ty) (v : Val) → into (field_of τ k) (fields_of v) k go ≡ some x → Within τ v k go x
  within (ty_int w) v e = absurd (none_some e)
  within ty_bool v e = absurd (none_some e)
  within (ty_float f) v e = absurd (none_some e)
  within ty_ptr v e = absurd (none_some e)
  within (ty_ref κ μ τ) v e = absurd (none_some e)
  within (ty_array τ n) v e = absurd (none_some e)
  within ty_unit v e = absurd (none_some e)
  within (ty_struct ν τs) v e = within_struct ν τs v e
  within (ty_enum ν τss) v e = absurd (none_some e)
  within (ty_named ν τs) v e = absurd (none_some e)
  within (ty_param n) v e = absurd (none_some e)
  within (ty_const n) v e = absurd (none_some e)
  within (ty_array_p τ n) v e = absurd (none_some e)

module _ {M : Type 1} {𝓤 : Ura M} (K : Type 0) (𝓛 : Logic 𝓤) (Γ : List (Item 𝓤)) (E : Env 𝓤 𝓛.H) where
  -- a place of an entry's cell: what stands there can be taken out and put back
  record Reached (i : Item 𝓤) (b : ℕ) (τ : Ty) (o : ℕ) (st : List PStep) (x : Ty × (ℕ × Val)) : Type 2 where
    back : Val → Item 𝓤
    part : Part K 𝓛 i full_share x.0 b x.1.0 x.1.1 back
    walks : Walks K 𝓛 Γ E (τ, b, o) st (x.0, b, x.1.0)

  reached : K → (st : List PStep) {i : Item 𝓤} {b : ℕ} {τ : Ty} {o : ℕ} {v : Val} {back : Val → Item 𝓤} → Part K 𝓛 i full_share τ b o v back → (x : Ty × (ℕ × Val)) → follow st τ o v ≡ some x → Reached i b τ o st x
  reached t [] {i} {b} {τ} {o} {v} {back} p x e = subst (Reached i b τ o []) (some_one e) (record { back = back; part = p; walks = stop t })
  reached t (deref σ ∷ st) p x e = absurd (none_some e)
  reached t (variant k ∷ st) p x e = absurd (none_some e)
  reached t (field k ∷ st) {i} {b} {τ} {o} {v} {back} p x e =
      let w = within k (λ σ d u. follow st σ (o + d) u) x τ v e in
      let q = sub t k w.is_field (subst (λ (u : Val). Part K 𝓛 i full_share (ty_struct w.ν w.τs) b o u back) w.is_value (subst (λ (σ : Ty). Part K 𝓛 i full_share σ b o v back) w.is_struct p)) in
      let r = reached t st q x w.is_found in
      record { back = r.back; part = r.part; walks = fld t (ap (λ (σ : Ty). field_of σ k) w.is_struct ∙ w.is_field) r.walks }

-- what a part of an entry holds is of its type
typed_in : {M : Type 1} {𝓤 : Ura M} {𝓛 : Logic 𝓤} {K : Type 0} {Γ : List (Item 𝓤)} {G : Goal 𝓤 𝓛.H} → K → (n : ℕ) {q : Share} {τ : Ty} {b o : ℕ} {v : Val} {back : Val → Item 𝓤} → Part K 𝓛 (nth 𝓛 n Γ) q τ b o v back
    → (T (has_ty τ v) × WT v → Seq K 𝓛 Γ G) → Seq K 𝓛 Γ G
typed_in {𝓤 = 𝓤} {𝓛 = 𝓛} {K = K} {Γ = Γ} {G = G} t n {q} {τ} {b} {o} {v} {back} p k =
    let C : SProp 𝓤 = 𝓛.H.at q τ b o v in
    by t
    (via 𝓤 (sep 𝓤 C (Rest 𝓛 Γ n q τ b o back)) (taken 𝓛 Γ n q τ b o back K v p)
    (via 𝓤 (sep 𝓤 (guard 𝓤 (T (has_ty τ v) × WT v) C) (Rest 𝓛 Γ n q τ b o back)) (mono_l 𝓤 (Rest 𝓛 Γ n q τ b o back) (𝓛.laws.at_wt q τ b o v))
    (ex∗ 𝓤 (λ (_ : T (has_ty τ v) × WT v). C) (Rest 𝓛 Γ n q τ b o back) (λ wt.
    via 𝓤 (sep 𝓤 (Rest 𝓛 Γ n q τ b o back) C) (comm∗ 𝓤 C (Rest 𝓛 Γ n q τ b o back))
    (via 𝓤 (sep 𝓤 (mean 𝓛 (back v)) (⋆ 𝓛 (del 𝓛 n Γ))) (given_back 𝓛 Γ n q τ b o back v)
    (via 𝓤 (⋆ 𝓛 Γ) (subst (λ (j : Item 𝓤). ent 𝓤 (sep 𝓤 (mean 𝓛 j) (⋆ 𝓛 (del 𝓛 n Γ))) (⋆ 𝓛 Γ)) (sym p.same) (unpull 𝓛 n Γ)) (k wt).prf))))))

-- ---- the locals
module _ {M : Type 1} {𝓤 : Ura M} {K : Type 0} (t : K) (𝓛 : Logic 𝓤) (ls : List Local) (pl : Places ls) (Δ : List (Item 𝓤)) (vs : List Slot) where
  open 𝓛 use {H}

  abbrev Γ : List (Item 𝓤)
  Γ = Δ ++ cells 𝓤 ls pl vs

  abbrev E : Env 𝓤 H
  E = env ls pl

  abbrev cell_at : ℕ → Ty → Val → Item 𝓤
  cell_at i τ v = ‵ (fat full_share τ (place_at ls pl i) zero v)

  cell_of : (i : ℕ) {τ : Ty} {v : Val} → type_at ls i ≡ some τ → held_at vs i ≡ some v → Part K 𝓛 (nth 𝓛 (pos 𝓛 Δ i) Γ) full_share τ (place_at ls pl i) zero v (λ u. cell_at i τ u)
  cell_of i {τ} {v} e h = subst (λ (j : Item 𝓤). Part K 𝓛 j full_share τ (place_at ls pl i) zero v (λ u. cell_at i τ u)) (sym (nth_cell 𝓛 Δ ls pl vs i e ∙ ap (λ (s : Slot). ‵ (cell τ (place_at ls pl i) s)) (full_slot (slot_at vs i) h))) (whole t)

  pub finds : (i : ℕ) {τ : Ty} {st : List PStep} {sp : Spot 𝓤 H} → type_at ls i ≡ some τ → Walks K 𝓛 Γ E (τ, place_at ls pl i, zero) st sp → Finds K 𝓛 Γ E (place i st) sp
  finds i {τ} {st} {sp} e w = from t (subst (λ (x : Ty × ℕ). Walks K 𝓛 Γ E (x.0, x.1, zero) st sp) (sym (env_at 𝓤 H ls pl i e)) w)

  -- local i, and a field of it
  record Is_at (i : ℕ) (st : List PStep) (x : Ty × (ℕ × Val)) : Type 2 where
    τ : Ty
    is_type : type_at ls i ≡ some τ
    place_of : Reached K 𝓛 Γ E (nth 𝓛 (pos 𝓛 Δ i) Γ) (place_at ls pl i) τ zero st x

  is_at : (i : ℕ) (st : List PStep) (x : Ty × (ℕ × Val)) → value_at ls vs i st ≡ some x → Is_at i st x
  is_at i st x e = go (type_at ls i) (held_at vs i) refl refl e
    where
      go : (τ : Option Ty) (v : Option Val) → type_at ls i ≡ τ → held_at vs i ≡ v → of_local τ v st ≡ some x → Is_at i st x
      go none v h j e = absurd (none_some e)
      go (some τ) none h j e = absurd (none_some e)
      go (some τ) (some v) h j e = record { τ = τ; is_type = h; place_of = reached K 𝓛 Γ E t st (cell_of i h j) x e }

  pub reads_at : (i : ℕ) (st : List PStep) (x : Ty × (ℕ × Val)) → value_at ls vs i st ≡ some x → Opd K 𝓛 Γ E (copy (place i st)) x.1.1
  reads_at i st x e = let a = is_at i st x e in load t (finds i a.is_type a.place_of.walks) (look_in t (pos 𝓛 Δ i) a.place_of.part)

  pub typed_at : {G : Goal 𝓤 H} (i : ℕ) (st : List PStep) (x : Ty × (ℕ × Val)) → value_at ls vs i st ≡ some x → (T (has_ty x.0 x.1.1) × WT x.1.1 → Seq K 𝓛 Γ G) → Seq K 𝓛 Γ G
  typed_at i st x e k = typed_in t (pos 𝓛 Δ i) (is_at i st x e).place_of.part k

  pub finds_free : (i : ℕ) {τ : Ty} → free_at ls vs i ≡ some τ → Finds K 𝓛 Γ E (place i []) (τ, place_at ls pl i, zero)
  finds_free i e = finds i (free_type (slot_at vs i) (type_at ls i) e) (stop t)

  pub writes_at : (i : ℕ) (v : Val) {τ : Ty} → free_at ls vs i ≡ some τ → T (has_ty τ v) × WT v → Writes K 𝓛 Γ τ (place_at ls pl i) zero v (Δ ++ cells 𝓤 ls pl (holding i v vs))
  writes_at i v {τ} f wt =
      let e = free_type (slot_at vs i) (type_at ls i) f in
      subst (λ (Γ' : List (Item 𝓤)). Writes K 𝓛 Γ τ (place_at ls pl i) zero v Γ') (put_cell 𝓛 Δ ls pl vs i (full v) e) (go (slot_at vs i) f (nth_cell 𝓛 Δ ls pl vs i e))
    where
      go : (s : Slot) → unless_away s (type_at ls i) ≡ some τ → nth 𝓛 (pos 𝓛 Δ i) Γ ≡ ‵ (cell τ (place_at ls pl i) s) → Writes K 𝓛 Γ τ (place_at ls pl i) zero v (put 𝓛 (pos 𝓛 Δ i) (cell_at i τ v) Γ)
      go empty f n = init t (pos 𝓛 Δ i) n wt
      go (full u) f n = store t (pos 𝓛 Δ i) n wt
      go away f n = absurd (none_some f)

  -- ---- operands
  pub reads : (x : Operand) (v : Val) → operand ls vs x ≡ some v → Opd K 𝓛 Γ E x v
  reads (copy (place i st)) v e = go (value_at ls vs i st) refl e
    where
      go : (f : Option (Ty × (ℕ × Val))) → value_at ls vs i st ≡ f → third f ≡ some v → Opd K 𝓛 Γ E (copy (place i st)) v
      go none h e = absurd (none_some e)
      go (some x) h e = subst (Opd K 𝓛 Γ E (copy (place i st))) (some_one e) (reads_at i st x h)
  reads (int w n) v e = go (ltb n (2 ^ bits w)) refl e
    where
      go : (b : Bool) → ltb n (2 ^ bits w) ≡ b → cond b (some (vint w n)) none ≡ some v → Opd K 𝓛 Γ E (int w n) v
      go true h e = subst (Opd K 𝓛 Γ E (int w n)) (some_one e) (lit t (subst T (sym h) tt))
      go false h e = absurd (none_some e)
  reads (int_neg w n) v e = absurd (none_some e)
  reads (int_big w n) v e = go (ltb n (2 ^ bits w)) refl e
    where
      go : (b : Bool) → ltb n (2 ^ bits w) ≡ b → cond b (some (vint w n)) none ≡ some v → Opd K 𝓛 Γ E (int_big w n) v
      go true h e = subst (Opd K 𝓛 Γ E (int_big w n)) (some_one e) (record { go = λ Kt k. via 𝓤 (Kt (vint w n)) k (guard_i 𝓤 (Fits w n) (Kt (vint w n)) (record { fits = ltb→lt n (2 ^ bits w) (subst T (sym h) tt) })) })
      go false h e = absurd (none_some e)
  reads (float f n) v e = absurd (none_some e)
  reads opd_true v e = subst (Opd K 𝓛 Γ E opd_true) (some_one e) (true_lit t)
  reads opd_false v e = subst (Opd K 𝓛 Γ E opd_false) (some_one e) (false_lit t)
  reads opd_unit v e = subst (Opd K 𝓛 Γ E opd_unit) (some_one e) (unit_lit t)
  reads (ptr_const n) v e = absurd (none_some e)
  reads (size_of τ) v e = absurd (none_some e)
  reads (align_of τ) v e = absurd (none_some e)
  reads (num_of w τ) v e = absurd (none_some e)
  reads (fn_addr f σ) v e = absurd (none_some e)
  reads (vtable τ ss) v e = absurd (none_some e)

  pub reads_all : (xs : List Operand) (us : List Val) → operands ls vs xs ≡ some us → Opds K 𝓛 Γ E xs us
  reads_all [] us e = subst (Opds K 𝓛 Γ E []) (some_one e) (no_more t)
  reads_all (x ∷ xs) us e = go (operand ls vs x) (operands ls vs xs) refl (λ ws j. reads_all xs ws j) refl e
    where
      go : (a : Option Val) (b : Option (List Val)) → operand ls vs x ≡ a → ((ws : List Val) → operands ls vs xs ≡ some ws → Opds K 𝓛 Γ E xs ws) → operands ls vs xs ≡ b → more a b ≡ some us → Opds K 𝓛 Γ E (x ∷ xs) us
      go none b h others j e = absurd (none_some e)
      go (some v) none h others j e = absurd (none_some e)
      go (some v) (some ws) h others j e = subst (Opds K 𝓛 Γ E (x ∷ xs)) (some_one e) (and_then t (reads x v h) (others ws j))

-- ---- the arm of a number
abbrev pub arm_of : Arms → ℕ → Option Body
arm_of (arm ks b xs) x = cond (has_key ks x) (some b) (arm_of xs x)
arm_of (default b) x = some b
arm_of no_default x = none

-- the code after n statements, and an arm of a `match`
abbrev pub after : ℕ → Body → Body
after zero b = b
after (suc n) skip = skip
after (suc n) (seq a b) = after n b
after (suc n) (assign p v) = skip
after (suc n) (block b) = skip
after (suc n) (loop b) = skip
after (suc n) (condᴮ c a b) = skip
after (suc n) (switch c xs) = skip
after (suc n) (exit k) = skip
after (suc n) return = skip
after (suc n) (call f xs p) = skip
after (suc n) unreachable = skip
after (suc n) (call_v x σ xs p) = skip
after (suc n) (lend_static p τ c) = skip

abbrev or_skip : Option Body → Body
or_skip none = skip
or_skip (some b) = b

abbrev pub arm_in : Body → ℕ → Body
arm_in skip x = skip
arm_in (seq a b) x = skip
arm_in (assign p v) x = skip
arm_in (block b) x = skip
arm_in (loop b) x = skip
arm_in (condᴮ c a b) x = skip
arm_in (switch c xs) x = or_skip (arm_of xs x)
arm_in (exit k) x = skip
arm_in return x = skip
arm_in (call f xs p) x = skip
arm_in unreachable x = skip
arm_in (call_v f σ xs p) x = skip
arm_in (lend_static p τ c) x = skip

-- a rule and what follows it
infixr 1 ◌▸◌
abbrev pub ◌▸◌ : {X Y : Type 1} → (X → Y) → X → Y
r ▸ w = r w

-- ---- the walk
module _ {M : Type 1} (𝓤 : Ura M) (H : Heap 𝓤) (C : Calls 𝓤 H) (Λ : Loops 𝓤 H) (E : Env 𝓤 H) (Kf : Val → SProp 𝓤) where
  -- what is to hold where a part ends, once the code ks is still to run, the next first
  abbrev pub then : List Body → Post 𝓤 H
  then [] = at_ret E Kf
  then (b ∷ ks) = any_q (after_seq 𝓤 H (Wp 𝓤 H C Λ E b (post 𝓤 H (then ks))) (post 𝓤 H (then ks)))

  then_returns : (ks : List Body) → post 𝓤 H (then ks) returnsᴼ ≡ at_return 𝓤 H E Kf returnsᴼ
  then_returns [] = refl
  then_returns (b ∷ ks) = then_returns ks

  arm_runs : (xs : Arms) (x : ℕ) {b : Body} (Q : Out → SProp 𝓤) → arm_of xs x ≡ some b → Wp 𝓤 H C Λ E b Q ≡ WpArms 𝓤 H C Λ E xs x Q
  arm_runs (arm ks a xs) x {b} Q e = go (has_key ks x) (λ f. arm_runs xs x Q f) e
    where
      go : (z : Bool) → (arm_of xs x ≡ some b → Wp 𝓤 H C Λ E b Q ≡ WpArms 𝓤 H C Λ E xs x Q) → cond z (some a) (arm_of xs x) ≡ some b → Wp 𝓤 H C Λ E b Q ≡ branch 𝓤 H z (Wp 𝓤 H C Λ E a Q) (WpArms 𝓤 H C Λ E xs x Q)
      go true others e = ap (λ (y : Body). Wp 𝓤 H C Λ E y Q) (sym (some_one e))
      go false others e = others e
  arm_runs (default a) x Q e = ap (λ (y : Body). Wp 𝓤 H C Λ E y Q) (sym (some_one e))
  arm_runs no_default x Q e = absurd (none_some e)

pub record Walk {M : Type 1} {𝓤 : Ura M} (K : Type 0) (𝓛 : Logic 𝓤) (C : Calls 𝓤 𝓛.H) (Λ : Loops 𝓤 𝓛.H) (ls : List Local) (pl : Places ls) (Kf : Val → SProp 𝓤) (Δ : List (Item 𝓤)) (vs : List Slot) (ks : List Body) (b : Body) : Type 1 where
  pub run : Seq K 𝓛 (Δ ++ cells 𝓤 ls pl vs) (runs C Λ (env ls pl) b (then 𝓤 𝓛.H C Λ (env ls pl) Kf ks))

module _ {M : Type 1} {𝓤 : Ura M} {𝓛 : Logic 𝓤} {K : Type 0} {C : Calls 𝓤 𝓛.H} {Λ : Loops 𝓤 𝓛.H} {ls : List Local} {pl : Places ls} {Kf : Val → SProp 𝓤} {Δ : List (Item 𝓤)} {vs : List Slot} {ks : List Body} where
  -- into the first part of a sequence
  open 𝓛 use {H}

  pub first : K → {a b : Body} → Walk K 𝓛 C Λ ls pl Kf Δ vs (b ∷ ks) a → Walk K 𝓛 C Λ ls pl Kf Δ vs ks (seq a b)
  first t w = record { run = first' t $ w.run }

  pub updates : K → {X : Type 0} (Δ' : X → List (Item 𝓤)) {b : Body} → ent 𝓤 (⋆ 𝓛 Δ) (H.⇛ (ex 𝓤 (λ (x : X). ⋆ 𝓛 (Δ' x)))) → ((x : X) → Walk K 𝓛 C Λ ls pl Kf (Δ' x) vs ks b) → Walk K 𝓛 C Λ ls pl Kf Δ vs ks b
  updates t {X} Δ' e w = record {
    run = cut Δ (later (one_of_lem (λ (x : X). raw (⋆ 𝓛 (Δ' x)))) ∷ []) (cells 𝓤 ls pl vs) e $ await t tt $ pick t (λ x. cut (raw (⋆ 𝓛 (Δ' x)) ∷ []) (Δ' x) (cells 𝓤 ls pl vs) (id⊢ 𝓤 _) $ (w x).run);
  }

  module _ {i k : ℕ} {st : List PStep} {rest : Body} {x : Ty × (ℕ × Val)} where
    pub copies : K → value_at ls vs i st ≡ some x → free_at ls vs k ≡ some x.0 → Walk K 𝓛 C Λ ls pl Kf Δ (holding k x.1.1 vs) ks rest → Walk K 𝓛 C Λ ls pl Kf Δ vs ks (seq (assign (place k []) (rv_opd (copy (place i st)))) rest)
    copies t e f w = record { run = typed_at t 𝓛 ls pl Δ vs i st x e (λ wt. assigns t (of_opd t (reads_at t 𝓛 ls pl Δ vs i st x e)) (finds_free t 𝓛 ls pl Δ vs k f) (writes_at t 𝓛 ls pl Δ vs k x.1.1 f wt) $ w.run) }

    -- as the last statement of its part
    pub copies_last : K → value_at ls vs i st ≡ some x → free_at ls vs k ≡ some x.0 → Walk K 𝓛 C Λ ls pl Kf Δ (holding k x.1.1 vs) ks rest → Walk K 𝓛 C Λ ls pl Kf Δ vs (rest ∷ ks) (assign (place k []) (rv_opd (copy (place i st))))
    copies_last t e f w = record {
      run = typed_at t 𝓛 ls pl Δ vs i st x e (λ wt. assigns_last t (of_opd t (reads_at t 𝓛 ls pl Δ vs i st x e)) (finds_free t 𝓛 ls pl Δ vs k f) (writes_at t 𝓛 ls pl Δ vs k x.1.1 f wt) $ exec t C Λ (env ls pl) rest (then 𝓤 H C Λ (env ls pl) Kf ks) $ w.run);
    }

  -- a struct or a variant is built
  pub builds : K → {k : ℕ} {τ : Ty} {xs : List Operand} {us : List Val} {rest : Body} → operands ls vs xs ≡ some us → free_at ls vs k ≡ some τ → T (has_ty τ (vstruct (of_list us))) × WT (vstruct (of_list us))
      → Walk K 𝓛 C Λ ls pl Kf Δ (holding k (vstruct (of_list us)) vs) ks rest → Walk K 𝓛 C Λ ls pl Kf Δ vs ks (seq (assign (place k []) (aggregate xs)) rest)
  builds t {k} {τ} {xs} {us} e f wt w = record { run = assigns t (agg t (reads_all t 𝓛 ls pl Δ vs xs us e)) (finds_free t 𝓛 ls pl Δ vs k f) (writes_at t 𝓛 ls pl Δ vs k (vstruct (of_list us)) f wt) $ w.run }

  -- as the last statement of its part
  pub builds_last : K → {k : ℕ} {τ : Ty} {xs : List Operand} {us : List Val} {rest : Body} → operands ls vs xs ≡ some us → free_at ls vs k ≡ some τ → T (has_ty τ (vstruct (of_list us))) × WT (vstruct (of_list us))
      → Walk K 𝓛 C Λ ls pl Kf Δ (holding k (vstruct (of_list us)) vs) ks rest → Walk K 𝓛 C Λ ls pl Kf Δ vs (rest ∷ ks) (assign (place k []) (aggregate xs))
  builds_last t {k} {τ} {xs} {us} {rest} e f wt w = record {
    run = assigns_last t (agg t (reads_all t 𝓛 ls pl Δ vs xs us e)) (finds_free t 𝓛 ls pl Δ vs k f) (writes_at t 𝓛 ls pl Δ vs k (vstruct (of_list us)) f wt) $ exec t C Λ (env ls pl) rest (then 𝓤 H C Λ (env ls pl) Kf ks) $ w.run;
  }

  -- the enum that local i holds
  module _ {i c : ℕ} {ν : Sym} {τss : Tyss} {τs : Tys} {us : Vals} where
    -- field j of the variant that is live
    pub binds : K → {j k : ℕ} {σ : Ty} {d : ℕ} {rest : Body} → type_at ls i ≡ some (ty_enum ν τss) → held_at vs i ≡ some (live c us) → variant_at τss c ≡ some τs → field_at 1 τs j ≡ some (σ, d) → free_at ls vs k ≡ some σ
        → Walk K 𝓛 C Λ ls pl Kf Δ (holding k (get_v us j) vs) ks rest → Walk K 𝓛 C Λ ls pl Kf Δ vs ks (seq (assign (place k []) (rv_opd (copy (place i (variant c ∷ field (suc j) ∷ []))))) rest)
    binds t {j} {k} e h v f g w =
        let q = in_variant t c j v f (cell_of t 𝓛 ls pl Δ vs i e h) in
        record { run = typed_in t (pos 𝓛 Δ i) q (λ wt. assigns t (of_opd t (load t (finds t 𝓛 ls pl Δ vs i e (vrt t (ap (with_tag ν) v) (fld t f (stop t)))) (look_in t (pos 𝓛 Δ i) q))) (finds_free t 𝓛 ls pl Δ vs k g) (writes_at t 𝓛 ls pl Δ vs k (get_v us j) g wt) $ w.run) }

    -- a `match`: the arm of the variant that is live runs
    pub cases : K → {z : ℕ} {xs : Arms} {b : Body} → type_at ls i ≡ some (ty_enum ν τss) → held_at vs i ≡ some (live c us) → variant_at τss z ≡ some τs → arm_of xs c ≡ some b
        → Walk K 𝓛 C Λ ls pl Kf Δ vs ks b → Walk K 𝓛 C Λ ls pl Kf Δ vs ks (switch (copy (place i (variant z ∷ field zero ∷ []))) xs)
    cases t {z} {xs} {b} e h v f w = record {
      run =
          switches_on t (load t (finds t 𝓛 ls pl Δ vs i e (vrt t (ap (with_tag ν) v) (fld t refl (stop t)))) (look_tag t (pos 𝓛 Δ i) (cell_of t 𝓛 ls pl Δ vs i e h))) $
          by t (subst (λ (P : SProp 𝓤). ent 𝓤 (⋆ 𝓛 (Δ ++ cells 𝓤 ls pl vs)) P) (arm_runs 𝓤 H C Λ (env ls pl) Kf xs c (post 𝓤 H (then 𝓤 H C Λ (env ls pl) Kf ks)) f) w.run.prf);
    }

  -- a slice's pointer
  pub points : K → {i k b o n : ℕ} {ρ σ τ : Ty} {κ : Lifetime} {μ : Mutability} {rest : Body} → type_at ls i ≡ some (slice_ty ρ) → held_at vs i ≡ some (slice_val (b, o) n) → free_at ls vs k ≡ some (ty_ref κ μ σ)
      → Walk K 𝓛 C Λ ls pl Kf Δ (holding k (vptr b o) vs) ks rest → Walk K 𝓛 C Λ ls pl Kf Δ vs ks (seq (assign (place k []) (addr_of (place i (field 0 ∷ deref τ ∷ [])))) rest)
  points t {i} {k} {b} {o} e h f w = record {
    run = assigns t (addr t (finds t 𝓛 ls pl Δ vs i e (fld t refl (hop t (look_in t (pos 𝓛 Δ i) (sub t 0 refl (cell_of t 𝓛 ls pl Δ vs i e h))) (stop t))))) (finds_free t 𝓛 ls pl Δ vs k f) (writes_at t 𝓛 ls pl Δ vs k (vptr b o) f (tt, tt)) $ w.run;
  }

  -- a slice lent on
  pub reborrows : K → {i k b o n : ℕ} {ρ σ τ : Ty} {κ : Lifetime} {μ : Mutability} {rest : Body} → type_at ls i ≡ some (slice_ty ρ) → held_at vs i ≡ some (slice_val (b, o) n) → free_at ls vs k ≡ some (ty_ref κ μ σ) → free_at ls (holding k (vptr b o) vs) (suc k) ≡ some (slice_ty (ty_ref κ μ σ)) → held_at (holding k (vptr b o) vs) i ≡ some (slice_val (b, o) n)
      → Walk K 𝓛 C Λ ls pl Kf Δ (holding (suc k) (slice_val (b, o) n) (holding k (vptr b o) vs)) ks rest
      → Walk K 𝓛 C Λ ls pl Kf Δ vs ks (seq (assign (place k []) (addr_of (place i (field 0 ∷ deref τ ∷ [])))) (seq (assign (place (suc k) []) (aggregate (copy (place k []) ∷ copy (place i (field 1 ∷ [])) ∷ []))) rest))
  reborrows t {i} {k} {b} {o} {n} {ρ} {σ} {τ} {κ} {μ} e h f g h' w =
      let ws = holding k (vptr b o) vs in
      points t e h f
      (record {
        run = typed_in t (pos 𝓛 Δ i) (cell_of t 𝓛 ls pl Δ ws i e h') (λ wt.
            assigns t (agg t (and_then t (reads_at t 𝓛 ls pl Δ ws k [] (ty_ref κ μ σ, (zero, vptr b o)) (local_value ls ws k [] (free_type (slot_at vs k) (type_at ls k) f) (held_now k (vptr b o) vs))) (and_then t (reads_at t 𝓛 ls pl Δ ws i (field 1 ∷ []) (ty_int w64, (_, vint w64 n)) (local_value ls ws i (field 1 ∷ []) e h')) (no_more t)))) (finds_free t 𝓛 ls pl Δ ws (suc k) g) (writes_at t 𝓛 ls pl Δ ws (suc k) (slice_val (b, o) n) g (tt, wt.1)) $ w.run);
      })

  -- the function returns what local 0 holds, and its locals are freed
  pub returning : K → {τ : Ty} {r : Val} → type_at ls zero ≡ some τ → result_of vs ≡ some r → ent 𝓤 (⋆ 𝓛 Δ) (Kf r) → Walk K 𝓛 C Λ ls pl Kf Δ vs ks return
  returning t {τ} {r} e h k = let (at, is) = home vs (held_at vs zero) h in record {
    run = returns_within t Kf (then_returns 𝓤 H C Λ (env ls pl) Kf ks) (subst (λ (x : Ty × ℕ). Reads K 𝓛 (Δ ++ cells 𝓤 ls pl vs) x.0 x.1 zero r) (sym (env_at 𝓤 H ls pl zero e)) (look_in t (pos 𝓛 Δ zero) (cell_of t 𝓛 ls pl Δ vs zero e is))) $ frees_all 𝓛 Δ ls pl vs at t (by t k);
  }
