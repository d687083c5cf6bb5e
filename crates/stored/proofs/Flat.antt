-- Records in lent memory: what was stored is read back, run after run of stores, and record by record. Assumes nothing.
use mathlib.Core.Path.{◌≡◌, refl, sym, ap, ◌∙◌}
use mathlib.Core.List.{List, [], ◌∷◌, ◌++◌}
use Prim.Native.Nat.{ℕ, zero, suc, ◌+◌, ◌*◌, ◌≤◌}
use native.Mathlib.Nat.{zero-add, suc-add}
use native.Mathlib.Omega.{arith}
use lib.Ieee.{Float}
use lib.ListN.{length, set, drop, length-append}
use lib.Seq.{sets, sets-eq, length-sets, drop-append_seam}
use Rattle.rows.proofs.Stored.{sets_append}
use Rattle.scope.specs.Lists.{holding}
use Rattle.scope.specs.Origin.{origin_of}
use Rattle.scope.specs.Grid.{Record}
use Rattle.optimizer.proofs.Origins.{numbers_back}
use Rattle.stored.specs.Flat.{flat_rows, gains_of, records_in, Put, Standing}

-- ---- runs of stores
module _ {A : Type 0} where
  -- a run from the start on
  pub sets_holding : (l vs : List A) → length vs ≤ length l → sets l 0 vs ≡ holding vs l
  sets_holding l vs h = sets-eq vs l 0 (omega arith) ∙ rw zero-add

  -- told again
  pub holding_again : (told before : List A) → holding told (holding told before) ≡ holding told before
  holding_again told before = ap (λ (l : List A). told ++ l) (drop-append_seam told (drop (length told) before))

  -- past the first entry
  sets_suc : (x : A) (l : List A) (p : ℕ) (vs : List A) → sets (x ∷ l) (suc p) vs ≡ x ∷ sets l p vs
  sets_suc x l p [] = refl
  sets_suc x l p (v ∷ vs) = sets_suc x (set l p v) (suc p) vs

-- ---- records, flat
pub length_rows : (rs : List Record) → length (flat_rows rs) ≡ 5 * length rs
length_rows [] = refl
length_rows (r ∷ rs) = omega (arith, length_rows rs)

pub length_gains : (rs : List Record) → length (gains_of rs) ≡ length rs
length_gains [] = refl
length_gains (r ∷ rs) = ap suc (length_gains rs)

pub rows_append : (rs more : List Record) → flat_rows (rs ++ more) ≡ flat_rows rs ++ flat_rows more
rows_append [] more = refl
rows_append (r ∷ rs) more = rw (rows_append rs more)

pub gains_append : (rs more : List Record) → gains_of (rs ++ more) ≡ gains_of rs ++ gains_of more
gains_append [] more = refl
gains_append (r ∷ rs) more = rw (gains_append rs more)

-- ---- read back
pub records_told : (rs : List Record) (t : List ℕ) (u : List Float) → records_in (flat_rows rs ++ t) (gains_of rs ++ u) (length rs) ≡ rs
unfolding records_in
records_told [] t u = refl
records_told (r ∷ rs) t u = rw (numbers_back r.origin) (ap (λ (l : List Record). r ∷ l) (records_told rs t u))

-- records stored behind the first ones are read back behind them
pub records_put : (at : ℕ) (rows : List ℕ) (gains : List Float) (rs : List Record) → 5 * (at + length rs) ≤ length rows → at + length rs ≤ length gains
    → records_in (sets rows (5 * at) (flat_rows rs)) (sets gains at (gains_of rs)) (at + length rs) ≡ records_in rows gains at ++ rs
unfolding records_in
records_put zero rows gains rs h k =
    let p : length (flat_rows rs) ≤ length rows = omega (arith, length_rows rs) in
    let q : length (gains_of rs) ≤ length gains = omega (arith, length_gains rs) in
    rw (zero-add, sets_holding rows (flat_rows rs) p, sets_holding gains (gains_of rs) q) (records_told rs _ _)
records_put (suc at) [] gains rs h k = absurd (omega arith)
records_put (suc at) (a ∷ []) gains rs h k = absurd (omega arith)
records_put (suc at) (a ∷ b ∷ []) gains rs h k = absurd (omega arith)
records_put (suc at) (a ∷ b ∷ c ∷ []) gains rs h k = absurd (omega arith)
records_put (suc at) (a ∷ b ∷ c ∷ d ∷ []) gains rs h k = absurd (omega arith)
records_put (suc at) (a ∷ b ∷ c ∷ d ∷ n ∷ rows) [] rs h k = absurd (omega arith)
records_put (suc at) (a ∷ b ∷ c ∷ d ∷ n ∷ rows) (g ∷ gains) rs h k =
    let e : 5 * suc at ≡ suc (suc (suc (suc (suc (5 * at))))) = omega arith in
    let r : Record = record { start = a; stop = b; split = c; gain = g; origin = origin_of d n } in
    rw (e, suc-add at (length rs), sets_suc a, sets_suc b, sets_suc c, sets_suc d, sets_suc n, sets_suc g) (ap (λ (l : List Record). r ∷ l) (records_put at rows gains rs (omega arith) (omega arith)))

-- ---- one run after the other
pub put_none : (at : ℕ) (rows : List ℕ) (gains : List Float) → Put [] at rows gains rows gains at
put_none at rows gains = record { rows_hold = refl; gains_hold = refl; told = omega arith }

pub put_more : {rs more : List Record} {at b c : ℕ} {rows rows₁ rows₂ : List ℕ} {gains gains₁ gains₂ : List Float}
    → Put rs at rows gains rows₁ gains₁ b → Put more b rows₁ gains₁ rows₂ gains₂ c → Put (rs ++ more) at rows gains rows₂ gains₂ c
put_more {rs} {more} {at} {b} {c} {rows} {rows₁} {rows₂} {gains} {gains₁} {gains₂} p q =
    let n : 5 * b ≡ 5 * at + length (flat_rows rs) = omega (arith, p.told, length_rows rs) in
    let m : b ≡ at + length (gains_of rs) = omega (arith, p.told, length_gains rs) in
    record {
      rows_hold = rw (rows_append rs more, q.rows_hold, p.rows_hold, n) (sym (sets_append rows (5 * at) (flat_rows rs) (flat_rows more)));
      gains_hold = rw (gains_append rs more, q.gains_hold, p.gains_hold, m) (sym (sets_append gains at (gains_of rs) (gains_of more)));
      told = omega (arith, p.told, q.told, length-append rs more);
    }

-- the lengths stay
pub put_long : {rs : List Record} {at next : ℕ} {rows rows' : List ℕ} {gains gains' : List Float} → Put rs at rows gains rows' gains' next
    → (length rows' ≡ length rows) × (length gains' ≡ length gains)
put_long {rs} {at} {next} {rows} {rows'} {gains} p = (ap length p.rows_hold ∙ length-sets rows (5 * at) (flat_rows rs), ap length p.gains_hold ∙ length-sets gains at (gains_of rs))

-- where there is room, the records are read back behind the earlier ones
pub put_read : {rs : List Record} {at next : ℕ} {rows rows' : List ℕ} {gains gains' : List Float} → 5 * next ≤ length rows → next ≤ length gains → Put rs at rows gains rows' gains' next
    → records_in rows' gains' next ≡ records_in rows gains at ++ rs
put_read {rs} {at} {next} {rows} {rows'} {gains} h k p = rw (p.rows_hold, p.gains_hold, p.told) (records_put at rows gains rs (omega (arith, p.told)) (omega (arith, p.told)))

-- and those put from the start on are what the slices are told
module _ {rs : List Record} {rows rows' : List ℕ} {gains gains' : List Float} where
  pub put_told : {next : ℕ} → 5 * next ≤ length rows → next ≤ length gains → Put rs 0 rows gains rows' gains' next → (rows' ≡ holding (flat_rows rs) rows) × (gains' ≡ holding (gains_of rs) gains)
  put_told h k p =
      (p.rows_hold ∙ sets_holding rows (flat_rows rs) (omega (arith, length_rows rs, p.told)), p.gains_hold ∙ sets_holding gains (gains_of rs) (omega (arith, length_gains rs, p.told)))

  pub told_put : 5 * length rs ≤ length rows → length rs ≤ length gains → rows' ≡ holding (flat_rows rs) rows → gains' ≡ holding (gains_of rs) gains → Put rs 0 rows gains rows' gains' (length rs)
  told_put h k p q = record {
    rows_hold = p ∙ sym (sets_holding rows (flat_rows rs) (omega (arith, length_rows rs)));
    gains_hold = q ∙ sym (sets_holding gains (gains_of rs) (omega (arith, length_gains rs)));
    told = omega arith;
  }

-- ---- records that stand are read, and what was told stands
module _ {rs : List Record} {rows : List ℕ} {gains : List Float} where
  pub standing_read : {count : ℕ} → 5 * count ≤ length rows → count ≤ length gains → Standing rs rows gains count → records_in rows gains count ≡ rs
  unfolding records_in
  standing_read h k s = put_read h k s

  pub told_stands : (rows₀ : List ℕ) (gains₀ : List Float) → rows ≡ holding (flat_rows rs) rows₀ → gains ≡ holding (gains_of rs) gains₀ → Standing rs rows gains (length rs)
  told_stands rows₀ gains₀ p q =
      told_put (omega (arith, ap length p, length-append (flat_rows rs) (drop (length (flat_rows rs)) rows₀), length_rows rs))
      (omega (arith, ap length q, length-append (gains_of rs) (drop (length (gains_of rs)) gains₀), length_gains rs))
      (rw p (sym (holding_again (flat_rows rs) rows₀))) (rw q (sym (holding_again (gains_of rs) gains₀)))
