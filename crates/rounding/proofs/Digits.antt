-- What the bit pattern of a value above zero says of it, over the format. Assumes nothing.
use Rattle.std.proofs.Common.{◌≡◌, ℕ, zero, suc, ◌+◌, ◌*◌, ◌/◌, ◌%◌, ◌^◌, Bool, true, false, cond, not, T, eqb, leb, sym, refl, subst, mod-eq_of_lt, mul-one, eqb-true, leb-false}
use mathlib.Core.Bool.{false≢true}
use lib.Ieee.{Float, nan, inf, fin, Format, prec, low, odd, lt, hid, ones, top, fits, of_fields, of_bits, to_bits, is_nan}
use lib.Ieee.Exact.{HasValue, odd_sign}
use lib.Ieee.Bits.{of_bits-to_bits}
use Rattle.scope.specs.Floats.{+0}
use Rattle.rounding.proofs.Values.{Valued, valued}

-- the exponent's field F, and the digits t below the leading one
pub data Read (f : Format) (F t : ℕ) (x : Float) : Type 0 where
  infinite : F ≡ ones f → x ≡ inf false → Read f F t x
  subnormal : F ≡ 0 → Valued t (2 ^ low f) x → Read f F t x
  normal : (j : ℕ) → F ≡ suc j → Valued ((hid f + t) * 2 ^ j) (2 ^ low f) x → Read f F t x

pub above_no_nan : (x : Float) → lt +0 x ≡ true → T (not (is_nan x))
unfolding lt is_nan
above_no_nan nan p = absurd (false≢true p)
above_no_nan (inf s) p = tt
above_no_nan (fin s m e) p = tt

above_valued : (x : Float) {s : Bool} {a c : ℕ} → lt +0 x ≡ true → HasValue x s a c → (s ≡ false) × Valued a c x
unfolding lt
above_valued nan p h = absurd h
above_valued (inf t) p h = absurd h
above_valued (fin true m e) p h = absurd (false≢true p)
above_valued (fin false m e) p h = (sym h.0, valued m e h.1)

above_infinite : (b s : Bool) → lt +0 (cond b (inf s) nan) ≡ true → (s ≡ false) × (cond b (inf s) nan ≡ inf false)
unfolding lt
above_infinite true true p = absurd (false≢true p)
above_infinite true false p = (refl, refl)
above_infinite false s p = absurd (false≢true p)

read : (f : Format) (s : Bool) (F t : ℕ) → lt +0 (of_fields f s F t) ≡ true → (s ≡ false) × Read f F t (of_fields f s F t)
unfolding of_fields
read f s zero t p =
    let v = above_valued (odd (prec f) s t 0 (low f)) p (odd_sign (prec f) s t 0 (low f)) in
    (v.0, subnormal refl (rw mul-one at v.1))
read f s (suc j) t p = go (eqb (suc j) (ones f)) refl p
  where
    usual : Float
    usual = odd (prec f) s (hid f + t) j (low f)

    special : Float
    special = cond (eqb t 0) (inf s) nan

    go : (a : Bool) → eqb (suc j) (ones f) ≡ a → lt +0 (cond a special usual) ≡ true → (s ≡ false) × Read f (suc j) t (cond a special usual)
    go true e q = let v = above_infinite (eqb t 0) s q in (v.0, infinite (eqb-true (suc j) (ones f) e) v.1)
    go false e q = let v = above_valued usual q (odd_sign (prec f) s (hid f + t) j (low f)) in (v.0, normal j refl v.1)

reads_bits : (f : Format) (b : ℕ) → lt +0 (of_bits f b) ≡ true → Read f (b / hid f) (b % hid f) (of_bits f b)
unfolding of_bits
reads_bits f b p =
    let r = read f (leb (top f) b) (b % top f / hid f) (b % hid f) p in
    subst (λ (z : ℕ). Read f (z / hid f) (b % hid f) (of_bits f b)) (mod-eq_of_lt (leb-false (top f) b r.0)) r.1

pub reads : (f : Format) (x : Float) → T (fits f x) → lt +0 x ≡ true → Read f (to_bits f x / hid f) (to_bits f x % hid f) x
reads f x F p = rw (of_bits-to_bits f x F) at (reads_bits f (to_bits f x) (rw (of_bits-to_bits f x F) p))
