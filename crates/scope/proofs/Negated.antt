-- What is rounded and then negated is what the negative rounds to: over the format. Assumes nothing.
use mathlib.Core.Path.{◌≡◌, ap}
use mathlib.Core.Bool.{Bool, true, false, not, cond, not-not}
use Prim.Native.Nat.{ℕ, zero, suc, ◌+◌, ◌*◌, ◌^◌}
use lib.Dec.{ltb}
use lib.Ieee.{inf, Format, prec, emax, low, odd, units, round, neg}
use lib.Ieee.Fits.{round_is}

neg_odd : (d : ℕ) (s : Bool) (q k l : ℕ) → neg (odd d (not s) q k l) ≡ odd d s q k l
unfolding neg odd
neg_odd d s zero k l = rw not-not
neg_odd d s (suc q) k l = rw not-not

neg_units : (f : Format) (s : Bool) (q k : ℕ) → neg (units f (not s) q k) ≡ units f s q k
unfolding units neg
neg_units f s q k = go (ltb (q * 2 ^ k) (2 ^ (low f + suc (emax f))))
  where
    go : (b : Bool) → neg (cond b (odd (suc (prec f)) (not s) q k (low f)) (inf (not s))) ≡ cond b (odd (suc (prec f)) s q k (low f)) (inf s)
    go true = neg_odd (suc (prec f)) s q k (low f)
    go false = ap inf (not-not s)

pub neg_round : (f : Format) (s : Bool) (a c : ℕ) → neg (round f (not s) a c) ≡ round f s a c
neg_round f s a c = rw (round_is f (not s) a c, round_is f s a c) (neg_units f s _ _)
