-- `bits_of` meets its contract: all NaN have the bits of one.
use Rattle.std.proofs.Common.{◌≡◌, refl, sym, ◌∙◌, true}
use Rattle.std.specs.Float.{binary64}
use Rattle.std.specs.Float.Ieee.{Float, nan, inf, fin, is_nan, to_bits}
use Rattle.report.proofs.bits_of.Goals as goal

nan_bits : (x : Float) → is_nan x ≡ true → 0x7ff8_0000_0000_0000 ≡ to_bits binary64 x
unfolding is_nan to_bits
nan_bits nan h = refl
nan_bits (inf s) h = cc
nan_bits (fin s m e) h = cc

pub returns-then-is_nan : goal.returns-then-is_nan
returns-then-is_nan c = nan_bits c.args.gain (sym c.is_nan.ensures.value ∙ c.if-is_nan.true)
