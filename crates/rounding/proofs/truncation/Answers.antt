-- `rounding::truncation` meets its contract. Assumes nothing.
use Rattle.std.proofs.Common.{◌∙◌}
use Rattle.rounding.proofs.Whole.{ranged, asked, truncated}
use Rattle.rounding.proofs.truncation.Goals as goal

pub truncating_f64_to_u64-requires : goal.truncating_f64_to_u64-requires
truncating_f64_to_u64-requires c = let a = asked (ranged _ c.requires) in record { lower_bound = a.0; upper_bound = a.1 }

pub returns : goal.returns
returns c = c.truncating_f64_to_u64.ensures ∙ (truncated (ranged _ c.requires)).0
