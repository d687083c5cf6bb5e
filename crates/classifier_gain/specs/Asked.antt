-- What a permutation test is asked, as document 01's values: three curves are lent with a count, and what lies beyond the count is not looked at.
use Rattle.std.specs.Prelude.{Bool, ◌&&◌, List, Float, map}
use Rattle.scope.specs.Floats.{is_finite}
use Rattle.scope.specs.Lists.{every}
use Rattle.scope.specs.Calls.{PermutationAsked}
use Rattle.control.specs.Settings.{shortest_of}
use Rattle.control.specs.declared.settings.Shortest.{Shortest}
use Rattle.permutations.specs.declared.Permutations.{Permutations}
use Rattle.classifier_gain.specs.declared.Curve.{Curve}
use Rattle.classifier_gain.specs.declared.Curves.{Curves}

-- the bases of curves, and their deltas
abbrev pub bases_of : List Curve → List Float
bases_of curves = map (λ c. c.base) curves

abbrev pub deltas_of : List Curve → List (List Float)
deltas_of curves = map (λ c. c.deltas.now) curves

-- its base and its deltas are
abbrev pub curve_is_finite : Curve → Bool
curve_is_finite c = is_finite c.base && every is_finite c.deltas.now

abbrev pub permutation_asked : Curves → Permutations → Shortest → Float → Float → PermutationAsked
permutation_asked curves permutations shortest alpha maximum = record {
  shortest = shortest_of shortest;
  alpha = alpha;
  maximum = maximum;
  k = curves.k;
  bases = bases_of curves.lent;
  curves = deltas_of curves.lent;
  P = permutations.p;
  permutations = permutations.indices.now;
}
