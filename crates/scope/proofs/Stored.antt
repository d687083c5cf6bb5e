-- How many records searches leave: at most one each, so at most one for each stored segment. Assumes nothing.
use mathlib.Core.Path.{◌≡◌, refl, ◌∙◌}
use mathlib.Core.List.{List, [], ◌∷◌, map}
use mathlib.Core.Option.{Option, none, some}
use Prim.Native.Nat.{ℕ, zero, suc, ◌≤◌}
use native.Mathlib.Numerals.{add-one}
use native.Mathlib.Omega.{arith}
use lib.Ieee.{Float}
use lib.ListN.{length, length-append, length-map}
use Rattle.scope.specs.Grid.{Record}
use Rattle.scope.specs.Origin.{layer}
use Rattle.scope.specs.Layers.{StoredSegment, of_origin, layer_count, layer_segments, seeded_from, layers_total, one, labelled, stored}

pub one_few : (o : Option Record) → length (one o) ≤ 1
one_few none = omega arith
one_few (some r) = omega arith

pub stored_few : (find : ℕ → ℕ → Option Record) (ss : List StoredSegment) → length (stored find ss) ≤ length ss
unfolding stored
stored_few find [] = omega arith
stored_few find (s ∷ ss) = simp length-append (omega (arith, one_few (labelled s.origin (find s.start s.stop)), stored_few find ss))

-- a layer has as many segments as it counts, and all layers together as their counts summed
pub length_layer : (n : ℕ) (v : Float) (k : ℕ) → length (layer_segments n v k) ≡ k
unfolding layer_segments
length_layer n v zero = refl
length_layer n v (suc k) = length-append (layer_segments n v k) _ ∙ rw (length_layer n v k, add-one)

pub length_seeded : (k n : ℕ) (layers : List Float) → length (seeded_from k n layers) ≡ layers_total layers
unfolding seeded_from layers_total
length_seeded k n [] = refl
length_seeded k n (v ∷ vs) =
    length-append (map (of_origin (layer k)) (layer_segments n v (layer_count v))) (seeded_from (suc k) n vs)
    ∙ rw (length-map (layer_segments n v (layer_count v)) (of_origin (layer k)), length_layer n v (layer_count v), length_seeded (suc k) n vs)
