-- A layer, worked out once for all its segments.
use Rattle.std.specs.Prelude.{◌≡◌, true, ℕ, ◌≤◌, Float}
use Rattle.scope.specs.Refusals.{is_layer}
use Rattle.scope.specs.Rounding.{to_f32, ceiling}
use Rattle.scope.specs.Layers.{layer_length, layer_count, layer_step}

-- its values are those of document 01
pub record Made (n : ℕ) (value : Float) (count : ℕ) (step : Float) (length : ℕ) : Type 0 where
  pub rows : n ≤ 4096
  pub is_layer_lem : is_layer value ≡ true
  pub counted : count ≡ layer_count value
  pub stepped : step ≡ layer_step n value
  pub long : length ≡ ceiling (to_f32 (layer_length n value))
