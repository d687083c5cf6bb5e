-- Origin: "Say where a cut came from". Where a gain record comes from, and its text.
use Rattle.std.specs.Prelude.{cond, List, ◌++◌, ℕ, eqb}
use Rattle.scope.specs.Text.{bytes, decimal}

-- "direct, layer number from 1, or place in the draw list from 0"
pub data Origin : Type 0 where
  direct : Origin
  layer : ℕ → Origin
  draw : ℕ → Origin

-- "The tool's text form is `direct`, `layer K` or `draw K`": a blank before the number
unfoldable pub origin_text : Origin → List ℕ
origin_text direct = bytes "direct"
origin_text (layer k) = bytes "layer " ++ decimal k
origin_text (draw k) = bytes "draw " ++ decimal k

-- "in 25 lent bytes or more"
abbrev pub origin_room : ℕ
origin_room = 25

-- in lent memory two whole numbers stand for it: its kind, 0 direct, 1 layer, 2 draw, and its number, direct's being 0
abbrev pub kind_of : Origin → ℕ
kind_of direct = 0
kind_of (layer k) = 1
kind_of (draw k) = 2

abbrev pub number_of : Origin → ℕ
number_of direct = 0
number_of (layer k) = k
number_of (draw k) = k

-- and the origin that two numbers stand for
unfoldable pub origin_of : ℕ → ℕ → Origin
origin_of kind number = cond (eqb kind 0) direct (cond (eqb kind 1) (layer number) (draw number))
