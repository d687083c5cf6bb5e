-- The code's origins and records stand for the definitions', one for one; and two numbers in lent memory for an origin. Assumes nothing.
use mathlib.Core.Path.{◌≡◌, refl}
use Rattle.scope.specs.Origin.{direct, layer, draw, kind_of, number_of, origin_of}
use Rattle.scope.specs.Origin as scope
use Rattle.scope.specs.Grid.{Record}
use Rattle.optimizer.specs.declared.optimizer_result.Origin.{Origin}
use Rattle.optimizer.specs.declared.optimizer_result.Origin.TheVariants.{Direct, Layer, Draw}
use Rattle.optimizer.specs.declared.optimizer_result.GainRecord.{GainRecord}
use Rattle.optimizer.specs.Records.{to_origin, from_origin, to_record, from_record}

pub to_from_origin : (o : scope.Origin) → to_origin (from_origin o) ≡ o
to_from_origin direct = refl
to_from_origin (layer k) = refl
to_from_origin (draw k) = refl

pub from_to_origin : (o : Origin) → from_origin (to_origin o) ≡ o
from_to_origin Direct = refl
from_to_origin (Layer k) = refl
from_to_origin (Draw k) = refl

pub to_from : (r : Record) → to_record (from_record r) ≡ r
to_from r = rw (to_from_origin r.origin)

pub from_to : (r : GainRecord) → from_record (to_record r) ≡ r
from_to r = rw (from_to_origin r.origin)

-- what was put is read back
pub numbers_back : (o : scope.Origin) → origin_of (kind_of o) (number_of o) ≡ o
unfolding origin_of
numbers_back direct = refl
numbers_back (layer k) = refl
numbers_back (draw k) = refl
