-- Plain data, for a walk: a type with its machine value. It says nothing of any crate.
--     word, float, truth, nothing      a usize, an f64, a bool, and the unit
--     of_struct, of-enum     a declared type, from what the check makes of it: the type, its laws, that its fields are plain, and that they can be copied
-- Assumes nothing.
use mathlib.Core.Path.{◌≡◌, refl}
use mathlib.Core.List.{[], ◌∷◌}
use seplogic.Ra.Ura.{Ura}
use mir.Syntax.{w64}
use native.Mathlib.Omega.{arith}
use lib.Ieee.{binary64}
use mir.Val.{Val, vint, vfloat, vbool, vunit}
use types.Logic.{Logic}
use denote.RattleType.{RattleType}
use denote.Exit.{yes, unchanged}
use denote.Laws.{Is, Tells, Makes, Lawful}
use denote.Builtin.{usize, f64, bool, unit}
use denote.Floats.{float_Tells, float_Lawful, float_Makes}
use denote.Plain.{uint_Tells, uint_Lawful, uint_Makes, bool_Tells, bool_Lawful, bool_Makes, Nothing-Tells, Nothing-Lawful, Nothing-Makes}
use denote.Struct.Struct.{Plains}
use denote.Struct.Declared as struct
use denote.Struct.Laws as LL
use denote.Enum.Enum.{Plainss, Few}
use denote.Enum.Declared as enum
use denote.Enum.Laws as EL

pub record Datum : Type 2 where
  pub row : RattleType
  pub mach : row.Denot → Val
  pub tells : Tells row (Is row) (λ x. mach x ∷ [])
  pub still : row.exit yes ≡ unchanged
  pub lawful : {M : Type 1} {𝓤 : Ura M} (𝓛 : Logic 𝓤) → Lawful 𝓛 row
  pub makes : {M : Type 1} {𝓤 : Ura M} (𝓛 : Logic 𝓤) → Makes 𝓛 row (Is row)

-- a value fits its type
abbrev pub Fit : (D : Datum) → D.row.Denot → Type 0
Fit D x = Is D.row x (D.mach x ∷ [])

abbrev pub word : Datum
word = record { row = usize; mach = λ n. vint w64 n; tells = uint_Tells w64; still = refl; lawful = λ 𝓛. uint_Lawful 𝓛 w64; makes = λ 𝓛. uint_Makes 𝓛 w64 }

pub zero_fits : Fit word 0
zero_fits = (refl, omega arith)

abbrev pub float : Datum
float = record { row = f64; mach = λ x. vfloat binary64 x; tells = float_Tells binary64; still = refl; lawful = λ 𝓛. float_Lawful 𝓛 binary64; makes = λ 𝓛. float_Makes 𝓛 binary64 }

abbrev pub truth : Datum
truth = record { row = bool; mach = λ x. vbool x; tells = bool_Tells; still = refl; lawful = λ 𝓛. bool_Lawful 𝓛; makes = λ 𝓛. bool_Makes 𝓛 }

abbrev pub nothing : Datum
nothing = record { row = unit; mach = λ x. vunit; tells = Nothing-Tells; still = refl; lawful = λ 𝓛. Nothing-Lawful 𝓛; makes = λ 𝓛. Nothing-Makes 𝓛 }

abbrev pub of_struct : (T : struct.Declared) → LL.Laws T → Plains (struct.fields T) → LL.Copyables T.parts → Datum
of_struct T L pl cs = record { row = struct.row T; mach = LL.val T L; tells = LL.tells T L; still = LL.still T cs yes; lawful = λ 𝓛. LL.lawful T L 𝓛; makes = λ 𝓛. LL.makes T pl 𝓛 }

abbrev pub of_enum : (T : enum.Declared) → EL.Laws T → Plainss (enum.variants T) → EL.Copyabless T.parts → Few (enum.shape T) → Datum
of_enum T L pl cs few = record { row = enum.row T; mach = EL.val T L; tells = EL.tells T L; still = EL.still T cs yes; lawful = λ 𝓛. EL.lawful T L 𝓛 few; makes = λ 𝓛. EL.makes T pl 𝓛 }
