-- The record of `search`, or none, from a search's answer. Assumes nothing.
use mathlib.Core.Path.{◌≡◌, sym}
use mathlib.Core.List.{List}
use mathlib.Core.Option.{none, some}
use Prim.Native.Nat.{ℕ}
use lib.Ieee.{Float}
use Rattle.scope.specs.Refusals.{refused, given}
use Rattle.scope.specs.Asked.{Shortest}
use Rattle.scope.specs.Grid.{Record, search}
use Rattle.optimizer.specs.Records.{searched}
use Rattle.optimizer.proofs.Found.{found_search, found_ends, refused_search}

module _ (gain : ℕ → ℕ → ℕ → Float) (short : Shortest) (forbidden : List ℕ) (start stop : ℕ) where
  pub record_some : (r : Record) → given r ≡ searched gain short forbidden start stop → search gain short forbidden start stop ≡ some r
  record_some r h = found_search gain short forbidden start stop r (sym h)

  pub record_ends : (r : Record) → given r ≡ searched gain short forbidden start stop → (r.start ≡ start) × (r.stop ≡ stop)
  record_ends r h = found_ends gain short forbidden start stop r (sym h)

  pub refused_none : (k : ℕ) → refused k ≡ searched gain short forbidden start stop → search gain short forbidden start stop ≡ none
  refused_none k h = refused_search gain short forbidden start stop k (sym h)
