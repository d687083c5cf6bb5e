-- What the loop of `any_past` keeps: the draws passed stop within the run, and so it turns on the rest.
use Rattle.std.proofs.Common.{◌≡◌}
use Rattle.std.specs.Slice.Iter.{chunks_exact_rest, chunks_exact_size}
use Rattle.scope.specs.Draws.{any_past}
use Rattle.draws.proofs.any_past.Given as goal

abbrev pub invariant-loop-pair : goal.invariant-loop-pair
invariant-loop-pair l =
    record {
      two : chunks_exact_size l.pair-iterator ≡ 2;
      same : any_past l.n l.draws ≡ any_past l.n (chunks_exact_rest l.pair-iterator);
    }
