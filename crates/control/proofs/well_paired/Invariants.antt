-- What the loop of `well_paired` keeps: the pairs passed are in order, and so it turns on the rest.
use Rattle.std.proofs.Common.{◌≡◌, ◌%◌, length}
use Rattle.std.specs.Slice.Iter.{chunks_exact_rest, chunks_exact_size}
use Rattle.scope.specs.Refusals.{well_paired}
use Rattle.control.proofs.well_paired.Given as goal

abbrev pub invariant-loop-pair : goal.invariant-loop-pair
invariant-loop-pair l =
    let left = chunks_exact_rest l.pair-iterator in
    record {
      two : chunks_exact_size l.pair-iterator ≡ 2;
      odd : length left % 2 ≡ length l.forbidden % 2;
      same : well_paired l.forbidden ≡ well_paired left;
    }
