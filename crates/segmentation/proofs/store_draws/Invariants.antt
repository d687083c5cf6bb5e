-- What the loop of `store_draws` keeps: the records of the pairs passed stand at the front, and the rest of the list is to leave the others.
use Rattle.std.proofs.Common.{◌≡◌}
use Rattle.std.specs.Iterator.Adapters.{enumerate_count, enumerate_source}
use Rattle.std.specs.Slice.Iter.{chunks_exact_rest, chunks_exact_size}
use Rattle.segmentation.specs.Segments.{search_over}
use Rattle.segmentation.proofs.Drawing.{Drawing}
use Rattle.segmentation.proofs.store_draws.Given as goal

abbrev pub invariant-loop-number : goal.invariant-loop-number
invariant-loop-number l =
    let chunks = enumerate_source l.number-iterator in
    record {
      two : chunks_exact_size chunks ≡ 2;
      can_next : (goal.iterator-loop-number).can_next l.number-iterator;
      ends : (goal.iterator-loop-number).is_finite l.number-iterator;
      drawing : Drawing (search_over l.gain l.allowed) l.draws l.w l.initial.rows l.initial.gains l.rows l.gains l.count (enumerate_count l.number-iterator) (chunks_exact_rest chunks);
    }
