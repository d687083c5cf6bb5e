-- `sort` meets its contract: each half is put in order by a call on a shorter slice, and their merge is the whole in order. Assumes nothing.
use Rattle.std.proofs.Common.{◌+◌, ◌/◌, ◌≡◌, ◌∙◌, ap, arith, length, length-append}
use Rattle.scope.specs.Neighbours.{ordered}
use Rattle.order.proofs.Halving.{merged_halves, halves_length, halves}
use Rattle.order.proofs.+sort.Goals as goal

pub merge-requires : goal.merge-requires
merge-requires t c =
    let n = length c.args.out.now in
    let m = n / 2 in
    let k = length c.split_at_mut-first.result.1.now in
    let both : m + k ≡ n = omega (arith, c.split_at_mut-first.ensures.back_len, c.requires.2) in
    let first = rw c.split_at_mut-first.ensures.front_len at c.sort.ensures in (
      halves c.args.ds.now c.requires.3 c.args.lo m k first c.sort-2.ensures c.requires.0 (omega arith) (omega arith) (omega arith),
      omega (arith, halves_length c.args.ds.now c.requires.3 c.args.lo m k first c.sort-2.ensures, length-append c.sort.new.spare c.sort-2.new.spare, c.split_at_mut-first_spare.ensures.front_len, c.split_at_mut-first_spare.ensures.back_len),
    )

pub returns : goal.returns
returns t c =
    let n = length c.args.out.now in
    let m = n / 2 in
    let k = length c.split_at_mut-first.result.1.now in
    let both : m + k ≡ n = omega (arith, c.split_at_mut-first.ensures.back_len, c.requires.2) in
    let first = rw c.split_at_mut-first.ensures.front_len at c.sort.ensures in
    c.merge.ensures ∙ merged_halves c.args.ds.now c.requires.3 c.args.lo m k first c.sort-2.ensures ∙ ap (ordered c.args.ds.now c.args.lo) both
