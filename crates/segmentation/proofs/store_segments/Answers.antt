-- `store_segments` meets its contract: the sums, and over them the records of the stored segments.
use Rattle.std.proofs.Common.{sym, ◌∙◌, arith}
use lib.Seq.{length-take-le}
use Rattle.scope.specs.Calls.{search_in, stored_of}
use Rattle.scope.proofs.Draws.{records_few}
use Rattle.control.specs.Settings.{matrix_of, shortest_of, source_of}
use Rattle.change_in_mean.proofs.Room.{sums_are, sums_part, row_within}
use Rattle.stored.specs.Flat.{Put}
use Rattle.stored.proofs.Flat.{put_told}
use Rattle.segmentation.specs.Segments.{stored_asked}
use Rattle.segmentation.proofs.Clean.{stored_clean, draws_within}
use Rattle.segmentation.proofs.store_segments.Goals as goal

pub calculate_cumsum-requires : goal.calculate_cumsum-requires
calculate_cumsum-requires c = let f = stored_clean _ c.requires in (f.sums.shape.columns.0, omega (arith, f.sums.total, f.sums.fits))

pub sums_len-requires : goal.sums_len-requires
sums_len-requires c = let f = stored_clean _ c.requires in (f.sums.shape.rows.1, f.sums.shape.columns.1)

pub slice_bounds-gain-end : goal.slice_bounds-gain-end
slice_bounds-gain-end c = let f = stored_clean _ c.requires in omega (arith, f.sums.fits)

pub slice_bounds-gain-end-2 : goal.slice_bounds-gain-end-2
slice_bounds-gain-end-2 c = let f = stored_clean _ c.requires in sym (length-take-le _ _ (omega (arith, f.sums.fits)))

pub store_records-requires-clause-n_bound : goal.store_records-requires-clause-n_bound
store_records-requires-clause-n_bound c =
    let f = stored_clean _ c.requires in
    let x = c.args.matrix in
    (f.sums.shape.rows.1, f.length_fits, rw c.sums_len.ensures (row_within x.n x.n x.d _ (omega arith) (omega (arith, f.sums.fits))))

pub store_records-requires-clause-layers_value : goal.store_records-requires-clause-layers_value
store_records-requires-clause-layers_value c =
    let f = stored_clean _ c.requires in
    let x = c.args.matrix in
    (f.layers_right, draws_within c.args.source.draws.now x.n x.d _ f.within f.sums.shape.rows.1 (rw c.sums_len.ensures (row_within x.n x.n x.d _ (omega arith) (omega (arith, f.sums.fits)))))

pub store_records-requires-clause-w_in_bounds : goal.store_records-requires-clause-w_in_bounds
store_records-requires-clause-w_in_bounds c = let f = stored_clean _ c.requires in (omega (arith, f.fits), omega (arith, f.fits))

pub returns : goal.returns
returns c =
    let s = c.args in
    let f = stored_clean _ c.requires in
    let a = stored_asked (matrix_of s.matrix) (shortest_of s.allowed.shortest) s.allowed.forbidden.now (source_of s.source) (record { sums = s.sums.now; rows = s.rows.now; gains = s.gains.now }) in
    let sums = c.calculate_cumsum.ensures in
    let part = sums_part a.matrix a.sums f.sums s.sums.now c.sums_len.ensures sums in
    let put : Put (stored_of a) 0 s.rows.now s.gains.now _ _ _ = rw part at c.store_records.ensures in
    let few = records_few (search_in a.matrix a.shortest a.forbidden) a.matrix.n a.source in
    let told = put_told (omega (arith, put.told, few, f.fits)) (omega (arith, put.told, few, f.fits)) put in
    record {
      count = omega (arith, put.told);
      held = record { sums_are = sums ∙ sums_are a.matrix a.sums f.sums s.sums.now; rows_are = told.0; gains_are = told.1 };
    }
