-- `why` meets its contract: a refusal, and nothing is told; or what the walk tells, with the sums and the stored segments' records left.
use Rattle.std.proofs.Common.{◌≡◌, refl, sym, arith, rules, Err, length-take-le, ◌≤◌, ◌^◌, length}
use Rattle.control.specs.Settings.{matrix_of, settings_of}
use Rattle.entry_why.proofs.Told.{refused_told, sizes, segments_clean, sums_within, records_within, text_fits, told, walks, told_is}
use Rattle.entry_why.proofs.why.Goals as goal

pub returns-in_err-why_refusal : goal.returns-in_err-why_refusal
returns-in_err-why_refusal c =
    let is : c.from_residual.result ≡ Err c.in_err-why_refusal.field-0.0 = search rules in
    rw is (refused_told (matrix_of c.args.matrix) (settings_of c.args.settings) _ _ _ _ c.record_room-room.ensures _ c.in_err-why_refusal.ensures)

pub store_segments-count-requires : goal.store_segments-count-requires
store_segments-count-requires c =
    segments_clean (matrix_of c.args.matrix) (settings_of c.args.settings) c.args.row.0 _ c.args.text.now _ c.record_room-room.ensures c.in_ok-why_refusal.ensures

pub sums_len-len-requires : goal.sums_len-len-requires
sums_len-len-requires c =
    sizes (matrix_of c.args.matrix) (settings_of c.args.settings) c.args.row.0 (record { sums = c.args.sums.now; rows = c.args.rows.now; gains = c.args.gains.now }) c.args.text.now _ c.record_room-room.ensures c.in_ok-why_refusal.ensures

pub slice_bounds-gain-end : goal.slice_bounds-gain-end
slice_bounds-gain-end c =
    let w =
    sums_within (matrix_of c.args.matrix) (settings_of c.args.settings) c.args.row.0 (record { sums = c.args.sums.now; rows = c.args.rows.now; gains = c.args.gains.now }) c.args.text.now _ c.record_room-room.ensures c.in_ok-why_refusal.ensures _ c.sums_len-len.ensures in
    omega (arith, w, c.store_segments-count.auto.sums)

pub slice_bounds-gain-end-2 : goal.slice_bounds-gain-end-2
slice_bounds-gain-end-2 c =
    let w =
    sums_within (matrix_of c.args.matrix) (settings_of c.args.settings) c.args.row.0 (record { sums = c.args.sums.now; rows = c.args.rows.now; gains = c.args.gains.now }) c.args.text.now _ c.record_room-room.ensures c.in_ok-why_refusal.ensures _ c.sums_len-len.ensures in
    sym (length-take-le _ _ (omega (arith, w, c.store_segments-count.auto.sums)))

pub invariant_of-records : goal.invariant_of-records
invariant_of-records c =
    let w =
    records_within (matrix_of c.args.matrix) (settings_of c.args.settings) c.args.row.0 _ c.args.text.now _ c.record_room-room.ensures c.in_ok-why_refusal.ensures _ _ c.store_segments-count.ensures in
    record { in_room = (omega (arith, w.0, c.store_segments-count.auto.rows), omega (arith, w.1, c.store_segments-count.auto.gains)) }

pub explain-why-requires : goal.explain-why-requires
explain-why-requires c =
    walks c.args.matrix.cells.now c.args.matrix.n _ c.args.row.0 _ c.args.text.now _ c.record_room-room.ensures c.in_ok-why_refusal.ensures _ _ c.store_segments-count.ensures
    _ c.sums_len-len.ensures refl _ refl refl refl

pub put_text-written-requires : goal.put_text-written-requires
put_text-written-requires c =
    let counted : length c.args.settings.source.draws.now ≤ 2 ^ 64 = omega arith in
    let is =
    told_is (matrix_of c.args.matrix) c.args.settings c.args.row.0 _ c.args.text.now _ c.record_room-room.ensures c.in_ok-why_refusal.ensures _ _ c.store_segments-count.ensures
    _ c.sums_len-len.ensures _ c.explain-why.ensures in
    text_fits (matrix_of c.args.matrix) (settings_of c.args.settings) c.args.row.0 _ c.args.text.now _ c.record_room-room.ensures c.in_ok-why_refusal.ensures counted c.explain-why.result is

pub returns : goal.returns
returns c =
    let counted : length c.args.settings.source.draws.now ≤ 2 ^ 64 = omega arith in
    let is =
    told_is (matrix_of c.args.matrix) c.args.settings c.args.row.0 _ c.args.text.now _ c.record_room-room.ensures c.in_ok-why_refusal.ensures _ _ c.store_segments-count.ensures
    _ c.sums_len-len.ensures _ c.explain-why.ensures in
    told (matrix_of c.args.matrix) (settings_of c.args.settings) c.args.row.0 _ c.args.text.now _ c.record_room-room.ensures c.in_ok-why_refusal.ensures counted
    _ _ c.store_segments-count.ensures c.explain-why.result is _ _ c.put_text-written.ensures
