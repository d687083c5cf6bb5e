-- The first records of lent memory, as one value.
use Rattle.std.specs.Prelude.{List}
use Rattle.scope.specs.Grid.{Record}
use Rattle.stored.specs.declared.records.Records.{Records}
use Rattle.stored.specs.Flat.{records_in}

-- the records that stand there
abbrev pub records_of : Records → List Record
records_of records = records_in records.rows.now records.gains.now records.count
