-- What is answered, as document 01's values.
use Rattle.scope.specs.Calls.{Tested}
use Rattle.entry_curves.specs.declared.TestResult.{TestResult}

abbrev pub to_tested : TestResult → Tested
to_tested r = record { counted = r.counter; p = r.p_value; significant = r.is_significant }
