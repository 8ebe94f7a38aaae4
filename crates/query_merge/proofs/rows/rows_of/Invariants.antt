use Rattle.std.proofs.Common.{◌≡◌, length, take}
use Rattle.std.specs.Prelude.{flat_map}
use Rattle.query_merge.specs.Rows.{rows_found}
use Rattle.query_merge.proofs.rows.rows_of.Given as goal

-- the rows of the records so far
abbrev pub invariant-loop-record : goal.invariant-loop-record
invariant-loop-record l = l.found.items ≡ flat_map (rows_found l.query) (take (length l.yielded) l.fn.records.items)
