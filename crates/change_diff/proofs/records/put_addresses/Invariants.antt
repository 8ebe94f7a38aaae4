use Rattle.std.proofs.Common.{◌≡◌, ◌++◌, length, map, take}
use Rattle.live_model.specs.declared.records.Rec.TheVariants.{Addr}
use Rattle.change_diff.proofs.records.put_addresses.Given as goal

-- the records so far stand at the end
abbrev pub invariant-loop-record : goal.invariant-loop-record
invariant-loop-record l = l.records.items ≡ l.initial.records.items ++ map Addr (take (length l.yielded) l.fn.addresses.items)
