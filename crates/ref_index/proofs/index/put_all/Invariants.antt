use Rattle.std.proofs.Common.{◌≡◌, ◌++◌, take}
use Rattle.ref_index.proofs.index.put_all.Given as goal

abbrev pub invariant-loop-user : goal.invariant-loop-user
invariant-loop-user l = l.kept.items ≡ l.initial.kept.items ++ take l.user-index l.users
