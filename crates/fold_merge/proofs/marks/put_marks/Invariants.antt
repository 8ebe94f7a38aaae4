use Rattle.std.proofs.Common.{◌≡◌, ◌≤◌, ◌++◌, drop, length, map}
use Rattle.file_grammar.specs.Sections.{object_of}
use Rattle.fold_merge.proofs.marks.put_marks.Given as goal

-- with those from the index on they are all marks of the image
abbrev pub invariant-loop-index : goal.invariant-loop-index
invariant-loop-index l = l.marks.items ++ map object_of (drop l.index l.image.marks) ≡ l.initial.marks.items ++ map object_of l.image.marks
