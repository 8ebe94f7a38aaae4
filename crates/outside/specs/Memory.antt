-- Files and sinks in memory.
use Rattle.std.specs.Prelude.{List, [], ◌∷◌, Some, None, Bool, true, false, is_none, if◌then◌else◌}
use Rattle.std.specs.Str.{bytes_eq}
use Rattle.outside.specs.Files.{Contents}
use Rattle.outside.specs.declared.named_file.NamedFile.{NamedFile}

-- the bytes of the file of each name
abbrev pub contents_of : List NamedFile → Contents
contents_of [] name = None
contents_of (file ∷ files) name = if bytes_eq file.name name then Some file.bytes else contents_of files name

-- whether no two of the files have one name
abbrev pub names_differ : List NamedFile → Bool
names_differ [] = true
names_differ (file ∷ files) = if is_none (contents_of files file.name) then names_differ files else false
