-- What one more note adds.
use Rattle.std.specs.Prelude.{◌++◌, ◌∷◌, []}
use Rattle.outside.specs.Readings.{Noted, reading, writing}
use Rattle.outside.specs.declared.trace.Note.{Note}
use Rattle.outside.specs.declared.trace.Note.TheVariants as note

abbrev pub with_note : Noted → Note → Noted
with_note noted (note.Given name place room bytes) = record noted { given = noted.given ++ reading name.now place room bytes.now ∷ [] }
with_note noted (note.Written name bytes is_done) = record noted { writes = noted.writes ++ writing name.now bytes.now is_done ∷ [] }
with_note noted (note.Received bytes) = record noted { received = noted.received ++ bytes.now }
