-- How a run ends, and the line on the error sink that tells it.
use Rattle.std.specs.Prelude.{ℕ, List, [], ◌++◌, codes}
use Rattle.std.specs.Fmt.{decimal as printed}
use Rattle.file_order.specs.Kinds.{run_kind_name}
use Rattle.run_model.specs.Inputs.{Misfit, break_text}
use Rattle.run_model.specs.declared.breaks.Break.{Break}
use Rattle.run_model.specs.declared.name.Name.{Name}
use Rattle.run_model.specs.declared.name.Name.TheVariants.{Given, Made}
use Rattle.run_model.specs.declared.status.Status.{Status}
use Rattle.run_model.specs.declared.status.Status.TheVariants as status

-- The whole answer was received; the words ask for nothing; they name too many files; a file of this name has this break; a good file
-- does not follow those before it; a read of a file failed; a write of it failed; a put of the answer failed; out of memory; the file
-- is, or would get, over the limit.
pub data Ending : Type 0 where
  done : Ending
  bad_words : Ending
  too_many_files : Ending
  refused : (name : List ℕ) → Break → Ending
  misfit : Misfit → Ending
  read_fault : (name : List ℕ) → Ending
  write_fault : (name : List ℕ) → Ending
  answer_fault : Ending
  no_memory : Ending
  over_limit : (name : List ℕ) → Ending

-- the bytes of a name, given or made
abbrev pub name_bytes : Name → List ℕ
name_bytes (Given text) = text.now
name_bytes (Made text) = text

-- the ending of a status
abbrev pub ending : Status → Ending
ending status.Ok = done
ending status.BadWords = bad_words
ending status.TooManyFiles = too_many_files
ending (status.Refused file first) = refused (name_bytes file) first
ending (status.Misfit file kind index) = misfit (record { name = name_bytes file; kind = kind; index = index })
ending (status.ReadFault file) = read_fault (name_bytes file)
ending (status.WriteFault file) = write_fault (name_bytes file)
ending status.AnswerFault = answer_fault
ending status.NoMemory = no_memory
ending (status.Limit file) = over_limit (name_bytes file)

abbrev pub code_of : Ending → ℕ
code_of done = 0
code_of bad_words = 2
code_of (refused name first) = 3
code_of (misfit which) = 3
code_of (read_fault name) = 4
code_of (write_fault name) = 5
code_of answer_fault = 5
code_of no_memory = 6
code_of (over_limit name) = 7
code_of too_many_files = 7

-- nothing where the run is done, and else a whole line
abbrev pub ending_line : Ending → List ℕ
ending_line done = []
ending_line bad_words = codes "obf: the words are none of the ten forms\n"
ending_line too_many_files = codes "obf: too many files\n"
ending_line (refused name first) = codes "obf: " ++ name ++ codes ": " ++ break_text first ++ codes "\n"
ending_line (misfit which) = codes "obf: " ++ which.name ++ codes ": " ++ run_kind_name which.kind ++ codes " as file " ++ printed which.index ++ codes "\n"
ending_line (read_fault name) = codes "obf: cannot read " ++ name ++ codes "\n"
ending_line (write_fault name) = codes "obf: cannot write " ++ name ++ codes "\n"
ending_line answer_fault = codes "obf: cannot write the answer\n"
ending_line no_memory = codes "obf: no memory\n"
ending_line (over_limit name) = codes "obf: " ++ name ++ codes ": over the limit\n"

-- the line names a file
abbrev pub NamesFile : Ending → Type 0
NamesFile (refused name first) = Unit {0}
NamesFile (misfit which) = Unit {0}
NamesFile (read_fault name) = Unit {0}
NamesFile (write_fault name) = Unit {0}
NamesFile (over_limit name) = Unit {0}
NamesFile e = ⊥
