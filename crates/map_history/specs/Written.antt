-- The files of a base and of changes, and what is to hold of them.
use Rattle.std.specs.Prelude.{◌≡◌, ℕ, List, [], ◌∷◌, ◌++◌, map}
use Rattle.std.specs.List.{AllByRecursion}
use Rattle.std.specs.Ordering.{nat_cmp}
use Rattle.ordered_lists.specs.Ordered.{IsRisingBy}
use Rattle.live_model.specs.declared.objects.Line.{Line}
use Rattle.live_model.specs.declared.queries.Query.{Query}
use Rattle.live_model.specs.declared.rules.Rule.{Rule}
use Rattle.live_model.specs.MapLaws.{overlays}
use Rattle.live_model.specs.Maps.{answer, published, rebuilt}
use Rattle.live_model.specs.Objects.{IsGoodLine}
use Rattle.live_model.specs.Stores.{apply}
use Rattle.stamp_core.specs.Hours.{CivilHour, number_of}
use Rattle.file_grammar.specs.Files.{head_numbers, whole}
use Rattle.file_grammar.specs.Readings.{IsInMemory}
use Rattle.obf_reader.specs.Images.{IsImage, Seen}
use Rattle.obf_reader.specs.Overlays.{overlay_of, records_in}
use Rattle.obf_writer.specs.PackedFile.{IsPackedFile}
use Rattle.query_merge.specs.Questions.{answer_over}
use Rattle.run_model.specs.Jobs.{Parts, base_parts, hour_parts}

-- Changes.

-- the lines that are applied, and the hour of their file
pub record Change : Type 0 where
  pub hour : CivilHour
  pub lines : List Line

-- the lines of each
abbrev pub lines_of : List Change → List (List Line)
lines_of changes = map (λ c. c.lines) changes

-- a base and changes, all of good lines, and the hours rise
pub record IsHistory (base : List Line) (changes : List Change) : Type 0 where
  pub base_good : AllByRecursion IsGoodLine base
  pub good : AllByRecursion (AllByRecursion IsGoodLine) (lines_of changes)
  pub rising : IsRisingBy nat_cmp (λ c. number_of c.hour) changes

-- Their files.

-- the bytes are the packed file of these parts
abbrev pub IsFileOf : Parts → List ℕ → Type 0
IsFileOf parts bytes = IsPackedFile bytes (head_numbers parts.head) parts.rules parts.marks parts.records

-- each of these is the file of a change, over the base with all lines before
abbrev pub AreFilesOfChanges : List Rule → List Line → List (List Line) → List Change → List (List ℕ) → Type 0
AreFilesOfChanges rules base earlier [] [] = Unit {0}
AreFilesOfChanges rules base earlier (c ∷ cs) (bytes ∷ more) =
    IsFileOf (hour_parts c.hour rules (published (apply [] base) earlier) c.lines) bytes × AreFilesOfChanges rules base (earlier ++ c.lines ∷ []) cs more
AreFilesOfChanges rules base earlier changes files = ⊥

-- the first is the file of the base, and the others are those of the changes
abbrev pub AreFilesOf : List Rule → List Line → List Change → List (List ℕ) → Type 0
AreFilesOf rules base changes [] = ⊥
AreFilesOf rules base changes (bytes ∷ more) = IsFileOf (base_parts rules (apply [] base)) bytes × AreFilesOfChanges rules base [] changes more

-- Files that were read.

-- an image, and its bytes are in memory
abbrev pub IsRead : Seen → Type 0
IsRead image = IsImage image × IsInMemory (whole image.bytes)

-- images with the files of a history
pub record AreOfHistory (rules : List Rule) (base : List Line) (changes : List Change) (images : List Seen) : Type 0 where
  pub history : IsHistory base changes
  pub files : AreFilesOf rules base changes (map (λ i. i.bytes) images)

-- the first has the rules and the records of the base, and the others hold the overlays of the changes
abbrev pub HoldHistory : List Rule → List Line → List Change → List Seen → Type 0
HoldHistory rules base changes [] = ⊥
HoldHistory rules base changes (first ∷ later) =
    (first.rules ≡ rules) × ((records_in first.bytes ≡ rebuilt rules base []) × (map overlay_of later ≡ overlays rules (apply [] base) (lines_of changes)))

-- where they are, they answer as the map made anew
abbrev pub AnswersAsRebuilt : List Seen → Type 0
AnswersAsRebuilt images =
    (rules : List Rule) (base : List Line) (changes : List Change) (query : Query) → AreOfHistory rules base changes images
    → answer_over query images ≡ answer rules query (rebuilt rules base (lines_of changes))
