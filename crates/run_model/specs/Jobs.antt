-- What each verb prints, and what it writes.
use Rattle.std.specs.Prelude.{◌≡◌, ℕ, List, [], ◌∷◌, ◌++◌, length, map, Option, Some, None, IfSome}
use Rattle.live_model.specs.declared.levels.Level.{Level}
use Rattle.live_model.specs.declared.levels.Level.TheVariants.{Base, Hour}
use Rattle.live_model.specs.declared.objects.Entity.{Entity}
use Rattle.live_model.specs.declared.objects.Line.{Line}
use Rattle.live_model.specs.declared.queries.Query.{Query}
use Rattle.live_model.specs.declared.records.Rec.{Rec}
use Rattle.live_model.specs.declared.rows.Row.{Row}
use Rattle.live_model.specs.declared.rules.Rule.{Rule}
use Rattle.live_model.specs.CanonicalLines.{lines_text, nodes_in}
use Rattle.live_model.specs.Ids.{ordinal}
use Rattle.live_model.specs.Maps.{answer, folded, laid, map_of, overlay, published}
use Rattle.live_model.specs.OplTexts.{OplText}
use Rattle.live_model.specs.Rules.{RuleText}
use Rattle.live_model.specs.Stores.{apply}
use Rattle.stamp_core.specs.declared.head.Head.{Head}
use Rattle.stamp_core.specs.Heads.{IsGoodHead}
use Rattle.stamp_core.specs.Hours.{CivilHour, IsCivilHour}
use Rattle.file_grammar.specs.declared.parts.Version.{Version}
use Rattle.file_grammar.specs.Files.{IsFile, head_numbers}
use Rattle.obf_writer.specs.PackedFile.{IsPackedFile}
use Rattle.file_lines.specs.FileLines.{file_line}
use Rattle.query_text.specs.Lines.{answer_text}
use Rattle.line_texts.specs.Forms.{IsText}
use Rattle.script_text.specs.declared.steps.Step.{Step}
use Rattle.script_text.specs.Scripts.{script_form}
use Rattle.session_text.specs.Plays.{played_text}
use Rattle.run_model.specs.Requests.{Asked, nodes, dump, build, change_map, fold_files, ask_files, check, replay_script, level_of}
use Rattle.run_model.specs.MapFiles.{MapFile, first_rules, fold_head, map_files_in, overlays_in}
use Rattle.run_model.specs.Inputs.{Misfit, Plan, files_named, misfit_in, output_of, plan_of}

-- what is printed, and the bytes of the file that is written, where one is
pub record Outcome : Type 0 where
  pub answer : List ℕ
  pub written : Option (List ℕ)

abbrev pub prints : List ℕ → Outcome
prints answer = record { answer = answer; written = None }

-- the store is that of the lines that the text spells
pub record IsStoreOf (text : List ℕ) (store : List Entity) : Type 0 where
  pub lines : List Line
  pub spelled : OplText text lines
  pub same : store ≡ apply [] lines

-- this is printed of the store that the text makes, and nothing is written
pub record IsAnswered (text : List ℕ) (text_for : List Entity → List ℕ) (outcome : Outcome) : Type 0 where
  pub store : List Entity
  pub made : IsStoreOf text store
  pub same : outcome ≡ prints (text_for store)

-- the parts of a map file that is to be written
pub record Parts : Type 0 where
  pub head : Head
  pub rules : List Rule
  pub marks : List ℕ
  pub records : List Rec

-- written is the packed file of these parts, and its line is printed
pub record IsPacked (parts : Parts) (outcome : Outcome) : Type 0 where
  pub bytes : List ℕ
  pub file : IsPackedFile bytes (head_numbers parts.head) parts.rules parts.marks parts.records
  pub same : outcome ≡ record { answer = file_line parts.head (length parts.marks) (length parts.records); written = Some bytes }

-- a base has no hours
abbrev pub base_head : Head
base_head = record { level = Base; first = None; last = None }

-- a base has all records that the rules make of the store, and no marks
abbrev pub base_parts : List Rule → List Entity → Parts
base_parts rules store = record { head = base_head; rules = rules; marks = []; records = map_of rules store }

-- the packed base of the rules and the store is written, and its line is printed
pub record IsBuilt (table text : List ℕ) (outcome : Outcome) : Type 0 where
  pub rules : List Rule
  pub spelled : RuleText table rules
  pub store : List Entity
  pub made : IsStoreOf text store
  pub packed : IsPacked (base_parts rules store) outcome

-- the file of one hour
abbrev pub hour_head : CivilHour → Head
hour_head hour = record { level = Hour; first = Some hour; last = Some hour }

-- it has the overlay of lines over the map of a store: the marks, by their ordinals, and the records
abbrev pub hour_parts : CivilHour → List Rule → List Entity → List Line → Parts
hour_parts hour rules store lines =
    let o = overlay rules store lines in
    record { head = hour_head hour; rules = rules; marks = map ordinal o.marks; records = o.records }

-- each of these texts spells the lines beside it
abbrev pub AreTexts : List (List ℕ) → List (List Line) → Type 0
AreTexts [] [] = Unit {0}
AreTexts (text ∷ texts) (lines ∷ changes) = OplText text lines × AreTexts texts changes
AreTexts texts changes = ⊥

-- The base is changed by the lines of all texts but the last. Of the last, the packed file of the hour with its overlay is written, and
-- the line of this file is printed.
pub record IsChanged (hour : CivilHour) (table text : List ℕ) (texts : List (List ℕ)) (outcome : Outcome) : Type 0 where
  pub rules : List Rule
  pub spelled : RuleText table rules
  pub base : List Entity
  pub made : IsStoreOf text base
  pub earlier : List (List Line)
  pub last : List Line
  pub changes : AreTexts texts (earlier ++ last ∷ [])
  pub packed : IsPacked (hour_parts hour rules (published base earlier) last) outcome

-- what files become as one: all objects that any of them marks, by their ordinals, each with the records of the last that marks it
abbrev pub fold_parts : Level → List MapFile → Parts
fold_parts level files =
    let o = folded (overlays_in files) in
    record { head = fold_head level files; rules = first_rules files; marks = map ordinal o.marks; records = o.records }

-- the rows of a question over the records of the first file, with the others laid over them in order
abbrev pub rows_over : Query → List MapFile → List Row
rows_over query [] = []
rows_over query (base ∷ files) = answer base.rules query (laid base.overlay.records (overlays_in files))

-- the bytes are a map file of some version, and its line is printed
pub record IsChecked (bytes : List ℕ) (outcome : Outcome) : Type 0 where
  pub version : Version
  pub head : Head
  pub good : IsGoodHead head
  pub civil : IfSome head.first IsCivilHour × IfSome head.last IsCivilHour
  pub rules : List Rule
  pub marks : List ℕ
  pub records : List Rec
  pub file : IsFile bytes version (head_numbers head) rules marks records
  pub same : outcome ≡ prints (file_line head (length marks) (length records))

-- The steps that the script spells were played over the base with the changes that the texts spell, one for each publication in order, and
-- what is printed of that is the answer.
pub record IsPlayed (table text script : List ℕ) (texts : List (List ℕ)) (outcome : Outcome) : Type 0 where
  pub rules : List Rule
  pub spelled : RuleText table rules
  pub base : List Line
  pub lines : OplText text base
  pub steps : List Step
  pub read : IsText script_form script steps
  pub changes : List (List Line)
  pub spell : AreTexts texts changes
  pub same : outcome ≡ prints (played_text rules base steps changes)

-- the outcome of what is asked for, where the files that are read have these bytes, in their order
abbrev pub Job : Asked → List (List ℕ) → Outcome → Type 0
Job (nodes rect base) (text ∷ []) outcome = IsAnswered text (λ store. lines_text (nodes_in rect store)) outcome
Job (dump base) (text ∷ []) outcome = IsAnswered text lines_text outcome
Job (build rules base output) (table ∷ text ∷ []) outcome = IsBuilt table text outcome
Job (change_map rules base hour output changes) (table ∷ text ∷ texts) outcome = IsChanged hour table text texts outcome
Job (fold_files period output files) texts outcome = IsPacked (fold_parts (level_of period) (map_files_in texts)) outcome
Job (ask_files query files) texts outcome = outcome ≡ prints (answer_text (rows_over query (map_files_in texts)))
Job (check file) (bytes ∷ []) outcome = IsChecked bytes outcome
Job (replay_script rules base script) (table ∷ text ∷ bytes ∷ texts) outcome = IsPlayed table text bytes texts outcome
Job asked texts outcome = ⊥

-- What a run is to do, of whatever verb.
pub record Task : Type 1 where
  -- how many files its words name, where there may be any number of them
  pub file_count : ℕ
  -- the files that it reads, in order
  pub plan : Plan
  -- of good files the first that does not follow, as their texts tell
  pub misfit : List (List ℕ) → Option Misfit
  -- the name of the file that it writes, where there is one
  pub output : Option (List ℕ)
  -- what it prints and writes of these texts, in the order of the plan
  pub Does : List (List ℕ) → Outcome → Type 0

abbrev pub task_of : Asked → Task
task_of a = record { file_count = files_named a; plan = plan_of a; misfit = misfit_in a; output = output_of a; Does = Job a }

-- Law: where a file is written, the texts determine what is printed and what is written.
abbrev pub OneOutcomeLaw : Type 0
OneOutcomeLaw =
    (a : Asked) (output : List ℕ) (texts : List (List ℕ)) (one other : Outcome) → output_of a ≡ Some output → Job a texts one → Job a texts other → one ≡ other
