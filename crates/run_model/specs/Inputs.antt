-- The files that a run reads, in their order, and how each of them breaks.
use Rattle.std.specs.Prelude.{ℕ, List, [], ◌∷◌, ◌++◌, codes, length, map, slice_get, unwrap_or, Option, Some, None}
use Rattle.std.specs.Option.{option_map}
use Rattle.std.specs.Fmt.{decimal as printed}
use Rattle.live_model.specs.OplTexts.{kind_name, text_break}
use Rattle.live_model.specs.Rules.{rule_kind_name, rules_break}
use Rattle.obf_wire.specs.Kinds.{file_name as file_kind_name}
use Rattle.file_grammar.specs.Files.{file_break}
use Rattle.line_texts.specs.Forms.{text_break as lines_break}
use Rattle.script_text.specs.Scripts.{script_form, script_kind_name}
use Rattle.run_model.specs.MapFiles.{map_files_in, placed_in}
use Rattle.run_model.specs.PlayedScripts.{changes_named, steps_in}
use Rattle.run_model.specs.Requests.{Asked, nodes, dump, build, change_map, fold_files, ask_files, check, replay_script, level_of}
use Rattle.run_model.specs.declared.breaks.Break.{Break}
use Rattle.run_model.specs.declared.breaks.Break.TheVariants.{InRules, InObjects, InFile, InScript}
use Rattle.file_order.specs.Folding.{not_fold}
use Rattle.file_order.specs.Runs.{not_run}
use Rattle.file_order.specs.declared.kinds.NotRun.{NotRun}
use Rattle.file_order.specs.declared.kinds.RunKind.{RunKind}

-- what a file is read as
pub data Grammar : Type 0 where
  rule_table : Grammar
  object_text : Grammar
  map_file : Grammar
  script_text : Grammar

-- a file that is read, by its name
pub record Input : Type 0 where
  pub name : List ℕ
  pub grammar : Grammar

abbrev pub input : List ℕ → Grammar → Input
input name grammar = record { name = name; grammar = grammar }

-- Which files are read: no more, or this one and then those that its text calls for. So a script may name the files that are
-- read after it.
pub data Plan : Type 0 where
  no_more : Plan
  reads : Input → (List ℕ → Plan) → Plan

-- these files, whatever their texts are
abbrev pub in_turn : List Input → Plan
in_turn [] = no_more
in_turn (file ∷ files) = reads file (λ text. in_turn files)

-- texts of objects of these names
abbrev pub object_texts : List (List ℕ) → List Input
object_texts names = map (λ name. input name object_text) names

-- map files of these names
abbrev pub map_files : List (List ℕ) → List Input
map_files names = map (λ name. input name map_file) names

-- a script, and then the texts of objects that its publications name
abbrev pub script_and_changes : List ℕ → Plan
script_and_changes script = reads (input script script_text) (λ bytes. in_turn (object_texts (changes_named (steps_in bytes))))

-- the files that are read, in order
abbrev pub plan_of : Asked → Plan
plan_of (nodes rect base) = in_turn (input base object_text ∷ [])
plan_of (dump base) = in_turn (input base object_text ∷ [])
plan_of (build rules base output) = in_turn (input rules rule_table ∷ input base object_text ∷ [])
plan_of (change_map rules base hour output changes) = in_turn (input rules rule_table ∷ input base object_text ∷ object_texts changes)
plan_of (fold_files period output files) = in_turn (map_files files)
plan_of (ask_files query files) = in_turn (map_files files)
plan_of (check file) = in_turn (input file map_file ∷ [])
plan_of (replay_script rules base script) = reads (input rules rule_table) (λ table. reads (input base object_text) (λ text. script_and_changes script))

-- the most files that words may name, where a verb takes no more than so many of them
abbrev pub most_files : ℕ
most_files = 1024

-- How many files the words name, where the verb takes no more than so many of them. The texts of a change are not counted, and neither
-- are those that a script names.
abbrev pub files_named : Asked → ℕ
files_named (fold_files period output files) = length files
files_named (ask_files query files) = length files
files_named a = 0

-- the name of the file that is written, where one is
abbrev pub output_of : Asked → Option (List ℕ)
output_of (build rules base output) = Some output
output_of (change_map rules base hour output changes) = Some output
output_of (fold_files period output files) = Some output
output_of a = None

-- how the bytes of a file break first; none where they are in the grammar
abbrev pub break_in : Grammar → List ℕ → Option Break
break_in rule_table bytes = option_map (λ b. InRules b) (rules_break bytes)
break_in object_text bytes = option_map (λ b. InObjects b) (text_break bytes)
break_in map_file bytes = option_map (λ b. InFile b) (file_break bytes)
break_in script_text bytes = option_map (λ b. InScript (record { at = b.0; kind = b.1 })) (lines_break script_form bytes)

-- the name of the kind, and the place
abbrev pub break_text : Break → List ℕ
break_text (InRules b) = rule_kind_name b.kind ++ codes " at " ++ printed b.at
break_text (InObjects b) = kind_name b.kind ++ codes " at " ++ printed b.at
break_text (InFile b) = file_kind_name b.kind ++ codes " at " ++ printed b.at
break_text (InScript b) = script_kind_name b.kind ++ codes " at " ++ printed b.at

-- a good file that does not follow those before it: its name, why, and its index among them
pub record Misfit : Type 0 where
  pub name : List ℕ
  pub kind : RunKind
  pub index : ℕ

-- the name of the file at this index
abbrev pub name_at : List (List ℕ) → ℕ → List ℕ
name_at names index = unwrap_or (slice_get names index) []

-- the misfit among files of these names
abbrev pub misfit_of : List (List ℕ) → NotRun → Misfit
misfit_of names told = record { name = name_at names told.index; kind = told.kind; index = told.index }

-- The first of good files that does not follow, as their texts tell: that cannot become one with those before it, or cannot be laid over
-- them. Every file of the other verbs stands alone.
abbrev pub misfit_in : Asked → List (List ℕ) → Option Misfit
misfit_in (fold_files period output files) texts = option_map (misfit_of files) (not_fold (level_of period) (map placed_in (map_files_in texts)))
misfit_in (ask_files query files) texts = option_map (misfit_of files) (not_run (map placed_in (map_files_in texts)))
misfit_in a texts = None
