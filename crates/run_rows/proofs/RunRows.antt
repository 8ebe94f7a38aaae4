-- Small requests, files and runs, with what the definitions make of them.
use Rattle.std.proofs.Common.{◌≡◌, ◌⊎◌, ℕ, ◌<◌, ◌≤◌, List, [], ◌∷◌, ◌++◌, length, refl, sym, ◌∙◌, ap, subst, inl, inr, Option, Some, None, arith, append-nil}
use Rattle.std.specs.Prelude.{codes, map, pos, ◌^◌, Result, Ok, Err, Bool, true, false, nat_lt}
use Rattle.std.specs.Fmt.{digits}
use Rattle.std.specs.Str.{bytes_eq, is_utf8, chars}
use Rattle.std.specs.Option.{option_map}
use Rattle.std.specs.List.{AllByRecursion, list_all}
use Rattle.std.proofs.Math.Utf8.{encode}
use Rattle.std.proofs.lemmas.Bool.{lt-ltb, le-ltb, ltb-true, leb-true, and_parts}
use Rattle.std.proofs.lemmas.Slice.Eq.{bytes_eq-Decides}
use Rattle.text_pieces.specs.Lines.{lines_from, fields_from}
use Rattle.text_pieces.specs.Numbers.{number_of, id_of}
use Rattle.text_pieces.specs.Coordinates.{magnitude_of, degrees_of, magnitude_text, degrees_text}
use Rattle.text_pieces.specs.Escapes.{character_of, unescaped, text_of, escaped}
use Rattle.live_model.specs.declared.levels.Level.{Level}
use Rattle.live_model.specs.declared.levels.Level.TheVariants.{Hour, Day, Month}
use Rattle.live_model.specs.declared.objects.Entity.{Entity}
use Rattle.live_model.specs.declared.objects.Line.TheVariants.{Live}
use Rattle.live_model.specs.declared.ids.Kind.TheVariants.{Node}
use Rattle.live_model.specs.Ids.{ordinal}
use Rattle.live_model.specs.declared.opl.OplKind.TheVariants as opl
use Rattle.obf_wire.specs.declared.file.FileBreak.{FileBreak}
use Rattle.live_model.specs.declared.points.Rect.{Rect}
use Rattle.live_model.specs.declared.queries.Query.{Query}
use Rattle.live_model.specs.declared.queries.Query.TheVariants.{View, Prefix}
use Rattle.live_model.specs.QueryTexts.{query_of}
use Rattle.live_model.specs.declared.classes.Class.TheVariants.{Map as MapClass}
use Rattle.live_model.specs.declared.shapes.Shape.TheVariants.{Point as PointShape}
use Rattle.live_model.specs.declared.records.Rec.TheVariants.{Map}
use Rattle.live_model.specs.declared.records.Rec.{Rec}
use Rattle.live_model.specs.declared.rules.Rule.{Rule}
use Rattle.live_model.specs.declared.rules.RuleKind.TheVariants as rule
use Rattle.live_model.specs.FieldValues.{object_of, ref_of, version_of, gone_of, is_count, is_time, coordinate_of, tag_of, pairs_of, refs_of, member_of, members_of}
use Rattle.live_model.specs.ObjectLines.{letter_of, line_of}
use Rattle.live_model.specs.LineTests.{tests_of, break_of}
use Rattle.live_model.specs.OplTexts.{text_break}
use Rattle.live_model.specs.CanonicalLines.{id_text, tag_text, ref_text, member_text, row_text, line_text}
use Rattle.live_model.specs.Points.{rect_of}
use Rattle.live_model.specs.Rules.{shape_of, admitted_of, zoom_of, poi_of, named_class, rule_fields, rule_of, rule_tests, rule_break, rules_break, rule_row, rule_line}
use Rattle.live_model.specs.Records.{records}
use Rattle.stamp_core.specs.Calendar.{days_in_month}
use Rattle.stamp_core.specs.Hours.{CivilHour, IsCivilHour, civil_hour}
use Rattle.stamp_core.specs.declared.head.Head.{Head}
use Rattle.obf_wire.specs.Fields.{field_at}
use Rattle.obf_wire.specs.Varint as X
use Rattle.obf_wire.specs.Varint.{varint, varint_in}
use Rattle.obf_wire.specs.declared.file.FileKind.TheVariants as file
use Rattle.file_grammar.specs.declared.parts.Part.TheVariants.{File}
use Rattle.file_grammar.specs.Messages.{Fields, ends, IsMessage}
use Rattle.file_grammar.specs.Readings.{IsInMemory, message_from, message_at}
use Rattle.file_grammar.specs.Facts.{first_failing}
use Rattle.file_grammar.specs.BoxRules.{section_facts}
use Rattle.file_grammar.specs.declared.parts.Version.{Version}
use Rattle.file_grammar.specs.declared.parts.Version.TheVariants.{Two}
use Rattle.file_grammar.specs.Files.{FileParts, IsFile, file_facts, file_in, head_numbers, whole}
use Rattle.file_grammar.proofs.Earlier.{one_first_break_law}
use Rattle.file_grammar.proofs.ReadIsSpelled.{read_is_spelled}
use Rattle.boxed_write.specs.Packed.{packed}
use Rattle.file_grammar.specs.AddressRules.{keyed_facts}
use Rattle.file_grammar.specs.PoiRules.{groups_facts}
use Rattle.addr_section.specs.Packed.{packed_addresses}
use Rattle.poi_section.specs.Packed.{packed_pois}
use Rattle.obf_writer.specs.PackedFile.{packed_file, IsPackedFile}
use Rattle.script_text.specs.Scripts.{lane_of, step_break, step_of, verb_of as script_verb_of}
use Rattle.script_text.specs.declared.breaks.ScriptKind.TheVariants as step
use Rattle.outside.specs.declared.named_file.NamedFile.{NamedFile}
use Rattle.outside.specs.Faults.{Rose}
use Rattle.outside.specs.Files.{Contents, FilesState, Lacks, OnlyReads, OthersStay, Replaces}
use Rattle.outside.specs.Memory.{contents_of}
use Rattle.outside.specs.Readings.{Reading, reading, writing}
use Rattle.outside.specs.Sinks.{SinkState}
use Rattle.outside.specs.Whole.{IsWhole}
use Rattle.run_model.specs.declared.breaks.Break.{Break}
use Rattle.run_model.specs.declared.breaks.Break.TheVariants.{InRules, InObjects, InFile, InScript}
use Rattle.run_model.specs.declared.request.Period.TheVariants as period
use Rattle.run_model.specs.MapFiles.{MapFile, map_file_in, parts_in, placed_in}
use Rattle.run_model.specs.Requests.{Asked, BeginsQuestion, ask_files, asked_by, nodes, dump, build, check, fold_files, replay_script}
use Rattle.file_order.specs.declared.kinds.RunKind.TheVariants as kind
use Rattle.run_model.specs.Inputs.{Input, Misfit, Plan, files_named, misfit_in, input, in_turn, plan_of, script_and_changes, output_of, break_in, break_text, no_more, reads, rule_table, object_text, object_texts, map_file, script_text}
use Rattle.file_lines.specs.FileLines.{file_line}
use Rattle.run_model.specs.Jobs.{IsStoreOf, Job, Outcome, Parts, base_head, fold_parts, prints, task_of}
use Rattle.run_model.specs.Endings.{Ending, done, bad_words, too_many_files, misfit, refused, read_fault, write_fault, answer_fault, no_memory, over_limit, code_of, ending_line}
use Rattle.run_model.specs.Reads.{limit, ReadsBroken, ReadsGood, ReadInOrder, EndsAmong}
use Rattle.run_model.specs.Runs.{Cause, Caused, Completes, Holds, IsTooLong, IsWrittenAs, Keeps, NoFault, Run, PutsLine, change, changed_by, due_for, first_stop, stop_in}

-- all that the rows compute with
opened : Unit {0}
unfolding lines_from fields_from number_of id_of magnitude_of degrees_of magnitude_text degrees_text character_of unescaped text_of escaped rect_of object_of ref_of version_of gone_of is_count is_time coordinate_of tag_of pairs_of refs_of member_of members_of letter_of line_of tests_of break_of text_break id_text tag_text ref_text member_text row_text line_text shape_of admitted_of zoom_of poi_of named_class rule_fields rule_of rule_tests rule_break rules_break rule_row rule_line records digits is_utf8 chars encode message_from field_at varint_in file_facts section_facts keyed_facts groups_facts packed_file packed packed_addresses packed_pois varint X.groups query_of parts_in lane_of script_verb_of step_of step_break
opened = tt

-- Words.

abbrev rect : ℕ → ℕ → ℕ → ℕ → Rect
rect left top right bottom = record { left = left; top = top; right = right; bottom = bottom }

words_nodes : asked_by (codes "nodes" ∷ codes "13.1 52 14 52.4" ∷ codes "town.opl" ∷ []) ≡ Some (nodes (rect 1931000000 376000000 1940000000 380000000) (codes "town.opl"))
unfolding opened
words_nodes = refl

words_dump : asked_by (codes "dump" ∷ codes "a.opl" ∷ []) ≡ Some (dump (codes "a.opl"))
words_dump = refl

words_check : asked_by (codes "check" ∷ codes "a.obf" ∷ []) ≡ Some (check (codes "a.obf"))
words_check = refl

words_ask : asked_by (codes "ask" ∷ codes "V 13.1 52.4 13.101 52.401 15" ∷ codes "town.obf" ∷ codes "h1.obf" ∷ [])
    ≡ Some (ask_files (View (rect 1931000000 375990000 1931010000 376000000) 15) (codes "town.obf" ∷ codes "h1.obf" ∷ []))
unfolding opened
words_ask = refl

-- the text of a question keeps its case
words_ask_text : asked_by (codes "ask" ∷ codes "A STRASSE" ∷ codes "a" ∷ []) ≡ Some (ask_files (Prefix (codes "STRASSE")) (codes "a" ∷ []))
unfolding opened
words_ask_text = refl

words_fold : asked_by (codes "fold" ∷ codes "day" ∷ codes "d.obf" ∷ codes "h1.obf" ∷ codes "h2.obf" ∷ [])
    ≡ Some (fold_files period.Day (codes "d.obf") (codes "h1.obf" ∷ codes "h2.obf" ∷ []))
words_fold = refl

-- one file may become a month, under its own name
words_fold_alone : asked_by (codes "fold" ∷ codes "month" ∷ codes "a" ∷ codes "a" ∷ []) ≡ Some (fold_files period.Month (codes "a") (codes "a" ∷ []))
words_fold_alone = refl

words_replay : asked_by (codes "replay" ∷ codes "town.rules" ∷ codes "town.opl" ∷ codes "s.txt" ∷ []) ≡ Some (replay_script (codes "town.rules") (codes "town.opl") (codes "s.txt"))
words_replay = refl

words_build : asked_by (codes "build" ∷ codes "a.rules" ∷ codes "a.opl" ∷ codes "a.obf" ∷ []) ≡ Some (build (codes "a.rules") (codes "a.opl") (codes "a.obf"))
words_build = refl

-- a name may be empty, and one name may come twice
words_of_odd_names : asked_by (codes "build" ∷ [] ∷ codes "a" ∷ codes "a" ∷ []) ≡ Some (build [] (codes "a") (codes "a"))
words_of_odd_names = refl

no_words : asked_by [] ≡ None
no_words = refl

verb_alone : (asked_by (codes "dump" ∷ []) ≡ None) × (asked_by (codes "nodes" ∷ []) ≡ None)
verb_alone = (refl, refl)

unknown_verb : (asked_by (codes "paint" ∷ codes "a" ∷ []) ≡ None) × (asked_by (codes "paint" ∷ codes "0 0 1 1" ∷ codes "a" ∷ []) ≡ None)
    × (asked_by (codes "paint" ∷ codes "a" ∷ codes "b" ∷ codes "c" ∷ []) ≡ None)
unknown_verb = (refl, refl, refl)

verb_of_other_case : (asked_by (codes "Dump" ∷ codes "a" ∷ []) ≡ None) × (asked_by (codes "check " ∷ codes "a" ∷ []) ≡ None)
verb_of_other_case = (refl, refl)

-- the verbs that there are, with too few words and with too many
nodes_miscounted : (asked_by (codes "nodes" ∷ codes "0 0 1 1" ∷ []) ≡ None) × (asked_by (codes "nodes" ∷ codes "0 0 1 1" ∷ codes "a" ∷ codes "b" ∷ []) ≡ None)
nodes_miscounted = (refl, refl)

dump_miscounted : (asked_by (codes "dump" ∷ codes "0 0 1 1" ∷ codes "b" ∷ []) ≡ None) × (asked_by (codes "dump" ∷ codes "a" ∷ codes "b" ∷ codes "c" ∷ []) ≡ None)
dump_miscounted = (refl, refl)

check_miscounted : (asked_by (codes "check" ∷ codes "0 0 1 1" ∷ codes "b" ∷ []) ≡ None) × (asked_by (codes "check" ∷ codes "a" ∷ codes "b" ∷ codes "c" ∷ []) ≡ None)
check_miscounted = (refl, refl)

-- a level and an output without a file
fold_miscounted : (asked_by (codes "fold" ∷ []) ≡ None) × (asked_by (codes "fold" ∷ codes "day" ∷ []) ≡ None) × (asked_by (codes "fold" ∷ codes "day" ∷ codes "a" ∷ []) ≡ None)
fold_miscounted = (refl, refl, refl)

-- an hour is no level that files may become, and letters keep their case
fold_of_no_level : (asked_by (codes "fold" ∷ codes "hour" ∷ codes "a" ∷ codes "b" ∷ []) ≡ None) × (asked_by (codes "fold" ∷ codes "Day" ∷ codes "a" ∷ codes "b" ∷ []) ≡ None)
    × (asked_by (codes "fold" ∷ [] ∷ codes "a" ∷ codes "b" ∷ []) ≡ None)
fold_of_no_level = (refl, refl, refl)

-- a question without a file, and files without a question
ask_miscounted : (asked_by (codes "ask" ∷ codes "A STRASSE" ∷ []) ≡ None) × (asked_by (codes "ask" ∷ []) ≡ None) × (asked_by (codes "ask" ∷ codes "a" ∷ codes "b" ∷ []) ≡ None)
unfolding opened
ask_miscounted = (refl, refl, refl)

-- the zoom is missing, or above the last
ask_of_no_zoom : (asked_by (codes "ask" ∷ codes "V 0 0 1 1" ∷ codes "a" ∷ []) ≡ None) × (asked_by (codes "ask" ∷ codes "V 0 0 1 1 23" ∷ codes "a" ∷ []) ≡ None)
unfolding opened
ask_of_no_zoom = (refl, refl)

-- memory is taken for the words of a question, also where they hold none
asks_begin : BeginsQuestion (codes "ask" ∷ []) × BeginsQuestion (codes "ask" ∷ codes "a" ∷ codes "b" ∷ [])
asks_begin = (refl, refl)

-- and for no other words
others_begin_none : (BeginsQuestion (codes "dump" ∷ codes "ask" ∷ []) → ⊥) × (BeginsQuestion (codes "Ask" ∷ codes "A b" ∷ codes "a" ∷ []) → ⊥) × (BeginsQuestion [] → ⊥)
others_begin_none = (λ e. absurd cc, λ e. absurd cc, λ e. e)

build_miscounted : (asked_by (codes "build" ∷ codes "a" ∷ []) ≡ None) × (asked_by (codes "build" ∷ codes "0 0 1 1" ∷ codes "b" ∷ []) ≡ None)
    × (asked_by (codes "build" ∷ codes "a" ∷ codes "b" ∷ codes "c" ∷ codes "d" ∷ []) ≡ None)
build_miscounted = (refl, refl, refl)

-- the changes stand in the script, not among the words
replay_miscounted : (asked_by (codes "replay" ∷ codes "r" ∷ codes "b" ∷ []) ≡ None) × (asked_by (codes "replay" ∷ codes "r" ∷ codes "b" ∷ codes "s" ∷ codes "c" ∷ []) ≡ None)
    × (asked_by (codes "Replay" ∷ codes "r" ∷ codes "b" ∷ codes "s" ∷ []) ≡ None)
replay_miscounted = (refl, refl, refl)

rect_turned : asked_by (codes "nodes" ∷ codes "1 1 0 0" ∷ codes "a" ∷ []) ≡ None
unfolding opened
rect_turned = refl

rect_of_three : asked_by (codes "nodes" ∷ codes "0 0 1" ∷ codes "a" ∷ []) ≡ None
unfolding opened
rect_of_three = refl

rect_off_the_earth : asked_by (codes "nodes" ∷ codes "0 0 1 90.1" ∷ codes "a" ∷ []) ≡ None
unfolding opened
rect_off_the_earth = refl

-- Files.

of_nodes : (r : Rect) → plan_of (nodes r (codes "a")) ≡ in_turn (record { name = codes "a"; grammar = object_text } ∷ [])
of_nodes r = refl

of_dump : plan_of (dump (codes "a")) ≡ in_turn (record { name = codes "a"; grammar = object_text } ∷ [])
of_dump = refl

of_check : plan_of (check (codes "a")) ≡ reads (record { name = codes "a"; grammar = map_file }) (λ text. no_more)
of_check = refl

of_ask : (q : Query) → plan_of (ask_files q (codes "a" ∷ codes "b" ∷ []))
    ≡ reads (record { name = codes "a"; grammar = map_file }) (λ one. reads (record { name = codes "b"; grammar = map_file }) (λ other. no_more))
of_ask q = refl

-- each word that names a file counts, also where one name comes twice
named_by_ask : (q : Query) → (files_named (ask_files q (codes "a" ∷ codes "a" ∷ [])) ≡ 2) × (output_of (ask_files q (codes "a" ∷ [])) ≡ None) × (files_named (dump (codes "a")) ≡ 0)
named_by_ask q = (refl, refl, refl)

-- a file that becomes one with others is read in its turn, and the output is none of them
of_fold : plan_of (fold_files period.Day (codes "o") (codes "a" ∷ codes "b" ∷ []))
    ≡ reads (record { name = codes "a"; grammar = map_file }) (λ one. reads (record { name = codes "b"; grammar = map_file }) (λ other. no_more))
of_fold = refl

named_by_fold : (files_named (fold_files period.Month (codes "o") (codes "a" ∷ codes "a" ∷ [])) ≡ 2) × (output_of (fold_files period.Month (codes "o") (codes "a" ∷ [])) ≡ Some (codes "o"))
named_by_fold = (refl, refl)

of_build : plan_of (build (codes "r") (codes "b") (codes "o"))
    ≡ reads (record { name = codes "r"; grammar = rule_table }) (λ table. reads (record { name = codes "b"; grammar = object_text }) (λ text. no_more))
of_build = refl

-- two publications of one file with one of another between them, a question, and a note
abbrev script : List ℕ
script =
    codes "1 P 2024-03-01-00 c%20%1.opl" ++ 10 ∷ codes "0 Q A x" ++ 10 ∷ codes "# 0 P 2024-03-01-00 none" ++ 10 ∷ codes "0 P 2024-02-29-23 c2.opl" ++ 13 ∷ 10 ∷ codes " 1 P 2024-03-01-00 c%20%1.opl "

-- what is read after a file of this text
abbrev after_text : List ℕ → Plan → Plan
after_text text no_more = no_more
after_text text (reads first rest) = rest text

-- rules and a base, then the script, then the file of each publication: a name that comes twice is read twice
of_replay : plan_of (replay_script (codes "r") (codes "b") (codes "s"))
    ≡ reads (record { name = codes "r"; grammar = rule_table }) (λ table. reads (record { name = codes "b"; grammar = object_text }) (λ text. script_and_changes (codes "s")))
of_replay = refl

of_script : after_text script (script_and_changes (codes "s")) ≡ in_turn (object_texts (codes "c 1.opl" ∷ codes "c2.opl" ∷ codes "c 1.opl" ∷ []))
unfolding opened
of_script = refl

-- the files of a script are not counted, and none is written
named_by_replay : (files_named (replay_script (codes "r") (codes "b") (codes "s")) ≡ 0) × (output_of (replay_script (codes "r") (codes "b") (codes "s")) ≡ None)
named_by_replay = (refl, refl)

written_by : (r : Rect) → (output_of (nodes r (codes "a")) ≡ None) × (output_of (dump (codes "a")) ≡ None) × (output_of (check (codes "a")) ≡ None)
    × (output_of (build (codes "r") (codes "b") (codes "o")) ≡ Some (codes "o"))
written_by r = (refl, refl, refl, refl)

-- Breaks.

abbrev located : List ℕ
located = codes "w7 Nn1,n2x1y2"

abbrev located_break : Break
located_break = InObjects (record { at = 3; kind = opl.LocatedRef })

abbrev far_zoom : List ℕ
far_zoom = codes "point a b 23 map"

abbrev far_zoom_break : Break
far_zoom_break = InRules (record { at = 10; kind = rule.BadZoom })

abbrev wide : ℕ → List ℕ
wide n = 0 ∷ 0 ∷ 0 ∷ 0 ∷ 0 ∷ 0 ∷ 0 ∷ n ∷ []

-- sections and marks of no records, and the version again
abbrev bare_rest : ℕ → List ℕ
bare_rest again =
    (54 ∷ wide 9) ++ (14 ∷ wide 0) ++ (62 ∷ wide 18) ++ (14 ∷ wide 0) ++ (22 ∷ wide 0) ++ (70 ∷ wide 0)
    ++ (78 ∷ wide 36) ++ (14 ∷ wide 9) ++ (14 ∷ wide 0) ++ (22 ∷ wide 9) ++ (14 ∷ wide 0) ++ (134 ∷ 1 ∷ wide 2) ++ 10 ∷ 0 ∷ 128 ∷ 2 ∷ again ∷ []

-- a base of no rules and no records, whose last byte is this
abbrev bare_base : ℕ → ℕ → List ℕ
bare_base version again = (8 ∷ version ∷ 18 ∷ 6 ∷ 8 ∷ 0 ∷ 16 ∷ 0 ∷ 24 ∷ 0 ∷ 26 ∷ 0 ∷ []) ++ bare_rest again

-- the file of one hour of 2024-02-29 of no rules and no records; the hour 21 is 137, the next 138, and so on
abbrev bare_hour : ℕ → List ℕ
bare_hour hour = (8 ∷ 2 ∷ 18 ∷ 14 ∷ 8 ∷ 1 ∷ 16 ∷ hour ∷ 199 ∷ 144 ∷ 197 ∷ 7 ∷ 24 ∷ hour ∷ 199 ∷ 144 ∷ 197 ∷ 7 ∷ 26 ∷ 0 ∷ []) ++ bare_rest 2

rules_break_row : break_in rule_table far_zoom ≡ Some far_zoom_break
unfolding opened
rules_break_row = refl

objects_break_row : break_in object_text located ≡ Some located_break
unfolding opened
objects_break_row = refl

file_break_row : break_in map_file (bare_base 2 1) ≡ Some (InFile (record { at = 123; kind = file.BadConfirm }))
unfolding opened
file_break_row = refl

good_rules : break_in rule_table (codes "point a b 22 map") ≡ None
unfolding opened
good_rules = refl

good_objects : break_in object_text (codes "n5 x180 y-90") ≡ None
unfolding opened
good_objects = refl

good_file : break_in map_file (bare_base 2 2) ≡ None
unfolding opened
good_file = refl

good_script : break_in script_text script ≡ None
unfolding opened
good_script = refl

script_break_rows : (break_in script_text (codes "9 Q A x") ≡ Some (InScript (record { at = 0; kind = step.BadLane })))
    × (break_in script_text (codes "# a" ++ 10 ∷ codes "0 P 2024-02-29-23 " ++ 13 ∷ 10 ∷ []) ≡ Some (InScript (record { at = 22; kind = step.BadName })))
unfolding opened
script_break_rows = (refl, refl)

-- no bytes are a good table, a good text and a good script, and no file
no_bytes : (break_in rule_table [] ≡ None) × (break_in object_text [] ≡ None) × (break_in script_text [] ≡ None) × (break_in map_file [] ≡ Some (InFile (record { at = 0; kind = file.Short })))
unfolding opened
no_bytes = (refl, refl, refl, refl)

script_break_texts : map break_text (map (λ k. InScript (record { at = 7; kind = k })) (step.NotUtf8 ∷ step.BadLane ∷ step.BadVerb ∷ step.BadStamp ∷ step.BadName ∷ step.BadQuery ∷ step.OverLimit ∷ []))
    ≡ codes "NotUtf8 at 7" ∷ codes "BadLane at 7" ∷ codes "BadVerb at 7" ∷ codes "BadStamp at 7" ∷ codes "BadName at 7" ∷ codes "BadQuery at 7" ∷ codes "OverLimit at 7" ∷ []
unfolding opened
script_break_texts = refl

break_texts : (break_text far_zoom_break ≡ codes "BadZoom at 10") × (break_text located_break ≡ codes "LocatedRef at 3")
    × (break_text (InFile (record { at = 0; kind = file.Short })) ≡ codes "Short at 0") × (break_text (InFile (record { at = 268435455; kind = file.BadCount })) ≡ codes "BadCount at 268435455")
unfolding opened
break_texts = (refl, refl, refl, refl)

-- the kinds of the three grammars that have one name
shared_names : (break_text (InRules (record { at = 7; kind = rule.OverLimit })) ≡ break_text (InObjects (record { at = 7; kind = opl.OverLimit })))
    × (break_text (InObjects (record { at = 7; kind = opl.BadId })) ≡ break_text (InFile (record { at = 7; kind = file.BadId })))
unfolding opened
shared_names = (refl, refl)

-- Files that lie over one another.

-- a base of no rules covers no hour
bare_placed : placed_in (map_file_in (bare_base 2 2)) ≡ record { head = base_head; rules = [] }
unfolding opened
bare_placed = refl

-- one base follows, and a second does not
bases_over : (q : Query) → (misfit_in (ask_files q (codes "a" ∷ [])) (bare_base 2 2 ∷ []) ≡ None)
    × (misfit_in (ask_files q (codes "a" ∷ codes "b" ∷ [])) (bare_base 2 2 ∷ bare_base 2 2 ∷ []) ≡ Some (record { name = codes "b"; kind = kind.IsBase; index = 1 }))
unfolding opened
bases_over q = (refl, refl)

-- a base alone is no misfit of another verb
base_checked : misfit_in (check (codes "a")) (bare_base 2 2 ∷ []) ≡ None
base_checked = refl

-- two hours of a day become one, in their order; not turned round, not twice one hour, and not with a base
hours_of_a_day : (misfit_in (fold_files period.Day (codes "o") (codes "a" ∷ codes "b" ∷ [])) (bare_hour 137 ∷ bare_hour 138 ∷ []) ≡ None)
    × (misfit_in (fold_files period.Day (codes "o") (codes "b" ∷ codes "a" ∷ [])) (bare_hour 138 ∷ bare_hour 137 ∷ []) ≡ Some (record { name = codes "a"; kind = kind.StampNotLater; index = 1 }))
    × (misfit_in (fold_files period.Month (codes "o") (codes "a" ∷ codes "a" ∷ [])) (bare_hour 137 ∷ bare_hour 137 ∷ []) ≡ Some (record { name = codes "a"; kind = kind.StampNotLater; index = 1 }))
    × (misfit_in (fold_files period.Day (codes "o") (codes "a" ∷ codes "b" ∷ [])) (bare_base 2 2 ∷ bare_hour 137 ∷ []) ≡ Some (record { name = codes "a"; kind = kind.IsBase; index = 0 }))
unfolding opened
hours_of_a_day = (refl, refl, refl, refl)

-- the file of the day from the first hour to the last is written, and its line is printed
folded_of_two : (bytes : List ℕ) → IsPackedFile bytes (head_numbers (record { level = Day; first = Some (civil_hour 2024 2 29 21); last = Some (civil_hour 2024 2 29 22) })) [] [] []
    → Job (fold_files period.Day (codes "o") (codes "a" ∷ codes "b" ∷ [])) (bare_hour 137 ∷ bare_hour 138 ∷ [])
    (record { answer = codes "day 2024-02-29-21 2024-02-29-22 0 0" ++ 10 ∷ []; written = Some bytes })
unfolding opened
folded_of_two bytes file = record { bytes = bytes; file = file; same = refl }

-- a map of no records has no rows
bare_rows : Job (ask_files (View (rect 0 0 3600000000 1800000000) 22) (codes "a" ∷ [])) (bare_base 2 2 ∷ []) (prints (codes "rows 0" ++ 10 ∷ []))
unfolding opened
bare_rows = refl

-- a script of no lines leaves the base alone
played_none : Job (replay_script (codes "r") (codes "b") (codes "s")) ([] ∷ [] ∷ [] ∷ []) (prints (codes "history 0" ++ 10 ∷ codes "files 1" ++ 10 ∷ codes "base - - 0 0" ++ 10 ∷ []))
unfolding opened
played_none = record {
  rules = [];
  spelled = record { spelled = refl; within = omega arith };
  base = [];
  lines = record { spelled = refl; within = omega arith };
  steps = [];
  read = record { spelled = refl; within = omega arith };
  changes = [];
  spell = tt;
  same = refl;
}

-- Endings.

line_of_done : ending_line done ≡ []
line_of_done = refl

line_of_bad_words : ending_line bad_words ≡ codes "obf: the words are none of the ten forms" ++ 10 ∷ []
line_of_bad_words = refl

line_of_refused : ending_line (refused (codes "b.opl") located_break) ≡ codes "obf: b.opl: LocatedRef at 3" ++ 10 ∷ []
unfolding opened
line_of_refused = refl

line_of_refused_rules : ending_line (refused (codes "a.rules") far_zoom_break) ≡ codes "obf: a.rules: BadZoom at 10" ++ 10 ∷ []
unfolding opened
line_of_refused_rules = refl

line_of_refused_file : ending_line (refused (codes "a.obf") (InFile (record { at = 123; kind = file.BadConfirm }))) ≡ codes "obf: a.obf: BadConfirm at 123" ++ 10 ∷ []
unfolding opened
line_of_refused_file = refl

line_of_read_fault : ending_line (read_fault (codes "none.opl")) ≡ codes "obf: cannot read none.opl" ++ 10 ∷ []
line_of_read_fault = refl

line_of_write_fault : ending_line (write_fault (codes "town.obf")) ≡ codes "obf: cannot write town.obf" ++ 10 ∷ []
line_of_write_fault = refl

line_of_answer_fault : ending_line answer_fault ≡ codes "obf: cannot write the answer" ++ 10 ∷ []
line_of_answer_fault = refl

line_of_no_memory : ending_line no_memory ≡ codes "obf: no memory" ++ 10 ∷ []
line_of_no_memory = refl

line_of_over_limit : ending_line (over_limit (codes "a.opl")) ≡ codes "obf: a.opl: over the limit" ++ 10 ∷ []
line_of_over_limit = refl

line_of_too_many_files : ending_line too_many_files ≡ codes "obf: too many files" ++ 10 ∷ []
line_of_too_many_files = refl

-- a file that does not follow
abbrev late : Misfit
late = record { name = codes "h1.obf"; kind = kind.StampNotLater; index = 1 }

lines_of_misfits : (ending_line (misfit late) ≡ codes "obf: h1.obf: StampNotLater as file 1" ++ 10 ∷ [])
    × (ending_line (misfit (record { name = codes "h2.obf"; kind = kind.OtherRules; index = 1 })) ≡ codes "obf: h2.obf: OtherRules as file 1" ++ 10 ∷ [])
    × (ending_line (misfit (record { name = codes "h1.obf"; kind = kind.NotBase; index = 0 })) ≡ codes "obf: h1.obf: NotBase as file 0" ++ 10 ∷ [])
    × (ending_line (misfit (record { name = codes "b.obf"; kind = kind.IsBase; index = 1023 })) ≡ codes "obf: b.obf: IsBase as file 1023" ++ 10 ∷ [])
    × (ending_line (misfit (record { name = codes "d.obf"; kind = kind.OtherPeriod; index = 2 })) ≡ codes "obf: d.obf: OtherPeriod as file 2" ++ 10 ∷ [])
unfolding opened
lines_of_misfits = (refl, refl, refl, refl, refl)

codes_of_endings : map code_of (done ∷ bad_words ∷ refused [] located_break ∷ read_fault [] ∷ write_fault [] ∷ answer_fault ∷ no_memory ∷ over_limit [] ∷ too_many_files ∷ misfit late ∷ []) ≡ 0 ∷ 2 ∷ 3 ∷ 4 ∷ 5 ∷ 5 ∷ 6 ∷ 7 ∷ 7 ∷ 3 ∷ []
codes_of_endings = refl

-- Lines of files.

abbrev head : Level → CivilHour → CivilHour → Head
head level first last = record { level = level; first = Some first; last = Some last }

line_of_base : file_line base_head 0 3 ≡ codes "base - - 0 3" ++ 10 ∷ []
unfolding opened
line_of_base = refl

line_of_hour : file_line (head Hour (civil_hour 2024 2 29 21) (civil_hour 2024 2 29 21)) 1 3 ≡ codes "hour 2024-02-29-21 2024-02-29-21 1 3" ++ 10 ∷ []
unfolding opened
line_of_hour = refl

line_of_day : file_line (head Day (civil_hour 2024 2 29 21) (civil_hour 2024 2 29 22)) 1 3 ≡ codes "day 2024-02-29-21 2024-02-29-22 1 3" ++ 10 ∷ []
unfolding opened
line_of_day = refl

line_of_month : file_line (head Month (civil_hour 7 1 2 3) (civil_hour 7 1 31 0)) 0 12345 ≡ codes "month 0007-01-02-03 0007-01-31-00 0 12345" ++ 10 ∷ []
unfolding opened
line_of_month = refl

-- Where told files end a run.

abbrev named : List ℕ → List ℕ → NamedFile
named name bytes = record { name = name; bytes = bytes }

abbrev building : Asked
building = build (codes "r") (codes "b") (codes "o")

-- where the files that there are end a building
abbrev stop : List NamedFile → Option Ending
stop files = first_stop (contents_of files) (plan_of building)

both_missing : stop [] ≡ Some (read_fault (codes "r"))
both_missing = refl

rules_missing : stop (named (codes "b") located ∷ []) ≡ Some (read_fault (codes "r"))
unfolding opened
rules_missing = refl

-- what the rules break comes before a base that is missing, or breaks
rules_broken : (stop (named (codes "r") far_zoom ∷ []) ≡ Some (refused (codes "r") far_zoom_break))
    × (stop (named (codes "b") located ∷ named (codes "r") far_zoom ∷ []) ≡ Some (refused (codes "r") far_zoom_break))
unfolding opened
rules_broken = (refl, refl)

base_missing : stop (named (codes "r") [] ∷ []) ≡ Some (read_fault (codes "b"))
unfolding opened
base_missing = refl

base_broken : stop (named (codes "r") (codes "point a b 22 map") ∷ named (codes "b") located ∷ []) ≡ Some (refused (codes "b") located_break)
unfolding opened
base_broken = refl

-- the output may be there before, in any form, or not
both_good : (stop (named (codes "r") [] ∷ named (codes "b") [] ∷ []) ≡ None) × (stop (named (codes "o") located ∷ named (codes "r") [] ∷ named (codes "b") [] ∷ []) ≡ None)
unfolding opened
both_good = (refl, refl)

-- Where they end a replay: with good rules and a good base, at the script or at a file that it names.
abbrev played_stop : List NamedFile → Option Ending
played_stop files = first_stop (contents_of (named (codes "r") [] ∷ named (codes "b") [] ∷ files)) (plan_of (replay_script (codes "r") (codes "b") (codes "s")))

script_missing : played_stop [] ≡ Some (read_fault (codes "s"))
unfolding opened
script_missing = refl

script_broken : played_stop (named (codes "s") (codes "9 Q A x") ∷ []) ≡ Some (refused (codes "s") (InScript (record { at = 0; kind = step.BadLane })))
unfolding opened
script_broken = refl

-- the first of its files that is missing or breaks, in the order of the lines and under its own name
changes_missing : (played_stop (named (codes "s") script ∷ []) ≡ Some (read_fault (codes "c 1.opl")))
    × (played_stop (named (codes "s") script ∷ named (codes "c 1.opl") [] ∷ []) ≡ Some (read_fault (codes "c2.opl")))
unfolding opened
changes_missing = (refl, refl)

changes_broken : (played_stop (named (codes "s") script ∷ named (codes "c 1.opl") [] ∷ named (codes "c2.opl") located ∷ []) ≡ Some (refused (codes "c2.opl") located_break))
    × (played_stop (named (codes "s") script ∷ named (codes "c 1.opl") located ∷ []) ≡ Some (refused (codes "c 1.opl") located_break))
unfolding opened
changes_broken = (refl, refl)

-- what a note names is not read
played_good : played_stop (named (codes "s") script ∷ named (codes "c 1.opl") [] ∷ named (codes "c2.opl") (codes "n5 x180 y-90") ∷ []) ≡ None
unfolding opened
played_good = refl

file_broken : first_stop (contents_of (named (codes "f") (bare_base 2 1) ∷ [])) (plan_of (check (codes "f"))) ≡ Some (refused (codes "f") (InFile (record { at = 123; kind = file.BadConfirm })))
unfolding opened
file_broken = refl

text_checked : first_stop (contents_of (named (codes "f") [] ∷ [])) (plan_of (check (codes "f"))) ≡ Some (refused (codes "f") (InFile (record { at = 0; kind = file.Short })))
unfolding opened
text_checked = refl

-- The limit.

limit_is : limit ≡ 268435456
limit_is = refl

-- a file that is too long ends the run whatever it holds
too_long : (f : Input) (text : List ℕ) → 268435456 < length text → stop_in f text ≡ Some (over_limit f.name)
too_long f text long = rw (lt-ltb limit (length text) long) refl

-- and one of just that length by its break alone
just_fits : (f : Input) (text : List ℕ) → length text ≤ 268435456 → stop_in f text ≡ option_map (λ first. refused f.name first) (break_in f.grammar text)
just_fits f text fits = rw (le-ltb limit (length text) fits) refl

output_too_long : (name bytes : List ℕ) → 268435456 < length bytes → due_for (Some name) (Some bytes) ≡ over_limit name
output_too_long name bytes long = rw (lt-ltb limit (length bytes) long) refl

output_just_fits : (name bytes : List ℕ) → length bytes ≤ 268435456 → due_for (Some name) (Some bytes) ≡ done
output_just_fits name bytes fits = rw (le-ltb limit (length bytes) fits) refl

no_output : due_for None None ≡ done
no_output = refl

small_output : due_for (Some (codes "o")) (Some (bare_base 2 2)) ≡ done
small_output = refl

-- What may change.

changes : map (λ e. changed_by e (output_of building)) (done ∷ write_fault (codes "o") ∷ answer_fault ∷ no_memory ∷ []) ≡ Some (codes "o") ∷ Some (codes "o") ∷ Some (codes "o") ∷ Some (codes "o") ∷ []
changes = refl

stays : map (λ e. changed_by e (output_of building)) (bad_words ∷ refused (codes "b") located_break ∷ read_fault (codes "b") ∷ over_limit (codes "o") ∷ []) ≡ None ∷ None ∷ None ∷ None ∷ []
stays = refl

stays_of_others : map (λ e. changed_by e (output_of (dump (codes "b")))) (done ∷ answer_fault ∷ no_memory ∷ []) ≡ None ∷ None ∷ None ∷ []
stays_of_others = refl

stays_of_nothing : map (λ e. changed_by e None) (bad_words ∷ no_memory ∷ []) ≡ None ∷ None ∷ []
stays_of_nothing = refl

-- Runs.

abbrev files_at : List NamedFile → List Reading → FilesState
files_at files given = record { contents = Some (contents_of files); read_faults = 0; write_faults = 0; given = given; writes = [] }

abbrev sink_at : List ℕ → SinkState
sink_at received = record { received = received; faults = 0 }

-- one read gives all, and one behind it nothing
abbrev reads_of : List ℕ → List ℕ → List Reading
reads_of name text = reading name 0 65536 text ∷ reading name (length text) 65536 [] ∷ []

read_once : (files : List NamedFile) (given : List Reading) (name text : List ℕ) → contents_of files name ≡ Some text → 0 < length text → length text ≤ limit
    → IsWhole (files_at files given) (files_at files (given ++ reads_of name text)) name limit text
read_once files given name text told some within = record {
  within = within;
  gave = record {
    readings = reading name 0 65536 text ∷ [];
    room = 65536;
    some_room = omega arith;
    given = refl;
    follow = (refl, refl, some, tt);
    joined = sym (append-nil text);
  };
  told = told;
}

-- a file without bytes is read at once
read_none : (files : List NamedFile) (given : List Reading) (name : List ℕ) → contents_of files name ≡ Some []
    → IsWhole (files_at files given) (files_at files (given ++ reading name 0 65536 [] ∷ [])) name limit []
read_none files given name told = record {
  within = omega arith;
  gave = record { readings = []; room = 65536; some_room = omega arith; given = refl; follow = tt; joined = refl };
  told = told;
}

only_reads : (files : List NamedFile) (given more : List Reading) → OnlyReads (files_at files given) (files_at files more)
only_reads files given more = record { contents = refl; writes = refl; write_faults = refl; read_faults = omega arith }

abbrev dumping : Asked
dumping = dump (codes "b")

abbrev located_alone : List NamedFile
located_alone = named (codes "b") located ∷ []

dump_of_located : EndsAmong (plan_of dumping) (files_at located_alone []) (files_at located_alone (reads_of (codes "b") located)) (refused (codes "b") located_break)
unfolding opened
dump_of_located = inl (
  (refl, record { text = located; whole = read_once located_alone [] (codes "b") located refl (omega arith) (omega arith); breaks = refl }),
  only_reads located_alone [] (reads_of (codes "b") located),
)

abbrev empty_and_located : List NamedFile
empty_and_located = named (codes "r") [] ∷ named (codes "b") located ∷ []

-- the rules are read, and then the base
build_of_located : EndsAmong (plan_of building) (files_at empty_and_located []) (files_at empty_and_located (reading (codes "r") 0 65536 [] ∷ reads_of (codes "b") located)) (refused (codes "b") located_break)
unfolding opened
build_of_located =
    let between = files_at empty_and_located (reading (codes "r") 0 65536 [] ∷ []) in
    let rules : ReadsGood (files_at empty_and_located []) between (input (codes "r") rule_table) [] =
    record { whole = read_none empty_and_located [] (codes "r") refl; good = refl; only = only_reads empty_and_located [] (reading (codes "r") 0 65536 [] ∷ []) } in
    let base : ReadsBroken between (files_at empty_and_located (reading (codes "r") 0 65536 [] ∷ reads_of (codes "b") located)) (input (codes "b") object_text) located_break =
    record { text = located; whole = read_once empty_and_located (reading (codes "r") 0 65536 [] ∷ []) (codes "b") located refl (omega arith) (omega arith); breaks = refl } in
    inr ([], between, rules, inl ((refl, base), only_reads empty_and_located (reading (codes "r") 0 65536 [] ∷ []) (reading (codes "r") 0 65536 [] ∷ reads_of (codes "b") located)))

-- nothing is read of a file that is not there
build_of_nothing : EndsAmong (plan_of building) (files_at [] []) (files_at [] []) (read_fault (codes "r"))
build_of_nothing = inl (
  (
    refl,
    record {
      stopped = record { bytes = []; gave = record { readings = []; given = refl; follow = tt; joined = refl }; count = omega arith };
      cause = inr refl;
    },
  ),
  only_reads [] [] [],
)

-- A whole run.

abbrev corner : List ℕ
corner = codes "n5 x180 y-90"

abbrev corner_alone : List NamedFile
corner_alone = named (codes "b") corner ∷ []

abbrev corner_node : Entity
corner_node = record { id = record { kind = Node; number = pos 5 }; version = 0; tags = []; place = Some (record { x = 3600000000; y = 1800000000 }); refs = []; members = [] }

abbrev corner_line : List ℕ
corner_line = codes "n5 v0 dV T x180 y-90" ++ 10 ∷ []

abbrev corner_run : Run
corner_run = record {
  files = change (files_at corner_alone []) (files_at corner_alone (reads_of (codes "b") corner));
  out = change (sink_at (codes "a")) (sink_at (codes "a" ++ corner_line));
  err = change (sink_at []) (sink_at []);
  steps = change 0 0;
}

corner_store : IsStoreOf corner (corner_node ∷ [])
unfolding opened
corner_store = record { lines = Live corner_node ∷ []; spelled = record { spelled = refl; within = omega arith }; same = refl }

corner_job : Job dumping (corner ∷ []) (prints corner_line)
unfolding opened
corner_job = record { store = corner_node ∷ []; made = corner_store; same = refl }

corner_nodes_job : Job (nodes (rect 3600000000 1800000000 3600000000 1800000000) (codes "b")) (corner ∷ []) (prints corner_line)
unfolding opened
corner_nodes_job = record { store = corner_node ∷ []; made = corner_store; same = refl }

far_nodes_job : Job (nodes (rect 0 0 3599999999 1800000000) (codes "b")) (corner ∷ []) (prints [])
unfolding opened
far_nodes_job = record { store = corner_node ∷ []; made = corner_store; same = refl }

corner_good : ReadsGood (files_at corner_alone []) (files_at corner_alone (reads_of (codes "b") corner)) (input (codes "b") object_text) corner
unfolding opened
corner_good = record { whole = read_once corner_alone [] (codes "b") corner refl (omega arith) (omega arith); good = refl; only = only_reads corner_alone [] (reads_of (codes "b") corner) }

corner_is_dumped : Cause done (codes "dump" ∷ codes "b" ∷ []) corner_run
corner_is_dumped = inl (record {
  texts = corner ∷ [];
  between = files_at corner_alone (reads_of (codes "b") corner);
  reads = (files_at corner_alone (reads_of (codes "b") corner), corner_good, refl);
  follow = refl;
  outcome = prints corner_line;
  does = corner_job;
  holds = (refl, record { received = refl; count = omega arith });
})

-- A file that is built of nothing.

all_bytes : (xs : List ℕ) → list_all (λ b. nat_lt b 256) xs ≡ true → AllByRecursion (λ b. b < 256) xs
all_bytes [] e = tt
all_bytes (x ∷ xs) e = let both = and_parts (nat_lt x 256) (list_all (λ b. nat_lt b 256) xs) e in (ltb-true x 256 both.0, all_bytes xs both.1)

abbrev fields_of : Result Fields FileBreak → Fields
fields_of (Err b) = ends
fields_of (Ok fields) = fields

abbrev or_no_parts : Option FileParts → FileParts
or_no_parts None = record {
  version = 0;
  head = record { at = 0; value = record { level = 0; first = 0; last = 0 } };
  rules = record { at = 0; value = [] };
  map = ends;
  addresses = ends;
  pois = ends;
  roads = ends;
  marks = record { at = 0; value = [] };
  again = record { at = 0; value = 0 };
}
or_no_parts (Some parts) = parts

abbrev bare_fields : Fields
bare_fields = fields_of (message_at (File Two) (whole (bare_base 2 2)))

abbrev bare_parts : FileParts
bare_parts = or_no_parts (file_in bare_fields)

bare_in_memory : IsInMemory (whole (bare_base 2 2))
bare_in_memory = record {
  window = record { ordered = leb-true 0 (length (bare_base 2 2)) refl; within = leb-true (length (bare_base 2 2)) (length (bare_base 2 2)) refl };
  bytes = all_bytes (bare_base 2 2) refl;
  few = ltb-true (length (bare_base 2 2)) (2 ^ 64) refl;
}

bare_is_read : message_at (File Two) (whole (bare_base 2 2)) ≡ Ok bare_fields
unfolding opened
bare_is_read = refl

bare_is_message : IsMessage (File Two) (whole (bare_base 2 2)) bare_fields
bare_is_message =
    let s = read_is_spelled (File Two) None (whole (bare_base 2 2)) bare_fields bare_in_memory bare_is_read in
    record { form = s.form; spelled = s.spelled }

none_fails : first_failing (file_facts bare_parts) ≡ None
unfolding opened
none_fails = refl

bare_is_file : IsFile (bare_base 2 2) Two (head_numbers base_head) [] [] []
unfolding opened
bare_is_file = record {
  fields = bare_fields;
  parts = bare_parts;
  form = bare_is_message;
  parts_are = refl;
  sound = (one_first_break_law (file_facts bare_parts)).none.0 none_fails;
  head_is = refl;
  rules_are = refl;
  marks_are = refl;
  records_are = refl;
}

bare_is_packed : IsPackedFile (bare_base 2 2) (head_numbers base_head) [] [] []
unfolding opened
bare_is_packed = record { packed = refl; file = bare_is_file }

abbrev bare_outcome : Outcome
bare_outcome = record { answer = codes "base - - 0 0" ++ 10 ∷ []; written = Some (bare_base 2 2) }

built_of_nothing : Job building ([] ∷ [] ∷ []) bare_outcome
unfolding opened
built_of_nothing = record {
  rules = [];
  spelled = record { spelled = refl; within = omega arith };
  store = [];
  made = record { lines = []; spelled = record { spelled = refl; within = omega arith }; same = refl };
  packed = record { bytes = bare_base 2 2; file = bare_is_packed; same = refl };
}

-- and read again
bare_is_checked : Job (check (codes "o")) (bare_base 2 2 ∷ []) (prints (codes "base - - 0 0" ++ 10 ∷ []))
unfolding opened
bare_is_checked = record { version = Two; head = base_head; good = refl; civil = (tt, tt); rules = []; marks = []; records = []; file = bare_is_file; same = refl }

-- A record of one node, and another node that no rule matches.

abbrev two_nodes : List ℕ
two_nodes = codes "n1 x0 y0 Ta=b" ++ 10 ∷ codes "n2 x0 y0"

abbrev one_rule : List ℕ
one_rule = codes "point a b 0 map"

abbrev tagged : Entity
tagged = record { id = record { kind = Node; number = pos 1 }; version = 0; tags = record { key = codes "a"; value = codes "b" } ∷ []; place = Some (record { x = 1800000000; y = 900000000 }); refs = []; members = [] }

abbrev plain : Entity
plain = record { id = record { kind = Node; number = pos 2 }; version = 0; tags = []; place = Some (record { x = 1800000000; y = 900000000 }); refs = []; members = [] }

abbrev drawn : Rule
drawn = record { shape = PointShape; key = codes "a"; value = Some (codes "b"); zoom = 0; class = MapClass }

abbrev only : Rec
only = Map (record { id = record { kind = Node; number = pos 1 }; rule = 0; shape = PointShape; name = []; points = record { x = 1800000000; y = 900000000 } ∷ [] })

built_of_two : (bytes : List ℕ) → IsPackedFile bytes (head_numbers base_head) (drawn ∷ []) [] (only ∷ [])
    → Job building (one_rule ∷ two_nodes ∷ []) (record { answer = codes "base - - 0 1" ++ 10 ∷ []; written = Some bytes })
unfolding opened
built_of_two bytes file = record {
  rules = drawn ∷ [];
  spelled = record { spelled = refl; within = omega arith };
  store = tagged ∷ plain ∷ [];
  made = record { lines = Live tagged ∷ Live plain ∷ []; spelled = record { spelled = refl; within = omega arith }; same = refl };
  packed = record { bytes = bytes; file = file; same = refl };
}

-- One file in place of two.

-- a file of one hour that marks the tagged node and has these records
abbrev marking : ℕ → List Rec → MapFile
marking hour records = record {
  head = head Hour (civil_hour 2024 2 29 hour) (civil_hour 2024 2 29 hour);
  rules = drawn ∷ [];
  overlay = record { marks = tagged.id ∷ []; records = records };
}

-- the file of both hours, which marks the node once and has these records
abbrev marked : List Rec → Parts
marked records = record { head = head Day (civil_hour 2024 2 29 21) (civil_hour 2024 2 29 22); rules = drawn ∷ []; marks = ordinal tagged.id ∷ []; records = records }

-- the later hour decides: what it has no record of has none, and the mark stays; what it has a record of has this one alone
later_decides : (fold_parts Day (marking 21 (only ∷ []) ∷ marking 22 [] ∷ []) ≡ marked []) × (fold_parts Day (marking 21 [] ∷ marking 22 (only ∷ []) ∷ []) ≡ marked (only ∷ []))
    × (fold_parts Day (marking 21 (only ∷ []) ∷ marking 22 (only ∷ []) ∷ []) ≡ marked (only ∷ []))
unfolding opened
later_decides = (refl, refl, refl)

-- 2024-02-29-21 is an hour of the calendar
hour_is_civil : IsCivilHour (civil_hour 2024 2 29 21)
hour_is_civil = (omega arith, (omega arith, omega arith), (omega arith, leb-true 29 (days_in_month 2024 2) refl), omega arith)

-- the marks are counted before the records
checked_hour : (bytes : List ℕ) (version : Version) (rules : List Rule) (a b c : Rec) → IsFile bytes version (record { level = 1; first = 2024022921; last = 2024022921 }) rules (7 ∷ []) (a ∷ b ∷ c ∷ [])
    → Job (check (codes "f")) (bytes ∷ []) (prints (codes "hour 2024-02-29-21 2024-02-29-21 1 3" ++ 10 ∷ []))
unfolding opened
checked_hour bytes version rules a b c file = record {
  version = version;
  head = head Hour (civil_hour 2024 2 29 21) (civil_hour 2024 2 29 21);
  good = (omega arith, refl);
  civil = (hour_is_civil, hour_is_civil);
  rules = rules;
  marks = 7 ∷ [];
  records = a ∷ b ∷ c ∷ [];
  file = file;
  same = refl;
}

-- A whole run that writes.

abbrev two_empty : List NamedFile
two_empty = named (codes "r") [] ∷ named (codes "b") [] ∷ []

abbrev with_output : List NamedFile
with_output = named (codes "o") (bare_base 2 2) ∷ two_empty

abbrev empty_reads : List Reading
empty_reads = reading (codes "r") 0 65536 [] ∷ reading (codes "b") 0 65536 [] ∷ []

abbrev empty_run : Run
empty_run = record {
  files = change (files_at two_empty []) (record (files_at with_output empty_reads) { writes = writing (codes "o") (bare_base 2 2) true ∷ [] });
  out = change (sink_at []) (sink_at (codes "base - - 0 0" ++ 10 ∷ []));
  err = change (sink_at []) (sink_at []);
  steps = change 0 0;
}

others_stay : OthersStay (contents_of two_empty) (contents_of with_output) (codes "o")
others_stay other differs = one (bytes_eq (codes "o") other) refl
  where
    one : (b : Bool) → bytes_eq (codes "o") other ≡ b → contents_of with_output other ≡ contents_of two_empty other
    one true is = absurd (differs (sym ((bytes_eq-Decides (codes "o") other).0 is)))
    one false is = rw is refl

empty_is_built : Cause done (codes "build" ∷ codes "r" ∷ codes "b" ∷ codes "o" ∷ []) empty_run
unfolding opened
empty_is_built =
    let first : FilesState = files_at two_empty (reading (codes "r") 0 65536 [] ∷ []) in
    let both : FilesState = files_at two_empty empty_reads in
    let rules : ReadsGood (files_at two_empty []) first (input (codes "r") rule_table) [] =
    record { whole = read_none two_empty [] (codes "r") refl; good = refl; only = only_reads two_empty [] (reading (codes "r") 0 65536 [] ∷ []) } in
    let base : ReadsGood first both (input (codes "b") object_text) [] =
    record { whole = read_none two_empty (reading (codes "r") 0 65536 [] ∷ []) (codes "b") refl; good = refl; only = only_reads two_empty (reading (codes "r") 0 65536 [] ∷ []) empty_reads } in
    inl (record {
      texts = [] ∷ [] ∷ [];
      between = both;
      reads = (first, rules, (both, base, refl));
      follow = refl;
      outcome = bare_outcome;
      does = built_of_nothing;
      holds = (
        record { within = omega arith; once = refl; holds = record { written = refl; others = others_stay }; count = omega arith; only = record { given = refl; read_faults = refl } },
        record { received = refl; count = omega arith },
      );
    })

empty_keeps : Keeps done (output_of building) empty_run.files empty_run.out
empty_keeps = record {
  writes = record { contents = others_stay; writes = inr (bare_base 2 2, true, refl); faults = omega arith };
  read_faults = omega arith;
  put_faults = omega arith;
}

-- What no run does.

-- of other counts of files there is no outcome
no_job : (outcome : Outcome) → ¬ Job building ([] ∷ []) outcome
no_job outcome job = job

-- a run that is done has read no broken base
not_done : (run : Run) → run.files.before ≡ files_at located_alone [] → ¬ Cause done (codes "dump" ∷ codes "b" ∷ []) run
unfolding opened
not_done run same (inr unread) = let short = unread.short in absurd cc
not_done run same (inl cause) = one cause.texts cause.between cause.reads
  where
    one : (texts : List (List ℕ)) (between : FilesState) → ReadInOrder run.files.before between (plan_of dumping) texts → ⊥
    one [] between all = all
    one (text ∷ []) between all =
        let good : ReadsGood (files_at located_alone []) all.0 (input (codes "b") object_text) text = subst (λ (s : FilesState). ReadsGood s all.0 (input (codes "b") object_text) text) same all.1 in
        let told : Some located ≡ Some text = good.whole.told in
        let unbroken : break_in object_text text ≡ None = good.good in
        let breaks : break_in object_text located ≡ Some located_break = refl in
        cc
    one (text ∷ more ∷ texts) between all = all.2

-- where the base breaks nothing was put
nothing_is_put : (run : Run) (name : List ℕ) (first : Break) → Caused (refused name first) run.files run.out (task_of building) → run.out.after.received ≡ run.out.before.received
nothing_is_put run name first cause = ap (λ (sink : SinkState). sink.received) cause.1

-- nothing is written by a verb without an output
no_write_fault : (run : Run) (name : List ℕ) → ¬ Caused (write_fault name) run.files run.out (task_of dumping)
no_write_fault run name cause = cause.0.holds

-- words that ask for nothing end in one way
one_ending : (run : Run) → ¬ Cause no_memory (codes "paint" ∷ []) run
one_ending run (inr unread) = let begins = unread.begins in absurd cc
one_ending run (inl cause) = other cause.0
  where
    other : no_memory ≡ bad_words → ⊥
    other same = cc

-- before the base ends a run the rules were read and are good
rules_come_first : (before after : FilesState) (first : Break) → EndsAmong (plan_of building) before after (refused (codes "b") first)
    → (text : List ℕ) × (between : FilesState) × ReadsGood before between (input (codes "r") rule_table) text
rules_come_first before after first ended =
    elim ended [ inl here ↦ absurd (other here.0.0) | inr later ↦ (later.0, later.1, later.2) ]
  where
    other : codes "b" ≡ codes "r" → ⊥
    other same = let eq : true ≡ false = ap (λ (x : List ℕ). bytes_eq (codes "b") x) same in cc

-- a read that failed has a cause in the files
faults_have_causes : (before after : FilesState) → before.contents ≡ Some (contents_of located_alone) → ¬ Rose before.read_faults after.read_faults
    → ¬ EndsAmong (plan_of dumping) before after (read_fault (codes "b"))
faults_have_causes before after told none ended =
    elim ended [
      | inl here ↦ elim here.0.1.cause [ inl rose ↦ none rose | inr lacks ↦ missing (subst (λ (c : Option Contents). Lacks c (codes "b")) told lacks) ]
      | inr later ↦ differ later.3.0
    ]
  where
    missing : Lacks (Some (contents_of located_alone)) (codes "b") → ⊥
    missing lacks = cc

    differ : read_fault (codes "b") ≡ no_memory → ⊥
    differ same = cc

-- a refusal leaves all files
refusal_keeps : (run : Run) (name : List ℕ) (first : Break) → Keeps (refused name first) (output_of building) run.files run.out → run.files.after.contents ≡ run.files.before.contents
refusal_keeps run name first keeps = keeps.writes.contents

-- what was written is there, and its length is within the limit
written_is_there : (before after : FilesState) (old new : Contents) (bytes : List ℕ) → before.contents ≡ Some old → after.contents ≡ Some new
    → IsWrittenAs before after (Some (codes "o")) (Some bytes) → (new (codes "o") ≡ Some bytes) × (length bytes ≤ 268435456)
written_is_there before after old new bytes told told' is =
    let holds : Holds (Some old) after.contents (codes "o") bytes = subst (λ (c : Option Contents). Holds c after.contents (codes "o") bytes) told is.holds in
    let holds : Replaces old new (codes "o") bytes = subst (λ (c : Option Contents). Holds (Some old) c (codes "o") bytes) told' holds in
    (holds.written, is.within)

-- an output that is too long touches nothing
too_long_is_not_written : (before after : FilesState) (bytes : List ℕ) → IsTooLong before after bytes → after ≡ before
too_long_is_not_written before after bytes long = long.1

-- The ending that must come.

located_is_refused : (e : Ending) (run : Run) → run.files.before.contents ≡ Some (contents_of located_alone) → NoFault run.files run.out → Completes e (codes "dump" ∷ codes "b" ∷ []) run
    → (e ≡ refused (codes "b") located_break) ⊎ (e ≡ no_memory)
unfolding opened
located_is_refused e run told none complete = complete dumping (contents_of located_alone) refl told none

missing_is_a_read_fault : (e : Ending) (run : Run) → run.files.before.contents ≡ Some (contents_of []) → NoFault run.files run.out → Completes e (codes "check" ∷ codes "b" ∷ []) run
    → (e ≡ read_fault (codes "b")) ⊎ (e ≡ no_memory)
missing_is_a_read_fault e run told none complete = complete (check (codes "b")) (contents_of []) refl told none

corner_is_done : (e : Ending) (run : Run) → run.files.before.contents ≡ Some (contents_of corner_alone) → NoFault run.files run.out → Completes e (codes "dump" ∷ codes "b" ∷ []) run
    → (e ≡ done) ⊎ (e ≡ no_memory)
unfolding opened
corner_is_done e run told none complete =
    elim (complete dumping (contents_of corner_alone) refl told none) [ inl due ↦ inl due.due.due | inr memory ↦ inr memory ]

-- The line.

silent : (before after : SinkState) → PutsLine done (change before after) → after.received ≡ before.received
silent before after tells =
    elim tells [ inl all ↦ all.received ∙ append-nil before.received | inr less ↦ absurd (none less.part.count less.part.not_all) ]
  where
    none : (n : ℕ) → n < 0 → ⊥
    none n low = omega (arith, low)

whole_line : (before after : SinkState) → ¬ Rose before.faults after.faults → PutsLine no_memory (change before after) → after.received ≡ before.received ++ codes "obf: no memory\n"
whole_line before after none tells =
    elim tells [ inl all ↦ all.received | inr less ↦ absurd (none less.fault) ]
