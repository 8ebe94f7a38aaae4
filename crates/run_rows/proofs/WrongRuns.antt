-- Wrong runs, which fit no definition, and tasks that no verb has.
use Rattle.std.proofs.Common.{◌≡◌, ℕ, ◌<◌, ◌≤◌, true, false, List, [], ◌∷◌, ◌++◌, length, Option, Some, None, refl, sym, ◌∙◌, ap, subst, inl, inr, arith}
use Rattle.std.specs.Prelude.{codes, if◌then◌else◌}
use Rattle.std.specs.Str.{bytes_eq}
use Rattle.outside.specs.Files.{Contents, FilesState, OnlyWrites}
use Rattle.outside.specs.Readings.{Reading, Writing, bytes_given, reading, writing}
use Rattle.outside.specs.Sinks.{SinkState}
use Rattle.outside.specs.Whole.{Follow, Gave, IsWhole}
use Rattle.std.specs.Fmt.{digits}
use Rattle.std.specs.Str.{chars, is_utf8}
use Rattle.std.proofs.Math.Utf8.{encode}
use Rattle.text_pieces.specs.Lines.{lines_from, fields_from}
use Rattle.text_pieces.specs.Numbers.{number_of, id_of}
use Rattle.live_model.specs.declared.opl.OplKind.TheVariants as opl
use Rattle.live_model.specs.FieldValues.{object_of, ref_of, version_of, gone_of, is_count, is_time, coordinate_of, tag_of, pairs_of, refs_of, member_of, members_of}
use Rattle.live_model.specs.ObjectLines.{letter_of, line_of}
use Rattle.live_model.specs.LineTests.{tests_of, break_of}
use Rattle.live_model.specs.OplTexts.{text_break}
use Rattle.run_model.specs.declared.breaks.Break.TheVariants.{InObjects}
use Rattle.run_model.specs.declared.arguments.Arguments.TheVariants as arguments
use Rattle.file_order.specs.declared.kinds.RunKind.TheVariants as kind
use Rattle.run_model.specs.Endings.{Ending, done, bad_words, too_many_files, refused, misfit, read_fault, no_memory, code_of}
use Rattle.run_model.specs.Inputs.{Misfit, Plan, input, in_turn, no_more, object_text, plan_of, reads}
use Rattle.run_model.specs.Jobs.{Task, prints, task_of}
use Rattle.run_model.specs.Reads.{limit}
use Rattle.run_model.specs.Requests.{Asked, build, dump}
use Rattle.run_model.specs.Runs.{AreTold, Caused, CausedBy, Change, EndsWithCode, first_stop, IsDue, IsNotWritten, IsOutput, IsWrittenAs, Keeps, PutsLine, Receives, Run, change, Holds, ReceivesNothing}
use Rattle.run_model.proofs.Readings.{all_only, among_only}

-- what the breaks of texts compute with
opened : Unit {0}
unfolding lines_from fields_from number_of id_of object_of ref_of version_of gone_of is_count is_time coordinate_of tag_of pairs_of refs_of member_of members_of letter_of line_of tests_of break_of text_break digits is_utf8 chars encode
opened = tt

-- Files of the system, whose contents are not told.

abbrev real_files : List Reading → List Writing → FilesState
real_files given writes = record { contents = None; read_faults = 0; write_faults = 0; given = given; writes = writes }

abbrev building : Asked
building = build (codes "r") (codes "b") (codes "o")

abbrev dumping : Asked
dumping = dump (codes "b")

-- nothing, and then something, was written under the name of the output
abbrev twice : List ℕ → List Writing
twice bytes = writing (codes "o") [] true ∷ writing (codes "o") bytes true ∷ []

-- two names that differ
other_names : codes "b" ≡ codes "o" → ⊥
other_names same = let test : true ≡ false = ap (λ (name : List ℕ). bytes_eq (codes "b") name) same in cc

-- The writes of a run of one output.

one_or_none : (between after : FilesState) (name : List ℕ) (written : Option (List ℕ)) → IsWrittenAs between after (Some name) written
    → (bytes : List ℕ) × (after.writes ≡ between.writes ++ writing name bytes true ∷ [])
one_or_none between after name None is = absurd is
one_or_none between after name (Some bytes) is = (bytes, is.once)

-- a build that writes its output empty first and then rightly is not done
not_written_twice : (given : List Reading) (bytes : List ℕ) (out : Change SinkState) → ¬ Caused done (change (real_files [] []) (real_files given (twice bytes))) out (task_of building)
not_written_twice given bytes out works =
    let only = all_only (plan_of building) works.texts (real_files [] []) works.between works.reads in
    let one = one_or_none works.between (real_files given (twice bytes)) (codes "o") works.outcome.written works.holds.0 in
    let once : twice bytes ≡ [] ++ writing (codes "o") one.0 true ∷ [] = one.1 ∙ ap (λ (writes : List Writing). writes ++ writing (codes "o") one.0 true ∷ []) only.writes in
    cc

-- nor one that writes under another name
not_written_elsewhere : (given : List Reading) (bytes : List ℕ) (out : Change SinkState)
    → ¬ Caused done (change (real_files [] []) (real_files given (writing (codes "b") bytes true ∷ []))) out (task_of building)
not_written_elsewhere given bytes out works =
    let only = all_only (plan_of building) works.texts (real_files [] []) works.between works.reads in
    let one = one_or_none works.between (real_files given (writing (codes "b") bytes true ∷ [])) (codes "o") works.outcome.written works.holds.0 in
    let once : writing (codes "b") bytes true ∷ [] ≡ [] ++ writing (codes "o") one.0 true ∷ [] = one.1 ∙ ap (λ (writes : List Writing). writes ++ writing (codes "o") one.0 true ∷ []) only.writes in
    let same : writing (codes "b") bytes true ≡ writing (codes "o") one.0 true = cc in
    other_names (ap (λ (w : Writing). w.name) same)

-- a verb without an output writes nothing
nothing_written : (between after : FilesState) (written : Option (List ℕ)) → IsWrittenAs between after None written → after ≡ between
nothing_written between after None is = is
nothing_written between after (Some bytes) is = absurd is

dump_writes_nothing : (given : List Reading) (first : Writing) (more : List Writing) (out : Change SinkState)
    → ¬ Caused done (change (real_files [] []) (real_files given (first ∷ more))) out (task_of dumping)
dump_writes_nothing given first more out works =
    let only = all_only (plan_of dumping) works.texts (real_files [] []) works.between works.reads in
    let same = ap (λ (state : FilesState). state.writes) (nothing_written works.between (real_files given (first ∷ more)) works.outcome.written works.holds.0) in
    let none : first ∷ more ≡ [] = same ∙ only.writes in
    cc

-- Out of memory.

-- a build that writes its output empty and ends out of memory has no cause
failed_write : (between after : FilesState) (name : List ℕ) (output : List ℕ) (written : Option (List ℕ)) → IsOutput name (Some output) written (IsNotWritten between after name)
    → (bytes : List ℕ) × (after.writes ≡ between.writes ++ writing name bytes false ∷ [])
failed_write between after name output None is = absurd is
failed_write between after name output (Some bytes) is = (bytes, is.1.once)

abbrev emptied : List Writing
emptied = writing (codes "o") [] true ∷ []

not_emptied : (given : List Reading) (out : Change SinkState) → ¬ Caused no_memory (change (real_files [] []) (real_files given emptied)) out (task_of building)
not_emptied given out cause = elim cause.0 [
  | inl ends ↦
      let only = among_only (plan_of building) (real_files [] []) (real_files given emptied) no_memory ends in
      let none : emptied ≡ [] = only.writes in
      cc
  | inr loses ↦
      let only = all_only (plan_of building) loses.1.texts (real_files [] []) loses.1.between loses.1.reads in
      let lost = failed_write loses.1.between (real_files given emptied) loses.0 (codes "o") loses.1.outcome.written loses.1.holds in
      let once : emptied ≡ [] ++ writing loses.0 lost.0 false ∷ [] = lost.1 ∙ ap (λ (writes : List Writing). writes ++ writing loses.0 lost.0 false ∷ []) only.writes in
      let same : writing (codes "o") [] true ≡ writing loses.0 lost.0 false = cc in
      let both : true ≡ false = ap (λ (w : Writing). w.is_done) same in
      cc
]

-- Readings.

-- a first reading that had no room is no end of a file
no_end : (state : List Reading) → state ≡ reading (codes "b") 0 0 [] ∷ [] → (readings : List Reading) (room : ℕ) → 0 < room
    → state ≡ [] ++ (readings ++ reading (codes "b") 0 room [] ∷ []) → ⊥
no_end state is [] room some given =
    let same : reading (codes "b") 0 0 [] ≡ reading (codes "b") 0 room [] = cc in
    let rooms : 0 ≡ room = ap (λ (r : Reading). r.room) same in
    omega (arith, rooms, some)
no_end state is (first ∷ []) room some given = cc
no_end state is (first ∷ second ∷ more) room some given = cc

empty_room_reads_nothing : ¬ IsWhole (real_files [] []) (real_files (reading (codes "b") 0 0 [] ∷ []) []) (codes "b") limit []
empty_room_reads_nothing whole = no_end (reading (codes "b") 0 0 [] ∷ []) refl whole.gave.readings whole.gave.room whole.gave.some_room whole.gave.given

-- what another file gave is nothing of this one
of_another : (readings : List Reading) (room : ℕ) (bytes : List ℕ) → reading (codes "o") 0 room bytes ∷ [] ≡ [] ++ readings → Follow (codes "b") 0 readings → ⊥
of_another [] room bytes given follow = cc
of_another (first ∷ more) room bytes given follow =
    let same : reading (codes "o") 0 room bytes ≡ first = cc in
    let name : codes "o" ≡ first.name = ap (λ (r : Reading). r.name) same in
    other_names (sym (name ∙ follow.0))

not_of_another : (room : ℕ) (bytes : List ℕ) → ¬ Gave (real_files [] []) (real_files (reading (codes "o") 0 room bytes ∷ []) []) (codes "b") bytes
not_of_another room bytes gave = of_another gave.readings room bytes gave.given gave.follow

-- a dump that reads one file more after it ended is not done: the reads are those of the plan, and no others
abbrev read_twice : List ℕ → List Reading
read_twice text = reading (codes "b") 0 65536 [] ∷ reading (codes "o") 0 65536 text ∷ []

last_is_end : (text : List ℕ) (readings : List Reading) (room : ℕ) (bytes : List ℕ) → read_twice text ≡ [] ++ (readings ++ reading (codes "b") (length bytes) room [] ∷ [])
    → Follow (codes "b") 0 readings → ⊥
last_is_end text [] room bytes given follow = cc
last_is_end text (first ∷ []) room bytes given follow =
    let same : reading (codes "o") 0 65536 text ≡ reading (codes "b") (length bytes) room [] = cc in
    other_names (sym (ap (λ (r : Reading). r.name) same))
last_is_end text (first ∷ second ∷ more) room bytes given follow = more_than_two more (cc)
  where
    more_than_two : (more : List Reading) → [] ≡ more ++ reading (codes "b") (length bytes) room [] ∷ [] → ⊥
    more_than_two [] same = cc
    more_than_two (third ∷ rest) same = cc

not_read_after : (text whole : List ℕ) → ¬ IsWhole (real_files [] []) (real_files (read_twice text) []) (codes "b") limit whole
not_read_after text whole is = last_is_end text is.gave.readings is.gave.room whole is.gave.given is.gave.follow

-- Counts.

abbrev sink_with : List ℕ → ℕ → SinkState
sink_with received faults = record { received = received; faults = faults }

-- a sink that nothing was put into
abbrev silent_sink : Change SinkState
silent_sink = change (sink_with [] 0) (sink_with [] 0)

-- a count of faults that fell fits no answer
count_falls : (answer : List ℕ) → ¬ Receives (change (sink_with [] 7) (sink_with answer 6)) answer
count_falls answer receives = let count = receives.count in omega (arith, count)

no_count_falls : (before after : FilesState) (out : Change SinkState) (e : Ending) (output : Option (List ℕ)) → Keeps e output (change before after) out
    → (before.read_faults ≤ after.read_faults) × (out.before.faults ≤ out.after.faults)
no_count_falls before after out e output keeps = (keeps.read_faults, keeps.put_faults)

-- What refuses these runs is the one clause each: all else that is asked of such a run holds of it, so that it would pass without.

-- written twice: but for the list of writes
written_twice_but_for_the_list : (given : List Reading) (bytes : List ℕ) → length bytes ≤ limit
    → (length bytes ≤ limit) × Holds None None (codes "o") bytes × (0 ≤ 0) × OnlyWrites (real_files given []) (real_files given (twice bytes))
written_twice_but_for_the_list given bytes within = (within, refl, omega arith, record { given = refl; read_faults = refl })

-- the output written empty, and then out of memory: but for the list of writes
emptied_but_for_the_list : ReceivesNothing silent_sink × Holds None None (codes "o") [] × OnlyWrites (real_files [] []) (real_files [] emptied)
emptied_but_for_the_list = (refl, refl, record { given = refl; read_faults = refl })

-- a reading without room: but for its room
empty_room_but_for_the_room : (reading (codes "b") 0 0 [] ∷ [] ≡ [] ++ ([] ++ reading (codes "b") 0 0 [] ∷ [])) × Follow (codes "b") 0 [] × ([] ≡ bytes_given [])
empty_room_but_for_the_room = (refl, tt, refl)

-- a count that falls: but for the count
fallen_but_for_the_count : (answer : List ℕ) → (sink_with answer 6).received ≡ (sink_with [] 7).received ++ answer
fallen_but_for_the_count answer = refl

-- Tasks that no verb has.

-- of so many files, none of which is read here
abbrev crowd : ℕ → Task
crowd count = record { file_count = count; plan = no_more; misfit = λ texts. None; output = None; Does = λ texts outcome. outcome ≡ prints [] }

abbrev still : Change FilesState
still = change (real_files [] []) (real_files [] [])

abbrev silent : Change SinkState
silent = silent_sink

-- 1,025 files are too many, and nothing else may come of them
too_many : CausedBy too_many_files still silent (crowd 1025)
too_many = (refl, record { same_files = refl; same_out = refl })

not_done_with_too_many : (files : Change FilesState) (out : Change SinkState) → ¬ CausedBy done files out (crowd 1025)
not_done_with_too_many files out cause = differ cause.0
  where
    differ : done ≡ too_many_files → ⊥
    differ same = cc

no_reading_with_too_many : (e : Ending) (files : Change FilesState) (out : Change SinkState) → CausedBy e files out (crowd 1025) → files.after.given ≡ files.before.given
no_reading_with_too_many e files out cause = ap (λ (state : FilesState). state.given) cause.1.same_files

-- 1,024 are not
not_too_many : (files : Change FilesState) (out : Change SinkState) → ¬ CausedBy too_many_files files out (crowd 1024)
not_too_many files out cause = cause

done_with_just_enough : CausedBy done still (change (sink_with [] 0) (sink_with [] 0)) (crowd 1024)
done_with_just_enough = record {
  texts = [];
  between = real_files [] [];
  reads = refl;
  follow = refl;
  outcome = prints [];
  does = refl;
  holds = (refl, record { received = refl; count = omega arith });
}

-- and they are told as too many before any file is looked at
too_many_are_due : (contents : Contents) → IsDue too_many_files (crowd 1025) contents
too_many_are_due contents = refl

-- a script that names, by its own text, the file that is read after it
abbrev script : Plan
script = reads (input (codes "s") object_text) (λ text. reads (input text object_text) (λ other. no_more))

abbrev scripted : Task
scripted = record { file_count = 0; plan = script; misfit = λ texts. None; output = None; Does = λ texts outcome. outcome ≡ prints [] }

-- the script has the text `#a`, and the file of this name may be there
abbrev told : Option (List ℕ) → Contents
told file name = if bytes_eq name (codes "s") then Some (codes "#a") else if bytes_eq name (codes "#a") then file else None

-- where it is not, the name of the ending is made of the text
named_file_is_missing : first_stop (told None) script ≡ Some (read_fault (codes "#a"))
unfolding opened
named_file_is_missing = refl

named_file_breaks : first_stop (told (Some (codes "w7 Nn1,n2x1y2"))) script ≡ Some (refused (codes "#a") (InObjects (record { at = 3; kind = opl.LocatedRef })))
unfolding opened
named_file_breaks = refl

named_file_is_good : (first_stop (told (Some [])) script ≡ None) × AreTold (told (Some [])) script (codes "#a" ∷ [] ∷ [])
unfolding opened
named_file_is_good = (refl, (refl, (refl, tt)))

script_is_missing : first_stop (λ name. None) script ≡ Some (read_fault (codes "s"))
script_is_missing = refl

-- two files of which the second does not follow
abbrev second_is_late : Misfit
second_is_late = record { name = codes "h"; kind = kind.StampNotLater; index = 1 }

abbrev pair : Task
pair = record {
  file_count = 2;
  plan = in_turn (input (codes "a") object_text ∷ input (codes "h") object_text ∷ []);
  misfit = λ texts. Some second_is_late;
  output = None;
  Does = λ texts outcome. outcome ≡ prints [];
}

abbrev both_told : Contents
both_told name = Some []

-- both are good, so this is what is due, and a break of one of them would come before it
misfit_is_due : IsDue (misfit second_is_late) pair both_told
unfolding opened
misfit_is_due = record { texts = [] ∷ [] ∷ []; told = (refl, (refl, tt)); due = refl }

break_comes_first : (e : Ending) → IsDue e pair (λ name. Some (codes "w7 Nn1,n2x1y2")) → e ≡ refused (codes "a") (InObjects (record { at = 3; kind = opl.LocatedRef }))
unfolding opened
break_comes_first e due = due

-- such a run is not done, and has put nothing
misfit_is_not_done : (files : Change FilesState) (out : Change SinkState) → ¬ CausedBy done files out pair
misfit_is_not_done files out works = differ works.follow
  where
    differ : Some second_is_late ≡ None → ⊥
    differ same = cc

misfit_puts_nothing : (files : Change FilesState) (out : Change SinkState) → CausedBy (misfit second_is_late) files out pair → (out.after ≡ out.before) × (files.after.writes ≡ files.before.writes)
misfit_puts_nothing files out cause = (cause.1, (all_only pair.plan cause.0.texts files.before files.after cause.0.reads).writes)

-- The start of a program.

abbrev telling : Change SinkState → Run
telling err = record { files = still; out = silent; err = err; steps = change 0 0 }

abbrev bad_line : List ℕ
bad_line = codes "obf: the words are none of the ten forms" ++ 10 ∷ []

-- an argument that is no text ends in 2, with its line
not_text_is_told : EndsWithCode 2 arguments.NotText (telling (change (sink_with [] 0) (sink_with bad_line 0)))
not_text_is_told = record {
  ending = bad_words;
  coded = refl;
  ends = (refl, record { untouched = record { same_files = refl; same_out = refl }; told = inl (record { received = refl; count = omega arith }) });
}

-- and never in 0
not_text_is_not_done : (run : Run) → ¬ EndsWithCode 0 arguments.NotText run
not_text_is_not_done run ends =
    let code : 0 ≡ code_of bad_words = ends.coded ∙ ap code_of ends.ends.0 in
    omega (arith, code)

-- nor without its line, where the error sink has not failed
untold : (e : Ending) → e ≡ bad_words → ¬ PutsLine e (change (sink_with [] 0) (sink_with [] 0))
untold e is tells = one (subst (λ (e : Ending). PutsLine e (change (sink_with [] 0) (sink_with [] 0))) is tells)
  where
    one : PutsLine bad_words (change (sink_with [] 0) (sink_with [] 0)) → ⊥
    one (inl all) = let none : [] ≡ bad_line = all.received in cc
    one (inr less) = let rose = less.fault in omega (arith, rose)

line_is_not_dropped : (code : ℕ) → ¬ EndsWithCode code arguments.NotText (telling (change (sink_with [] 0) (sink_with [] 0)))
line_is_not_dropped code ends = untold ends.ending ends.ends.0 ends.ends.1.told

-- no memory for the words ends in 6
no_words_end_in_six : (code : ℕ) (run : Run) → EndsWithCode code arguments.NoMemory run → code ≡ 6
no_words_end_in_six code run ends = ends.coded ∙ ap code_of ends.ends.0
