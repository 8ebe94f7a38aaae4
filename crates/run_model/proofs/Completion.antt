-- Where files are told and nothing failed, an ending with a cause is the one that is due.
use Rattle.std.proofs.Common.{◌≡◌, ◌⊎◌, ◌≤◌, ◌<◌, ℕ, List, [], ◌∷◌, length, Bool, true, false, Option, Some, None, ap, refl, sym, subst, ◌∙◌, inl, inr, arith}
use Rattle.std.specs.Prelude.{nat_lt, if◌then◌else◌}
use Rattle.std.specs.Option.{option_map, option_or}
use Rattle.std.proofs.lemmas.Bool.{le-ltb, lt-ltb}
use Rattle.outside.specs.Faults.{Rose}
use Rattle.outside.specs.Files.{Contents, FilesState, Lacks}
use Rattle.outside.specs.Sinks.{SinkState}
use Rattle.outside.specs.Whole.{Exceeds, Tells}
use Rattle.run_model.specs.declared.breaks.Break.{Break}
use Rattle.run_model.specs.Endings.{Ending, done, bad_words, too_many_files, refused, misfit, read_fault, write_fault, answer_fault, no_memory, over_limit}
use Rattle.run_model.specs.Inputs.{Input, Misfit, Plan, break_in, no_more, reads}
use Rattle.run_model.specs.Jobs.{Outcome, Task}
use Rattle.run_model.specs.Reads.{EndsAmong, EndsAt, ReadInOrder, ReadsGood, limit}
use Rattle.run_model.specs.Runs.{AreTold, Caused, CausedBy, CausedWithin, Change, EndsAsTold, EndsWith, IsDue, IsDueAt, IsDueOver, IsDueWithin, IsNotWritten, IsTooLong, IsWrittenAs, NoFault, IsOutput, due_for, first_stop, names_too_many, stop_in, stop_or}

-- One file.

-- how a text ends a run, by whether it is too long and how it breaks
abbrev stop_of : Input → Bool → Option Break → Option Ending
stop_of file long first = if long then Some (over_limit file.name) else option_map (λ b. refused file.name b) first

short_stop : (file : Input) (text : List ℕ) (first : Option Break) → length text ≤ limit → break_in file.grammar text ≡ first → stop_in file text ≡ stop_of file false first
short_stop file text first within is =
    let short : nat_lt limit (length text) ≡ false = le-ltb limit (length text) within in
    ap (λ (long : Bool). stop_of file long (break_in file.grammar text)) short ∙ ap (λ (b : Option Break). stop_of file false b) is

long_stop : (file : Input) (text : List ℕ) → limit < length text → stop_in file text ≡ Some (over_limit file.name)
long_stop file text over =
    let long : nat_lt limit (length text) ≡ true = lt-ltb limit (length text) over in
    ap (λ (long : Bool). stop_of file long (break_in file.grammar text)) long

told_text : (contents : Contents) (found : Option Contents) (name text : List ℕ) → found ≡ Some contents → Tells found name text → contents name ≡ Some text
told_text contents found name text told tells = subst (λ (c : Option Contents). Tells c name text) told tells

good_told : (contents : Contents) (before after : FilesState) (file : Input) (text : List ℕ) → before.contents ≡ Some contents → ReadsGood before after file text
    → contents file.name ≡ Some text
good_told contents before after file text told read = told_text contents before.contents file.name text told read.whole.told

lacking : (contents : Contents) (found : Option Contents) (name : List ℕ) → found ≡ Some contents → Lacks found name → contents name ≡ None
lacking contents found name told lacks = subst (λ (c : Option Contents). Lacks c name) told lacks

exceeding : (contents : Contents) (found : Option Contents) (name : List ℕ) → found ≡ Some contents → Exceeds found name limit
    → (text : List ℕ) × (contents name ≡ Some text) × (limit < length text)
exceeding contents found name told over = subst (λ (c : Option Contents). Exceeds c name limit) told over

-- the rest of a plan after a text
abbrev later : Contents → (List ℕ → Plan) → List ℕ → Option Ending
later contents rest text = first_stop contents (rest text)

-- a told text that ends the run
text_stops : (contents : Contents) (file : Input) (rest : List ℕ → Plan) (text : List ℕ) (e : Ending) → contents file.name ≡ Some text
    → stop_in file text ≡ Some e → first_stop contents (reads file rest) ≡ Some e
text_stops contents file rest text e told stop =
    ap (λ (t : Option (List ℕ)). stop_or file t (later contents rest)) told ∙ ap (λ (s : Option Ending). option_or s (later contents rest text)) stop

-- a told text that is good
text_passes : (contents : Contents) (file : Input) (rest : List ℕ → Plan) (text : List ℕ) → contents file.name ≡ Some text
    → stop_in file text ≡ None → first_stop contents (reads file rest) ≡ first_stop contents (rest text)
text_passes contents file rest text told stop =
    ap (λ (t : Option (List ℕ)). stop_or file t (later contents rest)) told ∙ ap (λ (s : Option Ending). option_or s (later contents rest text)) stop

good_passes : (contents : Contents) (before after : FilesState) (file : Input) (rest : List ℕ → Plan) (text : List ℕ) → before.contents ≡ Some contents
    → ReadsGood before after file text → first_stop contents (reads file rest) ≡ first_stop contents (rest text)
good_passes contents before after file rest text told read =
    text_passes contents file rest text (good_told contents before after file text told read) (short_stop file text None read.whole.within read.good)

-- the ending is how told files end a run, or the run is out of memory
abbrev Decides : Option Ending → Ending → Type 0
Decides stop e = (stop ≡ Some e) ⊎ (e ≡ no_memory)

at_file : (contents : Contents) (file : Input) (rest : List ℕ → Plan) (before after : FilesState) (e : Ending) → before.contents ≡ Some contents
    → ¬ Rose before.read_faults after.read_faults → EndsAt file before after e → Decides (first_stop contents (reads file rest)) e
at_file contents file rest before after (refused name first) told fresh ends =
    let is : contents file.name ≡ Some ends.1.text = told_text contents before.contents file.name ends.1.text told ends.1.whole.told in
    let stop : stop_in file ends.1.text ≡ Some (refused file.name first) = short_stop file ends.1.text (Some first) ends.1.whole.within ends.1.breaks in
    inl (text_stops contents file rest ends.1.text (refused file.name first) is stop ∙ ap (λ (n : List ℕ). Some (refused n first)) (sym ends.0))
at_file contents file rest before after (read_fault name) told fresh ends = unread name ends.0 ends.1.cause
  where
    unread : (name : List ℕ) → name ≡ file.name → Rose before.read_faults after.read_faults ⊎ Lacks before.contents file.name
        → Decides (first_stop contents (reads file rest)) (read_fault name)
    unread name same (inl rose) = absurd (fresh rose)
    unread name same (inr lacks) =
        inl (ap (λ (t : Option (List ℕ)). stop_or file t (later contents rest)) (lacking contents before.contents file.name told lacks)
        ∙ ap (λ (n : List ℕ). Some (read_fault n)) (sym same))
at_file contents file rest before after (over_limit name) told fresh ends =
    let over = exceeding contents before.contents file.name told ends.1.told in
    inl (text_stops contents file rest over.0 (over_limit file.name) over.1 (long_stop file over.0 over.2) ∙ ap (λ (n : List ℕ). Some (over_limit n)) (sym ends.0))
at_file contents file rest before after no_memory told fresh ends = inr refl
at_file contents file rest before after done told fresh ends = absurd ends
at_file contents file rest before after bad_words told fresh ends = absurd ends
at_file contents file rest before after too_many_files told fresh ends = absurd ends
at_file contents file rest before after (misfit which) told fresh ends = absurd ends
at_file contents file rest before after (write_fault name) told fresh ends = absurd ends
at_file contents file rest before after answer_fault told fresh ends = absurd ends

-- Files in order.

-- a count that rose later rose from before
rose_from : (a b c : ℕ) → a ≤ b → Rose b c → Rose a c
rose_from a b c within rose = omega (arith, within, rose)

passed : (first rest : Option Ending) (e : Ending) → first ≡ rest → Decides rest e → Decides first e
passed first rest e same (inl stop) = inl (same ∙ stop)
passed first rest e same (inr short) = inr short

among_files : (contents : Contents) (plan : Plan) (before after : FilesState) (e : Ending) → before.contents ≡ Some contents
    → ¬ Rose before.read_faults after.read_faults → EndsAmong plan before after e → Decides (first_stop contents plan) e
among_files contents no_more before after e told fresh ends = inr ends.0
among_files contents (reads file rest) before after e told fresh (inl now) = at_file contents file rest before after e told fresh now.0
among_files contents (reads file rest) before after e told fresh (inr more) =
    let text = more.0 in let between = more.1 in let read = more.2 in
    passed (first_stop contents (reads file rest)) (first_stop contents (rest text)) e (good_passes contents before between file rest text told read)
    (among_files contents (rest text) between after e (read.only.contents ∙ told)
    (λ rose. fresh (rose_from before.read_faults between.read_faults after.read_faults read.only.read_faults rose)) more.3)

read_none : (contents : Contents) (plan : Plan) (texts : List (List ℕ)) (before between : FilesState) → before.contents ≡ Some contents
    → ReadInOrder before between plan texts → first_stop contents plan ≡ None
read_none contents no_more [] before between told all = refl
read_none contents no_more (text ∷ texts) before between told all = absurd all
read_none contents (reads file rest) [] before between told all = absurd all
read_none contents (reads file rest) (text ∷ texts) before between told all =
    good_passes contents before all.0 file rest text told all.1 ∙ read_none contents (rest text) texts all.0 between (all.1.only.contents ∙ told) all.2

read_told : (contents : Contents) (plan : Plan) (texts : List (List ℕ)) (before between : FilesState) → before.contents ≡ Some contents
    → ReadInOrder before between plan texts → AreTold contents plan texts
read_told contents no_more [] before between told all = tt
read_told contents no_more (text ∷ texts) before between told all = absurd all
read_told contents (reads file rest) [] before between told all = absurd all
read_told contents (reads file rest) (text ∷ texts) before between told all =
    (good_told contents before all.0 file text told all.1, read_told contents (rest text) texts all.0 between (all.1.only.contents ∙ told) all.2)

read_writes : (plan : Plan) (texts : List (List ℕ)) (before between : FilesState) → ReadInOrder before between plan texts → between.write_faults ≡ before.write_faults
read_writes no_more [] before between all = ap (λ (f : FilesState). f.write_faults) all
read_writes no_more (text ∷ texts) before between all = absurd all
read_writes (reads file rest) [] before between all = absurd all
read_writes (reads file rest) (text ∷ texts) before between all = read_writes (rest text) texts all.0 between all.2 ∙ all.1.only.write_faults

-- The whole run.

written_due : (between after : FilesState) (output written : Option (List ℕ)) → IsWrittenAs between after output written → done ≡ due_for output written
written_due between after None None is = refl
written_due between after None (Some bytes) is = refl
written_due between after (Some name) None is = refl
written_due between after (Some name) (Some bytes) is =
    let short : nat_lt limit (length bytes) ≡ false = le-ltb limit (length bytes) is.within in
    sym (ap (λ (long : Bool). if long then over_limit name else done) short)

long_due : (between after : FilesState) (name : List ℕ) (output written : Option (List ℕ)) → IsOutput name output written (IsTooLong between after)
    → over_limit name ≡ due_for output written
long_due between after name None None is = absurd is
long_due between after name None (Some bytes) is = absurd is
long_due between after name (Some out) None is = absurd is
long_due between after name (Some out) (Some bytes) is =
    let long : nat_lt limit (length bytes) ≡ true = lt-ltb limit (length bytes) is.1.0 in
    ap (λ (n : List ℕ). over_limit n) is.0 ∙ sym (ap (λ (long : Bool). if long then over_limit out else done) long)

lost_rose : (between after : FilesState) (name : List ℕ) (output written : Option (List ℕ)) → IsOutput name output written (IsNotWritten between after name)
    → Rose between.write_faults after.write_faults
lost_rose between after name None None is = absurd is
lost_rose between after name None (Some bytes) is = absurd is
lost_rose between after name (Some out) None is = absurd is
lost_rose between after name (Some out) (Some bytes) is = is.1.fault

-- an ending that is due, or the run is out of memory
abbrev Ends : Ending → Task → Contents → Type 0
Ends e task contents = IsDueAt e task contents (first_stop contents task.plan) ⊎ (e ≡ no_memory)

decided : (e : Ending) (task : Task) (contents : Contents) → Decides (first_stop contents task.plan) e → Ends e task contents
decided e task contents (inl stop) = inl (subst (λ (s : Option Ending). IsDueAt e task contents s) (sym stop) refl)
decided e task contents (inr short) = inr short

ends_as_told : (e : Ending) (task : Task) (contents : Contents) (texts : List (List ℕ)) (before between : FilesState) (found : Option Misfit) → before.contents ≡ Some contents
    → ReadInOrder before between task.plan texts → task.misfit texts ≡ found → IsDueOver e task texts found → Ends e task contents
ends_as_told e task contents texts before between found told all is due =
    let as_told : EndsAsTold e task contents = record {
      texts = texts;
      told = read_told contents task.plan texts before between told all;
      due = subst (λ (m : Option Misfit). IsDueOver e task texts m) (sym is) due;
    } in
    inl (subst (λ (s : Option Ending). IsDueAt e task contents s) (sym (read_none contents task.plan texts before between told all)) as_told)

ends_with : (e : Ending) (task : Task) (contents : Contents) (texts : List (List ℕ)) (before between : FilesState) (outcome : Outcome) → before.contents ≡ Some contents
    → ReadInOrder before between task.plan texts → task.misfit texts ≡ None → task.Does texts outcome → e ≡ due_for task.output outcome.written → Ends e task contents
ends_with e task contents texts before between outcome told all follow does due =
    let ends : EndsWith e task texts = record { outcome = outcome; does = does; due = due } in
    ends_as_told e task contents texts before between None told all follow ends

caused_ends : (e : Ending) (files : Change FilesState) (out : Change SinkState) (task : Task) (contents : Contents) → Caused e files out task
    → files.before.contents ≡ Some contents → NoFault files out → Ends e task contents
caused_ends done files out task contents works told fresh =
    ends_with done task contents works.texts files.before works.between works.outcome told works.reads works.follow works.does
    (written_due works.between files.after task.output works.outcome.written works.holds.0)
caused_ends (refused name first) files out task contents cause told fresh =
    decided (refused name first) task contents (among_files contents task.plan files.before files.after (refused name first) told fresh.reads cause.0)
caused_ends (read_fault name) files out task contents cause told fresh =
    decided (read_fault name) task contents (among_files contents task.plan files.before files.after (read_fault name) told fresh.reads cause.0)
caused_ends (misfit which) files out task contents cause told fresh =
    ends_as_told (misfit which) task contents cause.0.texts files.before files.after (Some which) told cause.0.reads cause.0.first refl
caused_ends (write_fault name) files out task contents cause told fresh =
    let works = cause.0 in
    let rose : Rose works.between.write_faults files.after.write_faults =
    lost_rose works.between files.after name task.output works.outcome.written works.holds in
    absurd (fresh.writes (subst (λ (n : ℕ). Rose n files.after.write_faults) (read_writes task.plan works.texts files.before works.between works.reads) rose))
caused_ends answer_fault files out task contents works told fresh = absurd (fresh.puts works.holds.1.fault)
caused_ends no_memory files out task contents cause told fresh = inr refl
caused_ends (over_limit name) files out task contents cause told fresh = elim cause.0 [
  | inl ends ↦ decided (over_limit name) task contents (among_files contents task.plan files.before files.after (over_limit name) told fresh.reads ends)
  | inr works ↦
      ends_with (over_limit name) task contents works.texts files.before works.between works.outcome told works.reads works.follow works.does
      (long_due works.between files.after name task.output works.outcome.written works.holds)
]
caused_ends bad_words files out task contents cause told fresh = absurd cause
caused_ends too_many_files files out task contents cause told fresh = absurd cause

within_ends : (many : Bool) (e : Ending) (files : Change FilesState) (out : Change SinkState) (task : Task) (contents : Contents)
    → CausedWithin many e files out task → files.before.contents ≡ Some contents → NoFault files out → IsDueWithin many e task contents ⊎ (e ≡ no_memory)
within_ends true e files out task contents cause told fresh = inl cause.0
within_ends false e files out task contents cause told fresh = caused_ends e files out task contents cause told fresh

-- of any task
pub task_ends : (e : Ending) (files : Change FilesState) (out : Change SinkState) (task : Task) (contents : Contents) → CausedBy e files out task
    → files.before.contents ≡ Some contents → NoFault files out → IsDue e task contents ⊎ (e ≡ no_memory)
task_ends e files out task contents cause told fresh = within_ends (names_too_many task) e files out task contents cause told fresh
