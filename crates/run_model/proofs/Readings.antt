-- Files that were read, or were not read to their end.
use Rattle.std.proofs.Common.{◌≡◌, ℕ, List, [], ◌∷◌, subst, sym, refl, inl, inr, arith}
use Rattle.outside.specs.Files.{FilesState, OnlyReads}
use Rattle.outside.specs.Whole.{ReadsPart}
use Rattle.outside.proofs.WholeLemmas.{reads-again}
use Rattle.run_model.specs.Endings.{Ending, done, bad_words, too_many_files, refused, misfit, read_fault, write_fault, answer_fault, no_memory, over_limit}
use Rattle.run_model.specs.Inputs.{Input, Plan, no_more, reads}
use Rattle.run_model.specs.Reads.{EndsAmong, EndsAt, ReadInOrder, limit}

-- wherever a run ended at a file, a part of the file was read, or none of it, or all
pub at_short : (file : Input) (before after : FilesState) (e : Ending) → EndsAt file before after e → ReadsPart before after file.name limit
at_short file before after (refused name first) ends =
    record { bytes = ends.1.text; gave = inr ends.1.whole.gave; count = let within = ends.1.whole.within in omega (arith, within) }
at_short file before after (read_fault name) ends =
    record { bytes = ends.1.stopped.bytes; gave = inl ends.1.stopped.gave; count = let within = ends.1.stopped.count in omega (arith, within) }
at_short file before after (over_limit name) ends =
    record { bytes = ends.1.bytes; gave = inl ends.1.gave; count = let count = ends.1.count in omega (arith, count) }
at_short file before after no_memory ends = ends
at_short file before after done ends = absurd ends
at_short file before after bad_words ends = absurd ends
at_short file before after too_many_files ends = absurd ends
at_short file before after (misfit which) ends = absurd ends
at_short file before after (write_fault name) ends = absurd ends
at_short file before after answer_fault ends = absurd ends

-- where a run ended among files, it may have ended there out of memory
pub among_short : (plan : Plan) (before after : FilesState) (e : Ending) → EndsAmong plan before after e → EndsAmong plan before after no_memory
among_short no_more before after e ends = (refl, ends.1)
among_short (reads file rest) before after e (inl now) = inl (at_short file before after e now.0, now.1)
among_short (reads file rest) before after e (inr later) = inr (later.0, later.1, later.2, among_short (rest later.0) later.1 after e later.3)

-- and so where all files were read
pub all_short : (plan : Plan) (texts : List (List ℕ)) (before after : FilesState) → ReadInOrder before after plan texts → EndsAmong plan before after no_memory
all_short no_more [] before after all = (refl, all)
all_short no_more (text ∷ texts) before after all = absurd all
all_short (reads file rest) [] before after all = absurd all
all_short (reads file rest) (text ∷ texts) before after all = inr (text, all.0, all.1, all_short (rest text) texts all.0 after all.2)

-- nothing happened, so no more than reading
pub same_only : (before after : FilesState) → after ≡ before → OnlyReads before after
same_only before after same =
    let only : OnlyReads before before = record { contents = refl; writes = refl; write_faults = refl; read_faults = omega arith } in
    subst (λ (state : FilesState). OnlyReads before state) (sym same) only

-- where a run ended among files, these were only read
pub among_only : (plan : Plan) (before after : FilesState) (e : Ending) → EndsAmong plan before after e → OnlyReads before after
among_only no_more before after e ends = same_only before after ends.1
among_only (reads file rest) before after e (inl now) = now.1
among_only (reads file rest) before after e (inr later) =
    reads-again before later.1 after later.2.only (among_only (rest later.0) later.1 after e later.3)

-- and so where all files were read
pub all_only : (plan : Plan) (texts : List (List ℕ)) (before after : FilesState) → ReadInOrder before after plan texts → OnlyReads before after
all_only no_more [] before after all = same_only before after all
all_only no_more (text ∷ texts) before after all = absurd all
all_only (reads file rest) [] before after all = absurd all
all_only (reads file rest) (text ∷ texts) before after all = reads-again before all.0 after all.1.only (all_only (rest text) texts all.0 after all.2)
