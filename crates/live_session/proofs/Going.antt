-- Machines that go on, an event at a time.
use Rattle.std.proofs.Common.{◌≡◌, ℕ, ◌+◌, Bool, true, false, cond, List, [], ◌∷◌, ◌++◌, length, filter, Option, Some, None, refl, sym, ap, ◌∙◌, arith}
use Rattle.std.specs.Prelude.{nat_le, is_none, slice_set, ◌&&◌}
use Rattle.std.specs.Option.{option_or}
use Rattle.live_model.specs.declared.objects.Line.{Line}
use Rattle.live_model.specs.declared.queries.Query.{Query}
use Rattle.script_text.specs.declared.steps.What.{What}
use Rattle.script_text.specs.declared.steps.What.TheVariants as what
use Rattle.stamp_core.specs.Hours.{CivilHour, number_of}
use Rattle.overlay_set.specs.Sets.{Entry, State, last_in, stamps_of}
use Rattle.overlay_set.specs.Periods.{shrinkable}
use Rattle.overlay_set.specs.Machines.{Event, Publish, Take, Ask, Drop, Reply, Late, HistoryFull, FilesFull, limits_of_a_board, at_place, asked, is_full, late_after, published_in, refused, step}
use Rattle.session_text.specs.Plays.{answers_a_line, events_from}
use Rattle.session_text.specs.Sessions.{replies_text, reply_text}
use Rattle.live_core.specs.Running.{Running, after_event, after_events, answer_to, answers_to, machine_of}
use Rattle.live_core.proofs.Playing.{seen_events_law}
use Rattle.live_session.specs.Lines.{lines_text}

-- after an event, the others
pub after_cons : (r : Running) (x : Event) (xs : List Event) → after_events r (x ∷ xs) ≡ after_events (after_event r x) xs
after_cons r x xs = sym (seen_events_law r.rules r.base (step limits_of_a_board r.rules r.base (machine_of r) x).0 xs).0

pub answers_cons : (r : Running) (x : Event) (xs : List Event) → answers_to r (x ∷ xs) ≡ answer_to r x ∷ answers_to (after_event r x) xs
answers_cons r x xs = ap (λ (rs : List Reply). answer_to r x ∷ rs) (sym (seen_events_law r.rules r.base (step limits_of_a_board r.rules r.base (machine_of r) x).0 xs).1)

-- A publication answers its line.

-- it is none, or one that answers a line
abbrev is_refusal : Option Reply → Bool
is_refusal None = true
is_refusal (Some reply) = answers_a_line reply

late_is : (last : Option CivilHour) (front : ℕ) (stamp : CivilHour) → is_refusal (late_after last front stamp) ≡ true
late_is None front stamp = refl
late_is (Some last) front stamp = go (nat_le (number_of stamp) (number_of last))
  where
    go : (b : Bool) → is_refusal (cond b (Some (Late front last)) None) ≡ true
    go true = refl
    go false = refl

full_is : (a b : Bool) (front : ℕ) → is_refusal (cond a (Some (HistoryFull front)) (cond b (Some (FilesFull front)) None)) ≡ true
full_is true b front = refl
full_is false true front = refl
full_is false false front = refl

either_is : (a b : Option Reply) → is_refusal a ≡ true → is_refusal b ≡ true → is_refusal (option_or a b) ≡ true
either_is None b ha hb = hb
either_is (Some reply) b ha hb = ha

refused_is : (r : Running) (stamp : CivilHour) → is_refusal (refused limits_of_a_board r.rules r.base r.now stamp) ≡ true
refused_is r stamp =
    either_is (late_after (last_in (stamps_of r.now.history)) (length r.now.history) stamp) _ (late_is (last_in (stamps_of r.now.history)) (length r.now.history) stamp)
    (full_is (nat_le limits_of_a_board.entries (length r.now.history)) (is_full limits_of_a_board r.rules r.base r.now && is_none (shrinkable r.now)) (length r.now.history))

pub publication_answers : (r : Running) (pass : ℕ) (stamp : CivilHour) (tag : ℕ) (lines : List Line) → answers_a_line (answer_to r (Publish pass stamp tag lines)) ≡ true
publication_answers r pass stamp tag lines = go (refused limits_of_a_board r.rules r.base r.now stamp) (refused_is r stamp)
  where
    entry : Entry
    entry = record { stamp = stamp; tag = tag; lines = lines }

    go : (o : Option Reply) → is_refusal o ≡ true → answers_a_line (published_in limits_of_a_board r.rules r.base o r.now entry).1 ≡ true
    go None is = refl
    go (Some reply) is = is

-- A question of what was just taken answers its line.

taken_there : {A : Type 0} (xs : List (Option A)) (x : A) → length xs ≡ 1 → at_place (slice_set xs 0 (Some x)) 0 ≡ Some x
taken_there [] x one = absurd (omega arith)
taken_there (y ∷ ys) x one = refl

pub question_answers : (r : Running) (query : Query) → length r.held ≡ 1 → answers_a_line (answer_to (after_event r (Take 0)) (Ask 0 query)) ≡ true
question_answers r query one =
    ap (λ (s : Option State). answers_a_line (asked limits_of_a_board r.rules r.base s query)) (taken_there r.held r.now one)

-- One line more.

kept : (p : Reply → Bool) (x : Reply) (xs : List Reply) → p x ≡ true → filter p (x ∷ xs) ≡ x ∷ filter p xs
kept p x xs is = ap (λ (b : Bool). cond b (x ∷ filter p xs) (filter p xs)) is

-- the events of a publication, and then of the rest
pub publication_first : (line : ℕ) (r : Running) (stamp : CivilHour) (file : List ℕ) (rest : List What) (change : List Line) (changes : List (List Line))
    → lines_text line r (what.Publish stamp file ∷ rest) (change ∷ changes)
    ≡ reply_text line (answer_to r (Publish 0 stamp line change)) ++ lines_text (line + 1) (after_event r (Publish 0 stamp line change)) rest changes
publication_first line r stamp file rest change changes =
    let x = Publish 0 stamp line change in
    let xs = events_from (line + 1) rest changes in
    ap (λ (rs : List Reply). replies_text line (filter answers_a_line rs)) (answers_cons r x xs)
    ∙ ap (λ (rs : List Reply). replies_text line rs) (kept answers_a_line (answer_to r x) (answers_to (after_event r x) xs) (publication_answers r 0 stamp line change))

-- those of a question
pub question_first : (line : ℕ) (r : Running) (query : Query) (rest : List What) (changes : List (List Line)) → length r.held ≡ 1
    → lines_text line r (what.Ask query ∷ rest) changes
    ≡ reply_text line (answer_to (after_event r (Take 0)) (Ask 0 query))
    ++ lines_text (line + 1) (after_event (after_event (after_event r (Take 0)) (Ask 0 query)) (Drop 0)) rest changes
question_first line r query rest changes one =
    let a = after_event r (Take 0) in
    let b = after_event a (Ask 0 query) in
    let c = after_event b (Drop 0) in
    let xs = events_from (line + 1) rest changes in
    let all : answers_to r (Take 0 ∷ Ask 0 query ∷ Drop 0 ∷ xs) ≡ answer_to r (Take 0) ∷ answer_to a (Ask 0 query) ∷ answer_to b (Drop 0) ∷ answers_to c xs =
    answers_cons r (Take 0) (Ask 0 query ∷ Drop 0 ∷ xs)
    ∙ ap (λ (rs : List Reply). answer_to r (Take 0) ∷ rs) (answers_cons a (Ask 0 query) (Drop 0 ∷ xs))
    ∙ ap (λ (rs : List Reply). answer_to r (Take 0) ∷ answer_to a (Ask 0 query) ∷ rs) (answers_cons b (Drop 0) xs) in
    ap (λ (rs : List Reply). replies_text line (filter answers_a_line rs)) all
    ∙ ap (λ (rs : List Reply). replies_text line rs) (kept answers_a_line (answer_to a (Ask 0 query)) (answer_to b (Drop 0) ∷ answers_to c xs) (question_answers r query one))

-- and the machine after them
pub question_after : (r : Running) (query : Query) (xs : List Event)
    → after_events r (Take 0 ∷ Ask 0 query ∷ Drop 0 ∷ xs) ≡ after_events (after_event (after_event (after_event r (Take 0)) (Ask 0 query)) (Drop 0)) xs
question_after r query xs =
    after_cons r (Take 0) (Ask 0 query ∷ Drop 0 ∷ xs)
    ∙ after_cons (after_event r (Take 0)) (Ask 0 query) (Drop 0 ∷ xs)
    ∙ after_cons (after_event (after_event r (Take 0)) (Ask 0 query)) (Drop 0) xs
