-- What a feed holds after a piece, and at the end, is what the stream leaves.
use Rattle.std.proofs.Common.{◌≡◌, ℕ, ◌+◌, ◌≤◌, List, [], ◌∷◌, ◌++◌, length, Option, Some, None, length-append, refl, sym, ap, ◌∙◌, arith, subst}
use Rattle.std.specs.Option.{option_or}
use Rattle.std.specs.List.{AllByRecursion}
use Rattle.text_pieces.specs.Lines.{lines_from}
use Rattle.live_model.specs.declared.objects.Line.{Line}
use Rattle.live_model.specs.FieldValues.{prepended}
use Rattle.live_model.specs.ObjectLines.{line_of}
use Rattle.live_model.specs.Objects.{IsGoodLine}
use Rattle.live_model.specs.OplTexts.{object_lines_in, object_lines, spelled_lines, break_from, text_break}
use Rattle.live_model.proofs.GoodLines.{lines_good}
use Rattle.opl_reader.specs.declared.OplError.{OplError}
use Rattle.opl_reader.specs.declared.OplError.TheVariants.{NoMemory, Broken}
use Rattle.opl_reader.specs.Readings.{IsCause}
use Rattle.opl_feed.specs.Streams.{completed, begun, completed_rows}
use Rattle.opl_feed.specs.Rows.{row_of, AreRead, IsRowsCause}
use Rattle.opl_feed.specs.Feeds.{Fed, fresh, Holds, IsFedOrRefused, IsFedBy, Adds}
use Rattle.opl_feed.proofs.Cuts.{completed_on, begun_on, begun_has_none, parts_are_all, lines_behind, objects_joined, row_alone}
use Rattle.opl_feed.proofs.Reading.{break_on, spelled_on}

-- each object line that is spelled is one line
spelled_length : (rows : List (ℕ × List ℕ)) (lines : List Line) → spelled_lines rows ≡ Some lines → length lines ≡ length rows
spelled_length [] lines e = let none : [] ≡ lines = cc in ap length (sym none)
spelled_length (r ∷ rs) lines e = one (line_of r.1) (spelled_lines rs) refl e (spelled_length rs)
  where
    one : (l : Option Line) (ls : Option (List Line)) → spelled_lines rs ≡ ls → prepended l ls ≡ Some lines
        → ((xs : List Line) → spelled_lines rs ≡ Some xs → length xs ≡ length rs) → length lines ≡ length (r ∷ rs)
    one None ls rest e again = absurd (cc)
    one (Some x) None rest e again = absurd (cc)
    one (Some x) (Some xs) rest e again =
        let same : x ∷ xs ≡ lines = cc in
        let long = again xs rest in
        let whole = ap length same in
        omega arith

-- the object lines that stand behind the completed lines of a stream
behind_completed : (stream more : List ℕ) → object_lines (completed stream ++ more) ≡ object_lines (completed stream) ++ object_lines_in (lines_from (length (completed stream)) more)
behind_completed stream more =
    let none : 0 + length (completed stream) ≡ length (completed stream) = omega arith in
    ap object_lines_in (lines_behind 0 stream more) ∙ objects_joined (lines_from 0 (completed stream)) (lines_from (0 + length (completed stream)) more)
    ∙ ap (λ n. object_lines (completed stream) ++ object_lines_in (lines_from n more)) none

-- the object lines that a stream completes with a piece more
rows_on : (stream piece : List ℕ) → object_lines (completed (stream ++ piece)) ≡ object_lines (completed stream) ++ completed_rows (length (completed stream)) (begun stream ++ piece)
rows_on stream piece = ap object_lines (completed_on stream piece) ∙ behind_completed stream (completed (begun stream ++ piece))

-- the object lines of a stream at its end
rows_end : (stream : List ℕ) → object_lines stream ≡ object_lines (completed stream) ++ row_of (length (completed stream)) (begun stream)
rows_end stream =
    ap object_lines (sym (parts_are_all stream)) ∙ behind_completed stream (begun stream)
    ∙ ap (λ rows. object_lines (completed stream) ++ rows) (row_alone (length (completed stream)) (begun stream) (begun_has_none stream))

-- Texts with more object lines behind theirs.

-- lines that are read behind those of a text
more_lines : (short long : List ℕ) (rows : List (ℕ × List ℕ)) (n m : ℕ) (a b : List Line) → object_lines long ≡ object_lines short ++ rows → n ≡ length (object_lines short) → m ≤ 4000000
    → AreRead n rows m a b → Adds short long a b
more_lines short long rows n m a b is count few read = record {
  more = read.more;
  behind = read.behind;
  spelled = λ lines text.
      let total = length-append lines read.more in
      let first = spelled_length (object_lines short) lines text.spelled in
      let last = spelled_length rows read.more read.spelled in
      let all = read.count in
      record {
        spelled = ap spelled_lines is ∙ spelled_on (object_lines short) rows lines read.more text.spelled read.spelled;
        within = omega arith;
      };
}

-- a text whose object lines have no break, with more of them
more_break : (short long : List ℕ) (rows : List (ℕ × List ℕ)) (n : ℕ) → object_lines long ≡ object_lines short ++ rows → n ≡ length (object_lines short) → text_break short ≡ None
    → text_break long ≡ break_from n rows
unfolding text_break
more_break short long rows n is count none =
    let far : 0 + length (object_lines short) ≡ n = omega arith in
    ap (break_from 0) is ∙ break_on 0 (object_lines short) rows ∙ ap (λ o. option_or o (break_from (0 + length (object_lines short)) rows)) none ∙ ap (λ k. break_from k rows) far

-- a text that breaks does so with more object lines too
still_broken : (short long : List ℕ) (rows : List (ℕ × List ℕ)) (e : OplError) → object_lines long ≡ object_lines short ++ rows → IsCause short e → IsCause long e
unfolding text_break
still_broken short long rows NoMemory is cause = tt
still_broken short long rows (Broken b) is cause =
    ap (break_from 0) is ∙ break_on 0 (object_lines short) rows ∙ ap (λ o. option_or o (break_from (0 + length (object_lines short)) rows)) cause

more_cause : (short long : List ℕ) (rows : List (ℕ × List ℕ)) (n : ℕ) (e : OplError) → object_lines long ≡ object_lines short ++ rows → n ≡ length (object_lines short) → text_break short ≡ None
    → IsRowsCause n rows e → IsCause long e
more_cause short long rows n NoMemory is count none cause = tt
more_cause short long rows n (Broken b) is count none cause = more_break short long rows n is count none ∙ cause

-- Feeds.

-- a feed that was not refused holds what the stream leaves
pub not_refused : (stream : List ℕ) (feed : Fed) → feed.refused ≡ None → IsFedBy stream feed → Holds stream feed
not_refused stream feed none fed = subst (λ r. IsFedOrRefused r stream feed) none fed

-- a feed that was refused has its cause
pub refused_for : (stream : List ℕ) (feed : Fed) (e : OplError) → feed.refused ≡ Some e → IsFedBy stream feed → IsCause (completed stream) e
refused_for stream feed e is fed = subst (λ r. IsFedOrRefused r stream feed) is fed

-- and is fed by every stream with that cause
pub is_refused : (stream : List ℕ) (feed : Fed) (e : OplError) → feed.refused ≡ Some e → IsCause (completed stream) e → IsFedBy stream feed
is_refused stream feed e is cause = subst (λ r. IsFedOrRefused r stream feed) (sym is) cause

-- a feed that holds what a stream leaves is fed by it
pub is_held : (stream : List ℕ) (feed : Fed) → feed.refused ≡ None → Holds stream feed → IsFedBy stream feed
is_held stream feed none holds = subst (λ r. IsFedOrRefused r stream feed) (sym none) holds

-- a new feed holds what no bytes leave
pub nothing_came : IsFedBy [] fresh
unfolding text_break lines_from
nothing_came = record { at = refl; rows = refl; begun = refl; unbroken = refl }

-- the rows that a piece completes, where the feed holds what the stream leaves
rows_held : (stream piece : List ℕ) (feed : Fed) → Holds stream feed → object_lines (completed (stream ++ piece)) ≡ object_lines (completed stream) ++ completed_rows feed.at (feed.begun ++ piece)
rows_held stream piece feed holds =
    rows_on stream piece ∙ ap (λ n. object_lines (completed stream) ++ completed_rows n (begun stream ++ piece)) (sym holds.at)
    ∙ ap (λ bytes. object_lines (completed stream) ++ completed_rows feed.at (bytes ++ piece)) (sym holds.begun)

rows_ended : (stream : List ℕ) (feed : Fed) → Holds stream feed → object_lines stream ≡ object_lines (completed stream) ++ row_of feed.at feed.begun
rows_ended stream feed holds =
    rows_end stream ∙ ap (λ n. object_lines (completed stream) ++ row_of n (begun stream)) (sym holds.at)
    ∙ ap (λ bytes. object_lines (completed stream) ++ row_of feed.at bytes) (sym holds.begun)

-- lines that a piece completes
pub piece_adds : (stream piece : List ℕ) (feed : Fed) (m : ℕ) (a b : List Line) → Holds stream feed → m ≤ 4000000 → AreRead feed.rows (completed_rows feed.at (feed.begun ++ piece)) m a b
    → Adds (completed stream) (completed (stream ++ piece)) a b
piece_adds stream piece feed m a b holds few read =
    more_lines (completed stream) (completed (stream ++ piece)) (completed_rows feed.at (feed.begun ++ piece)) feed.rows m a b (rows_held stream piece feed holds) holds.rows few read

-- what a feed holds after a piece
pub piece_holds : (stream piece : List ℕ) (old new : Fed) (a b : List Line) → Holds stream old → AreRead old.rows (completed_rows old.at (old.begun ++ piece)) new.rows a b
    → new.at ≡ old.at + length (completed (old.begun ++ piece)) → new.begun ≡ begun (old.begun ++ piece) → Holds (stream ++ piece) new
piece_holds stream piece old new a b holds read at begins =
    let rows = rows_held stream piece old holds in
    let total = ap length rows ∙ length-append (object_lines (completed stream)) (completed_rows old.at (old.begun ++ piece)) in
    let first = holds.rows in
    let count = read.count in
    let place = holds.at in
    let bytes : length (completed (stream ++ piece)) ≡ length (completed stream) + length (completed (old.begun ++ piece)) =
    ap length (completed_on stream piece) ∙ length-append (completed stream) (completed (begun stream ++ piece)) ∙ ap (λ bs. length (completed stream) + length (completed (bs ++ piece))) (sym holds.begun)
    in record {
      at = omega arith;
      rows = omega arith;
      begun = begins ∙ ap (λ bs. begun (bs ++ piece)) holds.begun ∙ sym (begun_on stream piece);
      unbroken = more_break (completed stream) (completed (stream ++ piece)) (completed_rows old.at (old.begun ++ piece)) old.rows rows holds.rows holds.unbroken ∙ read.unbroken;
    }

-- a line that a piece completes breaks
pub piece_cause : (stream piece : List ℕ) (feed : Fed) (e : OplError) → Holds stream feed → IsRowsCause feed.rows (completed_rows feed.at (feed.begun ++ piece)) e → IsCause (completed (stream ++ piece)) e
piece_cause stream piece feed e holds cause =
    more_cause (completed stream) (completed (stream ++ piece)) (completed_rows feed.at (feed.begun ++ piece)) feed.rows e (rows_held stream piece feed holds) holds.rows holds.unbroken cause

-- a completed line that broke before
pub still_refused : (stream piece : List ℕ) (e : OplError) → IsCause (completed stream) e → IsCause (completed (stream ++ piece)) e
still_refused stream piece e cause =
    still_broken (completed stream) (completed (stream ++ piece)) (completed_rows (length (completed stream)) (begun stream ++ piece)) e (rows_on stream piece) cause

-- the line that the end completes
pub end_adds : (stream : List ℕ) (feed : Fed) (m : ℕ) (a b : List Line) → Holds stream feed → m ≤ 4000000 → AreRead feed.rows (row_of feed.at feed.begun) m a b → Adds (completed stream) stream a b
end_adds stream feed m a b holds few read = more_lines (completed stream) stream (row_of feed.at feed.begun) feed.rows m a b (rows_ended stream feed holds) holds.rows few read

-- no line of the stream breaks
pub end_unbroken : (stream : List ℕ) (feed : Fed) (m : ℕ) (a b : List Line) → Holds stream feed → AreRead feed.rows (row_of feed.at feed.begun) m a b → text_break stream ≡ None
end_unbroken stream feed m a b holds read = more_break (completed stream) stream (row_of feed.at feed.begun) feed.rows (rows_ended stream feed holds) holds.rows holds.unbroken ∙ read.unbroken

-- the line that the end completes breaks
pub end_cause : (stream : List ℕ) (feed : Fed) (e : OplError) → Holds stream feed → IsRowsCause feed.rows (row_of feed.at feed.begun) e → IsCause stream e
end_cause stream feed e holds cause = more_cause (completed stream) stream (row_of feed.at feed.begun) feed.rows e (rows_ended stream feed holds) holds.rows holds.unbroken cause

-- a completed line that broke before breaks the whole
pub end_refused : (stream : List ℕ) (e : OplError) → IsCause (completed stream) e → IsCause stream e
end_refused stream e cause = still_broken (completed stream) stream (row_of (length (completed stream)) (begun stream)) e (rows_end stream) cause

-- a completed line that broke breaks every text that goes on so
pub whole_cause : (stream later : List ℕ) (e : OplError) → IsCause (completed stream) e → IsCause (stream ++ later) e
whole_cause stream later e cause = end_refused (stream ++ later) e (still_refused stream later e cause)

-- lines that are read are good
pub read_good : (n m : ℕ) (rows : List (ℕ × List ℕ)) (a b : List Line) → AreRead n rows m a b → AllByRecursion IsGoodLine a → AllByRecursion IsGoodLine b
read_good n m rows a b read good = subst (AllByRecursion IsGoodLine) (sym read.behind) (joined a read.more good (lines_good rows read.more read.spelled))
  where
    joined : (xs ys : List Line) → AllByRecursion IsGoodLine xs → AllByRecursion IsGoodLine ys → AllByRecursion IsGoodLine (xs ++ ys)
    joined [] ys p q = q
    joined (x ∷ xs) ys p q = (p.0, joined xs ys p.1 q)
