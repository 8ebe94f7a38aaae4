-- A reader goes over the bytes of a piece line by line.
use Rattle.std.proofs.Common.{◌≡◌, ℕ, ◌+◌, List, [], ◌∷◌, ◌++◌, false, length, length-append, refl, sym, ap, ◌∙◌, append_assoc, append-nil, arith, subst}
use Rattle.text_pieces.specs.Lines.{lines_from}
use Rattle.text_pieces.proofs.LineSteps.{lines_none}
use Rattle.live_model.specs.declared.objects.Line.{Line}
use Rattle.live_model.specs.OplTexts.{object_lines_in}
use Rattle.opl_reader.specs.declared.OplError.{OplError}
use Rattle.opl_feed.specs.Streams.{has_line_feed, completed, begun, completed_rows}
use Rattle.opl_feed.specs.Rows.{row_of, AreRead, IsRowsCause}
use Rattle.opl_feed.proofs.Cuts.{no_feed_joined, completed_none, begun_all, completed_line, begun_line, rows_line}
use Rattle.opl_feed.proofs.Reading.{read_none, read_on, broken_on, broken_first}

-- of the object lines that bytes complete some are read, and those are left that the bytes left complete
pub record Goes (at n : ℕ) (bytes : List ℕ) (before : List Line) (here m : ℕ) (left : List ℕ) (after : List Line) : Type 0 where
  pub done : List (ℕ × List ℕ)
  pub rows : completed_rows at bytes ≡ done ++ completed_rows here left
  pub read : AreRead n done m before after
  pub place : here + length (completed left) ≡ at + length (completed bytes)
  pub begun : begun left ≡ begun bytes

-- nothing is read yet
pub goes_first : (at n : ℕ) (bytes : List ℕ) (lines : List Line) → Goes at n bytes lines at n bytes lines
goes_first at n bytes lines = record { done = []; rows = refl; read = read_none n lines; place = refl; begun = refl }

-- the bytes left, cut at their first line feed
cut_left : (held line rest left : List ℕ) → left ≡ line ++ 10 ∷ rest → held ++ left ≡ (held ++ line) ++ 10 ∷ rest
cut_left held line rest left is = ap (λ bs. held ++ bs) is ∙ sym (append_assoc held line (10 ∷ rest))

-- one line more is read, and the next one begins
pub goes_on : (at n : ℕ) (bytes : List ℕ) (before : List Line) (here m : ℕ) (held left : List ℕ) (lines : List Line) (line rest : List ℕ) (next k : ℕ) (begins : List ℕ) (after : List Line)
    → left ≡ line ++ 10 ∷ rest → has_line_feed held ≡ false → has_line_feed line ≡ false → AreRead m (row_of here (held ++ line)) k lines after → next ≡ here + (length (held ++ line) + 1) → begins ≡ []
    → Goes at n bytes before here m (held ++ left) lines → Goes at n bytes before next k (begins ++ rest) after
goes_on at n bytes before here m held left lines line rest next k begins after is clear plain read far none goes =
    let cut : held ++ left ≡ (held ++ line) ++ 10 ∷ rest = cut_left held line rest left is in
    let rows : completed_rows here (held ++ left) ≡ row_of here (held ++ line) ++ completed_rows (here + (length (held ++ line) + 1)) rest =
    ap (completed_rows here) cut ∙ rows_line here (held ++ line) rest (no_feed_joined held line clear plain) in
    let bytes_of : completed (held ++ left) ≡ (held ++ line) ++ 10 ∷ completed rest = ap completed cut ∙ completed_line (held ++ line) rest in
    let long = ap length bytes_of ∙ length-append (held ++ line) (10 ∷ completed rest) in
    let place = goes.place in
    let same : begins ++ rest ≡ rest = ap (λ bs. bs ++ rest) none in
    let shorter : length (completed (begins ++ rest)) ≡ length (completed rest) = ap (λ bs. length (completed bs)) same in
    record {
      done = goes.done ++ row_of here (held ++ line);
      rows =
          goes.rows ∙ ap (λ rs. goes.done ++ rs) rows ∙ sym (append_assoc goes.done (row_of here (held ++ line)) (completed_rows (here + (length (held ++ line) + 1)) rest))
          ∙ ap (λ p. (goes.done ++ row_of here (held ++ line)) ++ completed_rows p rest) (sym far)
          ∙ ap (λ bs. (goes.done ++ row_of here (held ++ line)) ++ completed_rows next bs) (sym same);
      read = read_on n m k goes.done (row_of here (held ++ line)) before lines after goes.read read;
      place = omega arith;
      begun = ap begun same ∙ sym (begun_line (held ++ line) rest) ∙ sym (ap begun cut) ∙ goes.begun;
    }

-- a line breaks behind those that are read
pub goes_broken : (at n : ℕ) (bytes : List ℕ) (before : List Line) (here m : ℕ) (held left : List ℕ) (lines : List Line) (line rest : List ℕ) (e : OplError)
    → left ≡ line ++ 10 ∷ rest → has_line_feed held ≡ false → has_line_feed line ≡ false → IsRowsCause m (row_of here (held ++ line)) e
    → Goes at n bytes before here m (held ++ left) lines → IsRowsCause n (completed_rows at bytes) e
goes_broken at n bytes before here m held left lines line rest e is clear plain cause goes =
    let rows : completed_rows here (held ++ left) ≡ row_of here (held ++ line) ++ completed_rows (here + (length (held ++ line) + 1)) rest =
    ap (completed_rows here) (cut_left held line rest left is) ∙ rows_line here (held ++ line) rest (no_feed_joined held line clear plain) in
    subst (λ rs. IsRowsCause n rs e) (sym (goes.rows ∙ ap (λ rs. goes.done ++ rs) rows))
    (broken_on n m goes.done (row_of here (held ++ line) ++ completed_rows (here + (length (held ++ line) + 1)) rest) before lines e goes.read
    (broken_first m (row_of here (held ++ line)) (completed_rows (here + (length (held ++ line) + 1)) rest) e cause))

-- no line feed is left: all lines are read
pub goes_read : (at n : ℕ) (bytes : List ℕ) (before : List Line) (here m : ℕ) (left : List ℕ) (lines : List Line) → has_line_feed left ≡ false → Goes at n bytes before here m left lines
    → AreRead n (completed_rows at bytes) m before lines
goes_read at n bytes before here m left lines none goes =
    let rows : completed_rows here left ≡ [] = ap (λ bs. object_lines_in (lines_from here bs)) (completed_none left none) ∙ ap object_lines_in (lines_none here [] refl) in
    subst (λ rs. AreRead n rs m before lines) (sym (goes.rows ∙ ap (λ rs. goes.done ++ rs) rows ∙ append-nil goes.done)) goes.read

-- the next line begins behind all that is completed
pub goes_at : (at n : ℕ) (bytes : List ℕ) (before : List Line) (here m : ℕ) (left : List ℕ) (lines : List Line) → has_line_feed left ≡ false → Goes at n bytes before here m left lines
    → here ≡ at + length (completed bytes)
goes_at at n bytes before here m left lines none goes =
    let nothing : length (completed left) ≡ 0 = ap length (completed_none left none) in
    let place = goes.place in
    omega arith

-- and what is left of the bytes is begun
pub goes_begun : (at n : ℕ) (bytes : List ℕ) (before : List Line) (here m : ℕ) (left : List ℕ) (lines : List Line) → has_line_feed left ≡ false → Goes at n bytes before here m left lines
    → left ≡ begun bytes
goes_begun at n bytes before here m left lines none goes = sym (begun_all left none) ∙ goes.begun
