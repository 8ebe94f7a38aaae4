-- A stream is cut at its last line feed, and goes on behind it.
use Rattle.std.proofs.Common.{◌≡◌, ℕ, ◌+◌, ◌<◌, ◌≤◌, List, [], ◌∷◌, ◌++◌, Bool, true, false, cond, not, ◌||◌, eqb, length, take, drop, length-append, refl, sym, ap, ◌∙◌, append_assoc, arith, suc, zero, one-add, subst}
use Rattle.std.proofs.lemmas.Bool.{eqb-true}
use Rattle.std.specs.List.{onto_first, position_or_len}
use Rattle.std.specs.Str.Lines.{strip_carriage_return}
use Rattle.text_pieces.specs.Lines.{cut_at_line_feeds, placed, without_returns, lines_from}
use Rattle.text_pieces.proofs.FindSteps.{place_found, place_none}
use Rattle.live_model.specs.OplTexts.{is_skipped, object_lines_in}
use Rattle.memchr.specs.Find.{IsFirstByte, is_byte}
use Rattle.std.specs.Prelude.{Some, None}
use Rattle.opl_feed.specs.Streams.{has_line_feed, completed, begun, completed_rows}
use Rattle.opl_feed.specs.Rows.{row_of}

-- a line feed among bytes is one among more of them
feed_stays : (xs ys : List ℕ) → has_line_feed xs ≡ true → has_line_feed (xs ++ ys) ≡ true
feed_stays [] ys h = absurd (cc)
feed_stays (x ∷ xs) ys h = elim (eqb x 10) as (λ b. (b || has_line_feed xs) ≡ true → (b || has_line_feed (xs ++ ys)) ≡ true) [ true ↦ λ e. refl | false ↦ λ e. feed_stays xs ys e ] h

-- bytes with a line feed among them have one
pub feed_within : (xs ys : List ℕ) → has_line_feed (xs ++ 10 ∷ ys) ≡ true
feed_within [] ys = refl
feed_within (x ∷ xs) ys = elim (eqb x 10) as (λ b. (b || has_line_feed (xs ++ 10 ∷ ys)) ≡ true) [ true ↦ refl | false ↦ feed_within xs ys ]

-- two parts without line feeds have none
pub no_feed_joined : (xs ys : List ℕ) → has_line_feed xs ≡ false → has_line_feed ys ≡ false → has_line_feed (xs ++ ys) ≡ false
no_feed_joined [] ys h k = k
no_feed_joined (x ∷ xs) ys h k = elim (eqb x 10) as (λ b. (b || has_line_feed xs) ≡ false → (b || has_line_feed (xs ++ ys)) ≡ false) [ true ↦ λ e. absurd (cc) | false ↦ λ e. no_feed_joined xs ys e k ] h

-- without a line feed nothing is completed
pub completed_none : (xs : List ℕ) → has_line_feed xs ≡ false → completed xs ≡ []
completed_none [] h = refl
completed_none (x ∷ xs) h = ap (λ b. cond b (x ∷ completed xs) []) h

-- and all of it is begun
pub begun_all : (xs : List ℕ) → has_line_feed xs ≡ false → begun xs ≡ xs
begun_all [] h = refl
begun_all (x ∷ xs) h = ap (λ b. cond b (begun xs) (x ∷ xs)) h

-- what is begun has no line feed
pub begun_has_none : (xs : List ℕ) → has_line_feed (begun xs) ≡ false
begun_has_none [] = refl
begun_has_none (x ∷ xs) = one (has_line_feed (x ∷ xs)) refl (begun_has_none xs)
  where
    one : (b : Bool) → has_line_feed (x ∷ xs) ≡ b → has_line_feed (begun xs) ≡ false → has_line_feed (cond b (begun xs) (x ∷ xs)) ≡ false
    one true e again = again
    one false e again = e

-- a line is completed by its line feed
pub completed_line : (xs ys : List ℕ) → completed (xs ++ 10 ∷ ys) ≡ xs ++ 10 ∷ completed ys
completed_line [] ys = refl
completed_line (x ∷ xs) ys = ap (λ b. cond b (x ∷ completed (xs ++ 10 ∷ ys)) []) (feed_within (x ∷ xs) ys) ∙ ap (λ zs. x ∷ zs) (completed_line xs ys)

-- and begins what stands behind the line feed
pub begun_line : (xs ys : List ℕ) → begun (xs ++ 10 ∷ ys) ≡ begun ys
begun_line [] ys = refl
begun_line (x ∷ xs) ys = ap (λ b. cond b (begun (xs ++ 10 ∷ ys)) (x ∷ xs ++ 10 ∷ ys)) (feed_within (x ∷ xs) ys) ∙ begun_line xs ys

-- what more bytes complete, they complete with the line that was begun
pub completed_on : (xs ys : List ℕ) → completed (xs ++ ys) ≡ completed xs ++ completed (begun xs ++ ys)
completed_on [] ys = refl
completed_on (x ∷ xs) ys = one (has_line_feed (x ∷ xs)) refl (completed_on xs ys)
  where
    one : (b : Bool) → has_line_feed (x ∷ xs) ≡ b → completed (xs ++ ys) ≡ completed xs ++ completed (begun xs ++ ys)
        → completed (x ∷ xs ++ ys) ≡ cond b (x ∷ completed xs) [] ++ completed (cond b (begun xs) (x ∷ xs) ++ ys)
    one true e again = ap (λ t. cond t (x ∷ completed (xs ++ ys)) []) (feed_stays (x ∷ xs) ys e) ∙ ap (λ zs. x ∷ zs) again
    one false e again = refl

-- what more bytes begin, behind the line that was begun
pub begun_on : (xs ys : List ℕ) → begun (xs ++ ys) ≡ begun (begun xs ++ ys)
begun_on [] ys = refl
begun_on (x ∷ xs) ys = one (has_line_feed (x ∷ xs)) refl (begun_on xs ys)
  where
    one : (b : Bool) → has_line_feed (x ∷ xs) ≡ b → begun (xs ++ ys) ≡ begun (begun xs ++ ys)
        → begun (x ∷ xs ++ ys) ≡ begun (cond b (begun xs) (x ∷ xs) ++ ys)
    one true e again = ap (λ t. cond t (begun (xs ++ ys)) (x ∷ xs ++ ys)) (feed_stays (x ∷ xs) ys e) ∙ again
    one false e again = refl

-- both parts are the stream
pub parts_are_all : (xs : List ℕ) → completed xs ++ begun xs ≡ xs
parts_are_all [] = refl
parts_are_all (x ∷ xs) = one (has_line_feed (x ∷ xs)) (parts_are_all xs)
  where
    one : (b : Bool) → completed xs ++ begun xs ≡ xs → cond b (x ∷ completed xs) [] ++ cond b (begun xs) (x ∷ xs) ≡ x ∷ xs
    one true again = ap (λ zs. x ∷ zs) again
    one false again = refl

-- Lines.

-- a line is cut off at its line feed
cut_line : (xs ys : List ℕ) → has_line_feed xs ≡ false → cut_at_line_feeds (xs ++ 10 ∷ ys) ≡ xs ∷ cut_at_line_feeds ys
cut_line [] ys h = refl
cut_line (x ∷ xs) ys h =
    elim (eqb x 10) as (λ b. (b || has_line_feed xs) ≡ false → cond b ([] ∷ cut_at_line_feeds (xs ++ 10 ∷ ys)) (onto_first x (cut_at_line_feeds (xs ++ 10 ∷ ys))) ≡ (x ∷ xs) ∷ cut_at_line_feeds ys) [
      | true ↦ λ e. absurd (cc)
      | false ↦ λ e. ap (onto_first x) (cut_line xs ys e)
    ] h

-- the line before a line feed, and those behind it
pub lines_line : (at : ℕ) (xs ys : List ℕ) → has_line_feed xs ≡ false → lines_from at (xs ++ 10 ∷ ys) ≡ (at, strip_carriage_return xs) ∷ lines_from (at + (length xs + 1)) ys
unfolding lines_from
lines_line at xs ys h = ap (λ ps. without_returns (placed at ps)) (cut_line xs ys h)

-- bytes without a line feed are one line, if there are any
cut_alone : (x : ℕ) (xs : List ℕ) → has_line_feed (x ∷ xs) ≡ false → cut_at_line_feeds (x ∷ xs) ≡ (x ∷ xs) ∷ []
cut_alone x [] h = ap (λ b. cond b ([] ∷ []) (onto_first x [])) (one (eqb x 10) h)
  where
    one : (b : Bool) → (b || false) ≡ false → b ≡ false
    one true e = absurd (cc)
    one false e = refl
cut_alone x (y ∷ ys) h =
    elim (eqb x 10) as (λ b. (b || has_line_feed (y ∷ ys)) ≡ false → cond b ([] ∷ cut_at_line_feeds (y ∷ ys)) (onto_first x (cut_at_line_feeds (y ∷ ys))) ≡ (x ∷ y ∷ ys) ∷ []) [
      | true ↦ λ e. absurd (cc)
      | false ↦ λ e. ap (onto_first x) (cut_alone y ys e)
    ] h

-- the object line of bytes without a line feed
pub row_alone : (at : ℕ) (xs : List ℕ) → has_line_feed xs ≡ false → object_lines_in (lines_from at xs) ≡ row_of at xs
unfolding lines_from
row_alone at [] h = refl
row_alone at (x ∷ xs) h = ap (λ ps. object_lines_in (without_returns (placed at ps))) (cut_alone x xs h)

-- object lines among lines, one behind the other
pub objects_joined : (xs ys : List (ℕ × List ℕ)) → object_lines_in (xs ++ ys) ≡ object_lines_in xs ++ object_lines_in ys
objects_joined [] ys = refl
objects_joined (x ∷ xs) ys = one (not (is_skipped x.1)) (objects_joined xs ys)
  where
    one : (b : Bool) → object_lines_in (xs ++ ys) ≡ object_lines_in xs ++ object_lines_in ys
        → cond b (x ∷ object_lines_in (xs ++ ys)) (object_lines_in (xs ++ ys)) ≡ cond b (x ∷ object_lines_in xs) (object_lines_in xs) ++ object_lines_in ys
    one true again = ap (λ zs. x ∷ zs) again
    one false again = again

-- the object lines of a line with its line feed, and of what comes behind it
pub rows_line : (at : ℕ) (xs ys : List ℕ) → has_line_feed xs ≡ false → completed_rows at (xs ++ 10 ∷ ys) ≡ row_of at xs ++ completed_rows (at + (length xs + 1)) ys
rows_line at xs ys h =
    ap (λ zs. object_lines_in (lines_from at zs)) (completed_line xs ys) ∙ ap object_lines_in (lines_line at xs (completed ys) h)
    ∙ objects_joined ((at, strip_carriage_return xs) ∷ []) (lines_from (at + (length xs + 1)) (completed ys))

-- bytes with a line feed are a line, a line feed and the rest
pub split_first : (xs : List ℕ) → has_line_feed xs ≡ true → (line : List ℕ) × (rest : List ℕ) × (xs ≡ line ++ 10 ∷ rest) × (has_line_feed line ≡ false) × (length rest < length xs)
split_first [] h = absurd (cc)
split_first (x ∷ xs) h = one (eqb x 10) refl h (split_first xs)
  where
    one : (b : Bool) → eqb x 10 ≡ b → (b || has_line_feed xs) ≡ true
        → (has_line_feed xs ≡ true → (line : List ℕ) × (rest : List ℕ) × (xs ≡ line ++ 10 ∷ rest) × (has_line_feed line ≡ false) × (length rest < length xs))
        → (line : List ℕ) × (rest : List ℕ) × (x ∷ xs ≡ line ++ 10 ∷ rest) × (has_line_feed line ≡ false) × (length rest < length (x ∷ xs))
    one true e some again = ([], xs, ap (λ c. c ∷ xs) (eqb-true x 10 e), refl, omega arith)
    one false e some again =
        let got = again some in
        let short = got.4 in
        (x ∷ got.0, got.1, ap (λ zs. x ∷ zs) got.2, ap (λ b. b || has_line_feed got.0) e ∙ got.3, omega arith)

-- A line ends at the end of completed bytes, so what comes behind them begins a new one.
lines_behind_most : (most at : ℕ) (xs ys : List ℕ) → length xs ≤ most → lines_from at (completed xs ++ ys) ≡ lines_from at (completed xs) ++ lines_from (at + length (completed xs)) ys
unfolding lines_from
lines_behind_most most at [] ys h = let none : at + 0 ≡ at = omega arith in rw none refl
lines_behind_most zero at (x ∷ xs) ys h = absurd (omega arith)
lines_behind_most (suc most) at (x ∷ xs) ys h = one (has_line_feed (x ∷ xs)) refl (lines_behind_most most)
  where
    one : (b : Bool) → has_line_feed (x ∷ xs) ≡ b
        → ((at : ℕ) (zs ys : List ℕ) → length zs ≤ most → lines_from at (completed zs ++ ys) ≡ lines_from at (completed zs) ++ lines_from (at + length (completed zs)) ys)
        → lines_from at (completed (x ∷ xs) ++ ys) ≡ lines_from at (completed (x ∷ xs)) ++ lines_from (at + length (completed (x ∷ xs))) ys
    one false e again = let none : at + 0 ≡ at = omega arith in rw (completed_none (x ∷ xs) e, none) refl
    one true e again =
        let got = split_first (x ∷ xs) e in
        let line = got.0 in
        let rest = got.1 in
        let short = got.4 in
        let is : completed (x ∷ xs) ≡ line ++ 10 ∷ completed rest = ap completed got.2 ∙ completed_line line rest in
        let long = length-append line (10 ∷ completed rest) in
        let far : at + length (line ++ 10 ∷ completed rest) ≡ at + (length line + 1) + length (completed rest) = omega arith in
        ap (λ zs. lines_from at (zs ++ ys)) is
        ∙ ap (lines_from at) (append_assoc line (10 ∷ completed rest) ys)
        ∙ lines_line at line (completed rest ++ ys) got.3
        ∙ ap (λ zs. (at, strip_carriage_return line) ∷ zs) (again (at + (length line + 1)) rest ys (omega arith))
        ∙ ap (λ n. (at, strip_carriage_return line) ∷ lines_from (at + (length line + 1)) (completed rest) ++ lines_from n ys) (sym far)
        ∙ ap (λ zs. zs ++ lines_from (at + length (line ++ 10 ∷ completed rest)) ys) (sym (lines_line at line (completed rest) got.3))
        ∙ ap (λ zs. lines_from at zs ++ lines_from (at + length zs) ys) (sym is)

pub lines_behind : (at : ℕ) (xs ys : List ℕ) → lines_from at (completed xs ++ ys) ≡ lines_from at (completed xs) ++ lines_from (at + length (completed xs)) ys
lines_behind at xs ys = lines_behind_most (length xs) at xs ys (omega arith)

-- A search for the first line feed.

abbrev is_feed : ℕ → Bool
is_feed c = eqb c 10

cut_at : (xs : List ℕ) → position_or_len is_feed xs < length xs
    → (xs ≡ take (position_or_len is_feed xs) xs ++ 10 ∷ drop (position_or_len is_feed xs + 1) xs) × (has_line_feed (take (position_or_len is_feed xs) xs) ≡ false)
cut_at [] h = absurd (omega arith)
cut_at (x ∷ xs) h = one (is_feed x) refl h (cut_at xs)
  where
    one : (b : Bool) → is_feed x ≡ b → cond (not b) (1 + position_or_len is_feed xs) 0 < length (x ∷ xs)
        → (position_or_len is_feed xs < length xs
        → (xs ≡ take (position_or_len is_feed xs) xs ++ 10 ∷ drop (position_or_len is_feed xs + 1) xs) × (has_line_feed (take (position_or_len is_feed xs) xs) ≡ false))
        → (x ∷ xs ≡ take (cond (not b) (1 + position_or_len is_feed xs) 0) (x ∷ xs) ++ 10 ∷ drop (cond (not b) (1 + position_or_len is_feed xs) 0 + 1) (x ∷ xs))
        × (has_line_feed (take (cond (not b) (1 + position_or_len is_feed xs) 0) (x ∷ xs)) ≡ false)
    one true e h again = (ap (λ c. c ∷ xs) (eqb-true x 10 e), refl)
    one false e h again =
        let got = again (omega arith) in
        let past : 1 + position_or_len is_feed xs + 1 ≡ suc (position_or_len is_feed xs + 1) = omega arith in
        rw (past, one-add (position_or_len is_feed xs)) (ap (λ zs. x ∷ zs) got.0, ap (λ b. b || has_line_feed (take (position_or_len is_feed xs) xs)) e ∙ got.1)

none_at : (xs : List ℕ) → position_or_len is_feed xs ≡ length xs → has_line_feed xs ≡ false
none_at [] h = refl
none_at (x ∷ xs) h = one (is_feed x) h (none_at xs)
  where
    one : (b : Bool) → cond (not b) (1 + position_or_len is_feed xs) 0 ≡ length (x ∷ xs) → (position_or_len is_feed xs ≡ length xs → has_line_feed xs ≡ false) → (b || has_line_feed xs) ≡ false
    one true h again = absurd (omega arith)
    one false h again = again (omega arith)

-- what stands before the first line feed, and behind it
pub first_cut : (xs : List ℕ) (i : ℕ) → IsFirstByte (is_byte 10) xs (Some i) → (xs ≡ take i xs ++ 10 ∷ drop (i + 1) xs) × (has_line_feed (take i xs) ≡ false)
first_cut xs i h =
    let is : position_or_len is_feed xs ≡ i = place_found 10 xs i h in
    let high = h.0.high in
    subst (λ n. (xs ≡ take n xs ++ 10 ∷ drop (n + 1) xs) × (has_line_feed (take n xs) ≡ false)) is (cut_at xs (omega arith))

-- no line feed is found
pub none_cut : (xs : List ℕ) → IsFirstByte (is_byte 10) xs None → has_line_feed xs ≡ false
none_cut xs h = none_at xs (place_none 10 xs h)
