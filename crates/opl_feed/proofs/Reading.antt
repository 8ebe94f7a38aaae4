-- Object lines are read one after another, and the first break of them is that of the first part that has one.
use Rattle.std.proofs.Common.{◌≡◌, ℕ, ◌+◌, ◌<◌, ◌≤◌, List, [], ◌∷◌, ◌++◌, Bool, true, false, cond, not, length, take, Option, Some, None, length-append, refl, sym, ap, ◌∙◌, append_assoc, append-nil, arith, subst}
use Rattle.std.specs.Option.{option_map, option_or}
use Rattle.std.specs.Str.Lines.{strip_carriage_return}
use Rattle.std.proofs.lemmas.Bool.{le-leb, lt-leb}
use Rattle.live_model.specs.declared.objects.Line.{Line}
use Rattle.live_model.specs.declared.opl.OplBreak.{OplBreak}
use Rattle.live_model.specs.declared.opl.OplKind.{OplKind}
use Rattle.live_model.specs.declared.opl.OplKind.TheVariants.{OverLimit}
use Rattle.live_model.specs.FieldValues.{prepended}
use Rattle.live_model.specs.ObjectLines.{line_of}
use Rattle.live_model.specs.LineTests.{break_of}
use Rattle.live_model.specs.OplTexts.{OplText, is_skipped, object_lines, spelled_lines, row_break, break_at, break_from, text_break}
use Rattle.opl_reader.specs.declared.OplError.{OplError}
use Rattle.opl_reader.specs.declared.OplError.TheVariants.{NoMemory, Broken}
use Rattle.opl_feed.specs.Streams.{has_line_feed}
use Rattle.opl_feed.specs.Rows.{row_of, AreRead, IsRowsCause}
use Rattle.opl_reader.proofs.TextSteps.{unbroken_row}
use Rattle.opl_feed.proofs.Cuts.{row_alone}
use Rattle.opl_feed.proofs.Places.{break_within, stripped_within}

-- the first break of object lines, and of those behind them
pub break_on : (n : ℕ) (xs ys : List (ℕ × List ℕ)) → break_from n (xs ++ ys) ≡ option_or (break_from n xs) (break_from (n + length xs) ys)
break_on n [] ys = let none : n + 0 ≡ n = omega arith in rw none refl
break_on n (x ∷ xs) ys =
    let far : n + 1 + length xs ≡ n + length (x ∷ xs) = omega arith in
    one (option_map (break_at x.0) (row_break n x.1)) (break_on (n + 1) xs ys ∙ ap (λ m. option_or (break_from (n + 1) xs) (break_from m ys)) far)
  where
    one : (b : Option OplBreak) → break_from (n + 1) (xs ++ ys) ≡ option_or (break_from (n + 1) xs) (break_from (n + length (x ∷ xs)) ys)
        → option_or b (break_from (n + 1) (xs ++ ys)) ≡ option_or (option_or b (break_from (n + 1) xs)) (break_from (n + length (x ∷ xs)) ys)
    one None again = again
    one (Some b) again = refl

-- what object lines spell, and those behind them
pub spelled_on : (xs ys : List (ℕ × List ℕ)) (a b : List Line) → spelled_lines xs ≡ Some a → spelled_lines ys ≡ Some b → spelled_lines (xs ++ ys) ≡ Some (a ++ b)
spelled_on [] ys a b p q = let none : [] ≡ a = cc in subst (λ (zs : List Line). spelled_lines ys ≡ Some (zs ++ b)) none q
spelled_on (x ∷ xs) ys a b p q = one (line_of x.1) (spelled_lines xs) refl p (λ zs e. spelled_on xs ys zs b e q)
  where
    one : (l : Option Line) (ls : Option (List Line)) → spelled_lines xs ≡ ls → prepended l ls ≡ Some a → ((zs : List Line) → spelled_lines xs ≡ Some zs → spelled_lines (xs ++ ys) ≡ Some (zs ++ b))
        → prepended l (spelled_lines (xs ++ ys)) ≡ Some (a ++ b)
    one None ls e p again = absurd (cc)
    one (Some l) None e p again = absurd (cc)
    one (Some l) (Some ls) e p again =
        let is : l ∷ ls ≡ a = cc in
        ap (prepended (Some l)) (again ls e) ∙ ap (λ zs. Some (zs ++ b)) is

-- nothing is read
pub read_none : (n : ℕ) (lines : List Line) → AreRead n [] n lines lines
read_none n lines = record { more = []; behind = sym (append-nil lines); spelled = refl; unbroken = refl; count = omega arith }

-- and more behind what is read
pub read_on : (n m k : ℕ) (xs ys : List (ℕ × List ℕ)) (a b c : List Line) → AreRead n xs m a b → AreRead m ys k b c → AreRead n (xs ++ ys) k a c
read_on n m k xs ys a b c p q =
    let first = p.count in
    let last = q.count in
    let long = length-append xs ys in
    record {
      more = p.more ++ q.more;
      behind = q.behind ∙ ap (λ zs. zs ++ q.more) p.behind ∙ append_assoc a p.more q.more;
      spelled = spelled_on xs ys p.more q.more p.spelled q.spelled;
      unbroken = break_on n xs ys ∙ ap (λ o. option_or o (break_from (n + length xs) ys)) p.unbroken ∙ ap (λ h. break_from h ys) (sym first) ∙ q.unbroken;
      count = omega arith;
    }

-- a break behind what is read
pub broken_on : (n m : ℕ) (xs ys : List (ℕ × List ℕ)) (a b : List Line) (e : OplError) → AreRead n xs m a b → IsRowsCause m ys e → IsRowsCause n (xs ++ ys) e
broken_on n m xs ys a b NoMemory p cause = tt
broken_on n m xs ys a b (Broken e) p cause =
    break_on n xs ys ∙ ap (λ o. option_or o (break_from (n + length xs) ys)) p.unbroken ∙ ap (λ h. break_from h ys) (sym p.count) ∙ cause

-- a break before what comes behind it
pub broken_first : (n : ℕ) (xs ys : List (ℕ × List ℕ)) (e : OplError) → IsRowsCause n xs e → IsRowsCause n (xs ++ ys) e
broken_first n xs ys NoMemory cause = tt
broken_first n xs ys (Broken e) cause = break_on n xs ys ∙ ap (λ o. option_or o (break_from (n + length xs) ys)) cause

-- what stands first stays so
pub front_on : (a b c : List Line) → take (length a) b ≡ a → take (length b) c ≡ b → take (length a) c ≡ a
front_on [] b c p q = refl
front_on (x ∷ xs) [] c p q = absurd (let long = ap length p in omega arith)
front_on (x ∷ xs) (y ∷ ys) [] p q = absurd (let long = ap length q in omega arith)
front_on (x ∷ xs) (y ∷ ys) (z ∷ zs) p q =
    let first : y ≡ x = cc in
    let second : z ≡ y = cc in
    let rest : take (length xs) ys ≡ xs = cc in
    let last : take (length ys) zs ≡ ys = cc in
    let again : take (length xs) zs ≡ xs = front_on xs ys zs rest last in
    ap (λ t. z ∷ t) again ∙ ap (λ h. h ∷ xs) (second ∙ first)

-- One line.

-- what holds of no object line, and of the one of a line at each offset
row_cases : (P : List (ℕ × List ℕ) → List (ℕ × List ℕ) → Type 0) (at : ℕ) (line : List ℕ) → P [] [] → P ((0, strip_carriage_return line) ∷ []) ((at, strip_carriage_return line) ∷ [])
    → P (row_of 0 line) (row_of at line)
row_cases P at line none some = one (not (is_skipped (strip_carriage_return line)))
  where
    one : (b : Bool) → P (cond b ((0, strip_carriage_return line) ∷ []) []) (cond b ((at, strip_carriage_return line) ∷ []) [])
    one true = some
    one false = none

-- the object lines of a line without a line feed
text_row : (line : List ℕ) → has_line_feed line ≡ false → object_lines line ≡ row_of 0 line
text_row line h = row_alone 0 line h

-- a line that spells nothing is skipped
pub skipped_read : (at n : ℕ) (line : List ℕ) (read before : List Line) → has_line_feed line ≡ false → OplText line read → length read ≡ 0 → AreRead n (row_of at line) n before before
skipped_read at n line read before h text none =
    row_cases (λ xs ys. spelled_lines xs ≡ Some read → AreRead n ys n before before) at line (λ e. read_none n before) (λ e. one (line_of (strip_carriage_return line)) read e none)
    (ap spelled_lines (sym (text_row line h)) ∙ text.spelled)
  where
    one : (l : Option Line) (read : List Line) → prepended l (Some []) ≡ Some read → length read ≡ 0 → AreRead n ((at, strip_carriage_return line) ∷ []) n before before
    one None read e none = absurd (cc)
    one (Some l) [] e none = absurd (cc)
    one (Some l) (x ∷ xs) e none = absurd (omega arith)

-- the last of the lines that one spells is the only one
alone : (x line : Line) (rest : List Line) → x ∷ [] ≡ rest ++ line ∷ [] → x ≡ line
alone x line [] e = cc
alone x line (y ∷ ys) e =
    let long = ap length e in
    let more = length-append ys (line ∷ []) in
    absurd (omega arith)

-- an object line that is spelled is put behind the lines
pub line_read : (at n : ℕ) (text : List ℕ) (line : Line) (read rest before : List Line) → n < 4000000 → has_line_feed text ≡ false → OplText text read → read ≡ rest ++ line ∷ []
    → AreRead n (row_of at text) (n + 1) before (before ++ line ∷ [])
line_read at n text line read rest before few h spelled is =
    row_cases (λ xs ys. spelled_lines xs ≡ Some (rest ++ line ∷ []) → AreRead n ys (n + 1) before (before ++ line ∷ [])) at text
    (λ e. let none : [] ≡ rest ++ line ∷ [] = cc in let long = ap length none in let more = length-append rest (line ∷ []) in absurd (omega arith))
    (λ e. one (line_of (strip_carriage_return text)) refl e)
    (ap spelled_lines (sym (text_row text h)) ∙ spelled.spelled ∙ ap Some is)
  where
    one : (l : Option Line) → line_of (strip_carriage_return text) ≡ l → prepended l (Some []) ≡ Some (rest ++ line ∷ []) → AreRead n ((at, strip_carriage_return text) ∷ []) (n + 1) before (before ++ line ∷ [])
    one None e p = absurd (cc)
    one (Some x) e p =
        let only : x ∷ [] ≡ rest ++ line ∷ [] = cc in
        let same : x ≡ line = alone x line rest only in
        record {
          more = line ∷ [];
          behind = refl;
          spelled = ap (λ l. prepended l (Some [])) e ∙ ap (λ y. Some (y ∷ [])) same;
          unbroken = unbroken_row n x (at, strip_carriage_return text) [] few e;
          count = refl;
        }

-- the 4,000,001st object line
over : (at n : ℕ) (line : List ℕ) → n ≡ 4000000 → IsRowsCause n ((at, line) ∷ []) (Broken (record { at = at; kind = OverLimit }))
over at n line many =
    let first : at + 0 ≡ at = omega arith in
    ap (λ b. option_or (option_map (break_at at) (cond b (Some (0, OverLimit)) (break_of line))) None) (le-leb 4000000 n (omega arith)) ∙ ap (λ k. Some (record { at = k; kind = OverLimit })) first

-- a line that is spelled is over the limit
pub read_over : (at n : ℕ) (text : List ℕ) (read : List Line) → n ≡ 4000000 → has_line_feed text ≡ false → OplText text read → 0 < length read
    → IsRowsCause n (row_of at text) (Broken (record { at = at; kind = OverLimit }))
read_over at n text read many h spelled some =
    row_cases (λ xs ys. spelled_lines xs ≡ Some read → IsRowsCause n ys (Broken (record { at = at; kind = OverLimit }))) at text
    (λ e. let none : [] ≡ read = cc in let long = ap length none in absurd (omega arith)) (λ e. over at n (strip_carriage_return text) many)
    (ap spelled_lines (sym (text_row text h)) ∙ spelled.spelled)

-- an object line has its own row
kept_row : (at : ℕ) (text : List ℕ) → is_skipped (strip_carriage_return text) ≡ false → row_of at text ≡ (at, strip_carriage_return text) ∷ []
kept_row at text kept = ap (λ b. cond (not b) ((at, strip_carriage_return text) ∷ []) []) kept

-- the object of a line is put behind the lines
pub object_read : (at n : ℕ) (text : List ℕ) (line : Line) (before : List Line) → n < 4000000 → is_skipped (strip_carriage_return text) ≡ false → line_of (strip_carriage_return text) ≡ Some line
    → AreRead n (row_of at text) (n + 1) before (before ++ line ∷ [])
object_read at n text line before few kept spells =
    subst (λ rows. AreRead n rows (n + 1) before (before ++ line ∷ [])) (sym (kept_row at text kept)) (record {
      more = line ∷ [];
      behind = refl;
      spelled = ap (λ l. prepended l (Some [])) spells;
      unbroken = unbroken_row n line (at, strip_carriage_return text) [] few spells;
      count = refl;
    })

-- or is over the limit
pub object_over : (at n : ℕ) (text : List ℕ) → n ≡ 4000000 → is_skipped (strip_carriage_return text) ≡ false → IsRowsCause n (row_of at text) (Broken (record { at = at; kind = OverLimit }))
object_over at n text many kept =
    subst (λ rows. IsRowsCause n rows (Broken (record { at = at; kind = OverLimit }))) (sym (kept_row at text kept)) (over at n (strip_carriage_return text) many)

-- a line that breaks is over the limit
pub broken_over : (at n : ℕ) (text : List ℕ) (b : OplBreak) → n ≡ 4000000 → has_line_feed text ≡ false → text_break text ≡ Some b
    → IsRowsCause n (row_of at text) (Broken (record { at = at; kind = OverLimit }))
unfolding text_break
broken_over at n text b many h broken =
    row_cases (λ xs ys. break_from 0 xs ≡ Some b → IsRowsCause n ys (Broken (record { at = at; kind = OverLimit }))) at text (λ e. absurd (cc)) (λ e. over at n (strip_carriage_return text) many)
    (ap (break_from 0) (sym (text_row text h)) ∙ broken)

-- a line that breaks, counted from the start of the stream
pub broken_line : (at n : ℕ) (text : List ℕ) (b : OplBreak) → n < 4000000 → has_line_feed text ≡ false → text_break text ≡ Some b
    → IsRowsCause n (row_of at text) (Broken (record { at = at + b.at; kind = b.kind }))
unfolding text_break
broken_line at n text b few h broken =
    row_cases (λ xs ys. break_from 0 xs ≡ Some b → IsRowsCause n ys (Broken (record { at = at + b.at; kind = b.kind }))) at text (λ e. absurd (cc)) (λ e. one (break_of (strip_carriage_return text)) refl e)
    (ap (break_from 0) (sym (text_row text h)) ∙ broken)
  where
    one : (o : Option (ℕ × OplKind)) → break_of (strip_carriage_return text) ≡ o → option_or (option_map (break_at 0) o) None ≡ Some b
        → IsRowsCause n ((at, strip_carriage_return text) ∷ []) (Broken (record { at = at + b.at; kind = b.kind }))
    one None e p = absurd (cc)
    one (Some k) e p =
        let same : break_at 0 k ≡ b = cc in
        let none : 0 + k.0 ≡ k.0 = omega arith in
        ap (λ o. option_or (option_map (break_at at) (cond o (Some (0, OverLimit)) (break_of (strip_carriage_return text)))) None) (lt-leb 4000000 n few)
        ∙ ap (λ o. option_or (option_map (break_at at) o) None) e
        ∙ ap (λ i. Some (record { at = at + i; kind = k.1 })) (sym none)
        ∙ ap (λ c. Some (record { at = at + c.at; kind = c.kind })) same

-- where a line breaks it has that many bytes at least
pub broken_within : (text : List ℕ) (b : OplBreak) → has_line_feed text ≡ false → text_break text ≡ Some b → b.at ≤ length text
unfolding text_break
broken_within text b h broken =
    row_cases (λ xs ys. break_from 0 xs ≡ Some b → b.at ≤ length text) 0 text (λ e. absurd (cc)) (λ e. one (break_of (strip_carriage_return text)) refl e)
    (ap (break_from 0) (sym (text_row text h)) ∙ broken)
  where
    one : (o : Option (ℕ × OplKind)) → break_of (strip_carriage_return text) ≡ o → option_or (option_map (break_at 0) o) None ≡ Some b → b.at ≤ length text
    one None e p = absurd (cc)
    one (Some k) e p =
        let same : break_at 0 k ≡ b = cc in
        let at : 0 + k.0 ≡ b.at = ap (λ c. c.at) same in
        let within = break_within (strip_carriage_return text) k.0 k.1 e in
        let short = stripped_within text in
        omega arith
