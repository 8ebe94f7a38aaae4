-- Texts of lines, whatever a line spells: which lines count, what they spell together, and where a text breaks first.
use Rattle.std.specs.Prelude.{◌≡◌, ℕ, ◌+◌, ◌≤◌, List, [], ◌∷◌, length, nat_le, Option, Some, None, is_some, is_none, if◌then◌else◌}
use Rattle.std.specs.Option.{option_map, option_or}
use Rattle.live_model.specs.FieldValues.{prepended}
use Rattle.live_model.specs.OplTexts.{object_lines}

-- what a line spells; how it breaks, and where, counted from its first byte; how many lines a text may have, and how a text with
-- one more breaks
pub record Form (A K : Type 0) : Type 0 where
  pub spells : List ℕ → Option A
  pub breaks : List ℕ → Option (ℕ × K)
  pub most : ℕ
  pub over : K

-- a line spells an item exactly where it does not break
abbrev pub IsForm : {A K : Type 0} → Form A K → Type 0
IsForm form = (row : List ℕ) → is_none (form.breaks row) ≡ is_some (form.spells row)

module _ {A K : Type 0} (form : Form A K) where
  -- what lines spell, where each spells an item
  abbrev pub spelled_by : List (ℕ × List ℕ) → Option (List A)
  spelled_by [] = Some []
  spelled_by (r ∷ rs) = prepended (form.spells r.1) (spelled_by rs)

  -- the lines of the text that are neither blank nor a comment spell these items, not more than a text may have
  pub record IsText (bytes : List ℕ) (items : List A) : Type 0 where
    pub spelled : spelled_by (object_lines bytes) ≡ Some items
    pub within : length items ≤ form.most

  -- the break of a line with so many lines before it
  abbrev pub break_after : ℕ → List ℕ → Option (ℕ × K)
  break_after n row = if nat_le form.most n then Some (0, form.over) else form.breaks row

  -- a break of a line, counted from the first byte of the text
  abbrev pub break_at : ℕ → ℕ × K → ℕ × K
  break_at start b = (start + b.0, b.1)

  -- the break of the first of some lines that has one, with so many lines before them all
  abbrev pub break_from : ℕ → List (ℕ × List ℕ) → Option (ℕ × K)
  break_from n [] = None
  break_from n (r ∷ rs) = option_or (option_map (break_at r.0) (break_after n r.1)) (break_from (n + 1) rs)

  -- where a text breaks first, and how; none where it does not
  abbrev pub text_break : List ℕ → Option (ℕ × K)
  text_break bytes = break_from 0 (object_lines bytes)
