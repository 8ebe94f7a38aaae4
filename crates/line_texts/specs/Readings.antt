-- What a reader of a text of lines owes beside the items.
use Rattle.std.specs.Prelude.{◌≡◌, ◌≤◌, ◌+◌, ℕ, List, length, Some, None}
use Rattle.line_texts.specs.declared.errors.LineError.{LineError}
use Rattle.line_texts.specs.declared.errors.LineError.TheVariants.{NoMemory, Broken}
use Rattle.line_texts.specs.Forms.{Form, IsText, break_after, text_break}

module _ {A K : Type 0} (form : Form A K) where
  -- a text is called broken at its first break alone
  abbrev pub IsCause : List ℕ → LineError K → Type 0
  IsCause bytes NoMemory = Unit {0}
  IsCause bytes (Broken b) = text_break form bytes ≡ Some (b.at, b.kind)

  -- a text spells one list of items or none, and it spells one exactly where it has no break
  pub record IsExact (bytes : List ℕ) : Type 0 where
    pub one : (a b : List A) → IsText form bytes a → IsText form bytes b → a ≡ b
    pub unbroken : (items : List A) → IsText form bytes items → text_break form bytes ≡ None
    pub spelled : text_break form bytes ≡ None → (items : List A) × IsText form bytes items

  -- the line spells this item, of which this is known
  pub record IsRead (is_good : A → Type 0) (row : List ℕ) (item : A) : Type 0 where
    pub spelled : form.spells row ≡ Some item
    pub good : is_good item

  -- the break of a line, counted from its first byte
  abbrev pub IsLineCause : List ℕ → LineError K → Type 0
  IsLineCause row NoMemory = Unit {0}
  IsLineCause row (Broken b) = (form.breaks row ≡ Some (b.at, b.kind)) × (b.at ≤ length row)

  -- the break of a line that begins at a place of a text, with so many lines before it
  abbrev pub IsCauseAt : ℕ → ℕ → List ℕ → LineError K → Type 0
  IsCauseAt n start row NoMemory = Unit {0}
  IsCauseAt n start row (Broken b) = (k : ℕ) × (break_after form n row ≡ Some (k, b.kind)) × (b.at ≡ start + k)
