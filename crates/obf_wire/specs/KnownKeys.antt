-- A field of a known key.
use Rattle.std.specs.Prelude.{◌≡◌, ◌<◌, ◌≤◌, ℕ, List, Bool, true, Some, Ok}
use Rattle.obf_wire.specs.declared.field.Field.{Field}
use Rattle.obf_wire.specs.Fields.{Window, field_at, is_among}

-- wherever a field of this key may come, this one is read
abbrev pub IsExpected : Window → ℕ → Field → Type 0
IsExpected w key f = (allowed : List ℕ) (may_end : Bool) → is_among allowed key ≡ true → field_at w allowed may_end ≡ Ok (Some f)

-- the field takes a byte at least, and ends before the end
pub record IsInside (w : Window) (f : Field) : Type 0 where
  pub starts : w.place < f.from
  pub ordered : f.from ≤ f.to
  pub ends : f.to ≤ w.end

-- the field of this key stands at the beginning of the window
pub record StandsFirst (w : Window) (key : ℕ) (f : Field) : Type 0 where
  pub read : IsExpected w key f
  pub inside : IsInside w f
  pub key_is : f.key ≡ key
  pub at_is : f.at ≡ w.place
