-- How the bytes of a message break, cause by cause: fields of good form, each after the other, and then what is wrong.
use Rattle.std.specs.Prelude.{◌≡◌, ◌≢◌, ◌↔◌, ◌⊎◌, ◌<◌, ◌-◌, ◌%◌, ℕ, List, [], Bool, true, false, slice_range, Option, Some, None, Ok, Err}
use Rattle.obf_wire.specs.declared.breaks.WireBreak.{WireBreak}
use Rattle.obf_wire.specs.declared.field.Field.{Field}
use Rattle.obf_wire.specs.declared.file.FileBreak.{FileBreak}
use Rattle.obf_wire.specs.Kinds.{file_break}
use Rattle.obf_wire.specs.Varint.{IsCut, IsOverlong, IsSpelledAt, long_at, short_at}
use Rattle.obf_wire.specs.Fields.{Window, IsNextField, bad_key_at, behind, content_at, is_among, over_end_at, payload_len}
use Rattle.file_grammar.specs.declared.parts.Content.{Content}
use Rattle.file_grammar.specs.declared.parts.Content.TheVariants.{Message}
use Rattle.file_grammar.specs.declared.parts.Part.{Part}
use Rattle.file_grammar.specs.Messages.{Fields}
use Rattle.file_grammar.specs.Readings.{IsInMemory, filled, message_at, payload_of}
use Rattle.file_grammar.specs.Tables.{content_of, may_end, next_keys}

-- ---- where a field is to come

-- no number is spelled there: the bytes end within one, or it is longer than needed or has more than 64 bits
abbrev pub IsNoNumber : List ℕ → ℕ → ℕ → WireBreak → Type 0
IsNoNumber bytes at end b = (IsCut (slice_range bytes at end) × (b ≡ short_at at)) ⊎ (IsOverlong (slice_range bytes at end) × (b ≡ long_at at))

-- fewer than eight bytes are left for a length
abbrev pub IsNoLength : ℕ → ℕ → WireBreak → Type 0
IsNoLength at end b = (end - at < 8) × (b ≡ short_at at)

module _ (w : Window) (allowed : List ℕ) (may_end : Bool) where
  -- nothing is left, and the message may not end
  pub record EndsEarly (b : WireBreak) : Type 0 where
    pub here : w.place ≡ w.end
    pub more : may_end ≡ false
    pub is : b ≡ short_at w.end

  -- something is left where no field may come
  pub record NoneMayCome (b : WireBreak) : Type 0 where
    pub left : w.place ≢ w.end
    pub none : allowed ≡ []
    pub is : b ≡ bad_key_at w.place

  -- no key is spelled where one may come
  pub record NoKey (b : WireBreak) : Type 0 where
    pub left : w.place ≢ w.end
    pub some : allowed ≢ []
    pub number : IsNoNumber w.bytes w.place w.end b

  -- the key is one that may not come
  pub record OtherKey (b : WireBreak) : Type 0 where
    pub key : ℕ
    pub next : ℕ
    pub spelled : IsSpelledAt w.bytes w.place w.end key next
    pub other : is_among allowed key ≡ false
    pub is : b ≡ bad_key_at w.place

  -- after the key no number or no length stands
  pub record NoContent (b : WireBreak) : Type 0 where
    pub key : ℕ
    pub next : ℕ
    pub spelled : IsSpelledAt w.bytes w.place w.end key next
    pub among : is_among allowed key ≡ true
    pub none : ((key % 8 ≡ 6) × IsNoLength next w.end b) ⊎ ((key % 8 ≢ 6) × IsNoNumber w.bytes next w.end b)

  -- the payload is longer than what is left
  pub record PastEnd (b : WireBreak) : Type 0 where
    pub key : ℕ
    pub next : ℕ
    pub value : ℕ
    pub from : ℕ
    pub spelled : IsSpelledAt w.bytes w.place w.end key next
    pub among : is_among allowed key ≡ true
    pub content : content_at w.bytes key next w.end ≡ Ok (value, from)
    pub longer : w.end - from < payload_len key value
    pub is : b ≡ over_end_at w.place

  -- one of the six
  abbrev pub IsFieldBreak : WireBreak → Type 0
  IsFieldBreak b = EndsEarly b ⊎ NoneMayCome b ⊎ NoKey b ⊎ OtherKey b ⊎ NoContent b ⊎ PastEnd b

-- ---- in a message

-- the way to a break: over fields, into what one of them holds, and to what is wrong there
pub data Way : Type 0 where
  stops : WireBreak → Way
  holds_none : Field → Way
  within : Field → Way → Way
  past : Field → Way → Way

-- no message
abbrev pub IsPlain : Option Content → Type 0
IsPlain (Some (Message part)) = ⊥
IsPlain content = Unit {0}

-- the next field
abbrev pub Comes : Part → Option ℕ → Window → Field → Type 0
Comes part last w f = IsNextField w (next_keys part last) f

-- what the field holds is of good form
pub record HoldsGood (part : Part) (w : Window) (f : Field) : Type 0 where
  pub held : Fields → Fields
  pub is : filled message_at w.bytes f (content_of part f.key) ≡ Ok held

-- The next field stops at this break; or it comes, and the number or the list that it holds breaks; or it comes, and the message
-- that it holds breaks; or it comes and is of good form, and the message breaks behind it.
abbrev pub Leads : Part → Option ℕ → Window → FileBreak → Way → Type 0
Leads part last w b (stops x) = IsFieldBreak w (next_keys part last) (may_end part last) x × (b ≡ file_break x)
Leads part last w b (holds_none f) = Comes part last w f × IsPlain (content_of part f.key) × (filled message_at w.bytes f (content_of part f.key) ≡ Err b)
Leads part last w b (within f way) = Comes part last w f × ((sub : Part) × (content_of part f.key ≡ Some (Message sub)) × Leads sub None (payload_of w.bytes f) b way)
Leads part last w b (past f way) = Comes part last w f × HoldsGood part w f × Leads part (Some f.key) (behind w (Some f)) b way

-- the message breaks so, from behind a field on
pub record BreaksSo (part : Part) (last : Option ℕ) (w : Window) (b : FileBreak) : Type 0 where
  pub way : Way
  pub leads : Leads part last w b way

-- Law: a break is told of a message exactly where it has a cause, and all fields before it are of good form.
abbrev pub FormBreakLaw : Type 0
FormBreakLaw = (part : Part) (w : Window) (b : FileBreak) → IsInMemory w → (message_at part w ≡ Err b) ↔ BreaksSo part None w b
