-- A text of object lines that comes in pieces, and what is held of it between two of them.
use Rattle.std.specs.Prelude.{◌≡◌, ℕ, ◌+◌, List, [], ◌++◌, length, Option, Some, None}
use Rattle.live_model.specs.declared.objects.Line.{Line}
use Rattle.live_model.specs.OplTexts.{OplText, object_lines, text_break}
use Rattle.opl_reader.specs.declared.OplError.{OplError}
use Rattle.opl_reader.specs.Readings.{IsCause}
use Rattle.opl_feed.specs.Streams.{completed, begun}

-- what a feed holds: the offset in the stream of the line begun last, how many object lines stand before it, the bytes of it that came, and why the feed was refused, if it was
pub record Fed : Type 0 where
  pub at : ℕ
  pub rows : ℕ
  pub begun : List ℕ
  pub refused : Option OplError

-- a feed that nothing came to
abbrev pub fresh : Fed
fresh = record { at = 0; rows = 0; begun = []; refused = None }

-- how many bytes came, where the feed was not refused
abbrev pub fed_length : Fed → ℕ
fed_length feed = feed.at + length feed.begun

-- the feed holds what a stream leaves whose completed lines have no break
pub record Holds (stream : List ℕ) (feed : Fed) : Type 0 where
  pub at : feed.at ≡ length (completed stream)
  pub rows : feed.rows ≡ length (object_lines (completed stream))
  pub begun : feed.begun ≡ begun stream
  pub unbroken : text_break (completed stream) ≡ None

-- the same, by whether the feed was refused
abbrev pub IsFedOrRefused : Option OplError → List ℕ → Fed → Type 0
IsFedOrRefused None stream feed = Holds stream feed
IsFedOrRefused (Some e) stream feed = IsCause (completed stream) e

-- the stream came to the feed since it was new: it was refused for the first break of the completed lines (or for memory), or holds what the stream leaves
abbrev pub IsFedBy : List ℕ → Fed → Type 0
IsFedBy stream feed = IsFedOrRefused feed.refused stream feed

-- lines are put behind those before them: what a longer text spells more than a shorter one
pub record Adds (shorter longer : List ℕ) (before after : List Line) : Type 0 where
  pub more : List Line
  pub behind : after ≡ before ++ more
  pub spelled : (lines : List Line) → OplText shorter lines → OplText longer (lines ++ more)
