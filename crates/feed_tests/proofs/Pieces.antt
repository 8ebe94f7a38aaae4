-- A text is read piece by piece.
use Rattle.std.proofs.Common.{◌≡◌, ℕ, List, [], ◌++◌, refl, sym, ap, ◌∙◌, append_assoc, subst, arith}
use Rattle.text_pieces.specs.Lines.{lines_from}
use Rattle.live_model.specs.declared.objects.Line.{Line}
use Rattle.live_model.specs.OplTexts.{OplText}
use Rattle.opl_reader.specs.declared.OplError.{OplError}
use Rattle.opl_reader.specs.Readings.{IsCause}
use Rattle.opl_feed.specs.Streams.{completed}
use Rattle.opl_feed.specs.Feeds.{Fed, IsFedBy, Adds}

-- the bytes that came, those that are left, and the lines of what came
pub record Came (bytes left : List ℕ) (feed : Fed) (lines : List Line) : Type 0 where
  pub stream : List ℕ
  pub whole : stream ++ left ≡ bytes
  pub fed : IsFedBy stream feed
  pub spelled : OplText (completed stream) lines

-- no bytes spell no lines
nothing_spelled : OplText [] []
unfolding lines_from
nothing_spelled = record { spelled = refl; within = omega arith }

-- nothing came
pub none_came : (bytes : List ℕ) (feed : Fed) → IsFedBy [] feed → Came bytes bytes feed []
none_came bytes feed fed = record { stream = []; whole = refl; fed = fed; spelled = nothing_spelled }

-- lines that are added are those of the longer text
pub added : (short long : List ℕ) (a b : List Line) → Adds short long a b → OplText short a → OplText long b
added short long a b adds text = subst (OplText long) (sym adds.behind) (adds.spelled a text)

-- a piece came
pub piece_came : (bytes left piece after : List ℕ) (old new : Fed) (a b : List Line) → left ≡ piece ++ after
    → ((stream : List ℕ) → IsFedBy stream old → Adds (completed stream) (completed (stream ++ piece)) a b) → ((stream : List ℕ) → IsFedBy stream old → IsFedBy (stream ++ piece) new)
    → Came bytes left old a → Came bytes after new b
piece_came bytes left piece after old new a b is adds feeds came = record {
  stream = came.stream ++ piece;
  whole = append_assoc came.stream piece after ∙ ap (λ bs. came.stream ++ bs) (sym is) ∙ came.whole;
  fed = feeds came.stream came.fed;
  spelled = added (completed came.stream) (completed (came.stream ++ piece)) a b (adds came.stream came.fed) came.spelled;
}

-- a piece breaks the text
pub cause_of : (bytes left piece after : List ℕ) (feed : Fed) (lines : List Line) (e : OplError) → left ≡ piece ++ after
    → ((stream later : List ℕ) → IsFedBy stream feed → IsCause ((stream ++ piece) ++ later) e) → Came bytes left feed lines → IsCause bytes e
cause_of bytes left piece after feed lines e is causes came =
    subst (λ bs. IsCause bs e) (append_assoc came.stream piece after ∙ ap (λ bs. came.stream ++ bs) (sym is) ∙ came.whole) (causes came.stream after came.fed)
