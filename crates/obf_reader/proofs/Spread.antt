-- Where messages stand that fields of a file hold.
use Rattle.std.proofs.Common.{◌≡◌, ℕ, List, Option, Some, Ok, sym, subst, ◌∙◌}
use Rattle.file_grammar.specs.declared.parts.Content.{Content}
use Rattle.file_grammar.specs.declared.parts.Content.TheVariants.{Message}
use Rattle.file_grammar.specs.declared.parts.Version.{Version}
use Rattle.file_grammar.specs.declared.parts.Part.{Part}
use Rattle.file_grammar.specs.declared.parts.Part.TheVariants.{File}
use Rattle.file_grammar.specs.Messages.{Fields}
use Rattle.file_grammar.specs.Readings.{message_at}
use Rattle.file_grammar.specs.Tables.{content_of}
use Rattle.file_grammar.specs.Walks.{Standing}
use Rattle.boxed_exact.specs.Fields.{HoldsInner}
use Rattle.boxed_exact.specs.declared.fields.Payload.{Payload}
use Rattle.obf_reader.specs.Spread.{window_of}

abbrev holds_part : Part → Option Content
holds_part part = Some (Message part)

same_part : (a b : Part) → holds_part a ≡ holds_part b → a ≡ b
same_part a b e = cc

-- the message of a field of a file
pub held_in : (v : Version) (s : Standing) (bytes : List ℕ) (p : Payload) (key : ℕ) (part : Part) (inner : Fields) → s.part ≡ File v → s.window.bytes ≡ bytes → content_of (File v) key ≡ Some (Message part)
    → HoldsInner s p.from p.to key inner → message_at part (window_of bytes p) ≡ Ok inner
held_in v s bytes p key part inner is same row h =
    let c : content_of (File v) key ≡ holds_part h.part = subst (λ (q : Part). content_of q key ≡ holds_part h.part) is h.content in
    let read = subst (λ (q : Part). message_at q (record { bytes = s.window.bytes; place = p.from; end = p.to }) ≡ Ok inner) (same_part h.part part (sym c ∙ row)) h.read in
    subst (λ (all : List ℕ). message_at part (record { bytes = all; place = p.from; end = p.to }) ≡ Ok inner) same read
