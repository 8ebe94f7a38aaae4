use Rattle.std.proofs.Common.{◌≡◌, ℕ, List, None, Ok, sym, subst, rules}
use Rattle.file_grammar.specs.Files.{file_break}
use Rattle.file_grammar.specs.Messages.{Fields}
use Rattle.obf_reader.specs.Kept.{sections_break}
use Rattle.obf_reader.specs.Parts.{IsReadOf, beside_of}
use Rattle.obf_reader.specs.Spread.{read_file}
use Rattle.obf_reader.proofs.GoodFiles.{sections_unbroken}
use Rattle.obf_reader.proofs.image.Image.read_exactly.Goals as goal

pub kept_of-requires-clause-sound : goal.kept_of-requires-clause-sound
kept_of-requires-clause-sound c =
    let bytes : List ℕ = c.args.bytes.items in
    let read = c.in_ok-parts.parts in
    let parts = subst (λ (bs : List ℕ). (fields : Fields) → read_file bs ≡ Ok fields → IsReadOf bs read fields) c.deref-3.ensures.value c.in_ok-parts.ensures.parts in
    let none : file_break bytes ≡ None = (search rules) in
    subst (λ (bs : List ℕ). sections_break (beside_of read) bs read.sections ≡ None) (sym c.deref-5.ensures.value) (sections_unbroken bytes read parts none)
