use Rattle.std.proofs.Common.{List, ℕ, sym, ap, ◌∙◌}
use Rattle.file_grammar.specs.Sections.{Placed, text_of}
use Rattle.boxed_exact.proofs.block_texts.BlockTexts.get.Goals as goal

pub returns : goal.returns
returns c there a = c.text_of.ensures a.fields a.read ∙ ap (λ (texts : List (Placed (List ℕ))). text_of texts c.args.number) (sym a.are)
