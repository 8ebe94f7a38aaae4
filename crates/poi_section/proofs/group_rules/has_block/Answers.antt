use Rattle.std.proofs.Common.{◌≡◌, Ok, Result, length, ap, sym, subst, ◌∙◌}
use Rattle.std.specs.Prelude.{nat_lt}
use Rattle.obf_wire.specs.declared.file.FileBreak.{FileBreak}
use Rattle.obf_wire.specs.Windows.{range_of}
use Rattle.file_grammar.specs.declared.parts.Boxed.TheVariants.{Poi}
use Rattle.file_grammar.specs.Messages.{Fields, has_message}
use Rattle.file_grammar.specs.PoiRules.{poi_boxing}
use Rattle.file_grammar.specs.Sections.{section_in}
use Rattle.file_grammar.specs.Walks.{Standing, left_in}
use Rattle.boxed_exact.proofs.BlockWalk.{IsSectionOf, section_of}
use Rattle.poi_section.proofs.GroupAsking.{some_block}
use Rattle.poi_section.proofs.group_rules.has_block.Goals as goal

abbrev stands : Fields → Result Fields FileBreak
stands fields = Ok fields

pub returns-in-Some : goal.returns-in-Some
returns-in-Some c fields e =
    let s : IsSectionOf Poi poi_boxing fields = section_of Poi poi_boxing (range_of c.args.window) fields e in
    let begins : left_in c.new-walk.result ≡ stands fields = subst (λ (w : Standing). left_in w ≡ stands fields) (sym c.new-walk.ensures) e in
    let t = c.next_payload-tree.ensures.message s.at 14 s.tree s.blocks (begins ∙ ap stands s.is) in
    let part = c.next_payload-tree.ensures.part ∙ ap (λ (w : Standing). w.part) c.new-walk.ensures in
    sym (ap (λ (f : Fields). nat_lt 0 (length (section_in f).blocks)) s.is ∙ some_block c.next_payload-tree.new.walk c.next.new.self c.in-Some._field s.blocks part s.are (c.in-Some.ensures.fields s.blocks t.2))

pub returns-in-None : goal.returns-in-None
returns-in-None c fields e =
    let s : IsSectionOf Poi poi_boxing fields = section_of Poi poi_boxing (range_of c.args.window) fields e in
    let begins : left_in c.new-walk.result ≡ stands fields = subst (λ (w : Standing). left_in w ≡ stands fields) (sym c.new-walk.ensures) e in
    let t = c.next_payload-tree.ensures.message s.at 14 s.tree s.blocks (begins ∙ ap stands s.is) in
    sym (ap (λ (f : Fields). nat_lt 0 (length (section_in f).blocks)) (s.is ∙ ap (has_message s.at 14 s.tree) (c.in-None.ensures.fields s.blocks t.2)))
