use Rattle.std.proofs.Common.{◌≡◌, ◌∙◌, ℕ, List, Option, None, Ok, Result, ap, subst, sym}
use Rattle.obf_wire.specs.Fields.{Window, part_of}
use Rattle.obf_wire.specs.Windows.{range_of}
use Rattle.obf_wire.specs.declared.file.FileBreak.{FileBreak}
use Rattle.file_grammar.specs.declared.parts.Part.TheVariants.{Boxes, Tree}
use Rattle.file_grammar.specs.declared.parts.Boxed.{Boxed}
use Rattle.file_grammar.specs.BoxRules.{Beside}
use Rattle.file_grammar.specs.Messages.{Fields}
use Rattle.file_grammar.specs.Readings.{message_at}
use Rattle.file_grammar.specs.Walks.{Standing, left_in}
use Rattle.boxed_exact.specs.declared.nodes.LeafSeen.{LeafSeen}
use Rattle.boxed_exact.specs.Sides.{beside}
use Rattle.boxed_exact.specs.Nodes.{AreNodesChecked}
use Rattle.boxed_exact.proofs.BlockWalk.{IsSectionOf, held_tree, pairs_asked, section_asked, section_of}
use Rattle.boxed_exact.proofs.section.check_rules.Goals as goal

abbrev at_start : Boxed → Window → Standing
at_start class w = record { part = Boxes class; last = None; window = w }

abbrev stands : Fields → Result Fields FileBreak
stands fields = Ok fields

pub returns-in-None-clause-good : goal.returns-in-None-clause-good
returns-in-None-clause-good g c fields e =
    let m = g.C.CheckClass in
    let around : Beside = beside c.args.around.now in
    let is = c.new-walk.ensures ∙ ap (λ (k : Boxed). at_start k (range_of c.args.window)) c.class.ensures in
    let s : IsSectionOf m.class m.boxing fields = section_of m.class m.boxing (range_of c.args.window) fields e in
    let begins : left_in c.new-walk.result ≡ stands fields = subst (λ (w : Standing). left_in w ≡ stands fields) (sym is) e in
    let t = c.next_payload-tree.ensures.message s.at 14 s.tree s.blocks (begins ∙ ap stands s.is) in
    let held = held_tree m.class m.boxing c.new-walk.result c.next_payload-tree.result.from c.next_payload-tree.result.to s.tree (ap (λ (w : Standing). w.part) is) t.1 in
    let there = ap (λ (w : Standing). part_of w.window.bytes c.next_payload-tree.result.from c.next_payload-tree.result.to) is ∙ sym c.part.ensures.range in
    let read = subst (λ (w : Window). message_at Tree w ≡ Ok s.tree) there held in
    let nodes = c.in_ok-check_nodes.ensures s.tree read in
    let from_none = subst (λ (first : Option FileBreak). AreNodesChecked s.tree first c.check_nodes.new.first c.new-leaves.result.items c.check_nodes.new.leaves.items c.in_ok-check_nodes.field-0) c.none-first.ensures nodes in
    let from_empty = subst (λ (leaves : List LeafSeen). AreNodesChecked s.tree None c.check_nodes.new.first leaves c.check_nodes.new.leaves.items c.in_ok-check_nodes.field-0) c.new-leaves.ensures.items from_none in
    let blocks = pairs_asked m.class m.boxing around s.blocks c.check_nodes.new.first c.check_blocks.new.first c.deref.result.now c.check_nodes.new.leaves.items c.deref.ensures.value (c.check_blocks.ensures s.blocks t.2 s.are) in
    sym (c.in-None.ensures ∙ section_asked m.class m.boxing around fields s.at s.tree s.blocks c.check_nodes.new.first c.check_blocks.new.first c.check_nodes.new.leaves.items c.in_ok-check_nodes.field-0 s.is from_empty blocks)

pub returns-clause-broken : goal.returns-clause-broken
returns-clause-broken g c fields e =
    let m = g.C.CheckClass in
    let around : Beside = beside c.args.around.now in
    let is = c.new-walk.ensures ∙ ap (λ (k : Boxed). at_start k (range_of c.args.window)) c.class.ensures in
    let s : IsSectionOf m.class m.boxing fields = section_of m.class m.boxing (range_of c.args.window) fields e in
    let begins : left_in c.new-walk.result ≡ stands fields = subst (λ (w : Standing). left_in w ≡ stands fields) (sym is) e in
    let t = c.next_payload-tree.ensures.message s.at 14 s.tree s.blocks (begins ∙ ap stands s.is) in
    let held = held_tree m.class m.boxing c.new-walk.result c.next_payload-tree.result.from c.next_payload-tree.result.to s.tree (ap (λ (w : Standing). w.part) is) t.1 in
    let there = ap (λ (w : Standing). part_of w.window.bytes c.next_payload-tree.result.from c.next_payload-tree.result.to) is ∙ sym c.part.ensures.range in
    let read = subst (λ (w : Window). message_at Tree w ≡ Ok s.tree) there held in
    let nodes = c.in_ok-check_nodes.ensures s.tree read in
    let from_none = subst (λ (first : Option FileBreak). AreNodesChecked s.tree first c.check_nodes.new.first c.new-leaves.result.items c.check_nodes.new.leaves.items c.in_ok-check_nodes.field-0) c.none-first.ensures nodes in
    let from_empty = subst (λ (leaves : List LeafSeen). AreNodesChecked s.tree None c.check_nodes.new.first leaves c.check_nodes.new.leaves.items c.in_ok-check_nodes.field-0) c.new-leaves.ensures.items from_none in
    let blocks = pairs_asked m.class m.boxing around s.blocks c.check_nodes.new.first c.check_blocks.new.first c.deref.result.now c.check_nodes.new.leaves.items c.deref.ensures.value (c.check_blocks.ensures s.blocks t.2 s.are) in
    sym (c.in-Some.ensures ∙ section_asked m.class m.boxing around fields s.at s.tree s.blocks c.check_nodes.new.first c.check_blocks.new.first c.check_nodes.new.leaves.items c.in_ok-check_nodes.field-0 s.is from_empty blocks)
