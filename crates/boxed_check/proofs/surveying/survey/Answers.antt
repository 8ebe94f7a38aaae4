use Rattle.std.proofs.Common.{◌≡◌, ◌∙◌, ℕ, List, None, Ok, Result, ap, subst, sym}
use Rattle.obf_wire.specs.declared.file.FileBreak.{FileBreak}
use Rattle.obf_wire.specs.Fields.{Window, part_of}
use Rattle.obf_wire.specs.Windows.{range_of}
use Rattle.file_grammar.specs.declared.parts.Boxed.{Boxed}
use Rattle.file_grammar.specs.declared.parts.Part.TheVariants.{Boxes, Tree}
use Rattle.file_grammar.specs.Messages.{Fields}
use Rattle.file_grammar.specs.Readings.{message_at}
use Rattle.file_grammar.specs.Walks.{Standing, left_in}
use Rattle.boxed_exact.specs.declared.fields.Payload.{Payload}
use Rattle.boxed_exact.specs.declared.nodes.LeafSeen.{LeafSeen}
use Rattle.boxed_exact.specs.Nodes.{AreNodesChecked}
use Rattle.boxed_exact.proofs.BlockWalk.{IsSectionOf, held_tree, section_of}
use Rattle.boxed_check.specs.Leaves.{AreBoxes, boxes_of}
use Rattle.boxed_check.specs.declared.kept.Kept.{Kept}
use Rattle.boxed_check.specs.Keeping.{IsSurveyed}
use Rattle.boxed_check.proofs.Good.{unbroken}
use Rattle.boxed_check.proofs.SurveyWalk.{survey_is}
use Rattle.boxed_check.proofs.surveying.survey.Goals as goal

abbrev at_start : Boxed → Window → Standing
at_start class w = record { part = Boxes class; last = None; window = w }

abbrev stands : Fields → Result Fields FileBreak
stands fields = Ok fields

pub returns : goal.returns
returns g c beside none =
    let m = g.C.CheckClass in
    let w : Window = range_of c.args.window in
    let u = unbroken m.class m.boxing beside w none in
    let is = c.new-walk.ensures ∙ ap (λ (k : Boxed). at_start k (range_of c.args.window)) c.class.ensures in
    let s : IsSectionOf m.class m.boxing u.fields = section_of m.class m.boxing w u.fields u.read in
    let begins : left_in c.new-walk.result ≡ stands u.fields = subst (λ (w : Standing). left_in w ≡ stands u.fields) (sym is) u.read in
    let t = c.next_payload-tree.ensures.message s.at 14 s.tree s.blocks (begins ∙ ap stands s.is) in
    let held = held_tree m.class m.boxing c.new-walk.result c.next_payload-tree.result.from c.next_payload-tree.result.to s.tree (ap (λ (w : Standing). w.part) is) t.1 in
    let there = ap (λ (w : Standing). part_of w.window.bytes c.next_payload-tree.result.from c.next_payload-tree.result.to) is ∙ sym c.part.ensures.range in
    let read = subst (λ (w : Window). message_at Tree w ≡ Ok s.tree) there held in
    let leaves : List LeafSeen = c.check_nodes.new.leaves.items in
    let blocks : List Payload = c.survey_blocks.new.blocks.items in
    let kept : Kept = record { leaves = c.check_nodes.new.leaves; tree = c.in_ok-over.over; blocks = c.survey_blocks.new.blocks; records = c.in_ok-records.records } in
    let nodes = c.in_ok-check_nodes.ensures s.tree read in
    let from_none = subst (λ (ls : List LeafSeen). AreNodesChecked s.tree c.none-first.result c.check_nodes.new.first ls leaves c.in_ok-check_nodes.field-0) c.new-leaves.ensures.items nodes in
    let surveyed = c.in_ok-records.ensures s.blocks t.2 s.are in
    let here = subst (λ (bytes : List ℕ). IsSurveyed m.class bytes s.blocks c.new-blocks.result.items blocks c.in_ok-records.records) c.all.ensures surveyed in
    let from_empty = subst (λ (ps : List Payload). IsSurveyed m.class c.args.window.bytes.now s.blocks ps blocks c.in_ok-records.records) c.new-blocks.ensures.items here in
    let over = subst (λ (ls : List LeafSeen). AreBoxes ls → c.in_ok-over.over ≡ boxes_of ls) c.deref.ensures.value c.in_ok-over.ensures in
    survey_is m.class m.boxing beside w u.fields s kept c.none-first.result c.check_nodes.new.first c.in_ok-check_nodes.field-0 u.read u.sound from_none from_empty over
