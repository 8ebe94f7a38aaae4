use Rattle.std.proofs.Common.{◌∙◌, ap, sym, subst}
use Rattle.obf_wire.specs.Windows.{range_of}
use Rattle.addr_section.specs.declared.kept.ListKept.{ListKept}
use Rattle.addr_read.specs.Sound.{HoldBlocks}
use Rattle.addr_read.proofs.SectionRead.{houses_hold, names_hold}
use Rattle.addr_read.proofs.section.Section.all.Goals as goal

pub new-requires-clause-names : goal.new-requires-clause-names
new-requires-clause-names c =
    let s = c.self.inside in
    let is = c.blocks-2.ensures ∙ ap (λ (list : ListKept). list.blocks.items) c.names.ensures in
    subst (HoldBlocks s.version s.window.bytes.now) (sym is) (names_hold s.version (range_of s.window) s.kept.now c.self.invariant)

pub new-requires-clause-houses : goal.new-requires-clause-houses
new-requires-clause-houses c =
    let s = c.self.inside in
    let is = c.blocks-3.ensures ∙ ap (λ (list : ListKept). list.blocks.items) c.houses.ensures in
    subst (HoldBlocks s.version s.window.bytes.now) (sym is) (houses_hold s.version (range_of s.window) s.kept.now c.self.invariant)
