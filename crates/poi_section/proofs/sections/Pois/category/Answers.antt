use Rattle.std.proofs.Common.{List, sym, subst}
use Rattle.obf_wire.specs.Windows.{range_of}
use Rattle.poi_section.specs.declared.kept.GroupKept.{GroupKept}
use Rattle.poi_section.specs.PoiSections.{HoldGroups}
use Rattle.poi_section.proofs.GroupRead.{checked_groups}
use Rattle.poi_section.proofs.sections.Pois.category.Goals as goal

pub new-requires : goal.new-requires
new-requires c =
    let p = c.self.inside in
    subst (HoldGroups p.window.bytes.now) (sym c.groups.ensures) (checked_groups (range_of p.window) p.kept.now c.self.invariant)
