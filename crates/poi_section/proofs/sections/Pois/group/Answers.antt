use Rattle.std.proofs.Common.{◌∙◌, List, Some, sym, ap}
use Rattle.std.specs.Prelude.{slice_get}
use Rattle.std.specs.Option.{option_map}
use Rattle.std.proofs.lemmas.Option.{slice_get-map}
use Rattle.live_model.specs.declared.records.PoiRec.{PoiRec}
use Rattle.obf_wire.specs.Windows.{range_of}
use Rattle.poi_section.specs.declared.kept.GroupKept.{GroupKept}
use Rattle.boxed_read.specs.Meeting.{InBoxes}
use Rattle.poi_section.specs.PoiSections.{GroupRead, group_kept}
use Rattle.poi_section.proofs.GroupRead.{checked_groups, group_holds}
use Rattle.poi_section.proofs.sections.Pois.group.Goals as goal

pub section_of-requires : goal.section_of-requires
section_of-requires c =
    let p = c.self.inside in
    group_holds p.window.bytes.now p.kept.now.groups.items c.args.index c.in-Some.group.now (checked_groups (range_of p.window) p.kept.now c.self.invariant)
    (ap (λ (groups : List GroupKept). slice_get groups c.args.index) (sym c.groups.ensures) ∙ c.in-Some.ensures)

pub returns-in-Some : goal.returns-in-Some
returns-in-Some c =
    let p = c.self.inside in
    rw (← c.self.view_is)
    (ap (option_map (λ (g : GroupRead). g.section))
    (slice_get-map (group_kept p.window.bytes.now) p.kept.now.groups.items c.args.index
    ∙ ap (option_map (group_kept p.window.bytes.now)) (ap (λ (groups : List GroupKept). slice_get groups c.args.index) (sym c.groups.ensures) ∙ c.in-Some.ensures))
    ∙ ap (λ (section : InBoxes PoiRec). Some section) (sym c.section_of.ensures))

pub returns-in-None : goal.returns-in-None
returns-in-None c =
    let p = c.self.inside in
    rw (← c.self.view_is)
    (slice_get-map (group_kept p.window.bytes.now) p.kept.now.groups.items c.args.index
    ∙ ap (option_map (group_kept p.window.bytes.now)) (ap (λ (groups : List GroupKept). slice_get groups c.args.index) (sym c.groups.ensures) ∙ c.in-None.ensures))
