use Rattle.std.proofs.Common.{◌∙◌, ap, sym, subst}
use Rattle.std.specs.List.{AllByRecursion}
use Rattle.live_model.specs.Fits.{FitsAddress, FitsMap, FitsPoi, FitsRestriction, FitsRoad}
use Rattle.boxed_write.specs.Classes.{held}
use Rattle.obf_writer.proofs.Classes.{classes_fit}
use Rattle.obf_writer.proofs.sections.sections_of.Goals as goal

pub map_bytes-requires : goal.map_bytes-requires
map_bytes-requires c =
    let fit = classes_fit c.args.rules.now c.args.records.now c.requires in
    subst (AllByRecursion (FitsMap c.args.rules.now)) (sym (ap held c.deref.ensures.value ∙ c.in_ok-by.ensures.maps)) fit.maps

pub addresses_bytes-requires : goal.addresses_bytes-requires
addresses_bytes-requires c =
    let fit = classes_fit c.args.rules.now c.args.records.now c.requires in
    subst (AllByRecursion FitsAddress) (sym (ap held c.deref-2.ensures.value ∙ c.in_ok-by.ensures.addresses)) fit.addresses

pub pois_bytes-requires : goal.pois_bytes-requires
pois_bytes-requires c =
    let fit = classes_fit c.args.rules.now c.args.records.now c.requires in
    subst (AllByRecursion FitsPoi) (sym (ap held c.deref-3.ensures.value ∙ c.in_ok-by.ensures.pois)) fit.pois

pub roads_bytes-requires-clause-roads : goal.roads_bytes-requires-clause-roads
roads_bytes-requires-clause-roads c =
    let fit = classes_fit c.args.rules.now c.args.records.now c.requires in
    subst (AllByRecursion (FitsRoad c.args.rules.now)) (sym (ap held c.deref-4.ensures.value ∙ c.in_ok-by.ensures.roads)) fit.roads

pub roads_bytes-requires-clause-bans : goal.roads_bytes-requires-clause-bans
roads_bytes-requires-clause-bans c =
    let fit = classes_fit c.args.rules.now c.args.records.now c.requires in
    subst (AllByRecursion FitsRestriction) (sym (ap held c.deref-5.ensures.value ∙ c.in_ok-by.ensures.bans)) fit.bans
