use Rattle.std.specs.Prelude.{◌≡◌, map, length}
use Rattle.poi_section.specs.CategoryHits.{of_category}
use Rattle.poi_section.specs.PoiSections.{HoldGroups, group_kept}
use Rattle.poi_section.proofs.category_cursor.first_of.Given as goal

-- no group was passed by that has the category
abbrev pub invariant-loop-rest : goal.invariant-loop-rest
invariant-loop-rest l = record {
  same : of_category l.category (map (group_kept l.window.bytes.now) l.fn.groups) ≡ of_category l.category (map (group_kept l.window.bytes.now) l.rest);
  hold : HoldGroups l.window.bytes.now l.rest;
}

abbrev pub decreases-loop-rest : goal.decreases-loop-rest
decreases-loop-rest l = length l.rest
