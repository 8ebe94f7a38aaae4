use Rattle.std.proofs.Common.{◌≡◌, ℕ, List, [], Option, Some, None, Ok, ap, sym, subst, ◌∙◌}
use Rattle.std.specs.Prelude.{slice_range}
use Rattle.obf_wire.specs.declared.file.FileBreak.{FileBreak}
use Rattle.obf_wire.specs.Fields.{Window, IsWindow, part_of}
use Rattle.obf_wire.specs.Windows.{range_of}
use Rattle.file_grammar.specs.declared.parts.Part.TheVariants.{Group as GroupPart}
use Rattle.file_grammar.specs.Messages.{Fields}
use Rattle.file_grammar.specs.PoiRules.{Group, group_with}
use Rattle.file_grammar.specs.Readings.{message_at}
use Rattle.file_grammar.specs.Walks.{Standing}
use Rattle.boxed_exact.specs.Sides.{beside}
use Rattle.poi_section.specs.declared.kept.GroupKept.{GroupKept}
use Rattle.poi_section.specs.Groups.{IsGroupAsked, category_before}
use Rattle.poi_section.proofs.GroupAsking.{GroupsAsked, form_is, groups_ask, groups_begin, groups_broken, groups_kept, rules_broken}
use Rattle.poi_section.proofs.group_rules.check_rules.Goals as goal

pub loop-field-init : goal.loop-field-init
loop-field-init c =
    let side = beside c.args.around.now in
    let bytes : List ℕ = c.args.window.bytes.now in
    record {
      asked = λ fields e.
          subst (λ (gs : List GroupKept). GroupsAsked side bytes fields None c.none-first.result gs 0 [] c.new-walk.result) (sym c.new-groups.ensures.items)
          (subst (λ (first : Option FileBreak). GroupsAsked side bytes fields None first [] 0 [] c.new-walk.result) (sym c.none-first.ensures)
          (groups_begin side bytes fields None (range_of c.args.window) c.new-walk.result c.new-walk.ensures e));
      part = ap (λ (s : Standing). s.part) c.new-walk.ensures;
      window = subst (λ (s : Standing). IsWindow s.window) (sym c.new-walk.ensures) (record { ordered = c.args.window.ordered; within = c.args.window.within });
      same = ap (λ (s : Standing). s.window.bytes) c.new-walk.ensures;
    }

pub loop-field-preserved : goal.loop-field-preserved
loop-field-preserved c =
    let side = beside c.args.around.now in
    let bytes : List ℕ = c.args.window.bytes.now in
    let f = c.in-Some.field in
    let now = c.loop-field.first in
    let new = c.ask_group.new.first in
    let asked = c.in_ok-asked.asked in
    let before : List ℕ = c.loop-field.before.now in
    let there = c.part-group.ensures.range in
    let here : part_of bytes f.from f.to ≡ part_of c.loop-field.walk.window.bytes f.from f.to = ap (λ (bs : List ℕ). part_of bs f.from f.to) (sym c.loop-field.invariant.same) in
    let told = subst (λ (v : Window). (fields : Fields) (group : Group) (prev : Option Group) → message_at GroupPart v ≡ Ok fields → group_with f.at fields ≡ Some group → category_before prev ≡ before → IsGroupAsked side v.bytes prev group now new asked)
    there c.in_ok-asked.ensures.asked in
    let one = subst (λ (v : Window). (fields : Fields) (group : Group) (prev : Option Group) → message_at GroupPart v ≡ Ok fields → group_with f.at fields ≡ Some group → category_before prev ≡ before → IsGroupAsked side bytes prev group now new asked)
    here told in
    record {
      asked = λ fields e.
          subst (λ (bs : List ℕ). GroupsAsked side bytes fields None new c.put_asked.new.groups.items c.in_ok-records.records (slice_range bs asked.category.from asked.category.to) c.next.new.self) (sym c.all.ensures)
          (groups_ask side bytes fields None now new c.loop-field.groups.items c.put_asked.new.groups.items c.loop-field.records c.in_ok-records.records before c.loop-field.walk c.next.new.self f asked c.loop-field.invariant.part
          (c.loop-field.invariant.asked fields e) c.in-Some.ensures.fields one c.in_ok-records.ensures);
      part = c.in-Some.ensures.part ∙ c.loop-field.invariant.part;
      window = c.in-Some.ensures.window;
      same = c.in-Some.ensures.same.0 ∙ c.loop-field.invariant.same;
    }

pub returns-in-None-clause-kept : goal.returns-in-None-clause-kept
returns-in-None-clause-kept c =
    let side = beside c.args.around.now in
    let w = range_of c.args.window in
    let f = form_is w c.requires.form in
    groups_kept side w f.0 (record { groups = c.loop-field.groups; records = c.loop-field.records }) c.loop-field.before.now c.loop-field.walk f.1
    (subst (λ (first : Option FileBreak). GroupsAsked side w.bytes f.0 None first c.loop-field.groups.items c.loop-field.records c.loop-field.before.now c.loop-field.walk) (sym c.in-None.ensures) (c.loop-field.invariant.asked f.0 f.1))
    c.in_default.ensures.fields

pub returns-in-Some-found-clause-broken : goal.returns-in-Some-found-clause-broken
returns-in-Some-found-clause-broken c =
    let side = beside c.args.around.now in
    let w = range_of c.args.window in
    let f = form_is w c.requires.form in
    sym (rules_broken side w f.0 f.1)
    ∙ sym (groups_broken side w.bytes f.0 None c.loop-field.first c.loop-field.groups.items c.loop-field.records c.loop-field.before.now c.loop-field.walk (c.loop-field.invariant.asked f.0 f.1) c.in_default.ensures.fields)
    ∙ sym c.in-Some-found.ensures
