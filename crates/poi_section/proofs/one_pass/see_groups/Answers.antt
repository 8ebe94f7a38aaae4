use Rattle.std.proofs.Common.{◌≡◌, ℕ, ◌+◌, List, [], ◌∷◌, ◌++◌, true, subst, arith, rules}
use Rattle.std.specs.Prelude.{slice_range}
use Rattle.obf_wire.specs.Fields.{Window, part_of}
use Rattle.obf_wire.specs.Windows.{range_of}
use Rattle.boxed_exact.specs.Sides.{beside}
use Rattle.poi_section.specs.declared.kept.GroupKept.{GroupKept}
use Rattle.poi_section.specs.Groups.{GroupsLeft, IsGoodGroup, may_rise}
use Rattle.poi_section.proofs.GroupWalk.{groups_end, groups_on, pois_are}
use Rattle.poi_section.proofs.one_pass.see_groups.Goals as goal

pub loop-at-preserved : goal.loop-at-preserved
loop-at-preserved c =
    let w : Window = record { bytes = c.args.window.bytes.now; place = c.loop-at.at; end = c.args.window.to } in
    let side = beside c.args.around.now in
    let f = c.in-Some.field in
    let one = c.in-Some-found.group in
    let before : List ℕ = c.loop-at.before.now in
    let told : IsGoodGroup side (range_of c.part.result) one = (let h = c.in_ok-found.ensures.good in search rules) in
    let good = subst (λ (v : Window). IsGoodGroup side v one) c.part.ensures.range told in
    let rises = subst (λ (bytes : List ℕ). may_rise before (slice_range bytes one.category.from one.category.to) ≡ true) c.all.ensures (search rules) in
    let sum : c.in-Some-checked_add.sum ≡ c.loop-at.records + one.kept.records = search rules in
    let added = c.in_ok-push.ensures.items in
    record {
      suffices = λ all total l. c.loop-at.invariant.suffices all total
          (groups_on side w before f one c.loop-at.groups.items all c.loop-at.records total (record { ordered = c.loop-at.invariant.inside; within = c.args.window.within }) c.in-Some.ensures good rises
          (subst (λ (n : ℕ). GroupsLeft side (part_of c.args.window.bytes.now f.to c.args.window.to) (slice_range c.args.window.bytes.now one.category.from one.category.to) (c.loop-at.groups.items ++ one ∷ []) all n total) sum
          (subst (λ (gs : List GroupKept). GroupsLeft side (part_of c.args.window.bytes.now f.to c.args.window.to) (slice_range c.args.window.bytes.now one.category.from one.category.to) gs all c.in-Some-checked_add.sum total) added
          (subst (λ (bytes : List ℕ). GroupsLeft side (part_of c.args.window.bytes.now f.to c.args.window.to) (slice_range bytes one.category.from one.category.to) c.push.new.self.items all c.in-Some-checked_add.sum total) c.all.ensures l))));
      inside = c.in-Some.ensures.inside.ends;
    }

pub returns : goal.returns
returns c =
    let w : Window = record { bytes = c.args.window.bytes.now; place = c.loop-at.at; end = c.args.window.to } in
    pois_are (beside c.args.around.now) (range_of c.args.window) (record { groups = c.loop-at.groups; records = c.loop-at.records })
    (c.loop-at.invariant.suffices c.loop-at.groups.items c.loop-at.records
    (groups_end (beside c.args.around.now) w c.loop-at.before.now c.loop-at.groups.items c.loop-at.records (record { ordered = c.loop-at.invariant.inside; within = c.args.window.within }) (omega arith)))
