use Rattle.std.proofs.Common.{◌≤◌, ℕ, sym, subst}
use Rattle.obf_wire.specs.Fields.{Window}
use Rattle.obf_wire.specs.Windows.{range_of}
use Rattle.addr_section.specs.Straight.{AreEntriesRead, IsEntryRead}
use Rattle.addr_section.proofs.OnePass.{entries_more, entries_start}
use Rattle.addr_section.proofs.one_pass.see_entries.Goals as goal

pub loop-at-init : goal.loop-at-init
loop-at-init c =
    let w : Window = range_of c.args.window in
    let old = c.args.entries.now.items in record {
      so_far = subst (λ (at : ℕ). AreEntriesRead c.args.version w old old at) (sym c.from-at.ensures) (entries_start c.args.version w old);
      inside = subst (λ (at : ℕ). at ≤ c.args.window.to) (sym c.from-at.ensures) c.args.window.ordered;
    }

pub loop-at-preserved : goal.loop-at-preserved
loop-at-preserved c =
    let w : Window = range_of c.args.window in
    let f = c.in-Some.field in
    let one = c.in-Some-see_entry.entry in
    let read = subst (λ (v : Window). IsEntryRead v f.at one) c.part.ensures.range c.in-Some-see_entry.ensures in
    record {
      so_far = entries_more c.args.version w c.args.entries.now.items c.loop-at.entries.items c.push.new.self.items c.loop-at.at f one (record { ordered = c.loop-at.invariant.inside; within = c.args.window.within }) c.loop-at.invariant.so_far c.in-Some.ensures read c.in_ok-push.ensures.items;
      inside = c.in-Some.ensures.inside.ends;
    }
