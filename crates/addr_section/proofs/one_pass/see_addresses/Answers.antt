use Rattle.std.proofs.Common.{◌≡◌, ◌≤◌, ◌+◌, ℕ, Option, None, ap, sym, subst, arith}
use Rattle.obf_wire.specs.Fields.{Window, IsWindow}
use Rattle.obf_wire.specs.Windows.{range_of}
use Rattle.boxed_exact.specs.Sides.{beside}
use Rattle.addr_section.specs.declared.addresses.SortKey.{SortKey}
use Rattle.addr_section.specs.declared.block_rules.BlockSeen.{BlockSeen}
use Rattle.addr_section.specs.Seen.{IsSortKeyOf}
use Rattle.addr_section.specs.Straight.{IsAddressRead}
use Rattle.addr_section.proofs.AddressAsking.{address_asked}
use Rattle.addr_section.proofs.OnePass.{AddressesRead, addresses_done, addresses_more, addresses_start}
use Rattle.addr_section.proofs.StraightLines.{at_place}
use Rattle.addr_section.proofs.one_pass.see_addresses.Goals as goal

abbrev none_seen : BlockSeen
none_seen = record { count = 0; first = None; last = None }

pub loop-at-init : goal.loop-at-init
loop-at-init c =
    let w : Window = range_of c.args.window in
    let side = beside c.args.around.now in
    let first = c.args.first.now in record {
      so_far = λ prev was.
          subst (λ (at : ℕ). AddressesRead c.args.houses side c.args.version w prev first first none_seen at) (sym c.from-at.ensures) (addresses_start c.args.houses side c.args.version w prev first);
      inside = subst (λ (at : ℕ). at ≤ c.args.window.to) (sym c.from-at.ensures) c.args.window.ordered;
      few = omega arith;
    }

pub loop-at-preserved : goal.loop-at-preserved
loop-at-preserved c =
    let w : Window = range_of c.args.window in
    let side = beside c.args.around.now in
    let f = c.in-Some.field in
    let one = c.in-Some-see_address.one in
    let inv = c.loop-at.invariant in
    let now = c.loop-at.first in
    let new = c.check_address.new.first in
    let window : IsWindow (at_place w c.loop-at.at) = record { ordered = inv.inside; within = c.args.window.within } in
    let read = subst (λ (v : Window). IsAddressRead c.args.version v f.at one) c.part.ensures.range c.in-Some-see_address.ensures in
    let count : c.with_address-seen.result.count ≡ c.loop-at.seen.count + 1 = ap (λ (s : BlockSeen). s.count) c.with_address-seen.ensures in
    record {
      so_far = λ prev was.
          subst (λ (seen : BlockSeen). AddressesRead c.args.houses side c.args.version w prev c.args.first.now new seen f.to) (sym c.with_address-seen.ensures)
          (addresses_more c.args.houses side c.args.version w prev c.args.first.now now new c.loop-at.seen c.args.before c.sort_key.result c.loop-at.at f read.fields window (inv.so_far prev was) was c.in-Some.ensures read.read
          (λ p is. address_asked c.args.houses side p c.or-last.result f.at read.fields now new one c.sort_key.result read.seen_is (subst (λ (b : Option SortKey). IsSortKeyOf b p) (sym c.or-last.ensures) is) c.in_ok-check_address.ensures c.sort_key.ensures));
      inside = c.in-Some.ensures.inside.ends;
      few = omega (arith, count, inv.few, c.in-Some.ensures.inside.starts, c.in-Some.ensures.inside.ordered);
    }

pub returns : goal.returns
returns c prev was =
    let w : Window = range_of c.args.window in
    addresses_done c.args.houses (beside c.args.around.now) c.args.version w prev c.args.first.now c.loop-at.first c.loop-at.seen c.loop-at.at (record { ordered = c.loop-at.invariant.inside; within = c.args.window.within }) (omega arith)
    (c.loop-at.invariant.so_far prev was)
