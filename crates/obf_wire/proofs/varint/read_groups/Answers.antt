use Rattle.std.proofs.Common.{◌<◌, ◌+◌, ◌*◌, ◌-◌, ◌^◌, sym, ◌∙◌, refl, arith}
use Rattle.obf_wire.proofs.Groups.{above-none, above-next, last_fits, next_fits, group_fits, next_scale}
use Rattle.obf_wire.specs.Varint.{varint_in, groups_in}
use Rattle.obf_wire.proofs.varint.read_groups.Goals as goal

pub loop-before-init : goal.loop-before-init
unfolding varint_in
loop-before-init c = record {
  few = omega arith;
  scale = refl;
  low = omega arith;
  same = sym (above-none (groups_in 9 c.args.bytes.now));
}

last : (c : goal.Joined-else-before-eq9) → c.loop-before.value + c.loop-before.weight * c.from-byte.result < 2 ^ 64
last c =
    let kept = c.loop-before.invariant in
    last_fits c.loop-before.value c.loop-before.weight c.loop-before.before c.from-byte.result kept.few kept.scale kept.low c.if-byte-lt128.true (λ e. grind (arith, c.else-before-eq9.either))

pub overflow_mul-result : goal.overflow_mul-result
overflow_mul-result c = omega (arith, last c)

pub overflow_add-result : goal.overflow_add-result
overflow_add-result c = omega (arith, last c)

group : (c : goal.Else-before-eq9-2) → (c.loop-before.value + c.loop-before.weight * (c.from-byte.result - 128) < c.loop-before.weight * 128) × (c.loop-before.weight * 128 < 2 ^ 64)
group c =
    let kept = c.loop-before.invariant in
    (group_fits c.loop-before.value c.loop-before.weight c.from-byte.result kept.low (omega (arith, c.type_inv.bytes c.loop-before.before)), next_fits c.loop-before.weight c.loop-before.before (omega arith) kept.scale)

pub overflow_mul-value : goal.overflow_mul-value
overflow_mul-value c = omega (arith, (group c).0, (group c).1)

pub overflow_add-value : goal.overflow_add-value
overflow_add-value c = omega (arith, (group c).0, (group c).1)

pub overflow_mul-weight : goal.overflow_mul-weight
overflow_mul-weight c = omega (arith, (group c).1)

pub loop-before-preserved : goal.loop-before-preserved
loop-before-preserved c =
    let kept = c.loop-before.invariant in
    record {
      few = omega arith;
      scale = next_scale c.loop-before.weight c.loop-before.before kept.scale;
      low = (group c).0;
      same = kept.same ∙ above-next c.loop-before.value c.loop-before.weight c.loop-before.before c.from-byte.result c.args.bytes.now c.loop-before-test.true (sym c.from-byte.ensures) c.if-byte-lt128.false (omega (arith, c.type_inv.bytes c.loop-before.before)) (omega arith);
    }
