use Rattle.std.proofs.Common.{◌≡◌, ◌+◌, ℕ, List, [], ◌∷◌, ◌++◌, Option, length, ap, sym, subst, ◌∙◌, arith, rules}
use Rattle.std.specs.Prelude.{IfSome}
use Rattle.std.specs.Option.{option_or}
use Rattle.obf_wire.specs.Fields.{Window, IsWindow, part_of}
use Rattle.obf_wire.specs.Windows.{range_of}
use Rattle.file_grammar.specs.AddressRules.{Address, KeyEntry, KeyedBlock, first_of, last_of}
use Rattle.boxed_exact.specs.declared.fields.Payload.{Payload}
use Rattle.boxed_exact.specs.Sides.{beside}
use Rattle.addr_section.specs.declared.addresses.SortKey.{SortKey}
use Rattle.addr_section.specs.declared.block_rules.BlockSeen.{BlockSeen}
use Rattle.addr_section.specs.declared.kept.EntryKept.{EntryKept}
use Rattle.addr_section.specs.Kept.{AreEntriesKept}
use Rattle.addr_section.specs.Seen.{IsSortKeyOf}
use Rattle.addr_section.specs.Straight.{IsBlockNamed, IsBlockRead}
use Rattle.addr_section.proofs.OnePass.{BlocksRead, blocks_done, blocks_more, blocks_start}
use Rattle.addr_section.proofs.StraightLines.{at_place}
use Rattle.addr_section.proofs.one_pass.see_blocks.Goals as goal

pub loop-at-init : goal.loop-at-init
loop-at-init c = record {
  so_far = λ keys are. blocks_start c.args.houses (beside c.args.around.now) c.args.version (part_of c.args.window.bytes.now c.args.from c.args.window.to) keys c.args.entries.now c.args.blocks.now.items c.args.first.now are;
  inside = c.requires.inside;
}

pub loop-at-preserved : goal.loop-at-preserved
loop-at-preserved c =
    let bytes : List ℕ = c.args.window.bytes.now in
    let w : Window = part_of bytes c.args.from c.args.window.to in
    let side = beside c.args.around.now in
    let f = c.in-Some.field in
    let inv = c.loop-at.invariant in
    let now = c.loop-at.first in
    let mid = c.see_addresses.new.first in
    let new = c.ask_block.new.first in
    let seen = c.in-Some-found.seen in
    let named = c.loop-at.named.now in
    let before = c.loop-at.before in
    let window : IsWindow (at_place w c.loop-at.at) = record { ordered = inv.inside; within = c.args.window.within } in
    let stands = c.in-Some.ensures in
    let payload : IsWindow (part_of bytes f.from f.to) = record { ordered = stands.inside.ordered; within = omega (arith, stands.inside.ends, c.args.window.within) } in
    let told = subst (λ (o : Option BlockSeen). IfSome o (λ s. (prev : Option Address) → IsSortKeyOf before prev → IsBlockRead c.args.houses side c.args.version (range_of c.part-part.result) prev now mid s)) c.in-Some-found.is c.in_ok-found.ensures in
    let one = subst (λ (v : Window). (prev : Option Address) → IsSortKeyOf before prev → IsBlockRead c.args.houses side c.args.version v prev now mid seen) c.part-part.ensures.range told in
    let named_so = subst (λ (bs : List ℕ). (ks : List KeyEntry) (it : KeyedBlock) → AreEntriesKept bs named ks → it.at ≡ f.at → seen.count ≡ length it.addresses → IsSortKeyOf seen.first (first_of it.addresses) → IsSortKeyOf seen.last (last_of it.addresses) → IsBlockNamed c.args.from ks it mid new)
    c.all.ensures c.ask_block.ensures in
    let sum : c.in-Some-checked_add.sum ≡ c.loop-at.count + seen.count = search rules in
    let put = c.in_ok-push.ensures.items ∙ ap (λ (p : Payload). c.loop-at.blocks.items ++ p ∷ []) c.span_of.ensures in
    record {
      so_far = λ keys are.
          let on = blocks_more c.args.houses side c.args.version w keys named c.args.blocks.now.items c.loop-at.blocks.items c.push.new.self.items before c.loop-at.count c.loop-at.at c.args.first.now now mid new f seen window payload (inv.so_far keys are) stands one named_so put in
          subst (λ (n : ℕ). BlocksRead c.args.houses side c.args.version w keys c.behind-named.result.now c.args.blocks.now.items c.push.new.self.items c.or-before.result n c.args.first.now new f.to) (sym sum)
          (subst (λ (b : Option SortKey). BlocksRead c.args.houses side c.args.version w keys c.behind-named.result.now c.args.blocks.now.items c.push.new.self.items b (c.loop-at.count + seen.count) c.args.first.now new f.to) (sym c.or-before.ensures)
          (subst (λ (ns : List EntryKept). BlocksRead c.args.houses side c.args.version w keys ns c.args.blocks.now.items c.push.new.self.items (option_or seen.last before) (c.loop-at.count + seen.count) c.args.first.now new f.to) (sym c.behind-named.ensures) on));
      inside = stands.inside.ends;
    }

pub returns : goal.returns
returns c keys are =
    let w : Window = part_of c.args.window.bytes.now c.args.from c.args.window.to in
    blocks_done c.args.houses (beside c.args.around.now) c.args.version w keys c.loop-at.named.now c.args.blocks.now.items c.loop-at.blocks.items c.loop-at.before c.loop-at.count c.loop-at.at c.args.first.now c.loop-at.first c.ask_unnamed.new.first
    (record { ordered = c.loop-at.invariant.inside; within = c.args.window.within }) (omega arith) (c.loop-at.invariant.so_far keys are) (λ its there. c.ask_unnamed.ensures its c.args.window.bytes.now there)
