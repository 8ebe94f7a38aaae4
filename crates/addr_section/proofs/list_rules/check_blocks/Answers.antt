use Rattle.std.proofs.Common.{◌≡◌, ◌+◌, ℕ, List, Option, sym, subst, rules}
use Rattle.std.specs.Option.{option_or}
use Rattle.file_grammar.specs.AddressRules.{Address, KeyEntry, KeyedBlock}
use Rattle.boxed_exact.specs.declared.fields.Payload.{Payload}
use Rattle.boxed_exact.specs.Sides.{beside}
use Rattle.addr_section.specs.declared.addresses.SortKey.{SortKey}
use Rattle.addr_section.specs.declared.kept.EntryKept.{EntryKept}
use Rattle.addr_section.specs.Asked.{IsPairAsked}
use Rattle.addr_section.specs.Kept.{AreEntriesKept, IsBlockKept}
use Rattle.addr_section.specs.Seen.{IsSortKeyOf}
use Rattle.addr_section.proofs.ListAsking.{BlocksLeft, blocks_all, blocks_begin, blocks_on}
use Rattle.addr_section.proofs.list_rules.check_blocks.Goals as goal

pub loop-span-init : goal.loop-span-init
loop-span-init c = record {
  left = λ keys its ke bl. blocks_begin c.args.houses (beside c.args.around.now) c.args.version c.args.bytes.now keys its c.args.entries.now c.args.blocks.now c.args.first.now ke bl;
}

pub loop-span-preserved : goal.loop-span-preserved
loop-span-preserved c =
    let side = beside c.args.around.now in
    let bytes : List ℕ = c.args.bytes.now in
    let from = c.args.first.now in
    let now = c.loop-span.first in
    let new = c.check_block.new.first in
    let seen = c.in_ok-seen.seen in
    let span = c.in-Some.span.now in
    let named = c.loop-span.named.now in
    let before = c.loop-span.before in
    let sum : c.in-Some-checked_add.sum ≡ c.loop-span.count + seen.count = search rules in
    record {
      left = λ keys its ke bl.
          let l = subst (λ (xs : List Payload). BlocksLeft c.args.houses side c.args.version bytes keys its named xs before c.loop-span.count from now) c.in-Some.ensures.cases.0 (c.loop-span.invariant.left keys its ke bl) in
          let one = subst (λ (start : ℕ). (ks : List KeyEntry) (it : KeyedBlock) (prev : Option Address) → AreEntriesKept bytes named ks → IsBlockKept c.args.version bytes span it → IsSortKeyOf before prev → IsPairAsked c.args.houses side start ks prev it now new seen)
          (c.first_at-start.ensures c.args.version bytes its bl) c.in_ok-seen.ensures in
          let on = blocks_on c.args.houses side c.args.version bytes keys its named span c.in-Some.after.now before c.loop-span.count from now new seen l one in
          subst (λ (n : ℕ). BlocksLeft c.args.houses side c.args.version bytes keys its c.behind-named.result.now c.in-Some.after.now c.or-before.result n from new) (sym sum)
          (subst (λ (b : Option SortKey). BlocksLeft c.args.houses side c.args.version bytes keys its c.behind-named.result.now c.in-Some.after.now b (c.loop-span.count + seen.count) from new) (sym c.or-before.ensures)
          (subst (λ (ns : List EntryKept). BlocksLeft c.args.houses side c.args.version bytes keys its ns c.in-Some.after.now (option_or seen.last before) (c.loop-span.count + seen.count) from new) (sym c.behind-named.ensures) on));
    }

pub returns : goal.returns
returns c keys its ke bl =
    blocks_all c.args.houses (beside c.args.around.now) c.args.version c.args.bytes.now keys its c.loop-span.named.now c.loop-span.rest.now c.loop-span.before c.loop-span.count c.args.first.now c.loop-span.first c.ask_unnamed.new.first
    c.in_default.ensures.cases (c.loop-span.invariant.left keys its ke bl) (λ xs are. c.ask_unnamed.ensures xs c.args.bytes.now are)
