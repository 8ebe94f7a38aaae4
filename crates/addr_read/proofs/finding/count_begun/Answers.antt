use Rattle.std.proofs.Common.{rules}
use Rattle.std.proofs.lemmas.List.Sorted.{IsPartitionPoint-from_clause}
use Rattle.addr_read.specs.Searching.{begins_by}
use Rattle.addr_read.proofs.Search.{begun_at_front, parted, place_is}
use Rattle.addr_read.proofs.finding.count_begun.Goals as goal

pub returns : goal.returns
returns c =
    let entries = c.args.entries.now in
    let n = c.partition_point.result in
    let point = IsPartitionPoint-from_clause (begins_by c.args.window.bytes.now c.args.houses c.args.key.now) entries n c.partition_point.ensures.partitioned (parted (begins_by c.args.window.bytes.now c.args.houses c.args.key.now) entries (begun_at_front c.args.window.bytes.now c.args.key.now c.args.houses c.args.entries.now c.requires)) (λ a r q h. search rules) in
    place_is (begins_by c.args.window.bytes.now c.args.houses c.args.key.now) entries n c.partition_point.ensures.bound point.0 point.1
