use Rattle.std.proofs.Common.{◌≡◌, length, sym, ap, subst, ◌∙◌, arith}
use Rattle.std.specs.List.{prefix_len}
use Rattle.std.proofs.lemmas.List.Sums.{prefix_len-le-length}
use Rattle.addr_read.specs.Searching.{AreRising, begins_by, ends_before}
use Rattle.addr_read.proofs.Search.{begun_where_ended, fewer}
use Rattle.addr_read.proofs.finding.due_spans.Goals as goal

pub count_ended-from-requires : goal.count_ended-from-requires
count_ended-from-requires c = subst (AreRising c.args.window.bytes.now) (sym c.entries.ensures) c.requires.rising

pub count_begun-to-requires : goal.count_begun-to-requires
count_begun-to-requires c = subst (AreRising c.args.window.bytes.now) (sym c.entries-2.ensures) c.requires.rising

pub part-requires-clause-ordered : goal.part-requires-clause-ordered
part-requires-clause-ordered c =
    let bytes = c.args.window.bytes.now in
    let es = c.args.list.now.entries.items in
    let p = ends_before bytes c.args.key.now in
    let q = begins_by bytes c.args.houses c.args.key.now in
    let from : c.count_ended-from.result ≡ prefix_len p es = c.count_ended-from.ensures ∙ ap (prefix_len p) c.entries.ensures in
    let to : c.count_begun-to.result ≡ prefix_len q es = c.count_begun-to.ensures ∙ ap (prefix_len q) c.entries-2.ensures in
    let less = fewer p q es (begun_where_ended bytes c.args.key.now c.args.houses es c.requires.rising) in
    omega (arith, from, to, less)

pub part-requires-clause-within : goal.part-requires-clause-within
part-requires-clause-within c =
    let bytes = c.args.window.bytes.now in
    let es = c.args.list.now.entries.items in
    let q = begins_by bytes c.args.houses c.args.key.now in
    let to : c.count_begun-to.result ≡ prefix_len q es = c.count_begun-to.ensures ∙ ap (prefix_len q) c.entries-2.ensures in
    let less = prefix_len-le-length q es in
    let spans : length c.blocks-2.result.now ≡ length c.args.list.now.blocks.items = ap length c.blocks-2.ensures in
    omega (arith, to, less, spans, c.requires.same)
