use Rattle.std.proofs.Common.{◌≡◌, [], sym, subst, IfOk}
use Rattle.ordered_lists.proofs.PutAll.{put_all-rising, rising-put_all}
use Rattle.layer_table.specs.Layers.{IsMap, key_of}
use Rattle.layer_table.proofs.layer.Layer.from_changes.Goals as goal

pub returns-then-is_rising : goal.returns-then-is_rising
returns-then-is_rising g c =
    let rising : IsMap g.K.Ord.cmp c.args.changes.items = subst (IsMap g.K.Ord.cmp) c.deref.ensures.value (c.is_rising.ensures.0 c.if-is_rising.true) in
    subst (λ xs. IfOk c.split.result (λ l. l ≡ xs)) (sym (put_all-rising g.K.Ord.cmp key_of g.met.K.Ord.total c.args.changes.items rising)) c.split.ensures

pub split-requires-2 : goal.split-requires-2
split-requires-2 g c = subst (IsMap g.K.Ord.cmp) (sym c.in_ok-in_order.ensures) (rising-put_all g.K.Ord.cmp key_of g.met.K.Ord.total [] c.args.changes.items tt)
