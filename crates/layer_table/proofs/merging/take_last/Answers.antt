use Rattle.std.proofs.Common.{◌≡◌, ◌∙◌, sym}
use Rattle.std.specs.declared.cmp.Ordering.TheVariants.{Less, Equal, Greater}
use Rattle.layer_table.specs.Layers.{compared_keys}
use Rattle.layer_table.proofs.Joining.{taken_newer, taken_older, taken_both, both_empty, rising_left, end_of}
use Rattle.layer_table.proofs.merging.take_last.Goals as goal

pub returns-in-Less-clause-last : goal.returns-in-Less-clause-last
returns-in-Less-clause-last g c =
    let less : compared_keys g.K.Ord.cmp (end_of c.args.older.now.changes) (end_of c.args.newer.now.changes) ≡ Less = (λ i. compared_keys g.K.Ord.cmp (sym c.last_key.ensures i) (sym c.last_key-2.ensures i)) ∙ sym c.compare.ensures ∙ c.in-Less.is in
    taken_newer g.K.Ord.cmp g.met.K.Ord.total c.args.older.now.changes c.args.newer.now.changes c.pop.new.self.changes c.pop.result c.requires.older c.requires.newer c.pop.ensures.changes less

pub returns-in-Less-clause-newer : goal.returns-in-Less-clause-newer
returns-in-Less-clause-newer g c = rising_left g.K.Ord.cmp g.met.K.Ord.total c.args.newer.now.changes c.pop.new.self.changes _ c.requires.newer c.pop.ensures.changes

pub returns-in-Less-clause-older_none : goal.returns-in-Less-clause-older_none
returns-in-Less-clause-older_none g c =
    both_empty g.K.Ord.cmp g.met.K.Ord.total c.args.older.now.changes c.args.newer.now.changes c.pop.result c.pop.ensures.none ((λ i. compared_keys g.K.Ord.cmp (sym c.last_key.ensures i) (sym c.last_key-2.ensures i)) ∙ sym c.compare.ensures ∙ c.in-Less.is)

pub returns-in-Equal-clause-last : goal.returns-in-Equal-clause-last
returns-in-Equal-clause-last g c =
    let tie : compared_keys g.K.Ord.cmp (end_of c.args.older.now.changes) (end_of c.args.newer.now.changes) ≡ Equal = (λ i. compared_keys g.K.Ord.cmp (sym c.last_key.ensures i) (sym c.last_key-2.ensures i)) ∙ sym c.compare.ensures ∙ c.in-Equal.is in
    taken_both g.K.Ord.cmp g.met.K.Ord.total c.args.older.now.changes c.args.newer.now.changes c.pop-in-Equal.new.self.changes c.pop-in-Equal-2.new.self.changes c.pop-in-Equal.result c.pop-in-Equal-2.result c.requires.older c.requires.newer c.pop-in-Equal.ensures.changes c.pop-in-Equal-2.ensures.changes c.pop-in-Equal.ensures.none c.pop-in-Equal-2.ensures.none tie

pub returns-in-Equal-clause-older : goal.returns-in-Equal-clause-older
returns-in-Equal-clause-older g c = rising_left g.K.Ord.cmp g.met.K.Ord.total c.args.older.now.changes c.pop-in-Equal.new.self.changes _ c.requires.older c.pop-in-Equal.ensures.changes

pub returns-in-Equal-clause-newer : goal.returns-in-Equal-clause-newer
returns-in-Equal-clause-newer g c = rising_left g.K.Ord.cmp g.met.K.Ord.total c.args.newer.now.changes c.pop-in-Equal-2.new.self.changes _ c.requires.newer c.pop-in-Equal-2.ensures.changes

pub returns-in-Greater-clause-last : goal.returns-in-Greater-clause-last
returns-in-Greater-clause-last g c =
    let more : compared_keys g.K.Ord.cmp (end_of c.args.older.now.changes) (end_of c.args.newer.now.changes) ≡ Greater = (λ i. compared_keys g.K.Ord.cmp (sym c.last_key.ensures i) (sym c.last_key-2.ensures i)) ∙ sym c.compare.ensures ∙ c.in-Greater.is in
    taken_older g.K.Ord.cmp g.met.K.Ord.total c.args.older.now.changes c.args.newer.now.changes c.pop-in-Greater.new.self.changes c.pop-in-Greater.result c.requires.older c.requires.newer c.pop-in-Greater.ensures.changes more

pub returns-in-Greater-clause-older : goal.returns-in-Greater-clause-older
returns-in-Greater-clause-older g c = rising_left g.K.Ord.cmp g.met.K.Ord.total c.args.older.now.changes c.pop-in-Greater.new.self.changes _ c.requires.older c.pop-in-Greater.ensures.changes
