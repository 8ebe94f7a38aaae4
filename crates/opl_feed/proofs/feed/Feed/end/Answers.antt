use Rattle.std.proofs.Common.{◌∙◌, sym, ap, subst}
use Rattle.opl_feed.specs.Feeds.{Fed, Holds, IsFedBy}
use Rattle.opl_feed.proofs.Feeding.{not_refused, refused_for, end_adds, end_unbroken, end_cause, end_refused, read_good}
use Rattle.opl_feed.proofs.feed.Feed.end.Goals as goal

pub returns-in-Some-clause-broken : goal.returns-in-Some-clause-broken
returns-in-Some-clause-broken c = λ stream fed.
    end_refused stream c.in-Some.e (refused_for stream c.args.self.now c.in-Some.e (sym (ap (λ f. f.refused) c.self.view_is) ∙ c.in-Some.is) fed)

pub returns-in-Ok-clause-lines : goal.returns-in-Ok-clause-lines
returns-in-Ok-clause-lines c = λ stream fed.
    let old : Fed = record { at = c.self.inside.held.at; rows = c.self.inside.held.rows; begun = c.self.inside.held.begun.items; refused = c.self.inside.refused } in
    let holds : Holds stream old = not_refused stream old c.in_default.is (subst (IsFedBy stream) (sym c.self.view_is) fed) in
    let read = c.in-Ok.ensures.read in
    end_adds stream old read.0 c.args.lines.now.items c.end.new.lines.items holds read.1 read.2

pub returns-in-Ok-clause-good : goal.returns-in-Ok-clause-good
returns-in-Ok-clause-good c = let read = c.in-Ok.ensures.read in read_good _ _ _ _ _ read.2

pub returns-in-Ok-clause-unbroken : goal.returns-in-Ok-clause-unbroken
returns-in-Ok-clause-unbroken c = λ stream fed.
    let old : Fed = record { at = c.self.inside.held.at; rows = c.self.inside.held.rows; begun = c.self.inside.held.begun.items; refused = c.self.inside.refused } in
    let holds : Holds stream old = not_refused stream old c.in_default.is (subst (IsFedBy stream) (sym c.self.view_is) fed) in
    let read = c.in-Ok.ensures.read in
    end_unbroken stream old read.0 c.args.lines.now.items c.end.new.lines.items holds read.2

pub returns-in-Err-clause-broken : goal.returns-in-Err-clause-broken
returns-in-Err-clause-broken c = λ stream fed.
    let old : Fed = record { at = c.self.inside.held.at; rows = c.self.inside.held.rows; begun = c.self.inside.held.begun.items; refused = c.self.inside.refused } in
    let holds : Holds stream old = not_refused stream old c.in_default.is (subst (IsFedBy stream) (sym c.self.view_is) fed) in
    end_cause stream old c.in-Err.e holds c.in-Err.ensures.broken
