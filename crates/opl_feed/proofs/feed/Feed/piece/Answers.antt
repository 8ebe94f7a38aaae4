use Rattle.std.proofs.Common.{◌++◌, ◌∙◌, sym, ap, subst}
use Rattle.opl_feed.specs.Feeds.{Fed, Holds, IsFedBy}
use Rattle.opl_feed.proofs.Feeding.{not_refused, refused_for, is_refused, is_held, piece_adds, piece_holds, piece_cause, still_refused, whole_cause, read_good}
use Rattle.opl_feed.proofs.feed.Feed.piece.Goals as goal

pub returns-in-Some-clause-broken : goal.returns-in-Some-clause-broken
returns-in-Some-clause-broken c = λ stream fed.
    still_refused stream c.args.bytes.now c.in-Some.e (refused_for stream c.args.self.now c.in-Some.e (sym (ap (λ f. f.refused) c.self.view_is) ∙ c.in-Some.is) fed)

pub returns-in-Some-clause-first : goal.returns-in-Some-clause-first
returns-in-Some-clause-first c = λ stream later fed.
    whole_cause (stream ++ c.args.bytes.now) later c.in-Some.e
    (still_refused stream c.args.bytes.now c.in-Some.e (refused_for stream c.args.self.now c.in-Some.e (sym (ap (λ f. f.refused) c.self.view_is) ∙ c.in-Some.is) fed))

pub returns-in-Some-clause-fed : goal.returns-in-Some-clause-fed
returns-in-Some-clause-fed c = λ stream fed.
    let is = sym (ap (λ f. f.refused) c.self.view_is) ∙ c.in-Some.is in
    is_refused _ c.args.self.now c.in-Some.e is (still_refused stream c.args.bytes.now c.in-Some.e (refused_for stream c.args.self.now c.in-Some.e is fed))

pub returns-in-Ok-clause-lines : goal.returns-in-Ok-clause-lines
returns-in-Ok-clause-lines c = λ stream fed.
    let old : Fed = record { at = c.self.inside.held.at; rows = c.self.inside.held.rows; begun = c.self.inside.held.begun.items; refused = c.self.inside.refused } in
    let holds : Holds stream old = not_refused stream old c.in_default.is (subst (IsFedBy stream) (sym c.self.view_is) fed) in
    piece_adds stream c.args.bytes.now old c.piece.new.self.rows c.args.lines.now.items c.piece.new.lines.items holds c.piece.ensures.few c.in-Ok.ensures.read

pub returns-in-Ok-clause-good : goal.returns-in-Ok-clause-good
returns-in-Ok-clause-good c = read_good _ _ _ _ _ c.in-Ok.ensures.read

pub returns-in-Ok-clause-fed : goal.returns-in-Ok-clause-fed
returns-in-Ok-clause-fed c = λ stream fed.
    let old : Fed = record { at = c.self.inside.held.at; rows = c.self.inside.held.rows; begun = c.self.inside.held.begun.items; refused = c.self.inside.refused } in
    let new : Fed = record { at = c.piece.new.self.at; rows = c.piece.new.self.rows; begun = c.piece.new.self.begun.items; refused = c.self.inside.refused } in
    let holds : Holds stream old = not_refused stream old c.in_default.is (subst (IsFedBy stream) (sym c.self.view_is) fed) in
    is_held _ new c.in_default.is
    (piece_holds stream c.args.bytes.now old new c.args.lines.now.items c.piece.new.lines.items holds c.in-Ok.ensures.read c.in-Ok.ensures.at c.in-Ok.ensures.begun)

pub returns-in-Err-clause-broken : goal.returns-in-Err-clause-broken
returns-in-Err-clause-broken c = λ stream fed.
    let old : Fed = record { at = c.self.inside.held.at; rows = c.self.inside.held.rows; begun = c.self.inside.held.begun.items; refused = c.self.inside.refused } in
    let holds : Holds stream old = not_refused stream old c.in_default.is (subst (IsFedBy stream) (sym c.self.view_is) fed) in
    piece_cause stream c.args.bytes.now old c.in-Err.e holds c.in-Err.ensures.broken

pub returns-in-Err-clause-first : goal.returns-in-Err-clause-first
returns-in-Err-clause-first c = λ stream later fed.
    let old : Fed = record { at = c.self.inside.held.at; rows = c.self.inside.held.rows; begun = c.self.inside.held.begun.items; refused = c.self.inside.refused } in
    let holds : Holds stream old = not_refused stream old c.in_default.is (subst (IsFedBy stream) (sym c.self.view_is) fed) in
    whole_cause (stream ++ c.args.bytes.now) later c.in-Err.e (piece_cause stream c.args.bytes.now old c.in-Err.e holds c.in-Err.ensures.broken)

pub returns-in-Err-clause-fed : goal.returns-in-Err-clause-fed
returns-in-Err-clause-fed c = λ stream fed.
    let old : Fed = record { at = c.self.inside.held.at; rows = c.self.inside.held.rows; begun = c.self.inside.held.begun.items; refused = c.self.inside.refused } in
    let holds : Holds stream old = not_refused stream old c.in_default.is (subst (IsFedBy stream) (sym c.self.view_is) fed) in
    piece_cause stream c.args.bytes.now old c.in-Err.e holds c.in-Err.ensures.broken
