use Rattle.std.proofs.Common.{◌≡◌, ◌++◌, sym, subst, OnOk}
use Rattle.overlay_set.specs.declared.events.Reply.{Reply}
use Rattle.overlay_set.specs.Events.{reply_of}
use Rattle.session_text.specs.Sessions.{reply_text}
use Rattle.session_text.proofs.replies.begin_reply.Goals as goal

pub returns-in-HistoryFull-clause-ok : goal.returns-in-HistoryFull-clause-ok
returns-in-HistoryFull-clause-ok c =
    subst (λ (r : Reply). OnOk c.begin_front-in-HistoryFull.result (c.begin_front-in-HistoryFull.new.out.items ≡ c.args.out.now.items ++ reply_text c.args.line (reply_of r)))
    (sym c.in-HistoryFull.is) c.begin_front-in-HistoryFull.ensures.ok

pub returns-in-FilesFull-clause-ok : goal.returns-in-FilesFull-clause-ok
returns-in-FilesFull-clause-ok c =
    subst (λ (r : Reply). OnOk c.begin_front-in-FilesFull.result (c.begin_front-in-FilesFull.new.out.items ≡ c.args.out.now.items ++ reply_text c.args.line (reply_of r)))
    (sym c.in-FilesFull.is) c.begin_front-in-FilesFull.ensures.ok
