use Rattle.std.proofs.Common.{List, [], ◌∷◌, ◌++◌, map, ap, ◌∙◌}
use Rattle.std.proofs.lemmas.List.{map-append}
use Rattle.overlay_set.specs.Events.{reply_of}
use Rattle.overlay_set.specs.declared.events.Reply.{Reply}
use Rattle.live_core.proofs.running.play.Goals as goal

pub returns-in_err-reserve-clause-stands : goal.returns-in_err-reserve-clause-stands
returns-in_err-reserve-clause-stands c = c.stands.ensures.machine.stands

pub returns-clause-played : goal.returns-clause-played
returns-clause-played c = record {
  reply = reply_of c.in_ok-reply.reply;
  stepped = record { next = c.in_ok-reply.ensures.next; answered = c.in_ok-reply.ensures.reply };
  anew = c.in_ok-reply.ensures.rows;
  put = ap (λ (replies : List Reply). map reply_of replies) (c.push_reserved.ensures.items ∙ ap (λ (replies : List Reply). replies ++ c.in_ok-reply.reply ∷ []) c.reserve.ensures.items)
      ∙ map-append reply_of c.args.replies.now.items (c.in_ok-reply.reply ∷ []);
}
