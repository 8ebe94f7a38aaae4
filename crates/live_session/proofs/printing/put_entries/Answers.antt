use Rattle.std.proofs.Common.{◌+◌, ◌++◌, ◌∷◌, drop, map, sym, ap, ◌∙◌, append_assoc}
use Rattle.published_set.specs.Sets.{entry_of}
use Rattle.session_text.specs.Sessions.{entries_text, entry_text}
use Rattle.live_session.proofs.Played.{drop_at}
use Rattle.live_session.proofs.printing.put_entries.Goals as goal

pub loop-index-preserved : goal.loop-index-preserved
loop-index-preserved c =
    let i = c.loop-index.index in
    let all = map entry_of c.args.history.now in
    let out = c.loop-index.out.items in
    let h = c.index-history-index.result in
    let rest = entries_text (i + 1 + 1) (drop (i + 1) all) in
    let next = drop_at entry_of c.args.history.now i h c.loop-index-test.true ∙ ap (λ x. entry_of x ∷ drop (i + 1) all) (sym c.index-history-index.is) in
    c.loop-index.invariant ∙ ap (λ xs. out ++ entries_text (i + 1) xs) next
    ∙ sym (append_assoc out (entry_text (i + 1) (entry_of h)) rest) ∙ ap (λ t. t ++ rest) (sym c.in_ok-put_entry.ensures.ok)
