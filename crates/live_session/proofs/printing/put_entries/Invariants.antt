use Rattle.std.proofs.Common.{◌≡◌, ◌+◌, ◌++◌, drop, map}
use Rattle.published_set.specs.Sets.{entry_of}
use Rattle.session_text.specs.Sessions.{entries_text}
use Rattle.live_session.proofs.printing.put_entries.Given as goal

-- the lines put so far, with those of the other publications, are those of all
abbrev pub invariant-loop-index : goal.invariant-loop-index
invariant-loop-index l =
    l.initial.out.items ++ entries_text 1 (map entry_of l.history) ≡ l.out.items ++ entries_text (l.index + 1) (drop l.index (map entry_of l.history))
