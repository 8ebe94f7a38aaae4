use Rattle.std.proofs.Common.{◌≡◌, ◌++◌, take}
use Rattle.live_model.specs.RowTexts.{rows_text}
use Rattle.session_text.proofs.replies.begin_each.Given as goal

-- the lines of those before the index are put
abbrev pub invariant-loop-row : goal.invariant-loop-row
invariant-loop-row l = l.out.items ≡ l.initial.out.items ++ rows_text (take l.row-index l.rows)
