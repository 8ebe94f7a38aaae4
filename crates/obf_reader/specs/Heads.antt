-- The numbers of a head.
use Rattle.std.specs.Prelude.{◌≡◌}
use Rattle.stamp_core.specs.declared.head.Head.{Head}
use Rattle.stamp_core.specs.Heads.{IsGoodHead}
use Rattle.file_grammar.specs.Files.{HeadNumbers, head_numbers}

-- the head has these numbers, and its hours fit its level
abbrev pub IsHeadOf : HeadNumbers → Head → Type 0
IsHeadOf numbers head = (head_numbers head ≡ numbers) × IsGoodHead head
