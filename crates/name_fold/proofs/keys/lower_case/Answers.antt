use Rattle.std.proofs.Common.{◌∙◌}
use Rattle.name_fold.proofs.AsciiKeys.{lower_is_key}
use Rattle.name_fold.proofs.keys.lower_case.Goals as goal

pub returns : goal.returns
returns c = c.from_string.ensures ∙ c.in_ok-to_ascii_lowercase.ensures.ok ∙ lower_is_key c.args.name.now c.requires
