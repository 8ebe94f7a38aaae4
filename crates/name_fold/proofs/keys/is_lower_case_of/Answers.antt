use Rattle.std.proofs.Common.{ap, List, map, ℕ, ◌∙◌}
use Rattle.std.specs.Char.{to_ascii_lowercase}
use Rattle.std.specs.Str.{bytes_eq}
use Rattle.name_fold.proofs.AsciiKeys.{lower_is_key}
use Rattle.name_fold.proofs.keys.is_lower_case_of.Goals as goal

pub returns : goal.returns
returns c =
    c.is_in_lower_case.ensures
    ∙ ap (bytes_eq c.args.text.now) (ap (λ (bytes : List ℕ). map to_ascii_lowercase bytes) c.as_bytes.ensures.value ∙ lower_is_key c.args.name.now c.requires)
