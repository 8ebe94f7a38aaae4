use Rattle.std.proofs.Common.{◌∙◌}
use Rattle.addr_section.proofs.Steps.{last_is}
use Rattle.addr_section.proofs.writing.last_key.Goals as goal

pub returns-in-len1-up : goal.returns-in-len1-up
returns-in-len1-up c = c.as_bytes.ensures ∙ last_is c.last-item.result c.last-item.result c.args.keyed.now c.last-item.is c.in-len1-up.len_at_least c.requires
