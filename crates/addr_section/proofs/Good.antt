-- What is kept of addresses is good.
use Rattle.std.proofs.Common.{◌≡◌, None, ap, ◌∙◌}
use Rattle.obf_wire.specs.Fields.{Window}
use Rattle.file_grammar.specs.declared.parts.Version.{Version}
use Rattle.file_grammar.specs.AddressRules.{addresses_facts, addresses_of}
use Rattle.file_grammar.specs.BoxRules.{Beside}
use Rattle.file_grammar.proofs.Earlier.{one_first_break_law}
use Rattle.boxed_exact.specs.Breaks.{form_then}
use Rattle.addr_section.specs.declared.kept.AddressesKept.{AddressesKept}
use Rattle.addr_section.specs.Breaks.{addresses_break, rules_break}
use Rattle.addr_section.specs.Kept.{AreAddressesKept}

-- addresses of which something is kept have no break
pub kept_good : (version : Version) (beside : Beside) (w : Window) (kept : AddressesKept) → AreAddressesKept version beside w kept → addresses_break version beside w ≡ None
kept_good version beside w kept k =
    ap (form_then (rules_break beside)) k.read ∙ (one_first_break_law (addresses_facts beside (addresses_of k.fields))).none.1 k.sound
