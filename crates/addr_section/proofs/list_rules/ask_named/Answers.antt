use Rattle.std.proofs.Common.{◌≡◌, ℕ, ◌+◌, Bool, List, [], ◌∷◌, ap, sym, ◌∙◌}
use Rattle.std.specs.Prelude.{◌&&◌, ◌==◌}
use Rattle.obf_wire.specs.declared.file.FileKind.TheVariants.{BadOrder, BadPlace}
use Rattle.file_grammar.specs.AddressRules.{first_of, has_key, last_of}
use Rattle.file_grammar.specs.Facts.{earlier, fact, failing}
use Rattle.file_grammar.proofs.Earlier.{and_last, and_one}
use Rattle.addr_section.proofs.list_rules.ask_named.Goals as goal

pub returns : goal.returns
returns c key it is at first last =
    let start = c.args.first.now in
    let mid = c.ask.new.self in
    let head : Bool = has_key key.first.value (first_of it.addresses) in
    let tail : Bool = has_key key.last.value (last_of it.addresses) in
    let keyed : c.has_keys-keyed.result ≡ (head && tail) =
    c.has_keys-keyed.ensures it first last ∙ ap (λ (t : List ℕ). has_key t (first_of it.addresses) && has_key c.text_at-2.result.now (last_of it.addresses)) (c.text_at.ensures is.first.inside ∙ is.first.is)
    ∙ ap (λ (t : List ℕ). head && has_key t (last_of it.addresses)) (c.text_at-2.ensures is.last.inside ∙ is.last.is) in
    let named = c.is_named-named.ensures ∙ ap (λ (p : ℕ). c.args.start + p == c.args.at) is.place.is ∙ ap (λ (a : ℕ). c.args.start + key.place.value == a) (sym at) in
    let one = c.ask.ensures ∙ ap (λ (b : Bool). earlier start (failing (fact c.args.entry.now.place.at BadPlace b))) named
    ∙ ap (λ (p : ℕ). earlier start (failing (fact p BadPlace (c.args.start + key.place.value == it.at)))) is.place.at_is in
    let two = c.ask-2.ensures ∙ ap (λ (b : Bool). earlier mid (failing (fact c.args.entry.now.at BadOrder b))) keyed ∙ ap (λ (p : ℕ). earlier mid (failing (fact p BadOrder (head && tail)))) is.at_is in
    and_one start mid c.ask-2.new.self (fact key.place.at BadPlace (c.args.start + key.place.value == it.at)) (fact key.at BadOrder (head && tail) ∷ []) one (and_last mid c.ask-2.new.self (fact key.at BadOrder (head && tail)) two)
