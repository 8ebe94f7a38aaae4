use Rattle.std.proofs.Common.{ℕ, List, Option, ap, sym, subst, ◌∙◌}
use Rattle.obf_wire.specs.declared.file.FileBreak.{FileBreak}
use Rattle.obf_wire.specs.Windows.{range_of}
use Rattle.file_grammar.specs.AddressRules.{addresses_of, keyed_facts}
use Rattle.file_grammar.specs.Facts.{earlier, first_failing}
use Rattle.std.specs.Prelude.{false}
use Rattle.boxed_exact.specs.Sides.{beside}
use Rattle.addr_section.specs.Kept.{IsListKept}
use Rattle.addr_section.proofs.Whole.{all_kept, form_is, rules_asked, rules_broken}
use Rattle.addr_section.proofs.exact.check_rules.Goals as goal

pub returns-in-None-clause-kept : goal.returns-in-None-clause-kept
returns-in-None-clause-kept c =
    let version = c.args.version in
    let side = beside c.args.around.now in
    let w = range_of c.args.window in
    let f = form_is version w c.requires.form in
    let all = addresses_of f.0 in
    let lists = c.in_ok-names.ensures f.0 f.1 in
    let one = c.in_ok-named.ensures all.names (subst (λ (bytes : List ℕ). IsListKept version bytes c.in_ok-names.field-0.names all.names) (sym c.all-bytes.ensures) lists.names_are) in
    let two = c.in_ok-housed.ensures all.houses (subst (λ (bytes : List ℕ). IsListKept version bytes c.in_ok-names.field-0.houses all.houses) (sym c.all-bytes.ensures) lists.houses_are) in
    let broken = rules_asked version side w f.0 f.1 c.check_list.new.first c.check_list-2.new.first (one.0 ∙ ap (λ (start : Option FileBreak). earlier start (first_failing (keyed_facts false side all.names))) c.none-first.ensures) two.0 in
    all_kept version side w f.0 f.1 (record { names = c.in_ok-names.field-0.names; houses = c.in_ok-names.field-0.houses; records = c.in-Some.records }) c.in_ok-named.named c.in_ok-housed.housed (c.in-None.ensures ∙ broken) lists one.1 two.1 c.in-Some.ensures.1

pub returns-in-Some-found-clause-broken : goal.returns-in-Some-found-clause-broken
returns-in-Some-found-clause-broken c =
    let version = c.args.version in
    let side = beside c.args.around.now in
    let w = range_of c.args.window in
    let f = form_is version w c.requires.form in
    let all = addresses_of f.0 in
    let lists = c.in_ok-names.ensures f.0 f.1 in
    let one = c.in_ok-named.ensures all.names (subst (λ (bytes : List ℕ). IsListKept version bytes c.in_ok-names.field-0.names all.names) (sym c.all-bytes.ensures) lists.names_are) in
    let two = c.in_ok-housed.ensures all.houses (subst (λ (bytes : List ℕ). IsListKept version bytes c.in_ok-names.field-0.houses all.houses) (sym c.all-bytes.ensures) lists.houses_are) in
    let broken = rules_asked version side w f.0 f.1 c.check_list.new.first c.check_list-2.new.first (one.0 ∙ ap (λ (start : Option FileBreak). earlier start (first_failing (keyed_facts false side all.names))) c.none-first.ensures) two.0 in
    sym (rules_broken version side w f.0 f.1) ∙ sym broken ∙ sym c.in-Some-found.ensures
