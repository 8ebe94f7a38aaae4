use Rattle.std.proofs.Common.{◌≡◌, ℕ, List, Bool, true, false, refl, sym, ap, ◌∙◌}
use Rattle.std.specs.Prelude.{◌&&◌, ◌||◌, not}
use Rattle.std.specs.Str.{bytes_eq, is_utf8}
use Rattle.name_fold.specs.Keys.{key}
use Rattle.tag_rules.proofs.Texts.{seen_other, seen_text}
use Rattle.addr_section.proofs.address_rules.is_key.Goals as goal

-- the name is no text
other_name : (a b : Bool) → a ≡ (a && (b || true))
other_name true true = refl
other_name true false = refl
other_name false b = refl

-- it is one
named_so : (a b : Bool) → (a && b) ≡ (a && (b || false))
named_so true true = refl
named_so true false = refl
named_so false b = refl

not_text : (a : Bool) → a ≡ false → not a ≡ true
not_text a e = rw e refl

is_text : (a : Bool) → a ≡ true → not a ≡ false
is_text a e = rw e refl

pub returns-in_default : goal.returns-in_default
returns-in_default c =
    let text = c.args.text.now in
    let name = c.args.name.now in
    c.is_utf8.ensures ∙ other_name (is_utf8 text) (bytes_eq text (key name))
    ∙ ap (λ (b : Bool). is_utf8 text && (bytes_eq text (key name) || b)) (sym (not_text (is_utf8 name) (seen_other name c.in_default.ensures.cases.0)))

pub returns-then-is_utf8 : goal.returns-then-is_utf8
returns-then-is_utf8 c =
    let text = c.args.text.now in
    let name = c.args.name.now in
    let is : c.in_ok-named.named ≡ bytes_eq text (key name) = c.in_ok-named.ensures ∙ ap (λ (bytes : List ℕ). bytes_eq text (key bytes)) c.in-Ok.ensures.cases.0 in
    is ∙ ap (λ (b : Bool). b && bytes_eq text (key name)) (sym (sym c.is_utf8-2.ensures ∙ c.if-is_utf8.true)) ∙ named_so (is_utf8 text) (bytes_eq text (key name))
    ∙ ap (λ (b : Bool). is_utf8 text && (bytes_eq text (key name) || b)) (sym (is_text (is_utf8 name) (seen_text name c.in-Ok.ensures.cases.1)))
