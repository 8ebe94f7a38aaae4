-- The fields that are left of a message of good form: none at its end, or the next one and those behind it.
use Rattle.std.proofs.Common.{◌≡◌, ℕ, length, Option, Some, None, Result, Ok, Err, refl, sym, ap, ◌∙◌, inl, inr, subst}
use Rattle.std.specs.Prelude.{MatchOption, IfOk, ◌==◌, ◌%◌}
use Rattle.obf_wire.specs.declared.breaks.WireBreak.{WireBreak}
use Rattle.obf_wire.specs.declared.field.Field.{Field}
use Rattle.obf_wire.specs.declared.file.FileBreak.{FileBreak}
use Rattle.obf_wire.specs.Fields.{Window, behind}
use Rattle.file_grammar.specs.declared.parts.Part.{Part}
use Rattle.file_grammar.specs.declared.parts.Content.{Content}
use Rattle.file_grammar.specs.declared.parts.Content.TheVariants.{Number, Version, Bytes, Numbers, Message}
use Rattle.file_grammar.specs.Tables.{group_size, version_number, content_of}
use Rattle.file_grammar.specs.Messages.{Fields, ends}
use Rattle.file_grammar.specs.Readings.{◌>>=◌, of_file, payload_of, numbers_at, groups_at, in_groups, filled, continued, message_from, message_at}
use Rattle.file_grammar.specs.Walks.{IsTurn, Standing, left_in, IsNext, ComesNext}
use Rattle.file_grammar.proofs.Inside.{chosen}
use Rattle.file_grammar.proofs.Fuel.{turn}

parted : {A B : Type 0} (r : Result A FileBreak) (f : A → Result B FileBreak) (y : B) → (r >>= f) ≡ Ok y → (x : A) × (r ≡ Ok x) × (f x ≡ Ok y)
parted (Ok x) f y e = (x, refl, e)
parted (Err b) f y e = absurd cc

abbrev held_ok : (Fields → Fields) → Result (Fields → Fields) FileBreak
held_ok f = Ok f

ok_is : (f g : Fields → Fields) → held_ok f ≡ held_ok g → f ≡ g
ok_is f g e = cc

abbrev fields_ok : Fields → Result Fields FileBreak
fields_ok fields = Ok fields

same_fields : (a b : Fields) → fields_ok a ≡ fields_ok b → a ≡ b
same_fields a b e = cc

abbrev behind_of : Part → Window → Field → Standing
behind_of part w f = record { part = part; last = Some f.key; window = behind w (Some f) }

abbrev standing : Part → Option ℕ → Window → Standing
standing part last w = record { part = part; last = last; window = w }

-- the field with what it holds, by what its row says
held_is : (part : Part) (last : Option ℕ) (w : Window) (f : Field) (content : Option Content) (held : Fields → Fields) (rest : Fields)
    → content_of part f.key ≡ content → filled message_at w.bytes f content ≡ Ok held → left_in (behind_of part w f) ≡ Ok rest → IsNext (standing part last w) (behind_of part w f) f (held rest)
held_is part last w f None held rest is e left = absurd cc
held_is part last w f (Some Number) held rest is e left = subst (λ (h : Fields → Fields). IsNext (standing part last w) (behind_of part w f) f (h rest)) (ok_is _ held e) (refl, refl, refl, left)
held_is part last w f (Some (Version version)) held rest is e left =
    elim (chosen (f.value == version_number version) _ _ (Ok held) e) [
      | inl c ↦ subst (λ (h : Fields → Fields). IsNext (standing part last w) (behind_of part w f) f (h rest)) (ok_is _ held c.1) (refl, refl, refl, left)
      | inr c ↦ absurd cc
    ]
held_is part last w f (Some Bytes) held rest is e left = subst (λ (h : Fields → Fields). IsNext (standing part last w) (behind_of part w f) f (h rest)) (ok_is _ held e) (refl, refl, refl, left)
held_is part last w f (Some (Numbers group)) held rest is e left =
    let ns = parted (groups_at group (payload_of w.bytes f)) _ held e in
    let all = parted (numbers_at (payload_of w.bytes f)) (in_groups group (payload_of w.bytes f)) ns.0 ns.1 in
    elim (chosen (length all.0 % group_size group == 0) _ _ (Ok ns.0) all.2) [
      | inl c ↦ subst (λ (h : Fields → Fields). IsNext (standing part last w) (behind_of part w f) f (h rest)) (ok_is _ held ns.2) (refl, refl, all.1 ∙ c.1, left)
      | inr c ↦ absurd cc
    ]
held_is part last w f (Some (Message inner)) held rest is e left =
    let m = parted (message_at inner (payload_of w.bytes f)) _ held e in
    subst (λ (h : Fields → Fields). IsNext (standing part last w) (behind_of part w f) f (h rest)) (ok_is _ held m.2) (refl, refl, record { part = inner; content = is; read = m.1 }, left)

-- what is left by what came next
next_is : (part : Part) (last : Option ℕ) (w : Window) (fields : Fields) (x : Option Field) → continued message_from part w x ≡ Ok fields
    → MatchOption x (fields ≡ ends) (λ f. IsNext (standing part last w) (behind_of part w f) f fields)
next_is part last w fields None e = sym (same_fields ends fields e)
next_is part last w fields (Some f) e =
    let held = parted (filled message_at w.bytes f (content_of part f.key)) _ fields e in
    let rest = parted (message_from part (Some f.key) (behind w (Some f))) _ fields held.2 in
    subst (IsNext (standing part last w) (behind_of part w f) f) (same_fields (held.0 rest.0) fields rest.2)
    (held_is part last w f (content_of part f.key) held.0 rest.0 refl held.1 rest.1)

wire_ok : Option Field → Result (Option Field) WireBreak
wire_ok x = Ok x

pub left_next : (part : Part) (last : Option ℕ) (w : Window) (x : Option Field) (fields : Fields) → IsTurn part last w (Ok x) → message_from part last w ≡ Ok fields
    → MatchOption x (fields ≡ ends) (λ f. IsNext (standing part last w) (behind_of part w f) f fields)
left_next part last w x fields t e =
    next_is part last w fields x (ap (λ (r : Result (Option Field) WireBreak). of_file r >>= continued message_from part w) t.read ∙ sym (turn part last w t.window) ∙ e)

-- where the next field breaks, nothing is left that has form
pub left_none : (part : Part) (last : Option ℕ) (w : Window) (b : WireBreak) (fields : Fields) → IsTurn part last w (Err b) → message_from part last w ≡ Ok fields → ⊥
left_none part last w b fields t e =
    let f : (of_file (Err b) >>= continued message_from part w) ≡ Ok fields = ap (λ (r : Result (Option Field) WireBreak). of_file r >>= continued message_from part w) t.read ∙ sym (turn part last w t.window) ∙ e in absurd cc

-- the same of where a walk then stands
moved_on : (part : Part) (last : Option ℕ) (w next : Window) (x : Option Field) → next ≡ behind w x → IsTurn part last w (Ok x) → ComesNext part last w next x
moved_on part last w next None m t fields e = left_next part last w None fields t e
moved_on part last w next (Some f) m t fields e =
    subst (λ (v : Window). IsNext (standing part last w) (record { part = part; last = Some f.key; window = v }) f fields) (sym m) (left_next part last w (Some f) fields t e)

pub comes_next : (part : Part) (last : Option ℕ) (w next : Window) (r : Result (Option Field) WireBreak) (x : Option Field) → IsTurn part last w r
    → IfOk r (λ found. next ≡ behind w found) → r ≡ Ok x → ComesNext part last w next x
comes_next part last w next r x t m is =
    moved_on part last w next x (subst (λ (r : Result (Option Field) WireBreak). IfOk r (λ found. next ≡ behind w found)) is m) (subst (IsTurn part last w) is t)
