-- What is left of a table as its texts are passed.
use Rattle.std.proofs.Common.{◌≡◌, ℕ, ◌+◌, ◌≤◌, List, [], ◌∷◌, length, drop, get_or, Result, Ok, Err, Option, Some, None, slice_get, refl, sym, ap, subst, ◌∙◌, arith}
use Rattle.std.specs.Prelude.{slice_range, IsTrue, ◌↔◌, true}
use Rattle.std.specs.Str.{IsUtf8}
use Rattle.std.proofs.lemmas.List.{length-drop, drop-drop, get_or-drop}
use Rattle.std.proofs.lemmas.Option.{slice_get_read}
use Rattle.obf_wire.specs.declared.breaks.WireBreak.{WireBreak}
use Rattle.obf_wire.specs.declared.field.Field.{Field}
use Rattle.obf_wire.specs.Fields.{Window, IsNextField}
use Rattle.text_table.specs.Tables.{AreTexts, IsTexts, IsFront}
use Rattle.text_table.proofs.Spelled.{whole, first_field, is_next, payload_is, behind_is}

abbrev Text : Type 0
Text = List ℕ

-- ---- the first text

abbrev Answer : Type 0
Answer = Result (Option Field) WireBreak

-- the next field is what is answered
abbrev pub Answered : List ℕ → Answer → Type 0
Answered bytes r = (f : Field) → IsNextField (whole bytes) (10 ∷ []) f → r ≡ Ok (Some f)

pub answered : (bytes : List ℕ) (w : Window) (r : Answer) → w ≡ whole bytes → ((f : Field) → IsNextField w (10 ∷ []) f → r ≡ Ok (Some f)) → Answered bytes r
answered bytes w r same only = subst (λ (k : Window). (f : Field) → IsNextField k (10 ∷ []) f → r ≡ Ok (Some f)) same only

pub ended : (bytes : List ℕ) (w : Window) (r : Answer) → w ≡ whole bytes → ((r ≡ Ok None) ↔ ((w.place ≡ w.end) × IsTrue true)) → bytes ≡ [] → r ≡ Ok None
ended bytes w r same at_end_only e = at_end_only.1 (ap (λ (k : Window). k.place) same ∙ sym (ap length e) ∙ sym (ap (λ (k : Window). k.end) same), refl)

pub none_left : (bytes : List ℕ) (texts : List Text) (r : Answer) → Answered bytes r → ((f : Field) → r ≡ Ok (Some f) → ⊥) → AreTexts bytes texts → texts ≡ []
none_left bytes [] r only other a = refl
none_left bytes (t ∷ ts) r only other a = absurd (other (first_field t) (only (first_field t) (is_next bytes t ts a)))

pub err_other : (r : Answer) (b : WireBreak) → r ≡ Err b → (f : Field) → r ≡ Ok (Some f) → ⊥
err_other r b e f h = cc

pub none_other : (r : Answer) → r ≡ Ok None → (f : Field) → r ≡ Ok (Some f) → ⊥
none_other r e f h = cc

same_field : (bytes : List ℕ) (t : Text) (ts : List Text) (r : Answer) (f : Field) → Answered bytes r → r ≡ Ok (Some f) → AreTexts bytes (t ∷ ts) → first_field t ≡ f
same_field bytes t ts r f only got a =
    let one : r ≡ Ok (Some (first_field t)) = only (first_field t) (is_next bytes t ts a) in
    cc

at_end : (r : Answer) (f : Field) → (r ≡ Ok None) → r ≡ Ok (Some f) → ⊥
at_end r f e h = cc

-- a field that was found is the first text
pub front_of : (bytes : List ℕ) (texts : List Text) (r : Answer) (f : Field) (first : Text) → Answered bytes r → (bytes ≡ [] → r ≡ Ok None) → r ≡ Ok (Some f) → first ≡ slice_range bytes f.from f.to → AreTexts bytes texts → IsFront texts first (drop f.to bytes)
front_of bytes [] r f first only end got same a = at_end r f (end a.spelled) got
front_of bytes (t ∷ ts) r f first only end got same a =
    let field = same_field bytes t ts r f only got a in (
      same ∙ ap (λ (k : Field). slice_range bytes k.from k.to) (sym field) ∙ payload_is bytes t ts a,
      subst (λ (k : Field). AreTexts (drop k.to bytes) ts) field (behind_is bytes t ts a),
    )

-- its bytes are UTF-8
pub payload_utf8 : (bytes : List ℕ) (r : Answer) (f : Field) → Answered bytes r → (bytes ≡ [] → r ≡ Ok None) → r ≡ Ok (Some f) → IsTexts bytes → IsUtf8 (slice_range bytes f.from f.to)
payload_utf8 bytes r f only end got it = by_texts it.0 it.1
  where
    by_texts : (texts : List Text) → AreTexts bytes texts → IsUtf8 (slice_range bytes f.from f.to)
    by_texts [] a = absurd (at_end r f (end a.spelled) got)
    by_texts (t ∷ ts) a =
        let field = same_field bytes t ts r f only got a in
        subst IsUtf8 (sym (payload_is bytes t ts a) ∙ ap (λ (k : Field). slice_range bytes k.from k.to) field) a.table.each.0.utf8

-- ---- one text after another

-- so many texts are passed, and the others are left
abbrev pub Passed : List ℕ → List ℕ → ℕ → Type 0
Passed bytes rest k = (texts : List Text) → AreTexts bytes texts → AreTexts rest (drop k texts)

pub passed_none : (bytes : List ℕ) → Passed bytes bytes 0
passed_none bytes texts a = a

pub passed_texts : (bytes rest : List ℕ) (k : ℕ) → Passed bytes rest k → IsTexts bytes → IsTexts rest
passed_texts bytes rest k passed it = (drop k it.0, passed it.0 it.1)

pub past_end : (bytes rest : List ℕ) (k : ℕ) → Passed bytes rest k → ((us : List Text) → AreTexts rest us → us ≡ []) → (texts : List Text) → AreTexts bytes texts → length texts ≤ k
past_end bytes rest k passed none texts a = omega (arith, length-drop k texts, ap length (none (drop k texts) (passed texts a)))

front_is : (us : List Text) (first rest : List ℕ) → IsFront us first rest → (ts : List Text) × (us ≡ first ∷ ts) × AreTexts rest ts
front_is [] first rest front = absurd front
front_is (t ∷ ts) first rest front = (ts, ap (λ (u : Text). u ∷ ts) (sym front.0), front.1)

pub passed_more : (bytes rest first behind : List ℕ) (k : ℕ) → Passed bytes rest k → ((us : List Text) → AreTexts rest us → IsFront us first behind) → Passed bytes behind (k + 1)
passed_more bytes rest first behind k passed front texts a =
    let parts = front_is (drop k texts) first behind (front (drop k texts) (passed texts a)) in
    let same : parts.0 ≡ drop (k + 1) texts = sym (ap (drop 1) parts.1) ∙ drop-drop 1 k texts in
    subst (AreTexts behind) same parts.2

pub text_at : (bytes rest first behind : List ℕ) (k : ℕ) → Passed bytes rest k → ((us : List Text) → AreTexts rest us → IsFront us first behind) → (texts : List Text) → AreTexts bytes texts → slice_get texts k ≡ Some first
text_at bytes rest first behind k passed front texts a =
    let parts = front_is (drop k texts) first behind (front (drop k texts) (passed texts a)) in
    let here : first ≡ get_or (drop k texts) 0 first = sym (ap (λ (us : List Text). get_or us 0 first) parts.1) in
    let there : k + 0 ≡ k = omega arith in
    slice_get_read texts (length texts) k first refl (omega (arith, length-drop k texts, ap length parts.1)) (here ∙ get_or-drop k texts 0 first ∙ ap (λ (n : ℕ). get_or texts n first) there)

pub found_is : (r : Answer) (found field : Option Field) → r ≡ Ok found → found ≡ field → r ≡ Ok field
found_is r found field e same = e ∙ ap (λ (o : Option Field). answer o) same
  where
    answer : Option Field → Answer
    answer o = Ok o
