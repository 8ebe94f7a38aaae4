-- What is asked of the parts of a file, as what has to hold of them.
use Rattle.std.proofs.Common.{◌≡◌, ℕ, Bool, true, false, List, [], ◌∷◌, Option, Some, None, refl, ap, ◌∙◌}
use Rattle.std.specs.Prelude.{◌==◌, ◌&&◌, ◌||◌, not, if◌then◌else◌, unwrap_or}
use Rattle.std.specs.List.{list_all}
use Rattle.obf_wire.specs.declared.file.FileBreak.{FileBreak}
use Rattle.obf_wire.specs.declared.file.FileKind.{FileKind}
use Rattle.live_model.specs.declared.rules.Rule.{Rule}
use Rattle.file_grammar.specs.BoxRules.{Beside, is_ordinal}
use Rattle.file_grammar.specs.Facts.{Fact, fact, failing, earlier, first_failing}
use Rattle.file_grammar.specs.Files.{FileParts, HeadNumbers, beside, file_facts, marks_beside, rise_strictly, rules_in, sections_facts}
use Rattle.file_grammar.proofs.Earlier.{and_one, and_last, first_joined}
use Rattle.obf_reader.specs.declared.parts.PartsRead.{PartsRead}
use Rattle.obf_reader.specs.Parts.{AreParts, beside_of, marks_of, own_facts}

-- one fact was asked, as it stands and as it is read
pub asked_as : (start new : Option FileBreak) (a at : ℕ) (kind : FileKind) (b holds : Bool) → new ≡ earlier start (failing (fact a kind b)) → a ≡ at → b ≡ holds → new ≡ earlier start (failing (fact at kind holds))
asked_as start new a at kind b holds e f g =
    e ∙ ap (λ (n : ℕ). earlier start (failing (fact n kind b))) f ∙ ap (λ (h : Bool). earlier start (failing (fact at kind h))) g

-- six facts were asked one after another
pub six_asked : (start a b c d e new : Option FileBreak) (f g h i j k : Fact) → start ≡ None → a ≡ earlier start (failing f) → b ≡ earlier a (failing g) → c ≡ earlier b (failing h) → d ≡ earlier c (failing i)
    → e ≡ earlier d (failing j) → new ≡ earlier e (failing k) → new ≡ first_failing (f ∷ g ∷ h ∷ i ∷ j ∷ k ∷ [])
six_asked start a b c d e new f g h i j k none p q r s t u =
    and_one start a new f (g ∷ h ∷ i ∷ j ∷ k ∷ []) p
    (and_one a b new g (h ∷ i ∷ j ∷ k ∷ []) q (and_one b c new h (i ∷ j ∷ k ∷ []) r (and_one c d new i (j ∷ k ∷ []) s (and_one d e new j (k ∷ []) t (and_last e new k u)))))
    ∙ ap (λ (o : Option FileBreak). earlier o (first_failing (f ∷ g ∷ h ∷ i ∷ j ∷ k ∷ []))) none

abbrev marks_if : Bool → Bool → List ℕ → Option (List ℕ)
marks_if base good marks = if base || not good then None else Some marks

same_marks : (base good : Bool) (xs ys : List ℕ) → (good ≡ true → xs ≡ ys) → marks_if base good xs ≡ marks_if base good ys
same_marks true good xs ys e = refl
same_marks false false xs ys e = refl
same_marks false true xs ys e = ap (λ (marks : List ℕ). marks_if false true marks) (e refl)

abbrev good_marks : List ℕ → Bool
good_marks marks = rise_strictly marks && list_all is_ordinal marks

marks_are : (read : PartsRead) (parts : FileParts) → AreParts read parts → marks_of read ≡ marks_beside parts.head.value.level parts.marks.value
marks_are read parts a =
    ap (λ (h : HeadNumbers). marks_if (h.level == 0) (read.marks.rise && read.marks.ordinals) read.marks.marks.items) a.head
    ∙ ap (λ (b : Bool). marks_if (parts.head.value.level == 0) (b && read.marks.ordinals) read.marks.marks.items) a.marks.rise
    ∙ ap (λ (b : Bool). marks_if (parts.head.value.level == 0) (rise_strictly parts.marks.value && b) read.marks.marks.items) a.marks.ordinals
    ∙ same_marks (parts.head.value.level == 0) (good_marks parts.marks.value) read.marks.marks.items parts.marks.value a.marks.marks

abbrev beside_with : List Rule → Option (List ℕ) → Beside
beside_with rules marks = record { rules = rules; marks = marks }

-- beside the sections stands what was read
pub beside_are : (read : PartsRead) (parts : FileParts) → AreParts read parts → beside_of read ≡ beside parts
beside_are read parts a =
    ap (λ (rules : List Rule). beside_with rules (marks_of read)) a.rules
    ∙ ap (λ (marks : Option (List ℕ)). beside_with (unwrap_or (rules_in parts.rules.value) []) marks) (marks_are read parts a)

-- what fails first of a file: of the parts, or of the sections
pub first_of_both : (parts : FileParts) → first_failing (file_facts parts) ≡ earlier (first_failing (own_facts parts)) (first_failing (sections_facts (beside parts) parts))
unfolding file_facts
first_of_both parts = first_joined (own_facts parts) (sections_facts (beside parts) parts)
