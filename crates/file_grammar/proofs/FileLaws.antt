-- Just a file has no break, and a file has its parts once.
use Rattle.std.proofs.Common.{◌≡◌, ℕ, true, List, Option, Some, None, Result, Ok, Err, refl, sym, ap, ◌∙◌}
use Rattle.std.specs.Prelude.{is_some}
use Rattle.live_model.specs.declared.records.Rec.{Rec}
use Rattle.live_model.specs.declared.rules.Rule.{Rule}
use Rattle.obf_wire.specs.declared.file.FileBreak.{FileBreak}
use Rattle.file_grammar.specs.declared.parts.Version.{Version}
use Rattle.file_grammar.specs.declared.parts.Part.TheVariants.{File}
use Rattle.file_grammar.specs.Facts.{AllHold, first_failing}
use Rattle.file_grammar.specs.Files.{FileLaw, FileParts, HeadNumbers, IsFile, IsSomeFile, OnePartsLaw, PartsLaw, break_in_file, facts_in, file_break, file_facts, file_in, file_records, rules_in, version_of, whole}
use Rattle.file_grammar.specs.Messages.{Fields}
use Rattle.file_grammar.specs.Readings.{IsInMemory, message_at}
use Rattle.file_grammar.proofs.Earlier.{one_first_break_law}
use Rattle.file_grammar.proofs.FileShape.{file_version, read_has_parts}
use Rattle.file_grammar.proofs.ReadIsSpelled.{read_is_spelled}
use Rattle.file_grammar.proofs.SpelledIsRead.{spelled_is_read}

pub parts_law : PartsLaw
parts_law bytes version fields memory m = read_has_parts version bytes fields (spelled_is_read fields (File version) None (whole bytes) memory m.form m.spelled)

the_some : {A : Type 0} (o : Option A) → is_some o ≡ true → (x : A) × (o ≡ Some x)
the_some (Some x) e = (x, refl)
the_some None e = absurd cc

pub read_of : (r : Result Fields FileBreak) → break_in_file r ≡ None → (fields : Fields) × (r ≡ Ok fields)
read_of (Ok fields) e = (fields, refl)
read_of (Err b) e = absurd cc

has_rules : (parts : FileParts) → AllHold (file_facts parts) → is_some (rules_in parts.rules.value) ≡ true
unfolding file_facts
has_rules parts all = all.1.0

some_file : (bytes : List ℕ) → IsInMemory (whole bytes) → file_break bytes ≡ None → IsSomeFile bytes
some_file bytes memory none =
    let version = version_of bytes in
    let read = read_of (message_at (File version) (whole bytes)) none in
    let form = read_is_spelled (File version) None (whole bytes) read.0 memory read.1 in
    let parts = the_some (file_in read.0) (read_has_parts version bytes read.0 read.1) in
    let fails : first_failing (file_facts parts.0) ≡ None = ap (λ (o : Option FileParts). first_failing (facts_in o)) (sym parts.1) ∙ ap break_in_file (sym read.1) ∙ none in
    let all = (one_first_break_law (file_facts parts.0)).none.0 fails in
    let rules = the_some (rules_in parts.0.rules.value) (has_rules parts.0 all) in
    record {
      version = version;
      head = parts.0.head.value;
      rules = rules.0;
      marks = parts.0.marks.value;
      records = file_records parts.0;
      file = record {
        fields = read.0;
        parts = parts.0;
        form = record { form = form.form; spelled = form.spelled };
        parts_are = parts.1;
        sound = all;
        head_is = refl;
        rules_are = rules.1;
        marks_are = refl;
        records_are = refl;
      };
    }

module _ (bytes : List ℕ) (version : Version) (head : HeadNumbers) (rules : List Rule) (marks : List ℕ) (records : List Rec) (memory : IsInMemory (whole bytes)) (f : IsFile bytes version head rules marks records) where
  -- the bytes of a file begin with its version
  its_version : version_of bytes ≡ version
  its_version = file_version version bytes f.fields f.form

  -- the fields of a file are those that its bytes are read to
  fields_read : message_at (File (version_of bytes)) (whole bytes) ≡ Ok f.fields
  fields_read =
      ap (λ (v : Version). message_at (File v) (whole bytes)) its_version
      ∙ spelled_is_read f.fields (File version) None (whole bytes) memory f.form.form f.form.spelled

  no_break : file_break bytes ≡ None
  no_break =
      ap break_in_file fields_read
      ∙ ap (λ (o : Option FileParts). first_failing (facts_in o)) f.parts_are
      ∙ (one_first_break_law (file_facts f.parts)).none.1 f.sound

pub file_law : FileLaw
file_law bytes memory = (λ none. some_file bytes memory none, λ s. no_break bytes s.version s.head s.rules s.marks s.records memory s.file)

same_fields : (a b : Fields) (r : Result Fields FileBreak) → r ≡ Ok a → r ≡ Ok b → a ≡ b
same_fields a b r e f = cc

same_some : {A : Type 0} (a b : A) (o : Option A) → o ≡ Some a → o ≡ Some b → a ≡ b
same_some a b o e f = cc

pub one_parts_law : OnePartsLaw
one_parts_law bytes version other_version head other_head rules other_rules marks other_marks records other_records memory f g =
    let fields : f.fields ≡ g.fields =
    same_fields f.fields g.fields (message_at (File (version_of bytes)) (whole bytes)) (fields_read bytes version head rules marks records memory f)
    (fields_read bytes other_version other_head other_rules other_marks other_records memory g) in
    let parts : f.parts ≡ g.parts = same_some f.parts g.parts (file_in f.fields) f.parts_are (ap file_in fields ∙ g.parts_are) in (
      sym (its_version bytes version head rules marks records memory f) ∙ its_version bytes other_version other_head other_rules other_marks other_records memory g,
      f.head_is ∙ ap (λ (p : FileParts). p.head.value) parts ∙ sym g.head_is,
      same_some rules other_rules (rules_in f.parts.rules.value) f.rules_are (ap (λ (p : FileParts). rules_in p.rules.value) parts ∙ g.rules_are),
      f.marks_are ∙ ap (λ (p : FileParts). p.marks.value) parts ∙ sym g.marks_are,
      f.records_are ∙ ap file_records parts ∙ sym g.records_are,
    )
