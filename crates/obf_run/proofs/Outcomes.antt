-- What was made of files that were read.
use Rattle.std.proofs.Common.{◌≡◌, ℕ, List, [], ◌∷◌, length, ap, refl, subst, ◌∙◌}
use Rattle.live_model.specs.declared.objects.Entity.{Entity}
use Rattle.live_model.specs.declared.points.Rect.{Rect}
use Rattle.live_model.specs.declared.rules.Rule.{Rule}
use Rattle.live_model.specs.CanonicalLines.{lines_text, nodes_in}
use Rattle.live_model.specs.Rules.{RuleText}
use Rattle.obf_reader.specs.Images.{IsImageFile, Seen}
use Rattle.std.specs.Prelude.{IfSome}
use Rattle.stamp_core.specs.Heads.{IsGoodHead}
use Rattle.stamp_core.specs.Hours.{IsCivilHour}
use Rattle.stamp_core.specs.declared.head.Head.{Head}
use Rattle.outside.specs.Files.{FilesState}
use Rattle.file_lines.specs.FileLines.{file_line}
use Rattle.run_model.specs.Inputs.{input, map_file, object_text, rule_table}
use Rattle.run_model.specs.Jobs.{IsChecked, IsPacked, IsStoreOf, Outcome, base_parts, prints, task_of}
use Rattle.run_model.specs.Reads.{HasRead}
use Rattle.run_model.specs.Requests.{build, check, dump, nodes}
use Rattle.run_model.specs.Runs.{WorksTo}

pub nodes_work : (before after : FilesState) (rect : Rect) (base : List ℕ) (store seen : List Entity) (answer : List ℕ)
    → HasRead before after (input base object_text) (λ text. IsStoreOf text store) → seen ≡ store → answer ≡ lines_text (nodes_in rect seen)
    → WorksTo before after (task_of (nodes rect base)) (prints answer)
nodes_work before after rect base store seen answer has same is = record {
  texts = has.text ∷ [];
  between = after;
  reads = (after, has.read, refl);
  follow = refl;
  outcome = prints answer;
  does = record { store = store; made = has.holds; same = ap (λ (text : List ℕ). prints text) (is ∙ ap (λ (s : List Entity). lines_text (nodes_in rect s)) same) };
  holds = (refl, refl);
}

pub dump_works : (before after : FilesState) (base : List ℕ) (store seen : List Entity) (answer : List ℕ)
    → HasRead before after (input base object_text) (λ text. IsStoreOf text store) → seen ≡ store → answer ≡ lines_text seen
    → WorksTo before after (task_of (dump base)) (prints answer)
dump_works before after base store seen answer has same is = record {
  texts = has.text ∷ [];
  between = after;
  reads = (after, has.read, refl);
  follow = refl;
  outcome = prints answer;
  does = record { store = store; made = has.holds; same = ap (λ (text : List ℕ). prints text) (is ∙ ap (λ (s : List Entity). lines_text s) same) };
  holds = (refl, refl);
}

pub check_works : (before after : FilesState) (file bytes answer : List ℕ) → HasRead before after (input file map_file) (λ text. bytes ≡ text)
    → IsChecked bytes (prints answer) → WorksTo before after (task_of (check file)) (prints answer)
check_works before after file bytes answer has checked = record {
  texts = has.text ∷ [];
  between = after;
  reads = (after, has.read, refl);
  follow = refl;
  outcome = prints answer;
  does = subst (λ (text : List ℕ). IsChecked text (prints answer)) has.holds checked;
  holds = (refl, refl);
}

pub build_works : (before between after : FilesState) (rules base output : List ℕ) (table : List Rule) (store : List Entity) (outcome : Outcome)
    → HasRead before between (input rules rule_table) (λ text. RuleText text table) → HasRead between after (input base object_text) (λ text. IsStoreOf text store)
    → IsPacked (base_parts table store) outcome → WorksTo before after (task_of (build rules base output)) outcome
build_works before between after rules base output table store outcome has_rules has_store packed = record {
  texts = has_rules.text ∷ has_store.text ∷ [];
  between = after;
  reads = (between, has_rules.read, (after, has_store.read, refl));
  follow = refl;
  outcome = outcome;
  does = record { rules = table; spelled = has_rules.holds; store = store; made = has_store.holds; packed = packed };
  holds = (refl, refl);
}

-- the hours of a head, where it has any, are hours of the calendar
abbrev AreCivil : Head → Type 0
AreCivil head = IfSome head.first IsCivilHour × IfSome head.last IsCivilHour

-- the line of an image tells the file that its bytes are
pub image_checked : (image : Seen) (head : Head) (marks records : ℕ) (line : List ℕ) → IsImageFile image → IsGoodHead image.head → head ≡ image.head
    → AreCivil head → marks ≡ length image.marks → records ≡ image.records → line ≡ file_line head marks records → IsChecked image.bytes (prints line)
image_checked image head marks records line file good same_head civil same_marks same_records is = record {
  version = image.version;
  head = image.head;
  good = good;
  civil = subst (λ (h : Head). AreCivil h) same_head civil;
  rules = image.rules;
  marks = image.marks;
  records = file.records;
  file = file.file;
  same = ap (λ (text : List ℕ). prints text) (is ∙ ap (λ (h : Head). file_line h marks records) same_head ∙ ap (λ (n : ℕ). file_line image.head n records) same_marks
      ∙ ap (λ (n : ℕ). file_line image.head (length image.marks) n) (same_records ∙ file.count));
}
