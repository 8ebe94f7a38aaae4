use Rattle.std.proofs.Common.{◌≡◌, ◌∙◌, ℕ, List, true, refl, sym, ap, subst}
use Rattle.std.specs.List.{list_all}
use Rattle.std.proofs.lemmas.Bool.{and_from}
use Rattle.file_grammar.specs.BoxRules.{Beside, is_ordinal}
use Rattle.file_grammar.specs.Files.{HeadNumbers, beside, is_head, rise_strictly, version_of}
use Rattle.obf_reader.specs.Heads.{IsHeadOf}
use Rattle.obf_reader.specs.Kept.{AreKept}
use Rattle.obf_reader.proofs.Asked.{beside_are}
use Rattle.obf_reader.proofs.Images.{IsSoundFile, some_rules, sound_file}
use Rattle.obf_reader.proofs.Checked.{all_records_kept}
use Rattle.obf_reader.proofs.image.Image.of.Goals as goal

pub invariant_of-result : goal.invariant_of-result
invariant_of-result c =
    let g = c.requires in
    let f : IsSoundFile c.args.bytes.items = sound_file c.args.bytes.items g.unbroken in
    let r = g.parts_are f.fields f.form in
    let s = f.sound r.parts r.are in
    let good = subst (λ (n : HeadNumbers). is_head n ≡ true) (sym r.read_are.head) s.head in
    let marks = r.read_are.marks.marks (and_from (rise_strictly r.parts.marks.value) (list_all is_ordinal r.parts.marks.value) s.rise s.ordinals) in
    let kept = subst (λ (b : Beside). AreKept b c.args.bytes.items c.args.parts.sections c.args.kept) (beside_are c.args.parts r.parts r.read_are) g.kept_is in
    record {
      marks = (subst (λ (ns : List ℕ). list_all is_ordinal ns ≡ true) (sym marks) s.ordinals, g.rising);
      unbroken = g.unbroken;
      holds = record {
        fields = f.fields;
        parts = r.parts;
        form = f.form;
        are = r.are;
        bytes_are = refl;
        version = c.of.ensures ∙ ap version_of c.deref.ensures.value;
        head = subst (λ (n : HeadNumbers). IsHeadOf n c.head_of.result) r.read_are.head (c.head_of.ensures good);
        rules = some_rules _ c.args.parts.rules.rules s.rules r.read_are.rules;
        marks = marks;
        sections = r.sections;
        inside = g.inside;
        kept = kept;
        records = all_records_kept (beside r.parts) c.args.bytes.items c.args.parts.sections c.args.kept r.parts kept r.sections;
      };
    }

pub returns : goal.returns
returns c = (invariant_of-result c).holds
