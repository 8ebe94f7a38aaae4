-- Files that were read and are good, and files at which a run ends.
use Rattle.std.proofs.Common.{◌≡◌, ℕ, List, [], Option, None, ap, arith, inl, inr, refl, subst}
use Rattle.std.specs.Option.{option_map}
use Rattle.live_model.specs.declared.objects.Entity.{Entity}
use Rattle.live_model.specs.declared.objects.Line.{Line}
use Rattle.live_model.specs.declared.opl.OplBreak.{OplBreak}
use Rattle.live_model.specs.declared.rules.Rule.{Rule}
use Rattle.live_model.specs.declared.rules.RuleBreak.{RuleBreak}
use Rattle.live_model.specs.OplTexts.{OplText}
use Rattle.live_model.specs.Rules.{RuleText}
use Rattle.live_model.specs.Stores.{apply}
use Rattle.live_model.proofs.TextReadings.{read_has_none as lines_have_none}
use Rattle.tag_rules.proofs.RuleLaw.{read_has_none as rules_have_none}
use Rattle.line_texts.specs.Forms.{IsText}
use Rattle.line_texts.proofs.Exactness.{read_has_none as steps_have_none}
use Rattle.script_text.specs.declared.breaks.ScriptKind.{ScriptKind}
use Rattle.script_text.specs.declared.steps.Step.{Step}
use Rattle.script_text.specs.Scripts.{script_form}
use Rattle.script_text.specs.StepLaw.{steps_are_exact}
use Rattle.outside.specs.Files.{FilesState, OnlyReads}
use Rattle.outside.specs.Whole.{Explains, IsWhole, ReadsPart}
use Rattle.outside.specs.declared.whole.WholeError.{WholeError}
use Rattle.outside.specs.declared.whole.WholeError.TheVariants as error
use Rattle.run_model.specs.declared.breaks.Break.TheVariants.{InRules, InObjects, InScript}
use Rattle.run_model.specs.Inputs.{Grammar, Input, input, rule_table, object_text, script_text, break_in}
use Rattle.run_model.specs.Jobs.{IsStoreOf}
use Rattle.run_model.specs.Reads.{EndsAt, HasRead, limit}
use Rattle.obf_run.specs.Finishing.{unread}

-- a text of rules, seen as the same bytes
pub rules_read : (before after : FilesState) (name text seen : List ℕ) (rules : List Rule) → IsWhole before after name limit text → OnlyReads before after
    → seen ≡ text → RuleText seen rules → HasRead before after (input name rule_table) (λ t. RuleText t rules)
rules_read before after name text seen rules whole only same spelled =
    let spelled : RuleText text rules = subst (λ (t : List ℕ). RuleText t rules) same spelled in
    let good : break_in rule_table text ≡ None = ap (λ (b : Option RuleBreak). option_map (λ (b : RuleBreak). InRules b) b) (rules_have_none text rules spelled) in
    record { text = text; read = record { whole = whole; good = good; only = only }; holds = spelled }

-- a text of objects, seen as the same bytes
pub lines_read : (before after : FilesState) (name text seen : List ℕ) (lines : List Line) → IsWhole before after name limit text → OnlyReads before after
    → seen ≡ text → OplText seen lines → HasRead before after (input name object_text) (λ t. OplText t lines)
lines_read before after name text seen lines whole only same spelled =
    let spelled : OplText text lines = subst (λ (t : List ℕ). OplText t lines) same spelled in
    let good : break_in object_text text ≡ None = ap (λ (b : Option OplBreak). option_map (λ (b : OplBreak). InObjects b) b) (lines_have_none text lines spelled) in
    record { text = text; read = record { whole = whole; good = good; only = only }; holds = spelled }

-- a script, seen as the same bytes
pub steps_read : (before after : FilesState) (name text seen : List ℕ) (steps : List Step) → IsWhole before after name limit text → OnlyReads before after
    → seen ≡ text → IsText script_form seen steps → HasRead before after (input name script_text) (λ t. IsText script_form t steps)
steps_read before after name text seen steps whole only same spelled =
    let spelled : IsText script_form text steps = subst (λ (t : List ℕ). IsText script_form t steps) same spelled in
    let good : break_in script_text text ≡ None =
    ap (λ (b : Option (ℕ × ScriptKind)). option_map (λ (b : ℕ × ScriptKind). InScript (record { at = b.0; kind = b.1 })) b) (steps_have_none script_form steps_are_exact text steps spelled) in
    record { text = text; read = record { whole = whole; good = good; only = only }; holds = spelled }

-- and the store that its lines make
pub store_read : (before after : FilesState) (name : List ℕ) (lines : List Line) (store : List Entity) → HasRead before after (input name object_text) (λ t. OplText t lines)
    → store ≡ apply [] lines → HasRead before after (input name object_text) (λ t. IsStoreOf t store)
store_read before after name lines store has same = record { text = has.text; read = has.read; holds = record { lines = lines; spelled = has.holds; same = same } }

-- a file that was read whole was read as far as its end
pub whole_part : (before after : FilesState) (name bytes : List ℕ) → IsWhole before after name limit bytes → ReadsPart before after name limit
whole_part before after name bytes whole = record { bytes = bytes; gave = inr whole.gave; count = let within = whole.within in omega (arith, within) }

-- and one whose text holds a fact
pub read_part : (before after : FilesState) (file : Input) (P : List ℕ → Type 0) → HasRead before after file P → ReadsPart before after file.name limit
read_part before after file P has = whole_part before after file.name has.text has.read.whole

-- a file that was not read whole ends the run for the stated cause
pub unread_ends : (before after : FilesState) (name : List ℕ) (grammar : Grammar) (e : WholeError) → Explains before after name limit e
    → EndsAt (input name grammar) before after (unread name e)
unread_ends before after name grammar error.NoMemory why = record { bytes = why.bytes; gave = inl why.gave; count = let within = why.count in omega (arith, within) }
unread_ends before after name grammar error.Failed why = (refl, why)
unread_ends before after name grammar error.OverLimit why = (refl, why)
