-- A text line by line: what was spelled so far, and where it breaks.
use Rattle.std.proofs.Common.{◌≡◌, ℕ, ◌+◌, ◌<◌, List, [], ◌∷◌, ◌++◌, true, false, cond, Option, Some, None, refl, sym, ap, ◌∙◌, append_assoc, subst, arith, length, length-append, ◌≤◌}
use Rattle.std.specs.Prelude.{is_some, is_none}
use Rattle.std.specs.List.{AllByRecursion}
use Rattle.std.specs.Option.{option_map, option_or}
use Rattle.std.proofs.lemmas.Bool.{le-leb, lt-leb}
use Rattle.std.proofs.lemmas.List.{append-nil}
use Rattle.live_model.specs.declared.rules.Rule.{Rule}
use Rattle.live_model.specs.declared.rules.RuleBreak.{RuleBreak}
use Rattle.live_model.specs.declared.rules.RuleKind.{RuleKind}
use Rattle.live_model.specs.declared.rules.RuleKind.TheVariants.{OverLimit}
use Rattle.live_model.specs.FieldValues.{prepended}
use Rattle.live_model.specs.OplTexts.{is_skipped, object_lines_in}
use Rattle.live_model.specs.Rules.{IsRule, RuleText, rule_of, rule_break, rule_lines, spelled_rules, break_at, break_from, rules_break}
use Rattle.live_model.proofs.CanonicalBytes.{all_append}
use Rattle.tag_rules.specs.declared.errors.RuleError.{RuleError}
use Rattle.tag_rules.specs.declared.errors.RuleError.TheVariants.{NoMemory, Broken}
use Rattle.tag_rules.specs.Readings.{IsCause, IsCauseAt, IsRead}
use Rattle.tag_rules.proofs.RuleLaw.{break_law}

-- these rules and those of the lines that are left
abbrev pub behind : List Rule → Option (List Rule) → Option (List Rule)
behind rules None = None
behind rules (Some more) = Some (rules ++ more)

-- a line that is skipped
pub skipped : (row : ℕ × List ℕ) (rows : List (ℕ × List ℕ)) → is_skipped row.1 ≡ true → object_lines_in (row ∷ rows) ≡ object_lines_in rows
skipped row rows e = rw e refl

-- a rule line
pub rule_first : (row : ℕ × List ℕ) (rows : List (ℕ × List ℕ)) → is_skipped row.1 ≡ false → object_lines_in (row ∷ rows) ≡ row ∷ object_lines_in rows
rule_first row rows e = rw e refl

-- one more rule is spelled
spelled_more : (rules : List Rule) (rule : Rule) (row : ℕ × List ℕ) (rows : List (ℕ × List ℕ)) → rule_of row.1 ≡ Some rule
    → behind rules (spelled_rules (row ∷ rows)) ≡ behind (rules ++ rule ∷ []) (spelled_rules rows)
spelled_more rules rule row rows e = ap (λ l. behind rules (prepended l (spelled_rules rows))) e ∙ one (spelled_rules rows)
  where
    one : (o : Option (List Rule)) → behind rules (prepended (Some rule) o) ≡ behind (rules ++ rule ∷ []) o
    one None = refl
    one (Some more) = ap Some (sym (append_assoc rules (rule ∷ []) more))

no_break : (row : List ℕ) (rule : Rule) → rule_of row ≡ Some rule → rule_break row ≡ None
no_break row rule e = one (rule_break row) (break_law row ∙ ap is_some e)
  where
    one : (o : Option (ℕ × RuleKind)) → is_none o ≡ true → o ≡ None
    one None e = refl
    one (Some x) e = absurd (cc)

-- no break in a line that is spelled
unbroken_row : (n : ℕ) (rule : Rule) (row : ℕ × List ℕ) (rows : List (ℕ × List ℕ)) → n < 100000 → rule_of row.1 ≡ Some rule
    → break_from n (row ∷ rows) ≡ break_from (n + 1) rows
unbroken_row n rule row rows few e =
    let over : ℕ × RuleKind = (0, OverLimit) in
    ap (λ b. option_or (option_map (break_at row.0) (cond b (Some over) (rule_break row.1))) (break_from (n + 1) rows)) (lt-leb 100000 n few)
    ∙ ap (λ o. option_or (option_map (break_at row.0) o) (break_from (n + 1) rows)) (no_break row.1 rule e)

-- the break of the first line that is left is that of the text
pub broken_row : (bytes : List ℕ) (n at : ℕ) (line : List ℕ) (rows : List (ℕ × List ℕ)) (e : RuleError) → break_from n ((at, line) ∷ rows) ≡ rules_break bytes → IsCauseAt n at line e → IsCause bytes e
broken_row bytes n at line rows NoMemory is cause = tt
broken_row bytes n at line rows (Broken b) is cause =
    sym is
    ∙ ap (λ o. option_or (option_map (break_at at) o) (break_from (n + 1) rows)) cause.1
    ∙ ap (λ k. Some (record { at = k; kind = b.kind })) (sym cause.2)

-- the 100,001st rule line
pub row_over : (n at : ℕ) (line : List ℕ) (e : RuleError) → n ≡ 100000 → e ≡ Broken (record { at = at; kind = OverLimit }) → IsCauseAt n at line e
row_over n at line e many is =
    subst (IsCauseAt n at line) (sym is) (0, ap (λ b. cond b (Some (0, OverLimit)) (rule_break line)) (le-leb 100000 n (omega arith)), omega arith)

-- the break of a line that is not over the limit
pub row_broken : (n at : ℕ) (line : List ℕ) (e : RuleError) (b : RuleBreak) → n < 100000 → e ≡ Broken (record { at = at + b.at; kind = b.kind }) → rule_break line ≡ Some (b.at, b.kind) → IsCauseAt n at line e
row_broken n at line e b few is broken =
    subst (IsCauseAt n at line) (sym is) (b.at, ap (λ t. cond t (Some (0, OverLimit)) (rule_break line)) (lt-leb 100000 n few) ∙ broken, refl)

-- what is kept from line to line: what these rules and the rows that are left spell is what all rows spell, and so is the first break
pub record Kept (all : List (ℕ × List ℕ)) (rules : List Rule) (rows : List (ℕ × List ℕ)) : Type 0 where
  pub spelled : behind rules (spelled_rules (object_lines_in rows)) ≡ spelled_rules all
  pub unbroken : break_from (length rules) (object_lines_in rows) ≡ break_from 0 all
  pub good : AllByRecursion IsRule rules
  pub few : length rules ≤ 100000

-- one row more that spells a rule
pub kept_read : (all : List (ℕ × List ℕ)) (rules new : List Rule) (rule : Rule) (row : ℕ × List ℕ) (rows : List (ℕ × List ℕ)) → is_skipped row.1 ≡ false → IsRead row.1 rule
    → new ≡ rules ++ rule ∷ [] → length rules < 100000 → Kept all rules (row ∷ rows) → Kept all new rows
kept_read all rules new rule row rows kept read pushed few k =
    let more = rule_first row rows kept in
    let long : length new ≡ length rules + 1 = ap length pushed ∙ length-append rules (rule ∷ []) in record {
      spelled = ap (λ xs. behind xs (spelled_rules (object_lines_in rows))) pushed ∙ sym (spelled_more rules rule row (object_lines_in rows) read.spelled) ∙ sym (ap (λ rs. behind rules (spelled_rules rs)) more) ∙ k.spelled;
      unbroken = ap (λ n. break_from n (object_lines_in rows)) long ∙ sym (unbroken_row (length rules) rule row (object_lines_in rows) few read.spelled) ∙ sym (ap (break_from (length rules)) more) ∙ k.unbroken;
      good = subst (AllByRecursion IsRule) (sym pushed) (all_append IsRule rules (rule ∷ []) k.good (read.good, tt));
      few = omega arith;
    }

-- one row more that is no rule line
pub kept_skipped : (all : List (ℕ × List ℕ)) (rules new : List Rule) (row : ℕ × List ℕ) (rows : List (ℕ × List ℕ)) → is_skipped row.1 ≡ true → new ≡ rules → Kept all rules (row ∷ rows) → Kept all new rows
kept_skipped all rules new row rows e same k =
    let fewer = skipped row rows e in
    subst (λ (xs : List Rule). Kept all xs rows) (sym same) (record {
      spelled = sym (ap (λ rs. behind rules (spelled_rules rs)) fewer) ∙ k.spelled;
      unbroken = sym (ap (break_from (length rules)) fewer) ∙ k.unbroken;
      good = k.good;
      few = k.few;
    })

-- no row is left
pub kept_all : (bytes : List ℕ) (rules : List Rule) (rows : List (ℕ × List ℕ)) → rows ≡ [] → Kept (rule_lines bytes) rules rows → RuleText bytes rules
kept_all bytes rules rows none k = record {
  spelled = sym k.spelled ∙ ap (λ rs. behind rules (spelled_rules (object_lines_in rs))) none ∙ ap Some (append-nil rules);
  within = k.few;
}
