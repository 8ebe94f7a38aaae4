-- Files that runs wrote are those of a history.
use Rattle.std.proofs.Common.{◌≡◌, ℕ, List, [], ◌∷◌, ◌++◌, Some, refl, sym, ap, subst, ◌∙◌}
use Rattle.std.specs.List.{AllByRecursion}
use Rattle.live_model.specs.declared.objects.Line.{Line}
use Rattle.live_model.specs.declared.rules.Rule.{Rule}
use Rattle.live_model.specs.Maps.{published}
use Rattle.live_model.specs.Objects.{IsGoodLine}
use Rattle.live_model.specs.OplTexts.{OplText, object_lines}
use Rattle.live_model.specs.Rules.{RuleText}
use Rattle.live_model.specs.Stores.{apply}
use Rattle.live_model.proofs.GoodLines.{lines_good}
use Rattle.live_model.proofs.TextReadings.{one_reading as one_text}
use Rattle.tag_rules.proofs.RuleLaw.{one_reading as one_table}
use Rattle.stamp_core.specs.Hours.{CivilHour}
use Rattle.obf_reader.specs.Images.{Seen}
use Rattle.run_model.specs.Jobs.{AreTexts, IsPacked, Outcome, Parts, base_parts, hour_parts}
use Rattle.map_history.specs.Written.{AreOfHistory, Change, IsFileOf, lines_of}
use Rattle.map_history.specs.Written as Written
use Rattle.run_history.specs.Shown.{texts_of}
use Rattle.run_history.specs.Written.{AreFilesOf, AreFilesOfChanges, AreWritten, IsFileOfBuild, IsFileOfChange}

-- ---- texts

-- texts spell one list of changes
one_list : (texts : List (List ℕ)) (a b : List (List Line)) → AreTexts texts a → AreTexts texts b → a ≡ b
one_list [] [] [] one other = refl
one_list [] [] (lines ∷ b) one other = absurd other
one_list [] (lines ∷ a) b one other = absurd one
one_list (text ∷ texts) [] b one other = absurd one
one_list (text ∷ texts) (lines ∷ a) [] one other = absurd other
one_list (text ∷ texts) (lines ∷ a) (more ∷ b) one other =
    let first : lines ≡ more = one_text text lines more one.0 other.0 in
    let rest : a ≡ b = one_list texts a b one.1 other.1 in
    λ i. first i ∷ rest i

-- the lists before the last item are one, and so are the last items
one_front : {A : Type 0} (xs ys : List A) (x y : A) → xs ++ x ∷ [] ≡ ys ++ y ∷ [] → (xs ≡ ys) × (x ≡ y)
one_front [] [] x y same = (refl, cc)
one_front [] (b ∷ []) x y same = absurd cc
one_front [] (b ∷ c ∷ ys) x y same = absurd cc
one_front (a ∷ []) [] x y same = absurd cc
one_front (a ∷ c ∷ xs) [] x y same = absurd cc
one_front (a ∷ xs) (b ∷ ys) x y same =
    let rest : xs ++ x ∷ [] ≡ ys ++ y ∷ [] = cc in
    let both = one_front xs ys x y rest in
    let first : a ≡ b = cc in
    ((λ i. first i ∷ both.0 i), both.1)

-- one text more
one_more : (texts : List (List ℕ)) (changes : List (List Line)) (text : List ℕ) (lines : List Line) → AreTexts texts changes → OplText text lines → AreTexts (texts ++ text ∷ []) (changes ++ lines ∷ [])
one_more [] [] text lines are is = (is, tt)
one_more [] (c ∷ cs) text lines are is = absurd are
one_more (t ∷ ts) [] text lines are is = absurd are
one_more (t ∷ ts) (c ∷ cs) text lines are is = (are.0, one_more ts cs text lines are.1 is)

text_good : (text : List ℕ) (lines : List Line) → OplText text lines → AllByRecursion IsGoodLine lines
text_good text lines t = lines_good (object_lines text) lines t.spelled

texts_good : (texts : List (List ℕ)) (changes : List (List Line)) → AreTexts texts changes → AllByRecursion (AllByRecursion IsGoodLine) changes
texts_good [] [] are = tt
texts_good [] (c ∷ cs) are = absurd are
texts_good (t ∷ ts) [] are = absurd are
texts_good (t ∷ ts) (c ∷ cs) are = (text_good t c are.0, texts_good ts cs are.1)

-- ---- files

-- what is written of parts is their file
packed_is : (parts : Parts) (outcome : Outcome) (bytes : List ℕ) → IsPacked parts outcome → outcome.written ≡ Some bytes → IsFileOf parts bytes
packed_is parts outcome bytes packed written =
    let both : Some packed.bytes ≡ Some bytes = sym (ap (λ (o : Outcome). o.written) packed.same) ∙ written in
    let same : packed.bytes ≡ bytes = cc in
    subst (IsFileOf parts) same packed.file

module _ (rules : List Rule) (base : List Line) (table text : List ℕ) (rules_spelled : RuleText table rules) (base_spelled : OplText text base) where
  build_is : (bytes : List ℕ) → IsFileOfBuild table text bytes → IsFileOf (base_parts rules (apply [] base)) bytes
  build_is bytes f =
      let b = f.built in
      let same : b.rules ≡ rules = one_table table b.rules rules b.spelled rules_spelled in
      let store : b.store ≡ apply [] base = b.made.same ∙ ap (λ (lines : List Line). apply [] lines) (one_text text b.made.lines base b.made.spelled base_spelled) in
      let file : IsFileOf (base_parts b.rules b.store) bytes = packed_is (base_parts b.rules b.store) f.outcome bytes b.packed f.written in
      subst (λ (p : Parts). IsFileOf p bytes) (λ k. base_parts (same k) (store k)) file

  change_is : (hour : CivilHour) (texts : List (List ℕ)) (earlier : List (List Line)) (last : List ℕ) (lines : List Line) (bytes : List ℕ) → AreTexts texts earlier → OplText last lines
      → IsFileOfChange hour table text (texts ++ last ∷ []) bytes → IsFileOf (hour_parts hour rules (published (apply [] base) earlier) lines) bytes
  change_is hour texts earlier last lines bytes are is f =
      let c = f.changed in
      let same : c.rules ≡ rules = one_table table c.rules rules c.spelled rules_spelled in
      let store : c.base ≡ apply [] base = c.made.same ∙ ap (λ (ls : List Line). apply [] ls) (one_text text c.made.lines base c.made.spelled base_spelled) in
      let all = one_list (texts ++ last ∷ []) (c.earlier ++ c.last ∷ []) (earlier ++ lines ∷ []) c.changes (one_more texts earlier last lines are is) in
      let both = one_front c.earlier earlier c.last lines all in
      let own : Parts = hour_parts hour c.rules (published c.base c.earlier) c.last in
      let file : IsFileOf own bytes = packed_is own f.outcome bytes c.packed f.written in
      subst (λ (p : Parts). IsFileOf p bytes) (λ k. hour_parts hour (same k) (published (store k) (both.0 k)) (both.1 k)) file

  changes_are : (texts : List (List ℕ)) (earlier : List (List Line)) → AreTexts texts earlier → (changes : List Change) (more files : List (List ℕ)) → AreTexts more (lines_of changes)
      → AreFilesOfChanges table text texts changes more files → Written.AreFilesOfChanges rules base earlier changes files
  changes_are texts earlier are [] [] [] spelled these = tt
  changes_are texts earlier are [] [] (b ∷ bs) spelled these = absurd these
  changes_are texts earlier are [] (t ∷ ts) files spelled these = absurd spelled
  changes_are texts earlier are (c ∷ cs) [] files spelled these = absurd spelled
  changes_are texts earlier are (c ∷ cs) (t ∷ ts) [] spelled these = absurd these
  changes_are texts earlier are (c ∷ cs) (t ∷ ts) (b ∷ bs) spelled these = (
    change_is c.hour texts earlier t c.lines b are spelled.0 these.0,
    changes_are (texts ++ t ∷ []) (earlier ++ c.lines ∷ []) (one_more texts earlier t c.lines are spelled.0) cs ts bs spelled.1 these.1,
  )

  files_are : (changes : List Change) (texts files : List (List ℕ)) → AreTexts texts (lines_of changes) → AreFilesOf table text changes texts files → Written.AreFilesOf rules base changes files
  files_are changes texts [] spelled these = these
  files_are changes texts (b ∷ bs) spelled these = (build_is b these.0, changes_are [] [] tt changes texts bs spelled these.1)

pub of_history : (rules : List Rule) (base : List Line) (changes : List Change) (images : List Seen) → AreWritten rules base changes (texts_of images) → AreOfHistory rules base changes images
of_history rules base changes images w = record {
  history = record {
    base_good = text_good w.text base w.base_spelled;
    good = texts_good w.texts (lines_of changes) w.changes_spelled;
    rising = w.rising;
  };
  files = files_are rules base w.table w.text w.rules_spelled w.base_spelled changes w.texts (texts_of images) w.changes_spelled w.files_are;
}
