-- What a verb with an output makes of given texts is one outcome.
use Rattle.std.proofs.Common.{◌≡◌, ℕ, List, [], ◌∷◌, ◌++◌, ap, refl, sym, subst, ◌∙◌}
use Rattle.live_model.specs.declared.objects.Entity.{Entity}
use Rattle.live_model.specs.declared.objects.Line.{Line}
use Rattle.live_model.specs.declared.rules.Rule.{Rule}
use Rattle.live_model.specs.Maps.{published}
use Rattle.live_model.specs.Stores.{apply}
use Rattle.stamp_core.specs.Hours.{CivilHour}
use Rattle.live_model.proofs.TextReadings.{one_reading as one_text}
use Rattle.tag_rules.proofs.RuleLaw.{one_reading as one_table}
use Rattle.run_model.specs.MapFiles.{map_files_in}
use Rattle.run_model.specs.Requests.{nodes, dump, build, change_map, fold_files, ask_files, check, replay_script, level_of}
use Rattle.run_model.specs.Jobs.{AreTexts, IsBuilt, IsChanged, IsPacked, IsStoreOf, OneOutcomeLaw, Outcome, Parts, base_parts, fold_parts, hour_parts}

one_store : (text : List ℕ) (a b : List Entity) → IsStoreOf text a → IsStoreOf text b → a ≡ b
one_store text a b one other = one.same ∙ (ap (λ (lines : List Line). apply [] lines) (one_text text one.lines other.lines one.spelled other.spelled) ∙ sym other.same)

one_packed : (parts : Parts) (a b : Outcome) → IsPacked parts a → IsPacked parts b → a ≡ b
one_packed parts a b one other = let p = one.file.packed in let q = other.file.packed in let r = one.same in let s = other.same in cc

one_built : (table text : List ℕ) (a b : Outcome) → IsBuilt table text a → IsBuilt table text b → a ≡ b
one_built table text a b one other =
    let rules : one.rules ≡ other.rules = one_table table one.rules other.rules one.spelled other.spelled in
    let store : one.store ≡ other.store = one_store text one.store other.store one.made other.made in
    let parts : base_parts one.rules one.store ≡ base_parts other.rules other.store =
    ap (λ (r : List Rule). base_parts r one.store) rules ∙ ap (λ (s : List Entity). base_parts other.rules s) store in
    one_packed (base_parts other.rules other.store) a b (subst (λ (p : Parts). IsPacked p a) parts one.packed) other.packed

-- texts spell one list of changes
one_list : (texts : List (List ℕ)) (a b : List (List Line)) → AreTexts texts a → AreTexts texts b → a ≡ b
one_list [] [] [] one other = refl
one_list [] [] (lines ∷ b) one other = absurd other
one_list [] (lines ∷ a) b one other = absurd one
one_list (text ∷ texts) [] b one other = absurd one
one_list (text ∷ texts) (lines ∷ a) [] one other = absurd other
one_list (text ∷ texts) (lines ∷ a) (more ∷ b) one other =
    let first : lines ≡ more = one_text text lines more one.0 other.0 in
    let rest : a ≡ b = one_list texts a b one.1 other.1 in
    λ i. first i ∷ rest i

-- the lists before the last item are one, and so are the last items
one_front : {A : Type 0} (xs ys : List A) (x y : A) → xs ++ x ∷ [] ≡ ys ++ y ∷ [] → (xs ≡ ys) × (x ≡ y)
one_front [] [] x y same = (refl, cc)
one_front [] (b ∷ []) x y same = absurd cc
one_front [] (b ∷ c ∷ ys) x y same = absurd cc
one_front (a ∷ []) [] x y same = absurd cc
one_front (a ∷ c ∷ xs) [] x y same = absurd cc
one_front (a ∷ xs) (b ∷ ys) x y same =
    let rest : xs ++ x ∷ [] ≡ ys ++ y ∷ [] = cc in
    let both = one_front xs ys x y rest in
    let first : a ≡ b = cc in
    ((λ i. first i ∷ both.0 i), both.1)

one_changed : (hour : CivilHour) (table text : List ℕ) (texts : List (List ℕ)) (a b : Outcome) → IsChanged hour table text texts a → IsChanged hour table text texts b → a ≡ b
one_changed hour table text texts a b one other =
    let rules : one.rules ≡ other.rules = one_table table one.rules other.rules one.spelled other.spelled in
    let base : one.base ≡ other.base = one_store text one.base other.base one.made other.made in
    let all = one_list texts (one.earlier ++ one.last ∷ []) (other.earlier ++ other.last ∷ []) one.changes other.changes in
    let both = one_front one.earlier other.earlier one.last other.last all in
    let parts : hour_parts hour one.rules (published one.base one.earlier) one.last ≡ hour_parts hour other.rules (published other.base other.earlier) other.last =
    λ i. hour_parts hour (rules i) (published (base i) (both.0 i)) (both.1 i) in
    one_packed (hour_parts hour other.rules (published other.base other.earlier) other.last) a b (subst (λ (p : Parts). IsPacked p a) parts one.packed) other.packed

pub one_outcome : OneOutcomeLaw
one_outcome (nodes rect base) output texts one other is = absurd cc
one_outcome (dump base) output texts one other is = absurd cc
one_outcome (check file) output texts one other is = absurd cc
one_outcome (replay_script rules base script) output texts one other is = absurd cc
one_outcome (ask_files query files) output texts one other is = absurd cc
one_outcome (fold_files period out files) output texts one other is = λ a b. one_packed (fold_parts (level_of period) (map_files_in texts)) one other a b
one_outcome (build rules base out) output [] one other is = λ a b. absurd a
one_outcome (build rules base out) output (table ∷ []) one other is = λ a b. absurd a
one_outcome (build rules base out) output (table ∷ text ∷ []) one other is = λ a b. one_built table text one other a b
one_outcome (build rules base out) output (table ∷ text ∷ more ∷ texts) one other is = λ a b. absurd a
one_outcome (change_map rules base hour out changes) output [] one other is = λ a b. absurd a
one_outcome (change_map rules base hour out changes) output (table ∷ []) one other is = λ a b. absurd a
one_outcome (change_map rules base hour out changes) output (table ∷ text ∷ texts) one other is = λ a b. one_changed hour table text texts one other a b
