-- The texts of a block: they rise, none is empty, all are UTF-8, and each text that a record names has its number among them.
use Rattle.std.proofs.Common.{◌≡◌, ◌≢◌, ℕ, zero, suc, ◌+◌, ◌*◌, ◌<◌, ◌≤◌, Bool, true, false, cond, List, [], ◌∷◌, ◌++◌, length, get_or, map, Option, Some, None, refl, sym, ap, ◌∙◌, arith, length-append}
use Rattle.std.specs.Prelude.{filter, flat_map, nat_lt, ◌&&◌, not, slice_get, unwrap_or, IsUtf8}
use Rattle.std.specs.List.{AllByRecursion, Contains}
use Rattle.std.specs.Option.{option_map}
use Rattle.std.specs.Str.{is_utf8}
use Rattle.std.specs.Ordering.{is_lt}
use Rattle.std.specs.declared.cmp.Ordering.TheVariants.{Less}
use Rattle.std.proofs.lemmas.Bool.{and_from, or_left}
use Rattle.std.proofs.lemmas.Cmp.{nat_list_cmp_total}
use Rattle.std.proofs.lemmas.Str.{is_utf8-from_IsUtf8}
use Rattle.ordered_lists.specs.Ordered.{below, above, put_by, put_all}
use Rattle.ordered_lists.proofs.PutAll.{rising-put_all, length-put_all}
use Rattle.text_table.specs.Tables.{text_cmp, AreRising}
use Rattle.file_grammar.specs.Messages.{beyond}
use Rattle.file_grammar.specs.Facts.{AllHold}
use Rattle.file_grammar.specs.Sections.{Placed, placed, texts_in, text_of}
use Rattle.file_grammar.specs.BoxRules.{with_before, follows, texts_rise, text_fact}
use Rattle.boxed_write.specs.Packed.{Packing, texts_of}
use Rattle.boxed_write.proofs.UsedTexts.{number_is}
use Rattle.boxed_laws.specs.Bare.{stood}
use Rattle.boxed_laws.specs.Classes.{HasNumber}
use Rattle.boxed_laws.proofs.BareBlocks.{bare_texts}

abbrev Text : Type 0
Text = List ℕ

abbrev IsSome : Text → Type 0
IsSome text = nat_lt 0 (length text) ≡ true

-- UTF-8, and not empty
pub record IsGoodText (text : Text) : Type 0 where
  pub utf8 : is_utf8 text ≡ true
  pub some : IsSome text

-- ---- what is put together of good texts

module _ {A : Type 0} (P : A → Type 0) where
  pub all_join : (xs ys : List A) → AllByRecursion P xs → AllByRecursion P ys → AllByRecursion P (xs ++ ys)
  all_join [] ys a b = b
  all_join (x ∷ xs) ys a b = (a.0, all_join xs ys a.1 b)

  all_picked : (q : A → Bool) (xs : List A) → AllByRecursion P xs → AllByRecursion P (filter q xs)
  all_picked q [] all = tt
  all_picked q (x ∷ xs) all =
      elim (q x) as (λ b. AllByRecursion P (cond b (x ∷ filter q xs) (filter q xs))) [
        | true ↦ (all.0, all_picked q xs all.1)
        | false ↦ all_picked q xs all.1
      ]

good_put : (text : Text) (ts : List Text) → IsGoodText text → AllByRecursion IsGoodText ts → AllByRecursion IsGoodText (put_by text_cmp (λ t. t) text ts)
good_put text ts one all =
    all_join IsGoodText (below text_cmp (λ t. t) text ts) (text ∷ above text_cmp (λ t. t) text ts) (all_picked IsGoodText _ ts all) (one, all_picked IsGoodText _ ts all)

good_all : (ts ps : List Text) → AllByRecursion IsGoodText ts → AllByRecursion IsGoodText ps → AllByRecursion IsGoodText (put_all text_cmp (λ t. t) ts ps)
good_all ts [] a b = a
good_all ts (p ∷ ps) a b = good_all (put_by text_cmp (λ t. t) p ts) ps (good_put p ts b.0 a) b.1

good_names : (ts : List Text) → AllByRecursion (λ t. is_utf8 t ≡ true) ts → AllByRecursion IsGoodText (filter (λ text. nat_lt 0 (length text)) ts)
good_names [] all = tt
good_names (t ∷ ts) all =
    elim (nat_lt 0 (length t)) as (λ b. nat_lt 0 (length t) ≡ b → AllByRecursion IsGoodText (cond b (t ∷ filter (λ text. nat_lt 0 (length text)) ts) (filter (λ text. nat_lt 0 (length text)) ts))) [
      | true ↦ λ some. (record { utf8 = all.0; some = some }, good_names ts all.1)
      | false ↦ λ none. good_names ts all.1
    ] refl

all_utf8 : (ts : List Text) → AllByRecursion IsUtf8 ts → AllByRecursion (λ t. is_utf8 t ≡ true) ts
all_utf8 [] all = tt
all_utf8 (t ∷ ts) all = (is_utf8-from_IsUtf8 t all.0, all_utf8 ts all.1)

picked_length : (q : Text → Bool) (ts : List Text) → length (filter q ts) ≤ length ts
picked_length q [] = omega arith
picked_length q (t ∷ ts) =
    let rest = picked_length q ts in
    elim (q t) as (λ b. length (cond b (t ∷ filter q ts) (filter q ts)) ≤ length (t ∷ ts)) [ true ↦ omega arith | false ↦ omega arith ]

module _ {A : Type 0} (packing : Packing A) where
  named_utf8 : (rs : List A) → AllByRecursion (λ r. AllByRecursion IsUtf8 (packing.texts r)) rs → AllByRecursion (λ t. is_utf8 t ≡ true) (flat_map packing.texts rs)
  named_utf8 [] all = tt
  named_utf8 (r ∷ rs) all = all_join (λ t. is_utf8 t ≡ true) (packing.texts r) (flat_map packing.texts rs) (all_utf8 (packing.texts r) all.0) (named_utf8 rs all.1)

  pub texts_good : (rs : List A) → AllByRecursion (λ r. AllByRecursion IsUtf8 (packing.texts r)) rs → AllByRecursion IsGoodText (texts_of packing rs)
  texts_good rs all = good_all [] (filter (λ text. nat_lt 0 (length text)) (flat_map packing.texts rs)) tt (good_names (flat_map packing.texts rs) (named_utf8 rs all))

  pub texts_rising : (rs : List A) → AreRising (texts_of packing rs)
  texts_rising rs = rising-put_all text_cmp (λ (t : Text). t) nat_list_cmp_total [] (filter (λ text. nat_lt 0 (length text)) (flat_map packing.texts rs)) tt

  named_length : (most : ℕ) → ((r : A) → length (packing.texts r) ≤ most) → (rs : List A) → length (flat_map packing.texts rs) ≤ length rs * most
  named_length most few [] = omega arith
  named_length most few (r ∷ rs) =
      let rest = named_length most few rs in
      let here = few r in
      let all = length-append (packing.texts r) (flat_map packing.texts rs) in
      let more : suc (length rs) * most ≡ most + length rs * most = omega arith in
      omega arith

  -- a block of records has not many texts
  pub texts_few : (most : ℕ) → ((r : A) → length (packing.texts r) ≤ most) → (rs : List A) → length (texts_of packing rs) ≤ length rs * most
  texts_few most few rs =
      let names : List Text = flat_map packing.texts rs in
      let put = length-put_all text_cmp (λ (t : Text). t) nat_list_cmp_total [] (filter (λ text. nat_lt 0 (length text)) names) in
      let picked = picked_length (λ text. nat_lt 0 (length text)) names in
      let all = named_length most few rs in
      omega arith

-- ---- names and their numbers

found_get : (ts : List Text) (k : ℕ) (t : Text) → k < length ts → get_or ts k t ≡ t → slice_get ts k ≡ Some t
found_get [] k t inside is = absurd (omega arith)
found_get (u ∷ ts) zero t inside is = ap (λ (w : Text). Some w) is
found_get (u ∷ ts) (suc k) t inside is = found_get ts k t (omega arith) is

abbrev value_or : Option Text → Text
value_or t = unwrap_or t []

placed_get : (there : List (Placed Text)) (k : ℕ) → option_map (λ t. t.value) (slice_get there k) ≡ slice_get (map (λ (t : Placed Text). t.value) there) k
placed_get [] k = refl
placed_get (t ∷ ts) zero = refl
placed_get (t ∷ ts) (suc k) = placed_get ts k

text_at : (there : List (Placed Text)) (texts : List Text) (k : ℕ) (name : Text) → map (λ t. t.value) there ≡ texts → slice_get texts k ≡ Some name → text_of there (k + 1) ≡ name
text_at there texts k name same found =
    let e : k + 1 ≡ suc k = omega arith in
    ap (text_of there) e ∙ ap value_or (placed_get there k ∙ ap (λ (ts : List Text). slice_get ts k) same ∙ found)

named : (texts : List Text) (name : Text) (k : ℕ) → AreRising texts → k < length texts → slice_get texts k ≡ Some name → name ≢ [] → HasNumber texts name
named texts name k rising inside found some =
    let number = number_is texts name k rising found some in
    record { most = omega (arith, number); again = λ there same. ap (text_of there) (sym number) ∙ text_at there texts k name same found }

pub numbered : (texts : List Text) (name : Text) → AreRising texts → (name ≢ [] → Contains texts name) → HasNumber texts name
numbered texts [] rising among = record { most = omega arith; again = λ there same. refl }
numbered texts (b ∷ bs) rising among =
    let some : (b ∷ bs) ≢ [] = λ e. absurd (cc) in
    let found = among some in
    named texts (b ∷ bs) found.0 rising found.1 (found_get texts found.0 (b ∷ bs) found.1 found.2) some

-- ---- the texts where they stand

pub texts_again : (ts : List Text) (at : ℕ) → map (λ (t : Placed Text). t.value) (texts_in (stood at (bare_texts ts))) ≡ ts
texts_again [] at = refl
texts_again (t ∷ ts) at = ap (λ (us : List Text). t ∷ us) (texts_again ts (beyond at 10 (length t)))

text_holds : (before : Option (Placed Text)) (at : ℕ) (t : Text) → IsGoodText t → follows texts_rise (before, placed at t) ≡ true → (text_fact (before, placed at t)).holds ≡ true
text_holds before at t good rises = and_from (is_utf8 t && nat_lt 0 (length t)) (follows texts_rise (before, placed at t)) (and_from (is_utf8 t) (nat_lt 0 (length t)) good.utf8 good.some) rises

rises_behind : (p at : ℕ) (t u : Text) → text_cmp t u ≡ Less → texts_rise (placed p t) (placed at u) ≡ true
rises_behind p at t u less = or_left (is_lt (text_cmp t u)) (not (is_utf8 t && is_utf8 u)) (ap is_lt less)

texts_behind : (ts : List Text) (p : ℕ) (t : Text) (at : ℕ) → AllByRecursion (λ u. text_cmp t u ≡ Less) ts → AreRising ts → AllByRecursion IsGoodText ts → AllHold (map text_fact (with_before (Some (placed p t)) (texts_in (stood at (bare_texts ts)))))
texts_behind [] p t at after rising good = tt
texts_behind (u ∷ ts) p t at after rising good =
    (text_holds (Some (placed p t)) at u good.0 (rises_behind p at t u after.0), texts_behind ts at u (beyond at 10 (length u)) rising.0 rising.1 good.1)

pub texts_hold : (at : ℕ) (ts : List Text) → AreRising ts → AllByRecursion IsGoodText ts → AllHold (map text_fact (with_before None (texts_in (stood at (bare_texts ts)))))
texts_hold at [] rising good = tt
texts_hold at (t ∷ ts) rising good = (text_holds None at t good.0 refl, texts_behind ts at t (beyond at 10 (length t)) rising.0 rising.1 good.1)
