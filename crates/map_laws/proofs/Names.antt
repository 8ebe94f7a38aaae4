-- The names of an object in languages: they rise by language, and each is a text that is not empty in a language.
use Rattle.std.proofs.Common.{◌≡◌, ◌≢◌, List, [], ◌∷◌, ◌++◌, Bool, true, false, ◌&&◌, ◌||◌, not, cond, Option, Some, None, refl, sym, ap, ◌∙◌}
use Rattle.std.specs.Prelude.{ℕ, codes, drop, filter_map, IsUtf8, bytes_eq}
use Rattle.std.specs.Option.{IfSome, option_map}
use Rattle.std.specs.List.{AllByRecursion, cons_option}
use Rattle.std.specs.Ordering.{nat_cmp, is_eq}
use Rattle.std.specs.Cmp.Lexicographic.{slice_cmp}
use Rattle.std.specs.declared.cmp.Ordering.{Ordering}
use Rattle.std.specs.declared.cmp.Ordering.TheVariants.{Less, Equal, Greater}
use Rattle.std.proofs.lemmas.Bool.{false≢true}
use Rattle.std.proofs.lemmas.Map.Text.{is_eq-slice_cmp}
use Rattle.live_model.specs.declared.objects.Tag.{Tag}
use Rattle.ordered_lists.specs.Ordered.{IsRisingBy}
use Rattle.live_model.specs.Objects.{AreTags}
use Rattle.live_model.specs.Records.{wanted, is_empty, is_language, named_language, language_of, language_and_name}
use Rattle.map_laws.proofs.RecordOrder.{text_tells}

pub both_true : (a b : Bool) → (a && b) ≡ true → (a ≡ true) × (b ≡ true)
both_true true b e = (refl, e)
both_true false b e = absurd (cc)

or_true : (a b : Bool) → b ≡ true → (a || b) ≡ true
or_true true b e = refl
or_true false b e = e

pub not_empty : (text : List ℕ) → not (is_empty text) ≡ true → text ≢ []
not_empty [] e = absurd (false≢true e)
not_empty (x ∷ xs) e = λ (f : x ∷ xs ≡ []). absurd (cc)

of_equal : (r : Ordering) → is_eq r ≡ true → r ≡ Equal
of_equal Less e = absurd (cc)
of_equal Equal e = refl
of_equal Greater e = absurd (cc)

pub same_text : (a b : List ℕ) → bytes_eq a b ≡ true → a ≡ b
same_text a b e = text_tells a b (of_equal (slice_cmp nat_cmp a b) (is_eq-slice_cmp a b ∙ e))

-- ---- languages rise

-- the key of a name in a language
abbrev key_for : List ℕ → List ℕ
key_for [] = codes "name"
key_for (b ∷ bs) = codes "name:" ++ (b ∷ bs)

-- keys of names are in the order of their languages
order_of_keys : (k l : List ℕ) → slice_cmp nat_cmp (key_for k) (key_for l) ≡ slice_cmp nat_cmp k l
order_of_keys [] [] = refl
order_of_keys [] (c ∷ cs) = refl
order_of_keys (b ∷ bs) [] = refl
order_of_keys (b ∷ bs) (c ∷ cs) = refl

-- a key that names in a language is the key of that language
key_is : (key language : List ℕ) → language_of key ≡ Some language → key ≡ key_for language
key_is key language e = one (bytes_eq key (codes "name")) refl e
  where
    behind : (l : List ℕ) (b : Bool) → (bytes_eq key (codes "name:" ++ l) && is_language l) ≡ b → wanted b (Some l) ≡ Some language → key ≡ key_for language
    behind l false h e = absurd (cc)
    behind [] true h e = absurd (false≢true (both_true (bytes_eq key (codes "name:" ++ [])) (is_language []) h).1)
    behind (c ∷ cs) true h e =
        let same : key ≡ codes "name:" ++ (c ∷ cs) = same_text key (codes "name:" ++ (c ∷ cs)) (both_true (bytes_eq key (codes "name:" ++ (c ∷ cs))) (is_language (c ∷ cs)) h).0 in
        let f : c ∷ cs ≡ language = cc in
        same ∙ ap key_for f

    one : (b : Bool) → bytes_eq key (codes "name") ≡ b → cond b (Some []) (named_language key (drop 5 key)) ≡ Some language → key ≡ key_for language
    one true h e = let f : [] ≡ language = cc in same_text key (codes "name") h ∙ ap key_for f
    one false h e = behind (drop 5 key) (bytes_eq key (codes "name:" ++ drop 5 key) && is_language (drop 5 key)) refl e

-- of a tag that names, the language; of each that comes later by its key, a later one
later_name : (t u : Tag) (n : List ℕ × List ℕ) → language_and_name t ≡ Some n → slice_cmp nat_cmp t.key u.key ≡ Less → IfSome (language_and_name u) (λ m. slice_cmp nat_cmp n.0 m.0 ≡ Less)
later_name t u n e less = one (language_and_name u) refl
  where
    language_is : (v : Tag) (m : List ℕ × List ℕ) → language_and_name v ≡ Some m → language_of v.key ≡ Some m.0
    language_is v m f = two (not (is_empty v.value)) (language_of v.key) refl f
      where
        two : (b : Bool) (o : Option (List ℕ)) → language_of v.key ≡ o → wanted b (option_map (λ language. (language, v.value)) o) ≡ Some m → language_of v.key ≡ Some m.0
        two false o g f = absurd (cc)
        two true None g f = absurd (cc)
        two true (Some l) g f = let h : (l, v.value) ≡ m = some_inj f in g ∙ ap (λ (p : List ℕ × List ℕ). Some p.0) h
          where
            some_inj : {A : Type 0} {x y : A} → Some x ≡ Some y → x ≡ y
            some_inj f = cc

    one : (o : Option (List ℕ × List ℕ)) → language_and_name u ≡ o → IfSome o (λ m. slice_cmp nat_cmp n.0 m.0 ≡ Less)
    one None f = tt
    one (Some m) f =
        let first : t.key ≡ key_for n.0 = key_is t.key n.0 (language_is t n e) in
        let second : u.key ≡ key_for m.0 = key_is u.key m.0 (language_is u m f) in
        sym (order_of_keys n.0 m.0) ∙ ap (λ k. slice_cmp nat_cmp k (key_for m.0)) (sym first) ∙ ap (λ k. slice_cmp nat_cmp t.key k) (sym second) ∙ less

all_cons : {A : Type 0} (P : A → Type 0) (o : Option A) (xs : List A) → IfSome o P → AllByRecursion P xs → AllByRecursion P (cons_option o xs)
all_cons P None xs h all = all
all_cons P (Some x) xs h all = (h, all)

-- the names of tags with rising keys rise by their languages
pub names_rising : (tags : List Tag) → AreTags tags → IsRisingBy (slice_cmp nat_cmp) (λ (n : List ℕ × List ℕ). n.0) (filter_map language_and_name tags)
names_rising [] rising = tt
names_rising (t ∷ ts) rising = one (language_and_name t) refl (names_rising ts rising.1)
  where
    later : (n : List ℕ × List ℕ) → language_and_name t ≡ Some n → (us : List Tag) → AllByRecursion (λ u. slice_cmp nat_cmp t.key u.key ≡ Less) us
        → AllByRecursion (λ (m : List ℕ × List ℕ). slice_cmp nat_cmp n.0 m.0 ≡ Less) (filter_map language_and_name us)
    later n e [] all = tt
    later n e (u ∷ us) all =
        all_cons (λ (m : List ℕ × List ℕ). slice_cmp nat_cmp n.0 m.0 ≡ Less) (language_and_name u) (filter_map language_and_name us) (later_name t u n e all.0) (later n e us all.1)

    one : (o : Option (List ℕ × List ℕ)) → language_and_name t ≡ o → IsRisingBy (slice_cmp nat_cmp) (λ (n : List ℕ × List ℕ). n.0) (filter_map language_and_name ts)
        → IsRisingBy (slice_cmp nat_cmp) (λ (n : List ℕ × List ℕ). n.0) (cons_option o (filter_map language_and_name ts))
    one None e again = again
    one (Some n) e again = (later n e ts rising.0, again)

-- ---- what names are

-- a text that is not empty, in a language or in none
abbrev pub IsNamed : List ℕ × List ℕ → Type 0
IsNamed n = ((is_empty n.0 || is_language n.0) ≡ true) × (IsUtf8 n.1 × (n.1 ≢ []))

language_fits : (key : List ℕ) → IfSome (language_of key) (λ l. (is_empty l || is_language l) ≡ true)
language_fits key = one (bytes_eq key (codes "name"))
  where
    behind : (l : List ℕ) (b : Bool) → (bytes_eq key (codes "name:" ++ l) && is_language l) ≡ b → IfSome (wanted b (Some l)) (λ l. (is_empty l || is_language l) ≡ true)
    behind l false e = tt
    behind l true e = or_true (is_empty l) (is_language l) (both_true (bytes_eq key (codes "name:" ++ l)) (is_language l) e).1

    one : (b : Bool) → IfSome (cond b (Some []) (named_language key (drop 5 key))) (λ l. (is_empty l || is_language l) ≡ true)
    one true = refl
    one false = behind (drop 5 key) (bytes_eq key (codes "name:" ++ drop 5 key) && is_language (drop 5 key)) refl

name_fits : (t : Tag) → IsUtf8 t.value → IfSome (language_and_name t) IsNamed
name_fits t text = one (not (is_empty t.value)) refl (language_of t.key) (language_fits t.key)
  where
    one : (b : Bool) → not (is_empty t.value) ≡ b → (o : Option (List ℕ)) → IfSome o (λ l. (is_empty l || is_language l) ≡ true) → IfSome (wanted b (option_map (λ language. (language, t.value)) o)) IsNamed
    one false e o h = tt
    one true e None h = tt
    one true e (Some l) h = (h, (text, not_empty t.value e))

pub names_fit : (tags : List Tag) → AllByRecursion (λ t. IsUtf8 t.key × IsUtf8 t.value) tags → AllByRecursion IsNamed (filter_map language_and_name tags)
names_fit [] texts = tt
names_fit (t ∷ ts) texts = all_cons IsNamed (language_and_name t) (filter_map language_and_name ts) (name_fits t texts.0.1) (names_fit ts texts.1)
