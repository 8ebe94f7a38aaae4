-- A text that is read piece by piece.
use Rattle.std.proofs.Common.{◌≡◌, ℕ, Option, Some, None, Bool, true, false, cond, List, [], ◌∷◌, ◌++◌, refl, sym, ap, ◌∙◌, append_assoc}
use Rattle.std.specs.Prelude.{◌==◌, encode_utf8}
use Rattle.std.specs.Option.{option_map}
use Rattle.std.specs.List.{slice_split, onto_first}
use Rattle.text_pieces.specs.Escapes.{character_of, joined, unescaped_from, unescaped}

-- the byte around escapes
abbrev pub is_percent : ℕ → Bool
is_percent c = c == 37

-- the last piece of some and the first of others are one
abbrev glued : List (List ℕ) → List (List ℕ) → List (List ℕ)
glued [] qs = qs
glued (p ∷ []) [] = p ∷ []
glued (p ∷ []) (q ∷ qs) = (p ++ q) ∷ qs
glued (p ∷ r ∷ rs) qs = p ∷ glued (r ∷ rs) qs

-- there is a first piece
pub record Pieces (ps : List (List ℕ)) : Type 0 where
  first : List ℕ
  others : List (List ℕ)
  is : ps ≡ first ∷ others

pieces : (xs : List ℕ) → Pieces (slice_split is_percent xs)
pieces [] = record { first = []; others = []; is = refl }
pieces (x ∷ xs) =
    elim (is_percent x) as (λ b. Pieces (cond b ([] ∷ slice_split is_percent xs) (onto_first x (slice_split is_percent xs)))) [
      | true ↦ record { first = []; others = slice_split is_percent xs; is = refl }
      | false ↦ let p = pieces xs in record { first = x ∷ p.first; others = p.others; is = ap (onto_first x) p.is }
    ]

glued_onto : (x : ℕ) (ps qs : List (List ℕ)) → Pieces ps → onto_first x (glued ps qs) ≡ glued (onto_first x ps) qs
glued_onto x [] qs some = absurd (let e = some.is in cc)
glued_onto x (p ∷ []) [] some = refl
glued_onto x (p ∷ []) (q ∷ qs) some = refl
glued_onto x (p ∷ r ∷ rs) qs some = refl

split_joined : (xs ys : List ℕ) → slice_split is_percent (xs ++ ys) ≡ glued (slice_split is_percent xs) (slice_split is_percent ys)
split_joined [] ys = let p = pieces ys in p.is ∙ sym (ap (glued ([] ∷ [])) p.is)
split_joined (x ∷ xs) ys =
    elim (is_percent x) as (λ b. cond b ([] ∷ slice_split is_percent (xs ++ ys)) (onto_first x (slice_split is_percent (xs ++ ys))) ≡ glued (cond b ([] ∷ slice_split is_percent xs) (onto_first x (slice_split is_percent xs))) (slice_split is_percent ys)) [
      | true ↦ ap (λ ps. [] ∷ ps) (split_joined xs ys) ∙ behind (slice_split is_percent xs) (pieces xs)
      | false ↦ ap (onto_first x) (split_joined xs ys) ∙ glued_onto x (slice_split is_percent xs) (slice_split is_percent ys) (pieces xs)
    ]
  where
    behind : (ps : List (List ℕ)) → Pieces ps → [] ∷ glued ps (slice_split is_percent ys) ≡ glued ([] ∷ ps) (slice_split is_percent ys)
    behind [] some = absurd (let e = some.is in cc)
    behind (p ∷ ps) some = refl

-- a piece in front of a text
put_before : (p q : List ℕ) (qs : List (List ℕ)) → unescaped_from ((p ++ q) ∷ qs) ≡ option_map (λ u. p ++ u) (unescaped_from (q ∷ qs))
put_before p q [] = refl
put_before p q (code ∷ rest) = one (character_of code) (unescaped_from rest)
  where
    one : (o : Option ℕ) (r : Option (List ℕ)) → joined (p ++ q) o r ≡ option_map (λ u. p ++ u) (joined q o r)
    one None r = refl
    one (Some c) None = refl
    one (Some c) (Some r) = ap Some (ap (λ x. x ++ r) (append_assoc p q (encode_utf8 c)) ∙ append_assoc p (q ++ encode_utf8 c) r)

joined_behind : (p t : List ℕ) (o : Option ℕ) (r s more : Option (List ℕ)) → joined p o r ≡ Some t → ((u : List ℕ) → r ≡ Some u → s ≡ option_map (λ v. u ++ v) more) → joined p o s ≡ option_map (λ v. t ++ v) more
joined_behind p t None r s more e again = absurd (cc)
joined_behind p t (Some c) None s more e again = absurd (cc)
joined_behind p t (Some c) (Some u) s None e again = ap (joined p (Some c)) (again u refl)
joined_behind p t (Some c) (Some u) s (Some v) e again =
    let whole : t ≡ p ++ encode_utf8 c ++ u = cc in
    ap (joined p (Some c)) (again u refl) ∙ ap Some (sym (ap (λ x. x ++ v) whole ∙ append_assoc (p ++ encode_utf8 c) u v))

glued_text : (ps qs : List (List ℕ)) (t : List ℕ) → Pieces qs → unescaped_from ps ≡ Some t → unescaped_from (glued ps qs) ≡ option_map (λ u. t ++ u) (unescaped_from qs)
glued_text [] qs t some e = absurd (cc)
glued_text (p ∷ []) [] t some e = absurd (let e = some.is in cc)
glued_text (p ∷ []) (q ∷ qs) t some e = let same : p ≡ t = cc in put_before p q qs ∙ ap (λ x. option_map (λ u. x ++ u) (unescaped_from (q ∷ qs))) same
glued_text (p ∷ code ∷ []) qs t some e = absurd (none (character_of code) e)
  where
    none : (o : Option ℕ) → joined p o None ≡ Some t → ⊥
    none None e = cc
    none (Some c) e = cc
glued_text (p ∷ code ∷ r ∷ rs) qs t some e =
    joined_behind p t (character_of code) (unescaped_from (r ∷ rs)) (unescaped_from (glued (r ∷ rs) qs)) (unescaped_from qs) e (λ u h. glued_text (r ∷ rs) qs u some h)

-- what spells a text in front of other bytes
pub unescaped_joined : (xs ys t : List ℕ) → unescaped xs ≡ Some t → unescaped (xs ++ ys) ≡ option_map (λ u. t ++ u) (unescaped ys)
unfolding unescaped
unescaped_joined xs ys t e = ap unescaped_from (split_joined xs ys) ∙ glued_text (slice_split is_percent xs) (slice_split is_percent ys) t (pieces ys) e
