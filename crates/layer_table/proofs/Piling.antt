-- Keys and values beside one another, as they grow and shrink at their ends.
use Rattle.std.proofs.Common.{◌≡◌, ◌-◌, List, [], ◌∷◌, ◌++◌, Some, refl, sym, ap, ◌∙◌, arith, length, reverse, zip, length-append}
use Rattle.std.specs.Option.{option_map}
use Rattle.std.specs.List.{slice_get}
use Rattle.std.proofs.lemmas.List.{reverse-append, length-reverse}
use Rattle.layer_table.specs.Layers.{key_of, last_after, last_of}

-- the last item is the one at the last place
pub last_read : {A : Type 0} (xs : List A) → slice_get xs (length xs - 1) ≡ last_of xs
last_read [] = refl
last_read (x ∷ xs) = ap (slice_get (x ∷ xs)) (omega arith) ∙ one x xs
  where
    one : {A : Type 0} (x : A) (xs : List A) → slice_get (x ∷ xs) (length xs) ≡ Some (last_after x xs)
    one x [] = refl
    one x (y ∷ ys) = one y ys

last_key_after : {K W : Type 0} (k : K) (v : W) (ks : List K) (vs : List W) → length ks ≡ length vs → last_after k ks ≡ key_of (last_after (k, v) (zip ks vs))
last_key_after k v [] [] e = refl
last_key_after k v [] (w ∷ vs) e = absurd (omega (arith, e))
last_key_after k v (l ∷ ks) [] e = absurd (omega (arith, e))
last_key_after k v (l ∷ ks) (w ∷ vs) e = last_key_after l w ks vs (omega (arith, e))

-- the last key is the key of the last pair
pub last_zipped : {K W : Type 0} (ks : List K) (vs : List W) → length ks ≡ length vs → last_of ks ≡ option_map key_of (last_of (zip ks vs))
last_zipped [] [] e = refl
last_zipped [] (v ∷ vs) e = refl
last_zipped (k ∷ ks) [] e = absurd (omega (arith, e))
last_zipped (k ∷ ks) (v ∷ vs) e = ap Some (last_key_after k v ks vs (omega (arith, e)))

-- a key and a value that come last are the last pair
pub zip_end : {K W : Type 0} (ks : List K) (vs : List W) (k : K) (v : W) → length ks ≡ length vs → zip (ks ++ k ∷ []) (vs ++ v ∷ []) ≡ zip ks vs ++ (k, v) ∷ []
zip_end [] [] k v e = refl
zip_end [] (w ∷ vs) k v e = absurd (omega (arith, e))
zip_end (l ∷ ks) [] k v e = absurd (omega (arith, e))
zip_end (l ∷ ks) (w ∷ vs) k v e = ap (λ ps. (l, w) ∷ ps) (zip_end ks vs k v (omega (arith, e)))

pub zip_reversed : {K W : Type 0} (ks : List K) (vs : List W) → length ks ≡ length vs → zip (reverse ks) (reverse vs) ≡ reverse (zip ks vs)
zip_reversed [] [] e = refl
zip_reversed [] (v ∷ vs) e = absurd (omega (arith, e))
zip_reversed (k ∷ ks) [] e = absurd (omega (arith, e))
zip_reversed {K} {W} (k ∷ ks) (v ∷ vs) e =
    (λ i. zip (reverse-append (k ∷ []) ks i) (reverse-append (v ∷ []) vs i))
    ∙ zip_end (reverse ks) (reverse vs) k v (let lk = length-reverse ks in let lv = length-reverse vs in omega (arith, e, lk, lv))
    ∙ ap (λ ps. ps ++ (k, v) ∷ []) (zip_reversed ks vs (omega (arith, e)))
    ∙ sym (reverse-append ((k, v) ∷ []) (zip ks vs))

-- lists that lose their last items
pub zip_popped : {K W : Type 0} (ks ks' : List K) (vs vs' : List W) (k : K) (v : W) → length ks ≡ length vs → ks ≡ ks' ++ k ∷ [] → vs ≡ vs' ++ v ∷ [] → zip ks vs ≡ zip ks' vs' ++ (k, v) ∷ []
zip_popped ks ks' vs vs' k v e is is' =
    (λ i. zip (is i) (is' i))
    ∙ zip_end ks' vs' k v (let lk = ap length is ∙ length-append ks' (k ∷ []) in let lv = ap length is' ∙ length-append vs' (v ∷ []) in omega (arith, e, lk, lv))
