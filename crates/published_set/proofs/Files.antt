-- Numbers, images and heads of files that are kept apart.
use Rattle.std.proofs.Common.{◌≡◌, ℕ, zero, suc, ◌-◌, ◌<◌, ◌≤◌, List, [], ◌∷◌, length, map, drop, take, get_or, Some, None, slice_get, refl, sym, ap, ap₂, subst, ◌∙◌, arith}
use Rattle.std.specs.List.{slice_range}
use Rattle.std.proofs.lemmas.List.{length-drop}
use Rattle.obf_reader.specs.Images.{Seen}
use Rattle.overlay_set.specs.Sets.{Image, numbers_of, images_of, stamps_of, last_in}
use Rattle.overlay_set.specs.Loose.{heads_of}
use Rattle.published_set.specs.declared.entry.Published.{Published}
use Rattle.published_set.specs.Images.{image_of}
use Rattle.published_set.specs.Sets.{entry_of, files_of, heads_in, hour_at, images_in}

pub numbers_are : (ns : List ℕ) (is : List Image) → length ns ≡ length is → numbers_of (files_of ns is) ≡ ns
numbers_are [] [] e = refl
numbers_are [] (i ∷ is) e = refl
numbers_are (n ∷ ns) [] e = absurd (omega (arith, e))
numbers_are (n ∷ ns) (i ∷ is) e = ap (λ l. n ∷ l) (numbers_are ns is (omega (arith, e)))

pub images_are : (ns : List ℕ) (is : List Image) → length ns ≡ length is → images_of (files_of ns is) ≡ is
images_are [] [] e = refl
images_are [] (i ∷ is) e = absurd (omega (arith, e))
images_are (n ∷ ns) [] e = refl
images_are (n ∷ ns) (i ∷ is) e = ap (λ l. i ∷ l) (images_are ns is (omega (arith, e)))

pub heads_are : (ns : List ℕ) (is : List Seen) → length ns ≡ length is → heads_of (files_of ns (images_in is)) ≡ heads_in is
heads_are [] [] e = refl
heads_are [] (i ∷ is) e = absurd (omega (arith, e))
heads_are (n ∷ ns) [] e = refl
heads_are (n ∷ ns) (i ∷ is) e = ap (λ l. i.head ∷ l) (heads_are ns is (omega (arith, e)))

pub files_length : (ns : List ℕ) (is : List Seen) → length ns ≡ length is → length (files_of ns (images_in is)) ≡ length is
files_length [] [] e = refl
files_length [] (i ∷ is) e = absurd (omega (arith, e))
files_length (n ∷ ns) [] e = refl
files_length (n ∷ ns) (i ∷ is) e = omega (arith, files_length ns is (omega (arith, e)))

last_at : (xs : List Published) (k : ℕ) (e : Published) → length xs ≡ suc k → slice_get xs k ≡ Some e → last_in (stamps_of (map entry_of xs)) ≡ Some e.stamp
last_at [] k e len is = absurd (omega arith)
last_at (x ∷ []) zero e len is = cc is
last_at (x ∷ []) (suc k) e len is = absurd (omega arith)
last_at (x ∷ y ∷ ys) zero e len is = absurd (omega arith)
last_at (x ∷ y ∷ ys) (suc k) e len is = last_at (y ∷ ys) k e (omega arith) is

some_at : (xs : List Published) (k : ℕ) → length xs ≡ suc k → slice_get xs k ≡ None → ⊥
some_at [] k len is = omega arith
some_at (x ∷ xs) zero len is = cc is
some_at (x ∷ xs) (suc k) len is = some_at xs k (omega arith) is

pub last_is : (xs : List Published) (e : Published) → slice_get xs (length xs - 1) ≡ Some e → last_in (stamps_of (map entry_of xs)) ≡ Some e.stamp
last_is [] e is = absurd (cc is)
last_is (x ∷ xs) e is = last_at (x ∷ xs) (length xs) e refl (subst (λ (k : ℕ). slice_get (x ∷ xs) k ≡ Some e) (omega arith) is)

pub no_last : (xs : List Published) → slice_get xs (length xs - 1) ≡ None → last_in (stamps_of (map entry_of xs)) ≡ None
no_last [] is = refl
no_last (x ∷ xs) is = absurd (some_at (x ∷ xs) (length xs) refl (subst (λ (k : ℕ). slice_get (x ∷ xs) k ≡ None) (omega arith) is))

-- Lists of shared images.

pub images_length : {A : Type 0} (f : A → Seen) (xs : List A) → length (images_in (map f xs)) ≡ length xs
images_length f [] = refl
images_length f (x ∷ xs) = omega (arith, images_length f xs)

pub heads_length : {A : Type 0} (f : A → Seen) (xs : List A) → length (heads_in (map f xs)) ≡ length xs
heads_length f [] = refl
heads_length f (x ∷ xs) = omega (arith, heads_length f xs)

pub hour_found : {A : Type 0} (f : A → Seen) (xs : List A) (i : ℕ) (m : A) → i < length xs → m ≡ get_or xs i m → hour_at (heads_in (map f xs)) i ≡ (f m).head.first
hour_found f [] i m inside e = absurd (omega arith)
hour_found f (x ∷ xs) zero m inside e = ap (λ y. (f y).head.first) (sym e)
hour_found f (x ∷ xs) (suc i) m inside e = hour_found f xs i m (omega arith) e

heads_dropped : {A : Type 0} (f : A → Seen) (n : ℕ) (xs : List A) → heads_in (map f (drop n xs)) ≡ drop n (heads_in (map f xs))
heads_dropped f zero xs = refl
heads_dropped f (suc n) [] = refl
heads_dropped f (suc n) (x ∷ xs) = heads_dropped f n xs

pub heads_from : {A : Type 0} (f : A → Seen) (n : ℕ) (xs : List A) → heads_in (map f (slice_range xs n (length xs))) ≡ drop n (heads_in (map f xs))
heads_from f n xs = ap (λ l. heads_in (map f l)) (take_all (drop n xs) (length xs - n) (omega (arith, length-drop n xs))) ∙ heads_dropped f n xs
  where
    take_all : {A : Type 0} (l : List A) (k : ℕ) → length l ≤ k → take k l ≡ l
    take_all [] zero le = refl
    take_all [] (suc k) le = refl
    take_all (x ∷ l) zero le = absurd (omega arith)
    take_all (x ∷ l) (suc k) le = ap (λ m. x ∷ m) (take_all l k (omega arith))

pub seen_length : {A : Type 0} (f : A → Seen) (xs : List A) → length (map f xs) ≡ length xs
seen_length f [] = refl
seen_length f (x ∷ xs) = omega (arith, seen_length f xs)

-- Parts of files.

files_none : (ns : List ℕ) → files_of ns [] ≡ []
files_none [] = refl
files_none (n ∷ ns) = refl

files_taken : (k : ℕ) (ns : List ℕ) (is : List Image) → take k (files_of ns is) ≡ files_of (take k ns) (take k is)
files_taken zero ns is = refl
files_taken (suc k) [] is = refl
files_taken (suc k) (n ∷ ns) [] = refl
files_taken (suc k) (n ∷ ns) (i ∷ is) = ap (λ l. record { number = n; image = i } ∷ l) (files_taken k ns is)

files_dropped : (k : ℕ) (ns : List ℕ) (is : List Image) → drop k (files_of ns is) ≡ files_of (drop k ns) (drop k is)
files_dropped zero ns is = refl
files_dropped (suc k) [] is = refl
files_dropped (suc k) (n ∷ ns) [] = sym (files_none (drop k ns))
files_dropped (suc k) (n ∷ ns) (i ∷ is) = files_dropped k ns is

images_taken : (k : ℕ) (is : List Seen) → images_in (take k is) ≡ take k (images_in is)
images_taken zero is = refl
images_taken (suc k) [] = refl
images_taken (suc k) (i ∷ is) = ap (λ l. image_of i ∷ l) (images_taken k is)

images_dropped : (k : ℕ) (is : List Seen) → images_in (drop k is) ≡ drop k (images_in is)
images_dropped zero is = refl
images_dropped (suc k) [] = refl
images_dropped (suc k) (i ∷ is) = images_dropped k is

-- the files of a part of the numbers and of the images
pub files_between : (a b : ℕ) (ns : List ℕ) (is : List Seen) → files_of (slice_range ns a b) (images_in (slice_range is a b)) ≡ slice_range (files_of ns (images_in is)) a b
files_between a b ns is =
    ap (files_of (slice_range ns a b)) (images_taken (b - a) (drop a is) ∙ ap (take (b - a)) (images_dropped a is))
    ∙ sym (ap (take (b - a)) (files_dropped a ns (images_in is)) ∙ files_taken (b - a) (drop a ns) (drop a (images_in is)))

seen_taken : {A : Type 0} (f : A → Seen) (k : ℕ) (xs : List A) → map f (take k xs) ≡ take k (map f xs)
seen_taken f zero xs = refl
seen_taken f (suc k) [] = refl
seen_taken f (suc k) (x ∷ xs) = ap (λ l. f x ∷ l) (seen_taken f k xs)

seen_dropped : {A : Type 0} (f : A → Seen) (k : ℕ) (xs : List A) → map f (drop k xs) ≡ drop k (map f xs)
seen_dropped f zero xs = refl
seen_dropped f (suc k) [] = refl
seen_dropped f (suc k) (x ∷ xs) = seen_dropped f k xs

pub seen_between : {A : Type 0} (f : A → Seen) (a b : ℕ) (xs : List A) → map f (slice_range xs a b) ≡ slice_range (map f xs) a b
seen_between f a b xs = seen_taken f (b - a) (drop a xs) ∙ ap (take (b - a)) (seen_dropped f a xs)

-- as many numbers as images in a part
pub as_many : {A : Type 0} (f : A → Seen) (a b : ℕ) (numbers ns : List ℕ) (images xs : List A) → length ns ≡ length xs → numbers ≡ slice_range ns a b → map f images ≡ map f (slice_range xs a b)
    → length numbers ≡ length images
as_many f a b numbers ns images xs even n i =
    ap length n ∙ cut a b ns xs even ∙ sym (seen_length f (slice_range xs a b)) ∙ sym (ap length i) ∙ seen_length f images
  where
    cut_front : {A : Type 0} (k : ℕ) (ns : List ℕ) (xs : List A) → length ns ≡ length xs → length (drop k ns) ≡ length (drop k xs)
    cut_front k ns xs e = omega (arith, length-drop k ns, length-drop k xs, e)

    cut_back : {A : Type 0} (k : ℕ) (ns : List ℕ) (xs : List A) → length ns ≡ length xs → length (take k ns) ≡ length (take k xs)
    cut_back zero ns xs e = refl
    cut_back (suc k) [] [] e = refl
    cut_back (suc k) [] (x ∷ xs) e = absurd (omega (arith, e))
    cut_back (suc k) (n ∷ ns) [] e = absurd (omega (arith, e))
    cut_back (suc k) (n ∷ ns) (x ∷ xs) e = omega (arith, cut_back k ns xs (omega (arith, e)))

    cut : {A : Type 0} (a b : ℕ) (ns : List ℕ) (xs : List A) → length ns ≡ length xs → length (slice_range ns a b) ≡ length (slice_range xs a b)
    cut a b ns xs e = cut_back (b - a) (drop a ns) (drop a xs) (cut_front a ns xs e)

-- the files of what was copied from a place up to another
pub files_copied : {A : Type 0} (f : A → Seen) (a b : ℕ) (numbers ns : List ℕ) (images xs : List A) → numbers ≡ slice_range ns a b → map f images ≡ map f (slice_range xs a b)
    → files_of numbers (images_in (map f images)) ≡ slice_range (files_of ns (images_in (map f xs))) a b
files_copied f a b numbers ns images xs n i =
    ap₂ (λ (ns : List ℕ) (seen : List Seen). files_of ns (images_in seen)) n (i ∙ seen_between f a b xs) ∙ files_between a b ns (map f xs)
