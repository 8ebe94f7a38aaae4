-- Laws of lists.
use Rattle.std.proofs.Common.{◌≡◌, List, [], ◌∷◌, ◌++◌, map, flat_map, refl, sym, ap, ◌∙◌, append_assoc}
use Rattle.std.specs.List.{AllByRecursion}
use Rattle.live_model.specs.declared.objects.Entity.{Entity}
use Rattle.live_model.specs.declared.objects.Line.{Line}
use Rattle.live_model.specs.Stores.{apply}
use Rattle.live_model.specs.Maps.{published}
use Rattle.overlay_set.specs.Sets.{Entry, lines_of}

pub map-append : {A B : Type 0} (f : A → B) (xs ys : List A) → map f (xs ++ ys) ≡ map f xs ++ map f ys
map-append f [] ys = refl
map-append f (x ∷ xs) ys = ap (λ l. f x ∷ l) (map-append f xs ys)

pub flat-append : {A : Type 0} (xs ys : List (List A)) → flat_map (λ x. x) (xs ++ ys) ≡ flat_map (λ x. x) xs ++ flat_map (λ x. x) ys
flat-append [] ys = refl
flat-append (x ∷ xs) ys = ap (λ l. x ++ l) (flat-append xs ys) ∙ sym (append_assoc x (flat_map (λ y. y) xs) (flat_map (λ y. y) ys))

pub published-append : (store : List Entity) (xs ys : List (List Line)) → published store (xs ++ ys) ≡ published (published store xs) ys
published-append store [] ys = refl
published-append store (x ∷ xs) ys = published-append (apply store x) xs ys

-- publishing two runs in turn is publishing them together
pub published_runs : (store : List Entity) (a b : List Entry) → published store (lines_of (a ++ b)) ≡ published (published store (lines_of a)) (lines_of b)
published_runs store a b = ap (published store) (map-append (λ (e : Entry). e.lines) a b) ∙ published-append store (lines_of a) (lines_of b)

pub all-append : {A : Type 0} (P : A → Type 0) (xs ys : List A) → AllByRecursion P xs → AllByRecursion P ys → AllByRecursion P (xs ++ ys)
all-append P [] ys a b = b
all-append P (x ∷ xs) ys a b = (a.0, all-append P xs ys a.1 b)
