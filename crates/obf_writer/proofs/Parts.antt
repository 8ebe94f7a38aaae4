-- What is appended part by part.
use Rattle.std.proofs.Common.{◌≡◌, ℕ, List, [], ◌++◌, ap, ◌∙◌, append_assoc, refl}
use Rattle.obf_wire.specs.Fields.{section}

-- four parts, one after another
pub four_are : (out a b c d o1 o2 o3 o4 : List ℕ) → o1 ≡ out ++ a → o2 ≡ o1 ++ b → o3 ≡ o2 ++ c → o4 ≡ o3 ++ d → o4 ≡ out ++ a ++ b ++ c ++ d
four_are out a b c d o1 o2 o3 o4 e1 e2 e3 e4 =
    e4 ∙ ap (λ (o : List ℕ). o ++ d) (e3 ∙ ap (λ (o : List ℕ). o ++ c) (e2 ∙ ap (λ (o : List ℕ). o ++ b) e1))

-- four sections behind what is there
four_behind : (out a b c d : List ℕ) → out ++ a ++ b ++ c ++ d ≡ out ++ (a ++ b ++ c ++ d)
four_behind out a b c d = simp append_assoc refl

-- the parts of a file, of which the first three and the sections of records are appended together
pub file_is : (version head rules map addresses pois roads marks again o0 o1 o2 o3 o4 : List ℕ) → o0 ≡ [] → o1 ≡ o0 ++ version ++ head ++ rules
    → o2 ≡ o1 ++ map ++ addresses ++ pois ++ roads → o3 ≡ o2 ++ marks → o4 ≡ o3 ++ again
    → o4 ≡ version ++ head ++ rules ++ (map ++ addresses ++ pois ++ roads) ++ marks ++ again
file_is version head rules map addresses pois roads marks again o0 o1 o2 o3 o4 e0 e1 e2 e3 e4 =
    let f1 : o1 ≡ version ++ head ++ rules = e1 ∙ ap (λ (o : List ℕ). o ++ version ++ head ++ rules) e0 in
    let f2 : o2 ≡ version ++ head ++ rules ++ (map ++ addresses ++ pois ++ roads) =
    e2 ∙ ap (λ (o : List ℕ). o ++ map ++ addresses ++ pois ++ roads) f1 ∙ four_behind (version ++ head ++ rules) map addresses pois roads in
    e4 ∙ ap (λ (o : List ℕ). o ++ again) (e3 ∙ ap (λ (o : List ℕ). o ++ marks) f2)

-- sections of these payloads behind what is there
pub four_put : (out : List ℕ) {m n a b p q r s : List ℕ} → m ≡ n → a ≡ b → p ≡ q → r ≡ s
    → out ++ section 6 m ++ section 7 a ++ section 8 p ++ section 9 r ≡ out ++ section 6 n ++ section 7 b ++ section 8 q ++ section 9 s
four_put out map addresses pois roads = rw (map, addresses, pois, roads) refl
