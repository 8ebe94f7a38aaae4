-- The groups of a category, one after another.
use Rattle.std.proofs.Common.{◌≡◌, ◌≤◌, ℕ, ◌+◌, Bool, true, false, List, [], ◌∷◌, ◌++◌, map, length, Option, Some, None, refl, sym, ap, ◌∙◌, arith, append_assoc}
use Rattle.std.specs.Prelude.{bytes_eq, sum}
use Rattle.std.proofs.lemmas.List.Sums.{sum_by-cons}
use Rattle.std.proofs.lemmas.List.{append-nil}
use Rattle.live_model.specs.declared.records.PoiRec.{PoiRec}
use Rattle.boxed_read.specs.Filters.{Hits, no_hits}
use Rattle.poi_section.specs.CategoryHits.{all_hits, joined_hits, of_category}
use Rattle.poi_section.specs.PoiSections.{GroupRead}

-- a group of the category is the first
pub of_it : (category : List ℕ) (g : GroupRead) (groups : List GroupRead) → bytes_eq g.category category ≡ true → of_category category (g ∷ groups) ≡ g ∷ of_category category groups
of_it category g groups same = rw same refl

-- another is none
pub of_another : (category : List ℕ) (g : GroupRead) (groups : List GroupRead) → bytes_eq g.category category ≡ false → of_category category (g ∷ groups) ≡ of_category category groups
of_another category g groups other = rw other refl

-- the records of a section, and those after it
pub records_of_all : (here : Option (Hits PoiRec)) (later : List (Hits PoiRec)) → (all_hits here later).records ≡ (all_hits here []).records ++ (joined_hits later).records
records_of_all None later = refl
records_of_all (Some here) later = ap (λ (rs : List PoiRec). rs ++ (joined_hits later).records) (sym (append-nil here.records))

sum_first : (n : ℕ) (ns : List ℕ) → sum (n ∷ ns) ≡ n + sum ns
sum_first n ns = sum_by-cons (λ (m : ℕ). m) n ns

pub blocks_of_all : (here : Option (Hits PoiRec)) (later : List (Hits PoiRec)) → (all_hits here later).blocks ≡ (all_hits here []).blocks + (joined_hits later).blocks
blocks_of_all None later = omega arith
blocks_of_all (Some here) later = omega (arith, sum_first here.blocks (map (λ (h : Hits PoiRec). h.blocks) later), sum_first here.blocks [])

-- the next record of the section is that of all
pub first_of_all : (old new : Option (Hits PoiRec)) (later : List (Hits PoiRec)) (view : PoiRec) → (all_hits old []).records ≡ view ∷ (all_hits new []).records → (all_hits old later).records ≡ view ∷ (all_hits new later).records
first_of_all old new later view e =
    records_of_all old later ∙ ap (λ (rs : List PoiRec). rs ++ (joined_hits later).records) e ∙ ap (λ (rs : List PoiRec). view ∷ rs) (sym (records_of_all new later))

-- where it has none, it is that of those after it
pub none_of_it : (old : Option (Hits PoiRec)) (later : List (Hits PoiRec)) → (all_hits old []).records ≡ [] → (all_hits old later).records ≡ (joined_hits later).records
none_of_it old later e = records_of_all old later ∙ ap (λ (rs : List PoiRec). rs ++ (joined_hits later).records) e

-- the next section
pub first_of_next : (found new : Hits PoiRec) (all later : List (Hits PoiRec)) (view : PoiRec) → all ≡ found ∷ later → found.records ≡ view ∷ new.records → (joined_hits all).records ≡ view ∷ (all_hits (Some new) later).records
first_of_next found new all later view e first = ap (λ (hs : List (Hits PoiRec)). (joined_hits hs).records) e ∙ ap (λ (rs : List PoiRec). rs ++ (joined_hits later).records) first

pub none_of_next : (found : Hits PoiRec) (all later : List (Hits PoiRec)) → all ≡ found ∷ later → found.records ≡ [] → (joined_hits all).records ≡ (joined_hits later).records
none_of_next found all later e none = ap (λ (hs : List (Hits PoiRec)). (joined_hits hs).records) e ∙ ap (λ (rs : List PoiRec). rs ++ (joined_hits later).records) none

pub blocks_of_next : (found : Hits PoiRec) (all later : List (Hits PoiRec)) → all ≡ found ∷ later → (joined_hits all).blocks ≡ found.blocks + (joined_hits later).blocks
blocks_of_next found all later e = ap (λ (hs : List (Hits PoiRec)). (joined_hits hs).blocks) e ∙ sum_first found.blocks (map (λ (h : Hits PoiRec). h.blocks) later)

-- a section that is done adds nothing
pub done_of_all : (here : Hits PoiRec) → here ≡ no_hits → all_hits (Some here) [] ≡ no_hits
done_of_all here e = ap (λ (h : Hits PoiRec). all_hits (Some h) []) e
