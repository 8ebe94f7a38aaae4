-- The objects that lines touch, by an index.
use Rattle.std.proofs.Common.{◌≡◌, ◌∙◌, ℕ, List, [], ◌∷◌, ◌++◌, flat_map, refl, sym, ap}
use Rattle.std.proofs.lemmas.List.{append-nil}
use Rattle.live_model.specs.declared.objects.Entity.{Entity}
use Rattle.live_model.specs.declared.objects.Line.{Line}
use Rattle.live_model.specs.Ids.{Id}
use Rattle.live_model.specs.Closures.{line_id, rising_ids}
use Rattle.live_model.specs.Users.{touched, users_of}
use Rattle.ref_index.specs.Indexes.{Indexes, users_in}

-- the object of a line, and its users by an index
abbrev pub with_users : List (ℕ × List Id) → Line → List Id
with_users map line = line_id line ∷ users_in map (line_id line)

-- they are those of the store that is indexed
of_store : (map : List (ℕ × List Id)) (store : List Entity) → Indexes map store → (lines : List Line) → flat_map (with_users map) lines ≡ flat_map (λ line. line_id line ∷ users_of store (line_id line)) lines
of_store map store is [] = refl
of_store map store is (line ∷ lines) = λ i. (line_id line ∷ is (line_id line) i) ++ of_store map store is lines i

-- where no line is left, all are there
pub all_touched : (map : List (ℕ × List Id)) (lines left : List Line) (ids rising : List Id) → left ≡ [] → ids ++ flat_map (with_users map) left ≡ flat_map (with_users map) lines → rising ≡ rising_ids ids
    → (store : List Entity) → Indexes map store → rising ≡ touched store lines
all_touched map lines left ids rising none are sorted store is =
    sorted ∙ ap rising_ids (sym (append-nil ids) ∙ sym (ap (λ ls. ids ++ flat_map (with_users map) ls) none) ∙ are ∙ of_store map store is lines)
