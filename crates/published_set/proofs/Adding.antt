-- A set with one publication and one file more.
use Rattle.std.proofs.Common.{◌≡◌, ℕ, ◌+◌, ◌<◌, ◌≤◌, IsTrue, Bool, true, false, ◌&&◌, nat_lt, ◌^◌, ◌-◌, Option, Some, None, List, [], ◌∷◌, ◌++◌, length, map, refl, sym, ap, ap₂, subst, ◌∙◌, arith}
use Rattle.std.specs.List.{AllByRecursion}
use Rattle.live_model.specs.declared.rules.Rule.{Rule}
use Rattle.live_model.specs.Objects.{IsGoodLine}
use Rattle.std.proofs.lemmas.Bool.Decides.{nat_tests}
use Rattle.std.specs.Prelude.{MatchOption, SomeIff}
use Rattle.obf_reader.specs.Images.{Seen}
use Rattle.overlay_set.specs.Sets.{Entry, Image, MapFile, age, images_of}
use Rattle.overlay_set.specs.Standing.{Stands}
use Rattle.overlay_set.specs.Swaps.{Add, Takes, applied, common_rules}
use Rattle.overlay_set.proofs.Adding.{stands_add}
use Rattle.overlay_set.proofs.Laws.{goes_on}
use Rattle.overlay_set.proofs.Lists.{map-append}
use Rattle.published_set.proofs.Files.{files_length, seen_length}
use Rattle.published_set.specs.declared.entry.Published.{Published}
use Rattle.published_set.specs.Images.{image_of}
use Rattle.published_set.specs.Ops.{has_room}
use Rattle.published_set.specs.Sets.{IsStanding, PublishedSet, entry_of, files_of, images_in}

files_added : (ns : List ℕ) (is : List Image) (n : ℕ) (i : Image) → length ns ≡ length is → files_of (ns ++ n ∷ []) (is ++ i ∷ []) ≡ files_of ns is ++ record { number = n; image = i } ∷ []
files_added [] [] n i e = refl
files_added [] (j ∷ is) n i e = absurd (omega (arith, e))
files_added (m ∷ ns) [] n i e = absurd (omega (arith, e))
files_added (m ∷ ns) (j ∷ is) n i e = ap (λ l. record { number = m; image = j } ∷ l) (files_added ns is n i (omega (arith, e)))

images_added : {A : Type 0} (f : A → Seen) (xs : List A) (x : A) → images_in (map f (xs ++ x ∷ [])) ≡ images_in (map f xs) ++ image_of (f x) ∷ []
images_added f [] x = refl
images_added f (y ∷ ys) x = ap (λ l. image_of (f y) ∷ l) (images_added f ys x)

images_count : {A : Type 0} (f : A → Seen) (xs : List A) → length (images_in (map f xs)) ≡ length xs
images_count f [] = refl
images_count f (x ∷ xs) = omega (arith, images_count f xs)

pub state_added : {A : Type 0} (f : A → Seen) (history : List Published) (p : Published) (ns : List ℕ) (xs : List A) (n : ℕ) (x : A) → length ns ≡ length xs
    → n ≡ age (record { history = map entry_of history; files = files_of ns (images_in (map f xs)) }) + 1
    → record { history = map entry_of (history ++ p ∷ []); files = files_of (ns ++ n ∷ []) (images_in (map f (xs ++ x ∷ []))) }
    ≡ applied (record { history = map entry_of history; files = files_of ns (images_in (map f xs)) }) (Add (entry_of p) (image_of (f x)))
state_added f history p ns xs n x even next =
    ap₂ (λ (h : List Entry) (fs : List MapFile). record { history = h; files = fs }) (map-append entry_of history (p ∷ []))
    (ap (files_of (ns ++ n ∷ [])) (images_added f xs x) ∙ files_added ns (images_in (map f xs)) n (image_of (f x)) (even ∙ sym (images_count f xs))
    ∙ ap (λ (m : ℕ). files_of ns (images_in (map f xs)) ++ record { number = m; image = image_of (f x) } ∷ []) next)

first_stays : (files : List MapFile) (new : MapFile) (b : MapFile) (above : List MapFile) → files ≡ b ∷ above → common_rules (images_of (files ++ new ∷ [])) ≡ common_rules (images_of files)
first_stays files new b above e = ap (λ fs. common_rules (images_of (fs ++ new ∷ []))) e ∙ sym (ap (λ fs. common_rules (images_of fs)) e)

pub added_stands : (set : PublishedSet) (entry : Entry) (image : Image) → IsStanding set → AllByRecursion IsGoodLine entry.lines
    → Takes (common_rules (images_of set.state.files)) set.base set.state (Add entry image) → IsStanding (record { base = set.base; state = applied set.state (Add entry image) })
added_stands set entry image st fine takes = record {
  stands = subst (λ (rules : List Rule). Stands rules set.base (applied set.state (Add entry image)))
      (sym (first_stays set.state.files (record { number = age set.state + 1; image = image }) _ st.stands.above st.stands.files))
      (stands_add (common_rules (images_of set.state.files)) set.base set.state entry image st.stands takes);
  good_base = st.good_base;
  good_history = goes_on set.state (Add entry image) st.good_history fine;
}

pub small_age : (set : PublishedSet) → IsStanding set → length set.state.history ≤ 65536 → age set.state ≤ 262144
small_age set st few = omega (arith, st.stands.light)

-- Room.

pub entries_length : (history : List Published) → length (map entry_of history) ≡ length history
entries_length [] = refl
entries_length (p ∷ ps) = omega (arith, entries_length ps)

-- room is told by the lengths of what is kept
pub room_is : {A : Type 0} (f : A → Seen) (history : List Published) (ns : List ℕ) (xs : List A) → length ns ≡ length xs
    → has_room (record { history = map entry_of history; files = files_of ns (images_in (map f xs)) }) ≡ (nat_lt (length history) 65536 && nat_lt (length ns) 1024)
room_is f history ns xs even =
    ap₂ (λ (m n : ℕ). nat_lt m 65536 && nat_lt n 1024) (entries_length history) (files_length ns (map f xs) (even ∙ sym (seen_length f xs)) ∙ seen_length f xs ∙ sym even)

pub room_for : (m n : ℕ) → (nat_lt m 65536 && nat_lt n 1024) ≡ true → (m < 65536) × (n < 1024)
room_for m n e = go (nat_lt m 65536) refl (nat_lt n 1024) refl e
  where
    go : (a : Bool) → nat_lt m 65536 ≡ a → (b : Bool) → nat_lt n 1024 ≡ b → (a && b) ≡ true → (m < 65536) × (n < 1024)
    go true is true js e = (grind (arith, nat_tests), grind (arith, nat_tests))
    go true is false js e = absurd cc
    go false is b js e = absurd cc

-- where there is room, fewer are kept than there may be
pub room_left : {A : Type 0} (f : A → Seen) (history : List Published) (ns : List ℕ) (xs : List A) → length ns ≡ length xs
    → IsTrue (has_room (record { history = map entry_of history; files = files_of ns (images_in (map f xs)) })) → (length history < 65536) × (length ns < 1024)
room_left f history ns xs even room = room_for (length history) (length ns) (sym (room_is f history ns xs even) ∙ room)

-- a number above the greatest is left where one more fits into 64 bits
pub number_told : (count greatest : ℕ) (o : Option ℕ) → 0 < count → SomeIff o (greatest + 1 < 2 ^ 64) (greatest + 1)
    → MatchOption o ((nat_lt 0 count && nat_lt greatest (2 ^ 64 - 1)) ≡ false) (λ n. ((nat_lt 0 count && nat_lt greatest (2 ^ 64 - 1)) ≡ true) × (n ≡ greatest + 1))
number_told count greatest None some told =
    let filled : nat_lt 0 count ≡ true = grind (arith, nat_tests, some) in
    let last : nat_lt greatest (2 ^ 64 - 1) ≡ false = grind (arith, nat_tests, told) in
    ap₂ (λ a b. a && b) filled last
number_told count greatest (Some n) some told =
    let filled : nat_lt 0 count ≡ true = grind (arith, nat_tests, some) in
    let left : nat_lt greatest (2 ^ 64 - 1) ≡ true = grind (arith, nat_tests, told.0) in
    (ap₂ (λ a b. a && b) filled left, told.1)
