-- Blocks whose addresses rise by their keys: what a key finds stands in the blocks that are due.
use Rattle.std.proofs.Common.{◌≡◌, ℕ, Bool, true, false, cond, ◌&&◌, not, List, [], ◌∷◌, ◌++◌, map, Option, Some, refl, sym, ap, subst, ◌∙◌}
use Rattle.std.specs.Prelude.{bytes_eq, filter}
use Rattle.std.specs.List.{AllByRecursion}
use Rattle.std.specs.declared.cmp.Ordering.{Ordering}
use Rattle.std.proofs.lemmas.Bool.{and_parts}
use Rattle.std.proofs.lemmas.List.Elements.{filter-append}
use Rattle.std.proofs.lemmas.Slice.Eq.{bytes_eq-Decides}
use Rattle.ordered_lists.proofs.PutAll.{filter_no}
use Rattle.ordered_lists.proofs.StableSort.{AreUp}
use Rattle.name_fold.specs.Keys.{key}
use Rattle.live_model.specs.declared.addresses.AddrKind.{AddrKind}
use Rattle.live_model.specs.declared.addresses.AddrKind.TheVariants.{Place, Street, House}
use Rattle.live_model.specs.declared.addresses.AddrRec.{AddrRec}
use Rattle.live_model.specs.Maps.{is_house, is_named_place}
use Rattle.text_table.specs.Tables.{text_cmp}
use Rattle.file_grammar.specs.AddressRules.{first_of, last_of}
use Rattle.boxed_laws.proofs.FittingRecords.{all_before, all_behind}
use Rattle.boxed_read.specs.Steps.{joined}
use Rattle.addr_section.specs.declared.kept.EntryKept.{EntryKept}
use Rattle.addr_read.specs.Finding.{due_blocks, is_listed, is_reached, is_wanted, may_hold}
use Rattle.addr_read.specs.Searching.{AreRising, IsAhead, IsAtMost, text_in}
use Rattle.addr_read.proofs.Due.{AreEnds}
use Rattle.addr_read.proofs.TextOrder.{at_most_itself, at_most_through, begins, front_at_most, not_below, reached_begun, reached_front, reached_itself}

-- the order of addresses by the keys of their names
abbrev pub by_key : AddrRec → AddrRec → Ordering
by_key a b = text_cmp (key a.name) (key b.name)

-- addresses of one list
abbrev pub AreOf : Bool → List AddrRec → Type 0
AreOf houses b = AllByRecursion (λ a. is_house a.kind ≡ houses) b

-- a block of one list, whose addresses rise by their keys
pub record IsKeyedBlock (b : List AddrRec) : Type 0 where
  pub houses : Bool
  pub kinds : AreOf houses b
  pub up : AreUp by_key b

-- ---- the first and the last of a block

pub some_last : (x : AddrRec) (xs : List AddrRec) → (l : AddrRec) × (last_of (x ∷ xs) ≡ Some l)
some_last x [] = (x, refl)
some_last x (y ∷ ys) = some_last y ys

pub first_in : (P : AddrRec → Type 0) (b : List AddrRec) (f : AddrRec) → first_of b ≡ Some f → AllByRecursion P b → P f
first_in P [] f e all = absurd cc
first_in P (x ∷ xs) f e all = let same : x ≡ f = cc in subst P same all.0

pub last_in : (P : AddrRec → Type 0) (b : List AddrRec) (l : AddrRec) → last_of b ≡ Some l → AllByRecursion P b → P l
last_in P [] l e all = absurd cc
last_in P (x ∷ []) l e all = let same : x ≡ l = cc in subst P same all.0
last_in P (x ∷ y ∷ ys) l e all = last_in P (y ∷ ys) l e all.1

-- the first is at most each
pub first_at_most : (b : List AddrRec) (f : AddrRec) → first_of b ≡ Some f → AreUp by_key b → AllByRecursion (λ a. IsAtMost (key f.name) (key a.name)) b
first_at_most [] f e up = tt
first_at_most (x ∷ xs) f e up =
    let same : x ≡ f = cc in
    subst (λ (f : AddrRec). AllByRecursion (λ a. IsAtMost (key f.name) (key a.name)) (x ∷ xs)) same (at_most_itself (key x.name), up.0)

-- and each is at most the last
pub last_at_least : (b : List AddrRec) (l : AddrRec) → last_of b ≡ Some l → AreUp by_key b → AllByRecursion (λ a. IsAtMost (key a.name) (key l.name)) b
last_at_least [] l e up = tt
last_at_least (x ∷ []) l e up =
    let same : x ≡ l = cc in
    (subst (λ (l : AddrRec). IsAtMost (key x.name) (key l.name)) same (at_most_itself (key x.name)), tt)
last_at_least (x ∷ y ∷ ys) l e up =
    let again = last_at_least (y ∷ ys) l e up.1 in
    (at_most_through (key x.name) (key y.name) (key l.name) up.0.0 again.0, again)

-- ---- what is wanted stands where it may

named_is : (kind : AddrKind) → is_named_place kind ≡ not (is_house kind)
named_is Place = refl
named_is Street = refl
named_is House = refl

listed_is : (houses : Bool) (kind : AddrKind) (h : Bool) → is_house kind ≡ h → is_listed houses kind ≡ cond houses h (not h)
listed_is true kind h e = e
listed_is false kind h e = named_is kind ∙ ap not e

-- an address of a list is listed in it
pub listed_of : (houses : Bool) (kind : AddrKind) → is_house kind ≡ houses → is_listed houses kind ≡ true
listed_of true kind e = e
listed_of false kind e = named_is kind ∙ ap not e

-- an address of the same list is listed too
listed_too : (houses : Bool) (a b : AddrKind) (h : Bool) → is_house a ≡ h → is_house b ≡ h → is_listed houses a ≡ true → is_listed houses b ≡ true
listed_too houses a b h p q e = listed_is houses b h q ∙ sym (listed_is houses a h p) ∙ e

-- whether a key is the one that is wanted
abbrev found_by : Bool → List ℕ → List ℕ → Bool
found_by true k text = bytes_eq text k
found_by false k text = begins text k

wanted_is : (houses : Bool) (k : List ℕ) (a : AddrRec) → is_wanted houses k a ≡ (is_listed houses a.kind && found_by houses k (key a.name))
wanted_is true k a = refl
wanted_is false k a = refl

found_low : (houses : Bool) (k text : List ℕ) → found_by houses k text ≡ true → IsAtMost k text
found_low true k text e = subst (IsAtMost k) (sym ((bytes_eq-Decides text k).0 e)) (at_most_itself k)
found_low false k text e = front_at_most text k e

found_reached : (houses : Bool) (k text : List ℕ) → found_by houses k text ≡ true → is_reached houses k text ≡ true
found_reached true k text e = subst (λ (t : List ℕ). is_reached true k t ≡ true) (sym ((bytes_eq-Decides text k).0 e)) (reached_itself k)
found_reached false k text e = reached_begun text k e

module _ (houses : Bool) (k : List ℕ) where
  wanted_may : (h : Bool) (f l a : AddrRec) → is_house f.kind ≡ h → is_house a.kind ≡ h → IsAtMost (key f.name) (key a.name) → IsAtMost (key a.name) (key l.name) → is_wanted houses k a ≡ true
      → may_hold houses k (Some f) (Some l) ≡ true
  wanted_may h f l a p q low high e =
      let parts = and_parts (is_listed houses a.kind) (found_by houses k (key a.name)) (sym (wanted_is houses k a) ∙ e) in
      let listed = listed_too houses a.kind f.kind h q p parts.0 in
      let early = not_below k (key a.name) (key l.name) (found_low houses k (key a.name) parts.1) high in
      let late = reached_front houses (key f.name) (key a.name) k low (found_reached houses k (key a.name) parts.1) in
      rw listed rw early late

  fails : (s t : Bool) → (s ≡ true → t ≡ true) → t ≡ false → s ≡ false
  fails false t on e = refl
  fails true t on e = absurd (let f = on refl in cc)

  -- in a block that may not hold it nothing is wanted
  block_empty : (b : List AddrRec) → IsKeyedBlock b → may_hold houses k (first_of b) (last_of b) ≡ false → filter (is_wanted houses k) b ≡ []
  block_empty [] is e = refl
  block_empty (x ∷ xs) is e =
      let last = some_last x xs in
      let low = first_at_most (x ∷ xs) x refl is.up in
      let high = last_at_least (x ∷ xs) last.0 last.1 is.up in
      let none : may_hold houses k (Some x) (Some last.0) ≡ false = subst (λ (o : Option AddrRec). may_hold houses k (Some x) o ≡ false) last.1 e in
      filter_no (is_wanted houses k) (x ∷ xs) (each last.0 none (x ∷ xs) is.kinds low high)
    where
      each : (l : AddrRec) → may_hold houses k (Some x) (Some l) ≡ false → (xs : List AddrRec) → AreOf is.houses xs → AllByRecursion (λ a. IsAtMost (key x.name) (key a.name)) xs → AllByRecursion (λ a. IsAtMost (key a.name) (key l.name)) xs
          → AllByRecursion (λ a. is_wanted houses k a ≡ false) xs
      each l none [] kinds low high = tt
      each l none (a ∷ more) kinds low high = (
        fails (is_wanted houses k a) (may_hold houses k (Some x) (Some l)) (wanted_may is.houses x l a is.kinds.0 kinds.0 low.0 high.0) none,
        each l none more kinds.1 low.1 high.1,
      )

  -- all that is wanted stands in the blocks that are due
  pub found_in : (bs : List (List AddrRec)) → AllByRecursion IsKeyedBlock bs → joined (map (filter (is_wanted houses k)) (due_blocks houses k bs)) ≡ filter (is_wanted houses k) (joined bs)
  found_in [] all = refl
  found_in (b ∷ bs) all = one (may_hold houses k (first_of b) (last_of b)) refl (found_in bs all.1)
    where
      one : (s : Bool) → may_hold houses k (first_of b) (last_of b) ≡ s → joined (map (filter (is_wanted houses k)) (due_blocks houses k bs)) ≡ filter (is_wanted houses k) (joined bs)
          → joined (map (filter (is_wanted houses k)) (cond s (b ∷ due_blocks houses k bs) (due_blocks houses k bs))) ≡ filter (is_wanted houses k) (b ++ joined bs)
      one true e again = ap (λ (rest : List AddrRec). filter (is_wanted houses k) b ++ rest) again ∙ sym (filter-append (is_wanted houses k) b (joined bs))
      one false e again =
          again ∙ sym (filter-append (is_wanted houses k) b (joined bs) ∙ ap (λ (front : List AddrRec). front ++ filter (is_wanted houses k) (joined bs)) (block_empty b all.0 e))

  -- no block of the other list is due
  pub none_other : (h : Bool) (bs : List (List AddrRec)) → cond houses h (not h) ≡ false → AllByRecursion (AreOf h) bs → due_blocks houses k bs ≡ []
  none_other h [] other all = refl
  none_other h ([] ∷ bs) other all = none_other h bs other all.1
  none_other h ((x ∷ xs) ∷ bs) other all =
      let last = some_last x xs in
      let no : is_listed houses x.kind ≡ false = listed_is houses x.kind h all.0.0 ∙ other in
      rw last.1 rw no (none_other h bs other all.1)

-- ---- rising over blocks

pub record AreParts (xs ys : List AddrRec) : Type 0 where
  pub front : AreUp by_key xs
  pub back : AreUp by_key ys
  pub across : AllByRecursion (λ x. AllByRecursion (λ y. IsAtMost (key x.name) (key y.name)) ys) xs

pub up_parts : (xs ys : List AddrRec) → AreUp by_key (xs ++ ys) → AreParts xs ys
up_parts [] ys up = record { front = tt; back = up; across = tt }
up_parts (x ∷ xs) ys up =
    let again = up_parts xs ys up.1 in
    let le : AddrRec → Type 0 = λ y. IsAtMost (key x.name) (key y.name) in
    record { front = (all_before le xs ys up.0, again.front); back = again.back; across = (all_behind le xs ys up.0, again.across) }

pub blocks_keyed : (houses : Bool) (bs : List (List AddrRec)) → AllByRecursion (AreOf houses) bs → AreUp by_key (joined bs) → AllByRecursion IsKeyedBlock bs
blocks_keyed houses [] kinds up = tt
blocks_keyed houses (b ∷ bs) kinds up =
    let parts = up_parts b (joined bs) up in
    (record { houses = houses; kinds = kinds.0; up = parts.front }, blocks_keyed houses bs kinds.1 parts.back)

module _ (houses : Bool) (bytes : List ℕ) where
  -- entries of later blocks are not ahead of one whose keys are at most all theirs
  ahead_all : (e : EntryKept) (f l : AddrRec) (es : List EntryKept) (bs : List (List AddrRec)) → text_in bytes e.first ≡ key f.name → text_in bytes e.last ≡ key l.name → AreEnds houses bytes es bs
      → AllByRecursion (λ y. IsAtMost (key f.name) (key y.name)) (joined bs) → AllByRecursion (λ y. IsAtMost (key l.name) (key y.name)) (joined bs) → AllByRecursion (IsAhead bytes e) es
  ahead_all e f l [] [] first last are low high = tt
  ahead_all e f l [] (b ∷ bs) first last are low high = absurd are
  ahead_all e f l (g ∷ es) [] first last are low high = absurd are
  ahead_all e f l (g ∷ es) (b ∷ bs) first last are low high =
      let lower : AddrRec → Type 0 = λ y. IsAtMost (key f.name) (key y.name) in
      let higher : AddrRec → Type 0 = λ y. IsAtMost (key l.name) (key y.name) in
      let one = first_in lower b are.0.first are.0.first_is (all_before lower b (joined bs) low) in
      let two = last_in higher b are.0.last are.0.last_is (all_before higher b (joined bs) high) in (
        (
          subst (λ (t : List ℕ). IsAtMost t (text_in bytes g.first)) (sym first) (subst (λ (t : List ℕ). IsAtMost (key f.name) t) (sym are.0.first_key) one),
          subst (λ (t : List ℕ). IsAtMost t (text_in bytes g.last)) (sym last) (subst (λ (t : List ℕ). IsAtMost (key l.name) t) (sym are.0.last_key) two),
        ),
        ahead_all e f l es bs first last are.1 (all_behind lower b (joined bs) low) (all_behind higher b (joined bs) high),
      )

  pub rising_is : (es : List EntryKept) (bs : List (List AddrRec)) → AreEnds houses bytes es bs → AreUp by_key (joined bs) → AreRising bytes es
  rising_is [] [] are up = tt
  rising_is [] (b ∷ bs) are up = absurd are
  rising_is (e ∷ es) [] are up = absurd are
  rising_is (e ∷ es) (b ∷ bs) are up =
      let parts = up_parts b (joined bs) up in
      let first = are.0.first in
      let last = are.0.last in
      let own = last_in (λ y. IsAtMost (key first.name) (key y.name)) b last are.0.last_is (first_at_most b first are.0.first_is parts.front) in
      let low = first_in (λ x. AllByRecursion (λ y. IsAtMost (key x.name) (key y.name)) (joined bs)) b first are.0.first_is parts.across in
      let high = last_in (λ x. AllByRecursion (λ y. IsAtMost (key x.name) (key y.name)) (joined bs)) b last are.0.last_is parts.across in (
        subst (λ (t : List ℕ). IsAtMost t (text_in bytes e.last)) (sym are.0.first_key) (subst (λ (t : List ℕ). IsAtMost (key first.name) t) (sym are.0.last_key) own),
        ahead_all e first last es bs are.0.first_key are.0.last_key are.1 low high,
        rising_is es bs are.1 parts.back,
      )
