-- A list of which every rule holds is one that can be searched.
use Rattle.std.proofs.Common.{◌≡◌, ◌≤◌, ◌==◌, ℕ, zero, suc, Bool, true, false, cond, ◌&&◌, ◌||◌, not, List, [], ◌∷◌, ◌++◌, length, map, Option, Some, None, refl, sym, ap, subst, ◌∙◌, inl, inr, arith}
use Rattle.std.specs.Prelude.{◌⊎◌, bytes_eq, flat_map, nat_le, nat_lt, slice_range}
use Rattle.std.specs.List.{AllByRecursion}
use Rattle.std.specs.Ordering.{is_eq, is_gt, is_lt}
use Rattle.std.specs.Str.{is_utf8}
use Rattle.std.specs.declared.cmp.Ordering.{Ordering}
use Rattle.std.specs.declared.cmp.Ordering.TheVariants.{Less, Equal, Greater}
use Rattle.std.proofs.lemmas.Bool.{and_parts, eqb-true, leb-true, or_cases}
use Rattle.std.proofs.lemmas.Bool.Decides.{nat_tests}
use Rattle.std.proofs.lemmas.Slice.Eq.{bytes_eq-Decides}
use Rattle.ordered_lists.proofs.PutAll.{all_map}
use Rattle.ordered_lists.proofs.StableSort.{AreUp}
use Rattle.name_fold.specs.Keys.{key}
use Rattle.live_model.specs.declared.addresses.AddrRec.{AddrRec}
use Rattle.live_model.specs.Maps.{is_house}
use Rattle.live_model.specs.Records.{is_empty}
use Rattle.text_table.specs.Tables.{text_cmp}
use Rattle.file_grammar.specs.declared.parts.Version.{Version}
use Rattle.file_grammar.specs.AddressRules.{Address, KeyEntry, KeyedBlock, KeyedList, address_facts, address_record_of, addresses_in, addresses_rise, entry_facts, entry_pairs, first_at, first_of, has_key, is_kind_in, key_facts, keyed_block_fact, keyed_facts, kind_from, last_of}
use Rattle.file_grammar.specs.BoxRules.{Beside, is_ordinal}
use Rattle.file_grammar.specs.Facts.{AllHold, Fact}
use Rattle.file_grammar.specs.Sections.{Placed}
use Rattle.boxed_exact.specs.declared.fields.Payload.{Payload}
use Rattle.boxed_laws.proofs.FittingRecords.{Holds, all_before, all_behind}
use Rattle.boxed_read.specs.Steps.{joined}
use Rattle.addr_section.specs.declared.kept.EntryKept.{EntryKept}
use Rattle.addr_section.specs.declared.kept.ListKept.{ListKept}
use Rattle.addr_section.specs.Asked.{all_facts}
use Rattle.addr_section.specs.Kept.{AreEntriesKept, IsListKept, IsTextAt}
use Rattle.addr_read.specs.Records.{records_of}
use Rattle.addr_read.specs.Searching.{AreRising, IsAtMost, text_in}
use Rattle.addr_read.proofs.AddressRead.{key_found}
use Rattle.addr_read.proofs.Due.{AreEnds, IsEnds}
use Rattle.addr_read.proofs.Keyed.{AreOf, IsKeyedBlock, blocks_keyed, by_key, listed_of, rising_is}
use Rattle.addr_read.proofs.SectionRead.{list_joined, spans_read}
use Rattle.addr_read.proofs.TextOrder.{at_most_through}

-- ---- one address

-- its key is that of its name and UTF-8, and it is of the list
pub record IsKeyed (houses : Bool) (a : Address) : Type 0 where
  pub utf8 : is_utf8 a.key.value ≡ true
  pub key_is : a.key.value ≡ key a.name.value
  pub kind : is_house (kind_from a.kind.value) ≡ houses

kind_found : (houses : Bool) (kind : ℕ) → is_kind_in houses kind ≡ true → is_house (kind_from kind) ≡ houses
kind_found true kind e = ap (λ (n : ℕ). is_house (kind_from n)) (eqb-true kind 2 e)
kind_found false zero e = refl
kind_found false (suc zero) e = refl
kind_found false (suc (suc n)) e = absurd (let le = leb-true (suc (suc n)) 1 e in omega (arith, le))

keyed : (houses : Bool) (beside : Beside) (prev : Option Address) (a : Address) → AllHold (address_facts houses beside (prev, a)) → IsKeyed houses a
keyed houses beside prev a all =
    let name = and_parts (is_utf8 a.name.value) (not (is_empty a.name.value)) all.1.1.1.1.1.0 in
    let utf8 = and_parts (is_utf8 a.key.value) _ all.1.1.1.1.0 in
    record { utf8 = utf8.0; key_is = key_found a.name.value a.key.value name.0 all.1.1.1.1.0; kind = kind_found houses a.kind.value all.1.1.1.0 }

all_keyed : (houses : Bool) (beside : Beside) (prev : Option Address) (xs : List Address) → AllHold (all_facts houses beside prev xs) → AllByRecursion (IsKeyed houses) xs
all_keyed houses beside prev [] all = tt
all_keyed houses beside prev (x ∷ xs) all =
    let front : List Fact = address_facts houses beside (prev, x) in
    let rest : List Fact = all_facts houses beside (Some x) xs in
    (keyed houses beside prev x (all_before Holds front rest all), all_keyed houses beside (Some x) xs (all_behind Holds front rest all))

-- ---- they rise by their keys

lt_up : (r : Ordering) (more : Bool) → (is_lt r || (is_eq r && more)) ≡ true → is_gt r ≡ false
lt_up Less more e = refl
lt_up Equal more e = refl
lt_up Greater more e = absurd cc

-- rising by kind and ordinal
abbrev numbers_rise : Address → Address → Bool
numbers_rise a b =
    nat_lt a.kind.value b.kind.value
    || ((a.kind.value == b.kind.value) && (nat_le a.ordinal.value b.ordinal.value || not (is_ordinal a.ordinal.value && is_ordinal b.ordinal.value)))

-- rising by key, kind and ordinal
abbrev all_rise : Address → Address → Bool
all_rise a b = is_lt (text_cmp a.key.value b.key.value) || (is_eq (text_cmp a.key.value b.key.value) && numbers_rise a b)

rise : (houses : Bool) (x y : Address) → IsKeyed houses x → IsKeyed houses y → addresses_rise x y ≡ true → IsAtMost (key x.name.value) (key y.name.value)
rise houses x y kx ky e = one (or_cases (all_rise x y) (not (is_utf8 x.key.value && is_utf8 y.key.value)) e)
  where
    both : (is_utf8 x.key.value && is_utf8 y.key.value) ≡ true
    both = rw kx.utf8 ky.utf8

    one : (all_rise x y ≡ true) ⊎ (not (is_utf8 x.key.value && is_utf8 y.key.value) ≡ true) → IsAtMost (key x.name.value) (key y.name.value)
    one (inl up) = subst (λ (k : List ℕ). IsAtMost k (key y.name.value)) kx.key_is (subst (λ (k : List ℕ). IsAtMost x.key.value k) ky.key_is (lt_up (text_cmp x.key.value y.key.value) (numbers_rise x y) up))
    one (inr bad) = absurd (let f : not true ≡ true = subst (λ (b : Bool). not b ≡ true) both bad in cc)

up_all : (houses : Bool) (beside : Beside) (prev : Option Address) (xs : List Address) → AllByRecursion (IsKeyed houses) xs → AllHold (all_facts houses beside prev xs) → AreUp by_key (map address_record_of xs)
up_all houses beside prev [] keys all = tt
up_all houses beside prev (x ∷ []) keys all = (tt, tt)
up_all houses beside prev (x ∷ y ∷ ys) keys all =
    let front : List Fact = address_facts houses beside (prev, x) in
    let rest : List Fact = all_facts houses beside (Some x) (y ∷ ys) in
    let later = all_behind Holds front rest all in
    let second = all_before Holds (address_facts houses beside (Some x, y)) (all_facts houses beside (Some y) ys) later in
    let step = rise houses x y keys.0 keys.1.0 second.0 in
    let again = up_all houses beside (Some x) (y ∷ ys) keys.1 later in (
      (
        step,
        all_map (λ z. IsAtMost (key y.name.value) (key z.name)) (λ z. IsAtMost (key x.name.value) (key z.name)) (map address_record_of ys) (λ z low. at_most_through (key x.name.value) (key y.name.value) (key z.name) step low) again.0,
      ),
      again,
    )

-- ---- blocks beside their entries

abbrev records_in : KeyedBlock → List AddrRec
records_in block = map address_record_of block.addresses

kinds_of : (houses : Bool) (xs : List Address) → AllByRecursion (IsKeyed houses) xs → AreOf houses (map address_record_of xs)
kinds_of houses [] keys = tt
kinds_of houses (x ∷ xs) keys = (keys.0.kind, kinds_of houses xs keys.1)

all_of : (houses : Bool) (blocks : List KeyedBlock) → AllByRecursion (IsKeyed houses) (addresses_in blocks) → AllByRecursion (AreOf houses) (map records_in blocks)
all_of houses [] keys = tt
all_of houses (block ∷ blocks) keys = (
  kinds_of houses block.addresses (all_before (IsKeyed houses) block.addresses (addresses_in blocks) keys),
  all_of houses blocks (all_behind (IsKeyed houses) block.addresses (addresses_in blocks) keys),
)

last_kept : (x : Address) (xs : List Address) → (l : Address) × (last_of (x ∷ xs) ≡ Some l) × (last_of (map address_record_of (x ∷ xs)) ≡ Some (address_record_of l))
last_kept x [] = (x, refl, refl)
last_kept x (y ∷ ys) = last_kept y ys

last_keyed : (houses : Bool) (xs : List Address) (l : Address) → last_of xs ≡ Some l → AllByRecursion (IsKeyed houses) xs → IsKeyed houses l
last_keyed houses [] l e keys = absurd cc
last_keyed houses (x ∷ []) l e keys = let same : x ≡ l = cc in subst (IsKeyed houses) same keys.0
last_keyed houses (x ∷ y ∷ ys) l e keys = last_keyed houses (y ∷ ys) l e keys.1

-- the text stands within the bytes
text_found : (bytes : List ℕ) (span : Payload) (text : Placed (List ℕ)) → IsTextAt bytes span text → text_in bytes span ≡ text.value
text_found bytes span text at =
    let a : nat_le span.from span.to ≡ true = let le = at.inside.ordered in grind (arith, nat_tests) in
    let b : nat_le span.to (length bytes) ≡ true = let le = at.inside.within in grind (arith, nat_tests) in
    ap (λ (t : Bool). cond (t && nat_le span.to (length bytes)) (slice_range bytes span.from span.to) []) a ∙ ap (λ (t : Bool). cond t (slice_range bytes span.from span.to) []) b ∙ at.is

-- an entry has the key of an address
key_kept : (houses : Bool) (k : List ℕ) (a : Address) → is_utf8 k ≡ true → IsKeyed houses a → has_key k (Some a) ≡ true → k ≡ key a.name.value
key_kept houses k a utf8 is e = one (or_cases (bytes_eq k a.key.value) (not (is_utf8 k && is_utf8 a.key.value)) e)
  where
    both : (is_utf8 k && is_utf8 a.key.value) ≡ true
    both = rw utf8 is.utf8

    one : (bytes_eq k a.key.value ≡ true) ⊎ (not (is_utf8 k && is_utf8 a.key.value) ≡ true) → k ≡ key a.name.value
    one (inl same) = (bytes_eq-Decides k a.key.value).0 same ∙ is.key_is
    one (inr bad) = absurd (let f : not true ≡ true = subst (λ (b : Bool). not b ≡ true) both bad in cc)

module _ (houses : Bool) (bytes : List ℕ) where
  ends_are : (start : ℕ) (kept : EntryKept) (entry : KeyEntry) (block : KeyedBlock) → IsTextAt bytes kept.first entry.first → IsTextAt bytes kept.last entry.last → AllHold (entry_facts entry) → AllHold (key_facts start entry block)
      → 1 ≤ length block.addresses → AllByRecursion (IsKeyed houses) block.addresses → IsEnds houses bytes kept (records_in block)
  ends_are start kept entry block first last utf8 keys some are = one block.addresses refl
    where
      parts : (has_key entry.first.value (first_of block.addresses) ≡ true) × (has_key entry.last.value (last_of block.addresses) ≡ true)
      parts = and_parts (has_key entry.first.value (first_of block.addresses)) (has_key entry.last.value (last_of block.addresses)) keys.1.0

      one : (xs : List Address) → block.addresses ≡ xs → IsEnds houses bytes kept (records_in block)
      one [] e = absurd (let none : length block.addresses ≡ 0 = ap length e in omega (arith, none, some))
      one (x ∷ xs) e =
          let l = last_kept x xs in
          let all : AllByRecursion (IsKeyed houses) (x ∷ xs) = subst (AllByRecursion (IsKeyed houses)) e are in
          let kx : IsKeyed houses x = all.0 in
          let kl : IsKeyed houses l.0 = last_keyed houses (x ∷ xs) l.0 l.1 all in
          let has_first : has_key entry.first.value (Some x) ≡ true = subst (λ (ys : List Address). has_key entry.first.value (first_of ys) ≡ true) e parts.0 in
          let has_last : has_key entry.last.value (Some l.0) ≡ true = subst (λ (o : Option Address). has_key entry.last.value o ≡ true) l.1 (subst (λ (ys : List Address). has_key entry.last.value (last_of ys) ≡ true) e parts.1) in
          record {
            first = address_record_of x;
            last = address_record_of l.0;
            first_is = ap (λ (ys : List Address). first_of (map address_record_of ys)) e;
            last_is = ap (λ (ys : List Address). last_of (map address_record_of ys)) e ∙ l.2;
            listed = listed_of houses (kind_from x.kind.value) kx.kind;
            first_key = text_found bytes kept.first entry.first first ∙ key_kept houses entry.first.value x utf8.0 kx has_first;
            last_key = text_found bytes kept.last entry.last last ∙ key_kept houses entry.last.value l.0 utf8.1.0 kl has_last;
          }

  all_ends : (start : ℕ) (kept : List EntryKept) (entries : List KeyEntry) (blocks : List KeyedBlock) → AreEntriesKept bytes kept entries → AllHold (flat_map entry_facts entries) → AllHold (entry_pairs start entries blocks)
      → AllHold (map keyed_block_fact blocks) → AllByRecursion (IsKeyed houses) (addresses_in blocks) → AreEnds houses bytes kept (map records_in blocks)
  all_ends start [] [] [] are utf8 pairs counts keys = tt
  all_ends start [] [] (block ∷ blocks) are utf8 pairs counts keys = absurd (let f = pairs.0 in cc)
  all_ends start [] (entry ∷ entries) blocks are utf8 pairs counts keys = absurd are
  all_ends start (kept ∷ more) [] blocks are utf8 pairs counts keys = absurd are
  all_ends start (kept ∷ more) (entry ∷ entries) [] are utf8 pairs counts keys = absurd (let f = pairs.0 in cc)
  all_ends start (kept ∷ more) (entry ∷ entries) (block ∷ blocks) are utf8 pairs counts keys = (
    ends_are start kept entry block are.0.first are.0.last (all_before Holds (entry_facts entry) (flat_map entry_facts entries) utf8) (all_before Holds (key_facts start entry block) (entry_pairs start entries blocks) pairs)
        (leb-true 1 (length block.addresses) (and_parts (nat_le 1 (length block.addresses)) (nat_le (length block.addresses) 64) counts.0).0)
        (all_before (IsKeyed houses) block.addresses (addresses_in blocks) keys),
    all_ends start more entries blocks are.1 (all_behind Holds (entry_facts entry) (flat_map entry_facts entries) utf8) (all_behind Holds (key_facts start entry block) (entry_pairs start entries blocks) pairs) counts.1
        (all_behind (IsKeyed houses) block.addresses (addresses_in blocks) keys),
  )

ends_count : (houses : Bool) (bytes : List ℕ) (es : List EntryKept) (bs : List (List AddrRec)) → AreEnds houses bytes es bs → length es ≡ length bs
ends_count houses bytes [] [] are = refl
ends_count houses bytes [] (b ∷ bs) are = absurd are
ends_count houses bytes (e ∷ es) [] are = absurd are
ends_count houses bytes (e ∷ es) (b ∷ bs) are = ap suc (ends_count houses bytes es bs are.1)

-- ---- a list

-- what is known of the blocks of a list beside its entries
pub record IsSearched (houses : Bool) (bytes : List ℕ) (es : List EntryKept) (bs : List (List AddrRec)) : Type 0 where
  pub kinds : AllByRecursion (AreOf houses) bs
  pub blocks : AllByRecursion IsKeyedBlock bs
  pub ends : AreEnds houses bytes es bs
  pub rising : AreRising bytes es
  pub same : length es ≡ length bs

pub list_searched : (version : Version) (houses : Bool) (beside : Beside) (bytes : List ℕ) (kept : ListKept) (list : KeyedList) → IsListKept version bytes kept list → AllHold (keyed_facts houses beside list)
    → IsSearched houses bytes kept.entries.items (records_of version bytes kept.blocks.items)
unfolding keyed_facts
list_searched version houses beside bytes kept list are all =
    let texts : List Fact = flat_map entry_facts list.entries in
    let pairs : List Fact = entry_pairs (first_at list.blocks) list.entries list.blocks in
    let counts : List Fact = map keyed_block_fact list.blocks in
    let addresses : List Fact = all_facts houses beside None (addresses_in list.blocks) in
    let three = all_before Holds (texts ++ pairs ++ counts) addresses all in
    let two = all_before Holds (texts ++ pairs) counts three in
    let last = all_behind Holds (texts ++ pairs ++ counts) addresses all in
    let keys = all_keyed houses beside None (addresses_in list.blocks) last in
    let up : AreUp by_key (joined (map records_in list.blocks)) = subst (AreUp by_key) (sym (list_joined list.blocks)) (up_all houses beside None (addresses_in list.blocks) keys last) in
    let kinds = all_of houses list.blocks keys in
    let ends = all_ends houses bytes (first_at list.blocks) kept.entries.items list.entries list.blocks are.entries (all_before Holds texts pairs two) (all_behind Holds texts pairs two) (all_behind Holds (texts ++ pairs) counts three) keys in
    subst (IsSearched houses bytes kept.entries.items) (sym (spans_read version bytes kept.blocks.items list.blocks are.blocks))
    (record { kinds = kinds; blocks = blocks_keyed houses (map records_in list.blocks) kinds up; ends = ends; rising = rising_is houses bytes kept.entries.items (map records_in list.blocks) ends up; same = ends_count houses bytes kept.entries.items (map records_in list.blocks) ends })
