-- What is packed of addresses is a section of them, of which every rule holds.
use Rattle.std.proofs.Common.{◌≡◌, ◌≢◌, ℕ, suc, ◌+◌, ◌/◌, ◌^◌, ◌<◌, ◌≤◌, Bool, true, false, cond, List, [], ◌∷◌, ◌++◌, length, map, flat_map, Option, Some, None, refl, sym, ap, subst, ◌∙◌, arith, length-append}
use Rattle.std.proofs.lemmas.List.{append-nil}
use Rattle.std.specs.Prelude.{◌==◌, ◌&&◌, ◌||◌, not, nat_le, nat_lt, bytes_eq, filter}
use Rattle.std.specs.List.{AllByRecursion, list_all}
use Rattle.std.specs.List.Sorted.{IsPermutation}
use Rattle.std.specs.Ordering.{is_eq, is_gt, is_lt, nat_cmp, ordering_then}
use Rattle.std.specs.Str.{is_utf8}
use Rattle.std.specs.declared.cmp.Ordering.{Ordering}
use Rattle.std.specs.declared.cmp.Ordering.TheVariants.{Less, Equal, Greater}
use Rattle.std.proofs.lemmas.Bool.{and_from, eq-eqb, le-leb}
use Rattle.std.proofs.lemmas.Bool.Decides.{nat_tests}
use Rattle.std.proofs.lemmas.List.Sorted.{IsPermutation-append, IsPermutation-cons, IsPermutation-middle, IsPermutation-refl, IsPermutation-sym, IsPermutation-trans}
use Rattle.std.proofs.lemmas.Str.{is_utf8-from_IsUtf8}
use Rattle.name_fold.specs.Keys.{key}
use Rattle.live_model.specs.declared.addresses.AddrKind.{AddrKind}
use Rattle.live_model.specs.declared.addresses.AddrKind.TheVariants.{Place, Street, House}
use Rattle.live_model.specs.declared.addresses.AddrRec.{AddrRec}
use Rattle.live_model.specs.declared.ids.Kind.{Kind}
use Rattle.live_model.specs.declared.ids.Kind.TheVariants.{Node, Way, Relation}
use Rattle.live_model.specs.declared.points.Point.{Point}
use Rattle.live_model.specs.declared.rules.Rule.{Rule}
use Rattle.live_model.specs.Fits.{FitsAddress, IsAddressed, IsLanguageFor, IsNodeOrWay, IsNumber}
use Rattle.live_model.specs.Ids.{Id, ordinal, rank}
use Rattle.live_model.specs.Maps.{is_house}
use Rattle.live_model.specs.Points.{IsInGrid}
use Rattle.live_model.specs.Records.{address_rank, is_empty, is_language}
use Rattle.coord_delta.specs.Steps.{place_of, places}
use Rattle.coord_delta.proofs.NumberLists.{length-range}
use Rattle.coord_delta.proofs.PlaceLists.{numbers_lead}
use Rattle.obf_wire.specs.Varint.{varint}
use Rattle.obf_wire.specs.Fields.{Window, IsWindow, content, left_of, section}
use Rattle.text_table.specs.Tables.{text_cmp}
use Rattle.file_grammar.specs.declared.parts.Part.TheVariants.{Addresses as AddressesPart}
use Rattle.file_grammar.specs.declared.parts.Version.TheVariants.{Two}
use Rattle.file_grammar.specs.AddressRules.{Address, Addresses, address_facts, address_record_of, address_records_in, addresses_facts, addresses_in, addresses_of, addresses_rise, entry_facts, entry_pairs, first_at, first_of, has_key, is_addressed, is_kind_in, is_lang_for, is_number_for, keyed_block_fact, keyed_facts, kind_from, last_of, list_records}
use Rattle.file_grammar.specs.BoxRules.{follows, is_node, is_on_grid, is_ordinal, is_way, with_before}
use Rattle.file_grammar.specs.Facts.{AllHold, Fact}
use Rattle.file_grammar.specs.Messages.{Fields, IsMessage, beyond, inside}
use Rattle.file_grammar.specs.RecordRules.{is_node_or_way, is_one_location, only_point}
use Rattle.boxed_laws.specs.Bare.{stood, bytes_of}
use Rattle.boxed_laws.specs.Classes.{without_marks}
use Rattle.boxed_laws.proofs.BareFields.{formed, spelled}
use Rattle.boxed_laws.proofs.BareLevels.{IsPart, cuts_are_parts}
use Rattle.boxed_laws.proofs.BlockTexts.{all_join}
use Rattle.boxed_laws.proofs.BoxesAround.{grid_test}
use Rattle.boxed_laws.proofs.KeptItems.{cuts_of_sixty_four, moved_sorted, up_in_order}
use Rattle.boxed_laws.proofs.ObjectNumbers.{kind_of_ordinal, object_again, ordinal_is}
use Rattle.boxed_write.specs.Packed.{cuts, sorted_by}
use Rattle.boxed_write.proofs.Sorting.{AreUp, all_moved}
use Rattle.addr_section.specs.Packed.{block, is_listed, keyed_cmp, key_or_empty, keyed_blocks, entries_from, packed_addresses}
use Rattle.addr_section.proofs.Orders.{keyed_total}
use Rattle.obf_writer.proofs.BareAddresses.{address_at, addresses_at, bare_address, bare_addresses, bare_entry, bare_section, behind_entries, blocks_at, blocks_spelled, entries_at, houses_from, list_at, names_from, numbers_of, section_formed, section_read, section_spelled}
use Rattle.obf_writer.proofs.KeyTexts.{key_utf8}

-- the bytes of the window are addresses of which every rule holds, with these records
pub record HoldsAddresses (rules : List Rule) (w : Window) (records : List AddrRec) : Type 0 where
  pub fields : Fields
  pub form : IsMessage (AddressesPart Two) w fields
  pub sound : AllHold (addresses_facts (without_marks rules) (addresses_of fields))
  pub kept : IsPermutation records (address_records_in (addresses_of fields))

abbrev holds : Fact → Type 0
holds f = f.holds ≡ true

either : (a b : Bool) → a ≡ true → (a || b) ≡ true
either true b e = refl
either false b e = absurd cc

same_bytes : (xs : List ℕ) → bytes_eq xs xs ≡ true
same_bytes [] = refl
same_bytes (x ∷ xs) = and_from (x == x) (bytes_eq xs xs) (eq-eqb x x refl) (same_bytes xs)

-- ---- one address

-- an address of the list of houses, or of that of names
abbrev IsIn : Bool → AddrRec → Type 0
IsIn houses a = is_listed houses a ≡ true

kind_in : (houses : Bool) (kind : AddrKind) (a : AddrRec) → a.kind ≡ kind → IsIn houses a → is_kind_in houses (address_rank kind) ≡ true
kind_in true House a e in_list = refl
kind_in true Place a e in_list = let no : false ≡ true = subst (λ (k : AddrKind). is_house k ≡ true) e in_list in absurd cc
kind_in true Street a e in_list = let no : false ≡ true = subst (λ (k : AddrKind). is_house k ≡ true) e in_list in absurd cc
kind_in false House a e in_list = let no : false ≡ true = subst (λ (k : AddrKind). not (is_house k) ≡ true) e in_list in absurd cc
kind_in false Place a e in_list = refl
kind_in false Street a e in_list = refl

node_or_way : (kind : Kind) (n : ℕ) → IsNodeOrWay kind → n / 2 ^ 50 ≡ rank kind → is_node_or_way n ≡ true
node_or_way Node n other e = either (is_node n) (is_way n) (eq-eqb (n / 2 ^ 50) 0 e)
node_or_way Way n other e = rw (e) refl
node_or_way Relation n other e = absurd (other refl)

addressed : (kind : AddrKind) (of : Kind) (n : ℕ) → IsAddressed kind of → n / 2 ^ 50 ≡ rank of → is_addressed (address_rank kind) n ≡ true
addressed Place of n is e = node_or_way of n is e
addressed House of n is e = node_or_way of n is e
addressed Street of n is e = eq-eqb (n / 2 ^ 50) 1 (e ∙ ap rank is)

some_bytes : (n : ℕ) (ns : List ℕ) → is_empty (n ∷ ns) ≡ false
some_bytes n ns = grind (arith, nat_tests)

numbered : (kind : AddrKind) (number : List ℕ) → is_utf8 number ≡ true → IsNumber kind number → is_number_for (address_rank kind) number ≡ true
numbered Place number utf8 is = and_from (is_utf8 number) (is_empty number) utf8 (ap is_empty is)
numbered Street number utf8 is = and_from (is_utf8 number) (is_empty number) utf8 (ap is_empty is)
numbered House [] utf8 is = absurd (is refl)
numbered House (n ∷ ns) utf8 is = and_from (is_utf8 (n ∷ ns)) (not (is_empty (n ∷ ns))) utf8 (ap not (some_bytes n ns))

spoken : (kind : AddrKind) (lang : List ℕ) → IsLanguageFor kind lang → is_lang_for (address_rank kind) lang ≡ true
spoken Place lang is = one_of (is_empty lang) (is_language lang) is
  where
    one_of : (a b : Bool) → (a || b) ≡ true → (a || (b && true)) ≡ true
    one_of true b e = refl
    one_of false true e = refl
    one_of false false e = absurd cc
spoken Street lang is = one_of (is_empty lang) (is_language lang) is
  where
    one_of : (a b : Bool) → (a || b) ≡ true → (a || (b && true)) ≡ true
    one_of true b e = refl
    one_of false true e = refl
    one_of false false e = absurd cc
spoken House lang is = ap (λ (l : List ℕ). is_empty l || (is_language l && false)) is

not_empty : (name : List ℕ) → name ≢ [] → not (is_empty name) ≡ true
not_empty [] some = absurd (some refl)
not_empty (n ∷ ns) some = ap not (some_bytes n ns)

origin_leads : (a : AddrRec) → places (numbers_of a) ≡ place_of a.point ∷ []
origin_leads a = numbers_lead (record { x = 0; y = 0 }) (a.point ∷ [])

one_location : (a : AddrRec) → IsInGrid a.point → is_one_location (places (numbers_of a)) ≡ true
one_location a grid =
    ap is_one_location (origin_leads a)
    ∙ and_from (list_all is_on_grid (place_of a.point ∷ [])) (length (place_of a.point ∷ []) == 1) (and_from (is_on_grid (place_of a.point)) true (grid_test a.point grid) refl) refl

-- an address does not fall behind another of its list
rises : (t : Ordering) (i j m n : ℕ) (s : Ordering) (r q : Bool) → is_gt (ordering_then t (ordering_then (nat_cmp i j) (ordering_then (nat_cmp m n) s))) ≡ false
    → ((is_lt t || (is_eq t && (nat_lt i j || ((i == j) && (nat_le m n || r))))) || q) ≡ true
rises Less i j m n s r q up = refl
rises Greater i j m n s r q up = absurd cc
rises Equal i j m n s r q up = grind (arith, nat_tests)

rises_behind : (at from before_at before_from : ℕ) (b a : AddrRec) → is_gt (keyed_cmp b a) ≡ false → addresses_rise (address_at before_at before_from b) (address_at at from a) ≡ true
rises_behind at from before_at before_from b a up = rises (text_cmp (key b.name) (key a.name)) (address_rank b.kind) (address_rank a.kind) (ordinal b.id) (ordinal a.id) _ _ _ up

-- the rules of an address behind another one
one_holds : (rules : List Rule) (houses : Bool) (prev : Option Address) (at from : ℕ) (a : AddrRec) → FitsAddress a → IsIn houses a → follows addresses_rise (prev, address_at at from a) ≡ true
    → AllHold (address_facts houses (without_marks rules) (prev, address_at at from a))
one_holds rules houses prev at from a f in_list order =
    let name = is_utf8-from_IsUtf8 a.name f.name.0 in
    let of_kind = addressed a.kind a.id.kind (ordinal a.id) f.kind (kind_of_ordinal a.id f.id) in (
      order,
      (
        and_from (is_ordinal (ordinal a.id)) _ (ordinal_is a.id f.id) of_kind,
        (
          refl,
          (
            kind_in houses a.kind a refl in_list,
            (
              and_from (is_utf8 (key a.name)) _ (key_utf8 a.name name) (either (bytes_eq (key a.name) (key a.name)) _ (same_bytes (key a.name))),
              (
                and_from (is_utf8 a.name) _ name (not_empty a.name f.name.1),
                (
                  numbered a.kind a.number (is_utf8-from_IsUtf8 a.number f.number.0) f.number.1,
                  (one_location a f.grid, (spoken a.kind a.lang f.lang, tt)),
                ),
              ),
            ),
          ),
        ),
      ),
    )

-- ---- addresses one behind another

-- those of a list that fit, from an offset on, with those of the blocks behind them
abbrev IsGood : Bool → AddrRec → Type 0
IsGood houses a = FitsAddress a × IsIn houses a

-- the one before comes before all of these
abbrev IsBefore : Option Address → List AddrRec → Type 0
IsBefore None rs = Unit {0}
IsBefore (Some x) rs = (at : ℕ) × (from : ℕ) × (b : AddrRec) × (x ≡ address_at at from b) × AllByRecursion (λ a. is_gt (keyed_cmp b a) ≡ false) rs

follows_all : (prev : Option Address) (at from : ℕ) (a : AddrRec) (rs : List AddrRec) → IsBefore prev (a ∷ rs) → follows addresses_rise (prev, address_at at from a) ≡ true
follows_all None at from a rs before = refl
follows_all (Some x) at from a rs before =
    subst (λ (y : Address). addresses_rise y (address_at at from a) ≡ true) (sym before.3) (rises_behind at from before.0 before.1 before.2 a before.4.0)

-- these stand for those, one by one
abbrev Alike : List Address → List AddrRec → Type 0
Alike [] [] = Unit {0}
Alike (x ∷ xs) (a ∷ rs) = ((at : ℕ) × (from : ℕ) × (x ≡ address_at at from a)) × Alike xs rs
Alike xs rs = ⊥

alike_join : (xs ys : List Address) (rs bs : List AddrRec) → Alike xs rs → Alike ys bs → Alike (xs ++ ys) (rs ++ bs)
alike_join [] ys [] bs a b = b
alike_join [] ys (x ∷ rs) bs a b = absurd a
alike_join (x ∷ xs) ys [] bs a b = absurd a
alike_join (x ∷ xs) ys (r ∷ rs) bs a b = (a.0, alike_join xs ys rs bs a.1 b)

addresses_alike : (at : ℕ) (rs : List AddrRec) → Alike (addresses_at at rs) rs
addresses_alike at [] = tt
addresses_alike at (a ∷ rs) = ((at, inside at 10 (length (bytes_of (bare_address a))), refl), addresses_alike (beyond at 10 (length (bytes_of (bare_address a)))) rs)

blocks_alike : (at : ℕ) (bs : List (List AddrRec)) → Alike (addresses_in (blocks_at at bs)) (flat_map (λ b. b) bs)
blocks_alike at [] = tt
blocks_alike at (b ∷ bs) =
    alike_join (addresses_at (inside at 22 (length (bytes_of (bare_addresses b)))) b) (addresses_in (blocks_at (beyond at 22 (length (bytes_of (bare_addresses b)))) bs)) b (flat_map (λ b. b) bs)
    (addresses_alike (inside at 22 (length (bytes_of (bare_addresses b)))) b) (blocks_alike (beyond at 22 (length (bytes_of (bare_addresses b)))) bs)

facts_alike : (rules : List Rule) (houses : Bool) (prev : Option Address) (xs : List Address) (rs : List AddrRec) → Alike xs rs → AllByRecursion (IsGood houses) rs → AreUp keyed_cmp rs → IsBefore prev rs
    → AllHold (flat_map (address_facts houses (without_marks rules)) (with_before prev xs))
facts_alike rules houses prev [] [] alike good up before = tt
facts_alike rules houses prev [] (a ∷ rs) alike good up before = absurd alike
facts_alike rules houses prev (x ∷ xs) [] alike good up before = absurd alike
facts_alike rules houses prev (x ∷ xs) (a ∷ rs) alike good up before =
    let at : ℕ = alike.0.0 in
    let from : ℕ = alike.0.1 in
    let here = one_holds rules houses prev at from a good.0.0 good.0.1 (follows_all prev at from a rs before) in
    all_join holds (address_facts houses (without_marks rules) (prev, x)) (flat_map (address_facts houses (without_marks rules)) (with_before (Some x) xs))
    (subst (λ (y : Address). AllHold (address_facts houses (without_marks rules) (prev, y))) (sym alike.0.2) here)
    (facts_alike rules houses (Some x) xs rs alike.1 good.1 up.1 (at, from, a, alike.0.2, up.0))

-- ---- the records again

kind_again : (kind : AddrKind) → kind_from (address_rank kind) ≡ kind
kind_again Place = refl
kind_again Street = refl
kind_again House = refl

abbrev made : AddrRec → Id → AddrKind → Point → AddrRec
made a id kind point = record { id = id; kind = kind; lang = a.lang; name = a.name; number = a.number; point = point }

address_again : (at from : ℕ) (a : AddrRec) → FitsAddress a → address_record_of (address_at at from a) ≡ a
address_again at from a f =
    ap (λ (o : Id). made a o (kind_from (address_rank a.kind)) (only_point (places (numbers_of a)))) (object_again a.id f.id)
    ∙ ap (λ (k : AddrKind). made a a.id k (only_point (places (numbers_of a)))) (kind_again a.kind)
    ∙ ap (λ (p : Point). made a a.id a.kind p) (ap only_point (origin_leads a))

records_alike : (houses : Bool) (xs : List Address) (rs : List AddrRec) → Alike xs rs → AllByRecursion (IsGood houses) rs → map address_record_of xs ≡ rs
records_alike houses [] [] alike good = refl
records_alike houses [] (a ∷ rs) alike good = absurd alike
records_alike houses (x ∷ xs) [] alike good = absurd alike
records_alike houses (x ∷ xs) (a ∷ rs) alike good =
    ap (λ (r : AddrRec). r ∷ map address_record_of xs) (ap address_record_of alike.0.2 ∙ address_again alike.0.0 alike.0.1 a good.0.0)
    ∙ ap (λ (rs : List AddrRec). a ∷ rs) (records_alike houses xs rs alike.1 good.1)

-- ---- entries and blocks

utf8_or_empty : (o : Option AddrRec) → (match_good : (a : AddrRec) → o ≡ Some a → FitsAddress a) → is_utf8 (key_or_empty o) ≡ true
utf8_or_empty None good = is_utf8-from_IsUtf8 [] ([], (refl, refl))
utf8_or_empty (Some a) good = key_utf8 a.name (is_utf8-from_IsUtf8 a.name (good a refl).name.0)

first_good : (b : List AddrRec) → AllByRecursion FitsAddress b → (a : AddrRec) → first_of b ≡ Some a → FitsAddress a
first_good [] all a e = absurd cc
first_good (x ∷ b) all a e = let same : x ≡ a = cc in subst FitsAddress same all.0

last_good : (b : List AddrRec) → AllByRecursion FitsAddress b → (a : AddrRec) → last_of b ≡ Some a → FitsAddress a
last_good [] all a e = absurd cc
last_good (x ∷ []) all a e = let same : x ≡ a = cc in subst FitsAddress same all.0
last_good (x ∷ y ∷ b) all a e = last_good (y ∷ b) all.1 a e

entries_hold : (at offset : ℕ) (bs : List (List AddrRec)) → AllByRecursion (AllByRecursion FitsAddress) bs → AllHold (flat_map entry_facts (entries_at at offset bs))
entries_hold at offset [] all = tt
entries_hold at offset (b ∷ bs) all =
    (utf8_or_empty (first_of b) (first_good b all.0), (utf8_or_empty (last_of b) (last_good b all.0), entries_hold (beyond at 10 (length (bytes_of (bare_entry offset b)))) (offset + length (block b)) bs all.1))

same_key : (k : List ℕ) (q : Bool) → (bytes_eq k k || q) ≡ true
same_key k q = either (bytes_eq k k) q (same_bytes k)

first_key : (at : ℕ) (b : List AddrRec) → has_key (key_or_empty (first_of b)) (first_of (addresses_at at b)) ≡ true
first_key at [] = refl
first_key at (a ∷ b) = same_key (key a.name) _

last_key : (at : ℕ) (b : List AddrRec) → has_key (key_or_empty (last_of b)) (last_of (addresses_at at b)) ≡ true
last_key at [] = refl
last_key at (a ∷ []) = same_key (key a.name) _
last_key at (a ∷ c ∷ b) = last_key (beyond at 10 (length (bytes_of (bare_address a)))) (c ∷ b)

-- how long a block is
block_long : (at : ℕ) (b : List AddrRec) → at + length (block b) ≡ beyond at 22 (length (bytes_of (bare_addresses b)))
block_long at b =
    let payload : List ℕ = bytes_of (bare_addresses b) in
    let same : block b ≡ section 2 payload = sym (blocks_spelled (b ∷ []) ∙ append-nil (block b)) ∙ append-nil (section 2 payload) in
    let long : length (section 2 payload) ≡ length (varint 22 ++ content 22 (length payload)) + length payload = length-append (varint 22 ++ content 22 (length payload)) payload in
    let all = ap length same in
    omega (arith, all, long)

pairs_hold : (start offset at place : ℕ) (bs : List (List AddrRec)) → start + offset ≡ place → AllHold (entry_pairs start (entries_at at offset bs) (blocks_at place bs))
pairs_hold start offset at place [] e = tt
pairs_hold start offset at place (b ∷ bs) e =
    let next = block_long place b in
    (eq-eqb (start + offset) place e, (and_from _ _ (first_key _ b) (last_key _ b), pairs_hold start (offset + length (block b)) _ (beyond place 22 (length (bytes_of (bare_addresses b)))) bs (omega (arith, e, next))))

as_many : (at : ℕ) (b : List AddrRec) → length (addresses_at at b) ≡ length b
as_many at [] = refl
as_many at (a ∷ b) = ap suc (as_many (beyond at 10 (length (bytes_of (bare_address a)))) b)

counts_hold : (at : ℕ) (P : AddrRec → Type 0) (bs : List (List AddrRec)) → AllByRecursion (IsPart 64 P) bs → AllHold (map keyed_block_fact (blocks_at at bs))
counts_hold at P [] all = tt
counts_hold at P (b ∷ bs) all =
    let many = as_many (inside at 22 (length (bytes_of (bare_addresses b)))) b in (
      and_from _ _ (le-leb 1 (length (addresses_at (inside at 22 (length (bytes_of (bare_addresses b)))) b)) (omega (arith, many, all.0.some)))
          (le-leb (length (addresses_at (inside at 22 (length (bytes_of (bare_addresses b)))) b)) 64 (omega (arith, many, all.0.most))),
      counts_hold (beyond at 22 (length (bytes_of (bare_addresses b)))) P bs all.1,
    )

-- ---- a whole list

flat_one : (xs : List AddrRec) → flat_map (λ x. x ∷ []) xs ≡ xs
flat_one [] = refl
flat_one (x ∷ xs) = ap (λ (ys : List AddrRec). x ∷ ys) (flat_one xs)

flat_ones : (parts : List (List AddrRec)) → flat_map (λ part. flat_map (λ x. x ∷ []) part) parts ≡ flat_map (λ part. part) parts
flat_ones [] = refl
flat_ones (part ∷ parts) =
    ap (λ (ys : List AddrRec). ys ++ flat_map (λ p. flat_map (λ x. x ∷ []) p) parts) (flat_one part) ∙ ap (λ (ys : List AddrRec). part ++ ys) (flat_ones parts)

joined : (xs : List AddrRec) → flat_map (λ part. part) (cuts 64 xs) ≡ xs
joined xs = sym (flat_ones (cuts 64 xs)) ∙ cuts_of_sixty_four (λ x. x ∷ []) xs ∙ flat_one xs

module _ (houses : Bool) (records : List AddrRec) (good : AllByRecursion (IsGood houses) records) where
  abbrev pub order : List AddrRec
  order = sorted_by keyed_cmp records

  abbrev pub blocks : List (List AddrRec)
  blocks = cuts 64 order

  order_good : AllByRecursion (IsGood houses) order
  order_good = all_moved (IsGood houses) records order (moved_sorted keyed_cmp records) good

  parts : AllByRecursion (IsPart 64 (IsGood houses)) blocks
  parts = cuts_are_parts 64 (IsGood houses) order ((length order + 63) / 64) 0 (omega arith) (λ k below. omega arith) order_good

  all_fit : (rs : List AddrRec) → AllByRecursion (IsGood houses) rs → AllByRecursion FitsAddress rs
  all_fit [] all = tt
  all_fit (a ∷ rs) all = (all.0.0, all_fit rs all.1)

  parts_fit : (bs : List (List AddrRec)) → AllByRecursion (IsPart 64 (IsGood houses)) bs → AllByRecursion (AllByRecursion FitsAddress) bs
  parts_fit [] all = tt
  parts_fit (b ∷ bs) all = (all_fit b all.0.all, parts_fit bs all.1)

  pub blocks_fit : AllByRecursion (AllByRecursion FitsAddress) blocks
  blocks_fit = parts_fit blocks parts

  alike : (at : ℕ) → Alike (addresses_in (blocks_at at blocks)) order
  alike at = subst (Alike (addresses_in (blocks_at at blocks))) (joined order) (blocks_alike at blocks)

  pairs_all : (at place : ℕ) (bs : List (List AddrRec)) → AllHold (entry_pairs (first_at (blocks_at place bs)) (entries_at at 0 bs) (blocks_at place bs))
  pairs_all at place [] = tt
  pairs_all at place (b ∷ bs) = pairs_hold place 0 at place (b ∷ bs) (omega arith)

  pub list_holds : (rules : List Rule) (at : ℕ) → AllHold (keyed_facts houses (without_marks rules) (list_at at blocks))
  unfolding keyed_facts
  list_holds rules at =
      let place : ℕ = behind_entries at 0 blocks in
      all_join holds _ _
      (all_join holds _ _ (all_join holds _ _ (entries_hold at 0 blocks blocks_fit) (pairs_all at place blocks)) (counts_hold place (IsGood houses) blocks parts))
      (facts_alike rules houses None (addresses_in (blocks_at place blocks)) order (alike place) order_good (up_in_order keyed_cmp keyed_total records) tt)

  pub list_kept : (at : ℕ) → IsPermutation records (list_records (list_at at blocks))
  list_kept at =
      subst (IsPermutation records) (sym (records_alike houses (addresses_in (blocks_at (behind_entries at 0 blocks) blocks)) order (alike (behind_entries at 0 blocks)) order_good)) (moved_sorted keyed_cmp records)

-- ---- both lists

listed_by : (houses : Bool) (a : AddrRec) (others : List AddrRec) (b : Bool) → is_listed houses a ≡ b → FitsAddress a → AllByRecursion (IsGood houses) others → AllByRecursion (IsGood houses) (cond b (a ∷ others) others)
listed_by houses a others true e fit good = ((fit, e), good)
listed_by houses a others false e fit good = good

listed_good : (houses : Bool) (records : List AddrRec) → AllByRecursion FitsAddress records → AllByRecursion (IsGood houses) (filter (is_listed houses) records)
listed_good houses [] all = tt
listed_good houses (a ∷ rs) all = listed_by houses a (filter (is_listed houses) rs) (is_listed houses a) refl all.0 (listed_good houses rs all.1)

-- each address is in one of the two lists
in_one : (a : AddrRec) (rs names houses : List AddrRec) (b : Bool) → IsPermutation rs (names ++ houses) → IsPermutation (a ∷ rs) (cond (not b) (a ∷ names) names ++ cond b (a ∷ houses) houses)
in_one a rs names houses false moved = IsPermutation-cons a rs (names ++ houses) moved
in_one a rs names houses true moved =
    IsPermutation-trans (a ∷ rs) (a ∷ (names ++ houses)) (names ++ a ∷ houses) (IsPermutation-cons a rs (names ++ houses) moved)
    (IsPermutation-sym (names ++ a ∷ houses) (a ∷ (names ++ houses)) (IsPermutation-middle names a houses))

in_two : (records : List AddrRec) → IsPermutation records (filter (is_listed false) records ++ filter (is_listed true) records)
in_two [] = IsPermutation-refl []
in_two (a ∷ rs) = in_one a rs (filter (is_listed false) rs) (filter (is_listed true) rs) (is_house a.kind) (in_two rs)

-- what is packed of records that fit is a section of these records
pub packed_addresses_hold : (rules : List Rule) (records : List AddrRec) (w : Window) → length rules < 2 ^ 64 → AllByRecursion FitsAddress records → IsWindow w → length w.bytes < 2 ^ 64
    → left_of w ≡ packed_addresses records → HoldsAddresses rules w records
unfolding packed_addresses
packed_addresses_hold rules records w few fit window short left =
    let good_names = listed_good false records fit in
    let good_houses = listed_good true records fit in
    let names : List (List AddrRec) = blocks false (filter (is_listed false) records) good_names in
    let houses : List (List AddrRec) = blocks true (filter (is_listed true) records) good_houses in
    let size = length-range w.bytes w.place w.end window.ordered window.within in
    let all = ap length left in
    let small = two_small (keyed_blocks names) (keyed_blocks houses) (length w.bytes) (omega (arith, size, all, window.within)) in
    let small_names = kept_small names (length w.bytes) small.0 in
    let small_houses = kept_small houses (length w.bytes) small.1 in
    let fields : Fields = stood w.place (bare_section names houses) in
    let read = section_read w.place names houses in
    record {
      fields = fields;
      form = record {
        form = formed (bare_section names houses) (AddressesPart Two) None w.place
            (section_formed names houses (omega (arith, short, small_names)) (omega (arith, short, small_houses)) (blocks_fit false (filter (is_listed false) records) good_names) (blocks_fit true (filter (is_listed true) records) good_houses));
        spelled = left ∙ sym (section_spelled names houses) ∙ sym (spelled w.place (bare_section names houses));
      };
      sound = subst (λ (s : Addresses). AllHold (addresses_facts (without_marks rules) s)) (sym read)
          (all_join holds _ _ (list_holds false (filter (is_listed false) records) good_names rules (names_from w.place names)) (list_holds true (filter (is_listed true) records) good_houses rules (houses_from w.place names houses)));
      kept = subst (λ (s : Addresses). IsPermutation records (address_records_in s)) (sym read)
          (IsPermutation-trans records (filter (is_listed false) records ++ filter (is_listed true) records) _ (in_two records)
          (IsPermutation-append _ _ _ _ (list_kept false (filter (is_listed false) records) good_names (names_from w.place names)) (list_kept true (filter (is_listed true) records) good_houses (houses_from w.place names houses))));
    }
  where
    two_small : (a b : List ℕ) (most : ℕ) → length (section 1 a ++ section 2 b) ≤ most → (length a ≤ most) × (length b ≤ most)
    two_small a b most few =
        let one = length-append (section 1 a) (section 2 b) in
        let two = length-append (varint 14 ++ content 14 (length a)) a in
        let three = length-append (varint 22 ++ content 22 (length b)) b in
        (omega (arith, few, one, two), omega (arith, few, one, three))

    kept_small : (bs : List (List AddrRec)) (most : ℕ) → length (keyed_blocks bs) ≤ most → length (flat_map block bs) ≤ most
    kept_small bs most few = let one = length-append (entries_from 0 bs) (flat_map block bs) in omega (arith, few, one)
