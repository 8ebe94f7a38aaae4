-- The records of a sound section of addresses fit.
use Rattle.std.proofs.Common.{◌≡◌, ◌≢◌, ℕ, zero, suc, ◌/◌, ◌^◌, ◌≤◌, Bool, true, false, List, [], ◌∷◌, ◌++◌, flat_map, length, map, Option, Some, None, refl, sym, ap, subst, arith}
use Rattle.std.specs.Prelude.{◌&&◌, ◌||◌, not, ◌==◌, IsUtf8, unwrap_or}
use Rattle.std.specs.List.{AllByRecursion, list_all}
use Rattle.std.specs.Option.{option_map}
use Rattle.std.specs.Str.{is_utf8}
use Rattle.std.proofs.lemmas.Bool.{and_parts, eqb-true}
use Rattle.std.proofs.lemmas.Bool.Decides.{nat_tests}
use Rattle.std.proofs.lemmas.Str.{IsUtf8-from_is_utf8}
use Rattle.live_model.specs.declared.ids.Kind.TheVariants.{Relation, Way}
use Rattle.live_model.specs.Fits.{FitsAddress, IsAddressed, IsLanguageFor, IsNumber}
use Rattle.live_model.specs.Points.{IsInGrid}
use Rattle.live_model.specs.Records.{is_empty, is_language}
use Rattle.coord_delta.specs.Steps.{Place, places}
use Rattle.file_grammar.specs.AddressRules.{Address, KeyedList, address_facts, address_record_of, addresses_in, addresses_of, entry_facts, entry_pairs, first_at, is_addressed, is_kind_in, is_number_for, keyed_block_fact, keyed_facts, kind_from, lang_facts, list_records}
use Rattle.file_grammar.specs.BoxRules.{Beside, is_on_grid, is_ordinal}
use Rattle.file_grammar.specs.Facts.{AllHold, Fact}
use Rattle.file_grammar.specs.RecordRules.{is_one_location, only_point}
use Rattle.file_grammar.specs.Sections.{Placed, object_kind}
use Rattle.boxed_laws.proofs.BlockTexts.{all_join}
use Rattle.boxed_laws.proofs.FittingRecords.{Holds, all_before, all_behind}
use Rattle.boxed_laws.proofs.ObjectNumbers.{object_good}
use Rattle.boxed_laws.proofs.RecordParts.{point_in_grid}
use Rattle.addr_section.specs.Asked.{all_facts}
use Rattle.addr_section.specs.Laws.{FittingLaw}

-- ---- one address

low_kind : (k : ℕ) → ((k == 0) || (k == 1)) ≡ true → k ≤ 1
low_kind k e = grind (arith, nat_tests)

-- of a node or a way
no_relation : (k : ℕ) → ((k == 0) || (k == 1)) ≡ true → object_kind k ≢ Relation
no_relation zero e = λ no. absurd (cc)
no_relation (suc zero) e = λ no. absurd (cc)
no_relation (suc (suc k)) e = let low = low_kind (suc (suc k)) e in absurd (omega (arith, low))

of_way : (k : ℕ) → (k == 1) ≡ true → object_kind k ≡ Way
of_way k e = ap object_kind (eqb-true k 1 e)

listed : (houses : Bool) (k : ℕ) → is_kind_in houses k ≡ true → k ≤ 2
listed true k e = let same = eqb-true k 2 e in omega (arith, same)
listed false k e = grind (arith, nat_tests)

addressed : (k n : ℕ) → is_addressed k n ≡ true → IsAddressed (kind_from k) (object_kind (n / 2 ^ 50))
addressed zero n e = no_relation (n / 2 ^ 50) e
addressed (suc zero) n e = of_way (n / 2 ^ 50) e
addressed (suc (suc k)) n e = no_relation (n / 2 ^ 50) e

empty_is : (text : List ℕ) → is_empty text ≡ true → text ≡ []
empty_is [] e = refl
empty_is (c ∷ cs) e = let none = eqb-true (length (c ∷ cs)) 0 e in absurd (omega (arith, none))

some_is : (text : List ℕ) → not (is_empty text) ≡ true → text ≢ []
some_is text e = λ none. absurd (two (subst (λ (t : List ℕ). not (is_empty t) ≡ true) none e))
  where
    two : false ≡ true → ⊥
    two e = absurd cc

either : (a b : Bool) → (a || (b && true)) ≡ true → (a || b) ≡ true
either true b e = refl
either false true e = refl
either false false e = e

first_alone : (a b : Bool) → (a || (b && false)) ≡ true → a ≡ true
first_alone true b e = refl
first_alone false true e = e
first_alone false false e = e

lang_fits : (k : ℕ) (lang : Option (Placed (List ℕ))) → k ≤ 2 → AllHold (lang_facts k lang) → IsLanguageFor (kind_from k) (unwrap_or (option_map (λ (l : Placed (List ℕ)). l.value) lang) [])
lang_fits zero None low all = refl
lang_fits (suc zero) None low all = refl
lang_fits (suc (suc k)) None low all = refl
lang_fits zero (Some lang) low all = either (is_empty lang.value) (is_language lang.value) all.0
lang_fits (suc zero) (Some lang) low all = either (is_empty lang.value) (is_language lang.value) all.0
lang_fits (suc (suc zero)) (Some lang) low all = empty_is lang.value (first_alone (is_empty lang.value) (is_language lang.value) all.0)
lang_fits (suc (suc (suc k))) (Some lang) low all = absurd (omega (arith, low))

number_fits : (k : ℕ) (number : List ℕ) → k ≤ 2 → is_number_for k number ≡ true → IsUtf8 number × IsNumber (kind_from k) number
number_fits zero number low e = let p = and_parts (is_utf8 number) (is_empty number) e in (IsUtf8-from_is_utf8 number p.0, empty_is number p.1)
number_fits (suc zero) number low e = let p = and_parts (is_utf8 number) (is_empty number) e in (IsUtf8-from_is_utf8 number p.0, empty_is number p.1)
number_fits (suc (suc zero)) number low e = let p = and_parts (is_utf8 number) (not (is_empty number)) e in (IsUtf8-from_is_utf8 number p.0, some_is number p.1)
number_fits (suc (suc (suc k))) number low e = absurd (omega (arith, low))

-- the only one of places that are on the grid
only_in_grid : (ps : List Place) → is_one_location ps ≡ true → IsInGrid (only_point ps)
only_in_grid [] e = (omega arith, omega arith)
only_in_grid (p ∷ ps) e =
    let all = (and_parts (list_all is_on_grid (p ∷ ps)) (length (p ∷ ps) == 1) e).0 in
    point_in_grid p (and_parts (is_on_grid p) (list_all is_on_grid ps) all).0

one_fits : (houses : Bool) (beside : Beside) (prev : Option Address) (a : Address) → AllHold (address_facts houses beside (prev, a)) → FitsAddress (address_record_of a)
one_fits houses beside prev a all =
    let object = and_parts (is_ordinal a.ordinal.value) (is_addressed a.kind.value a.ordinal.value) all.1.0 in
    let low = listed houses a.kind.value all.1.1.1.0 in
    let name = and_parts (is_utf8 a.name.value) (not (is_empty a.name.value)) all.1.1.1.1.1.0 in
    record {
      id = object_good a.ordinal.value object.0;
      kind = addressed a.kind.value a.ordinal.value object.1;
      lang = lang_fits a.kind.value a.lang low all.1.1.1.1.1.1.1.1;
      name = (IsUtf8-from_is_utf8 a.name.value name.0, some_is a.name.value name.1);
      number = number_fits a.kind.value a.number.value low all.1.1.1.1.1.1.0;
      grid = only_in_grid (places a.points.value) all.1.1.1.1.1.1.1.0;
    }

-- ---- all of them

each_fits : (houses : Bool) (beside : Beside) (prev : Option Address) (xs : List Address) → AllHold (all_facts houses beside prev xs) → AllByRecursion FitsAddress (map address_record_of xs)
each_fits houses beside prev [] all = tt
each_fits houses beside prev (x ∷ xs) all =
    let front : List Fact = address_facts houses beside (prev, x) in
    let rest : List Fact = all_facts houses beside (Some x) xs in
    (one_fits houses beside prev x (all_before Holds front rest all), each_fits houses beside (Some x) xs (all_behind Holds front rest all))

list_fits : (houses : Bool) (beside : Beside) (list : KeyedList) → AllHold (keyed_facts houses beside list) → AllByRecursion FitsAddress (list_records list)
unfolding keyed_facts
list_fits houses beside list all =
    let front : List Fact = (flat_map entry_facts list.entries ++ entry_pairs (first_at list.blocks) list.entries list.blocks) ++ map keyed_block_fact list.blocks in
    each_fits houses beside None (addresses_in list.blocks) (all_behind Holds front (all_facts houses beside None (addresses_in list.blocks)) all)

pub fitting : FittingLaw
fitting version beside w records s =
    let all = addresses_of s.fields in
    let names : List Fact = keyed_facts false beside all.names in
    let houses : List Fact = keyed_facts true beside all.houses in
    subst (AllByRecursion FitsAddress) (sym s.records_are)
    (all_join FitsAddress (list_records all.names) (list_records all.houses) (list_fits false beside all.names (all_before Holds names houses s.sound)) (list_fits true beside all.houses (all_behind Holds names houses s.sound)))
