-- The key of a row fits what its field holds: a number has wire type 0, all else has a payload.
use Rattle.std.proofs.Common.{◌≡◌, ℕ, ◌%◌, ◌^◌, ◌<◌, Bool, true, false, cond, [], ◌∷◌, Some, refl, sym, subst, ◌∙◌}
use Rattle.std.specs.Prelude.{◌==◌, ◌&&◌, not, nat_lt, find}
use Rattle.std.specs.List.{list_all}
use Rattle.std.specs.Option.{option_map}
use Rattle.std.proofs.lemmas.Bool.{ltb-true, eqb-true, not-true}
use Rattle.obf_wire.specs.Fields.{payload_len}
use Rattle.file_grammar.specs.declared.parts.Part.{Part}
use Rattle.file_grammar.specs.declared.parts.Content.{Content}
use Rattle.file_grammar.specs.declared.parts.Content.TheVariants.{Number, Version, Bytes, Numbers, Message}
use Rattle.file_grammar.specs.declared.rows.Row.{Row}
use Rattle.file_grammar.specs.Tables.{Table, content_of, own}
use Rattle.file_grammar.proofs.PartTables.{fits_row, has_type, rows_of, tables_fit}

-- what a row holds in a message is of the kind that the row says
own_type : (part : Part) (content : Content) (key : ℕ) → has_type content key ≡ has_type (own part content) key
own_type part Number key = refl
own_type part (Version version) key = refl
own_type part Bytes key = refl
own_type part (Numbers group) key = refl
own_type part (Message inner) key = refl

both : (a b : Bool) → (a && b) ≡ true → (a ≡ true) × (b ≡ true)
both true b e = (refl, e)
both false b e = absurd cc

-- what is said of a key and of the content of its row
pub record FitsContent (key : ℕ) (content : Content) : Type 0 where
  pub key_fits : key < 2 ^ 64
  pub typed : has_type content key ≡ true

content_is : (a b : Content) → Some a ≡ Some b → a ≡ b
content_is a b e = cc

row_fits : (part : Part) (row : Row) (key : ℕ) (content : Content) → fits_row row ≡ true → row.key ≡ key → own part row.content ≡ content → FitsContent key content
row_fits part row key content e key_is is =
    let fits = both (nat_lt row.key (2 ^ 64)) (has_type row.content row.key) e in
    subst (FitsContent key) is (subst (λ (k : ℕ). FitsContent k (own part row.content)) key_is (record { key_fits = ltb-true row.key (2 ^ 64) fits.0; typed = sym (own_type part row.content row.key) ∙ fits.1 }))

-- the row that is found has this key
found_fits : (part : Part) (rows : Table) (key : ℕ) (content : Content) → list_all fits_row rows ≡ true → option_map (λ row. own part row.content) (find (λ row. row.key == key) rows) ≡ Some content → FitsContent key content
found_fits part [] key content fits e = absurd cc
found_fits part (row ∷ rows) key content fits e = by_test (row.key == key) refl e (found_fits part rows key content all.1)
  where
    all : (fits_row row ≡ true) × (list_all fits_row rows ≡ true)
    all = both (fits_row row) (list_all fits_row rows) fits

    by_test : (test : Bool) → (row.key == key) ≡ test → option_map (λ row. own part row.content) (cond test (Some row) (find (λ row. row.key == key) rows)) ≡ Some content
        → (option_map (λ row. own part row.content) (find (λ row. row.key == key) rows) ≡ Some content → FitsContent key content) → FitsContent key content
    by_test true is e others = row_fits part row key content all.0 (eqb-true row.key key is) (content_is (own part row.content) content e)
    by_test false is e others = others e

pub content_fits : (part : Part) (key : ℕ) (content : Content) → content_of part key ≡ Some content → FitsContent key content
content_fits part key content e = found_fits part (rows_of part) key content (tables_fit part).fit e

-- a number has no payload, and a payload is as long as the number before it says
pub no_payload : (key value : ℕ) → (key % 8 == 0) ≡ true → payload_len key value ≡ 0
no_payload key value e = rw e refl

pub has_payload : (key value : ℕ) → not (key % 8 == 0) ≡ true → payload_len key value ≡ value
has_payload key value e = rw (not-true (key % 8 == 0) e) refl
