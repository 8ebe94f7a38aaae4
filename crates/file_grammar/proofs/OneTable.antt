-- Rows of one table: what is left of them, and the keys that may come.
use Rattle.std.proofs.Common.{◌≡◌, ℕ, ◌<◌, Bool, true, false, cond, List, [], ◌∷◌, Option, Some, None, refl, sym, ap, subst, ◌∙◌}
use Rattle.std.specs.Prelude.{◌==◌, ◌&&◌, not, nat_lt, find, flat_map}
use Rattle.std.specs.Option.{option_map}
use Rattle.std.specs.List.{AllByRecursion, list_all}
use Rattle.std.specs.Ordering.{nat_cmp}
use Rattle.std.specs.Cmp.{nat_cmp_is}
use Rattle.std.specs.declared.cmp.Ordering.TheVariants.{Less}
use Rattle.std.proofs.lemmas.Bool.{ltb-true}
use Rattle.std.proofs.lemmas.Cmp.{nat_cmp_total}
use Rattle.std.proofs.lemmas.List.{append-nil}
use Rattle.ordered_lists.specs.Ordered.{IsRisingBy, put_all}
use Rattle.ordered_lists.proofs.PutAll.{put_all-rising}
use Rattle.obf_wire.specs.Fields.{are_keys, has_wire_type}
use Rattle.file_grammar.specs.declared.parts.Part.{Part}
use Rattle.file_grammar.specs.declared.rows.Row.{Row}
use Rattle.file_grammar.proofs.PartTables.{tables_fit}
use Rattle.file_grammar.specs.Tables.{IsOneTable, Table, are_few, are_rows, content_of, keys_of, left_at, next_in, own, rise, rows_behind, tables}

both : (a b : Bool) → (a && b) ≡ true → (a ≡ true) × (b ≡ true)
both true b e = (refl, e)
both false b e = absurd cc

join : (a b : Bool) → a ≡ true → b ≡ true → (a && b) ≡ true
join a b one two = rw (one, two) refl

and_all : (a : Bool) → (a && true) ≡ a
and_all true = refl
and_all false = refl

-- what is tested of rows
record Tested (rows : Table) : Type 0 where
  rising : rise rows ≡ true
  few : are_few rows ≡ true
  typed : list_all (λ row. has_wire_type row.key) rows ≡ true

tested : (rows : Table) → are_rows rows ≡ true → Tested rows
tested rows e =
    let a = both (rise rows) (are_few rows && list_all (λ row. has_wire_type row.key) rows) e in
    let b = both (are_few rows) (list_all (λ row. has_wire_type row.key) rows) a.1 in
    record { rising = a.0; few = b.0; typed = b.1 }

put_together : (rows : Table) → Tested rows → are_rows rows ≡ true
put_together rows t = join (rise rows) _ t.rising (join (are_few rows) _ t.few t.typed)

-- ---- the rows behind one of them

few_behind : (row : Row) (rows : Table) → are_few (row ∷ rows) ≡ true → are_few rows ≡ true
few_behind row [] e = refl
few_behind row (a ∷ []) e = refl
few_behind row (a ∷ b ∷ rows) e = (both (not (row.many && a.many)) (are_few (a ∷ b ∷ rows)) e).1

tail_tested : (row : Row) (rows : Table) → are_rows (row ∷ rows) ≡ true → are_rows rows ≡ true
tail_tested row rows e =
    let t = tested (row ∷ rows) e in
    put_together rows
    (record {
      rising = (both (list_all (λ other. nat_lt row.key other.key) rows) (rise rows) t.rising).1;
      few = few_behind row rows t.few;
      typed = (both (has_wire_type row.key) (list_all (λ row. has_wire_type row.key) rows) t.typed).1;
    })

is_some : (a b : Table) → Some a ≡ Some b → a ≡ b
is_some a b e = cc

pub behind_tested : (key : ℕ) (rows left : Table) → are_rows rows ≡ true → rows_behind key rows ≡ Some left → are_rows left ≡ true
behind_tested key [] left e is = absurd cc
behind_tested key (row ∷ rows) left e is = by_key (row.key == key) is (behind_tested key rows left (tail_tested row rows e))
  where
    by_many : (many : Bool) → Some (cond many (row ∷ rows) rows) ≡ Some left → are_rows left ≡ true
    by_many true there = subst (λ (rs : Table). are_rows rs ≡ true) (is_some (row ∷ rows) left there) e
    by_many false there = subst (λ (rs : Table). are_rows rs ≡ true) (is_some rows left there) (tail_tested row rows e)

    by_key : (test : Bool) → cond test (Some (cond row.many (row ∷ rows) rows)) (rows_behind key rows) ≡ Some left → (rows_behind key rows ≡ Some left → are_rows left ≡ true) → are_rows left ≡ true
    by_key true there others = by_many row.many there
    by_key false there others = others there

-- ---- the keys that may come

abbrev IsBefore : ℕ → ℕ → Type 0
IsBefore a b = nat_cmp a b ≡ Less

below_all : (key : ℕ) (rows : Table) → list_all (λ other. nat_lt key other.key) rows ≡ true → AllByRecursion (IsBefore key) (next_in rows)
below_all key [] e = tt
below_all key (row ∷ rows) e = by_many row.many (below_all key rows (both (nat_lt key row.key) _ e).1)
  where
    here : IsBefore key row.key
    here = let lt : key < row.key = ltb-true key row.key (both (nat_lt key row.key) _ e).0 in sym (nat_cmp_is key row.key Less lt)

    by_many : (many : Bool) → AllByRecursion (IsBefore key) (next_in rows) → AllByRecursion (IsBefore key) (cond many (row.key ∷ next_in rows) (row.key ∷ []))
    by_many true others = (here, others)
    by_many false others = (here, tt)

next_rises : (rows : Table) → rise rows ≡ true → IsRisingBy nat_cmp (λ key. key) (next_in rows)
next_rises [] e = tt
next_rises (row ∷ rows) e = by_many row.many (next_rises rows (both (list_all (λ other. nat_lt row.key other.key) rows) (rise rows) e).1)
  where
    parts : (list_all (λ other. nat_lt row.key other.key) rows ≡ true) × (rise rows ≡ true)
    parts = both (list_all (λ other. nat_lt row.key other.key) rows) (rise rows) e

    by_many : (many : Bool) → IsRisingBy nat_cmp (λ key. key) (next_in rows) → IsRisingBy nat_cmp (λ key. key) (cond many (row.key ∷ next_in rows) (row.key ∷ []))
    by_many true others = (below_all row.key rows parts.0, others)
    by_many false others = (tt, tt)

-- of one table the keys are those of its rows
pub keys_are : (rows : Table) → are_rows rows ≡ true → keys_of (rows ∷ []) ≡ next_in rows
keys_are rows e =
    let t = tested rows e in
    ap (λ (keys : List ℕ). put_all nat_cmp (λ key. key) [] keys) (append-nil (next_in rows)) ∙ put_all-rising nat_cmp (λ key. key) nat_cmp_total (next_in rows) (next_rises rows t.rising)

pub next_typed : (rows : Table) → list_all (λ row. has_wire_type row.key) rows ≡ true → are_keys (next_in rows) ≡ true
next_typed [] e = refl
next_typed (row ∷ rows) e = by_many row.many (next_typed rows (both (has_wire_type row.key) _ e).1)
  where
    parts : (has_wire_type row.key ≡ true) × (list_all (λ row. has_wire_type row.key) rows ≡ true)
    parts = both (has_wire_type row.key) (list_all (λ row. has_wire_type row.key) rows) e

    by_many : (many : Bool) → are_keys (next_in rows) ≡ true → are_keys (cond many (row.key ∷ next_in rows) (row.key ∷ [])) ≡ true
    by_many true others = join (has_wire_type row.key) _ parts.0 others
    by_many false others = join (has_wire_type row.key) true parts.0 refl

-- one table is left behind a field where its rows are
left_is : (key : ℕ) (rows left : Table) → rows_behind key rows ≡ Some left → left_at (Some key) (rows ∷ []) ≡ left ∷ []
left_is key rows left e = rw e refl

pub keys_behind : (key : ℕ) (rows left : Table) → are_rows rows ≡ true → rows_behind key rows ≡ Some left → keys_of (left_at (Some key) (rows ∷ [])) ≡ next_in left
keys_behind key rows left e is = ap keys_of (left_is key rows left is) ∙ keys_are left (behind_tested key rows left e is)

-- ---- two rows that may come

abbrev pub nil : Table → Bool
nil [] = true
nil (row ∷ rows) = false

second_once : (a b : Bool) → a ≡ true → not (a && b) ≡ true → b ≡ false
second_once true true one e = absurd cc
second_once true false one e = refl
second_once false b one e = absurd cc

pub two_next : (row next : Row) (beyond : Table) → are_rows (row ∷ next ∷ beyond) ≡ true → row.many ≡ true → next_in (row ∷ next ∷ beyond) ≡ row.key ∷ next.key ∷ []
two_next row next [] e many = rw many (by_many next.many)
  where
    by_many : (b : Bool) → row.key ∷ cond b (next.key ∷ []) (next.key ∷ []) ≡ row.key ∷ next.key ∷ []
    by_many true = refl
    by_many false = refl
two_next row next (third ∷ rows) e many =
    let t = tested (row ∷ next ∷ third ∷ rows) e in
    let once = second_once row.many next.many many (both (not (row.many && next.many)) _ t.few).0 in
    rw (many, once) refl

pub two_end : (row next : Row) (beyond : Table) → are_rows (row ∷ next ∷ beyond) ≡ true → row.many ≡ true → list_all (λ row. row.many) (row ∷ next ∷ beyond) ≡ (next.many && nil beyond)
two_end row next [] e many = rw many refl
two_end row next (third ∷ rows) e many =
    let t = tested (row ∷ next ∷ third ∷ rows) e in
    let once = second_once row.many next.many many (both (not (row.many && next.many)) _ t.few).0 in
    rw (many, once) refl

-- ---- the tables of messages

pub table_tested : (part : Part) (rows : Table) → IsOneTable part → tables part ≡ rows ∷ [] → are_rows rows ≡ true
table_tested part rows is there =
    let all = subst (λ (ts : List Table). list_all are_rows ts ≡ true) there ((tables_fit part).one is) in
    sym (and_all (are_rows rows)) ∙ all

-- ---- what a field holds

fused : (part : Part) (found : Option Row) → option_map (own part) (option_map (λ row. row.content) found) ≡ option_map (λ row. own part row.content) found
fused part None = refl
fused part (Some row) = refl

-- what a field holds, where all tables together have these rows
pub content_is : (part : Part) (rows : Table) (key : ℕ) → flat_map (λ table. table) (tables part) ≡ rows → option_map (own part) (option_map (λ row. row.content) (find (λ row. row.key == key) rows)) ≡ content_of part key
content_is part rows key is =
    fused part (find (λ row. row.key == key) rows) ∙ ap (λ (rs : Table). option_map (λ row. own part row.content) (find (λ row. row.key == key) rs)) (sym is)

pub one_joined : (part : Part) (rows : Table) → tables part ≡ rows ∷ [] → flat_map (λ table. table) (tables part) ≡ rows
one_joined part rows is = ap (λ (ts : List Table). flat_map (λ table. table) ts) is ∙ append-nil rows
