-- Changes of a table of entities are lines applied to the entities.
use Rattle.std.proofs.Common.{◌≡◌, ℕ, List, [], ◌∷◌, ◌++◌, Bool, true, false, cond, eqb, Option, Some, None, refl, sym, ap, ◌∙◌, arith, subst, nat_lt}
use Rattle.std.specs.Prelude.{filter, map, find}
use Rattle.std.specs.Option.{option_map, IfSome}
use Rattle.std.specs.List.{AllByRecursion}
use Rattle.std.specs.Ordering.{nat_cmp, is_eq, is_lt, is_gt}
use Rattle.std.specs.declared.cmp.Ordering.TheVariants.{Less}
use Rattle.std.proofs.lemmas.Bool.Decides.{nat_tests}
use Rattle.std.proofs.lemmas.Bool.{eqb-true}
use Rattle.std.proofs.lemmas.Cmp.{nat_cmp_total}
use Rattle.live_model.specs.declared.objects.Entity.{Entity}
use Rattle.live_model.specs.declared.objects.Line.{Line}
use Rattle.live_model.specs.declared.objects.Line.TheVariants.{Live, Gone}
use Rattle.live_model.specs.Ids.{ordinal}
use Rattle.ordered_lists.specs.Ordered.{below, above, put_by, put_all}
use Rattle.live_model.specs.Objects.{IsGood, IsGoodLine}
use Rattle.live_model.specs.Stores.{key, apply, apply_line, IsRising, IsStore}
use Rattle.ordered_lists.proofs.PutAll.{all_filter, all_append, rising-put_by, rising-without_by}
use Rattle.layer_table.specs.Layers as Layers
use Rattle.entity_store.specs.Lookups.{first_above}
use Rattle.layer_table.specs.Layers.{key_of, value_of, pair_at, value_at, IsMap, set_at, laid, changed_to}
use Rattle.layer_table.proofs.Laying.{over_pair, pair_laid, laid_settled}
use Rattle.entity_store.specs.Changes.{keyed, tagged, entities_of, AreTagged, AreKeyed, line_key, line_value, change, after_changes, changed_or}

pub entities_tagged : (es : List Entity) → entities_of (tagged es) ≡ es
entities_tagged [] = refl
entities_tagged (e ∷ es) = ap (λ xs. e ∷ xs) (entities_tagged es)

pub tagged_entities : (ps : List (ℕ × Entity)) → AreTagged ps → tagged (entities_of ps) ≡ ps
tagged_entities [] all = refl
tagged_entities (p ∷ ps) all = λ i. (sym all.0 i, p.1) ∷ tagged_entities ps all.1 i

tagged_filter : (q : ℕ → Bool) (es : List Entity) → filter (λ (p : ℕ × Entity). q p.0) (tagged es) ≡ tagged (filter (λ e. q (key e)) es)
tagged_filter q [] = refl
tagged_filter q (e ∷ es) =
    elim (q (key e)) as (λ b. cond b ((key e, e) ∷ filter (λ (p : ℕ × Entity). q p.0) (tagged es)) (filter (λ (p : ℕ × Entity). q p.0) (tagged es)) ≡ tagged (cond b (e ∷ filter (λ e. q (key e)) es) (filter (λ e. q (key e)) es))) [
      | true ↦ ap (λ ps. (key e, e) ∷ ps) (tagged_filter q es)
      | false ↦ tagged_filter q es
    ]

tagged_append : (xs ys : List Entity) → tagged (xs ++ ys) ≡ tagged xs ++ tagged ys
tagged_append [] ys = refl
tagged_append (x ∷ xs) ys = ap (λ ps. (key x, x) ∷ ps) (tagged_append xs ys)

tagged_line : (es : List Entity) (line : Line) → set_at nat_cmp (line_key line) (line_value line) (tagged es) ≡ tagged (apply_line es line)
tagged_line es (Live e) =
    (λ i. tagged_filter (λ n. is_lt (nat_cmp n (key e))) es i ++ (key e, e) ∷ tagged_filter (λ n. is_gt (nat_cmp n (key e))) es i)
    ∙ sym (tagged_append (below nat_cmp key (key e) es) (e ∷ above nat_cmp key (key e) es))
tagged_line es (Gone o version) =
    (λ i. tagged_filter (λ n. is_lt (nat_cmp n (ordinal o))) es i ++ tagged_filter (λ n. is_gt (nat_cmp n (ordinal o))) es i)
    ∙ sym (tagged_append (below nat_cmp key (ordinal o) es) (above nat_cmp key (ordinal o) es))

tagged_lines : (es : List Entity) (lines : List Line) → laid nat_cmp (tagged es) (map change lines) ≡ tagged (apply es lines)
tagged_lines es [] = refl
tagged_lines es (line ∷ lines) = ap (λ ps. laid nat_cmp ps (map change lines)) (tagged_line es line) ∙ tagged_lines (apply_line es line) lines

-- lines as changes leave what lines leave
pub applied : (es : List Entity) (lines : List Line) → after_changes es (map change lines) ≡ apply es lines
applied es lines = ap entities_of (tagged_lines es lines) ∙ entities_tagged (apply es lines)

-- entities stay at the places of their ids
pub tagged_laid : (ps : List (ℕ × Entity)) (cs : List (ℕ × Option Entity)) → AreTagged ps → AreKeyed cs → AreTagged (laid nat_cmp ps cs)
tagged_laid ps [] all keyed = all
tagged_laid ps (c ∷ cs) all keyed = tagged_laid (set_at nat_cmp c.0 c.1 ps) cs (one c.1 keyed.0) keyed.1
  where
    P : ℕ × Entity → Type 0
    P p = p.0 ≡ key p.1

    one : (w : Option Entity) → IfSome w (λ e. c.0 ≡ key e) → AreTagged (set_at nat_cmp c.0 w ps)
    one (Some e) k =
        all_append (λ (p : ℕ × Entity). p.0 ≡ key p.1) (below nat_cmp key_of c.0 ps) ((c.0, e) ∷ above nat_cmp key_of c.0 ps) (all_filter (λ (p : ℕ × Entity). p.0 ≡ key p.1) _ ps all) (k, all_filter (λ (p : ℕ × Entity). p.0 ≡ key p.1) _ ps all)
    one None k = all_append (λ (p : ℕ × Entity). p.0 ≡ key p.1) (below nat_cmp key_of c.0 ps) (above nat_cmp key_of c.0 ps) (all_filter (λ (p : ℕ × Entity). p.0 ≡ key p.1) _ ps all) (all_filter (λ (p : ℕ × Entity). p.0 ≡ key p.1) _ ps all)

same_test : (m n : ℕ) → is_eq (nat_cmp m n) ≡ eqb n m
same_test m n = grind (arith, nat_tests)

found_tagged : (k : ℕ) (es : List Entity) → value_at nat_cmp k (tagged es) ≡ find (λ e. eqb (key e) k) es
found_tagged k [] = refl
found_tagged k (e ∷ es) = ap (λ b. option_map (λ (p : ℕ × Entity). p.1) (cond b (Some (key e, e)) (pair_at nat_cmp k (tagged es)))) (same_test k (key e)) ∙ one (eqb (key e) k) (found_tagged k es)
  where
    one : (b : Bool) → value_at nat_cmp k (tagged es) ≡ find (λ e. eqb (key e) k) es → option_map (λ (p : ℕ × Entity). p.1) (cond b (Some (key e, e)) (pair_at nat_cmp k (tagged es))) ≡ cond b (Some e) (find (λ e. eqb (key e) k) es)
    one true again = refl
    one false again = again

-- a look-up in the table is one in the entities
pub found : (k : ℕ) (ps : List (ℕ × Entity)) → AreTagged ps → value_at nat_cmp k ps ≡ find (λ e. eqb (key e) k) (entities_of ps)
found k ps all = ap (value_at nat_cmp k) (sym (tagged_entities ps all)) ∙ found_tagged k (entities_of ps)

all_tagged : (es : List Entity) → AreTagged (tagged es)
all_tagged [] = tt
all_tagged (e ∷ es) = (refl, all_tagged es)

pub found_after : (k : ℕ) (es : List Entity) (cs : List (ℕ × Option Entity)) → IsMap nat_cmp cs → AreKeyed cs → find (λ e. eqb (key e) k) (after_changes es cs) ≡ changed_or (pair_at nat_cmp k cs) (find (λ e. eqb (key e) k) es)
found_after k es cs rising keyed =
    sym (found k (laid nat_cmp (tagged es) cs) (tagged_laid (tagged es) cs (all_tagged es) keyed))
    ∙ ap (option_map (λ (p : ℕ × Entity). p.1)) (pair_laid nat_cmp nat_cmp_total k (tagged es) cs rising)
    ∙ one (pair_at nat_cmp k cs)
  where
    two : (j : ℕ) (w : Option Entity) → option_map (λ (p : ℕ × Entity). p.1) (changed_to j w) ≡ w
    two j None = refl
    two j (Some e) = refl

    one : (c : Option (ℕ × Option Entity)) → option_map (λ (p : ℕ × Entity). p.1) (over_pair nat_cmp nat_cmp_total c (pair_at nat_cmp k (tagged es))) ≡ changed_or c (find (λ e. eqb (key e) k) es)
    one None = found_tagged k es
    one (Some c) = two c.0 c.1

pub lines_keyed : (lines : List Line) → AreKeyed (map change lines)
lines_keyed [] = tt
lines_keyed (Live e ∷ lines) = (refl, lines_keyed lines)
lines_keyed (Gone o version ∷ lines) = (tt, lines_keyed lines)

all_put : (cs ds : List (ℕ × Option Entity)) → AreKeyed cs → AreKeyed ds → AreKeyed (put_all nat_cmp key_of cs ds)
all_put cs [] all each = all
all_put cs (d ∷ ds) all each =
    all_put (put_by nat_cmp key_of d cs) ds
    (all_append (λ (c : ℕ × Option Entity). IfSome c.1 (λ e. c.0 ≡ key e)) (below nat_cmp key_of d.0 cs) (d ∷ above nat_cmp key_of d.0 cs) (all_filter (λ (c : ℕ × Option Entity). IfSome c.1 (λ e. c.0 ≡ key e)) _ cs all)
    (each.0, all_filter (λ (c : ℕ × Option Entity). IfSome c.1 (λ e. c.0 ≡ key e)) _ cs all))
    each.1

-- what lines leave is set at the ordinals of its ids
pub settled_keyed : (lines : List Line) → AreKeyed (put_all nat_cmp key_of [] (map change lines))
settled_keyed lines = all_put [] (map change lines) tt (lines_keyed lines)

tagged_less : (n : ℕ) (es : List Entity) → AllByRecursion (λ e. nat_cmp n (key e) ≡ Less) es → AllByRecursion (λ (p : ℕ × Entity). nat_cmp n p.0 ≡ Less) (tagged es)
tagged_less n [] all = tt
tagged_less n (e ∷ es) all = (all.0, tagged_less n es all.1)

rising_tagged : (es : List Entity) → IsRising es → IsMap nat_cmp (tagged es)
rising_tagged [] rising = tt
rising_tagged (e ∷ es) rising = (tagged_less (key e) es rising.0, rising_tagged es rising.1)

untagged_less : (n : ℕ) (ps : List (ℕ × Entity)) → AreTagged ps → AllByRecursion (λ (p : ℕ × Entity). nat_cmp n p.0 ≡ Less) ps → AllByRecursion (λ e. nat_cmp n (key e) ≡ Less) (entities_of ps)
untagged_less n [] tags all = tt
untagged_less n (p ∷ ps) tags all = (subst (λ k. nat_cmp n k ≡ Less) tags.0 all.0, untagged_less n ps tags.1 all.1)

-- the entities of a table rise
pub rising_entities : (ps : List (ℕ × Entity)) → AreTagged ps → IsMap nat_cmp ps → IsRising (entities_of ps)
rising_entities [] tags rising = tt
rising_entities (p ∷ ps) tags rising =
    (subst (λ k. AllByRecursion (λ e. nat_cmp k (key e) ≡ Less) (entities_of ps)) tags.0 (untagged_less p.0 ps tags.1 rising.0), rising_entities ps tags.1 rising.1)

-- lines may be put in order first, the last of each id in place of all
pub settled : (es : List Entity) (lines : List Line) → IsRising es → after_changes es (put_all nat_cmp key_of [] (map change lines)) ≡ apply es lines
settled es lines rising = ap entities_of (laid_settled nat_cmp nat_cmp_total (tagged es) (map change lines) (rising_tagged es rising)) ∙ applied es lines

-- good lines leave a store
pub store_applied : (es : List Entity) (lines : List Line) → IsStore es → AllByRecursion IsGoodLine lines → IsStore (apply es lines)
store_applied es [] is good = is
store_applied es (Live e ∷ lines) is good =
    store_applied (apply_line es (Live e)) lines
    (record {
      good = all_append IsGood (below nat_cmp key (key e) es) (e ∷ above nat_cmp key (key e) es) (all_filter IsGood _ es is.good) (good.0, all_filter IsGood _ es is.good);
      rising = rising-put_by nat_cmp key nat_cmp_total e es is.rising;
    })
    good.1
store_applied es (Gone o version ∷ lines) is good =
    store_applied (apply_line es (Gone o version)) lines
    (record {
      good = all_append IsGood (below nat_cmp key (ordinal o) es) (above nat_cmp key (ordinal o) es) (all_filter IsGood _ es is.good) (all_filter IsGood _ es is.good);
      rising = rising-without_by nat_cmp key nat_cmp_total (ordinal o) es is.rising;
    })
    good.1

-- what is found passes
pub found_key : (k : ℕ) (e : Entity) (es : List Entity) → Some e ≡ find (λ x. eqb (key x) k) es → key e ≡ k
found_key k e [] found = absurd (cc)
found_key k e (x ∷ xs) found = one (eqb (key x) k) refl found (found_key k e xs)
  where
    one : (b : Bool) → eqb (key x) k ≡ b → Some e ≡ cond b (Some x) (find (λ y. eqb (key y) k) xs) → (Some e ≡ find (λ y. eqb (key y) k) xs → key e ≡ k) → key e ≡ k
    one true t found again = let same : e ≡ x = cc in ap key same ∙ eqb-true (key x) k t
    one false f found again = again found

over_same : (j k : ℕ) → is_gt (nat_cmp j k) ≡ nat_lt k j
over_same j k = grind (arith, nat_tests)

-- the next pair of a table is the next entity
pub next_found : (last : Option ℕ) (ps : List (ℕ × Entity)) → AreTagged ps → option_map value_of (Layers.next_of nat_cmp last ps) ≡ first_above last (entities_of ps)
next_found None [] tags = refl
next_found None (p ∷ ps) tags = refl
next_found (Some n) [] tags = refl
next_found (Some n) (p ∷ ps) tags = ap (λ b. option_map value_of (cond b (Some p) (Layers.next_of nat_cmp (Some n) ps))) (over_same p.0 n ∙ ap (nat_lt n) tags.0) ∙ one (nat_lt n (key p.1)) (next_found (Some n) ps tags.1)
  where
    one : (b : Bool) → option_map value_of (Layers.next_of nat_cmp (Some n) ps) ≡ first_above (Some n) (entities_of ps)
        → option_map value_of (cond b (Some p) (Layers.next_of nat_cmp (Some n) ps)) ≡ cond b (Some p.1) (first_above (Some n) (entities_of ps))
    one true again = refl
    one false again = again
