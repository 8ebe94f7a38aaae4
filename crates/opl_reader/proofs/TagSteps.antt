-- Tags in the order of their keys.
use Rattle.std.proofs.Common.{◌≡◌, List, [], ◌∷◌, Bool, cond, refl, ap, ◌∙◌, reverse, nat_eq}
use Rattle.std.specs.Prelude.{filter}
use Rattle.std.specs.List.{dedup, dedup_from}
use Rattle.std.specs.List.Sorted.{ties, IsSortedBy}
use Rattle.std.specs.Ordering.{nat_cmp, is_lt, is_eq}
use Rattle.std.specs.Cmp.Lexicographic.{slice_cmp, pointwise, texts_ties}
use Rattle.std.proofs.lemmas.Cmp.{nat_list_cmp_total}
use Rattle.live_model.specs.declared.objects.Tag.{Tag}
use Rattle.live_model.specs.Objects.{AreTags}
use Rattle.live_model.specs.FieldValues.{tags_from}
use Rattle.ordered_lists.proofs.PutAll.{rising-cons, put_all-rising, put_all-sorted}
use Rattle.opl_reader.specs.TagOrder.{ComesFirst}

-- a tag in front of tags that rise, which comes before the first of them
pub rising_cons : (t : Tag) (ts : List Tag) → ComesFirst t.key ts → AreTags ts → AreTags (t ∷ ts)
rising_cons t [] first rising = (tt, tt)
rising_cons t (u ∷ us) first rising = rising-cons (slice_cmp nat_cmp) (λ (x : Tag). x.key) nat_list_cmp_total t u us first rising

-- tags that rise are in order
pub tags_from_rising : (ts : List Tag) → AreTags ts → tags_from ts ≡ ts
tags_from_rising ts rising = put_all-rising (slice_cmp nat_cmp) (λ (x : Tag). x.key) nat_list_cmp_total ts rising

abbrev pub comes_before : Tag → Tag → Bool
comes_before t u = is_lt (slice_cmp nat_cmp t.key u.key)

abbrev pub has_same_key : Tag → Tag → Bool
has_same_key t u = pointwise nat_eq t.key u.key

kept_alike : (p q : Tag → Tag → Bool) (k : Tag) (ts : List Tag) → ((t u : Tag) → p t u ≡ q t u) → dedup_from p k ts ≡ dedup_from q k ts
kept_alike p q k [] alike = refl
kept_alike p q k (t ∷ ts) alike =
    ap (λ b. cond b (dedup_from p k ts) (k ∷ dedup_from p t ts)) (alike t k)
    ∙ ap (λ us. cond (q t k) us (k ∷ dedup_from p t ts)) (kept_alike p q k ts alike)
    ∙ ap (λ us. cond (q t k) (dedup_from q k ts) (k ∷ us)) (kept_alike p q t ts alike)

dedup_alike : (p q : Tag → Tag → Bool) (ts : List Tag) → ((t u : Tag) → p t u ≡ q t u) → dedup p ts ≡ dedup q ts
dedup_alike p q [] alike = refl
dedup_alike p q (t ∷ ts) alike = kept_alike p q t ts alike

-- the last pair of each key, by a stable sort of the pairs from the last to the first
pub tags_from_sorted : (ps ts : List Tag) → ((t : Tag) → filter (ties comes_before t) ts ≡ filter (ties comes_before t) (reverse ps)) → IsSortedBy comes_before ts
    → dedup has_same_key ts ≡ tags_from ps
tags_from_sorted ps ts stable sorted =
    dedup_alike has_same_key (λ t u. is_eq (slice_cmp nat_cmp t.key u.key)) ts (λ t u. texts_ties t.key u.key)
    ∙ put_all-sorted (slice_cmp nat_cmp) (λ (x : Tag). x.key) nat_list_cmp_total ps ts stable sorted
