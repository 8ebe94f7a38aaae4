-- What is found in maps, sorted once, answers as the maps laid over one another.
use Rattle.std.proofs.Common.{◌≡◌, List, [], ◌∷◌, ◌++◌, Bool, map, refl, sym, ap, ◌∙◌}
use Rattle.std.specs.Prelude.{filter}
use Rattle.std.specs.List.{AllByRecursion}
use Rattle.std.proofs.lemmas.List.Elements.{filter-append}
use Rattle.ordered_lists.proofs.StableSort.{filter_swap}
use Rattle.live_model.specs.declared.queries.Query.{Query}
use Rattle.live_model.specs.declared.records.Rec.{Rec}
use Rattle.live_model.specs.declared.rules.Rule.{Rule}
use Rattle.live_model.specs.Maps.{Overlay, answer}
use Rattle.live_model.specs.Stores.{apply}
use Rattle.map_laws.specs.Laws.{gives_rows, later_records, untouched_by}
use Rattle.map_laws.proofs.InOrder.{alike, keeps, ranked}
use Rattle.map_laws.proofs.MoreLaws.{answers}
use Rattle.map_laws.proofs.OverlayProof.{applied_store, history}
use Rattle.query_merge.specs.Laws.{GatheredLaw, HoldsHits, HistoryAnswerLaw, Layer, gathered}

module _ (rules : List Rule) (query : Query) where
  -- rank by rank, what was found in a map and no later one decides on is what gives rows there
  layer_kept : (u : Rec → Bool) (l : Layer) (z : Rec) → HoldsHits rules query l
      → filter (ranked z) (filter u l.found) ≡ filter (ranked z) (filter (gives_rows rules query) (filter u l.overlay.records))
  layer_kept u l z holds =
      let hit : Rec → Bool = gives_rows rules query in
      filter_swap (ranked z) u l.found ∙ ap (filter u) (sym (keeps l.found z) ∙ ap (filter (ranked z)) holds)
      ∙ sym (filter_swap (ranked z) u (filter hit l.overlay.records)) ∙ ap (filter (ranked z)) (filter_swap u hit l.overlay.records)

  gathered_kept : (ls : List Layer) (z : Rec) → AllByRecursion (HoldsHits rules query) ls
      → filter (ranked z) (gathered ls) ≡ filter (ranked z) (filter (gives_rows rules query) (later_records (map (λ l. l.overlay) ls)))
  gathered_kept [] z all = refl
  gathered_kept (l ∷ ls) z all =
      let hit : Rec → Bool = gives_rows rules query in
      let os : List Overlay = map (λ m. m.overlay) ls in
      let u : Rec → Bool = untouched_by os in
      let a : List Rec = filter u l.overlay.records in
      filter-append (ranked z) (filter u l.found) (gathered ls) ∙ (λ i. layer_kept u l z all.0 i ++ gathered_kept ls z all.1 i)
      ∙ sym (filter-append (ranked z) (filter hit a) (filter hit (later_records os))) ∙ ap (filter (ranked z)) (sym (filter-append hit a (later_records os)))

-- one sort stands for many
pub gathered_law : GatheredLaw
gathered_law = λ rules query base ls ordered all.
    let os : List Overlay = map (λ l. l.overlay) ls in
    ap (answer rules query) (alike (gathered (base ∷ ls)) (filter (gives_rows rules query) (later_records (base.overlay ∷ os))) (λ z. gathered_kept rules query (base ∷ ls) z all))
    ∙ sym (answers rules query base.overlay.records os ordered)

-- the overlays of a history answer as the map made anew
pub history_answer_law : HistoryAnswerLaw
history_answer_law = λ rules query base lines good goods.
    ap (answer rules query) (history rules (apply [] base) lines (applied_store [] base (record { good = tt; rising = tt }) good) goods)
