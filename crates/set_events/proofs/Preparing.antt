-- What is made of a publication before it comes in.
use Rattle.std.proofs.Common.{◌≡◌, ℕ, List, [], ◌∷◌, sym, ap, ap₂, ◌∙◌}
use Rattle.std.specs.List.{AllByRecursion}
use Rattle.live_model.specs.declared.levels.Level.TheVariants.{Hour}
use Rattle.live_model.specs.declared.objects.Entity.{Entity}
use Rattle.live_model.specs.declared.objects.Line.{Line}
use Rattle.live_model.specs.declared.records.Rec.{Rec}
use Rattle.live_model.specs.declared.rules.Rule.{Rule}
use Rattle.live_model.specs.Ids.{Id}
use Rattle.live_model.specs.Maps.{Overlay, overlay, published}
use Rattle.live_model.specs.Objects.{IsGoodLine}
use Rattle.live_model.specs.Stores.{IsStore, apply}
use Rattle.map_laws.proofs.OverlayProof.{applied_store}
use Rattle.stamp_core.specs.declared.head.Head.{Head}
use Rattle.change_image.specs.Hours.{hour_head}
use Rattle.change_diff.specs.Overlays.{IsOverlayOf}
use Rattle.overlay_set.specs.Sets.{Entry, Image, MapFile, images_of, lines_of, run_image}
use Rattle.overlay_set.specs.Standing.{Stands}
use Rattle.overlay_set.specs.Swaps.{common_rules}
use Rattle.overlay_set.specs.SetLaws.{AreGood}
use Rattle.published_set.specs.Sets.{PublishedSet, rules_of}
use Rattle.set_events.specs.Kept.{IsKeptBeside}
use Rattle.set_events.proofs.Publishing.{one_entry}

-- Stores.

-- good base lines make a store
pub base_store : (base : List Line) → AllByRecursion IsGoodLine base → IsStore (apply [] base)
base_store base good = applied_store [] base (record { good = tt; rising = tt }) good

-- and so do they with a history of good lines
pub history_store : (store : List Entity) (history : List Entry) → IsStore store → AreGood history → IsStore (published store (lines_of history))
history_store store [] is good = is
history_store store (e ∷ es) is good = history_store (apply store e.lines) es (applied_store store e.lines is good.0) good.1

-- what is kept beside a set is a store
pub kept_store : (set : PublishedSet) (store : List Entity) (index : List (ℕ × List Id)) → IsKeptBeside set store index → IsStore (published (apply [] set.base) (lines_of set.state.history))
kept_store set store index kept = history_store (apply [] set.base) set.state.history (base_store set.base kept.standing.good_base) kept.standing.good_history

-- Rules.

-- a state that stands over some base lines has the rules that it stands with
pub rules_held : (rules : List Rule) (base : List Line) (set : PublishedSet) → Stands rules base set.state → rules_of set ≡ rules
rules_held rules base set st = ap (λ (fs : List MapFile). common_rules (images_of fs)) st.files

-- Images.

-- the image of a change, with the rules and the lines that it was made of
hour_made : (head : Head) (image : Image) (rules table more : List Rule) (store : List Entity) (lines read : List Line) (marks : List Id) (records : List Rec)
    → image ≡ record { head = head; rules = more; overlay = record { marks = marks; records = records } } → more ≡ rules → IsOverlayOf table store read marks records → table ≡ rules → read ≡ lines
    → image ≡ record { head = head; rules = rules; overlay = overlay rules store lines }
hour_made head image rules table more store lines read marks records is m over t l =
    is
    ∙ ap₂ (λ (rs : List Rule) (o : Overlay). record { head = head; rules = rs; overlay = o }) m
    (ap₂ (λ (ms : List Id) (rs : List Rec). record { marks = ms; records = rs }) over.marks over.records ∙ ap₂ (λ (rs : List Rule) (ls : List Line). overlay rs store ls) t l)

-- it is that of the run of the publication alone, after the history of the set
pub run_made : (set : PublishedSet) (store : List Entity) (index : List (ℕ × List Id)) (entry : Entry) (image : Image) (table more : List Rule) (read : List Line) (marks : List Id) (records : List Rec)
    → IsKeptBeside set store index → AllByRecursion IsGoodLine entry.lines → image ≡ record { head = hour_head entry.stamp; rules = more; overlay = record { marks = marks; records = records } } → more ≡ rules_of set
    → IsOverlayOf table store read marks records → table ≡ rules_of set → read ≡ entry.lines
    → image ≡ run_image (rules_of set) (published (apply [] set.base) (lines_of set.state.history)) Hour (entry ∷ [])
run_made set store index entry image table more read marks records kept good is m over t l =
    hour_made (hour_head entry.stamp) image (rules_of set) table more store entry.lines read marks records is m over t l
    ∙ ap (λ (es : List Entity). record { head = hour_head entry.stamp; rules = rules_of set; overlay = overlay (rules_of set) es entry.lines }) kept.after_history
    ∙ one_entry (rules_of set) (published (apply [] set.base) (lines_of set.state.history)) entry (kept_store set store index kept) good
