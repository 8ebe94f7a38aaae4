-- Files that are read one after another, and changes that are made of them.
use Rattle.std.proofs.Common.{◌≡◌, ◌++◌, ◌∙◌, ℕ, List, [], ◌∷◌, map, ap, append_assoc, arith, inl, inr, refl, subst, sym}
use Rattle.std.specs.Prelude.{Contains}
use Rattle.std.specs.List.{AllByRecursion}
use Rattle.live_model.specs.declared.levels.Level.TheVariants.{Base, Hour}
use Rattle.live_model.specs.declared.objects.Entity.{Entity}
use Rattle.live_model.specs.declared.objects.Line.{Line}
use Rattle.live_model.specs.declared.records.Rec.{Rec}
use Rattle.live_model.specs.declared.rules.Rule.{Rule}
use Rattle.live_model.specs.Ids.{Id, ordinal}
use Rattle.live_model.specs.Maps.{published}
use Rattle.live_model.specs.Objects.{IsGoodLine}
use Rattle.live_model.specs.OplTexts.{OplText}
use Rattle.live_model.specs.Records.{record_id}
use Rattle.live_model.specs.Rules.{RuleText}
use Rattle.live_model.specs.Stores.{IsStore, apply}
use Rattle.map_laws.proofs.OverlayProof.{applied_store}
use Rattle.change_diff.specs.Overlays.{IsOverlayOf}
use Rattle.stamp_core.specs.Heads.{IsGoodHead}
use Rattle.stamp_core.specs.Hours.{CivilHour}
use Rattle.outside.specs.Files.{FilesState, OnlyReads}
use Rattle.run_model.specs.Endings.{Ending, no_memory}
use Rattle.run_model.specs.Inputs.{Input, in_turn, input, object_text, object_texts, plan_of, rule_table}
use Rattle.run_model.specs.Jobs.{AreTexts, IsPacked, IsStoreOf, Outcome, Parts, hour_head, hour_parts, task_of}
use Rattle.run_model.specs.Reads.{EndsAmong, EndsAt, HasRead, ReadInOrder}
use Rattle.run_model.specs.Requests.{change_map}
use Rattle.run_model.specs.Runs.{WorksTo}
use Rattle.obf_run.specs.Changing.{AreMade, ReadsChange}

-- Files in turn.

-- files that were read, and then others
pub read_after : (files rest : List Input) (texts more : List (List ℕ)) (before between after : FilesState) → ReadInOrder before between (in_turn files) texts
    → ReadInOrder between after (in_turn rest) more → ReadInOrder before after (in_turn (files ++ rest)) (texts ++ more)
read_after [] rest [] more before between after same later = subst (λ (s : FilesState). ReadInOrder s after (in_turn rest) more) same later
read_after [] rest (t ∷ texts) more before between after first later = absurd first
read_after (f ∷ files) rest [] more before between after first later = absurd first
read_after (f ∷ files) rest (t ∷ texts) more before between after first later =
    (first.0, first.1, read_after files rest texts more first.0 between after first.2 later)

-- files that were read, and an end among others
pub ends_after : (files rest : List Input) (texts : List (List ℕ)) (before between after : FilesState) (e : Ending) → ReadInOrder before between (in_turn files) texts
    → EndsAmong (in_turn rest) between after e → EndsAmong (in_turn (files ++ rest)) before after e
ends_after [] rest [] before between after e same later = subst (λ (s : FilesState). EndsAmong (in_turn rest) s after e) same later
ends_after [] rest (t ∷ texts) before between after e first later = absurd first
ends_after (f ∷ files) rest [] before between after e first later = absurd first
ends_after (f ∷ files) rest (t ∷ texts) before between after e first later =
    inr (t, first.0, first.1, ends_after files rest texts first.0 between after e first.2 later)

-- files that were all read, and then out of memory
ends_behind : (files : List Input) (texts : List (List ℕ)) (before after : FilesState) → ReadInOrder before after (in_turn files) texts → EndsAmong (in_turn files) before after no_memory
ends_behind [] [] before after same = (refl, same)
ends_behind [] (t ∷ texts) before after first = absurd first
ends_behind (f ∷ files) [] before after first = absurd first
ends_behind (f ∷ files) (t ∷ texts) before after first = inr (t, first.0, first.1, ends_behind files texts first.0 after first.2)

-- the names of two lists in turn
pub both_names : (names more : List (List ℕ)) → object_texts names ++ object_texts more ≡ object_texts (names ++ more)
both_names [] more = refl
both_names (name ∷ names) more = ap (λ (files : List Input). input name object_text ∷ files) (both_names names more)

-- Texts and changes.

pub one_more_text : (texts : List (List ℕ)) (changes : List (List Line)) (text : List ℕ) (lines : List Line) → AreTexts texts changes → OplText text lines
    → AreTexts (texts ++ text ∷ []) (changes ++ lines ∷ [])
one_more_text [] [] text lines are is = (is, tt)
one_more_text [] (c ∷ changes) text lines are is = absurd are
one_more_text (t ∷ texts) [] text lines are is = absurd are
one_more_text (t ∷ texts) (c ∷ changes) text lines are is = (are.0, one_more_text texts changes text lines are.1 is)

one_more_change : (changes : List (List Line)) (store : List Entity) (lines : List Line) → published store (changes ++ lines ∷ []) ≡ apply (published store changes) lines
one_more_change [] store lines = refl
one_more_change (c ∷ changes) store lines = one_more_change changes (apply store c) lines

-- the lines of a text that was read were made
pub change_read : (before after : FilesState) (name : List ℕ) (lines seen : List Line) (old new : List Entity) → HasRead before after (input name object_text) (λ t. OplText t lines)
    → seen ≡ lines → new ≡ apply old seen → ReadsChange before after name old new
change_read before after name lines seen old new has same is =
    record { text = has.text; read = has.read; lines = lines; spelled = has.holds; same = is ∙ ap (λ (ls : List Line). apply old ls) same }

-- and good lines leave a good store
pub change_good : (lines seen : List Line) (old new : List Entity) → AllByRecursion IsGoodLine lines → seen ≡ lines → new ≡ apply old seen → IsStore old → IsStore new
change_good lines seen old new good same is store =
    subst IsStore (sym (is ∙ ap (λ (ls : List Line). apply old ls) same)) (applied_store old lines store good)

-- no change was made yet
pub none_made : (state : FilesState) (store : List Entity) → IsStore store → AreMade state state [] store store
none_made state store good = record { texts = []; reads = refl; changes = []; spelled = tt; same = refl; good = good }

-- one change more
pub one_more_made : (before between after : FilesState) (names : List (List ℕ)) (name : List ℕ) (start old new : List Entity) → AreMade before between names start old
    → ReadsChange between after name old new → IsStore new → AreMade before after (names ++ name ∷ []) start new
one_more_made before between after names name start old new made change good = record {
  texts = made.texts ++ change.text ∷ [];
  reads = subst (λ (files : List Input). ReadInOrder before after (in_turn files) (made.texts ++ change.text ∷ [])) (both_names names (name ∷ []))
      (read_after (object_texts names) (input name object_text ∷ []) made.texts (change.text ∷ []) before between after made.reads (after, change.read, refl));
  changes = made.changes ++ change.lines ∷ [];
  spelled = one_more_text made.texts made.changes change.text change.lines made.spelled change.spelled;
  same = change.same ∙ ap (λ (s : List Entity). apply s change.lines) made.same ∙ sym (one_more_change made.changes start change.lines);
  good = good;
}

-- after some changes the run ended at one
pub ends_at_change : (before between after : FilesState) (names all later : List (List ℕ)) (name : List ℕ) (others : List (List ℕ)) (start old : List Entity) (e : Ending)
    → AreMade before between names start old → all ≡ names ++ name ∷ others → EndsAt (input name object_text) between after e → OnlyReads between after
    → EndsAmong (in_turn (object_texts (all ++ later))) before after e
ends_at_change before between after names all later name others start old e made are ends only =
    let left : names ++ ((name ∷ others) ++ later) ≡ all ++ later = sym (append_assoc names (name ∷ others) later) ∙ ap (λ (ns : List (List ℕ)). ns ++ later) (sym are) in
    subst (λ (files : List Input). EndsAmong (in_turn files) before after e) (both_names names ((name ∷ others) ++ later) ∙ ap object_texts left)
    (ends_after (object_texts names) (object_texts ((name ∷ others) ++ later)) made.texts before between after e made.reads (inl (ends, only)))

-- The verb.

module _ (start first second third after : FilesState) (rules base : List ℕ) (hour : CivilHour) (output : List ℕ) (earlier : List (List ℕ)) (last : List ℕ)
    (table : List Rule) (from store : List Entity)
    (has_rules : HasRead start first (input rules rule_table) (λ text. RuleText text table)) (has_base : HasRead first second (input base object_text) (λ text. IsStoreOf text from))
    (made : AreMade second third earlier from store) where
  -- the texts of the changes, and of the last, in turn
  all_read : (text : List ℕ) → ReadInOrder third after (in_turn (object_texts (last ∷ []))) (text ∷ []) → ReadInOrder second after (in_turn (object_texts (earlier ++ last ∷ []))) (made.texts ++ text ∷ [])
  all_read text read =
      subst (λ (files : List Input). ReadInOrder second after (in_turn files) (made.texts ++ text ∷ [])) (both_names earlier (last ∷ []))
      (read_after (object_texts earlier) (object_texts (last ∷ [])) made.texts (text ∷ []) second third after made.reads read)

  pub change_works : (lines seen : List Line) (outcome : Outcome) → HasRead third after (input last object_text) (λ text. OplText text lines) → seen ≡ lines
      → IsPacked (hour_parts hour table store seen) outcome → WorksTo start after (task_of (change_map rules base hour output (earlier ++ last ∷ []))) outcome
  change_works lines seen outcome has_last same packed = record {
    texts = has_rules.text ∷ has_base.text ∷ (made.texts ++ has_last.text ∷ []);
    between = after;
    reads = (first, has_rules.read, (second, has_base.read, all_read has_last.text (after, has_last.read, refl)));
    follow = refl;
    outcome = outcome;
    does = record {
      rules = table;
      spelled = has_rules.holds;
      base = from;
      made = has_base.holds;
      earlier = made.changes;
      last = lines;
      changes = one_more_text made.texts made.changes has_last.text lines made.spelled has_last.holds;
      packed = subst (λ (s : List Entity). IsPacked (hour_parts hour table s lines) outcome) made.same (subst (λ (ls : List Line). IsPacked (hour_parts hour table store ls) outcome) same packed);
    };
    holds = (refl, refl);
  }

  -- the last change ended the run
  pub last_ends : (e : Ending) → EndsAt (input last object_text) third after e → OnlyReads third after
      → EndsAmong (plan_of (change_map rules base hour output (earlier ++ last ∷ []))) start after e
  last_ends e ends only =
      let among : EndsAmong (in_turn (object_texts (earlier ++ last ∷ []))) second after e =
      subst (λ (files : List Input). EndsAmong (in_turn files) second after e) (both_names earlier (last ∷ []))
      (ends_after (object_texts earlier) (object_texts (last ∷ [])) made.texts second third after e made.reads (inl (ends, only))) in
      inr (has_rules.text, first, has_rules.read, inr (has_base.text, second, has_base.read, among))

  -- the run ended after the last, out of memory
  pub short_ends : (lines : List Line) → HasRead third after (input last object_text) (λ text. OplText text lines)
      → EndsAmong (plan_of (change_map rules base hour output (earlier ++ last ∷ []))) start after no_memory
  short_ends lines has_last =
      let among : EndsAmong (in_turn (object_texts (earlier ++ last ∷ []))) second after no_memory =
      ends_behind (object_texts (earlier ++ last ∷ [])) (made.texts ++ has_last.text ∷ []) second after (all_read has_last.text (after, has_last.read, refl)) in
      inr (has_rules.text, first, has_rules.read, inr (has_base.text, second, has_base.read, among))

-- The file of an hour.

-- records of marked objects, seen as the same lists
pub marked_records : (marks seen : List Id) (recs shown : List Rec) → seen ≡ marks → shown ≡ recs → AllByRecursion (λ r. Contains marks (record_id r)) recs
    → AllByRecursion (λ r. Contains seen (record_id r)) shown
marked_records marks seen recs shown same also all =
    subst (λ (ms : List Id). AllByRecursion (λ r. Contains ms (record_id r)) shown) (sym same) (subst (λ (rs : List Rec). AllByRecursion (λ r. Contains marks (record_id r)) rs) (sym also) all)

-- the head of one hour is good
pub good_hour : (hour : CivilHour) → IsGoodHead (hour_head hour)
good_hour hour = (omega arith, refl)

-- and is of no base
pub no_base : Hour ≡ Base → ⊥
no_base e = absurd cc

-- the packed file of an overlay is that of the lines that it is of
pub hour_packed : (hour : CivilHour) (rules : List Rule) (store : List Entity) (lines : List Line) (ids : List Id) (recs : List Rec) (outcome : Outcome) → IsOverlayOf rules store lines ids recs
    → IsPacked (record { head = hour_head hour; rules = rules; marks = map ordinal ids; records = recs }) outcome → IsPacked (hour_parts hour rules store lines) outcome
hour_packed hour rules store lines ids recs outcome are packed =
    subst (λ (p : Parts). IsPacked p outcome) (λ i. record { head = hour_head hour; rules = rules; marks = map ordinal (are.marks i); records = are.records i }) packed
