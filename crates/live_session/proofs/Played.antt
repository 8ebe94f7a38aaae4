-- One line more is played.
use Rattle.std.proofs.Common.{◌≡◌, ℕ, ◌+◌, ◌<◌, ◌≤◌, Bool, true, false, cond, zero, suc, List, [], ◌∷◌, ◌++◌, length, filter, map, drop, get_or, refl, sym, ap, subst, ◌∙◌, append_assoc, arith}
use Rattle.live_model.specs.declared.objects.Line.{Line}
use Rattle.live_model.specs.declared.queries.Query.{Query}
use Rattle.script_text.specs.declared.steps.Step.{Step}
use Rattle.script_text.specs.declared.steps.What.{What}
use Rattle.script_text.specs.declared.steps.What.TheVariants as what
use Rattle.stamp_core.specs.Hours.{CivilHour}
use Rattle.overlay_set.specs.Machines.{Publish, Take, Ask, Drop}
use Rattle.session_text.specs.Plays.{events_from}
use Rattle.session_text.specs.Sessions.{reply_text}
use Rattle.live_core.specs.Running.{Running, after_event, after_events, answer_to}
use Rattle.live_session.specs.Scripts.{publications, publishes, publishing}
use Rattle.live_session.specs.Lines.{IsLinePlayed, lines_text}
use Rattle.live_session.proofs.Going.{after_cons, publication_first, question_after, question_first}

-- a list from an index on begins with the item there
pub drop_at : {A B : Type 0} (f : A → B) (xs : List A) (i : ℕ) (d : A) → i < length xs → drop i (map f xs) ≡ f (get_or xs i d) ∷ drop (i + 1) (map f xs)
drop_at f [] i d lt = absurd (omega arith)
drop_at f (x ∷ xs) zero d lt = refl
drop_at f (x ∷ xs) (suc i) d lt =
    let next : suc (i + 1) ≡ suc i + 1 = omega arith in
    drop_at f xs i d (omega arith) ∙ ap (λ (n : ℕ). f (get_or xs i d) ∷ drop n (map f (x ∷ xs))) next

-- and there is none at its end
pub drop_all : {A B : Type 0} (f : A → B) (xs : List A) → drop (length xs) (map f xs) ≡ []
drop_all f [] = refl
drop_all f (x ∷ xs) = drop_all f xs

-- publications of a line, and of those after it
pub publications_first : (w : What) (rest : List What) → length (publishing (w ∷ rest)) ≡ length (publishing (w ∷ [])) + length (publishing rest)
publications_first w rest = go (publishes w)
  where
    go : (b : Bool) → length (cond b (w ∷ filter publishes rest) (filter publishes rest)) ≡ length (cond b (w ∷ []) []) + length (filter publishes rest)
    go true = omega arith
    go false = omega arith

-- what lines do has as many publications as the lines
pub publications_are : (steps : List Step) → length (publishing (map (λ s. s.what) steps)) ≡ publications steps
publications_are [] = refl
publications_are (s ∷ steps) = go (publishes s.what) (publications_are steps)
  where
    go : (b : Bool) → length (publishing (map (λ s. s.what) steps)) ≡ publications steps
        → length (cond b (s.what ∷ publishing (map (λ s. s.what) steps)) (publishing (map (λ s. s.what) steps))) ≡ length (cond b (s ∷ filter (λ s. publishes s.what) steps) (filter (λ s. publishes s.what) steps))
    go true e = ap suc e
    go false e = e

-- a publication, with the change that comes next
pub published : (before after : Running) (line : ℕ) (stamp : CivilHour) (file : List ℕ) (changes : List (List Line)) (used : ℕ) (change : List Line) (out put : List ℕ)
    → drop used changes ≡ change ∷ drop (used + 1) changes → after ≡ after_event before (Publish 0 stamp line change)
    → put ≡ out ++ reply_text line (answer_to before (Publish 0 stamp line change))
    → IsLinePlayed before line (what.Publish stamp file) changes used out after put (used + 1)
published before after line stamp file changes used change out put next goes puts = record {
  count = refl;
  machine = λ rest.
      ap (λ (cs : List (List Line)). after_events before (events_from line (what.Publish stamp file ∷ rest) cs)) next
      ∙ after_cons before (Publish 0 stamp line change) (events_from (line + 1) rest (drop (used + 1) changes))
      ∙ ap (λ (r : Running). after_events r (events_from (line + 1) rest (drop (used + 1) changes))) (sym goes);
  text = λ rest.
      ap (λ (cs : List (List Line)). out ++ lines_text line before (what.Publish stamp file ∷ rest) cs) next
      ∙ ap (λ (t : List ℕ). out ++ t) (publication_first line before stamp file rest change (drop (used + 1) changes))
      ∙ sym (append_assoc out (reply_text line (answer_to before (Publish 0 stamp line change))) _)
      ∙ ap (λ (t : List ℕ). t ++ lines_text (line + 1) (after_event before (Publish 0 stamp line change)) rest (drop (used + 1) changes)) (sym puts)
      ∙ ap (λ (r : Running). put ++ lines_text (line + 1) r rest (drop (used + 1) changes)) (sym goes);
}

-- a question, which takes no change
pub asked : (before after : Running) (line : ℕ) (query : Query) (changes : List (List Line)) (used : ℕ) (out put : List ℕ) → length before.held ≡ 1
    → after ≡ after_event (after_event (after_event before (Take 0)) (Ask 0 query)) (Drop 0)
    → put ≡ out ++ reply_text line (answer_to (after_event before (Take 0)) (Ask 0 query))
    → IsLinePlayed before line (what.Ask query) changes used out after put used
asked before after line query changes used out put one goes puts = record {
  count = omega arith;
  machine = λ rest.
      question_after before query (events_from (line + 1) rest (drop used changes))
      ∙ ap (λ (r : Running). after_events r (events_from (line + 1) rest (drop used changes))) (sym goes);
  text = λ rest.
      ap (λ (t : List ℕ). out ++ t) (question_first line before query rest (drop used changes) one)
      ∙ sym (append_assoc out (reply_text line (answer_to (after_event before (Take 0)) (Ask 0 query))) _)
      ∙ ap (λ (t : List ℕ). t ++ lines_text (line + 1) (after_event (after_event (after_event before (Take 0)) (Ask 0 query)) (Drop 0)) rest (drop used changes)) (sym puts)
      ∙ ap (λ (r : Running). put ++ lines_text (line + 1) r rest (drop used changes)) (sym goes);
}

-- A publication has a change.

pub has_change : (w : What) (stamp : CivilHour) (file : List ℕ) (used n : ℕ) → w ≡ what.Publish stamp file → used + length (publishing (w ∷ [])) ≤ n → used < n
has_change w stamp file used n is there =
    let one : used + 1 ≤ n = subst (λ (v : What). used + length (publishing (v ∷ [])) ≤ n) is there in
    omega arith

-- the changes from an index on, for a line and for those after it
pub record AreLeft (steps : List Step) (index used n : ℕ) (s : Step) : Type 0 where
  pub whats : drop index (map (λ s. s.what) steps) ≡ s.what ∷ drop (index + 1) (map (λ s. s.what) steps)
  pub here : used + length (publishing (s.what ∷ [])) ≤ n
  pub after : used + length (publishing (s.what ∷ [])) + length (publishing (drop (index + 1) (map (λ s. s.what) steps))) ≡ n

pub are_left : (steps : List Step) (index used n : ℕ) (s : Step) → index < length steps → s ≡ get_or steps index s → used + length (publishing (drop index (map (λ s. s.what) steps))) ≡ n
    → AreLeft steps index used n s
are_left steps index used n s lt is count =
    let rest = drop (index + 1) (map (λ (s : Step). s.what) steps) in
    let whats : drop index (map (λ (s : Step). s.what) steps) ≡ s.what ∷ rest =
    drop_at (λ (s : Step). s.what) steps index s lt ∙ ap (λ (t : Step). t.what ∷ rest) (sym is) in
    let both : length (publishing (drop index (map (λ (s : Step). s.what) steps))) ≡ length (publishing (s.what ∷ [])) + length (publishing rest) =
    ap (λ (ws : List What). length (publishing ws)) whats ∙ publications_first s.what rest in
    record { whats = whats; here = omega (arith, both, count); after = omega (arith, both, count) }
