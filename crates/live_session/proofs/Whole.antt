-- The text of a script that was played whole.
use Rattle.std.proofs.Common.{◌≡◌, ℕ, List, [], ◌++◌, filter, map, sym, ap, ap₂, ◌∙◌, append_assoc}
use Rattle.live_model.specs.declared.objects.Line.{Line}
use Rattle.live_model.specs.declared.rules.Rule.{Rule}
use Rattle.script_text.specs.declared.steps.Step.{Step}
use Rattle.overlay_set.specs.Sets.{Entry, Image, State, images_of}
use Rattle.overlay_set.specs.Periods.{shape}
use Rattle.overlay_set.specs.Machines.{Reply, limits_of_a_board, machine_after, opened}
use Rattle.overlay_set.proofs.Settling.{settled_law}
use Rattle.published_set.specs.Sets.{PublishedSet}
use Rattle.session_text.specs.Plays.{answers_a_line, events_of, history_played, line_replies, played_text}
use Rattle.session_text.specs.Sessions.{files_text, history_text, replies_text}
use Rattle.live_core.specs.Running.{Running, after_events, begun, running}
use Rattle.live_core.proofs.Playing.{seen_events_law}
use Rattle.live_session.specs.Folding.{IsSettledOn}
use Rattle.live_session.specs.Lines.{lines_text}

module _ (rules : List Rule) (base : List Line) (steps : List Step) (changes : List (List Line)) where
  -- what the lines are answered
  replied : (m : Running) → m ≡ begun rules base 1 1 → lines_text 1 m (map (λ s. s.what) steps) changes ≡ replies_text 1 (line_replies rules base steps changes)
  replied m begins =
      ap (λ (r : Running). lines_text 1 r (map (λ s. s.what) steps) changes) begins
      ∙ ap (λ (rs : List Reply). replies_text 1 (filter answers_a_line rs)) (seen_events_law rules base (opened rules base 1 1) (events_of steps changes)).1

  -- what runs after them
  played : (m n : Running) → m ≡ begun rules base 1 1 → n ≡ after_events m (events_of steps changes)
      → n ≡ running rules base (machine_after limits_of_a_board rules base (opened rules base 1 1) (events_of steps changes))
  played m n begins goes =
      goes ∙ ap (λ (r : Running). after_events r (events_of steps changes)) begins ∙ (seen_events_law rules base (opened rules base 1 1) (events_of steps changes)).0

  -- the history, and the files in the end
  pub whole : (first lines last : Running) (none replied_text all : List ℕ) (set : PublishedSet) → first ≡ begun rules base 1 1 → none ≡ [] → lines ≡ after_events first (events_of steps changes)
      → replied_text ≡ none ++ lines_text 1 first (map (λ s. s.what) steps) changes → IsSettledOn lines last → set ≡ record { base = last.base; state = last.now }
      → all ≡ replied_text ++ (history_text set.state.history ++ files_text (images_of set.state.files))
      → all ≡ played_text rules base steps changes
  whole first lines last none replied_text all set begins empty goes text settled is puts =
      let runs = played first lines begins goes in
      let history : last.now.history ≡ history_played rules base steps changes = settled.map.history ∙ ap (λ (r : Running). r.now.history) runs in
      let rules_are : last.rules ≡ rules = settled.map.rules ∙ ap (λ (r : Running). r.rules) runs in
      let base_is : last.base ≡ base = settled.map.base ∙ ap (λ (r : Running). r.base) runs in
      let files : images_of last.now.files ≡ shape rules base (history_played rules base steps changes) =
      settled_law last.rules last.base last.now settled.stands settled.settled
      ∙ ap₂ (λ (rs : List Rule) (bs : List Line). shape rs bs last.now.history) rules_are base_is
      ∙ ap (λ (h : List Entry). shape rules base h) history in
      let first_text : replied_text ≡ replies_text 1 (line_replies rules base steps changes) =
      text ∙ ap (λ (t : List ℕ). t ++ lines_text 1 first (map (λ s. s.what) steps) changes) empty ∙ replied first begins in
      let state : set.state ≡ last.now = ap (λ (s : PublishedSet). s.state) is in
      puts
      ∙ ap (λ (s : State). replied_text ++ (history_text s.history ++ files_text (images_of s.files))) state
      ∙ ap (λ (t : List ℕ). t ++ (history_text last.now.history ++ files_text (images_of last.now.files))) first_text
      ∙ ap₂ (λ (h : List Entry) (fs : List Image). replies_text 1 (line_replies rules base steps changes) ++ (history_text h ++ files_text fs)) history files
      ∙ sym (append_assoc (replies_text 1 (line_replies rules base steps changes)) (history_text (history_played rules base steps changes)) (files_text (shape rules base (history_played rules base steps changes))))
