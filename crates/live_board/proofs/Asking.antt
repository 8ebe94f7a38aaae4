-- Questions to what is published.
use Rattle.std.proofs.Common.{◌≡◌, List, sym, ap, ap₂, subst, ◌∙◌}
use Rattle.live_model.specs.declared.objects.Line.{Line}
use Rattle.live_model.specs.declared.queries.Query.{Query}
use Rattle.live_model.specs.declared.rules.Rule.{Rule}
use Rattle.live_model.specs.Maps.{answer, rebuilt}
use Rattle.logbook.specs.Pages.{Book}
use Rattle.overlay_set.specs.Sets.{lines_of, shown}
use Rattle.overlay_set.proofs.Laws.{answers}
use Rattle.published_set.specs.Sets.{PublishedSet, rules_of}
use Rattle.set_events.specs.Asking.{StandsOver}
use Rattle.set_events.proofs.Preparing.{base_store}
use Rattle.board_journal.specs.declared.shown.Shown.{Shown}
use Rattle.board_journal.specs.Views.{IsSound}
use Rattle.live_board.proofs.Desks.{sound_stands}

module _ (book : Book) (rules : List Rule) (base : List Line) (x : Shown) (sound : IsSound book rules base x) where
  -- the published set can be asked
  pub sound_over : StandsOver x.set
  sound_over = record { base = x.set.base; stands = (sound_stands book rules base x sound).0.stands }

  -- and answers as the map made anew of the base and its history
  pub sound_answers : (query : Query) → answer (rules_of x.set) query (shown x.set.state.files) ≡ answer rules query (rebuilt rules base (lines_of x.set.state.history))
  sound_answers query =
      let st = sound_stands book rules base x sound in
      answers (rules_of x.set) x.set.base x.set.state query (base_store x.set.base st.0.good_base) st.0.good_history st.0.stands
      ∙ ap₂ (λ (rs : List Rule) (b : List Line). answer rs query (rebuilt rs b (lines_of x.set.state.history))) st.1 (ap (λ (s : PublishedSet). s.base) sound.set_is)
