-- A step that only adds to the published journal keeps the rule of the board.
use Rattle.std.proofs.Common.{◌≡◌, ◌≢◌, ℕ, ◌⊎◌, List, sym, refl, subst, ⊎_elim}
use mathlib.Core.Option.{some}
use mathlib.Core.List.{IsPrefix}
use lib.ListN.{get_elem?}
use Rattle.live_model.specs.declared.objects.Line.{Line}
use Rattle.live_model.specs.declared.rules.Rule.{Rule}
use Rattle.left_right.specs.Register.{Admits, TurnsAt, Turns}
use Rattle.atomic_table.proofs.Lists.{at_set, at_snoc}
use Rattle.logbook.specs.Pages.{Book}
use Rattle.overlay_set.proofs.Later.{prefix_chain}
use Rattle.board_journal.specs.declared.view.View.{View}
use Rattle.board_journal.specs.declared.shown.Shown.{Shown}
use Rattle.board_journal.specs.Views.{IsSound, Keeps, Sees, newcomer}
use Rattle.board_journal.proofs.Fronts.{prefix_self}

module _ (book : Book) (rules : List Rule) (base : List Line) where
  -- whoever steps, reader or writer, sees the published journal then
  pub grows : (seat : ℕ) (v : View) (x y : Shown) → IsSound book rules base y → IsPrefix x.seen.log y.seen.log → TurnsAt (Keeps book rules base) seat v x y (λ v x y w. Sees book rules base v y w)
  grows seat v x y sound up views h at =
      let w : View = record { seen = y.seen.log } in (
        w,
        (
          sound,
          λ j u e. ⊎_elim (λ (t : (j ≡ seat) × (w ≡ u)). subst (λ (z : View). IsPrefix z.seen y.seen.log) t.1 (prefix_self y.seen.log))
              (λ (t : (j ≢ seat) × (get_elem? views j ≡ some u)). prefix_chain u.seen x.seen.log y.seen.log (h.1 j u t.1) up)
              (at_set views seat j w u e),
        ),
        (sound, prefix_chain v.seen x.seen.log y.seen.log (h.1 seat v at) up, refl),
      )

  -- a reader that enters sees it
  pub looks : (seat : ℕ) (v : View) → Turns (Keeps book rules base) seat v (λ x. x) (λ v x y w. Sees book rules base v y w)
  looks seat v x views h at = grows seat v x x h.0 (prefix_self x.seen.log) views h at

  -- a new reader may come
  pub admits : Admits (Keeps book rules base) newcomer
  admits x views h = (h.0, λ seat v at. ⊎_elim (h.1 seat v) (λ (e : newcomer ≡ v). subst (λ (z : View). IsPrefix z.seen x.seen.log) e (x.seen.log, refl)) (at_snoc views newcomer v seat at))
